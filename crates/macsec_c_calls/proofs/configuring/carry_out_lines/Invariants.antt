use Rattle.{std.proofs.Common.{◌≡◌, drop}, macsec_c_calls.specs.Texts.carried_out}
use Rattle.macsec_c_calls.proofs.configuring.carry_out_lines.Given as goal

-- the remaining commands, from here, give what all commands give
abbrev pub invariant-loop-n : goal.invariant-loop-n
invariant-loop-n l = carried_out l.initial.endpoint l.commands ≡ carried_out l.endpoint (drop l.n-index l.commands)
