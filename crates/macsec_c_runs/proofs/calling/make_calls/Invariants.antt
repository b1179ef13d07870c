use Rattle.{std.proofs.Common.{map, drop}, macsec_c_runs.{proofs.MadeCalls.IsLeft, specs.Calling.call_of}}
use Rattle.macsec_c_runs.proofs.calling.make_calls.Given as goal

-- the calls from this one on are left
abbrev pub invariant-loop-call : goal.invariant-loop-call
invariant-loop-call l =
    IsLeft l.initial.endpoint (map call_of l.calls) l.endpoint (map call_of (drop l.call-index l.calls))
