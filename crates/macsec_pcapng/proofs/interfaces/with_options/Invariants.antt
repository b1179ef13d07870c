use Rattle.{std.proofs.Common.{◌≡◌, ◌-◌}, macsec_pcapng.specs.{Interfaces.options_in, Limits.max_options}}
use Rattle.macsec_pcapng.proofs.interfaces.with_options.Given as goal

-- the options from here on give the same interface as all options from the start
abbrev pub invariant-loop : goal.invariant-loop
invariant-loop l =
    options_in l.order max_options l.octets l.initial.interface ≡ options_in l.order (max_options - l.counter) l.rest l.interface
