-- What counts as sealed under a key: each use of the cipher that was sealed with its bytes, and no other.
use Rattle.std.specs.Prelude.{◌≡◌, ◌↔◌, ℕ, List, Contains}
use Rattle.macsec_suite.specs.CipherUses.{CipherUse}
use Rattle.macsec_commands.specs.declared.config.EndConfig.{EndConfig}
use Rattle.macsec_commands.specs.declared.event.Event.{Event}
use Rattle.macsec_link.specs.Trace.{trace_of}
use Rattle.macsec_secrecy.specs.Runs.{sealed_under}

abbrev pub SealedUnderHasAll : Type 0
SealedUnderHasAll = (key : List ℕ) (a b : EndConfig) (events : List Event) (u : CipherUse)
    → Contains (sealed_under key a b events) u ↔ (Contains (trace_of a b events).seals u × (u.key ≡ key))
