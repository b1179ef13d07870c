-- The list of what was delivered, of endpoints that forget the keys that they retire; and in the mode Strict, of all endpoints
-- that can reserve ahead of receiving.
use Rattle.std.specs.Prelude.{◌≡◌}
use Rattle.macsec_commands.specs.declared.mode.Mode.TheVariants.{Strict}
use Rattle.macsec_reserve.specs.Keeping.{KeepingInput}
use Rattle.macsec_ahead.specs.Ahead.{Ahead, AheadOutput, ahead_step, kept}
use Rattle.macsec_restarts.specs.AheadForgetting.{ahead_forgetting_step}
use Rattle.macsec_restarts.specs.AheadRuns.{MatchesDeliveriesWith}
use Rattle.macsec_restarts.specs.Delivered.{IsFromSa}

-- an input of an endpoint that forgets adds to the list what comes out from a receive SA
abbrev pub DeliversEachListedForgetting : Ahead → KeepingInput → Type 0
DeliversEachListedForgetting a input = MatchesDeliveriesWith a input (ahead_forgetting_step a input).0

-- the output does not deliver a client frame at the controlled port without an SA
abbrev pub IsFromSaWith : AheadOutput → Type 0
IsFromSaWith (kept output) = IsFromSa output
IsFromSaWith other = Unit {0}

-- in the mode Strict only SAs deliver at the controlled port, so the list has all that is delivered
abbrev pub DeliversFromSasWith : Ahead → KeepingInput → Type 0
DeliversFromSasWith a input = a.k.secy.options.mode ≡ Strict → IsFromSaWith (ahead_step a input).0

abbrev pub DeliversFromSasForgetting : Ahead → KeepingInput → Type 0
DeliversFromSasForgetting a input = a.k.secy.options.mode ≡ Strict → IsFromSaWith (ahead_forgetting_step a input).0
