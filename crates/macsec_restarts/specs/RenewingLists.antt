-- What leaves and what is delivered is listed, of endpoints that renew keys.
use Rattle.std.specs.Prelude.{◌≡◌, []}
use Rattle.macsec_commands.specs.declared.mode.Mode.TheVariants.{Strict}
use Rattle.macsec_reserve.specs.Histories.{newly_sealed}
use Rattle.macsec_reserve.specs.Keeping.{KeepingInput}
use Rattle.macsec_ahead.specs.Ahead.{Ahead, AheadOutput, kept}
use Rattle.macsec_restarts.specs.AheadRuns.{MatchesDeliveriesWith}
use Rattle.macsec_restarts.specs.RenewingRuns.{ahead_renewing_step}
use Rattle.macsec_restarts.specs.Sent.{MatchesUses}
use Rattle.macsec_restarts.specs.StrictLists.{IsFromSaWith}

-- an input adds to the list of deliveries what comes out from a receive SA
abbrev pub DeliversEachListedRenewing : Ahead → KeepingInput → Type 0
DeliversEachListedRenewing a input = MatchesDeliveriesWith a input (ahead_renewing_step a input).0

-- in the mode Strict only SAs deliver at the controlled port, so the list has all that is delivered
abbrev pub DeliversFromSasRenewing : Ahead → KeepingInput → Type 0
DeliversFromSasRenewing a input = a.k.secy.options.mode ≡ Strict → IsFromSaWith (ahead_renewing_step a input).0

-- the uses of the cipher that an input seals, by its output: one for a protected frame that leaves, otherwise none
abbrev pub MatchesUsesWith : Ahead → KeepingInput → AheadOutput → Type 0
MatchesUsesWith a input (kept output) = MatchesUses a.k input output
MatchesUsesWith a input other = newly_sealed a.k input ≡ []

abbrev pub SealsEachFrameRenewing : Ahead → KeepingInput → Type 0
SealsEachFrameRenewing a input = MatchesUsesWith a input (ahead_renewing_step a input).0
