-- Configurations from which no endpoint can be created.
use Rattle.std.specs.Prelude.{ℕ, [], ◌∷◌, drop, Bool, false, not, nat_lt, ◌||◌, Option}
use Rattle.macsec_gcm.specs.Octets.{same_octets}
use Rattle.macsec_tag.specs.declared.identifiers.Sci.{Sci}
use Rattle.macsec_suite.specs.FirstThatHolds.{first_that_holds}
use Rattle.macsec_tag.specs.Limits.{max_frame_len}
use Rattle.macsec_commands.specs.declared.form.TagForm.{TagForm}
use Rattle.macsec_commands.specs.declared.form.TagForm.TheVariants as form
use Rattle.macsec_commands.specs.declared.config.EndConfig.{EndConfig}
use Rattle.macsec_commands.specs.declared.fault.NewFault.{NewFault}
use Rattle.macsec_commands.specs.declared.fault.NewFault.TheVariants.{MaxFrame, SciForm}
use Rattle.macsec_commands.specs.Limits.{min_max_frame}

-- the tag form requires another port than the SCI's; in a SecTAG without an SCI, ES means port 0001 and SCB means
-- port 0000 (9.5)
abbrev pub is_unfit : TagForm → Sci → Bool
is_unfit form.Auto sci = false
is_unfit form.Sci sci = false
is_unfit form.Es sci = not (same_octets (drop 6 sci.0) (0 ∷ 1 ∷ []))
is_unfit form.Scb sci = not (same_octets (drop 6 sci.0) (0 ∷ 0 ∷ []))

-- `max_frame` cannot have this value
abbrev pub is_bad_limit : ℕ → Bool
is_bad_limit max_frame = nat_lt max_frame min_max_frame || nat_lt max_frame_len max_frame

abbrev pub config_fault : EndConfig → Option NewFault
config_fault config =
    first_that_holds ((MaxFrame, is_bad_limit config.max_frame) ∷ (SciForm, is_unfit config.form config.sci) ∷ [])
