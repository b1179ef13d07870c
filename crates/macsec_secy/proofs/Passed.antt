-- Step 13 decides a frame for which no earlier step holds.
use Rattle.{
  macsec_commands.specs.declared.mode.Mode.TheVariants.{Disabled, Check},
  macsec_secy.proofs.Names.{◌&&◌, ◌≡◌, ◌≢◌, and_right, at_row, Channels, false, in_use, InstalledKey, is_disabled},
  macsec_secy.proofs.Names.{is_late, judge_number, judge_tagged, List, Mode, MpduParts, not, number_of_frame},
  macsec_secy.proofs.Names.{opened_frame, Passed, plaintext_of, refl, RxOptions, RxRow, sci_of, Some, Strict, the_key},
  macsec_secy.proofs.Names.ℕ,
}

pub is_enabled : (mode : Mode) → mode ≢ Disabled → is_disabled mode ≡ false
is_enabled Disabled not_disabled = absurd (not_disabled refl)
is_enabled Check not_disabled = refl
is_enabled Strict not_disabled = refl

-- none of the steps before 13 holds
pub record Passes (options : RxOptions) (keys : List InstalledKey) (channels : Channels) (p : MpduParts) (row : RxRow) (number : ℕ) (plaintext : List ℕ) : Type 0 where
  pub not_reserved : (p.tag.e && not p.tag.c) ≡ false
  pub used : in_use channels.rows p.tag.an (sci_of channels.scis p) ≡ Some row
  pub numbered : number_of_frame (the_key keys row.key).suite row.lowest p.tag.pn ≡ Some number
  pub in_time : is_late row.lowest number ≡ false
  pub enabled : is_disabled options.mode ≡ false
  pub opens : plaintext_of (the_key keys row.key) row number p ≡ Some plaintext

at_number : (options : RxOptions) (key : InstalledKey) (row : RxRow) (p : MpduParts) (number : ℕ) (plaintext : List ℕ) →
    is_late row.lowest number ≡ false → is_disabled options.mode ≡ false →
    plaintext_of key row number p ≡ Some plaintext → judge_number options key row p (Some number) ≡ at_row row number 13 Passed (Some (opened_frame key p plaintext))
at_number options key row p number plaintext in_time enabled opens =
    rw (and_right options.replay (is_late row.lowest number) in_time, enabled, opens, in_time) refl

pub passed : (options : RxOptions) (keys : List InstalledKey) (channels : Channels) (p : MpduParts) (row : RxRow) (number : ℕ) (plaintext : List ℕ) →
    Passes options keys channels p row number plaintext →
    judge_tagged options keys channels p ≡ at_row row number 13 Passed (Some (opened_frame (the_key keys row.key) p plaintext))
passed options keys channels p row number plaintext passes =
    rw (passes.not_reserved, passes.used, passes.numbered) (at_number options (the_key keys row.key) row p number plaintext passes.in_time passes.enabled passes.opens)
