-- A law of delivery: what is known of the SA from which a frame is delivered.
use Rattle.std.specs.Prelude.{◌≡◌, ◌≢◌, ◌≤◌, ◌<◌, ◌+◌, ◌^◌, ℕ, List, length, ◌==◌, true, Option, Some, None}
use Rattle.macsec_tag.specs.Frame.{MpduParts}
use Rattle.macsec_tag.specs.Table.{Reading, tagged, reading}
use Rattle.macsec_pn.specs.Numbers.{recovered_number}
use Rattle.macsec_suite.specs.KeyRows.{the_key}
use Rattle.macsec_suite.specs.Suites.{is_xpn}
use Rattle.macsec_commands.specs.declared.mode.Mode.TheVariants.{Strict}
use Rattle.macsec_rx.specs.declared.RxRow.{RxRow}
use Rattle.macsec_rx.specs.Channels.{rx_row}
use Rattle.macsec_rx.specs.Judge.{in_use, opened_frame, plaintext_of, rows_after, sci_of}
use Rattle.macsec_secy.specs.Kept.{IsAbove, IsKeyOf}
use Rattle.macsec_secy.specs.Reception.{judgement_of}
use Rattle.macsec_secy.specs.Sound.{IsSound}
use Rattle.macsec_secy.specs.State.{State}

-- the SA enabled for a frame with this reading
abbrev pub used_in : State → Reading → Option RxRow
used_in s (tagged p) = in_use s.rx.rows p.tag.an (sci_of s.rx.scis p)
used_in s r = None

-- the SA's key is in the table; its SCI has 8 octets and its SSCI 32 bits; the SCI is not the endpoint's own; with
-- extended packet numbers, the SSCI is not the key's own
pub record IsOfOtherSender (s : State) (row : RxRow) : Type 0 where
  pub key : IsKeyOf s.keys row.key (the_key s.keys row.key)
  pub sci_count : length row.sci.0 ≡ 8
  pub ssci : row.ssci < 2 ^ 32
  pub other_sci : s.config.sci ≢ row.sci
  pub other_ssci : is_xpn (the_key s.keys row.key).suite ≡ true → (the_key s.keys row.key).ssci ≢ row.ssci

-- step 13 decided, and opened the frame with the recovered packet number; the plaintext gives the delivered frame
pub record IsOpened (s : State) (frame : List ℕ) (row : RxRow) (delivered : List ℕ) : Type 0 where
  pub p : MpduParts
  pub reads : reading frame ≡ tagged p
  pub plaintext : List ℕ
  pub thirteen : ((judgement_of s frame).step == 13) ≡ true
  pub number : recovered_number (is_xpn (the_key s.keys row.key).suite) row.lowest p.tag.pn ≡ Some (judgement_of s frame).number
  pub opens : plaintext_of (the_key s.keys row.key) row (judgement_of s frame).number p ≡ Some plaintext
  pub gives : opened_frame (the_key s.keys row.key) p plaintext ≡ delivered

-- the SA is the one enabled for the frame, and the one with its SCI and number; it belongs to another sender; if replay
-- protection is enabled, the packet number is not late; the SA's next packet number exceeds its lowest acceptable one
-- by at most the replay window; after step 13 it is above the frame's; in the mode Strict step 13 opened the frame
pub record IsDeliveredFrom (s : State) (frame : List ℕ) (row : RxRow) (delivered : List ℕ) : Type 0 where
  pub in_use : used_in s (reading frame) ≡ Some row
  pub at_place : rx_row s.rx.rows row.sci row.an ≡ Some row
  pub sender : IsOfOtherSender s row
  pub on_time : s.options.replay ≡ true → row.lowest ≤ (judgement_of s frame).number
  pub window : row.next ≤ row.lowest + s.options.window
  pub accepted : ((judgement_of s frame).step == 13) ≡ true →
      IsAbove (rows_after s.options.window (judgement_of s frame) s.rx.rows) row.sci row.an ((judgement_of s frame).number + 1)
  pub opened : s.options.mode ≡ Strict → IsOpened s frame row delivered

abbrev pub DeliversFrom : State → List ℕ → RxRow → List ℕ → Type 0
DeliversFrom s frame row delivered =
    IsSound s → (judgement_of s frame).row ≡ Some row → (judgement_of s frame).delivered ≡ Some delivered → IsDeliveredFrom s frame row delivered
