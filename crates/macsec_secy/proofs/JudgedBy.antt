-- The step of reception that decides on a frame, with the judgement and the conditions of the step that proofs need.
use Rattle.{
  macsec_rx.specs.Judge.{judge_opened, judge_row, judge_validated},
  macsec_secy.proofs.Names.{◌&&◌, ◌||◌, ◌∙◌, ◌≡◌, at_row, bad, BadTag, bare_frame, Bool, Delayed, false, if◌then◌else◌},
  macsec_secy.proofs.Names.{Invalid, is_disabled, is_late, is_strict, judge_number, judge_reading, Judgement, Late},
  macsec_secy.proofs.Names.{List, MpduParts, None, NoSa, NoSaError, not, NoTag, NotValid, number_of_frame},
  macsec_secy.proofs.Names.{opened_frame, Option, Passed, plaintext_of, Reading, refl, Reserved, rx_options, RxRow},
  macsec_secy.proofs.Names.{Some, State, TagFault, tagged, the_key, true, Unchecked, Untagged, untagged, used_in},
  macsec_secy.proofs.Names.{without_row, ℕ},
}

-- an SA is enabled for the frame; its packet number is recovered, and the frame is not dropped as late
pub record IsInTime (s : State) (p : MpduParts) (row : RxRow) (number : ℕ) : Type 0 where
  pub used : used_in s (tagged p) ≡ Some row
  pub recovered : number_of_frame (the_key s.keys row.key).suite row.lowest p.tag.pn ≡ Some number
  pub not_dropped : (s.options.replay && is_late row.lowest number) ≡ false

-- the steps as they are numbered in macsec_rx specs/Judge.antt
pub data JudgedBy (s : State) (frame : List ℕ) : Reading → Judgement → Type 0 where
  step_1 : JudgedBy s frame untagged (without_row 1 NoTag None)
  step_2 : JudgedBy s frame untagged (without_row 2 Untagged (Some frame))
  step_3 : {fault : TagFault} → JudgedBy s frame (bad fault) (without_row 3 BadTag None)
  step_4 : {p : MpduParts} → JudgedBy s frame (tagged p) (without_row 4 Reserved None)
  step_5 : {p : MpduParts} → JudgedBy s frame (tagged p) (without_row 5 NoSaError None)
  step_6 : {p : MpduParts} → JudgedBy s frame (tagged p) (without_row 6 NoSa (Some (bare_frame p)))
  step_7 : {p : MpduParts} {sa : RxRow} → used_in s (tagged p) ≡ Some sa → JudgedBy s frame (tagged p) (at_row sa 0 7 BadTag None)
  step_8 : {p : MpduParts} {row : RxRow} {number : ℕ} → used_in s (tagged p) ≡ Some row → JudgedBy s frame (tagged p) (at_row row number 8 Late None)
  step_9 : {p : MpduParts} {row : RxRow} {number : ℕ} → IsInTime s p row number → is_disabled s.options.mode ≡ true →
      JudgedBy s frame (tagged p) (at_row row number 9 NotValid None)
  step_10 : {p : MpduParts} {row : RxRow} {number : ℕ} → IsInTime s p row number → is_disabled s.options.mode ≡ true → (late : Bool) →
      JudgedBy s frame (tagged p) (at_row row number 10 (if late then Delayed else Unchecked) (Some (bare_frame p)))
  step_11 : {p : MpduParts} {row : RxRow} {number : ℕ} → IsInTime s p row number → is_disabled s.options.mode ≡ false →
      JudgedBy s frame (tagged p) (at_row row number 11 NotValid None)
  step_12 : {p : MpduParts} {row : RxRow} {number : ℕ} → IsInTime s p row number → is_strict s.options.mode ≡ false →
      JudgedBy s frame (tagged p) (at_row row number 12 Invalid (Some (bare_frame p)))
  step_13 : {p : MpduParts} {row : RxRow} {number : ℕ} {plaintext : List ℕ} → IsInTime s p row number → is_disabled s.options.mode ≡ false →
      plaintext_of (the_key s.keys row.key) row number p ≡ Some plaintext → (late : Bool) →
      JudgedBy s frame (tagged p) (at_row row number 13 (if late then Delayed else Passed) (Some (opened_frame (the_key s.keys row.key) p plaintext)))

module _ (s : State) (frame : List ℕ) (p : MpduParts) where
  by_cipher : (row : RxRow) (number : ℕ) → IsInTime s p row number → is_disabled s.options.mode ≡ false → (o : Option (List ℕ)) →
      plaintext_of (the_key s.keys row.key) row number p ≡ o → JudgedBy s frame (tagged p) (judge_opened (rx_options s) (the_key s.keys row.key) row number p o)
  by_cipher row number it validates (Some plaintext) opens = step_13 it validates opens (is_late row.lowest number)
  by_cipher row number it validates None opens = by_tests p.tag.c (is_strict s.options.mode) refl
    where
      by_tests : (c strict : Bool) → is_strict s.options.mode ≡ strict →
          JudgedBy s frame (tagged p) (if c || strict then at_row row number 11 NotValid None else at_row row number 12 Invalid (Some (bare_frame p)))
      by_tests true strict is = step_11 it validates
      by_tests false true is = step_11 it validates
      by_tests false false is = step_12 it is

  by_number : (row : RxRow) → used_in s (tagged p) ≡ Some row → (o : Option ℕ) → number_of_frame (the_key s.keys row.key).suite row.lowest p.tag.pn ≡ o →
      JudgedBy s frame (tagged p) (judge_number (rx_options s) (the_key s.keys row.key) row p o)
  by_number row used None is = step_7 used
  by_number row used (Some number) is = by_tests (s.options.replay && is_late row.lowest number) refl (is_disabled s.options.mode) refl p.tag.c
    where
      by_tests : (dropped : Bool) → (s.options.replay && is_late row.lowest number) ≡ dropped → (disabled : Bool) → is_disabled s.options.mode ≡ disabled → (c : Bool) →
          JudgedBy s frame (tagged p) (
          if dropped then at_row row number 8 Late None
          else if disabled && c then at_row row number 9 NotValid None
          else if disabled
          then at_row row number 10 (if is_late row.lowest number then Delayed else Unchecked) (Some (bare_frame p))
          else judge_validated (rx_options s) (the_key s.keys row.key) row number p)
      by_tests true late disabled mode c = step_8 used
      by_tests false late true mode true = step_9 (record { used = used; recovered = is; not_dropped = late }) mode
      by_tests false late true mode false = step_10 (record { used = used; recovered = is; not_dropped = late }) mode (is_late row.lowest number)
      by_tests false late false mode c = by_cipher row number (record { used = used; recovered = is; not_dropped = late }) mode _ refl

  by_row : (o : Option RxRow) → used_in s (tagged p) ≡ o → JudgedBy s frame (tagged p) (judge_row (rx_options s) s.keys p o)
  by_row (Some row) used = by_number row used _ refl
  by_row None used = by_test (is_strict s.options.mode || p.tag.c)
    where
      by_test : (b : Bool) → JudgedBy s frame (tagged p) (if b then without_row 5 NoSaError None else without_row 6 NoSa (Some (bare_frame p)))
      by_test true = step_5
      by_test false = step_6

  by_bits : (reserved : Bool) → JudgedBy s frame (tagged p) (if reserved then without_row 4 Reserved None else judge_row (rx_options s) s.keys p (used_in s (tagged p)))
  by_bits true = step_4
  by_bits false = by_row _ refl

pub judged_by : (s : State) (frame : List ℕ) (r : Reading) → JudgedBy s frame r (judge_reading s frame r)
judged_by s frame untagged = by_test (is_strict s.options.mode)
  where
    by_test : (strict : Bool) → JudgedBy s frame untagged (if strict then without_row 1 NoTag None else without_row 2 Untagged (Some frame))
    by_test true = step_1
    by_test false = step_2
judged_by s frame (bad fault) = step_3
judged_by s frame (tagged p) = by_bits s frame p (p.tag.e && not p.tag.c)

-- the SA of the judgement, if any, is the one that is enabled for the frame
pub judged_row : (s : State) (frame : List ℕ) (r : Reading) (j : Judgement) (row : RxRow) → JudgedBy s frame r j → j.row ≡ Some row → used_in s r ≡ Some row
judged_row s frame r j row (step_7 used) is = used ∙ is
judged_row s frame r j row (step_8 used) is = used ∙ is
judged_row s frame r j row (step_9 it mode) is = it.used ∙ is
judged_row s frame r j row (step_10 it mode late) is = it.used ∙ is
judged_row s frame r j row (step_11 it mode) is = it.used ∙ is
judged_row s frame r j row (step_12 it mode) is = it.used ∙ is
judged_row s frame r j row (step_13 it mode opens late) is = it.used ∙ is
judged_row s frame r j row _ is = cc
