-- What a delivery shows about the SA that the frame is delivered from.
use Rattle.macsec_secy.{
  proofs.{
    Names.{◌&&◌, ◌==◌, ◌∙◌, ◌≡◌, ◌≤◌, ap, Bool, false, if◌then◌else◌, is_bad_number, is_disabled, is_late, is_strict},
    Names.{is_xpn, Judgement, judgement_of, List, ltb-false, MpduParts, None, number_of_frame, plaintext_of, Reading},
    Names.{reading, recovered_number, refl, RxRow, Some, State, Strict, subst, Suite, sym, tagged, the_key, true},
    Names.{used_in, ℕ},
    JudgedBy.{IsInTime, JudgedBy, judged_by, step_10, step_12, step_13},
  },
  specs.Delivers.IsOpened,
}

-- the SA is the one in use; the packet number is not late if late frames are dropped; and in the mode Strict the frame
-- was opened
pub record TellsOf (s : State) (frame : List ℕ) (row : RxRow) (delivered : List ℕ) : Type 0 where
  pub in_use : used_in s (reading frame) ≡ Some row
  pub on_time : s.options.replay ≡ true → row.lowest ≤ (judgement_of s frame).number
  pub opened : s.options.mode ≡ Strict → IsOpened s frame row delivered

in_time : (replay : Bool) (lowest number : ℕ) → (replay && is_late lowest number) ≡ false → replay ≡ true → lowest ≤ number
in_time true lowest number not_late on = ltb-false number lowest not_late
in_time false lowest number not_late on = cc

-- the packet number of a frame is recovered
recovered_of : (suite : Suite) (lowest pn number : ℕ) → number_of_frame suite lowest pn ≡ Some number → recovered_number (is_xpn suite) lowest pn ≡ Some number
recovered_of suite lowest pn number is = by_test (is_bad_number suite pn) is
  where
    by_test : (b : Bool) → (if b then None else recovered_number (is_xpn suite) lowest pn) ≡ Some number → recovered_number (is_xpn suite) lowest pn ≡ Some number
    by_test true is' = cc
    by_test false is' = is'

tells_of : (s : State) (frame : List ℕ) (p : MpduParts) (r : RxRow) (number : ℕ) (delivered : List ℕ) → IsInTime s p r number → reading frame ≡ tagged p →
    (judgement_of s frame).number ≡ number → (s.options.mode ≡ Strict → IsOpened s frame r delivered) → (row : RxRow) → Some r ≡ Some row → TellsOf s frame row delivered
tells_of s frame p r number delivered it reads numbered opened row is =
    let one : r ≡ row = cc in
    subst (λ x. TellsOf s frame x delivered) one (record {
      in_use = ap (used_in s) reads ∙ it.used;
      on_time = λ on. subst (λ n. r.lowest ≤ n) (sym numbered) (in_time s.options.replay r.lowest number it.not_dropped on);
      opened = opened;
    })

by_step : (s : State) (frame : List ℕ) (row : RxRow) (delivered : List ℕ) (r : Reading) (j : Judgement) → JudgedBy s frame r j → reading frame ≡ r → judgement_of s frame ≡ j →
    j.row ≡ Some row → j.delivered ≡ Some delivered → TellsOf s frame row delivered
by_step s frame row delivered r j (step_10 {p = p} {row = of} {number = number} it disabled late) reads judged of_row delivers =
    tells_of s frame p of number delivered it reads (ap (λ (j : Judgement). j.number) judged) (λ strict. absurd (let no = sym disabled ∙ ap is_disabled strict in cc)) row of_row
by_step s frame row delivered r j (step_12 {p = p} {row = of} {number = number} it not_strict) reads judged of_row delivers =
    tells_of s frame p of number delivered it reads (ap (λ (j : Judgement). j.number) judged) (λ strict. absurd (let no = sym not_strict ∙ ap is_strict strict in cc)) row of_row
by_step s frame row delivered r j (step_13 {p = p} {row = of} {number = number} {plaintext = plaintext} it validates opens late) reads judged of_row delivers =
    let numbered : (judgement_of s frame).number ≡ number = ap (λ (j : Judgement). j.number) judged in
    tells_of s frame p of number delivered it reads numbered
    (λ strict. record {
      p = p;
      reads = reads;
      plaintext = plaintext;
      thirteen = ap (λ (j : Judgement). j.step == 13) judged;
      number = recovered_of (the_key s.keys of.key).suite of.lowest p.tag.pn number it.recovered ∙ ap Some (sym numbered);
      opens = ap (λ n. plaintext_of (the_key s.keys of.key) of n p) numbered ∙ opens;
      gives = cc;
    }) row of_row
by_step s frame row delivered r j _ reads judged of_row delivers = cc

pub delivery_tells : (s : State) (frame : List ℕ) (row : RxRow) (delivered : List ℕ) → (judgement_of s frame).row ≡ Some row → (judgement_of s frame).delivered ≡ Some delivered →
    TellsOf s frame row delivered
delivery_tells s frame row delivered of_row delivers =
    by_step s frame row delivered (reading frame) (judgement_of s frame) (judged_by s frame (reading frame)) refl refl of_row delivers
