-- What is tried of a frame, and that what is opened was tried.
use Rattle.{
  std.proofs.Common.{◌≡◌, ◌≤◌, ℕ, Bool, true, false, cond, List, Option, Some, None, refl, arith},
  macsec_tag.specs.Table.{Reading, reading, tagged},
  macsec_suite.specs.{CipherUses.CipherUse, KeyRows.the_key, Suites.iv_of},
  macsec_rx.specs.{Judge.Judgement, declared.RxRow.RxRow},
  macsec_secy.{
    proofs.JudgedBy.{JudgedBy, judged_by, step_11, step_12, step_13},
    specs.{Reception.judgement_of, State.State},
  },
  macsec_link.{proofs.Within.IsOfFrame, specs.Genuine.{use_opened, use_opened_in}},
  macsec_forgery.specs.WholeRuns.{use_tried, use_tried_in},
}

-- it is the use of the cipher by a tagged frame's parts
pub tried_of_frame : (s : State) (frame : List ℕ) (u : CipherUse) → use_tried s frame ≡ Some u → IsOfFrame frame u
tried_of_frame s frame u e = by_case (judgement_of s frame) _ _ refl e
  where
    by_case : (j : Judgement) (o : Option RxRow) (r : Reading) → reading frame ≡ r → use_tried_in s j o r ≡ Some u
        → IsOfFrame frame u
    by_case j (Some row) (tagged p) is e =
        let key = the_key s.keys row.key in
        record { key = key; iv = iv_of key.suite row.sci row.ssci key.salt j.number; parts = p; read = is; is = cc }
    by_case j o r is e = absurd (cc)

-- each frame whose tag is looked at is tried
pub looked_at : (s : State) (frame : List ℕ) → 11 ≤ (judgement_of s frame).step
    → (u : CipherUse) × (use_tried s frame ≡ Some u)
looked_at s frame step = by_step _ _ (judged_by s frame (reading frame)) step
  where
    by_step : (r : Reading) (j : Judgement) → JudgedBy s frame r j → 11 ≤ j.step
        → (u : CipherUse) × (use_tried_in s j j.row r ≡ Some u)
    by_step r j (step_11 it mode) step = (_, refl)
    by_step r j (step_12 it mode) step = (_, refl)
    by_step r j (step_13 it mode opens late) step = (_, refl)
    by_step r j _ step = absurd (omega arith)

-- what is opened is tried
pub opened_is_tried : (s : State) (frame : List ℕ) (u : CipherUse) → use_opened s frame ≡ Some u
    → use_tried s frame ≡ Some u
opened_is_tried s frame u e = by_case (judgement_of s frame) _ _ e
  where
    by_test : (b : Bool) (x : CipherUse) → cond b (Some x) None ≡ Some u → Some x ≡ Some u
    by_test true x e = e
    by_test false x e = absurd (cc)

    by_case : (j : Judgement) (o : Option RxRow) (r : Reading) → use_opened_in s j o r ≡ Some u
        → use_tried_in s j o r ≡ Some u
    by_case j (Some row) (tagged p) e = by_test _ _ e
    by_case j o r e = absurd (cc)
