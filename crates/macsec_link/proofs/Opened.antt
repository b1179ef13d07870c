-- What step 13 of reception opens is a use of the cipher by the frame, and its tag is right.
use Rattle.{
  std.proofs.Common.is_some,
  macsec_tag.specs.Table.{Reading, reading, tagged},
  macsec_secy.proofs.JudgedBy.{JudgedBy, judged_by, step_13},
  macsec_hash_keys.specs.Forgeries.Opens,
  macsec_link.proofs.{
    Names.{◌≡◌, ℕ, Bool, CipherUse, Judgement, List, None, Option, RxRow, Some, State, ap, cond, false, iv_of},
    Names.{judgement_of, refl, subst, the_key, true, use_to_open_by},
    Within.IsOfFrame,
  },
  macsec_link.specs.Genuine.{use_opened, use_opened_in},
}

by_step : (s : State) (frame : List ℕ) (r : Reading) (j : Judgement) (u : CipherUse) → JudgedBy s frame r j
    → use_opened_in s j j.row r ≡ Some u → Opens u
by_step s frame r j u (step_13 it validates opens late) e =
    let same : _ ≡ u = cc in
    subst Opens same (ap is_some opens)
by_step s frame r j u _ e = absurd (cc)

pub opened_opens : (s : State) (frame : List ℕ) (u : CipherUse) → use_opened s frame ≡ Some u → Opens u
opened_opens s frame u e = by_step s frame _ _ u (judged_by s frame (reading frame)) e

pub opened_of_frame : (s : State) (frame : List ℕ) (u : CipherUse) → use_opened s frame ≡ Some u → IsOfFrame frame u
opened_of_frame s frame u e = by_case (judgement_of s frame) _ _ refl e
  where
    by_test : (b : Bool) (x : CipherUse) → cond b (Some x) None ≡ Some u → x ≡ u
    by_test true x e = cc
    by_test false x e = absurd (cc)

    by_case : (j : Judgement) (o : Option RxRow) (r : Reading) → reading frame ≡ r → use_opened_in s j o r ≡ Some u
        → IsOfFrame frame u
    by_case j (Some row) (tagged p) is e =
        let key = the_key s.keys row.key in
        record {
          key = key;
          iv = iv_of key.suite row.sci row.ssci key.salt j.number;
          parts = p;
          read = is;
          is = by_test _ (use_to_open_by s row j.number p) e;
        }
    by_case j o r is e = absurd (cc)
