use Rattle.macsec_aes_lanes.proofs.{
  Names.{◌<◌, ◌∙◌, ◌≡◌, arith, cases_lt, inl, inr, refl},
  Below.below_eight,
  WordSets.{other_word, own_word, still_four},
}
use Rattle.macsec_aes_lanes.proofs.words.sub_bytes_but_constant.Goals as goal

pub loop-l-init : goal.loop-l-init
loop-l-init c = record {
  four = below_eight _ refl refl refl refl refl refl refl refl;
  done = λ m lt k h. absurd (omega arith);
}

pub loop-l-preserved : goal.loop-l-preserved
loop-l-preserved c =
    let w = c.loop-l in
    let l = w.l in
    let q = c.s_box_but_constant-s.result in
    let l4 : l < 4 = omega arith in
    record {
      four = still_four w.to0 w.to1 w.to2 w.to3 w.to4 w.to5 w.to6 w.to7 l q w.invariant.four;
      done = λ m lt k h. elim (cases_lt m l) [
        | inl less ↦ other_word w.to0 w.to1 w.to2 w.to3 w.to4 w.to5 w.to6 w.to7 l q m k less ∙ w.invariant.done m less k h
        | inr more ↦
            let same : m ≡ l = omega arith in
            rw same (own_word w.to0 w.to1 w.to2 w.to3 w.to4 w.to5 w.to6 w.to7 l q k w.invariant.four l4 ∙ c.s_box_but_constant-s.ensures k h)
      ];
    }

pub returns : goal.returns
returns c l l4 k h = c.loop-l.invariant.done l (omega arith) k h
