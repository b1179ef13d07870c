use Rattle.macsec_aes_lanes.proofs.{Names.{[], ◌<◌, ◌∷◌, ◌≡◌, octet, plus_constant, s_box, ℕ}, WordSets.AreFour}
use Rattle.macsec_aes_lanes.proofs.words.sub_bytes_but_constant.Given as goal

-- the words before this one are done
abbrev pub invariant-loop-l : goal.invariant-loop-l
invariant-loop-l l = record {
  four : AreFour (l.to0 ∷ l.to1 ∷ l.to2 ∷ l.to3 ∷ l.to4 ∷ l.to5 ∷ l.to6 ∷ l.to7 ∷ []);
  done : (m : ℕ) → m < l.l → (k : ℕ) → k < 64
      → octet (l.to0 ∷ l.to1 ∷ l.to2 ∷ l.to3 ∷ l.to4 ∷ l.to5 ∷ l.to6 ∷ l.to7 ∷ []) m k ≡ plus_constant (s_box (octet l.from m k));
}
