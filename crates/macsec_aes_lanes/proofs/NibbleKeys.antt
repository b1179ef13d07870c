-- The round keys for look-ups, by their index.
use Rattle.macsec_aes_lanes.proofs.{
  Names.{[], ◌+◌, ◌<◌, ◌∙◌, ◌≡◌, ◌≢◌, arith, cases_lt, get_or-set_other, get_or-set_same, inl, inr, kept_round_key},
  Names.{length, List, represented, slice_index, slice_index_or, slice_set, state_of, ℕ},
  NibbleRounds.kept_is_block,
  Octets.same_blocks,
}

-- what represents a round key
pub state_of_key : (ws : List (List ℕ)) (r : ℕ) (key made : List ℕ) → key ≡ kept_round_key ws r
    → ((m : ℕ) → m < 16 → represented (slice_index made m) ≡ slice_index key m) → state_of made ≡ kept_round_key ws r
state_of_key ws r key made same e =
    same_blocks (λ m. represented (slice_index made m)) (slice_index key) e ∙ rw same (kept_is_block ws r)

-- one more round key is stored at its index
pub one_more_state : (keys : List (List ℕ)) (x : List ℕ) (key_of : ℕ → List ℕ) (i : ℕ) → i < length keys
    → ((r : ℕ) → r < i → state_of (slice_index_or keys r []) ≡ key_of r) → state_of x ≡ key_of i
    → (r : ℕ) → r < i + 1 → state_of (slice_index_or (slice_set keys i x) r []) ≡ key_of r
one_more_state keys x key_of i inside each new r lt = elim (cases_lt r i) [
  | inl before ↦
      let other : r ≢ i = λ same. absurd (omega arith) in
      rw (get_or-set_other keys i r x [] other) (each r before)
  | inr last ↦
      let at : r ≡ i = omega arith in
      rw (at, get_or-set_same keys i x [] inside) new
]
