-- Two messages, of one octet and of two, which have the same hash under two keys.
use Rattle.{
  std.proofs.{
    Common.{◌≡◌, ◌≢◌, ℕ, ◌+◌, ◌^◌, ◌<◌, List, [], ◌∷◌, length, replicate, bit_xor, AllPairs, Contains, refl},
    Common.{ap, ◌∙◌, arith},
    lemmas.List.Elements.{All-cons, All-contains, All-from_recursion, All-nil},
  },
  std.specs.Int.{w128, to_be_bytes, Bits.xor_self},
  macsec_field128.specs.Field.{block_product, sum_below, times_x},
  macsec_ghash.specs.Ghash.{block_of, blocks_of, ghash, pad},
  macsec_gcm.specs.{Gcm.length_block, Octets.sum_with_stream},
  macsec_suite.specs.CipherUses.CipherUse,
  macsec_hash_keys.proofs.Forgeries.{keys_from, masks_make_right},
  macsec_hash_keys.specs.{
    Collisions.{BoundIsReached, tag_hash},
    Counting.masks_for,
    EachKey.{ForgeryBoundIsReached},
    Forgeries.{HasForgery, IsRight, IsWithin},
    Polynomials.AreKeys,
    Tags.tag_with,
  },
}

-- the quotient of the difference of the blocks of lengths and of the second octet
other_key : ℕ
other_key = 2 ^ 83 + 2 ^ 82

two_keys : AreKeys (0 ∷ other_key ∷ [])
unfolding other_key
two_keys = keys_from _ (omega arith, (omega arith, tt)) ((omega arith, tt), (tt, tt))

one : List ℕ
one = 1 ∷ []

two : List ℕ
two = 1 ∷ 1 ∷ []

-- both messages have this hash
AreSame : ℕ → Type 0
AreSame h = tag_hash h two [] ≡ tag_hash h one []

same_for_zero : AreSame 0
unfolding AreSame one two ghash pad blocks_of block_of length_block block_product sum_below times_x
same_for_zero = refl

same_for_other : AreSame other_key
unfolding AreSame one two other_key ghash pad blocks_of block_of length_block block_product sum_below times_x
same_for_other = refl

no_difference : (h : ℕ) → AreSame h → bit_xor (tag_hash h (1 ∷ []) []) (tag_hash h (1 ∷ 1 ∷ []) []) ≡ 0
unfolding AreSame one two
no_difference h same = ap (bit_xor (tag_hash h (1 ∷ []) [])) same ∙ xor_self (tag_hash h (1 ∷ []) [])

pub bound_is_reached : BoundIsReached
bound_is_reached = (
  0 ∷ other_key ∷ [],
  two_keys,
  refl,
  All-from_recursion (λ h. bit_xor (tag_hash h (1 ∷ []) []) (tag_hash h (1 ∷ 1 ∷ []) []) ≡ 0) (0 ∷ other_key ∷ [])
      (no_difference 0 same_for_zero, (no_difference other_key same_for_other, tt)),
)

-- ---- a sealed message, and a try with its IV and tag

abbrev use_of : List ℕ → List ℕ → CipherUse
use_of key aad = record { key = key; iv = []; aad = aad; ciphertext = []; tag = replicate 16 0 }

right_too : (h : ℕ) (masks : List ℕ → List ℕ) (key : List ℕ) → AreSame h → IsRight h masks (use_of key one)
    → IsRight h masks (use_of key two)
unfolding AreSame tag_with
right_too h masks key same right = ap (λ g. sum_with_stream (to_be_bytes w128 g) (masks [])) same ∙ right

others : one ≢ two
unfolding one two
others e = cc

not_sealed : (key : List ℕ) → Contains (use_of key one ∷ []) (use_of key two) → ⊥
not_sealed key there =
    All-contains (λ s. s.aad ≢ two) (use_of key one ∷ []) (use_of key two)
    (All-cons (λ s. s.aad ≢ two) (use_of key one) [] others (All-nil (λ s. s.aad ≢ two))) there refl

has_forgery : (given : List ℕ → List ℕ) (key : List ℕ) (h : ℕ) → AreSame h
    → HasForgery given (use_of key one ∷ []) (use_of key two ∷ []) h
has_forgery given key h same =
    let seals : List CipherUse = use_of key one ∷ [] in
    let apart : AllPairs (λ s r. s.iv ≢ r.iv) seals = λ i j default before within. absurd (omega arith) in
    let right = masks_make_right given seals h apart
    (All-cons (λ s. length s.tag ≡ 16) (use_of key one) [] refl (All-nil (λ s. length s.tag ≡ 16))) in
    record {
      masks = masks_for h given seals;
      unused = right.0;
      sealed = right.1;
      forged = (
        0,
        use_of key two,
        omega arith,
        refl,
        (right_too h (masks_for h given seals) key same (right.1 0 (use_of key one) (omega arith)), not_sealed key),
      );
    }

one_within : (key : List ℕ) → IsWithin 2 (use_of key one)
unfolding one
one_within key = record {
  message = record {
    aad_octets = All-from_recursion (λ x. x < 256) (1 ∷ []) (omega arith, tt);
    text_octets = All-nil (λ x. x < 256);
    aad_fits = omega arith;
    text_fits = omega arith;
  };
  has_aad = omega arith;
  blocks = omega arith;
}

two_within : (key : List ℕ) → IsWithin 2 (use_of key two)
unfolding two
two_within key = record {
  message = record {
    aad_octets = All-from_recursion (λ x. x < 256) (1 ∷ 1 ∷ []) (omega arith, (omega arith, tt));
    text_octets = All-nil (λ x. x < 256);
    aad_fits = omega arith;
    text_fits = omega arith;
  };
  has_aad = omega arith;
  blocks = omega arith;
}

pub forgery_bound_is_reached : ForgeryBoundIsReached
forgery_bound_is_reached given key =
    let seal = use_of key one in
    let try = use_of key two in
    record {
      n = 2;
      of_blocks = refl;
      seals = seal ∷ [];
      tries = try ∷ [];
      of_tries = refl;
      seals_key = All-cons (λ u. u.key ≡ key) seal [] refl (All-nil (λ u. u.key ≡ key));
      seals_within = All-cons (IsWithin 2) seal [] (one_within key) (All-nil (IsWithin 2));
      tries_key = All-cons (λ u. u.key ≡ key) try [] refl (All-nil (λ u. u.key ≡ key));
      tries_within = All-cons (IsWithin 2) try [] (two_within key) (All-nil (IsWithin 2));
      hash_keys = 0 ∷ other_key ∷ [];
      keys = two_keys;
      each = All-from_recursion (HasForgery given (seal ∷ []) (try ∷ [])) (0 ∷ other_key ∷ [])
          (has_forgery given key 0 same_for_zero, (has_forgery given key other_key same_for_other, tt));
      reached = refl;
    }
