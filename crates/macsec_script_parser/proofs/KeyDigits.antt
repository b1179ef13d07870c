-- The loop over the pairs of digits of a key: what the pairs before one give, and whether all were digits.
use Rattle.std.proofs.{
  Common.{◌≡◌, ℕ, ◌+◌, ◌*◌, ◌/◌, ◌%◌, ◌<◌, ◌≤◌, List, [], ◌∷◌, ◌++◌, length, take, drop, slice_index, slice_set, refl},
  Common.{sym, ap, ◌∙◌, arith, inl, inr, Option, Some, None, Result, Ok, Err, option_map, unwrap_or, append_assoc},
  Common.{append-nil, take_all},
  lemmas.{Bool.cases_eq, List.{drop_all, drop_more, take_more_set}},
}
use Rattle.hex.specs.{
  Hex.{decode_pairs, decode_sized, digit_or_error, hex_digit_value, pair_value, value_at, ◌>>=◌},
  declared.error.FromHexError.{FromHexError, TheVariants.InvalidHexCharacter},
}
use Rattle.macsec_script_parser.specs.{
  Digits.digit_code,
  Numerals.{octets_of, or_hex},
  declared.lines.LineFault.{LineFault, TheVariants.Hex},
}

-- ---- two digits

abbrev code_of : Option ℕ → ℕ
code_of value = unwrap_or (option_map (λ value. value + 256) value) 0

value_below : (c v : ℕ) → hex_digit_value c ≡ Some v → v < 16
value_below c v h = grind (arith)

below_of : (c : ℕ) (value : Option ℕ) → hex_digit_value c ≡ value → (code_of value / 256 < 2) × (code_of value % 256 < 16)
below_of c None h = (omega arith, omega arith)
below_of c (Some v) h = let below = value_below c v h in (omega (arith, below), omega (arith, below))

-- of two octets with these codes: how many are digits, and what the pair gives
abbrev PairGives : ℕ → ℕ → ℕ → ℕ → ℕ → Type 0
PairGives a b i x y =
    (x / 256 + y / 256 ≤ 2)
    × (x / 256 + y / 256 ≡ 2 → pair_value a b i ≡ Ok (x % 256 * 16 + y % 256))
    × (x / 256 + y / 256 < 2 → (e : FromHexError) × (pair_value a b i ≡ Err e))

bad_pair : (a b i x y : ℕ) (e : FromHexError) → x / 256 + y / 256 < 2 → pair_value a b i ≡ Err e → PairGives a b i x y
bad_pair a b i x y e less bad = (omega (arith, less), λ same. absurd (omega (arith, same, less)), λ less. (e, bad))

pair_of : (a b i : ℕ) (u v : Option ℕ) → hex_digit_value a ≡ u → hex_digit_value b ≡ v → PairGives a b i (code_of u) (code_of v)
pair_of a b i None v ha hb =
    let first : value_at a i ≡ Err (InvalidHexCharacter a i) = ap (digit_or_error a i) ha in
    let below = (below_of b v hb).0 in
    bad_pair a b i 0 (code_of v) (InvalidHexCharacter a i) (omega (arith, below)) (rw first refl)
pair_of a b i (Some x) None ha hb =
    let first : value_at a i ≡ Ok x = ap (digit_or_error a i) ha in
    let second : value_at b (i + 1) ≡ Err (InvalidHexCharacter b (i + 1)) = ap (digit_or_error b (i + 1)) hb in
    let below = value_below a x ha in
    bad_pair a b i (x + 256) 0 (InvalidHexCharacter b (i + 1)) (omega (arith, below)) (rw (first, second) refl)
pair_of a b i (Some x) (Some y) ha hb =
    let first : value_at a i ≡ Ok x = ap (digit_or_error a i) ha in
    let second : value_at b (i + 1) ≡ Ok y = ap (digit_or_error b (i + 1)) hb in
    let pair : pair_value a b i ≡ Ok (x * 16 + y) = rw (first, second) refl in
    let high = value_below a x ha in
    let low = value_below b y hb in
    let left : x ≡ (x + 256) % 256 = omega (arith, high) in
    let right : y ≡ (y + 256) % 256 = omega (arith, low) in (
      omega (arith, high, low),
      λ same. pair ∙ ap (λ n. Ok (n * 16 + y)) left ∙ ap (λ n. Ok ((x + 256) % 256 * 16 + n)) right,
      λ less. absurd (omega (arith, less)),
    )

-- ---- decoding pair by pair

-- these octets before the octets of the pairs that are left
abbrev pub prepend : List ℕ → Result (List ℕ) FromHexError → Result (List ℕ) FromHexError
prepend front (Ok rest) = Ok (front ++ rest)
prepend front (Err e) = Err e

abbrev cons_octet : ℕ → Result (List ℕ) FromHexError → Result (List ℕ) FromHexError
cons_octet v r = r >>= (λ octets. Ok (v ∷ octets))

decode_pairs-ok_pair : (i a b v : ℕ) (rest : List ℕ) → pair_value a b i ≡ Ok v →
    decode_pairs i (a ∷ b ∷ rest) ≡ cons_octet v (decode_pairs (i + 2) rest)
unfolding decode_pairs
decode_pairs-ok_pair i a b v rest h = rw h refl

decode_pairs-err_pair : (i a b : ℕ) (e : FromHexError) (rest : List ℕ) → pair_value a b i ≡ Err e → decode_pairs i (a ∷ b ∷ rest) ≡ Err e
unfolding decode_pairs
decode_pairs-err_pair i a b e rest h = rw h refl

prepend-cons_octet : (front : List ℕ) (v : ℕ) (r : Result (List ℕ) FromHexError) → prepend front (cons_octet v r) ≡ prepend (front ++ v ∷ []) r
prepend-cons_octet front v (Ok rest) = ap Ok (sym (append_assoc front (v ∷ []) rest))
prepend-cons_octet front v (Err e) = refl

drop-pair : (s : List ℕ) (i : ℕ) → 2 * i + 1 < length s → drop (2 * i) s ≡ slice_index s (2 * i) ∷ slice_index s (2 * i + 1) ∷ drop (2 * (i + 1)) s
drop-pair s i fits =
    let a = drop_more s (2 * i) 0 (omega arith) in
    let b = drop_more s (2 * i + 1) 0 (omega arith) in
    let two : 2 * i + 1 + 1 ≡ 2 * (i + 1) = omega arith in
    rw (a, b, two) refl

-- what is decoded after the first i pairs
abbrev IsBefore : List ℕ → List ℕ → ℕ → Type 0
IsBefore word octets i = decode_pairs 0 word ≡ prepend (take i octets) (decode_pairs (2 * i) (drop (2 * i) word))

decode_step : (s out : List ℕ) (i v : ℕ) → 2 * i + 1 < length s → i < length out →
    pair_value (slice_index s (2 * i)) (slice_index s (2 * i + 1)) (2 * i) ≡ Ok v → IsBefore s out i → IsBefore s (slice_set out i v) (i + 1)
decode_step s out i v fits room ok inv =
    let rest : List ℕ = drop (2 * (i + 1)) s in
    let two : 2 * i + 2 ≡ 2 * (i + 1) = omega arith in
    let pair = ap (decode_pairs (2 * i)) (drop-pair s i fits) ∙ decode_pairs-ok_pair (2 * i) _ _ v rest ok
    ∙ ap (λ (k : ℕ). cons_octet v (decode_pairs k rest)) two in
    inv ∙ ap (prepend (take i out)) pair ∙ prepend-cons_octet (take i out) v _
    ∙ ap (λ (f : List ℕ). prepend f (decode_pairs (2 * (i + 1)) rest)) (sym (take_more_set out i v room))

decode_err : (s out : List ℕ) (i : ℕ) (e : FromHexError) → 2 * i + 1 < length s →
    pair_value (slice_index s (2 * i)) (slice_index s (2 * i + 1)) (2 * i) ≡ Err e → IsBefore s out i → decode_pairs 0 s ≡ Err e
decode_err s out i e fits bad inv =
    inv ∙ ap (prepend (take i out)) (ap (decode_pairs (2 * i)) (drop-pair s i fits) ∙ decode_pairs-err_pair (2 * i) _ _ e _ bad)

decode_done : (s out : List ℕ) (i : ℕ) → length out ≤ i → length s ≤ 2 * i → IsBefore s out i → decode_pairs 0 s ≡ Ok out
unfolding decode_pairs
decode_done s out i h fits inv =
    inv ∙ ap (prepend (take i out)) (ap (decode_pairs (2 * i)) (drop_all (2 * i) s fits))
    ∙ ap Ok (append-nil (take i out) ∙ take_all i out h)

prepend-nil : (r : Result (List ℕ) FromHexError) → r ≡ prepend [] r
prepend-nil (Ok rest) = refl
prepend-nil (Err e) = refl

-- ---- the loop

-- of the first i pairs, this many octets are digits: all of them, and the pairs give these octets; or fewer, and the word is
-- no hex text
pub record AreRead (word octets : List ℕ) (i digits : ℕ) : Type 0 where
  pub most : digits ≤ 2 * i
  pub all : digits ≡ 2 * i → IsBefore word octets i
  pub fewer : digits < 2 * i → or_hex (decode_pairs 0 word) ≡ Err Hex

pub none_read : (word octets : List ℕ) → AreRead word octets 0 0
none_read word octets = record { most = omega arith; all = λ same. prepend-nil (decode_pairs 0 word); fewer = λ less. absurd (omega (arith, less)) }

more_of : (word octets : List ℕ) (i digits x y : ℕ) → 2 * i + 1 < length word → i < length octets →
    PairGives (slice_index word (2 * i)) (slice_index word (2 * i + 1)) (2 * i) x y → AreRead word octets i digits →
    AreRead word (slice_set octets i (x % 256 * 16 + y % 256)) (i + 1) (digits + (x / 256 + y / 256))
more_of word octets i digits x y fits room pair read = record {
  most = omega (arith, pair.0, read.most);
  all = λ same.
      decode_step word octets i (x % 256 * 16 + y % 256) fits room (pair.1 (omega (arith, same, pair.0, read.most)))
      (read.all (omega (arith, same, pair.0, read.most)));
  fewer = λ less.
      elim (cases_eq digits (2 * i)) [
        | inl same ↦
            let bad = pair.2 (omega (arith, same, less)) in
            ap or_hex (decode_err word octets i bad.0 fits bad.1 (read.all same))
        | inr other ↦ read.fewer (omega (arith, read.most))
      ];
}

pub one_more : (word octets : List ℕ) (i digits : ℕ) → 2 * i + 1 < length word → i < length octets → AreRead word octets i digits →
    AreRead word
    (slice_set octets i (digit_code (slice_index word (2 * i)) % 256 * 16 + digit_code (slice_index word (2 * i + 1)) % 256)) (i + 1)
    (digits + (digit_code (slice_index word (2 * i)) / 256 + digit_code (slice_index word (2 * i + 1)) / 256))
one_more word octets i digits fits room read =
    more_of word octets i digits (digit_code (slice_index word (2 * i))) (digit_code (slice_index word (2 * i + 1))) fits room
    (pair_of (slice_index word (2 * i)) (slice_index word (2 * i + 1)) (2 * i) _ _ refl refl) read

-- ---- the whole word

decode_sized-pairs : (s : List ℕ) (n : ℕ) → length s % 2 ≡ 0 → length s / 2 ≡ n → decode_sized s n ≡ decode_pairs 0 s
decode_sized-pairs s n even half = grind (arith)

pub all_read : (word octets : List ℕ) (n i digits : ℕ) → length word % 2 ≡ 0 → length word / 2 ≡ n → length octets ≡ n → i ≡ n → digits ≡ length word →
    AreRead word octets i digits → Ok octets ≡ octets_of n word
all_read word octets n i digits even half len end same read =
    sym (ap or_hex (decode_sized-pairs word n even half
    ∙ decode_done word octets i (omega (arith, len, end)) (omega (arith, even, half, end)) (read.all (omega (arith, same, even, half, end)))))

pub no_hex : (word octets : List ℕ) (n i digits : ℕ) → length word % 2 ≡ 0 → length word / 2 ≡ n → i ≡ n → (digits ≡ length word → ⊥) →
    AreRead word octets i digits → Err Hex ≡ octets_of n word
no_hex word octets n i digits even half end other read =
    sym (ap or_hex (decode_sized-pairs word n even half) ∙ read.fewer (omega (arith, read.most, even, half, end)))
