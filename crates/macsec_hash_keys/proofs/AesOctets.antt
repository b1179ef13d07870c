-- AES gives octets, if the key is octets.
use Rattle.{
  std.proofs.Common.{◌≡◌, ◌⊎◌, inl, inr, ℕ, zero, suc, ◌+◌, ◌-◌, ◌*◌, ◌/◌, ◌%◌, ◌^◌, ◌<◌, ◌&&◌, ◌==◌, List, [], length},
  std.proofs.Common.{map, take, drop, slice_index, bit_xor, All, sym, subst, arith},
  std.proofs.lemmas.{
    Bool.{cases_lt, cond_both},
    List.{get_or_past, Elements.{All-append, All-from_recursion, All-cons, All-drop, All-map, All-nil, All-take}},
    Nat.{pow_below, xor_lt},
  },
  std.specs.{Fn.iterate, List.range_with_len},
  macsec_aes.proofs.Tables.double_is,
  macsec_aes.specs.{
    Aes.{add_round_key, added_word, aes, after_rounds, key_expansion, key_words, rot_word, round_constant, round_key},
    Aes.{rounds_of, schedule_of, shift_rows, sub_bytes, sub_word, sum_of_words, table, word},
    Field.{affine_transformation, byte_product, s_box, sum_below},
  },
  macsec_tag.specs.Laws.AreOctets,
  macsec_hash_keys.proofs.Sums.octet_at,
}

bit_cases : (b : ℕ) → b < 2 → (b ≡ 0) ⊎ (b ≡ 1)
bit_cases b lt = grind arith

-- ---- the S-box

sum_lt : (n : ℕ) (f : ℕ → ℕ) → ((i : ℕ) → i < n → f i < 2 ^ 8) → sum_below n f < 2 ^ 8
unfolding sum_below
sum_lt zero f small = omega arith
sum_lt (suc n) f small = xor_lt 8 (sum_below n f) (f n) (sum_lt n f (λ i lt. small i (omega arith)))
    (small n (omega arith))

bit_times_lt : (b p : ℕ) → b < 2 → p < 2 ^ 8 → b * p < 2 ^ 8
bit_times_lt b p lb lp = elim (bit_cases b lb) [ inl e ↦ rw e (omega arith) | inr e ↦ rw e (omega arith) ]

s_box_lt : (a : ℕ) → s_box a < 256
unfolding s_box affine_transformation
s_box_lt a = sum_lt 8 _ (λ i lt. bit_times_lt _ _ (omega arith) (pow_below i 8 lt))

-- ---- states and words of octets

table_octets : (f : ℕ → ℕ → ℕ) → ((r c : ℕ) → f r c < 256) → AreOctets (table f)
table_octets f small = All-map (λ x. x < 256) (λ k. f (k % 4) (k / 4)) (range_with_len 0 16) (λ k default lt. small _ _)

row_octets : (f : ℕ → ℕ) → ((r : ℕ) → f r < 256) → AreOctets (map f (range_with_len 0 4))
row_octets f small = All-map (λ x. x < 256) f (range_with_len 0 4) (λ k default lt. small _)

sum_octets : (v w : List ℕ) → AreOctets v → AreOctets w → AreOctets (sum_of_words v w)
unfolding sum_of_words
sum_octets v w sv sw = row_octets (λ r. bit_xor (slice_index v r) (slice_index w r))
    (λ r. xor_lt 8 (slice_index v r) (slice_index w r) (octet_at v r sv) (octet_at w r sw))

sub_word_octets : (w : List ℕ) → AreOctets (sub_word w)
unfolding sub_word
sub_word_octets w = row_octets (λ r. s_box (slice_index w r)) (λ r. s_box_lt _)

-- ---- the key schedule

double_lt : (a : ℕ) → a < 256 → byte_product 2 a < 256
double_lt a la = subst (λ n. n < 256) (double_is a la)
    (xor_lt 8 (a * 2 % 256) (a / 2 ^ 7 * 27) (omega arith) (omega arith))

doubles_lt : (n a : ℕ) → a < 256 → iterate (byte_product 2) n a < 256
doubles_lt zero a la = la
doubles_lt (suc n) a la = doubles_lt n _ (double_lt a la)

constant_octets : (j : ℕ) → AreOctets (round_constant j)
constant_octets j =
    All-from_recursion (λ x. x < 256) (round_constant j)
    (doubles_lt (j - 1) 1 (omega arith), (omega arith, (omega arith, (omega arith, tt))))

added_octets : (n i : ℕ) (last : List ℕ) → AreOctets last → AreOctets (added_word n i last)
unfolding added_word
added_octets n i last small =
    cond_both (i % n == 0) _ _ AreOctets
    (λ e. sum_octets _ (round_constant (i / n)) (sub_word_octets (rot_word last)) (constant_octets (i / n)))
    (λ e. cond_both ((n == 8) && (i % 8 == 4)) _ _ AreOctets (λ f. sub_word_octets last) (λ f. small))

word_octets : (ws : List (List ℕ)) (i : ℕ) → All AreOctets ws → AreOctets (word ws i)
word_octets ws i all = elim (cases_lt i (length ws)) [
  | inl within ↦ all i [] within
  | inr past ↦ subst AreOctets (sym (get_or_past ws i [] past)) (All-nil (λ x. x < 256))
]

expansion_octets : (key : List ℕ) (m : ℕ) → AreOctets key → All AreOctets (key_expansion key m)
unfolding key_expansion key_words
expansion_octets key zero small =
    All-map AreOctets (λ i. take 4 (drop (4 * i) key)) (range_with_len 0 (length key / 4))
    (λ k default lt. All-take (λ x. x < 256) 4 _ (All-drop (λ x. x < 256) _ key small))
expansion_octets key (suc m) small =
    let n = length key / 4 in
    let ws = key_expansion key m in
    let before = expansion_octets key m small in
    All-append AreOctets ws _ before
    (All-cons AreOctets _ []
    (sum_octets (word ws m) (added_word n (n + m) (word ws (n + m - 1))) (word_octets ws m before)
    (added_octets n (n + m) (word ws (n + m - 1)) (word_octets ws (n + m - 1) before)))
    (All-nil AreOctets))

round_key_octets : (ws : List (List ℕ)) (r : ℕ) → All AreOctets ws → AreOctets (round_key ws r)
unfolding round_key
round_key_octets ws r all = table_octets (λ row column. slice_index (word ws (4 * r + column)) row)
    (λ row column. octet_at _ row (word_octets ws (4 * r + column) all))

-- ---- the cipher

shifted_octets : (s : List ℕ) → AreOctets (shift_rows (sub_bytes s))
unfolding shift_rows sub_bytes
shifted_octets s =
    table_octets (λ r c. slice_index (sub_bytes s) (r + 4 * ((c + r) % 4)))
    (λ r c. octet_at (sub_bytes s) (r + 4 * ((c + r) % 4))
    (table_octets (λ r c. s_box (slice_index s (r + 4 * c))) (λ r c. s_box_lt _)))

sum_of_states : (s k : List ℕ) → AreOctets s → AreOctets k → AreOctets (add_round_key s k)
unfolding add_round_key
sum_of_states s k ss sk =
    table_octets (λ r c. bit_xor (slice_index s (r + 4 * c)) (slice_index k (r + 4 * c)))
    (λ r c. xor_lt 8 (slice_index s (r + 4 * c)) (slice_index k (r + 4 * c)) (octet_at s _ ss) (octet_at k _ sk))

pub aes_octets : (key block : List ℕ) → AreOctets key → AreOctets (aes key block)
unfolding aes
aes_octets key block small =
    sum_of_states (shift_rows (sub_bytes (after_rounds (schedule_of key) block (rounds_of key - 1))))
    (round_key (schedule_of key) (rounds_of key))
    (shifted_octets (after_rounds (schedule_of key) block (rounds_of key - 1)))
    (round_key_octets (schedule_of key) (rounds_of key)
    (expansion_octets key (4 * (rounds_of key + 1) - length key / 4) small))
