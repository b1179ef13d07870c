-- The key schedule.
use Rattle.std.proofs.{
  Common.{◌≡◌, ◌≤◌, ◌<◌, ◌+◌, ◌-◌, ◌*◌, ℕ, zero, suc, ◌/◌, List, [], ◌∷◌, ◌++◌, take, drop, map, length, get_or, set},
  Common.{◌⊎◌, inl, inr, arith, refl, ap, ◌∙◌, sym, add-one, add-zero, length-append, take-add, get_or-take, take-take},
  Common.{take_all, append-nil},
  lemmas.List.{take-append-le, drop_more, take_more_set},
  lemmas.List.{Folds.concat-append, FromFn.{map-range_with_len_more, length-map-range_with_len}},
}
use Rattle.std.specs.List.{concat, range_with_len}
use Rattle.macsec_aes.specs.{
  Aes.{schedule_of, word, rounds_of, key_words, key_expansion, added_word, sum_of_words, after_rounds, add_round_key},
  Aes.{mix_columns, shift_rows, sub_bytes, round_key},
  Schedule.{IsSchedule, key_of},
}

-- ---- reading a schedule

-- a word of the schedule is at its index
pub schedule_word : (words : List (List ℕ)) (rounds i : ℕ) → IsSchedule words rounds → i < 4 * (rounds + 1) → word words i ≡ word (schedule_of (key_of words rounds)) i
schedule_word words rounds i s lt =
    sym (get_or-take (4 * (rounds + 1)) words i [] lt) ∙ ap (λ (ws : List (List ℕ)). word ws i) s.expanded

pub schedule_rounds : (words : List (List ℕ)) (rounds : ℕ) → IsSchedule words rounds → rounds_of (key_of words rounds) ≡ rounds
schedule_rounds words rounds s =
    elim s.lengths [ inl e ↦ omega (arith, s.key_length) | inr e ↦ omega (arith, s.key_length) ]

pub quotient_small : (i n : ℕ) → (n ≡ 4) ⊎ (n ≡ 8) → i < 4 * (n + 7) → i / n - 1 < 10
quotient_small i n (inl e) lt = rw e (omega arith)
quotient_small i n (inr e) lt = rw e (omega arith)

-- ---- the words of the key

next_drop : (xs : List ℕ) (i j : ℕ) → i < length xs → j ≡ i + 1 → drop i xs ≡ get_or xs i 0 ∷ drop j xs
next_drop xs i j lt e = rw e (drop_more xs i 0 lt)

-- four bytes of a list, one by one
pub four_bytes : (xs : List ℕ) (i : ℕ) → i + 4 ≤ length xs → get_or xs i 0 ∷ get_or xs (i + 1) 0 ∷ get_or xs (i + 2) 0 ∷ get_or xs (i + 3) 0 ∷ [] ≡ take 4 (drop i xs)
four_bytes xs i fits =
    let e0 = next_drop xs i (i + 1) (omega arith) (omega arith) in
    let e1 = next_drop xs (i + 1) (i + 2) (omega arith) (omega arith) in
    let e2 = next_drop xs (i + 2) (i + 3) (omega arith) (omega arith) in
    let e3 = next_drop xs (i + 3) (i + 4) (omega arith) (omega arith) in
    rw (e0, e1, e2, e3) refl

-- the first n words of a key
abbrev pub words_of : List ℕ → ℕ → List (List ℕ)
words_of key n = map (λ i. take 4 (drop (4 * i) key)) (range_with_len 0 n)

pub words_of_more : (key : List ℕ) (words : List (List ℕ)) (i : ℕ) (w : List ℕ) → i < length words → take i words ≡ words_of key i
    → w ≡ take 4 (drop (4 * i) key) → take (i + 1) (set words i w) ≡ words_of key (i + 1)
words_of_more key words i w lt held e =
    take_more_set words i w lt ∙ rw (held, e) (sym (map-range_with_len_more (λ i. take 4 (drop (4 * i) key)) 0 i i (omega arith)))

length-words_of : (key : List ℕ) (n : ℕ) → length (words_of key n) ≡ n
length-words_of key n = length-map-range_with_len (λ i. take 4 (drop (4 * i) key)) 0 n

-- joining the words of a key gives its bytes
pub concat-words_of : (key : List ℕ) (n : ℕ) → 4 * n ≤ length key → concat (words_of key n) ≡ take (4 * n) key
concat-words_of key zero h = refl
concat-words_of key (suc n) h =
    let w : List ℕ = take 4 (drop (4 * n) key) in
    let next : words_of key (n + 1) ≡ words_of key n ++ w ∷ [] = map-range_with_len_more (λ i. take 4 (drop (4 * i) key)) 0 n n (omega arith) in
    ap (λ (m : ℕ). concat (words_of key m)) (let e : suc n ≡ n + 1 = omega arith in e)
    ∙ ap concat next ∙ concat-append (words_of key n) (w ∷ [])
    ∙ ap (λ (ys : List ℕ). ys ++ (w ++ [])) (concat-words_of key n (omega arith))
    ∙ ap (λ (ys : List ℕ). take (4 * n) key ++ ys) (append-nil w)
    ∙ sym (take-add (4 * n) 4 key)
    ∙ ap (λ (m : ℕ). take m key) (let e : 4 * n + 4 ≡ 4 * suc n = omega arith in e)

-- ---- the key expansion

-- one more word
pub expansion_next : (key : List ℕ) (m : ℕ) → key_expansion key (m + 1) ≡ key_expansion key m
    ++ sum_of_words (word (key_expansion key m) m) (added_word (length key / 4) (length key / 4 + m) (word (key_expansion key m) (length key / 4 + m - 1))) ∷ []
unfolding key_expansion
expansion_next key m = rw add-one refl

pub expansion_start : (key : List ℕ) → key_expansion key 0 ≡ words_of key (length key / 4)
unfolding key_expansion key_words
expansion_start key = refl

-- the step of a loop that has expanded the first i words
pub expansion_more : (key : List ℕ) (words : List (List ℕ)) (n i : ℕ) (t w : List ℕ) → n ≡ length key / 4 → 1 ≤ n → n ≤ i → i < length words
    → take i words ≡ key_expansion key (i - n) → t ≡ added_word n i (word words (i - 1)) → w ≡ sum_of_words (word words (i - n)) t
    → take (i + 1) (set words i w) ≡ key_expansion key (i + 1 - n)
expansion_more key words n i t w en n1 ni lt held et ew =
    let m : ℕ = i - n in
    let later : i + 1 - n ≡ m + 1 = omega arith in
    let here : length key / 4 + m ≡ i = omega arith in
    let before : word (key_expansion key m) m ≡ word words m = ap (λ (ws : List (List ℕ)). word ws m) (sym held) ∙ get_or-take i words m [] (omega arith) in
    let last : word (key_expansion key m) (i - 1) ≡ word words (i - 1) = ap (λ (ws : List (List ℕ)). word ws (i - 1)) (sym held) ∙ get_or-take i words (i - 1) [] (omega arith) in
    let value : sum_of_words (word (key_expansion key m) m) (added_word (length key / 4) (length key / 4 + m) (word (key_expansion key m) (length key / 4 + m - 1))) ≡ w =
    rw (here, before, last, ← en) (rw (← et) (sym ew)) in
    take_more_set words i w lt
    ∙ ap (λ (ws : List (List ℕ)). ws ++ w ∷ []) held
    ∙ ap (λ (v : List ℕ). key_expansion key m ++ v ∷ []) (sym value)
    ∙ sym (expansion_next key m)
    ∙ ap (key_expansion key) (sym later)

length-expansion : (key : List ℕ) (m : ℕ) → length (key_expansion key m) ≡ length key / 4 + m
unfolding key_expansion key_words
length-expansion key zero = rw add-zero (length-words_of key (length key / 4))
length-expansion key (suc m) =
    let n = length key / 4 in
    let words = key_expansion key m in
    let next = sum_of_words (word words m) (added_word n (n + m) (word words (n + m - 1))) in
    omega (arith, length-append words (next ∷ []), length-expansion key m)

-- the words of the key come first
pub expansion_first : (key : List ℕ) (m : ℕ) → take (length key / 4) (key_expansion key m) ≡ words_of key (length key / 4)
unfolding key_expansion key_words
expansion_first key zero = take_all (length key / 4) (words_of key (length key / 4)) (omega (arith, length-words_of key (length key / 4)))
expansion_first key (suc m) =
    let long : length key / 4 ≤ length (key_expansion key m) = omega (arith, length-expansion key m) in
    take-append-le (length key / 4) (key_expansion key m) _ long ∙ expansion_first key m

-- the invariant of a schedule that is made from a key
pub schedule_made : (key : List ℕ) (words : List (List ℕ)) (rounds : ℕ) → (length key ≡ 16) ⊎ (length key ≡ 32) → rounds ≡ length key / 4 + 6
    → take (4 * (rounds + 1)) words ≡ key_expansion key (4 * (rounds + 1) - length key / 4) → (key_of words rounds ≡ key) × IsSchedule words rounds
schedule_made key words rounds sized er held =
    let whole : 4 * (length key / 4) ≡ length key = elim sized [ inl e ↦ omega arith | inr e ↦ omega arith ] in
    let n : rounds - 6 ≡ length key / 4 = omega arith in
    let first : take (rounds - 6) words ≡ words_of key (length key / 4) =
    sym (take-take (rounds - 6) (4 * (rounds + 1)) words (omega arith)) ∙ ap (take (rounds - 6)) held
    ∙ rw n (expansion_first key (4 * (rounds + 1) - length key / 4)) in
    let same : key_of words rounds ≡ key =
    ap concat first ∙ concat-words_of key (length key / 4) (omega arith) ∙ take_all (4 * (length key / 4)) key (omega arith) in
    let expanded : take (4 * (rounds + 1)) words ≡ schedule_of key = held ∙ ap (key_expansion key) (rw er refl) in (
      same,
      record {
        lengths = elim sized [ inl e ↦ inl (omega arith) | inr e ↦ inr (omega arith) ];
        key_length = ap length same ∙ omega arith;
        expanded = expanded ∙ ap schedule_of (sym same);
      },
    )

-- ---- the rounds

pub after_rounds_next : (ws : List (List ℕ)) (block : List ℕ) (r : ℕ) →
    after_rounds ws block (r + 1) ≡ add_round_key (mix_columns (shift_rows (sub_bytes (after_rounds ws block r)))) (round_key ws (r + 1))
unfolding after_rounds
after_rounds_next ws block r = rw add-one refl
