-- Key streams, and the texts that they are added to.
use Rattle.std.proofs.{
  Common.{◌≡◌, ℕ, suc, ◌+◌, ◌-◌, ◌*◌, ◌/◌, ◌%◌, ◌<◌, ◌≤◌, List, [], ◌∷◌, length, get_or, take, drop, bit_xor, map},
  Common.{replicate, refl, sym, ap, ap₂, ◌∙◌, arith, inl, inr, length-drop, length-append, ◌++◌, length-take-le},
  Common.{get_or-take, get_or-drop},
  lemmas.{
    Bool.cases_lt,
    Grind.same_number_lists,
    List.{length-map, length-replicate, get_or_append_left, get_or-append_right, get_or-map},
    List.{FromFn.{length-map-range_with_len, get_or-map-range_with_len}},
    Simd.get_or-replicate,
  },
}
use Rattle.std.specs.{Fn.iterate, Int.Bits.{xor_assoc, xor_self, xor_zero_l, xor_zero_r}, List.flat_map}
use Rattle.macsec_aes.specs.Aes.{aes, add_round_key}
use Rattle.macsec_gcm.{
  proofs.Iterations.iterate_add,
  specs.{Gcm.{gctr, inc32}, Octets.sum_with_stream, Streams.{IsSumBelow, key_stream}},
}

-- the key stream from the n-th counter block after icb on
pub key_stream-later : (key icb : List ℕ) (n k : ℕ) → key_stream key (iterate inc32 n icb) k ≡ key_stream key icb (16 * n + k)
key_stream-later key icb n k =
    let block : (16 * n + k) / 16 ≡ n + k / 16 = omega arith in
    let place : (16 * n + k) % 16 ≡ k % 16 = omega arith in
    rw (block, place, iterate_add inc32 n (k / 16) icb) refl

-- ---- sums with a stream, and with the key stream

pub length-sum_with_stream : (xs stream : List ℕ) → length (sum_with_stream xs stream) ≡ length xs
unfolding sum_with_stream
length-sum_with_stream xs stream = length-map-range_with_len (λ k. bit_xor (get_or xs k 0) (get_or stream k 0)) 0 (length xs)

pub get_or-sum_with_stream : (xs stream : List ℕ) (k : ℕ) → k < length xs → get_or (sum_with_stream xs stream) k 0 ≡ bit_xor (get_or xs k 0) (get_or stream k 0)
unfolding sum_with_stream
get_or-sum_with_stream xs stream k lt =
    get_or-map-range_with_len (λ k. bit_xor (get_or xs k 0) (get_or stream k 0)) 0 (length xs) k k 0 lt (omega arith)

pub length-gctr : (key icb text : List ℕ) → length (gctr key icb text) ≡ length text
unfolding gctr
length-gctr key icb text = length-map-range_with_len (λ k. bit_xor (get_or text k 0) (key_stream key icb k)) 0 (length text)

get_or-gctr : (key icb text : List ℕ) (k : ℕ) → k < length text → get_or (gctr key icb text) k 0 ≡ bit_xor (get_or text k 0) (key_stream key icb k)
unfolding gctr
get_or-gctr key icb text k lt =
    get_or-map-range_with_len (λ k. bit_xor (get_or text k 0) (key_stream key icb k)) 0 (length text) k k 0 lt (omega arith)

-- ---- adding the key stream part by part

-- the first m octets of a stream are added
pub sum_of_part : (f : ℕ → ℕ) (old stream : List ℕ) (m : ℕ) → m ≤ length old → ((k : ℕ) → k < m → get_or stream k 0 ≡ f k)
    → IsSumBelow f old (sum_with_stream (take m old) stream ++ drop m old) m
sum_of_part f old stream m le each =
    let sum : List ℕ = sum_with_stream (take m old) stream in
    let part_long : length (take m old) ≡ m = length-take-le m old le in
    let long : length sum ≡ m = length-sum_with_stream (take m old) stream ∙ part_long in
    record {
      done = λ k lt inside.
          get_or_append_left sum (drop m old) 0 k (omega arith)
          ∙ get_or-sum_with_stream (take m old) stream k (omega arith)
          ∙ ap₂ bit_xor (get_or-take m old k 0 lt) (each k lt);
      left = λ k ge.
          let place : m + (k - m) ≡ k = omega arith in
          get_or-append_right sum (drop m old) m k 0 long ge ∙ get_or-drop m old (k - m) 0 ∙ ap (λ (p : ℕ). get_or old p 0) place;
    }

-- one more part
pub sum_continues : (f g : ℕ → ℕ) (old text ys : List ℕ) (a m : ℕ) → IsSumBelow f old text a → length text ≡ length old → a ≤ length old
    → IsSumBelow g (drop a text) ys m → ((k : ℕ) → g k ≡ f (a + k)) → IsSumBelow f old (take a text ++ ys) (a + m)
sum_continues f g old text ys a m held same le more later =
    let front_long : length (take a text) ≡ a = length-take-le a text (omega arith) in
    record {
      done = λ k lt inside. elim (cases_lt k a) [
        | inl below ↦ get_or_append_left (take a text) ys 0 k (omega arith) ∙ get_or-take a text k 0 below ∙ held.done k below inside
        | inr past ↦
            let place : a + (k - a) ≡ k = omega arith in
            get_or-append_right (take a text) ys a k 0 front_long past
            ∙ more.done (k - a) (omega arith) (omega (arith, length-drop a text))
            ∙ ap₂ bit_xor (get_or-drop a text (k - a) 0 ∙ ap (λ (p : ℕ). get_or text p 0) place ∙ held.left k past) (later (k - a) ∙ ap f place)
      ];
      left = λ k ge.
          let place : a + (k - a) ≡ k = omega arith in
          get_or-append_right (take a text) ys a k 0 front_long (omega arith)
          ∙ more.left (k - a) (omega arith) ∙ get_or-drop a text (k - a) 0 ∙ ap (λ (p : ℕ). get_or text p 0) place ∙ held.left k (omega arith);
    }

-- ---- a text with one more piece

pub gctr-append : (key icb p q r : List ℕ) → length r ≡ length q → IsSumBelow (λ k. key_stream key icb (length p + k)) q r (length q)
    → gctr key icb (p ++ q) ≡ gctr key icb p ++ r
gctr-append key icb p q r long sum =
    let lp = length-gctr key icb p in
    let lw = length-gctr key icb (p ++ q) in
    let lpq = length-append p q in
    let lr = length-append (gctr key icb p) r in
    same_number_lists (gctr key icb (p ++ q)) (gctr key icb p ++ r) (omega arith)
    (λ k lt. get_or-gctr key icb (p ++ q) k (omega arith) ∙ elim (cases_lt k (length p)) [
      | inl below ↦
          ap (λ (x : ℕ). bit_xor x (key_stream key icb k)) (get_or_append_left p q 0 k below)
          ∙ sym (get_or-gctr key icb p k below) ∙ sym (get_or_append_left (gctr key icb p) r 0 k (omega arith))
      | inr past ↦
          let place : length p + (k - length p) ≡ k = omega arith in
          ap (λ (x : ℕ). bit_xor x (key_stream key icb k)) (get_or-append_right p q (length p) k 0 refl past)
          ∙ ap (λ (j : ℕ). bit_xor (get_or q (k - length p) 0) (key_stream key icb j)) (sym place)
          ∙ sym (sum.done (k - length p) (omega arith) (omega arith))
          ∙ sym (get_or-append_right (gctr key icb p) r (length p) k 0 lp past)
    ])

-- ---- adding the key stream to a text at once

pub sum_with_key_stream : (key icb text stream : List ℕ) → ((k : ℕ) → k < length text → get_or stream k 0 ≡ key_stream key icb k)
    → sum_with_stream text stream ≡ gctr key icb text
sum_with_key_stream key icb text stream each =
    let long = length-gctr key icb text in
    let sum_long = length-sum_with_stream text stream in
    same_number_lists (sum_with_stream text stream) (gctr key icb text) (sum_long ∙ sym long)
    (λ k lt.
    let inside : k < length text = omega arith in
    get_or-sum_with_stream text stream k inside
    ∙ ap (bit_xor (get_or text k 0)) (each k inside)
    ∙ sym (get_or-gctr key icb text k inside))

-- adding a text of up to one block to the key stream of the first counter block, which is GCTR of zeros
pub sum_with_mask : (key icb text : List ℕ) → length text ≤ 16 → sum_with_stream text (gctr key icb (replicate 16 0)) ≡ gctr key icb text
sum_with_mask key icb text le = sum_with_key_stream key icb text (gctr key icb (replicate 16 0)) (λ k lt.
    let zeros : k < length {A = ℕ} (replicate 16 0) = omega (arith, length-replicate {A = ℕ} 16 0) in
    get_or-gctr key icb (replicate 16 0) k zeros
    ∙ ap (λ (x : ℕ). bit_xor x (key_stream key icb k)) (get_or-replicate 16 k 0 0 (omega arith))
    ∙ xor_zero_l (key_stream key icb k))

-- ---- blocks of a key stream, one after another

-- each block has 16 octets
abbrev pub AreBlocks : List (List ℕ) → Type 0
AreBlocks blocks = (i : ℕ) → i < length blocks → length (get_or blocks i []) ≡ 16

get_or-flat_map : (blocks : List (List ℕ)) (k : ℕ) → AreBlocks blocks → k < length blocks * 16
    → get_or (flat_map (λ x. x) blocks) k 0 ≡ get_or (get_or blocks (k / 16) []) (k % 16) 0
get_or-flat_map [] k are lt = absurd (omega arith)
get_or-flat_map (x ∷ xs) k are lt = elim (cases_lt k 16) [
  | inl below ↦
      let block : k / 16 ≡ 0 = omega arith in
      let place : k % 16 ≡ k = omega arith in
      rw (block, place) (get_or_append_left x (flat_map (λ x. x) xs) 0 k (omega (arith, are 0 (omega arith))))
  | inr past ↦
      let block : k / 16 ≡ suc ((k - 16) / 16) = omega arith in
      let place : k % 16 ≡ (k - 16) % 16 = omega arith in
      rw (block, place)
      (get_or-append_right x (flat_map (λ x. x) xs) 16 k 0 (are 0 (omega arith)) past
      ∙ get_or-flat_map xs (k - 16) (λ i h. are (suc i) (omega arith)) (omega arith))
]

-- a block of AES has 16 octets
length-aes : (key block : List ℕ) → length (aes key block) ≡ 16
unfolding aes add_round_key
length-aes key block = refl

-- AES of counter blocks is the key stream
pub stream_of_blocks : (key icb : List ℕ) (n : ℕ) (blocks : List (List ℕ)) → length blocks ≡ n → ((i : ℕ) → i < n → get_or blocks i [] ≡ iterate inc32 i icb)
    → (k : ℕ) → k < n * 16 → get_or (flat_map (λ x. x) (map (aes key) blocks)) k 0 ≡ key_stream key icb k
stream_of_blocks key icb n blocks long each k lt =
    let all = length-map blocks (aes key) in
    let inside : k / 16 < length blocks = omega arith in
    let block : (i : ℕ) → i < length blocks → get_or (map (aes key) blocks) i [] ≡ aes key (get_or blocks i []) = λ i h. get_or-map (aes key) blocks i [] [] h in
    get_or-flat_map (map (aes key) blocks) k (λ i h. ap length (block i (omega arith)) ∙ length-aes key (get_or blocks i [])) (omega arith)
    ∙ ap (λ (b : List ℕ). get_or b (k % 16) 0) (block (k / 16) inside ∙ ap (aes key) (each (k / 16) (omega arith)))

-- ---- adding the key stream twice

pub gctr-gctr : (key icb text : List ℕ) → gctr key icb (gctr key icb text) ≡ text
gctr-gctr key icb text =
    let once = length-gctr key icb text in
    let twice = length-gctr key icb (gctr key icb text) in
    same_number_lists (gctr key icb (gctr key icb text)) text (twice ∙ once)
    (λ k lt.
    let inside : k < length text = omega arith in
    get_or-gctr key icb (gctr key icb text) k (omega arith)
    ∙ ap (λ (x : ℕ). bit_xor x (key_stream key icb k)) (get_or-gctr key icb text k inside)
    ∙ xor_assoc (get_or text k 0) (key_stream key icb k) (key_stream key icb k)
    ∙ ap (bit_xor (get_or text k 0)) (xor_self (key_stream key icb k))
    ∙ xor_zero_r (get_or text k 0))
