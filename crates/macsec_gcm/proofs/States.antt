-- The states of sealing and opening in pieces, step by step.
use Rattle.{
  std.proofs.{
    Common.{◌≡◌, ℕ, zero, suc, ◌+◌, ◌-◌, ◌*◌, ◌/◌, ◌%◌, ◌<◌, ◌≤◌, List, [], ◌++◌, length, get_or, take, drop, refl},
    Common.{sym, ap, ◌∙◌, arith, inl, inr, length-append, length-drop, append_assoc, append-nil, length-take-le},
    Common.take-append-drop,
    lemmas.Bool.cases_lt,
    lemmas.List.{drop-append-le, drop_all, get_or_append_left, get_or-append_right, nil_from_length, take-append-le},
  },
  std.specs.Fn.iterate,
  macsec_ghash.specs.{Ghash.{blocks_of, pad}, Running.HasRun},
  macsec_gcm.proofs.{Iterations.iterate_add, KeyStreams.key_stream-later},
  macsec_gcm.specs.{
    Gcm.{hash_subkey, inc32},
    Pieces.{HasAuthenticated, IsHashing, IsStreamAt},
    Streams.key_stream,
    declared.{authenticator.Authenticator.Authenticator, hash.PaddedHash.PaddedHash, key_stream.KeyStream.KeyStream},
  },
}
use borrow.Rule.Slice.PartMut.{put_mid}

-- ---- key streams

-- m more octets of the batch are used
pub stream_moves : (s t : KeyStream) (key icb : List ℕ) (n m : ℕ) → IsStreamAt s key icb n → m ≤ 256 - s.used → t.schedule.now ≡ s.schedule.now → t.octets ≡ s.octets
    → t.counter ≡ s.counter → t.used ≡ s.used + m → IsStreamAt t key icb (n + m)
stream_moves s t key icb n m at le same_key same_octets same_counter used =
    let whole : n + (256 - s.used) ≡ 16 * at.blocks = at.whole in
    let in_range : s.used ≤ 256 = s.in_range in
    record {
      key_is = same_key ∙ at.key_is;
      ready = λ k lt.
          let place : t.used + k ≡ s.used + (m + k) = omega arith in
          let later : n + (m + k) ≡ n + m + k = omega arith in
          rw (place, same_octets) (at.ready (m + k) (omega arith) ∙ ap (key_stream key icb) later);
      blocks = at.blocks;
      whole = omega arith;
      counter = same_counter ∙ at.counter;
    }

-- after all octets are used, the next batch of m blocks is computed
pub stream_refilled : (s t : KeyStream) (key icb : List ℕ) (n m : ℕ) → IsStreamAt s key icb n → s.used ≡ 256 → m ≤ 16 → t.schedule.now ≡ s.schedule.now
    → t.used ≡ 256 - 16 * m → ((k : ℕ) → k < 16 * m → get_or t.octets (256 - 16 * m + k) 0 ≡ key_stream s.schedule.now s.counter k)
    → t.counter ≡ iterate inc32 m s.counter → IsStreamAt t key icb n
stream_refilled s t key icb n m at all le same_key used made counter =
    let whole : n ≡ 16 * at.blocks = (let w = at.whole in omega arith) in
    record {
      key_is = same_key ∙ at.key_is;
      ready = λ k lt.
          ap (λ (u : ℕ). get_or t.octets (u + k) 0) used ∙ made k (omega arith) ∙ rw (at.key_is, at.counter, whole) (key_stream-later key icb at.blocks k);
      blocks = at.blocks + m;
      whole = omega arith;
      counter = counter ∙ ap (iterate inc32 m) at.counter ∙ sym (iterate_add inc32 at.blocks m icb);
    }

-- after the first block, the key stream is the one from the next counter block on
pub stream_after_block : (s : KeyStream) (key icb : List ℕ) (n : ℕ) → IsStreamAt s key icb (16 + n) → IsStreamAt s key (inc32 icb) n
stream_after_block s key icb n at =
    let whole : 16 + n + (256 - s.used) ≡ 16 * at.blocks = at.whole in
    let some : at.blocks ≡ suc (at.blocks - 1) = omega arith in
    record {
      key_is = at.key_is;
      ready = λ k lt.
          let place : 16 + n + k ≡ 16 * 1 + (n + k) = omega arith in
          at.ready k lt ∙ ap (key_stream key icb) place ∙ sym (key_stream-later key icb 1 (n + k));
      blocks = at.blocks - 1;
      whole = omega arith;
      counter = at.counter ∙ ap (λ (b : ℕ). iterate inc32 b icb) some;
    }

-- ---- padded texts

blocks_of-append : (m n : ℕ) (xs ys : List ℕ) → length xs ≡ 16 * m → blocks_of (m + n) (xs ++ ys) ≡ blocks_of m xs ++ blocks_of n ys
unfolding blocks_of
blocks_of-append zero n xs ys long =
    let none : xs ≡ [] = nil_from_length xs (omega arith) in
    let e : 0 + n ≡ n = omega arith in
    rw (none, e) refl
blocks_of-append (suc m) n xs ys long =
    let e : suc m + n ≡ suc (m + n) = omega arith in
    let le : 16 ≤ length xs = omega arith in
    rw (e, take-append-le 16 xs ys le, drop-append-le 16 xs ys le, blocks_of-append m n (drop 16 xs) ys (omega (arith, length-drop 16 xs))) refl

-- whole blocks need no padding
pub pad-append : (xs ys : List ℕ) → length xs % 16 ≡ 0 → pad (xs ++ ys) ≡ pad xs ++ pad ys
unfolding pad
pad-append xs ys whole =
    let m : ℕ = length xs / 16 in
    let n : ℕ = (length ys + 15) / 16 in
    let long : length xs ≡ 16 * m = omega arith in
    let count : (length xs + 15) / 16 ≡ m = omega arith in
    let all : (length (xs ++ ys) + 15) / 16 ≡ m + n = omega (arith, length-append xs ys) in
    rw (count, all) (blocks_of-append m n xs ys long)

-- blocks, whole blocks of a text, and the rest of it
pub padded : (blocks whole rest : List ℕ) → length whole % 16 ≡ 0 → (blocks ++ pad whole) ++ pad rest ≡ blocks ++ pad (whole ++ rest)
padded blocks whole rest is_whole = append_assoc blocks (pad whole) (pad rest) ∙ ap (λ (b : List ℕ). blocks ++ b) (sym (pad-append whole rest is_whole))

-- octets that complete the waiting block, and whole blocks after it, were hashed
pub hashing_more : (s t : PaddedHash) (h : ℕ) (blocks text ys : List ℕ) (at : IsHashing s h blocks text)
    → length (take s.waiting_count s.waiting ++ ys) % 16 ≡ 0 → t.waiting_count ≡ 0
    → t.powers.now ≡ s.powers.now → HasRun t.hash t.powers.now ((blocks ++ pad at.whole) ++ pad (take s.waiting_count s.waiting ++ ys)) → IsHashing t h blocks (text ++ ys)
hashing_more s t h blocks text ys at all none same hashed =
    let rest : List ℕ = take s.waiting_count s.waiting in
    record {
      whole = at.whole ++ (rest ++ ys);
      is_whole = (let w = at.is_whole in omega (arith, length-append at.whole (rest ++ ys)));
      text_is = rw (at.text_is, none) (append_assoc at.whole rest ys ∙ sym (append-nil (at.whole ++ (rest ++ ys))));
      key_is = same ∙ at.key_is;
      hashed = rw (padded blocks at.whole (rest ++ ys) at.is_whole) at hashed;
    }

-- a text was ended
pub hashing_ended : (s t : PaddedHash) (h : ℕ) (blocks text : List ℕ) (at : IsHashing s h blocks text) → t.waiting_count ≡ 0
    → t.powers.now ≡ s.powers.now → HasRun t.hash t.powers.now ((blocks ++ pad at.whole) ++ pad (take s.waiting_count s.waiting)) → IsHashing t h (blocks ++ pad text) []
unfolding pad blocks_of
hashing_ended s t h blocks text at none same hashed =
    let rest : List ℕ = take s.waiting_count s.waiting in
    let all : (blocks ++ pad at.whole) ++ pad rest ≡ (blocks ++ pad text) ++ [] =
    padded blocks at.whole rest at.is_whole ∙ ap (λ (xs : List ℕ). blocks ++ pad xs) (sym at.text_is) ∙ sym (append-nil (blocks ++ pad text)) in
    record {
      whole = [];
      is_whole = refl;
      text_is = rw none refl;
      key_is = same ∙ at.key_is;
      hashed = rw all at hashed;
    }

-- ---- lists

-- a text followed by a piece that was split in two
pub two_parts : (text piece front back : List ℕ) (n : ℕ) → front ≡ take n piece → back ≡ drop n piece → (text ++ front) ++ back ≡ text ++ piece
two_parts text piece front back n ef eb = rw (ef, eb, append_assoc text (take n piece) (drop n piece), take-append-drop n piece) refl

-- writing the last m octets
pub put_mid-end : (a m : ℕ) (xs ys : List ℕ) → length xs ≡ a + m → put_mid a m xs ys ≡ take a xs ++ ys
put_mid-end a m xs ys long =
    ap (λ (zs : List ℕ). take a xs ++ (ys ++ zs)) (drop_all m (drop a xs) (omega (arith, length-drop a xs)))
    ∙ ap (λ (zs : List ℕ). take a xs ++ zs) (append-nil ys)

pub get_or-put_mid : (a m k : ℕ) (xs ys : List ℕ) → a ≤ length xs → k < length ys → get_or (put_mid a m xs ys) (a + k) 0 ≡ get_or ys k 0
get_or-put_mid a m k xs ys le lt =
    let place : a + k - a ≡ k = omega arith in
    get_or-append_right (take a xs) (ys ++ drop m (drop a xs)) a (a + k) 0 (length-take-le a xs le) (omega arith)
    ∙ ap (λ (p : ℕ). get_or (ys ++ drop m (drop a xs)) p 0) place
    ∙ get_or_append_left ys (drop m (drop a xs)) 0 k lt

-- ---- the input of a tag

-- the last text was ended: the ciphertext, or if it is empty, the additional authenticated data
pub texts_ended : (s : Authenticator) (t : PaddedHash) (key j0 aad text : List ℕ) → HasAuthenticated s key j0 aad text
    → ((blocks last : List ℕ) → IsHashing s.hash (hash_subkey key) blocks last → IsHashing t (hash_subkey key) (blocks ++ pad last) [])
    → IsHashing t (hash_subkey key) (pad aad ++ pad text) []
unfolding pad blocks_of
texts_ended s t key j0 aad text at ends = elim (cases_lt 0 (length text)) [
  | inl some ↦ ends (pad aad) text (at.aad_ended some)
  | inr none ↦
      let empty : length text ≡ 0 = omega arith in
      let nothing : text ≡ [] = nil_from_length text empty in
      rw (nothing, append-nil (pad aad)) (ends [] aad (at.aad_open empty))
]
