-- Tags under a hash key and a mask.
use Rattle.{
  std.proofs.{
    Common.{◌≡◌, ℕ, ◌/◌, ◌%◌, ◌^◌, ◌<◌, Bool, true, false, cond, List, [], ◌∷◌, ◌++◌, length, get_or, bit_xor, Some},
    Common.{None, IsSome, is_some, replicate, slice_index, refl, sym, ap, ap₂, ◌∙◌, arith, ext_get_or},
    lemmas.List.Elements.All-nil,
  },
  std.specs.{Cmp.Lexicographic.same_text, Int.{w128, to_be_bytes, Bits.{xor_self, xor_zero_r}}},
  macsec_aes.specs.Aes.aes,
  macsec_ghash.specs.Ghash.{blocks_of, ghash, pad},
  macsec_gcm.proofs.{
    KeyStreams.{get_or-sum_with_stream, length-sum_with_stream, sum_with_key_stream},
    Opening.{open_of-by_test, tag_of},
  },
  macsec_gcm.specs.{
    Gcm.{authentication_tag, hash_subkey, pre_counter_block, seal_of},
    Octets.{same_octets, sum_with_stream},
    Pieces.decrypted,
    Streams.key_stream,
  },
  macsec_hash_keys.proofs.{
    AesOctets.aes_octets,
    Hashes.{few_collisions, hash_lt, length_block_is, lengths},
    Inverses.product_of_zero,
    Lists.plus,
    Masks.{masks_cancel, number_of, sum_of_hashes},
    Padding.{number_is, number_lt},
    Roots.no_difference,
    Sums.{octet_at, twice_left},
    UnderKey.same_octets-refl,
  },
  macsec_hash_keys.specs.{
    Collisions.{IsMessage, tag_hash},
    Counting.mask_between,
    Tags.{EmptyMessageHidesKey, FewKeysAccept, FewKeysForge, HashKeyIsBlock, OneMaskForEachKey, OpensIfTagIs},
    Tags.{TagIsMaskedHash, mask_of, tag_with},
  },
}

-- the difference of two hashes, from the tags that they give under one mask
difference_of : (g k : ℕ) (mask tag tag' : List ℕ) → g < 2 ^ 128 → k < 2 ^ 128
    → sum_with_stream (to_be_bytes w128 g) mask ≡ tag → sum_with_stream (to_be_bytes w128 k) mask ≡ tag'
    → bit_xor g k ≡ number_of (plus tag tag')
difference_of g k mask tag tag' lg lk e e' =
    sum_of_hashes g k lg lk
    ∙ ap number_of (sym (masks_cancel (to_be_bytes w128 g) (to_be_bytes w128 k) mask refl) ∙ ap₂ plus e e')

pub length-tag_with : (h : ℕ) (mask aad text : List ℕ) → length (tag_with h mask aad text) ≡ 16
unfolding tag_with
length-tag_with h mask aad text = length-sum_with_stream _ mask

-- ---- a sealed message

difference_of_tags : (h : ℕ) (mask aad text tag aad' text' tag' : List ℕ) → h < 2 ^ 128
    → tag_with h mask aad text ≡ tag → tag_with h mask aad' text' ≡ tag'
    → bit_xor (tag_hash h aad text) (tag_hash h aad' text') ≡ number_of (plus tag tag')
unfolding tag_with
difference_of_tags h mask aad text tag aad' text' tag' lh e e' =
    difference_of _ _ mask tag tag' (hash_lt h _ lh) (hash_lt h _ lh) e e'

pub few_keys_forge : FewKeysForge
few_keys_forge aad text tag aad' text' tag' [] m m' apart keys both = omega arith
few_keys_forge aad text tag aad' text' tag' (h ∷ hs) m m' apart keys both =
    few_collisions aad text aad' text' (number_of (plus tag tag')) (h ∷ hs) m m'
    (λ same_aad same_text.
    let first = both 0 0 (omega arith) in
    apart same_aad same_text (sym first.1 ∙ ap₂ (tag_with h first.0) same_aad same_text ∙ first.2))
    keys
    (λ k default lt.
    let here = both k default lt in
    difference_of_tags (get_or (h ∷ hs) k default) here.0 aad text tag aad' text' tag'
    (keys.blocks k default lt) here.1 here.2)

-- ---- a known mask

nothing : IsMessage [] []
nothing = record {
  aad_octets = All-nil (λ x. x < 256);
  text_octets = All-nil (λ x. x < 256);
  aad_fits =
      omega arith;
  text_fits = omega arith;
}

pad_nothing : pad [] ≡ []
unfolding pad blocks_of
pad_nothing = refl

hash_of_nothing : (h : ℕ) → tag_hash h [] [] ≡ 0
unfolding ghash lengths
hash_of_nothing h =
    ap (ghash h) (ap₂ (λ (first last : List ℕ). first ++ (first ++ last)) pad_nothing (length_block_is [] [] nothing))
    ∙ product_of_zero h

-- two keys that give a message one tag under one mask give it one hash
same_hashes : (h k : ℕ) (mask aad text tag : List ℕ) → h < 2 ^ 128 → k < 2 ^ 128
    → tag_with h mask aad text ≡ tag → tag_with k mask aad text ≡ tag → tag_hash h aad text ≡ tag_hash k aad text
unfolding tag_with
same_hashes h k mask aad text tag lh lk e e' =
    let a = tag_hash h aad text in
    let b = tag_hash k aad text in
    let la : a < 2 ^ 128 = hash_lt h _ lh in
    let lb : b < 2 ^ 128 = hash_lt k _ lk in
    no_difference a b (difference_of a b mask tag tag la lb e e' ∙ sym (difference_of a a mask tag tag la la e e)
    ∙ xor_self a)

pub few_keys_accept : FewKeysAccept
few_keys_accept mask aad text tag [] m some keys each = omega arith
few_keys_accept mask aad text tag (h ∷ hs) m some keys each =
    let few = few_collisions aad text [] [] (tag_hash h aad text) (h ∷ hs) m nothing
    (λ same_aad same_text. let none : length aad ≡ 0 = ap length same_aad in absurd (omega arith))
    keys
    (λ k default lt.
    let j = get_or (h ∷ hs) k default in
    ap (bit_xor (tag_hash j aad text)) (hash_of_nothing j)
    ∙ xor_zero_r (tag_hash j aad text)
    ∙ same_hashes j h mask aad text tag (keys.blocks k default lt) (keys.blocks 0 0 (omega arith)) (each k default lt)
    (each 0 0 (omega arith))) in
    omega (arith, few)

-- ---- the tag of GCM

mask_is_stream : (key icb : List ℕ) (k : ℕ) → k < 16 → get_or (aes key icb) k 0 ≡ key_stream key icb k
mask_is_stream key icb k lt =
    let block : k / 16 ≡ 0 = omega arith in
    let place : k % 16 ≡ k = omega arith in
    rw (block, place) refl

tag_of_is : (key iv aad text : List ℕ) → tag_of key iv aad text ≡ tag_with (hash_subkey key) (mask_of key iv) aad text
unfolding authentication_tag tag_with
tag_of_is key iv aad text =
    let icb = pre_counter_block iv in
    sym (sum_with_key_stream key icb _ _ (λ k lt. mask_is_stream key icb k lt))

pub tag_is_masked_hash : TagIsMaskedHash
unfolding seal_of
tag_is_masked_hash key iv aad plaintext = tag_of_is key iv aad _

pub hash_key_is_block : HashKeyIsBlock
unfolding hash_subkey
hash_key_is_block key small =
    let octets = aes key (replicate 16 0) in
    let lt = number_lt 16 (λ i. slice_index octets i) (λ i. octet_at octets i (aes_octets key _ small)) in
    omega (arith, number_is octets, lt)

by_tag : (key iv aad text tag : List ℕ) (b : Bool) → same_octets (tag_of key iv aad text) tag ≡ b
    → IsSome (cond b (Some (decrypted key iv text)) None) → tag_of key iv aad text ≡ tag
by_tag key iv aad text tag true e opened = same_text (tag_of key iv aad text) tag (sym e)
by_tag key iv aad text tag false e opened = absurd (cc)

pub opens_if_tag_is : OpensIfTagIs
opens_if_tag_is key iv aad text tag =
    let is = tag_of_is key iv aad text in (
      λ opened. sym is ∙ by_tag key iv aad text tag _ refl (rw open_of-by_test at opened),
      λ e. ap is_some (open_of-by_test key iv aad text tag)
          ∙ ap (λ t. is_some (cond (same_octets t tag) (Some (decrypted key iv text)) None)) (is ∙ e)
          ∙ ap (λ b. is_some (cond b (Some (decrypted key iv text)) None)) (same_octets-refl tag),
    )

-- ---- the mask that gives a message this tag

pub sum_again : (xs ys : List ℕ) → length xs ≡ length ys → sum_with_stream xs (sum_with_stream xs ys) ≡ ys
sum_again xs ys long =
    let once = length-sum_with_stream xs ys in
    let twice = length-sum_with_stream xs _ in
    ext_get_or 0 (sum_with_stream xs (sum_with_stream xs ys)) ys (twice ∙ long) (λ k lt.
    get_or-sum_with_stream xs _ k (omega arith)
    ∙ ap (bit_xor (get_or xs k 0)) (get_or-sum_with_stream xs ys k (omega arith))
    ∙ twice_left _ _)

pub mask_gives_tag : (h : ℕ) (aad text tag : List ℕ) → length tag ≡ 16
    → tag_with h (mask_between h aad text tag) aad text ≡ tag
unfolding tag_with mask_between
mask_gives_tag h aad text tag long = sum_again _ tag (sym long)

-- ---- the mask that a hash key and a tag determine

xor_cancels : (a b c : ℕ) → bit_xor a b ≡ bit_xor a c → b ≡ c
xor_cancels a b c e = sym (twice_left a b) ∙ ap (bit_xor a) e ∙ twice_left a c

pub one_mask_for_each_key : OneMaskForEachKey
unfolding tag_with
one_mask_for_each_key h mask mask' aad text e k lt =
    let octets = to_be_bytes w128 (tag_hash h aad text) in
    xor_cancels _ _ _
    (sym (get_or-sum_with_stream octets mask k lt) ∙ ap (λ t. get_or t k 0) e
    ∙ get_or-sum_with_stream octets mask' k lt)

pub empty_message_hides_key : EmptyMessageHidesKey
unfolding tag_with
empty_message_hides_key h k mask = ap (λ g. sum_with_stream (to_be_bytes w128 g) mask)
    (hash_of_nothing h ∙ sym (hash_of_nothing k))
