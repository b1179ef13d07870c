-- The ICVs of worked runs are octets: the sum of the octets of the hash and of a block of AES. The block is computed,
-- to see that it is octets; the hash is not.
use Rattle.{
  std.proofs.{Common.{bit_xor, slice_index}, lemmas.{List.Elements.All-from_recursion, Nat.xor_of_8}},
  std.specs.Int.{byte_at, bytes_high_first, to_be_bytes, w128},
  macsec_ghash.specs.Ghash.{ghash, pad},
  macsec_gcm.specs.Gcm.{authentication_tag, gctr, hash_subkey, length_block, seal_of},
  macsec_restarts.proofs.{
    Names.{[], ◌++◌, ◌<◌, ◌∷◌, ◌≡◌, aad, add_round_key, added_word, aes, affine_transformation, after_rounds},
    Names.{All-append, and_parts, are_small, AreOctets, arith, byte_product, bytes, client, inverse, items, iv},
    Names.{key_expansion, key_words, List, ltb-true, mix_columns, nat_lt, polynomial_product, pre_counter_block, refl},
    Names.{remainder, rot_word, round_key, s_box, sealed, shift_rows, small, sub_bytes, sub_word, suc, sum_below},
    Names.{sum_of_words, tag, take, true, zero, ℕ},
    Examples.Receivers.frame,
  },
}

pub small_at : (xs : List ℕ) → are_small xs ≡ true → (k : ℕ) → slice_index xs k < 256
small_at [] are k = omega arith
small_at (x ∷ xs) are zero = ltb-true x 256 (and_parts (nat_lt x 256) (are_small xs) are).0
small_at (x ∷ xs) are (suc k) = small_at xs (and_parts (nat_lt x 256) (are_small xs) are).1 k

byte_is : (k n : ℕ) → byte_at k n < 256
byte_is zero n = omega arith
byte_is (suc k) n = omega arith

of_number : (k n i : ℕ) → slice_index (bytes_high_first k n) i < 256
of_number zero n i = omega arith
of_number (suc k) n zero = byte_is k n
of_number (suc k) n (suc i) = of_number k n i

hash_of : List ℕ → List ℕ → ℕ
hash_of key aad = ghash (hash_subkey key) (pad aad ++ (pad [] ++ pad (length_block aad [])))

sum_at : (hash : ℕ) (block : List ℕ) → ((k : ℕ) → slice_index block k < 256) → (k : ℕ) →
    bit_xor (slice_index (to_be_bytes w128 hash) k) (slice_index block k) < 256
sum_at hash _ are k = xor_of_8 _ _ (of_number 16 hash k) (are k)

pub tag_is : (key iv aad : List ℕ) → ((k : ℕ) → slice_index (aes key (pre_counter_block iv)) k < 256) →
    AreOctets (seal_of key iv aad []).1
unfolding seal_of authentication_tag gctr hash_of
tag_is key iv aad are = All-from_recursion (λ x. x < 256) (seal_of key iv aad []).1 (
  octet 0,
  (
    octet 1,
    (
      octet 2,
      (
        octet 3,
        (
          octet 4,
          (
            octet 5,
            (
              octet 6,
              (
                octet 7,
                (
                  octet 8,
                  (
                    octet 9,
                    (
                      octet 10,
                      (
                        octet 11,
                        (
                          octet 12,
                          (octet 13, (octet 14, (octet 15, tt))),
                        ),
                      ),
                    ),
                  ),
                ),
              ),
            ),
          ),
        ),
      ),
    ),
  ),
)
  where
    octet : (k : ℕ) → bit_xor (slice_index (to_be_bytes w128 (hash_of key aad)) k)
        (slice_index (aes key (pre_counter_block iv)) k) < 256
    octet k = sum_at (hash_of key aad) (aes key (pre_counter_block iv)) are k

icv_is : (number : ℕ) → are_small (aes bytes (pre_counter_block (iv number))) ≡ true →
    AreOctets (items 16 (tag number (client number)))
icv_is number are = rw (sealed bytes (iv number) (aad number (client number))) at
    (tag_is bytes (iv number) (aad number (client number)) (small_at (aes bytes (pre_counter_block (iv number))) are))

block_1 : are_small (aes bytes (pre_counter_block (iv 1))) ≡ true
unfolding pre_counter_block aes after_rounds add_round_key round_key mix_columns shift_rows sub_bytes key_expansion
    key_words added_word sum_of_words sub_word rot_word
    s_box affine_transformation inverse byte_product remainder polynomial_product sum_below
block_1 = refl

block_3 : are_small (aes bytes (pre_counter_block (iv 3))) ≡ true
unfolding pre_counter_block aes after_rounds add_round_key round_key mix_columns shift_rows sub_bytes key_expansion
    key_words added_word sum_of_words sub_word rot_word
    s_box affine_transformation inverse byte_product remainder polynomial_product sum_below
block_3 = refl

-- ---- the frames

abbrev front : ℕ → List ℕ
front number = take 30 (frame number [])

pub octets_1 : AreOctets (frame 1 (tag 1 (client 1)))
octets_1 = All-append (λ x. x < 256) (front 1) (items 16 (tag 1 (client 1))) (small (front 1) refl) (icv_is 1 block_1)

pub octets_3 : AreOctets (frame 3 (tag 3 (client 3)))
octets_3 = All-append (λ x. x < 256) (front 3) (items 16 (tag 3 (client 3))) (small (front 3) refl) (icv_is 3 block_3)
