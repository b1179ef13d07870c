-- Acceptance needs the same key bytes and, for encrypted frames, the same confidentiality offset. If B has others,
-- another
-- tag is valid, and the tag of A's frame is not. The first octets of both tags are computed, by AES and GHASH.
use Rattle.std.specs.{Cmp.Lexicographic.same_text, Int.w128}
use Rattle.macsec_field128.specs.Field.{block_product, times_x}
use Rattle.macsec_ghash.specs.Ghash.{block_of, blocks_of, ghash, pad}
use Rattle.macsec_gcm.specs.Gcm.{hash_subkey, inc32, length_block}
use Rattle.macsec_counterexamples.proofs.{
  Names.{[], ◌&&◌, ◌++◌, ◌==◌, ◌∙◌, ◌∷◌, ◌≡◌, A, aad_and_plaintext, add_round_key, added_word, aes},
  Names.{affine_transformation, after_rounds, ap, arith, at_row, authentication_tag, B, bit_xor, Bool, byte_product},
  Names.{Deliver, drop, Event, false, Gcm128, gctr, if◌then◌else◌, in_a_row, InstalledKey, inverse, iv_sent},
  Names.{judgement_of, K128, key_expansion, key_words, length, List, mix_columns, NewKey, None, NotValid, open_of},
  Names.{parts_sent, polynomial_product, pre_counter_block, refl, remainder, replicate, rot_word, round_key, s_box},
  Names.{same_octets, seal_of, Send, shift_rows, slice_index, slice_range, Some, start, State, sub_bytes, sub_word},
  Names.{sum_below, sum_of_words, sym, Tag, tag_sent, take, to_be_bytes, true, tx_options, TxRow, world_step},
  Names.{WorldState, ℕ},
  Link.{
    AcceptancePremises.{Holds, HoldsIn, LawWithout, Premise, SameBytes, SameOffset, each_but, fails_by, frame_from},
    AcceptancePremises.{heard, key_row, seals_as_frame, state_b, tag_from, world_before, world_sent},
    KeyPremises.{answered, cover},
    SealedFrames.{aad_sent, closes, first, first_differs, frame_with, items, rest, sealed, tag_of, with_tag},
    WorkedEnds.{Fails, bytes, client, gcm_a, gcm_b, new_key, no_salt, receives_from, rx_from, sci_a, sends_from},
    WorkedEnds.tx_from,
  },
}
use Rattle.macsec_field128.specs.Field as field128

-- ---- a tag, from its hash

abbrev hash_of : ℕ → List ℕ → List ℕ → ℕ
hash_of subkey aad ciphertext = ghash subkey (pad aad ++ (pad ciphertext ++ pad (length_block aad ciphertext)))

abbrev tag_with : List ℕ → List ℕ → List ℕ → List ℕ → List ℕ
tag_with key iv aad ciphertext = authentication_tag key (pre_counter_block iv) aad ciphertext

-- its first octet, from the first octets of the hash and of the block that covers it
by_hash : (key iv aad ciphertext : List ℕ) →
    first (tag_with key iv aad ciphertext) ≡ bit_xor (slice_index (to_be_bytes w128
    (hash_of (hash_subkey key) aad ciphertext)) 0) (cover key iv)
unfolding authentication_tag gctr first cover
by_hash key iv aad ciphertext = refl

first_is : (key iv aad ciphertext : List ℕ) (subkey hash octet : ℕ) → hash_subkey key ≡ subkey → hash_of subkey aad
    ciphertext ≡ hash → cover key iv ≡ octet →
    first (tag_with key iv aad ciphertext) ≡ bit_xor (slice_index (to_be_bytes w128 hash) 0) octet
first_is key iv aad ciphertext subkey hash octet of_key of_text covers = rw (by_hash _ _ _ _, of_key, of_text, covers)

of_empty : (key iv aad : List ℕ) → tag_of key iv aad ≡ tag_with key iv aad []
unfolding tag_of seal_of gctr
of_empty key iv aad = refl

-- ---- AES of the zero block and of the counter block, under A's key and under another one

abbrev other_bytes : List ℕ
other_bytes = replicate 16 8

abbrev iv : List ℕ
iv = iv_sent (tx_options (start gcm_a)) (key_row Gcm128 1) (tx_from 1)

subkey_is : hash_subkey bytes ≡ 0x4c83b1490bd1a72c53479846884591af
unfolding hash_subkey aes after_rounds add_round_key round_key mix_columns shift_rows sub_bytes key_expansion key_words
    added_word sum_of_words sub_word rot_word
    s_box affine_transformation inverse byte_product remainder polynomial_product sum_below
subkey_is = refl

other_subkey_is : hash_subkey other_bytes ≡ 0x814008523cd539dbbd8db07e3b7ebd5a
unfolding hash_subkey aes after_rounds add_round_key round_key mix_columns shift_rows sub_bytes key_expansion key_words
    added_word sum_of_words sub_word rot_word
    s_box affine_transformation inverse byte_product remainder polynomial_product sum_below
other_subkey_is = refl

cover_is : cover bytes iv ≡ 0x85
unfolding cover pre_counter_block aes after_rounds add_round_key round_key mix_columns shift_rows sub_bytes
    key_expansion key_words added_word sum_of_words sub_word rot_word
    s_box affine_transformation inverse byte_product remainder polynomial_product sum_below
cover_is = refl

other_cover_is : cover other_bytes iv ≡ 0xaa
unfolding cover pre_counter_block aes after_rounds add_round_key round_key mix_columns shift_rows sub_bytes
    key_expansion key_words added_word sum_of_words sub_word rot_word
    s_box affine_transformation inverse byte_product remainder polynomial_product sum_below
other_cover_is = refl

-- ---- other bytes at B

abbrev aad : List ℕ
aad = aad_sent (tx_options (start gcm_a)) (key_row Gcm128 1) (tx_from 1) client

hash_is : hash_of 0x4c83b1490bd1a72c53479846884591af aad [] ≡ 0xbed399d5a9a2be619e2d693b71f70ff0
unfolding ghash block_of blocks_of pad length_block block_product times_x field128.sum_below
hash_is = refl

other_hash_is : hash_of 0x814008523cd539dbbd8db07e3b7ebd5a aad [] ≡ 0xc2f9c2de0d879d18ddc888870e494fa0
unfolding ghash block_of blocks_of pad length_block block_product times_x field128.sum_below
other_hash_is = refl

other_first_is : first (tag_with other_bytes iv aad []) ≡ 0x68
other_first_is = first_is _ _ _ _ _ _ _ other_subkey_is other_hash_is other_cover_is

tags_differ : (first (tag_of other_bytes iv aad) == first (tag_of bytes iv aad)) ≡ false
tags_differ = rw (
  of_empty _ _ _,
  of_empty _ _ _,
  other_first_is,
  first_is _ _ _ _ _ _ _ subkey_is hash_is cover_is,
)

abbrev other_key : NewKey
other_key = record (new_key no_salt 2) { bytes = K128 other_bytes }

abbrev other_row : InstalledKey
other_row = record (key_row Gcm128 2) { bytes = other_bytes }

abbrev with_other : State
with_other = record (state_b gcm_b (rx_from 1)) { keys = other_row ∷ [] }

bytes_judged : (t : List ℕ) → open_of other_bytes iv aad [] (items 16 t) ≡ None → judgement_of with_other
    (frame_from gcm_a 1 t) ≡ at_row (rx_from 1) 1 11 NotValid None
bytes_judged t is = rw is

bytes_answered : (t : List ℕ) → open_of other_bytes iv aad [] (items 16 t) ≡ None →
    (world_step (world_sent (world_before gcm_a 1 with_other) (tx_from 1) (frame_from gcm_a 1 t)) (Deliver B 0)).0 ≡
    heard NotValid None
bytes_answered t is =
    let frame = frame_from gcm_a 1 t in
    let sent = world_sent (world_before gcm_a 1 with_other) (tx_from 1) frame in
    answered sent 0 _ _ refl refl refl (bytes_judged _ is)

abbrev commands : List Event
commands = sends_from A (new_key no_salt 1) 1 false ++ receives_from B other_key sci_a 1 1

pub bytes_needed : Fails (LawWithout SameBytes) gcm_a gcm_b (commands ++ Send A client ∷ [])
bytes_needed = (
  refl,
  fails_by SameBytes gcm_a gcm_b commands (world_before gcm_a 1 with_other) (tx_from 1) (rx_from 1)
      (frame_from gcm_a 1 (tag_from gcm_a 1))
      refl refl refl (rw (seals_as_frame gcm_a 1)) (seals_as_frame gcm_a 1) (record {
        there = refl;
        holds = each_but (HoldsIn gcm_a 1 with_other (rx_from 1)) SameBytes (λ no same. cc) (λ no. refl) (λ no. refl)
            (λ no. absurd (no refl)) (λ no. refl) (λ no. refl) (λ no xpn. cc) (λ no xpn. cc) (λ no. omega arith)
            (λ no xpn. cc);
      }) NotValid None (λ same. cc)
      (bytes_answered (tag_from gcm_a 1) (closes other_bytes iv aad (first (tag_of bytes iv aad))
      (items 15 (rest (tag_of bytes iv aad))) tags_differ)),
)

-- ---- another offset at B: all that A's client sends stays in clear, and B takes all of it for ciphertext

long_tag : (key iv aad ciphertext : List ℕ) → length (tag_with key iv aad ciphertext) ≡ 16
unfolding authentication_tag gctr
long_tag _ _ _ _ = refl

-- a text with a ciphertext opens with only one tag, whatever its plaintext is
closes_with : (key iv aad ciphertext : List ℕ) (octet : ℕ) (others : List ℕ) →
    (first (tag_with key iv aad ciphertext) == octet) ≡ false → open_of key iv aad ciphertext (octet ∷ others) ≡ None
unfolding open_of seal_of
closes_with key iv aad ciphertext octet others other = by_test _ _ refl
  where
    by_test : (again : List ℕ) (b : Bool) → same_octets again ciphertext ≡ b →
        (if b && same_octets (tag_with key iv aad again) (octet ∷ others) then Some
        (gctr key (inc32 (pre_counter_block iv)) ciphertext) else None) ≡ None
    by_test again false is = refl
    by_test again true is =
        rw (ap (λ (c : List ℕ). same_octets (tag_with key iv aad c) (octet ∷ others)) (same_text again ciphertext
        (sym is)) ∙ first_differs _ _ _ (long_tag _ _ _ _) other)

abbrev tx_conf : TxRow
tx_conf = record (tx_from 1) { conf = true }

abbrev key_30 : InstalledKey
key_30 = record (key_row Gcm128 1) { offset = 30 }

abbrev tag_conf : Tag
tag_conf = tag_sent (tx_options (start gcm_a)) tx_conf client

abbrev user_data : List ℕ
user_data = drop 12 client

-- at A, and at B
abbrev aad_30 : List ℕ
aad_30 = (aad_and_plaintext 30 true (take 6 client) (slice_range client 6 12) tag_conf user_data).0

abbrev aad_0 : List ℕ
aad_0 = (aad_and_plaintext 0 true (take 6 client) (slice_range client 6 12) tag_conf user_data).0

hash_30_is : hash_of 0x4c83b1490bd1a72c53479846884591af aad_30 [] ≡ 0xae500395dcf73156bf947ad36d9cadd6
unfolding ghash block_of blocks_of pad length_block block_product times_x field128.sum_below
hash_30_is = refl

hash_0_is : hash_of 0x4c83b1490bd1a72c53479846884591af aad_0 user_data ≡ 0x27126a06eaf58dde4c12aaf89508446f
unfolding ghash block_of blocks_of pad length_block block_product times_x field128.sum_below
hash_0_is = refl

first_0_is : first (tag_with bytes iv aad_0 user_data) ≡ 0xa2
first_0_is = first_is _ _ _ _ _ _ _ subkey_is hash_0_is cover_is

offsets_differ : (first (tag_with bytes iv aad_0 user_data) == first (tag_of bytes iv aad_30)) ≡ false
offsets_differ = rw (
  of_empty _ _ _,
  first_0_is,
  first_is _ _ _ _ _ _ _ subkey_is hash_30_is cover_is,
)

abbrev frame : List ℕ → List ℕ
frame t = frame_with tag_conf client (with_tag t)

seals_clear : in_a_row (parts_sent (tx_options (start gcm_a)) key_30 tx_conf client) ≡ frame (tag_of bytes iv aad_30)
seals_clear = rw (sealed _ _ _)

abbrev offset_0 : State
offset_0 = state_b gcm_b (rx_from 1)

abbrev at_offset_30 : WorldState
at_offset_30 = record (world_before gcm_a 1 offset_0) {
  a = record { state = record (start gcm_a) { keys = key_30 ∷ []; tx = tx_conf ∷ [] }; sent = []; delivered = [] };
}

offset_judged : (t : List ℕ) → open_of bytes iv aad_0 user_data (items 16 t) ≡ None → judgement_of offset_0 (frame t) ≡
    at_row (rx_from 1) 1 11 NotValid None
offset_judged t is = rw is

offset_answered : (t : List ℕ) → open_of bytes iv aad_0 user_data (items 16 t) ≡ None →
    (world_step (world_sent at_offset_30 tx_conf (frame t)) (Deliver B 0)).0 ≡ heard NotValid None
offset_answered t is = answered (world_sent at_offset_30 tx_conf (frame t)) 0 _ _ refl refl refl (offset_judged _ is)

abbrev confidential : List Event
confidential = sends_from A (record (new_key no_salt 1) { offset = 30 }) 1 true ++ receives_from B (new_key no_salt 2)
    sci_a 1 1

abbrev HoldsAt30 : Premise → Type 0
HoldsAt30 r = Holds at_offset_30.a.state offset_0 tx_conf (rx_from 1) (parts_sent (tx_options (start gcm_a)) key_30
    tx_conf client) r

pub offset_needed : Fails (LawWithout SameOffset) gcm_a gcm_b (confidential ++ Send A client ∷ [])
offset_needed = (
  refl,
  fails_by SameOffset gcm_a gcm_b confidential at_offset_30 tx_conf (rx_from 1) (frame (tag_of bytes iv aad_30))
      refl refl refl (rw seals_clear) seals_clear (record {
        there = refl;
        holds = each_but HoldsAt30 SameOffset (λ no same. cc) (λ no. refl) (λ no. refl)
            (λ no. refl) (λ no. refl) (λ no. absurd (no refl)) (λ no xpn. cc) (λ no xpn. cc) (λ no. omega arith)
            (λ no xpn. cc);
      }) NotValid None (λ same. cc)
      (offset_answered (tag_of bytes iv aad_30) (closes_with bytes iv aad_0 user_data (first (tag_of bytes iv aad_30))
      (items 15 (rest (tag_of bytes iv aad_30))) offsets_differ)),
)
