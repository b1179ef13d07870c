-- With extended packet numbers, acceptance needs the same salt and SSCI. With others at B its IV differs, and the tag
-- does not open. Two blocks of AES are computed for each.
use Rattle.std.proofs.lemmas.Bool.{eqb-false}
use Rattle.macsec_counterexamples.proofs.{
  Names.{[], ◌++◌, ◌==◌, ◌∷◌, ◌≡◌, ◌≢◌, A, add_round_key, added_word, aes, affine_transformation, after_rounds, arith},
  Names.{at_row, authentication_tag, B, byte_product, Deliver, Event, false, fault_of, frame_at, frame_fault, gctr},
  Names.{inverse, iv_of, iv_sent, Judgement, judgement_of, key_expansion, key_words, List, mix_columns, ne_eqb, None},
  Names.{NotValid, open_of, polynomial_product, pre_counter_block, refl, remainder, replicate, rot_word, round_key},
  Names.{RxRow, s_box, seal_of, Send, shift_rows, slice_index, start, State, sub_bytes, sub_word, sum_below},
  Names.{sum_of_words, sum_with_stream, tx_options, world_step, WorldState, Xpn128, ℕ},
  Link.{
    AcceptancePremises.{HoldsIn, LawWithout, SameSalt, SameSsci, each_but, fails_by, frame_from, heard, key_row},
    AcceptancePremises.{seals_as_frame, state_b, tag_from, world_before, world_sent},
    Ivs.xor_same,
    SealedFrames.{aad_sent, closes, first, items, rest, tag_of},
    WorkedEnds.{Fails, bytes, client, new_key, no_salt, receives_from, rx_from, sci_a, sends_from, tx_from, xpn_a},
    WorkedEnds.xpn_b,
  },
}

-- ---- tags under two IVs

-- the first octet of the block that covers the hash
unfoldable pub cover : List ℕ → List ℕ → ℕ
cover key iv = slice_index (aes key (pre_counter_block iv)) 0

same_cover : (key iv other aad : List ℕ) → first (tag_of key iv aad) ≡ first (tag_of key other aad) → cover key iv ≡
    cover key other
unfolding tag_of seal_of authentication_tag gctr first cover
same_cover key iv other aad same = xor_same _ _ _ same

stays_closed : (key iv other aad : List ℕ) → cover key iv ≢ cover key other → open_of key iv aad []
    (items 16 (tag_of key other aad)) ≡ None
stays_closed key iv other aad differ = closes _ _ _ _ _ (ne_eqb _ _ (λ same. differ (same_cover _ _ _ _ same)))

-- ---- the IVs

abbrev aad : List ℕ
aad = aad_sent (tx_options (start xpn_a)) (key_row Xpn128 1) (tx_from 1) client

abbrev iv_a : List ℕ
iv_a = iv_sent (tx_options (start xpn_a)) (key_row Xpn128 1) (tx_from 1)

abbrev other_salt : List ℕ
other_salt = replicate 11 0 ++ 1 ∷ []

abbrev iv_by_salt : List ℕ
iv_by_salt = iv_of Xpn128 sci_a 1 other_salt 1

abbrev iv_by_ssci : List ℕ
iv_by_ssci = iv_of Xpn128 sci_a 3 no_salt 1

salts_differ : (cover bytes iv_by_salt == cover bytes iv_a) ≡ false
unfolding cover pre_counter_block sum_with_stream
    aes after_rounds add_round_key round_key mix_columns shift_rows sub_bytes key_expansion key_words added_word
    sum_of_words sub_word rot_word
    s_box affine_transformation inverse byte_product remainder polynomial_product sum_below
salts_differ = refl

sscis_differ : (cover bytes iv_by_ssci == cover bytes iv_a) ≡ false
unfolding cover pre_counter_block sum_with_stream
    aes after_rounds add_round_key round_key mix_columns shift_rows sub_bytes key_expansion key_words added_word
    sum_of_words sub_word rot_word
    s_box affine_transformation inverse byte_product remainder polynomial_product sum_below
sscis_differ = refl

-- ---- the runs

pub answered : (w : WorldState) (n : ℕ) (frame : List ℕ) (j : Judgement) → fault_of w (Deliver B n) ≡ None → frame_at w
    n ≡ frame → frame_fault frame ≡ None →
    judgement_of w.b.state frame ≡ j → (world_step w (Deliver B n)).0 ≡ heard j.verdict j.delivered
answered w n frame j none there fits judged = rw (none, there, fits, judged) refl

abbrev commands : List ℕ → ℕ → List Event
commands salt ssci = sends_from A (new_key no_salt 1) 1 false ++ receives_from B (new_key salt 2) sci_a ssci 1

-- another salt at B
abbrev salted : State
salted = record (state_b xpn_b (rx_from 1)) { keys = record (key_row Xpn128 2) { salt = other_salt } ∷ [] }

salt_judged : (t : List ℕ) → open_of bytes iv_by_salt aad [] (items 16 t) ≡ None → judgement_of salted
    (frame_from xpn_a 1 t) ≡ at_row (rx_from 1) 1 11 NotValid None
salt_judged t is = rw is

salt_answered : (t : List ℕ) → open_of bytes iv_by_salt aad [] (items 16 t) ≡ None →
    (world_step (world_sent (world_before xpn_a 1 salted) (tx_from 1) (frame_from xpn_a 1 t)) (Deliver B 0)).0 ≡ heard
    NotValid None
salt_answered t is =
    let frame = frame_from xpn_a 1 t in
    let sent = world_sent (world_before xpn_a 1 salted) (tx_from 1) frame in
    answered sent 0 _ _ refl refl refl (salt_judged _ is)

pub salt_needed : Fails (LawWithout SameSalt) xpn_a xpn_b (commands other_salt 1 ++ Send A client ∷ [])
salt_needed = (
  refl,
  fails_by SameSalt xpn_a xpn_b (commands other_salt 1) (world_before xpn_a 1 salted) (tx_from 1) (rx_from 1)
      (frame_from xpn_a 1 (tag_from xpn_a 1))
      refl refl refl (rw (seals_as_frame xpn_a 1)) (seals_as_frame xpn_a 1) (record {
        there = refl;
        holds = each_but (HoldsIn xpn_a 1 salted (rx_from 1)) SameSalt (λ no same. cc) (λ no. refl) (λ no. refl)
            (λ no. refl) (λ no. refl) (λ no. refl) (λ no. absurd (no refl)) (λ no xpn. refl) (λ no. omega arith)
            (λ no xpn. omega arith);
      }) NotValid None (λ same. cc) (salt_answered (tag_from xpn_a 1) (stays_closed bytes iv_by_salt iv_a aad
      (eqb-false (cover bytes iv_by_salt) (cover bytes iv_a) salts_differ))),
)

-- another SSCI at B's association
abbrev rx_of_3 : RxRow
rx_of_3 = record (rx_from 1) { ssci = 3 }

ssci_judged : (t : List ℕ) → open_of bytes iv_by_ssci aad [] (items 16 t) ≡ None → judgement_of (state_b xpn_b rx_of_3)
    (frame_from xpn_a 1 t) ≡ at_row rx_of_3 1 11 NotValid None
ssci_judged t is = rw is

ssci_answered : (t : List ℕ) → open_of bytes iv_by_ssci aad [] (items 16 t) ≡ None →
    (world_step (world_sent (world_before xpn_a 1 (state_b xpn_b rx_of_3)) (tx_from 1) (frame_from xpn_a 1 t))
    (Deliver B 0)).0 ≡ heard NotValid None
ssci_answered t is =
    let frame = frame_from xpn_a 1 t in
    let sent = world_sent (world_before xpn_a 1 (state_b xpn_b rx_of_3)) (tx_from 1) frame in
    answered sent 0 _ _ refl refl refl (ssci_judged _ is)

pub ssci_needed : Fails (LawWithout SameSsci) xpn_a xpn_b (commands no_salt 3 ++ Send A client ∷ [])
ssci_needed = (
  refl,
  fails_by SameSsci xpn_a xpn_b (commands no_salt 3) (world_before xpn_a 1 (state_b xpn_b rx_of_3)) (tx_from 1) rx_of_3
      (frame_from xpn_a 1 (tag_from xpn_a 1))
      refl refl refl (rw (seals_as_frame xpn_a 1)) (seals_as_frame xpn_a 1) (record {
        there = refl;
        holds = each_but (HoldsIn xpn_a 1 (state_b xpn_b rx_of_3) rx_of_3) SameSsci (λ no same. cc) (λ no. refl)
            (λ no. refl)
            (λ no. refl) (λ no. refl) (λ no. refl) (λ no xpn. refl) (λ no. absurd (no refl)) (λ no. omega arith)
            (λ no xpn. omega arith);
      }) NotValid None (λ same. cc) (ssci_answered (tag_from xpn_a 1) (stays_closed bytes iv_by_ssci iv_a aad
      (eqb-false (cover bytes iv_by_ssci) (cover bytes iv_a) sscis_differ))),
)
