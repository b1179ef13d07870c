-- Runs that meet all premises of order except one about the journal of the sender. A's first run uses packet number 3.
-- Its second run does not read what was reported to the first, or reads another salt. It uses packet numbers 1 and 2.
-- B delivers the frames in the order of packet numbers, and so not in the order of sending.
use Rattle.macsec_restarts.proofs.Examples.Blocks.{blocks, sealed_in}
use Rattle.macsec_restarts.proofs.Examples.Histories.{both, breaks, Facts, facts_of, IsRunOf, Meets, meets_by, never}
use Rattle.macsec_restarts.proofs.Examples.Histories.{of_run, one, pair, refuted, sent_by_two, short_agree}
use Rattle.macsec_restarts.proofs.Examples.Histories.{without_option}
use Rattle.macsec_restarts.proofs.Examples.Tags.{octets_3}
use Rattle.macsec_restarts.proofs.Examples.Told.{heard_by, is_strict, short, told_end, told_link}
use Rattle.macsec_restarts.proofs.Examples.TwoRunsEach.{f3, facts_a, is_free, none_is, one_is}
use Rattle.macsec_restarts.proofs.Examples.TwoRunsEach.{opens_1, opens_3, reads, run_a, t, told_1, u, use_1, use_3}
use Rattle.macsec_restarts.proofs.Examples.Without.{KeepsDeliveredBut, KeepsSentBut, LawWithout, Premise}
use Rattle.macsec_restarts.proofs.Examples.Without.{ReadLawWithout, ReadsBut, ReadsDeliveredBut, ReadsReported}
use Rattle.macsec_restarts.proofs.Examples.Without.{ReadsSalt, ReadsSent, ReadsSentBut}
use Rattle.macsec_restarts.proofs.Names.{[], ◌++◌, ◌<◌, ◌∷◌, ◌≡◌, A, All, arith, B, bytes, client, compress}
use Rattle.macsec_restarts.proofs.Names.{Contains, Delivery, digest_bytes, false, first_words, gcm_a, gcm_b, genuine_at}
use Rattle.macsec_restarts.proofs.Names.{hash_after, highest, highest_of_one, inr, IsReservation, IsSound}
use Rattle.macsec_restarts.proofs.Names.{IsStrictlyIncreasing, IsSubsequence, journal, judgement_of, length-sha256}
use Rattle.macsec_restarts.proofs.Names.{List, map, one_alone, reduced, reduced_reserves, refl, Reservation}
use Rattle.macsec_restarts.proofs.Names.{reservations, rounds, Run, salt, same_octets, says, schedule, sci_a, sci_b}
use Rattle.macsec_restarts.proofs.Names.{seal_of, sending_name, SentIn, sha256, slice_get, Some, State}
use Rattle.macsec_restarts.proofs.Names.{state_after_receiving, subst, suc, sym, true, Uses, zero, ℕ}
use Rattle.macsec_restarts.specs.RenewingRuns.{sent_by_all}
use Rattle.macsec_restarts.proofs.Examples.Receivers as receiver
use Rattle.macsec_restarts.proofs.Examples.Senders as sender

-- ---- what is delivered in another order is no subsequence

abbrev delivered : List (List ℕ)
delivered = (1 ∷ client 1) ∷ (3 ∷ client 3) ∷ []

abbrev sent : List (List ℕ)
sent = (3 ∷ client 3) ∷ (1 ∷ client 1) ∷ (2 ∷ client 1) ∷ []

only_first : (p : ℕ) → slice_get sent p ≡ Some (3 ∷ client 3) → p ≡ 0
only_first zero _ = refl
only_first (suc zero) is = let no : ◌≡◌ {A = ℕ} 1 3 = cc in absurd (omega (arith, no))
only_first (suc (suc zero)) is = let no : ◌≡◌ {A = ℕ} 2 3 = cc in absurd (omega (arith, no))
only_first (suc (suc (suc p))) is = cc

not_in_order : IsSubsequence delivered sent → ⊥
not_in_order it = by_places it.0 it.1 it.2
  where
    by_places : (places : List ℕ) → IsStrictlyIncreasing places →
        map (slice_get sent) places ≡ Some (1 ∷ client 1) ∷ Some (3 ∷ client 3) ∷ [] → ⊥
    by_places (p ∷ q ∷ _) rise same =
        let second : slice_get sent q ≡ Some (3 ∷ client 3) = cc in
        let less = rise 0 (omega arith) in
        omega (arith, less, only_first q second)
    by_places _ rise same = cc

-- ---- two runs of A and one of B

abbrev both_sent : List SentIn
both_sent = sender.sent true ++ sender.sent false

abbrev both_delivered : List Delivery
both_delivered = receiver.delivery 1 ∷ receiver.delivery 3 ∷ []

module _ (left_out : Premise) (a a' b : Run)
    (first : Facts (short 1) sci_a left_out [] (without_option a) (sender.sent true) [])
    (second : Facts (short 1) sci_a left_out [] (without_option a') (sender.sent false) [])
    (heard : (uses : Uses) → Contains uses use_1 → Contains uses use_3 →
    Facts (short 2) sci_b left_out uses (without_option b) [] both_delivered) where
  both_are : sent_by_all (without_option a ∷ without_option a' ∷ []) ≡ both_sent
  both_are = sent_by_two (without_option a) (without_option a') first.told.sends second.told.sends

  sealed_1 : Contains (sealed_in never ((A, a) ∷ (A, a') ∷ [])) use_1
  sealed_1 = subst (λ xs. Contains (map seal_of (xs ++ [])) use_1) (sym both_are) (1, omega arith, refl)

  sealed_3 : Contains (sealed_in never ((A, a) ∷ (A, a') ∷ [])) use_3
  sealed_3 = subst (λ xs. Contains (map seal_of (xs ++ [])) use_3) (sym both_are) (0, omega arith, refl)

  delivers : Facts (short 2) sci_b left_out (sealed_in never ((A, a) ∷ (A, a') ∷ [])) (without_option b) []
      both_delivered
  delivers = heard (sealed_in never ((A, a) ∷ (A, a') ∷ [])) sealed_1 sealed_3

  reordered : Meets left_out never ((A, a) ∷ (A, a') ∷ (B, b) ∷ []) both_sent both_delivered
  reordered = meets_by (short 1) (short 2) short_agree (λ d. (refl, refl))
      (both (IsRunOf (short 1) sci_a) (without_option a) (without_option a') (of_run first) (of_run second))
      (one (IsRunOf (short 2) sci_b) (without_option b) (of_run delivers)) (tt, (tt, (delivers.told.fair, tt)))
      both_are (rw delivers.told.delivers)

  kept_needed : (KeepsSentBut left_out bytes) (without_option a) (without_option a') →
      LawWithout left_out never (blocks ((A, a) ∷ (A, a') ∷ (B, b) ∷ [])) → ⊥
  kept_needed reads = breaks never ((A, a) ∷ (A, a') ∷ (B, b) ∷ []) left_out reordered
      (pair (KeepsSentBut left_out bytes) (without_option a) (without_option a') reads)
      (one_alone (KeepsDeliveredBut left_out bytes sci_a 0) (without_option b)) not_in_order

  read_needed : (ReadsBut left_out) (without_option a) (without_option a') →
      ReadLawWithout left_out never (blocks ((A, a) ∷ (A, a') ∷ (B, b) ∷ [])) → ⊥
  read_needed reads = refuted never ((A, a) ∷ (A, a') ∷ (B, b) ∷ []) (ReadsSentBut left_out)
      (ReadsDeliveredBut left_out) left_out reordered
      (pair (ReadsSentBut left_out bytes) (without_option a) (without_option a') (inr reads))
      (one_alone (ReadsDeliveredBut left_out bytes sci_a 0) (without_option b)) not_in_order

-- ---- the sender's runs: the first reserves up to 3

abbrev reserved_3 : Reservation
reserved_3 = sender.reserves true (salt false)

three_is : All IsReservation (reserved_3 ∷ [])
three_is = one_is _ (record { name = length-sha256 _; last = omega arith })

abbrev first_run : Run
first_run = record { journal = journal false []; config = gcm_a; inputs = sender.inputs true (salt false) }

first_does : {left_out : Premise} {uses : Uses} →
    Facts (short 1) sci_a left_out uses (without_option first_run) (sender.sent true) []
first_does =
    facts_of refl (sender.told (salt false) (reads []) true (is_free [] _ 3 none_is (omega arith)))

-- a second run with another salt reads what was reported to the first, under a name that is not its own
abbrev reads_other : List Reservation
reads_other = reduced (reservations (journal true (reserved_3 ∷ [])))

other_is : (name : List ℕ) → highest reads_other name ≡ highest (reserved_3 ∷ []) name
other_is name = omega (
  arith,
  reduced_reserves (reservations (journal true (reserved_3 ∷ []))) name,
  says true (reserved_3 ∷ []) three_is name,
)

abbrev salted_run : Run
salted_run = record {
  journal = journal true (reserved_3 ∷ []);
  config = gcm_a;
  inputs = sender.inputs false (salt true);
}

names_differ : same_octets (sending_name (salt false) bytes) (sending_name (salt true) bytes) ≡ false
unfolding first_words schedule rounds compress hash_after digest_bytes sha256
names_differ = refl

other_free : highest reads_other (sending_name (salt true) bytes) < 1
other_free =
    let name = sending_name (salt true) bytes in
    omega (arith, other_is name, highest_of_one reserved_3 name false names_differ)

salted_does : {left_out : Premise} {uses : Uses} →
    Facts (short 1) sci_a left_out uses (without_option salted_run) (sender.sent false) []
salted_does = facts_of refl (sender.told (salt true) reads_other false other_free)

-- ---- the receiver's run

abbrev run_b : Run
run_b = record {
  journal = journal false [];
  config = gcm_b;
  inputs = receiver.commands false ++ (receiver.link 1 t ∷ receiver.link 3 u ∷ []);
}

judged_3 : judgement_of (receiver.heard_1 t) f3 ≡ receiver.accepts_3
judged_3 = rw opens_3

abbrev heard_both : State
heard_both = state_after_receiving (receiver.heard_1 t) f3 receiver.accepts_3

both_sound : IsSound heard_both
both_sound = heard_by f3 refl judged_3 refl (receiver.heard_1_sound t opens_1)

b_does : (left_out : Premise) (uses : Uses) → Contains uses use_1 → Contains uses use_3 →
    Facts (short 2) sci_b left_out uses (without_option run_b) [] both_delivered
b_does left_out uses there there' = facts_of refl (receiver.told (salt false) (reads []) false
    (is_free [] _ 1 none_is (omega arith)) (told_1 (reads []) (λ d. there)
    (told_link receiver.accepts_3 refl judged_3 (receiver.heard_1_good t opens_1) (is_strict refl refl refl) octets_3
    (λ d. genuine_at (receiver.heard_1 t) f3 receiver.accepts_3 uses judged_3 there')
    (told_end _ (receiver.is_good refl both_sound)))))

-- ---- without the premise

-- the second run does not read what was sent
pub sent_needed : LawWithout ReadsSent never (blocks ((A, first_run) ∷ (A, run_a false) ∷ (B, run_b) ∷ [])) → ⊥
sent_needed = kept_needed ReadsSent first_run (run_a false) run_b first_does (facts_a false) (b_does ReadsSent)
    (λ d. absurd (d refl))

-- it reads an empty journal
pub reported_needed : ReadLawWithout ReadsReported never
    (blocks ((A, first_run) ∷ (A, run_a false) ∷ (B, run_b) ∷ [])) → ⊥
reported_needed = read_needed ReadsReported first_run (run_a false) run_b first_does (facts_a false)
    (b_does ReadsReported) (record { salt = λ d. refl; reported = λ d. absurd (d refl) })

-- it reads all that was reported, and another salt
pub journal_salt_needed : ReadLawWithout ReadsSalt never
    (blocks ((A, first_run) ∷ (A, salted_run) ∷ (B, run_b) ∷ [])) → ⊥
journal_salt_needed = read_needed ReadsSalt first_run salted_run run_b first_does salted_does (b_does ReadsSalt)
    (record {
      salt = λ d. absurd (d refl);
      reported = λ d name. omega (arith, says true (reserved_3 ∷ []) three_is name);
    })
