-- Runs in which B's first run reserves ahead of receiving, and which meet all premises of order except one about B's
-- journal. B reserves packet number 1, and delivers A's frame. Its second run does not read what was reported to the
-- first, or reads another salt. It delivers the frame again.
use Rattle.macsec_reserve.specs.Keeping.{for_each_key}
use Rattle.macsec_restarts.proofs.Examples.Blocks.{blocks, EndRun, sealed_in}
use Rattle.macsec_restarts.proofs.Examples.Histories.{both, delivered_by_two, Facts, facts_of, IsRunOf, Meets, meets_by}
use Rattle.macsec_restarts.proofs.Examples.Histories.{of_run, one, pair, refuted, short_agree, without_option}
use Rattle.macsec_restarts.proofs.Examples.NotSent.{plain, plain_does}
use Rattle.macsec_restarts.proofs.Examples.Replays.{not_twice, twice_1}
use Rattle.macsec_restarts.proofs.Examples.Tags.{octets_1}
use Rattle.macsec_restarts.proofs.Examples.Told.{gives_by, goes_on, is_strict, link_step_by, on_as, short}
use Rattle.macsec_restarts.proofs.Examples.Told.{told_end, told_gives, told_link, told_next}
use Rattle.macsec_restarts.proofs.Examples.TwoRunsEach.{f1, facts_a, is_free, none_is, opens_1}
use Rattle.macsec_restarts.proofs.Examples.TwoRunsEach.{reads, run_a, saved_1, saved_is, t, use_1}
use Rattle.macsec_restarts.proofs.Examples.Without.{Premise, ReadLawWithout, ReadsBut, ReadsDeliveredBut, ReadsReported}
use Rattle.macsec_restarts.proofs.Examples.Without.{ReadsSalt, ReadsSentBut}
use Rattle.macsec_restarts.proofs.Names.{[], ◌++◌, ◌<◌, ◌==◌, ◌∷◌, ◌≡◌, A, Ahead, arith, B, Bool, bytes, compress}
use Rattle.macsec_restarts.proofs.Names.{Contains, digest_bytes, End, false, first_words, gcm_b, genuine_at, hash_after}
use Rattle.macsec_restarts.proofs.Names.{highest, highest_of_one, inr, journal, Keeping, keeping_step, kept, key_row}
use Rattle.macsec_restarts.proofs.Names.{lets_through, link_frame, List, lt-leb, map, name_of, nat_le}
use Rattle.macsec_restarts.proofs.Names.{newly_delivered_with, None, now_durable, one_alone, passes, raised_alone}
use Rattle.macsec_restarts.proofs.Names.{raised_by, reduced, reduced_reserves, refl, Reservation, reservations, rounds}
use Rattle.macsec_restarts.proofs.Names.{Run, RunWith, rx_from, salt, same_octets, same_octets-refl, says, schedule}
use Rattle.macsec_restarts.proofs.Names.{sci_a, sci_b, sha256, Some, standing_by, State, true, Uses, ℕ}
use Rattle.macsec_restarts.specs.RenewingRuns.{ahead_renewing_step}
use Rattle.macsec_restarts.proofs.Examples.Receivers as receiver
use Rattle.macsec_restarts.proofs.Examples.Senders as sender

-- B's first run has the option
abbrev first_ahead : End → ℕ → Bool
first_ahead A n = false
first_ahead B n = n == 0

abbrev with_option : Run → RunWith
with_option run = record { ahead = true; run = run }

-- ---- B's first run

abbrev name : List ℕ
name = name_of (salt false)

abbrev first_run : Run
first_run = record {
  journal = journal false [];
  config = gcm_b;
  inputs = receiver.commands false ++ (now_durable saved_1 ∷ receiver.link 1 t ∷ []);
}

free_b : highest (reads []) name < 1
free_b = is_free [] name 1 none_is (omega arith)

-- what was reported for the key
abbrev granted : List Reservation
granted = map (raised_by saved_1) (for_each_key (salt false) [] (key_row 2 1 ∷ []))

abbrev k_at : State → Keeping
k_at s = kept (salt false) (reads []) granted s

abbrev reserved : State → Ahead
reserved s = record (on_as true (k_at s)) { taken = saved_1 ∷ [] }

reports : (ahead_renewing_step (on_as true (receiver.at (salt false) (reads []) (receiver.ready false)))
    (now_durable saved_1)).1 ≡ reserved (receiver.ready false)
reports = rw (raised_alone name 1)

not_before : nat_le 1 (highest (reads []) name) ≡ false
not_before = lt-leb 1 (highest (reads []) name) free_b

is_reserved : nat_le 1 (highest (saved_1 ∷ []) name) ≡ true
is_reserved = rw (same_octets-refl name)

is_let_by : standing_by (reserved (receiver.ready false)) receiver.accepts_1 None (Some (rx_from 1)) ≡ passes
is_let_by = rw (not_before, is_reserved)

is_let : lets_through (reserved (receiver.ready false)) (receiver.link 1 t) ≡ true
is_let = rw (receiver.judged_1 t opens_1, is_let_by)

hears : (keeping_step (k_at (receiver.ready false)) (receiver.link 1 t)).1 ≡ k_at (receiver.heard_1 t)
hears = link_step_by (k_at (receiver.ready false)) f1 receiver.accepts_1 refl (receiver.judged_1 t opens_1)

gives : newly_delivered_with (reserved (receiver.ready false)) (receiver.link 1 t) ≡ receiver.delivery 1 ∷ []
gives =
    rw (is_let, gives_by (k_at (receiver.ready false)) f1 receiver.accepts_1 refl (receiver.judged_1 t opens_1))

first_does : (left_out : Premise) (uses : Uses) → Contains uses use_1 →
    Facts (short 2) sci_b left_out uses (with_option first_run) [] (receiver.delivery 1 ∷ [])
first_does left_out uses there = facts_of refl (receiver.told (salt false) (reads []) false free_b
    (told_next (receiver.ready_good false) refl refl reports (told_gives {now = []} (receiver.ready_good false) refl
    gives (λ some. record {
      order = is_strict refl refl refl;
      octets = octets_1;
      genuine = λ d. genuine_at (receiver.ready false) f1 receiver.accepts_1 uses (receiver.judged_1 t opens_1) there;
    }) (goes_on (reserved (receiver.ready false)) (link_frame f1) (k_at (receiver.heard_1 t)) is_let hears)
    (told_end (reserved (receiver.heard_1 t)) (receiver.heard_1_good t opens_1)))))

-- ---- two runs of B, the second one without the option

module _ (left_out : Premise) (a b b' : Run)
    (sends : Facts (short 1) sci_a left_out [] (without_option a) (sender.sent false) [])
    (first : (uses : Uses) → Contains uses use_1 →
    Facts (short 2) sci_b left_out uses (with_option b) [] (receiver.delivery 1 ∷ []))
    (second : (uses : Uses) → Contains uses use_1 →
    Facts (short 2) sci_b left_out uses (without_option b') [] (receiver.delivery 1 ∷ [])) where
  abbrev its : List EndRun
  its = (A, a) ∷ (B, b) ∷ (B, b') ∷ []

  sealed_1 : Contains (sealed_in first_ahead ((A, a) ∷ [])) use_1
  sealed_1 = rw sends.told.sends (0, omega arith, refl)

  sealed_2 : Contains (sealed_in first_ahead ((A, a) ∷ (B, b) ∷ [])) use_1
  sealed_2 = rw sends.told.sends (0, omega arith, refl)

  delivers_1 : Facts (short 2) sci_b left_out (sealed_in first_ahead ((A, a) ∷ [])) (with_option b) []
      (receiver.delivery 1 ∷ [])
  delivers_1 = first (sealed_in first_ahead ((A, a) ∷ [])) sealed_1

  delivers_2 : Facts (short 2) sci_b left_out (sealed_in first_ahead ((A, a) ∷ (B, b) ∷ [])) (without_option b') []
      (receiver.delivery 1 ∷ [])
  delivers_2 = second (sealed_in first_ahead ((A, a) ∷ (B, b) ∷ [])) sealed_2

  again : Meets left_out first_ahead its (sender.sent false) twice_1
  again = meets_by (short 1) (short 2) short_agree (λ d. (refl, refl))
      (one (IsRunOf (short 1) sci_a) (without_option a) (of_run sends))
      (both (IsRunOf (short 2) sci_b) (with_option b) (without_option b') (of_run delivers_1) (of_run delivers_2))
      (tt, (delivers_1.told.fair, (delivers_2.told.fair, tt))) (rw sends.told.sends)
      (delivered_by_two (with_option b) (without_option b') delivers_1.told.delivers delivers_2.told.delivers)

  needed : ReadsBut left_out (with_option b) (without_option b') →
      ReadLawWithout left_out first_ahead (blocks its) → ⊥
  needed reads' = refuted first_ahead its (ReadsSentBut left_out) (ReadsDeliveredBut left_out) left_out again
      (one_alone (ReadsSentBut left_out bytes) (without_option a))
      (pair (ReadsDeliveredBut left_out bytes sci_a 0) (with_option b) (without_option b')
      (inr ((λ d. refl), reads'))) not_twice

-- it reads an empty journal
pub reported_needed_to_deliver : ReadLawWithout ReadsReported first_ahead
    (blocks ((A, run_a false) ∷ (B, first_run) ∷ (B, plain) ∷ [])) → ⊥
reported_needed_to_deliver = needed ReadsReported (run_a false) first_run plain (facts_a false)
    (first_does ReadsReported) (λ uses there. plain_does ReadsReported uses (λ d. there))
    (record { salt = λ d. refl; reported = λ d. absurd (d refl) })

-- it reads all that was reported, and another salt
abbrev reads_other : List Reservation
reads_other = reduced (reservations (journal true (saved_1 ∷ [])))

other_is : (n : List ℕ) → highest reads_other n ≡ highest (saved_1 ∷ []) n
other_is n = omega (
  arith,
  reduced_reserves (reservations (journal true (saved_1 ∷ []))) n,
  says true (saved_1 ∷ []) saved_is n,
)

names_apart : same_octets name (name_of (salt true)) ≡ false
unfolding first_words schedule rounds compress hash_after digest_bytes sha256
names_apart = refl

abbrev salted_run : Run
salted_run = record {
  journal = journal true (saved_1 ∷ []);
  config = gcm_b;
  inputs = receiver.commands false ++ receiver.link 1 t ∷ [];
}

salted_does : (left_out : Premise) (uses : Uses) → Contains uses use_1 →
    Facts (short 2) sci_b left_out uses (without_option salted_run) [] (receiver.delivery 1 ∷ [])
salted_does left_out uses there = facts_of refl (receiver.told (salt true) reads_other false
    (omega (arith, other_is (name_of (salt true)), highest_of_one saved_1 (name_of (salt true)) false names_apart))
    (told_link receiver.accepts_1 refl (receiver.judged_1 t opens_1) (receiver.ready_good false)
    (is_strict refl refl refl) octets_1
    (λ d. genuine_at (receiver.ready false) f1 receiver.accepts_1 uses (receiver.judged_1 t opens_1) there)
    (told_end _ (receiver.heard_1_good t opens_1))))

pub salt_needed_to_deliver : ReadLawWithout ReadsSalt first_ahead
    (blocks ((A, run_a false) ∷ (B, first_run) ∷ (B, salted_run) ∷ [])) → ⊥
salt_needed_to_deliver = needed ReadsSalt (run_a false) first_run salted_run (facts_a false) (first_does ReadsSalt)
    (salted_does ReadsSalt) (record {
      salt = λ d. absurd (d refl);
      reported = λ d n. omega (arith, says true (saved_1 ∷ []) saved_is n);
    })
