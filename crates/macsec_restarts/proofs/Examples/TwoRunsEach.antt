-- Two runs of each end that meet all premises of order. A sends the same client frame twice, with packet numbers (PNs)
-- 1 and 2, and the second one is lost. B delivers the first, and drops its replay as late. Then both restart. A sends
-- another client frame, with PN 3. B drops the first frame again, and delivers the one with PN 3.
use Rattle.macsec_restarts.proofs.Examples.Blocks.{blocks, EndRun, sealed_in}
use Rattle.macsec_restarts.proofs.Examples.Histories.{both, delivered_by_two, Facts, facts_of, IsRunOf, keeps_delivered}
use Rattle.macsec_restarts.proofs.Examples.Histories.{keeps_sent, keeps_used, Meets, meets_all, meets_by, MeetsAll}
use Rattle.macsec_restarts.proofs.Examples.Histories.{never, no_iv, of_run, one, pair, sent_by_two, short_agree}
use Rattle.macsec_restarts.proofs.Examples.Histories.{without_option}
use Rattle.macsec_restarts.proofs.Examples.Tags.{octets_1, octets_3}
use Rattle.macsec_restarts.proofs.Examples.Told.{is_strict, on, short, Told, told_drop, told_end, told_link}
use Rattle.macsec_restarts.proofs.Examples.Told.{told_next}
use Rattle.macsec_restarts.proofs.Examples.Without.{IsNotForged, NoPremise, Premise}
use Rattle.macsec_restarts.proofs.Names.{[], ◌++◌, ◌<◌, ◌∷◌, ◌≡◌, ◌≢◌, ◌≤◌, A, aad, Ahead, All, All-nil, arith, B}
use Rattle.macsec_restarts.proofs.Names.{Bool, bytes, CipherUse, client, Contains, Delivery, false, gcm_a, gcm_b}
use Rattle.macsec_restarts.proofs.Names.{genuine_at, highest, if◌then◌else◌, Inputs, IsReservation, iv, journal}
use Rattle.macsec_restarts.proofs.Names.{Keeping, length-sha256, List, map, max, name_of, now_durable, Opens, opens}
use Rattle.macsec_restarts.proofs.Names.{reduced, reduced_reserves, refl, Reservation, reservations, Run, runs_at, salt}
use Rattle.macsec_restarts.proofs.Names.{salt_of, same_octets-refl, says, sci_a, sci_b, seal_of, sending_name, SentIn}
use Rattle.macsec_restarts.proofs.Names.{State, subst, sym, tag, true, use_of, Uses, ℕ}
use Rattle.macsec_restarts.specs.RenewingOrder.{IsHistoryWith, KeepsDeliveredWith, KeepsSentWith}
use Rattle.macsec_restarts.specs.RenewingRuns.{KeepsUsedWith, sent_by_all}
use Rattle.macsec_restarts.specs.Used.{Covers}
use Rattle.macsec_restarts.proofs.Examples.Receivers as receiver
use Rattle.macsec_restarts.proofs.Examples.Senders as sender

abbrev pub use_1 : CipherUse
use_1 = use_of 1 (client 1) (tag 1 (client 1))

abbrev pub use_3 : CipherUse
use_3 = use_of 3 (client 3) (tag 3 (client 3))

-- ---- any runs that send and deliver so

module _ (a a' b b' : Run) (first : Facts (short 1) sci_a NoPremise [] (without_option a) (sender.sent false) [])
    (second : Facts (short 1) sci_a NoPremise [] (without_option a') (sender.sent true) [])
    (heard : (uses : Uses) → Contains uses use_1 →
    Facts (short 2) sci_b NoPremise uses (without_option b) [] (receiver.delivery 1 ∷ []))
    (heard' : (uses : Uses) → Contains uses use_3 →
    Facts (short 2) sci_b NoPremise uses (without_option b') [] (receiver.delivery 3 ∷ [])) where
  abbrev its : List EndRun
  its = (A, a) ∷ (B, b) ∷ (A, a') ∷ (B, b') ∷ []

  has_sealed_1 : Contains (sealed_in never ((A, a) ∷ [])) use_1
  has_sealed_1 = rw first.told.sends (0, omega arith, refl)

  b_does : Facts (short 2) sci_b NoPremise (sealed_in never ((A, a) ∷ [])) (without_option b) []
      (receiver.delivery 1 ∷ [])
  b_does = heard (sealed_in never ((A, a) ∷ [])) has_sealed_1

  has_sealed_3 : Contains (sealed_in never ((A, a) ∷ (B, b) ∷ (A, a') ∷ [])) use_3
  has_sealed_3 = subst (λ xs. Contains (map seal_of (xs ++ sent_by_all (without_option b ∷ []))) use_3)
      (sym (sent_by_two (without_option a) (without_option a') first.told.sends second.told.sends))
      (2, omega arith, refl)

  b_then : Facts (short 2) sci_b NoPremise (sealed_in never ((A, a) ∷ (B, b) ∷ (A, a') ∷ [])) (without_option b') []
      (receiver.delivery 3 ∷ [])
  b_then = heard' (sealed_in never ((A, a) ∷ (B, b) ∷ (A, a') ∷ [])) has_sealed_3

  it_meets : Meets NoPremise never its (sender.sent false ++ sender.sent true)
      (receiver.delivery 1 ∷ receiver.delivery 3 ∷ [])
  it_meets = meets_by (short 1) (short 2) short_agree (λ d. (refl, refl))
      (both (IsRunOf (short 1) sci_a) (without_option a) (without_option a') (of_run first) (of_run second))
      (both (IsRunOf (short 2) sci_b) (without_option b) (without_option b') (of_run b_does) (of_run b_then))
      (tt, (b_does.told.fair, (tt, (b_then.told.fair, tt))))
      (sent_by_two (without_option a) (without_option a') first.told.sends second.told.sends)
      (delivered_by_two (without_option b) (without_option b') b_does.told.delivers b_then.told.delivers)

  pub meets : (2 ≤ highest (reservations a'.journal) (sending_name (salt_of a'.journal) bytes)) →
      (1 ≤ highest (reservations b'.journal) (name_of (salt_of b'.journal))) →
      MeetsAll never its bytes ((1 ∷ client 1) ∷ (2 ∷ client 1) ∷ (3 ∷ client 3) ∷ [])
      ((1 ∷ client 1) ∷ (3 ∷ client 3) ∷ [])
  meets reads_2 reads_1 = meets_all never its bytes it_meets
      (pair (KeepsSentWith bytes) (without_option a) (without_option a') (keeps_sent bytes (without_option a)
      (without_option a') first.told.sends (both (λ (x : SentIn). x.number ≤ highest (reservations a'.journal)
      (sending_name (salt_of a'.journal) bytes)) (sender.sent_at 1 1) (sender.sent_at 2 1) (omega (arith, reads_2))
      reads_2)))
      (pair (KeepsDeliveredWith bytes sci_a 0) (without_option b) (without_option b')
      (keeps_delivered (without_option b) (without_option b') b_does.told.delivers
      (one (λ (d : Delivery). d.number ≤ highest (reservations b'.journal) (name_of (salt_of b'.journal)))
      (receiver.delivery 1) reads_1)))

  pub no_iv_at_a : (2 ≤ highest (reservations a'.journal) (sending_name (salt_of a'.journal) bytes)) →
      IsHistoryWith (runs_at never A (blocks its))
  no_iv_at_a reads_2 = no_iv never its it_meets (pair KeepsUsedWith (without_option a) (without_option a')
      (keeps_used (without_option a) (without_option a') first.told.sends second.told.sends
      (both (λ x. All (Covers a' x) (sender.sent true)) (sender.sent_at 1 1) (sender.sent_at 2 1)
      (one (Covers a' (sender.sent_at 1 1)) (sender.sent_at 3 3) (λ same. omega (arith, reads_2)))
      (one (Covers a' (sender.sent_at 2 1)) (sender.sent_at 3 3) (λ same. reads_2)))))

-- ---- the journals

abbrev pub reads : List Reservation → List Reservation
reads rs = reduced (reservations (journal false rs))

pub is_free : (rs : List Reservation) (name : List ℕ) (n : ℕ) → All IsReservation rs → highest rs name < n →
    highest (reads rs) name < n
is_free rs name n are free =
    omega (arith, reduced_reserves (reservations (journal false rs)) name, says false rs are name, free)

abbrev pub saved_1 : Reservation
saved_1 = record { name = name_of (salt false); last = 1 }

abbrev pub reserved_2 : Reservation
reserved_2 = sender.reserves false (salt false)

pub one_is : (r : Reservation) → IsReservation r → All IsReservation (r ∷ [])
one_is r is = one IsReservation r is

pub none_is : All IsReservation []
none_is = All-nil _

pub saved_is : All IsReservation (saved_1 ∷ [])
saved_is = one_is _ (record { name = length-sha256 _; last = omega arith })

pub reserved_is : All IsReservation (reserved_2 ∷ [])
reserved_is = one_is _ (record { name = length-sha256 _; last = omega arith })

pub at_most : (name other : List ℕ) (last n : ℕ) → last < n →
    highest (record { name = name; last = last } ∷ []) other < n
at_most _ _ last n less = by_name _
  where
    by_name : (b : Bool) → (if b then max last 0 else 0) < n
    by_name true = omega (arith, less)
    by_name false = omega (arith, less)

-- ---- the sender's runs

abbrev before_a : Bool → List Reservation
before_a false = []
before_a true = reserved_2 ∷ []

abbrev pub run_a : Bool → Run
run_a again = record {
  journal = journal false (before_a again);
  config = gcm_a;
  inputs = sender.inputs again (salt false);
}

pub facts_a : {left_out : Premise} {uses : Uses} (again : Bool) →
    Facts (short 1) sci_a left_out uses (without_option (run_a again)) (sender.sent again) []
facts_a false = facts_of refl (sender.told (salt false) (reads []) false
    (is_free [] (sending_name (salt false) bytes) 1 none_is (omega arith)))
facts_a true = facts_of refl (sender.told (salt false) (reads (reserved_2 ∷ [])) true
    (is_free (reserved_2 ∷ []) (sending_name (salt false) bytes) 3 reserved_is
    (at_most (sending_name (salt false) bytes) (sending_name (salt false) bytes) 2 3 (omega arith))))

-- ---- the receiver's runs

abbrev pub t : List ℕ
t = tag 1 (client 1)

abbrev pub u : List ℕ
u = tag 3 (client 3)

pub opens_1 : Opens 1 t
opens_1 = opens bytes (iv 1) (aad 1 (client 1))

pub opens_3 : Opens 3 u
opens_3 = opens bytes (iv 3) (aad 3 (client 3))

abbrev pub f1 : List ℕ
f1 = receiver.frame 1 t

abbrev pub f3 : List ℕ
f3 = receiver.frame 3 u

-- the first frame is delivered
pub told_1 : {left_out : Premise} {uses : Uses} (before : List Reservation) {inputs : Inputs} {ds : List Delivery}
    {last : Ahead} → (IsNotForged ≢ left_out → Contains uses use_1) →
    Told (short 2) left_out uses (on (receiver.at (salt false) before (receiver.heard_1 t))) inputs [] ds last →
    Told (short 2) left_out uses (on (receiver.at (salt false) before (receiver.ready false)))
    (receiver.link 1 t ∷ inputs) [] (receiver.delivery 1 ∷ ds) last
told_1 {uses} before there rest = told_link receiver.accepts_1 refl (receiver.judged_1 t opens_1)
    (receiver.ready_good false) (is_strict refl refl refl) octets_1
    (λ d. genuine_at (receiver.ready false) f1 receiver.accepts_1 uses (receiver.judged_1 t opens_1) (there d)) rest

abbrev heard_in : Bool → Inputs
heard_in false = receiver.link 1 t ∷ receiver.link 1 t ∷ now_durable saved_1 ∷ []
heard_in true = receiver.link 1 t ∷ receiver.link 3 u ∷ []

abbrev before_b : Bool → List Reservation
before_b false = []
before_b true = saved_1 ∷ []

abbrev run_b : Bool → Run
run_b again = record {
  journal = journal false (before_b again);
  config = gcm_b;
  inputs = receiver.commands again ++ heard_in again;
}

abbrev at_b : Bool → State → Keeping
at_b again s = receiver.at (salt false) (reads (before_b again)) s

facts_1 : (uses : Uses) → Contains uses use_1 →
    Facts (short 2) sci_b NoPremise uses (without_option (run_b false)) [] (receiver.delivery 1 ∷ [])
facts_1 uses there = facts_of refl (receiver.told (salt false) (reads []) false
    (is_free [] (name_of (salt false)) 1 none_is (omega arith))
    (told_1 (reads []) (λ d. there) (told_drop receiver.is_late refl (receiver.late_then t) refl
    (receiver.heard_1_good t opens_1) (told_next (receiver.dropped_1_good t opens_1) refl refl refl
    (told_end _ (receiver.dropped_1_good t opens_1))))))

facts_3 : (uses : Uses) → Contains uses use_3 →
    Facts (short 2) sci_b NoPremise uses (without_option (run_b true)) [] (receiver.delivery 3 ∷ [])
facts_3 uses there = facts_of refl (receiver.told (salt false) (reads (saved_1 ∷ [])) true
    (is_free (saved_1 ∷ []) (name_of (salt false)) 2 saved_is
    (at_most (name_of (salt false)) (name_of (salt false)) 1 2 (omega arith)))
    (told_drop receiver.is_late refl (receiver.late_again t) refl (receiver.ready_good true)
    (told_link receiver.accepts_3 refl (receiver.judged_3 t u opens_3) (receiver.dropped_2_good t)
    (is_strict refl refl refl) octets_3
    (λ d. genuine_at (receiver.dropped_2 t) f3 receiver.accepts_3 uses (receiver.judged_3 t u opens_3) there)
    (told_end _ (receiver.heard_3_good t u opens_3)))))

-- ---- all of it

-- the journal of the second run has what was reported to the first
has_own : (r : Reservation) → All IsReservation (r ∷ []) →
    r.last ≤ highest (reservations (journal false (r ∷ []))) r.name
has_own r are =
    let most : max r.last 0 ≡ r.last = omega arith in
    let own : highest (r ∷ []) r.name ≡ r.last = rw (same_octets-refl r.name, most) in
    omega (arith, says false (r ∷ []) are r.name, own)

-- A's first run may be any that sends so
abbrev pub from_first : Run → List EndRun
from_first a = (A, a) ∷ (B, run_b false) ∷ (A, run_a true) ∷ (B, run_b true) ∷ []

pub meets_from : (a : Run) → Facts (short 1) sci_a NoPremise [] (without_option a) (sender.sent false) [] →
    MeetsAll never (from_first a) bytes ((1 ∷ client 1) ∷ (2 ∷ client 1) ∷ (3 ∷ client 3) ∷ [])
    ((1 ∷ client 1) ∷ (3 ∷ client 3) ∷ [])
meets_from a first = meets a (run_a true) (run_b false) (run_b true) first (facts_a true) facts_1 facts_3
    (has_own reserved_2 reserved_is) (has_own saved_1 saved_is)

pub no_iv_from : (a : Run) → Facts (short 1) sci_a NoPremise [] (without_option a) (sender.sent false) [] →
    IsHistoryWith (runs_at never A (blocks (from_first a)))
no_iv_from a first = no_iv_at_a a (run_a true) (run_b false) (run_b true) first (facts_a true) facts_1 facts_3
    (has_own reserved_2 reserved_is)

pub two_runs_each : MeetsAll never
    ((A, run_a false) ∷ (B, run_b false) ∷ (A, run_a true) ∷ (B, run_b true) ∷ []) bytes
    ((1 ∷ client 1) ∷ (2 ∷ client 1) ∷ (3 ∷ client 3) ∷ []) ((1 ∷ client 1) ∷ (3 ∷ client 3) ∷ [])
two_runs_each = meets_from (run_a false) (facts_a false)
