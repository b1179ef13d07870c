-- One run of each end over two journals on disks, which meet all premises of order on disk. A orders a record, the
-- system calls succeed, and the record is reported. Then A sends the same client frame twice, with packet numbers 1 and
-- 2. B delivers the first one.
use Rattle.macsec_journal.specs.Damage.{IsRead}
use Rattle.macsec_journal.specs.Disk.{Stands}
use Rattle.macsec_journal.specs.Format.{fits, read_in}
use Rattle.macsec_journal.specs.World.{answers, beginning, begins as process_begins, CanHappen, created, earlier, Event}
use Rattle.macsec_journal.specs.World.{Happen, orders, Process, reports, takes, World}
use Rattle.macsec_journal.specs.declared.step.Step.TheVariants.{Resting}
use Rattle.macsec_journal.specs.declared.step.Told.TheVariants.{Nothing}
use Rattle.macsec_reserve.specs.Journal.{header, records_of}
use Rattle.macsec_restarts.proofs.Examples.Blocks.{blocks, EndRun, sealed_in}
use Rattle.macsec_restarts.proofs.Examples.Histories.{Facts, IsRunOf, Meets, meets_all, meets_by, MeetsAll, never}
use Rattle.macsec_restarts.proofs.Examples.Histories.{of_run, one, short_agree, without_option}
use Rattle.macsec_restarts.proofs.Examples.NotSent.{plain, plain_does}
use Rattle.macsec_restarts.proofs.Examples.Told.{short}
use Rattle.macsec_restarts.proofs.Examples.TwoRunsEach.{f1, facts_a, reserved_2, reserved_is, run_a, use_1}
use Rattle.macsec_restarts.proofs.Examples.Without.{NoPremise}
use Rattle.macsec_restarts.proofs.Names.{[], ◌++◌, ◌^◌, ◌∙◌, ◌∷◌, ◌≡◌, A, All, AllPairs, ap, append-nil, are_small}
use Rattle.macsec_restarts.proofs.Names.{arith, AtEach, B, bytes, client, client_frame, Command, compress, Contains}
use Rattle.macsec_restarts.proofs.Names.{delivered_at, digest_bytes, End, EndConfig, false, first_words, gcm_a, gcm_b}
use Rattle.macsec_restarts.proofs.Names.{hash_after, inl, Key, length, link_frame, List, map, new_key, no_salt}
use Rattle.macsec_restarts.proofs.Names.{numbered_delivery, numbered_sent, one_alone, operator_command, reduced, refl}
use Rattle.macsec_restarts.proofs.Names.{replicate, Reservation, rounds, runs_at, RxOn, RxSa, RxSc, salt, salt_of}
use Rattle.macsec_restarts.proofs.Names.{schedule, sci_a, sci_b, sent_under, sha256, small, Some, subst, sym, true}
use Rattle.macsec_restarts.proofs.Names.{TxOn, TxSa, ℕ}
use Rattle.macsec_restarts.specs.OnDiskOrder.{begun_over, CanBe, EventAt, happenings, journal_at, KeepsNameToDeliver}
use Rattle.macsec_restarts.specs.OnDiskOrder.{KeepsNameToSend, TwoJournals}
use Rattle.macsec_restarts.specs.RenewingOrder.{AskedOfLast, delivered_by_all, IsFairAt, KeepsDeliveredWith}
use Rattle.macsec_restarts.specs.RenewingOrder.{KeepsSentWith}
use Rattle.macsec_restarts.specs.RenewingRuns.{IsSoundRun, sent_by_all}
use Rattle.macsec_restarts.proofs.Examples.Receivers as receiver
use Rattle.macsec_restarts.proofs.Examples.Senders as sender

-- ---- the journals: headers of the earlier form, which say nothing

abbrev octets : List ℕ
octets = header (salt false)

reads_nothing : read_in octets ≡ []
unfolding first_words schedule rounds compress hash_after digest_bytes sha256
reads_nothing = refl

are_few : are_small octets ≡ true
unfolding first_words schedule rounds compress hash_after digest_bytes sha256
are_few = refl

-- the most octets of a file
abbrev limit : ℕ
limit = 2 ^ 20

-- ---- the process of an end, once it has begun: what it reads of its journal is here any list

abbrev process : EndConfig → List Reservation → Process
process config rs = record {
  journal = record {
    salt = salt_of octets;
    limit = limit;
    table = reduced rs;
    ordered = [];
    end = 0;
    next = 0;
    doubt = true;
    step = Resting;
    told = Nothing;
  };
  asked = rs;
  lost = [];
  lost_in_use = [];
  begun = beginning config (header (salt_of octets) ++ records_of (reduced rs)) [];
}

abbrev with_process : EndConfig → List Reservation → World
with_process config rs = record (created earlier (salt false)) { now = Some (process config rs) }

abbrev command_in : Command → Event
command_in c = takes (operator_command c)

abbrev frame_in : Event
frame_in = takes (client_frame (client 1))

-- eight system calls replace the file
abbrev then_a : List Event
then_a = command_in (Key (new_key no_salt 1)) ∷ command_in (TxSa 0 0 1 false) ∷ command_in (TxOn 0)
    ∷ orders (reserved_2 ∷ []) false ∷ (replicate 8 (answers true) ++ reports reserved_2 ∷ frame_in ∷ frame_in ∷ [])

abbrev then_b : List Event
then_b = command_in (Key (new_key no_salt 2)) ∷ command_in (RxSc sci_a) ∷ command_in (RxSa sci_a 0 0 1 1)
    ∷ command_in (RxOn sci_a 0) ∷ takes (link_frame f1) ∷ []

can_a : Happen (with_process gcm_a []) then_a
can_a = (
  tt,
  (
    tt,
    (
      tt,
      (
        (refl, reserved_is),
        (tt, (tt, (tt, (tt, (tt, (tt, (tt, (tt, ((0, omega arith, refl), (tt, (tt, tt))))))))))),
      ),
    ),
  ),
)

can_b : Happen (with_process gcm_b []) then_b
can_b = (tt, (tt, (tt, (tt, (tt, tt)))))

is_read : IsRead (created earlier (salt false)).folder.named octets
is_read = inl (one (Stands octets) (record { at = 0; octets = octets })
    (record { before = []; behind = []; is = sym (append-nil octets); at = refl }))

can_begin : (config : EndConfig) → CanHappen (created earlier (salt false)) (process_begins limit config octets)
can_begin config = (
  is_read,
  small octets are_few,
  subst (λ rs. fits limit (length (reduced rs)) ≡ true) (sym reads_nothing) refl,
)

can : (config : EndConfig) (more : List Event) → Happen (with_process config []) more →
    Happen (created earlier (salt false)) (process_begins limit config octets ∷ more)
can config more it =
    (can_begin config, subst (λ rs. Happen (with_process config rs) more) (sym reads_nothing) it)

-- ---- both ends

abbrev placed : End → List Event → List EventAt
placed e [] = []
placed e (event ∷ more) = record { place = e; event = event } ∷ placed e more

abbrev two : TwoJournals
two = record {
  form = λ e. earlier;
  salt = λ e. salt false;
  events = placed A (process_begins limit gcm_a octets ∷ then_a)
      ++ placed B (process_begins limit gcm_b octets ∷ then_b);
}

can_be : (f : End) → CanBe (journal_at two f)
can_be A = record { long = refl; happen = can gcm_a then_a can_a }
can_be B = record { long = refl; happen = can gcm_b then_b can_b }

-- what happens to the endpoints are the runs of two worked ends
abbrev its : List EndRun
its = (A, run_a false) ∷ (B, plain) ∷ []

abbrev with_journal : List ℕ → List EndRun
with_journal read = (A, record (run_a false) { journal = read }) ∷ (B, record plain { journal = read }) ∷ []

happens_so : happenings two ≡ blocks its
happens_so = ap (λ rs. blocks (with_journal (header (salt_of octets) ++ records_of (reduced rs)))) reads_nothing

a_goes : Facts (short 1) sci_a NoPremise [] (without_option (run_a false)) (sender.sent false) []
a_goes = facts_a false

sealed_1 : Contains (sealed_in never ((A, run_a false) ∷ [])) use_1
sealed_1 = rw a_goes.told.sends (0, omega arith, refl)

b_goes : Facts (short 2) sci_b NoPremise (sealed_in never ((A, run_a false) ∷ [])) (without_option plain) []
    (receiver.delivery 1 ∷ [])
b_goes = plain_does NoPremise (sealed_in never ((A, run_a false) ∷ [])) (λ d. sealed_1)

it_meets : Meets NoPremise never its (sender.sent false) (receiver.delivery 1 ∷ [])
it_meets = meets_by (short 1) (short 2) short_agree (λ d. (refl, refl))
    (one (IsRunOf (short 1) sci_a) (without_option (run_a false)) (of_run a_goes))
    (one (IsRunOf (short 2) sci_b) (without_option plain) (of_run b_goes)) (tt, (b_goes.told.fair, tt))
    (rw a_goes.told.sends) (rw b_goes.told.delivers)

inside : MeetsAll never its bytes ((1 ∷ client 1) ∷ (2 ∷ client 1) ∷ []) ((1 ∷ client 1) ∷ [])
inside = meets_all never its bytes it_meets (one_alone (KeepsSentWith bytes) (without_option (run_a false)))
    (one_alone (KeepsDeliveredWith bytes sci_a 0) (without_option plain))

-- ---- all premises of order on disk are met; and what A sent and B delivered, each frame after its packet number

pub record MeetsOnDisk : Type 0 where
  pub can_be_so : (f : End) → CanBe (journal_at two f)
  pub sounds : (f : End) → All IsSoundRun (runs_at never f (happenings two))
  pub fair : AtEach (AskedOfLast never B (IsFairAt never B bytes sci_a 0)) [] (happenings two)
  pub names_to_send : AllPairs (KeepsNameToSend bytes) (begun_over (never A) (journal_at two A))
  pub names_to_deliver : AllPairs (KeepsNameToDeliver bytes sci_a 0) (begun_over (never B) (journal_at two B))
  pub sends : map numbered_sent (sent_under bytes (sent_by_all (runs_at never A (happenings two)))) ≡
      (1 ∷ client 1) ∷ (2 ∷ client 1) ∷ []
  pub delivers : map numbered_delivery (delivered_at bytes sci_a 0
      (delivered_by_all (runs_at never B (happenings two)))) ≡ (1 ∷ client 1) ∷ []

pub meets_on_disk : MeetsOnDisk
meets_on_disk = record {
  can_be_so = can_be;
  sounds = subst (λ hs. (f : End) → All IsSoundRun (runs_at never f hs)) (sym happens_so) inside.sounds;
  fair = subst (AtEach (AskedOfLast never B (IsFairAt never B bytes sci_a 0)) []) (sym happens_so) inside.fair;
  names_to_send = one_alone (KeepsNameToSend bytes) _;
  names_to_deliver = one_alone (KeepsNameToDeliver bytes sci_a 0) _;
  sends = ap (λ hs. map numbered_sent (sent_under bytes (sent_by_all (runs_at never A hs)))) happens_so
      ∙ inside.sends;
  delivers = ap (λ hs. map numbered_delivery (delivered_at bytes sci_a 0 (delivered_by_all (runs_at never B hs))))
      happens_so ∙ inside.delivers;
}
