-- What later runs read of what was used, over a journal on a disk that fails; and so no IV twice, of one end and of
-- both.
use Rattle.macsec_journal.specs.{
  Laws.{KeepsAllBut, KeepsHistory},
  World.{Begun, Event, Form},
}
use Rattle.macsec_restarts.{
  proofs.{
    Forgetting.pairs-map,
    Names.{[], ◌&&◌, ◌==◌, ◌∙◌, ◌∷◌, ◌≡◌, ◌≤◌, All, All-cons, All-contains, All-filter, All-head, All-nil, All-tail},
    Names.{AllPairs, AllPairs-cons, and_from, and_parts, ap, arith, Bool, bytes_eq-Decides, Contains, Delivery},
    Names.{delivery_name, EndpointLaws, get_or, highest, List, no_pairs, pairs-head, pairs-tail},
    Names.{receiving_name, reported, reservations, RunWith, same_octets, same_sci, SameSalt, Sci},
    Names.{sending_name, SentIn, subst, suc, sym, true, ℕ},
    RenewingAhead.{each_between_with, no_iv_if_used_is_kept_with, taken_in},
    RenewingKeepers.{IsBetween, RenewingLaws},
    RenewingSends.no_iv_at_both_renewing,
    RowSteps.{all_pass, all_there, is_ours, same_place},
  },
  specs.{
    OnDiskOrder.{begun_over, begun_with, BegunWith, IsHistoryOnDisk, JournalHistory},
    OnDiskOrder.{KeepsUsedInAll, KeepsUsedOnDisk, NameStays, NoIvAtBothOnDisk, NoIvOnDisk, run_of, runs_over},
    OnDiskOrder.{salt_read},
    RenewingOrder.{delivered_at_by, delivered_by_run, IsHistoryWith, sent_under_by},
    RenewingRuns.{accepted_by_run, KeepsUsedWith, opening_of, sent_by_run},
  },
}

-- ---- one name

-- what an earlier run sent under key octets whose name stays
reads_sent : (b later : BegunWith) → SameSalt b.begun.run later.begun.run → KeepsAllBut b.begun later.begun →
    (bytes : List ℕ) (x : SentIn) → Contains (sent_by_run (run_of b)) x → x.seal.key ≡ bytes →
    NameStays b later (sending_name (salt_read later) bytes) →
    x.number ≤ highest (reservations later.begun.run.journal) (sending_name (salt_read later) bytes)
reads_sent b later salt keeps bytes x here key stays =
    let r = run_of b in
    let it = All-contains (IsBetween (opening_of r).k r.run.inputs) (sent_by_run r) x (each_between_with r) here in
    let name : List ℕ = sending_name (salt_read later) bytes in
    let same : name ≡ sending_name (salt_read b) x.seal.key = rw (salt, key) in
    let within : x.number ≤ highest (reported b.begun.run) name =
    subst (λ n. x.number ≤ highest (reported b.begun.run) n) (sym same) (omega (arith, it.within)) in
    omega (arith, within, keeps name stays)

-- what it accepted from an SA whose name stays, if it reserved ahead of receiving
reads_accepted : (b later : BegunWith) → KeepsAllBut b.begun later.begun → b.ahead ≡ true → (d : Delivery) →
    Contains (accepted_by_run (run_of b)) d → (name : List ℕ) → name ≡ delivery_name (salt_read b) d →
    NameStays b later name → d.number ≤ highest (reservations later.begun.run.journal) name
reads_accepted b later keeps on d here name same stays =
    let it = taken_in (run_of b) on d here in
    let within : d.number ≤ highest (reported b.begun.run) name =
    subst (λ n. d.number ≤ highest (reported b.begun.run) n) (sym same) (omega (arith, it.within)) in
    omega (arith, within, keeps name stays)

-- ---- of one key, and of one SA

sent_there : (bytes : List ℕ) (r : RunWith) (x : SentIn) → Contains (sent_under_by bytes r) x →
    Contains (sent_by_run r) x × (x.seal.key ≡ bytes)
sent_there bytes r x there = (
  All-contains (Contains (sent_by_run r)) (sent_under_by bytes r) x
      (All-filter is_under (Contains (sent_by_run r)) (sent_by_run r) (all_there (sent_by_run r))) there,
  (bytes_eq-Decides x.seal.key bytes).0
      (All-contains (λ z. is_under z ≡ true) (sent_under_by bytes r) x (all_pass is_under (sent_by_run r)) there),
)
  where
    is_under : SentIn → Bool
    is_under z = same_octets z.seal.key bytes

name_there : (salt bytes : List ℕ) (sci : Sci) (an : ℕ) (r : RunWith) (d : Delivery) →
    Contains (delivered_at_by bytes sci an r) d →
    receiving_name (sending_name salt bytes) sci an ≡ delivery_name salt d
name_there salt bytes sci an r d there =
    let ours = All-contains (λ z. is_ours bytes sci an z ≡ true) (delivered_at_by bytes sci an r) d
    (all_pass (is_ours bytes sci an) (delivered_by_run r)) there in
    let parts = and_parts (same_octets d.bytes bytes && same_sci d.sci sci) (d.an == an) ours in
    let octets = and_parts (same_octets d.bytes bytes) (same_sci d.sci sci) parts.0 in
    let place = same_place d.sci sci d.an an (and_from (same_sci d.sci sci) (d.an == an) octets.1 parts.1) in
    rw ((bytes_eq-Decides d.bytes bytes).0 octets.0, place.0, place.1)

-- ---- two runs

keeps_used : (b later : BegunWith) → SameSalt b.begun.run later.begun.run → KeepsAllBut b.begun later.begun →
    KeepsUsedOnDisk b later
keeps_used b later salt keeps = record {
  used = λ names i d within j e within' key.
      let x = get_or (sent_by_run (run_of b)) i d in
      let y = get_or (sent_by_run (run_of later)) j e in
      let here = all_there (sent_by_run (run_of b)) i d within in
      let there = all_there (sent_by_run (run_of later)) j e within' in
      reads_sent b later salt keeps y.seal.key x here key (names x y here there key);
  sent = λ bytes stays x y here there.
      let it = sent_there bytes (run_of b) x here in
      reads_sent b later salt keeps bytes x it.0 it.1 (stays x y here there);
  accepted = λ names d e here there one.
      let it = names d e here there one in
      reads_accepted b later keeps it.0 d here (delivery_name (salt_read later) e)
      (rw (salt, ← one.bytes, ← one.sci, ← one.an)) it.1;
  delivered = λ bytes sci an names accepts d g here there.
      let it = names d g here there in
      let name : List ℕ = receiving_name (sending_name (salt_read later) bytes) sci an in
      let same : name ≡ delivery_name (salt_read b) d =
      ap (λ s. receiving_name (sending_name s bytes) sci an) salt
      ∙ name_there (salt_read b) bytes sci an (run_of b) d here in
      reads_accepted b later keeps it.0 d (accepts d here) name same it.1;
}

-- ---- all runs

all_begun_with : (P : Begun → Type 0) (ahead : ℕ → Bool) (bs : List Begun) → All P bs →
    All (λ (b : BegunWith). P b.begun) (begun_with ahead bs)
all_begun_with P ahead [] all = All-nil (λ (b : BegunWith). P b.begun)
all_begun_with P ahead (b ∷ bs) all =
    All-cons (λ (x : BegunWith). P x.begun) (record { ahead = ahead 0; begun = b })
    (begun_with (λ n. ahead (suc n)) bs) (All-head P b bs all)
    (all_begun_with P (λ n. ahead (suc n)) bs (All-tail P b bs all))

pairs_begun_with : (R : Begun → Begun → Type 0) (ahead : ℕ → Bool) (bs : List Begun) → AllPairs R bs →
    AllPairs (λ (b later : BegunWith). R b.begun later.begun) (begun_with ahead bs)
pairs_begun_with R ahead [] pairs = no_pairs (λ (b later : BegunWith). R b.begun later.begun)
pairs_begun_with R ahead (b ∷ bs) pairs =
    AllPairs-cons (λ (x y : BegunWith). R x.begun y.begun) (record { ahead = ahead 0; begun = b })
    (begun_with (λ n. ahead (suc n)) bs)
    (all_begun_with (R b) (λ n. ahead (suc n)) bs (pairs-head R b bs pairs))
    (pairs_begun_with R (λ n. ahead (suc n)) bs (pairs-tail R b bs pairs))

abbrev pub Keeps : Type 0
Keeps = (form : Form) (salt : List ℕ) (events : List Event) → KeepsHistory form salt events

pub keeps_used_on_disk : Keeps → (ahead : ℕ → Bool) (journal : JournalHistory) → KeepsUsedInAll ahead journal
keeps_used_on_disk keeps ahead journal can i j d less within =
    let history = keeps journal.form journal.salt journal.events can.long can.happen in
    let bs = begun_over ahead journal in
    keeps_used (get_or bs i d) (get_or bs j d)
    (pairs_begun_with (λ b later. SameSalt b.run later.run) ahead _ history.salt i j d less within)
    (pairs_begun_with KeepsAllBut ahead _ history.durable i j d less within)

-- ---- no IV twice

history_on_disk : Keeps → (ahead : ℕ → Bool) (journal : JournalHistory) → IsHistoryOnDisk ahead journal →
    IsHistoryWith (runs_over ahead journal)
history_on_disk keeps ahead journal it = record {
  sound = it.sound;
  agree = it.agree;
  keeps = pairs-map run_of KeepsUsedWith (begun_over ahead journal)
      (λ i j d less within.
      let kept = keeps_used_on_disk keeps ahead journal it.can i j d less within in
      kept.used (it.names i j d less within));
}

pub no_iv_on_disk : EndpointLaws → RenewingLaws → Keeps → (ahead : ℕ → Bool) (journal : JournalHistory) →
    NoIvOnDisk ahead journal
no_iv_on_disk laws renews keeps ahead journal it =
    let history = history_on_disk keeps ahead journal it in
    no_iv_if_used_is_kept_with laws renews (runs_over ahead journal) history.sound history.agree history.keeps

pub no_iv_at_both_on_disk : EndpointLaws → RenewingLaws → Keeps → (ahead other : ℕ → Bool)
    (journal theirs : JournalHistory) → NoIvAtBothOnDisk ahead other journal theirs
no_iv_at_both_on_disk laws renews keeps ahead other journal theirs it their_own two =
    no_iv_at_both_renewing laws renews (runs_over ahead journal) (runs_over other theirs)
    (history_on_disk keeps ahead journal it) (history_on_disk keeps other theirs their_own) two
