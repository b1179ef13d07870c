-- What later runs send and accept, over a journal on a disk that fails.
use Rattle.macsec_journal.specs.{
  Laws.{KeepsAllBut, KeepsHistory},
  World.{Begun, Event, Form},
}
use Rattle.macsec_restarts.{
  proofs.{
    Names.{◌≡◌, ◌≤◌, All-contains, arith, Contains, delivery_name, get_or, highest, List, reduced_reserves, refl},
    Names.{reported, reservations, RunWith, salt_of, SameSalt, sending_name, SentIn, subst, sym, true, ℕ},
    RenewingAhead.{each_between_with, taken_in},
    RenewingKeepers.IsBetween,
  },
  specs.OnDisk.{RisesIfNameStaysRenewing, RisesOnDiskRenewing, run_with},
  specs.RenewingRuns.{opening_of, sent_by_run},
}

-- ---- endpoints that renew keys

between_in : (r : RunWith) (x : SentIn) → Contains (sent_by_run r) x → IsBetween (opening_of r).k r.run.inputs x
between_in r x there =
    All-contains (IsBetween (opening_of r).k r.run.inputs) (sent_by_run r) x (each_between_with r) there

rises_renewing : (b later : Begun) → SameSalt b.run later.run → KeepsAllBut b later → RisesIfNameStaysRenewing b later
rises_renewing b later salt keeps = record {
  sends = λ ahead other x y here there bytes stays.
      let first = between_in (run_with ahead b) x here in
      let second = between_in (run_with other later) y there in
      let name : List ℕ = sending_name (salt_of later.run.journal) y.seal.key in
      let same : name ≡ sending_name (salt_of b.run.journal) x.seal.key = rw (salt, ← bytes) in
      let within : x.number ≤ highest (reported b.run) name =
      subst (λ n. x.number ≤ highest (reported b.run) n) (sym same) (omega (arith, first.within)) in
      omega (arith, within, keeps name stays, second.above, reduced_reserves (reservations later.run.journal) name);
  accepts = λ d e here there one stays.
      let first = taken_in (run_with true b) refl d here in
      let second = taken_in (run_with true later) refl e there in
      let name : List ℕ = delivery_name (salt_of later.run.journal) e in
      let same : name ≡ delivery_name (salt_of b.run.journal) d = rw (salt, ← one.bytes, ← one.sci, ← one.an) in
      let within : d.number ≤ highest (reported b.run) name =
      subst (λ n. d.number ≤ highest (reported b.run) n) (sym same) (omega (arith, first.within)) in
      omega (arith, within, keeps name stays, second.above, reduced_reserves (reservations later.run.journal) name);
}

pub rises_on_disk_renewing : ((form : Form) (salt : List ℕ) (events : List Event) → KeepsHistory form salt events) →
    (form : Form) (salt : List ℕ) (events : List Event) → RisesOnDiskRenewing form salt events
rises_on_disk_renewing keeps form salt events long happen i j d less within =
    let history = keeps form salt events long happen in
    rises_renewing (get_or _ i d) (get_or _ j d) (history.salt i j d less within) (history.durable i j d less within)
