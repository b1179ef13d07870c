-- All runs of a history: what one run seals and what a later run seals have different IVs.
use Rattle.macsec_reserve.proofs.{
  Prelude.{[], ◌++◌, ◌<◌, ◌∙◌, ◌∷◌, ◌≤◌, AgreeOnKeys, All, All-append, All-cons, All-head, All-nil, All-tail},
  Prelude.{All-weaker, ap, append-nil, arith, CipherUse, closing, get_or, HasOtherIv, highest, IsHistory},
  Prelude.{IsReservation, KeepsDurable, List, opening, record_of, reduced, refl, reported, Reservation, reservations},
  Prelude.{Run, salt_of, SameSalt, sealed_in, sealed_in_all, sending_name, StaysSound, subst, sym, ℕ},
  EndpointLaws.{Laws, numbers_tell},
  HighestOf.highest-append,
  Pairs.{no_pairs, pairs-append, pairs-head, pairs-tail},
  Reduced.reduced_reserves,
  Runs.{Runs, runs},
  Seals.IsUse,
  Steps.granted_reported,
  Written.reads_written,
}
use Rattle.macsec_reserve.specs.{
  Crashes.{IsHistoryOfCrashes, LeavesDurable, StandsIn},
  Unique.{RepeatsNoIv, RepeatsNoIvAfterCrashes},
}

abbrev pub IsSoundRun : Run → Type 0
IsSoundRun run = StaysSound (opening run) run.inputs

pub of_run : Laws → (run : Run) → IsSoundRun run → Runs (opening run) run.inputs
of_run laws run sound = runs laws run.inputs (opening run) refl sound

-- the earlier run reserved its number, and the later run read that, so the later run's number is above it
differs : Laws → (run later : Run) → IsSoundRun run → IsSoundRun later → AgreeOnKeys run later → SameSalt run later → KeepsDurable run later →
    (x : CipherUse) → IsUse (opening run) (closing run) x → (y : CipherUse) → IsUse (opening later) (closing later) y → HasOtherIv x y
differs laws run later sound sound' agree salt durable x first y second bytes iv =
    let name = sending_name (salt_of run.journal) x.key in
    let above : highest (reduced (reservations later.journal)) name < second.number =
    subst (λ (s : List ℕ). highest (reduced (reservations later.journal)) (sending_name s x.key) < second.number) salt
    (subst (λ (key : List ℕ). highest (reduced (reservations later.journal)) (sending_name (salt_of later.journal) key) < second.number) (sym bytes) second.above) in
    let less : first.number < second.number = omega (arith, first.within, granted_reported run.inputs (opening run) name, durable name, reduced_reserves (reservations later.journal) name, above) in
    numbers_tell laws (closing run).secy (closing later).secy (of_run laws run sound).sound (of_run laws later sound').sound first.key second.key first.there second.there
    (agree first.key second.key first.there second.there (sym first.bytes ∙ bytes ∙ second.bytes))
    first.number second.number first.most second.most less (sym first.iv ∙ iv ∙ second.iv)

-- a use of one run, and the uses of all later ones
differs_from_all : Laws → (run : Run) → IsSoundRun run → (x : CipherUse) → IsUse (opening run) (closing run) x → (later : List Run) →
    All IsSoundRun later → All (AgreeOnKeys run) later → All (SameSalt run) later → All (KeepsDurable run) later → All (HasOtherIv x) (sealed_in_all later)
differs_from_all laws run sound x first [] sounds agree salt durable = All-nil (HasOtherIv x)
differs_from_all laws run sound x first (q ∷ qs) sounds agree salt durable =
    let sound' : IsSoundRun q = All-head IsSoundRun q qs sounds in
    All-append (HasOtherIv x) (sealed_in q) (sealed_in_all qs)
    (All-weaker (IsUse (opening q) (closing q)) (HasOtherIv x)
    (differs laws run q sound sound' (All-head (AgreeOnKeys run) q qs agree) (All-head (SameSalt run) q qs salt) (All-head (KeepsDurable run) q qs durable) x first) (sealed_in q) (of_run laws q sound').from)
    (differs_from_all laws run sound x first qs (All-tail IsSoundRun q qs sounds) (All-tail (AgreeOnKeys run) q qs agree) (All-tail (SameSalt run) q qs salt)
    (All-tail (KeepsDurable run) q qs durable))

pub repeats_no_iv : Laws → (history : List Run) → RepeatsNoIv history
repeats_no_iv laws [] is = no_pairs HasOtherIv
repeats_no_iv laws (run ∷ later) is =
    let sound : IsSoundRun run = All-head IsSoundRun run later is.sound in
    let it = of_run laws run sound in
    let rest : IsHistory later = record {
      sound = All-tail IsSoundRun run later is.sound;
      agree = pairs-tail AgreeOnKeys run later is.agree;
      salt = pairs-tail SameSalt run later is.salt;
      durable = pairs-tail KeepsDurable run later is.durable;
    } in
    pairs-append HasOtherIv (sealed_in run) (sealed_in_all later) it.apart (repeats_no_iv laws later rest)
    (All-weaker (IsUse (opening run) (closing run)) (λ x. All (HasOtherIv x) (sealed_in_all later))
    (λ x first. differs_from_all laws run sound x first later rest.sound (pairs-head AgreeOnKeys run later is.agree) (pairs-head SameSalt run later is.salt)
    (pairs-head KeepsDurable run later is.durable))
    (sealed_in run) it.from)

-- ---- the octets that crashes leave

stands : (journal : List ℕ) (r : Reservation) → StandsIn journal r → (name : List ℕ) → highest (r ∷ []) name ≤ highest (reservations journal) name
stands journal r it name =
    let read = reads_written it.kept (r ∷ []) it.behind (All-cons IsReservation r [] it.is (All-nil IsReservation)) it.whole name in
    subst (λ (octets : List ℕ). highest (r ∷ []) name ≤ highest (reservations octets) name)
    (ap (λ (record' : List ℕ). it.kept ++ record' ++ it.behind) (append-nil (record_of r)) ∙ sym it.octets) read.1

all_stand : (journal : List ℕ) (rs : List Reservation) → All (StandsIn journal) rs → (name : List ℕ) → highest rs name ≤ highest (reservations journal) name
all_stand journal [] all name = omega arith
all_stand journal (r ∷ rs) all name =
    let first = stands journal r (All-head (StandsIn journal) r rs all) name in
    let rest = all_stand journal rs (All-tail (StandsIn journal) r rs all) name in
    omega (arith, highest-append (r ∷ []) rs name, first, rest)

pub leaves_durable : (run later : Run) → LeavesDurable run later
leaves_durable run later leaves name = all_stand later.journal (reported run) leaves name

pub is_history : (runs : List Run) → IsHistoryOfCrashes runs → IsHistory runs
is_history runs is = record {
  sound = is.sound;
  agree = is.agree;
  salt = is.salt;
  durable = λ i j d less within. leaves_durable (get_or runs i d) (get_or runs j d) (is.records i j d less within);
}

pub repeats_no_iv_after_crashes : Laws → (history : List Run) → RepeatsNoIvAfterCrashes history
repeats_no_iv_after_crashes laws history is = repeats_no_iv laws history (is_history history is)
