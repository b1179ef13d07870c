-- Histories that can happen.
use Rattle.std.proofs.{
  Common.{◌≡◌, ◌+◌, ◌<◌, ◌≤◌, ℕ, inl, Bool, true, false, if◌then◌else◌, not, ◌||◌, List, [], ◌∷◌, ◌++◌, length},
  Common.{replicate, None},
  Common.{◌^◌, ◌∙◌, Option, Some, refl, ap, sym, subst},
  Common.{All, append-nil, append_assoc, arith, length-append},
  lemmas.List.{Elements.{All-append, All-cons, All-contains, All-filter, All-get_or, All-nil}, length-replicate},
  lemmas.Slice.Eq.bytes_eq-Decides,
}
use Rattle.macsec_gcm.specs.Octets.{same_octets}
use Rattle.macsec_reserve.specs.{
  Crashes.IsReservation,
  Entries.{reduced, with_all},
  Histories.reported,
  Journal.{highest, is_journal, salt_of},
  Keeping.now_durable,
  declared.reservation.Reservation.Reservation,
}
use Rattle.macsec_secy.specs.Step.{Input}
use Rattle.macsec_ahead.specs.Ahead.{Ahead, opening_with}
use Rattle.macsec_journal.proofs.{
  Allowed.library-append,
  Pieces.{file_long, whole_guards},
  Written.file_read,
}
use Rattle.macsec_journal.specs.{
  Disk.{File, IsLeft, Piece, Stands, apart_from, candidates, is_apart},
  Format.{file_of, fits, is_readable, read_in, twice},
  History.{CanHappenSo, Has, MeansSo, WithFailure, WithoutFailure, all_kinds, both_written, calls_before, five_runs},
  History.lost_and_ordered_again,
  Laws.{AppendsWithin, AreBegunWith, HasKeptNames, HasKeptNamesForgetting, IsKept, IsShort},
  History.{one_run, opened_and_let_go, ordered_again, then_on},
  History.three_runs,
  Machine.{begun, for_endpoint, is_full, with_order, without},
  World.{Begun, Event, Happen, Process, World, after_all, answers, beginning, begins, counted, created, ends, lets_go},
  World.{opened_by, opens, orders},
  World.{reports, takes},
  declared.step.{Step.TheVariants.Resting, Told.TheVariants.Nothing},
}

-- these events can happen, and then this holds
record Leads (w : World) (events : List Event) (P : World → Type 0) : Type 0 where
  can : Happen w events
  leads : P (after_all w events)

abbrev Ended : List Reservation → List (List ℕ) → List Begun → World → Type 0
Ended durable names runs w = (w.told ≡ durable) × (w.gone ≡ names) × (w.past ≡ runs)

-- an order that is not refused
order_leads : (w : World) (p : Process) (rs : List Reservation) (anew : Bool) (rest : List Event) (P : World → Type 0) →
    p.journal.step ≡ Resting → All IsReservation rs →
    is_full rs p.journal ≡ false → Leads (record w {
      now = Some (record p
          { journal = with_order rs anew p.journal; asked = p.asked ++ rs });
    }) rest P →
    Leads (record w { now = Some p }) (orders rs anew ∷ rest) P
order_leads w p rs anew rest P rests are fits after =
    let so = subst (λ (full : Bool). Leads (record w {
      now = Some (record p
          { journal = if full then p.journal else with_order rs anew p.journal; asked = p.asked ++ rs });
    }) rest P)
    (sym fits) after in
    record { can = ((rests, are), so.can); leads = so.leads }

-- ---- a failure

-- a world in which a process has begun and ordered
abbrev ordered_in : World → WithFailure → World
ordered_in w h = record w {
  now = Some (record (opened_by h.limit h.config h.octets w.gone) {
    journal = with_order h.rs true
        (begun h.limit h.octets);
    asked = read_in h.octets ++ h.rs;
  });
}

-- the world after the crash
abbrev crashed : WithFailure → World
crashed h =
    after_all (ordered_in (created h.form h.salt) h) (calls_before (answers false ∷ opens h.config ∷ ends 1 ∷ []) 7)

abbrev ThreeRuns : WithFailure → World → Type 0
ThreeRuns h w = Ended (with_all (reduced (read_in h.octets)) h.rs) [] (three_runs h) w

ordered_so : (h : WithFailure) (w : World) (rest : List Event) → IsLeft w.folder.named h.octets → Leads (ordered_in w h)
    rest (ThreeRuns h) →
    Leads (record w { now = None }) (begins h.limit h.config h.octets ∷ orders h.rs true ∷ rest) (ThreeRuns h)
ordered_so h w rest left after =
    let so = order_leads w (opened_by h.limit h.config h.octets w.gone) h.rs true rest (ThreeRuns h) refl h.are h.more
    after in
    record { can = ((inl left, h.small, h.read), so.can); leads = so.leads }

fails : (h : WithFailure) → Leads (created h.form h.salt) (lost_and_ordered_again h) (ThreeRuns h)
fails h =
    let again = ordered_so h (crashed h) (calls_before (ends 0 ∷ []) 8) h.left
    (record { can = (tt, (tt, (tt, (tt, (tt, (tt, (tt, (tt, (omega arith, tt))))))))); leads = (refl, refl, refl) }) in
    ordered_so h (created h.form h.salt) (calls_before (answers false ∷ opens h.config ∷ ends 1 ∷ ordered_again h) 7)
    h.left
    (record {
      can = (tt, (tt, (tt, (tt, (tt, (tt, (tt, (tt, (tt, (omega arith, again.can))))))))));
      leads = again.leads;
    })

-- ---- a name that is let go before a run begins

begins_so : (h : WithFailure) (w : World) (rest : List Event) (P : World → Type 0) → IsLeft w.folder.named h.octets →
    Leads (record w { now = Some (opened_by h.limit h.config h.octets w.gone) }) rest P →
    Leads (record w { now = None }) (begins h.limit h.config h.octets ∷ rest) P
begins_so h w rest P left so = record { can = ((inl left, h.small, h.read), so.can); leads = so.leads }

-- the worlds in which the second process begins, and the third one
abbrev killed : WithFailure → World
killed h = after_all (ordered_in (created h.form h.salt) h) (opens h.config ∷ ends 0 ∷ [])

abbrev killed_again : WithFailure → List ℕ → World
killed_again h name =
    after_all (killed h) (begins h.limit h.config h.octets ∷ lets_go name ∷ opens h.config ∷ ends 0 ∷ [])

let_go_so : (h : WithFailure) (name : List ℕ) → Leads (created h.form h.salt) (opened_and_let_go h name)
    (Ended [] (name ∷ []) (five_runs h name))
let_go_so h name =
    let P : World → Type 0 = Ended [] (name ∷ []) (five_runs h name) in
    let third = begins_so h (killed_again h name) (ends 0 ∷ []) P h.left
    (record { can = (omega arith, tt); leads = (refl, refl, refl) }) in
    let second = begins_so h (killed h) (lets_go name ∷ opens h.config ∷ ends 0 ∷ begins h.limit h.config h.octets ∷
    ends 0 ∷ []) P h.left
    (record { can = (refl, (tt, (omega arith, third.can))); leads = third.leads }) in
    let rest : List Event = opens h.config ∷ ends 0 ∷ begins h.limit h.config h.octets ∷ lets_go name ∷ opens h.config ∷
    ends 0 ∷ begins h.limit h.config h.octets ∷ ends 0 ∷ [] in
    let w : World = created h.form h.salt in
    begins_so h w (orders h.rs true ∷ rest) P h.left
    (order_leads w (opened_by h.limit h.config h.octets w.gone) h.rs true rest P refl h.are h.more
    (record { can = (tt, (omega arith, second.can)); leads = second.leads }))

-- ---- no failure

-- a world in which a process has begun, by the salt and the reservations that it read
abbrev begun_in : WithoutFailure → List ℕ → List Reservation → World
begun_in h own read = record (created counted h.salt) {
  now = Some (record {
    journal = record {
      salt = own;
      limit = 65536;
      table = reduced read;
      ordered = [];
      end = 0;
      next = 0;
      doubt = true;
      step = Resting;
      told = Nothing;
    };
    asked = read;
    lost = [];
    lost_in_use = [];
    begun = beginning h.config (for_endpoint (begun 65536 (file_of h.salt []))) [];
  });
}

-- the same after the first order, and after the second one
abbrev replaced_in : WithoutFailure → World
replaced_in h = after_all (begun_in h h.salt []) (orders (h.first ∷ []) false ∷ calls_before [] 8)

abbrev the_process : WithoutFailure → Option Process → Process
the_process h None = opened_by 65536 h.config [] []
the_process h (Some p) = p

abbrev OneRun : WithoutFailure → World → Type 0
OneRun h w = Ended (without h.name (h.first ∷ h.second ∷ [])) (h.name ∷ []) (one_run h) w × IsLeft w.folder.named
    (both_written h)

alone : (r : Reservation) → IsReservation r → All IsReservation (r ∷ [])
alone r is = All-cons IsReservation r [] is (All-nil IsReservation)

appends_so : (h : WithoutFailure) → Leads (begun_in h h.salt []) (then_on h) (OneRun h)
appends_so h =
    let file : List ℕ = file_of h.salt (h.first ∷ []) in
    let gap : List ℕ = replicate 3904 0 in
    let own : List ℕ = twice (h.second ∷ []) in
    let octets : List ℕ = both_written h in
    let size : length file ≡ 192 = file_long h.salt (h.first ∷ []) h.long (omega arith) (alone h.first h.is_first) in
    let whole : Piece = record { at = 0; octets = file } in
    let more : Piece = record { at = 4096; octets = own } in
    let first : Stands octets whole = record {
      before = [];
      behind = gap ++ own;
      is = append_assoc file gap own;
      at =
          refl;
    } in
    let second : Stands octets more =
    record {
      before = file ++ gap;
      behind = [];
      is = sym (append-nil octets);
      at = omega (arith, length-append file gap, size, length-replicate {A = ℕ} 3904 0);
    } in
    let left = All-append (Stands octets) (apart_from more (whole ∷ [])) (more ∷ [])
    (All-filter (is_apart more) (Stands octets) (whole ∷ []) (All-cons (Stands octets) whole [] first
    (All-nil (Stands octets))))
    (All-cons (Stands octets) more [] second (All-nil (Stands octets))) in
    let w : World = replaced_in h in
    let p : Process = the_process h w.now in
    let so = order_leads w p (h.second ∷ []) false (calls_before (reports h.second ∷ reports h.first ∷ takes h.input ∷
    lets_go h.name ∷ ends 0 ∷ []) 3) (OneRun h) refl
    (alone h.second h.is_second)
    (ap (λ (b : Bool). not (fits 65536 (1 + length (if not (b || false) then h.second ∷ [] else [])))) h.differ)
    (record {
      can = (tt, (tt, (tt, ((1, omega arith, refl), ((0, omega arith, refl), (tt, (refl, (omega arith, tt))))))));
      leads =
          ((refl, refl, refl), left);
    }) in
    record {
      can = ((refl, alone h.first h.is_first), (tt, (tt, (tt, (tt, (tt, (tt, (tt, (tt, so.can)))))))));
      leads =
          so.leads;
    }

-- a new journal, and nothing after it
new_left : (salt : List ℕ) → IsLeft (created counted salt).folder.named (file_of salt [])
new_left salt =
    let octets : List ℕ = file_of salt [] in
    All-cons (Stands octets) (record { at = 0; octets = octets }) [] (record
    { before = []; behind = []; is = sym (append-nil octets); at = refl }) (All-nil (Stands octets))

nothing_read : (h : WithoutFailure) → read_in (file_of h.salt []) ≡ []
nothing_read h = file_read h.salt [] h.long (omega arith) (All-nil IsReservation)

-- it is read as it was created
appends : (h : WithoutFailure) → Leads (begun_in h (salt_of (file_of h.salt [])) (read_in (file_of h.salt [])))
    (then_on h) (OneRun h)
appends h =
    let octets : List ℕ = file_of h.salt [] in
    let own : salt_of octets ≡ h.salt =
    ((whole_guards h.salt [] [] h.long (omega arith) (All-nil IsReservation) (λ n. omega arith)).keeps octets
    (new_left h.salt)).same in
    subst (λ (salt : List ℕ). Leads (begun_in h salt (read_in octets)) (then_on h) (OneRun h)) (sym own)
    (subst (λ (read : List Reservation). Leads (begun_in h h.salt read) (then_on h) (OneRun h)) (sym (nothing_read h))
    (appends_so h))

-- ---- what a process has

has : (h : WithFailure) (input : Input) (r : Reservation) (name : List ℕ) → Has h.limit (read_in h.octets ++ h.rs)
    (after_all (created h.form h.salt) (all_kinds h input r name)).now
has h input r name =
    let w : World = created h.form h.salt in
    let p : Process = opened_by h.limit h.config h.octets w.gone in
    subst (λ (full : Bool). Has h.limit (read_in h.octets ++ h.rs) (after_all (record w {
      now = Some (record p {
        journal = if full then p.journal else with_order h.rs true p.journal;
        asked = p.asked ++ h.rs;
      });
    }) (answers true ∷ takes input ∷ answers false ∷ reports r ∷ lets_go name ∷ opens h.config ∷ [])).now) (sym h.more)
    (refl, refl, refl, refl)

-- ---- what the laws say

is_short : (limit : ℕ) (octets : List ℕ) → is_journal octets ≡ false → length octets ≤ limit → IsShort limit octets
is_short limit octets new within = subst (λ (b : Bool). length octets + 128 ≤ limit + (if b then 0 else 128)) (sym new)
    (omega (arith, within))

begins_with : (f : File) (limit : ℕ) (octets : List ℕ) → AreBegunWith f → limit < 2 ^ 32 → is_journal octets ≡ false →
    length octets ≤ limit → IsLeft f octets → (is_readable octets ≡ true) ×
    (fits limit (length (reduced (read_in octets))) ≡ true)
begins_with f limit octets are small new within left =
    let so = are limit octets (omega (arith, small)) (is_short limit octets new within) left in (so.readable, so.short)

is_kept : (gone : List (List ℕ)) (name : List ℕ) → All (λ (x : List ℕ). same_octets x name ≡ false) gone → IsKept gone
    name
is_kept gone name differ in_it =
    let contrary : true ≡ false = sym ((bytes_eq-Decides name name).1 refl) ∙ All-contains
    (λ (x : List ℕ). same_octets x name ≡ false) gone name differ in_it in absurd cc

-- a number that was reported, and none
never : (n : ℕ) → n ≡ 0 → 0 < n → ⊥
never n none some = absurd (omega (arith, none, some))

unused : (b later : Begun) → ((name : List ℕ) → highest (reported b.run) name ≡ 0) → HasKeptNames b later ×
    HasKeptNamesForgetting b later
unused b later none = (
  λ name own some in_it. never (highest (reported b.run) name) (none name) some,
  λ name own some in_it. never (highest (reported b.run) name) (none name) some,
)

means : MeansSo
means = record {
  at_any_moment = λ w input config. (tt, tt);
  at_rest = λ w p rs anew name rests are. ((rests, are), rests);
  once_shown = λ w r is. is;
  on_disk = λ w lost rs n octets within is left.
      All-get_or (λ (f : File). (octets' : List ℕ) → IsLeft f octets' → (name : List ℕ) → IsKept lost name →
      highest rs name ≤ highest (read_in octets') name) (candidates w.folder) n w.folder.named within is octets left;
  accepts = λ run r. ap (λ (a : Ahead). a.taken) (library-append run.inputs (now_durable r) (opening_with true run));
  begins_with = begins_with;
  within = λ j it. (omega (arith, it.file), λ is. subst (λ s. AppendsWithin s j) is it.records);
  nothing = λ said name none. omega (arith, none name);
  covered = λ salt told f octets damaged harm covers left new at.
      covers octets damaged harm left new (omega (arith, at));
  kept = is_kept;
  unused = unused;
}

pub can_happen_so : CanHappenSo
can_happen_so = record {
  fails = λ h. let so = fails h in record { can = so.can; told = so.leads.0; gone = so.leads.1; past = so.leads.2 };
  appends = λ h.
      let so = appends h in
      record {
        can = ((inl (new_left h.salt), h.small, ap (λ rs. fits 65536 (length (reduced rs))) (nothing_read h)), so.can);
        told = so.leads.0.0;
        gone = so.leads.0.1;
        past = so.leads.0.2;
      };
  lets_go = λ h name.
      let so = let_go_so h name in
      record { can = so.can; told = so.leads.0; gone = so.leads.1; past = so.leads.2 };
  leaves = λ h. (appends h).leads.1;
  has = has;
  means = means;
}
