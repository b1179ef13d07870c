-- What a step does to a receive SA, and what it delivers from the SA.
use Rattle.macsec_commands.specs.declared.command.Command.TheVariants.{RxLow, RxOff}
use Rattle.macsec_restarts.proofs.Names.{[], ◌&&◌, ◌++◌, ◌+◌, ◌<◌, ◌==◌, ◌∙◌, ◌∷◌, ◌≡◌, ◌≤◌, All, All-cons, All-filter}
use Rattle.macsec_restarts.proofs.Names.{All-nil, All-weaker, AllPairs, and_parts, ap, arith, Bool, bytes_eq-Decides}
use Rattle.macsec_restarts.proofs.Names.{client_frame, Command, cond, contained, Contains, delivered_at, delivered_by}
use Rattle.macsec_restarts.proofs.Names.{Delivery, effect, endpoint_input, EndpointLaws, eqb-true, false, filter}
use Rattle.macsec_restarts.proofs.Names.{frame_fault, FrameFault, get_or, HasStrictOrder, holds_of, if◌then◌else◌, inl}
use Rattle.macsec_restarts.proofs.Names.{Input, inr, is_at, is_valid, IsAbove, IsMember, IsSound, judgement_of, Keeping}
use Rattle.macsec_restarts.proofs.Names.{keeping_step, KeepingInput, last_of, link_frame, List, ltb-false, map, nat_lt}
use Rattle.macsec_restarts.proofs.Names.{newly_delivered, no_pairs, None, not, now_durable, one_alone, operator_command}
use Rattle.macsec_restarts.proofs.Names.{Option, option_map, or_parts, Output, received_output, received_step, refl}
use Rattle.macsec_restarts.proofs.Names.{Refusal, refusal, Replay, rx_row, RxDel, RxOn, RxRow, RxSa, RxScDel}
use Rattle.macsec_restarts.proofs.Names.{same_octets, same_sci, Sci, sending_of, sent_output, Some, State}
use Rattle.macsec_restarts.proofs.Names.{state_after_receiving, state_after_sending, step, subst, sym, the_key, true}
use Rattle.macsec_restarts.proofs.Names.{uncontrolled_frame, unless_fault, unless_refused, unwrap_or, ℕ}
use Rattle.macsec_restarts.proofs.Sends.{by_keeping}
use Rattle.macsec_rx.specs.Channels.{at_place}
use Rattle.macsec_rx.specs.Commands.{is_below_lowest, row_narrowed, row_raised, row_switched, rx_low_refusals}
use Rattle.macsec_rx.specs.Commands.{rx_sa_refusals}
use Rattle.macsec_rx.specs.Judge.{accepted_number, rows_accepting}
use Rattle.macsec_secy.proofs.AfterCommands.{none_hold}
use Rattle.macsec_secy.proofs.RxRowsStay.{accepts, at_one_place, KeepsPlace, narrows, raises, rx_row-map, switches}
use Rattle.macsec_secy.proofs.Sums.{one_sci}
use Rattle.macsec_secy.specs.Kept.{deletes, is_deleting, RxRowStays}
use Rattle.macsec_suite.specs.Refusals.{is_outside}
use Rattle.std.proofs.lemmas.Bool.{eqb-false}

-- The next packet number of a receive SA does not fall while the SA exists. So a number below it stays below it, if
-- each SA that is created begins above the number.

abbrev pub RowsStay : Type 0
RowsStay = (s : State) (input : Input) (sci : Sci) (an n : ℕ) → RxRowStays s input sci an n

pub same_place : (sci other : Sci) (an n : ℕ) → same_sci sci other && an == n ≡ true → (sci ≡ other) × (an ≡ n)
same_place sci other an n same =
    let parts = and_parts (same_sci sci other) (an == n) same in
    (one_sci sci other parts.0, eqb-true an n parts.1)

-- the SA is under these key octets
abbrev pub IsUnder : State → List ℕ → RxRow → Type 0
IsUnder s bytes row = (the_key s.keys row.key).bytes ≡ bytes

-- the number is below the next one of the SA under these key octets, if there is one
abbrev pub IsBelowNext : State → List ℕ → Sci → ℕ → ℕ → Type 0
IsBelowNext s bytes sci an n = (row : RxRow) → rx_row s.rx.rows sci an ≡ Some row → IsUnder s bytes row →
    n + 1 ≤ row.next

pub below_above : (s : State) (bytes : List ℕ) (sci : Sci) (an n : ℕ) → IsAbove s.rx.rows sci an (n + 1) →
    IsBelowNext s bytes sci an n
below_above s _ _ _ n it row there under =
    let one : it.row ≡ row = ap (λ r. unwrap_or r row) (sym it.there ∙ there) in
    rw one at it.above

-- ---- a deleted SA is not there

none_left : (sci : Sci) (an : ℕ) (test : RxRow → Bool) → ((row : RxRow) → is_at sci an row ≡ true → test row ≡ false) →
    (rows : List RxRow) → rx_row (filter test rows) sci an ≡ None
none_left _ _ _ _ [] = refl
none_left sci an test fails (row ∷ rows) = by_test _ refl (none_left sci an test fails rows)
  where
    by_place : (b : Bool) → is_at sci an row ≡ b → test row ≡ true → rx_row (filter test rows) sci an ≡ None →
        (if b then Some row else rx_row (filter test rows) sci an) ≡ None
    by_place true here passes none = let no = sym passes ∙ fails row here in cc
    by_place false _ _ none = none

    by_test : (b : Bool) → test row ≡ b → rx_row (filter test rows) sci an ≡ None →
        rx_row (cond b (row ∷ filter test rows) (filter test rows)) sci an ≡ None
    by_test true passes none = by_place _ refl passes none
    by_test false _ none = none

not_true : (b : Bool) → b ≡ true → not b ≡ false
not_true true _ = refl
not_true false is = cc

by_refusal : (r : Option Refusal) (s : State) (c : Command) (sci : Sci) (an : ℕ) (row later : RxRow) →
    rx_row s.rx.rows sci an ≡ Some row →
    rx_row (unless_refused None s c).rx.rows sci an ≡ None → rx_row (unless_refused r s c).rx.rows sci an ≡ Some later →
    row.next ≤ later.next
by_refusal None s c _ _ _ _ there none there' = let no = sym none ∙ there' in cc
by_refusal (Some r) s c _ _ row later there none there' =
    let one : row ≡ later = ap (λ o. unwrap_or o later) (sym there ∙ there') in
    rw (← one) (omega arith)

deleted_by : (s : State) (c : Command) (sci : Sci) (an : ℕ) {row later : RxRow} → deletes sci an c ≡ true →
    rx_row s.rx.rows sci an ≡ Some row →
    rx_row (step s (operator_command c)).1.rx.rows sci an ≡ Some later → row.next ≤ later.next
deleted_by s (RxScDel of_sci) sci an {row} {later} deleted there there' =
    by_refusal _ s _ sci an row later there (none_left sci an (λ r. not (same_sci r.sci of_sci)) (λ r here. not_true _
    (rw ((same_place r.sci sci r.an an here).0, deleted))) _) there'
deleted_by s (RxDel of_sci of_an) sci an {row} {later} deleted there there' =
    let same = same_place sci of_sci an of_an deleted in
    by_refusal _ s _ sci an row later there (none_left sci an (λ r. not (is_at of_sci of_an r))
    (λ r here. not_true _ (rw (← same.0, ← same.1, here))) _) there'
deleted_by s c _ _ deleted there there' = cc

-- ---- a step

stays_there : (row later : RxRow) (rows : List RxRow) (sci : Sci) (an : ℕ) → rx_row rows sci an ≡ Some row →
    rx_row rows sci an ≡ Some later → row.next ≤ later.next
stays_there row later _ _ _ there there' =
    let one : row ≡ later = ap (λ o. unwrap_or o later) (sym there ∙ there') in
    rw (← one) (omega arith)

by_input : RowsStay → (s : State) (input : Input) (sci : Sci) (an : ℕ) (row later : RxRow) → (b : Bool) →
    is_deleting sci an input ≡ b → rx_row s.rx.rows sci an ≡ Some row →
    rx_row (step s input).1.rx.rows sci an ≡ Some later → row.next ≤ later.next
by_input stay s input sci an row later false kept there there' =
    let it = stay s input sci an row.next kept (record { row = row; there = there; above = omega arith }) in
    let one : it.row ≡ later = ap (λ o. unwrap_or o later) (sym it.there ∙ there') in
    rw one at it.above
by_input _ s (operator_command c) sci an _ _ true deleted there there' = deleted_by s c sci an deleted there there'
by_input stay s _ _ _ _ _ true deleted there there' = cc

pub next_stays : RowsStay → (k : Keeping) (input : KeepingInput) (sci : Sci) (an : ℕ) (row later : RxRow) →
    rx_row k.secy.rx.rows sci an ≡ Some row →
    rx_row (keeping_step k input).1.secy.rx.rows sci an ≡ Some later → row.next ≤ later.next
next_stays _ k (now_durable r) sci an row later there = stays_there row later _ sci an there
next_stays stay k (endpoint_input input) sci an row later there =
    by_keeping (λ s. rx_row s.rx.rows sci an ≡ Some later → row.next ≤ later.next) k input
    (stays_there row later _ sci an there) (by_input stay k.secy input sci an row later _ refl there)

-- What a step does to the receive SA at a place: the SA stays with its key, and its lowest acceptable packet number
-- does not fall; or it is deleted; or a command creates it.

-- it has the same key, and its lowest acceptable PN has not fallen
pub record IsLaterRow (row later : RxRow) : Type 0 where
  pub key : later.key ≡ row.key
  pub lowest : row.lowest ≤ later.lowest

-- the input is the command that creates it
pub record IsCreatedBy (input : Input) (row : RxRow) : Type 0 where
  pub ssci : ℕ
  pub is : input ≡ operator_command (RxSa row.sci row.an row.key ssci row.lowest)
  pub least : 1 ≤ row.lowest
  pub next : row.lowest ≤ row.next

abbrev pub RowStep : Input → Option RxRow → Option RxRow → Type 0
RowStep input before None = Unit {0}
RowStep input (Some row) (Some later) = IsLaterRow row later
RowStep input None (Some row) = IsCreatedBy input row

pub still : (input : Input) (o : Option RxRow) → RowStep input o o
still _ None = tt
still _ (Some _) = record { key = refl; lowest = omega arith }

pub found_at : (rows : List RxRow) (sci : Sci) (an : ℕ) (row : RxRow) → rx_row rows sci an ≡ Some row →
    is_at sci an row ≡ true
found_at [] _ _ _ found = cc
found_at (r ∷ rows) sci an row found = by_test (is_at sci an r) refl found (found_at rows sci an row)
  where
    by_test : (b : Bool) → is_at sci an r ≡ b → (if b then Some r else rx_row rows sci an) ≡ Some row →
        (rx_row rows sci an ≡ Some row → is_at sci an row ≡ true) → is_at sci an row ≡ true
    by_test true here found' later = let one : r ≡ row = cc in subst (λ x. is_at sci an x ≡ true) one here
    by_test false _ found' later = later found'

pub found_row : (sci : Sci) (an : ℕ) (rows : List RxRow) (row : RxRow) → rx_row rows sci an ≡ Some row →
    IsMember rows row
found_row _ _ [] _ found = cc
found_row sci an (x ∷ xs) row found = by_test (is_at sci an x) found (found_row sci an xs row)
  where
    by_test : (b : Bool) → (if b then Some x else rx_row xs sci an) ≡ Some row →
        (rx_row xs sci an ≡ Some row → IsMember xs row) → IsMember (x ∷ xs) row
    by_test true found' later = inl cc
    by_test false found' later = inr (later found')

-- ---- changes of all SAs

mapped : (input : Input) (f : RxRow → RxRow) → KeepsPlace f → (rows : List RxRow) (sci : Sci) (an : ℕ) →
    ((row : RxRow) → rx_row rows sci an ≡ Some row → IsLaterRow row (f row)) →
    RowStep input (rx_row rows sci an) (rx_row (map f rows) sci an)
mapped input f keeps rows sci an later = rw (rx_row-map f keeps rows sci an) (by_row _ refl)
  where
    by_row : (o : Option RxRow) → rx_row rows sci an ≡ o → RowStep input o (option_map f o)
    by_row None _ = tt
    by_row (Some row) there = later row there

at_one : (input : Input) (f : RxRow → RxRow) → KeepsPlace f →
    (of_sci : Sci) (of_an : ℕ) (rows : List RxRow) (sci : Sci) (an : ℕ) →
    ((row : RxRow) → rx_row rows sci an ≡ Some row → is_at of_sci of_an row ≡ true → IsLaterRow row (f row)) →
    RowStep input (rx_row rows sci an) (rx_row (map (at_place f of_sci of_an) rows) sci an)
at_one input f keeps of_sci of_an rows sci an later = mapped input _ (at_one_place f keeps of_sci of_an) rows sci an
    (λ row there. by_test (is_at of_sci of_an row) row there refl)
  where
    by_test : (b : Bool) → (row : RxRow) → rx_row rows sci an ≡ Some row → is_at of_sci of_an row ≡ b →
        IsLaterRow row (if b then f row else row)
    by_test true row there here = later row there here
    by_test false _ there elsewhere = record { key = refl; lowest = omega arith }

-- ---- SAs are deleted and created

-- the SAs of the place all stay, or none does
kept_or_none : {keep : RxRow → Bool} (b : Bool) (rows : List RxRow) (sci : Sci) (an : ℕ) →
    ((r : RxRow) → is_at sci an r ≡ true → keep r ≡ b) →
    rx_row (filter keep rows) sci an ≡ (if b then rx_row rows sci an else None)
kept_or_none true [] _ _ _ = refl
kept_or_none false [] _ _ _ = refl
kept_or_none {keep} b (r ∷ rows) sci an same =
    by_tests (is_at sci an r) (keep r) refl refl (kept_or_none b rows sci an same)
  where
    by_same : (left c : Bool) → left ≡ c → rx_row (filter keep rows) sci an ≡ (if c then rx_row rows sci an else None) →
        is_at sci an r ≡ true →
        rx_row (cond left (r ∷ filter keep rows) (filter keep rows)) sci an ≡ (if c then Some r else None)
    by_same true true _ _ here = ap (λ t. if t then Some r else rx_row (filter keep rows) sci an) here
    by_same false false _ rest _ = rest
    by_same true false is rest here = cc
    by_same false true is rest here = cc

    by_tests : (here left : Bool) → is_at sci an r ≡ here → keep r ≡ left →
        rx_row (filter keep rows) sci an ≡ (if b then rx_row rows sci an else None) →
        rx_row (cond left (r ∷ filter keep rows) (filter keep rows)) sci an ≡
        (if b then (if here then Some r else rx_row rows sci an) else None)
    by_tests true left here is rest = by_same left b (sym is ∙ same r here) rest here
    by_tests false true here _ rest = ap (λ t. if t then Some r else rx_row (filter keep rows) sci an) here ∙ rest
    by_tests false false _ _ rest = rest

filtered : (input : Input) (keep : RxRow → Bool) (b : Bool) (rows : List RxRow) (sci : Sci) (an : ℕ) →
    ((r : RxRow) → is_at sci an r ≡ true → keep r ≡ b) →
    RowStep input (rx_row rows sci an) (rx_row (filter keep rows) sci an)
filtered input _ b rows sci an same = rw (kept_or_none b rows sci an same) (by_test b)
  where
    by_test : (b' : Bool) → RowStep input (rx_row rows sci an) (if b' then rx_row rows sci an else None)
    by_test true = still input _
    by_test false = tt

appended : (input : Input) (rows : List RxRow) (new : RxRow) (sci : Sci) (an : ℕ) → IsCreatedBy input new →
    RowStep input (rx_row rows sci an) (rx_row (rows ++ new ∷ []) sci an)
appended input [] new sci an created = by_test (is_at sci an new)
  where
    by_test : (b : Bool) → RowStep input None (if b then Some new else None)
    by_test true = created
    by_test false = tt
appended input (r ∷ rows) new sci an created = by_test (is_at sci an r) (appended input rows new sci an created)
  where
    by_test : (b : Bool) → RowStep input (rx_row rows sci an) (rx_row (rows ++ new ∷ []) sci an) →
        RowStep input (if b then Some r else rx_row rows sci an)
        (if b then Some r else rx_row (rows ++ new ∷ []) sci an)
    by_test true _ = still input (Some r)
    by_test false rest = rest

-- ---- commands

first_least : (last first : ℕ) → is_outside last first ≡ false → 1 ≤ first
first_least _ first inside = by_zero (eqb-false first 0 (or_parts _ _ inside).0)
  where
    by_zero : (first ≡ 0 → ⊥) → 1 ≤ first
    by_zero differs = omega (arith, differs)

raised : (rows : List RxRow) (of_sci : Sci) (of_an pn : ℕ) → is_below_lowest rows of_sci of_an pn ≡ false →
    (sci : Sci) (an : ℕ) (row : RxRow) →
    rx_row rows sci an ≡ Some row → is_at of_sci of_an row ≡ true → IsLaterRow row (row_raised pn row)
raised rows of_sci of_an pn above sci an row there here =
    let own = same_place row.sci sci row.an an (found_at rows sci an row there) in
    let other = same_place row.sci of_sci row.an of_an here in
    let found : rx_row rows of_sci of_an ≡ Some row = rw ((sym other.0 ∙ own.0), (sym other.1 ∙ own.1), there) in
    let not_below : nat_lt pn row.lowest ≡ false = ap (holds_of (λ r. nat_lt pn r.lowest)) (sym found) ∙ above in
    record { key = refl; lowest = ltb-false pn row.lowest not_below }

by_effect : (s : State) (c : Command) (sci : Sci) (an : ℕ) → refusal s c ≡ None →
    RowStep (operator_command c) (rx_row s.rx.rows sci an) (rx_row (effect s c).rx.rows sci an)
by_effect s (Replay protect window) sci an none =
    mapped (operator_command (Replay protect window)) (row_narrowed window) (narrows window) s.rx.rows sci an
    (λ row there. record { key = refl; lowest = omega arith })
by_effect s (RxScDel of_sci) sci an none =
    filtered (operator_command (RxScDel of_sci)) (λ r. not (same_sci r.sci of_sci))
    (not (same_sci sci of_sci)) s.rx.rows sci an (λ r here. rw ((same_place r.sci sci r.an an here).0))
by_effect s (RxSa of_sci of_an key ssci lowest) sci an none =
    appended (operator_command (RxSa of_sci of_an key ssci lowest)) s.rx.rows
    (record { sci = of_sci; an = of_an; key = key; ssci = ssci; next = lowest; lowest = lowest; on = false }) sci an
    (record {
      ssci = ssci;
      is = refl;
      least = first_least (last_of (the_key s.keys key).suite) lowest
          (none_hold (rx_sa_refusals s.keys s.rx of_sci of_an key ssci lowest) none).1.1.1.1.0;
      next = omega arith;
    })
by_effect s (RxOn of_sci of_an) sci an none =
    at_one (operator_command (RxOn of_sci of_an)) (row_switched true) (switches true) of_sci of_an s.rx.rows sci an
    (λ row there here. record { key = refl; lowest = omega arith })
by_effect s (RxOff of_sci of_an) sci an none =
    at_one (operator_command (RxOff of_sci of_an)) (row_switched false) (switches false) of_sci of_an s.rx.rows sci an
    (λ row there here. record { key = refl; lowest = omega arith })
by_effect s (RxLow of_sci of_an pn) sci an none =
    at_one (operator_command (RxLow of_sci of_an pn)) (row_raised pn) (raises pn) of_sci of_an s.rx.rows sci an
    (raised s.rx.rows of_sci of_an pn (none_hold (rx_low_refusals s.keys s.rx of_sci of_an pn) none).1.1.1.0 sci an)
by_effect s (RxDel of_sci of_an) sci an none =
    filtered (operator_command (RxDel of_sci of_an)) (λ r. not (is_at of_sci of_an r))
    (not (same_sci sci of_sci && an == of_an)) s.rx.rows sci an (λ r here.
    let same = same_place r.sci sci r.an an here in
    rw (same.0, same.1))
by_effect s c sci an _ = still (operator_command c) (rx_row s.rx.rows sci an)

by_command : (s : State) (c : Command) (sci : Sci) (an : ℕ) (r : Option Refusal) → refusal s c ≡ r →
    RowStep (operator_command c) (rx_row s.rx.rows sci an) (rx_row (unless_refused r s c).rx.rows sci an)
by_command s c sci an None is = by_effect s c sci an is
by_command s c _ _ (Some r) _ = still _ _

-- ---- frames

accepting : (input : Input) (window : ℕ) (number : Option ℕ) (row : Option RxRow) (rows : List RxRow) (sci : Sci)
    (an : ℕ) → RowStep input (rx_row rows sci an) (rx_row (rows_accepting window number row rows) sci an)
accepting input window (Some number) (Some row) rows sci an =
    at_one input _ (accepts window number) row.sci row.an rows sci an
    (λ r there here. record { key = refl; lowest = omega arith })
accepting input _ _ _ _ _ _ = still input _

by_fault : (input : Input) (s after : State) (output : Output) (fault : Option FrameFault) (sci : Sci) (an : ℕ) →
    RowStep input (rx_row s.rx.rows sci an) (rx_row after.rx.rows sci an) →
    RowStep input (rx_row s.rx.rows sci an) (rx_row (unless_fault fault s (output, after)).1.rx.rows sci an)
by_fault _ s _ _ None _ _ stepped = stepped
by_fault input s _ _ (Some f) _ _ _ = still input _

-- ---- every input

pub row_step : (s : State) (input : Input) (sci : Sci) (an : ℕ) →
    RowStep input (rx_row s.rx.rows sci an) (rx_row (step s input).1.rx.rows sci an)
row_step s (operator_command c) sci an = by_command s c sci an _ refl
row_step s (client_frame frame) sci an =
    by_fault (client_frame frame) s (state_after_sending s frame (sending_of s frame))
    (sent_output frame (sending_of s frame).leaving) (frame_fault frame) sci an
    (still (client_frame frame) (rx_row s.rx.rows sci an))
row_step s (uncontrolled_frame _) sci an = by_fault _ s s _ _ sci an (still _ _)
row_step s (link_frame frame) sci an =
    let j = judgement_of s frame in
    by_fault (link_frame frame) s (state_after_receiving s frame j) (received_output frame j) (frame_fault frame) sci an
    (accepting (link_frame frame) s.options.window (accepted_number j) j.row s.rx.rows sci an)

-- What an input delivers from an SA: at most one client frame, with a packet number above what the journal had saved,
-- and
-- above what is below the SA's next number.

pub all_pass : {X : Type 0} (p : X → Bool) (xs : List X) → All (λ x. p x ≡ true) (filter p xs)
all_pass p [] = All-nil (λ x. p x ≡ true)
all_pass p (x ∷ xs) = by_test (p x) refl (all_pass p xs)
  where
    by_test : (b : Bool) → p x ≡ b → All (λ y. p y ≡ true) (filter p xs) →
        All (λ y. p y ≡ true) (cond b (x ∷ filter p xs) (filter p xs))
    by_test true is rest = All-cons (λ y. p y ≡ true) x _ is rest
    by_test false _ rest = rest

pub all_there : {X : Type 0} (gs : List X) → All (Contains gs) gs
all_there {X} gs i d within = contained gs (get_or gs i d) (members gs i d within)
  where
    members : (xs : List X) → All (IsMember xs) xs
    members [] = All-nil (IsMember [])
    members (x ∷ xs) = All-cons (IsMember (x ∷ xs)) x xs (inl refl) (All-weaker (IsMember xs) (IsMember (x ∷ xs))
        (λ y there. inr there) xs (members xs))

-- ---- a delivery, with the frame and the SA

pub data IsGiven (s : State) : KeepingInput → Delivery → Type 0 where
  is_given : (frame : List ℕ) (row : RxRow) (delivered : List ℕ) → frame_fault frame ≡ None →
      (judgement_of s frame).row ≡ Some row → (judgement_of s frame).delivered ≡ Some delivered →
      IsGiven s (endpoint_input (link_frame frame)) (record {
        bytes = (the_key s.keys row.key).bytes;
        sci = row.sci;
        an = row.an;
        number = (judgement_of s frame).number;
        frame = delivered;
      })

pub each_given : (k : Keeping) (input : KeepingInput) → All (IsGiven k.secy input) (newly_delivered k input)
each_given k (endpoint_input (link_frame frame)) =
    by_delivery (frame_fault frame) refl (judgement_of k.secy frame).row refl (judgement_of k.secy frame).delivered refl
  where
    P : Delivery → Type 0
    P = IsGiven k.secy (endpoint_input (link_frame frame))

    by_delivery : (f : Option FrameFault) → frame_fault frame ≡ f → (o : Option RxRow) →
        (judgement_of k.secy frame).row ≡ o → (d : Option (List ℕ)) → (judgement_of k.secy frame).delivered ≡ d →
        All P (delivered_by k.secy (judgement_of k.secy frame) f o d)
    by_delivery None fits (Some row) of_row (Some _) delivers =
        All-cons P _ [] (is_given frame row _ fits of_row delivers) (All-nil P)
    by_delivery f _ o _ d _ = All-nil P
each_given k _ = All-nil _

module _ (bytes : List ℕ) (sci : Sci) (an : ℕ) where
  abbrev pub is_ours : Delivery → Bool
  is_ours g = same_octets g.bytes bytes && same_sci g.sci sci && g.an == an

  -- what holds of each delivery from the SA of this SCI and AN, under these key octets
  pub of_ours : (P : Delivery → Type 0) (k : Keeping) (input : KeepingInput) →
      ((g : Delivery) → Contains (delivered_at bytes sci an (newly_delivered k input)) g → IsGiven k.secy input g →
      g.bytes ≡ bytes → g.sci ≡ sci → g.an ≡ an → P g) → All P (delivered_at bytes sci an (newly_delivered k input))
  of_ours P k input holds i d within =
      let ds = newly_delivered k input in
      let g = get_or (delivered_at bytes sci an ds) i d in
      let parts = and_parts (same_octets g.bytes bytes && same_sci g.sci sci) (g.an == an)
      (all_pass is_ours ds i d within) in
      let octets = and_parts (same_octets g.bytes bytes) (same_sci g.sci sci) parts.0 in
      let place = same_place g.sci sci g.an an (rw (octets.1, parts.1)) in
      holds g (all_there _ i d within) (All-filter is_ours (IsGiven k.secy input) ds (each_given k input) i d within)
      ((bytes_eq-Decides g.bytes bytes).0 octets.0) place.0 place.1

-- ---- deliveries in rising order

abbrev pub Before : Delivery → Delivery → Type 0
Before g h = g.number < h.number

pub at_most_one : (k : Keeping) (input : KeepingInput) → AllPairs Before (newly_delivered k input)
at_most_one k (endpoint_input (link_frame frame)) = by_delivery (frame_fault frame) (judgement_of k.secy frame).row
    (judgement_of k.secy frame).delivered
  where
    by_delivery : (f : Option FrameFault) (o : Option RxRow) (d : Option (List ℕ)) →
        AllPairs Before (delivered_by k.secy (judgement_of k.secy frame) f o d)
    by_delivery None (Some _) (Some _) = one_alone Before _
    by_delivery f o d = no_pairs Before
at_most_one k _ = no_pairs Before

-- if the input delivers a frame from the SA, the end has strict order
abbrev pub IsStrictInput : Keeping → List ℕ → Sci → ℕ → KeepingInput → Type 0
IsStrictInput k bytes sci an input =
    (d : Delivery) → Contains (delivered_at bytes sci an (newly_delivered k input)) d → HasStrictOrder k.secy

module _ (laws : EndpointLaws) where
  -- in strict order what is delivered is valid
  pub is_valid_now : (k : Keeping) → IsSound k.secy → HasStrictOrder k.secy → (input : KeepingInput) (g : Delivery) →
      IsGiven k.secy input g → is_valid k.secy input ≡ true
  is_valid_now k sound order _ _ (is_given frame row delivered fits of_row delivers) =
      ((laws.delivers k.secy frame row delivered sound of_row delivers).opened order.mode).thirteen

  module _ (sci : Sci) (an : ℕ) where
    -- at a window of 0, what is delivered is above each number that is below the SA's next one
    pub delivers_above : (bytes : List ℕ) (s : State) → IsSound s → s.options.replay ≡ true → s.options.window ≡ 0 →
        (input : KeepingInput) (g : Delivery) → IsGiven s input g → g.bytes ≡ bytes → g.sci ≡ sci → g.an ≡ an →
        (n : ℕ) → IsBelowNext s bytes sci an n → n < g.number
    delivers_above bytes s sound replay window _ _ (is_given frame row delivered fits of_row delivers) is_bytes is_sci
        is_an n below =
        let tells = laws.delivers s frame row delivered sound of_row delivers in
        let place : rx_row s.rx.rows sci an ≡ Some row =
        rw (← is_an) (subst (λ x. rx_row s.rx.rows x row.an ≡ Some row) is_sci tells.at_place) in
        omega (arith, below row place is_bytes, tells.window, window, tells.on_time replay)

    -- what is valid is below the SA's next number afterwards
    pub next_above : (k : Keeping) → IsSound k.secy → (input : KeepingInput) (g : Delivery) → IsGiven k.secy input g →
        is_valid k.secy input ≡ true → g.sci ≡ sci → g.an ≡ an →
        IsAbove (keeping_step k input).1.secy.rx.rows sci an (g.number + 1)
    next_above k sound _ _ (is_given frame row delivered fits of_row delivers) valid is_sci is_an =
        let s = k.secy in
        let tells = laws.delivers s frame row delivered sound of_row delivers in
        let stepped : IsAbove (step s (link_frame frame)).1.rx.rows row.sci row.an ((judgement_of s frame).number + 1) =
        rw fits (tells.accepted valid) in
        let ours : IsAbove (step s (link_frame frame)).1.rx.rows sci an ((judgement_of s frame).number + 1) =
        rw (← is_an) (rw is_sci at stepped) in
        rw (received_step k frame) ours
