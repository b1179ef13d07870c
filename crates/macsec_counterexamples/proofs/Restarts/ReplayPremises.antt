-- The second promise needs each premise: without it there are two runs that meet the others, and the later run delivers
-- the frame that the earlier one accepted.
use Rattle.macsec_reserve.specs.{
  Histories.reported,
  Replay.{HasSaved, IsAccepted, KeepsAssociation, row_name, saved_for},
}
use Rattle.macsec_counterexamples.proofs.{
  Names.{[], ◌++◌, ◌+◌, ◌<◌, ◌∷◌, ◌≡◌, ◌≢◌, ◌≤◌, All, All-cons, All-nil, arith, Bool, compress, Contains, digest_bytes},
  Names.{effect, endpoint_input, false, first_words, hash_after, highest, highest_of_one, if◌then◌else◌, IsReservation},
  Names.{judgement_of, Keeping, keeping_after, keeping_step, KeepingInput, KeepsDurable, length-sha256, link_frame},
  Names.{List, max, now_durable, opening, receiving_name, reduced, reduced_reserves, refl, Reservation, reservations},
  Names.{rounds, Run, rx_row, RxDel, RxRow, RxSa, salt_of, same_octets, schedule, Sci, sending_name, sha256, Some},
  Names.{State, sym, the_key, true, ℕ},
  Link.{Exchange.{first_opens, first_tag, client}, WorkedEnds.{bytes, gcm_b, rx_from, sci_a}},
  Restarts.{
    Goes.{Goes, command, commands_go, ended, is_new, link_seals, link_step, next_goes},
    Journals.{journal, salt, salt_is, says},
    Receivers.{Off, Plain, Receiver, Wide, frame, goes, heard, heard_sound, inputs, is_heard, judged, judged_as},
    Receivers.{lowest_of, name_of, ready, ready_sound, verdict_of},
    Senders.kept,
    Tables.commands_sound,
  },
}

-- the names of the premises
pub data Premise : Type 0 where
  KeepsTheAssociation : Premise
  WindowOf0 : Premise
  IsReported : Premise
  IsDurable : Premise
  DropsLate : Premise

-- `HasSaved` without one of them
pub record HasSavedBut (left_out : Premise) (run : Run) (name : List ℕ) (n : ℕ) : Type 0 where
  pub before : List KeepingInput
  pub frame : List ℕ
  pub from : RxRow
  pub accepted : IsAccepted (keeping_after (opening run) before).secy frame from
  pub number : (judgement_of (keeping_after (opening run) before).secy frame).number ≡ n
  pub then_on : List KeepingInput
  pub keeps : KeepsTheAssociation ≢ left_out → All (KeepsAssociation from.sci from.an) then_on
  pub last : Keeping
  pub last_is : last ≡ keeping_after (keeping_step (keeping_after (opening run) before)
      (endpoint_input (link_frame frame))).1 then_on
  pub window : WindowOf0 ≢ left_out → last.secy.options.window ≡ 0
  pub row : RxRow
  pub there : rx_row last.secy.rx.rows from.sci from.an ≡ Some row
  pub name_is : row_name last.salt last.secy row ≡ name
  pub durable : IsReported ≢ left_out → Contains (reported run) (saved_for last.salt last.secy row)

-- with the one that was left out it is `HasSaved`
pub premises_suffice : (left_out : Premise) (run : Run) (name : List ℕ) (n : ℕ) (it : HasSavedBut left_out run name n) →
    All (KeepsAssociation it.from.sci it.from.an) it.then_on →
    it.last.secy.options.window ≡ 0 → Contains (reported run) (saved_for it.last.salt it.last.secy it.row) →
    HasSaved run name n
premises_suffice left_out run name n it keeps window durable = record {
  before = it.before;
  frame = it.frame;
  from = it.from;
  accepted = it.accepted;
  number = it.number;
  then_on = it.then_on;
  keeps = keeps;
  last = it.last;
  last_is = it.last_is;
  window = window;
  row = it.row;
  there = it.there;
  name_is = it.name_is;
  durable = durable;
}

-- the promise without one of them
abbrev pub LawWithout : Premise → Run → Run → List ℕ → ℕ → Type 0
LawWithout left_out run later name n =
    HasSavedBut left_out run name n → (IsDurable ≢ left_out → KeepsDurable run later) →
    (inputs : List KeepingInput) (frame : List ℕ) (row : RxRow) (delivered : List ℕ) →
    let s = (keeping_after (opening later) inputs).secy in
    (DropsLate ≢ left_out → s.options.replay ≡ true) → (judgement_of s frame).row ≡ Some row →
    (judgement_of s frame).delivered ≡ Some delivered → row_name (salt_of later.journal) s row ≡ name →
    n < (judgement_of s frame).number

-- ---- a run with a worked journal

abbrev run_with : List Reservation → List KeepingInput → Run
run_with rs inputs = record { journal = journal false rs; config = gcm_b; inputs = inputs }

abbrev name : List ℕ
name = name_of (salt false)

abbrev reads : List Reservation → List Reservation
reads rs = reduced (reservations (journal false rs))

-- it is ready for the frame
run_goes : (r : Receiver) (rs : List Reservation) (all : List KeepingInput) → All IsReservation rs →
    highest rs name < lowest_of r →
    Goes (opening (run_with rs all)) (inputs r) [] (kept (salt false) (reads rs) [] (ready r))
run_goes r rs all are free =
    let above : highest (reads rs) name < lowest_of r =
    omega (arith, reduced_reserves (reservations (journal false rs)) name, says false rs are name, free) in
    rw (salt_is _ _) (goes (salt false) (reads rs) r above)

nothing : All IsReservation []
nothing = All-nil IsReservation

abbrev link : KeepingInput
link = endpoint_input (link_frame (frame first_tag))

-- ---- the later run: it delivers the frame, with packet number 1

later_refutes : (left_out : Premise) (r : Receiver) (run : Run) (rs : List Reservation) → All IsReservation rs →
    highest rs name < lowest_of r → (DropsLate ≢ left_out → (ready r).options.replay ≡ true) →
    row_name (salt false) (ready r) (rx_from (lowest_of r)) ≡ name →
    HasSavedBut left_out run name 1 → (IsDurable ≢ left_out → KeepsDurable run (run_with rs [])) →
    LawWithout left_out run (run_with rs []) name 1 → ⊥
later_refutes left_out r run rs are free drops named saved durable law =
    let it = run_goes r rs [] are free in
    let s = (keeping_after (opening (run_with rs [])) (inputs r)).secy in
    let same : s ≡ ready r = rw it.ends in
    let is : judgement_of s (frame first_tag) ≡ judged_as r = rw (same, judged r first_tag first_opens) in
    let less : 1 < (judgement_of s (frame first_tag)).number =
    law saved durable (inputs r) (frame first_tag) (rx_from (lowest_of r)) (client 1) (λ d. rw (same, drops d))
    (rw is) (rw is) (rw (salt_is false rs, same, named)) in
    let one : (judgement_of s (frame first_tag)).number ≡ 1 = rw is in
    omega (arith, less, one)

-- ---- the earlier run: it accepts the frame, and then does more

accepts : (r : Receiver) (all : List KeepingInput) → verdict_of r ≡ verdict_of Plain → highest [] name < lowest_of r →
    IsAccepted (keeping_after (opening (run_with [] all)) (inputs r)).secy (frame first_tag) (rx_from (lowest_of r))
accepts r all passed free =
    let it = run_goes r [] all nothing free in
    let is : judgement_of (keeping_after (opening (run_with [] all)) (inputs r)).secy (frame first_tag) ≡ judged_as r =
    rw (it.ends, judged r first_tag first_opens) in
    record {
      fits = refl;
      row = rw is;
      delivered = client 1;
      gives = rw is;
      step = rw is;
    }

-- the state after the frame
abbrev after : Receiver → Keeping
after r = kept (salt false) (reads []) [] (heard r first_tag)

abbrev at_ready : Receiver → Keeping
at_ready r = kept (salt false) (reads []) [] (ready r)

-- the frame, and what follows it
frame_goes : (r : Receiver) (then_on : List KeepingInput) (last : Keeping) → Goes (after r) then_on [] last →
    Goes (at_ready r) (link ∷ then_on) [] last
frame_goes r then_on last rest = next_goes (ready_sound _) (link_seals (at_ready r) (frame first_tag))
    (rw (link_step _ _, is_heard _ _ first_opens)) rest

saved_but : (left_out : Premise) (r : Receiver) (all then_on : List KeepingInput) (last : Keeping) (row : RxRow) →
    verdict_of r ≡ verdict_of Plain → highest [] name < lowest_of r →
    Goes (after r) then_on [] last → (KeepsTheAssociation ≢ left_out → All (KeepsAssociation sci_a 0) then_on) →
    (WindowOf0 ≢ left_out → last.secy.options.window ≡ 0) →
    rx_row last.secy.rx.rows sci_a 0 ≡ Some row → row_name last.salt last.secy row ≡ name →
    (IsReported ≢ left_out → Contains (reported (run_with [] all)) (saved_for last.salt last.secy row)) →
    HasSavedBut left_out (run_with [] all) name 1
saved_but left_out r all then_on last row passed free rest keeps window there named durable =
    let it = run_goes r [] all nothing free in
    let both = frame_goes r then_on last rest in
    record {
      before = inputs r;
      frame = frame first_tag;
      from = rx_from (lowest_of r);
      accepted = accepts r all passed free;
      number = rw (it.ends, judged r first_tag first_opens);
      then_on = then_on;
      keeps = keeps;
      last = last;
      last_is = sym (rw (it.ends, both.ends));
      window = window;
      row = row;
      there = there;
      name_is = named;
      durable = durable;
    }

abbrev only_name : ℕ → Reservation
only_name n = record { name = name; last = n }

at_most : (n : ℕ) (other : List ℕ) → highest (only_name n ∷ []) other < n + 1
at_most n other = by_name _
  where
    by_name : (b : Bool) → (if b then max n 0 else 0) < n + 1
    by_name true = omega arith
    by_name false = omega arith

is_reservation : (n : ℕ) → n ≤ 1 → All IsReservation (only_name n ∷ [])
is_reservation n small = All-cons IsReservation (only_name n) []
    (record { name = length-sha256 _; last = omega (arith, small) }) (All-nil IsReservation)

-- ---- a run that accepts the frame, and reports what is to be saved

abbrev reports : Receiver → ℕ → List KeepingInput
reports r n = inputs r ++ link ∷ now_durable (only_name n) ∷ []

plain_saved : (left_out : Premise) → HasSavedBut left_out (run_with [] (reports Plain 1)) name 1
plain_saved left_out = saved_but left_out Plain (reports Plain 1) [] (after Plain) (rx_from 2) refl (omega arith)
    (ended _ (heard_sound Plain first_tag first_opens))
    (λ d. All-nil (KeepsAssociation sci_a 0)) (λ d. refl) refl refl (λ d. (0, omega arith, refl))

-- the later run reads an empty journal
pub durability_needed : LawWithout IsDurable (run_with [] (reports Plain 1)) (run_with [] []) name 1 → ⊥
durability_needed = later_refutes IsDurable Plain (run_with [] (reports Plain 1)) [] nothing (omega arith)
    (λ d. refl) refl (plain_saved _) (λ d. absurd (d refl))

-- the later run does not drop late frames: its SA begins at packet number 2, and it delivers the frame as a late one
pub protection_needed : LawWithout DropsLate (run_with [] (reports Plain 1)) (run_with (only_name 1 ∷ []) []) name 1 → ⊥
protection_needed =
    later_refutes DropsLate Off (run_with [] (reports Plain 1)) (only_name 1 ∷ []) (is_reservation 1 (omega arith))
    (at_most 1 _) (λ d. absurd (d refl)) refl (plain_saved _)
    (λ d n. omega (arith, says false (only_name 1 ∷ []) (is_reservation 1 (omega arith)) n))

-- the run saves nothing: no record was reported durable
pub report_needed : LawWithout IsReported (run_with [] (inputs Plain ++ link ∷ [])) (run_with [] []) name 1 → ⊥
report_needed =
    later_refutes IsReported Plain (run_with [] (inputs Plain ++ link ∷ [])) [] nothing (omega arith) (λ d. refl) refl
    (saved_but IsReported Plain (inputs Plain ++ link ∷ []) [] (after Plain) (rx_from 2) refl (omega arith)
    (ended _ (heard_sound Plain first_tag first_opens))
    (λ d. All-nil (KeepsAssociation sci_a 0)) (λ d. refl) refl refl (λ d. absurd (d refl))) (λ d n. omega arith)

-- ---- what is saved does not cover the frame

saves_0 : (left_out : Premise) (inputs' : List KeepingInput) → reported (run_with [] inputs') ≡ only_name 0 ∷ [] →
    IsDurable ≢ left_out → KeepsDurable (run_with [] inputs') (run_with [] [])
saves_0 left_out inputs' is d n =
    let none : highest (reported (run_with [] inputs')) n < 0 + 1 = rw is (at_most 0 _) in
    omega (arith, none)

-- at a window of 1 the lowest acceptable packet number is still 1
pub window_of_0_needed : LawWithout WindowOf0 (run_with [] (reports Wide 0)) (run_with [] []) name 1 → ⊥
window_of_0_needed =
    later_refutes WindowOf0 Plain (run_with [] (reports Wide 0)) [] nothing (omega arith) (λ d. refl) refl
    (saved_but WindowOf0 Wide (reports Wide 0) [] (after Wide) (record (rx_from 2) { lowest = 1 }) refl (omega arith)
    (ended _ (heard_sound Wide first_tag first_opens))
    (λ d. All-nil (KeepsAssociation sci_a 0)) (λ d. absurd (d refl)) refl refl (λ d. (0, omega arith, refl)))
    (saves_0 _ (reports Wide 0) refl)

-- ---- the SA is deleted after the frame, and created again at packet number 1

abbrev again : List KeepingInput
again = command (RxDel sci_a 0) ∷ command (RxSa sci_a 0 0 1 1) ∷ []

abbrev deleted : State
deleted = effect (heard Plain first_tag) (RxDel sci_a 0)

abbrev created : State
created = effect deleted (RxSa sci_a 0 0 1 1)

abbrev in_state : State → Keeping
in_state s = kept (salt false) (reads []) [] s

unsaved : highest (reads []) name < 1
unsaved = omega (arith, reduced_reserves (reservations (journal false [])) name, says false [] nothing name)

again_goes : Goes (after Plain) again [] (in_state created)
again_goes =
    let sound = heard_sound Plain first_tag first_opens in
    let cs = RxDel sci_a 0 ∷ RxSa sci_a 0 0 1 1 ∷ [] in
    commands_go cs {inputs = []} (refl, (is_new (reads []) name 1 unsaved, tt)) refl refl sound
    (ended _ (commands_sound cs refl refl sound))

abbrev deletes : List KeepingInput
deletes = inputs Plain ++ link ∷ again ++ now_durable (only_name 0) ∷ []

pub association_needed : LawWithout KeepsTheAssociation (run_with [] deletes) (run_with [] []) name 1 → ⊥
association_needed =
    later_refutes KeepsTheAssociation Plain (run_with [] deletes) [] nothing (omega arith) (λ d. refl) refl
    (saved_but KeepsTheAssociation Plain deletes again (in_state created) (record (rx_from 1) { on = false }) refl
    (omega arith) again_goes (λ d. absurd (d refl)) (λ d. refl) refl refl (λ d. (0, omega arith, refl)))
    (saves_0 KeepsTheAssociation deletes refl)

-- ---- the later run's journal has another salt

-- the promise of key octets without the premise that the journal keeps its salt
abbrev pub LawWithoutSameSalt : Run → Run → List ℕ → Sci → ℕ → ℕ → Type 0
LawWithoutSameSalt run later octets sci an n =
    HasSaved run (receiving_name (sending_name (salt_of run.journal) octets) sci an) n → KeepsDurable run later →
    (inputs : List KeepingInput) (frame : List ℕ) (row : RxRow) (delivered : List ℕ) →
    let s = (keeping_after (opening later) inputs).secy in
    s.options.replay ≡ true → (judgement_of s frame).row ≡ Some row →
    (judgement_of s frame).delivered ≡ Some delivered →
    (the_key s.keys row.key).bytes ≡ octets → row.sci ≡ sci → row.an ≡ an → n < (judgement_of s frame).number

-- the journal with the record of the earlier run after a header with the other salt
abbrev salted : Run
salted = record { journal = journal true (only_name 1 ∷ []); config = gcm_b; inputs = [] }

salted_names_differ : same_octets name (name_of (salt true)) ≡ false
unfolding first_words schedule rounds compress hash_after digest_bytes sha256
salted_names_differ = refl

plain_has_saved : HasSaved (run_with [] (reports Plain 1))
    (receiving_name (sending_name (salt_of (journal false [])) bytes) sci_a 0) 1
plain_has_saved =
    let it = plain_saved _ in
    rw (salt_is false []) (premises_suffice IsDurable (run_with [] (reports Plain 1)) name 1 it (it.keeps (λ same. cc))
    (it.window (λ same. cc)) (it.durable (λ same. cc)))

salted_goes : Goes (opening salted) (inputs Plain) []
    (kept (salt true) (reduced (reservations (journal true (only_name 1 ∷ [])))) [] (ready Plain))
salted_goes =
    let rs : List Reservation = only_name 1 ∷ [] in
    let are : All IsReservation rs = is_reservation 1 (omega arith) in
    let before : List Reservation = reduced (reservations (journal true rs)) in
    let above : highest before (name_of (salt true)) < lowest_of Plain =
    let other = name_of (salt true) in
    let none = highest_of_one (only_name 1) other false salted_names_differ in
    omega (arith, reduced_reserves (reservations (journal true rs)) other, says true rs are other, none) in
    rw (salt_is true rs) (goes (salt true) before Plain above)

pub same_salt_needed : LawWithoutSameSalt (run_with [] (reports Plain 1)) salted bytes sci_a 0 1 → ⊥
same_salt_needed law =
    let it = salted_goes in
    let s = (keeping_after (opening salted) (inputs Plain)).secy in
    let same : s ≡ ready Plain = rw it.ends in
    let is : judgement_of s (frame first_tag) ≡ judged_as Plain = rw (same, judged Plain first_tag first_opens) in
    let less : 1 < (judgement_of s (frame first_tag)).number =
    law plain_has_saved (λ n. omega (arith, says true (only_name 1 ∷ []) (is_reservation 1 (omega arith)) n))
    (inputs Plain) (frame first_tag) (rx_from 1) (client 1) (rw same) (rw is) (rw is) (rw same) refl refl in
    let one : (judgement_of s (frame first_tag)).number ≡ 1 = rw is in
    omega (arith, less, one)
