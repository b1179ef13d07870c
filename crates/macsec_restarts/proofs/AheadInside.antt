-- An endpoint that can reserve ahead of receiving: the keeping endpoint inside it, and what it accepts.
use Rattle.macsec_ahead.specs.Ahead.{kept}
use Rattle.macsec_reserve.specs.Keeping.{wanted_last}
use Rattle.macsec_restarts.{
  proofs.{
    Listed.delivers_each_listed,
    Names.{[], ◌+◌, ◌<◌, ◌==◌, ◌^◌, ◌∙◌, ◌∷◌, ◌≡◌, ◌≤◌, accepted_from, Ahead, ahead_by, ahead_step, All, All-append},
    Names.{All-nil, All-weaker, Answer, ap, arith, before_stays, before_this_run, begins_again, Bool, bytes_eq-Decides},
    Names.{client_frame, Delivery, delivery_name, dropped_not_reserved, endpoint_input, endpoint_output, false},
    Names.{for_each_row, frame_fault, FrameFault, highest, highest-append, if◌then◌else◌, inl, Input, Inputs, inr},
    Names.{is_through, is_valid, IsMember, IsSome, Judgement, judgement_of, Keeping, keeping_step, KeepingInput},
    Names.{KeepingOutput, le-leb, leb-false, leb-true, lets_through, link_frame, List, lt-leb, map, MatchesDeliveries},
    Names.{max, member_of_map, nat_le, newly_accepted, newly_delivered, newly_delivered_with, newly_sent, None, not},
    Names.{not_yet, now_durable, Option, option_map, passes, raised_by, received, refl, reported_in, Reservation},
    Names.{row_name, RxPn, RxRow, salt_stays, same_octets, same_octets-refl, Some, Standing, standing, standing_by},
    Names.{standing_of, State, subst, sym, through, true, ℕ},
    RowSteps.{each_given, found_row, is_given, IsGiven},
  },
  specs.{
    AheadRuns.DeliversEachListedWith,
    AheadRuns.MatchesDeliveriesWith,
    AheadSteps.{AsksWhereDropped, IsAsBefore, PassesOnceReserved, ReachesPn, StepsInside, TakesTheStep, WantsEnough},
  },
}
use Rattle.macsec_secy.specs.Delivers.{DeliversFrom}
use Rattle.std.proofs.Common.{◌-◌, ◌/◌, min}

-- The keeping endpoint inside one that can reserve ahead of receiving: its steps, its runs, what it sends and delivers.

-- ---- a step

pub takes_by : (again : Bool) (it : Standing) (a : Ahead) (input : Input) (answer : Answer) →
    is_through again it ≡ true →
    ((ahead_by again it a input answer).0 ≡ kept answer.0) × ((ahead_by again it a input answer).1.k ≡ answer.1)
takes_by false passes a _ _ _ = (refl, refl)
takes_by _ _ a _ _ is = cc

pub stays_by : (again : Bool) (it : Standing) {a : Ahead} (input : Input) (answer : Answer) →
    is_through again it ≡ false → (ahead_by again it a input answer).1 ≡ a
stays_by false passes _ _ is = cc
stays_by _ _ _ _ _ = refl

takes : (a : Ahead) (input : KeepingInput) → lets_through a input ≡ true → TakesTheStep a input
takes a (now_durable r) _ = record { output = refl; after = refl }
takes a (endpoint_input input) is =
    let it = takes_by _ _ a input _ is in
    record { output = it.0; after = it.1 }

pub stays : (a : Ahead) (input : KeepingInput) → lets_through a input ≡ false → (ahead_step a input).1 ≡ a
stays a (now_durable r) is = cc
stays a (endpoint_input input) is = stays_by _ _ input _ is

pub steps_inside : (a : Ahead) (input : KeepingInput) → StepsInside a input
steps_inside a input =
    record { takes = takes a input; stays = stays a input; reports = λ r. refl; frames = λ frame. refl }

pub step_inside : (a : Ahead) (input : KeepingInput) (b : Bool) → lets_through a input ≡ b →
    (ahead_step a input).1.k ≡ (if b then (keeping_step a.k input).1 else a.k)
step_inside a input true is = (takes a input is).after
step_inside a input false is = rw (stays a input is)

-- what holds of the keeping endpoint, and of it after its step, holds of it after a step
pub by_inside : (P : Keeping → Type 0) (a : Ahead) (input : KeepingInput) → P a.k → P (keeping_step a.k input).1 →
    P (ahead_step a input).1.k
by_inside P a input stays goes = by_test (lets_through a input) refl
  where
    by_test : (b : Bool) → lets_through a input ≡ b → P (ahead_step a input).1.k
    by_test true lets = rw (step_inside a input true lets) goes
    by_test false lets = rw (step_inside a input false lets) stays

-- a part that no step changes
pub field_inside : {X : Type 0} (g : Keeping → X) →
    ((k : Keeping) (input : KeepingInput) → g (keeping_step k input).1 ≡ g k) → (a : Ahead) (input : KeepingInput) →
    g (ahead_step a input).1.k ≡ g a.k
field_inside g same a input = by_inside (λ k. g k ≡ g a.k) a input refl (same a.k input)

-- the same of the whole endpoint
pub by_ahead : (P : Ahead → Type 0) (a : Ahead) (input : Input) (answer : Answer) → P a →
    P (ahead_by false passes a input answer).1 → (again : Bool) (it : Standing) → P (ahead_by again it a input answer).1
by_ahead P a _ _ _ goes false passes = goes
by_ahead P a _ _ stays _ _ _ = stays

-- ---- a run

reports : (inputs : Inputs) (a : Ahead) → reported_in (through a inputs) ≡ reported_in inputs
reports [] a = refl
reports (now_durable r ∷ inputs) a = rw (reports inputs _)
reports (endpoint_input input ∷ inputs) a = by_test (lets_through a (endpoint_input input)) (reports inputs _)
  where
    by_test : (b : Bool) → reported_in (through (ahead_step a (endpoint_input input)).1 inputs) ≡ reported_in inputs →
        reported_in (if b then endpoint_input input ∷ through (ahead_step a (endpoint_input input)).1 inputs
        else through (ahead_step a (endpoint_input input)).1 inputs) ≡ reported_in inputs
    by_test true rest = rest
    by_test false rest = rest

-- ---- without the option

off_passes : (ahead : Bool) (rest : Standing) → ahead ≡ false → (if not ahead then passes else rest) ≡ passes
off_passes false _ _ = refl
off_passes true _ off = cc

standing_off : (a : Ahead) → a.ahead ≡ false → (j : Judgement) (f : Option FrameFault) (o : Option RxRow) →
    standing_by a j f o ≡ passes
standing_off a off j None (Some row) = by_step _
  where
    by_step : (b : Bool) → (if b then standing_of a row j.number else passes) ≡ passes
    by_step true = off_passes a.ahead _ off
    by_step false = refl
standing_off a _ j f o = refl

all_pass : (a : Ahead) → a.ahead ≡ false → (input : Input) → standing a input ≡ passes
all_pass a off (link_frame frame) = let j = judgement_of a.k.secy frame in
    standing_off a off j _ j.row
all_pass a _ _ = refl

pub is_as_before : (a : Ahead) (input : Input) → IsAsBefore a input
is_as_before a input off again = takes a _ (rw (again, all_pass a off input))

-- ---- what it sends and delivers

pub none_sent : (a : Ahead) (input : KeepingInput) → lets_through a input ≡ false → newly_sent a.k input ≡ []
none_sent a (endpoint_input (client_frame _)) is = cc
none_sent a _ _ = refl

-- ---- its outputs

carried : (a : Ahead) (input : KeepingInput) → newly_delivered_with a input ≡ newly_delivered a.k input →
    (o : KeepingOutput) → MatchesDeliveries a.k input o → MatchesDeliveriesWith a input (kept o)
carried a _ same (endpoint_output (received _ (Some _) _ (Some _))) it =
    record { delivery = it.delivery; one = same ∙ it.one; of_sci = it.of_sci; of_an = it.of_an; of_frame = it.of_frame }
carried a _ same o it = same ∙ it

pub matches_by : (a : Ahead) (input : KeepingInput) (given : Input) (again : Bool) (it : Standing)
    (answer : Answer) → lets_through a input ≡ is_through again it →
    MatchesDeliveries a.k input answer.0 → MatchesDeliveriesWith a input (ahead_by again it a given answer).0
matches_by a input _ false passes answer same matches = carried a input (rw same) answer.0 matches
matches_by a _ _ _ _ _ same matches = rw same

pub delivers_each_listed_with : (a : Ahead) (input : KeepingInput) → DeliversEachListedWith a input
delivers_each_listed_with a (now_durable r) = refl
delivers_each_listed_with a (endpoint_input input) =
    matches_by a (endpoint_input input) input _ _ _ refl (delivers_each_listed a.k (endpoint_input input))

-- A PN that is accepted with the option is above all that earlier runs reserved, and at most what was reported durable
-- to the run.

-- ---- a step

before_stays_with : (a : Ahead) (input : KeepingInput) → (ahead_step a input).1.k.before ≡ a.k.before
before_stays_with a input = field_inside (λ k. k.before) before_stays a input

salt_stays_with : (a : Ahead) (input : KeepingInput) → (ahead_step a input).1.k.salt ≡ a.k.salt
salt_stays_with a input = field_inside (λ k. k.salt) salt_stays a input

pub option_by : (again : Bool) (it : Standing) (a : Ahead) (input : Input) (answer : Answer) →
    ((ahead_by again it a input answer).1.ahead ≡ a.ahead) × ((ahead_by again it a input answer).1.taken ≡ a.taken)
option_by again it a input answer =
    by_ahead (λ x. (x.ahead ≡ a.ahead) × (x.taken ≡ a.taken)) a input answer (refl, refl) (refl, refl) again it

option_stays : (a : Ahead) (input : KeepingInput) → (ahead_step a input).1.ahead ≡ a.ahead
option_stays a (now_durable r) = refl
option_stays a (endpoint_input input) = (option_by _ _ a input _).0

-- ---- what was reported durable

-- the entries of the SAs say no more than was reported
entries_reserve : (name_of : RxRow → List ℕ) (taken : List Reservation) (rows : List RxRow) (name : List ℕ) →
    highest (map (λ row. record { name = name_of row; last = highest taken (name_of row) }) rows) name ≤ highest taken
    name
entries_reserve _ _ [] _ = omega arith
entries_reserve name_of taken (row ∷ rows) name = by_name _ refl (entries_reserve name_of taken rows name)
  where
    others : ℕ
    others = highest (map (λ r. record { name = name_of r; last = highest taken (name_of r) }) rows) name

    by_name : (b : Bool) → same_octets (name_of row) name ≡ b → others ≤ highest taken name →
        (if b then max (highest taken (name_of row)) others else others) ≤ highest taken name
    by_name true is rest =
        let same : highest taken (name_of row) ≡ highest taken name = rw ((bytes_eq-Decides _ name).0 is) in
        omega (arith, same, rest)
    by_name false _ rest = rest

-- a report raises what is reserved under its name to its number at most
raised_most : (r : Reservation) (entries : List Reservation) (name : List ℕ) → highest (map (raised_by r) entries)
    name ≤ max (highest entries name) (highest (r ∷ []) name)
raised_most r [] _ = omega arith
raised_most r (g ∷ gs) name = by_own _ refl (raised_most r gs name)
  where
    old : ℕ
    old = highest gs name

    new : ℕ
    new = highest (map (raised_by r) gs) name

    own_name : (b : Bool) → same_octets g.name name ≡ b → g.name ≡ r.name → new ≤ max old (highest (r ∷ []) name) →
        (if b then max (max g.last r.last) new else new) ≤ max (if b then max g.last old else old)
        (highest (r ∷ []) name)
    own_name true is names rest =
        let same : highest (r ∷ []) name ≡ max r.last 0 = rw (ap (λ n. same_octets n name) (sym names) ∙ is) in
        omega (arith, same, rest)
    own_name false _ _ rest = rest

    other_name : (b : Bool) → new ≤ max old (highest (r ∷ []) name) → (if b then max g.last new else new) ≤ max
        (if b then max g.last old else old) (highest (r ∷ []) name)
    other_name true rest = omega (arith, rest)
    other_name false rest = rest

    by_own : (own : Bool) → same_octets g.name r.name ≡ own → new ≤ max old (highest (r ∷ []) name) →
        highest ((if own then record g { last = max g.last r.last } else g) ∷ map (raised_by r) gs) name ≤ max
        (highest (g ∷ gs) name) (highest (r ∷ []) name)
    by_own true is rest = own_name _ refl ((bytes_eq-Decides g.name r.name).0 is) rest
    by_own false _ rest = other_name _ rest

pub taken_step : (a : Ahead) (input : KeepingInput) (inputs : Inputs) (name : List ℕ) →
    max (highest (ahead_step a input).1.taken name) (highest (reported_in inputs) name) ≤ max (highest a.taken name)
    (highest (reported_in (input ∷ inputs)) name)
taken_step a (now_durable r) inputs name = omega (
  arith,
  raised_most r (for_each_row a) name,
  entries_reserve (row_name a.k.salt a.k.secy) a.taken a.k.secy.rx.rows name,
  highest-append (r ∷ []) (reported_in inputs) name,
)
taken_step a (endpoint_input input) _ name =
    let same : highest (ahead_step a (endpoint_input input)).1.taken name ≡ highest a.taken name =
    rw ((option_by (begins_again a input) (standing a input) a input (keeping_step a.k (endpoint_input input))).1) in
    omega (arith, same)

-- ---- what is accepted

pub record IsWithin (before : List Reservation) (salt : List ℕ) (most : List ℕ → ℕ) (d : Delivery) : Type 0 where
  pub above : highest before (delivery_name salt d) < d.number
  pub within : d.number ≤ most (delivery_name salt d)

-- by the tests, in their order
pub passes_means : (ahead old new : Bool) (x y : RxPn) → ahead ≡ true →
    is_through false (if not ahead then passes else if old then before_this_run x else if new then passes else not_yet
    y) ≡ true → (old ≡ false) × (new ≡ true)
passes_means true false true x y _ _ = (refl, refl)
passes_means _ _ _ x y on is = cc

pub reserved_now : (a : Ahead) → a.ahead ≡ true → (j : Judgement) (row : RxRow) → (j.step == 13) ≡ true →
    is_through false (standing_by a j None (Some row)) ≡ true →
    (highest a.k.before (row_name a.k.salt a.k.secy row) < j.number) ×
    (j.number ≤ highest a.taken (row_name a.k.salt a.k.secy row))
reserved_now a on j row valid is =
    let at : RxPn = record { sci = row.sci; an = row.an; number = j.number } in
    let name = row_name a.k.salt a.k.secy row in
    let old = nat_le j.number (highest a.k.before name) in
    let new = nat_le j.number (highest a.taken name) in
    let it : Standing = if not a.ahead then passes else if old then before_this_run at else if new then passes
    else not_yet at in
    let tests = passes_means a.ahead old new at at on (ap (λ b. is_through false (if b then it else passes))
    (sym valid) ∙ is) in
    (leb-false j.number (highest a.k.before name) tests.0, leb-true j.number (highest a.taken name) tests.1)

within_now : (a : Ahead) → a.ahead ≡ true → {input : KeepingInput} {d : Delivery} → is_valid a.k.secy input ≡ true →
    lets_through a input ≡ true → IsGiven a.k.secy input d → IsWithin a.k.before a.k.salt (highest a.taken) d
within_now a on valid lets (is_given frame row _ fits of_row delivers) =
    let both = reserved_now a on (judgement_of a.k.secy frame) row valid (rw (fits, of_row) at lets) in
    record { above = both.0; within = both.1 }

pub within_input : (a : Ahead) → a.ahead ≡ true → (input : KeepingInput) →
    All (IsWithin a.k.before a.k.salt (highest a.taken)) (newly_accepted a input)
within_input a on input = by_tests _ refl _ refl
  where
    by_tests : (valid : Bool) → is_valid a.k.secy input ≡ valid → (lets : Bool) → lets_through a input ≡ lets →
        All (IsWithin a.k.before a.k.salt (highest a.taken))
        (if valid then (if lets then newly_delivered a.k input else []) else [])
    by_tests true is true is' = λ i d within'. within_now a on is is' (each_given a.k input i d within')
    by_tests _ _ _ _ = All-nil _

abbrev pub most_of : Ahead → Inputs → List ℕ → ℕ
most_of a inputs name = max (highest a.taken name) (highest (reported_in inputs) name)

within : (inputs : Inputs) (a : Ahead) → a.ahead ≡ true →
    All (IsWithin a.k.before a.k.salt (most_of a inputs)) (accepted_from a inputs)
within [] a _ = All-nil (IsWithin a.k.before a.k.salt (most_of a []))
within (input ∷ inputs) a on =
    let after = (ahead_step a input).1 in
    let P = IsWithin a.k.before a.k.salt (most_of a (input ∷ inputs)) in
    All-append P (newly_accepted a input) (accepted_from after inputs)
    (All-weaker (IsWithin a.k.before a.k.salt (highest a.taken)) P
    (λ d it. record { above = it.above; within = omega (arith, it.within) }) (newly_accepted a input)
    (within_input a on input)) (All-weaker (IsWithin after.k.before after.k.salt (most_of after inputs)) P (λ d it.
    let here : IsWithin a.k.before a.k.salt (most_of after inputs) d =
    subst (λ salt. IsWithin a.k.before salt (most_of after inputs) d) (salt_stays_with a input)
    (rw (before_stays_with a input) at it) in
    record {
      above = here.above;
      within = omega (
        arith,
        here.within,
        taken_step a input inputs (delivery_name a.k.salt d),
      );
    }) (accepted_from after inputs) (within inputs after (option_stays a input ∙ on)))

-- A frame that was dropped because its PN was not reserved asks for a record, and passes once it is durable.

-- ---- a report raises an entry of its name to its number

more_of : (e : Reservation) (es : List Reservation) (name : List ℕ) → highest es name ≤ highest (e ∷ es) name
more_of e es name = by_name (same_octets e.name name)
  where
    by_name : (b : Bool) → highest es name ≤ (if b then max e.last (highest es name) else highest es name)
    by_name true = omega arith
    by_name false = omega arith

first_of : (e : Reservation) (es : List Reservation) → e.last ≤ highest (e ∷ es) e.name
first_of e es = by_name (same_octets e.name e.name) (same_octets-refl e.name)
  where
    by_name : (b : Bool) → b ≡ true → e.last ≤ (if b then max e.last (highest es e.name) else highest es e.name)
    by_name true is = omega arith
    by_name false is = cc

raised_covers : (r : Reservation) (entries : List Reservation) (x : Reservation) → IsMember entries x → x.name ≡ r.name
    → r.last ≤ highest (map (raised_by r) entries) r.name
raised_covers r [] x there _ = absurd there
raised_covers r (e ∷ es) x (inr later) same =
    omega (arith, raised_covers r es x later same, more_of (raised_by r e) (map (raised_by r) es) r.name)
raised_covers r (e ∷ es) x (inl here) same = by_own (same_octets e.name r.name) (rw (own, same_octets-refl r.name))
  where
    own : e.name ≡ r.name
    own = rw (here, same)

    by_own : (b : Bool) → b ≡ true → r.last ≤ highest ((if b then record e { last = max e.last r.last } else e) ∷ map
        (raised_by r) es) r.name
    by_own false is = cc
    by_own true is =
        let up : Reservation = record e { last = max e.last r.last } in
        let first : max e.last r.last ≤ highest (up ∷ map (raised_by r) es) e.name = first_of up (map (raised_by r) es)
        in
        let there : max e.last r.last ≤ highest (up ∷ map (raised_by r) es) r.name = subst
        (λ n. max e.last r.last ≤ highest (up ∷ map (raised_by r) es) n) own first in
        omega (arith, there)

-- ---- the frame passes

passes_by : (ahead old new : Bool) (x y : RxPn) → old ≡ false → new ≡ true →
    (if not ahead then passes else if old then before_this_run x else if new then passes else not_yet y) ≡ passes
passes_by true true _ x y is is' = cc
passes_by true false false x y is is' = cc
passes_by _ _ _ x y _ _ = refl

by_parts : (a : Ahead) (j : Judgement) (f : Option FrameFault) (row : RxRow) → highest a.k.before
    (row_name a.k.salt a.k.secy row) < j.number →
    j.number ≤ highest a.taken (row_name a.k.salt a.k.secy row) → standing_by a j f (Some row) ≡ passes
by_parts a j (Some f) _ _ _ = refl
by_parts a j None row above within = by_step (j.step == 13)
  where
    name : List ℕ
    name = row_name a.k.salt a.k.secy row

    at : RxPn
    at = record { sci = row.sci; an = row.an; number = j.number }

    it : Standing
    it = if not a.ahead then passes else if nat_le j.number (highest a.k.before name) then before_this_run at else
        if nat_le j.number (highest a.taken name) then passes else not_yet at

    by_step : (b : Bool) → (if b then it else passes) ≡ passes
    by_step true = passes_by a.ahead _ _ at at (lt-leb j.number (highest a.k.before name) above)
        (le-leb j.number (highest a.taken name) within)
    by_step false = refl

pub passes_once_reserved : ((s : State) (frame : List ℕ) (row : RxRow) (delivered : List ℕ) → DeliversFrom s frame row
    delivered) →
    (a : Ahead) (frame : List ℕ) (row : RxRow) (delivered : List ℕ) (r : Reservation) → PassesOnceReserved a frame row
    delivered r
passes_once_reserved delivers a frame row delivered r sound of_row gives name above within =
    let s = a.k.secy in
    let j = judgement_of s frame in
    let after = (ahead_step a (now_durable r)).1 in
    let own = row_name a.k.salt s row in
    let there : IsMember s.rx.rows row = found_row row.sci row.an _ row
    (delivers s frame row delivered sound of_row gives).at_place in
    let own_entry : RxRow → Reservation = λ x. record {
      name = row_name a.k.salt s x;
      last = highest a.taken (row_name a.k.salt s x);
    } in
    let entry : IsMember (for_each_row a) (own_entry row) = member_of_map _ _ row there in
    let covers : r.last ≤ highest after.taken r.name = raised_covers r _ _ entry (sym name) in
    let reaches : r.last ≤ highest after.taken own = subst (λ n. r.last ≤ highest after.taken n) name covers in
    ap (standing_by after j (frame_fault frame)) of_row ∙ by_parts after j _ row above (omega (arith, within, reaches))

-- ---- the record to write next

pub wants_enough : (a : Ahead) (amount next : ℕ) (row : RxRow) (r : Reservation) → WantsEnough a amount next row r
wants_enough a amount next row r wanted = by_last _ refl wanted
  where
    own : List ℕ
    own = row_name a.k.salt a.k.secy row

    by_tests : (large enough : Bool) → nat_le (2 ^ 64) next ≡ large → (last : ℕ) →
        (if large then None else if enough then None else Some (min (next + amount) (2 ^ 64 - 1))) ≡ Some last → next ≤
        last
    by_tests false false is last some =
        let same : min (next + amount) (2 ^ 64 - 1) ≡ last = cc in
        omega (arith, same, leb-false (2 ^ 64) next is)
    by_tests _ _ is _ some = cc

    by_last : (o : Option ℕ) → wanted_last (highest a.taken own) next amount ≡ o → option_map
        (λ last. record { name = own; last = last }) o ≡ Some r → ReachesPn a next row r
    by_last None is some = cc
    by_last (Some last) is some =
        let one : record { name = own; last = last } ≡ r = cc in
        let reaches = by_tests (nat_le (2 ^ 64) next) (nat_le (min (next + amount / 2) (2 ^ 64 - 1))
        (highest a.taken own)) refl last is in
        rw (← one) (record { name = refl; last = reaches })

-- what the tests say of a PN that is not reserved yet
record IsNotReserved (a : Ahead) (j : Judgement) (row : RxRow) (at : RxPn) : Type 0 where
  is : record { sci = row.sci; an = row.an; number = j.number } ≡ at
  above : highest a.taken (row_name a.k.salt a.k.secy row) < j.number

not_yet_means : (ahead old new : Bool) (x y at : RxPn) → (if not ahead then passes else if old then before_this_run x
    else if new then passes else not_yet y) ≡ not_yet at → (new ≡ false) × (y ≡ at)
not_yet_means true false false x y _ is = (refl, cc)
not_yet_means _ _ _ x y _ is = cc

is_not_reserved : (a : Ahead) (j : Judgement) (f : Option FrameFault) (row : RxRow) (at : RxPn) → standing_by a j f
    (Some row) ≡ not_yet at → IsNotReserved a j row at
is_not_reserved a j (Some f) _ _ is = cc
is_not_reserved a j None row at is = by_step (j.step == 13) is
  where
    name : List ℕ
    name = row_name a.k.salt a.k.secy row

    own : RxPn
    own = record { sci = row.sci; an = row.an; number = j.number }

    it : Standing
    it = if not a.ahead then passes else if nat_le j.number (highest a.k.before name) then before_this_run own else
        if nat_le j.number (highest a.taken name) then passes else not_yet own

    by_step : (b : Bool) → (if b then it else passes) ≡ not_yet at → IsNotReserved a j row at
    by_step false is' = cc
    by_step true is' =
        let means = not_yet_means a.ahead _ _ own own at is' in
        record { is = means.1; above = leb-false j.number (highest a.taken name) means.0 }

dropped_by : (it : Standing) (a : Ahead) (input : Input) (answer : Answer) (at : RxPn) →
    (ahead_by false it a input answer).0 ≡ dropped_not_reserved at → it ≡ not_yet at
dropped_by (not_yet x) a _ _ _ is = ap not_yet cc
dropped_by _ a _ _ _ is = cc

is_wanted : (reserved n amount : ℕ) → n < 2 ^ 64 → reserved < n → IsSome (wanted_last reserved n amount)
is_wanted reserved n amount fits above =
    by_tests (nat_le (2 ^ 64) n) (nat_le (min (n + amount / 2) (2 ^ 64 - 1)) reserved) refl refl
  where
    by_tests : (large enough : Bool) → nat_le (2 ^ 64) n ≡ large → nat_le (min (n + amount / 2) (2 ^ 64 - 1)) reserved ≡
        enough → IsSome (if large then None else if enough then None else Some (min (n + amount) (2 ^ 64 - 1)))
    by_tests true _ is is' = absurd (omega (arith, leb-true (2 ^ 64) n is, fits))
    by_tests false true is is' =
        absurd (omega (arith, leb-true (min (n + amount / 2) (2 ^ 64 - 1)) reserved is', fits, above))
    by_tests false false _ _ = refl

some_of_map : {X Y : Type 0} (f : X → Y) (o : Option X) → IsSome o → IsSome (option_map f o)
some_of_map f None is = cc
some_of_map f (Some x) _ = refl

pub asks_where_dropped : (a : Ahead) (frame : List ℕ) (amount : ℕ) (row : RxRow) (at : RxPn) → AsksWhereDropped a frame
    amount row at
asks_where_dropped a frame amount row at of_row fits dropped =
    let j = judgement_of a.k.secy frame in
    let it = dropped_by _ a _ _ at dropped in
    let is = is_not_reserved a j _ row at (ap (standing_by a j (frame_fault frame)) (sym of_row) ∙ it) in
    let number : j.number ≡ at.number = ap (λ x. x.number) is.is in
    let name = row_name a.k.salt a.k.secy row in
    record {
      of_sci = ap (λ x. x.sci) (sym is.is);
      of_an = ap (λ x. x.an) (sym is.is);
      of_number = sym number;
      wanted = some_of_map (λ last. record { name = name; last = last }) _
          (is_wanted _ _ amount fits (omega (arith, is.above, number)));
    }
