-- What an endpoint may use was reported to it.
use Rattle.{
  std.proofs.{
    Common.{◌≡◌, ℕ, ◌≤◌, Bool, true, false, if◌then◌else◌, ◌&&◌, List, [], ◌∷◌, ◌++◌, map, drop, length, max, Option},
    Common.{None, Some, refl},
    Common.{ap, subst, sym, ◌∙◌, arith, append-nil, All},
    lemmas.{List.drop_all, List.Elements.{All-head, All-tail}, Slice.Eq.bytes_eq-Decides},
  },
  macsec_gcm.specs.Octets.same_octets,
  macsec_suite.specs.KeyRows.InstalledKey,
  macsec_rx.specs.declared.RxRow.RxRow,
  macsec_secy.specs.Step.{Input, client_frame, link_frame, operator_command, uncontrolled_frame},
  macsec_reserve.{
    proofs.{HighestOf.highest-append, Steps.granted_reported},
    specs.{
      Entries.raised_by,
      Forgetting.{can_forget, forgetting, forgetting_after, forgetting_step, input_taken, is_done, retired_by},
      Forgetting.{then_forget},
      Histories.reported_in,
      Journal.{highest, sending_name},
      Keeping.{Keeping, KeepingInput, KeepingOutput, endpoint_input, for_each_key, keeping_step, nothing_yet},
      Keeping.{now_durable},
      Replay.row_name,
      declared.reservation.Reservation.Reservation,
    },
  },
  macsec_ahead.specs.Ahead.{Ahead, Standing, ahead_by, before_this_run, begins_again, entry_for, for_each_row, not_yet},
  macsec_ahead.specs.Ahead.{passes, standing},
  macsec_journal.specs.World.{library_after, library_step},
}

-- ---- an endpoint that forgets keys

nothing_says : (salt : List ℕ) (keys : List InstalledKey) (name : List ℕ) → highest (map (nothing_yet salt) keys) name ≤
    0
nothing_says salt [] name = omega arith
nothing_says salt (k ∷ ks) name = by_name (same_octets (sending_name salt k.bytes) name) (nothing_says salt ks name)
  where
    by_name : (b : Bool) → highest (map (nothing_yet salt) ks) name ≤ 0 →
        (if b then max 0 (highest (map (nothing_yet salt) ks) name) else highest (map (nothing_yet salt) ks) name) ≤ 0
    by_name true none = omega (arith, none)
    by_name false none = none

forgets : (o : Option ℕ) (answer : KeepingOutput × Keeping) (name : List ℕ) → highest (then_forget o answer).1.granted
    name ≤ highest answer.1.granted name
forgets None answer name = omega arith
forgets (Some n) answer name = by_test (is_done answer.0 && can_forget answer.1 n)
  where
    k : Keeping
    k = answer.1

    by_test : (b : Bool) → highest (if b then forgetting k n else k).granted name ≤ highest k.granted name
    by_test true =
        let more : List Reservation = map (nothing_yet k.salt) (drop (length k.granted) k.secy.keys) in
        let all : highest (for_each_key k.salt k.granted k.secy.keys) name ≡ max (highest k.granted name)
        (highest more name) = highest-append k.granted more name in
        omega (arith, all, nothing_says k.salt (drop (length k.granted) k.secy.keys) name)
    by_test false = omega arith

-- an input reports nothing
kept_within : (k : Keeping) (input : Input) (name : List ℕ) → highest (keeping_step k (endpoint_input input)).1.granted
    name ≤ highest k.granted name
kept_within k input name =
    let within : highest (keeping_step k (endpoint_input input)).1.granted name ≤ max (highest k.granted name) 0 =
    granted_reported (endpoint_input input ∷ []) k name in
    omega (arith, within)

forgetting_within : (k : Keeping) (input : Input) (name : List ℕ) → highest
    (forgetting_step k (endpoint_input input)).1.granted name ≤ highest k.granted name
forgetting_within k input name =
    omega (
      arith,
      forgets (retired_by (endpoint_input input)) (keeping_step k (endpoint_input (input_taken k input)))
          name,
      kept_within k (input_taken k input) name,
    )

-- a report
noted_within : (k : Keeping) (r : Reservation) (name : List ℕ) → highest (keeping_step k (now_durable r)).1.granted name
    ≤ max (highest k.granted name) (highest (r ∷ []) name)
noted_within k r name = granted_reported (now_durable r ∷ []) k name

pub forgetting_reported : (inputs : List KeepingInput) (k : Keeping) (name : List ℕ) →
    highest (forgetting_after k inputs).granted name ≤ max (highest k.granted name) (highest (reported_in inputs) name)
forgetting_reported [] k name = omega arith
forgetting_reported (now_durable r ∷ inputs) k name =
    omega (
      arith,
      forgetting_reported inputs (keeping_step k (now_durable r)).1 name,
      noted_within k r name,
      highest-append (r ∷ []) (reported_in inputs) name,
    )
forgetting_reported (endpoint_input input ∷ inputs) k name =
    omega (
      arith,
      forgetting_reported inputs (forgetting_step k (endpoint_input input)).1 name,
      forgetting_within k
          input name,
    )

-- ---- the library's endpoint

-- the entries of receive SAs say no more than what was reported before
rows_within : (k : Keeping) (taken : List Reservation) (rows : List RxRow) (name : List ℕ) → highest
    (map (entry_for k taken) rows) name ≤ highest taken name
rows_within k taken [] name = omega arith
rows_within k taken (row ∷ rows) name = by_name (same_octets own name) refl (rows_within k taken rows name)
  where
    own : List ℕ
    own = row_name k.salt k.secy row

    rest : ℕ
    rest = highest (map (entry_for k taken) rows) name

    by_name : (b : Bool) → same_octets own name ≡ b → rest ≤ highest taken name →
        (if b then max (highest taken own) rest else rest) ≤ highest taken name
    by_name true is less = let same : highest taken own ≡ highest taken name = ap (λ n. highest taken n)
        ((bytes_eq-Decides own name).0 is) in omega (arith, same, less)
    by_name false is less = less

-- a report raises entries to its number at most
raised_within : (k : Keeping) (r : Reservation) (entries : List Reservation) (name : List ℕ) → highest
    (map (raised_by r) entries) name ≤ max (highest entries name) (highest (r ∷ []) name)
raised_within k r entries name =
    let none : for_each_key k.salt entries [] ≡ entries =
    ap (λ keys. entries ++ map (nothing_yet k.salt) keys) (drop_all {X = InstalledKey} (length entries) []
    (omega arith)) ∙ append-nil entries in
    subst (λ es. highest (map (raised_by r) es) name ≤ max (highest entries name) (highest (r ∷ []) name)) none
    (noted_within (record k { secy = record k.secy { keys = [] }; granted = entries }) r name)

-- what the endpoint may send, and what it may accept
pub record IsWithin (a : Ahead) (name : List ℕ) (sent accepted : ℕ) : Type 0 where
  pub sends : highest a.k.granted name ≤ sent
  pub accepts : highest a.taken name ≤ accepted

by_standing : (again : Bool) (it : Standing) (a : Ahead) (input : Input) (answer : KeepingOutput × Keeping)
    (name : List ℕ) → highest answer.1.granted name ≤ highest a.k.granted name →
    IsWithin (ahead_by again it a input answer).1 name (highest a.k.granted name) (highest a.taken name)
by_standing true it a input answer name less = record { sends = omega arith; accepts = omega arith }
by_standing false passes a input answer name less = record { sends = less; accepts = omega arith }
by_standing false (not_yet at) a input answer name less = record { sends = omega arith; accepts = omega arith }
by_standing false (before_this_run at) a input answer name less = record { sends = omega arith; accepts = omega arith }

frame_within : (a : Ahead) (input : Input) (name : List ℕ) →
    IsWithin (ahead_by (begins_again a input) (standing a input) a input (keeping_step a.k (endpoint_input input))).1
    name (highest a.k.granted name) (highest a.taken name)
frame_within a input name = by_standing (begins_again a input) (standing a input) a input
    (keeping_step a.k (endpoint_input input)) name (kept_within a.k input name)

library_within : (a : Ahead) (input : Input) (name : List ℕ) → IsWithin (library_step a (endpoint_input input)) name
    (highest a.k.granted name) (highest a.taken name)
library_within a (operator_command c) name =
    by_standing (begins_again a (operator_command c)) passes a (operator_command c)
    (forgetting_step a.k (endpoint_input (operator_command c))) name
    (forgetting_within a.k (operator_command c) name)
library_within a (client_frame frame) name = frame_within a (client_frame frame) name
library_within a (uncontrolled_frame frame) name = frame_within a (uncontrolled_frame frame) name
library_within a (link_frame frame) name = frame_within a (link_frame frame) name

pub library_reported : (inputs : List KeepingInput) (a : Ahead) (name : List ℕ) →
    IsWithin (library_after a inputs) name (max (highest a.k.granted name) (highest (reported_in inputs) name))
    (max (highest a.taken name) (highest (reported_in inputs) name))
library_reported [] a name = record { sends = omega arith; accepts = omega arith }
library_reported (now_durable r ∷ inputs) a name =
    let later = library_reported inputs (library_step a (now_durable r)) name in
    let all = highest-append (r ∷ []) (reported_in inputs) name in
    record {
      sends = omega (arith, later.sends, noted_within a.k r name, all);
      accepts = omega (
        arith,
        later.accepts,
        raised_within a.k r (for_each_row a) name,
        rows_within a.k a.taken
            a.k.secy.rx.rows name,
        all,
      );
    }
library_reported (endpoint_input input ∷ inputs) a name =
    let later = library_reported inputs (library_step a (endpoint_input input)) name in
    let now = library_within a input name in
    record { sends = omega (arith, later.sends, now.sends); accepts = omega (arith, later.accepts, now.accepts) }

-- ---- one input more

pub library-append : (inputs : List KeepingInput) (input : KeepingInput) (a : Ahead) →
    library_after a (inputs ++ input ∷ []) ≡ library_step (library_after a inputs) input
library-append [] input a = refl
library-append (first ∷ inputs) input a = library-append inputs input (library_step a first)

-- what may be accepted then is what could be accepted before, and what the input reports
pub accepts_more : (inputs : List KeepingInput) (input : KeepingInput) (a : Ahead) (name : List ℕ) →
    highest (library_after a (inputs ++ input ∷ [])).taken name ≤ max (highest (library_after a inputs).taken name)
    (highest (reported_in (input ∷ [])) name)
accepts_more inputs input a name =
    subst (λ (after : Ahead). highest after.taken name ≤ max (highest (library_after a inputs).taken name)
    (highest (reported_in (input ∷ [])) name)) (sym (library-append inputs input a))
    (library_reported (input ∷ []) (library_after a inputs) name).accepts

-- ---- a receive SA that was deleted

raised_has_not : (r e : Reservation) (name : List ℕ) → same_octets e.name name ≡ false →
    same_octets (raised_by r e).name name ≡ false
raised_has_not r e name other = by_own (same_octets e.name r.name)
  where
    by_own : (b : Bool) → same_octets (if b then record e { last = max e.last r.last } else e).name name ≡ false
    by_own true = other
    by_own false = other

one_more_other : (r : Reservation) (rest : List Reservation) (name : List ℕ) → same_octets r.name name ≡ false → highest
    rest name ≡ 0 → highest (r ∷ rest) name ≡ 0
one_more_other r rest name other none = ap (λ (b : Bool). if b then max r.last (highest rest name) else highest rest
    name) other ∙ none

pub none_left : (k : Keeping) (taken : List Reservation) (r : Reservation) (rows : List RxRow) (name : List ℕ) → All
    (λ (row : RxRow). same_octets (row_name k.salt k.secy row) name ≡ false) rows →
    highest (map (raised_by r) (map (entry_for k taken) rows)) name ≡ 0
none_left k taken r [] name others = refl
none_left k taken r (row ∷ rows) name others =
    one_more_other (raised_by r (entry_for k taken row)) (map (raised_by r) (map (entry_for k taken) rows)) name
    (raised_has_not r (entry_for k taken row) name
    (All-head (λ (x : RxRow). same_octets (row_name k.salt k.secy x) name ≡ false) row rows others))
    (none_left k taken r rows name
    (All-tail (λ (x : RxRow). same_octets (row_name k.salt k.secy x) name ≡ false) row rows others))
