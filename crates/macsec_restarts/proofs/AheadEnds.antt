-- Where deleted SAs ended, of an endpoint that remembers it.
use Rattle.macsec_ahead.specs.{
  declared.ends.EndedKey.EndedKey,
  Ends.{has_end, has_key_end, is_of, is_under, key_raised, last_end, last_under, max_end_count, sa_raised, with_end},
  Ends.with_key_end,
}
use Rattle.macsec_reserve.specs.Forgetting.{is_done_output}
use Rattle.macsec_restarts.{
  proofs.{
    AheadInside.{by_ahead, by_inside},
    Names.{[], ◌&&◌, ◌++◌, ◌<◌, ◌==◌, ◌||◌, ◌∙◌, ◌∷◌, ◌≡◌, ◌≤◌, ◌⊎◌, after_retiring, Ahead, ahead_by, ahead_step},
    Names.{and_from, Answer, ap, arith, begins_again, Bool, by_tests, Command, cond, done, end_of, end_of_row},
    Names.{ended_after, ended_by, ended_of, EndedSa, endpoint_input, Ends, eq-eqb, eqb-true, false, filter, gives_up},
    Names.{if◌then◌else◌, inl, Input, inr, is_done, is_gone, is_through, IsAbove, IsGivenUp, IsMember, Keeping},
    Names.{keeping_step, KeepingInput, KeepsAssociation, leb-false, left_member, length, lets_through, List, ltb-false},
    Names.{map, max, member_of_map, nat_le, nat_lt, None, not, now_durable, operator_command, Option, Output, refl},
    Names.{Retire, rx_row, RxRow, RxSa, same_octets-refl, Sci, Some, Standing, standing, State, stays_given_up, step},
    Names.{subst, sym, true, with_ends, without_key, ℕ},
    RowSteps.{found_at, found_row, IsCreatedBy, row_step, RowStep, same_place, still},
    Sends.by_keeping,
  },
  specs.AheadSteps.RemembersEnd,
}
use Rattle.macsec_secy.proofs.RxRowsStay.{rx_rows_stay}
use Rattle.std.{proofs.lemmas.Bool.and_cases, specs.List.list_any}

-- The table of ends never says less, except of a key that is removed from it.

-- ---- the highest end among the entries that pass a test

module _ {E : Type 0} (last : E → ℕ) (passes : E → Bool) where
  abbrev highest_end : List E → ℕ
  highest_end [] = 0
  highest_end (e ∷ es) = if passes e then max (last e) (highest_end es) else highest_end es

  of_both : (es fs : List E) → highest_end (es ++ fs) ≡ max (highest_end es) (highest_end fs)
  of_both [] _ = omega arith
  of_both (e ∷ es) fs = by_test (passes e) (of_both es fs)
    where
      by_test : (b : Bool) → highest_end (es ++ fs) ≡ max (highest_end es) (highest_end fs) →
          (if b then max (last e) (highest_end (es ++ fs)) else highest_end (es ++ fs)) ≡
          max (if b then max (last e) (highest_end es) else highest_end es) (highest_end fs)
      by_test true rest = omega (arith, rest)
      by_test false rest = rest

  covers_one : (e : E) → passes e ≡ true → last e ≤ highest_end (e ∷ [])
  covers_one e is = rw is (omega arith)

  -- entries that are raised
  module _ (up : E → E) (same : (e : E) → passes (up e) ≡ passes e) where
    of_raised : ((e : E) → last e ≤ last (up e)) → (es : List E) → highest_end es ≤ highest_end (map up es)
    of_raised raises [] = omega arith
    of_raised raises (e ∷ es) = rw (same e) (by_test (passes e) (of_raised raises es))
      where
        by_test : (b : Bool) → highest_end es ≤ highest_end (map up es) →
            (if b then max (last e) (highest_end es) else highest_end es) ≤
            (if b then max (last (up e)) (highest_end (map up es)) else highest_end (map up es))
        by_test true rest = omega (arith, rest, raises e)
        by_test false rest = rest

    covers_raised : (n : ℕ) → ((e : E) → passes e ≡ true → n ≤ last (up e)) → (es : List E) →
        list_any passes es ≡ true → n ≤ highest_end (map up es)
    covers_raised n raises [] there = cc
    covers_raised n raises (e ∷ es) there = rw (same e) (by_test (passes e) refl there (covers_raised n raises es))
      where
        by_test : (b : Bool) → passes e ≡ b → (b || list_any passes es) ≡ true →
            (list_any passes es ≡ true → n ≤ highest_end (map up es)) →
            n ≤ (if b then max (last (up e)) (highest_end (map up es)) else highest_end (map up es))
        by_test true is there' rest = omega (arith, raises e is)
        by_test false _ there' rest = rest there'

  -- entries that are left out do not pass
  of_kept : (keep : E → Bool) → ((e : E) → keep e ≡ false → passes e ≡ false) → (es : List E) →
      highest_end (filter keep es) ≡ highest_end es
  of_kept _ _ [] = refl
  of_kept keep others (e ∷ es) = by_test (keep e) refl (of_kept keep others es)
    where
      by_test : (b : Bool) → keep e ≡ b → highest_end (filter keep es) ≡ highest_end es →
          highest_end (cond b (e ∷ filter keep es) (filter keep es)) ≡ highest_end (e ∷ es)
      by_test true is rest = rw rest
      by_test false is rest = rw (others e is, rest)

abbrev sa_last : EndedSa → ℕ
sa_last e = e.last

abbrev key_last : EndedKey → ℕ
key_last e = e.last

last_end-is : (key : ℕ) (sci : Sci) (an : ℕ) (es : List EndedSa) → last_end es key sci an ≡ highest_end sa_last
    (is_of key sci an) es
last_end-is _ _ _ [] = refl
last_end-is key sci an (e ∷ es) = rw (last_end-is key sci an es)

last_under-is : (key : ℕ) (es : List EndedKey) → last_under es key ≡ highest_end key_last (is_under key) es
last_under-is _ [] = refl
last_under-is key (e ∷ es) = rw (last_under-is key es)

is_of_itself : (e : EndedSa) → is_of e.key e.sci e.an e ≡ true
is_of_itself e = and_from _ _ (and_from _ _ (eq-eqb e.key e.key refl) (same_octets-refl e.sci.0))
    (eq-eqb e.an e.an refl)

-- ---- one more end

-- the table says no less of any SA, and of this SA at least its end
record IsMore (by : EndedSa) (t after : Ends) : Type 0 where
  more : (key : ℕ) (sci : Sci) (an : ℕ) → end_of t key sci an ≤ end_of after key sci an
  covers : by.last ≤ end_of after by.key by.sci by.an

module _ (by : EndedSa) where
  key_stays : (key : ℕ) (e : EndedKey) → is_under key (key_raised by e) ≡ is_under key e
  key_stays key e = by_test (is_under by.key e)
    where
      by_test : (b : Bool) → is_under key (if b then record e { last = max e.last by.last } else e) ≡ is_under key e
      by_test true = refl
      by_test false = refl

  key_rises : (e : EndedKey) → e.last ≤ key_last (key_raised by e)
  key_rises e = by_test (is_under by.key e)
    where
      by_test : (b : Bool) → e.last ≤ key_last (if b then record e { last = max e.last by.last } else e)
      by_test true = omega arith
      by_test false = omega arith

  key_covers : (e : EndedKey) → is_under by.key e ≡ true → by.last ≤ key_last (key_raised by e)
  key_covers e is = rw is (omega arith)

  sa_stays : (key : ℕ) (sci : Sci) (an : ℕ) (e : EndedSa) → is_of key sci an (sa_raised by e) ≡ is_of key sci an e
  sa_stays key sci an e = by_test (is_of by.key by.sci by.an e)
    where
      by_test : (b : Bool) → is_of key sci an (if b then record e { last = max e.last by.last } else e) ≡ is_of key sci
          an e
      by_test true = refl
      by_test false = refl

  sa_rises : (e : EndedSa) → e.last ≤ sa_last (sa_raised by e)
  sa_rises e = by_test (is_of by.key by.sci by.an e)
    where
      by_test : (b : Bool) → e.last ≤ sa_last (if b then record e { last = max e.last by.last } else e)
      by_test true = omega arith
      by_test false = omega arith

  sa_covers : (e : EndedSa) → is_of by.key by.sci by.an e ≡ true → by.last ≤ sa_last (sa_raised by e)
  sa_covers e is = rw is (omega arith)

more_of_key : (by : EndedSa) (t : Ends) → IsMore by t (with_key_end by t)
more_of_key by t = by_tests (has_key_end t.keys by) (nat_lt (length t.keys) max_end_count) refl
  where
    new : EndedKey
    new = record { key = by.key; last = by.last }

    by_tests : (there space : Bool) → has_key_end t.keys by ≡ there →
        IsMore by t (if there then record t { keys = map (key_raised by) t.keys } else if space
        then record t { keys = t.keys ++ new ∷ [] } else record t { others = max t.others by.last })
    by_tests true _ is = record {
      more = λ key sci an. omega (
        arith,
        of_raised key_last (is_under key) (key_raised by) (key_stays by key) (key_rises by) t.keys,
        last_under-is key t.keys,
        last_under-is key (map (key_raised by) t.keys),
      );
      covers = omega (
        arith,
        covers_raised key_last (is_under by.key) (key_raised by) (key_stays by by.key) by.last
            (key_covers by) t.keys is,
        last_under-is by.key (map (key_raised by) t.keys),
      );
    }
    by_tests false true is = record {
      more = λ key sci an. omega (
        arith,
        of_both key_last (is_under key) t.keys (new ∷ []),
        last_under-is key t.keys,
        last_under-is key (t.keys ++ new ∷ []),
      );
      covers = omega (
        arith,
        of_both key_last (is_under by.key) t.keys (new ∷ []),
        last_under-is by.key (t.keys ++ new ∷ []),
        covers_one key_last (is_under by.key) new (eq-eqb by.key by.key refl),
      );
    }
    by_tests false false is = record { more = λ key sci an. omega arith; covers = omega arith }

more_of_sa : (by : EndedSa) (t : Ends) → IsMore by t (with_end by t)
more_of_sa by t = by_tests (has_end t.entries by) (nat_lt (length t.entries) max_end_count) refl
  where
    by_tests : (there space : Bool) → has_end t.entries by ≡ there →
        IsMore by t (if there then record t { entries = map (sa_raised by) t.entries } else if space
        then record t { entries = t.entries ++ by ∷ [] } else with_key_end by t)
    by_tests true _ is = record {
      more = λ key sci an. omega (
        arith,
        of_raised sa_last (is_of key sci an) (sa_raised by) (sa_stays by key sci an) (sa_rises by) t.entries,
        last_end-is key sci an t.entries,
        last_end-is key sci an (map (sa_raised by) t.entries),
      );
      covers = omega (
        arith,
        covers_raised sa_last (is_of by.key by.sci by.an) (sa_raised by)
            (sa_stays by by.key by.sci by.an) by.last (sa_covers by) t.entries is,
        last_end-is by.key by.sci by.an (map (sa_raised by) t.entries),
      );
    }
    by_tests false true is = record {
      more = λ key sci an. omega (
        arith,
        of_both sa_last (is_of key sci an) t.entries (by ∷ []),
        last_end-is key sci an t.entries,
        last_end-is key sci an (t.entries ++ by ∷ []),
      );
      covers = omega (
        arith,
        of_both sa_last (is_of by.key by.sci by.an) t.entries (by ∷ []),
        last_end-is by.key by.sci by.an (t.entries ++ by ∷ []),
        covers_one sa_last (is_of by.key by.sci by.an) by (is_of_itself by),
      );
    }
    by_tests false false _ = more_of_key by t

-- ---- more ends

pub ends_more : (es : List EndedSa) (t : Ends) (key : ℕ) (sci : Sci) (an : ℕ) →
    end_of t key sci an ≤ end_of (with_ends es t) key sci an
ends_more [] t _ _ _ = omega arith
ends_more (e ∷ es) t key sci an = omega (
  arith,
  (more_of_sa e t).more key sci an,
  ends_more es (with_end e t) key sci an,
)

pub ends_cover : (es : List EndedSa) (t : Ends) (e : EndedSa) → IsMember es e → e.last ≤ end_of (with_ends es t) e.key
    e.sci e.an
ends_cover [] t e there = absurd there
ends_cover (x ∷ es) t e (inr later) = ends_cover es (with_end x t) e later
ends_cover (x ∷ es) t e (inl here) =
    rw (← here) (omega (arith, (more_of_sa x t).covers, ends_more es (with_end x t) x.key x.sci x.an))

-- ---- a key is removed

-- an entry under it is of no other key
of_other : (n key : ℕ) → (key == n) ≡ false → (m : ℕ) → not (m == n) ≡ false → (m == key) ≡ false
of_other n key other m gone = by_tests (m == n) (m == key) refl refl gone
  where
    by_tests : (b c : Bool) → (m == n) ≡ b → (m == key) ≡ c → not b ≡ false → c ≡ false
    by_tests b false _ _ _ = refl
    by_tests false true is is' gone' = cc
    by_tests true true is is' gone' =
        let same = rw (eqb-true m key is') at is in
        let no = sym same ∙ other in cc

pub without_other : (n : ℕ) (t : Ends) (key : ℕ) (sci : Sci) (an : ℕ) → (key == n) ≡ false →
    end_of (without_key n t) key sci an ≡ end_of t key sci an
without_other n t key sci an other = rw (
  last_end-is key sci an (filter (λ e. not (e.key == n)) t.entries),
  of_kept sa_last (is_of key sci an) (λ e. not (e.key == n)) (λ e gone. rw (of_other n key other e.key gone)) t.entries,
  ← last_end-is key sci an _,
  last_under-is key (filter (λ e. not (is_under n e)) t.keys),
  of_kept key_last (is_under key) (λ e. not (is_under n e)) (λ e gone. of_other n key other e.key gone) t.keys,
  ← last_under-is key t.keys,
)

-- Where deleted SAs ended is remembered: the PN up to which frames may have been accepted from an SA does not fall,
-- whether the SA exists or not.

-- an SA that existed and no longer exists is in the table
gone : (s after : State) (t : Ends) (row : RxRow) → rx_row s.rx.rows row.sci row.an ≡ Some row →
    rx_row after.rx.rows row.sci row.an ≡ None →
    end_of_row row ≤ end_of (with_ends (ended_by s after) t) row.key row.sci row.an
gone s after t row there none =
    let gone' : is_gone after row ≡ true = rw none in
    let left : IsMember (filter (is_gone after) s.rx.rows) row =
    left_member _ _ row (found_row row.sci row.an _ row there) gone' in
    ends_cover _ t _ (member_of_map ended_of _ row left)

-- ---- a key that is given up

-- a key that a step of the keeping endpoint retires is given up
pub retires : (k : Keeping) (n : ℕ) → is_done (keeping_step k (endpoint_input (operator_command (Retire n)))).0 ≡ true →
    IsGivenUp (keeping_step k (endpoint_input (operator_command (Retire n)))).1.secy n
retires k n done' = by_both _ _ done'
  where
    is_it_done : (output : Output) → is_done_output output ≡ true → output ≡ done
    is_it_done done _ = refl
    is_it_done _ is = cc

    by_both : (below go : Bool) → is_done (by_tests below go k (step k.secy (operator_command (Retire n)))).0 ≡ true →
        IsGivenUp (by_tests below go k (step k.secy (operator_command (Retire n)))).1.secy n
    by_both false true is = gives_up k.secy n (is_it_done _ is)
    by_both _ _ is = cc

pub keeps_given_up : (k : Keeping) (input : KeepingInput) (n : ℕ) → IsGivenUp k.secy n →
    IsGivenUp (keeping_step k input).1.secy n
keeps_given_up k (now_durable r) n up = up
keeps_given_up k (endpoint_input input) n up =
    by_keeping (λ s. IsGivenUp s n) k input up (stays_given_up k.secy n input up)

-- ---- a step

-- what the table says of an SA stays, unless its key is given up
abbrev pub StaysUnless : Ahead → Ahead → ℕ → Sci → ℕ → Type 0
StaysUnless a after key sci an = IsGivenUp after.k.secy key
    ⊎ (end_of a.ended key sci an ≤ end_of after.ended key sci an)

-- the key that a command retires is given up
abbrev pub GivesUpBy : Command → Answer → Type 0
GivesUpBy (Retire n) answer = is_done answer.0 ≡ true → IsGivenUp answer.1.secy n
GivesUpBy c answer = Unit {0}

retires_by : (k : Keeping) (c : Command) → GivesUpBy c (keeping_step k (endpoint_input (operator_command c)))
retires_by k (Retire n) = retires k n
retires_by k c = tt

pub after_command : (c : Command) (answer : Answer) → GivesUpBy c answer →
    (again : Bool) (it : Standing) (a : Ahead) (key : ℕ) (sci : Sci) (an : ℕ) →
    StaysUnless a (ahead_by again it a (operator_command c) answer).1 key sci an
after_command c answer gives again it a key sci an =
    by_ahead (λ x. StaysUnless a x key sci an) a (operator_command c) answer (inr (omega arith))
    (by_keeps a.k.keeps c answer gives) again it
  where
    grown : (answer : Answer) →
        end_of a.ended key sci an ≤ end_of (with_ends (ended_by a.k.secy answer.1.secy) a.ended) key sci an
    grown answer = ends_more (ended_by a.k.secy answer.1.secy) a.ended key sci an

    by_key : (answer : Answer) (n : ℕ) → IsGivenUp answer.1.secy n → (b : Bool) → (key == n) ≡ b →
        IsGivenUp answer.1.secy key ⊎ (end_of a.ended key sci an ≤ end_of
        (without_key n (with_ends (ended_by a.k.secy answer.1.secy) a.ended)) key sci an)
    by_key _ n up true same = inl (rw (eqb-true key n same) up)
    by_key answer n up false other = inr (omega (
      arith,
      grown answer,
      without_other n (with_ends (ended_by a.k.secy answer.1.secy) a.ended) key sci an other,
    ))

    by_done : (answer : Answer) (n : ℕ) (done' : Bool) → (done' ≡ true → IsGivenUp answer.1.secy n) →
        IsGivenUp answer.1.secy key ⊎ (end_of a.ended key sci an ≤ end_of
        (if done' then without_key n (with_ends (ended_by a.k.secy answer.1.secy) a.ended)
        else with_ends (ended_by a.k.secy answer.1.secy) a.ended) key sci an)
    by_done answer n true up = by_key answer n (up refl) (key == n) refl
    by_done answer n false _ = inr (grown answer)

    by_command : (c' : Command) (answer : Answer) → GivesUpBy c' answer →
        IsGivenUp answer.1.secy key ⊎ (end_of a.ended key sci an ≤ end_of
        (after_retiring c' (is_done answer.0) (with_ends (ended_by a.k.secy answer.1.secy) a.ended)) key sci an)
    by_command (Retire n) answer up = by_done answer n (is_done answer.0) up
    by_command c answer _ = inr (grown answer)

    by_keeps : (keeps : Bool) (c' : Command) (answer : Answer) → GivesUpBy c' answer →
        IsGivenUp answer.1.secy key ⊎ (end_of a.ended key sci an ≤ end_of
        (if keeps then after_retiring c' (is_done answer.0) (with_ends (ended_by a.k.secy answer.1.secy) a.ended)
        else a.ended) key sci an)
    by_keeps true c' answer up = by_command c' answer up
    by_keeps false _ _ up = inr (omega arith)

after_frame : (again : Bool) (it : Standing) (a : Ahead) (input : Input) (answer : Answer) →
    ended_after a input answer ≡ a.ended → (key : ℕ) (sci : Sci) (an : ℕ) →
    StaysUnless a (ahead_by again it a input answer).1 key sci an
after_frame again it a input answer same key sci an =
    by_ahead (λ x. StaysUnless a x key sci an) a input answer (inr (omega arith)) (inr (rw same (omega arith))) again it

pub ends_step : (a : Ahead) (input : KeepingInput) (key : ℕ) (sci : Sci) (an : ℕ) →
    StaysUnless a (ahead_step a input).1 key sci an
ends_step a (now_durable r) _ _ _ = inr (omega arith)
ends_step a (endpoint_input (operator_command c)) key sci an = after_command c _ (retires_by a.k c) _ _ a key sci an
ends_step a (endpoint_input input) key sci an =
    after_frame (begins_again a input) (standing a input) a input (keeping_step a.k (endpoint_input input)) refl key sci
    an

-- ---- an SA that a step deletes

-- a step of the endpoint keeps each SA, unless it is a command
pub row_kept : (k : Keeping) (input : KeepingInput) (sci : Sci) (an n : ℕ) → KeepsAssociation sci an input →
    IsAbove k.secy.rx.rows sci an n → IsAbove (keeping_step k input).1.secy.rx.rows sci an n
row_kept k (now_durable r) _ _ n _ above = above
row_kept k (endpoint_input input) sci an n stays above =
    by_keeping (λ s. IsAbove s.rx.rows sci an n) k input above (rx_rows_stay k.secy input sci an n stays above)

pub not_gone : (k : Keeping) (input : KeepingInput) (row : RxRow) → KeepsAssociation row.sci row.an input →
    rx_row k.secy.rx.rows row.sci row.an ≡ Some row →
    rx_row (keeping_step k input).1.secy.rx.rows row.sci row.an ≡ None → ⊥
not_gone k input row stays there none =
    let above = row_kept k input row.sci row.an 0 stays (record { row = row; there = there; above = omega arith }) in
    let no = sym above.there ∙ none in cc

-- a command that retires a key deletes no SA
abbrev pub KeepsByRetiring : Command → Answer → RxRow → Type 0
KeepsByRetiring (Retire n) answer row = rx_row answer.1.secy.rx.rows row.sci row.an ≡ None → ⊥
KeepsByRetiring c answer row = Unit {0}

remembers_command : (a : Ahead) (row : RxRow) → rx_row a.k.secy.rx.rows row.sci row.an ≡ Some row →
    (c : Command) (answer : Answer) → KeepsByRetiring c answer row →
    rx_row answer.1.secy.rx.rows row.sci row.an ≡ None →
    end_of_row row ≤ end_of (after_retiring c (is_done answer.0) (with_ends (ended_by a.k.secy answer.1.secy) a.ended))
    row.key row.sci row.an
remembers_command a _ _ (Retire n) _ keeps none = absurd (keeps none)
remembers_command a row there c answer _ none = gone a.k.secy answer.1.secy a.ended row there none

keeps_by_retiring : (k : Keeping) (row : RxRow) → rx_row k.secy.rx.rows row.sci row.an ≡ Some row → (c : Command) →
    KeepsByRetiring c (keeping_step k (endpoint_input (operator_command c))) row
keeps_by_retiring k row there (Retire n) = not_gone k (endpoint_input (operator_command (Retire n))) row refl there
keeps_by_retiring k _ _ c = tt

pub remembers_by : (c : Command) (answer : Answer) (again : Bool) (it : Standing) (a : Ahead)
    (row : RxRow) → KeepsByRetiring c answer row → a.k.keeps ≡ true →
    rx_row a.k.secy.rx.rows row.sci row.an ≡ Some row →
    rx_row (ahead_by again it a (operator_command c) answer).1.k.secy.rx.rows row.sci row.an ≡ None →
    end_of_row row ≤ end_of (ahead_by again it a (operator_command c) answer).1.ended row.key row.sci row.an
remembers_by c answer again it a row by keeps there = by_ahead (λ x. rx_row x.k.secy.rx.rows row.sci row.an ≡ None →
    end_of_row row ≤ end_of x.ended row.key row.sci row.an) a (operator_command c) answer
    (λ none. let no = sym there ∙ none in cc) (λ none.
    let more = after_retiring c (is_done answer.0) (with_ends (ended_by a.k.secy answer.1.secy) a.ended) in
    let all : ended_after a (operator_command c) answer ≡ more = rw keeps in
    rw all (remembers_command a row there c answer by none)) again it

-- a step that is no command deletes no SA
remembers_frame : (a : Ahead) (input : KeepingInput) (row : RxRow) → KeepsAssociation row.sci row.an input →
    rx_row a.k.secy.rx.rows row.sci row.an ≡ Some row →
    rx_row (ahead_step a input).1.k.secy.rx.rows row.sci row.an ≡ None → ⊥
remembers_frame a input row stays there = by_inside (λ k. rx_row k.secy.rx.rows row.sci row.an ≡ None → ⊥) a input
    (λ none. let no = sym there ∙ none in cc) (not_gone a.k input row stays there)

pub remembers_end : (a : Ahead) (input : KeepingInput) (row : RxRow) → RemembersEnd a input row
remembers_end a (now_durable r) _ keeps there none = let no = sym there ∙ none in cc
remembers_end a (endpoint_input (operator_command c)) row keeps there none =
    remembers_by c _ _ _ a row (keeps_by_retiring a.k row there c) keeps there none
remembers_end a input row _ there none = absurd (remembers_frame a input row refl there none)

-- ---- what may have been accepted from an SA: below its lowest acceptable PN, and up to where it ended

abbrev pub row_end : Option RxRow → ℕ → ℕ
row_end None key = 0
row_end (Some row) key = if row.key == key then end_of_row row else 0

abbrev pub past_of : Ahead → ℕ → Sci → ℕ → ℕ
past_of a key sci an = max (row_end (rx_row a.k.secy.rx.rows sci an) key) (end_of a.ended key sci an)

-- the same step of a keeping endpoint
pub keeping_row_step : (k : Keeping) (input : Input) (sci : Sci) (an : ℕ) →
    RowStep input (rx_row k.secy.rx.rows sci an) (rx_row (keeping_step k (endpoint_input input)).1.secy.rx.rows sci an)
keeping_row_step k input sci an =
    by_keeping (λ s. RowStep input (rx_row k.secy.rx.rows sci an) (rx_row s.rx.rows sci an)) k input
    (still input (rx_row k.secy.rx.rows sci an)) (row_step k.secy input sci an)

pub ahead_row_step : (a : Ahead) (input : Input) (sci : Sci) (an : ℕ) → RowStep input (rx_row a.k.secy.rx.rows sci an)
    (rx_row (ahead_step a (endpoint_input input)).1.k.secy.rx.rows sci an)
ahead_row_step a input sci an =
    by_inside (λ k. RowStep input (rx_row a.k.secy.rx.rows sci an) (rx_row k.secy.rx.rows sci an)) a
    (endpoint_input input) (still input (rx_row a.k.secy.rx.rows sci an)) (keeping_row_step a.k input sci an)

pub past_by : (input : Input) (o o' : Option RxRow) (key : ℕ) (old new : ℕ) → RowStep input o o' → old ≤ new →
    ((row : RxRow) → o ≡ Some row → o' ≡ None → row.key ≡ key → end_of_row row ≤ new) →
    max (row_end o key) old ≤ max (row_end o' key) new
past_by _ None _ _ _ _ stepped grows ended = omega (arith, grows)
past_by _ (Some row) None key old new stepped grows ended = by_key (row.key == key) refl
  where
    by_key : (b : Bool) → (row.key == key) ≡ b → max (if b then end_of_row row else 0) old ≤ max 0 new
    by_key false other = omega (arith, grows)
    by_key true same = omega (arith, grows, ended row refl refl (eqb-true row.key key same))
past_by _ (Some row) (Some later) key old new stepped grows ended = rw stepped.key (by_key (row.key == key))
  where
    by_key : (b : Bool) → max (if b then end_of_row row else 0) old ≤ max (if b then end_of_row later else 0) new
    by_key false = omega (arith, grows)
    by_key true = omega (arith, grows, stepped.lowest)

-- a first PN that is not refused
pub first_new : (first last : ℕ) → 1 ≤ first → (nat_lt 0 first && nat_le first last) ≡ false → last < first
first_new first last least new = by_part (and_cases (nat_lt 0 first) (nat_le first last) new)
  where
    by_part : (nat_lt 0 first ≡ false) ⊎ (nat_le first last ≡ false) → last < first
    by_part (inl none') = absurd (omega (arith, least, ltb-false 0 first none'))
    by_part (inr above') = leb-false first last above'

-- an SA that a step creates begins above what may have been accepted from it under its key
pub created_above : (a : Ahead) (input : KeepingInput) (sci : Sci) (an : ℕ) (row : RxRow) →
    rx_row a.k.secy.rx.rows sci an ≡ None →
    rx_row (ahead_step a input).1.k.secy.rx.rows sci an ≡ Some row → lets_through a input ≡ true →
    past_of a row.key sci an < row.next
created_above a (now_durable r) _ _ _ none there lets = let no = sym none ∙ there in cc
created_above a (endpoint_input input) sci an row none there lets =
    let created : IsCreatedBy input row =
    subst (λ o. RowStep input o (Some row)) none (rw there at (ahead_row_step a input sci an)) in
    let new : begins_again a (operator_command (RxSa row.sci row.an row.key created.ssci row.lowest)) ≡ false =
    ap (begins_again a) (sym created.is) ∙ not_again (begins_again a input) (standing a input) lets in
    let own = same_place row.sci sci row.an an (found_at
    (ahead_step a (endpoint_input input)).1.k.secy.rx.rows sci an row there) in
    let above = first_new row.lowest (end_of a.ended row.key row.sci row.an) created.least new in
    let here : end_of a.ended row.key sci an < row.lowest = rw (← own.1) (rw own.0 at above) in
    rw none (omega (arith, here, created.next))
  where
    not_again : (again : Bool) (it : Standing) → is_through again it ≡ true → again ≡ false
    not_again true _ is = cc
    not_again false _ _ = refl
