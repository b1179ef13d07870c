-- The table of the indices of live logs: changes of the logs at its indices, and the table after them.
use Rattle.std.proofs.{
  Common.{◌≡◌, ◌∙◌, ℕ, zero, suc, ◌<◌, ◌≤◌, All, Bool, true, false, cond, List, [], ◌∷◌, ◌+◌, ◌++◌, ap, arith, drop},
  Common.{filter, get_or, length, map, refl, set, subst, sym, take, find, if◌then◌else◌, option_map, Option, Some},
  Common.None,
  Math.Seq.map-set_same,
  lemmas.List.{drop_more, length-map, map-append, Elements.{All-cons, All-map, All-more, All-nil}},
}
use Rattle.macsec_tag.specs.declared.identifiers.Sci.{Sci}
use Rattle.macsec_link_logs.specs.{
  Logs.{DeliveryLog, is_live_at, log_closing, log_delivering, logs_delivering, with_first},
  Places.{HasPlaceAt, KeptLog, live_places, log_of, logs_of, passes_at},
}

abbrev Change : Type 0
Change = DeliveryLog → DeliveryLog

-- changes the log at an index; the logs at several indices, one after another; and the log at an index if there is one
abbrev with_at : Change → ℕ → List DeliveryLog → List DeliveryLog
with_at change place [] = []
with_at change zero (log ∷ logs) = change log ∷ logs
with_at change (suc place) (log ∷ logs) = log ∷ with_at change place logs

abbrev pub with_each : Change → List ℕ → List DeliveryLog → List DeliveryLog
with_each change [] logs = logs
with_each change (place ∷ places) logs = with_each change places (with_at change place logs)

abbrev with_found_at : Change → Option ℕ → List DeliveryLog → List DeliveryLog
with_found_at change None logs = logs
with_found_at change (Some place) logs = with_at change place logs

-- the table when a log is added in front
abbrev live_before : Bool → List ℕ → List ℕ
live_before live places = cond live (zero ∷ map suc places) (map suc places)

-- ---- logs with their capacity

logs_of-set : (change : Change) (logs : List KeptLog) (place : ℕ) (old new : KeptLog) → old ≡ get_or logs place old → new.log ≡ change old.log →
    logs_of (set logs place new) ≡ with_at change place (logs_of logs)
logs_of-set change [] place old new is changed = refl
logs_of-set change (k ∷ logs) zero old new is changed = ap (λ log. log ∷ logs_of logs) (changed ∙ ap (λ (x : KeptLog). change x.log) is)
logs_of-set change (k ∷ logs) (suc place) old new is changed = ap (λ rest. k.log ∷ rest) (logs_of-set change logs place old new is changed)

place_made : (logs : List KeptLog) (place : ℕ) (new : KeptLog) → 1 ≤ new.spare → HasPlaceAt (set logs place new) place
place_made [] place new spare = tt
place_made (k ∷ logs) zero new spare = spare
place_made (k ∷ logs) (suc place) new spare = place_made logs place new spare

place_stays : (logs : List KeptLog) (place other : ℕ) (new : KeptLog) → 1 ≤ new.spare → HasPlaceAt logs other → HasPlaceAt (set logs place new) other
place_stays [] place other new spare has = has
place_stays (k ∷ logs) zero zero new spare has = spare
place_stays (k ∷ logs) zero (suc other) new spare has = has
place_stays (k ∷ logs) (suc place) zero new spare has = has
place_stays (k ∷ logs) (suc place) (suc other) new spare has = place_stays logs place other new spare has

-- a log is replaced by one that differs only in its capacity
pub same_logs : (logs : List KeptLog) (place : ℕ) (old new : KeptLog) → old ≡ get_or logs place old → new.log ≡ old.log → logs_of (set logs place new) ≡ logs_of logs
same_logs logs place old new is same = map-set_same log_of logs place new old (same ∙ ap log_of is)

-- one more log has capacity
pub more_places : (logs : List KeptLog) (table : List ℕ) (i : ℕ) (new : KeptLog) → i < length table → 1 ≤ new.spare → All (HasPlaceAt logs) (take i table) →
    All (HasPlaceAt (set logs (get_or table i 0) new)) (take (i + 1) table)
more_places logs table i new inside spare have =
    let place = get_or table i 0 in
    All-more (HasPlaceAt (set logs place new)) table i 0 inside
    (λ k d before. place_stays logs place (get_or (take i table) k d) new spare (have k d before)) (place_made logs place new spare)

place_found : (logs : List KeptLog) (place : ℕ) (old : KeptLog) → old ≡ get_or logs place old → place < length logs → HasPlaceAt logs place → 1 ≤ old.spare
place_found [] place old is within has = absurd (omega (arith, within))
place_found (k ∷ logs) zero old is within has = subst (λ (x : KeptLog). 1 ≤ x.spare) (sym is) has
place_found (k ∷ logs) (suc place) old is within has = place_found logs place old is (omega (arith, within)) has

-- ---- the table

abbrev IsPlace : ℕ → ℕ → Type 0
IsPlace count place = place < count

within : (logs : List DeliveryLog) → All (λ place. place < length logs) (live_places logs)
within [] = All-nil (λ place. place < 0)
within (log ∷ logs) =
    let later = All-map (IsPlace (suc (length logs))) (λ (place : ℕ). suc place) (live_places logs) (λ i d inside. omega (arith, within logs i d inside)) in
    by_test log.live later
  where
    by_test : (live : Bool) → All (λ place. place < suc (length logs)) (map suc (live_places logs)) → All (λ place. place < suc (length logs)) (live_before live (live_places logs))
    by_test true later = All-cons (IsPlace (suc (length logs))) zero (map suc (live_places logs)) (omega arith) later
    by_test false later = later

-- each index in the table belongs to a log
pub all_within : (logs : List KeptLog) (table : List ℕ) → table ≡ live_places (logs_of logs) → All (λ place. place < length logs) table
all_within logs table is =
    let each : All (IsPlace (length logs)) (live_places (logs_of logs)) = λ i d inside. omega (arith, length-map logs log_of, within (logs_of logs) i d inside) in
    subst (λ (places : List ℕ). All (IsPlace (length logs)) places) (sym is) each

holds_of_found : (P : ℕ → Type 0) (test : ℕ → Bool) (places : List ℕ) (place : ℕ) → All P places → find test places ≡ Some place → P place
holds_of_found P test [] place all found = cc
holds_of_found P test (p ∷ places) place all found = by_test (test p) (holds_of_found P test places place (λ i d inside. all (suc i) d (omega (arith, inside)))) found
  where
    by_test : (b : Bool) → (find test places ≡ Some place → P place) → (if b then Some p else find test places) ≡ Some place → P place
    by_test true later found' = let it : p ≡ place = cc in subst P it (all 0 p (omega arith))
    by_test false later found' = later found'

live_places-push : (logs : List DeliveryLog) (new : DeliveryLog) → new.live ≡ true → live_places (logs ++ new ∷ []) ≡ live_places logs ++ length logs ∷ []
live_places-push [] new live = ap (λ b. live_before b []) live
live_places-push (log ∷ logs) new live = ap (live_before log.live) (live_places-push logs new live) ∙ by_test log.live
  where
    by_test : (b : Bool) → live_before b (live_places logs ++ length logs ∷ []) ≡ live_before b (live_places logs) ++ suc (length logs) ∷ []
    by_test true = ap (λ places. zero ∷ places) (map-append suc (live_places logs) (length logs ∷ []))
    by_test false = map-append suc (live_places logs) (length logs ∷ [])

-- a delivery does not change the table
live_places-delivering : (test : DeliveryLog → Bool) (frame : List ℕ) (logs : List DeliveryLog) → live_places (with_first test (log_delivering frame) logs) ≡ live_places logs
live_places-delivering test frame [] = refl
live_places-delivering test frame (log ∷ logs) = by_test (test log) (live_places-delivering test frame logs)
  where
    by_test : (b : Bool) → live_places (with_first test (log_delivering frame) logs) ≡ live_places logs →
        live_places (if b then log_delivering frame log ∷ logs else log ∷ with_first test (log_delivering frame) logs) ≡ live_places (log ∷ logs)
    by_test true rest = refl
    by_test false rest = ap (live_before log.live) rest

pub live_places-delivered : (row : Option (Sci × ℕ)) (frame : List ℕ) (logs : List DeliveryLog) → live_places (logs_delivering row frame logs) ≡ live_places logs
live_places-delivered None frame logs = refl
live_places-delivered (Some place) frame logs = live_places-delivering (is_live_at place.0 place.1) frame logs

-- ---- every live log is changed

with_each-map_suc : (change : Change) (places : List ℕ) (log : DeliveryLog) (logs : List DeliveryLog) →
    with_each change (map suc places) (log ∷ logs) ≡ log ∷ with_each change places logs
with_each-map_suc change [] log logs = refl
with_each-map_suc change (place ∷ places) log logs = with_each-map_suc change places log (with_at change place logs)

with_each-live : (change : Change) → ((log : DeliveryLog) → log.live ≡ false → change log ≡ log) → (logs : List DeliveryLog) →
    with_each change (live_places logs) logs ≡ map change logs
with_each-live change keeps [] = refl
with_each-live change keeps (log ∷ logs) = by_test (with_each-live change keeps logs) log.live refl
  where
    by_test : with_each change (live_places logs) logs ≡ map change logs → (b : Bool) → log.live ≡ b →
        with_each change (live_before b (live_places logs)) (log ∷ logs) ≡ change log ∷ map change logs
    by_test rest true is = with_each-map_suc change (live_places logs) (change log) logs ∙ ap (λ xs. change log ∷ xs) rest
    by_test rest false is = with_each-map_suc change (live_places logs) log logs ∙ ap (λ xs. log ∷ xs) rest ∙ ap (λ x. x ∷ map change logs) (sym (keeps log is))

-- the log at the next index of the table is changed
pub next_changed : (change : Change) (logs : List KeptLog) (table : List ℕ) (i : ℕ) (old new : KeptLog) (all : List DeliveryLog) → i < length table →
    old ≡ get_or logs (get_or table i 0) old → new.log ≡ change old.log →
    with_each change (drop i table) (logs_of logs) ≡ all → with_each change (drop (i + 1) table) (logs_of (set logs (get_or table i 0) new)) ≡ all
next_changed change logs table i old new all inside is changed so_far =
    ap (with_each change (drop (i + 1) table)) (logs_of-set change logs (get_or table i 0) old new is changed)
    ∙ sym (ap (λ (places : List ℕ). with_each change places (logs_of logs)) (drop_more table i 0 inside)) ∙ so_far

-- a log whose SA does not exist is closed already
closed_stays : (test : DeliveryLog → Bool) (log : DeliveryLog) → log.live ≡ false → log_closing test log ≡ log
closed_stays test log closed = by_test (test log)
  where
    by_test : (b : Bool) → (if b then record log { live = false } else log) ≡ log
    by_test true = ap (λ (b : Bool). record log { live = b }) (sym closed)
    by_test false = refl

pub each_closed : (test : DeliveryLog → Bool) (logs : List DeliveryLog) → with_each (log_closing test) (live_places logs) logs ≡ map (log_closing test) logs
each_closed test logs = with_each-live (log_closing test) (closed_stays test) logs

-- the table without the indices of closed logs
filter-map_suc : (test : ℕ → Bool) (places : List ℕ) → filter test (map suc places) ≡ map suc (filter (λ place. test (suc place)) places)
filter-map_suc test [] = refl
filter-map_suc test (place ∷ places) = by_test (test (suc place)) (filter-map_suc test places)
  where
    by_test : (b : Bool) → filter test (map suc places) ≡ map suc (filter (λ p. test (suc p)) places) →
        let rest = filter test (map suc places) in
        let left = filter (λ p. test (suc p)) places in
        cond b (suc place ∷ rest) rest ≡ map suc (cond b (place ∷ left) left)
    by_test true rest = ap (λ ps. suc place ∷ ps) rest
    by_test false rest = rest

abbrev pub is_live_in : List DeliveryLog → ℕ → Bool
is_live_in logs place = passes_at (λ log. log.live) logs place

live_places-closing : (test : DeliveryLog → Bool) (logs : List DeliveryLog) →
    filter (is_live_in (map (log_closing test) logs)) (live_places logs) ≡ live_places (map (log_closing test) logs)
live_places-closing test [] = refl
live_places-closing test (log ∷ logs) =
    by_test (filter-map_suc (is_live_in (map (log_closing test) (log ∷ logs))) (live_places logs) ∙ ap (map suc) (live_places-closing test logs)) log.live refl
  where
    by_test : filter (is_live_in (map (log_closing test) (log ∷ logs))) (map suc (live_places logs)) ≡ map suc (live_places (map (log_closing test) logs)) →
        (b : Bool) → log.live ≡ b →
        let closed = map (log_closing test) (log ∷ logs) in
        filter (is_live_in closed) (live_before b (live_places logs)) ≡ live_before (log_closing test log).live (live_places (map (log_closing test) logs))
    by_test rest true is = ap (λ (ps : List ℕ). cond (log_closing test log).live (zero ∷ ps) ps) rest
    by_test rest false is = rest ∙ sym (ap (λ b. live_before b (live_places (map (log_closing test) logs))) (ap (λ (l : DeliveryLog). l.live) (closed_stays test log is) ∙ is))

-- ---- the table after a command

pub table_more : (logs : List KeptLog) (new : KeptLog) (table : List ℕ) (n : ℕ) → n ≡ length logs → table ≡ live_places (logs_of logs) →
    new.log.live ≡ true → table ++ n ∷ [] ≡ live_places (logs_of (logs ++ new ∷ []))
table_more logs new table n count is live =
    ap (λ (places : List ℕ). places ++ n ∷ []) is ∙ ap (λ m. live_places (logs_of logs) ++ m ∷ []) (count ∙ sym (length-map logs log_of))
    ∙ sym (live_places-push (logs_of logs) new.log live) ∙ ap live_places (sym (map-append log_of logs (new ∷ [])))

pub table_left : (test : DeliveryLog → Bool) (logs after : List DeliveryLog) (table left : List ℕ) → table ≡ live_places logs →
    after ≡ map (log_closing test) logs → left ≡ filter (is_live_in after) table →
    left ≡ live_places after
table_left test logs after table left is closed left_is =
    left_is ∙ ap (filter (is_live_in after)) is
    ∙ ap (λ (ls : List DeliveryLog). filter (is_live_in ls) (live_places logs)) closed
    ∙ live_places-closing test logs ∙ ap live_places (sym closed)

-- ---- the first live log that passes a test is changed

find-map_suc : (test : ℕ → Bool) (places : List ℕ) → find test (map suc places) ≡ option_map suc (find (λ place. test (suc place)) places)
find-map_suc test [] = refl
find-map_suc test (place ∷ places) = by_test (test (suc place)) (find-map_suc test places)
  where
    by_test : (b : Bool) → find test (map suc places) ≡ option_map suc (find (λ p. test (suc p)) places) →
        (if b then Some (suc place) else find test (map suc places)) ≡ option_map suc (if b then Some place else find (λ p. test (suc p)) places)
    by_test true rest = refl
    by_test false rest = rest

with_found_at-map_suc : (change : Change) (o : Option ℕ) (log : DeliveryLog) (logs : List DeliveryLog) →
    with_found_at change (option_map suc o) (log ∷ logs) ≡ log ∷ with_found_at change o logs
with_found_at-map_suc change None log logs = refl
with_found_at-map_suc change (Some place) log logs = refl

module _ (test : DeliveryLog → Bool) (of_live : (log : DeliveryLog) → log.live ≡ false → test log ≡ false) (change : Change) where
  with_found_at-find : (logs : List DeliveryLog) → with_found_at change (find (passes_at test logs) (live_places logs)) logs ≡ with_first test change logs
  with_found_at-find [] = refl
  with_found_at-find (log ∷ logs) =
      by_live (ap (λ o. with_found_at change o (log ∷ logs)) (find-map_suc (passes_at test (log ∷ logs)) (live_places logs))
      ∙ with_found_at-map_suc change (find (passes_at test logs) (live_places logs)) log logs ∙ ap (λ rest. log ∷ rest) (with_found_at-find logs)) log.live refl
    where
      by_test : with_found_at change (find (passes_at test (log ∷ logs)) (map suc (live_places logs))) (log ∷ logs) ≡ log ∷ with_first test change logs → (b : Bool) →
          let later = find (passes_at test (log ∷ logs)) (map suc (live_places logs)) in
          with_found_at change (if b then Some zero else later) (log ∷ logs) ≡ (if b then change log ∷ logs else log ∷ with_first test change logs)
      by_test later true = refl
      by_test later false = later

      by_live : with_found_at change (find (passes_at test (log ∷ logs)) (map suc (live_places logs))) (log ∷ logs) ≡ log ∷ with_first test change logs →
          (b : Bool) → log.live ≡ b →
          with_found_at change (find (passes_at test (log ∷ logs)) (live_before b (live_places logs))) (log ∷ logs) ≡ with_first test change (log ∷ logs)
      by_live later true is = by_test later (test log)
      by_live later false is = later ∙ sym (ap (λ b. if b then change log ∷ logs else log ∷ with_first test change logs) (of_live log is))

with_found_at-find_live : (sci : Sci) (an : ℕ) (change : Change) (logs : List DeliveryLog) →
    with_found_at change (find (passes_at (is_live_at sci an) logs) (live_places logs)) logs ≡ with_first (is_live_at sci an) change logs
with_found_at-find_live sci an change logs = with_found_at-find (is_live_at sci an) (λ log closed. rw closed refl) change logs

-- a search in the table, over equal logs
module _ (sci : Sci) (an : ℕ) (logs seen : List KeptLog) (table : List ℕ) (same : seen ≡ logs) (is : table ≡ live_places (logs_of logs)) where
  -- the log at an index is the SA's
  abbrev is_its : ℕ → Bool
  is_its place = passes_at (is_live_at sci an) (logs_of logs) place

  searched : (o : Option ℕ) → o ≡ find (passes_at (is_live_at sci an) (logs_of seen)) table → find (passes_at (is_live_at sci an) (logs_of logs)) table ≡ o
  searched o found = ap (λ (ls : List KeptLog). find (passes_at (is_live_at sci an) (logs_of ls)) table) (sym same) ∙ sym found

  pub inside : (o : Option ℕ) → o ≡ find (passes_at (is_live_at sci an) (logs_of seen)) table → (place : ℕ) → o ≡ Some place → place < length logs
  inside o found place there = holds_of_found (IsPlace (length logs)) is_its table place (all_within logs table is) (searched o found ∙ there)

  pub has_place : (o : Option ℕ) → o ≡ find (passes_at (is_live_at sci an) (logs_of seen)) table → (place : ℕ) → o ≡ Some place →
      All (HasPlaceAt logs) table → (old : KeptLog) → old ≡ get_or logs place old → 1 ≤ old.spare
  has_place o found place there have old here =
      let has = holds_of_found (HasPlaceAt logs) is_its table place have (searched o found ∙ there) in
      place_found logs place old here (inside o found place there) has

  module _ (change : Change) where
    by_search : with_found_at change (find (passes_at (is_live_at sci an) (logs_of logs)) table) (logs_of logs) ≡ with_first (is_live_at sci an) change (logs_of logs)
    by_search =
        ap (λ (places : List ℕ). with_found_at change (find is_its places) (logs_of logs)) is ∙ with_found_at-find_live sci an change (logs_of logs)

    pub changed_at : (o : Option ℕ) → o ≡ find (passes_at (is_live_at sci an) (logs_of seen)) table → (place : ℕ) → o ≡ Some place →
        (old new : KeptLog) → old ≡ get_or logs place old → new.log ≡ change old.log →
        logs_of (set logs place new) ≡ with_first (is_live_at sci an) change (logs_of logs)
    changed_at o found place there old new here changed =
        logs_of-set change logs place old new here changed ∙ ap (λ x. with_found_at change x (logs_of logs)) (sym (searched o found ∙ there)) ∙ by_search

    pub changed_nowhere : (o : Option ℕ) → o ≡ find (passes_at (is_live_at sci an) (logs_of seen)) table → o ≡ None →
        logs_of logs ≡ with_first (is_live_at sci an) change (logs_of logs)
    changed_nowhere o found none = ap (λ x. with_found_at change x (logs_of logs)) (sym (searched o found ∙ none)) ∙ by_search
