-- Every input keeps this: each SC has counters for exactly its SAs, and the SC's own counters are the sums.
use Rattle.std.{proofs.Common.{length-set, get_or-set_same, get_or-set_other}, specs.List.All}
use Rattle.macsec_rx.specs.Judge.{rows_after}
use Rattle.macsec_secy.proofs.{
  Names.{[], ◌&&◌, ◌++◌, ◌<◌, ◌==◌, ◌||◌, ◌∙◌, ◌∷◌, ◌≡◌, ◌⊎◌, accepted_number, added, All-append, All-cons},
  Names.{All-contains_itself, All-head, All-map, All-nil, All-tail, All-weaker, and_parts, ap, AreOfAssociations},
  Names.{AreRxRows, arith, at_channel, Bool, ChannelCounters, Contains, count_in_channel, count_verdict},
  Names.{counted_at_row, counters_at, eq-eqb, eqb-true, false, filter, find, has_channel, has_rx, if◌then◌else◌, inl},
  Names.{inr, is_at, is_counted_by_channel, is_some, Judgement, judgement_of, length, List, map, new_channel_counters},
  Names.{no_rx_counters, None, not, Option, option_map, reading, refl, row_accepting, row_narrowed, row_raised},
  Names.{row_switched, rows_accepting, rx_packet_counted, rx_row, RxCounters, RxRow, same_sci, Sci, set, Some, State},
  Names.{suc, sum_of, sym, true, unwrap_or, Verdict, with_association, with_rx, without_association, zero, ℕ},
  AddedCounters.{added-counted_left, sum_of-begun, sum_of-counted, sum_of-ended},
  Contained.{first_or_behind, none_there},
  DeliveredFrom.at_own_place,
  InUse.used_holds,
  JudgedBy.{judged_by, judged_row},
  RxRowsStay.{KeepsPlace, accepts, at_one_place, not_deleted, not_of_channel, raises, rx_row-map, switches, narrows},
  Sums.one_sci,
}

abbrev pub AreOfAll : List RxRow → List ChannelCounters → Type 0
AreOfAll rows channels = All (AreOfAssociations rows) channels

-- ---- whether an SA exists

-- counters that fit the SAs still fit them if the same SAs exist afterwards
same_places : (rows after : List RxRow) → ((sci : Sci) (an : ℕ) → has_rx after sci an ≡ has_rx rows sci an) → (channels : List ChannelCounters) →
    AreOfAll rows channels → AreOfAll after channels
same_places rows after same channels are =
    All-weaker (AreOfAssociations rows) (AreOfAssociations after)
    (λ c of. record { count = of.count; there = λ an. of.there an ∙ sym (same c.sci an); sum = of.sum }) channels are

is_some-map : {A B : Type 0} (f : A → B) (o : Option A) → is_some (option_map f o) ≡ is_some o
is_some-map f None = refl
is_some-map f (Some x) = refl

has_rx-map : (f : RxRow → RxRow) → KeepsPlace f → (rows : List RxRow) (sci : Sci) (an : ℕ) → has_rx (map f rows) sci an ≡ has_rx rows sci an
has_rx-map f keeps rows sci an = ap is_some (rx_row-map f keeps rows sci an) ∙ is_some-map f (rx_row rows sci an)

has_rx-with_rx : (f : RxRow → RxRow) → KeepsPlace f → (of_sci : Sci) (of_an : ℕ) (rows : List RxRow) (sci : Sci) (an : ℕ) →
    has_rx (with_rx f of_sci of_an rows) sci an ≡ has_rx rows sci an
has_rx-with_rx f keeps of_sci of_an rows sci an = has_rx-map _ (at_one_place f keeps of_sci of_an) rows sci an

has_rx-append : (rows : List RxRow) (new : RxRow) (sci : Sci) (an : ℕ) → has_rx (rows ++ new ∷ []) sci an ≡ (has_rx rows sci an || is_at sci an new)
has_rx-append [] new sci an = by_test (is_at sci an new)
  where
    by_test : (b : Bool) → is_some (if b then Some new else None) ≡ b
    by_test true = refl
    by_test false = refl
has_rx-append (row ∷ rows) new sci an = by_test (is_at sci an row) (has_rx-append rows new sci an)
  where
    by_test : (b : Bool) → has_rx (rows ++ new ∷ []) sci an ≡ (has_rx rows sci an || is_at sci an new) →
        is_some (if b then Some row else rx_row (rows ++ new ∷ []) sci an) ≡ (is_some (if b then Some row else rx_row rows sci an) || is_at sci an new)
    by_test true later = refl
    by_test false later = later

-- a filter that keeps the SAs with this SC and number does not change whether one exists
has_rx-left : (keep : RxRow → Bool) (rows : List RxRow) (sci : Sci) (an : ℕ) → ((row : RxRow) → is_at sci an row ≡ true → keep row ≡ true) →
    has_rx (filter keep rows) sci an ≡ has_rx rows sci an
has_rx-left keep [] sci an kept = refl
has_rx-left keep (row ∷ rows) sci an kept = by_tests (is_at sci an row) (keep row) refl refl (has_rx-left keep rows sci an kept)
  where
    by_tests : (here left : Bool) → is_at sci an row ≡ here → keep row ≡ left → has_rx (filter keep rows) sci an ≡ has_rx rows sci an →
        has_rx (if left then row ∷ filter keep rows else filter keep rows) sci an ≡ is_some (if here then Some row else rx_row rows sci an)
    by_tests true true here left later = ap (λ b. is_some (if b then Some row else rx_row (filter keep rows) sci an)) here
    by_tests true false here left later = let no = sym (kept row here) ∙ left in cc
    by_tests false true here left later = ap (λ b. is_some (if b then Some row else rx_row (filter keep rows) sci an)) here ∙ later
    by_tests false false here left later = later

has_rx-gone : (keep : RxRow → Bool) (rows : List RxRow) (sci : Sci) (an : ℕ) → ((row : RxRow) → is_at sci an row ≡ true → keep row ≡ false) →
    has_rx (filter keep rows) sci an ≡ false
has_rx-gone keep [] sci an gone = refl
has_rx-gone keep (row ∷ rows) sci an gone = by_tests (is_at sci an row) (keep row) refl refl (has_rx-gone keep rows sci an gone)
  where
    by_tests : (here left : Bool) → is_at sci an row ≡ here → keep row ≡ left → has_rx (filter keep rows) sci an ≡ false →
        has_rx (if left then row ∷ filter keep rows else filter keep rows) sci an ≡ false
    by_tests true true here left later = let no = sym (gone row here) ∙ left in cc
    by_tests true false here left later = later
    by_tests false true here left later = ap (λ b. is_some (if b then Some row else rx_row (filter keep rows) sci an)) here ∙ later
    by_tests false false here left later = later

-- an SC that does not exist has no SA
pub has_rx-no_channel : (scis : List Sci) (rows : List RxRow) (sci : Sci) (an : ℕ) → AreRxRows scis rows → has_channel scis sci ≡ false → has_rx rows sci an ≡ false
has_rx-no_channel scis [] sci an are none = refl
has_rx-no_channel scis (row ∷ rows) sci an are none = by_test (is_at sci an row) refl (has_rx-no_channel scis rows sci an are.2 none)
  where
    by_test : (b : Bool) → is_at sci an row ≡ b → has_rx rows sci an ≡ false → is_some (if b then Some row else rx_row rows sci an) ≡ false
    by_test true here later =
        let same = one_sci row.sci sci (and_parts (same_sci row.sci sci) (row.an == an) here).0 in
        let no = sym are.0.channel ∙ ap (has_channel scis) same ∙ none in cc
    by_test false here later = later

-- an element that passes the test is found, or one before it
there_if : {A : Type 0} (test : A → Bool) (xs : List A) (x : A) → Contains xs x → test x ≡ true → is_some (find test xs) ≡ true
there_if test [] x there passes = absurd (none_there x there)
there_if test (y ∷ ys) x there passes = by_case (first_or_behind y ys x there) (λ later. there_if test ys x later passes)
  where
    by_test : (b : Bool) → is_some (find test ys) ≡ true → is_some (if b then Some y else find test ys) ≡ true
    by_test true later = refl
    by_test false later = later

    by_case : (y ≡ x) ⊎ Contains ys x → (Contains ys x → is_some (find test ys) ≡ true) → is_some (if test y then Some y else find test ys) ≡ true
    by_case (inl same) goes = ap (λ b. is_some (if b then Some y else find test ys)) (ap test same ∙ passes)
    by_case (inr later) goes = by_test (test y) (goes later)

each_there : (rows : List RxRow) → All (λ row. has_rx rows row.sci row.an ≡ true) rows
each_there rows =
    let found : (row : RxRow) → Contains rows row → has_rx rows row.sci row.an ≡ true =
    λ row there. there_if (is_at row.sci row.an) rows row there (at_own_place row) in
    All-weaker (Contains rows) (λ row. has_rx rows row.sci row.an ≡ true) found rows (All-contains_itself rows)

-- ---- SCs

new_channel : (rows : List RxRow) (sci : Sci) → ((an : ℕ) → has_rx rows sci an ≡ false) → AreOfAssociations rows (new_channel_counters sci)
new_channel rows sci none = record { count = refl; there = λ an. nobody an ∙ sym (none an); sum = refl }
  where
    nobody : (an : ℕ) → is_some (counters_at (new_channel_counters sci).associations an) ≡ false
    nobody zero = refl
    nobody (suc zero) = refl
    nobody (suc (suc zero)) = refl
    nobody (suc (suc (suc zero))) = refl
    nobody (suc (suc (suc (suc an)))) = refl

pub with_another_channel : (scis : List Sci) (rows : List RxRow) (channels : List ChannelCounters) (sci : Sci) → AreRxRows scis rows → has_channel scis sci ≡ false →
    AreOfAll rows channels → AreOfAll rows (channels ++ new_channel_counters sci ∷ [])
with_another_channel scis rows channels sci are none of =
    All-append (AreOfAssociations rows) channels (new_channel_counters sci ∷ []) of
    (All-cons (AreOfAssociations rows) (new_channel_counters sci) [] (new_channel rows sci (λ an. has_rx-no_channel scis rows sci an are none)) (All-nil (AreOfAssociations rows)))

pub without_a_channel : (rows : List RxRow) (channels : List ChannelCounters) (sci : Sci) → AreOfAll rows channels →
    AreOfAll (filter (λ row. not (same_sci row.sci sci)) rows) (filter (λ c. not (same_sci c.sci sci)) channels)
without_a_channel rows [] sci are = All-nil (AreOfAssociations (filter (λ row. not (same_sci row.sci sci)) rows))
without_a_channel rows (c ∷ channels) sci are =
    by_test (same_sci c.sci sci) refl (All-head (AreOfAssociations rows) c channels are) (without_a_channel rows channels sci (All-tail (AreOfAssociations rows) c channels are))
  where
    left : List RxRow
    left = filter (λ row. not (same_sci row.sci sci)) rows

    by_test : (b : Bool) → same_sci c.sci sci ≡ b → AreOfAssociations rows c → AreOfAll left (filter (λ c. not (same_sci c.sci sci)) channels) →
        AreOfAll left (if not b then c ∷ filter (λ c. not (same_sci c.sci sci)) channels else filter (λ c. not (same_sci c.sci sci)) channels)
    by_test true same of later = later
    by_test false other of later =
        All-cons (AreOfAssociations left) c (filter (λ c. not (same_sci c.sci sci)) channels)
        (record {
          count = of.count;
          there = λ an. of.there an ∙ sym (has_rx-left (λ row. not (same_sci row.sci sci)) rows c.sci an (not_of_channel c.sci sci an other));
          sum = of.sum;
        }) later

one_changed : (rows after : List RxRow) (change : ChannelCounters → ChannelCounters) (sci : Sci) →
    ((c : ChannelCounters) → c.sci ≡ sci → AreOfAssociations rows c → AreOfAssociations after (change c)) →
    ((c : ChannelCounters) → same_sci c.sci sci ≡ false → AreOfAssociations rows c → AreOfAssociations after c) → (channels : List ChannelCounters) → AreOfAll rows channels →
    AreOfAll after (map (at_channel change sci) channels)
one_changed rows after change sci here elsewhere channels are =
    All-map (AreOfAssociations after) (at_channel change sci) channels
    (All-weaker (AreOfAssociations rows) (λ c. AreOfAssociations after (at_channel change sci c)) (λ c of. by_test c (same_sci c.sci sci) refl of) channels are)
  where
    by_test : (c : ChannelCounters) (b : Bool) → same_sci c.sci sci ≡ b → AreOfAssociations rows c → AreOfAssociations after (if b then change c else c)
    by_test c true same of = here c (one_sci c.sci sci same) of
    by_test c false other of = elsewhere c other of

-- ---- an SA is created

last_number : (scis : List Sci) (rows : List RxRow) (new : RxRow) → AreRxRows scis (rows ++ new ∷ []) → new.an < 4
last_number scis [] new are = are.0.an
last_number scis (row ∷ rows) new are = last_number scis rows new are.2

none_from : {A : Type 0} (o : Option A) → is_some o ≡ false → o ≡ None
none_from None none = refl
none_from (Some x) none = cc

same_either_way : (s t : Sci) → same_sci s t ≡ false → same_sci t s ≡ false
same_either_way s t other = by_test (same_sci t s) refl
  where
    by_test : (b : Bool) → same_sci t s ≡ b → b ≡ false
    by_test true same =
        let one = one_sci t s same in
        let no = sym (ap (same_sci s) one ∙ ap (λ u. same_sci u s) (sym one) ∙ same) ∙ other in cc
    by_test false apart = refl

pub with_another_association : (scis : List Sci) (rows : List RxRow) (channels : List ChannelCounters) (new : RxRow) →
    AreRxRows scis (rows ++ new ∷ []) → has_rx rows new.sci new.an ≡ false →
    AreOfAll rows channels → AreOfAll (rows ++ new ∷ []) (map (at_channel (with_association new.an) new.sci) channels)
with_another_association scis rows channels new are free of = one_changed rows (rows ++ new ∷ []) (with_association new.an) new.sci here elsewhere channels of
  where
    at_number : (c : ChannelCounters) → c.sci ≡ new.sci → AreOfAssociations rows c → (an : ℕ) (b : Bool) → (an == new.an) ≡ b →
        is_some (counters_at (with_association new.an c).associations an) ≡ has_rx (rows ++ new ∷ []) c.sci an
    at_number c same of an true one =
        let number = eqb-true an new.an one in
        let within : new.an < length c.associations = let four = last_number scis rows new are in omega (arith, four, of.count) in
        let begun : counters_at (with_association new.an c).associations new.an ≡ Some no_rx_counters = get_or-set_same c.associations new.an (Some no_rx_counters) None within in
        let joined : (has_rx rows new.sci new.an || is_at new.sci new.an new) ≡ true = rw (free, at_own_place new) refl in
        ap (λ n. is_some (counters_at (with_association new.an c).associations n)) number ∙ ap is_some begun ∙ sym joined ∙ sym (has_rx-append rows new new.sci new.an) ∙
        ap (λ s. has_rx (rows ++ new ∷ []) s new.an) (sym same) ∙ ap (has_rx (rows ++ new ∷ []) c.sci) (sym number)
    at_number c same of an false other =
        let kept : counters_at (with_association new.an c).associations an ≡ counters_at c.associations an =
        get_or-set_other c.associations new.an an (Some no_rx_counters) None (λ e. let no = sym (eq-eqb an new.an e) ∙ other in cc) in
        ap is_some kept ∙ of.there an ∙ sym (not_joined (has_rx rows c.sci an)) ∙ sym (has_rx-append rows new c.sci an)
      where
        elsewhere_at : is_at c.sci an new ≡ false
        elsewhere_at = by_test (is_at c.sci an new) refl
          where
            by_test : (b : Bool) → is_at c.sci an new ≡ b → b ≡ false
            by_test true at = let no = sym (eq-eqb an new.an (sym (eqb-true new.an an (and_parts (same_sci new.sci c.sci) (new.an == an) at).1))) ∙ other in cc
            by_test false at = refl

        not_joined : (b : Bool) → (b || is_at c.sci an new) ≡ b
        not_joined true = refl
        not_joined false = elsewhere_at

    here : (c : ChannelCounters) → c.sci ≡ new.sci → AreOfAssociations rows c → AreOfAssociations (rows ++ new ∷ []) (with_association new.an c)
    here c same of = record {
      count = length-set c.associations new.an (Some no_rx_counters) ∙ of.count;
      there = λ an. at_number c same of an (an == new.an) refl;
      sum =
          let none = none_from (counters_at c.associations new.an) (of.there new.an ∙ ap (λ s. has_rx rows s new.an) same ∙ free) in
          of.sum ∙ ap (λ s. added s c.removed) (sym (sum_of-begun c.associations new.an none));
    }

    elsewhere : (c : ChannelCounters) → same_sci c.sci new.sci ≡ false → AreOfAssociations rows c → AreOfAssociations (rows ++ new ∷ []) c
    elsewhere c other of = record {
      count = of.count;
      there = λ an.
          let apart : is_at c.sci an new ≡ false = ap (λ b. b && new.an == an) (same_either_way c.sci new.sci other) in
          of.there an ∙ sym (or_nothing (has_rx rows c.sci an)) ∙ ap (λ b. has_rx rows c.sci an || b) (sym apart) ∙ sym (has_rx-append rows new c.sci an);
      sum = of.sum;
    }
      where
        or_nothing : (b : Bool) → (b || false) ≡ b
        or_nothing true = refl
        or_nothing false = refl

-- ---- an SA is deleted

some_from : {A : Type 0} (o : Option A) → is_some o ≡ true → (x : A) × (o ≡ Some x)
some_from None some = cc
some_from (Some x) some = (x, refl)

ended : (associations : List (Option RxCounters)) (an : ℕ) → counters_at (set associations an None) an ≡ None
ended [] an = refl
ended (o ∷ associations) zero = refl
ended (o ∷ associations) (suc an) = ended associations an

pub without_an_association : (rows : List RxRow) (channels : List ChannelCounters) (sci : Sci) (an : ℕ) → has_rx rows sci an ≡ true → AreOfAll rows channels →
    AreOfAll (filter (λ row. not (is_at sci an row)) rows) (map (at_channel (without_association an) sci) channels)
without_an_association rows channels sci an there of = one_changed rows left (without_association an) sci here elsewhere channels of
  where
    left : List RxRow
    left = filter (λ row. not (is_at sci an row)) rows

    at_number : (c : ChannelCounters) → c.sci ≡ sci → AreOfAssociations rows c → (k : ℕ) (b : Bool) → (k == an) ≡ b →
        is_some (counters_at (without_association an c).associations k) ≡ has_rx left c.sci k
    at_number c same of k true one =
        let number = eqb-true k an one in
        ap (λ n. is_some (counters_at (without_association an c).associations n)) number ∙ ap is_some (ended c.associations an) ∙
        sym (has_rx-gone (λ row. not (is_at sci an row)) rows sci an (λ row at. ap not at)) ∙
        ap (λ s. has_rx left s an) (sym same) ∙ ap (has_rx left c.sci) (sym number)
    at_number c same of k false other =
        let kept : counters_at (without_association an c).associations k ≡ counters_at c.associations k =
        get_or-set_other c.associations an k None None (λ e. let no = sym (eq-eqb k an e) ∙ other in cc) in
        let apart : (same_sci c.sci sci && k == an) ≡ false = ap (λ b. same_sci c.sci sci && b) other ∙ and_nothing (same_sci c.sci sci) in
        ap is_some kept ∙ of.there k ∙ sym (has_rx-left (λ row. not (is_at sci an row)) rows c.sci k (not_deleted c.sci sci k an apart))
      where
        and_nothing : (b : Bool) → (b && false) ≡ false
        and_nothing true = refl
        and_nothing false = refl

    here : (c : ChannelCounters) → c.sci ≡ sci → AreOfAssociations rows c → AreOfAssociations left (without_association an c)
    here c same of =
        let one = some_from (counters_at c.associations an) (of.there an ∙ ap (λ s. has_rx rows s an) same ∙ there) in
        record {
          count = length-set c.associations an None ∙ of.count;
          there = λ k. at_number c same of k (k == an) refl;
          sum = of.sum ∙ sum_of-ended c.associations an one.0 c.removed one.1 ∙
              ap (λ o. added (sum_of (set c.associations an None)) (added c.removed (unwrap_or o no_rx_counters))) (sym one.1);
        }

    elsewhere : (c : ChannelCounters) → same_sci c.sci sci ≡ false → AreOfAssociations rows c → AreOfAssociations left c
    elsewhere c other of = record {
      count = of.count;
      there = λ k.
          let apart : (same_sci c.sci sci && k == an) ≡ false = ap (λ b. b && k == an) other in
          of.there k ∙ sym (has_rx-left (λ row. not (is_at sci an row)) rows c.sci k (not_deleted c.sci sci k an apart));
      sum = of.sum;
    }

-- ---- commands that neither create nor delete an SA

pub with_all_narrowed : (rows : List RxRow) (channels : List ChannelCounters) (window : ℕ) → AreOfAll rows channels → AreOfAll (map (row_narrowed window) rows) channels
with_all_narrowed rows channels window of = same_places rows _ (has_rx-map (row_narrowed window) (narrows window) rows) channels of

pub with_one_switched : (rows : List RxRow) (channels : List ChannelCounters) (sci : Sci) (an : ℕ) (on : Bool) → AreOfAll rows channels →
    AreOfAll (with_rx (row_switched on) sci an rows) channels
with_one_switched rows channels sci an on of = same_places rows _ (has_rx-with_rx (row_switched on) (switches on) sci an rows) channels of

pub with_one_raised : (rows : List RxRow) (channels : List ChannelCounters) (sci : Sci) (an pn : ℕ) → AreOfAll rows channels →
    AreOfAll (with_rx (row_raised pn) sci an rows) channels
with_one_raised rows channels sci an pn of = same_places rows _ (has_rx-with_rx (row_raised pn) (raises pn) sci an rows) channels of

-- ---- a link frame

counting_stays : (f : RxCounters → RxCounters) (associations : List (Option RxCounters)) (an k : ℕ) →
    is_some (counters_at (set associations an (option_map f (counters_at associations an))) k) ≡ is_some (counters_at associations k)
counting_stays f [] an k = refl
counting_stays f (o ∷ associations) zero zero = is_some-map f o
counting_stays f (o ∷ associations) zero (suc k) = refl
counting_stays f (o ∷ associations) (suc an) zero = refl
counting_stays f (o ∷ associations) (suc an) (suc k) = counting_stays f associations an k

counted_at : (verdict : Verdict) (rows : List RxRow) (channels : List ChannelCounters) (sci : Sci) (an : ℕ) → has_rx rows sci an ≡ true → AreOfAll rows channels →
    AreOfAll rows (map (at_channel (count_in_channel verdict an) sci) channels)
counted_at verdict rows channels sci an there of = one_changed rows rows (count_in_channel verdict an) sci here (λ c other of. of) channels of
  where
    here : (c : ChannelCounters) → c.sci ≡ sci → AreOfAssociations rows c → AreOfAssociations rows (count_in_channel verdict an c)
    here c same of =
        let one = some_from (counters_at c.associations an) (of.there an ∙ ap (λ s. has_rx rows s an) same ∙ there) in
        record {
          count = length-set c.associations an _ ∙ of.count;
          there = λ k. counting_stays (count_verdict verdict) c.associations an k ∙ of.there k;
          sum = ap (count_verdict verdict) of.sum ∙ sym (added-counted_left verdict (sum_of c.associations) c.removed) ∙
              ap (λ s. added s c.removed) (sym (sum_of-counted verdict c.associations an one.0 one.1));
        }

rows_kept : (window : ℕ) (number : Option ℕ) (row : Option RxRow) (rows : List RxRow) (sci : Sci) (an : ℕ) →
    has_rx (rows_accepting window number row rows) sci an ≡ has_rx rows sci an
rows_kept window None row rows sci an = refl
rows_kept window (Some number) None rows sci an = refl
rows_kept window (Some number) (Some row) rows sci an = has_rx-with_rx (row_accepting window number) (accepts window number) row.sci row.an rows sci an

pub after_receiving : (s : State) (frame : List ℕ) → AreOfAll s.rx.rows s.rx_counters →
    AreOfAll (rows_after s.options.window (judgement_of s frame) s.rx.rows) (rx_packet_counted (judgement_of s frame) s.rx_counters)
after_receiving s frame of =
    same_places s.rx.rows _ (rows_kept s.options.window (accepted_number j) j.row s.rx.rows) (rx_packet_counted j s.rx_counters) (by_parts (is_counted_by_channel j) j.row there)
  where
    j : Judgement
    j = judgement_of s frame

    there : (row : RxRow) → (judgement_of s frame).row ≡ Some row → has_rx s.rx.rows row.sci row.an ≡ true
    there row is =
        let used = judged_row s frame (reading frame) (judgement_of s frame) row (judged_by s frame (reading frame)) is in
        used_holds (λ x. has_rx s.rx.rows x.sci x.an ≡ true) s (reading frame) row (each_there s.rx.rows) used

    by_parts : (b : Bool) (row : Option RxRow) → ((r : RxRow) → row ≡ Some r → has_rx s.rx.rows r.sci r.an ≡ true) →
        AreOfAll s.rx.rows (if b then counted_at_row (judgement_of s frame).verdict row s.rx_counters else s.rx_counters)
    by_parts false row there' = of
    by_parts true None there' = of
    by_parts true (Some row) there' = counted_at (judgement_of s frame).verdict s.rx.rows s.rx_counters row.sci row.an (there' row refl) of
