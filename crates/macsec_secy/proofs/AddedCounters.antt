-- Sums of each counter over an SC's SAs, when an SA counts a frame, is created or is deleted.
use Rattle.macsec_secy.{
  proofs.Names.{[], ◌%◌, ◌+◌, ◌<◌, ◌^◌, ◌∙◌, ◌∷◌, ◌≡◌, add-mod-mod, added, ap, AreRxCounters, arith, BadTag},
  proofs.Names.{count_verdict, counters_at, Delayed, Invalid, Late, List, mod-add-mod, no_rx_counters, None, NoSa},
  proofs.Names.{NoSaError, NoTag, NotValid, Option, option_map, Passed, plus, refl, Reserved, RxCounters, set, Some},
  proofs.Names.{suc, sum_of, sym, Unchecked, Untagged, Verdict, zero, ℕ},
  specs.Counting.count_in_association,
}

-- ---- one counter

in_three : (x y z : ℕ) → plus (plus x y) z ≡ (x + y + z) % 2 ^ 64
in_three x y z = mod-add-mod (x + y) (2 ^ 64) z

to_three : (x y z : ℕ) → plus x (plus y z) ≡ (x + y + z) % 2 ^ 64
to_three x y z = let same : x + (y + z) ≡ x + y + z = omega arith in add-mod-mod x (y + z) (2 ^ 64) ∙ ap (λ n. n % 2 ^ 64) same

raised_left : (x y : ℕ) → plus (plus x 1) y ≡ plus (plus x y) 1
raised_left x y = let same : x + 1 + y ≡ x + y + 1 = omega arith in in_three x 1 y ∙ ap (λ n. n % 2 ^ 64) same ∙ sym (in_three x y 1)

raised_right : (x y : ℕ) → plus x (plus y 1) ≡ plus (plus x y) 1
raised_right x y = to_three x y 1 ∙ sym (in_three x y 1)

swapped : (x y z : ℕ) → plus x (plus y z) ≡ plus y (plus x z)
swapped x y z = let same : x + y + z ≡ y + x + z = omega arith in to_three x y z ∙ ap (λ n. n % 2 ^ 64) same ∙ sym (to_three y x z)

turned : (x y z : ℕ) → plus x (plus y z) ≡ plus (plus z x) y
turned x y z = let same : x + y + z ≡ z + x + y = omega arith in to_three x y z ∙ ap (λ n. n % 2 ^ 64) same ∙ sym (in_three z x y)

nothing : (x : ℕ) → x < 2 ^ 64 → plus 0 x ≡ x
nothing x within = omega arith

-- ---- all counters

pub same_counters : (a b : RxCounters) → a.in_pkts_ok ≡ b.in_pkts_ok → a.in_pkts_unchecked ≡ b.in_pkts_unchecked → a.in_pkts_delayed ≡ b.in_pkts_delayed →
    a.in_pkts_late ≡ b.in_pkts_late → a.in_pkts_invalid ≡ b.in_pkts_invalid → a.in_pkts_not_valid ≡ b.in_pkts_not_valid → a ≡ b
same_counters a b ok unchecked delayed late invalid not_valid =
    ap {B = RxCounters} (λ n. record a { in_pkts_ok = n }) ok ∙
    ap {B = RxCounters} (λ n. record a { in_pkts_ok = b.in_pkts_ok; in_pkts_unchecked = n }) unchecked ∙
    ap {B = RxCounters} (λ n. record a { in_pkts_ok = b.in_pkts_ok; in_pkts_unchecked = b.in_pkts_unchecked; in_pkts_delayed = n }) delayed ∙
    ap {B = RxCounters} (λ n. record b { in_pkts_late = n; in_pkts_invalid = a.in_pkts_invalid; in_pkts_not_valid = a.in_pkts_not_valid }) late ∙
    ap {B = RxCounters} (λ n. record b { in_pkts_invalid = n; in_pkts_not_valid = a.in_pkts_not_valid }) invalid ∙
    ap {B = RxCounters} (λ n. record b { in_pkts_not_valid = n }) not_valid

pub added_swapped : (a b c : RxCounters) → added a (added b c) ≡ added b (added a c)
added_swapped a b c =
    same_counters (added a (added b c)) (added b (added a c)) (swapped _ _ _) (swapped _ _ _) (swapped _ _ _) (swapped _ _ _) (swapped _ _ _) (swapped _ _ _)

pub added_turned : (a b c : RxCounters) → added a (added b c) ≡ added (added c a) b
added_turned a b c =
    same_counters (added a (added b c)) (added (added c a) b) (turned _ _ _) (turned _ _ _) (turned _ _ _) (turned _ _ _) (turned _ _ _) (turned _ _ _)

pub added_nothing : (c : RxCounters) → AreRxCounters c → added no_rx_counters c ≡ c
added_nothing c are =
    same_counters (added no_rx_counters c) c (nothing _ are.in_pkts_ok) (nothing _ are.in_pkts_unchecked) (nothing _ are.in_pkts_delayed) (nothing _ are.in_pkts_late)
    (nothing _ are.in_pkts_invalid) (nothing _ are.in_pkts_not_valid)

pub added-counted_left : (verdict : Verdict) (a b : RxCounters) → added (count_verdict verdict a) b ≡ count_verdict verdict (added a b)
added-counted_left Passed a b = ap {B = RxCounters} (λ n. record (added a b) { in_pkts_ok = n }) (raised_left _ _)
added-counted_left Unchecked a b = ap {B = RxCounters} (λ n. record (added a b) { in_pkts_unchecked = n }) (raised_left _ _)
added-counted_left Delayed a b = ap {B = RxCounters} (λ n. record (added a b) { in_pkts_delayed = n }) (raised_left _ _)
added-counted_left Late a b = ap {B = RxCounters} (λ n. record (added a b) { in_pkts_late = n }) (raised_left _ _)
added-counted_left Invalid a b = ap {B = RxCounters} (λ n. record (added a b) { in_pkts_invalid = n }) (raised_left _ _)
added-counted_left NotValid a b = ap {B = RxCounters} (λ n. record (added a b) { in_pkts_not_valid = n }) (raised_left _ _)
added-counted_left Untagged a b = refl
added-counted_left NoTag a b = refl
added-counted_left BadTag a b = refl
added-counted_left Reserved a b = refl
added-counted_left NoSa a b = refl
added-counted_left NoSaError a b = refl

pub added-counted_right : (verdict : Verdict) (a b : RxCounters) → added a (count_verdict verdict b) ≡ count_verdict verdict (added a b)
added-counted_right Passed a b = ap {B = RxCounters} (λ n. record (added a b) { in_pkts_ok = n }) (raised_right _ _)
added-counted_right Unchecked a b = ap {B = RxCounters} (λ n. record (added a b) { in_pkts_unchecked = n }) (raised_right _ _)
added-counted_right Delayed a b = ap {B = RxCounters} (λ n. record (added a b) { in_pkts_delayed = n }) (raised_right _ _)
added-counted_right Late a b = ap {B = RxCounters} (λ n. record (added a b) { in_pkts_late = n }) (raised_right _ _)
added-counted_right Invalid a b = ap {B = RxCounters} (λ n. record (added a b) { in_pkts_invalid = n }) (raised_right _ _)
added-counted_right NotValid a b = ap {B = RxCounters} (λ n. record (added a b) { in_pkts_not_valid = n }) (raised_right _ _)
added-counted_right Untagged a b = refl
added-counted_right NoTag a b = refl
added-counted_right BadTag a b = refl
added-counted_right Reserved a b = refl
added-counted_right NoSa a b = refl
added-counted_right NoSaError a b = refl

-- ---- SAs

wraps : (counter n : ℕ) → plus counter n < 2 ^ 64
wraps counter n = omega arith

sum_is_counters : (associations : List (Option RxCounters)) → AreRxCounters (sum_of associations)
sum_is_counters [] =
    let least : 0 < 2 ^ 64 = omega arith in
    record { in_pkts_ok = least; in_pkts_unchecked = least; in_pkts_delayed = least; in_pkts_late = least; in_pkts_invalid = least; in_pkts_not_valid = least }
sum_is_counters (None ∷ associations) = sum_is_counters associations
sum_is_counters (Some c ∷ associations) =
    let rest = sum_of associations in
    record {
      in_pkts_ok = wraps c.in_pkts_ok rest.in_pkts_ok;
      in_pkts_unchecked = wraps c.in_pkts_unchecked rest.in_pkts_unchecked;
      in_pkts_delayed = wraps c.in_pkts_delayed rest.in_pkts_delayed;
      in_pkts_late = wraps c.in_pkts_late rest.in_pkts_late;
      in_pkts_invalid = wraps c.in_pkts_invalid rest.in_pkts_invalid;
      in_pkts_not_valid = wraps c.in_pkts_not_valid rest.in_pkts_not_valid;
    }

-- an SA counts a verdict
sum_of-raised : (verdict : Verdict) (associations : List (Option RxCounters)) (an : ℕ) (c : RxCounters) → counters_at associations an ≡ Some c →
    sum_of (set associations an (Some (count_verdict verdict c))) ≡ count_verdict verdict (sum_of associations)
sum_of-raised verdict [] an c there = cc
sum_of-raised verdict (o ∷ associations) zero c there =
    added-counted_left verdict c (sum_of associations) ∙ ap (λ o. count_verdict verdict (sum_of (o ∷ associations))) (sym there)
sum_of-raised verdict (None ∷ associations) (suc an) c there = sum_of-raised verdict associations an c there
sum_of-raised verdict (Some x ∷ associations) (suc an) c there =
    ap (added x) (sum_of-raised verdict associations an c there) ∙ added-counted_right verdict x (sum_of associations)

pub sum_of-counted : (verdict : Verdict) (associations : List (Option RxCounters)) (an : ℕ) (c : RxCounters) → counters_at associations an ≡ Some c →
    sum_of (count_in_association verdict an associations) ≡ count_verdict verdict (sum_of associations)
sum_of-counted verdict associations an c there =
    ap (λ o. sum_of (set associations an (option_map (count_verdict verdict) o))) there ∙ sum_of-raised verdict associations an c there

-- an SA is created
pub sum_of-begun : (associations : List (Option RxCounters)) (an : ℕ) → counters_at associations an ≡ None →
    sum_of (set associations an (Some no_rx_counters)) ≡ sum_of associations
sum_of-begun [] an none = refl
sum_of-begun (o ∷ associations) zero none = added_nothing (sum_of associations) (sum_is_counters associations) ∙ ap (λ o. sum_of (o ∷ associations)) (sym none)
sum_of-begun (None ∷ associations) (suc an) none = sum_of-begun associations an none
sum_of-begun (Some x ∷ associations) (suc an) none = ap (added x) (sum_of-begun associations an none)

-- an SA is deleted: the sum of the others, and its own counters
sum_of-without : (associations : List (Option RxCounters)) (an : ℕ) (c : RxCounters) → counters_at associations an ≡ Some c →
    added c (sum_of (set associations an None)) ≡ sum_of associations
sum_of-without [] an c there = cc
sum_of-without (o ∷ associations) zero c there = ap (λ o. sum_of (o ∷ associations)) (sym there)
sum_of-without (None ∷ associations) (suc an) c there = sum_of-without associations an c there
sum_of-without (Some x ∷ associations) (suc an) c there = added_swapped c x (sum_of (set associations an None)) ∙ ap (added x) (sum_of-without associations an c there)

pub sum_of-ended : (associations : List (Option RxCounters)) (an : ℕ) (c removed : RxCounters) → counters_at associations an ≡ Some c →
    added (sum_of associations) removed ≡ added (sum_of (set associations an None)) (added removed c)
sum_of-ended associations an c removed there =
    ap (λ s. added s removed) (sym (sum_of-without associations an c there)) ∙ sym (added_turned (sum_of (set associations an None)) removed c)
