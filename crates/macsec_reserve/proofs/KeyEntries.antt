-- The entries of keys: what they reserve together, and that there is room for them.
use Rattle.macsec_suite.proofs.KeyLemmas.{at_most_rows}
use Rattle.macsec_reserve.proofs.{
  Prelude.{[], ◌++◌, ◌∙◌, ◌∷◌, ◌≡◌, ◌≤◌, ap, AreKeyRows, arith, Bool, bytes_eq-Decides, drop, entry_of, false},
  Prelude.{for_each_key, HasNames, highest, if◌then◌else◌, InstalledKey, length, length-map, List, map, max},
  Prelude.{max_key_count, named, NamedKey, nothing_yet, raised_by, refl, Reservation, same_octets, sending_name, suc},
  Prelude.{sym, true, zero, ℕ},
  HighestOf.{highest-append, highest_of_one},
}

-- ---- what they reserve

nothing_reserved : (salt : List ℕ) (keys : List InstalledKey) (name : List ℕ) → highest (map (nothing_yet salt) keys) name ≡ 0
nothing_reserved salt [] name = refl
nothing_reserved salt (k ∷ ks) name = by_name (same_octets (sending_name salt k.bytes) name) (nothing_reserved salt ks name)
  where
    by_name : (b : Bool) → highest (map (nothing_yet salt) ks) name ≡ 0 →
        (if b then max 0 (highest (map (nothing_yet salt) ks) name) else highest (map (nothing_yet salt) ks) name) ≡ 0
    by_name true none = omega (arith, none)
    by_name false none = none

pub for_each_key_reserves : (salt : List ℕ) (granted : List Reservation) (keys : List InstalledKey) (name : List ℕ) →
    highest (for_each_key salt granted keys) name ≡ highest granted name
for_each_key_reserves salt granted keys name =
    omega (arith, highest-append granted (map (nothing_yet salt) (drop (length granted) keys)) name, nothing_reserved salt (drop (length granted) keys) name)

one_more : (last later before after r : ℕ) (b : Bool) → last ≤ later → (b ≡ true → later ≤ max last r) → before ≤ after → after ≤ max before r →
    ((if b then max last before else before) ≤ (if b then max later after else after)) × ((if b then max later after else after) ≤ max (if b then max last before else before) r)
one_more last later before after r true grows most less within = let most' = most refl in (omega (arith, grows, less), omega (arith, most', within))
one_more last later before after r false grows most less within = (less, within)

-- a report raises what is reserved under its name, to its number at most
pub raised_reserves : (r : Reservation) (entries : List Reservation) (name : List ℕ) →
    (highest entries name ≤ highest (map (raised_by r) entries) name) × (highest (map (raised_by r) entries) name ≤ max (highest entries name) (highest (r ∷ []) name))
raised_reserves r [] name = (omega arith, omega arith)
raised_reserves r (g ∷ gs) name = by_own (same_octets g.name r.name) refl (raised_reserves r gs name)
  where
    by_own : (own : Bool) → same_octets g.name r.name ≡ own →
        (highest gs name ≤ highest (map (raised_by r) gs) name) × (highest (map (raised_by r) gs) name ≤ max (highest gs name) (highest (r ∷ []) name)) →
        (highest (g ∷ gs) name ≤ highest ((if own then record g { last = max g.last r.last } else g) ∷ map (raised_by r) gs) name)
        × (highest ((if own then record g { last = max g.last r.last } else g) ∷ map (raised_by r) gs) name ≤ max (highest (g ∷ gs) name) (highest (r ∷ []) name))
    by_own true is rest =
        let names : g.name ≡ r.name = (bytes_eq-Decides g.name r.name).0 is in
        one_more g.last (max g.last r.last) (highest gs name) (highest (map (raised_by r) gs) name) (highest (r ∷ []) name) (same_octets g.name name) (omega arith)
        (λ same. let own' : highest (r ∷ []) name ≡ r.last = highest_of_one r name true (ap (λ n. same_octets n name) (sym names) ∙ same) in omega (arith, own')) rest.0 rest.1
    by_own false is rest =
        one_more g.last g.last (highest gs name) (highest (map (raised_by r) gs) name) (highest (r ∷ []) name) (same_octets g.name name) (omega arith) (λ same. omega arith) rest.0 rest.1

-- ---- beside the names

of_named : (salt : List ℕ) (n : ℕ) (keys : List InstalledKey) → map entry_of (drop n (map (named salt) keys)) ≡ map (nothing_yet salt) (drop n keys)
of_named salt zero [] = refl
of_named salt zero (k ∷ ks) = ap (λ entries. nothing_yet salt k ∷ entries) (of_named salt zero ks)
of_named salt (suc n) [] = refl
of_named salt (suc n) (k ∷ ks) = of_named salt n ks

pub entries_of_names : (salt : List ℕ) (granted : List Reservation) (keys : List InstalledKey) (names : List NamedKey) → HasNames salt keys names →
    granted ++ map entry_of (drop (length granted) names) ≡ for_each_key salt granted keys
entries_of_names salt granted keys names are =
    ap (λ ns. granted ++ map entry_of (drop (length granted) ns)) (sym are) ∙ ap (λ entries. granted ++ entries) (of_named salt (length granted) keys)

-- ---- room

pub names_fit : (salt : List ℕ) (keys : List InstalledKey) (names : List NamedKey) (room : ℕ) → AreKeyRows keys → HasNames salt keys names → max_key_count ≤ room → length names ≤ room
names_fit salt keys names room are is within =
    let count : length (map (named salt) keys) ≡ length names = ap length is in
    omega (arith, at_most_rows keys are, count, length-map keys (named salt), within)
