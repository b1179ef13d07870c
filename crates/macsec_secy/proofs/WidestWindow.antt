-- The widest replay window that the keys allow, when keys are installed and changed.
use Rattle.macsec_suite.specs.Renewing.{keys_renewing, renewed_row}
use Rattle.macsec_secy.proofs.Names.{[], ◌&&◌, ◌++◌, ◌==◌, ◌||◌, ◌∙◌, ◌∷◌, ◌≡◌, ◌≤◌, ap, arith, at_number, Bool, false}
use Rattle.macsec_secy.proofs.Names.{if◌then◌else◌, InstalledKey, is_extended, is_too_wide, is_xpn, keys_noting}
use Rattle.macsec_secy.proofs.Names.{keys_replacing, keys_retiring, keys_with, List, list_any, ltb-false, map, nat_lt}
use Rattle.macsec_secy.proofs.Names.{new_row, NewKey, refl, retired_row, row_noting, subst, Suite, sym, true}
use Rattle.macsec_secy.proofs.Names.{widest_beside, widest_extended_window, widest_short_window, with_bytes, ℕ}

-- the widest window, by whether packet numbers are extended under one of the keys
abbrev widest_if : Bool → ℕ
widest_if extended = if extended then widest_extended_window else widest_short_window

-- ---- one more key

list_any-push : (keys : List InstalledKey) (new : InstalledKey) → list_any is_extended (keys ++ new ∷ []) ≡ (list_any is_extended keys || is_extended new)
list_any-push [] new = at_end (is_extended new)
  where
    at_end : (b : Bool) → (b || false) ≡ b
    at_end true = refl
    at_end false = refl
list_any-push (key ∷ keys) new = at_front (is_extended key) (list_any-push keys new)
  where
    at_front : (b : Bool) → list_any is_extended (keys ++ new ∷ []) ≡ (list_any is_extended keys || is_extended new) →
        (b || list_any is_extended (keys ++ new ∷ [])) ≡ ((b || list_any is_extended keys) || is_extended new)
    at_front true same = refl
    at_front false same = same

pub with_one_more : (suite : Suite) (keys : List InstalledKey) (key : NewKey) (window : ℕ) → is_too_wide suite window ≡ false → window ≤ widest_beside keys →
    window ≤ widest_beside (keys_with suite keys key)
with_one_more suite keys key window fits within =
    subst (λ b. window ≤ widest_if b) (sym (list_any-push keys (new_row suite key))) (by_tests (list_any is_extended keys) (is_xpn suite) within fits)
  where
    by_tests : (before extended : Bool) → window ≤ widest_if before → (extended && nat_lt widest_extended_window window) ≡ false → window ≤ widest_if (before || (extended && true))
    by_tests true extended within' fits' = within'
    by_tests false true within' fits' = ltb-false widest_extended_window window fits'
    by_tests false false within' fits' = within'

-- ---- a key changes

-- if packet numbers are extended under the changed key, they were before
abbrev ExtendsNone : (InstalledKey → InstalledKey) → Type 0
ExtendsNone change = (key : InstalledKey) → is_extended (change key) ≡ true → is_extended key ≡ true

extended_before : (change : InstalledKey → InstalledKey) → ExtendsNone change → (keys : List InstalledKey) →
    list_any is_extended (map change keys) ≡ true → list_any is_extended keys ≡ true
extended_before change none [] is = is
extended_before change none (key ∷ keys) is = by_tests (is_extended (change key)) (is_extended key) (none key) (extended_before change none keys) is
  where
    by_tests : (after before : Bool) → (after ≡ true → before ≡ true) → (list_any is_extended (map change keys) ≡ true → list_any is_extended keys ≡ true) →
        (after || list_any is_extended (map change keys)) ≡ true → (before || list_any is_extended keys) ≡ true
    by_tests after true h rest is' = refl
    by_tests true false h rest is' = let no = h refl in cc
    by_tests false false h rest is' = rest is'

changed : (change : InstalledKey → InstalledKey) → ExtendsNone change → (keys : List InstalledKey) → widest_beside keys ≤ widest_beside (map change keys)
changed change none keys = by_tests (list_any is_extended keys) (list_any is_extended (map change keys)) (extended_before change none keys)
  where
    by_tests : (before after : Bool) → (after ≡ true → before ≡ true) → widest_if before ≤ widest_if after
    by_tests true true h = omega arith
    by_tests true false h = omega arith
    by_tests false true h = let no = h refl in cc
    by_tests false false h = omega arith

at_one : (change : InstalledKey → InstalledKey) → ExtendsNone change → (number : ℕ) → ExtendsNone (at_number change number)
at_one change none number key = by_test (key.number == number)
  where
    by_test : (b : Bool) → is_extended (if b then change key else key) ≡ true → is_extended key ≡ true
    by_test true is = none key is
    by_test false is = is

retiring : ExtendsNone retired_row
retiring key is = by_test (is_xpn key.suite) is
  where
    by_test : (b : Bool) → (b && false) ≡ true → is_extended key ≡ true
    by_test true is' = cc
    by_test false is' = cc

pub with_one_retired : (keys : List InstalledKey) (number window : ℕ) → window ≤ widest_beside keys → window ≤ widest_beside (keys_retiring keys number)
with_one_retired keys number window within = omega (arith, within, changed (at_number retired_row number) (at_one retired_row retiring number) keys)

pub with_one_noting : (keys : List InstalledKey) (number pn window : ℕ) → window ≤ widest_beside keys → window ≤ widest_beside (keys_noting keys number pn)
with_one_noting keys number pn window within =
    omega (arith, within, changed (at_number (row_noting pn) number) (at_one (row_noting pn) (λ key is. is) number) keys)

pub with_one_replaced : (keys : List InstalledKey) (number : ℕ) (bytes : List ℕ) (window : ℕ) → window ≤ widest_beside keys → window ≤ widest_beside (keys_replacing keys number bytes)
with_one_replaced keys number bytes window within =
    omega (arith, within, changed (at_number (with_bytes bytes) number) (at_one (with_bytes bytes) (λ key is. is) number) keys)

-- a window that is within the new key's limit is within that of all keys
pub with_one_renewed : (suite : Suite) (keys : List InstalledKey) (key : NewKey) (window : ℕ) → is_too_wide suite window ≡ false → window ≤ widest_beside keys →
    window ≤ widest_beside (keys_renewing suite keys key)
with_one_renewed suite keys key window fits within = by_suite (is_xpn suite) refl fits
  where
    least : (b : Bool) → window ≤ widest_extended_window → window ≤ widest_if b
    least true narrow = narrow
    least false narrow = omega (arith, narrow)

    by_suite : (b : Bool) → is_xpn suite ≡ b → (b && nat_lt widest_extended_window window) ≡ false → window ≤ widest_beside (keys_renewing suite keys key)
    by_suite true is fits' = least (list_any is_extended (keys_renewing suite keys key)) (ltb-false widest_extended_window window fits')
    by_suite false is fits' =
        let none : ExtendsNone (renewed_row suite key) = λ row extended. let no : false && true ≡ true = ap (λ b. b && true) (sym is) ∙ extended in cc in
        omega (arith, within, changed (at_number (renewed_row suite key) key.number) (at_one (renewed_row suite key) none key.number) keys)
