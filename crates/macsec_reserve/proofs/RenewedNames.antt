-- The keys, the names and the entries after a new key takes a number.
use Rattle.std.proofs.Common.{set}
use Rattle.macsec_secy.proofs.KeyRenewed.{takes_no_key_in_use}
use Rattle.macsec_secy.specs.Renewing.{renewal_refusal, renewing, state_after_renewing, unless_not_renewed}
use Rattle.macsec_suite.specs.{KeyRows.keys_with, Renewing.{keys_added, keys_renewing, renewed_row}}
use Rattle.macsec_reserve.{
  proofs.{
    Prelude.{[], ◌&&◌, ◌+◌, ◌++◌, ◌==◌, ◌∙◌, ◌∷◌, ◌≡◌, ◌⊎◌, ap, Bool, false, HasNames, if◌then◌else◌, inl, inr},
    Prelude.{InstalledKey, is_number_used, is_some, IsGivenUp, Keeping, key_bytes, key_name, key_row, List, map},
    Prelude.{map-append, name_row, named, NamedKey, new_row, NewKey, None, not, Option, option_map, refl, Refusal},
    Prelude.{renamed, Reservation, sending_name, Some, State, Suite, suite_of, sym, true, uses, ℕ},
    ForgettingCalls.names_changed,
    KeptNames.{found_name, row_in_map},
  },
  specs.Names.{name_or_none, place_named},
  specs.Renewing.{entries_renewed, keeping_after_renewing, keeping_renewed, names_renewed, place_of, unless_refused},
}

-- ---- the keys after a renewal that is not refused

pub renewed_state : (s : State) (key : NewKey) → None ≡ renewal_refusal s key →
    state_after_renewing key s ≡ renewing key s
renewed_state s key e = ap (λ (r : Option Refusal). unless_not_renewed r key s) (sym e)

pub used_keys : (s : State) (key : NewKey) → None ≡ renewal_refusal s key → is_number_used s.keys key.number ≡ true →
    (renewing key s).keys ≡ keys_renewing (suite_of s.config.suite key) s.keys key
used_keys s key e used = by_law (takes_no_key_in_use s key (sym e))
  where
    suite : Suite
    suite = suite_of s.config.suite key

    by_law : (is_number_used s.keys key.number ≡ false) ⊎ IsGivenUp s key.number →
        (renewing key s).keys ≡ keys_renewing suite s.keys key
    by_law (inl free) = absurd (let no : true ≡ false = sym used ∙ free in cc)
    by_law (inr given) =
        ap (λ (b : Bool). keys_added (not b) suite s.keys key) given.unused
        ∙ ap (λ (b : Bool). if b then keys_renewing suite s.keys key else keys_with suite s.keys key) used

pub free_keys : (s : State) (key : NewKey) → is_number_used s.keys key.number ≡ false →
    (renewing key s).keys ≡ keys_with (suite_of s.config.suite key) s.keys key
free_keys s key free =
    ap (λ (b : Bool). if not (uses s key.number) && b then keys_renewing suite s.keys key
    else keys_with suite s.keys key) free ∙ by_use (not (uses s key.number))
  where
    suite : Suite
    suite = suite_of s.config.suite key

    by_use : (b : Bool) →
        (if b && false then keys_renewing suite s.keys key else keys_with suite s.keys key) ≡ keys_with suite s.keys key
    by_use true = refl
    by_use false = refl

-- ---- whether a key has the number, by the names

pub used_by_name : (salt : List ℕ) (keys : List InstalledKey) (names : List NamedKey) (n : ℕ) (o : Option NamedKey) →
    HasNames salt keys names → o ≡ name_row names n →
    is_number_used keys n ≡ is_some o
used_by_name salt keys names n o are is =
    by_row (key_row keys n) ∙ ap (λ (r : Option NamedKey). is_some r)
    (sym (row_in_map salt keys n) ∙ ap (λ (ns : List NamedKey). name_row ns n) are ∙ sym is)
  where
    by_row : (r : Option InstalledKey) → is_some r ≡ is_some (option_map (named salt) r)
    by_row None = refl
    by_row (Some row) = refl

pub its_name : (salt : List ℕ) (keys : List InstalledKey) (names : List NamedKey) (n : ℕ) (gone : NamedKey) →
    HasNames salt keys names → Some gone ≡ name_row names n →
    gone.name ≡ key_name salt keys n
its_name salt keys names n gone are is = ap (λ (o : Option NamedKey). name_or_none salt o) is
    ∙ found_name salt keys names n are

pub same_place : (salt : List ℕ) (keys : List InstalledKey) (names : List NamedKey) (n : ℕ) → HasNames salt keys names →
    place_named names n ≡ place_of keys n
same_place salt keys names n are = ap (λ (ns : List NamedKey). place_named ns n) (sym are) ∙ by_rows keys
  where
    by_rows : (rows : List InstalledKey) → place_named (map (named salt) rows) n ≡ place_of rows n
    by_rows [] = refl
    by_rows (row ∷ rows) = ap (λ place. if row.number == n then 0 else place + 1) (by_rows rows)

pub names_if_used : (salt : List ℕ) (s : State) (key : NewKey) (names : List NamedKey) → None ≡ renewal_refusal s key →
    is_number_used s.keys key.number ≡ true →
    HasNames salt s.keys names →
    HasNames salt (renewing key s).keys (map (renamed key.number (sending_name salt (key_bytes key.bytes))) names)
names_if_used salt s key names e used are =
    ap (λ (keys : List InstalledKey). map (named salt) keys) (used_keys s key e used)
    ∙ names_changed salt key.number (key_bytes key.bytes) (renewed_row (suite_of s.config.suite key) key) (λ row. refl)
    s.keys names are

pub names_if_free : (salt : List ℕ) (s : State) (key : NewKey) (names : List NamedKey) →
    is_number_used s.keys key.number ≡ false →
    HasNames salt s.keys names →
    HasNames salt (renewing key s).keys
    (names ++ record { number = key.number; name = sending_name salt (key_bytes key.bytes) } ∷ [])
names_if_free salt s key names free are =
    let new = new_row (suite_of s.config.suite key) key in
    ap (λ (keys : List InstalledKey). map (named salt) keys) (free_keys s key free)
    ∙ map-append (named salt) s.keys (new ∷ [])
    ∙ ap (λ (ns : List NamedKey). ns ++ named salt new ∷ []) are

-- ---- what the call leaves

pub left_if_renewed : (k : Keeping) (key : NewKey) (names : List (List ℕ)) (entries : List Reservation) →
    None ≡ renewal_refusal k.secy key →
    names ≡ names_renewed k.salt key k.secy.keys k.given_up →
    entries ≡ entries_renewed k.salt key k.secy.keys k.granted →
    record k { secy = renewing key k.secy; granted = entries; given_up = names } ≡ keeping_after_renewing key k
left_if_renewed k key names entries e is_names is =
    ap (λ (all : List (List ℕ)). record k { secy = renewing key k.secy; granted = entries; given_up = all }) is_names
    ∙ ap (λ (rs : List Reservation). record (keeping_renewed key k) { granted = rs }) is
    ∙ ap (λ (r : Option Refusal). unless_refused r key k) e

pub given_up_if : (salt : List ℕ) (key : NewKey) (keys : List InstalledKey) (names : List (List ℕ)) (used : Bool) →
    is_number_used keys key.number ≡ used →
    (if used then names ++ key_name salt keys key.number ∷ [] else names) ≡ names_renewed salt key keys names
given_up_if salt key keys names used is =
    sym (ap (λ (b : Bool). if b then names ++ key_name salt keys key.number ∷ [] else names) is)

pub entries_if : (salt : List ℕ) (key : NewKey) (keys : List InstalledKey) (granted : List Reservation) (used : Bool) →
    is_number_used keys key.number ≡ used →
    (if used then set granted (place_of keys key.number)
    (record { name = sending_name salt (key_bytes key.bytes); last = 0 }) else granted)
    ≡ entries_renewed salt key keys granted
entries_if salt key keys granted used is =
    sym (ap (λ (b : Bool). if b then set granted (place_of keys key.number)
    (record { name = sending_name salt (key_bytes key.bytes); last = 0 }) else granted) is)
