-- No two keys have the same bytes: bytes that are in the table are refused.
use Rattle.std.proofs.{Common.cond, lemmas.Cmp.nat_list_eq_equiv}
use Rattle.macsec_secy.proofs.{
  Names.{[], ◌==◌, ◌∙◌, ◌∷◌, ◌≡◌, ap, AreKeyRows, at_number, Bool, eqb-true, false, first_refusal, if◌then◌else◌},
  Names.{install_refusals, InstalledKey, is_repeated, key_row, keys_after, keys_retiring, keys_with},
  Names.{List, list_any, map, new_row, NewKey, None, NoTwo, Option, or_from, or_parts, refl, retired_row, row_noting},
  Names.{same_bytes, same_octets, Some, subst, Suite, true, TxRow, with_key, ℕ},
  AfterCommands.none_hold,
  KeysKept.field_kept,
  NoTwo.{no_two-map, no_two-with, none-map},
}

pub with_another_key : (suite : Suite) (window : ℕ) (keys : List InstalledKey) (key : NewKey) → first_refusal (install_refusals suite window keys key) ≡ None →
    NoTwo same_bytes keys → NoTwo same_bytes (keys_with suite keys key)
with_another_key suite window keys key e apart =
    let none = none_hold (install_refusals suite window keys key) e in
    no_two-with same_bytes keys (new_row suite key) none.1.1.1.0 apart

-- the key with one number changes, and keeps its bytes
one_changed : (change : InstalledKey → InstalledKey) → ((key : InstalledKey) → (change key).bytes ≡ key.bytes) → (number : ℕ) (keys : List InstalledKey) →
    NoTwo same_bytes keys → NoTwo same_bytes (map (at_number change number) keys)
one_changed change same number keys apart =
    no_two-map (at_number change number) same_bytes same_bytes (λ a b differs. rw (bytes a, bytes b) differs) keys apart
  where
    bytes : (key : InstalledKey) → (at_number change number key).bytes ≡ key.bytes
    bytes key = field_kept (λ (k : InstalledKey). k.bytes) change same (key.number == number) key

pub with_a_key_retired : (keys : List InstalledKey) (number : ℕ) → NoTwo same_bytes keys → NoTwo same_bytes (keys_retiring keys number)
with_a_key_retired keys number apart = one_changed retired_row (λ key. refl) number keys apart

pub after_sending : (keys : List InstalledKey) (by : Option TxRow) → NoTwo same_bytes keys → NoTwo same_bytes (keys_after keys by)
after_sending keys None apart = apart
after_sending keys (Some row) apart = one_changed (row_noting row.next) (λ key. refl) row.key keys apart

-- ---- other bytes

-- a conditional that gives `None`
both_none : (b : Bool) (x : InstalledKey) (r : Option InstalledKey) → cond b (Some x) r ≡ None → (b ≡ false) × (r ≡ None)
both_none true x r h = cc
both_none false x r h = (refl, h)

-- no key has the bytes after a change of a key that is not in the table
none_has : (change : InstalledKey → InstalledKey) (keys : List InstalledKey) (n : ℕ) (bytes : List ℕ) → key_row keys n ≡ None → is_repeated keys bytes ≡ false →
    list_any (λ key. same_octets bytes key.bytes) (with_key change n keys) ≡ false
none_has change [] n bytes free none = refl
none_has change (key ∷ keys) n bytes free none =
    let parts = or_parts (same_octets key.bytes bytes) (is_repeated keys bytes) none in
    let others = both_none (key.number == n) key (key_row keys n) free in
    let differs : same_octets bytes key.bytes ≡ false = nat_list_eq_equiv.symm bytes key.bytes ∙ parts.0 in
    rw others.0 (or_from (same_octets bytes key.bytes) (list_any (λ (k : InstalledKey). same_octets bytes k.bytes) (with_key change n keys)) differs
    (none_has change keys n bytes others.1 parts.1))

-- one key gets bytes that no key has
pub with_a_key_changed : (bytes : List ℕ) (change : InstalledKey → InstalledKey) → ((key : InstalledKey) → (change key).bytes ≡ bytes) → (keys : List InstalledKey) (n : ℕ) → AreKeyRows keys →
    is_repeated keys bytes ≡ false → NoTwo same_bytes keys → NoTwo same_bytes (with_key change n keys)
with_a_key_changed bytes change has [] n are none apart = tt
with_a_key_changed bytes change has (key ∷ keys) n are none apart = (by_test (key.number == n) refl, with_a_key_changed bytes change has keys n are.2 parts.1 apart.1)
  where
    parts : (same_octets key.bytes bytes ≡ false) × (is_repeated keys bytes ≡ false)
    parts = or_parts (same_octets key.bytes bytes) (is_repeated keys bytes) none

    stays : (k : InstalledKey) → same_bytes key k ≡ false → same_bytes key (at_number change n k) ≡ false
    stays k differs = by_number (k.number == n)
      where
        by_number : (b : Bool) → same_bytes key (if b then change k else k) ≡ false
        by_number true = ap (same_octets key.bytes) (has k) ∙ parts.0
        by_number false = differs

    by_test : (b : Bool) → (key.number == n) ≡ b → list_any (same_bytes (if b then change key else key)) (with_key change n keys) ≡ false
    by_test true is =
        ap (λ (octets : List ℕ). list_any (λ (k : InstalledKey). same_octets octets k.bytes) (with_key change n keys)) (has key)
        ∙ none_has change keys n bytes (subst (λ m. key_row keys m ≡ None) (eqb-true key.number n is) are.1) parts.1
    by_test false is = none-map (at_number change n) (same_bytes key) (same_bytes key) stays keys apart.0
