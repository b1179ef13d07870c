-- Keys that compare as the same are the same when they are prepared.
use Rattle.{
  std.proofs.Common.{◌≡◌, ℕ, List, Bool, true, false, [], ◌∷◌, refl, ap, sym, subst, ◌∙◌, ◌&&◌, ◌==◌, if◌then◌else◌},
  std.proofs.Common.{Some, eqb-true},
  std.specs.Cmp.Lexicographic.same_text,
  macsec_gcm.specs.Octets.same_octets,
  macsec_suite.specs.{
    KeyRows.{InstalledKey, key_row},
    Keys.PreparedKey,
    Suites.number_of_suite,
    declared.suite.Suite.{Suite, TheVariants.{Gcm128, Gcm256, Xpn128, Xpn256}},
  },
  macsec_jobs.specs.{
    PlannedKeys.{key_of, same_key, same_prepared},
    declared.planned_key.PlannedKey.PlannedKey,
  },
}

both : (a b : Bool) → a && b ≡ true → (a ≡ true) × (b ≡ true)
both true b h = (refl, h)
both false b h = cc

one_suite : (a b : Suite) → (number_of_suite a == number_of_suite b) ≡ true → a ≡ b
one_suite Gcm128 Gcm128 h = refl
one_suite Gcm128 Gcm256 h = cc
one_suite Gcm128 Xpn128 h = cc
one_suite Gcm128 Xpn256 h = cc
one_suite Gcm256 Gcm128 h = cc
one_suite Gcm256 Gcm256 h = refl
one_suite Gcm256 Xpn128 h = cc
one_suite Gcm256 Xpn256 h = cc
one_suite Xpn128 Gcm128 h = cc
one_suite Xpn128 Gcm256 h = cc
one_suite Xpn128 Xpn128 h = refl
one_suite Xpn128 Xpn256 h = cc
one_suite Xpn256 Gcm128 h = cc
one_suite Xpn256 Gcm256 h = cc
one_suite Xpn256 Xpn128 h = cc
one_suite Xpn256 Xpn256 h = refl

pub one_prepared : (a b : PreparedKey) → same_prepared a b ≡ true → a ≡ b
one_prepared a b h =
    let parts = both (number_of_suite a.suite == number_of_suite b.suite) (a.offset == b.offset && same_octets a.bytes b.bytes) h in
    let rest = both (a.offset == b.offset) (same_octets a.bytes b.bytes) parts.1 in
    ap (λ (s : Suite). record { suite = s; bytes = a.bytes; offset = a.offset }) (one_suite a.suite b.suite parts.0)
    ∙ ap (λ (n : ℕ). record { suite = b.suite; bytes = a.bytes; offset = n }) (eqb-true a.offset b.offset rest.0)
    ∙ ap (λ (xs : List ℕ). record { suite = b.suite; bytes = xs; offset = b.offset }) (same_text a.bytes b.bytes (sym rest.1))

pub one_key : (a b : PlannedKey) → same_key a b ≡ true → key_of a ≡ key_of b
one_key a b h = one_prepared (key_of a) (key_of b) (both (a.number == b.number) (same_prepared (key_of a) (key_of b)) h).1

-- the row that is found has the number
pub found_number : (keys : List InstalledKey) (n : ℕ) (row : InstalledKey) → key_row keys n ≡ Some row → row.number ≡ n
found_number [] n row e = cc
found_number (key ∷ keys) n row e = by_test (key.number == n) refl (λ found. found_number keys n row found) e
  where
    by_test : (b : Bool) → (key.number == n) ≡ b → (key_row keys n ≡ Some row → row.number ≡ n) → (if b then Some key else key_row keys n) ≡ Some row → row.number ≡ n
    by_test true is later found = let it : key ≡ row = cc in subst (λ (r : InstalledKey). r.number ≡ n) it (eqb-true key.number n is)
    by_test false is later found = later found
