-- What was opened with the key of its number was opened with the key that was found.
use Rattle.{
  std.proofs.Common.{◌≡◌, ℕ, Bool, true, false, List, [], ◌∷◌, refl, ap, sym, subst, ◌∙◌, ◌==◌, if◌then◌else◌, Option},
  std.proofs.Common.{Some, None, eqb-true},
  macsec_tag.specs.Frame.MpduParts,
  macsec_suite.specs.{
    KeyRows.{InstalledKey, key_row},
    KeyTables.{HasOwnKey, row_shown},
    declared.key_row.KeyRow.KeyRow,
  },
  macsec_rx.specs.{Opened.{IfOpened, IfOpenedUnder, IsOpenedBy}, declared.OpenedFrame.OpenedFrame},
}

-- a key found by a number has that number
key_number : (keys : List InstalledKey) (n : ℕ) (key : InstalledKey) → key_row keys n ≡ Some key → key.number ≡ n
key_number [] n key found = absurd (let none : None ≡ Some key = found in cc)
key_number (row ∷ keys) n key found = by_test (row.number == n) refl found (key_number keys n key)
  where
    by_test : (b : Bool) → (row.number == n) ≡ b → (if b then Some row else key_row keys n) ≡ Some key → (key_row keys n ≡ Some key → key.number ≡ n) → key.number ≡ n
    by_test true same here later = let it : row ≡ key = cc in ap (λ (k : InstalledKey). k.number) (sym it) ∙ eqb-true row.number n same
    by_test false differs there later = later there

pub opened_with_found : (opened : Option OpenedFrame) (keys : List InstalledKey) (n : ℕ) (key : KeyRow) (first_unused : ℕ) (p : MpduParts) (out : List ℕ)
    → key_row keys n ≡ Some (row_shown key first_unused) → HasOwnKey key → IfOpened opened keys p out → IfOpenedUnder opened key p out
opened_with_found None keys n key first_unused p out there own before = tt
opened_with_found (Some o) keys n key first_unused p out there own before = λ same.
    let number : key.key.number ≡ n = key_number keys n (row_shown key first_unused) there in
    let found : key_row keys o.key ≡ Some (row_shown key first_unused) = ap (key_row keys) (same ∙ number) ∙ there in
    subst (λ k. IsOpenedBy o k p out) (sym own.0) (before (row_shown key first_unused) found)
