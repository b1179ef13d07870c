-- Of some uses of the cipher, those under a key's bytes.
use Rattle.{
  std.proofs.{
    Common.{◌≡◌, ◌≢◌, ℕ, zero, suc, ◌<◌, List, [], ◌∷◌, length, get_or, filter, Bool, true, false, cond, All, Contains},
    Common.{refl, sym, ap, ◌∙◌, arith, eq-eqb},
    lemmas.Bool.false_from_ne_true,
    lemmas.List.Elements.{All-contains, All-contains_itself, All-filter, All-weaker, filter_passes},
  },
  std.specs.Cmp.Lexicographic.same_text,
  macsec_gcm.specs.Octets.same_octets,
  macsec_suite.specs.CipherUses.CipherUse,
  macsec_hash_keys.specs.Forgeries.{UnderHasAll, under},
}

pub same_octets-refl : (xs : List ℕ) → same_octets xs xs ≡ true
same_octets-refl [] = refl
same_octets-refl (x ∷ xs) = rw (eq-eqb x x refl, same_octets-refl xs) refl

pub other_octets : (xs ys : List ℕ) → xs ≢ ys → same_octets xs ys ≡ false
other_octets xs ys apart = false_from_ne_true _ (λ e. apart (same_text xs ys (sym e)))

pub under_key : (key : List ℕ) (uses : List CipherUse) → All (λ u. u.key ≡ key) (under key uses)
under_key key uses =
    All-weaker (λ u. same_octets u.key key ≡ true) (λ u. u.key ≡ key) (λ u e. same_text u.key key (sym e)) _
    (filter_passes (λ u. same_octets u.key key) uses)

-- ---- all of them

pub contained_still : {X : Type 0} (p : X → Bool) (xs : List X) (x : X) (k : ℕ) → k < length xs → get_or xs k x ≡ x
    → p x ≡ true → Contains (filter p xs) x
contained_still p [] x k lt at e = absurd (omega arith)
contained_still p (y ∷ ys) x zero lt at e =
    let here : p y ≡ true = ap p at ∙ e in
    rw here (0, omega arith, at)
contained_still p (y ∷ ys) x (suc k) lt at e =
    let later = contained_still p ys x k (omega arith) at e in
    by (p y) later
  where
    by : (b : Bool) → Contains (filter p ys) x → Contains (cond b (y ∷ filter p ys) (filter p ys)) x
    by true later = (suc later.0, (let l = later.1 in omega arith), later.2)
    by false later = later

pub under_has_all : UnderHasAll
under_has_all key uses u = (
  λ there. (
    All-contains (Contains uses) (under key uses) u
        (All-filter (λ s. same_octets s.key key) (Contains uses) uses (All-contains_itself uses)) there,
    All-contains (λ s. s.key ≡ key) (under key uses) u (under_key key uses) there,
  ),
  λ it. contained_still (λ s. same_octets s.key key) uses u it.0.0 it.0.1 it.0.2
      (ap (λ k. same_octets k key) it.1 ∙ same_octets-refl key),
)
