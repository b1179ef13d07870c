-- The SA enabled for a frame: it has the frame's SCI and association number, and what holds of all SAs.
use Rattle.macsec_secy.proofs.{
  Names.{[], ◌&&◌, ◌==◌, ◌∷◌, ◌≡◌, All, and_parts, arith, bad, Bool, eqb-true, false, find, if◌then◌else◌, in_use},
  Names.{is_at, List, None, Option, Reading, refl, RxRow, same_sci, Sci, sci_of, Some, State, subst, suc, tagged, true},
  Names.{untagged, used_in, ℕ},
  Sums.one_sci,
}

-- a found element passes the test, and what holds of all elements holds of it
pub record IsFound {A : Type 0} (test : A → Bool) (P : A → Type 0) (x : A) : Type 0 where
  pub passes : test x ≡ true
  pub holds : P x

pub found : {A : Type 0} (test : A → Bool) (P : A → Type 0) (xs : List A) (x : A) → All P xs → find test xs ≡ Some x → IsFound test P x
found test P [] x all is = cc
found test P (y ∷ ys) x all is = by_test (test y) refl (found test P ys x (λ k d within. all (suc k) d (omega (arith, within)))) is
  where
    by_test : (b : Bool) → test y ≡ b → (find test ys ≡ Some x → IsFound test P x) → (if b then Some y else find test ys) ≡ Some x → IsFound test P x
    by_test true passes later is' = let it : y ≡ x = cc in subst (IsFound test P) it (record { passes = passes; holds = all 0 y (omega arith) })
    by_test false passes later is' = later is'

pub record IsInUse (P : RxRow → Type 0) (of_sci : Sci) (of_an : ℕ) (row : RxRow) : Type 0 where
  pub sci : row.sci ≡ of_sci
  pub an : row.an ≡ of_an
  pub holds : P row

pub in_use_is : (P : RxRow → Type 0) (rows : List RxRow) (sci : Sci) (an : ℕ) (row : RxRow) → All P rows → in_use rows an (Some sci) ≡ Some row → IsInUse P sci an row
in_use_is P rows sci an row all is =
    let it = found (λ (r : RxRow). is_at sci an r && r.on) P rows row all is in
    let here = (and_parts (is_at sci an row) row.on it.passes).0 in
    let parts = and_parts (same_sci row.sci sci) (row.an == an) here in
    record { sci = one_sci row.sci sci parts.0; an = eqb-true row.an an parts.1; holds = it.holds }

-- what holds of all receive SAs holds of the one that is enabled for a frame
pub used_holds : (P : RxRow → Type 0) (s : State) (r : Reading) (row : RxRow) → All P s.rx.rows → used_in s r ≡ Some row → P row
used_holds P s untagged row all used = cc
used_holds P s (bad fault) row all used = cc
used_holds P s (tagged p) row all used = by_sci (sci_of s.rx.scis p) used
  where
    by_sci : (o : Option Sci) → in_use s.rx.rows p.tag.an o ≡ Some row → P row
    by_sci None used' = cc
    by_sci (Some sci) used' = (found (λ (r : RxRow). is_at sci p.tag.an r && r.on) P s.rx.rows row all used').holds
