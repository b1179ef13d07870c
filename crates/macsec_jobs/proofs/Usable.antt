-- What `finish_receive` uses was opened with the key that the endpoint has.
use Rattle.{
  std.proofs.Common.{◌≡◌, ℕ, List, Bool, true, false, refl, ap, sym, subst, ◌∙◌, Option, Some, None},
  macsec_suite.specs.{KeyRows.{InstalledKey, key_row, prepared_key}, Keys.PreparedKey, Refusals.holds_of},
  macsec_rx.specs.{Opened.IsOpenedBy, declared.OpenedFrame.OpenedFrame},
  macsec_secy.specs.Jobs.OpensFrame,
  macsec_jobs.proofs.SameKeys.one_prepared,
  macsec_jobs.specs.{
    PlannedKeys.{is_installed, key_of, same_prepared},
    Slots.{IsOpenedFrom, IsWork, opened_if, usable},
    declared.{planned_key.PlannedKey.PlannedKey, work.Work.{Work, TheVariants.{Nothing, Seal, Open, Finish}}},
  },
}

-- the row of the key's number has the key with which the frame was opened
opens_with : (o : OpenedFrame) (key : PlannedKey) (keys : List InstalledKey) (frame out : List ℕ) → IsOpenedFrom o key frame out →
    (row : InstalledKey) → key_row keys key.number ≡ Some row → same_prepared (key_of key) (prepared_key row) ≡ true → OpensFrame (Some o) keys frame out
opens_with o key keys frame out is row found same p read k there =
    let one : Some row ≡ Some k = sym found ∙ ap (key_row keys) (sym is.number) ∙ there in
    let its : row ≡ k = cc in
    subst (λ (q : PreparedKey). IsOpenedBy o q p out) (one_prepared (key_of key) (prepared_key row) same ∙ ap prepared_key its) (is.opened p read)

-- by the row that is found, and whether it has the key
opens_if : (o : OpenedFrame) (key : PlannedKey) (keys : List InstalledKey) (frame out : List ℕ) → IsOpenedFrom o key frame out →
    (found : Option InstalledKey) → key_row keys key.number ≡ found →
    OpensFrame (opened_if (holds_of (λ (row : InstalledKey). same_prepared (key_of key) (prepared_key row)) found) (Finish (Some o))) keys frame out
opens_if o key keys frame out is None found = λ p read. tt
opens_if o key keys frame out is (Some row) found = by_test (same_prepared (key_of key) (prepared_key row)) refl
  where
    by_test : (same : Bool) → same_prepared (key_of key) (prepared_key row) ≡ same → OpensFrame (opened_if same (Finish (Some o))) keys frame out
    by_test true same = opens_with o key keys frame out is row found same
    by_test false same = λ p read. tt

none_opened : (b : Bool) (work : Work) (keys : List InstalledKey) (frame out : List ℕ) → opened_if b work ≡ None → OpensFrame (opened_if b work) keys frame out
none_opened b work keys frame out none = subst (λ (o : Option OpenedFrame). OpensFrame o keys frame out) (sym none) (λ p read. tt)

never : (b : Bool) (work : Work) → opened_if true work ≡ None → opened_if b work ≡ None
never true work none = none
never false work none = refl

pub usable_opens : (work : Work) (key : PlannedKey) (keys : List InstalledKey) (frame out : List ℕ) → IsWork work key frame out → OpensFrame (usable work key keys) keys frame out
usable_opens Nothing key keys frame out is = none_opened (is_installed key keys) Nothing keys frame out (never (is_installed key keys) Nothing refl)
usable_opens (Seal job) key keys frame out is = none_opened (is_installed key keys) (Seal job) keys frame out (never (is_installed key keys) (Seal job) refl)
usable_opens (Open job) key keys frame out is = none_opened (is_installed key keys) (Open job) keys frame out (never (is_installed key keys) (Open job) refl)
usable_opens (Finish None) key keys frame out is = none_opened (is_installed key keys) (Finish None) keys frame out (never (is_installed key keys) (Finish None) refl)
usable_opens (Finish (Some o)) key keys frame out is = opens_if o key keys frame out is (key_row keys key.number) refl
