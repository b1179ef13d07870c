-- The limits of the SA that was found are those at its index.
use Rattle.{
  std.proofs.Common.{◌≡◌, ℕ, zero, suc, Bool, true, false, List, [], ◌∷◌, map, refl, ap, sym, ◌∙◌, if◌then◌else◌},
  std.proofs.Common.{slice_get, IfSome, Option, None, Some, option_map},
  macsec_tag.specs.declared.identifiers.Sci.Sci,
  macsec_rx.proofs.{RowIndex.{is_at-own, other_row}, RxRows.is_at-swapped},
  macsec_rx.specs.{
    Channels.{is_at, rx_row},
    Index.row_of_found,
    Judge.{Judgement, accepted_number},
    Rows.AreRxRows,
    Within.{limits_of, outside, outside_by, outside_found, outside_row, pn_of},
    declared.{RxRow.RxRow, channels.Found.Found, within.{OutsidePn.OutsidePn, PnLimits.PnLimits}},
  },
}

-- no two SAs have the same SCI and number, so the SA at an index has the limits at that index
limits_at : (scis : List Sci) (limits : List PnLimits) (rows : List RxRow) (i : ℕ) (row : RxRow) → AreRxRows scis rows → slice_get rows i ≡ Some row →
    limits_of limits rows row.sci row.an ≡ slice_get limits i
limits_at scis [] rows i row h there = refl
limits_at scis (l ∷ limits) [] i row h there = cc
limits_at scis (l ∷ limits) (first ∷ rows) zero row h there =
    let same : first ≡ row = cc in
    let here : is_at row.sci row.an first ≡ true = rw same (is_at-own row) in
    rw here refl
limits_at scis (l ∷ limits) (first ∷ rows) (suc i) row h there =
    let other : is_at row.sci row.an first ≡ false = is_at-swapped row first (other_row rows first.sci first.an i row h.1 there) in
    rw other (limits_at scis limits rows i row h.2 there)

-- limits that are made of the rows
pub limits_of-map : (f : RxRow → PnLimits) (rows : List RxRow) (sci : Sci) (an : ℕ) → limits_of (map f rows) rows sci an ≡ option_map f (rx_row rows sci an)
limits_of-map f [] sci an = refl
limits_of-map f (row ∷ rows) sci an = by_test (is_at sci an row) (limits_of-map f rows sci an)
  where
    by_test : (b : Bool) → limits_of (map f rows) rows sci an ≡ option_map f (rx_row rows sci an) →
        (if b then Some (f row) else limits_of (map f rows) rows sci an) ≡ option_map f (if b then Some row else rx_row rows sci an)
    by_test true later = refl
    by_test false later = later

-- what the index says is what the SCI and the number say
pub outside_is : (scis : List Sci) (limits : List PnLimits) (rows : List RxRow) (j : Judgement) (found : Option Found) (number : Option ℕ) → AreRxRows scis rows →
    number ≡ accepted_number j → IfSome number (λ n. j.row ≡ option_map row_of_found found) → IfSome found (λ f. slice_get rows f.place ≡ Some f.row) →
    outside_found limits number found ≡ outside limits rows j
outside_is scis limits rows j found None h is row there = ap (λ n. outside_row limits rows n j.row) is
outside_is scis limits rows j None (Some n) h is row there = sym (ap (λ r. outside_row limits rows (Some n) r) row) ∙ ap (λ m. outside_row limits rows m j.row) is
outside_is scis limits rows j (Some f) (Some n) h is row there =
    ap (λ l. outside_by l (pn_of f.row n)) (sym (limits_at scis limits rows f.place f.row h there))
    ∙ sym (ap (λ r. outside_row limits rows (Some n) r) row)
    ∙ ap (λ m. outside_row limits rows m j.row) is
