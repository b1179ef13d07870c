-- The SA that protects a client frame is enabled and has a packet number left.
use Rattle.{
  macsec_tx.specs.Rows.IsTxRow,
  macsec_secy.proofs.Names.{[], ◌+◌, ◌∷◌, ◌≡◌, ◌≤◌, AreTxRows, Bool, false, if◌then◌else◌, InstalledKey, last_of},
  macsec_secy.proofs.Names.{length, List, ltb-false, nat_lt, no_sa, None, not_protected, octets_added, Option, plain},
  macsec_secy.proofs.Names.{protected, protected_frame, refl, row_on, Sending, sending, sending_by, Some, subst},
  macsec_secy.proofs.Names.{tag_sent, the_key, too_long, true, TxOptions, TxRow, ℕ},
}

pub record IsProtectedBy (keys : List InstalledKey) (rows : List TxRow) (row : TxRow) : Type 0 where
  pub on : row_on rows ≡ Some row
  pub next : row.next ≤ last_of (the_key keys row.key).suite

by_row : (options : TxOptions) (keys : List InstalledKey) (rows : List TxRow) (frame : List ℕ) (row on : TxRow) → row_on rows ≡ Some on →
    (sending_by options keys frame (Some on)).by ≡ Some row → IsProtectedBy keys rows row
by_row options keys rows frame row on is by =
    by_tests (nat_lt (last_of (the_key keys on.key).suite) on.next) (nat_lt options.max_frame (length frame + octets_added (tag_sent options on frame))) refl by
  where
    made : Sending
    made = record { leaving = protected on.key (protected_frame options (the_key keys on.key) on frame); by = Some on }

    by_tests : (exhausted long : Bool) → nat_lt (last_of (the_key keys on.key).suite) on.next ≡ exhausted →
        (if exhausted then not_protected no_sa else if long then not_protected too_long else made).by ≡ Some row →
        IsProtectedBy keys rows row
    by_tests true long is' by' = cc
    by_tests false true is' by' = cc
    by_tests false false is' by' =
        let it : on ≡ row = cc in
        subst (IsProtectedBy keys rows) it (record { on = is; next = ltb-false _ _ is' })

by_on : (options : TxOptions) (keys : List InstalledKey) (rows : List TxRow) (frame : List ℕ) (row : TxRow) (on : Option TxRow) → row_on rows ≡ on →
    (sending_by options keys frame on).by ≡ Some row → IsProtectedBy keys rows row
by_on options keys rows frame row None is by = cc
by_on options keys rows frame row (Some on) is by = by_row options keys rows frame row on is by

pub protected_by : (options : TxOptions) (keys : List InstalledKey) (rows : List TxRow) (frame : List ℕ) (row : TxRow) → (sending options keys rows frame).by ≡ Some row →
    IsProtectedBy keys rows row
protected_by options keys rows frame row by = by_test options.protect by
  where
    by_test : (b : Bool) →
        (if b then sending_by options keys frame (row_on rows) else not_protected (if nat_lt options.max_frame (length frame) then too_long else plain)).by ≡ Some row →
        IsProtectedBy keys rows row
    by_test true by' = by_on options keys rows frame row (row_on rows) refl by'
    by_test false by' = cc

pub is_row : (rows : List TxRow) (row : TxRow) → AreTxRows rows → row_on rows ≡ Some row → IsTxRow row
is_row [] row are on = cc
is_row (r ∷ rows) row are on = by_test r.on (is_row rows row are.2) on
  where
    by_test : (b : Bool) → (row_on rows ≡ Some row → IsTxRow row) → (if b then Some r else row_on rows) ≡ Some row → IsTxRow row
    by_test true later on' = let it : r ≡ row = cc in subst IsTxRow it are.0
    by_test false later on' = later on'
