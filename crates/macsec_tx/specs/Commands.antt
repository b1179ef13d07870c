-- Commands on transmit SAs: why each is refused, in the order of the tests, and what it does (IEEE 802.1AE, 10.7).
use Rattle.std.specs.Prelude.{ℕ, List, [], ◌∷◌, ◌++◌, map, filter, ◌==◌, Bool, false, not, nat_lt, is_some, if◌then◌else◌, IsSome, IfSome}
use Rattle.std.specs.List.{list_any}
use Rattle.macsec_suite.specs.declared.refusal.Refusal.TheVariants.{NoKey, KeyRetired, KeyInUse, AnTaken, NoSa, PnRange, PnFloor, Exhausted}
use Rattle.macsec_suite.specs.Suites.{last_of}
use Rattle.macsec_suite.specs.KeyRows.{InstalledKey, key_row, the_key}
use Rattle.macsec_suite.specs.Refusals.{RefusalLine, holds_of, is_number_used, is_retired, is_outside}
use Rattle.macsec_tx.specs.declared.TxRow.{TxRow}
use Rattle.macsec_tx.specs.Transmit.{tx_row}

abbrev pub tx_uses : List TxRow → ℕ → Bool
tx_uses rows key = list_any (λ row. row.key == key) rows

abbrev pub has_tx : List TxRow → ℕ → Bool
has_tx rows an = is_some (tx_row rows an)

-- the refusals of creating an SA whose first packet number is `next`
abbrev pub tx_sa_refusals : List InstalledKey → List TxRow → ℕ → ℕ → ℕ → List RefusalLine
tx_sa_refusals keys rows an key next =
    (NoKey, not (is_number_used keys key)) ∷
    (KeyRetired, is_retired keys key) ∷
    (KeyInUse, tx_uses rows key) ∷
    (AnTaken, has_tx rows an) ∷
    (PnRange, is_outside (last_of (the_key keys key).suite) next) ∷
    (PnFloor, nat_lt next (the_key keys key).first_unused) ∷ []

-- the SAs with a new one at the end, which is disabled and encrypts if `conf` is true
abbrev pub with_tx_sa : List TxRow → ℕ → ℕ → ℕ → Bool → List TxRow
with_tx_sa rows an key next conf =
    rows ++ record { an = an; key = key; next = next; conf = conf; on = false } ∷ []

-- the SA has no packet number left
abbrev pub is_exhausted : List InstalledKey → List TxRow → ℕ → Bool
is_exhausted keys rows an =
    holds_of (λ row. nat_lt (last_of (the_key keys row.key).suite) row.next) (tx_row rows an)

-- the refusals of enabling an SA
abbrev pub tx_on_refusals : List InstalledKey → List TxRow → ℕ → List RefusalLine
tx_on_refusals keys rows an = (NoSa, not (has_tx rows an)) ∷ (Exhausted, is_exhausted keys rows an) ∷ []

-- the SA, enabled if it has this association number, otherwise disabled
abbrev pub switch_to : ℕ → TxRow → TxRow
switch_to an row = record row { on = row.an == an }

-- this SA is enabled, and all others are disabled
abbrev pub with_tx_on : List TxRow → ℕ → List TxRow
with_tx_on rows an = map (switch_to an) rows

-- the refusals of disabling an SA and of deleting one
abbrev pub tx_off_refusals : List TxRow → ℕ → List RefusalLine
tx_off_refusals rows an = (NoSa, not (has_tx rows an)) ∷ []

-- the SA, disabled if it has this association number, otherwise unchanged
abbrev pub off_at : ℕ → TxRow → TxRow
off_at an row = if row.an == an then record row { on = false } else row

-- this SA is disabled, and the others are unchanged
abbrev pub with_tx_off : List TxRow → ℕ → List TxRow
with_tx_off rows an = map (off_at an) rows

-- the SAs without this one
abbrev pub without_tx : List TxRow → ℕ → List TxRow
without_tx rows an = filter (λ row. not (row.an == an)) rows

-- the key of each SA is in the table
abbrev pub HaveKeys : List InstalledKey → List TxRow → Type 0
HaveKeys keys rows = (an : ℕ) → IfSome (tx_row rows an) (λ row. IsSome (key_row keys row.key))
