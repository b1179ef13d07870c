-- Commands on receive SCs and their SAs: why each is refused, in the order of the tests, and what it does (IEEE
-- 802.1AE, 10.7).
use Rattle.std.specs.Prelude.{ℕ, List, [], ◌∷◌, ◌++◌, length, map, filter, ◌==◌, Bool, false, not, ◌&&◌, nat_lt, nat_le, is_some, IsSome}
use Rattle.std.specs.List.{All, list_any}
use Rattle.macsec_tag.specs.declared.identifiers.Sci.{Sci}
use Rattle.macsec_pn.specs.Numbers.{narrow, raise}
use Rattle.macsec_suite.specs.declared.refusal.Refusal.TheVariants.{NoKey, KeyRetired, OwnSci, ScTaken, ScFull, NoSc, AnTaken, NoSa, PnRange, PnLower, SsciOwn}
use Rattle.macsec_suite.specs.Suites.{is_xpn, last_of}
use Rattle.macsec_suite.specs.KeyRows.{InstalledKey, key_row, the_key}
use Rattle.macsec_suite.specs.Refusals.{RefusalLine, holds_of, is_number_used, is_retired, is_outside}
use Rattle.macsec_rx.specs.declared.RxRow.{RxRow}
use Rattle.macsec_rx.specs.Limits.{max_channel_count}
use Rattle.macsec_rx.specs.Channels.{Channels, same_sci, is_at, rx_row, with_rx, numbers_of, with_numbers}

abbrev pub has_channel : List Sci → Sci → Bool
has_channel scis sci = list_any (λ s. same_sci s sci) scis

abbrev pub has_rx : List RxRow → Sci → ℕ → Bool
has_rx rows sci an = is_some (rx_row rows sci an)

abbrev pub rx_uses : List RxRow → ℕ → Bool
rx_uses rows key = list_any (λ row. row.key == key) rows

-- the refusals of creating an SC
abbrev pub rx_sc_refusals : Channels → Sci → Sci → List RefusalLine
rx_sc_refusals channels own sci =
    (OwnSci, same_sci sci own) ∷
    (ScTaken, has_channel channels.scis sci) ∷
    (ScFull, nat_le max_channel_count (length channels.scis)) ∷ []

-- the SCs with a new one at the end
abbrev pub with_channel : Channels → Sci → Channels
with_channel channels sci = record channels { scis = channels.scis ++ sci ∷ [] }

-- the refusals of deleting an SC
abbrev pub rx_sc_del_refusals : Channels → Sci → List RefusalLine
rx_sc_del_refusals channels sci = (NoSc, not (has_channel channels.scis sci)) ∷ []

-- the SCs without this one and its SAs
abbrev pub without_channel : Channels → Sci → Channels
without_channel channels sci = record {
  scis = filter (λ s. not (same_sci s sci)) channels.scis;
  rows = filter (λ row. not (same_sci row.sci sci)) channels.rows;
}

-- the key's suite has extended packet numbers, and the SSCI is the endpoint's own under the key
abbrev pub is_own_ssci : InstalledKey → ℕ → Bool
is_own_ssci key ssci = is_xpn key.suite && ssci == key.ssci

-- the refusals of creating an SA
abbrev pub rx_sa_refusals : List InstalledKey → Channels → Sci → ℕ → ℕ → ℕ → ℕ → List RefusalLine
rx_sa_refusals keys channels sci an key ssci lowest =
    (NoKey, not (is_number_used keys key)) ∷
    (KeyRetired, is_retired keys key) ∷
    (NoSc, not (has_channel channels.scis sci)) ∷
    (AnTaken, has_rx channels.rows sci an) ∷
    (PnRange, is_outside (last_of (the_key keys key).suite) lowest) ∷
    (SsciOwn, is_own_ssci (the_key keys key) ssci) ∷ []

-- the SAs with a new one, which is disabled
abbrev pub with_rx_sa : Channels → Sci → ℕ → ℕ → ℕ → ℕ → Channels
with_rx_sa channels sci an key ssci lowest =
    record channels {
      rows = channels.rows ++ record { sci = sci; an = an; key = key; ssci = ssci; next = lowest; lowest = lowest; on = false } ∷ [];
    }

-- the refusals of enabling, disabling and deleting an SA
abbrev pub rx_row_refusals : Channels → Sci → ℕ → List RefusalLine
rx_row_refusals channels sci an =
    (NoSc, not (has_channel channels.scis sci)) ∷ (NoSa, not (has_rx channels.rows sci an)) ∷ []

abbrev pub row_switched : Bool → RxRow → RxRow
row_switched on row = record row { on = on }

-- this SA is enabled or disabled
abbrev pub with_rx_on : Channels → Sci → ℕ → Bool → Channels
with_rx_on channels sci an on = record channels { rows = with_rx (row_switched on) sci an channels.rows }

-- the packet number is 0 or above the last one of the SA's key
abbrev pub is_outside_row : List InstalledKey → List RxRow → Sci → ℕ → ℕ → Bool
is_outside_row keys rows sci an pn =
    holds_of (λ row. is_outside (last_of (the_key keys row.key).suite) pn) (rx_row rows sci an)

-- the packet number is below the lowest acceptable one
abbrev pub is_below_lowest : List RxRow → Sci → ℕ → ℕ → Bool
is_below_lowest rows sci an pn = holds_of (λ row. nat_lt pn row.lowest) (rx_row rows sci an)

-- the refusals of raising the lowest acceptable packet number
abbrev pub rx_low_refusals : List InstalledKey → Channels → Sci → ℕ → ℕ → List RefusalLine
rx_low_refusals keys channels sci an pn =
    (NoSc, not (has_channel channels.scis sci)) ∷
    (NoSa, not (has_rx channels.rows sci an)) ∷
    (PnRange, is_outside_row keys channels.rows sci an pn) ∷
    (PnLower, is_below_lowest channels.rows sci an pn) ∷ []

abbrev pub row_raised : ℕ → RxRow → RxRow
row_raised pn row = with_numbers (raise (numbers_of row) pn) row

-- this SA's lowest acceptable packet number is pn
abbrev pub with_rx_low : Channels → Sci → ℕ → ℕ → Channels
with_rx_low channels sci an pn = record channels { rows = with_rx (row_raised pn) sci an channels.rows }

-- the SAs without this one
abbrev pub without_rx : Channels → Sci → ℕ → Channels
without_rx channels sci an = record channels { rows = filter (λ row. not (is_at sci an row)) channels.rows }

abbrev pub row_narrowed : ℕ → RxRow → RxRow
row_narrowed window row = with_numbers (narrow (numbers_of row) window) row

-- every SA is narrowed to the window
abbrev pub channels_narrowed : Channels → ℕ → Channels
channels_narrowed channels window = record channels { rows = map (row_narrowed window) channels.rows }

-- the key of each SA is in the table
abbrev pub HaveRxKeys : List InstalledKey → List RxRow → Type 0
HaveRxKeys keys rows = All (λ row. IsSome (key_row keys row.key)) rows
