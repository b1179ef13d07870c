-- The key of the SA is in the table, and raising the SA at the index that was found is the defined change. Proved from
-- the lemmas on finding an SA and on changing a row at an index (`RxRows`, `RowIndex`).
use Rattle.{
  std.proofs.Common.{◌≡◌, ◌∙◌, ap, refl, arith, rules, IsSome},
  macsec_pn.specs.Numbers.raise,
  macsec_suite.specs.KeyRows.key_row,
  macsec_rx.{
    proofs.{RowIndex.{IsRxRow-at, is_found, with_rx-set}, RxRows.{IsRxRow-raised, found_if_there, holds_of_row}},
    specs.{Channels.with_numbers, Commands.row_raised},
  },
}
use Rattle.macsec_rx.proofs.channels.RxChannels.rx_low.Goals as goal

pub unwrap-requires : goal.unwrap-requires
unwrap-requires c =
    let there : IsSome (key_row c.args.keys.now c.in_ok-place.row.key) =
    holds_of_row (λ row. IsSome (key_row c.args.keys.now row.key)) _ _ _ _ c.requires c.in_ok-place.ensures.row in
    found_if_there c.key.result _ _ c.key.ensures.row there

changed : (c : goal.After-with_numbers) → c.with_numbers.result ≡ row_raised c.args.pn c.in_ok-place.row
changed c = c.with_numbers.ensures ∙ ap (λ n. with_numbers n c.in_ok-place.row) (c.raise.ensures ∙ ap (λ n. raise n c.args.pn) c.numbers-numbers.ensures)

pub put-requires-clause-there : goal.put-requires-clause-there
put-requires-clause-there c = rw (c.in_ok-place.ensures.place, changed c) (refl, refl)

pub put-requires-clause-row : goal.put-requires-clause-row
put-requires-clause-row c =
    let found = c.in_ok-place in
    let row = IsRxRow-at _ _ found.place found.row found.ensures.channels.rows found.ensures.place in
    rw (changed c) (IsRxRow-raised _ c.args.pn found.row (omega arith) (omega (arith, c.ranges.pn.fits)) row)

pub returns-clause-done : goal.returns-clause-done
returns-clause-done c =
    let old = c.args.self.now in
    let found = c.in_ok-place in
    let same = with_rx-set old.scis (row_raised c.args.pn) old.rows c.args.sci c.args.an found.place found.row found.ensures.channels.rows
    found.ensures.place (is_found old.rows c.args.sci c.args.an found.row found.ensures.row) in
    let here : c.with_numbers.result ≡ row_raised c.args.pn found.row =
    c.with_numbers.ensures ∙ ap (λ n. with_numbers n found.row) (c.raise.ensures ∙ ap (λ n. raise n c.args.pn) c.numbers-numbers.ensures) in
    rw (same, ← here) c.put.ensures.rows

-- For speed: the prover finds this proof, but on a mutant it would try more than this search.
pub returns-clause-refusal : goal.returns-clause-refusal
returns-clause-refusal c = search rules

pub returns-then-pn-eq0-clause-refusal : goal.returns-then-pn-eq0-clause-refusal
returns-then-pn-eq0-clause-refusal c = search rules
