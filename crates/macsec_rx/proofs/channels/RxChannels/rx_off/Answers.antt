-- Disabling the SA at the index that was found is the defined change. Proved from the lemma on changing a row at an
-- index in `RowIndex`.
use Rattle.std.proofs.Common.{refl, false}
use Rattle.macsec_rx.{
  proofs.{RowIndex.{IsRxRow-at, is_found, with_rx-set}, RxRows.IsRxRow-switched},
  specs.Commands.row_switched,
}
use Rattle.macsec_rx.proofs.channels.RxChannels.rx_off.Goals as goal

pub put-requires-clause-there : goal.put-requires-clause-there
put-requires-clause-there c = rw c.in_ok-place.ensures.place (refl, refl)

pub put-requires-clause-row : goal.put-requires-clause-row
put-requires-clause-row c =
    let found = c.in_ok-place in
    IsRxRow-switched _ false found.row (IsRxRow-at _ _ found.place found.row found.ensures.channels.rows found.ensures.place)

pub returns-clause-done : goal.returns-clause-done
returns-clause-done c =
    let old = c.args.self.now in
    let found = c.in_ok-place in
    let same = with_rx-set old.scis (row_switched false) old.rows c.args.sci c.args.an found.place found.row found.ensures.channels.rows
    found.ensures.place (is_found old.rows c.args.sci c.args.an found.row found.ensures.row) in
    rw same c.put.ensures.rows
