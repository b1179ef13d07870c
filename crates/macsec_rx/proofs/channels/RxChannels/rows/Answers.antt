-- The SAs of an SC have different association numbers, so there are at most four for each SC.
use Rattle.{
  std.proofs.Common.{◌≤◌, length, subst, arith},
  macsec_rx.{proofs.Room.rows_fit, specs.{Channels.Channels, Limits.max_row_count}},
}
use Rattle.macsec_rx.proofs.channels.RxChannels.rows.Goals as goal

pub returns-clause-count : goal.returns-clause-count
returns-clause-count c =
    let fit = rows_fit _ _ c.self.invariant.0.rows in
    subst (λ (v : Channels). length v.rows ≤ max_row_count) c.self.view_is (omega (arith, fit, c.self.invariant.0.count))
