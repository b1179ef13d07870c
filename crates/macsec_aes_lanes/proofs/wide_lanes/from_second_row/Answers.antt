use Rattle.macsec_aes_lanes.proofs.{Names.{◌≡◌, arith, refl, unmoved_rows_below}, Picked.picked_in_halves}
use Rattle.macsec_aes_lanes.proofs.wide_lanes.from_second_row.Goals as goal
use Rattle.macsec_aes_lanes.proofs.wide_lanes.from_second_row.Goals.{then-moves-eq0, else-moves-eq0}

pub returns : goal.returns
returns c h lh j lj = elim c.if-moves-eq0.branch [
  | then-moves-eq0 w ↦
      let lane : unmoved_rows_below c.args.moves 2 j ≡ unmoved_rows_below 0 2 j = omega (arith, w.if-moves-eq0.true) in
      rw (w.result-is, lane) (picked_in_halves (unmoved_rows_below 0 2) c.args.a _ c.fits-a.0 tt refl h lh j lj)
  | else-moves-eq0 w ↦
      let lane : unmoved_rows_below c.args.moves 2 j ≡ unmoved_rows_below 1 2 j = omega (arith, w.if-moves-eq0.false) in
      rw (w.result-is, lane) (picked_in_halves (unmoved_rows_below 1 2) c.args.a _ c.fits-a.0 tt refl h lh j lj)
]
