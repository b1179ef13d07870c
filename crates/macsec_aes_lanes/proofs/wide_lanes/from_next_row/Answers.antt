use Rattle.macsec_aes_lanes.proofs.{Names.{◌≡◌, arith, refl, unmoved_rows_below}, Picked.picked_in_halves}
use Rattle.macsec_aes_lanes.proofs.wide_lanes.from_next_row.Goals as goal
use Rattle.macsec_aes_lanes.proofs.wide_lanes.from_next_row.Goals.{in-1, in-2, in-3, in_default}

pub returns : goal.returns
returns c h lh j lj = elim c.match-moves.branch [
  | in-1 w ↦ rw (w.result-is, w.in-1.is)
      (picked_in_halves (unmoved_rows_below 1 1) c.args.a _ c.fits-a.0 tt refl h lh j lj)
  | in-2 w ↦ rw (w.result-is, w.in-2.is)
      (picked_in_halves (unmoved_rows_below 2 1) c.args.a _ c.fits-a.0 tt refl h lh j lj)
  | in-3 w ↦ rw (w.result-is, w.in-3.is)
      (picked_in_halves (unmoved_rows_below 3 1) c.args.a _ c.fits-a.0 tt refl h lh j lj)
  | in_default w ↦
      let four : c.args.moves ≡ 4 = omega (arith, c.requires.some, c.requires.most, w.in_default) in
      rw (w.result-is, four) (picked_in_halves (unmoved_rows_below 4 1) c.args.a _ c.fits-a.0 tt refl h lh j lj)
]
