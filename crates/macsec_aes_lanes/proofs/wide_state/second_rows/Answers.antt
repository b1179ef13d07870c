use Rattle.macsec_aes_lanes.proofs.Names.{refl}
use Rattle.macsec_aes_lanes.proofs.wide_state.second_rows.Goals as goal

pub returns : goal.returns
returns c k h lh j t =
    rw (
      c.from_second_row.ensures h lh j t,
      c.from_second_row-2.ensures h lh j t,
      c.from_second_row-3.ensures h lh j t,
      c.from_second_row-4.ensures h lh j t,
      c.from_second_row-5.ensures h lh j t,
      c.from_second_row-6.ensures h lh j t,
      c.from_second_row-7.ensures h lh j t,
      c.from_second_row-8.ensures h lh j t,
    ) refl
