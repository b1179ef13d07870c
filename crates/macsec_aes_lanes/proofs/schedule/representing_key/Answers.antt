use Rattle.macsec_aes_lanes.proofs.Names.{◌*◌, ◌+◌, ◌∙◌, ap, arith, represented}
use Rattle.macsec_aes_lanes.proofs.schedule.representing_key.Goals as goal

pub returns : goal.returns
returns c m lt =
    ap represented (c.first_half.ensures m lt)
    ∙ c.representing.ensures (16 * 0 + m) (omega arith)
    ∙ c.side_by_side.ensures 0 (omega arith) m lt
