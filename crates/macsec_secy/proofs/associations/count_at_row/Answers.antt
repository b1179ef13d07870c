-- The SC at the position is the one with the SA's SCI. Proved from the lemma in `ChannelAt`.
use Rattle.macsec_secy.proofs.{Names.count_in_channel, ChannelAt.map-at_channel_at}
use Rattle.macsec_secy.proofs.associations.count_at_row.Goals as goal

pub returns-in-Some : goal.returns-in-Some
returns-in-Some c =
    let place = rw c.in-Some.is at c.requires.place in
    rw (c.in-Some.is, c.count.ensures) (map-at_channel_at (count_in_channel c.args.judged.now.verdict c.in-Some.an) _ c.args.rows.now c.args.judged.now.channel _ c.requires.distinct place)
