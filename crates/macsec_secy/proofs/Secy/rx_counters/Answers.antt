use Rattle.macsec_secy.proofs.{Names.{◌∙◌, ap, ChannelCounters, option_map}, AssociationsShown.shown_sums}
use Rattle.macsec_secy.proofs.Secy.rx_counters.Goals as goal

pub returns-clause-sum : goal.returns-clause-sum
returns-clause-sum c =
    ap (option_map (λ (row : ChannelCounters). row.counters)) c.in_ok-channel.ensures.row ∙ shown_sums c.args.self.now c.channel_counters.ensures.sound c.args.sci
