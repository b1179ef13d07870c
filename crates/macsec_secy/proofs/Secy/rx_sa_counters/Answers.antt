-- Counters exist exactly if the SA does: by `IsSound` an SC has counters for exactly its own SAs (`shown_there`), and
-- no SA has an SCI without an SC.
use Rattle.macsec_secy.proofs.{
  Names.{◌∙◌, ap, ChannelCounters, counters_at, is_some, option_and_then, rules},
  AssociationsShown.shown_there,
}
use Rattle.macsec_secy.proofs.Secy.rx_sa_counters.Goals as goal

pub returns-in_err-channel-clause-there : goal.returns-in_err-channel-clause-there
returns-in_err-channel-clause-there c =
    ap is_some c.from_residual.ensures ∙ ap (λ o. is_some (option_and_then (λ (row : ChannelCounters). counters_at row.associations c.args.an) o)) c.in_err-channel.ensures.row ∙
    shown_there c.args.self.now c.channel_counters.ensures.sound c.args.sci c.args.an

pub returns-clause-there : goal.returns-clause-there
returns-clause-there c =
    ap (λ n. is_some (counters_at c.in_ok-channel.channel.associations n)) (c.from.ensures ∙ c.number.ensures.value) ∙
    ap (λ o. is_some (option_and_then (λ (row : ChannelCounters). counters_at row.associations c.args.an) o)) c.in_ok-channel.ensures.row ∙
    shown_there c.args.self.now c.channel_counters.ensures.sound c.args.sci c.args.an

-- By search; written down so that a wrong body is refused quickly.
pub returns-clause-counters : goal.returns-clause-counters
returns-clause-counters c = search rules steps 100000
