use Rattle.macsec_secy.proofs.Names.{◌≡◌, channel_counters_of, drop}
use Rattle.macsec_secy.proofs.Secy.channel_counters.Given as goal

-- no SC before the index has the SCI
abbrev pub invariant-loop-row : goal.invariant-loop-row
invariant-loop-row l = channel_counters_of l.self.rx_counters l.sci ≡ channel_counters_of (drop l.row-index l.self.rx_counters) l.sci
