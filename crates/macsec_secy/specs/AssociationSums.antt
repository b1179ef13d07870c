-- The sum law for the counters of receive SAs (IEEE 802.1AE, 10.7): each counter of an SC is, modulo 2^64, the sum of
-- that counter over the SC's SAs and its deleted SAs.
use Rattle.std.specs.Prelude.{ℕ, List, [], ◌∷◌, map, Option, option_map}
use Rattle.macsec_tag.specs.declared.identifiers.Sci.{Sci}
use Rattle.macsec_secy.specs.declared.counters.RxCounters.{RxCounters}
use Rattle.macsec_secy.specs.declared.counters.ChannelCounters.{ChannelCounters}
use Rattle.macsec_secy.specs.Counting.{added, sum_of}
use Rattle.macsec_secy.specs.Answers.{rx_removed_of, rx_sa_counters_of}

abbrev pub association_numbers : List ℕ
association_numbers = 0 ∷ 1 ∷ 2 ∷ 3 ∷ []

-- the counters of an SC, if it exists, by the law: the sums over its SAs, and over its deleted SAs
abbrev pub rx_sums_of : List ChannelCounters → Sci → Option RxCounters
rx_sums_of rows sci =
    option_map (added (sum_of (map (rx_sa_counters_of rows sci) association_numbers))) (rx_removed_of rows sci)
