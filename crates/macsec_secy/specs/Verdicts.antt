-- What the verdict and the mode of validation show about the step that decided.
use Rattle.std.specs.Prelude.{ℕ, List, map, Bool, true, false, not, if◌then◌else◌, Option, Some, None}
use Rattle.macsec_tag.specs.declared.identifiers.Sci.{Sci}
use Rattle.macsec_commands.specs.declared.mode.Mode.{Mode}
use Rattle.macsec_rx.specs.declared.Verdict.{Verdict}
use Rattle.macsec_rx.specs.declared.Verdict.TheVariants.{Untagged, NoTag, BadTag, Reserved, NoSa, NoSaError, Late, NotValid, Unchecked, Delayed, Invalid, Passed}
use Rattle.macsec_rx.specs.Judge.{is_disabled, is_strict}
use Rattle.macsec_secy.specs.declared.counters.Counters.{Counters}
use Rattle.macsec_secy.specs.declared.counters.ChannelCounters.{ChannelCounters}
use Rattle.macsec_secy.specs.Counting.{at_channel, count_in_channel, count_octets_received, count_packet}

-- the cipher was applied
abbrev pub is_opened : Mode → Verdict → Bool
is_opened mode Untagged = false
is_opened mode NoTag = false
is_opened mode BadTag = false
is_opened mode Reserved = false
is_opened mode NoSa = false
is_opened mode NoSaError = false
is_opened mode Late = false
is_opened mode NotValid = not (is_disabled mode)
is_opened mode Unchecked = false
is_opened mode Delayed = not (is_disabled mode)
is_opened mode Invalid = true
is_opened mode Passed = true

-- the endpoint's counters after a tagged frame with this many octets of secure data
abbrev pub counted_by : Mode → Verdict → Bool → ℕ → Counters → Counters
counted_by mode verdict e octets c =
    if is_opened mode verdict then count_octets_received e octets (count_packet verdict c) else count_packet verdict c

-- the counters of the receive SCs after a tagged frame for this SA, if it has one
abbrev pub counted_at_place : Verdict → Option (Sci × ℕ) → List ChannelCounters → List ChannelCounters
counted_at_place verdict None rows = rows
counted_at_place verdict (Some place) rows = map (at_channel (count_in_channel verdict place.1) place.0) rows

-- the verdict on an untagged frame
abbrev pub verdict_on_untagged : Mode → Verdict
verdict_on_untagged mode = if is_strict mode then NoTag else Untagged

abbrev pub delivered_untagged : Mode → List ℕ → Option (List ℕ)
delivered_untagged mode frame = if is_strict mode then None else Some frame
