-- The lines of the counters of an endpoint.
use Rattle.std.specs.Prelude.{ℕ, List, [], ◌∷◌, ◌++◌, flat_map, decimal, codes, Option, Some, None}
use Rattle.hex.specs.Hex.{encode_lower}
use Rattle.macsec_tag.specs.declared.identifiers.Sci.{Sci}
use Rattle.macsec_secy.specs.declared.counters.Counters.{Counters}
use Rattle.macsec_secy.specs.declared.counters.TxCounters.{TxCounters}
use Rattle.macsec_secy.specs.declared.counters.RxCounters.{RxCounters}
use Rattle.macsec_secy.specs.Answers.{rx_counters_of, rx_sa_counters_of}
use Rattle.macsec_secy.specs.State.{State}
use Rattle.macsec_script_printer.specs.Numbers.{association_numbers}
use Rattle.macsec_script_printer.specs.declared.counters.Label.{Label}
use Rattle.macsec_script_printer.specs.declared.counters.Label.TheVariants.{Line, End}

-- the number of a line of the script, or `end` at the end of a run
abbrev pub label_text : Label → List ℕ
label_text (Line n) = decimal n
label_text End = codes "end"

-- a counter's name and its value
abbrev pub NamedCounter : Type 0
NamedCounter = List ℕ × ℕ

-- the counters of an endpoint and then of its transmit SC, with their names
abbrev pub own_counters : Counters → TxCounters → List NamedCounter
own_counters c tx =
    (codes "InPktsUntagged", c.in_pkts_untagged) ∷ (codes "InPktsNoTag", c.in_pkts_no_tag) ∷
    (codes "InPktsBadTag", c.in_pkts_bad_tag) ∷ (codes "InPktsReserved", c.in_pkts_reserved) ∷
    (codes "InPktsNoSA", c.in_pkts_no_sa) ∷ (codes "InPktsNoSAError", c.in_pkts_no_sa_error) ∷
    (codes "InOctetsValidated", c.in_octets_validated) ∷ (codes "InOctetsDecrypted", c.in_octets_decrypted) ∷
    (codes "OutPktsUntagged", c.out_pkts_untagged) ∷ (codes "OutPktsTooLong", c.out_pkts_too_long) ∷
    (codes "OutPktsNoSA", c.out_pkts_no_sa) ∷ (codes "OutPktsProtected", tx.out_pkts_protected) ∷
    (codes "OutPktsEncrypted", tx.out_pkts_encrypted) ∷ (codes "OutOctetsProtected", tx.out_octets_protected) ∷
    (codes "OutOctetsEncrypted", tx.out_octets_encrypted) ∷ []

-- the counters of a receive SC or of a receive SA, with their names
abbrev pub channel_counters : RxCounters → List NamedCounter
channel_counters c =
    (codes "InPktsOK", c.in_pkts_ok) ∷ (codes "InPktsUnchecked", c.in_pkts_unchecked) ∷
    (codes "InPktsDelayed", c.in_pkts_delayed) ∷ (codes "InPktsLate", c.in_pkts_late) ∷
    (codes "InPktsInvalid", c.in_pkts_invalid) ∷ (codes "InPktsNotValid", c.in_pkts_not_valid) ∷ []

-- the line of a counter: of an endpoint, of a receive SC, and of a receive SA
abbrev pub counter_text : Label → NamedCounter → List ℕ
counter_text label counter = label_text label ++ codes " " ++ counter.0 ++ codes " " ++ decimal counter.1 ++ codes "\n"

abbrev pub rx_counter_text : Label → Sci → NamedCounter → List ℕ
rx_counter_text label sci counter =
    label_text label ++ codes " " ++ encode_lower sci.0 ++ codes " " ++ counter.0 ++ codes " " ++ decimal counter.1 ++ codes "\n"

abbrev pub sa_counter_text : Label → Sci → ℕ → NamedCounter → List ℕ
sa_counter_text label sci an counter =
    label_text label ++ codes " " ++ encode_lower sci.0 ++ codes " " ++ decimal an ++ codes " " ++ counter.0 ++ codes " " ++ decimal counter.1
    ++ codes "\n"

-- the lines of a receive SC, if it has counters
abbrev pub rx_counters_text : Label → Sci → Option RxCounters → List ℕ
rx_counters_text label sci None = []
rx_counters_text label sci (Some counters) = flat_map (rx_counter_text label sci) (channel_counters counters)

-- the lines of a receive SA, if there is one
abbrev pub sa_counters_text : Label → Sci → ℕ → Option RxCounters → List ℕ
sa_counters_text label sci an None = []
sa_counters_text label sci an (Some counters) = flat_map (sa_counter_text label sci an) (channel_counters counters)

-- the lines of an SC's SAs, in the order of their ANs
abbrev pub associations_text : Label → State → Sci → List ℕ
associations_text label s sci =
    flat_map (λ an. sa_counters_text label sci an (rx_sa_counters_of s.rx_counters sci an)) association_numbers

-- the lines of a receive SC, and then of its SAs
abbrev pub channel_text : Label → State → Sci → List ℕ
channel_text label s sci = rx_counters_text label sci (rx_counters_of s.rx_counters sci) ++ associations_text label s sci

-- a line for each counter: of the endpoint, of its transmit SC, and of the receive SCs in the order of their creation,
-- each with its SAs
abbrev pub counters_text : Label → State → List ℕ
counters_text label s =
    flat_map (counter_text label) (own_counters s.counters s.tx_counters) ++
    flat_map (channel_text label s) s.rx.scis
