-- The lines of the packet numbers of an endpoint.
use Rattle.std.specs.Prelude.{ℕ, ◌-◌, List, [], ◌∷◌, ◌++◌, length, replicate, flat_map, decimal, codes, Bool, false, if◌then◌else◌, Option, Some, None}
use Rattle.std.specs.Fmt.{digits}
use Rattle.hex.specs.Hex.{encode_lower}
use Rattle.macsec_tag.specs.declared.identifiers.Sci.{Sci}
use Rattle.macsec_tx.specs.declared.TxRow.{TxRow}
use Rattle.macsec_tx.specs.Transmit.{tx_row}
use Rattle.macsec_rx.specs.declared.RxRow.{RxRow}
use Rattle.macsec_rx.specs.Channels.{rx_row}
use Rattle.macsec_secy.specs.State.{State}

-- a number in hex
abbrev pub hex : ℕ → List ℕ
hex number = digits 16 false number

-- a packet number in hex, with leading zeros up to 16 digits; 48 is the code of the digit zero
abbrev pub packet_number_text : ℕ → List ℕ
packet_number_text number = replicate (16 - length (hex number)) 48 ++ hex number

-- the word for whether an SA is enabled
abbrev pub state_text : Bool → List ℕ
state_text on = if on then codes "on" else codes "off"

-- the word for whether an SA encrypts
abbrev pub mode_text : Bool → List ℕ
mode_text conf = if conf then codes "conf" else codes "int"

-- the line of a transmit SA, if there is one
abbrev pub tx_text : ℕ → Option TxRow → List ℕ
tx_text n None = []
tx_text n (Some row) =
    decimal n ++ codes " tx " ++ decimal row.an ++ codes " " ++ decimal row.key ++ codes " " ++ packet_number_text row.next
    ++ codes " " ++ state_text row.on ++ codes " " ++ mode_text row.conf ++ codes "\n"

-- the line of a receive SA, if there is one
abbrev pub rx_text : ℕ → Option RxRow → List ℕ
rx_text n None = []
rx_text n (Some row) =
    decimal n ++ codes " rx " ++ encode_lower row.sci.0 ++ codes " " ++ decimal row.an ++ codes " " ++ decimal row.key
    ++ codes " " ++ packet_number_text row.next ++ codes " " ++ packet_number_text row.lowest ++ codes " " ++ state_text row.on ++ codes "\n"

-- the association numbers
abbrev pub association_numbers : List ℕ
association_numbers = 0 ∷ 1 ∷ 2 ∷ 3 ∷ []

-- the lines of the SAs of a receive SC, in the order of their ANs
abbrev pub channel_text : ℕ → State → Sci → List ℕ
channel_text n s sci = flat_map (λ an. rx_text n (rx_row s.rx.rows sci an)) association_numbers

-- line n prints the transmit SAs in the order of their ANs, and then the receive SCs in the order of their creation
abbrev pub numbers_text : ℕ → State → List ℕ
numbers_text n s = flat_map (λ an. tx_text n (tx_row s.tx an)) association_numbers ++ flat_map (channel_text n s) s.rx.scis
