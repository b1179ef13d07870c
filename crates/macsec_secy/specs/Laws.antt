-- Laws of the machine: under a key, packet numbers rise in the order of their use, so none is used twice.
use Rattle.std.specs.Prelude.{◌≡◌, ◌≢◌, ◌<◌, ℕ, List, [], ◌∷◌, ◌++◌, Option, Some, None}
use Rattle.std.specs.List.{AllPairs}
use Rattle.macsec_tx.specs.declared.TxRow.{TxRow}
use Rattle.macsec_commands.specs.declared.config.EndConfig.{EndConfig}
use Rattle.macsec_secy.specs.declared.fault.FrameFault.{FrameFault}
use Rattle.macsec_secy.specs.State.{State, start}
use Rattle.macsec_secy.specs.Step.{Input, operator_command, client_frame, uncontrolled_frame, link_frame, frame_fault, sending_of, step}

-- the number of a key, and a packet number used under it
abbrev pub UsedNumber : Type 0
UsedNumber = ℕ × ℕ

abbrev pub number_of_row : Option TxRow → List UsedNumber
number_of_row None = []
number_of_row (Some row) = (row.key, row.next) ∷ []

abbrev pub number_unless_fault : Option FrameFault → Option TxRow → List UsedNumber
number_unless_fault None by = number_of_row by
number_unless_fault (Some fault) by = []

-- the packet number that an input uses
abbrev pub number_used : State → Input → List UsedNumber
number_used s (operator_command c) = []
number_used s (client_frame frame) = number_unless_fault (frame_fault frame) (sending_of s frame).by
number_used s (uncontrolled_frame frame) = []
number_used s (link_frame frame) = []

-- the packet numbers that a list of inputs uses, in order
abbrev pub numbers_used : State → List Input → List UsedNumber
numbers_used s [] = []
numbers_used s (input ∷ inputs) = number_used s input ++ numbers_used (step s input).1 inputs

-- of two uses under the same key, the later one has the greater packet number
abbrev pub RisesUnderOneKey : UsedNumber → UsedNumber → Type 0
RisesUnderOneKey first later = first.0 ≡ later.0 → first.1 < later.1

-- the packet numbers under each key rise, for every list of inputs since the creation of the endpoint
abbrev pub UsesRisingNumbers : EndConfig → List Input → Type 0
UsesRisingNumbers config inputs = AllPairs RisesUnderOneKey (numbers_used (start config) inputs)

-- no two uses are the same, for every list of inputs since the creation of the endpoint
abbrev pub UsesNoNumberTwice : EndConfig → List Input → Type 0
UsesNoNumberTwice config inputs = AllPairs (λ a b. a ≢ b) (numbers_used (start config) inputs)
