-- What an end sends protected, over its runs: each client frame with its packet number (PN) and its use of the cipher.
use Rattle.std.specs.Prelude.{◌≡◌, ◌<◌, ℕ, List, [], ◌∷◌, map, filter, Option, Some, None, if◌then◌else◌}
use Rattle.macsec_gcm.specs.Octets.{same_octets}
use Rattle.macsec_tag.specs.Frame.{in_a_row}
use Rattle.macsec_suite.specs.CipherUses.{CipherUse}
use Rattle.macsec_suite.specs.KeyRows.{the_key}
use Rattle.macsec_tx.specs.declared.TxRow.{TxRow}
use Rattle.macsec_tx.specs.Transmit.{use_sent}
use Rattle.macsec_secy.specs.declared.fault.FrameFault.{FrameFault}
use Rattle.macsec_secy.specs.Accepts.{parts_of}
use Rattle.macsec_secy.specs.State.{State, tx_options}
use Rattle.macsec_secy.specs.Step.{client_frame, frame_fault, leaves, sending_of}
use Rattle.macsec_reserve.specs.Histories.{newly_sealed}
use Rattle.macsec_reserve.specs.Keeping.{Keeping, KeepingInput, KeepingOutput, endpoint_input, endpoint_output}
use Rattle.macsec_reserve.specs.Keeping.{keeping_step, may_go}

-- ---- the list of what was sent

pub record SentIn : Type 0 where
  pub seal : CipherUse
  pub number : ℕ
  pub frame : List ℕ

abbrev pub sent_by : State → List ℕ → Option FrameFault → Option TxRow → List SentIn
sent_by s frame None (Some row) =
    record { seal = use_sent (tx_options s) (the_key s.keys row.key) row frame; number = row.next; frame = frame } ∷ []
sent_by s frame fault by = []

-- what an input adds to the list: the client frame, if an SA protects it and its PN is reserved
abbrev pub newly_sent : Keeping → KeepingInput → List SentIn
newly_sent k (endpoint_input (client_frame frame)) =
    if may_go k (client_frame frame) then sent_by k.secy frame (frame_fault frame) (sending_of k.secy frame).by else []
newly_sent k other = []

-- what was sent under a key with these octets
abbrev pub sent_under : List ℕ → List SentIn → List SentIn
sent_under bytes sends = filter (λ x. same_octets x.seal.key bytes) sends

-- ---- it is what leaves, and what is sealed

-- a protected frame is made of a client frame by the SA that protects it: its octets are the parts of the one use of
-- the cipher that the input seals
pub record IsOfOneUse (k : Keeping) (input : KeepingInput) (octets : List ℕ) (key : ℕ) : Type 0 where
  pub client : List ℕ
  pub came : input ≡ endpoint_input (client_frame client)
  pub row : TxRow
  pub by : (sending_of k.secy client).by ≡ Some row
  pub of_key : row.key ≡ key
  pub octets_are : octets ≡ in_a_row (parts_of k.secy client row)
  pub uses : newly_sealed k input ≡ use_sent (tx_options k.secy) (the_key k.secy.keys row.key) row client ∷ []

-- the uses of the cipher that an input seals, by its output: one for a protected frame, otherwise none
abbrev pub MatchesUses : Keeping → KeepingInput → KeepingOutput → Type 0
MatchesUses k input (endpoint_output (leaves octets (Some key))) = IsOfOneUse k input octets key
MatchesUses k input other = newly_sealed k input ≡ []

abbrev pub SealsEachFrame : Keeping → KeepingInput → Type 0
SealsEachFrame k input = MatchesUses k input (keeping_step k input).0

-- the list has one entry for each use of the cipher, and the entry has that use
abbrev pub ListsEachUse : Keeping → KeepingInput → Type 0
ListsEachUse k input = map (λ (x : SentIn). x.seal) (newly_sent k input) ≡ newly_sealed k input

-- ---- its packet numbers

-- of two client frames protected under the same key octets, the later one has the higher PN
abbrev pub Rises : SentIn → SentIn → Type 0
Rises x y = x.seal.key ≡ y.seal.key → x.number < y.number
