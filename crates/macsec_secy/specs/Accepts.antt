-- The law of acceptance: a frame that one endpoint sends for a client frame is accepted by an endpoint that has the
-- matching SA, and gives the client frame.
use Rattle.std.specs.Prelude.{◌≡◌, ◌≢◌, ◌≤◌, ◌<◌, ◌+◌, ◌^◌, ℕ, List, [], ◌++◌, length, true, Some, None}
use Rattle.macsec_tag.specs.declared.identifiers.Sci.{Sci}
use Rattle.macsec_tag.specs.Frame.{MpduParts, in_a_row}
use Rattle.macsec_tag.specs.Table.{reading, tagged}
use Rattle.macsec_suite.specs.Suites.{is_xpn}
use Rattle.macsec_suite.specs.KeyRows.{InstalledKey, the_key}
use Rattle.macsec_tx.specs.declared.TxRow.{TxRow}
use Rattle.macsec_tag.specs.Limits.{max_frame_len}
use Rattle.macsec_tx.specs.Transmit.{parts_sent, use_sent}
use Rattle.macsec_rx.specs.declared.RxRow.{RxRow}
use Rattle.macsec_commands.specs.declared.mode.Mode.TheVariants.{Disabled}
use Rattle.macsec_rx.specs.declared.Verdict.TheVariants.{Passed}
use Rattle.macsec_rx.specs.Judge.{at_row, in_use, sci_of, use_to_open}
use Rattle.macsec_secy.specs.Reception.{judgement_of}
use Rattle.macsec_secy.specs.State.{State, tx_options}
use Rattle.macsec_secy.specs.Step.{frame_fault, link_frame, received, sending_of, step}
use Rattle.macsec_secy.specs.Sound.{IsSound}

-- the key of a receive SA matches a transmit SA's key: the bytes, suite and offset are the same; with extended packet
-- numbers the salt is too, and the receive SA's SSCI is the own SSCI of the transmit SA's key
pub record HasSameKey (sender receiver : InstalledKey) (of_row : ℕ) : Type 0 where
  pub bytes : receiver.bytes ≡ sender.bytes
  pub suite : receiver.suite ≡ sender.suite
  pub offset : receiver.offset ≡ sender.offset
  pub salt : is_xpn sender.suite ≡ true → receiver.salt ≡ sender.salt
  pub ssci : is_xpn sender.suite ≡ true → of_row ≡ sender.ssci

-- the receiver validates frames; the SCI that it finds for the sender's frame is the sender's; its SA with that SCI and
-- association number is enabled, and its key matches; the packet number is not late nor, if it is extended, too high to
-- be recovered
pub record CanAccept (sender receiver : State) (tx : TxRow) (rx : RxRow) (p : MpduParts) : Type 0 where
  pub not_disabled : receiver.options.mode ≢ Disabled
  pub sci : sci_of receiver.rx.scis p ≡ Some sender.config.sci
  pub on : in_use receiver.rx.rows p.tag.an (Some sender.config.sci) ≡ Some rx
  pub key : HasSameKey (the_key sender.keys tx.key) (the_key receiver.keys rx.key) rx.ssci
  pub not_late : rx.lowest ≤ tx.next
  pub near : is_xpn (the_key sender.keys tx.key).suite ≡ true → tx.next < rx.lowest + 2 ^ 31

-- these octets, for example padding, may follow a frame of these parts: if its SL is 0 there are none, and the frame
-- with them has at most 9,248 octets
pub record CanComeBehind (p : MpduParts) (behind : List ℕ) : Type 0 where
  pub none : p.tag.sl ≡ 0 → behind ≡ []
  pub most : length (in_a_row p ++ behind) ≤ max_frame_len

-- the frame passes, on the SA with this SCI and number, and the client frame is delivered
abbrev pub IsPassed : State → Sci → ℕ → List ℕ → List ℕ → Type 0
IsPassed receiver sci an frame client = (step receiver (link_frame frame)).0 ≡ received Passed (Some (sci, an)) frame (Some client)

-- the parts of the frame that the sender's SA makes of a client frame
abbrev pub parts_of : State → List ℕ → TxRow → MpduParts
parts_of sender client tx = parts_sent (tx_options sender) (the_key sender.keys tx.key) tx client

-- the octets after a frame are its padding
abbrev pub padded_by : MpduParts → List ℕ → MpduParts
padded_by p behind = record p { padding = behind }

-- the frame, with the octets after it, passes; it is read as its parts; step 13 decides, for this SA and with the
-- sender's packet number; and the cipher opens exactly what the sender sealed
pub record IsAccepted (sender receiver : State) (client : List ℕ) (tx : TxRow) (rx : RxRow) (behind : List ℕ) : Type 0 where
  pub passed : IsPassed receiver sender.config.sci tx.an (in_a_row (parts_of sender client tx) ++ behind) client
  pub reads : reading (in_a_row (parts_of sender client tx) ++ behind) ≡ tagged (padded_by (parts_of sender client tx) behind)
  pub judged : judgement_of receiver (in_a_row (parts_of sender client tx) ++ behind) ≡ at_row rx tx.next 13 Passed (Some client)
  pub opens : use_to_open (the_key receiver.keys rx.key) rx tx.next (padded_by (parts_of sender client tx) behind) ≡
      use_sent (tx_options sender) (the_key sender.keys tx.key) tx client

abbrev pub AcceptsSent : State → State → List ℕ → TxRow → RxRow → List ℕ → Type 0
AcceptsSent sender receiver client tx rx behind =
    IsSound sender → IsSound receiver → frame_fault client ≡ None → (sending_of sender client).by ≡ Some tx →
    CanAccept sender receiver tx rx (parts_of sender client tx) → CanComeBehind (parts_of sender client tx) behind →
    IsAccepted sender receiver client tx rx behind
