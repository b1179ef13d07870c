-- A client frame that the other end sent.
use Rattle.std.specs.Prelude.{◌≡◌, ℕ, List, Contains}
use Rattle.macsec_restarts.specs.Sent.{SentIn}

-- the client frame is among what was sent, under a key of these octets and with this packet number
pub record WasSent (sends : List SentIn) (bytes frame : List ℕ) (number : ℕ) : Type 0 where
  pub send : SentIn
  pub among : Contains sends send
  pub of_frame : send.frame ≡ frame
  pub under : send.seal.key ≡ bytes
  pub of_number : send.number ≡ number
