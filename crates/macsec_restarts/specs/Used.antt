-- What a later run has to read of what an earlier run has used. Nothing is asked of numbers that were reserved and not
-- used, nor of names under which the later run does not send: so a journal may lose the names of keys that do not come
-- again, and an endpoint that takes over may begin below what the one before it had reserved.
use Rattle.std.specs.Prelude.{◌≡◌, ◌≤◌, List}
use Rattle.macsec_suite.specs.CipherUses.{CipherUse}
use Rattle.macsec_reserve.specs.Histories.{Run}
use Rattle.macsec_reserve.specs.Journal.{highest, reservations, salt_of, sending_name}
use Rattle.macsec_restarts.specs.Delivered.{Delivery}
use Rattle.macsec_restarts.specs.Origin.{WasSent}
use Rattle.macsec_restarts.specs.Sent.{SentIn}

-- ---- what was used

-- if the later run sends y under the key octets of x, its journal reserves the packet number of x under their name
abbrev pub Covers : Run → SentIn → SentIn → Type 0
Covers later x y =
    x.seal.key ≡ y.seal.key →
    x.number ≤ highest (reservations later.journal) (sending_name (salt_of later.journal) y.seal.key)

abbrev pub seal_of : SentIn → CipherUse
seal_of x = x.seal

-- ---- origin of what is listed

-- the delivered frame is among what was sent, under the octets of its key and with its packet number
abbrev pub WasSentAs : List SentIn → Delivery → Type 0
WasSentAs sends d = WasSent sends d.bytes d.frame d.number
