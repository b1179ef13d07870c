-- A section of a pcapng file, as far as it was read: its byte order and its interfaces; and whether the file has
-- described an Ethernet interface, in this section or before it.
use Rattle.std.specs.Prelude.{Bool, List}
use Rattle.macsec_pcap.specs.declared.form.Order.{Order}
use Rattle.macsec_pcapng.specs.declared.interfaces.Interface.{Interface}

pub record Section : Type 0 where
  pub order : Order
  pub interfaces : List Interface
  pub has_ethernet : Bool
