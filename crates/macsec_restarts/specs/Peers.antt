-- The link frames of two ends.
--
-- The ends are the only two members that have the keys. A third member of the connectivity association (CA) breaks the
-- premise that no ICV is forged: its frames open, and neither end sealed them. Each end has one journal, and each of
-- its runs begins beside it: a run of the same SCI and key without the journal, or before the list of happenings, is in
-- no law. Runs of one end come one after another: one endpoint at a time.
use Rattle.macsec_tag.specs.Laws.{AreOctets}
use Rattle.macsec_secy.specs.Step.{link_frame}
use Rattle.macsec_reserve.specs.Keeping.{endpoint_input}
use Rattle.macsec_restarts.specs.Happenings.{Happening, comes_in}

-- a link frame is octets, as any caller passes
abbrev pub HasOctets : Happening → Type 0
HasOctets (comes_in e (endpoint_input (link_frame frame))) = AreOctets frame
HasOctets other = Unit {0}
