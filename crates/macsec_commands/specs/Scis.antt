-- SCIs.
use Rattle.std.specs.Prelude.{◌≡◌, length}
use Rattle.macsec_tag.specs.declared.identifiers.Sci.{Sci}
use Rattle.macsec_tag.specs.Laws.{AreOctets}

-- an SCI has 8 octets
pub record IsSci (sci : Sci) : Type 0 where
  pub count : length sci.0 ≡ 8
  pub octets : AreOctets sci.0
