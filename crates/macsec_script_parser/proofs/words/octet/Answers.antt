-- One octet is read, and it is the result.
use Rattle.{std.proofs.Common.{◌∙◌, ap, sym}, macsec_script_parser.specs.Fields.{as_octet, map_ok}}
use Rattle.macsec_script_parser.proofs.words.octet.Goals as goal

pub returns : goal.returns
returns c = ap (map_ok as_octet) (sym c.in_ok-octets.was ∙ c.fixed_octets.ensures)
