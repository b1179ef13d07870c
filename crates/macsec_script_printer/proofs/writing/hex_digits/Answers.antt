-- By the octets that were written. This proof is here for speed.
use Rattle.macsec_script_printer.proofs.writing.hex_digits.Goals as goal

pub returns : goal.returns
returns c = rw c.unwrap.ensures at c.encode_to_slice.ensures.written
