use Rattle.macsec_secy.proofs.FrameLengths.{lengths_of_protected_frames}
use Rattle.macsec_secy.proofs.laws.lengths_of_protected_frames.Goals as goal

pub returns : goal.returns
returns c = lengths_of_protected_frames c.read_as_sent.ensures
