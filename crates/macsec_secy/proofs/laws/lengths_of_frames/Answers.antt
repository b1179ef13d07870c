use Rattle.macsec_secy.proofs.FrameLengths.{lengths_of_frames}
use Rattle.macsec_secy.proofs.laws.lengths_of_frames.Goals as goal

pub returns : goal.returns
returns c = lengths_of_frames (record { undoes = c.open_undoes_seal.ensures; lengths = c.sealed_lengths.ensures; sent = c.read_as_sent.ensures })
