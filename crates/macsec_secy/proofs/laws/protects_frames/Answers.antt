use Rattle.macsec_secy.proofs.Protections.{protects}
use Rattle.macsec_secy.proofs.laws.protects_frames.Goals as goal

pub returns : goal.returns
returns c = protects (record { undoes = c.open_undoes_seal.ensures; injective = c.sealing_is_injective.ensures; lengths = c.sealed_lengths.ensures }) c.read_as_sent.ensures
