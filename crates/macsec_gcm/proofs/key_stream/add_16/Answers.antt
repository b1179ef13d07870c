use Rattle.macsec_gcm.proofs.Vectors.{sum_of_vector}
use Rattle.macsec_gcm.proofs.key_stream.add_16.Goals as goal

pub returns : goal.returns
returns c = sum_of_vector 16 c.args.text.now c.args.stream.now c.requires.text_length c.requires.stream_length
