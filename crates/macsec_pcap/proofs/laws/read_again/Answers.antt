use Rattle.macsec_pcap.proofs.ReadAgain.{file_of-written}
use Rattle.macsec_pcap.proofs.laws.read_again.Goals as goal

pub returns : goal.returns
returns c = file_of-written
