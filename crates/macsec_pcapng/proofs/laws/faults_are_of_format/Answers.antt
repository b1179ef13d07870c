use Rattle.macsec_pcapng.proofs.Formats.{captures_format}
use Rattle.macsec_pcapng.proofs.laws.faults_are_of_format.Goals as goal

pub returns : goal.returns
returns c = captures_format
