use Rattle.macsec_pcap.proofs.Ahead.{opens}
use Rattle.macsec_pcap.proofs.reader.PcapReader.new.Goals as goal

pub returns-clause-opened : goal.returns-clause-opened
returns-clause-opened g c = opens _ _ c.in_ok-form.form c.in_ok-form.ensures
