use Rattle.macsec_secrecy.proofs.{Complete.encrypted_octets_may_differ, Shown.{frames_are_alike, link_frames_show}}
use Rattle.macsec_secrecy.proofs.runs.link_frames_show.Goals as goal

pub returns-clause-frames : goal.returns-clause-frames
returns-clause-frames c = link_frames_show

pub returns-clause-alike : goal.returns-clause-alike
returns-clause-alike c = frames_are_alike

pub returns-clause-free : goal.returns-clause-free
returns-clause-free c = encrypted_octets_may_differ
