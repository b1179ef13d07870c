use Rattle.macsec_pcap.proofs.FilledRooms.{Consumes-more, length-read}
use Rattle.macsec_pcap.proofs.filling.fill.Goals as goal

pub loop-filled-preserved : goal.loop-filled-preserved
loop-filled-preserved g c =
    let before = c.loop-filled.invariant in
    let read = c.in-Ok.ensures in (
      length-read c.loop-filled.room c.read.new.buf _ c.loop-filled.filled c.in-Ok.count before.0 read.bound.0,
      Consumes-more _ _ _ c.loop-filled.room c.read.new.buf _ c.loop-filled.filled c.in-Ok.count before.0 read.bound.0 before.1 read.bytes.0,
    )
