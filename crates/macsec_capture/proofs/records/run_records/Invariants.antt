use Rattle.{
  std.proofs.Common.{◌≡◌, ◌+◌, None},
  macsec_secy.specs.Sound.IsSound,
  macsec_pcap.specs.Writing.{contents, fault_of, lent},
  macsec_capture.proofs.Taken.AreTaken,
}
use Rattle.macsec_capture.proofs.records.run_records.Given as goal

-- the records before number k were taken, and the reader has k places fewer
abbrev pub invariant-loop-k : goal.invariant-loop-k
invariant-loop-k g l =
    AreTaken l.direction l.initial.endpoint l.initial.reader.ahead l.reader.ahead
    (record { output = contents g.W.Write.contents l.initial.writer; text = g.T.Write.contents l.initial.text })
    (record { output = contents g.W.Write.contents l.writer; text = g.T.Write.contents l.text }) l.endpoint l.k
    × (l.k + l.reader.places ≡ 16777216)
    × IsSound l.endpoint
    × (fault_of l.writer ≡ None)
    × ((lent l.writer).ghost_name ≡ (lent l.initial.writer).ghost_name)
