-- What a write without a fault has written. It is proved by case: a mutant that ignores the fault is refused quickly.
use Rattle.{
  std.{proofs.Common.{◌≡◌, ℕ, List, rules, Option, Some, None, Result, Ok, Err}, specs.Io.KnownBytes.Appends},
  macsec_pcap.specs.{Writing.Writes, Written.record_octets, declared.fault.PcapFault.PcapFault},
}
use Rattle.macsec_capture.proofs.records.write_frame.Goals as goal

one_written : (fault : Option PcapFault) (old new : Option (List ℕ)) (seconds fraction : ℕ) (frame : List ℕ)
    (result : Result (Unit {0}) PcapFault) → fault ≡ None → result ≡ Ok tt →
    Writes fault old new seconds fraction frame result → Appends old new (record_octets seconds fraction frame)
one_written None old new seconds fraction frame (Ok done) none ok written = written.1
one_written None old new seconds fraction frame (Err other) none ok written = cc
one_written (Some other) old new seconds fraction frame result none ok written = cc

pub returns-clause-no_fault : goal.returns-clause-no_fault
returns-clause-no_fault g c = search rules

pub returns-clause-output : goal.returns-clause-output
returns-clause-output g c =
    rw c.in-Some.is
    (one_written _ _ _ _ _ c.in-Some.frame.now c.write.result (search rules) (search rules) c.write.ensures.written)
