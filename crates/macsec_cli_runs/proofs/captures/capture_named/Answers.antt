-- What the result of the run says of the result of the program.
use Rattle.{
  std.proofs.Common.refl,
  macsec_pcap.specs.declared.fault.PcapFault.TheVariants.Memory,
  macsec_capture.specs.declared.fault.CaptureFault.TheVariants.Pcap,
  macsec_cli_runs.proofs.Flushed.{fails_as, leaves_lines, runs_files},
}
use Rattle.macsec_cli_runs.proofs.captures.capture_named.Goals as goal

pub returns-in_default-2-clause-failure : goal.returns-in_default-2-clause-failure
returns-in_default-2-clause-failure g c = (Pcap Memory, refl)

pub returns-clause-failure : goal.returns-clause-failure
returns-clause-failure g c = fails_as c.args.paths _ _ c.run_and_flush.ensures.unwritten

pub returns-clause-unwritten : goal.returns-clause-unwritten
returns-clause-unwritten g c = leaves_lines _ _ _ _ _ c.run_and_flush.ensures.unwritten

pub returns-clause-run : goal.returns-clause-run
returns-clause-run g c = runs_files _ _ _ _ _ _ _ c.run_and_flush.ensures.some
