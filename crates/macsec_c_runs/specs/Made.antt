-- The run that code makes (`made`).
use Rattle.std.specs.Prelude.{ℕ, List, map, Bool}
use Rattle.macsec_commands.specs.declared.config.EndConfig.{EndConfig}
use Rattle.macsec_c_runs.specs.declared.calling.MadeCall.{MadeCall}
use Rattle.macsec_c_runs.specs.Calling.{call_of}
use Rattle.macsec_c_runs.specs.Runs.{CallRun}

-- the run of these calls
abbrev pub run_of : List ℕ → EndConfig → Bool → List MadeCall → CallRun
run_of journal config ahead calls =
    record { journal = journal; config = config; ahead = ahead; calls = map call_of calls }
