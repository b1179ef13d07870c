-- What a whole run of calls gives out: the answers to its calls, one for each, in their order. A caller hands the
-- protected frames in them to the link, and the client frames to the client.
use Rattle.std.specs.Prelude.{◌≡◌, ℕ, List, [], ◌∷◌, map}
use Rattle.std.specs.List.{All}
use Rattle.macsec_commands.specs.declared.command.Command.TheVariants.{Key}
use Rattle.macsec_commands.specs.declared.mode.Mode.TheVariants.{Strict}
use Rattle.macsec_ahead.specs.Ahead.{Ahead, AheadOutput}
use Rattle.macsec_restarts.specs.RenewingOutputs.{as_delivered, delivered_frames, frame_of_use, of_sas, outputs_from}
use Rattle.macsec_restarts.specs.RenewingOutputs.{protected_frames}
use Rattle.macsec_restarts.specs.Used.{seal_of}
use Rattle.macsec_c_calls.specs.GivenUp.{Call, after_call, command}
use Rattle.macsec_c_runs.specs.Runs.{CallRun, input_of, opening, sent, states}
use Rattle.macsec_c_runs.specs.SingleCalls.{answer_to}
use Rattle.macsec_c_runs.specs.TwoEnds.{delivered}

abbrev pub answers_from : Ahead → List Call → List AheadOutput
answers_from e [] = []
answers_from e (call ∷ calls) = answer_to e call ∷ answers_from (after_call e call) calls

abbrev pub answers_of : CallRun → List AheadOutput
answers_of r = answers_from (opening r) r.calls

-- the protected frames in the answers are those that are listed as sent, each once and in their order
abbrev pub SendsWhatIsListed : CallRun → Type 0
SendsWhatIsListed r = protected_frames (answers_of r) ≡ map frame_of_use (map seal_of (sent r))

-- the client frames in them that are delivered from SAs are those that are listed as delivered, each once and in their
-- order
abbrev pub DeliversFromSasWhatIsListed : CallRun → Type 0
DeliversFromSasWhatIsListed r = of_sas (delivered_frames (answers_of r)) ≡ map as_delivered (delivered r)

-- if the mode is always Strict, no others are delivered at the controlled port
abbrev pub DeliversWhatIsListed : CallRun → Type 0
DeliversWhatIsListed r =
    ((n : ℕ) → (states r n).options.mode ≡ Strict) → delivered_frames (answers_of r) ≡ map as_delivered (delivered r)

-- a key that the call installs, it installs as a renewal
abbrev pub InstallsByRenewal : Call → Type 0
InstallsByRenewal (command (Key key)) = ⊥
InstallsByRenewal call = Unit {0}

-- if all calls do so, the answers are the outputs of `macsec_restarts` for the inputs that the calls are
abbrev pub AnswersAreOutputs : CallRun → Type 0
AnswersAreOutputs r =
    All InstallsByRenewal r.calls → answers_of r ≡ outputs_from (opening r) (map input_of r.calls)
