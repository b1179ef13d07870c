-- What the calls of a keeping endpoint return, as outputs.
use Rattle.std.specs.Prelude.{◌≡◌, ℕ, List, true, false, None, Result, Ok, Err}
use Rattle.macsec_commands.specs.Configs.{config_fault}
use Rattle.macsec_commands.specs.declared.config.EndConfig.{EndConfig}
use Rattle.macsec_secy.specs.declared.fault.FrameFault.{FrameFault}
use Rattle.macsec_secy.specs.Answers.{MakesEndpoint, PlansOutput, output_of_sent}
use Rattle.macsec_secy.specs.Step.{Output}
use Rattle.macsec_suite.specs.KeyRows.{InstalledKey}
use Rattle.macsec_reserve.specs.declared.keeper.KeptPlan.{KeptPlan}
use Rattle.macsec_reserve.specs.declared.keeper.KeptPlan.TheVariants as plan
use Rattle.macsec_reserve.specs.declared.keeper.KeptSent.{KeptSent}
use Rattle.macsec_reserve.specs.declared.keeper.KeptSent.TheVariants.{Sent, NoReservation}
use Rattle.macsec_reserve.specs.declared.keeper.OpenFault.{OpenFault}
use Rattle.macsec_reserve.specs.declared.keeper.OpenFault.TheVariants.{Endpoint, NotJournal, Memory}
use Rattle.macsec_reserve.specs.Journal.{is_journal}
use Rattle.macsec_commands.specs.declared.fault.NewFault.{NewFault}
use Rattle.macsec_reserve.specs.Keeping.{Keeping, alone, opened, KeepingOutput, dropped_no_reservation, endpoint_output, noted}

-- of `send`
abbrev pub output_of_kept : Result KeptSent FrameFault → KeepingOutput
output_of_kept (Ok (Sent sent)) = endpoint_output (output_of_sent (Ok sent))
output_of_kept (Ok NoReservation) = dropped_no_reservation
output_of_kept (Err f) = endpoint_output (output_of_sent (Err f))

-- the output is an output of the endpoint, and this holds for it
abbrev pub IfEndpoint : KeepingOutput → (Output → Type 0) → Type 0
IfEndpoint (endpoint_output output) holds = holds output
IfEndpoint dropped_no_reservation holds = ⊥
IfEndpoint noted holds = ⊥

-- of `plan_send`: the plan says what is sent
abbrev pub PlansKept : Result KeptPlan FrameFault → List InstalledKey → List ℕ → KeepingOutput → Type 0
PlansKept (Ok (plan.Plan planned)) keys frame output = IfEndpoint output (PlansOutput (Ok planned) keys frame)
PlansKept (Ok plan.NoReservation) keys frame output = output ≡ dropped_no_reservation
PlansKept (Err f) keys frame output = IfEndpoint output (PlansOutput (Err f) keys frame)

-- of `open`: a file that is no journal, or no endpoint, or out of memory, or the keeping endpoint as it is opened
abbrev pub MakesKeeper : EndConfig → List ℕ → Result Keeping OpenFault → Type 0
MakesKeeper config journal (Ok k) = (is_journal journal ≡ true) × (config_fault config ≡ None) × (k ≡ opened config journal)
MakesKeeper config journal (Err NotJournal) = is_journal journal ≡ false
MakesKeeper config journal (Err (Endpoint f)) = (is_journal journal ≡ true) × MakesEndpoint config (Err f)
MakesKeeper config journal (Err Memory) = (is_journal journal ≡ true) × (config_fault config ≡ None)

-- of `new`: no endpoint, or one without a journal
abbrev pub MakesAlone : EndConfig → Result Keeping NewFault → Type 0
MakesAlone config (Ok k) = (config_fault config ≡ None) × (k ≡ alone config)
MakesAlone config (Err f) = MakesEndpoint config (Err f)
