-- What the calls of an endpoint that can reserve ahead return, as outputs.
use Rattle.std.specs.Prelude.{◌≡◌, ℕ, List, Bool, Result, Ok, Err}
use Rattle.macsec_commands.specs.declared.config.EndConfig.{EndConfig}
use Rattle.macsec_commands.specs.declared.fault.NewFault.{NewFault}
use Rattle.macsec_rx.specs.declared.within.OutsidePn.TheVariants.{Above, Below}
use Rattle.macsec_suite.specs.KeyRows.{InstalledKey}
use Rattle.macsec_secy.specs.declared.answers.LimitedReceived.{LimitedReceived}
use Rattle.macsec_secy.specs.declared.answers.LimitedReceived.TheVariants as by
use Rattle.macsec_secy.specs.declared.fault.FrameFault.{FrameFault}
use Rattle.macsec_secy.specs.Answers.{output_of_received}
use Rattle.macsec_reserve.specs.declared.keeper.KeptPlan.{KeptPlan}
use Rattle.macsec_reserve.specs.declared.keeper.OpenFault.{OpenFault}
use Rattle.macsec_reserve.specs.Answers.{MakesAlone, MakesKeeper, PlansKept}
use Rattle.macsec_reserve.specs.Keeping.{KeepingOutput, endpoint_output}
use Rattle.macsec_ahead.specs.Ahead.{Ahead, AheadOutput, alone_with, dropped_before_this_run, dropped_not_reserved, kept, opened_with}

-- a frame above the limits is not reserved yet, and one below them was reserved by an earlier run
abbrev pub output_of_ahead : Result LimitedReceived FrameFault → AheadOutput
output_of_ahead (Ok (by.Received r)) = kept (endpoint_output (output_of_received (Ok r)))
output_of_ahead (Ok (by.Outside (Above at))) = dropped_not_reserved at
output_of_ahead (Ok (by.Outside (Below at))) = dropped_before_this_run at
output_of_ahead (Err f) = kept (endpoint_output (output_of_received (Err f)))

-- the output is an output of the keeping endpoint, and this holds for it
abbrev pub IfKept : AheadOutput → (KeepingOutput → Type 0) → Type 0
IfKept (kept output) holds = holds output
IfKept (dropped_not_reserved at) holds = ⊥
IfKept (dropped_before_this_run at) holds = ⊥

-- of `plan_send`
abbrev pub PlansAhead : Result KeptPlan FrameFault → List InstalledKey → List ℕ → AheadOutput → Type 0
PlansAhead plan keys frame output = IfKept output (PlansKept plan keys frame)

-- of `open`: what the keeping endpoint's `open` makes, with the option or without it
abbrev pub MakesAhead : Bool → EndConfig → List ℕ → Result Ahead OpenFault → Type 0
MakesAhead ahead config journal (Ok a) = MakesKeeper config journal (Ok a.k) × (a ≡ opened_with ahead config journal)
MakesAhead ahead config journal (Err fault) = MakesKeeper config journal (Err fault)

-- of `new`: no endpoint, or one without a journal
abbrev pub MakesAloneWith : EndConfig → Result Ahead NewFault → Type 0
MakesAloneWith config (Ok a) = MakesAlone config (Ok a.k) × (a ≡ alone_with config)
MakesAloneWith config (Err fault) = MakesAlone config (Err fault)
