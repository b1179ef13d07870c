-- A key stays in the table, whatever the input.
use Rattle.std.proofs.Common.{◌∷◌, ℕ, List, [], Bool, true, false, Option, Some, None}
use Rattle.macsec_suite.specs.KeyRows.{InstalledKey, new_row, suite_of}
use Rattle.macsec_suite.specs.declared.refusal.Refusal.{Refusal}
use Rattle.macsec_commands.specs.declared.command.Command.{Command}
use Rattle.macsec_commands.specs.declared.command.Command.TheVariants.{Key, Retire}
use Rattle.macsec_tx.specs.Transmit.{keys_after}
use Rattle.macsec_tx.specs.declared.TxRow.{TxRow}
use Rattle.macsec_secy.proofs.KeysKept.{IsThere, there_noting, there_retiring, there_with_more}
use Rattle.macsec_secy.specs.Commands.{effect, refusal, unless_refused}
use Rattle.macsec_secy.specs.Reception.{judgement_of, state_after_receiving}
use Rattle.macsec_secy.specs.State.{State}
use Rattle.macsec_secy.specs.Step.{Input, Output, client_frame, frame_fault, leaves, link_frame, operator_command}
use Rattle.macsec_secy.specs.Step.{received_output, sending_of, sent_output, state_after_sending, step}
use Rattle.macsec_secy.specs.Step.{uncontrolled_frame, unless_fault}
use Rattle.macsec_secy.specs.declared.fault.FrameFault.{FrameFault}
use Rattle.macsec_reserve.proofs.Steps.{by_tests}
use Rattle.macsec_reserve.specs.Keeping.{Keeping, KeepingInput, endpoint_input, is_below_floor, keeping_step, may_go}
use Rattle.macsec_reserve.specs.Keeping.{now_durable}

by_effect : (s : State) (c : Command) (n : ℕ) → IsThere s.keys n → IsThere (effect s c).keys n
by_effect s (Key key) n there = there_with_more s.keys (new_row (suite_of s.config.suite key) key ∷ []) n there
by_effect s (Retire m) n there = there_retiring s.keys m n there
by_effect s c n there = there

by_refusal : (s : State) (c : Command) (r : Option Refusal) (n : ℕ) → IsThere s.keys n →
    IsThere (unless_refused r s c).keys n
by_refusal s c None n there = by_effect s c n there
by_refusal s c (Some r) n there = there

after_sending : (keys : List InstalledKey) (by : Option TxRow) (n : ℕ) → IsThere keys n → IsThere (keys_after keys by) n
after_sending keys None n there = there
after_sending keys (Some row) n there = there_noting keys row.key row.next n there

by_fault : (s after : State) (output : Output) (f : Option FrameFault) (n : ℕ) → IsThere s.keys n →
    IsThere after.keys n → IsThere (unless_fault f s (output, after)).1.keys n
by_fault s after output None n there stays = stays
by_fault s after output (Some f) n there stays = there

by_step : (s : State) (input : Input) (n : ℕ) → IsThere s.keys n → IsThere (step s input).1.keys n
by_step s (operator_command c) n there = by_refusal s c (refusal s c) n there
by_step s (client_frame frame) n there =
    by_fault s (state_after_sending s frame (sending_of s frame)) (sent_output frame (sending_of s frame).leaving)
    (frame_fault frame) n there (after_sending s.keys (sending_of s frame).by n there)
by_step s (uncontrolled_frame frame) n there = by_fault s s (leaves frame None) (frame_fault frame) n there there
by_step s (link_frame frame) n there =
    by_fault s (state_after_receiving s frame (judgement_of s frame)) (received_output frame (judgement_of s frame))
    (frame_fault frame) n there there

-- after the step of the keeping endpoint too
pub there_keeping : (k : Keeping) (input : KeepingInput) (n : ℕ) → IsThere k.secy.keys n →
    IsThere (keeping_step k input).1.secy.keys n
there_keeping k (now_durable r) n there = there
there_keeping k (endpoint_input input) n there = by_both (is_below_floor k input) (may_go k input)
  where
    by_both : (below go : Bool) → IsThere (by_tests below go k (step k.secy input)).1.secy.keys n
    by_both false true = by_step k.secy input n there
    by_both below go = there
