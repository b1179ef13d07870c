-- The calls for jobs, at handles of endpoints, keys and slots. An empty handle is refused first, in this order: the
-- endpoint's, the slot's, the key's.
use Rattle.std.specs.Prelude.{◌≡◌, ℕ, List, true, Option, Some, None, Ok, Err}
use Rattle.macsec_suite.specs.KeyRows.{key_row}
use Rattle.macsec_ahead.specs.Ahead.{Ahead}
use Rattle.macsec_jobs.specs.declared.planned_key.PlannedKey.{PlannedKey}
use Rattle.macsec_jobs.specs.Slots.{SlotState, is_idle}
use Rattle.macsec_c_values.specs.Arguments.{Named}
use Rattle.macsec_c_values.specs.Statuses.{done_status, empty_status, status_of_argument_fault, status_of_new_fault}
use Rattle.macsec_c_values.specs.Statuses.{taken_status}
use Rattle.macsec_c_calls.specs.declared.jobs.Finished.{Finished}
use Rattle.macsec_c_calls.specs.declared.jobs.Planned.{Planned}
use Rattle.macsec_c_calls.specs.Jobs.{FinishesFrame, OpensWith, PlansToReceive, PlansToSend, SealsWith}
use Rattle.macsec_c_calls.specs.Jobs.{parts_of_finished, unplanned}
use Rattle.macsec_c_calls.specs.ReceivedParts.{unreceived}
use Rattle.macsec_c_calls.specs.TakenKeys.{TakesKey}
use Rattle.macsec_commands.specs.declared.fault.NewFault.TheVariants.{Memory}

-- ---- keys

-- the key of this number in an endpoint is taken into an empty handle
abbrev pub TakesHeld : Option PlannedKey → Option Ahead → Named ℕ → ℕ → Option PlannedKey → Type 0
TakesHeld (Some key) held number status after = (status ≡ taken_status) × (after ≡ Some key)
TakesHeld None None number status after = (status ≡ empty_status) × (after ≡ None)
TakesHeld None (Some e) (Err f) status after = (status ≡ status_of_argument_fault f) × (after ≡ None)
TakesHeld None (Some e) (Ok n) status after = TakesKey (key_row e.k.secy.keys n) n status after

-- ---- slots

-- a slot without a frame is made in an empty handle; or out of memory
abbrev pub MakesSlot : Option SlotState → ℕ → Option SlotState → Type 0
MakesSlot (Some s) status after = (status ≡ taken_status) × (after ≡ Some s)
MakesSlot None status (Some s) = (status ≡ done_status) × (is_idle s.work ≡ true)
MakesSlot None status None = status ≡ status_of_new_fault Memory

-- a slot gives up its frame
abbrev pub ClearsHeld : Option SlotState → ℕ → Option SlotState → Type 0
ClearsHeld None status after = (status ≡ empty_status) × (after ≡ None)
ClearsHeld (Some s) status None = ⊥
ClearsHeld (Some s) status (Some left) = (status ≡ done_status) × (is_idle left.work ≡ true)

-- ---- plans

abbrev pub PlansHeld : Option Ahead → Option SlotState → List ℕ → Planned → Option Ahead → Option SlotState → Type 0
PlansHeld None s frame result after left = (result ≡ unplanned empty_status) × (after ≡ None) × (left ≡ s)
PlansHeld (Some e) None frame result after left = (result ≡ unplanned empty_status) × (after ≡ Some e) × (left ≡ None)
PlansHeld (Some e) (Some s) frame result None left = ⊥
PlansHeld (Some e) (Some s) frame result (Some after) None = ⊥
PlansHeld (Some e) (Some s) frame result (Some after) (Some left) = PlansToSend e s frame result after left

abbrev pub TakesFrame : Option Ahead → Option SlotState → List ℕ → Planned → Option SlotState → Type 0
TakesFrame None s frame result left = (result ≡ unplanned empty_status) × (left ≡ s)
TakesFrame (Some e) None frame result left = (result ≡ unplanned empty_status) × (left ≡ None)
TakesFrame (Some e) (Some s) frame result None = ⊥
TakesFrame (Some e) (Some s) frame result (Some left) = PlansToReceive e s frame result left

-- ---- jobs

abbrev pub SealsHeld : Option SlotState → Option PlannedKey → List ℕ → ℕ → ℕ → List ℕ → ℕ → Option SlotState → Type 0
SealsHeld None key out written status out_after written_after left =
    (status ≡ empty_status) × (out_after ≡ out) × (written_after ≡ written) × (left ≡ None)
SealsHeld (Some s) None out written status out_after written_after left =
    (status ≡ empty_status) × (out_after ≡ out) × (written_after ≡ written) × (left ≡ Some s)
SealsHeld (Some s) (Some key) out written status out_after written_after None = ⊥
SealsHeld (Some s) (Some key) out written status out_after written_after (Some left) = SealsWith s key out written
    status out_after written_after left

abbrev pub OpensHeld : Option SlotState → Option PlannedKey → ℕ → Option SlotState → Type 0
OpensHeld None key status left = (status ≡ empty_status) × (left ≡ None)
OpensHeld (Some s) None status left = (status ≡ empty_status) × (left ≡ Some s)
OpensHeld (Some s) (Some key) status None = ⊥
OpensHeld (Some s) (Some key) status (Some left) = OpensWith s key status left

-- ---- receiving

abbrev pub FinishesHeld : Option Ahead → Option SlotState → List ℕ → Finished → List ℕ → Option Ahead → Option SlotState
    → Type 0
FinishesHeld None s out result out_after after left = (parts_of_finished result out_after ≡ unreceived empty_status) ×
    (result.length ≡ 0) × (out_after ≡ out) × (after ≡ None) × (left ≡ s)
FinishesHeld (Some e) None out result out_after after left = (parts_of_finished result out_after ≡ unreceived
    empty_status) × (result.length ≡ 0) × (out_after ≡ out) × (after ≡ Some e) × (left ≡ None)
FinishesHeld (Some e) (Some s) out result out_after None left = ⊥
FinishesHeld (Some e) (Some s) out result out_after (Some after) None = ⊥
FinishesHeld (Some e) (Some s) out result out_after (Some after) (Some left) = FinishesFrame e s out result out_after
    after left
