-- The lists of what is sealed and delivered, of an endpoint that renews keys: the output for a new key is none of them,
-- and each other step is one that forgets keys.
use Rattle.macsec_ahead.specs.Ahead.{kept}
use Rattle.macsec_reserve.specs.{Forgetting.command_taken, Renewing.forgetting_refusal}
use Rattle.macsec_restarts.{
  proofs.{
    Forgetting.{delivers_each_listed_forgetting, delivers_from_sas_forgetting, same_output},
    Listed.{none_if, seals_each_frame},
    Names.{[], ◌≡◌, Ahead, ahead_by, ahead_forgetting_step, Answer, begins_again, Bool, client_frame, Command},
    Names.{command_output, endpoint_input, endpoint_output, false, forgetting_step, Input, is_through, Keeping},
    Names.{keeping_step, KeepingInput, KeepingOutput, Key, leaves, lets_through, link_frame, may_go, newly_sealed},
    Names.{None, now_durable, operator_command, Option, passes, refl, Refusal, retired_by, Some, Standing, standing},
    Names.{taken, uncontrolled_frame},
  },
  specs.{
    AheadRuns.MatchesDeliveriesWith,
    RenewingLists.{DeliversEachListedRenewing, DeliversFromSasRenewing, MatchesUsesWith, SealsEachFrameRenewing},
    Sent.MatchesUses,
    StrictLists.IsFromSaWith,
  },
}

-- ---- what is delivered

pub delivers_each_listed_renewing : (a : Ahead) (input : KeepingInput) → DeliversEachListedRenewing a input
delivers_each_listed_renewing a (endpoint_input (operator_command (Key key))) = by_refusal (forgetting_refusal a.k key)
  where
    by_refusal : (r : Option Refusal) → MatchesDeliveriesWith a (endpoint_input (operator_command (Key key)))
        (kept (endpoint_output (command_output r)))
    by_refusal None = refl
    by_refusal (Some r) = refl
delivers_each_listed_renewing a input = delivers_each_listed_forgetting a input

pub delivers_from_sas_renewing : (a : Ahead) (input : KeepingInput) → DeliversFromSasRenewing a input
delivers_from_sas_renewing a (endpoint_input (operator_command (Key key))) = λ strict.
    by_refusal (forgetting_refusal a.k key)
  where
    by_refusal : (r : Option Refusal) → IsFromSaWith (kept (endpoint_output (command_output r)))
    by_refusal None = tt
    by_refusal (Some r) = tt
delivers_from_sas_renewing a input = delivers_from_sas_forgetting a input

-- ---- what is sealed

-- a command seals nothing
by_command : (k : Keeping) (c c' : Command) (o : KeepingOutput) →
    MatchesUses k (endpoint_input (operator_command c')) o → MatchesUses k (endpoint_input (operator_command c)) o
by_command k c c' (endpoint_output (leaves octets (Some key))) it =
    let no : endpoint_input (operator_command c') ≡ endpoint_input (client_frame it.client) = it.came in cc
by_command k c c' o it = none_if (may_go k (operator_command c))

by_answer : (a : Ahead) (input : KeepingInput) (given : Input) (again : Bool) (it : Standing) (answer : Answer) →
    (is_through again it ≡ false → newly_sealed a.k input ≡ []) → MatchesUses a.k input answer.0 →
    MatchesUsesWith a input (ahead_by again it a given answer).0
by_answer a input given false passes answer none matches = matches
by_answer a input given again it answer none matches = none refl

-- what does not reach the keeping endpoint is no client frame
none_sealed : (a : Ahead) (input : KeepingInput) → lets_through a input ≡ false → newly_sealed a.k input ≡ []
none_sealed a (endpoint_input (client_frame frame)) is = cc
none_sealed a (now_durable r) is = refl
none_sealed a (endpoint_input (operator_command c)) is = none_if (may_go a.k (operator_command c))
none_sealed a (endpoint_input (uncontrolled_frame frame)) is = none_if (may_go a.k (uncontrolled_frame frame))
none_sealed a (endpoint_input (link_frame frame)) is = none_if (may_go a.k (link_frame frame))

by_input : (a : Ahead) (input : Input) → MatchesUsesWith a (endpoint_input input)
    (ahead_by (begins_again a input) (standing a input) a input (keeping_step a.k (endpoint_input input))).0
by_input a input = by_answer a (endpoint_input input) input (begins_again a input) (standing a input)
    (keeping_step a.k (endpoint_input input)) (none_sealed a (endpoint_input input))
    (seals_each_frame a.k (endpoint_input input))

seals_forgetting : (a : Ahead) (input : KeepingInput) → MatchesUsesWith a input (ahead_forgetting_step a input).0
seals_forgetting a (now_durable r) = refl
seals_forgetting a (endpoint_input (operator_command c)) =
    let command = endpoint_input (operator_command c) in
    let told = endpoint_input (operator_command (command_taken a.k c)) in
    by_answer a command (operator_command c) (begins_again a (operator_command c)) passes (forgetting_step a.k command)
    (λ is. none_if (may_go a.k (operator_command c))) (rw (same_output (retired_by command)
    (keeping_step a.k (taken a.k command))) (by_command a.k c (command_taken a.k c) (keeping_step a.k told).0
    (seals_each_frame a.k told)))
seals_forgetting a (endpoint_input (client_frame frame)) = by_input a (client_frame frame)
seals_forgetting a (endpoint_input (uncontrolled_frame frame)) = by_input a (uncontrolled_frame frame)
seals_forgetting a (endpoint_input (link_frame frame)) = by_input a (link_frame frame)

pub seals_each_frame_renewing : (a : Ahead) (input : KeepingInput) → SealsEachFrameRenewing a input
seals_each_frame_renewing a (endpoint_input (operator_command (Key key))) = by_refusal (forgetting_refusal a.k key)
  where
    by_refusal : (r : Option Refusal) → MatchesUsesWith a (endpoint_input (operator_command (Key key)))
        (kept (endpoint_output (command_output r)))
    by_refusal None = none_if (may_go a.k (operator_command (Key key)))
    by_refusal (Some r) = none_if (may_go a.k (operator_command (Key key)))
seals_each_frame_renewing a input = seals_forgetting a input
