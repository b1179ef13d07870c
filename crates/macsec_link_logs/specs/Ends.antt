-- An end: an endpoint with the logs of what its clients sent and of what was delivered.
use Rattle.std.specs.Prelude.{List, []}
use Rattle.macsec_commands.specs.declared.config.EndConfig.{EndConfig}
use Rattle.macsec_secy.specs.State.{State, start}
use Rattle.macsec_secy.specs.Step.{Input, Output}
use Rattle.macsec_link_logs.specs.Logs.{SentLogs, DeliveryLog, sent_after, delivered_after}

-- an endpoint; what its clients sent; and what was delivered, one log for each accepted command that creates a receive
-- SA, in order
pub record EndState : Type 0 where
  pub state : State
  pub sent : SentLogs
  pub delivered : List DeliveryLog

-- a new end: nothing was sent or delivered yet
abbrev pub new_end : EndConfig → EndState
new_end config = record { state = start config; sent = []; delivered = [] }

-- an end after an input, given the endpoint's output and state
abbrev pub end_after : EndState → Input → Output × State → EndState
end_after e input answer = record {
  state = answer.1;
  sent = sent_after input answer.0 e.sent;
  delivered = delivered_after input answer.0 e.delivered;
}
