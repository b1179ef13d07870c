-- An endpoint with a journal that can also reserve packet numbers (PNs) ahead of receiving. With this option it accepts a
-- PN only if a durable record already reserves it. With and without the option, it remembers where the receive SAs that
-- this run deleted have ended.
use Rattle.std.specs.Prelude.{ℕ, ◌==◌, ◌&&◌, not, nat_lt, nat_le, max, List, [], ◌∷◌, map, Bool, true, false, if◌then◌else◌, Option, Some, None, option_map}
use Rattle.macsec_tag.specs.declared.identifiers.Sci.{Sci}
use Rattle.macsec_suite.specs.declared.refusal.Refusal.TheVariants.{PnFloor}
use Rattle.macsec_commands.specs.declared.command.Command.{Command}
use Rattle.macsec_commands.specs.declared.command.Command.TheVariants.{RxSa}
use Rattle.macsec_commands.specs.declared.config.EndConfig.{EndConfig}
use Rattle.macsec_rx.specs.declared.RxRow.{RxRow}
use Rattle.macsec_rx.specs.Judge.{Judgement}
use Rattle.macsec_secy.specs.declared.fault.FrameFault.{FrameFault}
use Rattle.macsec_secy.specs.Reception.{judgement_of}
use Rattle.macsec_secy.specs.Step.{Input, frame_fault, link_frame, operator_command, refused}
use Rattle.macsec_reserve.specs.declared.reservation.Reservation.{Reservation}
use Rattle.macsec_reserve.specs.Entries.{raised_by}
use Rattle.macsec_reserve.specs.Forgetting.{forgetting_step, is_done}
use Rattle.macsec_reserve.specs.Histories.{Run}
use Rattle.macsec_reserve.specs.Journal.{highest}
use Rattle.macsec_reserve.specs.Keeping.{Keeping, KeepingInput, KeepingOutput, alone, endpoint_input, endpoint_output, keeping_step, noted, now_durable, opened, rx_floor, wanted_last}
use Rattle.macsec_reserve.specs.Replay.{row_name}
use Rattle.macsec_rx.specs.declared.within.RxPn.{RxPn}
use Rattle.macsec_ahead.specs.Ends.{Ends, after_retiring, end_of, ended_by, no_ends, with_ends}

-- the keeping endpoint; whether it reserves ahead of receiving; what was reported durable for its receive SAs; where
-- deleted receive SAs ended; and whether it has renewed a key
pub record Ahead : Type 0 where
  pub k : Keeping
  pub ahead : Bool
  pub taken : List Reservation
  pub ended : Ends
  pub renews : Bool

-- an endpoint opened with a journal, with the option or without it: nothing is reserved
abbrev pub opened_with : Bool → EndConfig → List ℕ → Ahead
opened_with ahead config journal = record { k = opened config journal; ahead = ahead; taken = []; ended = no_ends; renews = false }

-- an endpoint made without a journal, and so without the option
abbrev pub alone_with : EndConfig → Ahead
alone_with config = record { k = alone config; ahead = false; taken = []; ended = no_ends; renews = false }

-- ---- which packet numbers it accepts

-- a PN passes; or this run has not reserved it yet; or an earlier run has reserved it, and may have accepted it
pub data Standing : Type 0 where
  passes : Standing
  not_yet : RxPn → Standing
  before_this_run : RxPn → Standing

-- the standing of a receive SA's PN: the first test that holds decides
abbrev pub standing_of : Ahead → RxRow → ℕ → Standing
standing_of a row n =
    let name = row_name a.k.salt a.k.secy row in
    let at : RxPn = record { sci = row.sci; an = row.an; number = n } in
    if not a.ahead then passes
    else if nat_le n (highest a.k.before name) then before_this_run at
    else if nat_le n (highest a.taken name) then passes
    else not_yet at

-- only a valid frame is tested: one on which step 13 of reception decides
abbrev pub standing_by : Ahead → Judgement → Option FrameFault → Option RxRow → Standing
standing_by a j None (Some row) = if j.step == 13 then standing_of a row j.number else passes
standing_by a j fault row = passes

abbrev pub standing : Ahead → Input → Standing
standing a (link_frame frame) = let j = judgement_of a.k.secy frame in standing_by a j (frame_fault frame) j.row
standing a input = passes

-- ---- what was reported durable

-- the entry of a receive SA
abbrev pub entry_for : Keeping → List Reservation → RxRow → Reservation
entry_for k taken row = record { name = row_name k.salt k.secy row; last = highest taken (row_name k.salt k.secy row) }

-- an entry for each receive SA that there is
abbrev pub for_each_row : Ahead → List Reservation
for_each_row a = map (entry_for a.k a.taken) a.k.secy.rx.rows

-- ---- where deleted SAs ended

-- a command that creates an SA again at a PN which this run may have accepted from it
abbrev pub begins_again : Ahead → Input → Bool
begins_again a (operator_command (RxSa sci an key ssci lowest)) = nat_lt 0 lowest && nat_le lowest (end_of a.ended key sci an)
begins_again a input = false

-- a command adds the ends of the SAs that it deletes, and removes the entries of a key that it retires, but leaves the
-- number for all keys; without a journal nothing is remembered
abbrev pub ended_after : Ahead → Input → KeepingOutput × Keeping → Ends
ended_after a (operator_command c) answer =
    if a.k.keeps then after_retiring c (is_done answer.0) (with_ends (ended_by a.k.secy answer.1.secy) a.ended) else a.ended
ended_after a input answer = a.ended

-- ---- steps

-- a frame that is dropped as not reserved can be presented again once its PN is reserved; a frame whose PN an earlier run
-- may have accepted can never pass, and asks for no record
pub data AheadOutput : Type 0 where
  kept : KeepingOutput → AheadOutput
  dropped_not_reserved : RxPn → AheadOutput
  dropped_before_this_run : RxPn → AheadOutput

abbrev pub ahead_by : Bool → Standing → Ahead → Input → KeepingOutput × Keeping → AheadOutput × Ahead
ahead_by true it a input answer = (kept (endpoint_output (refused PnFloor)), a)
ahead_by false (not_yet at) a input answer = (dropped_not_reserved at, a)
ahead_by false (before_this_run at) a input answer = (dropped_before_this_run at, a)
ahead_by false passes a input answer = (kept answer.0, record a { k = answer.1; ended = ended_after a input answer })

-- the keeping endpoint's step, with two exceptions, in which nothing changes: an SA does not begin again at a PN which this
-- run may have accepted, and with the option a PN that is not reserved is not accepted
abbrev pub ahead_step : Ahead → KeepingInput → AheadOutput × Ahead
ahead_step a (now_durable r) =
    (kept noted, record a { k = (keeping_step a.k (now_durable r)).1; taken = map (raised_by r) (for_each_row a) })
ahead_step a (endpoint_input input) = ahead_by (begins_again a input) (standing a input) a input (keeping_step a.k (endpoint_input input))

-- a command that also forgets the octets of a key that it retires
abbrev pub command_forgetting : Ahead → Command → AheadOutput × Ahead
command_forgetting a c =
    ahead_by (begins_again a (operator_command c)) passes a (operator_command c) (forgetting_step a.k (endpoint_input (operator_command c)))

-- after a list of inputs
abbrev pub ahead_after : Ahead → List KeepingInput → Ahead
ahead_after a [] = a
ahead_after a (input ∷ inputs) = ahead_after (ahead_step a input).1 inputs

-- ---- what to reserve next

-- the record that a receive SA needs to accept up to `amount` PNs after `next`: its own next PN, or the PN of a frame that
-- was dropped
abbrev pub wanted_to_accept : Ahead → ℕ → ℕ → RxRow → Option Reservation
wanted_to_accept a amount next row =
    let name = row_name a.k.salt a.k.secy row in
    option_map (λ last. record { name = name; last = last }) (wanted_last (highest a.taken name) next amount)

-- ---- where an SA begins

-- the highest PN that an earlier run may have accepted from an SA under the key of this number, or that this run may have
-- accepted before it deleted the SA; none if there is no such key
abbrev pub floor_of : Sci → ℕ → Ahead → ℕ → Option ℕ
floor_of sci an a key = option_map (λ last. max last (end_of a.ended key sci an)) (rx_floor sci an a.k key)

-- ---- the keeping endpoint inside

-- what is neither refused nor dropped goes to the keeping endpoint
abbrev pub is_through : Bool → Standing → Bool
is_through true it = false
is_through false passes = true
is_through false (not_yet at) = false
is_through false (before_this_run at) = false

abbrev pub lets_through : Ahead → KeepingInput → Bool
lets_through a (now_durable r) = true
lets_through a (endpoint_input input) = is_through (begins_again a input) (standing a input)

abbrev pub through : Ahead → List KeepingInput → List KeepingInput
through a [] = []
through a (input ∷ inputs) =
    if lets_through a input then input ∷ through (ahead_step a input).1 inputs else through (ahead_step a input).1 inputs

-- ---- runs, with the option or without it

abbrev pub opening_with : Bool → Run → Ahead
opening_with ahead run = opened_with ahead run.config run.journal

abbrev pub closing_with : Bool → Run → Ahead
closing_with ahead run = ahead_after (opening_with ahead run) run.inputs

-- the run of the keeping endpoint inside
abbrev pub run_inside : Bool → Run → Run
run_inside ahead run = record run { inputs = through (opening_with ahead run) run.inputs }
