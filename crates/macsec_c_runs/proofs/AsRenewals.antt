-- A run of calls as a run in which each key is installed as a renewal: after each call both endpoints are the same, but
-- for whether they have renewed a key. So they send, deliver and accept the same.
use Rattle.std.proofs.Common.{◌≡◌, ◌∙◌, ◌++◌, ◌∷◌, ◌||◌, ℕ, zero, suc, List, [], Bool, true, false}
use Rattle.std.proofs.Common.{Option, Some, None, refl, ap, ap₂, sym, subst, if◌then◌else◌, Contains, take}
use Rattle.macsec_aes.specs.Keys.{key_bytes}
use Rattle.macsec_aes.specs.declared.Key.TheVariants.{K256}
use Rattle.macsec_suite.specs.KeyRows.{InstalledKey}
use Rattle.macsec_suite.specs.declared.key_row.NewKey.{NewKey}
use Rattle.macsec_suite.specs.declared.refusal.Refusal.{Refusal}
use Rattle.macsec_suite.specs.declared.suite.Suite.TheVariants.{Gcm128}
use Rattle.macsec_commands.specs.declared.command.Command.{Command}
use Rattle.macsec_commands.specs.declared.command.Command.TheVariants.{Key, RxSa}
use Rattle.macsec_rx.specs.Judge.{Judgement}
use Rattle.macsec_rx.specs.declared.RxRow.{RxRow}
use Rattle.macsec_secy.specs.Commands.{uses}
use Rattle.macsec_secy.specs.Reception.{judgement_of}
use Rattle.macsec_secy.specs.Renewing.{renewal_refusal}
use Rattle.macsec_secy.specs.Sound.{IsSound}
use Rattle.macsec_secy.specs.Step.{Input, client_frame, frame_fault, link_frame, operator_command}
use Rattle.macsec_secy.specs.declared.fault.FrameFault.{FrameFault}
use Rattle.macsec_reserve.specs.Forgetting.{as_taken, fingerprint, forgetting_step, is_forgotten, key_of_fingerprint}
use Rattle.macsec_reserve.specs.Histories.{reported_in}
use Rattle.macsec_reserve.specs.Journal.{sending_name}
use Rattle.macsec_reserve.specs.Keeping.{Keeping, KeepingInput, KeepingOutput, endpoint_input, keeping_step}
use Rattle.macsec_reserve.specs.Keeping.{now_durable}
use Rattle.macsec_reserve.specs.Renewing.{forgetting_refusal, has_name, is_given_up, keeping_renewed, refusal_if}
use Rattle.macsec_ahead.specs.Ahead.{Ahead, Standing, ahead_by, ahead_step, before_this_run, begins_again}
use Rattle.macsec_ahead.specs.Ahead.{command_forgetting}
use Rattle.macsec_ahead.specs.Ahead.{ended_after, is_through, lets_through, not_yet, passes, standing, standing_by}
use Rattle.macsec_ahead.specs.Ends.{Ends}
use Rattle.macsec_ahead.specs.Renewing.{installs_given_up, unless_given_up, unless_refused}
use Rattle.macsec_restarts.proofs.AheadForgets.{field_forgetting, given_up_kept}
use Rattle.macsec_restarts.proofs.RenewingAhead.{renews_field}
use Rattle.macsec_restarts.specs.AheadRuns.{is_valid, newly_accepted, newly_delivered_with}
use Rattle.macsec_restarts.specs.Delivered.{Delivery, newly_delivered}
use Rattle.macsec_restarts.specs.Kept.{RunWith}
use Rattle.macsec_restarts.specs.RenewingOrder.{delivered_by_run, delivered_from_renewing}
use Rattle.macsec_restarts.specs.RenewingRuns.{ahead_renewing_after}
use Rattle.macsec_restarts.specs.RenewingRuns.{IsUsedIn, ahead_renewing_step, sent_by_run, sent_from_renewing}
use Rattle.macsec_restarts.specs.RenewingRuns.{states_of}
use Rattle.macsec_restarts.specs.Sent.{SentIn, newly_sent}
use Rattle.macsec_c_calls.specs.GivenUp.{Call, after_call, after_calls, client, command, durable, link, renewal}
use Rattle.macsec_c_runs.proofs.Calls.{Fits, installs, key_goes, key_stays}
use Rattle.macsec_c_runs.proofs.EndTables.{HasEnds, IsStep, ends_stay, forgets, no_end_of, no_ends_yet, renews, stays}
use Rattle.macsec_c_runs.specs.Runs.{CallRun, IsRun, input_of, opening, reported, sent, sent_by}
use Rattle.macsec_c_runs.specs.Runs.{states}
use Rattle.macsec_c_runs.specs.TwoEnds.{delivered, delivered_by}

-- ---- a call is a step of an endpoint that renews keys

abbrev pub by_given : (b : Bool) (e : Ahead) (key : NewKey) → IsStep e (unless_given_up b e (Key key)).1
by_given true e key = stays
by_given false e key = forgets (endpoint_input (operator_command (Key key)))

abbrev pub call_is : (e : Ahead) (call : Call) → IsStep e (after_call e call)
call_is e (command (Key key)) = by_given (installs_given_up e (Key key)) e key
call_is e (renewal key) = renews key
call_is e call = forgets (input_of call)

-- ---- until a key is renewed, no name is given up

abbrev pub GivesNone : Ahead → Type 0
GivesNone e = e.renews ≡ false → e.k.given_up ≡ []

none_step : (e after : Ahead) → GivesNone e → IsStep e after → GivesNone after
none_step e _ it (forgets input) = λ no.
    field_forgetting (λ k. k.given_up) given_up_kept e input ∙ it (sym (renews_field e input) ∙ no)
none_step e _ it (renews key) = by_refusal (forgetting_refusal e.k key)
  where
    by_refusal : (r : Option Refusal) → GivesNone (unless_refused r key e)
    by_refusal (Some r) = it
    by_refusal None = λ no. cc
none_step e _ it stays = it

fits : (e : Ahead) → GivesNone e → (call : Call) → Fits e call
fits e it (command (Key key)) = λ no. ap given (it no)
  where
    given : List (List ℕ) → Bool
    given names = has_name names (sending_name e.k.salt (key_bytes key.bytes))
        || has_name names (sending_name e.k.salt (fingerprint e.k.salt (key_bytes key.bytes)))
fits e it call = tt

-- ---- whether the endpoint has renewed a key decides nothing, where no command installs one

abbrev pub with_renews : Bool → Ahead → Ahead
with_renews b e = record e { renews = b }

begins_like : (b : Bool) (e : Ahead) (input : Input) → begins_again (with_renews b e) input ≡ begins_again e input
begins_like b e (operator_command (RxSa sci an key ssci lowest)) = refl
begins_like b e input = refl

standing_like : (b : Bool) (e : Ahead) (input : Input) → standing (with_renews b e) input ≡ standing e input
standing_like b e (link_frame frame) = by_parts (judgement_of e.k.secy frame) (frame_fault frame)
    (judgement_of e.k.secy frame).row
  where
    by_parts : (j : Judgement) (fault : Option FrameFault) (row : Option RxRow) →
        standing_by (with_renews b e) j fault row ≡ standing_by e j fault row
    by_parts j None (Some row) = refl
    by_parts j fault row = refl
standing_like b e input = refl

ended_like : (b : Bool) (e : Ahead) (input : Input) (answer : KeepingOutput × Keeping) →
    ended_after (with_renews b e) input answer ≡ ended_after e input answer
ended_like b e (operator_command c) answer = refl
ended_like b e input answer = refl

step_like : (b : Bool) (e : Ahead) (input : Input) (answer : KeepingOutput × Keeping) (again : Bool) (it : Standing) →
    (ahead_by again it (with_renews b e) input answer).1 ≡ with_renews b (ahead_by again it e input answer).1
step_like b e input answer true it = refl
step_like b e input answer false (not_yet at) = refl
step_like b e input answer false (before_this_run at) = refl
step_like b e input answer false passes =
    ap (λ (t : Ends). record e { k = answer.1; ended = t; renews = b }) (ended_like b e input answer)

pub input_like : (b : Bool) (e : Ahead) (input : Input) →
    (ahead_step (with_renews b e) (endpoint_input input)).1 ≡ with_renews b (ahead_step e (endpoint_input input)).1
input_like b e input = ap₂ (λ again it. (ahead_by again it (with_renews b e) input
    (keeping_step e.k (endpoint_input input))).1) (begins_like b e input) (standing_like b e input)
    ∙ step_like b e input (keeping_step e.k (endpoint_input input)) (begins_again e input) (standing e input)

command_like : (b : Bool) (e : Ahead) (c : Command) →
    (command_forgetting (with_renews b e) c).1 ≡ with_renews b (command_forgetting e c).1
command_like b e c = ap (λ again. (ahead_by again passes (with_renews b e) (operator_command c)
    (forgetting_step e.k (endpoint_input (operator_command c)))).1) (begins_like b e (operator_command c))
    ∙ step_like b e (operator_command c) (forgetting_step e.k (endpoint_input (operator_command c)))
    (begins_again e (operator_command c)) passes

pub lets_like : (b : Bool) (e : Ahead) (input : KeepingInput) →
    lets_through (with_renews b e) input ≡ lets_through e input
lets_like b e (now_durable r) = refl
lets_like b e (endpoint_input input) = ap₂ is_through (begins_like b e input) (standing_like b e input)

pub delivers_like : (b : Bool) (e : Ahead) (input : KeepingInput) →
    newly_delivered_with (with_renews b e) input ≡ newly_delivered_with e input
delivers_like b e input = ap (λ lets. if lets then newly_delivered e.k input else []) (lets_like b e input)

accepts_like : (b : Bool) (e : Ahead) (input : KeepingInput) →
    newly_accepted (with_renews b e) input ≡ newly_accepted e input
accepts_like b e input = ap (λ ds. if is_valid e.k.secy input then ds else []) (delivers_like b e input)

-- ---- a refused command as a renewal that is refused

-- a key whose length is wrong
abbrev pub idle_key : NewKey
idle_key = record { number = 0; bytes = K256 []; salt = []; ssci = 0; offset = 0; suite = Some Gcm128 }

abbrev pub idle : KeepingInput
idle = endpoint_input (operator_command (Key idle_key))

idle_stays : (e : Ahead) → (ahead_renewing_step e idle).1 ≡ e
idle_stays e = by_tests (is_given_up e.k (key_bytes idle_key.bytes)) (is_forgotten e.k (key_bytes idle_key.bytes))
  where
    by_tests : (given forgotten : Bool) → unless_refused (refusal_if given (renewal_refusal e.k.secy
        (if forgotten then record idle_key { bytes = key_of_fingerprint e.k.salt idle_key.bytes } else idle_key)))
        idle_key e ≡ e
    by_tests true forgotten = refl
    by_tests false true = refl
    by_tests false false = refl

-- ---- a call as an input

abbrev pub as_input : Ahead → Call → KeepingInput
as_input e (command (Key key)) = if installs e key then input_of (command (Key key)) else idle
as_input e call = input_of call

-- after a step of the endpoint that renews keys, both are alike again
abbrev StepsAlike : Bool → Ahead → Call → Type 0
StepsAlike b e call =
    (c : Bool) × ((ahead_renewing_step (with_renews b e) (as_input e call)).1 ≡ with_renews c (after_call e call))

key_alike : (b : Bool) (e : Ahead) (key : NewKey) → Fits e (command (Key key)) → HasEnds e → (does : Bool) →
    installs e key ≡ does →
    (c : Bool) × ((ahead_renewing_step (with_renews b e) (if does then input_of (command (Key key)) else idle)).1 ≡
    with_renews c (after_call e (command (Key key))))
key_alike b e key fit ends true is =
    let it = key_goes e key fit is in (
      true,
      ap (λ (r : Option Refusal). unless_refused r key (with_renews b e)) it.taken
          ∙ ap (λ (t : Ends). record e { k = keeping_renewed (as_taken e.k key) e.k; ended = t; renews = true })
          (no_end_of e key.number ends it.free)
          ∙ ap (with_renews true) (sym it.after),
    )
key_alike b e key fit ends false is = (b, idle_stays (with_renews b e) ∙ ap (with_renews b) (sym (key_stays e key is)))

steps_alike : (b : Bool) (e : Ahead) (call : Call) → Fits e call → HasEnds e → StepsAlike b e call
steps_alike b e (command (Key key)) fit ends = key_alike b e key fit ends (installs e key) refl
steps_alike b e (command c) fit ends = (b, command_like b e c)
steps_alike b e (renewal key) fit ends = by_refusal (forgetting_refusal e.k key)
  where
    by_refusal : (r : Option Refusal) →
        (c : Bool) × (unless_refused r key (with_renews b e) ≡ with_renews c (unless_refused r key e))
    by_refusal (Some r) = (b, refl)
    by_refusal None = (true, refl)
steps_alike b e (client frame) fit ends = (b, input_like b e (client_frame frame))
steps_alike b e (link frame) fit ends = (b, input_like b e (link_frame frame))
steps_alike b e (durable r) fit ends = (b, refl)

-- a command that installs a key neither sends nor delivers
module _ (X : Type 0) (of : KeepingInput → List X) (none : (key : NewKey) →
    of (endpoint_input (operator_command (Key key))) ≡ []) where
  same_of : (e : Ahead) (call : Call) → of (as_input e call) ≡ of (input_of call)
  same_of e (command (Key key)) = by_test (installs e key)
    where
      by_test : (does : Bool) →
          of (if does then input_of (command (Key key)) else idle) ≡ of (input_of (command (Key key)))
      by_test true = refl
      by_test false = none idle_key ∙ sym (none key)
  same_of e call = refl

pub delivers_same : (b : Bool) (e : Ahead) (call : Call) →
    newly_delivered_with (with_renews b e) (as_input e call) ≡ newly_delivered_with e (input_of call)
delivers_same b e call =
    delivers_like b e (as_input e call) ∙ same_of Delivery (newly_delivered_with e) (λ key. refl) e call

pub accepts_same : (b : Bool) (e : Ahead) (call : Call) →
    newly_accepted (with_renews b e) (as_input e call) ≡ newly_accepted e (input_of call)
accepts_same b e call =
    accepts_like b e (as_input e call) ∙ same_of Delivery (newly_accepted e) (λ key. refl) e call

-- ---- calls as inputs

abbrev pub as_inputs : Ahead → List Call → List KeepingInput
as_inputs e [] = []
as_inputs e (call ∷ calls) = as_input e call ∷ as_inputs (after_call e call) calls

pub record Stands (e : Ahead) (calls : List Call) : Type 0 where
  pub gives_none : GivesNone e
  pub ends : HasEnds e
  pub sound : (n : ℕ) → IsSound (after_calls e (take n calls)).k.secy

pub stands_next : (e : Ahead) (call : Call) (calls : List Call) → Stands e (call ∷ calls) →
    Stands (after_call e call) calls
stands_next e call calls it = record {
  gives_none = none_step e (after_call e call) it.gives_none (call_is e call);
  ends = ends_stay e (after_call e call) (call_is e call) (it.sound 0).rx_keys it.ends;
  sound = λ n. it.sound (suc n);
}

pub record RunsAlike (b : Bool) (e : Ahead) (calls : List Call) : Type 0 where
  pub after : (n : ℕ) → (c : Bool) × (ahead_renewing_after (with_renews b e) (take n (as_inputs e calls)) ≡
      with_renews c (after_calls e (take n calls)))
  pub ends : (c : Bool) × (ahead_renewing_after (with_renews b e) (as_inputs e calls) ≡
      with_renews c (after_calls e calls))
  pub sends : sent_from_renewing (with_renews b e) (as_inputs e calls) ≡ sent_by e calls
  pub delivers : delivered_from_renewing (with_renews b e) (as_inputs e calls) ≡ delivered_by e calls

pub runs_alike : (calls : List Call) (e : Ahead) (b : Bool) → Stands e calls → RunsAlike b e calls
runs_alike [] e b stands = record { after = always; ends = (b, refl); sends = refl; delivers = refl }
  where
    always : (n : ℕ) → (c : Bool) × (ahead_renewing_after (with_renews b e) (take n (as_inputs e [])) ≡
        with_renews c (after_calls e (take n [])))
    always zero = (b, refl)
    always (suc n) = (b, refl)
runs_alike (call ∷ calls) e b stands =
    let it = steps_alike b e call (fits e stands.gives_none call) stands.ends in
    by_step it.0 it.1 (runs_alike calls next it.0 (stands_next e call calls stands))
  where
    next : Ahead
    next = after_call e call

    rest : List KeepingInput
    rest = as_inputs next calls

    by_step : (c : Bool) → (ahead_renewing_step (with_renews b e) (as_input e call)).1 ≡ with_renews c next →
        RunsAlike c next calls → RunsAlike b e (call ∷ calls)
    by_step c is later = record {
      after = moments;
      ends = (later.ends.0, ap (λ a. ahead_renewing_after a rest) is ∙ later.ends.1);
      sends = ap₂ (λ (xs ys : List SentIn). xs ++ ys) (same_of SentIn (newly_sent e.k) (λ key. refl) e call)
          (ap (λ a. sent_from_renewing a rest) is ∙ later.sends);
      delivers = ap₂ (λ (xs ys : List Delivery). xs ++ ys) (delivers_same b e call)
          (ap (λ a. delivered_from_renewing a rest) is ∙ later.delivers);
    }
      where
        moments : (n : ℕ) → (d : Bool) × (ahead_renewing_after (with_renews b e)
            (take n (as_inputs e (call ∷ calls))) ≡ with_renews d (after_calls e (take n (call ∷ calls))))
        moments zero = (b, refl)
        moments (suc n) =
            let it = later.after n in (it.0, ap (λ a. ahead_renewing_after a (take n rest)) is ∙ it.1)

-- ---- a run

abbrev pub as_run : CallRun → RunWith
as_run r = record {
  ahead = r.ahead;
  run = record { journal = r.journal; config = r.config; inputs = as_inputs (opening r) r.calls };
}

pub run_stands : (r : CallRun) → IsRun r → Stands (opening r) r.calls
run_stands r is = record {
  gives_none = λ no. refl;
  ends = no_ends_yet (opening r) refl refl;
  sound = is.sound;
}

pub run_alike : (r : CallRun) → IsRun r → RunsAlike false (opening r) r.calls
run_alike r is = runs_alike r.calls (opening r) false (run_stands r is)

pub state_same : (r : CallRun) → IsRun r → (n : ℕ) → states_of (as_run r) n ≡ states r n
state_same r is n = ap (λ (a : Ahead). a.k.secy) ((run_alike r is).after n).1

pub used_same : (r : CallRun) → IsRun r → (key : InstalledKey) → IsUsedIn (states_of (as_run r)) key →
    IsUsedIn (states r) key
used_same r is key it = record {
  moment = it.moment;
  there = subst (λ s. Contains s.keys key) (state_same r is it.moment) it.there;
  used = subst (λ s. uses s key.number ≡ true) (state_same r is it.moment) it.used;
}

pub sent_same : (r : CallRun) → IsRun r → sent_by_run (as_run r) ≡ sent r
sent_same r is = (run_alike r is).sends

pub delivered_same : (r : CallRun) → IsRun r → delivered_by_run (as_run r) ≡ delivered r
delivered_same r is = (run_alike r is).delivers

-- what is reported durable to it
pub reports_same : (calls : List Call) (e : Ahead) → reported_in (as_inputs e calls) ≡ reported calls
reports_same [] e = refl
reports_same (durable r ∷ calls) e = ap (λ rs. r ∷ rs) (reports_same calls (after_call e (durable r)))
reports_same (command (Key key) ∷ calls) e =
    by_test (installs e key) (reports_same calls (after_call e (command (Key key))))
  where
    rest : List KeepingInput
    rest = as_inputs (after_call e (command (Key key))) calls

    by_test : (does : Bool) → reported_in rest ≡ reported calls →
        reported_in ((if does then input_of (command (Key key)) else idle) ∷ rest) ≡ reported calls
    by_test true later = later
    by_test false later = later
reports_same (call ∷ calls) e = reports_same calls (after_call e call)
