-- A step of an endpoint that forgets retired keys, by the step of the keeping endpoint inside; and what no step changes
-- of it.
use Rattle.macsec_restarts.{
  proofs.{
    AheadInside.{stays_by, takes_by},
    Names.{◌∙◌, ◌≡◌, Ahead, ahead_by, ahead_forgetting_step, Answer, before_stays, begins_again, Bool, endpoint_input},
    Names.{false, forgetting, forgetting_step, given_up_stays, if◌then◌else◌, Input, Keeping, keeping_step},
    Names.{KeepingInput, lets_through, None, now_durable, operator_command, Option, refl, retired_by, salt_stays},
    Names.{Some, standing, taken, then_forget, true, ℕ},
  },
  specs.AheadForgetting.{StepsForgetting, TakesTheForgettingStep},
}

-- ---- a step of the endpoint that forgets, by the step of the keeping endpoint inside

pub forgetting_is : (l : Ahead) (input : Input) → ahead_forgetting_step l (endpoint_input input) ≡
    ahead_by (begins_again l input) (standing l input) l input (forgetting_step l.k (endpoint_input input))
forgetting_is l (operator_command c) = refl
forgetting_is l _ = refl

pub takes_step : (l : Ahead) (input : KeepingInput) → lets_through l input ≡ true → TakesTheForgettingStep l input
takes_step l (now_durable r) _ = record { output = refl; after = refl }
takes_step l (endpoint_input input) is =
    let it = takes_by (begins_again l input) (standing l input) l input
    (forgetting_step l.k (endpoint_input input)) is in
    record {
      output = rw (forgetting_is l input, it.0);
      after = rw (forgetting_is l input, it.1);
    }

pub forgets_inside : (l : Ahead) (input : KeepingInput) → lets_through l input ≡ true →
    (ahead_forgetting_step l input).1.k ≡ (forgetting_step l.k input).1
forgets_inside l input is = (takes_step l input is).after

pub forgetting_stays : (l : Ahead) (input : KeepingInput) → lets_through l input ≡ false →
    (ahead_forgetting_step l input).1 ≡ l
forgetting_stays l (now_durable r) is = cc
forgetting_stays l (endpoint_input input) is = rw (
  forgetting_is l input,
  stays_by _ _ input _ is,
)

pub steps_forgetting : (l : Ahead) (input : KeepingInput) → StepsForgetting l input
steps_forgetting l input = record { takes = takes_step l input; stays = forgetting_stays l input }

-- ---- what no step changes

pub forgets_field : {X : Type 0} (g : Keeping → X) → ((k : Keeping) (n : ℕ) → g (forgetting k n) ≡ g k) →
    (o : Option ℕ) (answer : Answer) → g (then_forget o answer).1 ≡ g answer.1
forgets_field g _ None _ = refl
forgets_field g same (Some n) answer = by_both _
  where
    by_both : (b : Bool) → g (if b then forgetting answer.1 n else answer.1) ≡ g answer.1
    by_both true = same answer.1 n
    by_both false = refl

pub salt_kept : (k : Keeping) (input : KeepingInput) → (forgetting_step k input).1.salt ≡ k.salt
salt_kept k input = forgets_field (λ x. x.salt) (λ x n. refl) (retired_by input)
    (keeping_step k (taken k input)) ∙ salt_stays k (taken k input)

pub given_up_kept : (k : Keeping) (input : KeepingInput) → (forgetting_step k input).1.given_up ≡ k.given_up
given_up_kept k input = forgets_field (λ x. x.given_up) (λ x n. refl) (retired_by input)
    (keeping_step k (taken k input)) ∙ given_up_stays k (taken k input)

pub before_kept : (k : Keeping) (input : KeepingInput) → (forgetting_step k input).1.before ≡ k.before
before_kept k input = forgets_field (λ x. x.before) (λ x n. refl) (retired_by input)
    (keeping_step k (taken k input)) ∙ before_stays k (taken k input)

-- what holds of the keeping endpoint, and of it after its step, holds of it after a step that forgets
pub by_forgetting : (P : Keeping → Type 0) (l : Ahead) (input : KeepingInput) → P l.k →
    P (forgetting_step l.k input).1 → P (ahead_forgetting_step l input).1.k
by_forgetting P l input stays goes = by_test (lets_through l input) refl
  where
    by_test : (b : Bool) → lets_through l input ≡ b → P (ahead_forgetting_step l input).1.k
    by_test true lets = rw (forgets_inside l input lets) goes
    by_test false lets = rw (forgetting_stays l input lets) stays

pub field_forgetting : {X : Type 0} (g : Keeping → X) →
    ((k : Keeping) (input : KeepingInput) → g (forgetting_step k input).1 ≡ g k) → (l : Ahead) (input : KeepingInput) →
    g (ahead_forgetting_step l input).1.k ≡ g l.k
field_forgetting g same l input = by_forgetting (λ k. g k ≡ g l.k) l input refl (same l.k input)
