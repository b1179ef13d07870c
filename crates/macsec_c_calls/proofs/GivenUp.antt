-- Octets that are given up stay so, by the laws of the keeping endpoint.
use Rattle.std.proofs.Common.{◌≡◌, ◌∙◌, ◌⊎◌, ◌&&◌, ℕ, List, [], ◌∷◌, Bool, true, false, Option, Some, None, refl, ap}
use Rattle.std.proofs.Common.{subst, sym, if◌then◌else◌}
use Rattle.macsec_aes.specs.Keys.{key_bytes}
use Rattle.macsec_aes.specs.declared.Key.{Key as KeyOctets}
use Rattle.macsec_suite.specs.declared.key_row.NewKey.{NewKey}
use Rattle.macsec_suite.specs.declared.refusal.Refusal.{Refusal}
use Rattle.macsec_suite.specs.KeyRows.{the_key}
use Rattle.macsec_suite.specs.Refusals.{is_number_used}
use Rattle.macsec_commands.specs.declared.command.Command.TheVariants.{Key}
use Rattle.macsec_secy.specs.Renewing.{renewal_refusal}
use Rattle.macsec_secy.specs.Step.{client_frame, link_frame, operator_command}
use Rattle.macsec_reserve.specs.Forgetting.{as_taken, fingerprint, forgetting_step, is_forgotten, key_of_fingerprint}
use Rattle.macsec_reserve.specs.Keeping.{Keeping, KeepingInput, endpoint_input, now_durable}
use Rattle.macsec_reserve.specs.Renewing.{GivesUpOctets, RefusesGivenUp, StaysGivenUp, StaysGivenUpBy}
use Rattle.macsec_reserve.specs.Renewing.{forgetting_refusal, is_given_up, keeping_renewed, refusal_if}
use Rattle.macsec_reserve.specs.Renewing.{unless_refused as unless_not_taken}
use Rattle.macsec_ahead.specs.Ahead.{Ahead, Standing, ahead_by, before_this_run, begins_again, not_yet, passes}
use Rattle.macsec_ahead.specs.Ahead.{standing}
use Rattle.macsec_ahead.specs.Renewing.{installs_given_up, unless_given_up, unless_refused}
use Rattle.macsec_c_calls.specs.Commands.{status_of_ahead, status_of_refusal}
use Rattle.macsec_c_calls.specs.GivenUp.{AreGivenUp, Call, GivesUp, RefusesOctets, StayGivenUp, after_call, client}
use Rattle.macsec_c_calls.specs.GivenUp.{command, durable, link, renewal}

-- the laws
pub record KeeperLaws : Type 0 where
  pub gives_up : (k : Keeping) (key : NewKey) (bytes : List ℕ) → GivesUpOctets k key bytes
  pub stays : (k : Keeping) (key : NewKey) (bytes : List ℕ) → StaysGivenUp k key bytes
  pub forever : (k : Keeping) (input : KeepingInput) (bytes : List ℕ) → StaysGivenUpBy k input bytes
  pub refuses : (k : Keeping) (key : NewKey) → RefusesGivenUp k key

-- a key that is taken is not refused as it is taken
fits : (b : Bool) (r : Option Refusal) → refusal_if b r ≡ None → r ≡ None
fits true r none = cc
fits false r none = none

taken_number : (b : Bool) (bytes : KeyOctets) (key : NewKey) →
    (if b then record key { bytes = bytes } else key).number ≡ key.number
taken_number true bytes key = refl
taken_number false bytes key = refl

after_one : KeeperLaws → (e : Ahead) (call : Call) (bytes : List ℕ) → AreGivenUp e bytes →
    AreGivenUp (after_call e call) bytes
after_one laws e (command c) bytes it = by_given (installs_given_up e c)
  where
    by_again : (b : Bool) →
        AreGivenUp (ahead_by b passes e (operator_command c) (forgetting_step e.k (endpoint_input
        (operator_command c)))).1 bytes
    by_again true = it
    by_again false = (it.0, laws.forever e.k (endpoint_input (operator_command c)) bytes it.1)

    by_given : (b : Bool) → AreGivenUp (unless_given_up b e c).1 bytes
    by_given true = it
    by_given false = by_again (begins_again e (operator_command c))
after_one laws e (renewal key) bytes it = by_refusal (forgetting_refusal e.k key) refl
  where
    by_refusal : (r : Option Refusal) → forgetting_refusal e.k key ≡ r → AreGivenUp (unless_refused r key e) bytes
    by_refusal (Some r) is = it
    by_refusal None is = (
      refl,
      subst (λ (r : Option Refusal). is_given_up (unless_not_taken r (as_taken e.k key) e.k) bytes ≡ true) (fits
          (is_given_up e.k (key_bytes key.bytes)) _ is)
          (laws.stays e.k (as_taken e.k key) bytes it.1),
    )
after_one laws e (client frame) bytes it = (it.0, laws.forever e.k (endpoint_input (client_frame frame)) bytes it.1)
after_one laws e (link frame) bytes it = by_standing (standing e (link_frame frame))
  where
    by_standing : (s : Standing) →
        AreGivenUp (ahead_by false s e (link_frame frame) (forgetting_step e.k (endpoint_input
        (link_frame frame)))).1 bytes
    by_standing passes = (it.0, laws.forever e.k (endpoint_input (link_frame frame)) bytes it.1)
    by_standing (not_yet at) = it
    by_standing (before_this_run at) = it
after_one laws e (durable r) bytes it = (it.0, laws.forever e.k (now_durable r) bytes it.1)

pub stay_given_up : KeeperLaws → (e : Ahead) (calls : List Call) (bytes : List ℕ) → StayGivenUp e calls bytes
stay_given_up laws e [] bytes it = it
stay_given_up laws e (call ∷ calls) bytes it = stay_given_up laws (after_call e call) calls bytes
    (after_one laws e call bytes it)

pub gives_up : KeeperLaws → (e : Ahead) (key : NewKey) (bytes : List ℕ) → GivesUp e key bytes
gives_up laws e key bytes taken used of =
    subst (λ (r : Option Refusal). AreGivenUp (unless_refused r key e) bytes) (sym taken) (
      refl,
      at_number
          (as_taken e.k key).number same used of,
    )
  where
    same : (as_taken e.k key).number ≡ key.number
    same = taken_number (is_forgotten e.k (key_bytes key.bytes)) (key_of_fingerprint e.k.salt key.bytes) key

    Has : ℕ → Type 0
    Has n = ((the_key e.k.secy.keys n).bytes ≡ bytes) ⊎ ((the_key e.k.secy.keys n).bytes ≡ fingerprint e.k.salt bytes)

    at_number : (n : ℕ) → n ≡ key.number → is_number_used e.k.secy.keys key.number ≡ true → Has key.number →
        is_given_up (keeping_renewed (as_taken e.k key) e.k) bytes ≡ true
    at_number n is used' has =
        laws.gives_up e.k (as_taken e.k key) bytes (ap (λ m. is_number_used e.k.secy.keys m) same ∙ used') (subst Has
        (sym same) has)

pub refuses_octets : KeeperLaws → (e : Ahead) (key : NewKey) → RefusesOctets e key
refuses_octets laws e key it =
    let given : installs_given_up e (Key key) ≡ true = ap (λ (b : Bool). b && is_given_up e.k
    (key_bytes key.bytes)) it.0 ∙ it.1 in (
      ap (λ (b : Bool). (status_of_ahead (unless_given_up b e (Key key)).0, (unless_given_up b e (Key key)).1)) given,
      ap (λ (r : Option Refusal). (status_of_refusal r, unless_refused r key e)) (laws.refuses e.k key it.1).0,
    )
