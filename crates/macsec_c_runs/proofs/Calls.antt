-- What a command that installs a key does: the same as a renewal of the key, or nothing.
use Rattle.std.proofs.Common.{◌≡◌, ◌∙◌, ◌&&◌, ◌||◌, ◌++◌, ◌∷◌, [], Bool, true, false, not, Option, Some, None}
use Rattle.std.proofs.Common.{List, refl, ap, sym, if◌then◌else◌, set}
use Rattle.std.specs.Prelude.{is_none}
use Rattle.macsec_aes.specs.Keys.{key_bytes}
use Rattle.macsec_suite.specs.declared.key_row.NewKey.{NewKey}
use Rattle.macsec_suite.specs.declared.refusal.Refusal.{Refusal}
use Rattle.macsec_suite.specs.declared.refusal.Refusal.TheVariants.{KeyLength, KeyNumberUsed, KeyRepeated, Offset}
use Rattle.macsec_suite.specs.declared.refusal.Refusal.TheVariants.{Window}
use Rattle.macsec_suite.specs.declared.suite.Suite.{Suite}
use Rattle.macsec_suite.specs.Keys.{has_wrong_length, has_wrong_offset}
use Rattle.macsec_suite.specs.KeyRows.{keys_with, suite_of}
use Rattle.macsec_suite.specs.Refusals.{first_refusal, install_refusals, is_number_used, is_repeated, is_retired}
use Rattle.macsec_suite.specs.Refusals.{is_too_wide}
use Rattle.macsec_suite.specs.Renewing.{keys_renewing}
use Rattle.macsec_commands.specs.declared.command.Command.TheVariants.{Key}
use Rattle.macsec_secy.proofs.AfterCommands.{none_hold}
use Rattle.macsec_secy.specs.Commands.{refusal, unless_refused as unless_command_refused, uses}
use Rattle.macsec_secy.specs.Renewing.{renewal_refusal}
use Rattle.macsec_secy.specs.State.{State}
use Rattle.macsec_secy.specs.Step.{operator_command, step}
use Rattle.macsec_reserve.specs.declared.reservation.Reservation.{Reservation}
use Rattle.macsec_reserve.proofs.Steps.{by_tests}
use Rattle.macsec_reserve.specs.Forgetting.{as_taken, is_forgotten, key_of_fingerprint}
use Rattle.macsec_reserve.specs.Journal.{sending_name}
use Rattle.macsec_reserve.specs.Keeping.{Keeping, endpoint_input, key_name, keeping_step}
use Rattle.macsec_reserve.specs.Renewing.{forgetting_refusal, is_given_up, keeping_renewed, place_of, refusal_if}
use Rattle.macsec_ahead.specs.Ahead.{Ahead, command_forgetting}
use Rattle.macsec_ahead.specs.Ends.{Ends, ended_by, with_ends}
use Rattle.macsec_ahead.specs.Renewing.{installs_given_up, unless_given_up}
use Rattle.macsec_ahead.specs.declared.ends.EndedSa.{EndedSa}
use Rattle.macsec_c_calls.specs.GivenUp.{Call, after_call, command}
use Rattle.macsec_c_runs.proofs.EndTables.{none_gone}

-- ---- the key is taken

-- it is the machine's step
key_step : (k : Keeping) (key : NewKey) → (keeping_step k (endpoint_input (operator_command (Key key)))).1 ≡
    record k { secy = unless_command_refused (refusal k.secy (Key key)) k.secy (Key key) }
key_step k key = by_keeps k.keeps
  where
    by_keeps : (b : Bool) → (by_tests (b && false) (not b || true) k (step k.secy (operator_command (Key key)))).1 ≡
        record k { secy = unless_command_refused (refusal k.secy (Key key)) k.secy (Key key) }
    by_keeps true = refl
    by_keeps false = refl

-- with a number that no key has, a renewal is not refused either
free_number : (s : State) (key : NewKey) → refusal s (Key key) ≡ None → is_number_used s.keys key.number ≡ false
free_number s key none =
    (none_hold (install_refusals (suite_of s.config.suite key) s.options.window s.keys key) none).1.1.0

renews_too : (s : State) (key : NewKey) → refusal s (Key key) ≡ None → renewal_refusal s key ≡ None
renews_too s key none = ap (λ (taken : Bool). first_refusal ((KeyLength, has_wrong_length suite key.bytes)
    ∷ (Offset, has_wrong_offset suite key.offset) ∷ (KeyNumberUsed, taken)
    ∷ (KeyRepeated, is_repeated s.keys (key_bytes key.bytes)) ∷ (Window, is_too_wide suite s.options.window) ∷ []))
    (taken_is (not (uses s key.number)) (is_number_used s.keys key.number) (is_retired s.keys key.number)
    (free_number s key none)) ∙ none
  where
    suite : Suite
    suite = suite_of s.config.suite key

    taken_is : (renews used retired : Bool) → used ≡ false → (if renews then used && not retired else used) ≡ used
    taken_is true true retired free = cc
    taken_is true false retired free = refl
    taken_is false used retired free = refl

-- and leaves the same
same_key : (k : Keeping) (key : NewKey) → refusal k.secy (Key key) ≡ None →
    record k { secy = unless_command_refused (refusal k.secy (Key key)) k.secy (Key key) } ≡ keeping_renewed key k
same_key k key none =
    ap (λ (r : Option Refusal). record k { secy = unless_command_refused r s (Key key) }) none
    ∙ by_use (not (uses s key.number))
    ∙ sym (ap (λ (used : Bool). after_with (not (uses s key.number)) used) (free_number s key none))
  where
    s : State
    s = k.secy

    suite : Suite
    suite = suite_of s.config.suite key

    new : Reservation
    new = record { name = sending_name k.salt (key_bytes key.bytes); last = 0 }

    after_with : Bool → Bool → Keeping
    after_with unused used = record k {
      secy = record s { keys = if unused && used then keys_renewing suite s.keys key else keys_with suite s.keys key };
      granted = if used then set k.granted (place_of s.keys key.number) new else k.granted;
      given_up = if used then k.given_up ++ key_name k.salt s.keys key.number ∷ [] else k.given_up;
    }

    by_use : (unused : Bool) → record k { secy = record s { keys = keys_with suite s.keys key } } ≡
        after_with unused false
    by_use true = refl
    by_use false = refl

-- it has the number that it asks for
taken_number : (k : Keeping) (key : NewKey) → (as_taken k key).number ≡ key.number
taken_number k key = by_test (is_forgotten k (key_bytes key.bytes))
  where
    by_test : (b : Bool) →
        (if b then record key { bytes = key_of_fingerprint k.salt key.bytes } else key).number ≡ key.number
    by_test true = refl
    by_test false = refl

-- ---- the ends of deleted SAs stay

-- no receive SA is deleted, so no end is added
key_after : (e : Ahead) (key : NewKey) (after : Keeping) →
    (keeping_step e.k (endpoint_input (operator_command (Key (as_taken e.k key))))).1 ≡ after →
    ended_by e.k.secy after.secy ≡ [] → (command_forgetting e (Key key)).1 ≡ record e { k = after }
key_after e key after is none = ap (λ (k : Keeping). record e { k = k; ended = ended k }) is
    ∙ ap (λ (t : Ends). record e { k = after; ended = t }) (by_keeps e.k.keeps)
  where
    ended : Keeping → Ends
    ended k = if e.k.keeps then with_ends (ended_by e.k.secy k.secy) e.ended else e.ended

    by_keeps : (b : Bool) → (if b then with_ends (ended_by e.k.secy after.secy) e.ended else e.ended) ≡ e.ended
    by_keeps true = ap (λ (es : List EndedSa). with_ends es e.ended) none
    by_keeps false = refl

-- the machine's step, at the keeping endpoint inside
pub key_leaves : (e : Ahead) (key : NewKey) → (command_forgetting e (Key key)).1 ≡ record e {
  k = record e.k {
    secy = unless_command_refused (refusal e.k.secy (Key (as_taken e.k key))) e.k.secy
        (Key (as_taken e.k key));
  };
}
key_leaves e key = key_after e key (after (refusal e.k.secy (Key taken))) (key_step e.k taken)
    (none (refusal e.k.secy (Key taken)))
  where
    taken : NewKey
    taken = as_taken e.k key

    after : Option Refusal → Keeping
    after r = record e.k { secy = unless_command_refused r e.k.secy (Key taken) }

    none : (r : Option Refusal) → ended_by e.k.secy (after r).secy ≡ []
    none None = none_gone e.k.secy
    none (Some r) = none_gone e.k.secy

-- receive SAs, and the ends of those that were deleted, stay
pub record KeepsSas (e after : Ahead) : Type 0 where
  pub rx : after.k.secy.rx ≡ e.k.secy.rx
  pub ended : after.ended ≡ e.ended

pub key_keeps : (e : Ahead) (key : NewKey) → KeepsSas e (after_call e (command (Key key)))
key_keeps e key = by_given (installs_given_up e (Key key))
  where
    by_refusal : (r : Option Refusal) →
        (unless_command_refused r e.k.secy (Key (as_taken e.k key))).rx ≡ e.k.secy.rx
    by_refusal None = refl
    by_refusal (Some r) = refl

    by_given : (b : Bool) → KeepsSas e (unless_given_up b e (Key key)).1
    by_given true = record { rx = refl; ended = refl }
    by_given false = record {
      rx = ap (λ (x : Ahead). x.k.secy.rx) (key_leaves e key)
          ∙ by_refusal (refusal e.k.secy (Key (as_taken e.k key)));
      ended = ap (λ (x : Ahead). x.ended) (key_leaves e key);
    }

-- ---- a command that installs a key

-- the octets are not given up, unless the endpoint has renewed a key, and so refuses them
abbrev pub Fits : Ahead → Call → Type 0
Fits e (command (Key key)) = e.renews ≡ false → is_given_up e.k (key_bytes key.bytes) ≡ false
Fits e call = Unit {0}

abbrev pub installs : Ahead → NewKey → Bool
installs e key = is_none (refusal e.k.secy (Key (as_taken e.k key))) && not (installs_given_up e (Key key))

-- then a renewal of the key is not refused, and leaves the same, except that the endpoint has renewed a key, and that a
-- renewal forgets the ends of SAs under the key that had the number
pub record Installs (e : Ahead) (key : NewKey) : Type 0 where
  pub taken : forgetting_refusal e.k key ≡ None
  pub free : is_number_used e.k.secy.keys key.number ≡ false
  pub after : after_call e (command (Key key)) ≡ record e { k = keeping_renewed (as_taken e.k key) e.k }

pub key_goes : (e : Ahead) (key : NewKey) → Fits e (command (Key key)) → installs e key ≡ true → Installs e key
key_goes e key fits is = by_tests (installs_given_up e (Key key)) refl (refusal e.k.secy (Key taken)) refl is
  where
    taken : NewKey
    taken = as_taken e.k key

    not_given_up : (renews given : Bool) → (renews && given) ≡ false → (renews ≡ false → given ≡ false) → given ≡ false
    not_given_up true given is own = is
    not_given_up false given _ own = own refl

    by_tests : (b : Bool) → installs_given_up e (Key key) ≡ b → (r : Option Refusal) →
        refusal e.k.secy (Key taken) ≡ r → (is_none r && not b) ≡ true → Installs e key
    by_tests true given (Some r) none is' = cc
    by_tests true given None none is' = cc
    by_tests false given (Some r) none is' = cc
    by_tests false given None none is' =
        let open' : is_given_up e.k (key_bytes key.bytes) ≡ false =
        not_given_up e.renews (is_given_up e.k (key_bytes key.bytes)) given fits in
        record {
          taken = ap (λ (b : Bool). refusal_if b (renewal_refusal e.k.secy taken)) open'
              ∙ renews_too e.k.secy taken none;
          free = ap (is_number_used e.k.secy.keys) (sym (taken_number e.k key)) ∙ free_number e.k.secy taken none;
          after = ap (λ (b : Bool). (unless_given_up b e (Key key)).1) given ∙ key_leaves e key
              ∙ ap (λ (k : Keeping). record e { k = k }) (same_key e.k taken none);
        }

-- otherwise nothing changes
pub key_stays : (e : Ahead) (key : NewKey) → installs e key ≡ false → after_call e (command (Key key)) ≡ e
key_stays e key is = by_tests (installs_given_up e (Key key)) (refusal e.k.secy (Key taken)) refl is
  where
    taken : NewKey
    taken = as_taken e.k key

    by_tests : (b : Bool) (r : Option Refusal) → refusal e.k.secy (Key taken) ≡ r → (is_none r && not b) ≡ false →
        (unless_given_up b e (Key key)).1 ≡ e
    by_tests true r none is' = refl
    by_tests false None none is' = cc
    by_tests false (Some r) none is' = key_leaves e key ∙ ap
        (λ (o : Option Refusal). record e { k = record e.k { secy = unless_command_refused o e.k.secy (Key taken) } })
        none
