-- How a run goes, input by input: what it seals, its last state, and that it is sound at each moment. So a worked run
-- continues from a state that is written out.
use Rattle.{
  std.{proofs.{Common.{◌||◌, lt-ltb}, lemmas.Bool.{and_right, lt-leb}}},
  macsec_commands.specs.declared.command.Command.Command,
  macsec_secy.specs.Step.operator_command,
  macsec_reserve.{
    specs.{Entries.raised_by, Histories.{newly_sealed}, Keeping.{begins_at, was_reserved, may_use}},
  },
  macsec_counterexamples.proofs.{
    Names.{[], ◌&&◌, ◌++◌, ◌<◌, ◌∷◌, ◌≡◌, ◌≤◌, and_from, arith, Bool, CipherUse, client_frame, effect, endpoint_input},
    Names.{false, highest, IsSound, Keeping, keeping_after, keeping_step, KeepingInput, le-leb, link_frame, List, map},
    Names.{max, may_go, nat_le, nat_lt, None, not, number_used, refl, refusal, Reservation, same_octets-refl, sealed},
    Names.{sealed_from, StaysSound, step, subst, suc, sym, take, true, zero, ℕ},
    Restarts.Tables.{after_commands, all_fit, first_carried, first_sound, none_refused},
  },
}

abbrev pub command : Command → KeepingInput
command c = endpoint_input (operator_command c)

pub record Goes (k : Keeping) (inputs : List KeepingInput) (uses : List CipherUse) (last : Keeping) : Type 0 where
  pub seals : sealed_from k inputs ≡ uses
  pub ends : keeping_after k inputs ≡ last
  pub sound : StaysSound k inputs

pub sound_end : (k : Keeping) → IsSound k.secy → StaysSound k []
sound_end k sound zero = sound
sound_end k sound (suc n) = sound

pub sound_next : (k : Keeping) {after : Keeping} (input : KeepingInput) (inputs : List KeepingInput) → IsSound k.secy →
    (keeping_step k input).1 ≡ after → StaysSound after inputs → StaysSound k (input ∷ inputs)
sound_next k input inputs sound is_after rest zero = sound
sound_next k input inputs sound is_after rest (suc n) =
    subst (λ (k : Keeping). IsSound (keeping_after k (take n inputs)).secy) (sym is_after) (rest n)

pub ended : (k : Keeping) → IsSound k.secy → Goes k [] [] k
ended k sound = record { seals = refl; ends = refl; sound = sound_end _ sound }

pub next_seals : (k : Keeping) {after : Keeping} (input : KeepingInput) (inputs : List KeepingInput)
    {now uses : List CipherUse} →
    newly_sealed k input ≡ now → (keeping_step k input).1 ≡ after → sealed_from after inputs ≡ uses →
    sealed_from k (input ∷ inputs) ≡ now ++ uses
next_seals k input inputs {now} is_now is_after rest = rw (is_now, is_after, rest)

pub next_goes : {k after last : Keeping} {input : KeepingInput} {inputs : List KeepingInput}
    {now uses : List CipherUse} →
    IsSound k.secy → newly_sealed k input ≡ now → (keeping_step k input).1 ≡ after → Goes after inputs uses last →
    Goes k (input ∷ inputs) (now ++ uses) last
next_goes {k} {input} {inputs} sound is_now is_after rest = record {
  seals = next_seals k input inputs is_now is_after rest.seals;
  ends = rw (is_after, rest.ends);
  sound = sound_next _ _ _ sound is_after rest.sound;
}

-- ---- steps

or_true : (b : Bool) → b || true ≡ true
or_true true = refl
or_true false = refl

-- a command that begins at no number that was reserved before
pub command_step : (k : Keeping) (c : Command) → was_reserved k.before (begins_at k.salt k.secy c) ≡ false →
    (keeping_step k (command c)).1 ≡ record k { secy = (step k.secy (operator_command c)).1 }
command_step k c new = rw (and_right _ _ new, or_true _)

pub is_new : (before : List Reservation) (name : List ℕ) (n : ℕ) → highest before name < n →
    (nat_lt 0 n && nat_le n (highest before name)) ≡ false
is_new before name n free = and_right _ _ (lt-leb _ _ free)

pub command_seals : (k : Keeping) (c : Command) → newly_sealed k (command c) ≡ []
command_seals k c = rw (or_true _)

pub frame_step : (k : Keeping) (frame : List ℕ) → may_go k (client_frame frame) ≡ true →
    (keeping_step k (endpoint_input (client_frame frame))).1 ≡ record k { secy = (step k.secy (client_frame frame)).1 }
frame_step k frame goes = rw goes

pub frame_seals : (k : Keeping) (frame : List ℕ) → may_go k (client_frame frame) ≡ true →
    newly_sealed k (endpoint_input (client_frame frame)) ≡ sealed k.secy (client_frame frame)
frame_seals k frame goes = rw goes

pub link_step : (k : Keeping) (frame : List ℕ) → (keeping_step k (endpoint_input (link_frame frame))).1 ≡ record k
    { secy = (step k.secy (link_frame frame)).1 }
link_step k frame = rw (or_true _)

pub link_seals : (k : Keeping) (frame : List ℕ) → newly_sealed k (endpoint_input (link_frame frame)) ≡ []
link_seals k frame = rw (or_true _)

-- ---- commands that are carried out

-- none creates an SA at a number that was reserved before
abbrev pub AreNew : Keeping → List Command → Type 0
AreNew k [] = Unit {0}
AreNew k (c ∷ cs) =
    (was_reserved k.before (begins_at k.salt k.secy c) ≡ false) × AreNew (record k { secy = effect k.secy c }) cs

pub carried_step : (k : Keeping) (c : Command) → was_reserved k.before (begins_at k.salt k.secy c) ≡ false →
    refusal k.secy c ≡ None → (keeping_step k (command c)).1 ≡ record k { secy = effect k.secy c }
carried_step k c new fits = rw (command_step _ _ new, fits)

pub commands_by : (P : Keeping → List KeepingInput → Type 0) →
    ((k : Keeping) (c : Command) (inputs : List KeepingInput) → (keeping_step k (command c)).1 ≡ record k
    { secy = effect k.secy c } →
    P (record k { secy = effect k.secy c }) inputs → P k (command c ∷ inputs)) →
    (cs : List Command) (k : Keeping) (inputs : List KeepingInput) → AreNew k cs → none_refused k.secy cs ≡ true →
    P (record k { secy = after_commands k.secy cs }) inputs → P k (map command cs ++ inputs)
commands_by P one [] k inputs new none rest = rest
commands_by P one (c ∷ cs) k inputs new none rest =
    let it = first_carried k.secy c cs none in
    one k c (map command cs ++ inputs) (carried_step k c new.0 it.0)
    (commands_by P one cs (record k { secy = effect k.secy c }) inputs new.1 it.1 rest)

pub commands_seal : (cs : List Command) (k : Keeping) (inputs : List KeepingInput) {uses : List CipherUse} →
    AreNew k cs →
    none_refused k.secy cs ≡ true → sealed_from (record k { secy = after_commands k.secy cs }) inputs ≡ uses →
    sealed_from k (map command cs ++ inputs) ≡ uses
commands_seal cs k inputs {uses} new none rest = commands_by (λ k' is. sealed_from k' is ≡ uses)
    (λ k' c is step more. next_seals k' (command c) is (command_seals k' c) step more) _ _ _ new none rest

pub commands_end : (cs : List Command) (k : Keeping) (inputs : List KeepingInput) {last : Keeping} → AreNew k cs →
    none_refused k.secy cs ≡ true → keeping_after (record k { secy = after_commands k.secy cs }) inputs ≡ last →
    keeping_after k (map command cs ++ inputs) ≡ last
commands_end cs k inputs {last} new none rest = commands_by (λ k' is. keeping_after k' is ≡ last)
    (λ k' c is step more. rw (step, more)) _ _ _ new none rest

pub commands_stay : (cs : List Command) (k : Keeping) (inputs : List KeepingInput) → AreNew k cs →
    none_refused k.secy cs ≡ true →
    all_fit k.secy cs ≡ true → IsSound k.secy → StaysSound (record k { secy = after_commands k.secy cs }) inputs →
    StaysSound k (map command cs ++ inputs)
commands_stay [] k inputs new none fit sound rest = rest
commands_stay (c ∷ cs) k inputs new none fit sound rest =
    let it = first_carried k.secy c cs none in
    let now = first_sound k.secy c cs it.0 fit sound in
    sound_next _ _ _ sound (carried_step k c new.0 it.0)
    (commands_stay cs (record k { secy = effect k.secy c }) inputs new.1 it.1 now.1 now.0 rest)

pub commands_go : (cs : List Command) {k last : Keeping} {inputs : List KeepingInput} {uses : List CipherUse} →
    AreNew k cs → none_refused k.secy cs ≡ true → all_fit k.secy cs ≡ true → IsSound k.secy →
    Goes (record k { secy = after_commands k.secy cs }) inputs uses last → Goes k (map command cs ++ inputs) uses last
commands_go cs {k} {inputs} new none fit sound rest = record {
  seals = commands_seal _ _ _ new none rest.seals;
  ends = commands_end _ _ _ new none rest.ends;
  sound = commands_stay _ _ _ new none fit sound rest.sound;
}

-- ---- the report of the only key's entry, and a frame whose packet number is reserved

pub raised_alone : (name : List ℕ) (n : ℕ) →
    raised_by (record { name = name; last = n }) (record { name = name; last = 0 }) ≡ record { name = name; last = n }
raised_alone name n =
    let most : max 0 n ≡ n = omega arith in
    rw (same_octets-refl _, most)

pub is_within : (before : List Reservation) (name : List ℕ) (n last : ℕ) → highest before name < n → n ≤ last →
    (nat_lt (highest before name) n && nat_le n (highest (record { name = name; last = last } ∷ []) name)) ≡ true
is_within before name n last free most = and_from _ _ (lt-ltb _ _ free)
    (rw (same_octets-refl name, le-leb n (max last 0) (omega (arith, most))))

pub may_send : (k : Keeping) (frame : List ℕ) (n : ℕ) → number_used k.secy (client_frame frame) ≡ (0, n) ∷ [] →
    may_use k (0, n) ≡ true → may_go k (client_frame frame) ≡ true
may_send k frame n uses may = rw (uses, may, or_true _)
