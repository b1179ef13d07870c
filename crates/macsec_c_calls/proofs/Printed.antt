-- The answers are what a script prints, by the kind of line.
use Rattle.{
  std.proofs.Common.{◌≡◌, inl, inr, ℕ, List, Bool, true, false, refl, ap, subst, sym, ◌∙◌, ◌||◌, ◌&&◌, ◌⊎◌, not},
  std.proofs.Common.{if◌then◌else◌, Option, Some, None},
  macsec_aes.specs.Keys.key_bytes,
  macsec_suite.specs.{
    KeyRows.{InstalledKey, key_row, the_key},
    Refusals.{holds_of, is_repeated, is_retired},
    Replacing.can_have,
    declared.key_row.NewKey.NewKey,
  },
  macsec_commands.specs.declared.{command.Command.{Command, TheVariants.{Key, Retire}}, event.End.TheVariants.A},
  macsec_secy.specs.{GivenUp.replacing, State.State, Step.{operator_command, step}},
  macsec_reserve.specs.{
    Forgetting.{can_forget, fingerprint, fingerprint_of, forgetting, forgetting_step, is_done, is_forgotten},
    Forgetting.{key_of_fingerprint, then_forget},
    Keeping.{Keeping, KeepingOutput, endpoint_input, is_below_floor, keeping_step, with_step},
  },
  macsec_ahead.specs.{
    Ahead.{Ahead, ahead_by, begins_again, ended_after, passes},
    Renewing.{installs_given_up, unless_given_up},
  },
  macsec_script_parser.specs.declared.lines.Line.Line,
  macsec_c_calls.specs.{Answers.{Answer, answer_of_line, commanded, commanded_as}, Laws.AnswersAsPrinted},
}
use Rattle.macsec_commands.specs.declared.event.Event.TheVariants as event
use Rattle.macsec_script_parser.specs.declared.lines.Action.TheVariants as action
use Rattle.macsec_script_parser.specs.declared.lines.Line.TheVariants as line

or_true : (b : Bool) → b || true ≡ true
or_true true = refl
or_true false = refl

-- the second of three cases
second : {X : Type 0} (first go : Bool) (x y z : X) → first ≡ false → go ≡ true →
    (if first then x else if go then y else z) ≡ y
second true go x y z not_first goes = cc
second false true x y z not_first goes = refl
second false false x y z not_first goes = cc

-- a command uses no packet number, so it takes the machine's step unless the journal refuses it
stepped : (k : Keeping) (c : Command) → is_below_floor k (operator_command c) ≡ false →
    keeping_step k (endpoint_input (operator_command c)) ≡ with_step k (step k.secy (operator_command c))
stepped k c above = second (is_below_floor k (operator_command c)) (not k.keeps || true) _ _ _ above (or_true
    (not k.keeps))

-- the answer to a command, by what the keeping endpoint inside says to it
abbrev by_inside : Ahead → ℕ → Command → KeepingOutput × Keeping → Answer
by_inside e n c it = commanded_as n it.0 (record e { k = it.1; ended = ended_after e (operator_command c) it })

-- a command goes to the keeping endpoint inside, unless it installs octets that are given up or creates an SA again too
-- low
answered : (e : Ahead) (n : ℕ) (c : Command) → installs_given_up e c ≡ false →
    begins_again e (operator_command c) ≡ false →
    answer_of_line e n (line.Action (action.Event (event.Command A c))) ≡ by_inside e n c (forgetting_step e.k
    (endpoint_input (operator_command c)))
answered e n c new fresh =
    let inside = forgetting_step e.k (endpoint_input (operator_command c)) in
    ap (λ (b : Bool). commanded n (unless_given_up b e c).0 (unless_given_up b e c).1) new
    ∙ ap (λ (again : Bool). commanded n (ahead_by again passes e (operator_command c) inside).0
    (ahead_by again passes e (operator_command c) inside).1) fresh

-- neither of two
neither : (a b : Bool) → a || b ≡ false → (a ≡ false) × (b ≡ false)
neither true b h = cc
neither false b h = (refl, h)

-- ---- a key to install

otherwise : (b : Bool) (x y : NewKey) → b ≡ false → (if b then x else y) ≡ y
otherwise true x y is = cc
otherwise false x y is = refl

-- ---- a key to retire

-- octets may replace only the octets of a retired key
retired_row : (o : Option InstalledKey) (bytes : List ℕ) (b : Bool) → (holds_of (can_have bytes) o && b) ≡ true →
    holds_of (λ (row : InstalledKey). row.retired) o ≡ true
retired_row None bytes b can = cc
retired_row (Some row) bytes b can = by_retired row.retired _ b can
  where
    by_retired : (r fits b : Bool) → ((r && fits) && b) ≡ true → r ≡ true
    by_retired true fits b can' = refl
    by_retired false fits b can' = cc

-- the endpoint s, or s with the fingerprint of a retired key in place of its octets
abbrev IsForgotten : Keeping → ℕ → State → State → Type 0
IsForgotten k n s t = (t ≡ s) ⊎ ((is_retired s.keys n ≡ true) × (t ≡ replacing n (fingerprint k.salt
    (the_key s.keys n).bytes) s))

forgotten_if : (k : Keeping) (n : ℕ) (went : Bool) →
    IsForgotten k n k.secy (if went && can_forget k n then forgetting k n else k).secy
forgotten_if k n false = inl refl
forgotten_if k n true = by_can (can_forget k n) refl
  where
    by_can : (b : Bool) → can_forget k n ≡ b → IsForgotten k n k.secy (if b then forgetting k n else k).secy
    by_can false is = inl refl
    by_can true is = inr (
      retired_row (key_row k.secy.keys n) (fingerprint_of k n) (not (is_repeated k.secy.keys
          (fingerprint_of k n))) is,
      refl,
    )

-- ---- lines

pub answers_as_printed : (e : Ahead) (n : ℕ) (said : Line) → AnswersAsPrinted e n said
answers_as_printed e n (line.Action (action.Event (event.Command A (Key key)))) = λ refused not_forgotten.
    let k = e.k in
    let fresh = neither (begins_again e (operator_command (Key key))) (is_below_floor k (operator_command
    (Key key))) refused in
    let new = neither (installs_given_up e (Key key)) (is_forgotten k (key_bytes key.bytes)) not_forgotten in
    let as_it_is = otherwise (is_forgotten k (key_bytes key.bytes))
    (record key { bytes = key_of_fingerprint k.salt key.bytes }) key new.1 in
    let stepping = ap (λ (taken : NewKey). keeping_step k (endpoint_input (operator_command (Key taken)))) as_it_is
    ∙ stepped k (Key key) fresh.1 in
    let is = answered e n (Key key) new.0 fresh.0 ∙ ap (by_inside e n (Key key)) stepping in
    record { text = ap (λ (a : Answer). a.text) is; state = ap (λ (a : Answer). a.after.k.secy) is }
answers_as_printed e n (line.Action (action.Event (event.Command A (Retire m)))) = λ refused not_forgotten.
    let k = e.k in
    let fresh = neither (begins_again e (operator_command (Retire m))) (is_below_floor k (operator_command
    (Retire m))) refused in
    let left = with_step k (step k.secy (operator_command (Retire m))) in
    let is = answered e n (Retire m) refl fresh.0 ∙ ap (λ (it : KeepingOutput × Keeping). by_inside e n (Retire m)
    (then_forget (Some m) it)) (stepped k (Retire m) fresh.1) in
    record {
      text = ap (λ (a : Answer). a.text) is;
      state =
          subst (λ (t : State). IsForgotten k m (step k.secy (operator_command (Retire m))).1 t)
          (sym (ap (λ (a : Answer). a.after.k.secy) is)) (forgotten_if left.1 m (is_done left.0));
    }
answers_as_printed e n (line.Action (action.Event (event.Command A c))) = λ refused not_forgotten.
    let fresh = neither (begins_again e (operator_command c)) (is_below_floor e.k (operator_command c)) refused in
    let is = answered e n c refl fresh.0 ∙ ap (by_inside e n c) (stepped e.k c fresh.1) in
    record { text = ap (λ (a : Answer). a.text) is; state = ap (λ (a : Answer). a.after.k.secy) is }
answers_as_printed e n (line.Action (action.Counters A)) = λ refused not_forgotten. record { text = refl; state = refl }
answers_as_printed e n (line.Action (action.Numbers A)) = λ refused not_forgotten. record { text = refl; state = refl }
answers_as_printed e n (line.End at config) = refl
answers_as_printed e n (line.Action other) = λ refused not_forgotten. refl
