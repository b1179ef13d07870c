-- Whole runs with forgetting: they seal what the runs without it seal, and answer alike.
use Rattle.std.proofs.Common.{ap₂}
use Rattle.macsec_reserve.proofs.{
  Prelude.{[], ◌++◌, ◌∙◌, ◌∷◌, ◌≡◌, ◌≤◌, AgreeOnKeys, Agrees, All, All-head, All-map, All-nil, All-tail, All-weaker},
  Prelude.{AllPairs, AllPairs-cons, ap, arith, Bool, CipherUse, EndConfig, endpoint_input, false, forgetting_step},
  Prelude.{get_or, HasOtherIv, highest, if◌then◌else◌, installs_retired, IsHistory, IsSound, Keeping, keeping_after},
  Prelude.{keeping_step, KeepingInput, KeepingOutput, KeepsDurable, Key, length, List, map, may_go, newly_sealed},
  Prelude.{nothing_yet, now_durable, opening, operator_command, refl, reported_in, Reservation, reservations, Run},
  Prelude.{SameSalt, sealed_from, sealed_if, sealed_in_all, StaysSound, subst, suc, sym, true, without_forgetting},
  Prelude.zero,
  AllRuns.{IsSoundRun, repeats_no_iv},
  EndpointLaws.Laws,
  ForgetsAlike.{Fits, IsOfKey, NextAlike, grants_alike, is_other, next_alike},
  KnownKeys.retired_unchanged,
  NoReplay.StartAgrees,
  Pairs.{no_pairs, pairs-head, pairs-tail},
  Replaced.{IsGivenUpIn, IsOther, KeyLaws, Replacement, replaced, row_replaced},
  SameUses.{beside, sealed_alike},
  SoundBeside.{HaveLengths, sound_beside},
}
use Rattle.macsec_reserve.specs.{
  Forgetting.{forgetting_after, sealed_forgetting},
  Forgotten.{AreAllAlike, AreSameBut, ForgetsAlike, IsHistoryForgetting, RepeatsNoIvForgetting, RunsAlike},
  Forgotten.{StaysSoundForgetting, others, outputs, outputs_to_others, sealed_forgetting_in_all},
  Keeping.alone,
}

-- an installation seals nothing
none_if : (go : Bool) → sealed_if go [] ≡ []
none_if true = refl
none_if false = refl

none_sealed : (k : Keeping) (input : KeepingInput) → installs_retired k input ≡ true → newly_sealed k input ≡ []
none_sealed k (endpoint_input (operator_command (Key key))) is = none_if (may_go k (operator_command (Key key)))
none_sealed k input is = cc

-- sound at the first moment, and at each after it
stays_sound : (k : Keeping) (input : KeepingInput) (inputs : List KeepingInput) → IsSound k.secy → StaysSound (keeping_step k input).1 inputs → StaysSound k (input ∷ inputs)
stays_sound k input inputs now later zero = now
stays_sound k input inputs now later (suc n) = later n

stays_none : (k : Keeping) → IsSound k.secy → StaysSound k []
stays_none k now zero = now
stays_none k now (suc n) = now

-- the first input, given to both
both_take : (k : Keeping) (rs : List Replacement) (entries : List Reservation) (input : KeepingInput) (inputs : List KeepingInput) → Fits k rs entries → IsSound k.secy →
    RunsAlike (keeping_step k input).1 (forgetting_step (beside k rs entries) input).1 inputs → NextAlike (keeping_step k input) (forgetting_step (beside k rs entries) input) →
    installs_retired (beside k rs entries) input ≡ false → RunsAlike k (beside k rs entries) (input ∷ inputs)
both_take k rs entries input inputs fits sound rest next new =
    let f = beside k rs entries in
    let f' = (forgetting_step f input).1 in
    let k' = (keeping_step k input).1 in
    let kept : others f (input ∷ inputs) ≡ input ∷ others f' inputs = ap (λ (b : Bool). if b then others f' inputs else input ∷ others f' inputs) new in
    let answered : outputs_to_others f (input ∷ inputs) ≡ (forgetting_step f input).0 ∷ outputs_to_others f' inputs =
    ap (λ (b : Bool). if b then outputs_to_others f' inputs else (forgetting_step f input).0 ∷ outputs_to_others f' inputs) new in
    record {
      sound = subst (StaysSound k) (sym kept) (stays_sound k input (others f' inputs) sound rest.sound);
      seals = ap (λ (uses : List CipherUse). uses ++ sealed_forgetting f' inputs) (sealed_alike k rs entries input (grants_alike k rs entries fits) fits.given_up)
          ∙ ap (λ (uses : List CipherUse). newly_sealed k input ++ uses) rest.seals
          ∙ ap (sealed_from k) (sym kept);
      answers = subst (λ (inputs' : List KeepingInput). AreAllAlike (outputs k inputs') (outputs_to_others f (input ∷ inputs))) (sym kept)
          (subst (λ (answers : List KeepingOutput). AreAllAlike ((keeping_step k input).0 ∷ outputs k' (others f' inputs)) answers) (sym answered) (next.alike, rest.answers));
      ends = subst (λ (inputs' : List KeepingInput). AreSameBut (keeping_after k inputs').secy (forgetting_after f' inputs).secy) (sym kept) rest.ends;
    }

-- the first input, which only the endpoint that forgets is given
one_refuses : (k f : Keeping) (input : KeepingInput) (inputs : List KeepingInput) → installs_retired f input ≡ true → RunsAlike k (forgetting_step f input).1 inputs → RunsAlike k f (input ∷ inputs)
one_refuses k f input inputs is rest =
    let f' = (forgetting_step f input).1 in
    let left : others f (input ∷ inputs) ≡ others f' inputs = ap (λ (b : Bool). if b then others f' inputs else input ∷ others f' inputs) is in
    let answered : outputs_to_others f (input ∷ inputs) ≡ outputs_to_others f' inputs =
    ap (λ (b : Bool). if b then outputs_to_others f' inputs else (forgetting_step f input).0 ∷ outputs_to_others f' inputs) is in
    record {
      sound = subst (StaysSound k) (sym left) rest.sound;
      seals = ap (λ (uses : List CipherUse). uses ++ sealed_forgetting f' inputs) (none_sealed f input is) ∙ rest.seals ∙ ap (sealed_from k) (sym left);
      answers = subst (λ (inputs' : List KeepingInput). AreAllAlike (outputs k inputs') (outputs_to_others f (input ∷ inputs))) (sym left)
          (subst (λ (answers : List KeepingOutput). AreAllAlike (outputs k (others f' inputs)) answers) (sym answered) rest.answers);
      ends = subst (λ (inputs' : List KeepingInput). AreSameBut (keeping_after k inputs').secy (forgetting_after f' inputs).secy) (sym left) rest.ends;
    }

abbrev Later : List KeepingInput → Type 0
Later inputs =
    (k : Keeping) (rs : List Replacement) (entries : List Reservation) → Fits k rs entries → StaysSoundForgetting (beside k rs entries) inputs → RunsAlike k (beside k rs entries) inputs

-- if the endpoint that forgets is sound, so is the other one
pub sound_too : (k : Keeping) (rs : List Replacement) (entries : List Reservation) → Fits k rs entries → IsSound (replaced rs k.secy) → IsSound k.secy
sound_too k rs entries fits sound = sound_beside rs k.secy sound fits.lengths fits.agrees

one_more : KeyLaws → (input : KeepingInput) (inputs : List KeepingInput) → Later inputs → (k : Keeping) (rs : List Replacement) (entries : List Reservation) → Fits k rs entries →
    StaysSoundForgetting (beside k rs entries) (input ∷ inputs) → (b : Bool) → installs_retired (beside k rs entries) input ≡ b → RunsAlike k (beside k rs entries) (input ∷ inputs)
one_more laws input inputs later k rs entries fits sound true is =
    let f = beside k rs entries in
    let same : (forgetting_step f input).1 ≡ f = retired_unchanged f input is in
    one_refuses k f input inputs is
    (subst (λ (f' : Keeping). RunsAlike k f' inputs) (sym same)
    (later k rs entries fits (subst (λ (f' : Keeping). StaysSoundForgetting f' inputs) same (λ n. sound (suc n)))))
one_more laws input inputs later k rs entries fits sound false new =
    let now = sound_too k rs entries fits (sound 0) in
    let next = next_alike laws k rs entries input fits now new in
    let k' = (keeping_step k input).1 in
    let rest : RunsAlike k' (beside k' next.rs next.entries) inputs =
    later k' next.rs next.entries next.fits (subst (λ (f' : Keeping). StaysSoundForgetting f' inputs) next.after (λ n. sound (suc n))) in
    both_take k rs entries input inputs fits now (subst (λ (f' : Keeping). RunsAlike k' f' inputs) (sym next.after) rest) next new

pub runs_alike : KeyLaws → (inputs : List KeepingInput) → Later inputs
runs_alike laws [] k rs entries fits sound = record {
  sound = stays_none k (sound_too k rs entries fits (sound 0));
  seals = refl;
  answers = tt;
  ends = record {
    same = refl;
    keys = λ n free. row_replaced rs k.secy.keys n (All-weaker (IsGivenUpIn k.secy) (IsOther n) (λ r up. is_other k.secy.keys n r free up.retired) rs fits.given_up);
  };
}
runs_alike laws (input ∷ inputs) k rs entries fits sound =
    one_more laws input inputs (λ k' rs' entries' fits' sound'. runs_alike laws inputs k' rs' entries' fits' sound') k rs entries fits sound
    (installs_retired (beside k rs entries) input) refl

-- ---- from the beginning

-- an endpoint without keys
no_keys : (k : Keeping) → k.secy.keys ≡ [] → k.granted ≡ [] → Agrees k.secy → Fits k [] k.granted
no_keys k none nothing agrees = record {
  given_up = All-nil (IsGivenUpIn k.secy);
  of_keys = All-nil (IsOfKey k.salt k.secy.keys);
  distinct = tt;
  lengths = subst HaveLengths (sym none) tt;
  agrees = agrees;
  same = refl;
  own_fit = subst (λ (entries : List Reservation). length entries ≤ length (map (nothing_yet k.salt) k.secy.keys)) (sym nothing) (omega arith);
  fit = subst (λ (entries : List Reservation). length entries ≤ length (map (nothing_yet k.salt) k.secy.keys)) (sym nothing) (omega arith);
}

pub forgets_alike : KeyLaws → StartAgrees → (run : Run) → ForgetsAlike (opening run) run.inputs
forgets_alike laws begins run sound = runs_alike laws run.inputs (opening run) [] [] (no_keys (opening run) refl refl (begins run.config)) sound

pub forgets_alike_alone : KeyLaws → StartAgrees → (config : EndConfig) (inputs : List KeepingInput) → ForgetsAlike (alone config) inputs
forgets_alike_alone laws begins config inputs sound = runs_alike laws inputs (alone config) [] [] (no_keys (alone config) refl refl (begins config)) sound

-- ---- over all runs

abbrev pub IsSoundForgetting : Run → Type 0
IsSoundForgetting run = StaysSoundForgetting (opening run) run.inputs

pub seals_in_all : KeyLaws → StartAgrees → (runs : List Run) → All IsSoundForgetting runs → sealed_forgetting_in_all runs ≡ sealed_in_all (map without_forgetting runs)
seals_in_all laws begins [] sounds = refl
seals_in_all laws begins (run ∷ runs) sounds =
    ap₂ (λ (uses more : List CipherUse). uses ++ more)
    (forgets_alike laws begins run (All-head IsSoundForgetting run runs sounds)).seals
    (seals_in_all laws begins runs (All-tail IsSoundForgetting run runs sounds))

-- the reports to the run without forgetting are the same
reports_if : (b : Bool) (f : Keeping) (input : KeepingInput) (inputs : List KeepingInput) → installs_retired f input ≡ b →
    reported_in (if b then inputs else input ∷ inputs) ≡ reported_in (input ∷ inputs)
reports_if false f input inputs is = refl
reports_if true f (endpoint_input input) inputs is = refl
reports_if true f (now_durable r) inputs is = cc

one_more_report : (input : KeepingInput) (inputs inputs' : List KeepingInput) → reported_in inputs' ≡ reported_in inputs → reported_in (input ∷ inputs') ≡ reported_in (input ∷ inputs)
one_more_report (endpoint_input input) inputs inputs' same = same
one_more_report (now_durable r) inputs inputs' same = ap (λ (rs : List Reservation). r ∷ rs) same

pub reports_kept : (inputs : List KeepingInput) (f : Keeping) → reported_in (others f inputs) ≡ reported_in inputs
reports_kept [] f = refl
reports_kept (input ∷ inputs) f =
    let f' = (forgetting_step f input).1 in
    reports_if (installs_retired f input) f input (others f' inputs) refl ∙ one_more_report input inputs (others f' inputs) (reports_kept inputs f')

pub pairs-map : {X Y : Type 0} (f : X → Y) (R : Y → Y → Type 0) (xs : List X) → AllPairs (λ x y. R (f x) (f y)) xs → AllPairs R (map f xs)
pairs-map f R [] pairs = no_pairs R
pairs-map f R (x ∷ xs) pairs =
    AllPairs-cons R (f x) (map f xs) (All-map (R (f x)) f xs (pairs-head (λ y z. R (f y) (f z)) x xs pairs)) (pairs-map f R xs (pairs-tail (λ y z. R (f y) (f z)) x xs pairs))

keeps_durable : (run later : Run) → KeepsDurable run later → KeepsDurable (without_forgetting run) (without_forgetting later)
keeps_durable run later durable name =
    subst (λ (rs : List Reservation). highest rs name ≤ highest (reservations later.journal) name) (sym (reports_kept run.inputs (opening run))) (durable name)

is_history : KeyLaws → StartAgrees → (runs : List Run) → IsHistoryForgetting runs → IsHistory (map without_forgetting runs)
is_history laws begins runs is = record {
  sound = All-map IsSoundRun without_forgetting runs
      (All-weaker IsSoundForgetting (λ run. IsSoundRun (without_forgetting run)) (λ run sound. (forgets_alike laws begins run sound).sound) runs is.sound);
  agree = pairs-map without_forgetting AgreeOnKeys runs is.agree;
  salt = pairs-map without_forgetting SameSalt runs is.salt;
  durable = pairs-map without_forgetting KeepsDurable runs (λ i j d less within. keeps_durable (get_or runs i d) (get_or runs j d) (is.durable i j d less within));
}

pub repeats_no_iv_forgetting : KeyLaws → StartAgrees → Laws → (runs : List Run) → RepeatsNoIvForgetting runs
repeats_no_iv_forgetting keys begins laws runs is =
    subst (AllPairs HasOtherIv) (sym (seals_in_all keys begins runs is.sound)) (repeats_no_iv laws (map without_forgetting runs) (is_history keys begins runs is))
