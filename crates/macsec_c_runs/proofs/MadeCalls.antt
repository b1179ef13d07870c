-- The loop over the calls of a run: the calls that are left, from the endpoint now, complete what all calls do.
use Rattle.{
  std.proofs.{
    Common.{◌≡◌, ◌∙◌, ◌+◌, ◌<◌, ◌∷◌, [], ℕ, zero, suc, List, sym, ap, subst, length, map, drop, get_or},
    lemmas.List.drop_more,
  },
  macsec_secy.specs.Sound.IsSound,
  macsec_ahead.specs.Ahead.Ahead,
  macsec_c_calls.specs.GivenUp.{Call, after_call, after_calls},
  macsec_c_runs.specs.{Calling.{StaysSound, call_of}, declared.calling.MadeCall.MadeCall},
}

pub record IsLeft (e : Ahead) (calls : List Call) (now : Ahead) (left : List Call) : Type 0 where
  pub after : after_calls now left ≡ after_calls e calls
  pub sound : IsSound now.k.secy
  pub stays : StaysSound now left → StaysSound e calls

pub none_stays : (e : Ahead) → IsSound e.k.secy → StaysSound e []
none_stays e sound zero = sound
none_stays e sound (suc n) = sound

first_stays : (e : Ahead) (call : Call) (calls : List Call) → IsSound e.k.secy → StaysSound (after_call e call) calls →
    StaysSound e (call ∷ calls)
first_stays e call calls sound later zero = sound
first_stays e call calls sound later (suc n) = later n

-- one call less is left
pub one_less : (e : Ahead) (calls : List Call) (made : List MadeCall) (i : ℕ) (call : MadeCall) (now after : Ahead) →
    call ≡ get_or made i call → i < length made → after ≡ after_call now (call_of call) → IsSound after.k.secy →
    IsLeft e calls now (map call_of (drop i made)) → IsLeft e calls after (map call_of (drop (i + 1) made))
one_less e calls made i call now after item within same sound so_far =
    let rest = map call_of (drop (i + 1) made) in
    let first = ap (map call_of) (drop_more made i call within ∙ ap (λ c. c ∷ drop (i + 1) made) (sym item)) in
    record {
      after = ap (λ a. after_calls a rest) same ∙ ap (after_calls now) (sym first) ∙ so_far.after;
      sound = sound;
      stays = λ later. so_far.stays (subst (StaysSound now) (sym first)
          (first_stays now (call_of call) rest so_far.sound (subst (λ a. StaysSound a rest) same later)));
    }
