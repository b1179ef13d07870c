-- Each call leaves the endpoint sound. At the end none is left.
use Rattle.{
  std.proofs.{Common.{◌∙◌, List, ap, arith, map, refl, subst, sym}, lemmas.List.drop_all},
  macsec_c_calls.specs.GivenUp.after_calls,
  macsec_c_runs.{
    proofs.MadeCalls.{none_stays, one_less},
    specs.{Calling.{StaysSound, call_of}, declared.calling.MadeCall.MadeCall},
  },
}
use Rattle.macsec_c_runs.proofs.calling.make_calls.Goals as goal

pub loop-call-init : goal.loop-call-init
loop-call-init c = record { after = refl; sound = c.is_sound.ensures; stays = λ all. all }

pub loop-call-preserved : goal.loop-call-preserved
loop-call-preserved c =
    one_less c.args.endpoint.now _ c.args.calls.now c.loop-call.call-index _ _ _ c.call-item.is (omega arith)
    c.in_ok-make_call.ensures.after c.in_ok-make_call.ensures.sound c.loop-call.invariant

pub returns-clause-after : goal.returns-clause-after
returns-clause-after c =
    let none = drop_all c.loop-call.call-index c.args.calls.now c.loop-call-test.false in
    ap (λ (left : List MadeCall). after_calls c.loop-call.endpoint (map call_of left)) (sym none)
    ∙ c.loop-call.invariant.after

pub returns-clause-sound : goal.returns-clause-sound
returns-clause-sound c =
    let none = drop_all c.loop-call.call-index c.args.calls.now c.loop-call-test.false in
    c.loop-call.invariant.stays (subst (λ (left : List MadeCall). StaysSound c.loop-call.endpoint (map call_of left))
    (sym none) (none_stays c.loop-call.endpoint c.loop-call.invariant.sound))
