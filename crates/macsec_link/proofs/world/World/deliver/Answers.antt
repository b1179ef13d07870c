-- A delivery is one step of the written world, or its fault. The end receives the link frame with the number, which is
-- found and is not too short or too long.
use Rattle.macsec_link.proofs.{
  Names.{◌≡◌, ap, Err, frame_fault, List, None, rules, subst, sym, WorldState, ℕ},
  Faulted.passed_on,
  LinkFrames.{at_place, heard},
  world.World.deliver.Goals.{in-A, in-B},
}
use Rattle.macsec_commands.specs.declared.event.Event.TheVariants as event
use Rattle.macsec_link.proofs.world.World.deliver.Goals as goal

pub returns-in_err-check_delivery-clause-steps : goal.returns-in_err-check_delivery-clause-steps
returns-in_err-check_delivery-clause-steps c =
    let passed : c.from_residual.result ≡ Err c.in_err-check_delivery.field-0.0 = search rules in
    let fault = c.in_err-check_delivery in
    passed_on c.args.self.now (event.Deliver c.args.end c.args.n) c.from_residual.result fault.field-0.0 passed (fault.ensures.admits c.args.end)

-- the end receives the link frame with the number
pub receive-hearing-requires : goal.receive-hearing-requires
receive-hearing-requires c =
    let frames = ap (λ (w : WorldState). w.frames) c.self.view_is in
    let there = c.in_ok-check_delivery.ensures.there in
    let taken = c.index in
    let frame = c.as_slice-frame in
    let same = at_place c.args.self.now c.self.inside.frames.items c.args.n taken.result.now frame.result.now frames there taken.ensures frame.ensures.value in
    record { fits = subst (λ (f : List ℕ). frame_fault f ≡ None) (sym same) c.in_ok-check_delivery.ensures.fits }

pub receive-hearing-requires-in-B : goal.receive-hearing-requires-in-B
receive-hearing-requires-in-B c =
    let frames = ap (λ (w : WorldState). w.frames) c.self.view_is in
    let there = c.in_ok-check_delivery.ensures.there in
    let taken = c.index in
    let frame = c.as_slice-frame in
    let same = at_place c.args.self.now c.self.inside.frames.items c.args.n taken.result.now frame.result.now frames there taken.ensures frame.ensures.value in
    record { fits = subst (λ (f : List ℕ). frame_fault f ≡ None) (sym same) c.in_ok-check_delivery.ensures.fits }

pub returns-clause-steps : goal.returns-clause-steps
returns-clause-steps c =
    let none = c.in_ok-check_delivery.ensures.admits c.args.end in
    let frames = ap (λ (w : WorldState). w.frames) c.self.view_is in
    let there = c.in_ok-check_delivery.ensures.there in
    let taken = c.index in
    let frame = c.as_slice-frame in
    let same = at_place c.args.self.now c.self.inside.frames.items c.args.n taken.result.now frame.result.now frames there taken.ensures frame.ensures.value in
    elim c.match-end.branch [ in-A w ↦ search (rules, heard) | in-B w ↦ search (rules, heard) ]
