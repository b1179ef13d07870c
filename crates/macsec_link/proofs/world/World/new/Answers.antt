use Rattle.macsec_link_logs.specs.Ends.{new_end}
use Rattle.macsec_link.proofs.{
  Names.{[], ◌∙◌, ◌≡◌, ap, EndConfig, EndState, frames_kept, List, new_world, sym, Vec, WorldState, ℕ},
  Faulted.refuses,
}
use Rattle.macsec_link.proofs.world.World.new.Goals as goal

pub returns-in-Some-clause-made : goal.returns-in-Some-clause-made
returns-in-Some-clause-made c = refuses c.args.a c.args.b c.in-Some.fault (sym c.make_fault.ensures ∙ c.in-Some.is)

abbrev world : EndState → EndState → List (Vec ℕ) → WorldState
world a b frames = record { a = a; b = b; frames = frames_kept frames }

-- each end has its own configuration; written down so that another one is refused quickly
is_new : (a b : EndState) (frames : List (Vec ℕ)) (x y : EndConfig) → a ≡ new_end x → b ≡ new_end y → frames ≡ [] →
    world a b frames ≡ new_world x y
is_new a b frames x y first second none =
    ap (λ (e : EndState). world e b frames) first ∙ ap (λ (e : EndState). world (new_end x) e frames) second
    ∙ ap (λ (fs : List (Vec ℕ)). world (new_end x) (new_end y) fs) none

pub returns-clause-made : goal.returns-clause-made
returns-clause-made c = (
  sym c.make_fault.ensures ∙ c.in_default.is,
  is_new c.in-Ok.a c.in-Ok-new.b c.new-3.result.items c.args.a c.args.b c.in-Ok.ensures.made.1 c.in-Ok-new.ensures.made.1
      c.new-3.ensures.items,
)
