-- The endpoint in its block is the keeper's.
use Rattle.macsec_reserve.proofs.{
  Prelude.{◌∙◌, ap, HasNames, IsKept, IsSound, Keeping, OpensFrame, State, subst, sym, vec_capacity},
  KeptNames.names_after_limited,
}
use Rattle.macsec_reserve.proofs.keeper.Keeper.receive_into.Goals as goal

pub receive_into-requires-clause-opened : goal.receive_into-requires-clause-opened
receive_into-requires-clause-opened c =
    subst (λ (s : State). OpensFrame c.args.opened.now s.keys c.args.frame.now c.args.out.now)
    (sym (c.deref_mut.ensures.value ∙ ap (λ (k : Keeping). k.secy) c.self.view_is)) c.requires.opened

pub invariant_of-self : goal.invariant_of-self
invariant_of-self c = (
  subst (λ (s : State). IsKept s c.self.inside.salt c.self.inside.names.items (vec_capacity c.self.inside.names) (vec_capacity c.self.inside.granted)) (sym c.receive_into.ensures.after)
      (record {
        names = names_after_limited c.self.inside.salt c.deref_mut.result.now c.args.limits.now c.args.frame.now c.self.inside.names.items
            (subst (λ (s : State). HasNames c.self.inside.salt s.keys c.self.inside.names.items) (sym c.deref_mut.ensures.value) c.self.invariant.0.names);
        names_room = c.self.invariant.0.names_room;
        granted_room = c.self.invariant.0.granted_room;
        sound = subst IsSound c.receive_into.ensures.after c.receive_into.ensures.sound;
      }),
  c.self.invariant.1,
)
