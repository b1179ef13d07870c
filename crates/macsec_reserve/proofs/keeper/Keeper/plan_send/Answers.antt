-- Planning leaves the names of the keys as they are.
use Rattle.macsec_reserve.proofs.{
  Prelude.{HasNames, IsKept, IsSound, State, subst, sym, vec_capacity},
  KeptNames.names_after_sending,
}
use Rattle.macsec_reserve.proofs.keeper.Keeper.plan_send.Goals as goal

pub invariant_of-self : goal.invariant_of-self
invariant_of-self c = (
  subst (λ (s : State). IsKept s c.self.inside.salt c.self.inside.names.items (vec_capacity c.self.inside.names) (vec_capacity c.self.inside.granted)) (sym c.plan_send_by.ensures.after)
      (record {
        names = names_after_sending c.self.inside.salt c.deref_mut.result.now c.args.frame.now c.self.inside.names.items
            (subst (λ (s : State). HasNames c.self.inside.salt s.keys c.self.inside.names.items) (sym c.deref_mut.ensures.value) c.self.invariant.0.names);
        names_room = c.self.invariant.0.names_room;
        granted_room = c.self.invariant.0.granted_room;
        sound = subst IsSound c.plan_send_by.ensures.after c.plan_send_by.ensures.sound;
      }),
  c.self.invariant.1,
)
