-- The endpoint in its block is the keeper's.
use Rattle.macsec_reserve.proofs.Prelude.{◌∙◌, ap, Keeping, OpensFrame, State, subst, sym}
use Rattle.macsec_reserve.proofs.keeper.Keeper.finish_receive.Goals as goal

pub finish_receive-requires-clause-opened : goal.finish_receive-requires-clause-opened
finish_receive-requires-clause-opened c =
    subst (λ (s : State). OpensFrame c.args.opened.now s.keys c.args.frame.now c.args.out.now)
    (sym (c.deref_mut.ensures.value ∙ ap (λ (k : Keeping). k.secy) c.self.view_is)) c.requires.opened
