-- The plan is made over the keys as they were; noting the packet number keeps the prepared keys and their places.
use Rattle.{
  std.proofs.Common.{rules, sym, subst, List, ℕ},
  macsec_suite.specs.KeyRows.InstalledKey,
  macsec_tx.{proofs.Plans.plans_after, specs.{Answers.PlansLeaving, Transmit.{Leaving, sending}}},
}
use Rattle.macsec_tx.proofs.channel.TxChannel.plan_frame.Goals as goal

pub returns-in-Job-clause-leaving : goal.returns-in-Job-clause-leaving
returns-in-Job-clause-leaving c =
    let plan = c.plan_under-plan.result in
    let keys : List InstalledKey = c.args.keys.now in
    let frame : List ℕ = c.args.frame.now in
    let leaving : Leaving = (sending c.args.options.now keys c.args.self.now frame).leaving in
    let planned : PlansLeaving plan keys frame leaving = search rules in
    subst (λ ks. PlansLeaving plan ks frame leaving) (sym c.note_used.ensures.noted) (plans_after plan keys _ _ frame leaving planned)
