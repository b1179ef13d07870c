use Rattle.{
  std.proofs.Common.{◌≡◌, false, ◌&&◌, sym, ◌∙◌},
  macsec_pn.specs.Numbers.is_late,
  macsec_rx.specs.Judge.is_disabled,
}
use Rattle.macsec_rx.proofs.judging.judge_number.Goals as goal

pub returns-clause-outcome : goal.returns-clause-outcome
returns-clause-outcome c =
    let dropped : (c.args.options.now.replay && is_late c.args.row.now.lowest c.args.number) ≡ false = sym c.is_dropped_late.ensures ∙ c.if-is_dropped_late.false in
    let disabled : is_disabled c.args.options.now.mode ≡ false = sym c.is_disabled.ensures ∙ c.if-is_disabled.false in
    λ first_unused. rw (dropped, disabled) (c.judge_validated.ensures.outcome first_unused)
