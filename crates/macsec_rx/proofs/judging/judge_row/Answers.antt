use Rattle.macsec_rx.proofs.judging.judge_row.Goals as goal

pub returns-in-None-clause-outcome : goal.returns-in-None-clause-outcome
returns-in-None-clause-outcome c = rw c.in-None.is (c.judge_unknown.ensures.outcome c.args.keys.now)
