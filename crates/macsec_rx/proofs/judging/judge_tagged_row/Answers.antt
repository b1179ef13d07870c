-- Unless E is set and C is clear, the judgement is the one with or without an SA. Proved by search; written out for
-- speed.
use Rattle.std.proofs.Common.{◌≡◌, false, not, ◌&&◌, rules, tests}
use Rattle.macsec_rx.proofs.judging.judge_tagged_row.Goals as goal

not_reserved : (c : goal.After-slice_known-2-1) → (c.args.mpdu.now.tag.e && not c.args.mpdu.now.tag.c) ≡ false
not_reserved c = search (tests, rules)

pub returns-clause-outcome : goal.returns-clause-outcome
returns-clause-outcome c = rw (not_reserved c) c.judge_row.ensures.outcome

pub returns-clause-row : goal.returns-clause-row
returns-clause-row c = rw (not_reserved c) c.judge_row.ensures.row
