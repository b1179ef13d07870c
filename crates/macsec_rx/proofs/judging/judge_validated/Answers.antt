use Rattle.{
  std.proofs.Common.{◌≡◌, None},
  macsec_suite.specs.KeyTables.row_shown,
  macsec_rx.{proofs.Recovered.no_plaintext, specs.Judge.plaintext_of},
}
use Rattle.macsec_rx.proofs.judging.judge_validated.Goals as goal

pub returns-in-None-clause-outcome : goal.returns-in-None-clause-outcome
returns-in-None-clause-outcome c = λ first_unused.
    let none : plaintext_of (row_shown c.args.key.now first_unused) c.args.row.now c.args.number c.args.mpdu.now ≡ None =
    no_plaintext c.args.key.now first_unused c.args.row.now c.args.number c.args.mpdu.now c.requires.own_key c.in-None.ensures.octets in
    rw none (c.judge_invalid.ensures.outcome (row_shown c.args.key.now first_unused) c.args.number)
