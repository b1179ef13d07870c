-- With the key that was found and the recovered packet number, the opening is as defined.
use Rattle.{std.proofs.Common.{◌≡◌, ◌∙◌}, macsec_suite.specs.KeyRows.the_key, macsec_rx.proofs.Recovered.job_found}
use Rattle.macsec_rx.proofs.judging.job_known.Goals as goal

pub returns : goal.returns
returns c =
    let there = rw c.unwrap-key.ensures at c.key.ensures.row in
    let number = rw (c.suite.ensures, c.pn-pn.ensures, c.tag.ensures) at c.in_ok-number.ensures.number in
    c.job_number.ensures (the_key c.args.keys.now c.args.row.now.key).first_unused
    ∙ job_found c.args.options.now c.args.keys.now c.args.mpdu.now c.args.row.now c.unwrap-key.result.now _ c.in_ok-number.number there number
