-- No log from the index on has the key. The log that has it is the only one. Proved from the lemmas in `SentLogs`.
use Rattle.{
  std.proofs.Common.{◌∙◌, ◌-◌, ap, arith, rules, sym, ◌==◌},
  macsec_link_logs.{proofs.SentLogs.place_is, specs.Kept.KeptSentLog},
}
use Rattle.macsec_link_logs.proofs.sent.place_of.Goals as goal

pub returns-then-is_under-clause-found : goal.returns-then-is_under-clause-found
returns-then-is_under-clause-found c =
    place_is c.args.key c.args.logs.now (c.loop-place.place - 1) c.index-logs-place.result c.requires (omega (arith, c.loop-place.invariant.within, c.loop-place-test.true))
    (ap (λ (k : KeptSentLog). k.log.key == c.args.key) (sym c.index-logs-place.is) ∙ sym c.is_under.ensures ∙ c.if-is_under.true)

pub loop-place-smaller : goal.loop-place-smaller
loop-place-smaller c = omega (arith, c.loop-place-test.true)

pub returns-clause-found : goal.returns-clause-found
returns-clause-found c = search rules
