-- The job fills the octets that it gets.
use Rattle.{
  std.proofs.Common.{◌≡◌, ◌∙◌, arith, length, rules, sym, take, take_at},
  std.proofs.lemmas.List.take_all,
  macsec_jobs.specs.Slots.frame_planned,
}
use Rattle.macsec_jobs.proofs.slot.Slot.seal.Goals as goal

pub returns-in-Seal-clause-sealed : goal.returns-in-Seal-clause-sealed
returns-in-Seal-clause-sealed c =
    let long : length c.seal.new.out ≡ c.length-length.result = search rules in
    let same : c.seal.result ≡ c.length-length.result = search rules in
    let whole : take c.seal.result c.seal.new.out ≡ c.seal.new.out = take_all _ _ (omega (arith, long, same)) in
    let made : take c.seal.result c.seal.new.out ≡ frame_planned c.args.self.now = search rules in
    rw (take_at c.seal.new.out _ c.length-length.result long) (sym whole ∙ made)
