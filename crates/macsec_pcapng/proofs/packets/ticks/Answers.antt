-- A separate equation for each half. This proof is here for speed.
use Rattle.{
  std.proofs.{Common.{◌≡◌, ◌∙◌, ◌+◌, ◌*◌, ◌-◌, ℕ, List, ap, drop, length, take}, lemmas.List.take_rest},
  macsec_pcap.specs.{Numbers.number, declared.form.Order.Order},
  macsec_pcapng.specs.Packets.ticks,
}
use Rattle.macsec_pcapng.proofs.packets.ticks.Goals as goal

is_ticks : (order : Order) (front : List ℕ) (high low : ℕ) →
    high ≡ number order 4 (take (length front - 4) (drop 4 front)) → low ≡ number order 4 (take (length front - 8) (drop 8 front)) →
    high * 4294967296 + low ≡ ticks order front
is_ticks order front high low first second =
    ap (λ n. n * 4294967296 + low) (first ∙ ap (number order 4) (take_rest front 4))
    ∙ ap (λ n. number order 4 (drop 4 front) * 4294967296 + n) (second ∙ ap (number order 4) (take_rest front 8))

pub returns : goal.returns
returns c =
    is_ticks c.args.order c.args.front.now _ _ (c.from-high.ensures ∙ c.u32.ensures) (c.from-low.ensures ∙ c.u32-2.ensures)
