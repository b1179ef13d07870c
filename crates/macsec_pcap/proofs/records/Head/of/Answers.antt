-- One equation for each number. This proof is here for speed.
use Rattle.{
  std.proofs.{Common.{◌≡◌, ◌∙◌, ◌-◌, ℕ, List, ap, drop, length, take}, lemmas.List.take_rest},
  macsec_pcap.specs.{Answers.head_of, Numbers.number, declared.{form.Order.Order, records.Head.Head}},
}
use Rattle.macsec_pcap.proofs.records.Head.of.Goals as goal

-- the number after the first n octets
behind : (n : ℕ) (order : Order) (octets : List ℕ) →
    number order 4 (take (length octets - n) (drop n octets)) ≡ number order 4 (drop n octets)
behind n order octets = ap (number order 4) (take_rest octets n)

abbrev head : ℕ → ℕ → ℕ → ℕ → Head
head a b d e = record { seconds = a; fraction = b; captured = d; original = e }

is_head : (order : Order) (octets : List ℕ) (a b d e : ℕ) → a ≡ number order 4 octets →
    b ≡ number order 4 (take (length octets - 4) (drop 4 octets)) →
    d ≡ number order 4 (take (length octets - 8) (drop 8 octets)) →
    e ≡ number order 4 (take (length octets - 12) (drop 12 octets)) → head a b d e ≡ head_of order octets
is_head order octets a b d e first second third fourth =
    ap (λ n. head n b d e) first ∙ ap (λ n. head (number order 4 octets) n d e) (second ∙ behind 4 order octets)
    ∙ ap (λ n. head (number order 4 octets) (number order 4 (drop 4 octets)) n e) (third ∙ behind 8 order octets)
    ∙ ap (λ n. head (number order 4 octets) (number order 4 (drop 4 octets)) (number order 4 (drop 8 octets)) n)
    (fourth ∙ behind 12 order octets)

pub returns : goal.returns
returns c = is_head c.args.order c.args.octets.now _ _ _ _ c.u32.ensures c.u32-2.ensures c.u32-3.ensures c.u32-4.ensures
