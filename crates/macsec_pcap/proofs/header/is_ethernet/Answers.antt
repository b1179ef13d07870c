-- By the equation of the number after the first 20 octets, so that a number of fewer octets is refused quickly.
use Rattle.{
  std.proofs.{Common.{◌≡◌, ◌∙◌, ◌-◌, ℕ, List, ap, drop, length, take, ◌==◌}, lemmas.List.take_rest},
  macsec_pcap.specs.{Header.is_ethernet, Numbers.number, declared.form.Order.Order},
}
use Rattle.macsec_pcap.proofs.header.is_ethernet.Goals as goal

is_one : (order : Order) (front : List ℕ) (n : ℕ) → n ≡ number order 4 (take (length front - 20) (drop 20 front)) →
    (n == 1) ≡ is_ethernet order front
is_one order front n is = ap (λ k. k == 1) (is ∙ ap (number order 4) (take_rest front 20))

pub returns : goal.returns
returns c = search is_one
