-- A number depends only on its own octets, whatever follows them.
use Rattle.{
  std.proofs.Common.{◌≡◌, ℕ, ◌+◌, ◌≤◌, List, ◌++◌, length, drop, ◌∙◌, ap, arith, length-drop},
  std.proofs.lemmas.List.drop-append-le,
  byteorder.specs.Numbers.{big_from-append, little_from-append},
  macsec_pcap.specs.{Numbers.number, declared.form.Order.{Order, TheVariants.{Big, Little}}},
}

pub number-append : (order : Order) (n : ℕ) (xs ys : List ℕ) → n ≤ length xs → number order n (xs ++ ys) ≡ number order n xs
number-append Big n xs ys h = big_from-append n xs ys h
number-append Little n xs ys h = little_from-append n xs ys h

pub number-drop-append : (order : Order) (n k : ℕ) (xs ys : List ℕ) → k + n ≤ length xs → number order n (drop k (xs ++ ys)) ≡ number order n (drop k xs)
number-drop-append order n k xs ys h =
    ap (number order n) (drop-append-le k xs ys (omega (arith, h)))
    ∙ number-append order n (drop k xs) ys (omega (arith, length-drop k xs))
