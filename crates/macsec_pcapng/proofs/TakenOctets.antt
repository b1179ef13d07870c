-- Reading and skipping octets of a reader.
use Rattle.{
  std.proofs.Common.{◌≡◌, ℕ, ◌≤◌, List, ◌++◌, length, take, drop, refl, sym, ap, ◌∙◌, arith, length-append, Option},
  std.proofs.Common.{Some, None, IfSome, Ok, drop_at, take_all, take_at},
  macsec_pcap.specs.Filled.IsFilled,
  macsec_pcapng.specs.Answers.Fetches,
}

-- ---- filling a room

pub fetches : (old new : Option (List ℕ)) (room : List ℕ) (n : ℕ) → length room ≤ n → IsFilled old new room n → IfSome old (λ octets. Fetches room octets new (Ok tt))
fetches None new room n whole filled = tt
fetches (Some octets) None room n whole filled = absurd filled.octets
fetches (Some octets) (Some ys) room n whole filled =
    let joined : octets ≡ room ++ ys = filled.octets ∙ ap (λ xs. xs ++ ys) (take_all n room whole) in (
      omega (arith, ap length joined, length-append room ys),
      sym (ap (take (length room)) joined ∙ take_at room ys _ refl),
      ap Some (sym (ap (drop (length room)) joined ∙ drop_at room ys _ refl)),
    )

-- ---- skipping octets

-- the first n octets were skipped
abbrev pub IsPast : Option (List ℕ) → Option (List ℕ) → ℕ → Type 0
IsPast old new n = IfSome old (λ octets. (n ≤ length octets) × (new ≡ Some (drop n octets)))
