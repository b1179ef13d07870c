-- Options are read one after another: one step of the loop in `with_options`.
use Rattle.{
  std.proofs.Common.{◌≡◌, ℕ, zero, suc, ◌+◌, ◌-◌, ◌<◌, List, drop, refl, ap, ◌∙◌, arith, Some, None, Ok, Err},
  macsec_pcap.specs.declared.{fault.PcapFault.PcapFault, form.Order.Order},
  macsec_pcapng.specs.{Interfaces.{after_option, option_at, options_in}, declared.interfaces.Interface.Interface},
}

-- reading all options is reading the first one and then the rest
pub options_in-more : (order : Order) (n k : ℕ) (octets : List ℕ) (interface described : Interface) (len : ℕ) → k < n →
    option_at order octets interface ≡ Ok (Some (described, len)) →
    options_in order (n - k) octets interface ≡ options_in order (n - (k + 1)) (drop len octets) described
unfolding options_in
options_in-more order n k octets interface described len below found =
    let left : n - k ≡ suc (n - (k + 1)) = omega (arith, below) in
    ap (λ m. options_in order m octets interface) left ∙ ap (λ found. after_option found interface octets (λ rest more. options_in order (n - (k + 1)) rest more)) found

pub options_in-none : (order : Order) (n k : ℕ) (octets : List ℕ) (interface : Interface) → k < n → option_at order octets interface ≡ Ok None →
    options_in order (n - k) octets interface ≡ Ok interface
unfolding options_in
options_in-none order n k octets interface below none =
    let left : n - k ≡ suc (n - (k + 1)) = omega (arith, below) in
    ap (λ m. options_in order m octets interface) left ∙ ap (λ found. after_option found interface octets (λ rest more. options_in order (n - (k + 1)) rest more)) none

pub options_in-fault : (order : Order) (n k : ℕ) (octets : List ℕ) (interface : Interface) (fault : PcapFault) → k < n → option_at order octets interface ≡ Err fault →
    options_in order (n - k) octets interface ≡ Err fault
unfolding options_in
options_in-fault order n k octets interface fault below fails =
    let left : n - k ≡ suc (n - (k + 1)) = omega (arith, below) in
    ap (λ m. options_in order m octets interface) left ∙ ap (λ found. after_option found interface octets (λ rest more. options_in order (n - (k + 1)) rest more)) fails

pub options_in-end : (order : Order) (octets : List ℕ) (interface : Interface) → options_in order zero octets interface ≡ Ok interface
unfolding options_in
options_in-end order octets interface = refl
