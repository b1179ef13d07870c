-- If SCB or ES is set, the SCI has the source address, which is the second half of the addresses. Proved from a lemma
-- on the second of two lists of six octets.
use Rattle.std.proofs.{
  Common.{◌≡◌, ◌++◌, ◌-◌, ℕ, List, length, take, drop, ap, sym, ◌∙◌, arith, rules, append-nil},
  Math.Seq.{take-append_seam, drop-append_seam},
}
use Rattle.macsec_rx.specs.Judge.{port_of}
use Rattle.macsec_rx.proofs.channels.RxChannels.sci_of.Goals as goal

-- the second of two addresses
second : (addresses da sa : List ℕ) → addresses ≡ da ++ sa → length da ≡ 6 → length sa ≡ 6 → length addresses ≡ 12 → take (length addresses - 6) (drop 6 addresses) ≡ sa
second addresses da sa is da_long sa_long long =
    let behind : drop 6 addresses ≡ sa = ap (drop 6) is ∙ ap (λ (n : ℕ). drop n (da ++ sa)) (sym da_long) ∙ drop-append_seam da sa in
    let count : length addresses - 6 ≡ length sa = omega (arith, long, sa_long) in
    ap (take (length addresses - 6)) behind ∙ ap (λ (n : ℕ). take n sa) count ∙ ap (λ (xs : List ℕ). take (length sa) xs) (sym (append-nil sa)) ∙ take-append_seam sa _

pub returns-then-scb : goal.returns-then-scb
returns-then-scb c =
    let a = c.addresses in
    let sa = second a.result.now _ _ a.ensures.octets a.ensures.da a.ensures.sa a.ensures.length in
    let made : c.port_of.result ≡ port_of c.args.mpdu.now.sa 0 = c.port_of.ensures ∙ ap (λ (xs : List ℕ). port_of xs 0) sa in
    search (rules, made)

pub returns-then-es : goal.returns-then-es
returns-then-es c =
    let a = c.addresses-then-es in
    let sa = second a.result.now _ _ a.ensures.octets a.ensures.da a.ensures.sa a.ensures.length in
    let made : c.port_of-then-es.result ≡ port_of c.args.mpdu.now.sa 1 = c.port_of-then-es.ensures ∙ ap (λ (xs : List ℕ). port_of xs 1) sa in
    search (rules, made)
