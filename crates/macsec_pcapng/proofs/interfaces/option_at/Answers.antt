use Rattle.std.proofs.{
  Common.{◌≡◌, ◌≢◌, ◌∙◌, ◌+◌, ◌-◌, ◌≤◌, ◌<◌, ℕ, List, ap, arith, drop, length, refl, sym, take, Result, Ok, Err, ◌==◌},
  Common.{false, true, nat_lt, le-ltb, lt-ltb},
  lemmas.Bool.Decides.nat_tests,
}
use Rattle.macsec_pcap.specs.declared.{fault.PcapFault.{PcapFault, TheVariants.BlockLength}, form.Order.Order}
use Rattle.macsec_pcapng.specs.{
  Interfaces.{behind_option, option_at, option_code, option_length, padded, value_length, with_option},
  declared.interfaces.Interface.Interface,
}
use Rattle.macsec_pcapng.proofs.interfaces.option_at.Goals as goal

-- an option before the last: its code, the length of its value, and its total length
record IsOption (order : Order) (octets : List ℕ) (code n len : ℕ) : Type 0 where
  head : 4 ≤ length octets
  here : code ≡ option_code order octets
  more : code ≢ 0
  value : n ≡ value_length order octets
  all : len ≡ padded n

unlike_zero : (n : ℕ) → n ≢ 0 → (n == 0) ≡ false
unlike_zero n some = grind (arith, nat_tests)

option_at-cut : (order : Order) (octets : List ℕ) (interface : Interface) (code n len : ℕ) → IsOption order octets code n len → length octets < 4 + len →
    option_at order octets interface ≡ Err BlockLength
option_at-cut order octets interface code n len is short =
    let head : nat_lt (length octets) 4 ≡ false = le-ltb (length octets) 4 is.head in
    let more : (option_code order octets == 0) ≡ false = ap (λ k. k == 0) (sym is.here) ∙ unlike_zero code is.more in
    let all : 4 + len ≡ option_length order octets = ap (λ k. 4 + k) is.all ∙ ap (λ k. 4 + padded k) is.value in
    let cut : nat_lt (length octets) (option_length order octets) ≡ true =
    ap (nat_lt (length octets)) (sym all) ∙ lt-ltb (length octets) (4 + len) short in
    rw (head, more, cut) refl

option_at-whole : (order : Order) (octets : List ℕ) (interface : Interface) (code n len : ℕ) (answer : Result Interface PcapFault) → IsOption order octets code n len →
    4 + len ≤ length octets → answer ≡ with_option order interface code (take (4 + n - 4) (drop 4 octets)) →
    behind_option answer (4 + len) ≡ option_at order octets interface
option_at-whole order octets interface code n len answer is whole told =
    let head : nat_lt (length octets) 4 ≡ false = le-ltb (length octets) 4 is.head in
    let more : (option_code order octets == 0) ≡ false = ap (λ k. k == 0) (sym is.here) ∙ unlike_zero code is.more in
    let all : 4 + len ≡ option_length order octets = ap (λ k. 4 + k) is.all ∙ ap (λ k. 4 + padded k) is.value in
    let long : nat_lt (length octets) (option_length order octets) ≡ false =
    ap (nat_lt (length octets)) (sym all) ∙ le-ltb (length octets) (4 + len) whole in
    let count : 4 + n - 4 ≡ value_length order octets = omega (arith, is.value) in
    ap (λ a. behind_option a (4 + len)) told
    ∙ ap (λ k. behind_option (with_option order interface code (take k (drop 4 octets))) (4 + len)) count
    ∙ ap (λ k. behind_option (with_option order interface k (take (value_length order octets) (drop 4 octets))) (4 + len)) is.here
    ∙ ap (behind_option (with_option order interface (option_code order octets) (take (value_length order octets) (drop 4 octets)))) all
    ∙ sym (rw (head, more, long) refl)

pub returns-then-octets-len-clause-option : goal.returns-then-octets-len-clause-option
returns-then-octets-len-clause-option c =
    let is : IsOption c.args.order c.args.octets.now c.u16-code.result c.value_length-value_len.result c.padded-len.result = record {
      head = c.if-octets-lt4.false;
      here = c.u16-code.ensures;
      more = c.if-code-eq-END_OF_OPTIONS.false;
      value = c.value_length-value_len.ensures.value;
      all = c.padded-len.ensures.padded;
    } in
    sym (option_at-cut c.args.order c.args.octets.now c.args.interface _ _ _ is c.if-octets-len.true)

pub returns-in-Ok-clause-option : goal.returns-in-Ok-clause-option
returns-in-Ok-clause-option c =
    let is : IsOption c.args.order c.args.octets.now c.u16-code.result c.value_length-value_len.result c.padded-len.result = record {
      head = c.if-octets-lt4.false;
      here = c.u16-code.ensures;
      more = c.if-code-eq-END_OF_OPTIONS.false;
      value = c.value_length-value_len.ensures.value;
      all = c.padded-len.ensures.padded;
    } in
    option_at-whole c.args.order c.args.octets.now c.args.interface _ _ _ (Ok c.in-Ok.described) is c.if-octets-len.false c.in-Ok.ensures

pub returns-in-Err-clause-option : goal.returns-in-Err-clause-option
returns-in-Err-clause-option c =
    let is : IsOption c.args.order c.args.octets.now c.u16-code.result c.value_length-value_len.result c.padded-len.result = record {
      head = c.if-octets-lt4.false;
      here = c.u16-code.ensures;
      more = c.if-code-eq-END_OF_OPTIONS.false;
      value = c.value_length-value_len.ensures.value;
      all = c.padded-len.ensures.padded;
    } in
    option_at-whole c.args.order c.args.octets.now c.args.interface _ _ _ (Err c.in-Err.fault) is c.if-octets-len.false c.in-Err.ensures
