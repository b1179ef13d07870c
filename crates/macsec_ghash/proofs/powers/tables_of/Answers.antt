-- The steps of the loop cover all octets and all numbers.
use Rattle.{
  std.proofs.Common.{◌≡◌, ℕ, List, ◌+◌, ◌*◌, ◌/◌, ◌%◌, ◌^◌, slice_index, sym, ap, ap₂, ◌∙◌, arith},
  macsec_ghash.{proofs.ProductOctets.product_octet, specs.Tables.octet_of_product},
}
use Rattle.macsec_ghash.proofs.powers.tables_of.Goals as goal

pub returns : goal.returns
returns c =
    let numbers : List ℕ = c.args.numbers.now in
    record {
      at = λ j j_lt p p_lt n n_lt.
          let q : ℕ = 8 * j + p in
          let place : 16 * q + n ≡ 128 * j + 16 * p + n = omega arith in
          let number : q % 8 ≡ p = omega arith in
          let octet : q / 8 ≡ j = omega arith in
          sym (ap (slice_index c.loop-place.tables) place)
          ∙ c.loop-place.invariant q (omega (arith, c.loop-place-test.false)) n n_lt
          ∙ ap₂ (λ (a b : ℕ). octet_of_product n (slice_index numbers a * 2 ^ 8 / 2 ^ (8 * b) % 2 ^ 16)) number octet
          ∙ sym (product_octet j n (slice_index numbers p) n_lt);
    }
