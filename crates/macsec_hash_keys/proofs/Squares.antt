-- Squares of blocks: squaring adds and multiplies, and squaring 128 times changes no block.
use Rattle.std.{
  proofs.{Common.{◌≡◌, ℕ, zero, suc, ◌-◌, ◌%◌, ◌^◌, ◌<◌, bit_xor, refl, sym, ap, ap₂, ◌∙◌, arith}, lemmas.Nat.xor_mod},
  specs.{Fn.iterate, Int.Bits.{xor_assoc, xor_self, xor_zero_l}},
}
use Rattle.macsec_field128.{
  proofs.Additive.{IsAdditive, same_from_ones},
  proofs.ProductLaws.{adds_in_first, adds_in_second, associates, product_is_block},
  specs.Field.{block_product, times_x},
}
use Rattle.macsec_hash_keys.{
  proofs.Products.{commutes, mul_from, one_from_first, one_left, product_by_steps, times_x_is},
  specs.Field.one,
}

-- the square of a block; more bits than a block's are ignored, so that it adds for all numbers
pub square : ℕ → ℕ
square a = block_product (a % 2 ^ 128) (a % 2 ^ 128)

cut : (a : ℕ) → a < 2 ^ 128 → a % 2 ^ 128 ≡ a
cut a lt = omega arith

pub square_is : (a : ℕ) → a < 2 ^ 128 → square a ≡ block_product a a
unfolding square
square_is a lt = ap (λ n. block_product n n) (cut a lt)

pub square_lt : (a : ℕ) → square a < 2 ^ 128
unfolding square
square_lt a = product_is_block (a % 2 ^ 128) (a % 2 ^ 128) (omega arith)

-- ---- squaring adds

pub twice_inside : (p q r : ℕ) → bit_xor (bit_xor p q) (bit_xor q r) ≡ bit_xor p r
twice_inside p q r =
    xor_assoc p q (bit_xor q r)
    ∙ ap (bit_xor p) (sym (xor_assoc q q r) ∙ ap (λ n. bit_xor n r) (xor_self q) ∙ xor_zero_l r)

square_of_sum : (p q : ℕ) → p < 2 ^ 128 → q < 2 ^ 128
    → block_product (bit_xor p q) (bit_xor p q) ≡ bit_xor (block_product p p) (block_product q q)
square_of_sum p q lp lq =
    adds_in_first p q (bit_xor p q)
    ∙ ap₂ bit_xor (adds_in_second p p q) (adds_in_second q p q)
    ∙ ap (λ n. bit_xor (bit_xor (block_product p p) (block_product p q)) (bit_xor n (block_product q q)))
    (commutes q p lq lp)
    ∙ twice_inside (block_product p p) (block_product p q) (block_product q q)

pub square_adds : IsAdditive square
unfolding square
square_adds = record {
  adds = λ a b. ap (λ n. block_product n n) (xor_mod a b 128) ∙ square_of_sum _ _ (omega arith) (omega arith);
}

pub iterate_adds : (f : ℕ → ℕ) → IsAdditive f → (n : ℕ) → IsAdditive (iterate f n)
iterate_adds f h zero = record { adds = λ a b. refl }
iterate_adds f h (suc n) = record {
  adds =
      λ a b. ap (iterate f n) (h.adds a b) ∙ (iterate_adds f h n).adds (f a) (f b);
}

-- ---- squaring multiplies

pub square_of_product : (a b : ℕ) → a < 2 ^ 128 → b < 2 ^ 128
    → square (block_product a b) ≡ block_product (square a) (square b)
square_of_product a b la lb =
    let lab = product_is_block a b lb in
    let lbb = product_is_block b b lb in
    square_is _ lab
    ∙ associates a b (block_product a b) lb lab
    ∙ ap (block_product a) (sym (associates b a b la lb) ∙ ap (λ n. block_product n b) (commutes b a lb la)
    ∙ associates a b b lb lb)
    ∙ sym (associates a a (block_product b b) la lbb)
    ∙ ap₂ block_product (sym (square_is a la)) (sym (square_is b lb))

iterate_multiplies : (n a b : ℕ) → a < 2 ^ 128 → b < 2 ^ 128
    → iterate square n (block_product a b) ≡ block_product (iterate square n a) (iterate square n b)
iterate_multiplies zero a b la lb = refl
iterate_multiplies (suc n) a b la lb =
    ap (iterate square n) (square_of_product a b la lb) ∙ iterate_multiplies n _ _ (square_lt a) (square_lt b)

-- ---- squaring 128 times

unfoldable pub square_by_steps : ℕ → ℕ
square_by_steps a = mul_from 128 (a % 2 ^ 128) (a % 2 ^ 128)

pub square_is_by_steps : (a : ℕ) → square a ≡ square_by_steps a
unfolding square square_by_steps
square_is_by_steps a = product_by_steps _ _

iterate_same : (f g : ℕ → ℕ) → ((x : ℕ) → f x ≡ g x) → (n x : ℕ) → iterate f n x ≡ iterate g n x
iterate_same f g e zero x = refl
iterate_same f g e (suc n) x = ap (iterate f n) (e x) ∙ iterate_same f g e n (g x)

iterate_fixed : (f : ℕ → ℕ) (x : ℕ) → f x ≡ x → (n : ℕ) → iterate f n x ≡ x
iterate_fixed f x e zero = refl
iterate_fixed f x e (suc n) = ap (iterate f n) e ∙ iterate_fixed f x e n

-- x to the power of 2^128 is x: computed by 128 squarings
x_returns_by_steps : iterate square_by_steps 128 (2 ^ 126) ≡ 2 ^ 126
unfolding square_by_steps mul_from times_x
x_returns_by_steps = refl

x_returns : iterate square 128 (2 ^ 126) ≡ 2 ^ 126
x_returns = iterate_same square _ square_is_by_steps 128 _ ∙ x_returns_by_steps

one_returns : iterate square 128 one ≡ one
one_returns = iterate_fixed square one (square_is one (omega arith) ∙ one_left one) 128

times_x_returns : (a : ℕ) → a < 2 ^ 128 → iterate square 128 (times_x a) ≡ times_x (iterate square 128 a)
times_x_returns a la =
    ap (iterate square 128) (sym (times_x_is a))
    ∙ iterate_multiplies 128 _ a (omega arith) la
    ∙ ap (λ n. block_product n (iterate square 128 a)) x_returns
    ∙ times_x_is _

times_x_lt : (a : ℕ) → a < 2 ^ 128 → times_x a < 2 ^ 128
times_x_lt a la = let lt = product_is_block (2 ^ 126) a la in rw (times_x_is a) at lt

steps_return : (n a : ℕ) → a < 2 ^ 128 → iterate square 128 a ≡ a
    → iterate square 128 (iterate times_x n a) ≡ iterate times_x n a
steps_return zero a la e = e
steps_return (suc n) a la e = steps_return n _ (times_x_lt a la) (times_x_returns a la ∙ ap times_x e)

one_bit_returns : (k : ℕ) → k < 128 → iterate square 128 (2 ^ k) ≡ 2 ^ k
one_bit_returns k lt =
    ap (iterate square 128) (sym (one_from_first k lt))
    ∙ steps_return (127 - k) (2 ^ 127) (omega arith) one_returns
    ∙ one_from_first k lt

pub each_returns : (a : ℕ) → a < 2 ^ 128 → iterate square 128 a ≡ a
each_returns =
    same_from_ones _ (λ a. a) (iterate_adds square square_adds 128) (record { adds = λ a b. refl }) 128 one_bit_returns
