-- The field of bytes (FIPS 197, section 4). A byte is a polynomial over GF(2): bit i is the coefficient of x^i. The sum
-- of two bytes is their bitwise exclusive or (4.1).
use Rattle.std.specs.Prelude.{ℕ, zero, suc, ◌+◌, ◌*◌, ◌%◌, ◌^◌, ◌==◌, bit_xor, position, unwrap_or}
use Rattle.std.specs.Int.{bit_at}
use Rattle.std.specs.List.{range_with_len}

-- the sum of f i over the i below n
unfoldable pub sum_below : ℕ → (ℕ → ℕ) → ℕ
sum_below zero f = 0
sum_below (suc n) f = bit_xor (sum_below n f) (f n)

-- the product of two polynomials of degree 7 or less
unfoldable pub polynomial_product : ℕ → ℕ → ℕ
polynomial_product a b = sum_below 8 (λ i. bit_at a i * b * 2 ^ i)

-- x^8 + x^4 + x^3 + x + 1 (4.2)
abbrev pub modulus : ℕ
modulus = 0x11b

-- the remainder of p, of degree below 8 + n, after long division by the modulus
unfoldable pub remainder : ℕ → ℕ → ℕ
remainder zero p = p
remainder (suc n) p = remainder n (bit_xor p (bit_at p (8 + n) * modulus * 2 ^ n))

-- the product of two bytes: the product of the polynomials modulo the modulus (4.2)
unfoldable pub byte_product : ℕ → ℕ → ℕ
byte_product a b = remainder 7 (polynomial_product a b)

-- the byte whose product with a is 1, or 0 if there is none
unfoldable pub inverse : ℕ → ℕ
inverse a = unwrap_or (position (λ b. byte_product a b == 1) (range_with_len 0 256)) 0

-- bit i of a byte, with i taken modulo 8
abbrev pub bit : ℕ → ℕ → ℕ
bit b i = bit_at b (i % 8)

-- the affine transformation: bit i of the result is
-- b_i + b_(i+4) + b_(i+5) + b_(i+6) + b_(i+7) + c_i modulo 2, where c is 63 hexadecimal (5.1.1)
unfoldable pub affine_transformation : ℕ → ℕ
affine_transformation b = sum_below 8 (λ i.
    (bit b i + bit b (i + 4) + bit b (i + 5) + bit b (i + 6) + bit b (i + 7) + bit 0x63 i) % 2 * 2 ^ i)

-- the S-box: the affine transformation of the inverse of a byte (5.1.1)
unfoldable pub s_box : ℕ → ℕ
s_box a = affine_transformation (inverse a)
