-- The octet of TCI and AN from its bits, and the bits from the octet. Both directions are proved by tables that antt
-- computes.
use Rattle.std.proofs.{
  Common.{◌≡◌, ℕ, zero, suc, ◌+◌, ◌<◌, Bool, true, false, not, ◌&&◌, refl, arith, inl, inr, ◌==◌, bit_and, ◌||◌},
  Common.eqb-true,
  lemmas.Bool.{and_parts, Decides.eqb_tells},
}
use Rattle.macsec_tag.specs.Tag.{bit_where, v_bit, es_bit, sc_bit, scb_bit, e_bit, c_bit}

-- ---- tests by a table

-- the test passes for each number below n
abbrev pub all_below : (ℕ → Bool) → ℕ → Bool
all_below test zero = true
all_below test (suc n) = test n && all_below test n

-- so it passes for one of them
pub at_below : (test : ℕ → Bool) (n : ℕ) → all_below test n ≡ true → (k : ℕ) → k < n → test k ≡ true
at_below test zero h k small = absurd (omega arith)
at_below test (suc n) h k small =
    let parts = and_parts (test n) (all_below test n) h in
    elim (eqb_tells k n) [ inl same ↦ rw same.1 parts.0 | inr other ↦ at_below test n parts.1 k (omega (arith, other.1)) ]

-- the test passes for true and for false
abbrev pub of_either : (Bool → Bool) → Bool
of_either test = test true && test false

-- so it passes for one of them
pub at_either : (test : Bool → Bool) → of_either test ≡ true → (b : Bool) → test b ≡ true
at_either test h true = (and_parts (test true) (test false) h).0
at_either test h false = (and_parts (test true) (test false) h).1

-- ---- from the octet to its bits and back

-- a bit of the octet is set
abbrev pub is_set : ℕ → ℕ → Bool
is_set bit octet = not (bit_and octet bit == 0)

-- the octet of these bits and this association number
abbrev pub octet_of : Bool → Bool → Bool → Bool → Bool → ℕ → ℕ
octet_of es sc scb e c an =
    bit_where es es_bit + bit_where sc sc_bit + bit_where scb scb_bit + bit_where e e_bit + bit_where c c_bit + an

-- the octet rebuilt from its own bits, without V
abbrev pub made_again : ℕ → ℕ
made_again octet =
    octet_of (is_set es_bit octet) (is_set sc_bit octet) (is_set scb_bit octet) (is_set e_bit octet) (is_set c_bit octet) (bit_and octet 3)

-- V is set, or the rebuilt octet is the octet
abbrev pub is_made_again : ℕ → Bool
is_made_again octet = is_set v_bit octet || made_again octet == octet

-- that holds for each octet
all_made_again : all_below is_made_again 256 ≡ true
all_made_again = refl

-- an octet with V clear is the one rebuilt from its bits
pub made_again_is : (octet : ℕ) → octet < 256 → is_set v_bit octet ≡ false → made_again octet ≡ octet
made_again_is octet small clear =
    let here : is_made_again octet ≡ true = at_below is_made_again 256 all_made_again octet small in
    eqb-true (made_again octet) octet (rw clear at here)

-- ---- from the bits to the octet and back

-- both truth values are the same
abbrev pub is_same : Bool → Bool → Bool
is_same true b = b
is_same false b = not b

-- the test passes only if they are the same
same_by : (a b : Bool) → is_same a b ≡ true → b ≡ a
same_by true b h = h
same_by false true h = cc
same_by false false h = refl

-- a negation that is true
not_by : (b : Bool) → not b ≡ true → b ≡ false
not_by true h = cc
not_by false h = refl

-- the octet of these bits has V clear and has these bits
abbrev pub has_these : Bool → Bool → Bool → Bool → Bool → ℕ → Bool
has_these es sc scb e c an =
    let octet = octet_of es sc scb e c an in
    not (is_set v_bit octet) && (is_same es (is_set es_bit octet) && (is_same sc (is_set sc_bit octet) &&
    (is_same scb (is_set scb_bit octet) && (is_same e (is_set e_bit octet) && (is_same c (is_set c_bit octet) &&
    bit_and octet 3 == an)))))

-- that holds for all bits and association numbers
all_have_these : of_either (λ es. of_either (λ sc. of_either (λ scb. of_either (λ e. of_either (λ c. all_below (has_these es sc scb e c) 4))))) ≡ true
all_have_these = refl

-- the octet has V clear, these bits and this association number
pub record HasBits (es sc scb e c : Bool) (an octet : ℕ) : Type 0 where
  pub v_is : is_set v_bit octet ≡ false
  pub es_is : is_set es_bit octet ≡ es
  pub sc_is : is_set sc_bit octet ≡ sc
  pub scb_is : is_set scb_bit octet ≡ scb
  pub e_is : is_set e_bit octet ≡ e
  pub c_is : is_set c_bit octet ≡ c
  pub an_is : bit_and octet 3 ≡ an

-- the octet of these bits has them
pub octet_of_has : (es sc scb e c : Bool) (an : ℕ) → an < 4 → HasBits es sc scb e c an (octet_of es sc scb e c an)
octet_of_has es sc scb e c an small =
    let octet = octet_of es sc scb e c an in
    let h_es = at_either (λ es. of_either (λ sc. of_either (λ scb. of_either (λ e. of_either (λ c. all_below (has_these es sc scb e c) 4))))) all_have_these es in
    let h_sc = at_either (λ sc. of_either (λ scb. of_either (λ e. of_either (λ c. all_below (has_these es sc scb e c) 4)))) h_es sc in
    let h_scb = at_either (λ scb. of_either (λ e. of_either (λ c. all_below (has_these es sc scb e c) 4))) h_sc scb in
    let h_e = at_either (λ e. of_either (λ c. all_below (has_these es sc scb e c) 4)) h_scb e in
    let h_c = at_either (λ c. all_below (has_these es sc scb e c) 4) h_e c in
    let all : has_these es sc scb e c an ≡ true = at_below (has_these es sc scb e c) 4 h_c an small in
    let from_v = and_parts (not (is_set v_bit octet)) _ all in
    let from_es = and_parts (is_same es (is_set es_bit octet)) _ from_v.1 in
    let from_sc = and_parts (is_same sc (is_set sc_bit octet)) _ from_es.1 in
    let from_scb = and_parts (is_same scb (is_set scb_bit octet)) _ from_sc.1 in
    let from_e = and_parts (is_same e (is_set e_bit octet)) _ from_scb.1 in
    let from_c = and_parts (is_same c (is_set c_bit octet)) _ from_e.1 in
    record {
      v_is = not_by (is_set v_bit octet) from_v.0;
      es_is = same_by es (is_set es_bit octet) from_es.0;
      sc_is = same_by sc (is_set sc_bit octet) from_sc.0;
      scb_is = same_by scb (is_set scb_bit octet) from_scb.0;
      e_is = same_by e (is_set e_bit octet) from_e.0;
      c_is = same_by c (is_set c_bit octet) from_c.0;
      an_is = eqb-true (bit_and octet 3) an from_c.1;
    }
