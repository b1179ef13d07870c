-- The definitions leave nothing out.
use Rattle.{
  std.proofs.{
    Common.{◌≡◌, ℕ, zero, suc, ◌+◌, ◌*◌, ◌<◌, ◌≤◌, Bool, true, false, List, [], ◌∷◌, ◌++◌, length, take, drop},
    Common.{get_or, All, Contains, refl, sym, ap, ◌∙◌, subst, arith, length-append, take-take},
    Math.Seq.take-add,
    lemmas.List.{
      append_cancel_left,
      Elements.{All-cons, All-contains_itself, All-weaker, Contains-append_left, Contains-append_right},
      Elements.recursion_from_All,
    },
  },
  std.specs.List.{AllByRecursion, flat_map},
  macsec_suite.specs.{CipherUses.CipherUse, Parts.clear_length},
  macsec_secrecy.{
    proofs.Inputs.length-counter_blocks,
    specs.BlockFunctions.zero_block,
    specs.Complete.{DifferAtBlocks, EncryptedOctetsMayDiffer, InputsOfUsesHaveAll, NumberIsReached},
    specs.Inputs.counter_blocks,
  },
}

-- ---- each input is listed

listed : (u : CipherUse) (uses : List CipherUse) (k : ℕ) → k < length uses → get_or uses k u ≡ u
    → All (Contains (flat_map (λ r. counter_blocks r.iv (length r.ciphertext)) uses))
    (counter_blocks u.iv (length u.ciphertext))
listed u [] k lt at = absurd (omega arith)
listed u (v ∷ uses) zero lt at =
    let own = counter_blocks u.iv (length u.ciphertext) in
    let rest = flat_map (λ r. counter_blocks r.iv (length r.ciphertext)) uses in
    subst (λ r. All (Contains (counter_blocks r.iv (length r.ciphertext) ++ rest)) own) (sym at)
    (All-weaker (Contains own) (Contains (own ++ rest)) (λ x there. Contains-append_left own rest x there) own
    (All-contains_itself own))
listed u (v ∷ uses) (suc k) lt at =
    let own = counter_blocks u.iv (length u.ciphertext) in
    let first = counter_blocks v.iv (length v.ciphertext) in
    let rest = flat_map (λ r. counter_blocks r.iv (length r.ciphertext)) uses in
    All-weaker (Contains rest) (Contains (first ++ rest)) (λ x there. Contains-append_right first rest x there) own
    (listed u uses k (omega arith) at)

pub inputs_of_uses_have_all : InputsOfUsesHaveAll
inputs_of_uses_have_all uses u there =
    let own = counter_blocks u.iv (length u.ciphertext) in
    let blocks = flat_map (λ r. counter_blocks r.iv (length r.ciphertext)) uses in
    All-cons (Contains (zero_block ∷ blocks)) zero_block own (0, omega arith, refl)
    (All-weaker (Contains blocks) (Contains (zero_block ∷ blocks))
    (λ x h. (suc h.0, (let lt = h.1 in omega arith), h.2)) own (listed u uses there.0 there.1 there.2))

-- ---- the bound is reached

count_all : (m : ℕ) (uses : List CipherUse) → AllByRecursion (λ u. length u.ciphertext ≡ 16 * m) uses
    → length (flat_map (λ u. counter_blocks u.iv (length u.ciphertext)) uses) ≡ length uses * (m + 1)
count_all m [] exact = omega arith
count_all m (u ∷ uses) exact =
    let first = length-counter_blocks u.iv (length u.ciphertext) in
    let long = exact.0 in
    let here : length (counter_blocks u.iv (length u.ciphertext)) ≡ m + 1 = omega arith in
    let rest = count_all m uses exact.1 in
    let both = length-append (counter_blocks u.iv (length u.ciphertext))
    (flat_map (λ r. counter_blocks r.iv (length r.ciphertext)) uses) in
    omega (arith, here, rest, both)

pub number_is_reached : NumberIsReached
number_is_reached m uses exact =
    let c = count_all m uses (recursion_from_All (λ u. length u.ciphertext ≡ 16 * m) uses exact) in
    omega (arith, c)

-- ---- functions differ at blocks

pub differ_at_blocks : DifferAtBlocks
differ_at_blocks f g = (
  λ d. (d.at, d.long, d.octets, d.apart),
  λ it. record { at = it.0; long = it.1; octets = it.2; apart = it.3 },
)

-- ---- encrypted octets

clear_within : (offset : ℕ) (e : Bool) (xs : List ℕ) → e ≡ true → clear_length offset e xs ≤ offset
clear_within offset true xs e = omega arith
clear_within offset false xs e = absurd (cc)

pub encrypted_octets_may_differ : EncryptedOctetsMayDiffer
encrypted_octets_may_differ options key row frame other conf long same =
    let offset = key.offset in
    let xs = drop 12 frame in
    let ys = drop 12 other in
    let n = clear_length offset row.conf xs in
    let few = clear_within offset row.conf xs conf in
    let addresses : take 12 frame ≡ take 12 other =
    sym (take-take 12 (12 + offset) frame (omega arith)) ∙ ap (take 12) same
    ∙ take-take 12 (12 + offset) other (omega arith) in
    let both : take 12 frame ++ take offset xs ≡ take 12 frame ++ take offset ys =
    sym (take-add 12 offset frame) ∙ same ∙ take-add 12 offset other
    ∙ ap (λ front. front ++ take offset ys) (sym addresses) in
    let clear : take offset xs ≡ take offset ys = append_cancel_left (take 12 frame) (take offset xs) _ both in
    record {
      long = long;
      addresses = addresses;
      clear = sym (take-take n offset xs few) ∙ ap (take n) clear ∙ take-take n offset ys few;
    }
