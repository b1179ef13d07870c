-- Secrecy and forged tags under one function of blocks: one that shows other messages, with the known values where
-- nothing was sealed.
use Rattle.{
  std.proofs.{
    Common.{◌≡◌, ◌≢◌, inl, inr, ℕ, zero, suc, ◌^◌, ◌<◌, List, [], ◌∷◌, length, get_or, drop, map, cond, Bool},
    Common.{true, All, AllPairs, Contains, slice_index, refl, sym, ap, ap₂, ◌∙◌, subst, arith},
    lemmas.Bool.{and_from, cases_Bool, cond-false, cond-true, cond_both, false_from_ne_true, not_from_false},
    lemmas.List.{
      Elements.{All-cons, All-contains_itself, All-nil, All-weaker, recursion_from_All},
      Folds.{Any-from_list_any, list_any_at},
      Kept.AllPairs-cons,
    },
  },
  std.specs.{Cmp.Lexicographic.same_text, List.{AllByRecursion, AllZip, list_any}},
  macsec_gcm.{
    proofs.KeyStreams.length-gctr,
    specs.{Gcm.{inc32, pre_counter_block}, Octets.{same_octets, sum_with_stream}},
  },
  macsec_suite.specs.CipherUses.CipherUse,
  macsec_hash_keys.{
    proofs.{
      Counting.{all_keys_are, contained_or_not, few_of_all_keys, none_sealed},
      Padding.{number_is, number_lt},
      Sums.octet_at,
      Tags.sum_again,
      UnderKey.{contained_still, same_octets-refl},
    },
    specs.{
      Counting.{all_keys, forging_keys, is_forgery, mask_between, masks_for, same_use},
      Forgeries.{IsRight, IsWithin},
      Tags.tag_with,
    },
  },
  macsec_secrecy.{
    proofs.{Complete.inputs_of_uses_have_all, Inputs.{inputs_of_uses_differ, only_inputs_matter}},
    specs.{
      BlockFunctions.{AreBlocks, counter_block, gctr_by, seal_by, tag_by, zero_block},
      Inputs.{IsUse, inputs_of, inputs_of_uses},
      Pads.{AreAlike, IsMessage, Message, shown_by},
      Runs.{SaysNothing, message_of, shown_of},
    },
  },
  macsec_forgery.specs.OneFunction.{CouldSeal, HidesAndRefuses, RefusesOthers, hash_key_of},
}

abbrev Function : Type 0
Function = List ℕ → List ℕ

-- ---- a function with the known values where nothing was sealed

is_input : List CipherUse → List ℕ → Bool
is_input seals x = list_any (same_octets x) (inputs_of_uses seals)

joined : List CipherUse → Function → Function → Function
joined seals f known x = cond (is_input seals x) (f x) (known x)

at_input : (seals : List CipherUse) (f known : Function) (x : List ℕ) → Contains (inputs_of_uses seals) x
    → joined seals f known x ≡ f x
unfolding is_input joined
at_input seals f known x there =
    cond-true (list_any (same_octets x) (inputs_of_uses seals)) (f x) (known x)
    (list_any_at (same_octets x) (inputs_of_uses seals) there.0 x there.1
    (ap (same_octets x) there.2 ∙ same_octets-refl x))

at_others : (seals : List CipherUse) (f known : Function) (x : List ℕ) → (Contains (inputs_of_uses seals) x → ⊥)
    → joined seals f known x ≡ known x
unfolding is_input joined
at_others seals f known x none =
    let test = list_any (same_octets x) (inputs_of_uses seals) in
    cond-false test (f x) (known x) (false_from_ne_true test (λ e.
    let any = Any-from_list_any (same_octets x) (inputs_of_uses seals) e in
    none (subst (Contains (inputs_of_uses seals)) (sym (same_text x any.1 (sym any.4))) (any.0, any.2, any.3))))

joined_is : (seals : List CipherUse) (f known : Function) → AreBlocks f → AreBlocks known
    → AreBlocks (joined seals f known)
unfolding joined
joined_is seals f known of_f of_known = record {
  lengths = λ x. cond_both (is_input seals x) (f x) (known x) (λ b. length b ≡ 16) (λ e. of_f.lengths x)
      (λ e. of_known.lengths x);
  octets = λ x. cond_both (is_input seals x) (f x) (known x) (All (λ o. o < 256)) (λ e. of_f.octets x)
      (λ e. of_known.octets x);
}

-- functions that agree at the inputs show the same
still_shown : (f g : Function) (seals : List CipherUse) (ns : List Message)
    → AllByRecursion (λ s. All (λ x. f x ≡ g x) (inputs_of s.iv (length s.ciphertext))) seals
    → AllZip AreAlike (map message_of seals) ns → shown_by f ns ≡ shown_by g ns
unfolding shown_by
still_shown f g [] [] agree alike = refl
still_shown f g (s ∷ seals) (n ∷ ns) agree alike =
    let long : length s.ciphertext ≡ length n.text =
    sym (length-gctr s.key (inc32 (pre_counter_block s.iv)) s.ciphertext) ∙ alike.0.text in
    let here = subst (All (λ x. f x ≡ g x)) (ap₂ inputs_of alike.0.iv long) agree.0 in
    ap₂ (λ (first : List ℕ × List ℕ) (rest : List (List ℕ × List ℕ)). first ∷ rest)
    (only_inputs_matter f g n.iv n.aad n.text here) (still_shown f g seals ns agree.1 alike.1)
still_shown f g seals ns agree alike = absurd alike

could_seal : (key : List ℕ) (known : Function) (seals : List CipherUse) (ns : List Message) → SaysNothing key seals
    → AreBlocks known → All IsMessage ns → AllZip AreAlike (map message_of seals) ns
    → (hash_key : List ℕ) → length hash_key ≡ 16 → All (λ o. o < 256) hash_key
    → (f : Function) × CouldSeal known seals ns f × (f zero_block ≡ hash_key)
could_seal key known seals ns says blocks are alike hash_key long small =
    let it = (says.others ns are alike).possible hash_key long small in
    let g = it.0 in
    let f = joined seals g known in
    let agree = All-weaker (Contains seals) (λ s. All (λ x. f x ≡ g x) (inputs_of s.iv (length s.ciphertext)))
    (λ s there. All-weaker (Contains (inputs_of_uses seals)) (λ x. f x ≡ g x) (at_input seals g known)
    (inputs_of s.iv (length s.ciphertext)) (inputs_of_uses_have_all seals s there))
    seals (All-contains_itself seals) in (
      f,
      record {
        blocks = joined_is seals g known it.1 blocks;
        shows = still_shown f g seals ns (recursion_from_All
            (λ s. All (λ x. f x ≡ g x) (inputs_of s.iv (length s.ciphertext))) seals agree) alike ∙ it.3;
        elsewhere = at_others seals g known;
      },
      at_input seals g known zero_block (0, omega arith, refl) ∙ it.2,
    )

-- ---- the tag, by the hash key and the mask

masks_of : Function → List ℕ → List ℕ
masks_of f iv = f (counter_block iv 0)

tag_is : (f : Function) (iv aad c : List ℕ) → tag_by f iv aad c ≡ tag_with (hash_key_of f) (masks_of f iv) aad c
unfolding tag_by gctr_by tag_with sum_with_stream masks_of
tag_is f iv aad c = refl

-- what was sealed has right tags under the masks
seals_right : (f : Function) (seals : List CipherUse) (ns : List Message) → AllZip AreAlike (map message_of seals) ns
    → shown_by f ns ≡ map shown_of seals → AllByRecursion (IsRight (hash_key_of f) (masks_of f)) seals
unfolding shown_by seal_by
seals_right f [] ns alike shows = tt
seals_right f (s ∷ seals) [] alike shows = absurd alike
seals_right f (s ∷ seals) (n ∷ ns) alike shows =
    let first : seal_by f n.iv n.aad n.text ≡ (s.ciphertext, s.tag) =
    ap (λ (xs : List (List ℕ × List ℕ)). get_or xs 0 ([], [])) shows in
    let rest : shown_by f ns ≡ map shown_of seals = ap (drop 1) shows in (
      sym (tag_is f s.iv s.aad s.ciphertext)
          ∙ ap₂ (λ (iv aad : List ℕ). tag_by f iv aad s.ciphertext) alike.0.iv alike.0.aad
          ∙ ap (tag_by f n.iv n.aad) (sym (ap (λ (p : List ℕ × List ℕ). p.0) first))
          ∙ ap (λ (p : List ℕ × List ℕ). p.1) first,
      seals_right f seals ns alike.1 rest,
    )

own_mask : (h : ℕ) (mask aad text tag : List ℕ) → length mask ≡ 16 → tag_with h mask aad text ≡ tag
    → mask_between h aad text tag ≡ mask
unfolding mask_between tag_with
own_mask h mask aad text tag long e = ap (mask_between h aad text) (sym e) ∙ sum_again _ mask (sym long)

-- so these are the masks that the sealed messages give, and for other IVs the given ones
masks_are : (h : ℕ) (given masks : Function) (seals : List CipherUse) (iv : List ℕ)
    → ((other : List ℕ) → length (masks other) ≡ 16) → (All (λ s. s.iv ≢ iv) seals → given iv ≡ masks iv)
    → AllByRecursion (IsRight h masks) seals → masks_for h given seals iv ≡ masks iv
unfolding masks_for
masks_are h given masks [] iv long unused right = unused (All-nil (λ s. s.iv ≢ iv))
masks_are h given masks (s ∷ seals) iv long unused right = elim (cases_Bool (same_octets s.iv iv)) [
  | inl e ↦ cond-true (same_octets s.iv iv) (mask_between h s.aad s.ciphertext s.tag) (masks_for h given seals iv) e
      ∙ own_mask h (masks s.iv) s.aad s.ciphertext s.tag (long s.iv) right.0
      ∙ ap masks (same_text s.iv iv (sym e))
  | inr e ↦ cond-false (same_octets s.iv iv) (mask_between h s.aad s.ciphertext s.tag) (masks_for h given seals iv) e
      ∙ masks_are h given masks seals iv long
      (λ none. unused (All-cons (λ s. s.iv ≢ iv) s seals (λ same.
      let is : same_octets s.iv iv ≡ true = ap (λ v. same_octets v iv) same ∙ same_octets-refl iv in
      absurd (cc)) none)) right.1
]

-- ---- J0 of another IV is no input

not_used : (seals : List CipherUse) (iv : List ℕ) → All IsUse seals → AllPairs (λ s r. s.iv ≢ r.iv) seals
    → length iv ≡ 12 → All (λ s. s.iv ≢ iv) seals → Contains (inputs_of_uses seals) (counter_block iv 0) → ⊥
not_used seals iv are apart long none there = by_place there.0 there.1 there.2
  where
    u : CipherUse
    u = record { key = []; iv = iv; aad = []; ciphertext = []; tag = [] }

    empty : length u.ciphertext ≡ 0
    empty = refl

    differ : AllPairs (λ x y. x ≢ y) (inputs_of_uses (u ∷ seals))
    differ = inputs_of_uses_differ (u ∷ seals)
        (AllPairs-cons (λ s r. s.iv ≢ r.iv) u seals
        (All-weaker (λ s. s.iv ≢ iv) (λ s. iv ≢ s.iv) (λ s other e. other (sym e)) seals none) apart)
        (All-cons IsUse u seals (record { iv = long; text = omega (arith, empty) }) are)

    count : length (inputs_of_uses (u ∷ seals)) ≡ suc (length (inputs_of_uses seals))
    count = refl

    by_place : (k : ℕ) → k < length (inputs_of_uses seals)
        → get_or (inputs_of_uses seals) k (counter_block iv 0) ≡ counter_block iv 0 → ⊥
    by_place zero lt at = differ 0 1 (counter_block iv 0) (omega arith) (omega (arith, count, lt)) at
    by_place (suc k) lt at =
        differ 1 (suc (suc k)) (counter_block iv 0) (omega arith) (omega (arith, count, lt)) (sym at)

-- ---- a try that was not sealed, and is right

is_block : (f : Function) → AreBlocks f → hash_key_of f < 2 ^ 128
is_block f blocks =
    let octets = f zero_block in
    let lt = number_lt 16 (λ i. slice_index octets i) (λ i. octet_at octets i (blocks.octets zero_block)) in
    omega (arith, number_is octets, lt)

given_by : Function → List ℕ → List ℕ
given_by known iv = known (counter_block iv 0)

is_counted : (known f : Function) (seals tries : List CipherUse) (ns : List Message) → All IsUse seals
    → AllPairs (λ s r. s.iv ≢ r.iv) seals → AllZip AreAlike (map message_of seals) ns → CouldSeal known seals ns f
    → (k : ℕ) (default : CipherUse) → k < length tries → length (get_or tries k default).iv ≡ 12
    → IsRight (hash_key_of f) (masks_of f) (get_or tries k default) → (Contains seals (get_or tries k default) → ⊥)
    → Contains (forging_keys (given_by known) seals tries) (hash_key_of f)
unfolding masks_of given_by
is_counted known f seals tries ns are apart alike could k default lt long right none =
    let h = hash_key_of f in
    let given = given_by known in
    let u = get_or tries k default in
    let masks = masks_are h given (masks_of f) seals u.iv (λ iv. could.blocks.lengths (counter_block iv 0))
    (λ unused. sym (could.elsewhere (counter_block u.iv 0) (not_used seals u.iv are apart long unused)))
    (seals_right f seals ns alike could.shows) in
    let tag : tag_with h (masks_for h given seals u.iv) u.aad u.ciphertext ≡ u.tag =
    ap (λ mask. tag_with h mask u.aad u.ciphertext) masks ∙ right in
    let is : is_forgery given seals h u ≡ true =
    and_from _ _ (ap (λ t. same_octets t u.tag) tag ∙ same_octets-refl u.tag)
    (not_from_false (list_any (same_use u) seals) (none_sealed u seals none)) in
    let there = all_keys_are.each h (is_block f could.blocks) in
    contained_still (λ h. list_any (is_forgery given seals h) tries) all_keys h there.0 there.1 there.2
    (list_any_at (is_forgery given seals h) tries k default lt is)

pub hides_and_refuses : (n : ℕ) (key : List ℕ) (known : Function) (seals tries : List CipherUse)
    → SaysNothing key seals → AreBlocks known → All IsUse seals → AllPairs (λ s r. s.iv ≢ r.iv) seals
    → All (λ s. length s.tag ≡ 16) seals → All (λ u. u.key ≡ key) seals → All (IsWithin n) seals
    → All (λ u. u.key ≡ key) tries → All (λ u. length u.iv ≡ 12) tries → All (IsWithin n) tries
    → HidesAndRefuses n known seals tries
hides_and_refuses n key known seals tries says blocks are apart tags of_key within tries_of_key ivs tries_within =
    let given = given_by known in
    record {
      forging = forging_keys given seals tries;
      few = few_of_all_keys n key given seals tries apart tags of_key within tries_of_key tries_within;
      hides = λ ns messages alike. could_seal key known seals ns says blocks messages alike;
      refuses = λ ns alike f could other k default lt right.
          let u = get_or tries k default in
          elim (contained_or_not seals u) [
            | inl there ↦ there
            | inr none ↦ absurd (other (is_counted known f seals tries ns are apart alike could k default lt
                (ivs k default lt) (sym (tag_is f u.iv u.aad u.ciphertext) ∙ right) none))
          ];
    }
