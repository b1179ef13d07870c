-- Forgeries counted among all hash keys.
use Rattle.{
  std.proofs.{
    Common.{◌≡◌, ◌≢◌, ◌⊎◌, inl, inr, ℕ, ◌^◌, ◌<◌, List, [], ◌∷◌, length, get_or, filter, Bool, true, false},
    Common.{cond, All, AllPairs, Contains, refl, sym, ap, ◌∙◌, subst, arith},
    lemmas.Bool.{and_from, and_parts, cases_Bool, not-true, not_from_false},
    lemmas.List.{
      Elements.{All-filter, All-weaker, filter_passes, recursion_from_All},
      Folds.{Any-from_list_any, list_any-from_Any, list_any_at},
      FromFn.{get_or-range_with_len, length-range_with_len},
      Kept.AllPairs-filter,
    },
  },
  std.specs.{Cmp.Lexicographic.same_text, List.{AllByRecursion, list_any}},
  macsec_aes.specs.Aes.{add_round_key, aes},
  macsec_gcm.specs.{Gcm.hash_subkey, Octets.same_octets},
  macsec_suite.specs.CipherUses.CipherUse,
  macsec_hash_keys.proofs.{
    Forgeries.{few_keys_have_forgeries, masks_make_right, opened_right, same_use as same_fields},
    Tags.{hash_key_is_block, sum_again},
    UnderKey.{contained_still, same_octets-refl},
  },
  macsec_hash_keys.specs.{
    Counting.{AllKeys, FewOfAllKeys, OwnKeyIsOfThem, all_keys, forging_keys, is_forgery, keys_below, mask_between},
    Counting.{masks_for, number_of_keys, same_use},
    Forgeries.{HasForgery, IsRight},
    Tags.{mask_of, tag_with},
  },
}

-- ---- all hash keys

length-keys_below : (n : ℕ) → length (keys_below n) ≡ n
unfolding keys_below
length-keys_below n = length-range_with_len 0 n

key_at : (n i default : ℕ) → i < n → get_or (keys_below n) i default ≡ i
unfolding keys_below
key_at n i default lt = get_or-range_with_len 0 n i default lt ∙ omega arith

number_is : number_of_keys ≡ 2 ^ 128
unfolding number_of_keys
number_is = refl

pub all_keys_are : AllKeys
all_keys_are =
    let n = number_of_keys in
    let is = number_is in
    let long = length-keys_below n in
    record {
      number = long ∙ is;
      once = record {
        blocks = λ k default lt. let at = key_at n k default (omega arith) in omega (arith, at, is, long);
        distinct = λ i j default before within. λ same.
            let ati = key_at n i default (omega arith) in
            let atj = key_at n j default (omega arith) in
            absurd (omega (arith, ati, atj, same));
      };
      each = λ h lt. (h, omega (arith, is, long), key_at n h h (omega (arith, is)));
    }

-- ---- tests

same_itself : (u : CipherUse) → same_use u u ≡ true
same_itself u =
    and_from _ _ (same_octets-refl u.key) (and_from _ _ (same_octets-refl u.iv) (and_from _ _ (same_octets-refl u.aad)
    (and_from _ _ (same_octets-refl u.ciphertext) (same_octets-refl u.tag))))

same_from_test : (u s : CipherUse) → same_use u s ≡ true → s ≡ u
same_from_test u s e =
    let k = and_parts _ _ e in
    let v = and_parts _ _ k.1 in
    let a = and_parts _ _ v.1 in
    let c = and_parts _ _ a.1 in
    same_fields s u (same_text s.key u.key (sym k.0)) (same_text s.iv u.iv (sym v.0)) (same_text s.aad u.aad (sym a.0))
    (same_text s.ciphertext u.ciphertext (sym c.0)) (same_text s.tag u.tag (sym c.1))

not_sealed : (u : CipherUse) (seals : List CipherUse) → list_any (same_use u) seals ≡ false → Contains seals u → ⊥
not_sealed u seals none there =
    let found =
    list_any_at (same_use u) seals there.0 u there.1 (ap (same_use u) there.2 ∙ same_itself u) in
    absurd (cc)

found_or_not : (u : CipherUse) (seals : List CipherUse) → Contains seals u ⊎ (list_any (same_use u) seals ≡ false)
found_or_not u seals = elim (cases_Bool (list_any (same_use u) seals)) [
  | inr none ↦ inr none
  | inl found ↦
      let any = Any-from_list_any _ seals found in
      let same = same_from_test u any.1 any.4 in
      inl (subst (Contains seals) same (any.0, any.2, any.3))
]

pub none_sealed : (u : CipherUse) (seals : List CipherUse) → (Contains seals u → ⊥)
    → list_any (same_use u) seals ≡ false
none_sealed u seals none = elim (found_or_not u seals) [ inr it ↦ it | inl there ↦ absurd (none there) ]

pub contained_or_not : (seals : List CipherUse) (u : CipherUse) → Contains seals u ⊎ (Contains seals u → ⊥)
contained_or_not seals u = elim (found_or_not u seals)
    [ inl there ↦ inl there | inr none ↦ inr (not_sealed u seals none) ]

-- ---- few of all keys

forgery_from_test : (given : List ℕ → List ℕ) (seals tries : List CipherUse) → AllPairs (λ s r. s.iv ≢ r.iv) seals
    → All (λ s. length s.tag ≡ 16) seals
    → (h : ℕ) → list_any (is_forgery given seals h) tries ≡ true → HasForgery given seals tries h
forgery_from_test given seals tries apart long h e =
    let possible = masks_make_right given seals h apart long in
    let any = Any-from_list_any (is_forgery given seals h) tries e in
    let u = any.1 in
    let parts = and_parts _ _ any.4 in
    record {
      masks = masks_for h given seals;
      unused = possible.0;
      sealed = possible.1;
      forged = (
        any.0,
        u,
        any.2,
        any.3,
        (
          same_text (tag_with h (masks_for h given seals u.iv) u.aad u.ciphertext) u.tag (sym parts.0),
          not_sealed u seals (not-true (list_any (same_use u) seals) parts.1),
        ),
      );
    }

pub few_of_all_keys : FewOfAllKeys
few_of_all_keys n key given seals tries apart long ks ws kt wt =
    let test : ℕ → Bool = λ h. list_any (is_forgery given seals h) tries in
    let all = all_keys_are.once in
    few_keys_have_forgeries n key given seals tries (forging_keys given seals tries) ks ws kt wt
    (record {
      blocks = All-filter test (λ h. h < 2 ^ 128) all_keys all.blocks;
      distinct = AllPairs-filter (λ h k. h ≢ k) test all_keys all.distinct;
    })
    (All-weaker (λ h. test h ≡ true) (HasForgery given seals tries) (forgery_from_test given seals tries apart long)
    (forging_keys given seals tries)
    (filter_passes test all_keys))

-- ---- the own hash key

length-mask : (key iv : List ℕ) → length (mask_of key iv) ≡ 16
unfolding aes add_round_key
length-mask key iv = refl

own_mask : (h : ℕ) (mask aad text tag : List ℕ) → length mask ≡ 16 → tag_with h mask aad text ≡ tag
    → mask_between h aad text tag ≡ mask
unfolding mask_between tag_with
own_mask h mask aad text tag long e =
    ap (mask_between h aad text) (sym e) ∙ sum_again _ mask (sym long)

own_masks : (key : List ℕ) (seals : List CipherUse) (iv : List ℕ)
    → AllByRecursion (IsRight (hash_subkey key) (mask_of key)) seals
    → masks_for (hash_subkey key) (mask_of key) seals iv ≡ mask_of key iv
unfolding masks_for
own_masks key [] iv right = refl
own_masks key (s ∷ seals) iv right = by (same_octets s.iv iv) refl (own_masks key seals iv right.1)
  where
    by : (b : Bool) → same_octets s.iv iv ≡ b → masks_for (hash_subkey key) (mask_of key) seals iv ≡ mask_of key iv
        → cond b (mask_between (hash_subkey key) s.aad s.ciphertext s.tag)
        (masks_for (hash_subkey key) (mask_of key) seals iv) ≡ mask_of key iv
    by false e rest = rest
    by true e rest =
        own_mask _ _ s.aad _ s.tag (length-mask key s.iv) right.0
        ∙ ap (mask_of key) (same_text s.iv iv (sym e))

pub own_key_is_of_them : OwnKeyIsOfThem
own_key_is_of_them key seals tries octets apart ks opens kt forged =
    let h = hash_subkey key in
    let u = forged.1 in
    let ku : u.key ≡ key = subst (λ x. x.key ≡ key) forged.3 (kt forged.0 u forged.2) in
    let right : All (IsRight h (mask_of key)) seals =
    λ k default lt. opened_right key (get_or seals k default) (ks k default lt) (opens k default lt) in
    let tag : tag_with h (masks_for h (mask_of key) seals u.iv) u.aad u.ciphertext ≡ u.tag =
    ap (λ mask. tag_with h mask u.aad u.ciphertext)
    (own_masks key seals u.iv (recursion_from_All (IsRight h (mask_of key)) seals right))
    ∙ opened_right key u ku forged.4.0 in
    let is : is_forgery (mask_of key) seals h u ≡ true =
    and_from _ _ (ap (λ t. same_octets t u.tag) tag ∙ same_octets-refl u.tag)
    (not_from_false (list_any (same_use u) seals) (none_sealed u seals forged.4.1)) in
    let test =
    list_any-from_Any (is_forgery (mask_of key) seals h) tries (forged.0, u, forged.2, forged.3, is) in
    let there = all_keys_are.each h (hash_key_is_block key octets) in
    contained_still (λ h. list_any (is_forgery (mask_of key) seals h) tries) all_keys h there.0 there.1 there.2 test
