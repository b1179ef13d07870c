-- For each hash key some tag is a forgery.
use Rattle.{
  std.proofs.{
    Common.{◌≡◌, ◌≢◌, ℕ, List, [], ◌∷◌, true, All, Contains, refl, arith},
    lemmas.{Bool.{and_from, not_from_false}, List.{Elements.All-contains, Folds.list_any-from_Any}},
  },
  std.specs.List.list_any,
  macsec_suite.specs.CipherUses.CipherUse,
  macsec_hash_keys.proofs.{
    Counting.{all_keys_are, none_sealed},
    Forgeries.masks_make_right,
    UnderKey.{contained_still, same_octets-refl},
  },
  macsec_hash_keys.specs.{
    Counting.{all_keys, is_forgery, masks_for, same_use},
    EachKey.{EachKeyHasForgery, EachKeyIsCounted, with_right_tag},
  },
}

new_data : (seals : List CipherUse) (u : CipherUse) → All (λ s. s.aad ≢ u.aad) seals → Contains seals u → ⊥
new_data seals u other there = All-contains (λ s. s.aad ≢ u.aad) seals u other there refl

pub each_key_has_forgery : EachKeyHasForgery
each_key_has_forgery h given seals key iv aad text apart long other =
    let u = with_right_tag h given seals key iv aad text in
    let right = masks_make_right given seals h apart long in
    record {
      masks = masks_for h given seals;
      unused = right.0;
      sealed = right.1;
      forged = (0, u, omega arith, refl, (refl, new_data seals u other));
    }

pub each_key_is_counted : EachKeyIsCounted
each_key_is_counted h given seals key iv aad text lt other =
    let u = with_right_tag h given seals key iv aad text in
    let is : is_forgery given seals h u ≡ true =
    and_from _ _ (same_octets-refl u.tag)
    (not_from_false (list_any (same_use u) seals) (none_sealed u seals (new_data seals u other))) in
    let test = list_any-from_Any (is_forgery given seals h) (u ∷ []) (0, u, omega arith, refl, is) in
    let there = all_keys_are.each h lt in
    contained_still (λ k. list_any (is_forgery given seals k) (u ∷ [])) all_keys h there.0 there.1 there.2 test
