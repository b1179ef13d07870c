-- All that two ends seal in their runs, if no IV is used twice: it allows every hash key, no input of AES is used
-- twice, and the link says nothing of the encrypted octets but how many there are.
use Rattle.{
  std.proofs.{
    Common.{◌≡◌, ℕ, ◌≤◌, List, [], ◌∷◌, length, map, Bool, true, false, Some, None, All, if◌then◌else◌, nat_lt, refl},
    Common.{arith, ltb-false},
    lemmas.List.Elements.{All-append, All-cons, All-filter, All-nil, All-weaker},
  },
  macsec_gcm.specs.Octets.same_octets,
  macsec_suite.specs.{CipherUses.CipherUse, KeyRows.{AreKeyRows, InstalledKey, the_key}, Suites.is_xpn},
  macsec_secy.specs.{
    Sound.IsSound,
    State.tx_options,
    Step.frame_fault,
    declared.fault.FrameFault.TheVariants.{Long, Short},
  },
  macsec_restarts.specs.{
    Kept.RunWith,
    RenewingOrder.{IsHistoryWith, NoIvAtBothRenewing},
    RenewingRuns.sent_by_all,
    Used.seal_of,
  },
  macsec_secrecy.proofs.{
    Inputs.inputs_of_uses_differ,
    SaysNothing.says_nothing,
    SealedInRuns.{IsOwn, sent_own},
    Shown.ciphertext_long,
    Uses.iv_long,
  },
  macsec_secrecy.specs.Inputs.IsUse,
  macsec_hash_keys.{proofs.UnderKey.under_key, specs.Forgeries.{Opens, under}},
  macsec_link.proofs.{Forged.{possible, tag_long}, SealedUses.ivs_apart},
  macsec_forgery.proofs.{
    Lengths.the_key_has,
    OneFunction.hides_and_refuses,
    Sealed.{HoldsOfSent, both_open, runs_have},
  },
  macsec_forgery.specs.{
    Histories.{AllowsEveryKey, OfAllSealed, SaysNothingIfOctets, UsesNoInputTwice},
    OneFunction.HidesAndRefusesIfOctets,
    Restarts.sealed_by_both,
  },
}

-- ---- each sending

record IsSealed (u : CipherUse) : Type 0 where
  own : IsOwn u
  takes : IsUse u

all_salts : (keys : List InstalledKey) → AreKeyRows keys
    → All (λ key. is_xpn key.suite ≡ true → length key.salt ≡ 12) keys
all_salts [] are = All-nil (λ key. is_xpn key.suite ≡ true → length key.salt ≡ 12)
all_salts (k ∷ keys) are =
    All-cons (λ key. is_xpn key.suite ≡ true → length key.salt ≡ 12) k keys (λ xpn. are.0.salt) (all_salts keys are.2)

not_long : (frame : List ℕ) → frame_fault frame ≡ None → length frame ≤ 9248
not_long frame e = by_tests _ _ refl e
  where
    by_tests : (short long : Bool) → nat_lt 9248 (length frame) ≡ long
        → (if short then Some Short else if long then Some Long else None) ≡ None → length frame ≤ 9248
    by_tests false false is e = ltb-false 9248 (length frame) is
    by_tests short long is e = absurd (cc)

sent_is_sealed : HoldsOfSent IsSealed IsSound (λ input. Unit {0})
sent_is_sealed s row frame sound taken is by =
    let key = the_key s.keys row.key in
    let short = not_long frame is in
    let long = ciphertext_long (tx_options s) key row frame in
    record {
      own = sent_own (tx_options s) key row frame;
      takes = record {
        iv = iv_long _ _ key.ssci key.salt row.next sound.own_sci.count
            (the_key_has (λ k. is_xpn k.suite ≡ true → length k.salt ≡ 12) s.keys row.key (λ xpn. absurd (cc))
            (all_salts s.keys sound.keys));
        text = omega (arith, short, long);
      };
    }

-- ---- all of them

abbrev Apart : Type 0
Apart = (ra rb : List RunWith) → NoIvAtBothRenewing ra rb

end_is_sealed : (rs : List RunWith) → IsHistoryWith rs → All IsSealed (map seal_of (sent_by_all rs))
end_is_sealed rs it =
    runs_have IsSealed IsSound (λ input. Unit {0}) sent_is_sealed rs it.sound (λ i default lt j d within. tt)

are_sealed : (ra rb : List RunWith) → IsHistoryWith ra → IsHistoryWith rb → All IsSealed (sealed_by_both ra rb)
are_sealed ra rb a b =
    All-append IsSealed (map seal_of (sent_by_all ra)) (map seal_of (sent_by_all rb)) (end_is_sealed ra a)
    (end_is_sealed rb b)

sealed_under_key : (key : List ℕ) (P : CipherUse → Type 0) (seals : List CipherUse)
    → ((u : CipherUse) → IsSealed u → P u) → All IsSealed seals
    → All P (under key seals)
sealed_under_key key P seals has all =
    All-weaker IsSealed P has (under key seals) (All-filter (λ u. same_octets u.key key) IsSealed seals all)

pub all_possible : Apart → OfAllSealed AllowsEveryKey
all_possible law ra rb a b two key given h =
    possible key given h (sealed_by_both ra rb) (law ra rb a b two) (both_open ra rb)

pub no_input_twice : Apart → OfAllSealed UsesNoInputTwice
no_input_twice law ra rb a b two key =
    let seals = sealed_by_both ra rb in
    inputs_of_uses_differ (under key seals) (ivs_apart key seals (law ra rb a b two))
    (sealed_under_key key IsUse seals (λ u is. is.takes) (are_sealed ra rb a b))

pub link_says_nothing : Apart → OfAllSealed SaysNothingIfOctets
link_says_nothing law ra rb a b two key octets are =
    let seals = sealed_by_both ra rb in
    says_nothing key (under key seals) octets (under_key key seals)
    (sealed_under_key key IsOwn seals (λ u is. is.own) (are_sealed ra rb a b))
    (ivs_apart key seals (law ra rb a b two)) are

pub hidden_and_refused : Apart → OfAllSealed HidesAndRefusesIfOctets
hidden_and_refused law ra rb a b two key n known tries octets blocks are within of_key ivs tries_within =
    let seals = sealed_by_both ra rb in
    hides_and_refuses n key known (under key seals) tries (link_says_nothing law ra rb a b two key octets are) blocks
    (sealed_under_key key IsUse seals (λ u is. is.takes) (are_sealed ra rb a b))
    (ivs_apart key seals (law ra rb a b two))
    (All-weaker Opens (λ u. length u.tag ≡ 16) tag_long (under key seals)
    (All-filter (λ u. same_octets u.key key) Opens seals (both_open ra rb)))
    (under_key key seals) within of_key ivs tries_within
