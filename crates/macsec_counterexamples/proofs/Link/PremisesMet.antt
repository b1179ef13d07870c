-- The premises of the laws demand no more than they state. A frame that does not open forges no tag, whatever the mode
-- and the verdict; nor does an event that only creates a link frame. The law on packet numbers covers runs with uses of
-- the cipher at both ends, also with 32-bit packet numbers, the same SSCI and different salts. An end that was strict
-- until its SA was deleted may then leave the mode Strict.
use Rattle.macsec_tag.specs.Table.{Reading, bad, tagged, untagged}
use Rattle.macsec_counterexamples.proofs.{
  Names.{[], ◌++◌, ◌==◌, ◌∷◌, ◌≡◌, ◌≢◌, AgreeOnKey, AgreeOnKeys, Alter, arith, B, Check, Command, Contains, Deliver},
  Names.{DifferInSsci, End, end_of, EndConfig, Event, false, frame_at, IfSome, Inject, InstalledKey, is_xpn},
  Names.{IsGenuineAt, IsStrict, Judgement, judgement_of, length, List, make_fault, new_world, None, Option, Pad, refl},
  Names.{replicate, RxDel, RxRow, Send, SendUncontrolled, Some, State, Trace, trace_of, true, use_opened_in, Validate},
  Names.{WhileThere, world_after, ℕ},
  Link.TracedSteps.{WhileLive, at_moment},
  Link.WorkedEnds.{both_send, gcm_a, gcm_b, new_key, no_salt, of_two, receives_from, sci_a, sci_b, scis_differ, xpn_a},
  Link.WorkedEnds.xpn_b,
}
use Rattle.macsec_tag.specs.Table as table

-- a frame that step 13 of reception does not decide has no condition
pub nothing_asked : (t : Trace) (e : End) (n : ℕ) → ((judgement_of (end_of t.world e).state (frame_at t.world n)).step
    == 13) ≡ false → IsGenuineAt t (Deliver e n)
nothing_asked t e n not13 = by_parts (judgement_of s frame) _ _ not13
  where
    s : State
    s = (end_of t.world e).state

    frame : List ℕ
    frame = frame_at t.world n

    by_parts : (j : Judgement) (row : Option RxRow) (r : Reading) → (j.step == 13) ≡ false → IfSome
        (use_opened_in s j row r) (Contains t.seals)
    by_parts j None untagged not13 = tt
    by_parts j None (bad fault) not13 = tt
    by_parts j None (tagged p) not13 = tt
    by_parts j (Some row) untagged not13 = tt
    by_parts j (Some row) (bad fault) not13 = tt
    by_parts j (Some row) (tagged p) not13 = rw not13 tt

-- an event that is no delivery has no condition
pub others_ask_nothing : (t : Trace) (e : End) (frame : List ℕ) (n place octet : ℕ) →
    IsGenuineAt t (Send e frame) × (IsGenuineAt t (SendUncontrolled e frame) ×
    (IsGenuineAt t (Inject frame) × (IsGenuineAt t (Alter n place octet) × IsGenuineAt t (Pad n))))
others_ask_nothing t e frame n place octet = (tt, (tt, (tt, (tt, tt))))

-- ---- packet numbers

-- all premises of the law on packet numbers, and a use of the cipher at each end
pub record MeetIvPremises (a b : EndConfig) (events : List Event) : Type 0 where
  pub made : make_fault a b ≡ None
  pub scis : a.sci ≢ b.sci
  pub agree : AgreeOnKeys (world_after (new_world a b) events)
  pub differ : DifferInSsci (world_after (new_world a b) events)
  pub two_seals : length (trace_of a b events).seals ≡ 2

-- with 32-bit packet numbers, the same SSCI and different salts
pub one_ssci_of_32_bits : MeetIvPremises gcm_a gcm_b (both_send (new_key no_salt 0) (new_key (1 ∷ replicate 11 0) 0))
one_ssci_of_32_bits = record {
  made = refl;
  scis = scis_differ _ _ (λ same. omega (arith, same));
  agree = of_two (λ x y. x.bytes ≡ y.bytes → AgreeOnKey x y) _ _ (λ same. record { suite = refl; salt = λ xpn. cc });
  differ = of_two (λ (x y : InstalledKey). x.bytes ≡ y.bytes → is_xpn x.suite ≡ true → x.ssci ≢ y.ssci) _ _
      (λ same xpn. cc);
  two_seals = refl;
}

-- with extended packet numbers
pub two_sscis : MeetIvPremises xpn_a xpn_b (both_send (new_key no_salt 1) (new_key no_salt 2))
two_sscis = record {
  made = refl;
  scis = scis_differ _ _ (λ same. omega (arith, same));
  agree = of_two (λ x y. x.bytes ≡ y.bytes → AgreeOnKey x y) _ _ (λ same. record { suite = refl; salt = λ xpn. refl });
  differ = of_two (λ (x y : InstalledKey). x.bytes ≡ y.bytes → is_xpn x.suite ≡ true → x.ssci ≢ y.ssci) _ _
      (λ same xpn same_ssci. omega (arith, same_ssci));
  two_seals = refl;
}

-- ---- the mode Strict

abbrev strict_until_deleted : List Event
strict_until_deleted = receives_from B (new_key no_salt 2) sci_a 1 1 ++ Command B (RxDel sci_a 0) ∷ Command B
    (Validate Check) ∷ []

pub strict_while_there : WhileThere gcm_a gcm_b strict_until_deleted B 0 IsStrict
strict_while_there k within = at_moment (WhileLive IsStrict) (new_world gcm_a gcm_b) strict_until_deleted
    (tt, (tt, (tt, ((λ live. refl), ((λ live. refl), ((λ live. refl), (λ live. cc))))))) k within
