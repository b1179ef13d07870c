-- The law on packet numbers needs each premise: without it there is a run in which two uses of the cipher have the same
-- key bytes and the same IV.
use Rattle.macsec_link.specs.UniqueIvs.{HasOtherIv}
use Rattle.macsec_counterexamples.proofs.{
  Names.{[], ◌∷◌, ◌≡◌, ◌≢◌, AgreeOnKey, AgreeOnKeys, AllPairs, arith, CipherUse, Contains, DifferInSsci, EndConfig},
  Names.{Event, Gcm128, InstalledKey, is_xpn, List, new_world, refl, replicate, Sci, sum_with_stream, trace_of, true},
  Names.{world_after, WorldState, ℕ},
  Link.WorkedEnds.{Fails, both_send, config, gcm_a, new_key, no_salt, of_two, sci_a, sci_b, scis_differ, xpn_a, xpn_b},
}

abbrev no_use : CipherUse
no_use = record { key = []; iv = []; aad = []; ciphertext = []; tag = [] }

abbrev RepeatsNone : EndConfig → EndConfig → List Event → Type 0
RepeatsNone a b events = AllPairs HasOtherIv (trace_of a b events).seals

abbrev AgreeAtEnd : EndConfig → EndConfig → List Event → Type 0
AgreeAtEnd a b events = AgreeOnKeys (world_after (new_world a b) events)

abbrev DifferAtEnd : EndConfig → EndConfig → List Event → Type 0
DifferAtEnd a b events = DifferInSsci (world_after (new_world a b) events)

abbrev HaveOtherSscis : InstalledKey → InstalledKey → Type 0
HaveOtherSscis x y = x.bytes ≡ y.bytes → is_xpn x.suite ≡ true → x.ssci ≢ y.ssci

-- ---- the SCIs: 32-bit packet numbers, and the same SCI at both ends

-- the law without the premise that the SCIs differ
abbrev pub LawForOneSci : EndConfig → EndConfig → List Event → Type 0
LawForOneSci a b events = AgreeAtEnd a b events → DifferAtEnd a b events → RepeatsNone a b events

pub other_scis_needed : Fails LawForOneSci gcm_a gcm_a (both_send (new_key no_salt 1) (new_key no_salt 2))
other_scis_needed = (
  refl,
  λ law. law
      (of_two (λ x y. x.bytes ≡ y.bytes → AgreeOnKey x y) _ _ (λ same. record { suite = refl; salt = λ xpn. cc }))
      (of_two _ _ _ (λ same xpn. cc)) 0 1 no_use (omega arith) (omega arith) refl refl,
)

-- ---- the suite: A has 32-bit packet numbers and B extended ones; with the salt, the same at both ends, B's IV equals
-- A's

-- keys with the same bytes at both ends have the same salt and different own SSCIs, whatever their suites
abbrev pub AgreeButInSuite : InstalledKey → InstalledKey → Type 0
AgreeButInSuite x y = x.bytes ≡ y.bytes → (x.salt ≡ y.salt) × (x.ssci ≢ y.ssci)

abbrev pub AgreeButInSuites : WorldState → Type 0
AgreeButInSuites w = (x y : InstalledKey) → Contains w.a.state.keys x → Contains w.b.state.keys y → AgreeButInSuite x y

-- the law without the premise that the suites are the same; the other premises hold of keys of all suites
abbrev pub LawForOtherSuites : EndConfig → EndConfig → List Event → Type 0
LawForOtherSuites a b events = a.sci ≢ b.sci → AgreeButInSuites (world_after (new_world a b) events) → RepeatsNone a b
    events

abbrev sci_read : Sci
sci_read = record { 0 = 0x12 ∷ 0x15 ∷ 0x35 ∷ 0x24 ∷ 0xc0 ∷ 0x89 ∷ 0x5e ∷ 0x81 ∷ [] }

abbrev salt_read : List ℕ
salt_read = 0x12 ∷ 0x15 ∷ 0x35 ∷ 0x26 ∷ 0xc0 ∷ 0x89 ∷ 0x5e ∷ 0x81 ∷ 0 ∷ 0 ∷ 0 ∷ 0 ∷ []

pub same_suite_needed : Fails LawForOtherSuites (config Gcm128 sci_read) xpn_b
    (both_send (new_key salt_read 1) (new_key salt_read 2))
unfolding sum_with_stream
same_suite_needed = (
  refl,
  λ law. law (scis_differ _ _ (λ same. omega (arith, same)))
      (of_two _ _ _ (λ same. (refl, λ same_ssci. omega (arith, same_ssci))))
      0 1 no_use (omega arith) (omega arith) refl refl,
)

-- ---- the salt: extended packet numbers, and salts with which two SSCIs have the same IV

-- keys with the same bytes at both ends have the same suite
abbrev pub AgreeOnSuite : InstalledKey → InstalledKey → Type 0
AgreeOnSuite x y = x.bytes ≡ y.bytes → x.suite ≡ y.suite

abbrev pub AgreeOnSuites : WorldState → Type 0
AgreeOnSuites w = (x y : InstalledKey) → Contains w.a.state.keys x → Contains w.b.state.keys y → AgreeOnSuite x y

-- the law without the premise that the salts are the same
abbrev pub LawForOtherSalts : EndConfig → EndConfig → List Event → Type 0
LawForOtherSalts a b events =
    a.sci ≢ b.sci → AgreeOnSuites (world_after (new_world a b) events) → DifferAtEnd a b events → RepeatsNone a b events

pub same_salt_needed : Fails LawForOtherSalts xpn_a xpn_b (both_send (new_key no_salt 1)
    (new_key (0 ∷ 0 ∷ 0 ∷ 3 ∷ replicate 8 0) 2))
unfolding sum_with_stream
same_salt_needed = (
  refl,
  λ law. law (scis_differ _ _ (λ same. omega (arith, same))) (of_two _ _ _ (λ same. refl))
      (of_two _ _ _ (λ same xpn same_ssci. omega (arith, same_ssci))) 0 1 no_use (omega arith) (omega arith) refl refl,
)

-- ---- the SSCIs: extended packet numbers, and the same SSCI and salt at both ends

-- the law without the premise that the own SSCIs differ
abbrev pub LawForOneSsci : EndConfig → EndConfig → List Event → Type 0
LawForOneSsci a b events = a.sci ≢ b.sci → AgreeAtEnd a b events → RepeatsNone a b events

pub other_sscis_needed : Fails LawForOneSsci xpn_a xpn_b (both_send (new_key no_salt 1) (new_key no_salt 1))
unfolding sum_with_stream
other_sscis_needed = (
  refl,
  λ law. law (scis_differ _ _ (λ same. omega (arith, same)))
      (of_two (λ x y. x.bytes ≡ y.bytes → AgreeOnKey x y) _ _ (λ same. record { suite = refl; salt = λ xpn. refl }))
      0 1 no_use (omega arith) (omega arith) refl refl,
)
