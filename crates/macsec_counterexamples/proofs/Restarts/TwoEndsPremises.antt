-- The first promise at two ends needs each premise on the ends: without it there are two runs, one of each end, that
-- meet the others and seal two frames with the same key octets and the same IV.
use Rattle.macsec_reserve.specs.{Histories.AgreeOnKeys, TwoEnds.AreOfTwoEnds}
use Rattle.macsec_counterexamples.proofs.{
  Names.{[], ◌++◌, ◌+◌, ◌∷◌, ◌≡◌, ◌≢◌, All-cons, All-nil, AllPairs, arith, closing, Contains, false, HasOtherIv},
  Names.{InstalledKey, is_xpn, IsHistory, Keeping, KeepsDurable, one_alone, opening, reduced, refl, reservations, Run},
  Names.{SameSalt, sealed_in_all, StaysSound, subst, sum_with_stream, true},
  Link.WorkedEnds.{sci_a, sci_b, scis_differ},
  Restarts.{
    Goes.Goes,
    IvPremises.{extended_goes, nothing, of_keys, run_goes, run_of, short_goes},
    Journals.{journal, salt},
    Senders.{AtB, AtBReads, AtBSalted, Extended, Sender, Short, at_end, config_of, kept, key_at, number_of, reserves},
    Senders.use_of,
  },
}

-- the names of the premises
pub data Premise : Type 0 where
  OtherScis : Premise
  SameSuite : Premise
  SameKeySalt : Premise
  OtherSscis : Premise

-- of two keys
abbrev pub Agree : InstalledKey → InstalledKey → Premise → Type 0
Agree x y OtherScis = Unit {0}
Agree x y SameSuite = x.suite ≡ y.suite
Agree x y SameKeySalt = is_xpn x.suite ≡ true → x.salt ≡ y.salt
Agree x y OtherSscis = is_xpn x.suite ≡ true → x.ssci ≢ y.ssci

-- the premises on a run of each end, without one of them
pub record AreOfTwoEndsBut (left_out : Premise) (run other : Run) : Type 0 where
  pub sci : OtherScis ≢ left_out → run.config.sci ≢ other.config.sci
  pub keys : (p : Premise) → p ≢ left_out → (x y : InstalledKey) → Contains (closing run).secy.keys x →
      Contains (closing other).secy.keys y → x.bytes ≡ y.bytes → Agree x y p

-- with the one that was left out they are the premises of the promise
pub premises_suffice : (left_out : Premise) (run other : Run) → AreOfTwoEndsBut left_out run other →
    run.config.sci ≢ other.config.sci →
    ((p : Premise) (x y : InstalledKey) → Contains (closing run).secy.keys x → Contains (closing other).secy.keys y →
    x.bytes ≡ y.bytes → Agree x y p) → AreOfTwoEnds run other
premises_suffice left_out run other but sci keys = record {
  sci = sci;
  keys = λ x y there there' same. record {
    agree = record { suite = keys SameSuite x y there there' same; salt = keys SameKeySalt x y there there' same };
    ssci = keys OtherSscis x y there there' same;
  };
}

abbrev pub LawWithout : Premise → Run → Run → Type 0
LawWithout left_out run other = IsHistory (run ∷ []) → IsHistory (other ∷ []) → AreOfTwoEndsBut left_out run other →
    AllPairs HasOtherIv (sealed_in_all (run ∷ []) ++ sealed_in_all (other ∷ []))

-- ---- two runs, with empty journals

abbrev run_with : Sender → Run
run_with w = run_of w false []

one_run : (run : Run) → StaysSound (opening run) run.inputs → IsHistory (run ∷ [])
one_run run sound = record {
  sound = All-cons (λ p. StaysSound (opening p) p.inputs) run [] sound (All-nil (λ p. StaysSound (opening p) p.inputs));
  agree = one_alone AgreeOnKeys run;
  salt = one_alone SameSalt run;
  durable = one_alone KeepsDurable run;
}

refuted : (left_out : Premise) (w v : Sender) (k l : Keeping) →
    Goes (opening (run_with w)) (run_with w).inputs (use_of w ∷ []) k →
    Goes (opening (run_with v)) (run_with v).inputs (use_of v ∷ []) l → k.secy.keys ≡ key_at w (number_of w + 1) ∷ [] →
    l.secy.keys ≡ key_at v (number_of v + 1) ∷ [] → (OtherScis ≢ left_out → (config_of w).sci ≢ (config_of v).sci) →
    ((p : Premise) → p ≢ left_out → Agree (key_at w (number_of w + 1)) (key_at v (number_of v + 1)) p) →
    (use_of w).key ≡ (use_of v).key → (use_of w).iv ≡ (use_of v).iv → LawWithout left_out (run_with w) (run_with v) → ⊥
refuted left_out w v k l first second keys keys' sci agree same_key same_iv law =
    let is : sealed_in_all (run_with w ∷ []) ++ sealed_in_all (run_with v ∷ []) ≡ use_of w ∷ use_of v ∷ [] =
    rw (first.seals, second.seals) in
    let pairs = law (one_run (run_with w) first.sound) (one_run (run_with v) second.sound) (record {
      sci = sci;
      keys = λ p differ. of_keys (λ x y. x.bytes ≡ y.bytes → Agree x y p) (run_with w) (run_with v) w v
          (rw (first.ends, keys)) (rw (second.ends, keys')) (λ same. agree p differ);
    }) in
    subst (AllPairs HasOtherIv) is pairs 0 1 (use_of w) (omega arith) (omega arith) same_key same_iv

b_goes : Goes (opening (run_with AtB)) (run_with AtB).inputs (use_of AtB ∷ [])
    (kept (salt false) (reduced (reservations (journal false []))) (reserves AtB (salt false) ∷ []) (at_end AtB))
b_goes = run_goes AtB false [] nothing (omega arith)

reads_goes : Goes (opening (run_with AtBReads)) (run_with AtBReads).inputs (use_of AtBReads ∷ [])
    (kept (salt false) (reduced (reservations (journal false []))) (reserves AtBReads (salt false) ∷ [])
    (at_end AtBReads))
reads_goes = run_goes AtBReads false [] nothing (omega arith)

salted_goes : Goes (opening (run_with AtBSalted)) (run_with AtBSalted).inputs (use_of AtBSalted ∷ [])
    (kept (salt false) (reduced (reservations (journal false []))) (reserves AtBSalted (salt false) ∷ [])
    (at_end AtBSalted))
salted_goes = run_goes AtBSalted false [] nothing (omega arith)

differ_in_sci : sci_a ≢ sci_b
differ_in_sci = scis_differ _ _ (λ same. omega (arith, same))

-- ---- the premises

agree_short : (p : Premise) → p ≢ OtherScis → Agree (key_at Short 2) (key_at Short 2) p
agree_short OtherScis differ = tt
agree_short SameSuite differ = refl
agree_short SameKeySalt differ = λ xpn. cc
agree_short OtherSscis differ = λ xpn. cc

pub other_scis_needed : LawWithout OtherScis (run_with Short) (run_with Short) → ⊥
other_scis_needed = refuted OtherScis Short Short _ _ short_goes short_goes refl refl
    (λ d. absurd (d refl)) agree_short refl refl

agree_b : (p : Premise) → p ≢ OtherSscis → Agree (key_at Extended 2) (key_at AtB 2) p
agree_b OtherScis differ = tt
agree_b SameSuite differ = refl
agree_b SameKeySalt differ = λ xpn. refl
agree_b OtherSscis differ = absurd (differ refl)

pub other_sscis_needed : LawWithout OtherSscis (run_with Extended) (run_with AtB) → ⊥
unfolding sum_with_stream
other_sscis_needed = refuted _ Extended AtB _ _ extended_goes b_goes refl refl (λ d. differ_in_sci) agree_b refl refl

agree_reads : (p : Premise) → p ≢ SameSuite → Agree (key_at Short 2) (key_at AtBReads 2) p
agree_reads OtherScis differ = tt
agree_reads SameSuite differ = absurd (differ refl)
agree_reads SameKeySalt differ = λ xpn. cc
agree_reads OtherSscis differ = λ xpn. cc

pub same_suite_needed : LawWithout SameSuite (run_with Short) (run_with AtBReads) → ⊥
unfolding sum_with_stream
same_suite_needed = refuted _ Short AtBReads _ _ short_goes reads_goes refl refl
    (λ d. differ_in_sci) agree_reads refl refl

agree_salted : (p : Premise) → p ≢ SameKeySalt → Agree (key_at Extended 2) (key_at AtBSalted 2) p
agree_salted OtherScis differ = tt
agree_salted SameSuite differ = refl
agree_salted SameKeySalt differ = absurd (differ refl)
agree_salted OtherSscis differ = λ xpn same. omega (arith, same)

pub same_salt_needed : LawWithout SameKeySalt (run_with Extended) (run_with AtBSalted) → ⊥
unfolding sum_with_stream
same_salt_needed = refuted _ Extended AtBSalted _ _ extended_goes salted_goes refl refl
    (λ d. differ_in_sci) agree_salted refl refl
