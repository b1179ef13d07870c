-- The first promise needs each premise: without it there are runs that meet the others and seal two frames with the
-- same key octets and the same IV.
use Rattle.std.proofs.lemmas.List.Kept.{AllPairs-cons}
use Rattle.macsec_counterexamples.proofs.{
  Names.{[], ◌+◌, ◌<◌, ◌∙◌, ◌∷◌, ◌≡◌, ◌≢◌, All, All-cons, All-nil, AllPairs, arith, Bool, CipherUse, closing, compress},
  Names.{Contains, digest_bytes, false, first_words, hash_after, HasOtherIv, highest, highest_of_one, InstalledKey},
  Names.{is_xpn, IsHistory, IsReservation, Keeping, KeepsDurable, length, length-sha256, List, one_alone, opening},
  Names.{reduced, reduced_reserves, refl, Reservation, reservations, rounds, Run, same_octets, same_octets-refl},
  Names.{SameSalt, schedule, sealed_in_all, sending_name, sha256, StaysSound, subst, sum_with_stream, sym, true, ℕ},
  Link.WorkedEnds.{bytes, of_two},
  Restarts.{
    Goes.Goes,
    Journals.{journal, salt, salt_is, says},
    Senders.{Extended, OtherSalt, ReadSalt, Sender, Short, at_end, config_of, goes, inputs, kept, key_at, key_salt},
    Senders.{number_of, reserves, suite_of, use_of},
  },
}

-- the names of the premises
pub data Premise : Type 0 where
  IsSoundAtEachMoment : Premise
  SameSuite : Premise
  SameKeySalt : Premise
  SameJournalSalt : Premise
  IsDurable : Premise

abbrev pub AgreeOnSuites : Run → Run → Type 0
AgreeOnSuites run later =
    (x y : InstalledKey) → Contains (closing run).secy.keys x → Contains (closing later).secy.keys y →
    x.bytes ≡ y.bytes → x.suite ≡ y.suite

abbrev pub AgreeOnSalts : Run → Run → Type 0
AgreeOnSalts run later =
    (x y : InstalledKey) → Contains (closing run).secy.keys x → Contains (closing later).secy.keys y →
    x.bytes ≡ y.bytes → is_xpn x.suite ≡ true → x.salt ≡ y.salt

abbrev pub Holds : List Run → Premise → Type 0
Holds runs IsSoundAtEachMoment = All (λ run. StaysSound (opening run) run.inputs) runs
Holds runs SameSuite = AllPairs AgreeOnSuites runs
Holds runs SameKeySalt = AllPairs AgreeOnSalts runs
Holds runs SameJournalSalt = AllPairs SameSalt runs
Holds runs IsDurable = AllPairs KeepsDurable runs

-- together they are the premises of the promise
pub premises_suffice : (runs : List Run) → ((p : Premise) → Holds runs p) → IsHistory runs
premises_suffice runs holds = record {
  sound = holds IsSoundAtEachMoment;
  agree = λ i j d less within x y there there' same. record {
    suite = holds SameSuite i j d less within x y there there' same;
    salt = holds SameKeySalt i j d less within x y there there' same;
  };
  salt = holds SameJournalSalt;
  durable = holds IsDurable;
}

-- the promise without one of them
abbrev pub LawWithout : Premise → List Run → Type 0
LawWithout left_out runs = ((p : Premise) → p ≢ left_out → Holds runs p) → AllPairs HasOtherIv (sealed_in_all runs)

-- ---- two runs

abbrev pub run_of : Sender → Bool → List Reservation → Run
run_of w other rs = record { journal = journal other rs; config = config_of w; inputs = inputs w (salt other) }

-- its journal has not reserved the packet number
abbrev IsFree : Sender → Bool → List Reservation → Type 0
IsFree w other rs = highest rs (sending_name (salt other) bytes) < number_of w

pub run_goes : (w : Sender) (other : Bool) (rs : List Reservation) → All IsReservation rs → IsFree w other rs →
    Goes (opening (run_of w other rs)) (run_of w other rs).inputs (use_of w ∷ [])
    (kept (salt other) (reduced (reservations (journal other rs))) (reserves w (salt other) ∷ []) (at_end w))
run_goes w other rs are free =
    let before : List Reservation = reduced (reservations (journal other rs)) in
    let above : highest before (sending_name (salt other) bytes) < number_of w =
    let name = sending_name (salt other) bytes in
    omega (arith, reduced_reserves (reservations (journal other rs)) name, says other rs are name, free) in
    rw (salt_is _ _) (goes (salt other) before w above)

pair : {X : Type 0} (R : X → X → Type 0) (x y : X) → R x y → AllPairs R (x ∷ y ∷ [])
pair R x y holds = AllPairs-cons R x (y ∷ []) (All-cons (R x) y [] holds (All-nil (R x))) (one_alone R y)

refuted : (p q : Run) (u v : CipherUse) (k l : Keeping) → Goes (opening p) p.inputs (u ∷ []) k →
    Goes (opening q) q.inputs (v ∷ []) l → u.key ≡ v.key → u.iv ≡ v.iv →
    AllPairs HasOtherIv (sealed_in_all (p ∷ q ∷ [])) → ⊥
refuted p q u v k l first second same_key same_iv pairs =
    let is : sealed_in_all (p ∷ q ∷ []) ≡ u ∷ v ∷ [] = rw (first.seals, second.seals) in
    subst (AllPairs HasOtherIv) is pairs 0 1 u (omega arith) (omega arith) same_key same_iv

both_sound : (p q : Run) → StaysSound (opening p) p.inputs → StaysSound (opening q) q.inputs →
    All (λ run. StaysSound (opening run) run.inputs) (p ∷ q ∷ [])
both_sound p q first second = All-cons (λ run. StaysSound (opening run) run.inputs) p (q ∷ []) first
    (All-cons (λ run. StaysSound (opening run) run.inputs) q [] second
    (All-nil (λ run. StaysSound (opening run) run.inputs)))

-- what holds of the two keys holds of any two
pub of_keys : (R : InstalledKey → InstalledKey → Type 0) (p q : Run) (w v : Sender) →
    (closing p).secy.keys ≡ key_at w (number_of w + 1) ∷ [] → (closing q).secy.keys ≡ key_at v (number_of v + 1) ∷ [] →
    R (key_at w (number_of w + 1)) (key_at v (number_of v + 1)) →
    (x y : InstalledKey) → Contains (closing p).secy.keys x → Contains (closing q).secy.keys y → R x y
of_keys R p q w v is is' holds x y there there' = of_two R _ _ holds _ _ (rw is at there) (rw is' at there')

reserves_is : (w : Sender) (s : List ℕ) → All IsReservation (reserves w s ∷ [])
reserves_is w s = All-cons IsReservation (reserves w s) [] (by_number _) (All-nil IsReservation)
  where
    name : length (sending_name s bytes) ≡ 32
    name = length-sha256 _

    by_number : (v : Sender) → IsReservation (record { name = sending_name s bytes; last = number_of v })
    by_number Short = record { name = name; last = omega arith }
    by_number it = record { name = name; last = omega arith }

-- ---- an earlier run, whose journal is empty, and a later one

pub nothing : All IsReservation []
nothing = All-nil IsReservation

-- the later run reads what the earlier one reserved
abbrev after : Sender → List Reservation
after w = reserves w (salt false) ∷ []

is_read : (w v : Sender) (other : Bool) → KeepsDurable (run_of w false []) (run_of v other (after w))
is_read w v other name = omega (arith, says other (after w) (reserves_is w (salt false)) name)

-- the premises, but one, of these two runs
holds_but : (left_out : Premise) (w v : Sender) (other : Bool) (rs : List Reservation) (k l : Keeping)
    (us vs : List CipherUse) → Goes (opening (run_of w false [])) (run_of w false []).inputs us k →
    Goes (opening (run_of v other rs)) (run_of v other rs).inputs vs l →
    k.secy.keys ≡ key_at w (number_of w + 1) ∷ [] → l.secy.keys ≡ key_at v (number_of v + 1) ∷ [] →
    (SameSuite ≢ left_out → suite_of w ≡ suite_of v) →
    (SameKeySalt ≢ left_out → is_xpn (suite_of w) ≡ true → key_salt w ≡ key_salt v) →
    (SameJournalSalt ≢ left_out → salt other ≡ salt false) →
    (IsDurable ≢ left_out → KeepsDurable (run_of w false []) (run_of v other rs)) →
    (p : Premise) → p ≢ left_out → Holds (run_of w false [] ∷ run_of v other rs ∷ []) p
holds_but left_out w v other rs k l us vs first second keys keys' suite key_salts journal_salt durable
    IsSoundAtEachMoment differ = both_sound (run_of w false []) (run_of v other rs) first.sound second.sound
holds_but left_out w v other rs k l us vs first second keys keys' suite key_salts journal_salt durable SameSuite
    differ = pair AgreeOnSuites (run_of w false []) (run_of v other rs)
    (of_keys (λ x y. x.bytes ≡ y.bytes → x.suite ≡ y.suite) (run_of w false []) (run_of v other rs) w v
    (rw (first.ends, keys)) (rw (second.ends, keys')) (λ same. suite differ))
holds_but left_out w v other rs k l us vs first second keys keys' suite key_salts journal_salt durable SameKeySalt
    differ = pair AgreeOnSalts (run_of w false []) (run_of v other rs)
    (of_keys (λ x y. x.bytes ≡ y.bytes → is_xpn x.suite ≡ true → x.salt ≡ y.salt) (run_of w false [])
    (run_of v other rs) w v (rw (first.ends, keys)) (rw (second.ends, keys')) (λ same. key_salts differ))
holds_but left_out w v other rs k l us vs first second keys keys' suite key_salts journal_salt durable SameJournalSalt
    differ = pair SameSalt (run_of w false []) (run_of v other rs)
    (salt_is other rs ∙ journal_salt differ ∙ sym (salt_is false []))
holds_but left_out w v other rs k l us vs first second keys keys' suite key_salts journal_salt durable IsDurable
    differ = pair KeepsDurable (run_of w false []) (run_of v other rs) (durable differ)

-- ---- the premises

pub short_goes : Goes (opening (run_of Short false [])) (run_of Short false []).inputs (use_of Short ∷ [])
    (kept (salt false) (reduced (reservations (journal false []))) (reserves Short (salt false) ∷ []) (at_end Short))
short_goes = run_goes Short false [] nothing (omega arith)

pub extended_goes : Goes (opening (run_of Extended false [])) (run_of Extended false []).inputs (use_of Extended ∷ [])
    (kept (salt false) (reduced (reservations (journal false []))) (reserves Extended (salt false) ∷ [])
    (at_end Extended))
extended_goes = run_goes Extended false [] nothing (omega arith)

-- both runs begin with an empty journal
pub durability_needed : LawWithout IsDurable (run_of Short false [] ∷ run_of Short false [] ∷ []) → ⊥
durability_needed law = refuted (run_of Short false []) (run_of Short false []) (use_of Short)
    (use_of Short) _ _ short_goes short_goes refl refl
    (law (holds_but IsDurable Short Short false [] _ _ _ _ short_goes short_goes refl refl (λ d. refl) (λ d xpn. refl)
    (λ d. refl) (λ d. absurd (d refl))))

-- the record of a name reserves its number
own_number : (w : Sender) → highest (after w) (sending_name (salt false) bytes) ≡ number_of w
own_number w = highest_of_one (reserves w (salt false)) (sending_name (salt false) bytes) _
    (same_octets-refl (sending_name (salt false) bytes))

read_goes : Goes (opening (run_of ReadSalt false (after Short))) (run_of ReadSalt false (after Short)).inputs
    (use_of ReadSalt ∷ [])
    (kept (salt false) (reduced (reservations (journal false (after Short)))) (reserves ReadSalt (salt false) ∷ [])
    (at_end ReadSalt))
read_goes = run_goes ReadSalt false (after Short) (reserves_is Short (salt false)) (omega (arith, own_number Short))

-- the later run has extended packet numbers, and its second IV is the first IV of the earlier run
pub suite_needed : LawWithout SameSuite (run_of Short false [] ∷ run_of ReadSalt false (after Short) ∷ []) → ⊥
unfolding sum_with_stream
suite_needed law = refuted (run_of Short false []) (run_of ReadSalt false (after Short)) (use_of Short)
    (use_of ReadSalt) _ _ short_goes read_goes refl refl
    (law (holds_but SameSuite Short ReadSalt false (after Short) _ _ _ _ short_goes read_goes refl refl
    (λ d. absurd (d refl)) (λ d xpn. cc) (λ d. refl) (λ d. is_read Short ReadSalt false)))

other_goes : Goes (opening (run_of OtherSalt false (after Extended))) (run_of OtherSalt false (after Extended)).inputs
    (use_of OtherSalt ∷ [])
    (kept (salt false) (reduced (reservations (journal false (after Extended)))) (reserves OtherSalt (salt false) ∷ [])
    (at_end OtherSalt))
other_goes = run_goes OtherSalt false (after Extended) (reserves_is Extended (salt false))
    (omega (arith, own_number Extended))

-- the later run has another salt for the key, under which its second IV is the first IV of the earlier run
pub key_salt_needed : LawWithout SameKeySalt (run_of Extended false [] ∷ run_of OtherSalt false (after Extended) ∷ []) →
    ⊥
unfolding sum_with_stream
key_salt_needed law = refuted (run_of Extended false []) (run_of OtherSalt false (after Extended)) _
    _ _ _ extended_goes other_goes refl refl
    (law (holds_but _ Extended OtherSalt false (after Extended) _ _ _ _ extended_goes other_goes refl refl
    (λ d. refl) (λ d. absurd (d refl)) (λ d. refl) (λ d. is_read Extended OtherSalt false)))

-- under another salt of the journal the key has another name
names_differ : same_octets (sending_name (salt false) bytes) (sending_name (salt true) bytes) ≡ false
unfolding first_words schedule rounds compress hash_after digest_bytes sha256
names_differ = refl

renamed_goes : Goes (opening (run_of Short true (after Short))) (run_of Short true (after Short)).inputs
    (use_of Short ∷ [])
    (kept (salt true) (reduced (reservations (journal true (after Short)))) (reserves Short (salt true) ∷ [])
    (at_end Short))
renamed_goes = run_goes Short true (after Short) (reserves_is Short (salt false))
    (omega (arith, highest_of_one (reserves Short (salt false)) (sending_name (salt true) bytes) false names_differ))

-- the later run reads all records, but another salt
pub journal_salt_needed : LawWithout SameJournalSalt (run_of Short false [] ∷ run_of Short true (after Short) ∷ []) → ⊥
journal_salt_needed law = refuted (run_of Short false []) (run_of Short true (after Short)) _
    _ _ _ short_goes renamed_goes refl refl
    (law (holds_but _ Short Short true (after Short) _ _ _ _ short_goes renamed_goes refl refl (λ d. refl)
    (λ d xpn. refl) (λ d. absurd (d refl)) (λ d. is_read Short Short true)))
