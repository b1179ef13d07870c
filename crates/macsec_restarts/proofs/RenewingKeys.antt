-- The octets of a key, of an endpoint that renews keys: a key keeps them until it is given up, and then no SA uses a
-- key of these octets any more.
use Rattle.macsec_aes.specs.{Keys.key_bytes, declared.Key.{Key as KeyOctets, TheVariants.{K128, K256}}}
use Rattle.macsec_reserve.specs.{
  Forgetting.{as_taken, can_forget, fingerprint, fingerprint_of, is_forgotten, key_of_fingerprint},
  Forgotten.{is_known, StaysKnown},
  Renewing.{forgetting_after_renewing, forgetting_refusal, GivesUpOctets, is_given_up, keeping_renewed, refusal_if},
  Renewing.{StaysGivenUp, StaysGivenUpBy, unless_refused as unless_not_taken},
}
use Rattle.macsec_restarts.proofs.{
  AheadEnds.retires,
  ForgettingEnds.given_up_forgetting,
  Names.{[], ◌&&◌, ◌++◌, ◌==◌, ◌||◌, ◌∙◌, ◌∷◌, ◌≡◌, ◌⊎◌, and_parts, Answer, ap, Bool, bytes_eq-Decides, client_frame},
  Names.{Command, contained, effect, endpoint_input, EndpointLaws, eqb-true, false, forgetting, forgetting_step},
  Names.{frame_fault, FrameFault, holds_of, if◌then◌else◌, inl, Input, inr, InstalledKey, is_done, is_some, IsGivenUp},
  Names.{IsMember, IsSome, IsSound, judgement_of, Keeping, keeping_step, KeepingInput, Key, leaves, link_frame, List},
  Names.{member, None, not, now_durable, operator_command, Option, option_map, Output, received_output, refl, Refusal},
  Names.{refusal, Retire, same_octets, same_octets-refl, sending_of, sent_output, Some, State, state_after_receiving},
  Names.{state_after_sending, step, subst, sym, the_key, true, TxRow, uncontrolled_frame, unless_fault},
  Names.{unless_refused, unwrap_or, ℕ},
  Sends.by_keeping,
}
use Rattle.macsec_secy.proofs.{
  GivenUp.stays_replaced,
  KeyRenewed.{keeps_other_keys, takes_new_octets, takes_no_key_in_use},
  KeysKept.{field_kept, same_number},
  OtherOctets.{other_row, row-map},
}
use Rattle.macsec_secy.specs.{
  Commands.uses,
  Kept.{IsKeyOf, KeysAreApart},
  Renewing.{renewal_refusal, renewing, unless_not_renewed},
}
use Rattle.macsec_suite.specs.{
  KeyRows.{at_number, key_row, keys_with, new_row, no_key, retired_row, row_noting, suite_of, with_bytes, with_key},
  Refusals.{has_retired, is_number_used, is_repeated, is_retired_with},
  Renewing.{keys_renewing, renewed_row},
  declared.{key_row.NewKey.NewKey, suite.Suite.Suite},
}
use Rattle.macsec_tx.specs.Transmit.{keys_after}
use Rattle.std.{proofs.lemmas.Bool.{eqb-false, or_cases, or_right}, specs.List.list_any}

-- ---- inputs that bring no key

abbrev pub is_key : Command → Bool
is_key (Key key) = true
is_key c = false

abbrev pub brings_key : KeepingInput → Bool
brings_key (endpoint_input (operator_command c)) = is_key c
brings_key input = false

-- ---- the row of a number before and after a step has the same octets

abbrev SameOctets : Option InstalledKey → Option InstalledKey → Type 0
SameOctets None None = Unit {0}
SameOctets (Some x) (Some y) = y.bytes ≡ x.bytes
SameOctets x y = ⊥

abbrev KeepOctets : List InstalledKey → List InstalledKey → Type 0
KeepOctets keys after = (n : ℕ) → SameOctets (key_row keys n) (key_row after n)

itself : (o : Option InstalledKey) → SameOctets o o
itself None = tt
itself (Some x) = refl

changed : (change : InstalledKey → InstalledKey) → ((x : InstalledKey) → (change x).number ≡ x.number) →
    ((x : InstalledKey) → (change x).bytes ≡ x.bytes) → (keys : List InstalledKey) (m : ℕ) →
    KeepOctets keys (with_key change m keys)
changed change number bytes keys m n =
    subst (SameOctets (key_row keys n)) (sym (row-map (at_number change m) (same_number change number m) keys n))
    (by_row (key_row keys n))
  where
    by_row : (o : Option InstalledKey) → SameOctets o (option_map (at_number change m) o)
    by_row None = tt
    by_row (Some x) = field_kept (λ (r : InstalledKey). r.bytes) change bytes (x.number == m) x

effect_keeps : (s : State) (c : Command) → is_key c ≡ false → KeepOctets s.keys (effect s c).keys
effect_keeps s (Key key) none n = cc
effect_keeps s (Retire m) none n = changed retired_row (λ x. refl) (λ x. refl) s.keys m n
effect_keeps s c none n = itself (key_row s.keys n)

command_keeps : (s : State) (c : Command) (r : Option Refusal) → is_key c ≡ false →
    KeepOctets s.keys (unless_refused r s c).keys
command_keeps s c None none n = effect_keeps s c none n
command_keeps s c (Some r) none n = itself (key_row s.keys n)

sent_keeps : (keys : List InstalledKey) (by : Option TxRow) → KeepOctets keys (keys_after keys by)
sent_keeps keys None n = itself (key_row keys n)
sent_keeps keys (Some row) n = changed (row_noting row.next) (λ x. refl) (λ x. refl) keys row.key n

frame_keeps : (s after : State) (output : Output) (f : Option FrameFault) → KeepOctets s.keys after.keys →
    KeepOctets s.keys (unless_fault f s (output, after)).1.keys
frame_keeps s after output None keep n = keep n
frame_keeps s after output (Some f) keep n = itself (key_row s.keys n)

step_keeps : (s : State) (input : Input) → brings_key (endpoint_input input) ≡ false →
    KeepOctets s.keys (step s input).1.keys
step_keeps s (operator_command c) none = command_keeps s c (refusal s c) none
step_keeps s (client_frame frame) none = frame_keeps s (state_after_sending s frame (sending_of s frame))
    (sent_output frame (sending_of s frame).leaving) (frame_fault frame) (sent_keeps s.keys (sending_of s frame).by)
step_keeps s (uncontrolled_frame frame) none =
    frame_keeps s s (leaves frame None) (frame_fault frame) (λ n. itself (key_row s.keys n))
step_keeps s (link_frame frame) none = frame_keeps s (state_after_receiving s frame (judgement_of s frame))
    (received_output frame (judgement_of s frame)) (frame_fault frame) (λ n. itself (key_row s.keys n))

keeping_keeps : (k : Keeping) (input : KeepingInput) → brings_key input ≡ false →
    KeepOctets k.secy.keys (keeping_step k input).1.secy.keys
keeping_keeps k (now_durable r) none n = itself (key_row k.secy.keys n)
keeping_keeps k (endpoint_input input) none n = by_keeping (λ s. KeepOctets k.secy.keys s.keys) k input
    (λ m. itself (key_row k.secy.keys m)) (step_keeps k.secy input none) n

-- the same octets; or the key is given up
abbrev pub SameOrUp : State → ℕ → Option InstalledKey → Option InstalledKey → Type 0
SameOrUp after n None None = Unit {0}
SameOrUp after n (Some x) (Some y) = (y.bytes ≡ x.bytes) ⊎ IsGivenUp after n
SameOrUp after n x y = ⊥

same_or_up : (after : State) (n : ℕ) (o o' : Option InstalledKey) → SameOctets o o' → SameOrUp after n o o'
same_or_up after n (Some x) (Some y) same = inl same
same_or_up after n o o' same = same

up_now : (after : State) (n : ℕ) (change : InstalledKey → InstalledKey) → IsGivenUp after n →
    (o o' : Option InstalledKey) → SameOctets o o' → SameOrUp after n o (option_map change o')
up_now after n change up (Some x) (Some y) same = inr up
up_now after n change up None None same = tt
up_now after n change up o o' same = absurd same

pub forgetting_keeps : (k : Keeping) (input : KeepingInput) → brings_key input ≡ false → (n : ℕ) →
    SameOrUp (forgetting_step k input).1.secy n (key_row k.secy.keys n)
    (key_row (forgetting_step k input).1.secy.keys n)
forgetting_keeps k (endpoint_input (operator_command (Key key))) none n = cc
forgetting_keeps k (endpoint_input (operator_command (Retire m))) none n =
    by_both (is_done answer.0) (can_forget answer.1 m) refl
  where
    answer : Answer
    answer = keeping_step k (endpoint_input (operator_command (Retire m)))

    row : Option InstalledKey
    row = key_row k.secy.keys n

    still : SameOctets row (key_row answer.1.secy.keys n)
    still = keeping_keeps k (endpoint_input (operator_command (Retire m))) refl n

    print : List ℕ
    print = fingerprint_of answer.1 m

    by_number : (t : State) → IsGivenUp t m → (b : Bool) → (n == m) ≡ b →
        SameOrUp t n row (key_row (forgetting answer.1 m).secy.keys n)
    by_number t up true at =
        subst (SameOrUp t n row)
        (sym (row-map (at_number (with_bytes print) m) (same_number (with_bytes print) (λ x. refl) m)
        answer.1.secy.keys n))
        (up_now t n (at_number (with_bytes print) m) (subst (IsGivenUp t) (sym (eqb-true n m at)) up) row
        (key_row answer.1.secy.keys n) still)
    by_number t up false at =
        subst (SameOrUp t n row) (sym (other_row (with_bytes print) (λ x. refl) answer.1.secy.keys m n at))
        (same_or_up t n row (key_row answer.1.secy.keys n) still)

    by_both : (b c : Bool) → is_done answer.0 ≡ b →
        SameOrUp (if b && c then forgetting answer.1 m else answer.1).secy n row
        (key_row (if b && c then forgetting answer.1 m else answer.1).secy.keys n)
    by_both true true done' = by_number (forgetting answer.1 m).secy
        (stays_replaced answer.1.secy m m print (retires k m done')) (n == m) refl
    by_both true false done' = same_or_up answer.1.secy n row (key_row answer.1.secy.keys n) still
    by_both false c done' = same_or_up answer.1.secy n row (key_row answer.1.secy.keys n) still
forgetting_keeps k input none n =
    same_or_up (forgetting_step k input).1.secy n (key_row k.secy.keys n)
    (key_row (forgetting_step k input).1.secy.keys n) (keeping_keeps k input none n)

-- ---- rows and tables

pub row_is : (keys : List InstalledKey) → KeysAreApart keys → (n : ℕ) (x : InstalledKey) → key_row keys n ≡ Some x →
    IsKeyOf keys n x
row_is keys apart n x found =
    subst (λ (o : Option InstalledKey). IsSome o → IsKeyOf keys n (unwrap_or o no_key)) found (apart.found n) refl

-- two rows of the same octets are one
pub one_row : (keys : List InstalledKey) → KeysAreApart keys → (n m : ℕ) (x y : InstalledKey) →
    key_row keys n ≡ Some x →
    key_row keys m ≡ Some y → y.bytes ≡ x.bytes → m ≡ n
one_row keys apart n m x y here there same =
    let first = row_is keys apart n x here in
    let second = row_is keys apart m y there in
    let one : y ≡ x = apart.by_bytes y x second.there first.there same in
    sym second.number ∙ ap (λ (r : InstalledKey). r.number) one ∙ first.number

any_of : (test : InstalledKey → Bool) (keys : List InstalledKey) (x : InstalledKey) → IsMember keys x →
    test x ≡ true → list_any test keys ≡ true
any_of test [] x there is = absurd there
any_of test (y ∷ keys) x (inl here) is = ap (λ b. b || list_any test keys) (ap test here ∙ is)
any_of test (y ∷ keys) x (inr later) is = by_test (test y) (any_of test keys x later is)
  where
    by_test : (b : Bool) → list_any test keys ≡ true → (b || list_any test keys) ≡ true
    by_test true rest = refl
    by_test false rest = rest

any_there : (test : InstalledKey → Bool) (keys : List InstalledKey) → list_any test keys ≡ true →
    (x : InstalledKey) × IsMember keys x × (test x ≡ true)
any_there test [] any = cc
any_there test (y ∷ keys) any = by_case (or_cases (test y) (list_any test keys) any) (any_there test keys)
  where
    by_case : (test y ≡ true) ⊎ (list_any test keys ≡ true) →
        (list_any test keys ≡ true → (x : InstalledKey) × IsMember keys x × (test x ≡ true)) →
        (x : InstalledKey) × IsMember (y ∷ keys) x × (test x ≡ true)
    by_case (inl is) later = (y, inl refl, is)
    by_case (inr is) later = let it = later is in (it.0, inr it.1, it.2)

-- ---- the laws of endpoints that give up octets

pub record GivingUp : Type 0 where
  pub known : (k : Keeping) (input : KeepingInput) (bytes : List ℕ) → StaysKnown k input bytes
  pub gives_up : (k : Keeping) (key : NewKey) (bytes : List ℕ) → GivesUpOctets k key bytes
  pub stays : (k : Keeping) (key : NewKey) (bytes : List ℕ) → StaysGivenUp k key bytes
  pub forever : (k : Keeping) (input : KeepingInput) (bytes : List ℕ) → StaysGivenUpBy k input bytes

-- these octets are refused, and each key that has them is given up
abbrev IsBarred : Keeping → List ℕ → Type 0
IsBarred k bytes = (is_given_up k bytes ≡ true) ⊎ (is_known k bytes ≡ true)

pub record IsOver (k : Keeping) (bytes : List ℕ) : Type 0 where
  pub barred : IsBarred k bytes
  pub rows : (n : ℕ) (x : InstalledKey) → key_row k.secy.keys n ≡ Some x → x.bytes ≡ bytes → IsGivenUp k.secy n

known_now : (k : Keeping) → KeysAreApart k.secy.keys → (n : ℕ) (x : InstalledKey) → key_row k.secy.keys n ≡ Some x →
    is_known k x.bytes ≡ true
known_now k apart n x found =
    ap (λ b. b || is_forgotten k x.bytes) (any_of (λ y. same_octets y.bytes x.bytes) k.secy.keys x
    (member k.secy.keys x (row_is k.secy.keys apart n x found).there) (same_octets-refl x.bytes))

-- a key that is given up
pub over_now : (k : Keeping) → KeysAreApart k.secy.keys → (n : ℕ) (x : InstalledKey) → key_row k.secy.keys n ≡ Some x →
    IsGivenUp k.secy n → IsOver k x.bytes
over_now k apart n x found up = record {
  barred = inr (known_now k apart n x found);
  rows = λ m y there same. subst (IsGivenUp k.secy) (sym (one_row k.secy.keys apart n m x y found there same)) up;
}

-- a key that a step gives up
pub over_after : GivingUp → (k : Keeping) (input : KeepingInput) → IsSound k.secy → KeysAreApart k.secy.keys →
    brings_key input ≡ false → (n : ℕ) (x : InstalledKey) → key_row k.secy.keys n ≡ Some x →
    IsGivenUp (forgetting_step k input).1.secy n → IsOver (forgetting_step k input).1 x.bytes
over_after giving k input sound apart none n x found up = record {
  barred = inr (giving.known k input x.bytes sound (known_now k apart n x found));
  rows = λ m y there same. by_row m y same (key_row k.secy.keys m) refl
      (subst (SameOrUp after m (key_row k.secy.keys m)) there (forgetting_keeps k input none m));
}
  where
    after : State
    after = (forgetting_step k input).1.secy

    by_row : (m : ℕ) (y : InstalledKey) → y.bytes ≡ x.bytes → (o : Option InstalledKey) → key_row k.secy.keys m ≡ o →
        SameOrUp after m o (Some y) → IsGivenUp after m
    by_row m y same None there it = absurd it
    by_row m y same (Some old) there (inl octets) =
        subst (IsGivenUp after) (sym (one_row k.secy.keys apart n m x old found there (sym octets ∙ same))) up
    by_row m y same (Some old) there (inr up') = up'

pub over_forgetting : GivingUp → (k : Keeping) (input : KeepingInput) (bytes : List ℕ) → IsSound k.secy →
    brings_key input ≡ false → IsOver k bytes → IsOver (forgetting_step k input).1 bytes
over_forgetting giving k input bytes sound none over = record {
  barred = by_bar over.barred;
  rows = λ n y there same. by_row n y same (key_row k.secy.keys n) refl
      (subst (SameOrUp after n (key_row k.secy.keys n)) there (forgetting_keeps k input none n));
}
  where
    after : State
    after = (forgetting_step k input).1.secy

    by_bar : IsBarred k bytes → IsBarred (forgetting_step k input).1 bytes
    by_bar (inl given) = inl (giving.forever k input bytes given)
    by_bar (inr known) = inr (giving.known k input bytes sound known)

    by_row : (n : ℕ) (y : InstalledKey) → y.bytes ≡ bytes → (o : Option InstalledKey) → key_row k.secy.keys n ≡ o →
        SameOrUp after n o (Some y) → IsGivenUp after n
    by_row n y same None there it = absurd it
    by_row n y same (Some old) there (inl octets) =
        given_up_forgetting k input n (over.rows n old there (sym octets ∙ same))
    by_row n y same (Some old) there (inr up) = up

-- ---- a renewal

pub both_fit : (b : Bool) (r : Option Refusal) → refusal_if b r ≡ None → (b ≡ false) × (r ≡ None)
both_fit true r is = cc
both_fit false r is = (refl, is)

bytes_of_print : (salt : List ℕ) (key : KeyOctets) →
    key_bytes (key_of_fingerprint salt key) ≡ fingerprint salt (key_bytes key)
bytes_of_print salt (K128 bytes) = refl
bytes_of_print salt (K256 bytes) = refl

-- a new key does not have octets that are refused
takes_others : (k : Keeping) (key : NewKey) (bytes : List ℕ) → forgetting_refusal k key ≡ None → IsBarred k bytes →
    key_bytes (as_taken k key).bytes ≡ bytes → ⊥
takes_others k key bytes none barred same =
    by_test (is_forgotten k given) refl
    (both_fit (is_given_up k given) (renewal_refusal k.secy (as_taken k key)) none).1 same
  where
    given : List ℕ
    given = key_bytes key.bytes

    print : NewKey
    print = record key { bytes = key_of_fingerprint k.salt key.bytes }

    by_test : (b : Bool) → is_forgotten k given ≡ b → renewal_refusal k.secy (if b then print else key) ≡ None →
        key_bytes (if b then print else key).bytes ≡ bytes → ⊥
    by_test true was fits same' =
        let it = any_there (is_retired_with (fingerprint k.salt given)) k.secy.keys was in
        let has : is_repeated k.secy.keys (fingerprint k.salt given) ≡ true =
        any_of (λ y. same_octets y.bytes (fingerprint k.salt given)) k.secy.keys it.0 it.1
        (has_octets it.0.retired (same_octets it.0.bytes (fingerprint k.salt given)) it.2) in
        let no : true ≡ false = sym has ∙ ap (is_repeated k.secy.keys) (sym (bytes_of_print k.salt key.bytes))
        ∙ takes_new_octets k.secy print fits in
        cc
      where
        has_octets : (b c : Bool) → (b && c) ≡ true → c ≡ true
        has_octets true c is = is
        has_octets false c is = cc
    by_test false was fits same' = by_bar barred
      where
        by_bar : IsBarred k bytes → ⊥
        by_bar (inl up) =
            let no : true ≡ false = sym up ∙ ap (is_given_up k) (sym same')
            ∙ (both_fit (is_given_up k given) (renewal_refusal k.secy (as_taken k key)) none).0 in
            cc
        by_bar (inr known) =
            let no : true ≡ false = sym known ∙ ap (is_known k) (sym same')
            ∙ ap (λ b. b || is_forgotten k given) (takes_new_octets k.secy key fits) ∙ was in
            cc

-- the row of the new key has its octets
renewed_bytes : (suite : Suite) (key : NewKey) (keys : List InstalledKey) → KeysAreApart keys → (y : InstalledKey) →
    key_row (keys_renewing suite keys key) key.number ≡ Some y → y.bytes ≡ key_bytes key.bytes
renewed_bytes suite key keys apart y there = by_row (key_row keys key.number) refl
    (sym (row-map (at_number (renewed_row suite key) key.number)
    (same_number (renewed_row suite key) (λ x. refl) key.number) keys key.number) ∙ there)
  where
    by_number : (old : InstalledKey) (b : Bool) → (old.number == key.number) ≡ b → old.number ≡ key.number →
        (if b then renewed_row suite key old else old) ≡ y → y.bytes ≡ key_bytes key.bytes
    by_number old true at number is = ap (λ (r : InstalledKey). r.bytes) (sym is)
    by_number old false at number is = absurd (eqb-false old.number key.number at number)

    by_row : (o : Option InstalledKey) → key_row keys key.number ≡ o →
        option_map (at_number (renewed_row suite key) key.number) o ≡ Some y → y.bytes ≡ key_bytes key.bytes
    by_row None found is = cc
    by_row (Some old) found is = by_number old (old.number == key.number) refl
        (row_is keys apart key.number old found).number (ap (λ (o : Option InstalledKey). unwrap_or o y) is)

added_bytes : (new : InstalledKey) (keys : List InstalledKey) (y : InstalledKey) →
    is_number_used keys new.number ≡ false → key_row (keys ++ new ∷ []) new.number ≡ Some y → y.bytes ≡ new.bytes
added_bytes new [] y free is = by_test (new.number == new.number) is
  where
    by_test : (b : Bool) → (if b then Some new else None) ≡ Some y → y.bytes ≡ new.bytes
    by_test true is' = ap (λ (o : Option InstalledKey). (unwrap_or o y).bytes) (sym is')
    by_test false is' = cc
added_bytes new (old ∷ keys) y free is = by_test (old.number == new.number) free is (added_bytes new keys y)
  where
    by_test : (b : Bool) → is_some (if b then Some old else key_row keys new.number) ≡ false →
        (if b then Some old else key_row (keys ++ new ∷ []) new.number) ≡ Some y →
        (is_number_used keys new.number ≡ false → key_row (keys ++ new ∷ []) new.number ≡ Some y →
        y.bytes ≡ new.bytes) → y.bytes ≡ new.bytes
    by_test true free' is' later = cc
    by_test false free' is' later = later free' is'

brings_octets : (s : State) (key : NewKey) → KeysAreApart s.keys → renewal_refusal s key ≡ None → (y : InstalledKey) →
    key_row (renewing key s).keys key.number ≡ Some y → y.bytes ≡ key_bytes key.bytes
brings_octets s key apart fits y there =
    by_place (not (uses s key.number) && is_number_used s.keys key.number) refl there
  where
    suite : Suite
    suite = suite_of s.config.suite key

    free : (b : Bool) → (not (uses s key.number) && is_number_used s.keys key.number) ≡ b → b ≡ false →
        is_number_used s.keys key.number ≡ false
    free b is off = by_case (takes_no_key_in_use s key fits)
      where
        by_case : (is_number_used s.keys key.number ≡ false) ⊎ IsGivenUp s key.number →
            is_number_used s.keys key.number ≡ false
        by_case (inl none) = none
        by_case (inr up) = ap (λ t. not t && is_number_used s.keys key.number) (sym up.unused) ∙ is ∙ off

    by_place : (b : Bool) → (not (uses s key.number) && is_number_used s.keys key.number) ≡ b →
        key_row (if b then keys_renewing suite s.keys key else keys_with suite s.keys key) key.number ≡ Some y →
        y.bytes ≡ key_bytes key.bytes
    by_place true is there' = renewed_bytes suite key s.keys apart y there'
    by_place false is there' = added_bytes (new_row suite key) s.keys y (free false is refl) there'

-- every other key stays
pub other_stays : (s : State) (key : NewKey) → renewal_refusal s key ≡ None → (n : ℕ) → (n ≡ key.number → ⊥) →
    key_row (renewing key s).keys n ≡ key_row s.keys n
other_stays s key fits n other =
    ap (λ (r : Option Refusal). key_row (unless_not_renewed r key s).keys n) (sym fits) ∙ keeps_other_keys s key n other

up_still : (s : State) (key : NewKey) (n : ℕ) → key_row (renewing key s).keys n ≡ key_row s.keys n →
    IsGivenUp s n → IsGivenUp (renewing key s) n
up_still s key n same up = record {
  retired = ap (λ (o : Option InstalledKey). holds_of (λ (r : InstalledKey). r.retired) o) same ∙ up.retired;
  unused = up.unused;
}

pub by_equal : {G : Type 0} (n m : ℕ) → (n ≡ m → G) → ((n ≡ m → ⊥) → G) → G
by_equal {G} n m same other = by_test (n == m) refl
  where
    by_test : (b : Bool) → (n == m) ≡ b → G
    by_test true is = same (eqb-true n m is)
    by_test false is = other (eqb-false n m is)

over_renewed : GivingUp → (k : Keeping) (key : NewKey) (bytes : List ℕ) → KeysAreApart k.secy.keys →
    KeysAreApart (renewing key k.secy).keys → renewal_refusal k.secy key ≡ None →
    (IsBarred k bytes → key_bytes key.bytes ≡ bytes → ⊥) → IsOver k bytes → IsOver (keeping_renewed key k) bytes
over_renewed giving k key bytes apart apart' fits others over = record {
  barred = by_bar over.barred;
  rows = λ n y there same. by_equal n key.number (λ at. absurd (others over.barred
      (sym (brings_octets k.secy key apart fits y
      (subst (λ m. key_row (renewing key k.secy).keys m ≡ Some y) at there)) ∙ same))) (λ other.
      let still = other_stays k.secy key fits n other in
      up_still k.secy key n still (over.rows n y (sym still ∙ there) same));
}
  where
    s : State
    s = k.secy

    print : List ℕ
    print = fingerprint k.salt bytes

    after : List InstalledKey
    after = (renewing key s).keys

    -- a key that passes a test stays, or it is the one whose row is taken
    kept_or : (test : InstalledKey → Bool) → list_any test s.keys ≡ true → (list_any test after ≡ true) ⊎
        ((is_number_used s.keys key.number ≡ true) × (test (the_key s.keys key.number) ≡ true))
    kept_or test any =
        let it = any_there test s.keys any in
        let x = it.0 in
        let found : key_row s.keys x.number ≡ Some x = apart.by_number x (contained s.keys x it.1) in
        by_equal x.number key.number (λ at.
        let own : key_row s.keys key.number ≡ Some x = subst (λ m. key_row s.keys m ≡ Some x) at found in
        inr (
          ap (λ (o : Option InstalledKey). is_some o) own,
          ap (λ (o : Option InstalledKey). test (unwrap_or o no_key)) own ∙ it.2,
        )) (λ other.
        let there : key_row after x.number ≡ Some x = other_stays s key fits x.number other ∙ found in
        inl (any_of test after x (member after x (row_is after apart' x.number x there).there) it.2))

    by_kept : (list_any (λ y. same_octets y.bytes bytes) after ≡ true) ⊎ ((is_number_used s.keys key.number ≡ true) ×
        (same_octets (the_key s.keys key.number).bytes bytes ≡ true)) → IsBarred (keeping_renewed key k) bytes
    by_kept (inl has) = inr (ap (λ b. b || has_retired after print) has)
    by_kept (inr own) = inl (giving.gives_up k key bytes own.0
        (inl ((bytes_eq-Decides (the_key s.keys key.number).bytes bytes).0 own.1)))

    by_print : (list_any (is_retired_with print) after ≡ true) ⊎ ((is_number_used s.keys key.number ≡ true) ×
        (is_retired_with print (the_key s.keys key.number) ≡ true)) → IsBarred (keeping_renewed key k) bytes
    by_print (inl was) = inr (or_right (is_repeated after bytes) (has_retired after print) was)
    by_print (inr own) = inl (giving.gives_up k key bytes own.0
        (inr ((bytes_eq-Decides (the_key s.keys key.number).bytes print).0
        (and_parts (the_key s.keys key.number).retired (same_octets (the_key s.keys key.number).bytes print) own.1).1)))

    by_known : (is_repeated s.keys bytes ≡ true) ⊎ (is_forgotten k bytes ≡ true) →
        IsBarred (keeping_renewed key k) bytes
    by_known (inl has) = by_kept (kept_or (λ y. same_octets y.bytes bytes) has)
    by_known (inr was) = by_print (kept_or (is_retired_with print) was)

    by_bar : IsBarred k bytes → IsBarred (keeping_renewed key k) bytes
    by_bar (inl given) = inl (subst (λ (r : Option Refusal). is_given_up (unless_not_taken r key k) bytes ≡ true) fits
        (giving.stays k key bytes given))
    by_bar (inr known) = by_known (or_cases (is_repeated s.keys bytes) (is_forgotten k bytes) known)

pub over_renewing : GivingUp → EndpointLaws → (k : Keeping) (key : NewKey) (bytes : List ℕ) → IsSound k.secy →
    IsSound (forgetting_after_renewing k key).secy → IsOver k bytes → IsOver (forgetting_after_renewing k key) bytes
over_renewing giving laws k key bytes sound sound' over = by_refusal (forgetting_refusal k key) refl sound'
  where
    by_refusal : (r : Option Refusal) → forgetting_refusal k key ≡ r →
        IsSound (unless_not_taken r (as_taken k key) k).secy → IsOver (unless_not_taken r (as_taken k key) k) bytes
    by_refusal (Some r) is sound'' = over
    by_refusal None is sound'' =
        over_renewed giving k (as_taken k key) bytes (laws.keys_apart k.secy sound)
        (laws.keys_apart (renewing (as_taken k key) k.secy) sound'')
        (both_fit (is_given_up k (key_bytes key.bytes)) (renewal_refusal k.secy (as_taken k key)) is).1
        (λ barred same. takes_others k key bytes is barred same) over
