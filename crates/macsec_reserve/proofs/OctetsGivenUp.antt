-- The octets of a key whose row a new key took stay refused, and no floor changes.
use Rattle.std.proofs.lemmas.List.Folds.{list_any-append}
use Rattle.macsec_reserve.specs.{
  Forgetting.{retired_by, taken, then_forget},
  Renewing.{forgetting_refusal, GivesUpOctets, has_name, is_given_up, is_name_given_up, keeping_after_renewing},
  Renewing.{keeping_renewed, KeepsFloors, refusal_if, RefusesGivenUp, StaysGivenUp, StaysGivenUpBy, unless_refused},
}
use Rattle.macsec_secy.specs.Renewing.{renewal_refusal}
use Rattle.macsec_suite.specs.declared.refusal.Refusal.TheVariants.{KeyRepeated}
use Rattle.macsec_reserve.proofs.{
  Prelude.{[], ◌&&◌, ◌++◌, ◌||◌, ◌∙◌, ◌∷◌, ◌≡◌, ap, as_taken, Bool, can_forget, false, fingerprint, forgetting},
  Prelude.{forgetting_step, if◌then◌else◌, inl, inr, is_done, is_number_used, Keeping, keeping_step, KeepingInput},
  Prelude.{KeepingOutput, key_name, List, NewKey, None, octets_same, Option, refl, Refusal, same_octets, sending_name},
  Prelude.{Some, subst, true, ℕ},
  Steps.{given_up_stays, salt_stays},
}

or_left : (a b : Bool) → a ≡ true → (a || b) ≡ true
or_left a b is = rw is refl

or_right : (a b : Bool) → b ≡ true → (a || b) ≡ true
or_right true b is = refl
or_right false b is = is

-- the name of the key that had the number
name_given_up : (k : Keeping) (key : NewKey) → is_number_used k.secy.keys key.number ≡ true →
    is_name_given_up (keeping_renewed key k) (key_name k.salt k.secy.keys key.number) ≡ true
name_given_up k key used =
    let name = key_name k.salt k.secy.keys key.number in
    ap (λ (b : Bool). has_name (if b then k.given_up ++ name ∷ [] else k.given_up) name) used
    ∙ list_any-append (λ other. same_octets other name) k.given_up (name ∷ [])
    ∙ or_right (has_name k.given_up name) (has_name (name ∷ []) name)
    (or_left (same_octets name name) false (octets_same name))

pub gives_up_octets : (k : Keeping) (key : NewKey) (bytes : List ℕ) → GivesUpOctets k key bytes
gives_up_octets k key bytes used (inl same) =
    or_left (is_name_given_up (keeping_renewed key k) (sending_name k.salt bytes))
    (is_name_given_up (keeping_renewed key k) (sending_name k.salt (fingerprint k.salt bytes)))
    (subst (λ (octets : List ℕ). is_name_given_up (keeping_renewed key k) (sending_name k.salt octets) ≡ true) same
    (name_given_up k key used))
gives_up_octets k key bytes used (inr same) =
    or_right (is_name_given_up (keeping_renewed key k) (sending_name k.salt bytes))
    (is_name_given_up (keeping_renewed key k) (sending_name k.salt (fingerprint k.salt bytes)))
    (subst (λ (octets : List ℕ). is_name_given_up (keeping_renewed key k) (sending_name k.salt octets) ≡ true) same
    (name_given_up k key used))

pub keeps_floors : (k : Keeping) (key : NewKey) → KeepsFloors k key
keeps_floors k key = by_refusal (renewal_refusal k.secy key)
  where
    by_refusal : (r : Option Refusal) → (unless_refused r key k).before ≡ k.before
    by_refusal None = refl
    by_refusal (Some r) = refl

pub stays_given_up : (k : Keeping) (key : NewKey) (bytes : List ℕ) → StaysGivenUp k key bytes
stays_given_up k key bytes given =
    subst (λ (salt : List ℕ). (is_name_given_up after (sending_name salt bytes)
    || is_name_given_up after (sending_name salt (fingerprint salt bytes))) ≡ true) same_salt
    (by_names (is_name_given_up k one) (is_name_given_up k two) refl refl given)
  where
    after : Keeping
    after = keeping_after_renewing key k

    one : List ℕ
    one = sending_name k.salt bytes

    two : List ℕ
    two = sending_name k.salt (fingerprint k.salt bytes)

    salt_of : (r : Option Refusal) → k.salt ≡ (unless_refused r key k).salt
    salt_of None = refl
    salt_of (Some r) = refl

    same_salt : k.salt ≡ after.salt
    same_salt = salt_of (renewal_refusal k.secy key)

    by_use : (b : Bool) (gone name : List ℕ) → has_name k.given_up name ≡ true →
        has_name (if b then k.given_up ++ gone ∷ [] else k.given_up) name ≡ true
    by_use true gone name is =
        list_any-append (λ other. same_octets other name) k.given_up (gone ∷ [])
        ∙ or_left (has_name k.given_up name) (has_name (gone ∷ []) name) is
    by_use false gone name is = is

    by_refusal : (r : Option Refusal) (name : List ℕ) → is_name_given_up k name ≡ true →
        is_name_given_up (unless_refused r key k) name ≡ true
    by_refusal None name is = by_use (is_number_used k.secy.keys key.number) (key_name k.salt k.secy.keys key.number)
        name is
    by_refusal (Some r) name is = is

    stays : (name : List ℕ) → is_name_given_up k name ≡ true → is_name_given_up after name ≡ true
    stays name is = by_refusal (renewal_refusal k.secy key) name is

    by_names : (a b : Bool) → is_name_given_up k one ≡ a → is_name_given_up k two ≡ b → (a || b) ≡ true →
        (is_name_given_up after one || is_name_given_up after two) ≡ true
    by_names true b is_one is_two is = or_left (is_name_given_up after one) (is_name_given_up after two)
        (stays one is_one)
    by_names false true is_one is_two is = or_right (is_name_given_up after one) (is_name_given_up after two)
        (stays two is_two)
    by_names false false is_one is_two is = cc

-- ---- the other steps

then_keeps : (o : Option ℕ) (answer : KeepingOutput × Keeping) →
    ((then_forget o answer).1.given_up ≡ answer.1.given_up) × ((then_forget o answer).1.salt ≡ answer.1.salt)
then_keeps None answer = (refl, refl)
then_keeps (Some n) answer = by_test (is_done answer.0 && can_forget answer.1 n)
  where
    by_test : (b : Bool) → ((if b then forgetting answer.1 n else answer.1).given_up ≡ answer.1.given_up)
        × ((if b then forgetting answer.1 n else answer.1).salt ≡ answer.1.salt)
    by_test true = (refl, refl)
    by_test false = (refl, refl)

-- it depends on the names that are given up and on the salt
same_given_up : (k l : Keeping) (bytes : List ℕ) → l.given_up ≡ k.given_up → l.salt ≡ k.salt →
    is_given_up l bytes ≡ is_given_up k bytes
same_given_up k l bytes names salt =
    ap (λ (all : List (List ℕ)). given all l.salt) names ∙ ap (λ (x : List ℕ). given k.given_up x) salt
  where
    given : List (List ℕ) → List ℕ → Bool
    given all x = has_name all (sending_name x bytes) || has_name all (sending_name x (fingerprint x bytes))

pub stays_given_up_by : (k : Keeping) (input : KeepingInput) (bytes : List ℕ) → StaysGivenUpBy k input bytes
stays_given_up_by k input bytes is =
    let answer = keeping_step k (taken k input) in
    let kept = then_keeps (retired_by input) answer in
    same_given_up k (forgetting_step k input).1 bytes (kept.0 ∙ given_up_stays k (taken k input))
    (kept.1 ∙ salt_stays k (taken k input)) ∙ is

pub refuses_given_up : (k : Keeping) (key : NewKey) → RefusesGivenUp k key
refuses_given_up k key is =
    let refused : forgetting_refusal k key ≡ Some KeyRepeated =
    ap (λ (b : Bool). refusal_if b (renewal_refusal k.secy (as_taken k key))) is in
    (refused, ap (λ (r : Option Refusal). unless_refused r (as_taken k key) k) refused)
