-- What renewing leaves of the octets of a key: no other key has them in use.
use Rattle.std.proofs.lemmas.Bool.{eqb-false, or_cases}
use Rattle.macsec_reserve.specs.{
  Forgetting.then_forget,
  Forgotten.is_known,
  Renewing.{forgetting_after_renewing, forgetting_refusal, is_given_up, keeping_renewed, refusal_if},
  Renewing.{unless_refused as unless_not_taken},
  RenewingRuns.renewing_step,
}
use Rattle.macsec_secy.proofs.{
  Contained.{first_or_behind, none_there},
  GivenUp.stays_replaced,
  KeyRenewed.{keeps_other_keys, takes_new_octets},
  OtherOctets.other_row,
}
use Rattle.macsec_secy.specs.{
  Kept.{IsKeyOf, IsLaterKey},
  Renewing.{renewal_refusal, renewing, state_after_renewing, unless_not_renewed},
}
use Rattle.macsec_suite.specs.{KeyRows.keys_with, Renewing.{keys_renewing, renewed_row}}
use Rattle.macsec_reserve.proofs.{
  Prelude.{[], ◌&&◌, ◌++◌, ◌<◌, ◌==◌, ◌||◌, ◌∙◌, ◌∷◌, ◌≡◌, ◌≤◌, ◌⊎◌, and_parts, ap, arith, as_taken, at_number, behind},
  Prelude.{Bool, can_forget, CipherUse, client_frame, Command, command_output, Contains, done, effect, EndConfig},
  Prelude.{endpoint_input, eqb-true, false, fingerprint, fingerprint_of, first, forgetting, forgetting_step},
  Prelude.{frame_fault, FrameFault, has_retired, holds_of, if◌then◌else◌, inl, Input, inr, InstalledKey},
  Prelude.{is_below_floor, is_forgotten, is_number_used, is_repeated, is_some, IsGivenUp, IsSome, IsSound, iv_of},
  Prelude.{judgement_of, Keeping, keeping_step, KeepingInput, KeepingOutput, Key, key_bytes, key_row, keys_after},
  Prelude.{KeysAreApart, KeysStay, last_of, leaves, link_frame, List, list_any, map, may_go, new_row, NewKey, no_key},
  Prelude.{None, now_durable, octets_same, operator_command, Option, option_map, or_parts, Output, received_output},
  Prelude.{refl, refusal, Refusal, Retire, retired_row, row-map, row_noting, same_number, same_octets, Sci, sending_of},
  Prelude.{sent_output, Some, State, state_after_receiving, state_after_sending, step, subst, Suite, suite_of, sym},
  Prelude.{the_key, true, TxRow, uncontrolled_frame, unless_fault, unless_refused, unwrap_or, with_bytes, with_key},
  Prelude.{with_step, ℕ},
  EndpointLaws.Laws,
  KnownKeys.{any_with, command_step, has_bytes, is_retired_with, known_in, or_true, retiring, row_of, same_octets_is},
  KnownKeys.{stays_known, taken_repeated, with_fingerprint},
  OctetsGivenUp.{gives_up_octets, stays_given_up, stays_given_up_by},
  RenewedNames.{free_keys, renewed_state, used_keys},
  Replaced.KeyLaws,
  Steps.{by_tests, keys_stay},
}

-- these octets are refused
abbrev pub IsBarred : Keeping → List ℕ → Type 0
IsBarred k bytes = (is_given_up k bytes ≡ true) ⊎ (is_known k bytes ≡ true)

-- each key with the octets has a property, or is retired and no SA uses it
abbrev pub AreSpent : (Sci → InstalledKey → Type 0) → State → List ℕ → Type 0
AreSpent P s bytes = (n : ℕ) (key : InstalledKey) → key_row s.keys n ≡ Some key → key.bytes ≡ bytes → P s.config.sci key ⊎ IsGivenUp s n

pub record IsSpent (P : Sci → InstalledKey → Type 0) (k : Keeping) (bytes : List ℕ) : Type 0 where
  pub barred : IsBarred k bytes
  pub rows : AreSpent P k.secy bytes

-- a key that is later than one with the property has it too
abbrev pub Lasts : (Sci → InstalledKey → Type 0) → Type 0
Lasts P = (sci : Sci) (key later : InstalledKey) → IsLaterKey key later → P sci key → P sci later

-- ---- rows

pub row_there : (keys : List InstalledKey) → KeysAreApart keys → (n : ℕ) (key : InstalledKey) → key_row keys n ≡ Some key → IsKeyOf keys n key
row_there keys apart n key is = subst (λ (o : Option InstalledKey). IsSome o → IsKeyOf keys n (unwrap_or o no_key)) is (apart.found n) refl

same_row : (x y : InstalledKey) → Some x ≡ Some y → x ≡ y
same_row x y is = cc

-- ---- an input that brings no key

mapped_number : (f : InstalledKey → InstalledKey) → ((row : InstalledKey) → (f row).number ≡ row.number) → (keys : List InstalledKey) (n : ℕ) → is_number_used (map f keys) n ≡ is_number_used keys n
mapped_number f number keys n = ap (λ (o : Option InstalledKey). is_some o) (row-map f number keys n) ∙ by_row (key_row keys n)
  where
    by_row : (o : Option InstalledKey) → is_some (option_map f o) ≡ is_some o
    by_row None = refl
    by_row (Some row) = refl

abbrev is_key : Command → Bool
is_key (Key key) = true
is_key c = false

abbrev brings_key : KeepingInput → Bool
brings_key (endpoint_input (operator_command c)) = is_key c
brings_key input = false

effect_numbers : (s : State) (c : Command) (n : ℕ) → is_key c ≡ false → is_number_used (effect s c).keys n ≡ is_number_used s.keys n
effect_numbers s (Key key) n none = cc
effect_numbers s (Retire m) n none = mapped_number (at_number retired_row m) (same_number retired_row (λ row. refl) m) s.keys n
effect_numbers s c n none = refl

command_numbers : (s : State) (c : Command) (r : Option Refusal) (n : ℕ) → is_key c ≡ false → is_number_used (unless_refused r s c).keys n ≡ is_number_used s.keys n
command_numbers s c None n none = effect_numbers s c n none
command_numbers s c (Some r) n none = refl

sent_numbers : (keys : List InstalledKey) (by : Option TxRow) (n : ℕ) → is_number_used (keys_after keys by) n ≡ is_number_used keys n
sent_numbers keys None n = refl
sent_numbers keys (Some row) n = mapped_number (at_number (row_noting row.next) row.key) (same_number (row_noting row.next) (λ key. refl) row.key) keys n

frame_numbers : (s after : State) (output : Output) (f : Option FrameFault) (n : ℕ) → is_number_used after.keys n ≡ is_number_used s.keys n →
    is_number_used (unless_fault f s (output, after)).1.keys n ≡ is_number_used s.keys n
frame_numbers s after output None n same = same
frame_numbers s after output (Some f) n same = refl

step_numbers : (s : State) (input : Input) (n : ℕ) → brings_key (endpoint_input input) ≡ false → is_number_used (step s input).1.keys n ≡ is_number_used s.keys n
step_numbers s (operator_command c) n none = command_numbers s c (refusal s c) n none
step_numbers s (client_frame frame) n none =
    frame_numbers s (state_after_sending s frame (sending_of s frame)) (sent_output frame (sending_of s frame).leaving) (frame_fault frame) n (sent_numbers s.keys (sending_of s frame).by n)
step_numbers s (uncontrolled_frame frame) n none = frame_numbers s s (leaves frame None) (frame_fault frame) n refl
step_numbers s (link_frame frame) n none =
    frame_numbers s (state_after_receiving s frame (judgement_of s frame)) (received_output frame (judgement_of s frame)) (frame_fault frame) n refl

tests_numbers : (below go : Bool) (k : Keeping) (answer : Output × State) (n : ℕ) → is_number_used answer.1.keys n ≡ is_number_used k.secy.keys n →
    is_number_used (by_tests below go k answer).1.secy.keys n ≡ is_number_used k.secy.keys n
tests_numbers true go k answer n same = refl
tests_numbers false true k answer n same = same
tests_numbers false false k answer n same = refl

numbers_stay : (k : Keeping) (input : KeepingInput) (n : ℕ) → brings_key input ≡ false → is_number_used (keeping_step k input).1.secy.keys n ≡ is_number_used k.secy.keys n
numbers_stay k (now_durable r) n none = refl
numbers_stay k (endpoint_input input) n none =
    tests_numbers (is_below_floor k input) (may_go k input) k (step k.secy input) n (step_numbers k.secy input n none)

up_by_tests : (below go : Bool) (k : Keeping) (answer : Output × State) (n : ℕ) → IsGivenUp k.secy n → IsGivenUp answer.1 n → IsGivenUp (by_tests below go k answer).1.secy n
up_by_tests true go k answer n up later = up
up_by_tests false true k answer n up later = later
up_by_tests false false k answer n up later = up

up_stays : KeyLaws → (k : Keeping) (input : KeepingInput) (n : ℕ) → IsGivenUp k.secy n → IsGivenUp (keeping_step k input).1.secy n
up_stays laws k (now_durable r) n up = up
up_stays laws k (endpoint_input input) n up =
    up_by_tests (is_below_floor k input) (may_go k input) k (step k.secy input) n up (laws.stays_given_up k.secy n input up)

rows_stay : (P : Sci → InstalledKey → Type 0) → Lasts P → KeyLaws → Laws → (k : Keeping) (input : KeepingInput) (octets : List ℕ) → IsSound k.secy →
    IsSound (keeping_step k input).1.secy → brings_key input ≡ false → AreSpent P k.secy octets → AreSpent P (keeping_step k input).1.secy octets
rows_stay P lasts keys laws k input octets sound sound' none spent n later is bytes =
    by_row (key_row k.secy.keys n) refl (sym (numbers_stay k input n none) ∙ ap (λ (o : Option InstalledKey). is_some o) is)
  where
    after : State
    after = (keeping_step k input).1.secy

    stay : KeysStay k.secy after
    stay = keys_stay laws k input sound

    by_row : (o : Option InstalledKey) → key_row k.secy.keys n ≡ o → is_some o ≡ true → P after.config.sci later ⊎ IsGivenUp after n
    by_row None found used = cc
    by_row (Some key) found used =
        let it = row_there k.secy.keys (keys.keys_apart k.secy sound) n key found in
        let then' = stay.keys key it.there in
        let at : key_row after.keys n ≡ Some then'.later =
        subst (λ i. key_row after.keys i ≡ Some then'.later) (then'.is_later.number ∙ it.number) ((keys.keys_apart after sound').by_number then'.later then'.there) in
        let is_later : IsLaterKey key later = subst (IsLaterKey key) (same_row then'.later later (sym at ∙ is)) then'.is_later in
        by_case is_later (spent n key found (sym is_later.bytes ∙ bytes))
      where
        by_case : IsLaterKey key later → P k.secy.config.sci key ⊎ IsGivenUp k.secy n → P after.config.sci later ⊎ IsGivenUp after n
        by_case is_later (inl has) = inl (subst (λ (c : EndConfig). P c.sci later) (sym stay.config) (lasts k.secy.config.sci key later is_later has))
        by_case is_later (inr up) = inr (up_stays keys k input n up)

-- ---- a key that is retired, and then forgotten

pub barred_stays : KeyLaws → (k : Keeping) (input : KeepingInput) (bytes : List ℕ) → IsSound k.secy → IsBarred k bytes → IsBarred (forgetting_step k input).1 bytes
barred_stays laws k input bytes sound (inl given) = inl (stays_given_up_by k input bytes given)
barred_stays laws k input bytes sound (inr known) = inr (stays_known laws k input bytes sound known)

rows_retiring : (P : Sci → InstalledKey → Type 0) → KeyLaws → (k : Keeping) (n : ℕ) (octets : List ℕ) → AreSpent P k.secy octets → AreSpent P (forgetting_step k (retiring n)).1.secy octets
rows_retiring P laws k n octets spent =
    subst (λ (a : KeepingOutput × Keeping). AreSpent P (then_forget (Some n) a).1.secy octets) (sym (command_step k (Retire n) refl)) (by_refusal (refusal k.secy (Retire n)) refl)
  where
    by_refusal : (r : Option Refusal) → refusal k.secy (Retire n) ≡ r → AreSpent P (then_forget (Some n) (with_step k (command_output r, unless_refused r k.secy (Retire n)))).1.secy octets
    by_refusal (Some r) e = spent
    by_refusal None e = by_test (can_forget retired n)
      where
        retired : Keeping
        retired = record k { secy = effect k.secy (Retire n) }

        other : (m : ℕ) → (m == n) ≡ false → key_row retired.secy.keys m ≡ key_row k.secy.keys m
        other m differs = other_row retired_row (λ row. refl) k.secy.keys n m differs

        its_own : IsGivenUp retired.secy n
        its_own = subst (λ (r : Option Refusal). IsGivenUp (unless_refused r k.secy (Retire n)) n) e (laws.gives_up k.secy n (ap command_output e))

        still : (m : ℕ) → IsGivenUp k.secy m → IsGivenUp retired.secy m
        still m up = subst (λ (r : Option Refusal). IsGivenUp (unless_refused r k.secy (Retire n)) m) e (laws.stays_given_up k.secy m (operator_command (Retire n)) up)

        -- with a key of another number
        by_case : (s : State) (m : ℕ) (key : InstalledKey) → (IsGivenUp retired.secy m → IsGivenUp s m) → P k.secy.config.sci key ⊎ IsGivenUp k.secy m →
            P k.secy.config.sci key ⊎ IsGivenUp s m
        by_case s m key goes (inl has) = inl has
        by_case s m key goes (inr up) = inr (goes (still m up))

        by_number : (s : State) → s.config ≡ k.secy.config → ((m : ℕ) → IsGivenUp retired.secy m → IsGivenUp s m) →
            ((m : ℕ) → (m == n) ≡ false → key_row s.keys m ≡ key_row retired.secy.keys m) → AreSpent P s octets
        by_number s config goes same m key is bytes = by_place (m == n) refl
          where
            by_place : (b : Bool) → (m == n) ≡ b → P s.config.sci key ⊎ IsGivenUp s m
            by_place true at = inr (subst (IsGivenUp s) (sym (eqb-true m n at)) (goes n its_own))
            by_place false at =
                subst (λ (c : EndConfig). P c.sci key ⊎ IsGivenUp s m) (sym config)
                (by_case s m key (goes m) (spent m key (sym (same m at ∙ other m at) ∙ is) bytes))

        by_test : (b : Bool) → AreSpent P (if b then forgetting retired n else retired).secy octets
        by_test true =
            let print = fingerprint_of retired n in
            by_number (forgetting retired n).secy refl (λ m up. stays_replaced retired.secy m n print up) (λ m at. other_row (with_bytes print) (λ row. refl) retired.secy.keys n m at)
        by_test false = by_number retired.secy refl (λ m up. up) (λ m at. refl)

-- ---- a renewal

-- the row of the new key has its octets
renewed_bytes : (suite : Suite) (key : NewKey) (keys : List InstalledKey) (row : InstalledKey) → key_row (keys_renewing suite keys key) key.number ≡ Some row → row.bytes ≡ key_bytes key.bytes
renewed_bytes suite key [] row is = cc
renewed_bytes suite key (old ∷ keys) row is =
    by_test (old.number == key.number) refl (renewed_bytes suite key keys row)
    (subst (λ i. (if i == key.number then Some (at_number (renewed_row suite key) key.number old) else key_row (keys_renewing suite keys key) key.number) ≡ Some row)
    (same_number (renewed_row suite key) (λ r. refl) key.number old) is)
  where
    by_test : (b : Bool) → (old.number == key.number) ≡ b → (key_row (keys_renewing suite keys key) key.number ≡ Some row → row.bytes ≡ key_bytes key.bytes) →
        (if b then Some (if b then renewed_row suite key old else old) else key_row (keys_renewing suite keys key) key.number) ≡ Some row → row.bytes ≡ key_bytes key.bytes
    by_test true at later is' = sym (ap (λ (r : InstalledKey). r.bytes) (same_row (renewed_row suite key old) row is'))
    by_test false at later is' = later is'

added_bytes : (new : InstalledKey) (keys : List InstalledKey) (row : InstalledKey) → is_number_used keys new.number ≡ false → key_row (keys ++ new ∷ []) new.number ≡ Some row → row.bytes ≡ new.bytes
added_bytes new [] row free is = by_test (new.number == new.number) is
  where
    by_test : (b : Bool) → (if b then Some new else None) ≡ Some row → row.bytes ≡ new.bytes
    by_test true is' = sym (ap (λ (r : InstalledKey). r.bytes) (same_row new row is'))
    by_test false is' = cc
added_bytes new (old ∷ keys) row free is = by_test (old.number == new.number) free is (added_bytes new keys row)
  where
    by_test : (b : Bool) → is_some (if b then Some old else key_row keys new.number) ≡ false → (if b then Some old else key_row (keys ++ new ∷ []) new.number) ≡ Some row →
        (is_number_used keys new.number ≡ false → key_row (keys ++ new ∷ []) new.number ≡ Some row → row.bytes ≡ new.bytes) → row.bytes ≡ new.bytes
    by_test true free' is' later = cc
    by_test false free' is' later = later free' is'

brings_octets : (s : State) (key : NewKey) (row : InstalledKey) → renewal_refusal s key ≡ None → key_row (renewing key s).keys key.number ≡ Some row → row.bytes ≡ key_bytes key.bytes
brings_octets s key row e is = by_use (is_number_used s.keys key.number) refl
  where
    suite : Suite
    suite = suite_of s.config.suite key

    by_use : (b : Bool) → is_number_used s.keys key.number ≡ b → row.bytes ≡ key_bytes key.bytes
    by_use true used = renewed_bytes suite key s.keys row (subst (λ (keys : List InstalledKey). key_row keys key.number ≡ Some row) (used_keys s key (sym e) used) is)
    by_use false free = added_bytes (new_row suite key) s.keys row free (subst (λ (keys : List InstalledKey). key_row keys key.number ≡ Some row) (free_keys s key free) is)

-- a key that passes a test stays, or it is the one whose row is taken
kept_or : (P : InstalledKey → Bool) (change : InstalledKey → InstalledKey) (n : ℕ) (G : Type 0) (keys : List InstalledKey) →
    ((row : InstalledKey) → Contains keys row → (row.number == n) ≡ true → P row ≡ true → G) → list_any P keys ≡ true → (list_any P (with_key change n keys) ≡ true) ⊎ G
kept_or P change n G [] taken any = cc
kept_or P change n G (row ∷ rows) taken any =
    by_case (or_cases (P row) (list_any P rows) any) (kept_or P change n G rows (λ x there. taken x (behind row rows x there)))
  where
    here : (b : Bool) → (row.number == n) ≡ b → P row ≡ true → ((P (if b then change row else row) || list_any P (with_key change n rows)) ≡ true) ⊎ G
    here true at is = inr (taken row (first row rows) at is)
    here false at is = inl (ap (λ b. b || list_any P (with_key change n rows)) is)

    later : (list_any P (with_key change n rows) ≡ true) ⊎ G → (list_any P (with_key change n (row ∷ rows)) ≡ true) ⊎ G
    later (inl is) = inl (ap (λ b. P (at_number change n row) || b) is ∙ or_true (P (at_number change n row)))
    later (inr g) = inr g

    by_case : (P row ≡ true) ⊎ (list_any P rows ≡ true) → (list_any P rows ≡ true → (list_any P (with_key change n rows) ≡ true) ⊎ G) → (list_any P (with_key change n (row ∷ rows)) ≡ true) ⊎ G
    by_case (inl is) goes = here (row.number == n) refl is
    by_case (inr is) goes = later (goes is)

any_renewed : (P : InstalledKey → Bool) (s : State) (key : NewKey) → KeysAreApart s.keys → renewal_refusal s key ≡ None → list_any P s.keys ≡ true →
    (list_any P (renewing key s).keys ≡ true) ⊎ ((is_number_used s.keys key.number ≡ true) × (P (the_key s.keys key.number) ≡ true))
any_renewed P s key apart e any = by_use (is_number_used s.keys key.number) refl
  where
    suite : Suite
    suite = suite_of s.config.suite key

    Any : List InstalledKey → Type 0
    Any keys = list_any P keys ≡ true

    by_kept : is_number_used s.keys key.number ≡ true → Any (keys_renewing suite s.keys key) ⊎ (P (the_key s.keys key.number) ≡ true) →
        Any (renewing key s).keys ⊎ ((is_number_used s.keys key.number ≡ true) × (P (the_key s.keys key.number) ≡ true))
    by_kept used (inl is) = inl (subst Any (sym (used_keys s key (sym e) used)) is)
    by_kept used (inr is) = inr (used, is)

    by_use : (b : Bool) → is_number_used s.keys key.number ≡ b → Any (renewing key s).keys ⊎ ((is_number_used s.keys key.number ≡ true) × (P (the_key s.keys key.number) ≡ true))
    by_use true used =
        by_kept used (kept_or P (renewed_row suite key) key.number (P (the_key s.keys key.number) ≡ true) s.keys
        (λ row there at is. subst (λ (o : Option InstalledKey). P (unwrap_or o no_key) ≡ true) (sym (row_of s.keys key.number row apart there at)) is) any)
    by_use false free = inl (subst Any (sym (free_keys s key free)) (any_with P s.keys (new_row suite key ∷ []) any))

renewed_barred : (k : Keeping) (key : NewKey) (bytes : List ℕ) → KeysAreApart k.secy.keys → renewal_refusal k.secy key ≡ None → IsBarred k bytes → IsBarred (keeping_renewed key k) bytes
renewed_barred k key bytes apart e (inl given) =
    inl (subst (λ (r : Option Refusal). is_given_up (unless_not_taken r key k) bytes ≡ true) e (stays_given_up k key bytes given))
renewed_barred k key bytes apart e (inr known) = by_case (or_cases (is_repeated k.secy.keys bytes) (is_forgotten k bytes) known)
  where
    print : List ℕ
    print = fingerprint k.salt bytes

    old : InstalledKey
    old = the_key k.secy.keys key.number

    Taken : (InstalledKey → Bool) → Type 0
    Taken P = (list_any P (renewing key k.secy).keys ≡ true) ⊎ ((is_number_used k.secy.keys key.number ≡ true) × (P old ≡ true))

    by_bytes : Taken (has_bytes bytes) → IsBarred (keeping_renewed key k) bytes
    by_bytes (inl has) = inr (known_in k.salt bytes (renewing key k.secy).keys (inl has))
    by_bytes (inr taken) = inl (gives_up_octets k key bytes taken.0 (inl (same_octets_is old.bytes bytes taken.1)))

    by_print : Taken (is_retired_with print) → IsBarred (keeping_renewed key k) bytes
    by_print (inl was) = inr (known_in k.salt bytes (renewing key k.secy).keys (inr was))
    by_print (inr taken) = inl (gives_up_octets k key bytes taken.0 (inr (same_octets_is old.bytes print (and_parts old.retired (same_octets old.bytes print) taken.1).1)))

    by_case : (is_repeated k.secy.keys bytes ≡ true) ⊎ (is_forgotten k bytes ≡ true) → IsBarred (keeping_renewed key k) bytes
    by_case (inl has) = by_bytes (any_renewed (has_bytes bytes) k.secy key apart e has)
    by_case (inr was) = by_print (any_renewed (is_retired_with print) k.secy key apart e was)

-- a key that is taken has octets that are not refused
record IsNewKey (k : Keeping) (key : NewKey) : Type 0 where
  not_given_up : is_given_up k (key_bytes key.bytes) ≡ false
  not_known : is_known k (key_bytes key.bytes) ≡ false
  as_it_is : as_taken k key ≡ key
  fits : renewal_refusal k.secy key ≡ None

is_new_key : (k : Keeping) (key : NewKey) → forgetting_refusal k key ≡ None → IsNewKey k key
is_new_key k key e = by_tests (is_given_up k bytes) (is_known k bytes) refl refl e
  where
    bytes : List ℕ
    bytes = key_bytes key.bytes

    by_tests : (b c : Bool) → is_given_up k bytes ≡ b → is_known k bytes ≡ c → refusal_if b (renewal_refusal k.secy (as_taken k key)) ≡ None → IsNewKey k key
    by_tests true c given known none = cc
    by_tests false true given known none =
        let no : true ≡ false = sym (taken_repeated k key known) ∙ takes_new_octets k.secy (as_taken k key) none in
        cc
    by_tests false false given known none =
        let same : as_taken k key ≡ key = ap (λ (b : Bool). if b then with_fingerprint k.salt key else key) (or_parts (is_repeated k.secy.keys bytes) (is_forgotten k bytes) known).1 in
        record { not_given_up = given; not_known = known; as_it_is = same; fits = subst (λ (q : NewKey). renewal_refusal k.secy q ≡ None) same none }

rows_renewed : (P : Sci → InstalledKey → Type 0) (k : Keeping) (key : NewKey) (octets : List ℕ) → IsNewKey k key → IsSpent P k octets → AreSpent P (keeping_renewed key k).secy octets
rows_renewed P k key octets new it m row is bytes = by_number (m == key.number) refl
  where
    after : State
    after = renewing key k.secy

    by_case : key_row after.keys m ≡ key_row k.secy.keys m → P k.secy.config.sci row ⊎ IsGivenUp k.secy m → P k.secy.config.sci row ⊎ IsGivenUp after m
    by_case same (inl has) = inl has
    by_case same (inr up) = inr (record { retired = ap (λ (o : Option InstalledKey). holds_of (λ (r : InstalledKey). r.retired) o) same ∙ up.retired; unused = up.unused })

    -- the octets of the new key are not barred
    refused : octets ≡ key_bytes key.bytes → IsBarred k octets → ⊥
    refused same (inl given) = absurd (let no : true ≡ false = sym given ∙ ap (is_given_up k) same ∙ new.not_given_up in cc)
    refused same (inr known) = absurd (let no : true ≡ false = sym known ∙ ap (is_known k) same ∙ new.not_known in cc)

    by_number : (b : Bool) → (m == key.number) ≡ b → P k.secy.config.sci row ⊎ IsGivenUp after m
    by_number true at =
        let brought : row.bytes ≡ key_bytes key.bytes = brings_octets k.secy key row new.fits (subst (λ i. key_row after.keys i ≡ Some row) (eqb-true m key.number at) is) in
        absurd (refused (sym bytes ∙ brought) it.barred)
    by_number false at =
        let same : key_row after.keys m ≡ key_row k.secy.keys m =
        subst (λ (t : State). key_row t.keys m ≡ key_row k.secy.keys m) (renewed_state k.secy key (sym new.fits)) (keeps_other_keys k.secy key m (eqb-false m key.number at)) in
        by_case same (it.rows m row (sym same ∙ is) bytes)

spent_renewing : (P : Sci → InstalledKey → Type 0) (k : Keeping) (key : NewKey) (octets : List ℕ) → KeysAreApart k.secy.keys → IsSpent P k octets →
    IsSpent P (forgetting_after_renewing k key) octets
spent_renewing P k key octets apart it = by_refusal (forgetting_refusal k key) refl
  where
    by_refusal : (r : Option Refusal) → forgetting_refusal k key ≡ r → IsSpent P (unless_not_taken r (as_taken k key) k) octets
    by_refusal (Some r) e = it
    by_refusal None e =
        let new = is_new_key k key e in
        subst (λ (q : NewKey). IsSpent P (keeping_renewed q k) octets) (sym new.as_it_is)
        (record { barred = renewed_barred k key octets apart new.fits it.barred; rows = rows_renewed P k key octets new it })

-- ---- every step

pub stays_spent : (P : Sci → InstalledKey → Type 0) → Lasts P → KeyLaws → Laws → (k : Keeping) (input : KeepingInput) (octets : List ℕ) → IsSound k.secy →
    IsSound (renewing_step k input).1.secy → IsSpent P k octets → IsSpent P (renewing_step k input).1 octets
stays_spent P lasts keys laws k (endpoint_input (operator_command (Key key))) octets sound sound' it = spent_renewing P k key octets (keys.keys_apart k.secy sound) it
stays_spent P lasts keys laws k (endpoint_input (operator_command (Retire n))) octets sound sound' it =
    record { barred = barred_stays keys k (retiring n) octets sound it.barred; rows = rows_retiring P keys k n octets it.rows }
stays_spent P lasts keys laws k input octets sound sound' it =
    record { barred = barred_stays keys k input octets sound it.barred; rows = rows_stay P lasts keys laws k input octets sound sound' refl it.rows }
