-- Octets that were installed stay known, and are refused.
use Rattle.std.proofs.lemmas.Bool.{or_cases}
use Rattle.macsec_aes.specs.declared.Key.{Key as KeyOctets, TheVariants.K256}
use Rattle.macsec_suite.specs.{
  Keys.{has_wrong_length, has_wrong_offset},
  Refusals.{first_refusal, is_too_wide, RefusalLine},
  declared.refusal.Refusal.TheVariants.{KeyLength, KeyNumberUsed, KeyRepeated, Offset, Window},
  declared.suite.Suite.TheVariants.{Gcm128, Gcm256, Xpn128, Xpn256},
}
use Rattle.macsec_secy.proofs.SameKey.{field_of_the_key}
use Rattle.macsec_reserve.proofs.{
  Prelude.{[], ◌&&◌, ◌++◌, ◌==◌, ◌||◌, ◌∙◌, ◌∷◌, ◌≡◌, ◌≤◌, ◌⊎◌, and_parts, ap, arith, as_taken, at_number, begins_at},
  Prelude.{behind, Bool, bytes_eq-Decides, can_forget, client_frame, codes, Command, command_output, Contains, done},
  Prelude.{effect, endpoint_input, endpoint_output, eqb-true, false, field_kept, fingerprint, first, forgetting},
  Prelude.{forgetting_step, frame_fault, FrameFault, has_retired, holds_of, if◌then◌else◌, inl, Input, inr},
  Prelude.{InstalledKey, installing, installs_retired, is_below_floor, is_done, is_done_output, is_forgotten},
  Prelude.{is_number_used, is_repeated, is_retired, IsSound, judgement_of, K128, Keeping, keeping_step, KeepingInput},
  Prelude.{KeepingOutput, Key, key_bytes, key_length, key_of_fingerprint, key_row, keys_after, KeysAreApart, leaves},
  Prelude.{length, length-sha256, length-take-le, link_frame, List, list_any, map, may_go, new_row, NewKey, no_key},
  Prelude.{None, none_hold, not, now_durable, octets_same, operator_command, Option, or_parts, Output, received_output},
  Prelude.{refl, Refusal, refusal, refused, Retire, retire_refusals, retired_row, row_noting, same_number, same_octets},
  Prelude.{sending_name, sending_of, sent_output, Some, State, state_after_receiving, state_after_sending, step, subst},
  Prelude.{Suite, suite_of, sym, the_key, true, true_from_not, TxRow, uncontrolled_frame, unless_fault, unless_refused},
  Prelude.{unwrap_or, uses, was_reserved, with_bytes, with_key, with_step, ℕ},
  Replaced.KeyLaws,
  Steps.{by_tests, salt_stays},
}
use Rattle.macsec_reserve.specs.{
  Forgetting.taken,
  Forgotten.{BecomesKnown, IsAsBefore, RefusesKnown, StaysKnown, is_known},
}

-- ---- commands that no floor stops

and_false : (b : Bool) → b && false ≡ false
and_false true = refl
and_false false = refl

pub or_true : (b : Bool) → b || true ≡ true
or_true true = refl
or_true false = refl

-- it takes the machine's step
pub command_step : (k : Keeping) (c : Command) → begins_at k.salt k.secy c ≡ None →
    keeping_step k (endpoint_input (operator_command c)) ≡ with_step k (step k.secy (operator_command c))
command_step k c none =
    ap (λ b. by_tests b (may_go k (operator_command c)) k (step k.secy (operator_command c)))
    (ap (λ (o : Option (List ℕ × ℕ)). k.keeps && was_reserved k.before o) none ∙ and_false k.keeps)
    ∙ ap (λ b. by_tests false b k (step k.secy (operator_command c))) (or_true (not k.keeps))

-- ---- repeated keys

abbrev lines : Bool → Bool → Bool → Bool → Bool → List RefusalLine
lines long off used repeated wide = (KeyLength, long) ∷ (Offset, off) ∷ (KeyNumberUsed, used) ∷ (KeyRepeated, repeated) ∷ (Window, wide) ∷ []

abbrev lines_of : State → NewKey → Bool → List RefusalLine
lines_of s key repeated =
    let suite = suite_of s.config.suite key in
    lines (has_wrong_length suite key.bytes) (has_wrong_offset suite key.offset) (is_number_used s.keys key.number) repeated (is_too_wide suite s.options.window)

-- it changes nothing
unchanged : (s : State) (c : Command) (long off used wide : Bool) → unless_refused (first_refusal (lines long off used true wide)) s c ≡ s
unchanged s c true off used wide = refl
unchanged s c false true used wide = refl
unchanged s c false false true wide = refl
unchanged s c false false false wide = refl

repeated_unchanged : (k : Keeping) (key : NewKey) → is_repeated k.secy.keys (key_bytes key.bytes) ≡ true → (keeping_step k (installing key)).1 ≡ k
repeated_unchanged k key repeated =
    let suite = suite_of k.secy.config.suite key in
    ap (λ (a : KeepingOutput × Keeping). a.1) (command_step k (Key key) refl)
    ∙ ap (λ (b : Bool). record k { secy = unless_refused (first_refusal (lines_of k.secy key b)) k.secy (Key key) }) repeated
    ∙ ap (λ (s : State). record k { secy = s })
    (unchanged k.secy (Key key) (has_wrong_length suite key.bytes) (has_wrong_offset suite key.offset) (is_number_used k.secy.keys key.number) (is_too_wide suite k.secy.options.window))

repeated_refused : (k : Keeping) (key : NewKey) → is_repeated k.secy.keys (key_bytes key.bytes) ≡ true → has_wrong_length (suite_of k.secy.config.suite key) key.bytes ≡ false →
    has_wrong_offset (suite_of k.secy.config.suite key) key.offset ≡ false → is_number_used k.secy.keys key.number ≡ false →
    keeping_step k (installing key) ≡ (endpoint_output (refused KeyRepeated), k)
repeated_refused k key repeated long off used =
    let suite = suite_of k.secy.config.suite key in
    let wide = is_too_wide suite k.secy.options.window in
    let why : refusal k.secy (Key key) ≡ Some KeyRepeated =
    ap (λ b. first_refusal (lines_of k.secy key b)) repeated
    ∙ ap (λ b. first_refusal (lines b (has_wrong_offset suite key.offset) (is_number_used k.secy.keys key.number) true wide)) long
    ∙ ap (λ b. first_refusal (lines false b (is_number_used k.secy.keys key.number) true wide)) off
    ∙ ap (λ b. first_refusal (lines false false b true wide)) used in
    command_step k (Key key) refl
    ∙ ap (λ (r : Option Refusal). with_step k (command_output r, unless_refused r k.secy (Key key))) why

-- ---- keys that were forgotten

retired_repeated : (keys : List InstalledKey) (bytes : List ℕ) → has_retired keys bytes ≡ true → is_repeated keys bytes ≡ true
retired_repeated [] bytes has = cc
retired_repeated (row ∷ rows) bytes has = by_case (or_cases (row.retired && same_octets row.bytes bytes) (has_retired rows bytes) has) (retired_repeated rows bytes)
  where
    by_case : ((row.retired && same_octets row.bytes bytes) ≡ true) ⊎ (has_retired rows bytes ≡ true) → (has_retired rows bytes ≡ true → is_repeated rows bytes ≡ true) →
        (same_octets row.bytes bytes || is_repeated rows bytes) ≡ true
    by_case (inl here) later = ap (λ b. b || is_repeated rows bytes) (and_parts row.retired (same_octets row.bytes bytes) here).1
    by_case (inr there) later = ap (λ b. same_octets row.bytes bytes || b) (later there) ∙ or_true (same_octets row.bytes bytes)

pub bytes_of_fingerprint : (salt : List ℕ) (key : KeyOctets) → key_bytes (key_of_fingerprint salt key) ≡ fingerprint salt (key_bytes key)
bytes_of_fingerprint salt (K128 bytes) = refl
bytes_of_fingerprint salt (K256 bytes) = refl

abbrev pub with_fingerprint : List ℕ → NewKey → NewKey
with_fingerprint salt key = record key { bytes = key_of_fingerprint salt key.bytes }

forgotten_repeated : (k : Keeping) (key : NewKey) → is_forgotten k (key_bytes key.bytes) ≡ true → is_repeated k.secy.keys (key_bytes (with_fingerprint k.salt key).bytes) ≡ true
forgotten_repeated k key was =
    ap (λ bytes. is_repeated k.secy.keys bytes) (bytes_of_fingerprint k.salt key.bytes) ∙ retired_repeated k.secy.keys (fingerprint k.salt (key_bytes key.bytes)) was

-- the octets that are taken are in the table
pub taken_repeated : (k : Keeping) (key : NewKey) → is_known k (key_bytes key.bytes) ≡ true → is_repeated k.secy.keys (key_bytes (as_taken k key).bytes) ≡ true
taken_repeated k key known = by_test (is_forgotten k (key_bytes key.bytes)) refl known
  where
    by_test : (b : Bool) → is_forgotten k (key_bytes key.bytes) ≡ b → (is_repeated k.secy.keys (key_bytes key.bytes) || b) ≡ true →
        is_repeated k.secy.keys (key_bytes (if b then with_fingerprint k.salt key else key).bytes) ≡ true
    by_test true was known' = forgotten_repeated k key was
    by_test false was known' = by_case (or_cases (is_repeated k.secy.keys (key_bytes key.bytes)) false known')
      where
        by_case : (is_repeated k.secy.keys (key_bytes key.bytes) ≡ true) ⊎ (false ≡ true) → is_repeated k.secy.keys (key_bytes key.bytes) ≡ true
        by_case (inl is) = is
        by_case (inr is) = cc

-- ---- an installation of octets that a retired key has, or whose fingerprint it has

retired_known : (k : Keeping) (key : NewKey) → installs_retired k (installing key) ≡ true → is_known k (key_bytes key.bytes) ≡ true
retired_known k key is = by_case (or_cases (has_retired k.secy.keys (key_bytes key.bytes)) (is_forgotten k (key_bytes key.bytes)) is)
  where
    by_case : (has_retired k.secy.keys (key_bytes key.bytes) ≡ true) ⊎ (is_forgotten k (key_bytes key.bytes) ≡ true) → is_known k (key_bytes key.bytes) ≡ true
    by_case (inl has) = ap (λ b. b || is_forgotten k (key_bytes key.bytes)) (retired_repeated k.secy.keys (key_bytes key.bytes) has)
    by_case (inr was) = ap (λ b. is_repeated k.secy.keys (key_bytes key.bytes) || b) was ∙ or_true (is_repeated k.secy.keys (key_bytes key.bytes))

pub retired_unchanged : (k : Keeping) (input : KeepingInput) → installs_retired k input ≡ true → (forgetting_step k input).1 ≡ k
retired_unchanged k (endpoint_input (operator_command (Key key))) is = repeated_unchanged k (as_taken k key) (taken_repeated k key (retired_known k key is))
retired_unchanged k input is = cc

-- ---- the same length

length_below : (suite : Suite) → key_length suite ≤ 32
length_below Gcm128 = omega arith
length_below Gcm256 = omega arith
length_below Xpn128 = omega arith
length_below Xpn256 = omega arith

fingerprint_long : (salt bytes : List ℕ) → length bytes ≤ 32 → length (fingerprint salt bytes) ≡ length bytes
fingerprint_long salt bytes most = length-take-le (length bytes) (sending_name salt bytes) (let long : length (sending_name salt bytes) ≡ 32 = length-sha256 (codes "macsec reserve: sending" ++ salt ++ bytes) in omega (arith, long, most))

right_length : (suite : Suite) (salt : List ℕ) (key : KeyOctets) → has_wrong_length suite key ≡ false → has_wrong_length suite (key_of_fingerprint salt key) ≡ false
right_length suite salt key right =
    let long : length (key_bytes key) ≡ key_length suite =
    eqb-true (length (key_bytes key)) (key_length suite) (true_from_not (length (key_bytes key) == key_length suite) right) in
    let same : length (key_bytes (key_of_fingerprint salt key)) ≡ length (key_bytes key) =
    ap length (bytes_of_fingerprint salt key) ∙ fingerprint_long salt (key_bytes key) (omega (arith, long, length_below suite)) in
    ap (λ n. not (n == key_length suite)) same ∙ right

-- ---- known octets are refused

pub refuses_known : (k : Keeping) (key : NewKey) → RefusesKnown k key
refuses_known k key known long off used = by_test (is_forgotten k (key_bytes key.bytes)) refl
  where
    by_test : (b : Bool) → is_forgotten k (key_bytes key.bytes) ≡ b →
        keeping_step k (installing (if b then with_fingerprint k.salt key else key)) ≡ (endpoint_output (refused KeyRepeated), k)
    by_test true was =
        repeated_refused k (with_fingerprint k.salt key) (forgotten_repeated k key was) (right_length (suite_of k.secy.config.suite key) k.salt key.bytes long) off used
    by_test false was =
        let repeated : is_repeated k.secy.keys (key_bytes key.bytes) ≡ true =
        by_case (or_cases (is_repeated k.secy.keys (key_bytes key.bytes)) (is_forgotten k (key_bytes key.bytes)) known) in
        repeated_refused k key repeated long off used
      where
        by_case : (is_repeated k.secy.keys (key_bytes key.bytes) ≡ true) ⊎ (is_forgotten k (key_bytes key.bytes) ≡ true) → is_repeated k.secy.keys (key_bytes key.bytes) ≡ true
        by_case (inl is) = is
        by_case (inr is) = absurd (let no : true ≡ false = sym is ∙ was in cc)

-- ---- as before

pub is_as_before : (k : Keeping) (input : KeepingInput) → IsAsBefore k input
is_as_before k (endpoint_input (operator_command (Key key))) none new =
    ap (λ (b : Bool). keeping_step k (installing (if b then with_fingerprint k.salt key else key)))
    (or_parts (has_retired k.secy.keys (key_bytes key.bytes)) (is_forgotten k (key_bytes key.bytes)) new).1
is_as_before k (endpoint_input (operator_command (Retire n))) none new = cc
is_as_before k input none new = refl

-- ---- an installation that is done

no_refusal : (r : Option Refusal) → command_output r ≡ done → r ≡ None
no_refusal None is = refl
no_refusal (Some r) is = cc

with_another : (keys : List InstalledKey) (new : InstalledKey) → is_repeated (keys ++ new ∷ []) new.bytes ≡ true
with_another [] new = ap (λ b. b || false) (octets_same new.bytes)
with_another (row ∷ rows) new = ap (λ b. same_octets row.bytes new.bytes || b) (with_another rows new) ∙ or_true (same_octets row.bytes new.bytes)

newly_repeated : (s : State) (key : NewKey) (r : Option Refusal) → command_output r ≡ done → is_repeated (unless_refused r s (Key key)).keys (key_bytes key.bytes) ≡ true
newly_repeated s key None is = with_another s.keys (new_row (suite_of s.config.suite key) key)
newly_repeated s key (Some r) is = cc

endpoint_only : (x y : Output) → endpoint_output x ≡ endpoint_output y → x ≡ y
endpoint_only x y is = cc

pub becomes_known : (k : Keeping) (key : NewKey) → BecomesKnown k key
becomes_known k key is = by_test (is_forgotten k (key_bytes key.bytes)) refl is
  where
    by_test : (b : Bool) → is_forgotten k (key_bytes key.bytes) ≡ b → (keeping_step k (installing (if b then with_fingerprint k.salt key else key))).0 ≡ endpoint_output done →
        is_known (keeping_step k (installing (if b then with_fingerprint k.salt key else key))).1 (key_bytes key.bytes) ≡ true
    by_test true was done' =
        let same : (keeping_step k (installing (with_fingerprint k.salt key))).1 ≡ k = repeated_unchanged k (with_fingerprint k.salt key) (forgotten_repeated k key was) in
        subst (λ (x : Keeping). is_known x (key_bytes key.bytes) ≡ true) (sym same)
        (ap (λ b. is_repeated k.secy.keys (key_bytes key.bytes) || b) was ∙ or_true (is_repeated k.secy.keys (key_bytes key.bytes)))
    by_test false was done' =
        let whole = command_step k (Key key) refl in
        let none : command_output (refusal k.secy (Key key)) ≡ done =
        endpoint_only (command_output (refusal k.secy (Key key))) done (ap (λ (a : KeepingOutput × Keeping). a.0) (sym whole) ∙ done') in
        subst (λ (a : KeepingOutput × Keeping). is_known a.1 (key_bytes key.bytes) ≡ true) (sym whole)
        (ap (λ b. b || is_forgotten (with_step k (step k.secy (operator_command (Key key)))).1 (key_bytes key.bytes)) (newly_repeated k.secy key (refusal k.secy (Key key)) none))

-- ---- what a step leaves in the table

-- a test of a row that neither noting nor retiring makes fail
record StaysTrue (P : InstalledKey → Bool) : Type 0 where
  noting : (pn : ℕ) (row : InstalledKey) → P row ≡ true → P (row_noting pn row) ≡ true
  retiring : (row : InstalledKey) → P row ≡ true → P (retired_row row) ≡ true

any_changed : (P : InstalledKey → Bool) (change : InstalledKey → InstalledKey) → ((row : InstalledKey) → P row ≡ true → P (change row) ≡ true) → (n : ℕ) (keys : List InstalledKey) →
    list_any P keys ≡ true → list_any P (with_key change n keys) ≡ true
any_changed P change stays n [] any = cc
any_changed P change stays n (row ∷ rows) any = by_case (or_cases (P row) (list_any P rows) any) (any_changed P change stays n rows)
  where
    by_test : (b : Bool) → P row ≡ true → P (if b then change row else row) ≡ true
    by_test true is = stays row is
    by_test false is = is

    by_case : (P row ≡ true) ⊎ (list_any P rows ≡ true) → (list_any P rows ≡ true → list_any P (with_key change n rows) ≡ true) → (P (at_number change n row) || list_any P (with_key change n rows)) ≡ true
    by_case (inl here) later = ap (λ b. b || list_any P (with_key change n rows)) (by_test (row.number == n) here)
    by_case (inr there) later = ap (λ b. P (at_number change n row) || b) (later there) ∙ or_true (P (at_number change n row))

pub any_with : (P : InstalledKey → Bool) (keys more : List InstalledKey) → list_any P keys ≡ true → list_any P (keys ++ more) ≡ true
any_with P [] more any = cc
any_with P (row ∷ rows) more any = by_case (or_cases (P row) (list_any P rows) any) (any_with P rows more)
  where
    by_case : (P row ≡ true) ⊎ (list_any P rows ≡ true) → (list_any P rows ≡ true → list_any P (rows ++ more) ≡ true) → (P row || list_any P (rows ++ more)) ≡ true
    by_case (inl here) later = ap (λ b. b || list_any P (rows ++ more)) here
    by_case (inr there) later = ap (λ b. P row || b) (later there) ∙ or_true (P row)

effect_leaves : (P : InstalledKey → Bool) → StaysTrue P → (s : State) (c : Command) → list_any P s.keys ≡ true → list_any P (effect s c).keys ≡ true
effect_leaves P stays s (Key key) any = any_with P s.keys (new_row (suite_of s.config.suite key) key ∷ []) any
effect_leaves P stays s (Retire n) any = any_changed P retired_row stays.retiring n s.keys any
effect_leaves P stays s c any = any

command_leaves : (P : InstalledKey → Bool) → StaysTrue P → (s : State) (c : Command) (r : Option Refusal) → list_any P s.keys ≡ true → list_any P (unless_refused r s c).keys ≡ true
command_leaves P stays s c None any = effect_leaves P stays s c any
command_leaves P stays s c (Some r) any = any

sending_leaves : (P : InstalledKey → Bool) → StaysTrue P → (keys : List InstalledKey) (by : Option TxRow) → list_any P keys ≡ true → list_any P (keys_after keys by) ≡ true
sending_leaves P stays keys None any = any
sending_leaves P stays keys (Some row) any = any_changed P (row_noting row.next) (stays.noting row.next) row.key keys any

frame_leaves : (P : InstalledKey → Bool) (s after : State) (output : Output) (f : Option FrameFault) → list_any P s.keys ≡ true → list_any P after.keys ≡ true →
    list_any P (unless_fault f s (output, after)).1.keys ≡ true
frame_leaves P s after output None any then' = then'
frame_leaves P s after output (Some f) any then' = any

step_leaves : (P : InstalledKey → Bool) → StaysTrue P → (s : State) (input : Input) → list_any P s.keys ≡ true → list_any P (step s input).1.keys ≡ true
step_leaves P stays s (operator_command c) any = command_leaves P stays s c (refusal s c) any
step_leaves P stays s (client_frame frame) any =
    frame_leaves P s (state_after_sending s frame (sending_of s frame)) (sent_output frame (sending_of s frame).leaving) (frame_fault frame) any (sending_leaves P stays s.keys (sending_of s frame).by any)
step_leaves P stays s (uncontrolled_frame frame) any = frame_leaves P s s (leaves frame None) (frame_fault frame) any any
step_leaves P stays s (link_frame frame) any =
    frame_leaves P s (state_after_receiving s frame (judgement_of s frame)) (received_output frame (judgement_of s frame)) (frame_fault frame) any any

tests_leave : (P : InstalledKey → Bool) (below go : Bool) (k : Keeping) (a : Output × State) → list_any P k.secy.keys ≡ true → list_any P a.1.keys ≡ true →
    list_any P (by_tests below go k a).1.secy.keys ≡ true
tests_leave P true go k a any then' = any
tests_leave P false true k a any then' = then'
tests_leave P false false k a any then' = any

keeping_leaves : (P : InstalledKey → Bool) → StaysTrue P → (k : Keeping) (input : KeepingInput) → list_any P k.secy.keys ≡ true → list_any P (keeping_step k input).1.secy.keys ≡ true
keeping_leaves P stays k (now_durable r) any = any
keeping_leaves P stays k (endpoint_input input) any =
    tests_leave P (is_below_floor k input) (may_go k input) k (step k.secy input) any (step_leaves P stays k.secy input any)

-- ---- what is known

abbrev pub has_bytes : List ℕ → InstalledKey → Bool
has_bytes bytes row = same_octets row.bytes bytes

abbrev pub is_retired_with : List ℕ → InstalledKey → Bool
is_retired_with bytes row = row.retired && same_octets row.bytes bytes

has_stays : (bytes : List ℕ) → StaysTrue (has_bytes bytes)
has_stays bytes = record { noting = λ pn row is. is; retiring = λ row is. is }

retired_stays : (bytes : List ℕ) → StaysTrue (is_retired_with bytes)
retired_stays bytes = record { noting = λ pn row is. is; retiring = λ row is. (and_parts row.retired (same_octets row.bytes bytes) is).1 }

-- octets that are known in a table, at this salt
abbrev pub KnownIn : List ℕ → List ℕ → List InstalledKey → Type 0
KnownIn salt bytes keys = (is_repeated keys bytes || has_retired keys (fingerprint salt bytes)) ≡ true

pub known_in : (salt bytes : List ℕ) (keys : List InstalledKey) → (is_repeated keys bytes ≡ true) ⊎ (has_retired keys (fingerprint salt bytes) ≡ true) → KnownIn salt bytes keys
known_in salt bytes keys (inl has) = ap (λ b. b || has_retired keys (fingerprint salt bytes)) has
known_in salt bytes keys (inr was) = ap (λ b. is_repeated keys bytes || b) was ∙ or_true (is_repeated keys bytes)

keeping_knows : (k : Keeping) (input : KeepingInput) (bytes : List ℕ) → is_known k bytes ≡ true → is_known (keeping_step k input).1 bytes ≡ true
keeping_knows k input bytes known =
    subst (λ (salt : List ℕ). KnownIn salt bytes (keeping_step k input).1.secy.keys) (sym (salt_stays k input))
    (known_in k.salt bytes (keeping_step k input).1.secy.keys (by_case (or_cases (is_repeated k.secy.keys bytes) (is_forgotten k bytes) known)))
  where
    by_case : (is_repeated k.secy.keys bytes ≡ true) ⊎ (is_forgotten k bytes ≡ true) →
        (is_repeated (keeping_step k input).1.secy.keys bytes ≡ true) ⊎ (has_retired (keeping_step k input).1.secy.keys (fingerprint k.salt bytes) ≡ true)
    by_case (inl has) = inl (keeping_leaves (has_bytes bytes) (has_stays bytes) k input has)
    by_case (inr was) = inr (keeping_leaves (is_retired_with (fingerprint k.salt bytes)) (retired_stays (fingerprint k.salt bytes)) k input was)

-- ---- a key is forgotten

either : (P Q R : InstalledKey → Bool) (f g : InstalledKey → InstalledKey) (keys : List InstalledKey) →
    ((x : InstalledKey) → Contains keys x → P x ≡ true → (Q (f (g x)) ≡ true) ⊎ (R (f (g x)) ≡ true)) → list_any P keys ≡ true →
    (list_any Q (map f (map g keys)) ≡ true) ⊎ (list_any R (map f (map g keys)) ≡ true)
either P Q R f g [] each any = cc
either P Q R f g (row ∷ rows) each any =
    by_case (or_cases (P row) (list_any P rows) any) (each row (first row rows)) (either P Q R f g rows (λ x there. each x (behind row rows x there)))
  where
    here : (Q (f (g row)) ≡ true) ⊎ (R (f (g row)) ≡ true) → (list_any Q (map f (map g (row ∷ rows))) ≡ true) ⊎ (list_any R (map f (map g (row ∷ rows))) ≡ true)
    here (inl q) = inl (ap (λ b. b || list_any Q (map f (map g rows))) q)
    here (inr r) = inr (ap (λ b. b || list_any R (map f (map g rows))) r)

    there : (list_any Q (map f (map g rows)) ≡ true) ⊎ (list_any R (map f (map g rows)) ≡ true) →
        (list_any Q (map f (map g (row ∷ rows))) ≡ true) ⊎ (list_any R (map f (map g (row ∷ rows))) ≡ true)
    there (inl q) = inl (ap (λ b. Q (f (g row)) || b) q ∙ or_true (Q (f (g row))))
    there (inr r) = inr (ap (λ b. R (f (g row)) || b) r ∙ or_true (R (f (g row))))

    by_case : (P row ≡ true) ⊎ (list_any P rows ≡ true) → (P row ≡ true → (Q (f (g row)) ≡ true) ⊎ (R (f (g row)) ≡ true)) →
        (list_any P rows ≡ true → (list_any Q (map f (map g rows)) ≡ true) ⊎ (list_any R (map f (map g rows)) ≡ true)) →
        (list_any Q (map f (map g (row ∷ rows))) ≡ true) ⊎ (list_any R (map f (map g (row ∷ rows))) ≡ true)
    by_case (inl is) own later = here (own is)
    by_case (inr is) own later = there (later is)

at_true : (change : InstalledKey → InstalledKey) (n : ℕ) (row : InstalledKey) → (row.number == n) ≡ true → at_number change n row ≡ change row
at_true change n row at = ap (λ (b : Bool). if b then change row else row) at

at_false : (change : InstalledKey → InstalledKey) (n : ℕ) (row : InstalledKey) → (row.number == n) ≡ false → at_number change n row ≡ row
at_false change n row at = ap (λ (b : Bool). if b then change row else row) at

-- the row is retired and then has other octets, or stays as it is
forgotten_row : (octets : List ℕ) (n : ℕ) (row : InstalledKey) → (row.number == n) ≡ true →
    at_number (with_bytes octets) n (at_number retired_row n row) ≡ with_bytes octets (retired_row row)
forgotten_row octets n row at = ap (at_number (with_bytes octets) n) (at_true retired_row n row at) ∙ at_true (with_bytes octets) n (retired_row row) at

kept_row : (octets : List ℕ) (n : ℕ) (row : InstalledKey) → (row.number == n) ≡ false → at_number (with_bytes octets) n (at_number retired_row n row) ≡ row
kept_row octets n row at = ap (at_number (with_bytes octets) n) (at_false retired_row n row at) ∙ at_false (with_bytes octets) n row at

-- the row of a number, in a table whose keys are apart
pub row_of : (keys : List InstalledKey) (n : ℕ) (x : InstalledKey) → KeysAreApart keys → Contains keys x → (x.number == n) ≡ true → key_row keys n ≡ Some x
row_of keys n x apart there at = subst (λ m. key_row keys m ≡ Some x) (eqb-true x.number n at) (apart.by_number x there)

pub same_octets_is : (x y : List ℕ) → same_octets x y ≡ true → x ≡ y
same_octets_is x y is = (bytes_eq-Decides x y).0 is

-- the octets of a key that is retired and then forgotten, and the table after it
abbrev octets_after : List ℕ → List InstalledKey → ℕ → List ℕ
octets_after salt keys n = fingerprint salt (the_key (with_key retired_row n keys) n).bytes

abbrev keys_forgotten : List ℕ → List InstalledKey → ℕ → List InstalledKey
keys_forgotten salt keys n = with_key (with_bytes (octets_after salt keys n)) n (with_key retired_row n keys)

abbrev row_after : List ℕ → List InstalledKey → ℕ → InstalledKey → InstalledKey
row_after salt keys n row = at_number (with_bytes (octets_after salt keys n)) n (at_number retired_row n row)

abbrev Known : List ℕ → List ℕ → InstalledKey → Type 0
Known salt bytes row = (has_bytes bytes row ≡ true) ⊎ (is_retired_with (fingerprint salt bytes) row ≡ true)

octets_kept : (salt : List ℕ) (keys : List InstalledKey) (n : ℕ) (x : InstalledKey) → key_row keys n ≡ Some x → (the_key (with_key retired_row n keys) n).bytes ≡ x.bytes
octets_kept salt keys n x is =
    field_of_the_key (λ (row : InstalledKey). row.bytes) (at_number retired_row n) (same_number retired_row (λ row. refl) n)
    (λ row. field_kept (λ (r : InstalledKey). r.bytes) retired_row (λ r. refl) (row.number == n) row) keys n
    ∙ ap (λ (o : Option InstalledKey). (unwrap_or o no_key).bytes) is

known_forgotten : (salt : List ℕ) (keys : List InstalledKey) (n : ℕ) (bytes : List ℕ) → KeysAreApart keys → is_retired keys n ≡ false → KnownIn salt bytes keys →
    KnownIn salt bytes (keys_forgotten salt keys n)
known_forgotten salt keys n bytes apart free known =
    known_in salt bytes (keys_forgotten salt keys n) (by_case (or_cases (is_repeated keys bytes) (has_retired keys (fingerprint salt bytes)) known))
  where
    its_fingerprint : (x : InstalledKey) → Contains keys x → (x.number == n) ≡ true → has_bytes bytes x ≡ true → is_retired_with (fingerprint salt bytes) (with_bytes (octets_after salt keys n) (retired_row x)) ≡ true
    its_fingerprint x there at is =
        let same : octets_after salt keys n ≡ fingerprint salt bytes =
        ap (λ b. fingerprint salt b) (octets_kept salt keys n x (row_of keys n x apart there at) ∙ same_octets_is x.bytes bytes is) in
        ap (λ b. same_octets b (fingerprint salt bytes)) same ∙ octets_same (fingerprint salt bytes)

    of_bytes : (x : InstalledKey) → Contains keys x → (b : Bool) → (x.number == n) ≡ b → has_bytes bytes x ≡ true → Known salt bytes (row_after salt keys n x)
    of_bytes x there true at is = subst (Known salt bytes) (sym (forgotten_row (octets_after salt keys n) n x at)) (inr (its_fingerprint x there at is))
    of_bytes x there false at is = subst (Known salt bytes) (sym (kept_row (octets_after salt keys n) n x at)) (inl is)

    of_fingerprint : (x : InstalledKey) → Contains keys x → (b : Bool) → (x.number == n) ≡ b → is_retired_with (fingerprint salt bytes) x ≡ true → Known salt bytes (row_after salt keys n x)
    of_fingerprint x there true at is =
        let own : is_retired keys n ≡ x.retired = ap (λ (o : Option InstalledKey). holds_of (λ (row : InstalledKey). row.retired) o) (row_of keys n x apart there at) in
        let no : true ≡ false = sym ((and_parts x.retired (same_octets x.bytes (fingerprint salt bytes)) is).0) ∙ sym own ∙ free in
        cc
    of_fingerprint x there false at is = subst (Known salt bytes) (sym (kept_row (octets_after salt keys n) n x at)) (inr is)

    by_case : (is_repeated keys bytes ≡ true) ⊎ (has_retired keys (fingerprint salt bytes) ≡ true) →
        (is_repeated (keys_forgotten salt keys n) bytes ≡ true) ⊎ (has_retired (keys_forgotten salt keys n) (fingerprint salt bytes) ≡ true)
    by_case (inl has) =
        either (has_bytes bytes) (has_bytes bytes) (is_retired_with (fingerprint salt bytes)) (at_number (with_bytes (octets_after salt keys n)) n) (at_number retired_row n) keys
        (λ x there is. of_bytes x there (x.number == n) refl is) has
    by_case (inr was) =
        either (is_retired_with (fingerprint salt bytes)) (has_bytes bytes) (is_retired_with (fingerprint salt bytes)) (at_number (with_bytes (octets_after salt keys n)) n) (at_number retired_row n) keys
        (λ x there is. of_fingerprint x there (x.number == n) refl is) was

-- ---- every input

abbrev pub retiring : ℕ → KeepingInput
retiring n = endpoint_input (operator_command (Retire n))

pub none_refuses : (r : Option Refusal) → is_done_output (command_output r) ≡ true → r ≡ None
none_refuses None is = refl
none_refuses (Some r) is = cc

forgetting_knows : KeyLaws → (k : Keeping) (n : ℕ) (bytes : List ℕ) → IsSound k.secy → is_known k bytes ≡ true → is_done (keeping_step k (retiring n)).0 ≡ true →
    is_known (forgetting (keeping_step k (retiring n)).1 n) bytes ≡ true
forgetting_knows laws k n bytes sound known is =
    let whole = command_step k (Retire n) refl in
    let none : refusal k.secy (Retire n) ≡ None = none_refuses (refusal k.secy (Retire n)) (ap (λ (a : KeepingOutput × Keeping). is_done a.0) (sym whole) ∙ is) in
    let free : is_retired k.secy.keys n ≡ false = (none_hold (retire_refusals k.secy.keys n (uses k.secy n)) none).1.0 in
    let done' : keeping_step k (retiring n) ≡ with_step k (done, effect k.secy (Retire n)) =
    whole ∙ ap (λ (r : Option Refusal). with_step k (command_output r, unless_refused r k.secy (Retire n))) none in
    subst (λ (a : KeepingOutput × Keeping). is_known (forgetting a.1 n) bytes ≡ true) (sym done')
    (known_forgotten k.salt k.secy.keys n bytes (laws.keys_apart k.secy sound) free known)

-- whether it is forgotten or not
then_knows : KeyLaws → (k : Keeping) (n : ℕ) (bytes : List ℕ) → IsSound k.secy → is_known k bytes ≡ true → (b : Bool) → is_done (keeping_step k (retiring n)).0 ≡ b → (c : Bool) →
    is_known (if b && c then forgetting (keeping_step k (retiring n)).1 n else (keeping_step k (retiring n)).1) bytes ≡ true
then_knows laws k n bytes sound known true is true = forgetting_knows laws k n bytes sound known is
then_knows laws k n bytes sound known true is false = keeping_knows k (retiring n) bytes known
then_knows laws k n bytes sound known false is c = keeping_knows k (retiring n) bytes known

pub stays_known : KeyLaws → (k : Keeping) (input : KeepingInput) (bytes : List ℕ) → StaysKnown k input bytes
stays_known laws k (endpoint_input (operator_command (Retire n))) bytes sound known =
    then_knows laws k n bytes sound known (is_done (keeping_step k (retiring n)).0) refl (can_forget (keeping_step k (retiring n)).1 n)
stays_known laws k input bytes sound known = keeping_knows k (taken k input) bytes known
