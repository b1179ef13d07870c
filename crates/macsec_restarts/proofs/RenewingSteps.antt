-- The steps of an endpoint that renews keys, and what they leave of a key: it stays in the table with its octets,
-- unless it is given up.
use Rattle.macsec_aes.specs.Keys.{key_bytes}
use Rattle.macsec_ahead.specs.Renewing.{ahead_after_renewing, unless_refused as unless_not_taken}
use Rattle.macsec_reserve.specs.{
  Forgetting.{as_taken, fingerprint_of, is_forgotten, key_of_fingerprint},
  Renewing.{forgetting_refusal, is_given_up, refusal_if},
}
use Rattle.macsec_restarts.{
  proofs.{
    AheadEnds.retires,
    AheadForgets.by_forgetting,
    Names.{[], ◌&&◌, ◌++◌, ◌==◌, ◌∙◌, ◌∷◌, ◌≡◌, ◌⊎◌, Ahead, ahead_forgetting_step, Answer, ap, Bool, can_replace},
    Names.{client_frame, Command, effect, endpoint_input, eq-eqb, eqb-true, false, forgetting, forgetting_step},
    Names.{frame_fault, FrameFault, if◌then◌else◌, inl, Input, inr, InstalledKey, is_done, IsGivenUp, IsSome},
    Names.{judgement_of, Keeping, keeping_step, KeepingInput, Key, leaves, link_frame, List, map, None, now_durable},
    Names.{operator_command, Option, option_map, Output, received_output, refl, Refusal, refusal, Retire, sending_of},
    Names.{sent_output, Some, State},
    Names.{state_after_receiving, state_after_sending, step, subst, sym, taken, the_key, true, TxRow},
    Names.{uncontrolled_frame, unless_fault, unless_refused, unwrap_or, ℕ},
    Sends.by_keeping,
  },
  specs.RenewingRuns.ahead_renewing_step,
}
use Rattle.macsec_secy.proofs.{
  GivenUp.stays_replaced,
  KeyRenewed.{keeps_other_keys, takes_no_key_in_use},
  KeysKept.{field_kept, same_number, there_after_change},
  OtherOctets.{another, row-map},
}
use Rattle.macsec_secy.specs.Renewing.{renewal_refusal, renewing, unless_not_renewed}
use Rattle.macsec_suite.specs.{
  KeyRows.{at_number, key_row, new_row, no_key, retired_row, row_noting, suite_of},
  Refusals.is_number_used,
  declared.key_row.NewKey.NewKey,
}
use Rattle.macsec_tx.specs.Transmit.{keys_after}

-- ---- the key of a number

pub record StaysKey (keys after : List InstalledKey) (n : ℕ) : Type 0 where
  pub there : IsSome (key_row after n)
  pub bytes : (the_key after n).bytes ≡ (the_key keys n).bytes

still : (keys : List InstalledKey) (n : ℕ) → IsSome (key_row keys n) → StaysKey keys keys n
still keys n there = record { there = there; bytes = refl }

then_same : (keys between after : List InstalledKey) (n : ℕ) → StaysKey keys between n →
    key_row after n ≡ key_row between n → StaysKey keys after n
then_same keys between after n stays same = record {
  there = subst IsSome (sym same) stays.there;
  bytes = ap (λ (o : Option InstalledKey). (unwrap_or o no_key).bytes) same ∙ stays.bytes;
}

-- another key is installed after it
with_more : (keys more : List InstalledKey) (n : ℕ) → IsSome (key_row keys n) →
    key_row (keys ++ more) n ≡ key_row keys n
with_more [] more n there = cc
with_more (key ∷ keys) more n there = by_test (key.number == n) there (with_more keys more n)
  where
    by_test : (b : Bool) → IsSome (if b then Some key else key_row keys n) →
        (IsSome (key_row keys n) → key_row (keys ++ more) n ≡ key_row keys n) →
        (if b then Some key else key_row (keys ++ more) n) ≡ (if b then Some key else key_row keys n)
    by_test true here later = refl
    by_test false here later = later here

-- a change of one key that keeps its number and its octets
changed : (f : InstalledKey → InstalledKey) → ((row : InstalledKey) → (f row).number ≡ row.number) →
    ((row : InstalledKey) → (f row).bytes ≡ row.bytes) → (m : ℕ) (keys : List InstalledKey) (n : ℕ) →
    IsSome (key_row keys n) → StaysKey keys (map (at_number f m) keys) n
changed f number bytes m keys n there = record {
  there = there_after_change (at_number f m) (same_number f number m) keys n there;
  bytes = ap (λ (o : Option InstalledKey). (unwrap_or o no_key).bytes)
      (row-map (at_number f m) (same_number f number m) keys n) ∙ by_row (key_row keys n);
}
  where
    by_row : (o : Option InstalledKey) →
        (unwrap_or (option_map (at_number f m) o) no_key).bytes ≡ (unwrap_or o no_key).bytes
    by_row None = refl
    by_row (Some row) = field_kept (λ (r : InstalledKey). r.bytes) f bytes (row.number == m) row

-- ---- a step of the keeping endpoint

by_effect : (s : State) (c : Command) (n : ℕ) → IsSome (key_row s.keys n) → StaysKey s.keys (effect s c).keys n
by_effect s (Key key) n there =
    let new = new_row (suite_of s.config.suite key) key in
    then_same s.keys s.keys (s.keys ++ new ∷ []) n (still s.keys n there) (with_more s.keys (new ∷ []) n there)
by_effect s (Retire m) n there = changed retired_row (λ row. refl) (λ row. refl) m s.keys n there
by_effect s c n there = still s.keys n there

by_refusal : (s : State) (c : Command) (r : Option Refusal) (n : ℕ) → IsSome (key_row s.keys n) →
    StaysKey s.keys (unless_refused r s c).keys n
by_refusal s c None n there = by_effect s c n there
by_refusal s c (Some r) n there = still s.keys n there

after_sending : (keys : List InstalledKey) (by : Option TxRow) (n : ℕ) → IsSome (key_row keys n) →
    StaysKey keys (keys_after keys by) n
after_sending keys None n there = still keys n there
after_sending keys (Some row) n there = changed (row_noting row.next) (λ r. refl) (λ r. refl) row.key keys n there

by_fault : (s after : State) (output : Output) (f : Option FrameFault) (n : ℕ) → IsSome (key_row s.keys n) →
    StaysKey s.keys after.keys n → StaysKey s.keys (unless_fault f s (output, after)).1.keys n
by_fault s after output None n there stays = stays
by_fault s after output (Some f) n there stays = still s.keys n there

by_step : (s : State) (input : Input) (n : ℕ) → IsSome (key_row s.keys n) → StaysKey s.keys (step s input).1.keys n
by_step s (operator_command c) n there = by_refusal s c (refusal s c) n there
by_step s (client_frame frame) n there =
    by_fault s (state_after_sending s frame (sending_of s frame)) (sent_output frame (sending_of s frame).leaving)
    (frame_fault frame) n there
    (after_sending s.keys (sending_of s frame).by n there)
by_step s (uncontrolled_frame frame) n there =
    by_fault s s (leaves frame None) (frame_fault frame) n there (still s.keys n there)
by_step s (link_frame frame) n there =
    by_fault s (state_after_receiving s frame (judgement_of s frame)) (received_output frame (judgement_of s frame))
    (frame_fault frame) n there
    (still s.keys n there)

pub keys_keeping : (k : Keeping) (input : KeepingInput) (n : ℕ) → IsSome (key_row k.secy.keys n) →
    StaysKey k.secy.keys (keeping_step k input).1.secy.keys n
keys_keeping k (now_durable r) n there = still k.secy.keys n there
keys_keeping k (endpoint_input input) n there = by_keeping (λ s. StaysKey k.secy.keys s.keys n) k input
    (still k.secy.keys n there) (by_step k.secy input n there)

-- ---- a key that is forgotten is given up

abbrev pub StaysOrUp : State → State → ℕ → Type 0
StaysOrUp s after n = IsGivenUp after n ⊎ StaysKey s.keys after.keys n

keys_forgetting : (k : Keeping) (input : KeepingInput) (n : ℕ) → IsSome (key_row k.secy.keys n) →
    StaysOrUp k.secy (forgetting_step k input).1.secy n
keys_forgetting k (endpoint_input (operator_command (Retire m))) n there =
    by_tests (is_done answer.0) (can_replace answer.1.secy.keys m (fingerprint_of answer.1 m)) refl
  where
    answer : Answer
    answer = keeping_step k (endpoint_input (operator_command (Retire m)))

    stays : StaysKey k.secy.keys answer.1.secy.keys n
    stays = keys_keeping k (endpoint_input (operator_command (Retire m))) n there

    by_number : IsGivenUp answer.1.secy m → (b : Bool) → (n == m) ≡ b →
        StaysOrUp k.secy (forgetting answer.1 m).secy n
    by_number up true same = inl (rw (eqb-true n m same)
        (stays_replaced answer.1.secy m m (fingerprint_of answer.1 m) up))
    by_number up false other = inr (then_same k.secy.keys answer.1.secy.keys (forgetting answer.1 m).secy.keys n stays
        (another answer.1.secy.keys m (fingerprint_of answer.1 m) n other))

    by_tests : (done can : Bool) → is_done answer.0 ≡ done →
        StaysOrUp k.secy (if done && can then forgetting answer.1 m else answer.1).secy n
    by_tests true true is = by_number (retires k m is) (n == m) refl
    by_tests true false is = inr stays
    by_tests false can is = inr stays
keys_forgetting k input n there = inr (keys_keeping k (taken k input) n there)

ahead_keys : (a : Ahead) (input : KeepingInput) (n : ℕ) → IsSome (key_row a.k.secy.keys n) →
    StaysOrUp a.k.secy (ahead_forgetting_step a input).1.k.secy n
ahead_keys a input n there = by_forgetting (λ k. StaysOrUp a.k.secy k.secy n) a input
    (inr (still a.k.secy.keys n there)) (keys_forgetting a.k input n there)

-- ---- a new key

-- it has the number that it asks for
taken_number : (k : Keeping) (key : NewKey) → (as_taken k key).number ≡ key.number
taken_number k key = by_test (is_forgotten k (key_bytes key.bytes))
  where
    by_test : (b : Bool) →
        (if b then record key { bytes = key_of_fingerprint k.salt key.bytes } else key).number ≡ key.number
    by_test true = refl
    by_test false = refl

renewal_goes : (given : Bool) (r : Option Refusal) → refusal_if given r ≡ None → r ≡ None
renewal_goes true r is = cc
renewal_goes false r is = is

pub not_refused : (k : Keeping) (key : NewKey) → forgetting_refusal k key ≡ None →
    renewal_refusal k.secy (as_taken k key) ≡ None
not_refused k key is =
    renewal_goes (is_given_up k (key_bytes key.bytes)) (renewal_refusal k.secy (as_taken k key)) is

-- a key in the table is given up, or it has another number
pub up_or_other : (s : State) (key : NewKey) (n : ℕ) → renewal_refusal s key ≡ None → IsSome (key_row s.keys n) →
    IsGivenUp s n ⊎ (n ≡ key.number → ⊥)
up_or_other s key n none there = by_number (n == key.number) refl
  where
    by_law : n ≡ key.number → (is_number_used s.keys key.number ≡ false) ⊎ IsGivenUp s key.number → IsGivenUp s n
    by_law same (inl free) = let used : is_number_used s.keys key.number ≡ true = rw same at there in
        let no : true ≡ false = sym used ∙ free in cc
    by_law same (inr up) = rw same up

    by_number : (b : Bool) → (n == key.number) ≡ b → IsGivenUp s n ⊎ (n ≡ key.number → ⊥)
    by_number true same = inl (by_law (eqb-true n key.number same) (takes_no_key_in_use s key none))
    by_number false other = inr (λ same. let no : true ≡ false = sym (eq-eqb n key.number same) ∙ other in cc)

pub renewed_row : (s : State) (key : NewKey) (n : ℕ) → renewal_refusal s key ≡ None → (n ≡ key.number → ⊥) →
    key_row (renewing key s).keys n ≡ key_row s.keys n
renewed_row s key n none other =
    subst (λ (r : Option Refusal). key_row (unless_not_renewed r key s).keys n ≡ key_row s.keys n) none
    (keeps_other_keys s key n other)

pub rx_renewing : (r : Option Refusal) (key : NewKey) (a : Ahead) → (unless_not_taken r key a).k.secy.rx ≡ a.k.secy.rx
rx_renewing None key a = refl
rx_renewing (Some r) key a = refl

-- the key of a number is given up, or it stays and the new key has another number
pub up_or_stays : (a : Ahead) (key : NewKey) (n : ℕ) → IsSome (key_row a.k.secy.keys n) → forgetting_refusal a.k key ≡
    None → IsGivenUp a.k.secy n ⊎ (n ≡ key.number → ⊥)
up_or_stays a key n there is = by_case (up_or_other a.k.secy (as_taken a.k key) n (not_refused a.k key is) there)
  where
    by_case : IsGivenUp a.k.secy n ⊎ (n ≡ (as_taken a.k key).number → ⊥) → IsGivenUp a.k.secy n ⊎ (n ≡ key.number → ⊥)
    by_case (inl up) = inl up
    by_case (inr other) = inr (λ same. other (same ∙ sym (taken_number a.k key)))

after_key : (a : Ahead) (key : NewKey) (n : ℕ) → IsSome (key_row a.k.secy.keys n) →
    IsGivenUp a.k.secy n ⊎ StaysKey a.k.secy.keys (ahead_after_renewing a key).k.secy.keys n
after_key a key n there = by_answer (forgetting_refusal a.k key) refl
  where
    new : NewKey
    new = as_taken a.k key

    by_case : renewal_refusal a.k.secy new ≡ None → IsGivenUp a.k.secy n ⊎ (n ≡ new.number → ⊥) →
        IsGivenUp a.k.secy n ⊎ StaysKey a.k.secy.keys (renewing new a.k.secy).keys n
    by_case none (inl up) = inl up
    by_case none (inr other) = inr (then_same a.k.secy.keys a.k.secy.keys (renewing new a.k.secy).keys n
        (still a.k.secy.keys n there) (renewed_row a.k.secy new n none other))

    by_answer : (r : Option Refusal) → forgetting_refusal a.k key ≡ r →
        IsGivenUp a.k.secy n ⊎ StaysKey a.k.secy.keys (unless_not_taken r key a).k.secy.keys n
    by_answer (Some r) is = inr (still a.k.secy.keys n there)
    by_answer None is =
        let none = not_refused a.k key is in by_case none (up_or_other a.k.secy new n none there)

-- ---- a step of an endpoint that renews keys

-- it forgets keys; or a key is installed as a renewal; or nothing changes
pub data IsStep (a : Ahead) : Ahead → Type 0 where
  forgets : (input : KeepingInput) → IsStep a (ahead_forgetting_step a input).1
  renews : (key : NewKey) → IsStep a (ahead_after_renewing a key)
  stays : IsStep a a

abbrev pub renewing_is : (a : Ahead) (input : KeepingInput) → IsStep a (ahead_renewing_step a input).1
renewing_is a (endpoint_input (operator_command (Key key))) = renews key
renewing_is a input = forgets input

-- the key is given up before the step or after it, or it stays
abbrev pub StaysUnlessUp : State → State → ℕ → Type 0
StaysUnlessUp s after n = IsGivenUp s n ⊎ StaysOrUp s after n

pub key_step : (a after : Ahead) → IsStep a after → (n : ℕ) → IsSome (key_row a.k.secy.keys n) →
    StaysUnlessUp a.k.secy after.k.secy n
key_step a _ (forgets input) n there = inr (ahead_keys a input n there)
key_step a _ (renews key) n there = by_case (after_key a key n there)
  where
    by_case : IsGivenUp a.k.secy n ⊎ StaysKey a.k.secy.keys (ahead_after_renewing a key).k.secy.keys n →
        StaysUnlessUp a.k.secy (ahead_after_renewing a key).k.secy n
    by_case (inl up) = inl up
    by_case (inr same) = inr (inr same)
key_step a _ stays n there = inr (inr (still a.k.secy.keys n there))
