-- What a step of a keeping endpoint keeps.
use Rattle.macsec_reserve.proofs.{
  Prelude.{[], ◌||◌, ◌∙◌, ◌∷◌, ◌≡◌, ◌≤◌, ap, arith, Bool, dropped_no_reservation, endpoint_input, endpoint_output},
  Prelude.{false, for_each_key, highest, if◌then◌else◌, is_below_floor, IsSound, Keeping, keeping_after, keeping_step},
  Prelude.{KeepingInput, KeepingOutput, KeysStay, link_frame, List, max, may_go, not, now_durable, Output, PnFloor},
  Prelude.{refl, refused, reported_in, State, step, true, with_step, ℕ},
  EndpointLaws.Laws,
  HighestOf.highest-append,
  KeyEntries.{for_each_key_reserves, raised_reserves},
}

-- ---- keys

pub stays_itself : (s : State) → KeysStay s s
stays_itself s = record {
  config = refl;
  keys = λ key there. record {
    later = key;
    there = there;
    is_later = record {
      number = refl;
      suite = refl;
      bytes = refl;
      salt = refl;
      ssci = refl;
      offset = refl;
      first_unused = omega arith;
    };
  };
}

pub stays_on : (s t u : State) → KeysStay s t → KeysStay t u → KeysStay s u
stays_on s t u first second = record {
  config = second.config ∙ first.config;
  keys = λ key there.
      let a = first.keys key there in
      let b = second.keys a.later a.there in
      record {
        later = b.later;
        there = b.there;
        is_later = record {
          number = b.is_later.number ∙ a.is_later.number;
          suite = b.is_later.suite ∙ a.is_later.suite;
          bytes = b.is_later.bytes ∙ a.is_later.bytes;
          salt = b.is_later.salt ∙ a.is_later.salt;
          ssci = b.is_later.ssci ∙ a.is_later.ssci;
          offset = b.is_later.offset ∙ a.is_later.offset;
          first_unused = omega (arith, a.is_later.first_unused, b.is_later.first_unused);
        };
      };
}

-- ---- a step

-- the step, by the two tests
abbrev pub by_tests : Bool → Bool → Keeping → Output × State → KeepingOutput × Keeping
by_tests below go k answer =
    if below then (endpoint_output (refused PnFloor), k)
    else if go then with_step k answer else (dropped_no_reservation, k)

or_true : (b : Bool) → b || true ≡ true
or_true true = refl
or_true false = refl

-- a frame from the link is the machine's step
pub received_step : (k : Keeping) (frame : List ℕ) →
    keeping_step k (endpoint_input (link_frame frame)) ≡ with_step k (step k.secy (link_frame frame))
received_step k frame = ap (λ (b : Bool). by_tests false b k (step k.secy (link_frame frame))) (or_true (not k.keeps))

keys_by_tests : (below go : Bool) (k : Keeping) (answer : Output × State) → KeysStay k.secy answer.1 →
    KeysStay k.secy (by_tests below go k answer).1.secy
keys_by_tests true go k answer stay = stays_itself k.secy
keys_by_tests false true k answer stay = stay
keys_by_tests false false k answer stay = stays_itself k.secy

pub keys_stay : Laws → (k : Keeping) (input : KeepingInput) → IsSound k.secy →
    KeysStay k.secy (keeping_step k input).1.secy
keys_stay laws k (now_durable r) sound = stays_itself k.secy
keys_stay laws k (endpoint_input input) sound =
    keys_by_tests (is_below_floor k input) (may_go k input) k (step k.secy input) (laws.keys_stay k.secy input sound)

before_by_tests : (below go : Bool) (k : Keeping) (answer : Output × State) →
    (by_tests below go k answer).1.before ≡ k.before
before_by_tests true go k answer = refl
before_by_tests false true k answer = refl
before_by_tests false false k answer = refl

pub before_stays : (k : Keeping) (input : KeepingInput) → (keeping_step k input).1.before ≡ k.before
before_stays k (now_durable r) = refl
before_stays k (endpoint_input input) = before_by_tests (is_below_floor k input) (may_go k input) k (step k.secy input)

given_up_by_tests : (below go : Bool) (k : Keeping) (answer : Output × State) →
    (by_tests below go k answer).1.given_up ≡ k.given_up
given_up_by_tests true go k answer = refl
given_up_by_tests false true k answer = refl
given_up_by_tests false false k answer = refl

pub given_up_stays : (k : Keeping) (input : KeepingInput) → (keeping_step k input).1.given_up ≡ k.given_up
given_up_stays k (now_durable r) = refl
given_up_stays k (endpoint_input input) =
    given_up_by_tests (is_below_floor k input) (may_go k input) k (step k.secy input)

granted_by_tests : (below go : Bool) (k : Keeping) (answer : Output × State) (name : List ℕ) →
    highest k.granted name ≤ highest (by_tests below go k answer).1.granted name
granted_by_tests true go k answer name = omega arith
granted_by_tests false true k answer name = omega arith
granted_by_tests false false k answer name = omega arith

pub granted_grows : (k : Keeping) (input : KeepingInput) (name : List ℕ) →
    highest k.granted name ≤ highest (keeping_step k input).1.granted name
granted_grows k (now_durable r) name =
    let raised = raised_reserves r (for_each_key k.salt k.granted k.secy.keys) name in
    omega (arith, raised.0, for_each_key_reserves k.salt k.granted k.secy.keys name)
granted_grows k (endpoint_input input) name =
    granted_by_tests (is_below_floor k input) (may_go k input) k (step k.secy input) name

-- what is reserved was reserved before, or reported since
same_by_tests : (below go : Bool) (k : Keeping) (answer : Output × State) (name : List ℕ) →
    highest (by_tests below go k answer).1.granted name ≡ highest k.granted name
same_by_tests true go k answer name = refl
same_by_tests false true k answer name = refl
same_by_tests false false k answer name = refl

pub granted_reported : (inputs : List KeepingInput) (k : Keeping) (name : List ℕ) →
    highest (keeping_after k inputs).granted name ≤ max (highest k.granted name) (highest (reported_in inputs) name)
granted_reported [] k name = omega arith
granted_reported (now_durable r ∷ inputs) k name =
    let raised = raised_reserves r (for_each_key k.salt k.granted k.secy.keys) name in
    omega (
      arith,
      granted_reported inputs (keeping_step k (now_durable r)).1 name,
      raised.1,
      for_each_key_reserves k.salt k.granted k.secy.keys name,
      highest-append (r ∷ []) (reported_in inputs) name,
    )
granted_reported (endpoint_input input ∷ inputs) k name =
    omega (
      arith,
      granted_reported inputs (keeping_step k (endpoint_input input)).1 name,
      same_by_tests (is_below_floor k input) (may_go k input) k (step k.secy input) name,
    )

keeps_by_tests : (below go : Bool) (k : Keeping) (answer : Output × State) →
    (by_tests below go k answer).1.keeps ≡ k.keeps
keeps_by_tests true go k answer = refl
keeps_by_tests false true k answer = refl
keeps_by_tests false false k answer = refl

pub keeps_stays : (k : Keeping) (input : KeepingInput) → (keeping_step k input).1.keeps ≡ k.keeps
keeps_stays k (now_durable r) = refl
keeps_stays k (endpoint_input input) = keeps_by_tests (is_below_floor k input) (may_go k input) k (step k.secy input)

salt_by_tests : (below go : Bool) (k : Keeping) (answer : Output × State) → (by_tests below go k answer).1.salt ≡ k.salt
salt_by_tests true go k answer = refl
salt_by_tests false true k answer = refl
salt_by_tests false false k answer = refl

pub salt_stays : (k : Keeping) (input : KeepingInput) → (keeping_step k input).1.salt ≡ k.salt
salt_stays k (now_durable r) = refl
salt_stays k (endpoint_input input) = salt_by_tests (is_below_floor k input) (may_go k input) k (step k.secy input)
