-- A run with forgetting, compared with the same run without: the endpoints differ only in the octets of forgotten keys.
use Rattle.macsec_suite.specs.declared.refusal.Refusal.TheVariants.{KeyRetired, NoKey}
use Rattle.macsec_secy.proofs.KeysApart.{the_key_found}
use Rattle.macsec_reserve.proofs.{
  Prelude.{[], ◌&&◌, ◌++◌, ◌==◌, ◌||◌, ◌∙◌, ◌∷◌, ◌≡◌, ◌≤◌, Agrees, All, All-cons, All-head, All-nil, All-tail},
  Prelude.{All-weaker, ap, arith, as_taken, at_number, behind, Bool, bytes_eq-Decides, can_forget, Command},
  Prelude.{command_output, Contains, endpoint_input, eqb-true, false, fingerprint, fingerprint_of, first, for_each_key},
  Prelude.{forgetting, forgetting_step, has_retired, highest, holds_of, if◌then◌else◌, inl, Input, inr, InstalledKey},
  Prelude.{installing, installs_retired, is_below_floor, is_done, is_forgotten, is_number_used, is_retired, is_some},
  Prelude.{IsGivenUp, IsSome, IsSound, Keeping, keeping_step, KeepingInput, KeepingOutput, Key, key_bytes, key_row},
  Prelude.{KeysAreApart, KeysStay, length, length-append, length-map, List, list_any, map, may_go, NewKey, no_key},
  Prelude.{None, none_hold, not, nothing_yet, now_durable, octets_same, operator_command, Option, or_parts, Output},
  Prelude.{raised_by, receiving_name, refl, Refusal, refusal, refused, RepeatsAlike, Reservation, Retire},
  Prelude.{retire_refusals, RxSa, same_octets, Some, State, step, subst, sym, the_key, true, TxSa, unless_refused},
  Prelude.{unwrap_or, uses, was_reserved, with_bytes, with_key, ℕ},
  ForgottenEntries.{complete, completed, completed_long, completed_with, entries_added, entries_completed, step_adds},
  KeyEntries.for_each_key_reserves,
  KnownKeys.{command_step, none_refuses, or_true, retiring, with_fingerprint},
  Replaced.{AreDistinct, AtEach, HasOther, IsGivenUpIn, IsNotHeld, IsOther, KeyLaws, NotHeld, RepeatsOf, Replacement},
  Replaced.{at_each, have_octets, have_other, replaced, replaced_keys, repeats_replaced, retired_replaced},
  Replaced.{row_replaced, step_replaced},
  SameUses.{GrantsAlike, beside, may_go_alike, name_replaced},
  SoundBeside.{HaveLengths, step_lengths},
  Steps.by_tests,
}
use Rattle.macsec_reserve.specs.{Forgetting.then_forget, Forgotten.{AreAlike, RefusesRetired}}

-- ---- what ties the two endpoints together

-- the replacement is the fingerprint of a key of this table
pub record IsOfKey (salt : List ℕ) (keys : List InstalledKey) (r : Replacement) : Type 0 where
  pub key : InstalledKey
  pub there : Contains keys key
  pub number : key.number ≡ r.0
  pub octets : r.1 ≡ fingerprint salt key.bytes

-- one entry for each key
abbrev entries_of : List ℕ → List InstalledKey → List Reservation
entries_of salt keys = map (nothing_yet salt) keys

-- the replaced keys are retired and unused, each replacement is a fingerprint, and the entries are the same once each key
-- has one
pub record Fits (k : Keeping) (rs : List Replacement) (entries : List Reservation) : Type 0 where
  pub given_up : All (IsGivenUpIn k.secy) rs
  pub of_keys : All (IsOfKey k.salt k.secy.keys) rs
  pub distinct : AreDistinct rs
  pub lengths : HaveLengths k.secy.keys
  pub agrees : Agrees k.secy
  pub same : completed entries (entries_of k.salt (replaced_keys rs k.secy.keys)) ≡ completed k.granted (entries_of k.salt k.secy.keys)
  pub own_fit : length k.granted ≤ length (entries_of k.salt k.secy.keys)
  pub fit : length entries ≤ length (entries_of k.salt (replaced_keys rs k.secy.keys))

pub grants_alike : (k : Keeping) (rs : List Replacement) (entries : List Reservation) → Fits k rs entries → GrantsAlike k entries
grants_alike k rs entries fits name =
    let keys = replaced_keys rs k.secy.keys in
    sym (for_each_key_reserves k.salt entries keys name)
    ∙ ap (λ es. highest es name) (entries_completed k.salt entries keys ∙ fits.same ∙ sym (entries_completed k.salt k.granted k.secy.keys))
    ∙ for_each_key_reserves k.salt k.granted k.secy.keys name

-- ---- a step of the machine

later_key : (salt : List ℕ) (s after : State) → KeysStay s after → (r : Replacement) → IsOfKey salt s.keys r → IsOfKey salt after.keys r
later_key salt s after stay r it =
    let then' = stay.keys it.key it.there in
    record {
      key = then'.later;
      there = then'.there;
      number = then'.is_later.number ∙ it.number;
      octets = it.octets ∙ ap (λ bytes. fingerprint salt bytes) (sym then'.is_later.bytes);
    }

fits_after : KeyLaws → (k : Keeping) (rs : List Replacement) (entries : List Reservation) (input : Input) → Fits k rs entries → IsSound k.secy →
    step (replaced rs k.secy) input ≡ ((step k.secy input).0, replaced rs (step k.secy input).1) →
    Fits (record k { secy = (step k.secy input).1 }) rs entries
fits_after laws k rs entries input fits sound alike =
    let s = k.secy in
    let after = (step s input).1 in
    let more : List Reservation = entries_added k.salt input (step s input).0 in
    let own : entries_of k.salt after.keys ≡ entries_of k.salt s.keys ++ more = step_adds k.salt s input in
    let other : entries_of k.salt (replaced_keys rs after.keys) ≡ entries_of k.salt (replaced_keys rs s.keys) ++ more =
    ap (λ (a : Output × State). entries_of k.salt a.1.keys) (sym alike)
    ∙ step_adds k.salt (replaced rs s) input
    ∙ ap (λ (a : Output × State). entries_of k.salt (replaced_keys rs s.keys) ++ entries_added k.salt input a.0) alike in
    let own_long : length (entries_of k.salt after.keys) ≡ length (entries_of k.salt s.keys ++ more) = ap length own in
    let other_long : length (entries_of k.salt (replaced_keys rs after.keys)) ≡ length (entries_of k.salt (replaced_keys rs s.keys) ++ more) = ap length other in
    record {
      given_up = All-weaker (IsGivenUpIn s) (IsGivenUpIn after) (λ r up. laws.stays_given_up s r.0 input up) rs fits.given_up;
      of_keys = All-weaker (IsOfKey k.salt s.keys) (IsOfKey k.salt after.keys) (later_key k.salt s after (laws.keys_stay s input sound)) rs fits.of_keys;
      distinct = fits.distinct;
      lengths = step_lengths s input fits.lengths;
      agrees = laws.stays_agreed s input fits.agrees;
      same = ap (completed entries) other
          ∙ completed_with entries (entries_of k.salt (replaced_keys rs s.keys)) more fits.fit
          ∙ ap (λ es. es ++ more) fits.same
          ∙ sym (completed_with k.granted (entries_of k.salt s.keys) more fits.own_fit)
          ∙ ap (completed k.granted) (sym own);
      own_fit = omega (arith, fits.own_fit, own_long, length-append (entries_of k.salt s.keys) more);
      fit = omega (arith, fits.fit, other_long, length-append (entries_of k.salt (replaced_keys rs s.keys)) more);
    }

-- ---- a step of the keeping endpoint

record StepsBeside (k : Keeping) (rs : List Replacement) (entries : List Reservation) (input : KeepingInput) : Type 0 where
  same : keeping_step (beside k rs entries) input ≡ ((keeping_step k input).0, beside (keeping_step k input).1 rs entries)
  fits : Fits (keeping_step k input).1 rs entries

abbrev answer : KeepingOutput → Keeping → KeepingOutput × Keeping
answer output after = (output, after)

tests_beside : (below go : Bool) (k : Keeping) (rs : List Replacement) (entries : List Reservation) (output : Output) (after : State) →
    by_tests below go (beside k rs entries) (output, replaced rs after)
    ≡ ((by_tests below go k (output, after)).0, beside (by_tests below go k (output, after)).1 rs entries)
tests_beside true go k rs entries output after = refl
tests_beside false true k rs entries output after = refl
tests_beside false false k rs entries output after = refl

tests_fit : (below go : Bool) (k : Keeping) (rs : List Replacement) (entries : List Reservation) (a : Output × State) → Fits k rs entries →
    Fits (record k { secy = a.1 }) rs entries → Fits (by_tests below go k a).1 rs entries
tests_fit true go k rs entries a now after = now
tests_fit false true k rs entries a now after = after
tests_fit false false k rs entries a now after = now

steps_beside : KeyLaws → (k : Keeping) (rs : List Replacement) (entries : List Reservation) (input : Input) → Fits k rs entries → IsSound k.secy →
    AtEach (λ t u. RepeatsAlike t u input) rs k.secy → is_below_floor (beside k rs entries) input ≡ is_below_floor k input → StepsBeside k rs entries (endpoint_input input)
steps_beside laws k rs entries input fits sound repeats floor =
    let f = beside k rs entries in
    let alike = step_replaced laws rs k.secy input fits.given_up repeats in
    record {
      same = ap (λ b. by_tests b (may_go f input) f (step f.secy input)) floor
          ∙ ap (λ b. by_tests (is_below_floor k input) b f (step f.secy input)) (may_go_alike k rs entries input (grants_alike k rs entries fits) fits.given_up)
          ∙ ap (λ (a : Output × State). by_tests (is_below_floor k input) (may_go k input) f a) alike
          ∙ tests_beside (is_below_floor k input) (may_go k input) k rs entries (step k.secy input).0 (step k.secy input).1;
      fits = tests_fit (is_below_floor k input) (may_go k input) k rs entries (step k.secy input) fits (fits_after laws k rs entries input fits sound alike);
    }

-- ---- an input to both

-- the answers of a keeping endpoint and of one that forgets: they are alike, and so are the endpoints afterwards
pub record NextAlike (own to : KeepingOutput × Keeping) : Type 0 where
  pub rs : List Replacement
  pub entries : List Reservation
  pub after : to.1 ≡ beside own.1 rs entries
  pub fits : Fits own.1 rs entries
  pub alike : AreAlike own.0 to.0

same_step : (k : Keeping) (rs : List Replacement) (entries : List Reservation) (input : KeepingInput) → StepsBeside k rs entries input →
    NextAlike (keeping_step k input) (keeping_step (beside k rs entries) input)
same_step k rs entries input it = record {
  rs = rs;
  entries = entries;
  after = ap (λ (a : KeepingOutput × Keeping). a.1) it.same;
  fits = it.fits;
  alike = inl (ap (λ (a : KeepingOutput × Keeping). a.0) (sym it.same));
}

-- ---- a report

reported : (k : Keeping) (rs : List Replacement) (entries : List Reservation) (r : Reservation) → Fits k rs entries →
    NextAlike (keeping_step k (now_durable r)) (keeping_step (beside k rs entries) (now_durable r))
reported k rs entries r fits =
    let keys = replaced_keys rs k.secy.keys in
    let own : List Reservation = map (raised_by r) (for_each_key k.salt k.granted k.secy.keys) in
    let new : List Reservation = map (raised_by r) (for_each_key k.salt entries keys) in
    let own_is : for_each_key k.salt k.granted k.secy.keys ≡ completed k.granted (entries_of k.salt k.secy.keys) = entries_completed k.salt k.granted k.secy.keys in
    let new_is : for_each_key k.salt entries keys ≡ completed entries (entries_of k.salt keys) = entries_completed k.salt entries keys in
    let own_long : length own ≡ length (entries_of k.salt k.secy.keys) =
    length-map (for_each_key k.salt k.granted k.secy.keys) (raised_by r) ∙ ap length own_is ∙ completed_long k.granted (entries_of k.salt k.secy.keys) fits.own_fit in
    let new_long : length new ≡ length (entries_of k.salt keys) =
    length-map (for_each_key k.salt entries keys) (raised_by r) ∙ ap length new_is ∙ completed_long entries (entries_of k.salt keys) fits.fit in
    record {
      rs = rs;
      entries = new;
      after = refl;
      fits = record {
        given_up = fits.given_up;
        of_keys = fits.of_keys;
        distinct = fits.distinct;
        lengths = fits.lengths;
        agrees = fits.agrees;
        same = complete new (entries_of k.salt keys) new_long
            ∙ ap (λ es. map (raised_by r) es) (new_is ∙ fits.same ∙ sym own_is)
            ∙ sym (complete own (entries_of k.salt k.secy.keys) own_long);
        own_fit = omega (arith, own_long);
        fit = omega (arith, new_long);
      };
      alike = inl refl;
    }

-- ---- the installation of a key

one_of_number : (keys : List InstalledKey) (x y : InstalledKey) → KeysAreApart keys → Contains keys x → Contains keys y → x.number ≡ y.number → x ≡ y
one_of_number keys x y apart here there same =
    ap (λ (o : Option InstalledKey). unwrap_or o x) (sym (apart.by_number x here) ∙ ap (key_row keys) same ∙ apart.by_number y there)

not_held : (bytes : List ℕ) (n : ℕ) (keys : List InstalledKey) → ((x : InstalledKey) → Contains keys x → (x.number == n) ≡ true → same_octets x.bytes bytes ≡ false) → NotHeld bytes n keys
not_held bytes n [] none = tt
not_held bytes n (row ∷ rows) none = (none row (first row rows), not_held bytes n rows (λ x there. none x (behind row rows x there)))

true_or_false : (b : Bool) → (b ≡ true → ⊥) → b ≡ false
true_or_false true not_true = absurd (not_true refl)
true_or_false false not_true = refl

-- a forgotten key that has another fingerprint in its row did not have these octets
none_holds : (salt : List ℕ) (keys : List InstalledKey) (bytes : List ℕ) (r : Replacement) → KeysAreApart keys → IsOfKey salt keys r → HasOther (fingerprint salt bytes) r → IsNotHeld bytes keys r
none_holds salt keys bytes r apart it differs = not_held bytes r.0 keys none
  where
    none : (x : InstalledKey) → Contains keys x → (x.number == r.0) ≡ true → same_octets x.bytes bytes ≡ false
    none x there at = true_or_false (same_octets x.bytes bytes) not_same
      where
        not_same : same_octets x.bytes bytes ≡ true → ⊥
        not_same is =
            let one : x ≡ it.key = one_of_number keys x it.key apart there it.there (eqb-true x.number r.0 at ∙ sym it.number) in
            let octets : r.1 ≡ fingerprint salt bytes =
            it.octets ∙ ap (λ (y : InstalledKey). fingerprint salt y.bytes) (sym one) ∙ ap (λ b. fingerprint salt b) ((bytes_eq-Decides x.bytes bytes).0 is) in
            let yes : same_octets r.1 (fingerprint salt bytes) ≡ true = ap (λ b. same_octets b (fingerprint salt bytes)) octets ∙ octets_same (fingerprint salt bytes) in
            let contradiction : true ≡ false = sym yes ∙ differs in
            cc

repeats : KeyLaws → (k : Keeping) (rs : List Replacement) (entries : List Reservation) (bytes : List ℕ) → Fits k rs entries → IsSound k.secy →
    (has_retired (beside k rs entries).secy.keys bytes || is_forgotten (beside k rs entries) bytes) ≡ false → AtEach (RepeatsOf bytes) rs k.secy
repeats laws k rs entries bytes fits sound new =
    let keys = replaced_keys rs k.secy.keys in
    let parts = or_parts (has_retired keys bytes) (is_forgotten (beside k rs entries) bytes) new in
    let have = have_octets rs k.secy fits.distinct fits.given_up in
    let apart = laws.keys_apart k.secy sound in
    let others : All (HasOther (fingerprint k.salt bytes)) rs = have_other rs keys (fingerprint k.salt bytes) parts.1 have in
    repeats_replaced rs k.secy bytes (have_other rs keys bytes parts.0 have)
    (λ i d within. none_holds k.salt k.secy.keys bytes _ apart (fits.of_keys i d within) (others i d within))

installed : KeyLaws → (k : Keeping) (rs : List Replacement) (entries : List Reservation) (key : NewKey) → Fits k rs entries → IsSound k.secy →
    installs_retired (beside k rs entries) (installing key) ≡ false →
    NextAlike (keeping_step k (installing key)) (forgetting_step (beside k rs entries) (installing key))
installed laws k rs entries key fits sound new =
    let f = beside k rs entries in
    let input = operator_command (Key key) in
    let parts = or_parts (has_retired f.secy.keys (key_bytes key.bytes)) (is_forgotten f (key_bytes key.bytes)) new in
    let own : as_taken f key ≡ key = ap (λ (b : Bool). if b then with_fingerprint k.salt key else key) parts.1 in
    subst (λ (key' : NewKey). NextAlike (keeping_step k (installing key)) (keeping_step f (installing key'))) (sym own)
    (same_step k rs entries (installing key)
    (steps_beside laws k rs entries input fits sound (repeats laws k rs entries (key_bytes key.bytes) fits sound new) refl))

-- ---- the retirement of a key

differ : (keys : List InstalledKey) (a b : ℕ) → is_retired keys a ≡ true → is_retired keys b ≡ false → (a ≡ b → ⊥)
differ keys a b retired free same = let no : true ≡ false = sym retired ∙ ap (is_retired keys) same ∙ free in cc

differs_from : (keys : List InstalledKey) (n : ℕ) (r : Replacement) → is_retired keys n ≡ false → is_retired keys r.0 ≡ true → (r.0 == n) ≡ false
differs_from keys n r free retired = true_or_false (r.0 == n) (λ is. differ keys r.0 n retired free (eqb-true r.0 n is))

pub is_other : (keys : List InstalledKey) (n : ℕ) (r : Replacement) → is_retired keys n ≡ false → is_retired keys r.0 ≡ true → IsOther n r
is_other keys n r free retired = true_or_false (n == r.0) (λ is. differ keys r.0 n retired free (sym (eqb-true n r.0 is)))

there_if_retired : (o : Option InstalledKey) → holds_of (λ (row : InstalledKey). row.retired) o ≡ true → IsSome o
there_if_retired None retired = cc
there_if_retired (Some row) retired = refl

-- what is known once the key is retired
record IsNewlyRetired (k after : Keeping) (n : ℕ) : Type 0 where
  free : is_retired k.secy.keys n ≡ false
  given_up : IsGivenUp after.secy n

newly_retired : KeyLaws → (k : Keeping) (n : ℕ) → is_done (keeping_step k (retiring n)).0 ≡ true → IsNewlyRetired k (keeping_step k (retiring n)).1 n
newly_retired laws k n is =
    let s = k.secy in
    let whole = command_step k (Retire n) refl in
    let none : refusal s (Retire n) ≡ None = none_refuses (refusal s (Retire n)) (ap (λ (a : KeepingOutput × Keeping). is_done a.0) (sym whole) ∙ is) in
    record {
      free = (none_hold (retire_refusals s.keys n (uses s n)) none).1.0;
      given_up = subst (λ (a : KeepingOutput × Keeping). IsGivenUp a.1.secy n) (sym whole) (laws.gives_up s n (ap command_output none));
    }

-- the table with one replacement more
forgotten_fits : (k : Keeping) (rs : List Replacement) (entries : List Reservation) (n : ℕ) → Fits k rs entries → IsGivenUp k.secy n →
    All (IsOther n) rs → All (λ (q : Replacement). (q.0 == n) ≡ false) rs →
    Fits k ((n, fingerprint_of (beside k rs entries) n) ∷ rs) (for_each_key k.salt entries (replaced_keys rs k.secy.keys))
forgotten_fits k rs entries n fits up others distinct =
    let keys = replaced_keys rs k.secy.keys in
    let octets : List ℕ = fingerprint_of (beside k rs entries) n in
    let r : Replacement = (n, octets) in
    let own = the_key k.secy.keys n in
    let it = the_key_found k.secy.keys n (there_if_retired (key_row k.secy.keys n) up.retired) in
    let of_key : IsOfKey k.salt k.secy.keys r = record {
      key = own;
      there = it.there;
      number = it.number;
      octets = ap (λ (o : Option InstalledKey). fingerprint k.salt (unwrap_or o no_key).bytes) (row_replaced rs k.secy.keys n others);
    } in
    let new : List Reservation = for_each_key k.salt entries keys in
    let new_is : new ≡ completed entries (entries_of k.salt keys) = entries_completed k.salt entries keys in
    let long : length new ≡ length keys = ap length new_is ∙ completed_long entries (entries_of k.salt keys) fits.fit ∙ length-map keys (nothing_yet k.salt) in
    let after = with_key (with_bytes octets) n keys in
    let after_long : length new ≡ length (entries_of k.salt after) =
    long ∙ sym (length-map after (nothing_yet k.salt) ∙ length-map keys (at_number (with_bytes octets) n)) in
    record {
      given_up = All-cons (IsGivenUpIn k.secy) r rs up fits.given_up;
      of_keys = All-cons (IsOfKey k.salt k.secy.keys) r rs of_key fits.of_keys;
      distinct = (distinct, fits.distinct);
      lengths = fits.lengths;
      agrees = fits.agrees;
      same = complete new (entries_of k.salt after) after_long ∙ new_is ∙ fits.same;
      own_fit = fits.own_fit;
      fit = omega (arith, after_long);
    }

-- whether the key is forgotten or not
then_alike : (own : KeepingOutput × Keeping) (rs : List Replacement) (entries : List Reservation) (n : ℕ) → Fits own.1 rs entries →
    (is_done own.0 ≡ true → Fits own.1 ((n, fingerprint_of (beside own.1 rs entries) n) ∷ rs) (for_each_key own.1.salt entries (replaced_keys rs own.1.secy.keys))) →
    (b : Bool) → is_done own.0 ≡ b → (c : Bool) →
    NextAlike own (own.0, if b && c then forgetting (beside own.1 rs entries) n else beside own.1 rs entries)
then_alike own rs entries n fits then_fits false is c = record { rs = rs; entries = entries; after = refl; fits = fits; alike = inl refl }
then_alike own rs entries n fits then_fits true is false = record { rs = rs; entries = entries; after = refl; fits = fits; alike = inl refl }
then_alike own rs entries n fits then_fits true is true = record {
  rs = (n, fingerprint_of (beside own.1 rs entries) n) ∷ rs;
  entries = for_each_key own.1.salt entries (replaced_keys rs own.1.secy.keys);
  after = refl;
  fits = then_fits is;
  alike = inl refl;
}

retired : KeyLaws → (k : Keeping) (rs : List Replacement) (entries : List Reservation) (n : ℕ) → Fits k rs entries → IsSound k.secy →
    NextAlike (keeping_step k (retiring n)) (forgetting_step (beside k rs entries) (retiring n))
retired laws k rs entries n fits sound =
    let own = keeping_step k (retiring n) in
    let it : StepsBeside k rs entries (retiring n) = steps_beside laws k rs entries (operator_command (Retire n)) fits sound (at_each (λ t u. Unit {0}) (λ t u. tt) rs k.secy) refl in
    let then_fits : is_done own.0 ≡ true → Fits own.1 ((n, fingerprint_of (beside own.1 rs entries) n) ∷ rs) (for_each_key own.1.salt entries (replaced_keys rs own.1.secy.keys)) =
    λ is.
    let new = newly_retired laws k n is in
    forgotten_fits own.1 rs entries n it.fits new.given_up
    (All-weaker (IsGivenUpIn k.secy) (IsOther n) (λ r up. is_other k.secy.keys n r new.free up.retired) rs fits.given_up)
    (All-weaker (IsGivenUpIn k.secy) (λ (q : Replacement). (q.0 == n) ≡ false) (λ r up. differs_from k.secy.keys n r new.free up.retired) rs fits.given_up) in
    subst (λ (a : KeepingOutput × Keeping). NextAlike own (then_forget (Some n) a)) (sym it.same)
    (then_alike own rs entries n it.fits then_fits (is_done own.0) refl (can_forget (beside own.1 rs entries) n))

-- ---- a new SA under a key that was forgotten

-- the second refusal of the command
first_is_retired : (keys : List InstalledKey) (key : ℕ) (later : Option Refusal) → is_retired keys key ≡ true →
    (if not (is_number_used keys key) then Some NoKey else if is_retired keys key then Some KeyRetired else later) ≡ Some KeyRetired
first_is_retired keys key later = by_row (key_row keys key)
  where
    by_row : (o : Option InstalledKey) → holds_of (λ (row : InstalledKey). row.retired) o ≡ true →
        (if not (is_some o) then Some NoKey else if holds_of (λ (row : InstalledKey). row.retired) o then Some KeyRetired else later) ≡ Some KeyRetired
    by_row None is = cc
    by_row (Some row) is = ap (λ (b : Bool). if b then Some KeyRetired else later) is

record StaysRefused (k : Keeping) (to : KeepingOutput × Keeping) : Type 0 where
  same : to.1 ≡ k
  refuses : RefusesRetired to.0

stays_refused : (k : Keeping) (c : Command) → refusal k.secy c ≡ Some KeyRetired → StaysRefused k (keeping_step k (endpoint_input (operator_command c)))
stays_refused k c is =
    subst (λ (r : Option Refusal). StaysRefused k (by_tests (is_below_floor k (operator_command c)) (may_go k (operator_command c)) k (command_output r, unless_refused r k.secy c))) (sym is)
    (subst (λ (b : Bool). StaysRefused k (by_tests (is_below_floor k (operator_command c)) b k (refused KeyRetired, k.secy))) (sym (or_true (not k.keeps)))
    (by_floor (is_below_floor k (operator_command c))))
  where
    by_floor : (b : Bool) → StaysRefused k (by_tests b true k (refused KeyRetired, k.secy))
    by_floor true = record { same = refl; refuses = inl refl }
    by_floor false = record { same = refl; refuses = inr refl }

both_refuse : (k : Keeping) (rs : List Replacement) (entries : List Reservation) (c : Command) → Fits k rs entries → refusal k.secy c ≡ Some KeyRetired →
    refusal (replaced rs k.secy) c ≡ Some KeyRetired → NextAlike (keeping_step k (endpoint_input (operator_command c))) (keeping_step (beside k rs entries) (endpoint_input (operator_command c)))
both_refuse k rs entries c fits is is' =
    let own = stays_refused k c is in
    let other = stays_refused (beside k rs entries) c is' in
    record {
      rs = rs;
      entries = entries;
      after = other.same ∙ ap (λ (x : Keeping). beside x rs entries) (sym own.same);
      fits = subst (λ (x : Keeping). Fits x rs entries) (sym own.same) fits;
      alike = inr (own.refuses, other.refuses);
    }

-- is this key among the replaced ones?
retired_among : (s : State) (rs : List Replacement) (key : ℕ) → All (IsGivenUpIn s) rs → list_any (λ (r : Replacement). key == r.0) rs ≡ true → is_retired s.keys key ≡ true
retired_among s [] key up is = cc
retired_among s (r ∷ rs) key up is = by_test (key == r.0) refl (retired_among s rs key (All-tail (IsGivenUpIn s) r rs up)) is
  where
    head : IsGivenUp s r.0
    head = All-head (IsGivenUpIn s) r rs up

    by_test : (b : Bool) → (key == r.0) ≡ b → (list_any (λ (q : Replacement). key == q.0) rs ≡ true → is_retired s.keys key ≡ true) → (b || list_any (λ (q : Replacement). key == q.0) rs) ≡ true →
        is_retired s.keys key ≡ true
    by_test true same later is' = ap (is_retired s.keys) (eqb-true key r.0 same) ∙ head.retired
    by_test false differs later is' = later is'

not_among : (rs : List Replacement) (key : ℕ) → list_any (λ (r : Replacement). key == r.0) rs ≡ false → All (IsOther key) rs
not_among [] key none = All-nil (IsOther key)
not_among (r ∷ rs) key none =
    let parts = or_parts (key == r.0) (list_any (λ (q : Replacement). key == q.0) rs) none in
    All-cons (IsOther key) r rs parts.0 (not_among rs key parts.1)

-- a command that begins an SA under this key
new_sa : KeyLaws → (k : Keeping) (rs : List Replacement) (entries : List Reservation) (c : Command) (key : ℕ) → Fits k rs entries → IsSound k.secy →
    AtEach (λ t u. RepeatsAlike t u (operator_command c)) rs k.secy → (All (IsOther key) rs → is_below_floor (beside k rs entries) (operator_command c) ≡ is_below_floor k (operator_command c)) →
    ((s : State) → is_retired s.keys key ≡ true → refusal s c ≡ Some KeyRetired) →
    NextAlike (keeping_step k (endpoint_input (operator_command c))) (keeping_step (beside k rs entries) (endpoint_input (operator_command c)))
new_sa laws k rs entries c key fits sound repeats' floor refuses = by_test (list_any (λ (r : Replacement). key == r.0) rs) refl
  where
    by_test : (b : Bool) → list_any (λ (r : Replacement). key == r.0) rs ≡ b →
        NextAlike (keeping_step k (endpoint_input (operator_command c))) (keeping_step (beside k rs entries) (endpoint_input (operator_command c)))
    by_test true is =
        let retired' : is_retired k.secy.keys key ≡ true = retired_among k.secy rs key fits.given_up is in
        both_refuse k rs entries c fits (refuses k.secy retired') (refuses (replaced rs k.secy) (retired_replaced rs k.secy.keys key ∙ retired'))
    by_test false none = same_step k rs entries (endpoint_input (operator_command c)) (steps_beside laws k rs entries (operator_command c) fits sound repeats' (floor (not_among rs key none)))

-- ---- every input

plain : KeyLaws → (k : Keeping) (rs : List Replacement) (entries : List Reservation) (input : Input) → Fits k rs entries → IsSound k.secy →
    AtEach (λ t u. RepeatsAlike t u input) rs k.secy → is_below_floor (beside k rs entries) input ≡ is_below_floor k input →
    NextAlike (keeping_step k (endpoint_input input)) (keeping_step (beside k rs entries) (endpoint_input input))
plain laws k rs entries input fits sound repeats' floor = same_step k rs entries (endpoint_input input) (steps_beside laws k rs entries input fits sound repeats' floor)

pub next_alike : KeyLaws → (k : Keeping) (rs : List Replacement) (entries : List Reservation) (input : KeepingInput) → Fits k rs entries → IsSound k.secy →
    installs_retired (beside k rs entries) input ≡ false → NextAlike (keeping_step k input) (forgetting_step (beside k rs entries) input)
next_alike laws k rs entries (now_durable r) fits sound new = reported k rs entries r fits
next_alike laws k rs entries (endpoint_input (operator_command (Key key))) fits sound new = installed laws k rs entries key fits sound new
next_alike laws k rs entries (endpoint_input (operator_command (Retire n))) fits sound new = retired laws k rs entries n fits sound
next_alike laws k rs entries (endpoint_input (operator_command (TxSa an key next conf))) fits sound new =
    new_sa laws k rs entries (TxSa an key next conf) key fits sound (at_each (λ t u. Unit {0}) (λ t u. tt) rs k.secy)
    (λ others. ap (λ (name : List ℕ). k.keeps && was_reserved k.before (Some (name, next))) (name_replaced k.salt rs k.secy.keys key others))
    (λ s is. first_is_retired s.keys key _ is)
next_alike laws k rs entries (endpoint_input (operator_command (RxSa sci an key ssci lowest))) fits sound new =
    new_sa laws k rs entries (RxSa sci an key ssci lowest) key fits sound (at_each (λ t u. Unit {0}) (λ t u. tt) rs k.secy)
    (λ others. ap (λ (name : List ℕ). k.keeps && was_reserved k.before (Some (receiving_name name sci an, lowest))) (name_replaced k.salt rs k.secy.keys key others))
    (λ s is. first_is_retired s.keys key _ is)
next_alike laws k rs entries (endpoint_input input) fits sound new = plain laws k rs entries input fits sound (at_each (λ t u. Unit {0}) (λ t u. tt) rs k.secy) refl
