-- What was delivered from an SA of an endpoint that renews keys: no later SA of this place, under the same key
-- octets, is at or below it, and none is below what the journal had saved.
use Rattle.macsec_ahead.specs.Renewing.{ahead_after_renewing, unless_refused as unless_not_renewed}
use Rattle.macsec_reserve.specs.{
  Forgetting.{as_taken, is_forgotten, key_of_fingerprint},
  Keeping.{key_name, was_reserved},
  Renewing.{forgetting_after_renewing, forgetting_refusal, is_given_up},
  Renewing.{unless_refused as unless_not_taken},
}
use Rattle.macsec_restarts.{
  proofs.{
    AheadEnds.{created_above, first_new, keeping_row_step, past_by, past_of, StaysUnless, without_other},
    AheadForgets.{by_forgetting, forgets_inside, forgetting_stays},
    AheadPast.{not_used, row_key},
    ForgettingEnds.{forgetting_ends_step, remembers_end_forgetting, same_rx},
    Names.{◌&&◌, ◌+◌, ◌<◌, ◌==◌, ◌∙◌, ◌≡◌, ◌≤◌, ◌⊎◌, Ahead, ahead_forgetting_step, ap, arith, Bool, by_tests, end_of},
    Names.{end_of_row, endpoint_input, EndpointLaws, false, forgetting_step, highest, if◌then◌else◌, inl, Input, inr},
    Names.{InstalledKey, is_below_floor, is_some, IsGivenUp, IsSome, IsSound, Keeping, keeping_step},
    Names.{KeepingInput, Key, lets_through, List, may_go, None, now_durable, operator_command, Option, receiving_name},
    Names.{refl, Refusal, refusal, rx_row, RxRow, RxSa, Sci, sending_name, Some, State, step, subst, sym, taken},
    Names.{the_key, true, unless_refused, unwrap_or, ℕ},
    RenewingAhead.renewed_inside,
    RenewingKeys.{both_fit, brings_key, by_equal, forgetting_keeps, GivingUp, IsOver, one_row, other_stays},
    RenewingKeys.{over_after, over_forgetting, over_now, over_renewing, SameOrUp},
    RowSteps.{found_at, found_row, IsBelowNext, IsCreatedBy, IsLaterRow, IsUnder, next_stays, RowStep, same_place},
    RowSteps.still,
    Sends.by_keeping,
  },
  specs.RenewingRuns.{ahead_renewing_step},
}
use Rattle.macsec_aes.specs.Keys.{key_bytes}
use Rattle.macsec_secy.proofs.KeyRenewed.{takes_no_key_in_use}
use Rattle.macsec_secy.specs.Renewing.{renewal_refusal}
use Rattle.macsec_suite.specs.{
  KeyRows.{key_row, no_key},
  Refusals.is_number_used,
  declared.key_row.NewKey.NewKey,
}
use Rattle.std.proofs.Common.{eqb-true}

-- ---- the receive SA of a place, at a step that forgets keys

taken_same : (k : Keeping) (input : KeepingInput) → brings_key input ≡ false → taken k input ≡ input
taken_same k (endpoint_input (operator_command (Key key))) none = cc
taken_same k input none = refl

same_row : (k : Keeping) (input : KeepingInput) → brings_key input ≡ false → (sci : Sci) (an : ℕ) →
    rx_row (forgetting_step k input).1.secy.rx.rows sci an ≡ rx_row (keeping_step k input).1.secy.rx.rows sci an
same_row k input none sci an = ap (λ rx. rx_row rx.rows sci an) (same_rx k input)
    ∙ ap (λ i. rx_row (keeping_step k i).1.secy.rx.rows sci an) (taken_same k input none)

forgetting_row : (k : Keeping) (input : Input) → brings_key (endpoint_input input) ≡ false → (sci : Sci) (an : ℕ) →
    RowStep input (rx_row k.secy.rx.rows sci an) (rx_row (forgetting_step k (endpoint_input input)).1.secy.rx.rows
    sci an)
forgetting_row k input none sci an =
    subst (RowStep input (rx_row k.secy.rx.rows sci an)) (sym (same_row k (endpoint_input input) none sci an))
    (keeping_row_step k input sci an)

forgetting_row_with : (a : Ahead) (input : Input) → brings_key (endpoint_input input) ≡ false → (sci : Sci) (an : ℕ) →
    RowStep input (rx_row a.k.secy.rx.rows sci an)
    (rx_row (ahead_forgetting_step a (endpoint_input input)).1.k.secy.rx.rows sci an)
forgetting_row_with a input none sci an =
    by_forgetting (λ k. RowStep input (rx_row a.k.secy.rx.rows sci an) (rx_row k.secy.rx.rows sci an)) a
    (endpoint_input input) (still input (rx_row a.k.secy.rx.rows sci an)) (forgetting_row a.k input none sci an)

-- what may have been accepted from it does not fall, unless the key is given up
past_forgetting : (a : Ahead) (input : KeepingInput) (key : ℕ) (sci : Sci) (an : ℕ) → brings_key input ≡ false →
    a.k.keeps ≡ true → IsGivenUp (ahead_forgetting_step a input).1.k.secy key
    ⊎ (past_of a key sci an ≤ past_of (ahead_forgetting_step a input).1 key sci an)
past_forgetting a (now_durable r) key sci an none keeps = inr (omega arith)
past_forgetting a (endpoint_input input) key sci an none keeps =
    by_ends (forgetting_ends_step a (endpoint_input input) key sci an)
  where
    after : Ahead
    after = (ahead_forgetting_step a (endpoint_input input)).1

    ended : (row : RxRow) → rx_row a.k.secy.rx.rows sci an ≡ Some row → rx_row after.k.secy.rx.rows sci an ≡ None →
        row.key ≡ key → end_of_row row ≤ end_of after.ended key sci an
    ended row there gone of_key =
        let own = same_place row.sci sci row.an an (found_at a.k.secy.rx.rows sci an row there) in
        let P : Sci → ℕ → Type 0 = λ x n. rx_row a.k.secy.rx.rows x n ≡ Some row →
        rx_row after.k.secy.rx.rows x n ≡ None → end_of_row row ≤ end_of after.ended row.key x n in
        let first : P row.sci row.an =
        λ there' gone'. remembers_end_forgetting a (endpoint_input input) row keeps there' gone' in
        let second : P sci an = subst (λ n. P sci n) own.1 (subst (λ x. P x row.an) own.0 first) in
        subst (λ n. end_of_row row ≤ end_of after.ended n sci an) of_key (second there gone)

    by_ends : StaysUnless a after key sci an →
        IsGivenUp after.k.secy key ⊎ (past_of a key sci an ≤ past_of after key sci an)
    by_ends (inl up) = inl up
    by_ends (inr grows) = inr (past_by input (rx_row a.k.secy.rx.rows sci an) (rx_row after.k.secy.rx.rows sci an) key
        (end_of a.ended key sci an) (end_of after.ended key sci an) (forgetting_row_with a input none sci an) grows
        ended)

-- ---- an SA that a step creates

pub some_key : (keys : List InstalledKey) (n : ℕ) → IsSome (key_row keys n) → key_row keys n ≡ Some (the_key keys n)
some_key keys n there = by_row (key_row keys n) there
  where
    by_row : (o : Option InstalledKey) → IsSome o → o ≡ Some (unwrap_or o no_key)
    by_row None is = cc
    by_row (Some row) is = refl

is_created : (k : Keeping) (input : Input) (sci : Sci) (an : ℕ) (row : RxRow) →
    brings_key (endpoint_input input) ≡ false →
    rx_row k.secy.rx.rows sci an ≡ None →
    rx_row (forgetting_step k (endpoint_input input)).1.secy.rx.rows sci an ≡ Some row → IsCreatedBy input row
is_created k input sci an row brings none there =
    subst (λ o. RowStep input o (Some row)) none
    (subst (RowStep input (rx_row k.secy.rx.rows sci an)) there (forgetting_row k input brings sci an))

-- it begins above what may have been accepted from it under its key
created_past : (a : Ahead) (input : KeepingInput) (sci : Sci) (an : ℕ) (row : RxRow) → brings_key input ≡ false →
    rx_row a.k.secy.rx.rows sci an ≡ None →
    rx_row (ahead_forgetting_step a input).1.k.secy.rx.rows sci an ≡ Some row → past_of a row.key sci an < row.next
created_past a (now_durable r) sci an row brings none there = let no = sym none ∙ there in cc
created_past a (endpoint_input input) sci an row brings none there =
    by_lets (lets_through a (endpoint_input command)) refl
  where
    created : IsCreatedBy input row
    created = subst (λ o. RowStep input o (Some row)) none
        (subst (RowStep input (rx_row a.k.secy.rx.rows sci an)) there (forgetting_row_with a input brings sci an))

    command : Input
    command = operator_command (RxSa row.sci row.an row.key created.ssci row.lowest)

    there' : rx_row (ahead_forgetting_step a (endpoint_input command)).1.k.secy.rx.rows sci an ≡ Some row
    there' = subst (λ i. rx_row (ahead_forgetting_step a (endpoint_input i)).1.k.secy.rx.rows sci an ≡ Some row)
        created.is there

    by_lets : (b : Bool) → lets_through a (endpoint_input command) ≡ b → past_of a row.key sci an < row.next
    by_lets true lets = created_above a (endpoint_input command) sci an row none there' lets
    by_lets false lets =
        let stays = ap (λ (x : Ahead). rx_row x.k.secy.rx.rows sci an)
        (forgetting_stays a (endpoint_input command) lets) in
        let no = sym none ∙ sym stays ∙ there' in
        cc

-- and above what the journal reserved for the SA
created_floor : (k : Keeping) (input : KeepingInput) (bytes : List ℕ) (sci : Sci) (an : ℕ) (row : RxRow) →
    brings_key input ≡ false → k.keeps ≡ true → rx_row k.secy.rx.rows sci an ≡ None →
    rx_row (forgetting_step k input).1.secy.rx.rows sci an ≡ Some row →
    IsUnder (forgetting_step k input).1.secy bytes row →
    highest k.before (receiving_name (sending_name k.salt bytes) sci an) + 1 ≤ row.next
created_floor k (now_durable r) bytes sci an row brings keeps none there under = let no = sym none ∙ there in cc
created_floor k (endpoint_input input) bytes sci an row brings keeps none there under =
    omega (arith, floor, created.next)
  where
    created : IsCreatedBy input row
    created = is_created k input sci an row brings none there

    command : Input
    command = operator_command (RxSa row.sci row.an row.key created.ssci row.lowest)

    there' : rx_row (keeping_step k (endpoint_input command)).1.secy.rx.rows sci an ≡ Some row
    there' = subst (λ i. rx_row (forgetting_step k (endpoint_input i)).1.secy.rx.rows sci an ≡ Some row) created.is
        there

    under' : IsUnder (keeping_step k (endpoint_input command)).1.secy bytes row
    under' = subst (λ i. IsUnder (forgetting_step k (endpoint_input i)).1.secy bytes row) created.is under

    keys_by : (r : Option Refusal) →
        (unless_refused r k.secy (RxSa row.sci row.an row.key created.ssci row.lowest)).keys ≡ k.secy.keys
    keys_by None = refl
    keys_by (Some r) = refl

    keys : (keeping_step k (endpoint_input command)).1.secy.keys ≡ k.secy.keys
    keys = by_keeping (λ s. s.keys ≡ k.secy.keys) k command refl
        (keys_by (refusal k.secy (RxSa row.sci row.an row.key created.ssci row.lowest)))

    octets : (the_key k.secy.keys row.key).bytes ≡ bytes
    octets = ap (λ (ks : List InstalledKey). (the_key ks row.key).bytes) (sym keys) ∙ under'

    not_below : (b : Bool) → rx_row (by_tests b (may_go k command) k (step k.secy command)).1.secy.rx.rows sci an ≡
        Some row → b ≡ false
    not_below true is = let no = sym none ∙ is in cc
    not_below false is = refl

    kept : (keeps' b : Bool) → keeps' ≡ true → keeps' && b ≡ false → b ≡ false
    kept true b is new = new
    kept false b is new = cc

    new : was_reserved k.before
        (Some (receiving_name (key_name k.salt k.secy.keys row.key) row.sci row.an, row.lowest)) ≡ false
    new = kept k.keeps _ keeps (not_below (is_below_floor k command) there')

    own : (row.sci ≡ sci) × (row.an ≡ an)
    own = same_place row.sci sci row.an an
        (found_at (forgetting_step k (endpoint_input input)).1.secy.rx.rows sci an row there)

    name : receiving_name (key_name k.salt k.secy.keys row.key) row.sci row.an ≡
        receiving_name (sending_name k.salt bytes) sci an
    name = ap (λ b. receiving_name (sending_name k.salt b) row.sci row.an) octets
        ∙ ap (λ x. receiving_name (sending_name k.salt bytes) x row.an) own.0
        ∙ ap (λ n. receiving_name (sending_name k.salt bytes) sci n) own.1

    floor : highest k.before (receiving_name (sending_name k.salt bytes) sci an) < row.lowest
    floor = subst (λ n. highest k.before n < row.lowest) name (first_new row.lowest
        (highest k.before (receiving_name (key_name k.salt k.secy.keys row.key) row.sci row.an)) created.least new)

module _ (laws : EndpointLaws) (bytes : List ℕ) (sci : Sci) (an : ℕ) where
  -- ---- a number that is below the next one of the SA stays below it

  below_forgetting : (k : Keeping) (input : KeepingInput) (d : ℕ) → brings_key input ≡ false → IsSound k.secy →
      IsSound (forgetting_step k input).1.secy →
      ((row : RxRow) → rx_row k.secy.rx.rows sci an ≡ None →
      rx_row (forgetting_step k input).1.secy.rx.rows sci an ≡ Some row →
      IsUnder (forgetting_step k input).1.secy bytes row → d + 1 ≤ row.next) → IsBelowNext k.secy bytes sci an d →
      IsBelowNext (forgetting_step k input).1.secy bytes sci an d
  below_forgetting k (now_durable r) d brings sound sound' created below row there under = below row there under
  below_forgetting k (endpoint_input input) d brings sound sound' created below row there under =
      by_row (rx_row s.rx.rows sci an) refl
    where
      s : State
      s = k.secy

      after : State
      after = (forgetting_step k (endpoint_input input)).1.secy

      octets_by : (x : InstalledKey) (o : Option InstalledKey) → o ≡ Some (the_key after.keys row.key) →
          SameOrUp after row.key (Some x) o → x.bytes ≡ bytes
      octets_by x None is it = absurd it
      octets_by x (Some y) is (inl same) =
          sym same ∙ ap (λ (o : Option InstalledKey). (unwrap_or o y).bytes) is ∙ under
      octets_by x (Some y) is (inr up) =
          absurd (not_used after row.key up row (found_row sci an after.rx.rows row there) refl)

      by_row : (o : Option RxRow) → rx_row s.rx.rows sci an ≡ o → d + 1 ≤ row.next
      by_row None none = created row none there under
      by_row (Some earlier) here =
          let it : IsLaterRow earlier row = subst (λ o. RowStep input o (Some row)) here
          (subst (RowStep input (rx_row s.rx.rows sci an)) there (forgetting_row k input brings sci an)) in
          let before : key_row s.keys row.key ≡ Some (the_key s.keys row.key) =
          some_key s.keys row.key (subst (λ n. IsSome (key_row s.keys n)) (sym it.key)
          (row_key laws s sound sci an earlier here)) in
          let later : key_row after.keys row.key ≡ Some (the_key after.keys row.key) =
          some_key after.keys row.key (row_key laws after sound' sci an row there) in
          let same : (the_key s.keys row.key).bytes ≡ bytes =
          octets_by (the_key s.keys row.key) (key_row after.keys row.key) later
          (subst (λ o. SameOrUp after row.key o (key_row after.keys row.key)) before
          (forgetting_keeps k (endpoint_input input) brings row.key)) in
          let first : d + 1 ≤ earlier.next =
          below earlier here (subst (λ n. (the_key s.keys n).bytes ≡ bytes) it.key same) in
          omega (
            arith,
            first,
            next_stays laws.rx_rows_stay k (endpoint_input input) sci an earlier row here
                (sym (same_row k (endpoint_input input) brings sci an) ∙ there),
          )

  below_renewing : (k : Keeping) (key : NewKey) (d : ℕ) → IsSound k.secy → IsBelowNext k.secy bytes sci an d →
      IsBelowNext (forgetting_after_renewing k key).secy bytes sci an d
  below_renewing k key d sound below = by_refusal (forgetting_refusal k key) refl
    where
      s : State
      s = k.secy

      new : NewKey
      new = as_taken k key

      not_renewed : renewal_refusal s new ≡ None → (row : RxRow) → rx_row s.rx.rows sci an ≡ Some row →
          row.key ≡ new.number → ⊥
      not_renewed fits row there same = by_case (takes_no_key_in_use s new fits)
        where
          by_case : (is_number_used s.keys new.number ≡ false) ⊎ IsGivenUp s new.number → ⊥
          by_case (inl free) =
              let no : true ≡ false = sym (row_key laws s sound sci an row there)
              ∙ ap (is_number_used s.keys) same ∙ free in
              cc
          by_case (inr up) = not_used s new.number up row (found_row sci an s.rx.rows row there) same

      by_refusal : (r : Option Refusal) → forgetting_refusal k key ≡ r →
          IsBelowNext (unless_not_taken r new k).secy bytes sci an d
      by_refusal (Some r) is = below
      by_refusal None is = λ row there under.
          let fits = (both_fit (is_given_up k (key_bytes key.bytes)) (renewal_refusal s new) is).1 in
          let same = other_stays s new fits row.key (not_renewed fits row there) in
          below row there (ap (λ (o : Option InstalledKey). (unwrap_or o no_key).bytes) (sym same) ∙ under)

  -- ---- what was delivered

  module _ (giving : GivingUp) where
    -- the key of this number has the octets, and the PN is at most what may have been accepted from the SA under it
    pub record IsAlive (a : Ahead) (d n : ℕ) : Type 0 where
      pub row : InstalledKey
      pub found : key_row a.k.secy.keys n ≡ Some row
      pub octets : row.bytes ≡ bytes
      pub past : d ≤ past_of a n sci an

    -- or no SA uses a key of these octets any more
    pub record IsBehind (a : Ahead) (d : ℕ) : Type 0 where
      pub past : ((n : ℕ) × IsAlive a d n) ⊎ IsOver a.k bytes
      pub below : IsBelowNext a.k.secy bytes sci an d

    alive_forgetting : (a : Ahead) (input : KeepingInput) (d n : ℕ) → brings_key input ≡ false → IsSound a.k.secy →
        a.k.keeps ≡ true → lets_through a input ≡ true → IsAlive a d n →
        IsAlive (ahead_forgetting_step a input).1 d n ⊎ IsOver (ahead_forgetting_step a input).1.k bytes
    alive_forgetting a input d n brings sound keeps lets it = by_past (past_forgetting a input n sci an brings keeps)
      where
        after : Ahead
        after = (ahead_forgetting_step a input).1

        k' : Keeping
        k' = (forgetting_step a.k input).1

        same : after.k ≡ k'
        same = forgets_inside a input lets

        over : IsGivenUp k'.secy n → IsOver after.k bytes
        over up = subst (λ k. IsOver k bytes) (sym same) (subst (IsOver k') it.octets
            (over_after giving a.k input sound (laws.keys_apart a.k.secy sound) brings n it.row it.found up))

        by_row : past_of a n sci an ≤ past_of after n sci an → (o : Option InstalledKey) →
            key_row k'.secy.keys n ≡ o → SameOrUp k'.secy n (Some it.row) o → IsAlive after d n ⊎ IsOver after.k bytes
        by_row grows None there is = absurd is
        by_row grows (Some y) there (inl octets) = inl (record {
          row = y;
          found = ap (λ (k : Keeping). key_row k.secy.keys n) same ∙ there;
          octets = octets ∙ it.octets;
          past = omega (arith, it.past, grows);
        })
        by_row grows (Some y) there (inr up) = inr (over up)

        by_past : IsGivenUp after.k.secy n ⊎ (past_of a n sci an ≤ past_of after n sci an) →
            IsAlive after d n ⊎ IsOver after.k bytes
        by_past (inl up) = inr (over (subst (λ (k : Keeping). IsGivenUp k.secy n) same up))
        by_past (inr grows) = by_row grows (key_row k'.secy.keys n) refl
            (subst (λ o. SameOrUp k'.secy n o (key_row k'.secy.keys n)) it.found (forgetting_keeps a.k input brings n))

    -- no SA under these octets is left
    none_under : (s : Keeping) → IsSound s.secy → IsOver s bytes → (row : RxRow) →
        rx_row s.secy.rx.rows sci an ≡ Some row →
        IsUnder s.secy bytes row → ⊥
    none_under k sound over row there under =
        not_used k.secy row.key (over.rows row.key (the_key k.secy.keys row.key)
        (some_key k.secy.keys row.key (row_key laws k.secy sound sci an row there)) under) row
        (found_row sci an k.secy.rx.rows row there) refl

    behind_passed : (a : Ahead) (input : KeepingInput) (d : ℕ) → brings_key input ≡ false → IsSound a.k.secy →
        IsSound (ahead_forgetting_step a input).1.k.secy → a.k.keeps ≡ true → lets_through a input ≡ true →
        IsBehind a d → IsBehind (ahead_forgetting_step a input).1 d
    behind_passed a input d brings sound sound' keeps lets it = by_past it.past
      where
        after : Ahead
        after = (ahead_forgetting_step a input).1

        k' : Keeping
        k' = (forgetting_step a.k input).1

        same : after.k ≡ k'
        same = forgets_inside a input lets

        below_if : ((row : RxRow) → rx_row a.k.secy.rx.rows sci an ≡ None →
            rx_row after.k.secy.rx.rows sci an ≡ Some row →
            IsUnder after.k.secy bytes row → d + 1 ≤ row.next) → IsBelowNext after.k.secy bytes sci an d
        below_if created = subst (λ (k : Keeping). IsBelowNext k.secy bytes sci an d) (sym same)
            (below_forgetting a.k input d brings sound (subst (λ (k : Keeping). IsSound k.secy) same sound')
            (subst (λ (k : Keeping). (row : RxRow) → rx_row a.k.secy.rx.rows sci an ≡ None →
            rx_row k.secy.rx.rows sci an ≡ Some row → IsUnder k.secy bytes row → d + 1 ≤ row.next) same created)
            it.below)

        with_over : IsOver after.k bytes → IsBehind after d
        with_over over = record {
          past = inr over;
          below = below_if (λ row none there under. absurd (none_under after.k sound' over row there under));
        }

        by_alive : (n : ℕ) → IsAlive a d n → IsAlive after d n ⊎ IsOver after.k bytes → IsBehind after d
        by_alive n old (inr over) = with_over over
        by_alive n old (inl alive) = record {
          past = inl (n, alive);
          below = below_if (λ row none there under.
              let one : row.key ≡ n = one_row after.k.secy.keys (laws.keys_apart after.k.secy sound') n row.key
              alive.row
              (the_key after.k.secy.keys row.key) alive.found (some_key after.k.secy.keys row.key
              (row_key laws after.k.secy sound' sci an row there)) (under ∙ sym alive.octets) in
              let above : past_of a n sci an < row.next = subst (λ m. past_of a m sci an < row.next) one
              (created_past a input sci an row brings none there) in
              omega (arith, above, old.past));
        }

        by_past : ((n : ℕ) × IsAlive a d n) ⊎ IsOver a.k bytes → IsBehind after d
        by_past (inl (n, old)) = by_alive n old (alive_forgetting a input d n brings sound keeps lets old)
        by_past (inr over) = with_over (subst (λ k. IsOver k bytes) (sym same)
            (over_forgetting giving a.k input bytes sound brings over))

    behind_forgetting : (a : Ahead) (input : KeepingInput) (d : ℕ) → brings_key input ≡ false → IsSound a.k.secy →
        IsSound (ahead_forgetting_step a input).1.k.secy → a.k.keeps ≡ true → IsBehind a d →
        IsBehind (ahead_forgetting_step a input).1 d
    behind_forgetting a input d brings sound sound' keeps it = by_lets (lets_through a input) refl
      where
        by_lets : (b : Bool) → lets_through a input ≡ b → IsBehind (ahead_forgetting_step a input).1 d
        by_lets true lets = behind_passed a input d brings sound sound' keeps lets it
        by_lets false lets = subst (λ x. IsBehind x d) (sym (forgetting_stays a input lets)) it

    -- ---- a renewal

    taken_number : (b : Bool) (key print : NewKey) → print.number ≡ key.number →
        (if b then print else key).number ≡ key.number
    taken_number true key print same = same
    taken_number false key print same = refl

    behind_renewing : (a : Ahead) (key : NewKey) (d : ℕ) → IsSound a.k.secy →
        IsSound (ahead_after_renewing a key).k.secy →
        IsBehind a d → IsBehind (ahead_after_renewing a key) d
    behind_renewing a key d sound sound' it = record {
      past = by_past it.past;
      below = subst (λ (k : Keeping). IsBelowNext k.secy bytes sci an d) (sym same) (below_renewing a.k key d sound
          it.below);
    }
      where
        s : State
        s = a.k.secy

        after : Ahead
        after = ahead_after_renewing a key

        same : after.k ≡ forgetting_after_renewing a.k key
        same = renewed_inside (forgetting_refusal a.k key) key a

        still_over : IsOver a.k bytes → IsOver after.k bytes
        still_over over = subst (λ k. IsOver k bytes) (sym same) (over_renewing giving laws a.k key bytes sound
            (subst (λ (k : Keeping). IsSound k.secy) same sound') over)

        new : NewKey
        new = as_taken a.k key

        number : new.number ≡ key.number
        number = taken_number (is_forgotten a.k (key_bytes key.bytes)) key
            (record key { bytes = key_of_fingerprint a.k.salt key.bytes }) refl

        given_up : renewal_refusal s new ≡ None → (n : ℕ) → IsAlive a d n → n ≡ new.number → IsGivenUp s n
        given_up fits n old at = by_case (takes_no_key_in_use s new fits)
          where
            by_case : (is_number_used s.keys new.number ≡ false) ⊎ IsGivenUp s new.number → IsGivenUp s n
            by_case (inl free) =
                let no : true ≡ false = ap is_some (sym old.found) ∙ ap (is_number_used s.keys) at ∙ free in
                cc
            by_case (inr up) = subst (IsGivenUp s) (sym at) up

        by_refusal : (r : Option Refusal) → forgetting_refusal a.k key ≡ r →
            (IsOver a.k bytes → IsOver (unless_not_renewed r key a).k bytes) → (n : ℕ) → IsAlive a d n →
            ((m : ℕ) × IsAlive (unless_not_renewed r key a) d m) ⊎ IsOver (unless_not_renewed r key a).k bytes
        by_refusal (Some r) is goes n old = inl (n, old)
        by_refusal None is goes n old = by_equal n new.number (λ at. inr (goes (subst (IsOver a.k) old.octets
            (over_now a.k (laws.keys_apart s sound) n old.row old.found (given_up fits n old at))))) (λ other. inl (
              n,
              record {
                row = old.row;
                found = other_stays s new fits n other ∙ old.found;
                octets = old.octets;
                past = omega (
                  arith,
                  old.past,
                  without_other key.number a.ended n sci an
                      (differs n key.number (λ at. other (at ∙ sym number))),
                );
              },
            ))
          where
            fits : renewal_refusal s new ≡ None
            fits = (both_fit (is_given_up a.k (key_bytes key.bytes)) (renewal_refusal s new) is).1

            differs : (i j : ℕ) → (i ≡ j → ⊥) → (i == j) ≡ false
            differs i j other = by_test (i == j) refl
              where
                by_test : (b : Bool) → (i == j) ≡ b → b ≡ false
                by_test true at = absurd (other (eqb-true i j at))
                by_test false at = refl

        by_past : ((n : ℕ) × IsAlive a d n) ⊎ IsOver a.k bytes → ((n : ℕ) × IsAlive after d n) ⊎ IsOver after.k bytes
        by_past (inl (n, old)) = by_refusal (forgetting_refusal a.k key) refl still_over n old
        by_past (inr over) = inr (still_over over)

    -- ---- every step

    pub behind_next : (a : Ahead) (input : KeepingInput) (d : ℕ) → IsSound a.k.secy →
        IsSound (ahead_renewing_step a input).1.k.secy → a.k.keeps ≡ true → IsBehind a d →
        IsBehind (ahead_renewing_step a input).1 d
    behind_next a (endpoint_input (operator_command (Key key))) d sound sound' keeps it =
        behind_renewing a key d sound sound' it
    behind_next a input d sound sound' keeps it = behind_forgetting a input d refl sound sound' keeps it

  -- what the journal reserved stays below the SA's next number
  floor_forgetting : (a : Ahead) (input : KeepingInput) (d : ℕ) → brings_key input ≡ false → IsSound a.k.secy →
      IsSound (ahead_forgetting_step a input).1.k.secy → a.k.keeps ≡ true →
      d ≤ highest a.k.before (receiving_name (sending_name a.k.salt bytes) sci an) →
      IsBelowNext a.k.secy bytes sci an d →
      IsBelowNext (ahead_forgetting_step a input).1.k.secy bytes sci an d
  floor_forgetting a input d brings sound sound' keeps within below = by_lets (lets_through a input) refl
    where
      by_lets : (b : Bool) → lets_through a input ≡ b →
          IsBelowNext (ahead_forgetting_step a input).1.k.secy bytes sci an d
      by_lets false lets = subst (λ (x : Ahead). IsBelowNext x.k.secy bytes sci an d)
          (sym (forgetting_stays a input lets)) below
      by_lets true lets =
          let same = forgets_inside a input lets in
          subst (λ (k : Keeping). IsBelowNext k.secy bytes sci an d) (sym same)
          (below_forgetting a.k input d brings sound (subst (λ (k : Keeping). IsSound k.secy) same sound')
          (λ row none there under. omega (
            arith,
            within,
            created_floor a.k input bytes sci an row brings keeps none there
                under,
          )) below)

  pub floor_next : (a : Ahead) (input : KeepingInput) (d : ℕ) → IsSound a.k.secy →
      IsSound (ahead_renewing_step a input).1.k.secy → a.k.keeps ≡ true →
      d ≤ highest a.k.before (receiving_name (sending_name a.k.salt bytes) sci an) →
      IsBelowNext a.k.secy bytes sci an d →
      IsBelowNext (ahead_renewing_step a input).1.k.secy bytes sci an d
  floor_next a (endpoint_input (operator_command (Key key))) d sound sound' keeps within below =
      subst (λ (k : Keeping). IsBelowNext k.secy bytes sci an d)
      (sym (renewed_inside (forgetting_refusal a.k key) key a)) (below_renewing a.k key d sound below)
  floor_next a input d sound sound' keeps within below = floor_forgetting a input d refl sound sound' keeps within below
