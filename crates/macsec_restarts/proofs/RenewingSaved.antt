-- What a run accepted and saved is not delivered again, of endpoints that renew keys: the lowest acceptable packet
-- number of each SA stays above what the journal had saved under the SA's name.
use Rattle.macsec_ahead.specs.Renewing.{unless_refused}
use Rattle.macsec_reserve.specs.{
  Forgetting.{as_taken, fingerprint_of, input_taken},
  Keeping.key_name,
  Renewing.forgetting_refusal,
}
use Rattle.macsec_restarts.{
  proofs.{
    AheadEnds.{keeping_row_step, retires},
    AheadForgets.by_forgetting,
    AheadPast.not_used,
    ForgettingEnds.{above_accepted, above_forgetting, saved_covers, Saves, Tells},
    Names.{[], ◌&&◌, ◌+◌, ◌<◌, ◌==◌, ◌∙◌, ◌∷◌, ◌≡◌, ◌≤◌, ◌⊎◌, Ahead, All, All-contains, All-head, All-tail, Answer, ap},
    Names.{arith, Bool, by_tests, can_replace, contained, endpoint_input, eqb-true, false, forgetting, forgetting_step},
    Names.{highest, if◌then◌else◌, inl, Input, inr, InstalledKey, is_below_floor, is_done, IsAbove, IsGivenUp},
    Names.{IsMember, IsSome, IsSound, judgement_of, Keeping, keeping_step, KeepingInput, KeepsAssociation, Key},
    Names.{leb-false, link_frame, List, ltb-false, may_go, nat_le, nat_lt, None, now_durable, operator_command, Option},
    Names.{receiving_name, reduced_reserves, refl, Refusal, refusal, reported, reservations, Retire, row_name},
    Names.{RunWith, rx_row, RxRow, RxSa, salt_of, Sci, sending_name, Some, State, step, subst, suc, sym, take, the_key},
    Names.{true, unless_refused as unless_command, unwrap_or, ℕ},
    RenewingAhead.goes_inside,
    RenewingEnds.{after_same, after_steps, next_of, row_key},
    RenewingKeepers.{Goes, goes_forgetting},
    RenewingSteps.{forgets, IsStep, keys_keeping, not_refused, renewed_row, renewing_is, renews, rx_renewing, stays},
    RenewingSteps.up_or_other,
    RowSteps.{found_at, found_row, IsCreatedBy, IsLaterRow, RowStep, same_place},
    Sends.by_keeping,
  },
  specs.{
    RenewingEnds.{HasSavedRenewing, NeverDeliversAgainRenewing, NeverDeliversAgainUnderRenewing},
    RenewingRuns.{ahead_renewing_after, opening_of},
  },
}
use Rattle.macsec_rx.specs.Channels.{Channels}
use Rattle.macsec_secy.{proofs.OtherOctets.another, specs.Renewing.{renewal_refusal, renewing}}
use Rattle.macsec_suite.specs.{KeyRows.{key_row, no_key}, declared.key_row.NewKey.NewKey}
use Rattle.std.proofs.lemmas.Bool.{and_cases}

-- ---- what a step keeps: no floor falls

goes_step : (a after : Ahead) → IsStep a after → Goes a.k after.k
goes_step a _ (forgets input) = by_forgetting (Goes a.k) a input
    (record { keeps = refl; salt = refl; floors = λ name. omega arith }) (goes_forgetting a.k input)
goes_step a _ (renews key) = goes_inside a (endpoint_input (operator_command (Key key)))
goes_step a _ stays = record { keeps = refl; salt = refl; floors = λ name. omega arith }

-- ---- SAs of one name, and a number below which they accept nothing

module _ (name : List ℕ) (n : ℕ) where
  abbrev AreAbove : List ℕ → State → Type 0
  AreAbove salt s = (sci : Sci) (an : ℕ) (row : RxRow) → rx_row s.rx.rows sci an ≡ Some row →
      row_name salt s row ≡ name → n < row.lowest

  -- the SAs stay, with their keys
  same_names : (salt : List ℕ) (s after : State) → after.rx ≡ s.rx → ((row : RxRow) → IsMember s.rx.rows row →
      key_row after.keys row.key ≡ key_row s.keys row.key) → AreAbove salt s → AreAbove salt after
  same_names salt s after rx keys above sci an row there is_name =
      let there' : rx_row s.rx.rows sci an ≡ Some row =
      ap (λ (x : Channels). rx_row x.rows sci an) (sym rx) ∙ there in
      let same = keys row (found_row sci an s.rx.rows row there') in
      above sci an row there' (ap (λ (o : Option InstalledKey). receiving_name
      (sending_name salt (unwrap_or o no_key).bytes) row.sci row.an) (sym same) ∙ is_name)

  -- ---- the step of the keeping endpoint

  module _ (k : Keeping) (input : Input) (keeps : k.keeps ≡ true) (floor : n ≤ highest k.before name) where
    abbrev after : State
    after = (keeping_step k (endpoint_input input)).1.secy

    -- an SA that it creates begins above the number
    created : (sci : Sci) (an : ℕ) (row : RxRow) → rx_row k.secy.rx.rows sci an ≡ None → rx_row after.rx.rows sci an ≡
        Some row → row_name k.salt after row ≡ name → IsCreatedBy input row → n < row.lowest
    created sci an row none there is_name it =
        let fresh = not_below k.keeps row.lowest (highest k.before (row_name k.salt k.secy row)) keeps it.least
        (ap (is_below_floor k) (sym it.is) ∙ passed (is_below_floor k input) (may_go k input) there) in
        let same : row_name k.salt k.secy row ≡ name = ap (λ (keys : List InstalledKey). receiving_name
        (key_name k.salt keys row.key) row.sci row.an) (sym same_keys) ∙ is_name in
        let floor' : highest k.before (row_name k.salt k.secy row) ≡ highest k.before name =
        ap (highest k.before) same in
        omega (arith, floor, fresh, floor')
      where
        not_below : (keeps' : Bool) (first last : ℕ) → keeps' ≡ true → 1 ≤ first →
            (keeps' && (nat_lt 0 first && nat_le first last)) ≡ false → last < first
        not_below false first last is least new = cc
        not_below true first last is least new = by_part (and_cases (nat_lt 0 first) (nat_le first last) new)
          where
            by_part : (nat_lt 0 first ≡ false) ⊎ (nat_le first last ≡ false) → last < first
            by_part (inl none') = absurd (omega (arith, least, ltb-false 0 first none'))
            by_part (inr above') = leb-false first last above'

        passed : (below go : Bool) →
            rx_row (by_tests below go k (step k.secy input)).1.secy.rx.rows sci an ≡ Some row → below ≡ false
        passed true go there' = let no : None ≡ Some row = sym none ∙ there' in cc
        passed false go there' = refl

        command : Input
        command = operator_command (RxSa row.sci row.an row.key it.ssci row.lowest)

        by_refusal : (r : Option Refusal) →
            (unless_command r k.secy (RxSa row.sci row.an row.key it.ssci row.lowest)).keys ≡ k.secy.keys
        by_refusal None = refl
        by_refusal (Some r) = refl

        same_keys : after.keys ≡ k.secy.keys
        same_keys = subst (λ i. (keeping_step k (endpoint_input i)).1.secy.keys ≡ k.secy.keys) (sym it.is)
            (by_keeping (λ s. s.keys ≡ k.secy.keys) k command refl
            (by_refusal (refusal k.secy (RxSa row.sci row.an row.key it.ssci row.lowest))))

    above_keeping : IsSound k.secy → AreAbove k.salt k.secy → AreAbove k.salt after
    above_keeping sound above sci an row there is_name = by_row (rx_row k.secy.rx.rows sci an) refl
      where
        stepped : RowStep input (rx_row k.secy.rx.rows sci an) (Some row)
        stepped = rw there at (keeping_row_step k input sci an)

        name_of : List ℕ → Sci → ℕ → List ℕ
        name_of bytes x i = receiving_name (sending_name k.salt bytes) x i

        by_row : (o : Option RxRow) → rx_row k.secy.rx.rows sci an ≡ o → n < row.lowest
        by_row None none = created sci an row none there is_name
            (subst (λ o. RowStep input o (Some row)) none stepped)
        by_row (Some earlier) here =
            let it : IsLaterRow earlier row = subst (λ o. RowStep input o (Some row)) here stepped in
            let own = same_place earlier.sci sci earlier.an an (found_at k.secy.rx.rows sci an earlier here) in
            let own' = same_place row.sci sci row.an an (found_at after.rx.rows sci an row there) in
            let key = keys_keeping k (endpoint_input input) earlier.key (row_key k.secy sound sci an earlier here) in
            let same : row_name k.salt k.secy earlier ≡ row_name k.salt after row =
            ap (λ b. name_of b earlier.sci earlier.an) (sym key.bytes)
            ∙ ap (λ m. name_of (the_key after.keys m).bytes earlier.sci earlier.an) (sym it.key)
            ∙ ap (λ x. name_of (the_key after.keys row.key).bytes x earlier.an) (own.0 ∙ sym own'.0)
            ∙ ap (λ i. name_of (the_key after.keys row.key).bytes row.sci i) (own.1 ∙ sym own'.1) in
            omega (arith, above sci an earlier here (same ∙ is_name), it.lowest)

  -- ---- the step of an endpoint that renews keys

  above_forgetting_keys : (k : Keeping) (input : KeepingInput) → k.keeps ≡ true → n ≤ highest k.before name →
      IsSound k.secy → AreAbove k.salt k.secy → AreAbove k.salt (forgetting_step k input).1.secy
  above_forgetting_keys k (now_durable r) keeps floor sound above = above
  above_forgetting_keys k (endpoint_input (operator_command (Retire m))) keeps floor sound above =
      by_both (is_done answer.0) (can_replace answer.1.secy.keys m (fingerprint_of answer.1 m)) refl
    where
      answer : Answer
      answer = keeping_step k (endpoint_input (operator_command (Retire m)))

      stepped : AreAbove k.salt answer.1.secy
      stepped = above_keeping k (operator_command (Retire m)) keeps floor sound above

      differs : (row : RxRow) → (row.key ≡ m → ⊥) → (b : Bool) → (row.key == m) ≡ b → b ≡ false
      differs row other true same = absurd (other (eqb-true row.key m same))
      differs row other false _ = refl

      by_both : (done can : Bool) → is_done answer.0 ≡ done →
          AreAbove k.salt (if done && can then forgetting answer.1 m else answer.1).secy
      by_both true true is = same_names k.salt answer.1.secy (forgetting answer.1 m).secy refl (λ row there.
          another answer.1.secy.keys m (fingerprint_of answer.1 m) row.key (differs row
          (not_used answer.1.secy m (retires k m is) row there) (row.key == m) refl)) stepped
      by_both true false is = stepped
      by_both false can is = stepped
  above_forgetting_keys k (endpoint_input input) keeps floor sound above =
      above_keeping k (input_taken k input) keeps floor sound above

  above_key : (a : Ahead) (key : NewKey) → IsSound a.k.secy → AreAbove a.k.salt a.k.secy → (r : Option Refusal) →
      forgetting_refusal a.k key ≡ r → AreAbove a.k.salt (unless_refused r key a).k.secy
  above_key a key sound above (Some r) is = above
  above_key a key sound above None is =
      same_names a.k.salt s (renewing new s) refl (λ row there.
      by_case row (up_or_other s new row.key none (has_key row there)) there) above
    where
      s : State
      s = a.k.secy

      new : NewKey
      new = as_taken a.k key

      none : renewal_refusal s new ≡ None
      none = not_refused a.k key is

      has_key : (row : RxRow) → IsMember s.rx.rows row → IsSome (key_row s.keys row.key)
      has_key row there = All-contains (λ r. IsSome (key_row s.keys r.key)) s.rx.rows row sound.rx_keys
          (contained s.rx.rows row there)

      by_case : (row : RxRow) → IsGivenUp s row.key ⊎ (row.key ≡ new.number → ⊥) → IsMember s.rx.rows row →
          key_row (renewing new s).keys row.key ≡ key_row s.keys row.key
      by_case row (inl up) there = absurd (not_used s row.key up row there refl)
      by_case row (inr other) there = renewed_row s new row.key none other

  above_step : (a after : Ahead) → IsStep a after → a.k.keeps ≡ true → n ≤ highest a.k.before name → IsSound a.k.secy →
      AreAbove a.k.salt a.k.secy → AreAbove a.k.salt after.k.secy
  above_step a _ (forgets input) keeps floor sound above = by_forgetting (λ k. AreAbove a.k.salt k.secy) a input above
      (above_forgetting_keys a.k input keeps floor sound above)
  above_step a _ (renews key) keeps floor sound above = above_key a key sound above (forgetting_refusal a.k key) refl
  above_step a _ stays keeps floor sound above = above

  -- ---- several steps

  module _ {C : Type 0} (step : Ahead → C → Ahead) (is_step : (a : Ahead) (c : C) → IsStep a (step a c)) where
    above_after : (cs : List C) (a : Ahead) → ((m : ℕ) → IsSound (after_steps step is_step a (take m cs)).k.secy) →
        a.k.keeps ≡ true → n ≤ highest a.k.before name → AreAbove a.k.salt a.k.secy →
        AreAbove a.k.salt (after_steps step is_step a cs).k.secy
    above_after [] a sound keeps floor above = above
    above_after (c ∷ cs) a sound keeps floor above =
        let next = step a c in
        let it = goes_step a next (is_step a c) in
        let last = (after_steps step is_step next cs).k.secy in
        subst (λ salt. AreAbove salt last) it.salt (above_after cs next (λ m. sound (suc m)) (it.keeps ∙ keeps)
        (omega (arith, floor, it.floors name)) (subst (λ salt. AreAbove salt next.k.secy) (sym it.salt)
        (above_step a next (is_step a c) keeps floor (sound 0) above)))

-- ---- several steps of two endpoints

-- the step deletes no SA of this SC and number
abbrev pub KeepsBy : {a after : Ahead} → IsStep a after → Sci → ℕ → Type 0
KeepsBy (forgets input) sci an = KeepsAssociation sci an input
KeepsBy (renews key) sci an = Unit {0}
KeepsBy stays sci an = Unit {0}

row_kept : (a after : Ahead) (it : IsStep a after) (sci : Sci) (an n : ℕ) → KeepsBy it sci an →
    IsAbove a.k.secy.rx.rows sci an n → IsAbove after.k.secy.rx.rows sci an n
row_kept a _ (forgets input) sci an n keeps above = above_forgetting a input sci an n keeps above
row_kept a _ (renews key) sci an n keeps above =
    subst (λ (x : Channels). IsAbove x.rows sci an n) (sym (rx_renewing (forgetting_refusal a.k key) key a)) above
row_kept a _ stays sci an n keeps above = above

module _ {C : Type 0} (step : Ahead → C → Ahead) (is_step : (a : Ahead) (c : C) → IsStep a (step a c)) where
  -- an SA that is not deleted keeps its next number
  pub above_on : (Keeps : C → Type 0) (sci : Sci) (an n : ℕ) →
      ((a : Ahead) (c : C) → Keeps c → KeepsBy (is_step a c) sci an) → (cs : List C) (a : Ahead) → All Keeps cs →
      IsAbove a.k.secy.rx.rows sci an n → IsAbove (after_steps step is_step a cs).k.secy.rx.rows sci an n
  above_on Keeps sci an n is_kept [] a keeps above = above
  above_on Keeps sci an n is_kept (c ∷ cs) a keeps above =
      above_on Keeps sci an n is_kept cs (step a c) (All-tail Keeps c cs keeps)
      (row_kept a (step a c) (is_step a c) sci an n (is_kept a c (All-head Keeps c cs keeps)) above)

  sound_at_end : (cs : List C) (a : Ahead) → ((m : ℕ) → IsSound (after_steps step is_step a (take m cs)).k.secy) →
      IsSound (after_steps step is_step a cs).k.secy
  sound_at_end [] a sound = sound 0
  sound_at_end (c ∷ cs) a sound = sound_at_end cs (step a c) (λ m. sound (suc m))

  -- what is delivered is above what earlier runs had saved under the SA's name
  pub above_saved : Tells → (a : Ahead) (cs : List C) (name : List ℕ) → a.k.keeps ≡ true → a.k.secy.rx.rows ≡ [] →
      ((m : ℕ) → IsSound (after_steps step is_step a (take m cs)).k.secy) →
      (frame : List ℕ) (row : RxRow) (delivered : List ℕ) →
      let s = (after_steps step is_step a cs).k.secy in
      s.options.replay ≡ true → (judgement_of s frame).row ≡ Some row →
      (judgement_of s frame).delivered ≡ Some delivered → row_name a.k.salt s row ≡ name →
      highest a.k.before name < (judgement_of s frame).number
  above_saved tells a cs name keeps none sound frame row delivered replay of_row delivers is_name =
      let s = (after_steps step is_step a cs).k.secy in
      let it = tells s frame row delivered (sound_at_end cs a sound) of_row delivers in
      let above = above_after name (highest a.k.before name) step is_step cs a sound keeps (omega arith)
      (λ sci an first there is. let no : None ≡ Some first = ap (λ (rows : List RxRow). rx_row rows sci an) (sym none)
      ∙ there in cc) in
      omega (arith, above row.sci row.an row it.at_place is_name, it.on_time replay)

-- ---- two runs

pub keeps_by : (sci : Sci) (an : ℕ) (a : Ahead) (input : KeepingInput) → KeepsAssociation sci an input →
    KeepsBy (renewing_is a input) sci an
keeps_by sci an a (endpoint_input (operator_command (Key key))) = λ keeps. tt
keeps_by sci an a input = λ keeps. keeps

saves_accepted : Tells → Saves → (r : RunWith) (name : List ℕ) (n : ℕ) → HasSavedRenewing r name n →
    n ≤ highest (reported r.run) name
saves_accepted tells saves r name n saved =
    let sci = saved.from.sci in
    let an = saved.from.an in
    let next = next_of saved.first (endpoint_input (link_frame saved.frame)) in
    let first : IsAbove next.k.secy.rx.rows sci an (n + 1) = above_accepted tells saved.first saved.frame saved.from n
    saved.sound saved.accepted saved.passes saved.number in
    let then_on : IsAbove (after_steps next_of renewing_is next saved.then_on).k.secy.rx.rows sci an (n + 1) =
    above_on next_of renewing_is (KeepsAssociation sci an) sci an (n + 1) (keeps_by sci an) saved.then_on next
    saved.keeps first in
    let at_last : IsAbove saved.last.k.secy.rx.rows sci an (n + 1) =
    rw (saved.last_is, ← after_same saved.then_on next) then_on in
    saved_covers saves saved.last sci an saved.row n name (reported r.run) saved.sound_last saved.window saved.there
    at_last saved.name_is saved.durable

pub never_delivers_again_renewing : Tells → Saves → (r later : RunWith) (name : List ℕ) (n : ℕ) →
    NeverDeliversAgainRenewing r later name n
never_delivers_again_renewing tells saves r later name n saved reads sound frame row delivered =
    let inputs = later.run.inputs in
    let first = opening_of later in
    let P : Ahead → Type 0 = λ x. let j = judgement_of x.k.secy frame in x.k.secy.options.replay ≡ true →
    j.row ≡ Some row → j.delivered ≡ Some delivered → row_name first.k.salt x.k.secy row ≡ name →
    highest first.k.before name < j.number in
    let above : P (ahead_renewing_after first inputs) = subst P (after_same inputs first)
    (above_saved next_of renewing_is tells first inputs name refl refl
    (λ m. rw (after_same (take m inputs) first) (sound m)) frame row delivered) in
    λ replay of_row delivers is_name. omega (
      arith,
      saves_accepted tells saves r name n saved,
      reads,
      reduced_reserves (reservations later.run.journal) name,
      above replay of_row delivers is_name,
    )

pub never_delivers_again_under_renewing : Tells → Saves → (r later : RunWith) (bytes : List ℕ) (sci : Sci)
    (an n : ℕ) → NeverDeliversAgainUnderRenewing r later bytes sci an n
never_delivers_again_under_renewing tells saves r later bytes sci an n saved salt reads sound frame row delivered replay
    of_row delivers is_key is_sci is_an =
    never_delivers_again_renewing tells saves r later
    (receiving_name (sending_name (salt_of r.run.journal) bytes) sci an) n saved reads sound frame row delivered replay
    of_row delivers (rw (is_key, salt, is_sci, is_an))
