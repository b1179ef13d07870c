-- An endpoint stays sound when a new key takes the row of a retired key that no SA uses.
use Rattle.std.specs.Prelude.{cond, OnErr, OnOk}
use Rattle.macsec_aes.specs.Keys.{key_bytes}
use Rattle.macsec_suite.specs.{
  Keys.{has_wrong_length, has_wrong_offset},
  Renewing.{add_refusals, is_number_taken, keys_added, keys_renewing, renewed_row},
  declared.refusal.Refusal.TheVariants.{KeyLength, KeyNumberUsed, KeyRepeated, Offset, Window},
}
use Rattle.macsec_rx.specs.Commands.{HaveRxKeys}
use Rattle.macsec_secy.proofs.{
  Names.{[], ◌&&◌, ◌==◌, ◌||◌, ◌∙◌, ◌∷◌, ◌≡◌, ◌≤◌, ◌⊎◌, Agrees, All-cons, All-head, All-nil, All-tail, All-weaker},
  Names.{ap, AreKeyRows, at_number, Bool, effect, eqb-true, Err, false, first_refusal, HasOtherSsci, HaveUnusedNext},
  Names.{if◌then◌else◌, inl, inr, InstalledKey, is_number_used, is_own_ssci, is_repeated, is_retired, is_too_wide},
  Names.{IsReady, IsSome, IsSound, Key, key_row, keys_with, List, new_row, NewKey, no_key, None, not, Ok, Option},
  Names.{or_parts, refl, Refusal, refusal, refusal_of, Result, rx_uses, RxRow, Some, State, subst, Suite, suite_of, sym},
  Names.{true, tx_uses, TxRow, unwrap_or, ℕ},
  AfterCommands.{NoneHold, none_hold},
  KeysKept.{IsThere, same_number, there_after_change},
  OtherOctets.other_row,
  OtherSscis.HaveOtherSscis,
}
use Rattle.macsec_secy.specs.{
  Commands.uses,
  GivenUp.IsGivenUp,
  Renewing.{KeepsAllButKeys, KeepsOtherKeys, TakesNewOctets, TakesNoKeyInUse, renewal_refusal, renewing},
  Renewing.{state_after_renewing, unless_not_renewed},
}
use Rattle.macsec_secy.proofs.KeyBytes as bytes_of
use Rattle.macsec_secy.proofs.KeysKept as tx
use Rattle.macsec_secy.proofs.StaysSound as commands
use Rattle.macsec_secy.proofs.WidestWindow as widest

-- ---- the SAs

another : (suite : Suite) (keys : List InstalledKey) (key : NewKey) (n : ℕ) → (n == key.number) ≡ false → key_row (keys_renewing suite keys key) n ≡ key_row keys n
another suite keys key n differs = other_row (renewed_row suite key) (λ row. refl) keys key.number n differs

there_renewing : (suite : Suite) (keys : List InstalledKey) (key : NewKey) (n : ℕ) → IsThere keys n → IsThere (keys_renewing suite keys key) n
there_renewing suite keys key n there =
    there_after_change (at_number (renewed_row suite key) key.number) (same_number (renewed_row suite key) (λ row. refl) key.number) keys n there

-- each transmit SA has another key, with the packet number that it had
next_unused : (suite : Suite) (keys : List InstalledKey) (key : NewKey) (rows : List TxRow) → tx_uses rows key.number ≡ false → HaveUnusedNext keys rows →
    HaveUnusedNext (keys_renewing suite keys key) rows
next_unused suite keys key [] none have = tt
next_unused suite keys key (row ∷ rows) none have =
    let parts = or_parts (row.key == key.number) (tx_uses rows key.number) none in
    let same = sym (another suite keys key row.key parts.0) in (
      record { there = subst IsSome same have.0.there; next = subst (λ (o : Option InstalledKey). (unwrap_or o no_key).first_unused ≤ row.next) same have.0.next },
      have.1,
      next_unused suite keys key rows parts.1 have.2,
    )

-- each receive SA has another key, with the SSCI that it had
other_sscis : (suite : Suite) (keys : List InstalledKey) (key : NewKey) (rows : List RxRow) → rx_uses rows key.number ≡ false → HaveOtherSscis keys rows →
    HaveOtherSscis (keys_renewing suite keys key) rows
other_sscis suite keys key [] none have = All-nil (HasOtherSsci (keys_renewing suite keys key))
other_sscis suite keys key (row ∷ rows) none have =
    let parts = or_parts (row.key == key.number) (rx_uses rows key.number) none in
    let same = sym (another suite keys key row.key parts.0) in
    let has : HasOtherSsci keys row = All-head (HasOtherSsci keys) row rows have in
    All-cons (HasOtherSsci (keys_renewing suite keys key)) row rows
    (record { there = subst IsSome same has.there; other = subst (λ (o : Option InstalledKey). is_own_ssci (unwrap_or o no_key) row.ssci ≡ false) same has.other })
    (other_sscis suite keys key rows parts.1 (All-tail (HasOtherSsci keys) row rows have))

rx_keys : (suite : Suite) (keys : List InstalledKey) (key : NewKey) (rows : List RxRow) → HaveRxKeys keys rows → HaveRxKeys (keys_renewing suite keys key) rows
rx_keys suite keys key rows have =
    All-weaker (λ (row : RxRow). IsThere keys row.key) (λ (row : RxRow). IsThere (keys_renewing suite keys key) row.key) (λ row there. there_renewing suite keys key row.key there) rows have

-- ---- the endpoint

agrees_after : (s : State) (key : NewKey) → AreKeyRows s.keys → is_repeated s.keys (key_bytes key.bytes) ≡ false → uses s key.number ≡ false → Agrees s →
    Agrees (record s { keys = keys_renewing (suite_of s.config.suite key) s.keys key })
agrees_after s key are none unused agrees =
    let suite = suite_of s.config.suite key in
    let parts = or_parts (tx_uses s.tx key.number) (rx_uses s.rx.rows key.number) unused in
    assumption (
      bytes_of.with_a_key_changed (key_bytes key.bytes) (renewed_row suite key) (λ row. refl) s.keys key.number are none agrees.key_bytes,
      next_unused suite s.keys key s.tx parts.0 agrees.unused_next,
      other_sscis suite s.keys key s.rx.rows parts.1 agrees.other_sscis,
    )

-- the new key takes the row of a retired key
in_its_row : (s : State) (key : NewKey) → first_refusal (add_refusals true (suite_of s.config.suite key) s.options.window s.keys key) ≡ None → uses s key.number ≡ false →
    AreKeyRows (keys_renewing (suite_of s.config.suite key) s.keys key) → IsSound s → IsSound (record s { keys = keys_renewing (suite_of s.config.suite key) s.keys key })
in_its_row s key e unused are sound =
    let suite = suite_of s.config.suite key in
    let none = none_hold (add_refusals true suite s.options.window s.keys key) e in
    assumption (
      are,
      widest.with_one_renewed suite s.keys key s.options.window none.1.1.1.1.0 sound.window,
      tx.with_a_key_changed (renewed_row suite key) (λ row. refl) s.keys s.tx key.number sound.tx_keys,
      rx_keys suite s.keys key s.rx.rows sound.rx_keys,
      agrees_after s key sound.keys none.1.1.1.0 unused sound.agrees,
    )

-- it gets a row at the end, as by the command
at_the_end : (s : State) (key : NewKey) → refusal s (Key key) ≡ None → AreKeyRows (effect s (Key key)).keys → IsSound s → IsSound (effect s (Key key))
at_the_end s key e are sound = commands.after_effect s (Key key) e (record { keys = are; tx = sound.tx; rx = sound.rx }) sound

-- the refusals of a number that no key has are the command's
refusals_alike : (s : State) (key : NewKey) → is_number_used s.keys key.number ≡ false →
    first_refusal (add_refusals true (suite_of s.config.suite key) s.options.window s.keys key) ≡ None → refusal s (Key key) ≡ None
refusals_alike s key free e =
    let suite = suite_of s.config.suite key in
    let lines : Bool → Option Refusal = λ taken. first_refusal (
    (KeyLength, has_wrong_length suite key.bytes) ∷ (Offset, has_wrong_offset suite key.offset) ∷ (KeyNumberUsed, taken) ∷
    (KeyRepeated, is_repeated s.keys (key_bytes key.bytes)) ∷ (Window, is_too_wide suite s.options.window) ∷ []) in
    let taken : is_number_taken true s.keys key.number ≡ false = rw free refl in
    ap lines (free ∙ sym taken) ∙ e

after_renewing : (s : State) (key : NewKey) → renewal_refusal s key ≡ None → AreKeyRows (renewing key s).keys → IsSound s → IsSound (renewing key s)
after_renewing s key e are sound = by_use (uses s key.number) refl e are
  where
    suite : Suite
    suite = suite_of s.config.suite key

    by_number : (used : Bool) → is_number_used s.keys key.number ≡ used → uses s key.number ≡ false → first_refusal (add_refusals true suite s.options.window s.keys key) ≡ None →
        AreKeyRows (if used then keys_renewing suite s.keys key else (effect s (Key key)).keys) →
        IsSound (record s { keys = if used then keys_renewing suite s.keys key else (effect s (Key key)).keys })
    by_number true is unused e' are' = in_its_row s key e' unused are' sound
    by_number false is unused e' are' = at_the_end s key (refusals_alike s key is e') are' sound

    by_use : (in_use : Bool) → uses s key.number ≡ in_use → first_refusal (add_refusals (not in_use) suite s.options.window s.keys key) ≡ None →
        AreKeyRows (keys_added (not in_use) suite s.keys key) → IsSound (record s { keys = keys_added (not in_use) suite s.keys key })
    by_use true is e' are' = at_the_end s key e' are' sound
    by_use false is e' are' = by_number (is_number_used s.keys key.number) refl is e' are'

-- if the table of keys takes the new key, or refuses it and stays unchanged
pub ready_by_keys : (s : State) (key : NewKey) (keys : List InstalledKey) (answer : Result (Unit {0}) Refusal) (room : ℕ) → refusal_of answer ≡ renewal_refusal s key →
    OnOk answer (keys ≡ (renewing key s).keys) → OnErr answer (keys ≡ s.keys) → OnOk answer (AreKeyRows keys) → IsReady s room → IsReady (record s { keys = keys }) room
ready_by_keys s key keys (Ok done) room refuses ok err are ready =
    let same : record s { keys = keys } ≡ renewing key s = ap {B = State} (λ k. record s { keys = k }) ok in
    record { sound = subst IsSound (sym same) (after_renewing s key (sym refuses) (subst AreKeyRows ok are) ready.sound); room = ready.room }
ready_by_keys s key keys (Err r) room refuses ok err are ready =
    record { sound = subst IsSound (sym (ap {B = State} (λ k. record s { keys = k }) err)) ready.sound; room = ready.room }

pub left_by_keys : (s : State) (key : NewKey) (keys : List InstalledKey) (answer : Result (Unit {0}) Refusal) → refusal_of answer ≡ renewal_refusal s key →
    OnOk answer (keys ≡ (renewing key s).keys) → OnErr answer (keys ≡ s.keys) → record s { keys = keys } ≡ state_after_renewing key s
left_by_keys s key keys (Ok done) refuses ok err = ap {B = State} (λ k. record s { keys = k }) ok ∙ ap (λ r. unless_not_renewed r key s) refuses
left_by_keys s key keys (Err r) refuses ok err = ap {B = State} (λ k. record s { keys = k }) err ∙ ap (λ r. unless_not_renewed r key s) refuses

-- ---- what renewing keeps

-- a row at the end is found by its own number alone
other_with : (suite : Suite) (keys : List InstalledKey) (key : NewKey) (n : ℕ) → (n ≡ key.number → ⊥) → key_row (keys_with suite keys key) n ≡ key_row keys n
other_with suite [] key n other = at_end (key.number == n) refl
  where
    at_end : (b : Bool) → (key.number == n) ≡ b → cond b (Some (new_row suite key)) None ≡ None
    at_end true is = absurd (other (sym (eqb-true key.number n is)))
    at_end false is = refl
other_with suite (first ∷ keys) key n other = ap (λ rest. cond (first.number == n) (Some first) rest) (other_with suite keys key n other)

pub keeps_other_keys : (s : State) (key : NewKey) (n : ℕ) → KeepsOtherKeys s key n
keeps_other_keys s key n other = by_refusal (renewal_refusal s key)
  where
    suite : Suite
    suite = suite_of s.config.suite key

    differs : (n == key.number) ≡ false
    differs = by_test (n == key.number) refl
      where
        by_test : (b : Bool) → (n == key.number) ≡ b → b ≡ false
        by_test true same = absurd (other (eqb-true n key.number same))
        by_test false same = refl

    by_place : (b : Bool) → key_row (if b then keys_renewing suite s.keys key else keys_with suite s.keys key) n ≡ key_row s.keys n
    by_place true = another suite s.keys key n differs
    by_place false = other_with suite s.keys key n other

    by_refusal : (r : Option Refusal) → key_row (unless_not_renewed r key s).keys n ≡ key_row s.keys n
    by_refusal None = by_place (not (uses s key.number) && is_number_used s.keys key.number)
    by_refusal (Some r) = refl

pub keeps_all_but_keys : (s : State) (key : NewKey) → KeepsAllButKeys s key
keeps_all_but_keys s key = by_refusal (renewal_refusal s key)
  where
    by_refusal : (r : Option Refusal) → unless_not_renewed r key s ≡ record s { keys = (unless_not_renewed r key s).keys }
    by_refusal None = refl
    by_refusal (Some r) = refl

pub takes_no_key_in_use : (s : State) (key : NewKey) → TakesNoKeyInUse s key
takes_no_key_in_use s key e = by_tests (uses s key.number) (is_number_used s.keys key.number) (is_retired s.keys key.number) refl refl refl none.1.1.0
  where
    none : NoneHold (add_refusals (not (uses s key.number)) (suite_of s.config.suite key) s.options.window s.keys key)
    none = none_hold (add_refusals (not (uses s key.number)) (suite_of s.config.suite key) s.options.window s.keys key) e

    by_tests : (in_use used retired : Bool) → uses s key.number ≡ in_use → is_number_used s.keys key.number ≡ used → is_retired s.keys key.number ≡ retired →
        (if not in_use then used && not retired else used) ≡ false → (is_number_used s.keys key.number ≡ false) ⊎ IsGivenUp s key.number
    by_tests true true retired in_use' used' retired' free = cc
    by_tests true false retired in_use' used' retired' free = inl used'
    by_tests false true true in_use' used' retired' free = inr (record { retired = retired'; unused = in_use' })
    by_tests false true false in_use' used' retired' free = cc
    by_tests false false retired in_use' used' retired' free = inl used'

pub takes_new_octets : (s : State) (key : NewKey) → TakesNewOctets s key
takes_new_octets s key e = (none_hold (add_refusals (not (uses s key.number)) (suite_of s.config.suite key) s.options.window s.keys key) e).1.1.1.0
