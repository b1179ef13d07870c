-- An endpoint stays sound when the octets of a key are replaced by octets that no key has.
use Rattle.std.{proofs.lemmas.Bool.not-true, specs.Bool.{OnTrue, OnFalse}}
use Rattle.macsec_suite.specs.Replacing.{can_have}
use Rattle.macsec_secy.proofs.{
  Names.{◌∙◌, ◌≡◌, Agrees, and_parts, ap, AreKeyRows, Bool, can_replace, false, holds_of, if◌then◌else◌, InstalledKey},
  Names.{is_repeated, IsReady, IsSound, key_row, keys_replacing, List, not, replacing, State, state_after_replacing},
  Names.{refl, subst, sym, true, with_bytes, ℕ},
  FirstUnused.first-replacing,
  UnusedNext.{KeysStay, with_keys},
}
use Rattle.macsec_secy.proofs.KeyBytes as bytes_of
use Rattle.macsec_secy.proofs.KeysKept as tx
use Rattle.macsec_secy.proofs.OtherSscis as sscis
use Rattle.macsec_secy.proofs.RxKeysKept as rx
use Rattle.macsec_secy.proofs.WidestWindow as widest

agrees_after : (s : State) (n : ℕ) (bytes : List ℕ) → is_repeated s.keys bytes ≡ false → AreKeyRows s.keys → Agrees s → Agrees (replacing n bytes s)
agrees_after s n bytes none are agrees =
    let stay : KeysStay s.keys (keys_replacing s.keys n bytes) =
    record { there = λ m. tx.there_replacing s.keys n bytes m; first = λ m. first-replacing s.keys n bytes m } in
    assumption (
      bytes_of.with_a_key_changed bytes (with_bytes bytes) (λ key. refl) s.keys n are none agrees.key_bytes,
      with_keys s.keys (keys_replacing s.keys n bytes) stay s.tx agrees.unused_next,
      sscis.with_a_key_replaced s.keys s.rx.rows n bytes agrees.other_sscis,
    )

after_replacing : (s : State) (n : ℕ) (bytes : List ℕ) → can_replace s.keys n bytes ≡ true → AreKeyRows (keys_replacing s.keys n bytes) → IsSound s → IsSound (replacing n bytes s)
after_replacing s n bytes can are sound =
    let none : is_repeated s.keys bytes ≡ false =
    not-true (is_repeated s.keys bytes) (and_parts (holds_of (can_have bytes) (key_row s.keys n)) (not (is_repeated s.keys bytes)) can).1 in
    assumption (
      are,
      widest.with_one_replaced s.keys n bytes s.options.window sound.window,
      tx.with_a_key_replaced s.keys s.tx n bytes sound.tx_keys,
      rx.with_a_key_replaced s.keys s.rx.rows n bytes sound.rx_keys,
      agrees_after s n bytes none sound.keys sound.agrees,
    )

-- what the table of keys gives for the endpoint, if it replaces them or refuses and stays unchanged
pub ready_by_keys : (s : State) (n : ℕ) (bytes : List ℕ) (keys : List InstalledKey) (answer : Bool) (room : ℕ) → answer ≡ can_replace s.keys n bytes →
    OnTrue answer (keys ≡ keys_replacing s.keys n bytes) → OnFalse answer (keys ≡ s.keys) → OnTrue answer (AreKeyRows keys) → IsReady s room → IsReady (record s { keys = keys }) room
ready_by_keys s n bytes keys true room can replaced unchanged are ready =
    let same : record s { keys = keys } ≡ replacing n bytes s = ap {B = State} (λ k. record s { keys = k }) replaced in
    record { sound = subst IsSound (sym same) (after_replacing s n bytes (sym can) (subst AreKeyRows replaced are) ready.sound); room = ready.room }
ready_by_keys s n bytes keys false room can replaced unchanged are ready =
    record { sound = subst IsSound (sym (ap {B = State} (λ k. record s { keys = k }) unchanged)) ready.sound; room = ready.room }

pub left_by_keys : (s : State) (n : ℕ) (bytes : List ℕ) (keys : List InstalledKey) (answer : Bool) → answer ≡ can_replace s.keys n bytes →
    OnTrue answer (keys ≡ keys_replacing s.keys n bytes) → OnFalse answer (keys ≡ s.keys) → record s { keys = keys } ≡ state_after_replacing n bytes s
left_by_keys s n bytes keys true can replaced unchanged =
    ap {B = State} (λ k. record s { keys = k }) replaced ∙ ap {B = State} (λ (b : Bool). if b then replacing n bytes s else s) can
left_by_keys s n bytes keys false can replaced unchanged =
    ap {B = State} (λ k. record s { keys = k }) unchanged ∙ ap {B = State} (λ (b : Bool). if b then replacing n bytes s else s) can
