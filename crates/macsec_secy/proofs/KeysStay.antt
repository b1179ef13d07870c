-- The configuration and the keys of an endpoint stay, whatever the input.
use Rattle.std.proofs.lemmas.List.Elements.{Contains-append_left}
use Rattle.macsec_secy.proofs.{
  Names.{◌==◌, ◌≡◌, ◌≤◌, ap, AreKeyRows, arith, at_number, Bool, client_frame, Command, Contains, effect, eqb-true},
  Names.{false, frame_fault, FrameFault, HasUnusedNext, if◌then◌else◌, Input, InstalledKey, IsSound, judgement_of, Key},
  Names.{key_row, keys_after, keys_noting, leaves, link_frame, List, map, no_key, None, operator_command, Option},
  Names.{Output, Protect, received_output, refl, Refusal, refusal, Replay, Retire, retired_row, row_noting, RxDel},
  Names.{RxLow, RxOff, RxOn, RxSa, RxSc, RxScDel, sending_of, sent_output, Some, State, state_after_receiving},
  Names.{state_after_sending, step, subst, Tag, the_key, true, tx_options, TxDel, TxOff, TxOn, TxRow, TxSa},
  Names.{uncontrolled_frame, unless_fault, unless_refused, unwrap_or, Validate, ℕ},
  Contained.Contains-map,
  KeysApart.found_by_number,
  ProtectedBy.protected_by,
  UnusedNext.on_unused,
}
use Rattle.macsec_secy.specs.Kept.{IsLaterKey, KeyStaysIn, KeysStay}

abbrev StayIn : List InstalledKey → List InstalledKey → Type 0
StayIn keys after = (key : InstalledKey) → Contains keys key → KeyStaysIn after key

same_key : (key : InstalledKey) → IsLaterKey key key
same_key key = record { number = refl; suite = refl; bytes = refl; salt = refl; ssci = refl; offset = refl; first_unused = omega arith }

all_stay : (keys : List InstalledKey) → StayIn keys keys
all_stay keys key there = record { later = key; there = there; is_later = same_key key }

changed : (f : InstalledKey → InstalledKey) (keys : List InstalledKey) → ((key : InstalledKey) → Contains keys key → IsLaterKey key (f key)) → StayIn keys (map f keys)
changed f keys later key there = record { later = f key; there = Contains-map f keys key there; is_later = later key there }

later_retiring : (number : ℕ) (key : InstalledKey) → IsLaterKey key (at_number retired_row number key)
later_retiring number key = by_test (key.number == number)
  where
    by_test : (b : Bool) → IsLaterKey key (if b then retired_row key else key)
    by_test true = record { number = refl; suite = refl; bytes = refl; salt = refl; ssci = refl; offset = refl; first_unused = omega arith }
    by_test false = same_key key

later_noting : (number pn : ℕ) (key : InstalledKey) → (key.number ≡ number → key.first_unused ≤ pn) → IsLaterKey key (at_number (row_noting pn) number key)
later_noting number pn key unused = by_test (key.number == number) refl
  where
    by_test : (b : Bool) → (key.number == number) ≡ b → IsLaterKey key (if b then row_noting pn key else key)
    by_test true same =
        let no_higher = unused (eqb-true key.number number same) in
        record { number = refl; suite = refl; bytes = refl; salt = refl; ssci = refl; offset = refl; first_unused = omega (arith, no_higher) }
    by_test false other = same_key key

-- ---- commands

stays_with : (s after : State) → after.config ≡ s.config → StayIn s.keys after.keys → KeysStay s after
stays_with s after config keys = record { config = config; keys = keys }

effect_stays : (s : State) (c : Command) → KeysStay s (effect s c)
effect_stays s (Protect on) = stays_with s (effect s (Protect on)) refl (all_stay s.keys)
effect_stays s (Validate mode) = stays_with s (effect s (Validate mode)) refl (all_stay s.keys)
effect_stays s (Replay protect window) = stays_with s (effect s (Replay protect window)) refl (all_stay s.keys)
effect_stays s (Tag form) = stays_with s (effect s (Tag form)) refl (all_stay s.keys)
effect_stays s (Key key) = stays_with s (effect s (Key key)) refl (λ k there. record { later = k; there = Contains-append_left s.keys _ k there; is_later = same_key k })
effect_stays s (Retire key) = stays_with s (effect s (Retire key)) refl (changed (at_number retired_row key) s.keys (λ k there. later_retiring key k))
effect_stays s (TxSa an key next conf) = stays_with s (effect s (TxSa an key next conf)) refl (all_stay s.keys)
effect_stays s (TxOn an) = stays_with s (effect s (TxOn an)) refl (all_stay s.keys)
effect_stays s (TxOff an) = stays_with s (effect s (TxOff an)) refl (all_stay s.keys)
effect_stays s (TxDel an) = stays_with s (effect s (TxDel an)) refl (all_stay s.keys)
effect_stays s (RxSc sci) = stays_with s (effect s (RxSc sci)) refl (all_stay s.keys)
effect_stays s (RxScDel sci) = stays_with s (effect s (RxScDel sci)) refl (all_stay s.keys)
effect_stays s (RxSa sci an key ssci lowest) = stays_with s (effect s (RxSa sci an key ssci lowest)) refl (all_stay s.keys)
effect_stays s (RxOn sci an) = stays_with s (effect s (RxOn sci an)) refl (all_stay s.keys)
effect_stays s (RxOff sci an) = stays_with s (effect s (RxOff sci an)) refl (all_stay s.keys)
effect_stays s (RxLow sci an pn) = stays_with s (effect s (RxLow sci an pn)) refl (all_stay s.keys)
effect_stays s (RxDel sci an) = stays_with s (effect s (RxDel sci an)) refl (all_stay s.keys)

command_stays : (s : State) (c : Command) (r : Option Refusal) → KeysStay s (unless_refused r s c)
command_stays s c None = effect_stays s c
command_stays s c (Some r) = stays_with s s refl (all_stay s.keys)

-- ---- frames

-- the SA that protects a frame has a packet number that was never used under its key
noting_stays : (s : State) (row : TxRow) → AreKeyRows s.keys → HasUnusedNext s.keys row → StayIn s.keys (keys_noting s.keys row.key row.next)
noting_stays s row are unused = changed (at_number (row_noting row.next) row.key) s.keys (λ key there. later_noting row.key row.next key (not_above key there))
  where
    not_above : (key : InstalledKey) → Contains s.keys key → key.number ≡ row.key → key.first_unused ≤ row.next
    not_above key there same =
        let found : key_row s.keys row.key ≡ Some key = subst (λ n. key_row s.keys n ≡ Some key) same (found_by_number s.keys key are there) in
        let it : the_key s.keys row.key ≡ key = ap (λ k. unwrap_or k no_key) found in
        subst (λ (k : InstalledKey). k.first_unused ≤ row.next) it unused.next

sending_stays : (s : State) (by : Option TxRow) → AreKeyRows s.keys → ((row : TxRow) → by ≡ Some row → HasUnusedNext s.keys row) → StayIn s.keys (keys_after s.keys by)
sending_stays s None are unused = all_stay s.keys
sending_stays s (Some row) are unused = noting_stays s row are (unused row refl)

frame_stays : (s after : State) (output : Output) (fault : Option FrameFault) → KeysStay s after → KeysStay s (unless_fault fault s (output, after)).1
frame_stays s after output None stays = stays
frame_stays s after output (Some fault) stays = stays_with s s refl (all_stay s.keys)

-- ---- every input

pub keys_stay : (s : State) (input : Input) → IsSound s → KeysStay s (step s input).1
keys_stay s (operator_command c) sound = command_stays s c (refusal s c)
keys_stay s (client_frame frame) sound =
    let after = state_after_sending s frame (sending_of s frame) in
    frame_stays s after (sent_output frame (sending_of s frame).leaving) (frame_fault frame)
    (stays_with s after refl (sending_stays s (sending_of s frame).by sound.keys
    (λ row by. on_unused s.keys s.tx row (protected_by (tx_options s) s.keys s.tx frame row by).on sound.agrees.unused_next)))
keys_stay s (uncontrolled_frame frame) sound = frame_stays s s (leaves frame None) (frame_fault frame) (stays_with s s refl (all_stay s.keys))
keys_stay s (link_frame frame) sound =
    let after = state_after_receiving s frame (judgement_of s frame) in
    frame_stays s after (received_output frame (judgement_of s frame)) (frame_fault frame) (stays_with s after refl (all_stay s.keys))
