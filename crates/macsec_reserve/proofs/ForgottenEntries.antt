-- The entries of what was reported durable: what a step adds to them.
use Rattle.{
  std.proofs.lemmas.List.{drop-map, drop_all},
  macsec_reserve.proofs.Prelude.{[], ◌++◌, ◌==◌, ◌∙◌, ◌∷◌, ◌≡◌, ◌≤◌, ap, append-nil, append_assoc, arith, Bool},
  macsec_reserve.proofs.Prelude.{client_frame, Command, command_output, drop, drop-append-le, effect, false},
  macsec_reserve.proofs.Prelude.{for_each_key, frame_fault, FrameFault, if◌then◌else◌, Input, InstalledKey},
  macsec_reserve.proofs.Prelude.{is_done_output, judgement_of, Key, key_bytes, keys_after, leaves, length},
  macsec_reserve.proofs.Prelude.{length-append, length-drop, link_frame, List, map, map-append, new_row, None},
  macsec_reserve.proofs.Prelude.{nothing_yet, operator_command, Option, Output, received_output, refl, Refusal},
  macsec_reserve.proofs.Prelude.{refusal, Reservation, Retire, retired_row, row_noting, sending_name, sending_of},
  macsec_reserve.proofs.Prelude.{sent_output, Some, State, state_after_receiving, state_after_sending, step, suite_of},
  macsec_reserve.proofs.Prelude.{sym, true, TxRow, uncontrolled_frame, unless_fault, unless_refused, with_key, ℕ},
}

-- ---- entries, and the entries of keys for which nothing was reported

-- the entries with those that are missing; `all` has one for each key
abbrev pub completed : List Reservation → List Reservation → List Reservation
completed entries all = entries ++ drop (length entries) all

pub entries_completed : (salt : List ℕ) (entries : List Reservation) (keys : List InstalledKey) → for_each_key salt entries keys ≡ completed entries (map (nothing_yet salt) keys)
entries_completed salt entries keys = ap (λ rs. entries ++ rs) (sym (drop-map (nothing_yet salt) (length entries) keys))

pub completed_with : (entries all more : List Reservation) → length entries ≤ length all → completed entries (all ++ more) ≡ completed entries all ++ more
completed_with entries all more fit =
    ap (λ rs. entries ++ rs) (drop-append-le (length entries) all more fit) ∙ sym (append_assoc entries (drop (length entries) all) more)

pub completed_long : (entries all : List Reservation) → length entries ≤ length all → length (completed entries all) ≡ length all
completed_long entries all fit = omega (arith, length-append entries (drop (length entries) all), length-drop (length entries) all, fit)

pub complete : (entries all : List Reservation) → length entries ≡ length all → completed entries all ≡ entries
complete entries all long = ap (λ rs. entries ++ rs) (drop_all (length entries) all (omega (arith, long))) ∙ append-nil entries

-- ---- a step

abbrev pub if_done : Output → List Reservation → List Reservation
if_done output entries = if is_done_output output then entries else []

-- the entry of the key that a command installs
abbrev pub entry_installed : List ℕ → Command → List Reservation
entry_installed salt (Key key) = record { name = sending_name salt (key_bytes key.bytes); last = 0 } ∷ []
entry_installed salt c = []

-- what an input with this output adds to the entries of all keys
abbrev pub entries_added : List ℕ → Input → Output → List Reservation
entries_added salt (operator_command c) output = if_done output (entry_installed salt c)
entries_added salt input output = []

abbrev AddsEntries : List ℕ → List InstalledKey → List InstalledKey → List Reservation → Type 0
AddsEntries salt keys after more = map (nothing_yet salt) after ≡ map (nothing_yet salt) keys ++ more

adds_none : (salt : List ℕ) (keys : List InstalledKey) → AddsEntries salt keys keys []
adds_none salt keys = sym (append-nil (map (nothing_yet salt) keys))

one_changed : (salt : List ℕ) (change : InstalledKey → InstalledKey) → ((row : InstalledKey) → nothing_yet salt (change row) ≡ nothing_yet salt row) → (n : ℕ) (keys : List InstalledKey) →
    map (nothing_yet salt) (with_key change n keys) ≡ map (nothing_yet salt) keys
one_changed salt change same n [] = refl
one_changed salt change same n (row ∷ rows) =
    ap (λ r. r ∷ map (nothing_yet salt) (with_key change n rows)) (by_number (row.number == n)) ∙ ap (λ rs. nothing_yet salt row ∷ rs) (one_changed salt change same n rows)
  where
    by_number : (b : Bool) → nothing_yet salt (if b then change row else row) ≡ nothing_yet salt row
    by_number true = same row
    by_number false = refl

effect_adds : (salt : List ℕ) (s : State) (c : Command) → AddsEntries salt s.keys (effect s c).keys (entry_installed salt c)
effect_adds salt s (Key key) = map-append (nothing_yet salt) s.keys (new_row (suite_of s.config.suite key) key ∷ [])
effect_adds salt s (Retire key) = one_changed salt retired_row (λ row. refl) key s.keys ∙ adds_none salt s.keys
effect_adds salt s c = adds_none salt s.keys

command_adds : (salt : List ℕ) (s : State) (c : Command) (r : Option Refusal) → AddsEntries salt s.keys (unless_refused r s c).keys (if_done (command_output r) (entry_installed salt c))
command_adds salt s c None = effect_adds salt s c
command_adds salt s c (Some r) = adds_none salt s.keys

sending_adds : (salt : List ℕ) (keys : List InstalledKey) (by : Option TxRow) → AddsEntries salt keys (keys_after keys by) []
sending_adds salt keys None = adds_none salt keys
sending_adds salt keys (Some row) = one_changed salt (row_noting row.next) (λ key. refl) row.key keys ∙ adds_none salt keys

frame_adds : (salt : List ℕ) (s after : State) (output : Output) → AddsEntries salt s.keys after.keys [] → (f : Option FrameFault) →
    AddsEntries salt s.keys (unless_fault f s (output, after)).1.keys []
frame_adds salt s after output adds None = adds
frame_adds salt s after output adds (Some f) = adds_none salt s.keys

pub step_adds : (salt : List ℕ) (s : State) (input : Input) → AddsEntries salt s.keys (step s input).1.keys (entries_added salt input (step s input).0)
step_adds salt s (operator_command c) = command_adds salt s c (refusal s c)
step_adds salt s (client_frame frame) =
    frame_adds salt s (state_after_sending s frame (sending_of s frame)) (sent_output frame (sending_of s frame).leaving) (sending_adds salt s.keys (sending_of s frame).by) (frame_fault frame)
step_adds salt s (uncontrolled_frame frame) = frame_adds salt s s (leaves frame None) (adds_none salt s.keys) (frame_fault frame)
step_adds salt s (link_frame frame) =
    frame_adds salt s (state_after_receiving s frame (judgement_of s frame)) (received_output frame (judgement_of s frame)) (adds_none salt s.keys) (frame_fault frame)
