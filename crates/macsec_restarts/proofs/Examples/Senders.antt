-- The runs of an end that sends for integrity only: the first sends the same client frame twice, with packet numbers 1
-- and 2; the second sends another one, with packet number 3. The cipher is not computed.
use Rattle.macsec_counterexamples.proofs.Link.Exchange.{options}
use Rattle.macsec_restarts.proofs.Examples.Told.{begun, good, IsGood, on, set_up_told, SetsUp, short, Told}
use Rattle.macsec_restarts.proofs.Examples.Told.{told_end, told_next}
use Rattle.macsec_restarts.proofs.Examples.Without.{Premise}
use Rattle.macsec_restarts.proofs.Names.{[], ◌*◌, ◌++◌, ◌<◌, ◌∙◌, ◌∷◌, ◌≡◌, ◌≤◌, aad, ap, arith, begins_sound, Bool}
use Rattle.macsec_restarts.proofs.Names.{bytes, CipherUse, client, client_frame, Command, command, commands_sound}
use Rattle.macsec_restarts.proofs.Names.{endpoint_input, false, frame_fault, frame_step, gcm_a, highest, Inputs, is_new}
use Rattle.macsec_restarts.proofs.Names.{is_within, IsSound, iv, Keeping, keeping_step, kept, Key, key_row, List, map}
use Rattle.macsec_restarts.proofs.Names.{may_go, may_send, new_key, newly_sent, no_salt, no_tx_counters, now_durable}
use Rattle.macsec_restarts.proofs.Names.{raised_alone, refl, Reservation, row_at, salt, sealed, sending_name}
use Rattle.macsec_restarts.proofs.Names.{sending_of, sent_by, sent_sound, SentIn, start, State, tag, true, TxOn, TxRow}
use Rattle.macsec_restarts.proofs.Names.{TxSa, use_of, use_sent, Uses, ℕ}

-- its first and last packet numbers; unless something else is said, it reserves up to the last one
abbrev pub first_of : Bool → ℕ
first_of false = 1
first_of true = 3

abbrev pub last_of : Bool → ℕ
last_of false = 2
last_of true = 3

abbrev pub reserves_to : ℕ → List ℕ → Reservation
reserves_to last salt = record { name = sending_name salt bytes; last = last }

abbrev pub reserves : Bool → List ℕ → Reservation
reserves again salt = reserves_to (last_of again) salt

abbrev pub frames : Bool → Inputs
frames false = endpoint_input (client_frame (client 1)) ∷ endpoint_input (client_frame (client 1)) ∷ []
frames true = endpoint_input (client_frame (client 3)) ∷ []

abbrev sa : Bool → List Command
sa again = TxSa 0 0 (first_of again) false ∷ TxOn 0 ∷ []

abbrev pub inputs_to : ℕ → Bool → List ℕ → Inputs
inputs_to last again salt = map command (Key (new_key no_salt 1) ∷ sa again) ++ now_durable (reserves_to last salt)
    ∷ frames again

abbrev pub inputs : Bool → List ℕ → Inputs
inputs again salt = inputs_to (last_of again) again salt

-- ---- its states: the first unused packet number of the key, the SA, and how many frames it has sent

abbrev pub state : ℕ → List TxRow → ℕ → State
state unused rows count = record (start gcm_a) {
  keys = key_row 1 unused ∷ [];
  tx = rows;
  tx_counters = record no_tx_counters { out_pkts_protected = count; out_octets_protected = 2 * count };
}

abbrev pub at_end : Bool → State
at_end false = state 3 (row_at 3 true ∷ []) 2
at_end true = state 4 (row_at 4 true ∷ []) 1

-- what it sends
abbrev pub sent_at : ℕ → ℕ → SentIn
sent_at number octet =
    record { seal = use_of number (client octet) (tag number (client octet)); number = number; frame = client octet }

abbrev pub sent : Bool → List SentIn
sent false = sent_at 1 1 ∷ sent_at 2 1 ∷ []
sent true = sent_at 3 3 ∷ []

-- ---- they are sound, and have one key

sets_up : (again : Bool) → SetsUp (short 1) gcm_a (new_key no_salt 1) (sa again)
sets_up false = record { fits = refl; none = refl; fit = λ long. refl; keep = refl; keys = refl }
sets_up true = record { fits = refl; none = refl; fit = λ long. refl; keep = refl; keys = refl }

start_sound : IsSound (start gcm_a)
start_sound = begins_sound gcm_a refl

on_sound : (again : Bool) → IsSound (state 1 (row_at (first_of again) true ∷ []) 0)
on_sound again =
    commands_sound (Key (new_key no_salt 1) ∷ sa again) (sets_up again).none ((sets_up again).fit refl) start_sound

one_sound : IsSound (state 2 (row_at 2 true ∷ []) 1)
one_sound = sent_sound (client 1) refl refl (on_sound false)

end_sound : (again : Bool) → IsSound (at_end again)
end_sound false = sent_sound (client 1) refl refl one_sound
end_sound true = sent_sound (client 3) refl refl (on_sound true)

on_good : (again : Bool) → IsGood (short 1) (state 1 (row_at (first_of again) true ∷ []) 0)
on_good again = good (short 1) 1 refl (λ long. on_sound again)

one_good : IsGood (short 1) (state 2 (row_at 2 true ∷ []) 1)
one_good = good (short 1) 2 refl (λ long. one_sound)

end_good : (again : Bool) → IsGood (short 1) (at_end again)
end_good false = good (short 1) 3 refl (λ long. end_sound false)
end_good true = good (short 1) 4 refl (λ long. end_sound true)

-- ---- what it seals, by its tag

first_use : use_sent options (key_row 1 1) (row_at 1 true) (client 1) ≡ use_of 1 (client 1) (tag 1 (client 1))
first_use = rw (sealed bytes (iv 1) (aad 1 (client 1)))

second_use : use_sent options (key_row 1 2) (row_at 2 true) (client 1) ≡ use_of 2 (client 1) (tag 2 (client 1))
second_use = rw (sealed bytes (iv 2) (aad 2 (client 1)))

third_use : use_sent options (key_row 1 1) (row_at 3 true) (client 3) ≡ use_of 3 (client 3) (tag 3 (client 3))
third_use = rw (sealed bytes (iv 3) (aad 3 (client 3)))

-- ---- its steps, with any journal that has not reserved the packet numbers

abbrev listed : ℕ → ℕ → CipherUse → List SentIn
listed number octet u = record { seal = u; number = number; frame = client octet } ∷ []

module _ (salt : List ℕ) (before : List Reservation) (last : ℕ) where
  abbrev name : List ℕ
  name = sending_name salt bytes

  abbrev with_none : State → Keeping
  with_none s = kept salt before [] s

  abbrev reserved : State → Keeping
  reserved s = kept salt before (reserves_to last salt ∷ []) s

  abbrev created : Bool → Bool → State
  created again on' = state 1 (row_at (first_of again) on' ∷ []) 0

  reports : (again : Bool) → (keeping_step (with_none (created again true)) (now_durable (reserves_to last salt))).1 ≡
      reserved (created again true)
  reports _ = rw (raised_alone name _)

  first_goes : highest before name < 1 → 2 ≤ last → may_go (reserved (created false true)) (client_frame (client 1)) ≡
      true
  first_goes free enough = may_send (reserved (created false true)) (client 1) 1 refl
      (is_within before name 1 last free (omega (arith, enough)))

  second_goes : highest before name < 1 → 2 ≤ last → may_go (reserved (state 2 (row_at 2 true ∷ []) 1))
      (client_frame (client 1)) ≡ true
  second_goes free enough = may_send (reserved (state 2 (row_at 2 true ∷ []) 1)) (client 1) 2 refl
      (is_within before name 2 last (omega (arith, free)) enough)

  third_goes : highest before name < 3 → 3 ≤ last → may_go (reserved (created true true)) (client_frame (client 3)) ≡
      true
  third_goes free enough = may_send (reserved (created true true)) (client 3) 3 refl
      (is_within before name 3 last free enough)

  lists : (k : Keeping) (octet : ℕ) → may_go k (client_frame (client octet)) ≡ true →
      newly_sent k (endpoint_input (client_frame (client octet))) ≡
      sent_by k.secy (client octet) (frame_fault (client octet)) (sending_of k.secy (client octet)).by
  lists k _ goes = rw goes

  frames_told : {left_out : Premise} {uses : Uses} (again : Bool) → highest before name < first_of again →
      last_of again ≤ last →
      Told (short 1) left_out uses (on (reserved (created again true))) (frames again) (sent again) []
      (on (reserved (at_end again)))
  frames_told false free enough =
      let k1 = reserved (created false true) in
      let k2 = reserved (state 2 (row_at 2 true ∷ []) 1) in
      told_next (on_good false) (lists k1 1 (first_goes free enough) ∙ ap (listed 1 1) first_use) refl
      (ap on (frame_step k1 (client 1) (first_goes free enough)))
      (told_next one_good (lists k2 1 (second_goes free enough) ∙ ap (listed 2 1) second_use) refl
      (ap on (frame_step k2 (client 1) (second_goes free enough))) (told_end _ (end_good false)))
  frames_told true free enough =
      let k1 = reserved (created true true) in
      told_next (on_good true) (lists k1 3 (third_goes free enough) ∙ ap (listed 3 3) third_use) refl
      (ap on (frame_step k1 (client 3) (third_goes free enough))) (told_end _ (end_good true))

  pub told_to : {left_out : Premise} {uses : Uses} (again : Bool) → highest before name < first_of again →
      last_of again ≤ last →
      Told (short 1) left_out uses (begun (with_none (start gcm_a))) (inputs_to last again salt) (sent again) []
      (on (reserved (at_end again)))
  told_to again free enough =
      set_up_told gcm_a (new_key no_salt 1) (sa again) salt before (sets_up again) start_sound
      (refl, (is_new before name (first_of again) free, (refl, tt)))
      (told_next (on_good again) refl refl (ap on (reports again)) (frames_told again free enough))

pub told : (salt : List ℕ) (before : List Reservation) {left_out : Premise} {uses : Uses} (again : Bool) →
    highest before (sending_name salt bytes) < first_of again → Told (short 1) left_out uses
    (begun (kept salt before [] (start gcm_a))) (inputs again salt) (sent again) []
    (on (kept salt before (reserves again salt ∷ []) (at_end again)))
told salt before again free = told_to salt before (last_of again) again free (omega arith)
