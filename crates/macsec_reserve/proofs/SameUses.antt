-- An endpoint with the octets of some retired keys replaced sends the same frames under the same packet numbers.
use Rattle.macsec_rx.specs.Commands.{rx_uses}
use Rattle.macsec_secy.proofs.{OtherOctets.found_unused, UsedNumbers.sent_by}
use Rattle.macsec_reserve.proofs.{
  Prelude.{[], ◌&&◌, ◌==◌, ◌||◌, ◌∙◌, ◌∷◌, ◌≡◌, ◌⊎◌, All, All-weaker, ap, Bool, CipherUse, client_frame},
  Prelude.{endpoint_input, false, frame_fault, FrameFault, get_or, highest, inl, Input, inr, InstalledKey, Keeping},
  Prelude.{KeepingInput, key_name, link_frame, List, list_any, may_go, may_use, nat_le, nat_lt, newly_sealed, no_key},
  Prelude.{None, not, now_durable, number_unless_fault, operator_command, Option, or_parts, refl, Reservation, row_on},
  Prelude.{sealed_by, sealed_if, Sending, sending_name, sending_of, Some, State, sym, tx_options, tx_uses, TxRow},
  Prelude.{uncontrolled_frame, unwrap_or, use_sent, UsedNumber, uses_reserved, ℕ},
  Replaced.{IsGivenUpIn, IsOther, IsUnsent, Replacement, replaced, replaced_keys, row_replaced, sending_replaced},
}

-- the keeping endpoint with these replacements, and with these entries of what was reported durable
abbrev pub beside : Keeping → List Replacement → List Reservation → Keeping
beside k rs entries = record k { secy = replaced rs k.secy; granted = entries }

abbrev pub GrantsAlike : Keeping → List Reservation → Type 0
GrantsAlike k entries = (name : List ℕ) → highest entries name ≡ highest k.granted name

-- ---- no replaced key is used to send

unsent : (s : State) (rs : List Replacement) → All (IsGivenUpIn s) rs → All (IsUnsent s.tx) rs
unsent s rs up = All-weaker (IsGivenUpIn s) (IsUnsent s.tx) (λ r it. (or_parts (tx_uses s.tx r.0) (rx_uses s.rx.rows r.0) it.unused).0) rs up

on_is_other : (s : State) (rs : List Replacement) (row : TxRow) → All (IsGivenUpIn s) rs → row_on s.tx ≡ Some row → All (IsOther row.key) rs
on_is_other s rs row up on = λ k d within.
    found_unused (λ (q : TxRow). q.key == (get_or rs k d).0) (λ (q : TxRow). q.on) s.tx row (unsent s rs up k d within) on

pub name_replaced : (salt : List ℕ) (rs : List Replacement) (keys : List InstalledKey) (key : ℕ) → All (IsOther key) rs →
    key_name salt (replaced_keys rs keys) key ≡ key_name salt keys key
name_replaced salt rs keys key others = ap (λ (o : Option InstalledKey). sending_name salt (unwrap_or o no_key).bytes) (row_replaced rs keys key others)

-- ---- what may be used

may_use_alike : (k : Keeping) (rs : List Replacement) (entries : List Reservation) (u : UsedNumber) → GrantsAlike k entries → All (IsOther u.0) rs →
    may_use (beside k rs entries) u ≡ may_use k u
may_use_alike k rs entries u grants others =
    ap (λ n. nat_lt (highest k.before n) u.1 && nat_le u.1 (highest entries n)) (name_replaced k.salt rs k.secy.keys u.0 others)
    ∙ ap (λ m. nat_lt (highest k.before (key_name k.salt k.secy.keys u.0)) u.1 && nat_le u.1 m) (grants (key_name k.salt k.secy.keys u.0))

abbrev all_may : Keeping → List UsedNumber → Bool
all_may k us = not (list_any (λ u. not (may_use k u)) us)

used_alike : (k : Keeping) (rs : List Replacement) (entries : List Reservation) → GrantsAlike k entries → All (IsGivenUpIn k.secy) rs → (f : Option FrameFault) (by : Option TxRow) →
    (by ≡ None) ⊎ (by ≡ row_on k.secy.tx) → all_may (beside k rs entries) (number_unless_fault f by) ≡ all_may k (number_unless_fault f by)
used_alike k rs entries grants up (Some f) by is = refl
used_alike k rs entries grants up None None is = refl
used_alike k rs entries grants up None (Some row) (inl none) = cc
used_alike k rs entries grants up None (Some row) (inr on) =
    ap (λ b. not (not b || false)) (may_use_alike k rs entries (row.key, row.next) grants (on_is_other k.secy rs row up (sym on)))

frame_alike : (k : Keeping) (rs : List Replacement) (entries : List Reservation) (frame : List ℕ) → GrantsAlike k entries → All (IsGivenUpIn k.secy) rs →
    uses_reserved (beside k rs entries) (client_frame frame) ≡ uses_reserved k (client_frame frame)
frame_alike k rs entries frame grants up =
    ap (λ (sent : Sending). all_may (beside k rs entries) (number_unless_fault (frame_fault frame) sent.by))
    (sending_replaced (tx_options k.secy) rs k.secy.keys k.secy.tx frame (unsent k.secy rs up))
    ∙ used_alike k rs entries grants up (frame_fault frame) (sending_of k.secy frame).by (sent_by (tx_options k.secy) k.secy.keys k.secy.tx frame)

pub may_go_alike : (k : Keeping) (rs : List Replacement) (entries : List Reservation) (input : Input) → GrantsAlike k entries → All (IsGivenUpIn k.secy) rs →
    may_go (beside k rs entries) input ≡ may_go k input
may_go_alike k rs entries (operator_command c) grants up = refl
may_go_alike k rs entries (client_frame frame) grants up = ap (λ b. not k.keeps || b) (frame_alike k rs entries frame grants up)
may_go_alike k rs entries (uncontrolled_frame frame) grants up = refl
may_go_alike k rs entries (link_frame frame) grants up = refl

-- ---- what is sealed

sealed_by_alike : (s : State) (rs : List Replacement) (frame : List ℕ) → All (IsGivenUpIn s) rs → (f : Option FrameFault) (by : Option TxRow) → (by ≡ None) ⊎ (by ≡ row_on s.tx) →
    sealed_by (replaced rs s) frame f by ≡ sealed_by s frame f by
sealed_by_alike s rs frame up (Some f) by is = refl
sealed_by_alike s rs frame up None None is = refl
sealed_by_alike s rs frame up None (Some row) (inl none) = cc
sealed_by_alike s rs frame up None (Some row) (inr on) =
    ap (λ (o : Option InstalledKey). use_sent (tx_options s) (unwrap_or o no_key) row frame ∷ []) (row_replaced rs s.keys row.key (on_is_other s rs row up (sym on)))

pub sealed_alike : (k : Keeping) (rs : List Replacement) (entries : List Reservation) (input : KeepingInput) → GrantsAlike k entries → All (IsGivenUpIn k.secy) rs →
    newly_sealed (beside k rs entries) input ≡ newly_sealed k input
sealed_alike k rs entries (now_durable r) grants up = refl
sealed_alike k rs entries (endpoint_input (operator_command c)) grants up = refl
sealed_alike k rs entries (endpoint_input (client_frame frame)) grants up =
    ap (λ go. sealed_if go (sealed_by (replaced rs k.secy) frame (frame_fault frame) (sending_of (replaced rs k.secy) frame).by))
    (may_go_alike k rs entries (client_frame frame) grants up)
    ∙ ap (λ (uses : List CipherUse). sealed_if (may_go k (client_frame frame)) uses)
    (ap (λ (sent : Sending). sealed_by (replaced rs k.secy) frame (frame_fault frame) sent.by)
    (sending_replaced (tx_options k.secy) rs k.secy.keys k.secy.tx frame (unsent k.secy rs up))
    ∙ sealed_by_alike k.secy rs frame up (frame_fault frame) (sending_of k.secy frame).by (sent_by (tx_options k.secy) k.secy.keys k.secy.tx frame))
sealed_alike k rs entries (endpoint_input (uncontrolled_frame frame)) grants up = refl
sealed_alike k rs entries (endpoint_input (link_frame frame)) grants up = refl
