-- If the enabled SA's next number is within what is at hand for its key, every client frame uses only what is reserved.
use Rattle.macsec_tx.specs.Transmit.{no_sa, not_protected, octets_added, plain, protected, protected_frame, sending_by}
use Rattle.macsec_tx.specs.Transmit.{tag_sent, too_long}
use Rattle.macsec_reserve.proofs.{
  Prelude.{◌&&◌, ◌+◌, ◌==◌, ◌||◌, ◌∙◌, ◌≡◌, ◌⊎◌, and_parts, ap, AtHand, Bool, client_frame, eqb-true, false},
  Prelude.{frame_fault, FrameFault, HasNames, highest, if◌then◌else◌, inl, inr, InstalledKey, IsAtHand, Keeping},
  Prelude.{key_name, last_of, length, List, list_any, may_use, name_or_none, name_row, NamedKey, nat_le, nat_lt, None},
  Prelude.{not, number_unless_fault, Option, refl, row_on, Sending, sending, Some, subst, sym, the_key, true},
  Prelude.{tx_options, TxOptions, TxRow, UsedNumber, uses_reserved, ℕ},
  KeptNames.found_name,
}

-- only the enabled SA sends
by_tests : (row : TxRow) (b c : Bool) (p q s : Sending) → p.by ≡ None → q.by ≡ None → s.by ≡ Some row →
    ((if b then p else if c then q else s).by ≡ None) ⊎ ((if b then p else if c then q else s).by ≡ Some row)
by_tests row true c p q s first second third = inl first
by_tests row false true p q s first second third = inl second
by_tests row false false p q s first second third = inr third

abbrev IsByOn : TxRow → Sending → Type 0
IsByOn row sent = (sent.by ≡ None) ⊎ (sent.by ≡ Some row)

by_on : (options : TxOptions) (keys : List InstalledKey) (rows : List TxRow) (frame : List ℕ) (row : TxRow) → row_on rows ≡ Some row → IsByOn row (sending options keys rows frame)
by_on options keys rows frame row on = by_protect options.protect
  where
    by_protect : (b : Bool) →
        IsByOn row (if b then sending_by options keys frame (row_on rows) else not_protected (if nat_lt options.max_frame (length frame) then too_long else plain))
    by_protect false = inl refl
    by_protect true =
        subst (λ (r : Option TxRow). IsByOn row (sending_by options keys frame r)) (sym on)
        (by_tests row (nat_lt (last_of (the_key keys row.key).suite) row.next) (nat_lt options.max_frame (length frame + octets_added (tag_sent options row frame)))
        (not_protected no_sa) (not_protected too_long) (record { leaving = protected row.key (protected_frame options (the_key keys row.key) row frame); by = Some row }) refl refl refl)

abbrev all_may : Keeping → List UsedNumber → Bool
all_may k us = not (list_any (λ u. not (may_use k u)) us)

one_goes : (b : Bool) → b ≡ true → not (not b || false) ≡ true
one_goes true is = refl
one_goes false is = cc

none_or_one : (k : Keeping) (row : TxRow) → may_use k (row.key, row.next) ≡ true → (fault : Option FrameFault) (by : Option TxRow) → (by ≡ None) ⊎ (by ≡ Some row) →
    all_may k (number_unless_fault fault by) ≡ true
none_or_one k row may (Some f) by is = refl
none_or_one k row may None by (inl none) = ap (λ b. all_may k (number_unless_fault None b)) none
none_or_one k row may None by (inr some) = ap (λ b. all_may k (number_unless_fault None b)) some ∙ one_goes (may_use k (row.key, row.next)) may

-- what is at hand is what the lists say
pub at_hand_goes : (k : Keeping) (names : List NamedKey) (at : AtHand) (row : TxRow) (frame : List ℕ) → HasNames k.salt k.secy.keys names → IsAtHand k.salt names k.before k.granted (Some at) →
    row_on k.secy.tx ≡ Some row → (row.key == at.key && (nat_lt at.before row.next && nat_le row.next at.granted)) ≡ true → uses_reserved k (client_frame frame) ≡ true
at_hand_goes k names at row frame are is on test =
    let parts = and_parts (row.key == at.key) (nat_lt at.before row.next && nat_le row.next at.granted) test in
    let key : row.key ≡ at.key = eqb-true row.key at.key parts.0 in
    let name : name_or_none k.salt (name_row names at.key) ≡ key_name k.salt k.secy.keys row.key =
    found_name k.salt k.secy.keys names at.key are ∙ ap (λ n. key_name k.salt k.secy.keys n) (sym key) in
    let may : may_use k (row.key, row.next) ≡ true =
    ap (λ n. nat_lt (highest k.before n) row.next && nat_le row.next (highest k.granted n)) (sym name)
    ∙ ap (λ m. nat_lt m row.next && nat_le row.next (highest k.granted (name_or_none k.salt (name_row names at.key)))) (sym is.0)
    ∙ ap (λ m. nat_lt at.before row.next && nat_le row.next m) (sym is.1)
    ∙ parts.1 in
    none_or_one k row may (frame_fault frame) _ (by_on (tx_options k.secy) k.secy.keys k.secy.tx frame row on)
