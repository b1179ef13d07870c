-- What is known of the SA that protects a client frame.
use Rattle.macsec_tx.specs.Transmit.{iv_sent}
use Rattle.macsec_secy.proofs.{
  Names.{◌∙◌, ◌≡◌, ◌≤◌, ap, arith, at_number, CanBeSent, client_frame, Contains, eq-eqb, frame_fault, if◌then◌else◌},
  Names.{InstalledKey, IsReadAsSent, IsSome, key_row, keys_after, keys_noting, length, List, min_frame_len, None},
  Names.{row_noting, sending_of, sent_output, Some, State, state_after_sending, step, subst, sym, tag_sent, the_key},
  Names.{tx_options, TxOptions, TxRow, unless_fault, ℕ},
  Accepted.is_long,
  Contained.Contains-map,
  KeysApart.the_key_found,
  OpenedAgain.{CipherLaws, opens_as_sent},
  ProtectedBy.{is_row, protected_by},
  UnusedNext.on_unused,
}
use Rattle.macsec_secy.specs.Protects.{Protects}

-- the key that seals the frame, after the packet number is recorded as used
key_noting : (keys : List InstalledKey) (row : TxRow) → IsSome (key_row keys row.key) → Contains (keys_noting keys row.key row.next) (row_noting row.next (the_key keys row.key))
key_noting keys row there =
    let key = the_key keys row.key in
    let it = the_key_found keys row.key there in
    let here : at_number (row_noting row.next) row.key key ≡ row_noting row.next key = ap (λ b. if b then row_noting row.next key else key) (eq-eqb key.number row.key it.number) in
    subst (Contains (keys_noting keys row.key row.next)) here (Contains-map (at_number (row_noting row.next) row.key) keys key it.there)

keys_after_sending : (s : State) (frame : List ℕ) (row : TxRow) → frame_fault frame ≡ None → (sending_of s frame).by ≡ Some row →
    (step s (client_frame frame)).1.keys ≡ keys_noting s.keys row.key row.next
keys_after_sending s frame row fits by =
    ap (λ f. (unless_fault f s (sent_output frame (sending_of s frame).leaving, state_after_sending s frame (sending_of s frame))).1.keys) fits ∙ ap (keys_after s.keys) by

pub protects : CipherLaws → ((options : TxOptions) (key : InstalledKey) (row : TxRow) (frame : List ℕ) → CanBeSent options row frame → IsReadAsSent options key row frame) →
    (s : State) (frame : List ℕ) (row : TxRow) → Protects s frame row
protects laws read_as_sent s frame row sound fits by =
    let key = the_key s.keys row.key in
    let it = protected_by (tx_options s) s.keys s.tx frame row by in
    let unused = on_unused s.keys s.tx row it.on sound.agrees.unused_next in
    let long : min_frame_len ≤ length frame = is_long frame fits in
    let read : IsReadAsSent (tx_options s) key row frame =
    read_as_sent (tx_options s) key row frame (record { long = long; an = (is_row s.tx row sound.tx it.on).an; sci = sound.own_sci.count }) in
    record {
      there = unused.there;
      unused = unused.next;
      most = it.next;
      noted = subst (λ (keys : List InstalledKey). Contains keys (row_noting row.next key)) (sym (keys_after_sending s frame row fits by)) (key_noting s.keys row unused.there);
      read = read;
      opens = opens_as_sent laws key (iv_sent (tx_options s) key row) (tag_sent (tx_options s) row frame) frame read.is_tagged.tag (omega (arith, long));
    }
