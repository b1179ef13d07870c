-- A law of protection: what is known of the SA that protects a client frame.
use Rattle.std.specs.Prelude.{◌≡◌, ◌≤◌, ℕ, List, length, Some, None, IsSome, Contains}
use Rattle.macsec_tag.specs.Tag.{IsTag}
use Rattle.macsec_tag.specs.Frame.{MpduParts}
use Rattle.macsec_suite.specs.CipherUses.{CipherUse, cipher_use, plaintext_of_use}
use Rattle.macsec_suite.specs.KeyRows.{InstalledKey, key_row, row_noting, the_key}
use Rattle.macsec_suite.specs.Suites.{last_of}
use Rattle.macsec_tx.specs.declared.TxRow.{TxRow}
use Rattle.macsec_tx.specs.Laws.{IsReadAsSent}
use Rattle.macsec_tx.specs.Transmit.{use_sent}
use Rattle.macsec_rx.specs.Judge.{opened_frame}
use Rattle.macsec_secy.specs.Agrees.{first_unused}
use Rattle.macsec_secy.specs.Sound.{IsSound}
use Rattle.macsec_secy.specs.State.{State, tx_options}
use Rattle.macsec_secy.specs.Step.{client_frame, frame_fault, sending_of, step}

-- whoever opens this use of the cipher, with whatever key, IV and parts, gets this frame
abbrev pub OpensAs : CipherUse → List ℕ → Type 0
OpensAs use_of_cipher frame =
    (key : InstalledKey) (iv : List ℕ) (p : MpduParts) (plaintext : List ℕ) → IsTag p.tag → length p.da ≡ 6 → length p.sa ≡ 6 →
    cipher_use key iv p ≡ use_of_cipher → plaintext_of_use use_of_cipher ≡ Some plaintext → opened_frame key p plaintext ≡ frame

-- the SA's key is in the table; its packet number was never used under the key, is at most the suite's last one, and is
-- recorded as used afterwards; the protected frame is read as the parts that were sent; and whoever opens it gets the
-- client frame
pub record IsProtection (s : State) (frame : List ℕ) (row : TxRow) : Type 0 where
  pub there : IsSome (key_row s.keys row.key)
  pub unused : first_unused s.keys row.key ≤ row.next
  pub most : row.next ≤ last_of (the_key s.keys row.key).suite
  pub noted : Contains (step s (client_frame frame)).1.keys (row_noting row.next (the_key s.keys row.key))
  pub read : IsReadAsSent (tx_options s) (the_key s.keys row.key) row frame
  pub opens : OpensAs (use_sent (tx_options s) (the_key s.keys row.key) row frame) frame

abbrev pub Protects : State → List ℕ → TxRow → Type 0
Protects s frame row = IsSound s → frame_fault frame ≡ None → (sending_of s frame).by ≡ Some row → IsProtection s frame row
