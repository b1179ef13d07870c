-- All that a run seals is what AES under its key shows of its messages.
use Rattle.{
  std.proofs.Common.{◌≡◌, ℕ, List, All, ap, ◌∙◌},
  macsec_aes.specs.Aes.aes,
  macsec_suite.specs.{CipherUses.CipherUse, KeyRows.InstalledKey},
  macsec_commands.specs.declared.{config.EndConfig.EndConfig, event.Event.Event},
  macsec_tx.specs.{Transmit.use_sent, declared.{TxOptions.TxOptions, TxRow.TxRow}},
  macsec_link.{proofs.SealedUses.seals_have, specs.Trace.trace_of},
  macsec_secrecy.{
    proofs.Shown.link_frames_show,
    specs.{BlockFunctions.seal_by, Runs.{message_of, shown_of}},
  },
}

-- the ciphertext and tag of a use belong to its message
abbrev pub IsOwn : CipherUse → Type 0
IsOwn u = seal_by (aes u.key) (message_of u).iv (message_of u).aad (message_of u).text ≡ shown_of u

pub sent_own : (options : TxOptions) (key : InstalledKey) (row : TxRow) (frame : List ℕ)
    → IsOwn (use_sent options key row frame)
sent_own options key row frame =
    let it = link_frames_show options key row frame in
    ap (λ m. seal_by (aes key.bytes) m.iv m.aad m.text) it.message ∙ it.sealed

pub seals_own : (a b : EndConfig) (events : List Event) → All IsOwn (trace_of a b events).seals
seals_own = seals_have IsOwn sent_own
