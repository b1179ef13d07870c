-- The endpoints that are ready to send and to receive: the first state after a list of commands.
use Rattle.std.specs.Prelude.{ℕ, List, [], ◌∷◌, replicate, true, None}
use Rattle.macsec_aes.specs.declared.Key.TheVariants.{K128}
use Rattle.macsec_tag.specs.declared.identifiers.Sci.{Sci}
use Rattle.macsec_suite.specs.declared.key_row.NewKey.{NewKey}
use Rattle.macsec_suite.specs.declared.suite.Suite.TheVariants.{Gcm128}
use Rattle.macsec_commands.specs.declared.form.TagForm.TheVariants as form
use Rattle.macsec_commands.specs.declared.command.Command.{Command}
use Rattle.macsec_commands.specs.declared.command.Command.TheVariants.{Key, TxSa, TxOn, RxSc, RxSa, RxOn}
use Rattle.macsec_secy.specs.State.{State, start}
use Rattle.macsec_secy.specs.Step.{operator_command, step}

-- the state after a list of commands, each one step of the machine
abbrev pub after_commands : State → List Command → State
after_commands s [] = s
after_commands s (c ∷ commands) = after_commands (step s (operator_command c)).1 commands

abbrev pub key_of : List ℕ → NewKey
key_of bytes = record { number = 0; bytes = K128 bytes; salt = replicate 12 0; ssci = 0; offset = 0; suite = None }

abbrev pub ready_sender : Sci → List ℕ → State
ready_sender sci bytes =
    after_commands (start (record { suite = Gcm128; sci = sci; max_frame = 1518; form = form.Sci }))
    (Key (key_of bytes) ∷ TxSa 0 0 1 true ∷ TxOn 0 ∷ [])

abbrev pub ready_receiver : Sci → Sci → List ℕ → State
ready_receiver sci sender bytes =
    after_commands (start (record { suite = Gcm128; sci = sci; max_frame = 1518; form = form.Auto }))
    (Key (key_of bytes) ∷ RxSc sender ∷ RxSa sender 0 0 0 1 ∷ RxOn sender 0 ∷ [])
