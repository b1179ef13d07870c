-- By case: each arm by the contract of its function. These proofs are here so that a wrong body is refused quickly.
use Rattle.{
  std.proofs.Common.{ap, subst, sym, ◌∙◌},
  macsec_c_values.specs.Rows.{IsCommand, choice_row, command_row},
}
use Rattle.macsec_c_values.specs.declared.rows.CommandKind.TheVariants as kind
use Rattle.macsec_c_values.proofs.rows.command_row.Goals as goal

pub returns-in-Protect-clause-row : goal.returns-in-Protect-clause-row
returns-in-Protect-clause-row c = c.flag_row.ensures ∙ ap command_row (sym c.in-Protect.is)

pub returns-in-Protect-clause-command : goal.returns-in-Protect-clause-command
returns-in-Protect-clause-command c = subst IsCommand (sym c.in-Protect.is) tt

pub returns-in-Validate-clause-row : goal.returns-in-Validate-clause-row
returns-in-Validate-clause-row c =
    c.choice_row.ensures
    ∙ ap (choice_row kind.Validate) c.number_of_mode.ensures
    ∙ ap command_row (sym c.in-Validate.is)

pub returns-in-Validate-clause-command : goal.returns-in-Validate-clause-command
returns-in-Validate-clause-command c = subst IsCommand (sym c.in-Validate.is) tt

pub returns-in-Replay-clause-row : goal.returns-in-Replay-clause-row
returns-in-Replay-clause-row c = c.flag_row-in-Replay.ensures ∙ ap command_row (sym c.in-Replay.is)

pub returns-in-Replay-clause-command : goal.returns-in-Replay-clause-command
returns-in-Replay-clause-command c = subst IsCommand (sym c.in-Replay.is) tt

pub returns-in-Tag-clause-row : goal.returns-in-Tag-clause-row
returns-in-Tag-clause-row c =
    c.choice_row-in-Tag.ensures
    ∙ ap (choice_row kind.Tag) c.number_of_form.ensures
    ∙ ap command_row (sym c.in-Tag.is)

pub returns-in-Tag-clause-command : goal.returns-in-Tag-clause-command
returns-in-Tag-clause-command c = subst IsCommand (sym c.in-Tag.is) tt

pub returns-in-Key-clause-row : goal.returns-in-Key-clause-row
returns-in-Key-clause-row c = c.key_row.ensures.row ∙ ap command_row (sym c.in-Key.is)

pub returns-in-Key-clause-command : goal.returns-in-Key-clause-command
returns-in-Key-clause-command c = subst IsCommand (sym c.in-Key.is) c.key_row.ensures.command

pub returns-in-Retire-clause-row : goal.returns-in-Retire-clause-row
returns-in-Retire-clause-row c = c.retire_row.ensures.row ∙ ap command_row (sym c.in-Retire.is)

pub returns-in-Retire-clause-command : goal.returns-in-Retire-clause-command
returns-in-Retire-clause-command c = subst IsCommand (sym c.in-Retire.is) c.retire_row.ensures.command

pub returns-in-TxSa-clause-row : goal.returns-in-TxSa-clause-row
returns-in-TxSa-clause-row c = c.tx_sa_row.ensures.row ∙ ap command_row (sym c.in-TxSa.is)

pub returns-in-TxSa-clause-command : goal.returns-in-TxSa-clause-command
returns-in-TxSa-clause-command c = subst IsCommand (sym c.in-TxSa.is) c.tx_sa_row.ensures.command

pub returns-in-TxOn-clause-row : goal.returns-in-TxOn-clause-row
returns-in-TxOn-clause-row c = c.tx_row.ensures.row ∙ ap command_row (sym c.in-TxOn.is)

pub returns-in-TxOn-clause-command : goal.returns-in-TxOn-clause-command
returns-in-TxOn-clause-command c = subst IsCommand (sym c.in-TxOn.is) c.tx_row.ensures.below

pub returns-in-TxOff-clause-row : goal.returns-in-TxOff-clause-row
returns-in-TxOff-clause-row c = c.tx_row-in-TxOff.ensures.row ∙ ap command_row (sym c.in-TxOff.is)

pub returns-in-TxOff-clause-command : goal.returns-in-TxOff-clause-command
returns-in-TxOff-clause-command c = subst IsCommand (sym c.in-TxOff.is) c.tx_row-in-TxOff.ensures.below

pub returns-in-TxDel-clause-row : goal.returns-in-TxDel-clause-row
returns-in-TxDel-clause-row c = c.tx_row-in-TxDel.ensures.row ∙ ap command_row (sym c.in-TxDel.is)

pub returns-in-TxDel-clause-command : goal.returns-in-TxDel-clause-command
returns-in-TxDel-clause-command c = subst IsCommand (sym c.in-TxDel.is) c.tx_row-in-TxDel.ensures.below

pub returns-in-RxSc-clause-row : goal.returns-in-RxSc-clause-row
returns-in-RxSc-clause-row c = c.sc_row.ensures ∙ ap command_row (sym c.in-RxSc.is)

pub returns-in-RxSc-clause-command : goal.returns-in-RxSc-clause-command
returns-in-RxSc-clause-command c = subst IsCommand (sym c.in-RxSc.is) tt

pub returns-in-RxScDel-clause-row : goal.returns-in-RxScDel-clause-row
returns-in-RxScDel-clause-row c = c.sc_row-in-RxScDel.ensures ∙ ap command_row (sym c.in-RxScDel.is)

pub returns-in-RxScDel-clause-command : goal.returns-in-RxScDel-clause-command
returns-in-RxScDel-clause-command c = subst IsCommand (sym c.in-RxScDel.is) tt

pub returns-in-RxSa-clause-row : goal.returns-in-RxSa-clause-row
returns-in-RxSa-clause-row c = c.rx_sa_row.ensures.row ∙ ap command_row (sym c.in-RxSa.is)

pub returns-in-RxSa-clause-command : goal.returns-in-RxSa-clause-command
returns-in-RxSa-clause-command c = subst IsCommand (sym c.in-RxSa.is) c.rx_sa_row.ensures.command

pub returns-in-RxOn-clause-row : goal.returns-in-RxOn-clause-row
returns-in-RxOn-clause-row c = c.rx_row.ensures.row ∙ ap command_row (sym c.in-RxOn.is)

pub returns-in-RxOn-clause-command : goal.returns-in-RxOn-clause-command
returns-in-RxOn-clause-command c = subst IsCommand (sym c.in-RxOn.is) c.rx_row.ensures.below

pub returns-in-RxOff-clause-row : goal.returns-in-RxOff-clause-row
returns-in-RxOff-clause-row c = c.rx_row-in-RxOff.ensures.row ∙ ap command_row (sym c.in-RxOff.is)

pub returns-in-RxOff-clause-command : goal.returns-in-RxOff-clause-command
returns-in-RxOff-clause-command c = subst IsCommand (sym c.in-RxOff.is) c.rx_row-in-RxOff.ensures.below

pub returns-in-RxLow-clause-row : goal.returns-in-RxLow-clause-row
returns-in-RxLow-clause-row c = c.rx_low_row.ensures.row ∙ ap command_row (sym c.in-RxLow.is)

pub returns-in-RxLow-clause-command : goal.returns-in-RxLow-clause-command
returns-in-RxLow-clause-command c = subst IsCommand (sym c.in-RxLow.is) c.rx_low_row.ensures.command

pub returns-in-RxDel-clause-row : goal.returns-in-RxDel-clause-row
returns-in-RxDel-clause-row c = c.rx_row-in-RxDel.ensures.row ∙ ap command_row (sym c.in-RxDel.is)

pub returns-in-RxDel-clause-command : goal.returns-in-RxDel-clause-command
returns-in-RxDel-clause-command c = subst IsCommand (sym c.in-RxDel.is) c.rx_row-in-RxDel.ensures.below
