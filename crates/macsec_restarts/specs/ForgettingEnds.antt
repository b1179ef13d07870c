-- Deleted SAs, of endpoints that forget the keys that they retire.
use Rattle.std.specs.Prelude.{◌≡◌, ◌<◌, ◌≤◌, ℕ, true, None, Some}
use Rattle.macsec_tag.specs.declared.identifiers.Sci.{Sci}
use Rattle.macsec_suite.specs.declared.refusal.Refusal.TheVariants.{PnFloor}
use Rattle.macsec_commands.specs.declared.command.Command.TheVariants.{RxSa}
use Rattle.macsec_rx.specs.declared.RxRow.{RxRow}
use Rattle.macsec_rx.specs.Channels.{rx_row}
use Rattle.macsec_secy.specs.Step.{operator_command, refused}
use Rattle.macsec_reserve.specs.Keeping.{KeepingInput, endpoint_input, endpoint_output}
use Rattle.macsec_ahead.specs.Ahead.{Ahead, kept}
use Rattle.macsec_ahead.specs.Ends.{end_of, end_of_row}
use Rattle.macsec_restarts.specs.AheadForgetting.{ahead_forgetting_step}

-- where a step deletes an SA, its end is remembered
abbrev pub RemembersEndForgetting : Ahead → KeepingInput → RxRow → Type 0
RemembersEndForgetting a input row =
    let after = (ahead_forgetting_step a input).1 in
    a.k.keeps ≡ true → rx_row a.k.secy.rx.rows row.sci row.an ≡ Some row →
    rx_row after.k.secy.rx.rows row.sci row.an ≡ None →
    end_of_row row ≤ end_of after.ended row.key row.sci row.an

-- the SA is not created again under the key at that end or below it, and nothing changes
abbrev pub RefusesBelowEndForgetting : Ahead → Sci → ℕ → ℕ → ℕ → ℕ → Type 0
RefusesBelowEndForgetting a sci an key ssci lowest =
    0 < lowest → lowest ≤ end_of a.ended key sci an →
    ahead_forgetting_step a (endpoint_input (operator_command (RxSa sci an key ssci lowest))) ≡
    (kept (endpoint_output (refused PnFloor)), a)
