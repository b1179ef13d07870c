use Rattle.{
  std.proofs.{Common.{ap, ap₂, true, codes, ◌≡◌, ◌∙◌}, lemmas.Result.IfOk-weaker},
  clap.specs.{Simple.app_of_fields, Words.{App, Shape, app_of, new_app, with_rule, with_subcommand}},
  macsec_cli_runs.{proofs.Plain.no_globals, specs.Words.run_app},
}
use Rattle.macsec_cli_runs.proofs.arguments.command.Goals as goal

abbrev wants_subcommand : App → App
wants_subcommand app = record app { top = record app.top { subcommand_required = true } }

abbrev top : App → Shape
top app = app.top

pub returns : goal.returns
returns c =
    let run_is : app_of c.in_ok-run.run' ≡ run_app = c.in_ok-run.ensures.shape c.name_argument.ensures.local ∙ ap₂ with_rule c.new.ensures.app c.name_argument.ensures.rule in
    let top_is : app_of c.subcommand_required.result ≡ wants_subcommand (new_app (codes "macsec")) =
    ap app_of_fields c.subcommand_required.ensures ∙ ap wants_subcommand c.new-2.ensures.app in
    let run_plain = no_globals _ _ _ _ (ap (λ (app : App). app.top.is_plain) run_is) in
    let protect_plain = no_globals _ _ _ _ (ap (λ (app : App). app.top.is_plain) c.in_ok-protect.ensures) in
    let validate_plain = no_globals _ _ _ _ (ap (λ (app : App). app.top.is_plain) c.in_ok-validate.ensures) in
    let one = c.in_ok-runs.ensures.shape run_plain ∙ ap₂ with_subcommand top_is (ap top run_is) in
    let two = c.in_ok-protects.ensures.shape protect_plain ∙ ap₂ with_subcommand one (ap top c.in_ok-protect.ensures) in
    IfOk-weaker c.subcommand-3.result _ _ (λ command added. added.shape validate_plain ∙ ap₂ with_subcommand two (ap top c.in_ok-validate.ensures)) c.subcommand-3.ensures
