use Rattle.{std.proofs.{Common.{ap₂, ◌∙◌}, lemmas.Result.IfOk-weaker}, clap.specs.Words.with_rule}
use Rattle.macsec_cli_runs.proofs.arguments.capture_command.Goals as goal

pub returns : goal.returns
returns c =
    let config = c.in_ok-arg.ensures.shape c.name_argument.ensures.local ∙ ap₂ with_rule c.new.ensures.app c.name_argument.ensures.rule in
    let input = c.in_ok-arg-2.ensures.shape c.name_argument-2.ensures.local ∙ ap₂ with_rule config c.name_argument-2.ensures.rule in
    IfOk-weaker c.arg-3.result _ _ (λ command added. added.shape c.name_argument-3.ensures.local ∙ ap₂ with_rule input c.name_argument-3.ensures.rule) c.arg-3.ensures
