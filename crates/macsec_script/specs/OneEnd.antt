-- The statement of the law of lines about end A alone.
use Rattle.std.specs.Prelude.{◌≡◌, ℕ, IfSome}
use Rattle.macsec_link.specs.World.{WorldState}
use Rattle.macsec_script_parser.specs.declared.lines.Action.{Action}
use Rattle.macsec_script_printer.specs.OneEnd.{TextAndState, one_end_step}
use Rattle.macsec_script.specs.Printed.{line_step}

-- line n prints this text in this world and leaves end A with this endpoint, and end B and the link as they were
pub record PrintsAlone (w : WorldState) (n : ℕ) (said : Action) (it : TextAndState) : Type 0 where
  pub text : (line_step w n said).0 ≡ it.0
  pub state : (line_step w n said).1.a.state ≡ it.1
  pub other_end : (line_step w n said).1.b ≡ w.b
  pub link : (line_step w n said).1.frames ≡ w.frames

-- the endpoint of end A decides what a line about it alone prints, and the endpoint after the line
abbrev pub NeedsOneEnd : WorldState → ℕ → Action → Type 0
NeedsOneEnd w n said = IfSome (one_end_step w.a.state n said) (λ it. PrintsAlone w n said it)
