use Rattle.macsec_script_parser.{proofs.Keywords.none_of_three, specs.Kinds.{operator_kinds, frame_kinds, show_kinds}}
use Rattle.macsec_script_parser.proofs.lines.line_at.Goals as goal

pub returns-in-None : goal.returns-in-None
returns-in-None c =
    none_of_three (operator_kinds c.args.at) (frame_kinds c.args.at) (show_kinds c.args.at) c.args.keyword.now _
    c.in_default.ensures.none c.in_default-frame_line.ensures.none c.in-None.ensures.none
