-- The loop over the commands: what was printed so far, and what is still to come.
use Rattle.{
  std.proofs.{
    Common.{◌≡◌, ℕ, ◌+◌, ◌<◌, List, ◌∷◌, ◌++◌, drop, get_or, length, sym, ap, ◌∙◌, append_assoc, Option},
    KnownBytes.Appends-trans,
    lemmas.List.drop_more,
  },
  std.specs.Io.KnownBytes.Appends,
  macsec_secy.specs.State.State,
  macsec_script_parser.specs.Parts.NumberedCommand,
  macsec_capture.specs.Captured.{Part, commands_part, line_part},
}

-- what was printed, followed by what is still to come, is the whole
pub record IsOnTheWay (whole : Part) (old now : Option (List ℕ)) (s : State) (rest : List NumberedCommand) : Type 0 where
  pub lines : List ℕ
  pub prints : Appends old now lines
  pub texts : lines ++ (commands_part s rest).text ≡ whole.text
  pub state : (commands_part s rest).state ≡ whole.state

first_left : (lines : List NumberedCommand) (i : ℕ) (entry : NumberedCommand) → entry ≡ get_or lines i entry → i < length lines → drop i lines ≡ entry ∷ drop (i + 1) lines
first_left lines i entry item within = drop_more lines i entry within ∙ ap (λ e. e ∷ drop (i + 1) lines) (sym item)

-- one more command was carried out
pub one_more : (whole : Part) (old now new : Option (List ℕ)) (s after : State) (lines : List NumberedCommand) (i : ℕ) (entry : NumberedCommand) →
    entry ≡ get_or lines i entry → i < length lines → IsOnTheWay whole old now s (drop i lines) →
    Appends now new (line_part s entry).text → after ≡ (line_part s entry).state → IsOnTheWay whole old new after (drop (i + 1) lines)
one_more whole old now new s after lines i entry item within way adds same =
    let piece = (line_part s entry).text in
    let left = drop (i + 1) lines in
    let all : commands_part s (drop i lines) ≡ commands_part s (entry ∷ left) = ap (commands_part s) (first_left lines i entry item within) in record {
      lines = way.lines ++ piece;
      prints = Appends-trans old now new way.lines piece way.prints adds;
      texts = ap (λ v. (way.lines ++ piece) ++ (commands_part v left).text) same
          ∙ append_assoc way.lines piece (commands_part (line_part s entry).state left).text
          ∙ sym (ap (λ (p : Part). way.lines ++ p.text) all) ∙ way.texts;
      state = ap (λ v. (commands_part v left).state) same ∙ sym (ap (λ (p : Part). p.state) all) ∙ way.state;
    }
