-- By joining the pieces of the line, with the number and the name as premises. So a wrong number is refused quickly.
use Rattle.{
  std.proofs.Common.{◌≡◌, ◌∙◌, ℕ, List, ◌++◌, ap, append_assoc, arith, refl, subst, None, Ok, OnOk, codes, decimal},
  std.specs.Io.KnownBytes.Appends,
  macsec_suite.specs.{RefusalNumbers.number_of_refusal, declared.refusal.Refusal.Refusal},
  macsec_link_events.specs.declared.Outcome.TheVariants.Refused,
  macsec_script_printer.specs.{Outcomes.outcome_text, Refusals.refusal_name},
}
use Rattle.macsec_script_printer.proofs.outcomes.write_refused.Goals as goal

-- the pieces of the line, joined from the right and from the left
joined : (line refused number space name end : List ℕ) →
    line ++ (refused ++ (number ++ (space ++ (name ++ end)))) ≡ line ++ refused ++ (number ++ space ++ name) ++ end
joined line refused number space name end = simp append_assoc refl

told : (line number : ℕ) (name : List ℕ) (refusal : Refusal) → number ≡ number_of_refusal refusal →
    name ≡ refusal_name refusal →
    decimal line ++ (codes " refused " ++ (decimal number ++ (codes " " ++ (name ++ codes "\n")))) ≡
    outcome_text line None (Ok (Refused refusal))
told line number name refusal numbered named =
    let shown = decimal (number_of_refusal refusal) in
    ap (λ n. decimal line ++ (codes " refused " ++ (decimal n ++ (codes " " ++ (name ++ codes "\n"))))) numbered
    ∙ ap (λ t. decimal line ++ (codes " refused " ++ (shown ++ (codes " " ++ (t ++ codes "\n"))))) named
    ∙ joined (decimal line) (codes " refused ") shown (codes " ") (refusal_name refusal) (codes "\n")

pub returns : goal.returns
returns g c =
    let octets = g.W.Write.contents in
    subst (λ (t : List ℕ). OnOk c.writeln.result (Appends (octets c.args.writer.now) (octets c.writeln.new.self) t))
    (told c.args.line _ _ c.args.refusal (omega arith) c.refusal_name-name.ensures) c.writeln.ensures.bytes
