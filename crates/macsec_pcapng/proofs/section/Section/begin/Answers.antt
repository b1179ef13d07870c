-- By the equation itself: without these proofs the prover tries other tactics on a mutant, which takes longer.
use Rattle.{std.proofs.Common.{◌∙◌, ap, sym, Ok}, macsec_pcapng.specs.{Section.Section, Sections.new_section}}
use Rattle.macsec_pcapng.proofs.section.Section.begin.Goals as goal

pub returns-in-Ok : goal.returns-in-Ok
returns-in-Ok c =
    ap (λ (s : Section). new_section s.has_ethernet c.args.order c.args.front.now) (sym c.self.view_is) ∙ sym c.in-Ok.ensures
    ∙ ap Ok (sym c.section.view_is)

pub returns-in-Err : goal.returns-in-Err
returns-in-Err c =
    ap (λ (s : Section). new_section s.has_ethernet c.args.order c.args.front.now) (sym c.self.view_is) ∙ sym c.in-Err.ensures
