-- By joining the pieces of the line. This proof is here for speed.
use Rattle.std.{proofs.Common.{◌≡◌, List, ◌++◌, append_assoc, refl, subst, ℕ, OnOk, codes}, specs.Io.KnownBytes.Appends}
use Rattle.macsec_script_printer.proofs.counters.write_counter.Goals as goal

-- the pieces of the line, joined from the right and from the left
joined : (label space name value end : List ℕ) →
    label ++ (space ++ (name ++ (space ++ (value ++ end)))) ≡ label ++ space ++ name ++ space ++ value ++ end
joined label space name value end = simp append_assoc refl

pub returns : goal.returns
returns g c =
    let octets = g.W.Write.contents in
    subst (λ (t : List ℕ). OnOk c.writeln.result (Appends (octets c.args.writer.now) (octets c.writeln.new.self) t))
    (joined _ (codes " ") _ _ (codes "\n")) c.writeln.ensures.bytes
