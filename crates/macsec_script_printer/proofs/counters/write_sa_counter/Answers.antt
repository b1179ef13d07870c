use Rattle.{
  std.proofs.{Common.{◌≡◌, ℕ, List, ◌++◌, append_assoc, refl, codes}, KnownBytes.Appends-trans},
  macsec_script_printer.proofs.Pieces.end_of_text,
}
use Rattle.macsec_script_printer.proofs.counters.write_sa_counter.Goals as goal

-- the pieces of the line, joined from the right and from the left
joined : (label space sci an name value end : List ℕ) →
    label ++ space ++ sci ++ (space ++ (an ++ (space ++ (name ++ (space ++ (value ++ end)))))) ≡
    label ++ space ++ sci ++ space ++ an ++ space ++ name ++ space ++ value ++ end
joined label space sci an name value end = simp append_assoc refl

pub returns : goal.returns
returns g c =
    let front = Appends-trans _ _ _ _ _ c.in_ok-write.ensures.bytes c.in_ok-write_hex.ensures in
    end_of_text c.writeln.result _ _ _ _ _ _ front c.writeln.ensures.bytes (joined _ (codes " ") _ _ _ _ (codes "\n"))
