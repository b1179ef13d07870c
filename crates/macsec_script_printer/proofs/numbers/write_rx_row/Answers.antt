use Rattle.{
  std.proofs.{Common.{◌≡◌, ℕ, List, ◌++◌, append_assoc, refl, codes}, KnownBytes.Appends-trans},
  macsec_script_printer.proofs.Pieces.end_of_text,
}
use Rattle.macsec_script_printer.proofs.numbers.write_rx_row.Goals as goal

-- the pieces of the line, joined from the right and from the left
joined : (n rx space sci an key next lowest state end : List ℕ) →
    n ++ rx ++ sci ++
    (space ++ (an ++ (space ++ (key ++ (space ++ (next ++ (space ++ (lowest ++ (space ++ (state ++ end)))))))))) ≡
    n ++ rx ++ sci ++ space ++ an ++ space ++ key ++ space ++ next ++ space ++ lowest ++ space ++ state ++ end
joined n rx space sci an key next lowest state end = simp append_assoc refl

pub returns : goal.returns
returns g c =
    let front = Appends-trans _ _ _ _ _ c.in_ok-write.ensures.bytes c.in_ok-write_hex.ensures in
    rw c.in-Some.is
    (end_of_text c.writeln.result _ _ _ _ _ _ front c.writeln.ensures.bytes
    (rw (c.number-an.ensures.value, c.number-key.ensures.value, c.state_text-state.ensures)
    (joined _ (codes " rx ") (codes " ") _ _ _ _ _ _ (codes "\n"))))
