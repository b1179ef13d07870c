-- By the equation itself: without this proof the prover tries other tactics on a mutant, which takes longer.
use Rattle.{std.proofs.{Common.{◌∙◌, ap}, lemmas.List.take_rest}, macsec_pcap.specs.Numbers.number}
use Rattle.macsec_pcapng.proofs.packets.captured_length.Goals as goal

pub returns : goal.returns
returns c = c.u32.ensures ∙ ap (number c.args.order 4) (take_rest c.args.front.now 12)
