-- The octets of the SCI are the address and the port: 0, then the port's octet. Proved from the contract of the copy
-- and `set-append_right`.
use Rattle.{
  std.proofs.{Common.{◌++◌, ◌∷◌, [], List, ℕ, set, ap, ◌∙◌, arith}, lemmas.List.set-append_right},
  macsec_tag.specs.declared.identifiers.Sci.Sci,
}
use Rattle.macsec_rx.proofs.channels.port_of.Goals as goal

as_sci : List ℕ → Sci
as_sci octets = record { 0 = octets }

pub returns : goal.returns
unfolding as_sci
returns c =
    let address : List ℕ = c.args.address.now in
    let copied = ap (λ (xs : List ℕ). set (xs ++ 0 ∷ 0 ∷ []) 7 c.args.port) c.copy_from_slice.ensures.after in
    ap as_sci (copied ∙ set-append_right address (0 ∷ 0 ∷ []) 6 7 c.args.port c.requires (omega arith))
