use Rattle.{
  std.proofs.{Common.{[], arith}, lemmas.List.nil_from_length},
  macsec_gcm.specs.Pieces.HasSealed,
  macsec_suite.proofs.{Cuts.{all_written, none_written, one_more_written}, pieces.seal_text.Invariants.ciphertext},
}
use Rattle.macsec_suite.proofs.pieces.seal_text.Goals as goal

pub loop-i-init : goal.loop-i-init
loop-i-init c = λ key iv aad.
    none_written (HasSealed c.args.sealer.now key iv aad) (ciphertext key iv aad) c.args.text.now
    (nil_from_length (ciphertext key iv aad []) (c.sealed_lengths.ensures.ciphertext key iv aad []))

pub loop-i-preserved : goal.loop-i-preserved
loop-i-preserved c = λ key iv aad none.
    one_more_written (HasSealed c.loop-i.sealer key iv aad) (HasSealed c.data.new.self key iv aad) (ciphertext key iv aad)
    c.args.text.now c.loop-i.text c.data.new.piece c.loop-i.i c.min-end.result
    c.loop-i.auto.text (omega arith) (omega arith) (omega arith) (c.data.ensures key iv aad) (c.loop-i.invariant key iv aad none)

pub returns : goal.returns
returns c = λ key iv aad none.
    all_written (HasSealed c.loop-i.sealer key iv aad) (ciphertext key iv aad) c.args.text.now c.loop-i.text c.loop-i.i
    c.loop-i.auto.text (omega arith) (c.loop-i.invariant key iv aad none)
