use Rattle.{
  std.proofs.Common.{◌≡◌, ℕ, List, [], refl, arith},
  macsec_gcm.specs.{Gcm.gctr, Pieces.{HasOpened, decrypted}},
  macsec_suite.proofs.Cuts.{all_written, none_written, one_more_written},
}
use Rattle.macsec_suite.proofs.pieces.decrypt.Goals as goal

nothing : (key iv : List ℕ) → decrypted key iv [] ≡ []
unfolding gctr
nothing key iv = refl

pub loop-i-init : goal.loop-i-init
loop-i-init c = λ key iv. none_written (HasOpened c.args.unlocked.now key iv) (decrypted key iv) c.args.text.now (nothing key iv)

pub loop-i-preserved : goal.loop-i-preserved
loop-i-preserved c = λ key iv none.
    one_more_written (HasOpened c.loop-i.unlocked key iv) (HasOpened c.data.new.self key iv) (decrypted key iv)
    c.args.text.now c.loop-i.text c.data.new.piece c.loop-i.i c.min-end.result
    c.loop-i.auto.text (omega arith) (omega arith) (omega arith) (c.data.ensures key iv) (c.loop-i.invariant key iv none)

pub returns : goal.returns
returns c = λ key iv none.
    (all_written (HasOpened c.loop-i.unlocked key iv) (decrypted key iv) c.args.text.now c.loop-i.text c.loop-i.i
    c.loop-i.auto.text (omega arith) (c.loop-i.invariant key iv none)).1
