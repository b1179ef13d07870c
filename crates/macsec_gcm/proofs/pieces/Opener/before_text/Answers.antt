use Rattle.macsec_gcm.specs.Gcm.{gctr}
use Rattle.macsec_gcm.proofs.pieces.Opener.before_text.Goals as goal

pub returns : goal.returns
unfolding gctr
returns c =
    let stream = rw (c.before-stream.ensures.key, c.before-stream.ensures.counter) at c.begin-mask.ensures.stream in
    let mask = rw (c.before-stream.ensures.key, c.before-stream.ensures.counter) at c.begin-mask.ensures.block in
    record {
      stream = rw (← c.pre_counter_block.ensures, ← c.key.view_is) stream;
      authenticator = rw (← c.pre_counter_block.ensures, ← c.key.view_is)
          (c.start-authenticator.ensures _ c.pre_counter_block.result c.key.invariant mask);
    }
