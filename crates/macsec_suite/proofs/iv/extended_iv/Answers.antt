use Rattle.std.proofs.Common.{refl, ◌∙◌}
use Rattle.macsec_suite.proofs.iv.extended_iv.Goals as goal

pub returns : goal.returns
returns c = c.exclusive_or.ensures ∙ rw (c.write_u32.ensures, c.write_u64.ensures) refl
