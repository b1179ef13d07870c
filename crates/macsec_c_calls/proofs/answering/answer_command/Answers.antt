-- The buffer is too small: no answer to a command needs more than the smallest buffer has.
use Rattle.{std.proofs.Common.{◌<◌, ℕ, length, refl, subst, sym}, macsec_c_calls.proofs.Short.command_needs}
use Rattle.macsec_c_calls.proofs.answering.answer_command.Goals as goal

pub returns-then-out-lt-MIN_ANSWER_LEN : goal.returns-then-out-lt-MIN_ANSWER_LEN
returns-then-out-lt-MIN_ANSWER_LEN c =
    let is = command_needs c.args.endpoint.now c.args.n c.args.command.now c.ranges.n.fits in
    record {
      room = subst (λ (m : ℕ). length c.args.out.now < m) (sym is) c.if-out-lt-MIN_ANSWER_LEN.true;
      unwritten = record { len = sym is; octets = refl; endpoint = refl };
    }
