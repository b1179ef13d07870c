use Rattle.macsec_reserve.proofs.{
  Prelude.{[], ◌*◌, ◌+◌, ◌∙◌, ◌≡◌, ap, arith, reduced, reserved_in, reserved_within, slice_range, suc, sym, with_all},
  Reduced.with_all-append,
}
use Rattle.macsec_reserve.proofs.journal.entries_of.Goals as goal

pub loop-k-preserved : goal.loop-k-preserved
loop-k-preserved c =
    let k = c.loop-k.k in
    let journal = c.args.journal.now in
    let more = reserved_in (slice_range journal (64 * k) (64 * k + 64)) in
    let next : suc k ≡ k + 1 = omega arith in
    c.in_ok-add_reserved.ensures
    ∙ ap (λ found. with_all found more) c.loop-k.invariant
    ∙ sym (with_all-append (reserved_within k journal) more [])
    ∙ ap (λ n. reduced (reserved_within n journal)) next
