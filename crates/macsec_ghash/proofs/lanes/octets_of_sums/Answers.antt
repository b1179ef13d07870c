-- Each step adds the entry of one table.
use Rattle.std.proofs.{
  Common.{◌≡◌, ℕ, ◌+◌, ◌-◌, ◌*◌, ◌<◌, slice_index, bit_xor, sym, ap, ap₂, ◌∙◌, arith},
  lemmas.Simd.{get_or-chunk, get_or-replicate},
}
use Rattle.macsec_ghash.{proofs.Sums.{sum_next, sum_none}, specs.Tables.lane_at}
use borrow.Rule.Slice.PartMut.{mid_of}
use Rattle.macsec_ghash.proofs.lanes.octets_of_sums.Goals as goal

pub loop-place-init : goal.loop-place-init
loop-place-init c k lt = get_or-replicate 32 k 0 0 lt ∙ sym (sum_none _)

pub loop-place-preserved : goal.loop-place-preserved
loop-place-preserved c k lt =
    let place : ℕ = c.loop-place.place in
    let at : ℕ = 128 * c.args.octet + 16 * place in
    let nibble : ℕ = lane_at c.args.nibbles.now place k in
    let f : ℕ → ℕ = λ p. slice_index c.args.tables.now (128 * c.args.octet + 16 * p + lane_at c.args.nibbles.now p k) in
    let small : nibble < 16 = c.requires.small place (omega arith) k lt in
    let octet_lt = c.requires.octet in
    let index : at + (0 + nibble) ≡ at + nibble = omega arith in
    let entry =
    get_or-chunk 0 16 (mid_of at (2176 - at) c.args.tables.now) nibble 0 small
    ∙ get_or-chunk at (2176 - at) c.args.tables.now (0 + nibble) 0 (omega (arith, octet_lt, small))
    ∙ ap (slice_index c.args.tables.now) index in
    c.add-sums.ensures k lt ∙ ap₂ bit_xor (c.loop-place.invariant k lt) (c.looked_up.ensures k lt ∙ entry) ∙ sym (sum_next place f)
