-- The data have a length that the cipher accepts, and the octets written are the protected frame. Proved from the lemma
-- on frames protected in place in `Sealing`.
use Rattle.std.proofs.{
  Common.{◌≡◌, ◌+◌, ℕ, List, length, take, drop, ap, ◌∙◌, arith, rules, length-take, ◌≤◌, take_at, length-take-le},
  Math.Seq.take-add,
}
use Rattle.macsec_tx.proofs.Sealing.{protected_row}
use Rattle.macsec_tx.proofs.sending.write_frame.Goals as goal

pub protect_in_place-requires-clause-data_length :
    goal.protect_in_place-requires-clause-data_length
protect_in_place-requires-clause-data_length c =
    omega (arith, length-take (c.write_clear-end.result + 16) c.write_clear-end.new.out, c.requires.frame_short, c.write_clear-end.ensures.short)

pub returns-clause-octets : goal.returns-clause-octets
returns-clause-octets c =
    let n : ℕ = c.write_clear-end.result in
    let written : List ℕ = c.write_clear-end.new.out in
    let whole : List ℕ = take (n + 16) written in
    let room : n + 16 ≤ length written = search rules in
    let whole_long : length whole ≡ n + 16 = length-take-le (n + 16) written room in
    let clear : take n whole ≡ take n written =
    ap (λ (xs : List ℕ). take n xs) (take-add n 16 written) ∙ take_at (take n written) (take 16 (drop n written)) n (length-take-le n written (omega arith)) in
    let long : length c.protect_in_place.new.frame ≡ n + 16 = search rules in
    let a = c.args in
    let begins = clear ∙ c.write_clear-end.ensures.octets in
    let made = protected_row c.parts_in_place.ensures a.key.now a.iv.now a.tag.now a.frame.now whole n c.requires.frame_long whole_long begins in
    let frame_is = c.protect_in_place.ensures ∙ rw (c.e.ensures, c.length.ensures.length) made in
    take_at c.protect_in_place.new.frame (drop (n + 16) written) (n + 16) long ∙ frame_is
