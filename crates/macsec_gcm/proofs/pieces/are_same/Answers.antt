use Rattle.{std.proofs.Common.{◌≡◌, ◌<◌, ◌^◌, ℕ, length, slice_index, rules}, macsec_gcm.proofs.Tags.same_by_sum}
use Rattle.macsec_gcm.proofs.pieces.are_same.Goals as goal

pub returns : goal.returns
returns c =
    let long : length c.args.a ≡ 16 = search rules in
    let long' : length c.args.b ≡ 16 = search rules in
    let small : (i : ℕ) → i < 16 → slice_index c.args.a i < 2 ^ 8 = λ i lt. search rules in
    let small' : (i : ℕ) → i < 16 → slice_index c.args.b i < 2 ^ 8 = λ i lt. search rules in
    rw (c.from_be_bytes.ensures, c.from_be_bytes-2.ensures) (same_by_sum c.args.a c.args.b long long' small small')
