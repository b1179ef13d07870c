use Rattle.{
  std.proofs.{
    Common.{◌≡◌, ◌≤◌, ◌+◌, ◌++◌, ◌-◌, length, take, drop, ℕ, List, ap, ◌∙◌, arith, length-take, length-drop},
    Common.{length-append, take_at},
    lemmas.Slice.{between_to_end, take-put_mid},
  },
  macsec_tag.specs.Tag.encoding,
  macsec_tx.proofs.Writes.{take-put_mid_front, length-put_mid_front},
}
use borrow.Rule.Slice.PartMut.{put_mid}
use Rattle.macsec_tx.proofs.sending.write_clear.Goals as goal

pub returns-clause-octets : goal.returns-clause-octets
returns-clause-octets c =
    let frame : List ℕ = c.args.frame.now in
    let out : List ℕ = c.args.out.now in
    let tag : List ℕ = encoding c.args.tag.now in
    let n : ℕ = c.length-tag_length.result in
    let addresses : List ℕ = c.copy_from_slice.new.self in
    let first : List ℕ = addresses ++ drop 12 out in
    let k : ℕ = length first - 12 in
    let second : List ℕ = put_mid 12 k first c.write_tag.new.out in
    let secure_data : List ℕ = c.copy_from_slice-2.new.self in
    let rest : List ℕ = drop (length tag) (take k (drop 12 first)) in
    let tag_long : n ≡ length tag = c.length-tag_length.ensures.length in
    let copied : addresses ≡ take 12 frame = c.copy_from_slice.ensures.after in
    let addresses_long : length addresses ≡ 12 = ap length copied ∙ omega (arith, length-take 12 frame, c.requires.frame_long) in
    let first_long : 12 ≤ length first = omega (arith, length-append addresses (drop 12 out), addresses_long) in
    let written : c.write_tag.new.out ≡ tag ++ rest = c.write_tag.ensures.octets in
    let copied_data : secure_data ≡ drop 12 frame = c.copy_from_slice-2.ensures.after ∙ between_to_end frame 12 (length frame) (omega arith) in
    let data_long : length secure_data ≡ length frame - 12 = ap length copied_data ∙ length-drop 12 frame in
    let second_is : second ≡ put_mid 12 k first (tag ++ rest) = ap (λ (ys : List ℕ). put_mid 12 k first ys) written in
    let second_long : 12 + n ≤ length second =
    omega (arith, tag_long, ap length second_is, length-put_mid_front 12 k first tag rest first_long) in
    let tagged : take (12 + n) second ≡ take 12 frame ++ tag =
    ap (λ (ys : List ℕ). take (12 + n) ys) second_is
    ∙ ap (λ (m : ℕ). take (12 + m) (put_mid 12 k first (tag ++ rest))) tag_long
    ∙ take-put_mid_front 12 k first tag rest first_long
    ∙ ap (λ (xs : List ℕ). xs ++ tag) (take_at addresses (drop 12 out) 12 addresses_long ∙ copied) in
    take-put_mid (12 + n) (length frame + n - (12 + n)) second secure_data (length frame + n) (omega (arith, data_long, c.requires.frame_long)) second_long
    ∙ ap (λ (xs : List ℕ). xs ++ secure_data) tagged
    ∙ ap (λ (xs : List ℕ). take 12 frame ++ tag ++ xs) copied_data
