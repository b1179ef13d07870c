use Rattle.{
  std.proofs.Common.{◌≡◌, ◌+◌, ◌++◌, ℕ, List, length, take, ap, sym, ◌∙◌, arith, length-take-le},
  macsec_tag.specs.Tag.encoding,
  macsec_rx.proofs.Placed.behind,
}
use Rattle.macsec_rx.proofs.delivering.deliver_bare.Goals as goal

pub returns-clause-octets : goal.returns-clause-octets
returns-clause-octets c =
    let out : List ℕ = c.args.out.now in
    let new : List ℕ = c.put.new.out in
    let p = c.args.mpdu.now in
    let n : ℕ = 12 + length (encoding p.tag) in
    let m : ℕ = length p.secure_data in
    let at : 12 + length c.tag_bytes.result.now ≡ n = ap (λ (xs : List ℕ). 12 + length xs) c.tag_bytes.ensures in
    let end : c.put.result ≡ n + m = omega (arith, c.put.ensures.end, at, ap length c.secure_data.ensures) in
    let front_long : length (take n out) ≡ n = length-take-le n out (omega (arith, c.requires)) in
    let before : take (n + m) new ≡ take n out ++ p.secure_data =
    ap (λ (j : ℕ). take j new) (sym end) ∙ c.put.ensures.octets ∙ ap (λ (j : ℕ). take j out ++ c.secure_data.result.now) at
    ∙ ap (λ (xs : List ℕ). take n out ++ xs) c.secure_data.ensures in
    c.deliver.ensures.octets ∙ ap (λ (xs : List ℕ). (p.da ++ p.sa) ++ xs) (behind new (take n out) p.secure_data n m front_long before)
