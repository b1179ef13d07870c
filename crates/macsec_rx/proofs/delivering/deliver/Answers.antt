use Rattle.{
  std.proofs.Common.{◌≡◌, ◌+◌, ◌++◌, ℕ, List, length, take, drop, ap, sym, ◌∙◌, arith, rules, length-take-le},
  macsec_tag.specs.Tag.encoding,
  macsec_rx.proofs.Placed.placed,
}
use Rattle.macsec_rx.proofs.delivering.deliver.Goals as goal

pub returns-clause-octets : goal.returns-clause-octets
returns-clause-octets c =
    let out : List ℕ = c.args.out.now in
    let new : List ℕ = c.put.new.out in
    let p = c.args.mpdu.now in
    let addresses : List ℕ = c.addresses.result.now in
    let n : ℕ = length c.tag_bytes-tag_length.result.now in
    let m : ℕ = length c.secure_data.result.now in
    let tag_long : n ≡ length (encoding p.tag) = ap length c.tag_bytes-tag_length.ensures in
    let m_is : m ≡ length p.secure_data = ap length c.secure_data.ensures in
    let end : c.put.result ≡ n + 12 = omega (arith, c.put.ensures.end, c.addresses.ensures.length) in
    let place : n + 12 ≡ 12 + length (encoding p.tag) = omega (arith, tag_long) in
    let front_long : length (take n out) ≡ n = length-take-le n out (omega (arith, c.requires, tag_long)) in
    placed new (take n out) addresses (drop (n + 12) out) n 12 m front_long c.addresses.ensures.length
    (ap (λ (j : ℕ). take j new) (sym end) ∙ c.put.ensures.octets)
    (c.put.ensures.rest (n + 12) (omega (arith, end)))
    ∙ ap (λ (xs : List ℕ). xs ++ take m (drop (n + 12) out)) c.addresses.ensures.octets
    ∙ ap (λ (j : ℕ). (p.da ++ p.sa) ++ take j (drop (n + 12) out)) m_is
    ∙ ap (λ (j : ℕ). (p.da ++ p.sa) ++ take (length p.secure_data) (drop j out)) place

pub returns-clause-place : goal.returns-clause-place
returns-clause-place c = search rules
