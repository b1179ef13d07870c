use Rattle.{
  std.proofs.Common.{◌≡◌, get_or, rules},
  macsec_aes.{proofs.States.{table_is, place}, specs.{Aes.{sub_bytes, entry}, Field.s_box}},
}
use Rattle.macsec_aes.proofs.sub_bytes.Goals as goal

pub returns : goal.returns
unfolding sub_bytes
returns c =
    table_is (λ row column. s_box (entry c.args.state row column)) _ c.from_fn.ensures.items.long
    (λ k lt.
    let call = c.from_fn.ensures.items.at k 0 lt in
    let byte : get_or c.from_fn.result k 0 ≡ s_box (get_or c.args.state k 0) = search rules in
    rw (place k) byte)
