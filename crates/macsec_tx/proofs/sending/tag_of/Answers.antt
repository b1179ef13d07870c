use Rattle.{
  std.{proofs.Common.{◌≡◌, ◌<◌, length, subst, arith}, specs.Option.ForSome},
  macsec_tx.proofs.SentTags.is_tag,
}
use Rattle.macsec_tx.proofs.sending.tag_of.Goals as goal

pub unwrap-requires : goal.unwrap-requires
unwrap-requires c =
    let own = c.is_own-own.ensures in
    let small : c.args.row.now.an < 4 = omega (arith, c.number-number.ensures.value, c.number-number.ensures.below) in
    let sci = c.sci_sent.ensures.value _ own in
    let octets = subst (λ o. ForSome o (λ s. length s.0 ≡ 8)) sci c.sci_sent.ensures.octets in
    c.new.ensures.valid.1
    (rw (c.requires.next, c.es_sent.ensures _ own, c.scb_sent.ensures _ own, sci, c.sl_of.ensures) (is_tag c.args.options.now c.args.row.now c.args.frame.now small octets))
