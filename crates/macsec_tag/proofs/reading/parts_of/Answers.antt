-- The parts are the parts by position, and have the lengths that the SecTAG requires.
use Rattle.std.proofs.Common.{sym, ◌∙◌, ap, subst}
use Rattle.macsec_tag.{
  proofs.ByPlace.{are_octets, parts_cut, lengths_by, spelled_there},
  specs.{Frame.HasLengths, Tag.encoding},
}
use Rattle.macsec_tag.proofs.reading.parts_of.Goals as goal

pub returns : goal.returns
returns c =
    let data_is = rw (c.data_length.ensures.value, c.after_tag.ensures) at c.split_at-3.ensures.front in
    let after_is = rw (c.data_length.ensures.value, c.after_tag.ensures) at c.split_at-3.ensures.back in
    let icv_is = rw after_is at c.split_at-4.ensures.front in
    let padding_is = rw after_is at c.split_at-4.ensures.back in
    parts_cut c.args.frame.now c.split_at.result.0.now _ _ _ _ c.requires c.split_at.ensures.front data_is icv_is padding_is c.sec_tag.ensures

pub invariant_of-result : goal.invariant_of-result
invariant_of-result c =
    let frame = c.args.frame.now in
    let octets = are_octets frame c.type_inv.frame in
    let tag_is = rw (c.tag_length.ensures, c.split_at.ensures.back) at c.split_at-2.ensures.front in (
      tag_is ∙ sym (spelled_there frame octets c.requires) ∙ ap encoding (sym c.sec_tag.ensures),
      subst HasLengths (sym (returns c)) (lengths_by frame c.requires),
    )
