-- Each SA has an SC and is added to the index of the SAs before it. Proved from `IsIndex-push` of `RowIndex`.
use Rattle.std.proofs.{
  Common.{◌≡◌, ◌∙◌, ◌∷◌, [], ◌++◌, ◌+◌, length, refl, subst, sym, ap, take, arith, Some, slice_get, length-take-le},
  Math.ListN.set,
  lemmas.{List.take_more, Option.slice_get_read},
}
use Rattle.macsec_rx.{
  proofs.RowIndex.{IsIndex-push, IsRxRow-at, free_before},
  specs.{Index.{IsIndex, channel_place, slot}, Rows.IsRxRow},
}
use Rattle.macsec_rx.proofs.index.index_of.Goals as goal

pub unwrap-channel-requires : goal.unwrap-channel-requires
unwrap-channel-requires c =
    let there = slice_get_read c.args.rows.now _ c.loop-place.place c.index-rows-place.result refl (omega arith) c.index-rows-place.is in
    let is : IsRxRow c.args.scis.now c.index-rows-place.result = IsRxRow-at c.args.scis.now c.args.rows.now c.loop-place.place _ c.requires.rows there in
    c.channel_place.ensures.there ∙ is.channel

pub loop-place-preserved : goal.loop-place-preserved
loop-place-preserved c =
    let scis = c.args.scis.now in
    let rows = c.args.rows.now in
    let i = c.loop-place.place in
    let row = c.index-rows-place.result in
    let there : slice_get rows i ≡ Some row = slice_get_read rows _ i row refl (omega arith) c.index-rows-place.is in
    let is : IsRxRow scis row = IsRxRow-at scis rows i row c.requires.rows there in
    let many : length (take i rows) ≡ i = length-take-le i rows (omega arith) in
    let free = free_before scis rows i row c.requires.rows there in
    let joined : IsIndex scis (take i rows ++ row ∷ []) (set c.loop-place.places (slot scis row.sci row.an) (length (take i rows))) =
    IsIndex-push scis (take i rows) c.loop-place.places row c.loop-place.invariant (omega (arith, many)) c.requires.channels is free in
    let channel : c.unwrap-channel.result ≡ channel_place scis row.sci = rw c.unwrap-channel.ensures at c.channel_place.ensures.place in
    let here : slot scis row.sci row.an ≡ c.slot.result = omega (arith, channel, c.slot.ensures.slot) in
    let one_more : take i rows ++ row ∷ [] ≡ take (i + 1) rows = sym (take_more rows i row (omega arith) ∙ ap (λ r. take i rows ++ r ∷ []) (sym c.index-rows-place.is)) in
    subst (λ xs. IsIndex scis xs (set c.loop-place.places c.slot.result i)) one_more
    (subst (λ n. IsIndex scis (take i rows ++ row ∷ []) (set c.loop-place.places n i)) here
    (subst (λ n. IsIndex scis (take i rows ++ row ∷ []) (set c.loop-place.places (slot scis row.sci row.an) n)) many joined))

pub loop-place-init : goal.loop-place-init
loop-place-init c = c.empty_index-places.ensures c.args.scis.now
