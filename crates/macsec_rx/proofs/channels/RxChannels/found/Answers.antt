-- The index finds the SA if there is one, and an SCI without an SC has no SA. Proved from the lemmas in `RowIndex`.
use Rattle.std.proofs.{
  Common.{◌≡◌, ◌∙◌, ap, sym, arith, true, false, refl, None, Some, slice_get},
  lemmas.Option.{slice_get_read, slice_get_past},
}
use Rattle.macsec_rx.{
  proofs.{Pieces.slice_get-channel_place, RowIndex.{is_found, place_found, rx_row-indexed, rx_row-no_channel}},
  specs.{Channels.rx_row, Commands.has_channel, Index.channel_place},
}
use Rattle.macsec_rx.proofs.channels.RxChannels.found.Goals as goal

pub returns-in_err-channel-clause-row : goal.returns-in_err-channel-clause-row
returns-in_err-channel-clause-row c =
    let scis = c.self.inside.scis.items in
    let rows = c.self.inside.rows.items in
    let none : has_channel scis c.args.sci ≡ false = rw (sym c.as_slice.ensures.value) (sym c.in_err-channel.ensures.there) in
    let no_row : rx_row c.args.self.now.rows c.args.sci c.args.an ≡ None =
    ap (λ v. rx_row v.rows c.args.sci c.args.an) (sym c.self.view_is) ∙
    rx_row-no_channel scis rows c.args.sci c.args.an c.self.invariant.0.rows none in
    rw c.from_residual.ensures no_row

pub returns-in_err-row-clause-row : goal.returns-in_err-row-clause-row
returns-in_err-row-clause-row c =
    let scis = c.self.inside.scis.items in
    let rows = c.self.inside.rows.items in
    let there : has_channel scis c.args.sci ≡ true = rw (sym c.as_slice.ensures.value) (sym c.in_ok-channel.ensures.there) in
    let places = c.self.inside.places in
    let channel = c.in_ok-channel.channel in
    let found = rx_row-indexed scis rows places c.args.sci c.args.an channel c.slot.result c.from-place.result c.self.invariant.1 there
    c.slot.ensures.number (rw (sym c.as_slice.ensures.value) c.in_ok-channel.ensures.place) c.slot.ensures.slot (omega arith) in
    let no_row : rx_row c.args.self.now.rows c.args.sci c.args.an ≡ None =
    ap (λ v. rx_row v.rows c.args.sci c.args.an) (sym c.self.view_is) ∙ found ∙ slice_get_past rows c.from-place.result (grind arith) in
    rw c.from_residual-in_err-row.ensures no_row

pub returns-clause-row : goal.returns-clause-row
returns-clause-row c =
    let scis = c.self.inside.scis.items in
    let rows = c.self.inside.rows.items in
    let there : has_channel scis c.args.sci ≡ true = rw (sym c.as_slice.ensures.value) (sym c.in_ok-channel.ensures.there) in
    let places = c.self.inside.places in
    let channel = c.in_ok-channel.channel in
    let found = rx_row-indexed scis rows places c.args.sci c.args.an channel c.slot.result c.from-place.result c.self.invariant.1 there
    c.slot.ensures.number (rw (sym c.as_slice.ensures.value) c.in_ok-channel.ensures.place) c.slot.ensures.slot (omega arith) in
    ap (λ v. rx_row v.rows c.args.sci c.args.an) (sym c.self.view_is) ∙ found ∙
    slice_get_read rows _ c.from-place.result c.in_ok-row.row.now refl (grind arith) (rw c.as_slice-rows.ensures.value at c.in_ok-row.ensures.lookup.1)

pub returns-clause-place : goal.returns-clause-place
returns-clause-place c =
    ap (λ v. slice_get v.rows c.from-place.result) (sym c.self.view_is) ∙
    slice_get_read c.self.inside.rows.items _ c.from-place.result c.in_ok-row.row.now refl (grind arith) (rw c.as_slice-rows.ensures.value at c.in_ok-row.ensures.lookup.1)

pub returns-clause-channel : goal.returns-clause-channel
returns-clause-channel c =
    let scis = c.self.inside.scis.items in
    let there : has_channel scis c.args.sci ≡ true = rw (sym c.as_slice.ensures.value) (sym c.in_ok-channel.ensures.there) in
    let channel : c.in_ok-channel.channel ≡ channel_place scis c.args.sci = rw (sym c.as_slice.ensures.value) c.in_ok-channel.ensures.place in
    let row = c.in_ok-row.row.now in
    let at = place_found c.args.sci c.args.an row (is_found c.args.self.now.rows c.args.sci c.args.an row (returns-clause-row c)) in
    ap (λ v. slice_get v.scis c.in_ok-channel.channel) (sym c.self.view_is) ∙ ap (slice_get scis) channel ∙ slice_get-channel_place scis c.args.sci there ∙ ap Some (sym at.0)
