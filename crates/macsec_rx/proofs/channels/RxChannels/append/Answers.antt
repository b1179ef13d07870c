-- There is space for an SA with a free number, and adding it keeps the invariant and the index. Proved from `has_room`
-- (`Room`), `AreRxRows-append` (`RxRows`) and `IsIndex-push` (`RowIndex`).
use Rattle.std.proofs.{Common.{◌≡◌, ◌∷◌, [], ◌++◌, length, sym, subst, lit<, arith, None}, Math.ListN.set}
use Rattle.macsec_rx.{
  proofs.{Room.has_room, RowIndex.IsIndex-push, RxRows.AreRxRows-append},
  specs.{Channels.rx_row, Index.{IsIndex, channel_place, slot}, Rows.IsRxRow},
}
use Rattle.macsec_rx.proofs.channels.RxChannels.append.Goals as goal

pub push-requires : goal.push-requires
push-requires c =
    let scis = c.self.inside.scis.items in
    let rows = c.self.inside.rows.items in
    let row = c.args.row in
    let is : IsRxRow scis row = subst (λ v. IsRxRow v.scis row) (sym c.self.view_is) c.requires.row in
    let free : rx_row rows row.sci row.an ≡ None = subst (λ v. rx_row v.rows row.sci row.an ≡ None) (sym c.self.view_is) c.requires.free in
    let room = has_room scis rows row.sci row.an c.self.invariant.0.rows is.channel is.an free in
    (lit< tt, omega (arith, room, c.self.invariant.0.count))

pub invariant_of-self : goal.invariant_of-self
invariant_of-self c =
    let scis = c.self.inside.scis.items in
    let rows = c.self.inside.rows.items in
    let row = c.args.row in
    let is : IsRxRow scis row = subst (λ v. IsRxRow v.scis c.args.row) (sym c.self.view_is) c.requires.row in
    let free : rx_row rows row.sci row.an ≡ None = subst (λ v. rx_row v.rows c.args.row.sci c.args.row.an ≡ None) (sym c.self.view_is) c.requires.free in
    let room = has_room scis rows row.sci row.an c.self.invariant.0.rows is.channel is.an free in
    let joined : IsIndex scis (rows ++ row ∷ []) (set c.self.inside.places (slot scis row.sci row.an) (length rows)) =
    IsIndex-push scis rows c.self.inside.places row c.self.invariant.1 (omega (arith, room, c.self.invariant.0.count)) c.self.invariant.0.count is free in
    let channel : c.unwrap-channel.result ≡ channel_place scis row.sci = rw (sym c.as_slice.ensures.value) (rw c.unwrap-channel.ensures at c.channel_place.ensures.place) in
    let here : slot scis row.sci row.an ≡ c.slot.result = omega (arith, channel, c.slot.ensures.slot) in
    let many : length rows ≡ c.len.result = omega (arith, c.len.ensures.value) in
    rw c.push.ensures.items (
      record { count = c.self.invariant.0.count; scis = c.self.invariant.0.scis; rows = AreRxRows-append scis rows row c.self.invariant.0.rows free is },
      subst (λ n. IsIndex scis (rows ++ row ∷ []) (set c.self.inside.places n c.len.result)) here
          (subst (λ n. IsIndex scis (rows ++ row ∷ []) (set c.self.inside.places (slot scis row.sci row.an) n)) many joined),
    )

pub returns-clause-channels : goal.returns-clause-channels
returns-clause-channels c = (invariant_of-self c).0
