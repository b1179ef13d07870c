-- The search in the table finds the first live log of the SA, which has capacity for the frame.
use Rattle.{
  std.proofs.Common.arith,
  macsec_link_logs.{proofs.LiveTable.{changed_at, changed_nowhere, has_place, inside}, specs.Logs.log_delivering},
}
use Rattle.macsec_link_logs.proofs.deliveries.push_first.Goals as goal

pub index_mut-requires : goal.index_mut-requires
index_mut-requires c =
    let a = c.args in
    let seen = c.as_slice in
    let found = c.place_of in
    let place = c.in-Some in
    omega (arith, inside a.sci a.an a.logs.now.items seen.result.now a.live.now seen.ensures.value c.requires.live found.result found.ensures place.place place.is)

pub push-requires : goal.push-requires
push-requires c =
    let a = c.args in
    let seen = c.as_slice in
    let found = c.place_of in
    let place = c.in-Some in
    record {
      place = has_place a.sci a.an a.logs.now.items seen.result.now a.live.now seen.ensures.value c.requires.live found.result found.ensures
          place.place place.is c.requires.places c.index_mut.result.now c.index_mut.ensures.value;
    }

pub returns-in-Some : goal.returns-in-Some
returns-in-Some c =
    changed_at c.args.sci c.args.an c.args.logs.now.items c.as_slice.result.now c.args.live.now c.as_slice.ensures.value c.requires.live (log_delivering c.args.frame.items)
    c.place_of.result c.place_of.ensures c.in-Some.place c.in-Some.is c.index_mut.result.now c.push.new.self c.index_mut.ensures.value c.push.ensures

pub returns-in-None : goal.returns-in-None
returns-in-None c =
    changed_nowhere c.args.sci c.args.an c.args.logs.now.items c.as_slice.result.now c.args.live.now c.as_slice.ensures.value c.requires.live (log_delivering c.args.frame.items)
    c.place_of.result c.place_of.ensures c.in-None.is
