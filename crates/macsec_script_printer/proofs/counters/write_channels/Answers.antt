-- Each turn writes the channel at the next place. The loop ends after the last channel.
use Rattle.{
  std.proofs.{Common.{arith, sym}, lemmas.{Grind.common_steps, Option.{slice_get_within, get_or_from_slice_get}}},
  macsec_script_printer.{proofs.Pieces.one_more_piece, specs.Counters.channel_text},
}
use Rattle.macsec_script_printer.proofs.counters.write_channels.Goals as goal

pub loop-place-preserved : goal.loop-place-preserved
loop-place-preserved g c =
    let scis = c.args.endpoint.now.rx.scis in let sci = c.in-Some.sci in let there = sym c.in-Some.ensures.sci in
    record {
      text =
          one_more_piece (channel_text c.args.label c.args.endpoint.now) scis c.loop-place.place sci _ _ _ (slice_get_within scis c.loop-place.place sci there)
          c.loop-place.invariant.text (rw (get_or_from_slice_get scis c.loop-place.place sci sci there) c.in_ok-write_channel_and_associations.ensures);
      count = λ some. c.in-Some.ensures.count;
    }

pub returns : goal.returns
returns g c = grind (arith, common_steps)
