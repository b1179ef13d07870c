use Rattle.{
  std.{proofs.Common.{◌<◌, ◌≤◌, length, take, flat_map}, specs.Io.KnownBytes.Appends},
  macsec_rx.specs.Limits.max_channel_count,
  macsec_script_printer.specs.Counters.channel_text,
}
use Rattle.macsec_script_printer.proofs.counters.write_channels.Given as goal

-- the lines of the channels before the place are written; after the first turn, the number of channels is in range
abbrev pub invariant-loop-place : goal.invariant-loop-place
invariant-loop-place g l = record {
  text :
      Appends (g.W.Write.contents l.initial.writer) (g.W.Write.contents l.writer)
      (flat_map (channel_text l.label l.endpoint) (take l.place l.endpoint.rx.scis));
  count : 0 < l.place → length l.endpoint.rx.scis ≤ max_channel_count;
}
