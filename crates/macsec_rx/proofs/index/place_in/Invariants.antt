use Rattle.{std.proofs.Common.{◌≡◌, ◌+◌, drop}, macsec_rx.specs.{Commands.has_channel, Index.channel_place}}
use Rattle.macsec_rx.proofs.index.place_in.Given as goal

-- no SC before the index has the SCI
abbrev pub invariant-loop-place : goal.invariant-loop-place
invariant-loop-place l = record {
  there : has_channel l.scis l.sci ≡ has_channel (drop l.place l.scis) l.sci;
  place : channel_place l.scis l.sci ≡ l.place + channel_place (drop l.place l.scis) l.sci;
}
