use Rattle.{std.proofs.Common.{◌≡◌, ◌+◌, ◌*◌, drop}, macsec_rx.specs.{Commands.has_channel, Index.channel_place}}
use Rattle.macsec_rx.proofs.index.channel_place.Given as goal

-- no SC before the piece has the SCI
abbrev pub invariant-loop-number : goal.invariant-loop-number
invariant-loop-number l = record {
  there : has_channel l.scis l.sci ≡ has_channel (drop (8 * l.number) l.scis) l.sci;
  place : channel_place l.scis l.sci ≡ 8 * l.number + channel_place (drop (8 * l.number) l.scis) l.sci;
}
