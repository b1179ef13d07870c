use Rattle.{std.proofs.Common.{◌≡◌, All, length, take}, macsec_link_logs.specs.Places.{HasPlaceAt, logs_of}}
use Rattle.macsec_link_logs.proofs.deliveries.reserve_live.Given as goal

-- the logs have the same frames and count, and each log that the loop has visited has capacity for a frame
abbrev pub invariant-loop-place : goal.invariant-loop-place
invariant-loop-place l =
    (logs_of l.logs.items ≡ logs_of l.initial.logs.items) ×
    (length l.logs.items ≡ length l.initial.logs.items) ×
    All (HasPlaceAt l.logs.items) (take l.place-index l.live)
