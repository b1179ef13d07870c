-- The result of sending a client frame, as C sees it, for an endpoint that can reserve ahead of receiving.
use Rattle.macsec_ahead.specs.Ahead.{AheadOutput, dropped_before_this_run, dropped_not_reserved, kept}
use Rattle.macsec_c_values.specs.SentParts.{SentParts, parts_of_kept, unsent}
use Rattle.macsec_c_values.specs.Statuses.{done_status}

-- a client frame has only the first
abbrev pub parts_of_ahead : AheadOutput → SentParts
parts_of_ahead (kept output) = parts_of_kept output
parts_of_ahead (dropped_not_reserved at) = unsent done_status 0
parts_of_ahead (dropped_before_this_run at) = unsent done_status 0
