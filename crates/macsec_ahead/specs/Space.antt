-- The space that an endpoint needs in addition to the keeping endpoint.
use Rattle.std.specs.Prelude.{◌≡◌, ◌≤◌, ℕ}
use Rattle.macsec_tag.specs.Limits.{max_frame_len}
use Rattle.macsec_rx.specs.Limits.{max_row_count}

-- space for what is reported of all SAs that there can be, twice; for a copy of the SAs; and for their limits. The buffer
-- holds the longest frame
pub record HasSpace (taken spare rows limits room_length : ℕ) : Type 0 where
  pub for_taken : max_row_count ≤ taken
  pub for_spare : max_row_count ≤ spare
  pub for_rows : max_row_count ≤ rows
  pub for_limits : max_row_count ≤ limits
  pub room : room_length ≡ max_frame_len
