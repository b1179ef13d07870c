-- The tests that a frame has passed before the reader cuts it into its parts.
use Rattle.std.specs.Prelude.{◌≡◌, ℕ, ◌+◌, ◌<◌, ◌≤◌, List, length, true, false, slice_index}
use Rattle.macsec_tag.specs.Tag.{v_bit, es_bit, sc_bit, scb_bit}
use Rattle.macsec_tag.specs.Frame.{has_macsec_ethertype}
use Rattle.macsec_tag.specs.Table.{has_bit, tag_length_at, has_wrong_length}

-- the frame passes the tests of a tagged frame
pub record StandsAsTagged (frame : List ℕ) : Type 0 where
  pub long : 20 ≤ length frame
  pub ethertype : has_macsec_ethertype frame ≡ true
  pub version : has_bit v_bit frame ≡ false
  pub no_es : has_bit sc_bit frame ≡ true → has_bit es_bit frame ≡ false
  pub no_scb : has_bit sc_bit frame ≡ true → has_bit scb_bit frame ≡ false
  pub sl : slice_index frame 15 < 48
  pub tag : 12 + tag_length_at frame ≤ length frame
  pub lengths : has_wrong_length frame ≡ false
