-- The lengths of the frames that an endpoint returns.
use Rattle.std.specs.Prelude.{◌≡◌, ◌≤◌, ◌+◌, ℕ, List, length, Option, Some, None, IfSome}
use Rattle.macsec_tag.specs.Limits.{min_frame_len, max_frame_len}
use Rattle.macsec_secy.specs.Step.{Output, done, refused, leaves, dropped_no_sa, dropped_too_long, received, fault}

-- the frame has 14 to 9,248 octets
pub record HasFrameLength (frame : List ℕ) : Type 0 where
  pub least : min_frame_len ≤ length frame
  pub most : length frame ≤ max_frame_len

-- a received frame has 14 to 9,248 octets, and the frame delivered at the controlled port, if any, is no longer
pub record HasReceivedLengths (frame : List ℕ) (delivered : Option (List ℕ)) : Type 0 where
  pub shown : HasFrameLength frame
  pub controlled : IfSome delivered (λ d. length d ≤ length frame)

-- a sent frame has 14 to 9,248 octets; of the other outputs, only that for a link frame has a frame
abbrev pub HasFrameLengths : Output → Type 0
HasFrameLengths done = Unit {0}
HasFrameLengths (refused r) = Unit {0}
HasFrameLengths (leaves frame under) = HasFrameLength frame
HasFrameLengths dropped_no_sa = Unit {0}
HasFrameLengths dropped_too_long = Unit {0}
HasFrameLengths (received verdict row shown controlled) = HasReceivedLengths shown controlled
HasFrameLengths (fault f) = Unit {0}

-- a protected frame is 24 to 32 octets longer than the client frame: 8 or 16 of the SecTAG, and 16 of the ICV
pub record HasProtectedLength (client frame : List ℕ) : Type 0 where
  pub least : length client + 24 ≤ length frame
  pub most : length frame ≤ length client + 32

-- the frame sent for a client frame has the same length, or is 24 to 32 octets longer if it is protected
abbrev pub HasLengthFrom : List ℕ → Option ℕ → List ℕ → Type 0
HasLengthFrom client None frame = length frame ≡ length client
HasLengthFrom client (Some key) frame = HasProtectedLength client frame

-- the frame in the output for a client frame, if any, has this length
abbrev pub HasLengthsFrom : List ℕ → Output → Type 0
HasLengthsFrom client done = Unit {0}
HasLengthsFrom client (refused r) = Unit {0}
HasLengthsFrom client (leaves frame under) = HasLengthFrom client under frame
HasLengthsFrom client dropped_no_sa = Unit {0}
HasLengthsFrom client dropped_too_long = Unit {0}
HasLengthsFrom client (received verdict row shown controlled) = Unit {0}
HasLengthsFrom client (fault f) = Unit {0}
