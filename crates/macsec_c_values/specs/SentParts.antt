-- The result of sending a client frame, as C sees it.
use Rattle.std.specs.Prelude.{ℕ, List, [], replicate, Option, Some, None}
use Rattle.macsec_secy.specs.Step.{Output, done, refused, leaves, dropped_no_sa, dropped_too_long, received, fault}
use Rattle.macsec_reserve.specs.Keeping.{KeepingOutput, dropped_no_reservation, endpoint_output, noted}
use Rattle.macsec_c_values.specs.declared.sending.Sent.{Sent}
use Rattle.macsec_c_values.specs.Statuses.{done_status, status_of_frame_fault}

pub record SentParts : Type 0 where
  pub status : ℕ
  pub fate : ℕ
  pub key : ℕ
  pub frame : List ℕ
  pub reserved : List ℕ

abbrev pub parts_of_sent : Sent → SentParts
parts_of_sent s = record { status = s.status; fate = s.fate; key = s.key; frame = s.frame.now; reserved = s.reserved }

-- nothing is sent, with this status and for this reason
abbrev pub unsent : ℕ → ℕ → SentParts
unsent status fate = record { status = status; fate = fate; key = 0; frame = []; reserved = replicate 4 0 }

-- this frame is sent
abbrev pub sent_as : List ℕ → ℕ → ℕ → SentParts
sent_as frame fate key =
    record { status = done_status; fate = fate; key = key; frame = frame; reserved = replicate 4 0 }

-- protected under a key, or unchanged
abbrev pub leaving_parts : List ℕ → Option ℕ → SentParts
leaving_parts frame (Some key) = sent_as frame 1 key
leaving_parts frame None = sent_as frame 2 0

-- for an output of the machine; a client frame has only the last four
abbrev pub parts_of_output : Output → SentParts
parts_of_output done = unsent done_status 0
parts_of_output (refused r) = unsent done_status 0
parts_of_output (received verdict row shown controlled) = unsent done_status 0
parts_of_output (leaves frame under) = leaving_parts frame under
parts_of_output dropped_no_sa = unsent done_status 3
parts_of_output dropped_too_long = unsent done_status 4
parts_of_output (fault f) = unsent (status_of_frame_fault f) 0

abbrev pub parts_of_kept : KeepingOutput → SentParts
parts_of_kept (endpoint_output output) = parts_of_output output
parts_of_kept dropped_no_reservation = unsent done_status 5
parts_of_kept noted = unsent done_status 0
