-- The result of receiving a link frame, as C sees it.
use Rattle.std.specs.Prelude.{ℕ, List, [], replicate, Bool, true, false, Option, Some, None}
use Rattle.macsec_tag.specs.declared.identifiers.Sci.{Sci}
use Rattle.macsec_rx.specs.declared.within.RxPn.{RxPn}
use Rattle.macsec_secy.specs.Step.{Output, done, refused, leaves, dropped_no_sa, dropped_too_long, received, fault}
use Rattle.macsec_reserve.specs.Keeping.{KeepingOutput, dropped_no_reservation, endpoint_output, noted}
use Rattle.macsec_ahead.specs.Ahead.{AheadOutput, dropped_before_this_run, dropped_not_reserved, kept}
use Rattle.macsec_c_values.specs.Statuses.{done_status, earlier_run_verdict, no_reservation_verdict, number_of_verdict}
use Rattle.macsec_c_values.specs.Statuses.{status_of_frame_fault}
use Rattle.macsec_c_calls.specs.declared.receiving.Received.{Received}

-- the SA: whether there is one, the SCI of its SC, and its AN
abbrev pub Place : Type 0
Place = Bool × List ℕ × ℕ

abbrev pub place_parts : Option (Sci × ℕ) → Place
place_parts None = (false, replicate 8 0, 0)
place_parts (Some row) = (true, row.0.0, row.1)

abbrev pub Delivered : Type 0
Delivered = Bool × List ℕ

abbrev pub delivered_parts : Option (List ℕ) → Delivered
delivered_parts None = (false, [])
delivered_parts (Some frame) = (true, frame)

pub record ReceivedParts : Type 0 where
  pub status : ℕ
  pub verdict : ℕ
  pub place : Place
  pub delivered : Delivered
  pub pn : ℕ
  pub reserved : List ℕ

abbrev pub parts_of_received : Received → ReceivedParts
parts_of_received r = record {
  status = r.status;
  verdict = r.verdict;
  place = (r.has_sa, r.sci, r.an);
  delivered = (r.delivered, r.frame.now);
  pn = r.pn;
  reserved = r.reserved;
}

-- a frame that was not received, with this status
abbrev pub unreceived : ℕ → ReceivedParts
unreceived status = record {
  status = status;
  verdict = 0;
  place = place_parts None;
  delivered = delivered_parts None;
  pn = 0;
  reserved = replicate 2 0;
}

-- for an output of the machine; a link frame has only the last two
abbrev pub parts_of_output : Output → ReceivedParts
parts_of_output done = unreceived done_status
parts_of_output (refused r) = unreceived done_status
parts_of_output (leaves frame under) = unreceived done_status
parts_of_output dropped_no_sa = unreceived done_status
parts_of_output dropped_too_long = unreceived done_status
parts_of_output (received verdict row shown controlled) = record {
  status = done_status;
  verdict = number_of_verdict verdict;
  place = place_parts row;
  delivered = delivered_parts controlled;
  pn = 0;
  reserved = replicate 2 0;
}
parts_of_output (fault f) = unreceived (status_of_frame_fault f)

abbrev pub parts_of_kept : KeepingOutput → ReceivedParts
parts_of_kept (endpoint_output output) = parts_of_output output
parts_of_kept dropped_no_reservation = unreceived done_status
parts_of_kept noted = unreceived done_status

-- a valid frame that is dropped because of its packet number, with the number of this verdict: its SA, and its packet
-- number
abbrev pub dropped_parts : ℕ → RxPn → ReceivedParts
dropped_parts verdict at = record {
  status = done_status;
  verdict = verdict;
  place = place_parts (Some (at.sci, at.an));
  delivered = delivered_parts None;
  pn = at.number;
  reserved = replicate 2 0;
}

abbrev pub parts_of_ahead : AheadOutput → ReceivedParts
parts_of_ahead (kept output) = parts_of_kept output
parts_of_ahead (dropped_not_reserved at) = dropped_parts no_reservation_verdict at
parts_of_ahead (dropped_before_this_run at) = dropped_parts earlier_run_verdict at
