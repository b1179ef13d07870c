-- One event of a trace, from the endpoint's result. So a worked run continues from a world that is written out, and
-- never computes earlier events again.
use Rattle.{
  macsec_tx.specs.Transmit.protected,
  macsec_secy.specs.Step.{leaves, received_output, state_after_sending},
  macsec_link_logs.specs.Ends.end_after,
  macsec_link.specs.Trace.marks_by,
  macsec_counterexamples.proofs.Names.{[], ◌++◌, ◌∷◌, ◌≡◌, ◌≤◌, A, ap, arith, B, CipherUse, client_frame, Contains},
  macsec_counterexamples.proofs.Names.{Deliver, Event, fault_of, frame_at, frame_fault, IfSome, IsGenuine, IsGenuineAt},
  macsec_counterexamples.proofs.Names.{Judgement, judgement_of, length, link_frame, List, None, reading, refl, Send},
  macsec_counterexamples.proofs.Names.{Sending, sending_of, slice_get, Some, State, state_after_receiving, suc, take},
  macsec_counterexamples.proofs.Names.{Trace, trace_after, trace_step, true, TxRow, use_opened, use_opened_in},
  macsec_counterexamples.proofs.Names.{use_sealed_by, world_after, world_step, WorldState, zero, ℕ},
}

abbrev pub world_of : Trace → WorldState
world_of t = t.world

-- ---- one event

-- A's SA sends this frame
abbrev pub sent_by : TxRow → List ℕ → Sending
sent_by row frame = record { leaving = protected row.key frame; by = Some row }

abbrev pub trace_sent : Trace → List ℕ → TxRow → List ℕ → Trace
trace_sent t client row frame = record {
  world = record {
    a = end_after t.world.a (client_frame client) (
      leaves frame (Some row.key),
      state_after_sending t.world.a.state client (sent_by row frame),
    );
    b = t.world.b;
    frames = t.world.frames ++ frame ∷ [];
  };
  seals = t.seals ++ use_sealed_by t.world.a.state client row ∷ [];
  marks = t.marks ++ [];
}

pub send_step : (t : Trace) (client : List ℕ) (row : TxRow) (frame : List ℕ) → fault_of t.world (Send A client) ≡ None →
    frame_fault client ≡ None →
    sending_of t.world.a.state client ≡ sent_by row frame → trace_step t (Send A client) ≡ trace_sent t client row frame
send_step t client row frame none fits sends = rw (none, fits, sends) refl

-- B judges the link frame so
abbrev pub trace_heard : Trace → List ℕ → Judgement → Trace
trace_heard t frame j = record {
  world = record {
    a = t.world.a;
    b = end_after t.world.b (link_frame frame) (received_output frame j, state_after_receiving t.world.b.state frame j);
    frames = t.world.frames;
  };
  seals = t.seals ++ [];
  marks = t.marks ++ marks_by B t.world.b j j.row j.delivered;
}

pub deliver_step : (t : Trace) (n : ℕ) (frame : List ℕ) (j : Judgement) → fault_of t.world (Deliver B n) ≡ None →
    frame_at t.world n ≡ frame → frame_fault frame ≡ None →
    judgement_of t.world.b.state frame ≡ j → trace_step t (Deliver B n) ≡ trace_heard t frame j
deliver_step t n frame j none there fits judged = rw (none, there, fits, judged) refl

pub genuine_at : (s : State) (frame : List ℕ) (j : Judgement) (seals : List CipherUse) → judgement_of s frame ≡ j →
    IfSome (use_opened_in s j j.row (reading frame)) (Contains seals) → IfSome (use_opened s frame) (Contains seals)
genuine_at s frame j seals judged it = rw judged it

-- ---- several events, in order

pub genuine_next : (t after : Trace) (event : Event) (events : List Event) → IsGenuineAt t event → trace_step t event ≡
    after → IsGenuine after events → IsGenuine t (event ∷ events)
genuine_next t after event events now is later = (now, rw is later)

pub genuine_append : (t after : Trace) (events more : List Event) → IsGenuine t events → trace_after t events ≡ after →
    IsGenuine after more → IsGenuine t (events ++ more)
genuine_append t after [] more now is later = rw is later
genuine_append t after (event ∷ events) more now is later =
    (now.0, genuine_append (trace_step t event) after events more now.1 is later)

abbrev pub AtEach : (WorldState → Type 0) → WorldState → List Event → Type 0
AtEach P w [] = P w
AtEach P w (event ∷ events) = P w × AtEach P (world_step w event).1 events

-- P holds of B's state while its SA 0 exists
abbrev pub WhileLive : (State → Type 0) → WorldState → Type 0
WhileLive P w = IfSome (slice_get w.b.delivered 0) (λ log. log.live ≡ true → P w.b.state)

abbrev pub AtEachBefore : (WorldState → Type 0) → WorldState → List Event → Type 0
AtEachBefore P w [] = Unit {0}
AtEachBefore P w (event ∷ events) = P w × AtEachBefore P (world_step w event).1 events

pub each_next : (P : WorldState → Type 0) (w after : WorldState) (event : Event) (events : List Event) → P w →
    (world_step w event).1 ≡ after → AtEach P after events → AtEach P w (event ∷ events)
each_next P w after event events now is later = (now, rw is later)

-- the same for a property of B along a trace
pub live_next : (P : State → Type 0) (t after : Trace) (event : Event) (events : List Event) → WhileLive P t.world →
    trace_step t event ≡ after → AtEach (WhileLive P) after.world events → AtEach (WhileLive P) t.world (event ∷ events)
live_next P t after event events now is later = each_next (WhileLive P) t.world _ event events now (ap world_of is)
    later

pub each_append : (P : WorldState → Type 0) (w after : WorldState) (events more : List Event) → AtEachBefore P w events
    → world_after w events ≡ after → AtEach P after more → AtEach P w (events ++ more)
each_append P w after [] more now is later = rw is later
each_append P w after (event ∷ events) more now is later =
    (now.0, each_append P (world_step w event).1 after events more now.1 is later)

pub at_moment : (P : WorldState → Type 0) (w : WorldState) (events : List Event) → AtEach P w events → (k : ℕ) → k ≤
    length events → P (world_after w (take k events))
at_moment P w [] each zero within = each
at_moment P w [] each (suc k) within = absurd (omega (arith, within))
at_moment P w (event ∷ events) each zero within = each.0
at_moment P w (event ∷ events) each (suc k) within = at_moment P (world_step w event).1 events each.1 k
    (omega (arith, within))

pub after_both : (t after : Trace) (events more : List Event) → trace_after t events ≡ after → trace_after t
    (events ++ more) ≡ trace_after after more
after_both t after [] more is = rw (← is) refl
after_both t after (event ∷ events) more is = after_both (trace_step t event) after events more is
