-- The order of deliveries needs replay protection with a window of 0, at every moment. With it off, or with a window of
-- 1, one frame is delivered twice, though no tag is forged, B validates strictly, and B has both settings afterwards.
-- With it off, the later packet number is not above the earlier one either.
use Rattle.macsec_counterexamples.proofs.{
  Names.{[], ◌++◌, ◌+◌, ◌<◌, ◌∙◌, ◌∷◌, ◌≡◌, A, AgreeOnKey, AgreeOnKeys, AllPairs, ap, arith, at_row, B, Bool, Command},
  Names.{Delayed, Deliver, End, end_of, EndConfig, Event, false, first_options, HasStrictOrder, IsGenuine, IsGenuineAt},
  Names.{IsStrict, IsSubsequence, judgement_of, List, Mark, marks_of, new_trace, new_world, no_rx_counters, Options},
  Names.{Passed, refl, Replay, RxCounters, RxRow, Send, sending_of, Some, State, subst, sym, Trace, trace_after},
  Names.{trace_of, trace_step, true, Verdict, WasSentInOrder, WhileThere, world_after, world_of_trace, zero, ℕ},
  Link.{
    Exchange.{Opens, aad, client, first_opens, first_tag, iv, key_row, link_frame_of, trace_at, use_of},
    SealedFrames.sealed,
    TracedSteps.{AtEach, WhileLive, after_both, at_moment, deliver_step, each_append, genuine_append, genuine_at},
    TracedSteps.{genuine_next, live_next, send_step, sent_by},
    WorkedEnds.{Fails, bytes, gcm_a, gcm_b, of_two, rx_from, tx_from},
  },
}
use Rattle.macsec_counterexamples.proofs.Link.Exchange as exchange

-- the window is 1 with replay protection on, and 0 with it off
abbrev window : Bool → ℕ
window true = 1
window false = 0

abbrev commands : Bool → List Event
commands replay = exchange.commands ++ Command B (Replay replay (window replay)) ∷ []

-- then replay protection is on with a window of 0
abbrev back : List Event
back = Command B (Replay true 0) ∷ []

abbrev twice : List Event
twice = Deliver B 0 ∷ Deliver B 0 ∷ back

abbrev pub events : Bool → List Event
events replay = commands replay ++ Send A (client 1) ∷ twice

-- ---- the ends

abbrev options_of : Bool → Options
options_of replay = record (first_options gcm_b) { replay = replay; window = window replay }

-- the lowest acceptable packet number after packet number 1
abbrev lowest : Bool → ℕ
lowest true = 1
lowest false = 2

abbrev heard_row : Bool → RxRow
heard_row replay = record (rx_from 2) { lowest = lowest replay }

-- the verdict on the repeated frame, and the counters after it
abbrev again : Bool → Verdict
again true = Passed
again false = Delayed

abbrev counted_again : Bool → RxCounters
counted_again true = record no_rx_counters { in_pkts_ok = 2 }
counted_again false = record no_rx_counters { in_pkts_ok = 1; in_pkts_delayed = 1 }

abbrev ready : Bool → Trace
ready replay = trace_at (options_of replay) 0 (rx_from 1) 0 no_rx_counters [] [] [] [] []

is_ready : (replay : Bool) → trace_after (new_trace gcm_a gcm_b) (commands replay) ≡ ready replay
is_ready true = refl
is_ready false = refl

abbrev frame : List ℕ → List ℕ
frame t = link_frame_of 1 (client 1) t

abbrev one_sent : Bool → RxRow → ℕ → RxCounters → List (List ℕ) → List ℕ → List Mark → Trace
one_sent replay row m counted delivered t marks =
    trace_at (options_of replay) 1 row m counted (client 1 ∷ []) delivered (frame t ∷ [])
    (use_of 1 (client 1) t ∷ []) marks

abbrev after_sending : Bool → List ℕ → Trace
after_sending replay t = one_sent replay (rx_from 1) 0 no_rx_counters [] t []

abbrev mark : Bool → Mark
mark replay = record { at = B; log = 0; number = 1; replay = replay; window = window replay; validated = true }

abbrev after_once : Bool → List ℕ → Trace
after_once replay t = one_sent replay (heard_row replay) 2 (record no_rx_counters { in_pkts_ok = 1 }) (client 1 ∷ []) t
    (mark replay ∷ [])

abbrev after_twice : Bool → List ℕ → Trace
after_twice replay t = one_sent replay (heard_row replay) 4 (counted_again replay) (client 1 ∷ client 1 ∷ []) t
    (mark replay ∷ mark replay ∷ [])

abbrev at_end : Bool → List ℕ → Trace
at_end replay t =
    trace_at (first_options gcm_b) 1 (rx_from 2) 4 (counted_again replay) (client 1 ∷ []) (client 1 ∷ client 1 ∷ [])
    (frame t ∷ []) (use_of 1 (client 1) t ∷ []) (mark replay ∷ mark replay ∷ [])

-- ---- the steps

sends : (replay : Bool) → sending_of (ready replay).world.a.state (client 1) ≡ sent_by (tx_from 1) (frame first_tag)
sends replay = rw (sealed _ _ _)

is_sent : (replay : Bool) → trace_step (ready replay) (Send A (client 1)) ≡ after_sending replay first_tag
is_sent replay = rw (
  send_step (ready replay) (client 1) (tx_from 1) (frame first_tag) refl refl (sends replay),
  sealed _ _ _,
)

once_judged : (replay : Bool) (t : List ℕ) → Opens 1 t →
    judgement_of (after_sending replay t).world.b.state (frame t) ≡ at_row (rx_from 1) 1 13 Passed (Some (client 1))
once_judged true t is = rw is
once_judged false t is = rw is

once_heard : (replay : Bool) (t : List ℕ) → Opens 1 t →
    trace_step (after_sending replay t) (Deliver B 0) ≡ after_once replay t
once_heard true t is = deliver_step (after_sending true t) 0 _ _ refl refl refl (once_judged true _ is)
once_heard false t is = deliver_step (after_sending false t) 0 _ _ refl refl refl (once_judged false _ is)

once_genuine : (replay : Bool) (t : List ℕ) → Opens 1 t → IsGenuineAt (after_sending replay t) (Deliver B 0)
once_genuine replay t is =
    genuine_at (after_sending replay t).world.b.state (frame t) (at_row (rx_from 1) 1 13 Passed (Some (client 1)))
    (after_sending replay t).seals (once_judged replay t is) (0, omega arith, refl)

again_judged : (replay : Bool) (t : List ℕ) → Opens 1 t → judgement_of (after_once replay t).world.b.state (frame t) ≡
    at_row (heard_row replay) 1 13 (again replay) (Some (client 1))
again_judged true t is = rw is
again_judged false t is = rw is

again_heard : (replay : Bool) (t : List ℕ) → Opens 1 t →
    trace_step (after_once replay t) (Deliver B 0) ≡ after_twice replay t
again_heard true t is = deliver_step (after_once true t) 0 _ _ refl refl refl (again_judged true _ is)
again_heard false t is = deliver_step (after_once false t) 0 _ _ refl refl refl (again_judged false _ is)

again_genuine : (replay : Bool) (t : List ℕ) → Opens 1 t → IsGenuineAt (after_once replay t) (Deliver B 0)
again_genuine replay t is =
    let j = at_row (heard_row replay) 1 13 (again replay) (Some (client 1)) in
    let once = after_once replay t in
    genuine_at once.world.b.state (frame t) j once.seals (again_judged replay t is) (0, omega arith, refl)

is_back : (replay : Bool) (t : List ℕ) → trace_step (after_twice replay t) (Command B (Replay true 0)) ≡ at_end replay t
is_back true t = refl
is_back false t = refl

-- ---- the run

is_genuine : (replay : Bool) → IsGenuine (new_trace gcm_a gcm_b) (events replay)
is_genuine replay =
    let sending = after_sending replay first_tag in
    let once = after_once replay first_tag in
    let two = after_twice replay first_tag in
    genuine_append (new_trace gcm_a gcm_b) (ready replay) (commands replay) (Send A (client 1) ∷ twice)
    (tt, (tt, (tt, (tt, (tt, (tt, (tt, (tt, tt)))))))) (is_ready replay)
    (genuine_next (ready replay) (after_sending replay first_tag) (Send A (client 1)) twice (tt {0}) (is_sent replay)
    (genuine_next sending once (Deliver B 0) (Deliver B 0 ∷ back) (once_genuine replay first_tag first_opens)
    (once_heard replay first_tag first_opens)
    (genuine_next once two (Deliver B 0) back (again_genuine replay first_tag first_opens)
    (again_heard replay first_tag first_opens)
    (genuine_next (after_twice replay first_tag) (at_end replay first_tag) (Command B (Replay true 0)) [] (tt {0})
    (is_back replay first_tag) (tt {0})))))

trace_ends : (replay : Bool) → trace_of gcm_a gcm_b (events replay) ≡ at_end replay first_tag
trace_ends replay = after_both (new_trace gcm_a gcm_b) _ (commands replay) (Send A (client 1) ∷ twice) (is_ready replay)
    ∙ ap (λ (t : Trace). trace_after t twice) (is_sent _)
    ∙ ap (λ (t : Trace). trace_after t (Deliver B 0 ∷ back)) (once_heard _ _ first_opens)
    ∙ ap (λ (t : Trace). trace_after t back) (again_heard _ _ first_opens) ∙ is_back _ _

last_world_is : (replay : Bool) → world_after (new_world gcm_a gcm_b) (events replay) ≡ (at_end replay first_tag).world
last_world_is replay = sym (world_of_trace (new_trace gcm_a gcm_b) (events replay))
    ∙ ap (λ (t : Trace). t.world) (trace_ends _)

-- B is strict at each moment, and its other options but replay and window are the initial ones from the creation of its
-- SA on
each_moment : (replay : Bool) (P : State → Type 0) → ((s : State) → s.options ≡ first_options gcm_b → P s) →
    ((s : State) → s.options ≡ options_of replay → P s) → AtEach (WhileLive P) (new_world gcm_a gcm_b) (events replay)
each_moment replay P first so =
    each_append (WhileLive P) (new_world gcm_a gcm_b) (ready replay).world (commands replay) (Send A (client 1) ∷ twice)
    (tt, (tt, (tt, (tt, (tt, (tt, (λ live. first _ refl, (λ live. first _ refl, tt))))))))
    (sym (world_of_trace (new_trace gcm_a gcm_b) (commands replay)) ∙ ap (λ (t : Trace). t.world) (is_ready replay))
    (live_next P (ready replay) (after_sending replay first_tag) (Send A (client 1)) twice (λ live. so _ refl)
    (is_sent replay)
    (live_next P (after_sending replay first_tag) (after_once replay first_tag) (Deliver B 0) (Deliver B 0 ∷ back)
    (λ live. so _ refl) (once_heard replay first_tag first_opens)
    (live_next P (after_once replay first_tag) (after_twice replay first_tag) (Deliver B 0) back (λ live. so _ refl)
    (again_heard replay first_tag first_opens)
    (live_next P (after_twice replay first_tag) (at_end replay first_tag) (Command B (Replay true 0)) []
    (λ live. so _ refl) (is_back replay first_tag) (λ live. first _ refl)))))

while_there : (replay : Bool) (P : State → Type 0) → ((s : State) → s.options ≡ first_options gcm_b → P s) →
    ((s : State) → s.options ≡ options_of replay → P s) → WhileThere gcm_a gcm_b (events replay) B 0 P
while_there replay P first so k within = at_moment (WhileLive P) (new_world gcm_a gcm_b) (events replay)
    (each_moment _ _ first so) _ within

-- one frame delivered twice is no subsequence of the frame sent once
no_subsequence : (x : List ℕ) → IsSubsequence (x ∷ x ∷ []) (x ∷ []) → ⊥
no_subsequence x (p ∷ zero ∷ places, rising, found) = let less : p < 0 = rising 0 (omega arith) in omega (arith, less)
no_subsequence x it = cc

-- ---- the law of order

-- the remaining premise on replay protection: any window if it is on, the window of 0 if it is off
abbrev pub HasRest : Bool → State → Type 0
HasRest true s = s.options.replay ≡ true
HasRest false s = s.options.window ≡ 0

-- the law of order with only that premise at each moment, and with both settings after the last event
abbrev pub OrderWithRest : Bool → EndConfig → EndConfig → List Event → Type 0
OrderWithRest replay a b events = IsGenuine (new_trace a b) events → AgreeOnKeys (world_after (new_world a b) events) →
    (e : End) (i : ℕ) → WhileThere a b events e i IsStrict → WhileThere a b events e i (HasRest replay) →
    HasStrictOrder (end_of (world_after (new_world a b) events) e).state →
    WasSentInOrder (world_after (new_world a b) events) e i

keys_agree : (replay : Bool) → AgreeOnKeys (at_end replay first_tag).world
keys_agree replay = of_two (λ x y. x.bytes ≡ y.bytes → AgreeOnKey x y) _ _
    (λ same. record { suite = refl; salt = λ xpn. refl })

has_rest : (replay : Bool) → WhileThere gcm_a gcm_b (events replay) B 0 (HasRest replay)
has_rest true = while_there true (HasRest true) (λ s is. rw is) (λ s is. rw is)
has_rest false = while_there false (HasRest false) (λ s is. rw is) (λ s is. rw is)

order_fails : (replay : Bool) → OrderWithRest replay gcm_a gcm_b (events replay) → ⊥
order_fails replay law =
    let in_order : WasSentInOrder (at_end replay first_tag).world B 0 =
    rw (last_world_is _) at (law (is_genuine replay) (rw (last_world_is _) (keys_agree replay)) B 0
    (while_there replay IsStrict (λ s is. rw is) (λ s is. rw is)) (has_rest _)
    (rw (last_world_is _) (record { replay = refl; window = refl }))) in
    no_subsequence _ (in_order (key_row 1 2) (0, omega arith, refl) refl)

-- a window of 1 is too wide
pub window_of_0_needed : Fails (OrderWithRest true) gcm_a gcm_b (events true)
window_of_0_needed = (refl, order_fails _)

pub protection_needed : Fails (OrderWithRest false) gcm_a gcm_b (events false)
protection_needed = (refl, order_fails _)

-- ---- the law on windows

-- the window for two marks, without the premise that replay protection is on at the later one
abbrev IsWithinWindowOff : Mark → Mark → Type 0
IsWithinWindowOff earlier later = earlier.validated ≡ true → earlier.number < later.number + later.window

abbrev pub WindowWhereOff : EndConfig → EndConfig → List Event → Type 0
WindowWhereOff a b events = (e : End) (i : ℕ) → AllPairs IsWithinWindowOff (marks_of (trace_of a b events) e i)

pub protection_needed_for_window : Fails WindowWhereOff gcm_a gcm_b (events false)
protection_needed_for_window = (
  refl,
  λ law.
      let pairs : AllPairs IsWithinWindowOff (marks_of (at_end false first_tag) B 0) =
      subst (λ (t : Trace). AllPairs IsWithinWindowOff (marks_of t B 0)) (trace_ends _) (law B 0) in
      let less : 1 < 1 + 0 = pairs 0 1 (mark false) (omega arith) (omega arith) refl in
      omega (arith, less),
)
