-- The order of deliveries needs the same salt at both ends. With another salt at B, B can recover another packet number
-- than A's, and the IV can still be the same. A sends three frames, from ffffffff on; B takes the third as number 1,
-- and then the first as 1ffffffff.
use Rattle.macsec_counterexamples.proofs.{
  Names.{[], ◌*◌, ◌++◌, ◌+◌, ◌-◌, ◌<◌, ◌^◌, ◌∙◌, ◌∷◌, ◌≡◌, ◌≢◌, A, ap, arith, at_row, B, cipher_use, CipherUse},
  Names.{Command, Deliver, End, EndConfig, Event, false, first_options, get_or, HasStrictOrder, InstalledKey},
  Names.{IsGenuine, IsGenuineAt, IsStrict, IsSubsequence, iv_of, judgement_of, List, Mark, new_trace, new_world},
  Names.{no_counters, no_rx_counters, no_tx_counters, open_of, Passed, refl, replicate, RxLow, RxRow, Send, Sending},
  Names.{Some, start, State, suc, sum_with_stream, sym, tag_sent, Trace, trace_after, trace_step, tx_options},
  Names.{WasSentInOrder, WhileThere, world_after, world_of_trace, Xpn128, zero, ℕ},
  Link.{
    Exchange.{client, mark},
    IvPremises.{AgreeOnSuite, AgreeOnSuites},
    SealedFrames.{Sealed, aad_sent, frame_with, items, opens, parts_with, sealed, tag_of, with_tag},
    TracedSteps.{AtEach, WhileLive, world_of, after_both, at_moment, deliver_step, each_append, genuine_append},
    TracedSteps.{genuine_at, genuine_next, live_next, send_step, sent_by},
    WorkedEnds.{Fails, bytes, counts, installed_key, log, logs_sent, new_key, no_salt, of_two, receives_from, rx_from},
    WorkedEnds.{sci_a, sends_from, tx_from, xpn_a, xpn_b},
  },
}

-- B's salt flips the lowest bit of the upper half
abbrev salt_b : List ℕ
salt_b = replicate 7 0 ++ 1 ∷ replicate 4 0

-- A's packet numbers: ffffffff, 100000000 and 100000001
abbrev number : ℕ → ℕ
number n = 2 ^ 32 - 1 + n

abbrev commands : List Event
commands = sends_from A (new_key no_salt 1) (number 0) false ++ receives_from B (new_key salt_b 2) sci_a 1 1

abbrev last_delivery : List Event
last_delivery = Deliver B 0 ∷ []

abbrev raise : Event
raise = Command B (RxLow sci_a 0 (2 ^ 32))

abbrev from_raising : List Event
from_raising = raise ∷ last_delivery

abbrev from_delivery : List Event
from_delivery = Deliver B 2 ∷ from_raising

abbrev exchange : List Event
exchange = Send A (client 1) ∷ Send A (client 2) ∷ Send A (client 3) ∷ from_delivery

abbrev pub events : List Event
events = commands ++ exchange

abbrev key_row : List ℕ → ℕ → ℕ → InstalledKey
key_row salt ssci first_unused = installed_key Xpn128 salt ssci first_unused

-- A has sent n frames, with this first unused packet number; then B's SA and what it has accepted
abbrev trace_at : ℕ → ℕ → RxRow → ℕ → List (List ℕ) → List (List ℕ) → List (List ℕ) → List CipherUse → List Mark → Trace
trace_at n unused row m sent delivered frames seals marks = record {
  world = record {
    a = record {
      state = record (start xpn_a) {
        keys = key_row no_salt 1 unused ∷ [];
        tx = tx_from (number n) ∷ [];
        tx_counters = record no_tx_counters { out_pkts_protected = n; out_octets_protected = 2 * n };
      };
      sent = logs_sent sent;
      delivered = [];
    };
    b = record {
      state = record (start xpn_b) {
        keys = key_row salt_b 2 1 ∷ [];
        rx = record { scis = sci_a ∷ []; rows = row ∷ [] };
        counters = record no_counters { in_octets_validated = 2 * m };
        rx_counters = counts (record no_rx_counters { in_pkts_ok = m }) ∷ [];
      };
      sent = [];
      delivered = log delivered ∷ [];
    };
    frames = frames;
  };
  seals = seals;
  marks = marks;
}

abbrev ready : Trace
ready = trace_at 0 1 (rx_from 1) 0 [] [] [] [] []

is_ready : trace_after (new_trace xpn_a xpn_b) commands ≡ ready
is_ready = refl

-- ---- what A seals: its frames number 0, 1 and 2

abbrev iv : ℕ → List ℕ
iv n = iv_of Xpn128 sci_a 1 no_salt (number n)

abbrev own : ℕ → List ℕ
own n = client (n + 1)

abbrev aad : ℕ → List ℕ
aad n = aad_sent (tx_options (start xpn_a)) (key_row no_salt 1 1) (tx_from (number n)) (own n)

abbrev frame_by : ℕ → Sealed → List ℕ
frame_by n it = frame_with (tag_sent (tx_options (start xpn_a)) (tx_from (number n)) (own n)) (own n) it

abbrev use_by : ℕ → Sealed → CipherUse
use_by n it = cipher_use (key_row no_salt 1 1) (iv n)
    (parts_with (tag_sent (tx_options (start xpn_a)) (tx_from (number n)) (own n)) (own n) it)

abbrev tag : ℕ → List ℕ
tag n = tag_of bytes (iv n) (aad n)

abbrev frame : ℕ → List ℕ → List ℕ
frame n t = frame_by n (with_tag t)

abbrev use_of : ℕ → List ℕ → CipherUse
use_of n t = use_by n (with_tag t)

abbrev sending_by : ℕ → Sealed → Sending
sending_by n it = sent_by (tx_from (number n)) (frame_by n it)

abbrev sent_one : List ℕ → Trace
sent_one t = trace_at 1 (number 1) (rx_from 1) 0 (own 0 ∷ []) [] (frame 0 t ∷ []) (use_of 0 t ∷ []) []

abbrev sent_two : List ℕ → List ℕ → Trace
sent_two t u = trace_at 2 (number 2) (rx_from 1) 0 (own 0 ∷ own 1 ∷ []) [] (frame 0 t ∷ frame 1 u ∷ [])
    (use_of 0 t ∷ use_of 1 u ∷ []) []

first_sent : trace_step ready (Send A (client 1)) ≡ sent_one (tag 0)
first_sent = rw (
  send_step ready (client 1) (tx_from (number 0)) (frame 0 (tag 0)) refl refl (rw (sealed bytes (iv 0) (aad 0))),
  sealed bytes (iv 0) (aad 0),
)

second_sent : (t : List ℕ) → trace_step (sent_one t) (Send A (client 2)) ≡ sent_two t (tag 1)
second_sent t = rw (
  send_step (sent_one t) (client 2) (tx_from (number 1)) (frame 1 (tag 1)) refl refl (rw (sealed bytes (iv 1) (aad 1))),
  sealed bytes (iv 1) (aad 1),
)

abbrev all_sent : List (List ℕ)
all_sent = own 0 ∷ own 1 ∷ own 2 ∷ []

abbrev three_sent : List ℕ → List ℕ → List ℕ → RxRow → ℕ → List (List ℕ) → List Mark → Trace
three_sent t u v row m delivered marks =
    trace_at 3 (number 3) row m all_sent delivered (frame 0 t ∷ frame 1 u ∷ frame 2 v ∷ [])
    (use_of 0 t ∷ use_of 1 u ∷ use_of 2 v ∷ []) marks

third_sent : (t u : List ℕ) → trace_step (sent_two t u) (Send A (client 3)) ≡ three_sent t u (tag 2) (rx_from 1) 0 [] []
third_sent t u = rw (
  send_step (sent_two t u) (client 3) (tx_from (number 2)) (frame 2 (tag 2)) refl refl
      (rw (sealed bytes (iv 2) (aad 2))),
  sealed bytes (iv 2) (aad 2),
)

-- ---- what B recovers

abbrev Opens : ℕ → List ℕ → Type 0
Opens n t = open_of bytes (iv n) (aad n) [] (items 16 t) ≡ Some []

iv_of_third : iv_of Xpn128 sci_a 1 salt_b 1 ≡ iv 2
unfolding sum_with_stream
iv_of_third = refl

iv_of_first : iv_of Xpn128 sci_a 1 salt_b (2 ^ 33 - 1) ≡ iv 0
unfolding sum_with_stream
iv_of_first = refl

abbrev before_delivery : List ℕ → List ℕ → List ℕ → Trace
before_delivery t u v = three_sent t u v (rx_from 1) 0 [] []

abbrev after_third : List ℕ → List ℕ → List ℕ → Trace
after_third t u v = three_sent t u v (rx_from 2) 1 (own 2 ∷ []) (mark 1 ∷ [])

abbrev after_raising : List ℕ → List ℕ → List ℕ → Trace
after_raising t u v = three_sent t u v (rx_from (2 ^ 32)) 1 (own 2 ∷ []) (mark 1 ∷ [])

abbrev after_first : List ℕ → List ℕ → List ℕ → Trace
after_first t u v = three_sent t u v (rx_from (2 ^ 33)) 2 (own 2 ∷ own 0 ∷ []) (mark 1 ∷ mark (2 ^ 33 - 1) ∷ [])

third_judged : (t u v : List ℕ) → Opens 2 v →
    judgement_of (before_delivery t u v).world.b.state (frame 2 v) ≡ at_row (rx_from 1) 1 13 Passed (Some (own 2))
third_judged t u v is = rw (ap (λ (i : List ℕ). open_of bytes i (aad 2) [] (items 16 v)) iv_of_third ∙ is)

third_heard : (t u v : List ℕ) → Opens 2 v → trace_step (before_delivery t u v) (Deliver B 2) ≡ after_third t u v
third_heard t u v is = deliver_step (before_delivery t u v) 2 _ _ refl refl refl (third_judged t u _ is)

third_genuine : (t u v : List ℕ) → Opens 2 v → IsGenuineAt (before_delivery t u v) (Deliver B 2)
third_genuine t u v is =
    genuine_at (before_delivery t u v).world.b.state (frame 2 v) (at_row (rx_from 1) 1 13 Passed (Some (own 2)))
    (before_delivery t u v).seals (third_judged t u v is) (2, omega arith, rw (← iv_of_third))

is_raised : (t u v : List ℕ) → trace_step (after_third t u v) (Command B (RxLow sci_a 0 (2 ^ 32))) ≡ after_raising t u v
is_raised t u v = refl

first_judged : (t u v : List ℕ) → Opens 0 t → judgement_of (after_raising t u v).world.b.state (frame 0 t) ≡
    at_row (rx_from (2 ^ 32)) (2 ^ 33 - 1) 13 Passed (Some (own 0))
first_judged t u v is = rw (ap (λ (i : List ℕ). open_of bytes i (aad 0) [] (items 16 t)) iv_of_first ∙ is)

first_heard : (t u v : List ℕ) → Opens 0 t → trace_step (after_raising t u v) (Deliver B 0) ≡ after_first t u v
first_heard t u v is = deliver_step (after_raising t u v) 0 _ _ refl refl refl (first_judged _ u v is)

first_genuine : (t u v : List ℕ) → Opens 0 t → IsGenuineAt (after_raising t u v) (Deliver B 0)
first_genuine t u v is = genuine_at (after_raising t u v).world.b.state (frame 0 t)
    (at_row (rx_from (2 ^ 32)) (2 ^ 33 - 1) 13 Passed (Some (own 0))) (after_raising t u v).seals
    (first_judged t u v is) (0, omega arith, rw (← iv_of_first))

-- ---- the run

abbrev first_tag : List ℕ
first_tag = tag 0

abbrev second_tag : List ℕ
second_tag = tag 1

abbrev third_tag : List ℕ
third_tag = tag 2

first_opens : Opens 0 first_tag
first_opens = opens _ _ _

third_opens : Opens 2 third_tag
third_opens = opens _ _ _

-- the traces of the run: A sent one, two and three frames; B received the third; its lowest acceptable packet number
-- was raised; and B received the first
abbrev one : Trace
one = sent_one first_tag

abbrev two : Trace
two = sent_two first_tag second_tag

abbrev three : Trace
three = before_delivery first_tag second_tag third_tag

abbrev heard_third : Trace
heard_third = after_third first_tag second_tag third_tag

abbrev raised : Trace
raised = after_raising first_tag second_tag third_tag

abbrev heard_first : Trace
heard_first = after_first first_tag second_tag third_tag

heard_third_is : trace_step three (Deliver B 2) ≡ heard_third
heard_third_is = third_heard _ _ _ third_opens

raised_is : trace_step heard_third raise ≡ raised
raised_is = is_raised _ _ _

heard_first_is : trace_step raised (Deliver B 0) ≡ heard_first
heard_first_is = first_heard _ _ _ first_opens

is_genuine : IsGenuine (new_trace xpn_a xpn_b) events
is_genuine =
    genuine_append (new_trace xpn_a xpn_b) ready commands exchange (tt, (tt, (tt, (tt, (tt, (tt, (tt, tt))))))) is_ready
    (genuine_next ready _ (Send A (client 1)) (Send A (client 2) ∷ Send A (client 3) ∷ from_delivery)
    (tt {0}) first_sent
    (genuine_next one _ (Send A (client 2)) (Send A (client 3) ∷ from_delivery) (tt {0}) (second_sent first_tag)
    (genuine_next two _ (Send A (client 3)) from_delivery (tt {0}) (third_sent first_tag second_tag)
    (genuine_next three _ (Deliver B 2) from_raising (third_genuine first_tag second_tag _ third_opens) heard_third_is
    (genuine_next heard_third _ raise last_delivery (tt {0}) raised_is (genuine_next raised _ (Deliver B 0) []
    (first_genuine _ second_tag third_tag first_opens) heard_first_is (tt {0})))))))

last_world_is : world_after (new_world xpn_a xpn_b) events ≡ heard_first.world
last_world_is = sym (world_of_trace (new_trace xpn_a xpn_b) events) ∙ ap world_of
    (after_both (new_trace xpn_a xpn_b) _ commands exchange is_ready
    ∙ ap (λ (t : Trace). trace_after t (Send A (client 2) ∷ Send A (client 3) ∷ from_delivery)) first_sent
    ∙ ap (λ (t : Trace). trace_after t (Send A (client 3) ∷ from_delivery)) (second_sent _)
    ∙ ap (λ (t : Trace). trace_after t from_delivery) (third_sent _ _)
    ∙ ap (λ (t : Trace). trace_after t from_raising) heard_third_is
    ∙ ap (λ (t : Trace). trace_after t last_delivery) raised_is ∙ heard_first_is)

-- B's options are the initial ones at each moment
each_moment : (P : State → Type 0) → ((s : State) → s.options ≡ first_options xpn_b → P s) →
    AtEach (WhileLive P) (new_world xpn_a xpn_b) events
each_moment P so = each_append (WhileLive P) (new_world xpn_a xpn_b) ready.world commands exchange
    (tt, (tt, (tt, (tt, (tt, (tt, (λ live. so _ refl, tt)))))))
    (sym (world_of_trace (new_trace xpn_a xpn_b) commands) ∙ ap world_of is_ready)
    (live_next P ready one (Send A (client 1)) (Send A (client 2) ∷ Send A (client 3) ∷ from_delivery)
    (λ live. so _ refl) first_sent
    (live_next P one two (Send A (client 2)) (Send A (client 3) ∷ from_delivery) (λ live. so _ refl)
    (second_sent first_tag)
    (live_next P two three (Send A (client 3)) from_delivery (λ live. so _ refl) (third_sent first_tag second_tag)
    (live_next P three heard_third (Deliver B 2) from_raising (λ live. so _ refl) heard_third_is
    (live_next P heard_third raised raise last_delivery (λ live. so _ refl) raised_is
    (live_next P raised heard_first (Deliver B 0) [] (λ live. so _ refl) heard_first_is (λ live. so _ refl)))))))

while_there : (P : State → Type 0) → ((s : State) → s.options ≡ first_options xpn_b → P s) →
    WhileThere xpn_a xpn_b events B 0 P
while_there P so k within = at_moment (WhileLive P) (new_world xpn_a xpn_b) events (each_moment _ so) _ within

-- the third frame followed by the first is no subsequence
no_subsequence : (x y z : List ℕ) → y ≢ x → z ≢ x → IsSubsequence (z ∷ x ∷ []) (x ∷ y ∷ z ∷ []) → ⊥
no_subsequence x y z other other' (p ∷ zero ∷ places, rising, found) = let less : p < 0 = rising 0 (omega arith) in
    omega (arith, less)
no_subsequence x y z other other' (p ∷ suc zero ∷ places, rising, found) = let same : y ≡ x = cc in other same
no_subsequence x y z other other' (p ∷ suc (suc zero) ∷ places, rising, found) = let same : z ≡ x = cc in other' same
no_subsequence x y z other other' it = cc

differ : (n m : ℕ) → n ≢ m → client n ≢ client m
differ n m other same = other (ap (λ (frame : List ℕ). get_or frame 12 0) same)

-- the law of order, if keys need only agree on the suite
abbrev pub OrderForOtherSalts : EndConfig → EndConfig → List Event → Type 0
OrderForOtherSalts a b events = IsGenuine (new_trace a b) events → AgreeOnSuites (world_after (new_world a b) events) →
    (e : End) (i : ℕ) → WhileThere a b events e i IsStrict → WhileThere a b events e i HasStrictOrder →
    WasSentInOrder (world_after (new_world a b) events) e i

pub same_salt_needed_for_order : Fails OrderForOtherSalts xpn_a xpn_b events
same_salt_needed_for_order = (
  refl,
  λ law.
      let in_order : WasSentInOrder heard_first.world B 0 =
      rw last_world_is at (law is_genuine (rw last_world_is (of_two AgreeOnSuite _ _ (λ same. refl))) B 0
      (while_there IsStrict (λ s is. rw is)) (while_there HasStrictOrder
      (λ s is. record { replay = rw is; window = rw is }))) in
      no_subsequence (own 0) (own 1) (own 2) (differ 2 1 (λ same. omega (arith, same)))
      (differ 3 1 (λ same. omega (arith, same))) (in_order (key_row no_salt 1 (number 3)) (0, omega arith, refl) refl),
)
