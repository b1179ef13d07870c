-- A run that meets all premises of the laws of origin and order, and delivers: A's client sends two frames, each link
-- frame is delivered to B at once, and B delivers both client frames in order. The cipher is not computed: all that is
-- known of a tag is that it has 16 octets and opens.
use Rattle.macsec_counterexamples.proofs.{
  Names.{[], ◌*◌, ◌++◌, ◌+◌, ◌∙◌, ◌∷◌, ◌≡◌, A, AgreeOnKey, AgreeOnKeys, ap, arith, at_row, B, cipher_use, CipherUse},
  Names.{Deliver, Event, false, first_options, Gcm128, HasStrictOrder, InstalledKey, IsGenuine, IsGenuineAt, IsStrict},
  Names.{iv_of, judgement_of, List, make_fault, Mark, new_trace, new_world, no_counters, no_rx_counters},
  Names.{no_tx_counters, None, open_of, Options, Passed, refl, replicate, RxCounters, RxRow, Send, sending_of},
  Names.{sent_under, slice_get, Some, start, State, sym, tag_sent, Trace, trace_after, trace_step, true, tx_options},
  Names.{TxOptions, WhileThere, world_after, world_of_trace, WorldState, ℕ},
  Link.{
    SealedFrames.{Sealed, aad_sent, frame_with, items, opens, parts_with, sealed, tag_of, with_tag},
    TracedSteps.{AtEach, WhileLive, after_both, at_moment, deliver_step, each_append, genuine_append, genuine_at},
    TracedSteps.{genuine_next, live_next, send_step, sent_by},
    WorkedEnds.{bytes, counts, gcm_a, gcm_b, installed_key, log, logs_sent, new_key, no_salt, of_two, receives_from},
    WorkedEnds.{rx_from, sci_a, sends_from, tx_from},
  },
}

-- a client frame with two octets of data
abbrev pub client : ℕ → List ℕ
client octet = replicate 12 3 ++ octet ∷ octet ∷ []

abbrev pub commands : List Event
commands = sends_from A (new_key no_salt 1) 1 false ++ receives_from B (new_key no_salt 2) sci_a 1 1

abbrev second_exchange : List Event
second_exchange = Send A (client 2) ∷ Deliver B 1 ∷ []

abbrev pub exchange : List Event
exchange = Send A (client 1) ∷ Deliver B 0 ∷ second_exchange

-- ---- the ends, by their next packet numbers

abbrev pub key_row : ℕ → ℕ → InstalledKey
key_row ssci first_unused = installed_key Gcm128 no_salt ssci first_unused

-- B has these options, and A has sent up to n; then B's SA, the octets that B validated, and the counters of the SA and
-- its SC; what A's client sent, what B delivered, and the link's frames
abbrev pub trace_at : Options → ℕ → RxRow → ℕ → RxCounters → List (List ℕ) → List (List ℕ) → List (List ℕ) → List
    CipherUse → List Mark → Trace
trace_at options n row m counted sent delivered frames seals marks = record {
  world = record {
    a = record {
      state = record (start gcm_a) {
        keys = key_row 1 (n + 1) ∷ [];
        tx = tx_from (n + 1) ∷ [];
        tx_counters = record no_tx_counters { out_pkts_protected = n; out_octets_protected = 2 * n };
      };
      sent = logs_sent sent;
      delivered = [];
    };
    b = record {
      state = record (start gcm_b) {
        options = options;
        keys = key_row 2 1 ∷ [];
        rx = record { scis = sci_a ∷ []; rows = row ∷ [] };
        counters = record no_counters { in_octets_validated = m };
        rx_counters = counts counted ∷ [];
      };
      sent = [];
      delivered = log delivered ∷ [];
    };
    frames = frames;
  };
  seals = seals;
  marks = marks;
}

-- A has sent up to n, and B has accepted up to m
abbrev pub at_numbers : ℕ → ℕ → List (List ℕ) → List (List ℕ) → List (List ℕ) → List CipherUse → List Mark → Trace
at_numbers n m sent delivered frames seals marks =
    trace_at (first_options gcm_b) n (rx_from (m + 1)) (2 * m) (record no_rx_counters { in_pkts_ok = m }) sent delivered
    frames seals marks

abbrev pub ready : Trace
ready = at_numbers 0 0 [] [] [] [] []

pub is_ready : trace_after (new_trace gcm_a gcm_b) commands ≡ ready
is_ready = refl

-- ---- what A seals

abbrev pub options : TxOptions
options = tx_options (start gcm_a)

abbrev pub iv : ℕ → List ℕ
iv number = iv_of Gcm128 sci_a 1 no_salt number

abbrev pub aad : ℕ → List ℕ → List ℕ
aad number frame = aad_sent options (key_row 1 number) (tx_from number) frame

-- the link frame and the use of the cipher, from the result of sealing
abbrev pub link_frame_with : ℕ → List ℕ → Sealed → List ℕ
link_frame_with number frame it = frame_with (tag_sent options (tx_from number) frame) frame it

abbrev pub use_with : ℕ → List ℕ → Sealed → CipherUse
use_with number frame it =
    cipher_use (key_row 1 number) (iv number) (parts_with (tag_sent options (tx_from number) frame) frame it)

abbrev pub tag : ℕ → List ℕ → List ℕ
tag number frame = tag_of bytes (iv number) (aad number frame)

-- this tag opens A's frame with this packet number
abbrev pub Opens : ℕ → List ℕ → Type 0
Opens number t = open_of bytes (iv number) (aad number (client number)) [] (items 16 t) ≡ Some []

abbrev pub first_tag : List ℕ
first_tag = tag 1 (client 1)

pub first_opens : Opens 1 first_tag
first_opens = opens _ _ _

abbrev pub link_frame_of : ℕ → List ℕ → List ℕ → List ℕ
link_frame_of number frame tag = link_frame_with number frame (with_tag tag)

abbrev pub use_of : ℕ → List ℕ → List ℕ → CipherUse
use_of number frame tag = use_with number frame (with_tag tag)

abbrev pub mark : ℕ → Mark
mark number = record { at = B; log = 0; number = number; replay = true; window = 0; validated = true }

-- ---- the first frame

first_sends : sending_of ready.world.a.state (client 1) ≡ sent_by (tx_from 1)
    (link_frame_of 1 (client 1) (tag 1 (client 1)))
first_sends = rw (sealed _ _ _)

first_sent : trace_step ready (Send A (client 1)) ≡
    at_numbers 1 0 (client 1 ∷ []) [] (link_frame_of 1 (client 1) (tag 1 (client 1)) ∷ [])
    (use_of 1 (client 1) (tag 1 (client 1)) ∷ []) []
first_sent = rw (
  send_step ready (client 1) (tx_from 1) (link_frame_of 1 (client 1) (tag 1 (client 1))) refl refl first_sends,
  sealed _ _ _,
)

pub first_judged : (t : List ℕ) → Opens 1 t →
    judgement_of ready.world.b.state (link_frame_of 1 (client 1) t) ≡ at_row (rx_from 1) 1 13 Passed (Some (client 1))
first_judged t is = rw is

abbrev after_first : List ℕ → Trace
after_first t = at_numbers 1 0 (client 1 ∷ []) [] (link_frame_of 1 (client 1) t ∷ []) (use_of 1 (client 1) t ∷ []) []

abbrev heard_first : List ℕ → Trace
heard_first t = at_numbers 1 1 (client 1 ∷ []) (client 1 ∷ []) (link_frame_of 1 (client 1) t ∷ [])
    (use_of 1 (client 1) t ∷ []) (mark 1 ∷ [])

first_heard : (t : List ℕ) → Opens 1 t → trace_step (after_first t) (Deliver B 0) ≡ heard_first t
first_heard t is = deliver_step (after_first t) 0 _ _ refl refl refl (first_judged _ is)

first_genuine : (t : List ℕ) → Opens 1 t → IsGenuineAt (after_first t) (Deliver B 0)
first_genuine t is =
    genuine_at ready.world.b.state (link_frame_of 1 (client 1) t) (at_row (rx_from 1) 1 13 Passed (Some (client 1)))
    (after_first t).seals (first_judged t is) (0, omega arith, refl)

-- ---- the second frame

second_sends : (t : List ℕ) → sending_of (heard_first t).world.a.state (client 2) ≡ sent_by (tx_from 2)
    (link_frame_of 2 (client 2) (tag 2 (client 2)))
second_sends t = rw (sealed _ _ _)

abbrev both : List (List ℕ)
both = client 1 ∷ client 2 ∷ []

abbrev both_with : List ℕ → List ℕ → ℕ → List (List ℕ) → List Mark → Trace
both_with t u m delivered marks =
    at_numbers 2 m both delivered (link_frame_of 1 (client 1) t ∷ link_frame_of 2 (client 2) u ∷ [])
    (use_of 1 (client 1) t ∷ use_of 2 (client 2) u ∷ []) marks

abbrev after_second : List ℕ → List ℕ → Trace
after_second t u = both_with t u 1 (client 1 ∷ []) (mark 1 ∷ [])

abbrev heard_second : List ℕ → List ℕ → Trace
heard_second t u = both_with t u 2 both (mark 1 ∷ mark 2 ∷ [])

second_sent : (t : List ℕ) → trace_step (heard_first t) (Send A (client 2)) ≡ after_second t (tag 2 (client 2))
second_sent t = rw (
  send_step (heard_first t) (client 2) (tx_from 2) (link_frame_of 2 (client 2) (tag 2 (client 2))) refl refl
      (second_sends t),
  sealed bytes (iv 2) (aad 2 (client 2)),
)

second_judged : (t u : List ℕ) → Opens 2 u →
    judgement_of (after_second t u).world.b.state (link_frame_of 2 (client 2) u) ≡ at_row (rx_from 2) 2 13 Passed
    (Some (client 2))
second_judged t u is = rw is

second_heard : (t u : List ℕ) → Opens 2 u → trace_step (after_second t u) (Deliver B 1) ≡ heard_second t u
second_heard t u is = deliver_step (after_second t u) 1 _ _ refl refl refl (second_judged t _ is)

second_genuine : (t u : List ℕ) → Opens 2 u → IsGenuineAt (after_second t u) (Deliver B 1)
second_genuine t u is = genuine_at (after_second t u).world.b.state (link_frame_of 2 (client 2) u)
    (at_row (rx_from 2) 2 13 Passed (Some (client 2))) (after_second t u).seals (second_judged t u is)
    (1, omega arith, refl)

-- ---- the run

abbrev pub events : List Event
events = commands ++ exchange

abbrev pub last_world : WorldState
last_world = world_after (new_world gcm_a gcm_b) events

-- the premises of the laws of origin and order for B's SA, and what it delivers: so the laws are not vacuous
pub record MeetsPremises : Type 0 where
  pub made : make_fault gcm_a gcm_b ≡ None
  pub genuine : IsGenuine (new_trace gcm_a gcm_b) events
  pub agree : AgreeOnKeys last_world
  pub strict : WhileThere gcm_a gcm_b events B 0 IsStrict
  pub in_order : WhileThere gcm_a gcm_b events B 0 HasStrictOrder
  pub sent : sent_under last_world.a.sent 0 ≡ client 1 ∷ client 2 ∷ []
  pub delivered : slice_get last_world.b.delivered 0 ≡ Some (log (client 1 ∷ client 2 ∷ []))

abbrev second_tag : List ℕ
second_tag = tag 2 (client 2)

second_opens : Opens 2 second_tag
second_opens = opens _ _ _

second_heard_is : trace_step (after_second first_tag second_tag) (Deliver B 1) ≡ heard_second first_tag second_tag
second_heard_is = second_heard _ _ second_opens

is_genuine : IsGenuine (new_trace gcm_a gcm_b) events
is_genuine =
    genuine_append (new_trace gcm_a gcm_b) ready commands exchange (tt, (tt, (tt, (tt, (tt, (tt, (tt, tt))))))) is_ready
    (genuine_next ready _ (Send A (client 1)) (Deliver B 0 ∷ second_exchange) (tt {0}) first_sent
    (genuine_next (after_first first_tag) _ (Deliver B 0) second_exchange (first_genuine _ first_opens)
    (first_heard _ first_opens)
    (genuine_next (heard_first first_tag) _ (Send A (client 2)) (Deliver B 1 ∷ []) (tt {0}) (second_sent first_tag)
    (genuine_next (after_second first_tag second_tag) _ (Deliver B 1) []
    (second_genuine first_tag _ second_opens) second_heard_is (tt {0})))))

trace_ends : trace_after (new_trace gcm_a gcm_b) events ≡ heard_second first_tag second_tag
trace_ends = after_both (new_trace gcm_a gcm_b) _ commands exchange is_ready
    ∙ ap (λ (t : Trace). trace_after t (Deliver B 0 ∷ second_exchange)) first_sent
    ∙ ap (λ (t : Trace). trace_after t second_exchange) (first_heard _ first_opens)
    ∙ ap (λ (t : Trace). trace_after t (Deliver B 1 ∷ [])) (second_sent _) ∙ second_heard_is

last_world_is : last_world ≡ (heard_second first_tag second_tag).world
last_world_is = sym (world_of_trace (new_trace gcm_a gcm_b) events) ∙ ap (λ (t : Trace). t.world) trace_ends

-- B's options are the initial ones at each moment
each_moment : (P : State → Type 0) → ((s : State) → s.options ≡ first_options gcm_b → P s) → AtEach (WhileLive P)
    (new_world gcm_a gcm_b) events
each_moment P so = each_append (WhileLive P) (new_world gcm_a gcm_b) ready.world commands exchange
    (tt, (tt, (tt, (tt, (tt, (tt, (λ live. so _ refl, tt))))))) (sym (world_of_trace (new_trace gcm_a gcm_b) commands) ∙
    ap (λ (t : Trace). t.world) is_ready)
    (live_next P ready (after_first first_tag) (Send A (client 1)) (Deliver B 0 ∷ second_exchange) (λ live. so _ refl)
    first_sent
    (live_next P (after_first first_tag) (heard_first first_tag) (Deliver B 0) second_exchange (λ live. so _ refl)
    (first_heard first_tag first_opens)
    (live_next P (heard_first first_tag) (after_second first_tag second_tag) (Send A (client 2)) (Deliver B 1 ∷ [])
    (λ live. so _ refl) (second_sent first_tag)
    (live_next P (after_second first_tag second_tag) (heard_second first_tag second_tag) (Deliver B 1) []
    (λ live. so _ refl) second_heard_is (λ live. so _ refl)))))

while_there : (P : State → Type 0) → ((s : State) → s.options ≡ first_options gcm_b → P s) → WhileThere gcm_a gcm_b
    events B 0 P
while_there P so k within = at_moment (WhileLive P) (new_world gcm_a gcm_b) events (each_moment _ so) _ within

pub meets_premises : MeetsPremises
meets_premises = record {
  made = refl;
  genuine = is_genuine;
  agree = rw last_world_is (of_two (λ x y. x.bytes ≡ y.bytes → AgreeOnKey x y) _ _
      (λ same. record { suite = refl; salt = λ xpn. refl }));
  strict = while_there IsStrict (λ s is. rw is);
  in_order = while_there HasStrictOrder (λ s is. record { replay = rw is; window = rw is });
  sent = rw last_world_is;
  delivered = rw last_world_is;
}
