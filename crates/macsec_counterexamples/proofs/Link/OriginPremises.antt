-- The laws of origin and order need two premises. If a tag is forged, B delivers a frame that A never sent. In the mode
-- Check it does so without any forged tag, and the promise stays broken in the mode Strict: of two frames that differ
-- only in the ICV at most one opens, and the other one is delivered as Invalid.
use Rattle.macsec_commands.specs.declared.mode.Mode.TheVariants.{Strict}
use Rattle.macsec_link.specs.Origin.{WasSentByOther}
use Rattle.macsec_counterexamples.proofs.{
  Names.{[], ◌++◌, ◌==◌, ◌∙◌, ◌∷◌, ◌≡◌, ◌≤◌, ◌⊎◌, AgreeOnKey, AgreeOnKeys, ap, arith, at_row, B, Check, Command},
  Names.{Contains, Deliver, End, end_of, EndConfig, Event, false, first_options, HasStrictOrder, Inject, inl, inr},
  Names.{InstalledKey, Invalid, IsGenuine, IsGenuineAt, IsStrict, IsSubsequence, judgement_of, length, List, ne_eqb},
  Names.{new_trace, new_world, no_rx_counters, Options, Passed, refl, replicate, sent_under, Some, State, subst, suc},
  Names.{sym, take_all, Trace, trace_after, trace_step, Validate, WasSentInOrder, WhileThere, world_after, world_at},
  Names.{world_of_trace, WorldState, zero, ℕ},
  Link.{
    Exchange.{Opens, aad, at_numbers, client, commands, first_judged, first_opens, first_tag, is_ready, iv, key_row},
    Exchange.{link_frame_of, link_frame_with, mark, ready, trace_at},
    SealedFrames.{closes, first, tag_of},
    TracedSteps.{AtEach, WhileLive, world_of, after_both, at_moment, deliver_step, each_append, genuine_append},
    TracedSteps.{genuine_at, genuine_next, live_next},
    WorkedEnds.{Fails, bytes, gcm_a, gcm_b, of_two, only, rx_from},
  },
}

sent_none : (y : InstalledKey) → Contains (key_row 1 1 ∷ []) y → Contains (sent_under [] y.number) (client 1) → ⊥
sent_none y there sent =
    let none : Contains [] (client 1) = subst (λ (k : InstalledKey). Contains (sent_under [] k.number) (client 1))
    (sym (only _ _ there)) sent in
    omega (arith, none.1)

no_subsequence_of_none : (x : List ℕ) → IsSubsequence (x ∷ []) [] → ⊥
no_subsequence_of_none x ([], rising, found) = cc
no_subsequence_of_none x (place ∷ places, rising, found) = cc

-- ---- an injected frame that is valid under B's key

abbrev forging : List ℕ → List Event
forging t = Inject (link_frame_of 1 (client 1) t) ∷ Deliver B 0 ∷ []

abbrev forged : List Event
forged = commands ++ forging first_tag

abbrev injected : List ℕ → Trace
injected t = at_numbers 0 0 [] [] (link_frame_of 1 (client 1) t ∷ []) [] []

abbrev deceived : List ℕ → Trace
deceived t = at_numbers 0 1 [] (client 1 ∷ []) (link_frame_of 1 (client 1) t ∷ []) [] (mark 1 ∷ [])

is_injected : (t : List ℕ) → trace_step ready (Inject (link_frame_of 1 (client 1) t)) ≡ injected t
is_injected t = refl

is_deceived : (t : List ℕ) → Opens 1 t → trace_step (injected t) (Deliver B 0) ≡ deceived t
is_deceived t is = deliver_step (injected t) 0 _ _ refl refl refl (first_judged t is)

trace_ends : trace_after (new_trace gcm_a gcm_b) forged ≡ deceived first_tag
trace_ends = after_both (new_trace gcm_a gcm_b) _ commands (forging first_tag) is_ready
    ∙ ap (λ (t : Trace). trace_after t (Deliver B 0 ∷ [])) (is_injected _) ∙ is_deceived _ first_opens

last_world_is : world_after (new_world gcm_a gcm_b) forged ≡ (deceived first_tag).world
last_world_is = sym (world_of_trace (new_trace gcm_a gcm_b) forged) ∙ ap world_of trace_ends

each_moment : (P : State → Type 0) → ((s : State) → s.options ≡ first_options gcm_b → P s) → AtEach (WhileLive P)
    (new_world gcm_a gcm_b) forged
each_moment P so = each_append (WhileLive P) (new_world gcm_a gcm_b) ready.world commands (forging first_tag)
    (tt, (tt, (tt, (tt, (tt, (tt, (λ live. so _ refl, tt)))))))
    (sym (world_of_trace (new_trace gcm_a gcm_b) commands) ∙ ap world_of is_ready)
    (live_next P ready (injected first_tag) (Inject (link_frame_of 1 (client 1) first_tag)) (Deliver B 0 ∷ [])
    (λ live. so _ refl) (is_injected first_tag)
    (live_next P (injected first_tag) (deceived first_tag) (Deliver B 0) [] (λ live. so _ refl)
    (is_deceived first_tag first_opens) (λ live. so _ refl)))

while_there : (P : State → Type 0) → ((s : State) → s.options ≡ first_options gcm_b → P s) → WhileThere gcm_a gcm_b
    forged B 0 P
while_there P so k within = at_moment (WhileLive P) (new_world gcm_a gcm_b) forged (each_moment _ so) _ within

-- the law of origin without the premise that no tag is forged
abbrev pub OriginWhereForged : EndConfig → EndConfig → List Event → Type 0
OriginWhereForged a b events = (e : End) (i k : ℕ) → WhileThere a b events e i IsStrict → k ≤ length events →
    WasSentByOther (world_at a b events k) e i

pub genuineness_needed : Fails OriginWhereForged gcm_a gcm_b forged
genuineness_needed = (
  refl,
  λ law.
      let sent : WasSentByOther (deceived first_tag).world B 0 =
      subst (λ (w : WorldState). WasSentByOther w B 0) (ap (world_after (new_world gcm_a gcm_b))
      (take_all (length forged) forged (omega arith)) ∙ last_world_is)
      (law B 0 (length forged) (while_there _ (λ s is. ap (λ (o : Options). o.mode) is)) (omega arith)) in
      let it = sent 0 [] (omega arith) in
      sent_none _ it.1 it.3,
)

-- the law of order without it
abbrev pub OrderWhereForged : EndConfig → EndConfig → List Event → Type 0
OrderWhereForged a b events = AgreeOnKeys (world_after (new_world a b) events) →
    (e : End) (i : ℕ) → WhileThere a b events e i IsStrict → WhileThere a b events e i HasStrictOrder →
    WasSentInOrder (world_after (new_world a b) events) e i

pub genuineness_needed_for_order : Fails OrderWhereForged gcm_a gcm_b forged
genuineness_needed_for_order = (
  refl,
  λ law.
      let in_order : WasSentInOrder (deceived first_tag).world B 0 =
      subst (λ (w : WorldState). WasSentInOrder w B 0) last_world_is
      (law (subst AgreeOnKeys (sym last_world_is) (of_two (λ x y. x.bytes ≡ y.bytes → AgreeOnKey x y) _ _
      (λ same. record { suite = refl; salt = λ xpn. refl }))) B 0
      (while_there _ (λ s is. ap (λ (o : Options). o.mode) is)) (while_there HasStrictOrder (λ s is. record {
        replay = ap (λ (o : Options). o.replay) is;
        window = ap (λ (o : Options). o.window) is;
      }))) in
      no_subsequence_of_none _ (in_order (key_row 1 1) (0, omega arith, refl) refl),
)

-- ---- the mode Check

abbrev pub options_check : Options
options_check = record (first_options gcm_b) { mode = Check }

abbrev pub commands_check : List Event
commands_check = commands ++ Command B (Validate Check) ∷ []

abbrev pub in_check : Trace
in_check = trace_at options_check 0 (rx_from 1) 0 no_rx_counters [] [] [] [] []

pub is_in_check : trace_after (new_trace gcm_a gcm_b) commands_check ≡ in_check
is_in_check = refl

-- an ICV that is this octet and fifteen zeros
abbrev pub icv_of : ℕ → List ℕ
icv_of octet = octet ∷ replicate 15 0

-- A's frame with this packet number and such an ICV
abbrev pub guessed : ℕ → ℕ → List ℕ
guessed number octet = link_frame_with number (client number) ([], icv_of octet)

-- its own ICV begins with another octet
abbrev pub IsOther : ℕ → ℕ → Type 0
IsOther number octet = (first (tag_of bytes (iv number) (aad number (client number))) == octet) ≡ false

-- then B is strict again
abbrev back : List Event
back = Command B (Validate Strict) ∷ []

abbrev guessing : ℕ → List Event
guessing octet = Inject (guessed 1 octet) ∷ Deliver B 0 ∷ back

abbrev guess : ℕ → List Event
guess octet = commands_check ++ guessing octet

abbrev on_link : ℕ → Trace
on_link octet = trace_at options_check 0 (rx_from 1) 0 no_rx_counters [] [] (guessed 1 octet ∷ []) [] []

abbrev unvalidated : ℕ → Trace
unvalidated octet =
    trace_at options_check 0 (rx_from 1) 2 (record no_rx_counters { in_pkts_invalid = 1 }) [] (client 1 ∷ [])
    (guessed 1 octet ∷ []) [] (record (mark 1) { validated = false } ∷ [])

abbrev strict_again : ℕ → Trace
strict_again octet =
    let w = (unvalidated octet).world in
    record (unvalidated octet) {
      world = record w {
        b = record w.b {
          state = record w.b.state { options = first_options gcm_b };
        };
      };
    }

guess_judged : (octet : ℕ) → IsOther 1 octet → judgement_of in_check.world.b.state (guessed 1 octet) ≡ at_row
    (rx_from 1) 1 12 Invalid (Some (client 1))
guess_judged octet other = rw (closes _ _ _ _ _ other)

is_on_link : (octet : ℕ) → trace_step in_check (Inject (guessed 1 octet)) ≡ on_link octet
is_on_link octet = refl

is_unvalidated : (octet : ℕ) → IsOther 1 octet → trace_step (on_link octet) (Deliver B 0) ≡ unvalidated octet
is_unvalidated octet other = deliver_step (on_link octet) 0 _ _ refl refl refl (guess_judged _ other)

is_strict_again : (octet : ℕ) → trace_step (unvalidated octet) (Command B (Validate Strict)) ≡ strict_again octet
is_strict_again octet = refl

nothing_opens : (octet : ℕ) → IsOther 1 octet → IsGenuineAt (on_link octet) (Deliver B 0)
nothing_opens octet other = genuine_at in_check.world.b.state (guessed 1 octet)
    (at_row (rx_from 1) 1 12 Invalid (Some (client 1))) [] (guess_judged octet other) tt

guess_genuine : (octet : ℕ) → IsOther 1 octet → IsGenuine (new_trace gcm_a gcm_b) (guess octet)
guess_genuine octet other = genuine_append (new_trace gcm_a gcm_b) in_check commands_check (guessing octet)
    (tt, (tt, (tt, (tt, (tt, (tt, (tt, (tt, tt)))))))) is_in_check
    (genuine_next in_check _ (Inject (guessed 1 octet)) (Deliver B 0 ∷ back) (tt {0}) (is_on_link octet)
    (genuine_next (on_link octet) _ (Deliver B 0) back (nothing_opens _ other) (is_unvalidated _ other)
    (genuine_next (unvalidated octet) _ (Command B (Validate Strict)) [] (tt {0}) (is_strict_again octet) (tt {0}))))

guess_ends : (octet : ℕ) → IsOther 1 octet → world_after (new_world gcm_a gcm_b) (guess octet) ≡
    (strict_again octet).world
guess_ends octet other = sym (world_of_trace (new_trace gcm_a gcm_b) (guess octet)) ∙ ap world_of
    (after_both (new_trace gcm_a gcm_b) _ commands_check (guessing octet) is_in_check
    ∙ ap (λ (t : Trace). trace_after t (Deliver B 0 ∷ back)) (is_on_link _)
    ∙ ap (λ (t : Trace). trace_after t back) (is_unvalidated _ other) ∙ is_strict_again _)

each_in_check : (octet : ℕ) → IsOther 1 octet → AtEach (WhileLive HasStrictOrder) (new_world gcm_a gcm_b) (guess octet)
each_in_check octet other =
    each_append (WhileLive HasStrictOrder) (new_world gcm_a gcm_b) in_check.world commands_check (guessing octet) (
      tt,
      (
        tt,
        (
          tt,
          (
            tt,
            (
              tt,
              (
                tt,
                (
                  λ live. record { replay = refl; window = refl },
                  (λ live. record { replay = refl; window = refl }, tt),
                ),
              ),
            ),
          ),
        ),
      ),
    ) (sym (world_of_trace (new_trace gcm_a gcm_b) commands_check) ∙ ap world_of is_in_check)
    (live_next HasStrictOrder in_check (on_link octet) (Inject (guessed 1 octet)) (Deliver B 0 ∷ back)
    (λ live. record { replay = refl; window = refl }) (is_on_link octet)
    (live_next HasStrictOrder (on_link octet) (unvalidated octet) (Deliver B 0) back
    (λ live. record { replay = refl; window = refl }) (is_unvalidated octet other)
    (live_next HasStrictOrder (unvalidated octet) (strict_again octet) (Command B (Validate Strict)) []
    (λ live. record { replay = refl; window = refl }) (is_strict_again octet)
    (λ live. record { replay = refl; window = refl }))))

-- the law of origin if the end is strict after the last event, whatever it was before
abbrev pub OriginWhereStrictAtEnd : EndConfig → EndConfig → List Event → Type 0
OriginWhereStrictAtEnd a b events =
    IsGenuine (new_trace a b) events → (e : End) (i : ℕ) → IsStrict (end_of (world_after (new_world a b) events)
    e).state → WasSentByOther (world_after (new_world a b) events) e i

origin_fails : (octet : ℕ) → IsOther 1 octet → Fails OriginWhereStrictAtEnd gcm_a gcm_b (guess octet)
origin_fails octet other = (
  refl,
  λ law.
      let sent : WasSentByOther (strict_again octet).world B 0 =
      subst (λ (w : WorldState). WasSentByOther w B 0) (guess_ends _ other)
      (law (guess_genuine _ other) B 0 (subst (λ (w : WorldState). IsStrict w.b.state) (sym (guess_ends _ other)) refl))
      in
      let it = sent 0 [] (omega arith) in
      sent_none _ it.1 it.3,
)

-- the law of order with the premise weakened in the same way, and the other premises at each moment
abbrev pub OrderWhereStrictAtEnd : EndConfig → EndConfig → List Event → Type 0
OrderWhereStrictAtEnd a b events = IsGenuine (new_trace a b) events → AgreeOnKeys (world_after (new_world a b) events) →
    (e : End) (i : ℕ) → IsStrict (end_of (world_after (new_world a b) events) e).state → WhileThere a b events e i
    HasStrictOrder → WasSentInOrder (world_after (new_world a b) events) e i

order_fails : (octet : ℕ) → IsOther 1 octet → Fails OrderWhereStrictAtEnd gcm_a gcm_b (guess octet)
order_fails octet other = (
  refl,
  λ law.
      let ends = guess_ends _ other in
      let in_order : WasSentInOrder (strict_again octet).world B 0 =
      subst (λ (w : WorldState). WasSentInOrder w B 0) ends (law (guess_genuine _ other)
      (subst AgreeOnKeys (sym ends) (of_two (λ x y. x.bytes ≡ y.bytes → AgreeOnKey x y) _ _
      (λ same. record { suite = refl; salt = λ xpn. refl }))) B 0
      (subst (λ (w : WorldState). IsStrict w.b.state) (sym ends) refl)
      (λ k within. at_moment (WhileLive HasStrictOrder) (new_world gcm_a gcm_b) (guess octet) (each_in_check _ other) _
      within)) in
      no_subsequence_of_none _ (in_order (key_row 1 1) (0, omega arith, refl) refl),
)

zero_or_one : (n : ℕ) → ((n == 0) ≡ false) ⊎ ((n == 1) ≡ false)
zero_or_one zero = inr refl
zero_or_one (suc n) = inl (ne_eqb _ _ (λ same. omega (arith, same)))

-- of the frames with this packet number whose ICVs are 0 and 1 followed by zeros, at least one is not A's own
pub of_one : (number : ℕ) (P : ℕ → Type 0) → ((octet : ℕ) → IsOther number octet → P octet) → P 0 ⊎ P 1
of_one number P goes = by_octet (zero_or_one _)
  where
    by_octet : IsOther number 0 ⊎ IsOther number 1 → P 0 ⊎ P 1
    by_octet (inl other) = inl (goes 0 other)
    by_octet (inr other) = inr (goes 1 other)

-- that frame is delivered as Invalid
pub strictness_needed : Fails OriginWhereStrictAtEnd gcm_a gcm_b (guess 0) ⊎ Fails OriginWhereStrictAtEnd gcm_a gcm_b
    (guess 1)
strictness_needed = of_one 1 (λ octet. Fails OriginWhereStrictAtEnd gcm_a gcm_b (guess octet)) origin_fails

pub strictness_needed_for_order : Fails OrderWhereStrictAtEnd gcm_a gcm_b (guess 0) ⊎ Fails OrderWhereStrictAtEnd gcm_a
    gcm_b (guess 1)
strictness_needed_for_order = of_one 1 (λ octet. Fails OrderWhereStrictAtEnd gcm_a gcm_b (guess octet)) order_fails
