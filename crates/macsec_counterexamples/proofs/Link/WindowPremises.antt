-- The law of windows needs the premise that the earlier frame was validated. In the mode Check a frame with packet
-- number 2 and a wrong ICV is delivered as Invalid, the packet numbers of the SA stay, and then the frame with packet
-- number 1 passes.
use Rattle.macsec_counterexamples.proofs.{
  Names.{[], ◌++◌, ◌+◌, ◌<◌, ◌∙◌, ◌∷◌, ◌≡◌, ◌⊎◌, A, AllPairs, ap, arith, at_row, B, Deliver, End, EndConfig, Event},
  Names.{false, Inject, Invalid, judgement_of, List, Mark, marks_of, new_trace, no_rx_counters, Passed, refl},
  Names.{replicate, RxCounters, Send, sending_of, Some, subst, Trace, trace_after, trace_of, trace_step, true, ℕ},
  Link.{
    Exchange.{Opens, aad, client, first_opens, first_tag, iv, link_frame_of, mark, trace_at, use_of},
    OriginPremises.{IsOther, commands_check, guessed, in_check, is_in_check, of_one, options_check},
    SealedFrames.{closes, sealed},
    TracedSteps.{after_both, deliver_step, send_step, sent_by},
    WorkedEnds.{Fails, bytes, gcm_a, gcm_b, rx_from, tx_from},
  },
}

-- a frame with packet number 2 and a guessed ICV, and then A's own with packet number 1
abbrev then_sent : List Event
then_sent = Send A (client 1) ∷ Deliver B 1 ∷ []

abbrev exchange : ℕ → List Event
exchange octet = Inject (guessed 2 octet) ∷ Deliver B 0 ∷ then_sent

abbrev pub events : ℕ → List Event
events octet = commands_check ++ exchange octet

abbrev invalid : Mark
invalid = record (mark 2) { validated = false }

abbrev one_invalid : RxCounters
one_invalid = record no_rx_counters { in_pkts_invalid = 1 }

abbrev on_link : ℕ → Trace
on_link octet = trace_at options_check 0 (rx_from 1) 0 no_rx_counters [] [] (guessed 2 octet ∷ []) [] []

abbrev unvalidated : ℕ → Trace
unvalidated octet = trace_at options_check 0 (rx_from 1) 2 one_invalid [] (client 2 ∷ []) (guessed 2 octet ∷ []) []
    (invalid ∷ [])

abbrev after_sending : ℕ → List ℕ → Trace
after_sending octet t = trace_at options_check 1 (rx_from 1) 2 one_invalid (client 1 ∷ []) (client 2 ∷ [])
    (guessed 2 octet ∷ link_frame_of 1 (client 1) t ∷ []) (use_of 1 (client 1) t ∷ []) (invalid ∷ [])

abbrev passed : ℕ → List ℕ → Trace
passed octet t =
    trace_at options_check 1 (rx_from 2) 4 (record one_invalid { in_pkts_ok = 1 }) (client 1 ∷ [])
    (client 2 ∷ client 1 ∷ [])
    (guessed 2 octet ∷ link_frame_of 1 (client 1) t ∷ []) (use_of 1 (client 1) t ∷ []) (invalid ∷ mark 1 ∷ [])

-- ---- the steps

is_on_link : (octet : ℕ) → trace_step in_check (Inject (guessed 2 octet)) ≡ on_link octet
is_on_link octet = refl

guess_judged : (octet : ℕ) → IsOther 2 octet → judgement_of in_check.world.b.state (guessed 2 octet) ≡ at_row
    (rx_from 1) 2 12 Invalid (Some (client 2))
guess_judged octet other = rw (closes _ _ _ _ _ other)

is_unvalidated : (octet : ℕ) → IsOther 2 octet → trace_step (on_link octet) (Deliver B 0) ≡ unvalidated octet
is_unvalidated octet other = deliver_step (on_link octet) 0 _ _ refl refl refl (guess_judged _ other)

sends : (octet : ℕ) → sending_of (unvalidated octet).world.a.state (client 1) ≡ sent_by (tx_from 1)
    (link_frame_of 1 (client 1) first_tag)
sends octet = rw (sealed _ _ _)

is_sent : (octet : ℕ) → trace_step (unvalidated octet) (Send A (client 1)) ≡ after_sending octet first_tag
is_sent octet = rw (
  send_step (unvalidated octet) (client 1) (tx_from 1) (link_frame_of 1 (client 1) first_tag) refl refl (sends octet),
  sealed bytes (iv 1) (aad 1 (client 1)),
)

sent_judged : (octet : ℕ) (t : List ℕ) → Opens 1 t →
    judgement_of (after_sending octet t).world.b.state (link_frame_of 1 (client 1) t) ≡ at_row (rx_from 1) 1 13 Passed
    (Some (client 1))
sent_judged octet t is = rw is

is_passed : (octet : ℕ) (t : List ℕ) → Opens 1 t → trace_step (after_sending octet t) (Deliver B 1) ≡ passed octet t
is_passed octet t is = deliver_step (after_sending octet t) 1 _ _ refl refl refl (sent_judged octet _ is)

trace_ends : (octet : ℕ) → IsOther 2 octet → trace_of gcm_a gcm_b (events octet) ≡ passed octet first_tag
trace_ends octet other = after_both (new_trace gcm_a gcm_b) _ commands_check (exchange octet) is_in_check
    ∙ ap (λ (t : Trace). trace_after t (Deliver B 0 ∷ then_sent)) (is_on_link _)
    ∙ ap (λ (t : Trace). trace_after t then_sent) (is_unvalidated _ other)
    ∙ ap (λ (t : Trace). trace_after t (Deliver B 1 ∷ [])) (is_sent _) ∙ is_passed _ _ first_opens

-- ---- the law

-- the window for two marks, without the premise that the earlier frame was validated
abbrev IsWithinAnyway : Mark → Mark → Type 0
IsWithinAnyway earlier later = later.replay ≡ true → earlier.number < later.number + later.window

abbrev pub WindowOfAll : EndConfig → EndConfig → List Event → Type 0
WindowOfAll a b events = (e : End) (i : ℕ) → AllPairs IsWithinAnyway (marks_of (trace_of a b events) e i)

fails : (octet : ℕ) → IsOther 2 octet → Fails WindowOfAll gcm_a gcm_b (events octet)
fails octet other = (
  refl,
  λ law.
      let pairs : AllPairs IsWithinAnyway (marks_of (passed octet first_tag) B 0) =
      subst (λ (t : Trace). AllPairs IsWithinAnyway (marks_of t B 0)) (trace_ends _ other) (law B 0) in
      let less : 2 < 1 + 0 = pairs 0 1 (mark 1) (omega arith) (omega arith) refl in
      omega (arith, less),
)

-- of the frames whose ICVs are 0 and 1 followed by zeros, at least one is delivered as Invalid
pub validation_needed_for_window : Fails WindowOfAll gcm_a gcm_b (events 0) ⊎ Fails WindowOfAll gcm_a gcm_b (events 1)
validation_needed_for_window = of_one 2 (λ octet. Fails WindowOfAll gcm_a gcm_b (events octet)) fails
