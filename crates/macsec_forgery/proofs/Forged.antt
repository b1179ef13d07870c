-- A run in which a tag is forged: somebody else who has the key seals a frame, and B opens it. So the laws of runs have
-- something to count.
use Rattle.{
  std.proofs.Common.{◌≡◌, ℕ, List, [], ◌∷◌, ◌++◌, Some, Contains, refl, sym, ap, subst, arith},
  macsec_gcm.specs.Gcm.hash_subkey,
  macsec_tag.specs.Table.reading,
  macsec_commands.specs.declared.event.{End.TheVariants.B, Event.{Event, TheVariants.{Deliver, Inject}}},
  macsec_link.proofs.Forged.own_key,
  macsec_link.specs.{
    Forgery.{HasThisForgery, IsForgedAt, trace_before},
    Genuine.{use_opened, use_opened_in},
    Trace.{Trace, new_trace},
    World.{end_of, frame_at},
  },
  macsec_counterexamples.proofs.Link.{
    Exchange.{Opens, at_numbers, client, commands, first_judged, first_opens, first_tag, is_ready, link_frame_of},
    Exchange.ready,
    Exchange.use_of,
    TracedSteps.after_both,
    WorkedEnds.{bytes, gcm_a, gcm_b},
  },
}

abbrev frame_with : List ℕ → List ℕ
frame_with tag = link_frame_of 1 (client 1) tag

-- A sends nothing
abbrev pub events_with : List ℕ → List Event
events_with tag = commands ++ Inject (frame_with tag) ∷ Deliver B 0 ∷ []

on_link : List ℕ → Trace
on_link tag = at_numbers 0 0 [] [] (frame_with tag ∷ []) [] []

before_is : (tag : List ℕ) → trace_before gcm_a gcm_b (events_with tag) 8 ≡ on_link tag
unfolding on_link
before_is tag = after_both (new_trace gcm_a gcm_b) ready commands (Inject (frame_with tag) ∷ []) is_ready

is_opened : (tag : List ℕ) → Opens 1 tag
    → use_opened ready.world.b.state (frame_with tag) ≡ Some (use_of 1 (client 1) tag)
is_opened tag opens =
    let s = ready.world.b.state in
    ap (λ j. use_opened_in s j j.row (reading (frame_with tag))) (first_judged tag opens)

nothing_sealed : (tag : List ℕ) → Contains (on_link tag).seals (use_of 1 (client 1) tag) → ⊥
unfolding on_link
nothing_sealed tag there = absurd (let lt = there.1 in omega arith)

forged_with : (tag : List ℕ) → Opens 1 tag → IsForgedAt gcm_a gcm_b (events_with tag) 8
unfolding on_link
forged_with tag opens =
    let is = sym (before_is tag) in
    record {
      end = B;
      frame = 0;
      event = refl;
      genuine_before = (tt, (tt, (tt, (tt, (tt, (tt, (tt, (tt, tt))))))));
      forged = use_of 1 (client 1) tag;
      opened =
          subst (λ t. use_opened (end_of t.world B).state (frame_at t.world 0) ≡ Some (use_of 1 (client 1) tag)) is
          (is_opened tag opens);
      not_sealed = subst (λ t. Contains t.seals (use_of 1 (client 1) tag) → ⊥) is (nothing_sealed tag);
    }

pub forged : IsForgedAt gcm_a gcm_b (events_with first_tag) 8
forged = forged_with first_tag first_opens

-- the hash key of their key is one of those that this frame needs
pub own_key_is_counted : HasThisForgery gcm_a gcm_b (events_with first_tag) 8 forged (hash_subkey bytes)
unfolding forged forged_with
own_key_is_counted = own_key gcm_a gcm_b (events_with first_tag) 8 forged
