-- Premises that the law of acceptance needs: for each of these there is a run in which the others hold and the frame
-- does not pass.
use Rattle.macsec_commands.specs.declared.{command.Command.TheVariants.RxOff, mode.Mode.TheVariants.Disabled}
use Rattle.macsec_rx.specs.{Judge.{in_use, sci_of}, declared.Verdict.TheVariants.{BadTag, Late, NoSaError, Unchecked}}
use Rattle.macsec_link.specs.Acceptance.{IsDeliveredAs}
use Rattle.macsec_counterexamples.proofs.{
  Names.{[], ◌++◌, ◌+◌, ◌-◌, ◌<◌, ◌^◌, ◌∙◌, ◌∷◌, ◌≡◌, ◌≢◌, ◌≤◌, A, ap, arith, B, CanAccept, Command, Deliver, End},
  Names.{end_of, EndConfig, Event, false, fault_of, first_options, frame_fault, Heard, in_a_row, inl, InstalledKey},
  Names.{is_xpn, IsOnLink, iv_sent, length, List, MpduParts, new_channel_counters, new_world, no_rx_counters, None, Ok},
  Names.{Option, other_end, Outcome, parts_sent, Passed, refl, replicate, Result, rx_row, RxLow, RxRow, RxSc, Sci},
  Names.{Send, sending_of, slice_get, Some, start, State, subst, Suite, sym, tag_sent, take_all, take_at, the_key},
  Names.{Trace, true, tx_options, TxRow, Validate, Verdict, world_after, world_at, world_step, WorldFault, WorldState},
  Names.ℕ,
  Link.SealedFrames.{aad_sent, frame_with, sealed, tag_of, with_tag},
  Link.TracedSteps.{send_step, sent_by, trace_sent},
  Link.WorkedEnds.{Fails, client, counts, gcm_a, gcm_b, installed_key, log, new_key, no_salt, receives_from, rx_from},
  Link.WorkedEnds.{sci_a, sends_from, tx_from, xpn_a, xpn_b},
}
use Rattle.macsec_commands.specs.declared.form.TagForm.TheVariants as form

-- the names of the premises
pub data Premise : Type 0 where
  Validates : Premise
  ReadsSci : Premise
  IsOn : Premise
  SameBytes : Premise
  SameSuite : Premise
  SameOffset : Premise
  SameSalt : Premise
  SameSsci : Premise
  InTime : Premise
  IsNear : Premise

abbrev pub Holds : State → State → TxRow → RxRow → MpduParts → Premise → Type 0
Holds sender receiver tx rx p Validates = receiver.options.mode ≢ Disabled
Holds sender receiver tx rx p ReadsSci = sci_of receiver.rx.scis p ≡ Some sender.config.sci
Holds sender receiver tx rx p IsOn = in_use receiver.rx.rows p.tag.an (Some sender.config.sci) ≡ Some rx
Holds sender receiver tx rx p SameBytes = (the_key receiver.keys rx.key).bytes ≡ (the_key sender.keys tx.key).bytes
Holds sender receiver tx rx p SameSuite = (the_key receiver.keys rx.key).suite ≡ (the_key sender.keys tx.key).suite
Holds sender receiver tx rx p SameOffset = (the_key receiver.keys rx.key).offset ≡ (the_key sender.keys tx.key).offset
Holds sender receiver tx rx p SameSalt = is_xpn (the_key sender.keys tx.key).suite ≡ true →
    (the_key receiver.keys rx.key).salt ≡ (the_key sender.keys tx.key).salt
Holds sender receiver tx rx p SameSsci = is_xpn (the_key sender.keys tx.key).suite ≡ true → rx.ssci ≡
    (the_key sender.keys tx.key).ssci
Holds sender receiver tx rx p InTime = rx.lowest ≤ tx.next
Holds sender receiver tx rx p IsNear = is_xpn (the_key sender.keys tx.key).suite ≡ true → tx.next < rx.lowest + 2 ^ 31

-- together they are the premises of the law
premises_suffice : (sender receiver : State) (tx : TxRow) (rx : RxRow) (p : MpduParts) →
    ((r : Premise) → Holds sender receiver tx rx p r) → CanAccept sender receiver tx rx p
premises_suffice sender receiver tx rx p holds = record {
  not_disabled = holds Validates;
  sci = holds ReadsSci;
  on = holds IsOn;
  key = record {
    bytes = holds SameBytes;
    suite = holds SameSuite;
    offset = holds SameOffset;
    salt = holds SameSalt;
    ssci = holds SameSsci;
  };
  not_late = holds InTime;
  near = holds IsNear;
}

-- the SA exists, and all premises but this one hold
pub record CanAcceptBut (left_out : Premise) (sender receiver : State) (tx : TxRow) (rx : RxRow) (p : MpduParts) : Type
    0 where
  pub there : rx_row receiver.rx.rows sender.config.sci p.tag.an ≡ Some rx
  pub holds : (r : Premise) → r ≢ left_out → Holds sender receiver tx rx p r

-- the delivery of what a sender makes of its client frame, by the law without this premise
abbrev pub AcceptsWithout : Premise → State → WorldState → End → ℕ → List ℕ → TxRow → RxRow → Type 0
AcceptsWithout left_out sender w e n client tx rx =
    let p = parts_sent (tx_options sender) (the_key sender.keys tx.key) tx client in
    frame_fault client ≡ None → (sending_of sender client).by ≡ Some tx → CanAcceptBut left_out sender
    (end_of w e).state tx rx p → IsOnLink w n p → IsDeliveredAs w e n client

abbrev pub LawWithout : Premise → EndConfig → EndConfig → List Event → Type 0
LawWithout left_out a b events = (e : End) (k m n : ℕ) (client : List ℕ) (tx : TxRow) (rx : RxRow) →
    AcceptsWithout left_out (end_of (world_at a b events k) (other_end e)).state (world_at a b events m) e n client tx
    rx

-- ---- one client frame of A, and its delivery to B

abbrev pub heard : Verdict → Option (List ℕ) → Result Outcome WorldFault
heard verdict delivered = Ok (Heard verdict delivered)

same_verdict : (verdict : Verdict) (delivered : Option (List ℕ)) → heard verdict delivered ≡ heard Passed (Some client)
    → verdict ≡ Passed
same_verdict verdict delivered same = cc

abbrev traced : WorldState → Trace
traced w = record { world = w; seals = []; marks = [] }

-- the world after the frame was sent
abbrev pub world_sent : WorldState → TxRow → List ℕ → WorldState
world_sent w tx frame = (trace_sent (traced w) client tx frame).world

module _ (left_out : Premise) (a b : EndConfig) (commands : List Event) (w : WorldState) (tx : TxRow) (rx : RxRow)
    (frame : List ℕ) (before : world_after (new_world a b) commands ≡ w) (none : fault_of w (Send A client) ≡ None)
    (empty : w.frames ≡ []) (sends : sending_of w.a.state client ≡ sent_by tx frame) (seals : in_a_row
    (parts_sent (tx_options w.a.state) (the_key w.a.state.keys tx.key) tx client) ≡ frame)
    (can : CanAcceptBut left_out w.a.state w.b.state tx rx (parts_sent (tx_options w.a.state)
    (the_key w.a.state.keys tx.key) tx client)) where
  abbrev pub sent : List Event
  sent = commands ++ Send A client ∷ []

  at_sending : world_at a b sent (length commands) ≡ w
  at_sending = rw (take_at commands (Send A client ∷ []) (length commands) refl, before)

  after_sending : world_at a b sent (length sent) ≡ world_sent w tx frame
  after_sending = ap (world_after (new_world a b)) (take_all (length sent) sent (omega arith))
      ∙ goes_on commands (new_world a b) before
      ∙ ap (λ (t : Trace). t.world) (send_step (traced w) _ _ _ none refl sends)
    where
      goes_on : (events : List Event) (v : WorldState) → world_after v events ≡ w → world_after v
          (events ++ Send A client ∷ []) ≡ (world_step w (Send A client)).1
      goes_on [] v is = ap (λ (x : WorldState). (world_step x (Send A client)).1) is
      goes_on (event ∷ events) v is = goes_on events (world_step v event).1 is

  -- the law is false if the frame gets another verdict
  pub fails_by : (verdict : Verdict) (delivered : Option (List ℕ)) → verdict ≢ Passed →
      (world_step (world_sent w tx frame) (Deliver B 0)).0 ≡ heard verdict delivered → LawWithout left_out a b sent → ⊥
  fails_by verdict delivered other is law =
      let at : AcceptsWithout left_out w.a.state (world_sent w tx frame) B 0 client tx rx =
      subst (λ (x : WorldState). AcceptsWithout left_out w.a.state x B 0 client tx rx) after_sending
      (subst (λ (x : WorldState). AcceptsWithout left_out x.a.state (world_at a b sent (length sent)) B 0 client tx rx)
      at_sending (law B (length commands) (length sent) 0 client tx rx)) in
      other (same_verdict _ _ (sym is ∙ at refl (ap (λ s. s.by) sends) can (inl on_link)))
    where
      on_link : slice_get (world_sent w tx frame).frames 0 ≡ Some (in_a_row
          (parts_sent (tx_options w.a.state) (the_key w.a.state.keys tx.key) tx client))
      on_link = ap (λ (fs : List (List ℕ)). slice_get (fs ++ frame ∷ []) 0) empty ∙ ap Some (sym seals)

-- ---- the runs: SA 0 of A sends for integrity only, and SA 0 of B receives, after some more commands

abbrev pub key_row : Suite → ℕ → InstalledKey
key_row suite ssci = installed_key suite no_salt ssci 1

abbrev commands_of : ℕ → ℕ → List Event → List Event
commands_of next lowest more = sends_from A (new_key no_salt 1) next false ++ receives_from B (new_key no_salt 2) sci_a
    1 lowest ++ more

abbrev run : ℕ → ℕ → List Event → List Event
run next lowest more = commands_of next lowest more ++ Send A client ∷ []

abbrev pub state_b : EndConfig → RxRow → State
state_b b rx = record (start b) {
  keys = key_row b.suite 2 ∷ [];
  rx = record { scis = sci_a ∷ []; rows = rx ∷ [] };
  rx_counters = counts no_rx_counters ∷ [];
}

-- the world before the frame is sent, with this state of B's endpoint
abbrev pub world_before : EndConfig → ℕ → State → WorldState
world_before a next b = record {
  a = record {
    state = record (start a) { keys = key_row a.suite 1 ∷ []; tx = tx_from next ∷ [] };
    sent = [];
    delivered = [];
  };
  b = record { state = b; sent = []; delivered = log [] ∷ [] };
  frames = [];
}

abbrev pub tag_from : EndConfig → ℕ → List ℕ
tag_from a next = tag_of (replicate 16 7) (iv_sent (tx_options (start a)) (key_row a.suite 1) (tx_from next))
    (aad_sent (tx_options (start a)) (key_row a.suite 1) (tx_from next) client)

abbrev pub frame_from : EndConfig → ℕ → List ℕ → List ℕ
frame_from a next tag = frame_with (tag_sent (tx_options (start a)) (tx_from next) client) client (with_tag tag)

pub seals_as_frame : (a : EndConfig) (next : ℕ) → in_a_row (parts_sent (tx_options (start a)) (key_row a.suite 1)
    (tx_from next) client) ≡ frame_from a next (tag_from a next)
seals_as_frame a next = rw (sealed _ _ _)

-- P holds of each premise but one
pub each_but : (P : Premise → Type 0) (left_out : Premise) → (Validates ≢ left_out → P Validates) →
    (ReadsSci ≢ left_out → P ReadsSci) → (IsOn ≢ left_out → P IsOn) →
    (SameBytes ≢ left_out → P SameBytes) → (SameSuite ≢ left_out → P SameSuite) → (SameOffset ≢ left_out → P SameOffset)
    → (SameSalt ≢ left_out → P SameSalt) → (SameSsci ≢ left_out → P SameSsci) → (InTime ≢ left_out → P InTime) →
    (IsNear ≢ left_out → P IsNear) → (r : Premise) → r ≢ left_out → P r
each_but P left_out a b c d e f g h i j Validates other = a other
each_but P left_out a b c d e f g h i j ReadsSci other = b other
each_but P left_out a b c d e f g h i j IsOn other = c other
each_but P left_out a b c d e f g h i j SameBytes other = d other
each_but P left_out a b c d e f g h i j SameSuite other = e other
each_but P left_out a b c d e f g h i j SameOffset other = f other
each_but P left_out a b c d e f g h i j SameSalt other = g other
each_but P left_out a b c d e f g h i j SameSsci other = h other
each_but P left_out a b c d e f g h i j InTime other = i other
each_but P left_out a b c d e f g h i j IsNear other = j other

abbrev pub HoldsIn : EndConfig → ℕ → State → RxRow → Premise → Type 0
HoldsIn a next b rx r =
    Holds (world_before a next b).a.state b (tx_from next) rx (parts_sent (tx_options (start a)) (key_row a.suite 1)
    (tx_from next) client) r

-- ---- B is in the mode Disabled

abbrev disabled : State
disabled = record (state_b gcm_b (rx_from 1)) { options = record (first_options gcm_b) { mode = Disabled } }

is_unchecked : (tag : List ℕ) → (world_step (world_sent (world_before gcm_a 1 disabled) (tx_from 1)
    (frame_from gcm_a 1 tag)) (Deliver B 0)).0 ≡ heard Unchecked (Some client)
is_unchecked tag = refl

pub validation_needed : Fails (LawWithout Validates) gcm_a gcm_b (run 1 1 (Command B (Validate Disabled) ∷ []))
validation_needed = (
  refl,
  fails_by Validates gcm_a gcm_b (commands_of 1 1 (Command B (Validate Disabled) ∷ [])) (world_before gcm_a 1 disabled)
      (tx_from 1) (rx_from 1)
      (frame_from gcm_a 1 (tag_from gcm_a 1)) refl refl refl (rw (seals_as_frame gcm_a 1)) (seals_as_frame gcm_a 1)
      (record {
        there = refl;
        holds = each_but (HoldsIn gcm_a 1 disabled (rx_from 1)) Validates (λ no. absurd (no refl)) (λ no. refl)
            (λ no. refl)
            (λ no. refl) (λ no. refl) (λ no. refl) (λ no xpn. cc) (λ no xpn. cc) (λ no. omega arith) (λ no xpn. cc);
      }) Unchecked (Some client) (λ same. cc) (is_unchecked (tag_from gcm_a 1)),
)

-- ---- the tag carries no SCI, and B has a second SC

abbrev without_sci : EndConfig
without_sci = record gcm_a { form = form.Auto }

abbrev sci_c : Sci
sci_c = record { 0 = 2 ∷ 0 ∷ 0 ∷ 0 ∷ 0 ∷ 3 ∷ 0 ∷ 1 ∷ [] }

abbrev two_channels : State
two_channels = record (state_b gcm_b (rx_from 1)) {
  rx = record { scis = sci_a ∷ sci_c ∷ []; rows = rx_from 1 ∷ [] };
  rx_counters = counts no_rx_counters ∷ new_channel_counters sci_c ∷ [];
}

has_no_channel : (tag : List ℕ) →
    (world_step (world_sent (world_before without_sci 1 two_channels) (tx_from 1) (frame_from without_sci 1 tag))
    (Deliver B 0)).0 ≡ heard NoSaError None
has_no_channel tag = refl

pub sci_needed : Fails (LawWithout ReadsSci) without_sci gcm_b (run 1 1 (Command B (RxSc sci_c) ∷ []))
sci_needed = (
  refl,
  fails_by ReadsSci without_sci gcm_b (commands_of 1 1 (Command B (RxSc sci_c) ∷ []))
      (world_before without_sci 1 two_channels) (tx_from 1) (rx_from 1)
      (frame_from without_sci 1 (tag_from without_sci 1))
      refl refl refl (rw (seals_as_frame without_sci 1)) (seals_as_frame without_sci 1) (record {
        there = refl;
        holds = each_but (HoldsIn without_sci 1 two_channels (rx_from 1)) ReadsSci (λ no same. cc)
            (λ no. absurd (no refl)) (λ no. refl)
            (λ no. refl) (λ no. refl) (λ no. refl) (λ no xpn. cc) (λ no xpn. cc) (λ no. omega arith) (λ no xpn. cc);
      }) NoSaError None (λ same. cc) (has_no_channel (tag_from without_sci 1)),
)

-- ---- the SA is disabled

abbrev rx_off : RxRow
rx_off = record (rx_from 1) { on = false }

is_off : (tag : List ℕ) → (world_step (world_sent (world_before gcm_a 1 (state_b gcm_b rx_off)) (tx_from 1)
    (frame_from gcm_a 1 tag)) (Deliver B 0)).0 ≡ heard NoSaError None
is_off tag = refl

pub on_needed : Fails (LawWithout IsOn) gcm_a gcm_b (run 1 1 (Command B (RxOff sci_a 0) ∷ []))
on_needed = (
  refl,
  fails_by IsOn gcm_a gcm_b (commands_of 1 1 (Command B (RxOff sci_a 0) ∷ []))
      (world_before gcm_a 1 (state_b gcm_b rx_off)) (tx_from 1) rx_off
      (frame_from gcm_a 1 (tag_from gcm_a 1)) refl refl refl (rw (seals_as_frame gcm_a 1)) (seals_as_frame gcm_a 1)
      (record {
        there = refl;
        holds = each_but (HoldsIn gcm_a 1 (state_b gcm_b rx_off) rx_off) IsOn (λ no same. cc) (λ no. refl)
            (λ no. absurd (no refl))
            (λ no. refl) (λ no. refl) (λ no. refl) (λ no xpn. cc) (λ no xpn. cc) (λ no. omega arith) (λ no xpn. cc);
      }) NoSaError None (λ same. cc) (is_off (tag_from gcm_a 1)),
)

-- ---- the lowest acceptable packet number is 2, and the frame's is 1

is_late : (tag : List ℕ) → (world_step (world_sent (world_before gcm_a 1 (state_b gcm_b (rx_from 2))) (tx_from 1)
    (frame_from gcm_a 1 tag)) (Deliver B 0)).0 ≡ heard Late None
is_late tag = refl

pub in_time_needed : Fails (LawWithout InTime) gcm_a gcm_b (run 1 1 (Command B (RxLow sci_a 0 2) ∷ []))
in_time_needed = (
  refl,
  fails_by InTime gcm_a gcm_b (commands_of 1 1 (Command B (RxLow sci_a 0 2) ∷ []))
      (world_before gcm_a 1 (state_b gcm_b (rx_from 2))) (tx_from 1) (rx_from 2)
      (frame_from gcm_a 1 (tag_from gcm_a 1)) refl refl refl (rw (seals_as_frame gcm_a 1)) (seals_as_frame gcm_a 1)
      (record {
        there = refl;
        holds = each_but (HoldsIn gcm_a 1 (state_b gcm_b (rx_from 2)) (rx_from 2)) InTime (λ no same. cc) (λ no. refl)
            (λ no. refl) (λ no. refl) (λ no. refl) (λ no. refl) (λ no xpn. cc) (λ no xpn. cc) (λ no. absurd (no refl))
            (λ no xpn. cc);
      }) Late None (λ same. cc) (is_late (tag_from gcm_a 1)),
)

-- ---- A has extended packet numbers and sends 2^32, whose lower half is 0; B has 32-bit ones, for which 0 is invalid

abbrev of_32_bits : WorldState
of_32_bits = world_before xpn_a (2 ^ 32) (state_b gcm_b (rx_from (2 ^ 32 - 1)))

is_zero : (tag : List ℕ) →
    (world_step (world_sent of_32_bits (tx_from (2 ^ 32)) (frame_from xpn_a (2 ^ 32) tag)) (Deliver B 0)).0 ≡ heard
    BadTag None
is_zero tag = refl

pub suite_needed : Fails (LawWithout SameSuite) xpn_a gcm_b (run (2 ^ 32) (2 ^ 32 - 1) [])
suite_needed = (
  refl,
  fails_by SameSuite xpn_a gcm_b (commands_of (2 ^ 32) (2 ^ 32 - 1) []) of_32_bits (tx_from (2 ^ 32))
      (rx_from (2 ^ 32 - 1)) (frame_from xpn_a (2 ^ 32) (tag_from xpn_a (2 ^ 32)))
      refl refl refl (rw (seals_as_frame xpn_a (2 ^ 32))) (seals_as_frame xpn_a (2 ^ 32)) (record {
        there = refl;
        holds = each_but (HoldsIn xpn_a (2 ^ 32) (state_b gcm_b (rx_from (2 ^ 32 - 1))) (rx_from (2 ^ 32 - 1)))
            SameSuite (λ no same. cc) (λ no. refl) (λ no. refl)
            (λ no. refl) (λ no. absurd (no refl)) (λ no. refl) (λ no xpn. refl) (λ no xpn. refl) (λ no. omega arith)
            (λ no xpn. omega arith);
      }) BadTag None (λ same. cc) (is_zero (tag_from xpn_a (2 ^ 32))),
)

-- ---- A sends 2^32, and B's SA accepts from 1 on: it recovers 0, which is no packet number

is_far : (tag : List ℕ) →
    (world_step (world_sent (world_before xpn_a (2 ^ 32) (state_b xpn_b (rx_from 1))) (tx_from (2 ^ 32))
    (frame_from xpn_a (2 ^ 32) tag)) (Deliver B 0)).0 ≡ heard BadTag None
is_far tag = refl

pub near_needed : Fails (LawWithout IsNear) xpn_a xpn_b (run (2 ^ 32) 1 [])
near_needed = (
  refl,
  fails_by IsNear xpn_a xpn_b (commands_of (2 ^ 32) 1 []) (world_before xpn_a (2 ^ 32) (state_b xpn_b (rx_from 1)))
      (tx_from (2 ^ 32)) (rx_from 1) (frame_from xpn_a (2 ^ 32) (tag_from xpn_a (2 ^ 32)))
      refl refl refl (rw (seals_as_frame xpn_a (2 ^ 32))) (seals_as_frame xpn_a (2 ^ 32)) (record {
        there = refl;
        holds = each_but (HoldsIn xpn_a (2 ^ 32) (state_b xpn_b (rx_from 1)) (rx_from 1)) IsNear (λ no same. cc)
            (λ no. refl) (λ no. refl)
            (λ no. refl) (λ no. refl) (λ no. refl) (λ no xpn. refl) (λ no xpn. refl) (λ no. omega arith)
            (λ no. absurd (no refl));
      }) BadTag None (λ same. cc) (is_far (tag_from xpn_a (2 ^ 32))),
)
