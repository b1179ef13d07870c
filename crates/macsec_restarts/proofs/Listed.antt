-- The lists of what is sealed and delivered, by the cases of a step.
use Rattle.macsec_restarts.{
  proofs.{
    Names.{[], ◌||◌, ◌∙◌, ◌≡◌, at_row, bad, bare_frame, Bool, by_tests, client_frame, command_output, Delayed},
    Names.{delivered_by, endpoint_input, endpoint_output, false, frame_fault, FrameFault, if◌then◌else◌, InstalledKey},
    Names.{Invalid, is_below_floor, is_late, is_strict, IsFromSa, judge_number, judge_opened, judge_reading, judge_row},
    Names.{judge_validated, Judgement, judgement_of, Keeping, KeepingInput, Late, leaves, Leaving, link_frame, List},
    Names.{MatchesDeliveries, may_go, MpduParts, newly_delivered, newly_sealed, no_sa, None, NoSa, NoSaError},
    Names.{not_protected, NoTag, NotValid, now_durable, number_of_frame, operator_command, Option, option_map, plain},
    Names.{protected, protected_frame, Reading, received, received_output, received_step, refl, Refusal, refusal},
    Names.{Reserved, row_on, rx_options, RxOptions, RxRow, sealed_if, Sending, sending_by, sending_of, sent_output},
    Names.{Some, State, state_after_command, state_after_receiving, state_after_sending, tagged, the_key, too_long},
    Names.{true, tx_options, TxRow, Unchecked, uncontrolled_frame, unless_fault, Untagged, untagged, without_row, ℕ},
  },
  specs.{Delivered.{DeliversEachListed, DeliversFromSas}, Sent.{MatchesUses, SealsEachFrame}},
}
use Rattle.macsec_rx.specs.Judge.{place_of}

-- Each protected frame is one use of the cipher: by the cases of what is sent.

pub none_if : (go : Bool) → sealed_if go [] ≡ []
none_if true = refl
none_if false = refl

-- ---- inputs that seal nothing

by_refusal : (k : Keeping) (input : KeepingInput) (after : State) → newly_sealed k input ≡ [] → (below go : Bool)
    (r : Option Refusal) → MatchesUses k input (by_tests below go k (command_output r, after)).0
by_refusal k _ _ none false true (Some r) = none
by_refusal k _ _ none _ _ r = none

by_plain : (k : Keeping) (input : KeepingInput) (frame : List ℕ) → newly_sealed k input ≡ [] → (go : Bool)
    (f : Option FrameFault) →
    MatchesUses k input (by_tests false go k (unless_fault f k.secy (leaves frame None, k.secy))).0
by_plain k _ _ none true None = none
by_plain k _ _ none _ f = none

by_received : (k : Keeping) (frame : List ℕ) (input : KeepingInput) → newly_sealed k input ≡ [] → (go : Bool)
    (f : Option FrameFault) → MatchesUses k input (by_tests false go k (unless_fault f k.secy (
      received_output frame (judgement_of k.secy frame),
      state_after_receiving k.secy frame (judgement_of k.secy frame),
    ))).0
by_received k _ _ none true None = none
by_received k _ _ none _ f = none

-- ---- a client frame

-- what is sent: a frame under a key, by an SA, or no such frame
data IsSending (s : State) (frame : List ℕ) (sent : Sending) : Type 0 where
  by_sa : (row : TxRow) → sent ≡ record {
    leaving = protected row.key (protected_frame (tx_options s) (the_key s.keys row.key) row frame);
    by = Some row;
  } → IsSending s frame sent
  by_none : (leaving : Leaving) → sent ≡ not_protected leaving → ((k : Keeping) (input : KeepingInput) → newly_sealed k
      input ≡ [] → MatchesUses k input (endpoint_output (sent_output frame leaving))) → IsSending s frame sent

no_frame : {s : State} {frame : List ℕ} → IsSending s frame (not_protected no_sa)
no_frame = by_none no_sa refl (λ k input none. none)

long_frame : {s : State} {frame : List ℕ} → IsSending s frame (not_protected too_long)
long_frame = by_none too_long refl (λ k input none. none)

by_row : {s : State} {frame : List ℕ} (o : Option TxRow) → IsSending s frame (sending_by (tx_options s) s.keys frame o)
by_row None = no_frame
by_row {s} {frame} (Some row) = by_lengths _ _
  where
    sent : Sending
    sent = record {
      leaving = protected row.key (protected_frame (tx_options s) (the_key s.keys row.key) row frame);
      by = Some row;
    }

    by_lengths : (used long : Bool) → IsSending s frame (if used then not_protected no_sa else if long then
        not_protected too_long else sent)
    by_lengths true _ = no_frame
    by_lengths false true = long_frame
    by_lengths false false = by_sa row refl

is_sending : (s : State) (frame : List ℕ) → IsSending s frame (sending_of s frame)
is_sending s frame = by_protect _ _
  where
    by_protect : (protects long : Bool) → IsSending s frame (if protects then sending_by (tx_options s) s.keys frame
        (row_on s.tx) else not_protected (if long then too_long else plain))
    by_protect true _ = by_row _
    by_protect false true = long_frame
    by_protect false false = by_none plain refl (λ k input none. none)

sends : (k : Keeping) (frame : List ℕ) → (go : Bool) → may_go k (client_frame frame) ≡ go → (f : Option FrameFault) →
    frame_fault frame ≡ f → {sent : Sending} → sending_of k.secy frame ≡ sent → IsSending k.secy frame sent →
    MatchesUses k (endpoint_input (client_frame frame)) (by_tests false go k
    (unless_fault f k.secy (sent_output frame sent.leaving, state_after_sending k.secy frame sent))).0
sends k _ false goes f fits is it = rw goes
sends k _ true goes (Some f) fits is it = rw (goes, fits)
sends k frame true goes None fits is (by_none leaving none matches) =
    rw none (matches k (endpoint_input (client_frame frame)) (rw (goes, fits, (is ∙ none))))
sends k frame true goes None fits is (by_sa row one) = rw one (record {
  client = frame;
  came = refl;
  row = row;
  by = rw (is ∙ one);
  of_key = refl;
  octets_are = refl;
  uses = rw (goes, fits, (is ∙ one));
})

pub seals_each_frame : (k : Keeping) (input : KeepingInput) → SealsEachFrame k input
seals_each_frame k (now_durable r) = refl
seals_each_frame k (endpoint_input (operator_command c)) =
    by_refusal k (endpoint_input (operator_command c)) (state_after_command k.secy c)
    (none_if (may_go k (operator_command c))) (is_below_floor k (operator_command c)) (may_go k (operator_command c))
    (refusal k.secy c)
seals_each_frame k (endpoint_input (client_frame frame)) = sends k frame _ refl _ refl refl (is_sending _ frame)
seals_each_frame k (endpoint_input (uncontrolled_frame frame)) =
    by_plain k (endpoint_input (uncontrolled_frame frame)) frame (none_if (may_go k (uncontrolled_frame frame))) _ _
seals_each_frame k (endpoint_input (link_frame frame)) =
    by_received k frame (endpoint_input (link_frame frame)) (none_if (may_go k (link_frame frame))) _ _

-- What is delivered from an SA is in the list: by the cases of the outputs.

refused_delivers_none : (k : Keeping) (input : KeepingInput) (after : State) → newly_delivered k input ≡ [] →
    (below go : Bool) (r : Option Refusal) → MatchesDeliveries k input (by_tests below go k (command_output r, after)).0
refused_delivers_none k _ _ none false true (Some r) = none
refused_delivers_none k _ _ none _ _ r = none

plain_delivers_none : (k : Keeping) (input : KeepingInput) (frame : List ℕ) → newly_delivered k input ≡ [] → (go : Bool)
    (f : Option FrameFault) →
    MatchesDeliveries k input (by_tests false go k (unless_fault f k.secy (leaves frame None, k.secy))).0
plain_delivers_none k _ _ none true None = none
plain_delivers_none k _ _ none _ f = none

sent_delivers_none : (k : Keeping) (input : KeepingInput) (frame : List ℕ) (after : State) → newly_delivered k input ≡
    [] → (go : Bool) (f : Option FrameFault) (leaving : Leaving) →
    MatchesDeliveries k input (by_tests false go k (unless_fault f k.secy (sent_output frame leaving, after))).0
sent_delivers_none k _ _ _ none true None (protected _ _) = none
sent_delivers_none k _ _ _ none _ f leaving = none

by_link : (k : Keeping) (frame : List ℕ) → DeliversEachListed k (endpoint_input (link_frame frame))
by_link k frame = rw (received_step k frame) (by_parts _ refl _ refl _ refl)
  where
    s : State
    s = k.secy

    j : Judgement
    j = judgement_of k.secy frame

    these : {f : Option FrameFault} {o : Option RxRow} {d : Option (List ℕ)} → frame_fault frame ≡ f → j.row ≡ o →
        j.delivered ≡ d → newly_delivered k (endpoint_input (link_frame frame)) ≡ delivered_by s j f o d
    these fits of_row delivers = rw (fits, of_row, delivers)

    by_parts : (f : Option FrameFault) → frame_fault frame ≡ f → (o : Option RxRow) → j.row ≡ o → (d : Option (List ℕ))
        → j.delivered ≡ d → MatchesDeliveries k (endpoint_input (link_frame frame)) (endpoint_output
        (unless_fault f s (received j.verdict (option_map place_of o) frame d, state_after_receiving s frame j)).0)
    by_parts (Some f) fits o of_row d delivers = these fits of_row delivers
    by_parts None fits None of_row d delivers = these fits of_row delivers
    by_parts None fits (Some _) of_row None delivers = these fits of_row delivers
    by_parts None fits (Some row) of_row (Some delivered) delivers = record {
      delivery = record {
        bytes = (the_key s.keys row.key).bytes;
        sci = row.sci;
        an = row.an;
        number = j.number;
        frame = delivered;
      };
      one = these fits of_row delivers;
      of_sci = refl;
      of_an = refl;
      of_frame = refl;
    }

pub delivers_each_listed : (k : Keeping) (input : KeepingInput) → DeliversEachListed k input
delivers_each_listed k (now_durable r) = refl
delivers_each_listed k (endpoint_input (operator_command c)) =
    refused_delivers_none k (endpoint_input (operator_command c)) (state_after_command k.secy c) refl
    (is_below_floor k (operator_command c)) (may_go k (operator_command c)) (refusal k.secy c)
delivers_each_listed k (endpoint_input (client_frame frame)) =
    sent_delivers_none k (endpoint_input (client_frame frame)) frame _ refl _ _ _
delivers_each_listed k (endpoint_input (uncontrolled_frame frame)) =
    plain_delivers_none k (endpoint_input (uncontrolled_frame frame)) frame refl _ _
delivers_each_listed k (endpoint_input (link_frame frame)) = by_link k frame

-- In the mode Strict nothing is delivered without a receive SA: by the steps of reception.

-- ---- outputs that are no frame from the link

refused_is_from_sa : (k : Keeping) (after : State) (below go : Bool) (r : Option Refusal) → IsFromSa
    (by_tests below go k (command_output r, after)).0
refused_is_from_sa k _ false true (Some r) = tt
refused_is_from_sa k _ _ _ r = tt

plain_is_from_sa : (k : Keeping) (frame : List ℕ) (go : Bool) (f : Option FrameFault) → IsFromSa
    (by_tests false go k (unless_fault f k.secy (leaves frame None, k.secy))).0
plain_is_from_sa k _ true None = tt
plain_is_from_sa k _ _ f = tt

sent_is_from_sa : (k : Keeping) (frame : List ℕ) (after : State) (go : Bool) (f : Option FrameFault) (leaving : Leaving)
    → IsFromSa (by_tests false go k (unless_fault f k.secy (sent_output frame leaving, after))).0
sent_is_from_sa k _ _ true None (protected _ _) = tt
sent_is_from_sa k _ _ _ f leaving = tt

-- ---- a frame from the link

abbrev Comes : List ℕ → Judgement → Type 0
Comes frame j = IsFromSa (endpoint_output (received_output frame j))

module _ (s : State) (frame : List ℕ) (strict : is_strict s.options.mode ≡ true) where
  by_cipher : (options : RxOptions) (key : InstalledKey) (row : RxRow) (number : ℕ) (p : MpduParts)
      (o : Option (List ℕ)) → Comes frame (judge_opened options key row number p o)
  by_cipher _ _ _ _ p (Some _) = tt
  by_cipher _ _ row number p None = by_test _
    where
      by_test : (b : Bool) → Comes frame (if b then at_row row number 11 NotValid None else at_row row number 12 Invalid
          (Some (bare_frame p)))
      by_test true = tt
      by_test false = tt

  by_number : (options : RxOptions) (key : InstalledKey) (row : RxRow) (p : MpduParts) (o : Option ℕ) → Comes frame
      (judge_number options key row p o)
  by_number _ _ _ p None = tt
  by_number options key row p (Some number) = by_three _ _ _
    where
      by_three : (dropped unusable disabled : Bool) → Comes frame (
          if dropped then at_row row number 8 Late None else if unusable then at_row row number 9 NotValid None
          else if disabled then at_row row number 10 (if is_late row.lowest number then Delayed else Unchecked)
          (Some (bare_frame p)) else judge_validated options key row number p)
      by_three false false false = by_cipher options key row number p _
      by_three _ _ _ = tt

  by_own_row : (p : MpduParts) (o : Option RxRow) → Comes frame (judge_row (rx_options s) s.keys p o)
  by_own_row p (Some row) = by_number (rx_options s) (the_key s.keys row.key) row p
      (number_of_frame (the_key s.keys row.key).suite row.lowest p.tag.pn)
  by_own_row p None = by_mode (is_strict s.options.mode) strict p.tag.c
    where
      by_mode : (b : Bool) → b ≡ true → (c : Bool) → Comes frame (if b || c then without_row 5 NoSaError None else
          without_row 6 NoSa (Some (bare_frame p)))
      by_mode true _ c = tt
      by_mode false is c = cc

  by_bits : (p : MpduParts) (b : Bool) (o : Option RxRow) → Comes frame
      (if b then without_row 4 Reserved None else judge_row (rx_options s) s.keys p o)
  by_bits p true o = tt
  by_bits p false o = by_own_row p o

  by_reading : (r : Reading) → Comes frame (judge_reading s frame r)
  by_reading (bad _) = tt
  by_reading (tagged p) = by_bits p _ _
  by_reading untagged = by_mode (is_strict s.options.mode) strict
    where
      by_mode : (b : Bool) → b ≡ true → Comes frame (if b then without_row 1 NoTag None else without_row 2 Untagged
          (Some frame))
      by_mode true _ = tt
      by_mode false is = cc

by_fault : (s : State) (frame : List ℕ) (after : State) (f : Option FrameFault) → Comes frame (judgement_of s frame) →
    IsFromSa (endpoint_output (unless_fault f s (received_output frame (judgement_of s frame), after)).0)
by_fault s _ _ None comes = comes
by_fault s _ _ (Some f) _ = tt

pub delivers_from_sas : (k : Keeping) (input : KeepingInput) → DeliversFromSas k input
delivers_from_sas k (now_durable r) _ = tt
delivers_from_sas k (endpoint_input (operator_command c)) _ =
    refused_is_from_sa k (state_after_command k.secy c) (is_below_floor k (operator_command c))
    (may_go k (operator_command c)) (refusal k.secy c)
delivers_from_sas k (endpoint_input (client_frame frame)) _ = sent_is_from_sa k frame _ _ _ _
delivers_from_sas k (endpoint_input (uncontrolled_frame frame)) _ = plain_is_from_sa k frame _ _
delivers_from_sas k (endpoint_input (link_frame frame)) strict =
    rw (received_step k frame) (by_fault k.secy frame _ _ (by_reading k.secy frame (rw strict) _))
