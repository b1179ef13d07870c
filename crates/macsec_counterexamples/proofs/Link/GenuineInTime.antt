-- What was sealed and arrives in time is genuine when an end opens it. So for each frame within the premises of the law
-- of acceptance, at both ends, padded or not, the premise of the laws of origin and order holds that no tag is forged.
use Rattle.{
  std.proofs.lemmas.List.Elements.Contains-append_left,
  macsec_link.proofs.{
    Accepted.{LawOfStep, StandsWith, stands_with},
    EndpointLaws.EndpointLaws,
    LinkFrames.finds,
    Members.{IsMember, contained},
    Seals.{fits, sound_end},
    SentStands.{stands_on_link, stays_on_link},
  },
  macsec_link.specs.{Beginnings.AreSound, Sound.IsSound, Trace.{added_unless_fault, new_seals}},
  macsec_counterexamples.proofs.Names.{[], ◌++◌, ◌<◌, ◌∷◌, ◌≡◌, arith, CanAccept, CipherUse, Contains, Deliver, End},
  macsec_counterexamples.proofs.Names.{end_of, EndConfig, Event, fault_of, frame_at, frame_fault, in_a_row, inl, inr},
  macsec_counterexamples.proofs.Names.{InstalledKey, IsGenuineAt, IsOnLink, length, List, MpduParts, new_trace},
  macsec_counterexamples.proofs.Names.{new_world, None, other_end, parts_sent, refl, RxRow, Send, sending_of},
  macsec_counterexamples.proofs.Names.{slice_get, Some, State, subst, suc, sym, take, the_key, Trace, trace_after},
  macsec_counterexamples.proofs.Names.{trace_of, trace_step, tx_options, TxRow, use_opened, use_sealed_by, world_after},
  macsec_counterexamples.proofs.Names.{world_at, world_of_trace, world_step, WorldState, zero, ℕ},
}
use Rattle.macsec_secy.specs.Sound as endpoint

-- ---- what is opened of a frame that can be accepted

module _ (law_of_step : LawOfStep) (laws : EndpointLaws) (w : WorldState) (e : End) (n : ℕ) (sender : State)
    (client : List ℕ) (tx : TxRow) (rx : RxRow)
    (sound : IsSound w) (sender_sound : endpoint.IsSound sender) (good : frame_fault client ≡ None)
    (by : (sending_of sender client).by ≡ Some tx)
    (can : CanAccept sender (end_of w e).state tx rx (parts_sent (tx_options sender) (the_key sender.keys tx.key) tx
    client)) (on_link : IsOnLink w n (parts_sent (tx_options sender) (the_key sender.keys tx.key) tx client)) where
  abbrev s : State
  s = (end_of w e).state

  abbrev key : InstalledKey
  key = the_key sender.keys tx.key

  abbrev p : MpduParts
  p = parts_sent (tx_options sender) key tx client

  at : StandsWith w n p
  at = stands_with _ _ _ sound (laws.protects sender client tx sender_sound good by).read.is_tagged.lengths on_link

  frame_is : in_a_row p ++ at.behind ≡ frame_at w n
  frame_is = (finds w n (in_a_row p ++ at.behind) sound at.there).found

  -- it is what was sealed for it
  pub opened_in_time : use_opened s (frame_at w n) ≡ Some (use_sealed_by sender client tx)
  opened_in_time =
      let it = law_of_step sender s client tx rx at.behind sender_sound (sound_end _ sound e) good by can at.may in
      rw (← frame_is) (rw (it.judged, it.reads, it.opens))

-- ---- what was sealed stays, and what was sent stays on the link

seals_stay : (t : Trace) (events : List Event) (u : CipherUse) → Contains t.seals u → Contains
    (trace_after t events).seals u
seals_stay t [] u there = there
seals_stay t (event ∷ events) u there =
    let added = added_unless_fault (fault_of t.world event) (new_seals t.world event) in
    seals_stay (trace_step t event) events u (Contains-append_left t.seals added u there)

last_member : {X : Type 0} (xs : List X) (x : X) → IsMember (xs ++ x ∷ []) x
last_member [] x = inl refl
last_member (y ∷ xs) x = inr (last_member xs x)

-- an end sends a client frame, without a fault, by this SA
record IsSentBy (w : WorldState) (e : End) (client : List ℕ) (tx : TxRow) : Type 0 where
  none : fault_of w (Send e client) ≡ None
  by : (sending_of (end_of w e).state client).by ≡ Some tx

abbrev sealed_at : WorldState → End → List ℕ → TxRow → CipherUse
sealed_at w e client tx = use_sealed_by (end_of w e).state client tx

sealed_now : (t : Trace) (e : End) (client : List ℕ) (tx : TxRow) → IsSentBy t.world e client tx → Contains
    (trace_step t (Send e client)).seals (sealed_at t.world e client tx)
sealed_now t e client tx sent =
    let new : added_unless_fault (fault_of t.world (Send e client)) (new_seals t.world (Send e client)) ≡ sealed_at
    t.world e client tx ∷ [] = rw (sent.none, sent.by) in
    rw new (contained (t.seals ++ sealed_at t.world e client tx ∷ []) (sealed_at t.world e client tx) (last_member _ _))

sealed_later : (t : Trace) (events : List Event) (k m : ℕ) (e : End) (client : List ℕ) (tx : TxRow)
    (before : WorldState) → slice_get events k ≡ Some (Send e client) →
    (trace_after t (take k events)).world ≡ before → IsSentBy before e client tx → k < m → Contains
    (trace_after t (take m events)).seals (sealed_at before e client tx)
sealed_later t events k zero e client tx before found is sent less = absurd (omega (arith, less))
sealed_later t [] zero (suc m) e client tx before found is sent less = cc
sealed_later t [] (suc k) (suc m) e client tx before found is sent less = cc
sealed_later t (event ∷ events) zero (suc m) e client tx before found is sent less =
    let it : event ≡ Send e client = cc in
    seals_stay (trace_step t event) (take m events) _
    (subst (λ (x : Event). Contains (trace_step t x).seals (sealed_at before e client tx)) (sym it)
    (subst (λ (w : WorldState). Contains (trace_step t (Send e client)).seals (sealed_at w e client tx)) is
    (sealed_now t _ _ _ (subst (λ (w : WorldState). IsSentBy w e client tx) (sym is) sent))))
sealed_later t (event ∷ events) (suc k) (suc m) e client tx before found is sent less =
    sealed_later (trace_step t event) events k m e client tx before found is sent (omega (arith, less))

abbrev frame_sent : WorldState → End → List ℕ → TxRow → MpduParts
frame_sent w e client tx = parts_sent (tx_options (end_of w e).state) (the_key (end_of w e).state.keys tx.key) tx client

stands_later : (w : WorldState) (events : List Event) (k m : ℕ) (e : End) (client : List ℕ) (tx : TxRow)
    (before : WorldState) → slice_get events k ≡ Some (Send e client) →
    world_after w (take k events) ≡ before → IsSentBy before e client tx → k < m →
    slice_get (world_after w (take m events)).frames (length before.frames) ≡ Some
    (in_a_row (frame_sent before e client tx))
stands_later w events k zero e client tx before found is sent less = absurd (omega (arith, less))
stands_later w [] zero (suc m) e client tx before found is sent less = cc
stands_later w [] (suc k) (suc m) e client tx before found is sent less = cc
stands_later w (event ∷ events) zero (suc m) e client tx before found is sent less =
    let it : event ≡ Send e client = cc in
    let n = length before.frames in
    let frame = in_a_row (frame_sent before e client tx) in
    rw it (rw is (stays_on_link (world_step before (Send e client)).1 (take m events) n _
    (stands_on_link before e _ _ sent.none (fits before e client sent.none) sent.by)))
stands_later w (event ∷ events) (suc k) (suc m) e client tx before found is sent less =
    stands_later (world_step w event).1 events k m e client tx before found is sent (omega (arith, less))

-- ---- the law

-- event k sends a client frame, protected by this SA of the end
pub record Protects (a b : EndConfig) (events : List Event) (k : ℕ) (e : End) (client : List ℕ) (tx : TxRow) : Type 0
  where
    pub sends : slice_get events k ≡ Some (Send e client)
    pub none : fault_of (world_at a b events k) (Send e client) ≡ None
    pub by : (sending_of (end_of (world_at a b events k) e).state client).by ≡ Some tx

-- what event k sends protected is genuine at each later moment at which the other end can accept it, whatever number
-- the link frame has, padded or not
abbrev pub IsGenuineInTime : EndConfig → EndConfig → List Event → Type 0
IsGenuineInTime a b events = (e : End) (k m n : ℕ) (client : List ℕ) (tx : TxRow) (rx : RxRow) →
    let before = world_at a b events k in
    let w = world_at a b events m in
    Protects a b events k (other_end e) client tx → k < m →
    CanAccept (end_of before (other_end e)).state (end_of w e).state tx rx (frame_sent before (other_end e) client tx) →
    IsOnLink w n (frame_sent before (other_end e) client tx) → IsGenuineAt (trace_of a b (take m events)) (Deliver e n)

pub genuine_in_time : LawOfStep → EndpointLaws → (a b : EndConfig) (events : List Event) → AreSound a b events →
    IsGenuineInTime a b events
genuine_in_time law_of_step laws a b events sounds e k m n client tx rx sends less can on_link =
    let before : WorldState = world_at a b events k in
    let w : WorldState = world_at a b events m in
    let seals : List CipherUse = (trace_of a b (take m events)).seals in
    let sealed : Contains seals (sealed_at before (other_end e) client tx) =
    sealed_later (new_trace a b) events k m (other_end e) client tx before sends.sends
    (world_of_trace (new_trace a b) (take k events)) (record { none = sends.none; by = sends.by }) less in
    let opened = opened_in_time law_of_step laws w e n (end_of before (other_end e)).state client tx rx (sounds _)
    (sound_end _ (sounds _) (other_end e)) (fits before (other_end e) client sends.none) sends.by can on_link in
    rw (world_of_trace (new_trace a b) (take m events)) (rw opened sealed)

-- its link frame exists at each of these moments
pub is_on_link : (a b : EndConfig) (events : List Event) (e : End) (k m : ℕ) (client : List ℕ) (tx : TxRow) → Protects a
    b events k e client tx → k < m → IsOnLink (world_at a b events m) (length (world_at a b events k).frames)
    (frame_sent (world_at a b events k) e client tx)
is_on_link a b events e k m client tx sends less =
    inl (stands_later _ _ _ _ _ _ _ _ sends.sends refl (record { none = sends.none; by = sends.by }) less)
