-- What holds of each sending holds of all that a run seals: they open, and under a key their IVs differ.
use Rattle.{
  std.proofs.{Common.{is_some}, lemmas.List.Elements.{All-append, All-map}},
  macsec_gcm.{
    proofs.Opening.{length-ciphertext, length-tag, open_undoes_seal},
    specs.{Laws.SealedLengths, Octets.same_octets},
  },
  macsec_suite.specs.KeyRows.prepared_key,
  macsec_tx.specs.Transmit.use_sent,
  macsec_secy.proofs.SealedParts.sealed_opens,
  macsec_hash_keys.{proofs.UnderKey.under_key, specs.Forgeries.{Opens, under}},
  macsec_link.proofs.Names.{◌≢◌, ◌∙◌, ◌∷◌, [], ℕ, All, All-cons, All-nil, AllPairs, AllPairs-filter, CipherUse},
  macsec_link.proofs.Names.{EndConfig, Event, InstalledKey, IsUseFor, List, None, Option, SealsEachFrame, Send, Sent},
  macsec_link.proofs.Names.Some,
  macsec_link.proofs.Names.{State, Trace, TxOptions, TxRow, WorldFault, WorldState, added_unless_fault, ap, arith},
  macsec_link.proofs.Names.end_of,
  macsec_link.proofs.Names.{fault_of, get_or, new_seals, new_trace, seals_by, slice_get-get_or, subst, sym, the_key},
  macsec_link.proofs.Names.{trace_after, trace_of, trace_step, tx_options, use_sealed_by},
  macsec_link.specs.UniqueIvs.HasOtherIv,
}

-- ---- each sending

abbrev pub HoldsOfSent : (CipherUse → Type 0) → Type 0
HoldsOfSent P =
    (options : TxOptions) (key : InstalledKey) (row : TxRow) (frame : List ℕ) → P (use_sent options key row frame)

frame_has : (P : CipherUse → Type 0) → HoldsOfSent P → (s : State) (frame : List ℕ) (by : Option TxRow)
    → All P (seals_by s frame by)
frame_has P sent s frame None = All-nil P
frame_has P sent s frame (Some row) =
    All-cons P (use_sealed_by s frame row) [] (sent (tx_options s) (the_key s.keys row.key) row frame) (All-nil P)

event_has : (P : CipherUse → Type 0) → HoldsOfSent P → (w : WorldState) (event : Event) → All P (new_seals w event)
event_has P sent w (Send e frame) = frame_has P sent (end_of w e).state frame _
event_has P sent w other = All-nil P

unless_fault : (P : CipherUse → Type 0) (fault : Option WorldFault) (added : List CipherUse) → All P added
    → All P (added_unless_fault fault added)
unless_fault P None added all = all
unless_fault P (Some f) added all = All-nil P

step_has : (P : CipherUse → Type 0) → HoldsOfSent P → (t : Trace) (event : Event) → All P t.seals
    → All P (trace_step t event).seals
step_has P sent t event before =
    All-append P t.seals (added_unless_fault (fault_of t.world event) (new_seals t.world event)) before
    (unless_fault P (fault_of t.world event) _ (event_has P sent t.world event))

after_has : (P : CipherUse → Type 0) → HoldsOfSent P → (t : Trace) (events : List Event) → All P t.seals
    → All P (trace_after t events).seals
after_has P sent t [] before = before
after_has P sent t (event ∷ events) before =
    after_has P sent (trace_step t event) events (step_has P sent t event before)

pub seals_have : (P : CipherUse → Type 0) → HoldsOfSent P → (a b : EndConfig) (events : List Event)
    → All P (trace_of a b events).seals
seals_have P sent a b events = after_has P sent (new_trace a b) events (All-nil P)

-- what holds of each use of the cipher that belongs to a client frame holds of all that was sealed
pub each_seal : (a b : EndConfig) (events : List Event) (P : CipherUse → Type 0) → SealsEachFrame a b events
    → ((moment : ℕ) (x : Sent) → IsUseFor a b events moment x → P x.seal) → All P (trace_of a b events).seals
each_seal a b events P sealed each =
    let sends = sealed.0 in
    let are = sealed.1 in
    let all : All (λ x. P x.seal) sends =
    λ k default lt.
    let at = get_or are.moments k 0 in
    let count = are.count in
    each at (get_or sends k default)
    (are.uses k at (get_or sends k default) (slice_get-get_or _ k 0 (omega arith))
    (slice_get-get_or sends k default lt)) in
    subst (All P) are.seals (All-map P (λ x. x.seal) sends all)

-- ---- they open

lengths : SealedLengths
lengths = record { ciphertext = length-ciphertext; tag = length-tag }

pub sent_opens : HoldsOfSent Opens
sent_opens options key row frame =
    ap is_some (sealed_opens open_undoes_seal lengths (prepared_key key) _ _ frame)

pub seals_open : (a b : EndConfig) (events : List Event) → All Opens (trace_of a b events).seals
seals_open = seals_have Opens sent_opens

-- ---- their IVs

pub ivs_apart : (key : List ℕ) (uses : List CipherUse) → AllPairs HasOtherIv uses
    → AllPairs (λ s r. s.iv ≢ r.iv) (under key uses)
ivs_apart key uses apart = λ i j default before within.
    let under_it = under_key key uses in
    let kept = AllPairs-filter HasOtherIv (λ u. same_octets u.key key) uses apart in
    kept i j default before within (under_it i default (omega arith) ∙ sym (under_it j default within))
