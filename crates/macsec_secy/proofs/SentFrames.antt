-- What an endpoint returns for a client frame, and what holds of its tables afterwards.
use Rattle.macsec_tx.specs.{
  Answers.{IfJob, PlansLeaving},
  declared.TxPlan.{TxPlan, TheVariants.{Plain, Job, NoSa, TooLong}},
}
use Rattle.macsec_secy.proofs.{
  Names.{◌+◌, ◌≡◌, AreKeyRows, AreTxRows, Bool, client_frame, false, frame_fault, FrameFault, if◌then◌else◌},
  Names.{InstalledKey, IsSound, keys_after, last_of, Leaving, length, List, nat_lt, no_sa, None, not_protected},
  Names.{octets_added, Option, plain, protected, refl, row_on, rows_after, Sending, sending, sending_by, sending_of},
  Names.{sent_output, Some, State, state_after_sending, step, subst, sym, tag_sent, the_key, too_long, true},
  Names.{tx_options, TxOptions, TxRow, unless_fault, ℕ},
  StaysSound.{TablesHold, after_client_frame},
}

-- ---- a frame that is sent unprotected, or dropped: no SA protects it

abbrev IsProtected : Leaving → Type 0
IsProtected plain = ⊥
IsProtected (protected key frame) = Unit {0}
IsProtected no_sa = ⊥
IsProtected too_long = ⊥

abbrev NeedsNone : Sending → Type 0
NeedsNone sent = (IsProtected sent.leaving → ⊥) → sent.by ≡ None

unless : (b : Bool) (leaving : Leaving) (sent : Sending) → NeedsNone sent → NeedsNone (if b then not_protected leaving else sent)
unless true leaving sent needs = λ h. refl
unless false leaving sent needs = needs

by_one : (options : TxOptions) (keys : List InstalledKey) (frame : List ℕ) (on : Option TxRow) → NeedsNone (sending_by options keys frame on)
by_one options keys frame None = λ h. refl
by_one options keys frame (Some row) =
    unless (nat_lt (last_of (the_key keys row.key).suite) row.next) no_sa _
    (unless (nat_lt options.max_frame (length frame + octets_added (tag_sent options row frame))) too_long _ (λ h. absurd (h tt)))

by_none : (options : TxOptions) (keys : List InstalledKey) (rows : List TxRow) (frame : List ℕ) → NeedsNone (sending options keys rows frame)
by_none options keys rows frame = by_test options.protect
  where
    by_test : (b : Bool) →
        NeedsNone (if b then sending_by options keys frame (row_on rows) else not_protected (if nat_lt options.max_frame (length frame) then too_long else plain))
    by_test true = by_one options keys frame (row_on rows)
    by_test false = λ h. refl

-- ---- the tables

-- what holds of the tables after a frame, protected or not
record TablesAfter (s : State) (by : Option TxRow) : Type 0 where
  keys : AreKeyRows (keys_after s.keys by)
  tx : AreTxRows (rows_after s.tx by)

as_before : (s : State) (sent : Sending) → NeedsNone sent → IsSound s → (leaving : Leaving) → sent.leaving ≡ leaving → (IsProtected leaving → ⊥) → TablesAfter s sent.by
as_before s sent needs sound leaving same unprotected =
    let none : sent.by ≡ None = needs (subst (λ l. IsProtected l → ⊥) (sym same) unprotected) in
    subst (TablesAfter s) (sym none) (record { keys = sound.keys; tx = sound.tx })

by_plan : (s : State) (sent : Sending) → NeedsNone sent → IsSound s → (plan : TxPlan) (keys : List InstalledKey) (frame : List ℕ) → PlansLeaving plan keys frame sent.leaving →
    IfJob plan (λ job. AreTxRows (rows_after s.tx sent.by)) → IfJob plan (λ job. AreKeyRows (keys_after s.keys sent.by)) → TablesAfter s sent.by
by_plan s sent needs sound Plain after frame plans tx keys = as_before s sent needs sound plain plans (λ h. h)
by_plan s sent needs sound (Job job) after frame plans tx keys = record { keys = keys; tx = tx }
by_plan s sent needs sound NoSa after frame plans tx keys = as_before s sent needs sound no_sa plans (λ h. h)
by_plan s sent needs sound TooLong after frame plans tx keys = as_before s sent needs sound too_long plans (λ h. h)

tables_after : (s : State) (frame : List ℕ) → IsSound s → TablesAfter s (sending_of s frame).by → TablesHold (step s (client_frame frame)).1
tables_after s frame sound hold = by_fault (frame_fault frame)
  where
    by_fault : (fault : Option FrameFault) → TablesHold (unless_fault fault s (sent_output frame (sending_of s frame).leaving, state_after_sending s frame (sending_of s frame))).1
    by_fault None = record { keys = hold.keys; tx = hold.tx; rx = sound.rx }
    by_fault (Some f) = record { keys = sound.keys; tx = sound.tx; rx = sound.rx }

-- the machine's state after a frame, given the transmit SC's plan
pub sound_after : (before now : State) (frame : List ℕ) → before ≡ now → IsSound before → (options : TxOptions) → options ≡ tx_options before →
    (plan : TxPlan) (rows : List TxRow) (keys : List InstalledKey) → PlansLeaving plan keys frame (sending options before.keys before.tx frame).leaving →
    rows ≡ rows_after before.tx (sending options before.keys before.tx frame).by → keys ≡ keys_after before.keys (sending options before.keys before.tx frame).by →
    IfJob plan (λ job. AreTxRows rows) → IfJob plan (λ job. AreKeyRows keys) → IsSound (step now (client_frame frame)).1
sound_after before now frame same sound options o plan rows keys plans r k are_rows are_keys =
    let hold = by_plan before (sending options before.keys before.tx frame) (by_none options before.keys before.tx frame) sound plan keys frame plans
    (subst (λ x. IfJob plan (λ job. AreTxRows x)) r are_rows) (subst (λ x. IfJob plan (λ job. AreKeyRows x)) k are_keys) in
    subst (λ s. IsSound (step s (client_frame frame)).1) same
    (after_client_frame before frame (tables_after before frame sound (subst (λ p. TablesAfter before (sending p before.keys before.tx frame).by) o hold)) sound)
