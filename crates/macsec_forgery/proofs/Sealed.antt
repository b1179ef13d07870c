-- All that two ends seal in their runs: what holds of each sending holds of it. So it opens.
use Rattle.{
  std.proofs.{
    Common.{◌≡◌, ℕ, suc, List, [], ◌∷◌, map, take, Bool, true, false, Option, Some, None, All, refl, arith},
    Common.if◌then◌else◌,
    lemmas.List.Elements.{All-append, All-cons, All-map, All-nil},
  },
  macsec_suite.specs.{CipherUses.CipherUse, KeyRows.the_key},
  macsec_tx.specs.{Transmit.use_sent, declared.TxRow.TxRow},
  macsec_secy.specs.{
    State.{State, tx_options},
    Step.{client_frame, frame_fault, sending_of},
    declared.fault.FrameFault.FrameFault,
  },
  macsec_reserve.specs.Keeping.{Keeping, KeepingInput, endpoint_input, may_go},
  macsec_ahead.specs.Ahead.Ahead,
  macsec_restarts.specs.{
    Kept.RunWith,
    RenewingRuns.{ahead_renewing_after, ahead_renewing_step, opening_of, sent_by_all, sent_by_run, sent_from_renewing},
    Sent.{SentIn, newly_sent, sent_by},
    Used.seal_of,
  },
  macsec_hash_keys.specs.Forgeries.Opens,
  macsec_link.proofs.SealedUses.sent_opens,
  macsec_forgery.specs.{Histories.AtEachState, Restarts.sealed_by_both},
}

-- P holds of each use that seals a client frame of some kind in a state of some kind
abbrev pub HoldsOfSent : (CipherUse → Type 0) → (State → Type 0) → (KeepingInput → Type 0) → Type 0
HoldsOfSent P Q Taken = (s : State) (row : TxRow) (frame : List ℕ) → Q s → Taken (endpoint_input (client_frame frame))
    → frame_fault frame ≡ None → (sending_of s frame).by ≡ Some row
    → P (use_sent (tx_options s) (the_key s.keys row.key) row frame)

module _ (P : CipherUse → Type 0) (Q : State → Type 0) (Taken : KeepingInput → Type 0)
    (sent : HoldsOfSent P Q Taken) where
  abbrev Has : SentIn → Type 0
  Has x = P x.seal

  frame_has : (s : State) (frame : List ℕ) (fault : Option FrameFault) (by : Option TxRow) → Q s
      → Taken (endpoint_input (client_frame frame)) → frame_fault frame ≡ fault → (sending_of s frame).by ≡ by
      → All Has (sent_by s frame fault by)
  frame_has s frame None (Some row) now taken is by =
      All-cons Has _ [] (sent s row frame now taken is by) (All-nil Has)
  frame_has s frame fault by now taken is e = All-nil Has

  newly_has : (k : Keeping) (input : KeepingInput) → Q k.secy → Taken input → All Has (newly_sent k input)
  newly_has k (endpoint_input (client_frame frame)) now taken = by_test (may_go k (client_frame frame))
    where
      by_test : (b : Bool)
          → All Has (if b then sent_by k.secy frame (frame_fault frame) (sending_of k.secy frame).by else [])
      by_test true = frame_has k.secy frame _ _ now taken refl refl
      by_test false = All-nil Has
  newly_has k other now taken = All-nil Has

  from_has : (a : Ahead) (inputs : List KeepingInput)
      → ((n : ℕ) → Q (ahead_renewing_after a (take n inputs)).k.secy) → All Taken inputs
      → All Has (sent_from_renewing a inputs)
  from_has a [] each taken = All-nil Has
  from_has a (input ∷ inputs) each taken =
      All-append Has (newly_sent a.k input) (sent_from_renewing (ahead_renewing_step a input).1 inputs)
      (newly_has a.k input (each 0) (taken 0 input (omega arith)))
      (from_has (ahead_renewing_step a input).1 inputs (λ n. each (suc n))
      (λ i default lt. taken (suc i) default (omega arith)))

  all_have : (rs : List RunWith) → All (AtEachState Q) rs → All (λ (r : RunWith). All Taken r.run.inputs) rs
      → All Has (sent_by_all rs)
  all_have [] each taken = All-nil Has
  all_have (r ∷ rs) each taken =
      All-append Has (sent_by_run r) (sent_by_all rs)
      (from_has (opening_of r) r.run.inputs (each 0 r (omega arith)) (taken 0 r (omega arith)))
      (all_have rs (λ i default lt. each (suc i) default (omega arith))
      (λ i default lt. taken (suc i) default (omega arith)))

  pub runs_have : (rs : List RunWith) → All (AtEachState Q) rs → All (λ (r : RunWith). All Taken r.run.inputs) rs
      → All P (map seal_of (sent_by_all rs))
  runs_have rs each taken = All-map P seal_of (sent_by_all rs) (all_have rs each taken)

runs_open : (rs : List RunWith) → All Opens (map seal_of (sent_by_all rs))
runs_open rs =
    runs_have Opens (λ s. Unit {0}) (λ input. Unit {0})
    (λ s row frame now taken is by. sent_opens (tx_options s) (the_key s.keys row.key) row frame) rs
    (λ i default lt n. tt) (λ i default lt j d within. tt)

pub both_open : (ra rb : List RunWith) → All Opens (sealed_by_both ra rb)
both_open ra rb =
    All-append Opens (map seal_of (sent_by_all ra)) (map seal_of (sent_by_all rb)) (runs_open ra) (runs_open rb)
