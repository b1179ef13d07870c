-- What an endpoint sends at an input, and its packet number.
use Rattle.macsec_link.proofs.Seals.{sealed_from as from_new}
use Rattle.macsec_reserve.proofs.Steps.{stays_itself}
use Rattle.macsec_reserve.specs.Keeping.{key_name, may_use}
use Rattle.macsec_restarts.proofs.Names.{[], ◌<◌, ◌||◌, ◌∷◌, ◌≡◌, ◌≤◌, All, All-cons, All-nil, AllPairs, and_parts}
use Rattle.macsec_restarts.proofs.Names.{Bool, by_tests, CipherUse, client_frame, endpoint_input, EndpointLaws, false}
use Rattle.macsec_restarts.proofs.Names.{frame_fault, FrameFault, highest, if◌then◌else◌, Input, IsFrom, IsSound}
use Rattle.macsec_restarts.proofs.Names.{Keeping, keeping_step, KeepingInput, KeysStay, leb-true, List, ltb-true, map}
use Rattle.macsec_restarts.proofs.Names.{may_go, nat_le, nat_lt, newly_sent, no_pairs, None, not, now_durable}
use Rattle.macsec_restarts.proofs.Names.{one_alone, Option, refl, Rises, sealed_by, sealed_if, sending_name, sending_of}
use Rattle.macsec_restarts.proofs.Names.{sent_by, SentIn, Some, State, step, the_key, true, tx_options, TxRow, use_sent}
use Rattle.macsec_restarts.proofs.Names.{ℕ}
use Rattle.macsec_restarts.specs.Sent.{ListsEachUse}
use Rattle.macsec_secy.specs.Laws.{number_used}
use Rattle.macsec_secy.specs.Protects.{OpensAs}

-- A step of a sound endpoint: its keys stay.

-- what holds of a state, and of it after its step, holds of it after the step of the keeping endpoint
pub by_keeping : (P : State → Type 0) (k : Keeping) (input : Input) → P k.secy → P (step k.secy input).1 →
    P (keeping_step k (endpoint_input input)).1.secy
by_keeping P k input stays goes = by_both _ _
  where
    by_both : (below go : Bool) → P (by_tests below go k (step k.secy input)).1.secy
    by_both false true = goes
    by_both _ _ = stays

pub keys_stay : EndpointLaws → (k : Keeping) (input : KeepingInput) → IsSound k.secy →
    KeysStay k.secy (keeping_step k input).1.secy
keys_stay _ k (now_durable r) _ = stays_itself k.secy
keys_stay laws k (endpoint_input input) sound =
    by_keeping (KeysStay k.secy) k input (stays_itself k.secy) (laws.keys_stay k.secy input sound)

-- What an input sends: the protected frame is by a key of the endpoint, and whoever opens it gets the client frame.

pub record IsSentBy (s : State) (x : SentIn) : Type 0 where
  pub from : IsFrom s x.seal x.number
  pub opens : OpensAs x.seal x.frame

abbrev pub sent_at : State → List ℕ → TxRow → SentIn
sent_at s frame row =
    record { seal = use_sent (tx_options s) (the_key s.keys row.key) row frame; number = row.next; frame = frame }

-- what an input sends, with the client frame and the SA
pub data IsNew (k : Keeping) : KeepingInput → SentIn → Type 0 where
  is_new : (frame : List ℕ) (row : TxRow) → frame_fault frame ≡ None → (sending_of k.secy frame).by ≡ Some row →
      may_go k (client_frame frame) ≡ true → IsNew k (endpoint_input (client_frame frame)) (sent_at k.secy frame row)

pub each_new : (k : Keeping) (input : KeepingInput) → All (IsNew k input) (newly_sent k input)
each_new k (endpoint_input (client_frame frame)) =
    by_tests (may_go k (client_frame frame)) refl (frame_fault frame) refl (sending_of k.secy frame).by refl
  where
    P : SentIn → Type 0
    P = IsNew k (endpoint_input (client_frame frame))

    by_tests : (go : Bool) → may_go k (client_frame frame) ≡ go → (f : Option FrameFault) → frame_fault frame ≡ f →
        (by : Option TxRow) → (sending_of k.secy frame).by ≡ by → All P (if go then sent_by k.secy frame f by else [])
    by_tests true go None fits (Some row) sent = All-cons P _ [] (is_new frame row fits sent go) (All-nil P)
    by_tests b _ f _ _ _ = All-nil P
each_new k _ = All-nil _

sent_new : EndpointLaws → {k : Keeping} {input : KeepingInput} {x : SentIn} → IsSound k.secy → IsNew k input x →
    IsSentBy (keeping_step k input).1.secy x
sent_new laws {k} sound (is_new frame row fits sent go) =
    let it : IsSentBy (step k.secy (client_frame frame)).1 (sent_at k.secy frame row) =
    record {
      from = from_new laws k.secy frame row sound fits sent;
      opens = (laws.protects k.secy frame row sound fits sent).opens;
    } in
    rw go it

pub by_input : EndpointLaws → (k : Keeping) (input : KeepingInput) → IsSound k.secy →
    All (IsSentBy (keeping_step k input).1.secy) (newly_sent k input)
by_input laws k input sound i d within = sent_new laws sound (each_new k input i d within)

-- ---- the uses of the cipher belong to what was sent

abbrev pub seal_of_sent : SentIn → CipherUse
seal_of_sent x = x.seal

seals_by : (s : State) (frame : List ℕ) (go : Bool) (fault : Option FrameFault) (by : Option TxRow) →
    map seal_of_sent (if go then sent_by s frame fault by else []) ≡ sealed_if go (sealed_by s frame fault by)
seals_by s _ false _ _ = refl
seals_by s _ true (Some f) _ = refl
seals_by s _ true None None = refl
seals_by s _ true None (Some _) = refl

none_if : (go : Bool) → [] ≡ sealed_if go []
none_if true = refl
none_if false = refl

pub seals_of_input : (k : Keeping) (input : KeepingInput) → ListsEachUse k input
seals_of_input k (now_durable r) = refl
seals_of_input k (endpoint_input (client_frame frame)) = seals_by k.secy frame _ _ _
seals_of_input k _ = none_if _

-- ---- one frame at most

one_at_most : (s : State) (frame : List ℕ) (fault : Option FrameFault) (by : Option TxRow) (go : Bool) →
    AllPairs Rises (if go then sent_by s frame fault by else [])
one_at_most s _ _ _ false = no_pairs Rises
one_at_most s _ (Some f) _ true = no_pairs Rises
one_at_most s _ None None true = no_pairs Rises
one_at_most s _ None (Some _) true = one_alone Rises _

pub new_pairs : (k : Keeping) (input : KeepingInput) → AllPairs Rises (newly_sent k input)
new_pairs k (endpoint_input (client_frame frame)) = one_at_most k.secy frame _ _ _
new_pairs k _ = no_pairs Rises

-- ---- its number is above what earlier runs reserved, and at most what was reported to its own

pub record IsLeased (k : Keeping) (x : SentIn) : Type 0 where
  pub above : highest k.before (sending_name k.salt x.seal.key) < x.number
  pub within : x.number ≤ highest k.granted (sending_name k.salt x.seal.key)

only_one : (keeps b : Bool) → keeps ≡ true → not keeps || not (not b || false) ≡ true → b ≡ true
only_one true true _ _ = refl
only_one _ b is go = cc

may_be_used : (k : Keeping) (frame : List ℕ) (row : TxRow) → k.keeps ≡ true → frame_fault frame ≡ None →
    (sending_of k.secy frame).by ≡ Some row →
    may_go k (client_frame frame) ≡ true → may_use k (row.key, row.next) ≡ true
may_be_used k frame row keeps fits by go =
    let uses : number_used k.secy (client_frame frame) ≡ (row.key, row.next) ∷ [] = rw (fits, by) in
    only_one k.keeps _ keeps (rw uses at go)

pub leased_now : (k : Keeping) → k.keeps ≡ true → (input : KeepingInput) (x : SentIn) → IsNew k input x →
    IsLeased k x
leased_now k keeps _ _ (is_new frame row fits sent go) =
    let name = key_name k.salt k.secy.keys row.key in
    let tests = and_parts (nat_lt (highest k.before name) row.next) (nat_le row.next (highest k.granted name))
    (may_be_used k frame row keeps fits sent go) in
    record {
      above = ltb-true (highest k.before name) row.next tests.0;
      within = leb-true row.next (highest k.granted name) tests.1;
    }
