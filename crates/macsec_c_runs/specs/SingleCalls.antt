-- What single calls of the library for C do: what leaves and what is delivered is listed, deleted SAs begin above their
-- ends, and packet numbers (PNs) that were accepted or saved are not delivered again.
use Rattle.std.specs.Prelude.{◌≡◌, ◌<◌, ◌≤◌, ◌⊎◌, ℕ, List, ◌∷◌, ◌++◌, take, true, None, Some, IsSome, Contains}
use Rattle.std.specs.List.{All}
use Rattle.macsec_tag.specs.declared.identifiers.Sci.{Sci}
use Rattle.macsec_suite.specs.KeyRows.{key_row, the_key}
use Rattle.macsec_suite.specs.declared.refusal.Refusal.TheVariants.{PnFloor}
use Rattle.macsec_commands.specs.declared.command.Command.TheVariants.{RxSa}
use Rattle.macsec_commands.specs.declared.mode.Mode.TheVariants.{Strict}
use Rattle.macsec_rx.specs.declared.RxRow.{RxRow}
use Rattle.macsec_rx.specs.Channels.{rx_row}
use Rattle.macsec_secy.specs.GivenUp.{IsGivenUp}
use Rattle.macsec_secy.specs.Reception.{judgement_of}
use Rattle.macsec_secy.specs.Sound.{IsSound}
use Rattle.macsec_secy.specs.Step.{client_frame, command_output, link_frame, refused}
use Rattle.macsec_reserve.specs.Journal.{highest, receiving_name, reservations, salt_of, sending_name}
use Rattle.macsec_reserve.specs.Keeping.{endpoint_input, endpoint_output, now_durable}
use Rattle.macsec_reserve.specs.Renewing.{forgetting_refusal}
use Rattle.macsec_reserve.specs.Replay.{IsAccepted, KeepsAssociation, row_name, saved_for}
use Rattle.macsec_ahead.specs.Ahead.{Ahead, AheadOutput, ahead_step, kept, lets_through}
use Rattle.macsec_ahead.specs.Ends.{end_of, end_of_row}
use Rattle.macsec_ahead.specs.Renewing.{command_renewing}
use Rattle.macsec_restarts.specs.AheadRuns.{AreOfOneSa, MatchesDeliveriesWith, newly_accepted, newly_delivered_with}
use Rattle.macsec_restarts.specs.Delivered.{Delivery}
use Rattle.macsec_restarts.specs.RenewingLists.{MatchesUsesWith}
use Rattle.macsec_restarts.specs.StrictLists.{IsFromSaWith}
use Rattle.macsec_c_calls.specs.GivenUp.{Call, after_call, after_calls, client, command, durable, link, renewal}
use Rattle.macsec_c_runs.specs.Runs.{CallRun, IsRun, input_of, opening, reported}
use Rattle.macsec_c_runs.specs.TwoEnds.{closing}

-- ---- what leaves and what is delivered

-- the answer of the endpoint to a call
abbrev pub answer_to : Ahead → Call → AheadOutput
answer_to e (command c) = (command_renewing e c).0
answer_to e (renewal key) = kept (endpoint_output (command_output (forgetting_refusal e.k key)))
answer_to e (client frame) = (ahead_step e (endpoint_input (client_frame frame))).0
answer_to e (link frame) = (ahead_step e (endpoint_input (link_frame frame))).0
answer_to e (durable r) = (ahead_step e (now_durable r)).0

-- a call adds to the list of deliveries what comes out from a receive SA
abbrev pub DeliversEachListed : Ahead → Call → Type 0
DeliversEachListed e call = MatchesDeliveriesWith e (input_of call) (answer_to e call)

-- in the mode Strict only SAs deliver at the controlled port, so the list has all that is delivered
abbrev pub DeliversFromSas : Ahead → Call → Type 0
DeliversFromSas e call = e.k.secy.options.mode ≡ Strict → IsFromSaWith (answer_to e call)

-- a protected frame that leaves is one use of the cipher, and nothing else is sealed
abbrev pub SealsEachFrame : Ahead → Call → Type 0
SealsEachFrame e call = MatchesUsesWith e (input_of call) (answer_to e call)

-- ---- SAs that are deleted

-- a call deletes this SA
pub record IsDeletedBy (e : Ahead) (call : Call) (row : RxRow) : Type 0 where
  pub there : rx_row e.k.secy.rx.rows row.sci row.an ≡ Some row
  pub gone : rx_row (after_call e call).k.secy.rx.rows row.sci row.an ≡ None

-- then its end is remembered, beside a journal
abbrev pub RemembersEnd : Ahead → Call → RxRow → Type 0
RemembersEnd e call row =
    e.k.keeps ≡ true → IsDeletedBy e call row → end_of_row row ≤ end_of (after_call e call).ended row.key row.sci row.an

-- at some moment of these calls the key of this number is given up: it is retired, and no SA uses it. From then on a
-- renewal may take the number
pub record IsGivenUpIn (e : Ahead) (calls : List Call) (key : ℕ) : Type 0 where
  pub moment : ℕ
  pub given_up : IsGivenUp (after_calls e (take moment calls)).k.secy key

-- the end of an SA under a key is remembered for the rest of the run, or until the key is given up
abbrev pub KeepsEnds : Ahead → List Call → ℕ → Sci → ℕ → Type 0
KeepsEnds e calls key sci an =
    IsSome (key_row e.k.secy.keys key) →
    IsGivenUpIn e calls key ⊎ (end_of e.ended key sci an ≤ end_of (after_calls e calls).ended key sci an)

-- the SA is not created under the key at its end or below it, and nothing changes
abbrev pub RefusesBelowEnd : Ahead → Sci → ℕ → ℕ → ℕ → ℕ → Type 0
RefusesBelowEnd e sci an key ssci lowest =
    0 < lowest → lowest ≤ end_of e.ended key sci an →
    command_renewing e (RxSa sci an key ssci lowest) ≡ (kept (endpoint_output (refused PnFloor)), e)

-- so an SA that is deleted is not created again under its key at its end or below it, unless the key is given up
abbrev pub BeginsAboveItsEnd : Ahead → Call → List Call → RxRow → ℕ → ℕ → Type 0
BeginsAboveItsEnd e call calls row ssci lowest =
    let after = after_calls e (call ∷ calls) in
    IsSound e.k.secy → e.k.keeps ≡ true → IsDeletedBy e call row → 0 < lowest → lowest ≤ end_of_row row →
    IsGivenUpIn e (call ∷ calls) row.key ⊎
    (command_renewing after (RxSa row.sci row.an row.key ssci lowest) ≡
    (kept (endpoint_output (refused PnFloor)), after))

-- ---- once, within one run

-- a run accepts a frame. After more calls, of any kind, it delivers a frame on the same SA, valid or not, while replay
-- protection is on and the replay window is 0. The later frame has the higher packet number, if the window was 0 at the
-- earlier frame too, or no call between them deletes the SA
abbrev pub DeliversAboveAccepted : CallRun → List Call → Call → List Call → Call → List Call → Type 0
DeliversAboveAccepted r before call between last more =
    let first = after_calls (opening r) before in
    let now = after_calls first (call ∷ between) in
    IsRun r → r.calls ≡ before ++ call ∷ (between ++ last ∷ more) →
    now.k.secy.options.replay ≡ true → now.k.secy.options.window ≡ 0 → (d e : Delivery) →
    Contains (newly_accepted first (input_of call)) d → Contains (newly_delivered_with now (input_of last)) e →
    AreOfOneSa d e →
    (first.k.secy.options.window ≡ 0) ⊎ All (λ c. KeepsAssociation d.sci d.an (input_of c)) between →
    d.number < e.number

-- ---- PNs that are saved

-- a run accepted a frame with this PN. Later in the run, before the SA was deleted and while the replay window was 0,
-- what is to be saved of the SA was read, under this name, and it became durable
pub record HasSaved (r : CallRun) (name : List ℕ) (n : ℕ) : Type 0 where
  pub before : List Call
  pub frame : List ℕ
  pub then_on : List Call
  pub more : List Call
  pub calls_are : r.calls ≡ before ++ link frame ∷ (then_on ++ more)
  pub first : Ahead
  pub first_is : first ≡ after_calls (opening r) before
  pub from : RxRow
  pub accepted : IsAccepted first.k.secy frame from
  pub passes : lets_through first (input_of (link frame)) ≡ true
  pub number : (judgement_of first.k.secy frame).number ≡ n
  pub keeps : All (λ call. KeepsAssociation from.sci from.an (input_of call)) then_on
  pub last : Ahead
  pub last_is : last ≡ after_calls (after_call first (link frame)) then_on
  pub window : last.k.secy.options.window ≡ 0
  pub row : RxRow
  pub there : rx_row last.k.secy.rx.rows from.sci from.an ≡ Some row
  pub name_is : row_name last.k.salt last.k.secy row ≡ name
  pub became_durable : Contains (reported r.calls) (saved_for last.k.salt last.k.secy row)

-- then no later run that drops late frames delivers a frame with that PN, or a lower one, from an SA of that name, if
-- it read what was reported durable under the name
abbrev pub NeverDeliversAgain : CallRun → CallRun → List ℕ → ℕ → Type 0
NeverDeliversAgain r later name n =
    IsRun r → IsRun later → HasSaved r name n →
    highest (reported r.calls) name ≤ highest (reservations later.journal) name →
    (frame : List ℕ) (row : RxRow) (delivered : List ℕ) →
    let s = (closing later).k.secy in let j = judgement_of s frame in
    s.options.replay ≡ true → j.row ≡ Some row → j.delivered ≡ Some delivered →
    row_name (salt_of later.journal) s row ≡ name → n < j.number

-- the same for key octets, an SCI and an SA's number, if the journal keeps its salt
abbrev pub NeverDeliversAgainUnder : CallRun → CallRun → List ℕ → Sci → ℕ → ℕ → Type 0
NeverDeliversAgainUnder r later bytes sci an n =
    let name = receiving_name (sending_name (salt_of r.journal) bytes) sci an in
    IsRun r → IsRun later → HasSaved r name n → salt_of later.journal ≡ salt_of r.journal →
    highest (reported r.calls) name ≤ highest (reservations later.journal) name →
    (frame : List ℕ) (row : RxRow) (delivered : List ℕ) →
    let s = (closing later).k.secy in let j = judgement_of s frame in
    s.options.replay ≡ true → j.row ≡ Some row → j.delivered ≡ Some delivered →
    (the_key s.keys row.key).bytes ≡ bytes → row.sci ≡ sci → row.an ≡ an → n < j.number
