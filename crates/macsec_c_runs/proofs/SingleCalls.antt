-- Single calls: what leaves and what is delivered is listed, and where deleted SAs ended is remembered. A command that
-- installs a key does none of this; every other call is a step of an endpoint in which each key is a renewal.
use Rattle.std.proofs.Common.{◌≡◌, ◌∙◌, ◌∷◌, ◌⊎◌, ◌≤◌, ◌&&◌, ◌||◌, ℕ, zero, suc, List, [], Bool, true, false, not}
use Rattle.std.proofs.Common.{Option}
use Rattle.std.proofs.Common.{Some, None, refl, ap, sym, subst, inl, inr, arith, if◌then◌else◌, take, unwrap_or}
use Rattle.std.proofs.Common.{IsSome}
use Rattle.std.proofs.lemmas.List.Elements.{All-contains}
use Rattle.macsec_tag.specs.declared.identifiers.Sci.{Sci}
use Rattle.macsec_suite.specs.KeyRows.{key_row}
use Rattle.macsec_suite.specs.declared.key_row.NewKey.{NewKey}
use Rattle.macsec_suite.specs.declared.refusal.Refusal.{Refusal}
use Rattle.macsec_suite.specs.declared.refusal.Refusal.TheVariants.{KeyRepeated, PnFloor}
use Rattle.macsec_commands.specs.declared.command.Command.TheVariants.{Key, RxSa}
use Rattle.macsec_rx.specs.Channels.{Channels, is_at, rx_row}
use Rattle.macsec_rx.specs.declared.RxRow.{RxRow}
use Rattle.macsec_secy.specs.Commands.{refusal}
use Rattle.macsec_secy.specs.GivenUp.{IsGivenUp}
use Rattle.macsec_secy.specs.Sound.{IsSound}
use Rattle.macsec_secy.specs.State.{State}
use Rattle.macsec_secy.specs.Step.{command_output, operator_command, refused, step}
use Rattle.macsec_reserve.proofs.Steps.{by_tests}
use Rattle.macsec_reserve.specs.Forgetting.{as_taken}
use Rattle.macsec_reserve.specs.Histories.{sealed_if}
use Rattle.macsec_reserve.specs.Keeping.{KeepingInput, endpoint_output, may_go}
use Rattle.macsec_ahead.specs.Ahead.{Ahead, AheadOutput, kept}
use Rattle.macsec_ahead.specs.Ends.{end_of, end_of_row}
use Rattle.macsec_ahead.specs.Renewing.{command_renewing, installs_given_up, unless_given_up}
use Rattle.macsec_link.proofs.Members.{IsMember, contained}
use Rattle.macsec_restarts.specs.AheadRuns.{MatchesDeliveriesWith}
use Rattle.macsec_restarts.specs.RenewingEnds.{IsGivenUpIn as RenewingGivenUpIn, KeepsEndsRenewing}
use Rattle.macsec_restarts.specs.RenewingEnds.{RefusesBelowEndRenewing, RemembersEndRenewing}
use Rattle.macsec_restarts.specs.RenewingLists.{DeliversEachListedRenewing, DeliversFromSasRenewing, MatchesUsesWith}
use Rattle.macsec_restarts.specs.RenewingLists.{SealsEachFrameRenewing}
use Rattle.macsec_restarts.specs.RenewingRuns.{ahead_renewing_after, ahead_renewing_step}
use Rattle.macsec_restarts.specs.StrictLists.{IsFromSaWith}
use Rattle.macsec_c_calls.specs.GivenUp.{Call, after_call, after_calls, command}
use Rattle.macsec_c_runs.proofs.AsRenewals.{call_is}
use Rattle.macsec_c_runs.proofs.Calls.{key_keeps}
use Rattle.macsec_c_runs.proofs.EndTables.{there_step}
use Rattle.macsec_c_runs.specs.Runs.{input_of}
use Rattle.macsec_c_runs.specs.SingleCalls.{BeginsAboveItsEnd, DeliversEachListed, DeliversFromSas}
use Rattle.macsec_c_runs.specs.SingleCalls.{IsGivenUpIn, KeepsEnds, RefusesBelowEnd, RemembersEnd, SealsEachFrame}
use Rattle.macsec_c_runs.specs.SingleCalls.{answer_to}

-- ---- what leaves and what is delivered

-- the answer to a command that installs a key is that of a command
key_answer : (e : Ahead) (key : NewKey) →
    (r : Option Refusal) × ((command_renewing e (Key key)).0 ≡ kept (endpoint_output (command_output r)))
key_answer e key = by_given (installs_given_up e (Key key))
  where
    taken : NewKey
    taken = as_taken e.k key

    own : Option Refusal
    own = refusal e.k.secy (Key taken)

    by_keeps : (b : Bool) →
        (by_tests (b && false) (not b || true) e.k (step e.k.secy (operator_command (Key taken)))).0 ≡
        endpoint_output (command_output own)
    by_keeps true = refl
    by_keeps false = refl

    by_given : (b : Bool) →
        (r : Option Refusal) × ((unless_given_up b e (Key key)).0 ≡ kept (endpoint_output (command_output r)))
    by_given true = (Some KeyRepeated, refl)
    by_given false = (own, ap kept (by_keeps e.k.keeps))

by_answer : (P : AheadOutput → Type 0) → ((r : Option Refusal) → P (kept (endpoint_output (command_output r)))) →
    (e : Ahead) (key : NewKey) → P (answer_to e (command (Key key)))
by_answer P each e key = let it = key_answer e key in subst P (sym it.1) (each it.0)

pub delivers_each_listed : ((a : Ahead) (input : KeepingInput) → DeliversEachListedRenewing a input) → (e : Ahead)
    (call : Call) → DeliversEachListed e call
delivers_each_listed law e (command (Key key)) =
    by_answer (MatchesDeliveriesWith e (input_of (command (Key key)))) by_refusal e key
  where
    by_refusal : (r : Option Refusal) →
        MatchesDeliveriesWith e (input_of (command (Key key))) (kept (endpoint_output (command_output r)))
    by_refusal None = refl
    by_refusal (Some r) = refl
delivers_each_listed law e call = law e (input_of call)

pub delivers_from_sas : ((a : Ahead) (input : KeepingInput) → DeliversFromSasRenewing a input) → (e : Ahead)
    (call : Call) → DeliversFromSas e call
delivers_from_sas law e (command (Key key)) = λ strict. by_answer IsFromSaWith by_refusal e key
  where
    by_refusal : (r : Option Refusal) → IsFromSaWith (kept (endpoint_output (command_output r)))
    by_refusal None = tt
    by_refusal (Some r) = tt
delivers_from_sas law e call = law e (input_of call)

pub seals_each_frame : ((a : Ahead) (input : KeepingInput) → SealsEachFrameRenewing a input) → (e : Ahead)
    (call : Call) → SealsEachFrame e call
seals_each_frame law e (command (Key key)) =
    by_answer (MatchesUsesWith e (input_of (command (Key key)))) by_refusal e key
  where
    none : (go : Bool) → sealed_if go [] ≡ []
    none true = refl
    none false = refl

    by_refusal : (r : Option Refusal) →
        MatchesUsesWith e (input_of (command (Key key))) (kept (endpoint_output (command_output r)))
    by_refusal None = none (may_go e.k (operator_command (Key key)))
    by_refusal (Some r) = none (may_go e.k (operator_command (Key key)))
seals_each_frame law e call = law e (input_of call)

-- ---- SAs that are deleted

-- a command that installs a key, or a step of an endpoint in which each key is a renewal
data Kind : Call → Type 0 where
  installs_key : (key : NewKey) → Kind (command (Key key))
  is_step : {call : Call} → ((e : Ahead) → after_call e call ≡ (ahead_renewing_step e (input_of call)).1) → Kind call

kind_of : (call : Call) → Kind call
kind_of (command (Key key)) = installs_key key
kind_of call = is_step (λ e. refl)

pub remembers_end : ((a : Ahead) (input : KeepingInput) (row : RxRow) → RemembersEndRenewing a input row) → (e : Ahead)
    (call : Call) (row : RxRow) → RemembersEnd e call row
remembers_end law e call row = by_kind call (kind_of call)
  where
    by_kind : (c : Call) → Kind c → RemembersEnd e c row
    by_kind _ (installs_key key) = λ keeps deleted.
        let no : None ≡ Some row = sym deleted.gone
        ∙ ap (λ (x : Channels). rx_row x.rows row.sci row.an) (key_keeps e key).rx ∙ deleted.there in cc
    by_kind c (is_step same) = λ keeps deleted.
        subst (λ (after : Ahead). end_of_row row ≤ end_of after.ended row.key row.sci row.an) (sym (same e))
        (law e (input_of c) row keeps (record {
          there = deleted.there;
          gone = subst (λ (after : Ahead). rx_row after.k.secy.rx.rows row.sci row.an ≡ None) (same e) deleted.gone;
        }))

module _ (law : (a : Ahead) (inputs : List KeepingInput) (key : ℕ) (sci : Sci) (an : ℕ) →
    KeepsEndsRenewing a inputs key sci an) (key : ℕ) (sci : Sci) (an : ℕ) where
  -- the key is given up before the call or after it, or the table says no less of the SA
  abbrev StaysUnless : Ahead → Ahead → Type 0
  StaysUnless e after =
      IsGivenUp e.k.secy key
      ⊎ (IsGivenUp after.k.secy key ⊎ (end_of e.ended key sci an ≤ end_of after.ended key sci an))

  by_law : (e : Ahead) (input : KeepingInput) → IsSome (key_row e.k.secy.keys key) →
      StaysUnless e (ahead_renewing_step e input).1
  by_law e input there = by_case (law e (input ∷ []) key sci an there)
    where
      after : Ahead
      after = (ahead_renewing_step e input).1

      by_moment : (m : ℕ) → IsGivenUp (ahead_renewing_after e (take m (input ∷ []))).k.secy key → StaysUnless e after
      by_moment zero up = inl up
      by_moment (suc zero) up = inr (inl up)
      by_moment (suc (suc m)) up = inr (inl up)

      by_case : RenewingGivenUpIn e (input ∷ []) key ⊎ (end_of e.ended key sci an ≤ end_of after.ended key sci an) →
          StaysUnless e after
      by_case (inl it) = by_moment it.moment it.given_up
      by_case (inr more) = inr (inr more)

  stays_unless : (e : Ahead) (call : Call) → IsSome (key_row e.k.secy.keys key) → StaysUnless e (after_call e call)
  stays_unless e call there = by_kind call (kind_of call)
    where
      by_kind : (c : Call) → Kind c → StaysUnless e (after_call e c)
      by_kind _ (installs_key new) =
          let same = ap (λ t. end_of t key sci an) (key_keeps e new).ended in inr (inr (omega (arith, same)))
      by_kind c (is_step same) = subst (StaysUnless e) (sym (same e)) (by_law e (input_of c) there)

  later : (e : Ahead) (call : Call) (calls : List Call) → IsGivenUpIn (after_call e call) calls key →
      IsGivenUpIn e (call ∷ calls) key
  later e call calls it = record { moment = suc it.moment; given_up = it.given_up }

  pub keeps_ends : (calls : List Call) (e : Ahead) → KeepsEnds e calls key sci an
  keeps_ends [] e there = inr (omega arith)
  keeps_ends (call ∷ calls) e there = by_step (stays_unless e call there)
      (keeps_ends calls next (there_step e next (call_is e call) key there))
    where
      next : Ahead
      next = after_call e call

      Goal : Type 0
      Goal = IsGivenUpIn e (call ∷ calls) key
          ⊎ (end_of e.ended key sci an ≤ end_of (after_calls next calls).ended key sci an)

      by_step : StaysUnless e next → IsGivenUpIn next calls key
          ⊎ (end_of next.ended key sci an ≤ end_of (after_calls next calls).ended key sci an) → Goal
      by_step (inl up) rest = inl (record { moment = 0; given_up = up })
      by_step (inr (inl up)) rest = inl (record { moment = 1; given_up = up })
      by_step (inr (inr grows)) (inl it) = inl (later e call calls it)
      by_step (inr (inr grows)) (inr more) = inr (omega (arith, grows, more))

pub refuses_below_end : ((a : Ahead) (sci : Sci) (an key ssci lowest : ℕ) →
    RefusesBelowEndRenewing a sci an key ssci lowest) → (e : Ahead) (sci : Sci) (an key ssci lowest : ℕ) →
    RefusesBelowEnd e sci an key ssci lowest
refuses_below_end law e sci an key ssci lowest = law e sci an key ssci lowest

-- the key of each SA is in the table
found : (sci : Sci) (an : ℕ) (rows : List RxRow) (row : RxRow) → rx_row rows sci an ≡ Some row → IsMember rows row
found sci an [] row is = cc
found sci an (r ∷ rows) row is = by_test (is_at sci an r) (found sci an rows row) is
  where
    by_test : (b : Bool) → (rx_row rows sci an ≡ Some row → IsMember rows row) →
        (if b then Some r else rx_row rows sci an) ≡ Some row → IsMember (r ∷ rows) row
    by_test true later is' = inl (ap (λ o. unwrap_or o r) is')
    by_test false later is' = inr (later is')

row_key : (s : State) → IsSound s → (sci : Sci) (an : ℕ) (row : RxRow) → rx_row s.rx.rows sci an ≡ Some row →
    IsSome (key_row s.keys row.key)
row_key s sound sci an row there = All-contains (λ r. IsSome (key_row s.keys r.key)) s.rx.rows row sound.rx_keys
    (contained s.rx.rows row (found sci an s.rx.rows row there))

pub begins_above_its_end : ((a : Ahead) (input : KeepingInput) (row : RxRow) → RemembersEndRenewing a input row) →
    ((a : Ahead) (inputs : List KeepingInput) (key : ℕ) (sci : Sci) (an : ℕ) → KeepsEndsRenewing a inputs key sci an) →
    ((a : Ahead) (sci : Sci) (an key ssci lowest : ℕ) → RefusesBelowEndRenewing a sci an key ssci lowest) →
    (e : Ahead) (call : Call) (calls : List Call) (row : RxRow) (ssci lowest : ℕ) →
    BeginsAboveItsEnd e call calls row ssci lowest
begins_above_its_end remembers keeps refuses e call calls row ssci lowest sound journal deleted least below =
    by_case (keeps_ends keeps row.key row.sci row.an calls next there)
  where
    next : Ahead
    next = after_call e call

    last : Ahead
    last = after_calls next calls

    there : IsSome (key_row next.k.secy.keys row.key)
    there = there_step e next (call_is e call) row.key (row_key e.k.secy sound row.sci row.an row deleted.there)

    Refuses : Type 0
    Refuses = command_renewing last (RxSa row.sci row.an row.key ssci lowest) ≡
        (kept (endpoint_output (refused PnFloor)), last)

    by_case : IsGivenUpIn next calls row.key ⊎ (end_of next.ended row.key row.sci row.an ≤
        end_of last.ended row.key row.sci row.an) → IsGivenUpIn e (call ∷ calls) row.key ⊎ Refuses
    by_case (inl it) = inl (record { moment = suc it.moment; given_up = it.given_up })
    by_case (inr more) = inr (refuses last row.sci row.an row.key ssci lowest least
        (omega (arith, below, more, remembers_end remembers e call row journal deleted)))
