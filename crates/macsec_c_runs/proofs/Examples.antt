-- Two runs of calls beside one journal that meet all premises of the laws on what is sent. Both install the same key,
-- the first by a command and the second as a renewal. Each begins an SA, and sends a frame for integrity only: with
-- packet number 1, then with 2. The cipher is not computed.
use Rattle.std.proofs.Common.{◌≡◌, ◌∙◌, ◌++◌, ◌∷◌, ◌<◌, ℕ, zero, suc, List, [], Bool, true, false}
use Rattle.std.proofs.Common.{refl, ap, sym, subst, if◌then◌else◌, arith, All, AllPairs, map}
use Rattle.std.proofs.Common.{max, take}
use Rattle.std.proofs.lemmas.List.Elements.{All-cons, All-contains, All-nil}
use Rattle.std.proofs.lemmas.List.Kept.{AllPairs-cons}
use Rattle.sha2.proofs.Facts256.{length-sha256}
use Rattle.macsec_suite.specs.KeyRows.{InstalledKey}
use Rattle.macsec_suite.specs.declared.key_row.NewKey.{NewKey}
use Rattle.macsec_suite.specs.declared.suite.Suite.TheVariants.{Gcm128}
use Rattle.macsec_commands.specs.declared.command.Command.TheVariants.{Key, TxOn, TxSa}
use Rattle.macsec_tx.specs.Transmit.{use_sent}
use Rattle.macsec_secy.specs.Sound.{IsSound}
use Rattle.macsec_secy.specs.State.{State, start, tx_options}
use Rattle.macsec_secy.specs.Step.{client_frame, step}
use Rattle.macsec_reserve.specs.declared.reservation.Reservation.{Reservation}
use Rattle.macsec_reserve.proofs.Pairs.{one_alone}
use Rattle.macsec_reserve.proofs.Reduced.{reduced_reserves}
use Rattle.macsec_reserve.specs.Crashes.{IsReservation}
use Rattle.macsec_reserve.specs.Journal.{highest, reservations, sending_name}
use Rattle.macsec_reserve.specs.Keeping.{Keeping, may_go}
use Rattle.macsec_reserve.specs.Entries.{reduced}
use Rattle.macsec_ahead.specs.Ahead.{Ahead}
use Rattle.macsec_ahead.specs.Ends.{no_ends}
use Rattle.macsec_restarts.proofs.RenewingAhead.{is_weaker_with}
use Rattle.macsec_restarts.specs.Sent.{SentIn, newly_sent}
use Rattle.macsec_counterexamples.proofs.Link.WorkedEnds.{bytes, client as frame, gcm_a, installed_key, new_key}
use Rattle.macsec_counterexamples.proofs.Link.WorkedEnds.{no_salt}
use Rattle.macsec_counterexamples.proofs.Restarts.Goes.{carried_step, frame_step, is_new, is_within, may_send}
use Rattle.macsec_counterexamples.proofs.Restarts.Goes.{raised_alone}
use Rattle.macsec_counterexamples.proofs.Restarts.Journals.{journal, salt, salt_is, says}
use Rattle.macsec_counterexamples.proofs.Restarts.Senders.{kept, row_at}
use Rattle.macsec_counterexamples.proofs.Restarts.Tables.{begins_sound, commands_sound, sent_sound}
use Rattle.macsec_c_calls.specs.GivenUp.{Call, after_call, after_calls, client, command, durable, renewal}
use Rattle.macsec_c_runs.proofs.OverRuns.{is_weaker}
use Rattle.macsec_c_runs.specs.Runs.{AgreeOnKeys, CallRun, IsRun, KeepsUsed, input_of, opening, sent_by}
use Rattle.macsec_c_runs.specs.Runs.{sent_in_all}
use Rattle.macsec_secy.specs.Commands.{effect}

-- ---- the calls

abbrev number : Bool → ℕ
number false = 1
number true = 2

abbrev key : NewKey
key = new_key no_salt 1

abbrev name : List ℕ
name = sending_name (salt false) bytes

abbrev reserves : Bool → Reservation
reserves again = record { name = name; last = number again }

abbrev installs : Bool → Call
installs false = command (Key key)
installs true = renewal key

abbrev calls : Bool → List Call
calls again = installs again ∷ command (TxSa 0 0 (number again) false) ∷ command (TxOn 0) ∷ durable (reserves again)
    ∷ client frame ∷ []

-- what the journal has: nothing, and then what was reported durable to the first run
abbrev before : Bool → List Reservation
before false = []
before true = reserves false ∷ []

abbrev run : Bool → CallRun
run again = record { journal = journal false (before again); config = gcm_a; ahead = false; calls = calls again }

are_records : (again : Bool) → All IsReservation (before again)
are_records false = All-nil IsReservation
are_records true = All-cons IsReservation (reserves false) []
    (record { name = length-sha256 _; last = omega arith }) (All-nil IsReservation)

abbrev reads : Bool → List Reservation
reads again = reduced (reservations (journal false (before again)))

at_most : (again : Bool) (other : List ℕ) → highest (before again) other < number again
at_most false other = omega arith
at_most true other = by_name _
  where
    by_name : (b : Bool) → (if b then max 1 0 else 0) < 2
    by_name true = omega arith
    by_name false = omega arith

is_free : (again : Bool) (other : List ℕ) → highest (reads again) other < number again
is_free again other = omega (
  arith,
  reduced_reserves (reservations (journal false (before again))) other,
  says false (before again) (are_records again) other,
  at_most again other,
)

-- ---- the states of the endpoint

abbrev key_at : ℕ → InstalledKey
key_at first_unused = installed_key Gcm128 no_salt 1 first_unused

abbrev with_key : State
with_key = effect (start gcm_a) (Key key)

abbrev with_sa : Bool → State
with_sa again = effect with_key (TxSa 0 0 (number again) false)

abbrev ready : Bool → State
ready again = effect (with_sa again) (TxOn 0)

abbrev at_end : Bool → State
at_end again = (step (ready again) (client_frame frame)).1

abbrev at : Bool → List Reservation → State → Ahead
at again granted s = record {
  k = kept (salt false) (reads again) granted s;
  ahead = false;
  taken = [];
  ended = no_ends;
  renews = again;
}

start_sound : IsSound (start gcm_a)
start_sound = begins_sound gcm_a refl

key_sound : IsSound with_key
key_sound = commands_sound (Key key ∷ []) refl refl start_sound

sa_sound : (again : Bool) → IsSound (with_sa again)
sa_sound false = commands_sound (TxSa 0 0 1 false ∷ []) refl refl key_sound
sa_sound true = commands_sound (TxSa 0 0 2 false ∷ []) refl refl key_sound

ready_sound : (again : Bool) → IsSound (ready again)
ready_sound false = commands_sound (TxOn 0 ∷ []) refl refl (sa_sound false)
ready_sound true = commands_sound (TxOn 0 ∷ []) refl refl (sa_sound true)

end_sound : (again : Bool) → IsSound (at_end again)
end_sound false = sent_sound frame refl refl (ready_sound false)
end_sound true = sent_sound frame refl refl (ready_sound true)

-- ---- what each call leaves

abbrev inside : Bool → List Reservation → State → Keeping → Ahead
inside again granted s k = record (at again granted s) { k = k }

installed : (again : Bool) → after_call (opening (run again)) (installs again) ≡ at again [] with_key
installed false =
    ap (inside false [] with_key) (carried_step (opening (run false)).k (Key key) refl refl)
installed true = refl

begins : (again : Bool) →
    after_call (at again [] with_key) (command (TxSa 0 0 (number again) false)) ≡ at again [] (with_sa again)
begins false = ap (inside false [] with_key) (carried_step (at false [] with_key).k (TxSa 0 0 1 false)
    (is_new (reads false) name 1 (is_free false name)) refl)
begins true = ap (inside true [] with_key) (carried_step (at true [] with_key).k (TxSa 0 0 2 false)
    (is_new (reads true) name 2 (is_free true name)) refl)

turns_on : (again : Bool) →
    after_call (at again [] (with_sa again)) (command (TxOn 0)) ≡ at again [] (ready again)
turns_on false = ap (inside false [] (with_sa false)) (carried_step (at false [] (with_sa false)).k (TxOn 0) refl refl)
turns_on true = ap (inside true [] (with_sa true)) (carried_step (at true [] (with_sa true)).k (TxOn 0) refl refl)

reports : (again : Bool) →
    after_call (at again [] (ready again)) (durable (reserves again)) ≡ at again (reserves again ∷ []) (ready again)
reports false = ap (λ (r : Reservation). at false (r ∷ []) (ready false)) (raised_alone name 1)
reports true = ap (λ (r : Reservation). at true (r ∷ []) (ready true)) (raised_alone name 2)

may : (again : Bool) → may_go (at again (reserves again ∷ []) (ready again)).k (client_frame frame) ≡ true
may false = may_send (at false (reserves false ∷ []) (ready false)).k frame 1 refl
    (is_within (reads false) name 1 1 (is_free false name) (omega arith))
may true = may_send (at true (reserves true ∷ []) (ready true)).k frame 2 refl
    (is_within (reads true) name 2 2 (is_free true name) (omega arith))

sends : (again : Bool) → after_call (at again (reserves again ∷ []) (ready again)) (client frame) ≡
    at again (reserves again ∷ []) (at_end again)
sends again = ap (inside again (reserves again ∷ []) (ready again))
    (frame_step (at again (reserves again ∷ []) (ready again)).k frame (may again))

-- ---- what is sent

abbrev sent_at : Bool → SentIn
sent_at again = record {
  seal = use_sent (tx_options (ready again)) (key_at 1) (row_at (number again) true) frame;
  number = number again;
  frame = frame;
}

lists : (again : Bool) →
    newly_sent (at again (reserves again ∷ []) (ready again)).k (input_of (client frame)) ≡ sent_at again ∷ []
lists false = rw (may false)
lists true = rw (may true)

-- ---- a run, call by call

abbrev IsOurs : InstalledKey → Type 0
IsOurs k = (k.suite ≡ Gcm128) × (k.salt ≡ no_salt)

record Goes (e : Ahead) (more : List Call) (listed : List SentIn) : Type 0 where
  sends : sent_by e more ≡ listed
  sound : (n : ℕ) → IsSound (after_calls e (take n more)).k.secy
  keys : (n : ℕ) → All IsOurs (after_calls e (take n more)).k.secy.keys

ends : (e : Ahead) → IsSound e.k.secy → All IsOurs e.k.secy.keys → Goes e [] []
ends e sound keys = record {
  sends = refl;
  sound = always (λ s. IsSound s) sound;
  keys = always (λ s. All IsOurs s.keys) keys;
}
  where
    always : (P : State → Type 0) → P e.k.secy → (n : ℕ) → P (after_calls e (take n [])).k.secy
    always P it zero = it
    always P it (suc n) = it

goes_on : {e after : Ahead} {call : Call} {more : List Call} {now later : List SentIn} → IsSound e.k.secy →
    All IsOurs e.k.secy.keys → newly_sent e.k (input_of call) ≡ now → after_call e call ≡ after →
    Goes after more later → Goes e (call ∷ more) (now ++ later)
goes_on {e} {after} {call} {more} sound keys is_now is_after rest = record {
  sends = rw (is_now, is_after, rest.sends);
  sound = each (λ s. IsSound s) sound rest.sound;
  keys = each (λ s. All IsOurs s.keys) keys rest.keys;
}
  where
    each : (P : State → Type 0) → P e.k.secy → ((n : ℕ) → P (after_calls after (take n more)).k.secy) → (n : ℕ) →
        P (after_calls e (take n (call ∷ more))).k.secy
    each P it later' zero = it
    each P it later' (suc n) = subst (λ x. P (after_calls x (take n more)).k.secy) (sym is_after) (later' n)

one_key : (first_unused : ℕ) → All IsOurs (key_at first_unused ∷ [])
one_key first_unused = All-cons IsOurs (key_at first_unused) [] (refl, refl) (All-nil IsOurs)

runs : (again : Bool) → Goes (opening (run again)) (calls again) (sent_at again ∷ [])
runs false = goes_on {now = []} start_sound (All-nil IsOurs) refl (installed false)
    (goes_on {now = []} key_sound (one_key 1) refl (begins false)
    (goes_on {now = []} (sa_sound false) (one_key 1) refl (turns_on false)
    (goes_on {now = []} (ready_sound false) (one_key 1) refl (reports false)
    (goes_on (ready_sound false) (one_key 1) (lists false) (sends false) (ends _ (end_sound false) (one_key 2))))))
runs true = goes_on {now = []} start_sound (All-nil IsOurs) refl (installed true)
    (goes_on {now = []} key_sound (one_key 1) refl (begins true)
    (goes_on {now = []} (sa_sound true) (one_key 1) refl (turns_on true)
    (goes_on {now = []} (ready_sound true) (one_key 1) refl (reports true)
    (goes_on (ready_sound true) (one_key 1) (lists true) (sends true) (ends _ (end_sound true) (one_key 3))))))

-- ---- the premises

is_run : (again : Bool) → IsRun (run again)
is_run again = record { sound = (runs again).sound }

agree : AgreeOnKeys (run false) (run true)
agree x y first second same =
    let its = All-contains IsOurs _ x ((runs false).keys first.moment) first.there in
    let other = All-contains IsOurs _ y ((runs true).keys second.moment) second.there in
    record { suite = its.0 ∙ sym other.0; salt = λ extended. its.1 ∙ sym other.1 }

keeps : KeepsUsed (run false) (run true)
keeps = is_weaker is_weaker_with (run false) (run true) (is_run false) (is_run true)
    (salt_is false (before true) ∙ sym (salt_is false (before false)))
    (λ other. omega (arith, says false (before true) (are_records true) other))

pair : {X : Type 0} (R : X → X → Type 0) (x y : X) → R x y → AllPairs R (x ∷ y ∷ [])
pair R x y holds = AllPairs-cons R x (y ∷ []) (All-cons (R x) y [] holds (All-nil (R x))) (one_alone R y)

abbrev both : List CallRun
both = run false ∷ run true ∷ []

record MeetsAll : Type 0 where
  are_runs : All IsRun both
  agree_on_keys : AllPairs AgreeOnKeys both
  keep_used : AllPairs KeepsUsed both
  sends : map (λ (x : SentIn). x.number) (sent_in_all both) ≡ 1 ∷ 2 ∷ []

meets_all : MeetsAll
meets_all = record {
  are_runs = All-cons IsRun (run false) (run true ∷ []) (is_run false)
      (All-cons IsRun (run true) [] (is_run true) (All-nil IsRun));
  agree_on_keys = pair AgreeOnKeys (run false) (run true) agree;
  keep_used = pair KeepsUsed (run false) (run true) keeps;
  sends = rw ((runs false).sends, (runs true).sends);
}
