-- What a run of calls accepted and saved is not delivered again: by the law of runs in which each key is installed as a
-- renewal.
use Rattle.std.proofs.Common.{◌≡◌, ◌∙◌, ◌++◌, ◌∷◌, ◌<◌, ◌≤◌, ℕ, List, [], Bool, true, false, refl, ap, sym, subst, All}
use Rattle.std.proofs.Common.{if◌then◌else◌, Contains, Some}
use Rattle.std.proofs.lemmas.List.Elements.{All-cons, All-head, All-nil, All-tail}
use Rattle.macsec_tag.specs.declared.identifiers.Sci.{Sci}
use Rattle.macsec_suite.specs.KeyRows.{the_key}
use Rattle.macsec_commands.specs.declared.command.Command.TheVariants.{Key}
use Rattle.macsec_secy.specs.Reception.{judgement_of}
use Rattle.macsec_secy.specs.Sound.{IsSound}
use Rattle.macsec_secy.specs.Step.{link_frame}
use Rattle.macsec_reserve.specs.Histories.{reported_in}
use Rattle.macsec_reserve.specs.Journal.{highest, receiving_name, reservations, salt_of, sending_name}
use Rattle.macsec_reserve.specs.Keeping.{KeepingInput}
use Rattle.macsec_reserve.specs.Replay.{KeepsAssociation, row_name, saved_for}
use Rattle.macsec_ahead.specs.Ahead.{Ahead}
use Rattle.macsec_restarts.specs.Kept.{RunWith}
use Rattle.macsec_restarts.specs.RenewingEnds.{HasSavedRenewing, NeverDeliversAgainRenewing}
use Rattle.macsec_restarts.specs.RenewingEnds.{NeverDeliversAgainUnderRenewing}
use Rattle.macsec_restarts.specs.RenewingRuns.{ahead_renewing_after}
use Rattle.macsec_c_calls.specs.GivenUp.{Call, after_call, after_calls, command, link}
use Rattle.macsec_c_runs.proofs.AsRenewals.{Stands, as_input, as_inputs, as_run, idle, input_like, lets_like}
use Rattle.macsec_c_runs.proofs.AsRenewals.{reports_same, run_alike, run_stands, runs_alike, stands_next, with_renews}
use Rattle.macsec_c_runs.proofs.Calls.{installs}
use Rattle.macsec_c_runs.proofs.OverRuns.{sound_as_run}
use Rattle.macsec_c_runs.proofs.TwoEnds.{first_moments}
use Rattle.macsec_c_runs.specs.Runs.{CallRun, IsRun, input_of, opening, reported}
use Rattle.macsec_c_runs.specs.SingleCalls.{HasSaved, NeverDeliversAgain, NeverDeliversAgainUnder}

-- ---- parts of a run

pub stands_less : (e : Ahead) (xs ys : List Call) → Stands e (xs ++ ys) → Stands e xs
stands_less e xs ys it = record {
  gives_none = it.gives_none;
  ends = it.ends;
  sound = λ n. let at = first_moments n xs ys in
      subst (λ cs. IsSound (after_calls e cs).k.secy) (sym at.1) (it.sound at.0);
}

pub stands_after : (xs : List Call) (e : Ahead) (ys : List Call) → Stands e (xs ++ ys) → Stands (after_calls e xs) ys
stands_after [] e ys it = it
stands_after (x ∷ xs) e ys it = stands_after xs (after_call e x) ys (stands_next e x (xs ++ ys) it)

-- the input deletes no SA where the call deletes none
keeps_input : (sci : Sci) (an : ℕ) (e : Ahead) (call : Call) → KeepsAssociation sci an (input_of call) →
    KeepsAssociation sci an (as_input e call)
keeps_input sci an e (command (Key key)) = λ keeps. by_test (installs e key)
  where
    by_test : (b : Bool) → KeepsAssociation sci an (if b then input_of (command (Key key)) else idle)
    by_test true = refl
    by_test false = refl
keeps_input sci an e call = λ keeps. keeps

pub keep_inputs : (sci : Sci) (an : ℕ) (calls : List Call) (e : Ahead) →
    All (λ call. KeepsAssociation sci an (input_of call)) calls → All (KeepsAssociation sci an) (as_inputs e calls)
keep_inputs sci an [] e keep = All-nil (KeepsAssociation sci an)
keep_inputs sci an (call ∷ calls) e keep =
    let P : Call → Type 0 = λ c. KeepsAssociation sci an (input_of c) in
    All-cons (KeepsAssociation sci an) (as_input e call) (as_inputs (after_call e call) calls)
    (keeps_input sci an e call (All-head P call calls keep))
    (keep_inputs sci an calls (after_call e call) (All-tail P call calls keep))

-- ---- what it saved

saved_as_run : (r : CallRun) (name : List ℕ) (n : ℕ) → IsRun r → HasSaved r name n → HasSavedRenewing (as_run r) name n
saved_as_run r name n is saved =
    let it = (runs_alike saved.before begun false (stands_less begun saved.before rest stands)).ends in
    by_parts it.0 it.1 (stands_after saved.before begun rest stands)
  where
    begun : Ahead
    begun = opening r

    rest : List Call
    rest = link saved.frame ∷ (saved.then_on ++ saved.more)

    stands : Stands begun (saved.before ++ rest)
    stands = subst (Stands begun) saved.calls_are (run_stands r is)

    came : KeepingInput
    came = input_of (link saved.frame)

    next : Ahead
    next = after_call saved.first (link saved.frame)

    after : List KeepingInput
    after = as_inputs next saved.then_on

    by_parts : (b : Bool) → ahead_renewing_after (with_renews false begun) (as_inputs begun saved.before) ≡
        with_renews b (after_calls begun saved.before) → Stands (after_calls begun saved.before) rest →
        HasSavedRenewing (as_run r) name n
    by_parts b alike at_first =
        let here : Stands saved.first rest = subst (λ x. Stands x rest) (sym saved.first_is) at_first in
        let then_here = stands_next saved.first (link saved.frame) (saved.then_on ++ saved.more) here in
        let later = (runs_alike saved.then_on next b (stands_less next saved.then_on saved.more then_here)).ends in
        let at_last : Stands saved.last saved.more = subst (λ x. Stands x saved.more) (sym saved.last_is)
        (stands_after saved.then_on next saved.more then_here) in
        record {
          before = as_inputs begun saved.before;
          first = with_renews b saved.first;
          first_is = ap (with_renews b) saved.first_is ∙ sym alike;
          sound = here.sound 0;
          frame = saved.frame;
          from = saved.from;
          accepted = saved.accepted;
          passes = lets_like b saved.first came ∙ saved.passes;
          number = saved.number;
          then_on = after;
          keeps = keep_inputs saved.from.sci saved.from.an saved.then_on next saved.keeps;
          last = with_renews later.0 saved.last;
          last_is = ap (with_renews later.0) saved.last_is ∙ sym later.1
              ∙ sym (ap (λ x. ahead_renewing_after x after) (input_like b saved.first (link_frame saved.frame)));
          sound_last = at_last.sound 0;
          window = saved.window;
          row = saved.row;
          there = saved.there;
          name_is = saved.name_is;
          durable = subst (λ rs. Contains rs (saved_for saved.last.k.salt saved.last.k.secy saved.row))
              (sym (reports_same r.calls begun)) saved.became_durable;
        }

reads_as_run : (r later : CallRun) (name : List ℕ) →
    highest (reported r.calls) name ≤ highest (reservations later.journal) name →
    highest (reported_in (as_run r).run.inputs) name ≤ highest (reservations later.journal) name
reads_as_run r later name = subst (λ rs. highest rs name ≤ highest (reservations later.journal) name)
    (sym (reports_same r.calls (opening r)))

-- ---- the laws

pub never_delivers_again : ((run later : RunWith) (name : List ℕ) (n : ℕ) →
    NeverDeliversAgainRenewing run later name n) → (r later : CallRun) (name : List ℕ) (n : ℕ) →
    NeverDeliversAgain r later name n
never_delivers_again law r later name n is is' saved reads frame row delivered =
    let P : Ahead → Type 0 = λ x. let s = x.k.secy in let j = judgement_of s frame in s.options.replay ≡ true →
    j.row ≡ Some row → j.delivered ≡ Some delivered → row_name (salt_of later.journal) s row ≡ name → n < j.number in
    subst P (run_alike later is').ends.1
    (law (as_run r) (as_run later) name n (saved_as_run r name n is saved) (reads_as_run r later name reads)
    (sound_as_run later is') frame row delivered)

pub never_delivers_again_under : ((run later : RunWith) (bytes : List ℕ) (sci : Sci) (an n : ℕ) →
    NeverDeliversAgainUnderRenewing run later bytes sci an n) → (r later : CallRun) (bytes : List ℕ) (sci : Sci)
    (an n : ℕ) → NeverDeliversAgainUnder r later bytes sci an n
never_delivers_again_under law r later bytes sci an n is is' saved salt reads frame row delivered =
    let name = receiving_name (sending_name (salt_of r.journal) bytes) sci an in
    let P : Ahead → Type 0 = λ x. let s = x.k.secy in let j = judgement_of s frame in s.options.replay ≡ true →
    j.row ≡ Some row → j.delivered ≡ Some delivered → (the_key s.keys row.key).bytes ≡ bytes → row.sci ≡ sci →
    row.an ≡ an → n < j.number in
    subst P (run_alike later is').ends.1
    (law (as_run r) (as_run later) bytes sci an n (saved_as_run r name n is saved) salt
    (reads_as_run r later name reads) (sound_as_run later is') frame row delivered)
