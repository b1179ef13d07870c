-- Two ends that are peers at the end of a list of happenings are peers at each moment of it: what is used stays used.
use Rattle.std.proofs.Common.{◌≡◌, ◌++◌, ◌∷◌, ◌∙◌, ℕ, List, [], Bool, true, refl, ap, sym, subst, All}
use Rattle.std.proofs.Common.{AllPairs, Contains, drop, take, take-append-drop}
use Rattle.std.proofs.lemmas.List.Elements.{All-cons, All-head, All-nil, All-tail}
use Rattle.std.proofs.lemmas.List.Kept.{AllPairs-cons}
use Rattle.macsec_suite.specs.KeyRows.{InstalledKey}
use Rattle.macsec_commands.specs.declared.config.EndConfig.{EndConfig}
use Rattle.macsec_commands.specs.declared.event.End.{End}
use Rattle.macsec_commands.specs.declared.event.End.TheVariants.{A, B}
use Rattle.macsec_secy.specs.Commands.{uses}
use Rattle.macsec_reserve.proofs.Pairs.{no_pairs, pairs-head, pairs-tail}
use Rattle.macsec_restarts.specs.RenewingRuns.{IsUsedIn}
use Rattle.macsec_c_calls.specs.GivenUp.{Call, after_calls}
use Rattle.macsec_c_runs.proofs.TwoEnds.{calls_less, first_moments}
use Rattle.macsec_c_runs.specs.Runs.{AgreeOnKeys, CallRun, opening, states}
use Rattle.macsec_c_runs.specs.TwoEnds.{ArePeers, CallHappening, IsSameEnd, PeersAtEachOverCalls, begins, calls_until}
use Rattle.macsec_c_runs.specs.TwoEnds.{makes, runs_of}

-- ---- a run so far, and the whole run

record IsPart (q r : CallRun) : Type 0 where
  config : q.config ≡ r.config
  used : (key : InstalledKey) → IsUsedIn (states q) key → IsUsedIn (states r) key

one_part : (journal : List ℕ) (config : EndConfig) (ahead : Bool) (xs calls rest : List Call) → calls ≡ xs ++ rest →
    IsPart (record { journal = journal; config = config; ahead = ahead; calls = xs })
    (record { journal = journal; config = config; ahead = ahead; calls = calls })
one_part journal config ahead xs calls rest is = record { config = refl; used = used }
  where
    r : CallRun
    r = record { journal = journal; config = config; ahead = ahead; calls = calls }

    used : (key : InstalledKey) → IsUsedIn (states (record r { calls = xs })) key → IsUsedIn (states r) key
    used key it =
        let at = first_moments it.moment xs rest in
        let same : states (record r { calls = xs }) it.moment ≡ states r at.0 =
        ap (λ cs. (after_calls (opening r) cs).k.secy) (at.1 ∙ ap (take at.0) (sym is)) in
        record {
          moment = at.0;
          there = subst (λ s. Contains s.keys key) same it.there;
          used = subst (λ s. uses s key.number ≡ true) same it.used;
        }

abbrev AreParts : List CallRun → List CallRun → Type 0
AreParts [] rs = Unit {0}
AreParts (q ∷ qs) [] = ⊥
AreParts (q ∷ qs) (r ∷ rs) = IsPart q r × AreParts qs rs

parts : (e : End) (before more : List CallHappening) → AreParts (runs_of e before) (runs_of e (before ++ more))
parts e [] more = tt
parts A (begins A ahead config journal ∷ before) more =
    let it = calls_less A before more in (
      one_part journal config ahead (calls_until A before) (calls_until A (before ++ more)) it.0 it.1,
      parts A before more,
    )
parts B (begins B ahead config journal ∷ before) more =
    let it = calls_less B before more in (
      one_part journal config ahead (calls_until B before) (calls_until B (before ++ more)) it.0 it.1,
      parts B before more,
    )
parts A (begins B ahead config journal ∷ before) more = parts A before more
parts B (begins A ahead config journal ∷ before) more = parts B before more
parts A (makes f call ∷ before) more = parts A before more
parts B (makes f call ∷ before) more = parts B before more

-- ---- what holds of whole runs holds of the runs so far

module _ (R : CallRun → CallRun → Type 0)
    (less : (q q' r r' : CallRun) → IsPart q r → IsPart q' r' → R r r' → R q q') where
  one_less : (q r : CallRun) (qs rs : List CallRun) → IsPart q r → AreParts qs rs → All (R r) rs → All (R q) qs
  one_less q r [] rs part parts all = All-nil (R q)
  one_less q r (q' ∷ qs) [] part parts all = absurd parts
  one_less q r (q' ∷ qs) (r' ∷ rs) part parts all = All-cons (R q) q' qs
      (less q q' r r' part parts.0 (All-head (R r) r' rs all))
      (one_less q r qs rs part parts.1 (All-tail (R r) r' rs all))

  pairs_less : (qs rs : List CallRun) → AreParts qs rs → AllPairs R rs → AllPairs R qs
  pairs_less [] rs parts all = no_pairs R
  pairs_less (q ∷ qs) [] parts all = absurd parts
  pairs_less (q ∷ qs) (r ∷ rs) parts all = AllPairs-cons R q qs
      (one_less q r qs rs parts.0 parts.1 (pairs-head R r rs all))
      (pairs_less qs rs parts.1 (pairs-tail R r rs all))

  both_less : (qs rs qs' rs' : List CallRun) → AreParts qs rs → AreParts qs' rs' → All (λ r. All (R r) rs') rs →
      All (λ q. All (R q) qs') qs
  both_less [] rs qs' rs' parts parts' all = All-nil (λ q. All (R q) qs')
  both_less (q ∷ qs) [] qs' rs' parts parts' all = absurd parts
  both_less (q ∷ qs) (r ∷ rs) qs' rs' parts parts' all = All-cons (λ q. All (R q) qs') q qs
      (one_less q r qs' rs' parts.0 parts' (All-head (λ r. All (R r) rs') r rs all))
      (both_less qs rs qs' rs' parts.1 parts' (All-tail (λ r. All (R r) rs') r rs all))

agree_less : (q q' r r' : CallRun) → IsPart q r → IsPart q' r' → AgreeOnKeys r r' → AgreeOnKeys q q'
agree_less q q' r r' part part' agree x y first second = agree x y (part.used x first) (part'.used y second)

same_less : (q q' r r' : CallRun) → IsPart q r → IsPart q' r' → IsSameEnd r r' → IsSameEnd q q'
same_less q q' r r' part part' one = record {
  sci = ap (λ (c : EndConfig). c.sci) part.config ∙ one.sci ∙ ap (λ (c : EndConfig). c.sci) (sym part'.config);
  ssci = λ x y first second. one.ssci x y (part.used x first) (part'.used y second);
}

peers_less : (before more : List CallHappening) → ArePeers (runs_of A (before ++ more)) (runs_of B (before ++ more)) →
    ArePeers (runs_of A before) (runs_of B before)
peers_less before more peers =
    let a = parts A before more in
    let b = parts B before more in
    record {
      agree_a = pairs_less AgreeOnKeys agree_less (runs_of A before) (runs_of A (before ++ more)) a peers.agree_a;
      agree_b = pairs_less AgreeOnKeys agree_less (runs_of B before) (runs_of B (before ++ more)) b peers.agree_b;
      agree = both_less AgreeOnKeys agree_less (runs_of A before) (runs_of A (before ++ more)) (runs_of B before)
          (runs_of B (before ++ more)) a b peers.agree;
      one_a = pairs_less IsSameEnd same_less (runs_of A before) (runs_of A (before ++ more)) a peers.one_a;
      one_b = pairs_less IsSameEnd same_less (runs_of B before) (runs_of B (before ++ more)) b peers.one_b;
    }

pub peers_at_each : (events : List CallHappening) → PeersAtEachOverCalls events
peers_at_each events peers k = peers_less (take k events) (drop k events)
    (subst (λ es. ArePeers (runs_of A es) (runs_of B es)) (sym (take-append-drop k events)) peers)
