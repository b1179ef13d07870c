-- Once within one run of calls: at a window of 0, what is delivered from an SA after a frame was accepted from it has a
-- higher packet number, by the law of endpoints in which each key is installed as a renewal.
use Rattle.std.proofs.Common.{◌≡◌, ◌++◌, ◌∷◌, ◌<◌, ◌⊎◌, ℕ, List, Bool, true, false, refl, sym, subst, take, inl, inr}
use Rattle.std.proofs.Common.{All, Contains}
use Rattle.macsec_secy.specs.Sound.{IsSound}
use Rattle.macsec_reserve.specs.Keeping.{KeepingInput}
use Rattle.macsec_reserve.specs.Replay.{KeepsAssociation}
use Rattle.macsec_ahead.specs.Ahead.{Ahead}
use Rattle.macsec_restarts.specs.AheadRuns.{newly_delivered_with}
use Rattle.macsec_restarts.specs.OneRun.{DeliversAboveAccepted as RenewingDeliversAbove}
use Rattle.macsec_restarts.specs.RenewingRuns.{ahead_renewing_after}
use Rattle.macsec_c_calls.specs.GivenUp.{Call, after_call, after_calls}
use Rattle.macsec_c_runs.proofs.AsRenewals.{RunsAlike, Stands, accepts_same, as_input, as_inputs, delivers_same}
use Rattle.macsec_c_runs.proofs.AsRenewals.{run_stands, runs_alike, with_renews}
use Rattle.macsec_c_runs.proofs.OverRuns.{still_keeps}
use Rattle.macsec_c_runs.proofs.Saved.{keep_inputs, stands_after, stands_less}
use Rattle.macsec_c_runs.specs.Runs.{CallRun, input_of, opening}
use Rattle.macsec_c_runs.specs.SingleCalls.{DeliversAboveAccepted}

pub delivers_above_accepted : ((a : Ahead) (input : KeepingInput) (inputs : List KeepingInput) (last : KeepingInput) →
    RenewingDeliversAbove a input inputs last) → (r : CallRun) (before : List Call) (call : Call) (between : List Call)
    (last : Call) (more : List Call) → DeliversAboveAccepted r before call between last more
delivers_above_accepted law r before call between last more is calls_are replay window d e here there same side =
    by_ends alike.ends.0 alike.ends.1
  where
    first : Ahead
    first = after_calls (opening r) before

    these : List Call
    these = call ∷ between

    now : Ahead
    now = after_calls first these

    rest : List Call
    rest = call ∷ (between ++ last ∷ more)

    stands : Stands first these
    stands = stands_less first these (last ∷ more)
        (stands_after before (opening r) rest (subst (Stands (opening r)) calls_are (run_stands r is)))

    alike : RunsAlike false first these
    alike = runs_alike these first false stands

    sound : (n : ℕ) → IsSound (ahead_renewing_after (with_renews false first) (take n (as_inputs first these))).k.secy
    sound n = subst (λ (x : Ahead). IsSound x.k.secy) (sym (alike.after n).1) (stands.sound n)

    inputs_keep : (first.k.secy.options.window ≡ 0) ⊎ All (λ c. KeepsAssociation d.sci d.an (input_of c)) between →
        (first.k.secy.options.window ≡ 0) ⊎
        All (KeepsAssociation d.sci d.an) (as_inputs (after_call first call) between)
    inputs_keep (inl none) = inl none
    inputs_keep (inr keeps) = inr (keep_inputs d.sci d.an between (after_call first call) keeps)

    by_ends : (c : Bool) → ahead_renewing_after (with_renews false first) (as_inputs first these) ≡ with_renews c now →
        d.number < e.number
    by_ends c ends = law (with_renews false first) (as_input first call) (as_inputs (after_call first call) between)
        (as_input now last) (still_keeps before (opening r) refl) sound
        (subst (λ (x : Ahead). x.k.secy.options.replay ≡ true) (sym ends) replay)
        (subst (λ (x : Ahead). x.k.secy.options.window ≡ 0) (sym ends) window) d e
        (subst (λ ds. Contains ds d) (sym (accepts_same false first call)) here)
        (subst (λ x. Contains (newly_delivered_with x (as_input now last)) e) (sym ends)
        (subst (λ ds. Contains ds e) (sym (delivers_same c now last)) there)) same (inputs_keep side)
