-- Two ends: what a run of one seals and what a run of the other seals have different IVs.
use Rattle.macsec_reserve.{
  proofs.{
    Prelude.{[], ◌∙◌, ◌∷◌, ◌≡◌, All, All-append, All-head, All-nil, All-tail, All-weaker, ap, Bool, CipherUse, closing},
    Prelude.{EndConfig, false, HasOtherIv, is_xpn, List, opening, refl, Run, sealed_in, sealed_in_all, sym, true},
    AllRuns.{IsSoundRun, is_history, of_run, repeats_no_iv},
    EndpointLaws.{Laws, same_sender},
    Pairs.pairs-append,
    Seals.IsUse,
  },
  specs.TwoEnds.{AreOfTwoEnds, RepeatsNoIvAtBoth, RepeatsNoIvAtBothAfterCrashes},
}

own_config : Laws → (run : Run) → IsSoundRun run → (closing run).secy.config ≡ run.config
own_config laws run sound = (of_run laws run sound).stay.config

by_suite : (b c : Bool) → b ≡ c → (b ≡ true → ⊥) → (b ≡ false → ⊥) → ⊥
by_suite b true is extended short = extended is
by_suite b false is extended short = short is

differs : Laws → (run other : Run) → IsSoundRun run → IsSoundRun other → AreOfTwoEnds run other →
    (x : CipherUse) → IsUse (opening run) (closing run) x → (y : CipherUse) → IsUse (opening other) (closing other) y → HasOtherIv x y
differs laws run other sound sound' apart x first y second bytes iv =
    let keys = apart.keys first.key second.key first.there second.there (sym first.bytes ∙ bytes ∙ second.bytes) in
    let sender = same_sender laws (closing run).secy (closing other).secy (of_run laws run sound).sound (of_run laws other sound').sound first.key second.key first.there second.there keys.agree
    first.number second.number first.most second.most (sym first.iv ∙ iv ∙ second.iv) in
    by_suite (is_xpn first.key.suite) (is_xpn first.key.suite) refl (λ is. keys.ssci is (sender.ssci is))
    (λ is. apart.sci (ap (λ (c : EndConfig). c.sci) (sym (own_config laws run sound)) ∙ sender.sci is ∙ ap (λ (c : EndConfig). c.sci) (own_config laws other sound')))

-- a use of one end, and the uses of all runs of the other
differs_from_all : Laws → (run : Run) → IsSoundRun run → (x : CipherUse) → IsUse (opening run) (closing run) x → (others : List Run) → All IsSoundRun others → All (AreOfTwoEnds run) others →
    All (HasOtherIv x) (sealed_in_all others)
differs_from_all laws run sound x first [] sounds apart = All-nil (HasOtherIv x)
differs_from_all laws run sound x first (q ∷ qs) sounds apart =
    let sound' : IsSoundRun q = All-head IsSoundRun q qs sounds in
    All-append (HasOtherIv x) (sealed_in q) (sealed_in_all qs)
    (All-weaker (IsUse (opening q) (closing q)) (HasOtherIv x) (differs laws run q sound sound' (All-head (AreOfTwoEnds run) q qs apart) x first) (sealed_in q) (of_run laws q sound').from)
    (differs_from_all laws run sound x first qs (All-tail IsSoundRun q qs sounds) (All-tail (AreOfTwoEnds run) q qs apart))

all_differ : Laws → (runs others : List Run) → All IsSoundRun runs → All IsSoundRun others → All (λ run. All (AreOfTwoEnds run) others) runs →
    All (λ x. All (HasOtherIv x) (sealed_in_all others)) (sealed_in_all runs)
all_differ laws [] others sounds sounds' apart = All-nil (λ x. All (HasOtherIv x) (sealed_in_all others))
all_differ laws (p ∷ ps) others sounds sounds' apart =
    let sound : IsSoundRun p = All-head IsSoundRun p ps sounds in
    All-append (λ x. All (HasOtherIv x) (sealed_in_all others)) (sealed_in p) (sealed_in_all ps)
    (All-weaker (IsUse (opening p) (closing p)) (λ x. All (HasOtherIv x) (sealed_in_all others))
    (λ x first. differs_from_all laws p sound x first others sounds' (All-head (λ run. All (AreOfTwoEnds run) others) p ps apart)) (sealed_in p) (of_run laws p sound).from)
    (all_differ laws ps others (All-tail IsSoundRun p ps sounds) sounds' (All-tail (λ run. All (AreOfTwoEnds run) others) p ps apart))

pub repeats_no_iv_at_both : Laws → (runs others : List Run) → RepeatsNoIvAtBoth runs others
repeats_no_iv_at_both laws runs others is is' apart =
    pairs-append HasOtherIv (sealed_in_all runs) (sealed_in_all others) (repeats_no_iv laws runs is) (repeats_no_iv laws others is') (all_differ laws runs others is.sound is'.sound apart)

pub repeats_no_iv_at_both_after_crashes : Laws → (runs others : List Run) → RepeatsNoIvAtBothAfterCrashes runs others
repeats_no_iv_at_both_after_crashes laws runs others is is' apart = repeats_no_iv_at_both laws runs others (is_history runs is) (is_history others is') apart
