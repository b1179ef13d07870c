-- All runs of a history, where a later run reads what was reported under the names of its keys.
use Rattle.macsec_reserve.{
  proofs.{
    Prelude.{[], ◌<◌, ◌∙◌, ◌∷◌, ◌≤◌, AgreeOnKeys, All, All-append, All-head, All-map, All-nil, All-tail, All-weaker},
    Prelude.{AllPairs, ap, arith, CipherUse, closing, get_or, HasOtherIv, highest, List, map, opening, reduced},
    Prelude.{Reservation, reservations, Run, salt_of, SameSalt, sealed_in, sealed_in_all, sending_name, subst, sym},
    Prelude.{without_forgetting, ℕ},
    AllRuns.{IsSoundRun, of_run},
    EndpointLaws.{Laws, numbers_tell},
    ForgettingRuns.{IsSoundForgetting, pairs-map, reports_kept, seals_in_all, forgets_alike},
    NoReplay.StartAgrees,
    Pairs.{no_pairs, pairs-append, pairs-head, pairs-tail},
    Reduced.reduced_reserves,
    Replaced.KeyLaws,
    Seals.IsUse,
    Steps.granted_reported,
  },
  specs.OfKeys.{IsHistoryOfKeys, IsHistoryOfKeysForgetting, IsNameOfKey, KeepsForKeys, KeepsForKeysForgetting},
  specs.OfKeys.{RepeatsNoIvOfKeys, RepeatsNoIvOfKeysForgetting},
}

differs : Laws → (run later : Run) → IsSoundRun run → IsSoundRun later → AgreeOnKeys run later → SameSalt run later → KeepsForKeys run later →
    (x : CipherUse) → IsUse (opening run) (closing run) x → (y : CipherUse) → IsUse (opening later) (closing later) y → HasOtherIv x y
differs laws run later sound sound' agree salt durable x first y second bytes iv =
    let name = sending_name (salt_of run.journal) x.key in
    let its : IsNameOfKey later name = record {
      key = second.key;
      there = second.there;
      is = ap (λ (s : List ℕ). sending_name s second.key.bytes) salt ∙ ap (λ (octets : List ℕ). sending_name (salt_of run.journal) octets) (sym (bytes ∙ second.bytes));
    } in
    let above : highest (reduced (reservations later.journal)) name < second.number =
    subst (λ (s : List ℕ). highest (reduced (reservations later.journal)) (sending_name s x.key) < second.number) salt
    (subst (λ (key : List ℕ). highest (reduced (reservations later.journal)) (sending_name (salt_of later.journal) key) < second.number) (sym bytes) second.above) in
    let less : first.number < second.number = omega (arith, first.within, granted_reported run.inputs (opening run) name, durable name its, reduced_reserves (reservations later.journal) name, above) in
    numbers_tell laws (closing run).secy (closing later).secy (of_run laws run sound).sound (of_run laws later sound').sound first.key second.key first.there second.there
    (agree first.key second.key first.there second.there (sym first.bytes ∙ bytes ∙ second.bytes))
    first.number second.number first.most second.most less (sym first.iv ∙ iv ∙ second.iv)

differs_from_all : Laws → (run : Run) → IsSoundRun run → (x : CipherUse) → IsUse (opening run) (closing run) x → (later : List Run) →
    All IsSoundRun later → All (AgreeOnKeys run) later → All (SameSalt run) later → All (KeepsForKeys run) later → All (HasOtherIv x) (sealed_in_all later)
differs_from_all laws run sound x first [] sounds agree salt durable = All-nil (HasOtherIv x)
differs_from_all laws run sound x first (q ∷ qs) sounds agree salt durable =
    let sound' : IsSoundRun q = All-head IsSoundRun q qs sounds in
    All-append (HasOtherIv x) (sealed_in q) (sealed_in_all qs)
    (All-weaker (IsUse (opening q) (closing q)) (HasOtherIv x)
    (differs laws run q sound sound' (All-head (AgreeOnKeys run) q qs agree) (All-head (SameSalt run) q qs salt) (All-head (KeepsForKeys run) q qs durable) x first) (sealed_in q) (of_run laws q sound').from)
    (differs_from_all laws run sound x first qs (All-tail IsSoundRun q qs sounds) (All-tail (AgreeOnKeys run) q qs agree) (All-tail (SameSalt run) q qs salt)
    (All-tail (KeepsForKeys run) q qs durable))

pub repeats_no_iv_of_keys : Laws → (history : List Run) → RepeatsNoIvOfKeys history
repeats_no_iv_of_keys laws [] is = no_pairs HasOtherIv
repeats_no_iv_of_keys laws (run ∷ later) is =
    let sound : IsSoundRun run = All-head IsSoundRun run later is.sound in
    let it = of_run laws run sound in
    let rest : IsHistoryOfKeys later = record {
      sound = All-tail IsSoundRun run later is.sound;
      agree = pairs-tail AgreeOnKeys run later is.agree;
      salt = pairs-tail SameSalt run later is.salt;
      durable = pairs-tail KeepsForKeys run later is.durable;
    } in
    pairs-append HasOtherIv (sealed_in run) (sealed_in_all later) it.apart (repeats_no_iv_of_keys laws later rest)
    (All-weaker (IsUse (opening run) (closing run)) (λ x. All (HasOtherIv x) (sealed_in_all later))
    (λ x first. differs_from_all laws run sound x first later rest.sound (pairs-head AgreeOnKeys run later is.agree) (pairs-head SameSalt run later is.salt)
    (pairs-head KeepsForKeys run later is.durable))
    (sealed_in run) it.from)

-- ---- endpoints that forget

keeps_for_keys : (run later : Run) → KeepsForKeysForgetting run later → KeepsForKeys (without_forgetting run) (without_forgetting later)
keeps_for_keys run later durable name its =
    subst (λ (rs : List Reservation). highest rs name ≤ highest (reservations later.journal) name) (sym (reports_kept run.inputs (opening run))) (durable name its)

is_history : KeyLaws → StartAgrees → (runs : List Run) → IsHistoryOfKeysForgetting runs → IsHistoryOfKeys (map without_forgetting runs)
is_history laws begins runs is = record {
  sound = All-map IsSoundRun without_forgetting runs
      (All-weaker IsSoundForgetting (λ run. IsSoundRun (without_forgetting run)) (λ run sound. (forgets_alike laws begins run sound).sound) runs is.sound);
  agree = pairs-map without_forgetting AgreeOnKeys runs is.agree;
  salt = pairs-map without_forgetting SameSalt runs is.salt;
  durable = pairs-map without_forgetting KeepsForKeys runs (λ i j d less within. keeps_for_keys (get_or runs i d) (get_or runs j d) (is.durable i j d less within));
}

pub repeats_no_iv_of_keys_forgetting : KeyLaws → StartAgrees → Laws → (runs : List Run) → RepeatsNoIvOfKeysForgetting runs
repeats_no_iv_of_keys_forgetting keys begins laws runs is =
    subst (AllPairs HasOtherIv) (sym (seals_in_all keys begins runs is.sound)) (repeats_no_iv_of_keys laws (map without_forgetting runs) (is_history keys begins runs is))
