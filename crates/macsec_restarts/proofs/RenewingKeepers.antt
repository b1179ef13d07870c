-- Several runs of a keeping endpoint that renews keys: its packet numbers rise, and no IV comes twice.
use Rattle.macsec_aes.specs.Keys.{key_bytes}
use Rattle.macsec_reserve.proofs.Steps.{granted_reported}
use Rattle.macsec_reserve.specs.Forgetting.{as_taken}
use Rattle.macsec_reserve.specs.Keeping.{nothing_yet}
use Rattle.macsec_reserve.specs.Renewing.{forgetting_refusal, place_of, unless_refused}
use Rattle.macsec_reserve.specs.RenewingRuns.{OctetsHaveOneKey, renewing_after, renewing_step, RepeatsNoIvRenewing}
use Rattle.macsec_reserve.specs.RenewingRuns.{sealed_renewing, StaysSoundRenewing}
use Rattle.macsec_restarts.proofs.AheadForgets.{before_kept, forgets_field, salt_kept}
use Rattle.macsec_restarts.proofs.Forgetting.{numbers_tell, OtherSeal}
use Rattle.macsec_restarts.proofs.Names.{[], ◌<◌, ◌==◌, ◌||◌, ◌∙◌, ◌∷◌, ◌≡◌, ◌≤◌, ◌⊎◌, All, All-append}
use Rattle.macsec_restarts.proofs.Names.{All-head, All-map, All-nil, All-tail, All-weaker, AllPairs, ap, arith, Bool}
use Rattle.macsec_restarts.proofs.Names.{client_frame, Contains, endpoint_input, EndpointLaws, eq-eqb, false}
use Rattle.macsec_restarts.proofs.Names.{forgetting, forgetting_step, get_or, HasOtherIv, highest, highest-append}
use Rattle.macsec_restarts.proofs.Names.{if◌then◌else◌, inl, Inputs, inr, InstalledKey, IsFrom, IsSound, iv_of, Keeping}
use Rattle.macsec_restarts.proofs.Names.{keeping_step, KeepingInput, KeepingOutput, keeps_stays, KeepsDurable, Key}
use Rattle.macsec_restarts.proofs.Names.{last_of, length, List, map, map-append, max, newly_sent, no_pairs, None}
use Rattle.macsec_restarts.proofs.Names.{now_durable, opening, operator_command, Option, pairs-append, pairs-head}
use Rattle.macsec_restarts.proofs.Names.{pairs-tail, reduced_reserves, refl, Refusal, reported_in, Reservation}
use Rattle.macsec_restarts.proofs.Names.{reservations, retired_by, Rises, row_on, Run, rx_uses, salt_of, same_octets}
use Rattle.macsec_restarts.proofs.Names.{SameSalt, seal_of, sending_name, sending_of, SentIn, Some, State, subst, suc}
use Rattle.macsec_restarts.proofs.Names.{sym, take, taken, the_key, then_forget, true, tx_options, TxRow, zero, ℕ}
use Rattle.macsec_restarts.proofs.Sends.{by_input, each_new, is_new, IsNew, IsSentBy, leased_now, new_pairs}
use Rattle.macsec_restarts.proofs.Sends.{seals_of_input}
use Rattle.macsec_restarts.specs.RenewingRuns.{AgreeOnUsedKeys, AgreeRenewing, IsSoundRunRenewing, IsUsedIn}
use Rattle.macsec_restarts.specs.RenewingRuns.{KeepsUsedRenewing, NoIvIfUsedIsKeptRenewing, RisesIfUsedIsKeptRenewing}
use Rattle.macsec_restarts.specs.RenewingRuns.{sealed_in_all_renewing, sent_in_all_renewing, sent_in_renewing}
use Rattle.macsec_restarts.specs.RenewingRuns.{sent_renewing, states_renewing}
use Rattle.macsec_restarts.specs.Used.{Covers}
use Rattle.macsec_secy.proofs.OtherOctets.{found_unused}
use Rattle.macsec_secy.proofs.UsedNumbers.{sent_by}
use Rattle.macsec_secy.specs.Commands.{uses}
use Rattle.macsec_suite.specs.KeyRows.{key_row}
use Rattle.macsec_suite.specs.Refusals.{is_number_used}
use Rattle.macsec_suite.specs.declared.key_row.NewKey.{NewKey}
use Rattle.macsec_tx.specs.Commands.{tx_uses}
use Rattle.std.proofs.Common.{drop, set}

-- the laws of one run
pub record RenewingLaws : Type 0 where
  pub ivs : (k : Keeping) (inputs : Inputs) → RepeatsNoIvRenewing k inputs
  pub octets : (k : Keeping) (inputs : Inputs) (n : ℕ) (key : InstalledKey) (m : ℕ) (later : InstalledKey) →
      OctetsHaveOneKey k inputs n key m later

-- ---- what a step keeps: no floor falls

pub record Goes (k after : Keeping) : Type 0 where
  pub keeps : after.keeps ≡ k.keeps
  pub salt : after.salt ≡ k.salt
  pub floors : (name : List ℕ) → highest k.before name ≤ highest after.before name

pub goes_forgetting : (k : Keeping) (input : KeepingInput) → Goes k (forgetting_step k input).1
goes_forgetting k input = record {
  keeps = forgets_field (λ x. x.keeps) (λ x n. refl) (retired_by input)
      (keeping_step k (taken k input)) ∙ keeps_stays k (taken k input);
  salt = salt_kept k input;
  floors = λ name. let same : highest (forgetting_step k input).1.before name ≡ highest k.before name =
      ap (λ rs. highest rs name) (before_kept k input) in
      omega (arith, same);
}

goes_by : (r : Option Refusal) (key : NewKey) (k : Keeping) → Goes k (unless_refused r key k)
goes_by (Some r) key k = record { keeps = refl; salt = refl; floors = λ name. omega arith }
goes_by None key k = record { keeps = refl; salt = refl; floors = λ name. omega arith }

pub goes : (k : Keeping) (input : KeepingInput) → Goes k (renewing_step k input).1
goes k (endpoint_input (operator_command (Key key))) = goes_by (forgetting_refusal k key) (as_taken k key) k
goes k input = goes_forgetting k input

-- ---- what a step reserves was reserved before, or is reported

nothing_more : (salt : List ℕ) (keys : List InstalledKey) (name : List ℕ) →
    highest (map (nothing_yet salt) keys) name ≡ 0
nothing_more salt [] name = refl
nothing_more salt (key ∷ keys) name = by_name (same_octets (sending_name salt key.bytes) name)
    (nothing_more salt keys name)
  where
    by_name : (b : Bool) → highest (map (nothing_yet salt) keys) name ≡ 0 →
        (if b then max 0 (highest (map (nothing_yet salt) keys) name) else highest (map (nothing_yet salt) keys) name)
        ≡ 0
    by_name true rest = omega (arith, rest)
    by_name false rest = rest

-- an entry in which nothing is reserved takes the place of another one
set_reserves : (rs : List Reservation) (n : ℕ) (own name : List ℕ) →
    highest (set rs n (record { name = own; last = 0 })) name ≤ highest rs name
set_reserves [] n own name = omega arith
set_reserves (r ∷ rs) zero own name = by_names (same_octets own name) (same_octets r.name name)
  where
    by_names : (b c : Bool) → (if b then max 0 (highest rs name) else highest rs name) ≤
        (if c then max r.last (highest rs name) else highest rs name)
    by_names true true = omega arith
    by_names true false = omega arith
    by_names false true = omega arith
    by_names false false = omega arith
set_reserves (r ∷ rs) (suc n) own name = by_name (same_octets r.name name) (set_reserves rs n own name)
  where
    others : List Reservation
    others = set rs n (record { name = own; last = 0 })

    by_name : (b : Bool) → highest others name ≤ highest rs name →
        (if b then max r.last (highest others name) else highest others name) ≤
        (if b then max r.last (highest rs name) else highest rs name)
    by_name true rest = omega (arith, rest)
    by_name false rest = rest

abbrev Reserves : Keeping → Keeping → List Reservation → Type 0
Reserves k after reports =
    (name : List ℕ) → highest after.granted name ≤ max (highest k.granted name) (highest reports name)

reserves_forgetting : (k : Keeping) (input : KeepingInput) →
    Reserves k (forgetting_step k input).1 (reported_in (input ∷ []))
reserves_forgetting k input name = by_retired (retired_by input)
  where
    answer : KeepingOutput × Keeping
    answer = keeping_step k (taken k input)

    same : (i : KeepingInput) → reported_in (taken k i ∷ []) ≡ reported_in (i ∷ [])
    same (now_durable r) = refl
    same (endpoint_input i) = refl

    goes_on : highest answer.1.granted name ≤ max (highest k.granted name) (highest (reported_in (input ∷ [])) name)
    goes_on = subst (λ rs. highest answer.1.granted name ≤ max (highest k.granted name) (highest rs name)) (same input)
        (granted_reported (taken k input ∷ []) k name)

    by_both : (b : Bool) (n : ℕ) → highest (if b then forgetting answer.1 n else answer.1).granted name ≤
        max (highest k.granted name) (highest (reported_in (input ∷ [])) name)
    by_both false n = goes_on
    by_both true n = omega (
      arith,
      goes_on,
      highest-append answer.1.granted (map (nothing_yet answer.1.salt) (drop (length answer.1.granted)
          answer.1.secy.keys)) name,
      nothing_more answer.1.salt (drop (length answer.1.granted) answer.1.secy.keys) name,
    )

    by_retired : (o : Option ℕ) → highest (then_forget o answer).1.granted name ≤
        max (highest k.granted name) (highest (reported_in (input ∷ [])) name)
    by_retired None = goes_on
    by_retired (Some n) = by_both _ n

reserves_by : (r : Option Refusal) (key : NewKey) (k : Keeping) → Reserves k (unless_refused r key k) []
reserves_by (Some r) key k name = omega arith
reserves_by None key k name = by_use (is_number_used k.secy.keys key.number)
  where
    own : List ℕ
    own = sending_name k.salt (key_bytes key.bytes)

    by_use : (b : Bool) → highest (if b then set k.granted (place_of k.secy.keys key.number)
        (record { name = own; last = 0 }) else k.granted) name ≤ max (highest k.granted name) 0
    by_use true = omega (arith, set_reserves k.granted (place_of k.secy.keys key.number) own name)
    by_use false = omega arith

reserves : (k : Keeping) (input : KeepingInput) → Reserves k (renewing_step k input).1 (reported_in (input ∷ []))
reserves k (endpoint_input (operator_command (Key key))) =
    reserves_by (forgetting_refusal k key) (as_taken k key) k
reserves k input = reserves_forgetting k input

-- ---- a number is above what earlier runs reserved, and at most what was reported to its own

pub record IsBetween (k : Keeping) (inputs : Inputs) (x : SentIn) : Type 0 where
  pub above : highest k.before (sending_name k.salt x.seal.key) < x.number
  pub within : x.number ≤ max (highest k.granted (sending_name k.salt x.seal.key))
      (highest (reported_in inputs) (sending_name k.salt x.seal.key))

first_report : (input : KeepingInput) (inputs : Inputs) (name : List ℕ) →
    highest (reported_in (input ∷ inputs)) name ≡
    max (highest (reported_in (input ∷ [])) name) (highest (reported_in inputs) name)
first_report (now_durable r) inputs name = highest-append (r ∷ []) (reported_in inputs) name
first_report (endpoint_input input) inputs name = omega arith

between_now : (k : Keeping) → k.keeps ≡ true → (input : KeepingInput) (inputs : Inputs) →
    All (IsBetween k (input ∷ inputs)) (newly_sent k input)
between_now k keeps input inputs i d within =
    let x = get_or (newly_sent k input) i d in
    let it = leased_now k keeps input x (each_new k input i d within) in
    record { above = it.above; within = omega (arith, it.within) }

pub each_between : (inputs : Inputs) (k : Keeping) → k.keeps ≡ true → All (IsBetween k inputs) (sent_renewing k inputs)
each_between [] k keeps = All-nil (IsBetween k [])
each_between (input ∷ inputs) k keeps =
    let after = (renewing_step k input).1 in
    let it = goes k input in
    All-append (IsBetween k (input ∷ inputs)) (newly_sent k input) (sent_renewing after inputs)
    (between_now k keeps input inputs) (All-weaker (IsBetween after inputs) (IsBetween k (input ∷ inputs)) (λ x later.
    let name = sending_name k.salt x.seal.key in
    let above : highest after.before name < x.number =
    subst (λ salt. highest after.before (sending_name salt x.seal.key) < x.number) it.salt later.above in
    let within : x.number ≤ max (highest after.granted name) (highest (reported_in inputs) name) =
    subst (λ salt. x.number ≤ max (highest after.granted (sending_name salt x.seal.key))
    (highest (reported_in inputs) (sending_name salt x.seal.key))) it.salt later.within in
    record {
      above = omega (arith, it.floors name, above);
      within = omega (arith, within, reserves k input name, first_report input inputs name);
    }) (sent_renewing after inputs) (each_between inputs after (it.keeps ∙ keeps)))

-- ---- the key of what is sent, at its moment

pub record IsSentAt (states : ℕ → State) (x : SentIn) : Type 0 where
  pub moment : ℕ
  pub key : InstalledKey
  pub there : Contains (states moment).keys key
  pub used : uses (states moment) key.number ≡ true
  pub bytes : x.seal.key ≡ key.bytes
  pub unused : key.first_unused ≤ x.number
  pub most : x.number ≤ last_of key.suite
  pub iv : x.seal.iv ≡ iv_of key.suite (states moment).config.sci key.ssci key.salt x.number

-- the SA that protects a client frame uses its key
is_on : (s : State) (frame : List ℕ) (row : TxRow) → (sending_of s frame).by ≡ Some row → row_on s.tx ≡ Some row
is_on s frame row by = by_case (sent_by (tx_options s) s.keys s.tx frame)
  where
    by_case : ((sending_of s frame).by ≡ None) ⊎ ((sending_of s frame).by ≡ row_on s.tx) → row_on s.tx ≡ Some row
    by_case (inl none) = let no : None ≡ Some row = sym none ∙ by in cc
    by_case (inr on) = sym on ∙ by

pub is_used : (s : State) (frame : List ℕ) (row : TxRow) → (sending_of s frame).by ≡ Some row → uses s row.key ≡ true
is_used s frame row by = by_test (tx_uses s.tx row.key) refl
  where
    by_test : (b : Bool) → tx_uses s.tx row.key ≡ b → (b || rx_uses s.rx.rows row.key) ≡ true
    by_test true used = refl
    by_test false unused =
        let other : (row.key == row.key) ≡ false =
        found_unused (λ (r : TxRow). r.key == row.key) (λ (r : TxRow). r.on) s.tx row unused (is_on s frame row by) in
        absurd (let no : true ≡ false = sym (eq-eqb row.key row.key refl) ∙ other in cc)

sent_first : EndpointLaws → (k : Keeping) (inputs : Inputs) → IsSound k.secy → {input : KeepingInput} {x : SentIn} →
    IsNew k input x → IsSentAt (λ n. (renewing_after k (take n (input ∷ inputs))).secy) x
sent_first laws k inputs sound (is_new frame row fits by go) =
    let s = k.secy in
    let it = laws.protects s frame row sound fits by in
    let found = (laws.keys_apart s sound).found row.key it.there in
    record {
      moment = 0;
      key = the_key s.keys row.key;
      there = found.there;
      used = ap (uses s) found.number ∙ is_used s frame row by;
      bytes = refl;
      unused = it.unused;
      most = it.most;
      iv = refl;
    }

pub each_sent : EndpointLaws → (inputs : Inputs) (k : Keeping) → StaysSoundRenewing k inputs →
    All (IsSentAt (λ n. (renewing_after k (take n inputs)).secy)) (sent_renewing k inputs)
each_sent laws [] k sound = All-nil _
each_sent laws (input ∷ inputs) k sound =
    let after = (renewing_step k input).1 in
    All-append (IsSentAt (λ n. (renewing_after k (take n (input ∷ inputs))).secy)) (newly_sent k input)
    (sent_renewing after inputs)
    (λ i d within. sent_first laws k inputs (sound 0) (each_new k input i d within))
    (All-weaker (IsSentAt (λ n. (renewing_after after (take n inputs)).secy))
    (IsSentAt (λ n. (renewing_after k (take n (input ∷ inputs))).secy)) (λ x it. record {
      moment = suc it.moment;
      key = it.key;
      there = it.there;
      used = it.used;
      bytes = it.bytes;
      unused = it.unused;
      most = it.most;
      iv = it.iv;
    }) (sent_renewing after inputs) (each_sent laws inputs after (λ n. sound (suc n))))

-- ---- packet numbers rise in one run

taken_again : (m n : ℕ) (xs : Inputs) → (i : ℕ) × (take m (take n xs) ≡ take i xs)
taken_again (suc m) (suc n) (x ∷ xs) = let it = taken_again m n xs in (suc it.0, ap (λ ys. x ∷ ys) it.1)
taken_again m n xs = (0, refl)

-- the first inputs of a sound run
sound_first : (k : Keeping) (inputs : Inputs) (n : ℕ) → StaysSoundRenewing k inputs →
    StaysSoundRenewing k (take n inputs)
sound_first k inputs n sound m =
    let it = taken_again m n inputs in
    subst (λ (first : Inputs). IsSound (renewing_after k first).secy) (sym it.1) (sound it.0)

rises_above : EndpointLaws → RenewingLaws → (inputs : Inputs) (k : Keeping) → StaysSoundRenewing k inputs →
    (x : SentIn) → IsFrom k.secy x.seal x.number → (y : SentIn) →
    IsSentAt (λ n. (renewing_after k (take n inputs)).secy) y → Rises x y
rises_above laws renews inputs k sound x from y it bytes =
    let s = k.secy in
    let first = take it.moment inputs in
    let t = (renewing_after k first).secy in
    let here : key_row s.keys from.key.number ≡ Some from.key =
    (laws.keys_apart s (sound 0)).by_number from.key from.there in
    let there : key_row t.keys it.key.number ≡ Some it.key =
    (laws.keys_apart t (sound it.moment)).by_number it.key it.there in
    let later = renews.octets k first from.key.number from.key it.key.number it.key (sound_first k inputs it.moment
    sound) here there it.used (sym it.bytes ∙ sym bytes ∙ from.bytes) in
    omega (arith, from.used, later.first_unused, it.unused)

rises_after : EndpointLaws → RenewingLaws → (inputs : Inputs) (k : Keeping) → StaysSoundRenewing k inputs →
    (x : SentIn) → IsSentBy k.secy x → All (Rises x) (sent_renewing k inputs)
rises_after laws renews inputs k sound x sent i d within =
    rises_above laws renews inputs k sound x sent.from (get_or (sent_renewing k inputs) i d)
    (each_sent laws inputs k sound i d within)

sent_now : EndpointLaws → (k : Keeping) (input : KeepingInput) → IsSound k.secy →
    All (IsSentBy (renewing_step k input).1.secy) (newly_sent k input)
sent_now laws k (endpoint_input (client_frame frame)) sound =
    by_input laws k (endpoint_input (client_frame frame)) sound
sent_now laws k input sound = All-nil _

pub rises_in_run : EndpointLaws → RenewingLaws → (inputs : Inputs) (k : Keeping) → StaysSoundRenewing k inputs →
    AllPairs Rises (sent_renewing k inputs)
rises_in_run laws renews [] k sound = no_pairs Rises
rises_in_run laws renews (input ∷ inputs) k sound =
    let after = (renewing_step k input).1 in
    let sound' : StaysSoundRenewing after inputs = λ n. sound (suc n) in
    pairs-append Rises (newly_sent k input) (sent_renewing after inputs)
    (new_pairs k input) (rises_in_run laws renews inputs after sound')
    (All-weaker (IsSentBy after.secy) (λ x. All (Rises x) (sent_renewing after inputs))
    (λ x it. rises_after laws renews inputs after sound' x it) (newly_sent k input) (sent_now laws k input (sound 0)))

-- ---- over runs

above_used : (later : Run) (x y : SentIn) → Covers later x y → IsBetween (opening later) later.inputs y → Rises x y
above_used later x y covers it bytes = omega (
  arith,
  covers bytes,
  it.above,
  reduced_reserves (reservations later.journal) (sending_name (salt_of later.journal) y.seal.key),
)

pub rises_between : (run q : Run) → KeepsUsedRenewing run q →
    All (λ x. All (Rises x) (sent_in_renewing q)) (sent_in_renewing run)
rises_between run q keeps i d within j e within' =
    above_used q (get_or (sent_in_renewing run) i d) (get_or (sent_in_renewing q) j e)
    (keeps i d within j e within') (each_between q.inputs (opening q) refl j e within')

rises_to_later : (run : Run) (later : List Run) → All (KeepsUsedRenewing run) later →
    All (λ x. All (Rises x) (sent_in_all_renewing later)) (sent_in_renewing run)
rises_to_later run [] keeps i d within = All-nil _
rises_to_later run (q ∷ qs) keeps i d within = All-append (Rises (get_or (sent_in_renewing run) i d)) _ _
    (rises_between run q (All-head (KeepsUsedRenewing run) q qs keeps) i d within)
    (rises_to_later run qs (All-tail (KeepsUsedRenewing run) q qs keeps) i d within)

pub rises_if_used_is_kept_renewing : EndpointLaws → RenewingLaws → (runs : List Run) → RisesIfUsedIsKeptRenewing runs
rises_if_used_is_kept_renewing laws renews [] sounds keeps = no_pairs Rises
rises_if_used_is_kept_renewing laws renews (run ∷ runs) sounds keeps =
    pairs-append Rises (sent_in_renewing run) (sent_in_all_renewing runs)
    (rises_in_run laws renews run.inputs (opening run) (All-head IsSoundRunRenewing run runs sounds))
    (rises_if_used_is_kept_renewing laws renews runs (All-tail IsSoundRunRenewing run runs sounds)
    (pairs-tail KeepsUsedRenewing run runs keeps))
    (rises_to_later run runs (pairs-head KeepsUsedRenewing run runs keeps))

-- ---- no IV comes twice

used_in : {states : ℕ → State} {x : SentIn} (it : IsSentAt states x) → IsUsedIn states it.key
used_in it = record { moment = it.moment; there = it.there; used = it.used }

differs : EndpointLaws → (states later : ℕ → State) → ((n : ℕ) → IsSound (states n)) → ((n : ℕ) → IsSound (later n)) →
    AgreeOnUsedKeys states later → (x y : SentIn) → IsSentAt states x → IsSentAt later y → Rises x y → OtherSeal x y
differs laws states later sound sound' agree x y first second rises bytes iv =
    numbers_tell laws (states first.moment) (later second.moment) (sound first.moment) (sound' second.moment)
    first.key second.key first.there second.there
    (agree first.key second.key (used_in first) (used_in second) (sym first.bytes ∙ bytes ∙ second.bytes))
    x.number y.number first.most second.most (rises bytes) (sym first.iv ∙ iv ∙ second.iv)

differs_between : EndpointLaws → (run q : Run) → IsSoundRunRenewing run → IsSoundRunRenewing q → AgreeRenewing run q →
    KeepsUsedRenewing run q → All (λ x. All (OtherSeal x) (sent_in_renewing q)) (sent_in_renewing run)
differs_between laws run q sound sound' agree keeps i d within j e within' =
    differs laws (states_renewing run) (states_renewing q) sound sound' agree
    (get_or (sent_in_renewing run) i d) (get_or (sent_in_renewing q) j e)
    (each_sent laws run.inputs (opening run) sound i d within)
    (each_sent laws q.inputs (opening q) sound' j e within') (rises_between run q keeps i d within j e within')

differs_to_later : EndpointLaws → (run : Run) → IsSoundRunRenewing run → (later : List Run) →
    All IsSoundRunRenewing later → All (AgreeRenewing run) later → All (KeepsUsedRenewing run) later →
    All (λ x. All (OtherSeal x) (sent_in_all_renewing later)) (sent_in_renewing run)
differs_to_later laws run sound [] sounds agree keeps i d within = All-nil _
differs_to_later laws run sound (q ∷ qs) sounds agree keeps i d within =
    All-append (OtherSeal (get_or (sent_in_renewing run) i d)) _ _
    (differs_between laws run q sound (All-head IsSoundRunRenewing q qs sounds) (All-head (AgreeRenewing run) q qs
    agree) (All-head (KeepsUsedRenewing run) q qs keeps) i d within)
    (differs_to_later laws run sound qs (All-tail IsSoundRunRenewing q qs sounds) (All-tail (AgreeRenewing run) q qs
    agree) (All-tail (KeepsUsedRenewing run) q qs keeps) i d within)

seals_renewing : (inputs : Inputs) (k : Keeping) → map seal_of (sent_renewing k inputs) ≡ sealed_renewing k inputs
seals_renewing [] k = refl
seals_renewing (input ∷ inputs) k = rw (
  map-append seal_of (newly_sent k input) (sent_renewing (renewing_step k input).1 inputs),
  seals_of_input k input,
  seals_renewing inputs _,
)

pub seals_renewing_in_all : (runs : List Run) → map seal_of (sent_in_all_renewing runs) ≡ sealed_in_all_renewing runs
seals_renewing_in_all [] = refl
seals_renewing_in_all (run ∷ runs) = rw (
  map-append seal_of (sent_in_renewing run) (sent_in_all_renewing runs),
  seals_renewing run.inputs (opening run),
  seals_renewing_in_all runs,
)

pub across_seals : (xs ys : List SentIn) → All (λ x. All (OtherSeal x) ys) xs →
    All (λ u. All (HasOtherIv u) (map seal_of ys)) (map seal_of xs)
across_seals xs ys across = All-map (λ u. All (HasOtherIv u) (map seal_of ys)) seal_of xs
    (All-weaker (λ x. All (OtherSeal x) ys) (λ x. All (HasOtherIv x.seal) (map seal_of ys))
    (λ x all. All-map (HasOtherIv x.seal) seal_of ys all) xs across)

pub no_iv_if_used_is_kept_renewing : EndpointLaws → RenewingLaws → (runs : List Run) → NoIvIfUsedIsKeptRenewing runs
no_iv_if_used_is_kept_renewing laws renews [] sounds agree keeps = no_pairs HasOtherIv
no_iv_if_used_is_kept_renewing laws renews (run ∷ runs) sounds agree keeps =
    let sound = All-head IsSoundRunRenewing run runs sounds in
    let rest = All-tail IsSoundRunRenewing run runs sounds in
    pairs-append HasOtherIv (sealed_renewing (opening run) run.inputs) (sealed_in_all_renewing runs)
    (renews.ivs (opening run) run.inputs sound)
    (no_iv_if_used_is_kept_renewing laws renews runs rest (pairs-tail AgreeRenewing run runs agree)
    (pairs-tail KeepsUsedRenewing run runs keeps))
    (subst (All (λ u. All (HasOtherIv u) (sealed_in_all_renewing runs))) (seals_renewing run.inputs (opening run))
    (subst (λ vs. All (λ u. All (HasOtherIv u) vs) (map seal_of (sent_in_renewing run))) (seals_renewing_in_all runs)
    (across_seals (sent_in_renewing run) (sent_in_all_renewing runs) (differs_to_later laws run sound runs rest
    (pairs-head AgreeRenewing run runs agree) (pairs-head KeepsUsedRenewing run runs keeps)))))

-- ---- a later run that reads what was reported durable reads what was used

covered : (run later : Run) → SameSalt run later → KeepsDurable run later → (x : SentIn) →
    IsBetween (opening run) run.inputs x → (y : SentIn) → Covers later x y
covered run later salt durable x it y bytes =
    let name = sending_name (salt_of run.journal) x.seal.key in
    let here : x.number ≤ highest (reservations later.journal) name = omega (arith, it.within, durable name) in
    rw salt (rw bytes at here)

pub is_weaker_renewing : (run later : Run) → SameSalt run later → KeepsDurable run later → KeepsUsedRenewing run later
is_weaker_renewing run later salt durable i d within j e within' =
    covered run later salt durable (get_or (sent_in_renewing run) i d)
    (each_between run.inputs (opening run) refl i d within) (get_or (sent_in_renewing later) j e)
