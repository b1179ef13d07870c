-- Endpoints that forget retired keys: what they list of deliveries, and what no step changes.
use Rattle.macsec_reserve.specs.{Forgetting.command_taken}
use Rattle.macsec_restarts.{
  proofs.{
    AheadForgets.forgetting_is,
    AheadInside.{delivers_each_listed_with, matches_by, option_by, taken_step},
    Listed.{delivers_each_listed, delivers_from_sas},
    Names.{[], ◌<◌, ◌∙◌, ◌∷◌, ◌≡◌, ◌≤◌, AgreeOnKey, Ahead, ahead_by, ahead_forgetting_step, All-map, AllPairs},
    Names.{AllPairs-cons, Answer, ap, arith, begins_again, Bool, Contains, endpoint_input, endpoint_output},
    Names.{EndpointLaws, false, forgetting_step, HasOtherIv, highest, Input, Inputs, InstalledKey, IsFromSa, IsSound},
    Names.{iv_of, iv_of_parts, IvParts, Keeping, keeping_step, KeepingInput, KeepingOutput, key_row_facts, last_of},
    Names.{List, map, MatchesDeliveries, max, newly_delivered, no_pairs, None, now_durable, operator_command, Option},
    Names.{pairs-head, pairs-tail, passes, received, refl, reported_in, retired_by, SentIn, Some, Standing, State},
    Names.{taken, then_forget, ℕ},
  },
  specs.StrictLists.{DeliversEachListedForgetting, DeliversFromSasForgetting, DeliversFromSasWith, IsFromSaWith},
}

-- forgetting changes no output
pub same_output : (o : Option ℕ) (answer : Answer) → (then_forget o answer).0 ≡ answer.0
same_output None _ = refl
same_output (Some n) _ = refl

-- ---- in the mode Strict

from_sa_by : (again : Bool) (it : Standing) (a : Ahead) (input : Input) (answer : Answer) →
    IsFromSa answer.0 → IsFromSaWith (ahead_by again it a input answer).0
from_sa_by false passes a _ _ is = is
from_sa_by _ _ a _ _ _ = tt

pub delivers_from_sas_with : (a : Ahead) (input : KeepingInput) → DeliversFromSasWith a input
delivers_from_sas_with a (now_durable r) _ = tt
delivers_from_sas_with a (endpoint_input input) strict =
    from_sa_by _ _ a input _ (delivers_from_sas a.k (endpoint_input input) strict)

pub delivers_from_sas_forgetting : (a : Ahead) (input : KeepingInput) → DeliversFromSasForgetting a input
delivers_from_sas_forgetting a (now_durable r) = delivers_from_sas_with a (now_durable r)
delivers_from_sas_forgetting a (endpoint_input (operator_command c)) = λ strict.
    let command = endpoint_input (operator_command c) in
    from_sa_by (begins_again a (operator_command c)) passes a (operator_command c) (forgetting_step a.k command)
    (rw (same_output (retired_by command) (keeping_step a.k (taken a.k command)))
    (delivers_from_sas a.k (taken a.k command) strict))
delivers_from_sas_forgetting a input = delivers_from_sas_with a input

-- ---- the list

-- two inputs that add the same match the same outputs
recast : (k : Keeping) (i i' : KeepingInput) → newly_delivered k i ≡ newly_delivered k i' → (o : KeepingOutput) →
    MatchesDeliveries k i' o → MatchesDeliveries k i o
recast k i _ same (endpoint_output (received _ (Some _) _ (Some _))) it =
    record { delivery = it.delivery; one = same ∙ it.one; of_sci = it.of_sci; of_an = it.of_an; of_frame = it.of_frame }
recast k i _ same o it = same ∙ it

pub delivers_each_listed_forgetting : (a : Ahead) (input : KeepingInput) → DeliversEachListedForgetting a input
delivers_each_listed_forgetting a (now_durable r) = delivers_each_listed_with a (now_durable r)
delivers_each_listed_forgetting a (endpoint_input (operator_command c)) =
    let command = endpoint_input (operator_command c) in
    let told = endpoint_input (operator_command (command_taken a.k c)) in
    matches_by a command _ _ passes _ refl (rw (same_output _ _) (recast a.k command told refl _
    (delivers_each_listed a.k told)))
delivers_each_listed_forgetting a input = delivers_each_listed_with a input

-- ---- no command changes the option, nor what is reserved ahead

pub option_kept : (l : Ahead) (input : KeepingInput) → (ahead_forgetting_step l input).1.ahead ≡ l.ahead
option_kept l (now_durable r) = refl
option_kept l (endpoint_input input) = ap (λ x. x.1.ahead) (forgetting_is l input) ∙ (option_by _ _ l input _).0

pub taken_kept : (l : Ahead) (input : KeepingInput) (inputs : Inputs) (name : List ℕ) →
    max (highest (ahead_forgetting_step l input).1.taken name) (highest (reported_in inputs) name) ≤ max
    (highest l.taken name) (highest (reported_in (input ∷ inputs)) name)
taken_kept l (now_durable r) inputs name = taken_step l (now_durable r) inputs name
taken_kept l (endpoint_input input) _ name =
    let same : highest (ahead_forgetting_step l (endpoint_input input)).1.taken name ≡ highest l.taken name =
    ap (λ x. highest x.1.taken name) (forgetting_is l input) ∙ ap (λ rs. highest rs name) (option_by _ _ l input _).1 in
    omega (arith, same)

-- ---- no IV twice

pub pairs-map : {X Y : Type 0} (f : X → Y) (R : Y → Y → Type 0) (xs : List X) → AllPairs (λ x y. R (f x) (f y)) xs →
    AllPairs R (map f xs)
pairs-map f R [] _ = no_pairs R
pairs-map f R (x ∷ xs) pairs =
    AllPairs-cons R (f x) _ (All-map (R (f x)) f xs (pairs-head (λ y z. R (f y) (f z)) x xs pairs))
    (pairs-map f R xs (pairs-tail (λ y z. R (f y) (f z)) x xs pairs))

abbrev pub OtherSeal : SentIn → SentIn → Type 0
OtherSeal x y = HasOtherIv x.seal y.seal

-- keys that agree, with the octets of the same key: other packet numbers give other IVs
pub numbers_tell : EndpointLaws → (s t : State) → IsSound s → IsSound t → (x y : InstalledKey) → Contains s.keys x →
    Contains t.keys y → AgreeOnKey x y → (n m : ℕ) → n ≤ last_of x.suite → m ≤ last_of y.suite → n < m →
    iv_of x.suite s.config.sci x.ssci x.salt n ≡ iv_of y.suite t.config.sci y.ssci y.salt m → ⊥
numbers_tell laws s t sound sound' x y here there agree n m n_most m_most less iv =
    let facts = key_row_facts laws s x sound here in
    let facts' = key_row_facts laws t y sound' there in
    let p : IvParts = record { sci = s.config.sci; ssci = x.ssci; salt = x.salt; pn = n } in
    let q : IvParts = record { sci = t.config.sci; ssci = y.ssci; salt = y.salt; pn = m } in
    let same : iv_of_parts x.suite p ≡ iv_of_parts x.suite q = rw (iv, ← agree.suite) in
    let equal = laws.equal_ivs x.suite p q
    (record { sci = sound.own_sci.count; ssci = facts.ssci; salt = facts.salt; pn = n_most })
    (record { sci = sound'.own_sci.count; ssci = facts'.ssci; salt = facts'.salt; pn = rw agree.suite m_most })
    agree.salt same in
    omega (arith, equal.pn, less)
