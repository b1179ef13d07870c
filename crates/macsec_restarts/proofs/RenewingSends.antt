-- What the runs of an endpoint that renews keys send: the key of each frame at its moment, and the key of its octets
-- later.
use Rattle.macsec_link.proofs.Seals.{are_own_parts, own_parts}
use Rattle.macsec_link.proofs.EndpointLaws.{differ}
use Rattle.macsec_reserve.specs.{
  Forgetting.as_taken,
  Renewing.{forgetting_refusal, unless_refused as unless_not_taken},
  RenewingRuns.{renewing_after, renewing_step, StaysSoundRenewing},
}
use Rattle.macsec_restarts.{
  proofs.{
    AheadForgets.forgets_field,
    Forgetting.OtherSeal,
    Names.{[], ◌∙◌, ◌∷◌, ◌≡◌, ◌≤◌, Ahead, All, All-append, All-contains, All-head, All-nil, All-tail, All-weaker, ap},
    Names.{Bool, contained, Contains, endpoint_input, EndpointLaws, false, get_or, HasOtherIv, if◌then◌else◌, inl},
    Names.{Inputs, inr, InstalledKey, IsMember, IsSound, iv_of, iv_of_parts, IvParts, Keeping, keeping_step},
    Names.{KeepingInput, Key, last_of, lets_through, List, map, newly_sent, None, operator_command, Option},
    Names.{pairs-append, refl, Refusal, retired_by, RunWith, seal_of, SentIn, Some, subst, suc, sym, take, taken},
    Names.{the_key, true, ℕ},
    RenewingAhead.{moment_inside, no_iv_if_used_is_kept_with, renewing_stays, renews_inside, through_renewing},
    RenewingKeepers.{across_seals, is_used, RenewingLaws},
    Sends.{each_new, is_new, IsNew, keys_stay},
  },
  specs.RenewingOrder.{AreOfTwoEndsWith, NoIvAtBothRenewing},
  specs.RenewingRuns.{ahead_renewing_after, ahead_renewing_step, IsSoundRun, IsUsedIn, opening_of, sent_by_all},
  specs.RenewingRuns.{sent_by_run, sent_from_renewing, states_of},
}
use Rattle.macsec_secy.specs.{Commands.uses, Kept.IsLaterKey, Protects.OpensAs}
use Rattle.macsec_suite.specs.{
  IvLaws.AreIvParts,
  KeyRows.key_row,
  declared.{key_row.NewKey.NewKey, suite.Suite.Suite},
}

-- ---- a step

-- what holds of the keeping endpoint inside, and of it after its step, holds of it after a step
pub by_renewing : (P : Keeping → Type 0) (a : Ahead) (input : KeepingInput) → P a.k → P (renewing_step a.k input).1 →
    P (ahead_renewing_step a input).1.k
by_renewing P a input stays goes = by_test (lets_through a input) refl
  where
    by_test : (b : Bool) → lets_through a input ≡ b → P (ahead_renewing_step a input).1.k
    by_test true is = subst P (sym (renews_inside a input is)) goes
    by_test false is = subst P (sym (ap (λ (x : Ahead). x.k) (renewing_stays a input is))) stays

-- the configuration stays
config_by : (r : Option Refusal) (key : NewKey) (k : Keeping) → (unless_not_taken r key k).secy.config ≡ k.secy.config
config_by None key k = refl
config_by (Some r) key k = refl

config_renewing : EndpointLaws → (k : Keeping) (input : KeepingInput) → IsSound k.secy →
    (renewing_step k input).1.secy.config ≡ k.secy.config
config_renewing laws k (endpoint_input (operator_command (Key key))) sound =
    config_by (forgetting_refusal k key) (as_taken k key) k
config_renewing laws k input sound = forgets_field (λ x. x.secy.config) (λ x n. refl) (retired_by input)
    (keeping_step k (taken k input)) ∙ (keys_stay laws k (taken k input) sound).config

config_step : EndpointLaws → (a : Ahead) (input : KeepingInput) → IsSound a.k.secy →
    (ahead_renewing_step a input).1.k.secy.config ≡ a.k.secy.config
config_step laws a input sound =
    by_renewing (λ k. k.secy.config ≡ a.k.secy.config) a input refl (config_renewing laws a.k input sound)

-- ---- inputs to come

-- the endpoint is sound now, and after each of these inputs
abbrev pub IsSoundFrom : Ahead → Inputs → Type 0
IsSoundFrom a inputs = (n : ℕ) → IsSound (ahead_renewing_after a (take n inputs)).k.secy

pub sound_after : (inputs : Inputs) (a : Ahead) → IsSoundFrom a inputs →
    IsSound (ahead_renewing_after a inputs).k.secy
sound_after [] a sound = sound 0
sound_after (input ∷ inputs) a sound = sound_after inputs (ahead_renewing_step a input).1 (λ n. sound (suc n))

pub config_after : EndpointLaws → (inputs : Inputs) (a : Ahead) → IsSoundFrom a inputs →
    (ahead_renewing_after a inputs).k.secy.config ≡ a.k.secy.config
config_after laws [] a sound = refl
config_after laws (input ∷ inputs) a sound =
    config_after laws inputs (ahead_renewing_step a input).1 (λ n. sound (suc n)) ∙ config_step laws a input (sound 0)

inside_after : (inputs : Inputs) (a : Ahead) →
    renewing_after a.k (through_renewing a inputs) ≡ (ahead_renewing_after a inputs).k
inside_after [] a = refl
inside_after (input ∷ inputs) a =
    by_test (lets_through a input) refl (inside_after inputs (ahead_renewing_step a input).1)
  where
    after : Ahead
    after = (ahead_renewing_step a input).1

    rest : Inputs
    rest = through_renewing after inputs

    by_test : (b : Bool) → lets_through a input ≡ b →
        renewing_after after.k rest ≡ (ahead_renewing_after after inputs).k →
        renewing_after a.k (if b then input ∷ rest else rest) ≡ (ahead_renewing_after after inputs).k
    by_test true is later = ap (λ k. renewing_after k rest) (sym (renews_inside a input is)) ∙ later
    by_test false is later =
        ap (λ k. renewing_after k rest) (sym (ap (λ (x : Ahead). x.k) (renewing_stays a input is))) ∙ later

sound_through : (inputs : Inputs) (a : Ahead) → IsSoundFrom a inputs →
    StaysSoundRenewing a.k (through_renewing a inputs)
sound_through inputs a sound n =
    let it = moment_inside inputs a n in
    subst (λ (k : Keeping). IsSound k.secy) (sym it.1) (sound it.0)

-- a key that an SA uses later, and that has the octets of a key that is in the table now, is that key
pub one_key : EndpointLaws → RenewingLaws → (inputs : Inputs) (a : Ahead) → IsSoundFrom a inputs →
    (x : InstalledKey) → Contains a.k.secy.keys x → (y : InstalledKey) →
    Contains (ahead_renewing_after a inputs).k.secy.keys y →
    uses (ahead_renewing_after a inputs).k.secy y.number ≡ true → y.bytes ≡ x.bytes → IsLaterKey x y
one_key laws renews inputs a sound x here y there used bytes =
    let same = inside_after inputs a in
    let t = (ahead_renewing_after a inputs).k.secy in
    renews.octets a.k (through_renewing a inputs) x.number x y.number y (sound_through inputs a sound)
    ((laws.keys_apart a.k.secy (sound 0)).by_number x here)
    (subst (λ (k : Keeping). key_row k.secy.keys y.number ≡ Some y) (sym same)
    ((laws.keys_apart t (sound_after inputs a sound)).by_number y there))
    (subst (λ (k : Keeping). uses k.secy y.number ≡ true) (sym same) used) bytes

-- ---- what is sent

-- it is sealed at a moment of these inputs, under a key that an SA uses then; others come after it
pub record IsSentThen (a : Ahead) (inputs : Inputs) (x : SentIn) : Type 0 where
  pub moment : ℕ
  pub rest : Inputs
  pub end : ahead_renewing_after (ahead_renewing_after a (take moment inputs)) rest ≡ ahead_renewing_after a inputs
  pub sound : IsSoundFrom (ahead_renewing_after a (take moment inputs)) rest
  pub config : (ahead_renewing_after a (take moment inputs)).k.secy.config ≡ a.k.secy.config
  pub key : InstalledKey
  pub there : Contains (ahead_renewing_after a (take moment inputs)).k.secy.keys key
  pub used : uses (ahead_renewing_after a (take moment inputs)).k.secy key.number ≡ true
  pub bytes : x.seal.key ≡ key.bytes
  pub most : x.number ≤ last_of key.suite
  pub iv : x.seal.iv ≡
      iv_of key.suite (ahead_renewing_after a (take moment inputs)).k.secy.config.sci key.ssci key.salt x.number
  pub opens : OpensAs x.seal x.frame

sent_now : EndpointLaws → (a : Ahead) (inputs : Inputs) {input : KeepingInput} {x : SentIn} →
    IsSoundFrom a (input ∷ inputs) → IsNew a.k input x → IsSentThen a (input ∷ inputs) x
sent_now laws a inputs sound (is_new frame row fits by go) =
    let s = a.k.secy in
    let it = laws.protects s frame row (sound 0) fits by in
    let found = (laws.keys_apart s (sound 0)).found row.key it.there in
    record {
      moment = 0;
      rest = _;
      end = refl;
      sound = sound;
      config = refl;
      key = the_key s.keys row.key;
      there = found.there;
      used = ap (uses s) found.number ∙ is_used s frame row by;
      bytes = refl;
      most = it.most;
      iv = refl;
      opens = it.opens;
    }

each_sent : EndpointLaws → (inputs : Inputs) (a : Ahead) → IsSoundFrom a inputs →
    All (IsSentThen a inputs) (sent_from_renewing a inputs)
each_sent laws [] a sound = All-nil (IsSentThen a [])
each_sent laws (input ∷ inputs) a sound =
    let after = (ahead_renewing_step a input).1 in
    All-append (IsSentThen a (input ∷ inputs)) (newly_sent a.k input) (sent_from_renewing after inputs)
    (λ i d within. sent_now laws a inputs sound (each_new a.k input i d within))
    (All-weaker (IsSentThen after inputs) (IsSentThen a (input ∷ inputs)) (λ x it. record {
      moment = suc it.moment;
      rest = it.rest;
      end = it.end;
      sound = it.sound;
      config = it.config ∙ config_step laws a input (sound 0);
      key = it.key;
      there = it.there;
      used = it.used;
      bytes = it.bytes;
      most = it.most;
      iv = it.iv;
      opens = it.opens;
    }) (sent_from_renewing after inputs) (each_sent laws inputs after (λ n. sound (suc n))))

-- ---- in one of several runs

pub record IsSentByOne (rs : List RunWith) (x : SentIn) : Type 0 where
  pub run : RunWith
  pub among : IsMember rs run
  pub it : IsSentThen (opening_of run) run.run.inputs x

pub by_runs : EndpointLaws → (rs : List RunWith) → All IsSoundRun rs → All (IsSentByOne rs) (sent_by_all rs)
by_runs laws [] sounds = All-nil (IsSentByOne [])
by_runs laws (r ∷ rs) sounds =
    let P = IsSentByOne (r ∷ rs) in
    All-append P (sent_by_run r) (sent_by_all rs)
    (All-weaker (IsSentThen (opening_of r) r.run.inputs) P (λ x it. record { run = r; among = inl refl; it = it })
    (sent_by_run r) (each_sent laws r.run.inputs (opening_of r) (All-head IsSoundRun r rs sounds)))
    (All-weaker (IsSentByOne rs) P (λ x is. record { run = is.run; among = inr is.among; it = is.it })
    (sent_by_all rs) (by_runs laws rs (All-tail IsSoundRun r rs sounds)))

pub used_then : (r : RunWith) {x : SentIn} (it : IsSentThen (opening_of r) r.run.inputs x) →
    IsUsedIn (states_of r) it.key
used_then r it = record { moment = it.moment; there = it.there; used = it.used }

-- ---- at both ends

differ_across : EndpointLaws → (r q : RunWith) → AreOfTwoEndsWith r q → (x y : SentIn) →
    IsSentThen (opening_of r) r.run.inputs x → IsSentThen (opening_of q) q.run.inputs y → OtherSeal x y
differ_across laws r q two x y it other bytes iv =
    let s = states_of r it.moment in
    let t = states_of q other.moment in
    let same = two.keys it.key other.key (used_then r it) (used_then q other) (sym it.bytes ∙ bytes ∙ other.bytes) in
    let suite = it.key.suite in
    let own : IvParts = own_parts s it.key x.number in
    let theirs : IvParts = own_parts t other.key y.number in
    let equal : iv_of_parts suite own ≡ iv_of_parts suite theirs =
    sym it.iv ∙ iv ∙ other.iv ∙ ap (λ u. iv_of_parts u theirs) (sym same.agree.suite) in
    differ suite own theirs (laws.equal_ivs suite own theirs
    (are_own_parts laws s it.key x.number (it.sound 0) it.there it.most)
    (subst (λ (u : Suite). AreIvParts u theirs) (sym same.agree.suite)
    (are_own_parts laws t other.key y.number (other.sound 0) other.there other.most)) same.agree.salt equal)
    same.ssci (λ scis. two.sci (ap (λ c. c.sci) (sym it.config) ∙ scis ∙ ap (λ c. c.sci) other.config))

pub no_iv_at_both_renewing : EndpointLaws → RenewingLaws → (ra rb : List RunWith) → NoIvAtBothRenewing ra rb
no_iv_at_both_renewing laws renews ra rb a b two =
    pairs-append HasOtherIv (map seal_of (sent_by_all ra)) (map seal_of (sent_by_all rb))
    (no_iv_if_used_is_kept_with laws renews ra a.sound a.agree a.keeps)
    (no_iv_if_used_is_kept_with laws renews rb b.sound b.agree b.keeps)
    (across_seals (sent_by_all ra) (sent_by_all rb) across)
  where
    one_of : (r q : RunWith) → IsMember ra r → IsMember rb q → AreOfTwoEndsWith r q
    one_of r q among among' = All-contains (AreOfTwoEndsWith r) rb q
        (All-contains (λ p. All (AreOfTwoEndsWith p) rb) ra r two (contained ra r among)) (contained rb q among')

    across : All (λ x. All (OtherSeal x) (sent_by_all rb)) (sent_by_all ra)
    across i d within j e within' =
        let is = by_runs laws ra a.sound i d within in
        let is' = by_runs laws rb b.sound j e within' in
        differ_across laws is.run is'.run (one_of is.run is'.run is.among is'.among)
        (get_or (sent_by_all ra) i d) (get_or (sent_by_all rb) j e) is.it is'.it
