-- Once within one run, of endpoints that renew keys: at a window of 0, what is delivered from an SA after a frame was
-- accepted from it has a higher packet number.
use Rattle.macsec_restarts.{
  proofs.{
    AheadEnds.past_of,
    AheadInside.step_inside,
    AheadPast.{IsPast, new_delivery},
    Names.{[], ◌+◌, ◌∙◌, ◌∷◌, ◌≡◌, ◌≤◌, ◌⊎◌, Ahead, ahead_step, All, All-contains, Bool, Contains, Delivery},
    Names.{endpoint_input, EndpointLaws, false, if◌then◌else◌, inl, Inputs, inr, is_valid, IsAbove, IsGivenUp, IsSound},
    Names.{Keeping, KeepingInput, KeepsAssociation, lets_through, link_frame, List, member, newly_accepted},
    Names.{newly_delivered, newly_delivered_with, refl, Sci, subst, suc, sym, the_key, true, ℕ},
    RenewingAhead.goes_inside,
    RenewingEnds.{after_same, next_of},
    RenewingKeys.{GivingUp, IsOver, over_now},
    RenewingPast.{behind_next, IsAlive, IsBehind, some_key},
    RenewingSaved.{above_on, keeps_by},
    RenewingSends.{IsSoundFrom, sound_after},
    RenewingSteps.renewing_is,
    RowSteps.{below_above, delivers_above, each_given, IsBelowNext, IsGiven, next_above},
  },
  specs.{
    OneRun.DeliversAboveAccepted,
    RenewingRuns.{ahead_renewing_after, ahead_renewing_step},
  },
}

-- ---- what an input delivers and accepts

record IsDelivered (a : Ahead) (input : KeepingInput) (d : Delivery) : Type 0 where
  lets : lets_through a input ≡ true
  given : IsGiven a.k.secy input d

is_delivered : (a : Ahead) (input : KeepingInput) (d : Delivery) → Contains (newly_delivered_with a input) d →
    IsDelivered a input d
is_delivered a input d = by_lets (lets_through a input) refl
  where
    by_lets : (b : Bool) → lets_through a input ≡ b → Contains (if b then newly_delivered a.k input else []) d →
        IsDelivered a input d
    by_lets true lets there = record {
      lets = lets;
      given = All-contains (IsGiven a.k.secy input) (newly_delivered a.k input) d (each_given a.k input) there;
    }
    by_lets false lets there = absurd (member [] d there)

is_accepted : (a : Ahead) (input : KeepingInput) (d : Delivery) → Contains (newly_accepted a input) d →
    (is_valid a.k.secy input ≡ true) × IsDelivered a input d
is_accepted a input d = by_test (is_valid a.k.secy input) refl
  where
    by_test : (b : Bool) → is_valid a.k.secy input ≡ b → Contains (if b then newly_delivered_with a input else []) d →
        (is_valid a.k.secy input ≡ true) × IsDelivered a input d
    by_test true valid there = (valid, is_delivered a input d there)
    by_test false valid there = absurd (member [] d there)

-- ---- a frame that is accepted at a window of 0

module _ (laws : EndpointLaws) (giving : GivingUp) (bytes : List ℕ) (sci : Sci) (an : ℕ) where
  abbrev Behind : Ahead → ℕ → Type 0
  Behind = IsBehind laws bytes sci an giving

  of_past : (a : Ahead) (d : Delivery) → IsSound a.k.secy → IsPast laws bytes sci an a d →
      ((n : ℕ) × IsAlive laws bytes sci an giving a d.number n) ⊎ IsOver a.k bytes
  of_past a d sound it = by_past it.past
    where
      by_past : IsGivenUp a.k.secy it.key ⊎ (d.number ≤ past_of a it.key sci an) →
          ((n : ℕ) × IsAlive laws bytes sci an giving a d.number n) ⊎ IsOver a.k bytes
      by_past (inl up) = inr (subst (IsOver a.k) it.octets (over_now a.k (laws.keys_apart a.k.secy sound) it.key
          (the_key a.k.secy.keys it.key) (some_key a.k.secy.keys it.key it.there) up))
      by_past (inr past) = inl (
        it.key,
        record {
          row = the_key a.k.secy.keys it.key;
          found = some_key a.k.secy.keys it.key it.there;
          octets = it.octets;
          past = past;
        },
      )

  not_valid : false ≡ true → ⊥
  not_valid is = cc

  -- the SA is above it afterwards
  above_now : (a : Ahead) (input : KeepingInput) → IsSound a.k.secy → lets_through a input ≡ true →
      is_valid a.k.secy input ≡ true → (g : Delivery) → IsGiven a.k.secy input g → g.sci ≡ sci → g.an ≡ an →
      IsAbove (ahead_renewing_step a input).1.k.secy.rx.rows sci an (g.number + 1)
  above_now a (endpoint_input (link_frame frame)) sound lets valid g given is_sci is_an =
      let input = endpoint_input (link_frame frame) in
      subst (λ (k : Keeping). IsAbove k.secy.rx.rows sci an (g.number + 1)) (sym (step_inside a input true lets))
      (next_above laws sci an a.k sound input g given valid is_sci is_an)
  above_now a input sound lets valid g given is_sci is_an = absurd (not_valid valid)

  -- at a window of 0, no later SA of its place, under the same key octets, is at or below it
  pub behind_now : (a : Ahead) (input : KeepingInput) → IsSound a.k.secy →
      IsSound (ahead_renewing_step a input).1.k.secy → lets_through a input ≡ true → is_valid a.k.secy input ≡ true →
      a.k.secy.options.window ≡ 0 → (g : Delivery) → IsGiven a.k.secy input g → g.bytes ≡ bytes → g.sci ≡ sci →
      g.an ≡ an → Behind (ahead_renewing_step a input).1 g.number
  behind_now a (endpoint_input (link_frame frame)) sound sound' lets valid window g given is_bytes is_sci is_an =
      let input = endpoint_input (link_frame frame) in
      let after = (ahead_step a input).1 in
      let new = new_delivery laws bytes sci an a input sound sound' lets valid window g given is_bytes is_sci is_an in
      record {
        past = of_past after g sound' new.past;
        below = below_above after.k.secy bytes sci an g.number
            (above_now a input sound lets valid g given is_sci is_an);
      }
  behind_now a input sound sound' lets valid window g given is_bytes is_sci is_an = absurd (not_valid valid)

  behind_after : (inputs : Inputs) (a : Ahead) (d : ℕ) → IsSoundFrom a inputs → a.k.keeps ≡ true → Behind a d →
      Behind (ahead_renewing_after a inputs) d
  behind_after [] a d sound keeps it = it
  behind_after (input ∷ inputs) a d sound keeps it =
      let one = goes_inside a input in
      behind_after inputs (ahead_renewing_step a input).1 d (λ n. sound (suc n)) (one.keeps ∙ keeps)
      (behind_next laws bytes sci an giving a input d (sound 0) (sound 1) keeps it)

-- an SA that is not deleted stays above it
above_still : (sci : Sci) (an n : ℕ) (inputs : Inputs) (a : Ahead) → All (KeepsAssociation sci an) inputs →
    IsAbove a.k.secy.rx.rows sci an n → IsAbove (ahead_renewing_after a inputs).k.secy.rx.rows sci an n
above_still sci an n inputs a stays above =
    subst (λ (x : Ahead). IsAbove x.k.secy.rx.rows sci an n) (after_same inputs a)
    (above_on next_of renewing_is (KeepsAssociation sci an) sci an n (keeps_by sci an) inputs a stays above)

pub delivers_above_accepted : EndpointLaws → GivingUp → (a : Ahead) (input : KeepingInput) (inputs : Inputs)
    (last : KeepingInput) → DeliversAboveAccepted a input inputs last
delivers_above_accepted laws giving a input inputs last keeps sound replay window d e here there same side =
    let later = is_delivered now last e there in
    delivers_above laws d.sci d.an d.bytes now.k.secy (sound_after (input ∷ inputs) a sound) replay window last e
    later.given (sym same.bytes) (sym same.sci) (sym same.an) d.number (below side)
  where
    now : Ahead
    now = ahead_renewing_after a (input ∷ inputs)

    after : Ahead
    after = (ahead_renewing_step a input).1

    first : (is_valid a.k.secy input ≡ true) × IsDelivered a input d
    first = is_accepted a input d here

    below : (a.k.secy.options.window ≡ 0) ⊎ All (KeepsAssociation d.sci d.an) inputs →
        IsBelowNext now.k.secy d.bytes d.sci d.an d.number
    below (inl none) =
        let one = goes_inside a input in
        let behind = behind_after laws giving d.bytes d.sci d.an inputs after d.number (λ n. sound (suc n))
        (one.keeps ∙ keeps) (behind_now laws giving d.bytes d.sci d.an a input (sound 0) (sound 1) first.1.lets first.0
        none d first.1.given refl refl refl) in
        behind.below
    below (inr stays) = below_above now.k.secy d.bytes d.sci d.an d.number
        (above_still d.sci d.an (d.number + 1) inputs after stays
        (above_now laws giving d.bytes d.sci d.an a input (sound 0) first.1.lets first.0 d first.1.given refl refl))
