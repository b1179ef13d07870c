-- Order and once, of endpoints that renew keys, if later runs read what was sent and delivered before.
use Rattle.macsec_restarts.{
  proofs.{
    InOrder.{each_found, rising},
    Names.{[], ◌&&◌, ◌++◌, ◌<◌, ◌==◌, ◌∙◌, ◌∷◌, ◌≡◌, ◌≤◌, A, Ahead, All, All-append, All-cons, All-contains},
    Names.{All-filter, All-head, All-nil, All-tail, All-weaker, AllPairs, AllPairs-filter, and_from, and_parts, ap},
    Names.{append-nil, append_assoc, arith, AtEach, B, begins, Bool, bytes_eq-Decides, comes_in, contained, Contains},
    Names.{delivered_at, Delivery, delivery_name, End, EndConfig, endpoint_input, EndpointLaws, Events, false},
    Names.{filter-append, get_or, Grammar, Happening, HasStrictOrder, highest, IfSome, if◌then◌else◌, inl, Inputs, inr},
    Names.{InstalledKey, is_subsequence, is_valid, IsSound, KeepingInput, lets_through, link_frame, List, map, member},
    Names.{newly_accepted, newly_delivered, newly_delivered_with, newly_sent, no_pairs, None, numbered_delivery},
    Names.{one_alone, Option, other_end, pairs-append, pairs-head, pairs-tail, receiving_name, reduced_reserves, refl},
    Names.{reservations, Rises, runs_at, RunWith, salt_of, same_octets, same_sci, Sci, sending_name, sent_under},
    Names.{SentIn, Some, subst, sym, take, true, WasSent, ℕ},
    OneRun.behind_now,
    Origins.first_taken,
    Pushed.{at_end, in_front, run_with},
    RenewingAhead.{each_between_with, goes_inside, rises_if_used_is_kept_with, taken_in},
    RenewingKeepers.{Goes, IsBetween, RenewingLaws},
    RenewingKeys.GivingUp,
    RenewingOrigins.{all_sent, delivered_by_run-push, each_run, each_weaker, IsFrom, of_all, sent_by_run-push},
    RenewingOrigins.{sound_less, Sounds},
    RenewingPast.{behind_next, floor_next, IsBehind},
    RenewingSends.sound_after,
    RowSteps.{all_pass, all_there, at_most_one, Before, delivers_above, is_ours, is_valid_now, IsBelowNext},
    RowSteps.{IsStrictInput, of_ours, same_place},
    RunsWith.{cut, first_moments, IsHereditary, pairs_first, push, runs_first},
  },
  specs.{
    Kept.last_of,
    RenewingOrder.{ArePeersRenewing, AskedOfLast, closing_renewing, ComesInOrderIfKeptRenewing},
    RenewingOrder.{ComesInOrderIfReadRenewing, ComesInOrderRenewing, delivered_at_by, delivered_by_all},
    RenewingOrder.{delivered_by_run, IsFairAt, IsSameEndWith, IsWeakerToDeliverWith, IsWeakerToSendWith},
    RenewingOrder.{KeepsDeliveredWith, KeepsSentWith, PeersAtEachRenewing, ReadsDeliveredWith, ReadsSentWith},
    RenewingOrder.sent_under_by,
    RenewingRuns.{accepted_by_run, accepted_from_renewing, AgreeOnKeysWith, ahead_renewing_after, ahead_renewing_step},
    RenewingRuns.{IsSoundRun, IsUsedIn, KeepsUsedWith, opening_of, sent_by_all, sent_by_run, states_of},
    Used.WasSentAs,
  },
}
use Rattle.macsec_secy.specs.Commands.{uses}

-- ---- a run

pub after-push : (inputs : Inputs) (a : Ahead) (input : KeepingInput) →
    ahead_renewing_after a (inputs ++ input ∷ []) ≡ (ahead_renewing_step (ahead_renewing_after a inputs) input).1
after-push [] a input = refl
after-push (i ∷ inputs) a input = after-push inputs (ahead_renewing_step a i).1 input

goes_run : (inputs : Inputs) (a : Ahead) → Goes a.k (ahead_renewing_after a inputs).k
goes_run [] a = record { keeps = refl; salt = refl; floors = λ name. omega arith }
goes_run (input ∷ inputs) a =
    let one = goes_inside a input in
    let rest = goes_run inputs (ahead_renewing_step a input).1 in
    record {
      keeps = rest.keeps ∙ one.keeps;
      salt = rest.salt ∙ one.salt;
      floors = λ name. omega (arith, one.floors name, rest.floors name);
    }

accepted-push : (inputs : Inputs) (a : Ahead) (input : KeepingInput) →
    accepted_from_renewing a (inputs ++ input ∷ []) ≡
    accepted_from_renewing a inputs ++ newly_accepted (ahead_renewing_after a inputs) input
accepted-push [] a input = append-nil (newly_accepted a input)
accepted-push (i ∷ inputs) a input =
    let after = (ahead_renewing_step a i).1 in
    ap (λ ds. newly_accepted a i ++ ds) (accepted-push inputs after input)
    ∙ sym (append_assoc (newly_accepted a i) (accepted_from_renewing after inputs)
    (newly_accepted (ahead_renewing_after after inputs) input))

module _ (laws : EndpointLaws) (giving : GivingUp) (bytes : List ℕ) (sci : Sci) (an : ℕ) where
  abbrev name_of : RunWith → List ℕ
  name_of r = receiving_name (sending_name (salt_of r.run.journal) bytes) sci an

  -- what the journal had saved for the SA
  abbrev floor_of : RunWith → ℕ
  floor_of r = highest (reservations r.run.journal) (name_of r)

  abbrev Behind : Ahead → Delivery → Type 0
  Behind a d = IsBehind laws bytes sci an giving a d.number

  -- ---- what an input delivers

  record IsNewIn (a : Ahead) (input : KeepingInput) (d : Delivery) : Type 0 where
    later : (n : ℕ) → IsBelowNext a.k.secy bytes sci an n → n < d.number
    behind : Behind (ahead_renewing_step a input).1 d
    valid : is_valid a.k.secy input ≡ true

  new_by : (a : Ahead) (input : KeepingInput) → IsSound a.k.secy → IsSound (ahead_renewing_step a input).1.k.secy →
      lets_through a input ≡ true → IsStrictInput a.k bytes sci an input →
      All (IsNewIn a input) (delivered_at bytes sci an (newly_delivered a.k input))
  new_by a (endpoint_input (link_frame frame)) sound sound' lets strict i d within =
      let input = endpoint_input (link_frame frame) in
      record {
        later = of_ours bytes sci an (λ x. (n : ℕ) → IsBelowNext a.k.secy bytes sci an n → n < x.number) a.k input
            (λ x there. delivers_above laws sci an bytes a.k.secy sound (strict x there).replay (strict x there).window
            input x) i d within;
        behind = of_ours bytes sci an (Behind (ahead_renewing_step a input).1) a.k input (λ x there given.
            behind_now laws giving bytes sci an a input sound sound' lets (is_valid_now laws a.k sound (strict x there)
            input x given) (strict x there).window x given) i d within;
        valid = of_ours bytes sci an (λ x. is_valid a.k.secy input ≡ true) a.k input
            (λ x there given is_bytes is_sci is_an. is_valid_now laws a.k sound (strict x there) input x given) i d
            within;
      }
  new_by a input sound sound' lets strict i d within = All-nil (IsNewIn a input) i d within

  new_in : (a : Ahead) (input : KeepingInput) → IsSound a.k.secy → IsSound (ahead_renewing_step a input).1.k.secy →
      ((d : Delivery) → Contains (delivered_at bytes sci an (newly_delivered_with a input)) d →
      HasStrictOrder a.k.secy) →
      All (IsNewIn a input) (delivered_at bytes sci an (newly_delivered_with a input))
  new_in a input sound sound' = by_lets (lets_through a input) refl
    where
      by_lets : (b : Bool) → lets_through a input ≡ b →
          ((d : Delivery) → Contains (delivered_at bytes sci an (if b then newly_delivered a.k input else [])) d →
          HasStrictOrder a.k.secy) →
          All (IsNewIn a input) (delivered_at bytes sci an (if b then newly_delivered a.k input else []))
      by_lets true lets strict = new_by a input sound sound' lets strict
      by_lets false lets strict = All-nil (IsNewIn a input)

  one_at_most : (a : Ahead) (input : KeepingInput) →
      AllPairs Before (delivered_at bytes sci an (newly_delivered_with a input))
  one_at_most a input = AllPairs-filter Before (is_ours bytes sci an) (newly_delivered_with a input)
      (by_lets (lets_through a input))
    where
      by_lets : (b : Bool) → AllPairs Before (if b then newly_delivered a.k input else [])
      by_lets true = at_most_one a.k input
      by_lets false = no_pairs Before

  -- ---- a run of the receiver

  pub record RunNow (r : RunWith) : Type 0 where
    pub rise : AllPairs Before (delivered_at_by bytes sci an r)
    pub behind : All (Behind (closing_renewing r)) (delivered_at_by bytes sci an r)
    pub saved : All (λ d. floor_of r < d.number) (delivered_at_by bytes sci an r)
    pub floor : IsBelowNext (closing_renewing r).k.secy bytes sci an (floor_of r)
    pub accepted : All (Contains (accepted_by_run r)) (delivered_at_by bytes sci an r)

  begins_now : (config : EndConfig) (journal : List ℕ) (b : Bool) →
      RunNow (record { ahead = b; run = run_with config journal [] })
  begins_now config journal b = record {
    rise = no_pairs Before;
    behind = All-nil _;
    saved = All-nil _;
    floor = λ row there under. cc;
    accepted = All-nil _;
  }

  one_more : (r : RunWith) (input : KeepingInput) → IsSoundRun r → IsSoundRun (push input r) →
      ((d : Delivery) → Contains (delivered_at bytes sci an (newly_delivered_with (closing_renewing r) input)) d →
      HasStrictOrder (closing_renewing r).k.secy) → RunNow r → RunNow (push input r)
  one_more r input sound sound' strict now = record {
    rise = subst (AllPairs Before) (sym whole) (pairs-append Before old new now.rise (one_at_most a input)
        (λ i d within j g within'. (news j g within').later (get_or old i d).number (now.behind i d within).below));
    behind = subst (All (Behind (closing_renewing (push input r)))) (sym whole)
        (subst (λ x. All (Behind x) (old ++ new)) (sym same) (All-append (Behind after) old new
        (λ i d within. behind_next laws bytes sci an giving a input (get_or old i d).number sound_a sound_after' keeps
        (now.behind i d within)) (λ i d within. (news i d within).behind)));
    saved = subst (All (λ d. floor_of r < d.number)) (sym whole) (All-append (λ d. floor_of r < d.number) old new
        now.saved (λ i d within. (news i d within).later (floor_of r) now.floor));
    floor = subst (λ (x : Ahead). IsBelowNext x.k.secy bytes sci an (floor_of r)) (sym same)
        (floor_next laws bytes sci an a input (floor_of r) sound_a sound_after' keeps within now.floor);
    accepted = subst (All (Contains (accepted_by_run (push input r)))) (sym whole)
        (subst (λ ds. All (Contains ds) (old ++ new)) (sym (accepted-push r.run.inputs (opening_of r) input))
        (All-append (Contains (accepted_by_run r ++ newly_accepted a input)) old new (λ i d within.
        contained (accepted_by_run r ++ newly_accepted a input) (get_or old i d) (in_front (accepted_by_run r)
        (newly_accepted a input) (get_or old i d) (member (accepted_by_run r) (get_or old i d)
        (now.accepted i d within)))) (λ i d within.
        contained (accepted_by_run r ++ newly_accepted a input) (get_or new i d) (at_end (accepted_by_run r)
        (newly_accepted a input) (get_or new i d) (member (newly_accepted a input) (get_or new i d)
        (subst (λ b. Contains (if b then newly_delivered_with a input else []) (get_or new i d))
        (sym (news i d within).valid) (All-filter (is_ours bytes sci an) (Contains (newly_delivered_with a input))
        (newly_delivered_with a input) (all_there (newly_delivered_with a input)) i d within)))))));
  }
    where
      a : Ahead
      a = closing_renewing r

      after : Ahead
      after = (ahead_renewing_step a input).1

      same : closing_renewing (push input r) ≡ after
      same = after-push r.run.inputs (opening_of r) input

      sound_a : IsSound a.k.secy
      sound_a = sound_after r.run.inputs (opening_of r) sound

      sound_after' : IsSound after.k.secy
      sound_after' = subst (λ (x : Ahead). IsSound x.k.secy) same
          (sound_after (r.run.inputs ++ input ∷ []) (opening_of r) sound')

      old : List Delivery
      old = delivered_at_by bytes sci an r

      new : List Delivery
      new = delivered_at bytes sci an (newly_delivered_with a input)

      whole : delivered_at_by bytes sci an (push input r) ≡ old ++ new
      whole = ap (delivered_at bytes sci an) (delivered_by_run-push input r)
          ∙ filter-append (is_ours bytes sci an) (delivered_by_run r) (newly_delivered_with a input)

      news : All (IsNewIn a input) new
      news = new_in a input sound_a sound_after' strict

      keeps : a.k.keeps ≡ true
      keeps = (goes_run r.run.inputs (opening_of r)).keeps

      within : floor_of r ≤ highest a.k.before (receiving_name (sending_name a.k.salt bytes) sci an)
      within = subst (λ salt. floor_of r ≤ highest a.k.before (receiving_name (sending_name salt bytes) sci an))
          (sym (goes_run r.run.inputs (opening_of r)).salt)
          (omega (
            arith,
            (goes_run r.run.inputs (opening_of r)).floors (name_of r),
            reduced_reserves (reservations r.run.journal) (name_of r),
          ))

  -- ---- all runs of the receiver

  to_later : (r : RunWith) (rs : List RunWith) → All (KeepsDeliveredWith bytes sci an r) rs → All RunNow rs →
      All (λ x. All (Before x) (delivered_at bytes sci an (delivered_by_all rs))) (delivered_at_by bytes sci an r)
  to_later r [] keeps nows i d within = All-nil _
  to_later r (q ∷ qs) keeps nows i d within =
      let x = get_or (delivered_at_by bytes sci an r) i d in
      subst (All (Before x)) (sym (filter-append (is_ours bytes sci an) (delivered_by_run q) (delivered_by_all qs)))
      (All-append (Before x) (delivered_at_by bytes sci an q) (delivered_at bytes sci an (delivered_by_all qs))
      (λ j e within'. omega (
        arith,
        All-head (KeepsDeliveredWith bytes sci an r) q qs keeps x (get_or (delivered_at_by bytes sci an q) j e)
            (all_there (delivered_at_by bytes sci an r) i d within)
            (all_there (delivered_at_by bytes sci an q) j e within'),
        (All-head RunNow q qs nows).saved j e within',
      )) (to_later r qs (All-tail (KeepsDeliveredWith bytes sci an r) q qs keeps) (All-tail RunNow q qs nows) i d
      within))

  delivered_rise : (rs : List RunWith) → All RunNow rs → AllPairs (KeepsDeliveredWith bytes sci an) rs →
      AllPairs Before (delivered_at bytes sci an (delivered_by_all rs))
  delivered_rise [] nows keeps = no_pairs Before
  delivered_rise (r ∷ rs) nows keeps =
      subst (AllPairs Before) (sym (filter-append (is_ours bytes sci an) (delivered_by_run r) (delivered_by_all rs)))
      (pairs-append Before (delivered_at_by bytes sci an r) (delivered_at bytes sci an (delivered_by_all rs))
      (All-head RunNow r rs nows).rise
      (delivered_rise rs (All-tail RunNow r rs nows) (pairs-tail (KeepsDeliveredWith bytes sci an) r rs keeps))
      (to_later r rs (pairs-head (KeepsDeliveredWith bytes sci an) r rs keeps) (All-tail RunNow r rs nows)))

-- ---- the sender

module _ (laws : EndpointLaws) (renews : RenewingLaws) (bytes : List ℕ) where
  abbrev is_under : SentIn → Bool
  is_under x = same_octets x.seal.key bytes

  abbrev Less : SentIn → SentIn → Type 0
  Less x y = x.number < y.number

  abbrev reserved_in : RunWith → ℕ
  reserved_in r = highest (reservations r.run.journal) (sending_name (salt_of r.run.journal) bytes)

  -- what a run sends is above what its journal reserved
  above_reserved : (r : RunWith) → All (λ y. reserved_in r < y.number) (sent_under_by bytes r)
  above_reserved r i d within =
      let y = get_or (sent_under_by bytes r) i d in
      let it = All-filter is_under (IsBetween (opening_of r).k r.run.inputs) (sent_by_run r) (each_between_with r)
      i d within in
      let key : y.seal.key ≡ bytes = (bytes_eq-Decides y.seal.key bytes).0 (all_pass is_under (sent_by_run r) i d
      within) in
      let name = sending_name (salt_of r.run.journal) y.seal.key in
      let above : highest (reservations r.run.journal) name < y.number =
      omega (arith, it.above, reduced_reserves (reservations r.run.journal) name) in
      subst (λ b. highest (reservations r.run.journal) (sending_name (salt_of r.run.journal) b) < y.number) key above

  sent_later : (r : RunWith) (rs : List RunWith) → All (KeepsSentWith bytes r) rs →
      All (λ x. All (Less x) (sent_under bytes (sent_by_all rs))) (sent_under_by bytes r)
  sent_later r [] keeps i d within = All-nil _
  sent_later r (q ∷ qs) keeps i d within =
      let x = get_or (sent_under_by bytes r) i d in
      subst (All (Less x)) (sym (filter-append is_under (sent_by_run q) (sent_by_all qs)))
      (All-append (Less x) (sent_under_by bytes q) (sent_under bytes (sent_by_all qs))
      (λ j e within'. omega (
        arith,
        All-head (KeepsSentWith bytes r) q qs keeps x (get_or (sent_under_by bytes q) j e)
            (all_there (sent_under_by bytes r) i d within) (all_there (sent_under_by bytes q) j e within'),
        above_reserved q j e within',
      )) (sent_later r qs (All-tail (KeepsSentWith bytes r) q qs keeps) i d within))

  sent_rise : (rs : List RunWith) → All IsSoundRun rs → AllPairs (KeepsSentWith bytes) rs →
      AllPairs Less (sent_under bytes (sent_by_all rs))
  sent_rise [] sounds keeps = no_pairs Less
  sent_rise (r ∷ rs) sounds keeps =
      let own : AllPairs Rises (sent_by_run r) = subst (AllPairs Rises) (append-nil (sent_by_run r))
      (rises_if_used_is_kept_with laws renews (r ∷ []) (All-cons IsSoundRun r [] (All-head IsSoundRun r rs sounds)
      (All-nil IsSoundRun))
      (one_alone KeepsUsedWith r)) in
      subst (AllPairs Less) (sym (filter-append is_under (sent_by_run r) (sent_by_all rs)))
      (pairs-append Less (sent_under_by bytes r) (sent_under bytes (sent_by_all rs)) (rising bytes (sent_by_run r) own)
      (sent_rise rs (All-tail IsSoundRun r rs sounds) (pairs-tail (KeepsSentWith bytes) r rs keeps))
      (sent_later r rs (pairs-head (KeepsSentWith bytes) r rs keeps)))

-- ---- what was reported durable is enough

pub is_weaker_to_send_with : (bytes : List ℕ) (r later : RunWith) → IsWeakerToSendWith bytes r later
is_weaker_to_send_with bytes r later reads x y here there =
    let is_under : SentIn → Bool = λ z. same_octets z.seal.key bytes in
    let P = IsBetween (opening_of r).k r.run.inputs in
    let it = All-contains P (sent_under_by bytes r) x (All-filter is_under P (sent_by_run r) (each_between_with r))
    here in
    let key : x.seal.key ≡ bytes = (bytes_eq-Decides x.seal.key bytes).0
    (All-contains (λ z. is_under z ≡ true) (sent_under_by bytes r) x (all_pass is_under (sent_by_run r)) here) in
    let name = sending_name (salt_of r.run.journal) x.seal.key in
    let read : x.number ≤ highest (reservations later.run.journal) name = omega (arith, it.within, reads.1 name) in
    subst (λ salt. x.number ≤ highest (reservations later.run.journal) (sending_name salt bytes)) (sym reads.0)
    (subst (λ b. x.number ≤ highest (reservations later.run.journal) (sending_name (salt_of r.run.journal) b)) key read)

pub is_weaker_to_deliver_with : (bytes : List ℕ) (sci : Sci) (an : ℕ) (r later : RunWith) →
    IsWeakerToDeliverWith bytes sci an r later
is_weaker_to_deliver_with bytes sci an r later on accepts reads d g here there =
    let ours = All-contains (λ z. is_ours bytes sci an z ≡ true) (delivered_at_by bytes sci an r) d
    (all_pass (is_ours bytes sci an) (delivered_by_run r)) here in
    let parts = and_parts (same_octets d.bytes bytes && same_sci d.sci sci) (d.an == an) ours in
    let octets = and_parts (same_octets d.bytes bytes) (same_sci d.sci sci) parts.0 in
    let place = same_place d.sci sci d.an an (and_from (same_sci d.sci sci) (d.an == an) octets.1 parts.1) in
    let name : delivery_name (salt_of r.run.journal) d ≡
    receiving_name (sending_name (salt_of r.run.journal) bytes) sci an =
    ap (λ b. receiving_name (sending_name (salt_of r.run.journal) b) d.sci d.an)
    ((bytes_eq-Decides d.bytes bytes).0 octets.0)
    ∙ ap (λ x. receiving_name (sending_name (salt_of r.run.journal) bytes) x d.an) place.0
    ∙ ap (λ n. receiving_name (sending_name (salt_of r.run.journal) bytes) sci n) place.1 in
    let read : d.number ≤ highest (reservations later.run.journal) (delivery_name (salt_of r.run.journal) d) =
    omega (arith, (taken_in r on d (accepts d here)).within, reads.1 (delivery_name (salt_of r.run.journal) d)) in
    subst (λ salt. d.number ≤ highest (reservations later.run.journal) (receiving_name (sending_name salt bytes) sci
    an))
    (sym reads.0) (subst (λ n. d.number ≤ highest (reservations later.run.journal) n) name read)

-- ---- both ends

module _ (laws : EndpointLaws) (renews : RenewingLaws) (giving : GivingUp) (grammar : Grammar)
    (ahead : End → ℕ → Bool) (e : End) (bytes : List ℕ) (sci : Sci) (an : ℕ) where
  abbrev Fair : Events → RunWith → KeepingInput → Type 0
  Fair = IsFairAt ahead e bytes sci an

  abbrev From : Events → RunWith → KeepingInput → Type 0
  From = IsFrom laws renews grammar ahead e (is_ours bytes sci an)

  nows : (events : Events) → Sounds ahead events → AtEach (AskedOfLast ahead e Fair) [] events →
      All (RunNow laws giving bytes sci an) (runs_at ahead e events)
  nows events sounds each = each_run ahead e events (sounds e) (RunNow laws giving bytes sci an) Fair
      (begins_now laws giving bytes sci an) (λ before input rest is r last sound' fair now.
      one_more laws giving bytes sci an r input (sound_less input r sound') sound' (λ d there. (fair d there).order)
      now)
      [] events refl each (All-nil _)

  -- what it delivered from the SA it accepted, from valid frames
  pub all_accepted : (events : Events) → ((f : End) → All IsSoundRun (runs_at ahead f events)) →
      AtEach (AskedOfLast ahead e (IsFairAt ahead e bytes sci an)) [] events →
      All (λ r. (d : Delivery) → Contains (delivered_at_by bytes sci an r) d → Contains (accepted_by_run r) d)
      (runs_at ahead e events)
  all_accepted events sounds each i d within x there =
      let r = get_or (runs_at ahead e events) i d in
      All-contains (Contains (accepted_by_run r)) (delivered_at_by bytes sci an r) x
      (nows events sounds each i d within).accepted there

  from_last : (before : Events) (input : KeepingInput) (o : Option RunWith) → IfSome o (λ r. Fair before r input) →
      IfSome o (λ r. From before r input)
  from_last before input None fair = tt
  from_last before input (Some r) fair = λ d there.
      let it = fair d there in
      record { strict = it.order.mode; from = it.from }

  from_fair : (before : Events) (h : Happening) → AskedOfLast ahead e Fair before h → AskedOfLast ahead e From before h
  from_fair before (begins f config journal) fair = tt
  from_fair before (comes_in f input) fair = λ same. from_last before input (last_of (runs_at ahead e before)) (fair
      same)

  sent_is_kept : (rs : List RunWith) → AllPairs (ReadsSentWith bytes) rs → AllPairs (KeepsSentWith bytes) rs
  sent_is_kept rs pairs i j d less within = by_side (pairs i j d less within)
    where
      by_side : ReadsSentWith bytes (get_or rs i d) (get_or rs j d) →
          KeepsSentWith bytes (get_or rs i d) (get_or rs j d)
      by_side (inl keeps) = keeps
      by_side (inr reads) = is_weaker_to_send_with bytes (get_or rs i d) (get_or rs j d) reads

  delivered_is_kept : (rs : List RunWith) → All (RunNow laws giving bytes sci an) rs →
      AllPairs (ReadsDeliveredWith bytes sci an) rs → AllPairs (KeepsDeliveredWith bytes sci an) rs
  delivered_is_kept rs nows' pairs i j d less within = by_side (pairs i j d less within)
    where
      by_side : ReadsDeliveredWith bytes sci an (get_or rs i d) (get_or rs j d) →
          KeepsDeliveredWith bytes sci an (get_or rs i d) (get_or rs j d)
      by_side (inl keeps) = keeps
      by_side (inr it) = is_weaker_to_deliver_with bytes sci an (get_or rs i d) (get_or rs j d) it.0
          (λ x there. All-contains (Contains (accepted_by_run (get_or rs i d))) (delivered_at_by bytes sci an (get_or
          rs i d))
          x (nows' i d (omega (arith, less, within))).accepted there) it.1

  in_order : (events : Events) → Sounds ahead events → AtEach (AskedOfLast ahead e Fair) [] events →
      AllPairs (ReadsSentWith bytes) (runs_at ahead (other_end e) events) →
      AllPairs (ReadsDeliveredWith bytes sci an) (runs_at ahead e events) →
      ComesInOrderRenewing ahead e bytes sci an events
  in_order events sounds each sent delivered =
      is_subsequence (λ x. x.number) _ _ (sent_rise laws renews bytes (runs_at ahead (other_end e) events)
      (sounds (other_end e)) (sent_is_kept (runs_at ahead (other_end e) events) sent)) (λ d. d.number) ds (map
      numbered_delivery ds)
      (delivered_rise laws giving bytes sci an (runs_at ahead e events) (nows events sounds each)
      (delivered_is_kept (runs_at ahead e events) (nows events sounds each) delivered))
      (each_found bytes sends ds (λ i d within.
      let g = get_or ds i d in
      let parts = and_parts (same_octets g.bytes bytes && same_sci g.sci sci) (g.an == an)
      (all_pass (is_ours bytes sci an) (delivered_by_all (runs_at ahead e events)) i d within) in
      let octets = (and_parts (same_octets g.bytes bytes) (same_sci g.sci sci) parts.0).0 in
      subst (λ b. WasSent sends b g.frame g.number) ((bytes_eq-Decides g.bytes bytes).0 octets)
      (were_sent i d within)))
    where
      sends : List SentIn
      sends = sent_by_all (runs_at ahead (other_end e) events)

      ds : List Delivery
      ds = delivered_at bytes sci an (delivered_by_all (runs_at ahead e events))

      were_sent : All (WasSentAs sends) ds
      were_sent = of_all (WasSentAs sends) (is_ours bytes sci an) (runs_at ahead e events)
          (all_sent laws renews grammar ahead e (is_ours bytes sci an) events sounds
          (each_weaker (AskedOfLast ahead e Fair) (AskedOfLast ahead e From) from_fair [] events each))

-- what is kept in all runs is kept in the first ones
kept_sent : (bytes : List ℕ) → IsHereditary (KeepsSentWith bytes)
kept_sent bytes = record {
  less = λ input r later keeps x y here there. keeps x y here
      (subst (λ xs. Contains xs y) (sym (ap (sent_under bytes) (sent_by_run-push input later)
      ∙ filter-append (λ z. same_octets z.seal.key bytes) (sent_by_run later)
      (newly_sent (closing_renewing later).k input)))
      (contained (sent_under_by bytes later ++ sent_under bytes (newly_sent (closing_renewing later).k input)) y
      (in_front (sent_under_by bytes later) (sent_under bytes (newly_sent (closing_renewing later).k input)) y
      (member (sent_under_by bytes later) y there))));
}

kept_delivered : (bytes : List ℕ) (sci : Sci) (an : ℕ) → IsHereditary (KeepsDeliveredWith bytes sci an)
kept_delivered bytes sci an = record {
  less = λ input r later keeps d g here there. keeps d g here
      (subst (λ ds. Contains ds g) (sym (ap (delivered_at bytes sci an) (delivered_by_run-push input later)
      ∙ filter-append (is_ours bytes sci an) (delivered_by_run later)
      (newly_delivered_with (closing_renewing later) input)))
      (contained (delivered_at_by bytes sci an later ++
      delivered_at bytes sci an (newly_delivered_with (closing_renewing later) input)) g
      (in_front (delivered_at_by bytes sci an later)
      (delivered_at bytes sci an (newly_delivered_with (closing_renewing later) input)) g
      (member (delivered_at_by bytes sci an later) g there))));
}

reads_sent : (bytes : List ℕ) → IsHereditary (ReadsSentWith bytes)
reads_sent bytes = record { less = by_side }
  where
    by_side : (input : KeepingInput) (r later : RunWith) → ReadsSentWith bytes r (push input later) →
        ReadsSentWith bytes r later
    by_side input r later (inl keeps) = let it = kept_sent bytes in inl (it.less input r later keeps)
    by_side input r later (inr reads) = inr reads

reads_delivered : (bytes : List ℕ) (sci : Sci) (an : ℕ) → IsHereditary (ReadsDeliveredWith bytes sci an)
reads_delivered bytes sci an = record { less = by_side }
  where
    by_side : (input : KeepingInput) (r later : RunWith) → ReadsDeliveredWith bytes sci an r (push input later) →
        ReadsDeliveredWith bytes sci an r later
    by_side input r later (inl keeps) = let it = kept_delivered bytes sci an in inl (it.less input r later keeps)
    by_side input r later (inr reads) = inr reads

pub comes_in_order_if_read_renewing : EndpointLaws → RenewingLaws → GivingUp → Grammar → (ahead : End → ℕ → Bool)
    (events : Events) → ComesInOrderIfReadRenewing ahead events
comes_in_order_if_read_renewing laws renews giving grammar ahead events e bytes sci an sounds each sent delivered k =
    let it = cut k events in
    let first = take k events in
    in_order laws renews giving grammar ahead e bytes sci an first
    (λ f. runs_first IsSoundRun sound_less ahead f it.rest first
    (subst (λ hs. All IsSoundRun (runs_at ahead f hs)) (sym it.is) (sounds f)))
    (first_moments (AskedOfLast ahead e (IsFairAt ahead e bytes sci an)) [] first it.rest
    (subst (AtEach (AskedOfLast ahead e (IsFairAt ahead e bytes sci an)) []) (sym it.is) each))
    (pairs_first (ReadsSentWith bytes) (reads_sent bytes) ahead (other_end e) it.rest first
    (subst (λ hs. AllPairs (ReadsSentWith bytes) (runs_at ahead (other_end e) hs)) (sym it.is) sent))
    (pairs_first (ReadsDeliveredWith bytes sci an) (reads_delivered bytes sci an) ahead e it.rest first
    (subst (λ hs. AllPairs (ReadsDeliveredWith bytes sci an) (runs_at ahead e hs)) (sym it.is) delivered))

pub comes_in_order_if_kept_renewing : EndpointLaws → RenewingLaws → GivingUp → Grammar → (ahead : End → ℕ → Bool)
    (events : Events) → ComesInOrderIfKeptRenewing ahead events
comes_in_order_if_kept_renewing laws renews giving grammar ahead events e bytes sci an sounds each sent delivered k =
    comes_in_order_if_read_renewing laws renews giving grammar ahead events e bytes sci an sounds each
    (λ i j d less within. inl (sent i j d less within)) (λ i j d less within. inl (delivered i j d less within)) k

-- Two ends that are peers at the end of a list of happenings are peers at each moment of it: what is used stays used.

pub used_less : (input : KeepingInput) (r : RunWith) (key : InstalledKey) → IsUsedIn (states_of r) key →
    IsUsedIn (states_of (push input r)) key
used_less input r key it =
    let at = first_taken it.moment r.run.inputs input in
    record {
      moment = at.0;
      there = subst (λ (is : Inputs). Contains (ahead_renewing_after (opening_of r) is).k.secy.keys key) at.1 it.there;
      used = subst (λ (is : Inputs). uses (ahead_renewing_after (opening_of r) is).k.secy key.number ≡ true) at.1
          it.used;
    }

agree_less : IsHereditary AgreeOnKeysWith
agree_less = record {
  less = λ input r later agree x y here there. agree x y here (used_less input later y there);
}

one_less : IsHereditary IsSameEndWith
one_less = record {
  less = λ input r later it. record {
    sci = it.sci;
    ssci = λ x y here there. it.ssci x y here (used_less input later y there);
  };
}

pub peers_at_each_renewing : (ahead : End → ℕ → Bool) (events : Events) → PeersAtEachRenewing ahead events
peers_at_each_renewing ahead events peers k =
    let it = cut k events in
    let first = take k events in
    let whole : ArePeersRenewing (runs_at ahead A (first ++ it.rest)) (runs_at ahead B (first ++ it.rest)) =
    subst (λ hs. ArePeersRenewing (runs_at ahead A hs) (runs_at ahead B hs)) (sym it.is) peers in
    record {
      agree_a = pairs_first AgreeOnKeysWith agree_less ahead A it.rest first whole.agree_a;
      agree_b = pairs_first AgreeOnKeysWith agree_less ahead B it.rest first whole.agree_b;
      agree = runs_first (λ r. All (AgreeOnKeysWith r) (runs_at ahead B first))
          (λ input r all. All-weaker (AgreeOnKeysWith (push input r)) (AgreeOnKeysWith r)
          (λ q agree x y here there. agree x y (used_less input r x here) there) (runs_at ahead B first) all) ahead A
          it.rest first (All-weaker (λ r. All (AgreeOnKeysWith r) (runs_at ahead B (first ++ it.rest)))
          (λ r. All (AgreeOnKeysWith r) (runs_at ahead B first))
          (λ r all. runs_first (AgreeOnKeysWith r) (λ input q agree x y here there.
          agree x y here (used_less input q y there)) ahead B it.rest first all)
          (runs_at ahead A (first ++ it.rest)) whole.agree);
      one_a = pairs_first IsSameEndWith one_less ahead A it.rest first whole.one_a;
      one_b = pairs_first IsSameEndWith one_less ahead B it.rest first whole.one_b;
    }
