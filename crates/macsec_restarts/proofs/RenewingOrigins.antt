-- Origin of endpoints that renew keys: the other end sent what a strictly validating end delivers.
use Rattle.macsec_link.{proofs.Reflections.recovered_most, specs.Trace.use_to_open_by}
use Rattle.macsec_restarts.{
  proofs.{
    AheadPast.uses_it,
    Names.{[], ◌++◌, ◌∙◌, ◌∷◌, ◌≡◌, ◌≤◌, ◌⊎◌, A, AgreeOnKey, Ahead, All, All-append, All-cons, All-contains},
    Names.{All-filter, All-head, All-nil, All-tail, AllPairs, ap, append-nil, append_assoc, AreOctets, AtEach, B},
    Names.{begins, Bool, comes_in, contained, Contains, Delivery, End, EndConfig, EndpointLaws, Events, false, filter},
    Names.{filter-append, get_or, Grammar, Happening, IfSome, if◌then◌else◌, inl, Inputs, inr, InstalledKey, is_xpn},
    Names.{IsDeliveredFrom, IsMember, IsSound, iv_of, judgement_of, KeepingInput, last_of, length, lets_through, List},
    Names.{map, map-append, member, newly_delivered, newly_delivered_with, newly_sent, None, Option, other_end},
    Names.{pairs-head, pairs-tail, refl, runs_at, RunWith, rx_uses, RxRow, seal_of, SentIn, Some, State, Strict},
    Names.{subst, sym, take, the_key, true, use_opened, WasSent, ℕ},
    Origins.{first_taken, IsSealedWith, not_of_own, opened_among, same_sender, swapped, turned},
    Pushed.{at_end, either_list, in_front, run_with, same_own},
    RenewingKeepers.RenewingLaws,
    RenewingSends.{by_runs, config_after, IsSentByOne, IsSentThen, one_key, sound_after, used_then},
    RowSteps.{all_there, each_given, found_row, is_given, IsGiven},
    RunsWith.{begins_run, cut, first_moments, gets_input, Grows, grows, last_there, push, push_last, runs_first},
    RunsWith.{stays_as_it_is},
  },
  specs.{
    Kept.last_of as last_run_of,
    RenewingOrder.{ArePeersRenewing, AskedOfLast, closing_renewing, ComesFromOtherRenewing, delivered_by_all},
    RenewingOrder.{delivered_by_run, delivered_from_renewing, IsFromPeersStrictly, IsOriginAt, IsSameEndWith},
    RenewingRuns.{AgreeOnKeysWith, ahead_renewing_after, ahead_renewing_step, IsSoundRun, IsUsedIn, opening_of},
    RenewingRuns.{sent_by_all, sent_by_run, sent_from_renewing, states_of},
    Used.WasSentAs,
  },
}
use Rattle.macsec_secy.specs.{
  Commands.uses,
  Delivers.{IsOfOtherSender, IsOpened},
  Kept.IsLaterKey,
}
use Rattle.macsec_tag.specs.Frame.{IsTagged}
use Rattle.std.proofs.{Common.{le_refl, take_all}, lemmas.Bool.or_right}

-- ---- one more input, or more runs

sent-push : (inputs : Inputs) (a : Ahead) (input : KeepingInput) → sent_from_renewing a (inputs ++ input ∷ []) ≡
    sent_from_renewing a inputs ++ newly_sent (ahead_renewing_after a inputs).k input
sent-push [] a input = append-nil (newly_sent a.k input)
sent-push (i ∷ inputs) a input =
    let after = (ahead_renewing_step a i).1 in
    ap (λ xs. newly_sent a.k i ++ xs) (sent-push inputs after input)
    ∙ sym (append_assoc (newly_sent a.k i) (sent_from_renewing after inputs)
    (newly_sent (ahead_renewing_after after inputs).k input))

delivered-push : (inputs : Inputs) (a : Ahead) (input : KeepingInput) →
    delivered_from_renewing a (inputs ++ input ∷ []) ≡
    delivered_from_renewing a inputs ++ newly_delivered_with (ahead_renewing_after a inputs) input
delivered-push [] a input = append-nil (newly_delivered_with a input)
delivered-push (i ∷ inputs) a input =
    let after = (ahead_renewing_step a i).1 in
    ap (λ ds. newly_delivered_with a i ++ ds) (delivered-push inputs after input)
    ∙ sym (append_assoc (newly_delivered_with a i) (delivered_from_renewing after inputs)
    (newly_delivered_with (ahead_renewing_after after inputs) input))

pub sent_by_run-push : (input : KeepingInput) (r : RunWith) →
    sent_by_run (push input r) ≡ sent_by_run r ++ newly_sent (closing_renewing r).k input
sent_by_run-push input r = sent-push r.run.inputs (opening_of r) input

pub delivered_by_run-push : (input : KeepingInput) (r : RunWith) →
    delivered_by_run (push input r) ≡ delivered_by_run r ++ newly_delivered_with (closing_renewing r) input
delivered_by_run-push input r = delivered-push r.run.inputs (opening_of r) input

pub sound_less : (input : KeepingInput) (r : RunWith) → IsSoundRun (push input r) → IsSoundRun r
sound_less input r sound n =
    let it = first_taken n r.run.inputs input in
    subst (λ (is : Inputs). IsSound (ahead_renewing_after (opening_of r) is).k.secy) (sym it.1) (sound it.0)

-- what was sent stays sent
still_with_run : (rs more : List RunWith) (x : SentIn) → IsMember (sent_by_all rs) x →
    IsMember (sent_by_all (rs ++ more)) x
still_with_run [] more x there = absurd there
still_with_run (r ∷ rs) more x there =
    by_list (either_list (sent_by_run r) (sent_by_all rs) x there) (still_with_run rs more x)
  where
    by_list : IsMember (sent_by_run r) x ⊎ IsMember (sent_by_all rs) x →
        (IsMember (sent_by_all rs) x → IsMember (sent_by_all (rs ++ more)) x) →
        IsMember (sent_by_run r ++ sent_by_all (rs ++ more)) x
    by_list (inl here) still = in_front (sent_by_run r) (sent_by_all (rs ++ more)) x here
    by_list (inr later) still = at_end (sent_by_run r) (sent_by_all (rs ++ more)) x (still later)

still_with_input : (input : KeepingInput) (rs : List RunWith) (x : SentIn) → IsMember (sent_by_all rs) x →
    IsMember (sent_by_all (push_last input rs)) x
still_with_input input [] x there = absurd there
still_with_input input (r ∷ []) x there = by_list (either_list (sent_by_run r) [] x there)
  where
    by_list : IsMember (sent_by_run r) x ⊎ ⊥ → IsMember (sent_by_run (push input r) ++ []) x
    by_list (inl here) = in_front (sent_by_run (push input r)) [] x
        (subst (λ xs. IsMember xs x) (sym (sent_by_run-push input r))
        (in_front (sent_by_run r) (newly_sent (closing_renewing r).k input) x here))
    by_list (inr none) = absurd none
still_with_input input (r ∷ q ∷ more) x there =
    by_list (either_list (sent_by_run r) (sent_by_all (q ∷ more)) x there) (still_with_input input (q ∷ more) x)
  where
    by_list : IsMember (sent_by_run r) x ⊎ IsMember (sent_by_all (q ∷ more)) x →
        (IsMember (sent_by_all (q ∷ more)) x → IsMember (sent_by_all (push_last input (q ∷ more))) x) →
        IsMember (sent_by_run r ++ sent_by_all (push_last input (q ∷ more))) x
    by_list (inl here) still = in_front (sent_by_run r) (sent_by_all (push_last input (q ∷ more))) x here
    by_list (inr later) still = at_end (sent_by_run r) (sent_by_all (push_last input (q ∷ more))) x (still later)

still_next : {e : End} {rs : List RunWith} {h : Happening} {after : List RunWith} → Grows e rs h after →
    (x : SentIn) → IsMember (sent_by_all rs) x → IsMember (sent_by_all after) x
still_next (stays_as_it_is h) x there = there
still_next {rs = rs} (begins_run config journal b) x there = still_with_run rs _ x there
still_next {rs = rs} (gets_input input) x there = still_with_input input rs x there

pub still_sent : (ahead : End → ℕ → Bool) (e : End) (more before : Events) (x : SentIn) →
    IsMember (sent_by_all (runs_at ahead e before)) x → IsMember (sent_by_all (runs_at ahead e (before ++ more))) x
still_sent ahead e [] before x there =
    subst (λ hs. IsMember (sent_by_all (runs_at ahead e hs)) x) (sym (append-nil before)) there
still_sent ahead e (h ∷ more) before x there =
    subst (λ hs. IsMember (sent_by_all (runs_at ahead e hs)) x) (append_assoc before (h ∷ []) more)
    (still_sent ahead e more (before ++ h ∷ []) x (still_next (grows ahead e before h) x there))

-- ---- what holds of each run of an end, if it holds when a run begins, and after each input

module _ (ahead : End → ℕ → Bool) (e : End) (events : Events) (sounds : All IsSoundRun (runs_at ahead e events))
    (Is : RunWith → Type 0) (Asked : Events → RunWith → KeepingInput → Type 0)
    (begun : (config : EndConfig) (journal : List ℕ) (b : Bool) →
    Is (record { ahead = b; run = run_with config journal [] }))
    (more : (before : Events) (input : KeepingInput) (rest : Events) → before ++ comes_in e input ∷ rest ≡ events →
    (r : RunWith) → last_run_of (runs_at ahead e before) ≡ Some r → IsSoundRun (push input r) → Asked before r input →
    Is r → Is (push input r)) where
  with_input : (input : KeepingInput) (rs : List RunWith) → All IsSoundRun (push_last input rs) → All Is rs →
      ((r : RunWith) → last_run_of rs ≡ Some r → IsSoundRun (push input r) → Is r → Is (push input r)) →
      All Is (push_last input rs)
  with_input input [] sound all then' = All-nil Is
  with_input input (r ∷ []) sound all then' = All-cons Is (push input r) []
      (then' r refl (All-head IsSoundRun (push input r) [] sound) (All-head Is r [] all)) (All-nil Is)
  with_input input (r ∷ q ∷ others) sound all then' =
      All-cons Is r (push_last input (q ∷ others)) (All-head Is r (q ∷ others) all)
      (with_input input (q ∷ others) (All-tail IsSoundRun r (push_last input (q ∷ others)) sound)
      (All-tail Is r (q ∷ others) all) then')

  next : (before : Events) {h : Happening} {rs after : List RunWith} → rs ≡ runs_at ahead e before →
      Grows e rs h after → (rest : Events) → before ++ h ∷ rest ≡ events → All IsSoundRun after →
      AskedOfLast ahead e Asked before h → All Is rs → All Is after
  next before are (stays_as_it_is h) rest is sound asked all = all
  next before {rs = rs} are (begins_run config journal b) rest is sound asked all =
      All-append Is rs _ all (All-cons Is _ [] (begun config journal b) (All-nil Is))
  next before {rs = rs} are (gets_input input) rest is sound asked all =
      with_input input rs sound all (λ r last sound' it.
      let last' : last_run_of (runs_at ahead e before) ≡ Some r =
      subst (λ ps. last_run_of ps ≡ Some r) are last in
      more before input rest is r last' sound'
      (subst (λ o. IfSome o (λ q. Asked before q input)) last' (asked (same_own e))) it)

  pub each_run : (before rest : Events) → before ++ rest ≡ events → AtEach (AskedOfLast ahead e Asked) before rest →
      All Is (runs_at ahead e before) → All Is (runs_at ahead e events)
  each_run before [] is asked all = subst (λ hs. All Is (runs_at ahead e hs)) (sym (append-nil before) ∙ is) all
  each_run before (h ∷ rest) is asked all =
      let is' : (before ++ h ∷ []) ++ rest ≡ events = append_assoc before (h ∷ []) rest ∙ is in
      each_run (before ++ h ∷ []) rest is' asked.1 (next before refl (grows ahead e before h) rest is
      (runs_first IsSoundRun sound_less ahead e rest (before ++ h ∷ [])
      (subst (λ hs. All IsSoundRun (runs_at ahead e hs)) (sym is') sounds)) asked.0 all)

-- ---- one end, and the other

pub record ArePeerEnds (rs others : List RunWith) : Type 0 where
  pub own : All IsSoundRun rs
  pub other : All IsSoundRun others
  pub agree : AllPairs AgreeOnKeysWith rs
  pub one : AllPairs IsSameEndWith rs
  pub across : (r : RunWith) → IsMember rs r → (q : RunWith) → IsMember others q → (x y : InstalledKey) →
      IsUsedIn (states_of q) x → IsUsedIn (states_of r) y → x.bytes ≡ y.bytes → AgreeOnKey x y

abbrev pub Sounds : (End → ℕ → Bool) → Events → Type 0
Sounds ahead hs = (f : End) → All IsSoundRun (runs_at ahead f hs)

peers_at : (ahead : End → ℕ → Bool) (hs : Events) → Sounds ahead hs →
    ArePeersRenewing (runs_at ahead A hs) (runs_at ahead B hs) → (e : End) →
    ArePeerEnds (runs_at ahead e hs) (runs_at ahead (other_end e) hs)
peers_at ahead hs sounds peers e = by_end e
  where
    ra : List RunWith
    ra = runs_at ahead A hs

    rb : List RunWith
    rb = runs_at ahead B hs

    both : (r q : RunWith) → IsMember ra r → IsMember rb q → AgreeOnKeysWith r q
    both r q there there' = All-contains (AgreeOnKeysWith r) rb q
        (All-contains (λ p. All (AgreeOnKeysWith p) rb) ra r peers.agree (contained ra r there)) (contained rb q there')

    by_end : (f : End) → ArePeerEnds (runs_at ahead f hs) (runs_at ahead (other_end f) hs)
    by_end A = record {
      own = sounds A;
      other = sounds B;
      agree = peers.agree_a;
      one = peers.one_a;
      across = λ r there q there' x y here here' bytes.
          turned (both r q there there' y x here' here (sym bytes));
    }
    by_end B = record {
      own = sounds B;
      other = sounds A;
      agree = peers.agree_b;
      one = peers.one_b;
      across = λ r there q there' x y here here' bytes. both q r there' there x y here here' bytes;
    }

-- each run is the last one or comes before it
last_or_before : (R : RunWith → RunWith → Type 0) (rs : List RunWith) (r : RunWith) → last_run_of rs ≡ Some r →
    AllPairs R rs → (q : RunWith) → IsMember rs q → (q ≡ r) ⊎ R q r
last_or_before R [] r last pairs q there = absurd there
last_or_before R (p ∷ []) r last pairs q (inl here) = inl (sym here ∙ cc)
last_or_before R (p ∷ []) r last pairs q (inr there) = absurd there
last_or_before R (p ∷ next ∷ more) r last pairs q (inl here) =
    inr (subst (λ u. R u r) here (All-contains (R p) (next ∷ more) r (pairs-head R p (next ∷ more) pairs)
    (contained (next ∷ more) r (last_there (next ∷ more) r last))))
last_or_before R (p ∷ next ∷ more) r last pairs q (inr there) =
    last_or_before R (next ∷ more) r last (pairs-tail R p (next ∷ more) pairs) q there

abbrev IsPair : RunWith → RunWith → Type 0
IsPair r later = AgreeOnKeysWith r later × IsSameEndWith r later

pub comes_with : EndpointLaws → RenewingLaws → Grammar → (rs others : List RunWith) → ArePeerEnds rs others →
    (r : RunWith) → last_run_of rs ≡ Some r → (frame : List ℕ) → AreOctets frame →
    (row : RxRow) (delivered : List ℕ) →
    let s = (closing_renewing r).k.secy in
    IfSome (use_opened s frame) (Contains (map seal_of (sent_by_all rs ++ sent_by_all others))) →
    s.options.mode ≡ Strict → (judgement_of s frame).row ≡ Some row →
    (judgement_of s frame).delivered ≡ Some delivered →
    WasSent (sent_by_all others) (the_key s.keys row.key).bytes delivered (judgement_of s frame).number
comes_with laws renews grammar rs others are r last frame octets row delivered genuine strict of_row delivers =
    by_side (either_list (sent_by_all rs) (sent_by_all others) x found.1)
  where
    inputs : Inputs
    inputs = r.run.inputs

    s : State
    s = (closing_renewing r).k.secy

    number : ℕ
    number = (judgement_of s frame).number

    key : InstalledKey
    key = the_key s.keys row.key

    there_run : IsMember rs r
    there_run = last_there rs r last

    sound_run : IsSoundRun r
    sound_run = All-contains IsSoundRun rs r are.own (contained rs r there_run)

    sound : IsSound s
    sound = sound_after inputs (opening_of r) sound_run

    tells : IsDeliveredFrom s frame row delivered
    tells = laws.delivers s frame row delivered sound of_row delivers

    of : IsOfOtherSender s row
    of = tells.sender

    opened : IsOpened s frame row delivered
    opened = tells.opened strict

    found : (x : SentIn) × IsMember (sent_by_all rs ++ sent_by_all others) x ×
        (x.seal ≡ use_to_open_by s row number opened.p)
    found = opened_among (sent_by_all rs ++ sent_by_all others) s frame row delivered of_row opened genuine

    x : SentIn
    x = found.0

    asked : x.seal ≡ use_to_open_by s row number opened.p
    asked = found.2

    is_tagged : IsTagged frame opened.p
    is_tagged = ((grammar frame octets).is_tagged opened.p).0 opened.reads

    most : number ≤ last_of key.suite
    most = recovered_most key.suite row.lowest opened.p.tag.pn number is_tagged.tag.pn opened.number

    bytes : x.seal.key ≡ key.bytes
    bytes = ap (λ u. u.key) asked

    -- the SA uses its key now
    used : uses s key.number ≡ true
    used = or_right _ (rx_uses s.rx.rows key.number)
        (uses_it s.rx.rows row key.number (found_row row.sci row.an s.rx.rows row tells.at_place) (sym of.key.number))

    used_now : IsUsedIn (states_of r) key
    used_now =
        let all : take (length inputs) inputs ≡ inputs = take_all (length inputs) inputs (le_refl (length inputs)) in
        record {
          moment = length inputs;
          there = subst (λ (is : Inputs). Contains (ahead_renewing_after (opening_of r) is).k.secy.keys key) (sym all)
              of.key.there;
          used = subst (λ (is : Inputs). uses (ahead_renewing_after (opening_of r) is).k.secy key.number ≡ true)
              (sym all) used;
        }

    sealed : (q : RunWith) (it : IsSentThen (opening_of q) q.run.inputs x) →
        IsSealedWith (states_of q it.moment) x it.key
    sealed q it = record { sound = it.sound 0; there = it.there; most = it.most; iv = it.iv }

    -- an own one: of this run, or of an earlier one
    own_run : IsSentThen (opening_of r) inputs x → ⊥
    own_run it =
        let same : IsLaterKey it.key key = one_key laws renews it.rest
        (ahead_renewing_after (opening_of r) (take it.moment inputs)) it.sound it.key it.there key
        (subst (λ (a : Ahead). Contains a.k.secy.keys key) (sym it.end) of.key.there)
        (subst (λ (a : Ahead). uses a.k.secy key.number ≡ true) (sym it.end) used) (sym bytes ∙ it.bytes) in
        not_of_own laws (states_of r it.moment) s row number opened.p x it.key (sealed r it) sound of most (record {
          sci = ap (λ c. c.sci) it.config ∙ ap (λ c. c.sci) (sym (config_after laws inputs (opening_of r) sound_run));
          agree = record { suite = sym same.suite; salt = λ xpn. sym same.salt };
          ssci = λ xpn. sym same.ssci;
        }) asked

    earlier_run : (q : RunWith) → IsSentThen (opening_of q) q.run.inputs x → IsPair q r → ⊥
    earlier_run q it pair =
        let agree = pair.0 it.key key (used_then q it) used_now (sym it.bytes ∙ bytes) in
        not_of_own laws (states_of q it.moment) s row number opened.p x it.key (sealed q it) sound of most (record {
          sci = ap (λ c. c.sci) it.config ∙ pair.1.sci
              ∙ ap (λ c. c.sci) (sym (config_after laws inputs (opening_of r) sound_run));
          agree = agree;
          ssci = λ xpn. pair.1.ssci it.key key (used_then q it) used_now (sym it.bytes ∙ bytes)
              (ap is_xpn agree.suite ∙ xpn);
        }) asked

    not_own : IsSentByOne rs x → ⊥
    not_own is = by_run (last_or_before IsPair rs r last
        (λ i j d less within. (are.agree i j d less within, are.one i j d less within)) is.run is.among)
      where
        by_run : (is.run ≡ r) ⊎ IsPair is.run r → ⊥
        by_run (inl same) = own_run (subst (λ q. IsSentThen (opening_of q) q.run.inputs x) same is.it)
        by_run (inr pair) = earlier_run is.run is.it pair

    by_side : IsMember (sent_by_all rs) x ⊎ IsMember (sent_by_all others) x →
        WasSent (sent_by_all others) key.bytes delivered number
    by_side (inl own) = absurd (not_own (All-contains (IsSentByOne rs) (sent_by_all rs) x (by_runs laws rs are.own)
        (contained (sent_by_all rs) x own)))
    by_side (inr theirs) =
        let among = contained (sent_by_all others) x theirs in
        let is = All-contains (IsSentByOne others) (sent_by_all others) x (by_runs laws others are.other) among in
        let agree = are.across r there_run is.run is.among is.it.key key (used_then is.run is.it) used_now
        (sym is.it.bytes ∙ bytes) in
        let lengths = is_tagged.lengths in
        record {
          send = x;
          among = among;
          of_frame = sym (is.it.opens key (iv_of key.suite row.sci row.ssci key.salt number) opened.p opened.plaintext
              is_tagged.tag lengths.da lengths.sa (sym asked) (rw (asked, opened.opens))) ∙ opened.gives;
          under = bytes;
          of_number = (same_sender laws (states_of is.run is.it.moment) s row number opened.p x is.it.key
              (sealed is.run is.it) sound of most agree asked).pn;
        }

-- ---- what passes a test, of what an end delivers

each_given_with : (a : Ahead) (input : KeepingInput) → All (IsGiven a.k.secy input) (newly_delivered_with a input)
each_given_with a input = by_test (lets_through a input)
  where
    by_test : (b : Bool) → All (IsGiven a.k.secy input) (if b then newly_delivered a.k input else [])
    by_test true = each_given a.k input
    by_test false = All-nil (IsGiven a.k.secy input)

sent_still : {sends more : List SentIn} → ((x : SentIn) → IsMember sends x → IsMember more x) → {bytes frame : List ℕ}
    {number : ℕ} → WasSent sends bytes frame number → WasSent more bytes frame number
sent_still {sends} {more} still it = record {
  send = it.send;
  among = contained more it.send (still it.send (member sends it.send it.among));
  of_frame = it.of_frame;
  under = it.under;
  of_number = it.of_number;
}

module _ (laws : EndpointLaws) (renews : RenewingLaws) (grammar : Grammar) (ahead : End → ℕ → Bool) (e : End)
    (passes : Delivery → Bool) where
  -- wherever the end delivers what passes the test, it validates strictly, no ICV is forged, and the ends are peers
  abbrev pub IsFrom : Events → RunWith → KeepingInput → Type 0
  IsFrom before r input =
      (d : Delivery) → Contains (filter passes (newly_delivered_with (closing_renewing r) input)) d →
      IsFromPeersStrictly (runs_at ahead A before) (runs_at ahead B before) (closing_renewing r) (comes_in e input)
      input

  genuine_at : (before : Events) (f : End) {X : Type 0} (seal : SentIn → X) (o : Option X) →
      IfSome o (Contains (map seal (sent_by_all (runs_at ahead A before) ++ sent_by_all (runs_at ahead B before)))) →
      IfSome o (Contains (map seal (sent_by_all (runs_at ahead f before) ++
      sent_by_all (runs_at ahead (other_end f) before))))
  genuine_at before A seal o genuine = genuine
  genuine_at before B seal None genuine = tt
  genuine_at before B {X} seal (Some u) genuine =
      let sa = sent_by_all (runs_at ahead A before) in
      let sb = sent_by_all (runs_at ahead B before) in
      subst (λ (us : List X). Contains us u) (sym (map-append seal sb sa)) (swapped (map seal sa) (map seal sb) (Some u)
      (subst (λ (us : List X). Contains us u) (map-append seal sa sb) genuine))

  was_sent : (before : Events) → Sounds ahead before → (r : RunWith) →
      last_run_of (runs_at ahead e before) ≡ Some r → (input : KeepingInput) (g : Delivery) →
      IsFromPeersStrictly (runs_at ahead A before) (runs_at ahead B before) (closing_renewing r) (comes_in e input)
      input → IsGiven (closing_renewing r).k.secy input g →
      WasSentAs (sent_by_all (runs_at ahead (other_end e) before)) g
  was_sent before sounds r last _ _ asked (is_given frame row delivered fits of_row delivers) =
      let s = (closing_renewing r).k.secy in
      comes_with laws renews grammar (runs_at ahead e before) (runs_at ahead (other_end e) before)
      (peers_at ahead before sounds asked.from.peers e) r last frame asked.from.octets row delivered
      (genuine_at before e seal_of (use_opened s frame) asked.from.genuine) asked.strict of_row delivers

  pub all_sent : (events : Events) → Sounds ahead events → AtEach (AskedOfLast ahead e IsFrom) [] events →
      All (λ r. All (WasSentAs (sent_by_all (runs_at ahead (other_end e) events))) (filter passes (delivered_by_run r)))
      (runs_at ahead e events)
  all_sent events sounds each = each_run ahead e events (sounds e) Is IsFrom (λ config journal b. All-nil P) more []
      events refl
      each (All-nil Is)
    where
      P : Delivery → Type 0
      P = WasSentAs (sent_by_all (runs_at ahead (other_end e) events))

      Is : RunWith → Type 0
      Is r = All P (filter passes (delivered_by_run r))

      more : (before : Events) (input : KeepingInput) (rest : Events) → before ++ comes_in e input ∷ rest ≡ events →
          (r : RunWith) → last_run_of (runs_at ahead e before) ≡ Some r → IsSoundRun (push input r) →
          IsFrom before r input → Is r → Is (push input r)
      more before input rest is r last sound asked all =
          let new = newly_delivered_with (closing_renewing r) input in
          let whole : filter passes (delivered_by_run (push input r)) ≡ filter passes (delivered_by_run r) ++
          filter passes new = ap (filter passes) (delivered_by_run-push input r)
          ∙ filter-append passes (delivered_by_run r) new in
          let sounds_then : Sounds ahead before = λ f. runs_first IsSoundRun sound_less ahead f
          (comes_in e input ∷ rest) before (subst (λ hs. All IsSoundRun (runs_at ahead f hs)) (sym is) (sounds f)) in
          let still : (x : SentIn) → IsMember (sent_by_all (runs_at ahead (other_end e) before)) x →
          IsMember (sent_by_all (runs_at ahead (other_end e) events)) x = λ x there.
          subst (λ hs. IsMember (sent_by_all (runs_at ahead (other_end e) hs)) x) is
          (still_sent ahead (other_end e) (comes_in e input ∷ rest) before x there) in
          subst (All P) (sym whole) (All-append P (filter passes (delivered_by_run r)) (filter passes new) all
          (λ i d within.
          let g = get_or (filter passes new) i d in
          sent_still still (was_sent before sounds_then r last input g (asked g (all_there (filter passes new) i d
          within))
          (All-filter passes (IsGiven (closing_renewing r).k.secy input) new
          (each_given_with (closing_renewing r) input) i d within))))

-- ---- origin

no_test : (ds : List Delivery) → filter (λ d. true) ds ≡ ds
no_test [] = refl
no_test (d ∷ ds) = ap (λ more. d ∷ more) (no_test ds)

pub each_weaker : (P Q : Events → Happening → Type 0) → ((before : Events) (h : Happening) → P before h → Q before h) →
    (before more : Events) → AtEach P before more → AtEach Q before more
each_weaker P Q weaker before [] each = tt
each_weaker P Q weaker before (h ∷ more) each =
    (weaker before h each.0, each_weaker P Q weaker (before ++ h ∷ []) more each.1)

pub of_all : (P : Delivery → Type 0) (passes : Delivery → Bool) (rs : List RunWith) →
    All (λ r. All P (filter passes (delivered_by_run r))) rs → All P (filter passes (delivered_by_all rs))
of_all P passes [] all = All-nil P
of_all P passes (r ∷ rs) all =
    let Q : RunWith → Type 0 = λ q. All P (filter passes (delivered_by_run q)) in
    subst (All P) (sym (filter-append passes (delivered_by_run r) (delivered_by_all rs)))
    (All-append P (filter passes (delivered_by_run r)) (filter passes (delivered_by_all rs)) (All-head Q r rs all)
    (of_all P passes rs (All-tail Q r rs all)))

pub comes_from_other_renewing : EndpointLaws → RenewingLaws → Grammar → (ahead : End → ℕ → Bool) (events : Events) →
    ComesFromOtherRenewing ahead events
comes_from_other_renewing laws renews grammar ahead events e sounds each k =
    let it = cut k events in
    let first = take k events in
    let P : Delivery → Type 0 = WasSentAs (sent_by_all (runs_at ahead (other_end e) first)) in
    subst (All P) (no_test (delivered_by_all (runs_at ahead e first))) (of_all P (λ d. true) (runs_at ahead e first)
    (all_sent laws renews grammar ahead e (λ d. true) first (λ f. runs_first IsSoundRun sound_less ahead f it.rest first
    (subst (λ hs. All IsSoundRun (runs_at ahead f hs)) (sym it.is) (sounds f)))
    (each_weaker (AskedOfLast ahead e (IsOriginAt ahead e)) (AskedOfLast ahead e All') asked [] first
    (first_moments (AskedOfLast ahead e (IsOriginAt ahead e)) [] first it.rest
    (subst (AtEach (AskedOfLast ahead e (IsOriginAt ahead e)) []) (sym it.is) each)))))
  where
    All' : Events → RunWith → KeepingInput → Type 0
    All' = IsFrom laws renews grammar ahead e (λ d. true)

    by_last : (before : Events) (input : KeepingInput) (o : Option RunWith) →
        IfSome o (λ r. IsOriginAt ahead e before r input) → IfSome o (λ r. All' before r input)
    by_last before input None asked' = tt
    by_last before input (Some r) asked' = λ d there.
        asked' d (subst (λ ds. Contains ds d) (no_test (newly_delivered_with (closing_renewing r) input)) there)

    asked : (before : Events) (h : Happening) → AskedOfLast ahead e (IsOriginAt ahead e) before h →
        AskedOfLast ahead e All' before h
    asked before (begins f config journal) asked' = tt
    asked before (comes_in f input) asked' = λ same. by_last before input _ (asked' same)
