-- Two ends with runs that go as they are told. The file shows when they are peers, and what their history shows.
use Rattle.macsec_restarts.proofs.Examples.Blocks.{AreMet, blocks, each_fair, EndRun, runs_at-blocks, runs_in}
use Rattle.macsec_restarts.proofs.Examples.Told.{IsGood, IsKeyOf, Kind, short, Told}
use Rattle.macsec_restarts.proofs.Examples.Without.{AgreeAtBothBut, AgreeBut, AgreeInRunsBut, ArePeersBut}
use Rattle.macsec_restarts.proofs.Examples.Without.{each_suffices, HasOneSalt, HasOneSuite, IsSameEndBut}
use Rattle.macsec_restarts.proofs.Examples.Without.{KeepsDeliveredBut, KeepsSalt, KeepsSci, KeepsSentBut, KeepsSsci}
use Rattle.macsec_restarts.proofs.Examples.Without.{KeepsSuite, LawWithout, NoPremise, peers_suffice, Premise}
use Rattle.macsec_restarts.proofs.Examples.Without.{PromiseIf, StaysSoundAlways}
use Rattle.macsec_restarts.proofs.Names.{[], ◌++◌, ◌∙◌, ◌∷◌, ◌≡◌, ◌≢◌, ◌≤◌, A, Ahead, All, All-cons, All-contains}
use Rattle.macsec_restarts.proofs.Names.{All-nil, All-weaker, AllPairs, AllPairs-cons, ap, append-nil, arith, AtEach, B}
use Rattle.macsec_restarts.proofs.Names.{Bool, bytes, delivered_at, Delivery, End, false, highest, is_xpn}
use Rattle.macsec_restarts.proofs.Names.{IsSubsequence, length, List, map, no_pairs, numbered_delivery, numbered_sent}
use Rattle.macsec_restarts.proofs.Names.{one_alone, refl, reservations, Run, runs_at, RunWith, salt_of, Sci, sci_a}
use Rattle.macsec_restarts.proofs.Names.{sci_b, sending_name, sent_under, SentIn, subst, sym, true, Uses, ℕ}
use Rattle.macsec_restarts.specs.RenewingOrder.{AskedOfLast, ComesInOrderRenewing, delivered_at_by, delivered_by_all}
use Rattle.macsec_restarts.specs.RenewingOrder.{delivered_by_run, IsFairAt, IsHistoryWith, KeepsDeliveredWith}
use Rattle.macsec_restarts.specs.RenewingOrder.{KeepsSentWith, saved_for_sa, sent_under_by}
use Rattle.macsec_restarts.specs.RenewingRuns.{AgreeOnKeysWith, IsSoundRun, KeepsUsedWith, opening_of, sent_by_all}
use Rattle.macsec_restarts.specs.RenewingRuns.{sent_by_run, states_of}
use Rattle.macsec_restarts.specs.Used.{Covers}

-- no run reserves ahead of receiving
abbrev pub never : End → ℕ → Bool
never e n = false

abbrev pub without_option : Run → RunWith
without_option run = record { ahead = false; run = run }

-- ---- a run of an end

-- its endpoint has this SCI, and only keys of this kind
pub record IsRunOf (kind : Kind) (sci : Sci) (r : RunWith) : Type 0 where
  pub of_sci : r.run.config.sci ≡ sci
  pub good : (n : ℕ) → IsGood kind (states_of r n)

-- what it sends and delivers, where these uses of the cipher were sealed before it
pub record Facts (kind : Kind) (sci : Sci) (left_out : Premise) (uses : Uses) (r : RunWith) (xs : List SentIn)
    (ds : List Delivery) : Type 0 where
  pub of_sci : r.run.config.sci ≡ sci
  pub last : Ahead
  pub told : Told kind left_out uses (opening_of r) r.run.inputs xs ds last

pub facts_of : {kind : Kind} {sci : Sci} {left_out : Premise} {uses : Uses} {r : RunWith} {xs : List SentIn}
    {ds : List Delivery} {last : Ahead} → r.run.config.sci ≡ sci →
    Told kind left_out uses (opening_of r) r.run.inputs xs ds last → Facts kind sci left_out uses r xs ds
facts_of {last} of_sci told = record { of_sci = of_sci; last = last; told = told }

pub of_run : {kind : Kind} {sci : Sci} {left_out : Premise} {uses : Uses} {r : RunWith} {xs : List SentIn}
    {ds : List Delivery} → Facts kind sci left_out uses r xs ds → IsRunOf kind sci r
of_run it = record { of_sci = it.of_sci; good = it.told.always }

pub is_sound : {kind : Kind} {sci : Sci} (r : RunWith) → length kind.salt ≡ 12 → IsRunOf kind sci r → IsSoundRun r
is_sound r long it n = (it.good n).sound long

-- ---- peers

pub record KindsAgree (of_suite of_salt left_out : Premise) (kind other : Kind) : Type 0 where
  pub suite : of_suite ≢ left_out → kind.suite ≡ other.suite
  pub salt : of_salt ≢ left_out → is_xpn kind.suite ≡ true → kind.salt ≡ other.salt

agree_by : (of_suite of_salt left_out : Premise) (kind other : Kind) → KindsAgree of_suite of_salt left_out kind other →
    {sci sci' : Sci} (r r' : RunWith) → IsRunOf kind sci r → IsRunOf other sci' r' →
    AgreeBut of_suite of_salt left_out r r'
agree_by of_suite of_salt left_out kind other agree r r' it it' x y used used' same =
    let is = All-contains (IsKeyOf kind) _ x (it.good used.moment).keys used.there in
    let is' = All-contains (IsKeyOf other) _ y (it'.good used'.moment).keys used'.there in
    record {
      suite = λ d. is.suite ∙ (agree.suite d ∙ sym is'.suite);
      salt = λ d xpn. is.salt ∙ (agree.salt d (subst (λ s. is_xpn s ≡ true) is.suite xpn) ∙ sym is'.salt);
    }

same_by : (left_out : Premise) (kind other : Kind) →
    (KeepsSsci ≢ left_out → is_xpn kind.suite ≡ true → kind.ssci ≡ other.ssci) → {sci sci' : Sci} →
    (KeepsSci ≢ left_out → sci ≡ sci') → (r r' : RunWith) → IsRunOf kind sci r → IsRunOf other sci' r' →
    IsSameEndBut left_out r r'
same_by left_out kind other ssci sci r r' it it' = record {
  sci = λ d. it.of_sci ∙ (sci d ∙ sym it'.of_sci);
  ssci = λ d x y used used' same xpn.
      let is = All-contains (IsKeyOf kind) _ x (it.good used.moment).keys used.there in
      let is' = All-contains (IsKeyOf other) _ y (it'.good used'.moment).keys used'.there in
      is.ssci ∙ (ssci d (subst (λ s. is_xpn s ≡ true) is.suite xpn) ∙ sym is'.ssci);
}

pairs_of_all : {X : Type 0} (P : X → Type 0) (R : X → X → Type 0) → ((x y : X) → P x → P y → R x y) → (xs : List X) →
    All P xs → AllPairs R xs
pairs_of_all P R pair _ all i j d less within = pair _ _ (all i d (omega (arith, less, within))) (all j d within)

-- the keys of each end are of one kind
pub peers : (left_out : Premise) (kind other : Kind) → KindsAgree HasOneSuite HasOneSalt left_out kind other →
    (ra rb : List RunWith) → All (IsRunOf kind sci_a) ra → All (IsRunOf other sci_b) rb → ArePeersBut left_out ra rb
peers left_out kind other agree ra rb are are' = record {
  agree_a = pairs_of_all (IsRunOf kind sci_a) (AgreeInRunsBut left_out) (λ r r' it it'. agree_by KeepsSuite KeepsSalt
      left_out kind kind (record { suite = λ d. refl; salt = λ d xpn. refl }) r r' it it') ra are;
  agree_b = pairs_of_all (IsRunOf other sci_b) (AgreeInRunsBut left_out) (λ r r' it it'. agree_by KeepsSuite KeepsSalt
      left_out other other (record { suite = λ d. refl; salt = λ d xpn. refl }) r r' it it') rb are';
  agree = All-weaker (IsRunOf kind sci_a) (λ r. All (AgreeAtBothBut left_out r) rb)
      (λ r it. All-weaker (IsRunOf other sci_b) (AgreeAtBothBut left_out r)
      (λ r' it'. agree_by HasOneSuite HasOneSalt left_out kind other agree r r' it it') rb are') ra are;
  one_a = pairs_of_all (IsRunOf kind sci_a) (IsSameEndBut left_out)
      (λ r r' it it'. same_by left_out kind kind (λ d xpn. refl) (λ d. refl) r r' it it') ra are;
  one_b = pairs_of_all (IsRunOf other sci_b) (IsSameEndBut left_out)
      (λ r r' it it'. same_by left_out other other (λ d xpn. refl) (λ d. refl) r r' it it') rb are';
}

-- with 32-bit packet numbers
pub short_agree : {left_out : Premise} → KindsAgree HasOneSuite HasOneSalt left_out (short 1) (short 2)
short_agree = record { suite = λ d. refl; salt = λ d xpn. refl }

pub pair : {X : Type 0} (R : X → X → Type 0) (x y : X) → R x y → AllPairs R (x ∷ y ∷ [])
pair R x y holds = AllPairs-cons R x (y ∷ []) (All-cons (R x) y [] holds (All-nil (R x))) (one_alone R y)

pub one : {X : Type 0} (P : X → Type 0) (x : X) → P x → All P (x ∷ [])
one P x holds = All-cons P x [] holds (All-nil P)

pub both : {X : Type 0} (P : X → Type 0) (x y : X) → P x → P y → All P (x ∷ y ∷ [])
both P x y first second = All-cons P x (y ∷ []) first (one P y second)

-- what two runs of an end sent, and what they delivered
pub sent_by_two : (r r' : RunWith) {xs ys : List SentIn} → sent_by_run r ≡ xs → sent_by_run r' ≡ ys →
    sent_by_all (r ∷ r' ∷ []) ≡ xs ++ ys
sent_by_two r r' {xs} {ys} is is' = ap (λ zs. zs ++ (sent_by_run r' ++ [])) is ∙ ap (λ zs. xs ++ (zs ++ [])) is'
    ∙ ap (λ zs. xs ++ zs) (append-nil ys)

pub delivered_by_two : (r r' : RunWith) {ds es : List Delivery} → delivered_by_run r ≡ ds → delivered_by_run r' ≡ es →
    delivered_by_all (r ∷ r' ∷ []) ≡ ds ++ es
delivered_by_two r r' {ds} {es} is is' = ap (λ zs. zs ++ (delivered_by_run r' ++ [])) is
    ∙ ap (λ zs. ds ++ (zs ++ [])) is' ∙ ap (λ zs. ds ++ zs) (append-nil es)

-- two runs of B, and none of A
pub two_runs_of_b : (left_out : Premise) (kind other : Kind) {sci sci' : Sci} (s r : RunWith) →
    KindsAgree KeepsSuite KeepsSalt left_out kind other →
    (KeepsSsci ≢ left_out → is_xpn kind.suite ≡ true → kind.ssci ≡ other.ssci) → (KeepsSci ≢ left_out → sci ≡ sci') →
    IsRunOf kind sci s → IsRunOf other sci' r → ArePeersBut left_out [] (s ∷ r ∷ [])
two_runs_of_b left_out kind other s r agree ssci sci it it' = record {
  agree_a = no_pairs (AgreeInRunsBut left_out);
  agree_b = pair (AgreeInRunsBut left_out) s r (agree_by KeepsSuite KeepsSalt left_out kind other agree s r it it');
  agree = All-nil (λ run. All (AgreeAtBothBut left_out run) (s ∷ r ∷ []));
  one_a = no_pairs (IsSameEndBut left_out);
  one_b = pair (IsSameEndBut left_out) s r (same_by left_out kind other ssci sci s r it it');
}

-- ---- what a later run reads

pub keeps_sent : (key : List ℕ) (r later : RunWith) {xs : List SentIn} → sent_by_run r ≡ xs →
    All (λ x. x.number ≤ highest (reservations later.run.journal) (sending_name (salt_of later.run.journal) key))
    (sent_under key xs) → KeepsSentWith key r later
keeps_sent key r later is all x y here there =
    All-contains (λ z. z.number ≤ highest (reservations later.run.journal)
    (sending_name (salt_of later.run.journal) key)) (sent_under_by key r) x (subst
    (λ zs. All (λ z. z.number ≤ highest (reservations later.run.journal)
    (sending_name (salt_of later.run.journal) key)) (sent_under key zs)) (sym is) all) here

pub keeps_used : (r later : RunWith) {xs ys : List SentIn} → sent_by_run r ≡ xs → sent_by_run later ≡ ys →
    All (λ x. All (Covers later.run x) ys) xs → KeepsUsedWith r later
keeps_used r later {ys} is is' all = subst (λ zs. All (λ x. All (Covers later.run x) zs) (sent_by_run r)) (sym is')
    (subst (All (λ x. All (Covers later.run x) ys)) (sym is) all)

pub keeps_delivered : (r later : RunWith) {ds : List Delivery} → delivered_by_run r ≡ ds →
    All (λ d. d.number ≤ saved_for_sa bytes sci_a 0 later) (delivered_at bytes sci_a 0 ds) →
    KeepsDeliveredWith bytes sci_a 0 r later
keeps_delivered r later is all d g here there =
    All-contains (λ z. z.number ≤ saved_for_sa bytes sci_a 0 later) (delivered_at_by bytes sci_a 0 r) d
    (subst (λ zs. All (λ z. z.number ≤ saved_for_sa bytes sci_a 0 later) (delivered_at bytes sci_a 0 zs)) (sym is) all)
    here

-- ---- what a history shows

-- all premises but one, and those on what later runs read; what A sent, and what B delivered
pub record Meets (left_out : Premise) (ahead : End → ℕ → Bool) (its : List EndRun) (sends : List SentIn)
    (ds : List Delivery) : Type 0 where
  pub sounds : StaysSoundAlways ≢ left_out → (f : End) → All IsSoundRun (runs_in ahead f its)
  pub fair : AreMet left_out ahead [] its
  pub are_peers : ArePeersBut left_out (runs_in ahead A its) (runs_in ahead B its)
  pub sent : sent_by_all (runs_in ahead A its) ≡ sends
  pub delivered : delivered_by_all (runs_in ahead B its) ≡ ds

-- where the keys of each end are of one kind
pub meets_by : {left_out : Premise} {ahead : End → ℕ → Bool} {its : List EndRun} {sends : List SentIn}
    {ds : List Delivery} (kind other : Kind) → KindsAgree HasOneSuite HasOneSalt left_out kind other →
    (StaysSoundAlways ≢ left_out → (length kind.salt ≡ 12) × (length other.salt ≡ 12)) →
    All (IsRunOf kind sci_a) (runs_in ahead A its) → All (IsRunOf other sci_b) (runs_in ahead B its) →
    AreMet left_out ahead [] its → sent_by_all (runs_in ahead A its) ≡ sends →
    delivered_by_all (runs_in ahead B its) ≡ ds → Meets left_out ahead its sends ds
meets_by {left_out} {ahead} {its} kind other agree long are are' fair sent delivered = record {
  sounds = by_end;
  fair = fair;
  are_peers = peers left_out kind other agree (runs_in ahead A its) (runs_in ahead B its) are are';
  sent = sent;
  delivered = delivered;
}
  where
    by_end : StaysSoundAlways ≢ left_out → (f : End) → All IsSoundRun (runs_in ahead f its)
    by_end d A = All-weaker (IsRunOf kind sci_a) IsSoundRun (λ r it. is_sound r (long d).0 it) (runs_in ahead A its)
        are
    by_end d B = All-weaker (IsRunOf other sci_b) IsSoundRun (λ r it. is_sound r (long d).1 it) (runs_in ahead B its)
        are'

-- two runs of B, and none of A
pub meets_of_b : {left_out : Premise} {ds : List Delivery} (s r : Run) → IsSoundRun
    (without_option s) → IsSoundRun (without_option r) →
    ArePeersBut left_out [] (without_option s ∷ without_option r ∷ []) →
    AreMet left_out never [] ((B, s) ∷ (B, r) ∷ []) → delivered_by_all (without_option s ∷ without_option r ∷ []) ≡ ds →
    Meets left_out never ((B, s) ∷ (B, r) ∷ []) [] ds
meets_of_b s r sound sound' are_peers fair delivered = record {
  sounds = λ d. by_end;
  fair = fair;
  are_peers = are_peers;
  sent = refl;
  delivered = delivered;
}
  where
    by_end : (f : End) → All IsSoundRun (runs_in never f ((B, s) ∷ (B, r) ∷ []))
    by_end A = All-nil IsSoundRun
    by_end B = both IsSoundRun (without_option s) (without_option r) sound sound'

module _ (ahead : End → ℕ → Bool) (its : List EndRun) where
  sounds_at : ((f : End) → All IsSoundRun (runs_in ahead f its)) → (f : End) →
      All IsSoundRun (runs_at ahead f (blocks its))
  sounds_at all f = subst (All IsSoundRun) (sym (runs_at-blocks ahead f its)) (all f)

  pairs_at : (R : RunWith → RunWith → Type 0) (e : End) → AllPairs R (runs_in ahead e its) →
      AllPairs R (runs_at ahead e (blocks its))
  pairs_at R e pairs = subst (AllPairs R) (sym (runs_at-blocks ahead e its)) pairs

  -- what B delivered is no subsequence of what A sent, so the promise is broken without the premise
  pub refuted : (Sent : List ℕ → RunWith → RunWith → Type 0)
      (Delivered : List ℕ → Sci → ℕ → RunWith → RunWith → Type 0) (left_out : Premise) {sends : List SentIn}
      {ds : List Delivery} → Meets left_out ahead its sends ds → AllPairs (Sent bytes) (runs_in ahead A its) →
      AllPairs (Delivered bytes sci_a 0) (runs_in ahead B its) →
      (IsSubsequence (map numbered_delivery (delivered_at bytes sci_a 0 ds))
      (map numbered_sent (sent_under bytes sends)) → ⊥) → PromiseIf Sent Delivered left_out ahead (blocks its) → ⊥
  refuted Sent Delivered left_out {sends} {ds} it reads reads' none law =
      let delivered = delivered_by_all (runs_at ahead B (blocks its)) in
      none (subst (λ gs. IsSubsequence (map numbered_delivery (delivered_at bytes sci_a 0 gs))
      (map numbered_sent (sent_under bytes sends))) (ap delivered_by_all (runs_at-blocks ahead B its) ∙ it.delivered)
      (subst (λ xs. IsSubsequence (map numbered_delivery (delivered_at bytes sci_a 0 delivered))
      (map numbered_sent (sent_under bytes xs))) (ap sent_by_all (runs_at-blocks ahead A its) ∙ it.sent)
      (law B bytes sci_a 0 (λ d. sounds_at (it.sounds d))
      (each_fair left_out ahead bytes sci_a 0 its it.fair it.are_peers) (pairs_at (Sent bytes) A reads)
      (pairs_at (Delivered bytes sci_a 0) B reads'))))

  -- where later runs read what was sent and delivered
  pub breaks : (left_out : Premise) {sends : List SentIn} {ds : List Delivery} → Meets left_out ahead its sends ds →
      AllPairs (KeepsSentBut left_out bytes) (runs_in ahead A its) →
      AllPairs (KeepsDeliveredBut left_out bytes sci_a 0) (runs_in ahead B its) →
      (IsSubsequence (map numbered_delivery (delivered_at bytes sci_a 0 ds))
      (map numbered_sent (sent_under bytes sends)) → ⊥) → LawWithout left_out ahead (blocks its) → ⊥
  breaks left_out it reads reads' none =
      refuted (KeepsSentBut left_out) (KeepsDeliveredBut left_out) left_out it reads reads' none

  -- the history meets all premises; and what A sent and B delivered, each client frame after its packet number
  pub record MeetsAll (key : List ℕ) (sent delivered : List (List ℕ)) : Type 0 where
    pub sounds : (f : End) → All IsSoundRun (runs_at ahead f (blocks its))
    pub fair : AtEach (AskedOfLast ahead B (IsFairAt ahead B key sci_a 0)) [] (blocks its)
    pub kept_sent : AllPairs (KeepsSentWith key) (runs_at ahead A (blocks its))
    pub kept_delivered : AllPairs (KeepsDeliveredWith key sci_a 0) (runs_at ahead B (blocks its))
    pub sends : map numbered_sent (sent_under key (sent_by_all (runs_at ahead A (blocks its)))) ≡ sent
    pub delivers : map numbered_delivery (delivered_at key sci_a 0
        (delivered_by_all (runs_at ahead B (blocks its)))) ≡ delivered

  pub meets_all : (key : List ℕ) {sends : List SentIn} {ds : List Delivery} → Meets NoPremise ahead its sends ds →
      AllPairs (KeepsSentWith key) (runs_in ahead A its) →
      AllPairs (KeepsDeliveredWith key sci_a 0) (runs_in ahead B its) →
      MeetsAll key (map numbered_sent (sent_under key sends)) (map numbered_delivery (delivered_at key sci_a 0 ds))
  meets_all key it reads reads' = record {
    sounds = sounds_at (it.sounds (λ none. cc));
    fair = each_suffices ahead B key sci_a 0 (blocks its)
        (each_fair NoPremise ahead key sci_a 0 its it.fair it.are_peers);
    kept_sent = pairs_at (KeepsSentWith key) A reads;
    kept_delivered = pairs_at (KeepsDeliveredWith key sci_a 0) B reads';
    sends = ap (λ xs. map numbered_sent (sent_under key xs)) (ap sent_by_all (runs_at-blocks ahead A its) ∙ it.sent);
    delivers = ap (λ xs. map numbered_delivery (delivered_at key sci_a 0 xs))
        (ap delivered_by_all (runs_at-blocks ahead B its) ∙ it.delivered);
  }

  -- what B delivered comes in the order of sending, if the lists say so
  pub in_order : {key : List ℕ} {sent delivered : List (List ℕ)} → MeetsAll key sent delivered →
      IsSubsequence delivered sent → ComesInOrderRenewing ahead B key sci_a 0 (blocks its)
  in_order {key} {delivered} it order = subst (λ ds. IsSubsequence ds (map numbered_sent (sent_under key
      (sent_by_all (runs_at ahead A (blocks its)))))) (sym it.delivers)
      (subst (IsSubsequence delivered) (sym it.sends) order)

  -- A meets the premises of no IV
  pub no_iv : {sends : List SentIn} {ds : List Delivery} → Meets NoPremise ahead its sends ds →
      AllPairs KeepsUsedWith (runs_in ahead A its) → IsHistoryWith (runs_at ahead A (blocks its))
  no_iv it reads = record {
    sound = sounds_at (it.sounds (λ none. cc)) A;
    agree = pairs_at AgreeOnKeysWith A (peers_suffice (runs_in ahead A its) (runs_in ahead B its) it.are_peers).agree_a;
    keeps = pairs_at KeepsUsedWith A reads;
  }
