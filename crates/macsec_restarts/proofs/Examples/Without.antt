-- The premises of order of endpoints that renew keys, with names, and the promise without one of them. One law asks
-- that a later run reads what was sent and delivered before. The other one asks what is enough for that.
use Rattle.macsec_restarts.proofs.Names.{[], ◌++◌, ◌≡◌, ◌≢◌, ◌⊎◌, A, Ahead, All, All-weaker, AllPairs, AtEach, B}
use Rattle.macsec_restarts.proofs.Names.{begins, Bool, bytes, comes_in, Contains, delivered_at, Delivery, End, Events}
use Rattle.macsec_restarts.proofs.Names.{get_or, Happening, HasOctets, IfSome, inl, inr, InstalledKey, is_xpn}
use Rattle.macsec_restarts.proofs.Names.{KeepingInput, KeepsDurable, length, List, newly_delivered_with, None, Option}
use Rattle.macsec_restarts.proofs.Names.{other_end, runs_at, RunWith, SameSalt, Sci, Some, State, Strict, subst, true}
use Rattle.macsec_restarts.proofs.Names.{ℕ}
use Rattle.macsec_restarts.proofs.RenewingOrigins.{each_weaker}
use Rattle.macsec_restarts.specs.Kept.{IsGenuineFrom, last_of, ReadsDurable}
use Rattle.macsec_restarts.specs.RenewingOrder.{ArePeersRenewing, AskedOfLast, closing_renewing}
use Rattle.macsec_restarts.specs.RenewingOrder.{ComesInOrderIfKeptRenewing, ComesInOrderIfReadRenewing}
use Rattle.macsec_restarts.specs.RenewingOrder.{ComesInOrderRenewing, IsFairAt, IsSameEndWith, KeepsDeliveredWith}
use Rattle.macsec_restarts.specs.RenewingOrder.{KeepsSentWith, ReadsDeliveredWith, ReadsSentWith}
use Rattle.macsec_restarts.specs.RenewingRuns.{AgreeOnKeysWith, IsSoundRun, IsUsedIn, sent_by_all, states_of}
use Rattle.std.proofs.Common.{le_refl, take_all}

pub data Premise : Type 0 where
  IsNotForged : Premise
  IsStrict : Premise
  DropsLate : Premise
  HasWindowOf0 : Premise
  KeepsSci : Premise
  KeepsSsci : Premise
  KeepsSuite : Premise
  KeepsSalt : Premise
  HasOneSuite : Premise
  HasOneSalt : Premise
  StaysSoundAlways : Premise
  -- a later run reads what was sent before, or what was delivered
  ReadsSent : Premise
  ReadsDelivered : Premise
  -- what is enough for that
  ReadsSalt : Premise
  ReadsReported : Premise
  HasOption : Premise
  -- where none is left out
  NoPremise : Premise

pub record HasStrictOrderBut (left_out : Premise) (s : State) : Type 0 where
  pub mode : IsStrict ≢ left_out → s.options.mode ≡ Strict
  pub replay : DropsLate ≢ left_out → s.options.replay ≡ true
  pub window : HasWindowOf0 ≢ left_out → s.options.window ≡ 0

-- keys of the same octets agree in two runs, where the suite is one premise, and the salt another
pub record AgreeOnKeyBut (of_suite of_salt left_out : Premise) (x y : InstalledKey) : Type 0 where
  pub suite : of_suite ≢ left_out → x.suite ≡ y.suite
  pub salt : of_salt ≢ left_out → is_xpn x.suite ≡ true → x.salt ≡ y.salt

abbrev pub AgreeBut : Premise → Premise → Premise → RunWith → RunWith → Type 0
AgreeBut of_suite of_salt left_out r later =
    (x y : InstalledKey) → IsUsedIn (states_of r) x → IsUsedIn (states_of later) y → x.bytes ≡ y.bytes →
    AgreeOnKeyBut of_suite of_salt left_out x y

-- in two runs of one end
abbrev pub AgreeInRunsBut : Premise → RunWith → RunWith → Type 0
AgreeInRunsBut left_out r later = AgreeBut KeepsSuite KeepsSalt left_out r later

-- in a run of one end and a run of the other
abbrev pub AgreeAtBothBut : Premise → RunWith → RunWith → Type 0
AgreeAtBothBut left_out r other = AgreeBut HasOneSuite HasOneSalt left_out r other

pub record IsSameEndBut (left_out : Premise) (r later : RunWith) : Type 0 where
  pub sci : KeepsSci ≢ left_out → r.run.config.sci ≡ later.run.config.sci
  pub ssci : KeepsSsci ≢ left_out → (x y : InstalledKey) → IsUsedIn (states_of r) x → IsUsedIn (states_of later) y →
      x.bytes ≡ y.bytes → is_xpn x.suite ≡ true → x.ssci ≡ y.ssci

pub record ArePeersBut (left_out : Premise) (ra rb : List RunWith) : Type 0 where
  pub agree_a : AllPairs (AgreeInRunsBut left_out) ra
  pub agree_b : AllPairs (AgreeInRunsBut left_out) rb
  pub agree : All (λ r. All (AgreeAtBothBut left_out r) rb) ra
  pub one_a : AllPairs (IsSameEndBut left_out) ra
  pub one_b : AllPairs (IsSameEndBut left_out) rb

pub record IsFromPeersBut (left_out : Premise) (ra rb : List RunWith) (a : Ahead) (h : Happening)
    (input : KeepingInput) : Type 0 where
  pub order : HasStrictOrderBut left_out a.k.secy
  pub octets : HasOctets h
  pub genuine : IsNotForged ≢ left_out → IsGenuineFrom (sent_by_all ra ++ sent_by_all rb) a input
  pub peers : ArePeersBut left_out ra rb

abbrev pub IsFairAtBut : Premise → (End → ℕ → Bool) → End → List ℕ → Sci → ℕ → Events → RunWith → KeepingInput →
    Type 0
IsFairAtBut left_out ahead e bytes sci an before r input =
    (d : Delivery) → Contains (delivered_at bytes sci an (newly_delivered_with (closing_renewing r) input)) d →
    IsFromPeersBut left_out (runs_at ahead A before) (runs_at ahead B before) (closing_renewing r) (comes_in e input)
    input

-- ---- what a later run reads

abbrev pub KeepsSentBut : Premise → List ℕ → RunWith → RunWith → Type 0
KeepsSentBut left_out bytes r later = ReadsSent ≢ left_out → KeepsSentWith bytes r later

abbrev pub KeepsDeliveredBut : Premise → List ℕ → Sci → ℕ → RunWith → RunWith → Type 0
KeepsDeliveredBut left_out bytes sci an r later = ReadsDelivered ≢ left_out → KeepsDeliveredWith bytes sci an r later

-- it is enough that it reads the same salt, and what was reported durable
pub record ReadsBut (left_out : Premise) (r later : RunWith) : Type 0 where
  pub salt : ReadsSalt ≢ left_out → SameSalt r.run later.run
  pub reported : ReadsReported ≢ left_out → KeepsDurable r.run later.run

abbrev pub ReadsSentBut : Premise → List ℕ → RunWith → RunWith → Type 0
ReadsSentBut left_out bytes r later = KeepsSentWith bytes r later ⊎ ReadsBut left_out r later

abbrev pub ReadsDeliveredBut : Premise → List ℕ → Sci → ℕ → RunWith → RunWith → Type 0
ReadsDeliveredBut left_out bytes sci an r later =
    KeepsDeliveredWith bytes sci an r later ⊎ ((HasOption ≢ left_out → r.ahead ≡ true) × ReadsBut left_out r later)

-- ---- the promise without one of the premises

abbrev pub PromiseIf : (List ℕ → RunWith → RunWith → Type 0) → (List ℕ → Sci → ℕ → RunWith → RunWith → Type 0) →
    Premise → (End → ℕ → Bool) → Events → Type 0
PromiseIf Sent Delivered left_out ahead events =
    (e : End) (bytes : List ℕ) (sci : Sci) (an : ℕ) →
    (StaysSoundAlways ≢ left_out → (f : End) → All IsSoundRun (runs_at ahead f events)) →
    AtEach (AskedOfLast ahead e (IsFairAtBut left_out ahead e bytes sci an)) [] events →
    AllPairs (Sent bytes) (runs_at ahead (other_end e) events) →
    AllPairs (Delivered bytes sci an) (runs_at ahead e events) → ComesInOrderRenewing ahead e bytes sci an events

-- a later run reads what was sent and delivered
abbrev pub LawWithout : Premise → (End → ℕ → Bool) → Events → Type 0
LawWithout left_out ahead events =
    PromiseIf (KeepsSentBut left_out) (KeepsDeliveredBut left_out) left_out ahead events

-- or what is enough for that
abbrev pub ReadLawWithout : Premise → (End → ℕ → Bool) → Events → Type 0
ReadLawWithout left_out ahead events =
    PromiseIf (ReadsSentBut left_out) (ReadsDeliveredBut left_out) left_out ahead events

-- ---- together they are the premises of the law

pub peers_suffice : (ra rb : List RunWith) → ArePeersBut NoPremise ra rb → ArePeersRenewing ra rb
peers_suffice ra rb is = record {
  agree_a = λ i j d less within. keys_suffice KeepsSuite KeepsSalt (λ none. cc) (λ none. cc) (get_or ra i d)
      (get_or ra j d) (is.agree_a i j d less within);
  agree_b = λ i j d less within. keys_suffice KeepsSuite KeepsSalt (λ none. cc) (λ none. cc) (get_or rb i d)
      (get_or rb j d) (is.agree_b i j d less within);
  agree = All-weaker (λ r. All (AgreeAtBothBut NoPremise r) rb) (λ r. All (AgreeOnKeysWith r) rb)
      (λ r all. All-weaker (AgreeAtBothBut NoPremise r) (AgreeOnKeysWith r)
      (λ other are. keys_suffice HasOneSuite HasOneSalt (λ none. cc) (λ none. cc) r other are) rb all) ra is.agree;
  one_a = λ i j d less within. same_end_suffices (get_or ra i d) (get_or ra j d) (is.one_a i j d less within);
  one_b = λ i j d less within. same_end_suffices (get_or rb i d) (get_or rb j d) (is.one_b i j d less within);
}
  where
    keys_suffice : (of_suite of_salt : Premise) → of_suite ≢ NoPremise → of_salt ≢ NoPremise → (r later : RunWith) →
        AgreeBut of_suite of_salt NoPremise r later → AgreeOnKeysWith r later
    keys_suffice of_suite of_salt has_suite has_salt r later are x y here there same =
        let it = are x y here there same in
        record { suite = it.suite has_suite; salt = it.salt has_salt }

    same_end_suffices : (r later : RunWith) → IsSameEndBut NoPremise r later → IsSameEndWith r later
    same_end_suffices r later it = record { sci = it.sci (λ none. cc); ssci = it.ssci (λ none. cc) }

module _ (ahead : End → ℕ → Bool) (e : End) (bytes : List ℕ) (sci : Sci) (an : ℕ) where
  at_last : (before : Events) (input : KeepingInput) (o : Option RunWith) →
      IfSome o (λ r. IsFairAtBut NoPremise ahead e bytes sci an before r input) →
      IfSome o (λ r. IsFairAt ahead e bytes sci an before r input)
  at_last before input None fair = tt
  at_last before input (Some r) fair = λ d there.
      let it = fair d there in
      record {
        order = record {
          mode = it.order.mode (λ none. cc);
          replay = it.order.replay (λ none. cc);
          window = it.order.window (λ none. cc);
        };
        from = record {
          octets = it.octets;
          genuine = it.genuine (λ none. cc);
          peers = peers_suffice (runs_at ahead A before) (runs_at ahead B before) it.peers;
        };
      }

  suffices : (before : Events) (h : Happening) →
      AskedOfLast ahead e (IsFairAtBut NoPremise ahead e bytes sci an) before h →
      AskedOfLast ahead e (IsFairAt ahead e bytes sci an) before h
  suffices before (begins f config journal) fair = tt
  suffices before (comes_in f input) fair = λ same. at_last before input (last_of (runs_at ahead e before)) (fair same)

  pub each_suffices : (events : Events) →
      AtEach (AskedOfLast ahead e (IsFairAtBut NoPremise ahead e bytes sci an)) [] events →
      AtEach (AskedOfLast ahead e (IsFairAt ahead e bytes sci an)) [] events
  each_suffices events each = each_weaker (AskedOfLast ahead e (IsFairAtBut NoPremise ahead e bytes sci an))
      (AskedOfLast ahead e (IsFairAt ahead e bytes sci an)) suffices [] events each

-- so these are the laws, if no premise is left out
none_left_out : (ahead : End → ℕ → Bool) (events : Events) → ComesInOrderIfKeptRenewing ahead events →
    LawWithout NoPremise ahead events
none_left_out ahead events law e bytes sci an sounds fair sent delivered =
    subst (ComesInOrderRenewing ahead e bytes sci an) (take_all (length events) events (le_refl (length events)))
    (law e bytes sci an (sounds (λ none. cc)) (each_suffices ahead e bytes sci an events fair)
    (λ i j d less within. sent i j d less within (λ none. cc))
    (λ i j d less within. delivered i j d less within (λ none. cc)) (length events))

none_left_out_of_read : (ahead : End → ℕ → Bool) (events : Events) → ComesInOrderIfReadRenewing ahead events →
    ReadLawWithout NoPremise ahead events
none_left_out_of_read ahead events law e bytes sci an sounds fair sent delivered =
    subst (ComesInOrderRenewing ahead e bytes sci an) (take_all (length events) events (le_refl (length events)))
    (law e bytes sci an (sounds (λ none. cc)) (each_suffices ahead e bytes sci an events fair)
    (λ i j d less within. sent_reads (get_or (runs_at ahead (other_end e) events) i d)
    (get_or (runs_at ahead (other_end e) events) j d) (sent i j d less within))
    (λ i j d less within. delivered_reads (get_or (runs_at ahead e events) i d) (get_or (runs_at ahead e events) j d)
    (delivered i j d less within)) (length events))
  where
    reads : (r later : RunWith) → ReadsBut NoPremise r later → ReadsDurable r later
    reads r later it = (it.salt (λ none. cc), it.reported (λ none. cc))

    sent_reads : (r later : RunWith) → ReadsSentBut NoPremise bytes r later → ReadsSentWith bytes r later
    sent_reads r later (inl keeps) = inl keeps
    sent_reads r later (inr it) = inr (reads r later it)

    delivered_reads : (r later : RunWith) → ReadsDeliveredBut NoPremise bytes sci an r later →
        ReadsDeliveredWith bytes sci an r later
    delivered_reads r later (inl keeps) = inl keeps
    delivered_reads r later (inr it) = inr (it.0 (λ none. cc), reads r later it.1)
