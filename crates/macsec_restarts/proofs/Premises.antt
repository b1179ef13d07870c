-- What the premises of the laws of endpoints that renew keys ask. Each lemma makes a premise of what it asks, for any
-- runs, and does not if the premise asks for more.
use Rattle.std.proofs.Common.{◌++◌, ◌≡◌, ◌≢◌, ◌≤◌, ℕ, List, All, AllPairs, Bool, Contains, None, Some, get_or, refl}
use Rattle.std.proofs.Common.{true}
use Rattle.std.proofs.lemmas.List.Elements.{Contains-get_or}
use Rattle.macsec_tag.specs.declared.identifiers.Sci.{Sci}
use Rattle.macsec_suite.specs.KeyRows.{InstalledKey}
use Rattle.macsec_suite.specs.Suites.{is_xpn}
use Rattle.macsec_commands.specs.declared.{
  event.End.{End, TheVariants.{A, B}},
  mode.Mode.TheVariants.Strict,
}
use Rattle.macsec_rx.specs.Channels.{rx_row}
use Rattle.macsec_rx.specs.declared.RxRow.{RxRow}
use Rattle.macsec_secy.specs.{
  Commands.uses,
  Reception.judgement_of,
  Sound.IsSound,
  State.State,
  Step.link_frame,
}
use Rattle.macsec_reserve.specs.{
  Histories.{AgreeOnKey, reported},
  Journal.{highest, reservations, salt_of, sending_name},
  Keeping.{KeepingInput, endpoint_input},
  Replay.{IsAccepted, KeepsAssociation, row_name, saved_for},
  TwoEnds.AgreeAtBoth,
}
use Rattle.macsec_ahead.specs.Ahead.{Ahead, lets_through}
use Rattle.macsec_restarts.specs.{
  AheadRuns.{AreOfOneSa, delivery_name, newly_delivered_with},
  Delivered.{Delivery, delivered_at},
  Happenings.{Happening, comes_in},
  Kept.{IsGenuineFrom, RunWith, runs_at},
  Order.HasStrictOrder,
  Peers.HasOctets,
  RenewingEnds.{HasSavedRenewing, IsDeletedBy},
  RenewingOrder.{AreOfTwoEndsWith, ArePeersRenewing, IsFairAt, IsFromPeers, IsHistoryWith, IsOriginAt, IsSameEndWith},
  RenewingOrder.{KeepsDeliveredWith, KeepsSentWith, closing_renewing, delivered_at_by, saved_for_sa, sent_under_by},
  RenewingRuns.{AgreeOnKeysWith, AgreeOnUsedKeys, IsSoundRun, IsUsedIn, KeepsAcceptedWith, KeepsUsedWith},
  RenewingRuns.{accepted_by_run, ahead_renewing_after, ahead_renewing_step, opening_of, sent_by_all, sent_by_run},
  RenewingRuns.states_of,
  Sent.SentIn,
}

-- ---- keys

-- keys of the same octets need not agree if no SA uses them
agree_on_used : (states later : ℕ → State) →
    ((n m : ℕ) (x y : InstalledKey) → Contains (states n).keys x → uses (states n) x.number ≡ true →
    Contains (later m).keys y → uses (later m) y.number ≡ true → x.bytes ≡ y.bytes → AgreeOnKey x y) →
    AgreeOnUsedKeys states later
agree_on_used states later agree x y first second same =
    agree first.moment second.moment x y first.there first.used second.there second.used same

of_two_ends : (r other : RunWith) → r.run.config.sci ≢ other.run.config.sci →
    ((x y : InstalledKey) → IsUsedIn (states_of r) x → IsUsedIn (states_of other) y → x.bytes ≡ y.bytes →
    AgreeAtBoth x y) → AreOfTwoEndsWith r other
of_two_ends r other sci keys = record { sci = sci; keys = keys }

same_end : (r later : RunWith) → r.run.config.sci ≡ later.run.config.sci →
    ((x y : InstalledKey) → IsUsedIn (states_of r) x → IsUsedIn (states_of later) y → x.bytes ≡ y.bytes →
    is_xpn x.suite ≡ true → x.ssci ≡ y.ssci) → IsSameEndWith r later
same_end r later sci ssci = record { sci = sci; ssci = ssci }

are_peers : (ra rb : List RunWith) → AllPairs AgreeOnKeysWith ra → AllPairs AgreeOnKeysWith rb →
    All (λ r. All (AgreeOnKeysWith r) rb) ra → AllPairs IsSameEndWith ra → AllPairs IsSameEndWith rb →
    ArePeersRenewing ra rb
are_peers ra rb agree_a agree_b agree one_a one_b =
    record { agree_a = agree_a; agree_b = agree_b; agree = agree; one_a = one_a; one_b = one_b }

-- ---- journals: what was used, accepted, sent or delivered is covered, and not what was reserved

keeps_used : (r later : RunWith) →
    ((x y : SentIn) → Contains (sent_by_run r) x → Contains (sent_by_run later) y → x.seal.key ≡ y.seal.key →
    x.number ≤ highest (reservations later.run.journal) (sending_name (salt_of later.run.journal) y.seal.key)) →
    KeepsUsedWith r later
keeps_used r later covers i d within j d' within' key =
    covers (get_or (sent_by_run r) i d) (get_or (sent_by_run later) j d') (Contains-get_or (sent_by_run r) i d within)
    (Contains-get_or (sent_by_run later) j d' within') key

history : (rs : List RunWith) → All IsSoundRun rs → AllPairs AgreeOnKeysWith rs → AllPairs KeepsUsedWith rs →
    IsHistoryWith rs
history rs sound agree keeps = record { sound = sound; agree = agree; keeps = keeps }

keeps_accepted : (r later : RunWith) →
    ((d e : Delivery) → Contains (accepted_by_run r) d → Contains (accepted_by_run later) e → AreOfOneSa d e →
    d.number ≤ highest (reservations later.run.journal) (delivery_name (salt_of later.run.journal) e)) →
    KeepsAcceptedWith r later
keeps_accepted r later covers = covers

keeps_sent : (bytes : List ℕ) (r later : RunWith) →
    ((x y : SentIn) → Contains (sent_under_by bytes r) x → Contains (sent_under_by bytes later) y →
    x.number ≤ highest (reservations later.run.journal) (sending_name (salt_of later.run.journal) bytes)) →
    KeepsSentWith bytes r later
keeps_sent bytes r later covers = covers

keeps_delivered : (bytes : List ℕ) (sci : Sci) (an : ℕ) (r later : RunWith) →
    ((d g : Delivery) → Contains (delivered_at_by bytes sci an r) d →
    Contains (delivered_at_by bytes sci an later) g → d.number ≤ saved_for_sa bytes sci an later) →
    KeepsDeliveredWith bytes sci an r later
keeps_delivered bytes sci an r later covers = covers

-- ---- an input that delivers

module _ (ahead : End → ℕ → Bool) (e : End) (before : List Happening) (r : RunWith) (input : KeepingInput) where
  abbrev ra : List RunWith
  ra = runs_at ahead A before

  abbrev rb : List RunWith
  rb = runs_at ahead B before

  from_peers : HasOctets (comes_in e input) →
      IsGenuineFrom (sent_by_all ra ++ sent_by_all rb) (closing_renewing r) input → ArePeersRenewing ra rb →
      IsFromPeers ra rb (closing_renewing r) (comes_in e input) input
  from_peers octets genuine peers = record { octets = octets; genuine = genuine; peers = peers }

  -- origin: the window and the replay protection do not matter
  is_origin : ((d : Delivery) → Contains (newly_delivered_with (closing_renewing r) input) d →
      ((closing_renewing r).k.secy.options.mode ≡ Strict) ×
      IsFromPeers ra rb (closing_renewing r) (comes_in e input) input) → IsOriginAt ahead e before r input
  is_origin delivers d there = let it = delivers d there in record { strict = it.0; from = it.1 }

  -- order: what other SAs deliver does not matter
  is_fair : (bytes : List ℕ) (sci : Sci) (an : ℕ) → ((d : Delivery) →
      Contains (delivered_at bytes sci an (newly_delivered_with (closing_renewing r) input)) d →
      HasStrictOrder (closing_renewing r).k.secy ×
      IsFromPeers ra rb (closing_renewing r) (comes_in e input) input) → IsFairAt ahead e bytes sci an before r input
  is_fair bytes sci an delivers d there = let it = delivers d there in record { order = it.0; from = it.1 }

-- ---- SAs that are deleted, and packet numbers that are saved

is_deleted : (a : Ahead) (input : KeepingInput) (row : RxRow) →
    rx_row a.k.secy.rx.rows row.sci row.an ≡ Some row →
    rx_row (ahead_renewing_step a input).1.k.secy.rx.rows row.sci row.an ≡ None → IsDeletedBy a input row
is_deleted a input row there gone = record { there = there; gone = gone }

module _ (r : RunWith) (before then_on : List KeepingInput) (frame : List ℕ) (from row : RxRow) where
  abbrev first : Ahead
  first = ahead_renewing_after (opening_of r) before

  abbrev last : Ahead
  last = ahead_renewing_after (ahead_renewing_step first (endpoint_input (link_frame frame))).1 then_on

  has_saved : IsSound first.k.secy → IsAccepted first.k.secy frame from →
      lets_through first (endpoint_input (link_frame frame)) ≡ true → All (KeepsAssociation from.sci from.an) then_on →
      IsSound last.k.secy → last.k.secy.options.window ≡ 0 →
      rx_row last.k.secy.rx.rows from.sci from.an ≡ Some row →
      Contains (reported r.run) (saved_for last.k.salt last.k.secy row) →
      HasSavedRenewing r (row_name last.k.salt last.k.secy row) (judgement_of first.k.secy frame).number
  has_saved sound accepted passes keeps sound_last window there durable = record {
    before = before;
    first = first;
    first_is = refl;
    sound = sound;
    frame = frame;
    from = from;
    accepted = accepted;
    passes = passes;
    number = refl;
    then_on = then_on;
    keeps = keeps;
    last = last;
    last_is = refl;
    sound_last = sound_last;
    window = window;
    row = row;
    there = there;
    name_is = refl;
    durable = durable;
  }
