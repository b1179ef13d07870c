-- One run of each end, of calls, which meet all premises of order over calls. Each end installs its key as a renewal. A
-- sends the same client frame twice, with packet numbers 1 and 2, and B delivers the first one. They are runs of the
-- worked examples of `macsec_restarts`, as lists of calls.
use Rattle.macsec_ahead.specs.Ahead.{Ahead}
use Rattle.macsec_c_calls.specs.GivenUp.{after_call, after_calls, Call, client, command, durable, link, renewal}
use Rattle.macsec_c_runs.specs.Runs.{AgreeOnKeys, CallRun, input_of, IsRun, opening, sent, sent_by, sent_in_all, states}
use Rattle.macsec_c_runs.specs.TwoEnds.{ArePeers, AtEachCall, begins, CallHappening, closing, delivered, delivered_by}
use Rattle.macsec_c_runs.specs.TwoEnds.{delivered_in_all, IsFairAt, IsFromPeersInOrder, IsSameEnd, KeepsDelivered}
use Rattle.macsec_c_runs.specs.TwoEnds.{KeepsSent, makes, runs_of}
use Rattle.macsec_commands.specs.declared.command.Command.{Command}
use Rattle.macsec_commands.specs.declared.command.Command.TheVariants.{Key, RxOn, RxSa, RxSc, TxOn, TxSa}
use Rattle.macsec_commands.specs.declared.event.End.{End}
use Rattle.macsec_commands.specs.declared.event.End.TheVariants.{A, B}
use Rattle.macsec_counterexamples.proofs.Link.Exchange.{client as frame}
use Rattle.macsec_counterexamples.proofs.Link.TracedSteps.{genuine_at}
use Rattle.macsec_counterexamples.proofs.Link.WorkedEnds.{bytes, gcm_a, gcm_b, new_key, no_salt, sci_a, sci_b}
use Rattle.macsec_counterexamples.proofs.Restarts.Journals.{journal, salt}
use Rattle.macsec_counterexamples.proofs.Restarts.Receivers.{name_of}
use Rattle.macsec_counterexamples.proofs.Restarts.Senders.{kept}
use Rattle.macsec_link.proofs.Members.{member}
use Rattle.macsec_link.specs.Genuine.{use_opened}
use Rattle.macsec_reserve.proofs.Pairs.{one_alone}
use Rattle.macsec_reserve.specs.Journal.{highest, sending_name}
use Rattle.macsec_reserve.specs.Keeping.{Keeping}
use Rattle.macsec_restarts.proofs.Examples.Histories.{one}
use Rattle.macsec_restarts.proofs.Examples.Tags.{octets_1}
use Rattle.macsec_restarts.proofs.Examples.Told.{IsGood, IsKeyOf, Kind, newly_none, on, short, Told, told_end}
use Rattle.macsec_restarts.proofs.Examples.TwoRunsEach.{f1, is_free, none_is, opens_1, reads, reserved_2, t}
use Rattle.macsec_restarts.proofs.Examples.TwoRunsEach.{told_1, use_1}
use Rattle.macsec_restarts.proofs.Examples.Without.{NoPremise, Premise}
use Rattle.macsec_restarts.specs.AheadRuns.{newly_delivered_with}
use Rattle.macsec_restarts.specs.Delivered.{delivered_at, Delivery}
use Rattle.macsec_restarts.specs.Kept.{IsGenuineFrom}
use Rattle.macsec_restarts.specs.Order.{HasStrictOrder, numbered_delivery, numbered_sent}
use Rattle.macsec_restarts.specs.RenewingOrder.{delivered_from_renewing}
use Rattle.macsec_restarts.specs.RenewingRuns.{ahead_renewing_after, ahead_renewing_step, sent_from_renewing}
use Rattle.macsec_restarts.specs.Sent.{newly_sent, sent_under, SentIn}
use Rattle.macsec_restarts.specs.Used.{seal_of}
use Rattle.macsec_secy.specs.State.{State}
use Rattle.macsec_suite.specs.CipherUses.{CipherUse}
use Rattle.macsec_suite.specs.declared.key_row.NewKey.{NewKey}
use Rattle.macsec_tag.specs.declared.identifiers.Sci.{Sci}
use Rattle.std.proofs.Common.{[], ◌++◌, ◌<◌, ◌∙◌, ◌∷◌, ◌≡◌, All, AllPairs, ap, arith, Contains, false, IfSome}
use Rattle.std.proofs.Common.{length, List, map, refl, subst, suc, sym, take, zero, ℕ}
use Rattle.std.proofs.lemmas.List.Elements.{All-contains}
use Rattle.macsec_restarts.proofs.Examples.Receivers as receiver
use Rattle.macsec_restarts.proofs.Examples.Senders as sender

-- ---- calls as inputs, where no command installs a key

abbrev IsPlain : Call → Type 0
IsPlain (command (Key key)) = ⊥
IsPlain call = Unit {0}

abbrev ArePlain : List Call → Type 0
ArePlain [] = Unit {0}
ArePlain (call ∷ calls) = IsPlain call × ArePlain calls

step_same : (e : Ahead) (call : Call) → IsPlain call → (ahead_renewing_step e (input_of call)).1 ≡ after_call e call
step_same e (command (Key key)) plain = absurd plain
step_same e call plain = refl

sends_same : (calls : List Call) (e : Ahead) → ArePlain calls →
    sent_from_renewing e (map input_of calls) ≡ sent_by e calls
sends_same [] e plain = refl
sends_same (call ∷ calls) e plain = ap (λ xs. newly_sent e.k (input_of call) ++ xs)
    (ap (λ a. sent_from_renewing a (map input_of calls)) (step_same e call plain.0)
    ∙ sends_same calls (after_call e call) plain.1)

delivers_same : (calls : List Call) (e : Ahead) → ArePlain calls →
    delivered_from_renewing e (map input_of calls) ≡ delivered_by e calls
delivers_same [] e plain = refl
delivers_same (call ∷ calls) e plain = ap (λ ds. newly_delivered_with e (input_of call) ++ ds)
    (ap (λ a. delivered_from_renewing a (map input_of calls)) (step_same e call plain.0)
    ∙ delivers_same calls (after_call e call) plain.1)

ends_same : (calls : List Call) (e : Ahead) → ArePlain calls →
    ahead_renewing_after e (map input_of calls) ≡ after_calls e calls
ends_same [] e plain = refl
ends_same (call ∷ calls) e plain =
    ap (λ a. ahead_renewing_after a (map input_of calls)) (step_same e call plain.0)
    ∙ ends_same calls (after_call e call) plain.1

states_same : (n : ℕ) (calls : List Call) (e : Ahead) → ArePlain calls →
    ahead_renewing_after e (take n (map input_of calls)) ≡ after_calls e (take n calls)
states_same zero calls e plain = refl
states_same (suc n) [] e plain = refl
states_same (suc n) (call ∷ calls) e plain =
    ap (λ a. ahead_renewing_after a (take n (map input_of calls))) (step_same e call plain.0)
    ∙ states_same n calls (after_call e call) plain.1

-- ---- a run that sends and delivers what its lists have

record Goes (kind : Kind) (sci : Sci) (r : CallRun) (xs : List SentIn) (ds : List Delivery)
    (last : Ahead) : Type 0 where
  of_sci : r.config.sci ≡ sci
  good : (n : ℕ) → IsGood kind (states r n)
  sends : sent r ≡ xs
  delivers : delivered r ≡ ds
  ends : closing r ≡ last

goes : {kind : Kind} {sci : Sci} {left_out : Premise} {uses : List CipherUse} {xs : List SentIn} {ds : List Delivery}
    {last : Ahead} (r : CallRun) → r.config.sci ≡ sci → ArePlain r.calls →
    Told kind left_out uses (opening r) (map input_of r.calls) xs ds last → Goes kind sci r xs ds last
goes {kind} r of_sci plain told = record {
  of_sci = of_sci;
  good = λ n. subst (λ a. IsGood kind a.k.secy) (states_same n r.calls (opening r) plain) (told.always n);
  sends = sym (sends_same r.calls (opening r) plain) ∙ told.sends;
  delivers = sym (delivers_same r.calls (opening r) plain) ∙ told.delivers;
  ends = sym (ends_same r.calls (opening r) plain) ∙ told.ends;
}

is_run : {kind : Kind} {sci : Sci} {xs : List SentIn} {ds : List Delivery} {last : Ahead} (r : CallRun) →
    length kind.salt ≡ 12 → Goes kind sci r xs ds last → IsRun r
is_run r long it = record { sound = λ n. (it.good n).sound long }

agree : {kind other : Kind} {sci sci' : Sci} {xs xs' : List SentIn} {ds ds' : List Delivery} {last last' : Ahead}
    (r r' : CallRun) → kind.suite ≡ other.suite → kind.salt ≡ other.salt → Goes kind sci r xs ds last →
    Goes other sci' r' xs' ds' last' → AgreeOnKeys r r'
agree {kind} {other} r r' suite salt' it it' x y used used' same =
    let is = All-contains (IsKeyOf kind) _ x (it.good used.moment).keys used.there in
    let is' = All-contains (IsKeyOf other) _ y (it'.good used'.moment).keys used'.there in
    record {
      suite = is.suite ∙ (suite ∙ sym is'.suite);
      salt = λ xpn. is.salt ∙ (salt' ∙ sym is'.salt);
    }

-- ---- the runs

abbrev run_a : CallRun
run_a = record {
  journal = journal false [];
  config = gcm_a;
  ahead = false;
  calls = renewal (new_key no_salt 1) ∷ command (TxSa 0 0 1 false) ∷ command (TxOn 0) ∷ durable reserved_2
      ∷ client (frame 1) ∷ client (frame 1) ∷ [];
}

abbrev set_up_b : List Call
set_up_b = renewal (new_key no_salt 2) ∷ command (RxSc sci_a) ∷ command (RxSa sci_a 0 0 1 1) ∷ command (RxOn sci_a 0)
    ∷ []

abbrev run_of : List Call → CallRun
run_of calls = record { journal = journal false []; config = gcm_b; ahead = false; calls = calls }

abbrev run_b : CallRun
run_b = run_of (set_up_b ++ link f1 ∷ [])

plain_a : ArePlain run_a.calls
plain_a = (tt, (tt, (tt, (tt, (tt, (tt, tt))))))

plain_b : ArePlain run_b.calls
plain_b = (tt, (tt, (tt, (tt, (tt, tt)))))

plain_set_up : ArePlain set_up_b
plain_set_up = (tt, (tt, (tt, (tt, tt))))

abbrev last_a : Ahead
last_a = on (kept (salt false) (reads []) (reserved_2 ∷ []) (sender.at_end false))

a_told : Told (short 1) NoPremise [] (opening run_a) (map input_of run_a.calls) (sender.sent false) [] last_a
a_told = sender.told (salt false) (reads []) false
    (is_free [] (sending_name (salt false) bytes) 1 none_is (omega arith))

a_goes : Goes (short 1) sci_a run_a (sender.sent false) [] last_a
a_goes = goes run_a refl plain_a a_told

free_b : highest (reads []) (name_of (salt false)) < 1
free_b = is_free [] (name_of (salt false)) 1 none_is (omega arith)

abbrev k_b : State → Keeping
k_b s = receiver.at (salt false) (reads []) s

-- before the frame, and after it
ready_told : Told (short 2) NoPremise [] (opening (run_of set_up_b)) (map input_of set_up_b) [] []
    (on (k_b (receiver.ready false)))
ready_told = receiver.told (salt false) (reads []) false free_b
    (told_end (on (k_b (receiver.ready false))) (receiver.ready_good false))

ready_goes : Goes (short 2) sci_b (run_of set_up_b) [] [] (on (k_b (receiver.ready false)))
ready_goes = goes (run_of set_up_b) refl plain_set_up ready_told

b_told : Told (short 2) NoPremise (use_1 ∷ []) (opening run_b) (map input_of run_b.calls) [] (receiver.delivery 1 ∷ [])
    (on (k_b (receiver.heard_1 t)))
b_told = receiver.told (salt false) (reads []) false free_b
    (told_1 (reads []) (λ d. (0, omega arith, refl))
    (told_end (on (k_b (receiver.heard_1 t))) (receiver.heard_1_good t opens_1)))

b_goes : Goes (short 2) sci_b run_b [] (receiver.delivery 1 ∷ []) (on (k_b (receiver.heard_1 t)))
b_goes = goes run_b refl plain_b b_told

-- ---- what happens

abbrev set_up : List CallHappening
set_up = begins A false gcm_a (journal false []) ∷ (map (makes A) run_a.calls
    ++ begins B false gcm_b (journal false []) ∷ map (makes B) set_up_b)

abbrev events : List CallHappening
events = set_up ++ makes B (link f1) ∷ []

are_peers : ArePeers (run_a ∷ []) (run_of set_up_b ∷ [])
are_peers = record {
  agree_a = one_alone AgreeOnKeys run_a;
  agree_b = one_alone AgreeOnKeys (run_of set_up_b);
  agree = one (λ r. All (AgreeOnKeys r) (run_of set_up_b ∷ [])) run_a
      (one (AgreeOnKeys run_a) (run_of set_up_b) (agree run_a (run_of set_up_b) refl refl a_goes ready_goes));
  one_a = one_alone IsSameEnd run_a;
  one_b = one_alone IsSameEnd (run_of set_up_b);
}

-- the frame that B delivers
is_fair : IsFromPeersInOrder (run_a ∷ []) (run_of set_up_b ∷ []) (run_of set_up_b) (link f1)
is_fair = record {
  order = subst (λ a. HasStrictOrder a.k.secy) (sym ready_goes.ends)
      (record { mode = refl; replay = refl; window = refl });
  from = record {
    octets = octets_1;
    genuine = subst (λ a. IsGenuineFrom (sent_in_all (run_a ∷ []) ++ sent_in_all (run_of set_up_b ∷ [])) a
        (input_of (link f1))) (sym ready_goes.ends) own;
    peers = are_peers;
  };
}
  where
    sealed : Contains (map seal_of (sent_in_all (run_a ∷ []) ++ sent_in_all (run_of set_up_b ∷ []))) use_1
    sealed = subst (λ xs. Contains (map seal_of ((xs ++ []) ++ sent_in_all (run_of set_up_b ∷ []))) use_1)
        (sym a_goes.sends) (0, omega arith, refl)

    own : IfSome (use_opened (receiver.ready false) f1)
        (Contains (map seal_of (sent_in_all (run_a ∷ []) ++ sent_in_all (run_of set_up_b ∷ []))))
    own = genuine_at (receiver.ready false) f1 receiver.accepts_1
        (map seal_of (sent_in_all (run_a ∷ []) ++ sent_in_all (run_of set_up_b ∷ [])))
        (receiver.judged_1 t opens_1) sealed

-- the other calls of B deliver nothing
no_command : (r : CallRun) (c : Command) (d : Delivery) →
    Contains (delivered_at bytes sci_a 0 (newly_delivered_with (closing r) (input_of (command c)))) d → ⊥
no_command r c d there = member [] d
    (subst (λ ds. Contains (delivered_at bytes sci_a 0 ds) d) (newly_none (closing r) c) there)

no_renewal : (r : CallRun) (key : NewKey) (d : Delivery) →
    Contains (delivered_at bytes sci_a 0 (newly_delivered_with (closing r) (input_of (renewal key)))) d → ⊥
no_renewal r key d there = member [] d
    (subst (λ ds. Contains (delivered_at bytes sci_a 0 ds) d) (newly_none (closing r) (Key key)) there)

all_fair : AtEachCall B (IsFairAt bytes sci_a 0) [] events
all_fair = (
  (λ same. cc),
  (
    (λ same. cc),
    (
      (λ same. cc),
      (
        (λ same. cc),
        (
          (λ same. cc),
          (
            (λ same. cc),
            (
              (λ same d there. absurd (no_renewal (run_of []) (new_key no_salt 2) d there)),
              (
                (λ same d there. absurd (no_command (run_of (take 1 set_up_b)) (RxSc sci_a) d there)),
                (
                  (λ same d there. absurd
                      (no_command (run_of (take 2 set_up_b)) (RxSa sci_a 0 0 1 1) d there)),
                  (
                    (λ same d there. absurd (no_command (run_of (take 3 set_up_b)) (RxOn sci_a 0) d there)),
                    ((λ same d there. is_fair), tt),
                  ),
                ),
              ),
            ),
          ),
        ),
      ),
    ),
  ),
)

-- ---- all premises of order over calls are met; and what A sent and B delivered, each client frame after its number

record MeetsAll : Type 0 where
  are_runs : (f : End) → All IsRun (runs_of f events)
  fair : AtEachCall B (IsFairAt bytes sci_a 0) [] events
  kept_sent : AllPairs (KeepsSent bytes) (runs_of A events)
  kept_delivered : AllPairs (KeepsDelivered bytes sci_a 0) (runs_of B events)
  sends : map numbered_sent (sent_under bytes (sent_in_all (runs_of A events))) ≡
      (1 ∷ frame 1) ∷ (2 ∷ frame 1) ∷ []
  delivers : map numbered_delivery (delivered_at bytes sci_a 0 (delivered_in_all (runs_of B events))) ≡
      (1 ∷ frame 1) ∷ []

meets_all : MeetsAll
meets_all = record {
  are_runs = by_end;
  fair = all_fair;
  kept_sent = one_alone (KeepsSent bytes) run_a;
  kept_delivered = one_alone (KeepsDelivered bytes sci_a 0) run_b;
  sends = ap (λ xs. map numbered_sent (sent_under bytes (xs ++ []))) a_goes.sends;
  delivers = ap (λ ds. map numbered_delivery (delivered_at bytes sci_a 0 (ds ++ []))) b_goes.delivers;
}
  where
    by_end : (f : End) → All IsRun (runs_of f events)
    by_end A = one IsRun run_a (is_run run_a refl a_goes)
    by_end B = one IsRun run_b (is_run run_b refl b_goes)
