-- A list of runs of either end, where each run ends before the next one begins: what happens, and that the premises of
-- order on inputs hold of it at each moment. B is the receiver.
use Rattle.macsec_ahead.specs.Ahead.{opening_with}
use Rattle.macsec_restarts.proofs.Examples.Told.{AreFair, IsAmong, IsFair}
use Rattle.macsec_restarts.proofs.Examples.Without.{AgreeAtBothBut, AgreeBut, AgreeInRunsBut, ArePeersBut, IsFairAtBut}
use Rattle.macsec_restarts.proofs.Examples.Without.{IsSameEndBut, KeepsSalt, KeepsSuite, Premise}
use Rattle.macsec_restarts.proofs.Names.{[], ◌++◌, ◌∙◌, ◌∷◌, ◌≡◌, ◌≢◌, A, Ahead, All, All-weaker, ap, append-nil}
use Rattle.macsec_restarts.proofs.Names.{append_assoc, AtEach, B, begins, Bool, CipherUse, comes_in, contained}
use Rattle.macsec_restarts.proofs.Names.{Contains, delivered_at, Delivery, End, endpoint_input, Events, false}
use Rattle.macsec_restarts.proofs.Names.{Happening, IfSome, if◌then◌else◌, Inputs, inputs_until, KeepingInput, length}
use Rattle.macsec_restarts.proofs.Names.{link_frame, List, map, map-append, member, newly_delivered_with, None, Option}
use Rattle.macsec_restarts.proofs.Names.{refl, Run, runs_at, runs_of, RunWith, same_end, Sci, seal_of, SentIn, Some}
use Rattle.macsec_restarts.proofs.Names.{subst, sym, true, use_opened, Uses, ℕ}
use Rattle.macsec_restarts.proofs.Pushed.{in_front}
use Rattle.macsec_restarts.proofs.RenewingOrder.{after-push, used_less}
use Rattle.macsec_restarts.proofs.RunsWith.{IsHereditary, pairs_first, push, runs_first, runs_with-more}
use Rattle.macsec_restarts.specs.Kept.{IsGenuineFrom, last_of, runs_with}
use Rattle.macsec_restarts.specs.RenewingOrder.{AskedOfLast, closing_renewing}
use Rattle.macsec_restarts.specs.RenewingRuns.{ahead_renewing_after, sent_by_all, sent_by_run}

abbrev pub EndRun : Type 0
EndRun = End × Run

abbrev pub blocks : List EndRun → Events
blocks [] = []
blocks (it ∷ more) = begins it.0 it.1.config it.1.journal ∷ (map (comes_in it.0) it.1.inputs ++ blocks more)

-- ---- the runs of an end

abbrev pub of_end : End → List EndRun → List Run
of_end e [] = []
of_end e (it ∷ more) = if same_end e it.0 then it.1 ∷ of_end e more else of_end e more

abbrev pub runs_in : (End → ℕ → Bool) → End → List EndRun → List RunWith
runs_in ahead e its = runs_with (ahead e) (of_end e its)

inputs_passed : (e f : End) (inputs : Inputs) (more : Events) → inputs_until e (map (comes_in f) inputs ++ more) ≡
    (if same_end e f then inputs ++ inputs_until e more else inputs_until e more)
inputs_passed e f [] more = by_end (same_end e f)
  where
    by_end : (b : Bool) → inputs_until e more ≡ (if b then inputs_until e more else inputs_until e more)
    by_end true = refl
    by_end false = refl
inputs_passed e f (input ∷ inputs) more = by_end (same_end e f) (inputs_passed e f inputs more)
  where
    by_end : (b : Bool) → inputs_until e (map (comes_in f) inputs ++ more) ≡
        (if b then inputs ++ inputs_until e more else inputs_until e more) →
        (if b then input ∷ inputs_until e (map (comes_in f) inputs ++ more)
        else inputs_until e (map (comes_in f) inputs ++ more)) ≡
        (if b then input ∷ inputs ++ inputs_until e more else inputs_until e more)
    by_end true rest = ap (λ is. input ∷ is) rest
    by_end false rest = rest

none_before : (e : End) (its : List EndRun) → inputs_until e (blocks its) ≡ []
none_before e [] = refl
none_before e (it ∷ more) = by_end (same_end e it.0) refl (none_before e more)
  where
    by_end : (b : Bool) → same_end e it.0 ≡ b → inputs_until e (blocks more) ≡ [] →
        (if b then [] else inputs_until e (map (comes_in it.0) it.1.inputs ++ blocks more)) ≡ []
    by_end true _ _ = refl
    by_end false other none = rw (inputs_passed e it.0 _ _, other, none)

runs_passed : (e f : End) (inputs : Inputs) (more : Events) →
    runs_of e (map (comes_in f) inputs ++ more) ≡ runs_of e more
runs_passed e f [] _ = refl
runs_passed e f (_ ∷ inputs) more = runs_passed e f inputs more

runs_of-blocks : (e : End) (its : List EndRun) → runs_of e (blocks its) ≡ of_end e its
runs_of-blocks e [] = refl
runs_of-blocks e (it ∷ more) = by_end (same_end e it.0) refl
    (runs_passed e it.0 it.1.inputs (blocks more) ∙ runs_of-blocks e more)
  where
    inputs : Inputs
    inputs = inputs_until e (map (comes_in it.0) it.1.inputs ++ blocks more)

    Rest : Type 0
    Rest = runs_of e (map (comes_in it.0) it.1.inputs ++ blocks more) ≡ of_end e more

    by_end : (b : Bool) → same_end e it.0 ≡ b → Rest →
        (if b then record { journal = it.1.journal; config = it.1.config; inputs = inputs }
        ∷ runs_of e (map (comes_in it.0) it.1.inputs ++ blocks more)
        else runs_of e (map (comes_in it.0) it.1.inputs ++ blocks more)) ≡
        (if b then it.1 ∷ of_end e more else of_end e more)
    by_end false _ rest = rest
    by_end true same rest =
        let all : inputs ≡ it.1.inputs =
        rw (inputs_passed e it.0 _ _, same, none_before e more, append-nil it.1.inputs) in
        rw (all, rest)

pub runs_at-blocks : (ahead : End → ℕ → Bool) (e : End) (its : List EndRun) →
    runs_at ahead e (blocks its) ≡ runs_in ahead e its
runs_at-blocks ahead e its = ap (runs_with (ahead e)) (runs_of-blocks e its)

-- ---- one more run

blocks-push : (its : List EndRun) (it : EndRun) →
    blocks (its ++ it ∷ []) ≡ (blocks its ++ begins it.0 it.1.config it.1.journal ∷ [])
    ++ map (comes_in it.0) it.1.inputs
blocks-push [] it = rw (append-nil (map (comes_in it.0) it.1.inputs))
blocks-push (x ∷ its) it = rw (
  blocks-push its it,
  (sym (append_assoc (map (comes_in x.0) x.1.inputs) (blocks its ++ begins it.0 it.1.config it.1.journal ∷ [])
      (map (comes_in it.0) it.1.inputs)) ∙ ap (λ hs. hs ++ map (comes_in it.0) it.1.inputs)
      (sym (append_assoc (map (comes_in x.0) x.1.inputs) (blocks its) (begins it.0 it.1.config it.1.journal ∷ [])))),
)

of_end-push : (e : End) (its : List EndRun) (it : EndRun) →
    of_end e (its ++ it ∷ []) ≡ of_end e its ++ of_end e (it ∷ [])
of_end-push e [] it = refl
of_end-push e (x ∷ its) it = by_end (same_end e x.0) (of_end-push e its it)
  where
    by_end : (b : Bool) → of_end e (its ++ it ∷ []) ≡ of_end e its ++ of_end e (it ∷ []) →
        (if b then x.1 ∷ of_end e (its ++ it ∷ []) else of_end e (its ++ it ∷ [])) ≡
        (if b then x.1 ∷ of_end e its else of_end e its) ++ of_end e (it ∷ [])
    by_end true rest = ap (λ rs. x.1 ∷ rs) rest
    by_end false rest = rest

-- ---- a run of B up to some input

abbrev part : Run → Inputs → Run
part run inputs = record run { inputs = inputs }

abbrev with_part : List EndRun → Run → Inputs → List EndRun
with_part done run inputs = done ++ (B, part run inputs) ∷ []

module _ (ahead : End → ℕ → Bool) (done : List EndRun) (run : Run) where
  abbrev of_run : Inputs → RunWith
  of_run inputs = record { ahead = ahead B (length (of_end B done)); run = part run inputs }

  abbrev opened_so : Ahead
  opened_so = opening_with (ahead B (length (of_end B done))) run

  with_input : (p : Inputs) (input : KeepingInput) →
      blocks (with_part done run p) ++ comes_in B input ∷ [] ≡ blocks (with_part done run (p ++ input ∷ []))
  with_input p input =
      let first = blocks done ++ begins B run.config run.journal ∷ [] in
      ap (λ hs. hs ++ comes_in B input ∷ []) (blocks-push done (B, part run p))
      ∙ append_assoc first (map (comes_in B) p) (comes_in B input ∷ [])
      ∙ ap (λ hs. first ++ hs) (sym (map-append (comes_in B) p (input ∷ [])))
      ∙ sym (blocks-push done (B, part run (p ++ input ∷ [])))

  of_a : (p : Inputs) → runs_at ahead A (blocks (with_part done run p)) ≡ runs_in ahead A done
  of_a p = runs_at-blocks ahead A (with_part done run p)
      ∙ ap (runs_with (ahead A)) (of_end-push A done (B, part run p) ∙ append-nil (of_end A done))

  of_b : (p : Inputs) → runs_at ahead B (blocks (with_part done run p)) ≡ runs_in ahead B done ++ of_run p ∷ []
  of_b p = runs_at-blocks ahead B (with_part done run p)
      ∙ ap (runs_with (ahead B)) (of_end-push B done (B, part run p))
      ∙ runs_with-more (ahead B) (of_end B done) (part run p)

last_of-push : (rs : List RunWith) (r : RunWith) → last_of (rs ++ r ∷ []) ≡ Some r
last_of-push [] r = refl
last_of-push (p ∷ []) r = refl
last_of-push (p ∷ q ∷ more) r = last_of-push (q ∷ more) r

-- what was sealed in some runs is sealed in more
seals_more : (ra rb : List RunWith) (r : RunWith) (u : CipherUse) →
    Contains (map seal_of (sent_by_all ra ++ sent_by_all rb)) u →
    Contains (map seal_of (sent_by_all ra ++ sent_by_all (rb ++ r ∷ []))) u
seals_more ra rb r u there = subst (λ xs. Contains (map seal_of xs) u) (sym all)
    (subst (λ us. Contains us u) (sym (map-append seal_of (sent_by_all ra ++ sent_by_all rb) (sent_by_run r)))
    (contained (map seal_of (sent_by_all ra ++ sent_by_all rb) ++ map seal_of (sent_by_run r)) u
    (in_front (map seal_of (sent_by_all ra ++ sent_by_all rb)) (map seal_of (sent_by_run r)) u
    (member (map seal_of (sent_by_all ra ++ sent_by_all rb)) u there))))
  where
    with_one : (rs : List RunWith) → sent_by_all (rs ++ r ∷ []) ≡ sent_by_all rs ++ sent_by_run r
    with_one [] = append-nil (sent_by_run r)
    with_one (p ∷ rs) = ap (λ xs. sent_by_run p ++ xs) (with_one rs)
        ∙ sym (append_assoc (sent_by_run p) (sent_by_all rs) (sent_by_run r))

    all : sent_by_all ra ++ sent_by_all (rb ++ r ∷ []) ≡ (sent_by_all ra ++ sent_by_all rb) ++ sent_by_run r
    all = ap (λ xs. sent_by_all ra ++ xs) (with_one rb)
        ∙ sym (append_assoc (sent_by_all ra) (sent_by_all rb) (sent_by_run r))

-- ---- the premises at each moment

-- what was sealed at both ends
abbrev pub sealed_in : (End → ℕ → Bool) → List EndRun → Uses
sealed_in ahead its = map seal_of (sent_by_all (runs_in ahead A its) ++ sent_by_all (runs_in ahead B its))

module _ (left_out : Premise) (ahead : End → ℕ → Bool) where
  -- of each run, where `done` were before
  abbrev pub IsMetBy : List EndRun → End → Run → Type 0
  IsMetBy done A run = Unit {0}
  IsMetBy done B run =
      AreFair left_out (sealed_in ahead done) (opening_with (ahead B (length (of_end B done))) run) run.inputs

  abbrev pub AreMet : List EndRun → List EndRun → Type 0
  AreMet done [] = Unit {0}
  AreMet done (it ∷ more) = IsMetBy done it.0 it.1 × AreMet (done ++ it ∷ []) more

  module _ (bytes : List ℕ) (sci : Sci) (an : ℕ) where
    abbrev IsFairIn : List RunWith → List RunWith → RunWith → KeepingInput → Type 0
    IsFairIn ra rb r input =
        (d : Delivery) → Contains (delivered_at bytes sci an (newly_delivered_with (closing_renewing r) input)) d →
        IsFair left_out (map seal_of (sent_by_all ra ++ sent_by_all rb)) (closing_renewing r) input

    -- the premises without those on the ends
    abbrev IsMet : Events → Happening → Type 0
    IsMet = AskedOfLast ahead B (λ before. IsFairIn (runs_at ahead A before) (runs_at ahead B before))

    still_fair : (us vs : Uses) → ((u : CipherUse) → Contains us u → Contains vs u) → (a : Ahead)
        (input : KeepingInput) → IsFair left_out us a input → IsFair left_out vs a input
    still_fair us vs within a input it = record {
      order = it.order;
      octets = it.octets;
      genuine = λ d. still_among a input (it.genuine d);
    }
      where
        of_option : (o : Option CipherUse) → IfSome o (Contains us) → IfSome o (Contains vs)
        of_option None _ = tt
        of_option (Some u) there = within u there

        still_among : (a' : Ahead) (input' : KeepingInput) → IsAmong us a' input' → IsAmong vs a' input'
        still_among a' (endpoint_input (link_frame frame)) there = of_option (use_opened a'.k.secy frame) there
        still_among _ _ _ = tt

    b_input : (done : List EndRun) (run : Run) (p : Inputs) (input : KeepingInput) →
        (newly_delivered_with (ahead_renewing_after (opened_so ahead done run) p) input ≢ [] →
        IsFair left_out (sealed_in ahead done) (ahead_renewing_after (opened_so ahead done run) p) input) →
        IsMet (blocks (with_part done run p)) (comes_in B input)
    b_input done run p input fair = λ same.
        subst (λ ra. IfSome (last_of rb) (λ r. IsFairIn ra rb r input)) (sym (of_a ahead done run p))
        (subst (λ rs. IfSome (last_of rs) (λ r. IsFairIn ra' rs r input)) (sym (of_b ahead done run p))
        (subst (λ o. IfSome o (λ r. IsFairIn ra' rb' r input)) (sym (last_of-push (runs_in ahead B done) now)) asked))
      where
        now : RunWith
        now = of_run ahead done run p

        ra' : List RunWith
        ra' = runs_in ahead A done

        rb : List RunWith
        rb = runs_at ahead B (blocks (with_part done run p))

        rb' : List RunWith
        rb' = runs_in ahead B done ++ now ∷ []

        asked : IsFairIn ra' rb' now input
        asked d there = still_fair (sealed_in ahead done) (map seal_of (sent_by_all ra' ++ sent_by_all rb'))
            (seals_more ra' (runs_in ahead B done) now) (closing_renewing now) input (fair (λ none.
            member [] d (subst (λ ds. Contains (delivered_at bytes sci an ds) d) none there)))

    b_inputs : (done : List EndRun) (run : Run) (p q : Inputs) (more : Events) →
        AreFair left_out (sealed_in ahead done) (ahead_renewing_after (opened_so ahead done run) p) q →
        AtEach IsMet (blocks (with_part done run (p ++ q))) more →
        AtEach IsMet (blocks (with_part done run p)) (map (comes_in B) q ++ more)
    b_inputs done run p [] more fair rest =
        subst (λ is. AtEach IsMet (blocks (with_part done run is)) more) (append-nil p) rest
    b_inputs done run p (input ∷ q) more fair rest = (
      b_input done run p input fair.0,
      subst (λ hs. AtEach IsMet hs (map (comes_in B) q ++ more)) (sym (with_input ahead done run p input))
          (b_inputs done run (p ++ input ∷ []) q more
          (subst (λ a. AreFair left_out (sealed_in ahead done) a q)
          (sym (after-push p (opened_so ahead done run) input)) fair.1)
          (subst (λ is. AtEach IsMet (blocks (with_part done run is)) more)
          (sym (append_assoc p (input ∷ []) q)) rest)),
    )

    a_inputs : (inputs : Inputs) (before more : Events) → AtEach IsMet (before ++ map (comes_in A) inputs) more →
        AtEach IsMet before (map (comes_in A) inputs ++ more)
    a_inputs [] before more rest = subst (λ hs. AtEach IsMet hs more) (append-nil before) rest
    a_inputs (input ∷ inputs) before more rest = (
      (λ same. cc),
      a_inputs inputs (before ++ comes_in A input ∷ []) more
          (subst (λ hs. AtEach IsMet hs more)
          (sym (append_assoc before (comes_in A input ∷ []) (map (comes_in A) inputs))) rest),
    )

    one_met : (done : List EndRun) (e : End) (run : Run) (more : Events) → IsMetBy done e run →
        AtEach IsMet (blocks (done ++ (e, run) ∷ [])) more →
        AtEach IsMet (blocks done) (begins e run.config run.journal ∷ (map (comes_in e) run.inputs ++ more))
    one_met done A run more _ rest = (
      tt,
      a_inputs run.inputs (blocks done ++ begins A run.config run.journal ∷ []) more
          (subst (λ hs. AtEach IsMet hs more) (blocks-push done (A, run)) rest),
    )
    one_met done B run more fair rest = (
      tt,
      subst (λ hs. AtEach IsMet hs (map (comes_in B) run.inputs ++ more)) (blocks-push done (B, part run [])
          ∙ append-nil (blocks done ++ begins B run.config run.journal ∷ []))
          (b_inputs done run [] run.inputs more fair rest),
    )

    met : (done more : List EndRun) → AreMet done more → AtEach IsMet (blocks done) (blocks more)
    met _ [] _ = tt
    met done (it ∷ more) are = one_met done it.0 it.1 (blocks more) are.0 (met (done ++ it ∷ []) more are.1)

-- ---- peers at the end are peers at each moment

agree_before : (of_suite of_salt left_out : Premise) → IsHereditary (AgreeBut of_suite of_salt left_out)
agree_before of_suite of_salt left_out = record {
  less = λ input r later agree x y here there. agree x y here (used_less input later y there);
}

same_before : (left_out : Premise) → IsHereditary (IsSameEndBut left_out)
same_before left_out = record {
  less = λ input r later it. record {
    sci = it.sci;
    ssci = λ d x y here there. it.ssci d x y here (used_less input later y there);
  };
}

module _ (left_out : Premise) (ahead : End → ℕ → Bool) where
  abbrev ArePeersAt : Events → Type 0
  ArePeersAt events = ArePeersBut left_out (runs_at ahead A events) (runs_at ahead B events)

  peers_before : (before more : Events) → ArePeersAt (before ++ more) → ArePeersAt before
  peers_before before more whole = record {
    agree_a = pairs_first (AgreeInRunsBut left_out) (agree_before KeepsSuite KeepsSalt left_out) ahead A more before
        whole.agree_a;
    agree_b = pairs_first (AgreeInRunsBut left_out) (agree_before KeepsSuite KeepsSalt left_out) ahead B more before
        whole.agree_b;
    agree = runs_first (λ r. All (AgreeAtBothBut left_out r) (runs_at ahead B before))
        (λ input r all. All-weaker (AgreeAtBothBut left_out (push input r)) (AgreeAtBothBut left_out r)
        (λ q agree x y here there. agree x y (used_less input r x here) there) (runs_at ahead B before) all) ahead A
        more before (All-weaker (λ r. All (AgreeAtBothBut left_out r) (runs_at ahead B (before ++ more)))
        (λ r. All (AgreeAtBothBut left_out r) (runs_at ahead B before))
        (λ r all. runs_first (AgreeAtBothBut left_out r) (λ input q agree x y here there.
        agree x y here (used_less input q y there)) ahead B more before all)
        (runs_at ahead A (before ++ more)) whole.agree);
    one_a = pairs_first (IsSameEndBut left_out) (same_before left_out) ahead A more before whole.one_a;
    one_b = pairs_first (IsSameEndBut left_out) (same_before left_out) ahead B more before whole.one_b;
  }

  module _ (bytes : List ℕ) (sci : Sci) (an : ℕ) where
    abbrev IsFairThen : Events → Happening → Type 0
    IsFairThen = AskedOfLast ahead B (IsFairAtBut left_out ahead B bytes sci an)

    is_genuine : (sends : List SentIn) (a : Ahead) (input : KeepingInput) → IsAmong (map seal_of sends) a input →
        IsGenuineFrom sends a input
    is_genuine sends a (endpoint_input (link_frame frame)) among = among
    is_genuine _ _ _ _ = tt

    join : (before : Events) (h : Happening) → IsMet left_out ahead bytes sci an before h → ArePeersAt before →
        IsFairThen before h
    join before (begins f config journal) _ _ = tt
    join before (comes_in f input) met' peers = λ same. at_last (last_of (runs_at ahead B before)) (met' same)
      where
        at_last : (o : Option RunWith) → IfSome o (λ r. IsFairIn left_out ahead bytes sci an (runs_at ahead A before)
            (runs_at ahead B before) r input) → IfSome o (λ r. IsFairAtBut left_out ahead B bytes sci an before r input)
        at_last None _ = tt
        at_last (Some r) fair = λ d there.
            let it = fair d there in
            record {
              order = it.order;
              octets = it.octets;
              genuine = λ n. is_genuine (sent_by_all (runs_at ahead A before) ++ sent_by_all (runs_at ahead B before))
                  (closing_renewing r) input (it.genuine n);
              peers = peers;
            }

    with_peers : (before more : Events) → AtEach (IsMet left_out ahead bytes sci an) before more →
        ArePeersAt (before ++ more) → AtEach IsFairThen before more
    with_peers before [] _ _ = tt
    with_peers before (h ∷ more) each peers = (
      join before h each.0 (peers_before before (h ∷ more) peers),
      with_peers (before ++ h ∷ []) more each.1
          (subst ArePeersAt (sym (append_assoc before (h ∷ []) more)) peers),
    )

    pub each_fair : (its : List EndRun) → AreMet left_out ahead [] its →
        ArePeersBut left_out (runs_in ahead A its) (runs_in ahead B its) → AtEach IsFairThen [] (blocks its)
    each_fair its are peers = with_peers [] (blocks its) (met left_out ahead bytes sci an [] its are)
        (subst (λ rs. ArePeersBut left_out rs (runs_at ahead B (blocks its))) (sym (runs_at-blocks ahead A its))
        (subst (ArePeersBut left_out (runs_in ahead A its)) (sym (runs_at-blocks ahead B its)) peers))
