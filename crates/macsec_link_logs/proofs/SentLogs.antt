-- The logs of what is sent, with their capacity, and an end after it sent.
use Rattle.std.proofs.{
  Common.{◌≡◌, ◌∙◌, ℕ, zero, suc, ◌<◌, true, false, List, [], ◌∷◌, ◌++◌, ap, arith, get_or, length, map, refl, set},
  Common.{subst, sym, ◌==◌, Option, Some, None, Result, Ok, Err, OnErr, OnOk, eqb-true, ne_eqb},
  Math.Seq.map-set_same,
  lemmas.Bool.eqb-false,
}
use Rattle.macsec_secy.specs.{
  Answers.drop_output,
  State.State,
  Step.{Output, client_frame, dropped_no_sa, dropped_too_long, leaves, step},
  declared.answers.DropReason.{DropReason, TheVariants.{NoSa, TooLong}},
}
use Rattle.macsec_link_logs.specs.{
  Answers.EndHappens,
  Ends.EndState,
  Kept.{AreOfKeys, HasNone, IsFound, IsPlace, KeptSentLog, sent_log_of},
  Logs.{SentLogs, log_sending, logs_sending, sent_after, sent_under},
}

-- ---- the log of a key

-- the search, over equal logs
pub found : (key : ℕ) (logs seen : List KeptSentLog) → seen ≡ logs → (answer o : Option ℕ) → IsFound key seen answer → answer ≡ o → IsFound key logs o
found key logs seen same answer o it is = subst (λ l. IsFound key l o) same (subst (IsFound key seen) is it)

-- another log has another key
other_key : (key : ℕ) (logs : List KeptSentLog) (place : ℕ) (d : KeptSentLog) → HasNone key logs → place < length logs → ((get_or logs place d).log.key == key) ≡ false
other_key key [] place d none within = absurd (omega (arith, within))
other_key key (k ∷ logs) zero d none within = none.0
other_key key (k ∷ logs) (suc place) d none within = other_key key logs place d none.1 (omega (arith, within))

-- a log of the key is the first one
pub place_is : (key : ℕ) (logs : List KeptSentLog) (place : ℕ) (d : KeptSentLog) → AreOfKeys logs → place < length logs → ((get_or logs place d).log.key == key) ≡ true →
    IsPlace key logs place
place_is key [] place d are within it = absurd (omega (arith, within))
place_is key (k ∷ logs) zero d are within it = it
place_is key (k ∷ logs) (suc place) d are within it =
    let small : place < length logs = omega (arith, within) in
    let differs = other_key k.log.key logs place d are.0 small in
    let same : (get_or logs place d).log.key ≡ key = eqb-true (get_or logs place d).log.key key it in
    let apart : (k.log.key == key) ≡ false = ne_eqb k.log.key key (λ e. eqb-false (get_or logs place d).log.key k.log.key differs (same ∙ sym e)) in
    (apart, place_is key logs place d are.1 small it)

HasNone-push : (key : ℕ) (logs : List KeptSentLog) (new : KeptSentLog) → HasNone key logs → (new.log.key == key) ≡ false → HasNone key (logs ++ new ∷ [])
HasNone-push key [] new none other = (other, tt)
HasNone-push key (k ∷ logs) new none other = (none.0, HasNone-push key logs new none.1 other)

-- a log of a key that had none is appended
pub AreOfKeys-push : (logs : List KeptSentLog) (new : KeptSentLog) → AreOfKeys logs → HasNone new.log.key logs → AreOfKeys (logs ++ new ∷ [])
AreOfKeys-push [] new are none = (tt, tt)
AreOfKeys-push (k ∷ logs) new are none =
    let other : (new.log.key == k.log.key) ≡ false = ne_eqb new.log.key k.log.key (λ e. eqb-false k.log.key new.log.key none.0 (sym e)) in
    (HasNone-push k.log.key logs new are.0 other, AreOfKeys-push logs new are.1 none.1)

HasNone-set : (key : ℕ) (logs : List KeptSentLog) (place : ℕ) (old new : KeptSentLog) → old ≡ get_or logs place old → new.log.key ≡ old.log.key → HasNone key logs →
    HasNone key (set logs place new)
HasNone-set key [] place old new is same none = none
HasNone-set key (k ∷ logs) zero old new is same none = (ap (λ n. n == key) (same ∙ ap (λ (x : KeptSentLog). x.log.key) is) ∙ none.0, none.1)
HasNone-set key (k ∷ logs) (suc place) old new is same none = (none.0, HasNone-set key logs place old new is same none.1)

-- a log is replaced by one of the same key
pub AreOfKeys-set : (logs : List KeptSentLog) (place : ℕ) (old new : KeptSentLog) → old ≡ get_or logs place old → new.log.key ≡ old.log.key → AreOfKeys logs →
    AreOfKeys (set logs place new)
AreOfKeys-set [] place old new is same are = are
AreOfKeys-set (k ∷ logs) zero old new is same are =
    (subst (λ key. HasNone key logs) (sym (same ∙ ap (λ (x : KeptSentLog). x.log.key) is)) are.0, are.1)
AreOfKeys-set (k ∷ logs) (suc place) old new is same are = (HasNone-set k.log.key logs place old new is same are.0, AreOfKeys-set logs place old new is same are.1)

pub sent_at : (key : ℕ) (logs : List KeptSentLog) (place : ℕ) (d : KeptSentLog) → IsPlace key logs place → (get_or logs place d).log.frames ≡ sent_under (map sent_log_of logs) key
sent_at key [] place d it = absurd it
sent_at key (k ∷ logs) zero d it = rw it refl
sent_at key (k ∷ logs) (suc place) d it = rw it.0 (sent_at key logs place d it.1)

pub sent_nowhere : (key : ℕ) (logs : List KeptSentLog) → HasNone key logs → sent_under (map sent_log_of logs) key ≡ []
sent_nowhere key [] none = refl
sent_nowhere key (k ∷ logs) none = rw none.0 (sent_nowhere key logs none.1)

-- a log is replaced by one that differs only in its capacity
pub same_logs : (logs : List KeptSentLog) (place : ℕ) (old new : KeptSentLog) → old ≡ get_or logs place old → new.log ≡ old.log →
    map sent_log_of (set logs place new) ≡ map sent_log_of logs
same_logs logs place old new is same = map-set_same sent_log_of logs place new old (same ∙ ap sent_log_of is)

-- ---- one more frame

pub pushed_at : (key : ℕ) (frame : List ℕ) (logs : List KeptSentLog) (place : ℕ) (old new : KeptSentLog) → IsPlace key logs place →
    old ≡ get_or logs place old → new.log ≡ log_sending frame old.log →
    map sent_log_of (set logs place new) ≡ logs_sending key frame (map sent_log_of logs)
pushed_at key frame [] place old new it is pushed = absurd it
pushed_at key frame (k ∷ logs) zero old new it is pushed = rw it (ap (λ log. log ∷ map sent_log_of logs) (pushed ∙ ap (λ (x : KeptSentLog). log_sending frame x.log) is))
pushed_at key frame (k ∷ logs) (suc place) old new it is pushed = rw it.0 (ap (λ rest. k.log ∷ rest) (pushed_at key frame logs place old new it.1 is pushed))

pub pushed_nowhere : (key : ℕ) (frame : List ℕ) (logs : List KeptSentLog) (new : KeptSentLog) → HasNone key logs → new.log ≡ record { key = key; frames = frame ∷ [] } →
    map sent_log_of (logs ++ new ∷ []) ≡ logs_sending key frame (map sent_log_of logs)
pushed_nowhere key frame [] new none is = ap (λ log. log ∷ []) is
pushed_nowhere key frame (k ∷ logs) new none is = rw none.0 (ap (λ rest. k.log ∷ rest) (pushed_nowhere key frame logs new none.1 is))

-- ---- an end after it sent

module _ (old : EndState) (frame : List ℕ) (after : State) (after_is : after ≡ (step old.state (client_frame frame)).1) where
  -- the end afterwards, with these logs of what was sent
  abbrev end_with : SentLogs → EndState
  end_with logs = record { state = after; sent = logs; delivered = old.delivered }

  happens : (output : Output) → output ≡ (step old.state (client_frame frame)).0 →
      EndHappens old (client_frame frame) output (end_with (sent_after (client_frame frame) output old.sent))
  happens output is =
      let answer = (step old.state (client_frame frame)).0 in
      let logs = sent_after (client_frame frame) answer old.sent in
      record {
        output_is = is;
        end = ap (λ (o : Output). end_with (sent_after (client_frame frame) o old.sent)) is
            ∙ ap (λ (t : State). record { state = t; sent = logs; delivered = old.delivered }) after_is;
      }

  pub leaves_under : (now : EndState) → old ≡ now → (link_frame made : List ℕ) → made ≡ link_frame → (key : ℕ) (sent : SentLogs) → sent ≡ logs_sending key frame old.sent →
      leaves link_frame (Some key) ≡ (step old.state (client_frame frame)).0 →
      EndHappens now (client_frame frame) (leaves made (Some key)) (end_with sent)
  leaves_under now same link_frame made made_is key sent sent_is is =
      subst (λ (e : EndState). EndHappens e (client_frame frame) (leaves made (Some key)) (end_with sent)) same
      (rw (made_is, sent_is) (happens (leaves link_frame (Some key)) is))

  pub leaves_plain : (now : EndState) → old ≡ now → (link_frame made : List ℕ) → made ≡ link_frame → (sent : SentLogs) → sent ≡ old.sent →
      leaves link_frame None ≡ (step old.state (client_frame frame)).0 → EndHappens now (client_frame frame) (leaves made None) (end_with sent)
  leaves_plain now same link_frame made made_is sent sent_is is =
      subst (λ (e : EndState). EndHappens e (client_frame frame) (leaves made None) (end_with sent)) same
      (rw (made_is, sent_is) (happens (leaves link_frame None) is))

  pub drops : (now : EndState) → old ≡ now → (reason : DropReason) (sent : SentLogs) → sent ≡ old.sent → drop_output reason ≡ (step old.state (client_frame frame)).0 →
      EndHappens now (client_frame frame) (drop_output reason) (end_with sent)
  drops now same reason sent sent_is is =
      subst (λ (e : EndState). EndHappens e (client_frame frame) (drop_output reason) (end_with sent)) same (rw sent_is (by_reason reason is))
    where
      by_reason : (reason : DropReason) → drop_output reason ≡ (step old.state (client_frame frame)).0 →
          EndHappens old (client_frame frame) (drop_output reason) (end_with old.sent)
      by_reason NoSa is' = happens dropped_no_sa is'
      by_reason TooLong is' = happens dropped_too_long is'

pub on_err : {A E P : Type 0} (r : Result A E) → P → OnErr r P
on_err (Ok x) p = tt
on_err (Err e) p = p

pub on_ok : {A E P Q : Type 0} (r : Result A E) → (P → Q) → OnOk r P → OnOk r Q
on_ok (Ok x) f p = f p
on_ok (Err e) f p = tt
