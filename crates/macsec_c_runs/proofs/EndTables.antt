-- Where deleted SAs ended: an endpoint remembers ends only under numbers that its keys have.
use Rattle.std.proofs.Common.{◌≡◌, ◌∙◌, ◌&&◌, ◌++◌, ◌==◌, ◌∷◌, ℕ, List, [], Bool, true, false, not, inl, inr, map}
use Rattle.std.proofs.Common.{filter}
use Rattle.std.proofs.Common.{All, Option, Some, None, length, refl, ap, ap₂, sym, subst, cond, if◌then◌else◌, max}
use Rattle.std.proofs.Common.{eq-eqb, eqb-true, is_some, nat_lt}
use Rattle.std.proofs.lemmas.List.Elements.{All-append, All-cons, All-filter, All-head, All-map, All-nil, All-tail}
use Rattle.std.proofs.lemmas.List.Elements.{All-weaker}
use Rattle.std.proofs.lemmas.Bool.{and_from}
use Rattle.macsec_suite.specs.KeyRows.{InstalledKey, at_number, new_row}
use Rattle.macsec_suite.specs.Refusals.{is_number_used}
use Rattle.macsec_suite.specs.Renewing.{keys_added, renewed_row}
use Rattle.macsec_suite.specs.declared.key_row.NewKey.{NewKey}
use Rattle.macsec_suite.specs.declared.refusal.Refusal.{Refusal}
use Rattle.macsec_suite.specs.declared.suite.Suite.{Suite}
use Rattle.macsec_commands.specs.declared.command.Command.{Command}
use Rattle.macsec_commands.specs.declared.command.Command.TheVariants.{Retire}
use Rattle.macsec_rx.specs.Channels.{is_at, rx_row}
use Rattle.macsec_rx.specs.Commands.{HaveRxKeys}
use Rattle.macsec_rx.specs.declared.RxRow.{RxRow}
use Rattle.macsec_secy.proofs.KeysKept.{IsThere, same_number, there_after_change, there_replacing, there_with_more}
use Rattle.macsec_secy.specs.State.{State}
use Rattle.macsec_secy.specs.Step.{Input, client_frame, link_frame, operator_command, uncontrolled_frame}
use Rattle.macsec_reserve.proofs.Written.{same_octets-refl}
use Rattle.macsec_reserve.specs.Forgetting.{as_taken, can_forget, fingerprint_of, forgetting, forgetting_step, is_done}
use Rattle.macsec_reserve.specs.Forgetting.{retired_by, taken, then_forget}
use Rattle.macsec_reserve.specs.Keeping.{Keeping, KeepingInput, KeepingOutput, endpoint_input, keeping_step}
use Rattle.macsec_reserve.specs.Keeping.{now_durable}
use Rattle.macsec_reserve.specs.Renewing.{forgetting_refusal}
use Rattle.macsec_link.proofs.Members.{IsMember}
use Rattle.macsec_ahead.specs.Ahead.{Ahead, AheadOutput, begins_again, ended_after, standing}
use Rattle.macsec_ahead.specs.Ends.{Ends, after_retiring, ended_by, ended_of, is_gone, is_of, is_under, key_raised}
use Rattle.macsec_ahead.specs.Ends.{has_end, has_key_end, max_end_count, sa_raised, with_end, with_ends, without_key}
use Rattle.macsec_ahead.specs.Renewing.{ahead_after_renewing, unless_refused}
use Rattle.macsec_ahead.specs.declared.ends.EndedKey.{EndedKey}
use Rattle.macsec_ahead.specs.declared.ends.EndedSa.{EndedSa}
use Rattle.macsec_restarts.proofs.AheadForgets.{by_forgetting, forgetting_is}
use Rattle.macsec_restarts.proofs.AheadInside.{by_ahead}
use Rattle.macsec_restarts.specs.AheadForgetting.{ahead_forgetting_step}
use Rattle.macsec_c_runs.proofs.KeysThere.{there_keeping}

-- ---- an SA that exists is not gone

-- each SA is found at its own place
at_itself : (row : RxRow) → is_at row.sci row.an row ≡ true
at_itself row = and_from _ _ (same_octets-refl row.sci.0) (eq-eqb row.an row.an refl)

is_found : (rows : List RxRow) (row : RxRow) → IsMember rows row → is_some (rx_row rows row.sci row.an) ≡ true
is_found [] _ there = absurd there
is_found (r ∷ rows) row there = by_test (is_at row.sci row.an r) refl there (is_found rows row)
  where
    by_test : (b : Bool) → is_at row.sci row.an r ≡ b → IsMember (r ∷ rows) row →
        (IsMember rows row → is_some (rx_row rows row.sci row.an) ≡ true) →
        is_some (if b then Some r else rx_row rows row.sci row.an) ≡ true
    by_test true _ _ _ = refl
    by_test false at (inl here) later = let no : true ≡ false = sym (at_itself row)
        ∙ ap (is_at row.sci row.an) (sym here) ∙ at in cc
    by_test false _ (inr among) later = later among

none_left : (test : RxRow → Bool) (rows : List RxRow) → ((row : RxRow) → IsMember rows row → test row ≡ false) →
    filter test rows ≡ []
none_left _ [] _ = refl
none_left test (r ∷ rows) none = by_test (test r) (none r (inl refl))
    (none_left test rows (λ row there. none row (inr there)))
  where
    by_test : (b : Bool) → b ≡ false → filter test rows ≡ [] → cond b (r ∷ filter test rows) (filter test rows) ≡ []
    by_test true is rest = cc
    by_test false _ rest = rest

pub none_gone : (s : State) → ended_by s s ≡ []
none_gone s = rw (none_left (is_gone s) s.rx.rows (λ row there. rw (is_found s.rx.rows row there)))

-- ---- tables of ends, under keys of which P holds

pub record AreUnder (P : ℕ → Type 0) (t : Ends) : Type 0 where
  pub entries : All (λ (e : EndedSa). P e.key) t.entries
  pub keys : All (λ (e : EndedKey). P e.key) t.keys

module _ (P : ℕ → Type 0) where
  abbrev OfSa : EndedSa → Type 0
  OfSa e = P e.key

  abbrev OfKey : EndedKey → Type 0
  OfKey e = P e.key

  one_more : (by : EndedSa) (t : Ends) → P by.key → AreUnder P t → AreUnder P (with_end by t)
  one_more by t own it = by_tests (has_end t.entries by) (nat_lt (length t.entries) max_end_count)
      (has_key_end t.keys by) (nat_lt (length t.keys) max_end_count)
    where
      sa_same : (e : EndedSa) → P e.key → P (sa_raised by e).key
      sa_same e is = by_test (is_of by.key by.sci by.an e)
        where
          by_test : (b : Bool) → P (if b then record e { last = max e.last by.last } else e).key
          by_test true = is
          by_test false = is

      key_same : (e : EndedKey) → P e.key → P (key_raised by e).key
      key_same e is = by_test (is_under by.key e)
        where
          by_test : (b : Bool) → P (if b then record e { last = max e.last by.last } else e).key
          by_test true = is
          by_test false = is

      by_tests : (b c d e : Bool) → AreUnder P (if b then record t { entries = map (sa_raised by) t.entries }
          else if c then record t { entries = t.entries ++ by ∷ [] }
          else if d then record t { keys = map (key_raised by) t.keys }
          else if e then record t { keys = t.keys ++ record { key = by.key; last = by.last } ∷ [] }
          else record t { others = max t.others by.last })
      by_tests true c d e = record {
        entries = All-map OfSa (sa_raised by) t.entries
            (All-weaker OfSa (λ x. P (sa_raised by x).key) sa_same t.entries it.entries);
        keys = it.keys;
      }
      by_tests false true d e = record {
        entries = All-append OfSa t.entries (by ∷ []) it.entries (All-cons OfSa by [] own (All-nil OfSa));
        keys = it.keys;
      }
      by_tests false false true e = record {
        entries = it.entries;
        keys = All-map OfKey (key_raised by) t.keys
            (All-weaker OfKey (λ x. P (key_raised by x).key) key_same t.keys it.keys);
      }
      by_tests false false false true =
          let new : EndedKey = record { key = by.key; last = by.last } in
          record {
            entries = it.entries;
            keys = All-append OfKey t.keys (new ∷ []) it.keys (All-cons OfKey new [] own (All-nil OfKey));
          }
      by_tests false false false false = record { entries = it.entries; keys = it.keys }

  more_ends : (es : List EndedSa) (t : Ends) → All OfSa es → AreUnder P t → AreUnder P (with_ends es t)
  more_ends [] t own it = it
  more_ends (e ∷ es) t own it =
      more_ends es (with_end e t) (All-tail OfSa e es own) (one_more e t (All-head OfSa e es own) it)

  -- SAs that are deleted were under such keys
  gone_under : (s after : State) (t : Ends) → All (λ (row : RxRow). P row.key) s.rx.rows → AreUnder P t →
      AreUnder P (with_ends (ended_by s after) t)
  gone_under s after t own it = more_ends (ended_by s after) t (All-map OfSa ended_of (filter (is_gone after) s.rx.rows)
      (All-filter (is_gone after) (λ (row : RxRow). P row.key) s.rx.rows own)) it

  less_ends : (n : ℕ) (t : Ends) → AreUnder P t → AreUnder P (without_key n t)
  less_ends n t it = record {
    entries = All-filter (λ (e : EndedSa). not (e.key == n)) OfSa t.entries it.entries;
    keys = All-filter (λ (e : EndedKey). not (is_under n e)) OfKey t.keys it.keys;
  }

weaker_ends : (P Q : ℕ → Type 0) → ((n : ℕ) → P n → Q n) → (t : Ends) → AreUnder P t → AreUnder Q t
weaker_ends P Q weaker t it = record {
  entries = All-weaker (OfSa P) (OfSa Q) (λ e is. weaker e.key is) t.entries it.entries;
  keys = All-weaker (OfKey P) (OfKey Q) (λ e is. weaker e.key is) t.keys it.keys;
}

-- ---- a key stays in the table

there_forgetting : (k : Keeping) (input : KeepingInput) (n : ℕ) → IsThere k.secy.keys n →
    IsThere (forgetting_step k input).1.secy.keys n
there_forgetting k input n there =
    by_retired (retired_by input) (keeping_step k (taken k input)) (there_keeping k (taken k input) n there)
  where
    by_retired : (o : Option ℕ) (answer : KeepingOutput × Keeping) → IsThere answer.1.secy.keys n →
        IsThere (then_forget o answer).1.secy.keys n
    by_retired None answer is = is
    by_retired (Some m) answer is = by_test (is_done answer.0 && can_forget answer.1 m)
      where
        by_test : (b : Bool) → IsThere (if b then forgetting answer.1 m else answer.1).secy.keys n
        by_test true = there_replacing answer.1.secy.keys m (fingerprint_of answer.1 m) n is
        by_test false = is

there_added : (b : Bool) (suite : Suite) (keys : List InstalledKey) (key : NewKey) (n : ℕ) → IsThere keys n →
    IsThere (keys_added b suite keys key) n
there_added b suite keys key n there = by_test (b && is_number_used keys key.number)
  where
    by_test : (c : Bool) → IsThere (if c then map (at_number (renewed_row suite key) key.number) keys
        else keys ++ new_row suite key ∷ []) n
    by_test true = there_after_change (at_number (renewed_row suite key) key.number)
        (same_number (renewed_row suite key) (λ row. refl) key.number) keys n there
    by_test false = there_with_more keys (new_row suite key ∷ []) n there

-- ---- a step of an endpoint that renews keys

-- it forgets keys; or a key is installed as a renewal; or nothing changes
pub data IsStep (e : Ahead) : Ahead → Type 0 where
  forgets : (input : KeepingInput) → IsStep e (ahead_forgetting_step e input).1
  renews : (key : NewKey) → IsStep e (ahead_after_renewing e key)
  stays : IsStep e e

pub there_step : (e after : Ahead) → IsStep e after → (n : ℕ) → IsThere e.k.secy.keys n → IsThere after.k.secy.keys n
there_step e _ (forgets input) n there =
    by_forgetting (λ k. IsThere k.secy.keys n) e input there (there_forgetting e.k input n there)
there_step e _ (renews key) n there = by_refusal (forgetting_refusal e.k key)
  where
    by_refusal : (r : Option Refusal) → IsThere (unless_refused r key e).k.secy.keys n
    by_refusal (Some r) = there
    by_refusal None = there_added _ _ e.k.secy.keys (as_taken e.k key) n there
there_step e _ stays n there = there

-- ---- an endpoint remembers ends only under numbers of keys in its table

abbrev pub HasEnds : Ahead → Type 0
HasEnds e = AreUnder (IsThere e.k.secy.keys) e.ended

pub no_ends_yet : (e : Ahead) → e.ended.entries ≡ [] → e.ended.keys ≡ [] → HasEnds e
no_ends_yet e entries keys = record {
  entries = rw entries (All-nil (λ (x : EndedSa). IsThere e.k.secy.keys x.key));
  keys = rw keys (All-nil (λ (x : EndedKey). IsThere e.k.secy.keys x.key));
}

-- after a step it remembers ends under keys that were there before it
ends_before : (e after : Ahead) → IsStep e after → HaveRxKeys e.k.secy.keys e.k.secy.rx.rows → HasEnds e →
    AreUnder (IsThere e.k.secy.keys) after.ended
ends_before e _ stays rows it = it
ends_before e _ (renews key) rows it = by_refusal (forgetting_refusal e.k key)
  where
    P : ℕ → Type 0
    P = IsThere e.k.secy.keys

    by_refusal : (r : Option Refusal) → AreUnder P (unless_refused r key e).ended
    by_refusal (Some r) = it
    by_refusal None = less_ends P key.number e.ended it
ends_before e _ (forgets (now_durable r)) rows it = it
ends_before e _ (forgets (endpoint_input input)) rows it =
    subst (λ (x : AheadOutput × Ahead). AreUnder P x.1.ended) (sym (forgetting_is e input))
    (by_ahead (λ x. AreUnder P x.ended) e input answer it (by_input input) (begins_again e input) (standing e input))
  where
    P : ℕ → Type 0
    P = IsThere e.k.secy.keys

    answer : KeepingOutput × Keeping
    answer = forgetting_step e.k (endpoint_input input)

    more : Ends
    more = with_ends (ended_by e.k.secy answer.1.secy) e.ended

    grown : AreUnder P more
    grown = gone_under P e.k.secy answer.1.secy e.ended rows it

    retiring : (c : Command) (done : Bool) → AreUnder P (after_retiring c done more)
    retiring (Retire n) true = less_ends P n more grown
    retiring (Retire n) false = grown
    retiring c done = grown

    keeping : (c : Command) (b : Bool) →
        AreUnder P (if b then after_retiring c (is_done answer.0) more else e.ended)
    keeping c true = retiring c (is_done answer.0)
    keeping c false = it

    by_input : (i : Input) → AreUnder P (ended_after e i answer)
    by_input (operator_command c) = keeping c e.k.keeps
    by_input (client_frame frame) = it
    by_input (uncontrolled_frame frame) = it
    by_input (link_frame frame) = it

pub ends_stay : (e after : Ahead) → IsStep e after → HaveRxKeys e.k.secy.keys e.k.secy.rx.rows → HasEnds e →
    HasEnds after
ends_stay e after step rows it =
    weaker_ends (IsThere e.k.secy.keys) (IsThere after.k.secy.keys)
    (there_step e after step) after.ended (ends_before e after step rows it)

-- so a number that no key has, has no ends
pass_all : {X : Type 0} (test : X → Bool) (xs : List X) → All (λ x. test x ≡ true) xs → filter test xs ≡ xs
pass_all test [] all = refl
pass_all test (x ∷ xs) all =
    rw (All-head (λ y. test y ≡ true) x xs all, pass_all test xs (All-tail (λ y. test y ≡ true) x xs all)) refl

pub no_end_of : (e : Ahead) (n : ℕ) → HasEnds e → is_number_used e.k.secy.keys n ≡ false →
    without_key n e.ended ≡ e.ended
no_end_of e n it free = ap₂ (λ (xs : List EndedSa) (ys : List EndedKey). record e.ended { entries = xs; keys = ys })
    (pass_all (λ (x : EndedSa). not (x.key == n)) e.ended.entries (All-weaker (λ (x : EndedSa). P x.key)
    (λ (x : EndedSa). not (x.key == n) ≡ true) (λ x is. differs x.key is) e.ended.entries it.entries))
    (pass_all (λ (x : EndedKey). not (is_under n x)) e.ended.keys (All-weaker (λ (x : EndedKey). P x.key)
    (λ (x : EndedKey). not (is_under n x) ≡ true) (λ x is. differs x.key is) e.ended.keys it.keys))
  where
    P : ℕ → Type 0
    P = IsThere e.k.secy.keys

    differs : (m : ℕ) → P m → not (m == n) ≡ true
    differs m is = by_test (m == n) refl
      where
        by_test : (b : Bool) → (m == n) ≡ b → not b ≡ true
        by_test false _ = refl
        by_test true same =
            let used : is_number_used e.k.secy.keys n ≡ true = subst P (eqb-true m n same) is in
            let no : true ≡ false = sym used ∙ free in cc
