-- One run: where its uses of the cipher come from, and that no two have the same key octets and the same IV.
use Rattle.macsec_reserve.proofs.{
  Prelude.{[], ◌<◌, ◌∙◌, ◌∷◌, ◌≡◌, ◌≤◌, AgreeOnKey, All, All-append, All-nil, All-weaker, AllPairs, ap, arith, Bool},
  Prelude.{CipherUse, client_frame, Contains, endpoint_input, false, frame_fault, FrameFault, HasOtherIv, highest},
  Prelude.{InstalledKey, IsSound, Keeping, keeping_after, keeping_step, KeepingInput, KeysStay, link_frame, List},
  Prelude.{may_go, newly_sealed, None, now_durable, operator_command, Option, sealed_by, sealed_from, sealed_if},
  Prelude.{sending_of, Some, State, StaysSound, suc, sym, the_key, true, tx_options, TxRow, uncontrolled_frame},
  Prelude.{use_sent, ℕ},
  EndpointLaws.{Laws, numbers_tell},
  Pairs.{no_pairs, one_alone, pairs-append},
  Seals.{IsNewUse, IsUse, new_uses, use_earlier},
  Steps.{granted_grows, keeps_stays, keys_stay, stays_itself, stays_on},
}

pub record Runs (k : Keeping) (inputs : List KeepingInput) : Type 0 where
  pub sound : IsSound (keeping_after k inputs).secy
  pub stay : KeysStay k.secy (keeping_after k inputs).secy
  pub grow : (name : List ℕ) → highest k.granted name ≤ highest (keeping_after k inputs).granted name
  pub from : All (IsUse k (keeping_after k inputs)) (sealed_from k inputs)
  pub apart : AllPairs HasOtherIv (sealed_from k inputs)

-- two keys of one endpoint with the same octets are the same key
agrees_with_itself : Laws → (k : Keeping) → IsSound k.secy → (x y : InstalledKey) → Contains k.secy.keys x → Contains k.secy.keys y → x.bytes ≡ y.bytes → AgreeOnKey x y
agrees_with_itself laws k sound x y here there bytes =
    let one : x ≡ y = (laws.keys_apart k.secy sound).by_bytes x y here there bytes in
    record { suite = ap (λ (key : InstalledKey). key.suite) one; salt = λ xpn. ap (λ (key : InstalledKey). key.salt) one }

-- a use at the first step, and one after it
differs : Laws → (k after later : Keeping) → IsSound later.secy → (x : CipherUse) → IsNewUse k after later x → (y : CipherUse) → IsUse after later y → HasOtherIv x y
differs laws k after later sound x new y old bytes iv =
    let first = new.is_use in
    let next : new.key.first_unused ≤ old.number = old.unused new.key new.there (sym bytes ∙ new.bytes) in
    let less : first.number < old.number = omega (arith, next, new.noted) in
    numbers_tell laws later.secy later.secy sound sound first.key old.key first.there old.there
    (agrees_with_itself laws later sound first.key old.key first.there old.there (sym first.bytes ∙ bytes ∙ old.bytes))
    first.number old.number first.most old.most less (sym first.iv ∙ iv ∙ old.iv)

-- a step seals one frame at most
none_or_one : (go : Bool) (s : State) (frame : List ℕ) (fault : Option FrameFault) (by : Option TxRow) → AllPairs HasOtherIv (sealed_if go (sealed_by s frame fault by))
none_or_one false s frame fault by = no_pairs HasOtherIv
none_or_one true s frame (Some f) by = no_pairs HasOtherIv
none_or_one true s frame None None = no_pairs HasOtherIv
none_or_one true s frame None (Some row) = one_alone HasOtherIv (use_sent (tx_options s) (the_key s.keys row.key) row frame)

none_at_all : (go : Bool) → AllPairs HasOtherIv (sealed_if go [])
none_at_all true = no_pairs HasOtherIv
none_at_all false = no_pairs HasOtherIv

pub one_at_most : (k : Keeping) (input : KeepingInput) → AllPairs HasOtherIv (newly_sealed k input)
one_at_most k (now_durable r) = no_pairs HasOtherIv
one_at_most k (endpoint_input (operator_command c)) = none_at_all (may_go k (operator_command c))
one_at_most k (endpoint_input (client_frame frame)) = none_or_one (may_go k (client_frame frame)) k.secy frame (frame_fault frame) (sending_of k.secy frame).by
one_at_most k (endpoint_input (uncontrolled_frame frame)) = none_at_all (may_go k (uncontrolled_frame frame))
one_at_most k (endpoint_input (link_frame frame)) = none_at_all (may_go k (link_frame frame))

pub runs : Laws → (inputs : List KeepingInput) (k : Keeping) → k.keeps ≡ true → StaysSound k inputs → Runs k inputs
runs laws [] k keeps sound = record {
  sound = sound 0;
  stay = stays_itself k.secy;
  grow = λ name. omega arith;
  from = All-nil (IsUse k k);
  apart = no_pairs HasOtherIv;
}
runs laws (input ∷ inputs) k keeps sound =
    let after = (keeping_step k input).1 in
    let rest : Runs after inputs = runs laws inputs after (keeps_stays k input ∙ keeps) (λ n. sound (suc n)) in
    let later = keeping_after after inputs in
    let step_stays = keys_stay laws k input (sound 0) in
    let grow : (name : List ℕ) → highest k.granted name ≤ highest later.granted name = λ name. omega (arith, granted_grows k input name, rest.grow name) in
    let new = new_uses laws k input later keeps (sound 0) rest.stay grow in
    record {
      sound = rest.sound;
      stay = stays_on k.secy after.secy later.secy step_stays rest.stay;
      grow = grow;
      from = All-append (IsUse k later) (newly_sealed k input) (sealed_from after inputs)
          (All-weaker (IsNewUse k after later) (IsUse k later) (λ x it. it.is_use) (newly_sealed k input) new)
          (All-weaker (IsUse after later) (IsUse k later) (use_earlier k input later step_stays) (sealed_from after inputs) rest.from);
      apart = pairs-append HasOtherIv (newly_sealed k input) (sealed_from after inputs) (one_at_most k input) rest.apart
          (All-weaker (IsNewUse k after later) (λ x. All (HasOtherIv x) (sealed_from after inputs))
          (λ x it. All-weaker (IsUse after later) (HasOtherIv x) (differs laws k after later rest.sound x it) (sealed_from after inputs) rest.from)
          (newly_sealed k input) new);
    }
