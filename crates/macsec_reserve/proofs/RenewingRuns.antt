-- One run of an endpoint that renews keys: no two frames are sealed with the same key octets and the same IV.
use Rattle.std.proofs.Common.{eq-eqb}
use Rattle.macsec_reserve.specs.{
  Forgotten.is_known,
  RenewingRuns.{OctetsHaveOneKey, renewing_after, renewing_step, RepeatsNoIvRenewing, sealed_renewing},
  RenewingRuns.{StaysSoundRenewing},
}
use Rattle.macsec_rx.specs.Commands.{rx_uses}
use Rattle.macsec_secy.proofs.{Contained.{first_or_behind, none_there}, OtherOctets.found_unused, UsedNumbers.sent_by}
use Rattle.macsec_secy.specs.{Kept.IsLaterKey, Protects.IsProtection}
use Rattle.macsec_reserve.proofs.{
  Prelude.{[], ◌<◌, ◌==◌, ◌||◌, ◌∙◌, ◌∷◌, ◌≡◌, ◌≤◌, ◌⊎◌, AgreeOnKey, All, All-append, All-cons, All-nil, All-weaker},
  Prelude.{AllPairs, ap, arith, Bool, CipherUse, client_frame, Contains, dropped_no_reservation, EndConfig},
  Prelude.{endpoint_input, false, frame_fault, FrameFault, HasOtherIv, if◌then◌else◌, inl, inr, InstalledKey},
  Prelude.{is_forgotten, is_repeated, IsGivenUp, IsSome, IsSound, iv_of, Keeping, keeping_step, KeepingInput, Key},
  Prelude.{key_row, KeysAreApart, last_of, link_frame, List, may_go, newly_sealed, no_key, None, now_durable},
  Prelude.{octets_same, operator_command, Option, or_parts, refl, Retire, row_noting, row_on, same_octets, Sci},
  Prelude.{sealed_by, sealed_if, sending_of, Some, State, step, subst, suc, Suite, sym, the_key, true, tx_options},
  Prelude.{tx_uses, TxRow, uncontrolled_frame, unwrap_or, use_sent, with_step, ℕ},
  EndpointLaws.{Laws, numbers_tell},
  KnownKeys.or_true,
  Pairs.{no_pairs, pairs-append},
  RenewedKeys.{barred_stays, IsSpent, Lasts, row_there, stays_spent},
  Replaced.KeyLaws,
  Runs.one_at_most,
  Seals.{each_use, iv_again},
  Steps.keys_stay,
}

-- ---- what a step seals

-- the packet number of a use was noted at this key
record IsNoted (x : CipherUse) (sci : Sci) (key : InstalledKey) : Type 0 where
  number : ℕ
  most : number ≤ last_of key.suite
  iv : x.iv ≡ iv_of key.suite sci key.ssci key.salt number
  noted : number < key.first_unused

-- a key with the key octets of a use has noted its packet number, or is retired and not used
abbrev IsSpentUse : Keeping → CipherUse → Type 0
IsSpentUse k x = IsSpent (IsNoted x) k x.key

noted_lasts : (x : CipherUse) → Lasts (IsNoted x)
noted_lasts x sci key later is it = record {
  number = it.number;
  most = subst (λ (u : Suite). it.number ≤ last_of u) (sym is.suite) it.most;
  iv = it.iv ∙ iv_again key.suite later.suite sci sci key.ssci later.ssci key.salt later.salt it.number is.suite refl is.ssci is.salt;
  noted = omega (arith, it.noted, is.first_unused);
}

some_key : (keys : List InstalledKey) (n : ℕ) → IsSome (key_row keys n) → key_row keys n ≡ Some (the_key keys n)
some_key keys n there = by_row (key_row keys n) there
  where
    by_row : (o : Option InstalledKey) → IsSome o → o ≡ Some (unwrap_or o no_key)
    by_row None is = cc
    by_row (Some row) is = refl

repeated : (keys : List InstalledKey) (key : InstalledKey) → Contains keys key → is_repeated keys key.bytes ≡ true
repeated [] key there = absurd (none_there key there)
repeated (row ∷ rows) key there = by_case (first_or_behind row rows key there) (repeated rows key)
  where
    by_case : (row ≡ key) ⊎ Contains rows key → (Contains rows key → is_repeated rows key.bytes ≡ true) → (same_octets row.bytes key.bytes || is_repeated rows key.bytes) ≡ true
    by_case (inl same) goes = ap (λ b. b || is_repeated rows key.bytes) (ap (λ (r : InstalledKey). same_octets r.bytes key.bytes) same ∙ octets_same key.bytes)
    by_case (inr later) goes = ap (λ b. same_octets row.bytes key.bytes || b) (goes later) ∙ or_true (same_octets row.bytes key.bytes)

-- the key of the enabled SA is not given up
not_given_up : (s : State) (row : TxRow) → row_on s.tx ≡ Some row → IsGivenUp s row.key → ⊥
not_given_up s row on up =
    let unused = (or_parts (tx_uses s.tx row.key) (rx_uses s.rx.rows row.key) up.unused).0 in
    let other : (row.key == row.key) ≡ false = found_unused (λ (r : TxRow). r.key == row.key) (λ (r : TxRow). r.on) s.tx row unused on in
    absurd (let no : true ≡ false = sym (eq-eqb row.key row.key refl) ∙ other in cc)

is_on : (s : State) (frame : List ℕ) (row : TxRow) → (sending_of s frame).by ≡ Some row → row_on s.tx ≡ Some row
is_on s frame row by = by_case (sent_by (tx_options s) s.keys s.tx frame)
  where
    by_case : ((sending_of s frame).by ≡ None) ⊎ ((sending_of s frame).by ≡ row_on s.tx) → row_on s.tx ≡ Some row
    by_case (inl none) = let no : None ≡ Some row = sym none ∙ by in cc
    by_case (inr on) = sym on ∙ by

-- an earlier use, and one that is sealed now
differs : Laws → (k : Keeping) (frame : List ℕ) (row : TxRow) (x : CipherUse) → IsSound k.secy → frame_fault frame ≡ None → (sending_of k.secy frame).by ≡ Some row → IsSpentUse k x →
    HasOtherIv x (use_sent (tx_options k.secy) (the_key k.secy.keys row.key) row frame)
differs laws k frame row x sound fits by it same iv = by_case (it.rows row.key key found (sym same))
  where
    s : State
    s = k.secy

    key : InstalledKey
    key = the_key s.keys row.key

    use_of : IsProtection s frame row
    use_of = laws.protects s frame row sound fits by

    found : key_row s.keys row.key ≡ Some key
    found = some_key s.keys row.key use_of.there

    there : Contains s.keys key
    there = (row_there s.keys (laws.keys_apart s sound) row.key key found).there

    by_case : IsNoted x s.config.sci key ⊎ IsGivenUp s row.key → ⊥
    by_case (inl noted) =
        numbers_tell laws s s sound sound key key there there (record { suite = refl; salt = λ xpn. refl }) noted.number row.next noted.most use_of.most
        (omega (arith, noted.noted, use_of.unused)) (sym noted.iv ∙ iv)
    by_case (inr up) = not_given_up s row (is_on s frame row by) up

-- the use is spent after the step that seals it
new_spent : KeyLaws → Laws → (k : Keeping) (frame : List ℕ) (row : TxRow) → IsSound k.secy → IsSound (keeping_step k (endpoint_input (client_frame frame))).1.secy →
    frame_fault frame ≡ None → (sending_of k.secy frame).by ≡ Some row → may_go k (client_frame frame) ≡ true →
    IsSpentUse (keeping_step k (endpoint_input (client_frame frame))).1 (use_sent (tx_options k.secy) (the_key k.secy.keys row.key) row frame)
new_spent keys laws k frame row sound sound' fits by go = record {
  barred = barred_stays keys k input key.bytes sound (inr (ap (λ b. b || is_forgotten k key.bytes) (repeated s.keys key there)));
  rows = λ n later is bytes.
      let one : later ≡ row_noting row.next key = apart.by_bytes later (row_noting row.next key) (row_there after.keys apart n later is).there noted bytes in
      inl (subst (IsNoted x after.config.sci) (sym one) (record {
        number = row.next;
        most = use_of.most;
        iv = ap (λ (c : EndConfig). iv_of key.suite c.sci key.ssci key.salt row.next) (sym (keys_stay laws k input sound).config);
        noted = omega arith;
      }));
}
  where
    s : State
    s = k.secy

    input : KeepingInput
    input = endpoint_input (client_frame frame)

    after : State
    after = (keeping_step k input).1.secy

    key : InstalledKey
    key = the_key s.keys row.key

    x : CipherUse
    x = use_sent (tx_options s) key row frame

    use_of : IsProtection s frame row
    use_of = laws.protects s frame row sound fits by

    there : Contains s.keys key
    there = (row_there s.keys (laws.keys_apart s sound) row.key key (some_key s.keys row.key use_of.there)).there

    apart : KeysAreApart after.keys
    apart = laws.keys_apart after sound'

    noted : Contains after.keys (row_noting row.next key)
    noted = subst (λ (b : Bool). Contains (if b then with_step k (step s (client_frame frame)) else (dropped_no_reservation, k)).1.secy.keys (row_noting row.next key)) (sym go) use_of.noted

-- ---- a run

-- a use that a step seals
record IsNew (k : Keeping) (input : KeepingInput) (y : CipherUse) : Type 0 where
  spent : IsSpentUse (renewing_step k input).1 y
  differs : (x : CipherUse) → IsSpentUse k x → HasOtherIv x y

new_uses : KeyLaws → Laws → (k : Keeping) (input : KeepingInput) → IsSound k.secy → IsSound (renewing_step k input).1.secy → All (IsNew k input) (newly_sealed k input)
new_uses keys laws k input sound sound' =
    All-weaker (λ y. IsSound (renewing_step k input).1.secy → IsNew k input y) (IsNew k input) (λ y new. new sound') (newly_sealed k input)
    (each_use (λ (i : KeepingInput) (y : CipherUse). IsSound (renewing_step k i).1.secy → IsNew k i y) k
    (λ frame row fits by go after. record { spent = new_spent keys laws k frame row sound after fits by go; differs = λ x it. differs laws k frame row x sound fits by it }) input)

first_sound : (k : Keeping) (inputs : List KeepingInput) → StaysSoundRenewing k inputs → IsSound k.secy
first_sound k [] sound = sound 0
first_sound k (input ∷ inputs) sound = sound 0

later_differ : KeyLaws → Laws → (inputs : List KeepingInput) (k : Keeping) (x : CipherUse) → StaysSoundRenewing k inputs → IsSpentUse k x → All (HasOtherIv x) (sealed_renewing k inputs)
later_differ keys laws [] k x sound it = All-nil (HasOtherIv x)
later_differ keys laws (input ∷ inputs) k x sound it =
    let after = (renewing_step k input).1 in
    let sound' = first_sound after inputs (λ n. sound (suc n)) in
    All-append (HasOtherIv x) (newly_sealed k input) (sealed_renewing after inputs)
    (All-weaker (IsNew k input) (HasOtherIv x) (λ y new. new.differs x it) (newly_sealed k input) (new_uses keys laws k input (sound 0) sound'))
    (later_differ keys laws inputs after x (λ n. sound (suc n)) (stays_spent (IsNoted x) (noted_lasts x) keys laws k input x.key (sound 0) sound' it))

pub repeats_no_iv_renewing : KeyLaws → Laws → (inputs : List KeepingInput) (k : Keeping) → RepeatsNoIvRenewing k inputs
repeats_no_iv_renewing keys laws [] k sound = no_pairs HasOtherIv
repeats_no_iv_renewing keys laws (input ∷ inputs) k sound =
    let after = (renewing_step k input).1 in
    let later : StaysSoundRenewing after inputs = λ n. sound (suc n) in
    pairs-append HasOtherIv (newly_sealed k input) (sealed_renewing after inputs) (one_at_most k input) (repeats_no_iv_renewing keys laws inputs after later)
    (All-weaker (IsNew k input) (λ y. All (HasOtherIv y) (sealed_renewing after inputs)) (λ y new. later_differ keys laws inputs after y later new.spent) (newly_sealed k input)
    (new_uses keys laws k input (sound 0) (first_sound after inputs later)))

-- ---- the key of some octets

later_lasts : (key : InstalledKey) → Lasts (λ sci. IsLaterKey key)
later_lasts key sci a b is it = record {
  number = is.number ∙ it.number;
  suite = is.suite ∙ it.suite;
  bytes = is.bytes ∙ it.bytes;
  salt = is.salt ∙ it.salt;
  ssci = is.ssci ∙ it.ssci;
  offset = is.offset ∙ it.offset;
  first_unused = omega (arith, it.first_unused, is.first_unused);
}

spent_after : (P : Sci → InstalledKey → Type 0) → Lasts P → KeyLaws → Laws → (inputs : List KeepingInput) (k : Keeping) (octets : List ℕ) → StaysSoundRenewing k inputs →
    IsSpent P k octets → IsSpent P (renewing_after k inputs) octets
spent_after P lasts keys laws [] k octets sound it = it
spent_after P lasts keys laws (input ∷ inputs) k octets sound it =
    let after = (renewing_step k input).1 in
    let later : StaysSoundRenewing after inputs = λ n. sound (suc n) in
    spent_after P lasts keys laws inputs after octets later (stays_spent P lasts keys laws k input octets (sound 0) (first_sound after inputs later) it)

pub octets_have_one_key : KeyLaws → Laws → (k : Keeping) (inputs : List KeepingInput) (n : ℕ) (key : InstalledKey) (m : ℕ) (row : InstalledKey) → OctetsHaveOneKey k inputs n key m row
octets_have_one_key keys laws k inputs n key m row sound there is used bytes =
    by_case ((spent_after Later (later_lasts key) keys laws inputs k key.bytes sound at_first).rows m row is bytes)
  where
    Later : Sci → InstalledKey → Type 0
    Later sci = IsLaterKey key

    apart : KeysAreApart k.secy.keys
    apart = laws.keys_apart k.secy (first_sound k inputs sound)

    at_first : IsSpent Later k key.bytes
    at_first = record {
      barred = inr (ap (λ b. b || is_forgotten k key.bytes) (repeated k.secy.keys key (row_there k.secy.keys apart n key there).there));
      rows = λ i other found same.
          let one : key ≡ other = apart.by_bytes key other (row_there k.secy.keys apart n key there).there (row_there k.secy.keys apart i other found).there (sym same) in
          inl (subst (IsLaterKey key) one (record { number = refl; suite = refl; bytes = refl; salt = refl; ssci = refl; offset = refl; first_unused = omega arith }));
    }

    by_case : IsLaterKey key row ⊎ IsGivenUp (renewing_after k inputs).secy m → IsLaterKey key row
    by_case (inl later) = later
    by_case (inr up) = absurd (let no : true ≡ false = sym used ∙ up.unused in cc)
