-- Where each use of the cipher comes from: a key that the endpoint has at the end of the run, and a reserved packet number
-- that no earlier run may have used.
use Rattle.std.proofs.Common.{ltb-true}
use Rattle.macsec_reserve.proofs.{
  Prelude.{[], ◌<◌, ◌||◌, ◌∙◌, ◌∷◌, ◌≡◌, ◌≤◌, All, All-cons, All-nil, All-weaker, and_parts, ap, arith, Bool, CipherUse},
  Prelude.{client_frame, Contains, dropped_no_reservation, EndConfig, endpoint_input, false, frame_fault, FrameFault},
  Prelude.{highest, if◌then◌else◌, InstalledKey, IsSound, iv_of, Keeping, keeping_step, KeepingInput, key_name},
  Prelude.{KeysStay, last_of, leb-true, link_frame, List, list_any, may_go, may_use, nat_le, nat_lt, newly_sealed},
  Prelude.{None, not, now_durable, number_unless_fault, number_used, operator_command, Option, refl, row_noting, Sci},
  Prelude.{sealed_by, sealed_if, sending_name, sending_of, Some, State, step, subst, Suite, sym, the_key, true},
  Prelude.{tx_options, TxRow, uncontrolled_frame, use_sent, UsedNumber, with_step, ℕ},
  EndpointLaws.Laws,
  Steps.{before_stays, salt_stays},
}

-- a use of the cipher between two moments of a run, by a key as it is at the later moment
pub record IsUse (k later : Keeping) (x : CipherUse) : Type 0 where
  pub number : ℕ
  pub key : InstalledKey
  pub there : Contains later.secy.keys key
  pub bytes : x.key ≡ key.bytes
  pub most : number ≤ last_of key.suite
  pub iv : x.iv ≡ iv_of key.suite later.secy.config.sci key.ssci key.salt number
  -- no earlier run may have used the number, and this run has reserved it
  pub above : highest k.before (sending_name k.salt x.key) < number
  pub within : number ≤ highest later.granted (sending_name k.salt x.key)
  -- nor was it used in this run under a key of these octets
  pub unused : (old : InstalledKey) → Contains k.secy.keys old → x.key ≡ old.bytes → old.first_unused ≤ number

-- it was used at the first step, after which the keys have noted it
pub record IsNewUse (k after later : Keeping) (x : CipherUse) : Type 0 where
  pub is_use : IsUse k later x
  pub key : InstalledKey
  pub there : Contains after.secy.keys key
  pub bytes : x.key ≡ key.bytes
  pub noted : is_use.number < key.first_unused

pub iv_again : (suite suite' : Suite) (sci sci' : Sci) (ssci ssci' : ℕ) (salt salt' : List ℕ) (n : ℕ) → suite' ≡ suite → sci' ≡ sci → ssci' ≡ ssci → salt' ≡ salt →
    iv_of suite sci ssci salt n ≡ iv_of suite' sci' ssci' salt' n
iv_again suite suite' sci sci' ssci ssci' salt salt' n a b c d =
    ap (λ x. iv_of x sci ssci salt n) (sym a)
    ∙ ap (λ x. iv_of suite' x ssci salt n) (sym b)
    ∙ ap (λ x. iv_of suite' sci' x salt n) (sym c)
    ∙ ap (λ x. iv_of suite' sci' ssci' x n) (sym d)

-- a use after a step, seen from before the step
pub use_earlier : (k : Keeping) (input : KeepingInput) (later : Keeping) → KeysStay k.secy (keeping_step k input).1.secy → (x : CipherUse) →
    IsUse (keeping_step k input).1 later x → IsUse k later x
use_earlier k input later stay x it = record {
  number = it.number;
  key = it.key;
  there = it.there;
  bytes = it.bytes;
  most = it.most;
  iv = it.iv;
  above = subst (λ before. highest before (sending_name k.salt x.key) < it.number) (before_stays k input)
      (subst (λ (salt : List ℕ). highest (keeping_step k input).1.before (sending_name salt x.key) < it.number) (salt_stays k input) it.above);
  within = subst (λ (salt : List ℕ). it.number ≤ highest later.granted (sending_name salt x.key)) (salt_stays k input) it.within;
  unused = λ old there bytes.
      let then' = stay.keys old there in
      let at_least : then'.later.first_unused ≤ it.number = it.unused then'.later then'.there (bytes ∙ sym then'.is_later.bytes) in
      omega (arith, at_least, then'.is_later.first_unused);
}

-- ---- a client frame

-- a number that may be used
only_one : (keeps b : Bool) → keeps ≡ true → not keeps || not (not b || false) ≡ true → b ≡ true
only_one true true is go = refl
only_one true false is go = cc
only_one false b is go = cc

may_be_used : (k : Keeping) (frame : List ℕ) (row : TxRow) → k.keeps ≡ true → frame_fault frame ≡ None → (sending_of k.secy frame).by ≡ Some row →
    may_go k (client_frame frame) ≡ true → may_use k (row.key, row.next) ≡ true
may_be_used k frame row keeps fits by go =
    let uses : number_used k.secy (client_frame frame) ≡ (row.key, row.next) ∷ [] =
    ap (λ f. number_unless_fault f (sending_of k.secy frame).by) fits ∙ ap (λ b. number_unless_fault None b) by in
    only_one k.keeps (may_use k (row.key, row.next)) keeps (subst (λ (us : List UsedNumber). not k.keeps || not (list_any (λ u. not (may_use k u)) us) ≡ true) uses go)

new_use : Laws → (k : Keeping) (frame : List ℕ) (row : TxRow) (later : Keeping) → k.keeps ≡ true → IsSound k.secy → frame_fault frame ≡ None → (sending_of k.secy frame).by ≡ Some row →
    may_go k (client_frame frame) ≡ true →
    KeysStay (keeping_step k (endpoint_input (client_frame frame))).1.secy later.secy →
    ((name : List ℕ) → highest k.granted name ≤ highest later.granted name) →
    IsNewUse k (keeping_step k (endpoint_input (client_frame frame))).1 later (use_sent (tx_options k.secy) (the_key k.secy.keys row.key) row frame)
new_use laws k frame row later keeps sound fits by go stay grow =
    let s = k.secy in
    let key = the_key s.keys row.key in
    let after = (step s (client_frame frame)).1 in
    let it = laws.protects s frame row sound fits by in
    let same : (keeping_step k (endpoint_input (client_frame frame))).1.secy ≡ after =
    ap (λ (b : Bool). (if b then with_step k (step s (client_frame frame)) else (dropped_no_reservation, k)).1.secy) go in
    let noted : Contains (keeping_step k (endpoint_input (client_frame frame))).1.secy.keys (row_noting row.next key) =
    subst (λ (t : State). Contains t.keys (row_noting row.next key)) (sym same) it.noted in
    let then' = stay.keys (row_noting row.next key) noted in
    let tests = and_parts (nat_lt (highest k.before (key_name k.salt s.keys row.key)) row.next) (nat_le row.next (highest k.granted (key_name k.salt s.keys row.key)))
    (may_be_used k frame row keeps fits by go) in
    let config : later.secy.config ≡ s.config = stay.config ∙ ap (λ (t : State). t.config) same ∙ (laws.keys_stay s (client_frame frame) sound).config in
    let there : Contains s.keys key = ((laws.keys_apart s sound).found row.key it.there).there in
    record {
      is_use = record {
        number = row.next;
        key = then'.later;
        there = then'.there;
        bytes = sym then'.is_later.bytes;
        most = subst (λ (u : Suite). row.next ≤ last_of u) (sym then'.is_later.suite) it.most;
        iv = iv_again key.suite then'.later.suite s.config.sci later.secy.config.sci key.ssci then'.later.ssci key.salt then'.later.salt row.next
            then'.is_later.suite (ap (λ (c : EndConfig). c.sci) config) then'.is_later.ssci then'.is_later.salt;
        above = ltb-true (highest k.before (key_name k.salt s.keys row.key)) row.next tests.0;
        within = let now : row.next ≤ highest k.granted (key_name k.salt s.keys row.key) = leb-true row.next (highest k.granted (key_name k.salt s.keys row.key)) tests.1 in
            omega (arith, now, grow (key_name k.salt s.keys row.key));
        unused = λ old here bytes.
            let one : key ≡ old = (laws.keys_apart s sound).by_bytes key old there here bytes in
            subst (λ (o : InstalledKey). o.first_unused ≤ row.next) one it.unused;
      };
      key = row_noting row.next key;
      there = noted;
      bytes = refl;
      noted = omega arith;
    }

-- ---- every input

-- every use is a client frame's that the enabled SA protects
pub each_use : (P : KeepingInput → CipherUse → Type 0) (k : Keeping) →
    ((frame : List ℕ) (row : TxRow) → frame_fault frame ≡ None → (sending_of k.secy frame).by ≡ Some row → may_go k (client_frame frame) ≡ true →
    P (endpoint_input (client_frame frame)) (use_sent (tx_options k.secy) (the_key k.secy.keys row.key) row frame)) →
    (input : KeepingInput) → All (P input) (newly_sealed k input)
each_use P k holds (now_durable r) = All-nil (P (now_durable r))
each_use P k holds (endpoint_input (client_frame frame)) =
    by_tests (frame_fault frame) (sending_of k.secy frame).by (may_go k (client_frame frame)) refl refl refl
  where
    Q : CipherUse → Type 0
    Q = P (endpoint_input (client_frame frame))

    by_tests : (fault : Option FrameFault) (by : Option TxRow) (go : Bool) → frame_fault frame ≡ fault → (sending_of k.secy frame).by ≡ by → may_go k (client_frame frame) ≡ go →
        All Q (sealed_if go (sealed_by k.secy frame fault by))
    by_tests fault by false fits sent goes = All-nil Q
    by_tests (Some f) by true fits sent goes = All-nil Q
    by_tests None None true fits sent goes = All-nil Q
    by_tests None (Some row) true fits sent goes = All-cons Q (use_sent (tx_options k.secy) (the_key k.secy.keys row.key) row frame) [] (holds frame row fits sent goes) (All-nil Q)
each_use P k holds (endpoint_input input) = none_if (P (endpoint_input input)) (may_go k input)
  where
    none_if : (Q : CipherUse → Type 0) (go : Bool) → All Q (sealed_if go [])
    none_if Q true = All-nil Q
    none_if Q false = All-nil Q

-- what a step seals, up to a later moment of the run
pub new_uses : Laws → (k : Keeping) (input : KeepingInput) (later : Keeping) → k.keeps ≡ true → IsSound k.secy →
    KeysStay (keeping_step k input).1.secy later.secy → ((name : List ℕ) → highest k.granted name ≤ highest later.granted name) →
    All (IsNewUse k (keeping_step k input).1 later) (newly_sealed k input)
new_uses laws k input later keeps sound stay grow =
    let Stays : KeepingInput → Type 0 = λ i. KeysStay (keeping_step k i).1.secy later.secy in
    All-weaker (λ x. Stays input → IsNewUse k (keeping_step k input).1 later x) (IsNewUse k (keeping_step k input).1 later) (λ x it. it stay) (newly_sealed k input)
    (each_use (λ i x. Stays i → IsNewUse k (keeping_step k i).1 later x) k (λ frame row fits by go stays. new_use laws k frame row later keeps sound fits by go stays grow) input)
