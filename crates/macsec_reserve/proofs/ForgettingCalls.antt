-- What the calls that forget a key leave.
use Rattle.{
  macsec_aes.specs.declared.Key.{Key as KeyOctets},
  macsec_suite.specs.Keys.PreparedKey,
  macsec_secy.specs.GivenUp.state_after_replacing,
  macsec_reserve.proofs.{
    Prelude.{[], ◌&&◌, ◌==◌, ◌∙◌, ◌∷◌, ◌≡◌, ap, AreKeyRows, as_taken, Bool, can_forget, can_replace, Command, done},
    Prelude.{endpoint_input, endpoint_output, false, fingerprint_of, for_each_key, forgetting, forgetting_step},
    Prelude.{has_retired, HasNames, if◌then◌else◌, InstalledKey, is_done, Keeping, keeping_step, key_bytes, key_length},
    Prelude.{key_name, key_of_fingerprint, key_row, length, List, map, named, NamedKey, NewKey, no_key, None},
    Prelude.{operator_command, Option, option_map, prepared_key, refl, renamed, replacing, Retire, sending_name, Some},
    Prelude.{State, subst, sym, take, true, unwrap_or, with_bytes, with_key, ℕ},
    KnownKeys.bytes_of_fingerprint,
  },
}

-- ---- names

renamed_rows : (salt : List ℕ) (n : ℕ) (bytes : List ℕ) (change : InstalledKey → InstalledKey) →
    ((row : InstalledKey) → named salt (change row) ≡ record (named salt row) { name = sending_name salt bytes }) → (keys : List InstalledKey) →
    map (named salt) (with_key change n keys) ≡ map (renamed n (sending_name salt bytes)) (map (named salt) keys)
renamed_rows salt n bytes change has [] = refl
renamed_rows salt n bytes change has (row ∷ rows) =
    ap (λ (x : NamedKey). x ∷ map (named salt) (with_key change n rows)) (by_number (row.number == n))
    ∙ ap (λ (xs : List NamedKey). renamed n (sending_name salt bytes) (named salt row) ∷ xs) (renamed_rows salt n bytes change has rows)
  where
    by_number : (b : Bool) → named salt (if b then change row else row) ≡ (if b then record (named salt row) { name = sending_name salt bytes } else named salt row)
    by_number true = has row
    by_number false = refl

-- after a key gets other octets, the keys have these names
pub names_changed : (salt : List ℕ) (n : ℕ) (bytes : List ℕ) (change : InstalledKey → InstalledKey) →
    ((row : InstalledKey) → named salt (change row) ≡ record (named salt row) { name = sending_name salt bytes }) → (keys : List InstalledKey) (names : List NamedKey) →
    HasNames salt keys names → HasNames salt (with_key change n keys) (map (renamed n (sending_name salt bytes)) names)
names_changed salt n bytes change has keys names are =
    renamed_rows salt n bytes change has keys ∙ ap (λ (ns : List NamedKey). map (renamed n (sending_name salt bytes)) ns) are

-- ---- the fingerprint of a key

long_row : (keys : List InstalledKey) (n : ℕ) (row : InstalledKey) → AreKeyRows keys → key_row keys n ≡ Some row → length row.bytes ≡ key_length row.suite
long_row [] n row are is = cc
long_row (k ∷ keys) n row are is = by_test (k.number == n) (long_row keys n row are.2) is
  where
    by_test : (b : Bool) → (key_row keys n ≡ Some row → length row.bytes ≡ key_length row.suite) → (if b then Some k else key_row keys n) ≡ Some row → length row.bytes ≡ key_length row.suite
    by_test true later here = let one : k ≡ row = cc in subst (λ (x : InstalledKey). length x.bytes ≡ key_length x.suite) one are.0.bytes
    by_test false later here = later here

-- the first octets of the name of a prepared key
pub its_fingerprint : (k : Keeping) (n : ℕ) (p : PreparedKey) → AreKeyRows k.secy.keys → option_map prepared_key (key_row k.secy.keys n) ≡ Some p →
    take (key_length p.suite) (key_name k.salt k.secy.keys n) ≡ fingerprint_of k n
its_fingerprint k n p are is = by_row (key_row k.secy.keys n) refl is
  where
    by_row : (o : Option InstalledKey) → key_row k.secy.keys n ≡ o → option_map prepared_key o ≡ Some p →
        take (key_length p.suite) (sending_name k.salt (unwrap_or o no_key).bytes) ≡ take (length (unwrap_or o no_key).bytes) (sending_name k.salt (unwrap_or o no_key).bytes)
    by_row None found is' = cc
    by_row (Some row) found is' =
        let one : prepared_key row ≡ p = cc in
        ap (λ m. take m (sending_name k.salt row.bytes)) (ap (λ (q : PreparedKey). key_length q.suite) (sym one) ∙ sym (long_row k.secy.keys n row are found))

-- ---- a key is forgotten

pub is_forgetting : (k : Keeping) (n : ℕ) (octets : List ℕ) → octets ≡ fingerprint_of k n → can_replace k.secy.keys n octets ≡ true →
    record k { secy = replacing n octets k.secy; granted = for_each_key k.salt k.granted k.secy.keys } ≡ (if can_forget k n then forgetting k n else k)
is_forgetting k n octets are can =
    ap (λ (bytes : List ℕ). record k { secy = replacing n bytes k.secy; granted = for_each_key k.salt k.granted k.secy.keys }) are
    ∙ sym (ap (λ (b : Bool). if b then forgetting k n else k) (ap (λ (bytes : List ℕ). can_replace k.secy.keys n bytes) (sym are) ∙ can))

pub replaced_if : (s : State) (n : ℕ) (octets : List ℕ) (b : Bool) → can_replace s.keys n octets ≡ b → state_after_replacing n octets s ≡ (if b then replacing n octets s else s)
replaced_if s n octets b is = ap (λ (c : Bool). if c then replacing n octets s else s) is

-- ---- the calls

pub taken_if : (k : Keeping) (key : NewKey) (bytes : KeyOctets) (s : State) (r b : Bool) → bytes ≡ key_of_fingerprint k.salt key.bytes → s ≡ k.secy →
    r ≡ has_retired s.keys (key_bytes bytes) → r ≡ b → (if b then record key { bytes = bytes } else key) ≡ as_taken k key
taken_if k key bytes s r b is_bytes is_secy test is =
    ap (λ (octets : KeyOctets). if b then record key { bytes = octets } else key) is_bytes
    ∙ ap (λ (t : Bool). if t then record key { bytes = key_of_fingerprint k.salt key.bytes } else key)
    (sym is ∙ test ∙ ap (λ (t : State). has_retired t.keys (key_bytes bytes)) is_secy
    ∙ ap (has_retired k.secy.keys) (ap key_bytes is_bytes ∙ bytes_of_fingerprint k.salt key.bytes))

pub forgets_then : (k : Keeping) (c : Command) (n : ℕ) (after new : Keeping) → c ≡ Retire n → endpoint_output done ≡ (keeping_step k (endpoint_input (operator_command c))).0 →
    after ≡ (keeping_step k (endpoint_input (operator_command c))).1 → new ≡ (if can_forget after n then forgetting after n else after) →
    new ≡ (forgetting_step k (endpoint_input (operator_command c))).1
forgets_then k c n after new is_retire output is_after is_new =
    let own = keeping_step k (endpoint_input (operator_command (Retire n))) in
    let output' : endpoint_output done ≡ own.0 = output ∙ ap (λ (d : Command). (keeping_step k (endpoint_input (operator_command d))).0) is_retire in
    let after' : after ≡ own.1 = is_after ∙ ap (λ (d : Command). (keeping_step k (endpoint_input (operator_command d))).1) is_retire in
    is_new
    ∙ ap (λ (x : Keeping). if can_forget x n then forgetting x n else x) after'
    ∙ ap (λ (b : Bool). if b && can_forget own.1 n then forgetting own.1 n else own.1) (ap is_done output')
    ∙ ap (λ (d : Command). (forgetting_step k (endpoint_input (operator_command d))).1) (sym is_retire)
