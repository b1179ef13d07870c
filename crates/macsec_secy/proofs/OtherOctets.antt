-- With other octets in the row of a key that is retired and unused, each input has the same output.
use Rattle.macsec_suite.specs.{
  Keys.{has_wrong_length, has_wrong_offset},
  Refusals.is_outside,
  declared.refusal.Refusal.TheVariants.{KeyLength, Offset, KeyNumberUsed, KeyRepeated, KeyRetired, KeyInUse, AnTaken},
  declared.refusal.Refusal.TheVariants.{Exhausted, NoSa, NoSc, PnFloor, PnLower, PnRange, SsciOwn, Window},
}
use Rattle.macsec_tx.specs.Commands.{has_tx}
use Rattle.macsec_rx.specs.Judge.{judge_tagged_row}
use Rattle.macsec_secy.proofs.{
  Names.{[], ◌&&◌, ◌++◌, ◌+◌, ◌==◌, ◌||◌, ◌∙◌, ◌∷◌, ◌≡◌, ap, at_number, bad, Bool, client_frame, Command},
  Names.{command_output, count_leaving, count_protected, done, effect, eq-eqb, eqb-true, false, find, first_refusal},
  Names.{frame_fault, FrameFault, has_channel, has_rx, holds_of, if◌then◌else◌, in_use, Input, install_refusals},
  Names.{InstalledKey, is_at, is_below_lowest, is_extended, is_number_used, is_own_ssci, is_repeated, is_retired},
  Names.{is_some, is_too_wide, judge_number, judge_reading, Judgement, Key, key_row, keys_after, last_of, leaves},
  Names.{length, link_frame, List, list_any, map, map-append, MpduParts, nat_lt, new_row, NewKey, no_key, no_sa, NoKey},
  Names.{None, not, not_protected, number_of_frame, octets_added, operator_command, Option, option_map, or_parts},
  Names.{Output, plain, Protect, protected, protected_frame, Reading, reading, received_output, refl, Refusal, refusal},
  Names.{replacing, Replay, Reserved, Retire, retired_row, row_noting, row_on, rows_after, rx_options, rx_row, rx_uses},
  Names.{RxDel, RxLow, RxOff, RxOn, RxOptions, RxRow, RxSa, RxSc, RxScDel, Sci, sci_of, Sending, sending, sending_by},
  Names.{sent_output, Some, State, state_after_receiving, state_after_sending, subst, suite_of, sym, Tag, tag_sent},
  Names.{tagged, the_key, too_long, true, tx_options, tx_row, tx_uses, TxDel, TxOff, TxOn, TxOptions, TxRow, TxSa},
  Names.{uncontrolled_frame, unless_fault, unless_refused, untagged, unwrap_or, Validate, widest_extended_window},
  Names.{widest_short_window, with_bytes, with_key, without_row, ℕ},
  AfterCommands.none_hold,
  KeysKept.same_number,
}
use Rattle.macsec_secy.specs.{Commands.uses, GivenUp.{RepeatsAlike, StepsAlike, new_bytes}}

-- ---- the row of a number

-- after a change of the keys that keeps their numbers
pub row-map : (f : InstalledKey → InstalledKey) → ((row : InstalledKey) → (f row).number ≡ row.number) → (keys : List InstalledKey) (k : ℕ) →
    key_row (map f keys) k ≡ option_map f (key_row keys k)
row-map f number [] k = refl
row-map f number (row ∷ keys) k =
    subst (λ m. (if m == k then Some (f row) else key_row (map f keys) k) ≡ option_map f (key_row (row ∷ keys) k)) (sym (number row))
    (by_test (row.number == k) (row-map f number keys k))
  where
    by_test : (b : Bool) → key_row (map f keys) k ≡ option_map f (key_row keys k) →
        (if b then Some (f row) else key_row (map f keys) k) ≡ option_map f (if b then Some row else key_row keys k)
    by_test true later = refl
    by_test false later = later

-- what is computed from it, but for its octets, stays the same
same_by : {A : Type 0} (g : Option InstalledKey → A) (bytes : List ℕ) (n : ℕ) → ((row : InstalledKey) → g (Some (with_bytes bytes row)) ≡ g (Some row)) → (o : Option InstalledKey) →
    g (option_map (at_number (with_bytes bytes) n) o) ≡ g o
same_by g bytes n same None = refl
same_by g bytes n same (Some row) = by_test (row.number == n)
  where
    by_test : (b : Bool) → g (Some (if b then with_bytes bytes row else row)) ≡ g (Some row)
    by_test true = same row
    by_test false = refl

pub alike : {A : Type 0} (g : Option InstalledKey → A) (keys : List InstalledKey) (n : ℕ) (bytes : List ℕ) (k : ℕ) →
    ((row : InstalledKey) → g (Some (with_bytes bytes row)) ≡ g (Some row)) → g (key_row (with_key (with_bytes bytes) n keys) k) ≡ g (key_row keys k)
alike g keys n bytes k same =
    ap g (row-map (at_number (with_bytes bytes) n) (same_number (with_bytes bytes) (λ key. refl) n) keys k) ∙ same_by g bytes n same (key_row keys k)

-- the row of another number stays
pub other_row : (change : InstalledKey → InstalledKey) → ((row : InstalledKey) → (change row).number ≡ row.number) → (keys : List InstalledKey) (n k : ℕ) → (k == n) ≡ false →
    key_row (with_key change n keys) k ≡ key_row keys k
other_row change number [] n k differs = refl
other_row change number (row ∷ keys) n k differs =
    subst (λ m. (if m == k then Some (at_number change n row) else key_row (with_key change n keys) k) ≡ key_row (row ∷ keys) k)
    (sym (same_number change number n row))
    (by_tests (row.number == k) refl (row.number == n) refl (other_row change number keys n k differs))
  where
    by_tests : (b : Bool) → (row.number == k) ≡ b → (d : Bool) → (row.number == n) ≡ d → key_row (with_key change n keys) k ≡ key_row keys k →
        (if b then Some (if d then change row else row) else key_row (with_key change n keys) k) ≡ (if b then Some row else key_row keys k)
    by_tests true at_k true at_n later =
        let same : k ≡ n = sym (eqb-true row.number k at_k) ∙ eqb-true row.number n at_n in
        absurd (let no = sym (eq-eqb k n same) ∙ differs in cc)
    by_tests true at_k false at_n later = refl
    by_tests false at_k d at_n later = later

pub another : (keys : List InstalledKey) (n : ℕ) (bytes : List ℕ) (k : ℕ) → (k == n) ≡ false → key_row (with_key (with_bytes bytes) n keys) k ≡ key_row keys k
another keys n bytes k differs = other_row (with_bytes bytes) (λ row. refl) keys n k differs

-- ---- the keys

pub widest-alike : (keys : List InstalledKey) (n : ℕ) (bytes : List ℕ) → list_any is_extended (with_key (with_bytes bytes) n keys) ≡ list_any is_extended keys
widest-alike [] n bytes = refl
widest-alike (row ∷ keys) n bytes = by_test (row.number == n) (widest-alike keys n bytes)
  where
    by_test : (b : Bool) → list_any is_extended (with_key (with_bytes bytes) n keys) ≡ list_any is_extended keys →
        list_any is_extended ((if b then with_bytes bytes row else row) ∷ with_key (with_bytes bytes) n keys) ≡ list_any is_extended (row ∷ keys)
    by_test true later = ap (λ b. is_extended row || b) later
    by_test false later = ap (λ b. is_extended row || b) later

commute : (f g : InstalledKey → InstalledKey) → ((row : InstalledKey) → g (f row) ≡ f (g row)) → (keys : List InstalledKey) → map g (map f keys) ≡ map f (map g keys)
commute f g swap [] = refl
commute f g swap (row ∷ keys) = ap (λ r. r ∷ map g (map f keys)) (swap row) ∙ ap (λ rs. f (g row) ∷ rs) (commute f g swap keys)

-- a change of one key that keeps its number and its octets, and the replacement of the octets of one
swapped : (change : InstalledKey → InstalledKey) → ((row : InstalledKey) → (change row).number ≡ row.number) → (n k : ℕ) (bytes : List ℕ) →
    ((row : InstalledKey) → change (with_bytes bytes row) ≡ with_bytes bytes (change row)) → (row : InstalledKey) →
    at_number change k (at_number (with_bytes bytes) n row) ≡ at_number (with_bytes bytes) n (at_number change k row)
swapped change number n k bytes swap row = by_tests (row.number == n) refl (row.number == k) refl
  where
    by_tests : (b : Bool) → (row.number == n) ≡ b → (d : Bool) → (row.number == k) ≡ d →
        at_number change k (if b then with_bytes bytes row else row) ≡ at_number (with_bytes bytes) n (if d then change row else row)
    by_tests true at_n true at_k =
        ap (λ t. if t then change (with_bytes bytes row) else with_bytes bytes row) at_k ∙ swap row
        ∙ sym (ap (λ m. if m == n then with_bytes bytes (change row) else change row) (number row) ∙ ap (λ t. if t then with_bytes bytes (change row) else change row) at_n)
    by_tests true at_n false at_k =
        ap (λ t. if t then change (with_bytes bytes row) else with_bytes bytes row) at_k ∙ sym (ap (λ t. if t then with_bytes bytes row else row) at_n)
    by_tests false at_n true at_k =
        ap (λ t. if t then change row else row) at_k
        ∙ sym (ap (λ m. if m == n then with_bytes bytes (change row) else change row) (number row) ∙ ap (λ t. if t then with_bytes bytes (change row) else change row) at_n)
    by_tests false at_n false at_k =
        ap (λ t. if t then change row else row) at_k ∙ sym (ap (λ t. if t then with_bytes bytes row else row) at_n)

-- ---- why a command is refused

exhausted-alike : (keys : List InstalledKey) (n : ℕ) (bytes : List ℕ) (o : Option TxRow) →
    holds_of (λ (row : TxRow). nat_lt (last_of (the_key (with_key (with_bytes bytes) n keys) row.key).suite) row.next) o
    ≡ holds_of (λ (row : TxRow). nat_lt (last_of (the_key keys row.key).suite) row.next) o
exhausted-alike keys n bytes None = refl
exhausted-alike keys n bytes (Some row) =
    alike (λ (o : Option InstalledKey). nat_lt (last_of (unwrap_or o no_key).suite) row.next) keys n bytes row.key (λ r. refl)

outside-alike : (keys : List InstalledKey) (n : ℕ) (bytes : List ℕ) (pn : ℕ) (o : Option RxRow) →
    holds_of (λ (row : RxRow). is_outside (last_of (the_key (with_key (with_bytes bytes) n keys) row.key).suite) pn) o
    ≡ holds_of (λ (row : RxRow). is_outside (last_of (the_key keys row.key).suite) pn) o
outside-alike keys n bytes pn None = refl
outside-alike keys n bytes pn (Some row) =
    alike (λ (o : Option InstalledKey). is_outside (last_of (unwrap_or o no_key).suite) pn) keys n bytes row.key (λ r. refl)

install-alike : (s : State) (n : ℕ) (bytes : List ℕ) (key : NewKey) → is_repeated (replacing n bytes s).keys (new_bytes key) ≡ is_repeated s.keys (new_bytes key) →
    refusal (replacing n bytes s) (Key key) ≡ refusal s (Key key)
install-alike s n bytes key repeats =
    ap (λ b. first_refusal (lines b (is_repeated (replacing n bytes s).keys (new_bytes key)))) (alike (λ (o : Option InstalledKey). is_some o) s.keys n bytes key.number (λ row. refl))
    ∙ ap (λ b. first_refusal (lines (is_number_used s.keys key.number) b)) repeats
  where
    lines : Bool → Bool → List (Refusal × Bool)
    lines used repeated =
        let suite = suite_of s.config.suite key in
        (KeyLength, has_wrong_length suite key.bytes) ∷
        (Offset, has_wrong_offset suite key.offset) ∷
        (KeyNumberUsed, used) ∷
        (KeyRepeated, repeated) ∷
        (Window, is_too_wide suite s.options.window) ∷ []

refusal-alike : (s : State) (n : ℕ) (bytes : List ℕ) (c : Command) → RepeatsAlike (replacing n bytes s) s (operator_command c) → refusal (replacing n bytes s) c ≡ refusal s c
refusal-alike s n bytes (Protect on) repeats = refl
refusal-alike s n bytes (Validate mode) repeats = refl
refusal-alike s n bytes (Replay protect window) repeats =
    ap (λ b. first_refusal ((Window, nat_lt (if b then widest_extended_window else widest_short_window) window) ∷ [])) (widest-alike s.keys n bytes)
refusal-alike s n bytes (Tag form) repeats = refl
refusal-alike s n bytes (Key key) repeats = install-alike s n bytes key repeats
refusal-alike s n bytes (Retire key) repeats =
    alike (λ (o : Option InstalledKey). first_refusal (
    (NoKey, not (is_some o)) ∷ (KeyRetired, holds_of (λ (row : InstalledKey). row.retired) o) ∷ (KeyInUse, uses s key) ∷ [])) s.keys n bytes key (λ row. refl)
refusal-alike s n bytes (TxSa an key next conf) repeats =
    alike (λ (o : Option InstalledKey). first_refusal (
    (NoKey, not (is_some o)) ∷ (KeyRetired, holds_of (λ (row : InstalledKey). row.retired) o) ∷ (KeyInUse, tx_uses s.tx key) ∷ (AnTaken, has_tx s.tx an) ∷
    (PnRange, is_outside (last_of (unwrap_or o no_key).suite) next) ∷ (PnFloor, nat_lt next (unwrap_or o no_key).first_unused) ∷ [])) s.keys n bytes key (λ row. refl)
refusal-alike s n bytes (TxOn an) repeats =
    ap (λ b. first_refusal ((NoSa, not (has_tx s.tx an)) ∷ (Exhausted, b) ∷ [])) (exhausted-alike s.keys n bytes (tx_row s.tx an))
refusal-alike s n bytes (TxOff an) repeats = refl
refusal-alike s n bytes (TxDel an) repeats = refl
refusal-alike s n bytes (RxSc sci) repeats = refl
refusal-alike s n bytes (RxScDel sci) repeats = refl
refusal-alike s n bytes (RxSa sci an key ssci lowest) repeats =
    alike (λ (o : Option InstalledKey). first_refusal (
    (NoKey, not (is_some o)) ∷ (KeyRetired, holds_of (λ (row : InstalledKey). row.retired) o) ∷ (NoSc, not (has_channel s.rx.scis sci)) ∷ (AnTaken, has_rx s.rx.rows sci an) ∷
    (PnRange, is_outside (last_of (unwrap_or o no_key).suite) lowest) ∷ (SsciOwn, is_own_ssci (unwrap_or o no_key) ssci) ∷ [])) s.keys n bytes key (λ row. refl)
refusal-alike s n bytes (RxOn sci an) repeats = refl
refusal-alike s n bytes (RxOff sci an) repeats = refl
refusal-alike s n bytes (RxLow sci an pn) repeats =
    ap (λ b. first_refusal (
    (NoSc, not (has_channel s.rx.scis sci)) ∷ (NoSa, not (has_rx s.rx.rows sci an)) ∷ (PnRange, b) ∷ (PnLower, is_below_lowest s.rx.rows sci an pn) ∷ []))
    (outside-alike s.keys n bytes pn (rx_row s.rx.rows sci an))
refusal-alike s n bytes (RxDel sci an) repeats = refl

-- ---- what a command does

there_if_retired : (o : Option InstalledKey) → holds_of (λ (row : InstalledKey). row.retired) o ≡ true → is_some o ≡ true
there_if_retired None retired = cc
there_if_retired (Some row) retired = refl

-- a new key has another number
new-alike : (s : State) (n : ℕ) (bytes : List ℕ) (key : NewKey) → is_retired s.keys n ≡ true → refusal s (Key key) ≡ None →
    at_number (with_bytes bytes) n (new_row (suite_of s.config.suite key) key) ≡ new_row (suite_of s.config.suite key) key
new-alike s n bytes key retired fits = by_test (key.number == n) refl
  where
    new : InstalledKey
    new = new_row (suite_of s.config.suite key) key

    by_test : (b : Bool) → (key.number == n) ≡ b → (if b then with_bytes bytes new else new) ≡ new
    by_test true same =
        let none = none_hold (install_refusals (suite_of s.config.suite key) s.options.window s.keys key) fits in
        let there : is_some (key_row s.keys n) ≡ true = there_if_retired (key_row s.keys n) retired in
        let free : is_some (key_row s.keys n) ≡ false = subst (λ m. is_some (key_row s.keys m) ≡ false) (eqb-true key.number n same) none.1.1.0 in
        absurd (let no = sym there ∙ free in cc)
    by_test false differs = refl

effect-alike : (s : State) (n : ℕ) (bytes : List ℕ) (c : Command) → is_retired s.keys n ≡ true → refusal s c ≡ None → effect (replacing n bytes s) c ≡ replacing n bytes (effect s c)
effect-alike s n bytes (Protect on) retired fits = refl
effect-alike s n bytes (Validate mode) retired fits = refl
effect-alike s n bytes (Replay protect window) retired fits = refl
effect-alike s n bytes (Tag form) retired fits = refl
effect-alike s n bytes (Key key) retired fits =
    let new = new_row (suite_of s.config.suite key) key in
    let f = at_number (with_bytes bytes) n in
    ap {B = State} (λ keys. record s { keys = keys })
    (sym (map-append f s.keys (new ∷ []) ∙ ap (λ r. map f s.keys ++ r ∷ []) (new-alike s n bytes key retired fits)))
effect-alike s n bytes (Retire key) retired fits =
    ap {B = State} (λ keys. record s { keys = keys })
    (commute (at_number (with_bytes bytes) n) (at_number retired_row key) (swapped retired_row (λ row. refl) n key bytes (λ row. refl)) s.keys)
effect-alike s n bytes (TxSa an key next conf) retired fits = refl
effect-alike s n bytes (TxOn an) retired fits = refl
effect-alike s n bytes (TxOff an) retired fits = refl
effect-alike s n bytes (TxDel an) retired fits = refl
effect-alike s n bytes (RxSc sci) retired fits = refl
effect-alike s n bytes (RxScDel sci) retired fits = refl
effect-alike s n bytes (RxSa sci an key ssci lowest) retired fits = refl
effect-alike s n bytes (RxOn sci an) retired fits = refl
effect-alike s n bytes (RxOff sci an) retired fits = refl
effect-alike s n bytes (RxLow sci an pn) retired fits = refl
effect-alike s n bytes (RxDel sci an) retired fits = refl

abbrev answer : Output → State → Output × State
answer output after = (output, after)

command-alike : (s : State) (n : ℕ) (bytes : List ℕ) (c : Command) (r : Option Refusal) → (r ≡ None → effect (replacing n bytes s) c ≡ replacing n bytes (effect s c)) →
    answer (command_output r) (unless_refused r (replacing n bytes s) c) ≡ answer (command_output r) (replacing n bytes (unless_refused r s c))
command-alike s n bytes c None does = ap (answer done) (does refl)
command-alike s n bytes c (Some r) does = refl

-- ---- client frames

-- what is found among the SAs uses another key
pub found_unused : {A : Type 0} (p q : A → Bool) (xs : List A) (x : A) → list_any p xs ≡ false → find q xs ≡ Some x → p x ≡ false
found_unused p q [] x none is = cc
found_unused p q (y ∷ ys) x none is =
    let parts = or_parts (p y) (list_any p ys) none in
    by_test (q y) parts.0 (found_unused p q ys x parts.1) is
  where
    by_test : (b : Bool) → p y ≡ false → (find q ys ≡ Some x → p x ≡ false) → (if b then Some y else find q ys) ≡ Some x → p x ≡ false
    by_test true first later is' = let it : y ≡ x = cc in subst (λ z. p z ≡ false) it first
    by_test false first later is' = later is'

abbrev sent_by : TxOptions → List ℕ → TxRow → InstalledKey → Sending
sent_by options frame row key =
    if nat_lt (last_of key.suite) row.next then not_protected no_sa
    else if nat_lt options.max_frame (length frame + octets_added (tag_sent options row frame)) then not_protected too_long
    else record { leaving = protected row.key (protected_frame options key row frame); by = Some row }

by_row-alike : (options : TxOptions) (keys : List InstalledKey) (n : ℕ) (bytes frame : List ℕ) (o : Option TxRow) → ((row : TxRow) → o ≡ Some row → (row.key == n) ≡ false) →
    sending_by options (with_key (with_bytes bytes) n keys) frame o ≡ sending_by options keys frame o
by_row-alike options keys n bytes frame None differs = refl
by_row-alike options keys n bytes frame (Some row) differs =
    ap (λ (o : Option InstalledKey). sent_by options frame row (unwrap_or o no_key)) (another keys n bytes row.key (differs row refl))

pub sending-alike : (options : TxOptions) (keys : List InstalledKey) (n : ℕ) (bytes : List ℕ) (rows : List TxRow) (frame : List ℕ) → tx_uses rows n ≡ false →
    sending options (with_key (with_bytes bytes) n keys) rows frame ≡ sending options keys rows frame
sending-alike options keys n bytes rows frame unused =
    ap (λ (sent : Sending). if options.protect then sent else not_protected (if nat_lt options.max_frame (length frame) then too_long else plain))
    (by_row-alike options keys n bytes frame (row_on rows) (λ row is. found_unused (λ (r : TxRow). r.key == n) (λ (r : TxRow). r.on) rows row unused is))

noting-alike : (keys : List InstalledKey) (n : ℕ) (bytes : List ℕ) (by : Option TxRow) →
    keys_after (with_key (with_bytes bytes) n keys) by ≡ with_key (with_bytes bytes) n (keys_after keys by)
noting-alike keys n bytes None = refl
noting-alike keys n bytes (Some row) =
    commute (at_number (with_bytes bytes) n) (at_number (row_noting row.next) row.key) (swapped (row_noting row.next) (λ r. refl) n row.key bytes (λ r. refl)) keys

after_sending-alike : (s : State) (n : ℕ) (bytes frame : List ℕ) (sent : Sending) →
    state_after_sending (replacing n bytes s) frame sent ≡ replacing n bytes (state_after_sending s frame sent)
after_sending-alike s n bytes frame sent =
    ap {B = State} (λ keys. record s {
      tx = rows_after s.tx sent.by;
      keys = keys;
      counters = count_leaving sent.leaving s.counters;
      tx_counters = count_protected sent.by frame s.tx_counters;
    }) (noting-alike s.keys n bytes sent.by)

-- ---- link frames

abbrev judged_by : RxOptions → MpduParts → RxRow → InstalledKey → Judgement
judged_by options p row key =
    if p.tag.e && not p.tag.c then without_row 4 Reserved None
    else judge_number options key row p (number_of_frame key.suite row.lowest p.tag.pn)

judged_row-alike : (options : RxOptions) (keys : List InstalledKey) (n : ℕ) (bytes : List ℕ) (p : MpduParts) (o : Option RxRow) → ((row : RxRow) → o ≡ Some row → (row.key == n) ≡ false) →
    judge_tagged_row options (with_key (with_bytes bytes) n keys) p o ≡ judge_tagged_row options keys p o
judged_row-alike options keys n bytes p None differs = refl
judged_row-alike options keys n bytes p (Some row) differs =
    ap (λ (o : Option InstalledKey). judged_by options p row (unwrap_or o no_key)) (another keys n bytes row.key (differs row refl))

in_use_unused : (rows : List RxRow) (n an : ℕ) (o : Option Sci) (row : RxRow) → rx_uses rows n ≡ false → in_use rows an o ≡ Some row → (row.key == n) ≡ false
in_use_unused rows n an None row unused is = cc
in_use_unused rows n an (Some sci) row unused is = found_unused (λ (r : RxRow). r.key == n) (λ (r : RxRow). is_at sci an r && r.on) rows row unused is

judged-alike : (s : State) (n : ℕ) (bytes frame : List ℕ) (r : Reading) → rx_uses s.rx.rows n ≡ false → judge_reading (replacing n bytes s) frame r ≡ judge_reading s frame r
judged-alike s n bytes frame untagged unused = refl
judged-alike s n bytes frame (bad fault) unused = refl
judged-alike s n bytes frame (tagged p) unused =
    judged_row-alike (rx_options s) s.keys n bytes p (in_use s.rx.rows p.tag.an (sci_of s.rx.scis p))
    (λ row is. in_use_unused s.rx.rows n p.tag.an (sci_of s.rx.scis p) row unused is)

-- ---- every input

frame-alike : (s after replaced : State) (n : ℕ) (bytes : List ℕ) (output : Output) (fault : Option FrameFault) → replaced ≡ replacing n bytes after →
    unless_fault fault (replacing n bytes s) (output, replaced) ≡ ((unless_fault fault s (output, after)).0, replacing n bytes (unless_fault fault s (output, after)).1)
frame-alike s after replaced n bytes output None is = ap (answer output) is
frame-alike s after replaced n bytes output (Some fault) is = refl

pub steps_alike : (s : State) (n : ℕ) (bytes : List ℕ) (input : Input) → StepsAlike s n bytes input
steps_alike s n bytes (operator_command c) up repeats =
    ap (λ (r : Option Refusal). answer (command_output r) (unless_refused r (replacing n bytes s) c)) (refusal-alike s n bytes c repeats)
    ∙ command-alike s n bytes c (refusal s c) (effect-alike s n bytes c up.retired)
steps_alike s n bytes (client_frame frame) up repeats =
    let unused = or_parts (tx_uses s.tx n) (rx_uses s.rx.rows n) up.unused in
    let sent = sending (tx_options s) s.keys s.tx frame in
    ap (λ (t : Sending). unless_fault (frame_fault frame) (replacing n bytes s) (sent_output frame t.leaving, state_after_sending (replacing n bytes s) frame t))
    (sending-alike (tx_options s) s.keys n bytes s.tx frame unused.0)
    ∙ frame-alike s (state_after_sending s frame sent) (state_after_sending (replacing n bytes s) frame sent) n bytes (sent_output frame sent.leaving) (frame_fault frame)
    (after_sending-alike s n bytes frame sent)
steps_alike s n bytes (uncontrolled_frame frame) up repeats =
    frame-alike s s (replacing n bytes s) n bytes (leaves frame None) (frame_fault frame) refl
steps_alike s n bytes (link_frame frame) up repeats =
    let unused = or_parts (tx_uses s.tx n) (rx_uses s.rx.rows n) up.unused in
    let j = judge_reading s frame (reading frame) in
    ap (λ (t : Judgement). unless_fault (frame_fault frame) (replacing n bytes s) (received_output frame t, state_after_receiving (replacing n bytes s) frame t))
    (judged-alike s n bytes frame (reading frame) unused.1)
    ∙ frame-alike s (state_after_receiving s frame j) (state_after_receiving (replacing n bytes s) frame j) n bytes (received_output frame j) (frame_fault frame) refl
