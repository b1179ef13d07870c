-- A key that is retired and unused stays so.
use Rattle.macsec_secy.proofs.{
  Names.{[], ◌++◌, ◌==◌, ◌∙◌, ◌∷◌, ◌≡◌, accepted_number, ap, at_number, at_place, Bool, client_frame, Command},
  Names.{command_output, done, effect, eqb-true, false, frame_fault, FrameFault, holds_of, if◌then◌else◌, Input},
  Names.{InstalledKey, is_at, is_number_used, is_retired, is_some, judgement_of, Key, key_row, keys_after},
  Names.{keys_retiring, leaves, link_frame, List, map, new_row, next_used, None, not, off_at, operator_command, Option},
  Names.{option_map, or_from, or_parts, Output, Protect, received_output, refl, Refusal, refusal, refusals, Replay},
  Names.{Retire, retired_row, row_accepting, row_narrowed, row_noting, row_raised, row_switched, rows_accepting},
  Names.{rows_after, rx_sa_refusals, rx_uses, RxDel, RxLow, RxOff, RxOn, RxRow, RxSa, RxSc, RxScDel, same_sci, Sci},
  Names.{sending_of, sent_output, Some, State, state_after_receiving, state_after_sending, subst, suite_of, switch_to},
  Names.{sym, Tag, true, tx_sa_refusals, tx_uses, TxDel, TxOff, TxOn, TxRow, TxSa, uncontrolled_frame, unless_fault},
  Names.{unless_refused, used_at, Validate, with_bytes, with_rx, ℕ},
  AfterCommands.{none_hold, true_from_not},
  KeysKept.{field_kept, same_number},
  NoTwo.{none-filter, none-map, none-with},
  OtherOctets.row-map,
}
use Rattle.macsec_secy.specs.GivenUp.{GivesUp, IsGivenUp, StaysGivenUp, StaysReplaced}

-- a row that is there is retired
abbrev RowRetired : Option InstalledKey → Type 0
RowRetired o = holds_of (λ (row : InstalledKey). row.retired) o ≡ true

-- ---- the key stays retired

with_another : (keys : List InstalledKey) (new : InstalledKey) (n : ℕ) → is_retired keys n ≡ true → is_retired (keys ++ new ∷ []) n ≡ true
with_another [] new n retired = cc
with_another (row ∷ keys) new n retired = by_test (row.number == n) (with_another keys new n) retired
  where
    by_test : (b : Bool) → (is_retired keys n ≡ true → is_retired (keys ++ new ∷ []) n ≡ true) →
        RowRetired (if b then Some row else key_row keys n) → RowRetired (if b then Some row else key_row (keys ++ new ∷ []) n)
    by_test true later here = here
    by_test false later here = later here

-- a change of rows that leaves retired ones retired
changed : (f : InstalledKey → InstalledKey) → ((row : InstalledKey) → (f row).number ≡ row.number) → ((row : InstalledKey) → row.retired ≡ true → (f row).retired ≡ true) →
    (keys : List InstalledKey) (n : ℕ) → is_retired keys n ≡ true → is_retired (map f keys) n ≡ true
changed f number kept keys n retired = subst RowRetired (sym (row-map f number keys n)) (by_row (key_row keys n) retired)
  where
    by_row : (o : Option InstalledKey) → RowRetired o → RowRetired (option_map f o)
    by_row None here = cc
    by_row (Some row) here = kept row here

one_changed : (change : InstalledKey → InstalledKey) → ((row : InstalledKey) → (change row).number ≡ row.number) → ((row : InstalledKey) → row.retired ≡ true → (change row).retired ≡ true) →
    (keys : List InstalledKey) (k n : ℕ) → is_retired keys n ≡ true → is_retired (map (at_number change k) keys) n ≡ true
one_changed change number kept keys k n retired = changed (at_number change k) (same_number change number k) at keys n retired
  where
    at : (row : InstalledKey) → row.retired ≡ true → (at_number change k row).retired ≡ true
    at row here = by_test (row.number == k)
      where
        by_test : (b : Bool) → (if b then change row else row).retired ≡ true
        by_test true = kept row here
        by_test false = here

after_sending : (keys : List InstalledKey) (n : ℕ) (by : Option TxRow) → is_retired keys n ≡ true → is_retired (keys_after keys by) n ≡ true
after_sending keys n None retired = retired
after_sending keys n (Some row) retired = one_changed (row_noting row.next) (λ r. refl) (λ r here. here) keys row.key n retired

-- ---- no SA comes to use it

-- a key that is not retired is another one
not_this : (keys : List InstalledKey) (n key : ℕ) → is_retired keys n ≡ true → is_retired keys key ≡ false → (key == n) ≡ false
not_this keys n key retired free = by_test (key == n) refl
  where
    by_test : (b : Bool) → (key == n) ≡ b → b ≡ false
    by_test true same =
        let free' : is_retired keys n ≡ false = subst (λ m. is_retired keys m ≡ false) (eqb-true key n same) free in
        cc
    by_test false differs = refl

tx_changed : (f : TxRow → TxRow) → ((row : TxRow) → (f row).key ≡ row.key) → (rows : List TxRow) (n : ℕ) → tx_uses rows n ≡ false → tx_uses (map f rows) n ≡ false
tx_changed f key rows n none =
    none-map f (λ (row : TxRow). row.key == n) (λ (row : TxRow). row.key == n) (λ row differs. ap (λ k. k == n) (key row) ∙ differs) rows none

rx_changed : (f : RxRow → RxRow) → ((row : RxRow) → (f row).key ≡ row.key) → (rows : List RxRow) (n : ℕ) → rx_uses rows n ≡ false → rx_uses (map f rows) n ≡ false
rx_changed f key rows n none =
    none-map f (λ (row : RxRow). row.key == n) (λ (row : RxRow). row.key == n) (λ row differs. ap (λ k. k == n) (key row) ∙ differs) rows none

one_rx_changed : (f : RxRow → RxRow) → ((row : RxRow) → (f row).key ≡ row.key) → (sci : Sci) (an : ℕ) (rows : List RxRow) (n : ℕ) → rx_uses rows n ≡ false → rx_uses (with_rx f sci an rows) n ≡ false
one_rx_changed f key sci an rows n none =
    rx_changed (at_place f sci an) (λ row. field_kept (λ (r : RxRow). r.key) f key (is_at sci an row) row) rows n none

tx_after : (rows : List TxRow) (n : ℕ) (by : Option TxRow) → tx_uses rows n ≡ false → tx_uses (rows_after rows by) n ≡ false
tx_after rows n None none = none
tx_after rows n (Some by) none =
    tx_changed (used_at by.an) (λ row. field_kept (λ (r : TxRow). r.key) next_used (λ r. refl) (row.an == by.an) row) rows n none

rx_after : (window : ℕ) (number : Option ℕ) (row : Option RxRow) (rows : List RxRow) (n : ℕ) → rx_uses rows n ≡ false → rx_uses (rows_accepting window number row rows) n ≡ false
rx_after window None row rows n none = none
rx_after window (Some number) None rows n none = none
rx_after window (Some number) (Some row) rows n none = one_rx_changed (row_accepting window number) (λ r. refl) row.sci row.an rows n none

-- ---- every input

given_up : (after : State) (n : ℕ) → is_retired after.keys n ≡ true → tx_uses after.tx n ≡ false → rx_uses after.rx.rows n ≡ false → IsGivenUp after n
given_up after n retired tx rx = record { retired = retired; unused = or_from (tx_uses after.tx n) (rx_uses after.rx.rows n) tx rx }

effect_stays : (s : State) (n : ℕ) (c : Command) → is_retired s.keys n ≡ true → tx_uses s.tx n ≡ false → rx_uses s.rx.rows n ≡ false → refusal s c ≡ None → IsGivenUp (effect s c) n
effect_stays s n (Protect on) retired tx rx fits = given_up (effect s (Protect on)) n retired tx rx
effect_stays s n (Validate mode) retired tx rx fits = given_up (effect s (Validate mode)) n retired tx rx
effect_stays s n (Replay protect window) retired tx rx fits =
    given_up (effect s (Replay protect window)) n retired tx (rx_changed (row_narrowed window) (λ row. refl) s.rx.rows n rx)
effect_stays s n (Tag form) retired tx rx fits = given_up (effect s (Tag form)) n retired tx rx
effect_stays s n (Key key) retired tx rx fits =
    given_up (effect s (Key key)) n (with_another s.keys (new_row (suite_of s.config.suite key) key) n retired) tx rx
effect_stays s n (Retire key) retired tx rx fits =
    given_up (effect s (Retire key)) n (one_changed retired_row (λ row. refl) (λ row here. refl) s.keys key n retired) tx rx
effect_stays s n (TxSa an key next conf) retired tx rx fits =
    let none = none_hold (tx_sa_refusals s.keys s.tx an key next) fits in
    let new : TxRow = record { an = an; key = key; next = next; conf = conf; on = false } in
    given_up (effect s (TxSa an key next conf)) n retired
    (none-with (λ (row : TxRow). row.key == n) s.tx new tx (not_this s.keys n key retired none.1.0)) rx
effect_stays s n (TxOn an) retired tx rx fits = given_up (effect s (TxOn an)) n retired (tx_changed (switch_to an) (λ row. refl) s.tx n tx) rx
effect_stays s n (TxOff an) retired tx rx fits =
    given_up (effect s (TxOff an)) n retired
    (tx_changed (off_at an) (λ row. field_kept (λ (r : TxRow). r.key) off (λ r. refl) (row.an == an) row) s.tx n tx) rx
  where
    off : TxRow → TxRow
    off row = record row { on = false }
effect_stays s n (TxDel an) retired tx rx fits =
    given_up (effect s (TxDel an)) n retired (none-filter (λ (row : TxRow). row.key == n) (λ (row : TxRow). not (row.an == an)) s.tx tx) rx
effect_stays s n (RxSc sci) retired tx rx fits = given_up (effect s (RxSc sci)) n retired tx rx
effect_stays s n (RxScDel sci) retired tx rx fits =
    given_up (effect s (RxScDel sci)) n retired tx (none-filter (λ (row : RxRow). row.key == n) (λ (row : RxRow). not (same_sci row.sci sci)) s.rx.rows rx)
effect_stays s n (RxSa sci an key ssci lowest) retired tx rx fits =
    let none = none_hold (rx_sa_refusals s.keys s.rx sci an key ssci lowest) fits in
    let new : RxRow = record { sci = sci; an = an; key = key; ssci = ssci; next = lowest; lowest = lowest; on = false } in
    given_up (effect s (RxSa sci an key ssci lowest)) n retired tx
    (none-with (λ (row : RxRow). row.key == n) s.rx.rows new rx (not_this s.keys n key retired none.1.0))
effect_stays s n (RxOn sci an) retired tx rx fits =
    given_up (effect s (RxOn sci an)) n retired tx (one_rx_changed (row_switched true) (λ row. refl) sci an s.rx.rows n rx)
effect_stays s n (RxOff sci an) retired tx rx fits =
    given_up (effect s (RxOff sci an)) n retired tx (one_rx_changed (row_switched false) (λ row. refl) sci an s.rx.rows n rx)
effect_stays s n (RxLow sci an pn) retired tx rx fits =
    given_up (effect s (RxLow sci an pn)) n retired tx (one_rx_changed (row_raised pn) (λ row. refl) sci an s.rx.rows n rx)
effect_stays s n (RxDel sci an) retired tx rx fits =
    given_up (effect s (RxDel sci an)) n retired tx (none-filter (λ (row : RxRow). row.key == n) (λ (row : RxRow). not (is_at sci an row)) s.rx.rows rx)

command_stays : (s : State) (n : ℕ) (c : Command) (r : Option Refusal) → refusal s c ≡ r → IsGivenUp s n → IsGivenUp (unless_refused r s c) n
command_stays s n c None is up =
    let unused = or_parts (tx_uses s.tx n) (rx_uses s.rx.rows n) up.unused in
    effect_stays s n c up.retired unused.0 unused.1 is
command_stays s n c (Some r) is up = up

frame_stays : (s after : State) (n : ℕ) (output : Output) (fault : Option FrameFault) → IsGivenUp s n → IsGivenUp after n → IsGivenUp (unless_fault fault s (output, after)).1 n
frame_stays s after n output None before up = up
frame_stays s after n output (Some fault) before up = before

pub stays_given_up : (s : State) (n : ℕ) (input : Input) → StaysGivenUp s n input
stays_given_up s n (operator_command c) up = command_stays s n c (refusal s c) refl up
stays_given_up s n (client_frame frame) up =
    let unused = or_parts (tx_uses s.tx n) (rx_uses s.rx.rows n) up.unused in
    let sent = sending_of s frame in
    let after = state_after_sending s frame sent in
    frame_stays s after n (sent_output frame sent.leaving) (frame_fault frame) up
    (given_up after n (after_sending s.keys n sent.by up.retired) (tx_after s.tx n sent.by unused.0) unused.1)
stays_given_up s n (uncontrolled_frame frame) up = frame_stays s s n (leaves frame None) (frame_fault frame) up up
stays_given_up s n (link_frame frame) up =
    let unused = or_parts (tx_uses s.tx n) (rx_uses s.rx.rows n) up.unused in
    let j = judgement_of s frame in
    let after = state_after_receiving s frame j in
    frame_stays s after n (received_output frame j) (frame_fault frame) up
    (given_up after n up.retired unused.0 (rx_after s.options.window (accepted_number j) j.row s.rx.rows n unused.1))

-- ---- a key is retired

now_retired : (keys : List InstalledKey) (n : ℕ) → is_some (key_row keys n) ≡ true → is_retired (keys_retiring keys n) n ≡ true
now_retired [] n there = cc
now_retired (row ∷ keys) n there =
    subst (λ m. RowRetired (if m == n then Some (at_number retired_row n row) else key_row (keys_retiring keys n) n)) (sym (same_number retired_row (λ r. refl) n row))
    (by_test (row.number == n) (now_retired keys n) there)
  where
    by_test : (b : Bool) → (is_some (key_row keys n) ≡ true → is_retired (keys_retiring keys n) n ≡ true) → is_some (if b then Some row else key_row keys n) ≡ true →
        RowRetired (if b then Some (if b then retired_row row else row) else key_row (keys_retiring keys n) n)
    by_test true later here = refl
    by_test false later here = later here

retiring : (s : State) (n : ℕ) (r : Option Refusal) → refusal s (Retire n) ≡ r → command_output r ≡ done → IsGivenUp (unless_refused r s (Retire n)) n
retiring s n None is done' =
    let none = none_hold (refusals s (Retire n)) is in
    record { retired = now_retired s.keys n (true_from_not (is_number_used s.keys n) none.0); unused = none.1.1.0 }
retiring s n (Some r) is done' = cc

pub gives_up : (s : State) (n : ℕ) → GivesUp s n
gives_up s n = retiring s n (refusal s (Retire n)) refl

-- ---- the octets of a key are replaced

pub stays_replaced : (s : State) (m n : ℕ) (bytes : List ℕ) → StaysReplaced s m n bytes
stays_replaced s m n bytes up = record { retired = one_changed (with_bytes bytes) (λ row. refl) (λ row here. here) s.keys n m up.retired; unused = up.unused }
