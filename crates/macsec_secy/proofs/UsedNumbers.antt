-- Under each key, packet numbers rise in the order of their use: each is at least the key's first unused one, which
-- then becomes greater than it. So none is used twice.
use Rattle.std.proofs.{Common.AllPairs, lemmas.{Bool.cases_eq, List.Kept.AllPairs-cons}}
use Rattle.macsec_secy.{
  proofs.{
    Names.{[], ◌++◌, ◌+◌, ◌<◌, ◌∷◌, ◌≡◌, ◌≢◌, ◌≤◌, ◌⊎◌, All, All-cons, All-nil, All-weaker, ap, arith, Bool},
    Names.{client_frame, Command, effect, EndConfig, false, first_unused, frame_fault, FrameFault, HasUnusedNext},
    Names.{HaveUnusedNext, if◌then◌else◌, inl, Input, inr, InstalledKey, judgement_of, keys_after, keys_noting},
    Names.{last_of, leaves, Leaving, length, link_frame, List, nat_lt, no_sa, None, not_protected, octets_added},
    Names.{operator_command, Option, Output, received_output, refl, Refusal, refusal, row_on, rows_after, Sending},
    Names.{sending, sending_by, sending_of, sent_output, Some, start, State, state_after_receiving},
    Names.{state_after_sending, step, subst, sym, tag_sent, the_key, too_long, true, tx_options, TxOptions, TxRow},
    Names.{uncontrolled_frame, unless_fault, unless_refused, ℕ},
    AfterCommands.{effect_keeps, effect_stays},
    FirstUnused.{first-noting, first-noting_other},
    UnusedNext.{after_frame, on_unused},
  },
  specs.Laws.{RisesUnderOneKey, UsedNumber, UsesNoNumberTwice, UsesRisingNumbers, number_of_row, number_unless_fault},
  specs.Laws.{number_used, numbers_used},
}

-- each packet number is at least its key's first unused one, and they rise under each key
record AreNew (keys : List InstalledKey) (used : List UsedNumber) : Type 0 where
  late : All (λ u. first_unused keys u.0 ≤ u.1) used
  rising : AllPairs RisesUnderOneKey used

-- when the keys become `keys_then` and the SAs `rows_then`: the packet numbers used on the way are new, also together
-- with those used later
record Goes (keys : List InstalledKey) (keys_then : List InstalledKey) (rows_then : List TxRow) (used : List UsedNumber) : Type 0 where
  keeps : HaveUnusedNext keys_then rows_then
  adds : (later : List UsedNumber) → AreNew keys_then later → AreNew keys (used ++ later)

before : (keys keys_then : List InstalledKey) → ((n : ℕ) → first_unused keys n ≤ first_unused keys_then n) → (used : List UsedNumber) → AreNew keys_then used → AreNew keys used
before keys keys_then grows used new = record {
  late = All-weaker (λ u. first_unused keys_then u.0 ≤ u.1) (λ u. first_unused keys u.0 ≤ u.1) (λ u h. omega (arith, grows u.0, h)) used new.late;
  rising = new.rising;
}

-- ---- commands

command_goes : (s : State) (c : Command) → HaveUnusedNext s.keys s.tx → (r : Option Refusal) → refusal s c ≡ r →
    Goes s.keys (unless_refused r s c).keys (unless_refused r s c).tx []
command_goes s c have None e = record {
  keeps = effect_keeps s c e have;
  adds = before s.keys (effect s c).keys (λ n. omega (arith, effect_stays s c n));
}
command_goes s c have (Some r) e = record { keeps = have; adds = λ later new. new }

-- ---- frames

-- when a packet number is used, its key's first unused one grows, and every other key's stays
noting_grows : (keys : List InstalledKey) (row : TxRow) → HasUnusedNext keys row → (n : ℕ) → first_unused keys n ≤ first_unused (keys_noting keys row.key row.next) n
noting_grows keys row unused n = by_key (cases_eq row.key n)
  where
    by_key : (row.key ≡ n) ⊎ (row.key ≡ n → ⊥) → first_unused keys n ≤ first_unused (keys_noting keys row.key row.next) n
    by_key (inl same) = subst (λ m. first_unused keys m ≤ first_unused (keys_noting keys row.key row.next) m) same
        (omega (arith, unused.next, first-noting keys row.key row.next unused.there))
    by_key (inr other) = omega (arith, first-noting_other keys row.key row.next n other)

row_adds : (keys : List InstalledKey) (row : TxRow) → HasUnusedNext keys row → (later : List UsedNumber) →
    AreNew (keys_noting keys row.key row.next) later → AreNew keys ((row.key, row.next) ∷ later)
row_adds keys row unused later new = record {
  late = All-cons (λ u. first_unused keys u.0 ≤ u.1) (row.key, row.next) later unused.next
      (before keys (keys_noting keys row.key row.next) (noting_grows keys row unused) later new).late;
  rising = AllPairs-cons RisesUnderOneKey (row.key, row.next) later
      (All-weaker (λ u. first_unused (keys_noting keys row.key row.next) u.0 ≤ u.1) (λ u. RisesUnderOneKey (row.key, row.next) u) rises later new.late) new.rising;
}
  where
    rises : (u : UsedNumber) → first_unused (keys_noting keys row.key row.next) u.0 ≤ u.1 → row.key ≡ u.0 → row.next < u.1
    rises u h same =
        let again : first_unused (keys_noting keys row.key row.next) row.key ≤ u.1 =
        subst (λ n. first_unused (keys_noting keys row.key row.next) n ≤ u.1) (sym same) h in
        omega (arith, again, first-noting keys row.key row.next unused.there)

sending_goes : (keys : List InstalledKey) (rows : List TxRow) (by : Option TxRow) → (by ≡ None) ⊎ (by ≡ row_on rows) → HaveUnusedNext keys rows →
    Goes keys (keys_after keys by) (rows_after rows by) (number_of_row by)
sending_goes keys rows None which have = record { keeps = have; adds = λ later new. new }
sending_goes keys rows (Some row) (inl none) have = cc
sending_goes keys rows (Some row) (inr on) have = record {
  keeps = after_frame keys rows (Some row) (inr on) have;
  adds = row_adds keys row (on_unused keys rows row (sym on) have);
}

-- only the enabled SA protects a frame, unless it is exhausted or the protected frame is too long
abbrev unless_dropped : Bool → Bool → Sending → Sending
unless_dropped exhausted long sent = if exhausted then not_protected no_sa else if long then not_protected too_long else sent

by_none_or : (exhausted long : Bool) (sent : Sending) → ((unless_dropped exhausted long sent).by ≡ None) ⊎ ((unless_dropped exhausted long sent).by ≡ sent.by)
by_none_or true long sent = inl refl
by_none_or false true sent = inl refl
by_none_or false false sent = inr refl

by_the_one_on : (options : TxOptions) (keys : List InstalledKey) (frame : List ℕ) (on : Option TxRow) →
    ((sending_by options keys frame on).by ≡ None) ⊎ ((sending_by options keys frame on).by ≡ on)
by_the_one_on options keys frame None = inl refl
by_the_one_on options keys frame (Some row) =
    by_none_or (nat_lt (last_of (the_key keys row.key).suite) row.next) (nat_lt options.max_frame (length frame + octets_added (tag_sent options row frame))) _

where_not_protected : (protect : Bool) (sent : Sending) (leaving : Leaving) (on : Option TxRow) → (sent.by ≡ None) ⊎ (sent.by ≡ on) →
    ((if protect then sent else not_protected leaving).by ≡ None) ⊎ ((if protect then sent else not_protected leaving).by ≡ on)
where_not_protected true sent leaving on by = by
where_not_protected false sent leaving on by = inl refl

pub sent_by : (options : TxOptions) (keys : List InstalledKey) (rows : List TxRow) (frame : List ℕ) →
    ((sending options keys rows frame).by ≡ None) ⊎ ((sending options keys rows frame).by ≡ row_on rows)
sent_by options keys rows frame =
    where_not_protected options.protect (sending_by options keys frame (row_on rows)) _ (row_on rows) (by_the_one_on options keys frame (row_on rows))

frame_goes : (s : State) (frame : List ℕ) (output : Output) → HaveUnusedNext s.keys s.tx → (fault : Option FrameFault) →
    Goes s.keys (unless_fault fault s (output, state_after_sending s frame (sending_of s frame))).1.keys
    (unless_fault fault s (output, state_after_sending s frame (sending_of s frame))).1.tx (number_unless_fault fault (sending_of s frame).by)
frame_goes s frame output have None = sending_goes s.keys s.tx (sending_of s frame).by (sent_by (tx_options s) s.keys s.tx frame) have
frame_goes s frame output have (Some fault) = record { keeps = have; adds = λ later new. new }

-- a frame at the uncontrolled port
nothing_goes : (s : State) (output : Output) → HaveUnusedNext s.keys s.tx → (fault : Option FrameFault) →
    Goes s.keys (unless_fault fault s (output, s)).1.keys (unless_fault fault s (output, s)).1.tx []
nothing_goes s output have None = record { keeps = have; adds = λ later new. new }
nothing_goes s output have (Some fault) = record { keeps = have; adds = λ later new. new }

-- a frame from the link
receiving_goes : (s : State) (frame : List ℕ) (output : Output) → HaveUnusedNext s.keys s.tx → (fault : Option FrameFault) →
    Goes s.keys (unless_fault fault s (output, state_after_receiving s frame (judgement_of s frame))).1.keys
    (unless_fault fault s (output, state_after_receiving s frame (judgement_of s frame))).1.tx []
receiving_goes s frame output have None = record { keeps = have; adds = λ later new. new }
receiving_goes s frame output have (Some fault) = record { keeps = have; adds = λ later new. new }

-- ---- runs

step_goes : (s : State) (input : Input) → HaveUnusedNext s.keys s.tx → Goes s.keys (step s input).1.keys (step s input).1.tx (number_used s input)
step_goes s (operator_command c) have = command_goes s c have (refusal s c) refl
step_goes s (client_frame frame) have = frame_goes s frame (sent_output frame (sending_of s frame).leaving) have (frame_fault frame)
step_goes s (uncontrolled_frame frame) have = nothing_goes s (leaves frame None) have (frame_fault frame)
step_goes s (link_frame frame) have = receiving_goes s frame (received_output frame (judgement_of s frame)) have (frame_fault frame)

numbers_new : (inputs : List Input) (s : State) → HaveUnusedNext s.keys s.tx → AreNew s.keys (numbers_used s inputs)
numbers_new [] s have = record { late = All-nil (λ u. first_unused s.keys u.0 ≤ u.1); rising = λ i j d less within. absurd (omega arith) }
numbers_new (input ∷ inputs) s have =
    let goes = step_goes s input have in
    goes.adds (numbers_used (step s input).1 inputs) (numbers_new inputs (step s input).1 goes.keeps)

pub uses_rising_numbers : (config : EndConfig) (inputs : List Input) → UsesRisingNumbers config inputs
uses_rising_numbers config inputs = (numbers_new inputs (start config) tt).rising

rises_apart : (a b : UsedNumber) → RisesUnderOneKey a b → a ≢ b
rises_apart a b rises same = omega (arith, rises (ap (λ (u : UsedNumber). u.0) same), ap (λ (u : UsedNumber). u.1) same)

pub uses_no_number_twice : (config : EndConfig) (inputs : List Input) → UsesNoNumberTwice config inputs
uses_no_number_twice config inputs = λ i j d less within. rises_apart _ _ (uses_rising_numbers config inputs i j d less within)
