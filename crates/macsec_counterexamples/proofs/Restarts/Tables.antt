-- What holds of the tables of a worked endpoint, by tests that compute: so a worked run owes `refl` for each state.
use Rattle.{
  std.proofs.{Common.{is_some, leb-true, ltb-true}, lemmas.Bool.{and_parts, Decides.Decides-eqb}},
  macsec_tag.specs.Laws.AreOctets,
  macsec_suite.specs.{KeyNumbers.max_key_count, KeyRows.{AreKeyRows, key_row}, Suites.key_length},
  macsec_commands.specs.{Configs.config_fault, Scis.IsSci, declared.command.Command.Command},
  macsec_tx.specs.{Rows.AreTxRows, Transmit.tx_row},
  macsec_rx.specs.{Commands.has_channel, Rows.{AreRxRows, AreScis}},
  macsec_secy.proofs.StaysSound.{TablesHold, after_client_frame, after_effect, after_link_frame, at_start},
  macsec_counterexamples.proofs.Names.{[], ◌&&◌, ◌<◌, ◌==◌, ◌^◌, ◌∷◌, ◌≡◌, All-cons, All-nil, Bool, client_frame},
  macsec_counterexamples.proofs.Names.{effect, EndConfig, false, InstalledKey, IsSound, length, link_frame, List},
  macsec_counterexamples.proofs.Names.{nat_le, nat_lt, None, not, Option, refl, refusal, rx_row, RxRow, Sci, Some},
  macsec_counterexamples.proofs.Names.{start, State, step, true, TxRow, ℕ},
}

pub none_by : {X : Type 0} (o : Option X) → is_some o ≡ false → o ≡ None
none_by None is = refl
none_by (Some x) is = cc

not_true : (b : Bool) → not b ≡ true → b ≡ false
not_true true is = cc
not_true false is = refl

-- ---- octets

abbrev pub are_small : List ℕ → Bool
are_small [] = true
are_small (x ∷ xs) = nat_lt x 256 && are_small xs

pub small : (xs : List ℕ) → are_small xs ≡ true → AreOctets xs
small [] are = All-nil (λ x. x < 256)
small (x ∷ xs) are =
    let both = and_parts (nat_lt x 256) (are_small xs) are in
    All-cons (λ y. y < 256) x xs (ltb-true x 256 both.0) (small xs both.1)

abbrev sci_fits : Sci → Bool
sci_fits sci = (length sci.0 == 8) && are_small sci.0

sci_is : (sci : Sci) → sci_fits sci ≡ true → IsSci sci
sci_is sci is =
    let both = and_parts (length sci.0 == 8) (are_small sci.0) is in
    record { count = (Decides-eqb (length sci.0) 8).0 both.0; octets = small _ both.1 }

-- ---- keys and SAs

abbrev keys_fit : List InstalledKey → Bool
keys_fit [] = true
keys_fit (row ∷ rows) = (nat_lt row.number max_key_count && (length row.bytes == key_length row.suite))
    && (((length row.salt == 12) && nat_lt row.ssci (2 ^ 32))
    && ((nat_le 1 row.first_unused && nat_le row.first_unused (2 ^ 64))
    && (not (is_some (key_row rows row.number)) && keys_fit rows)))

keys_are : (rows : List InstalledKey) → keys_fit rows ≡ true → AreKeyRows rows
keys_are [] fit = tt
keys_are (row ∷ rows) fit =
    let a = and_parts _ _ fit in
    let b = and_parts _ _ a.1 in
    let c = and_parts _ _ b.1 in
    let d = and_parts _ _ c.1 in
    let a' = and_parts _ _ a.0 in
    let b' = and_parts _ _ b.0 in
    let c' = and_parts _ _ c.0 in (
      record {
        number = ltb-true _ _ a'.0;
        bytes = (Decides-eqb (length row.bytes) (key_length row.suite)).0 a'.1;
        salt = (Decides-eqb (length row.salt) 12).0 b'.0;
        ssci = ltb-true _ _ b'.1;
        first_unused_least = leb-true _ _ c'.0;
        first_unused = leb-true _ _ c'.1;
      },
      none_by _ (not_true _ d.0),
      keys_are rows d.1,
    )

abbrev tx_fit : List TxRow → Bool
tx_fit [] = true
tx_fit (row ∷ rows) = (nat_lt row.an 4 && nat_lt row.key max_key_count)
    && ((nat_le 1 row.next && nat_le row.next (2 ^ 64)) && (not (is_some (tx_row rows row.an)) && tx_fit rows))

tx_are : (rows : List TxRow) → tx_fit rows ≡ true → AreTxRows rows
tx_are [] fit = tt
tx_are (row ∷ rows) fit =
    let a = and_parts _ _ fit in
    let b = and_parts _ _ a.1 in
    let c = and_parts _ _ b.1 in
    let a' = and_parts _ _ a.0 in
    let b' = and_parts _ _ b.0 in (
      record {
        an = ltb-true _ _ a'.0;
        key = ltb-true _ _ a'.1;
        next_least = leb-true _ _ b'.0;
        next = leb-true _ _ b'.1;
      },
      none_by _ (not_true _ c.0),
      tx_are rows c.1,
    )

abbrev scis_fit : List Sci → Bool
scis_fit [] = true
scis_fit (sci ∷ scis) = sci_fits sci && (not (has_channel scis sci) && scis_fit scis)

scis_are : (scis : List Sci) → scis_fit scis ≡ true → AreScis scis
scis_are [] fit = tt
scis_are (sci ∷ scis) fit =
    let a = and_parts _ _ fit in
    let b = and_parts _ _ a.1 in
    (sci_is sci a.0, not_true _ b.0, scis_are scis b.1)

abbrev rx_fit : List Sci → List RxRow → Bool
rx_fit scis [] = true
rx_fit scis (row ∷ rows) = (has_channel scis row.sci && nat_lt row.an 4)
    && ((nat_lt row.key max_key_count && nat_lt row.ssci (2 ^ 32))
    && ((nat_le row.next (2 ^ 64) && (nat_le 1 row.lowest && nat_le row.lowest row.next))
    && (not (is_some (rx_row rows row.sci row.an)) && rx_fit scis rows)))

rx_are : (scis : List Sci) (rows : List RxRow) → rx_fit scis rows ≡ true → AreRxRows scis rows
rx_are scis [] fit = tt
rx_are scis (row ∷ rows) fit =
    let a = and_parts _ _ fit in
    let b = and_parts _ _ a.1 in
    let c = and_parts _ _ b.1 in
    let d = and_parts _ _ c.1 in
    let a' = and_parts _ _ a.0 in
    let b' = and_parts _ _ b.0 in
    let c' = and_parts _ _ c.0 in
    let e = and_parts _ _ c'.1 in (
      record {
        channel = a'.0;
        an = ltb-true _ _ a'.1;
        key = ltb-true _ _ b'.0;
        ssci = ltb-true _ _ b'.1;
        next = leb-true _ _ c'.0;
        lowest_least = leb-true _ _ e.0;
        lowest = leb-true _ _ e.1;
      },
      none_by _ (not_true _ d.0),
      rx_are scis rows d.1,
    )

-- ---- all tables

abbrev pub tables_fit : State → Bool
tables_fit s = (keys_fit s.keys && tx_fit s.tx)
    && (nat_le (length s.rx.scis) 64 && (scis_fit s.rx.scis && rx_fit s.rx.scis s.rx.rows))

tables_hold : (s : State) → tables_fit s ≡ true → TablesHold s
tables_hold s fit =
    let a = and_parts _ _ fit in
    let b = and_parts _ _ a.0 in
    let c = and_parts _ _ a.1 in
    let d = and_parts _ _ c.1 in
    record {
      keys = keys_are _ b.0;
      tx = tx_are _ b.1;
      rx = record { count = leb-true _ _ c.0; scis = scis_are _ d.0; rows = rx_are _ _ d.1 };
    }

-- ---- how an endpoint stays sound

abbrev pub begins_well : EndConfig → Bool
begins_well config = not (is_some (config_fault config)) && sci_fits config.sci

pub begins_sound : (config : EndConfig) → begins_well config ≡ true → IsSound (start config)
begins_sound config is =
    let both = and_parts _ _ is in
    at_start config (none_by _ (not_true _ both.0)) (sci_is _ both.1) (tables_hold _ refl)

-- none of the commands is refused
abbrev pub none_refused : State → List Command → Bool
none_refused s [] = true
none_refused s (c ∷ cs) = not (is_some (refusal s c)) && none_refused (effect s c) cs

-- the tables hold after each of them
abbrev pub all_fit : State → List Command → Bool
all_fit s [] = true
all_fit s (c ∷ cs) = tables_fit (effect s c) && all_fit (effect s c) cs

pub first_carried : (s : State) (c : Command) (cs : List Command) → none_refused s (c ∷ cs) ≡ true →
    (refusal s c ≡ None) × (none_refused (effect s c) cs ≡ true)
first_carried s c cs none = let both = and_parts _ _ none in (none_by _ (not_true _ both.0), both.1)

pub first_sound : (s : State) (c : Command) (cs : List Command) → refusal s c ≡ None → all_fit s (c ∷ cs) ≡ true →
    IsSound s → IsSound (effect s c) × (all_fit (effect s c) cs ≡ true)
first_sound s c cs fits fit sound =
    let both = and_parts _ _ fit in
    (after_effect s c fits (tables_hold _ both.0) sound, both.1)

abbrev pub after_commands : State → List Command → State
after_commands s [] = s
after_commands s (c ∷ cs) = after_commands (effect s c) cs

pub commands_sound : (cs : List Command) {s : State} → none_refused s cs ≡ true → all_fit s cs ≡ true → IsSound s →
    IsSound (after_commands s cs)
commands_sound [] none fit sound = sound
commands_sound (c ∷ cs) {s} none fit sound =
    let it = first_carried s c cs none in
    let now = first_sound _ _ _ it.0 fit sound in
    commands_sound cs it.1 now.1 now.0

pub sent_sound : {s after : State} (frame : List ℕ) → (step s (client_frame frame)).1 ≡ after →
    tables_fit after ≡ true → IsSound s → IsSound after
sent_sound frame is fits sound = rw is at (after_client_frame _ frame (rw is (tables_hold _ fits)) sound)

pub heard_sound : {s after : State} (frame : List ℕ) → (step s (link_frame frame)).1 ≡ after → tables_fit after ≡ true →
    IsSound s → IsSound after
heard_sound frame is fits sound = rw is at (after_link_frame _ frame (rw is (tables_hold _ fits)) sound)
