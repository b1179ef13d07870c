-- Capacity in the logs of what is sent: a protected frame is sent under the key of the enabled transmit SA, and capacity
-- is reserved for it.
use Rattle.{
  std.proofs.Common.{◌≡◌, ◌∙◌, ℕ, zero, suc, ◌+◌, ◌<◌, ◌≤◌, Bool, true, false, List, [], ◌∷◌, ap, arith, get_or},
  std.proofs.Common.{length, refl, set, subst, sym, ◌==◌, if◌then◌else◌, nat_lt, Option, Some, None, IfSome, eq-eqb},
  std.proofs.Common.eqb-true,
  macsec_suite.specs.{KeyRows.{InstalledKey, the_key}, Suites.last_of},
  macsec_tx.specs.{
    Rows.AreTxRows,
    Transmit.{Leaving, plain, protected, no_sa, too_long, Sending, not_protected, octets_added, protected_frame},
    Transmit.{row_on, sending_by, tag_sent, tx_row},
    declared.{TxOptions.TxOptions, TxRow.TxRow},
  },
  macsec_secy.specs.{
    Sound.IsSound,
    State.{State, tx_options},
    Step.{Output, client_frame, frame_fault, leaves, sending_of, sent_output, state_after_sending, step, unless_fault},
  },
  macsec_link_logs.specs.{
    Kept.{HasNone, HasPlace, HavePlaces, IsPlace, KeptSentLog, KeptSentLogs, sent_log_of, spare_under},
    Logs.SentLog,
  },
}

-- ---- capacity for one more frame

-- the capacity under a key is its log's
pub spare_at : (key spare : ℕ) (logs : List KeptSentLog) (place : ℕ) (d : KeptSentLog) → IsPlace key logs place → spare_under logs spare key ≡ (get_or logs place d).spare
spare_at key spare [] place d it = absurd it
spare_at key spare (k ∷ logs) zero d it = rw it refl
spare_at key spare (k ∷ logs) (suc place) d it = rw it.0 (spare_at key spare logs place d it.1)

-- or a new log's, if it has none
pub spare_nowhere : (key spare : ℕ) (logs : List KeptSentLog) → HasNone key logs → spare_under logs spare key ≡ spare
spare_nowhere key spare [] none = refl
spare_nowhere key spare (k ∷ logs) none = rw none.0 (spare_nowhere key spare logs none.1)

pub spare_made : (key spare : ℕ) (logs : List KeptSentLog) (place : ℕ) (old new : KeptSentLog) → IsPlace key logs place →
    old ≡ get_or logs place old → new.log ≡ old.log → spare_under (set logs place new) spare key ≡ new.spare
spare_made key spare [] place old new it is same = absurd it
spare_made key spare (k ∷ logs) zero old new it is same = rw (same, is, it) refl
spare_made key spare (k ∷ logs) (suc place) old new it is same = rw it.0 (spare_made key spare logs place old new it.1 is same)

-- more capacity in one log, or in a new one, leaves no less in another
pub spare_stays : (key spare : ℕ) (logs : List KeptSentLog) (place : ℕ) (old new : KeptSentLog) → old ≡ get_or logs place old → new.log ≡ old.log → old.spare ≤ new.spare →
    spare_under logs spare key ≤ spare_under (set logs place new) spare key
spare_stays key spare [] place old new is same more = omega arith
spare_stays key spare (k ∷ logs) zero old new is same more = by_test (new.log.key == key) (ap (λ (log : SentLog). log.key == key) (same ∙ ap sent_log_of is))
  where
    by_test : (b : Bool) → b ≡ (k.log.key == key) → spare_under (k ∷ logs) spare key ≤ (if b then new.spare else spare_under logs spare key)
    by_test true is' = rw (sym is') (omega (arith, more, ap (λ (x : KeptSentLog). x.spare) is))
    by_test false is' = rw (sym is') (omega arith)
spare_stays key spare (k ∷ logs) (suc place) old new is same more = by_test (k.log.key == key) (spare_stays key spare logs place old new is same more)
  where
    by_test : (b : Bool) → spare_under logs spare key ≤ spare_under (set logs place new) spare key →
        (if b then k.spare else spare_under logs spare key) ≤ (if b then k.spare else spare_under (set logs place new) spare key)
    by_test true later = omega arith
    by_test false later = later

pub spare_more : (key : ℕ) (spare more : ℕ) (logs : List KeptSentLog) → spare ≤ more → spare_under logs spare key ≤ spare_under logs more key
spare_more key spare more [] is = is
spare_more key spare more (k ∷ logs) is = by_test (k.log.key == key) (spare_more key spare more logs is)
  where
    by_test : (b : Bool) → spare_under logs spare key ≤ spare_under logs more key →
        (if b then k.spare else spare_under logs spare key) ≤ (if b then k.spare else spare_under logs more key)
    by_test true later = omega arith
    by_test false later = later

-- the capacity under a key is in its log, or in a new one
pub place_at : (key : ℕ) (kept now : KeptSentLogs) → kept ≡ now → HasPlace now key → (place : ℕ) (old : KeptSentLog) → IsPlace key kept.logs place →
    old ≡ get_or kept.logs place old → 1 ≤ old.spare
place_at key kept now same has place old it is =
    let here = subst (λ (k : KeptSentLogs). HasPlace k key) (sym same) has in
    omega (arith, here, spare_at key kept.spare kept.logs place old it, ap (λ (k : KeptSentLog). k.spare) is)

pub place_anew : (key : ℕ) (kept now : KeptSentLogs) → kept ≡ now → HasPlace now key → HasNone key kept.logs → 1 ≤ kept.spare
place_anew key kept now same has none =
    let here = subst (λ (k : KeptSentLogs). HasPlace k key) (sym same) has in
    omega (arith, here, spare_nowhere key kept.spare kept.logs none)

-- ---- the SA that sends

-- an enabled SA, found by its number
pub record IsThere (rows : List TxRow) (row : TxRow) : Type 0 where
  pub an : row.an < 4
  pub there : tx_row rows row.an ≡ Some row
  pub on : row.on ≡ true

-- the enabled SA is found by its number
on_is_there : (rows : List TxRow) → AreTxRows rows → IfSome (row_on rows) (IsThere rows)
on_is_there [] are = tt
on_is_there (first ∷ rows) are = by_on first.on refl (row_on rows) (on_is_there rows are.2)
  where
    by_number : (row : TxRow) → tx_row rows row.an ≡ Some row → (b : Bool) → (first.an == row.an) ≡ b → (if b then Some first else tx_row rows row.an) ≡ Some row
    by_number row later true same = absurd (let none : Some row ≡ None = sym later ∙ ap (tx_row rows) (sym (eqb-true first.an row.an same)) ∙ are.1 in cc)
    by_number row later false differs = later

    by_on : (b : Bool) → first.on ≡ b → (o : Option TxRow) → IfSome o (IsThere rows) → IfSome (if b then Some first else o) (IsThere (first ∷ rows))
    by_on true on o later = record { an = are.0.an; there = rw (eq-eqb first.an first.an refl) refl; on = on }
    by_on false off None later = tt
    by_on false off (Some row) later = record { an = later.an; there = by_number row later.there (first.an == row.an) refl; on = later.on }

-- there is capacity under the key that protects the frame
abbrev HasPlaceFor : KeptSentLogs → Leaving → Type 0
HasPlaceFor kept plain = Unit {0}
HasPlaceFor kept (protected key made) = HasPlace kept key
HasPlaceFor kept no_sa = Unit {0}
HasPlaceFor kept too_long = Unit {0}

output_is : (s : State) (frame : List ℕ) → frame_fault frame ≡ None →
    step s (client_frame frame) ≡ (sent_output frame (sending_of s frame).leaving, state_after_sending s frame (sending_of s frame))
output_is s frame fits = ap (λ f. unless_fault f s (sent_output frame (sending_of s frame).leaving, state_after_sending s frame (sending_of s frame))) fits

module _ (kept : KeptSentLogs) where
  made_by : (options : TxOptions) (keys : List InstalledKey) (frame : List ℕ) (rows : List TxRow) → HavePlaces rows kept → (on : Option TxRow) → IfSome on (IsThere rows) →
      HasPlaceFor kept (sending_by options keys frame on).leaving
  made_by options keys frame rows have None there = tt
  made_by options keys frame rows have (Some row) there =
      by_tests (nat_lt (last_of (the_key keys row.key).suite) row.next) (nat_lt options.max_frame (length frame + octets_added (tag_sent options row frame)))
    where
      made : Sending
      made = record { leaving = protected row.key (protected_frame options (the_key keys row.key) row frame); by = Some row }

      place : HasPlace kept row.key
      place = subst (λ (o : Option TxRow). IfSome o (λ r. r.on ≡ true → HasPlace kept r.key)) there.there (have row.an there.an) there.on

      by_tests : (used long : Bool) → HasPlaceFor kept (if used then not_protected no_sa else if long then not_protected too_long else made).leaving
      by_tests true long = tt
      by_tests false true = tt
      by_tests false false = place

  sending_has_place : (s : State) → IsSound s → HavePlaces s.tx kept → (frame : List ℕ) → HasPlaceFor kept (sending_of s frame).leaving
  sending_has_place s sound have frame = by_test s.options.protect (nat_lt s.config.max_frame (length frame))
    where
      by_test : (protects long : Bool) →
          HasPlaceFor kept (if protects then sending_by (tx_options s) s.keys frame (row_on s.tx) else not_protected (if long then too_long else plain)).leaving
      by_test true long = made_by (tx_options s) s.keys frame s.tx have (row_on s.tx) (on_is_there s.tx sound.tx)
      by_test false true = tt
      by_test false false = tt

  pub sent_has_place : (s : State) → IsSound s → HavePlaces s.tx kept → (frame link_frame : List ℕ) (key : ℕ) → frame_fault frame ≡ None →
      leaves link_frame (Some key) ≡ (step s (client_frame frame)).0 → HasPlace kept key
  sent_has_place s sound have frame link_frame key fits is =
      by_leaving (sending_of s frame).leaving (sending_has_place s sound have frame) (is ∙ ap (λ (a : Output × State). a.0) (output_is s frame fits))
    where
      by_leaving : (leaving : Leaving) → HasPlaceFor kept leaving → leaves link_frame (Some key) ≡ sent_output frame leaving → HasPlace kept key
      by_leaving plain place is' = cc
      by_leaving (protected under made) place is' = let it : under ≡ key = cc in subst (HasPlace kept) it place
      by_leaving no_sa place is' = cc
      by_leaving too_long place is' = cc
