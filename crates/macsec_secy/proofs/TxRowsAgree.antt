-- Whatever the input, no two transmit SAs have the same number, and at most one is enabled.
use Rattle.macsec_secy.proofs.{
  Names.{◌&&◌, ◌==◌, ◌∙◌, ◌≡◌, and_right, Bool, eq-eqb, eqb-true, false, first_refusal, if◌then◌else◌, InstalledKey},
  Names.{List, map, next_used, None, not, NoTwo, off_at, Option, refl, rows_after, Some, switch_to, sym, true},
  Names.{tx_sa_refusals, TxRow, used_at, with_tx_off, with_tx_on, with_tx_sa, without_tx, ℕ},
  AfterCommands.none_hold,
  KeysKept.field_kept,
  NoTwo.{no_two-filter, no_two-map, no_two-with, none_at_all, none_found},
}
use Rattle.macsec_secy.specs.Agrees.{both_on, same_an}

pub record TxRowsAgree (rows : List TxRow) : Type 0 where
  pub numbers : NoTwo same_an rows
  pub one_on : NoTwo both_on rows

-- numbers stay distinct if each SA keeps its own
numbers_kept : (f : TxRow → TxRow) → ((row : TxRow) → (f row).an ≡ row.an) → (rows : List TxRow) → NoTwo same_an rows → NoTwo same_an (map f rows)
numbers_kept f same rows apart = no_two-map f same_an same_an (λ a b differs. rw (same a, same b) differs) rows apart

-- a new SA is disabled
pub with_one_more : (keys : List InstalledKey) (rows : List TxRow) (an key next : ℕ) (conf : Bool) → first_refusal (tx_sa_refusals keys rows an key next) ≡ None →
    TxRowsAgree rows → TxRowsAgree (with_tx_sa rows an key next conf)
with_one_more keys rows an key next conf e agree =
    let none = none_hold (tx_sa_refusals keys rows an key next) e in
    let new : TxRow = record { an = an; key = key; next = next; conf = conf; on = false } in
    record {
      numbers = no_two-with same_an rows new (none_found (λ row. row.an == an) rows none.1.1.1.0) agree.numbers;
      one_on = no_two-with both_on rows new (none_at_all (λ row. row.on && false) (λ row. and_right row.on false refl) rows) agree.one_on;
    }

-- only the enabled SA has the number
pub with_one_on : (rows : List TxRow) (an : ℕ) → TxRowsAgree rows → TxRowsAgree (with_tx_on rows an)
with_one_on rows an agree = record {
  numbers = numbers_kept (switch_to an) (λ row. refl) rows agree.numbers;
  one_on = no_two-map (switch_to an) same_an both_on not_both rows agree.numbers;
}
  where
    not_both : (a b : TxRow) → (a.an == b.an) ≡ false → ((a.an == an) && (b.an == an)) ≡ false
    not_both a b differs = by_test (a.an == an) refl (b.an == an) refl
      where
        by_test : (x : Bool) → (a.an == an) ≡ x → (y : Bool) → (b.an == an) ≡ y → (x && y) ≡ false
        by_test true first true second =
            let same : a.an ≡ b.an = eqb-true a.an an first ∙ sym (eqb-true b.an an second) in
            absurd (let no = sym (eq-eqb a.an b.an same) ∙ differs in cc)
        by_test true first false second = refl
        by_test false first y second = refl

pub with_one_off : (rows : List TxRow) (an : ℕ) → TxRowsAgree rows → TxRowsAgree (with_tx_off rows an)
with_one_off rows an agree = record {
  numbers = numbers_kept (off_at an) (λ row. field_kept (λ (r : TxRow). r.an) off (λ r. refl) (row.an == an) row) rows agree.numbers;
  one_on = no_two-map (off_at an) both_on both_on (λ a b apart. not_both a b apart (a.an == an) (b.an == an)) rows agree.one_on;
}
  where
    off : TxRow → TxRow
    off row = record row { on = false }

    not_both : (a b : TxRow) → (a.on && b.on) ≡ false → (x y : Bool) → ((if x then record a { on = false } else a).on && (if y then record b { on = false } else b).on) ≡ false
    not_both a b apart true y = refl
    not_both a b apart false true = and_right a.on false refl
    not_both a b apart false false = apart

pub without_one : (rows : List TxRow) (an : ℕ) → TxRowsAgree rows → TxRowsAgree (without_tx rows an)
without_one rows an agree = record {
  numbers = no_two-filter (λ row. not (row.an == an)) same_an rows agree.numbers;
  one_on = no_two-filter (λ row. not (row.an == an)) both_on rows agree.one_on;
}

pub after_sending : (rows : List TxRow) (by : Option TxRow) → TxRowsAgree rows → TxRowsAgree (rows_after rows by)
after_sending rows None agree = agree
after_sending rows (Some by) agree = record {
  numbers = numbers_kept (used_at by.an) (λ row. field_kept (λ (r : TxRow). r.an) next_used (λ r. refl) (row.an == by.an) row) rows agree.numbers;
  one_on = no_two-map (used_at by.an) both_on both_on (λ a b apart. rw (on_kept a, on_kept b) apart) rows agree.one_on;
}
  where
    on_kept : (row : TxRow) → (used_at by.an row).on ≡ row.on
    on_kept row = field_kept (λ (r : TxRow). r.on) next_used (λ r. refl) (row.an == by.an) row
