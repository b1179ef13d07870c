-- After each command, the next packet number of each SA was never used under its key, and the first unused packet
-- number of each key is unchanged.
use Rattle.macsec_suite.specs.Refusals.{RefusalLine}
use Rattle.macsec_secy.proofs.{
  Names.{[], ◌++◌, ◌∷◌, ◌≡◌, ◌≤◌, Bool, Command, effect, false, first_refusal, first_unused, HaveUnusedNext},
  Names.{if◌then◌else◌, InstalledKey, is_number_used, IsSome, Key, key_row, keys_retiring, keys_with, List, ltb-false},
  Names.{new_row, None, not, Protect, refl, refusal, Replay, Retire, RxDel, RxLow, RxOff, RxOn, RxSa, RxSc, RxScDel},
  Names.{Some, State, suite_of, Tag, true, tx_sa_refusals, tx_uses, TxDel, TxOff, TxOn, TxRow, TxSa, Validate, ℕ},
  FirstUnused.{first-another_key, first-retiring},
  KeysKept.{there_retiring, there_with_more},
  UnusedNext.{KeysStay, with_keys, with_one_more, with_one_off, with_one_on, without_one},
}

pub effect_stays : (s : State) (c : Command) (n : ℕ) → first_unused (effect s c).keys n ≡ first_unused s.keys n
effect_stays s (Protect on) n = refl
effect_stays s (Validate mode) n = refl
effect_stays s (Replay protect window) n = refl
effect_stays s (Tag form) n = refl
effect_stays s (Key key) n = first-another_key s.keys (new_row (suite_of s.config.suite key) key) n refl
effect_stays s (Retire key) n = first-retiring s.keys key n
effect_stays s (TxSa an key next conf) n = refl
effect_stays s (TxOn an) n = refl
effect_stays s (TxOff an) n = refl
effect_stays s (TxDel an) n = refl
effect_stays s (RxSc sci) n = refl
effect_stays s (RxScDel sci) n = refl
effect_stays s (RxSa sci an key ssci lowest) n = refl
effect_stays s (RxOn sci an) n = refl
effect_stays s (RxOff sci an) n = refl
effect_stays s (RxLow sci an pn) n = refl
effect_stays s (RxDel sci an) n = refl

another_stays : (keys : List InstalledKey) (new : InstalledKey) → new.first_unused ≡ 1 → KeysStay keys (keys ++ new ∷ [])
another_stays keys new fresh = record { there = λ n. there_with_more keys (new ∷ []) n; first = λ n. first-another_key keys new n fresh }

retiring_stays : (keys : List InstalledKey) (number : ℕ) → KeysStay keys (keys_retiring keys number)
retiring_stays keys number = record { there = λ n. there_retiring keys number n; first = λ n. first-retiring keys number n }

abbrev pub NoneHold : List RefusalLine → Type 0
NoneHold [] = Unit {0}
NoneHold (line ∷ lines) = (line.1 ≡ false) × NoneHold lines

pub none_hold : (lines : List RefusalLine) → first_refusal lines ≡ None → NoneHold lines
none_hold [] e = tt
none_hold (line ∷ lines) e = by_test line.1 (none_hold lines) e
  where
    by_test : (b : Bool) → (first_refusal lines ≡ None → NoneHold lines) → (if b then Some line.0 else first_refusal lines) ≡ None → (b ≡ false) × NoneHold lines
    by_test true later e' = cc
    by_test false later e' = (refl, later e')

pub true_from_not : (b : Bool) → not b ≡ false → b ≡ true
true_from_not true e = refl
true_from_not false e = cc

-- what follows if the creation of an SA is not refused
free_to_join : (keys : List InstalledKey) (rows : List TxRow) (an key next : ℕ) → first_refusal (tx_sa_refusals keys rows an key next) ≡ None →
    IsSome (key_row keys key) × (tx_uses rows key ≡ false) × (first_unused keys key ≤ next)
free_to_join keys rows an key next e =
    let none = none_hold (tx_sa_refusals keys rows an key next) e in
    (true_from_not (is_number_used keys key) none.0, none.1.1.0, ltb-false next (first_unused keys key) none.1.1.1.1.1.0)

pub effect_keeps : (s : State) (c : Command) → refusal s c ≡ None → HaveUnusedNext s.keys s.tx → HaveUnusedNext (effect s c).keys (effect s c).tx
effect_keeps s (Protect on) e have = have
effect_keeps s (Validate mode) e have = have
effect_keeps s (Replay protect window) e have = have
effect_keeps s (Tag form) e have = have
effect_keeps s (Key key) e have =
    let new = new_row (suite_of s.config.suite key) key in
    with_keys s.keys (keys_with (suite_of s.config.suite key) s.keys key) (another_stays s.keys new refl) s.tx have
effect_keeps s (Retire key) e have = with_keys s.keys (keys_retiring s.keys key) (retiring_stays s.keys key) s.tx have
effect_keeps s (TxSa an key next conf) e have =
    let known = free_to_join s.keys s.tx an key next e in
    with_one_more s.keys s.tx (record { an = an; key = key; next = next; conf = conf; on = false }) (record { there = known.0; next = known.2 }) known.1 have
effect_keeps s (TxOn an) e have = with_one_on s.keys s.tx an have
effect_keeps s (TxOff an) e have = with_one_off s.keys s.tx an have
effect_keeps s (TxDel an) e have = without_one s.keys s.tx an have
effect_keeps s (RxSc sci) e have = have
effect_keeps s (RxScDel sci) e have = have
effect_keeps s (RxSa sci an key ssci lowest) e have = have
effect_keeps s (RxOn sci an) e have = have
effect_keeps s (RxOff sci an) e have = have
effect_keeps s (RxLow sci an pn) e have = have
effect_keeps s (RxDel sci an) e have = have
