-- An endpoint stays sound, whatever the input, if its tables keep what holds of their rows.
use Rattle.std.proofs.Common.{OnOk, OnErr}
use Rattle.macsec_commands.specs.Scis.{IsSci}
use Rattle.macsec_secy.proofs.{
  Names.{[], ◌++◌, ◌∙◌, ◌∷◌, ◌≡◌, ◌≤◌, Agrees, All-append, All-cons, All-filter, All-nil, ap, AreChannels, AreKeyRows},
  Names.{AreOfAssociations, AreRxCounters, AreTxRows, arith, ChannelCounters, Channels, client_frame, Command},
  Names.{config_fault, effect, EndConfig, Err, false, filter, frame_fault, FrameFault, has_rx, InstalledKey, IsReady},
  Names.{IsSome, IsSound, judgement_of, Key, key_row, keys_after, link_frame, List, ltb-false, map-append},
  Names.{new_channel_counters, new_row, None, not, Ok, Option, Output, Protect, reading, received_output, refl},
  Names.{Refusal, refusal, refusal_of, refusals, Replay, Result, Retire, RxDel, RxLow, RxOff, RxOn, RxRow, RxSa, RxSc},
  Names.{RxScDel, same_sci, sci_of_counters, Sending, sending_of, sent_output, Some, start, State, state_after_command},
  Names.{state_after_receiving, state_after_sending, step, subst, suite_of, sym, Tag, true, TxDel, TxOff, TxOn, TxRow},
  Names.{TxSa, unless_fault, unless_refused, Validate, widest_beside, with_association, without_association, ℕ},
  AfterCommands.{none_hold, true_from_not},
  ChannelsCounted.{after_judging, scis_kept, without_counters},
  CountersKept.{after_change, after_judgement, after_leaving, after_protected, after_reading, no_rx_counted},
  CountersKept.{no_tx_counted, none_counted},
  Limits.good_limit,
}
use Rattle.macsec_secy.proofs.AssociationsKept as counted
use Rattle.macsec_secy.proofs.KeysKept as tx
use Rattle.macsec_secy.proofs.RxKeysKept as rx
use Rattle.macsec_secy.proofs.StaysAgreed as rows
use Rattle.macsec_secy.proofs.WidestWindow as widest

-- what holds of the rows of an endpoint's tables
pub record TablesHold (s : State) : Type 0 where
  pub keys : AreKeyRows s.keys
  pub tx : AreTxRows s.tx
  pub rx : AreChannels s.rx

-- ---- at the start

pub at_start : (config : EndConfig) → config_fault config ≡ None → IsSci config.sci → TablesHold (start config) → IsSound (start config)
at_start config good own tables =
    let limit = good_limit config good in
    let within : 0 ≤ widest_beside [] = omega arith in
    assumption (
      limit.0,
      limit.1,
      own,
      within,
      All-nil (λ (row : RxRow). IsSome (key_row [] row.key)),
      none_counted,
      no_tx_counted,
      All-nil (λ (row : ChannelCounters). AreRxCounters row.counters),
      All-nil (AreOfAssociations []),
      rows.at_start config,
    )

-- ---- commands

effect_is_sound : (s : State) (c : Command) → refusal s c ≡ None → TablesHold (effect s c) → Agrees (effect s c) → IsSound s → IsSound (effect s c)
effect_is_sound s (Protect on) e tables agrees sound = assumption
effect_is_sound s (Validate mode) e tables agrees sound = assumption
effect_is_sound s (Replay protect window) e tables agrees sound =
    let none = none_hold (refusals s (Replay protect window)) e in
    let within : window ≤ widest_beside s.keys = ltb-false (widest_beside s.keys) window none.0 in
    assumption (within, rx.with_all_narrowed s.keys s.rx window sound.rx_keys, counted.with_all_narrowed s.rx.rows s.rx_counters window sound.associations)
effect_is_sound s (Tag form) e tables agrees sound = assumption
effect_is_sound s (Key key) e tables agrees sound =
    let suite = suite_of s.config.suite key in
    let new = new_row suite key in
    let none = none_hold (refusals s (Key key)) e in
    assumption (
      widest.with_one_more suite s.keys key s.options.window none.1.1.1.1.0 sound.window,
      tx.with_another_key s.keys s.tx new sound.tx_keys,
      rx.with_another_key s.keys s.rx.rows new sound.rx_keys,
    )
effect_is_sound s (Retire key) e tables agrees sound =
    assumption (
      widest.with_one_retired s.keys key s.options.window sound.window,
      tx.with_a_key_retired s.keys s.tx key sound.tx_keys,
      rx.with_a_key_retired s.keys s.rx.rows key sound.rx_keys,
    )
effect_is_sound s (TxSa an key next conf) e tables agrees sound = assumption (tx.with_one_more s.keys s.tx an key next conf e sound.tx_keys)
effect_is_sound s (TxOn an) e tables agrees sound = assumption (tx.with_one_on s.keys s.tx an sound.tx_keys)
effect_is_sound s (TxOff an) e tables agrees sound = assumption (tx.with_one_off s.keys s.tx an sound.tx_keys)
effect_is_sound s (TxDel an) e tables agrees sound = assumption (tx.without_one s.keys s.tx an sound.tx_keys)
effect_is_sound s (RxSc sci) e tables agrees sound =
    let new = new_channel_counters sci in
    let none = none_hold (refusals s (RxSc sci)) e in
    assumption (
      counted.with_another_channel s.rx.scis s.rx.rows s.rx_counters sci sound.rx.rows none.1.0 sound.associations,
      map-append sci_of_counters s.rx_counters (new ∷ []) ∙ ap (λ scis. scis ++ sci ∷ []) sound.channels,
      All-append (λ row. AreRxCounters row.counters) s.rx_counters (new ∷ []) sound.rx_counters
          (All-cons (λ row. AreRxCounters row.counters) new [] no_rx_counted (All-nil (λ row. AreRxCounters row.counters))),
    )
effect_is_sound s (RxScDel sci) e tables agrees sound =
    assumption (
      rx.without_channel_of s.keys s.rx sci sound.rx_keys,
      without_counters sci s.rx_counters ∙ ap (filter (λ t. not (same_sci t sci))) sound.channels,
      All-filter (λ row. not (same_sci row.sci sci)) (λ row. AreRxCounters row.counters) s.rx_counters sound.rx_counters,
      counted.without_a_channel s.rx.rows s.rx_counters sci sound.associations,
    )
effect_is_sound s (RxSa sci an key ssci lowest) e tables agrees sound =
    let none = none_hold (refusals s (RxSa sci an key ssci lowest)) e in
    let new : RxRow = record { sci = sci; an = an; key = key; ssci = ssci; next = lowest; lowest = lowest; on = false } in
    assumption (
      rx.with_one_more s.keys s.rx sci an key ssci lowest e sound.rx_keys,
      scis_kept (with_association an) (λ row. refl) sci s.rx_counters ∙ sound.channels,
      after_change (with_association an) (λ row are. are) sci s.rx_counters sound.rx_counters,
      counted.with_another_association s.rx.scis s.rx.rows s.rx_counters new tables.rx.rows none.1.1.1.0 sound.associations,
    )
effect_is_sound s (RxOn sci an) e tables agrees sound =
    assumption (rx.with_one_switched s.keys s.rx sci an true sound.rx_keys, counted.with_one_switched s.rx.rows s.rx_counters sci an true sound.associations)
effect_is_sound s (RxOff sci an) e tables agrees sound =
    assumption (rx.with_one_switched s.keys s.rx sci an false sound.rx_keys, counted.with_one_switched s.rx.rows s.rx_counters sci an false sound.associations)
effect_is_sound s (RxLow sci an pn) e tables agrees sound =
    assumption (rx.with_one_raised s.keys s.rx sci an pn sound.rx_keys, counted.with_one_raised s.rx.rows s.rx_counters sci an pn sound.associations)
effect_is_sound s (RxDel sci an) e tables agrees sound =
    let none = none_hold (refusals s (RxDel sci an)) e in
    assumption (
      rx.without_one s.keys s.rx sci an sound.rx_keys,
      scis_kept (without_association an) (λ row. refl) sci s.rx_counters ∙ sound.channels,
      after_change (without_association an) (λ row are. are) sci s.rx_counters sound.rx_counters,
      counted.without_an_association s.rx.rows s.rx_counters sci an (true_from_not (has_rx s.rx.rows sci an) none.1.0) sound.associations,
    )

pub after_effect : (s : State) (c : Command) → refusal s c ≡ None → TablesHold (effect s c) → IsSound s → IsSound (effect s c)
after_effect s c e tables sound = effect_is_sound s c e tables (rows.after_effect s c e sound.agrees) sound

-- a command that a table carries out, or refuses and stays unchanged
by_table : {S : Type 0} (s : State) (c : Command) (put : S → State) (old new after : S) (answer : Result (Unit {0}) Refusal) → refusal_of answer ≡ refusal s c →
    OnOk answer (new ≡ after) → OnErr answer (new ≡ old) → put old ≡ s → put after ≡ effect s c → (refusal_of answer ≡ None → TablesHold (put new)) → IsSound s → IsSound (put new)
by_table s c put old new after (Ok done) refuses ok err before behind tables sound =
    let same : put new ≡ effect s c = ap put ok ∙ behind in
    subst IsSound (sym same) (after_effect s c (sym refuses) (subst TablesHold same (tables refl)) sound)
by_table s c put old new after (Err refusal) refuses ok err before behind tables sound = subst IsSound (sym (ap put err ∙ before)) sound

where_done : {A : Type 0} (answer : Result (Unit {0}) Refusal) → OnOk answer A → refusal_of answer ≡ None → A
where_done (Ok done) holds e = holds
where_done (Err refusal) holds e = cc

pub by_keys : (s : State) (c : Command) (keys after : List InstalledKey) (answer : Result (Unit {0}) Refusal) → refusal_of answer ≡ refusal s c →
    OnOk answer (keys ≡ after) → OnErr answer (keys ≡ s.keys) → record s { keys = after } ≡ effect s c → OnOk answer (AreKeyRows keys) →
    IsSound s → IsSound (record s { keys = keys })
by_keys s c keys after answer refuses ok err behind are sound =
    by_table s c (λ k. record s { keys = k }) s.keys keys after answer refuses ok err refl behind
    (λ e. record { keys = where_done answer are e; tx = sound.tx; rx = sound.rx }) sound

pub by_tx : (s : State) (c : Command) (rows after : List TxRow) (answer : Result (Unit {0}) Refusal) → refusal_of answer ≡ refusal s c →
    OnOk answer (rows ≡ after) → OnErr answer (rows ≡ s.tx) → record s { tx = after } ≡ effect s c → OnOk answer (AreTxRows rows) → IsSound s → IsSound (record s { tx = rows })
by_tx s c rows after answer refuses ok err behind are sound =
    by_table s c (λ r. record s { tx = r }) s.tx rows after answer refuses ok err refl behind
    (λ e. record { keys = sound.keys; tx = where_done answer are e; rx = sound.rx }) sound

pub by_rx : (s : State) (c : Command) (channels after : Channels) (answer : Result (Unit {0}) Refusal) → refusal_of answer ≡ refusal s c →
    OnOk answer (channels ≡ after) → OnErr answer (channels ≡ s.rx) → record s { rx = after } ≡ effect s c → AreChannels channels → IsSound s → IsSound (record s { rx = channels })
by_rx s c channels after answer refuses ok err behind are sound =
    by_table s c (λ r. record s { rx = r }) s.rx channels after answer refuses ok err refl behind (λ e. record { keys = sound.keys; tx = sound.tx; rx = are }) sound

-- ---- the same for an endpoint whose buffer is unchanged

pub ready_by_keys : (s : State) (c : Command) (keys after : List InstalledKey) (answer : Result (Unit {0}) Refusal) (room : ℕ) → refusal_of answer ≡ refusal s c →
    OnOk answer (keys ≡ after) → OnErr answer (keys ≡ s.keys) → record s { keys = after } ≡ effect s c → OnOk answer (AreKeyRows keys) →
    IsReady s room → IsReady (record s { keys = keys }) room
ready_by_keys s c keys after answer room refuses ok err behind are ready =
    record { sound = by_keys s c keys after answer refuses ok err behind are ready.sound; room = ready.room }

pub ready_by_tx : (s : State) (c : Command) (rows after : List TxRow) (answer : Result (Unit {0}) Refusal) (room : ℕ) → refusal_of answer ≡ refusal s c →
    OnOk answer (rows ≡ after) → OnErr answer (rows ≡ s.tx) → record s { tx = after } ≡ effect s c → OnOk answer (AreTxRows rows) →
    IsReady s room → IsReady (record s { tx = rows }) room
ready_by_tx s c rows after answer room refuses ok err behind are ready =
    record { sound = by_tx s c rows after answer refuses ok err behind are ready.sound; room = ready.room }

pub ready_by_rx : (s : State) (c : Command) (channels after : Channels) (answer : Result (Unit {0}) Refusal) (room : ℕ) → refusal_of answer ≡ refusal s c →
    OnOk answer (channels ≡ after) → OnErr answer (channels ≡ s.rx) → record s { rx = after } ≡ effect s c → AreChannels channels →
    IsReady s room → IsReady (record s { rx = channels }) room
ready_by_rx s c channels after answer room refuses ok err behind are ready =
    record { sound = by_rx s c channels after answer refuses ok err behind are ready.sound; room = ready.room }

-- after a command that the SCs carry out or refuse, they are the SCs of the machine's state
pub left_by_rx : (s : State) (c : Command) (channels after : Channels) (answer : Result (Unit {0}) Refusal) → refusal_of answer ≡ refusal s c →
    OnOk answer (channels ≡ after) → OnErr answer (channels ≡ s.rx) → record s { rx = after } ≡ effect s c → record s { rx = channels } ≡ state_after_command s c
left_by_rx s c channels after (Ok done) refuses ok err behind = ap (λ r. record s { rx = r }) ok ∙ behind ∙ ap (λ r. unless_refused r s c) refuses
left_by_rx s c channels after (Err r) refuses ok err behind = ap (λ r. record s { rx = r }) err ∙ ap (λ r. unless_refused r s c) refuses

-- ---- frames

widest_after : (keys : List InstalledKey) (by : Option TxRow) (window : ℕ) → window ≤ widest_beside keys → window ≤ widest_beside (keys_after keys by)
widest_after keys None window within = within
widest_after keys (Some row) window within = widest.with_one_noting keys row.key row.next window within

after_sending : (s : State) (frame : List ℕ) (sent : Sending) → TablesHold (state_after_sending s frame sent) →
    Agrees (state_after_sending s frame sent) → IsSound s → IsSound (state_after_sending s frame sent)
after_sending s frame sent tables agrees sound =
    assumption (
      widest_after s.keys sent.by s.options.window sound.window,
      tx.after_sending s.keys s.tx sent.by sound.tx_keys,
      rx.after_sending s.keys s.rx.rows sent.by sound.rx_keys,
      after_leaving sent.leaving s.counters sound.counters,
      after_protected sent.by frame s.tx_counters sound.tx_counters,
    )

after_receiving : (s : State) (frame : List ℕ) → TablesHold (state_after_receiving s frame (judgement_of s frame)) →
    Agrees (state_after_receiving s frame (judgement_of s frame)) → IsSound s →
    IsSound (state_after_receiving s frame (judgement_of s frame))
after_receiving s frame tables agrees sound =
    let j = judgement_of s frame in
    assumption (
      counted.after_receiving s frame sound.associations,
      rx.after_receiving s.keys s.options.window j s.rx.rows sound.rx_keys,
      after_judging j s.rx_counters ∙ sound.channels,
      after_reading j (reading frame) s.counters sound.counters,
      after_judgement j s.rx_counters sound.rx_counters,
    )

-- a frame, with or without a fault
frame_keeps : (s after : State) (output : Output) → (TablesHold after → Agrees after → IsSound after) → (fault : Option FrameFault) →
    TablesHold (unless_fault fault s (output, after)).1 → Agrees (unless_fault fault s (output, after)).1 → IsSound s → IsSound (unless_fault fault s (output, after)).1
frame_keeps s after output keeps None tables agrees sound = keeps tables agrees
frame_keeps s after output keeps (Some fault) tables agrees sound = sound

pub after_client_frame : (s : State) (frame : List ℕ) → TablesHold (step s (client_frame frame)).1 → IsSound s → IsSound (step s (client_frame frame)).1
after_client_frame s frame tables sound =
    frame_keeps s (state_after_sending s frame (sending_of s frame)) (sent_output frame (sending_of s frame).leaving)
    (λ hold agrees. after_sending s frame (sending_of s frame) hold agrees sound) (frame_fault frame) tables (rows.after_step s (client_frame frame) sound.agrees) sound

pub after_link_frame : (s : State) (frame : List ℕ) → TablesHold (step s (link_frame frame)).1 → IsSound s → IsSound (step s (link_frame frame)).1
after_link_frame s frame tables sound =
    frame_keeps s (state_after_receiving s frame (judgement_of s frame)) (received_output frame (judgement_of s frame))
    (λ hold agrees. after_receiving s frame hold agrees sound) (frame_fault frame) tables (rows.after_step s (link_frame frame) sound.agrees) sound
