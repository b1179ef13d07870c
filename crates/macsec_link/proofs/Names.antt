-- The names of the crates below that proofs share.
pub use Rattle.std.proofs.{
  Common.{[], ◌&&◌, ◌++◌, ◌+◌, ◌-◌, ◌<◌, ◌==◌, ◌∙◌, ◌∷◌, ◌≡◌, ◌≢◌, ◌≤◌, ◌⊎◌, All, AllPairs, ap, append-nil, arith},
  Common.{Bool, cond, Contains, eq-eqb, eqb-true, Err, false, filter, get_or, IfSome, if◌then◌else◌, inl, inr, length},
  Common.{length-append, List, ltb-false, ltb-true, map, nat_le, nat_lt, None, not, Ok, Option, option_copied},
  Common.{option_map, position, refl, replicate, Result, rules, slice_get, slice_set, Some, subst, suc, sym, take},
  Common.{MatchOption, ne_eqb, take_all, true, unwrap_or, zero, ℕ},
  lemmas.Bool.{and_parts, cases_Bool, cases_eq, cases_lt, cases_order, eqb-false, lt-leb},
  lemmas.Grind.common_steps,
  lemmas.List.{
    get_or-map,
    get_or_default,
    get_or_past,
    length-map,
    map-append,
    Elements.{All-cons, All-contains, All-head, All-nil, All-push, All-tail, All-weaker, filter-append, filter_passes},
    Kept.{AllPairs-cons, AllPairs-filter},
    Quantifiers.{all_pairs_push, position-Some},
  },
  lemmas.Option.{slice_get-get_or, slice_get-map, slice_get_within, unwrap_or-slice_get},
}
pub use Rattle.std.specs.{Global.Vec, List.prefix_len}
pub use Rattle.macsec_tag.specs.{
  Frame.{in_a_row, MpduParts},
  Laws.AreOctets,
  Limits.max_frame_len,
  declared.identifiers.Sci.Sci,
}
pub use Rattle.macsec_suite.specs.{
  CipherUses.CipherUse,
  IvLaws.{AreIvParts, iv_of_parts, IvParts},
  KeyRows.{InstalledKey, key_row, no_key, row_noting, the_key},
  Suites.{is_xpn, iv_of, last_of},
  declared.suite.Suite.Suite,
}
pub use Rattle.macsec_commands.specs.declared.{
  command.Command.TheVariants.{Key, Protect, Replay, Retire, RxDel, RxLow, RxOff, RxOn, RxSa, RxSc, RxScDel, Tag},
  command.Command.TheVariants.{TxDel, TxOff, TxOn, TxSa, Validate},
  config.EndConfig.EndConfig,
  event.End.{End, TheVariants.{A, B}},
  event.Event.{Event, TheVariants.{Alter, Command, Deliver, Inject, Pad, Send, SendUncontrolled}},
}
pub use Rattle.macsec_tx.specs.{
  Transmit.{no_sa, not_protected, octets_added, parts_sent, plain, protected, protected_frame, row_on, Sending},
  Transmit.{sending_by, tag_sent, too_long},
  declared.{TxOptions.TxOptions, TxRow.TxRow},
}
pub use Rattle.macsec_rx.specs.{Channels.{rx_row, same_sci}, Judge.{Judgement, place_of}, declared.RxRow.RxRow}
pub use Rattle.macsec_secy.specs.{
  Delivers.IsOfOtherSender,
  Kept.{IsAbove, IsLaterKey, KeysStay, KeyStaysIn},
  Reception.{judgement_of, state_after_receiving},
  State.{State, tx_options},
  Step.{client_frame, done, dropped_no_sa, dropped_too_long, fault, frame_fault, Input, leaves, link_frame},
  Step.{operator_command, Output, received, received_output, refused, sending_of, step, uncontrolled_frame},
  Step.unless_fault,
}
pub use Rattle.macsec_link_events.specs.declared.{
  Outcome.{Outcome, TheVariants.Heard},
  WorldFault.{WorldFault, TheVariants.{LinkFull, Long, NoFrame, Short}},
}
pub use Rattle.macsec_link_logs.specs.{
  Ends.{end_after, EndState},
  Kept.frames_kept,
  Logs.{delivered_after, DeliveryLog, is_live_at, log_closing, log_delivering, logs_after_command, sent_under},
  Logs.with_first,
  Sound.IsSoundEnd,
}
pub use Rattle.macsec_link.specs.{
  Answers.{events_kept, Happens, is_memory, RunsOutOfMemory, RunsTo, Steps},
  Beginnings.{AreSound, AtEachMoment, StaysSound},
  Faults.{fault_of, is_long, is_missing, is_short},
  Keys.{AgreeOnKeys, DifferInSsci},
  Origin.{ComesFromOther, ComesInOrder, HasStrictOrder, IsStrict, IsSubsequence},
  Sound.IsSound,
  Step.{at_end, happening, happening_unless_fault, padded_frame, reaction, world_after, world_at, world_step},
  Trace.{added_unless_fault, frames_of, is_mark_of, is_sent_under, Mark, mark_in, marks_by, marks_of, new_marks},
  Trace.{new_seals, new_trace, same_end, seals_by, sends_under, Sent, Trace, trace_after, trace_of, trace_step},
  Trace.{use_sealed_by, use_to_open_by},
  UniqueIvs.{IsUseFor, SealsEachFrame},
  Window.{IsWithinWindow, KeepsWindow, MarksEachFrame},
  World.{end_of, frame_at, new_world, other_end, with_end, with_frame, WorldState},
}
