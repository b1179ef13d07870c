-- The names of other crates and of this crate's definitions that several proofs take.
pub use Rattle.std.proofs.{
  Common.{[], ◌%◌, ◌&&◌, ◌++◌, ◌+◌, ◌<◌, ◌==◌, ◌^◌, ◌||◌, ◌∙◌, ◌∷◌, ◌≡◌, ◌≢◌, ◌≤◌, ◌⊎◌, All, ap, append_assoc, arith},
  Common.{Bool, Contains, drop, drop_at, eq-eqb, eqb-true, Err, false, filter, find, get_or, IfSome, if◌then◌else◌},
  Common.{inl, inr, is_some, IsSome, length, length-append, length-drop, length-take-le, List, ltb-false, map, nat_le},
  Common.{nat_lt, ne_eqb, None, not, Ok, Option, option_and_then, option_map, refl, Result, rules, set, slice_range},
  Common.{Some, subst, suc, sym, take, take-append-drop, take_at, true, unwrap_or, zero, ℕ},
  Math.{Nat.{add-mod-mod, mod-add-mod}, Seq.take-add},
  lemmas.Bool.{and_parts, and_right, eqb-false, or_from, or_parts, Decides.nat_tests},
  lemmas.List.{
    get_or_default,
    map-append,
    Edits.map_over_more,
    Elements.{All-append, All-cons, All-contains_itself, All-filter, All-head, All-map, All-nil, All-tail, All-weaker},
  },
}
pub use Rattle.std.specs.{Int.{to_be_bytes, w32}, List.{list_any, refill}}
pub use Rattle.macsec_gcm.specs.{Gcm.seal_of, Laws.{OpenUndoesSeal, SealedLengths}, Octets.same_octets}
pub use Rattle.macsec_tag.specs.{
  Frame.{in_a_row, MpduParts},
  Laws.ReadAgain,
  Limits.{max_frame_len, min_frame_len},
  Table.{bad, Reading, reading, tagged, untagged},
  Tag.{encoding, IsTag, sci_octets, tci_an},
  declared.{fault.TagFault.TagFault, identifiers.Sci.Sci},
}
pub use Rattle.macsec_pn.specs.Numbers.{is_late, recovered_number}
pub use Rattle.macsec_suite.specs.{
  CipherUses.{cipher_use, plaintext_of_use},
  KeyRows.{AreKeyRows, at_number, InstalledKey, is_extended, key_row, keys_noting, keys_replacing, keys_retiring},
  KeyRows.{keys_with, new_row, no_key, prepared_key, retired_row, row_noting, suite_of, the_key, widest_beside},
  KeyRows.{with_bytes, with_key},
  Parts.{aad_and_plaintext, clear_length},
  Refusals.{first_refusal, holds_of, install_refusals, is_number_used, is_repeated, is_retired, is_too_wide},
  Refusals.refusal_of,
  Replacing.can_replace,
  Suites.{is_xpn, iv_of, last_of, widest_extended_window, widest_short_window},
  declared.{key_row.NewKey.NewKey, refusal.Refusal.{Refusal, TheVariants.NoKey}, suite.Suite.Suite},
}
pub use Rattle.macsec_commands.specs.{
  Configs.config_fault,
  declared.command.Command.{
    Command,
    TheVariants.{Key, Protect, Replay, Retire, RxDel, RxLow, RxOff, RxOn, RxSa, RxSc, RxScDel, Tag, TxDel, TxOff, TxOn},
    TheVariants.{TxSa, Validate},
  },
  declared.config.EndConfig.EndConfig,
  declared.mode.Mode.{Mode, TheVariants.Strict},
}
pub use Rattle.macsec_tx.specs.{
  Commands.{off_at, switch_to, tx_sa_refusals, tx_uses, with_tx_off, with_tx_on, with_tx_sa, without_tx},
  Laws.{CanBeSent, IsReadAsSent},
  Rows.AreTxRows,
  Transmit.{keys_after, Leaving, next_used, no_sa, not_protected, octets_added, parts_under, plain, protected},
  Transmit.{protected_frame, row_on, rows_after, Sending, sending, sending_by, tag_sent, too_long, tx_row, used_at},
  declared.{TxOptions.TxOptions, TxRow.TxRow},
}
pub use Rattle.macsec_rx.specs.{
  Channels.{at_place, Channels, is_at, rx_row, same_sci, with_rx},
  Commands.{channels_narrowed, has_channel, has_rx, is_below_lowest, is_own_ssci, row_narrowed, row_raised},
  Commands.{row_switched, rx_sa_refusals, rx_uses, with_rx_low, with_rx_on, with_rx_sa},
  Judge.{accepted_number, at_row, bare_frame, in_use, is_bad_number, is_disabled, is_strict, judge_number},
  Judge.{judge_tagged, Judgement, number_of_frame, opened_frame, place_of, plaintext_of, row_accepting, rows_accepting},
  Judge.{sci_of, without_row},
  Rows.{AreChannels, AreRxRows, AreScis, IsRxRow},
  declared.RxOptions.RxOptions,
  declared.RxRow.RxRow,
  declared.Verdict.{
    Verdict,
    TheVariants.{BadTag, Delayed, Invalid, Late, NoSa, NoSaError, NoTag, NotValid, Passed, Reserved, Unchecked},
    TheVariants.Untagged,
  },
}
pub use Rattle.macsec_secy.specs.{
  Accepts.padded_by,
  Agrees.{Agrees, first_unused, HasOtherSsci, HasUnusedNext, HaveUnusedNext, NoTwo, same_bytes, same_place},
  Answers.channel_counters_of,
  Commands.{effect, refusal, refusals, state_after_command, unless_refused},
  Counting.{added, at_channel, count_in_channel, count_leaving, count_octets_received, count_packet, count_protected},
  Counting.{count_verdict, counters_at, new_channel_counters, plus, sum_of, with_association, without_association},
  Delivers.used_in,
  GivenUp.{replacing, state_after_replacing},
  Kept.IsAbove,
  Limited.{IsLimitedStep, limited_step},
  Outcomes.{ArePartsOf, IsStep, with_received},
  Reception.{counted_at_row, data_counted, is_counted_by_channel, judge_reading, judgement_of, octets_counted},
  Reception.{packet_counted, rx_packet_counted, state_after_receiving},
  Sound.{AreOfAssociations, AreRxCounters, IsReady, IsSound, sci_of_counters},
  State.{no_rx_counters, rx_options, start, State, tx_options},
  Step.{client_frame, command_output, done, frame_fault, Input, leaves, link_frame, operator_command, Output},
  Step.{received_output, sending_of, sent_output, state_after_sending, step, uncontrolled_frame, unless_fault},
  Sums.AddsFrames,
  Verdicts.{counted_at_place, counted_by},
  declared.{
    counters.{ChannelCounters.ChannelCounters, Counters.Counters, RxCounters.RxCounters},
    fault.FrameFault.{FrameFault, TheVariants.{Long, Short}},
    reception.Outcome.Outcome,
  },
}
