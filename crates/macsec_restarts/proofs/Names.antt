-- The names of other crates and of this crate's definitions that several proofs take.
pub use Rattle.std.proofs.{
  Common.{[], ◌&&◌, ◌*◌, ◌++◌, ◌+◌, ◌<◌, ◌==◌, ◌^◌, ◌||◌, ◌∙◌, ◌∷◌, ◌≡◌, ◌≢◌, ◌≤◌, ◌⊎◌, All, AllPairs, ap, append-nil},
  Common.{append_assoc, ap₂, arith, Bool, cond, Contains, eq-eqb, eqb-true, false, filter, get_or, IfSome},
  Common.{if◌then◌else◌, inl, inr, is_some, IsSome, le-leb, leb-false, leb-true, length, List, lt-ltb, ltb-false},
  Common.{ltb-true, map, max, nat_le, nat_lt, None, not, Option, option_map, refl, replicate, slice_get, Some, subst},
  Common.{suc, sym, take, true, unwrap_or, zero, ℕ},
  lemmas.Bool.{and_from, and_parts, lt-leb, or_parts},
  lemmas.List.{
    map-append,
    Elements.{All-append, All-cons, All-contains, All-filter, All-head, All-map, All-nil, All-tail, All-weaker},
    Elements.filter-append,
    Kept.{AllPairs-cons, AllPairs-filter},
  },
  lemmas.Slice.Eq.bytes_eq-Decides,
}
pub use Rattle.std.specs.List.Sorted.{IsStrictlyIncreasing}
pub use Rattle.sha2.proofs.Facts256.{length-sha256}
pub use Rattle.macsec_gcm.specs.{Gcm.open_of, Octets.same_octets}
pub use Rattle.macsec_tag.specs.{
  Frame.MpduParts,
  Laws.AreOctets,
  Limits.max_frame_len,
  Table.{bad, Reading, reading, tagged, untagged},
  declared.identifiers.Sci.Sci,
}
pub use Rattle.macsec_pn.specs.Numbers.{is_late}
pub use Rattle.macsec_suite.specs.{
  CipherUses.{cipher_use, CipherUse},
  IvLaws.{iv_of_parts, IvParts},
  KeyRows.{AreKeyRows, InstalledKey, keys_replacing, the_key},
  Refusals.holds_of,
  Replacing.can_replace,
  Suites.{is_xpn, iv_of, last_of},
  declared.{refusal.Refusal.Refusal, suite.Suite.TheVariants.Xpn128},
}
pub use Rattle.macsec_commands.specs.declared.{
  command.Command.{Command, TheVariants.{Key, Replay, Retire, RxDel, RxOn, RxSa, RxSc, RxScDel, TxOn, TxSa}},
  config.EndConfig.EndConfig,
  event.End.{End, TheVariants.{A, B}},
  mode.Mode.TheVariants.Strict,
}
pub use Rattle.macsec_tx.specs.{
  Transmit.{Leaving, no_sa, not_protected, plain, protected, protected_frame, row_on, Sending, sending_by, tag_sent},
  Transmit.{too_long, use_sent},
  declared.{TxOptions.TxOptions, TxRow.TxRow},
}
pub use Rattle.macsec_rx.specs.{
  Channels.{is_at, rx_row, same_sci},
  Commands.rx_uses,
  Judge.{at_row, bare_frame, is_strict, judge_number, judge_opened, judge_row, judge_validated, Judgement},
  Judge.{number_of_frame, without_row},
  declared.{
    RxOptions.RxOptions,
    RxRow.RxRow,
    Verdict.TheVariants.{Delayed, Invalid, Late, NoSa, NoSaError, NoTag, NotValid, Passed, Reserved, Unchecked},
    Verdict.TheVariants.Untagged,
    within.RxPn.RxPn,
  },
}
pub use Rattle.macsec_secy.proofs.{GivenUp.{gives_up, stays_given_up}, KeyReplaced.ready_by_keys}
pub use Rattle.macsec_secy.specs.{
  Commands.{effect, refusal, state_after_command, unless_refused},
  Delivers.IsDeliveredFrom,
  GivenUp.{IsGivenUp, replacing},
  Kept.{IsAbove, KeysStay},
  Reception.{judge_reading, judgement_of, state_after_receiving},
  Sound.IsSound,
  State.{no_tx_counters, rx_options, start, State, tx_options},
  Step.{client_frame, command_output, done, frame_fault, Input, leaves, link_frame, operator_command, Output, received},
  Step.{received_output, refused, sending_of, sent_output, state_after_sending, step, uncontrolled_frame, unless_fault},
  declared.fault.FrameFault.FrameFault,
}
pub use Rattle.macsec_reserve.proofs.{
  HighestOf.{highest-append, highest_of_one},
  Pairs.{no_pairs, one_alone, pairs-append, pairs-head, pairs-tail},
  Reduced.reduced_reserves,
  Steps.{before_stays, by_tests, given_up_stays, keeps_stays, received_step, salt_stays},
  Written.same_octets-refl,
}
pub use Rattle.macsec_reserve.specs.{
  Crashes.IsReservation,
  Entries.{raised_by, reduced},
  Forgetting.{fingerprint, forgetting, forgetting_step, is_done, retired_by, taken, then_forget},
  Histories.{AgreeOnKey, KeepsDurable, newly_sealed, opening, reported, reported_in},
  Histories.{Run, SameSalt, sealed_by, sealed_if},
  Journal.{highest, receiving_name, reservations, salt_of, sending_name},
  Keeping.{endpoint_input, endpoint_output, is_below_floor, Keeping, keeping_step, KeepingInput},
  Keeping.{KeepingOutput, may_go, now_durable},
  Replay.{KeepsAssociation, row_name},
  Unique.HasOtherIv,
  declared.reservation.Reservation.Reservation,
}
pub use Rattle.macsec_ahead.specs.{
  Ahead.{Ahead, ahead_by, ahead_step, before_this_run, begins_again, dropped_not_reserved, ended_after, for_each_row},
  Ahead.{is_through, lets_through, not_yet, passes, Standing, standing, standing_by, standing_of, through},
  Ends.{after_retiring, end_of, end_of_row, ended_by, ended_of, Ends, is_gone, no_ends, with_ends, without_key},
  declared.ends.EndedSa.EndedSa,
}
pub use Rattle.macsec_link.{
  proofs.{
    Deliveries.Grammar,
    EndpointLaws.{EndpointLaws, key_row_facts},
    Members.{contained, IsMember, left_member, member, member_of_map},
    Seals.IsFrom,
    Subsequences.is_subsequence,
  },
  specs.{Genuine.{use_opened, use_opened_in}, Origin.IsSubsequence, World.other_end},
}
pub use Rattle.macsec_counterexamples.proofs.{
  Link.Exchange.{aad, client, iv, key_row, Opens, tag, use_of},
  Link.SealedFrames.{aad_sent, frame_with, items, opens, parts_with, Sealed, sealed, tag_of, with_tag},
  Link.TracedSteps.genuine_at,
  Link.WorkedEnds.{bytes, gcm_a, gcm_b, installed_key, new_key, no_salt, rx_from, sci_a, sci_b, tx_from},
  Restarts.{
    Goes.{AreNew, carried_step, command, frame_step, is_new, is_within, may_send, raised_alone},
    Journals.{journal, salt, says},
    Receivers.name_of,
    Senders.{kept, row_at},
    Tables.{after_commands, all_fit, are_small, begins_sound, commands_sound, first_carried, none_refused, sent_sound},
    Tables.{small, tables_fit},
  },
}
pub use Rattle.macsec_restarts.specs.{
  AheadForgetting.ahead_forgetting_step,
  AheadRuns.{accepted_from, delivery_name, is_valid, newly_accepted, newly_delivered_with},
  Delivered.{delivered_at, delivered_by, Delivery, IsFromSa, MatchesDeliveries},
  Delivered.newly_delivered,
  Happenings.{AtEach, begins, comes_in, Happening, inputs_until, runs_of, same_end},
  Kept.{runs_at, RunWith},
  Order.{HasStrictOrder, numbered_delivery, numbered_sent},
  Origin.WasSent,
  Peers.HasOctets,
  Sent.{newly_sent, Rises, sent_by, sent_under, SentIn},
  Used.seal_of,
}
unfoldable pub use Rattle.{
  sha2.specs.Sha256.{compress, digest_bytes, first_words, hash_after, rounds, schedule, sha256},
  macsec_aes.specs.{
    Aes.{add_round_key, added_word, aes, after_rounds, key_expansion, key_words, mix_columns, rot_word, round_key},
    Aes.{shift_rows, sub_bytes, sub_word, sum_of_words},
    Field.{affine_transformation, byte_product, inverse, polynomial_product, remainder, s_box, sum_below},
  },
  macsec_gcm.specs.{Gcm.pre_counter_block, Octets.sum_with_stream},
}

-- ---- types that are long to write

abbrev pub Inputs : Type 0
Inputs = List KeepingInput

abbrev pub Events : Type 0
Events = List Happening

abbrev pub Uses : Type 0
Uses = List CipherUse

-- what the keeping endpoint answers, and the endpoint after it
abbrev pub Answer : Type 0
Answer = KeepingOutput × Keeping
