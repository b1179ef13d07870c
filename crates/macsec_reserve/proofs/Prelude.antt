-- The names of other crates and of this crate's definitions that several proofs take.
pub use Rattle.std.proofs.{
  Common.{[], ◌&&◌, ◌*◌, ◌++◌, ◌+◌, ◌-◌, ◌/◌, ◌<◌, ◌==◌, ◌^◌, ◌||◌, ◌∙◌, ◌∷◌, ◌≡◌, ◌≤◌, ◌⊎◌, All, AllPairs, ap},
  Common.{append-nil, append_assoc, arith, Bool, codes, Contains, drop, drop_at, eqb-true, false, get_or},
  Common.{if◌then◌else◌, inl, inr, is_some, IsSome, le-leb, leb-true, length, length-append, length-drop},
  Common.{length-take-le, List, map, max, nat_le, nat_lt, None, not, Option, option_map, refl, replicate, rules},
  Common.{slice_range, Some, subst, suc, sym, take, take_all, take_at, true, unwrap_or, vec_capacity, zero, ℕ},
  lemmas.{
    Bool.{and_from, and_parts, or_parts},
    List.{drop-append-le, get_or_default, length-map, map-append, take_more, with_items_is},
    List.Edits.map_over_more,
    List.Elements.{All-append, All-cons, All-contains, All-head, All-map, All-nil, All-tail, All-weaker},
    List.Kept.AllPairs-cons,
    Slice.Eq.bytes_eq-Decides,
  },
}
pub use Rattle.std.specs.{Int.{from_be_bytes, w64}, List.list_any}
pub use Rattle.sha2.proofs.Facts256.{length-sha256}
pub use Rattle.macsec_aes.specs.{Keys.key_bytes, declared.Key.TheVariants.K128}
pub use Rattle.macsec_gcm.specs.Octets.{same_octets}
pub use Rattle.macsec_tag.specs.declared.identifiers.Sci.{Sci}
pub use Rattle.macsec_suite.specs.{
  CipherUses.CipherUse,
  KeyRows.{AreKeyRows, at_number, InstalledKey, IsKeyRow, key_row, max_key_count, new_row, no_key, prepared_key},
  KeyRows.{retired_row, row_noting, suite_of, the_key, with_bytes, with_key},
  Refusals.{has_retired, holds_of, is_number_used, is_repeated, is_retired, retire_refusals},
  Replacing.can_replace,
  Suites.{is_xpn, iv_of, key_length, last_of},
  declared.{key_row.NewKey.NewKey, refusal.Refusal.{Refusal, TheVariants.PnFloor}, suite.Suite.Suite},
}
pub use Rattle.macsec_commands.specs.declared.{
  command.Command.{
    Command,
    TheVariants.{Key, Protect, Replay, Retire, RxDel, RxLow, RxOff, RxOn, RxSa, RxSc, RxScDel, Tag, TxDel, TxOff, TxOn},
    TheVariants.{TxSa, Validate},
  },
  config.EndConfig.EndConfig,
}
pub use Rattle.macsec_tx.specs.{
  Commands.tx_uses,
  Transmit.{keys_after, row_on, Sending, sending, use_sent},
  declared.{TxOptions.TxOptions, TxRow.TxRow},
}
pub use Rattle.macsec_rx.specs.{Channels.is_at, declared.RxRow.RxRow}
pub use Rattle.macsec_secy.proofs.{
  AfterCommands.{none_hold, true_from_not},
  Contained.{behind, first},
  KeysApart.octets_same,
  KeysKept.{field_kept, same_number},
  OtherOctets.{alike, row-map},
}
pub use Rattle.macsec_secy.specs.{
  Agrees.Agrees,
  Commands.{effect, refusal, unless_refused, uses},
  GivenUp.{IsGivenUp, RepeatsAlike, replacing},
  Jobs.OpensFrame,
  Kept.{KeysAreApart, KeysStay},
  Laws.{number_unless_fault, number_used, UsedNumber},
  Reception.{judgement_of, state_after_receiving},
  Sound.IsSound,
  State.{State, tx_options},
  Step.{client_frame, command_output, done, frame_fault, Input, leaves, link_frame, operator_command, Output},
  Step.{received_output, refused, sending_of, sent_output, state_after_sending, step, uncontrolled_frame, unless_fault},
  declared.fault.FrameFault.FrameFault,
}
pub use Rattle.macsec_reserve.specs.{
  Compaction.IsCompacted,
  Crashes.IsReservation,
  Entries.{has_entry, raised_by, reduced, with_all},
  Forgetting.{as_taken, can_forget, fingerprint, fingerprint_of, forgetting, forgetting_step, is_done, is_done_output},
  Forgetting.{is_forgotten, key_of_fingerprint},
  Forgotten.{installing, installs_retired, without_forgetting},
  Histories.{AgreeOnKey, AgreeOnKeys, closing, IsHistory, KeepsDurable, newly_sealed, opening, reported, reported_in},
  Histories.{Run, SameSalt, sealed_by, sealed_from, sealed_if, sealed_in, sealed_in_all, StaysSound},
  Journal.{check_of, highest, is_journal, receiving_name, record_of, records_of, reservations, reserved_in},
  Journal.{reserved_within, salt_of, sending_name, title},
  Keeping.{begins_at, dropped_no_reservation, endpoint_input, endpoint_output, for_each_key, is_below_floor, Keeping},
  Keeping.{keeping_after, keeping_step, KeepingInput, KeepingOutput, key_name, may_go, may_use, nothing_yet},
  Keeping.{now_durable, uses_reserved, wanted_for, was_reserved, with_step},
  Names.{entry_of, HasNames, IsAtHand, IsKept, name_or_none, name_row, named, renamed},
  Replay.{row_name, saved_for},
  Unique.HasOtherIv,
  declared.{keeper.{AtHand.AtHand, NamedKey.NamedKey}, reservation.Reservation.Reservation},
}
