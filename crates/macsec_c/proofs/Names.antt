-- The names of other crates and of this crate's definitions that several proofs take.
pub use Rattle.{
  std.proofs.{
    Common.{[], ◌∙◌, ◌∷◌, ◌≡◌, ap, is_some, IsSome, List, lit<, MutBor, None, not, Option, refl, rules, Some, subst},
    Common.{sym, ℕ},
    BoxSteps.Steps.{box_in, box_out},
    Crossing.frees,
    GlobalToken.dealloc_token-Testable,
    Handle.{heap_Tells, heap_val},
    alloc.{Calls.{Goes-blank, handle_tells}, Global.TheLaws.the_row_laws},
    cell.Inside.Good,
    raw_atomic.Walks.{proved, proved_at},
  },
  std.specs.{Box.Ownership.box_owns, contracts.{alloc.Global.the_row, impls.GlobalAllocator.TheImpl.ghosts}},
  macsec_c.specs.{Answers.after_input, Lending.RestsAs, Owned.{boxed, freeing, heap, owned}},
}
pub use base.{
  Fml.{fat, feq, fex, flft, Fml, fsep, ftrue, GName},
  Fraction.full_share,
  Logic.{emp, ent, fst∗, guard, guard_i, id⊢, never, never_e, sep, snd∗, SProp, via},
  Shift.Keyless,
}
pub use contract.{Lifetimes.Lfts, Monad.{fact, fact_i, fact_use}, Running.tables}
pub use denote.{
  Builtin.{RawPtr, u32, u8},
  Exit.{Exit, hidden, leaves, no, unchanged, under, yes},
  Follow.{follows, lends_Part, Part},
  Laws.shows,
  Memory.{cell_at, lone, mem, part_at, pointee},
  Param.{bounded, layout, param},
  Param.{Laws.param_laws, Send.{IsSend, owning_send, part_keyless, plain_send, Quiet, struct_send}},
  Plain.uint_Makes,
  RattleType.{owns, RattleType, Valss},
  RawPtr.{block_ptr, in_a_block, lies_at, null_ptr, Ptr, ptr_val, rawptr_Lawful, Testable, tests_null},
  Ref.{mut_Tells, mut_vals, MutRef},
  Signature.{mut_ref_to, named_lft, plain, shr_slice_of, types_at},
  Slice.{shr_slice_Lawful, shr_slice_Tells, shr_slice_vals, ShrSlice},
  Steps.{closes, heard, nothing, only, opens, peeks},
  Struct.{Owning.{fields, shape, to}, Struct.{exits_of, within}},
  Triple.{
    Call.calls_at,
    Clauses.{Lasts, lasts},
    Spec.triple_of,
    Table.framed,
    Walked.{ends_at, Goes-dropped, Goes-ref, Goes-spent_ref, says, stay_dropped, stay_ref, Stays, walk_of},
  },
}
pub use lib.Dec.{T}
pub use mathlib.Core.List.{◌++◌}
pub use mir.{
  MapTy.inst_fn,
  Syntax.{a_type, dcons, dnil, named},
  Val.{of_list, ptr_same, Val, vbool, vcons, vint, vnil, vnull, vptr, vstruct, vunit},
}
pub use package.mir.{Syntax.{erased, w32}, Val.{has_ty, WT}}
pub use prog.Wp.{WpFn}
pub use seplogic.Ra.Ura.{Ura}
pub use types.{
  ByLocal.{alloc_all, env, free_all, get, get_in, lands_as, look_at, pass_all, sets, sets_last, through},
  Kit.{ !, ‵, ◌$◌, ◌∵◌, ◌⊛◌, at_ret, await, by, check, done, drop, feq_i, feq_l, fjoin, fpack, fpick, frame, fsplit},
  Kit.{fsplit3, given, Goal, group, Item, join, keep, later, learn, move, pick, qed, raw, rewrite, some, split, split3},
  Kit.{Step, step, suffices, use1, use2},
  Logic.{Logic, sem},
  Part.{agg, look_in, store_in, sub, whole},
  Run.{addr, and_then, assigns, bin, blocks, enter, exec, first, fld, lit, load, no_more, of_opd, returns, stop, store},
  Run.{un, unit_lit},
}
unfoldable pub use denote.Memory.{part_of}
