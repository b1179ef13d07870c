-- `is_made` compares the pointer with null.
use denote.Builtin.{bool}
use denote.Triple.Clauses.{Clauses, Ended}
use mir.Syntax as m
use Rattle.macsec_c.proofs.{
  Names.{ !, [], alloc_all, bin, cell_at, closes, done, ends_at, enter, fact, feq_i, fjoin, fld, flft, frame},
  Names.{free_all, fsplit, fsplit3, ftrue, full_share, get, given, Goes-ref, group, is_some, join, keep, learn, List},
  Names.{lit, load, Logic, look_at, look_in, move, mut_ref_to, mut_Tells, mut_vals, MutRef, named, not, nothing},
  Names.{of_opd, opens, owned, pass_all, peeks, plain, proved, ptr_same, ptr_val, qed, RattleType, rawptr_Lawful},
  Names.{refl, returns, rewrite, sem, sep, sets, shows, split, stay_ref, Stays, stop, sub, suffices, sym, tables},
  Names.{tests_null, through, un, Ura, use1, Val, vbool, vnull, walk_of, whole, yes, ‵, ◌$◌, ◌∵◌, ◌∷◌, ◌≡◌, ◌⊛◌},
  Facts.says_two,
  Handle.{fn_of, Handle, handle, kept, Met, self_at, self_type, sets_to, value_of, word_is},
  Owning.{NullTells, null_tells},
}

module _ (X : Handle) where
  abbrev R : RattleType
  R = handle X

  abbrev function : m.Fn
  function = fn_of 1 (kept m.ty_bool ∷ self_type X ∷ kept m.ty_ptr ∷ kept m.ty_bool ∷ [])
      (m.seq (sets_to 2 (m.copy (self_at X))) (m.seq (m.assign (m.place 3 [])
      (m.op2 m.ptr_eq (value_of 2) (m.int m.w64 0)))
      (m.seq (m.assign (m.place 0 []) (m.op1 m.bit_not (value_of 3))) m.return)))

  abbrev ended : Ended
  ended = record {
    signature = record {
      lifetimes = 1;
      outlives = [];
      params = mut_ref_to (0 ∷ []) tt (plain (λ _. R)) ∷ [];
      result =
          plain (λ _. bool);
    };
    kept = (yes, tt);
  }

  abbrev clauses : (M : Type 1) (𝓤 : Ura M) → Logic 𝓤 → Clauses 𝓤 ended
  clauses M 𝓤 𝓛 κs a = record {
    ghost = Unit {0};
    requires = λ _. sem 𝓛 ftrue;
    ensures = λ _ r e. sep 𝓤 (fact 𝓤 (r ≡ is_some (X.state a.0.now))) (fact 𝓤 (e.0.now ≡ a.0.now));
  }

  abbrev stayed : Stays ended.signature.params ended.kept
  stayed = (stay_ref (0 ∷ []) tt (plain (λ _. R)), tt)

  pub is_made : Met ended function clauses
  is_made M 𝓤 𝓛 𝓜 𝓡 k closed =
      let c = clauses M 𝓤 𝓛 in let W = walk_of 𝓛 ended stayed c in let 𝓣 = tables 𝓤 𝓛.H 𝓜 𝓡 𝓡.env in
      proved 𝓛 ended stayed c 𝓜 𝓡 (Goes-ref 𝓛 1 0 tt (plain (λ _. R)), tt) k function closed
      (λ κs. (mut_vals, tt)) (λ κs. (mut_Tells (named 0) κs.0 R, tt)) (λ κs qs bounds a _ are.
      let b = a.0.ref_ptr.0 in let o = a.0.ref_ptr.1 in let h = a.0.now in let vs = mut_vals a.0 in
      let y : W.Ghost = ((κs, qs, bounds, a, (vs, tt)), tt) in
      qed 𝓛 (((‵ (flft κs.0 qs.0) ⊛ ‵ ftrue) ⊛ ‵ ((MutRef (named 0) κs.0 R).own_val a.0 vs) ⊛ ‵ ftrue) ∷ ‵ ftrue ∷ []) ∵
      split ! $ split ! $ move ! (2 ∷ []) $ split ! $ keep ! (0 ∷ 2 ∷ []) $
      enter ! _ _ _ _ _ $ alloc_all ! (λ l. pass_all ! refl ((tt, tt), tt) $
      fsplit3 ! $ move ! (1 ∷ 2 ∷ 3 ∷ []) $ opens ! tt R b o (λ us.
      move ! (1 ∷ []) $ peeks ! R _ (shows 𝓛 R) h us (λ is. fsplit ! $ move ! (1 ∷ []) $
      let is_word = word_is X h us is in
      let Cell = λ (ws : List Val). ‵ (cell_at full_share R.mir ws b o) in
      rewrite ! 2 Cell is_word refl $
      -- [what it owns; what the fields own; the struct's cell; the open borrow, in three entries]
      use1 𝓛 (given (NullTells (X.at h) (X.state h)) (‵ (owned X.held (X.at h) (X.state h))))
      (null_tells 𝓛 X.held (X.at h) (X.state h)) $ learn ! (λ t.
      sets ! (of_opd ! (load ! (through ! refl (fld ! refl (stop !))) (look_in ! 2 (sub ! 0 refl (whole !))))) refl
      ((rawptr_Lawful 𝓛).typed (X.at h) (ptr_val (X.at h) ∷ []) refl).0 $
      sets ! (bin ! (get ! refl) (lit ! tt) (tests_null (X.at h) t.testable)) refl (tt, tt) $
      sets ! (un ! (get ! refl) tt) refl (tt, tt) $
      rewrite ! 2 Cell (sym is_word) refl $
      -- [what it owns; what the fields own; the struct's cell; the open borrow, in three entries]
      move ! (1 ∷ 0 ∷ []) $ fjoin ! $ move ! (1 ∷ []) $ closes ! tt R h us b o $
      -- [two parts of self; the token; self's first part]
      let r = not (ptr_same (ptr_val (X.at h)) vnull) in
      returns ! (look_at ! 0 refl) $ free_all ! refl $ move ! (3 ∷ []) $
      suffices ! _ (ends_at 𝓛 ended stayed c y (vbool r) r (h, tt) (tt, tt)) $ says_two ! (t.is, refl) $
      group ! 3 $ nothing ! $ move ! (1 ∷ 0 ∷ []) $ join ! $ nothing ! $ move ! (2 ∷ 0 ∷ []) $ join ! $ frame ! $ frame
      ! $
      feq_i ! _ (vbool r ∷ []) _ refl $ done !)))))
