-- `held`, `key` and `slot` return a borrow of what the handle holds, and the handle has the value that the borrow
-- leaves.
use denote.Triple.Clauses.{Clauses, Ended}
use mir.Syntax as m
use Rattle.std.specs.Borrow.{Lends}
use Rattle.macsec_c.proofs.{
  Names.{ !, [], addr, alloc_all, ap, at_ret, await, block_ptr, blocks, boxed, cell_at, done, drop, ends_at, ent},
  Names.{enter, env, erased, exec, fact, first, fjoin, fld, flft, Fml, follows, fpack, frame, free_all, freeing, fsep},
  Names.{fsplit, fsplit3, fst∗, ftrue, full_share, get, GName, Goes-spent_ref, group, heard, id⊢, in_a_block, IsSome},
  Names.{join, keep, later, lends_Part, List, load, Logic, lone, look_at, look_in, mem, move, mut_ref_to, mut_Tells},
  Names.{mut_vals, MutBor, MutRef, named, never, no, nothing, null_ptr, of_opd, opens, Option, owned, Part, part_at},
  Names.{part_of, pass_all, peeks, pick, plain, pointee, proved, Ptr, qed, RattleType, raw, refl, returns, rewrite},
  Names.{says, sem, sep, sets, sets_last, shows, Some, some, split, split3, stay_dropped, Stays, stop, sub, suffices},
  Names.{sym, tables, through, Ura, use1, Val, vptr, walk_of, whole, ‵, ℕ, ◌$◌, ◌∙◌, ◌∵◌, ◌∷◌, ◌≡◌, ◌⊛◌},
  Handle.{Fields, fn_of, Handle, handle, kept, Met, self_at, self_type, sets_to, value_of, word, word_is},
  Owning.there,
}

module _ (X : Handle) where
  abbrev R : RattleType
  R = handle X

  abbrev N : RattleType
  N = X.held

  abbrev rest : m.Body
  rest = m.seq (sets_to 0 (value_of 2)) m.return

  abbrev function : m.Fn
  function = fn_of 1 (kept (m.ty_ref (named 0) m.mut (pointee N.written)) ∷ self_type X ∷ kept
      (m.ty_ref erased m.mut (pointee N.written)) ∷ kept m.ty_ptr ∷ [])
      (m.seq (m.block (m.seq (sets_to 3 (m.copy (self_at X))) (m.assign (m.place 2 [])
      (m.addr_of (m.place 3 (m.deref (lone N.mir) ∷ [])))))) rest)

  abbrev ended : Ended
  ended = record {
    signature = record {
      lifetimes = 1;
      outlives = [];
      params = mut_ref_to (0 ∷ []) tt (plain (λ _. R)) ∷ [];
      result =
          mut_ref_to (0 ∷ []) tt (plain (λ _. N));
    };
    kept = (no, tt);
  }

  -- the handle, with another value held
  abbrev with_state : X.struct.D → N.Denot → X.struct.D
  with_state h w = X.of (X.at h) (Some w)

  abbrev clauses : (M : Type 1) (𝓤 : Ura M) → Logic 𝓤 → Clauses 𝓤 ended
  clauses M 𝓤 𝓛 κs a = record {
    ghost = Unit {0};
    requires = λ _. fact 𝓤 (IsSome (X.state a.0.now));
    ensures = λ _ r e. sep 𝓤 (sem 𝓛 (Lends R N a.0 r (with_state a.0.now))) (fact 𝓤 (X.state a.0.now ≡ Some r.now));
  }

  abbrev stayed : Stays ended.signature.params ended.kept
  stayed = (stay_dropped (mut_ref_to (0 ∷ []) tt (plain (λ _. R))) no, tt)

  module _ {M' : Type 1} {𝓤 : Ura M'} (𝓛 : Logic 𝓤) (h : X.struct.D) (us : List Val) (b o b' o' : ℕ)
      (at_b : X.at h ≡ block_ptr b' o') where
    -- what the handle owns, without the value itself
    abbrev Rest : Fml
    Rest = fsep (freeing N (block_ptr b' o')) (fsep (Fields X (X.at h) us) (cell_at full_share R.mir us b o))

    back : (w : N.Denot) → ent 𝓤 (sep 𝓤 (sem 𝓛 ((mem N).own_at w b' o')) (sem 𝓛 Rest))
        (sem 𝓛 ((mem R).own_at (with_state h w) b o))
    unfolding part_of
    back w = let Owns : Ptr → Option N.Denot → Fml = λ p t. fsep (Fields X p us) (owned N p t) in
        qed 𝓛 (‵ (part_at N full_share w b' o') ∷ ‵ Rest ∷ []) ∵ move ! (1 ∷ []) $ fsplit ! $ move ! (2 ∷ 0 ∷ []) $
        fjoin ! $
        rewrite ! 0 (λ (p : Ptr). ‵ (boxed N p w)) (sym at_b) refl $ move ! (1 ∷ []) $ fsplit ! $ move ! (0 ∷ 2 ∷ []) $
        fjoin ! $
        rewrite ! 0 (λ (p : Ptr). ‵ (Owns p (Some w))) (sym (X.at_of (X.at h) (Some w))) refl $
        rewrite ! 0 (λ (t : Option N.Denot). ‵ (Owns (X.at (with_state h w)) t)) (sym (X.state_of (X.at h) (Some w)))
        refl $ move ! (1 ∷ 0 ∷ []) $ fjoin ! $
        fpack ! (List Val) (λ ws. fsep (cell_at full_share R.mir ws b o) (R.own_val (with_state h w) ws)) us $ done !

  pub lends : Met ended function clauses
  lends M 𝓤 𝓛 𝓜 𝓡 k closed =
      let c = clauses M 𝓤 𝓛 in let W = walk_of 𝓛 ended stayed c in let 𝓣 = tables 𝓤 𝓛.H 𝓜 𝓡 𝓡.env in
      proved 𝓛 ended stayed c 𝓜 𝓡 (Goes-spent_ref 𝓛 1 (0 ∷ []) tt (plain (λ _. R)), tt) k function closed
      (λ κs. (mut_vals, tt)) (λ κs. (mut_Tells (named 0) κs.0 R, tt)) (λ κs qs bounds a _ are.
      let κ = κs.0 in let q = qs.0 in let b = a.0.ref_ptr.0 in let o = a.0.ref_ptr.1 in let γ = a.0.ghost_name in let h
      = a.0.now in let vs = mut_vals a.0 in
      let y : W.Ghost = ((κs, qs, bounds, a, (vs, tt)), tt) in
      qed 𝓛 (((‵ (flft κ q) ⊛ ‵ ftrue) ⊛ ‵ ((MutRef (named 0) κ R).own_val a.0 vs) ⊛ ‵ ftrue) ∷ raw
      (fact 𝓤 (IsSome (X.state h))) ∷ []) ∵
      move ! (1 ∷ []) $ heard ! (IsSome (X.state h)) (λ some_state. let found = there (X.state h) some_state in let s =
      found.0 in
      split ! $ split ! $ move ! (2 ∷ []) $ split ! $ keep ! (0 ∷ 2 ∷ []) $
      enter ! _ _ _ _ _ $ alloc_all ! (λ l. pass_all ! refl ((tt, tt), tt) $
      fsplit3 ! $ drop ! $ move ! (0 ∷ 1 ∷ 2 ∷ []) $ opens ! tt R b o (λ us.
      move ! (1 ∷ []) $ peeks ! R _ (shows 𝓛 R) h us (λ is. fsplit ! $ move ! (1 ∷ []) $
      rewrite ! 0 (λ (t : Option N.Denot). ‵ (owned N (X.at h) t)) found.1 refl $
      in_a_block ! (X.at h) (λ p. boxed N p s) (fst∗ 𝓤 (never 𝓤) (sem 𝓛 (freeing N null_ptr))) (λ b' o' at_b. fsplit ! $
      let is_word = word_is X h us is ∙ ap (λ (p : Ptr). word p ∷ []) at_b in
      let Cell = λ (ws : List Val). ‵ (cell_at full_share R.mir ws b o) in
      rewrite ! 3 Cell is_word refl $
      -- [the value; the right to free it; what the fields own; the struct's cell; the open borrow, in three entries]
      first ! $ blocks ! $
      sets ! (of_opd ! (load ! (through ! refl (fld ! refl (stop !))) (look_in ! 3 (sub ! 0 refl (whole !))))) refl
      (tt, tt) $
      sets_last ! (addr ! (through ! refl (stop !))) refl (tt, tt) $
      exec ! 𝓣.C 𝓣.Λ (env function.locals l) rest (at_ret _ (W.post y)) $
      sets ! (of_opd ! (get ! refl)) refl (tt, tt) $
      rewrite ! 3 Cell (sym is_word) refl $
      move ! (2 ∷ 3 ∷ []) $ fjoin ! $ move ! (2 ∷ 0 ∷ []) $ fjoin ! $ move ! (2 ∷ 3 ∷ 4 ∷ 1 ∷ 0 ∷ []) $ group ! 5 $
      let Left = sem 𝓛 (Rest 𝓛 h us b o b' o' at_b) in
      let Lent = λ (γ' : GName). Part 𝓛 R N (with_state h) (named 0) κ q b o b' o' γ Left (back 𝓛 h us b o b' o' at_b) s
      γ' in
      use1 𝓛 (later (some (λ (γ' : GName). raw (Lent γ'))))
      (lends_Part 𝓛 R N (with_state h) (named 0) κ q b o b' o' γ Left (back 𝓛 h us b o b' o' at_b) (R.coded.code h)
      (R.coded.code h) s) $
      await ! tt $ pick ! (λ γ'.
      returns ! (look_at ! 0 refl) $ free_all ! refl $ keep ! (0 ∷ []) $
      let r : MutBor N.Denot = record { ref_ptr = (b', o'); ghost_name = γ'; now = s } in
      use1 𝓛 (‵ ((MutRef (named 0) κ N).own_val r (vptr b' o' ∷ [])) ⊛ ‵ (flft κ q) ⊛ ‵
      (follows R N γ γ' (with_state h))) (id⊢ 𝓤 (Lent γ')) $ split3 ! $
      suffices ! _ (ends_at 𝓛 ended stayed c y (vptr b' o') r (tt, tt) (tt, tt)) $
      nothing ! $ nothing ! $ fjoin ! $ join ! $ nothing ! $ move ! (2 ∷ 0 ∷ []) $ join ! $ join ! $ frame ! $ says !
      found.1 $ done !)))))))
