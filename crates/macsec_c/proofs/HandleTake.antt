-- `take` returns the pointer and what it owns, and leaves null.
use denote.Triple.Clauses.{Clauses, Ended}
use mir.Syntax as m
use Rattle.macsec_c.proofs.{
  Names.{ !, [], agg, alloc_all, and_then, ap, assigns, block_ptr, boxed, cell_at, closes, done, ends_at, ent, enter},
  Names.{fact, feq_i, fld, flft, frame, free_all, freeing, fsplit, fsplit3, fst∗, ftrue, full_share, get, ghosts},
  Names.{Goes-dropped, Goes-ref, group, heap_Tells, heap_val, heard, id⊢, in_a_block, IsSome, join, keep, List, lit},
  Names.{lit<, load, Logic, lone, look_at, look_in, move, mut_ref_to, mut_Tells, named, never, no_more, None, nothing},
  Names.{null_ptr, of_opd, opens, Option, owned, owns, pass_all, peeks, plain, proved_at, Ptr, qed, RattleType, raw},
  Names.{refl, returns, rewrite, sem, sep, sets, shows, Some, split, SProp, stay_dropped, stay_ref, Stays, stop},
  Names.{store_in, sub, subst, suffices, sym, tables, the_row as G, the_row_laws as G-laws, through, types_at, Ura},
  Names.{Val, vptr, walk_of, whole, WpFn, yes, ‵, ◌$◌, ◌++◌, ◌∙◌, ◌∵◌, ◌∷◌, ◌≡◌, ◌⊛◌},
  Facts.says_two,
  Handle.{fn_of, Handle, handle, kept, made, Met, self_at, self_type, sets_to, value_of, word, word_is},
  Owning.there,
  Values.{both, loose_good, loose_in},
}
use Rattle.macsec_c.proofs.Values.{Loose as LooseOf}

module _ (X : Handle) where
  abbrev R : RattleType
  R = handle X

  abbrev Loose : RattleType
  Loose = LooseOf X.held G G-laws ghosts

  abbrev function : m.Fn
  function = fn_of 2 (kept (lone Loose.mir) ∷ self_type X ∷ kept (lone G.mir) ∷ kept m.ty_ptr ∷ kept m.ty_ptr ∷ [])
      (m.seq (sets_to 4 (m.copy (self_at X))) (m.seq (sets_to 3 (value_of 4))
      (m.seq (m.assign (self_at X) (m.rv_opd (m.int m.w64 0)))
      (m.seq (m.assign (m.place 0 []) (m.aggregate (value_of 3 ∷ value_of 2 ∷ []))) m.return))))

  abbrev ended : Ended
  ended = record {
    signature = record {
      lifetimes = 1;
      outlives = [];
      params = mut_ref_to (0 ∷ []) tt (plain (λ _. R)) ∷ plain (λ _. G)
          ∷ [];
      result = plain (λ _. Loose);
    };
    kept = (yes, (yes, tt));
  }

  abbrev clauses : (M : Type 1) (𝓤 : Ura M) → Logic 𝓤 → Clauses 𝓤 ended
  clauses M 𝓤 𝓛 κs a = record {
    ghost = Unit {0};
    requires = λ _. fact 𝓤 (IsSome (X.state a.0.now));
    ensures = λ _ r e. sep 𝓤 (fact 𝓤 (X.state a.0.now ≡ Some r.value)) (fact 𝓤 (X.state e.0.now ≡ None));
  }

  abbrev stayed : Stays ended.signature.params ended.kept
  stayed = (stay_ref (0 ∷ []) tt (plain (λ _. R)), (stay_dropped (plain (λ _. G)) yes, tt))

  pub take : Met ended function clauses
  take M 𝓤 𝓛 𝓜 𝓡 k closed =
      let H = 𝓛.H in let c = clauses M 𝓤 𝓛 in let W = walk_of 𝓛 ended stayed c in let 𝓣 = tables 𝓤 H 𝓜 𝓡 𝓡.env in
      proved_at 𝓛 ended stayed c 𝓜 𝓡 (
        Goes-ref 𝓛 1 0 tt (plain (λ _. R)),
        (Goes-dropped 𝓛 1 (plain (λ _. G)) yes (λ κs x e. refl), tt),
      ) k function closed (λ z are.
      let κs = z.0.0 in let qs = z.0.1 in let r = z.0.3.0 in let b = r.ref_ptr.0 in let o = r.ref_ptr.1 in let h = r.now
      in let a = z.0.3.1.0 in
      let Post : Val → SProp 𝓤 = W.post z in let Run : List Val → SProp 𝓤 = λ ws. WpFn 𝓤 H 𝓣.C 𝓣.Λ function ws Post in
      let is_self : z.0.4.0 ≡ vptr b o ∷ [] = mut_Tells (named 0) κs.0 R r z.0.4.0 are.0 in
      let is_heap : z.0.4.1.0 ≡ heap_val ∷ [] = heap_Tells a z.0.4.1.0 are.1.0 in
      qed 𝓛 (((‵ (flft κs.0 qs.0) ⊛ ‵ ftrue) ⊛ ‵ (owns (types_at ended.signature.params κs) z.0.3 z.0.4)) ∷ raw
      (fact 𝓤 (IsSome (X.state h))) ∷ []) ∵
      move ! (1 ∷ []) $ heard ! (IsSome (X.state h)) (λ some_state. let found = there (X.state h) some_state in let s =
      found.0 in
      split ! $ split ! $ move ! (2 ∷ []) $ fsplit ! $ move ! (1 ∷ []) $ fsplit ! $ keep ! (2 ∷ 0 ∷ 3 ∷ []) $
      rewrite ! 1 (λ (ws : List Val). ‵ (G.own_val a ws)) is_heap refl $
      -- [self; the allocator; the token]
      let Runs = Run (vptr b o ∷ heap_val ∷ []) in
      suffices ! Runs (subst (λ (us : List Val). ent 𝓤 Runs (Run us)) (sym (λ i. is_self i ++ (is_heap i ++ [])))
      (id⊢ 𝓤 Runs)) $
      enter ! 𝓣.C 𝓣.Λ function (vptr b o ∷ heap_val ∷ []) Post $ alloc_all !
      (λ l. pass_all ! refl ((tt, tt), ((tt, ((tt, tt), tt)), tt)) $
      fsplit3 ! $ move ! (1 ∷ 2 ∷ 4 ∷ []) $ opens ! tt R b o (λ us.
      move ! (1 ∷ []) $ peeks ! R _ (shows 𝓛 R) h us (λ is. fsplit ! $ move ! (1 ∷ []) $
      rewrite ! 0 (λ (t : Option X.held.Denot). ‵ (owned X.held (X.at h) t)) found.1 refl $
      in_a_block ! (X.at h) (λ p. boxed X.held p s) (fst∗ 𝓤 (never 𝓤) (sem 𝓛 (freeing X.held null_ptr))) (λ b' o' at_b.
      let Cell = λ (ws : List Val). ‵ (cell_at full_share R.mir ws b o) in
      rewrite ! 2 Cell (word_is X h us is ∙ ap (λ (p : Ptr). word p ∷ []) at_b) refl $
      -- [the value; what the fields own; the struct's cell; the open borrow, in three entries; the rest of self; the
      -- allocator]
      sets ! (of_opd ! (load ! (through ! refl (fld ! refl (stop !))) (look_in ! 2 (sub ! 0 refl (whole !))))) refl
      (tt, tt) $
      sets ! (of_opd ! (get ! refl)) refl (tt, tt) $
      assigns ! (of_opd ! (lit ! tt)) (through ! refl (fld ! refl (stop !)))
      (store_in ! 2 (sub ! 0 refl (whole !)) (tt, record { fits = lit< tt })) $
      sets ! (agg ! (and_then ! (get ! refl) (and_then ! (get ! refl) (no_more !)))) refl
      (loose_good X.held G G-laws ghosts b' o' heap_val (tt, ((tt, tt), tt))) $
      let after = X.of null_ptr None in
      feq_i ! Ptr null_ptr null_ptr refl $ made X ! null_ptr None $
      move ! (3 ∷ 0 ∷ 4 ∷ 5 ∷ 6 ∷ []) $ closes ! tt R after (word null_ptr ∷ []) b o $
      move ! (3 ∷ 6 ∷ []) $ loose_in X.held G G-laws ghosts ! b' o' heap_val a s $
      -- [the loose value; two parts of self; the token; its fields; self's first part]
      returns ! (look_at ! 0 refl) $ free_all ! refl $ keep ! (5 ∷ 1 ∷ 2 ∷ 3 ∷ 0 ∷ []) $
      let taken : Loose.Denot = record { at = block_ptr b' o'; alloc = a; value = s } in
      suffices ! _ (ends_at 𝓛 ended stayed c z (both (vptr b' o') heap_val) taken (after, (tt, tt)) (tt, (tt, tt))) $
      says_two ! (found.1, X.state_of null_ptr None) $ group ! 3 $ nothing ! $ nothing ! $ join ! $ move ! (1 ∷ 0 ∷ [])
      $ join ! $ nothing ! $ move ! (2 ∷ 0 ∷ []) $ join ! $ frame ! $ frame ! $
      done !))))))
