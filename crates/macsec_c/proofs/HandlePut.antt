-- `put` stores the pointer, and the handle owns what it points to.
use denote.Builtin.{unit}
use denote.Triple.Clauses.{Clauses, Ended}
use mir.Syntax as m
use Rattle.macsec_c.proofs.{
  Names.{ !, [], alloc_all, assigns, block_ptr, cell_at, closes, done, ends_at, ent, enter, fact, feq_i, fld, flft},
  Names.{frame, free_all, fsplit, fsplit3, ftrue, full_share, get, get_in, ghosts, Goes-dropped, Goes-ref, group},
  Names.{heard, id⊢, join, keep, List, Logic, lone, look_at, move, mut_ref_to, mut_Tells, named, None, nothing},
  Names.{of_opd, opens, owns, pass_all, peeks, plain, proved_at, qed, RattleType, raw, refl, returns, rewrite, says},
  Names.{sets, shows, Some, split, SProp, stay_dropped, stay_ref, Stays, stop, store_in, sub, subst, suffices, sym},
  Names.{tables, the_row as G, the_row_laws as G-laws, through, types_at, unit_lit, Ura, Val, vptr, vunit, walk_of},
  Names.{whole, WpFn, yes, ‵, ◌$◌, ◌++◌, ◌∵◌, ◌∷◌, ◌≡◌, ◌⊛◌},
  Handle.{fn_of, Handle, handle, kept, made, Met, self_at, self_type, sets_to, value_of, word, word_is},
  Values.{both, loose_good, loose_out},
}
use Rattle.macsec_c.proofs.Values.{Loose as LooseOf}

module _ (X : Handle) where
  abbrev R : RattleType
  R = handle X

  abbrev Loose : RattleType
  Loose = LooseOf X.held G G-laws ghosts

  abbrev function : m.Fn
  function = fn_of 2 (kept m.ty_unit ∷ self_type X ∷ kept (lone Loose.mir) ∷ kept m.ty_ptr ∷ [])
      (m.seq (sets_to 3 (m.copy (m.place 2 (m.field 0 ∷ [])))) (m.seq (m.assign (self_at X) (m.rv_opd (value_of 3)))
      (m.seq (sets_to 0 m.opd_unit) m.return)))

  abbrev ended : Ended
  ended = record {
    signature = record {
      lifetimes = 1;
      outlives = [];
      params = mut_ref_to (0 ∷ []) tt (plain (λ _. R)) ∷ plain
          (λ _. Loose) ∷ [];
      result = plain (λ _. unit);
    };
    kept = (yes, (yes, tt));
  }

  abbrev clauses : (M : Type 1) (𝓤 : Ura M) → Logic 𝓤 → Clauses 𝓤 ended
  clauses M 𝓤 𝓛 κs a = record {
    ghost = Unit {0};
    requires = λ _. fact 𝓤 (X.state a.0.now ≡ None);
    ensures = λ _ r e. fact 𝓤 (X.state e.0.now ≡ Some a.1.0.value);
  }

  abbrev stayed : Stays ended.signature.params ended.kept
  stayed = (stay_ref (0 ∷ []) tt (plain (λ _. R)), (stay_dropped (plain (λ _. Loose)) yes, tt))

  pub put : Met ended function clauses
  put M 𝓤 𝓛 𝓜 𝓡 k closed =
      let H = 𝓛.H in let c = clauses M 𝓤 𝓛 in let W = walk_of 𝓛 ended stayed c in let 𝓣 = tables 𝓤 H 𝓜 𝓡 𝓡.env in
      proved_at 𝓛 ended stayed c 𝓜 𝓡 (
        Goes-ref 𝓛 1 0 tt (plain (λ _. R)),
        (Goes-dropped 𝓛 1 (plain (λ _. Loose)) yes (λ κs x e. refl), tt),
      ) k function closed (λ z are.
      let κs = z.0.0 in let qs = z.0.1 in let r = z.0.3.0 in let b = r.ref_ptr.0 in let o = r.ref_ptr.1 in let h = r.now
      in let v = z.0.3.1.0 in
      let Post : Val → SProp 𝓤 = W.post z in let Run : List Val → SProp 𝓤 = λ ws. WpFn 𝓤 H 𝓣.C 𝓣.Λ function ws Post in
      let is_self : z.0.4.0 ≡ vptr b o ∷ [] = mut_Tells (named 0) κs.0 R r z.0.4.0 are.0 in
      qed 𝓛 (((‵ (flft κs.0 qs.0) ⊛ ‵ ftrue) ⊛ ‵ (owns (types_at ended.signature.params κs) z.0.3 z.0.4)) ∷ raw
      (fact 𝓤 (X.state h ≡ None)) ∷ []) ∵
      move ! (1 ∷ []) $ heard ! (X.state h ≡ None) (λ none. split ! $ split ! $ move ! (2 ∷ []) $ fsplit ! $ move !
      (1 ∷ []) $ fsplit ! $
      -- [the loose value; nothing; self; the token; nothing]
      loose_out X.held G G-laws ghosts ! v z.0.4.1.0 (λ b' o' hv at_b is_loose fits. keep ! (0 ∷ 3 ∷ 4 ∷ []) $
      let w : Val = both (vptr b' o') hv in
      let Runs = Run (vptr b o ∷ w ∷ []) in
      suffices ! Runs (subst (λ (us : List Val). ent 𝓤 Runs (Run us)) (sym (λ i. is_self i ++ (is_loose i ++ [])))
      (id⊢ 𝓤 Runs)) $
      enter ! 𝓣.C 𝓣.Λ function (vptr b o ∷ w ∷ []) Post $ alloc_all ! (λ l. pass_all ! refl
      ((tt, tt), (loose_good X.held G G-laws ghosts b' o' hv fits, tt)) $
      sets ! (of_opd ! (get_in ! (fld ! refl (stop !)) (sub ! 0 refl (whole !)))) refl (tt, tt) $
      -- [the value with the right to free it; self; the token]
      move ! (1 ∷ []) $ fsplit3 ! $ move ! (1 ∷ 2 ∷ 4 ∷ []) $ opens ! tt R b o (λ us.
      move ! (1 ∷ []) $ peeks ! R _ (shows 𝓛 R) h us (λ is. fsplit ! $ move ! (1 ∷ []) $
      let Cell = λ (ws : List Val). ‵ (cell_at full_share R.mir ws b o) in
      rewrite ! 2 Cell (word_is X h us is) refl $
      assigns ! (of_opd ! (get ! refl)) (through ! refl (fld ! refl (stop !)))
      (store_in ! 2 (sub ! 0 refl (whole !)) (tt, tt)) $
      sets ! (of_opd ! (unit_lit !)) refl (tt, tt) $
      -- [nothing; what the fields owned; the struct's cell; the open borrow, in three entries; the rest of self; the
      -- value]
      let p = block_ptr b' o' in let after = X.of p (Some v.value) in
      move ! (7 ∷ []) $ made X ! p (Some v.value) $ move ! (3 ∷ 0 ∷ 4 ∷ 5 ∷ 6 ∷ []) $ closes ! tt R after (word p ∷ [])
      b o $
      -- [two parts of self; the token; what it owned; its fields; self's first part]
      returns ! (look_at ! 0 refl) $ free_all ! refl $ keep ! (5 ∷ 0 ∷ 1 ∷ 2 ∷ []) $
      suffices ! _ (ends_at 𝓛 ended stayed c z vunit tt (after, (tt, tt)) (tt, (tt, tt))) $ says !
      (X.state_of p (Some v.value)) $
      group ! 3 $ nothing ! $ nothing ! $ join ! $ move ! (1 ∷ 0 ∷ []) $ join ! $ nothing ! $ move ! (2 ∷ 0 ∷ []) $ join
      ! $ frame ! $ frame ! $
      feq_i ! _ (vunit ∷ []) _ refl $ done !))))))
