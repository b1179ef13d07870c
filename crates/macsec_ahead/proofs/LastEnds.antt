-- The highest end among the first entries, and one more; the ends of one more SA.
use Rattle.{
  std.proofs.{
    Common.{◌≡◌, ℕ, ◌+◌, ◌<◌, Bool, true, false, cond, List, [], ◌∷◌, ◌++◌, length, map, filter, take, drop, get_or},
    Common.{refl, ap, sym, ◌∙◌, arith, max, if◌then◌else◌},
    lemmas.List.{drop_more, take_more},
  },
  macsec_tag.specs.declared.identifiers.Sci.Sci,
  macsec_rx.specs.declared.RxRow.RxRow,
  macsec_secy.specs.State.State,
  macsec_ahead.specs.{
    Ends.{Ends, ended_of, ends_among, is_gone, is_of, is_under, last_end, last_under, with_ends},
    declared.ends.{EndedKey.EndedKey, EndedSa.EndedSa},
  },
}

pub last_end-append : (es fs : List EndedSa) (key : ℕ) (sci : Sci) (an : ℕ) → last_end (es ++ fs) key sci an ≡ max (last_end es key sci an) (last_end fs key sci an)
last_end-append [] fs key sci an = omega arith
last_end-append (e ∷ es) fs key sci an = by_test (is_of key sci an e) (last_end-append es fs key sci an)
  where
    by_test : (b : Bool) → last_end (es ++ fs) key sci an ≡ max (last_end es key sci an) (last_end fs key sci an) →
        (if b then max e.last (last_end (es ++ fs) key sci an) else last_end (es ++ fs) key sci an) ≡
        max (if b then max e.last (last_end es key sci an) else last_end es key sci an) (last_end fs key sci an)
    by_test true rest = omega (arith, rest)
    by_test false rest = rest

pub last_under-append : (es fs : List EndedKey) (key : ℕ) → last_under (es ++ fs) key ≡ max (last_under es key) (last_under fs key)
last_under-append [] fs key = omega arith
last_under-append (e ∷ es) fs key = by_test (is_under key e) (last_under-append es fs key)
  where
    by_test : (b : Bool) → last_under (es ++ fs) key ≡ max (last_under es key) (last_under fs key) →
        (if b then max e.last (last_under (es ++ fs) key) else last_under (es ++ fs) key) ≡ max (if b then max e.last (last_under es key) else last_under es key) (last_under fs key)
    by_test true rest = omega (arith, rest)
    by_test false rest = rest

pub last_end-more : (es : List EndedSa) (i : ℕ) (e : EndedSa) (key : ℕ) (sci : Sci) (an before after : ℕ) → i < length es → e ≡ get_or es i e → before ≡ last_end (take i es) key sci an →
    after ≡ max before (last_end (e ∷ []) key sci an) → after ≡ last_end (take (i + 1) es) key sci an
last_end-more es i e key sci an before after less is_item is_before is_after =
    is_after
    ∙ ap (λ m. max m (last_end (e ∷ []) key sci an)) is_before
    ∙ sym (last_end-append (take i es) (e ∷ []) key sci an)
    ∙ ap (λ (x : EndedSa). last_end (take i es ++ x ∷ []) key sci an) is_item
    ∙ ap (λ fs. last_end fs key sci an) (sym (take_more es i e less))

pub last_under-more : (es : List EndedKey) (i : ℕ) (e : EndedKey) (key before after : ℕ) → i < length es → e ≡ get_or es i e → before ≡ last_under (take i es) key →
    after ≡ max before (last_under (e ∷ []) key) → after ≡ last_under (take (i + 1) es) key
last_under-more es i e key before after less is_item is_before is_after =
    is_after
    ∙ ap (λ m. max m (last_under (e ∷ []) key)) is_before
    ∙ sym (last_under-append (take i es) (e ∷ []) key)
    ∙ ap (λ (x : EndedKey). last_under (take i es ++ x ∷ []) key) is_item
    ∙ ap (λ fs. last_under fs key) (sym (take_more es i e less))

-- the ends of the first of the other SAs, and then the ends of the rest
pub ends_one_more : (s : State) (rows : List RxRow) (i : ℕ) (row : RxRow) (t after : Ends) → i < length rows → row ≡ get_or rows i row → after ≡ with_ends (ends_among s (row ∷ [])) t →
    with_ends (ends_among s (drop i rows)) t ≡ with_ends (ends_among s (drop (i + 1) rows)) after
ends_one_more s rows i row t after less is_row is_after =
    ap (λ (rs : List RxRow). with_ends (ends_among s rs) t) (drop_more rows i row less ∙ ap (λ (r : RxRow). r ∷ rest) (sym is_row))
    ∙ by_test (is_gone s row)
    ∙ ap (λ (u : Ends). with_ends (ends_among s rest) u) (sym is_after)
  where
    rest : List RxRow
    rest = drop (i + 1) rows

    by_test : (b : Bool) → with_ends (map ended_of (cond b (row ∷ filter (is_gone s) rest) (filter (is_gone s) rest))) t ≡
        with_ends (ends_among s rest) (with_ends (map ended_of (cond b (row ∷ []) [])) t)
    by_test true = refl
    by_test false = refl
