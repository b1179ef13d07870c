-- Lemmas on SCIs and on the list of SCs.
use Rattle.{
  std.proofs.Common.{◌≡◌, ◌∙◌, ℕ, Bool, true, false, cond, List, [], ◌∷◌, ◌++◌, refl, sym, ap, filter, not, eq-eqb},
  std.proofs.lemmas.{Bool.or_parts, List.Folds.list_any-append, Map.Views.any-filter_same},
  std.specs.Cmp.Lexicographic.same_text,
  macsec_gcm.specs.Octets.same_octets,
  macsec_tag.specs.declared.identifiers.Sci.Sci,
  macsec_commands.specs.Scis.IsSci,
  macsec_rx.specs.{Channels.same_sci, Commands.has_channel, Rows.AreScis},
}

same_octets-refl : (xs : List ℕ) → same_octets xs xs ≡ true
same_octets-refl [] = refl
same_octets-refl (x ∷ xs) = rw (eq-eqb x x refl, same_octets-refl xs) refl

pub same_sci-refl : (s : Sci) → same_sci s s ≡ true
same_sci-refl s = same_octets-refl s.0

pub one_sci : (s t : Sci) → same_sci s t ≡ true → s ≡ t
one_sci s t same = ap {B = Sci} (λ octets. record { 0 = octets }) (same_text s.0 t.0 (sym same))

pub other_sci : (s t : Sci) → same_sci s t ≡ false → same_sci t s ≡ false
other_sci s t other = by_test (same_sci t s) refl
  where
    by_test : (b : Bool) → same_sci t s ≡ b → b ≡ false
    by_test true same = absurd (let e : same_sci s t ≡ true = rw (one_sci t s same) (same_sci-refl s) in let no = sym e ∙ other in cc)
    by_test false same = refl

-- an SC with a new SCI can be added
pub joined_scis : (scis : List Sci) (sci : Sci) → AreScis scis → IsSci sci → has_channel scis sci ≡ false → AreScis (scis ++ sci ∷ [])
joined_scis [] sci h good free = (good, refl, tt)
joined_scis (s ∷ scis) sci h good free =
    let parts = or_parts (same_sci s sci) (has_channel scis sci) free in
    (h.0, list_any-append (λ t. same_sci t s) scis (sci ∷ []) ∙ rw (h.1, other_sci s sci parts.0) refl, joined_scis scis sci h.2 good parts.1)

-- adding an SC keeps the others
pub still_channel : (scis : List Sci) (sci s : Sci) → has_channel scis s ≡ true → has_channel (scis ++ sci ∷ []) s ≡ true
still_channel scis sci s there = list_any-append (λ t. same_sci t s) scis (sci ∷ []) ∙ rw there refl

-- deleting an SC keeps the others
pub other_channel : (scis : List Sci) (sci s : Sci) → has_channel scis s ≡ true → not (same_sci s sci) ≡ true → has_channel (filter (λ t. not (same_sci t sci)) scis) s ≡ true
other_channel scis sci s there other =
    any-filter_same (λ t. same_sci t s) (λ t. not (same_sci t sci)) true (λ t same. rw (one_sci t s same) other) scis ∙ there

not_among_filter : (p : Sci → Bool) (scis : List Sci) (s : Sci) → has_channel scis s ≡ false → has_channel (filter p scis) s ≡ false
not_among_filter p [] s free = refl
not_among_filter p (t ∷ scis) s free =
    let parts = or_parts (same_sci t s) (has_channel scis s) free in
    by_test (p t) (filter p scis) parts.0 (not_among_filter p scis s parts.1)
  where
    by_test : (b : Bool) (kept : List Sci) → same_sci t s ≡ false → has_channel kept s ≡ false → has_channel (cond b (t ∷ kept) kept) s ≡ false
    by_test true kept other rest = rw other rest
    by_test false kept other rest = rest

-- deleting SCs keeps the SCIs distinct
pub kept_scis : (p : Sci → Bool) (scis : List Sci) → AreScis scis → AreScis (filter p scis)
kept_scis p [] h = tt
kept_scis p (s ∷ scis) h = by_test (p s) (filter p scis) (not_among_filter p scis s h.1) (kept_scis p scis h.2)
  where
    by_test : (b : Bool) (kept : List Sci) → has_channel kept s ≡ false → AreScis kept → AreScis (cond b (s ∷ kept) kept)
    by_test true kept free h' = (h.0, free, h')
    by_test false kept free h' = h'
