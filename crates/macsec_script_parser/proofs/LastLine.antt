-- The lines of a text are its parts between line feeds, except an empty last one.
use Rattle.{
  std.proofs.{
    Common.{◌≡◌, ◌==◌, ℕ, ◌-◌, List, [], ◌∷◌, length, take, map, suc, refl, sym, ap, ◌∙◌, subst, arith, Bool, true},
    Common.{false, cond, if◌then◌else◌, Option, Some, None},
    lemmas.{List.{length-map, take-map}, Option.{none-some, same_Some, slice_get-map, slice_get-get_or}},
  },
  std.specs.{Borrow.Bor, List.{slice_get, slice_split}, Option.{option_copied, option_map}},
  macsec_script_parser.specs.Words.{is_empty, lines_of},
}

abbrev pub trimmed : List (List ℕ) → List (List ℕ)
trimmed [] = []
trimmed (line ∷ []) = if is_empty line then [] else line ∷ []
trimmed (line ∷ next ∷ more) = line ∷ trimmed (next ∷ more)

abbrev pub pieces_of : List ℕ → List (List ℕ)
pieces_of text = slice_split (λ octet. octet == 10) text

cons_cond : (b : Bool) (line : List ℕ) (p q : List (List ℕ)) → line ∷ cond b p q ≡ cond b (line ∷ p) (line ∷ q)
cons_cond true line p q = refl
cons_cond false line p q = refl

-- the last line stays unless it is empty
trimmed-last : (lines : List (List ℕ)) (last : List ℕ) → slice_get lines (length lines - 1) ≡ Some last →
    trimmed lines ≡ cond (is_empty last) (take (length lines - 1) lines) lines
trimmed-last [] last h = absurd (none-some last h)
trimmed-last (line ∷ []) last h = ap (λ l. cond (is_empty l) [] (line ∷ [])) (same_Some line last h)
trimmed-last (line ∷ next ∷ more) last h =
    let whole : length (line ∷ next ∷ more) - 1 ≡ suc (length more) = omega arith in
    let part : length (next ∷ more) - 1 ≡ length more = omega arith in
    let here = rw whole at h in
    let there : slice_get (next ∷ more) (length (next ∷ more) - 1) ≡ Some last = rw part here in
    let tail = rw part at (trimmed-last (next ∷ more) last there) in
    rw whole (ap (λ ls. line ∷ ls) tail ∙ cons_cond (is_empty last) line (take (length more) (next ∷ more)) (next ∷ more))

abbrev seen : List (Bor (List ℕ)) → List (List ℕ)
seen lines = map (λ line. line.now) lines

seen_last : (lines : List (Bor (List ℕ))) (last : Bor (List ℕ)) → slice_get lines (length lines - 1) ≡ Some last →
    slice_get (seen lines) (length (seen lines) - 1) ≡ Some last.now
seen_last lines last h =
    let now = λ (line : Bor (List ℕ)). line.now in
    rw (length-map lines now) (slice_get-map now lines (length lines - 1) ∙ ap (option_map now) h)

-- the result of `last`
pub last_seen : (lines lent : List (Bor (List ℕ))) (r : Option (Bor (Bor (List ℕ)))) → option_copied r ≡ slice_get lent (length lent - 1) →
    lent ≡ lines → option_copied r ≡ slice_get lines (length lines - 1)
last_seen lines lent r value same =
    let P : List (Bor (List ℕ)) → Type 0 = λ ls. option_copied r ≡ slice_get ls (length ls - 1) in subst P same value

-- an empty last part was left out
pub without_last : (lines : List (Bor (List ℕ))) (text : List ℕ) (last : Bor (List ℕ)) (n : ℕ) → n ≡ length lines → seen lines ≡ pieces_of text →
    slice_get lines (length lines - 1) ≡ Some last → is_empty last.now ≡ true → seen (take (n - 1) lines) ≡ lines_of text
without_last lines text last n all_of all there empty =
    let v : Bor (List ℕ) → List ℕ = λ line. line.now in
    rw all_of
    (sym (sym (ap trimmed all) ∙ trimmed-last (seen lines) last.now (seen_last lines last there)
    ∙ ap (λ b. cond b (take (length (seen lines) - 1) (seen lines)) (seen lines)) empty
    ∙ ap (λ m. take (m - 1) (seen lines)) (length-map lines v) ∙ take-map v (length lines - 1) lines))

-- the last part is a line
pub with_last : (lines : List (Bor (List ℕ))) (text : List ℕ) (last : Bor (List ℕ)) → seen lines ≡ pieces_of text →
    slice_get lines (length lines - 1) ≡ Some last → is_empty last.now ≡ false → seen lines ≡ lines_of text
with_last lines text last all there full =
    sym (sym (ap trimmed all) ∙ trimmed-last (seen lines) last.now (seen_last lines last there)
    ∙ ap (λ b. cond b (take (length (seen lines) - 1) (seen lines)) (seen lines)) full)

-- there is no part
pub without_lines : (lines : List (Bor (List ℕ))) (text : List ℕ) → seen lines ≡ pieces_of text →
    slice_get lines (length lines - 1) ≡ None → seen lines ≡ lines_of text
without_lines [] text all none = ap trimmed all
without_lines (line ∷ more) text all none =
    absurd (none-some _ (sym none ∙ slice_get-get_or (line ∷ more) (length (line ∷ more) - 1) line (omega arith)))
