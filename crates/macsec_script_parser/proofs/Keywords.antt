-- Unknown keywords.
use Rattle.std.proofs.{
  Common.{◌≡◌, ℕ, List, [], ◌++◌, Bool, true, ap, sym, subst, ◌∙◌, bytes_eq, Result, Ok, Err},
  lemmas.{List.Elements.filter-append, Slice.Eq.bytes_eq-Decides},
}
use Rattle.macsec_script_parser.specs.{
  Kinds.{Kind, kinds_of, read_as, read_line},
  Readings.Reads,
  declared.lines.{Line.Line, LineFault.{LineFault, TheVariants.{Word, Count, Hex, Number, Ends, LineLong, Memory}}},
}

-- a keyword that is in none of three parts of a table
pub none_of_three : (xs ys zs : List Kind) (keyword : List ℕ) (words : List (List ℕ)) → kinds_of xs keyword ≡ [] → kinds_of ys keyword ≡ [] →
    kinds_of zs keyword ≡ [] → read_line (xs ++ (ys ++ zs)) keyword words ≡ Err Word
none_of_three xs ys zs keyword words p q r =
    ap (λ kinds. read_as kinds words)
    (filter-append (λ kind. bytes_eq kind.keyword keyword) xs (ys ++ zs) ∙ ap (λ l. l ++ kinds_of (ys ++ zs) keyword) p
    ∙ filter-append (λ kind. bytes_eq kind.keyword keyword) ys zs ∙ ap (λ l. l ++ kinds_of zs keyword) q ∙ r)

-- what holds for the letters of a word holds for a keyword with these letters
pub at_word : (P : List ℕ → Type 0) (keyword letters : List ℕ) (test : Bool) → test ≡ bytes_eq letters keyword → test ≡ true → P letters → P keyword
at_word P keyword letters test is same of_letters = subst P ((bytes_eq-Decides letters keyword).0 (sym is ∙ same)) of_letters

-- the result of a reading that needs no memory
pub reads_itself : (meant line : Result Line LineFault) → line ≡ meant → Reads meant line
reads_itself meant (Ok x) same = sym same
reads_itself meant (Err Memory) same = tt
reads_itself meant (Err Word) same = sym same
reads_itself meant (Err Count) same = sym same
reads_itself meant (Err Hex) same = sym same
reads_itself meant (Err Number) same = sym same
reads_itself meant (Err Ends) same = sym same
reads_itself meant (Err LineLong) same = sym same
