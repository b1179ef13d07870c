-- The first 24 octets of a file are read to find its format. The reader for that format then reads the whole file, from
-- a cursor over these octets and then from the source.
use Rattle.std.{
  proofs.Common.{◌≡◌, ℕ, ◌≤◌, List, [], ◌∷◌, ◌++◌, length, drop, refl, sym, ap, subst, ◌∙◌, arith, take-append-drop},
  proofs.Common.{true, false, nat_lt, if◌then◌else◌, Option, Some, None, IfSome, Result, Ok, Err, option_map, le-ltb},
  specs.Fmt.option_append,
}
use Rattle.macsec_pcap.specs.{
  Captures.file_of,
  Filled.IsFilled,
  Limits.header_length,
  Reading.{Opens, Reading},
  declared.fault.PcapFault.{PcapFault, TheVariants.CutHeader},
}
use Rattle.macsec_pcapng.{
  proofs.TakenOctets.fetches,
  specs.{Answers.Fetches, Blocks.is_section, Captures.captures_of, Files.pcapng_of},
}

-- the first four octets decide the format
is_section-append : (front rest : List ℕ) → length front ≡ 24 → is_section (front ++ rest) ≡ is_section front
is_section-append [] rest long = absurd (omega (arith, long))
is_section-append (a ∷ []) rest long = absurd (omega (arith, long))
is_section-append (a ∷ b ∷ []) rest long = absurd (omega (arith, long))
is_section-append (a ∷ b ∷ c ∷ []) rest long = absurd (omega (arith, long))
is_section-append (a ∷ b ∷ c ∷ d ∷ more) rest long = refl

-- `whole` is these octets and then what is left of the source
abbrev pub ComesAgain : List ℕ → Option (List ℕ) → Option (List ℕ) → Type 0
ComesAgain front left whole = (rest : List ℕ) → left ≡ Some rest → whole ≡ Some (front ++ rest)

-- a cursor at the start of these octets, chained with the source, reads so
pub comes_again : (front inner : List ℕ) (pos : ℕ) (left whole : Option (List ℕ)) → whole ≡ option_append (option_map (drop pos) (Some inner)) left →
    pos ≡ 0 → inner ≡ front → ComesAgain front left whole
comes_again front inner pos left whole is begins same = λ rest there.
    is ∙ ap (option_append (option_map (drop pos) (Some inner))) there ∙ ap (λ n. Some (drop n inner ++ rest)) begins ∙ ap (λ xs. Some (xs ++ rest)) same

-- `whole` is the file, which is not cut, and `front` decides its format
record IsWhole (file : List ℕ) (whole : Option (List ℕ)) (front : List ℕ) : Type 0 where
  same : whole ≡ Some file
  long : nat_lt (length file) header_length ≡ false
  format : is_section file ≡ is_section front

is_whole : (file : List ℕ) (left whole : Option (List ℕ)) (front : List ℕ) (n : ℕ) → length front ≡ 24 → 24 ≤ n → IsFilled (Some file) left front n →
    ComesAgain front left whole → IsWhole file whole front
is_whole file left whole front n long enough filled again =
    let fetched : Fetches front file left (Ok tt) = fetches (Some file) left front n (omega (arith, long, enough)) filled in
    let rest = drop (length front) file in
    let joined : file ≡ front ++ rest = sym (take-append-drop (length front) file) ∙ ap (λ xs. xs ++ rest) (sym fetched.1) in record {
      same = again rest fetched.2 ∙ ap Some (sym joined);
      long = le-ltb (length file) header_length (omega (arith, long, fetched.0));
      format = ap is_section joined ∙ is_section-append front rest long;
    }

-- what the reader for the format opens is what the definition of both formats says
pub opens_pcapng : (old left whole : Option (List ℕ)) (front : List ℕ) (n : ℕ) (answer : Result Reading PcapFault) → length front ≡ 24 → 24 ≤ n →
    IsFilled old left front n → ComesAgain front left whole → is_section front ≡ true →
    IfSome whole (λ file. Opens (pcapng_of file) answer) → IfSome old (λ file. Opens (captures_of file) answer)
opens_pcapng None left whole front n answer long enough filled again format opens = tt
opens_pcapng (Some file) left whole front n answer long enough filled again format opens =
    let all : IsWhole file whole front = is_whole file left whole front n long enough filled again in
    let test : is_section file ≡ true = all.format ∙ format in
    subst (λ b. Opens (if b then Err CutHeader else if is_section file then pcapng_of file else file_of file) answer) (sym all.long)
    (subst (λ b. Opens (if b then pcapng_of file else file_of file) answer) (sym test)
    (subst (λ w. IfSome w (λ octets. Opens (pcapng_of octets) answer)) all.same opens))

pub opens_pcap : (old left whole : Option (List ℕ)) (front : List ℕ) (n : ℕ) (answer : Result Reading PcapFault) → length front ≡ 24 → 24 ≤ n →
    IsFilled old left front n → ComesAgain front left whole → is_section front ≡ false →
    IfSome whole (λ file. Opens (file_of file) answer) → IfSome old (λ file. Opens (captures_of file) answer)
opens_pcap None left whole front n answer long enough filled again format opens = tt
opens_pcap (Some file) left whole front n answer long enough filled again format opens =
    let all : IsWhole file whole front = is_whole file left whole front n long enough filled again in
    let test : is_section file ≡ false = all.format ∙ format in
    subst (λ b. Opens (if b then Err CutHeader else if is_section file then pcapng_of file else file_of file) answer) (sym all.long)
    (subst (λ b. Opens (if b then pcapng_of file else file_of file) answer) (sym test)
    (subst (λ w. IfSome w (λ octets. Opens (file_of octets) answer)) all.same opens))
