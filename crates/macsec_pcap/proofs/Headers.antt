-- The header depends on the first 24 octets only.
use Rattle.std.proofs.Common.{◌≡◌, ℕ, ◌≤◌, List, ◌++◌, length, take, drop, refl, sym, ap, ◌∙◌, arith, length-append}
use Rattle.std.proofs.Common.{take-append-drop, Option, Some, None, IfSome, Result, Ok, Err, le-ltb}
use Rattle.macsec_pcap.proofs.{FilledRooms.filled_whole, NumbersAt.{number-append, number-drop-append}}
use Rattle.macsec_pcap.specs.{
  Answers.{ReadsHeader, UnlessRead},
  Filled.IsFilled,
  Header.{form_of, header_in, header_of},
  declared.fault.PcapFault.{PcapFault, TheVariants.Read},
  declared.form.{Form.Form, Order.TheVariants.{Big, Little}},
}

-- `meant` is returned
pub UnlessRead-same : {X : Type 0} {meant : Result X PcapFault} (answer : Result X PcapFault) → answer ≡ meant → UnlessRead meant answer
UnlessRead-same (Ok x) same = same
UnlessRead-same (Err Read) same = tt
UnlessRead-same (Err fault) same = same

form_of-append : (header rest : List ℕ) → 4 ≤ length header → form_of (header ++ rest) ≡ form_of header
form_of-append header rest long = rw (number-append Big 4 header rest long, number-append Little 4 header rest long)

header_in-append : (form : Option Form) (header rest : List ℕ) → 24 ≤ length header → header_in form (header ++ rest) ≡ header_in form header
header_in-append None header rest long = refl
header_in-append (Some form) header rest long =
    rw (
      number-drop-append form.order 2 4 header rest (omega (arith, long)),
      number-drop-append form.order 2 6 header rest (omega (arith, long)),
      number-drop-append form.order 4 20 header rest (omega (arith, long)),
    )

pub header_of-append : (header rest : List ℕ) → 24 ≤ length header → header_of (header ++ rest) ≡ header_of header
header_of-append header rest long =
    rw (
      le-ltb (length header) 24 long,
      le-ltb (length (header ++ rest)) 24 (omega (arith, long, length-append header rest)),
      form_of-append header rest (omega (arith, long)),
    ) (header_in-append (form_of header) header rest long)

-- the header of a file is the header of its first 24 octets
header_of-take : (file header : List ℕ) → length header ≡ 24 → take (length header) file ≡ header → header_of file ≡ header_of header
header_of-take file header long front =
    let joined : file ≡ header ++ drop (length header) file = sym (take-append-drop (length header) file) ∙ ap (λ xs. xs ++ drop (length header) file) front in
    ap header_of joined ∙ header_of-append header (drop (length header) file) (omega (arith, long))

reads : (file : List ℕ) (new : Option (List ℕ)) (answer : Result Form PcapFault) → header_of file ≡ answer → new ≡ Some (drop 24 file) → ReadsHeader file new answer
reads file new (Ok form) same left = (same, left)
reads file new (Err fault) same left = UnlessRead-same (Err fault) (sym same)

-- a header was read completely
pub reads_header : (old new : Option (List ℕ)) (header : List ℕ) (n : ℕ) (answer : Result Form PcapFault) → length header ≡ 24 → 24 ≤ n →
    IsFilled old new header n → answer ≡ header_of header → IfSome old (λ file. ReadsHeader file new answer)
reads_header None new header n answer long whole filled is = tt
reads_header (Some file) new header n answer long whole filled is =
    let full = filled_whole file new header n filled (omega (arith, long, whole)) in
    reads file new answer (header_of-take file header long full.front ∙ sym is) (full.left ∙ ap (λ k. Some (drop k file)) long)
