-- Buffers that are filled from a reader by several reads.
use Rattle.{
  std.proofs.{
    Common.{◌≡◌, ℕ, ◌+◌, ◌≤◌, List, [], ◌++◌, length, take, drop, refl, sym, ap, subst, ◌∙◌, arith, length-append},
    Common.{append-nil, Option, Some, None, length-take-le, take_at, drop_at},
    KnownBytes.Consumes-trans,
    Math.Seq.take-append-add,
    lemmas.List.take-append-le,
  },
  std.specs.Io.KnownBytes.Consumes,
  macsec_pcap.specs.Filled.IsFilled,
}

-- the front of a buffer after a read to the octets after its first n
take-read : (room read rest : List ℕ) (n count : ℕ) → n ≤ length room → count ≤ length read → take (n + count) (take n room ++ (read ++ rest)) ≡ take n room ++ take count read
take-read room read rest n count fits within =
    let long : length (take n room) ≡ n = length-take-le n room fits in
    subst (λ k. take (k + count) (take n room ++ (read ++ rest)) ≡ take n room ++ take count read) long
    (take-append-add (take n room) (read ++ rest) count ∙ ap (λ front. take n room ++ front) (take-append-le count read rest within))

-- the buffer's least length after that read
pub length-read : (room read rest : List ℕ) (n count : ℕ) → n ≤ length room → count ≤ length read → n + count ≤ length (take n room ++ (read ++ rest))
length-read room read rest n count fits within =
    omega (arith, length-append (take n room) (read ++ rest), length-append read rest, length-take-le n room fits)

-- what two reads returned, one after the other
pub Consumes-more : (a b c : Option (List ℕ)) (room read rest : List ℕ) (n count : ℕ) → n ≤ length room → count ≤ length read →
    Consumes a b (take n room) → Consumes b c (take count read) → Consumes a c (take (n + count) (take n room ++ (read ++ rest)))
Consumes-more a b c room read rest n count fits within first second =
    subst (Consumes a c) (sym (take-read room read rest n count fits within)) (Consumes-trans a b c (take n room) (take count read) first second)

-- a full buffer holds the first of the reader's octets
pub record IsFullOf (octets : List ℕ) (new : Option (List ℕ)) (room : List ℕ) : Type 0 where
  pub left : new ≡ Some (drop (length room) octets)
  pub front : take (length room) octets ≡ room
  pub long : length room ≤ length octets

full_of : (octets ys room front : List ℕ) → octets ≡ front ++ ys → front ≡ room → IsFullOf octets (Some ys) room
full_of octets ys room front joined same =
    let whole : octets ≡ room ++ ys = joined ∙ ap (λ xs. xs ++ ys) same in record {
      left = ap Some (sym (ap (drop (length room)) whole ∙ drop_at room ys _ refl));
      front = ap (take (length room)) whole ∙ take_at room ys _ refl;
      long = omega (arith, ap length whole, length-append room ys);
    }

pub filled_whole : (octets : List ℕ) (new : Option (List ℕ)) (room : List ℕ) (n : ℕ) → IsFilled (Some octets) new room n → length room ≤ n → IsFullOf octets new room
filled_whole octets None room n filled whole = absurd filled.octets
filled_whole octets (Some ys) room n filled whole =
    let all : n ≡ length room = omega (arith, filled.fits) in
    full_of octets ys room (take n room) filled.octets (ap (λ k. take k room) all ∙ take_all room)
  where
    take_all : (xs : List ℕ) → take (length xs) xs ≡ xs
    take_all xs = ap (take (length xs)) (sym (append-nil xs)) ∙ take_at xs [] _ refl
