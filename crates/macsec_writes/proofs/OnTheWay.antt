-- Octets that are written in several pieces.
use Rattle.std.proofs.{
  Common.{◌≡◌, ℕ, ◌-◌, List, [], ◌++◌, length, take, drop, sym, ap, subst, ◌∙◌, append_assoc, append-nil},
  Common.{take-append-drop, Option},
  KnownBytes.{Appends-kept, Appends-trans},
  Transfers.starts_with_of_append,
  lemmas.List.take_rest,
}
use Rattle.std.specs.Io.KnownBytes.{Appends, Keeps}
use Rattle.macsec_writes.specs.Fronts.{AppendsFront}

-- the octets before the rest were written
pub record IsOnTheWay (old now : Option (List ℕ)) (octets rest : List ℕ) : Type 0 where
  pub front : List ℕ
  pub whole : octets ≡ front ++ rest
  pub adds : Appends old now front

-- a write of n octets
pub more_written : (old now new : Option (List ℕ)) (octets rest : List ℕ) (n : ℕ) → IsOnTheWay old now octets rest → Appends now new (take n rest) →
    IsOnTheWay old new octets (take (length rest - n) (drop n rest))
more_written old now new octets rest n way adds = record {
  front = way.front ++ take n rest;
  whole =
      way.whole ∙ ap (λ l. way.front ++ l) (sym (take-append-drop n rest)) ∙ sym (append_assoc way.front (take n rest) (drop n rest))
      ∙ ap (λ l. (way.front ++ take n rest) ++ l) (sym (take_rest rest n));
  adds = Appends-trans old now new way.front (take n rest) way.adds adds;
}

-- a write of no octet
pub still_written : (old now new : Option (List ℕ)) (octets rest : List ℕ) → IsOnTheWay old now octets rest → Keeps now new → IsOnTheWay old new octets rest
still_written old now new octets rest way keeps = record {
  front = way.front;
  whole = way.whole;
  adds = Appends-kept old now new way.front way.adds keeps;
}

pub all_written : (old now : Option (List ℕ)) (octets rest : List ℕ) → IsOnTheWay old now octets rest → rest ≡ [] → Appends old now octets
all_written old now octets rest way none =
    subst (Appends old now) (sym (way.whole ∙ ap (λ l. way.front ++ l) none ∙ append-nil way.front)) way.adds

pub front_written : (old now : Option (List ℕ)) (octets rest : List ℕ) → IsOnTheWay old now octets rest → AppendsFront old now octets
front_written old now octets rest way = (way.front, starts_with_of_append octets way.front rest way.whole, way.adds)
