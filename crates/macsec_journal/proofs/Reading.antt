-- How a count is read.
use Rattle.std.proofs.Common.{◌≡◌, ℕ, Bool, false, List, [], ◌∷◌, ap, sym, ◌∙◌, Option, Some, None}
use Rattle.std.specs.Option.{option_to_list}
use Rattle.macsec_reserve.specs.{Journal.reserved_in, declared.reservation.Reservation.Reservation}
use Rattle.macsec_journal.specs.Format.{agrees, slot_of_count}

pub reads_no_count : (octets slot : List ℕ) (found : Option Reservation) → option_to_list found ≡ reserved_in slot →
    slot ≡ slot_of_count octets → found ≡ None →
    false ≡ agrees (reserved_in (slot_of_count octets)) octets
reads_no_count octets slot found read same none =
    ap (λ (o : Option Reservation). agrees (option_to_list o) octets) (sym none) ∙ ap (λ rs. agrees rs octets)
    (read ∙ ap reserved_in same)

pub reads_count : (octets slot : List ℕ) (found : Option Reservation) (count : Reservation) (b : Bool) → option_to_list
    found ≡ reserved_in slot → slot ≡ slot_of_count octets → found ≡ Some count →
    b ≡ agrees (count ∷ []) octets → b ≡ agrees (reserved_in (slot_of_count octets)) octets
reads_count octets slot found count b read same some is =
    is ∙ ap (λ (o : Option Reservation). agrees (option_to_list o) octets) (sym some) ∙ ap (λ rs. agrees rs octets)
    (read ∙ ap reserved_in same)
