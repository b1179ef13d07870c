-- Octets that are written over the end of an array.
use borrow.Rule.Slice.PartMut.{put_mid}
use Rattle.std.proofs.Common.{◌≡◌, ℕ, List, [], ◌++◌, length, drop, ap, ◌∙◌, arith, append-nil, drop_at, length-drop}
use Rattle.std.proofs.Common.{take_at}
use Rattle.macsec_journal.proofs.Pieces.{none_left}

pub over_end : (n k : ℕ) (a z b : List ℕ) → length a ≡ n → length z ≡ k → put_mid n k (a ++ z) b ≡ a ++ b
over_end n k a z b a_long z_long =
    let rest : drop k (drop n (a ++ z)) ≡ [] = ap (λ xs. drop k xs) (drop_at a z n a_long) ∙ none_left (drop k z)
    (omega (arith, length-drop k z, z_long)) in
    ap (λ xs. xs ++ (b ++ drop k (drop n (a ++ z)))) (take_at a z n a_long) ∙ ap (λ xs. a ++ (b ++ xs)) rest ∙ ap
    (λ xs. a ++ xs) (append-nil b)
