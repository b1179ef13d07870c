-- What counts as sealed.
use Rattle.{
  std.proofs.{
    Common.{List, ◌++◌, map, All, Contains},
    lemmas.List.Elements.{All-contains_itself, All-weaker, Contains-append_cases, Contains-append_left},
    lemmas.List.Elements.Contains-append_right,
  },
  macsec_suite.specs.CipherUses.CipherUse,
  macsec_restarts.specs.{RenewingRuns.sent_by_all, Used.seal_of},
  macsec_forgery.specs.Under.{SealedByBothHasAll, SealedByBothHasNoOther},
}

in_both : (xs ys : List CipherUse) → All (Contains (xs ++ ys)) xs × All (Contains (xs ++ ys)) ys
in_both xs ys = (
  All-weaker (Contains xs) (Contains (xs ++ ys)) (λ u here. Contains-append_left xs ys u here) xs
      (All-contains_itself xs),
  All-weaker (Contains ys) (Contains (xs ++ ys)) (λ u here. Contains-append_right xs ys u here) ys
      (All-contains_itself ys),
)

pub sealed_by_both_has_all : SealedByBothHasAll
sealed_by_both_has_all ra rb = in_both (map seal_of (sent_by_all ra)) (map seal_of (sent_by_all rb))

pub sealed_by_both_has_no_other : SealedByBothHasNoOther
sealed_by_both_has_no_other ra rb u there =
    Contains-append_cases (map seal_of (sent_by_all ra)) (map seal_of (sent_by_all rb)) u there
