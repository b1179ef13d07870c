-- What was sent under a key, by its packet numbers, and what was delivered of it.
use Rattle.macsec_link.proofs.Subsequences.{EachIs, IsAt}
use Rattle.macsec_restarts.proofs.Names.{[], ◌<◌, ◌∙◌, ◌∷◌, ◌≡◌, All, All-head, All-tail, AllPairs, AllPairs-filter}
use Rattle.macsec_restarts.proofs.Names.{arith, Bool, bytes_eq-Decides, contained, Delivery, get_or, left_member}
use Rattle.macsec_restarts.proofs.Names.{length, List, map, member, numbered_delivery, numbered_sent, Rises}
use Rattle.macsec_restarts.proofs.Names.{same_octets, same_octets-refl, sent_under, SentIn, sym, true, WasSent, ℕ}
use Rattle.macsec_restarts.proofs.RowSteps.{all_pass}
use Rattle.std.proofs.lemmas.List.{get_or_default}

-- ---- a subsequence of what was sent under a key

module _ (bytes : List ℕ) where
  abbrev is_under : SentIn → Bool
  is_under x = same_octets x.seal.key bytes

  pub rising : (sends : List SentIn) → AllPairs Rises sends → AllPairs (λ (x y : SentIn). x.number < y.number)
      (sent_under bytes sends)
  rising sends pairs i j d less within =
      let kept = AllPairs-filter Rises is_under sends pairs in
      let pass = all_pass is_under sends in
      let key : (k : ℕ) → k < length (sent_under bytes sends) → (get_or (sent_under bytes sends) k d).seal.key ≡ bytes =
      λ k within'. (bytes_eq-Decides _ bytes).0 (pass k d within') in
      kept i j d less within (key i (omega (arith, less, within)) ∙ sym (key j within))

  found : (sends : List SentIn) (g : Delivery) → WasSent sends bytes g.frame g.number →
      (p : ℕ) × IsAt (λ x. x.number) numbered_sent (sent_under bytes sends) g.number (numbered_delivery g) p
  found sends g it =
      let passes : is_under it.send ≡ true = rw (it.under, same_octets-refl bytes) in
      let there = contained _ it.send (left_member is_under sends it.send (member sends it.send it.among) passes) in (
        there.0,
        record {
          within = there.1;
          item = it.send;
          there = λ d. get_or_default (sent_under bytes sends) there.0 d it.send there.1 ∙ there.2;
          of_number = it.of_number;
          of_frame = rw (it.of_number, it.of_frame);
        },
      )

  pub each_found : (sends : List SentIn) (ds : List Delivery) → All (λ d. WasSent sends bytes d.frame d.number) ds →
      EachIs (λ (d : Delivery) (f : List ℕ). (p : ℕ) × IsAt (λ x. x.number) numbered_sent
      (sent_under bytes sends) d.number f p) ds (map numbered_delivery ds)
  each_found _ [] _ = tt
  each_found sends (d ∷ ds) all = (
    found sends d (All-head (λ x. WasSent sends bytes x.frame x.number) d ds all),
    each_found sends ds (All-tail (λ x. WasSent sends bytes x.frame x.number) d ds all),
  )
