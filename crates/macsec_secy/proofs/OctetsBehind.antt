-- A frame of parts without padding, followed by octets, is read as the same parts with the octets as padding.
use Rattle.{
  std.proofs.Common.append-nil,
  macsec_tag.specs.Frame.HasLengths,
  macsec_secy.proofs.Names.{[], ◌++◌, ◌∙◌, ◌≡◌, ap, encoding, in_a_row, IsTag, List, MpduParts, padded_by, ReadAgain},
  macsec_secy.proofs.Names.{reading, tagged, ℕ},
}

row_with : (p : MpduParts) → p.padding ≡ [] → (behind : List ℕ) → in_a_row p ++ behind ≡ in_a_row (padded_by p behind)
row_with p none behind =
    let front : List ℕ = p.da ++ p.sa ++ encoding p.tag ++ p.secure_data ++ p.icv in
    ap (λ (xs : List ℕ). front ++ xs ++ behind) none ∙ ap (λ (xs : List ℕ). xs ++ behind) (append-nil front)

pub read_with : ((p : MpduParts) → ReadAgain p) → (p : MpduParts) → IsTag p.tag → HasLengths p → p.padding ≡ [] → (behind : List ℕ) → (p.tag.sl ≡ 0 → behind ≡ []) →
    reading (in_a_row p ++ behind) ≡ tagged (padded_by p behind)
read_with read_again p tag lengths none behind may =
    ap reading (row_with p none behind)
    ∙ read_again (padded_by p behind) tag
    (record { da = lengths.da; sa = lengths.sa; icv = lengths.icv; short = lengths.short; long = lengths.long; no_padding = may })
