-- Laws of the SecTAG and of the grammar of frames.
use Rattle.std.specs.Prelude.{◌≡◌, ◌↔◌, ◌<◌, ℕ, List}
use Rattle.std.specs.List.{All}
use Rattle.macsec_tag.specs.Tag.{Tag, IsTag, encoding}
use Rattle.macsec_tag.specs.Frame.{MpduParts, HasLengths, IsTagged, IsUntagged, in_a_row}
use Rattle.macsec_tag.specs.Table.{reading, tagged, untagged}

-- each number is an octet
abbrev pub AreOctets : List ℕ → Type 0
AreOctets xs = All (λ x. x < 256) xs

-- a SecTAG has one encoding, and no two SecTAGs have the same one
abbrev pub SpelledOnce : Tag → Tag → Type 0
SpelledOnce t u = IsTag t → IsTag u → encoding t ≡ encoding u → t ≡ u

-- a frame has at most one reading: it is not tagged with two lists of parts, and not both tagged and untagged
pub record OneReading (frame : List ℕ) : Type 0 where
  pub one : (p q : MpduParts) → IsTagged frame p → IsTagged frame q → p ≡ q
  pub not_both : (p : MpduParts) → IsTagged frame p → IsUntagged frame → ⊥

-- reading a frame assembled from parts gives those parts
abbrev pub ReadAgain : MpduParts → Type 0
ReadAgain p = IsTag p.tag → HasLengths p → reading (in_a_row p) ≡ tagged p

-- the table reads the frame as the grammar does
pub record ReadsByGrammar (frame : List ℕ) : Type 0 where
  pub is_tagged : (p : MpduParts) → (reading frame ≡ tagged p) ↔ IsTagged frame p
  pub is_untagged : (reading frame ≡ untagged) ↔ IsUntagged frame
