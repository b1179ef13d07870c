-- The SecTAG and its encoding (IEEE 802.1AE, 9.3 to 9.9). Octets are numbers in a list.
use Rattle.std.specs.Prelude.{◌≡◌, ℕ, ◌+◌, ◌^◌, ◌<◌, List, [], ◌∷◌, ◌++◌, length, Bool, false, Option, Some, None, is_some, IsSome, if◌then◌else◌}
use Rattle.std.specs.Option.{ForSome}
use Rattle.std.specs.Int.{w32, to_be_bytes}
use Rattle.macsec_tag.specs.declared.identifiers.Sci.{Sci}

-- the fields of a SecTAG: the bits ES, SCB, E and C, the association number, the short length, the 32 bits of the PN
-- field, and the SCI if there is one
pub record Tag : Type 0 where
  pub es : Bool
  pub scb : Bool
  pub e : Bool
  pub c : Bool
  pub an : ℕ
  pub sl : ℕ
  pub pn : ℕ
  pub sci : Option Sci

-- the valid SecTAGs: if there is an SCI, ES and SCB are clear (9.5)
pub record IsTag (t : Tag) : Type 0 where
  pub an : t.an < 4
  pub sl : t.sl < 48
  pub pn : t.pn < 2 ^ 32
  pub sci_octets : ForSome t.sci (λ s. length s.0 ≡ 8)
  pub no_es : IsSome t.sci → t.es ≡ false
  pub no_scb : IsSome t.sci → t.scb ≡ false

-- the bits of the octet of TCI and AN (9.5); the version bit is clear in every SecTAG
abbrev pub v_bit : ℕ
v_bit = 0x80

abbrev pub es_bit : ℕ
es_bit = 0x40

abbrev pub sc_bit : ℕ
sc_bit = 0x20

abbrev pub scb_bit : ℕ
scb_bit = 0x10

abbrev pub e_bit : ℕ
e_bit = 0x08

abbrev pub c_bit : ℕ
c_bit = 0x04

-- the bit if it is set, otherwise 0
abbrev pub bit_where : Bool → ℕ → ℕ
bit_where b bit = if b then bit else 0

-- the octet of TCI and AN; SC is set if the SecTAG carries the SCI (9.5, 9.6)
abbrev pub tci_an : Tag → ℕ
tci_an t =
    bit_where t.es es_bit + bit_where (is_some t.sci) sc_bit + bit_where t.scb scb_bit +
    bit_where t.e e_bit + bit_where t.c c_bit + t.an

abbrev pub sci_octets : Option Sci → List ℕ
sci_octets None = []
sci_octets (Some sci) = sci.0

-- the 8 or 16 octets of a SecTAG: MACsec EtherType, TCI and AN, SL, PN, SCI (9.3)
abbrev pub encoding : Tag → List ℕ
encoding t = 0x88 ∷ 0xe5 ∷ tci_an t ∷ t.sl ∷ to_be_bytes w32 t.pn ++ sci_octets t.sci

abbrev pub tag_from : Bool → Bool → Bool → Bool → ℕ → ℕ → ℕ → Option Sci → Tag
tag_from es scb e c an sl pn sci = record { es = es; scb = scb; e = e; c = c; an = an; sl = sl; pn = pn; sci = sci }
