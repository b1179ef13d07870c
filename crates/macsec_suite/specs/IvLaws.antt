-- A law of IVs: what two frames with equal IVs under one suite have in common.
use Rattle.std.specs.Prelude.{◌≡◌, ℕ, ◌^◌, ◌<◌, ◌≤◌, List, length, true, false}
use Rattle.macsec_tag.specs.declared.identifiers.Sci.{Sci}
use Rattle.macsec_suite.specs.declared.suite.Suite.{Suite}
use Rattle.macsec_suite.specs.Suites.{is_xpn, iv_of, last_of}

-- what the IV of a frame is computed from: SCI, SSCI, salt and packet number
pub record IvParts : Type 0 where
  pub sci : Sci
  pub ssci : ℕ
  pub salt : List ℕ
  pub pn : ℕ

abbrev pub iv_of_parts : Suite → IvParts → List ℕ
iv_of_parts suite p = iv_of suite p.sci p.ssci p.salt p.pn

-- the SCI has 8 octets, the SSCI 32 bits, the salt 12 octets, and the packet number is at most the suite's last one
pub record AreIvParts (suite : Suite) (p : IvParts) : Type 0 where
  pub sci : length p.sci.0 ≡ 8
  pub ssci : p.ssci < 2 ^ 32
  pub salt : length p.salt ≡ 12
  pub pn : p.pn ≤ last_of suite

-- the packet numbers are equal, and so are the SCIs, or with extended packet numbers the SSCIs
pub record HaveSameSender (suite : Suite) (p q : IvParts) : Type 0 where
  pub pn : p.pn ≡ q.pn
  pub sci : is_xpn suite ≡ false → p.sci ≡ q.sci
  pub ssci : is_xpn suite ≡ true → p.ssci ≡ q.ssci

-- two frames with equal IVs (and equal salts, if packet numbers are extended) have the same packet number and sender
abbrev pub EqualIvs : Suite → IvParts → IvParts → Type 0
EqualIvs suite p q =
    AreIvParts suite p → AreIvParts suite q → (is_xpn suite ≡ true → p.salt ≡ q.salt) → iv_of_parts suite p ≡ iv_of_parts suite q → HaveSameSender suite p q
