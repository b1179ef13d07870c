-- If two octet lists that each begin with a SecTAG are equal, the octets after the SecTAGs are equal.
use Rattle.{
  std.specs.Option.ForSome,
  macsec_tag.specs.Tag.{Tag, bit_where, c_bit, e_bit, es_bit, sc_bit, scb_bit},
  macsec_secy.proofs.Names.{◌++◌, ◌+◌, ◌<◌, ◌∙◌, ◌≡◌, ◌≤◌, ap, arith, Bool, drop, drop_at, encoding, false, get_or},
  macsec_secy.proofs.Names.{is_some, IsTag, length, length-append, List, None, Option, refl, Sci, sci_octets, Some},
  macsec_secy.proofs.Names.{sym, take, take_at, tci_an, to_be_bytes, true, w32, ℕ},
}

pub same_back : (a b x y : List ℕ) → length a ≡ length b → a ++ x ≡ b ++ y → x ≡ y
same_back a b x y long e = sym (drop_at a x (length b) long) ∙ ap (drop (length b)) e ∙ drop_at b y (length b) refl

pub same_front : (a b x y : List ℕ) → length a ≡ length b → a ++ x ≡ b ++ y → a ≡ b
same_front a b x y long e = sym (take_at a x (length b) long) ∙ ap (take (length b)) e ∙ take_at b y (length b) refl

-- the octet of TCI and AN determines the length of a SecTAG
abbrev sci_length : Bool → ℕ
sci_length true = 8
sci_length false = 0

sci_is_long : (sci : Option Sci) → ForSome sci (λ s. length s.0 ≡ 8) → length (sci_octets sci) ≡ sci_length (is_some sci)
sci_is_long None eight = refl
sci_is_long (Some s) eight = eight s refl

encoding_length : (t : Tag) → IsTag t → length (encoding t) ≡ 8 + sci_length (is_some t.sci)
encoding_length t is =
    let four : length (to_be_bytes w32 t.pn) ≡ 4 = refl in
    omega (arith, four, length-append (to_be_bytes w32 t.pn) (sci_octets t.sci), sci_is_long t.sci is.sci_octets)

-- the octet of TCI and AN with these bits and this association number
abbrev octet_of : Bool → Bool → Bool → Bool → Bool → ℕ → ℕ
octet_of es sc scb e c an = bit_where es es_bit + bit_where sc sc_bit + bit_where scb scb_bit + bit_where e e_bit + bit_where c c_bit + an

bit_most : (b : Bool) (bit : ℕ) → bit_where b bit ≤ bit
bit_most true bit = omega arith
bit_most false bit = omega arith

-- octets with SC set and with SC clear differ, since the bits below SC add up to less than SC
apart : (es scb e c es' scb' e' c' : Bool) (an an' : ℕ) → an < 4 → an' < 4 → octet_of es true scb e c an ≡ octet_of es' false scb' e' c' an' → ⊥
apart true scb e c true scb' e' c' an an' small small' same =
    omega (arith, same, small, small', bit_most scb scb_bit, bit_most e e_bit, bit_most c c_bit, bit_most scb' scb_bit, bit_most e' e_bit, bit_most c' c_bit)
apart true scb e c false scb' e' c' an an' small small' same =
    omega (arith, same, small, small', bit_most scb scb_bit, bit_most e e_bit, bit_most c c_bit, bit_most scb' scb_bit, bit_most e' e_bit, bit_most c' c_bit)
apart false scb e c true scb' e' c' an an' small small' same =
    omega (arith, same, small, small', bit_most scb scb_bit, bit_most e e_bit, bit_most c c_bit, bit_most scb' scb_bit, bit_most e' e_bit, bit_most c' c_bit)
apart false scb e c false scb' e' c' an an' small small' same =
    omega (arith, same, small, small', bit_most scb scb_bit, bit_most e e_bit, bit_most c c_bit, bit_most scb' scb_bit, bit_most e' e_bit, bit_most c' c_bit)

same_sc : (es sc scb e c es' sc' scb' e' c' : Bool) (an an' : ℕ) → an < 4 → an' < 4 → octet_of es sc scb e c an ≡ octet_of es' sc' scb' e' c' an' → sc ≡ sc'
same_sc es true scb e c es' true scb' e' c' an an' small small' same = refl
same_sc es true scb e c es' false scb' e' c' an an' small small' same = absurd (apart es scb e c es' scb' e' c' an an' small small' same)
same_sc es false scb e c es' true scb' e' c' an an' small small' same = absurd (apart es' scb' e' c' es scb e c an' an small' small (sym same))
same_sc es false scb e c es' false scb' e' c' an an' small small' same = refl

-- of two tags with the same octet of TCI and AN, both carry an SCI or neither does
same_carried : (t u : Tag) → IsTag t → IsTag u → tci_an t ≡ tci_an u → is_some t.sci ≡ is_some u.sci
same_carried t u is is' same = same_sc t.es (is_some t.sci) t.scb t.e t.c u.es (is_some u.sci) u.scb u.e u.c t.an u.an is.an is'.an same

pub same_behind_tags : (t u : Tag) (x y : List ℕ) → IsTag t → IsTag u → encoding t ++ x ≡ encoding u ++ y → x ≡ y
same_behind_tags t u x y is is' e =
    let octet : tci_an t ≡ tci_an u = ap (λ (l : List ℕ). get_or l 2 0) e in
    let long : length (encoding t) ≡ length (encoding u) = encoding_length t is ∙ ap (λ b. 8 + sci_length b) (same_carried t u is is' octet) ∙ sym (encoding_length u is') in
    same_back (encoding t) (encoding u) x y long e
