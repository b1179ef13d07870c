-- A frame that passes the reader's tests is the concatenation of the parts that are cut from it by position.
use Rattle.std.proofs.{
  Common.{◌≡◌, ℕ, zero, suc, lit<, ◌+◌, ◌-◌, ◌<◌, ◌≤◌, Bool, true, false, List, [], ◌∷◌, ◌++◌, length, take, drop},
  Common.{refl, arith, ap, sym, subst, ◌∙◌, get_or, append_assoc, length-take, length-drop, Fits, w8, Option, Some},
  Common.{None, is_some, IsSome, IfSome, slice_index, slice_range, bit_and, ◌==◌, nat_lt, if◌then◌else◌, ◌^◌},
  Common.{take-append-drop, take_at, length-take-le, eqb-true},
  Math.{ListN.drop_of_length-le, Seq.take-add},
  lemmas.{Bool.{and_parts, Decides.nat_tests}, List.{drop-take, Elements.All-from_get_or}, Nat.{be_bytes_4, and_le_r}},
}
use Rattle.std.specs.{Int.{w32, to_be_bytes, from_be_bytes}, Option.ForSome}
use Rattle.macsec_tag.proofs.TciBits.{is_set, made_again_is}
use Rattle.macsec_tag.specs.{
  Frame.{in_a_row, HasLengths, IsTagged},
  Laws.AreOctets,
  Standing.StandsAsTagged,
  Table.{has_bit, sec_tag_at, tag_length_at, after_tag, data_length_at, parts_at},
  Tag.{Tag, IsTag, encoding, sci_octets, v_bit, es_bit, sc_bit, scb_bit, e_bit, c_bit},
  declared.identifiers.Sci.Sci,
}

-- the elements of a slice of octets are octets
pub are_octets : (xs : List ℕ) → ((i : ℕ) → Fits w8 (get_or xs i 0)) → AreOctets xs
are_octets xs fits = All-from_get_or (λ x. x < 256) xs 0 (λ i inside. omega (arith, fits i))

-- ---- the encoding of the tag

-- one octet more
octets_cons : (a : ℕ) (xs : List ℕ) → a < 256 → ((i : ℕ) → get_or xs i 0 < 256) → (i : ℕ) → get_or (a ∷ xs) i 0 < 256
octets_cons a xs small h zero = small
octets_cons a xs small h (suc i) = h i

-- reading past the end of a list gives 0
no_octets : (i : ℕ) → get_or {A = ℕ} [] i 0 < 256
no_octets i = lit< tt

-- decoding four octets and encoding the number gives the octets again
four_again : (p q r s : ℕ) → p < 256 → q < 256 → r < 256 → s < 256 →
    to_be_bytes w32 (from_be_bytes w32 (p ∷ q ∷ r ∷ s ∷ [])) ≡ p ∷ q ∷ r ∷ s ∷ []
four_again p q r s hp hq hr hs =
    be_bytes_4 (p ∷ q ∷ r ∷ s ∷ []) (from_be_bytes w32 (p ∷ q ∷ r ∷ s ∷ [])) refl
    (octets_cons p (q ∷ r ∷ s ∷ []) hp (octets_cons q (r ∷ s ∷ []) hq (octets_cons r (s ∷ []) hr (octets_cons s [] hs no_octets)))) refl

-- the tag with this octet of TCI and AN, this SL, these four octets of the packet number, and this SCI
abbrev pub tag_of_octets : ℕ → ℕ → ℕ → ℕ → ℕ → ℕ → Option Sci → Tag
tag_of_octets tci sl p q r s sci = record {
  es = is_set es_bit tci;
  scb = is_set scb_bit tci;
  e = is_set e_bit tci;
  c = is_set c_bit tci;
  an = bit_and tci 3;
  sl = sl;
  pn = from_be_bytes w32 (p ∷ q ∷ r ∷ s ∷ []);
  sci = sci;
}

-- these octets encode that tag
abbrev IsSpelledBy : ℕ → ℕ → ℕ → ℕ → ℕ → ℕ → Option Sci → Type 0
IsSpelledBy tci sl p q r s sci =
    encoding (tag_of_octets tci sl p q r s sci) ≡ 0x88 ∷ 0xe5 ∷ tci ∷ sl ∷ p ∷ q ∷ r ∷ s ∷ sci_octets sci

-- they do if the version bit is clear and the SC bit says whether there is an SCI
spelled_octets : (tci sl p q r s : ℕ) (sci : Option Sci) → tci < 256 → p < 256 → q < 256 → r < 256 → s < 256 →
    is_set v_bit tci ≡ false → is_some sci ≡ is_set sc_bit tci → IsSpelledBy tci sl p q r s sci
spelled_octets tci sl p q r s sci htci hp hq hr hs version has_sci =
    let again = made_again_is tci htci version in
    rw (has_sci, again) (ap (λ pn. 0x88 ∷ 0xe5 ∷ tci ∷ sl ∷ (pn ++ sci_octets sci)) (four_again p q r s hp hq hr hs))

-- the octets at the position of the tag are its encoding
pub spelled_there : (frame : List ℕ) → AreOctets frame → StandsAsTagged frame → encoding (sec_tag_at frame) ≡ take (tag_length_at frame) (drop 12 frame)
spelled_there (a0 ∷ a1 ∷ a2 ∷ a3 ∷ a4 ∷ a5 ∷ a6 ∷ a7 ∷ a8 ∷ a9 ∷ a10 ∷ a11 ∷ a12 ∷ a13 ∷ a14 ∷ a15 ∷ a16 ∷ a17 ∷ a18 ∷ a19 ∷ rest) octets h =
    let type = and_parts (a12 == 0x88) (a13 == 0xe5) h.ethertype in
    let e12 = eqb-true a12 0x88 type.0 in
    let e13 = eqb-true a13 0xe5 type.1 in
    let h14 = octets 14 0 (omega (arith, h.long)) in
    let h16 = octets 16 0 (omega (arith, h.long)) in
    let h17 = octets 17 0 (omega (arith, h.long)) in
    let h18 = octets 18 0 (omega (arith, h.long)) in
    let h19 = octets 19 0 (omega (arith, h.long)) in
    let spelled : (sci : Option Sci) → is_some sci ≡ is_set sc_bit a14 → IsSpelledBy a14 a15 a16 a17 a18 a19 sci =
    λ sci same. spelled_octets a14 a15 a16 a17 a18 a19 sci h14 h16 h17 h18 h19 h.version same in
    rw (e12, e13) (by_sc (is_set sc_bit a14) a14 a15 a16 a17 a18 a19 rest spelled)
  where
    by_sc : (b : Bool) (tci sl p q r s : ℕ) (rest : List ℕ) →
        ((sci : Option Sci) → is_some sci ≡ b → IsSpelledBy tci sl p q r s sci) →
        encoding (tag_of_octets tci sl p q r s (if b then Some (record { 0 = take 8 rest }) else None)) ≡
        take (if b then 16 else 8) (0x88 ∷ 0xe5 ∷ tci ∷ sl ∷ p ∷ q ∷ r ∷ s ∷ rest)
    by_sc true tci sl p q r s rest spelled = spelled (Some (record { 0 = take 8 rest })) refl
    by_sc false tci sl p q r s rest spelled = spelled None refl
spelled_there short octets h = absurd (omega (arith, h.long))

-- ---- the parts concatenated

-- the parts concatenated are what they were cut from
rejoined : (da sa tag secure_data icv padding frame behind rest later : List ℕ) →
    icv ++ padding ≡ later → secure_data ++ later ≡ rest → tag ++ rest ≡ behind → (da ++ sa) ++ behind ≡ frame →
    frame ≡ ((((da ++ sa) ++ tag) ++ secure_data) ++ icv) ++ padding
rejoined da sa tag secure_data icv padding frame behind rest later e_later e_rest e_behind e_frame =
    sym (regrouped (da ++ sa) tag secure_data icv padding ∙ rw (e_later, e_rest, e_behind) e_frame)
  where
    regrouped : (front tag secure_data icv padding : List ℕ) → (((front ++ tag) ++ secure_data) ++ icv) ++ padding ≡ front ++ (tag ++ (secure_data ++ (icv ++ padding)))
    regrouped front tag secure_data icv padding = simp append_assoc

-- the frame is its parts concatenated
pub row_by : (frame : List ℕ) → AreOctets frame → StandsAsTagged frame → frame ≡ in_a_row (parts_at frame)
row_by frame octets h =
    let n = data_length_at frame in
    let rest = after_tag frame in
    let spelled = spelled_there frame octets h in
    rejoined (take 6 frame) (take 6 (drop 6 frame)) (encoding (sec_tag_at frame)) (take n rest) (take 16 (drop n rest)) (drop 16 (drop n rest))
    frame (drop 12 frame) rest (drop n rest)
    (take-append-drop 16 (drop n rest)) (take-append-drop n rest)
    (ap (λ tag. tag ++ rest) spelled ∙ take-append-drop (tag_length_at frame) (drop 12 frame))
    (ap (λ front. front ++ drop 12 frame) (sym (take-add 6 6 frame)) ∙ take-append-drop 12 frame)

-- ---- the lengths of the parts

-- as many octets follow the tag as SL requires
enough : (sl len : ℕ) → (if sl == 0 then nat_lt len 64 else nat_lt len (sl + 16)) ≡ false → (sl ≡ 0 → 64 ≤ len) × (0 < sl → sl + 16 ≤ len)
enough sl len h = grind (arith, nat_tests, h)

-- the length of the Secure Data
data_length_is : (sl len : ℕ) → (sl ≡ 0 → (if sl == 0 then len - 16 else sl) ≡ len - 16) × (0 < sl → (if sl == 0 then len - 16 else sl) ≡ sl)
data_length_is sl len = grind (arith, nat_tests)

-- the lengths of the parts that are cut after the tag
cut_lengths : (sl n : ℕ) (rest : List ℕ) → (sl ≡ 0 → 64 ≤ length rest) → (0 < sl → sl + 16 ≤ length rest) →
    (sl ≡ 0 → n ≡ length rest - 16) → (0 < sl → n ≡ sl) →
    (length (take 16 (drop n rest)) ≡ 16) × (0 < sl → length (take n rest) ≡ sl) × (sl ≡ 0 → 48 ≤ length (take n rest)) × (sl ≡ 0 → drop 16 (drop n rest) ≡ [])
cut_lengths sl n rest long_room short_room long_is short_is = (
  grind (arith, length-take 16 (drop n rest), length-drop n rest),
  λ short. omega (arith, length-take n rest),
  λ long. omega (arith, length-take n rest),
  λ long. drop_of_length-le (drop n rest) {i = 16} (omega (arith, length-drop n rest)),
)

-- the parts have the lengths that the tag requires
pub lengths_by : (frame : List ℕ) → StandsAsTagged frame → HasLengths (parts_at frame)
lengths_by frame h =
    let sl = slice_index frame 15 in
    let rest = after_tag frame in
    let room = enough sl (length rest) h.lengths in
    let n_is = data_length_is sl (length rest) in
    let cut = cut_lengths sl (data_length_at frame) rest room.0 room.1 n_is.0 n_is.1 in
    record {
      da = omega (arith, h.long, length-take 6 frame);
      sa = omega (arith, h.long, length-take 6 (drop 6 frame), length-drop 6 frame);
      icv = cut.0;
      short = cut.1;
      long = cut.2;
      no_padding = cut.3;
    }

-- ---- the tag and the whole frame

-- four octets encode a number of 32 bits
four_small : (p q r s : ℕ) → p < 256 → q < 256 → r < 256 → s < 256 → from_be_bytes w32 (p ∷ q ∷ r ∷ s ∷ []) < 2 ^ 32
four_small p q r s hp hq hr hs = omega arith

-- the four octets after SL encode a number of 32 bits
pn_small : (frame : List ℕ) → AreOctets frame → 20 ≤ length frame → from_be_bytes w32 (slice_range frame 16 20) < 2 ^ 32
pn_small (a0 ∷ a1 ∷ a2 ∷ a3 ∷ a4 ∷ a5 ∷ a6 ∷ a7 ∷ a8 ∷ a9 ∷ a10 ∷ a11 ∷ a12 ∷ a13 ∷ a14 ∷ a15 ∷ a16 ∷ a17 ∷ a18 ∷ a19 ∷ rest) octets long =
    four_small a16 a17 a18 a19 (octets 16 0 (omega (arith, long))) (octets 17 0 (omega (arith, long))) (octets 18 0 (omega (arith, long))) (octets 19 0 (omega (arith, long)))
pn_small short octets long = absurd (omega (arith, long))

-- an SCI at its position has eight octets
eight_by : (b : Bool) (frame : List ℕ) → 12 + (if b then 16 else 8) ≤ length frame →
    ForSome {T = Sci} (if b then Some (record { 0 = slice_range frame 20 28 }) else None) (λ s. length s.0 ≡ 8)
eight_by true frame room s same =
    let eight : length (slice_range frame 20 28) ≡ 8 = length-take-le 8 (drop 20 frame) (omega (arith, length-drop 20 frame)) in
    subst (λ (o : Option Sci). IfSome o (λ s. length s.0 ≡ 8)) same eight
eight_by false frame room s same = cc

-- the tag carries an SCI only if SC is set
sc_by : (b : Bool) (sci : Sci) → IsSome (if b then Some sci else None) → b ≡ true
sc_by true sci h = refl
sc_by false sci h = cc

-- the tag at its position is a valid SecTAG
pub is_tag_by : (frame : List ℕ) → AreOctets frame → StandsAsTagged frame → IsTag (sec_tag_at frame)
is_tag_by frame octets h =
    let sci : Sci = record { 0 = slice_range frame 20 28 } in record {
      an = omega (arith, and_le_r (slice_index frame 14) 3);
      sl = h.sl;
      pn = pn_small frame octets h.long;
      sci_octets = eight_by (has_bit sc_bit frame) frame h.tag;
      no_es = λ some. h.no_es (sc_by (has_bit sc_bit frame) sci some);
      no_scb = λ some. h.no_scb (sc_by (has_bit sc_bit frame) sci some);
    }

-- the parts by position are parts by the grammar
pub tagged_by : (frame : List ℕ) → AreOctets frame → StandsAsTagged frame → IsTagged frame (parts_at frame)
tagged_by frame octets h =
    record { row = row_by frame octets h; tag = is_tag_by frame octets h; lengths = lengths_by frame h }

-- ---- the parts that the code cuts

-- the tag at its position, with another packet number and SCI
abbrev tag_with : List ℕ → ℕ → Option Sci → Tag
tag_with frame pn sci = record {
  es = has_bit es_bit frame;
  scb = has_bit scb_bit frame;
  e = has_bit e_bit frame;
  c = has_bit c_bit frame;
  an = bit_and (slice_index frame 14) 3;
  sl = slice_index frame 15;
  pn = pn;
  sci = sci;
}

-- with the packet number and the SCI at their positions, it is the tag at its position
pub tag_cut : (frame : List ℕ) (pn : ℕ) (sci : Option Sci) → pn ≡ (sec_tag_at frame).pn → sci ≡ (sec_tag_at frame).sci →
    tag_with frame pn sci ≡ sec_tag_at frame
tag_cut frame pn sci e_pn e_sci = rw (e_pn, e_sci) refl

-- the addresses, cut from the first 12 octets
front_twelve : (frame : List ℕ) → 20 ≤ length frame → (take 6 (take 12 frame) ≡ take 6 frame) × (drop 6 (take 12 frame) ≡ take 6 (drop 6 frame))
front_twelve frame long =
    (ap (take 6) (take-add 6 6 frame) ∙ take_at (take 6 frame) (take 6 (drop 6 frame)) 6 (length-take-le 6 frame (omega (arith, long))), drop-take 6 6 frame)

-- the parts that the code cuts are the parts by position
pub parts_cut : (frame addresses text icv padding : List ℕ) (tag : Tag) → StandsAsTagged frame → addresses ≡ take 12 frame → text ≡ take (data_length_at frame) (after_tag frame) →
    icv ≡ take 16 (drop (data_length_at frame) (after_tag frame)) → padding ≡ drop 16 (drop (data_length_at frame) (after_tag frame)) → tag ≡ sec_tag_at frame →
    record { da = take 6 addresses; sa = drop 6 addresses; tag = tag; secure_data = text; icv = icv; padding = padding } ≡ parts_at frame
parts_cut frame addresses text icv padding tag h e_addresses e_text e_icv e_padding e_tag =
    let front = front_twelve frame h.long in
    rw (e_addresses, e_text, e_icv, e_padding, e_tag, front.0, front.1) refl
