-- Concatenating the parts of a tagged frame gives a frame that passes the reader's tests, and in which the reader finds
-- the parts by their positions.
use Rattle.std.proofs.{
  Common.{◌≡◌, ℕ, ◌+◌, ◌-◌, ◌<◌, ◌≤◌, Bool, true, false, List, [], ◌∷◌, ◌++◌, length, take, drop, refl, arith, ap, sym},
  Common.{subst, ◌∙◌, append_assoc, length-append, length-drop, lit≤, Option, Some, None, is_some, slice_index},
  Common.{slice_range, ◌==◌, nat_lt, if◌then◌else◌, ◌^◌, take_at, drop_at},
  lemmas.{Bool.Decides.nat_tests, Nat.from_be_bytes-to_be_bytes_4},
}
use Rattle.std.specs.{Int.{w32, from_be_bytes}, Option.ForSome}
use Rattle.macsec_tag.proofs.TciBits.{HasBits, octet_of_has}
use Rattle.macsec_tag.specs.{
  Frame.{MpduParts, in_a_row, HasLengths},
  Standing.StandsAsTagged,
  Table.{has_bit, sec_tag_at, tag_length_at, after_tag, data_length_at, parts_at},
  Tag.{Tag, IsTag, encoding, sci_octets, tci_an, sc_bit},
  declared.identifiers.Sci.Sci,
}

-- ---- the octets of the tag, by their positions

-- the tag follows the first 12 octets, and `rest` follows the tag
pub record StandsBehind (frame : List ℕ) (t : Tag) (rest : List ℕ) : Type 0 where
  pub e12 : slice_index frame 12 ≡ 0x88
  pub e13 : slice_index frame 13 ≡ 0xe5
  pub e14 : slice_index frame 14 ≡ tci_an t
  pub e15 : slice_index frame 15 ≡ t.sl
  pub pn : from_be_bytes w32 (slice_range frame 16 20) ≡ t.pn
  pub sci : slice_range frame 20 28 ≡ take 8 (sci_octets t.sci ++ rest)
  pub after : drop 12 frame ≡ encoding t ++ rest

-- this holds for a frame built that way
behind : (front : List ℕ) (t : Tag) (rest : List ℕ) → length front ≡ 12 → t.pn < 2 ^ 32 → StandsBehind (front ++ (encoding t ++ rest)) t rest
behind (a0 ∷ a1 ∷ a2 ∷ a3 ∷ a4 ∷ a5 ∷ a6 ∷ a7 ∷ a8 ∷ a9 ∷ a10 ∷ a11 ∷ []) t rest long small =
    record { e12 = refl; e13 = refl; e14 = refl; e15 = refl; pn = from_be_bytes-to_be_bytes_4 t.pn small; sci = refl; after = refl }
behind other t rest long small = absurd (omega (arith, long))

-- what follows the tag
abbrev pub behind_tag : MpduParts → List ℕ
behind_tag p = (p.secure_data ++ p.icv) ++ p.padding

-- the parts, with everything after the tag grouped together
abbrev pub by_tag : MpduParts → List ℕ
by_tag p = (p.da ++ p.sa) ++ (encoding p.tag ++ behind_tag p)

-- the concatenated parts are these octets
regrouped : (p : MpduParts) → in_a_row p ≡ by_tag p
regrouped p = grouped (p.da ++ p.sa) (encoding p.tag) p.secure_data p.icv p.padding
  where
    grouped : (front tag text icv padding : List ℕ) → (((front ++ tag) ++ text) ++ icv) ++ padding ≡ front ++ (tag ++ ((text ++ icv) ++ padding))
    grouped front tag text icv padding = simp append_assoc

-- in the concatenated parts, the tag follows the addresses
pub stands_behind : (p : MpduParts) → IsTag p.tag → HasLengths p → StandsBehind (in_a_row p) p.tag (behind_tag p)
stands_behind p h l =
    let long : length (p.da ++ p.sa) ≡ 12 = omega (arith, length-append p.da p.sa, l.da, l.sa) in
    subst (λ frame. StandsBehind frame p.tag (behind_tag p)) (sym (regrouped p)) (behind (p.da ++ p.sa) p.tag (behind_tag p) long h.pn)

-- the octet of TCI and AN has the bits of the tag
pub bits_of : (p : MpduParts) → IsTag p.tag → HasLengths p →
    HasBits p.tag.es (is_some p.tag.sci) p.tag.scb p.tag.e p.tag.c p.tag.an (slice_index (in_a_row p) 14)
bits_of p h l =
    let t = p.tag in
    subst (HasBits t.es (is_some t.sci) t.scb t.e t.c t.an) (sym (stands_behind p h l).e14) (octet_of_has t.es (is_some t.sci) t.scb t.e t.c t.an h.an)

-- ---- the tag and what follows it, by their positions

-- an SCI is read exactly if SC is set, and is the tag's
sci_by : (sci : Option Sci) (b : Bool) (octets rest : List ℕ) → b ≡ is_some sci → ForSome sci (λ s. length s.0 ≡ 8) → octets ≡ take 8 (sci_octets sci ++ rest) →
    (if b then Some (record { 0 = octets }) else None) ≡ sci
sci_by None b octets rest same eight there = rw same refl
sci_by (Some s) b octets rest same eight there = rw (same, there, take_at s.0 rest 8 (eight s refl)) refl

-- the tag read by its position is the tag
tag_is : (p : MpduParts) → IsTag p.tag → HasLengths p → sec_tag_at (in_a_row p) ≡ p.tag
tag_is p h l =
    let frame = in_a_row p in
    let there = stands_behind p h l in
    let bits = bits_of p h l in
    rw (
      bits.es_is,
      bits.scb_is,
      bits.e_is,
      bits.c_is,
      bits.an_is,
      there.e15,
      there.pn,
      sci_by p.tag.sci (has_bit sc_bit frame) (slice_range frame 20 28) (behind_tag p) bits.sc_is h.sci_octets there.sci,
    ) refl

-- dropping the octets of the tag leaves what follows it
past_tag : (sci : Option Sci) (t : Tag) (rest : List ℕ) → t.sci ≡ sci → ForSome sci (λ s. length s.0 ≡ 8) →
    drop (if is_some sci then 16 else 8) (encoding t ++ rest) ≡ rest
past_tag None t rest same eight = rw same refl
past_tag (Some s) t rest same eight = rw same (drop_at s.0 rest 8 (eight s refl))

-- what is read after the tag is what follows it
after_is : (p : MpduParts) → IsTag p.tag → HasLengths p → after_tag (in_a_row p) ≡ behind_tag p
after_is p h l =
    let frame = in_a_row p in
    ap (λ b. drop (if b then 16 else 8) (drop 12 frame)) (bits_of p h l).sc_is
    ∙ ap (λ xs. drop (if is_some p.tag.sci then 16 else 8) xs) (stands_behind p h l).after
    ∙ past_tag p.tag.sci p.tag (behind_tag p) refl h.sci_octets

-- the number of octets after the tag
after_length : (p : MpduParts) → IsTag p.tag → HasLengths p → length (after_tag (in_a_row p)) ≡ length p.secure_data + 16 + length p.padding
after_length p h l =
    ap length (after_is p h l)
    ∙ omega (arith, length-append (p.secure_data ++ p.icv) p.padding, length-append p.secure_data p.icv, l.icv)

-- the length of the Secure Data, computed from SL
by_sl : (sl n m : ℕ) → (0 < sl → n ≡ sl) → (sl ≡ 0 → m ≡ 0) → (if sl == 0 then n + 16 + m - 16 else sl) ≡ n
by_sl sl n m short none = grind (arith, nat_tests)

-- the length of the Secure Data that is read is the length of that part
data_length_is : (p : MpduParts) → IsTag p.tag → HasLengths p → data_length_at (in_a_row p) ≡ length p.secure_data
data_length_is p h l =
    let frame = in_a_row p in
    let n = length p.secure_data in
    let m = length p.padding in
    let e15 : slice_index frame 15 ≡ p.tag.sl = (stands_behind p h l).e15 in
    ap (λ len. if slice_index frame 15 == 0 then len - 16 else slice_index frame 15) (after_length p h l)
    ∙ ap (λ sl. if sl == 0 then n + 16 + m - 16 else sl) e15
    ∙ by_sl p.tag.sl n m l.short (λ long. ap length (l.no_padding long))

-- ---- the parts, by their positions

-- the two addresses
cut_front : (da sa rest : List ℕ) → length da ≡ 6 → length sa ≡ 6 → (take 6 ((da ++ sa) ++ rest) ≡ da) × (take 6 (drop 6 ((da ++ sa) ++ rest)) ≡ sa)
cut_front da sa rest six_da six_sa =
    let whole : (da ++ sa) ++ rest ≡ da ++ (sa ++ rest) = append_assoc da sa rest in (
      ap (take 6) whole ∙ take_at da (sa ++ rest) 6 six_da,
      ap (λ xs. take 6 (drop 6 xs)) whole ∙ ap (take 6) (drop_at da (sa ++ rest) 6 six_da) ∙ take_at sa rest 6 six_sa,
    )

-- Secure Data, ICV and padding
cut_back : (text icv padding : List ℕ) (n : ℕ) → length text ≡ n → length icv ≡ 16 →
    (take n ((text ++ icv) ++ padding) ≡ text) × (take 16 (drop n ((text ++ icv) ++ padding)) ≡ icv) × (drop 16 (drop n ((text ++ icv) ++ padding)) ≡ padding)
cut_back text icv padding n long sixteen =
    let whole : (text ++ icv) ++ padding ≡ text ++ (icv ++ padding) = append_assoc text icv padding in
    let rest : drop n ((text ++ icv) ++ padding) ≡ icv ++ padding = ap (drop n) whole ∙ drop_at text (icv ++ padding) n long in (
      ap (take n) whole ∙ take_at text (icv ++ padding) n long,
      ap (take 16) rest ∙ take_at icv padding 16 sixteen,
      ap (drop 16) rest ∙ drop_at icv padding 16 sixteen,
    )

-- the parts read by position are the ones that were concatenated
pub parts_is : (p : MpduParts) → IsTag p.tag → HasLengths p → parts_at (in_a_row p) ≡ p
parts_is p h l =
    let frame = in_a_row p in
    let whole : frame ≡ by_tag p = regrouped p in
    let front = cut_front p.da p.sa (encoding p.tag ++ behind_tag p) l.da l.sa in
    let n = data_length_at frame in
    let back = cut_back p.secure_data p.icv p.padding n (sym (data_length_is p h l)) l.icv in
    let after = after_is p h l in
    same_parts (ap (take 6) whole ∙ front.0) (ap (λ xs. take 6 (drop 6 xs)) whole ∙ front.1) (tag_is p h l)
    (ap (λ xs. take n xs) after ∙ back.0) (ap (λ xs. take 16 (drop n xs)) after ∙ back.1) (ap (λ xs. drop 16 (drop n xs)) after ∙ back.2)
  where
    same_parts : {da sa : List ℕ} {t : Tag} {text icv padding : List ℕ} → da ≡ p.da → sa ≡ p.sa → t ≡ p.tag → text ≡ p.secure_data → icv ≡ p.icv → padding ≡ p.padding →
        record { da = da; sa = sa; tag = t; secure_data = text; icv = icv; padding = padding } ≡ p
    same_parts e_da e_sa e_tag e_text e_icv e_padding = rw (e_da, e_sa, e_tag, e_text, e_icv, e_padding) refl

-- ---- the tests of a tagged frame

-- there are as many octets as SL requires
right_length : (sl n m : ℕ) → (0 < sl → n ≡ sl) → (sl ≡ 0 → 48 ≤ n) → (if sl == 0 then nat_lt (n + 16 + m) 64 else nat_lt (n + 16 + m) (sl + 16)) ≡ false
right_length sl n m short long = grind (arith, nat_tests)

-- a tag has 8 octets or more
eight_at_least : (b : Bool) → 8 ≤ (if b then 16 else 8)
eight_at_least true = lit≤ tt
eight_at_least false = lit≤ tt

-- the concatenated parts pass the tests
pub stands_by : (p : MpduParts) → IsTag p.tag → HasLengths p → StandsAsTagged (in_a_row p)
stands_by p h l =
    let frame = in_a_row p in
    let there = stands_behind p h l in
    let bits = bits_of p h l in
    let n = length p.secure_data in
    let m = length p.padding in
    let len = after_length p h l in
    let room : 12 + tag_length_at frame + 16 ≤ length frame =
    omega (arith, len, length-drop (tag_length_at frame) (drop 12 frame), length-drop 12 frame) in
    record {
      long = omega (arith, room, eight_at_least (has_bit sc_bit frame));
      ethertype = rw (there.e12, there.e13) refl;
      version = bits.v_is;
      no_es = λ sc. bits.es_is ∙ h.no_es (sym bits.sc_is ∙ sc);
      no_scb = λ sc. bits.scb_is ∙ h.no_scb (sym bits.sc_is ∙ sc);
      sl = subst (λ sl. sl < 48) (sym there.e15) h.sl;
      tag = omega (arith, room);
      lengths = ap (λ len. if slice_index frame 15 == 0 then nat_lt len 64 else nat_lt len (slice_index frame 15 + 16)) len
          ∙ ap (λ sl. if sl == 0 then nat_lt (n + 16 + m) 64 else nat_lt (n + 16 + m) (sl + 16)) there.e15
          ∙ right_length p.tag.sl n m l.short l.long;
    }
