-- The table of positions and the grammar give the same reading of a frame.
use Rattle.std.proofs.{
  Common.{◌≡◌, ℕ, ◌+◌, ◌<◌, ◌≤◌, Bool, true, false, not, ◌&&◌, ◌||◌, List, length, refl, arith, ap, sym, subst, ◌∙◌},
  Common.{slice_index, nat_lt, nat_le, if◌then◌else◌, ◌↔◌, Option, Some, None, ltb-false, leb-false, le-ltb, lt-ltb},
  lemmas.Bool.{lt-leb, Decides.nat_tests},
}
use Rattle.macsec_tag.proofs.{ByGrammar.{parts_is, stands_by}, ByPlace.tagged_by}
use Rattle.macsec_tag.specs.{
  Frame.{MpduParts, IsTagged, IsUntagged, in_a_row, has_macsec_ethertype},
  Laws.{AreOctets, OneReading, ReadAgain, ReadsByGrammar},
  Standing.StandsAsTagged,
  Table.{Reading, untagged, bad, tagged, reading, reading_with, tag_fault, has_bit, parts_at, has_wrong_length},
  Tag.{v_bit, es_bit, sc_bit, scb_bit},
  declared.fault.TagFault.{TagFault, TheVariants.{Cut, Version, SciBits, ShortBits, Length}},
}

-- ---- by the table

-- a frame that passes the tests reads as its parts by position
pub reads_by : (frame : List ℕ) → StandsAsTagged frame → reading frame ≡ tagged (parts_at frame)
reads_by frame h =
    let cut = room_test (has_bit sc_bit frame) (length frame) h.long h.tag in
    let sci = bits_test (has_bit sc_bit frame) (has_bit es_bit frame) (has_bit scb_bit frame) h.no_es h.no_scb in
    let sl_64 = lt-leb 64 (slice_index frame 15) (omega (arith, h.sl)) in
    let sl_48 = lt-leb 48 (slice_index frame 15) h.sl in
    rw (le-ltb (length frame) 14 (omega (arith, h.long)), h.ethertype, cut, h.version, sci, sl_64, sl_48, h.lengths) refl
  where
    room_test : (sc : Bool) (n : ℕ) → 20 ≤ n → 12 + (if sc then 16 else 8) ≤ n → (nat_lt n 20 || (sc && nat_lt n 28)) ≡ false
    room_test true n long room = rw (le-ltb n 20 long, le-ltb n 28 room) refl
    room_test false n long room = rw (le-ltb n 20 long) refl

    bits_test : (sc es scb : Bool) → (sc ≡ true → es ≡ false) → (sc ≡ true → scb ≡ false) → (sc && (es || scb)) ≡ false
    bits_test true es scb no_es no_scb = rw (no_es refl, no_scb refl) refl
    bits_test false es scb no_es no_scb = refl

-- a frame that reads as tagged has the EtherType, no fault, and its parts by position
through : (short has_ethertype : Bool) (fault : Option TagFault) (frame : List ℕ) (p : MpduParts) →
    (if short then bad Cut else if not has_ethertype then untagged else reading_with frame fault) ≡ tagged p →
    (has_ethertype ≡ true) × (fault ≡ None) × (parts_at frame ≡ p)
through true has_ethertype fault frame p h = cc
through false false fault frame p h = cc
through false true (Some fault) frame p h = cc
through false true None frame p h = (refl, refl, cc)

-- if no fault is found, each test is passed
passed : (cut version sci sl_64 sl_48 wrong : Bool) →
    (if cut then Some Cut else if version then Some Version else if sci then Some SciBits
    else if sl_64 then Some ShortBits else if sl_48 then Some Length else if wrong then Some Length else None) ≡ None →
    (cut ≡ false) × (version ≡ false) × (sci ≡ false) × (sl_48 ≡ false) × (wrong ≡ false)
passed true version sci sl_64 sl_48 wrong h = cc
passed false true sci sl_64 sl_48 wrong h = cc
passed false false true sl_64 sl_48 wrong h = cc
passed false false false true sl_48 wrong h = cc
passed false false false false true wrong h = cc
passed false false false false false true h = cc
passed false false false false false false h = (refl, refl, refl, refl, refl)

-- the test of the length leaves enough octets for the tag
room_by : (sc : Bool) (n : ℕ) → (nat_lt n 20 || (sc && nat_lt n 28)) ≡ false → (20 ≤ n) × (12 + (if sc then 16 else 8) ≤ n)
room_by true n h = grind (arith, nat_tests, h)
room_by false n h = grind (arith, nat_tests, h)

-- the test of SC with ES and SCB clears ES and SCB if SC is set
bits_by : (sc es scb : Bool) → (sc && (es || scb)) ≡ false → (sc ≡ true → es ≡ false) × (sc ≡ true → scb ≡ false)
bits_by true false false h = (λ _. refl, λ _. refl)
bits_by true false true h = cc
bits_by true true scb h = cc
bits_by false es scb h = (λ e. cc, λ e. cc)

-- a frame with the EtherType and no fault passes the tests
pub stands_without_fault : (frame : List ℕ) → has_macsec_ethertype frame ≡ true → tag_fault frame ≡ None → StandsAsTagged frame
stands_without_fault frame ethertype h =
    let n = length frame in
    let sc = has_bit sc_bit frame in
    let sl = slice_index frame 15 in
    let tests = passed (nat_lt n 20 || (sc && nat_lt n 28)) (has_bit v_bit frame) (sc && (has_bit es_bit frame || has_bit scb_bit frame))
    (nat_le 64 sl) (nat_le 48 sl) (has_wrong_length frame) h in
    let room = room_by sc n tests.0 in
    let bits = bits_by sc (has_bit es_bit frame) (has_bit scb_bit frame) tests.2 in
    record {
      long = room.0;
      ethertype = ethertype;
      version = tests.1;
      no_es = bits.0;
      no_scb = bits.1;
      sl = leb-false 48 sl tests.3;
      tag = room.1;
      lengths = tests.4;
    }

-- a frame that reads as untagged has 14 octets or more and another EtherType
without : (short has_ethertype : Bool) (fault : Option TagFault) (frame : List ℕ) →
    (if short then bad Cut else if not has_ethertype then untagged else reading_with frame fault) ≡ untagged →
    (short ≡ false) × (has_ethertype ≡ false)
without true has_ethertype fault frame h = cc
without false false fault frame h = (refl, refl)
without false true (Some fault) frame h = cc
without false true None frame h = cc

-- the table reads a frame as untagged exactly if the grammar does
pub reads_untagged : (frame : List ℕ) → (reading frame ≡ untagged) ↔ IsUntagged frame
reads_untagged frame = (
  λ h.
      let parts = without (nat_lt (length frame) 14) (has_macsec_ethertype frame) (tag_fault frame) frame h in
      record { long = ltb-false (length frame) 14 parts.0; ethertype = parts.1 },
  λ u. rw (le-ltb (length frame) 14 u.long, u.ethertype) refl,
)

-- a frame that is too short is read as cut
pub reads_short : (frame : List ℕ) → length frame < 14 → bad Cut ≡ reading frame
reads_short frame short = rw (lt-ltb (length frame) 14 short) refl

-- a frame with the EtherType is read as its first fault, or as tagged
pub reads_with : (frame : List ℕ) → 14 ≤ length frame → has_macsec_ethertype frame ≡ true →
    (found : Option TagFault) → found ≡ tag_fault frame → reading_with frame found ≡ reading frame
reads_with frame long ethertype found same = rw (le-ltb (length frame) 14 long, ethertype) (ap (reading_with frame) same)

-- ---- by the grammar

-- reading the concatenated parts gives the parts
pub read_again : (p : MpduParts) → ReadAgain p
read_again p h l = reads_by (in_a_row p) (stands_by p h l) ∙ ap tagged (parts_is p h l)

-- a frame that the grammar has is read as the table says
pub reads_tagged : (frame : List ℕ) (p : MpduParts) → IsTagged frame p → reading frame ≡ tagged p
reads_tagged frame p h = ap reading h.row ∙ read_again p h.tag h.lengths

-- ---- the laws

-- a frame has at most one reading
pub one_reading : (frame : List ℕ) → OneReading frame
one_reading frame = record {
  one = λ p q hp hq. let same : tagged p ≡ tagged q = sym (reads_tagged frame p hp) ∙ reads_tagged frame q hq in cc;
  not_both = λ p hp hu. let same : tagged p ≡ untagged = sym (reads_tagged frame p hp) ∙ (reads_untagged frame).1 hu in cc;
}

-- the table reads a list of octets as the grammar does
pub reads_by_grammar : (frame : List ℕ) → AreOctets frame → ReadsByGrammar frame
reads_by_grammar frame octets = record {
  is_tagged = λ p. (
    λ h.
        let parts = through (nat_lt (length frame) 14) (has_macsec_ethertype frame) (tag_fault frame) frame p h in
        subst (IsTagged frame) parts.2 (tagged_by frame octets (stands_without_fault frame parts.0 parts.1)),
    reads_tagged frame p,
  );
  is_untagged = reads_untagged frame;
}

-- a result that is the table's has parts exactly if the grammar has them
pub answered_tagged_by : (frame : List ℕ) (answer : Reading) → AreOctets frame → answer ≡ reading frame → (p : MpduParts) → (answer ≡ tagged p) ↔ IsTagged frame p
answered_tagged_by frame answer octets same p =
    let law = (reads_by_grammar frame octets).is_tagged p in
    (λ h. law.0 (sym same ∙ h), λ h. same ∙ law.1 h)

pub answered_untagged_by : (frame : List ℕ) (answer : Reading) → answer ≡ reading frame → (answer ≡ untagged) ↔ IsUntagged frame
answered_untagged_by frame answer same =
    let law = reads_untagged frame in
    (λ h. law.0 (sym same ∙ h), λ h. same ∙ law.1 h)
