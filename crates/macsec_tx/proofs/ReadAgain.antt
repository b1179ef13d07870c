-- Reading a protected frame gives the parts that were sent.
use Rattle.{
  std.proofs.{
    Common.{◌≡◌, ℕ, ◌+◌, ◌-◌, ◌<◌, ◌≤◌, Bool, true, false, List, [], ◌++◌, length, take, drop, refl, ap, sym, ◌∙◌},
    Common.{arith, length-take, length-drop, length-append, Some, None, slice_range, if◌then◌else◌, take-append-drop},
    lemmas.Bool.Decides.nat_tests,
  },
  std.specs.Option.ForSome,
  macsec_gcm.specs.{Gcm.seal_of, Laws.SealedLengths},
  macsec_tag.specs.{
    Frame.{HasLengths, MpduParts, in_a_row},
    Laws.ReadAgain,
    Tag.{Tag, encoding},
    declared.identifiers.Sci.Sci,
  },
  macsec_suite.specs.{
    KeyRows.{InstalledKey, prepared_key},
    Keys.PreparedKey,
    Parts.{aad_and_plaintext, clear_length},
    Suites.iv_of,
  },
  macsec_commands.specs.declared.form.TagForm.TagForm,
  macsec_tx.proofs.SentTags.is_tag,
  macsec_tx.specs.{
    Laws.{CanBeSent, IsReadAsSent},
    Tags.{is_own, sci_sent, sl_of},
    Transmit.{parts_under, tag_sent},
    declared.{TxOptions.TxOptions, TxRow.TxRow},
  },
}
use Rattle.macsec_commands.specs.declared.form.TagForm.TheVariants as form

-- ---- the SCI that the tag carries has 8 octets

some_octets : (sci : Sci) → length sci.0 ≡ 8 → ForSome (Some sci) (λ s. length s.0 ≡ 8)
some_octets sci eight = λ s same. let one : sci ≡ s = cc in sym (ap (λ (t : Sci). length t.0) one) ∙ eight

by_test : (carries : Bool) (sci : Sci) → length sci.0 ≡ 8 → ForSome (if carries then Some sci else None) (λ s. length s.0 ≡ 8)
by_test true sci eight = some_octets sci eight
by_test false sci eight = λ s none. cc

unless : (stands_for_it : Bool) (sci : Sci) → length sci.0 ≡ 8 → ForSome (if stands_for_it then None else Some sci) (λ s. length s.0 ≡ 8)
unless true sci eight = λ s none. cc
unless false sci eight = some_octets sci eight

sci_octets : (f : TagForm) (many : Bool) (sci : Sci) (sa : List ℕ) → length sci.0 ≡ 8 → ForSome (sci_sent f many sci sa) (λ s. length s.0 ≡ 8)
sci_octets form.Auto many sci sa eight = by_test many sci eight
sci_octets form.Sci many sci sa eight = some_octets sci eight
sci_octets form.Es many sci sa eight = unless (is_own sci sa) sci eight
sci_octets form.Scb many sci sa eight = unless (is_own sci sa) sci eight

-- ---- the lengths of the parts

-- an SL other than 0 is the number of octets; SL 0 means 48 or more
short_is : (n : ℕ) → 0 < sl_of n → n ≡ sl_of n
short_is n some = grind (arith, nat_tests, some)

long_is : (n : ℕ) → 0 < n → sl_of n ≡ 0 → 48 ≤ n
long_is n some none = grind (arith, nat_tests, some, none)

-- clear octets and ciphertext together are as long as the data
data_long : SealedLengths → (key : PreparedKey) (iv : List ℕ) (tag : Tag) (frame : List ℕ) → length (parts_under key iv tag frame).secure_data ≡ length frame - 12
data_long lengths key iv tag frame =
    let client_data : List ℕ = drop 12 frame in
    let n : ℕ = clear_length key.offset tag.e client_data in
    let ap' = aad_and_plaintext key.offset tag.e (take 6 frame) (slice_range frame 6 12) tag client_data in
    let ct : List ℕ = (seal_of key.bytes iv ap'.0 ap'.1).0 in
    let sealed : length ct ≡ length (drop n client_data) = lengths.ciphertext key.bytes iv ap'.0 ap'.1 in
    let halves : length (take n client_data) + length (drop n client_data) ≡ length client_data =
    sym (length-append (take n client_data) (drop n client_data)) ∙ ap length (take-append-drop n client_data) in
    omega (arith, length-append (take n client_data) ct, sealed, halves, length-drop 12 frame)

-- destination and source address have six octets each
addresses_long : (frame : List ℕ) → 14 ≤ length frame → (length (take 6 frame) ≡ 6) × (length (slice_range frame 6 12) ≡ 6)
addresses_long frame long =
    (omega (arith, length-take 6 frame, long), omega (arith, length-take 6 (drop 6 frame), length-drop 6 frame, long))

has_lengths : SealedLengths → (key : PreparedKey) (iv : List ℕ) (options : TxOptions) (row : TxRow) (frame : List ℕ) → 14 ≤ length frame
    → HasLengths (parts_under key iv (tag_sent options row frame) frame)
has_lengths lengths key iv options row frame long =
    let addresses = addresses_long frame long in
    let octets = data_long lengths key iv (tag_sent options row frame) frame in
    record {
      da = addresses.0;
      sa = addresses.1;
      icv = lengths.tag key.bytes iv _ _;
      short = λ some. octets ∙ short_is (length frame - 12) some;
      long = λ none. let few : 48 ≤ length frame - 12 = long_is (length frame - 12) (omega (arith, long)) none in omega (arith, octets, few);
      no_padding = λ none. refl;
    }

-- ---- the law

row_long : (p : MpduParts) → HasLengths p → p.padding ≡ [] → length (in_a_row p) ≡ 28 + length (encoding p.tag) + length p.secure_data
row_long p lengths none =
    omega (
      arith,
      length-append (p.da ++ p.sa ++ encoding p.tag ++ p.secure_data ++ p.icv) p.padding,
      length-append (p.da ++ p.sa ++ encoding p.tag ++ p.secure_data) p.icv,
      length-append (p.da ++ p.sa ++ encoding p.tag) p.secure_data,
      length-append (p.da ++ p.sa) (encoding p.tag),
      length-append p.da p.sa,
      lengths.da,
      lengths.sa,
      lengths.icv,
      ap length none,
    )

pub read_as_sent : ((p : MpduParts) → ReadAgain p) → SealedLengths → (options : TxOptions) (key : InstalledKey) (row : TxRow) (frame : List ℕ) → CanBeSent options row frame
    → IsReadAsSent options key row frame
read_as_sent read_again sealed options key row frame can =
    let iv = iv_of key.suite options.sci key.ssci key.salt row.next in
    let tag = tag_sent options row frame in
    let p = parts_under (prepared_key key) iv tag frame in
    let is = is_tag options row frame can.an (sci_octets options.form options.many options.sci (slice_range frame 6 12) can.sci) in
    let lengths = has_lengths sealed (prepared_key key) iv options row frame can.long in
    let octets = data_long sealed (prepared_key key) iv tag frame in
    record {
      is_tagged = record { row = refl; tag = is; lengths = lengths };
      parts = read_again p is lengths;
      octets = omega (arith, row_long p lengths refl, octets, can.long);
    }
