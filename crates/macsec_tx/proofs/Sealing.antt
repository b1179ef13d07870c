-- A frame protected in place is its parts concatenated.
use Rattle.{
  std.proofs.{
    Common.{◌≡◌, ℕ, ◌+◌, ◌-◌, ◌≤◌, Bool, List, [], ◌++◌, length, take, drop, ap, sym, ◌∙◌, arith, append_assoc},
    Common.{append-nil, length-take, length-drop, slice_range},
    Math.Seq.take-add,
  },
  macsec_gcm.specs.Gcm.seal_of,
  macsec_tag.specs.{Frame.in_a_row, Tag.{Tag, encoding}},
  macsec_suite.specs.{
    InPlace.{clear_and_rest, protected_octets},
    Keys.PreparedKey,
    Laws.PartsInPlace,
    Parts.{aad_and_plaintext, clear_length},
  },
  macsec_tx.specs.Transmit.parts_under,
}

-- the authenticated octets, the ciphertext and the tag, concatenated
abbrev sealed_row : PreparedKey → List ℕ → List ℕ × List ℕ → List ℕ
sealed_row key iv ap = let ct = seal_of key.bytes iv ap.0 ap.1 in ap.0 ++ ct.0 ++ ct.1

-- the clear octets and the ciphertext are the Secure Data, and nothing follows the ICV
grouped : (head clear c t : List ℕ) → head ++ clear ++ c ++ t ≡ head ++ (clear ++ c) ++ t ++ []
grouped head clear c t = sym (append-nil (head ++ (clear ++ c) ++ t) ∙ ap (λ (xs : List ℕ). xs ++ t) (sym (append_assoc head clear c)))

-- the law of frames in place, as its call gives it
abbrev pub LawOfParts : Type 0
LawOfParts = (offset : ℕ) (e : Bool) (da sa : List ℕ) (tag : Tag) (user_data : List ℕ) → PartsInPlace offset e da sa tag user_data

-- protecting addresses, SecTAG and client data in place, with space for the ICV, gives the parts concatenated
pub protected_row : LawOfParts → (key : PreparedKey) (iv : List ℕ) (tag : Tag) (frame whole : List ℕ) (n : ℕ) → 14 ≤ length frame → length whole ≡ n + 16
    → take n whole ≡ take 12 frame ++ encoding tag ++ drop 12 frame
    → protected_octets key iv tag.e (12 + length (encoding tag)) whole ≡ in_a_row (parts_under key iv tag frame)
protected_row parts_in_place key iv tag frame whole n long whole_long front =
    let da : List ℕ = take 6 frame in
    let sa : List ℕ = slice_range frame 6 12 in
    let client_data : List ℕ = drop 12 frame in
    let head : List ℕ = da ++ sa ++ encoding tag in
    let clear : List ℕ = take (clear_length key.offset tag.e client_data) client_data in
    let ap' : List ℕ × List ℕ = aad_and_plaintext key.offset tag.e da sa tag client_data in
    let ct : List ℕ × List ℕ = seal_of key.bytes iv ap'.0 ap'.1 in
    let at : length whole - 16 ≡ n = omega (arith, whole_long) in
    let addresses : take 12 frame ≡ da ++ sa = take-add 6 6 frame in
    let body : take (length whole - 16) whole ≡ head ++ client_data =
    ap (λ (m : ℕ). take m whole) at ∙ front ∙ ap (λ (xs : List ℕ). xs ++ encoding tag ++ client_data) addresses in
    let da_long : length da ≡ 6 = omega (arith, length-take 6 frame, long) in
    let sa_long : length sa ≡ 6 = omega (arith, length-take 6 (drop 6 frame), length-drop 6 frame, long) in
    ap (λ (xs : List ℕ). sealed_row key iv (clear_and_rest key.offset tag.e (12 + length (encoding tag)) xs)) body
    ∙ ap (sealed_row key iv) (parts_in_place key.offset tag.e da sa tag client_data da_long sa_long)
    ∙ grouped head clear ct.0 ct.1
