-- The messages of link frames: octets, of few blocks.
use Rattle.{
  std.proofs.{
    Common.{drop, length-drop, length-take, get_or-append-add},
    lemmas.{List.{get_or_append_left, Elements.{All-append, All-drop, All-take}}, Option.get_or_from_slice_get},
  },
  macsec_tag.specs.{Laws.ReadsByGrammar, Table.{reading, tagged}, Tag.encoding},
  macsec_suite.specs.{CipherUses.cipher_use, Parts.clear_length},
  macsec_hash_keys.specs.Forgeries.IsWithin,
  macsec_link.proofs.{
    Deliveries.Grammar,
    Names.{[], ◌≡◌, ℕ, ◌+◌, ◌<◌, ◌≤◌, ◌∙◌, List, ◌++◌, All, All-nil, AreOctets, CipherUse, InstalledKey, IsSound},
    Names.MpduParts,
    Names.{Some, WorldState, ap, arith, frame_at, in_a_row, length, length-append, slice_get, slice_get_within, subst},
    Names.take,
    WindowMarks.frame_holds,
  },
}
use Rattle.std.proofs.Common.{◌*◌}

-- ---- octets

all_left : (xs ys : List ℕ) → AreOctets (xs ++ ys) → AreOctets xs
all_left xs ys all = λ k default lt.
    subst (λ n. n < 256) (get_or_append_left xs ys default k lt) (all k default (omega (arith, length-append xs ys)))

all_right : (xs ys : List ℕ) → AreOctets (xs ++ ys) → AreOctets ys
all_right xs ys all = λ k default lt.
    subst (λ n. n < 256) (get_or-append-add xs ys k default)
    (all (length xs + k) default (omega (arith, length-append xs ys)))

pub data_octets : (p : MpduParts) → AreOctets (in_a_row p) → AreOctets p.secure_data
data_octets p octets =
    let before = p.da ++ p.sa ++ encoding p.tag in
    all_right before _ (all_left _ p.icv (all_left _ _ octets))

-- what holds of each link frame holds of one that is on the link
pub on_the_link : (P : List ℕ → Type 0) (frames : List (List ℕ)) (n : ℕ) (frame : List ℕ) → All P frames
    → slice_get frames n ≡ Some frame → P frame
on_the_link P frames n frame all is =
    subst P (get_or_from_slice_get frames n frame [] is) (all n [] (slice_get_within frames n frame is))

-- ---- blocks

-- a frame's use of the cipher, if the frame has at most 16 m octets
pub parts_within : (m : ℕ) (key : InstalledKey) (iv : List ℕ) (p : MpduParts) → AreOctets (in_a_row p)
    → length (in_a_row p) ≤ 9248 → length (in_a_row p) ≤ 16 * m
    → length p.icv ≡ 16 → IsWithin (m + 1) (cipher_use key iv p)
parts_within m key iv p octets most fits icv =
    let clear = clear_length key.offset p.tag.e p.secure_data in
    let before = p.da ++ p.sa ++ encoding p.tag in
    let aad = before ++ take clear p.secure_data in
    let text = drop clear p.secure_data in
    let with_icv = all_left (before ++ p.secure_data ++ p.icv) p.padding octets in
    let with_data = all_left (before ++ p.secure_data) p.icv with_icv in
    let before_octets = all_left before p.secure_data with_data in
    let whole : length (in_a_row p) ≡ length before + length p.secure_data + length p.icv + length p.padding =
    length-append (before ++ p.secure_data ++ p.icv) p.padding
    ∙ ap (λ n. n + length p.padding)
    (length-append (before ++ p.secure_data) p.icv ∙ ap (λ n. n + length p.icv) (length-append before p.secure_data)) in
    let aad_long = length-append before (take clear p.secure_data) in
    let both : length aad + length text ≡ length before + length p.secure_data =
    omega (arith, aad_long, length-take clear p.secure_data, length-drop clear p.secure_data) in
    let some : 0 < length before = omega (arith, length-append (p.da ++ p.sa) (encoding p.tag)) in
    record {
      message = record {
        aad_octets =
            All-append (λ x. x < 256) before _ before_octets (All-take (λ x. x < 256) clear _ (data_octets p octets));
        text_octets = All-drop (λ x. x < 256) clear _ (data_octets p octets);
        aad_fits = omega (arith, both, whole, most);
        text_fits = omega (arith, both, whole, most);
      };
      has_aad = omega (arith, aad_long, some);
      blocks = omega (arith, both, whole, fits, icv);
    }

-- a use of the cipher by the parts as which a frame is read
pub record IsOfFrame (frame : List ℕ) (u : CipherUse) : Type 0 where
  pub key : InstalledKey
  pub iv : List ℕ
  pub parts : MpduParts
  pub read : reading frame ≡ tagged parts
  pub is : cipher_use key iv parts ≡ u

pub frame_within : Grammar → (m : ℕ) (frame : List ℕ) (u : CipherUse) → IsOfFrame frame u → AreOctets frame
    → length frame ≤ 9248
    → length frame ≤ 16 * m → IsWithin (m + 1) u
frame_within grammar m frame u it octets most fits =
    let is = ((grammar frame octets).is_tagged it.parts).0 it.read in
    subst (IsWithin (m + 1)) it.is
    (parts_within m it.key it.iv it.parts (subst AreOctets is.row octets) (subst (λ f. length f ≤ 9248) is.row most)
    (subst (λ f. length f ≤ 16 * m) is.row fits) is.lengths.icv)

-- the same for a frame on the link
pub carried_within : Grammar → (w : WorldState) (m n : ℕ) (u : CipherUse) → IsSound w
    → All (λ frame. length frame ≤ 16 * m) w.frames → IsOfFrame (frame_at w n) u → IsWithin (m + 1) u
carried_within grammar w m n u sound fits it =
    frame_within grammar m (frame_at w n) u it
    (frame_holds AreOctets (All-nil (λ x. x < 256)) w n sound.octets)
    (frame_holds (λ f. length f ≤ 9248) (omega arith) w n sound.frames)
    (frame_holds (λ f. length f ≤ 16 * m) (omega arith) w n fits)
