-- The parts of a frame in place, as parts of its concatenated octets.
use Rattle.std.proofs.{
  Common.{◌≡◌, ℕ, ◌+◌, ◌-◌, List, ◌++◌, length, take, drop, min, Bool, refl, ap, ◌∙◌, arith, length-append},
  Common.{length-drop, if◌then◌else◌, Option, option_map},
  Math.Seq.{take-append-add, drop-append-add, drop-append_seam},
}
use Rattle.macsec_gcm.specs.Gcm.{seal_of, open_of}
use Rattle.macsec_tag.specs.Tag.{Tag, encoding}
use Rattle.macsec_suite.specs.{
  InPlace.{clear_and_rest, sealed_octets, validated_octets},
  Keys.PreparedKey,
  Laws.PartsInPlace,
  Parts.clear_length,
}

-- cutting the concatenated octets gives the header with the clear octets of the data, and the rest
pub cut_behind : (offset : ℕ) (e : Bool) (head user_data : List ℕ) →
    clear_and_rest offset e (length head) (head ++ user_data) ≡
    (head ++ take (clear_length offset e user_data) user_data, drop (clear_length offset e user_data) user_data)
cut_behind offset e head user_data =
    let n : ℕ = clear_length offset e user_data in
    let n_is : clear_length offset e (drop (length head) (head ++ user_data)) ≡ n = ap (clear_length offset e) (drop-append_seam head user_data) in
    pair
    (ap (λ (m : ℕ). take (length head + m) (head ++ user_data)) n_is ∙ take-append-add head user_data n)
    (ap (λ (m : ℕ). drop (length head + m) (head ++ user_data)) n_is ∙ drop-append-add head user_data n)
  where
    pair : {a b c d : List ℕ} → a ≡ b → c ≡ d → ◌≡◌ {A = List ℕ × List ℕ} (a, c) (b, d)
    pair x y = λ i. (x i, y i)

pub parts_in_place : (offset : ℕ) (e : Bool) (da sa : List ℕ) (tag : Tag) (user_data : List ℕ) → PartsInPlace offset e da sa tag user_data
parts_in_place offset e da sa tag user_data da_long sa_long =
    let head : List ℕ = da ++ sa ++ encoding tag in
    let long : 12 + length (encoding tag) ≡ length head = omega (arith, length-append (da ++ sa) (encoding tag), length-append da sa, da_long, sa_long) in
    ap (λ (n : ℕ). clear_and_rest offset e n (head ++ user_data)) long ∙ cut_behind offset e head user_data

-- the clear length of a body of known length
clear_of : (offset : ℕ) (e : Bool) (head n : ℕ) (body : List ℕ) → length body ≡ n →
    (if e then min offset (n - head) else n - head) ≡ clear_length offset e (drop head body)
clear_of offset e head n body long =
    let rest : length (drop head body) ≡ n - head = length-drop head body ∙ ap (λ m. m - head) long in
    rw rest refl

-- the clear octets, the sealed rest and its tag are what the definition gives for the whole frame
pub sealed_in_place : (key : List ℕ) (offset : ℕ) (iv : List ℕ) (conf : Bool) (head : ℕ) {clear : ℕ} (frame : List ℕ)
    {body aad text ct tag icv : List ℕ} → body ≡ take (length frame - 16) frame → length body ≡ length frame - 16 →
    clear ≡ (if conf then min offset (length frame - 16 - head) else length frame - 16 - head) →
    aad ≡ take (head + clear) body → text ≡ drop (head + clear) body →
    ◌≡◌ {A = List ℕ × List ℕ} (ct, tag) (seal_of key iv aad text) → icv ≡ tag →
    aad ++ ct ++ icv ≡ sealed_octets key offset iv conf head frame
sealed_in_place key offset iv conf head {clear} frame {body} body_is long clear_is aad_is text_is sealed icv_is =
    let cut : clear ≡ clear_length offset conf (drop head body) =
    clear_is ∙ clear_of offset conf head (length frame - 16) body long in
    rw (icv_is, ← body_is, ← cut, ← aad_is, ← text_is, ← sealed) refl

-- the result of opening is what the definition gives for the whole frame
pub validated_in_place : (key : PreparedKey) (iv : List ℕ) (e : Bool) (head n length_of_data : ℕ) (frame : List ℕ)
    {clear : ℕ} {body behind aad text bytes icv : List ℕ} {opened : Option (List ℕ)} →
    body ≡ take n frame → behind ≡ drop n frame → length body ≡ n → n ≡ head + length_of_data →
    clear ≡ (if e then min key.offset length_of_data else length_of_data) →
    aad ≡ take (head + clear) body → text ≡ drop (head + clear) body → bytes ≡ key.bytes → icv ≡ take 16 behind →
    open_of bytes iv aad text icv ≡ opened →
    validated_octets key iv e head n frame ≡ option_map (λ plaintext. aad ++ plaintext ++ behind) opened
validated_in_place key iv e head n length_of_data frame {clear} {body} body_is behind_is long n_is clear_is aad_is text_is
    bytes_are icv_is opened_is =
    let rest : n - head ≡ length_of_data = omega (arith, n_is) in
    let cut : clear ≡ clear_length key.offset e (drop head body) =
    clear_is ∙ rw (← rest) (clear_of key.offset e head n body long) in
    rw (← body_is, ← behind_is, ← cut, ← aad_is, ← text_is, ← bytes_are, ← icv_is, opened_is) refl
