-- A link frame: what is authenticated only, the ciphertext and the tag.
use Rattle.{
  std.proofs.{
    Common.{◌≡◌, inl, inr, ℕ, ◌-◌, ◌%◌, ◌^◌, ◌≤◌, Bool, true, false, List, [], ◌++◌, length, take, drop, min, refl},
    Common.{sym, ap, ap₂, ◌∙◌, subst, arith, append_assoc, length-drop, slice_range, append-nil, take-append-drop},
    Common.take-take,
    Math.Seq.take-add,
    lemmas.{Bool.cases_lt, List.{append_cancel_left, drop_all}},
  },
  macsec_gcm.proofs.{KeyStreams.{gctr-gctr, length-gctr}, Opening.length-ciphertext},
  macsec_gcm.specs.{Gcm.{inc32, pre_counter_block, seal_of}, Pieces.decrypted},
  macsec_tag.specs.Tag.{Tag, encoding},
  macsec_suite.specs.{KeyRows.InstalledKey, Parts.clear_length},
  macsec_tx.specs.{
    Tags.{es_sent, scb_sent, sci_sent, sl_of},
    Transmit.{tag_sent, use_sent},
    declared.{TxOptions.TxOptions, TxRow.TxRow},
  },
  macsec_secy.proofs.SealedParts.{clear_again, clear_of_length},
  macsec_secrecy.{
    proofs.Sealing.is_over_aes,
    specs.{Pads.{AreAlike, Message}, Runs.{AgreeInClear, FramesAreAlike, LinkFramesShow, message_of, message_sent}},
  },
}

pub decrypted_again : (key iv aad text : List ℕ) → decrypted key iv (seal_of key iv aad text).0 ≡ text
unfolding seal_of
decrypted_again key iv aad text = gctr-gctr key _ text

-- the octets that stay clear, followed by as many octets as are encrypted: both are found again
rest_again : (offset : ℕ) (e : Bool) (xs ys : List ℕ) → length ys ≡ length (drop (clear_length offset e xs) xs)
    → drop (clear_length offset e (take (clear_length offset e xs) xs ++ ys)) (take (clear_length offset e xs) xs ++ ys) ≡ ys
rest_again offset e xs ys long =
    let front : List ℕ = take _ xs in
    let whole = front ++ ys in
    let n = clear_length offset e whole in
    append_cancel_left front (drop n whole) ys
    (ap (λ f. f ++ drop n whole) (sym (clear_again offset e xs ys long)) ∙ take-append-drop n whole)

least : (offset : ℕ) (xs : List ℕ) → drop (min offset (length xs)) xs ≡ drop offset xs
least offset xs = elim (cases_lt offset (length xs)) [
  | inl below ↦ (let m : min offset (length xs) ≡ offset = omega arith in ap (λ n. drop n xs) m)
  | inr past ↦ drop_all _ xs (omega arith) ∙ sym (drop_all offset xs past)
]

encrypted_text : (offset : ℕ) (e : Bool) (xs : List ℕ) → e ≡ true → drop (clear_length offset e xs) xs ≡ drop offset xs
encrypted_text offset true xs e = least offset xs
encrypted_text offset false xs e = absurd (cc)

clear_text : (offset : ℕ) (e : Bool) (xs : List ℕ) → e ≡ false → drop (clear_length offset e xs) xs ≡ []
clear_text offset true xs e = absurd (cc)
clear_text offset false xs e = drop_all _ xs (omega arith)

same_message : (x y : Message) → x.iv ≡ y.iv → x.aad ≡ y.aad → x.text ≡ y.text → x ≡ y
same_message x y v a t = λ i. record { iv = v i; aad = a i; text = t i }

pub link_frames_show : LinkFramesShow
link_frames_show options key row frame =
    let tag = tag_sent options row frame in
    let xs = drop 12 frame in
    let n = clear_length key.offset tag.e xs in
    let m = message_sent options key row frame in
    let u = use_sent options key row frame in
    let ct = seal_of key.bytes m.iv m.aad m.text in
    let head = take 6 frame ++ slice_range frame 6 12 ++ encoding tag in
    let long : length ct.0 ≡ length (drop n xs) = length-ciphertext _ m.iv m.aad m.text in
    let aad : u.aad ≡ m.aad = ap (λ c. head ++ c) (clear_again _ tag.e xs ct.0 long) in
    let text : u.ciphertext ≡ ct.0 = rest_again _ tag.e xs ct.0 long in
    record {
      message = same_message _ m refl aad (ap (decrypted key.bytes m.iv) text ∙ decrypted_again _ m.iv m.aad _);
      sealed = sym (is_over_aes key.bytes m.iv m.aad m.text) ∙ ap (λ c. (c, ct.1)) (sym text);
      on_link = append-nil (head ++ (take n xs ++ ct.0) ++ ct.1)
          ∙ ap (λ f. f ++ ct.1) (sym (append_assoc head (take n xs) ct.0))
          ∙ ap (λ c. head ++ take n xs ++ c ++ ct.1) (sym text);
      encrypted = λ e. encrypted_text _ row.conf xs e;
      not_encrypted = λ e. clear_text _ row.conf xs e;
    }

-- a ciphertext is no longer than its client frame
pub ciphertext_long : (options : TxOptions) (key : InstalledKey) (row : TxRow) (frame : List ℕ) → length (use_sent options key row frame).ciphertext ≤ length frame
ciphertext_long options key row frame =
    let u = use_sent options key row frame in
    let it = link_frames_show options key row frame in
    let n = clear_length key.offset (tag_sent options row frame).e (drop 12 frame) in
    let same : length (message_of u).text ≡ length (drop n (drop 12 frame)) = ap (λ m. length m.text) it.message in
    omega (arith, length-gctr u.key (inc32 (pre_counter_block u.iv)) u.ciphertext, same, length-drop n (drop 12 frame), length-drop 12 frame)

-- ---- client frames that agree in what stays clear

-- the SecTAG depends on the source address and the length
abbrev tag_of : TxOptions → TxRow → List ℕ → ℕ → Tag
tag_of options row sa long = record {
  es = es_sent options.form options.sci sa;
  scb = scb_sent options.form options.sci sa;
  e = row.conf;
  c = row.conf;
  an = row.an;
  sl = sl_of (long - 12);
  pn = row.next % 2 ^ 32;
  sci = sci_sent options.form options.many options.sci sa;
}

-- the source address is among the first twelve octets
same_source : (frame other : List ℕ) → take 12 frame ≡ take 12 other → (take 6 frame ≡ take 6 other) × (slice_range frame 6 12 ≡ slice_range other 6 12)
same_source frame other e =
    let first : take 6 frame ≡ take 6 other = sym (take-take 6 12 frame (omega arith)) ∙ ap (take 6) e ∙ take-take 6 12 other (omega arith) in
    let both : take 6 frame ++ slice_range frame 6 12 ≡ take 6 frame ++ slice_range other 6 12 =
    sym (take-add 6 6 frame) ∙ e ∙ take-add 6 6 other ∙ ap (λ xs. xs ++ slice_range other 6 12) (sym first) in
    (first, append_cancel_left (take 6 frame) (slice_range frame 6 12) (slice_range other 6 12) both)

sent_alike : (options : TxOptions) (key : InstalledKey) (row : TxRow) (frame other : List ℕ) → AgreeInClear options key row frame other
    → AreAlike (message_sent options key row frame) (message_sent options key row other)
sent_alike options key row frame other agree =
    let xs = drop 12 frame in
    let ys = drop 12 other in
    let addresses = same_source frame other agree.addresses in
    let data_long : length xs ≡ length ys = omega (arith, length-drop 12 frame, length-drop 12 other, agree.long) in
    let n = clear_length key.offset row.conf xs in
    let same : n ≡ clear_length key.offset row.conf ys = clear_of_length _ row.conf xs ys data_long in
    let tag : tag_sent options row frame ≡ tag_sent options row other =
    ap₂ (λ (sa : List ℕ) (long : ℕ). tag_of options row sa long) addresses.1 agree.long in
    let clear : take n xs ≡ take _ ys = agree.clear ∙ ap (λ k. take k ys) same in
    record {
      iv = refl;
      aad = ap₂ (λ (head rest : List ℕ). head ++ rest)
          (ap₂ (λ (front : List ℕ) (t : Tag). front ++ encoding t) (ap₂ (λ (da sa : List ℕ). da ++ sa) addresses.0 addresses.1) tag) clear;
      text = length-drop n xs ∙ ap₂ (λ (long k : ℕ). long - k) data_long same ∙ sym (length-drop (clear_length key.offset row.conf ys) ys);
    }

pub frames_are_alike : FramesAreAlike
frames_are_alike options key row frame other agree =
    subst (λ m. AreAlike m (message_sent options key row other)) (sym (link_frames_show options key row frame).message)
    (sent_alike _ key row frame other agree)
