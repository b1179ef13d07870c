-- A protected frame that one endpoint sends passes at another endpoint that has the matching SA.
use Rattle.{
  std.proofs.Common.le-ltb,
  macsec_suite.specs.Suites.extended_iv,
  macsec_tx.specs.Transmit.{parts_sent, use_sent},
  macsec_rx.specs.Judge.use_to_open,
  macsec_secy.proofs.{
    Names.{◌%◌, ◌&&◌, ◌++◌, ◌^◌, ◌∙◌, ◌≡◌, ◌≤◌, ap, arith, at_row, Bool, CanBeSent, cipher_use, clear_length, false},
    Names.{frame_fault, if◌then◌else◌, in_a_row, in_use, InstalledKey, is_bad_number, is_xpn, IsReadAsSent, IsSome},
    Names.{iv_of, judge_reading, judgement_of, key_row, length, length-append, link_frame, List, Long, ltb-false},
    Names.{max_frame_len, min_frame_len, MpduParts, nat_lt, None, not, number_of_frame, opened_frame, OpenUndoesSeal},
    Names.{padded_by, Passed, plaintext_of_use, prepared_key, ReadAgain, reading, recovered_number, refl, rx_options},
    Names.{RxRow, Sci, SealedLengths, Short, Some, State, step, Suite, tag_sent, tagged, take, the_key, to_be_bytes},
    Names.{true, tx_options, TxOptions, TxRow, w32, ℕ},
    InUse.in_use_is,
    NearNumbers.{not_bad, recovered},
    OctetsBehind.read_with,
    Passed.{is_enabled, passed},
    ProtectedBy.{is_row, protected_by},
    SealedParts.{gives_frame, sealed_of, sealed_opens},
  },
  macsec_secy.specs.{Accepts.{AcceptsSent, HasSameKey}, Step.received},
}

-- the laws of the lower layers, as the law functions state them
pub record LowerLaws : Type 0 where
  pub undoes : OpenUndoesSeal
  pub lengths : SealedLengths
  pub read_again : (p : MpduParts) → ReadAgain p
  pub read_as_sent : (options : TxOptions) (key : InstalledKey) (row : TxRow) (frame : List ℕ) → CanBeSent options row frame → IsReadAsSent options key row frame

-- ---- the same key, and the same IV

same_iv : (suite : Suite) (sci : Sci) (a b : ℕ) (salt other : List ℕ) (number : ℕ) → (is_xpn suite ≡ true → salt ≡ other) → (is_xpn suite ≡ true → a ≡ b) →
    iv_of suite sci a salt number ≡ iv_of suite sci b other number
same_iv suite sci a b salt other number same_salt same_ssci = by_test (is_xpn suite) (sci.0 ++ to_be_bytes w32 number) same_salt same_ssci
  where
    by_test : (xpn : Bool) (plain : List ℕ) → (xpn ≡ true → salt ≡ other) → (xpn ≡ true → a ≡ b) →
        (if xpn then extended_iv a salt number else plain) ≡ (if xpn then extended_iv b other number else plain)
    by_test true plain s c = rw (s refl, c refl) refl
    by_test false plain s c = refl

-- so the cipher opens exactly what was sealed
same_use : (key other : InstalledKey) (rx : RxRow) (sci : Sci) (number : ℕ) (p : MpduParts) → HasSameKey key other rx.ssci → rx.sci ≡ sci →
    use_to_open other rx number p ≡ cipher_use key (iv_of key.suite sci key.ssci key.salt number) p
same_use key other rx sci number p same of_sci =
    let iv : iv_of other.suite rx.sci rx.ssci other.salt number ≡ iv_of key.suite sci key.ssci key.salt number =
    ap (λ (suite : Suite). iv_of suite rx.sci rx.ssci other.salt number) same.suite
    ∙ ap (λ (s : Sci). iv_of key.suite s rx.ssci other.salt number) of_sci
    ∙ same_iv key.suite sci rx.ssci key.ssci other.salt key.salt number same.salt same.ssci in
    rw (same.bytes, same.offset, iv) refl

-- ---- the lengths of frames

no_fault : (frame : List ℕ) → min_frame_len ≤ length frame → length frame ≤ max_frame_len → frame_fault frame ≡ None
no_fault frame least most = rw (le-ltb (length frame) min_frame_len least, le-ltb max_frame_len (length frame) most) refl

pub is_long : (frame : List ℕ) → frame_fault frame ≡ None → min_frame_len ≤ length frame
is_long frame none = by_test (nat_lt (length frame) min_frame_len) refl none
  where
    by_test : (b : Bool) → nat_lt (length frame) min_frame_len ≡ b →
        (if b then Some Short else if nat_lt max_frame_len (length frame) then Some Long else None) ≡ None → min_frame_len ≤ length frame
    by_test true is none' = cc
    by_test false is none' = ltb-false (length frame) min_frame_len is

-- ---- the output

answered : (receiver : State) (frame : List ℕ) (rx : RxRow) (number : ℕ) (delivered : List ℕ) → frame_fault frame ≡ None →
    judgement_of receiver frame ≡ at_row rx number 13 Passed (Some delivered) → (step receiver (link_frame frame)).0 ≡ received Passed (Some (rx.sci, rx.an)) frame (Some delivered)
answered receiver frame rx number delivered fits judged = rw (fits, judged) refl

pub accepts_sent : LowerLaws → (sender receiver : State) (client : List ℕ) (tx : TxRow) (rx : RxRow) (behind : List ℕ) → AcceptsSent sender receiver client tx rx behind
accepts_sent laws sender receiver client tx rx behind sender_sound receiver_sound fits by can may =
    let options : TxOptions = tx_options sender in
    let key : InstalledKey = the_key sender.keys tx.key in
    let other : InstalledKey = the_key receiver.keys rx.key in
    let iv : List ℕ = iv_of key.suite options.sci key.ssci key.salt tx.next in
    let tag = tag_sent options tx client in
    let p : MpduParts = parts_sent options key tx client in
    let q : MpduParts = padded_by p behind in
    let frame : List ℕ = in_a_row p ++ behind in
    let plaintext : List ℕ = (sealed_of key.offset tag client).1 in
    let sent = protected_by options sender.keys sender.tx client tx by in
    let row = is_row sender.tx tx sender_sound.tx sent.on in
    let long : min_frame_len ≤ length client = is_long client fits in
    let as_sent = laws.read_as_sent options key tx client (record { long = long; an = row.an; sci = sender_sound.own_sci.count }) in
    let reads : reading frame ≡ tagged q = read_with laws.read_again p as_sent.is_tagged.tag as_sent.is_tagged.lengths refl behind may.none in
    let good : frame_fault frame ≡ None = no_fault frame (omega (arith, length-append (in_a_row p) behind, as_sent.octets, long)) may.most in
    let used = in_use_is (λ (r : RxRow). IsSome (key_row receiver.keys r.key)) receiver.rx.rows sender.config.sci tx.an rx receiver_sound.rx_keys can.on in
    let delivers : opened_frame other q plaintext ≡ client =
    ap (λ (offset : ℕ). p.da ++ p.sa ++ take (clear_length offset tag.e p.secure_data) p.secure_data ++ plaintext) can.key.offset
    ∙ gives_frame laws.lengths (prepared_key key) iv tag client in
    let opens : use_to_open other rx tx.next q ≡ use_sent options key tx client = same_use key other rx sender.config.sci tx.next q can.key used.sci in
    let passes = passed (rx_options receiver) receiver.keys receiver.rx q rx tx.next plaintext (record {
      not_reserved = same_bits tx.conf;
      used = ap (in_use receiver.rx.rows tx.an) can.sci ∙ can.on;
      numbered = ap (λ (s : Suite). number_of_frame s rx.lowest (tx.next % 2 ^ 32)) can.key.suite
          ∙ numbered key.suite (tx.next % 2 ^ 32) (not_bad (is_xpn key.suite) tx.next row.next_least sent.next)
          (recovered (is_xpn key.suite) rx.lowest tx.next row.next_least sent.next can.not_late can.near);
      in_time = le-ltb tx.next rx.lowest can.not_late;
      enabled = is_enabled receiver.options.mode can.not_disabled;
      opens = ap plaintext_of_use opens ∙ sealed_opens laws.undoes laws.lengths (prepared_key key) iv tag client;
    }) in
    let judged : judgement_of receiver frame ≡ at_row rx tx.next 13 Passed (Some client) =
    ap (judge_reading receiver frame) reads ∙ passes ∙ ap (λ (xs : List ℕ). at_row rx tx.next 13 Passed (Some xs)) delivers in
    record {
      passed = answered receiver frame rx tx.next client good judged ∙ told used.sci used.an;
      reads = reads;
      judged = judged;
      opens = opens;
    }
  where
    same_bits : (c : Bool) → (c && not c) ≡ false
    same_bits true = refl
    same_bits false = refl

    numbered : (suite : Suite) (pn : ℕ) → is_bad_number suite pn ≡ false → recovered_number (is_xpn suite) rx.lowest pn ≡ Some tx.next →
        number_of_frame suite rx.lowest pn ≡ Some tx.next
    numbered suite pn good is = rw (good, is) refl

    told : {sci : Sci} {an : ℕ} {frame : List ℕ} → rx.sci ≡ sci → rx.an ≡ an →
        received Passed (Some (rx.sci, rx.an)) frame (Some client) ≡ received Passed (Some (sci, an)) frame (Some client)
    told s a = rw (s, a) refl
