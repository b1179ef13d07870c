-- The lengths of the frames that an endpoint returns.
use Rattle.{
  std.proofs.Common.length-take,
  macsec_tag.specs.{
    Frame.has_macsec_ethertype,
    Table.{after_tag, data_length_at, parts_at, reading_with, tag_fault, tag_length_at},
    Tag.Tag,
    declared.fault.TagFault.TheVariants.Cut,
  },
  macsec_commands.specs.declared.form.TagForm.TagForm,
  macsec_tx.specs.Tags.{is_own, sci_sent},
  macsec_secy.proofs.{
    Names.{[], ◌++◌, ◌+◌, ◌<◌, ◌∙◌, ◌∷◌, ◌≡◌, ◌≤◌, aad_and_plaintext, ap, AreTxRows, arith, bad, bare_frame, Bool},
    Names.{CanBeSent, clear_length, client_frame, command_output, drop, encoding, false, frame_fault, FrameFault},
    Names.{IfSome, if◌then◌else◌, Input, InstalledKey, IsReadAsSent, IsSound, iv_of, Judgement, judgement_of, last_of},
    Names.{leaves, Leaving, length, length-append, length-drop, link_frame, List, Long, ltb-false, max_frame_len},
    Names.{MpduParts, nat_lt, no_sa, None, not, not_protected, octets_added, opened_frame, OpenUndoesSeal},
    Names.{operator_command, Option, Output, plain, plaintext_of, protected, protected_frame, Reading, reading},
    Names.{received_output, refl, Refusal, refusal, row_on, RxRow, Sci, sci_octets, seal_of, SealedLengths, Sending},
    Names.{sending_by, sending_of, sent_output, Short, slice_range, Some, State, step, sym, tag_sent, TagFault, tagged},
    Names.{take, take-append-drop, tci_an, the_key, to_be_bytes, too_long, true, tx_options, TxOptions, TxRow},
    Names.{uncontrolled_frame, unless_fault, untagged, w32, ℕ},
    JudgedBy.{JudgedBy, judged_by, step_2, step_6, step_10, step_12, step_13},
  },
  macsec_secy.specs.{Frames.{HasFrameLength, HasFrameLengths, HasLengthsFrom, HasProtectedLength}, Step.fault},
}
use Rattle.macsec_commands.specs.declared.form.TagForm.TheVariants as form

-- the laws of the lower layers, as the law functions state them
abbrev pub ReadAsSent : Type 0
ReadAsSent = (options : TxOptions) (key : InstalledKey) (row : TxRow) (frame : List ℕ) → CanBeSent options row frame → IsReadAsSent options key row frame

pub record LowerLaws : Type 0 where
  pub undoes : OpenUndoesSeal
  pub lengths : SealedLengths
  pub sent : ReadAsSent

-- ---- an incoming frame without a fault

has_no_fault : (frame : List ℕ) → frame_fault frame ≡ None → HasFrameLength frame
has_no_fault frame none = by_tests (nat_lt (length frame) 14) refl (nat_lt max_frame_len (length frame)) refl none
  where
    by_tests : (short : Bool) → nat_lt (length frame) 14 ≡ short → (long : Bool) → nat_lt max_frame_len (length frame) ≡ long →
        (if short then Some Short else if long then Some Long else None) ≡ None → HasFrameLength frame
    by_tests true s long l none = absurd cc
    by_tests false s true l none = absurd cc
    by_tests false s false l none = record { least = ltb-false (length frame) 14 s; most = ltb-false max_frame_len (length frame) l }

-- a property of all faults, and of the output for a frame of 14 to 9,248 octets, holds of every output
unless_faulty : (P : Output → Type 0) → ((f : FrameFault) → P (fault f)) → (s after : State) (frame : List ℕ) (output : Output) →
    (HasFrameLength frame → P output) → P (unless_fault (frame_fault frame) s (output, after)).0
unless_faulty P faulty s after frame output good = by_fault (frame_fault frame) refl
  where
    by_fault : (found : Option FrameFault) → frame_fault frame ≡ found → P (unless_fault found s (output, after)).0
    by_fault None none = good (has_no_fault frame none)
    by_fault (Some f) some = faulty f

-- ---- what is sent

-- a protected frame has 14 to 9,248 octets, and is 24 to 32 octets longer than the client frame
abbrev IsWithin : List ℕ → Leaving → Type 0
IsWithin client plain = Unit {0}
IsWithin client (protected key frame) = HasFrameLength frame × HasProtectedLength client frame
IsWithin client no_sa = Unit {0}
IsWithin client too_long = Unit {0}

-- the SCI in a sent SecTAG, if any, is the endpoint's own, so it has 8 octets
where_there : (sci : Sci) → length sci.0 ≡ 8 → (there : Bool) → length (sci_octets (if there then Some sci else None)) ≤ 8
where_there sci eight true = omega (arith, eight)
where_there sci eight false = omega arith

where_foreign : (sci : Sci) → length sci.0 ≡ 8 → (own : Bool) → length (sci_octets (if own then None else Some sci)) ≤ 8
where_foreign sci eight true = omega arith
where_foreign sci eight false = omega (arith, eight)

sci_up_to_8 : (f : TagForm) (many : Bool) (sci : Sci) (sa : List ℕ) → length sci.0 ≡ 8 → length (sci_octets (sci_sent f many sci sa)) ≤ 8
sci_up_to_8 form.Auto many sci sa eight = where_there sci eight many
sci_up_to_8 form.Sci many sci sa eight = omega (arith, eight)
sci_up_to_8 form.Es many sci sa eight = where_foreign sci eight (is_own sci sa)
sci_up_to_8 form.Scb many sci sa eight = where_foreign sci eight (is_own sci sa)

-- 8 octets precede the SCI
spelled_long : (t : Tag) → length (encoding t) ≡ 8 + length (sci_octets t.sci)
spelled_long t = length-append (0x88 ∷ 0xe5 ∷ tci_an t ∷ t.sl ∷ to_be_bytes w32 t.pn) (sci_octets t.sci)

-- the enabled SA has an association number from 0 to 3
on_has_number : (rows : List TxRow) → AreTxRows rows → IfSome (row_on rows) (λ row. row.an < 4)
on_has_number [] are = tt
on_has_number (row ∷ rows) are = by_test row.on (on_has_number rows are.2)
  where
    by_test : (on : Bool) → IfSome (row_on rows) (λ r. r.an < 4) → IfSome (if on then Some row else row_on rows) (λ r. r.an < 4)
    by_test true later = are.0.an
    by_test false later = later

protected_within : ReadAsSent → (options : TxOptions) (key : InstalledKey) (row : TxRow) (frame : List ℕ) → options.max_frame ≤ max_frame_len →
    CanBeSent options row frame → nat_lt options.max_frame (length frame + octets_added (tag_sent options row frame)) ≡ false →
    HasFrameLength (protected_frame options key row frame) × HasProtectedLength frame (protected_frame options key row frame)
protected_within read options key row frame limit can fits =
    let octets = (read options key row frame can).octets in
    let short = ltb-false options.max_frame (length frame + octets_added (tag_sent options row frame)) fits in
    let tag = spelled_long (tag_sent options row frame) in
    let sci = sci_up_to_8 options.form options.many options.sci (slice_range frame 6 12) can.sci in (
      record { least = omega (arith, octets, can.long); most = omega (arith, octets, short, limit) },
      record { least = omega (arith, octets, tag); most = omega (arith, octets, tag, sci) },
    )

sent_by : ReadAsSent → (options : TxOptions) (keys : List InstalledKey) (frame : List ℕ) (on : Option TxRow) → options.max_frame ≤ max_frame_len →
    IfSome on (λ row. CanBeSent options row frame) → IsWithin frame (sending_by options keys frame on).leaving
sent_by read options keys frame None limit can = tt
sent_by read options keys frame (Some row) limit can =
    by_tests (nat_lt (last_of (the_key keys row.key).suite) row.next) (nat_lt options.max_frame (length frame + octets_added (tag_sent options row frame))) refl
  where
    made : Sending
    made = record { leaving = protected row.key (protected_frame options (the_key keys row.key) row frame); by = Some row }

    by_tests : (used long : Bool) → nat_lt options.max_frame (length frame + octets_added (tag_sent options row frame)) ≡ long →
        IsWithin frame (if used then not_protected no_sa else if long then not_protected too_long else made).leaving
    by_tests true long e = tt
    by_tests false true e = tt
    by_tests false false e = protected_within read options (the_key keys row.key) row frame limit can e

sent_within : ReadAsSent → (s : State) → IsSound s → (frame : List ℕ) → HasFrameLength frame → IsWithin frame (sending_of s frame).leaving
sent_within read s sound frame good = by_test s.options.protect (nat_lt s.config.max_frame (length frame))
  where
    can_send : (on : Option TxRow) → IfSome on (λ row. row.an < 4) → IfSome on (λ row. CanBeSent (tx_options s) row frame)
    can_send None an = tt
    can_send (Some row) an = record { long = good.least; an = an; sci = sound.own_sci.count }

    by_test : (protects long : Bool) →
        IsWithin frame (if protects then sending_by (tx_options s) s.keys frame (row_on s.tx) else not_protected (if long then too_long else plain)).leaving
    by_test true long = sent_by read (tx_options s) s.keys frame (row_on s.tx) sound.max_frame_most (can_send (row_on s.tx) (on_has_number s.tx sound.tx))
    by_test false true = tt
    by_test false false = tt

output_within : (frame : List ℕ) (leaving : Leaving) → HasFrameLength frame → IsWithin frame leaving → HasFrameLengths (sent_output frame leaving)
output_within frame plain good within = good
output_within frame (protected key protected_frame) good within = within.0
output_within frame no_sa good within = tt
output_within frame too_long good within = tt

output_from : (frame : List ℕ) (leaving : Leaving) → IsWithin frame leaving → HasLengthsFrom frame (sent_output frame leaving)
output_from frame plain within = refl
output_from frame (protected key protected_frame) within = within.1
output_from frame no_sa within = tt
output_from frame too_long within = tt

-- ---- what is received

-- the frame without SecTAG, ICV and padding has at most n octets
abbrev FitsIn : ℕ → Reading → Type 0
FitsIn n untagged = Unit {0}
FitsIn n (bad found) = Unit {0}
FitsIn n (tagged p) = length (bare_frame p) ≤ n

abbrev DeliversUpTo : ℕ → Judgement → Type 0
DeliversUpTo n j = IfSome j.delivered (λ frame. length frame ≤ n)

bare_long : (p : MpduParts) → length (bare_frame p) ≡ length p.da + length p.sa + length p.secure_data
bare_long p = omega (arith, length-append (p.da ++ p.sa) p.secure_data, length-append p.da p.sa)

parts_fit : (frame : List ℕ) → 14 ≤ length frame → length (bare_frame (parts_at frame)) ≤ length frame
parts_fit frame long =
    omega (
      arith,
      long,
      bare_long (parts_at frame),
      length-take 6 frame,
      length-take 6 (drop 6 frame),
      length-drop 6 frame,
      length-take (data_length_at frame) (after_tag frame),
      length-drop (tag_length_at frame) (drop 12 frame),
      length-drop 12 frame,
    )

reading_fits : (frame : List ℕ) → 14 ≤ length frame → FitsIn (length frame) (reading frame)
reading_fits frame long = by_tests (nat_lt (length frame) 14) (not (has_macsec_ethertype frame)) (tag_fault frame)
  where
    by_tests : (short other : Bool) (found : Option TagFault) → FitsIn (length frame) (if short then bad Cut else if other then untagged else reading_with frame found)
    by_tests true other found = tt
    by_tests false true found = tt
    by_tests false false (Some found) = tt
    by_tests false false None = parts_fit frame long

-- a plaintext is as long as its ciphertext
opened_long : LowerLaws → (key : InstalledKey) (row : RxRow) (number : ℕ) (p : MpduParts) (plaintext : List ℕ) → plaintext_of key row number p ≡ Some plaintext →
    length (opened_frame key p plaintext) ≡ length (bare_frame p)
opened_long laws key row number p plaintext opens =
    let n : ℕ = clear_length key.offset p.tag.e p.secure_data in
    let iv : List ℕ = iv_of key.suite row.sci row.ssci key.salt number in
    let ac : List ℕ × List ℕ = aad_and_plaintext key.offset p.tag.e p.da p.sa p.tag p.secure_data in
    let sealed : seal_of key.bytes iv ac.0 plaintext ≡ (ac.1, p.icv) = (laws.undoes key.bytes iv ac.0 ac.1 p.icv plaintext).0 opens in
    let same : length plaintext ≡ length (drop n p.secure_data) = sym (laws.lengths.ciphertext key.bytes iv ac.0 plaintext) ∙ ap (λ (s : List ℕ × List ℕ). length s.0) sealed in
    let halves : length (take n p.secure_data) + length (drop n p.secure_data) ≡ length p.secure_data =
    sym (length-append (take n p.secure_data) (drop n p.secure_data)) ∙ ap length (take-append-drop n p.secure_data) in
    omega (
      arith,
      bare_long p,
      length-append (p.da ++ p.sa ++ take n p.secure_data) plaintext,
      length-append (p.da ++ p.sa) (take n p.secure_data),
      length-append p.da p.sa,
      same,
      halves,
    )

judged_up_to : LowerLaws → (s : State) (frame : List ℕ) (r : Reading) (j : Judgement) → JudgedBy s frame r j → FitsIn (length frame) r → DeliversUpTo (length frame) j
judged_up_to laws s frame r j step_2 fits = omega arith
judged_up_to laws s frame r j step_6 fits = fits
judged_up_to laws s frame r j (step_10 it mode late) fits = fits
judged_up_to laws s frame r j (step_12 it mode) fits = fits
judged_up_to laws s frame r j (step_13 {p = p} {row = row} {number = number} {plaintext = plaintext} it mode opens late) fits =
    omega (arith, opened_long laws (the_key s.keys row.key) row number p plaintext opens, fits)
judged_up_to laws s frame r j _ fits = tt

-- ---- the laws

command_has_none : (r : Option Refusal) → HasFrameLengths (command_output r)
command_has_none None = tt
command_has_none (Some r) = tt

pub lengths_of_frames : LowerLaws → (s : State) (input : Input) → IsSound s → HasFrameLengths (step s input).0
lengths_of_frames laws s (operator_command c) sound = command_has_none (refusal s c)
lengths_of_frames laws s (client_frame frame) sound =
    unless_faulty HasFrameLengths (λ f. tt) s _ frame (sent_output frame (sending_of s frame).leaving)
    (λ good. output_within frame (sending_of s frame).leaving good (sent_within laws.sent s sound frame good))
lengths_of_frames laws s (uncontrolled_frame frame) sound = unless_faulty HasFrameLengths (λ f. tt) s s frame (leaves frame None) (λ good. good)
lengths_of_frames laws s (link_frame frame) sound =
    unless_faulty HasFrameLengths (λ f. tt) s _ frame (received_output frame (judgement_of s frame))
    (λ good. record { shown = good; controlled = judged_up_to laws s frame (reading frame) _ (judged_by s frame (reading frame)) (reading_fits frame good.least) })

pub lengths_of_protected_frames : ReadAsSent → (s : State) (frame : List ℕ) → IsSound s → HasLengthsFrom frame (step s (client_frame frame)).0
lengths_of_protected_frames read s frame sound =
    unless_faulty (HasLengthsFrom frame) (λ f. tt) s _ frame (sent_output frame (sending_of s frame).leaving)
    (λ good. output_from frame (sending_of s frame).leaving (sent_within read s sound frame good))
