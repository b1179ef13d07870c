-- The verdict on a tagged frame: the first step of reception whose condition holds (IEEE 802.1AE, 10.6).
--    1  an untagged frame, in Strict: NoTag
--    2  an untagged frame, in another mode: Untagged; the frame is delivered
--    3  the SecTAG has a fault: BadTag
--    4  E is set and C is clear: Reserved
--    5  no SA is enabled for the frame; Strict, or C is set: NoSaError
--    6  no SA is enabled for the frame, otherwise: NoSa; DA, SA and data are delivered
--    7  no packet number is recovered, or PN is 0 under a key with 32-bit packet numbers: BadTag
--    8  replay protection is on, and the packet number is late: Late
--    9  Disabled, and C is set: NotValid
--   10  Disabled, otherwise: Delayed if it is late, else Unchecked; DA, SA and data are delivered
--   11  the ICV is invalid; Strict, or C is set: NotValid
--   12  the ICV is invalid, otherwise: Invalid; DA, SA and data are delivered as received
--   13  the ICV is valid: Delayed if it is late, else Passed; DA, SA and opened data are delivered
-- Here SA in "no SA is enabled" is the secure association; in "DA, SA and data" it is the source address.
-- A frame whose SecTAG has no fault is judged from step 4 on. Only step 13 accepts the packet number.
use Rattle.std.specs.Prelude.{ℕ, List, [], ◌∷◌, ◌++◌, take, find, slice_range, ◌+◌, ◌==◌, Bool, true, false, not, ◌&&◌, ◌||◌, is_some, if◌then◌else◌, Option, Some, None}
use Rattle.macsec_tag.specs.declared.identifiers.Sci.{Sci}
use Rattle.macsec_tag.specs.Frame.{MpduParts}
use Rattle.macsec_pn.specs.Numbers.{recovered_number, is_late, accept}
use Rattle.macsec_suite.specs.declared.suite.Suite.{Suite}
use Rattle.macsec_suite.specs.Suites.{is_xpn, iv_of}
use Rattle.macsec_suite.specs.Parts.{clear_length}
use Rattle.macsec_suite.specs.KeyRows.{InstalledKey, the_key}
use Rattle.macsec_suite.specs.CipherUses.{CipherUse, cipher_use, plaintext_of_use}
use Rattle.macsec_rx.specs.declared.RxRow.{RxRow}
use Rattle.macsec_rx.specs.declared.RxOptions.{RxOptions}
use Rattle.macsec_commands.specs.declared.mode.Mode.{Mode}
use Rattle.macsec_commands.specs.declared.mode.Mode.TheVariants.{Disabled, Check, Strict}
use Rattle.macsec_rx.specs.declared.Verdict.{Verdict}
use Rattle.macsec_rx.specs.declared.Verdict.TheVariants.{BadTag, Reserved, NoSa, NoSaError, Late, NotValid, Unchecked, Delayed, Invalid, Passed}
use Rattle.macsec_rx.specs.Channels.{Channels, is_at, with_rx, numbers_of, with_numbers}

abbrev pub is_strict : Mode → Bool
is_strict Strict = true
is_strict Check = false
is_strict Disabled = false

abbrev pub is_disabled : Mode → Bool
is_disabled Disabled = true
is_disabled Check = false
is_disabled Strict = false

-- the SCI of a port at an address
abbrev pub port_of : List ℕ → ℕ → Sci
port_of address port = record { 0 = address ++ 0 ∷ port ∷ [] }

-- the SCI of the only SC, if there is exactly one
abbrev pub only_channel : List Sci → Option Sci
only_channel [] = None
only_channel (sci ∷ []) = Some sci
only_channel (sci ∷ other ∷ scis) = None

-- the SCI of a received frame: the SecTAG's, if it carries one; else the source address with port 0 if SCB is set, or
-- with port 1 if ES is set; else the SCI of the only SC
abbrev pub sci_of : List Sci → MpduParts → Option Sci
sci_of scis p =
    if is_some p.tag.sci then p.tag.sci
    else if p.tag.scb then Some (port_of p.sa 0)
    else if p.tag.es then Some (port_of p.sa 1)
    else only_channel scis

-- the SA for a received frame: the one of its SCI and association number, if it is enabled
abbrev pub in_use : List RxRow → ℕ → Option Sci → Option RxRow
in_use rows an None = None
in_use rows an (Some sci) = find (λ row. is_at sci an row && row.on) rows

-- the number of the step that decides, the verdict, the SA (from step 7 on), the packet number (from step 8 on, 0
-- before), and what is delivered
pub record Judgement : Type 0 where
  pub step : ℕ
  pub verdict : Verdict
  pub row : Option RxRow
  pub number : ℕ
  pub delivered : Option (List ℕ)

abbrev pub without_row : ℕ → Verdict → Option (List ℕ) → Judgement
without_row step verdict delivered =
    record { step = step; verdict = verdict; row = None; number = 0; delivered = delivered }

abbrev pub at_row : RxRow → ℕ → ℕ → Verdict → Option (List ℕ) → Judgement
at_row row number step verdict delivered =
    record { step = step; verdict = verdict; row = Some row; number = number; delivered = delivered }

-- the frame without SecTAG, ICV and padding
abbrev pub bare_frame : MpduParts → List ℕ
bare_frame p = p.da ++ p.sa ++ p.secure_data

-- the use of the cipher that is opened for the frame, under a key and with a packet number
abbrev pub use_to_open : InstalledKey → RxRow → ℕ → MpduParts → CipherUse
use_to_open key row number p = cipher_use key (iv_of key.suite row.sci row.ssci key.salt number) p

-- the plaintext of a frame, if its ICV is valid
abbrev pub plaintext_of : InstalledKey → RxRow → ℕ → MpduParts → Option (List ℕ)
plaintext_of key row number p = plaintext_of_use (use_to_open key row number p)

-- the frame with the octets that stayed clear, followed by its plaintext
abbrev pub opened_frame : InstalledKey → MpduParts → List ℕ → List ℕ
opened_frame key p plaintext =
    p.da ++ p.sa ++ take (clear_length key.offset p.tag.e p.secure_data) p.secure_data ++ plaintext

-- steps 11 to 13: the ICV is invalid (`None`) or valid
abbrev pub judge_opened : RxOptions → InstalledKey → RxRow → ℕ → MpduParts → Option (List ℕ) → Judgement
judge_opened options key row number p None =
    if p.tag.c || is_strict options.mode then at_row row number 11 NotValid None
    else at_row row number 12 Invalid (Some (bare_frame p))
judge_opened options key row number p (Some plaintext) =
    at_row row number 13 (if is_late row.lowest number then Delayed else Passed) (Some (opened_frame key p plaintext))

-- steps 11 to 13, with the result of the cipher
abbrev pub judge_validated : RxOptions → InstalledKey → RxRow → ℕ → MpduParts → Judgement
judge_validated options key row number p = judge_opened options key row number p (plaintext_of key row number p)

-- steps 7 to 13: there is no packet number, it is late, frames are not validated, or the cipher decides
abbrev pub judge_number : RxOptions → InstalledKey → RxRow → MpduParts → Option ℕ → Judgement
judge_number options key association p None = at_row association 0 7 BadTag None
judge_number options key association p (Some number) =
    if options.replay && is_late association.lowest number then at_row association number 8 Late None
    else if is_disabled options.mode && p.tag.c then at_row association number 9 NotValid None
    else if is_disabled options.mode
    then at_row association number 10 (if is_late association.lowest number then Delayed else Unchecked) (Some (bare_frame p))
    else judge_validated options key association number p

-- the PN field is 0 and packet numbers have 32 bits; no sender uses it
abbrev pub is_bad_number : Suite → ℕ → Bool
is_bad_number suite pn = pn == 0 && not (is_xpn suite)

-- the packet number of a frame, recovered from the suite of its SA's key, the lowest acceptable number and the PN
-- field; none for a bad PN
abbrev pub number_of_frame : Suite → ℕ → ℕ → Option ℕ
number_of_frame suite lowest pn = if is_bad_number suite pn then None else recovered_number (is_xpn suite) lowest pn

-- steps 5 to 13: no SA is enabled for the frame, or one is
abbrev pub judge_row : RxOptions → List InstalledKey → MpduParts → Option RxRow → Judgement
judge_row options keys p None =
    if is_strict options.mode || p.tag.c then without_row 5 NoSaError None
    else without_row 6 NoSa (Some (bare_frame p))
judge_row options keys p (Some row) =
    let key = the_key keys row.key in
    judge_number options key row p (number_of_frame key.suite row.lowest p.tag.pn)

-- steps 4 to 13, with the SA that is enabled for the frame, if any
abbrev pub judge_tagged_row : RxOptions → List InstalledKey → MpduParts → Option RxRow → Judgement
judge_tagged_row options keys p row =
    if p.tag.e && not p.tag.c then without_row 4 Reserved None else judge_row options keys p row

abbrev pub judge_tagged : RxOptions → List InstalledKey → Channels → MpduParts → Judgement
judge_tagged options keys channels p =
    judge_tagged_row options keys p (in_use channels.rows p.tag.an (sci_of channels.scis p))

-- the packet number is accepted if and only if step 13 decides
abbrev pub accepted_number : Judgement → Option ℕ
accepted_number j = if j.step == 13 then Some j.number else None

abbrev pub row_accepting : ℕ → ℕ → RxRow → RxRow
row_accepting window number row = with_numbers (accept (numbers_of row) number window) row

abbrev pub rows_accepting : ℕ → Option ℕ → Option RxRow → List RxRow → List RxRow
rows_accepting window None row rows = rows
rows_accepting window (Some number) None rows = rows
rows_accepting window (Some number) (Some row) rows = with_rx (row_accepting window number) row.sci row.an rows

abbrev pub rows_after : ℕ → Judgement → List RxRow → List RxRow
rows_after window j rows = rows_accepting window (accepted_number j) j.row rows

-- the SCI and the association number of an SA
abbrev pub place_of : RxRow → Sci × ℕ
place_of row = (row.sci, row.an)

-- the octets at a position, with a length
abbrev pub octets_at : List ℕ → ℕ × ℕ → List ℕ
octets_at out at = slice_range out at.0 (at.0 + at.1)
