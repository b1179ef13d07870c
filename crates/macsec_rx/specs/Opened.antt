-- The opening of a frame: what it needs besides the key and the frame, and what it gives.
use Rattle.std.specs.Prelude.{◌≡◌, ◌+◌, ◌≤◌, ℕ, List, length, option_map, Option, Some, None, IfSome, not, ◌&&◌, ◌||◌, if◌then◌else◌}
use Rattle.macsec_tag.specs.Frame.{MpduParts}
use Rattle.macsec_suite.specs.declared.key_row.KeyRow.{KeyRow}
use Rattle.macsec_suite.specs.Keys.{PreparedKey}
use Rattle.macsec_suite.specs.KeyRows.{InstalledKey, key_row, prepared_key, the_key}
use Rattle.macsec_suite.specs.Suites.{iv_of}
use Rattle.macsec_pn.specs.Numbers.{is_late}
use Rattle.macsec_rx.specs.declared.OpenJob.{OpenJob}
use Rattle.macsec_rx.specs.declared.RxRow.{RxRow}
use Rattle.macsec_rx.specs.declared.RxOptions.{RxOptions}
use Rattle.macsec_rx.specs.Channels.{Channels}
use Rattle.macsec_rx.specs.declared.OpenedFrame.{OpenedFrame}
use Rattle.macsec_rx.specs.Judge.{in_use, is_disabled, number_of_frame, octets_at, sci_of}
use Rattle.macsec_rx.specs.Delivered.{IsInPlace, frame_with, opened_under}

-- the opening of a frame of an SA, by its packet number: none if there is none, if it is late, or if frames are not validated
abbrev pub job_number : RxOptions → InstalledKey → RxRow → Option ℕ → Option OpenJob
job_number options key row None = None
job_number options key row (Some number) =
    if (options.replay && is_late row.lowest number) || is_disabled options.mode then None
    else Some (record { key = row.key; iv = iv_of key.suite row.sci row.ssci key.salt number })

-- by the SA that is enabled for it
abbrev pub job_row : RxOptions → List InstalledKey → MpduParts → Option RxRow → Option OpenJob
job_row options keys p None = None
job_row options keys p (Some row) =
    let key = the_key keys row.key in job_number options key row (number_of_frame key.suite row.lowest p.tag.pn)

-- of a frame whose SecTAG has no fault
abbrev pub job_tagged : RxOptions → List InstalledKey → Channels → MpduParts → Option OpenJob
job_tagged options keys channels p =
    if p.tag.e && not p.tag.c then None else job_row options keys p (in_use channels.rows p.tag.an (sci_of channels.scis p))

-- under this key and the job's IV: the frame with its plaintext is in the slice, or the ICV is invalid
pub record IsOpenedBy (opened : OpenedFrame) (key : PreparedKey) (p : MpduParts) (out : List ℕ) : Type 0 where
  pub octets : option_map (octets_at out) opened.delivered ≡ option_map (frame_with key p) (opened_under key opened.iv p)
  pub within : IfSome opened.delivered (λ at. at.0 + at.1 ≤ length out)
  pub place : IsInPlace opened.delivered p

-- what was opened before, if anything, was opened with the key of its number
abbrev pub IfOpened : Option OpenedFrame → List InstalledKey → MpduParts → List ℕ → Type 0
IfOpened opened keys p out =
    IfSome opened (λ o. (key : InstalledKey) → key_row keys o.key ≡ Some key → IsOpenedBy o (prepared_key key) p out)

-- and so with this key, if it has that number
abbrev pub IfOpenedUnder : Option OpenedFrame → KeyRow → MpduParts → List ℕ → Type 0
IfOpenedUnder opened key p out = IfSome opened (λ o. o.key ≡ key.key.number → IsOpenedBy o key.suite_key p out)
