-- The judgement under the key that is found, with the recovered packet number.
use Rattle.std.proofs.Common.{◌≡◌, ℕ, List, ap, sym, ◌∙◌, refl, Option, None, Some, option_map, unwrap_or}
use Rattle.macsec_tag.specs.Frame.{MpduParts}
use Rattle.macsec_suite.specs.{
  KeyRows.{InstalledKey, key_row, no_key, the_key},
  KeyTables.{HasOwnKey, row_shown},
  Suites.iv_of,
  declared.key_row.KeyRow.KeyRow,
}
use Rattle.macsec_rx.specs.{
  Delivered.{frame_with, opened_under},
  Judge.{judge_number, judge_row, number_of_frame, plaintext_of},
  Opened.{job_number, job_row},
  declared.{RxOptions.RxOptions, RxRow.RxRow},
}

pub judged : (options : RxOptions) (keys : List InstalledKey) (p : MpduParts) (row : RxRow) (key : KeyRow) (first_unused number : ℕ) →
    key_row keys row.key ≡ Some (row_shown key first_unused) →
    Some number ≡ number_of_frame key.suite_key.suite row.lowest p.tag.pn →
    judge_number options (row_shown key first_unused) row p (Some number) ≡ judge_row options keys p (Some row)
judged options keys p row key first_unused number there is =
    let found : the_key keys row.key ≡ row_shown key first_unused = ap (λ o. unwrap_or o no_key) there in
    ap (judge_number options (row_shown key first_unused) row p) is
    ∙ ap (λ k. judge_number options k row p (number_of_frame k.suite row.lowest p.tag.pn)) (sym found)

-- if nothing is delivered under the prepared key, there is no plaintext
pub no_plaintext : (key : KeyRow) (first_unused : ℕ) (row : RxRow) (number : ℕ) (p : MpduParts) → HasOwnKey key →
    None ≡ option_map (frame_with key.suite_key p) (opened_under key.suite_key (iv_of key.suite_key.suite row.sci row.ssci key.key.salt number) p) →
    plaintext_of (row_shown key first_unused) row number p ≡ None
no_plaintext key first_unused row number p own none =
    let iv : List ℕ = iv_of key.suite_key.suite row.sci row.ssci key.key.salt number in
    sym (ap (λ k. opened_under k iv p) own.0) ∙ by_parts (opened_under key.suite_key iv p) (sym none)
  where
    by_parts : (o : Option (List ℕ)) → option_map (frame_with key.suite_key p) o ≡ None → o ≡ None
    by_parts None e = refl
    by_parts (Some plaintext) e = cc

-- the opening under the key that is found, with the recovered packet number
pub job_found : (options : RxOptions) (keys : List InstalledKey) (p : MpduParts) (row : RxRow) (key : KeyRow) (first_unused number : ℕ) →
    key_row keys row.key ≡ Some (row_shown key first_unused) →
    Some number ≡ number_of_frame key.suite_key.suite row.lowest p.tag.pn →
    job_number options (row_shown key first_unused) row (Some number) ≡ job_row options keys p (Some row)
job_found options keys p row key first_unused number there is =
    let found : the_key keys row.key ≡ row_shown key first_unused = ap (λ o. unwrap_or o no_key) there in
    ap (job_number options (row_shown key first_unused) row) is
    ∙ ap (λ k. job_number options k row (number_of_frame k.suite row.lowest p.tag.pn)) (sym found)
