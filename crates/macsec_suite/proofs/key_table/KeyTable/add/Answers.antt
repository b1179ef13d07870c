-- If nothing refuses a key, its number is free. The refusal and the effect are as defined. Proved by search; written
-- out for speed, and so that a wrong body is refused quickly.
use Rattle.{std.proofs.Common.{◌≡◌, rules}, macsec_suite.specs.{KeyRows.suite_of, Refusals.is_too_wide}}
use Rattle.macsec_suite.proofs.key_table.KeyTable.add.Goals as goal

pub append-requires-clause-free : goal.append-requires-clause-free
append-requires-clause-free c = search rules

pub returns-in-Err-KeyLength-clause-refusal : goal.returns-in-Err-KeyLength-clause-refusal
returns-in-Err-KeyLength-clause-refusal c =
    let suite : c.unwrap_or-suite.result ≡ suite_of c.args.default c.args.key.now = c.unwrap_or-suite.ensures in
    search rules

pub returns-in-Err-Offset-clause-refusal : goal.returns-in-Err-Offset-clause-refusal
returns-in-Err-Offset-clause-refusal c =
    let suite : c.unwrap_or-suite.result ≡ suite_of c.args.default c.args.key.now = c.unwrap_or-suite.ensures in
    search rules

pub returns-then-is_taken-clause-refusal : goal.returns-then-is_taken-clause-refusal
returns-then-is_taken-clause-refusal c =
    let suite : c.unwrap_or-suite.result ≡ suite_of c.args.default c.args.key.now = c.unwrap_or-suite.ensures in
    search rules

pub returns-then-has_bytes-clause-refusal : goal.returns-then-has_bytes-clause-refusal
returns-then-has_bytes-clause-refusal c =
    let suite : c.unwrap_or-suite.result ≡ suite_of c.args.default c.args.key.now = c.unwrap_or-suite.ensures in
    search rules

pub returns-then-is_too_wide-clause-refusal : goal.returns-then-is_too_wide-clause-refusal
returns-then-is_too_wide-clause-refusal c =
    let suite : c.unwrap_or-suite.result ≡ suite_of c.args.default c.args.key.now = c.unwrap_or-suite.ensures in
    let wide : c.is_too_wide.result ≡ is_too_wide c.unwrap_or-suite.result c.args.window = c.is_too_wide.ensures in
    search rules

pub returns-clause-refusal : goal.returns-clause-refusal
returns-clause-refusal c =
    let suite : c.unwrap_or-suite.result ≡ suite_of c.args.default c.args.key.now = c.unwrap_or-suite.ensures in
    let wide : c.is_too_wide.result ≡ is_too_wide c.unwrap_or-suite.result c.args.window = c.is_too_wide.ensures in
    search rules

pub returns-clause-done : goal.returns-clause-done
returns-clause-done c =
    let suite : c.unwrap_or-suite.result ≡ suite_of c.args.default c.args.key.now = c.unwrap_or-suite.ensures in
    search rules
