use Rattle.{std.proofs.lemmas.Result.err_from_is_err_and, macsec_capture.proofs.Whole.{counted, uncounted}}
use Rattle.macsec_capture.proofs.running.run_opened.Goals as goal

pub returns-in_err-write_and_flush-clause-run : goal.returns-in_err-write_and_flush-clause-run
returns-in_err-write_and_flush-clause-run g c =
    let p = err_from_is_err_and c.from_residual.result c.from_residual.ensures.1 in
    rw (p.1, p.2) c.in_err-write_and_flush.ensures.run

pub returns-in_err-print_counters-clause-run : goal.returns-in_err-print_counters-clause-run
returns-in_err-print_counters-clause-run g c =
    let p = err_from_is_err_and c.from_residual-in_err-print_counters.result c.from_residual-in_err-print_counters.ensures.1 in
    rw (p.1, p.2)
    (λ octets file read stands. uncounted _ _ file _ _ _ _ _ _ _ c.in_err-print_counters.ensures.fault (c.in_ok-write_and_flush.ensures.run octets file read stands))

pub returns-clause-run : goal.returns-clause-run
returns-clause-run g c =
    λ octets file read stands. counted _ _ file _ _ _ _ _ _ (c.in_ok-write_and_flush.ensures.run octets file read stands) c.in_ok-print_counters.ensures.text

pub returns-in_err-write_and_flush-clause-some : goal.returns-in_err-write_and_flush-clause-some
returns-in_err-write_and_flush-clause-some g c =
    let p = err_from_is_err_and c.from_residual.result c.from_residual.ensures.1 in
    rw (p.1, p.2) c.in_err-write_and_flush.ensures.some

pub returns-in_err-print_counters-clause-some : goal.returns-in_err-print_counters-clause-some
returns-in_err-print_counters-clause-some g c =
    let p = err_from_is_err_and c.from_residual-in_err-print_counters.result c.from_residual-in_err-print_counters.ensures.1 in
    let taken = c.in_ok-write_and_flush.ensures.some in
    rw (p.1, p.2) (taken.0, uncounted _ _ taken.0 _ _ _ _ _ _ _ c.in_err-print_counters.ensures.fault taken.1)

pub returns-clause-some : goal.returns-clause-some
returns-clause-some g c =
    let taken = c.in_ok-write_and_flush.ensures.some in
    (taken.0, counted _ _ taken.0 _ _ _ _ _ _ taken.1 c.in_ok-print_counters.ensures.text)
