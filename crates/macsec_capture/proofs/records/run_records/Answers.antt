use Rattle.{
  std.proofs.{Common.{◌≡◌, ◌∙◌, ap, arith, refl, rules, subst, None, Ok, Some}, lemmas.Result.err_from_is_err_and},
  macsec_pcap.specs.{Answers.answer_of, Reading.{Answers, IsAfter}, Writing.contents},
  macsec_capture.{proofs.Taken.{none_taken, taken_end, taken_fault, taken_more, taken_write}, specs.Runs.Written},
}
use Rattle.macsec_capture.proofs.records.run_records.Goals as goal

pub loop-k-init : goal.loop-k-init
loop-k-init g c = (none_taken _ _ _ _, omega (arith, c.requires.places), c.requires.sound, c.requires.no_fault, refl)

pub loop-k-preserved : goal.loop-k-preserved
loop-k-preserved g c =
    let inv = c.loop-k.invariant in
    let it = c.in_ok-run_record.ensures in
    let got : c.next.result ≡ Ok (Some c.in-Some.record) = c.in_ok-record.was ∙ ap Ok c.in-Some.is in
    let after : IsAfter c.loop-k.reader (answer_of c.next.result) c.next.follows.lender-at-none = search rules in
    let later = subst (λ a. IsAfter c.loop-k.reader (answer_of a) c.next.follows.lender-at-none) got after in (
      taken_more _ _ _ _ _ _ _ _ _ _ _ _ inv.0
          (subst (λ a. Answers c.loop-k.reader.ahead (answer_of a)) got c.next.ensures.answer) later.ahead
          it.written,
      omega (arith, inv.1, later.places),
      it.sound,
      it.no_fault,
      c.run_record.ensures.lent ∙ inv.4,
    )

pub returns-in_err-run_record-clause-records : goal.returns-in_err-run_record-clause-records
returns-in_err-run_record-clause-records g c =
    let p = err_from_is_err_and c.from_residual-in_err-run_record.result c.from_residual-in_err-run_record.ensures.1 in
    let got : c.next.result ≡ Ok (Some c.in-Some.record) = c.in_ok-record.was ∙ ap Ok c.in-Some.is in
    let after : IsAfter c.loop-k.reader (answer_of c.next.result) c.next.follows.lender-at-none = search rules in
    let later = subst (λ a. IsAfter c.loop-k.reader (answer_of a) c.next.follows.lender-at-none) got after in
    let written : Written = record {
      output = contents g.W.Write.contents c.run_record.new.writer;
      text = g.T.Write.contents c.run_record.new.text;
    } in
    rw (p.1, p.2)
    (taken_write _ _ _ _ _ _ _ written _ _ _ _ _ _ (omega (arith, c.requires.places, c.loop-k.invariant.1, later.places)) c.loop-k.invariant.0
    (subst (λ a. Answers c.loop-k.reader.ahead (answer_of a)) got c.next.ensures.answer) later.ahead c.in_err-run_record.ensures.written)

pub returns-in_err-record-clause-records : goal.returns-in_err-record-clause-records
returns-in_err-record-clause-records g c =
    let p = err_from_is_err_and c.from_residual.result c.from_residual.ensures.1 in
    let got = c.in_err-record.was in
    let after : IsAfter c.loop-k.reader (answer_of c.next.result) c.next.follows.lender-at-none = search rules in
    let later = subst (λ a. IsAfter c.loop-k.reader (answer_of a) c.next.follows.lender-at-none) got after in
    rw (p.1, p.2)
    (taken_fault _ _ _ _ _ _ _ c.loop-k.k _ _ (omega (arith, c.requires.places, c.loop-k.invariant.1, later.places)) c.loop-k.invariant.0
    (subst (λ a. Answers c.loop-k.reader.ahead (answer_of a)) got c.next.ensures.answer))

pub returns-in_default-clause-records : goal.returns-in_default-clause-records
returns-in_default-clause-records g c =
    let got : c.next.result ≡ Ok None = c.in_ok-record.was ∙ ap Ok c.in_default.is in
    let after : IsAfter c.loop-k.reader (answer_of c.next.result) c.next.follows.lender-at-none = search rules in
    let later = subst (λ a. IsAfter c.loop-k.reader (answer_of a) c.next.follows.lender-at-none) got after in
    taken_end _ _ _ _ _ _ _ c.loop-k.k _ (omega (arith, c.requires.places, c.loop-k.invariant.1, later.places)) c.loop-k.invariant.0
    (subst (λ a. Answers c.loop-k.reader.ahead (answer_of a)) got c.next.ensures.answer)
