-- The SA for a frame is the one of its SCI and number, if that is enabled. Proved from the lemmas in `RowIndex`.
use Rattle.{
  std.proofs.Common.{◌≡◌, ◌∙◌, sym, Some},
  macsec_rx.{proofs.RowIndex.{in_use-none, in_use-off, in_use-on}, specs.Judge.sci_of},
}
use Rattle.macsec_rx.proofs.channels.RxChannels.in_use.Goals as goal

pub returns-in_err-found-clause-row : goal.returns-in_err-found-clause-row
returns-in_err-found-clause-row c =
    let known : sci_of c.args.self.now.scis c.args.mpdu.now ≡ Some c.in_ok-sci.sci = sym c.sci_of.ensures ∙ c.in_ok-sci.was in
    let row = rw (c.an.ensures, c.tag.ensures) at c.in_err-found.ensures.row in
    rw (c.from_residual-in_err-found.ensures, known) (sym (in_use-none c.args.self.now.rows c.in_ok-sci.sci c.args.mpdu.now.tag.an row))

pub returns-then-found-clause-row : goal.returns-then-found-clause-row
returns-then-found-clause-row c =
    let known : sci_of c.args.self.now.scis c.args.mpdu.now ≡ Some c.in_ok-sci.sci = sym c.sci_of.ensures ∙ c.in_ok-sci.was in
    let row = rw (c.an.ensures, c.tag.ensures) at c.in_ok-found.ensures.row in
    rw known (sym (in_use-on c.args.self.now.scis c.args.self.now.rows c.in_ok-sci.sci c.args.mpdu.now.tag.an c.in_ok-found.found.row c.found.ensures.channels.rows row c.if-found.true))

pub returns-else-found-clause-row : goal.returns-else-found-clause-row
returns-else-found-clause-row c =
    let known : sci_of c.args.self.now.scis c.args.mpdu.now ≡ Some c.in_ok-sci.sci = sym c.sci_of.ensures ∙ c.in_ok-sci.was in
    let row = rw (c.an.ensures, c.tag.ensures) at c.in_ok-found.ensures.row in
    rw known (sym (in_use-off c.args.self.now.scis c.args.self.now.rows c.in_ok-sci.sci c.args.mpdu.now.tag.an c.in_ok-found.found.row c.found.ensures.channels.rows row c.if-found.false))
