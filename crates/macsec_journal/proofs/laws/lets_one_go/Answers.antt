use Rattle.std.proofs.{
  Common.{◌∙◌, ◌++◌, ℕ, List, length, ap, arith},
  lemmas.List.{drop-append-le, drop_all},
}
use Rattle.macsec_journal.proofs.Allowed.{none_left}
use Rattle.macsec_journal.proofs.Going.{itself_goes, others_stay}
use Rattle.macsec_journal.proofs.Names.{left_out}
use Rattle.macsec_journal.proofs.laws.lets_one_go.Goals as goal
use Rattle.macsec_journal.specs.World.{lost_if}

pub returns : goal.returns
returns c = record {
  leaves = λ j name. left_out j.table name;
  ends = λ w p name. itself_goes name w.told;
  told = λ w p name other differ. others_stay name other w.told differ;
  stay = λ j name other differ. others_stay name other j.table differ;
  lost = λ p name none. ap (λ (n : ℕ). lost_if n name p.lost) none;
  in_use = λ p name none. ap (λ (n : ℕ). lost_if n name p.lost_in_use) none;
  since = λ b names. drop-append-le (length b.gone) b.gone names (omega arith) ∙ ap (λ xs. xs ++ names)
      (drop_all {X = List ℕ} (length b.gone) b.gone (omega arith));
  deleted = λ a r name others. none_left a.k a.taken r a.k.secy.rx.rows name others;
}
