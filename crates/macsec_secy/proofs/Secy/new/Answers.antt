-- A new endpoint is in the start state of the machine, by the contracts of `new` and `zero` of its parts. That state is
-- sound if the configuration has no fault (`at_start`).
use Rattle.macsec_secy.proofs.{
  Names.{◌≡◌, AreChannels, config_fault, None, refl, rules, start, subst},
  StaysSound.{TablesHold, at_start},
}
use Rattle.macsec_secy.proofs.Secy.new.Goals as goal

pub invariant_of-result : goal.invariant_of-result
invariant_of-result c =
    let good : config_fault c.args.config ≡ None = search rules in
    let tables : TablesHold (start c.args.config) = record { keys = tt; tx = tt; rx = subst AreChannels c.new-3.ensures.none c.new-3.ensures.channels } in
    let begun = at_start c.args.config good c.fault.ensures.sci tables in
    record {
      sound = rw (c.new-2.ensures, c.new-3.ensures.none, c.new-4.ensures, c.zero.ensures, c.zero-2.ensures, c.in-Ok.ensures) begun;
      room = search rules;
    }

pub returns-clause-sound : goal.returns-clause-sound
returns-clause-sound c = (invariant_of-result c).sound

pub returns-clause-result : goal.returns-clause-result
returns-clause-result c =
    let good : config_fault c.args.config ≡ None = search rules in (
      good,
      rw (c.new-2.ensures, c.new-3.ensures.none, c.new-4.ensures, c.zero.ensures, c.zero-2.ensures, c.in-Ok.ensures) refl,
    )
