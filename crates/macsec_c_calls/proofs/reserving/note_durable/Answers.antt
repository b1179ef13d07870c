-- By search, once what the record's octets reserve is named. These proofs are here so that a wrong body is refused
-- quickly.
use Rattle.{std.proofs.Common.{ap, ◌∙◌, rules}, macsec_c_calls.specs.Reserving.reported}
use Rattle.macsec_c_calls.proofs.reserving.note_durable.Goals as goal

pub returns-in-None : goal.returns-in-None
returns-in-None c = search rules steps 300000

pub returns-in-Some : goal.returns-in-Some
returns-in-Some c = search rules ∙ ap (λ rs. reported c.args.endpoint.now rs) c.from_octets.ensures
