-- What the record's octets reserve is what was read of a copy of them.
use Rattle.{
  std.{proofs.Common.{◌++◌, ◌∙◌, ap, append-nil, sym}, specs.Option.option_to_list},
  macsec_reserve.specs.Journal.reserved_in,
}
use Rattle.macsec_c_journals.proofs.journals.read_record.Goals as goal

pub returns-in-Some-clause-items : goal.returns-in-Some-clause-items
returns-in-Some-clause-items c =
    c.append.ensures.items ∙ ap (λ rs. c.args.found.now.items ++ rs) (sym (ap option_to_list c.in-Some.is) ∙
    c.from_octets.ensures ∙ ap reserved_in c.copy_from_slice.ensures.after)

pub returns-in-None-clause-items : goal.returns-in-None-clause-items
returns-in-None-clause-items c =
    sym (append-nil c.args.found.now.items) ∙ ap (λ rs. c.args.found.now.items ++ rs)
    (sym (ap option_to_list c.in-None.is) ∙ c.from_octets.ensures ∙ ap reserved_in c.copy_from_slice.ensures.after)
