-- There is a number for each command, and a command for each row.
use Rattle.std.proofs.{Common.{◌≡◌, ◌∙◌, ◌++◌, [], length, map, None, ap, sym, rules}, lemmas.List.length-map}
use Rattle.macsec_ahead.specs.Loading.{begins_of}
use Rattle.macsec_c_calls.proofs.Loads.{length_begins}
use Rattle.macsec_c_values.specs.Rows.{command_of_row}
use Rattle.macsec_c_calls.specs.Loading.{commands_of, named_or_none}
use Rattle.macsec_c_calls.proofs.loading.load_commands.Goals as goal

pub copy_from_slice-requires : goal.copy_from_slice-requires
copy_from_slice-requires c =
    let all : c.append_commands.result ≡ None = search rules in
    let commands : c.as_slice.result.now ≡ commands_of c.args.rows.now =
    c.as_slice.ensures.value ∙ c.append_commands.ensures.commands all
    ∙ ap (λ it. it ++ commands_of c.args.rows.now) c.in_ok-commands.ensures.items in
    let begun : c.in-Ok.numbers.items ≡ begins_of c.args.endpoint.now c.as_slice.result.now = search rules in
    c.requires
    ∙ sym (length-map c.args.rows.now (λ r. named_or_none (command_of_row r)))
    ∙ sym (ap length commands)
    ∙ sym (length_begins c.args.endpoint.now c.as_slice.result.now)
    ∙ sym (ap length begun)
    ∙ sym (ap length c.as_slice-in-Ok.ensures.value)
