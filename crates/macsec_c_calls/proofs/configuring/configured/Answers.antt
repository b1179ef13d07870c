use Rattle.macsec_c_calls.{proofs.Commanded.configured_by, specs.Texts.created_alone}
use Rattle.macsec_c_calls.proofs.configuring.configured.Goals as goal

pub returns : goal.returns
returns c =
    configured_by created_alone c.args.text.now _ c.parsed.inside.end c.config.result c.parsed.inside.commands.items c.as_slice.result.now _ c.in_ok-parsed.ensures
    c.parsed.view_is c.config.ensures.config c.as_slice.ensures.value c.endpoint_of.ensures
