-- The configuration that a caller in C gives.
use Rattle.macsec_suite.specs.declared.suite.Suite.{Suite}
use Rattle.macsec_commands.specs.declared.form.TagForm.{TagForm}
use Rattle.macsec_commands.specs.declared.config.EndConfig.{EndConfig}
use Rattle.macsec_c_values.specs.declared.configs.Config.{Config}
use Rattle.macsec_c_values.specs.Arguments.{Named, form_of, naming_both, sci_of, suite_of}

-- the configuration with this suite and tag form
abbrev pub config_with : Config → Suite → TagForm → EndConfig
config_with c suite form = record { suite = suite; sci = sci_of c.sci; max_frame = c.max_frame; form = form }

abbrev pub config_of : Config → Named EndConfig
config_of c = naming_both (config_with c) (suite_of c.suite) (form_of c.form)
