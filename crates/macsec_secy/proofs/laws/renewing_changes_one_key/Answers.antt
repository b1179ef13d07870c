-- A new key changes at most the row of its number. Proved in `KeyRenewed`.
use Rattle.macsec_secy.proofs.KeyRenewed.{keeps_all_but_keys, keeps_other_keys, takes_new_octets, takes_no_key_in_use}
use Rattle.macsec_secy.proofs.laws.renewing_changes_one_key.Goals as goal

pub returns-clause-others : goal.returns-clause-others
returns-clause-others c = keeps_other_keys

pub returns-clause-all_but_keys : goal.returns-clause-all_but_keys
returns-clause-all_but_keys c = keeps_all_but_keys

pub returns-clause-in_use : goal.returns-clause-in_use
returns-clause-in_use c = takes_no_key_in_use

pub returns-clause-octets : goal.returns-clause-octets
returns-clause-octets c = takes_new_octets
