-- One clause each: no two keys have the same number or bytes (`KeysApart`), and a step keeps each key (`KeysStay`).
use Rattle.macsec_secy.proofs.{KeysApart.keys_are_apart, KeysStay.keys_stay}
use Rattle.macsec_secy.proofs.laws.keys_stay.Goals as goal

pub returns-clause-apart : goal.returns-clause-apart
returns-clause-apart c = keys_are_apart

pub returns-clause-stay : goal.returns-clause-stay
returns-clause-stay c = keys_stay
