-- One clause each: an SA is found by its SC and number (`DeliveredFrom`), and its next packet number does not fall
-- (`RxRowsStay`).
use Rattle.macsec_secy.proofs.{DeliveredFrom.rx_rows_are_apart, RxRowsStay.rx_rows_stay}
use Rattle.macsec_secy.proofs.laws.rx_rows_stay.Goals as goal

pub returns-clause-apart : goal.returns-clause-apart
returns-clause-apart c = rx_rows_are_apart

pub returns-clause-stay : goal.returns-clause-stay
returns-clause-stay c = rx_rows_stay
