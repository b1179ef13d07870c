-- Acceptance over restarts: a protected frame of one run is accepted by a run of the other end, between any two moments.
use Rattle.std.specs.Prelude.{◌≡◌, ℕ, List, ◌++◌, Some, None}
use Rattle.macsec_tag.specs.Frame.{in_a_row}
use Rattle.macsec_tx.specs.declared.TxRow.{TxRow}
use Rattle.macsec_rx.specs.declared.RxRow.{RxRow}
use Rattle.macsec_rx.specs.declared.Verdict.TheVariants.{Passed}
use Rattle.macsec_secy.specs.Accepts.{CanAccept, CanComeBehind, parts_of}
use Rattle.macsec_secy.specs.Sound.{IsSound}
use Rattle.macsec_secy.specs.Step.{frame_fault, link_frame, received, sending_of}
use Rattle.macsec_reserve.specs.Keeping.{Keeping, endpoint_input, endpoint_output, keeping_step}

-- the premises are the ones for a single run (`CanAccept`). So a restart of the sender only skips packet numbers: under an
-- XPN suite fewer than 2^31 less the replay window, lost frames included. A restart of the receiver costs the frames below
-- the lowest number at which the SA was created again, and the frames that come in before it is enabled
abbrev pub AcceptsInTime : Keeping → Keeping → List ℕ → TxRow → RxRow → List ℕ → Type 0
AcceptsInTime sender receiver client tx rx behind =
    IsSound sender.secy → IsSound receiver.secy → frame_fault client ≡ None → (sending_of sender.secy client).by ≡ Some tx →
    CanAccept sender.secy receiver.secy tx rx (parts_of sender.secy client tx) → CanComeBehind (parts_of sender.secy client tx) behind →
    (keeping_step receiver (endpoint_input (link_frame (in_a_row (parts_of sender.secy client tx) ++ behind)))).0 ≡
    endpoint_output (received Passed (Some (sender.secy.config.sci, tx.an)) (in_a_row (parts_of sender.secy client tx) ++ behind) (Some client))
