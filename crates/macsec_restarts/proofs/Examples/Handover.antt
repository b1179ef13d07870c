-- A handover. A's first run reserves packet numbers (PNs) up to 100, and uses 1 and 2. The endpoint that takes over
-- reads a journal with the PNs up to 2, and sends with PN 3. So it reads what was sent, but not what was reported
-- durable. The other runs come from `TwoRunsEach`. All premises of order are met, and A meets all premises of no IV.
use Rattle.macsec_restarts.proofs.Examples.Blocks.{blocks, EndRun, runs_at-blocks}
use Rattle.macsec_restarts.proofs.Examples.Histories.{Facts, facts_of, in_order, MeetsAll, never, without_option}
use Rattle.macsec_restarts.proofs.Examples.Told.{short}
use Rattle.macsec_restarts.proofs.Examples.TwoRunsEach.{at_most, from_first, is_free, meets_from, no_iv_from, none_is}
use Rattle.macsec_restarts.proofs.Examples.TwoRunsEach.{reads, reserved_2, reserved_is, run_a}
use Rattle.macsec_restarts.proofs.Examples.Without.{NoPremise}
use Rattle.macsec_restarts.proofs.Names.{[], ◌∷◌, ◌≡◌, ◌≤◌, A, AllPairs, arith, B, bytes, client, false, gcm_a}
use Rattle.macsec_restarts.proofs.Names.{highest, highest_of_one, IsStrictlyIncreasing, journal, KeepsDurable, List}
use Rattle.macsec_restarts.proofs.Names.{refl, Reservation, reservations, Run, runs_at, salt, same_octets-refl, says}
use Rattle.macsec_restarts.proofs.Names.{sci_a, sending_name, subst, suc, true, zero, ℕ}
use Rattle.macsec_restarts.specs.Kept.{ReadsDurable}
use Rattle.macsec_restarts.specs.RenewingOrder.{ComesInOrderRenewing, IsHistoryWith}
use Rattle.macsec_restarts.proofs.Examples.Senders as sender

abbrev name : List ℕ
name = sending_name (salt false) bytes

abbrev reserved_100 : Reservation
reserved_100 = sender.reserves_to 100 (salt false)

abbrev first_run : Run
first_run = record { journal = journal false []; config = gcm_a; inputs = sender.inputs_to 100 false (salt false) }

first_does : Facts (short 1) sci_a NoPremise [] (without_option first_run) (sender.sent false) []
first_does = facts_of refl (sender.told_to (salt false) (reads []) 100 false (is_free [] name 1 none_is (omega arith))
    (omega arith))

-- the runs of both ends
abbrev its : List EndRun
its = from_first first_run

-- ---- what was reported durable is not read: 100 was reported, and the journal has 2

pub not_read : KeepsDurable first_run (run_a true) → ⊥
not_read keeps =
    let reported : highest (reserved_100 ∷ []) name ≡ 100 =
    highest_of_one reserved_100 name true (same_octets-refl name) in
    let covered : highest (reserved_100 ∷ []) name ≤ highest (reservations (journal false (reserved_2 ∷ []))) name =
    keeps name in
    omega (
      arith,
      covered,
      reported,
      says false (reserved_2 ∷ []) reserved_is name,
      at_most name name 2 3 (omega arith),
    )

pub not_all_read : AllPairs ReadsDurable (runs_at never A (blocks its)) → ⊥
not_all_read all = not_read (subst (AllPairs ReadsDurable) (runs_at-blocks never A its) all 0 1
    (without_option first_run) (omega arith) (omega arith)).1

-- ---- the premises are met, and what B delivers comes in the order of sending

pub handed_over : MeetsAll never its bytes ((1 ∷ client 1) ∷ (2 ∷ client 1) ∷ (3 ∷ client 3) ∷ [])
    ((1 ∷ client 1) ∷ (3 ∷ client 3) ∷ [])
handed_over = meets_from first_run first_does

rises : IsStrictlyIncreasing (0 ∷ 2 ∷ [])
rises zero less = omega arith
rises (suc k) less = absurd (omega (arith, less))

pub comes_in_order : ComesInOrderRenewing never B bytes sci_a 0 (blocks its)
comes_in_order = in_order never its handed_over (0 ∷ 2 ∷ [], rises, refl)

pub meets_no_iv : IsHistoryWith (runs_at never A (blocks its))
meets_no_iv = no_iv_from first_run first_does
