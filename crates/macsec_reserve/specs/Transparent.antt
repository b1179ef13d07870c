-- When a keeping endpoint is the machine: without a journal, and with an empty one if what an input uses is reserved.
use Rattle.std.specs.Prelude.{◌≡◌, ◌≤◌, [], false}
use Rattle.std.specs.List.{All}
use Rattle.macsec_secy.specs.Laws.{number_used}
use Rattle.macsec_secy.specs.Sound.{IsSound}
use Rattle.macsec_secy.specs.Step.{Input, step}
use Rattle.macsec_reserve.specs.Journal.{highest}
use Rattle.macsec_reserve.specs.Keeping.{Keeping, endpoint_input, keeping_step, key_name, with_step}

abbrev pub IsTheMachine : Keeping → Input → Type 0
IsTheMachine k input =
    IsSound k.secy → k.before ≡ [] → All (λ u. u.1 ≤ highest k.granted (key_name k.salt k.secy.keys u.0)) (number_used k.secy input) →
    keeping_step k (endpoint_input input) ≡ with_step k (step k.secy input)

-- without a journal it takes the machine's step, whatever the input
abbrev pub IsTheMachineAlone : Keeping → Input → Type 0
IsTheMachineAlone k input = k.keeps ≡ false → keeping_step k (endpoint_input input) ≡ with_step k (step k.secy input)
