-- What happens at two ends that restart, in one order of time, and the runs of each end.
use Rattle.std.specs.Prelude.{ℕ, List, [], ◌∷◌, ◌++◌, Bool, true, false, if◌then◌else◌}
use Rattle.macsec_commands.specs.declared.config.EndConfig.{EndConfig}
use Rattle.macsec_commands.specs.declared.event.End.{End}
use Rattle.macsec_commands.specs.declared.event.End.TheVariants.{A, B}
use Rattle.macsec_reserve.specs.Histories.{Run}
use Rattle.macsec_reserve.specs.Keeping.{KeepingInput}

-- an end begins a run with the octets of its journal, whenever its last run ended; or its endpoint gets an input. A
-- link frame is an input of any octets, so the link needs no state
pub data Happening : Type 0 where
  begins : End → EndConfig → List ℕ → Happening
  comes_in : End → KeepingInput → Happening

abbrev pub same_end : End → End → Bool
same_end A A = true
same_end B B = true
same_end A B = false
same_end B A = false

-- the inputs of an end until it begins again
abbrev pub inputs_until : End → List Happening → List KeepingInput
inputs_until e [] = []
inputs_until e (begins f config journal ∷ more) = if same_end e f then [] else inputs_until e more
inputs_until e (comes_in f input ∷ more) = if same_end e f then input ∷ inputs_until e more else inputs_until e more

-- the runs of an end, the oldest first; inputs before its first run belong to no run
abbrev pub runs_of : End → List Happening → List Run
runs_of e [] = []
runs_of e (begins f config journal ∷ more) =
    if same_end e f then record { journal = journal; config = config; inputs = inputs_until e more } ∷ runs_of e more
    else runs_of e more
runs_of e (comes_in f input ∷ more) = runs_of e more

-- P holds of each happening and of all that happened before it
abbrev pub AtEach : (List Happening → Happening → Type 0) → List Happening → List Happening → Type 0
AtEach P before [] = Unit {0}
AtEach P before (h ∷ more) = P before h × AtEach P (before ++ h ∷ []) more
