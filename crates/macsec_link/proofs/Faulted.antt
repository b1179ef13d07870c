-- The first fault of an event, which leaves the world unchanged, and the first fault of two configurations. Neither is
-- out of memory.
use Rattle.{
  macsec_suite.specs.FirstThatHolds.first_that_holds,
  macsec_commands.specs.{Configs.config_fault, declared.fault.NewFault.NewFault},
  macsec_link_events.specs.declared.WorldFault.TheVariants.Memory,
  macsec_link.{
    proofs.Names.{[], ◌∷◌, ◌≡◌, Alter, ap, Bool, Command, Deliver, EndConfig, Err, Event, false, fault_of},
    proofs.Names.{happening_unless_fault, if◌then◌else◌, Inject, is_memory, List, None, Option, Outcome, Pad, refl},
    proofs.Names.{Result, Send, SendUncontrolled, Some, Steps, sym, true, WorldFault, WorldState},
    specs.{Answers.{RefusesMaking, make_fault, make_fault_of}, Faults.{FaultLine, faults}},
  },
}

abbrev AreNotMemory : List FaultLine → Type 0
AreNotMemory [] = Unit {0}
AreNotMemory (line ∷ lines) = (is_memory (Err line.0) ≡ false) × AreNotMemory lines

first_is_not_memory : (lines : List FaultLine) (fault : WorldFault) → AreNotMemory lines → first_that_holds lines ≡ Some fault → is_memory (Err fault) ≡ false
first_is_not_memory [] fault none found = cc
first_is_not_memory (line ∷ lines) fault none found = by_test line.1 (first_is_not_memory lines fault none.1) found
  where
    by_test : (b : Bool) → (first_that_holds lines ≡ Some fault → is_memory (Err fault) ≡ false) →
        (if b then Some line.0 else first_that_holds lines) ≡ Some fault → is_memory (Err fault) ≡ false
    by_test true later found' = let it : line.0 ≡ fault = cc in rw it at none.0
    by_test false later found' = later found'

not_memory : (w : WorldState) (event : Event) → AreNotMemory (faults w event)
not_memory w (Command e c) = tt
not_memory w (Send e frame) = (refl, (refl, (refl, tt)))
not_memory w (SendUncontrolled e frame) = (refl, (refl, (refl, tt)))
not_memory w (Deliver e n) = (refl, (refl, tt))
not_memory w (Alter n place octet) = (refl, (refl, (refl, tt)))
not_memory w (Pad n) = (refl, (refl, tt))
not_memory w (Inject frame) = (refl, (refl, (refl, tt)))

faulted : (w : WorldState) (event : Event) (fault : WorldFault) → fault_of w event ≡ Some fault → Steps w event (Err fault) w
faulted w event fault is =
    let no_memory = first_is_not_memory (faults w event) fault (not_memory w event) is in
    rw no_memory (record {
      answer = ap (λ (o : Option WorldFault). (happening_unless_fault o w event).0) (sym is);
      world = ap (λ (o : Option WorldFault). (happening_unless_fault o w event).1) (sym is);
    })

-- the test of an event returned a fault, and the event returns it
pub passed_on : (w : WorldState) (event : Event) (result : Result Outcome WorldFault) (fault : WorldFault) → result ≡ Err fault →
    fault_of w event ≡ Some fault → Steps w event result w
passed_on w event result fault passed is = rw passed (faulted w event fault is)

-- ---- creating a world

never_memory : (x y : Option NewFault) → make_fault_of x y ≡ Some Memory → ⊥
never_memory (Some f) y is = cc
never_memory None (Some f) is = cc
never_memory None None is = cc

pub refuses : (a b : EndConfig) (fault : WorldFault) → make_fault a b ≡ Some fault → RefusesMaking a b fault
refuses a b Memory is = absurd (never_memory (config_fault a) (config_fault b) is)
refuses a b fault is = is
