-- A run from its configuration on: what it returns if the configuration was not read, and if it was.
use Rattle.{
  std.proofs.{
    Common.{◌≡◌, ℕ, ◌<◌, ◌≤◌, List, length, inl, inr, refl, sym, ap, subst, ◌∙◌, arith, Bool, true, false, ◌||◌},
    Common.{if◌then◌else◌, nat_lt, is_ok, IsOk, IfErr, Option, Some, None, Result, Ok, Err, IfSome},
    lemmas.Bool.Decides.nat_tests,
  },
  macsec_commands.specs.declared.config.EndConfig.EndConfig,
  macsec_script_parser.specs.{
    Kinds.and_then,
    Parts.{ConfigParts, NumberedCommand},
    Readings.{IsInputFault, IsReadFault, Parses},
    Scripts.{config_of, config_of_lines},
    Words.lines_of,
    declared.faults.ScriptFault.ScriptFault,
  },
  macsec_pcap.specs.{Captures.CaptureFile, declared.fault.PcapFault.{PcapFault, TheVariants.Read}},
  macsec_pcapng.specs.Captures.captures_of,
  macsec_capture.proofs.Grown.Stays-same,
  macsec_capture.specs.{
    Captured.{captured, captured_at, captured_by, captured_over},
    Runs.{CaptureGives, IsAfterConfig, IsLateFault, JudgesConfig, LeavesBoth, RunsOverSome, RunsSome, Stays, Written},
    Runs.as_read,
    declared.{Direction.Direction, fault.CaptureFault.{CaptureFault, TheVariants.{Script, Pcap}}},
  },
}
use Rattle.macsec_script_parser.specs.declared.faults.ScriptFault.TheVariants as script

-- ---- the configuration was not read

-- why a configuration is not known
abbrev IsUnknown : List ℕ → ScriptFault → Type 0
IsUnknown config script.Memory = Unit {0}
IsUnknown config script.Read = Unit {0}
IsUnknown config script.Write = ⊥
IsUnknown config fault = config_of config ≡ Err fault

too_long : (long many : Bool) (lines : List (List ℕ)) → long ≡ true →
    and_then (if long || many then Err script.ScriptLong else Ok lines) config_of_lines ≡ Err script.ScriptLong
too_long true many lines is = refl
too_long false many lines is = cc

above : (n m : ℕ) → n < m → nat_lt n m ≡ true
above n m less = grind (arith, nat_tests)

input_unread : (config : List ℕ) (fault : ScriptFault) → IsInputFault config fault → IsUnknown config fault
input_unread config script.Memory h = tt
input_unread config script.Read h = tt
input_unread config script.ScriptLong h =
    too_long (nat_lt 1048576 (length config)) (nat_lt 65536 (length (lines_of config))) (lines_of config) (above 1048576 (length config) h)
input_unread config fault h = absurd h

parsed_unread : (config : List ℕ) (fault : ScriptFault) → Parses (config_of config) (Err fault) → IsUnknown config fault
parsed_unread config script.Read h = absurd h
parsed_unread config script.Memory h = tt
parsed_unread config script.Write h = absurd h
parsed_unread config fault h = h

at_fault : (direction : Direction) (config : List ℕ) (file : Result CaptureFile PcapFault) (w : Written) (fault : ScriptFault) → config_of config ≡ Err fault →
    ((captured_over direction config file).fault ≡ Some (Script fault)) × Stays w w
at_fault direction config file w fault same = (ap (λ parsed. (captured_by direction parsed file).fault) same, Stays-same w)

unread_over : (direction : Direction) (config : List ℕ) (file : Result CaptureFile PcapFault) (w : Written) (fault : ScriptFault) → IsUnknown config fault →
    CaptureGives (captured_over direction config file) w w (Err (Script fault))
unread_over direction config file w script.Memory h = Stays-same w
unread_over direction config file w script.Read h = Stays-same w
unread_over direction config file w script.Write h = absurd h
unread_over direction config file w fault h = at_fault direction config file w fault h

-- the same, whether or not the readers' octets are known
unread_known : (direction : Direction) (config : List ℕ) (input : Option (List ℕ)) (w : Written) (fault : ScriptFault) → IsUnknown config fault →
    IfSome input (λ file. CaptureGives (captured direction config file) w w (Err (Script fault)))
unread_known direction config None w fault h = tt
unread_known direction config (Some file) w fault h = unread_over direction config (captures_of file) w fault h

unread_some : (direction : Direction) (config : List ℕ) (w : Written) (fault : ScriptFault) → IsUnknown config fault →
    RunsOverSome direction config w w (Err (Script fault))
unread_some direction config w fault h = (Err Read, unread_over direction config (Err Read) w fault h)

pub unparsed : (direction : Direction) (config : List ℕ) (input : Option (List ℕ)) (w : Written) (fault : ScriptFault) → Parses (config_of config) (Err fault) →
    IfSome input (λ file. CaptureGives (captured direction config file) w w (Err (Script fault)))
unparsed direction config input w fault h = unread_known direction config input w fault (parsed_unread config fault h)

pub unparsed_some : (direction : Direction) (config : List ℕ) (w : Written) (fault : ScriptFault) → Parses (config_of config) (Err fault) →
    RunsOverSome direction config w w (Err (Script fault))
unparsed_some direction config w fault h = unread_some direction config w fault (parsed_unread config fault h)

pub unread : (direction : Direction) (config input : Option (List ℕ)) (w : Written) (fault : ScriptFault) → IfSome config (λ c. IsInputFault c fault) →
    IfSome config (λ c. IfSome input (λ file. CaptureGives (captured direction c file) w w (Err (Script fault))))
unread direction None input w fault h = tt
unread direction (Some c) input w fault h = unread_known direction c input w fault (input_unread c fault h)

pub left_both : (w : Written) (fault : ScriptFault) → LeavesBoth w w (Script fault)
left_both w script.Write = tt
left_both w fault = Stays-same w

-- ---- whether the configuration has a fault

pub misjudged : (config : List ℕ) (fault : ScriptFault) → Parses (config_of config) (Err fault) → JudgesConfig config (Err (Script fault))
misjudged config script.Memory h = tt
misjudged config script.Read h = absurd h
misjudged config script.Write h = absurd h
misjudged config fault h = h

judged_by : (config : List ℕ) (parsed : ConfigParts) → config_of config ≡ Ok parsed → IsOk (config_of config)
judged_by config parsed same = ap is_ok same

judged_fault : (config : List ℕ) (parsed : ConfigParts) → config_of config ≡ Ok parsed → (fault : CaptureFault) → IsAfterConfig fault → JudgesConfig config (Err fault)
judged_fault config parsed same (Script script.Memory) after = tt
judged_fault config parsed same (Script script.Write) after = judged_by config parsed same
judged_fault config parsed same (Script fault) after = cc
judged_fault config parsed same (Pcap fault) after = judged_by config parsed same

pub judged : (config : List ℕ) (parsed : ConfigParts) → config_of config ≡ Ok parsed → (answer : Result (Unit {0}) CaptureFault) → IfErr answer IsAfterConfig →
    JudgesConfig config answer
judged config parsed same (Ok done) after = judged_by config parsed same
judged config parsed same (Err fault) after = judged_fault config parsed same fault after

late_after : (fault : CaptureFault) → IsLateFault fault → IsAfterConfig fault
late_after (Script script.Memory) late = tt
late_after (Script fault) late = late
late_after (Pcap fault) late = tt

pub after_config : (answer : Result (Unit {0}) CaptureFault) → IfErr answer IsLateFault → IfErr answer IsAfterConfig
after_config (Ok done) late = tt
after_config (Err fault) late = late_after fault late

pub unmade : (direction : Direction) (config : ConfigParts) (w : Written) (fault : ScriptFault) → fault ≡ script.Memory →
    (file : Result CaptureFile PcapFault) × CaptureGives (captured_at direction config file) w w (as_read (Err (Script fault)))
unmade direction config w fault is = (
  Err Read,
  rw is (Stays-same w),
)

-- ---- the configuration was read

-- a configuration with these commands was parsed
abbrev pub IsParsed : List ℕ → EndConfig → List NumberedCommand → Type 0
IsParsed config end commands = config_of config ≡ Ok (record { end = end; commands = commands })

pub is_parsed : (config : List ℕ) (parsed : ConfigParts) (end : EndConfig) (items given : List NumberedCommand) → config_of config ≡ Ok parsed →
    record { end = end; commands = items } ≡ parsed → given ≡ items → IsParsed config end given
is_parsed config parsed end items given read view same =
    read ∙ ap (λ (p : ConfigParts). Ok p) (sym view) ∙ ap (λ (cs : List NumberedCommand). Ok (record { end = end; commands = cs })) (sym same)

parsed_over : (direction : Direction) (config : List ℕ) (file : Result CaptureFile PcapFault) (end : EndConfig) (commands : List NumberedCommand) (old new : Written)
    (answer : Result (Unit {0}) CaptureFault) → IsParsed config end commands →
    CaptureGives (captured_at direction (record { end = end; commands = commands }) file) old new answer → CaptureGives (captured_over direction config file) old new answer
parsed_over direction config file end commands old new answer read gives =
    subst (λ r. CaptureGives (captured_by direction r file) old new answer) (sym read) gives

pub parsed_known : (direction : Direction) (config : List ℕ) (input : Option (List ℕ)) (end : EndConfig) (commands : List NumberedCommand) (old new : Written)
    (answer : Result (Unit {0}) CaptureFault) → IsParsed config end commands →
    IfSome input (λ file. CaptureGives (captured_at direction (record { end = end; commands = commands }) (captures_of file)) old new answer) →
    IfSome input (λ file. CaptureGives (captured direction config file) old new answer)
parsed_known direction config None end commands old new answer read gives = tt
parsed_known direction config (Some file) end commands old new answer read gives =
    parsed_over direction config (captures_of file) end commands old new answer read gives

pub parsed_some : (direction : Direction) (config : List ℕ) (end : EndConfig) (commands : List NumberedCommand) (old new : Written)
    (answer : Result (Unit {0}) CaptureFault) → IsParsed config end commands →
    (file : Result CaptureFile PcapFault) × CaptureGives (captured_at direction (record { end = end; commands = commands }) file) old new (as_read answer) →
    RunsOverSome direction config old new answer
parsed_some direction config end commands old new answer read (file, gives) =
    (file, parsed_over direction config file end commands old new (as_read answer) read gives)

-- the reader of the configuration had these octets
pub of_text : (config : Option (List ℕ)) (text given : List ℕ) (P : List ℕ → Type 0) → IfSome config (λ all. (text ≡ all) × (length all ≤ 1048576)) →
    given ≡ text → P given → IfSome config P
of_text None text given P read same holds = tt
of_text (Some all) text given P read same holds = subst P (same ∙ read.0) holds

text_of : (reader : Option (List ℕ)) (text given : List ℕ) → IfSome reader (λ all. (text ≡ all) × (length all ≤ 1048576)) → given ≡ text →
    IfSome reader (λ all. given ≡ all)
text_of None text given read same = tt
text_of (Some all) text given read same = same ∙ read.0

pub some_text : (direction : Direction) (reader : Option (List ℕ)) (text given : List ℕ) (old new : Written) (answer : Result (Unit {0}) CaptureFault) →
    IfSome reader (λ all. (text ≡ all) × (length all ≤ 1048576)) → length text ≤ 1048576 → given ≡ text → JudgesConfig given answer →
    RunsOverSome direction given old new answer → RunsSome direction reader old new answer
some_text direction reader text given old new answer read fits same judges runs =
    inr (given, (subst (λ t. length t ≤ 1048576) (sym same) fits, text_of reader text given read same), judges, runs)

pub no_text : (direction : Direction) (reader : Option (List ℕ)) (w : Written) (fault : ScriptFault) → IsReadFault fault →
    RunsSome direction reader w w (Err (Script fault))
no_text direction reader w fault h = inl (h, Stays-same w)
