-- The loop over the commands of a configuration, and the endpoint that is opened with a journal.
use Rattle.{
  std.proofs.{
    Common.{◌≡◌, ℕ, ◌+◌, ◌<◌, List, ◌∷◌, drop, get_or, length, subst, sym, ap, ◌∙◌, Bool, Result, Ok, true, None},
    lemmas.List.drop_more,
  },
  macsec_commands.specs.{Configs.config_fault, declared.config.EndConfig.EndConfig},
  macsec_reserve.specs.Journal.is_journal,
  macsec_ahead.specs.Ahead.{Ahead, opened_with},
  macsec_script_parser.specs.{
    Kinds.and_then,
    Parts.{ConfigParts, NumberedCommand},
    Scripts.config_of,
    declared.faults.ScriptFault.ScriptFault,
  },
  macsec_c_calls.specs.{
    Texts.{Creation, MakesConfigured, after_command, carried_out, created_beside, configured, created_if, endpoint_of},
    Texts.{endpoint_of_parsed, unless_new_fault},
    declared.configuring.ConfigFault.ConfigFault,
  },
}

first_left : (lines : List NumberedCommand) (i : ℕ) (entry : NumberedCommand) → entry ≡ get_or lines i entry → i < length lines →
    drop i lines ≡ entry ∷ drop (i + 1) lines
first_left lines i entry item within = drop_more lines i entry within ∙ ap (λ first. first ∷ drop (i + 1) lines) (sym item)

-- one more line was carried out, or its command was refused
pub one_more : (whole answer : Result Ahead ConfigFault) (e : Ahead) (lines : List NumberedCommand) (i : ℕ) (entry : NumberedCommand) →
    entry ≡ get_or lines i entry → i < length lines → whole ≡ carried_out e (drop i lines) → answer ≡ after_command entry.0 e entry.1 →
    whole ≡ and_then answer (λ after. carried_out after (drop (i + 1) lines))
one_more whole answer e lines i entry item within way by_command =
    way ∙ ap (carried_out e) (first_left lines i entry item within) ∙ ap (λ r. and_then r (λ after. carried_out after (drop (i + 1) lines))) (sym by_command)

-- the endpoint is the one that is opened with the journal, after the commands
pub opened_beside : (config : ConfigParts) (ahead : Bool) (journal : List ℕ) (e : Ahead) (after : Result Ahead ConfigFault) →
    is_journal journal ≡ true → config_fault config.end ≡ None → e ≡ opened_with ahead config.end journal → after ≡ carried_out e config.commands →
    endpoint_of (created_beside ahead journal) config ≡ after
opened_beside config ahead journal e after is fits made done =
    ap (λ b. and_then (created_if b ahead journal config.end) (λ m. carried_out m config.commands)) is
    ∙ ap (λ f. and_then (unless_new_fault f (opened_with ahead config.end journal)) (λ m. carried_out m config.commands)) fits
    ∙ ap (λ m. carried_out m config.commands) (sym made)
    ∙ sym done

-- a text was parsed, and its endpoint created
pub configured_by : (creation : Creation) (text : List ℕ) (parsed : ConfigParts) (end given_end : EndConfig) (items given : List NumberedCommand)
    (answer : Result Ahead ConfigFault) → config_of text ≡ Ok parsed → record { end = end; commands = items } ≡ parsed → given_end ≡ end → given ≡ items →
    MakesConfigured (endpoint_of creation (record { end = given_end; commands = given })) answer → MakesConfigured (configured creation text) answer
configured_by creation text parsed end given_end items given answer read view same_end same made =
    let by : Result ConfigParts ScriptFault → Result Ahead ConfigFault = endpoint_of_parsed creation in
    let whole : configured creation text ≡ endpoint_of creation (record { end = given_end; commands = given }) =
    ap by read ∙ ap (endpoint_of creation) (sym view) ∙ ap (λ (e : EndConfig). endpoint_of creation (record { end = e; commands = items })) (sym same_end)
    ∙ ap (λ (cs : List NumberedCommand). endpoint_of creation (record { end = given_end; commands = cs })) (sym same) in
    subst (λ (meant : Result Ahead ConfigFault). MakesConfigured meant answer) (sym whole) made
