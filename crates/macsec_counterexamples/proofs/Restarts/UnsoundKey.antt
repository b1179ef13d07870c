-- The first promise needs the premise that the endpoint is sound at each moment. Each call of a `Keeper` keeps it; an
-- input that no call can be given breaks it: a key whose salt has no octets. Under it all packet numbers have the same
-- IV.
use Rattle.macsec_commands.specs.declared.command.Command.{Command}
use Rattle.macsec_counterexamples.proofs.{
  Names.{[], ◌++◌, ◌∙◌, ◌∷◌, ◌≡◌, ◌≢◌, AllPairs, ap, arith, CipherUse, client_frame, endpoint_input, false, HasOtherIv},
  Names.{highest, InstalledKey, Keeping, KeepingInput, KeepsDurable, Key, List, may_go, no_tx_counters, now_durable},
  Names.{one_alone, reduced, reduced_reserves, refl, Reservation, reservations, Run, SameSalt, sealed_from},
  Names.{sealed_in_all, sending_name, start, State, subst, sum_with_stream, true, tx_options, TxOn, TxSa, use_sent},
  Names.{Xpn128, ℕ},
  Link.WorkedEnds.{bytes, installed_key, new_key, xpn_a, client},
  Restarts.{
    Goes.{command, commands_seal, frame_seals, frame_step, is_new, is_within, may_send, next_seals, raised_alone},
    IvPremises.{AgreeOnSalts, AgreeOnSuites, Holds, IsDurable, IsSoundAtEachMoment, LawWithout, Premise},
    IvPremises.{SameJournalSalt, SameKeySalt, SameSuite, nothing},
    Journals.{journal, salt, says},
    Senders.{kept, row_at},
    Tables.after_commands,
  },
}

-- both packet numbers are reserved
abbrev name : List ℕ
name = sending_name (salt false) bytes

abbrev two : Reservation
two = record { name = name; last = 2 }

abbrev frame : KeepingInput
frame = endpoint_input (client_frame client)

abbrev run : Run
run = record {
  journal = journal false [];
  config = xpn_a;
  inputs = command (Key (new_key [] 1)) ∷ command (TxSa 0 0 1 false) ∷ command (TxOn 0) ∷ now_durable two ∷ frame
      ∷ frame ∷ [];
}

-- ---- its states

abbrev key_at : ℕ → InstalledKey
key_at first_unused = installed_key Xpn128 [] 1 first_unused

abbrev commands : List Command
commands = Key (new_key [] 1) ∷ TxSa 0 0 1 false ∷ TxOn 0 ∷ []

abbrev sending : State
sending = after_commands (start xpn_a) commands

abbrev after_one : State
after_one = record (start xpn_a) {
  keys = key_at 2 ∷ [];
  tx = row_at 2 true ∷ [];
  tx_counters = record no_tx_counters { out_pkts_protected = 1; out_octets_protected = 2 };
}

abbrev before : List Reservation
before = reduced (reservations (journal false []))

abbrev at : List Reservation → State → Keeping
at granted s = kept (salt false) before granted s

-- what it seals
abbrev first_use : CipherUse
first_use = use_sent (tx_options sending) (key_at 1) (row_at 1 true) client

abbrev second_use : CipherUse
second_use = use_sent (tx_options after_one) (key_at 2) (row_at 2 true) client

-- ---- its steps

none : highest before name ≡ 0
none = reduced_reserves (reservations (journal false [])) name ∙ says false [] nothing name

first_goes : may_go (at (two ∷ []) sending) (client_frame client) ≡ true
first_goes = may_send (at (two ∷ []) sending) client 1 refl
    (is_within before name 1 2 (omega (arith, none)) (omega arith))

second_goes : may_go (at (two ∷ []) after_one) (client_frame client) ≡ true
second_goes = may_send (at (two ∷ []) after_one) client 2 refl
    (is_within before name 2 2 (omega (arith, none)) (omega arith))

seals : sealed_from (at [] (start xpn_a)) run.inputs ≡ first_use ∷ second_use ∷ []
seals =
    commands_seal commands (at [] (start xpn_a)) (now_durable two ∷ frame ∷ frame ∷ [])
    (refl, (is_new before name 1 (omega (arith, none)), (refl, tt))) refl
    (next_seals (at [] sending) (now_durable two) (frame ∷ frame ∷ []) refl
    (ap (λ (r : Reservation). at (r ∷ []) sending) (raised_alone name 2))
    (next_seals (at (two ∷ []) sending) frame (frame ∷ []) (frame_seals (at (two ∷ []) sending) client first_goes)
    (frame_step (at (two ∷ []) sending) client first_goes)
    (ap (λ us. us ++ []) (frame_seals (at (two ∷ []) after_one) client second_goes))))

abbrev runs : List Run
runs = run ∷ []

holds : (p : Premise) → p ≢ IsSoundAtEachMoment → Holds runs p
holds IsSoundAtEachMoment differ = absurd (differ refl)
holds SameSuite differ = one_alone AgreeOnSuites run
holds SameKeySalt differ = one_alone AgreeOnSalts run
holds SameJournalSalt differ = one_alone SameSalt run
holds IsDurable differ = one_alone KeepsDurable run

pub soundness_needed : LawWithout IsSoundAtEachMoment runs → ⊥
unfolding sum_with_stream
soundness_needed law =
    let is : sealed_in_all runs ≡ first_use ∷ second_use ∷ [] = rw seals in
    subst (AllPairs HasOtherIv) is (law holds) 0 1 first_use (omega arith) (omega arith) refl refl
