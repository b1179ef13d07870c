-- Runs that meet all premises of order but one, and in which B delivers a client frame that A never sent: an ICV is
-- forged; B does not validate; B sent the frame itself, in an earlier run with another SCI.
use Rattle.macsec_commands.specs.declared.command.Command.TheVariants.{Validate}
use Rattle.macsec_commands.specs.declared.mode.Mode.TheVariants.{Disabled}
use Rattle.macsec_restarts.proofs.Examples.Blocks.{blocks, EndRun, sealed_in}
use Rattle.macsec_restarts.proofs.Examples.Histories.{breaks, delivered_by_two, Facts, facts_of, is_sound, IsRunOf}
use Rattle.macsec_restarts.proofs.Examples.Histories.{keeps_delivered, Meets, meets_by, meets_of_b, never, of_run, one}
use Rattle.macsec_restarts.proofs.Examples.Histories.{pair, short_agree, two_runs_of_b, without_option}
use Rattle.macsec_restarts.proofs.Examples.Tags.{octets_1}
use Rattle.macsec_restarts.proofs.Examples.Told.{begun, heard_by, on, set_up_told, SetsUp, short, Told, told_end}
use Rattle.macsec_restarts.proofs.Examples.Told.{told_link}
use Rattle.macsec_restarts.proofs.Examples.TwoRunsEach.{f1, facts_a, is_free, none_is, opens_1}
use Rattle.macsec_restarts.proofs.Examples.TwoRunsEach.{reads, reserved_2, reserved_is, run_a, t, told_1, use_1}
use Rattle.macsec_restarts.proofs.Examples.Without.{IsNotForged, IsStrict, KeepsDeliveredBut, KeepsSci, KeepsSentBut}
use Rattle.macsec_restarts.proofs.Examples.Without.{LawWithout, Premise}
use Rattle.macsec_restarts.proofs.Names.{[], ◌++◌, ◌<◌, ◌∷◌, ◌≡◌, ◌≢◌, after_commands, All-nil, arith, at_row, B, bytes}
use Rattle.macsec_restarts.proofs.Names.{client, Command, command, commands_sound, compress, Contains, digest_bytes}
use Rattle.macsec_restarts.proofs.Names.{false, first_words, gcm_b, genuine_at, hash_after, highest, highest_of_one}
use Rattle.macsec_restarts.proofs.Names.{Inputs, is_new, IsSound, IsSubsequence, journal, Judgement, judgement_of, Key}
use Rattle.macsec_restarts.proofs.Names.{List, map, name_of, no_pairs, one_alone, refl, rounds, Run, rx_from, salt}
use Rattle.macsec_restarts.proofs.Names.{same_octets, schedule, sci_a, sci_b, sending_name, sha256, slice_get, Some}
use Rattle.macsec_restarts.proofs.Names.{start, State, state_after_receiving, Unchecked, Uses, ℕ}
use Rattle.macsec_restarts.proofs.Examples.Receivers as receiver
use Rattle.macsec_restarts.proofs.Examples.Senders as sender

-- nothing is a subsequence of no frames but no frames
pub not_of_none : (x : List ℕ) → IsSubsequence (x ∷ []) [] → ⊥
not_of_none x it = by_places it.0 it.2
  where
    by_places : (places : List ℕ) → map (slice_get []) places ≡ Some x ∷ [] → ⊥
    by_places [] same = cc
    by_places (p ∷ _) same = cc

-- ---- one run of B, and none of A

alone : (left_out : Premise) (b : Run) →
    Facts (short 2) sci_b left_out (sealed_in never []) (without_option b) [] (receiver.delivery 1 ∷ []) →
    LawWithout left_out never (blocks ((B, b) ∷ [])) → ⊥
alone left_out b does =
    let it : Meets left_out never ((B, b) ∷ []) [] (receiver.delivery 1 ∷ []) =
    meets_by (short 1) (short 2) short_agree (λ d. (refl, refl)) (All-nil (IsRunOf (short 1) sci_a))
    (one (IsRunOf (short 2) sci_b) (without_option b) (of_run does)) (does.told.fair, tt) refl
    (rw does.told.delivers) in
    breaks never ((B, b) ∷ []) left_out it (no_pairs (KeepsSentBut left_out bytes))
    (one_alone (KeepsDeliveredBut left_out bytes sci_a 0) (without_option b))
    (not_of_none (1 ∷ client 1))

-- ---- it receives the frame, whose ICV is valid

free_b : highest (reads []) (name_of (salt false)) < 1
free_b = is_free [] (name_of (salt false)) 1 none_is (omega arith)

abbrev run_with : Inputs → Run
run_with inputs = record { journal = journal false []; config = gcm_b; inputs = receiver.commands false ++ inputs }

abbrev pub plain : Run
plain = run_with (receiver.link 1 t ∷ [])

pub plain_does : (left_out : Premise) (uses : Uses) → (IsNotForged ≢ left_out → Contains uses use_1) →
    Facts (short 2) sci_b left_out uses (without_option plain) [] (receiver.delivery 1 ∷ [])
plain_does left_out uses there = facts_of refl (receiver.told (salt false) (reads []) false free_b
    (told_1 (reads []) there (told_end _ (receiver.heard_1_good t opens_1))))

-- a frame that nobody sealed is delivered
pub not_forged_needed : LawWithout IsNotForged never (blocks ((B, plain) ∷ [])) → ⊥
not_forged_needed =
    alone IsNotForged plain (plain_does IsNotForged (sealed_in never []) (λ d. absurd (d refl)))

-- ---- it does not validate

abbrev lax_sa : List Command
lax_sa = receiver.sa false ++ Validate Disabled ∷ []

abbrev disabled : State
disabled = after_commands (start gcm_b) (Key receiver.key ∷ lax_sa)

abbrev unchecked : Judgement
unchecked = at_row (rx_from 1) 1 10 Unchecked (Some (client 1))

judged : judgement_of disabled f1 ≡ unchecked
judged = refl

abbrev passed : State
passed = state_after_receiving disabled f1 unchecked

abbrev lax : Run
lax = run_with (command (Validate Disabled) ∷ receiver.link 1 t ∷ [])

lax_sets_up : SetsUp (short 2) gcm_b receiver.key lax_sa
lax_sets_up = record { fits = refl; none = refl; fit = λ long. refl; keep = refl; keys = refl }

disabled_sound : IsSound disabled
disabled_sound = commands_sound (Key receiver.key ∷ lax_sa) refl refl receiver.start_sound

lax_told : (uses : Uses) → Told (short 2) IsStrict uses (begun (receiver.at (salt false) (reads []) (start gcm_b)))
    lax.inputs [] (receiver.delivery 1 ∷ []) (on (receiver.at (salt false) (reads []) passed))
lax_told uses = set_up_told gcm_b receiver.key lax_sa (salt false) (reads []) lax_sets_up receiver.start_sound
    (refl, (refl, (is_new (reads []) (name_of (salt false)) 1 free_b, (refl, (refl, tt)))))
    (told_link unchecked refl judged (receiver.is_good refl disabled_sound)
    (record { mode = λ n. absurd (n refl); replay = λ n. refl; window = λ n. refl }) octets_1
    (λ d. genuine_at disabled f1 unchecked uses judged tt)
    (told_end _ (receiver.is_good refl (heard_by f1 refl judged refl disabled_sound))))

-- what it does not validate is delivered
pub strict_needed : LawWithout IsStrict never (blocks ((B, lax) ∷ [])) → ⊥
strict_needed = alone IsStrict lax (facts_of refl (lax_told (sealed_in never [])))

-- ---- it changes its SCI: B sends the frame in its first run, and its second run delivers it

module _ (s r : Run) (sends : Facts (short 1) sci_a KeepsSci [] (without_option s) (sender.sent false) [])
    (receives : (uses : Uses) → Contains uses use_1 →
    Facts (short 2) sci_b KeepsSci uses (without_option r) [] (receiver.delivery 1 ∷ [])) where
  abbrev its : List EndRun
  its = (B, s) ∷ (B, r) ∷ []

  sealed : Contains (sealed_in never ((B, s) ∷ [])) use_1
  sealed = rw sends.told.sends (0, omega arith, refl)

  delivers : Facts (short 2) sci_b KeepsSci (sealed_in never ((B, s) ∷ [])) (without_option r) []
      (receiver.delivery 1 ∷ [])
  delivers = receives (sealed_in never ((B, s) ∷ [])) sealed

  it_meets : Meets KeepsSci never its [] (receiver.delivery 1 ∷ [])
  it_meets = meets_of_b s r (is_sound (without_option s) refl (of_run sends))
      (is_sound (without_option r) refl (of_run delivers))
      (two_runs_of_b KeepsSci (short 1) (short 2) (without_option s) (without_option r)
      (record { suite = λ d. refl; salt = λ d xpn. refl }) (λ d xpn. cc) (λ d. absurd (d refl)) (of_run sends)
      (of_run delivers)) (sends.told.fair, (delivers.told.fair, tt))
      (delivered_by_two (without_option s) (without_option r) sends.told.delivers delivers.told.delivers)

  reflected : LawWithout KeepsSci never (blocks its) → ⊥
  reflected = breaks never its KeepsSci it_meets (no_pairs (KeepsSentBut KeepsSci bytes))
      (pair (KeepsDeliveredBut KeepsSci bytes sci_a 0) (without_option s) (without_option r)
      (λ d. keeps_delivered (without_option s) (without_option r) sends.told.delivers (All-nil _)))
      (not_of_none (1 ∷ client 1))

pub names_differ : same_octets (sending_name (salt false) bytes) (name_of (salt false)) ≡ false
unfolding first_words schedule rounds compress hash_after digest_bytes sha256
names_differ = refl

abbrev later : Run
later = record {
  journal = journal false (reserved_2 ∷ []);
  config = gcm_b;
  inputs = receiver.commands false ++ receiver.link 1 t ∷ [];
}

free_later : highest (reads (reserved_2 ∷ [])) (name_of (salt false)) < 1
free_later = is_free (reserved_2 ∷ []) (name_of (salt false)) 1 reserved_is
    (omega (arith, highest_of_one reserved_2 (name_of (salt false)) false names_differ))

later_does : (uses : Uses) → Contains uses use_1 →
    Facts (short 2) sci_b KeepsSci uses (without_option later) [] (receiver.delivery 1 ∷ [])
later_does uses there = facts_of refl (receiver.told (salt false) (reads (reserved_2 ∷ [])) false
    free_later
    (told_1 (reads (reserved_2 ∷ [])) (λ d. there) (told_end _ (receiver.heard_1_good t opens_1))))

-- B delivers what it sent itself
pub same_sci_needed : LawWithout KeepsSci never (blocks ((B, run_a false) ∷ (B, later) ∷ [])) → ⊥
same_sci_needed = reflected (run_a false) later (facts_a false) later_does
