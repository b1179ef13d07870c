-- Runs that meet all premises of order except one, and in which B delivers a client frame twice: its second run does
-- not read what the first one delivered; the replay window is 1; late frames are not dropped.
use Rattle.macsec_reserve.specs.Keeping.{begins_at}
use Rattle.macsec_restarts.proofs.Examples.Blocks.{blocks, EndRun, sealed_in}
use Rattle.macsec_restarts.proofs.Examples.Histories.{both, breaks, delivered_by_two, Facts, facts_of, IsRunOf, Meets}
use Rattle.macsec_restarts.proofs.Examples.Histories.{meets_by, never, of_run, one, pair, refuted, short_agree}
use Rattle.macsec_restarts.proofs.Examples.Histories.{without_option}
use Rattle.macsec_restarts.proofs.Examples.NotSent.{plain, plain_does}
use Rattle.macsec_restarts.proofs.Examples.Tags.{octets_1}
use Rattle.macsec_restarts.proofs.Examples.Told.{gives_by, heard_by, link_gives, link_goes, link_step_by, set_up_told}
use Rattle.macsec_restarts.proofs.Examples.Told.{SetsUp, short, told_end, told_gives}
use Rattle.macsec_restarts.proofs.Examples.TwoRunsEach.{f1, facts_a, is_free, none_is, opens_1, reads, run_a}
use Rattle.macsec_restarts.proofs.Examples.TwoRunsEach.{t, use_1}
use Rattle.macsec_restarts.proofs.Examples.Without.{DropsLate, HasOption, HasStrictOrderBut, HasWindowOf0}
use Rattle.macsec_restarts.proofs.Examples.Without.{KeepsDeliveredBut, KeepsSentBut, LawWithout, Premise}
use Rattle.macsec_restarts.proofs.Examples.Without.{ReadLawWithout, ReadsDelivered, ReadsDeliveredBut, ReadsSentBut}
use Rattle.macsec_restarts.proofs.Names.{[], ◌++◌, ◌<◌, ◌∙◌, ◌∷◌, ◌≡◌, A, after_commands, AreNew, arith, at_row, B}
use Rattle.macsec_restarts.proofs.Names.{bytes, client, Command, command, commands_sound, Contains, Delayed}
use Rattle.macsec_restarts.proofs.Names.{delivered_by, Delivery, false, gcm_b, genuine_at, highest, IfSome, inr, is_new}
use Rattle.macsec_restarts.proofs.Names.{IsStrictlyIncreasing, IsSubsequence, journal, Judgement, judgement_of, Keeping}
use Rattle.macsec_restarts.proofs.Names.{Key, key_row, List, map, name_of, None, one_alone, Passed, refl, Replay, Run}
use Rattle.macsec_restarts.proofs.Names.{rx_from, RxRow, salt, sci_a, sci_b, slice_get, Some, start, State}
use Rattle.macsec_restarts.proofs.Names.{state_after_receiving, suc, tables_fit, true, use_opened, Uses, zero, ℕ}
use Rattle.macsec_restarts.proofs.Examples.Receivers as receiver
use Rattle.macsec_restarts.proofs.Examples.Senders as sender

-- ---- a frame twice is no subsequence of frames with different packet numbers

abbrev ones : List (List ℕ)
ones = (1 ∷ client 1) ∷ (1 ∷ client 1) ∷ []

abbrev sent : List (List ℕ)
sent = (1 ∷ client 1) ∷ (2 ∷ client 1) ∷ []

only_first : (p : ℕ) → slice_get sent p ≡ Some (1 ∷ client 1) → p ≡ 0
only_first zero _ = refl
only_first (suc zero) is = let no : ◌≡◌ {A = ℕ} 2 1 = cc in absurd (omega (arith, no))
only_first (suc (suc p)) is = cc

pub not_twice : IsSubsequence ones sent → ⊥
not_twice it = by_places it.0 it.1 it.2
  where
    by_places : (places : List ℕ) → IsStrictlyIncreasing places →
        map (slice_get sent) places ≡ Some (1 ∷ client 1) ∷ Some (1 ∷ client 1) ∷ [] → ⊥
    by_places (p ∷ q ∷ _) rise same =
        let second : slice_get sent q ≡ Some (1 ∷ client 1) = cc in
        let less = rise 0 (omega arith) in
        omega (arith, less, only_first q second)
    by_places _ rise same = cc

-- ---- one run of each end

abbrev pub twice_1 : List Delivery
twice_1 = receiver.delivery 1 ∷ receiver.delivery 1 ∷ []

module _ (left_out : Premise) (a b : Run)
    (sends : Facts (short 1) sci_a left_out [] (without_option a) (sender.sent false) [])
    (receives : (uses : Uses) → Contains uses use_1 →
    Facts (short 2) sci_b left_out uses (without_option b) [] twice_1) where
  sealed : Contains (sealed_in never ((A, a) ∷ [])) use_1
  sealed = rw sends.told.sends (0, omega arith, refl)

  delivers : Facts (short 2) sci_b left_out (sealed_in never ((A, a) ∷ [])) (without_option b) [] twice_1
  delivers = receives (sealed_in never ((A, a) ∷ [])) sealed

  it_meets : Meets left_out never ((A, a) ∷ (B, b) ∷ []) (sender.sent false) twice_1
  it_meets = meets_by (short 1) (short 2) short_agree (λ d. (refl, refl))
      (one (IsRunOf (short 1) sci_a) (without_option a) (of_run sends))
      (one (IsRunOf (short 2) sci_b) (without_option b) (of_run delivers)) (tt, (delivers.told.fair, tt))
      (rw sends.told.sends) (rw delivers.told.delivers)

  twice : LawWithout left_out never (blocks ((A, a) ∷ (B, b) ∷ [])) → ⊥
  twice = breaks never ((A, a) ∷ (B, b) ∷ []) left_out it_meets
      (one_alone (KeepsSentBut left_out bytes) (without_option a))
      (one_alone (KeepsDeliveredBut left_out bytes sci_a 0) (without_option b)) not_twice

abbrev at_b : State → Keeping
at_b s = receiver.at (salt false) (reads []) s

free_b : highest (reads []) (name_of (salt false)) < 1
free_b = is_free [] _ 1 none_is (omega arith)

-- ---- a replay window of 1, and no replay protection

pub data Setting : Type 0 where
  Wide : Setting
  Off : Setting

abbrev premise_of : Setting → Premise
premise_of Wide = HasWindowOf0
premise_of Off = DropsLate

abbrev command_of : Setting → Command
command_of Wide = Replay true 1
command_of Off = Replay false 0

abbrev sa : Setting → List Command
sa k = receiver.sa false ++ command_of k ∷ []

abbrev set : Setting → State
set k = after_commands (start gcm_b) (Key receiver.key ∷ sa k)

abbrev row_of : Setting → RxRow
row_of Wide = record (rx_from 2) { lowest = 1 }
row_of Off = rx_from 2

abbrev judged_as : Setting → Judgement
judged_as Wide = at_row (row_of Wide) 1 13 Passed (Some (client 1))
judged_as Off = at_row (row_of Off) 1 13 Delayed (Some (client 1))

first_judged : (k : Setting) → judgement_of (set k) f1 ≡ receiver.accepts_1
first_judged Wide = rw opens_1
first_judged Off = rw opens_1

abbrev once : Setting → State
once k = state_after_receiving (set k) f1 receiver.accepts_1

second_judged : (k : Setting) → judgement_of (once k) f1 ≡ judged_as k
second_judged Wide = rw opens_1
second_judged Off = rw opens_1

abbrev again : Setting → State
again k = state_after_receiving (once k) f1 (judged_as k)

record Works (k : Setting) : Type 0 where
  sets_up : SetsUp (short 2) gcm_b receiver.key (sa k)
  new : AreNew (at_b (start gcm_b)) (Key receiver.key ∷ sa k)
  once_fit : tables_fit (once k) ≡ true
  again_fit : tables_fit (again k) ≡ true
  delivers : delivered_by (set k) receiver.accepts_1 None receiver.accepts_1.row receiver.accepts_1.delivered ≡
      receiver.delivery 1 ∷ []
  delivers_again : delivered_by (once k) (judged_as k) None (judged_as k).row (judged_as k).delivered ≡
      receiver.delivery 1 ∷ []
  order : HasStrictOrderBut (premise_of k) (set k)
  order_then : HasStrictOrderBut (premise_of k) (once k)
  genuine : (uses : Uses) → Contains uses use_1 → IfSome (use_opened (set k) f1) (Contains uses)
  genuine_again : (uses : Uses) → Contains uses use_1 → IfSome (use_opened (once k) f1) (Contains uses)
  keys : (set k).keys ≡ key_row 2 1 ∷ []
  keys_then : (once k).keys ≡ key_row 2 1 ∷ []
  keys_last : (again k).keys ≡ key_row 2 1 ∷ []

new_if : (c : Command) → ((salt' : List ℕ) (s : State) → begins_at salt' s c ≡ None) →
    AreNew (at_b (start gcm_b)) (Key receiver.key ∷ (receiver.sa false ++ c ∷ []))
new_if c is = (
  refl,
  (
    refl,
    (
      is_new (reads []) (name_of (salt false)) 1 free_b,
      (refl, (rw (is (salt false) (receiver.ready false)), tt)),
    ),
  ),
)

works : (k : Setting) → Works k
works Wide = record {
  sets_up = record { fits = refl; none = refl; fit = λ long. refl; keep = refl; keys = refl };
  new = new_if (command_of Wide) (λ s' s. refl);
  once_fit = refl;
  again_fit = refl;
  delivers = refl;
  delivers_again = refl;
  order = record { mode = λ n. refl; replay = λ n. refl; window = λ n. absurd (n refl) };
  order_then = record { mode = λ n. refl; replay = λ n. refl; window = λ n. absurd (n refl) };
  genuine = λ uses there. genuine_at (set Wide) f1 _ uses (first_judged Wide) there;
  genuine_again = λ uses there. genuine_at (once Wide) f1 _ uses (second_judged Wide) there;
  keys = refl;
  keys_then = refl;
  keys_last = refl;
}
works Off = record {
  sets_up = record { fits = refl; none = refl; fit = λ long. refl; keep = refl; keys = refl };
  new = new_if (command_of Off) (λ s' s. refl);
  once_fit = refl;
  again_fit = refl;
  delivers = refl;
  delivers_again = refl;
  order = record { mode = λ n. refl; replay = λ n. absurd (n refl); window = λ n. refl };
  order_then = record { mode = λ n. refl; replay = λ n. absurd (n refl); window = λ n. refl };
  genuine = λ uses there. genuine_at (set Off) f1 _ uses (first_judged Off) there;
  genuine_again = λ uses there. genuine_at (once Off) f1 _ uses (second_judged Off) there;
  keys = refl;
  keys_then = refl;
  keys_last = refl;
}

abbrev run_of : Setting → Run
run_of k = record {
  journal = journal false [];
  config = gcm_b;
  inputs = receiver.commands false ++ (command (command_of k) ∷ receiver.link 1 t ∷ receiver.link 1 t ∷ []);
}

does : (k : Setting) (uses : Uses) → Contains uses use_1 →
    Facts (short 2) sci_b (premise_of k) uses (without_option (run_of k)) [] twice_1
does k uses there =
    let w = works k in
    let first = commands_sound (Key receiver.key ∷ sa k) w.sets_up.none (w.sets_up.fit refl) receiver.start_sound in
    let second = heard_by f1 refl (first_judged k) w.once_fit first in
    let third = heard_by f1 refl (second_judged k) w.again_fit second in
    facts_of refl (set_up_told gcm_b receiver.key (sa k) (salt false) (reads []) w.sets_up receiver.start_sound
    w.new (told_gives {now = []} (receiver.is_good w.keys first) refl
    (link_gives (at_b (set k)) f1 (gives_by (at_b (set k)) f1 _ refl (first_judged k) ∙ w.delivers))
    (λ some. record { order = w.order; octets = octets_1; genuine = λ d. w.genuine uses there })
    (link_goes (at_b (set k)) f1 (link_step_by (at_b (set k)) f1 _ refl (first_judged k)))
    (told_gives {now = []} (receiver.is_good w.keys_then second) refl
    (link_gives (at_b (once k)) f1 (gives_by (at_b (once k)) f1 _ refl (second_judged k) ∙ w.delivers_again))
    (λ some. record { order = w.order_then; octets = octets_1; genuine = λ d. w.genuine_again uses there })
    (link_goes (at_b (once k)) f1 (link_step_by (at_b (once k)) f1 _ refl (second_judged k)))
    (told_end _ (receiver.is_good w.keys_last third)))))

pub window_of_0_needed : LawWithout HasWindowOf0 never (blocks ((A, run_a false) ∷ (B, run_of Wide) ∷ [])) → ⊥
window_of_0_needed = twice HasWindowOf0 (run_a false) (run_of Wide) (facts_a false) (does Wide)

pub protection_needed : LawWithout DropsLate never (blocks ((A, run_a false) ∷ (B, run_of Off) ∷ [])) → ⊥
protection_needed = twice DropsLate (run_a false) (run_of Off) (facts_a false) (does Off)

-- ---- a crash of B before it saves: its second run begins with an empty journal, and receives the frame again

module _ (left_out : Premise) (a b : Run)
    (sends : Facts (short 1) sci_a left_out [] (without_option a) (sender.sent false) [])
    (receives : (uses : Uses) → Contains uses use_1 →
    Facts (short 2) sci_b left_out uses (without_option b) [] (receiver.delivery 1 ∷ [])) where
  abbrev crash : List EndRun
  crash = (A, a) ∷ (B, b) ∷ (B, b) ∷ []

  sealed_1 : Contains (sealed_in never ((A, a) ∷ [])) use_1
  sealed_1 = rw sends.told.sends (0, omega arith, refl)

  sealed_2 : Contains (sealed_in never ((A, a) ∷ (B, b) ∷ [])) use_1
  sealed_2 = rw sends.told.sends (0, omega arith, refl)

  delivers_1 : Facts (short 2) sci_b left_out (sealed_in never ((A, a) ∷ [])) (without_option b) []
      (receiver.delivery 1 ∷ [])
  delivers_1 = receives (sealed_in never ((A, a) ∷ [])) sealed_1

  delivers_2 : Facts (short 2) sci_b left_out (sealed_in never ((A, a) ∷ (B, b) ∷ [])) (without_option b) []
      (receiver.delivery 1 ∷ [])
  delivers_2 = receives (sealed_in never ((A, a) ∷ (B, b) ∷ [])) sealed_2

  crashed : Meets left_out never crash (sender.sent false) twice_1
  crashed = meets_by (short 1) (short 2) short_agree (λ d. (refl, refl))
      (one (IsRunOf (short 1) sci_a) (without_option a) (of_run sends))
      (both (IsRunOf (short 2) sci_b) (without_option b) (without_option b) (of_run delivers_1) (of_run delivers_1))
      (tt, (delivers_1.told.fair, (delivers_2.told.fair, tt))) (rw sends.told.sends)
      (delivered_by_two (without_option b) (without_option b) delivers_1.told.delivers delivers_2.told.delivers)

abbrev pub crash_b : List EndRun
crash_b = (A, run_a false) ∷ (B, plain) ∷ (B, plain) ∷ []

crashed_b : (left_out : Premise) → Meets left_out never crash_b (sender.sent false) twice_1
crashed_b left_out = crashed left_out (run_a false) plain (facts_a false)
    (λ uses there. plain_does left_out uses (λ d. there))

-- the second run does not read what the first one delivered
pub delivered_needed : LawWithout ReadsDelivered never (blocks crash_b) → ⊥
delivered_needed = breaks never crash_b ReadsDelivered (crashed_b ReadsDelivered)
    (one_alone (KeepsSentBut ReadsDelivered bytes) (without_option (run_a false)))
    (pair (KeepsDeliveredBut ReadsDelivered bytes sci_a 0) (without_option plain) (without_option plain)
    (λ d. absurd (d refl))) not_twice

-- it reads all that was reported durable, which is nothing: the first run does not reserve ahead of receiving
pub option_needed : ReadLawWithout HasOption never (blocks crash_b) → ⊥
option_needed = refuted never crash_b (ReadsSentBut HasOption) (ReadsDeliveredBut HasOption) HasOption
    (crashed_b HasOption) (one_alone (ReadsSentBut HasOption bytes) (without_option (run_a false)))
    (pair (ReadsDeliveredBut HasOption bytes sci_a 0) (without_option plain) (without_option plain)
    (inr ((λ d. absurd (d refl)), record { salt = λ d. refl; reported = λ d name. omega arith }))) not_twice
