-- Runs that meet all premises of order but one: the octets of a key have two suites, GCM-AES-128 and
-- GCM-AES-XPN-128, at the two ends, or at B in two runs. Under GCM-AES-128 a frame is sent with packet number 1, by A
-- or by B itself. B receives it under the other suite, with the salt under which the IV of packet number 2^32 + 1 is
-- the frame's IV. So B delivers it with a packet number that A never used.
use Rattle.macsec_counterexamples.proofs.Link.WorkedEnds.{xpn_b}
use Rattle.macsec_restarts.proofs.Examples.Blocks.{blocks, sealed_in}
use Rattle.macsec_restarts.proofs.Examples.Histories.{breaks, delivered_by_two, Facts, facts_of, is_sound, IsRunOf}
use Rattle.macsec_restarts.proofs.Examples.Histories.{keeps_delivered, Meets, meets_by, meets_of_b, never, of_run, one}
use Rattle.macsec_restarts.proofs.Examples.Histories.{pair, two_runs_of_b, without_option}
use Rattle.macsec_restarts.proofs.Examples.NotSent.{not_of_none}
use Rattle.macsec_restarts.proofs.Examples.Tags.{octets_1, small_at, tag_is}
use Rattle.macsec_restarts.proofs.Examples.Told.{begun, gives_by, good, heard_by, is_strict, IsGood, key_of}
use Rattle.macsec_restarts.proofs.Examples.Told.{Kind, link_gives, link_goes, link_step_by, on, set_up_told, SetsUp}
use Rattle.macsec_restarts.proofs.Examples.Told.{short, Told, told_end, told_gives, told_next}
use Rattle.macsec_restarts.proofs.Examples.TwoRunsEach.{at_most, facts_a, is_free, none_is, opens_1}
use Rattle.macsec_restarts.proofs.Examples.TwoRunsEach.{reads, reserved_2, reserved_is, run_a, t, use_1}
use Rattle.macsec_restarts.proofs.Examples.Without.{HasOneSuite, HasStrictOrderBut, KeepsDeliveredBut, KeepsSentBut}
use Rattle.macsec_restarts.proofs.Examples.Without.{KeepsSuite, LawWithout, Premise}
use Rattle.macsec_restarts.proofs.Names.{[], ◌*◌, ◌++◌, ◌+◌, ◌<◌, ◌^◌, ◌∙◌, ◌∷◌, ◌≡◌, A, aad, aad_sent, add_round_key}
use Rattle.macsec_restarts.proofs.Names.{added_word, aes, affine_transformation, after_commands, after_rounds}
use Rattle.macsec_restarts.proofs.Names.{All-append, All-nil, ap, are_small, AreNew, AreOctets, arith, at_row, B}
use Rattle.macsec_restarts.proofs.Names.{begins_sound, byte_product, bytes, cipher_use, CipherUse, client, client_frame}
use Rattle.macsec_restarts.proofs.Names.{Command, command, commands_sound, Contains, delivered_by, Delivery, End}
use Rattle.macsec_restarts.proofs.Names.{EndConfig, endpoint_input, false, frame_fault, frame_step, frame_with}
use Rattle.macsec_restarts.proofs.Names.{genuine_at, highest, IfSome, Inputs, inverse, is_new, is_within, IsSound}
use Rattle.macsec_restarts.proofs.Names.{IsSubsequence, items, iv, iv_of, journal, Judgement, judgement_of, Keeping}
use Rattle.macsec_restarts.proofs.Names.{keeping_step, KeepingInput, kept, Key, key_expansion, key_row, key_words}
use Rattle.macsec_restarts.proofs.Names.{length, link_frame, List, map, may_go, may_send, mix_columns, name_of, new_key}
use Rattle.macsec_restarts.proofs.Names.{newly_sent, no_pairs, no_salt, no_tx_counters, None, one_alone, open_of, opens}
use Rattle.macsec_restarts.proofs.Names.{parts_with, Passed, polynomial_product, pre_counter_block, raised_alone, refl}
use Rattle.macsec_restarts.proofs.Names.{remainder, replicate, Reservation, rot_word, round_key, row_at, Run, rx_from}
use Rattle.macsec_restarts.proofs.Names.{RxOn, RxSa, RxSc, s_box, salt, sci_a, sci_b, Sealed, sealed, sending_name}
use Rattle.macsec_restarts.proofs.Names.{sent_sound, SentIn, shift_rows, slice_get, small, Some, start, State}
use Rattle.macsec_restarts.proofs.Names.{state_after_receiving, sub_bytes, sub_word, suc, sum_below, sum_of_words}
use Rattle.macsec_restarts.proofs.Names.{sum_with_stream, sym, tables_fit, tag_of, tag_sent, take, true, tx_from}
use Rattle.macsec_restarts.proofs.Names.{tx_options, TxOn, TxOptions, TxRow, TxSa, use_opened, use_sent, Uses, with_tag}
use Rattle.macsec_restarts.proofs.Names.{Xpn128, zero, ℕ}
use Rattle.macsec_suite.specs.declared.key_row.NewKey.{NewKey}
use Rattle.macsec_suite.specs.declared.suite.Suite.TheVariants.{Gcm128}
use Rattle.macsec_commands.specs.declared.form.TagForm.TheVariants as form
use Rattle.macsec_restarts.proofs.Examples.Extended as extended
use Rattle.macsec_restarts.proofs.Examples.Receivers as receiver
use Rattle.macsec_restarts.proofs.Examples.Senders as sender

-- ---- the frame that B sends under GCM-AES-128, with packet number 1

-- a configuration in which no sent frame carries the SCI
abbrev config_own : EndConfig
config_own = record { suite = Gcm128; sci = sci_b; max_frame = 1518; form = form.Auto }

abbrev own_options : TxOptions
own_options = tx_options (start config_own)

abbrev own_iv : List ℕ
own_iv = iv_of Gcm128 sci_b 2 no_salt 1

abbrev own_aad : List ℕ
own_aad = aad_sent own_options (key_row 2 1) (tx_from 1) (client 1)

abbrev own_use_with : Sealed → CipherUse
own_use_with it = cipher_use (key_row 2 1) own_iv
    (parts_with (tag_sent own_options (tx_from 1) (client 1)) (client 1) it)

abbrev own_icv : List ℕ
own_icv = tag_of bytes own_iv own_aad

abbrev own_use : CipherUse
own_use = own_use_with (with_tag own_icv)

abbrev own_frame : List ℕ → List ℕ
own_frame icv = frame_with (tag_sent own_options (tx_from 1) (client 1)) (client 1) (with_tag icv)

opens_own : open_of bytes own_iv own_aad [] (items 16 own_icv) ≡ Some []
opens_own = opens bytes own_iv own_aad

-- it is octets
own_block : are_small (aes bytes (pre_counter_block own_iv)) ≡ true
unfolding pre_counter_block aes after_rounds add_round_key round_key mix_columns shift_rows sub_bytes key_expansion
    key_words added_word sum_of_words sub_word rot_word
    s_box affine_transformation inverse byte_product remainder polynomial_product sum_below
own_block = refl

abbrev own_front : List ℕ
own_front = take 22 (own_frame [])

own_octets : AreOctets (own_frame own_icv)
own_octets = All-append (λ x. x < 256) own_front (items 16 own_icv) (small own_front refl)
    (rw (sealed bytes own_iv own_aad) at (tag_is bytes own_iv own_aad (small_at _ own_block)))

-- ---- the run of B that sends it

abbrev own_sa : List Command
own_sa = TxSa 0 0 1 false ∷ TxOn 0 ∷ []

abbrev own_sends : Inputs
own_sends = map command (Key receiver.key ∷ own_sa) ++ extended.report_in ∷ extended.frame_in ∷ []

abbrev first_run : Run
first_run = record { journal = journal false []; config = config_own; inputs = own_sends }

abbrev own_state : ℕ → List TxRow → ℕ → State
own_state unused rows count = record (start config_own) {
  keys = key_row 2 unused ∷ [];
  tx = rows;
  tx_counters = record no_tx_counters { out_pkts_protected = count; out_octets_protected = 2 * count };
}

abbrev sent_own : SentIn
sent_own = record { seal = own_use; number = 1; frame = client 1 }

own_start_sound : IsSound (start config_own)
own_start_sound = begins_sound _ refl

own_on_sound : IsSound (own_state 1 (row_at 1 true ∷ []) 0)
own_on_sound = commands_sound (Key receiver.key ∷ own_sa) refl refl own_start_sound

own_sets_up : SetsUp (short 2) config_own receiver.key own_sa
own_sets_up = record { fits = refl; none = refl; fit = λ long. refl; keep = refl; keys = refl }

-- its steps

abbrev own_created : Keeping
own_created = extended.tx_at [] (own_state 1 (row_at 1 true ∷ []) 0)

abbrev own_reserved : Keeping
own_reserved = extended.tx_at (reserved_2 ∷ []) (own_state 1 (row_at 1 true ∷ []) 0)

abbrev own_last : Keeping
own_last = extended.tx_at (reserved_2 ∷ []) (own_state 2 (row_at 2 true ∷ []) 1)

own_reserves : (keeping_step own_created extended.report_in).1 ≡ own_reserved
own_reserves = rw (raised_alone _ 2)

own_goes : may_go own_reserved (client_frame (client 1)) ≡ true
own_goes = may_send own_reserved (client 1) 1 refl
    (is_within (reads []) extended.tx_name 1 2 extended.name_free (omega arith))

own_seals : use_sent own_options (key_row 2 1) (row_at 1 true) (client 1) ≡ own_use
own_seals = rw (sealed bytes own_iv own_aad)

own_lists : newly_sent own_reserved extended.frame_in ≡ sent_own ∷ []
own_lists = rw (own_goes, own_seals)

own_does : Facts (short 2) sci_b KeepsSuite [] (without_option first_run) (sent_own ∷ []) []
own_does = facts_of refl (set_up_told config_own receiver.key own_sa (salt false) (reads []) own_sets_up own_start_sound
    (refl, (is_new (reads []) extended.tx_name 1 extended.name_free, (refl, tt)))
    (told_next (receiver_good 1 refl own_on_sound) refl refl (ap on own_reserves)
    (told_next (receiver_good 1 refl own_on_sound) own_lists refl (ap on (frame_step own_reserved (client 1) own_goes))
    (told_end (on own_last) (receiver_good 2 refl (sent_sound (client 1) refl refl own_on_sound))))))
  where
    receiver_good : {s : State} (unused : ℕ) → s.keys ≡ key_row 2 unused ∷ [] → IsSound s → IsGood (short 2) s
    receiver_good unused keys sound = good (short 2) unused keys (λ long. sound)

-- ---- B's key under GCM-AES-XPN-128, and its IV: the IV of A's frame, or of B's own

abbrev key_salt : End → List ℕ
key_salt A = 2 ∷ 0 ∷ 0 ∷ 1 ∷ 0 ∷ 1 ∷ replicate 6 0
key_salt B = 2 ∷ 0 ∷ 0 ∷ 1 ∷ 0 ∷ 2 ∷ replicate 6 0

abbrev kind_b : End → Kind
kind_b e = extended.kind_of (key_salt e) 2

abbrev lowest : ℕ
lowest = 2 ^ 32

abbrev number : ℕ
number = 2 ^ 32 + 1

abbrev sent_iv : End → List ℕ
sent_iv A = iv 1
sent_iv B = own_iv

abbrev sent_aad : End → List ℕ
sent_aad A = aad 1 (client 1)
sent_aad B = own_aad

abbrev sent_icv : End → List ℕ
sent_icv A = t
sent_icv B = own_icv

abbrev sent_use : End → CipherUse
sent_use A = use_1
sent_use B = own_use

abbrev f : End → List ℕ
f A = receiver.frame 1 t
f B = own_frame own_icv

octets : (e : End) → AreOctets (f e)
octets A = octets_1
octets B = own_octets

iv_is : (e : End) → iv_of Xpn128 sci_a 1 (key_salt e) number ≡ sent_iv e
unfolding sum_with_stream
iv_is A = refl
iv_is B = refl

opens_b : (e : End) → open_of bytes (iv_of Xpn128 sci_a 1 (key_salt e) number) (sent_aad e) [] (items 16 (sent_icv e)) ≡
    Some []
opens_b A = rw (iv_is A, opens_1)
opens_b B = rw (iv_is B, opens_own)

-- ---- the run of B that receives it

abbrev key : End → NewKey
key e = new_key (key_salt e) 2

abbrev sa : List Command
sa = RxSc sci_a ∷ RxSa sci_a 0 0 1 lowest ∷ RxOn sci_a 0 ∷ []

abbrev ready : End → State
ready e = after_commands (start xpn_b) (Key (key e) ∷ sa)

abbrev commands : End → Inputs
commands e = map command (Key (key e) ∷ sa)

abbrev link : End → KeepingInput
link e = endpoint_input (link_frame (f e))

abbrev accepts : Judgement
accepts = at_row (rx_from lowest) number 13 Passed (Some (client 1))

judged : (e : End) → judgement_of (ready e) (f e) ≡ accepts
judged A = rw (opens_b A)
judged B = rw (opens_b B)

abbrev heard : End → State
heard e = state_after_receiving (ready e) (f e) accepts

abbrev delivery : Delivery
delivery = record { bytes = bytes; sci = sci_a; an = 0; number = number; frame = client 1 }

-- what computes of each

record Works (e : End) : Type 0 where
  whole : frame_fault (f e) ≡ None
  sets_up : SetsUp (kind_b e) xpn_b (key e) sa
  keys : (ready e).keys ≡ key_of (kind_b e) 1 ∷ []
  keys_then : (heard e).keys ≡ key_of (kind_b e) 1 ∷ []
  long : length (kind_b e).salt ≡ 12
  heard_fits : tables_fit (heard e) ≡ true
  delivers : delivered_by (ready e) accepts None accepts.row accepts.delivered ≡ delivery ∷ []
  strict : {left_out : Premise} → HasStrictOrderBut left_out (ready e)

works : (e : End) → Works e
works A = record {
  whole = refl;
  sets_up = record { fits = refl; none = refl; fit = λ long. refl; keep = refl; keys = refl };
  keys = refl;
  keys_then = refl;
  long = refl;
  heard_fits = refl;
  delivers = refl;
  strict = is_strict refl refl refl;
}
works B = record {
  whole = refl;
  sets_up = record { fits = refl; none = refl; fit = λ long. refl; keep = refl; keys = refl };
  keys = refl;
  keys_then = refl;
  long = refl;
  heard_fits = refl;
  delivers = refl;
  strict = is_strict refl refl refl;
}

start_sound : IsSound (start xpn_b)
start_sound = begins_sound xpn_b refl

ready_sound : (e : End) → IsSound (ready e)
ready_sound e =
    commands_sound (Key (key e) ∷ sa) (works e).sets_up.none ((works e).sets_up.fit (works e).long) start_sound

heard_is_sound : (e : End) → IsSound (heard e)
heard_is_sound e = heard_by (f e) (works e).whole (judged e) (works e).heard_fits (ready_sound e)

ready_good : (e : End) → IsGood (kind_b e) (ready e)
ready_good e = good (kind_b e) 1 (works e).keys (λ long. ready_sound e)

heard_good : (e : End) → IsGood (kind_b e) (heard e)
heard_good e = good (kind_b e) 1 (works e).keys_then (λ long. heard_is_sound e)

-- its steps; where B itself sent the frame, its journal has what was reported to the first run

abbrev before : End → List Reservation
before A = []
before B = reserved_2 ∷ []

abbrev at : End → State → Keeping
at e s = kept (salt false) (reads (before e)) [] s

free : (e : End) → highest (reads (before e)) (name_of (salt false)) < 2 ^ 32
free A = let least : highest (reads []) (name_of (salt false)) < 1 =
    is_free [] _ 1 none_is (omega arith) in omega (arith, least)
free B =
    let least = is_free (reserved_2 ∷ []) (name_of (salt false)) 3 reserved_is
    (at_most (sending_name (salt false) bytes) (name_of (salt false)) 2 3 (omega arith)) in
    omega (arith, least)

are_new : (e : End) → AreNew (at e (start xpn_b)) (Key (key e) ∷ sa)
are_new e = (refl, (refl, (is_new (reads (before e)) (name_of (salt false)) lowest (free e), (refl, tt))))

-- its frame is among these uses of the cipher
genuine : (e : End) (uses : Uses) → Contains uses (sent_use e) → IfSome (use_opened (ready e) (f e)) (Contains uses)
genuine A uses there = genuine_at (ready A) (f A) accepts uses (judged A) (rw (iv_is A) there)
genuine B uses there = genuine_at (ready B) (f B) accepts uses (judged B) (rw (iv_is B) there)

told_b : {left_out : Premise} {uses : Uses} (e : End) → Contains uses (sent_use e) →
    Told (kind_b e) left_out uses (begun (at e (start xpn_b))) (commands e ++ link e ∷ []) [] (delivery ∷ [])
    (on (at e (heard e)))
told_b {uses} e there =
    set_up_told xpn_b (key e) sa (salt false) (reads (before e)) (works e).sets_up start_sound (are_new e)
    (told_gives {now = []} (ready_good e) refl (link_gives (at e (ready e)) (f e)
    (gives_by (at e (ready e)) (f e) accepts (works e).whole (judged e) ∙ (works e).delivers)) (λ some. record {
      order = (works e).strict;
      octets = octets e;
      genuine = λ d. genuine e uses there;
    }) (link_goes (at e (ready e)) (f e) (link_step_by (at e (ready e)) (f e) accepts (works e).whole (judged e)))
    (told_end (on (at e (heard e))) (heard_good e)))

abbrev run_b : End → Run
run_b e = record { journal = journal false (before e); config = xpn_b; inputs = commands e ++ link e ∷ [] }

does_b : (left_out : Premise) (e : End) (uses : Uses) → Contains uses (sent_use e) →
    Facts (kind_b e) sci_b left_out uses (without_option (run_b e)) [] (delivery ∷ [])
does_b left_out A uses there = facts_of refl (told_b A there)
does_b left_out B uses there = facts_of refl (told_b B there)

-- ---- one run of each end

-- a packet number that is neither of two
not_of_two : (m n k : ℕ) (x y z : List ℕ) → (m ≡ n → ⊥) → (m ≡ k → ⊥) →
    IsSubsequence ((m ∷ x) ∷ []) ((n ∷ y) ∷ (k ∷ z) ∷ []) → ⊥
not_of_two m n k x y z first second it = by_places it.0 it.2
  where
    by_places : (places : List ℕ) → map (slice_get ((n ∷ y) ∷ (k ∷ z) ∷ [])) places ≡ Some (m ∷ x) ∷ [] → ⊥
    by_places (zero ∷ _) same = let one : n ≡ m = cc in first (sym one)
    by_places (suc zero ∷ _) same = let one : k ≡ m = cc in second (sym one)
    by_places _ same = cc

module _ (a b : Run) (sends : Facts (short 1) sci_a HasOneSuite [] (without_option a) (sender.sent false) [])
    (receives : (uses : Uses) → Contains uses use_1 →
    Facts (kind_b A) sci_b HasOneSuite uses (without_option b) [] (delivery ∷ [])) where
  sealed_a : Contains (sealed_in never ((A, a) ∷ [])) use_1
  sealed_a = rw sends.told.sends (0, omega arith, refl)

  delivers : Facts (kind_b A) sci_b HasOneSuite (sealed_in never ((A, a) ∷ [])) (without_option b) [] (delivery ∷ [])
  delivers = receives (sealed_in never ((A, a) ∷ [])) sealed_a

  -- A's key has 32-bit packet numbers, so nothing is asked of the salts
  one_meets : Meets HasOneSuite never ((A, a) ∷ (B, b) ∷ []) (sender.sent false) (delivery ∷ [])
  one_meets = meets_by (short 1) (kind_b A) (record { suite = λ d. absurd (d refl); salt = λ d xpn. cc })
      (λ d. (refl, refl)) (one (IsRunOf (short 1) sci_a) (without_option a) (of_run sends))
      (one (IsRunOf (kind_b A) sci_b) (without_option b) (of_run delivers)) (tt, (delivers.told.fair, tt))
      (rw sends.told.sends) (rw delivers.told.delivers)

  widened : LawWithout HasOneSuite never (blocks ((A, a) ∷ (B, b) ∷ [])) → ⊥
  widened = breaks never ((A, a) ∷ (B, b) ∷ []) HasOneSuite one_meets
      (one_alone (KeepsSentBut HasOneSuite bytes) (without_option a))
      (one_alone (KeepsDeliveredBut HasOneSuite bytes sci_a 0) (without_option b))
      (not_of_two (2 ^ 32 + 1) 1 2 (client 1) (client 1) (client 1) (λ same. omega (arith, same))
      (λ same. omega (arith, same)))

pub one_suite_needed : LawWithout HasOneSuite never (blocks ((A, run_a false) ∷ (B, run_b A) ∷ [])) → ⊥
one_suite_needed = widened (run_a false) (run_b A) (facts_a false) (does_b HasOneSuite A)

-- ---- two runs of B

module _ (s r : Run) (sends : Facts (short 2) sci_b KeepsSuite [] (without_option s) (sent_own ∷ []) [])
    (receives : (uses : Uses) → Contains uses own_use →
    Facts (kind_b B) sci_b KeepsSuite uses (without_option r) [] (delivery ∷ [])) where
  sealed_s : Contains (sealed_in never ((B, s) ∷ [])) own_use
  sealed_s = rw sends.told.sends (0, omega arith, refl)

  then_delivers : Facts (kind_b B) sci_b KeepsSuite (sealed_in never ((B, s) ∷ [])) (without_option r) []
      (delivery ∷ [])
  then_delivers = receives (sealed_in never ((B, s) ∷ [])) sealed_s

  -- the first key has 32-bit packet numbers, so nothing is asked of the salts
  two_meet : Meets KeepsSuite never ((B, s) ∷ (B, r) ∷ []) [] (delivery ∷ [])
  two_meet = meets_of_b s r (is_sound (without_option s) refl (of_run sends))
      (is_sound (without_option r) refl (of_run then_delivers))
      (two_runs_of_b KeepsSuite (short 2) (kind_b B) (without_option s) (without_option r)
      (record { suite = λ d. absurd (d refl); salt = λ d xpn. cc }) (λ d xpn. refl) (λ d. refl) (of_run sends)
      (of_run then_delivers)) (sends.told.fair, (then_delivers.told.fair, tt))
      (delivered_by_two (without_option s) (without_option r) sends.told.delivers then_delivers.told.delivers)

  reflected : LawWithout KeepsSuite never (blocks ((B, s) ∷ (B, r) ∷ [])) → ⊥
  reflected = breaks never ((B, s) ∷ (B, r) ∷ []) KeepsSuite two_meet (no_pairs (KeepsSentBut KeepsSuite bytes))
      (pair (KeepsDeliveredBut KeepsSuite bytes sci_a 0) (without_option s) (without_option r)
      (λ d. keeps_delivered (without_option s) (without_option r) sends.told.delivers (All-nil _)))
      (not_of_none (number ∷ client 1))

pub kept_suite_needed : LawWithout KeepsSuite never (blocks ((B, first_run) ∷ (B, run_b B) ∷ [])) → ⊥
kept_suite_needed = reflected first_run (run_b B) own_does (does_b KeepsSuite B)
