-- Whatever the inputs, a key stays as it was prepared, and so does what a job does with it.
use Rattle.macsec_tx.specs.{Answers.frame_sealed, declared.SealJob.SealJob}
use Rattle.macsec_rx.specs.{Opened.IsOpenedBy, declared.{OpenJob.OpenJob, OpenedFrame.OpenedFrame}}
use Rattle.macsec_secy.{
  proofs.Names.{[], ◌++◌, ◌==◌, ◌∙◌, ◌∷◌, ◌≡◌, ap, at_number, Bool, client_frame, Command, effect, false, frame_fault},
  proofs.Names.{FrameFault, if◌then◌else◌, Input, InstalledKey, IsSome, judgement_of, Key, key_row, keys_after, leaves},
  proofs.Names.{link_frame, List, map, no_key, None, operator_command, Option, option_map, Output, prepared_key},
  proofs.Names.{Protect, received_output, refl, Refusal, refusal, Replay, Retire, retired_row, row_noting, RxDel},
  proofs.Names.{RxLow, RxOff, RxOn, RxSa, RxSc, RxScDel, sending_of, sent_output, Some, State, state_after_receiving},
  proofs.Names.{state_after_sending, step, subst, sym, Tag, the_key, true, TxDel, TxOff, TxOn, TxRow, TxSa},
  proofs.Names.{uncontrolled_frame, unless_fault, unless_refused, unwrap_or, Validate, ℕ},
  specs.Jobs.{KeyStaysPrepared, OpensLater, SealsLater, StaysPrepared, state_after},
}

abbrev Stays : List InstalledKey → List InstalledKey → Type 0
Stays keys after = (n : ℕ) → IsSome (key_row keys n) → StaysPrepared keys after n

same : (keys : List InstalledKey) → Stays keys keys
same keys n there = record { there = there; prepared = refl }

-- two look-ups that give the same prepared key
record AreAlike (found later : Option InstalledKey) : Type 0 where
  there : IsSome later
  prepared : prepared_key (unwrap_or later no_key) ≡ prepared_key (unwrap_or found no_key)

alike : (found later : Option InstalledKey) → option_map prepared_key later ≡ option_map prepared_key found → IsSome found → AreAlike found later
alike None later e there = absurd (let none : false ≡ true = there in cc)
alike (Some key) None e there = cc
alike (Some key) (Some other) e there = record { there = refl; prepared = cc }

-- ---- a change of rows that keeps numbers and prepared keys

prepared-map : (f : InstalledKey → InstalledKey) → ((row : InstalledKey) → (f row).number ≡ row.number) → ((row : InstalledKey) → prepared_key (f row) ≡ prepared_key row)
    → (keys : List InstalledKey) (n : ℕ) → option_map prepared_key (key_row (map f keys) n) ≡ option_map prepared_key (key_row keys n)
prepared-map f number prepared [] n = refl
prepared-map f number prepared (row ∷ keys) n =
    by_tests ((f row).number == n) (row.number == n) (ap (λ (m : ℕ). m == n) (number row)) (prepared-map f number prepared keys n)
  where
    by_tests : (b d : Bool) → b ≡ d → option_map prepared_key (key_row (map f keys) n) ≡ option_map prepared_key (key_row keys n)
        → option_map prepared_key (if b then Some (f row) else key_row (map f keys) n) ≡ option_map prepared_key (if d then Some row else key_row keys n)
    by_tests true true e rest = ap Some (prepared row)
    by_tests true false e rest = absurd (let no : true ≡ false = e in cc)
    by_tests false true e rest = absurd (let no : false ≡ true = e in cc)
    by_tests false false e rest = rest

changed : (f : InstalledKey → InstalledKey) → ((row : InstalledKey) → (f row).number ≡ row.number) → ((row : InstalledKey) → prepared_key (f row) ≡ prepared_key row)
    → (keys : List InstalledKey) → Stays keys (map f keys)
changed f number prepared keys n there =
    let found = alike (key_row keys n) (key_row (map f keys) n) (prepared-map f number prepared keys n) there in
    record { there = found.there; prepared = found.prepared }

number-at : (change : InstalledKey → InstalledKey) → ((row : InstalledKey) → (change row).number ≡ row.number) → (n : ℕ) (row : InstalledKey)
    → (at_number change n row).number ≡ row.number
number-at change keeps n row = by_test (row.number == n)
  where
    by_test : (b : Bool) → (if b then change row else row).number ≡ row.number
    by_test true = keeps row
    by_test false = refl

prepared-at : (change : InstalledKey → InstalledKey) → ((row : InstalledKey) → prepared_key (change row) ≡ prepared_key row) → (n : ℕ) (row : InstalledKey)
    → prepared_key (at_number change n row) ≡ prepared_key row
prepared-at change keeps n row = by_test (row.number == n)
  where
    by_test : (b : Bool) → prepared_key (if b then change row else row) ≡ prepared_key row
    by_test true = keeps row
    by_test false = refl

retiring : (keys : List InstalledKey) (n : ℕ) → Stays keys (map (at_number retired_row n) keys)
retiring keys n = changed (at_number retired_row n) (number-at retired_row (λ row. refl) n) (prepared-at retired_row (λ row. refl) n) keys

noting : (keys : List InstalledKey) (n pn : ℕ) → Stays keys (map (at_number (row_noting pn) n) keys)
noting keys n pn = changed (at_number (row_noting pn) n) (number-at (row_noting pn) (λ row. refl) n) (prepared-at (row_noting pn) (λ row. refl) n) keys

-- ---- a new key

key_row-append : (keys : List InstalledKey) (new : InstalledKey) (n : ℕ) → IsSome (key_row keys n) → key_row (keys ++ new ∷ []) n ≡ key_row keys n
key_row-append [] new n there = absurd (let none : false ≡ true = there in cc)
key_row-append (row ∷ keys) new n there = by_test (row.number == n) there (key_row-append keys new n)
  where
    by_test : (b : Bool) → IsSome (if b then Some row else key_row keys n) → (IsSome (key_row keys n) → key_row (keys ++ new ∷ []) n ≡ key_row keys n)
        → (if b then Some row else key_row (keys ++ new ∷ []) n) ≡ (if b then Some row else key_row keys n)
    by_test true found rest = refl
    by_test false found rest = rest found

appended : (keys : List InstalledKey) (new : InstalledKey) → Stays keys (keys ++ new ∷ [])
appended keys new n there =
    let e = key_row-append keys new n there in
    record { there = subst IsSome (sym e) there; prepared = ap (λ o. prepared_key (unwrap_or o no_key)) e }

-- ---- every input

effect_stays : (s : State) (c : Command) → Stays s.keys (effect s c).keys
effect_stays s (Protect on) = same s.keys
effect_stays s (Validate mode) = same s.keys
effect_stays s (Replay protect window) = same s.keys
effect_stays s (Tag form) = same s.keys
effect_stays s (Key key) = appended s.keys _
effect_stays s (Retire key) = retiring s.keys key
effect_stays s (TxSa an key next conf) = same s.keys
effect_stays s (TxOn an) = same s.keys
effect_stays s (TxOff an) = same s.keys
effect_stays s (TxDel an) = same s.keys
effect_stays s (RxSc sci) = same s.keys
effect_stays s (RxScDel sci) = same s.keys
effect_stays s (RxSa sci an key ssci lowest) = same s.keys
effect_stays s (RxOn sci an) = same s.keys
effect_stays s (RxOff sci an) = same s.keys
effect_stays s (RxLow sci an pn) = same s.keys
effect_stays s (RxDel sci an) = same s.keys

command_stays : (s : State) (c : Command) (r : Option Refusal) → Stays s.keys (unless_refused r s c).keys
command_stays s c None = effect_stays s c
command_stays s c (Some r) = same s.keys

sending_stays : (keys : List InstalledKey) (by : Option TxRow) → Stays keys (keys_after keys by)
sending_stays keys None = same keys
sending_stays keys (Some row) = noting keys row.key row.next

frame_stays : (s after : State) (output : Output) (fault : Option FrameFault) → Stays s.keys after.keys → Stays s.keys (unless_fault fault s (output, after)).1.keys
frame_stays s after output None stays = stays
frame_stays s after output (Some fault) stays = same s.keys

step_stays : (s : State) (input : Input) → Stays s.keys (step s input).1.keys
step_stays s (operator_command c) = command_stays s c (refusal s c)
step_stays s (client_frame frame) =
    frame_stays s (state_after_sending s frame (sending_of s frame)) (sent_output frame (sending_of s frame).leaving) (frame_fault frame)
    (sending_stays s.keys (sending_of s frame).by)
step_stays s (uncontrolled_frame frame) = frame_stays s s (leaves frame None) (frame_fault frame) (same s.keys)
step_stays s (link_frame frame) =
    frame_stays s (state_after_receiving s frame (judgement_of s frame)) (received_output frame (judgement_of s frame)) (frame_fault frame) (same s.keys)

-- ---- every list of inputs

pub key_stays : (s : State) (inputs : List Input) (n : ℕ) → KeyStaysPrepared s inputs n
key_stays s [] n there = same s.keys n there
key_stays s (input ∷ inputs) n there =
    let one = step_stays s input n there in
    let rest = key_stays (step s input).1 inputs n one.there in
    record { there = rest.there; prepared = rest.prepared ∙ one.prepared }

pub seals_later : (s : State) (inputs : List Input) (job : SealJob) (frame : List ℕ) (output : Output) → SealsLater s inputs job frame output
seals_later s inputs job frame output seals =
    let stays = key_stays s inputs job.key.number seals.there in
    record {
      there = stays.there;
      sends = seals.sends ∙ ap (λ key. leaves (frame_sealed key job frame) (Some job.key.number)) (sym stays.prepared);
      fits = seals.fits;
      least = seals.least;
    }

pub opens_later : (s : State) (inputs : List Input) (opened : OpenedFrame) (job : OpenJob) (frame out : List ℕ) → OpensLater s inputs opened job frame out
opens_later s inputs opened job frame out there of_job = λ p reads key found.
    let after : List InstalledKey = (state_after s inputs).keys in
    let stays = key_stays s inputs job.key there in
    let it : the_key after job.key ≡ key = ap (λ o. unwrap_or o no_key) (ap (key_row after) (sym of_job.key) ∙ found) in
    subst (λ k. IsOpenedBy opened k p out) (sym stays.prepared ∙ ap prepared_key it) (of_job.opened p reads)
