-- How a run goes, input by input, of an endpoint that renews keys: what it sends and delivers, what holds of it at each
-- moment, and the premises of order on each input that delivers. So a worked run continues from a state that is written
-- out.
use Rattle.macsec_aes.specs.Keys.{key_bytes}
use Rattle.macsec_counterexamples.proofs.Restarts.Goes.{link_step}
use Rattle.macsec_counterexamples.proofs.Restarts.Tables.{first_sound, heard_sound}
use Rattle.macsec_reserve.specs.Forgetting.{as_taken}
use Rattle.macsec_reserve.specs.Renewing.{is_given_up, keeping_renewed}
use Rattle.macsec_restarts.proofs.Examples.Without.{HasStrictOrderBut, IsNotForged, Premise}
use Rattle.macsec_restarts.proofs.Names.{[], ◌&&◌, ◌++◌, ◌==◌, ◌∙◌, ◌∷◌, ◌≡◌, ◌≢◌, after_commands}
use Rattle.macsec_restarts.proofs.Names.{after_retiring, Ahead, ahead_by, ahead_step, All, All-cons, All-nil, all_fit}
use Rattle.macsec_restarts.proofs.Names.{and_parts, Answer, ap, AreNew, AreOctets, arith, B, Bool, carried_step}
use Rattle.macsec_restarts.proofs.Names.{comes_in, Command, command, Contains, delivered_by, Delivery, effect}
use Rattle.macsec_restarts.proofs.Names.{EndConfig, ended_after, ended_by, EndedSa, endpoint_input, Ends, false}
use Rattle.macsec_restarts.proofs.Names.{first_carried, frame_fault, FrameFault, HasOctets}
use Rattle.macsec_restarts.proofs.Names.{IfSome, if◌then◌else◌, Input, Inputs, installed_key, InstalledKey, is_done}
use Rattle.macsec_restarts.proofs.Names.{is_new, is_through, IsSound, Judgement, judgement_of, Keeping, keeping_step}
use Rattle.macsec_restarts.proofs.Names.{KeepingInput, kept, Key, length, lets_through, link_frame, List, lt-leb, map}
use Rattle.macsec_restarts.proofs.Names.{nat_le, nat_lt, newly_delivered, newly_delivered_with, newly_sent, no_ends}
use Rattle.macsec_restarts.proofs.Names.{no_salt, None, none_refused, operator_command, Option, passes, refl}
use Rattle.macsec_restarts.proofs.Names.{replicate, Reservation, Retire, RxRow, RxSa, SentIn, Some, Standing}
use Rattle.macsec_restarts.proofs.Names.{standing_by, standing_of, start, State, state_after_receiving, step, Strict}
use Rattle.macsec_restarts.proofs.Names.{subst, suc, sym, tables_fit, take, true, use_opened, Uses, with_ends, zero, ℕ}
use Rattle.macsec_restarts.specs.RenewingOrder.{delivered_from_renewing}
use Rattle.macsec_restarts.specs.RenewingRuns.{ahead_renewing_after, ahead_renewing_step, sent_from_renewing}
use Rattle.macsec_secy.specs.Renewing.{renewal_refusal}
use Rattle.macsec_suite.specs.Suites.{key_length}
use Rattle.macsec_suite.specs.declared.key_row.NewKey.{NewKey}
use Rattle.macsec_suite.specs.declared.suite.Suite.{Suite}
use Rattle.macsec_suite.specs.declared.suite.Suite.TheVariants.{Gcm128}
use Rattle.std.proofs.lemmas.Bool.{and_right}

-- ---- what holds of an endpoint

-- all its keys have one suite, salt and own SSCI
pub record Kind : Type 0 where
  pub suite : Suite
  pub salt : List ℕ
  pub ssci : ℕ

pub record IsKeyOf (kind : Kind) (key : InstalledKey) : Type 0 where
  pub suite : key.suite ≡ kind.suite
  pub salt : key.salt ≡ kind.salt
  pub ssci : key.ssci ≡ kind.ssci

-- and it is sound, if the salt has as many octets as a key's salt has
pub record IsGood (kind : Kind) (s : State) : Type 0 where
  pub sound : length kind.salt ≡ 12 → IsSound s
  pub keys : All (IsKeyOf kind) s.keys

-- it has one key
pub good_with : {kind : Kind} {s : State} (key : InstalledKey) → s.keys ≡ key ∷ [] → IsKeyOf kind key →
    (length kind.salt ≡ 12 → IsSound s) → IsGood kind s
good_with {kind} key keys is sound = record {
  sound = sound;
  keys = subst (All (IsKeyOf kind)) (sym keys) (All-cons (IsKeyOf kind) key [] is (All-nil (IsKeyOf kind)));
}

-- all its octets are 7
abbrev pub key_of : Kind → ℕ → InstalledKey
key_of kind unused = record (installed_key kind.suite kind.salt kind.ssci unused) {
  bytes = replicate (key_length kind.suite) 7;
}

pub good : {s : State} (kind : Kind) (unused : ℕ) → s.keys ≡ key_of kind unused ∷ [] →
    (length kind.salt ≡ 12 → IsSound s) → IsGood kind s
good kind unused keys sound =
    good_with (key_of kind unused) keys (record { suite = refl; salt = refl; ssci = refl }) sound

-- with 32-bit packet numbers
abbrev pub short : ℕ → Kind
short ssci = record { suite = Gcm128; salt = no_salt; ssci = ssci }

-- ---- the premises at an input of the receiver

-- what is opened of a link frame is among these uses of the cipher
abbrev pub IsAmong : Uses → Ahead → KeepingInput → Type 0
IsAmong uses a (endpoint_input (link_frame frame)) = IfSome (use_opened a.k.secy frame) (Contains uses)
IsAmong uses a other = Unit {0}

pub record IsFair (left_out : Premise) (uses : Uses) (a : Ahead) (input : KeepingInput) : Type 0 where
  pub order : HasStrictOrderBut left_out a.k.secy
  pub octets : HasOctets (comes_in B input)
  pub genuine : IsNotForged ≢ left_out → IsAmong uses a input

pub is_strict : {left_out : Premise} {s : State} → s.options.mode ≡ Strict → s.options.replay ≡ true →
    s.options.window ≡ 0 → HasStrictOrderBut left_out s
is_strict mode replay window = record { mode = λ n. mode; replay = λ n. replay; window = λ n. window }

-- they are met wherever an input delivers
abbrev pub AreFair : Premise → Uses → Ahead → Inputs → Type 0
AreFair left_out uses a [] = Unit {0}
AreFair left_out uses a (input ∷ inputs) =
    (newly_delivered_with a input ≢ [] → IsFair left_out uses a input)
    × AreFair left_out uses (ahead_renewing_step a input).1 inputs

-- ---- how a run goes

pub record Told (kind : Kind) (left_out : Premise) (uses : Uses) (a : Ahead) (inputs : Inputs) (xs : List SentIn)
    (ds : List Delivery) (last : Ahead) : Type 0 where
  pub sends : sent_from_renewing a inputs ≡ xs
  pub delivers : delivered_from_renewing a inputs ≡ ds
  pub ends : ahead_renewing_after a inputs ≡ last
  pub always : (n : ℕ) → IsGood kind (ahead_renewing_after a (take n inputs)).k.secy
  pub fair : AreFair left_out uses a inputs

pub told_end : {kind : Kind} {left_out : Premise} {uses : Uses} (a : Ahead) → IsGood kind a.k.secy →
    Told kind left_out uses a [] [] [] a
told_end {kind} a now = record { sends = refl; delivers = refl; ends = refl; always = at_each; fair = tt }
  where
    at_each : (n : ℕ) → IsGood kind (ahead_renewing_after a (take n [])).k.secy
    at_each zero = now
    at_each (suc n) = now

-- an input that may deliver
pub told_gives : {kind : Kind} {left_out : Premise} {uses : Uses} {a after last : Ahead} {input : KeepingInput}
    {inputs : Inputs} {now sends : List SentIn} {new ds : List Delivery} → IsGood kind a.k.secy →
    newly_sent a.k input ≡ now → newly_delivered_with a input ≡ new →
    (newly_delivered_with a input ≢ [] → IsFair left_out uses a input) → (ahead_renewing_step a input).1 ≡ after →
    Told kind left_out uses after inputs sends ds last →
    Told kind left_out uses a (input ∷ inputs) (now ++ sends) (new ++ ds) last
told_gives {kind} {left_out} {uses} {a} {input} {inputs} {now} {new} is_good is_now is_new is_fair is_after rest =
    record {
      sends = rw (is_now, is_after, rest.sends);
      delivers = rw (is_new, is_after, rest.delivers);
      ends = rw (is_after, rest.ends);
      always = at_each;
      fair = (is_fair, subst (λ x. AreFair left_out uses x inputs) (sym is_after) rest.fair);
    }
  where
    at_each : (n : ℕ) → IsGood kind (ahead_renewing_after a (take n (input ∷ inputs))).k.secy
    at_each zero = is_good
    at_each (suc n) = subst (λ x. IsGood kind (ahead_renewing_after x (take n inputs)).k.secy) (sym is_after)
        (rest.always n)

-- one that delivers nothing
pub told_next : {kind : Kind} {left_out : Premise} {uses : Uses} {a after last : Ahead} {input : KeepingInput}
    {inputs : Inputs} {now sends : List SentIn} {ds : List Delivery} → IsGood kind a.k.secy →
    newly_sent a.k input ≡ now → newly_delivered_with a input ≡ [] → (ahead_renewing_step a input).1 ≡ after →
    Told kind left_out uses after inputs sends ds last →
    Told kind left_out uses a (input ∷ inputs) (now ++ sends) ds last
told_next is_good is_now none is_after rest =
    told_gives {new = []} is_good is_now none (λ some. absurd (some none)) is_after rest

-- ---- an endpoint with the option to reserve ahead of receiving, or without it

-- before its first key, and after it, where no SA was deleted
abbrev pub begun_as : Bool → Keeping → Ahead
begun_as ahead k = record { k = k; ahead = ahead; taken = []; ended = no_ends; renews = false }

abbrev pub on_as : Bool → Keeping → Ahead
on_as ahead k = record { k = k; ahead = ahead; taken = []; ended = no_ends; renews = true }

-- without the option
abbrev pub begun : Keeping → Ahead
begun k = begun_as false k

abbrev pub on : Keeping → Ahead
on k = on_as false k

-- where SAs were deleted
abbrev pub on_with : Ends → Keeping → Ahead
on_with ended k = record (on k) { ended = ended }

-- ---- a link frame, by its judgement

received_by : (s : State) (f : List ℕ) {j : Judgement} → frame_fault f ≡ None → judgement_of s f ≡ j →
    (step s (link_frame f)).1 ≡ state_after_receiving s f j
received_by s f whole is = rw (whole, is)

pub heard_by : {s : State} (f : List ℕ) {j : Judgement} → frame_fault f ≡ None → judgement_of s f ≡ j →
    tables_fit (state_after_receiving s f j) ≡ true → IsSound s → IsSound (state_after_receiving s f j)
heard_by {s} f whole is fit sound = heard_sound f (received_by s f whole is) fit sound

pub link_step_by : (k : Keeping) (f : List ℕ) (j : Judgement) → frame_fault f ≡ None → judgement_of k.secy f ≡ j →
    (keeping_step k (endpoint_input (link_frame f))).1 ≡ record k { secy = state_after_receiving k.secy f j }
link_step_by k f j whole is = rw (link_step k f, received_by k.secy f whole is)

pub gives_by : (k : Keeping) (f : List ℕ) (j : Judgement) → frame_fault f ≡ None → judgement_of k.secy f ≡ j →
    newly_delivered k (endpoint_input (link_frame f)) ≡ delivered_by k.secy j None j.row j.delivered
gives_by k f j whole is = rw (whole, is)

-- the state after an input that is let through
by_standing : (again : Bool) (it : Standing) (a : Ahead) (input : Input) (answer : Answer) →
    is_through again it ≡ true →
    (ahead_by again it a input answer).1 ≡ record a { k = answer.1; ended = ended_after a input answer }
by_standing false passes a _ _ _ = refl
by_standing _ _ a _ _ is = cc

pub goes_on : (a : Ahead) (input : Input) (k : Keeping) → lets_through a (endpoint_input input) ≡ true →
    (keeping_step a.k (endpoint_input input)).1 ≡ k → (ahead_step a (endpoint_input input)).1 ≡ record a
    { k = k; ended = ended_after a input ((keeping_step a.k (endpoint_input input)).0, k) }
goes_on a input k lets is =
    let answer = keeping_step a.k (endpoint_input input) in
    by_standing _ _ _ input answer lets
    ∙ ap (λ x. record a { k = x; ended = ended_after a input (answer.0, x) }) is

-- without the option each one is let through
is_let : (k : Keeping) (f : List ℕ) → lets_through (on k) (endpoint_input (link_frame f)) ≡ true
is_let k f = by_parts (judgement_of k.secy f) (frame_fault f) (judgement_of k.secy f).row
  where
    by_step : (b : Bool) (row : RxRow) (n : ℕ) →
        is_through false (if b then standing_of (on k) row n else passes) ≡ true
    by_step true row n = refl
    by_step false row n = refl

    by_parts : (j : Judgement) (fault : Option FrameFault) (o : Option RxRow) →
        is_through false (standing_by (on k) j fault o) ≡ true
    by_parts j None (Some row) = by_step (j.step == 13) row j.number
    by_parts j None None = refl
    by_parts j (Some fault) o = refl

pub link_goes : (k : Keeping) (f : List ℕ) {k' : Keeping} → (keeping_step k (endpoint_input (link_frame f))).1 ≡ k' →
    (ahead_renewing_step (on k) (endpoint_input (link_frame f))).1 ≡ on k'
link_goes k f is = goes_on (on k) (link_frame f) _ (is_let k f) is

pub link_gives : (k : Keeping) (f : List ℕ) {ds : List Delivery} →
    newly_delivered k (endpoint_input (link_frame f)) ≡ ds →
    newly_delivered_with (on k) (endpoint_input (link_frame f)) ≡ ds
link_gives k f is = rw (is_let k f, is)

-- one that may be delivered
pub told_link : {kind : Kind} {left_out : Premise} {uses : Uses} {k : Keeping} {last : Ahead} {f : List ℕ}
    {inputs : Inputs} {xs : List SentIn} {ds : List Delivery} (j : Judgement) → frame_fault f ≡ None →
    judgement_of k.secy f ≡ j → IsGood kind k.secy → HasStrictOrderBut left_out k.secy → AreOctets f →
    (IsNotForged ≢ left_out → IfSome (use_opened k.secy f) (Contains uses)) →
    Told kind left_out uses (on (record k { secy = state_after_receiving k.secy f j })) inputs xs ds last →
    Told kind left_out uses (on k) (endpoint_input (link_frame f) ∷ inputs) xs
    (delivered_by k.secy j None j.row j.delivered ++ ds) last
told_link {k} {f} j whole is is_good order octets genuine rest =
    told_gives {now = []} is_good refl (link_gives k f (gives_by k f j whole is))
    (λ some. record { order = order; octets = octets; genuine = genuine })
    (link_goes k f (link_step_by k f j whole is)) rest

-- one that is not
pub told_drop : {kind : Kind} {left_out : Premise} {uses : Uses} {k : Keeping} {last : Ahead} {f : List ℕ}
    {inputs : Inputs} {xs : List SentIn} {ds : List Delivery} (j : Judgement) → frame_fault f ≡ None →
    judgement_of k.secy f ≡ j → delivered_by k.secy j None j.row j.delivered ≡ [] → IsGood kind k.secy →
    Told kind left_out uses (on (record k { secy = state_after_receiving k.secy f j })) inputs xs ds last →
    Told kind left_out uses (on k) (endpoint_input (link_frame f) ∷ inputs) xs ds last
told_drop {k} {f} j whole is none is_good rest =
    told_next {now = []} is_good refl (link_gives k f (gives_by k f j whole is ∙ none))
    (link_goes k f (link_step_by k f j whole is)) rest

-- ---- commands that delete no SA, and neither install nor retire a key

pub newly_none : (a : Ahead) (c : Command) → newly_delivered_with a (command c) ≡ []
newly_none a c = by_test (lets_through a (command c))
  where
    by_test : (b : Bool) → (if b then newly_delivered a.k (command c) else []) ≡ []
    by_test true = refl
    by_test false = refl

abbrev no_entry : List EndedSa → Bool
no_entry [] = true
no_entry (e ∷ es) = false

no_entries : (es : List EndedSa) → no_entry es ≡ true → es ≡ []
no_entries [] none = refl
no_entries (e ∷ es) none = cc

abbrev pub keeps_tables : State → Command → Bool
keeps_tables s (Key key) = false
keeps_tables s (Retire n) = false
keeps_tables s c = no_entry (ended_by s (effect s c))

abbrev pub all_keep : State → List Command → Bool
all_keep s [] = true
all_keep s (c ∷ cs) = keeps_tables s c && all_keep (effect s c) cs

none_below : (n : ℕ) → (nat_lt 0 n && nat_le n 0) ≡ false
none_below zero = refl
none_below (suc n) = and_right _ _ (lt-leb (suc n) 0 (omega arith))

module _ (ahead : Bool) (k : Keeping) (c : Command) where
  abbrev k_after : Keeping
  k_after = record k { secy = effect k.secy c }

  by_keeps : (b : Bool) → (if b then no_ends else no_ends) ≡ no_ends
  by_keeps true = refl
  by_keeps false = refl

  ends_stay : (done : Bool) → ended_by k.secy (effect k.secy c) ≡ [] → after_retiring c done no_ends ≡ no_ends →
      (if k.keeps then after_retiring c done (with_ends (ended_by k.secy (effect k.secy c)) no_ends) else no_ends) ≡
      no_ends
  ends_stay done none stays =
      ap (λ es. if k.keeps then after_retiring c done (with_ends es no_ends) else no_ends) none
      ∙ ap (λ t. if k.keeps then t else no_ends) stays ∙ by_keeps k.keeps

  goes_by : (again : Bool) (answer : Answer) → again ≡ false → answer.1 ≡ k_after →
      ended_by k.secy (effect k.secy c) ≡ [] → ((done : Bool) → after_retiring c done no_ends ≡ no_ends) →
      (ahead_by again passes (on_as ahead k) (operator_command c) answer).1 ≡ on_as ahead k_after
  goes_by true answer off is none stays = cc
  goes_by false answer off is none stays =
      ap (λ x. record (on_as ahead k)
      { k = x; ended = ended_after (on_as ahead k) (operator_command c) (answer.0, x) }) is
      ∙ ap (λ t. record (on_as ahead k) { k = k_after; ended = t })
      (ends_stay (is_done answer.0) none (stays (is_done answer.0)))

command_goes : (ahead : Bool) (k : Keeping) (c : Command) → keeps_tables k.secy c ≡ true →
    (keeping_step k (command c)).1 ≡ record k { secy = effect k.secy c } →
    (ahead_renewing_step (on_as ahead k) (command c)).1 ≡ on_as ahead (record k { secy = effect k.secy c })
command_goes ahead k (Key key) keeps is = cc
command_goes ahead k (Retire n) keeps is = cc
command_goes ahead k (RxSa sci an key ssci lowest) keeps is =
    goes_by ahead k (RxSa sci an key ssci lowest) (nat_lt 0 lowest && nat_le lowest 0)
    (keeping_step k (command (RxSa sci an key ssci lowest))) (none_below lowest) is
    (no_entries (ended_by k.secy (effect k.secy (RxSa sci an key ssci lowest))) keeps) (λ done. refl)
command_goes ahead k c keeps is = goes_by ahead k c false (keeping_step k (command c)) refl is
    (no_entries (ended_by k.secy (effect k.secy c)) keeps) (λ done. refl)

keys_stay : (kind : Kind) (s : State) (c : Command) → keeps_tables s c ≡ true → All (IsKeyOf kind) s.keys →
    All (IsKeyOf kind) (effect s c).keys
keys_stay kind s (Key key) keeps are = cc
keys_stay kind s (Retire n) keeps are = cc
keys_stay kind s c keeps are = are

pub commands_told : {kind : Kind} {left_out : Premise} {uses : Uses} {ahead : Bool} (cs : List Command) {k : Keeping}
    {last : Ahead} {inputs : Inputs} {xs : List SentIn} {ds : List Delivery} → AreNew k cs →
    none_refused k.secy cs ≡ true → (length kind.salt ≡ 12 → all_fit k.secy cs ≡ true) →
    all_keep k.secy cs ≡ true → IsGood kind k.secy →
    Told kind left_out uses (on_as ahead (record k { secy = after_commands k.secy cs })) inputs xs ds last →
    Told kind left_out uses (on_as ahead k) (map command cs ++ inputs) xs ds last
commands_told [] new none fit keep is_good rest = rest
commands_told {kind} {ahead = ahead} (c ∷ cs) {k} new none fit keep is_good rest =
    let it = first_carried k.secy c cs none in
    let both = and_parts (keeps_tables k.secy c) (all_keep (effect k.secy c) cs) keep in
    told_next is_good refl (newly_none (on_as ahead k) c)
    (command_goes ahead k c both.0 (carried_step k c new.0 it.0))
    (commands_told cs new.1 it.1 (λ long. (first_sound k.secy c cs it.0 (fit long) (is_good.sound long)).1) both.1
    (record {
      sound = λ long. (first_sound k.secy c cs it.0 (fit long) (is_good.sound long)).0;
      keys = keys_stay kind k.secy c both.0 is_good.keys;
    }) rest)

-- ---- the first key

pub key_goes : (renews ahead : Bool) (k : Keeping) (key : NewKey) → is_given_up k (key_bytes key.bytes) ≡ false →
    as_taken k key ≡ key → renewal_refusal k.secy key ≡ None →
    (ahead_renewing_step (record (on_as ahead k) { renews = renews }) (command (Key key))).1 ≡
    on_as ahead (keeping_renewed key k)
key_goes renews ahead k key given taken fits =
    rw (given, taken, fits) (ap (λ x. on_as ahead (keeping_renewed x k)) taken)

-- the commands with which a run begins: a key, and SAs
pub record SetsUp (kind : Kind) (config : EndConfig) (key : NewKey) (cs : List Command) : Type 0 where
  pub fits : renewal_refusal (start config) key ≡ None
  pub none : none_refused (start config) (Key key ∷ cs) ≡ true
  pub fit : length kind.salt ≡ 12 → all_fit (start config) (Key key ∷ cs) ≡ true
  pub keep : all_keep (effect (start config) (Key key)) cs ≡ true
  pub keys : (effect (start config) (Key key)).keys ≡ key_of kind 1 ∷ []

pub set_up_told : {kind : Kind} {left_out : Premise} {uses : Uses} {ahead : Bool} (config : EndConfig) (key : NewKey)
    (cs : List Command) (salt : List ℕ) (before : List Reservation) {last : Ahead} {inputs : Inputs}
    {xs : List SentIn} {ds : List Delivery} → SetsUp kind config key cs → IsSound (start config) →
    AreNew (kept salt before [] (start config)) (Key key ∷ cs) →
    Told kind left_out uses (on_as ahead (kept salt before [] (after_commands (start config) (Key key ∷ cs)))) inputs
    xs ds last → Told kind left_out uses (begun_as ahead (kept salt before [] (start config)))
    (map command (Key key ∷ cs) ++ inputs) xs ds last
set_up_told {kind} {ahead = ahead} config key cs salt before it sound new rest =
    let s = start config in
    let k = kept salt before [] s in
    let next = first_carried s (Key key) cs it.none in
    told_next (record { sound = λ long. sound; keys = All-nil (IsKeyOf kind) }) refl
    (newly_none (begun_as ahead k) (Key key))
    (key_goes false ahead k key refl refl it.fits)
    (commands_told cs new.1 next.1 (λ long. (first_sound s (Key key) cs next.0 (it.fit long) sound).1) it.keep
    (good kind 1 it.keys (λ long. (first_sound s (Key key) cs next.0 (it.fit long) sound).0)) rest)
