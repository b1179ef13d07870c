-- What a load leaves, call by call.
use Rattle.std.proofs.Common.{◌≡◌, ◌∙◌, ◌++◌, ℕ, List, [], ◌∷◌, Option, Some, None, length, suc, refl, ap, sym}
use Rattle.macsec_suite.specs.declared.key_row.NewKey.{NewKey}
use Rattle.macsec_suite.specs.declared.refusal.Refusal.{Refusal}
use Rattle.macsec_suite.specs.declared.refusal.Refusal.TheVariants as by
use Rattle.macsec_commands.specs.declared.command.Command.{Command}
use Rattle.macsec_commands.specs.declared.command.Command.TheVariants as the
use Rattle.macsec_ahead.specs.Ahead.{Ahead}
use Rattle.macsec_ahead.specs.Loading.{after_all, beginning_above, beginning_at, begins_of, carried_out, first_free}
use Rattle.macsec_ahead.specs.Loading.{key_in, loaded, unless_too_low}
use Rattle.macsec_c_calls.specs.GivenUp.{Call, after_call, after_calls, command, renewal}
use Rattle.macsec_c_calls.specs.Loading.{calls_of, calls_of_all, calls_with, second_call}

-- there is a number for each command
pub length_begins : (e : Ahead) (cs : List (Option Command)) → length (begins_of e cs) ≡ length cs
length_begins e [] = refl
length_begins e (c ∷ cs) = ap suc (length_begins (loaded e c).after cs)

-- calls after calls
after_both : (e : Ahead) (some more : List Call) → after_calls e (some ++ more) ≡ after_calls (after_calls e some) more
after_both e [] more = refl
after_both e (call ∷ calls) more = after_both (after_call e call) calls more

-- a command that installs no key is one call
is_call : (e : Ahead) (c : Command) → key_in c ≡ None → (carried_out e c).1 ≡ after_call e (command c)
is_call e (the.Key key) none = cc
is_call e (the.Protect on) none = refl
is_call e (the.Validate mode) none = refl
is_call e (the.Replay protect window) none = refl
is_call e (the.Tag form) none = refl
is_call e (the.Retire key) none = refl
is_call e (the.TxSa an key next conf) none = refl
is_call e (the.TxOn an) none = refl
is_call e (the.TxOff an) none = refl
is_call e (the.TxDel an) none = refl
is_call e (the.RxSc sci) none = refl
is_call e (the.RxScDel sci) none = refl
is_call e (the.RxSa sci an key ssci lowest) none = refl
is_call e (the.RxOn sci an) none = refl
is_call e (the.RxOff sci an) none = refl
is_call e (the.RxLow sci an pn) none = refl
is_call e (the.RxDel sci an) none = refl

is_other : (n : ℕ) (c : Command) → key_in c ≡ None → key_in (beginning_at n c) ≡ None
is_other n (the.Key key) none = cc
is_other n (the.Protect on) none = refl
is_other n (the.Validate mode) none = refl
is_other n (the.Replay protect window) none = refl
is_other n (the.Tag form) none = refl
is_other n (the.Retire key) none = refl
is_other n (the.TxSa an key next conf) none = refl
is_other n (the.TxOn an) none = refl
is_other n (the.TxOff an) none = refl
is_other n (the.TxDel an) none = refl
is_other n (the.RxSc sci) none = refl
is_other n (the.RxScDel sci) none = refl
is_other n (the.RxSa sci an key ssci lowest) none = refl
is_other n (the.RxOn sci an) none = refl
is_other n (the.RxOff sci an) none = refl
is_other n (the.RxLow sci an pn) none = refl
is_other n (the.RxDel sci an) none = refl

-- a second call begins an SA above
is_above : (a : Ahead) (c : Command) (free : Option ℕ) → key_in c ≡ None →
    (beginning_above free a c).after ≡ after_calls a (second_call c (beginning_above free a c).raised)
is_above a c None none = refl
is_above a c (Some n) none = is_call a (beginning_at n c) (is_other n c none)

is_calls : (a : Ahead) (c : Command) (r : Option Refusal) → key_in c ≡ None →
    (unless_too_low c r a).after ≡ after_calls a (second_call c (unless_too_low c r a).raised)
is_calls a c None none = refl
is_calls a c (Some by.PnFloor) none = is_above a c (first_free a c) none
is_calls a c (Some by.KeyLength) none = refl
is_calls a c (Some by.Offset) none = refl
is_calls a c (Some by.KeyNumberUsed) none = refl
is_calls a c (Some by.KeyRepeated) none = refl
is_calls a c (Some by.NoKey) none = refl
is_calls a c (Some by.KeyRetired) none = refl
is_calls a c (Some by.KeyInUse) none = refl
is_calls a c (Some by.OwnSci) none = refl
is_calls a c (Some by.ScTaken) none = refl
is_calls a c (Some by.ScFull) none = refl
is_calls a c (Some by.NoSc) none = refl
is_calls a c (Some by.AnTaken) none = refl
is_calls a c (Some by.NoSa) none = refl
is_calls a c (Some by.PnRange) none = refl
is_calls a c (Some by.PnLower) none = refl
is_calls a c (Some by.SsciOwn) none = refl
is_calls a c (Some by.Window) none = refl
is_calls a c (Some by.SciForm) none = refl
is_calls a c (Some by.Exhausted) none = refl

-- a key is one call; it has no second one
is_renewal : (key : NewKey) (r : Option Refusal) (a : Ahead) → (unless_too_low (the.Key key) r a).after ≡ a
is_renewal key None a = refl
is_renewal key (Some by.PnFloor) a = refl
is_renewal key (Some by.KeyLength) a = refl
is_renewal key (Some by.Offset) a = refl
is_renewal key (Some by.KeyNumberUsed) a = refl
is_renewal key (Some by.KeyRepeated) a = refl
is_renewal key (Some by.NoKey) a = refl
is_renewal key (Some by.KeyRetired) a = refl
is_renewal key (Some by.KeyInUse) a = refl
is_renewal key (Some by.OwnSci) a = refl
is_renewal key (Some by.ScTaken) a = refl
is_renewal key (Some by.ScFull) a = refl
is_renewal key (Some by.NoSc) a = refl
is_renewal key (Some by.AnTaken) a = refl
is_renewal key (Some by.NoSa) a = refl
is_renewal key (Some by.PnRange) a = refl
is_renewal key (Some by.PnLower) a = refl
is_renewal key (Some by.SsciOwn) a = refl
is_renewal key (Some by.Window) a = refl
is_renewal key (Some by.SciForm) a = refl
is_renewal key (Some by.Exhausted) a = refl

by_calls : (e : Ahead) (c : Command) → key_in c ≡ None → (loaded e (Some c)).after
    ≡ after_calls e (calls_with None c (loaded e (Some c)).raised)
by_calls e c none =
    is_calls (carried_out e c).1 c (carried_out e c).0 none
    ∙ ap (λ it. after_calls it (second_call c (loaded e (Some c)).raised)) (is_call e c none)

-- what one command leaves
one_loaded : (e : Ahead) (c : Option Command) → (loaded e c).after ≡ after_calls e (calls_of e c)
one_loaded e None = refl
one_loaded e (Some (the.Key key)) = is_renewal key (carried_out e (the.Key key)).0 (carried_out e (the.Key key)).1
one_loaded e (Some (the.Protect on)) = by_calls e (the.Protect on) refl
one_loaded e (Some (the.Validate mode)) = by_calls e (the.Validate mode) refl
one_loaded e (Some (the.Replay protect window)) = by_calls e (the.Replay protect window) refl
one_loaded e (Some (the.Tag form)) = by_calls e (the.Tag form) refl
one_loaded e (Some (the.Retire key)) = by_calls e (the.Retire key) refl
one_loaded e (Some (the.TxSa an key next conf)) = by_calls e (the.TxSa an key next conf) refl
one_loaded e (Some (the.TxOn an)) = by_calls e (the.TxOn an) refl
one_loaded e (Some (the.TxOff an)) = by_calls e (the.TxOff an) refl
one_loaded e (Some (the.TxDel an)) = by_calls e (the.TxDel an) refl
one_loaded e (Some (the.RxSc sci)) = by_calls e (the.RxSc sci) refl
one_loaded e (Some (the.RxScDel sci)) = by_calls e (the.RxScDel sci) refl
one_loaded e (Some (the.RxSa sci an key ssci lowest)) = by_calls e (the.RxSa sci an key ssci lowest) refl
one_loaded e (Some (the.RxOn sci an)) = by_calls e (the.RxOn sci an) refl
one_loaded e (Some (the.RxOff sci an)) = by_calls e (the.RxOff sci an) refl
one_loaded e (Some (the.RxLow sci an pn)) = by_calls e (the.RxLow sci an pn) refl
one_loaded e (Some (the.RxDel sci an)) = by_calls e (the.RxDel sci an) refl

pub all_loaded : (e : Ahead) (cs : List (Option Command)) → after_all e cs ≡ after_calls e (calls_of_all e cs)
all_loaded e [] = refl
all_loaded e (c ∷ cs) =
    all_loaded (loaded e c).after cs
    ∙ ap (λ it. after_calls it (calls_of_all (loaded e c).after cs)) (one_loaded e c)
    ∙ sym (after_both e (calls_of e c) (calls_of_all (loaded e c).after cs))
