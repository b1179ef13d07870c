-- The keeping endpoint takes the new key or refuses it; the ends under the key's number are removed if it takes it.
use Rattle.std.proofs.Common.{◌≡◌, ap, sym, true, ◌∙◌}
use Rattle.std.specs.Prelude.{Option, Some, None}
use Rattle.macsec_suite.specs.declared.key_row.NewKey.{NewKey}
use Rattle.macsec_suite.specs.declared.refusal.Refusal.{Refusal}
use Rattle.macsec_suite.specs.Refusals.{refusal_of}
use Rattle.macsec_reserve.specs.Forgetting.{as_taken}
use Rattle.macsec_reserve.specs.Keeping.{Keeping}
use Rattle.macsec_reserve.specs.Renewing.{forgetting_refusal, forgetting_after_renewing, keeping_renewed}
use Rattle.macsec_reserve.specs.Renewing as reserve
use Rattle.macsec_ahead.specs.contracts.keeper.AheadKeeper.{the_view}
use Rattle.macsec_ahead.specs.Ahead.{Ahead}
use Rattle.macsec_ahead.specs.Ends.{Ends, without_key}
use Rattle.macsec_ahead.specs.Renewing.{ahead_after_renewing, unless_refused}
use Rattle.macsec_ahead.proofs.keeper.AheadKeeper.renew_key.Goals as goal

-- the endpoint after the key is taken
taken_by : (a : Ahead) (key : NewKey) (k : Keeping) (ended : Ends) → None ≡ forgetting_refusal a.k key → k ≡ forgetting_after_renewing a.k key → ended ≡ without_key key.number a.ended →
    record a { k = k; ended = ended; renews = true } ≡ ahead_after_renewing a key
taken_by a key k ended e is_k is_ended =
    ap (λ (x : Keeping). record a { k = x; ended = ended; renews = true }) (is_k ∙ ap (λ (r : Option Refusal). reserve.unless_refused r (as_taken a.k key) a.k) (sym e))
    ∙ ap (λ (t : Ends). record a { k = keeping_renewed (as_taken a.k key) a.k; ended = t; renews = true }) is_ended
    ∙ ap (λ (r : Option Refusal). unless_refused r key a) e

-- and after it is refused
refused_by : (a : Ahead) (key : NewKey) (k : Keeping) (refusal : Refusal) → Some refusal ≡ forgetting_refusal a.k key → k ≡ forgetting_after_renewing a.k key →
    record a { k = k } ≡ ahead_after_renewing a key
refused_by a key k refusal e is_k =
    ap (λ (x : Keeping). record a { k = x }) (is_k ∙ ap (λ (r : Option Refusal). reserve.unless_refused r (as_taken a.k key) a.k) (sym e))
    ∙ ap (λ (r : Option Refusal). unless_refused r key a) e

pub returns-in-Ok-clause-refusal : goal.returns-in-Ok-clause-refusal
returns-in-Ok-clause-refusal c =
    sym (ap refusal_of c.in-Ok.is) ∙ c.in_ok-renew_forgetting.ensures.refusal ∙ ap (λ (x : Ahead). forgetting_refusal x.k c.args.key.now) c.self.view_is

pub returns-in-Ok-clause-after : goal.returns-in-Ok-clause-after
returns-in-Ok-clause-after c =
    taken_by (the_view c.self.inside) c.args.key.now c.renew_forgetting.new.self c.remove.new.self
    (sym (ap refusal_of c.in-Ok.is) ∙ c.in_ok-renew_forgetting.ensures.refusal) c.in_ok-renew_forgetting.ensures.after c.remove.ensures
    ∙ ap (λ (x : Ahead). ahead_after_renewing x c.args.key.now) c.self.view_is

pub returns-in-Err-clause-refusal : goal.returns-in-Err-clause-refusal
returns-in-Err-clause-refusal c =
    sym (ap refusal_of c.in-Err.is) ∙ c.in_ok-renew_forgetting.ensures.refusal ∙ ap (λ (x : Ahead). forgetting_refusal x.k c.args.key.now) c.self.view_is

pub returns-in-Err-clause-after : goal.returns-in-Err-clause-after
returns-in-Err-clause-after c =
    refused_by (the_view c.self.inside) c.args.key.now c.renew_forgetting.new.self c.in-Err.refusal
    (sym (ap refusal_of c.in-Err.is) ∙ c.in_ok-renew_forgetting.ensures.refusal) c.in_ok-renew_forgetting.ensures.after
    ∙ ap (λ (x : Ahead). ahead_after_renewing x c.args.key.now) c.self.view_is
