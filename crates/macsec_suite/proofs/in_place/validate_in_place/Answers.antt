-- The result of opening, true or false, is what the definition gives for the whole frame. Proved from the contracts of
-- the calls with `validated_in_place` of `ClearParts`.
use Rattle.std.{
  proofs.Common.{◌≡◌, ◌+◌, ◌++◌, List, ℕ, Bool, true, false, refl, ap, min, ◌∙◌, Option, option_map, if◌then◌else◌},
  proofs.Common.{Some, None},
  specs.Bool.{OnTrue, OnFalse},
}
use Rattle.macsec_suite.{proofs.ClearParts.validated_in_place, specs.InPlace.validated_octets}
use Rattle.macsec_suite.proofs.in_place.validate_in_place.Goals as goal

on_true : (b : Bool) (put : List ℕ → List ℕ) (text : List ℕ) {o : Option (List ℕ)} →
    o ≡ option_map put (if b then Some text else None) → OnTrue b (o ≡ Some (put text))
on_true true put text is = is
on_true false put text is = tt

on_false : (b : Bool) (put : List ℕ → List ℕ) (text : List ℕ) {o : Option (List ℕ)} →
    o ≡ option_map put (if b then Some text else None) → OnFalse b (o ≡ None)
on_false true put text is = tt
on_false false put text is = is

-- the frame with this text in place of the opened one
abbrev put : goal.After-slice_known-4-1 → List ℕ → List ℕ
put c text = c.split_at_mut-aad.result.0.now ++ text ++ c.split_at_mut-body.result.1.now

opened : (c : goal.After-slice_known-4-1) →
    validated_octets
    c.args.key.now
    c.args.iv.now
    c.args.e
    (12 + c.args.tag_len)
    (12 + c.args.tag_len + c.args.data_len)
    c.args.frame.now ≡
    option_map (put c) (if c.open.result then Some c.open.new.text else None)
opened c =
    let body = c.split_at_mut-body.ensures in
    let rest = c.split_at_mut-aad.ensures in
    validated_in_place c.args.key.now c.args.iv.now c.args.e (12 + c.args.tag_len)
    (12 + c.args.tag_len + c.args.data_len) c.args.data_len c.args.frame.now body.front body.back body.front_len refl
    (c.clear_length.ensures ∙ ap (λ k. if c.args.e then min k.offset c.args.data_len else c.args.data_len) c.key.view_is) rest.front rest.back (ap (λ k. k.bytes) c.key.view_is) c.copy_from_slice.ensures.after
    c.open.ensures.gives

pub returns-clause-genuine : goal.returns-clause-genuine
returns-clause-genuine c = on_true c.open.result (put c) c.open.new.text (opened c)

pub returns-clause-false_frame : goal.returns-clause-false_frame
returns-clause-false_frame c = on_false c.open.result (put c) c.open.new.text (opened c)
