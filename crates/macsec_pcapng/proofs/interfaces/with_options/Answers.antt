use Rattle.std.proofs.{Common.{◌≡◌, ◌<◌, ◌+◌, ◌-◌, ◌∙◌, ap, arith, sym}, lemmas.List.take_rest}
use Rattle.macsec_pcapng.{
  proofs.Options.{options_in-end, options_in-fault, options_in-more, options_in-none},
  specs.{Interfaces.options_in, Limits.max_options},
}
use Rattle.macsec_pcapng.proofs.interfaces.with_options.Goals as goal

pub loop-preserved : goal.loop-preserved
loop-preserved c =
    let some = c.in-Ok-Some in
    let below : c.loop.counter < max_options = omega arith in
    let found = sym (rw some.field-0-is at some.ensures.option) in
    c.loop.invariant
    ∙ options_in-more c.args.order max_options c.loop.counter c.loop.rest.now c.loop.interface some.described some.len below found
    ∙ ap (λ xs. options_in c.args.order (max_options - (c.loop.counter + 1)) xs some.described) (sym (take_rest c.loop.rest.now some.len))

pub returns-in-Ok-None : goal.returns-in-Ok-None
returns-in-Ok-None c =
    let none = c.in-Ok-None in
    let below : c.loop.counter < max_options = omega arith in
    let ends = sym (rw none.field-0-is at none.ensures.option) in
    sym (c.loop.invariant ∙ options_in-none c.args.order max_options c.loop.counter c.loop.rest.now c.loop.interface below ends)

pub returns-in-Err : goal.returns-in-Err
returns-in-Err c =
    let below : c.loop.counter < max_options = omega arith in
    sym (c.loop.invariant ∙ options_in-fault c.args.order max_options c.loop.counter c.loop.rest.now c.loop.interface c.in-Err.fault below (sym c.in-Err.ensures.option))

pub returns : goal.returns
returns c =
    let left : max_options - c.loop.counter ≡ 0 = omega arith in
    sym (c.loop.invariant ∙ ap (λ n. options_in c.args.order n c.loop.rest.now c.loop.interface) left ∙ options_in-end c.args.order c.loop.rest.now c.loop.interface)
