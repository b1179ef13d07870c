-- The endpoint is sound after each command that one of its tables carries out or refuses. `StaysSound` has one lemma
-- each for the keys, the transmit SAs and the receive SAs. The other commands have functions of their own, whose
-- contracts state it.
use Rattle.std.proofs.Common.{ap₂}
use Rattle.macsec_secy.{
  proofs.Names.{◌∙◌, ◌≡◌, refl, refusal, refusal_of, rules, state_after_command, sym},
  proofs.StaysSound.{left_by_rx, ready_by_keys, ready_by_rx, ready_by_tx},
  specs.contracts.Secy.the_view,
}
use Rattle.macsec_commands.specs.declared.command.Command.TheVariants as by
use Rattle.macsec_secy.proofs.Secy.carry_out.Goals as goal

-- ---- the keys

pub invariant_of-self-in-Key : goal.invariant_of-self-in-Key
invariant_of-self-in-Key c =
    let s = c.self-in-Key in
    let a = c.in-Key in
    let it = c.install in
    ready_by_keys (the_view s.inside) (by.Key a.key) it.new.self _ it.result _ it.ensures.refusal it.ensures.done it.ensures.unchanged refl it.ensures.rows
    s.invariant

pub returns-in-Key-clause-sound : goal.returns-in-Key-clause-sound
returns-in-Key-clause-sound c = (invariant_of-self-in-Key c).sound

pub invariant_of-self-in-Retire : goal.invariant_of-self-in-Retire
invariant_of-self-in-Retire c =
    let s = c.self-in-Retire in
    let a = c.in-Retire in
    let it = c.retire in
    let refuses : refusal_of it.result ≡ refusal (the_view s.inside) (by.Retire a.key) = search rules in
    ready_by_keys (the_view s.inside) (by.Retire a.key) it.new.self _ it.result _ refuses it.ensures.done it.ensures.unchanged refl it.ensures.rows
    s.invariant

pub returns-in-Retire-clause-sound : goal.returns-in-Retire-clause-sound
returns-in-Retire-clause-sound c = (invariant_of-self-in-Retire c).sound

-- ---- the transmit SAs

pub invariant_of-self-in-TxSa : goal.invariant_of-self-in-TxSa
invariant_of-self-in-TxSa c =
    let s = c.self-in-TxSa in
    let a = c.in-TxSa in
    let it = c.tx_sa in
    ready_by_tx (the_view s.inside) (by.TxSa a.an a.key a.next a.conf) it.new.self _ it.result _ it.ensures.refusal it.ensures.done it.ensures.unchanged refl it.ensures.rows
    s.invariant

pub returns-in-TxSa-clause-sound : goal.returns-in-TxSa-clause-sound
returns-in-TxSa-clause-sound c = (invariant_of-self-in-TxSa c).sound

pub invariant_of-self-in-TxOn : goal.invariant_of-self-in-TxOn
invariant_of-self-in-TxOn c =
    let s = c.self-in-TxOn in
    let a = c.in-TxOn in
    let it = c.tx_on in
    ready_by_tx (the_view s.inside) (by.TxOn a.an) it.new.self _ it.result _ it.ensures.refusal it.ensures.done it.ensures.unchanged refl it.ensures.rows
    s.invariant

pub returns-in-TxOn-clause-sound : goal.returns-in-TxOn-clause-sound
returns-in-TxOn-clause-sound c = (invariant_of-self-in-TxOn c).sound

pub invariant_of-self-in-TxOff : goal.invariant_of-self-in-TxOff
invariant_of-self-in-TxOff c =
    let s = c.self-in-TxOff in
    let a = c.in-TxOff in
    let it = c.tx_off in
    ready_by_tx (the_view s.inside) (by.TxOff a.an) it.new.self _ it.result _ it.ensures.refusal it.ensures.done it.ensures.unchanged refl it.ensures.rows
    s.invariant

pub returns-in-TxOff-clause-sound : goal.returns-in-TxOff-clause-sound
returns-in-TxOff-clause-sound c = (invariant_of-self-in-TxOff c).sound

pub invariant_of-self-in-TxDel : goal.invariant_of-self-in-TxDel
invariant_of-self-in-TxDel c =
    let s = c.self-in-TxDel in
    let a = c.in-TxDel in
    let it = c.tx_del in
    ready_by_tx (the_view s.inside) (by.TxDel a.an) it.new.self _ it.result _ it.ensures.refusal it.ensures.done it.ensures.unchanged refl it.ensures.rows
    s.invariant

pub returns-in-TxDel-clause-sound : goal.returns-in-TxDel-clause-sound
returns-in-TxDel-clause-sound c = (invariant_of-self-in-TxDel c).sound

-- ---- the receive SAs

pub invariant_of-self-in-RxOn : goal.invariant_of-self-in-RxOn
invariant_of-self-in-RxOn c =
    let s = c.self-in-RxOn in
    let a = c.in-RxOn in
    let it = c.rx_on in
    ready_by_rx (the_view s.inside) (by.RxOn a.sci a.an) it.new.self _ it.result _ it.ensures.refusal it.ensures.done it.ensures.unchanged refl it.ensures.channels
    s.invariant

pub returns-in-RxOn-clause-sound : goal.returns-in-RxOn-clause-sound
returns-in-RxOn-clause-sound c = (invariant_of-self-in-RxOn c).sound

pub invariant_of-self-in-RxOff : goal.invariant_of-self-in-RxOff
invariant_of-self-in-RxOff c =
    let s = c.self-in-RxOff in
    let a = c.in-RxOff in
    let it = c.rx_off in
    ready_by_rx (the_view s.inside) (by.RxOff a.sci a.an) it.new.self _ it.result _ it.ensures.refusal it.ensures.done it.ensures.unchanged refl it.ensures.channels
    s.invariant

pub returns-in-RxOff-clause-sound : goal.returns-in-RxOff-clause-sound
returns-in-RxOff-clause-sound c = (invariant_of-self-in-RxOff c).sound

pub invariant_of-self-in-RxLow : goal.invariant_of-self-in-RxLow
invariant_of-self-in-RxLow c =
    let s = c.self-in-RxLow in
    let a = c.in-RxLow in
    let it = c.rx_low in
    ready_by_rx (the_view s.inside) (by.RxLow a.sci a.an a.pn) it.new.self _ it.result _ it.ensures.refusal it.ensures.done it.ensures.unchanged refl it.ensures.channels
    s.invariant

pub returns-in-RxLow-clause-sound : goal.returns-in-RxLow-clause-sound
returns-in-RxLow-clause-sound c = (invariant_of-self-in-RxLow c).sound

pub returns-in-RxLow-clause-after : goal.returns-in-RxLow-clause-after
returns-in-RxLow-clause-after c =
    let s = c.self-in-RxLow in
    let a = c.in-RxLow in
    let it = c.rx_low in
    left_by_rx (the_view s.inside) (by.RxLow a.sci a.an a.pn) it.new.self _ it.result it.ensures.refusal it.ensures.done it.ensures.unchanged refl
    ∙ ap₂ state_after_command s.view_is (sym a.is)

-- ---- by search, for speed

pub returns-in-Protect-clause-output : goal.returns-in-Protect-clause-output
returns-in-Protect-clause-output c = search rules

pub returns-in-Protect-clause-after : goal.returns-in-Protect-clause-after
returns-in-Protect-clause-after c = search rules
