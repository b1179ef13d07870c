-- The plaintext of the definition is delivered if the ICV is valid, and nothing otherwise. Proved from the lemmas in
-- `Opened`: opening by positions is opening by parts.
use Rattle.{
  std.proofs.Common.{◌≡◌, ℕ, ◌+◌, length, drop, ap, sym, ◌∙◌, rules, Some, None},
  macsec_suite.specs.InPlace.validated_octets,
  macsec_rx.{proofs.Opened.{LowerLaws, data_place, opened, refused}, specs.Delivered.received_octets},
}
use Rattle.macsec_rx.proofs.delivering.deliver_opened.Goals as goal

pub returns-then-validate_in_place-clause-octets :
    goal.returns-then-validate_in_place-clause-octets
returns-then-validate_in_place-clause-octets c =
    let p = c.args.mpdu.now in
    let end : ℕ = data_place p + length p.secure_data in
    let laws : LowerLaws = record { parts = c.parts_in_place.ensures; undoes = c.open_undoes_seal.ensures; lengths = c.sealed_lengths.ensures } in
    let genuine : validated_octets c.args.key.now c.args.iv.now p.tag.e (data_place p) end (received_octets p) ≡ Some c.validate_in_place.new.frame =
    rw (c.e.ensures, c.length.ensures.length, c.secure_data-data_length.ensures, c.lay_out-end.ensures.octets, c.tag-tag.ensures) at c.if-validate_in_place.ensures.genuine in
    ap Some c.deliver.ensures.octets
    ∙ sym (opened laws c.args.key.now c.args.iv.now p c.validate_in_place.new.frame (drop c.lay_out-end.result c.lay_out-end.new.out) c.lay_out-end.ensures.lengths genuine)

pub returns-else-validate_in_place-clause-octets :
    goal.returns-else-validate_in_place-clause-octets
returns-else-validate_in_place-clause-octets c =
    let p = c.args.mpdu.now in
    let end : ℕ = data_place p + length p.secure_data in
    let laws : LowerLaws = record { parts = c.parts_in_place.ensures; undoes = c.open_undoes_seal.ensures; lengths = c.sealed_lengths.ensures } in
    let false_frame : validated_octets c.args.key.now c.args.iv.now p.tag.e (data_place p) end (received_octets p) ≡ None =
    rw (c.e.ensures, c.length.ensures.length, c.secure_data-data_length.ensures, c.lay_out-end.ensures.octets, c.tag-tag.ensures) at c.if-validate_in_place.ensures.false_frame in
    sym (refused laws c.args.key.now c.args.iv.now p c.lay_out-end.ensures.lengths false_frame)

pub returns-else-validate_in_place-clause-undelivered :
    goal.returns-else-validate_in_place-clause-undelivered
returns-else-validate_in_place-clause-undelivered c = search rules
