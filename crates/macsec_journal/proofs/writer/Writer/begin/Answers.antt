use Rattle.std.proofs.Common.{◌≡◌, ℕ, ◌-◌, List, [], ◌++◌, length, length-drop, take, take_all, drop, true, ap, arith}
use Rattle.std.proofs.Common.{◌∙◌}
use Rattle.macsec_reserve.specs.{
  Entries.reduced,
  Journal.{reservations, salt_of},
  declared.reservation.Reservation.Reservation,
}
use Rattle.macsec_journal.specs.{
  Format.{read_in, skipped},
  Machine.{Journal, begun},
  declared.step.{Step.TheVariants.Resting, Told.TheVariants.Nothing},
}
use Rattle.macsec_journal.proofs.writer.Writer.begin.Goals as goal

abbrev made : ℕ → List ℕ → List Reservation → List Reservation → Journal
made limit salt table ordered =
    record {
      salt = salt;
      limit = limit;
      table = table;
      ordered = ordered;
      end = 0;
      next = 0;
      doubt = true;
      step =
          Resting;
      told = Nothing;
    }

begun_so : (limit m : ℕ) (octets salt : List ℕ) (first found table ordered : List Reservation) → m ≡ skipped octets →
    salt ≡ salt_of octets → first ≡ [] →
    found ≡ reduced (reservations (take (length octets - m) (drop m octets))) → table ≡ first ++ found → ordered ≡ [] →
    made limit salt table ordered ≡ begun limit octets
begun_so limit m octets salt first found table ordered at own none read all nothing =
    ap (λ s. made limit s table ordered) own
    ∙ ap (λ t. made limit (salt_of octets) t ordered)
    (all ∙ ap (λ rs. rs ++ found) none ∙ read
    ∙ ap (λ xs. reduced (reservations xs)) (take_all (length octets - m) (drop m octets)
    (omega (arith, length-drop m octets)))
    ∙ ap (λ k. reduced (reservations (drop k octets))) at)
    ∙ ap (λ rs. made limit (salt_of octets) (reduced (read_in octets)) rs) nothing

pub returns-clause-begun : goal.returns-clause-begun
returns-clause-begun c =
    begun_so c.args.limit c.skipped.result c.args.octets.now c.salt_of-salt.result c.in-Ok-with_capacity.table.items
    c.in-Ok.found.items
    c.append_entries.new.entries.items c.in-Ok-with_capacity-2.ordered.items c.skipped.ensures.skipped
    c.salt_of-salt.ensures c.in-Ok-with_capacity.ensures.items
    c.in-Ok.ensures (c.append_entries.ensures.items ∙ ap (λ rs. c.in-Ok-with_capacity.table.items ++ rs)
    c.as_slice.ensures.value) c.in-Ok-with_capacity-2.ensures.items
