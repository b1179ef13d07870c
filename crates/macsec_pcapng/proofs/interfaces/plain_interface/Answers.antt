-- A separate equation for each number. This proof is here for speed.
use Rattle.{
  std.proofs.{Common.{◌≡◌, ◌∙◌, ◌-◌, ℕ, List, ap, drop, length, take, None}, lemmas.List.take_rest},
  macsec_pcap.specs.{Numbers.number, declared.form.Order.Order},
  macsec_pcapng.specs.{Interfaces.plain_interface, declared.interfaces.Interface.Interface},
}
use Rattle.macsec_pcapng.proofs.interfaces.plain_interface.Goals as goal

abbrev plain : ℕ → ℕ → Interface
plain kind snap = record { link_type = kind; snap_len = snap; resolution = None; offset = None }

is_plain : (order : Order) (front : List ℕ) (kind snap : ℕ) → kind ≡ number order 2 front →
    snap ≡ number order 4 (take (length front - 4) (drop 4 front)) → plain kind snap ≡ plain_interface order front
is_plain order front kind snap first second =
    ap (λ n. plain n snap) first
    ∙ ap (λ n. plain (number order 2 front) n) (second ∙ ap (number order 4) (take_rest front 4))

pub returns : goal.returns
returns c = is_plain c.args.order c.args.front.now _ _ c.u16.ensures c.u32.ensures
