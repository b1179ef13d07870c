use Rattle.{
  std.proofs.{Common.{◌≡◌, ◌∙◌, ◌≤◌, ℕ, List, ap, drop, refl, sym, false, nat_lt, le-ltb}, lemmas.List.take_rest},
  macsec_pcap.specs.declared.form.Order.Order,
  macsec_pcapng.specs.{Interfaces.{interface_of, options_in, plain_interface}, Limits.{max_options, room_length}},
}
use Rattle.macsec_pcapng.proofs.interfaces.interface_of.Goals as goal

-- a body that is kept completely
interface_of-kept : (order : Order) (len : ℕ) (front : List ℕ) → len ≤ room_length →
    interface_of order len front ≡ options_in order max_options (drop 8 front) (plain_interface order front)
interface_of-kept order len front few =
    let test : nat_lt room_length len ≡ false = le-ltb room_length len few in rw test refl

pub returns : goal.returns
returns c =
    let order = c.args.order in
    let front = c.args.front.now in
    c.with_options.ensures
    ∙ ap (λ xs. options_in order max_options xs c.plain_interface.result) (take_rest front 8)
    ∙ ap (options_in order max_options (drop 8 front)) c.plain_interface.ensures
    ∙ sym (interface_of-kept order c.args.len front c.if-len-gt-ROOM_LEN.false)
