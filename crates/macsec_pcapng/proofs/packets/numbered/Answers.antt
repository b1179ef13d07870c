-- A separate equation for each number of the packet, so that the prover refuses a wrong number quickly.
use Rattle.{
  std.proofs.{
    Common.{◌≡◌, ◌∙◌, ◌-◌, ◌<◌, ◌≤◌, ℕ, zero, suc, List, [], ◌∷◌, Option, Some, None, Result, Err, false, true, ap},
    Common.{arith, drop, get_or, length, refl, sym, take, Bool, nat_lt},
    lemmas.{Bool.Decides.nat_tests, List.take_rest},
  },
  std.specs.List.slice_get,
  macsec_pcap.specs.{Numbers.number, declared.{fault.PcapFault.{PcapFault, TheVariants.NoInterface}, form.Order.Order}},
  macsec_pcapng.proofs.OtherPackets.other_fits,
  macsec_pcapng.specs.{
    Blocks.kept,
    Interfaces.is_ethernet,
    Packets.{enhanced_on, other_packet, packet_of, ticks},
    Times.time_of,
    declared.{interfaces.Interface.Interface, packets.Packet.Packet, times.Time.Time},
  },
}
use Rattle.macsec_pcapng.proofs.packets.numbered.Goals as goal

found_at : {X : Type 0} (xs : List X) (n : ℕ) (x : X) → n < length xs → ((d : X) → x ≡ get_or xs n d) →
    slice_get xs n ≡ Some x
found_at [] n x within is = absurd (omega (arith, within))
found_at (y ∷ ys) zero x within is = ap Some (sym (is x))
found_at (y ∷ ys) (suc n) x within is = found_at ys n x (omega (arith, within)) is

none_at : {X : Type 0} (xs : List X) (n : ℕ) → length xs ≤ n → slice_get xs n ≡ None
none_at [] zero past = refl
none_at [] (suc n) past = refl
none_at (y ∷ ys) zero past = absurd (omega (arith, past))
none_at (y ∷ ys) (suc n) past = none_at ys n (omega (arith, past))

not_below : (n m : ℕ) → false ≡ nat_lt n m → m ≤ n
not_below n m test = grind (arith, nat_tests)

no_interface : (has : Bool) (interfaces : List Interface) (n : ℕ) (order : Order) (len : ℕ) (front : List ℕ) →
    false ≡ nat_lt n (length interfaces) → Err NoInterface ≡ enhanced_on has (slice_get interfaces n) order len front
no_interface has interfaces n order len front past =
    let none : slice_get interfaces n ≡ None = none_at interfaces n (not_below n (length interfaces) past) in
    rw none refl

is_enhanced : (has : Bool) (interfaces : List Interface) (k : ℕ) (order : Order) (len : ℕ) (front : List ℕ) (interface : Interface)
    (time : Option Time) (captured original : ℕ) (answer : Result Packet PcapFault) →
    slice_get interfaces k ≡ Some interface → is_ethernet interface ≡ true →
    time ≡ time_of interface (ticks order front) →
    captured ≡ number order 4 (drop 12 front) →
    original ≡ number order 4 (take (length front - 16) (drop 16 front)) →
    answer ≡ packet_of time len 20 captured original → answer ≡ enhanced_on has (slice_get interfaces k) order len front
is_enhanced has interfaces k order len front interface time captured original answer found ethernet at some all is =
    let told = time_of interface (ticks order front) in
    is ∙ ap (λ t. packet_of t len 20 captured original) at
    ∙ ap (λ n. packet_of told len 20 n original) some
    ∙ ap (λ n. packet_of told len 20 (number order 4 (drop 12 front)) n) (all ∙ ap (number order 4) (take_rest front 16))
    ∙ rw (found, ethernet) refl

not_ethernet : (has : Bool) (interfaces : List Interface) (k : ℕ) (order : Order) (len : ℕ) (front : List ℕ) (interface : Interface) →
    slice_get interfaces k ≡ Some interface → is_ethernet interface ≡ false →
    other_packet has interface.link_type ≡ enhanced_on has (slice_get interfaces k) order len front
not_ethernet has interfaces k order len front interface found other = rw (found, other) refl

pub returns-in_default-clause-packet : goal.returns-in_default-clause-packet
returns-in_default-clause-packet c =
    no_interface c.args.has_ethernet c.args.interfaces.now c.args.number c.args.order c.args.len c.args.front.now c.in_default.ensures.lookup.0

pub returns-then-not-is_ethernet-clause-packet : goal.returns-then-not-is_ethernet-clause-packet
returns-then-not-is_ethernet-clause-packet c =
    let interface = c.in-Some.interface.now in
    let at = c.in-Some.ensures.lookup.3 in
    c.other_packet.ensures ∙ not_ethernet c.args.has_ethernet c.args.interfaces.now c.args.number c.args.order c.args.len c.args.front.now interface
    (found_at _ _ interface at.0 at.1)
    (sym c.is_ethernet.ensures ∙ c.if-not-is_ethernet.true)

pub returns-then-not-is_ethernet-clause-fits : goal.returns-then-not-is_ethernet-clause-fits
returns-then-not-is_ethernet-clause-fits c =
    rw c.other_packet.ensures (other_fits c.args.has_ethernet c.in-Some.interface.now.link_type (kept c.args.len))

pub returns-clause-packet : goal.returns-clause-packet
returns-clause-packet c =
    let interface = c.in-Some.interface.now in
    let at = c.in-Some.ensures.lookup.3 in
    is_enhanced c.args.has_ethernet c.args.interfaces.now c.args.number c.args.order c.args.len c.args.front.now interface _ _ _ c.packet_of.result
    (found_at _ _ interface at.0 at.1)
    (sym c.is_ethernet.ensures ∙ c.if-not-is_ethernet.false)
    (c.time-time.ensures ∙ ap (time_of interface) c.ticks.ensures)
    c.captured_length-captured.ensures c.u32.ensures c.packet_of.ensures.packet
