use Rattle.macsec_reserve.proofs.Prelude.{◌+◌, ◌≡◌, drop}
use Rattle.macsec_reserve.specs.Names.{place_named}
use Rattle.macsec_reserve.proofs.key_names.place_of.Given as goal

-- no key before the index has the number
abbrev pub invariant-loop-named : goal.invariant-loop-named
invariant-loop-named l =
    (l.place ≡ l.named-index)
    × (place_named l.names l.key ≡ l.place + place_named (drop l.named-index l.names) l.key)
