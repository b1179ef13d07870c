-- No argument of a plain command is global.
use Rattle.std.proofs.Common.{◌≡◌, ◌&&◌, not, Bool, true, false, refl}

pub no_globals : (a b h r : Bool) → (a && (not b && (not h && r))) ≡ true → h ≡ false
no_globals false b h r is = cc
no_globals true true h r is = cc
no_globals true false true r is = cc
no_globals true false false r is = refl
