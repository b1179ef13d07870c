-- Which calls of a device fail.
use Rattle.std.specs.Prelude.{ℕ, Bool, false, nat_eq, nat_le}
use Rattle.macsec_test_tools.specs.declared.failing_io.Fails.{Fails}
use Rattle.macsec_test_tools.specs.declared.failing_io.Fails.TheVariants.{Never, At, From}

-- no call, the call of this number, or each call from this number on
abbrev pub fails_at : Fails → ℕ → Bool
fails_at Never call = false
fails_at (At number) call = nat_eq call number
fails_at (From number) call = nat_le number call
