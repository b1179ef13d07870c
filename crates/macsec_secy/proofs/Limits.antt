-- The largest frame of a configuration that an endpoint can be created from.
use Rattle.{
  macsec_commands.specs.{Configs.is_bad_limit, Limits.min_max_frame, declared.fault.NewFault.NewFault},
  macsec_secy.proofs.Names.{◌≡◌, ◌≤◌, arith, Bool, config_fault, EndConfig, false, if◌then◌else◌, max_frame_len},
  macsec_secy.proofs.Names.{nat_tests, None, Option, refl, Some, true, ℕ},
}

within : (n : ℕ) → is_bad_limit n ≡ false → (min_max_frame ≤ n) × (n ≤ max_frame_len)
within n h = (grind (arith, nat_tests, h), grind (arith, nat_tests, h))

not_the_first : (b : Bool) (f : NewFault) (later : Option NewFault) → (if b then Some f else later) ≡ None → b ≡ false
not_the_first true f later e = cc
not_the_first false f later e = refl

pub good_limit : (config : EndConfig) → config_fault config ≡ None → (min_max_frame ≤ config.max_frame) × (config.max_frame ≤ max_frame_len)
good_limit config e = within config.max_frame (not_the_first (is_bad_limit config.max_frame) _ _ e)
