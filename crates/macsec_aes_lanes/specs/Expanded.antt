-- Expanded keys.
use Rattle.macsec_aes.specs.Keys.{key_bytes}
use Rattle.macsec_aes_lanes.specs.Nibbles.{AreNibbleKeys}
use Rattle.macsec_aes_lanes.specs.RoundKeys.{AreRoundKeys}
use Rattle.macsec_aes_lanes.specs.declared.schedule.ExpandedKey.{ExpandedKey}

-- the round keys are those of the key
pub record IsExpanded (s : ExpandedKey) : Type 0 where
  pub keys : AreRoundKeys s.round_keys s.wide s.rounds (key_bytes s.key)
  pub nibbles : AreNibbleKeys s.nibble_keys (key_bytes s.key)
