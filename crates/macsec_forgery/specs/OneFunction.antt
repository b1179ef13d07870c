-- Secrecy and forged tags under one function of blocks, in place of AES under a key.
use Rattle.std.specs.Prelude.{◌≡◌, ℕ, ◌≤◌, ◌<◌, List, length, map, Contains}
use Rattle.std.specs.Int.{w128, from_be_bytes}
use Rattle.std.specs.List.{All, AllZip}
use Rattle.macsec_tag.specs.Laws.{AreOctets}
use Rattle.macsec_suite.specs.CipherUses.{CipherUse}
use Rattle.macsec_secrecy.specs.BlockFunctions.{AreBlocks, tag_by, zero_block}
use Rattle.macsec_secrecy.specs.Inputs.{inputs_of_uses}
use Rattle.macsec_secrecy.specs.Pads.{AreAlike, IsMessage, Message, shown_by}
use Rattle.macsec_secrecy.specs.Runs.{message_of, shown_of}
use Rattle.macsec_hash_keys.specs.Forgeries.{IsWithin, most_keys}

-- the hash key that a function of blocks gives
abbrev pub hash_key_of : (List ℕ → List ℕ) → ℕ
hash_key_of f = from_be_bytes w128 (f zero_block)

-- a function of blocks that could have sealed: it shows of these messages what the link shows of what was sealed. At
-- each block that was not used to seal it has the known value
pub record CouldSeal (known : List ℕ → List ℕ) (seals : List CipherUse) (ns : List Message) (f : List ℕ → List ℕ) :
    Type 0 where
  pub blocks : AreBlocks f
  pub shows : shown_by f ns ≡ map shown_of seals
  pub elsewhere : (x : List ℕ) → (Contains (inputs_of_uses seals) x → ⊥) → f x ≡ known x

-- under it no tag of a try is right but of what was sealed
abbrev pub RefusesOthers : List CipherUse → List CipherUse → (List ℕ → List ℕ) → Type 0
RefusesOthers seals tries f = All (λ u. tag_by f u.iv u.aad u.ciphertext ≡ u.tag → Contains seals u) tries

-- whatever other messages were sealed that are alike: with each hash key some function could have sealed them. None
-- that could makes a try right that was not sealed, except with few hash keys, which do not depend on the messages: at
-- most n for each try
pub record HidesAndRefuses (n : ℕ) (known : List ℕ → List ℕ) (seals tries : List CipherUse) : Type 0 where
  pub forging : List ℕ
  pub few : length forging ≤ most_keys tries n
  pub hides : (ns : List Message) → All IsMessage ns → AllZip AreAlike (map message_of seals) ns
      → (hash_key : List ℕ) → length hash_key ≡ 16 → All (λ o. o < 256) hash_key
      → (f : List ℕ → List ℕ) × CouldSeal known seals ns f × (f zero_block ≡ hash_key)
  pub refuses : (ns : List Message) → AllZip AreAlike (map message_of seals) ns
      → (f : List ℕ → List ℕ) → CouldSeal known seals ns f → (Contains forging (hash_key_of f) → ⊥)
      → RefusesOthers seals tries f

-- of what was sealed under a key of octets, and of tries under it: messages of octets, of at most n blocks each
abbrev pub HidesAndRefusesIfOctets : List ℕ → List CipherUse → Type 0
HidesAndRefusesIfOctets key seals = (n : ℕ) (known : List ℕ → List ℕ) (tries : List CipherUse)
    → AreOctets key → AreBlocks known → All IsMessage (map message_of seals) → All (IsWithin n) seals
    → All (λ u. u.key ≡ key) tries → All (λ u. length u.iv ≡ 12) tries → All (IsWithin n) tries
    → HidesAndRefuses n known seals tries
