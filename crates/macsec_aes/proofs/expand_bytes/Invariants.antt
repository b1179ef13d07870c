use Rattle.{std.proofs.Common.{◌≡◌, ◌-◌, length, take}, macsec_aes.{proofs.Expansion.words_of, specs.Aes.key_expansion}}
use Rattle.macsec_aes.proofs.expand_bytes.Given as goal

-- the first i words are the key's
abbrev pub invariant-copy : goal.invariant-copy
invariant-copy l = (length l.words ≡ 60) × (take l.i l.words ≡ words_of l.key l.i)

-- the first i words are the key expansion's
abbrev pub invariant-extend : goal.invariant-extend
invariant-extend l = (length l.words ≡ 60) × (take l.i l.words ≡ key_expansion l.key (l.i - l.key_words))
