-- The invariant of a schedule: the words of the key expansion, and the number of rounds.
use Rattle.std.specs.Prelude.{◌≡◌, ℕ, ◌+◌, ◌-◌, ◌*◌, List, length, take, ◌⊎◌}
use Rattle.std.specs.List.{concat}
use Rattle.macsec_aes.specs.Aes.{schedule_of}

-- the key of a schedule with these words and this number of rounds
abbrev pub key_of : List (List ℕ) → ℕ → List ℕ
key_of words rounds = concat (take (rounds - 6) words)

-- the words begin with the schedule of a key of the right length
pub record IsSchedule (words : List (List ℕ)) (rounds : ℕ) : Type 0 where
  pub lengths : (rounds ≡ 10) ⊎ (rounds ≡ 14)
  pub key_length : length (key_of words rounds) ≡ 4 * (rounds - 6)
  pub expanded : take (4 * (rounds + 1)) words ≡ schedule_of (key_of words rounds)
