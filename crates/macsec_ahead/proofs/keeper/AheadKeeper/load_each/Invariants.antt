use Rattle.std.proofs.Common.{◌≡◌, ◌≤◌, ◌+◌, ◌++◌, length, drop, vec_capacity, vec_len}
use Rattle.macsec_ahead.specs.Loading.{after_all, begins_of, first_refused}
use Rattle.macsec_ahead.proofs.keeper.AheadKeeper.load_each.Given as goal

-- what is left to do is done from here on, and there is space for its numbers
abbrev pub invariant-loop-place : goal.invariant-loop-place
invariant-loop-place l = record {
  refused : first_refused 0 l.fn.self l.commands ≡ first_refused l.place l.self (drop l.place l.commands);
  after : after_all l.fn.self l.commands ≡ after_all l.self (drop l.place l.commands);
  begins : l.fn.begins.items ++ begins_of l.fn.self l.commands
      ≡ l.begins.items ++ begins_of l.self (drop l.place l.commands);
  len : vec_len l.begins ≡ vec_len l.fn.begins + l.place;
  room : vec_len l.fn.begins + length l.commands ≤ vec_capacity l.begins;
}
