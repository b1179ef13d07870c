use Rattle.std.proofs.Common.{◌≡◌, ◌≤◌, ◌+◌, ◌++◌, length, drop, vec_capacity, vec_len}
use Rattle.macsec_c_calls.specs.Loading.{commands_of, first_fault}
use Rattle.macsec_c_calls.proofs.loading.append_commands.Given as goal

-- what is left is read from here on, and there is space for its commands
abbrev pub invariant-loop-place : goal.invariant-loop-place
invariant-loop-place l = record {
  fault : first_fault 0 l.rows ≡ first_fault l.place (drop l.place l.rows);
  commands : l.fn.commands.items ++ commands_of l.rows ≡ l.commands.items ++ commands_of (drop l.place l.rows);
  len : vec_len l.commands ≡ vec_len l.fn.commands + l.place;
  room : vec_len l.fn.commands + length l.rows ≤ vec_capacity l.commands;
}
