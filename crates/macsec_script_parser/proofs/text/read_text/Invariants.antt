use Rattle.std.{proofs.Common.{◌≤◌, length}, specs.Io.KnownBytes.Consumes}
use Rattle.macsec_script_parser.proofs.text.read_text.Given as goal

abbrev pub invariant-loop : goal.invariant-loop
invariant-loop g l =
    Consumes (g.R.Read.remaining l.initial.reader) (g.R.Read.remaining l.reader) l.text.items ×
    (l.counter ≤ length l.text.items) × (length l.text.items ≤ 1048576)
