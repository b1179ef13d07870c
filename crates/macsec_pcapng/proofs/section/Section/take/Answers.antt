-- The kept octets of a body are as many as its type of block needs. These proofs are here for speed.
use Rattle.{
  std.proofs.{Common.{◌≡◌, ◌≤◌, ◌+◌, ℕ, arith, rules}, lemmas.Bool.Decides.nat_tests},
  macsec_pcapng.specs.Blocks.kept,
}
use Rattle.macsec_pcapng.proofs.section.Section.take.Goals as goal

at_least : (len n m : ℕ) → n ≡ kept len → m ≤ len → m ≤ 262164 → m ≤ n
at_least len n m is few fits = grind (arith, nat_tests)

pub begin-requires : goal.begin-requires
begin-requires c =
    let least : 28 ≤ c.args.head.len + 12 = rw c.in-168627466.is at c.requires.least in
    at_least c.args.head.len _ 16 c.requires.front (omega (arith, least)) (omega arith)

pub describe-requires : goal.describe-requires
describe-requires c =
    let least : 20 ≤ c.args.head.len + 12 = rw c.in-1.is at c.requires.least in
    at_least c.args.head.len _ 8 c.requires.front (omega (arith, least)) (omega arith)

pub enhanced-requires : goal.enhanced-requires
enhanced-requires c =
    let least : 32 ≤ c.args.head.len + 12 = rw c.in-6.is at c.requires.least in
    at_least c.args.head.len _ 20 c.requires.front (omega (arith, least)) (omega arith)

pub obsolete-requires : goal.obsolete-requires
obsolete-requires c =
    let least : 32 ≤ c.args.head.len + 12 = rw c.in-2.is at c.requires.least in
    at_least c.args.head.len _ 20 c.requires.front (omega (arith, least)) (omega arith)

pub simple-requires : goal.simple-requires
simple-requires c =
    let least : 16 ≤ c.args.head.len + 12 = rw c.in-3.is at c.requires.least in
    at_least c.args.head.len _ 4 c.requires.front (omega (arith, least)) (omega arith)

pub returns-after-obsolete-clause-left : goal.returns-after-obsolete-clause-left
returns-after-obsolete-clause-left c = search rules
