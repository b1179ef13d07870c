use Rattle.{
  std.proofs.Common.{◌≡◌, ◌-◌, arith},
  macsec_pcapng.proofs.Ahead.{goes_end, goes_fault, goes_found, goes_on, goes_over},
}
use Rattle.macsec_pcapng.proofs.taking.take_packet.Goals as goal

pub loop-blocks-preserved : goal.loop-blocks-preserved
loop-blocks-preserved g c =
    let loop = c.loop-blocks in
    let new = c.take_one.new in
    let octets = g.R.Read.remaining in
    goes_on c.args.blocks.now loop.blocks c.args.section.now loop.section new.section _ (octets loop.source) (octets new.source) new.room
    c.loop-blocks-test.true loop.invariant (rw c.in-Ok-Skipped.field-0-is at c.in-Ok-Skipped.ensures.taken)

pub returns-in-Ok-End-clause-taken : goal.returns-in-Ok-End-clause-taken
returns-in-Ok-End-clause-taken g c =
    let loop = c.loop-blocks in
    let new = c.take_one.new in
    let octets = g.R.Read.remaining in
    goes_end c.args.blocks.now loop.blocks (loop.blocks - 1) c.args.section.now loop.section new.section _ (octets loop.source) (octets new.source) new.room
    c.loop-blocks-test.true loop.invariant (rw c.in-Ok-End.field-0-is at c.in-Ok-End.ensures.taken)

pub returns-in-Ok-Found-clause-taken : goal.returns-in-Ok-Found-clause-taken
returns-in-Ok-Found-clause-taken g c =
    let loop = c.loop-blocks in
    let new = c.take_one.new in
    let octets = g.R.Read.remaining in
    goes_found c.args.blocks.now loop.blocks c.args.section.now loop.section new.section _ (octets loop.source) (octets new.source) new.room
    c.in-Ok-Found.packet c.loop-blocks-test.true loop.invariant (rw c.in-Ok-Found.field-0-is at c.in-Ok-Found.ensures.taken)

pub returns-in-Err-clause-taken : goal.returns-in-Err-clause-taken
returns-in-Err-clause-taken g c =
    let loop = c.loop-blocks in
    let new = c.take_one.new in
    let octets = g.R.Read.remaining in
    goes_fault c.args.blocks.now loop.blocks (loop.blocks - 1) c.args.section.now loop.section new.section _ (octets loop.source) (octets new.source) new.room
    c.in-Err.fault c.loop-blocks-test.true loop.invariant c.in-Err.ensures.taken

pub returns-clause-taken : goal.returns-clause-taken
returns-clause-taken g c =
    let loop = c.loop-blocks in
    let octets = g.R.Read.remaining in
    let none : loop.blocks ≡ 0 = omega (arith, c.loop-blocks-test.false) in
    goes_over c.args.blocks.now loop.blocks loop.blocks c.args.section.now loop.section loop.section _ (octets loop.source) (octets loop.source) loop.room
    none loop.invariant
