use Rattle.{
  std.proofs.Common.{◌∙◌, ap, take, false},
  macsec_pcapng.{proofs.OneTaken.{header_fault, header_made, header_none, header_other}, specs.Sections.new_section},
}
use Rattle.macsec_pcapng.proofs.reader.read_header.Goals as goal

pub returns-in-Ok-None : goal.returns-in-Ok-None
returns-in-Ok-None g c =
    let octets = g.R.Read.remaining c.take_block.new.source in
    header_none _ octets octets c.take_block.new.room (rw c.in-Ok-None.field-0-is at c.in-Ok-None.ensures.block)

pub returns-in-Err : goal.returns-in-Err
returns-in-Err g c =
    let octets = g.R.Read.remaining c.take_block.new.source in
    rw c.in_header.ensures (header_fault _ octets octets c.take_block.new.room c.in-Err.fault c.in-Err.ensures.block)

pub returns-then-head-ne-SECTION_HEADER : goal.returns-then-head-ne-SECTION_HEADER
returns-then-head-ne-SECTION_HEADER g c =
    let octets = g.R.Read.remaining c.take_block.new.source in
    let some = c.in-Ok-Some in
    header_other _ octets octets c.take_block.new.room some.head c.if-head-ne-SECTION_HEADER.true (rw some.field-0-is at some.ensures.block)

pub returns : goal.returns
returns g c =
    let some = c.in-Ok-Some in
    header_made _ _ c.take_block.new.room some.head c.new.result c.if-head-ne-SECTION_HEADER.false
    (c.new.ensures ∙ ap (λ n. new_section false some.head.order (take n c.take_block.new.room)) c.kept.ensures.kept) (rw some.field-0-is at some.ensures.block)
