use Rattle.{
  std.proofs.Common.{◌≡◌, ◌≤◌, ◌∙◌, Ok, Err, arith, sym, true, false},
  macsec_pcapng.{proofs.Whole.{comes_again, opens_pcap, opens_pcapng}, specs.Blocks.is_section},
}
use Rattle.macsec_pcapng.proofs.captures.CaptureReader.new.Goals as goal

pub returns-in-Ok-new-clause-opened : goal.returns-in-Ok-new-clause-opened
returns-in-Ok-new-clause-opened g c =
    let enough : 24 ≤ c.in-Ok.count = omega (arith, c.if-count-lt-FRONT_LEN.false) in
    let format : is_section c.fill.new.room ≡ true = sym c.is_pcapng.ensures ∙ c.if-is_pcapng.true in
    opens_pcapng _ _ _ c.fill.new.room c.in-Ok.count (Ok c.in-Ok-new.reader) c.fill.auto.room enough
    c.in-Ok.ensures (comes_again c.fill.new.room _ _ _ _ c.chain-whole.ensures.bytes c.new.ensures.position c.new.ensures.inner) format c.in-Ok-new.ensures.opened

pub returns-in-Err-new-clause-opened : goal.returns-in-Err-new-clause-opened
returns-in-Err-new-clause-opened g c =
    let enough : 24 ≤ c.in-Ok.count = omega (arith, c.if-count-lt-FRONT_LEN.false) in
    let format : is_section c.fill.new.room ≡ true = sym c.is_pcapng.ensures ∙ c.if-is_pcapng.true in
    opens_pcapng _ _ _ c.fill.new.room c.in-Ok.count (Err c.in-Err-new.fault) c.fill.auto.room enough
    c.in-Ok.ensures (comes_again c.fill.new.room _ _ _ _ c.chain-whole.ensures.bytes c.new.ensures.position c.new.ensures.inner) format c.in-Err-new.ensures.opened

pub returns-in-Ok-new-2-clause-opened : goal.returns-in-Ok-new-2-clause-opened
returns-in-Ok-new-2-clause-opened g c =
    let enough : 24 ≤ c.in-Ok.count = omega (arith, c.if-count-lt-FRONT_LEN.false) in
    let format : is_section c.fill.new.room ≡ false = sym c.is_pcapng.ensures ∙ c.if-is_pcapng.false in
    opens_pcap _ _ _ c.fill.new.room c.in-Ok.count (Ok c.in-Ok-new-2.reader) c.fill.auto.room enough
    c.in-Ok.ensures (comes_again c.fill.new.room _ _ _ _ c.chain-whole.ensures.bytes c.new.ensures.position c.new.ensures.inner) format c.in-Ok-new-2.ensures.opened

pub returns-in-Err-new-2-clause-opened : goal.returns-in-Err-new-2-clause-opened
returns-in-Err-new-2-clause-opened g c =
    let enough : 24 ≤ c.in-Ok.count = omega (arith, c.if-count-lt-FRONT_LEN.false) in
    let format : is_section c.fill.new.room ≡ false = sym c.is_pcapng.ensures ∙ c.if-is_pcapng.false in
    opens_pcap _ _ _ c.fill.new.room c.in-Ok.count (Err c.in-Err-new-2.fault) c.fill.auto.room enough
    c.in-Ok.ensures (comes_again c.fill.new.room _ _ _ _ c.chain-whole.ensures.bytes c.new.ensures.position c.new.ensures.inner) format c.in-Err-new-2.ensures.opened
