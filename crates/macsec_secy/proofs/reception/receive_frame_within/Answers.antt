-- A tagged frame within the limits: the SCs are as they were judged, and the counters as they were counted.
use Rattle.macsec_secy.proofs.{
  Names.{◌∙◌, ◌≡◌, ap, counted_at_place, counted_by, length, None, reading, refl, rules, sym, tagged},
  ChannelsCounted.counted_again,
  LimitedFrames.tagged_side,
  ReceivedFrames.tagged_step,
}
use Rattle.macsec_secy.proofs.reception.receive_frame_within.Goals as goal

pub returns-in_ok-judged-in-Tagged-clause-step : goal.returns-in_ok-judged-in-Tagged-clause-step
returns-in_ok-judged-in-Tagged-clause-step c s parts =
    let a = c.args in
    let p = c.in-Tagged.mpdu in
    let call = c.judge_within in
    let arm = c.in_ok-judged-in-Tagged in
    let shows = arm.ensures.judged in
    let row = c.sci_and_number.ensures in
    let rows = a.rx_counters.now.items in
    let reads : reading a.frame.now ≡ tagged p = search rules in
    let after = counted_by a.options.now.mode arm.judged.verdict p.tag.e (length p.secure_data) a.counters.now in
    let counters : c.count_tagged.new.self ≡ after = rw (c.count_tagged.ensures, c.e.ensures, c.tag.ensures, c.secure_data.ensures) (refl {a = after}) in
    let counted = counted_again rows c.as_mut_slice.result.now c.count_at_row.new.rows arm.judged.verdict arm.judged.row c.as_mut_slice.ensures.value c.count_at_row.ensures in (
      tagged_side s a.limits.now a.frame.now p reads c.requires.fits a.options.now a.keys.now a.channels.now rows a.counters.now None parts arm.ensures.outside,
      tagged_step s a.frame.now call.new.out p reads c.requires.fits a.options.now a.keys.now a.channels.now _ rows _ a.counters.now c.count_tagged.new.self _ parts
          shows.verdict (row ∙ shows.row) (c.delivered_in_buffer.ensures.octets a.frame.now call.new.out ∙ shows.delivered) arm.ensures.numbers counters
          (counted ∙ ap (λ r. counted_at_place arm.judged.verdict r rows) (sym row)),
    )
