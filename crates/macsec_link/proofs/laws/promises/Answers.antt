-- The four promises: each fact is a lemma from the laws of an endpoint.
use Rattle.macsec_link.proofs.{
  Accepted.accepts_in_time,
  Deliveries.Grammar,
  EndpointLaws.EndpointLaws,
  Forged.genuine_or_forged,
  GenuineRuns.{comes_from_other, comes_in_order, keeps_window, marks_each_frame, repeats_no_iv, seals_each_frame},
  Moments.sound_up_to,
  Names.take,
}
use Rattle.macsec_link.proofs.laws.promises.Goals as goal

pub returns : goal.returns
returns c a b events sounds =
    let laws : EndpointLaws = record {
      equal_ivs = c.equal_ivs.ensures;
      keys_apart = c.keys_stay.ensures.apart;
      keys_stay = c.keys_stay.ensures.stay;
      rx_rows_apart = c.rx_rows_stay.ensures.apart;
      rx_rows_stay = c.rx_rows_stay.ensures.stay;
      protects = c.protects_frames.ensures;
      delivers = c.delivers_in_time.ensures;
    } in
    let grammar : Grammar = c.reads_by_grammar.ensures in
    let then = sound_up_to a b events sounds in
    record {
      unique_ivs = λ k. repeats_no_iv laws grammar a b (take k events) (then k);
      seals = λ k. seals_each_frame laws grammar a b (take k events) (then k);
      window = keeps_window laws grammar a b events sounds;
      marks = λ k. marks_each_frame laws grammar a b (take k events) (then k);
      origin = λ k. comes_from_other laws grammar a b (take k events) (then k);
      order = λ k. comes_in_order laws grammar a b (take k events) (then k);
      genuine_or_forged = λ k. genuine_or_forged laws grammar a b (take k events) (then k);
      acceptance = accepts_in_time c.accepts_sent.ensures laws a b events sounds;
    }
