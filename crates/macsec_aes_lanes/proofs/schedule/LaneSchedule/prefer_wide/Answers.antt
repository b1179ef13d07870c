use Rattle.macsec_aes_lanes.proofs.{Names.key_bytes, RoundKeysAt.other_width}
use Rattle.macsec_aes_lanes.proofs.schedule.LaneSchedule.prefer_wide.Goals as goal

pub invariant_of-self : goal.invariant_of-self
invariant_of-self c =
    let s = c.self.inside.expanded in
    record {
      keys = other_width c.args.wide s.wide s.rounds (key_bytes s.key) s.round_keys c.move_rows.new.round_keys
          c.if-self-wide.true c.self.invariant.keys c.move_rows.ensures;
      nibbles = c.self.invariant.nibbles;
    }
