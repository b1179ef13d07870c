-- Laws of an endpoint that can reserve ahead of receiving: of its steps, and of the keeping endpoint inside.
use Rattle.std.specs.Prelude.{◌≡◌, ◌<◌, ◌≤◌, ◌^◌, ℕ, List, true, false, None, Some, IsSome}
use Rattle.macsec_rx.specs.declared.RxRow.{RxRow}
use Rattle.macsec_rx.specs.Channels.{rx_row}
use Rattle.macsec_secy.specs.Reception.{judgement_of}
use Rattle.macsec_secy.specs.Sound.{IsSound}
use Rattle.macsec_secy.specs.Step.{Input, client_frame, link_frame}
use Rattle.macsec_reserve.specs.declared.reservation.Reservation.{Reservation}
use Rattle.macsec_reserve.specs.Journal.{highest}
use Rattle.macsec_reserve.specs.Keeping.{KeepingInput, endpoint_input, keeping_step, now_durable}
use Rattle.macsec_reserve.specs.Replay.{row_name}
use Rattle.macsec_rx.specs.declared.within.RxPn.{RxPn}
use Rattle.macsec_ahead.specs.Ahead.{Ahead, ahead_step, begins_again, dropped_not_reserved, kept, lets_through, passes}
use Rattle.macsec_ahead.specs.Ahead.{standing, wanted_to_accept}
use Rattle.macsec_ahead.specs.Ends.{end_of, end_of_row}

-- ---- the keeping endpoint inside

-- the output, and the keeping endpoint after it, are what the keeping endpoint's step gives
pub record TakesTheStep (a : Ahead) (input : KeepingInput) : Type 0 where
  pub output : (ahead_step a input).0 ≡ kept (keeping_step a.k input).0
  pub after : (ahead_step a input).1.k ≡ (keeping_step a.k input).1

-- it takes that step, or nothing changes; reports and client frames always reach the keeping endpoint
pub record StepsInside (a : Ahead) (input : KeepingInput) : Type 0 where
  pub takes : lets_through a input ≡ true → TakesTheStep a input
  pub stays : lets_through a input ≡ false → (ahead_step a input).1 ≡ a
  pub reports : (r : Reservation) → lets_through a (now_durable r) ≡ true
  pub frames : (frame : List ℕ) → lets_through a (endpoint_input (client_frame frame)) ≡ true

-- without the option it is the keeping endpoint, except where a command creates a deleted SA again too low
abbrev pub IsAsBefore : Ahead → Input → Type 0
IsAsBefore a input = a.ahead ≡ false → begins_again a input ≡ false → TakesTheStep a (endpoint_input input)

-- ---- a frame that was dropped can be presented again

-- once a durable record under the SA's name reaches the frame's PN, the frame is not dropped any more, unless an
-- earlier run may have accepted its PN
abbrev pub PassesOnceReserved : Ahead → List ℕ → RxRow → List ℕ → Reservation → Type 0
PassesOnceReserved a frame row delivered r =
    let j = judgement_of a.k.secy frame in
    IsSound a.k.secy → j.row ≡ Some row → j.delivered ≡ Some delivered →
    r.name ≡ row_name a.k.salt a.k.secy row → highest a.k.before (row_name a.k.salt a.k.secy row) < j.number →
    j.number ≤ r.last →
    standing (ahead_step a (now_durable r)).1 (link_frame frame) ≡ passes

-- a record for the SA that reaches a PN
pub record ReachesPn (a : Ahead) (n : ℕ) (row : RxRow) (r : Reservation) : Type 0 where
  pub name : r.name ≡ row_name a.k.salt a.k.secy row
  pub last : n ≤ r.last

-- the record to write next, if there is one, reaches `next`
abbrev pub WantsEnough : Ahead → ℕ → ℕ → RxRow → Reservation → Type 0
WantsEnough a amount next row r = wanted_to_accept a amount next row ≡ Some r → ReachesPn a next row r

-- the output for a frame that was dropped as not reserved names its SA and its PN; with this PN as the next one, there
-- is a record to write
pub record AsksForRecord (a : Ahead) (amount : ℕ) (row : RxRow) (number : ℕ) (at : RxPn) : Type 0 where
  pub of_sci : at.sci ≡ row.sci
  pub of_an : at.an ≡ row.an
  pub of_number : at.number ≡ number
  pub wanted : IsSome (wanted_to_accept a amount at.number row)

abbrev pub AsksWhereDropped : Ahead → List ℕ → ℕ → RxRow → RxPn → Type 0
AsksWhereDropped a frame amount row at =
    (judgement_of a.k.secy frame).row ≡ Some row → at.number < 2 ^ 64 →
    (ahead_step a (endpoint_input (link_frame frame))).0 ≡ dropped_not_reserved at →
    AsksForRecord a amount row (judgement_of a.k.secy frame).number at

-- ---- SAs that are deleted

-- where a step deletes an SA, its end is remembered
abbrev pub RemembersEnd : Ahead → KeepingInput → RxRow → Type 0
RemembersEnd a input row =
    let after = (ahead_step a input).1 in
    a.k.keeps ≡ true → rx_row a.k.secy.rx.rows row.sci row.an ≡ Some row →
    rx_row after.k.secy.rx.rows row.sci row.an ≡ None →
    end_of_row row ≤ end_of after.ended row.key row.sci row.an
