-- The limits of the receive SAs say which packet numbers pass.
use Rattle.{
  std.proofs.Common.{◌≡◌, ℕ, Bool, true, false, List, ◌∷◌, map, refl, ap, sym, ◌∙◌, ◌==◌, not, nat_le, if◌then◌else◌},
  std.proofs.Common.{option_map, Option, Some, None, Result, Ok, Err},
  macsec_tag.specs.Table.reading,
  macsec_rx.proofs.Limited.limits_of-map,
  macsec_rx.specs.{
    Channels.rx_row,
    Judge.Judgement,
    Within.{limits_of, outside, outside_by, outside_row, pn_of},
    declared.{RxRow.RxRow, within.{OutsidePn.{OutsidePn, TheVariants.{Above, Below}}, PnLimits.PnLimits}},
  },
  macsec_secy.proofs.{DeliveredFrom.used_at_place, JudgedBy.{judged_by, judged_row}},
  macsec_secy.specs.{
    Limited.{LimitedOutput, dropped_outside, limited_by, outside_frame, outside_unless_fault, output_of_limited},
    Limited.within,
    Reception.judgement_of,
    Sound.IsSound,
    State.State,
    Step.{frame_fault, link_frame, step},
    declared.{answers.LimitedReceived.LimitedReceived, fault.FrameFault.FrameFault},
  },
  macsec_reserve.proofs.Steps.received_step,
  macsec_reserve.specs.{
    Journal.highest,
    Keeping.{Keeping, KeepingOutput, endpoint_input, endpoint_output, with_step},
    Limited.{limited_keeping_step, with_limited},
    Replay.row_name,
  },
  macsec_ahead.specs.{
    Ahead.{Ahead, AheadOutput, Standing, ahead_by, ahead_step, before_this_run, dropped_before_this_run},
    Ahead.{dropped_not_reserved, kept, not_yet, passes, standing, standing_by, standing_of},
    Answers.output_of_ahead,
    Limits.{limits_for, limits_with},
  },
}
use Rattle.macsec_secy.specs.declared.answers.LimitedReceived.TheVariants as by

abbrev standing_as : Option OutsidePn → Standing
standing_as None = passes
standing_as (Some (Below at)) = before_this_run at
standing_as (Some (Above at)) = not_yet at

-- a packet number of an SA that is found by its SCI and number
standing_of_row : (a : Ahead) (row : RxRow) (n : ℕ) → rx_row a.k.secy.rx.rows row.sci row.an ≡ Some row →
    standing_of a row n ≡ standing_as (outside_by (limits_of (limits_with a.ahead a.k a.taken) a.k.secy.rx.rows row.sci row.an) (pn_of row n))
standing_of_row a row n there = by_ahead a.ahead
  where
    rows : List RxRow
    rows = a.k.secy.rx.rows

    before : ℕ
    before = highest a.k.before (row_name a.k.salt a.k.secy row)

    upto : ℕ
    upto = highest a.taken (row_name a.k.salt a.k.secy row)

    found : limits_of (map (limits_for a.k a.taken) rows) rows row.sci row.an ≡ Some (limits_for a.k a.taken row)
    found = limits_of-map (limits_for a.k a.taken) rows row.sci row.an ∙ ap (option_map (limits_for a.k a.taken)) there

    by_tests : (b c : Bool) → (if b then before_this_run (pn_of row n) else if c then passes else not_yet (pn_of row n)) ≡
        standing_as (if b then Some (Below (pn_of row n)) else if c then None else Some (Above (pn_of row n)))
    by_tests true c = refl
    by_tests false true = refl
    by_tests false false = refl

    by_ahead : (b : Bool) → (if not b then passes else if nat_le n before then before_this_run (pn_of row n) else if nat_le n upto then passes else not_yet (pn_of row n)) ≡
        standing_as (outside_by (limits_of (limits_with b a.k a.taken) rows row.sci row.an) (pn_of row n))
    by_ahead false = refl
    by_ahead true = by_tests (nat_le n before) (nat_le n upto) ∙ ap (λ l. standing_as (outside_by l (pn_of row n))) (sym found)

-- the standing of a frame is the side of the limits on which its packet number is
standing_is : (a : Ahead) (frame : List ℕ) → IsSound a.k.secy → standing a (link_frame frame) ≡ standing_as (outside_frame (limits_with a.ahead a.k a.taken) a.k.secy frame)
standing_is a frame sound = by_fault (frame_fault frame)
  where
    s : State
    s = a.k.secy

    j : Judgement
    j = judgement_of s frame

    limits : List PnLimits
    limits = limits_with a.ahead a.k a.taken

    by_step : (row : RxRow) → rx_row s.rx.rows row.sci row.an ≡ Some row → (b : Bool) →
        (if b then standing_of a row j.number else passes) ≡ standing_as (outside_row limits s.rx.rows (if b then Some j.number else None) (Some row))
    by_step row there true = standing_of_row a row j.number there
    by_step row there false = refl

    by_number : (o : Option ℕ) → passes ≡ standing_as (outside_row limits s.rx.rows o None)
    by_number None = refl
    by_number (Some n) = refl

    by_row : (o : Option RxRow) → j.row ≡ o → standing_by a j None o ≡ standing_as (outside_row limits s.rx.rows (if j.step == 13 then Some j.number else None) o)
    by_row None is = by_number (if j.step == 13 then Some j.number else None)
    by_row (Some row) is =
        by_step row (used_at_place s (reading frame) row sound.agrees.rx_places (judged_row s frame (reading frame) j row (judged_by s frame (reading frame)) is)) (j.step == 13)

    by_fault : (f : Option FrameFault) → standing_by a j f j.row ≡ standing_as (outside_unless_fault f (outside limits s.rx.rows j))
    by_fault (Some f) = refl
    by_fault None = by_row j.row refl

-- the output of the step within the limits
abbrev pub output_within : LimitedOutput → AheadOutput
output_within (within output) = kept (endpoint_output output)
output_within (dropped_outside (Above at)) = dropped_not_reserved at
output_within (dropped_outside (Below at)) = dropped_before_this_run at

-- what a call returns is the output of the step within the limits
pub output_as : (r : Result LimitedReceived FrameFault) → output_of_ahead r ≡ output_within (output_of_limited r)
output_as (Ok (by.Received r)) = refl
output_as (Ok (by.Outside (Above at))) = refl
output_as (Ok (by.Outside (Below at))) = refl
output_as (Err f) = refl

abbrev pub with_keeping : Ahead → LimitedOutput × Keeping → AheadOutput × Ahead
with_keeping a answer = (output_within answer.0, record a { k = answer.1 })

-- the step within the limits is the step
pub limited_is : (a : Ahead) (frame : List ℕ) → IsSound a.k.secy →
    with_keeping a (limited_keeping_step a.k (limits_with a.ahead a.k a.taken) frame) ≡ ahead_step a (endpoint_input (link_frame frame))
limited_is a frame sound =
    by_side (outside_frame (limits_with a.ahead a.k a.taken) a.k.secy frame)
    ∙ sym (ap (λ (answer : KeepingOutput × Keeping). ahead_by false (standing a (link_frame frame)) a (link_frame frame) answer) (received_step a.k frame)
    ∙ ap (λ (it : Standing). ahead_by false it a (link_frame frame) (with_step a.k (step a.k.secy (link_frame frame)))) (standing_is a frame sound))
  where
    by_side : (o : Option OutsidePn) → with_keeping a (with_limited a.k (limited_by o a.k.secy (step a.k.secy (link_frame frame)))) ≡
        ahead_by false (standing_as o) a (link_frame frame) (with_step a.k (step a.k.secy (link_frame frame)))
    by_side None = refl
    by_side (Some (Below at)) = refl
    by_side (Some (Above at)) = refl
