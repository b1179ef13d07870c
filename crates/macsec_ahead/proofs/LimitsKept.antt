-- Sending and receiving leave the limits of the receive SAs as they are.
use Rattle.{
  std.proofs.Common.{◌≡◌, ℕ, Bool, true, false, List, [], ◌∷◌, map, refl, ap, sym, ◌∙◌, if◌then◌else◌, Option, Some},
  std.proofs.Common.None,
  macsec_tag.specs.declared.identifiers.Sci.Sci,
  macsec_rx.specs.{
    Channels.{at_place, is_at, with_rx},
    Judge.{Judgement, accepted_number, row_accepting, rows_accepting, rows_after},
    declared.{RxRow.RxRow, within.{OutsidePn.OutsidePn, PnLimits.PnLimits}},
  },
  macsec_secy.specs.{
    Limited.{limited_by, outside_frame},
    Reception.{judgement_of, state_after_receiving},
    State.State,
    Step.{Output, client_frame, frame_fault, link_frame, received_output, sending_of, sent_output, state_after_sending},
    Step.{step, unless_fault},
    declared.fault.FrameFault.FrameFault,
  },
  macsec_reserve.proofs.{KeptNames.{found_name, names_after_sending}, Steps.by_tests},
  macsec_reserve.specs.{
    Journal.{highest, receiving_name},
    Keeping.{Keeping, endpoint_input, key_name, keeping_step, may_go},
    Limited.{limited_keeping_step, with_limited},
    Names.named,
    Replay.row_name,
    declared.{keeper.NamedKey.NamedKey, reservation.Reservation.Reservation},
  },
  macsec_ahead.specs.Limits.{limits_for, limits_with},
}

-- ---- receiving

-- an SA that accepts a packet number keeps its SCI, its association number and its key
one_accepting : (k : Keeping) (taken : List Reservation) (window n : ℕ) (sci : Sci) (an : ℕ) (rows : List RxRow) →
    map (limits_for k taken) (with_rx (row_accepting window n) sci an rows) ≡ map (limits_for k taken) rows
one_accepting k taken window n sci an [] = refl
one_accepting k taken window n sci an (row ∷ rows) =
    ap (λ l. l ∷ map (limits_for k taken) (with_rx (row_accepting window n) sci an rows)) (by_test (is_at sci an row))
    ∙ ap (λ ls. limits_for k taken row ∷ ls) (one_accepting k taken window n sci an rows)
  where
    by_test : (b : Bool) → limits_for k taken (if b then row_accepting window n row else row) ≡ limits_for k taken row
    by_test true = refl
    by_test false = refl

rows_kept : (k : Keeping) (taken : List Reservation) (window : ℕ) (number : Option ℕ) (row : Option RxRow) (rows : List RxRow) →
    map (limits_for k taken) (rows_accepting window number row rows) ≡ map (limits_for k taken) rows
rows_kept k taken window None row rows = refl
rows_kept k taken window (Some n) None rows = refl
rows_kept k taken window (Some n) (Some row) rows = one_accepting k taken window n row.sci row.an rows

received_kept : (k : Keeping) (taken : List Reservation) (frame : List ℕ) (j : Judgement) (output : Output) (f : Option FrameFault) →
    let after : State = (unless_fault f k.secy (output, state_after_receiving k.secy frame j)).1 in
    map (limits_for (record k { secy = after }) taken) after.rx.rows ≡ map (limits_for k taken) k.secy.rx.rows
received_kept k taken frame j output (Some f) = refl
received_kept k taken frame j output None = rows_kept k taken k.secy.options.window (accepted_number j) j.row k.secy.rx.rows

limited_kept : (k : Keeping) (taken : List Reservation) (frame : List ℕ) (o : Option OutsidePn) →
    let after : Keeping = (with_limited k (limited_by o k.secy (step k.secy (link_frame frame)))).1 in
    map (limits_for after taken) after.secy.rx.rows ≡ map (limits_for k taken) k.secy.rx.rows
limited_kept k taken frame None = received_kept k taken frame (judgement_of k.secy frame) (received_output frame (judgement_of k.secy frame)) (frame_fault frame)
limited_kept k taken frame (Some at) = refl

with_option : (ahead : Bool) (after k : Keeping) (taken : List Reservation) → map (limits_for after taken) after.secy.rx.rows ≡ map (limits_for k taken) k.secy.rx.rows →
    limits_with ahead after taken ≡ limits_with ahead k taken
with_option true after k taken same = same
with_option false after k taken same = refl

pub kept_receiving : (ahead : Bool) (k : Keeping) (taken : List Reservation) (limits : List PnLimits) (frame : List ℕ) →
    limits_with ahead (limited_keeping_step k limits frame).1 taken ≡ limits_with ahead k taken
kept_receiving ahead k taken limits frame =
    with_option ahead (limited_keeping_step k limits frame).1 k taken (limited_kept k taken frame (outside_frame limits k.secy frame))

-- ---- sending

-- the keys keep their names
same_key_name : (salt : List ℕ) (s : State) (frame : List ℕ) (key : ℕ) → key_name salt (step s (client_frame frame)).1.keys key ≡ key_name salt s.keys key
same_key_name salt s frame key =
    let names : List NamedKey = map (named salt) s.keys in
    sym (found_name salt (step s (client_frame frame)).1.keys names key (names_after_sending salt s frame names refl)) ∙ found_name salt s.keys names key refl

same_rows : (s : State) (frame : List ℕ) (output : Output) (f : Option FrameFault) → (unless_fault f s (output, state_after_sending s frame (sending_of s frame))).1.rx.rows ≡ s.rx.rows
same_rows s frame output None = refl
same_rows s frame output (Some f) = refl

each : (f g : RxRow → PnLimits) → ((row : RxRow) → f row ≡ g row) → (rows : List RxRow) → map f rows ≡ map g rows
each f g same [] = refl
each f g same (row ∷ rows) = ap (λ l. l ∷ map f rows) (same row) ∙ ap (λ ls. g row ∷ ls) (each f g same rows)

sent_kept : (k : Keeping) (taken : List Reservation) (frame : List ℕ) →
    let after : State = (step k.secy (client_frame frame)).1 in
    map (limits_for (record k { secy = after }) taken) after.rx.rows ≡ map (limits_for k taken) k.secy.rx.rows
sent_kept k taken frame =
    let after : State = (step k.secy (client_frame frame)).1 in
    ap (λ rows. map (limits_for (record k { secy = after }) taken) rows) (same_rows k.secy frame (sent_output frame (sending_of k.secy frame).leaving) (frame_fault frame))
    ∙ each (limits_for (record k { secy = after }) taken) (limits_for k taken)
    (λ row. ap (λ name. record { before = highest k.before (receiving_name name row.sci row.an); upto = highest taken (receiving_name name row.sci row.an) }) (same_key_name k.salt k.secy frame row.key))
    k.secy.rx.rows

pub kept_sending : (ahead : Bool) (k : Keeping) (taken : List Reservation) (frame : List ℕ) →
    limits_with ahead (keeping_step k (endpoint_input (client_frame frame))).1 taken ≡ limits_with ahead k taken
kept_sending ahead k taken frame = with_option ahead (keeping_step k (endpoint_input (client_frame frame))).1 k taken (by_test (may_go k (client_frame frame)))
  where
    by_test : (go : Bool) → let after : Keeping = (by_tests false go k (step k.secy (client_frame frame))).1 in
        map (limits_for after taken) after.secy.rx.rows ≡ map (limits_for k taken) k.secy.rx.rows
    by_test true = sent_kept k taken frame
    by_test false = refl
