-- What a run accepts at a window of 0 is at or below what may have been accepted from the SA, and reserved: so no SA is
-- created again at or below it.
use Rattle.macsec_restarts.proofs.{
  AheadEnds.{ahead_row_step, past_of, row_end},
  AheadInside.{reserved_now, step_inside},
  Names.{[], ◌+◌, ◌==◌, ◌^◌, ◌||◌, ◌∙◌, ◌∷◌, ◌≡◌, ◌≤◌, ◌⊎◌, Ahead, ahead_step, All-contains, arith, Bool},
  Names.{contained, Delivery, end_of_row, endpoint_input, EndpointLaws, eq-eqb, false, frame_fault},
  Names.{highest, inl, inr, is_valid, IsAbove, IsDeliveredFrom, IsGivenUp, IsMember, IsSome, IsSound},
  Names.{Judgement, judgement_of, KeepingInput, lets_through, link_frame, List, None},
  Names.{or_parts, received_step, receiving_name, refl, row_name, rx_row, rx_uses, RxRow, Sci, sending_name, Some},
  Names.{State, state_after_receiving, subst, sym, the_key, true, ℕ},
  RowSteps.{found_row, is_given, IsGiven, IsLaterRow, RowStep},
}
use Rattle.macsec_rx.specs.Rows.{AreRxRows}
use Rattle.macsec_suite.specs.KeyRows.{key_row}

-- ---- keys

-- no SA uses a key that is given up
pub uses_it : (rows : List RxRow) (row : RxRow) (key : ℕ) → IsMember rows row → row.key ≡ key → rx_uses rows key ≡ true
uses_it [] _ _ there _ = absurd there
uses_it (r ∷ _) _ key (inl here) same = rw (eq-eqb r.key key (rw (here, same)))
uses_it (r ∷ rows) row key (inr later) same = or_true (r.key == key) _ (uses_it rows row key later same)
  where
    or_true : (b c : Bool) → c ≡ true → (b || c) ≡ true
    or_true true c _ = refl
    or_true false c is = is

pub not_used : (s : State) (key : ℕ) → IsGivenUp s key → (row : RxRow) → IsMember s.rx.rows row → row.key ≡ key → ⊥
not_used s key up row there same = let no = sym (uses_it _ row key there same) ∙ (or_parts _ _ up.unused).1 in cc

-- a lowest acceptable PN is at most 2^64
lowest_fits : (scis : List Sci) (rows : List RxRow) (row : RxRow) → AreRxRows scis rows → IsMember rows row →
    row.lowest ≤ 2 ^ 64
lowest_fits _ [] _ _ there = absurd there
lowest_fits scis (r ∷ rows) row are (inr later) = lowest_fits scis rows row are.2 later
lowest_fits _ (r ∷ _) _ are (inl here) = rw (← here) (omega (arith, are.0.lowest, are.0.next))

module _ (laws : EndpointLaws) where
  pub row_key : (s : State) → IsSound s → (sci : Sci) (an : ℕ) (row : RxRow) → rx_row s.rx.rows sci an ≡ Some row →
      IsSome (key_row s.keys row.key)
  row_key s sound sci an row there = All-contains (λ r. IsSome (key_row s.keys r.key)) _ row sound.rx_keys
      (contained _ row (found_row sci an _ row there))

  -- ---- what was delivered

  module _ (bytes : List ℕ) (sci : Sci) (an : ℕ) where
    -- the SA's key is in the table, and it is given up, or the PN is at most what may have been accepted from the SA
    -- under it
    pub record IsPast (a : Ahead) (d : Delivery) : Type 0 where
      pub key : ℕ
      pub there : IsSome (key_row a.k.secy.keys key)
      pub octets : (the_key a.k.secy.keys key).bytes ≡ bytes
      pub past : IsGivenUp a.k.secy key ⊎ (d.number ≤ past_of a key sci an)

    -- ---- a new delivery

    pub record IsNewPast (a after : Ahead) (d : Delivery) : Type 0 where
      pub past : IsPast after d
      pub reserved : a.ahead ≡ true → d.number ≤ highest a.taken (receiving_name (sending_name a.k.salt bytes) sci an)

    module _ (a : Ahead) (frame : List ℕ) (sound : IsSound a.k.secy)
        (sound' : IsSound (ahead_step a (endpoint_input (link_frame frame))).1.k.secy)
        (lets : lets_through a (endpoint_input (link_frame frame)) ≡ true) where
      abbrev s : State
      s = a.k.secy

      abbrev j : Judgement
      j = judgement_of s frame

      abbrev after : Ahead
      after = (ahead_step a (endpoint_input (link_frame frame))).1

      abbrev delivery_of : RxRow → List ℕ → Delivery
      delivery_of row delivered =
          record {
            bytes = (the_key s.keys row.key).bytes;
            sci = row.sci;
            an = row.an;
            number = j.number;
            frame = delivered;
          }

      -- the state after a frame without a fault
      after_is : frame_fault frame ≡ None → after.k.secy ≡ state_after_receiving s frame j
      after_is fits = rw (step_inside a (endpoint_input (link_frame frame)) true lets, received_step a.k frame, fits)

      -- the SA afterwards: its lowest acceptable PN is above the frame's
      record IsAfter (row : RxRow) : Type 0 where
        later : RxRow
        there : rx_row after.k.secy.rx.rows sci an ≡ Some later
        key : later.key ≡ row.key
        above : j.number + 1 ≤ later.lowest
        fits : later.lowest ≤ 2 ^ 64

      sa_after : (row : RxRow) (delivered : List ℕ) → frame_fault frame ≡ None → IsDeliveredFrom s frame row delivered →
          (j.step == 13) ≡ true → s.options.window ≡ 0 → row.sci ≡ sci → row.an ≡ an → IsAfter row
      sa_after row _ fits tells valid no_window is_sci is_an =
          let same = after_is fits in
          let above : IsAbove after.k.secy.rx.rows row.sci row.an (j.number + 1) =
          rw same (tells.accepted valid) in
          let ours : IsAbove after.k.secy.rx.rows sci an (j.number + 1) = rw (← is_an) (rw is_sci at above) in
          let place : rx_row s.rx.rows sci an ≡ Some row =
          rw (← is_an) (subst (λ x. rx_row s.rx.rows x row.an ≡ Some row) is_sci tells.at_place) in
          let stepped : IsLaterRow row ours.row = subst (λ o. RowStep (link_frame frame) o (Some ours.row)) place
          (rw ours.there at (ahead_row_step a (link_frame frame) sci an)) in
          let window : after.k.secy.options.window ≡ 0 = rw (same, no_window) in
          let within = All-contains (λ r. r.next ≤ r.lowest + after.k.secy.options.window)
          after.k.secy.rx.rows ours.row sound'.agrees.within_window
          (contained after.k.secy.rx.rows ours.row (found_row sci an after.k.secy.rx.rows ours.row ours.there)) in
          record {
            later = ours.row;
            there = ours.there;
            key = stepped.key;
            above = omega (arith, ours.above, within, window);
            fits = lowest_fits after.k.secy.rx.scis after.k.secy.rx.rows ours.row sound'.rx.rows
                (found_row sci an after.k.secy.rx.rows ours.row ours.there);
          }

      past_by : (row : RxRow) → IsAfter row → j.number ≤ past_of after row.key sci an
      past_by row it =
          let own : row_end (rx_row after.k.secy.rx.rows sci an) row.key ≡ end_of_row it.later =
          rw (it.there, eq-eqb it.later.key row.key it.key) in
          omega (arith, own, it.above, it.fits)

      delivery : (row : RxRow) (delivered : List ℕ) → frame_fault frame ≡ None → j.row ≡ Some row →
          j.delivered ≡ Some delivered → (j.step == 13) ≡ true → s.options.window ≡ 0 →
          (the_key s.keys row.key).bytes ≡ bytes → row.sci ≡ sci → row.an ≡ an →
          IsNewPast a after (delivery_of row delivered)
      delivery row delivered fits of_row gives valid no_window is_bytes is_sci is_an =
          let tells = laws.delivers s frame row delivered sound of_row gives in
          let same = after_is fits in
          let keys : after.k.secy.keys ≡ s.keys = rw same in
          let there = row_key s sound row.sci row.an row tells.at_place in
          let name : row_name a.k.salt s row ≡ receiving_name (sending_name a.k.salt bytes) sci an =
          rw (is_bytes, is_sci, is_an) in
          let passed = rw (fits, of_row) at lets in
          record {
            past = record {
              key = row.key;
              there = rw keys there;
              octets = rw (keys, is_bytes);
              past = inr (past_by row (sa_after row delivered fits tells valid no_window is_sci is_an));
            };
            reserved = λ on. rw name at (reserved_now a on j row valid passed).1;
          }

    pub new_delivery : (a : Ahead) (input : KeepingInput) → IsSound a.k.secy → IsSound (ahead_step a input).1.k.secy →
        lets_through a input ≡ true → is_valid a.k.secy input ≡ true → a.k.secy.options.window ≡ 0 → (g : Delivery) →
        IsGiven a.k.secy input g → g.bytes ≡ bytes → g.sci ≡ sci → g.an ≡ an → IsNewPast a (ahead_step a input).1 g
    new_delivery a _ sound sound' lets valid window _ (is_given frame row delivered fits of_row gives) =
        delivery a frame sound sound' lets row delivered fits of_row gives valid window
