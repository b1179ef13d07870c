-- What an SA seals for a client frame is the use of the cipher by the link frame that is made. The frame stays on the
-- link, and the key in the end's table.
use Rattle.macsec_secy.specs.Kept.{IsLaterKey}
use Rattle.macsec_link.proofs.{
  Names.{[], ◌∙◌, ◌∷◌, ◌≡◌, ◌≤◌, AreSound, arith, End, end_of, EndConfig, Event, fault_of, in_a_row, InstalledKey},
  Names.{IsSound, IsUseFor, KeyStaysIn, length, List, new_world, None, refl, row_noting, Send, sending_of, slice_get},
  Names.{Some, StaysSound, suc, take, the_key, TxRow, world_after, world_at, world_step, WorldState, zero, ℕ},
  EndpointLaws.EndpointLaws,
  Seals.{ends_stay, fits, itself, sound_end, state_after},
  Sends.sent_at,
  SentStands.{makes_frame, stands_on_link, stays_on_link},
}
use Rattle.macsec_link.specs.UniqueIvs.{parts_made}

-- ---- what holds after event k, and is kept by each step, holds at the end

module _ (P : WorldState → Type 0) (keeps : (w : WorldState) (event : Event) → IsSound w → P w → P (world_step w event).1) where
  pub kept_by_all : (w : WorldState) (events : List Event) → StaysSound w events → P w → P (world_after w events)
  kept_by_all w [] sounds it = it
  kept_by_all w (event ∷ events) sounds it = kept_by_all (world_step w event).1 events (λ n. sounds (suc n)) (keeps w event (sounds 0) it)

  kept_after : (w : WorldState) (events : List Event) (k : ℕ) (event : Event) → StaysSound w events → slice_get events k ≡ Some event →
      P (world_step (world_after w (take k events)) event).1 → P (world_after w events)
  kept_after w (x ∷ events) zero event sounds there it =
      let same : event ≡ x = cc in
      kept_by_all (world_step w x).1 events (λ n. sounds (suc n)) (rw same at it)
  kept_after w (x ∷ events) (suc k) event sounds there it = kept_after (world_step w x).1 events k event (λ n. sounds (suc n)) there it
  kept_after w events k event sounds there it = cc

-- ---- keys

later_still : (x y z : InstalledKey) → IsLaterKey x y → IsLaterKey y z → IsLaterKey x z
later_still x y z first second = record {
  number = second.number ∙ first.number;
  suite = second.suite ∙ first.suite;
  bytes = second.bytes ∙ first.bytes;
  salt = second.salt ∙ first.salt;
  ssci = second.ssci ∙ first.ssci;
  offset = second.offset ∙ first.offset;
  first_unused = omega (arith, first.first_unused, second.first_unused);
}

key_kept : EndpointLaws → (e : End) (key : InstalledKey) (w : WorldState) (event : Event) → IsSound w →
    KeyStaysIn (end_of w e).state.keys key → KeyStaysIn (end_of (world_step w event).1 e).state.keys key
key_kept laws e key w event sound it =
    let stay = (ends_stay laws w event sound e).keys it.later it.there in
    record { later = stay.later; there = stay.there; is_later = later_still key it.later stay.later it.is_later stay.is_later }

-- ---- the frame sent at event k

pub is_use_for : EndpointLaws → (a b : EndConfig) (events : List Event) → AreSound a b events → (k : ℕ) (e : End) (frame : List ℕ) (row : TxRow) →
    slice_get events k ≡ Some (Send e frame) → fault_of (world_at a b events k) (Send e frame) ≡ None →
    (sending_of (end_of (world_at a b events k) e).state frame).by ≡ Some row →
    IsUseFor a b events k (sent_at e (end_of (world_at a b events k) e).state frame row)
is_use_for laws a b events sounds k e frame row there none by =
    let w = world_at a b events k in
    let s = (end_of w e).state in
    let key = the_key s.keys row.key in
    let noted = row_noting row.next key in
    let sound = sound_end w (sounds k) e in
    let good = fits w e frame none in
    let it = laws.protects s frame row sound good by in
    let n = length w.frames in
    let octets = in_a_row (parts_made s row frame) in
    let keys_now : KeyStaysIn (end_of (world_step w (Send e frame)).1 e).state.keys noted = record {
      later = noted;
      there = rw (state_after w e frame none) it.noted;
      is_later = itself noted;
    } in
    let stays = kept_after (λ v. KeyStaysIn (end_of v e).state.keys noted) (key_kept laws e noted) (new_world a b) events k (Send e frame) sounds there keys_now in
    let is_later = later_still key noted stays.later (noted_later key row.next it.unused) stays.is_later in
    record {
      event = there;
      row = row;
      by = by;
      of_key = refl;
      next = refl;
      seal = refl;
      link_frame = n;
      made = makes_frame w e frame row none good by;
      on_link = kept_after (λ v. slice_get v.frames n ≡ Some octets) (λ v event sound found. stays_on_link v (event ∷ []) n octets found) (new_world a b) events k (Send e frame)
          sounds there (stands_on_link w e frame row none good by);
      key = stays.later;
      there = stays.there;
      of_number = is_later.number ∙ ((laws.keys_apart s sound).found row.key it.there).number;
      later = is_later;
      used = omega (arith, stays.is_later.first_unused);
    }
  where
    noted_later : (key : InstalledKey) (n : ℕ) → key.first_unused ≤ n → IsLaterKey key (row_noting n key)
    noted_later key n unused = record { number = refl; suite = refl; bytes = refl; salt = refl; ssci = refl; offset = refl; first_unused = omega (arith, unused) }
