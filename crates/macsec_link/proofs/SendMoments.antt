-- No two protected frames are sent at the same moment: the moments rise.
use Rattle.macsec_link.proofs.{
  Names.{[], ◌++◌, ◌≡◌, added_unless_fault, append-nil, arith, End, end_of, Event, fault_of, List, None, Option, refl},
  Names.{Send, sending_of, Sent, Some, suc, TxRow, WorldFault, WorldState, ℕ},
  Rising.{ComeAt, come_before, none_come, one_comes},
  Sends.{new_sends, sent_at, sent_by_row},
}

-- S holds of what this event sends protected at this moment, in this world
abbrev pub SentBy : (ℕ → Sent → Type 0) → ℕ → WorldState → Event → Type 0
SentBy S moment w event = (e : End) (frame : List ℕ) (row : TxRow) → event ≡ Send e frame → fault_of w (Send e frame) ≡ None →
    (sending_of (end_of w e).state frame).by ≡ Some row → S moment (sent_at e (end_of w e).state frame row)

-- S holds of each of the sends at its moment, before this moment
abbrev pub SentAt : (ℕ → Sent → Type 0) → ℕ → List Sent → Type 0
SentAt S moment sends = ComeAt (λ k x y. S k x) moment sends sends

pub none_sent : (S : ℕ → Sent → Type 0) (moment : ℕ) → SentAt S moment []
none_sent S moment = none_come (λ k x y. S k x) moment

module _ (S : ℕ → Sent → Type 0) (moment : ℕ) (w : WorldState) (sends : List Sent) (it : SentAt S moment sends) where
  none_more : SentAt S (suc moment) (sends ++ [])
  none_more = rw (append-nil sends) (come_before (λ k x y. S k x) moment (suc moment) sends sends (omega arith) it)

  send_adds : (e : End) (frame : List ℕ) (f : Option WorldFault) (by : Option TxRow) → SentBy S moment w (Send e frame) →
      fault_of w (Send e frame) ≡ f → (sending_of (end_of w e).state frame).by ≡ by →
      SentAt S (suc moment) (sends ++ added_unless_fault f (sent_by_row e (end_of w e).state frame by))
  send_adds e frame None (Some row) so none protects =
      let new = sent_at e (end_of w e).state frame row in one_comes (λ k x y. S k x) moment sends sends new new it (so e frame row refl none protects)
  send_adds e frame f by so none protects = none_more

  nothing_adds : (f : Option WorldFault) → SentAt S (suc moment) (sends ++ added_unless_fault f [])
  nothing_adds None = none_more
  nothing_adds (Some fault) = none_more

  pub sent_after : (event : Event) → SentBy S moment w event → SentAt S (suc moment) (sends ++ new_sends w event)
  sent_after (Send e frame) so = send_adds e frame (fault_of w (Send e frame)) (sending_of (end_of w e).state frame).by so refl refl
  sent_after event so = nothing_adds (fault_of w event)
