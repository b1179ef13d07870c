-- The SA of a live log exists and has the log's key.
use Rattle.macsec_link_logs.specs.Logs.{association_of_log, association_of_row, live_logs}
use Rattle.macsec_link.proofs.{
  Names.{◌∙◌, ◌≡◌, ap, DeliveryLog, EndState, IsSoundEnd, List, rx_row, RxRow, Sci, slice_get, Some, subst, sym, true},
  Names.ℕ,
  EndpointLaws.EndpointLaws,
  Members.{IsMember, contained, found_member, from_map, left_member, member_of_map},
}

pub record IsKeyed (rows : List RxRow) (sci : Sci) (an key : ℕ) : Type 0 where
  pub row : RxRow
  pub there : rx_row rows sci an ≡ Some row
  pub of_key : row.key ≡ key

abbrev pub IsTied : List RxRow → DeliveryLog → Type 0
IsTied rows log = log.live ≡ true → IsKeyed rows log.sci log.an log.key

pub tied : EndpointLaws → (e : EndState) (i : ℕ) (log : DeliveryLog) → IsSoundEnd e → slice_get e.delivered i ≡ Some log → IsTied e.state.rx.rows log
tied laws e i log sound found live =
    let there = left_member (λ (l : DeliveryLog). l.live) e.delivered log (found_member e.delivered i log found) live in
    let its = association_of_log log in
    let of_log = member_of_map association_of_log (live_logs e.delivered) log there in
    let of_row = subst (λ (xs : List (Sci × ℕ × ℕ)). IsMember xs its) sound.logged of_log in
    let it = from_map association_of_row e.state.rx.rows its of_row in
    let row = it.0 in
    let place = laws.rx_rows_apart e.state sound.endpoint row (contained e.state.rx.rows row it.1) in
    record {
      row = row;
      there = ap (λ s. rx_row e.state.rx.rows s log.an) (sym (ap (λ (x : Sci × ℕ × ℕ). x.0) it.2))
          ∙ ap (λ n. rx_row e.state.rx.rows row.sci n) (sym (ap (λ (x : Sci × ℕ × ℕ). x.1) it.2)) ∙ place;
      of_key = ap (λ (x : Sci × ℕ × ℕ). x.2) it.2;
    }
