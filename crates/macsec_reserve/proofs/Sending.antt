-- A client frame at a keeping endpoint, by whether it may go.
use Rattle.macsec_reserve.proofs.Prelude.{[], ◌&&◌, ◌||◌, ◌∙◌, ◌∷◌, ◌≡◌, ap, Bool, client_frame, dropped_no_reservation}
use Rattle.macsec_reserve.proofs.Prelude.{endpoint_input, false, highest, if◌then◌else◌, Input, Keeping, keeping_step}
use Rattle.macsec_reserve.proofs.Prelude.{key_name, List, list_any, may_go, may_use, nat_le, nat_lt, not, number_used}
use Rattle.macsec_reserve.proofs.Prelude.{refl, step, sym, true, TxRow, UsedNumber, uses_reserved, with_step, ℕ}

pub dropped : (k : Keeping) (frame : List ℕ) → may_go k (client_frame frame) ≡ false → keeping_step k (endpoint_input (client_frame frame)) ≡ (dropped_no_reservation, k)
dropped k frame go = ap (λ (b : Bool). if b then with_step k (step k.secy (client_frame frame)) else (dropped_no_reservation, k)) go

pub goes : (k : Keeping) (frame : List ℕ) → may_go k (client_frame frame) ≡ true → keeping_step k (endpoint_input (client_frame frame)) ≡ with_step k (step k.secy (client_frame frame))
goes k frame go = ap (λ (b : Bool). if b then with_step k (step k.secy (client_frame frame)) else (dropped_no_reservation, k)) go

-- ---- whether it uses only what is reserved

twice_not : (b : Bool) → not (not b || false) ≡ b
twice_not true = refl
twice_not false = refl

abbrev all_may : Keeping → List UsedNumber → Bool
all_may k us = not (list_any (λ u. not (may_use k u)) us)

pub one_used : (k : Keeping) (input : Input) (row : TxRow) (name name' : List ℕ) (may : Bool) → (row.key, row.next) ∷ [] ≡ number_used k.secy input →
    name ≡ name' → name' ≡ key_name k.salt k.secy.keys row.key →
    may ≡ (nat_lt (highest k.before name) row.next && nat_le row.next (highest k.granted name)) → may ≡ uses_reserved k input
one_used k input row name name' may one is_name is_key is_may =
    is_may
    ∙ ap (λ n. nat_lt (highest k.before n) row.next && nat_le row.next (highest k.granted n)) (is_name ∙ is_key)
    ∙ sym (twice_not (may_use k (row.key, row.next)))
    ∙ ap (λ us. all_may k us) one
