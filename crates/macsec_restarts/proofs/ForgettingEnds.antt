-- Where deleted SAs ended is remembered by endpoints that forget keys, and what is saved of an SA covers what it
-- accepted.
use Rattle.macsec_reserve.specs.Replay.{IsAccepted, saved_for, SavesAccepted}
use Rattle.macsec_restarts.{
  proofs.{
    AheadEnds.{after_command, ends_step, GivesUpBy, keeps_given_up, KeepsByRetiring, not_gone, remembers_by},
    AheadEnds.{remembers_end, retires, row_kept, StaysUnless},
    AheadForgets.{by_forgetting, forgets_field},
    AheadInside.step_inside,
    Names.{[], ◌+◌, ◌∙◌, ◌∷◌, ◌≡◌, ◌≤◌, Ahead, ahead_forgetting_step, ahead_step, All, All-cons, All-contains, All-nil},
    Names.{All-weaker, and_from, Answer, ap, arith, Bool, Command, Contains, end_of, endpoint_input, false, forgetting},
    Names.{forgetting_step, highest, if◌then◌else◌, IsAbove, IsGivenUp, IsSound, judgement_of, Keeping, keeping_step},
    Names.{KeepingInput, KeepsAssociation, Key, le-leb, lets_through, link_frame, List, lt-ltb, max, None, now_durable},
    Names.{operator_command, Option, passes, received_step, refl, Reservation, Retire, retired_by, row_name, rx_row},
    Names.{RxRow, RxSa, same_octets-refl, Sci, Some, State, step, subst, sym, taken, then_forget, true, unwrap_or, ℕ},
  },
  specs.ForgettingEnds.{RefusesBelowEndForgetting, RemembersEndForgetting},
}
use Rattle.macsec_secy.{proofs.GivenUp.stays_replaced, specs.Delivers.DeliversFrom}

-- ---- what forgetting leaves

-- the receive SAs are those of the keeping endpoint's step
pub same_rx : (k : Keeping) (input : KeepingInput) →
    (forgetting_step k input).1.secy.rx ≡ (keeping_step k (taken k input)).1.secy.rx
same_rx k input = forgets_field (λ x. x.secy.rx) (λ x n. refl) (retired_by input) (keeping_step k (taken k input))

-- a key that is given up stays given up
still_given_up : (o : Option ℕ) (answer : Answer) (m : ℕ) → IsGivenUp answer.1.secy m →
    IsGivenUp (then_forget o answer).1.secy m
still_given_up None _ m up = up
still_given_up (Some n) answer m up = by_both _
  where
    by_both : (b : Bool) → IsGivenUp (if b then forgetting answer.1 n else answer.1).secy m
    by_both true = stays_replaced _ m n _ up
    by_both false = up

pub given_up_forgetting : (k : Keeping) (input : KeepingInput) (n : ℕ) → IsGivenUp k.secy n →
    IsGivenUp (forgetting_step k input).1.secy n
given_up_forgetting k _ n up = still_given_up _ _ n (keeps_given_up k _ n up)

-- ---- deleted SAs

gives_up : (k : Keeping) (c : Command) → GivesUpBy c (forgetting_step k (endpoint_input (operator_command c)))
gives_up k (Retire n) = λ done'.
    still_given_up (Some n) (keeping_step k (endpoint_input (operator_command (Retire n)))) n (retires k n done')
gives_up k c = tt

pub forgetting_ends_step : (a : Ahead) (input : KeepingInput) (key : ℕ) (sci : Sci) (an : ℕ) →
    StaysUnless a (ahead_forgetting_step a input).1 key sci an
forgetting_ends_step a (now_durable r) key sci an = ends_step a (now_durable r) key sci an
forgetting_ends_step a (endpoint_input (operator_command c)) key sci an =
    after_command c _ (gives_up a.k c) _ passes a key sci an
forgetting_ends_step a input key sci an = ends_step a input key sci an

keeps_by_retiring : (k : Keeping) (row : RxRow) → rx_row k.secy.rx.rows row.sci row.an ≡ Some row → (c : Command) →
    KeepsByRetiring c (forgetting_step k (endpoint_input (operator_command c))) row
keeps_by_retiring k row there (Retire n) = λ none.
    not_gone k (endpoint_input (operator_command (Retire n))) row refl there
    (rw (same_rx k (endpoint_input (operator_command (Retire n)))) at none)
keeps_by_retiring k _ _ c = tt

pub remembers_end_forgetting : (a : Ahead) (input : KeepingInput) (row : RxRow) → RemembersEndForgetting a input row
remembers_end_forgetting a (now_durable r) row = remembers_end a (now_durable r) row
remembers_end_forgetting a (endpoint_input (operator_command c)) row = λ keeps there none.
    remembers_by c _ _ passes a row (keeps_by_retiring a.k row there c) keeps there none
remembers_end_forgetting a input row = remembers_end a input row

pub refuses_below_end_forgetting : (a : Ahead) (sci : Sci) (an key ssci lowest : ℕ) →
    RefusesBelowEndForgetting a sci an key ssci lowest
refuses_below_end_forgetting a sci an key ssci lowest least below =
    let input = operator_command (RxSa sci an key ssci lowest) in
    rw (and_from _ _ (lt-ltb 0 lowest least) (le-leb lowest (end_of a.ended key sci an) below))

-- ---- an SA that is not deleted keeps its next number

keeps_taken : (k : Keeping) (sci : Sci) (an : ℕ) (input : KeepingInput) → KeepsAssociation sci an input →
    KeepsAssociation sci an (taken k input)
keeps_taken k _ _ (now_durable r) _ = tt
keeps_taken k _ _ (endpoint_input (operator_command (Key _))) _ = refl
keeps_taken k _ _ (endpoint_input _) keeps = keeps

pub above_forgetting : (a : Ahead) (input : KeepingInput) (sci : Sci) (an n : ℕ) → KeepsAssociation sci an input →
    IsAbove a.k.secy.rx.rows sci an n → IsAbove (ahead_forgetting_step a input).1.k.secy.rx.rows sci an n
above_forgetting a input sci an n keeps above = by_forgetting (λ k. IsAbove k.secy.rx.rows sci an n) a input above
    (rw (same_rx a.k input) (row_kept a.k _ sci an n (keeps_taken a.k sci an input keeps) above))

-- ---- what a list has it reserves

has_highest : (rs : List Reservation) → All (λ x. x.last ≤ highest rs x.name) rs
has_highest [] = All-nil (λ x. x.last ≤ 0)
has_highest (y ∷ ys) =
    let P : Reservation → Type 0 = λ x. x.last ≤ highest (y ∷ ys) x.name in
    All-cons P y ys (own _ (same_octets-refl y.name)) (All-weaker (λ x. x.last ≤ highest ys x.name) P
    (λ x less. later x _ less) ys (has_highest ys))
  where
    own : (b : Bool) → b ≡ true → y.last ≤ (if b then max y.last (highest ys y.name) else highest ys y.name)
    own true is = omega arith
    own false is = cc

    later : (x : Reservation) (b : Bool) → x.last ≤ highest ys x.name →
        x.last ≤ (if b then max y.last (highest ys x.name) else highest ys x.name)
    later x true less = omega (arith, less)
    later x false less = less

-- ---- what is saved covers what was accepted

abbrev pub Saves : Type 0
Saves = (salt : List ℕ) (s : State) (sci : Sci) (an : ℕ) (row : RxRow) (n : ℕ) → SavesAccepted salt s sci an row n

abbrev pub Tells : Type 0
Tells = (s : State) (frame : List ℕ) (row : RxRow) (delivered : List ℕ) → DeliversFrom s frame row delivered

-- an SA is above what it accepted
pub above_accepted : Tells → (a : Ahead) (frame : List ℕ) (from : RxRow) (n : ℕ) → IsSound a.k.secy →
    IsAccepted a.k.secy frame from → lets_through a (endpoint_input (link_frame frame)) ≡ true →
    (judgement_of a.k.secy frame).number ≡ n →
    IsAbove (ahead_step a (endpoint_input (link_frame frame))).1.k.secy.rx.rows from.sci from.an (n + 1)
above_accepted tells a frame from n sound it through' number =
    let s = a.k.secy in
    let j = judgement_of s frame in
    let link = endpoint_input (link_frame frame) in
    let accepted = (tells s frame from it.delivered sound it.row it.gives).accepted it.step in
    let stepped : IsAbove (step s (link_frame frame)).1.rx.rows from.sci from.an (j.number + 1) = rw it.fits accepted in
    let kept : IsAbove (keeping_step a.k link).1.secy.rx.rows from.sci from.an (j.number + 1) =
    rw (received_step a.k frame) stepped in
    rw (← number) (rw (step_inside a link true through') kept)

-- what is saved of an SA covers each PN below its next one
pub saved_covers : Saves → (a : Ahead) (sci : Sci) (an : ℕ) (row : RxRow) (n : ℕ) (name : List ℕ)
    (rs : List Reservation) → IsSound a.k.secy → a.k.secy.options.window ≡ 0 →
    rx_row a.k.secy.rx.rows sci an ≡ Some row → IsAbove a.k.secy.rx.rows sci an (n + 1) →
    row_name a.k.salt a.k.secy row ≡ name → Contains rs (saved_for a.k.salt a.k.secy row) → n ≤ highest rs name
saved_covers saves a sci an row n name rs sound window there above is_name durable =
    let one : above.row ≡ row = ap (λ o. unwrap_or o row) (sym above.there ∙ there) in
    let next : n + 1 ≤ row.next = subst (λ x. n + 1 ≤ x.next) one above.above in
    let covers = saves a.k.salt a.k.secy sci an row n sound window there (omega (arith, next)) in
    let granted : (saved_for a.k.salt a.k.secy row).last ≤ highest rs (row_name a.k.salt a.k.secy row) =
    All-contains (λ x. x.last ≤ highest rs x.name) rs (saved_for a.k.salt a.k.secy row) (has_highest rs) durable in
    let under = rw is_name at granted in
    omega (arith, covers, under)
