-- Origin: what an SA opens was sealed by its sender, and not by its own end.
use Rattle.macsec_link.proofs.EndpointLaws.{differ}
use Rattle.macsec_link.proofs.Members.{from_map}
use Rattle.macsec_link.specs.Trace.{use_to_open_by}
use Rattle.macsec_restarts.proofs.Names.{[], ◌++◌, ◌∙◌, ◌∷◌, ◌≡◌, ◌≤◌, ◌⊎◌, AgreeOnKey, All, All-cons, All-head}
use Rattle.macsec_restarts.proofs.Names.{All-nil, All-tail, AllPairs, AllPairs-cons, ap, contained, Contains}
use Rattle.macsec_restarts.proofs.Names.{EndpointLaws, IfSome, if◌then◌else◌, inl, Inputs, inr, InstalledKey, is_xpn}
use Rattle.macsec_restarts.proofs.Names.{IsMember, IsSound, iv_of, iv_of_parts, IvParts, judgement_of, KeepingInput}
use Rattle.macsec_restarts.proofs.Names.{key_row_facts, last_of, List, map, member, MpduParts, no_pairs, None, Option}
use Rattle.macsec_restarts.proofs.Names.{pairs-head, pairs-tail, reading, refl, RxRow, SentIn, Some, State, suc, sym}
use Rattle.macsec_restarts.proofs.Names.{take, the_key, true, use_opened, use_opened_in, ℕ}
use Rattle.macsec_restarts.proofs.Pushed.{at_end, either_list, in_front}
use Rattle.macsec_restarts.proofs.Sends.{seal_of_sent}
use Rattle.macsec_secy.specs.Delivers.{IsOfOtherSender, IsOpened}
use Rattle.macsec_suite.specs.IvLaws.{HaveSameSender}

-- The first elements of a list.

-- ---- a run without its last input

pub first_taken : (n : ℕ) (inputs : Inputs) (input : KeepingInput) →
    (m : ℕ) × (take n inputs ≡ take m (inputs ++ input ∷ []))
first_taken (suc n) (i ∷ inputs) input = let it = first_taken n inputs input in (suc it.0, rw it.1)
first_taken n _ _ = (0, refl)

-- ---- the first runs

pub first_all : {X : Type 0} (P : X → Type 0) (xs ys : List X) → All P (xs ++ ys) → All P xs
first_all P [] _ _ = All-nil P
first_all P (x ∷ xs) ys all = All-cons P x xs (All-head P x (xs ++ ys) all) (first_all P xs ys (All-tail P x _ all))

pub first_pairs : {X : Type 0} (R : X → X → Type 0) (xs ys : List X) → AllPairs R (xs ++ ys) → AllPairs R xs
first_pairs R [] _ _ = no_pairs R
first_pairs R (x ∷ xs) ys pairs =
    AllPairs-cons R x xs (first_all (R x) xs ys (pairs-head R x _ pairs)) (first_pairs R xs ys (pairs-tail R x _ pairs))

-- Origin: what an SA opens.

-- ---- an earlier run of the own end

-- a frame that was sealed under this key, in this state
pub record IsSealedWith (s : State) (x : SentIn) (key : InstalledKey) : Type 0 where
  pub sound : IsSound s
  pub there : Contains s.keys key
  pub most : x.number ≤ last_of key.suite
  pub iv : x.seal.iv ≡ iv_of key.suite s.config.sci key.ssci key.salt x.number

abbrev parts_sent : State → InstalledKey → ℕ → IvParts
parts_sent s key n = record { sci = s.config.sci; ssci = key.ssci; salt = key.salt; pn = n }

abbrev parts_asked : State → RxRow → ℕ → IvParts
parts_asked t row n = record { sci = row.sci; ssci = row.ssci; salt = (the_key t.keys row.key).salt; pn = n }

-- if an SA opens it, under a key that agrees, it is from the SA's sender
pub same_sender : EndpointLaws → (s t : State) (row : RxRow) (number : ℕ) (p : MpduParts) (x : SentIn)
    (key : InstalledKey) → IsSealedWith s x key → IsSound t → IsOfOtherSender t row →
    number ≤ last_of (the_key t.keys row.key).suite → AgreeOnKey key (the_key t.keys row.key) →
    x.seal ≡ use_to_open_by t row number p →
    HaveSameSender (the_key t.keys row.key).suite (parts_sent s key x.number) (parts_asked t row number)
same_sender laws s t row number p x key sealed sound of most agree asked =
    let own = the_key t.keys row.key in
    let facts = key_row_facts laws t own sound of.key.there in
    let facts' = key_row_facts laws s key sealed.sound sealed.there in
    let sent = parts_sent s key x.number in
    let iv : iv_of_parts own.suite sent ≡ iv_of_parts own.suite (parts_asked t row number) =
    ap (λ u. iv_of_parts u sent) (sym agree.suite) ∙ sym sealed.iv ∙ ap (λ u. u.iv) asked in
    laws.equal_ivs own.suite sent (parts_asked t row number) (record {
      sci = sealed.sound.own_sci.count;
      ssci = facts'.ssci;
      salt = facts'.salt;
      pn = rw agree.suite at sealed.most;
    }) (record { sci = of.sci_count; ssci = of.ssci; salt = facts.salt; pn = most })
    (λ xpn. agree.salt (rw (agree.suite, xpn))) iv

-- two keys of one end, at two of its moments
pub record AreOneKey (s t : State) (x y : InstalledKey) : Type 0 where
  pub sci : s.config.sci ≡ t.config.sci
  pub agree : AgreeOnKey x y
  pub ssci : is_xpn y.suite ≡ true → x.ssci ≡ y.ssci

-- so no SA opens what its own end sealed
pub not_of_own : EndpointLaws → (s t : State) (row : RxRow) (number : ℕ) (p : MpduParts) (x : SentIn)
    (key : InstalledKey) → IsSealedWith s x key → IsSound t → IsOfOtherSender t row →
    number ≤ last_of (the_key t.keys row.key).suite → AreOneKey s t key (the_key t.keys row.key) →
    x.seal ≡ use_to_open_by t row number p → ⊥
not_of_own laws s t row number p x key sealed sound of most one asked =
    differ (the_key t.keys row.key).suite (parts_sent s key x.number) (parts_asked t row number)
    (same_sender laws s t row number p x key sealed sound of most one.agree asked)
    (λ xpn same. of.other_ssci xpn (sym (one.ssci xpn) ∙ same)) (λ same. of.other_sci (sym one.sci ∙ same))

-- ---- what was opened was sent in a run of one of the ends

pub opened_among : (sends : List SentIn) (s : State) (frame : List ℕ) (row : RxRow) (delivered : List ℕ) →
    (judgement_of s frame).row ≡ Some row → (it : IsOpened s frame row delivered) →
    IfSome (use_opened s frame) (Contains (map seal_of_sent sends)) →
    (x : SentIn) × IsMember sends x × (x.seal ≡ use_to_open_by s row (judgement_of s frame).number it.p)
opened_among sends s frame row _ of_row it genuine =
    let j = judgement_of s frame in
    let opening' = use_to_open_by s row j.number it.p in
    let opened : use_opened s frame ≡ Some opening' =
    ap (λ o. use_opened_in s j o (reading frame)) of_row ∙ ap (λ r. use_opened_in s j (Some row) r) it.reads ∙
    ap (λ b. if b then Some opening' else None) it.thirteen in
    let there = rw opened at genuine in
    from_map seal_of_sent sends opening' (member (map seal_of_sent sends) opening' there)

-- ---- the other end

pub turned : {x y : InstalledKey} → AgreeOnKey x y → AgreeOnKey y x
turned it = record { suite = sym it.suite; salt = λ xpn. sym (it.salt (rw (it.suite, xpn))) }

-- what was sealed at either end, in the other order
pub swapped : {X : Type 0} (xs ys : List X) (o : Option X) → IfSome o (Contains (xs ++ ys)) →
    IfSome o (Contains (ys ++ xs))
swapped _ _ None there = there
swapped xs ys (Some x) there = contained _ x (by_list (either_list xs ys x (member _ x there)))
  where
    by_list : IsMember xs x ⊎ IsMember ys x → IsMember (ys ++ xs) x
    by_list (inl here) = at_end ys xs x here
    by_list (inr here) = in_front ys xs x here
