-- A block that is read in pieces (type and length, body, length) is the block of the definition.
use Rattle.std.proofs.{
  Common.{◌≡◌, ◌≢◌, ℕ, ◌+◌, ◌-◌, ◌<◌, ◌≤◌, List, ◌++◌, length, take, drop, refl, sym, ap, subst, ◌∙◌, arith},
  Common.{length-append, length-drop, take-append-drop, Option, Some, None, IfSome, Result, Ok, Err, false, true},
  Common.{nat_lt, ◌==◌, le-ltb, lt-ltb, drop-drop, length-take-le, take_at},
  Math.Seq.{drop-append-add, take-append-add},
  lemmas.Bool.Decides.nat_tests,
}
use Rattle.macsec_pcap.specs.{
  Filled.IsFilled,
  Numbers.number,
  declared.{fault.PcapFault.{PcapFault, TheVariants.{BlockLength, CutRecord, Read}}, form.Order.Order},
}
use Rattle.macsec_pcapng.{
  proofs.TakenOctets.fetches,
  specs.{
    Answers.{Fetches, Skips, TakesBlock, TakesBody, TakesTrailer},
    Blocks.{block_at, block_of, block_of_len, block_with, is_length, is_section, kept, order_of_magic, section_header},
    Blocks.{section_in, section_in_order, total_length},
    declared.blocks.Head.Head,
  },
}

-- ---- the first eight octets

is_some : (n : ℕ) → 0 < n → (n == 0) ≡ false
is_some n some = grind (arith, nat_tests)

block_at-head : (order : Order) (octets : List ℕ) → 8 ≤ length octets → block_at order octets ≡ block_with order (take 8 octets) (drop 8 octets)
block_at-head order octets long =
    let test : (length octets == 0) ≡ false = is_some (length octets) (omega (arith, long)) in
    let whole : nat_lt (length octets) 8 ≡ false = le-ltb (length octets) 8 long in
    rw (test, whole) refl

-- what is returned for the octets after the first eight is returned for all
pub takes_behind : (order : Order) (old mid new : Option (List ℕ)) (head room : List ℕ) (n : ℕ) (answer : Result (Option Head) PcapFault) → length head ≡ 8 → 8 ≤ n →
    IsFilled old mid head n → IfSome mid (λ behind. TakesBlock (block_with order head behind) new room answer) →
    IfSome old (λ octets. TakesBlock (block_at order octets) new room answer)
takes_behind order None mid new head room n answer long whole filled taken = tt
takes_behind order (Some octets) mid new head room n answer long whole filled taken =
    let fetched : Fetches head octets mid (Ok tt) = fetches (Some octets) mid head n (omega (arith, long, whole)) filled in
    let front : head ≡ take 8 octets = fetched.1 ∙ ap (λ k. take k octets) long in
    let left : mid ≡ Some (drop 8 octets) = fetched.2 ∙ ap (λ k. Some (drop k octets)) long in
    let meant : block_at order octets ≡ block_with order head (drop 8 octets) =
    block_at-head order octets (omega (arith, fetched.0, long)) ∙ ap (λ h. block_with order h (drop 8 octets)) (sym front) in
    subst (λ begins. TakesBlock begins new room answer) (sym meant)
    (subst (λ m. IfSome m (λ behind. TakesBlock (block_with order head behind) new room answer)) left taken)

-- the same for a section header
pub takes_section : (order : Order) (old mid new : Option (List ℕ)) (head room : List ℕ) (n : ℕ) (answer : Result (Option Head) PcapFault) → length head ≡ 8 → 8 ≤ n →
    IsFilled old mid head n → is_section head ≡ true → IfSome mid (λ behind. TakesBlock (section_in head behind) new room answer) →
    IfSome old (λ octets. TakesBlock (block_at order octets) new room answer)
takes_section order old mid new head room n answer long whole filled is taken =
    takes_behind order old mid new head room n answer long whole filled (within mid taken)
  where
    within : (mid : Option (List ℕ)) → IfSome mid (λ behind. TakesBlock (section_in head behind) new room answer) →
        IfSome mid (λ behind. TakesBlock (block_with order head behind) new room answer)
    within None h = tt
    within (Some behind) h = rw is h

-- the same for any other block
pub takes_other : (order : Order) (old mid new : Option (List ℕ)) (head room : List ℕ) (n kind total : ℕ) (answer : Result (Option Head) PcapFault) → length head ≡ 8 → 8 ≤ n →
    IsFilled old mid head n → is_section head ≡ false → kind ≡ number order 4 head → total ≡ total_length order head →
    IfSome mid (λ behind. TakesBlock (block_of order kind total behind) new room answer) →
    IfSome old (λ octets. TakesBlock (block_at order octets) new room answer)
takes_other order old mid new head room n kind total answer long whole filled is k t taken =
    takes_behind order old mid new head room n answer long whole filled (within mid taken)
  where
    within : (mid : Option (List ℕ)) → IfSome mid (λ behind. TakesBlock (block_of order kind total behind) new room answer) →
        IfSome mid (λ behind. TakesBlock (block_with order head behind) new room answer)
    within None h = tt
    within (Some behind) h =
        let meant : block_with order head behind ≡ block_of order kind total behind =
        other ∙ ap (λ x. block_of order x (total_length order head) behind) (sym k) ∙ ap (λ x. block_of order kind x behind) (sym t) in
        subst (λ begins. TakesBlock begins new room answer) (sym meant) h
      where
        other : block_with order head behind ≡ block_of order (number order 4 head) (total_length order head) behind
        other = rw is refl

-- ---- a section header

section_in-whole : (head behind : List ℕ) → 4 ≤ length behind → section_in head behind ≡ section_in_order (order_of_magic (take 4 behind)) head behind
section_in-whole head behind long =
    let whole : nat_lt (length behind) 4 ≡ false = le-ltb (length behind) 4 long in rw whole refl

-- its magic is at the front of a room
pub section_taken : (head four start room : List ℕ) (old mid new : Option (List ℕ)) (order : Order) (total : ℕ) (answer : Result (Option Head) PcapFault) → length four ≡ 4 →
    start ≡ four → Some order ≡ order_of_magic start → total ≡ total_length order head → IfSome old (λ behind. Fetches four behind mid (Ok tt)) →
    IfSome mid (λ rest. TakesBlock (block_of order section_header total (start ++ rest)) new room answer) →
    IfSome old (λ behind. TakesBlock (section_in head behind) new room answer)
section_taken head four start room None mid new order total answer long same some is fetched taken = tt
section_taken head four start room (Some behind) mid new order total answer long same some is fetched taken =
    let at_total : IfSome mid (λ rest. TakesBlock (block_of order section_header (total_length order head) (start ++ rest)) new room answer) =
    subst (λ t. IfSome mid (λ rest. TakesBlock (block_of order section_header t (start ++ rest)) new room answer)) is taken in
    let at_four : IfSome mid (λ rest. TakesBlock (block_of order section_header (total_length order head) (four ++ rest)) new room answer) =
    subst (λ f. IfSome mid (λ rest. TakesBlock (block_of order section_header (total_length order head) (f ++ rest)) new room answer)) same at_total in
    let front : take 4 behind ≡ four = ap (λ k. take k behind) (sym long) ∙ sym fetched.1 in
    let left : mid ≡ Some (drop 4 behind) = fetched.2 ∙ ap (λ k. Some (drop k behind)) long in
    let joined : four ++ drop 4 behind ≡ behind = ap (λ f. f ++ drop 4 behind) (sym front) ∙ take-append-drop 4 behind in
    let meant : section_in head behind ≡ block_of order section_header (total_length order head) behind =
    section_in-whole head behind (omega (arith, fetched.0, long)) ∙ ap (λ f. section_in_order (order_of_magic f) head behind) front
    ∙ ap (λ f. section_in_order (order_of_magic f) head behind) (sym same) ∙ ap (λ o. section_in_order o head behind) (sym some) in
    subst (λ begins. TakesBlock begins new room answer) (sym meant)
    (subst (λ b. TakesBlock (block_of order section_header (total_length order head) b) new room answer) joined
    (subst (λ m. IfSome m (λ rest. TakesBlock (block_of order section_header (total_length order head) (four ++ rest)) new room answer)) left at_four))

-- ---- the body, and the length after it

-- the length is allowed for this type
pub block_of-length : (order : Order) (kind total : ℕ) (behind : List ℕ) → is_length kind total ≡ true →
    block_of order kind total behind ≡ block_of_len order kind total (total - 12) behind
block_of-length order kind total behind can = rw can refl

block_of_len-cut : (order : Order) (kind total len : ℕ) (behind : List ℕ) → length behind < len + 4 → block_of_len order kind total len behind ≡ Err CutRecord
block_of_len-cut order kind total len behind short =
    let cut : nat_lt (length behind) (len + 4) ≡ true = lt-ltb (length behind) (len + 4) short in rw cut refl

block_of_len-wrong : (order : Order) (kind total len : ℕ) (behind : List ℕ) → len + 4 ≤ length behind → number order 4 (take 4 (drop len behind)) ≢ total →
    block_of_len order kind total len behind ≡ Err BlockLength
block_of_len-wrong order kind total len behind long other =
    let whole : nat_lt (length behind) (len + 4) ≡ false = le-ltb (length behind) (len + 4) long in
    let test : (number order 4 (take 4 (drop len behind)) == total) ≡ false = unlike (number order 4 (take 4 (drop len behind))) total other in
    rw (whole, test) refl
  where
    unlike : (a b : ℕ) → a ≢ b → (a == b) ≡ false
    unlike a b ne = grind (arith, nat_tests)

block_of_len-whole : (order : Order) (kind total len : ℕ) (behind : List ℕ) → len + 4 ≤ length behind → number order 4 (take 4 (drop len behind)) ≡ total →
    block_of_len order kind total len behind
    ≡ Ok (Some (record { order = order; kind = kind; len = len; front = take (kept len) behind }, drop 4 (drop len behind)))
block_of_len-whole order kind total len behind long same =
    let whole : nat_lt (length behind) (len + 4) ≡ false = le-ltb (length behind) (len + 4) long in
    let test : (number order 4 (take 4 (drop len behind)) == total) ≡ true = alike (number order 4 (take 4 (drop len behind))) total same in
    rw (whole, test) refl
  where
    alike : (a b : ℕ) → a ≡ b → (a == b) ≡ true
    alike a b eq = grind (arith, nat_tests)

-- the body was not read
pub body_fault : (order : Order) (kind total len : ℕ) (front : List ℕ) (old new last : Option (List ℕ)) (room other : List ℕ) (fault : PcapFault) →
    is_length kind total ≡ true → len ≡ total - 12 →
    IfSome old (λ rest. TakesBody len (front ++ rest) new room (Err fault)) →
    IfSome old (λ rest. TakesBlock (block_of order kind total (front ++ rest)) last other (Err fault))
body_fault order kind total len front None new last room other fault can same failed = tt
body_fault order kind total len front (Some rest) new last room other CutRecord can same short =
    sym (block_of-length order kind total (front ++ rest) can
    ∙ block_of_len-cut order kind total (total - 12) (front ++ rest) (omega (arith, short, same)))
body_fault order kind total len front (Some rest) new last room other Read can same failed = tt
body_fault order kind total len front (Some rest) new last room other fault can same failed = cc

-- the body was read; the length after it was not, or it differs
pub trailer_fault : (order : Order) (kind total len : ℕ) (front : List ℕ) (old mid new last : Option (List ℕ)) (room : List ℕ) (fault : PcapFault) →
    is_length kind total ≡ true → len ≡ total - 12 →
    IfSome old (λ rest. TakesBody len (front ++ rest) mid room (Ok tt)) → IfSome mid (λ octets. TakesTrailer order total octets new (Err fault)) →
    IfSome old (λ rest. TakesBlock (block_of order kind total (front ++ rest)) last room (Err fault))
trailer_fault order kind total len front None mid new last room fault can same body failed = tt
trailer_fault order kind total len front (Some rest) mid new last room CutRecord can same body failed =
    let behind = front ++ rest in
    let here : length (drop len behind) < 4 = subst (λ m. IfSome m (λ octets. length octets < 4)) body.2 failed in
    sym (block_of-length order kind total behind can
    ∙ block_of_len-cut order kind total (total - 12) behind (omega (arith, here, body.0, same, length-drop len behind)))
trailer_fault order kind total len front (Some rest) mid new last room BlockLength can same body failed =
    let behind = front ++ rest in
    let here : TakesTrailer order total (drop len behind) new (Err BlockLength) =
    subst (λ m. IfSome m (λ octets. TakesTrailer order total octets new (Err BlockLength))) body.2 failed in
    sym (block_of-length order kind total behind can
    ∙ ap (λ n. block_of_len order kind total n behind) (sym same)
    ∙ block_of_len-wrong order kind total len behind (omega (arith, here.0, body.0, length-drop len behind)) here.1)
trailer_fault order kind total len front (Some rest) mid new last room Read can same body failed = tt
trailer_fault order kind total len front (Some rest) mid new last room fault can same body failed =
    let here : TakesTrailer order total (drop len (front ++ rest)) new (Err fault) =
    subst (λ m. IfSome m (λ octets. TakesTrailer order total octets new (Err fault))) body.2 failed in cc

-- both were read
pub block_taken : (order : Order) (kind total len : ℕ) (front : List ℕ) (old mid new : Option (List ℕ)) (room : List ℕ) → is_length kind total ≡ true → len ≡ total - 12 →
    IfSome old (λ rest. TakesBody len (front ++ rest) mid room (Ok tt)) → IfSome mid (λ octets. TakesTrailer order total octets new (Ok tt)) →
    IfSome old (λ rest. TakesBlock (block_of order kind total (front ++ rest)) new room (Ok (Some (record { order = order; kind = kind; len = len }))))
block_taken order kind total len front None mid new room can same body trailer = tt
block_taken order kind total len front (Some rest) mid new room can same body trailer =
    let behind = front ++ rest in
    let here : TakesTrailer order total (drop len behind) new (Ok tt) = subst (λ m. IfSome m (λ octets. TakesTrailer order total octets new (Ok tt))) body.2 trailer in (
      drop 4 (drop len behind),
      block_of-length order kind total behind can
          ∙ ap (λ n. block_of_len order kind total n behind) (sym same)
          ∙ block_of_len-whole order kind total len behind (omega (arith, here.0, body.0, length-drop len behind)) here.1
          ∙ ap (λ xs. Ok (Some (record { order = order; kind = kind; len = len; front = xs }, drop 4 (drop len behind)))) (sym body.1),
      here.2,
    )

-- the first piece of a body was not read
pub piece_fault : (old mid last : Option (List ℕ)) (room piece other : List ℕ) (known end len : ℕ) (fault : PcapFault) →
    length room ≡ 262164 → known ≤ end → end ≤ 262164 → end ≤ len → length piece + known ≡ end →
    IfSome old (λ rest. Fetches piece rest mid (Err fault)) → IfSome old (λ rest. TakesBody len (take known room ++ rest) last other (Err fault))
piece_fault None mid last room piece other known end len fault whole k e l p failed = tt
piece_fault (Some rest) mid last room piece other known end len CutRecord whole k e l p short =
    let long : length (take known room) ≡ known = length-take-le known room (omega (arith, whole, k, e)) in
    omega (arith, long, short, l, p, length-append (take known room) rest)
piece_fault (Some rest) mid last room piece other known end len fault whole k e l p failed = failed

-- after the octets that are already known, a body is read in two pieces
pub body_taken : (old mid new : Option (List ℕ)) (room piece others : List ℕ) (known end len : ℕ) (answer : Result (Unit {0}) PcapFault) →
    length room ≡ 262164 → known ≤ end → end ≤ 262164 → end ≤ len → end ≡ kept len → length piece + known ≡ end →
    IfSome old (λ rest. Fetches piece rest mid (Ok tt)) → IfSome mid (λ xs. Skips (len - end) xs new answer) →
    IfSome old (λ rest. TakesBody len (take known room ++ rest) new (take known room ++ (piece ++ others)) answer)
body_taken None mid new room piece others known end len answer whole k e l is p fetched skipped = tt
body_taken (Some rest) mid new room piece others known end len (Ok done) whole k e l is p fetched skipped =
    let front = take known room in
    let long : length front ≡ known = length-take-le known room (omega (arith, whole, k, e)) in
    let here : Skips (len - end) (drop (length piece) rest) new (Ok tt) = subst (λ m. IfSome m (λ xs. Skips (len - end) xs new (Ok tt))) fetched.2 skipped in
    let both : end ≡ length front + length piece = omega (arith, long, p) in
    let all : len ≡ length front + (length piece + (len - end)) = omega (arith, long, p, l) in
    let first : take end (front ++ (piece ++ others)) ≡ front ++ piece =
    ap (λ n. take n (front ++ (piece ++ others))) both ∙ take-append-add front (piece ++ others) (length piece)
    ∙ ap (λ xs. front ++ xs) (take_at piece others (length piece) refl) in
    let second : take end (front ++ rest) ≡ front ++ piece =
    ap (λ n. take n (front ++ rest)) both ∙ take-append-add front rest (length piece) ∙ ap (λ xs. front ++ xs) (sym fetched.1) in
    let past : drop len (front ++ rest) ≡ drop (len - end) (drop (length piece) rest) =
    ap (λ n. drop n (front ++ rest)) all ∙ drop-append-add front rest (length piece + (len - end)) ∙ sym (drop-drop (len - end) (length piece) rest) in (
      omega (arith, long, here.0, fetched.0, p, length-append front rest, length-drop (length piece) rest),
      subst (λ n. take n (front ++ (piece ++ others)) ≡ take n (front ++ rest)) is (first ∙ sym second),
      here.1 ∙ ap Some (sym past),
    )
body_taken (Some rest) mid new room piece others known end len (Err CutRecord) whole k e l is p fetched skipped =
    let front = take known room in
    let long : length front ≡ known = length-take-le known room (omega (arith, whole, k, e)) in
    let here : length (drop (length piece) rest) < len - end = subst (λ m. IfSome m (λ xs. Skips (len - end) xs new (Err CutRecord))) fetched.2 skipped in
    omega (arith, long, here, fetched.0, p, length-append front rest, length-drop (length piece) rest)
body_taken (Some rest) mid new room piece others known end len (Err fault) whole k e l is p fetched skipped =
    subst (λ m. IfSome m (λ xs. Skips (len - end) xs new (Err fault))) fetched.2 skipped
