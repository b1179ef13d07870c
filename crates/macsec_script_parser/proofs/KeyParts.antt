-- A key from its words. The suite, the SSCI and the salt are read separately from the first three words.
use Rattle.{
  std.proofs.Common.{◌≡◌, ℕ, List, refl, ap, ◌∙◌, Option, Some, None, Result, Ok, Err},
  macsec_aes.specs.declared.Key.Key,
  macsec_suite.specs.declared.suite.Suite.Suite,
  macsec_commands.specs.declared.event.End.End,
  macsec_script_parser.specs.{
    Fields.map_ok,
    Kinds.{and_then, key_from, tells},
    declared.lines.{Line.Line, LineFault.LineFault},
  },
}
use Rattle.macsec_commands.specs.declared.command.Command.TheVariants as by

-- ---- a value in two steps

and_then-map_ok : {X Y Z : Type 0} (f : X → Y) (r : Result X LineFault) (next : Y → Result Z LineFault) → and_then (map_ok f r) next ≡ and_then r (λ x. next (f x))
and_then-map_ok f (Ok x) next = refl
and_then-map_ok f (Err fault) next = refl

and_then-pair : {X Y Z : Type 0} (r : Result X LineFault) (s : Result Y LineFault) (next : X × Y → Result Z LineFault) →
    and_then (and_then r (λ x. map_ok (λ y. (x, y)) s)) next ≡ and_then r (λ x. and_then s (λ y. next (x, y)))
and_then-pair (Err fault) s next = refl
and_then-pair (Ok x) (Err fault) next = refl
and_then-pair (Ok x) (Ok y) next = refl

-- ---- a key

-- a key, from the results of reading the first three words, a suite, and an SSCI with a salt
abbrev pub key_of : End → Result ℕ LineFault → Result Key LineFault → Result ℕ LineFault → Result (Option Suite) LineFault → Result (ℕ × List ℕ) LineFault → Result Line LineFault
key_of at number bytes offset suite more =
    and_then number (λ n. and_then bytes (λ key. and_then offset (λ offset. and_then suite (λ suite. and_then more (λ more.
    Ok (tells at (by.Key (key_from n key offset suite more.0 more.1))))))))

after_three : (number : Result ℕ LineFault) (bytes : Result Key LineFault) (offset : Result ℕ LineFault) (p q : ℕ → Key → ℕ → Result Line LineFault) →
    ((n : ℕ) (key : Key) (o : ℕ) → p n key o ≡ q n key o) →
    and_then number (λ n. and_then bytes (λ key. and_then offset (λ o. p n key o))) ≡ and_then number (λ n. and_then bytes (λ key. and_then offset (λ o. q n key o)))
after_three (Err fault) bytes offset p q same = refl
after_three (Ok n) (Err fault) offset p q same = refl
after_three (Ok n) (Ok key) (Err fault) p q same = refl
after_three (Ok n) (Ok key) (Ok o) p q same = same n key o

pub key_of-suite : (at : End) (number : Result ℕ LineFault) (bytes : Result Key LineFault) (offset : Result ℕ LineFault) (word : Result Suite LineFault)
    (suite : Result (Option Suite) LineFault) (ssci : ℕ) (salt : List ℕ) → suite ≡ map_ok Some word →
    key_of at number bytes offset suite (Ok (ssci, salt)) ≡ and_then number (λ n. and_then bytes (λ key. and_then offset (λ o. and_then word (λ s.
    Ok (tells at (by.Key (key_from n key o (Some s) ssci salt)))))))
key_of-suite at number bytes offset word suite ssci salt read =
    ap (λ suite. key_of at number bytes offset suite (Ok (ssci, salt))) read
    ∙ after_three number bytes offset _ _
    (λ n key o. and_then-map_ok Some word (λ s. Ok (tells at (by.Key (key_from n key o s ssci salt)))))

pub key_of-ssci : (at : End) (number : Result ℕ LineFault) (bytes : Result Key LineFault) (offset : Result ℕ LineFault) (ssci : Result ℕ LineFault)
    (salt : Result (List ℕ) LineFault) (more : Result (ℕ × List ℕ) LineFault) → more ≡ and_then ssci (λ ssci. map_ok (λ salt. (ssci, salt)) salt) →
    key_of at number bytes offset (Ok None) more ≡ and_then number (λ n. and_then bytes (λ key. and_then offset (λ o. and_then ssci (λ ssci. and_then salt (λ salt.
    Ok (tells at (by.Key (key_from n key o None ssci salt))))))))
key_of-ssci at number bytes offset ssci salt more read =
    ap (key_of at number bytes offset (Ok None)) read
    ∙ after_three number bytes offset _ _
    (λ n key o. and_then-pair ssci salt (λ more. Ok (tells at (by.Key (key_from n key o None more.0 more.1)))))

and_then-both : (word : Result Suite LineFault) (ssci : Result ℕ LineFault) (salt : Result (List ℕ) LineFault) (next : Option Suite → ℕ × List ℕ → Result Line LineFault) →
    and_then (map_ok Some word) (λ s. and_then (and_then ssci (λ ssci. map_ok (λ salt. (ssci, salt)) salt)) (λ more. next s more))
    ≡ and_then word (λ s. and_then ssci (λ ssci. and_then salt (λ salt. next (Some s) (ssci, salt))))
and_then-both (Err fault) ssci salt next = refl
and_then-both (Ok s) ssci salt next = and_then-pair ssci salt (next (Some s))

pub key_of-both : (at : End) (number : Result ℕ LineFault) (bytes : Result Key LineFault) (offset : Result ℕ LineFault) (word : Result Suite LineFault) (ssci : Result ℕ LineFault)
    (salt : Result (List ℕ) LineFault) (suite : Result (Option Suite) LineFault) (more : Result (ℕ × List ℕ) LineFault) → suite ≡ map_ok Some word →
    more ≡ and_then ssci (λ ssci. map_ok (λ salt. (ssci, salt)) salt) →
    key_of at number bytes offset suite more ≡ and_then number (λ n. and_then bytes (λ key. and_then offset (λ o. and_then word (λ s. and_then ssci (λ ssci. and_then salt (λ salt.
    Ok (tells at (by.Key (key_from n key o (Some s) ssci salt)))))))))
key_of-both at number bytes offset word ssci salt suite more read read_more =
    ap (λ suite. key_of at number bytes offset suite more) read
    ∙ ap (key_of at number bytes offset (map_ok Some word)) read_more
    ∙ after_three number bytes offset _ _
    (λ n key o. and_then-both word ssci salt (λ s more. Ok (tells at (by.Key (key_from n key o s more.0 more.1)))))
