-- The answer to a management command has at most 64 octets.
use Rattle.{
  std.proofs.{
    Common.{◌≡◌, ℕ, ◌+◌, ◌<◌, ◌≤◌, ◌^◌, List, ◌++◌, length, refl, arith, length-append, leb-true, codes, decimal},
    Common.{nat_le, true},
    lemmas.Fmt.length-decimal-le,
  },
  std.specs.Fmt.digits,
  macsec_suite.specs.declared.refusal.Refusal.{
    Refusal,
    TheVariants.{KeyLength, Offset, KeyNumberUsed, KeyRepeated, NoKey, KeyRetired, KeyInUse, OwnSci, ScTaken, ScFull},
    TheVariants.{NoSc, AnTaken, NoSa, PnRange, PnLower, PnFloor, SsciOwn, Window, SciForm, Exhausted},
  },
  macsec_commands.specs.declared.{command.Command.Command, event.End.TheVariants.A},
  macsec_secy.specs.Step.{Output, refused},
  macsec_reserve.specs.Keeping.{dropped_no_reservation, endpoint_output, noted},
  macsec_ahead.specs.Ahead.{Ahead, AheadOutput, dropped_before_this_run, dropped_not_reserved},
  macsec_ahead.specs.Renewing.command_renewing,
  macsec_ahead.specs.Ahead.kept,
  macsec_script_parser.specs.Kinds.tells,
  macsec_script_printer.specs.{OneEnd.command_text, Refusals.refusal_text},
  macsec_c_calls.specs.{Answers.{answer_of_line, commanded}, Writing.needed},
}

-- the number and the name of a refusal
is_short : (r : Refusal) → nat_le (length (refusal_text r)) 16 ≡ true
unfolding digits
is_short KeyLength = refl
is_short Offset = refl
is_short KeyNumberUsed = refl
is_short KeyRepeated = refl
is_short NoKey = refl
is_short KeyRetired = refl
is_short KeyInUse = refl
is_short OwnSci = refl
is_short ScTaken = refl
is_short ScFull = refl
is_short NoSc = refl
is_short AnTaken = refl
is_short NoSa = refl
is_short PnRange = refl
is_short PnLower = refl
is_short PnFloor = refl
is_short SsciOwn = refl
is_short Window = refl
is_short SciForm = refl
is_short Exhausted = refl

pub refusal_short : (r : Refusal) → length (refusal_text r) ≤ 16
refusal_short r = leb-true (length (refusal_text r)) 16 (is_short r)

-- the lengths of texts one after another
two : (a b : List ℕ) → length (a ++ b) ≡ length a + length b
two a b = length-append a b

four : (a b c d : List ℕ) → length (a ++ b ++ c ++ d) ≡ length a + length b + length c + length d
four a b c d = simp length-append refl

number_short : (n : ℕ) → n < 2 ^ 32 → length (decimal n) ≤ 10
number_short n small = length-decimal-le 10 n (omega arith) (omega arith) (omega arith)

done_short : (n : ℕ) → n < 2 ^ 32 → length (decimal n ++ codes " done\n") ≤ 64
done_short n small = omega (arith, two (decimal n) (codes " done\n"), number_short n small)

pub command_short : (n : ℕ) → n < 2 ^ 32 → (output : Output) → length (command_text n output) ≤ 64
command_short n small (refused r) =
    omega (
      arith,
      four (decimal n) (codes " refused ") (refusal_text r)
          (codes "\n"),
      number_short n small,
      refusal_short r,
    )
command_short n small other = done_short n small

pub commanded_short : (n : ℕ) → n < 2 ^ 32 → (output : AheadOutput) (e : Ahead) →
    length (commanded n output e).text ≤ 64
commanded_short n small (kept (endpoint_output output)) e = command_short n small output
commanded_short n small (kept dropped_no_reservation) e = omega arith
commanded_short n small (kept noted) e = omega arith
commanded_short n small (dropped_not_reserved at) e = omega arith
commanded_short n small (dropped_before_this_run at) e = omega arith

-- no answer to a management command needs more than the smallest buffer
pub command_needs : (e : Ahead) (n : ℕ) (c : Command) → n < 2 ^ 32 → needed (answer_of_line e n (tells A c)) ≡ 64
command_needs e n c small =
    let after = command_renewing e c in
    let short = commanded_short n small after.0 after.1 in
    omega arith
