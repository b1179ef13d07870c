-- The SecTAG of a frame that is sent is valid.
use Rattle.{
  std.proofs.{
    Common.{◌≡◌, ℕ, ◌<◌, ◌-◌, List, length, Bool, true, false, refl, arith, Some, None, IsSome, slice_range},
    Common.{if◌then◌else◌},
    lemmas.Bool.Decides.nat_tests,
  },
  std.specs.Option.ForSome,
  macsec_tag.specs.{Tag.IsTag, declared.identifiers.Sci.Sci},
  macsec_commands.specs.declared.form.TagForm.TagForm,
  macsec_tx.specs.{
    Tags.{es_sent, is_own, scb_sent, sci_sent, sl_of},
    Transmit.tag_sent,
    declared.{TxOptions.TxOptions, TxRow.TxRow},
  },
}
use Rattle.macsec_commands.specs.declared.form.TagForm.TheVariants as form

-- SL is below 48
short : (n : ℕ) → sl_of n < 48
short n = grind (arith, nat_tests)

-- an SCI that is carried only for a foreign source address implies that the address is foreign
none_there : (own : Bool) (sci : Sci) → IsSome (if own then None else Some sci) → own ≡ false
none_there true sci there = cc
none_there false sci there = refl

-- ES is clear if there is an SCI
no_es : (f : TagForm) (many : Bool) (sci : Sci) (sa : List ℕ) → IsSome (sci_sent f many sci sa) → es_sent f sci sa ≡ false
no_es form.Auto many sci sa there = refl
no_es form.Sci many sci sa there = refl
no_es form.Es many sci sa there = none_there (is_own sci sa) sci there
no_es form.Scb many sci sa there = refl

-- SCB is clear if there is an SCI
no_scb : (f : TagForm) (many : Bool) (sci : Sci) (sa : List ℕ) → IsSome (sci_sent f many sci sa) → scb_sent f sci sa ≡ false
no_scb form.Auto many sci sa there = refl
no_scb form.Sci many sci sa there = refl
no_scb form.Es many sci sa there = refl
no_scb form.Scb many sci sa there = none_there (is_own sci sa) sci there

-- the SecTAG that is sent is valid
pub is_tag : (options : TxOptions) (row : TxRow) (frame : List ℕ) → row.an < 4
    → ForSome (tag_sent options row frame).sci (λ s. length s.0 ≡ 8) → IsTag (tag_sent options row frame)
is_tag options row frame an octets =
    let sa = slice_range frame 6 12 in
    record {
      an = an;
      sl = short (length frame - 12);
      pn = omega arith;
      sci_octets = octets;
      no_es = no_es options.form options.many options.sci sa;
      no_scb = no_scb options.form options.many options.sci sa;
    }
