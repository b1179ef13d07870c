-- What successive writes append to the output and to the text.
use Rattle.std.{
  proofs.Common.{ℕ, List, [], ◌∷◌, ◌++◌, None, Result, Ok, Err},
  proofs.KnownBytes.{Appends-kept, Appends-nil, Appends-trans, Keeps-refl, Keeps-trans},
  specs.Io.KnownBytes.Keeps,
}
use Rattle.macsec_pcap.specs.declared.fault.PcapFault.TheVariants.{Read, Write, Memory}
use Rattle.macsec_capture.{
  proofs.Cuts.{cut_kept, next_kept},
  specs.Captured.{Captured, Stop},
  specs.Runs.{AtFirst, AtSome, CaptureGives, Grows, Stays, Written, known},
  specs.declared.fault.CaptureFault.{CaptureFault, TheVariants.{Script, Pcap}},
}
use Rattle.macsec_script_parser.specs.declared.faults.ScriptFault.TheVariants as script

pub Stays-same : (w : Written) → Stays w w
Stays-same w = record { output = Keeps-refl w.output; text = Keeps-refl w.text }

pub Grows-nothing : (w : Written) → Grows w w [] []
Grows-nothing w = record { output = Appends-nil w.output; text = Appends-nil w.text }

pub Grows-more : (a b c : Written) (xs ys us vs : List ℕ) → Grows a b xs us → Grows b c ys vs → Grows a c (xs ++ ys) (us ++ vs)
Grows-more a b c xs ys us vs first second = record {
  output = Appends-trans a.output b.output c.output xs ys first.output second.output;
  text = Appends-trans a.text b.text c.text us vs first.text second.text;
}

-- ---- writers whose octets do not change, as in a flush

pub record Kept (mid new : Written) : Type 0 where
  pub output : Keeps mid.output new.output
  pub text : Keeps mid.text new.text

pub Grows-kept : (old mid new : Written) (octets lines : List ℕ) → Kept mid new → Grows old mid octets lines → Grows old new octets lines
Grows-kept old mid new octets lines kept grows = record {
  output = Appends-kept old.output mid.output new.output octets grows.output kept.output;
  text = Appends-kept old.text mid.text new.text lines grows.text kept.text;
}

pub Stays-kept : (old mid new : Written) → Kept mid new → Stays old mid → Stays old new
Stays-kept old mid new kept stays = record {
  output = Keeps-trans old.output mid.output new.output stays.output kept.output;
  text = Keeps-trans old.text mid.text new.text stays.text kept.text;
}

first_kept : (stops : List Stop) (P Q : Stop → Type 0) → ((stop : Stop) → P stop → Q stop) → AtFirst stops P → AtFirst stops Q
first_kept [] P Q keeps at = absurd at
first_kept (stop ∷ more) P Q keeps at = keeps stop at

some_kept : (stops : List Stop) (P Q : Stop → Type 0) → ((stop : Stop) → P stop → Q stop) → AtSome stops P → AtSome stops Q
some_kept stops P Q keeps at = (at.0, at.1, keeps at.0 at.2)

-- a run that ends with a fault still does if the writers keep what they have
pub fault_kept : (whole : Captured) (old mid new : Written) → Kept mid new → (fault : CaptureFault) →
    CaptureGives whole old mid (Err fault) → CaptureGives whole old new (Err fault)
fault_kept whole old mid new kept (Script script.Memory) gives = Stays-kept old mid new kept gives
fault_kept whole old mid new kept (Script script.Read) gives = Stays-kept old mid new kept gives
fault_kept whole old mid new kept (Script script.Write) gives =
    some_kept whole.stops _ _ (λ stop at. Appends-kept old.output mid.output new.output stop.output at kept.output) gives
fault_kept whole old mid new kept (Script fault) gives = (gives.0, Stays-kept old mid new kept gives.1)
fault_kept whole old mid new kept (Pcap Memory) gives = first_kept whole.stops _ _ (λ stop at. Grows-kept old mid new stop.output stop.text kept at) gives
fault_kept whole old mid new kept (Pcap Read) gives = some_kept whole.stops _ _ (λ stop at. Grows-kept old mid new stop.output stop.text kept at) gives
fault_kept whole old mid new kept (Pcap Write) gives =
    next_kept whole.stops _ _ (λ before after cut. cut_kept old mid new before after kept.output kept.text cut) gives
fault_kept whole old mid new kept (Pcap fault) gives = (gives.0, Grows-kept old mid new whole.output whole.text kept gives.1)

-- ---- an output whose octets are not known

pub forgotten : (whole : Captured) (old new : Written) (answer : Result (Unit {0}) CaptureFault) → CaptureGives whole old new answer →
    CaptureGives whole (known None old.text) (known None new.text) answer
forgotten whole old new (Ok done) gives = (gives.0, record { output = tt; text = gives.1.text })
forgotten whole old new (Err (Script script.Memory)) gives = record { output = tt; text = gives.text }
forgotten whole old new (Err (Script script.Read)) gives = record { output = tt; text = gives.text }
forgotten whole old new (Err (Script script.Write)) gives = (gives.0, gives.1, tt)
forgotten whole old new (Err (Script fault)) gives = (gives.0, record { output = tt; text = gives.1.text })
forgotten whole old new (Err (Pcap Memory)) gives = first_kept whole.stops _ _ (λ stop at. record { output = tt; text = at.text }) gives
forgotten whole old new (Err (Pcap Read)) gives = (gives.0, gives.1, record { output = tt; text = gives.2.text })
forgotten whole old new (Err (Pcap Write)) gives =
    next_kept whole.stops _ _ (λ before after cut. (cut.0, (cut.1.0, cut.1.1, cut.1.2, tt))) gives
forgotten whole old new (Err (Pcap fault)) gives = (gives.0, record { output = tt; text = gives.1.text })
