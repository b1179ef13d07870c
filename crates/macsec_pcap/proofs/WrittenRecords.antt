-- Records that are written in two pieces: head and frame.
use Rattle.{
  std.proofs.{
    Common.{◌≡◌, ℕ, ◌≤◌, List, ◌++◌, length, drop, refl, sym, ap, subst, ◌∙◌, append_assoc, Option, Result, Ok, Err},
    Common.{IfErr, OnErr, OnOk},
    KnownBytes.{Appends-trans, starts_with_rest},
    Transfers.starts_with_of_append,
  },
  std.specs.Io.KnownBytes.Appends,
  macsec_writes.specs.Fronts.AppendsFront,
  macsec_pcap.specs.{
    Limits.max_record_length,
    Writing.WritesRecord,
    Written.record_head,
    declared.fault.PcapFault.{PcapFault, TheVariants.Write},
  },
}

-- all of the first piece, and a prefix of the second
front_behind : (old mid new : Option (List ℕ)) (first second : List ℕ) → Appends old mid first → AppendsFront mid new second → AppendsFront old new (first ++ second)
front_behind old mid new first second adds (front, begins, more) = (
  first ++ front,
  starts_with_of_append (first ++ second) (first ++ front) (drop (length front) second)
      (ap (λ l. first ++ l) (starts_with_rest second front begins) ∙ sym (append_assoc first front (drop (length front) second))),
  Appends-trans old mid new first front adds more,
)

-- a prefix of the first piece
front_before : (old new : Option (List ℕ)) (first second : List ℕ) → AppendsFront old new first → AppendsFront old new (first ++ second)
front_before old new first second (front, begins, adds) = (
  front,
  starts_with_of_append (first ++ second) front (drop (length front) first ++ second)
      (ap (λ l. l ++ second) (starts_with_rest first front begins) ∙ append_assoc front (drop (length front) first) second),
  adds,
)

-- the head was not written completely
pub cuts_head : (old new : Option (List ℕ)) (seconds fraction : ℕ) (frame : List ℕ) {head : List ℕ} {fault : PcapFault} →
    length frame ≤ max_record_length → head ≡ record_head seconds fraction (length frame) → fault ≡ Write → AppendsFront old new head →
    WritesRecord old new seconds fraction frame (Err fault)
cuts_head old new seconds fraction frame fits same is cut =
    rw is (refl, fits, front_before old new (record_head seconds fraction (length frame)) frame (subst (AppendsFront old new) same cut))

-- the head was written, and then the frame
pub writes_record : (old mid new : Option (List ℕ)) (seconds fraction : ℕ) (frame : List ℕ) (answer : Result (Unit {0}) PcapFault) {head : List ℕ} →
    length frame ≤ max_record_length → head ≡ record_head seconds fraction (length frame) → Appends old mid head →
    OnOk answer (Appends mid new frame) → IfErr answer (λ fault. fault ≡ Write) → OnErr answer (AppendsFront mid new frame) →
    WritesRecord old new seconds fraction frame answer
writes_record old mid new seconds fraction frame (Ok done) fits same first second is cut =
    (fits, Appends-trans old mid new (record_head seconds fraction (length frame)) frame (subst (Appends old mid) same first) second)
writes_record old mid new seconds fraction frame (Err fault) fits same first second is cut =
    subst (λ f. WritesRecord old new seconds fraction frame (Err f)) (sym is)
    (refl, fits, front_behind old mid new (record_head seconds fraction (length frame)) frame (subst (Appends old mid) same first) cut)
