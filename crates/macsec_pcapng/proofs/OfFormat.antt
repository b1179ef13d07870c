-- The results of reading a file have no fault `Memory`, `Read` or `Write`.
use Rattle.{
  std.proofs.Common.{Bool, true, false, if◌then◌else◌, Some, Result, Ok, Err},
  macsec_pcap.specs.declared.fault.PcapFault.PcapFault,
  macsec_pcapng.specs.Laws.IsOfFormat,
}

abbrev pub FaultIsOfFormat : {X : Type 0} → Result X PcapFault → Type 0
FaultIsOfFormat (Ok x) = Unit {0}
FaultIsOfFormat (Err fault) = IsOfFormat (Some fault)

-- a choice between two such results
pub picked : {X : Type 0} (P : X → Type 0) (b : Bool) (x y : X) → P x → P y → P (if b then x else y)
picked P true x y first second = first
picked P false x y first second = second

pub chosen : {X : Type 0} (b : Bool) (x y : Result X PcapFault) → FaultIsOfFormat x → FaultIsOfFormat y → FaultIsOfFormat (if b then x else y)
chosen b x y first second = picked FaultIsOfFormat b x y first second
