-- The list of a run's stops: each stop is in it, and after the commands each has their text.
use Rattle.std.proofs.{
  Common.{◌≡◌, ℕ, ◌+◌, ◌≤◌, ◌<◌, List, [], ◌∷◌, ◌++◌, length, map, take, refl, sym, ap, subst, ◌∙◌, append-nil, arith},
  Common.{Contains, Result, Ok, Err, take_at},
  lemmas.List.{get_or-map, length-map},
  lemmas.List.{Elements.Contains-append_right, FromFn.{get_or-map-range_with_len, length-map-range_with_len}},
  lemmas.Simd.map-map,
}
use Rattle.std.specs.List.{range_with_len}
use Rattle.macsec_pcap.specs.{Captures.CaptureFile, declared.fault.PcapFault.PcapFault}
use Rattle.macsec_capture.specs.{
  Captured.{Part, Stop, first_stop, nothing, records_part, stop_after, stop_behind, stops_of},
  Runs.{AtFirst, AtSome},
  declared.Direction.Direction,
}

-- ---- each stop is in the list

pub at_first : (direction : Direction) (ready : Part) (file : Result CaptureFile PcapFault) (P : Stop → Type 0) → P (first_stop ready) →
    AtFirst (stops_of direction ready file) P
at_first direction ready (Err fault) P holds = holds
at_first direction ready (Ok file) P holds = holds

first_is_some : (stops : List Stop) (P : Stop → Type 0) → AtFirst stops P → AtSome stops P
first_is_some [] P holds = absurd holds
first_is_some (stop ∷ more) P holds = (stop, (0, omega arith, refl), holds)

pub some_at_first : (direction : Direction) (ready : Part) (file : Result CaptureFile PcapFault) (P : Stop → Type 0) → P (first_stop ready) →
    AtSome (stops_of direction ready file) P
some_at_first direction ready file P holds = first_is_some (stops_of direction ready file) P (at_first direction ready file P holds)

contains_number : (f : ℕ → Stop) (n count : ℕ) → n < count → Contains (map f (range_with_len 0 count)) (f n)
contains_number f n count within = (
  n,
  omega (arith, within, length-map-range_with_len f 0 count),
  get_or-map-range_with_len f 0 count n n (f n) within (omega arith),
)

pub some_behind : (direction : Direction) (ready : Part) (file : CaptureFile) (n : ℕ) (P : Stop → Type 0) → n ≤ length file.capture.records →
    P (stop_behind direction ready file n) → AtSome (stops_of direction ready (Ok file)) P
some_behind direction ready file n P within holds =
    let all = map (stop_behind direction ready file) (range_with_len 0 (length file.capture.records + 1)) in
    let stop = stop_behind direction ready file n in (
      stop,
      Contains-append_right (first_stop ready ∷ []) all stop
          (contains_number (stop_behind direction ready file) n (length file.capture.records + 1) (omega (arith, within))),
      holds,
    )

-- the last stop is after all records
pub at_last : (direction : Direction) (ready : Part) (file : CaptureFile) (P : Stop → Type 0) →
    P (stop_after ready file (records_part direction ready.state 0 file.capture.records)) → AtSome (stops_of direction ready (Ok file)) P
at_last direction ready file P holds =
    let all = file.capture.records in
    let is : take (length all) all ≡ all = ap (λ rs. take (length all) rs) (sym (append-nil all)) ∙ take_at all [] (length all) refl in
    some_behind direction ready file (length all) P (omega arith)
    (subst (λ rs. P (stop_after ready file (records_part direction ready.state 0 rs))) (sym is) holds)

-- ---- stops after what the commands printed

abbrev pub put_before : List ℕ → Stop → Stop
put_before lines stop = record { output = stop.output; text = lines ++ stop.text }

pub first_put : (lines : List ℕ) (stops : List Stop) (P Q : Stop → Type 0) → ((stop : Stop) → P stop → Q (put_before lines stop)) →
    AtFirst stops P → AtFirst (map (put_before lines) stops) Q
first_put lines [] P Q puts holds = absurd holds
first_put lines (stop ∷ more) P Q puts holds = puts stop holds

pub some_put : (lines : List ℕ) (stops : List Stop) (P Q : Stop → Type 0) → ((stop : Stop) → P stop → Q (put_before lines stop)) →
    AtSome stops P → AtSome (map (put_before lines) stops) Q
some_put lines stops P Q puts (stop, (k, within, is), holds) = (
  put_before lines stop,
  (
    k,
    omega (arith, within, length-map stops (put_before lines)),
    get_or-map (put_before lines) stops k stop (put_before lines stop) within ∙ ap (put_before lines) is,
  ),
  puts stop holds,
)

pub stops_put : (direction : Direction) (ready : Part) (file : Result CaptureFile PcapFault) →
    map (put_before ready.text) (stops_of direction (nothing ready.state) file) ≡ stops_of direction ready file
stops_put direction ready (Err fault) = ap (λ (xs : List ℕ). record { output = []; text = xs } ∷ []) (append-nil ready.text)
stops_put direction ready (Ok file) =
    let numbers = range_with_len 0 (length file.capture.records + 1) in
    ap (λ (xs : List ℕ). record { output = []; text = xs } ∷ map (put_before ready.text) (map (stop_behind direction (nothing ready.state) file) numbers)) (append-nil ready.text)
    ∙ ap (λ (stops : List Stop). first_stop ready ∷ stops) (map-map (put_before ready.text) (stop_behind direction (nothing ready.state) file) numbers)
