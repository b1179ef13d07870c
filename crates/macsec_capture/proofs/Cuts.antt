-- An output that is cut between two stops: `AtNext` and `CutsOutput` of runs whose output fails.
use Rattle.{
  std.proofs.{
    Common.{◌≡◌, ℕ, zero, suc, ◌+◌, ◌≤◌, ◌<◌, List, [], ◌∷◌, ◌++◌, length, map, take, drop, refl, sym, ap, subst, ◌∙◌},
    Common.{append_assoc, arith, take-append-drop, Option, Some, Ok, option_map, slice_get, take_all},
    KnownBytes.{Appends-kept, Appends-trans, starts_with_rest},
    Transfers.{starts_with_of_append, starts_with_of_eq},
    lemmas.List.FromFn.{get_or-map-range_with_len, length-map-range_with_len},
    lemmas.Option.{slice_get-get_or, slice_get-map},
  },
  std.specs.{Io.{StartsWith, KnownBytes.{Appends, Keeps}}, List.range_with_len},
  macsec_secy.specs.State.State,
  macsec_writes.specs.Fronts.AppendsFront,
  macsec_pcap.specs.{Captures.CaptureFile, Records.CaptureRecord, Written.header_octets},
  macsec_capture.{
    proofs.Stops.put_before,
    specs.Captured.{Part, Stop, first_stop, nothing, record_part, records_part, stop_behind, stops_of},
    specs.Runs.{AppendsUpTo, AtNext, CutsOutput, Written, first_part},
    specs.declared.Direction.Direction,
  },
}

-- ---- octets that are cut

begins_behind : (first xs front : List ℕ) → StartsWith xs front → StartsWith (first ++ xs) (first ++ front)
begins_behind first xs front begins =
    starts_with_of_append (first ++ xs) (first ++ front) (drop (length front) xs)
    (ap (λ l. first ++ l) (starts_with_rest xs front begins) ∙ sym (append_assoc first front (drop (length front) xs)))

-- all of `first`, and then a prefix of `more`
pub up_to_front : (old mid new : Option (List ℕ)) (first more : List ℕ) → Appends old mid first → AppendsFront mid new more → AppendsUpTo old new first (first ++ more)
up_to_front old mid new first more adds (front, begins, grows) = (
  first ++ front,
  starts_with_of_append (first ++ front) first front refl,
  begins_behind first more front begins,
  Appends-trans old mid new first front adds grows,
)

pub up_to_behind : (old mid new : Option (List ℕ)) (header first whole : List ℕ) → Appends old mid header → AppendsUpTo mid new first whole →
    AppendsUpTo old new (header ++ first) (header ++ whole)
up_to_behind old mid new header first whole adds (octets, has, within, grows) = (
  header ++ octets,
  begins_behind header octets first has,
  begins_behind header whole octets within,
  Appends-trans old mid new header octets adds grows,
)

up_to_kept : (old mid new : Option (List ℕ)) (first whole : List ℕ) → Keeps mid new → AppendsUpTo old mid first whole → AppendsUpTo old new first whole
up_to_kept old mid new first whole kept (octets, has, within, adds) = (octets, has, within, Appends-kept old mid new octets adds kept)

-- ---- a stop and the next

number_at : (f : ℕ → Stop) (n count : ℕ) → n < count → slice_get (map f (range_with_len 0 count)) n ≡ Some (f n)
number_at f n count within =
    slice_get-get_or (map f (range_with_len 0 count)) n (f n) (omega (arith, within, length-map-range_with_len f 0 count))
    ∙ ap Some (get_or-map-range_with_len f 0 count n n (f n) within (omega arith))

-- the stop after n records is at index n + 1
stop_at : (direction : Direction) (ready : Part) (file : CaptureFile) (n : ℕ) → n ≤ length file.capture.records →
    slice_get (stops_of direction ready (Ok file)) (n + 1) ≡ Some (stop_behind direction ready file n)
stop_at direction ready file n within =
    let next : n + 1 ≡ suc n = omega arith in
    ap (slice_get (stops_of direction ready (Ok file))) next
    ∙ number_at (stop_behind direction ready file) n (length file.capture.records + 1) (omega (arith, within))

-- the header is written between the first two stops
pub at_header : (direction : Direction) (ready : Part) (file : CaptureFile) (P : Stop → Stop → Type 0) → P (first_stop ready) (stop_behind direction ready file 0) →
    AtNext (stops_of direction ready (Ok file)) P
at_header direction ready file P holds = (0, first_stop ready, stop_behind direction ready file 0, refl, stop_at direction ready file 0 (omega arith), holds)

pub at_record : (direction : Direction) (ready : Part) (file : CaptureFile) (n : ℕ) (P : Stop → Stop → Type 0) → n < length file.capture.records →
    P (stop_behind direction ready file n) (stop_behind direction ready file (n + 1)) → AtNext (stops_of direction ready (Ok file)) P
at_record direction ready file n P within holds = (
  n + 1,
  stop_behind direction ready file n,
  stop_behind direction ready file (n + 1),
  stop_at direction ready file n (omega (arith, within)),
  stop_at direction ready file (n + 1) (omega (arith, within)),
  holds,
)

-- the same of the stops that `put` makes of these
pub next_put : (put : Stop → Stop) (stops : List Stop) (P Q : Stop → Stop → Type 0) → ((before after : Stop) → P before after → Q (put before) (put after)) →
    AtNext stops P → AtNext (map put stops) Q
next_put put stops P Q puts (k, before, after, here, there, holds) = (
  k,
  put before,
  put after,
  slice_get-map put stops k ∙ ap (option_map put) here,
  slice_get-map put stops (k + 1) ∙ ap (option_map put) there,
  puts before after holds,
)

pub next_kept : (stops : List Stop) (P Q : Stop → Stop → Type 0) → ((before after : Stop) → P before after → Q before after) → AtNext stops P → AtNext stops Q
next_kept stops P Q keeps (k, before, after, here, there, holds) = (k, before, after, here, there, keeps before after holds)

pub cut_kept : (old mid new : Written) (before after : Stop) → Keeps mid.output new.output → Keeps mid.text new.text → CutsOutput old mid before after →
    CutsOutput old new before after
cut_kept old mid new before after output text (lines, octets) = (
  Appends-kept old.text mid.text new.text after.text lines text,
  up_to_kept old.output mid.output new.output before.output after.output output octets,
)

pub cut_put : (lines : List ℕ) (old mid new : Written) (before after : Stop) → mid.output ≡ old.output → Appends old.text mid.text lines →
    CutsOutput mid new before after → CutsOutput old new (put_before lines before) (put_before lines after)
cut_put lines old mid new before after same prints (text, octets) = (
  Appends-trans old.text mid.text new.text lines after.text prints text,
  subst (λ o. AppendsUpTo o new.output before.output after.output) same octets,
)

-- ---- a complete output

-- the first records write a prefix of what all write
front_of_all : (direction : Direction) (s : State) (k : ℕ) (xs ys : List CaptureRecord) →
    StartsWith (records_part direction s k (xs ++ ys)).output (records_part direction s k xs).output
front_of_all direction s k [] ys = refl
front_of_all direction s k (x ∷ xs) ys =
    let first = record_part direction s k x in
    begins_behind first.output _ _ (front_of_all direction first.state (k + 1) xs ys)

front_of_more : (direction : Direction) (s : State) (records : List CaptureRecord) (n : ℕ) →
    StartsWith (records_part direction s 0 records).output (first_part direction s records n).output
front_of_more direction s records n =
    subst (λ rs. StartsWith (records_part direction s 0 rs).output (first_part direction s records n).output) (take-append-drop n records)
    (front_of_all direction s 0 (take n records) (drop n records))

-- everything was written, and the output can't be flushed
pub at_flush : (direction : Direction) (s : State) (file : CaptureFile) (old new : Written) (n : ℕ) → n ≡ length file.capture.records →
    Appends old.text new.text (records_part direction s 0 file.capture.records).text →
    Appends old.output new.output (header_octets file.resolution ++ (records_part direction s 0 file.capture.records).output) →
    AtNext (stops_of direction (nothing s) (Ok file)) (CutsOutput old new)
at_flush direction s file old new zero long lines octets =
    let all = file.capture.records in
    let is : take 0 all ≡ all = take_all 0 all (omega (arith, long)) in
    at_header direction (nothing s) file (CutsOutput old new) (
      subst (λ rs. Appends old.text new.text (records_part direction s 0 rs).text) (sym is) lines,
      (
        header_octets file.resolution ++ (records_part direction s 0 all).output,
        refl,
        starts_with_of_eq _ _ (ap (λ rs. header_octets file.resolution ++ (records_part direction s 0 rs).output) is),
        octets,
      ),
    )
at_flush direction s file old new (suc m) long lines octets =
    let all = file.capture.records in
    let header = header_octets file.resolution in
    let is : take (m + 1) all ≡ all = take_all (m + 1) all (omega (arith, long)) in
    at_record direction (nothing s) file m (CutsOutput old new) (omega (arith, long)) (
      subst (λ rs. Appends old.text new.text (records_part direction s 0 rs).text) (sym is) lines,
      (
        header ++ (records_part direction s 0 all).output,
        begins_behind header (records_part direction s 0 all).output (first_part direction s all m).output (front_of_more direction s all m),
        starts_with_of_eq _ _ (ap (λ rs. header ++ (records_part direction s 0 rs).output) is),
        octets,
      ),
    )
