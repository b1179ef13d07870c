-- The law `read_again`: a written file is read as the records that were written.
use Rattle.{
  std.proofs.Common.{◌≡◌, ℕ, zero, suc, ◌^◌, ◌<◌, ◌≤◌, List, [], ◌∷◌, ◌++◌, length, map, drop, refl, ap, ◌∙◌},
  std.proofs.Common.{arith, append_assoc, length-append, Some, None, Ok, le-ltb, take_at},
  std.proofs.Common.drop_at,
  byteorder.specs.{Endian.little_bytes, Numbers.little_number-reads_back},
  macsec_pcap.proofs.{Headers.header_of-append, RecordsAt.{at_head, at_head-whole, record_at-append}},
  macsec_pcap.specs.{
    Answers.{head_of, record_in},
    Captures.{Capture, begun_by, file_in, records_of},
    Header.header_of,
    Laws.{AllCanBeWritten, CanBeWritten, ReadAgain, WholeRecord, as_read, written_records},
    Limits.max_records,
    Numbers.number,
    Records.{record_at},
    Written.{header_octets, record_head, record_octets},
    declared.{form.{Order.TheVariants.Little, Resolution.{Resolution, TheVariants.{Micro, Nano}}}, records.Head.Head},
  },
}

-- the head of a written record
abbrev numbers : ℕ → ℕ → ℕ → ℕ → Head
numbers seconds fraction captured original = record { seconds = seconds; fraction = fraction; captured = captured; original = original }

abbrev numbers_of : ℕ → ℕ → ℕ → Head
numbers_of seconds fraction len = numbers seconds fraction len len

head_of-written : (seconds fraction len : ℕ) → seconds < 2 ^ 32 → fraction < 2 ^ 32 → len < 2 ^ 32 →
    head_of Little (record_head seconds fraction len) ≡ numbers_of seconds fraction len
head_of-written seconds fraction len s f l =
    let octets = record_head seconds fraction len in
    let first : number Little 4 octets ≡ seconds = little_number-reads_back 4 seconds (little_bytes 4 fraction ++ little_bytes 4 len ++ little_bytes 4 len) s in
    let second : number Little 4 (drop 4 octets) ≡ fraction = little_number-reads_back 4 fraction (little_bytes 4 len ++ little_bytes 4 len) f in
    let third : number Little 4 (drop 8 octets) ≡ len = little_number-reads_back 4 len (little_bytes 4 len) l in
    let fourth : number Little 4 (drop 12 octets) ≡ len = little_number-reads_back 4 len [] l in
    ap (λ x. numbers x (number Little 4 (drop 4 octets)) (number Little 4 (drop 8 octets)) (number Little 4 (drop 12 octets))) first
    ∙ ap (λ x. numbers seconds x (number Little 4 (drop 8 octets)) (number Little 4 (drop 12 octets))) second
    ∙ ap (λ x. numbers seconds fraction x (number Little 4 (drop 12 octets))) third
    ∙ ap (λ x. numbers seconds fraction len x) fourth

-- a whole record
record_in-whole : (seconds fraction : ℕ) (frame rest : List ℕ) →
    record_in (numbers_of seconds fraction (length frame)) (frame ++ rest) ≡ as_read (record { seconds = seconds; fraction = fraction; frame = frame })
record_in-whole seconds fraction frame rest =
    rw (le-ltb (length frame) (length frame) (omega arith), take_at frame rest (length frame) refl)

record_at-written : (r : WholeRecord) (rest : List ℕ) → CanBeWritten r → record_at Little (record_octets r.seconds r.fraction r.frame ++ rest) ≡ Ok (Some (as_read r, rest))
record_at-written r rest can =
    let len = length r.frame in
    let head = record_head r.seconds r.fraction len in
    let behind = r.frame ++ rest in
    let small : len < 2 ^ 32 = omega (arith, can.frame) in
    let enough : len ≤ length behind = omega (arith, length-append r.frame rest) in
    ap (record_at Little) (append_assoc head r.frame rest)
    ∙ record_at-append Little head behind refl
    ∙ ap (λ (h : Head). at_head h behind (drop h.captured behind)) (head_of-written r.seconds r.fraction len can.seconds can.fraction small)
    ∙ at_head-whole (numbers_of r.seconds r.fraction len) behind (drop len behind) can.frame enough
    ∙ ap (λ x. Ok (Some (x, drop len behind))) (record_in-whole r.seconds r.fraction r.frame rest)
    ∙ ap (λ xs. Ok (Some (as_read r, xs))) (drop_at r.frame rest len refl)

records_of-written : (places : ℕ) (records : List WholeRecord) → length records ≤ places → AllCanBeWritten records →
    records_of Little places (written_records records) ≡ record { records = map as_read records; fault = None }
unfolding records_of
records_of-written zero [] fits can = refl
records_of-written (suc places) [] fits can = refl
records_of-written zero (r ∷ more) fits can = absurd (omega (arith, fits))
records_of-written (suc places) (r ∷ more) fits can =
    ap (λ begins. begun_by begins (λ rest. records_of Little places rest)) (record_at-written r (written_records more) can.0)
    ∙ ap (λ (capture : Capture). record { records = as_read r ∷ capture.records; fault = capture.fault }) (records_of-written places more (omega (arith, fits)) can.1)

header_of-written : (unit : Resolution) → header_of (header_octets unit) ≡ Ok (record { order = Little; resolution = unit })
header_of-written Micro = refl
header_of-written Nano = refl

length-header : (unit : Resolution) → length (header_octets unit) ≡ 24
length-header unit = refl

pub file_of-written : (unit : Resolution) (records : List WholeRecord) → ReadAgain unit records
file_of-written unit records fits can =
    let octets = header_octets unit ++ written_records records in
    let header : header_of octets ≡ Ok (record { order = Little; resolution = unit }) =
    header_of-append (header_octets unit) (written_records records) (omega (arith, length-header unit)) ∙ header_of-written unit in
    let behind : drop 24 octets ≡ written_records records = drop_at (header_octets unit) (written_records records) 24 (length-header unit) in
    ap (λ form. file_in form octets) header
    ∙ ap (λ rest. Ok (record { resolution = unit; capture = records_of Little max_records rest })) behind
    ∙ ap (λ capture. Ok (record { resolution = unit; capture = capture })) (records_of-written max_records records fits can)
