-- Reading a block and applying it to the section, and reading the first block of a file.
use Rattle.std.proofs.{
  Common.{◌≡◌, ◌≢◌, ℕ, ◌+◌, ◌-◌, ◌≤◌, List, take, drop, sym, ap, subst, ◌∙◌, arith, Option, Some, None, IfSome, Result},
  Common.{Ok, Err, false, true, ◌==◌, nat_lt, not, if◌then◌else◌, take-take},
  lemmas.{Bool.Decides.nat_tests, List.drop-take},
}
use Rattle.macsec_pcap.specs.{
  Answers.UnlessRead,
  Captures.CaptureFile,
  Limits.max_records,
  Reading.Opens,
  Records.{CaptureRecord, Content, whole, partial, other_link},
  declared.fault.PcapFault.{PcapFault, TheVariants.{CutHeader, Magic, Memory, Read}},
  declared.form.{Order.{Order, TheVariants.Big}, Resolution.TheVariants.Nano},
}
use Rattle.macsec_pcapng.specs.{
  Answers.{IsLeft, TakesBlock, TakesHeader, TakesOne, block_by},
  Blocks.{Begins, block_at, kept, section_header},
  Files.{capture_of, file_after, file_by, in_header, pcapng_of, taken_at, taken_by, taken_with},
  Interfaces.ethernet,
  Limits.max_blocks,
  Packets.packet_record,
  Reading.content_ahead,
  Section.Section,
  Sections.{left_by, new_section},
  declared.{blocks.Head.Head, packets.Packet.Packet, taking.Taken.TheVariants.{End, Found}},
}

-- what a packet with these octets has
abbrev with_octets : Packet → List ℕ → Content
with_octets packet octets =
    if not (packet.link_type == ethernet) then other_link packet.link_type
    else if nat_lt packet.captured packet.original then partial
    else whole octets

-- the octets of a packet are within the kept octets of the block's body
packet_record-take : (packet : Packet) (room : List ℕ) (n : ℕ) → packet.start + packet.captured ≤ n → packet_record packet (take n room) ≡ packet_record packet room
packet_record-take packet room n fits =
    let m = n - packet.start in
    let all : n ≡ packet.start + m = omega (arith, fits) in
    let few : packet.captured ≤ m = omega (arith, fits) in
    let same : take packet.captured (drop packet.start (take n room)) ≡ take packet.captured (drop packet.start room) =
    ap (λ k. take packet.captured (drop packet.start (take k room))) all ∙ ap (take packet.captured) (drop-take packet.start m room)
    ∙ take-take packet.captured m (drop packet.start room) few in
    ap (λ xs. record { seconds = packet.seconds; fraction = packet.fraction; content = with_octets packet xs }) same

unless_read : (begins : Begins) (section : Section) (fault : PcapFault) → UnlessRead begins (Err fault) → UnlessRead (taken_by section begins) (Err fault)
unless_read begins section Read h = tt
unless_read begins section fault h = ap (taken_by section) h

-- the same result under equal names
pub taken_as : (old new : Option (List ℕ)) (order section_order : Order) (room : List ℕ) (answer named : Result (Option Head) PcapFault) → order ≡ section_order → answer ≡ named →
    IfSome old (λ octets. TakesBlock (block_at order octets) new room answer) → IfSome old (λ octets. TakesBlock (block_at section_order octets) new room named)
taken_as old new order section_order room answer named same is taken =
    subst (λ o. IfSome old (λ octets. TakesBlock (block_at o octets) new room named)) same
    (subst (λ a. IfSome old (λ octets. TakesBlock (block_at order octets) new room a)) is taken)

pub left_as : (section next : Section) (head : Head) (room : List ℕ) (n m : ℕ) (answer named : Result (Option Packet) PcapFault) → n ≡ m → answer ≡ named →
    IsLeft (left_by section (block_by head (take n room))) next answer → IsLeft (left_by section (block_by head (take m room))) next named
left_as section next head room n m answer named same is left =
    subst (λ k. IsLeft (left_by section (block_by head (take k room))) next named) same
    (subst (λ a. IsLeft (left_by section (block_by head (take n room))) next a) is left)

-- no block was read
pub one_fault : (old new last : Option (List ℕ)) (section next : Section) (room other : List ℕ) (fault : PcapFault) →
    IfSome old (λ octets. TakesBlock (block_at section.order octets) new room (Err fault)) → IfSome old (λ octets. TakesOne section octets next last other (Err fault))
one_fault None new last section next room other fault taken = tt
one_fault (Some octets) new last section next room other fault taken = unless_read (block_at section.order octets) section fault taken

pub one_end : (old new last : Option (List ℕ)) (section next : Section) (room other : List ℕ) →
    IfSome old (λ octets. TakesBlock (block_at section.order octets) new room (Ok None)) → IfSome old (λ octets. TakesOne section octets next last other (Ok End))
one_end None new last section next room other taken = tt
one_end (Some octets) new last section next room other taken = ap (taken_by section) taken

-- a block was read, and what it leaves
pub one_found : (old new : Option (List ℕ)) (section next : Section) (room : List ℕ) (head : Head) (packet : Packet) → packet.start + packet.captured ≤ kept head.len →
    IfSome old (λ octets. TakesBlock (block_at section.order octets) new room (Ok (Some head))) →
    IsLeft (left_by section (block_by head (take (kept head.len) room))) next (Ok (Some packet)) →
    IfSome old (λ octets. TakesOne section octets next new room (Ok (Found packet)))
one_found None new section next room head packet fits taken left = tt
one_found (Some octets) new section next room head packet fits taken left = (
  taken.0,
  ap (taken_by section) taken.1 ∙ ap (λ l. taken_with l (take (kept head.len) room) taken.0) left
      ∙ ap (λ r. Ok (Some (next, Some r, taken.0))) (packet_record-take packet room (kept head.len) fits),
  taken.2,
)

is_fault : (meant : Result (Option (Section × Option CaptureRecord × List ℕ)) PcapFault) (fault : PcapFault) → meant ≡ Err fault → UnlessRead meant (Err fault)
is_fault meant Read same = tt
is_fault meant fault same = sym same

pub one_refused : (old new last : Option (List ℕ)) (section next : Section) (room other : List ℕ) (head : Head) (fault : PcapFault) →
    IfSome old (λ octets. TakesBlock (block_at section.order octets) new room (Ok (Some head))) →
    IsLeft (left_by section (block_by head (take (kept head.len) room))) next (Err fault) →
    IfSome old (λ octets. TakesOne section octets next last other (Err fault))
one_refused None new last section next room other head fault taken left = tt
one_refused (Some octets) new last section next room other head fault taken left =
    is_fault (taken_at section octets) fault (ap (taken_by section) taken.1 ∙ ap (λ l. taken_with l (take (kept head.len) room) taken.0) left)

-- ---- the first section header

pub header_none : (old new last : Option (List ℕ)) (room : List ℕ) → IfSome old (λ octets. TakesBlock (block_at Big octets) new room (Ok None)) →
    IfSome old (λ file. TakesHeader file last (Err CutHeader))
header_none None new last room taken = tt
header_none (Some octets) new last room taken = sym (ap file_by taken)

pub header_fault : (old new last : Option (List ℕ)) (room : List ℕ) (fault : PcapFault) → IfSome old (λ octets. TakesBlock (block_at Big octets) new room (Err fault)) →
    IfSome old (λ file. TakesHeader file last (Err (in_header fault)))
header_fault None new last room fault taken = tt
header_fault (Some octets) new last room Read taken = tt
header_fault (Some octets) new last room fault taken = ap file_by taken

other_block : (kind : ℕ) → kind ≢ section_header → (kind == section_header) ≡ false
other_block kind other = grind (arith, nat_tests)

same_block : (kind : ℕ) → kind ≡ section_header → (kind == section_header) ≡ true
same_block kind same = grind (arith, nat_tests)

pub header_other : (old new last : Option (List ℕ)) (room : List ℕ) (head : Head) → head.kind ≢ section_header →
    IfSome old (λ octets. TakesBlock (block_at Big octets) new room (Ok (Some head))) → IfSome old (λ file. TakesHeader file last (Err Magic))
header_other None new last room head other taken = tt
header_other (Some octets) new last room head other taken =
    let test : (head.kind == section_header) ≡ false = other_block head.kind other in
    sym (ap file_by taken.1 ∙ ap (λ b. if b then file_after (new_section false head.order (take (kept head.len) room)) taken.0 else Err Magic) test)

of_header : (octets rest : List ℕ) (new : Option (List ℕ)) (made answer : Result Section PcapFault) → pcapng_of octets ≡ file_after made rest → answer ≡ made → new ≡ Some rest →
    TakesHeader octets new answer
of_header octets rest new made (Ok section) is same left = (rest, is ∙ ap (λ s. file_after s rest) (sym same), left)
of_header octets rest new made (Err fault) is same left = file_fault (pcapng_of octets) fault (is ∙ ap (λ s. file_after s rest) (sym same))
  where
    file_fault : (meant : Result CaptureFile PcapFault) (fault : PcapFault) → meant ≡ Err fault → UnlessRead meant (Err fault)
    file_fault meant Read same = tt
    file_fault meant fault same = sym same

pub header_made : (old new : Option (List ℕ)) (room : List ℕ) (head : Head) (answer : Result Section PcapFault) → head.kind ≡ section_header →
    answer ≡ new_section false head.order (take (kept head.len) room) →
    IfSome old (λ octets. TakesBlock (block_at Big octets) new room (Ok (Some head))) → IfSome old (λ file. TakesHeader file new answer)
header_made None new room head answer kind same taken = tt
header_made (Some octets) new room head answer kind same taken =
    let test : (head.kind == section_header) ≡ true = same_block head.kind kind in
    of_header octets taken.0 new (new_section false head.order (take (kept head.len) room)) answer
    (ap file_by taken.1 ∙ ap (λ b. if b then file_after (new_section false head.order (take (kept head.len) room)) taken.0 else Err Magic) test) same taken.2

-- ---- the reader at the first record

pub opens : (old new : Option (List ℕ)) (section : Section) → IfSome old (λ file. TakesHeader file new (Ok section)) →
    IfSome old (λ file. Opens (pcapng_of file) (Ok (record { resolution = Nano; places = max_records; ahead = content_ahead max_blocks section max_records new })))
opens None new section taken = tt
opens (Some file) new section taken = (
  record { resolution = Nano; capture = capture_of max_blocks section max_records taken.0 },
  taken.1,
  ap (λ octets. record { resolution = Nano; places = max_records; ahead = content_ahead max_blocks section max_records octets }) taken.2,
)

-- a fault of the header
pub not_opened : (old new : Option (List ℕ)) (fault : PcapFault) → IfSome old (λ file. TakesHeader file new (Err fault)) → IfSome old (λ file. Opens (pcapng_of file) (Err fault))
not_opened None new fault taken = tt
not_opened (Some file) new Memory taken = tt
not_opened (Some file) new fault taken = taken
