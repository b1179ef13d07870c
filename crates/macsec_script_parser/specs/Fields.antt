-- The types of words of a line: the values of each, and how it is read.
use Rattle.std.specs.Prelude.{ℕ, List, [], ◌∷◌, Bool, true, false, bytes_eq, slice_index, codes, Result, Ok, Err}
use Rattle.std.specs.Int.{w32, from_be_bytes}
use Rattle.macsec_aes.specs.declared.Key.{Key}
use Rattle.macsec_aes.specs.declared.Key.TheVariants.{K128, K256}
use Rattle.macsec_tag.specs.declared.identifiers.Sci.{Sci}
use Rattle.macsec_commands.specs.declared.form.TagForm.{TagForm}
use Rattle.macsec_commands.specs.declared.form.TagForm.TheVariants as form
use Rattle.macsec_commands.specs.declared.mode.Mode.{Mode}
use Rattle.macsec_commands.specs.declared.mode.Mode.TheVariants as mode
use Rattle.macsec_suite.specs.declared.suite.Suite.{Suite}
use Rattle.macsec_suite.specs.declared.suite.Suite.TheVariants.{Gcm128, Gcm256, Xpn128, Xpn256}
use Rattle.macsec_commands.specs.declared.event.End.{End}
use Rattle.macsec_commands.specs.declared.event.End.TheVariants.{A, B}
use Rattle.macsec_script_parser.specs.declared.lines.LineFault.{LineFault}
use Rattle.macsec_script_parser.specs.declared.lines.LineFault.TheVariants.{Word}
use Rattle.macsec_script_parser.specs.Numerals.{decimal_in, packet_number, octets_of, some_octets}

pub data Field : Type 0 where
  number : (low : ℕ) → (high : ℕ) → Field
  octet : Field
  sci : Field
  key : Field
  ssci : Field
  salt : Field
  frame : Field
  pn : Field
  at_end : Field
  suite : Field
  tag_form : Field
  protection : Field
  switch : Field
  validation : Field

abbrev pub Value : Field → Type 0
Value (number low high) = ℕ
Value octet = ℕ
Value sci = Sci
Value key = Key
Value ssci = ℕ
Value salt = List ℕ
Value frame = List ℕ
Value pn = ℕ
Value at_end = End
Value suite = Suite
Value tag_form = TagForm
Value protection = Bool
Value switch = Bool
Value validation = Mode

-- the value of a keyword in a table
abbrev pub value_of_keyword : {A : Type 0} → List (List ℕ × A) → List ℕ → Result A LineFault
value_of_keyword [] word = Err Word
value_of_keyword (row ∷ rows) word = value_or (bytes_eq row.0 word) row.1 (value_of_keyword rows word)
  where
    value_or : {A : Type 0} → Bool → A → Result A LineFault → Result A LineFault
    value_or true value other = Ok value
    value_or false value other = other

abbrev pub ends : List (List ℕ × End)
ends = (codes "A", A) ∷ (codes "B", B) ∷ []

abbrev pub suites : List (List ℕ × Suite)
suites =
    (codes "gcm128", Gcm128) ∷ (codes "gcm256", Gcm256) ∷ (codes "xpn128", Xpn128) ∷ (codes "xpn256", Xpn256) ∷ []

abbrev pub forms : List (List ℕ × TagForm)
forms = (codes "auto", form.Auto) ∷ (codes "sci", form.Sci) ∷ (codes "es", form.Es) ∷ (codes "scb", form.Scb) ∷ []

-- is the data of client frames encrypted as well?
abbrev pub protections : List (List ℕ × Bool)
protections = (codes "int", false) ∷ (codes "conf", true) ∷ []

-- is the option of the line on?
abbrev pub switches : List (List ℕ × Bool)
switches = (codes "on", true) ∷ (codes "off", false) ∷ []

abbrev pub modes : List (List ℕ × Mode)
modes = (codes "disabled", mode.Disabled) ∷ (codes "check", mode.Check) ∷ (codes "strict", mode.Strict) ∷ []

-- a function of the value, if there is one
abbrev pub map_ok : {A B E : Type 0} → (A → B) → Result A E → Result B E
map_ok f (Ok x) = Ok (f x)
map_ok f (Err fault) = Err fault

abbrev pub as_octet : List ℕ → ℕ
as_octet octets = slice_index octets 0

abbrev pub as_sci : List ℕ → Sci
as_sci octets = record { 0 = octets }

-- the SSCI of four octets, most significant octet first
abbrev pub as_ssci : List ℕ → ℕ
as_ssci octets = from_be_bytes w32 octets

-- a value if there is one, else the other result
abbrev pub or_else : {A E : Type 0} → Result A E → Result A E → Result A E
or_else (Ok x) other = Ok x
or_else (Err fault) other = other

-- a key of 16 or 32 octets
abbrev pub key_of_word : List ℕ → Result Key LineFault
key_of_word word = or_else (map_ok K128 (octets_of 16 word)) (map_ok K256 (octets_of 32 word))

abbrev pub read_word : (f : Field) → List ℕ → Result (Value f) LineFault
read_word (number low high) word = decimal_in low high word
read_word octet word = map_ok as_octet (octets_of 1 word)
read_word sci word = map_ok as_sci (octets_of 8 word)
read_word key word = key_of_word word
read_word ssci word = map_ok as_ssci (octets_of 4 word)
read_word salt word = octets_of 12 word
read_word frame word = some_octets word
read_word pn word = packet_number word
read_word at_end word = value_of_keyword ends word
read_word suite word = value_of_keyword suites word
read_word tag_form word = value_of_keyword forms word
read_word protection word = value_of_keyword protections word
read_word switch word = value_of_keyword switches word
read_word validation word = value_of_keyword modes word
