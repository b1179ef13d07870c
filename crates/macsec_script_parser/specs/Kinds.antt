-- The kinds of lines: for each, its keyword, the words after it, and the line that they make.
use Rattle.std.specs.Prelude.{ℕ, ◌-◌, ◌^◌, ◌==◌, replicate, List, [], ◌∷◌, ◌++◌, length, filter, find, nat_lt, bytes_eq}
use Rattle.std.specs.Prelude.{codes, is_some, if◌then◌else◌, Option, Some, None, Result, Ok, Err}
use Rattle.macsec_aes.specs.declared.Key.{Key}
use Rattle.macsec_tag.specs.Limits.{max_frame_len}
use Rattle.macsec_suite.specs.declared.key_row.NewKey.{NewKey}
use Rattle.macsec_suite.specs.declared.suite.Suite.{Suite}
use Rattle.macsec_commands.specs.declared.command.Command.{Command}
use Rattle.macsec_commands.specs.declared.command.Command.TheVariants as by
use Rattle.macsec_commands.specs.Limits.{min_max_frame}
use Rattle.macsec_commands.specs.declared.config.EndConfig.{EndConfig}
use Rattle.macsec_commands.specs.Configs.{config_fault}
use Rattle.macsec_commands.specs.declared.event.End.{End}
use Rattle.macsec_commands.specs.declared.event.Event.TheVariants as event
use Rattle.macsec_commands.specs.declared.event.Event.{Event}
use Rattle.macsec_script_parser.specs.declared.lines.Action.TheVariants as action
use Rattle.macsec_script_parser.specs.declared.lines.Line.{Line}
use Rattle.macsec_script_parser.specs.declared.lines.Line.TheVariants as line
use Rattle.macsec_script_parser.specs.declared.lines.LineFault.{LineFault}
use Rattle.macsec_script_parser.specs.declared.lines.LineFault.TheVariants.{Word, Count, Ends, LineLong}
use Rattle.macsec_script_parser.specs.Words.{words_of}
use Rattle.macsec_script_parser.specs.Fields.{Field, Value, map_ok, read_word, value_of_keyword, ends, number, octet, sci, key, ssci}
use Rattle.macsec_script_parser.specs.Fields.{salt, frame, pn, at_end, suite, tag_form, protection, switch, validation}
use Rattle.macsec_script_parser.specs.Limits.{max_line_len}

-- a function from the values of the words to the line
abbrev pub Makes : List Field → Type 0
Makes [] = Line
Makes (field ∷ fields) = Value field → Makes fields

pub record Kind : Type 0 where
  pub keyword : List ℕ
  pub fields : List Field
  pub makes : Makes fields

abbrev pub kind : List ℕ → (fields : List Field) → Makes fields → Kind
kind keyword fields makes = record { keyword = keyword; fields = fields; makes = makes }

abbrev pub an : Field
an = number 0 3

abbrev pub key_number : Field
key_number = number 0 4095

abbrev pub offset : Field
offset = number 0 255

abbrev pub window : Field
window = number 0 (2 ^ 64 - 1)

abbrev pub frame_number : Field
frame_number = number 0 (2 ^ 32 - 1)

abbrev pub place_in_frame : Field
place_in_frame = number 0 (2 ^ 32 - 1)

abbrev pub max_frame : Field
max_frame = number min_max_frame max_frame_len

-- a key, from the values of its line
abbrev pub key_from : ℕ → Key → ℕ → Option Suite → ℕ → List ℕ → NewKey
key_from = λ n bytes offset suite ssci salt.
    record { number = n; bytes = bytes; salt = salt; ssci = ssci; offset = offset; suite = suite }

-- an event
abbrev pub does : Event → Line
does e = line.Action (action.Event e)

-- a command at an end
abbrev pub tells : End → Command → Line
tells e c = does (event.Command e c)

-- the lines that set whether frames are protected, and how they are validated
abbrev pub protection_kinds : End → List Kind
protection_kinds e =
    kind (codes "protect") (switch ∷ []) (λ on. tells e (by.Protect on)) ∷
    kind (codes "validate") (validation ∷ []) (λ mode. tells e (by.Validate mode)) ∷ []

-- the lines of the other options
abbrev pub option_kinds : End → List Kind
option_kinds e =
    kind (codes "replay") (switch ∷ window ∷ []) (λ on window. tells e (by.Replay on window)) ∷
    kind (codes "tag") (tag_form ∷ []) (λ form. tells e (by.Tag form)) ∷ []

-- the lines of keys. The count of the words decides which are present. A key without a suite gets the suite of the
-- endpoint; an SSCI and a salt that are left out are zero
abbrev pub key_kinds : End → List Kind
key_kinds e =
    kind (codes "key") (key_number ∷ key ∷ offset ∷ [])
    (λ n bytes offset. tells e (by.Key (key_from n bytes offset None 0 (replicate 12 0)))) ∷
    kind (codes "key") (key_number ∷ key ∷ offset ∷ suite ∷ [])
    (λ n bytes offset suite. tells e (by.Key (key_from n bytes offset (Some suite) 0 (replicate 12 0)))) ∷
    kind (codes "key") (key_number ∷ key ∷ offset ∷ ssci ∷ salt ∷ [])
    (λ n bytes offset ssci salt. tells e (by.Key (key_from n bytes offset None ssci salt))) ∷
    kind (codes "key") (key_number ∷ key ∷ offset ∷ suite ∷ ssci ∷ salt ∷ [])
    (λ n bytes offset suite ssci salt. tells e (by.Key (key_from n bytes offset (Some suite) ssci salt))) ∷
    kind (codes "retire") (key_number ∷ []) (λ n. tells e (by.Retire n)) ∷ []

-- the lines of transmit SAs
abbrev pub transmit_kinds : End → List Kind
transmit_kinds e =
    kind (codes "txsa") (an ∷ key_number ∷ pn ∷ protection ∷ []) (λ an n pn conf. tells e (by.TxSa an n pn conf)) ∷
    kind (codes "txon") (an ∷ []) (λ an. tells e (by.TxOn an)) ∷
    kind (codes "txoff") (an ∷ []) (λ an. tells e (by.TxOff an)) ∷
    kind (codes "txdel") (an ∷ []) (λ an. tells e (by.TxDel an)) ∷ []

-- the lines of receive SCs
abbrev pub channel_kinds : End → List Kind
channel_kinds e =
    kind (codes "rxsc") (sci ∷ []) (λ sci. tells e (by.RxSc sci)) ∷
    kind (codes "rxscdel") (sci ∷ []) (λ sci. tells e (by.RxScDel sci)) ∷ []

-- the lines of receive SAs; an SSCI that is left out is zero
abbrev pub receive_kinds : End → List Kind
receive_kinds e =
    kind (codes "rxsa") (sci ∷ an ∷ key_number ∷ pn ∷ []) (λ sci an n pn. tells e (by.RxSa sci an n 0 pn)) ∷
    kind (codes "rxsa") (sci ∷ an ∷ key_number ∷ pn ∷ ssci ∷ []) (λ sci an n pn ssci. tells e (by.RxSa sci an n ssci pn)) ∷
    kind (codes "rxon") (sci ∷ an ∷ []) (λ sci an. tells e (by.RxOn sci an)) ∷
    kind (codes "rxoff") (sci ∷ an ∷ []) (λ sci an. tells e (by.RxOff sci an)) ∷
    kind (codes "rxlow") (sci ∷ an ∷ pn ∷ []) (λ sci an pn. tells e (by.RxLow sci an pn)) ∷
    kind (codes "rxdel") (sci ∷ an ∷ []) (λ sci an. tells e (by.RxDel sci an)) ∷ []

-- the lines of commands
abbrev pub operator_kinds : End → List Kind
operator_kinds e =
    protection_kinds e ++ (option_kinds e ++ (key_kinds e ++ (transmit_kinds e ++ (channel_kinds e ++ receive_kinds e))))

-- the lines of frames
abbrev pub frame_kinds : End → List Kind
frame_kinds e =
    kind (codes "send") (frame ∷ []) (λ frame. does (event.Send e frame)) ∷
    kind (codes "sendu") (frame ∷ []) (λ frame. does (event.SendUncontrolled e frame)) ∷
    kind (codes "deliver") (frame_number ∷ []) (λ n. does (event.Deliver e n)) ∷ []

-- the lines that show counters and packet numbers
abbrev pub show_kinds : End → List Kind
show_kinds e = kind (codes "counters") [] (line.Action (action.Counters e)) ∷ kind (codes "numbers") [] (line.Action (action.Numbers e)) ∷ []

-- the lines that begin with the letter of an end
abbrev pub kinds_at : End → List Kind
kinds_at e = operator_kinds e ++ (frame_kinds e ++ show_kinds e)

-- the lines of the ends' configurations
abbrev pub end_kinds : List Kind
end_kinds =
    kind (codes "end") (at_end ∷ suite ∷ sci ∷ max_frame ∷ tag_form ∷ [])
    (λ e suite sci most form. line.End e (record { suite = suite; sci = sci; max_frame = most; form = form })) ∷ []

-- the lines of the link
abbrev pub link_kinds : List Kind
link_kinds =
    kind (codes "alter") (frame_number ∷ place_in_frame ∷ octet ∷ [])
    (λ n place octet. does (event.Alter n place octet)) ∷
    kind (codes "pad") (frame_number ∷ []) (λ n. does (event.Pad n)) ∷
    kind (codes "inject") (frame ∷ []) (λ frame. does (event.Inject frame)) ∷ []

-- the lines that do not begin with the letter of an end
abbrev pub kinds : List Kind
kinds = end_kinds ++ link_kinds

-- the next step, where there is a value
abbrev pub and_then : {X Y E : Type 0} → Result X E → (X → Result Y E) → Result Y E
and_then (Ok x) f = f x
and_then (Err fault) f = Err fault

-- a configuration, unless it has a fault
abbrev pub checked : EndConfig → Option EndConfig
checked config = if is_some (config_fault config) then None else Some config

-- the `end` line of a checked configuration. MAX is already in range, so the only possible fault is a tag form that does
-- not fit the SCI
abbrev pub end_line : End → Option EndConfig → Result Line LineFault
end_line e None = Err Ends
end_line e (Some config) = Ok (line.End e config)

abbrev pub if_fit : Line → Result Line LineFault
if_fit (line.End e config) = end_line e (checked config)
if_fit other = Ok other

-- the words are read from left to right
abbrev pub read_words : (fields : List Field) → Makes fields → List (List ℕ) → Result Line LineFault
read_words [] makes words = if_fit makes
read_words (field ∷ fields) makes [] = Err Count
read_words (field ∷ fields) makes (word ∷ words) = and_then (read_word field word) (λ value. read_words fields (makes value) words)

-- a line of the kind that has this many words
abbrev pub read_kind : Option Kind → List (List ℕ) → Result Line LineFault
read_kind None words = Err Count
read_kind (Some kind) words = read_words kind.fields kind.makes words

-- a line, from the kinds of its keyword; without any, the keyword is unknown
abbrev pub read_as : List Kind → List (List ℕ) → Result Line LineFault
read_as [] words = Err Word
read_as (kind ∷ more) words = read_kind (find (λ kind. length kind.fields == length words) (kind ∷ more)) words

-- the kinds of a keyword
abbrev pub kinds_of : List Kind → List ℕ → List Kind
kinds_of kinds keyword = filter (λ kind. bytes_eq kind.keyword keyword) kinds

-- a line, from its keyword and the words after it
abbrev pub read_line : List Kind → List ℕ → List (List ℕ) → Result Line LineFault
read_line kinds keyword words = read_as (kinds_of kinds keyword) words

-- after the letter of an end, the keyword is the second word
abbrev pub read_at : Result End LineFault → List ℕ → List (List ℕ) → Result Line LineFault
read_at (Ok e) first [] = Err Count
read_at (Ok e) first (keyword ∷ words) = read_line (kinds_at e) keyword words
read_at (Err fault) first words = read_line kinds first words

-- a line of no words, or whose first word begins with '#', is skipped
abbrev pub of_words : List (List ℕ) → Result (Option Line) LineFault
of_words [] = Ok None
of_words ([] ∷ words) = Ok None
of_words ((letter ∷ letters) ∷ words) =
    if letter == 35 then Ok None
    else map_ok Some (read_at (value_of_keyword ends (letter ∷ letters)) (letter ∷ letters) words)

-- the line that a text without its line feed makes
abbrev pub line_of : List ℕ → Result (Option Line) LineFault
line_of text = if nat_lt max_line_len (length text) then Err LineLong else of_words (words_of text)
