-- Worked examples: lines of the script language, and configurations of one end.
use Rattle.{
  std.proofs.Common.{◌≡◌, ℕ, List, ◌++◌, [], ◌∷◌, replicate, codes, Some, None, Ok, Err, true, false, refl},
  hex.proofs.OnLiterals.hex_on_literals,
  macsec_aes.specs.declared.Key.TheVariants.{K128, K256},
  macsec_tag.specs.declared.identifiers.Sci.Sci,
  macsec_suite.specs.declared.suite.Suite.TheVariants.{Gcm128, Gcm256, Xpn128, Xpn256},
  macsec_commands.specs.declared.{
    config.EndConfig.EndConfig,
    event.End.TheVariants.{A, B},
    mode.Mode.TheVariants.Check,
  },
  macsec_script_parser.specs.{
    Kinds.{does, line_of, tells},
    Scripts.config_of,
    declared.lines.LineFault.TheVariants.{Word, Count, Hex, Number, Ends, LineLong},
  },
}
use Rattle.macsec_commands.specs.declared.form.TagForm.TheVariants as form
use Rattle.macsec_commands.specs.declared.command.Command.TheVariants as by
use Rattle.macsec_commands.specs.declared.event.Event.TheVariants as event
use Rattle.macsec_script_parser.specs.declared.lines.Action.TheVariants as action
use Rattle.macsec_script_parser.specs.declared.lines.Line.TheVariants as line
use Rattle.macsec_script_parser.specs.declared.faults.ScriptFault.TheVariants as script

-- ---- lines that are skipped

blank : line_of (codes " \t\r") ≡ Ok None
blank = refl

comment : line_of (codes " \t#frob") ≡ Ok None
comment = refl

-- ---- unknown keywords

frob : line_of (codes "A frob") ≡ Err Word
frob = refl

of_b : line_of (codes "B frob") ≡ Err Word
of_b = refl

no_end_line_at_an_end : line_of (codes "A end gcm128 12153524c0895e81 1518 sci") ≡ Err Word
no_end_line_at_an_end = refl

deliver_at_no_end : line_of (codes "deliver 0") ≡ Err Word
deliver_at_no_end = refl

end_c : line_of (codes "end C gcm128 12153524c0895e81 1518 sci") ≡ Err Word
end_c = refl

other_end : line_of (codes "C send 00") ≡ Err Word
other_end = refl

no_end : line_of (codes "send 00") ≡ Err Word
no_end = refl

tag_form : line_of (codes "end A gcm128 12153524c0895e81 1518 none") ≡ Err Word
unfolding hex_on_literals
tag_form = refl

other_suite : line_of (codes "end A xpn192 12153524c0895e81 1518 sci") ≡ Err Word
other_suite = refl

-- an SSCI without a salt is read as a suite
no_salt : line_of (codes "A key 0 ad7a2bd03eac835a6f620fdcb506b345 0 00000001") ≡ Err Word
unfolding hex_on_literals
no_salt = refl

suite_after_the_salt : line_of (codes "A key 0 ad7a2bd03eac835a6f620fdcb506b345 0 00000001 12153525c0895e8000000000 xpn128") ≡ Err Word
unfolding hex_on_literals
suite_after_the_salt = refl

protection : line_of (codes "A txsa 2 0 b2c28465 none") ≡ Err Word
protection = refl

switch : line_of (codes "A protect On") ≡ Err Word
switch = refl

mode : line_of (codes "A validate loose") ≡ Err Word
mode = refl

-- ---- too few words or too many

alone : line_of (codes "A") ≡ Err Count
alone = refl

too_few : line_of (codes "A send") ≡ Err Count
too_few = refl

too_many : line_of (codes "A txon 2 3") ≡ Err Count
too_many = refl

no_window : line_of (codes "A replay off") ≡ Err Count
no_window = refl

-- the words are counted before any of them is read
no_offset : line_of (codes "A key 4096 ad7a2bd03eac835a6f620fdcb506b345") ≡ Err Count
no_offset = refl

after_the_salt : line_of (codes "A key 4096 ad7a2bd03eac835a6f620fdcb506b345 0 xpn128 00000001 12153525c0895e8000000000 0") ≡ Err Count
after_the_salt = refl

numbers_of : line_of (codes "A numbers 1") ≡ Err Count
numbers_of = refl

end_c_alone : line_of (codes "end C") ≡ Err Count
end_c_alone = refl

maybe_x : line_of (codes "A protect maybe x") ≡ Err Count
maybe_x = refl

counters_of : line_of (codes "B counters 1") ≡ Err Count
counters_of = refl

six_words_of_a_receive_association : line_of (codes "B rxsa 12153524c0895e81 2 0 1 00000001 int") ≡ Err Count
six_words_of_a_receive_association = refl

-- ---- words that are not hex

receive_channel : line_of (codes "A rxsc 00") ≡ Err Hex
unfolding hex_on_literals
receive_channel = refl

two_octets : line_of (codes "alter 0 0 100") ≡ Err Hex
unfolding hex_on_literals
two_octets = refl

empty_pn : line_of (codes "B rxlow 12153524c0895e81 2 g") ≡ Err Hex
unfolding hex_on_literals
empty_pn = refl

odd : line_of (codes "A send 0") ≡ Err Hex
unfolding hex_on_literals
odd = refl

no_digit : line_of (codes "A send 0g") ≡ Err Hex
unfolding hex_on_literals
no_digit = refl

short_sci : line_of (codes "end A gcm128 00 1518 sci") ≡ Err Hex
unfolding hex_on_literals
short_sci = refl

short_key : line_of (codes "A key 0 ad7a 0") ≡ Err Hex
unfolding hex_on_literals
short_key = refl

short_ssci : line_of (codes "A key 0 ad7a2bd03eac835a6f620fdcb506b345 0 000001 12153525c0895e8000000000") ≡ Err Hex
unfolding hex_on_literals
short_ssci = refl

long_salt : line_of (codes "A key 0 ad7a2bd03eac835a6f620fdcb506b345 0 00000001 12153525c0895e800000000000") ≡ Err Hex
unfolding hex_on_literals
long_salt = refl

salt_without_digits : line_of (codes "A key 0 ad7a2bd03eac835a6f620fdcb506b345 0 00000001 12153525c0895e800000000g") ≡ Err Hex
unfolding hex_on_literals
salt_without_digits = refl

-- seven words have no suite
suite_for_an_ssci : line_of (codes "A key 0 ad7a2bd03eac835a6f620fdcb506b345 0 xpn128 00000001") ≡ Err Hex
unfolding hex_on_literals
suite_for_an_ssci = refl

seventeen_digits : line_of (codes "A txsa 0 0 00000000000000001 int") ≡ Err Hex
seventeen_digits = refl

-- ---- numbers out of range

key_4096 : line_of (codes "A key 4096 ad7a2bd03eac835a6f620fdcb506b345 0") ≡ Err Number
key_4096 = refl

an_4 : line_of (codes "A txon 4") ≡ Err Number
an_4 = refl

offset_256 : line_of (codes "A key 0 ad7a2bd03eac835a6f620fdcb506b345 256") ≡ Err Number
unfolding hex_on_literals
offset_256 = refl

-- the words from left to right
offset_before_ssci : line_of (codes "A key 0 ad7a2bd03eac835a6f620fdcb506b345 256 000001 00") ≡ Err Number
unfolding hex_on_literals
offset_before_ssci = refl

small_frames : line_of (codes "end A gcm128 12153524c0895e81 63 sci") ≡ Err Number
unfolding hex_on_literals
small_frames = refl

twenty_one_digits : line_of (codes "A txon 000000000000000000002") ≡ Err Number
twenty_one_digits = refl

wide_window : line_of (codes "A replay off 18446744073709551616") ≡ Err Number
wide_window = refl

frame_past_32_bits : line_of (codes "B deliver 4294967296") ≡ Err Number
frame_past_32_bits = refl

place_past_32_bits : line_of (codes "alter 0 4294967296 00") ≡ Err Number
place_past_32_bits = refl

-- the words from left to right
frame_before_octet : line_of (codes "alter x 0 g") ≡ Err Number
frame_before_octet = refl

-- ---- forms that do not fit

port_of_es : line_of (codes "end A gcm128 12153524c0895e81 1518 es") ≡ Err Ends
unfolding hex_on_literals
port_of_es = refl

port_of_scb : line_of (codes "end B gcm128 0000000000000002 1518 scb") ≡ Err Ends
unfolding hex_on_literals
port_of_scb = refl

-- ---- long lines

longest : line_of (codes "A send " ++ replicate 19993 103) ≡ Err Hex
unfolding hex_on_literals
longest = refl

too_long : line_of (codes "A send " ++ replicate 19994 48) ≡ Err LineLong
too_long = refl

-- ---- valid lines

end_a : line_of (codes "end A gcm128 12153524c0895e81 1518 sci") ≡
    Ok (Some (line.End A (record {
      suite = Gcm128;
      sci = record { 0 = 18 ∷ 21 ∷ 53 ∷ 36 ∷ 192 ∷ 137 ∷ 94 ∷ 129 ∷ [] };
      max_frame = 1518;
      form = form.Sci;
    })))
unfolding hex_on_literals
end_a = refl

end_b : line_of (codes "end B gcm256 0000000000000001 64 es") ≡
    Ok (Some (line.End B (record {
      suite = Gcm256;
      sci = record { 0 = 0 ∷ 0 ∷ 0 ∷ 0 ∷ 0 ∷ 0 ∷ 0 ∷ 1 ∷ [] };
      max_frame = 64;
      form = form.Es;
    })))
unfolding hex_on_literals
end_b = refl

end_of_xpn128 : line_of (codes "end A xpn128 12153524c0895e81 1518 sci") ≡
    Ok (Some (line.End A (record {
      suite = Xpn128;
      sci = record { 0 = 18 ∷ 21 ∷ 53 ∷ 36 ∷ 192 ∷ 137 ∷ 94 ∷ 129 ∷ [] };
      max_frame = 1518;
      form = form.Sci;
    })))
unfolding hex_on_literals
end_of_xpn128 = refl

end_of_xpn256 : line_of (codes "end B xpn256 0000000000000002 64 auto") ≡
    Ok (Some (line.End B (record {
      suite = Xpn256;
      sci = record { 0 = 0 ∷ 0 ∷ 0 ∷ 0 ∷ 0 ∷ 0 ∷ 0 ∷ 2 ∷ [] };
      max_frame = 64;
      form = form.Auto;
    })))
unfolding hex_on_literals
end_of_xpn256 = refl

key : line_of (codes "A key 7 000102030405060708090A0B0C0D0E0F 0") ≡
    Ok (Some (tells A (by.Key (record {
      number = 7;
      bytes = K128 (0 ∷ 1 ∷ 2 ∷ 3 ∷ 4 ∷ 5 ∷ 6 ∷ 7 ∷ 8 ∷ 9 ∷ 10 ∷ 11 ∷ 12 ∷ 13 ∷ 14 ∷ 15 ∷ []);
      salt = replicate 12 0;
      ssci = 0;
      offset = 0;
      suite = None;
    }))))
unfolding hex_on_literals
key = refl

key_of_32_octets : line_of (codes "A key 7 000102030405060708090a0b0c0d0e0f101112131415161718191a1b1c1d1e1f 0") ≡
    Ok (Some (tells A (by.Key (record {
      number = 7;
      bytes = K256 (0 ∷ 1 ∷ 2 ∷ 3 ∷ 4 ∷ 5 ∷ 6 ∷ 7 ∷ 8 ∷ 9 ∷ 10 ∷ 11 ∷ 12 ∷ 13 ∷ 14 ∷ 15 ∷ 16 ∷ 17 ∷ 18 ∷ 19 ∷ 20 ∷ 21 ∷ 22 ∷ 23 ∷ 24 ∷ 25 ∷ 26 ∷ 27 ∷ 28 ∷ 29 ∷ 30 ∷ 31 ∷ []);
      salt = replicate 12 0;
      ssci = 0;
      offset = 0;
      suite = None;
    }))))
unfolding hex_on_literals
key_of_32_octets = refl

offset_30 : line_of (codes "A key 7 000102030405060708090a0b0c0d0e0f 30") ≡
    Ok (Some (tells A (by.Key (record {
      number = 7;
      bytes = K128 (0 ∷ 1 ∷ 2 ∷ 3 ∷ 4 ∷ 5 ∷ 6 ∷ 7 ∷ 8 ∷ 9 ∷ 10 ∷ 11 ∷ 12 ∷ 13 ∷ 14 ∷ 15 ∷ []);
      salt = replicate 12 0;
      ssci = 0;
      offset = 30;
      suite = None;
    }))))
unfolding hex_on_literals
offset_30 = refl

-- an SSCI has its most significant octet first
ssci_and_salt : line_of (codes "A key 7 000102030405060708090a0b0c0d0e0f 0 0a0B0c0D 12153525c0895e8000000000") ≡
    Ok (Some (tells A (by.Key (record {
      number = 7;
      bytes = K128 (0 ∷ 1 ∷ 2 ∷ 3 ∷ 4 ∷ 5 ∷ 6 ∷ 7 ∷ 8 ∷ 9 ∷ 10 ∷ 11 ∷ 12 ∷ 13 ∷ 14 ∷ 15 ∷ []);
      salt = 18 ∷ 21 ∷ 53 ∷ 37 ∷ 192 ∷ 137 ∷ 94 ∷ 128 ∷ 0 ∷ 0 ∷ 0 ∷ 0 ∷ [];
      ssci = 168496141;
      offset = 0;
      suite = None;
    }))))
unfolding hex_on_literals
ssci_and_salt = refl

suite_of_a_key : line_of (codes "B key 7 000102030405060708090a0b0c0d0e0f 30 gcm256") ≡
    Ok (Some (tells B (by.Key (record {
      number = 7;
      bytes = K128 (0 ∷ 1 ∷ 2 ∷ 3 ∷ 4 ∷ 5 ∷ 6 ∷ 7 ∷ 8 ∷ 9 ∷ 10 ∷ 11 ∷ 12 ∷ 13 ∷ 14 ∷ 15 ∷ []);
      salt = replicate 12 0;
      ssci = 0;
      offset = 30;
      suite = Some Gcm256;
    }))))
unfolding hex_on_literals
suite_of_a_key = refl

suite_ssci_and_salt : line_of (codes "A key 7 000102030405060708090a0b0c0d0e0f 0 xpn128 0a0B0c0D 12153525c0895e8000000000") ≡
    Ok (Some (tells A (by.Key (record {
      number = 7;
      bytes = K128 (0 ∷ 1 ∷ 2 ∷ 3 ∷ 4 ∷ 5 ∷ 6 ∷ 7 ∷ 8 ∷ 9 ∷ 10 ∷ 11 ∷ 12 ∷ 13 ∷ 14 ∷ 15 ∷ []);
      salt = 18 ∷ 21 ∷ 53 ∷ 37 ∷ 192 ∷ 137 ∷ 94 ∷ 128 ∷ 0 ∷ 0 ∷ 0 ∷ 0 ∷ [];
      ssci = 168496141;
      offset = 0;
      suite = Some Xpn128;
    }))))
unfolding hex_on_literals
suite_ssci_and_salt = refl

tx_sa : line_of (codes "A  txsa\t2 00 b2C28465 int\r") ≡ Ok (Some (tells A (by.TxSa 2 0 2999092325 false)))
tx_sa = refl

encrypts : line_of (codes "A txsa 2 0 b2c28465 conf") ≡ Ok (Some (tells A (by.TxSa 2 0 2999092325 true)))
encrypts = refl

extended_number : line_of (codes "A txsa 2 0 1b2c28465 conf") ≡ Ok (Some (tells A (by.TxSa 2 0 7294059621 true)))
extended_number = refl

tx_on : line_of (codes "A txon 02") ≡ Ok (Some (tells A (by.TxOn 2)))
tx_on = refl

send : line_of (codes "A send 0aFf") ≡ Ok (Some (does (event.Send A (10 ∷ 255 ∷ []))))
unfolding hex_on_literals
send = refl

protect : line_of (codes "A protect off") ≡ Ok (Some (tells A (by.Protect false)))
protect = refl

validate : line_of (codes "A validate check") ≡ Ok (Some (tells A (by.Validate Check)))
validate = refl

replay : line_of (codes "A replay on 4294967296") ≡ Ok (Some (tells A (by.Replay true 4294967296)))
replay = refl

tag : line_of (codes "A tag es") ≡ Ok (Some (tells A (by.Tag form.Es)))
tag = refl

retire : line_of (codes "A retire 7") ≡ Ok (Some (tells A (by.Retire 7)))
retire = refl

tx_off : line_of (codes "A txoff 0") ≡ Ok (Some (tells A (by.TxOff 0)))
tx_off = refl

tx_del : line_of (codes "A txdel 3") ≡ Ok (Some (tells A (by.TxDel 3)))
tx_del = refl

uncontrolled : line_of (codes "A sendu 0aFf") ≡ Ok (Some (does (event.SendUncontrolled A (10 ∷ 255 ∷ []))))
unfolding hex_on_literals
uncontrolled = refl

numbers : line_of (codes "A numbers\r") ≡ Ok (Some (line.Action (action.Numbers A)))
numbers = refl

counters : line_of (codes "B counters") ≡ Ok (Some (line.Action (action.Counters B)))
counters = refl

abbrev sender : Sci
sender = record { 0 = 18 ∷ 21 ∷ 53 ∷ 36 ∷ 192 ∷ 137 ∷ 94 ∷ 129 ∷ [] }

rx_sc : line_of (codes "B rxsc 12153524c0895e81") ≡ Ok (Some (tells B (by.RxSc sender)))
unfolding hex_on_literals
rx_sc = refl

rx_sc_del : line_of (codes "B rxscdel 12153524c0895e81") ≡ Ok (Some (tells B (by.RxScDel sender)))
unfolding hex_on_literals
rx_sc_del = refl

rx_sa : line_of (codes "B rxsa 12153524c0895e81 2 7 b2c28465") ≡ Ok (Some (tells B (by.RxSa sender 2 7 0 2999092325)))
unfolding hex_on_literals
rx_sa = refl

rx_sa_with_ssci : line_of (codes "A rxsa 12153524c0895e81 2 7 1b2c28465 00000001") ≡ Ok (Some (tells A (by.RxSa sender 2 7 1 7294059621)))
unfolding hex_on_literals
rx_sa_with_ssci = refl

rx_on : line_of (codes "B rxon 12153524c0895e81 2") ≡ Ok (Some (tells B (by.RxOn sender 2)))
unfolding hex_on_literals
rx_on = refl

rx_off : line_of (codes "B rxoff 12153524c0895e81 2") ≡ Ok (Some (tells B (by.RxOff sender 2)))
unfolding hex_on_literals
rx_off = refl

rx_low : line_of (codes "B rxlow 12153524c0895e81 2 10") ≡ Ok (Some (tells B (by.RxLow sender 2 16)))
unfolding hex_on_literals
rx_low = refl

rx_del : line_of (codes "B rxdel 12153524c0895e81 2") ≡ Ok (Some (tells B (by.RxDel sender 2)))
unfolding hex_on_literals
rx_del = refl

deliver : line_of (codes "B deliver 4294967295") ≡ Ok (Some (does (event.Deliver B 4294967295)))
deliver = refl

alter : line_of (codes "alter 1 14 fF") ≡ Ok (Some (does (event.Alter 1 14 255)))
unfolding hex_on_literals
alter = refl

pad : line_of (codes "pad 0") ≡ Ok (Some (does (event.Pad 0)))
pad = refl

inject : line_of (codes "inject 0aFf") ≡ Ok (Some (does (event.Inject (10 ∷ 255 ∷ []))))
unfolding hex_on_literals
inject = refl

-- ---- the configuration of one end

abbrev only_end : List ℕ
only_end = codes "end A gcm128 0200000000010001 1518 sci\n"

abbrev its_end : EndConfig
its_end = record { suite = Gcm128; sci = record { 0 = 2 ∷ 0 ∷ 0 ∷ 0 ∷ 0 ∷ 1 ∷ 0 ∷ 1 ∷ [] }; max_frame = 1518; form = form.Sci }

commands : config_of (only_end ++ codes "\n# on\nA txon 0\nA replay off 2\n") ≡
    Ok (record { end = its_end; commands = (4, by.TxOn 0) ∷ (5, by.Replay false 2) ∷ [] })
unfolding hex_on_literals
commands = refl

-- it must have its `end` line
no_line : config_of [] ≡ Err (script.Ends 0)
no_line = refl

lines_that_are_skipped : config_of (codes "# nothing\n\n") ≡ Err (script.Ends 0)
lines_that_are_skipped = refl

end_b_alone : config_of (codes "\nend B gcm128 0200000000010001 1518 sci\n") ≡ Err (script.Ends 2)
unfolding hex_on_literals
end_b_alone = refl

command_before_its_end : config_of (codes "A txon 0\n" ++ only_end) ≡ Err (script.Ends 1)
command_before_its_end = refl

-- it cannot have a second end, a command at B, a frame or a line that shows something
second_end : config_of (only_end ++ codes "end B gcm128 0000000000000002 1518 auto\n") ≡ Err (script.Ends 2)
unfolding hex_on_literals
second_end = refl

command_at_b : config_of (only_end ++ codes "B txon 0\n") ≡ Err (script.Ends 2)
unfolding hex_on_literals
command_at_b = refl

frame_of_a : config_of (only_end ++ codes "A txon 0\nA send 00\n") ≡ Err (script.Ends 3)
unfolding hex_on_literals
frame_of_a = refl

counters_of_a : config_of (only_end ++ codes "A counters\n") ≡ Err (script.Ends 2)
unfolding hex_on_literals
counters_of_a = refl

-- if a line is out of order and also has another fault, the other fault counts; only the first faulty line is reported
own_fault : config_of (only_end ++ codes "B txon 4\nA send 00\n") ≡ Err (script.Number 2)
unfolding hex_on_literals
own_fault = refl
