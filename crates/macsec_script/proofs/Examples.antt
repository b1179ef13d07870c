-- Scripts and what they print.
use Rattle.{
  std.{proofs.Common.{◌≡◌, ℕ, ◌++◌, List, [], codes, Ok, Err, refl}, specs.Fmt.digits},
  hex.proofs.OnLiterals.hex_on_literals,
  macsec_script.specs.Printed.printed_text,
}
use Rattle.macsec_script_parser.specs.declared.faults.ScriptFault.TheVariants as script

abbrev both_ends : List ℕ
both_ends = codes "end A gcm128 12153524c0895e81 1518 sci\nend B gcm128 0000000000000002 1518 auto\n"

nothing : printed_text (codes "# nothing\n\n") ≡ Ok []
nothing = refl

no_end_b : printed_text (codes "end A gcm128 12153524c0895e81 1518 sci\n") ≡ Err (script.Ends 1)
unfolding hex_on_literals
no_end_b = refl

-- a line in a wrong place that also has another fault: the other fault is returned
few_words_for_a_key : printed_text (codes "end A gcm128 12153524c0895e81 1518 sci\nA key 4096\n") ≡ Err (script.Count 2)
unfolding hex_on_literals
few_words_for_a_key = refl

-- the last of six words is a suite
ssci_without_salt : printed_text (both_ends ++ codes "A key 0 ad7a2bd03eac835a6f620fdcb506b345 0 00000001\n") ≡ Err (script.Word 3)
unfolding hex_on_literals
ssci_without_salt = refl

other_port : printed_text (codes "end A gcm128 12153524c0895e81 1518 sci\nend B gcm128 0000000000000002 1518 es\n") ≡ Err (script.Ends 2)
unfolding hex_on_literals
other_port = refl

no_second_end : printed_text (codes "end A gcm128 12153524c0895e81 1518 sci\nA txon 2\n") ≡ Err (script.Ends 2)
unfolding hex_on_literals
no_second_end = refl

b_first : printed_text (codes "\nend B gcm128 12153524c0895e81 1518 sci\n") ≡ Err (script.Ends 2)
unfolding hex_on_literals
b_first = refl

ends_alone : printed_text both_ends ≡ Ok []
unfolding hex_on_literals
ends_alone = refl

third_end : printed_text (both_ends ++ codes "end A gcm128 12153524c0895e81 1518 sci\n") ≡ Err (script.Ends 3)
unfolding hex_on_literals
third_end = refl

-- a key of 32 octets under gcm128, and an offset that is not 0, 30 or 50
long_key : printed_text (both_ends ++ codes "A key 0 000102030405060708090a0b0c0d0e0f101112131415161718191a1b1c1d1e1f 0\n") ≡ Ok (codes "3 refused 1 KeyLength\n")
unfolding hex_on_literals digits
long_key = refl

offset_31 : printed_text (both_ends ++ codes "A key 0 ad7a2bd03eac835a6f620fdcb506b345 31\n") ≡ Ok (codes "3 refused 2 Offset\n")
unfolding hex_on_literals digits
offset_31 = refl

-- the lowest packet number is 1
first_number : printed_text (both_ends ++ codes "A key 0 ad7a2bd03eac835a6f620fdcb506b345 0\nA txsa 0 0 0 int\nA txsa 0 0 1 int\n") ≡
    Ok (codes "3 done\n4 refused 14 PnRange\n5 done\n")
unfolding hex_on_literals digits
first_number = refl

-- the highest is ffffffff
past_32_bits : printed_text (both_ends ++ codes "A key 0 ad7a2bd03eac835a6f620fdcb506b345 0\nA txsa 0 0 100000000 int\n") ≡ Ok (codes "3 done\n4 refused 14 PnRange\n")
unfolding hex_on_literals digits
past_32_bits = refl

-- the widest window
windows : printed_text (both_ends ++ codes "A replay on 4294967295\nA replay off 4294967296\n") ≡ Ok (codes "3 done\n4 refused 18 Window\n")
unfolding hex_on_literals digits
windows = refl

-- extended packet numbers: a key has no offset, and packet numbers have 64 bits
abbrev pub extended_ends : List ℕ
extended_ends = codes "end A xpn128 12153524c0895e81 1518 sci\nend B xpn128 0000000000000002 1518 auto\n"

extended_offset : printed_text (extended_ends ++ codes "A key 0 ad7a2bd03eac835a6f620fdcb506b345 30 00000001 12153525c0895e8000000000\n"
    ++ codes "A key 0 ad7a2bd03eac835a6f620fdcb506b345 0 00000001 12153525c0895e8000000000\n") ≡
    Ok (codes "3 refused 2 Offset\n4 done\n")
unfolding hex_on_literals digits
extended_offset = refl

-- while a key with extended packet numbers exists, the window is narrower, whether the suite is the end's or the key's
extended_windows : printed_text (extended_ends ++ codes "A replay on 1073741823\nA key 0 ad7a2bd03eac835a6f620fdcb506b345 0\nA replay on 1073741824\n") ≡
    Ok (codes "3 done\n4 done\n5 refused 18 Window\n")
unfolding hex_on_literals digits
extended_windows = refl

window_before_the_key : printed_text (both_ends ++ codes "A replay on 1073741824\nA key 0 ad7a2bd03eac835a6f620fdcb506b345 0 xpn128\nA replay on 1073741823\n"
    ++ codes "A key 0 ad7a2bd03eac835a6f620fdcb506b345 0 xpn128\n") ≡
    Ok (codes "3 done\n4 refused 18 Window\n5 done\n6 done\n")
unfolding hex_on_literals digits
window_before_the_key = refl

extended_numbers : printed_text (extended_ends ++ codes "A key 0 ad7a2bd03eac835a6f620fdcb506b345 0\nA txsa 0 0 0 int\nA txsa 0 0 100000000 int\nA txdel 0\n"
    ++ codes "A txsa 0 0 ffffffffffffffff int\n") ≡
    Ok (codes "3 done\n4 refused 14 PnRange\n5 done\n6 done\n7 done\n")
unfolding hex_on_literals digits
extended_numbers = refl

-- a frame of each port; without protection they leave unchanged
both_ports : printed_text (both_ends ++ codes "A send 00112233445566778899aabb0800\nA protect off\nA send 00112233445566778899AABB0800\n"
    ++ codes "A sendu 00112233445566778899aabb0801\n") ≡
    Ok (codes "3 dropped NoSA\n4 done\n5 frame 0 00112233445566778899aabb0800\n6 frame 1 00112233445566778899aabb0801\n")
unfolding hex_on_literals digits
both_ports = refl

five_lines : printed_text (both_ends ++ codes "A key 0 ad7a2bd03eac835a6f620fdcb506b345 0\nA txsa 2 0 b2c28465 int\nA txon 2\n") ≡ Ok (codes "3 done\n4 done\n5 done\n")
unfolding hex_on_literals digits
five_lines = refl

-- SAs are printed in the order of their ANs, not of their creation
shown : printed_text (both_ends ++ codes "A numbers\nA key 0 ad7a2bd03eac835a6f620fdcb506b345 0\nA key 1 000102030405060708090a0b0c0d0e0f 0\n"
    ++ codes "A txsa 3 0 abcdef conf\nA txsa 1 1 1 int\nA txon 1\nA numbers\n") ≡
    Ok (codes "4 done\n5 done\n6 done\n7 done\n8 done\n9 tx 1 1 0000000000000001 on int\n9 tx 3 0 0000000000abcdef off conf\n")
unfolding hex_on_literals digits
shown = refl

-- a last line without a line feed is read, and skipped lines are numbered
three_lines : printed_text (codes "#\nend A gcm128 12153524c0895e81 1518 sci\nend B gcm128 0000000000000001 1518 es\nA send 00") ≡ Ok (codes "4 fault 5 Short\n")
unfolding hex_on_literals digits
three_lines = refl

-- both ends, and a hostile link: frames that are altered, padded, injected and replayed
two_ends : printed_text (both_ends ++ codes "A protect off\nB validate check\nA send 00112233445566778899aabb0800\nB deliver 0\nB deliver 0\n"
    ++ codes "alter 0 13 01\npad 1\nA deliver 2\ninject 00\nB deliver 3\nB deliver 4\nalter 3 1 ff\n") ≡
    Ok (codes "3 done\n4 done\n5 frame 0 00112233445566778899aabb0800\n6 Untagged 00112233445566778899aabb0800\n"
    ++ codes "7 Untagged 00112233445566778899aabb0800\n8 frame 1 00112233445566778899aabb0801\n"
    ++ codes "9 frame 2 00112233445566778899aabb080100000000000000000000000000000000000000000000000000000000000000000000000000000000000000000000\n"
    ++ codes "10 NoTag\n11 frame 3 00\n12 fault 5 Short\n13 fault 2 NoFrame\n14 fault 4 AlterRange\n")
unfolding hex_on_literals digits
two_ends = refl

-- the counters of an endpoint, and then of its receive SCs in the order of their creation
counters_shown : printed_text (both_ends ++ codes "A protect off\nA send 00112233445566778899aabb0800\nA rxsc 0000000000000003\nA rxsc 0000000000000002\nA counters\n") ≡
    Ok (codes "3 done\n4 frame 0 00112233445566778899aabb0800\n5 done\n6 done\n"
    ++ codes "7 InPktsUntagged 0\n7 InPktsNoTag 0\n7 InPktsBadTag 0\n7 InPktsReserved 0\n7 InPktsNoSA 0\n"
    ++ codes "7 InPktsNoSAError 0\n7 InOctetsValidated 0\n7 InOctetsDecrypted 0\n7 OutPktsUntagged 1\n7 OutPktsTooLong 0\n"
    ++ codes "7 OutPktsNoSA 0\n7 OutPktsProtected 0\n7 OutPktsEncrypted 0\n7 OutOctetsProtected 0\n7 OutOctetsEncrypted 0\n"
    ++ codes "7 0000000000000003 InPktsOK 0\n7 0000000000000003 InPktsUnchecked 0\n7 0000000000000003 InPktsDelayed 0\n"
    ++ codes "7 0000000000000003 InPktsLate 0\n7 0000000000000003 InPktsInvalid 0\n7 0000000000000003 InPktsNotValid 0\n"
    ++ codes "7 0000000000000002 InPktsOK 0\n7 0000000000000002 InPktsUnchecked 0\n7 0000000000000002 InPktsDelayed 0\n"
    ++ codes "7 0000000000000002 InPktsLate 0\n7 0000000000000002 InPktsInvalid 0\n7 0000000000000002 InPktsNotValid 0\n")
unfolding hex_on_literals digits
counters_shown = refl
