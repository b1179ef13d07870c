-- What sealing a frame for a test gives: the frame as `protect_in_place` of `macsec_suite` would protect it, even if
-- the octets before its data are no SecTAG. The octets before the data (destination and source address, SecTAG) are
-- only authenticated, and so are the clear octets of the data: the octets before the confidentiality offset, or all
-- without confidentiality. The other data are encrypted (IEEE 802.1AE, 10.5, 14.5 to 14.8).
use Rattle.std.specs.Prelude.{ℕ, ◌+◌, List, [], ◌∷◌, Bool, length, nat_lt, Option, Some, None, Ok, Err}
use Rattle.macsec_aes.specs.declared.Key.{Key}
use Rattle.macsec_gcm.specs.Gcm.{max_plaintext_len}
use Rattle.macsec_tag.specs.declared.identifiers.Sci.{Sci}
use Rattle.macsec_suite.specs.declared.suite.Suite.{Suite}
use Rattle.macsec_suite.specs.declared.refusal.Refusal.TheVariants.{KeyLength, PnRange}
use Rattle.macsec_suite.specs.RefusalNumbers.{number_of_refusal}
use Rattle.macsec_suite.specs.FirstThatHolds.{first_that_holds}
use Rattle.macsec_suite.specs.InPlace.{protected_octets}
use Rattle.macsec_suite.specs.Keys.{has_wrong_length, prepared_from}
use Rattle.macsec_suite.specs.Suites.{iv_of, last_of}
use Rattle.macsec_secy.specs.declared.fault.FrameFault.TheVariants.{Short, Long}
use Rattle.macsec_c_values.specs.Arguments.{Named, key_of, suite_of}
use Rattle.macsec_c_values.specs.Statuses.{done_status, status_of_argument_fault, status_of_frame_fault}
use Rattle.macsec_c_values.specs.declared.commands.Sak.{Sak}

-- the first status that applies: the suite's keys have another length, the packet number is above the suite's last
-- one, the frame has fewer than 16 octets after its head, or it is too long. Neither packet number 0 nor any offset is
-- a fault
abbrev pub seal_fault : Suite → Key → ℕ → ℕ → List ℕ → Option ℕ
seal_fault suite key pn head frame =
    first_that_holds (
    (number_of_refusal KeyLength, has_wrong_length suite key) ∷ (number_of_refusal PnRange, nat_lt (last_of suite) pn) ∷
    (status_of_frame_fault Short, nat_lt (length frame) (head + 16)) ∷
    (status_of_frame_fault Long, nat_lt max_plaintext_len (length frame)) ∷ [])

-- the status, and the frame after it: as it was, or sealed
abbrev pub sealed_unless : Option ℕ → List ℕ → List ℕ → ℕ × List ℕ
sealed_unless (Some status) frame made = (status, frame)
sealed_unless None frame made = (done_status, made)

-- with this suite and key, which are checked in this order
abbrev pub sealed_with : Sak → Sci → ℕ → Bool → ℕ → List ℕ → Named Suite → Named Key → ℕ × List ℕ
sealed_with k sci pn conf head frame (Ok suite) (Ok key) =
    sealed_unless (seal_fault suite key pn head frame) frame
    (protected_octets (prepared_from suite key k.offset) (iv_of suite sci k.ssci k.salt pn) conf head frame)
sealed_with k sci pn conf head frame (Ok suite) (Err f) = (status_of_argument_fault f, frame)
sealed_with k sci pn conf head frame (Err f) key = (status_of_argument_fault f, frame)

-- under a key, for the SCI and packet number of the IV, with or without confidentiality: the status and the frame
abbrev pub sealed : Sak → Sci → ℕ → Bool → ℕ → List ℕ → ℕ × List ℕ
sealed k sci pn conf head frame = sealed_with k sci pn conf head frame (suite_of k.suite) (key_of k.bytes k.length)
