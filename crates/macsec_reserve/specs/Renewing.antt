-- A keeping endpoint that takes a new key under the number of a retired one.
use Rattle.std.specs.Prelude.{◌≡◌, ◌⊎◌, ℕ, ◌+◌, ◌==◌, List, [], ◌∷◌, ◌++◌, set, ◌||◌, Bool, true, false}
use Rattle.std.specs.Prelude.{if◌then◌else◌, Option, Some, None}
use Rattle.std.specs.List.{list_any}
use Rattle.macsec_aes.specs.Keys.{key_bytes}
use Rattle.macsec_suite.specs.declared.key_row.NewKey.{NewKey}
use Rattle.macsec_suite.specs.declared.refusal.Refusal.{Refusal}
use Rattle.macsec_suite.specs.declared.refusal.Refusal.TheVariants.{KeyRepeated}
use Rattle.macsec_suite.specs.KeyRows.{InstalledKey, the_key}
use Rattle.macsec_suite.specs.Refusals.{is_number_used}
use Rattle.macsec_secy.specs.Renewing.{renewal_refusal, renewing}
use Rattle.macsec_gcm.specs.Octets.{same_octets}
use Rattle.macsec_reserve.specs.declared.reservation.Reservation.{Reservation}
use Rattle.macsec_reserve.specs.Forgetting.{as_taken, fingerprint, forgetting_step}
use Rattle.macsec_reserve.specs.Journal.{sending_name}
use Rattle.macsec_reserve.specs.Keeping.{Keeping, KeepingInput, key_name}

-- the place of the key of this number in the table
abbrev pub place_of : List InstalledKey → ℕ → ℕ
place_of [] n = 0
place_of (row ∷ rows) n = if row.number == n then 0 else place_of rows n + 1

-- what was reported durable: the entry at the place of the key that had the number, if there is one, is of the new key,
-- with nothing reserved. The entry of a forgotten key has the name of its octets, so the place decides, not the name
abbrev pub entries_renewed : List ℕ → NewKey → List InstalledKey → List Reservation → List Reservation
entries_renewed salt key keys granted =
    if is_number_used keys key.number
    then set granted (place_of keys key.number) (record { name = sending_name salt (key_bytes key.bytes); last = 0 })
    else granted

-- the names that are given up: the name of the key that had the number, if there is one, is one more
abbrev pub names_renewed : List ℕ → NewKey → List InstalledKey → List (List ℕ) → List (List ℕ)
names_renewed salt key keys given_up =
    if is_number_used keys key.number then given_up ++ key_name salt keys key.number ∷ [] else given_up

-- with the new key. What earlier runs reserved stays, and so does what this run reserved for other keys
abbrev pub keeping_renewed : NewKey → Keeping → Keeping
keeping_renewed key k = record k {
  secy = renewing key k.secy;
  granted = entries_renewed k.salt key k.secy.keys k.granted;
  given_up = names_renewed k.salt key k.secy.keys k.given_up;
}

abbrev pub unless_refused : Option Refusal → NewKey → Keeping → Keeping
unless_refused None key k = keeping_renewed key k
unless_refused (Some r) key k = k

abbrev pub keeping_after_renewing : NewKey → Keeping → Keeping
keeping_after_renewing key k = unless_refused (renewal_refusal k.secy key) key k

-- ---- octets that are given up

-- the name is among these
abbrev pub has_name : List (List ℕ) → List ℕ → Bool
has_name names name = list_any (λ other. same_octets other name) names

-- a new key took the row of a key with this name. What a journal reserved for the name does not matter
abbrev pub is_name_given_up : Keeping → List ℕ → Bool
is_name_given_up k name = has_name k.given_up name

-- a new key took the row of the key with these octets, or with their fingerprint
abbrev pub is_given_up : Keeping → List ℕ → Bool
is_given_up k bytes = is_name_given_up k (sending_name k.salt bytes)
    || is_name_given_up k (sending_name k.salt (fingerprint k.salt bytes))

-- why a new key is refused, if it is, by an endpoint that forgets retired keys: octets that are given up are refused
-- before any other refusal
abbrev pub refusal_if : Bool → Option Refusal → Option Refusal
refusal_if true r = Some KeyRepeated
refusal_if false r = r

abbrev pub forgetting_refusal : Keeping → NewKey → Option Refusal
forgetting_refusal k key = refusal_if (is_given_up k (key_bytes key.bytes)) (renewal_refusal k.secy (as_taken k key))

abbrev pub forgetting_after_renewing : Keeping → NewKey → Keeping
forgetting_after_renewing k key = unless_refused (forgetting_refusal k key) (as_taken k key) k

-- ---- what renewing gives up

-- the octets of a key whose row a new key took are refused from then on, also if only their fingerprint was left
abbrev pub GivesUpOctets : Keeping → NewKey → List ℕ → Type 0
GivesUpOctets k key bytes =
    is_number_used k.secy.keys key.number ≡ true →
    ((the_key k.secy.keys key.number).bytes ≡ bytes)
    ⊎ ((the_key k.secy.keys key.number).bytes ≡ fingerprint k.salt bytes) →
    is_given_up (keeping_renewed key k) bytes ≡ true

-- and other renewals keep it so
abbrev pub StaysGivenUp : Keeping → NewKey → List ℕ → Type 0
StaysGivenUp k key bytes = is_given_up k bytes ≡ true → is_given_up (keeping_after_renewing key k) bytes ≡ true

-- and so does every other step
abbrev pub StaysGivenUpBy : Keeping → KeepingInput → List ℕ → Type 0
StaysGivenUpBy k input bytes = is_given_up k bytes ≡ true → is_given_up (forgetting_step k input).1 bytes ≡ true

-- such a key is refused as a repeated one, and nothing changes
abbrev pub RefusesGivenUp : Keeping → NewKey → Type 0
RefusesGivenUp k key =
    is_given_up k (key_bytes key.bytes) ≡ true →
    (forgetting_refusal k key ≡ Some KeyRepeated) × (forgetting_after_renewing k key ≡ k)

-- no floor changes: what an earlier run may have used stays refused, and nothing else is
abbrev pub KeepsFloors : Keeping → NewKey → Type 0
KeepsFloors k key = (keeping_after_renewing key k).before ≡ k.before
