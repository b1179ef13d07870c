-- Two ends that restart, and whose endpoints renew keys: the number of blocks by the length of frames; and what was
-- sealed allows every hash key, and shows nothing of the encrypted octets but how many there are.
use Rattle.std.specs.Prelude.{◌≢◌, ℕ, ◌+◌, ◌*◌, ◌≤◌, List, length, map, Bool}
use Rattle.std.specs.List.{All, AllPairs}
use Rattle.macsec_tag.specs.Laws.{AreOctets}
use Rattle.macsec_tag.specs.Limits.{max_frame_len}
use Rattle.macsec_suite.specs.CipherUses.{CipherUse}
use Rattle.macsec_suite.specs.KeyRows.{InstalledKey}
use Rattle.macsec_commands.specs.declared.event.End.{End}
use Rattle.macsec_secy.specs.State.{State}
use Rattle.macsec_secy.specs.Step.{Input, client_frame}
use Rattle.macsec_reserve.specs.Keeping.{KeepingInput, endpoint_input}
use Rattle.macsec_restarts.specs.Happenings.{Happening}
use Rattle.macsec_restarts.specs.Kept.{RunWith, runs_at}
use Rattle.macsec_restarts.specs.RenewingOrder.{AreOfTwoEndsWith, IsHistoryWith}
use Rattle.macsec_restarts.specs.RenewingRuns.{IsSoundRun, states_of}
use Rattle.macsec_secrecy.specs.Inputs.{inputs_of_uses}
use Rattle.macsec_secrecy.specs.Pads.{IsMessage}
use Rattle.macsec_secrecy.specs.Runs.{SaysNothing, message_of}
use Rattle.macsec_hash_keys.specs.Forgeries.{IsPossible, under}
use Rattle.macsec_hash_keys.specs.Polynomials.{AreKeys}
use Rattle.macsec_forgery.specs.Restarts.{HasThisForgeryBy, IsForgedBy, sealed_by_both}

-- ---- the number of blocks

-- this holds of the endpoint at each moment of a run
abbrev pub AtEachState : (State → Type 0) → RunWith → Type 0
AtEachState P r = (n : ℕ) → P (states_of r n)

abbrev pub HasOctetKeys : State → Type 0
HasOctetKeys s = All (λ (key : InstalledKey). AreOctets key.bytes) s.keys

-- no protected frame of more than n octets leaves
abbrev pub LeavesAtMost : ℕ → State → Type 0
LeavesAtMost n s = s.config.max_frame ≤ n

-- a client frame is octets
abbrev pub IsOfOctets : Input → Type 0
IsOfOctets (client_frame frame) = AreOctets frame
IsOfOctets other = Unit {0}

abbrev pub TakesOctets : KeepingInput → Type 0
TakesOctets (endpoint_input input) = IsOfOctets input
TakesOctets other = Unit {0}

-- a run as each caller has it: a sound endpoint, whose keys and client frames are octets
pub record IsRunOfOctets (r : RunWith) : Type 0 where
  pub sound : IsSoundRun r
  pub keys : AtEachState HasOctetKeys r
  pub clients : All TakesOctets r.run.inputs

-- at most m + 1 hash keys have this forgery, if no end sends protected frames of more than 16 m octets, and the forged
-- frame has no more
abbrev pub FewKeysForgeByLength : Type 0
FewKeysForgeByLength = (ahead : End → ℕ → Bool) (m : ℕ) (before : List Happening) (now : Happening)
    → (it : IsForgedBy ahead before now) (hs : List ℕ)
    → ((e : End) → All IsRunOfOctets (runs_at ahead e before))
    → ((e : End) → All (AtEachState (LeavesAtMost (16 * m))) (runs_at ahead e before))
    → AreOctets it.frame → length it.frame ≤ 16 * m → length it.frame ≤ max_frame_len
    → AreKeys hs → All (HasThisForgeryBy ahead before now it) hs
    → length hs ≤ m + 1

-- at most 579 in any history, since no frame has more than 9,248 octets
abbrev pub FewKeysForgeInAnyHistory : Type 0
FewKeysForgeInAnyHistory = (ahead : End → ℕ → Bool) (before : List Happening) (now : Happening)
    → (it : IsForgedBy ahead before now) (hs : List ℕ)
    → ((e : End) → All IsRunOfOctets (runs_at ahead e before))
    → AreOctets it.frame → length it.frame ≤ max_frame_len
    → AreKeys hs → All (HasThisForgeryBy ahead before now it) hs
    → length hs ≤ 579

-- ---- all that both ends have sealed

-- this holds of all that was sealed under a key, by the premises under which two ends repeat no IV
abbrev pub OfAllSealed : (List ℕ → List CipherUse → Type 0) → Type 0
OfAllSealed P = (ra rb : List RunWith) → IsHistoryWith ra → IsHistoryWith rb → All (λ r. All (AreOfTwoEndsWith r) rb) ra
    → (key : List ℕ) → P key (under key (sealed_by_both ra rb))

-- no IV comes twice, so what was sealed allows every hash key, each input of AES is used at most once, except the block
-- of zeros, and the link says nothing of the encrypted octets but how many there are
abbrev pub AllowsEveryKey : List ℕ → List CipherUse → Type 0
AllowsEveryKey key seals = (given : List ℕ → List ℕ) (h : ℕ) → IsPossible given seals h

abbrev pub UsesNoInputTwice : List ℕ → List CipherUse → Type 0
UsesNoInputTwice key seals = AllPairs (λ x y. x ≢ y) (inputs_of_uses seals)

abbrev pub SaysNothingIfOctets : List ℕ → List CipherUse → Type 0
SaysNothingIfOctets key seals = AreOctets key → All IsMessage (map message_of seals) → SaysNothing key seals
