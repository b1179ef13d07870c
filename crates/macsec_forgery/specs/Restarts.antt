-- Two ends that restart, and whose endpoints renew keys: either no tag is forged, or the hash key of a key is one of
-- few. Each run has the option to reserve ahead of receiving, or it does not.
use Rattle.std.specs.Prelude.{◌≡◌, ◌⊎◌, ℕ, ◌≤◌, List, [], ◌∷◌, ◌++◌, length, map, take, Bool, Some, IfSome}
use Rattle.std.specs.Prelude.{Contains}
use Rattle.std.specs.List.{All, AllPairs}
use Rattle.macsec_gcm.specs.Gcm.{hash_subkey}
use Rattle.macsec_tag.specs.declared.identifiers.Sci.{Sci}
use Rattle.macsec_suite.specs.CipherUses.{CipherUse}
use Rattle.macsec_commands.specs.declared.event.End.{End}
use Rattle.macsec_commands.specs.declared.event.End.TheVariants.{A, B}
use Rattle.macsec_commands.specs.declared.mode.Mode.TheVariants.{Strict}
use Rattle.macsec_secy.specs.State.{State}
use Rattle.macsec_secy.specs.Step.{link_frame}
use Rattle.macsec_link.specs.Genuine.{use_opened}
use Rattle.macsec_link.specs.World.{other_end}
use Rattle.macsec_reserve.specs.Keeping.{KeepingInput, endpoint_input}
use Rattle.macsec_restarts.specs.AheadRuns.{newly_delivered_with}
use Rattle.macsec_restarts.specs.Delivered.{Delivery, delivered_at}
use Rattle.macsec_restarts.specs.Happenings.{AtEach, Happening, begins, comes_in}
use Rattle.macsec_restarts.specs.Kept.{IsGenuineFrom, RunWith, last_of, runs_at}
use Rattle.macsec_restarts.specs.Order.{HasStrictOrder}
use Rattle.macsec_restarts.specs.Peers.{HasOctets}
use Rattle.macsec_restarts.specs.RenewingOrder.{ArePeersRenewing, AskedOfLast, ComesFromOtherWith}
use Rattle.macsec_restarts.specs.RenewingOrder.{ComesInOrderRenewing, ReadsDeliveredWith, ReadsSentWith}
use Rattle.macsec_restarts.specs.RenewingOrder.{closing_renewing}
use Rattle.macsec_restarts.specs.RenewingRuns.{IsSoundRun, sent_by_all}
use Rattle.macsec_restarts.specs.Used.{seal_of}
use Rattle.macsec_hash_keys.specs.Forgeries.{HasForgery, IsWithin, under}
use Rattle.macsec_hash_keys.specs.Polynomials.{AreKeys}
use Rattle.macsec_hash_keys.specs.Tags.{mask_of}

-- all that both ends have sealed, in these runs
abbrev pub sealed_by_both : List RunWith → List RunWith → List CipherUse
sealed_by_both ra rb = map seal_of (sent_by_all ra) ++ map seal_of (sent_by_all rb)

-- in all their runs so far
abbrev pub sealed_so_far : (End → ℕ → Bool) → List Happening → List CipherUse
sealed_so_far ahead before = sealed_by_both (runs_at ahead A before) (runs_at ahead B before)

-- what an end opens was sealed before
abbrev pub IsGenuineInput : (End → ℕ → Bool) → List Happening → Happening → Type 0
IsGenuineInput ahead before (begins e config journal) = Unit {0}
IsGenuineInput ahead before (comes_in e input) =
    IfSome (last_of (runs_at ahead e before)) (λ r.
    IsGenuineFrom (sent_by_all (runs_at ahead A before) ++ sent_by_all (runs_at ahead B before)) (closing_renewing r)
    input)

-- by this happening an end opens a use of the cipher that neither end has sealed
pub record IsForgedBy (ahead : End → ℕ → Bool) (before : List Happening) (h : Happening) : Type 0 where
  pub end : End
  pub run : RunWith
  pub frame : List ℕ
  pub is_link_frame : h ≡ comes_in end (endpoint_input (link_frame frame))
  pub in_run : last_of (runs_at ahead end before) ≡ Some run
  pub forged : CipherUse
  pub opened : use_opened (closing_renewing run).k.secy frame ≡ Some forged
  pub not_sealed : Contains (sealed_so_far ahead before) forged → ⊥

-- a happening of the list is such a one, and before it no tag is forged
pub record IsForgedIn (ahead : End → ℕ → Bool) (events : List Happening) : Type 0 where
  pub before : List Happening
  pub now : Happening
  pub later : List Happening
  pub in_order : events ≡ before ++ now ∷ later
  pub genuine_before : AtEach (IsGenuineInput ahead) [] before
  pub by : IsForgedBy ahead before now

-- no tag is forged, or there is a first forged one
abbrev pub GenuineOrForgedOverRestarts : Type 0
GenuineOrForgedOverRestarts = (ahead : End → ℕ → Bool) (events : List Happening)
    → AtEach (IsGenuineInput ahead) [] events ⊎ IsForgedIn ahead events

-- ---- origin, said as "or": the premise on tags stays

-- where the input delivers a frame from an SA, the end validates strictly, the frame is octets, and the ends are peers
pub record IsOriginButForged (ra rb : List RunWith) (s : State) (h : Happening) : Type 0 where
  pub strict : s.options.mode ≡ Strict
  pub octets : HasOctets h
  pub peers : ArePeersRenewing ra rb

abbrev pub IsOriginOrForgedAt : (End → ℕ → Bool) → End → List Happening → RunWith → KeepingInput → Type 0
IsOriginOrForgedAt ahead e before r input =
    (d : Delivery) → Contains (newly_delivered_with (closing_renewing r) input) d →
    IsOriginButForged (runs_at ahead A before) (runs_at ahead B before) (closing_renewing r).k.secy (comes_in e input)

abbrev pub OriginOrForgedOverRestarts : Type 0
OriginOrForgedOverRestarts = (ahead : End → ℕ → Bool) (events : List Happening) (e : End)
    → ((f : End) → All IsSoundRun (runs_at ahead f events))
    → AtEach (AskedOfLast ahead e (IsOriginOrForgedAt ahead e)) [] events
    → IsForgedIn ahead events ⊎ ((k : ℕ) → ComesFromOtherWith ahead e (take k events))

-- ---- order and once, said as "or"

pub record IsFairButForged (ra rb : List RunWith) (s : State) (h : Happening) : Type 0 where
  pub order : HasStrictOrder s
  pub octets : HasOctets h
  pub peers : ArePeersRenewing ra rb

abbrev pub IsFairOrForgedAt : (End → ℕ → Bool) → End → List ℕ → Sci → ℕ → List Happening → RunWith → KeepingInput →
    Type 0
IsFairOrForgedAt ahead e bytes sci an before r input =
    (d : Delivery) → Contains (delivered_at bytes sci an (newly_delivered_with (closing_renewing r) input)) d →
    IsFairButForged (runs_at ahead A before) (runs_at ahead B before) (closing_renewing r).k.secy (comes_in e input)

-- each later run reads what was sent and delivered before, as the law of order asks
abbrev pub OrderOrForgedOverRestarts : Type 0
OrderOrForgedOverRestarts = (ahead : End → ℕ → Bool) (events : List Happening)
    → (e : End) (bytes : List ℕ) (sci : Sci) (an : ℕ)
    → ((f : End) → All IsSoundRun (runs_at ahead f events))
    → AtEach (AskedOfLast ahead e (IsFairOrForgedAt ahead e bytes sci an)) [] events
    → AllPairs (ReadsSentWith bytes) (runs_at ahead (other_end e) events)
    → AllPairs (ReadsDeliveredWith bytes sci an) (runs_at ahead e events)
    → IsForgedIn ahead events ⊎ ((k : ℕ) → ComesInOrderRenewing ahead e bytes sci an (take k events))

-- ---- the hash keys that a forgery needs

-- the keys that have a forgery, among all that was sealed under the key so far and this one try, with the masks that
-- AES gives
abbrev pub HasThisForgeryBy : (ahead : End → ℕ → Bool) (before : List Happening) (now : Happening)
    → IsForgedBy ahead before now → ℕ → Type 0
HasThisForgeryBy ahead before now it =
    HasForgery (mask_of it.forged.key) (under it.forged.key (sealed_so_far ahead before)) (it.forged ∷ [])

-- the hash key that AES gives for the key of the forged use is one of them
abbrev pub ForgeryIsCountedOverRestarts : Type 0
ForgeryIsCountedOverRestarts = (ahead : End → ℕ → Bool) (before : List Happening) (now : Happening)
    → (it : IsForgedBy ahead before now) → HasThisForgeryBy ahead before now it (hash_subkey it.forged.key)

-- at most n hash keys have this forgery, if each message that was sealed, and the forged one, have at most n blocks
abbrev pub FewKeysForgeOverRestarts : Type 0
FewKeysForgeOverRestarts = (ahead : End → ℕ → Bool) (n : ℕ) (before : List Happening) (now : Happening)
    → (it : IsForgedBy ahead before now) (hs : List ℕ)
    → All (IsWithin n) (sealed_so_far ahead before) → IsWithin n it.forged
    → AreKeys hs → All (HasThisForgeryBy ahead before now it) hs
    → length hs ≤ n
