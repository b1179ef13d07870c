-- Forged tags: in a run no tag is forged, or there is a first forged one, and then the hash key of its key is one of
-- few.
use Rattle.std.specs.Prelude.{◌≡◌, ◌≢◌, ◌⊎◌, ℕ, ◌+◌, ◌*◌, ◌≤◌, ◌<◌, List, [], ◌∷◌, length, take, slice_get, Some}
use Rattle.std.specs.Prelude.{Contains}
use Rattle.std.specs.List.{All}
use Rattle.macsec_gcm.specs.Gcm.{hash_subkey}
use Rattle.macsec_suite.specs.CipherUses.{CipherUse}
use Rattle.macsec_hash_keys.specs.Forgeries.{HasForgery, IsPossible, under}
use Rattle.macsec_hash_keys.specs.Polynomials.{AreKeys}
use Rattle.macsec_hash_keys.specs.Tags.{mask_of}
use Rattle.macsec_commands.specs.declared.config.EndConfig.{EndConfig}
use Rattle.macsec_commands.specs.declared.event.End.{End}
use Rattle.macsec_commands.specs.declared.event.Event.{Event}
use Rattle.macsec_commands.specs.declared.event.Event.TheVariants.{Deliver}
use Rattle.macsec_link.specs.Genuine.{IsGenuine, use_opened}
use Rattle.macsec_link.specs.Keys.{AgreeOnKeys, DifferInSsci}
use Rattle.macsec_link.specs.Step.{world_at}
use Rattle.macsec_link.specs.Trace.{Trace, new_trace, trace_of}
use Rattle.macsec_link.specs.World.{end_of, frame_at}

-- what both ends and the link have recorded before an event
abbrev pub trace_before : EndConfig → EndConfig → List Event → ℕ → Trace
trace_before a b events moment = trace_of a b (take moment events)

-- before this event no tag is forged; by it an end opens a use of the cipher that neither end has sealed
pub record IsForgedAt (a b : EndConfig) (events : List Event) (moment : ℕ) : Type 0 where
  pub end : End
  pub frame : ℕ
  pub event : slice_get events moment ≡ Some (Deliver end frame)
  pub genuine_before : IsGenuine (new_trace a b) (take moment events)
  pub forged : CipherUse
  pub opened : use_opened (end_of (trace_before a b events moment).world end).state
      (frame_at (trace_before a b events moment).world frame) ≡ Some forged
  pub not_sealed : Contains (trace_before a b events moment).seals forged → ⊥

-- all that was sealed under the key of the forged use before it
abbrev pub sealed_before : (a b : EndConfig) (events : List Event) (moment : ℕ) → IsForgedAt a b events moment
    → List CipherUse
sealed_before a b events moment it = under it.forged.key (trace_before a b events moment).seals

-- the hash keys that have this forgery: all those tags are right, and the forged one, if each IV that they leave unused
-- has the mask that AES gives
abbrev pub HasThisForgery : (a b : EndConfig) (events : List Event) (moment : ℕ) → IsForgedAt a b events moment → ℕ
    → Type 0
HasThisForgery a b events moment it =
    HasForgery (mask_of it.forged.key) (sealed_before a b events moment it) (it.forged ∷ [])

-- of the 2^128 hash keys, the forged use needs one of few
pub record NeedsFewKeys (a b : EndConfig) (events : List Event) (moment : ℕ) (it : IsForgedAt a b events moment)
    : Type 0 where
  -- the hash key that AES gives for its key is one of them
  pub own : HasThisForgery a b events moment it (hash_subkey it.forged.key)
  -- they are at most m + 1, if no link frame so far has more than 16 m octets; at most 579 in any run
  pub few : (m : ℕ) (hs : List ℕ) → All (λ frame. length frame ≤ 16 * m) (world_at a b events moment).frames
      → AreKeys hs → All (HasThisForgery a b events moment it) hs → length hs ≤ m + 1
  pub at_most : (hs : List ℕ) → AreKeys hs → All (HasThisForgery a b events moment it) hs → length hs ≤ 579
  -- all tags before it are right for every hash key, if no IV was used twice: these are the premises of `unique_ivs`
  pub of_all : a.sci ≢ b.sci → AgreeOnKeys (world_at a b events moment) → DifferInSsci (world_at a b events moment)
      → (h : ℕ) → IsPossible (mask_of it.forged.key) (sealed_before a b events moment it) h

-- (genuine_or_forged) no tag is forged, or there is a first forged one, which needs one of few hash keys
abbrev pub GenuineOrForged : EndConfig → EndConfig → List Event → Type 0
GenuineOrForged a b events =
    IsGenuine (new_trace a b) events
    ⊎ ((moment : ℕ) × (moment < length events) × (it : IsForgedAt a b events moment)
    × NeedsFewKeys a b events moment it)
