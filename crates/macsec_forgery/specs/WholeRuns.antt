-- All frames of a run that are tried: at most n hash keys for each have a forgery.
use Rattle.std.specs.Prelude.{◌≡◌, ℕ, ◌+◌, ◌*◌, ◌≤◌, List, [], ◌∷◌, ◌++◌, length, filter, slice_get}
use Rattle.std.specs.Prelude.{Option, Some, None, Contains}
use Rattle.std.specs.List.{All, Any}
use Rattle.macsec_gcm.specs.Gcm.{hash_subkey}
use Rattle.macsec_gcm.specs.Octets.{same_octets}
use Rattle.macsec_tag.specs.Table.{Reading, reading, tagged}
use Rattle.macsec_suite.specs.CipherUses.{CipherUse}
use Rattle.macsec_commands.specs.declared.config.EndConfig.{EndConfig}
use Rattle.macsec_commands.specs.declared.event.End.{End}
use Rattle.macsec_commands.specs.declared.event.Event.{Event}
use Rattle.macsec_commands.specs.declared.event.Event.TheVariants.{Deliver}
use Rattle.macsec_rx.specs.declared.RxRow.{RxRow}
use Rattle.macsec_rx.specs.Judge.{Judgement}
use Rattle.macsec_secy.specs.Reception.{judgement_of}
use Rattle.macsec_secy.specs.State.{State}
use Rattle.macsec_link.specs.Beginnings.{AreSound}
use Rattle.macsec_link.specs.Forgery.{IsForgedAt, trace_before}
use Rattle.macsec_link.specs.Step.{world_after}
use Rattle.macsec_link.specs.Trace.{Trace, new_trace, trace_step, use_to_open_by}
use Rattle.macsec_link.specs.World.{end_of, frame_at, new_world}
use Rattle.macsec_hash_keys.specs.Forgeries.{HasForgery, under}
use Rattle.macsec_hash_keys.specs.Polynomials.{AreKeys}
use Rattle.macsec_hash_keys.specs.Tags.{mask_of}

-- the use of the cipher by a frame of these parts for this SA, whether its tag is right or not
abbrev pub use_tried_in : State → Judgement → Option RxRow → Reading → Option CipherUse
use_tried_in s j (Some row) (tagged p) = Some (use_to_open_by s row j.number p)
use_tried_in s j row r = None

-- what is tried of a frame that an end receives, by the judgement on it
abbrev pub use_tried : State → List ℕ → Option CipherUse
use_tried s frame = let j = judgement_of s frame in use_tried_in s j j.row (reading frame)

-- a try: a use of the cipher, and all that both ends had sealed before it
pub record Try : Type 0 where
  pub tried : CipherUse
  pub seals : List CipherUse

abbrev pub try_of : Option CipherUse → List CipherUse → List Try
try_of None seals = []
try_of (Some u) seals = record { tried = u; seals = seals } ∷ []

-- the try of an event: of a link frame that an end receives
abbrev pub tries_by : Trace → Event → List Try
tries_by t (Deliver e n) = try_of (use_tried (end_of t.world e).state (frame_at t.world n)) t.seals
tries_by t other = []

abbrev pub tries_from : Trace → List Event → List Try
tries_from t [] = []
tries_from t (event ∷ events) = tries_by t event ++ tries_from (trace_step t event) events

-- all tries of a run under a key's bytes
abbrev pub tries_under : List ℕ → EndConfig → EndConfig → List Event → List Try
tries_under key a b events = filter (λ x. same_octets x.tried.key key) (tries_from (new_trace a b) events)

-- each frame whose tag an end looks at, which is in step 11, 12 or 13 of reception, is among them
pub record HasEachTry (a b : EndConfig) (events : List Event) (moment : ℕ) (e : End) (n : ℕ) : Type 0 where
  pub tried : CipherUse
  pub is : use_tried (end_of (trace_before a b events moment).world e).state
      (frame_at (trace_before a b events moment).world n) ≡ Some tried
  pub there : Contains (tries_under tried.key a b events)
      (record { tried = tried; seals = (trace_before a b events moment).seals })

abbrev pub TriesHaveAll : Type 0
TriesHaveAll =
    (a b : EndConfig) (events : List Event) (moment : ℕ) (e : End) (n : ℕ)
    → slice_get events moment ≡ Some (Deliver e n)
    → 11 ≤ (judgement_of (end_of (trace_before a b events moment).world e).state
    (frame_at (trace_before a b events moment).world n)).step
    → HasEachTry a b events moment e n

-- under this hash key one of them is a forgery, among all that was sealed under the key before it
abbrev pub HasForgeryInRun : EndConfig → EndConfig → List Event → List ℕ → ℕ → Type 0
HasForgeryInRun a b events key h =
    Any (λ x. HasForgery (mask_of key) (under key x.seals) (x.tried ∷ []) h) (tries_under key a b events)

-- at most m + 1 hash keys for each try have one, if no link frame has more than 16 m octets
abbrev pub FewKeysForgeInWholeRun : Type 0
FewKeysForgeInWholeRun = (a b : EndConfig) (events : List Event) → AreSound a b events
    → (m : ℕ) (key hs : List ℕ)
    → All (λ frame. length frame ≤ 16 * m) (world_after (new_world a b) events).frames
    → AreKeys hs → All (HasForgeryInRun a b events key) hs
    → length hs ≤ length (tries_under key a b events) * (m + 1)

-- if a tag is forged, the hash key that AES gives for its key is one of them
abbrev pub OwnKeyForgesInRun : Type 0
OwnKeyForgesInRun = (a b : EndConfig) (events : List Event) (moment : ℕ) (it : IsForgedAt a b events moment)
    → HasForgeryInRun a b events it.forged.key (hash_subkey it.forged.key)
