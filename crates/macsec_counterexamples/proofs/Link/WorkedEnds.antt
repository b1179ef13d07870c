-- The ends of worked runs: their configurations and keys, and the commands by which SA 0 sends or receives.
use Rattle.{
  macsec_secy.specs.declared.counters.ChannelCounters.ChannelCounters,
  macsec_link_logs.specs.Logs.{DeliveryLog, SentLogs},
  macsec_link.proofs.Members.member,
  macsec_counterexamples.proofs.Names.{[], ◌++◌, ◌∷◌, ◌≡◌, ◌≢◌, ◌⊎◌, A, B, Bool, Command, Contains, End, EndConfig},
  macsec_counterexamples.proofs.Names.{Event, false, Gcm128, get_or, inl, inr, InstalledKey, K128, Key, List},
  macsec_counterexamples.proofs.Names.{make_fault, new_channel_counters, NewKey, None, replicate, RxCounters, RxOn},
  macsec_counterexamples.proofs.Names.{RxRow, RxSa, RxSc, Sci, Send, Some, Suite, true, TxOn, TxRow, TxSa, Xpn128, ℕ},
}
use Rattle.macsec_commands.specs.declared.form.TagForm.TheVariants as form

abbrev pub sci_a : Sci
sci_a = record { 0 = 2 ∷ 0 ∷ 0 ∷ 0 ∷ 0 ∷ 1 ∷ 0 ∷ 1 ∷ [] }

abbrev pub sci_b : Sci
sci_b = record { 0 = 2 ∷ 0 ∷ 0 ∷ 0 ∷ 0 ∷ 2 ∷ 0 ∷ 1 ∷ [] }

pub scis_differ : (s t : Sci) → get_or s.0 5 0 ≢ get_or t.0 5 0 → s ≢ t
scis_differ s t differ same = differ (rw same)

-- a configuration with which each sent frame carries the SCI
abbrev pub config : Suite → Sci → EndConfig
config suite sci = record { suite = suite; sci = sci; max_frame = 1518; form = form.Sci }

abbrev pub gcm_a : EndConfig
gcm_a = config Gcm128 sci_a

abbrev pub gcm_b : EndConfig
gcm_b = config Gcm128 sci_b

abbrev pub xpn_a : EndConfig
xpn_a = config Xpn128 sci_a

abbrev pub xpn_b : EndConfig
xpn_b = config Xpn128 sci_b

abbrev pub no_salt : List ℕ
no_salt = replicate 12 0

-- key 0, with the same bytes at both ends
abbrev pub bytes : List ℕ
bytes = replicate 16 7

abbrev pub new_key : List ℕ → ℕ → NewKey
new_key salt ssci = record { number = 0; bytes = K128 bytes; salt = salt; ssci = ssci; offset = 0; suite = None }

-- a client frame with two octets of data
abbrev pub client : List ℕ
client = replicate 14 3

-- the law is false of this run, whose ends can be created
abbrev pub Fails : (EndConfig → EndConfig → List Event → Type 0) → EndConfig → EndConfig → List Event → Type 0
Fails law a b events = (make_fault a b ≡ None) × (law a b events → ⊥)

-- SA 0 sends from this packet number on
abbrev pub sends_from : End → NewKey → ℕ → Bool → List Event
sends_from e key next conf = Command e (Key key) ∷ Command e (TxSa 0 0 next conf) ∷ Command e (TxOn 0) ∷ []

-- each end sends a frame, from packet number 1 on
abbrev pub both_send : NewKey → NewKey → List Event
both_send a b = sends_from A a 1 false ++ sends_from B b 1 false ++ Send A client ∷ Send B client ∷ []

-- SA 0 of the only SC receives from this packet number on
abbrev pub receives_from : End → NewKey → Sci → ℕ → ℕ → List Event
receives_from e key sci ssci lowest =
    Command e (Key key) ∷ Command e (RxSc sci) ∷ Command e (RxSa sci 0 0 ssci lowest) ∷ Command e (RxOn sci 0) ∷ []

-- the SA that sends so, for integrity only, and the one that receives so from A
abbrev pub tx_from : ℕ → TxRow
tx_from next = record { an = 0; key = 0; next = next; conf = false; on = true }

abbrev pub rx_from : ℕ → RxRow
rx_from next = record { sci = sci_a; an = 0; key = 0; ssci = 1; next = next; lowest = next; on = true }

-- the counters of the receive SA and its SC
abbrev pub counts : RxCounters → ChannelCounters
counts counted =
    record (new_channel_counters sci_a) { counters = counted; associations = Some counted ∷ None ∷ None ∷ None ∷ [] }

abbrev pub log : List (List ℕ) → DeliveryLog
log frames = record { sci = sci_a; an = 0; key = 0; live = true; frames = frames }

abbrev pub logs_sent : List (List ℕ) → SentLogs
logs_sent [] = []
logs_sent (frame ∷ frames) = record { key = 0; frames = frame ∷ frames } ∷ []

-- key 0 as it is installed
abbrev pub installed_key : Suite → List ℕ → ℕ → ℕ → InstalledKey
installed_key suite salt ssci first_unused =
    record {
      number = 0;
      suite = suite;
      bytes = bytes;
      salt = salt;
      ssci = ssci;
      offset = 0;
      first_unused = first_unused;
      retired = false;
    }

pub only : {X : Type 0} (key x : X) → Contains (key ∷ []) x → key ≡ x
only key x there = by_place (member (key ∷ []) x there)
  where
    by_place : (key ≡ x) ⊎ ⊥ → key ≡ x
    by_place (inl here) = here
    by_place (inr none) = absurd none

-- if each end has one key, what holds of these two holds of any two
pub of_two : {X : Type 0} (R : X → X → Type 0) (a b : X) → R a b → (x y : X) → Contains (a ∷ []) x → Contains (b ∷ []) y
    → R x y
of_two R a b holds x y there there' = rw (← only _ _ there) (rw (only _ _ there') at holds)
