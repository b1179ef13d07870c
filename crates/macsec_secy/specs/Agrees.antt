-- How the rows of an endpoint's tables agree with one another in every state since its creation (IEEE 802.1AE, 10.7).
-- Each step keeps this, without any other fact about the endpoint.
use Rattle.std.specs.Prelude.{◌≡◌, ◌≤◌, ◌+◌, ℕ, List, [], ◌∷◌, ◌==◌, Bool, false, ◌&&◌, IsSome}
use Rattle.std.specs.List.{All, list_any}
use Rattle.macsec_gcm.specs.Octets.{same_octets}
use Rattle.macsec_suite.specs.KeyRows.{InstalledKey, key_row, the_key}
use Rattle.macsec_tx.specs.declared.TxRow.{TxRow}
use Rattle.macsec_tx.specs.Commands.{tx_uses}
use Rattle.macsec_rx.specs.declared.RxRow.{RxRow}
use Rattle.macsec_rx.specs.Channels.{is_at}
use Rattle.macsec_rx.specs.Commands.{has_channel, is_own_ssci}
use Rattle.macsec_secy.specs.State.{State}

-- no two elements pass the test, the earlier one as its first argument
abbrev pub NoTwo : {A : Type 0} → (A → A → Bool) → List A → Type 0
NoTwo test [] = Unit {0}
NoTwo test (x ∷ xs) = (list_any (test x) xs ≡ false) × NoTwo test xs

abbrev pub same_bytes : InstalledKey → InstalledKey → Bool
same_bytes a b = same_octets a.bytes b.bytes

abbrev pub same_an : TxRow → TxRow → Bool
same_an a b = a.an == b.an

abbrev pub both_on : TxRow → TxRow → Bool
both_on a b = a.on && b.on

-- both have the same SC and number
abbrev pub same_place : RxRow → RxRow → Bool
same_place a b = is_at b.sci b.an a

-- the first unused packet number of a key: one above the last that was used under it; 1 for a key that is not in the
-- table, as for a new one
abbrev pub first_unused : List InstalledKey → ℕ → ℕ
first_unused keys n = (the_key keys n).first_unused

-- the key of a transmit SA is in the table, and the SA's next packet number is not below the key's first unused one
pub record HasUnusedNext (keys : List InstalledKey) (row : TxRow) : Type 0 where
  pub there : IsSome (key_row keys row.key)
  pub next : first_unused keys row.key ≤ row.next

-- every SA has such a next packet number, and no two SAs have the same key
abbrev pub HaveUnusedNext : List InstalledKey → List TxRow → Type 0
HaveUnusedNext keys [] = Unit {0}
HaveUnusedNext keys (row ∷ rows) = HasUnusedNext keys row × (tx_uses rows row.key ≡ false) × HaveUnusedNext keys rows

-- the key of a receive SA is in the table; with extended packet numbers, the SA's SSCI is not the key's own
pub record HasOtherSsci (keys : List InstalledKey) (row : RxRow) : Type 0 where
  pub there : IsSome (key_row keys row.key)
  pub other : is_own_ssci (the_key keys row.key) row.ssci ≡ false

pub record Agrees (s : State) : Type 0 where
  -- no two keys have the same bytes
  pub key_bytes : NoTwo same_bytes s.keys
  -- the next packet number of each transmit SA is not below its key's first unused one, and no two SAs have the same
  -- key
  pub unused_next : HaveUnusedNext s.keys s.tx
  -- no two transmit SAs have the same number
  pub tx_numbers : NoTwo same_an s.tx
  -- at most one transmit SA is enabled
  pub one_on : NoTwo both_on s.tx
  -- no receive SC has the endpoint's own SCI
  pub other_scis : has_channel s.rx.scis s.config.sci ≡ false
  -- no two receive SAs of an SC have the same number
  pub rx_places : NoTwo same_place s.rx.rows
  -- with extended packet numbers, no receive SA has its key's own SSCI
  pub other_sscis : All (λ row. HasOtherSsci s.keys row) s.rx.rows
  -- the next packet number of each receive SA exceeds its lowest acceptable one by at most the replay window
  pub within_window : All (λ row. row.next ≤ row.lowest + s.options.window) s.rx.rows
