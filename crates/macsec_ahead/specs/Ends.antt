-- Where the receive SAs that this run deleted have ended: a table of bounded size. While there is space, each SA gets an
-- entry. Further SAs share a number for each key, and at last one number for all keys. So more may be refused than needed.
use Rattle.std.specs.Prelude.{ℕ, ◌-◌, ◌^◌, ◌==◌, ◌&&◌, not, nat_lt, min, max, List, [], ◌∷◌, ◌++◌, length, map, filter, Bool, if◌then◌else◌}
use Rattle.std.specs.List.{list_any}
use Rattle.macsec_tag.specs.declared.identifiers.Sci.{Sci}
use Rattle.macsec_commands.specs.declared.command.Command.{Command}
use Rattle.macsec_commands.specs.declared.command.Command.TheVariants.{Retire}
use Rattle.macsec_rx.specs.declared.RxRow.{RxRow}
use Rattle.macsec_rx.specs.Channels.{same_sci}
use Rattle.macsec_rx.specs.Commands.{has_rx}
use Rattle.macsec_secy.specs.State.{State}
use Rattle.macsec_ahead.specs.declared.ends.EndedKey.{EndedKey}
use Rattle.macsec_ahead.specs.declared.ends.EndedSa.{EndedSa}

-- the most SAs that have an entry, and the most keys that have a number
abbrev pub max_end_count : ℕ
max_end_count = 1024

-- an entry for each SA; a number for each key that has SAs without an entry; and a number for all other keys
pub record Ends : Type 0 where
  pub entries : List EndedSa
  pub keys : List EndedKey
  pub others : ℕ

abbrev pub no_ends : Ends
no_ends = record { entries = []; keys = []; others = 0 }

-- ---- what it says

abbrev pub is_of : ℕ → Sci → ℕ → EndedSa → Bool
is_of key sci an e = e.key == key && same_sci e.sci sci && e.an == an

abbrev pub is_under : ℕ → EndedKey → Bool
is_under key e = e.key == key

-- the highest end of an SA among the entries, 0 if none has ended
abbrev pub last_end : List EndedSa → ℕ → Sci → ℕ → ℕ
last_end [] key sci an = 0
last_end (e ∷ es) key sci an = if is_of key sci an e then max e.last (last_end es key sci an) else last_end es key sci an

abbrev pub last_under : List EndedKey → ℕ → ℕ
last_under [] key = 0
last_under (e ∷ es) key = if is_under key e then max e.last (last_under es key) else last_under es key

-- an SA under a key is not created again at this packet number or below
abbrev pub end_of : Ends → ℕ → Sci → ℕ → ℕ
end_of t key sci an = max (last_end t.entries key sci an) (max (last_under t.keys key) t.others)

-- ---- one more end

abbrev pub sa_raised : EndedSa → EndedSa → EndedSa
sa_raised by e = if is_of by.key by.sci by.an e then record e { last = max e.last by.last } else e

abbrev pub key_raised : EndedSa → EndedKey → EndedKey
key_raised by e = if is_under by.key e then record e { last = max e.last by.last } else e

abbrev pub has_end : List EndedSa → EndedSa → Bool
has_end es by = list_any (λ e. is_of by.key by.sci by.an e) es

abbrev pub has_key_end : List EndedKey → EndedSa → Bool
has_key_end es by = list_any (λ e. is_under by.key e) es

-- one more end that gets no entry: it shares the number of its key, or else the number of all further keys
abbrev pub with_key_end : EndedSa → Ends → Ends
with_key_end by t =
    if has_key_end t.keys by then record t { keys = map (key_raised by) t.keys }
    else if nat_lt (length t.keys) max_end_count then record t { keys = t.keys ++ record { key = by.key; last = by.last } ∷ [] }
    else record t { others = max t.others by.last }

-- the SA's entry is raised, or it gets one, or it shares the number of its key
abbrev pub with_end : EndedSa → Ends → Ends
with_end by t =
    if has_end t.entries by then record t { entries = map (sa_raised by) t.entries }
    else if nat_lt (length t.entries) max_end_count then record t { entries = t.entries ++ by ∷ [] }
    else with_key_end by t

abbrev pub with_ends : List EndedSa → Ends → Ends
with_ends [] t = t
with_ends (e ∷ es) t = with_ends es (with_end e t)

-- ---- the ends of a step

-- the number before the SA's lowest acceptable packet number
abbrev pub end_of_row : RxRow → ℕ
end_of_row row = min (row.lowest - 1) (2 ^ 64 - 1)

abbrev pub ended_of : RxRow → EndedSa
ended_of row = record { key = row.key; sci = row.sci; an = row.an; last = end_of_row row }

-- the ends of the SAs in a list that do not exist
abbrev pub is_gone : State → RxRow → Bool
is_gone s row = not (has_rx s.rx.rows row.sci row.an)

abbrev pub ends_among : State → List RxRow → List EndedSa
ends_among s rows = map ended_of (filter (is_gone s) rows)

-- the ends of the SAs that existed before a step and do not exist after it
abbrev pub ended_by : State → State → List EndedSa
ended_by s after = ends_among after s.rx.rows

-- ---- a retired key: no SA is created under it any more

abbrev pub without_key : ℕ → Ends → Ends
without_key key t = record t { entries = filter (λ e. not (e.key == key)) t.entries; keys = filter (λ e. not (is_under key e)) t.keys }

abbrev pub after_retiring : Command → Bool → Ends → Ends
after_retiring (Retire key) done t = if done then without_key key t else t
after_retiring c done t = t
