-- What this disk can do. Disks, kernels and file systems do these, so a model that leaves one out proves too much.
use Rattle.std.specs.Prelude.{◌≡◌, ◌≢◌, ◌<◌, ◌≤◌, ◌/◌, ◌%◌, ℕ, suc, List, [], ◌∷◌, ◌++◌, length, take}
use Rattle.std.specs.Prelude.{Bool, true, false, Contains, Some, slice_index_or}
use Rattle.std.specs.List.{All}
use Rattle.sha2.specs.Sha256.{sha256}
use Rattle.macsec_commands.specs.declared.config.EndConfig.{EndConfig}
use Rattle.macsec_reserve.specs.Entries.{reduced}
use Rattle.macsec_reserve.specs.Journal.{header, reserved_in, salt_of}
use Rattle.macsec_journal.specs.declared.step.Step.{Step}
use Rattle.macsec_journal.specs.declared.step.Step.TheVariants.{Appending, Syncing, Filling, SyncingNew, Renaming}
use Rattle.macsec_journal.specs.declared.step.Step.TheVariants.{SyncingFolder}
use Rattle.macsec_journal.specs.Damage.{IsDamaged, IsNoChance}
use Rattle.macsec_journal.specs.Disk.{File, Folder, IsLeft, Piece, Stands, candidates, empty_file, end_of, folder_left}
use Rattle.macsec_journal.specs.Disk.{given_up}
use Rattle.macsec_journal.specs.Format.{check_of_file, counted_octets, entries_digest, fits, has_header, is_readable}
use Rattle.macsec_journal.specs.Format.{read_in, slot_of_count}
use Rattle.macsec_journal.specs.Machine.{Journal, appended, call_after, whole}
use Rattle.macsec_journal.specs.World.{CanHappen, Event, Process, World, answers, begins, created, earlier, ends}
use Rattle.macsec_journal.specs.World.{happens}

-- a file that has this piece on the disk, and nothing else
abbrev pub with_piece : Piece → Folder → Folder
with_piece p f = record f { named = record { firm = p ∷ []; fresh = [] } }

abbrev pub with_empty_file : Folder → Folder
with_empty_file f = record f { named = empty_file }

-- the same for the new file beside it
abbrev pub with_new : List Piece → Folder → Folder
with_new ps f = record f { new = record { firm = ps; fresh = [] } }

-- two files in which this piece is not synchronized yet
abbrev pub with_fresh : Piece → Folder → Folder
with_fresh p f = record f { named = record { firm = []; fresh = p ∷ [] }; new = record { firm = []; fresh = p ∷ [] } }

-- an octet of one piece is in the same sector as an octet of the other piece. A sector has 4,096 octets
pub record ShareSector (p q : Piece) : Type 0 where
  pub octet : ℕ
  pub in_piece : (p.at ≤ octet) × (octet < end_of p)
  pub other : ℕ
  pub in_other : (q.at ≤ other) × (other < end_of q)
  pub sector : octet / 4096 ≡ other / 4096

-- a call of this step
abbrev pub at_call : Step → Journal → Journal
at_call s j = record j { step = s }

-- a file that can be left with any octets
abbrev pub IsLost : File → Type 0
IsLost f = (octets : List ℕ) → IsLeft f octets

-- the crash after which the name leads to this candidate
abbrev pub crash_to : ℕ → Event
crash_to n = ends n

-- two texts of which SHA-256 has the same first 24 octets
pub record IsCollision : Type 0 where
  pub one : List ℕ
  pub other : List ℕ
  pub differ : one ≢ other
  pub same : take 24 (sha256 one) ≡ take 24 (sha256 other)

pub record CanHarm : Type 0 where
  -- the first octet and the last one of 4,096 are in one sector
  pub shares : (x y : ℕ) → ShareSector (record { at = 0; octets = x ∷ [] }) (record { at = 4095; octets = y ∷ [] })
  -- each call can succeed and fail, whatever happened before, and does this to the folder
  pub calls : (w : World) (p : Process) (ok : Bool) → CanHappen (record w { now = Some p }) (answers ok) ×
      ((happens (record w { now = Some p }) (answers ok)).folder ≡ call_after ok p.journal w.folder)
  -- a write that fails can damage each piece of which it touches a sector, and so can one that succeeds, until it is
  -- synchronized
  pub tears : (j : Journal) (f : Folder) (p : Piece) → ShareSector (appended j) p → IsLost
      (call_after false (at_call Appending j) (with_piece p f)).named
  pub overwrites : (j : Journal) (f : Folder) (p : Piece) → ShareSector (appended j) p → IsLost
      (call_after true (at_call Appending j) (with_piece p f)).named
  -- a later synchronization saves neither the octets of a write that failed, nor those in its sectors that were written
  -- before it and not synchronized
  pub tears_fresh : (j : Journal) (f : Folder) (p : Piece) → ShareSector (appended j) p → IsLost
      (call_after true (at_call Syncing j) (call_after false (at_call Appending j) (with_fresh p f))).named
  pub tears_fresh_new : (j : Journal) (f : Folder) (p : Piece) → ShareSector (whole j) p → IsLost
      (call_after true (at_call SyncingNew j) (call_after false (at_call Filling j) (with_fresh p f))).new
  -- octets that were written over may be gone
  pub replaces : (j : Journal) (f : Folder) (p : Piece) → ShareSector (appended j) p → (octets : List ℕ) → Stands octets
      (appended j) →
      IsLeft (call_after true (at_call Syncing j) (call_after true (at_call Appending j) (with_fresh p f))).named octets
  -- what a failed synchronization left is lost, although a later one succeeds
  pub forgets : (j : Journal) (f : Folder) →
      IsLost (call_after true (at_call Syncing j) (call_after false (at_call Syncing j)
      (call_after true (at_call Appending j) (with_empty_file f)))).named
  -- and so is what an earlier process wrote and did not synchronize, although a later process synchronizes the file
  pub ends : (j : Journal) (f : Folder) →
      IsLost (call_after true (at_call Syncing j) (folder_left 0 (call_after true (at_call Appending j)
      (with_empty_file f)))).named
  -- a process can read what was never on the disk
  pub reads : (j : Journal) (f : Folder) →
      IsLeft (call_after false (at_call Syncing j) (call_after true (at_call Appending j) (with_empty_file f))).named
      (appended (at_call Appending j)).octets
  -- any octets can follow the journal
  pub follows : (f : File) (octets more : List ℕ) → IsLeft f octets → IsLeft f (octets ++ more)
  -- a crash leads the name back to the old file, although the folder was synchronized after a failure to do so
  pub leads_back : (j : Journal) (f : Folder) →
      (folder_left 1 (call_after true (at_call SyncingFolder j) (call_after false (at_call SyncingFolder j)
      (call_after true (at_call Renaming j) f)))).named
      ≡ given_up f.named
  -- and again in the next run
  pub leads_back_later : (j : Journal) (f : Folder) →
      (folder_left 2 (call_after true (at_call SyncingFolder j) (folder_left 0
      (call_after true (at_call Renaming j) f)))).named ≡ given_up f.named
  -- after a rename, done or failed, a crash leads the name back to each file to which it could lead it before
  pub leads_further : (j : Journal) (f : Folder) (n : ℕ) →
      (folder_left (suc n) (call_after true (at_call Renaming j) f)).named
      ≡ given_up (slice_index_or (candidates f) n f.new)
  pub fails_further : (j : Journal) (f : Folder) (n : ℕ) →
      (folder_left (suc (suc n)) (call_after false (at_call Renaming j) f)).named
      ≡ given_up (slice_index_or f.back n f.named)
  -- a rename that returned an error was done
  pub renames : (j : Journal) (f : Folder) → Contains (candidates (call_after false (at_call Renaming j) f)) f.new
  -- so is the new file, by a write or a synchronization that fails, or by the end of its process: a later
  -- synchronization does not save it
  pub tears_new : (j : Journal) (f : Folder) (p : Piece) → ShareSector (whole j) p → IsLost
      (call_after false (at_call Filling j) (with_new (p ∷ []) f)).new
  pub forgets_new : (j : Journal) (f : Folder) →
      IsLost (call_after true (at_call SyncingNew j) (call_after false (at_call SyncingNew j)
      (call_after true (at_call Filling j) (with_new [] f)))).new
  pub ends_new : (j : Journal) (f : Folder) (n : ℕ) →
      IsLost (call_after true (at_call SyncingNew j) (folder_left n (call_after true (at_call Filling j)
      (with_new [] f)))).new
  -- a crash leads the name to any of its files, with a process and without one
  pub crashes : (w : World) (n : ℕ) → n < length (candidates w.folder) → CanHappen w (crash_to n) ×
      ((happens w (crash_to n)).folder ≡ folder_left n w.folder)
  -- a journal of the earlier form is in its place, and any octets follow its header
  pub is_earlier : (salt more : List ℕ) → IsLeft (created earlier salt).folder.named (header salt ++ more)
  -- all octets of a sector, which may be the last one of the file and not full, are others when a process reads them,
  -- or records of it are missing or there twice
  pub damages : (before was now behind : List ℕ) → length before % 4096 ≡ 0 → length was ≤ 4096 →
      length now % 64 ≡ length was % 64 → IsDamaged (before ++ was ++ behind) (before ++ now ++ behind)
  -- a process begins with them, if they have the same header, count and entries
  pub finds : (w : World) (limit : ℕ) (config : EndConfig) (left damaged : List ℕ) → IsLeft w.folder.named left →
      IsDamaged left damaged → take 64 damaged ≡ take 64 left → slot_of_count damaged ≡ slot_of_count left →
      counted_octets damaged ≡ counted_octets left → is_readable damaged ≡ true → All (λ x. x < 256) damaged →
      fits limit (length (reduced (read_in damaged))) ≡ true → CanHappen w (begins limit config damaged)
  -- a damaged header that is none, a damaged count that is no record, and entries with another digest are no chance
  pub shows : (octets damaged : List ℕ) → has_header damaged ≡ false → reserved_in (slot_of_count damaged) ≡ [] →
      entries_digest (salt_of octets) (counted_octets damaged) ≢ entries_digest (salt_of octets) (counted_octets octets)
      → IsNoChance octets damaged
  -- other entries have the same digest, and another salt the same check, only by a collision of SHA-256
  pub collides : (salt one other : List ℕ) → one ≢ other → entries_digest salt one ≡ entries_digest salt other →
      IsCollision
  pub collides_salt : (one other : List ℕ) → one ≢ other → check_of_file one ≡ check_of_file other → IsCollision
