-- The rules of a record's fields: which records have a spelling.
use Rattle.std.specs.Prelude.{ℕ, ◌^◌, ◌+◌, Bool, true, ◌&&◌, ◌||◌, nat_le, nat_lt, List, length, Option, Some, None, is_some, IsTrue}
use Rattle.std.specs.List.{list_all}
use Rattle.std.specs.Option.{option_map_or}
use Rattle.store_model.specs.Along.{AllAlong}
use Rattle.store_model.specs.Lists.{last_of}
use Rattle.store_model.specs.declared.limits.TheConstants.{HIGHEST, LEAST_LIMIT, MOST_PAGES}
use Rattle.wal_record.specs.State.{is_text, is_key, is_value, is_child, KeepsState}
use Rattle.wal_record.specs.declared.analysis.PageHead.{PageHead}
use Rattle.wal_record.specs.declared.analysis.Run.{Run}
use Rattle.wal_record.specs.declared.record.Format.{Format}
use Rattle.wal_record.specs.declared.record.Write.{Write}
use Rattle.wal_record.specs.declared.record.Apply.{Apply}
use Rattle.wal_record.specs.declared.record.Undo.{Undo}
use Rattle.wal_record.specs.declared.record.Commit.{Commit}
use Rattle.wal_record.specs.declared.record.End.{End}
use Rattle.wal_record.specs.declared.record.Split.{Split}
use Rattle.wal_record.specs.declared.record.Adopt.{Adopt}
use Rattle.wal_record.specs.declared.record.Grow.{Grow}
use Rattle.wal_record.specs.declared.record.Purge.{Purge}
use Rattle.wal_record.specs.declared.record.Written.{Written}
use Rattle.wal_record.specs.declared.record.OpenWrite.{OpenWrite}
use Rattle.wal_record.specs.declared.record.Unfinished.{Unfinished}
use Rattle.wal_record.specs.declared.record.Checkpoint.{Checkpoint}
use Rattle.wal_record.specs.declared.record.PageLsn.{PageLsn}
use Rattle.wal_record.specs.declared.record.BackupDone.{BackupDone}
use Rattle.wal_record.specs.declared.record.RunDone.{RunDone}
use Rattle.wal_record.specs.declared.record.Lost.{Lost}
use Rattle.wal_record.specs.declared.record.Restored.{Restored}
use Rattle.wal_record.specs.declared.record.Record.{Record}
use Rattle.wal_record.specs.declared.record.Record.TheVariants as kinds

-- ---- fields

-- a transaction, a backup, a run, or the LSN of a record
abbrev pub is_number : ℕ → Bool
is_number n = nat_le 1 n && nat_le n HIGHEST

-- the LSN of a record, or 0 for none
abbrev pub is_lsn_or_none : ℕ → Bool
is_lsn_or_none n = nat_le n HIGHEST

-- one above a number, or 1
abbrev pub is_next : ℕ → Bool
is_next n = nat_le 1 n && nat_le n (HIGHEST + 1)

abbrev pub is_page : ℕ → Bool
is_page n = nat_le 1 n && nat_le n MOST_PAGES

abbrev pub is_limit : ℕ → Bool
is_limit n = nat_le LEAST_LIMIT n && nat_le n MOST_PAGES

-- of the pages that one backup record names
abbrev pub is_page_count : ℕ → Bool
is_page_count n = nat_le 1 n && nat_le n 16

-- numbers that have no rule but the width of their field
abbrev pub is_u8 : ℕ → Bool
is_u8 n = nat_lt n (2 ^ 8)

abbrev pub is_u16 : ℕ → Bool
is_u16 n = nat_lt n (2 ^ 16)

abbrev pub is_u32 : ℕ → Bool
is_u32 n = nat_lt n (2 ^ 32)

abbrev pub is_u64 : ℕ → Bool
is_u64 n = nat_lt n (2 ^ 64)

abbrev pub is_maybe_value : Option (List ℕ) → Bool
is_maybe_value None = true
is_maybe_value (Some v) = is_value v

-- a write has a value before it or after it
abbrev pub is_change : Option (List ℕ) → Option (List ℕ) → Bool
is_change old new = is_some old || is_some new

-- ---- the items of lists

-- the number is above that of the last item, where there is one
abbrev pub rises_above : {A : Type 0} → (A → ℕ) → List A → ℕ → Bool
rises_above number before n = option_map_or (λ x. nat_lt (number x) n) (last_of before) true

abbrev pub page_head_fits : PageHead → Bool
page_head_fits h = is_number h.head && is_lsn_or_none h.written && (is_lsn_or_none h.backup && is_lsn_or_none h.backup_lsn)

-- oldest first
abbrev pub open_write_fits : List OpenWrite → OpenWrite → Bool
open_write_fits before w = is_number w.lsn && rises_above (λ (x : OpenWrite). x.lsn) before w.lsn && is_key w.key

-- by rising number
pub record KeepsUnfinished (before : List Unfinished) (u : Unfinished) : Type 0 where
  pub tx : IsTrue (is_number u.tx && rises_above (λ (x : Unfinished). x.tx) before u.tx)
  pub last : IsTrue (is_number u.last)
  pub undo_next : IsTrue (is_lsn_or_none u.undo_next)
  pub count : IsTrue (is_u32 (length u.writes))
  pub writes : AllAlong (λ ws w. IsTrue (open_write_fits ws w)) u.writes

abbrev pub segment_fits : List ℕ → ℕ → Bool
segment_fits before segment = is_u32 segment && rises_above (λ n. n) before segment

-- by rising LSN
abbrev pub run_fits : List Run → Run → Bool
run_fits before r = is_number r.run && (is_number r.first && rises_above (λ (x : Run). x.first) before r.first) && is_number r.last

abbrev pub page_lsn_fits : List PageLsn → PageLsn → Bool
page_lsn_fits before p = is_page p.page && rises_above (λ (x : PageLsn). x.page) before p.page && is_number p.lsn

-- ---- the kinds

pub record KeepsFormat (r : Format) : Type 0 where
  pub limit : IsTrue (is_limit r.limit)

pub record KeepsWrite (r : Write) : Type 0 where
  pub tx : IsTrue (is_number r.tx)
  pub prev : IsTrue (is_lsn_or_none r.prev)
  pub page : IsTrue (is_page r.page)
  pub page_prev : IsTrue (is_lsn_or_none r.page_prev)
  pub key : IsTrue (is_key r.key)
  pub old : IsTrue (is_maybe_value r.old)
  pub new : IsTrue (is_maybe_value r.new)
  pub change : IsTrue (is_change r.old r.new)

pub record KeepsApply (r : Apply) : Type 0 where
  pub tx : IsTrue (is_number r.tx)
  pub prev : IsTrue (is_lsn_or_none r.prev)
  pub page : IsTrue (is_page r.page)
  pub page_prev : IsTrue (is_lsn_or_none r.page_prev)
  pub key : IsTrue (is_key r.key)
  pub operator : IsTrue (is_u8 r.operator)
  pub argument : IsTrue (is_text r.argument)
  pub old : IsTrue (is_maybe_value r.old)

pub record KeepsUndo (r : Undo) : Type 0 where
  pub tx : IsTrue (is_number r.tx)
  pub prev : IsTrue (is_lsn_or_none r.prev)
  pub page : IsTrue (is_page r.page)
  pub page_prev : IsTrue (is_lsn_or_none r.page_prev)
  pub key : IsTrue (is_key r.key)
  pub restores : IsTrue (is_maybe_value r.restores)
  pub undo_next : IsTrue (is_lsn_or_none r.undo_next)

pub record KeepsCommit (r : Commit) : Type 0 where
  pub tx : IsTrue (is_number r.tx)
  pub prev : IsTrue (is_lsn_or_none r.prev)

pub record KeepsEnd (r : End) : Type 0 where
  pub tx : IsTrue (is_number r.tx)
  pub prev : IsTrue (is_lsn_or_none r.prev)

pub record KeepsSplit (r : Split) : Type 0 where
  pub page : IsTrue (is_page r.page)
  pub page_prev : IsTrue (is_lsn_or_none r.page_prev)
  pub child : IsTrue (is_child r.child)
  pub child_state : KeepsState r.child_state

pub record KeepsAdopt (r : Adopt) : Type 0 where
  pub parent : IsTrue (is_page r.parent)
  pub parent_prev : IsTrue (is_lsn_or_none r.parent_prev)
  pub fosterer : IsTrue (is_page r.fosterer)
  pub fosterer_prev : IsTrue (is_lsn_or_none r.fosterer_prev)
  pub child : IsTrue (is_child r.child)
  pub key : IsTrue (is_key r.key)

pub record KeepsGrow (r : Grow) : Type 0 where
  pub page_prev : IsTrue (is_lsn_or_none r.page_prev)
  pub child : IsTrue (is_child r.child)
  pub child_state : KeepsState r.child_state

pub record KeepsPurge (r : Purge) : Type 0 where
  pub page : IsTrue (is_page r.page)
  pub page_prev : IsTrue (is_lsn_or_none r.page_prev)

pub record KeepsWritten (r : Written) : Type 0 where
  pub page : IsTrue (is_page r.page)
  pub lsn : IsTrue (is_number r.lsn)

pub record KeepsCheckpoint (r : Checkpoint) : Type 0 where
  pub next_tx : IsTrue (is_next r.next_tx)
  pub commits : IsTrue (is_u64 r.commits)
  pub limit : IsTrue (is_u32 r.limit)
  pub pages_count : IsTrue (is_u32 (length r.pages))
  pub pages : IsTrue (list_all page_head_fits r.pages)
  pub transactions_count : IsTrue (is_u32 (length r.transactions))
  pub transactions : AllAlong KeepsUnfinished r.transactions
  pub lost : IsTrue (is_u32 r.lost)
  pub unrestored_count : IsTrue (is_u32 (length r.unrestored))
  pub unrestored : AllAlong (λ before segment. IsTrue (segment_fits before segment)) r.unrestored
  pub runs_count : IsTrue (is_u16 (length r.runs))
  pub runs : AllAlong (λ before x. IsTrue (run_fits before x)) r.runs
  pub next_backup : IsTrue (is_next r.next_backup)
  pub next_run : IsTrue (is_next r.next_run)

pub record KeepsBackupDone (r : BackupDone) : Type 0 where
  pub backup : IsTrue (is_number r.backup)
  pub segment : IsTrue (is_u32 r.segment)
  pub pages_count : IsTrue (is_page_count (length r.pages))
  pub pages : AllAlong (λ before p. IsTrue (page_lsn_fits before p)) r.pages

pub record KeepsRunDone (r : RunDone) : Type 0 where
  pub run : IsTrue (is_number r.run)
  pub first : IsTrue (is_number r.first)
  pub last : IsTrue (is_number r.last)

pub record KeepsLost (r : Lost) : Type 0 where
  pub pages : IsTrue (is_u32 r.pages)

pub record KeepsRestored (r : Restored) : Type 0 where
  pub segment : IsTrue (is_u32 r.segment)

-- the record's fields keep their rules, so it has a spelling
abbrev pub HasSpelling : Record → Type 0
HasSpelling (kinds.Format r) = KeepsFormat r
HasSpelling (kinds.Write r) = KeepsWrite r
HasSpelling (kinds.Apply r) = KeepsApply r
HasSpelling (kinds.Undo r) = KeepsUndo r
HasSpelling (kinds.Commit r) = KeepsCommit r
HasSpelling (kinds.End r) = KeepsEnd r
HasSpelling (kinds.Split r) = KeepsSplit r
HasSpelling (kinds.Adopt r) = KeepsAdopt r
HasSpelling (kinds.Grow r) = KeepsGrow r
HasSpelling (kinds.Purge r) = KeepsPurge r
HasSpelling (kinds.Written r) = KeepsWritten r
HasSpelling (kinds.Checkpoint r) = KeepsCheckpoint r
HasSpelling (kinds.BackupDone r) = KeepsBackupDone r
HasSpelling (kinds.RunDone r) = KeepsRunDone r
HasSpelling (kinds.Lost r) = KeepsLost r
HasSpelling (kinds.Restored r) = KeepsRestored r
