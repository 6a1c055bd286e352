-- What a thread's way to the pages has in hand, and what a call that brings a page needs.
use Rattle.std.specs.Prelude.{ℕ, ◌≤◌, List, Bool, is_some, IsTrue}
use Rattle.wal_record.specs.History.{life_log}
use Rattle.wal_record.specs.Images.{image}
use Rattle.wal_record.specs.declared.record.Record.{Record}
use Rattle.wal_record.specs.declared.entry.Entry.{Entry}

-- of an object through which device calls are made: how many faults of the log disk and of the vault came at them
pub record Faults : Type 0 where
  pub log : ℕ
  pub vault : ℕ

-- they don't fall
pub record KeepsFaults (old new : Faults) : Type 0 where
  pub log : old.log ≤ new.log
  pub vault : old.vault ≤ new.vault

-- the pages taken through it and not put back; whether a frame is reserved for a new page; its faults
pub record Desk : Type 0 where
  pub out : ℕ
  pub reserves : Bool
  pub faults : Faults

-- the page is there after this history
abbrev pub IsMade : (List Record → Type 0) → List Entry → ℕ → Type 0
IsMade opens h page = (opening : List Record) → opens opening → IsTrue (is_some (image (life_log opening h) page))
