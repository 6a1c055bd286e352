use Rattle.std.proofs.Common.{◌≡◌, ℕ, ◌+◌, ◌++◌, List, length, take}
use Rattle.page_ops.specs.Groups.{Each, record_entries}
use Rattle.wal_record.specs.declared.entry.Entry.{Entry}
use Rattle.journal.specs.Restored.{AreRestored, HasRoomIn}
use Rattle.journal.proofs.restored.note_group.Given as goal

abbrev pub invariant-loop-rec : goal.invariant-loop-rec
invariant-loop-rec l = record {
  place : l.place ≡ l.before + l.rec-index;
  room : Each (HasRoomIn l.places) l.recs;
  kept : (h : List Entry) (lsn : ℕ) → AreRestored h l.fn.places → l.before ≡ length h → AreRestored (h ++ record_entries lsn (take l.rec-index l.recs)) l.places;
}
