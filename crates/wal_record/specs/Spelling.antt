-- The one spelling of each record, and of a page's state, as bytes. Numbers stand with their greatest
-- byte first, a text behind its length, and a list behind its count.
use Rattle.std.specs.Prelude.{ℕ, List, [], ◌∷◌, ◌++◌, length, flat_map, Option, Some, None, Bool, true, false}
use Rattle.std.specs.Int.{Width, w8, w16, w32, w64, to_be_bytes}
use Rattle.wal_record.specs.State.{text_of}
use Rattle.wal_record.specs.declared.analysis.PageHead.{PageHead}
use Rattle.wal_record.specs.declared.analysis.Run.{Run}
use Rattle.wal_record.specs.declared.page.PageState.{PageState}
use Rattle.wal_record.specs.declared.page.LeafRow.{LeafRow}
use Rattle.wal_record.specs.declared.page.BranchRow.{BranchRow}
use Rattle.wal_record.specs.declared.page.Foster.{Foster}
use Rattle.wal_record.specs.declared.page.Rows.{Rows}
use Rattle.wal_record.specs.declared.page.Rows.TheVariants.{Leaf, Branch}
use Rattle.wal_record.specs.declared.record.Format.{Format}
use Rattle.wal_record.specs.declared.record.Write.{Write}
use Rattle.wal_record.specs.declared.record.Apply.{Apply}
use Rattle.wal_record.specs.declared.record.Undo.{Undo}
use Rattle.wal_record.specs.declared.record.Commit.{Commit}
use Rattle.wal_record.specs.declared.record.End.{End}
use Rattle.wal_record.specs.declared.record.Split.{Split}
use Rattle.wal_record.specs.declared.record.Adopt.{Adopt}
use Rattle.wal_record.specs.declared.record.Grow.{Grow}
use Rattle.wal_record.specs.declared.record.Purge.{Purge}
use Rattle.wal_record.specs.declared.record.Written.{Written}
use Rattle.wal_record.specs.declared.record.OpenWrite.{OpenWrite}
use Rattle.wal_record.specs.declared.record.Unfinished.{Unfinished}
use Rattle.wal_record.specs.declared.record.Checkpoint.{Checkpoint}
use Rattle.wal_record.specs.declared.record.PageLsn.{PageLsn}
use Rattle.wal_record.specs.declared.record.BackupDone.{BackupDone}
use Rattle.wal_record.specs.declared.record.RunDone.{RunDone}
use Rattle.wal_record.specs.declared.record.Lost.{Lost}
use Rattle.wal_record.specs.declared.record.Restored.{Restored}
use Rattle.wal_record.specs.declared.record.Record.{Record}
use Rattle.wal_record.specs.declared.record.Record.TheVariants as kinds

-- ---- fields

-- a number, its greatest byte first
unfoldable pub number_bytes : Width → ℕ → List ℕ
number_bytes w n = to_be_bytes w n

-- a length byte and that many bytes
unfoldable pub text_bytes : List ℕ → List ℕ
text_bytes text = length text ∷ text

-- two bytes of length and that many bytes
unfoldable pub value_bytes : List ℕ → List ℕ
value_bytes value = to_be_bytes w16 (length value) ++ value

-- the byte 0, or the byte 1 and what is there
unfoldable pub maybe_bytes : {A : Type 0} → (A → List ℕ) → Option A → List ℕ
maybe_bytes bytes_of None = 0 ∷ []
maybe_bytes bytes_of (Some x) = 1 ∷ bytes_of x

-- a count and the items
unfoldable pub list_bytes : {A : Type 0} → Width → (A → List ℕ) → List A → List ℕ
list_bytes w bytes_of items = to_be_bytes w (length items) ++ flat_map bytes_of items

abbrev pub flag_of : Bool → ℕ
flag_of false = 0
flag_of true = 1

-- ---- a page's state

abbrev pub foster_bytes : Foster → List ℕ
foster_bytes f = text_bytes f.key ++ number_bytes w32 f.child

abbrev pub leaf_row_bytes : LeafRow → List ℕ
leaf_row_bytes row = text_bytes row.key ++ flag_of row.tombstone ∷ value_bytes row.value

abbrev pub branch_row_bytes : BranchRow → List ℕ
branch_row_bytes row = text_bytes (text_of row.low) ++ number_bytes w32 row.child

abbrev pub rows_bytes : Rows → List ℕ
rows_bytes (Leaf rows) = list_bytes w16 leaf_row_bytes rows
rows_bytes (Branch rows) = list_bytes w16 branch_row_bytes rows

unfoldable pub state_bytes : PageState → List ℕ
state_bytes s = number_bytes w8 s.level ++ text_bytes (text_of s.low) ++ maybe_bytes text_bytes s.high ++ maybe_bytes foster_bytes s.foster ++ rows_bytes s.rows

-- ---- the kinds of records

abbrev pub format_bytes : Format → List ℕ
format_bytes r = number_bytes w32 r.limit

abbrev pub write_bytes : Write → List ℕ
write_bytes r = number_bytes w64 r.tx ++ number_bytes w64 r.prev ++ number_bytes w32 r.page ++ number_bytes w64 r.page_prev ++ text_bytes r.key ++ maybe_bytes value_bytes r.old ++ maybe_bytes value_bytes r.new

abbrev pub apply_bytes : Apply → List ℕ
apply_bytes r = number_bytes w64 r.tx ++ number_bytes w64 r.prev ++ number_bytes w32 r.page ++ number_bytes w64 r.page_prev ++ text_bytes r.key ++ number_bytes w8 r.operator ++ text_bytes r.argument ++ maybe_bytes value_bytes r.old

abbrev pub undo_bytes : Undo → List ℕ
undo_bytes r = number_bytes w64 r.tx ++ number_bytes w64 r.prev ++ number_bytes w32 r.page ++ number_bytes w64 r.page_prev ++ text_bytes r.key ++ maybe_bytes value_bytes r.restores ++ number_bytes w64 r.undo_next

abbrev pub commit_bytes : Commit → List ℕ
commit_bytes r = number_bytes w64 r.tx ++ number_bytes w64 r.prev

abbrev pub end_bytes : End → List ℕ
end_bytes r = number_bytes w64 r.tx ++ number_bytes w64 r.prev

abbrev pub split_bytes : Split → List ℕ
split_bytes r = number_bytes w32 r.page ++ number_bytes w64 r.page_prev ++ number_bytes w32 r.child ++ state_bytes r.child_state

abbrev pub adopt_bytes : Adopt → List ℕ
adopt_bytes r = number_bytes w32 r.parent ++ number_bytes w64 r.parent_prev ++ number_bytes w32 r.fosterer ++ number_bytes w64 r.fosterer_prev ++ number_bytes w32 r.child ++ text_bytes r.key

abbrev pub grow_bytes : Grow → List ℕ
grow_bytes r = number_bytes w64 r.page_prev ++ number_bytes w32 r.child ++ state_bytes r.child_state

abbrev pub purge_bytes : Purge → List ℕ
purge_bytes r = number_bytes w32 r.page ++ number_bytes w64 r.page_prev

abbrev pub written_bytes : Written → List ℕ
written_bytes r = number_bytes w32 r.page ++ number_bytes w64 r.lsn

abbrev pub page_head_bytes : PageHead → List ℕ
page_head_bytes h = number_bytes w64 h.head ++ number_bytes w64 h.written ++ number_bytes w64 h.backup ++ number_bytes w64 h.backup_lsn

abbrev pub open_write_bytes : OpenWrite → List ℕ
open_write_bytes w = number_bytes w64 w.lsn ++ text_bytes w.key

abbrev pub unfinished_bytes : Unfinished → List ℕ
unfinished_bytes u = number_bytes w64 u.tx ++ number_bytes w64 u.last ++ number_bytes w64 u.undo_next ++ list_bytes w32 open_write_bytes u.writes

abbrev pub run_bytes : Run → List ℕ
run_bytes r = number_bytes w64 r.run ++ number_bytes w64 r.first ++ number_bytes w64 r.last

unfoldable pub checkpoint_bytes : Checkpoint → List ℕ
checkpoint_bytes r =
    number_bytes w64 r.next_tx ++ number_bytes w64 r.commits ++ number_bytes w32 r.limit ++ list_bytes w32 page_head_bytes r.pages ++ list_bytes w32 unfinished_bytes r.transactions
    ++ number_bytes w32 r.lost ++ list_bytes w32 (number_bytes w32) r.unrestored ++ list_bytes w16 run_bytes r.runs ++ number_bytes w64 r.next_backup ++ number_bytes w64 r.next_run

abbrev pub page_lsn_bytes : PageLsn → List ℕ
page_lsn_bytes p = number_bytes w32 p.page ++ number_bytes w64 p.lsn

abbrev pub backup_done_bytes : BackupDone → List ℕ
backup_done_bytes r = number_bytes w64 r.backup ++ number_bytes w32 r.segment ++ list_bytes w8 page_lsn_bytes r.pages

abbrev pub run_done_bytes : RunDone → List ℕ
run_done_bytes r = number_bytes w64 r.run ++ number_bytes w64 r.first ++ number_bytes w64 r.last

abbrev pub lost_bytes : Lost → List ℕ
lost_bytes r = number_bytes w32 r.pages

abbrev pub restored_bytes : Restored → List ℕ
restored_bytes r = number_bytes w32 r.segment

-- the byte of its kind, and its fields in order
abbrev pub spelling : Record → List ℕ
spelling (kinds.Format r) = 1 ∷ format_bytes r
spelling (kinds.Write r) = 2 ∷ write_bytes r
spelling (kinds.Apply r) = 3 ∷ apply_bytes r
spelling (kinds.Undo r) = 4 ∷ undo_bytes r
spelling (kinds.Commit r) = 5 ∷ commit_bytes r
spelling (kinds.End r) = 6 ∷ end_bytes r
spelling (kinds.Split r) = 7 ∷ split_bytes r
spelling (kinds.Adopt r) = 8 ∷ adopt_bytes r
spelling (kinds.Grow r) = 9 ∷ grow_bytes r
spelling (kinds.Purge r) = 10 ∷ purge_bytes r
spelling (kinds.Written r) = 11 ∷ written_bytes r
spelling (kinds.Checkpoint r) = 12 ∷ checkpoint_bytes r
spelling (kinds.BackupDone r) = 13 ∷ backup_done_bytes r
spelling (kinds.RunDone r) = 14 ∷ run_done_bytes r
spelling (kinds.Lost r) = 15 ∷ lost_bytes r
spelling (kinds.Restored r) = 16 ∷ restored_bytes r
