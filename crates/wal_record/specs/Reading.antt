-- Reading a record, or a page's state, from left to right: a value and the bytes after it, or the
-- first fault. A fault is the number of bytes left where the first field begins that is cut or breaks
-- its rule. A field that may be absent is one field, from its flag byte on.
use Rattle.std.specs.Prelude.{ℕ, zero, suc, List, [], ◌∷◌, ◌++◌, length, take, drop, Option, Some, None, Result, Ok, Err, nat_lt, nat_le, ◌==◌, ◌&&◌, ◌||◌, not, Bool, true, false, if◌then◌else◌, ◌+◌}
use Rattle.std.specs.List.{sum_by}
use Rattle.std.specs.Option.{option_map_or}
use Rattle.std.specs.Int.{Width, w8, w16, w32, w64, byte_len, from_be_bytes}
use Rattle.store_model.specs.Range.{Interval, has_key, is_below}
use Rattle.store_model.specs.Lists.{last_of}
use Rattle.wal_record.specs.State.{own_part, leaf_row_size, branch_row_size, state_size, page_room, is_text, is_key, is_value, is_child}
use Rattle.wal_record.specs.Rules.{is_number, is_lsn_or_none, is_next, is_page, is_limit, is_page_count, is_change, rises_above}
use Rattle.wal_record.specs.declared.analysis.PageHead.{PageHead}
use Rattle.wal_record.specs.declared.analysis.Run.{Run}
use Rattle.wal_record.specs.declared.page.PageState.{PageState}
use Rattle.wal_record.specs.declared.page.LeafRow.{LeafRow}
use Rattle.wal_record.specs.declared.page.BranchRow.{BranchRow}
use Rattle.wal_record.specs.declared.page.Foster.{Foster}
use Rattle.wal_record.specs.declared.page.Rows.{Rows}
use Rattle.wal_record.specs.declared.page.Rows.TheVariants.{Leaf, Branch}
use Rattle.wal_record.specs.declared.record.Format.{Format}
use Rattle.wal_record.specs.declared.record.Write.{Write}
use Rattle.wal_record.specs.declared.record.Apply.{Apply}
use Rattle.wal_record.specs.declared.record.Undo.{Undo}
use Rattle.wal_record.specs.declared.record.Commit.{Commit}
use Rattle.wal_record.specs.declared.record.End.{End}
use Rattle.wal_record.specs.declared.record.Split.{Split}
use Rattle.wal_record.specs.declared.record.Adopt.{Adopt}
use Rattle.wal_record.specs.declared.record.Grow.{Grow}
use Rattle.wal_record.specs.declared.record.Purge.{Purge}
use Rattle.wal_record.specs.declared.record.Written.{Written}
use Rattle.wal_record.specs.declared.record.OpenWrite.{OpenWrite}
use Rattle.wal_record.specs.declared.record.Unfinished.{Unfinished}
use Rattle.wal_record.specs.declared.record.Checkpoint.{Checkpoint}
use Rattle.wal_record.specs.declared.record.PageLsn.{PageLsn}
use Rattle.wal_record.specs.declared.record.BackupDone.{BackupDone}
use Rattle.wal_record.specs.declared.record.RunDone.{RunDone}
use Rattle.wal_record.specs.declared.record.Lost.{Lost}
use Rattle.wal_record.specs.declared.record.Restored.{Restored}
use Rattle.wal_record.specs.declared.record.Record.{Record}
use Rattle.wal_record.specs.declared.record.Record.TheVariants as kinds

-- a value and the bytes after it, or the number of bytes left at the fault
abbrev pub Read : Type 0 → Type 0
Read A = Result (A × List ℕ) ℕ

infixl 10 ◌>>=◌
abbrev pub ◌>>=◌ : {A B : Type 0} → Result A ℕ → (A → Result B ℕ) → Result B ℕ
(Ok x) >>= f = f x
(Err left) >>= f = Err left

-- what was read from these bytes, where it keeps a rule
abbrev pub kept : {A : Type 0} → (A → Bool) → List ℕ → Read A → Read A
kept rule bytes (Ok x) = if rule x.0 then Ok x else Err (length bytes)
kept rule bytes (Err left) = Err left

-- what was read from these bytes as one field
abbrev pub as_field : {A : Type 0} → List ℕ → Read A → Read A
as_field bytes (Ok x) = Ok x
as_field bytes (Err left) = Err (length bytes)

-- ---- fields

abbrev pub any_number : ℕ → Bool
any_number n = true

unfoldable pub number_at : Width → (ℕ → Bool) → List ℕ → Read ℕ
number_at w rule bytes =
    if nat_lt (length bytes) (byte_len w) then Err (length bytes)
    else (if rule (from_be_bytes w (take (byte_len w) bytes)) then Ok (from_be_bytes w (take (byte_len w) bytes), drop (byte_len w) bytes) else Err (length bytes))

unfoldable pub text_at : (List ℕ → Bool) → List ℕ → Read (List ℕ)
text_at rule [] = Err 0
text_at rule (len ∷ rest) = if nat_le len (length rest) && rule (take len rest) then Ok (take len rest, drop len rest) else Err (suc (length rest))

abbrev pub key_at : List ℕ → Read (List ℕ)
key_at bytes = text_at is_key bytes

unfoldable pub value_at : List ℕ → Read (List ℕ)
value_at bytes =
    let len = from_be_bytes w16 (take 2 bytes) in
    let rest = drop 2 bytes in
    if nat_lt (length bytes) 2 then Err (length bytes) else (if nat_le len (length rest) && is_value (take len rest) then Ok (take len rest, drop len rest) else Err (length bytes))

unfoldable pub maybe_at : {A : Type 0} → (List ℕ → Read A) → List ℕ → Read (Option A)
maybe_at one_at [] = Err 0
maybe_at one_at (zero ∷ rest) = Ok (None, rest)
maybe_at one_at (suc zero ∷ rest) = as_field (1 ∷ rest) (one_at rest) >>= λ x. Ok (Some x.0, x.1)
maybe_at one_at (suc (suc b) ∷ rest) = Err (suc (length rest))

abbrev pub maybe_value_at : List ℕ → Read (Option (List ℕ))
maybe_value_at bytes = maybe_at value_at bytes

-- the new value of a write that found this old one
unfoldable pub new_value_at : Option (List ℕ) → List ℕ → Read (Option (List ℕ))
new_value_at old bytes = kept (is_change old) bytes (maybe_value_at bytes)

-- ---- lists

-- so many items more, each read in sight of those before it
unfoldable pub items_at : {A : Type 0} → (List A → List ℕ → Read A) → ℕ → List A → List ℕ → Read (List A)
items_at one_at zero before bytes = Ok (before, bytes)
items_at one_at (suc n) before bytes = one_at before bytes >>= λ x. items_at one_at n (before ++ x.0 ∷ []) x.1

-- a count and that many items
unfoldable pub list_at : {A : Type 0} → Width → (ℕ → Bool) → (List A → List ℕ → Read A) → List ℕ → Read (List A)
list_at w rule one_at bytes = number_at w rule bytes >>= λ n. items_at one_at n.0 [] n.1

-- ---- a page's state

-- a high fence above this low one
unfoldable pub high_at : List ℕ → List ℕ → Read (Option (List ℕ))
high_at low bytes = kept (is_below (Some low)) bytes (maybe_at (text_at is_text) bytes)

unfoldable pub foster_pointer_at : List ℕ → Read Foster
foster_pointer_at bytes = do
  key ← text_at is_text bytes
  child ← number_at w32 is_child key.1
  Ok (record { key = key.0; child = child.0 }, child.1)

abbrev pub is_between : List ℕ → Option (List ℕ) → Option Foster → Bool
is_between low high None = true
is_between low high (Some f) = is_below (Some low) (Some f.key) && is_below (Some f.key) high

-- a foster pointer whose key lies between these fences
unfoldable pub foster_at : List ℕ → Option (List ℕ) → List ℕ → Read (Option Foster)
foster_at low high bytes = kept (is_between low high) bytes (maybe_at foster_pointer_at bytes)

-- a key of this part, above that of the row before it
abbrev pub key_follows : Interval → List LeafRow → List ℕ → Bool
key_follows part before key = has_key part key && option_map_or (λ (row : LeafRow). is_below (Some row.key) (Some key)) (last_of before) true

unfoldable pub row_key_at : Interval → List LeafRow → List ℕ → Read (List ℕ)
row_key_at part before bytes = kept (key_follows part before) bytes (key_at bytes)

unfoldable pub flag_at : List ℕ → Read Bool
flag_at [] = Err 0
flag_at (zero ∷ rest) = Ok (false, rest)
flag_at (suc zero ∷ rest) = Ok (true, rest)
flag_at (suc (suc b) ∷ rest) = Err (suc (length rest))

-- a tombstone has the empty value
abbrev pub value_suits : Bool → List ℕ → Bool
value_suits tombstone value = not tombstone || (length value == 0)

unfoldable pub row_value_at : Bool → List ℕ → Read (List ℕ)
row_value_at tombstone bytes = kept (value_suits tombstone) bytes (value_at bytes)

-- the state is so long without the row; a row that doesn't fit is a fault where it begins
abbrev pub in_room : ℕ → ℕ → Bool
in_room used size = nat_le (used + size) page_room

unfoldable pub leaf_row_at : Interval → ℕ → List LeafRow → List ℕ → Read LeafRow
leaf_row_at part used before bytes = do
  key ← row_key_at part before bytes
  flag ← flag_at key.1
  value ← row_value_at flag.0 flag.1
  kept (λ row. in_room (used + sum_by leaf_row_size before) (leaf_row_size row)) bytes (Ok (record { key = key.0; tombstone = flag.0; value = value.0 }, value.1))

-- the first separator is the low fence; each other one is above the one before it and below the end
abbrev pub separator_follows : Interval → List BranchRow → List ℕ → Bool
separator_follows part before key = option_map_or (λ (row : BranchRow). is_below row.low (Some key)) (last_of before) (not (is_below (Some key) part.low || is_below part.low (Some key))) && is_below (Some key) part.high

unfoldable pub separator_at : Interval → List BranchRow → List ℕ → Read (List ℕ)
separator_at part before bytes = kept (separator_follows part before) bytes (text_at is_text bytes)

unfoldable pub branch_row_at : Interval → ℕ → List BranchRow → List ℕ → Read BranchRow
branch_row_at part used before bytes = do
  key ← separator_at part before bytes
  child ← number_at w32 is_child key.1
  kept (λ row. in_room (used + sum_by branch_row_size before) (branch_row_size row)) bytes (Ok (record { low = Some key.0; child = child.0 }, child.1))

-- a branch has at least one row
abbrev pub is_row_count : ℕ → ℕ → Bool
is_row_count level n = (level == 0) || nat_le 1 n

-- the count and the rows of a state of this level and own part, which is so long without them
unfoldable pub rows_at : ℕ → Interval → ℕ → List ℕ → Read Rows
rows_at level part used bytes =
    if level == 0 then (list_at w16 (is_row_count level) (leaf_row_at part used) bytes >>= (λ rows. Ok (Leaf rows.0, rows.1)))
    else (list_at w16 (is_row_count level) (branch_row_at part used) bytes >>= (λ rows. Ok (Branch rows.0, rows.1)))

abbrev pub without_rows : ℕ → List ℕ → Option (List ℕ) → Option Foster → PageState
without_rows level low high foster = record { level = level; low = Some low; high = high; foster = foster; rows = Leaf [] }

unfoldable pub state_at : List ℕ → Read PageState
state_at bytes = do
  level ← number_at w8 any_number bytes
  low ← text_at is_text level.1
  high ← high_at low.0 low.1
  foster ← foster_at low.0 high.0 high.1
  rows ← rows_at level.0 (own_part (without_rows level.0 low.0 high.0 foster.0)) (state_size (without_rows level.0 low.0 high.0 foster.0)) foster.1
  Ok (record { level = level.0; low = Some low.0; high = high.0; foster = foster.0; rows = rows.0 }, rows.1)

-- ---- the kinds of records

unfoldable pub format_at : List ℕ → Read Format
format_at bytes = do
  limit ← number_at w32 is_limit bytes
  Ok (record { limit = limit.0 }, limit.1)

unfoldable pub write_at : List ℕ → Read Write
write_at bytes = do
  tx ← number_at w64 is_number bytes
  prev ← number_at w64 is_lsn_or_none tx.1
  page ← number_at w32 is_page prev.1
  page_prev ← number_at w64 is_lsn_or_none page.1
  key ← key_at page_prev.1
  old ← maybe_value_at key.1
  new ← new_value_at old.0 old.1
  Ok (record { tx = tx.0; prev = prev.0; page = page.0; page_prev = page_prev.0; key = key.0; old = old.0; new = new.0 }, new.1)

unfoldable pub apply_at : List ℕ → Read Apply
apply_at bytes = do
  tx ← number_at w64 is_number bytes
  prev ← number_at w64 is_lsn_or_none tx.1
  page ← number_at w32 is_page prev.1
  page_prev ← number_at w64 is_lsn_or_none page.1
  key ← key_at page_prev.1
  operator ← number_at w8 any_number key.1
  argument ← text_at is_text operator.1
  old ← maybe_value_at argument.1
  Ok (record { tx = tx.0; prev = prev.0; page = page.0; page_prev = page_prev.0; key = key.0; operator = operator.0; argument = argument.0; old = old.0 }, old.1)

unfoldable pub undo_at : List ℕ → Read Undo
undo_at bytes = do
  tx ← number_at w64 is_number bytes
  prev ← number_at w64 is_lsn_or_none tx.1
  page ← number_at w32 is_page prev.1
  page_prev ← number_at w64 is_lsn_or_none page.1
  key ← key_at page_prev.1
  restores ← maybe_value_at key.1
  undo_next ← number_at w64 is_lsn_or_none restores.1
  Ok (record { tx = tx.0; prev = prev.0; page = page.0; page_prev = page_prev.0; key = key.0; restores = restores.0; undo_next = undo_next.0 }, undo_next.1)

unfoldable pub commit_at : List ℕ → Read Commit
commit_at bytes = do
  tx ← number_at w64 is_number bytes
  prev ← number_at w64 is_lsn_or_none tx.1
  Ok (record { tx = tx.0; prev = prev.0 }, prev.1)

unfoldable pub end_at : List ℕ → Read End
end_at bytes = do
  tx ← number_at w64 is_number bytes
  prev ← number_at w64 is_lsn_or_none tx.1
  Ok (record { tx = tx.0; prev = prev.0 }, prev.1)

unfoldable pub split_at : List ℕ → Read Split
split_at bytes = do
  page ← number_at w32 is_page bytes
  page_prev ← number_at w64 is_lsn_or_none page.1
  child ← number_at w32 is_child page_prev.1
  child_state ← state_at child.1
  Ok (record { page = page.0; page_prev = page_prev.0; child = child.0; child_state = child_state.0 }, child_state.1)

unfoldable pub adopt_at : List ℕ → Read Adopt
adopt_at bytes = do
  parent ← number_at w32 is_page bytes
  parent_prev ← number_at w64 is_lsn_or_none parent.1
  fosterer ← number_at w32 is_page parent_prev.1
  fosterer_prev ← number_at w64 is_lsn_or_none fosterer.1
  child ← number_at w32 is_child fosterer_prev.1
  key ← key_at child.1
  Ok (record { parent = parent.0; parent_prev = parent_prev.0; fosterer = fosterer.0; fosterer_prev = fosterer_prev.0; child = child.0; key = key.0 }, key.1)

unfoldable pub grow_at : List ℕ → Read Grow
grow_at bytes = do
  page_prev ← number_at w64 is_lsn_or_none bytes
  child ← number_at w32 is_child page_prev.1
  child_state ← state_at child.1
  Ok (record { page_prev = page_prev.0; child = child.0; child_state = child_state.0 }, child_state.1)

unfoldable pub purge_at : List ℕ → Read Purge
purge_at bytes = do
  page ← number_at w32 is_page bytes
  page_prev ← number_at w64 is_lsn_or_none page.1
  Ok (record { page = page.0; page_prev = page_prev.0 }, page_prev.1)

unfoldable pub written_at : List ℕ → Read Written
written_at bytes = do
  page ← number_at w32 is_page bytes
  lsn ← number_at w64 is_number page.1
  Ok (record { page = page.0; lsn = lsn.0 }, lsn.1)

unfoldable pub page_head_at : List PageHead → List ℕ → Read PageHead
page_head_at before bytes = do
  head ← number_at w64 is_number bytes
  written ← number_at w64 is_lsn_or_none head.1
  backup ← number_at w64 is_lsn_or_none written.1
  backup_lsn ← number_at w64 is_lsn_or_none backup.1
  Ok (record { head = head.0; written = written.0; backup = backup.0; backup_lsn = backup_lsn.0 }, backup_lsn.1)

unfoldable pub open_write_at : List OpenWrite → List ℕ → Read OpenWrite
open_write_at before bytes = do
  lsn ← number_at w64 (λ n. is_number n && rises_above (λ (x : OpenWrite). x.lsn) before n) bytes
  key ← key_at lsn.1
  Ok (record { lsn = lsn.0; key = key.0 }, key.1)

unfoldable pub unfinished_at : List Unfinished → List ℕ → Read Unfinished
unfinished_at before bytes = do
  tx ← number_at w64 (λ n. is_number n && rises_above (λ (x : Unfinished). x.tx) before n) bytes
  last ← number_at w64 is_number tx.1
  undo_next ← number_at w64 is_lsn_or_none last.1
  writes ← list_at w32 any_number open_write_at undo_next.1
  Ok (record { tx = tx.0; last = last.0; undo_next = undo_next.0; writes = writes.0 }, writes.1)

unfoldable pub segment_at : List ℕ → List ℕ → Read ℕ
segment_at before bytes = number_at w32 (rises_above (λ n. n) before) bytes

unfoldable pub run_at : List Run → List ℕ → Read Run
run_at before bytes = do
  run ← number_at w64 is_number bytes
  first ← number_at w64 (λ n. is_number n && rises_above (λ (x : Run). x.first) before n) run.1
  last ← number_at w64 is_number first.1
  Ok (record { run = run.0; first = first.0; last = last.0 }, last.1)

unfoldable pub checkpoint_at : List ℕ → Read Checkpoint
checkpoint_at bytes = do
  next_tx ← number_at w64 is_next bytes
  commits ← number_at w64 any_number next_tx.1
  limit ← number_at w32 any_number commits.1
  pages ← list_at w32 any_number page_head_at limit.1
  transactions ← list_at w32 any_number unfinished_at pages.1
  lost ← number_at w32 any_number transactions.1
  unrestored ← list_at w32 any_number segment_at lost.1
  runs ← list_at w16 any_number run_at unrestored.1
  next_backup ← number_at w64 is_next runs.1
  next_run ← number_at w64 is_next next_backup.1
  Ok (
    record {
      next_tx = next_tx.0;
      commits = commits.0;
      limit = limit.0;
      pages = pages.0;
      transactions = transactions.0;
      lost = lost.0;
      unrestored = unrestored.0;
      runs = runs.0;
      next_backup = next_backup.0;
      next_run = next_run.0;
    },
    next_run.1,
  )

unfoldable pub page_lsn_at : List PageLsn → List ℕ → Read PageLsn
page_lsn_at before bytes = do
  page ← number_at w32 (λ n. is_page n && rises_above (λ (x : PageLsn). x.page) before n) bytes
  lsn ← number_at w64 is_number page.1
  Ok (record { page = page.0; lsn = lsn.0 }, lsn.1)

unfoldable pub backup_done_at : List ℕ → Read BackupDone
backup_done_at bytes = do
  backup ← number_at w64 is_number bytes
  segment ← number_at w32 any_number backup.1
  pages ← list_at w8 is_page_count page_lsn_at segment.1
  Ok (record { backup = backup.0; segment = segment.0; pages = pages.0 }, pages.1)

unfoldable pub run_done_at : List ℕ → Read RunDone
run_done_at bytes = do
  run ← number_at w64 is_number bytes
  first ← number_at w64 is_number run.1
  last ← number_at w64 is_number first.1
  Ok (record { run = run.0; first = first.0; last = last.0 }, last.1)

unfoldable pub lost_at : List ℕ → Read Lost
lost_at bytes = do
  pages ← number_at w32 any_number bytes
  Ok (record { pages = pages.0 }, pages.1)

unfoldable pub restored_at : List ℕ → Read Restored
restored_at bytes = do
  segment ← number_at w32 any_number bytes
  Ok (record { segment = segment.0 }, segment.1)

abbrev pub as_kind : {A : Type 0} → (A → Record) → Read A → Read Record
as_kind wrap read = read >>= λ x. Ok (wrap x.0, x.1)

-- the record that the bytes begin with
unfoldable pub record_at : List ℕ → Read Record
record_at [] = Err 0
record_at (kind ∷ rest) =
    if kind == 1 then as_kind kinds.Format (format_at rest)
    else (if kind == 2 then as_kind kinds.Write (write_at rest)
    else (if kind == 3 then as_kind kinds.Apply (apply_at rest)
    else (if kind == 4 then as_kind kinds.Undo (undo_at rest)
    else (if kind == 5 then as_kind kinds.Commit (commit_at rest)
    else (if kind == 6 then as_kind kinds.End (end_at rest)
    else (if kind == 7 then as_kind kinds.Split (split_at rest)
    else (if kind == 8 then as_kind kinds.Adopt (adopt_at rest)
    else (if kind == 9 then as_kind kinds.Grow (grow_at rest)
    else (if kind == 10 then as_kind kinds.Purge (purge_at rest)
    else (if kind == 11 then as_kind kinds.Written (written_at rest)
    else (if kind == 12 then as_kind kinds.Checkpoint (checkpoint_at rest)
    else (if kind == 13 then as_kind kinds.BackupDone (backup_done_at rest)
    else (if kind == 14 then as_kind kinds.RunDone (run_done_at rest)
    else (if kind == 15 then as_kind kinds.Lost (lost_at rest)
    else (if kind == 16 then as_kind kinds.Restored (restored_at rest)
    else Err (suc (length rest)))))))))))))))))
