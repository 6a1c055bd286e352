-- Worked examples of spelling and reading, worked out by hand from the table of fields.
use Rattle.std.proofs.Common.{◌≡◌, ℕ, true, false, List, [], ◌∷◌, ◌++◌, Some, None, Ok, Err, refl}
use Rattle.wal_record.specs.declared.page.PageState.{PageState}
use Rattle.wal_record.specs.declared.page.Rows.TheVariants.{Leaf}
use Rattle.wal_record.specs.declared.record.Record.{Record}
use Rattle.wal_record.specs.declared.record.Record.TheVariants as kinds
use Rattle.wal_record.specs.Spelling.{number_bytes, text_bytes, value_bytes, maybe_bytes, list_bytes, state_bytes, spelling}
use Rattle.wal_record.specs.Reading.{number_at, text_at, value_at, maybe_at, new_value_at, items_at, list_at, high_at, foster_at, row_key_at, flag_at, row_value_at, leaf_row_at, rows_at, state_at, format_at, write_at, record_at}

abbrev apple : List ℕ
apple = 97 ∷ 112 ∷ 112 ∷ 108 ∷ 101 ∷ []

-- the first transaction of a fresh store puts apple = 1
abbrev format : Record
format = kinds.Format (record { limit = 16384 })

abbrev format_text : List ℕ
format_text = 1 ∷ 0 ∷ 0 ∷ 64 ∷ 0 ∷ []

abbrev write : Record
write = kinds.Write (record { tx = 1; prev = 0; page = 1; page_prev = 1; key = apple; old = None; new = Some (49 ∷ []) })

abbrev write_text : List ℕ
write_text =
    2 ∷ 0 ∷ 0 ∷ 0 ∷ 0 ∷ 0 ∷ 0 ∷ 0 ∷ 1 ∷ 0 ∷ 0 ∷ 0 ∷ 0 ∷ 0 ∷ 0 ∷ 0 ∷ 0 ∷ 0 ∷ 0 ∷ 0 ∷ 1 ∷ 0 ∷ 0 ∷ 0 ∷ 0 ∷ 0 ∷ 0 ∷ 0 ∷ 1 ∷ 5 ∷ 97 ∷ 112 ∷ 112 ∷ 108 ∷ 101 ∷ 0 ∷ 1 ∷ 0 ∷ 1 ∷ 49 ∷ []

abbrev commit : Record
commit = kinds.Commit (record { tx = 1; prev = 2 })

abbrev commit_text : List ℕ
commit_text = 5 ∷ 0 ∷ 0 ∷ 0 ∷ 0 ∷ 0 ∷ 0 ∷ 0 ∷ 1 ∷ 0 ∷ 0 ∷ 0 ∷ 0 ∷ 0 ∷ 0 ∷ 0 ∷ 2 ∷ []

format_spelled : spelling format ≡ format_text
unfolding number_bytes
format_spelled = refl

write_spelled : spelling write ≡ write_text
unfolding number_bytes text_bytes value_bytes maybe_bytes
write_spelled = refl

commit_spelled : spelling commit ≡ commit_text
unfolding number_bytes
commit_spelled = refl

format_read : record_at (format_text ++ 7 ∷ []) ≡ Ok (format, 7 ∷ [])
unfolding record_at format_at number_at
format_read = refl

write_read : record_at write_text ≡ Ok (write, [])
unfolding record_at write_at number_at text_at value_at maybe_at new_value_at
write_read = refl

-- the limit is cut, or one too large: the fault is where the field begins, with so many bytes left
limit_cut : record_at (1 ∷ 0 ∷ 0 ∷ 64 ∷ []) ≡ Err 3
unfolding record_at format_at number_at
limit_cut = refl

limit_broken : record_at (1 ∷ 0 ∷ 0 ∷ 64 ∷ 1 ∷ []) ≡ Err 4
unfolding record_at format_at number_at
limit_broken = refl

no_kind : record_at (17 ∷ []) ≡ Err 1
unfolding record_at
no_kind = refl

-- a value that is cut is a fault at its flag
new_cut : new_value_at None (1 ∷ 0 ∷ 2 ∷ 49 ∷ []) ≡ Err 4
unfolding new_value_at maybe_at value_at
new_cut = refl

-- a write without a value before and after is none
no_change : new_value_at None (0 ∷ []) ≡ Err 1
unfolding new_value_at maybe_at value_at
no_change = refl

-- ---- the state of a page

abbrev leaf : PageState
leaf = record { level = 0; low = Some []; high = None; foster = None; rows = Leaf (record { key = 97 ∷ []; tombstone = false; value = 49 ∷ [] } ∷ record { key = 98 ∷ []; tombstone = true; value = [] } ∷ []) }

abbrev leaf_text : List ℕ
leaf_text = 0 ∷ 0 ∷ 0 ∷ 0 ∷ 0 ∷ 2 ∷ 1 ∷ 97 ∷ 0 ∷ 0 ∷ 1 ∷ 49 ∷ 1 ∷ 98 ∷ 1 ∷ 0 ∷ 0 ∷ []

leaf_spelled : state_bytes leaf ≡ leaf_text
unfolding state_bytes number_bytes text_bytes maybe_bytes list_bytes value_bytes
leaf_spelled = refl

leaf_read : state_at leaf_text ≡ Ok (leaf, [])
unfolding state_at number_at text_at high_at foster_at maybe_at rows_at list_at items_at leaf_row_at row_key_at flag_at row_value_at value_at
leaf_read = refl

-- the second key isn't above the first: the fault is at that key
not_rising : state_at (0 ∷ 0 ∷ 0 ∷ 0 ∷ 0 ∷ 2 ∷ 1 ∷ 98 ∷ 0 ∷ 0 ∷ 1 ∷ 49 ∷ 1 ∷ 98 ∷ 1 ∷ 0 ∷ 0 ∷ []) ≡ Err 5
unfolding state_at number_at text_at high_at foster_at maybe_at rows_at list_at items_at leaf_row_at row_key_at flag_at row_value_at value_at
not_rising = refl

-- a tombstone with a value: the fault is at the value
no_tombstone : state_at (0 ∷ 0 ∷ 0 ∷ 0 ∷ 0 ∷ 1 ∷ 1 ∷ 98 ∷ 1 ∷ 0 ∷ 1 ∷ 49 ∷ []) ≡ Err 3
unfolding state_at number_at text_at high_at foster_at maybe_at rows_at list_at items_at leaf_row_at row_key_at flag_at row_value_at value_at
no_tombstone = refl

-- a branch without rows: the fault is at the count
no_rows : state_at (1 ∷ 0 ∷ 0 ∷ 0 ∷ 0 ∷ 0 ∷ []) ≡ Err 2
unfolding state_at number_at text_at high_at foster_at maybe_at rows_at list_at
no_rows = refl
