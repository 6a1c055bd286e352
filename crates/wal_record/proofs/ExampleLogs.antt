-- The logs of the worked examples.
use Rattle.std.proofs.Common.{ℕ, List, [], ◌∷◌, Option, Some, None, false}
use Rattle.wal_record.specs.declared.page.PageState.{PageState}
use Rattle.wal_record.specs.declared.page.LeafRow.{LeafRow}
use Rattle.wal_record.specs.declared.page.Foster.{Foster}
use Rattle.wal_record.specs.declared.page.Rows.TheVariants.{Leaf}
use Rattle.wal_record.specs.declared.record.Record.{Record}
use Rattle.wal_record.specs.declared.record.Record.TheVariants as kinds

abbrev pub apple : List ℕ
apple = 97 ∷ 112 ∷ 112 ∷ 108 ∷ 101 ∷ []

abbrev pub x : List ℕ
x = 120 ∷ []

abbrev pub y : List ℕ
y = 121 ∷ []

abbrev pub one : List ℕ
one = 49 ∷ []

abbrev pub two : List ℕ
two = 50 ∷ []

abbrev pub format : Record
format = kinds.Format (record { limit = 16384 })

-- a fresh store in which the first transaction puts apple = 1 and commits
abbrev pub put_apple : Record
put_apple = kinds.Write (record { tx = 1; prev = 0; page = 1; page_prev = 1; key = 97 ∷ 112 ∷ 112 ∷ 108 ∷ 101 ∷ []; old = None; new = Some (49 ∷ []) })

abbrev pub commit_apple : Record
commit_apple = kinds.Commit (record { tx = 1; prev = 2 })

abbrev pub apple_log : List Record
apple_log = format ∷ put_apple ∷ commit_apple ∷ []

-- transaction 1 puts x = 1 and commits; 2 puts x = 2; 3 puts y = 1 and commits; then the store stops
abbrev pub put_x : Record
put_x = kinds.Write (record { tx = 1; prev = 0; page = 1; page_prev = 1; key = 120 ∷ []; old = None; new = Some (49 ∷ []) })

abbrev pub commit_x : Record
commit_x = kinds.Commit (record { tx = 1; prev = 2 })

abbrev pub put_x_again : Record
put_x_again = kinds.Write (record { tx = 2; prev = 0; page = 1; page_prev = 2; key = 120 ∷ []; old = Some (49 ∷ []); new = Some (50 ∷ []) })

abbrev pub put_y : Record
put_y = kinds.Write (record { tx = 3; prev = 0; page = 1; page_prev = 4; key = 121 ∷ []; old = None; new = Some (49 ∷ []) })

abbrev pub commit_y : Record
commit_y = kinds.Commit (record { tx = 3; prev = 5 })

abbrev pub loser_log : List Record
loser_log = format ∷ put_x ∷ commit_x ∷ put_x_again ∷ put_y ∷ commit_y ∷ []

-- ---- a tree of three levels of splits: the leaf with a, b and c is split at b, its foster child at c,
-- and the root grows

abbrev pub a : List ℕ
a = 97 ∷ []

abbrev pub b : List ℕ
b = 98 ∷ []

abbrev pub c : List ℕ
c = 99 ∷ []

abbrev pub put_key : List ℕ → ℕ → ℕ → Record
put_key key prev page_prev = kinds.Write (record { tx = 1; prev = prev; page = 1; page_prev = page_prev; key = key; old = None; new = Some (49 ∷ []) })

abbrev pub row : List ℕ → LeafRow
row key = record { key = key; tombstone = false; value = 49 ∷ [] }

abbrev pub leaf : List ℕ → Option Foster → List LeafRow → PageState
leaf low foster rows = record { level = 0; low = Some low; high = None; foster = foster; rows = Leaf rows }

abbrev pub split_at_b : Record
split_at_b = kinds.Split (record { page = 1; page_prev = 4; child = 2; child_state = leaf (98 ∷ []) None (row (98 ∷ []) ∷ row (99 ∷ []) ∷ []) })

abbrev pub split_at_c : Record
split_at_c = kinds.Split (record { page = 2; page_prev = 5; child = 3; child_state = leaf (99 ∷ []) None (row (99 ∷ []) ∷ []) })

abbrev pub grow : Record
grow = kinds.Grow (record { page_prev = 5; child = 4; child_state = leaf [] (Some (record { key = 98 ∷ []; child = 2 })) (row (97 ∷ []) ∷ []) })

abbrev pub grown_log : List Record
grown_log = format ∷ put_key (97 ∷ []) 0 1 ∷ put_key (98 ∷ []) 2 2 ∷ put_key (99 ∷ []) 3 3 ∷ split_at_b ∷ split_at_c ∷ grow ∷ []

-- the root's one row leads to page 4, whose foster child is page 2, whose foster child is page 3
abbrev pub adopt_two : Record
adopt_two = kinds.Adopt (record { parent = 1; parent_prev = 7; fosterer = 4; fosterer_prev = 7; child = 2; key = 98 ∷ [] })

abbrev pub adopt_three : Record
adopt_three = kinds.Adopt (record { parent = 1; parent_prev = 7; fosterer = 2; fosterer_prev = 6; child = 3; key = 99 ∷ [] })

-- the leaf with a, b and c split at its split point
abbrev pub split_page_at_c : Record
split_page_at_c = kinds.Split (record { page = 1; page_prev = 4; child = 2; child_state = leaf (99 ∷ []) None (row (99 ∷ []) ∷ []) })
