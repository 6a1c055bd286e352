-- The state of a page of a Foster B-tree (Graefe, Kimura and Kuno 2012): its own part, its rows, the
-- live values of a leaf, its length in bytes, where it is split, and the rules that it keeps.
use Rattle.std.specs.Prelude.{◌≡◌, ℕ, ◌+◌, ◌-◌, ◌*◌, ◌≤◌, nat_le, nat_lt, List, [], ◌∷◌, length, take, map, sum, zero, suc, Option, Some, None, unwrap_or, Bool, true, false, not, ◌&&◌, ◌||◌, ◌==◌, if◌then◌else◌, IsTrue}
use Rattle.std.specs.List.{list_all, sum_by}
use Rattle.std.specs.Ordering.{nat_cmp, match_ordering, eq_by_cmp}
use Rattle.std.specs.Cmp.Lexicographic.{slice_cmp}
use Rattle.store_model.specs.Range.{Interval, has_key, is_below, IsBelow}
use Rattle.store_model.specs.declared.limits.TheConstants.{KEY_BYTES, MOST_PAGES, STATE_BYTES, VALUE_BYTES}
use Rattle.wal_record.specs.declared.page.PageState.{PageState}
use Rattle.wal_record.specs.declared.page.LeafRow.{LeafRow}
use Rattle.wal_record.specs.declared.page.BranchRow.{BranchRow}
use Rattle.wal_record.specs.declared.page.Foster.{Foster}
use Rattle.wal_record.specs.declared.page.Rows.{Rows}
use Rattle.wal_record.specs.declared.page.Rows.TheVariants.{Leaf, Branch}

-- ---- the own part

-- where the page's own part ends: at the foster key where there is one, else at the high fence
abbrev pub end_by : Option Foster → Option (List ℕ) → Option (List ℕ)
end_by None high = high
end_by (Some f) high = Some f.key

abbrev pub own_end : PageState → Option (List ℕ)
own_end s = end_by s.foster s.high

-- the keys that the page has itself, and not its foster children
abbrev pub own_part : PageState → Interval
own_part s = record { low = s.low; high = own_end s }

abbrev pub has_own : PageState → List ℕ → Bool
has_own s key = has_key (own_part s) key

-- the keys between the fence keys
abbrev pub has_within : PageState → List ℕ → Bool
has_within s key = has_key (record { low = s.low; high = s.high }) key

-- ---- rows

abbrev pub leaf_rows : Rows → List LeafRow
leaf_rows (Leaf rows) = rows
leaf_rows (Branch rows) = []

abbrev pub branch_rows : Rows → List BranchRow
branch_rows (Leaf rows) = []
branch_rows (Branch rows) = rows

-- whether two keys are the same
abbrev pub same_key : List ℕ → List ℕ → Bool
same_key a b = eq_by_cmp (slice_cmp nat_cmp) a b

abbrev pub live_value : LeafRow → Option (List ℕ)
live_value row = if row.tombstone then None else Some row.value

-- the live value at a key; an absent key and a tombstone have none
abbrev pub live : List LeafRow → List ℕ → Option (List ℕ)
live [] key = None
live (row ∷ rows) key = if same_key key row.key then live_value row else live rows key

-- the row of a key with this value, or its tombstone
abbrev pub row_of : List ℕ → Option (List ℕ) → LeafRow
row_of key None = record { key = key; tombstone = true; value = [] }
row_of key (Some v) = record { key = key; tombstone = false; value = v }

-- the rows with this row at its place, where one of the same key stood, if any
abbrev pub put_row : LeafRow → List LeafRow → List LeafRow
put_row r [] = r ∷ []
put_row r (row ∷ rows) = match_ordering (slice_cmp nat_cmp r.key row.key) (r ∷ row ∷ rows) (r ∷ rows) (row ∷ put_row r rows)

-- the rows with this row added at its place
abbrev pub put_branch_row : BranchRow → List BranchRow → List BranchRow
put_branch_row r [] = r ∷ []
put_branch_row r (row ∷ rows) = if is_below r.low row.low then r ∷ row ∷ rows else row ∷ put_branch_row r rows

abbrev pub or_child : Option ℕ → ℕ → Option ℕ
or_child None c = Some c
or_child (Some d) c = Some d

-- the child of the row that covers the key: the last one whose separator isn't above it
abbrev pub child_at : List ℕ → List BranchRow → Option ℕ
child_at key [] = None
child_at key (row ∷ rows) = if is_below (Some key) row.low then None else or_child (child_at key rows) row.child

-- whether the key is the row's separator
abbrev pub separates : List ℕ → BranchRow → Bool
separates key row = not (is_below row.low (Some key) || is_below (Some key) row.low)

-- ---- bytes

-- of a bound that isn't the top
abbrev pub text_of : Option (List ℕ) → List ℕ
text_of bound = unwrap_or bound []

-- row bytes
abbrev pub leaf_row_size : LeafRow → ℕ
leaf_row_size row = 4 + length row.key + length row.value

abbrev pub branch_row_size : BranchRow → ℕ
branch_row_size row = 5 + length (text_of row.low)

abbrev pub row_sizes : Rows → List ℕ
row_sizes (Leaf rows) = map leaf_row_size rows
row_sizes (Branch rows) = map branch_row_size rows

abbrev pub rows_size : Rows → ℕ
rows_size (Leaf rows) = sum_by leaf_row_size rows
rows_size (Branch rows) = sum_by branch_row_size rows

abbrev pub high_size : Option (List ℕ) → ℕ
high_size None = 1
high_size (Some t) = 2 + length t

abbrev pub foster_size : Option Foster → ℕ
foster_size None = 1
foster_size (Some f) = 6 + length f.key

-- state bytes
abbrev pub state_size : PageState → ℕ
state_size s = 4 + length (text_of s.low) + high_size s.high + foster_size s.foster + rows_size s.rows

-- the bytes that a state may have
abbrev pub page_room : ℕ
page_room = STATE_BYTES

abbrev pub fits : PageState → Bool
fits s = nat_le (state_size s) page_room

abbrev pub free_bytes : PageState → ℕ
free_bytes s = page_room - state_size s

-- the least number below this bound that passes, else the bound
abbrev pub least : (ℕ → Bool) → ℕ → ℕ
least passes zero = 0
least passes (suc bound) = if passes 0 then 0 else suc (least (λ n. passes (suc n)) bound)

-- how many of the rows a split keeps below: the fewest that have at least half of all row bytes
abbrev pub split_point : List ℕ → ℕ
split_point sizes = least (λ m. nat_le (sum sizes) (2 * sum (take m sizes))) (length sizes)

-- ---- rules

-- of a text, a key and a value: how many bytes they may have
abbrev pub is_text : List ℕ → Bool
is_text t = nat_le (length t) KEY_BYTES

abbrev pub is_key : List ℕ → Bool
is_key key = nat_le 1 (length key) && nat_le (length key) KEY_BYTES

abbrev pub is_value : List ℕ → Bool
is_value v = nat_le (length v) VALUE_BYTES

-- a page that a pointer may lead to
abbrev pub is_child : ℕ → Bool
is_child page = nat_le 2 page && nat_le page MOST_PAGES

-- each row is below all that follow it
abbrev pub rises : {A : Type 0} → (A → A → Bool) → List A → Bool
rises below [] = true
rises below (x ∷ xs) = list_all (below x) xs && rises below xs

abbrev pub leaf_below : LeafRow → LeafRow → Bool
leaf_below a b = is_below (Some a.key) (Some b.key)

abbrev pub branch_below : BranchRow → BranchRow → Bool
branch_below a b = is_below a.low b.low

-- a key of the own part, and a value; a tombstone has the empty one
abbrev pub leaf_row_fits : Interval → LeafRow → Bool
leaf_row_fits part row = has_key part row.key && (is_key row.key && is_value row.value && (not row.tombstone || (length row.value == 0)))

abbrev pub branch_row_fits : Option (List ℕ) → BranchRow → Bool
branch_row_fits end row = is_below row.low end && (is_text (text_of row.low) && is_child row.child)

abbrev pub IsFirst : Option (List ℕ) → List BranchRow → Type 0
IsFirst low [] = ⊥
IsFirst low (row ∷ rows) = row.low ≡ low

-- a leaf has level 0; a branch has at least one row, and its first separator is its low fence
abbrev pub KeepsRows : ℕ → Interval → Rows → Type 0
KeepsRows level part (Leaf rows) = (level ≡ 0) × IsTrue (rises leaf_below rows) × IsTrue (list_all (leaf_row_fits part) rows)
KeepsRows level part (Branch rows) = (1 ≤ level) × IsFirst part.low rows × IsTrue (rises branch_below rows) × IsTrue (list_all (branch_row_fits part.high) rows)

abbrev pub foster_fits : Option (List ℕ) → Option (List ℕ) → Option Foster → Bool
foster_fits low high None = true
foster_fits low high (Some f) = is_below low (Some f.key) && is_below (Some f.key) high && (is_text f.key && is_child f.child)

-- the rules of a state
pub record KeepsState (s : PageState) : Type 0 where
  pub level : IsTrue (nat_lt s.level 256)
  pub fences : IsBelow s.low s.high
  pub texts : IsTrue (is_text (text_of s.low) && is_text (text_of s.high))
  pub foster : IsTrue (foster_fits s.low s.high s.foster)
  pub rows : KeepsRows s.level (own_part s) s.rows
  pub size : state_size s ≤ page_room
