-- Rows gathered one after the other.
use Rattle.std.proofs.Common.{◌≡◌, ℕ, ◌+◌, ◌<◌, Bool, true, false, cond, List, [], ◌∷◌, ◌++◌, length, take, get_or, refl, sym, ap, ◌∙◌, append_assoc, append-nil}
use Rattle.std.specs.Prelude.{map, not, ◌&&◌}
use Rattle.std.proofs.lemmas.List.{map-append, take_more}
use mathlib.Core.List.{IsPrefix}
use Rattle.store_model.specs.Contents.{pair_of}
use Rattle.store_model.specs.declared.pair.Pair.{Pair}
use Rattle.wal_record.specs.declared.page.LeafRow.{LeafRow}
use Rattle.tree_laws.specs.Scan.{live_entries}

pub entries_append : (p : List ℕ → Bool) (xs ys : List LeafRow) → live_entries p (xs ++ ys) ≡ live_entries p xs ++ live_entries p ys
entries_append p [] ys = refl
entries_append p (row ∷ rows) ys = by (not row.tombstone && p row.key) (entries_append p rows ys)
  where
    by : (b : Bool) → live_entries p (rows ++ ys) ≡ live_entries p rows ++ live_entries p ys
        → cond b ((row.key, row.value) ∷ live_entries p (rows ++ ys)) (live_entries p (rows ++ ys)) ≡ cond b ((row.key, row.value) ∷ live_entries p rows) (live_entries p rows) ++ live_entries p ys
    by true e = ap (λ es. (row.key, row.value) ∷ es) e
    by false e = e

-- the pairs of the rows that have a value
abbrev pub live_pairs : List LeafRow → List Pair
live_pairs rows = map pair_of (live_entries (λ key. true) rows)

live_push : (rows : List LeafRow) (row : LeafRow) → row.tombstone ≡ false → live_pairs (rows ++ row ∷ []) ≡ live_pairs rows ++ record { key = row.key; value = row.value } ∷ []
live_push rows row h =
    ap (λ es. map pair_of es) (entries_append (λ key. true) rows (row ∷ []) ∙ ap (λ (b : Bool). live_entries (λ key. true) rows ++ cond (not b && true) ((row.key, row.value) ∷ []) []) h)
    ∙ map-append pair_of (live_entries (λ key. true) rows) ((row.key, row.value) ∷ [])

live_skip : (rows : List LeafRow) (row : LeafRow) → row.tombstone ≡ true → live_pairs (rows ++ row ∷ []) ≡ live_pairs rows
live_skip rows row h =
    ap (λ es. map pair_of es)
    (entries_append (λ key. true) rows (row ∷ []) ∙ ap (λ (b : Bool). live_entries (λ key. true) rows ++ cond (not b && true) ((row.key, row.value) ∷ []) []) h ∙ append-nil (live_entries (λ key. true) rows))

-- what has one item more goes on
pub prefix_push : {A : Type 0} → (a b : List A) (x : A) → IsPrefix a b → IsPrefix a (b ++ x ∷ [])
prefix_push a b x t = (t.0 ++ x ∷ [], sym (append_assoc a t.0 (x ∷ [])) ∙ ap (λ l. l ++ x ∷ []) t.1)

-- ---- one row after the other

module _ (before out : List Pair) (rows : List LeafRow) (i : ℕ) (row : LeafRow) (lt : i < length rows) (is : row ≡ get_or rows i row) (had : out ≡ before ++ live_pairs (take i rows)) where
  next : take (i + 1) rows ≡ take i rows ++ row ∷ []
  next = take_more rows i row lt ∙ ap (λ r. take i rows ++ r ∷ []) (sym is)

  pub gathered_more : (out' : List Pair) → row.tombstone ≡ false → out' ≡ out ++ record { key = row.key; value = row.value } ∷ [] → out' ≡ before ++ live_pairs (take (i + 1) rows)
  gathered_more out' live more =
      more
      ∙ ap (λ ps. ps ++ record { key = row.key; value = row.value } ∷ []) had
      ∙ append_assoc before (live_pairs (take i rows)) (record { key = row.key; value = row.value } ∷ [])
      ∙ ap (λ ps. before ++ ps) (sym (live_push (take i rows) row live) ∙ ap live_pairs (sym next))

  pub gathered_same : row.tombstone ≡ true → out ≡ before ++ live_pairs (take (i + 1) rows)
  gathered_same dead = had ∙ ap (λ ps. before ++ ps) (sym (live_skip (take i rows) row dead) ∙ ap live_pairs (sym next))
