-- A written value and a purge keep the tree.
use Rattle.std.proofs.Common.{◌≡◌, ℕ, ◌≤◌, Bool, true, false, cond, List, Option, Some, None, refl, sym, ap, subst, ◌∙◌}
use Rattle.std.specs.Prelude.{filter}
use Rattle.std.proofs.lemmas.Bool.{and_from}
use Rattle.store_model.specs.Range.{Interval, has_key}
use Rattle.wal_record.specs.Rules.{is_maybe_value}
use Rattle.wal_record.specs.State.{is_key, page_room, same_key, KeepsState, KeepsRows, has_own, own_part, live, live_value, leaf_rows, put_row, row_of, leaf_row_fits, state_size}
use Rattle.log_laws.proofs.Central.{equal_key}
use Rattle.wal_record.specs.declared.page.PageState.{PageState}
use Rattle.wal_record.specs.declared.page.LeafRow.{LeafRow}
use Rattle.wal_record.specs.declared.page.Rows.TheVariants.{Leaf}
use Rattle.wal_record.specs.Images.{with_value, purged, is_live_row, IsLeafOf}
use Rattle.wal_record.specs.Tree.{Tree}
use Rattle.store_model.proofs.Bools.{not_both}
use Rattle.tree_laws.proofs.Counts.{set_page}
use Rattle.tree_laws.proofs.Change.{Tree_leaf}
use Rattle.tree_laws.proofs.RowLaws.{all_put, rises_put, live_put, all_kept, rises_kept, live_purged}

row_key : (key : List ℕ) (v : Option (List ℕ)) → (row_of key v).key ≡ key
row_key key None = refl
row_key key (Some x) = refl

row_value : (key : List ℕ) (v : Option (List ℕ)) → live_value (row_of key v) ≡ v
row_value key None = refl
row_value key (Some x) = refl

row_fits : (part : Interval) (key : List ℕ) (v : Option (List ℕ)) → has_key part key ≡ true → is_key key ≡ true → is_maybe_value v ≡ true → leaf_row_fits part (row_of key v) ≡ true
row_fits part key None h k m = and_from _ _ h (and_from _ _ (and_from _ _ k refl) refl)
row_fits part key (Some x) h k m = and_from _ _ h (and_from _ _ (and_from _ _ k m) refl)

pub live_valued : (rows : List LeafRow) (key : List ℕ) (v : Option (List ℕ)) (q : List ℕ) → live (put_row (row_of key v) rows) q ≡ cond (same_key q key) v (live rows q)
live_valued rows key v q =
    live_put (row_of key v) rows q
    ∙ ap (λ (k : List ℕ). cond (same_key q k) (live_value (row_of key v)) (live rows q)) (row_key key v)
    ∙ ap (λ (x : Option (List ℕ)). cond (same_key q key) x (live rows q)) (row_value key v)

leaf_rules : (s : PageState) → s.rows ≡ Leaf (leaf_rows s.rows) → KeepsState s → KeepsRows s.level (own_part s) (Leaf (leaf_rows s.rows))
leaf_rules s e k = subst (KeepsRows s.level (own_part s)) e k.rows

valued_keeps : (s : PageState) (key : List ℕ) (v : Option (List ℕ)) → IsLeafOf key s → is_key key ≡ true → is_maybe_value v ≡ true → KeepsState s → state_size (with_value key v s) ≤ page_room → KeepsState (with_value key v s)
valued_keeps s key v at fits value k size =
    let r = leaf_rules s at.leaf k in
    record {
      level = k.level;
      texts = k.texts;
      fences = k.fences;
      foster = k.foster;
      rows = (r.0, rises_put (row_of key v) (leaf_rows s.rows) r.1, all_put (leaf_row_fits (own_part s)) (row_of key v) (leaf_rows s.rows) (row_fits (own_part s) key v at.own fits value) r.2);
      size = size;
    }

-- the value at one key, in a leaf that has the key
pub Tree_value : (img : ℕ → Option PageState) (n : ℕ) (value : List ℕ → Option (List ℕ)) → Tree img n value → (q : ℕ) (s : PageState) → img q ≡ Some s → (key : List ℕ) (v : Option (List ℕ)) → IsLeafOf key s → is_key key ≡ true → is_maybe_value v ≡ true → state_size (with_value key v s) ≤ page_room
    → Tree (set_page q (with_value key v s) img) n (λ k. cond (same_key k key) v (value k))
Tree_value img n value tree q s there key v at fits given size = Tree_leaf img n value (λ k. cond (same_key k key) v (value k)) tree q s (put_row (row_of key v) (leaf_rows s.rows)) there at.leaf (valued_keeps s key v at fits given (tree.keeps q s there) size) inner outer
  where
    inner : (k : List ℕ) → has_own s k ≡ true → live (put_row (row_of key v) (leaf_rows s.rows)) k ≡ cond (same_key k key) v (value k)
    inner k h = live_valued (leaf_rows s.rows) key v k ∙ ap (λ (x : Option (List ℕ)). cond (same_key k key) v x) (tree.values k (record { page = q; state = s; image = there; leaf = at.leaf; own = h }))

    outer : (k : List ℕ) → has_own s k ≡ false → cond (same_key k key) v (value k) ≡ value k
    outer k h = by (same_key k key) refl
      where
        by : (b : Bool) → same_key k key ≡ b → cond b v (value k) ≡ value k
        by true e = absurd (not_both (has_own s key) at.own (ap (has_own s) (sym (equal_key k key e)) ∙ h))
        by false e = refl

purged_keeps : (s : PageState) → s.rows ≡ Leaf (leaf_rows s.rows) → KeepsState s → state_size (purged s) ≤ page_room → KeepsState (purged s)
purged_keeps s e k size =
    let r = leaf_rules s e k in
    record {
      level = k.level;
      texts = k.texts;
      fences = k.fences;
      foster = k.foster;
      rows = (r.0, rises_kept _ is_live_row (leaf_rows s.rows) r.1, all_kept (leaf_row_fits (own_part s)) is_live_row (leaf_rows s.rows) r.2);
      size = size;
    }

pub Tree_purge : (img : ℕ → Option PageState) (n : ℕ) (value : List ℕ → Option (List ℕ)) → Tree img n value → (q : ℕ) (s : PageState) → img q ≡ Some s → s.rows ≡ Leaf (leaf_rows s.rows) → state_size (purged s) ≤ page_room
    → Tree (set_page q (purged s) img) n value
Tree_purge img n value tree q s there leaf size = Tree_leaf img n value value tree q s (filter is_live_row (leaf_rows s.rows)) there leaf (purged_keeps s leaf (tree.keeps q s there) size)
    (λ k h. live_purged (leaf_rows s.rows) k (leaf_rules s leaf (tree.keeps q s there)).1 ∙ tree.values k (record { page = q; state = s; image = there; leaf = leaf; own = h }))
    (λ k h. refl)
