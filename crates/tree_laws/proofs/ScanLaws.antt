-- The live rows of a leaf, as pairs of the contents.
use Rattle.std.proofs.Common.{◌≡◌, ℕ, Bool, true, false, cond, List, [], ◌∷◌, Option, Some, None, refl, sym, ap, subst, ◌∙◌}
use Rattle.std.specs.Prelude.{◌&&◌, not}
use Rattle.std.specs.List.{list_all}
use Rattle.std.specs.Ordering.{nat_cmp}
use Rattle.std.specs.Cmp.Lexicographic.{slice_cmp}
use Rattle.std.specs.FinMap.{get, find, is_sorted}
use Rattle.std.specs.FinMap.Entries.{below_all}
use Rattle.std.proofs.lemmas.Bool.{and_parts, and_from}
use Rattle.store_model.specs.Range.{is_below, has_key}
use Rattle.store_model.specs.Contents.{Contents}
use Rattle.store_model.proofs.Scans.{pairs_in_is}
use Rattle.wal_record.specs.State.{same_key, KeepsRows, own_part, live, leaf_rows, rises, leaf_below}
use Rattle.log_laws.proofs.Central.{equal_key}
use Rattle.wal_record.specs.declared.page.PageState.{PageState}
use Rattle.wal_record.specs.declared.page.LeafRow.{LeafRow}
use Rattle.wal_record.specs.declared.page.Rows.TheVariants.{Leaf}
use Rattle.wal_record.specs.Tree.{Tree}
use Rattle.tree_laws.specs.Scan.{live_entries, LeafScan}
use Rattle.tree_laws.proofs.RowLaws.{live_absent}

below_entries : (k : List ℕ) (p : List ℕ → Bool) (rows : List LeafRow) → list_all (λ x. is_below (Some k) (Some x.key)) rows ≡ true → below_all (slice_cmp nat_cmp) k (live_entries p rows) ≡ true
below_entries k p [] h = refl
below_entries k p (row ∷ rows) h = by (not row.tombstone && p row.key) (and_parts _ _ h).0 (below_entries k p rows (and_parts _ _ h).1)
  where
    by : (b : Bool) → is_below (Some k) (Some row.key) ≡ true → below_all (slice_cmp nat_cmp) k (live_entries p rows) ≡ true → below_all (slice_cmp nat_cmp) k (cond b ((row.key, row.value) ∷ live_entries p rows) (live_entries p rows)) ≡ true
    by true e rest = and_from _ _ e rest
    by false e rest = rest

sorted_entries : (p : List ℕ → Bool) (rows : List LeafRow) → rises leaf_below rows ≡ true → is_sorted (slice_cmp nat_cmp) (live_entries p rows) ≡ true
sorted_entries p [] h = refl
sorted_entries p (row ∷ rows) h = by (not row.tombstone && p row.key) (below_entries row.key p rows (and_parts _ _ h).0) (sorted_entries p rows (and_parts _ _ h).1)
  where
    by : (b : Bool) → below_all (slice_cmp nat_cmp) row.key (live_entries p rows) ≡ true → is_sorted (slice_cmp nat_cmp) (live_entries p rows) ≡ true → is_sorted (slice_cmp nat_cmp) (cond b ((row.key, row.value) ∷ live_entries p rows) (live_entries p rows)) ≡ true
    by true e rest = and_from _ _ e rest
    by false e rest = rest

nothing : (b : Bool) → ◌≡◌ {A = Option (List ℕ)} None (cond b None None)
nothing true = refl
nothing false = refl

find_entries : (p : List ℕ → Bool) (rows : List LeafRow) (q : List ℕ) → rises leaf_below rows ≡ true → find (slice_cmp nat_cmp) q (live_entries p rows) ≡ cond (p q) (live rows q) None
find_entries p [] q h = nothing (p q)
find_entries p (row ∷ rows) q h = by (find_entries p rows q (and_parts _ _ h).1) row.tombstone refl (p row.key) refl (same_key q row.key) refl
  where
    gone : same_key q row.key ≡ true → live rows q ≡ None
    gone e = live_absent q rows (subst (λ (k : List ℕ). list_all (λ x. is_below (Some k) (Some x.key)) rows ≡ true) (sym (equal_key q row.key e)) (and_parts _ _ h).0)

    by : find (slice_cmp nat_cmp) q (live_entries p rows) ≡ cond (p q) (live rows q) None → (t : Bool) → row.tombstone ≡ t → (b : Bool) → p row.key ≡ b → (s : Bool) → same_key q row.key ≡ s
        → find (slice_cmp nat_cmp) q (cond (not t && b) ((row.key, row.value) ∷ live_entries p rows) (live_entries p rows)) ≡ cond (p q) (cond s (cond t None (Some row.value)) (live rows q)) None
    by rest true e b f true g = rest ∙ ap (λ (x : Option (List ℕ)). cond (p q) x None) (gone g)
    by rest true e b f false g = rest
    by rest false e true f true g =
        ap (λ (s : Bool). cond s (Some row.value) (find (slice_cmp nat_cmp) q (live_entries p rows))) g
        ∙ sym (ap (λ (b : Bool). cond b (Some row.value) None) (ap p (equal_key q row.key g) ∙ f))
    by rest false e true f false g = ap (λ (s : Bool). cond s (Some row.value) (find (slice_cmp nat_cmp) q (live_entries p rows))) g ∙ rest
    by rest false e false f true g =
        let fails : p q ≡ false = ap p (equal_key q row.key g) ∙ f in
        rest ∙ ap (λ (b : Bool). cond b (live rows q) None) fails ∙ sym (ap (λ (b : Bool). cond b (Some row.value) None) fails)
    by rest false e false f false g = rest

under_test : (b : Bool) (x y : Option (List ℕ)) → (b ≡ true → x ≡ y) → cond b x None ≡ cond b y None
under_test true x y h = h refl
under_test false x y h = refl

pub leaf_scan : (img : ℕ → Option PageState) (n : ℕ) (m : Contents) → Tree img n (λ key. get m key) → LeafScan img m
leaf_scan img n m tree = record {
  pairs = λ p s h leaf r inside.
      let k : KeepsRows s.level (own_part s) (Leaf (leaf_rows s.rows)) = subst (KeepsRows s.level (own_part s)) leaf ((tree.keeps p s h).rows) in
      pairs_in_is r m (live_entries (has_key r) (leaf_rows s.rows)) (sorted_entries (has_key r) (leaf_rows s.rows) k.1)
      (λ key. find_entries (has_key r) (leaf_rows s.rows) key k.1 ∙ under_test (has_key r key) _ _ (λ e. tree.values key (record { page = p; state = s; image = h; leaf = leaf; own = inside key e })));
}
