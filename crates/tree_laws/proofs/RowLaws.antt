-- Rows of leaves: put in their place, and left out.
use Rattle.std.proofs.Common.{◌≡◌, ℕ, Bool, true, false, cond, List, [], ◌∷◌, Option, Some, None, refl, sym, ap, subst, ◌∙◌, Ordering, Less, Equal, Greater}
use Rattle.std.specs.Prelude.{not, filter}
use Rattle.std.specs.List.{list_all}
use Rattle.std.specs.Ordering.{nat_cmp, is_lt, ordering_reverse, match_ordering}
use Rattle.std.specs.Cmp.Lexicographic.{slice_cmp}
use Rattle.std.proofs.lemmas.Bool.{and_parts, and_from}
use Rattle.std.proofs.lemmas.Map.Lookups.{exact_bytes}
use Rattle.store_model.specs.Range.{is_below}
use Rattle.wal_record.specs.State.{same_key, live, live_value, put_row, rises, leaf_below}
use Rattle.log_laws.proofs.Central.{equal_key}
use Rattle.wal_record.specs.declared.page.LeafRow.{LeafRow}
use Rattle.wal_record.specs.Images.{is_live_row}
use Rattle.store_model.proofs.Bools.{not_both}
use Rattle.log_laws.proofs.Locked.{below_trans}
use Rattle.tree_laws.proofs.Keys.{total, below_itself}

-- ---- lists

pub all_more : {A : Type 0} → (f g : A → Bool) → ((x : A) → f x ≡ true → g x ≡ true) → (xs : List A) → list_all f xs ≡ true → list_all g xs ≡ true
all_more f g h [] a = refl
all_more f g h (x ∷ xs) a = let p = and_parts _ _ a in and_from _ _ (h x p.0) (all_more f g h xs p.1)

pub all_kept : {A : Type 0} → (f g : A → Bool) (xs : List A) → list_all f xs ≡ true → list_all f (filter g xs) ≡ true
all_kept f g [] a = refl
all_kept f g (x ∷ xs) a = by (all_kept f g xs) (g x) (and_parts _ _ a)
  where
    by : (list_all f xs ≡ true → list_all f (filter g xs) ≡ true) → (b : Bool) → (f x ≡ true) × (list_all f xs ≡ true) → list_all f (cond b (x ∷ filter g xs) (filter g xs)) ≡ true
    by rest true p = and_from _ _ p.0 (rest p.1)
    by rest false p = rest p.1

pub rises_kept : {A : Type 0} → (below : A → A → Bool) (g : A → Bool) (xs : List A) → rises below xs ≡ true → rises below (filter g xs) ≡ true
rises_kept below g [] a = refl
rises_kept below g (x ∷ xs) a = by (rises_kept below g xs) (g x) (and_parts _ _ a)
  where
    by : (rises below xs ≡ true → rises below (filter g xs) ≡ true) → (b : Bool) → (list_all (below x) xs ≡ true) × (rises below xs ≡ true) → rises below (cond b (x ∷ filter g xs) (filter g xs)) ≡ true
    by rest true p = and_from _ _ (all_kept (below x) g xs p.0) (rest p.1)
    by rest false p = rest p.1

-- ---- a row put in its place

equal_is : (a b : List ℕ) → slice_cmp nat_cmp a b ≡ Equal → a ≡ b
equal_is a b e = exact_bytes a b e

pub all_put : (f : LeafRow → Bool) (r : LeafRow) (rows : List LeafRow) → f r ≡ true → list_all f rows ≡ true → list_all f (put_row r rows) ≡ true
all_put f r [] h a = and_from _ _ h refl
all_put f r (row ∷ rows) h a = by (all_put f r rows h) (slice_cmp nat_cmp r.key row.key) (and_parts _ _ a)
  where
    by : (list_all f rows ≡ true → list_all f (put_row r rows) ≡ true) → (o : Ordering) → (f row ≡ true) × (list_all f rows ≡ true) → list_all f (match_ordering o (r ∷ row ∷ rows) (r ∷ rows) (row ∷ put_row r rows)) ≡ true
    by rest Less p = and_from _ _ h a
    by rest Equal p = and_from _ _ h p.1
    by rest Greater p = and_from _ _ p.0 (rest p.1)

pub rises_put : (r : LeafRow) (rows : List LeafRow) → rises leaf_below rows ≡ true → rises leaf_below (put_row r rows) ≡ true
rises_put r [] a = refl
rises_put r (row ∷ rows) a = by (rises_put r rows) (slice_cmp nat_cmp r.key row.key) refl (and_parts _ _ a)
  where
    by : (rises leaf_below rows ≡ true → rises leaf_below (put_row r rows) ≡ true) → (o : Ordering) → slice_cmp nat_cmp r.key row.key ≡ o → (list_all (leaf_below row) rows ≡ true) × (rises leaf_below rows ≡ true) → rises leaf_below (match_ordering o (r ∷ row ∷ rows) (r ∷ rows) (row ∷ put_row r rows)) ≡ true
    by rest Less e p =
        let first : leaf_below r row ≡ true = ap is_lt e in
        and_from _ _ (and_from _ _ first (all_more (leaf_below row) (leaf_below r) (λ x h. below_trans (Some r.key) (Some row.key) (Some x.key) first h) rows p.0)) a
    by rest Equal e p = and_from _ _ (subst (λ (k : List ℕ). list_all (λ x. is_below (Some k) (Some x.key)) rows ≡ true) (sym (equal_is r.key row.key e)) p.0) p.1
    by rest Greater e p = and_from _ _ (all_put (leaf_below row) r rows (ap is_lt (total.antisymm row.key r.key ∙ ap ordering_reverse e)) p.0) (rest p.1)

pub same_both : (q a b : List ℕ) → same_key q a ≡ true → same_key q b ≡ true → a ≡ b
same_both q a b s t = sym (equal_key q a s) ∙ equal_key q b t

either_first : {A : Type 0} → (s t : Bool) (a b c : A) → (s ≡ true → t ≡ true → ⊥) → cond s a (cond t b c) ≡ cond t b (cond s a c)
either_first true true a b c h = absurd (h refl refl)
either_first true false a b c h = refl
either_first false t a b c h = refl

pub live_put : (r : LeafRow) (rows : List LeafRow) (q : List ℕ) → live (put_row r rows) q ≡ cond (same_key q r.key) (live_value r) (live rows q)
live_put r [] q = refl
live_put r (row ∷ rows) q = by (live_put r rows q) (slice_cmp nat_cmp r.key row.key) refl
  where
    hides : (s t : Bool) → s ≡ t → cond s (live_value r) (live rows q) ≡ cond s (live_value r) (cond t (live_value row) (live rows q))
    hides true t e = refl
    hides false t e = ap (λ (b : Bool). cond b (live_value row) (live rows q)) e

    by : (live (put_row r rows) q ≡ cond (same_key q r.key) (live_value r) (live rows q)) → (o : Ordering) → slice_cmp nat_cmp r.key row.key ≡ o → live (match_ordering o (r ∷ row ∷ rows) (r ∷ rows) (row ∷ put_row r rows)) q ≡ cond (same_key q r.key) (live_value r) (live (row ∷ rows) q)
    by rest Less e = refl
    by rest Equal e = hides (same_key q r.key) (same_key q row.key) (ap (same_key q) (equal_is r.key row.key e))
    by rest Greater e =
        ap (λ (x : Option (List ℕ)). cond (same_key q row.key) (live_value row) x) rest
        ∙ either_first (same_key q row.key) (same_key q r.key) (live_value row) (live_value r) (live rows q)
        (λ s t. not_both (is_lt (slice_cmp nat_cmp row.key r.key)) (ap is_lt (total.antisymm row.key r.key ∙ ap ordering_reverse e))
        (ap (λ (k : List ℕ). is_lt (slice_cmp nat_cmp row.key k)) (sym (same_both q row.key r.key s t)) ∙ below_itself row.key))

-- ---- rows left out

-- no row has a key that is below them all
pub live_absent : (q : List ℕ) (rows : List LeafRow) → list_all (λ x. is_below (Some q) (Some x.key)) rows ≡ true → live rows q ≡ None
live_absent q [] a = refl
live_absent q (row ∷ rows) a = by (live_absent q rows (and_parts _ _ a).1) (same_key q row.key) refl
  where
    by : (live rows q ≡ None) → (b : Bool) → same_key q row.key ≡ b → cond b (live_value row) (live rows q) ≡ None
    by rest true e = absurd (not_both _ (and_parts _ _ a).0 (ap (λ (k : List ℕ). is_below (Some q) (Some k)) (sym (equal_key q row.key e)) ∙ below_itself q))
    by rest false e = rest

-- the rows whose keys pass a test
pub live_kept : (P : List ℕ → Bool) (rows : List LeafRow) (q : List ℕ) → live (filter (λ row. P row.key) rows) q ≡ cond (P q) (live rows q) None
live_kept P [] q = by (P q)
  where
    by : (b : Bool) → ◌≡◌ {A = Option (List ℕ)} None (cond b None None)
    by true = refl
    by false = refl
live_kept P (row ∷ rows) q = by (live_kept P rows q) (P row.key) refl (same_key q row.key) refl
  where
    by : live (filter (λ row. P row.key) rows) q ≡ cond (P q) (live rows q) None → (b : Bool) → P row.key ≡ b → (s : Bool) → same_key q row.key ≡ s → live (cond b (row ∷ filter (λ row. P row.key) rows) (filter (λ row. P row.key) rows)) q ≡ cond (P q) (cond s (live_value row) (live rows q)) None
    by rest true e true f =
        let passes : P q ≡ true = ap P (equal_key q row.key f) ∙ e in
        ap (λ (s : Bool). cond s (live_value row) (live (filter (λ row. P row.key) rows) q)) f ∙ sym (ap (λ (b : Bool). cond b (live_value row) None) passes)
    by rest true e false f = ap (λ (s : Bool). cond s (live_value row) (live (filter (λ row. P row.key) rows) q)) f ∙ rest
    by rest false e true f =
        let fails : P q ≡ false = ap P (equal_key q row.key f) ∙ e in
        rest ∙ ap (λ (b : Bool). cond b (live rows q) None) fails ∙ sym (ap (λ (b : Bool). cond b (live_value row) None) fails)
    by rest false e false f = rest

-- without the tombstones
pub live_purged : (rows : List LeafRow) (q : List ℕ) → rises leaf_below rows ≡ true → live (filter is_live_row rows) q ≡ live rows q
live_purged [] q a = refl
live_purged (row ∷ rows) q a = by (live_purged rows q (and_parts _ _ a).1) row.tombstone refl (same_key q row.key) refl
  where
    by : (live (filter is_live_row rows) q ≡ live rows q) → (t : Bool) → row.tombstone ≡ t → (s : Bool) → same_key q row.key ≡ s → live (cond (not t) (row ∷ filter is_live_row rows) (filter is_live_row rows)) q ≡ cond s (cond t None (Some row.value)) (live rows q)
    by rest true e true f = rest ∙ live_absent q rows (subst (λ (k : List ℕ). list_all (λ x. is_below (Some k) (Some x.key)) rows ≡ true) (sym (equal_key q row.key f)) (and_parts _ _ a).0)
    by rest true e false f = rest
    by rest false e s f =
        ap (λ (b : Bool). cond b (live_value row) (live (filter is_live_row rows) q)) f
        ∙ ap (λ (b : Bool). cond s (cond b None (Some row.value)) (live (filter is_live_row rows) q)) e
        ∙ ap (λ (x : Option (List ℕ)). cond s (Some row.value) x) rest
