-- A record that is applicable leaves a state that keeps the rules.
use Rattle.std.proofs.Common.{◌≡◌, ℕ, ◌+◌, ◌<◌, ◌≤◌, ◌^◌, zero, suc, Bool, true, false, cond, List, [], ◌∷◌, ◌++◌, length, Option, Some, None, refl, sym, ap, subst, ◌∙◌, arith, nat_eq, nat_lt, nat_le, ltb-true, Ordering, Less, Equal, Greater}
use Rattle.std.specs.Prelude.{IfSome, not, filter, is_some, ◌&&◌, ◌||◌, max, option_and_then, unwrap_or}
use Rattle.std.specs.List.{list_all, list_any}
use Rattle.std.specs.Option.{option_map}
use Rattle.std.specs.Ordering.{nat_cmp, is_lt, ordering_reverse, match_ordering}
use Rattle.std.specs.Cmp.Lexicographic.{slice_cmp, nat_list_cmp_total, pointwise}
use Rattle.std.specs.Fmt.{decimal}
use Rattle.std.specs.Str.Parse.{digits_value}
use Rattle.std.proofs.lemmas.Bool.{and_parts, and_from}
use Rattle.std.proofs.lemmas.Bool.Decides.{nat_tests}
use Rattle.std.proofs.lemmas.Fmt.{length-decimal-le}
use Rattle.std.proofs.lemmas.Map.Lookups.{exact_bytes}
use Rattle.store_model.specs.Range.{Interval, has_key, is_below}
use Rattle.store_model.specs.Operator.{number_of, sum_of, meaning}
use Rattle.store_model.proofs.Bools.{not_both, not_true, both_true}
use Rattle.store_model.proofs.Ranges.{between}
use Rattle.wal_record.specs.Rules.{is_maybe_value}
use Rattle.wal_record.specs.State.{is_text, is_key, is_value, is_child, text_of, rises, leaf_below, branch_below, leaf_row_fits, branch_row_fits, IsFirst, KeepsRows, KeepsState, foster_fits, own_part, own_end, end_by, leaf_rows, branch_rows, put_row, put_branch_row, row_of, child_at, or_child, separates, state_size, page_room}
use Rattle.wal_record.specs.Images.{OnPage, Fits, first_page, with_value, is_live_row, purged, leaf_under, branch_under, lower_rows, lower_half, has_rows, with_child, without_foster, grown, IsLeafOf, CanSplit, CanTakeChild, CanGiveChild, CanPurge}
use Rattle.wal_record.specs.declared.page.PageState.{PageState}
use Rattle.wal_record.specs.declared.page.LeafRow.{LeafRow}
use Rattle.wal_record.specs.declared.page.BranchRow.{BranchRow}
use Rattle.wal_record.specs.declared.page.Foster.{Foster}
use Rattle.wal_record.specs.declared.page.Rows.{Rows}
use Rattle.wal_record.specs.declared.page.Rows.TheVariants.{Leaf, Branch}
use Rattle.wal_record.specs.declared.record.Split.{Split}
use Rattle.wal_record.specs.declared.record.Adopt.{Adopt}
use Rattle.page_rows.proofs.Spots.{below_trans}

-- ---- lists

all_more : {A : Type 0} → (f g : A → Bool) → ((x : A) → f x ≡ true → g x ≡ true) → (xs : List A) → list_all f xs ≡ true → list_all g xs ≡ true
all_more f g h [] a = refl
all_more f g h (x ∷ xs) a = let p = and_parts _ _ a in and_from _ _ (h x p.0) (all_more f g h xs p.1)

all_filtered : {A : Type 0} → (f g h : A → Bool) → ((x : A) → f x ≡ true → g x ≡ true → h x ≡ true) → (xs : List A) → list_all f xs ≡ true → list_all h (filter g xs) ≡ true
all_filtered f g h k [] a = refl
all_filtered f g h k (x ∷ xs) a = by (g x) refl (and_parts _ _ a).0 (all_filtered f g h k xs (and_parts _ _ a).1)
  where
    by : (b : Bool) → g x ≡ b → f x ≡ true → list_all h (filter g xs) ≡ true → list_all h (cond b (x ∷ filter g xs) (filter g xs)) ≡ true
    by true e p rest = and_from _ _ (k x p e) rest
    by false e p rest = rest

rises_filtered : {A : Type 0} → (below : A → A → Bool) (g : A → Bool) (xs : List A) → rises below xs ≡ true → rises below (filter g xs) ≡ true
rises_filtered below g [] a = refl
rises_filtered below g (x ∷ xs) a = by (rises_filtered below g xs) (g x) (and_parts _ _ a)
  where
    by : (rises below xs ≡ true → rises below (filter g xs) ≡ true) → (b : Bool) → (list_all (below x) xs ≡ true) × (rises below xs ≡ true) → rises below (cond b (x ∷ filter g xs) (filter g xs)) ≡ true
    by rest true p = and_from _ _ (all_filtered (below x) g (below x) (λ y m n. m) xs p.0) (rest p.1)
    by rest false p = rest p.1

-- ---- a row put in its place

all_put : (f : LeafRow → Bool) (r : LeafRow) (rows : List LeafRow) → f r ≡ true → list_all f rows ≡ true → list_all f (put_row r rows) ≡ true
all_put f r [] h a = and_from _ _ h refl
all_put f r (row ∷ rows) h a = by (all_put f r rows h) (slice_cmp nat_cmp r.key row.key) (and_parts _ _ a)
  where
    by : (list_all f rows ≡ true → list_all f (put_row r rows) ≡ true) → (o : Ordering) → (f row ≡ true) × (list_all f rows ≡ true) → list_all f (match_ordering o (r ∷ row ∷ rows) (r ∷ rows) (row ∷ put_row r rows)) ≡ true
    by rest Less p = and_from _ _ h a
    by rest Equal p = and_from _ _ h p.1
    by rest Greater p = and_from _ _ p.0 (rest p.1)

rises_put : (r : LeafRow) (rows : List LeafRow) → rises leaf_below rows ≡ true → rises leaf_below (put_row r rows) ≡ true
rises_put r [] a = refl
rises_put r (row ∷ rows) a = by (rises_put r rows) (slice_cmp nat_cmp r.key row.key) refl (and_parts _ _ a)
  where
    by : (rises leaf_below rows ≡ true → rises leaf_below (put_row r rows) ≡ true) → (o : Ordering) → slice_cmp nat_cmp r.key row.key ≡ o → (list_all (leaf_below row) rows ≡ true) × (rises leaf_below rows ≡ true) → rises leaf_below (match_ordering o (r ∷ row ∷ rows) (r ∷ rows) (row ∷ put_row r rows)) ≡ true
    by rest Less e p =
        let first : leaf_below r row ≡ true = ap is_lt e in
        and_from _ _ (and_from _ _ first (all_more (leaf_below row) (leaf_below r) (λ x h. below_trans (Some r.key) (Some row.key) (Some x.key) first h) rows p.0)) a
    by rest Equal e p = and_from _ _ (subst (λ (k : List ℕ). list_all (λ x. is_below (Some k) (Some x.key)) rows ≡ true) (sym (exact_bytes r.key row.key e)) p.0) p.1
    by rest Greater e p = and_from _ _ (all_put (leaf_below row) r rows (ap is_lt (nat_list_cmp_total.antisymm row.key r.key ∙ ap ordering_reverse e)) p.0) (rest p.1)

module _ (key : List ℕ) (child : ℕ) where
  abbrev made : BranchRow
  made = record { low = Some key; child = child }

  all_put_branch : (f : BranchRow → Bool) (rows : List BranchRow) → f made ≡ true → list_all f rows ≡ true → list_all f (put_branch_row made rows) ≡ true
  all_put_branch f [] h a = and_from _ _ h refl
  all_put_branch f (row ∷ rows) h a = by (all_put_branch f rows h) (is_below (Some key) row.low) (and_parts _ _ a)
    where
      by : (list_all f rows ≡ true → list_all f (put_branch_row made rows) ≡ true) → (b : Bool) → (f row ≡ true) × (list_all f rows ≡ true) → list_all f (cond b (made ∷ row ∷ rows) (row ∷ put_branch_row made rows)) ≡ true
      by rest true p = and_from _ _ h a
      by rest false p = and_from _ _ p.0 (rest p.1)

  -- what isn't the key and isn't above it is below it
  below_key : (row : BranchRow) → separates key row ≡ false → is_below (Some key) row.low ≡ false → is_below row.low (Some key) ≡ true
  below_key row s f = by (is_below row.low (Some key)) (is_below (Some key) row.low) s f
    where
      by : (a b : Bool) → not (a || b) ≡ false → b ≡ false → a ≡ true
      by true b s f = refl
      by false true s f = absurd cc
      by false false s f = absurd cc

  rises_put_branch : (rows : List BranchRow) → list_any (separates key) rows ≡ false → rises branch_below rows ≡ true → rises branch_below (put_branch_row made rows) ≡ true
  rises_put_branch [] s a = refl
  rises_put_branch (row ∷ rows) s a = by (rises_put_branch rows (or_parts (separates key row) _ s).1) (is_below (Some key) row.low) refl (and_parts _ _ a)
    where
      or_parts : (a b : Bool) → (a || b) ≡ false → (a ≡ false) × (b ≡ false)
      or_parts true b e = absurd cc
      or_parts false b e = (refl, e)

      by : (rises branch_below rows ≡ true → rises branch_below (put_branch_row made rows) ≡ true) → (b : Bool) → is_below (Some key) row.low ≡ b → (list_all (branch_below row) rows ≡ true) × (rises branch_below rows ≡ true)
          → rises branch_below (cond b (made ∷ row ∷ rows) (row ∷ put_branch_row made rows)) ≡ true
      by rest true e p = and_from _ _ (and_from _ _ e (all_more (branch_below row) (branch_below made) (λ x h. below_trans (Some key) row.low x.low e h) rows p.0)) a
      by rest false e p = and_from _ _ (all_put_branch (branch_below row) rows (below_key row (or_parts (separates key row) _ s).0 e) p.0) (rest p.1)

  first_stays : (low : Option (List ℕ)) (rows : List BranchRow) → is_some (child_at key rows) ≡ true → IsFirst low rows → IsFirst low (put_branch_row made rows)
  first_stays low [] h i = absurd cc
  first_stays low (row ∷ rows) h i = by (is_below (Some key) row.low) h
    where
      by : (b : Bool) → is_some (cond b None (or_child (child_at key rows) row.child)) ≡ true → IsFirst low (cond b (made ∷ row ∷ rows) (row ∷ put_branch_row made rows))
      by true g = absurd cc
      by false g = i

-- ---- what an operator makes is a value

decimal_fits : (n : ℕ) → n < 2 ^ 64 → is_value (decimal n) ≡ true
decimal_fits n h = let d = length-decimal-le 20 n (omega arith) (omega (arith, h)) h in grind (arith, nat_tests)

abbrev IsSmall : Option ℕ → Type 0
IsSmall None = Unit {0}
IsSmall (Some n) = n < 2 ^ 64

small_if : (p q : Bool) (n : ℕ) → nat_lt n (2 ^ 64) ≡ q → IsSmall (cond p (cond q (Some n) None) None)
small_if true true n e = ltb-true n (2 ^ 64) e
small_if true false n e = tt
small_if false q n e = tt

number_small : (text : List ℕ) → IsSmall (number_of text)
number_small text = small_if (pointwise (λ a b. nat_eq a b) (decimal (digits_value 10 text)) text) (nat_lt (digits_value 10 text) (2 ^ 64)) (digits_value 10 text) refl

sum_fits : (a b : ℕ) (q : Bool) → nat_lt (a + b) (2 ^ 64) ≡ q → is_maybe_value (cond q (Some (decimal (a + b))) None) ≡ true
sum_fits a b true e = decimal_fits (a + b) (ltb-true (a + b) (2 ^ 64) e)
sum_fits a b false e = refl

added : (x y : Option ℕ) → is_maybe_value (option_and_then (λ a. option_and_then (λ b. sum_of a b) y) x) ≡ true
added None y = refl
added (Some a) None = refl
added (Some a) (Some b) = sum_fits a b (nat_lt (a + b) (2 ^ 64)) refl

max_small : (a b : ℕ) → a < 2 ^ 64 → b < 2 ^ 64 → max a b < 2 ^ 64
max_small a b h g = omega (arith, h, g)

greater : (x y : Option ℕ) → IsSmall x → IsSmall y → is_maybe_value (option_and_then (λ a. option_map (λ b. decimal (max a b)) y) x) ≡ true
greater None y h g = refl
greater (Some a) None h g = refl
greater (Some a) (Some b) h g = decimal_fits (max a b) (max_small a b h g)

short_fits : (text : List ℕ) (q : Bool) → nat_le (length text) 64 ≡ q → is_maybe_value (cond q (Some text) None) ≡ true
short_fits text true e = grind (arith, nat_tests)
short_fits text false e = refl

pub meaning_fits : (operator : ℕ) (old : Option (List ℕ)) (argument : List ℕ) → is_maybe_value (meaning operator old argument) ≡ true
meaning_fits zero old argument = refl
meaning_fits (suc zero) old argument = added (number_of (unwrap_or old (decimal 0))) (number_of argument)
meaning_fits (suc (suc zero)) old argument = greater (number_of (unwrap_or old (decimal 0))) (number_of argument) (number_small (unwrap_or old (decimal 0))) (number_small argument)
meaning_fits (suc (suc (suc zero))) old argument = short_fits (unwrap_or old [] ++ argument) (nat_le (length (unwrap_or old [] ++ argument)) 64) refl
meaning_fits (suc (suc (suc (suc n)))) old argument = refl

-- ---- leaves

leaf_rules : (s : PageState) → s.rows ≡ Leaf (leaf_rows s.rows) → KeepsState s → KeepsRows s.level (own_part s) (Leaf (leaf_rows s.rows))
leaf_rules s e k = subst (KeepsRows s.level (own_part s)) e k.rows

row_fits : (part : Interval) (key : List ℕ) (v : Option (List ℕ)) → has_key part key ≡ true → is_key key ≡ true → is_maybe_value v ≡ true → leaf_row_fits part (row_of key v) ≡ true
row_fits part key None h k m = and_from _ _ h (and_from _ _ (and_from _ _ k refl) refl)
row_fits part key (Some x) h k m = and_from _ _ h (and_from _ _ (and_from _ _ k m) refl)

pub value_keeps : (key : List ℕ) (v : Option (List ℕ)) → is_key key ≡ true → is_maybe_value v ≡ true → (s : PageState) → IsLeafOf key s → KeepsState s → state_size (with_value key v s) ≤ page_room → KeepsState (with_value key v s)
value_keeps key v fits value s at k size =
    let r = leaf_rules s at.leaf k in
    record {
      level = k.level;
      texts = k.texts;
      fences = k.fences;
      foster = k.foster;
      rows = (r.0, rises_put (row_of key v) (leaf_rows s.rows) r.1, all_put (leaf_row_fits (own_part s)) (row_of key v) (leaf_rows s.rows) (row_fits (own_part s) key v at.own fits value) r.2);
      size = size;
    }

pub purge_keeps : (s : PageState) → CanPurge s → KeepsState s → state_size (purged s) ≤ page_room → KeepsState (purged s)
purge_keeps s can k size =
    let r = leaf_rules s can.leaf k in
    record {
      level = k.level;
      texts = k.texts;
      fences = k.fences;
      foster = k.foster;
      rows = (r.0, rises_filtered leaf_below is_live_row (leaf_rows s.rows) r.1, all_filtered (leaf_row_fits (own_part s)) is_live_row (leaf_row_fits (own_part s)) (λ row h g. h) (leaf_rows s.rows) r.2);
      size = size;
    }

pub first_keeps : KeepsState first_page
first_keeps = record { level = refl; texts = refl; fences = refl; foster = refl; rows = (refl, refl, refl); size = omega arith }

-- ---- a split

none_under : (at : Option (List ℕ)) (r : BranchRow) (rows : List BranchRow) → list_all (branch_below r) rows ≡ true → branch_under at r ≡ false → filter (branch_under at) rows ≡ []
none_under at r [] a f = refl
none_under at r (row ∷ rows) a f = by (branch_under at row) refl (and_parts _ _ a).0 (none_under at r rows (and_parts _ _ a).1 f)
  where
    by : (b : Bool) → branch_under at row ≡ b → branch_below r row ≡ true → filter (branch_under at) rows ≡ [] → cond b (row ∷ filter (branch_under at) rows) (filter (branch_under at) rows) ≡ []
    by true e h rest = absurd (not_both _ (below_trans r.low row.low at h e) f)
    by false e h rest = rest

first_lower : (low at : Option (List ℕ)) (rows : List BranchRow) → IsFirst low rows → rises branch_below rows ≡ true → has_rows (Branch (filter (branch_under at) rows)) ≡ true → IsFirst low (filter (branch_under at) rows) × (is_below low at ≡ true)
first_lower low at [] f r h = absurd f
first_lower low at (row ∷ rows) f r h = by (branch_under at row) refl h
  where
    by : (b : Bool) → branch_under at row ≡ b → has_rows (Branch (cond b (row ∷ filter (branch_under at) rows) (filter (branch_under at) rows))) ≡ true → IsFirst low (cond b (row ∷ filter (branch_under at) rows) (filter (branch_under at) rows)) × (is_below low at ≡ true)
    by true e g = (f, ap (λ (x : Option (List ℕ)). is_below x at) (sym f) ∙ e)
    by false e g = absurd (not_both _ g (ap (λ (x : List BranchRow). has_rows (Branch x)) (none_under at row rows (and_parts _ _ r).0 e)))

leaf_low : (part : Interval) (at : Option (List ℕ)) (rows : List LeafRow) → list_all (leaf_row_fits part) rows ≡ true → has_rows (Leaf (filter (leaf_under at) rows)) ≡ true → is_below part.low at ≡ true
leaf_low part at [] a h = absurd cc
leaf_low part at (row ∷ rows) a h = by (leaf_under at row) refl h (leaf_low part at rows (and_parts _ _ a).1)
  where
    by : (b : Bool) → leaf_under at row ≡ b → has_rows (Leaf (cond b (row ∷ filter (leaf_under at) rows) (filter (leaf_under at) rows))) ≡ true → (has_rows (Leaf (filter (leaf_under at) rows)) ≡ true → is_below part.low at ≡ true) → is_below part.low at ≡ true
    by true e g rest = between part.low at row.key (not_true (is_below (Some row.key) part.low) (and_parts _ _ (and_parts _ _ (and_parts _ _ a).0).0).0) e
    by false e g rest = rest g

low_under : (level : ℕ) (part : Interval) (at : Option (List ℕ)) (rows : Rows) → KeepsRows level part rows → has_rows (lower_rows at rows) ≡ true → is_below part.low at ≡ true
low_under level part at (Leaf rows) k h = leaf_low part at rows k.2 h
low_under level part at (Branch rows) k h = (first_lower part.low at rows k.1 k.2 h).1

abbrev up_to : Interval → Option (List ℕ) → Interval
up_to part at = record { low = part.low; high = at }

lower_keeps : (level : ℕ) (part : Interval) (at : Option (List ℕ)) (rows : Rows) → KeepsRows level part rows → has_rows (lower_rows at rows) ≡ true → KeepsRows level (up_to part at) (lower_rows at rows)
lower_keeps level part at (Leaf rows) k h = (
  k.0,
  rises_filtered leaf_below (leaf_under at) rows k.1,
  all_filtered (leaf_row_fits part) (leaf_under at) (leaf_row_fits (up_to part at)) (λ row f u. let p = and_parts _ _ f in and_from _ _ (and_from _ _ (and_parts _ _ p.0).0 u) p.1) rows k.2,
)
lower_keeps level part at (Branch rows) k h = (
  k.0,
  (first_lower part.low at rows k.1 k.2 h).0,
  rises_filtered branch_below (branch_under at) rows k.2,
  all_filtered (branch_row_fits part.high) (branch_under at) (branch_row_fits at) (λ row f u. let p = and_parts _ _ f in and_from _ _ u p.1) rows k.3,
)

low_some : (a b : Option (List ℕ)) → is_below a b ≡ true → a ≡ Some (text_of a)
low_some None b h = absurd cc
low_some (Some x) b h = refl

pub half_keeps : (x : Split) → KeepsState x.child_state → is_child x.child ≡ true → (s : PageState) → CanSplit x s → KeepsState s → state_size (lower_half x s) ≤ page_room → KeepsState (lower_half x s)
half_keeps x rules child s can k size =
    let at = x.child_state.low in
    let key = text_of at in
    let is : at ≡ Some key = low_some at x.child_state.high rules.fences in
    let low : is_below s.low at ≡ true = low_under s.level (own_part s) at s.rows k.rows can.stays in
    let high : is_below at s.high ≡ true = subst (λ (h : Option (List ℕ)). is_below at h ≡ true) can.high rules.fences in
    record {
      level = k.level;
      texts = k.texts;
      fences = k.fences;
      foster = and_from _ _ (and_from _ _ (subst (λ (o : Option (List ℕ)). is_below s.low o ≡ true) is low) (subst (λ (o : Option (List ℕ)). is_below o s.high ≡ true) is high))
          (and_from _ _ (both_true (is_text key) (is_text (text_of x.child_state.high)) rules.texts).0 child);
      rows = subst (λ (o : Option (List ℕ)). KeepsRows s.level (record { low = s.low; high = o }) (lower_rows at s.rows)) is (lower_keeps s.level (own_part s) at s.rows k.rows can.stays);
      size = size;
    }

-- ---- an adoption

key_text : (key : List ℕ) → is_key key ≡ true → is_text key ≡ true
key_text key h = (and_parts _ _ h).1

pub take_keeps : (a : Adopt) → is_key a.key ≡ true → is_child a.child ≡ true → (s : PageState) → CanTakeChild a s → KeepsState s → state_size (with_child a s) ≤ page_room → KeepsState (with_child a s)
take_keeps a key child s can k size =
    let r = subst (KeepsRows s.level (own_part s)) can.branch k.rows in
    let rows = branch_rows s.rows in
    record {
      level = k.level;
      texts = k.texts;
      fences = k.fences;
      foster = k.foster;
      rows = (
        r.0,
        first_stays a.key a.child s.low rows can.before r.1,
        rises_put_branch a.key a.child rows can.fresh r.2,
        all_put_branch a.key a.child (branch_row_fits (own_end s)) rows (and_from _ _ (and_parts _ _ can.own).1 (and_from _ _ (key_text a.key key) child)) r.3,
      );
      size = size;
    }

pub give_keeps : (a : Adopt) (s : PageState) → CanGiveChild a s → KeepsState s → state_size (without_foster a s) ≤ page_room → KeepsState (without_foster a s)
give_keeps a s can k size =
    let f : foster_fits s.low s.high (Some (record { key = a.key; child = a.child })) ≡ true = ap (foster_fits s.low s.high) (sym can.foster) ∙ k.foster in
    let p = both_true (is_below s.low (Some a.key) && is_below (Some a.key) s.high) (is_text a.key && is_child a.child) f in
    let end : own_end s ≡ Some a.key = ap (λ (x : Option Foster). end_by x s.high) can.foster in
    record {
      level = k.level;
      texts = and_from (is_text (text_of s.low)) (is_text a.key) (both_true (is_text (text_of s.low)) (is_text (text_of s.high)) k.texts).0 (both_true (is_text a.key) (is_child a.child) p.1).0;
      fences = (both_true (is_below s.low (Some a.key)) (is_below (Some a.key) s.high) p.0).0;
      foster = refl;
      rows = subst (λ (e : Option (List ℕ)). KeepsRows s.level (record { low = s.low; high = e }) s.rows) end k.rows;
      size = size;
    }

-- ---- a root that grows

pub grow_keeps : (child : ℕ) → is_child child ≡ true → (s : PageState) → s.level < 255 → state_size (grown child s) ≤ page_room → KeepsState (grown child s)
grow_keeps child c s deep size = record { level = (let e : nat_lt (s.level + 1) 256 ≡ true = grind (arith, nat_tests) in e); texts = refl; fences = refl; foster = refl; rows = (omega arith, refl, refl, and_from _ _ c refl); size = size }

-- ---- a page that may have no image

state_is : (s t : PageState) → ◌≡◌ {A = Option PageState} (Some s) (Some t) → s ≡ t
state_is s t e = cc

pub image_keeps : (May : PageState → Type 0) (change : PageState → PageState) → ((s : PageState) → May s → KeepsState s → state_size (change s) ≤ page_room → KeepsState (change s))
    → (old : Option PageState) → OnPage May old → Fits (option_map change old) → IfSome old KeepsState → IfSome (option_map change old) KeepsState
image_keeps May change law None may fits keeps = tt
image_keeps May change law (Some s) may fits keeps =
    law s (subst May (sym (state_is s may.0 may.1)) may.2) keeps (subst (λ (x : PageState). state_size x ≤ page_room) (sym (state_is (change s) fits.0 fits.1)) fits.2)
