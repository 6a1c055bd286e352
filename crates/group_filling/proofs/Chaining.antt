-- Records filled in by what the listing tells are those that the laws of asking tell.
use Rattle.std.proofs.Common.{◌≡◌, ℕ, cond, ◌+◌, ◌≤◌, List, [], ◌∷◌, ◌++◌, length, Option, Some, None, Bool, true, false, refl, sym, ap, ◌∙◌, subst, arith, append-nil, get_or}
use Rattle.std.specs.Prelude.{◌||◌, slice_get, slice_set}
use Rattle.std.specs.List.{list_any}
use Rattle.asking_laws.specs.Entered.{fill, fill_all}
use Rattle.page_ops.specs.Groups.{Each, Numbers, no_checkpoint, filled, made_by, AreFilled, AreFilledFrom}
use Rattle.log_index.specs.Listing.{noted}
use Rattle.log_index.specs.Ready.{is_upkeep, makes_page}
use Rattle.log_index.specs.declared.listing.Listing.{Listing}
use Rattle.wal_record.specs.Chains.{pages, Link, link_of, is_link_of, tx_of, tx_or_none, last}
use Rattle.wal_record.specs.Checkpoints.{is_checkpoint}
use Rattle.wal_record.specs.declared.record.Record.{Record}
use Rattle.wal_record.specs.declared.record.Record.TheVariants as kinds
use Rattle.wal_record.proofs.Pushes.{last_push}
use Rattle.group_filling.specs.Fields.{fields_of, with_fields, with_two, ArePlaced, IsGoingOn, IsKnown, AreChained, Joins}
use Rattle.group_filling.specs.declared.fields.Fields.{Fields}

-- ---- one record

pub fields_back : (f : Fields) (r : Record) → with_fields (fields_of r) (with_fields f r) ≡ r
fields_back f (kinds.Write w) = refl
fields_back f (kinds.Apply a) = refl
fields_back f (kinds.Undo u) = refl
fields_back f (kinds.End e) = refl
fields_back f (kinds.Split s) = refl
fields_back f (kinds.Adopt a) = refl
fields_back f (kinds.Grow g) = refl
fields_back f (kinds.Purge g) = refl
fields_back f (kinds.Lost l) = refl
fields_back f _ = refl

chained_is : (log : List Record) (made : Option ℕ) (child : ℕ) (r : Record) (f : Fields) → is_checkpoint r ≡ false → ArePlaced made child r f → AreChained log made child r f → with_fields f r ≡ fill log made child r
chained_is log made child (kinds.Write w) f plain p c = let t = c.prev (record { tx = w.tx; prev = w.prev }) refl in λ i. kinds.Write (record w { prev = t i; page = p.page i; page_prev = c.page_prev i })
chained_is log made child (kinds.Apply w) f plain p c = let t = c.prev (record { tx = w.tx; prev = w.prev }) refl in λ i. kinds.Apply (record w { prev = t i; page = p.page i; page_prev = c.page_prev i })
chained_is log made child (kinds.Undo w) f plain p c = let t = c.prev (record { tx = w.tx; prev = w.prev }) refl in λ i. kinds.Undo (record w { prev = t i; page = p.page i; page_prev = c.page_prev i })
chained_is log made child (kinds.End e) f plain p c = let t = c.prev (record { tx = e.tx; prev = e.prev }) refl in λ i. kinds.End (record e { prev = t i })
chained_is log made child (kinds.Split s) f plain p c = λ i. kinds.Split (record s { page_prev = c.page_prev i; child = p.child i })
chained_is log made child (kinds.Adopt a) f plain p c = λ i. kinds.Adopt (record a { parent_prev = c.page_prev i; fosterer_prev = c.other_prev i })
chained_is log made child (kinds.Grow g) f plain p c = λ i. kinds.Grow (record g { page_prev = c.page_prev i; child = p.child i })
chained_is log made child (kinds.Purge g) f plain p c = λ i. kinds.Purge (record g { page_prev = c.page_prev i })
chained_is log made child (kinds.Lost l) f plain p c = let n = c.count refl in λ i. kinds.Lost (record l { pages = n i })
chained_is log made child (kinds.Checkpoint x) f plain p c = absurd (cc plain)
chained_is log made child _ f plain p c = refl

abbrev numbers : Fields → ℕ → Numbers
numbers f child = record { prev = f.prev; page_prev = f.page_prev; other_prev = f.other_prev; child = child; checkpoint = no_checkpoint; pages = f.pages }

placed_is : (made : Option ℕ) (child : ℕ) (r : Record) (f : Fields) → is_checkpoint r ≡ false → ArePlaced made child r f → with_fields f r ≡ filled made (numbers f child) r
placed_is made child (kinds.Write w) f plain p = λ i. kinds.Write (record w { prev = f.prev; page = p.page i; page_prev = f.page_prev })
placed_is made child (kinds.Apply a) f plain p = λ i. kinds.Apply (record a { prev = f.prev; page = p.page i; page_prev = f.page_prev })
placed_is made child (kinds.Undo u) f plain p = λ i. kinds.Undo (record u { prev = f.prev; page = p.page i; page_prev = f.page_prev })
placed_is made child (kinds.End e) f plain p = refl
placed_is made child (kinds.Split s) f plain p = λ i. kinds.Split (record s { page_prev = f.page_prev; child = p.child i })
placed_is made child (kinds.Adopt a) f plain p = refl
placed_is made child (kinds.Grow g) f plain p = λ i. kinds.Grow (record g { page_prev = f.page_prev; child = p.child i })
placed_is made child (kinds.Purge g) f plain p = refl
placed_is made child (kinds.Lost l) f plain p = refl
placed_is made child (kinds.Checkpoint x) f plain p = absurd (cc plain)
placed_is made child _ f plain p = refl

-- ---- one record or two

neither : (a b : Bool) → (a || b) ≡ false → (a ≡ false) × (b ≡ false)
neither true b e = absurd (cc e)
neither false b e = (refl, e)

module _ (made : Option ℕ) (child : ℕ) where
  pub filled_none : AreFilledFrom made child [] []
  filled_none = tt

  pub filled_one : (r : Record) (f : Fields) → list_any is_checkpoint (r ∷ []) ≡ false → ArePlaced made child r f → AreFilledFrom made child (r ∷ []) (with_fields f r ∷ [])
  filled_one r f plain p = ((numbers f child, refl, placed_is made child r f (neither (is_checkpoint r) false plain).0 p), tt)

  pub filled_two : (r q : Record) (f g : Fields) → list_any is_checkpoint (r ∷ q ∷ []) ≡ false → ArePlaced made child r f → ArePlaced made child q g → AreFilledFrom made child (r ∷ q ∷ []) (with_fields f r ∷ with_fields g q ∷ [])
  filled_two r q f g plain p s =
      let a = neither (is_checkpoint r) (list_any is_checkpoint (q ∷ [])) plain in
      let b = neither (is_checkpoint q) false a.1 in
      ((numbers f child, refl, placed_is made child r f a.0 p), ((numbers g child, refl, placed_is made child q g b.0 s), tt))

  pub told_one : (log : List Record) (r : Record) (f : Fields) → list_any is_checkpoint (r ∷ []) ≡ false → ArePlaced made child r f → AreChained (log ++ []) made child r f → with_fields f r ∷ [] ≡ fill_all log made child (r ∷ [])
  told_one log r f plain p c = ap (λ (x : Record). x ∷ []) (chained_is log made child r f (neither (is_checkpoint r) false plain).0 p (subst (λ (l : List Record). AreChained l made child r f) (append-nil log) c))

  pub told_two : (log : List Record) (r q : Record) (f g : Fields) → list_any is_checkpoint (r ∷ q ∷ []) ≡ false → ArePlaced made child r f → ArePlaced made child q g → AreChained (log ++ []) made child r f → AreChained (log ++ with_fields f r ∷ []) made child q g
      → with_fields f r ∷ with_fields g q ∷ [] ≡ fill_all log made child (r ∷ q ∷ [])
  told_two log r q f g plain p s c d =
      let a = neither (is_checkpoint r) (list_any is_checkpoint (q ∷ [])) plain in
      let b = neither (is_checkpoint q) false a.1 in
      let first : with_fields f r ≡ fill log made child r = chained_is log made child r f a.0 p (subst (λ (l : List Record). AreChained l made child r f) (append-nil log) c) in
      let second : with_fields g q ≡ fill (log ++ fill log made child r ∷ []) made child q = chained_is (log ++ with_fields f r ∷ []) made child q g b.0 s d ∙ ap (λ (x : Record). fill (log ++ x ∷ []) made child q) first in
      λ i. first i ∷ second i ∷ []

-- ---- behind one record

-- it names no transaction, so the last record of each is as before
pub last_behind : (log : List Record) (r : Record) (t : ℕ) → link_of r ≡ None → last (log ++ r ∷ []) t ≡ last log t
last_behind log r t none = last_push log r t ∙ ap (λ (o : Option Link). cond (is_link_of t o) (length log + 1) (last log t)) none

-- behind at most one record that may stand before it
pub last_front : (log before : List Record) (r : Record) (t : ℕ) → Joins (before ++ r ∷ []) → last (log ++ before) t ≡ last log t
last_front log [] r t joins = ap (λ l. last l t) (append-nil log)
last_front log (x ∷ []) r t joins = last_behind log x t joins.0
last_front log (x ∷ y ∷ xs) r t joins = absurd (three x y xs joins)
  where
    three : (x y : Record) (xs : List Record) → Joins (x ∷ y ∷ (xs ++ r ∷ [])) → ⊥
    three x y [] joins = joins
    three x y (z ∷ zs) joins = joins

pub pages_front : (log before : List Record) (r : Record) → is_upkeep r ≡ true → Joins (before ++ r ∷ []) → pages log ≡ pages (log ++ before)
pages_front log [] r whole joins = ap pages (sym (append-nil log))
pages_front log (x ∷ []) r whole joins = absurd (cc (whole, joins.3))
pages_front log (x ∷ y ∷ xs) r whole joins = absurd (three x y xs joins)
  where
    three : (x y : Record) (xs : List Record) → Joins (x ∷ y ∷ (xs ++ r ∷ [])) → ⊥
    three x y [] joins = joins
    three x y (z ∷ zs) joins = joins

-- the transaction that a record names isn't over
pub noted_link : (goes : ℕ → Bool) (log : List Record) (s : Listing) (r : Record) (prev : ℕ) → IsKnown goes log s → IsGoingOn goes log (link_of r) → prev ≡ noted s (tx_of r) → (l : Link) → link_of r ≡ Some l → prev ≡ last log l.tx
noted_link goes log s r prev k runs is l link =
    let tx : tx_of r ≡ l.tx = ap tx_or_none link in
    let going = subst (IsGoingOn goes log) link runs in
    is ∙ ap (noted s) tx ∙ k.noted_last l.tx going.0 going.1

-- ---- what stands together still does

links_same : (made : Option ℕ) (n : Numbers) (r : Record) → link_of r ≡ None → link_of (filled made n r) ≡ None
links_same made n (kinds.Write w) none = absurd (cc none)
links_same made n (kinds.Apply w) none = absurd (cc none)
links_same made n (kinds.Undo w) none = absurd (cc none)
links_same made n (kinds.End w) none = absurd (cc none)
links_same made n (kinds.Commit w) none = absurd (cc none)
links_same made n (kinds.Split s) none = refl
links_same made n (kinds.Adopt s) none = refl
links_same made n (kinds.Grow s) none = refl
links_same made n (kinds.Purge s) none = refl
links_same made n (kinds.Lost s) none = refl
links_same made n (kinds.Checkpoint s) none = refl
links_same made n _ none = none

upkeep_same : (made : Option ℕ) (n : Numbers) (r : Record) → is_upkeep (filled made n r) ≡ is_upkeep r
upkeep_same made n (kinds.Write w) = refl
upkeep_same made n (kinds.Apply w) = refl
upkeep_same made n (kinds.Undo w) = refl
upkeep_same made n (kinds.End w) = refl
upkeep_same made n (kinds.Split s) = refl
upkeep_same made n (kinds.Adopt s) = refl
upkeep_same made n (kinds.Grow s) = refl
upkeep_same made n (kinds.Purge s) = refl
upkeep_same made n (kinds.Lost s) = refl
upkeep_same made n (kinds.Checkpoint s) = refl
upkeep_same made n _ = refl

makes_same : (made : Option ℕ) (n : Numbers) (r : Record) → makes_page (filled made n r) ≡ makes_page r
makes_same made n (kinds.Write w) = refl
makes_same made n (kinds.Apply w) = refl
makes_same made n (kinds.Undo w) = refl
makes_same made n (kinds.End w) = refl
makes_same made n (kinds.Split s) = refl
makes_same made n (kinds.Adopt s) = refl
makes_same made n (kinds.Grow s) = refl
makes_same made n (kinds.Purge s) = refl
makes_same made n (kinds.Lost s) = refl
makes_same made n (kinds.Checkpoint s) = refl
makes_same made n _ = refl

pub joins_filled : (made : Option ℕ) (new : ℕ) (asked now : List Record) → AreFilledFrom made new asked now → Joins asked → (length now ≤ 2) × Joins now
joins_filled made new [] [] f joins = (omega arith, tt)
joins_filled made new [] (x ∷ xs) f joins = absurd f
joins_filled made new (r ∷ rs) [] f joins = absurd f
joins_filled made new (r ∷ []) (x ∷ []) f joins = (omega arith, tt)
joins_filled made new (r ∷ []) (x ∷ y ∷ xs) f joins = absurd f.1
joins_filled made new (r ∷ q ∷ rs) (x ∷ []) f joins = absurd f.1
joins_filled made new (r ∷ q ∷ []) (x ∷ y ∷ []) f joins = (
  omega arith,
  (
    ap link_of f.0.2 ∙ links_same made f.0.0 r joins.0,
    ap is_upkeep f.0.2 ∙ upkeep_same made f.0.0 r ∙ joins.1,
    ap makes_page f.1.0.2 ∙ makes_same made f.1.0.0 q ∙ joins.2,
    ap is_upkeep f.1.0.2 ∙ upkeep_same made f.1.0.0 q ∙ joins.3,
  ),
)
joins_filled made new (r ∷ q ∷ []) (x ∷ y ∷ z ∷ xs) f joins = absurd f.1.1
joins_filled made new (r ∷ q ∷ z ∷ rs) (x ∷ y ∷ xs) f joins = absurd joins

-- ---- records in place

module _ (made : Option ℕ) (child : ℕ) where
  -- one record, which was looked at and filled in
  pub fill_one : (rs now : List Record) (f was none : Fields) (x : Record) → length rs ≡ 1 → made ≡ made_by rs → list_any is_checkpoint rs ≡ false
      → ((r : Record) → slice_get rs 0 ≡ Some r → was ≡ fields_of r) → ((r : Record) → slice_get rs 0 ≡ Some r → now ≡ slice_set rs 0 (with_fields f r)) → x ≡ get_or rs 0 x → ArePlaced made child x f
      → (with_two was none now ≡ rs) × AreFilled child rs now
      × ((goes : ℕ → Bool) (log : List Record) → Each (λ r. IsGoingOn goes log (link_of r)) rs → (IsGoingOn goes log (link_of x) → AreChained (log ++ []) made child x f) → now ≡ fill_all log made child rs)
  fill_one [] now f was none x one same plain is set at p = absurd (omega (arith, one))
  fill_one (r ∷ q ∷ rs) now f was none x one same plain is set at p = absurd (omega (arith, one))
  fill_one (r ∷ []) now f was none x one same plain is set at p =
      let n : now ≡ with_fields f r ∷ [] = set r refl in
      let w : was ≡ fields_of r = is r refl in
      let placed : ArePlaced made child r f = subst (λ (y : Record). ArePlaced made child y f) at p in (
        ap (with_two was none) n ∙ (λ i. with_fields (w i) (with_fields f r) ∷ []) ∙ ap (λ (y : Record). y ∷ []) (fields_back f r),
        subst (λ (l : List Record). AreFilled child (r ∷ []) l) (sym n) (subst (λ (m : Option ℕ). AreFilledFrom m child (r ∷ []) (with_fields f r ∷ [])) same (filled_one made child r f plain placed)),
        λ goes log runs chained. n ∙ told_one made child log r f plain placed (subst (λ (y : Record). AreChained (log ++ []) made child y f) at (chained (subst (λ (y : Record). IsGoingOn goes log (link_of y)) (sym at) runs.0))),
      )

  -- two, one behind the other
  pub fill_two : (rs mid now front : List Record) (f was g then : Fields) (x y z : Record) → Joins rs → (length rs ≡ 0 → ⊥) → (length rs ≡ 1 → ⊥) → made ≡ made_by rs → list_any is_checkpoint rs ≡ false
      → ((r : Record) → slice_get rs 0 ≡ Some r → was ≡ fields_of r) → ((r : Record) → slice_get rs 0 ≡ Some r → mid ≡ slice_set rs 0 (with_fields f r))
      → ((r : Record) → slice_get mid 1 ≡ Some r → then ≡ fields_of r) → ((r : Record) → slice_get mid 1 ≡ Some r → now ≡ slice_set mid 1 (with_fields g r))
      → x ≡ get_or rs 0 x → y ≡ get_or mid 0 y → z ≡ get_or mid 1 z → front ≡ y ∷ [] → ArePlaced made child x f → ArePlaced made child z g
      → (with_two was then now ≡ rs) × AreFilled child rs now
      × ((goes : ℕ → Bool) (log : List Record) → Each (λ r. IsGoingOn goes log (link_of r)) rs → (IsGoingOn goes log (link_of x) → AreChained (log ++ []) made child x f) → (IsGoingOn goes log (link_of z) → Joins (front ++ z ∷ []) → AreChained (log ++ front) made child z g) → now ≡ fill_all log made child rs)
  fill_two [] mid now front f was g then x y z joins none one same plain is set is2 set2 at at0 at1 fr p p2 = absurd (none refl)
  fill_two (r ∷ []) mid now front f was g then x y z joins none one same plain is set is2 set2 at at0 at1 fr p p2 = absurd (one refl)
  fill_two (r ∷ q ∷ a ∷ rs) mid now front f was g then x y z joins none one same plain is set is2 set2 at at0 at1 fr p p2 = absurd joins
  fill_two (r ∷ q ∷ []) mid now front f was g then x y z joins none one same plain is set is2 set2 at at0 at1 fr p p2 =
      let m : mid ≡ with_fields f r ∷ q ∷ [] = set r refl in
      let second : slice_get mid 1 ≡ Some q = ap (λ (l : List Record). slice_get l 1) m in
      let n : now ≡ with_fields f r ∷ with_fields g q ∷ [] = set2 q second ∙ ap (λ (l : List Record). slice_set l 1 (with_fields g q)) m in
      let w : was ≡ fields_of r = is r refl in
      let w2 : then ≡ fields_of q = is2 q second in
      let placed : ArePlaced made child r f = subst (λ (a : Record). ArePlaced made child a f) at p in
      let y_is : y ≡ with_fields f r = at0 ∙ ap (λ (l : List Record). get_or l 0 y) m in
      let z_is : z ≡ q = at1 ∙ ap (λ (l : List Record). get_or l 1 z) m in
      let placed2 : ArePlaced made child q g = subst (λ (a : Record). ArePlaced made child a g) z_is p2 in
      let fr_is : front ≡ with_fields f r ∷ [] = fr ∙ ap (λ (a : Record). a ∷ []) y_is in
      let plain_r : is_checkpoint r ≡ false = (neither (is_checkpoint r) (list_any is_checkpoint (q ∷ [])) plain).0 in
      let filled_r : with_fields f r ≡ filled made (numbers f child) r = placed_is made child r f plain_r placed in
      let stands : Joins (with_fields f r ∷ q ∷ []) = (ap link_of filled_r ∙ links_same made (numbers f child) r joins.0, ap is_upkeep filled_r ∙ upkeep_same made (numbers f child) r ∙ joins.1, joins.2, joins.3) in (
        ap (with_two was then) n ∙ (λ i. with_fields (w i) (with_fields f r) ∷ with_fields (w2 i) (with_fields g q) ∷ []) ∙ (λ i. fields_back f r i ∷ fields_back g q i ∷ []),
        subst (λ (l : List Record). AreFilled child (r ∷ q ∷ []) l) (sym n) (subst (λ (o : Option ℕ). AreFilledFrom o child (r ∷ q ∷ []) (with_fields f r ∷ with_fields g q ∷ [])) same (filled_two made child r q f g plain placed placed2)),
        λ goes log runs chained chained2.
            let one_is : AreChained (log ++ []) made child r f = subst (λ (a : Record). AreChained (log ++ []) made child a f) at (chained (subst (λ (a : Record). IsGoingOn goes log (link_of a)) (sym at) runs.0)) in
            let two_is : AreChained (log ++ front) made child z g = chained2 (subst (λ (a : Record). IsGoingOn goes log (link_of a)) (sym z_is) runs.1.0) (subst (λ (l : List Record). Joins (l ++ z ∷ [])) (sym fr_is) (subst (λ (a : Record). Joins (with_fields f r ∷ a ∷ [])) (sym z_is) stands)) in
            n ∙ told_two made child log r q f g plain placed placed2 one_is
            (subst (λ (l : List Record). AreChained (log ++ l) made child q g) fr_is (subst (λ (a : Record). AreChained (log ++ front) made child a g) z_is two_is)),
      )
