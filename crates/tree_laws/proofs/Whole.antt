-- Each record keeps the tree, so a sound log has one.
use Rattle.std.proofs.Common.{◌≡◌, ◌≢◌, ℕ, ◌≤◌, suc, Bool, true, false, cond, eqb, List, [], ◌∷◌, ◌++◌, Option, Some, None, refl, sym, ap, subst, ◌∙◌, arith}
use Rattle.std.specs.Prelude.{◌||◌, not, length, IsTrue, is_some}
use Rattle.std.specs.Option.{option_map}
use Rattle.std.specs.FinMap.{get, get-empty}
use Rattle.std.proofs.lemmas.Bool.{eq-eqb, eqb-true, ne_eqb, or_right}
use Rattle.store_model.specs.Operator.{meaning}
use Rattle.wal_record.specs.declared.page.PageState.{PageState}
use Rattle.wal_record.specs.declared.record.Write.{Write}
use Rattle.wal_record.specs.declared.record.Apply.{Apply}
use Rattle.wal_record.specs.declared.record.Undo.{Undo}
use Rattle.wal_record.specs.declared.record.Purge.{Purge}
use Rattle.wal_record.specs.declared.record.Record.{Record}
use Rattle.wal_record.specs.declared.record.Record.TheVariants as kinds
use Rattle.store_model.specs.Along.{along}
use Rattle.wal_record.specs.Contents.{current}
use Rattle.wal_record.specs.State.{page_room, same_key, KeepsState, state_size, branch_rows, child_at, is_child}
use Rattle.wal_record.proofs.Along.{AllAlong_front, by_pushes}
use Rattle.wal_record.proofs.Pushes.{pages_push, current_push, image_push}
use Rattle.log_laws.proofs.Central.{value_after, get-after, equal_key}
use Rattle.std.specs.Option.{option_or}
use Rattle.wal_record.specs.Images.{applied, CanApply, IsApplicable, OnPage, with_value, purged, first_page, grown, lower_half, with_child, without_foster, image}
use Rattle.wal_record.specs.Chains.{names, pages, pages_step}
use Rattle.wal_record.specs.OpenWrites.{has_items}
use Rattle.wal_record.specs.Sound.{LeadsTo, IsLawful, AreLawful}
use Rattle.wal_record.specs.Tree.{Tree}
use Rattle.tree_laws.specs.Tree.{TreeLaw}
use Rattle.wal_record.specs.Rules.{KeepsWrite, KeepsApply, KeepsUndo}
use Rattle.tree_laws.proofs.Meanings.{meaning_fits}
use Rattle.tree_laws.proofs.Counts.{set_page, inside_some}
use Rattle.tree_laws.proofs.LeafKinds.{Tree_value, Tree_purge}
use Rattle.tree_laws.proofs.Start.{Tree_first}
use Rattle.tree_laws.proofs.GrowKind.{Tree_grow}
use Rattle.tree_laws.proofs.SplitKind.{Tree_split}
use Rattle.tree_laws.proofs.AdoptKind.{other, Tree_adopt}
use Rattle.wal_record.specs.declared.record.Grow.{Grow}
use Rattle.wal_record.specs.declared.record.Split.{Split}
use Rattle.wal_record.specs.declared.record.Adopt.{Adopt}

-- ---- one record, over images, the number of pages and values

abbrev pub img_after : Record → (ℕ → Option PageState) → ℕ → Option PageState
img_after r img p = cond (names p r) (applied r p (img p)) (img p)

pub moved : (img img' : ℕ → Option PageState) (n n' : ℕ) (v v' : List ℕ → Option (List ℕ)) → ((p : ℕ) → img p ≡ img' p) → n ≡ n' → ((key : List ℕ) → v key ≡ v' key) → Tree img n v → Tree img' n' v'
moved img img' n n' v v' a b c t =
    let same : img ≡ img' = λ i p. a p i in
    let alike : v ≡ v' = λ i k. c k i in
    subst (λ (x : ℕ → Option PageState). Tree x n' v') same (subst (λ (x : ℕ). Tree img x v') b (subst (λ (x : List ℕ → Option (List ℕ)). Tree img n x) alike t))

-- one page is changed
one_page : (q : ℕ) (s : PageState) (img f : ℕ → Option PageState) → ((p : ℕ) → p ≡ q → f p ≡ Some s) → (p : ℕ) → set_page q s img p ≡ cond (eqb p q) (f p) (img p)
one_page q s img f h p = by (eqb p q) refl
  where
    by : (b : Bool) → eqb p q ≡ b → cond b (Some s) (img p) ≡ cond b (f p) (img p)
    by true e = sym (h p (eqb-true p q e))
    by false e = refl

-- two pages are changed
two_pages : (q c : ℕ) (s t : PageState) (img f g : ℕ → Option PageState) → ((p : ℕ) → p ≡ q → f p ≡ Some s) → ((p : ℕ) → p ≡ c → g p ≡ Some t) → (p : ℕ) → set_page q s (set_page c t img) p ≡ cond (eqb p q || eqb p c) (cond (eqb p q) (f p) (g p)) (img p)
two_pages q c s t img f g hf hg p = by (eqb p q) refl (eqb p c) refl
  where
    by : (a : Bool) → eqb p q ≡ a → (b : Bool) → eqb p c ≡ b → cond a (Some s) (cond b (Some t) (img p)) ≡ cond (a || b) (cond a (f p) (g p)) (img p)
    by true e b h = sym (hf p (eqb-true p q e))
    by false e true h = sym (hg p (eqb-true p c h))
    by false e false h = refl

fit_is : (f : PageState → PageState) (x : Option PageState) (s : PageState) → x ≡ Some s → OnPage (λ t. state_size t ≤ page_room) (option_map f x) → state_size (f s) ≤ page_room
fit_is f x s h o =
    let e : f s ≡ o.0 = inside_some (f s) o.0 (sym (ap (option_map f) h) ∙ o.1) in
    subst (λ (t : PageState). state_size t ≤ page_room) (sym e) o.2

abbrev pub Applicable : Record → (ℕ → Option PageState) → Type 0
Applicable r img = (p : ℕ) → IsTrue (names p r) → IsApplicable r p (img p)

module _ (img : ℕ → Option PageState) (n : ℕ) (v : List ℕ → Option (List ℕ)) (tree : Tree img n v) where
  on_write : (w : Write) → KeepsWrite w → Applicable (kinds.Write w) img → Tree (img_after (kinds.Write w) img) n (λ k. value_after k (v k) (kinds.Write w))
  unfolding applied CanApply
  on_write w fields h =
      let a = h w.page (eq-eqb w.page w.page refl) in
      let s = a.can.0 in
      moved _ _ _ _ _ _ (one_page w.page (with_value w.key w.new s) img (λ p. option_map (with_value w.key w.new) (img p)) (λ p e. ap (option_map (with_value w.key w.new)) (ap img e ∙ a.can.1))) refl (λ k. refl)
      (Tree_value img n v tree w.page s a.can.1 w.key w.new a.can.2.at fields.key fields.new (fit_is (with_value w.key w.new) (img w.page) s a.can.1 a.fits))

  on_undo : (u : Undo) → KeepsUndo u → Applicable (kinds.Undo u) img → Tree (img_after (kinds.Undo u) img) n (λ k. value_after k (v k) (kinds.Undo u))
  unfolding applied CanApply
  on_undo u fields h =
      let a = h u.page (eq-eqb u.page u.page refl) in
      let s = a.can.0 in
      moved _ _ _ _ _ _ (one_page u.page (with_value u.key u.restores s) img (λ p. option_map (with_value u.key u.restores) (img p)) (λ p e. ap (option_map (with_value u.key u.restores)) (ap img e ∙ a.can.1))) refl (λ k. refl)
      (Tree_value img n v tree u.page s a.can.1 u.key u.restores a.can.2.at fields.key fields.restores (fit_is (with_value u.key u.restores) (img u.page) s a.can.1 a.fits))

  meant : (m : Option (List ℕ)) (old : Option (List ℕ)) → is_some m ≡ true → m ≡ option_or m old
  meant None old h = absurd cc
  meant (Some x) old h = refl

  on_apply : (a : Apply) → KeepsApply a → Applicable (kinds.Apply a) img → Tree (img_after (kinds.Apply a) img) n (λ k. value_after k (v k) (kinds.Apply a))
  unfolding applied CanApply
  on_apply a fields h =
      let c = h a.page (eq-eqb a.page a.page refl) in
      let s = c.can.0.0 in
      let m = meaning a.operator a.old a.argument in
      let w = c.can.0.2 in
      let old : a.old ≡ v a.key = sym w.value ∙ tree.values a.key (record { page = a.page; state = s; image = c.can.0.1; leaf = w.at.leaf; own = w.at.own }) in
      moved _ _ _ _ _ _ (one_page a.page (with_value a.key m s) img (λ p. option_map (with_value a.key m) (img p)) (λ p e. ap (option_map (with_value a.key m)) (ap img e ∙ c.can.0.1))) refl (λ k. by k old c.can.1 (same_key k a.key) refl)
      (Tree_value img n v tree a.page s c.can.0.1 a.key m w.at fields.key (meaning_fits a.operator a.old a.argument) (fit_is (with_value a.key m) (img a.page) s c.can.0.1 c.fits))
    where
      by : (k : List ℕ) → a.old ≡ v a.key → is_some (meaning a.operator a.old a.argument) ≡ true → (b : Bool) → same_key k a.key ≡ b → cond b (meaning a.operator a.old a.argument) (v k) ≡ cond b (option_or (meaning a.operator (v k) a.argument) (v k)) (v k)
      by k old some true e =
          let same : a.old ≡ v k = old ∙ ap v (sym (equal_key k a.key e)) in
          meant _ (v k) some ∙ ap (λ (x : Option (List ℕ)). option_or (meaning a.operator x a.argument) (v k)) same
      by k old some false e = refl

  on_purge : (g : Purge) → Applicable (kinds.Purge g) img → Tree (img_after (kinds.Purge g) img) n v
  unfolding applied CanApply
  on_purge g h =
      let a = h g.page (eq-eqb g.page g.page refl) in
      let s = a.can.0 in
      moved _ _ _ _ _ _ (one_page g.page (purged s) img (λ p. option_map purged (img p)) (λ p e. ap (option_map purged) (ap img e ∙ a.can.1))) refl (λ k. refl)
      (Tree_purge img n v tree g.page s a.can.1 a.can.2.leaf (fit_is purged (img g.page) s a.can.1 a.fits))

  on_grow : (g : Grow) → g.child ≡ suc n → is_child g.child ≡ true → Applicable (kinds.Grow g) img → Tree (img_after (kinds.Grow g) img) (suc n) v
  unfolding applied CanApply
  on_grow g new child h =
      let a = h 1 refl in
      let o = a.can.0 refl in
      let s = o.0 in
      let size : state_size (grown g.child s) ≤ page_room = fit_is (grown g.child) (img 1) s o.1 a.fits in
      let grows : Tree (set_page 1 (grown g.child s) (set_page g.child s img)) (suc n) v = subst (λ (c : ℕ). is_child c ≡ true → state_size (grown c s) ≤ page_room → Tree (set_page 1 (grown c s) (set_page c s img)) (suc n) v) (sym new) (λ c z. Tree_grow img n v tree s o.1 o.2.level c z) child size in
      moved _ _ _ _ _ _ (two_pages 1 g.child (grown g.child s) s img (λ p. option_map (grown g.child) (img p)) (λ p. Some g.child_state) (λ p e. ap (option_map (grown g.child)) (ap img e ∙ o.1)) (λ p e. ap Some o.2.child)) refl (λ k. refl) grows

  on_split : (x : Split) → x.child ≡ suc n → is_child x.child ≡ true → KeepsState x.child_state → Applicable (kinds.Split x) img → Tree (img_after (kinds.Split x) img) (suc n) v
  unfolding applied CanApply
  on_split x new child rules h =
      let same = eq-eqb x.page x.page refl in
      let a = h x.page (ap (λ (b : Bool). b || eqb x.page x.child) same) in
      let o = a.can.0 refl in
      let s = o.0 in
      let fits = subst (λ (b : Bool). OnPage (λ t. state_size t ≤ page_room) (cond b (option_map (lower_half x) (img x.page)) (Some x.child_state))) same a.fits in
      moved _ _ _ _ _ _ (two_pages x.page x.child (lower_half x s) x.child_state img (λ p. option_map (lower_half x) (img p)) (λ p. Some x.child_state) (λ p e. ap (option_map (lower_half x)) (ap img e ∙ o.1)) (λ p e. refl)) refl (λ k. refl)
      (Tree_split img n v tree x.page s o.1 x o.2 rules new child (fit_is (lower_half x) (img x.page) s o.1 fits))

  on_adopt : (a : Adopt) → OnPage (LeadsTo a.key a.fosterer) (img a.parent) → Applicable (kinds.Adopt a) img → Tree (img_after (kinds.Adopt a) img) n v
  unfolding applied CanApply
  on_adopt a cov h =
      let same = eq-eqb a.parent a.parent refl in
      let hp = h a.parent (ap (λ (b : Bool). b || eqb a.parent a.fosterer) same) in
      let hf = h a.fosterer (or_right _ _ (eq-eqb a.fosterer a.fosterer refl)) in
      let o = hp.can.0 refl in
      let o' = hf.can.1 refl in
      let s = o.0 in
      let u = o'.0 in
      let c : child_at a.key (branch_rows s.rows) ≡ Some a.fosterer = ap (λ (x : PageState). child_at a.key (branch_rows x.rows)) (inside_some s cov.0 (sym o.1 ∙ cov.1)) ∙ cov.2 in
      let differ : a.parent ≢ a.fosterer = other img n v tree a s u o.1 o'.1 o.2 o'.2 c in
      let pick = λ (p : ℕ) (b : Bool). OnPage (λ t. state_size t ≤ page_room) (cond b (option_map (with_child a) (img p)) (option_map (without_foster a) (img p))) in
      let fits : OnPage (λ t. state_size t ≤ page_room) (option_map (with_child a) (img a.parent)) = subst (pick a.parent) same hp.fits in
      let fits' : OnPage (λ t. state_size t ≤ page_room) (option_map (without_foster a) (img a.fosterer)) = subst (pick a.fosterer) (ne_eqb a.fosterer a.parent (λ e. differ (sym e))) hf.fits in
      moved _ _ _ _ _ _ (two_pages a.parent a.fosterer (with_child a s) (without_foster a u) img (λ p. option_map (with_child a) (img p)) (λ p. option_map (without_foster a) (img p)) (λ p e. ap (option_map (with_child a)) (ap img e ∙ o.1)) (λ p e. ap (option_map (without_foster a)) (ap img e ∙ o'.1))) refl (λ k. refl)
      (Tree_adopt img n v tree a s u o.1 o'.1 o.2 o'.2 c (fit_is (with_child a) (img a.parent) s o.1 fits) (fit_is (without_foster a) (img a.fosterer) u o'.1 fits'))

-- ---- over whole logs

abbrev pub TreeOf : List Record → Type 0
TreeOf log = Tree (image log) (pages log) (λ key. get (current log) key)

arrive : (log : List Record) (r : Record) → Tree (img_after r (image log)) (pages_step (pages log) r) (λ k. value_after k (get (current log) k) r) → TreeOf (log ++ r ∷ [])
arrive log r t = moved _ _ _ _ _ _ (λ p. sym (image_push log r p)) (sym (pages_push log r)) (λ k. sym (ap (λ m. get m k) (current_push log r) ∙ get-after (current log) k r)) t

none_image : (p : ℕ) → image [] p ≡ None
unfolding image along
none_image p = refl

none_pages : pages [] ≡ 0
unfolding pages along
none_pages = refl

none_now : (key : List ℕ) → get (current []) key ≡ None
unfolding current along
none_now key = get-empty _ key

none_before : (log : List Record) → log ≡ [] → ((p : ℕ) → image log p ≡ None) × (pages log ≡ 0) × ((key : List ℕ) → get (current log) key ≡ None)
none_before log e = subst (λ (x : List Record). ((p : ℕ) → image x p ≡ None) × (pages x ≡ 0) × ((key : List ℕ) → get (current x) key ≡ None)) (sym e) start
  where
    start : ((p : ℕ) → image [] p ≡ None) × (pages [] ≡ 0) × ((key : List ℕ) → get (current []) key ≡ None)
    start = (λ p. none_image p, none_pages, none_now)

-- a record that isn't Format comes after others, and Format after none
some_before : (log : List Record) → false ≡ not (has_items log) → log ≢ []
some_before [] e n = cc
some_before (r ∷ rs) e n = let x : suc (length rs) ≡ 0 = ap length n in absurd (omega (arith, x))

none_there : (log : List Record) → true ≡ not (has_items log) → log ≡ []
none_there [] e = refl
none_there (r ∷ rs) e = absurd cc

tree_more : (log : List Record) (r : Record) → IsLawful log r → (log ≢ [] → TreeOf log) → TreeOf (log ++ r ∷ [])
unfolding applied
tree_more log (kinds.Format f) h before =
    let n = none_before log (none_there log h.first) in
    arrive log (kinds.Format f) (moved _ _ _ _ _ _ (one_page 1 first_page (image log) (λ p. Some first_page) (λ p e. refl)) (ap suc (sym n.1)) (λ k. sym (n.2 k)) (Tree_first (image log) n.0))
tree_more log (kinds.Write w) h before = arrive log (kinds.Write w) (on_write _ _ _ (before (some_before log h.first)) w h.fields h.applicable)
tree_more log (kinds.Apply a) h before = arrive log (kinds.Apply a) (on_apply _ _ _ (before (some_before log h.first)) a h.fields h.applicable)
tree_more log (kinds.Undo u) h before = arrive log (kinds.Undo u) (on_undo _ _ _ (before (some_before log h.first)) u h.fields h.applicable)
tree_more log (kinds.Purge g) h before = arrive log (kinds.Purge g) (on_purge _ _ _ (before (some_before log h.first)) g h.applicable)
tree_more log (kinds.Split x) h before = arrive log (kinds.Split x) (on_split _ _ _ (before (some_before log h.first)) x h.place h.fields.child h.fields.child_state h.applicable)
tree_more log (kinds.Adopt a) h before = arrive log (kinds.Adopt a) (on_adopt _ _ _ (before (some_before log h.first)) a h.place h.applicable)
tree_more log (kinds.Grow g) h before = arrive log (kinds.Grow g) (on_grow _ _ _ (before (some_before log h.first)) g h.place h.fields.child h.applicable)
tree_more log (kinds.Commit c) h before = arrive log (kinds.Commit c) (before (some_before log h.first))
tree_more log (kinds.End c) h before = arrive log (kinds.End c) (before (some_before log h.first))
tree_more log (kinds.Written c) h before = arrive log (kinds.Written c) (before (some_before log h.first))
tree_more log (kinds.Checkpoint c) h before = arrive log (kinds.Checkpoint c) (before (some_before log h.first))
tree_more log (kinds.BackupDone c) h before = arrive log (kinds.BackupDone c) (before (some_before log h.first))
tree_more log (kinds.RunDone c) h before = arrive log (kinds.RunDone c) (before (some_before log h.first))
tree_more log (kinds.Lost c) h before = arrive log (kinds.Lost c) (before (some_before log h.first))
tree_more log (kinds.Restored c) h before = arrive log (kinds.Restored c) (before (some_before log h.first))

pub tree : (log : List Record) → TreeLaw log
tree = by_pushes (λ log. AreLawful log → log ≢ [] → TreeOf log) (λ s n. absurd (n refl)) (λ log r before sound n. let parts = AllAlong_front IsLawful log r sound in tree_more log r parts.1 (before parts.0))
