-- The entering laws.
use Rattle.std.proofs.Common.{◌≡◌, ◌≢◌, ℕ, zero, suc, ◌+◌, ◌-◌, ◌<◌, ◌≤◌, Bool, true, false, cond, eqb, List, [], ◌∷◌, ◌++◌, length, Option, Some, None, refl, sym, ap, ◌∙◌, arith}
use Rattle.std.specs.Prelude.{◌||◌, is_some, slice_get}
use Rattle.std.specs.Option.{option_map}
use Rattle.std.specs.FinMap as finite
use Rattle.std.proofs.lemmas.Bool.{eq-eqb, eqb-true, ne_eqb}
use Rattle.wal_record.specs.State.{KeepsState, own_end, own_part, end_by, has_own, text_of, is_child, state_size, page_room, free_bytes, branch_rows}
use Rattle.wal_record.specs.Chains.{names, head, pages, link_of, pages_step}
use Rattle.wal_record.specs.Contents.{current}
use Rattle.store_model.specs.Operator.{meaning}
use Rattle.wal_record.specs.Images.{image, applied, CanApply, IsApplicable, Fits, lower_half, grown, with_child, without_foster, purged, with_value}
use Rattle.wal_record.specs.Sound.{IsLawful, AreLawful}
use Rattle.wal_record.specs.Tree.{Pointer, fence_of, row_pointers, Tree}
use Rattle.wal_record.specs.declared.page.PageState.{PageState}
use Rattle.wal_record.specs.declared.page.BranchRow.{BranchRow}
use Rattle.wal_record.specs.declared.record.Adopt.{Adopt}
use Rattle.wal_record.specs.declared.record.Grow.{Grow}
use Rattle.wal_record.specs.declared.record.Purge.{Purge}
use Rattle.wal_record.specs.declared.record.Split.{Split}
use Rattle.wal_record.specs.declared.record.Record.{Record}
use Rattle.wal_record.specs.declared.record.Record.TheVariants as kinds
use Rattle.wal_record.proofs.Pushes.{lawful_back, pages_push, image_push, head_push}
use Rattle.log_laws.proofs.Beginnings.{structure}
use Rattle.tree_laws.proofs.Counts.{inside_some}
use Rattle.tree_laws.proofs.GrowKind.{not_made}
use Rattle.tree_laws.proofs.Whole.{tree}
use Rattle.foster_laws.specs.Splits.{Halves, LeafHalves}
use Rattle.store_model.specs.Range.{is_below}
use Rattle.tree_laws.proofs.Keys.{in_parts, in_from}
use Rattle.tree_laws.proofs.BranchLaws.{low_some}
use Rattle.foster_laws.specs.Grows.{Grown}
use Rattle.foster_laws.specs.Adopts.{Adopted}
use Rattle.foster_laws.specs.Enters.{Entered, SplitPages, SplitEnters, half_page, HalfOf, HalfLaw, PurgeEnters, GrowEntered, GrowEnters, HasFosterer, AdoptEntered, AdoptEnters, LeafEntered, LeafEnters}
use Rattle.foster_laws.proofs.Growing.{grow}
use Rattle.foster_laws.proofs.Adopting.{adopt}
use Rattle.foster_laws.proofs.Room.{limit_same, pending_same}

-- ---- any of them

-- a record that names no transaction, and makes so many pages
entered : (log : List Record) (r : Record) (more : ℕ) → AreLawful log → log ≢ [] → link_of r ≡ None → pages_step (pages log) r ≡ pages log + more → IsLawful log r → Entered log r more
entered log r more lawful some none step rule =
    let p : pages (log ++ r ∷ []) ≡ pages log + more = pages_push log r ∙ step in
    let w = pending_same log r none in
    let s = structure log r in
    record {
      lawful = lawful_back log r lawful rule;
      limit = limit_same log r some;
      pages = p;
      used = omega (arith, p, w);
      current = s.current none;
      committed = s.committed none;
      open_writes = s.open_writes none;
    }

-- the page p after the record
pub image_at : (log : List Record) (r : Record) (p : ℕ) → names p r ≡ true → image (log ++ r ∷ []) p ≡ applied r p (image log p)
image_at log r p n = image_push log r p ∙ ap (λ (b : Bool). cond b (applied r p (image log p)) (image log p)) n

pub image_off : (log : List Record) (r : Record) (p : ℕ) → names p r ≡ false → image (log ++ r ∷ []) p ≡ image log p
image_off log r p n = image_push log r p ∙ ap (λ (b : Bool). cond b (applied r p (image log p)) (image log p)) n

-- a page that the record names has it as its last one
pub last_at : (log : List Record) (r : Record) (p : ℕ) → names p r ≡ true → head (log ++ r ∷ []) p ≡ length log + 1
last_at log r p n = head_push log r p ∙ ap (λ (b : Bool). cond b (length log + 1) (head log p)) n

same_or : (p q : ℕ) (b : Bool) → p ≡ q → (eqb p q || b) ≡ true
same_or p q b e = ap (λ (x : Bool). x || b) (eq-eqb p q e)

or_same : (a : Bool) (p q : ℕ) → p ≡ q → (a || eqb p q) ≡ true
or_same true p q e = refl
or_same false p q e = eq-eqb p q e

neither : (p q r : ℕ) → p ≢ q → p ≢ r → (eqb p q || eqb p r) ≡ false
neither p q r a b = ap (λ (x : Bool). x || eqb p r) (ne_eqb p q a) ∙ ne_eqb p r b

-- one page, or the other
pub on_two : (p q r : ℕ) (img : ℕ → Option PageState) (A B : Option PageState → Option PageState) (s t : PageState) → q ≢ r → A (img q) ≡ Some s → B (img r) ≡ Some t → state_size s ≤ page_room → state_size t ≤ page_room → (eqb p q || eqb p r) ≡ true
    → Fits (cond (eqb p q) (A (img p)) (B (img p)))
on_two p q r img A B s t apart a b fs ft n = by (eqb p q) refl n
  where
    by : (x : Bool) → eqb p q ≡ x → (x || eqb p r) ≡ true → Fits (cond x (A (img p)) (B (img p)))
    by true e m = (s, ap (λ (k : ℕ). A (img k)) (eqb-true p q e) ∙ a, fs)
    by false e m = (t, ap (λ (k : ℕ). B (img k)) (eqb-true p r m) ∙ b, ft)

-- ---- splits

module _ (log : List Record) (x : Split) (s : PageState) (lawful : AreLawful log) (some : log ≢ []) (there : image log x.page ≡ Some s) (number : x.child ≡ suc (pages log)) where
  abbrev the_split : Record
  the_split = kinds.Split x

  split_tree : Tree (image log) (pages log) (λ key. finite.get (current log) key)
  split_tree = tree log lawful some

  pub split_inside : (1 ≤ x.page) × (x.page ≤ pages log)
  split_inside = split_tree.inside x.page s there

  split_fresh : image log x.child ≡ None
  split_fresh = not_made (image log) (pages log) _ split_tree x.child (omega (arith, number))

  split_apart : x.page ≢ x.child
  split_apart e = let i = split_inside in omega (arith, e, number, i.1)

  pub split_applicable : Halves x s → (p : ℕ) → names p the_split ≡ true → IsApplicable the_split p (image log p)
  unfolding applied CanApply
  split_applicable halves p n = record {
    can = (λ e. (s, ap (image log) e ∙ there, halves.can), λ e. ap (image log) e ∙ split_fresh);
    fits = on_two p x.page x.child (image log) (option_map (lower_half x)) (λ o. Some x.child_state) (lower_half x s) x.child_state split_apart (ap (option_map (lower_half x)) there) refl halves.lower.size halves.upper.size n;
  }

  pub split_pages : SplitPages log x s
  unfolding applied
  split_pages = record {
    page = image_at log the_split x.page (same_or x.page x.page (eqb x.page x.child) refl)
        ∙ ap (λ (b : Bool). cond b (option_map (lower_half x) (image log x.page)) (Some x.child_state)) (eq-eqb x.page x.page refl)
        ∙ ap (option_map (lower_half x)) there;
    child = image_at log the_split x.child (or_same (eqb x.child x.page) x.child x.child refl)
        ∙ ap (λ (b : Bool). cond b (option_map (lower_half x) (image log x.child)) (Some x.child_state)) (ne_eqb x.child x.page (λ e. split_apart (sym e)));
    page_last = last_at log the_split x.page (same_or x.page x.page (eqb x.page x.child) refl);
    child_last = last_at log the_split x.child (or_same (eqb x.child x.page) x.child x.child refl);
    others = λ p a b. image_off log the_split p (neither p x.page x.child a b);
  }

pub split_enters : (log : List Record) (x : Split) (s : PageState) → SplitEnters log x s
split_enters log x s = record {
  pages = λ lawful some there number. split_pages log x s lawful some there number;
  entered = λ lawful some there rule. record { entered = entered log (kinds.Split x) 1 lawful some refl (omega arith) rule; pages = split_pages log x s lawful some there rule.place };
}

-- ---- the half of a key

module _ (log : List Record) (x : Split) (s : PageState) (key : List ℕ) (split : SplitPages log x s) (halves : LeafHalves x s) (own : has_own s key ≡ true) where
  low_is : x.child_state.low ≡ Some (text_of x.child_state.low)
  low_is = low_some x.child_state.low x.child_state.high halves.halves.upper.fences

  half_of : HalfOf log x s key
  half_of = by (is_below (Some key) x.child_state.low) refl (in_parts (own_part s) key own)
    where
      place : (b : Bool) → is_below (Some key) x.child_state.low ≡ b → half_page x key ≡ cond b x.page x.child
      place b e = ap (λ (b : Bool). cond b x.page x.child) e

      by : (b : Bool) → is_below (Some key) x.child_state.low ≡ b → (is_below (Some key) s.low ≡ false) × (is_below (Some key) (own_end s) ≡ true) → HalfOf log x s key
      by true e inside = record {
        state = lower_half x s;
        image = ap (image (log ++ kinds.Split x ∷ [])) (place true e) ∙ split.page;
        last = ap (head (log ++ kinds.Split x ∷ [])) (place true e) ∙ split.page_last;
        at = record { leaf = halves.lower_leaf; own = in_from (own_part (lower_half x s)) key inside.0 (ap (is_below (Some key)) (sym low_is) ∙ e) };
        room = halves.lower_room;
        value = halves.lower_values key e;
      }
      by false e inside = record {
        state = x.child_state;
        image = ap (image (log ++ kinds.Split x ∷ [])) (place false e) ∙ split.child;
        last = ap (head (log ++ kinds.Split x ∷ [])) (place false e) ∙ split.child_last;
        at = record { leaf = halves.upper_leaf; own = in_from (own_part x.child_state) key e (ap (is_below (Some key)) (sym same_end) ∙ inside.1) };
        room = halves.upper_room;
        value = halves.upper_values key e;
      }
        where
          same_end : own_end s ≡ own_end x.child_state
          same_end = λ i. end_by (sym halves.halves.can.foster i) (sym halves.halves.can.high i)

pub half_law : (log : List Record) (x : Split) (s : PageState) (key : List ℕ) → HalfLaw log x s key
half_law log x s key = record { half = λ split halves own. half_of log x s key split halves own }

-- ---- purges

pub purge_enters : (log : List Record) (x : Purge) (s : PageState) → PurgeEnters log x s
unfolding applied
purge_enters log x s = record {
  entered = λ lawful some there rule. record {
    entered = entered log (kinds.Purge x) 0 lawful some refl (omega arith) rule;
    page = image_at log (kinds.Purge x) x.page (eq-eqb x.page x.page refl) ∙ ap (option_map purged) there;
    last = last_at log (kinds.Purge x) x.page (eq-eqb x.page x.page refl);
    others = λ p a. image_off log (kinds.Purge x) p (ne_eqb p x.page a);
  };
}

-- ---- grown roots

module _ (log : List Record) (g : Grow) (s : PageState) (lawful : AreLawful log) (some : log ≢ []) (there : image log 1 ≡ Some s) (is : g.child_state ≡ s) (number : g.child ≡ suc (pages log)) where
  abbrev the_growth : Record
  the_growth = kinds.Grow g

  grow_tree : Tree (image log) (pages log) (λ key. finite.get (current log) key)
  grow_tree = tree log lawful some

  pub grow_keeps : KeepsState s
  grow_keeps = grow_tree.keeps 1 s there

  grow_fresh : image log g.child ≡ None
  grow_fresh = not_made (image log) (pages log) _ grow_tree g.child (omega (arith, number))

  grow_apart : 1 ≢ g.child
  grow_apart e = let i = grow_tree.some in omega (arith, e, number, i)

  -- the old root, as the only child of the new one
  pub grown_root : is_some s.foster ≡ true → s.level < 255 → is_child g.child ≡ true → Grown g s
  grown_root foster level child = let r = grow_tree.root s there in (grow s g).root grow_keeps r.0 r.1 foster level is child

  pub grow_applicable : Grown g s → (p : ℕ) → names p the_growth ≡ true → IsApplicable the_growth p (image log p)
  unfolding applied CanApply
  grow_applicable made p n = record {
    can = (λ e. (s, ap (image log) e ∙ there, made.can), λ e. ap (image log) e ∙ grow_fresh);
    fits = on_two p 1 g.child (image log) (option_map (grown g.child)) (λ o. Some g.child_state) (grown g.child s) s grow_apart (ap (option_map (grown g.child)) there) (ap (λ (t : PageState). Some t) is) made.keeps.size grow_keeps.size n;
  }

  grow_entered : IsLawful log the_growth → GrowEntered log g s
  unfolding applied
  grow_entered rule = record {
    entered = entered log the_growth 1 lawful some refl (omega arith) rule;
    root = image_at log the_growth 1 refl ∙ ap (option_map (grown g.child)) there;
    child = image_at log the_growth g.child (or_same (eqb g.child 1) g.child g.child refl)
        ∙ ap (λ (b : Bool). cond b (option_map (grown g.child) (image log g.child)) (Some g.child_state)) (ne_eqb g.child 1 (λ e. grow_apart (sym e)))
        ∙ ap (λ (t : PageState). Some t) is;
    root_last = last_at log the_growth 1 refl;
    child_last = last_at log the_growth g.child (or_same (eqb g.child 1) g.child g.child refl);
    others = λ p a b. image_off log the_growth p (neither p 1 g.child a b);
  }

pub grow_enters : (log : List Record) (g : Grow) (s : PageState) → GrowEnters log g s
grow_enters log g s = record { entered = λ lawful some there is rule. grow_entered log g s lawful some there is rule.place rule }

-- ---- adopted children

-- every slot promises the level below
pub slot_level : (l : ℕ) (end : Option (List ℕ)) (rows : List BranchRow) (i : ℕ) (x : Pointer) → slice_get (row_pointers l end rows) i ≡ Some x → x.fence.level ≡ l
slot_level l end [] i x e = absurd cc
slot_level l end (row ∷ rows) zero x e = sym (ap (λ (y : Pointer). y.fence.level) (inside_some _ x e))
slot_level l end (row ∷ rows) (suc i) x e = slot_level l end rows i x e

module _ (log : List Record) (a : Adopt) (s f : PageState) (i : ℕ) (lawful : AreLawful log) (some : log ≢ []) (has : HasFosterer log a s f i) where
  abbrev the_adoption : Record
  the_adoption = kinds.Adopt a

  adopt_tree : Tree (image log) (pages log) (λ key. finite.get (current log) key)
  adopt_tree = tree log lawful some

  pub adopt_inside : ((1 ≤ a.parent) × (a.parent ≤ pages log)) × ((1 ≤ a.fosterer) × (a.fosterer ≤ pages log))
  adopt_inside = (adopt_tree.inside a.parent s has.parent, adopt_tree.inside a.fosterer f has.fosterer)

  pub adopted : Adopted a s f i
  adopted = (adopt a s f i).parent (adopt_tree.keeps a.parent s has.parent) has.branch (adopt_tree.keeps a.fosterer f has.fosterer) has.foster has.slot

  adopt_level : f.level ≡ s.level - 1
  adopt_level = slot_level (s.level - 1) (own_end s) (branch_rows s.rows) i (record { child = a.fosterer; fence = fence_of f }) has.slot

  adopt_apart : a.parent ≢ a.fosterer
  adopt_apart e =
      let same : s ≡ f = inside_some s f (sym has.parent ∙ ap (image log) e ∙ has.fosterer) in
      let x : s.level ≡ f.level = ap (λ (y : PageState). y.level) same in
      let y : f.level ≡ s.level - 1 = adopt_level in
      let z : 1 ≤ s.level = adopted.takes.level in
      omega (arith, x, y, z)

  pub adopt_applicable : 5 + length a.key ≤ free_bytes s → (p : ℕ) → names p the_adoption ≡ true → IsApplicable the_adoption p (image log p)
  unfolding applied CanApply
  adopt_applicable enough p n = record {
    can = (λ e. (s, ap (image log) e ∙ has.parent, adopted.takes), λ e. (f, ap (image log) e ∙ has.fosterer, adopted.gives));
    fits = on_two p a.parent a.fosterer (image log) (option_map (with_child a)) (option_map (without_foster a)) (with_child a s) (without_foster a f) adopt_apart
        (ap (option_map (with_child a)) has.parent) (ap (option_map (without_foster a)) has.fosterer) (adopted.parent_keeps enough).size adopted.fosterer_keeps.size n;
  }

  adopt_entered : IsLawful log the_adoption → AdoptEntered log a s f
  unfolding applied
  adopt_entered rule = record {
    entered = entered log the_adoption 0 lawful some refl (omega arith) rule;
    parent = image_at log the_adoption a.parent (same_or a.parent a.parent (eqb a.parent a.fosterer) refl)
        ∙ ap (λ (b : Bool). cond b (option_map (with_child a) (image log a.parent)) (option_map (without_foster a) (image log a.parent))) (eq-eqb a.parent a.parent refl)
        ∙ ap (option_map (with_child a)) has.parent;
    fosterer = image_at log the_adoption a.fosterer (or_same (eqb a.fosterer a.parent) a.fosterer a.fosterer refl)
        ∙ ap (λ (b : Bool). cond b (option_map (with_child a) (image log a.fosterer)) (option_map (without_foster a) (image log a.fosterer))) (ne_eqb a.fosterer a.parent (λ e. adopt_apart (sym e)))
        ∙ ap (option_map (without_foster a)) has.fosterer;
    parent_last = last_at log the_adoption a.parent (same_or a.parent a.parent (eqb a.parent a.fosterer) refl);
    fosterer_last = last_at log the_adoption a.fosterer (or_same (eqb a.fosterer a.parent) a.fosterer a.fosterer refl);
    others = λ p b c. image_off log the_adoption p (neither p a.parent a.fosterer b c);
  }

pub adopt_enters : (log : List Record) (a : Adopt) (s f : PageState) (i : ℕ) → AdoptEnters log a s f i
adopt_enters log a s f i = record { entered = λ lawful some has rule. adopt_entered log a s f i lawful some has rule }

-- ---- writes

-- the record changes this page, and no other one
record OnlyPage (r : Record) (page : ℕ) (change : PageState → PageState) : Type 0 where
  names : (p : ℕ) → names p r ≡ eqb p page
  does : (p : ℕ) (o : Option PageState) → applied r p o ≡ option_map change o
  pages : (n : ℕ) → pages_step n r ≡ n

leaf_entered : (log : List Record) → AreLawful log → log ≢ [] → (r : Record) (page : ℕ) (change : PageState → PageState) → OnlyPage r page change → (s : PageState) → image log page ≡ Some s → IsLawful log r → LeafEntered log r page (change s)
leaf_entered log lawful some r page change only s there rule = record {
  lawful = lawful_back log r lawful rule;
  is = image_at log r page (only.names page ∙ eq-eqb page page refl) ∙ only.does page (image log page) ∙ ap (option_map change) there;
  last = last_at log r page (only.names page ∙ eq-eqb page page refl);
  others = λ p d. image_off log r p (only.names p ∙ ne_eqb p page d);
  limit = limit_same log r some;
  pages = pages_push log r ∙ only.pages (pages log);
}

pub leaf_enters : (log : List Record) (s : PageState) → LeafEnters log s
unfolding applied
leaf_enters log s = record {
  write = λ lawful some w. leaf_entered log lawful some (kinds.Write w) w.page (with_value w.key w.new) (record { names = λ p. refl; does = λ p o. refl; pages = λ n. refl }) s;
  apply = λ lawful some a. leaf_entered log lawful some (kinds.Apply a) a.page (with_value a.key (meaning a.operator a.old a.argument)) (record { names = λ p. refl; does = λ p o. refl; pages = λ n. refl }) s;
  undo = λ lawful some u. leaf_entered log lawful some (kinds.Undo u) u.page (with_value u.key u.restores) (record { names = λ p. refl; does = λ p o. refl; pages = λ n. refl }) s;
}
