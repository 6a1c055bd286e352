-- From a change of a state to a record redone on a page.
use Rattle.std.proofs.Common.{◌≡◌, ℕ, ◌≤◌, Bool, true, false, cond, eqb, Option, Some, None, Result, Ok, Err, IfOk, refl, sym, ap, subst, ◌∙◌, arith}
use Rattle.std.specs.Prelude.{IsTrue, ◌||◌, not}
use Rattle.std.specs.Option.{option_map}
use Rattle.std.proofs.lemmas.Bool.Decides.{nat_tests}
use Rattle.store_model.specs.declared.fault.Memory.{Memory}
use Rattle.store_model.specs.Range.{is_below}
use Rattle.store_model.specs.Operator.{meaning}
use Rattle.store_model.proofs.Bools.{not_both, both_true}
use Rattle.wal_record.specs.Chains.{names}
use Rattle.wal_record.specs.State.{state_size, page_room, end_by}
use Rattle.wal_record.specs.Images.{applied, CanApply, OnPage, Fits, first_page, with_value, purged, lower_half, with_child, without_foster, grown, CanWrite, CanUndo, CanSplit, CanTakeChild, CanGiveChild, CanGrow, CanPurge}
use Rattle.wal_record.specs.declared.page.PageState.{PageState}
use Rattle.wal_record.specs.declared.page.Foster.{Foster}
use Rattle.wal_record.specs.declared.record.Format.{Format}
use Rattle.wal_record.specs.declared.record.Write.{Write}
use Rattle.wal_record.specs.declared.record.Apply.{Apply}
use Rattle.wal_record.specs.declared.record.Undo.{Undo}
use Rattle.wal_record.specs.declared.record.Split.{Split}
use Rattle.wal_record.specs.declared.record.Adopt.{Adopt}
use Rattle.wal_record.specs.declared.record.Grow.{Grow}
use Rattle.wal_record.specs.declared.record.Purge.{Purge}
use Rattle.wal_record.specs.declared.record.Record.{Record}
use Rattle.wal_record.specs.declared.record.Record.TheVariants as kinds
use Rattle.page_rows.specs.Redo.{Redone, Applied, Changed, OnImage, CanApplyTo, Made}
use Rattle.page_rows.proofs.Spots.{below_itself}

-- ---- a page that may have no image

module _ (May : PageState → Type 0) (change : PageState → PageState) where
  state_is : (s t : PageState) → ◌≡◌ {A = Option PageState} (Some s) (Some t) → s ≡ t
  state_is s t e = cc

  pub on_some : (s t : PageState) (b : Bool) → Changed May change s t b → OnImage May change (Some s) (Some t) b
  on_some s t true h = ((s, refl, h.0), (change s, refl, h.1), ap (λ (x : PageState). Some x) h.2)
  on_some s t false h = (
    λ may fits.
        let m : May s = subst May (sym (state_is s may.0 may.1)) may.2 in
        let f : state_size (change s) ≤ page_room = subst (λ (x : PageState). state_size x ≤ page_room) (sym (state_is (change s) fits.0 fits.1)) fits.2 in
        let over = h.0 m in
        omega arith,
    ap (λ (x : PageState). Some x) h.1,
  )

  pub on_none : OnImage May change None None false
  on_none = (λ may fits. never may.0 may.1, refl)
    where
      never : (s : PageState) → ◌≡◌ {A = Option PageState} None (Some s) → ⊥
      never s e = absurd cc

-- ---- a record

module _ (r : Record) (p : ℕ) (old new : Option PageState) where
  pub applied_on : (May : PageState → Type 0) (change : PageState → PageState) → (CanApply r p old → OnPage May old) → (OnPage May old → CanApply r p old) → applied r p old ≡ option_map change old
      → (b : Bool) → OnImage May change old new b → Applied r p old new b
  applied_on May change into from e true h = (record { can = from h.0; fits = subst Fits (sym e) h.1 }, h.2 ∙ sym e)
  applied_on May change into from e false h = (λ a. h.0 (into a.can) (subst Fits e a.fits), h.1)

  pub applied_made : (made : PageState) → (CanApply r p old → old ≡ None) → (old ≡ None → CanApply r p old) → applied r p old ≡ Some made → state_size made ≤ page_room
      → (b : Bool) → Made made old new b → Applied r p old new b
  applied_made made into from e size true h = (record { can = from h.0; fits = (made, e, size) }, h.1 ∙ sym e)
  applied_made made into from e size false h = (λ a. h.0 (into a.can), h.1)

  pub redone : (b : Bool) → IsTrue (names p r) → Applied r p old new b → Redone r p old new b
  redone true n h = (record { names = n; applicable = h.0 }, h.1)
  redone false n h = (λ a. h.0 a.applicable, h.1)

-- ---- the kinds

pub format_applied : (f : Format) (p : ℕ) (old new : Option PageState) (b : Bool) → Made first_page old new b → Applied (kinds.Format f) p old new b
unfolding applied CanApply
format_applied f p old new b h = applied_made (kinds.Format f) p old new first_page (λ e. e) (λ e. e) refl (omega arith) b h

pub write_applied : (w : Write) (p : ℕ) (old new : Option PageState) (b : Bool) → OnImage (CanWrite w.key w.old) (with_value w.key w.new) old new b → Applied (kinds.Write w) p old new b
unfolding applied CanApply
write_applied w p old new b h = applied_on (kinds.Write w) p old new (CanWrite w.key w.old) (with_value w.key w.new) (λ c. c) (λ c. c) refl b h

pub apply_applied : (a : Apply) (p : ℕ) (old new : Option PageState) (b : Bool) → OnImage (CanApplyTo a) (with_value a.key (meaning a.operator a.old a.argument)) old new b → Applied (kinds.Apply a) p old new b
unfolding applied CanApply
apply_applied a p old new b h = applied_on (kinds.Apply a) p old new (CanApplyTo a) (with_value a.key (meaning a.operator a.old a.argument)) (λ c. (c.0.0, c.0.1, (c.0.2, c.1))) (λ c. ((c.0, c.1, c.2.0), c.2.1)) refl b h

pub undo_applied : (u : Undo) (p : ℕ) (old new : Option PageState) (b : Bool) → OnImage (CanUndo u.key u.restores) (with_value u.key u.restores) old new b → Applied (kinds.Undo u) p old new b
unfolding applied CanApply
undo_applied u p old new b h = applied_on (kinds.Undo u) p old new (CanUndo u.key u.restores) (with_value u.key u.restores) (λ c. c) (λ c. c) refl b h

pub purge_applied : (x : Purge) (p : ℕ) (old new : Option PageState) (b : Bool) → OnImage CanPurge purged old new b → Applied (kinds.Purge x) p old new b
unfolding applied CanApply
purge_applied x p old new b h = applied_on (kinds.Purge x) p old new CanPurge purged (λ c. c) (λ c. c) refl b h

pub eq_true : (m n : ℕ) → m ≡ n → eqb m n ≡ true
eq_true m n e = grind (arith, nat_tests)

pub eq_false : (m n : ℕ) → (m ≡ n → ⊥) → eqb m n ≡ false
eq_false m n h = by (eqb m n) refl
  where
    true_eq : (m n : ℕ) → eqb m n ≡ true → m ≡ n
    true_eq m n e = grind (arith, nat_tests)

    by : (b : Bool) → eqb m n ≡ b → b ≡ false
    by true e = absurd (h (true_eq m n e))
    by false e = refl

pub or_second : (m n k : ℕ) → (m ≡ n → ⊥) → IsTrue (eqb m n || eqb m k) → m ≡ k
or_second m n k h e = grind (arith, nat_tests)

module _ (x : Split) (p : ℕ) (old new : Option PageState) (b : Bool) where
  pub split_made : IsTrue (names p (kinds.Split x)) → (p ≡ x.page → ⊥) → state_size x.child_state ≤ page_room → Made x.child_state old new b → Applied (kinds.Split x) p old new b
  unfolding applied CanApply
  split_made n other size h =
      let child : p ≡ x.child = or_second p x.page x.child other n in
      applied_made (kinds.Split x) p old new x.child_state (λ c. c.1 child) (λ e. (λ same. absurd (other same), λ same. e))
      (ap (λ (t : Bool). cond t (option_map (lower_half x) old) (Some x.child_state)) (eq_false p x.page other)) size b h

  pub split_halved : p ≡ x.page → (p ≡ x.child → ⊥) → OnImage (CanSplit x) (lower_half x) old new b → Applied (kinds.Split x) p old new b
  unfolding applied CanApply
  split_halved same other h =
      applied_on (kinds.Split x) p old new (CanSplit x) (lower_half x) (λ c. c.0 same) (λ m. (λ e. m, λ e. absurd (other e)))
      (ap (λ (t : Bool). cond t (option_map (lower_half x) old) (Some x.child_state)) (eq_true p x.page same)) b h

-- no page is both
none_some : (o : Option PageState) (s : PageState) → o ≡ None → o ≡ Some s → ⊥
none_some None s e f = absurd cc
none_some (Some t) s e f = absurd cc

pub split_both : (x : Split) (p : ℕ) (old : Option PageState) → p ≡ x.page → p ≡ x.child → Applied (kinds.Split x) p old old false
unfolding CanApply
split_both x p old page child = (λ a. let m = a.can.0 page in none_some old m.0 (a.can.1 child) m.1, refl)

module _ (a : Adopt) (p : ℕ) (old new : Option PageState) (b : Bool) where
  pub adopt_taken : p ≡ a.parent → (p ≡ a.fosterer → ⊥) → OnImage (CanTakeChild a) (with_child a) old new b → Applied (kinds.Adopt a) p old new b
  unfolding applied CanApply
  adopt_taken same other h =
      applied_on (kinds.Adopt a) p old new (CanTakeChild a) (with_child a) (λ c. c.0 same) (λ m. (λ e. m, λ e. absurd (other e)))
      (ap (λ (t : Bool). cond t (option_map (with_child a) old) (option_map (without_foster a) old)) (eq_true p a.parent same)) b h

  pub adopt_given : IsTrue (names p (kinds.Adopt a)) → (p ≡ a.parent → ⊥) → OnImage (CanGiveChild a) (without_foster a) old new b → Applied (kinds.Adopt a) p old new b
  unfolding applied CanApply
  adopt_given n other h =
      let fosterer : p ≡ a.fosterer = or_second p a.parent a.fosterer other n in
      applied_on (kinds.Adopt a) p old new (CanGiveChild a) (without_foster a) (λ c. c.1 fosterer) (λ m. (λ e. absurd (other e), λ e. m))
      (ap (λ (t : Bool). cond t (option_map (with_child a) old) (option_map (without_foster a) old)) (eq_false p a.parent other)) b h

-- a page that has the key itself has no foster child there
pub adopt_both : (a : Adopt) (p : ℕ) (old : Option PageState) → p ≡ a.parent → p ≡ a.fosterer → Applied (kinds.Adopt a) p old old false
unfolding CanApply
adopt_both a p old parent fosterer = (λ x. clash (x.can.0 parent) (x.can.1 fosterer), refl)
  where
    state_is : (s t : PageState) → ◌≡◌ {A = Option PageState} (Some s) (Some t) → s ≡ t
    state_is s t e = cc

    clash : OnPage (CanTakeChild a) old → OnPage (CanGiveChild a) old → ⊥
    clash m n =
        let same : n.0 ≡ m.0 = state_is n.0 m.0 (sym n.1 ∙ m.1) in
        let gives : CanGiveChild a m.0 = subst (CanGiveChild a) same n.2 in
        let own = both_true (not (is_below (Some a.key) m.0.low)) (is_below (Some a.key) (end_by m.0.foster m.0.high)) m.2.own in
        not_both (is_below (Some a.key) (end_by m.0.foster m.0.high)) own.1 (ap (λ (f : Option Foster). is_below (Some a.key) (end_by f m.0.high)) gives.foster ∙ below_itself a.key)

module _ (g : Grow) (p : ℕ) (old new : Option PageState) (b : Bool) where
  pub grow_made : IsTrue (names p (kinds.Grow g)) → (p ≡ 1 → ⊥) → state_size g.child_state ≤ page_room → Made g.child_state old new b → Applied (kinds.Grow g) p old new b
  unfolding applied CanApply
  grow_made n other size h =
      let child : p ≡ g.child = or_second p 1 g.child other n in
      applied_made (kinds.Grow g) p old new g.child_state (λ c. c.1 child) (λ e. (λ same. absurd (other same), λ same. e))
      (ap (λ (t : Bool). cond t (option_map (grown g.child) old) (Some g.child_state)) (eq_false p 1 other)) size b h

  pub grow_grown : p ≡ 1 → 2 ≤ g.child → OnImage (CanGrow g) (grown g.child) old new b → Applied (kinds.Grow g) p old new b
  unfolding applied CanApply
  grow_grown same two h =
      applied_on (kinds.Grow g) p old new (CanGrow g) (grown g.child) (λ c. c.0 same) (λ m. (λ e. m, λ e. absurd (omega (arith, same, two, e))))
      (ap (λ (t : Bool). cond t (option_map (grown g.child) old) (Some g.child_state)) (eq_true p 1 same)) b h

-- ---- the same of answers that may be want of memory, on a page that has an image or none

pub write_some : (w : Write) (p : ℕ) (s t : PageState) (r : Result Bool Memory) → IfOk r (Changed (CanWrite w.key w.old) (with_value w.key w.new) s t) → IfOk r (Applied (kinds.Write w) p (Some s) (Some t))
write_some w p s t (Ok b) h = write_applied w p (Some s) (Some t) b (on_some (CanWrite w.key w.old) (with_value w.key w.new) s t b h)
write_some w p s t (Err e) h = tt

pub write_none : (w : Write) (p : ℕ) → Applied (kinds.Write w) p None None false
write_none w p = write_applied w p None None false (on_none (CanWrite w.key w.old) (with_value w.key w.new))

pub apply_some : (a : Apply) (p : ℕ) (s t : PageState) (r : Result Bool Memory) → IfOk r (Changed (CanApplyTo a) (with_value a.key (meaning a.operator a.old a.argument)) s t) → IfOk r (Applied (kinds.Apply a) p (Some s) (Some t))
apply_some a p s t (Ok b) h = apply_applied a p (Some s) (Some t) b (on_some (CanApplyTo a) (with_value a.key (meaning a.operator a.old a.argument)) s t b h)
apply_some a p s t (Err e) h = tt

pub apply_none : (a : Apply) (p : ℕ) → Applied (kinds.Apply a) p None None false
apply_none a p = apply_applied a p None None false (on_none (CanApplyTo a) (with_value a.key (meaning a.operator a.old a.argument)))

pub undo_some : (u : Undo) (p : ℕ) (s t : PageState) (r : Result Bool Memory) → IfOk r (Changed (CanUndo u.key u.restores) (with_value u.key u.restores) s t) → IfOk r (Applied (kinds.Undo u) p (Some s) (Some t))
undo_some u p s t (Ok b) h = undo_applied u p (Some s) (Some t) b (on_some (CanUndo u.key u.restores) (with_value u.key u.restores) s t b h)
undo_some u p s t (Err e) h = tt

pub undo_none : (u : Undo) (p : ℕ) → Applied (kinds.Undo u) p None None false
undo_none u p = undo_applied u p None None false (on_none (CanUndo u.key u.restores) (with_value u.key u.restores))

pub split_made_ok : (x : Split) (p : ℕ) (old new : Option PageState) (r : Result Bool Memory) → IsTrue (names p (kinds.Split x)) → (p ≡ x.page → ⊥) → state_size x.child_state ≤ page_room → IfOk r (Made x.child_state old new) → IfOk r (Applied (kinds.Split x) p old new)
split_made_ok x p old new (Ok b) n other size h = split_made x p old new b n other size h
split_made_ok x p old new (Err e) n other size h = tt

pub split_some : (x : Split) (p : ℕ) (s t : PageState) (b : Bool) → p ≡ x.page → (p ≡ x.child → ⊥) → Changed (CanSplit x) (lower_half x) s t b → Applied (kinds.Split x) p (Some s) (Some t) b
split_some x p s t b same other h = split_halved x p (Some s) (Some t) b same other (on_some (CanSplit x) (lower_half x) s t b h)

pub split_none : (x : Split) (p : ℕ) → p ≡ x.page → (p ≡ x.child → ⊥) → Applied (kinds.Split x) p None None false
split_none x p same other = split_halved x p None None false same other (on_none (CanSplit x) (lower_half x))

pub take_some : (a : Adopt) (p : ℕ) (s t : PageState) (r : Result Bool Memory) → p ≡ a.parent → (p ≡ a.fosterer → ⊥) → IfOk r (Changed (CanTakeChild a) (with_child a) s t) → IfOk r (Applied (kinds.Adopt a) p (Some s) (Some t))
take_some a p s t (Ok b) same other h = adopt_taken a p (Some s) (Some t) b same other (on_some (CanTakeChild a) (with_child a) s t b h)
take_some a p s t (Err e) same other h = tt

pub take_none : (a : Adopt) (p : ℕ) → p ≡ a.parent → (p ≡ a.fosterer → ⊥) → Applied (kinds.Adopt a) p None None false
take_none a p same other = adopt_taken a p None None false same other (on_none (CanTakeChild a) (with_child a))

pub grow_made_ok : (g : Grow) (p : ℕ) (old new : Option PageState) (r : Result Bool Memory) → IsTrue (names p (kinds.Grow g)) → (p ≡ 1 → ⊥) → state_size g.child_state ≤ page_room → IfOk r (Made g.child_state old new) → IfOk r (Applied (kinds.Grow g) p old new)
grow_made_ok g p old new (Ok b) n other size h = grow_made g p old new b n other size h
grow_made_ok g p old new (Err e) n other size h = tt

pub grow_some : (g : Grow) (p : ℕ) (s t : PageState) (r : Result Bool Memory) → p ≡ 1 → 2 ≤ g.child → IfOk r (Changed (CanGrow g) (grown g.child) s t) → IfOk r (Applied (kinds.Grow g) p (Some s) (Some t))
grow_some g p s t (Ok b) same two h = grow_grown g p (Some s) (Some t) b same two (on_some (CanGrow g) (grown g.child) s t b h)
grow_some g p s t (Err e) same two h = tt

pub grow_none : (g : Grow) (p : ℕ) → p ≡ 1 → 2 ≤ g.child → Applied (kinds.Grow g) p None None false
grow_none g p same two = grow_grown g p None None false same two (on_none (CanGrow g) (grown g.child))
