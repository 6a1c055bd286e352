-- A page on which a record was redone keeps the rules of a state.
use Rattle.std.proofs.Common.{◌≡◌, ℕ, Bool, true, false, cond, Option, Some, Result, Ok, Err, IfOk, OnErr, sym, ap, subst, inl, inr}
use Rattle.std.specs.Prelude.{IsTrue, IfSome}
use Rattle.std.specs.Option.{option_map}
use Rattle.std.proofs.lemmas.Bool.{cases_eq}
use Rattle.store_model.specs.declared.fault.Memory.{Memory}
use Rattle.store_model.specs.Operator.{meaning}
use Rattle.wal_record.specs.Chains.{names}
use Rattle.wal_record.specs.Rules.{HasSpelling}
use Rattle.wal_record.specs.State.{own_part, KeepsRows, KeepsState}
use Rattle.wal_record.specs.Images.{applied, CanApply, IsApplicable, Fits, with_value, purged, lower_half, with_child, without_foster, grown, CanWrite, CanUndo, CanSplit, CanTakeChild, CanGiveChild, CanGrow, CanPurge}
use Rattle.wal_record.specs.declared.page.PageState.{PageState}
use Rattle.wal_record.specs.declared.record.Record.{Record}
use Rattle.wal_record.specs.declared.record.Record.TheVariants as kinds
use Rattle.wal_record.specs.declared.page.Rows.{Rows}
use Rattle.wal_record.specs.declared.page.Rows.TheVariants.{Leaf, Branch}
use Rattle.page_rows.specs.Rows.{Rise}
use Rattle.page_rows.specs.Redo.{Redone}
use Rattle.page_rows.proofs.Lifts.{eq_true, eq_false, or_second}
use Rattle.page_rows.proofs.Keeping.{first_keeps, value_keeps, meaning_fits, purge_keeps, half_keeps, take_keeps, give_keeps, grow_keeps, image_keeps}

applied_keeps : (r : Record) (p : ℕ) (old : Option PageState) → HasSpelling r → IfSome old KeepsState → IsTrue (names p r) → IsApplicable r p old → IfSome (applied r p old) KeepsState
unfolding applied CanApply
applied_keeps (kinds.Format f) p old h k n a = first_keeps
applied_keeps (kinds.Write w) p old h k n a = image_keeps (CanWrite w.key w.old) (with_value w.key w.new) (λ s m. value_keeps w.key w.new h.key h.new s m.at) old a.can a.fits k
applied_keeps (kinds.Apply x) p old h k n a = image_keeps (CanWrite x.key x.old) (with_value x.key (meaning x.operator x.old x.argument)) (λ s m. value_keeps x.key (meaning x.operator x.old x.argument) h.key (meaning_fits x.operator x.old x.argument) s m.at) old a.can.0 a.fits k
applied_keeps (kinds.Undo u) p old h k n a = image_keeps (CanUndo u.key u.restores) (with_value u.key u.restores) (λ s m. value_keeps u.key u.restores h.key h.restores s m.at) old a.can a.fits k
applied_keeps (kinds.Purge x) p old h k n a = image_keeps CanPurge purged purge_keeps old a.can a.fits k
applied_keeps (kinds.Split x) p old h k n a = elim (cases_eq p x.page) [
  | inl e ↦
      let is = ap (λ (t : Bool). cond t (option_map (lower_half x) old) (Some x.child_state)) (eq_true p x.page e) in
      subst (λ (o : Option PageState). IfSome o KeepsState) (sym is) (image_keeps (CanSplit x) (lower_half x) (half_keeps x h.child_state h.child) old (a.can.0 e) (subst Fits is a.fits) k)
  | inr d ↦
      let is = ap (λ (t : Bool). cond t (option_map (lower_half x) old) (Some x.child_state)) (eq_false p x.page d) in
      subst (λ (o : Option PageState). IfSome o KeepsState) (sym is) h.child_state
]
applied_keeps (kinds.Adopt x) p old h k n a = elim (cases_eq p x.parent) [
  | inl e ↦
      let is = ap (λ (t : Bool). cond t (option_map (with_child x) old) (option_map (without_foster x) old)) (eq_true p x.parent e) in
      subst (λ (o : Option PageState). IfSome o KeepsState) (sym is) (image_keeps (CanTakeChild x) (with_child x) (take_keeps x h.key h.child) old (a.can.0 e) (subst Fits is a.fits) k)
  | inr d ↦
      let is = ap (λ (t : Bool). cond t (option_map (with_child x) old) (option_map (without_foster x) old)) (eq_false p x.parent d) in
      subst (λ (o : Option PageState). IfSome o KeepsState) (sym is) (image_keeps (CanGiveChild x) (without_foster x) (give_keeps x) old (a.can.1 (or_second p x.parent x.fosterer d n)) (subst Fits is a.fits) k)
]
applied_keeps (kinds.Grow g) p old h k n a = elim (cases_eq p 1) [
  | inl e ↦
      let is = ap (λ (t : Bool). cond t (option_map (grown g.child) old) (Some g.child_state)) (eq_true p 1 e) in
      subst (λ (o : Option PageState). IfSome o KeepsState) (sym is) (image_keeps (CanGrow g) (grown g.child) (λ s m keeps. grow_keeps g.child h.child s m.level) old (a.can.0 e) (subst Fits is a.fits) k)
  | inr d ↦
      let is = ap (λ (t : Bool). cond t (option_map (grown g.child) old) (Some g.child_state)) (eq_false p 1 d) in
      subst (λ (o : Option PageState). IfSome o KeepsState) (sym is) h.child_state
]
applied_keeps (kinds.Commit x) p old h k n a = absurd a.can
applied_keeps (kinds.End x) p old h k n a = absurd a.can
applied_keeps (kinds.Written x) p old h k n a = absurd a.can
applied_keeps (kinds.Checkpoint x) p old h k n a = absurd a.can
applied_keeps (kinds.BackupDone x) p old h k n a = absurd a.can
applied_keeps (kinds.RunDone x) p old h k n a = absurd a.can
applied_keeps (kinds.Lost x) p old h k n a = absurd a.can
applied_keeps (kinds.Restored x) p old h k n a = absurd a.can

module _ (r : Record) (p : ℕ) (old new : Option PageState) (h : HasSpelling r) (k : IfSome old KeepsState) where
  redone_keeps : (b : Bool) → Redone r p old new b → IfSome new KeepsState
  redone_keeps true d = subst (λ (o : Option PageState). IfSome o KeepsState) (sym d.1) (applied_keeps r p old h k d.0.names d.0.applicable)
  redone_keeps false d = subst (λ (o : Option PageState). IfSome o KeepsState) (sym d.1) k

  pub result_keeps : (x : Result Bool Memory) → IfOk x (Redone r p old new) → OnErr x (new ≡ old) → IfSome new KeepsState
  result_keeps (Ok b) d e = redone_keeps b d
  result_keeps (Err m) d e = subst (λ (o : Option PageState). IfSome o KeepsState) (sym e) k

-- the rows of a state that keeps its rules rise
pub rows_rise : (s : PageState) → KeepsState s → Rise s.rows
rows_rise s k = by s.rows k.rows
  where
    by : (rows : Rows) → KeepsRows s.level (own_part s) rows → Rise rows
    by (Leaf rows) h = h.1
    by (Branch rows) h = h.2
