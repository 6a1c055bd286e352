-- Locks as they are taken and go.
use Rattle.std.proofs.Common.{◌≡◌, ℕ, eqb, cond, List, [], ◌∷◌, ◌++◌, Bool, true, false, refl, sym, ap, ◌∙◌}
use Rattle.std.specs.Prelude.{◌||◌}
use Rattle.std.specs.List.{list_any}
use Rattle.store_model.specs.Along.{along}
use Rattle.store_model.specs.Range.{Interval}
use Rattle.store_model.specs.declared.range.Mode.{Mode}
use Rattle.wal_record.specs.Legal.{held}
use Rattle.wal_record.specs.Locks.{Held, locks_step, taken_locks}
use Rattle.wal_record.specs.declared.record.Commit.{Commit}
use Rattle.wal_record.specs.declared.record.End.{End}
use Rattle.wal_record.specs.declared.record.Record.{Record}
use Rattle.wal_record.specs.declared.record.Record.TheVariants as kinds
use Rattle.wal_record.specs.declared.entry.Entry.{Entry}
use Rattle.wal_record.specs.declared.entry.Entry.TheVariants.{Rec, Lock}
use Rattle.wal_record.proofs.Pushes.{taken_push}
use Rattle.lock_judge.specs.Taken.{IsRelease}

-- each transaction has the locks that it took
abbrev pub Has : (ℕ → List Held) → List Entry → Type 0
Has locks h = (t : ℕ) (p : Held → Bool) → list_any p (locks t) ≡ list_any p (taken_locks h t)

pub has_none : (locks : ℕ → List Held) → ((t : ℕ) → locks t ≡ []) → Has locks []
unfolding taken_locks along
has_none locks none t p = ap (list_any p) (none t)

module _ (old new : ℕ → List Held) (h : List Entry) (k : Has old h) where
  pub has_lock : (tx : ℕ) (range : Interval) (mode : Mode) → ((t : ℕ) (p : Held → Bool) → list_any p (new t) ≡ cond (eqb tx t) (p (held range mode) || list_any p (old t)) (list_any p (old t))) → Has new (h ++ Lock tx range mode ∷ [])
  has_lock tx range mode put t p = put t p ∙ by (eqb tx t) ∙ sym (ap (list_any p) (taken_push h (Lock tx range mode) t))
    where
      by : (c : Bool) → cond c (p (held range mode) || list_any p (old t)) (list_any p (old t)) ≡ list_any p (cond c (held range mode ∷ taken_locks h t) (taken_locks h t))
      by true = ap (λ (b : Bool). p (held range mode) || b) (k t p)
      by false = k t p

  pub has_less : (tx : ℕ) (e : Entry) → IsRelease tx e → ((t : ℕ) → new t ≡ cond (eqb tx t) [] (old t)) → Has new (h ++ e ∷ [])
  has_less tx e r put t p = ap (list_any p) (put t) ∙ by (eqb tx t) ∙ sym (ap (list_any p) (taken_push h e t ∙ r t (taken_locks h t)))
    where
      by : (c : Bool) → list_any p (cond c [] (old t)) ≡ list_any p (cond c [] (taken_locks h t))
      by true = refl
      by false = k t p

  pub has_same : ((t : ℕ) → new t ≡ old t) → Has new h
  has_same same t p = ap (list_any p) (same t) ∙ k t p

module _ (locks : ℕ → List Held) (h : List Entry) (k : Has locks h) where
  pub has_still : (e : Entry) → ((t : ℕ) (ls : List Held) → locks_step t ls e ≡ ls) → Has locks (h ++ e ∷ [])
  has_still e still t p = k t p ∙ sym (ap (list_any p) (taken_push h e t ∙ still t (taken_locks h t)))

  pub still_record : (lsn : ℕ) (r : Record) → ((x : Commit) → r ≡ kinds.Commit x → ⊥) → ((x : End) → r ≡ kinds.End x → ⊥) → Has locks (h ++ Rec lsn r ∷ [])
  still_record lsn (kinds.Commit c) commit end = absurd (commit c refl)
  still_record lsn (kinds.End x) commit end = absurd (end x refl)
  still_record lsn r commit end = has_still (Rec lsn r) (λ t ls. refl)

  pub still_entry : (e : Entry) → ((tx : ℕ) (range : Interval) (mode : Mode) → e ≡ Lock tx range mode → ⊥) → ((lsn : ℕ) (r : Record) → e ≡ Rec lsn r → ⊥) → Has locks (h ++ e ∷ [])
  still_entry (Lock tx range mode) lock rec = absurd (lock tx range mode refl)
  still_entry (Rec lsn r) lock rec = absurd (rec lsn r refl)
  still_entry e lock rec = has_still e (λ t ls. refl)
