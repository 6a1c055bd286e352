-- What a journal tells of its log disk: the calls, and the end.
use Rattle.std.proofs.Common.{◌≡◌, ℕ, List, Option, Some, None, true, false, refl, sym, ap, ◌∙◌, subst, inl, inr}
use Rattle.std.specs.Prelude.{Result, Ok, Err, IfErr, IfSome, IsErrAnd, OnOk, is_err}
use Rattle.log_blocks.specs.LogState.{LogState, Refused, durable_lsn}
use Rattle.log_blocks.specs.Opening.{IsLogFault}
use Rattle.log_blocks.specs.declared.header.Place.{Place}
use Rattle.log_manager.specs.Managed.{ReadRefused}
use Rattle.media.specs.Counted.{Armed, Blames}
use Rattle.media.specs.Kept.{Kept}
use Rattle.media.proofs.Blaming.{no_call, renamed, then_more}
use Rattle.page_ops.specs.Names.{LedgerName}
use Rattle.page_ops.specs.Seeing.{Account, Calls}
use Rattle.store_model.specs.declared.fault.Fault.{Fault}
use Rattle.store_model.specs.declared.fault.Fault.TheVariants as faults
use Rattle.wal_record.specs.declared.entry.Entry.{Entry}
use Rattle.wal_record.specs.declared.record.Record.{Record}
use Rattle.journal.specs.Ends.{IsToldEnd}
use Rattle.journal.specs.State.{ArmsDisk, BlamesDisk, IsUntouched, JournalState, KeepsEnd, KnowsEnd, LearnsEnd, calls_of}
use Rattle.journal.specs.Stops.{AreSafe, EndsDurably, IsDurableUpto}

-- ---- the parts of a journal that was opened

pub history_is : (a b : JournalState) → a ≡ b → a.history ≡ b.history
history_is a b e = ap (λ (j : JournalState). j.history) e

pub ended_is : (a b : JournalState) → a ≡ b → a.ended ≡ b.ended
ended_is a b e = ap (λ (j : JournalState). j.ended) e

pub calls_is : (a b : JournalState) → a ≡ b → a.calls ≡ b.calls
calls_is a b e = ap (λ (j : JournalState). j.calls) e

pub blocks_is : (a b : JournalState) → a ≡ b → a.blocks ≡ b.blocks
blocks_is a b e = ap (λ (j : JournalState). j.blocks) e

-- ---- calls

module _ {D : Type 0} (passes : D → Option ℕ) (refused own : D → ℕ) (old new : D) (c : Calls) (is : calls_of passes refused own old ≡ c) where
  pub blames_since : (F : Type 0) → Blames passes refused own old new F → BlamesDisk c (calls_of passes refused own new) F
  blames_since F b = subst (λ (x : Calls). BlamesDisk x (calls_of passes refused own new) F) is
      (record { unarmed = b.unarmed; refused_later = b.refused_later; own_later = b.own_later; cause = b.cause; quiet = b.quiet })

  pub arms_since : (fuses : Type 0) (n : Option ℕ) → Armed fuses passes refused own n old new → ArmsDisk fuses n c (calls_of passes refused own new)
  arms_since fuses n a = subst (λ (x : Calls). ArmsDisk fuses n x (calls_of passes refused own new)) is
      (record { armed = a.armed; unfused = a.unfused; unrefused = a.unrefused; unfailed = a.unfailed })

-- none was made
pub no_calls : (old new : Calls) (F : Type 0) → old ≡ new → (F → ⊥) → BlamesDisk old new F
no_calls old new F is never = subst (λ (x : Calls). BlamesDisk old x F) is (no_call (λ (c : Calls). c.passes) (λ (c : Calls). c.refused) (λ (c : Calls). c.own) old F never)

-- calls that didn't fault, and then others
pub calls_then : (old mid new : Calls) (F G : Type 0) → BlamesDisk old mid F → (F → ⊥) → BlamesDisk mid new G → BlamesDisk old new G
calls_then old mid new F G a never b = then_more (λ (c : Calls). c.passes) (λ (c : Calls). c.refused) (λ (c : Calls). c.own) old mid new F G a never b

-- a life that has ended before makes none
pub told_quiet : (log_faults : LedgerName) (a a' : Account) (f : Fault) → IsToldEnd log_faults a a' f → IsLogFault f → ⊥
told_quiet log_faults a a' (faults.Ended at) is fault = fault
told_quiet log_faults a a' _ is fault = is

-- a flush or a recycling that fails does so by its disk
module _ {D A : Type 0} (passes : D → Option ℕ) (refused own F : D → ℕ) (old new : LogState D) where
  fault_is : (r : Result A Fault) → is_err r ≡ true → IfErr r (Refused ⊥ F old new) → old.ended ≡ None → IsErrAnd r IsLogFault
  fault_is (Ok x) e is runs = absurd (cc e)
  fault_is (Err faults.LogFault) e is runs = tt
  fault_is (Err (faults.Ended at)) e is runs = absurd (cc (is.0, runs))
  fault_is (Err faults.Memory) e is runs = absurd is.0
  fault_is (Err _) e is runs = absurd is

  pub fault_blames : (r : Result A Fault) → is_err r ≡ true → IfErr r (Refused ⊥ F old new) → old.ended ≡ None → Blames passes refused own old.device new.device (IsErrAnd r IsLogFault) → Blames passes refused own old.device new.device (Unit {0})
  fault_blames r e is runs b = renamed passes refused own old.device new.device (IsErrAnd r IsLogFault) (Unit {0}) b (λ _. tt) (λ _. fault_is r e is runs)

  pub fine_blames : (r : Result A Fault) → is_err r ≡ false → Blames passes refused own old.device new.device (IsErrAnd r IsLogFault) → Blames passes refused own old.device new.device ⊥
  fine_blames (Ok x) e b = b
  fine_blames (Err f) e b = absurd (cc e)

-- ---- an end stays

pub end_same : (was ended : Option ℕ) → ended ≡ was → IfSome was (λ at. ended ≡ Some at)
end_same None ended e = tt
end_same (Some at) ended e = e

pub end_fresh : (was ended : Option ℕ) → was ≡ None → IfSome was (λ at. ended ≡ Some at)
end_fresh None ended e = tt
end_fresh (Some at) ended e = absurd (cc e)

pub keeps_then : (was mid ended : Option ℕ) → IfSome was (λ at. mid ≡ Some at) → IfSome mid (λ at. ended ≡ Some at) → IfSome was (λ at. ended ≡ Some at)
keeps_then None mid ended first more = tt
keeps_then (Some at) None ended first more = absurd (cc first)
keeps_then (Some at) (Some n) ended first more = more ∙ first

-- ---- what is known of it

pub learnt_same : (a0 a1 : Account) (ended : Option ℕ) → a1 ≡ a0 → LearnsEnd a0 a1 ended
learnt_same a0 a1 ended e = inl (ap (λ (a : Account). a.ended) e)

-- between calls that tell nothing of it
pub learnt : (a0 a1 a2 a3 : Account) (ended : Option ℕ) → a1.ended ≡ a0.ended → LearnsEnd a1 a2 ended → a3.ended ≡ a2.ended → LearnsEnd a0 a3 ended
learnt a0 a1 a2 a3 ended before (inl same) behind = inl (behind ∙ same ∙ before)
learnt a0 a1 a2 a3 ended before (inr told) behind = inr (behind ∙ told)

pub knows_later : (a0 a1 : Account) (j0 j1 : JournalState) → KnowsEnd a0 j0 → KeepsEnd j0 j1 → LearnsEnd a0 a1 j1.ended → KnowsEnd a1 j1
knows_later a0 a1 j0 j1 knows keeps (inr told) at is = sym told ∙ is
knows_later a0 a1 j0 j1 knows keeps (inl same) at is = by j0.ended keeps (knows at (sym same ∙ is))
  where
    by : (was : Option ℕ) → IfSome was (λ n. j1.ended ≡ Some n) → was ≡ Some at → j1.ended ≡ Some at
    by None stays e = absurd (cc e)
    by (Some n) stays e = stays ∙ e

-- where the log disk wasn't called
pub knows_untouched : (a0 a1 : Account) (j0 j1 : JournalState) → KnowsEnd a0 j0 → IsUntouched j0 j1 → LearnsEnd a0 a1 j1.ended → KnowsEnd a1 j1
knows_untouched a0 a1 j0 j1 knows still learns = knows_later a0 a1 j0 j1 knows (end_same j0.ended j1.ended still.ended) learns

-- ---- the number

module _ {D : Type 0} where
  pub durable_open : (log : LogState D) → log.ended ≡ None → EndsDurably log
  durable_open log runs = subst (λ (o : Option ℕ). IfSome o (λ at. at ≡ durable_lsn log.places)) (sym runs) tt

  durable_at : (log : LogState D) → log.ended ≡ Some (durable_lsn log.places) → EndsDurably log
  durable_at log e = subst (λ (o : Option ℕ). IfSome o (λ at. at ≡ durable_lsn log.places)) (sym e) refl

  pub durable_same : (log log' : LogState D) → EndsDurably log → log'.places ≡ log.places → log'.ended ≡ log.ended → EndsDurably log'
  durable_same log log' k places ended = subst (λ (x : Option ℕ × List Place). IfSome x.0 (λ at. at ≡ durable_lsn x.1)) (λ i. (sym ended i, sym places i)) k

  pub durable_flush : {A : Type 0} (F : D → ℕ) (old new : LogState D) (r : Result A Fault) → old.ended ≡ None → OnOk r ((old.ended ≡ None) × (new.ended ≡ None)) → IfErr r (Refused ⊥ F old new) → EndsDurably new
  durable_flush F old new (Ok x) runs live is = durable_open new live.1
  durable_flush F old new (Err faults.LogFault) runs live is = durable_at new is.2
  durable_flush F old new (Err (faults.Ended at)) runs live is = absurd (cc (is.0, runs))
  durable_flush F old new (Err faults.Memory) runs live is = absurd is.0
  durable_flush F old new (Err _) runs live is = absurd is

  pub durable_read : {A : Type 0} (F : D → ℕ) (old new : LogState D) (r : Result A Fault) → old.ended ≡ None → OnOk r ((old.ended ≡ None) × (new.ended ≡ None)) → IfErr r (ReadRefused F old new) → EndsDurably new
  durable_read F old new (Ok x) runs live is = durable_open new live.1
  durable_read F old new (Err faults.LogFault) runs live is = durable_at new is.2
  durable_read F old new (Err (faults.Ended at)) runs live is = absurd (cc (is.0, runs))
  durable_read F old new (Err faults.Memory) runs live is = durable_open new is.2
  durable_read F old new (Err (faults.LogBad block byte)) runs live is = durable_open new is.1
  durable_read F old new (Err _) runs live is = absurd is

  pub durable_upto : (opens : List Record → Type 0) (told : D → Kept) (may_leave : D → Kept → Type 0) (h : List Entry) (log : LogState D) → AreSafe opens told may_leave h log → EndsDurably log
      → (opening : List Record) → opens opening → IfSome log.ended (IsDurableUpto opening h)
  durable_upto opens told may_leave h log safe durable opening stands = by log.ended durable
    where
      by : (o : Option ℕ) → IfSome o (λ at. at ≡ durable_lsn log.places) → IfSome o (IsDurableUpto opening h)
      by None k = tt
      by (Some at) k =
          let s = safe opening stands in
          subst (IsDurableUpto opening h) (sym k) (record { begins = s.begins; most = s.within; acknowledged = s.acknowledged })
