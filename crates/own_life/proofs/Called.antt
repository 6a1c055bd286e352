-- What a call of the layers below makes of a life that went on: by its answer the life goes on, or a fault of the log disk was
-- counted and its end is known.
use Rattle.std.proofs.Common.{◌≡◌, ℕ, ◌<◌, ◌≤◌, List, Option, Some, None, true, Result, Ok, Err, sym, ap, subst, ◌∙◌, arith, inl, inr}
use Rattle.std.specs.Prelude.{◌⊎◌, IfErr, IfSome, OnOk, is_some}
use Rattle.store_model.specs.declared.fault.Fault.{Fault}
use Rattle.store_model.specs.declared.fault.Fault.TheVariants as faults
use Rattle.wal_record.specs.declared.entry.Entry.{Entry}
use Rattle.wal_record.specs.declared.record.Record.{Record}
use Rattle.page_ops.specs.Causes.{Ends, EndsBy, FailsToBring, FailsToEnter, FailsToFlush as MayFlush, FailsToReserve, FindsEnd, IsOpen, MeetsNoEnd, NoOther, OrTooMany}
use Rattle.page_ops.specs.Names.{LedgerName}
use Rattle.page_ops.specs.Seeing.{Account, Calls, Keeps}
use Rattle.segment_restore.specs.Faults.{no_faults, of_vault}
use Rattle.engine.specs.Answers.{FailsToAsk}
use Rattle.maintenance.specs.Marks.{FailsToMark}
use Rattle.journal.specs.Stops.{IsDurableUpto}
use Rattle.life_history.specs.Kept.{HasCause}
use Rattle.own_journal.specs.Told.{told}
use Rattle.own_life.specs.Kept.{without_crowd}
use Rattle.own_life.specs.State.{BreaksOff, CallsGoOn, Fails, FailsToAnswer, FailsToBegin, FailsToCommit, FailsToFlush, FailsToLook, FailsOver, GoesOn, LifeState}

-- The thread's counts and the calls of the log disk before and behind a call, in a life that went on and whose faults of the log
-- disk are all counted here.
pub record Called (opens : List Record → Type 0) (log_faults : LedgerName) (old new : LifeState) (a b : Account) (c d : Calls) : Type 0 where
  pub before : IsOpen a
  pub parts : a.log_faults.parts ≡ log_faults.parts
  pub keeps : Keeps (told a c) (told b d)
  pub why : IfSome b.ended (λ at. HasCause log_faults b.log_faults)
  pub calls : old.calls ≡ c
  pub later : old.durable ≤ new.durable
  pub ended_now : new.ended ≡ b.ended
  pub calls_now : new.calls ≡ d
  pub durable : (opening : List Record) → opens opening → IfSome b.ended (IsDurableUpto opening new.history)

-- the life goes on, or a fault was counted that has ended it
abbrev pub GoesOrFails : Account → Account → Type 0
GoesOrFails a b = IsOpen b ⊎ ((is_some b.ended ≡ true) × (a.log_faults.amount < b.log_faults.amount))

-- where no end is known no fault was counted
pub none_counted : (a b : Account) → GoesOrFails a b → b.ended ≡ None → b.log_faults.amount ≡ 0
none_counted a b (inl runs) none = runs.1
none_counted a b (inr failed) none = let some : is_some {T = ℕ} None ≡ true = ap (λ (o : Option ℕ). is_some o) (sym none) ∙ failed.0 in absurd cc

module _ {opens : List Record → Type 0} {log_faults : LedgerName} {old new : LifeState} {a b : Account} {c d : Calls} (q : Called opens log_faults old new a b c d) where
  calls_by : (failed : Type 0) → (failed → a.log_faults.amount < b.log_faults.amount) → CallsGoOn failed old.calls new.calls
  calls_by failed more =
      subst (λ (x : Calls). CallsGoOn failed x new.calls) (sym q.calls) (subst (λ (y : Calls). CallsGoOn failed c y) (sym q.calls_now)
      (record { unarmed = q.keeps.calls.unarmed; refused = q.keeps.calls.refused; own = q.keeps.calls.own; cause = λ f. q.keeps.calls.cause (more f) }))

  goes : IsOpen b → GoesOn old new
  goes runs = record { ended = q.ended_now ∙ runs.0; later = q.later; calls = calls_by ⊥ (λ no. absurd no) }

  breaks : is_some b.ended ≡ true → a.log_faults.amount < b.log_faults.amount → BreaksOff opens old new
  breaks some more = go b.ended (λ i. b.ended) some
    where
      go : (e : Option ℕ) → b.ended ≡ e → is_some e ≡ true → BreaksOff opens old new
      go None is known = absurd cc
      go (Some at) is known = record {
        at = at;
        ended = q.ended_now ∙ is;
        later = q.later;
        durable = λ opening stands. subst (λ (o : Option ℕ). IfSome o (IsDurableUpto opening new.history)) is (q.durable opening stands);
        calls = calls_by (Unit {0}) (λ _. more);
      }

  -- an end that is known has its cause, so none is found where no fault was counted
  never : (made : LedgerName) (h : List Entry) (at : ℕ) → FindsEnd opens log_faults made (told a c) (told b d) h at → ⊥
  never made h at f = subst (λ (o : Option ℕ). IfSome o (λ n. HasCause log_faults b.log_faults)) f.now q.why (q.keeps.log_parts ∙ q.parts) (f.amount ∙ q.before.1)

  still : MeetsNoEnd (told a c) (told b d) → IsOpen b
  still m = (m.ended ∙ q.before.0, m.amount ∙ q.before.1)

  -- ---- how a call ends, by its answer

  module _ (made : LedgerName) (h : List Entry) where
    ends_fault : (f : Fault) → EndsBy opens log_faults made (told a c) (told b d) h f → GoesOrFails a b
    ends_fault faults.Memory e = inl (still e)
    ends_fault faults.LogFault e = inr (e.1, e.2)
    ends_fault (faults.Ended at) e = absurd (never made h at e)
    ends_fault _ e = inl e.1

    pub ends : {T : Type 0} (r : Result T Fault) → Ends opens log_faults made (told a c) (told b d) h r → GoesOrFails a b
    ends (Ok x) e = inl e.1
    ends (Err f) e = ends_fault f e

    pub ends_done : {T : Type 0} (r : Result T Fault) → Ends opens log_faults made (told a c) (told b d) h r → OnOk r (GoesOn old new)
    ends_done (Ok x) e = goes e.1
    ends_done (Err f) e = tt

    -- a fault of the log disk is one that the journal counted
    counted : (0 < 0) ⊎ (a.log_faults.amount < b.log_faults.amount) → a.log_faults.amount < b.log_faults.amount
    counted (inl less) = absurd (omega (arith, less))
    counted (inr more) = more

    brings_fault : (v v' : ℕ) (f : Fault) → FailsToBring opens log_faults made (of_vault v) (of_vault v') (told a c) (told b d) h f → GoesOrFails a b
    brings_fault v v' faults.Memory e = inl (still e)
    brings_fault v v' faults.LogFault e = inr (e.0, counted e.1)
    brings_fault v v' faults.VaultFault e = inl (still e.0)
    brings_fault v v' (faults.Ended at) e = absurd (never made h at e)
    brings_fault v v' (faults.LogBad block byte) e = inl (still e.0)
    brings_fault v v' (faults.VaultBad object byte) e = inl (still e.0)
    brings_fault v v' _ e = absurd e

    pub brings : {T : Type 0} (v v' : ℕ) (r : Result T Fault) → OnOk r (MeetsNoEnd (told a c) (told b d)) → IfErr r (FailsToBring opens log_faults made (of_vault v) (of_vault v') (told a c) (told b d) h) → GoesOrFails a b
    brings v v' (Ok x) o e = inl (still o)
    brings v v' (Err f) o e = brings_fault v v' f e

    reserves_fault : (f : Fault) → FailsToReserve opens log_faults made no_faults no_faults (told a c) (told b d) h f → GoesOrFails a b
    reserves_fault faults.VaultFault e = absurd e
    reserves_fault (faults.LogBad block byte) e = absurd e
    reserves_fault (faults.VaultBad object byte) e = absurd e
    reserves_fault faults.Memory e = brings_fault 0 0 faults.Memory e
    reserves_fault faults.LogFault e = brings_fault 0 0 faults.LogFault e
    reserves_fault (faults.Ended at) e = brings_fault 0 0 (faults.Ended at) e
    reserves_fault _ e = absurd e

    pub reserves : {T : Type 0} (r : Result T Fault) → OnOk r (MeetsNoEnd (told a c) (told b d)) → IfErr r (FailsToReserve opens log_faults made no_faults no_faults (told a c) (told b d) h) → GoesOrFails a b
    reserves (Ok x) o e = inl (still o)
    reserves (Err f) o e = reserves_fault f e

    asks_fault : (v v' : ℕ) (may : Fault → Type 0) (f : Fault) → FailsToAsk may opens log_faults made (of_vault v) (of_vault v') (told a c) (told b d) h f → GoesOrFails a b
    asks_fault v v' may (faults.Conflict holder range at) e = inl e.2
    asks_fault v v' may (faults.Full pages pending at) e = inl e.2
    asks_fault v v' may (faults.OpRefused at) e = inl e.2
    asks_fault v v' may faults.Memory e = brings_fault v v' faults.Memory e
    asks_fault v v' may faults.LogFault e = brings_fault v v' faults.LogFault e
    asks_fault v v' may faults.VaultFault e = brings_fault v v' faults.VaultFault e
    asks_fault v v' may (faults.Ended at) e = brings_fault v v' (faults.Ended at) e
    asks_fault v v' may (faults.LogBad block byte) e = brings_fault v v' (faults.LogBad block byte) e
    asks_fault v v' may (faults.VaultBad object byte) e = brings_fault v v' (faults.VaultBad object byte) e
    asks_fault v v' may _ e = absurd e

    pub asks : {T : Type 0} (v v' : ℕ) (may : Fault → Type 0) (r : Result T Fault) → OnOk r (MeetsNoEnd (told a c) (told b d)) → IfErr r (FailsToAsk may opens log_faults made (of_vault v) (of_vault v') (told a c) (told b d) h) → GoesOrFails a b
    asks v v' may (Ok x) o e = inl (still o)
    asks v v' may (Err f) o e = asks_fault v v' may f e

    pub meets_done : {T : Type 0} (r : Result T Fault) → OnOk r (MeetsNoEnd (told a c) (told b d)) → OnOk r (GoesOn old new)
    meets_done (Ok x) o = goes (still o)
    meets_done (Err f) o = tt

    -- ---- refusals

    begin_fault : (f : Fault) → FailsToEnter OrTooMany f → EndsBy opens log_faults made (told a c) (told b d) h f → IfErr (without_crowd {T = ℕ} (Err f)) (FailsToBegin old new)
    begin_fault faults.Memory may e = goes (still e)
    begin_fault (faults.Ended at) may e = absurd (never made h at e)
    begin_fault faults.TooManyActive may e = goes e.1
    begin_fault _ may e = absurd may

    pub begin_refused : (r : Result ℕ Fault) → IfErr r (FailsToEnter OrTooMany) → Ends opens log_faults made (told a c) (told b d) h r → IfErr (without_crowd r) (FailsToBegin old new)
    begin_refused (Ok x) may e = tt
    begin_refused (Err f) may e = begin_fault f may e

    look_fault : (f : Fault) → FailsToEnter NoOther f → EndsBy opens log_faults made (told a c) (told b d) h f → FailsToLook old new f
    look_fault faults.Memory may e = goes (still e)
    look_fault (faults.Ended at) may e = absurd (never made h at e)
    look_fault _ may e = absurd may

    pub look_refused : {T : Type 0} (r : Result T Fault) → IfErr r (FailsToEnter NoOther) → Ends opens log_faults made (told a c) (told b d) h r → IfErr r (FailsToLook old new)
    look_refused (Ok x) may e = tt
    look_refused (Err f) may e = look_fault f may e

    flush_fault : (f : Fault) → FailsToMark f → EndsBy opens log_faults made (told a c) (told b d) h f → FailsToFlush opens old new f
    flush_fault faults.Memory may e = goes (still e)
    flush_fault faults.LogFault may e = breaks e.1 e.2
    flush_fault (faults.Ended at) may e = absurd (never made h at e)
    flush_fault _ may e = absurd may

    pub flush_refused : {T : Type 0} (r : Result T Fault) → IfErr r FailsToMark → Ends opens log_faults made (told a c) (told b d) h r → IfErr r (FailsToFlush opens old new)
    flush_refused (Ok x) may e = tt
    flush_refused (Err f) may e = flush_fault f may e

    flushed_fault : (f : Fault) → MayFlush f → EndsBy opens log_faults made (told a c) (told b d) h f → FailsToFlush opens old new f
    flushed_fault faults.LogFault may e = breaks e.1 e.2
    flushed_fault (faults.Ended at) may e = absurd (never made h at e)
    flushed_fault _ may e = absurd may

    pub flushed_refused : {T : Type 0} (r : Result T Fault) → IfErr r MayFlush → Ends opens log_faults made (told a c) (told b d) h r → IfErr r (FailsToFlush opens old new)
    flushed_refused (Ok x) may e = tt
    flushed_refused (Err f) may e = flushed_fault f may e

    reserve_fault : (f : Fault) → FailsToReserve opens log_faults made no_faults no_faults (told a c) (told b d) h f → Fails opens old new f
    reserve_fault faults.VaultFault e = absurd e
    reserve_fault (faults.LogBad block byte) e = absurd e
    reserve_fault (faults.VaultBad object byte) e = absurd e
    reserve_fault faults.Memory e = goes (still e)
    reserve_fault faults.LogFault e = breaks e.0 (counted e.1)
    reserve_fault (faults.Ended at) e = absurd (never made h at e)
    reserve_fault _ e = absurd e

    pub reserve_refused : {T : Type 0} (r : Result T Fault) → IfErr r (FailsToReserve opens log_faults made no_faults no_faults (told a c) (told b d) h) → IfErr r (Fails opens old new)
    reserve_refused (Ok x) e = tt
    reserve_refused (Err f) e = reserve_fault f e

    commit_fault : (f : Fault) → MayFlush f → EndsBy opens log_faults made (told a c) (told b d) h f → FailsToCommit opens old new f
    commit_fault faults.LogFault may e = breaks e.1 e.2
    commit_fault (faults.Ended at) may e = absurd (never made h at e)
    commit_fault _ may e = absurd may

    pub commit_refused : {T : Type 0} (r : Result T Fault) → IfErr r MayFlush → Ends opens log_faults made (told a c) (told b d) h r → IfErr r (FailsToCommit opens old new)
    commit_refused (Ok x) may e = tt
    commit_refused (Err f) may e = commit_fault f may e

    bring_fault : (v v' : ℕ) (f : Fault) → FailsToBring opens log_faults made (of_vault v) (of_vault v') (told a c) (told b d) h f → FailsOver opens v v' old new f
    bring_fault v v' faults.Memory e = goes (still e)
    bring_fault v v' faults.LogFault e = breaks e.0 (counted e.1)
    bring_fault v v' faults.VaultFault e = (goes (still e.0), e.1)
    bring_fault v v' (faults.Ended at) e = absurd (never made h at e)
    bring_fault v v' (faults.LogBad block byte) e = (goes (still e.0), e.1)
    bring_fault v v' (faults.VaultBad object byte) e = (goes (still e.0), e.1)
    bring_fault v v' _ e = absurd e

    pub bring_refused : {T : Type 0} (v v' : ℕ) (r : Result T Fault) → IfErr r (FailsToBring opens log_faults made (of_vault v) (of_vault v') (told a c) (told b d) h) → IfErr r (FailsOver opens v v' old new)
    bring_refused v v' (Ok x) e = tt
    bring_refused v v' (Err f) e = bring_fault v v' f e

    answer_fault : (v v' : ℕ) (may : Fault → Type 0) (f : Fault) → FailsToAsk may opens log_faults made (of_vault v) (of_vault v') (told a c) (told b d) h f → FailsToAnswer may opens v v' old new f
    answer_fault v v' may (faults.Conflict holder range at) e = (e.0, goes e.2)
    answer_fault v v' may (faults.Full pages pending at) e = (e.0, goes e.2)
    answer_fault v v' may (faults.OpRefused at) e = (e.0, goes e.2)
    answer_fault v v' may faults.Memory e = goes (still e)
    answer_fault v v' may faults.LogFault e = breaks e.0 (counted e.1)
    answer_fault v v' may faults.VaultFault e = (goes (still e.0), e.1)
    answer_fault v v' may (faults.Ended at) e = absurd (never made h at e)
    answer_fault v v' may (faults.LogBad block byte) e = (goes (still e.0), e.1)
    answer_fault v v' may (faults.VaultBad object byte) e = (goes (still e.0), e.1)
    answer_fault v v' may _ e = absurd e

    pub answer_refused : {T : Type 0} (v v' : ℕ) (may : Fault → Type 0) (r : Result T Fault) → IfErr r (FailsToAsk may opens log_faults made (of_vault v) (of_vault v') (told a c) (told b d) h) → IfErr r (FailsToAnswer may opens v v' old new)
    answer_refused v v' may (Ok x) e = tt
    answer_refused v v' may (Err f) e = answer_fault v v' may f e
