-- Calls of a life that failed: what the counts of the log disk's calls say.
use Rattle.std.proofs.Common.{◌≡◌, ◌<◌, ◌≤◌, ℕ, List, Result, Ok, Err, None, ⊎_elim, arith, subst, sym, ◌∙◌}
use Rattle.std.specs.Prelude.{◌^◌, ◌-◌, IfErr, IfOk, IsErrAnd, min}
use Rattle.media.specs.Cause.{Rose}
use Rattle.wal_record.specs.declared.record.Record.{Record}
use Rattle.store_model.specs.declared.fault.Fault.{Fault}
use Rattle.store_model.specs.declared.fault.Fault.TheVariants as faults
use Rattle.own_life.specs.State.{BreaksOff, Fails, FailsToAnswer, FailsToBegin, FailsToCommit, FailsToFlush, FailsOver, LifeState}
use Rattle.life_commands.specs.Causes.{LifeCause}
use Rattle.life_commands.specs.Faults.{FailsAs}
use Rattle.life_commands.specs.declared.status.Status.{Status}
use Rattle.life_commands.specs.declared.status.Status.TheVariants as statuses

-- counts are told up to the end of their range, which none reaches that was below 2^62
pub more_refused : (x y before now : ℕ) → before ≡ min x (2 ^ 64 - 1) → now ≡ min y (2 ^ 64 - 1) → before < 2 ^ 62 → before < now → x < y
more_refused x y before now is now_is few more = omega (arith, is, now_is, few, more)

pub none_refused : (x y before now : ℕ) → before ≡ min x (2 ^ 64 - 1) → now ≡ min y (2 ^ 64 - 1) → before < 2 ^ 62 → now ≤ before → y ≤ x
none_refused x y before now is now_is few same = omega (arith, is, now_is, few, same)

pub refused_more : (x before now : ℕ) → before ≡ min x (2 ^ 64 - 1) → before < 2 ^ 62 → before < now → x < now
refused_more x before now is few more = omega (arith, is, few, more)

few_refused : (x before : ℕ) → before ≡ min x (2 ^ 64 - 1) → before < 2 ^ 62 → x < 2 ^ 62
few_refused x before is few = omega (arith, is, few)

not_rose : (x y : ℕ) → x < 2 ^ 62 → y ≤ x → Rose x y → ⊥
not_rose x y few same rose = omega (arith, few, same, rose)

module _ (opens : List Record → Type 0) (x y : LifeState) where
  -- a call failed, and no fuse refused it
  own_rose : BreaksOff opens x y → x.calls.refused < 2 ^ 62 → y.calls.refused ≤ x.calls.refused → Rose x.calls.own y.calls.own
  own_rose b few same = ⊎_elim (λ own. own) (λ refused. absurd (not_rose x.calls.refused y.calls.refused few same refused)) (b.calls.cause tt)

  pub flush_fails : (fault : Fault) → FailsToFlush opens x y fault → Fails opens x y fault
  flush_fails faults.Memory p = p
  flush_fails faults.LogFault p = p
  flush_fails _ p = absurd p

  pub commit_fails : (fault : Fault) → FailsToCommit opens x y fault → Fails opens x y fault
  commit_fails faults.LogFault p = p
  commit_fails _ p = absurd p

  pub begin_later : (fault : Fault) → FailsToBegin x y fault → x.calls.own ≤ y.calls.own
  begin_later faults.Memory p = p.calls.own
  begin_later faults.TooManyActive p = p.calls.own
  begin_later _ p = absurd p

  -- a call that reads no vault
  pub over : (fault : Fault) → Fails opens x y fault → FailsOver opens 0 0 x y fault
  over faults.Memory p = p
  over faults.LogFault p = p
  over (faults.LogBad block byte) p = p
  over _ p = absurd p

  pub later : (v v' : ℕ) (fault : Fault) → FailsOver opens v v' x y fault → x.calls.own ≤ y.calls.own
  later v v' faults.Memory p = p.calls.own
  later v v' faults.LogFault p = p.calls.own
  later v v' faults.VaultFault p = p.0.calls.own
  later v v' (faults.LogBad block byte) p = p.0.calls.own
  later v v' (faults.VaultBad object byte) p = p.0.calls.own
  later v v' _ p = absurd p

  pub answer_later : (v v' : ℕ) (may : Fault → Type 0) (fault : Fault) → FailsToAnswer may opens v v' x y fault → x.calls.own ≤ y.calls.own
  answer_later v v' may (faults.Conflict holder range at) p = p.1.calls.own
  answer_later v v' may (faults.Full pages pending at) p = p.1.calls.own
  answer_later v v' may (faults.OpRefused at) p = p.1.calls.own
  answer_later v v' may faults.Memory p = p.calls.own
  answer_later v v' may faults.LogFault p = p.calls.own
  answer_later v v' may faults.VaultFault p = p.0.calls.own
  answer_later v v' may (faults.LogBad block byte) p = p.0.calls.own
  answer_later v v' may (faults.VaultBad object byte) p = p.0.calls.own
  answer_later v v' may _ p = absurd p

  module _ (before now : ℕ) (is : before ≡ min x.calls.refused (2 ^ 64 - 1)) (now_is : now ≡ min y.calls.refused (2 ^ 64 - 1)) (few : before < 2 ^ 62) where
    by_status : (status wanted : Status) → status ≡ wanted → LifeCause x.calls.own y.calls.own wanted → LifeCause x.calls.own y.calls.own status
    by_status status wanted e h = subst (λ (z : Status). LifeCause x.calls.own y.calls.own z) (sym e) h

    fault_cause : (status : Status) → BreaksOff opens x y → FailsAs before now faults.LogFault status → LifeCause x.calls.own y.calls.own status
    fault_cause status b (e, same) = by_status status _ e (own_rose b (few_refused x.calls.refused before is few) (none_refused x.calls.refused y.calls.refused before now is now_is few same))

    pub cause : (v v' : ℕ) (fault : Fault) (status : Status) → FailsOver opens v v' x y fault → FailsAs before now fault status → LifeCause x.calls.own y.calls.own status
    cause v v' faults.Memory status p says = by_status status _ says tt
    cause v v' faults.LogFault status p says = fault_cause status p says
    cause v v' faults.VaultFault status p says = by_status status _ says tt
    cause v v' (faults.LogBad block byte) status p says = by_status status _ says tt
    cause v v' (faults.VaultBad object byte) status p says = by_status status _ says tt
    cause v v' _ status p says = absurd p

    pub answer_cause : (v v' : ℕ) (may : Fault → Type 0) (fault : Fault) (status : Status) → FailsToAnswer may opens v v' x y fault → FailsAs before now fault status → LifeCause x.calls.own y.calls.own status
    answer_cause v v' may (faults.Conflict holder range at) status p says = by_status status _ says tt
    answer_cause v v' may (faults.Full pages pending at) status p says = by_status status _ says tt
    answer_cause v v' may (faults.OpRefused at) status p says = by_status status _ says tt
    answer_cause v v' may faults.Memory status p says = by_status status _ says tt
    answer_cause v v' may faults.LogFault status p says = fault_cause status p says
    answer_cause v v' may faults.VaultFault status p says = by_status status _ says tt
    answer_cause v v' may (faults.LogBad block byte) status p says = by_status status _ says tt
    answer_cause v v' may (faults.VaultBad object byte) status p says = by_status status _ says tt
    answer_cause v v' may _ status p says = absurd p

-- a refusal that is carried on as want of memory
pub by_memory : {T : Type 0} (r : Result T Status) (P : Status → Type 0) → IsErrAnd r (λ status. status ≡ statuses.Memory) → P statuses.Memory → IfErr r P
by_memory (Ok x) P h p = tt
by_memory (Err status) P h p = subst P (sym h) p

pub if_ok : {T E : Type 0} (r : Result T E) (P Q : T → Type 0) → ((x : T) → P x → Q x) → IfOk r P → IfOk r Q
if_ok (Ok x) P Q f h = f x h
if_ok (Err e) P Q f h = tt

pub if_err : {T E : Type 0} (r : Result T E) (P Q : E → Type 0) → ((e : E) → P e → Q e) → IfErr r P → IfErr r Q
if_err (Ok x) P Q f h = tt
if_err (Err e) P Q f h = f e h

-- a log fault ends the life
pub ended_by : (opens : List Record → Type 0) (x y : LifeState) (fault : Fault) → fault ≡ faults.LogFault → FailsToFlush opens x y fault → y.ended ≡ None → ⊥
ended_by opens x y fault is failed none =
    let b : BreaksOff opens x y = subst (FailsToFlush opens x y) is failed in
    let two = sym none ∙ b.ended in cc
