-- A request behind its lock: the leaf found, the session's right shown, the request answered, the leaf put back.
use Rattle.std.proofs.Common.{◌≡◌, ◌-◌, List, [], Option, Some, None, Result, Ok, Err, sym, ap, subst}
use Rattle.std.specs.Prelude.{IfErr, OnOk}
use mathlib.Core.List.{IsPrefix}
use Rattle.books.specs.Rights.{SessionClaim}
use Rattle.front.specs.Seen.{PassSeen}
use Rattle.store_model.specs.declared.fault.Fault.{Fault}
use Rattle.store_model.specs.declared.fault.Fault.TheVariants as faults
use Rattle.store_model.specs.declared.request.Request.{Request}
use Rattle.wal_record.specs.Locks.{Held}
use Rattle.wal_record.specs.declared.record.Record.{Record}
use Rattle.wal_record.specs.declared.entry.Entry.{Entry}
use Rattle.page_ops.specs.Causes.{Ends, EndsBy, FailsToBring, FailsToEnter, MeetsNoEnd, NoOther}
use Rattle.page_ops.specs.Claims.{Claims}
use Rattle.page_ops.specs.Desks.{Desk, Faults}
use Rattle.page_ops.specs.Names.{LedgerName}
use Rattle.page_ops.specs.Seeing.{Account, Enters, known}
use Rattle.rollback.specs.Rolls.{standing}
use Rattle.rollback.proofs.Failing.{none_then}
use Rattle.engine.specs.Answers.{FailsToAsk}
use Rattle.engine.specs.Completes.{CompletesFor, OwnsLock}
use Rattle.engine.specs.Writes.{LacksRoom}
use Rattle.engine.specs.declared.answered.Answered.{Answered}
use Rattle.engine.proofs.Behind.{for_owner, none_told}
use Rattle.engine.proofs.Failing.{ask_then}
use Rattle.engine.proofs.Serving.{Upkept, begins_upkept, completes_put, completes_then, nothing_last, upkept_looked, upkept_then}

-- ---- causes

-- a page that is brought is refused for other reasons
pub not_full : (opens : List Record → Type 0) (log_faults made : LedgerName) (own own' : Faults) (old new : Account) (h : List Entry) (f : Fault) → FailsToBring opens log_faults made own own' old new h f → LacksRoom opens h f
not_full opens log_faults made own own' old new h (faults.Full p q at) why = absurd why
not_full opens log_faults made own own' old new h _ why = tt

tells_by : (may : Fault → Type 0) (opens : List Record → Type 0) (log_faults made : LedgerName) (own : Faults) (old new : Account) (h : List Entry) (f : Fault) → FailsToEnter NoOther f → EndsBy opens log_faults made old new h f → FailsToAsk may opens log_faults made own own old new h f
tells_by may opens log_faults made own old new h faults.Memory why ends = ends
tells_by may opens log_faults made own old new h (faults.Ended at) why ends = ends
tells_by may opens log_faults made own old new h _ why ends = absurd why

pub tell_fails : {T : Type 0} (may : Fault → Type 0) (opens : List Record → Type 0) (log_faults made : LedgerName) (own : Faults) (old new : Account) (h : List Entry) (r : Result T Fault) → IfErr r (FailsToEnter NoOther) → Ends opens log_faults made old new h r → IfErr r (FailsToAsk may opens log_faults made own own old new h)
tell_fails may opens log_faults made own old new h (Ok x) why ends = tt
tell_fails may opens log_faults made own old new h (Err f) why ends = tells_by may opens log_faults made own old new h f why ends

-- ---- the calls

module _ (opens : List Record → Type 0) (ledger sessions log_faults made : LedgerName) (request : Request) (lock : Held) (h0 : List Entry) (owner0 : Option SessionClaim) (owns : OwnsLock opens h0 lock owner0) (d0 d1 : Desk) (a0 a1 : Account) (s0 s1 : PassSeen Entry)
    (found : Upkept opens ledger sessions (standing d0 a0 s0) (standing d1 a1 s1)) where
  -- the leaf isn't found
  pub lost : (f : Fault) → FailsToBring opens log_faults made d0.faults d1.faults a0 a1 s1.log f → CompletesFor opens ledger sessions owner0 request (Err f) (standing d0 a0 s0) (standing d1 a1 s1)
  lost f why = for_owner opens h0 lock owner0 (λ o. CompletesFor opens ledger sessions o request (Err f) (standing d0 a0 s0) (standing d1 a1 s1)) owns
      (λ s. nothing_last opens ledger sessions s request (Err f) (standing d0 a0 s0) (standing d1 a1 s1) (none_told opens log_faults made d0.faults d1.faults a0 a1 s1.log s request f why) found)

  module _ (a2 : Account) (s2 : PassSeen Entry) (x x' : Claims) (looked : Enters opens ledger sessions (known a1 s1 x) [] (known a2 s2 x')) where
    before : Upkept opens ledger sessions (standing d0 a0 s0) (standing d1 a2 s2)
    before = upkept_then opens ledger sessions (standing d0 a0 s0) (standing d1 a1 s1) (standing d1 a2 s2) found (upkept_looked opens ledger sessions d1 a1 a2 s1 s2 x x' looked)

    pub begins_seen : IsPrefix s0.log s2.log
    begins_seen = begins_upkept opens ledger sessions (standing d0 a0 s0) (standing d1 a2 s2) before

    module _ (owner : Option SessionClaim) (same : owner ≡ owner0) (result : Result Answered Fault) (d2 d3 : Desk) (a3 : Account) (s3 : PassSeen Entry) (back : d3 ≡ record d2 { out = d2.out - 1 }) where
      same_faults : d3.faults ≡ d2.faults
      same_faults = ap (λ (d : Desk). d.faults) back

      pub completes_all : CompletesFor opens ledger sessions owner request result (standing d1 a2 s2) (standing d2 a3 s3) → CompletesFor opens ledger sessions owner0 request result (standing d0 a0 s0) (standing d3 a3 s3)
      completes_all completes = go owner0 (subst (λ (o : Option SessionClaim). CompletesFor opens ledger sessions o request result (standing d1 a2 s2) (standing d2 a3 s3)) same completes)
        where
          go : (o : Option SessionClaim) → CompletesFor opens ledger sessions o request result (standing d1 a2 s2) (standing d2 a3 s3) → CompletesFor opens ledger sessions o request result (standing d0 a0 s0) (standing d3 a3 s3)
          go None c = absurd c
          go (Some s) c = completes_put opens ledger sessions s request result (standing d0 a0 s0) d2 d3 a3 s3 same_faults (completes_then opens ledger sessions s request result (standing d0 a0 s0) (standing d1 a2 s2) (standing d2 a3 s3) before c)

      -- causes
      module _ (none : MeetsNoEnd a0 a1) (calm : MeetsNoEnd a1 a2) where
        none_before : MeetsNoEnd a0 a2
        none_before = none_then a0 a1 a2 none calm

        pub open_all : OnOk result (MeetsNoEnd a2 a3) → OnOk result (MeetsNoEnd a0 a3)
        open_all met = go result met
          where
            go : (r : Result Answered Fault) → OnOk r (MeetsNoEnd a2 a3) → OnOk r (MeetsNoEnd a0 a3)
            go (Ok a) m = none_then a0 a2 a3 none_before m
            go (Err f) m = tt

        pub refused_all : (may : Fault → Type 0) → IfErr result (FailsToAsk may opens log_faults made d1.faults d2.faults a2 a3 s3.log) → IfErr result (FailsToAsk may opens log_faults made d0.faults d3.faults a0 a3 s3.log)
        refused_all may why = go result why
          where
            go : (r : Result Answered Fault) → IfErr r (FailsToAsk may opens log_faults made d1.faults d2.faults a2 a3 s3.log) → IfErr r (FailsToAsk may opens log_faults made d0.faults d3.faults a0 a3 s3.log)
            go (Ok a) w = tt
            go (Err f) w = ask_then may opens log_faults made a0 a2 a3 s3.log none_before before.gains.keeps d0.faults d1.faults d3.faults f before.faults (subst (λ (o : Faults). FailsToAsk may opens log_faults made d1.faults o a2 a3 s3.log f) (sym same_faults) w)
