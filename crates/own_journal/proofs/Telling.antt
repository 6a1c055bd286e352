-- The account of a thread that owns its journal: what the journal's clauses say of its counts, with the calls of the log disk.
use Rattle.std.proofs.Common.{◌≡◌, ℕ, ◌<◌, List, [], Option, Some, None, Result, Ok, Err, refl, sym, ap, subst, ◌∙◌, arith, append-nil, inl, inr}
use Rattle.std.specs.Prelude.{IfErr, IfSome, IsErrAnd, OnOk}
use Rattle.front.specs.Seen.{PassSeen}
use Rattle.log_blocks.specs.Opening.{IsLogFault}
use Rattle.journal.specs.State.{BlamesDisk, IsUntouched, JournalState, KnowsEnd, LearnsEnd}
use Rattle.journal.proofs.Calls.{no_calls}
use Rattle.own_journal.specs.Told.{told}
use Rattle.page_ops.specs.Causes.{Ends, FailsToEnter, IsEnd, MeetsNoFault, NoOther, OrConflict, OrFull, OrTooMany}
use Rattle.page_ops.specs.Names.{LedgerName}
use Rattle.page_ops.specs.Seeing.{Account, Calls, CallsGoOn, Enters, HasTotals, Looks, known, of_sessions}
use Rattle.page_ops.proofs.Gaining.{calls_same}
use Rattle.page_ops.proofs.Telling.{enters_telling}
use Rattle.page_ops.specs.Claims.{Claims}
use Rattle.store_model.specs.declared.fault.Fault.{Fault}
use Rattle.store_model.specs.declared.fault.Fault.TheVariants as faults
use Rattle.wal_record.specs.declared.record.Record.{Record}
use Rattle.wal_record.specs.declared.entry.Entry.{Entry}

-- ---- calls that don't answer a fault of the log disk

pub never_enters : {T : Type 0} (r : Result T Fault) → IfErr r (FailsToEnter NoOther) → IsErrAnd r IsLogFault → ⊥
never_enters (Ok x) fails is = is
never_enters (Err faults.LogFault) fails is = fails
never_enters (Err fault) fails is = is

pub never_full : {T : Type 0} (r : Result T Fault) → IfErr r (FailsToEnter OrFull) → IsErrAnd r IsLogFault → ⊥
never_full (Ok x) fails is = is
never_full (Err faults.LogFault) fails is = fails
never_full (Err fault) fails is = is

pub never_conflict : {T : Type 0} (r : Result T Fault) → IfErr r (FailsToEnter OrConflict) → IsErrAnd r IsLogFault → ⊥
never_conflict (Ok x) fails is = is
never_conflict (Err faults.LogFault) fails is = fails
never_conflict (Err fault) fails is = is

pub never_many : {T : Type 0} (r : Result T Fault) → IfErr r (FailsToEnter OrTooMany) → IsErrAnd r IsLogFault → ⊥
never_many (Ok x) fails is = is
never_many (Err faults.LogFault) fails is = fails
never_many (Err fault) fails is = is

pub never_ended : {T : Type 0} (r : Result T Fault) → IfErr r IsEnd → IsErrAnd r IsLogFault → ⊥
never_ended (Ok x) fails is = is
never_ended (Err faults.LogFault) fails is = fails
never_ended (Err fault) fails is = is

-- ---- calls between which the counts were these

module _ (opens : List Record → Type 0) (log_faults made : LedgerName) (a b : Account) (h : List Entry) where
  -- more faults of the log disk were counted only where one is answered
  faulted : {T : Type 0} (r : Result T Fault) → Ends opens log_faults made a b h r → a.log_faults.amount < b.log_faults.amount → IsErrAnd r IsLogFault
  faulted (Ok x) e more = let before = e.0.1 in let now = e.1.1 in absurd (omega (arith, before, now, more))
  faulted (Err faults.Memory) e more = let same = e.amount in absurd (omega (arith, same, more))
  faulted (Err faults.LogFault) e more = tt
  faulted (Err (faults.Ended at)) e more = let same = e.amount in absurd (omega (arith, same, more))
  faulted (Err _) e more = let before = e.0.1 in let now = e.1.1 in absurd (omega (arith, before, now, more))

  pub unfaulted : {T : Type 0} (r : Result T Fault) → Ends opens log_faults made a b h r → OnOk r (b.log_faults.amount ≡ a.log_faults.amount)
  unfaulted (Ok x) e = e.1.1 ∙ sym e.0.1
  unfaulted (Err fault) e = tt

  -- the calls of the log disk go on
  pub calls_on : {T : Type 0} (x y : Calls) (r : Result T Fault) → Ends opens log_faults made a b h r → BlamesDisk x y (IsErrAnd r IsLogFault) → CallsGoOn (Some x) (Some y) a.log_faults.amount b.log_faults.amount
  calls_on x y r e d = record { unarmed = d.unarmed; refused = d.refused_later; own = d.own_later; cause = λ more. d.cause (faulted r e more) }

  -- where none was made
  pub calls_still : {T : Type 0} (j k : JournalState) (r : Result T Fault) → Ends opens log_faults made a b h r → IsUntouched j k → (IsErrAnd r IsLogFault → ⊥) → CallsGoOn (Some j.calls) (Some k.calls) a.log_faults.amount b.log_faults.amount
  calls_still j k r e still never = calls_on j.calls k.calls r e (no_calls j.calls k.calls (IsErrAnd r IsLogFault) (sym still.calls) never)

  -- why a call is refused
  pub ends_told : {T : Type 0} (x y : Calls) (r : Result T Fault) → Ends opens log_faults made a b h r → Ends opens log_faults made (told a x) (told b y) h r
  ends_told x y (Ok t) e = e
  ends_told x y (Err faults.Memory) e = record { ended = e.ended; amount = e.amount }
  ends_told x y (Err faults.LogFault) e = e
  ends_told x y (Err (faults.Ended at)) e = record { now = e.now; before = e.before; amount = e.amount; cause = e.cause }
  ends_told x y (Err _) e = e

-- ---- calls that leave the counts and the log disk as they were

pub untouched_same : (j k : JournalState) → k ≡ j → IsUntouched j k
untouched_same j k e = record { ended = ap (λ (s : JournalState). s.ended) e; calls = ap (λ (s : JournalState). s.calls) e; blocks = ap (λ (s : JournalState). s.blocks) e }

same_calls : (a b : Account) (j k : JournalState) → b ≡ a → IsUntouched j k → CallsGoOn (Some j.calls) (Some k.calls) a.log_faults.amount b.log_faults.amount
same_calls a b j k same still = subst (λ (c : Calls). CallsGoOn (Some j.calls) (Some c) a.log_faults.amount b.log_faults.amount) (sym still.calls)
    (calls_same (Some j.calls) a.log_faults.amount b.log_faults.amount (ap (λ (x : Account). x.log_faults.amount) same))

pub calm_told : (a b : Account) (x y : Calls) → b ≡ a → MeetsNoFault (told a x) (told b y)
calm_told a b x y same = record {
  end = record { ended = ap (λ (c : Account). c.ended) same; amount = ap (λ (c : Account). c.log_faults.amount) same };
  vault = ap (λ (c : Account). c.vault_faults.amount) same;
}

-- ---- what is entered

module _ (opens : List Record → Type 0) (entries sessions : LedgerName) (a b : Account) (j k : JournalState) (p q : PassSeen Entry) (c d : Claims) where
  pub enters_same : (es : List Entry) → b ≡ a → IsUntouched j k → Enters opens entries sessions (known a p c) es (known b q d) → Enters opens entries sessions (known (told a j.calls) p c) es (known (told b k.calls) q d)
  enters_same es same still = enters_telling (Some j.calls) (Some k.calls) a b (same_calls a b j k same still) opens entries sessions p q c d es

  module _ (log_faults made : LedgerName) {T : Type 0} (r : Result T Fault) (ends : Ends opens log_faults made a b q.log r) where
    pub enters_still : (es : List Entry) → IsUntouched j k → (IsErrAnd r IsLogFault → ⊥) → Enters opens entries sessions (known a p c) es (known b q d)
        → Enters opens entries sessions (known (told a j.calls) p c) es (known (told b k.calls) q d)
    enters_still es still never = enters_telling (Some j.calls) (Some k.calls) a b (calls_still opens log_faults made a b q.log j k r ends still never) opens entries sessions p q c d es

    -- one session or desk more was made
    pub enters_made : IsUntouched j k → (IsErrAnd r IsLogFault → ⊥) → Enters opens entries sessions (known (record a { made = b.made }) p c) [] (known b q d)
        → Enters opens entries sessions (known (told (record a { made = b.made }) j.calls) p c) [] (known (told b k.calls) q d)
    enters_made still never = enters_telling (Some j.calls) (Some k.calls) (record a { made = b.made }) b (calls_still opens log_faults made a b q.log j k r ends still never) opens entries sessions p q c d []

    pub enters_calling : (es : List Entry) → BlamesDisk j.calls k.calls (IsErrAnd r IsLogFault) → Enters opens entries sessions (known a p c) es (known b q d)
        → Enters opens entries sessions (known (told a j.calls) p c) es (known (told b k.calls) q d)
    enters_calling es blames = enters_telling (Some j.calls) (Some k.calls) a b (calls_on opens log_faults made a b q.log j.calls k.calls r ends blames) opens entries sessions p q c d es

-- ---- what was counted before a look counts what it saw

pub totals_looked : (opens : List Record → Type 0) (entries sessions : LedgerName) (a b : Account) (p q : PassSeen Entry) → Looks opens entries sessions a p b q → HasTotals entries sessions a q.log
totals_looked opens entries sessions a b p q e =
    let same : of_sessions q.log ≡ of_sessions e.moment = ap of_sessions (e.is ∙ append-nil e.moment) in
    let n = e.counted in
    let m = e.sessions_counted in
    record {
      all = λ parts. let l = e.totals.all (e.keeps.entry_parts ∙ parts) in omega (arith, l, n);
      of_sessions = λ parts. let l = e.totals.of_sessions (e.keeps.session_parts ∙ parts) in omega (arith, l, m, same);
    }

-- ---- the end

pub learnt_told : (a b : Account) (j k : JournalState) (end : Option ℕ) → b ≡ record a { ended = end } → k ≡ j → told b k.calls ≡ record (told a j.calls) { ended = end }
learnt_told a b j k end is same = λ i. told (is i) (same i).calls

no_end : (a : Account) (j : JournalState) → KnowsEnd a j → j.ended ≡ None → a.ended ≡ None
no_end a j knows none = by a.ended refl
  where
    by : (o : Option ℕ) → a.ended ≡ o → o ≡ None
    by None is = refl
    by (Some at) is = absurd (cc (sym none ∙ knows at is))

-- where the life goes on, nothing is learnt of an end
pub unlearnt : (a b : Account) (j k : JournalState) (end : Option ℕ) → KnowsEnd a j → j.ended ≡ None → k ≡ j → b ≡ record a { ended = end } → LearnsEnd a b k.ended → end ≡ None
unlearnt a b j k end knows none same is (inl before) = sym (ap (λ (x : Account). x.ended) is) ∙ before ∙ no_end a j knows none
unlearnt a b j k end knows none same is (inr told_now) = sym (ap (λ (x : Account). x.ended) is) ∙ told_now ∙ ap (λ (s : JournalState). s.ended) same ∙ none

pub unlearnt_same : (a b : Account) (j : JournalState) (end : Option ℕ) → KnowsEnd a j → j.ended ≡ None → b ≡ record a { ended = end } → end ≡ None → b ≡ a
unlearnt_same a b j end knows none is unended = is ∙ ap (λ (o : Option ℕ). record a { ended = o }) (unended ∙ sym (no_end a j knows none))

pub knew : (a : Account) (j : JournalState) (end : Option ℕ) → KnowsEnd a j → end ≡ j.ended → IfSome a.ended (λ at. end ≡ Some at)
knew a j end knows is = by a.ended refl
  where
    by : (o : Option ℕ) → a.ended ≡ o → IfSome o (λ at. end ≡ Some at)
    by None e = tt
    by (Some at) e = is ∙ knows at e
