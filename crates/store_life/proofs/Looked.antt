-- Calls that see the history and enter nothing, or a record alone, where nobody else enters anything.
use Rattle.std.proofs.Common.{◌≡◌, ℕ, ◌<◌, ◌≤◌, List, [], ◌∷◌, ◌++◌, Result, Ok, Err, sym, ap, subst, ◌∙◌, append-nil, arith, inl, inr}
use Rattle.std.specs.Prelude.{◌⊎◌, IfErr, OnErr, OnOk, is_some}
use mathlib.Core.List.{IsPrefix}
use Rattle.books.specs.Rights.{SessionClaim}
use Rattle.front.specs.Seen.{PassSeen}
use Rattle.front.proofs.Keeping.{prefix_self}
use Rattle.store_model.specs.declared.fault.Fault.{Fault}
use Rattle.store_model.specs.declared.fault.Fault.TheVariants as faults
use Rattle.wal_record.specs.declared.record.Record.{Record}
use Rattle.wal_record.specs.declared.record.Record.TheVariants as kinds
use Rattle.wal_record.specs.declared.entry.Entry.{Entry}
use Rattle.wal_record.specs.declared.entry.Entry.TheVariants.{Rec}
use Rattle.page_ops.specs.Causes.{FailsToBring, FindsEnd, MeetsNoEnd}
use Rattle.page_ops.specs.Claims.{SessionAgrees, no_claims}
use Rattle.page_ops.specs.Desks.{Faults}
use Rattle.page_ops.specs.Gains.{Gains}
use Rattle.page_ops.specs.Names.{LedgerName}
use Rattle.page_ops.specs.Seeing.{Account, Enters, Keeps, Looks, known}
use Rattle.page_ops.proofs.Gaining.{gains_of}
use Rattle.command_laws.specs.Alone.{IsAlone}
use Rattle.command_laws.proofs.Alone.{entered, still_alone}
use Rattle.maintenance.specs.Marks.{GainsMark, TakesMark}
use Rattle.engine.specs.Sittings.{Sitting, known_by}
use Rattle.store_life.specs.Turns.{EndsBy, HasMark, IsMarked, UndoesBy}
use Rattle.store_life.proofs.Aborted.{ends_by}

module _ (opens : List Record → Type 0) (ledger sessions : LedgerName) (a a' : Account) (t t' : PassSeen Entry) (alone : IsAlone opens ledger a t.log) where
  module _ (looks : Looks opens ledger sessions a t a' t') where
    pub looked_same : t'.log ≡ t.log
    looked_same = entered opens ledger sessions t.log [] (known a t no_claims) (known a' t' no_claims) alone (prefix_self t.log) (gains_of opens ledger sessions [] (known a t no_claims) (known a' t' no_claims) looks) ∙ append-nil t.log

    pub looked_alone : IsAlone opens ledger a' t'.log
    looked_alone = still_alone opens ledger sessions t.log [] (known a t no_claims) (known a' t' no_claims) alone (prefix_self t.log) (gains_of opens ledger sessions [] (known a t no_claims) (known a' t' no_claims) looks)

  -- ---- checkpoints, and losses of the data device

  module _ (es : List Entry) (g : Gains opens ledger sessions es (known a t no_claims) (known a' t' no_claims)) where
    gained_log : t'.log ≡ t.log ++ es
    gained_log = entered opens ledger sessions t.log es (known a t no_claims) (known a' t' no_claims) alone (prefix_self t.log) g

    gained_alone : IsAlone opens ledger a' t'.log
    gained_alone = still_alone opens ledger sessions t.log es (known a t no_claims) (known a' t' no_claims) alone (prefix_self t.log) g

    gained_durable : t.durable ≤ t'.durable
    gained_durable = g.durable

  none : Gains opens ledger sessions [] (known a t no_claims) (known a' t' no_claims) → t'.log ≡ t.log
  none g = gained_log [] g ∙ append-nil t.log

  module _ (A : Type 0) (mark : A → Record) where
    has : (lsn : ℕ) → GainsMark A mark opens ledger sessions lsn (known a t no_claims) (known a' t' no_claims) → HasMark A mark lsn t.log t'.log
    has lsn g = (g.0, gained_log (Rec lsn (mark g.0) ∷ []) g.1)

    pub marked : (result : Result ℕ Fault) → TakesMark A mark opens ledger sessions result (known a t no_claims) (known a' t' no_claims) → IsMarked A mark result t.log t'.log
    marked (Ok lsn) g = has lsn g
    marked (Err faults.Memory) g = none g
    marked (Err faults.LogFault) g = (g.0, has g.0 g.1)
    marked (Err _) g = elim g [
      | inl n ↦ inl (none n)
      | inr c ↦ inr (c.0, has c.0 c.1)
    ]

    alone_by : (lsn : ℕ) → GainsMark A mark opens ledger sessions lsn (known a t no_claims) (known a' t' no_claims) → IsAlone opens ledger a' t'.log
    alone_by lsn g = gained_alone (Rec lsn (mark g.0) ∷ []) g.1

    pub marked_alone : (result : Result ℕ Fault) → TakesMark A mark opens ledger sessions result (known a t no_claims) (known a' t' no_claims) → IsAlone opens ledger a' t'.log
    marked_alone (Ok lsn) g = alone_by lsn g
    marked_alone (Err faults.Memory) g = gained_alone [] g
    marked_alone (Err faults.LogFault) g = alone_by g.0 g.1
    marked_alone (Err _) g = elim g [
      | inl n ↦ gained_alone [] n
      | inr c ↦ alone_by c.0 c.1
    ]

    pub marked_durable : (result : Result ℕ Fault) → TakesMark A mark opens ledger sessions result (known a t no_claims) (known a' t' no_claims) → t.durable ≤ t'.durable
    marked_durable (Ok lsn) g = g.1.durable
    marked_durable (Err faults.Memory) g = g.durable
    marked_durable (Err faults.LogFault) g = g.1.1.durable
    marked_durable (Err _) g = elim g [
      | inl n ↦ n.durable
      | inr c ↦ c.1.1.durable
    ]

    pub marked_keeps : (result : Result ℕ Fault) → TakesMark A mark opens ledger sessions result (known a t no_claims) (known a' t' no_claims) → Keeps a a'
    marked_keeps (Ok lsn) g = g.1.keeps
    marked_keeps (Err faults.Memory) g = g.keeps
    marked_keeps (Err faults.LogFault) g = g.1.1.keeps
    marked_keeps (Err _) g = elim g [
      | inl n ↦ n.keeps
      | inr c ↦ c.1.1.keeps
    ]

-- ---- causes, where a look follows that met no end

module _ (opens : List Record → Type 0) (log_faults made : LedgerName) (own own' : Faults) (old a a' : Account) (calm : MeetsNoEnd a a') where
  still_none : MeetsNoEnd old a → MeetsNoEnd old a'
  still_none m = record { ended = calm.ended ∙ m.ended; amount = calm.amount ∙ m.amount }

  still_ended : (h : List Entry) (at : ℕ) → FindsEnd opens log_faults made old a h at → FindsEnd opens log_faults made old a' h at
  still_ended h at e = record { now = calm.ended ∙ e.now; before = e.before; amount = calm.amount ∙ e.amount; cause = e.cause }

  rose : (own.log < own'.log) ⊎ (old.log_faults.amount < a.log_faults.amount) → (own.log < own'.log) ⊎ (old.log_faults.amount < a'.log_faults.amount)
  rose r = elim r [
    | inl l ↦ inl l
    | inr l ↦ inr (let same = calm.amount in omega (arith, l, same))
  ]

  pub then_fails : (h : List Entry) (f : Fault) → FailsToBring opens log_faults made own own' old a h f → FailsToBring opens log_faults made own own' old a' h f
  then_fails h faults.Memory e = still_none e
  then_fails h faults.LogFault e = (ap is_some calm.ended ∙ e.0, rose e.1)
  then_fails h faults.VaultFault e = (still_none e.0, e.1)
  then_fails h (faults.Ended at) e = still_ended h at e
  then_fails h (faults.LogBad block byte) e = (still_none e.0, e.1)
  then_fails h (faults.VaultBad object byte) e = (still_none e.0, e.1)
  then_fails h _ e = absurd e

  pub then_refused : {T : Type 0} (h : List Entry) (r : Result T Fault) → IfErr r (FailsToBring opens log_faults made own own' old a h) → IfErr r (FailsToBring opens log_faults made own own' old a' h)
  then_refused h (Ok x) e = tt
  then_refused h (Err f) e = then_fails h f e

pub then_open : {T : Type 0} (old a a' : Account) (r : Result T Fault) → MeetsNoEnd a a' → OnOk r (MeetsNoEnd old a) → OnOk r (MeetsNoEnd old a')
then_open old a a' (Ok x) calm m = record { ended = calm.ended ∙ m.ended; amount = calm.amount ∙ m.amount }
then_open old a a' (Err f) calm m = tt

-- ---- a session that is shown the history again

module _ (opens : List Record → Type 0) (ledger sessions : LedgerName) (a a' : Account) (p : PassSeen Entry) (s s' : Sitting) (now : PassSeen Entry) (alone : IsAlone opens ledger a p.log) (seen : s.seen ≡ p) (shown : Enters opens ledger sessions (known_by a s) [] (known_by a' s')) (is : now ≡ s'.seen) where
  begins : IsPrefix p.log s.seen.log
  begins = ([], append-nil p.log ∙ ap (λ (t : PassSeen Entry). t.log) (sym seen))

  same_there : s'.seen.log ≡ p.log
  same_there = entered opens ledger sessions p.log [] (known_by a s) (known_by a' s') alone begins (gains_of opens ledger sessions [] (known_by a s) (known_by a' s') shown) ∙ append-nil p.log

  pub again_same : now.log ≡ p.log
  again_same = ap (λ (t : PassSeen Entry). t.log) is ∙ same_there

  pub again_alone : IsAlone opens ledger a' now.log
  again_alone = subst (λ (t : PassSeen Entry). IsAlone opens ledger a' t.log) (sym is) (still_alone opens ledger sessions p.log [] (known_by a s) (known_by a' s') alone begins (gains_of opens ledger sessions [] (known_by a s) (known_by a' s') shown))

  pub again_durable : (old : ℕ) → old ≤ p.durable → old ≤ now.durable
  again_durable old low =
      let d = shown.durable in
      let e = ap (λ (t : PassSeen Entry). t.durable) seen in
      let f = ap (λ (t : PassSeen Entry). t.durable) is in
      omega (arith, low, d, e, f)

  pub again_ends : (tx : ℕ) (h : List Entry) (result : Result ℕ Fault) → 0 < tx → s'.claim ≡ s.claim → OnErr result (s.claim.tx ≡ tx) → UndoesBy (Unit {0}) opens tx result h p.log → EndsBy opens tx result h now.log
  again_ends tx h result some same stays u =
      subst (λ (l : List Entry). EndsBy opens tx result h l) (sym again_same)
      (ends_by opens tx s.claim h p.log result some stays (subst (λ (l : List Entry). SessionAgrees l s.claim) same_there (subst (λ (c : SessionClaim). SessionAgrees s'.seen.log c) same shown.now.rights.s)) u)
