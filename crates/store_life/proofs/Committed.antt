-- A commit where nobody else enters anything.
use Rattle.std.proofs.Common.{◌≡◌, ℕ, ◌<◌, ◌≤◌, Bool, true, false, cond, List, [], ◌∷◌, ◌++◌, Option, Some, None, Result, Ok, Err, refl, sym, ap, subst, ◌∙◌, append_assoc, append-nil, arith, inl, inr}
use Rattle.std.specs.Prelude.{OnErr, ◌==◌}
use mathlib.Core.List.{IsPrefix}
use Rattle.books.specs.Rights.{SessionClaim}
use Rattle.front.specs.Seen.{PassSeen}
use Rattle.front.proofs.Keeping.{prefix_self}
use Rattle.store_model.specs.declared.fault.Fault.{Fault}
use Rattle.store_model.specs.declared.fault.Fault.TheVariants as faults
use Rattle.wal_record.specs.Books.{session_transaction, unless_over}
use Rattle.wal_record.specs.Checkpoints.{commits}
use Rattle.wal_record.specs.History.{Committed as IsCommitting, Phase, is_over, last_begun, log_of, phase}
use Rattle.wal_record.specs.declared.record.Record.{Record}
use Rattle.wal_record.specs.declared.entry.Entry.{Entry}
use Rattle.wal_record.specs.declared.entry.Entry.TheVariants.{Acked, Rec}
use Rattle.wal_record.proofs.Pushes.{last_begun_push, phase_push}
use Rattle.life_laws.proofs.Leaving.{log_of_append}
use Rattle.page_ops.specs.Names.{LedgerName}
use Rattle.page_ops.specs.Outcomes.{Commits, CommitsOr, MayCommit}
use Rattle.page_ops.specs.Seeing.{Account, Enters, Keeps}
use Rattle.page_ops.specs.declared.outcome.Committed.{Committed}
use Rattle.page_ops.proofs.Gaining.{gains_of, keeps_then}
use Rattle.command_laws.specs.Alone.{IsAlone}
use Rattle.command_laws.specs.Commands.{commit_record}
use Rattle.command_laws.proofs.Alone.{entered, still_alone}
use Rattle.engine.specs.Sittings.{Sitting, known_by}
use Rattle.store_life.specs.Turns.{IsCommitted, IsDone, MayBeDone}

-- ---- the session's transaction, behind a Commit

still : (c b : Bool) (u : ℕ) → 0 < cond b 0 u → (q p : Phase) → is_over q ≡ false → is_over p ≡ b → cond (is_over (cond c q p)) 0 u ≡ cond b 0 u
still c true u some q p over is = absurd (omega (arith, some))
still true false u some q p over is = ap (λ (o : Bool). cond o 0 u) over
still false false u some q p over is = ap (λ (o : Bool). cond o 0 u) is

commit_keeps : (h : List Entry) (lsn tx prev session : ℕ) → 0 < session_transaction h session → session_transaction (h ++ Rec lsn (commit_record tx prev) ∷ []) session ≡ session_transaction h session
commit_keeps h lsn tx prev session some = ap (unless_over h') (last_begun_push h e session) ∙ go (last_begun h session) some
  where
    e : Entry
    e = Rec lsn (commit_record tx prev)

    h' : List Entry
    h' = h ++ e ∷ []

    go : (o : Option ℕ) → 0 < unless_over h o → unless_over h' o ≡ unless_over h o
    go None less = refl
    go (Some u) less = ap (λ (p : Phase). cond (is_over p) 0 u) (phase_push h e u) ∙ still (tx == u) (is_over (phase h u)) u less IsCommitting (phase h u) refl refl

module _ (opens : List Record → Type 0) (ledger sessions : LedgerName) (a a' : Account) (s s' : Sitting) (h : List Entry) (alone : IsAlone opens ledger a h) (begins : IsPrefix h s.seen.log) where
  module _ (es : List Entry) (e : Enters opens ledger sessions (known_by a s) es (known_by a' s')) where
    one_added : s'.seen.log ≡ h ++ es
    one_added = entered opens ledger sessions h es (known_by a s) (known_by a' s') alone begins (gains_of opens ledger sessions es (known_by a s) (known_by a' s') e)

    one_alone : IsAlone opens ledger a' s'.seen.log
    one_alone = still_alone opens ledger sessions h es (known_by a s) (known_by a' s') alone begins (gains_of opens ledger sessions es (known_by a s) (known_by a' s') e)

  module _ (session : s'.claim.session ≡ s.claim.session) (some : 0 < s.claim.tx) where
    none_kept : Enters opens ledger sessions (known_by a s) [] (known_by a' s') → s'.claim.tx ≡ s.claim.tx
    none_kept e = e.now.rights.s.tx ∙ (λ i. session_transaction ((e.is ∙ append-nil e.moment) i) (session i)) ∙ sym e.found.rights.s.tx

    commit_kept : (lsn prev : ℕ) → Enters opens ledger sessions (known_by a s) (Rec lsn (commit_record s.claim.tx prev) ∷ []) (known_by a' s') → s'.claim.tx ≡ s.claim.tx
    commit_kept lsn prev e =
        e.now.rights.s.tx ∙ (λ i. session_transaction (e.is i) (session i))
        ∙ commit_keeps e.moment lsn s.claim.tx prev s.claim.session (subst (λ (n : ℕ). 0 < n) e.found.rights.s.tx some) ∙ sym e.found.rights.s.tx

    may_kept : MayCommit opens ledger sessions s.claim (known_by a s) (known_by a' s') → s'.claim.tx ≡ s.claim.tx
    may_kept m = elim m.may [
      | inl e ↦ none_kept e
      | inr e ↦ commit_kept m.lsn m.prev e.1
    ]

    pub commit_stays : (result : Result Committed Fault) → CommitsOr opens ledger sessions s.claim result (known_by a s) (known_by a' s') → OnErr result (s'.claim.tx ≡ s.claim.tx)
    commit_stays (Ok x) e = tt
    commit_stays (Err faults.LogFault) e = may_kept e
    commit_stays (Err (faults.Ended at)) e = may_kept e
    commit_stays (Err _) e = none_kept e

  -- ---- what was entered

  may_added : MayCommit opens ledger sessions s.claim (known_by a s) (known_by a' s') → MayBeDone s.claim.tx a h s'.seen.log
  may_added m = elim m.may [
    | inl e ↦ inl (one_added [] e ∙ append-nil h)
    | inr e ↦ inr (e.0, m.lsn, m.prev, one_added (Rec m.lsn (commit_record s.claim.tx m.prev) ∷ []) e.1)
  ]

  may_alone : MayCommit opens ledger sessions s.claim (known_by a s) (known_by a' s') → IsAlone opens ledger a' s'.seen.log
  may_alone m = elim m.may [
    | inl e ↦ one_alone [] e
    | inr e ↦ one_alone (Rec m.lsn (commit_record s.claim.tx m.prev) ∷ []) e.1
  ]

  module _ (x : Committed) (c : Commits opens ledger sessions s.claim x (known_by a s) (known_by a' s')) where
    abbrev first : List Entry
    first = Rec c.lsn (commit_record s.claim.tx c.prev) ∷ []

    abbrev second : List Entry
    second = Acked s.claim.session s.claim.tx ∷ []

    there : c.between.log ≡ h ++ first
    there = entered opens ledger sessions h first (known_by a s) c.between alone begins (gains_of opens ledger sessions first (known_by a s) c.between c.commit)

    then_alone : IsAlone opens ledger c.between.account c.between.log
    then_alone = still_alone opens ledger sessions h first (known_by a s) c.between alone begins (gains_of opens ledger sessions first (known_by a s) c.between c.commit)

    now : s'.seen.log ≡ c.between.log ++ second
    now = entered opens ledger sessions c.between.log second c.between (known_by a' s') then_alone (prefix_self c.between.log) (gains_of opens ledger sessions second c.between (known_by a' s') c.acked)

    done_alone : IsAlone opens ledger a' s'.seen.log
    done_alone = still_alone opens ledger sessions c.between.log second c.between (known_by a' s') then_alone (prefix_self c.between.log) (gains_of opens ledger sessions second c.between (known_by a' s') c.acked)

    done : IsDone opens s.claim.session s.claim.tx x h s'.seen
    done = record {
      own = first ++ second;
      made = (c.lsn, c.prev, refl);
      added = now ∙ ap (λ (l : List Entry). l ++ second) there ∙ append_assoc h first second;
      durable = c.durable;
      place = c.pos;
      number = λ opening stands. c.number opening stands ∙ ap (λ (rs : List Record). commits (opening ++ rs)) (sym (ap log_of now ∙ log_of_append c.between.log second ∙ append-nil (log_of c.between.log)));
    }

  pub committed : (result : Result Committed Fault) → CommitsOr opens ledger sessions s.claim result (known_by a s) (known_by a' s') → IsCommitted opens s.claim.session s.claim.tx a result h s'.seen
  committed (Ok x) e = done x e
  committed (Err faults.LogFault) e = may_added e
  committed (Err (faults.Ended at)) e = may_added e
  committed (Err _) e = one_added [] e ∙ append-nil h

  pub commit_alone : (result : Result Committed Fault) → CommitsOr opens ledger sessions s.claim result (known_by a s) (known_by a' s') → IsAlone opens ledger a' s'.seen.log
  commit_alone (Ok x) e = done_alone x e
  commit_alone (Err faults.LogFault) e = may_alone e
  commit_alone (Err (faults.Ended at)) e = may_alone e
  commit_alone (Err _) e = one_alone [] e

-- of the session as it was handed in, and the pass behind it
module _ (opens : List Record → Type 0) (ledger sessions : LedgerName) (a a' : Account) (s0 : SessionClaim) (s s' : Sitting) (same : s.claim ≡ s0) (h : List Entry) (alone : IsAlone opens ledger a h) (begins : IsPrefix h s.seen.log)
    (now : PassSeen Entry) (is : now ≡ s'.seen) (some : 0 < s0.tx) (result : Result Committed Fault) (entered : 0 < s.claim.tx → CommitsOr opens ledger sessions s.claim result (known_by a s) (known_by a' s')) where
  there_is : 0 < s.claim.tx
  there_is = subst (λ (c : SessionClaim). 0 < c.tx) (sym same) some

  pub commits_for : IsCommitted opens s0.session s0.tx a result h now
  commits_for = subst (λ (c : SessionClaim). IsCommitted opens c.session c.tx a result h now) same (subst (λ (p : PassSeen Entry). IsCommitted opens s.claim.session s.claim.tx a result h p) (sym is) (committed opens ledger sessions a a' s s' h alone begins result (entered there_is)))

  pub commit_alone_for : IsAlone opens ledger a' now.log
  commit_alone_for = subst (λ (p : PassSeen Entry). IsAlone opens ledger a' p.log) (sym is) (commit_alone opens ledger sessions a a' s s' h alone begins result (entered there_is))

  pub stays_for : s'.claim.session ≡ s.claim.session → OnErr result (s'.claim.tx ≡ s0.tx)
  stays_for session = subst (λ (c : SessionClaim). OnErr result (s'.claim.tx ≡ c.tx)) same (commit_stays opens ledger sessions a a' s s' h alone begins session there_is result (entered there_is))

  may_last : MayCommit opens ledger sessions s.claim (known_by a s) (known_by a' s') → s.seen.durable ≤ s'.seen.durable
  may_last m = elim m.may [
    | inl e ↦ e.durable
    | inr e ↦ e.1.durable
  ]

  lasts : (r : Result Committed Fault) → CommitsOr opens ledger sessions s.claim r (known_by a s) (known_by a' s') → s.seen.durable ≤ s'.seen.durable
  lasts (Ok x) e = let d = e.commit.durable in let d' = e.acked.durable in omega (arith, d, d')
  lasts (Err faults.LogFault) e = may_last e
  lasts (Err (faults.Ended at)) e = may_last e
  lasts (Err _) e = e.durable

  pub durable_for : (old : ℕ) → old ≤ s.seen.durable → old ≤ now.durable
  durable_for old low = let d = lasts result (entered there_is) in let e = ap (λ (p : PassSeen Entry). p.durable) is in omega (arith, d, e, low)

  may_keep : MayCommit opens ledger sessions s.claim (known_by a s) (known_by a' s') → Keeps a a'
  may_keep m = elim m.may [
    | inl e ↦ e.keeps
    | inr e ↦ e.1.keeps
  ]

  keeps : (r : Result Committed Fault) → CommitsOr opens ledger sessions s.claim r (known_by a s) (known_by a' s') → Keeps a a'
  keeps (Ok x) e = keeps_then a e.between.account a' e.commit.keeps e.acked.keeps
  keeps (Err faults.LogFault) e = may_keep e
  keeps (Err (faults.Ended at)) e = may_keep e
  keeps (Err _) e = e.keeps

  pub keeps_for : Keeps a a'
  keeps_for = keeps result (entered there_is)
