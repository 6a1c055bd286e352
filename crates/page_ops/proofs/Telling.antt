-- An object that tells of the log disk's calls too, by one that doesn't.
use Rattle.std.proofs.Common.{◌≡◌, List, [], ℕ, Option, Result, Ok, Err, inl, inr, sym, subst, arith, ◌∙◌}
use Rattle.std.specs.Prelude.{OnOk}
use Rattle.front.specs.Seen.{PassSeen}
use Rattle.wal_record.specs.declared.record.Record.{Record}
use Rattle.wal_record.specs.declared.entry.Entry.{Entry}
use Rattle.store_model.specs.declared.fault.Fault.{Fault}
use Rattle.store_model.specs.declared.fault.Fault.TheVariants as faults
use Rattle.page_ops.specs.Claims.{Claims}
use Rattle.books.specs.Rights.{SessionClaim}
use Rattle.page_ops.specs.Names.{LedgerName}
use Rattle.page_ops.specs.Outcomes.{EntersGroup, CommitsOr, Commits, MayCommit}
use Rattle.page_ops.proofs.Gaining.{calls_same}
use Rattle.page_ops.specs.Seeing.{Account, Calls, CallsGoOn, Enters, Keeps, known}
use Rattle.page_ops.specs.declared.group.Group.{Group}
use Rattle.page_ops.specs.declared.outcome.Entered.{Entered}
use Rattle.page_ops.specs.declared.outcome.Committed.{Committed}

-- the same account, with this
abbrev pub telling : Account → Option Calls → Account
telling a x = record a { calls = x }

module _ (x y : Option Calls) (a b : Account) (go : CallsGoOn x y a.log_faults.amount b.log_faults.amount) where
  keeps_telling : Keeps a b → Keeps (telling a x) (telling b y)
  keeps_telling k = record {
    entry_parts = k.entry_parts;
    session_parts = k.session_parts;
    log_parts = k.log_parts;
    vault_parts = k.vault_parts;
    log_faults = k.log_faults;
    vault_faults = k.vault_faults;
    made = k.made;
    ended = k.ended;
    calls = go;
  }

  module _ (opens : List Record → Type 0) (entries sessions : LedgerName) (p q : PassSeen Entry) (c d : Claims) where
    pub enters_telling : (es : List Entry) → Enters opens entries sessions (known a p c) es (known b q d) → Enters opens entries sessions (known (telling a x) p c) es (known (telling b y) q d)
    enters_telling es e = record {
      moment = e.moment;
      found = e.found;
      is = e.is;
      now = e.now;
      durable = e.durable;
      keeps = keeps_telling e.keeps;
      counted = e.counted;
      sessions_counted = e.sessions_counted;
      totals = record { all = e.totals.all; of_sessions = e.totals.of_sessions };
    }

    pub group_telling : (asked now : Group) (result : Result Entered Fault) → EntersGroup opens entries sessions asked now result (known a p c) (known b q d)
        → EntersGroup opens entries sessions asked now result (known (telling a x) p c) (known (telling b y) q d)
    unfolding enters_telling
    group_telling asked now result g = record { enters = enters_telling _ g.enters; room = g.room }

    may_telling : (s : SessionClaim) → MayCommit opens entries sessions s (known a p c) (known b q d) → MayCommit opens entries sessions s (known (telling a x) p c) (known (telling b y) q d)
    may_telling s m = record {
      lsn = m.lsn;
      prev = m.prev;
      may = elim m.may [
        | inl e ↦ inl (enters_telling [] e)
        | inr e ↦ inr (e.0, enters_telling _ e.1)
      ];
    }

-- a commit, between whose two entries no fault came
module _ (opens : List Record → Type 0) (entries sessions : LedgerName) (x y : Option Calls) (a b : Account) (p q : PassSeen Entry) (c d : Claims) (go : CallsGoOn x y a.log_faults.amount b.log_faults.amount) where
  commits_telling : (s : SessionClaim) (answer : Committed) → b.log_faults.amount ≡ a.log_faults.amount → Commits opens entries sessions s answer (known a p c) (known b q d)
      → Commits opens entries sessions s answer (known (telling a x) p c) (known (telling b y) q d)
  commits_telling s answer same m =
      let first = m.commit.keeps.log_faults in
      let then = m.acked.keeps.log_faults in
      let here : m.between.account.log_faults.amount ≡ a.log_faults.amount = omega (arith, first, then, same) in
      record {
        lsn = m.lsn;
        prev = m.prev;
        between = record m.between { account = telling m.between.account y };
        commit = enters_telling x y a m.between.account (subst (λ (n : ℕ). CallsGoOn x y a.log_faults.amount n) (same ∙ sym here) go) opens entries sessions p (record { log = m.between.log; durable = m.between.durable }) c m.between.claims _ m.commit;
        acked = enters_telling y y m.between.account b (calls_same y m.between.account.log_faults.amount b.log_faults.amount (same ∙ sym here)) opens entries sessions (record { log = m.between.log; durable = m.between.durable }) q m.between.claims d _ m.acked;
        pos = m.pos;
        number = m.number;
        durable = m.durable;
      }

  pub commits_or_telling : (s : SessionClaim) (result : Result Committed Fault) → OnOk result (b.log_faults.amount ≡ a.log_faults.amount) → CommitsOr opens entries sessions s result (known a p c) (known b q d)
      → CommitsOr opens entries sessions s result (known (telling a x) p c) (known (telling b y) q d)
  commits_or_telling s (Ok answer) same m = commits_telling s answer same m
  commits_or_telling s (Err faults.LogFault) same m = may_telling x y a b go opens entries sessions p q c d s m
  commits_or_telling s (Err (faults.Ended at)) same m = may_telling x y a b go opens entries sessions p q c d s m
  commits_or_telling s (Err fault) same m = enters_telling x y a b go opens entries sessions p q c d [] m
