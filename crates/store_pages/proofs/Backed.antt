-- What a backup and an archive add to a life of which nobody else enters anything.
use Rattle.std.proofs.Common.{◌≡◌, ℕ, ◌+◌, ◌<◌, ◌≤◌, Bool, true, false, List, [], ◌∷◌, ◌++◌, Result, Ok, Err, sym, subst, ◌∙◌, append-nil, arith, inl, inr, refl}
use Rattle.std.specs.Prelude.{◌⊎◌}
use Rattle.std.specs.List.{All}
use Rattle.std.proofs.lemmas.Bool.{eqb-true}
use Rattle.std.proofs.lemmas.List.Elements.{All-cons, All-nil}
use Rattle.front.specs.Seen.{PassSeen}
use Rattle.front.proofs.Keeping.{prefix_self}
use Rattle.store_model.specs.declared.fault.Fault.{Fault}
use Rattle.store_model.specs.declared.fault.Fault.TheVariants as faults
use Rattle.wal_record.specs.declared.entry.Entry.{Entry}
use Rattle.wal_record.specs.declared.entry.Entry.TheVariants.{Rec, Repaired}
use Rattle.wal_record.specs.declared.record.Record.{Record}
use Rattle.wal_record.specs.declared.record.Record.TheVariants as kinds
use Rattle.page_ops.specs.Causes.{FailsToBring}
use Rattle.page_ops.specs.Claims.{no_claims}
use Rattle.page_ops.specs.Gains.{Gains}
use Rattle.page_ops.specs.Groups.{Each}
use Rattle.page_ops.specs.Names.{LedgerName}
use Rattle.page_ops.specs.Seeing.{Account, Keeps, known}
use Rattle.segment_restore.specs.Faults.{of_vault}
use Rattle.command_laws.specs.Alone.{IsAlone}
use Rattle.command_laws.specs.Names.{Active, AreNamed}
use Rattle.command_laws.proofs.Alone.{entered, still_alone}
use Rattle.command_laws.proofs.Listed.{each_by}
use Rattle.command_laws.proofs.Living.{BeginsNone, all_weaker, still_named}
use Rattle.backups.specs.Backups as backups
use Rattle.archiving.specs.Archives as archives
use Rattle.store_pages.specs.Backed.{AddsBackup, AddsRuns, Archives, ArchivesNext, BacksUp, IsOfBackup, IsRunEntry, MakesUpto}

-- ---- which entries

of_backup : (backup : ℕ) (e : Entry) → backups.is_of_backup backup e ≡ true → IsOfBackup backup e
of_backup backup (Rec lsn (kinds.BackupDone b)) is = eqb-true b.backup backup is
of_backup backup (Rec lsn (kinds.Written w)) is = tt
of_backup backup (Rec lsn (kinds.Restored r)) is = tt
of_backup backup (Repaired page) is = tt
of_backup backup _ is = absurd (cc is)

backup_none : (backup : ℕ) (e : Entry) → IsOfBackup backup e → BeginsNone e
backup_none backup (Rec lsn r) is = tt
backup_none backup (Repaired page) is = tt
backup_none backup _ is = absurd is

runs_all : (next : ℕ) (own : List Entry) (behind : ℕ) → archives.Follow next own behind → All IsRunEntry own
runs_all next [] behind f = All-nil IsRunEntry
runs_all next (Rec lsn (kinds.RunDone d) ∷ es) behind f = All-cons IsRunEntry (Rec lsn (kinds.RunDone d)) es tt (runs_all _ es behind f.2)
runs_all next (_ ∷ es) behind f = absurd f

run_none : (e : Entry) → IsRunEntry e → BeginsNone e
run_none (Rec lsn (kinds.RunDone d)) is = tt
run_none _ is = absurd is

pub backup_named : (opens : List Record → Type 0) (r : Result ℕ Fault) (h h' : List Entry) (durable : ℕ) (active : List Active) → BacksUp opens r h h' durable → AreNamed h active → AreNamed h' active
backup_named opens (Ok backup) h h' durable active b named = subst (λ (l : List Entry). AreNamed l active) (sym b.0.added) (still_named h b.0.own active (all_weaker (IsOfBackup backup) BeginsNone (backup_none backup) b.0.own b.0.each) named)
backup_named opens (Err f) h h' durable active b named = subst (λ (l : List Entry). AreNamed l active) (sym b.1.added) (still_named h b.1.own active (all_weaker (IsOfBackup b.0) BeginsNone (backup_none b.0) b.1.own b.1.each) named)

runs_named : (h h' : List Entry) (active : List Active) → AddsRuns h h' → AreNamed h active → AreNamed h' active
runs_named h h' active a named = subst (λ (l : List Entry). AreNamed l active) (sym a.added) (still_named h a.own active (all_weaker IsRunEntry BeginsNone run_none a.own a.each) named)

pub archive_named : (opens : List Record → Type 0) (r : Result ℕ Fault) (h h' : List Entry) (durable : ℕ) (active : List Active) → Archives opens r h h' durable → AreNamed h active → AreNamed h' active
archive_named opens (Ok count) h h' durable active a named = runs_named h h' active a.0 named
archive_named opens (Err f) h h' durable active a named = runs_named h h' active a named

pub upto_runs : (n : ℕ) (h h' : List Entry) → MakesUpto n h h' → AddsRuns h h'
upto_runs n h h' m = record { own = m.0; each = m.1; added = m.3 }

pub next_named : (opens : List Record → Type 0) (r : Result Bool Fault) (h h' : List Entry) (before now : ℕ) (active : List Active) → ArchivesNext opens r h h' before now → AreNamed h active → AreNamed h' active
next_named opens (Ok true) h h' before now active a named = runs_named h h' active a.0 named
next_named opens (Ok false) h h' before now active a named = subst (λ (l : List Entry). AreNamed l active) (sym a.0) named
next_named opens (Err f) h h' before now active a named = runs_named h h' active (upto_runs 1 h h' a) named

-- ---- where more is durable

each_later : (P Q : Entry → Type 0) → ((e : Entry) → P e → Q e) → (es : List Entry) → Each P es → Each Q es
each_later P Q f [] all = tt
each_later P Q f (e ∷ es) all = (f e all.0, each_later P Q f es all.1)

backup_durable : (d d' : ℕ) → d ≤ d' → (e : Entry) → backups.IsDurable d e → backups.IsDurable d' e
backup_durable d d' more (Rec lsn (kinds.BackupDone b)) is = omega (arith, more, is)
backup_durable d d' more _ is = tt

run_durable : (d d' : ℕ) → d ≤ d' → (e : Entry) → archives.IsDurable d e → archives.IsDurable d' e
run_durable d d' more (Rec lsn (kinds.RunDone x)) is = omega (arith, more, is)
run_durable d d' more _ is = tt

pub backup_later : (opens : List Record → Type 0) (r : Result ℕ Fault) (h h' : List Entry) (d d' : ℕ) → d ≤ d' → BacksUp opens r h h' d → BacksUp opens r h h' d'
backup_later opens (Ok backup) h h' d d' more b = (b.0, λ opening may. let w = b.1 opening may in (w.0, each_later (backups.IsDurable d) (backups.IsDurable d') (backup_durable d d' more) b.0.own w.1))
backup_later opens (Err f) h h' d d' more b = b

pub archive_later : (opens : List Record → Type 0) (r : Result ℕ Fault) (h h' : List Entry) (d d' : ℕ) → d ≤ d' → Archives opens r h h' d → Archives opens r h h' d'
archive_later opens (Ok count) h h' d d' more a = (a.0, a.1, λ opening may. let w = a.2 opening may in (w.0, each_later (archives.IsDurable d) (archives.IsDurable d') (run_durable d d' more) a.0.own w.1))
archive_later opens (Err f) h h' d d' more a = a

pub next_later : (opens : List Record → Type 0) (r : Result Bool Fault) (h h' : List Entry) (before d d' : ℕ) → d ≤ d' → ArchivesNext opens r h h' before d → ArchivesNext opens r h h' before d'
next_later opens (Ok true) h h' before d d' more a = (
  a.0,
  a.1,
  λ opening may.
      let x = a.2 opening may in
      let within = x.within in
      record {
        stood = x.stood;
        next = x.next;
        upto = x.upto;
        behind = x.behind;
        moment = x.moment;
        since = x.since;
        goes_on = x.goes_on;
        stands = x.stands;
        follow = x.follow;
        many = x.many;
        within = omega (arith, within, more);
        named = each_later (archives.IsDurable d) (archives.IsDurable d') (run_durable d d' more) a.0.own x.named;
      },
)
next_later opens (Ok false) h h' before d d' more a = (a.0, (a.1.0, a.1.1, let within = a.1.2 in omega (arith, within, more), a.1.3))
next_later opens (Err f) h h' before d d' more a = a

-- ---- what was entered

module _ (opens : List Record → Type 0) (ledger sessions : LedgerName) (a a' : Account) (t t' : PassSeen Entry) (alone : IsAlone opens ledger a t.log) where
  gained : (own : List Entry) → Gains opens ledger sessions own (known a t no_claims) (known a' t' no_claims) → t'.log ≡ t.log ++ own
  gained own g = entered opens ledger sessions t.log own (known a t no_claims) (known a' t' no_claims) alone (prefix_self t.log) g

  alone_behind : (own : List Entry) → Gains opens ledger sessions own (known a t no_claims) (known a' t' no_claims) → IsAlone opens ledger a' t'.log
  alone_behind own g = still_alone opens ledger sessions t.log own (known a t no_claims) (known a' t' no_claims) alone (prefix_self t.log) g

  adds_backup : (backup : ℕ) (own : List Entry) → backups.AddsTo opens ledger sessions backup own (known a t no_claims) (known a' t' no_claims) → AddsBackup backup t.log t'.log
  adds_backup backup own b = record { own = own; each = each_by (backups.is_of_backup backup) (IsOfBackup backup) (of_backup backup) own b.kinds; added = gained own b.gains }

  pub backed_up : (r : Result ℕ Fault) → backups.BacksUpOr opens ledger sessions r (known a t no_claims) (known a' t' no_claims) → BacksUp opens r t.log t'.log t'.durable
  backed_up (Ok backup) b = (
    record { own = b.own; each = each_by (backups.is_of_backup backup) (IsOfBackup backup) (of_backup backup) b.own b.adds.kinds; added = gained b.own b.adds.gains },
    λ opening may. (record { above = b.above opening may; pages = λ page is. b.pages opening page may is }, b.durable opening may),
  )
  backed_up (Err f) b = (b.backup, adds_backup b.backup b.own b.adds)

  backed_gains : (r : Result ℕ Fault) → backups.BacksUpOr opens ledger sessions r (known a t no_claims) (known a' t' no_claims) → (own : List Entry) × Gains opens ledger sessions own (known a t no_claims) (known a' t' no_claims)
  backed_gains (Ok backup) b = (b.own, b.adds.gains)
  backed_gains (Err f) b = (b.own, b.adds.gains)

  pub backed_alone : (r : Result ℕ Fault) → backups.BacksUpOr opens ledger sessions r (known a t no_claims) (known a' t' no_claims) → IsAlone opens ledger a' t'.log
  backed_alone r b = let g = backed_gains r b in alone_behind g.0 g.1

  pub backed_durable : (r : Result ℕ Fault) → backups.BacksUpOr opens ledger sessions r (known a t no_claims) (known a' t' no_claims) → t.durable ≤ t'.durable
  backed_durable r b = let g = backed_gains r b in g.1.durable

  pub backed_keeps : (r : Result ℕ Fault) → backups.BacksUpOr opens ledger sessions r (known a t no_claims) (known a' t' no_claims) → Keeps a a'
  backed_keeps r b = let g = backed_gains r b in g.1.keeps

  pub archived : (r : Result ℕ Fault) → archives.ArchivesOr opens ledger sessions r (known a t no_claims) (known a' t' no_claims) → Archives opens r t.log t'.log t'.durable
  archived (Ok count) b = (
    record { own = b.own; each = runs_all b.next b.own b.behind b.makes.adds.follow; added = gained b.own b.makes.adds.gains },
    b.counted,
    λ opening may. (
      record {
        stood = b.stood;
        next = b.next;
        upto = b.upto;
        behind = b.behind;
        moment = b.makes.moment;
        since = b.makes.since;
        goes_on = b.makes.goes_on;
        stands = b.makes.stands opening may;
        follow = b.makes.adds.follow;
        whole = b.whole opening may;
        done = subst (λ (n : ℕ). (b.upto < b.behind) ⊎ (1024 ≤ b.stood + n)) b.counted b.done;
      },
      b.named opening may,
    ),
  )
  archived (Err f) (inl none) = record { own = []; each = All-nil IsRunEntry; added = gained [] none.gains }
  archived (Err f) (inr b) = record { own = b.own; each = runs_all b.next b.own b.behind b.makes.adds.follow; added = gained b.own b.makes.adds.gains }

  archive_gains : (r : Result ℕ Fault) → archives.ArchivesOr opens ledger sessions r (known a t no_claims) (known a' t' no_claims) → (own : List Entry) × Gains opens ledger sessions own (known a t no_claims) (known a' t' no_claims)
  archive_gains (Ok count) b = (b.own, b.makes.adds.gains)
  archive_gains (Err f) (inl none) = ([], none.gains)
  archive_gains (Err f) (inr b) = (b.own, b.makes.adds.gains)

  pub archive_alone : (r : Result ℕ Fault) → archives.ArchivesOr opens ledger sessions r (known a t no_claims) (known a' t' no_claims) → IsAlone opens ledger a' t'.log
  archive_alone r b = let g = archive_gains r b in alone_behind g.0 g.1

  pub archive_durable : (r : Result ℕ Fault) → archives.ArchivesOr opens ledger sessions r (known a t no_claims) (known a' t' no_claims) → t.durable ≤ t'.durable
  archive_durable r b = let g = archive_gains r b in g.1.durable

  pub archive_keeps : (r : Result ℕ Fault) → archives.ArchivesOr opens ledger sessions r (known a t no_claims) (known a' t' no_claims) → Keeps a a'
  archive_keeps r b = let g = archive_gains r b in g.1.keeps

  pub next_archived : (r : Result Bool Fault) → archives.ArchivesNextOr opens ledger sessions r (known a t no_claims) (known a' t' no_claims) → ArchivesNext opens r t.log t'.log t.durable t'.durable
  next_archived (Ok true) b = (
    record { own = b.own; each = runs_all b.next b.own b.behind b.makes.adds.follow; added = gained b.own b.makes.adds.gains },
    b.one,
    λ opening may. record {
      stood = b.stood;
      next = b.next;
      upto = b.upto;
      behind = b.behind;
      moment = b.makes.moment;
      since = b.makes.since;
      goes_on = b.makes.goes_on;
      stands = b.makes.stands opening may;
      follow = b.makes.adds.follow;
      many = b.many;
      within = b.makes.durable;
      named = b.named opening may;
    },
  )
  next_archived (Ok false) b = (gained [] b.adds.gains ∙ append-nil t.log, (t'.durable, b.adds.gains.durable, omega arith, b.few))
  next_archived (Err f) (inl none) = ([], All-nil IsRunEntry, omega arith, gained [] none.gains)
  next_archived (Err f) (inr b) = (b.own, runs_all b.next b.own b.behind b.makes.adds.follow, b.one, gained b.own b.makes.adds.gains)

  next_gains : (r : Result Bool Fault) → archives.ArchivesNextOr opens ledger sessions r (known a t no_claims) (known a' t' no_claims) → (own : List Entry) × Gains opens ledger sessions own (known a t no_claims) (known a' t' no_claims)
  next_gains (Ok true) b = (b.own, b.makes.adds.gains)
  next_gains (Ok false) b = ([], b.adds.gains)
  next_gains (Err f) (inl none) = ([], none.gains)
  next_gains (Err f) (inr b) = (b.own, b.makes.adds.gains)

  pub next_alone : (r : Result Bool Fault) → archives.ArchivesNextOr opens ledger sessions r (known a t no_claims) (known a' t' no_claims) → IsAlone opens ledger a' t'.log
  next_alone r b = let g = next_gains r b in alone_behind g.0 g.1

  pub next_durable : (r : Result Bool Fault) → archives.ArchivesNextOr opens ledger sessions r (known a t no_claims) (known a' t' no_claims) → t.durable ≤ t'.durable
  next_durable r b = let g = next_gains r b in g.1.durable

  pub next_keeps : (r : Result Bool Fault) → archives.ArchivesNextOr opens ledger sessions r (known a t no_claims) (known a' t' no_claims) → Keeps a a'
  next_keeps r b = let g = next_gains r b in g.1.keeps

-- ---- why it is refused

-- a fault of the vault was counted
pub archive_fails : (opens : List Record → Type 0) (log_faults made : LedgerName) (w w' v v' : ℕ) (a a' : Account) (h : List Entry) (f : Fault) → (f ≡ faults.VaultFault → v < v') → archives.FailsToArchive opens log_faults made w w' a a' h f
    → FailsToBring opens log_faults made (of_vault v) (of_vault v') a a' h f
archive_fails opens log_faults made w w' v v' a a' h faults.Memory more e = e.1
archive_fails opens log_faults made w w' v v' a a' h faults.LogFault more e = (e.1.1, inr e.1.2)
archive_fails opens log_faults made w w' v v' a a' h faults.VaultFault more e = (e.0, more refl)
archive_fails opens log_faults made w w' v v' a a' h (faults.Ended at) more e = e.1
archive_fails opens log_faults made w w' v v' a a' h (faults.LogBad block byte) more e = (record { ended = e.1.1.0 ∙ sym e.1.0.0; amount = e.1.1.1 ∙ sym e.1.0.1 }, e.0)
archive_fails opens log_faults made w w' v v' a a' h _ more e = absurd e.0
