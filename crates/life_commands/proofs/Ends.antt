-- What the other commands of a life make of the turns.
use Rattle.std.proofs.Common.{◌≡◌, ◌≢◌, ℕ, ◌<◌, ◌/◌, ◌%◌, Bool, true, false, List, [], ◌∷◌, ◌++◌, Option, Some, None, refl, sym, ap, subst, ◌∙◌, Ok, Err, append-nil, length, arith, inl, inr, ⊎_elim}
use Rattle.std.specs.Prelude.{◌+◌, ◌-◌, ◌⊎◌, codes, min}
use Rattle.std.specs.Fmt.{decimal}
use Rattle.std.specs.List.{All}
use Rattle.std.proofs.lemmas.List.FromFn.{length-range_with_len, length-map-range_with_len}
use Rattle.media.specs.declared.disk.Disk.{Ghosts}
use Rattle.store_model.specs.declared.fault.Fault.{Fault}
use Rattle.store_model.specs.declared.fault.Fault.TheVariants as faults
use Rattle.store_model.specs.declared.limits.TheConstants.{MOST_ACTIVE}
use Rattle.store_model.specs.declared.request.Request.{Request}
use Rattle.wal_record.specs.Chains.{pages}
use Rattle.wal_record.specs.Checkpoints.{analysis_of, page_head}
use Rattle.wal_record.specs.History.{life_log}
use Rattle.wal_record.specs.Upkeep.{segments}
use Rattle.wal_record.specs.declared.record.Checkpoint.{Checkpoint}
use Rattle.wal_record.specs.declared.record.Lost.{Lost}
use Rattle.wal_record.specs.declared.record.Record.{Record}
use Rattle.wal_record.specs.declared.record.Record.TheVariants as kinds
use Rattle.wal_record.specs.declared.entry.Entry.{Entry}
use Rattle.wal_record.specs.declared.entry.Entry.TheVariants.{Rec}
use Rattle.log_laws.specs.Right.{IsRight}
use Rattle.journal.specs.State.{ArmsDisk}
use Rattle.page_ops.specs.Outcomes.{IsSurvey, losers_left}
use Rattle.page_ops.specs.Seeing.{Calls}
use Rattle.page_ops.specs.declared.outcome.Committed.{Committed}
use Rattle.page_ops.specs.declared.outcome.Survey.{Survey}
use Rattle.command_laws.specs.Commands.{Among, Amid, IsUpkeep, commit_record}
use Rattle.command_laws.specs.Names.{Active, active_of, is_active, without}
use Rattle.maintenance.specs.Steps.{AreAllOver}
use Rattle.rollback.specs.Owners.{IsLoserOf}
use Rattle.store_pages.specs.Backed.{AddsBackup, AddsRuns, IsArchived, IsWhole as HasEachPage}
use Rattle.own_life.specs.Helps.{AddsSteps, Helps}
use Rattle.store_life.specs.Turns.{EndsBy, HasMark, IsCheckpointed, IsLost}
use Rattle.own_life.specs.State.{BeginsAs, BreaksOff, FailsOver, FailsToFlush, GoesOn, IsCommitted, LifeState}
use Rattle.script.specs.declared.command.Command.{Command}
use Rattle.script.specs.declared.command.Command.TheVariants as commands
use Rattle.script.specs.declared.command.Device.{Device}
use Rattle.script.specs.declared.command.Device.TheVariants.{Log, Data, Vault}
use Rattle.transcript.specs.Lines.{archive_line, device_text, ended_line, failed_line, refused_line, stat_line, upkeep_line}
use Rattle.transcript.specs.declared.upkeep.Upkeep.TheVariants as upkeeps
use Rattle.life_commands.specs.Faults.{FailsAs, counts_of}
use Rattle.life_commands.specs.Figures.{IsStat, stat_of}
use Rattle.life_commands.specs.Living.{IsArmed, IsDiskOf, Within}
use Rattle.life_commands.specs.LogDisk.{View, IsWhole, seen}
use Rattle.life_commands.specs.Promises.{Did, DidArmed, Refused}
use Rattle.life_commands.specs.Refusals.{RefusesAt}
use Rattle.life_commands.specs.Rows.{Calls as CallsDevice, IsCutOff, IsNoClose, IsNoStop, IsOfLife, is_lawful, no_life}
use Rattle.life_commands.specs.Text.{head}
use Rattle.life_commands.specs.Turns.{Done, Fuses, IsRightLife, Life, Stage, stage_step, turn, with_fuse}
use Rattle.life_commands.specs.declared.status.Status.{Status}
use Rattle.life_commands.specs.declared.status.Status.TheVariants as statuses
use Rattle.life_commands.proofs.Commands as c
use Rattle.life_commands.proofs.Lives.{disk_seen}
use Rattle.life_commands.proofs.Entered.{amid_among, enters_own}
use Rattle.life_commands.proofs.Requests.{some_of}

-- ---- a command that a fault ends

-- what a command that was cut off had entered
pub record IsCut {D : Type 0} (L : Ghosts D) (y x : LifeState) (s : Stage) (c : Command) : Type 0 where
  pub entries : List Entry
  pub added : y.history ≡ x.history ++ entries
  pub lawful : is_lawful s c ≡ true
  pub off : IsCutOff L.tells s c entries

module _ {D : Type 0} (L : Ghosts D) (opens : List Record → Type 0) (x y : LifeState) (names : y.active ≡ x.active) (right : (opening : List Record) → opens opening → IsRight opening y.history)
    (command : Command) (kind : IsOfLife command) (calls : CallsDevice command Log) (cut : (v : View L.tells) (s : Stage) → Within (seen L v) opens x s → IsCut (seen L v) y x s command) where
  -- a fuse refused a call
  pub fails_line : IsNoClose command → BreaksOff opens x y → x.calls.refused < y.calls.refused → (out : List ℕ) → out ≡ failed_line (head command) Log → Did L opens x y command out
  fails_line stays b more out text = λ v s h. let k = cut v s h in c.did_fail (seen L v) opens x s h y k.entries k.added right command kind calls k.lawful k.off stays b names more out text

  -- there is no memory for its line
  pub lacks_line : (line : ℕ) → Refused L opens x y command line statuses.Memory
  lacks_line line = λ v s h kept disk of.
      let k = cut v s h in
      c.cut_memory (seen L v) opens x s h y k.entries k.added right command kind calls k.lawful k.off kept disk (disk_seen L v opens y kept disk of) line

  abbrev Ends : ℕ → View L.tells → Stage → ℕ → D → Status → Type 0
  Ends line v s kept disk z = RefusesAt (seen L v) kept disk opens y.history s command line z

  pub ends_run : (w w' before now : ℕ) (fault : Fault) → FailsOver opens w w' x y fault → (status : Status) → FailsAs before now fault status → (line : ℕ) → Refused L opens x y command line status
  ends_run w w' before now fault p status says line = λ v s h kept disk of. by fault p says v s h kept disk (disk_seen L v opens y kept disk of)
    where
      to : (v : View L.tells) (s : Stage) (kept : ℕ) (disk : D) (wanted : Status) → status ≡ wanted → Ends line v s kept disk wanted → Ends line v s kept disk status
      to v s kept disk wanted e h = subst (Ends line v s kept disk) (sym e) h

      by : (f : Fault) → FailsOver opens w w' x y f → FailsAs before now f status → (v : View L.tells) (s : Stage) (h : Within (seen L v) opens x s) (kept : ℕ) (disk : D) → IsDiskOf (seen L v) opens y kept disk → Ends line v s kept disk status
      by faults.Memory q e v s h kept disk of = let k = cut v s h in to v s kept disk statuses.Memory e (c.cut_memory (seen L v) opens x s h y k.entries k.added right command kind calls k.lawful k.off kept disk of line)
      by faults.LogFault q e v s h kept disk of = let k = cut v s h in to v s kept disk statuses.LogFault e.0 (c.cut_fault (seen L v) opens x s h y k.entries k.added right command kind calls k.lawful k.off kept disk of line)
      by faults.VaultFault q e v s h kept disk of = let k = cut v s h in to v s kept disk statuses.VaultFault e (c.cut_vault (seen L v) opens x s h y k.entries k.added right command kind calls k.lawful k.off kept disk of line)
      by (faults.VaultBad object byte) q e v s h kept disk of = let k = cut v s h in to v s kept disk (statuses.VaultBad object byte) e (c.cut_object (seen L v) opens x s h y k.entries k.added right command kind calls k.lawful k.off kept disk of line object byte q.1)
      by (faults.LogBad block byte) q e v s h kept disk of = let k = cut v s h in to v s kept disk (statuses.BlockBad block byte) e (c.cut_bad (seen L v) opens x s h y k.entries k.added right command kind calls k.lawful k.off kept disk of line block byte q.1)
      by _ q e v s h kept disk of = absurd q

-- the vault's fuse refused a call: the life goes on
module _ {D : Type 0} (L : Ghosts D) (opens : List Record → Type 0) (x y : LifeState) (names : y.active ≡ x.active) (right : (opening : List Record) → opens opening → IsRight opening y.history)
    (command : Command) (calls : CallsDevice command Vault) (cut : (v : View L.tells) (s : Stage) → Within (seen L v) opens x s → IsCut (seen L v) y x s command) where
  pub vault_line : (w w' : ℕ) (fault : Fault) → fault ≡ faults.VaultFault → FailsOver opens w w' x y fault → (armed : Bool) → armed ≡ true → (out : List ℕ) → out ≡ failed_line (head command) Vault → DidArmed L opens armed x y command out
  vault_line w w' fault is p armed set out text = λ v s same h.
      let k = cut v s h in
      c.did_vault_fail (seen L v) opens x s h y k.entries k.added right command calls k.lawful k.off (same ∙ set) (subst (λ (f : Fault). FailsOver opens w w' x y f) is p).0 names out text

-- ---- the same life, or one that has ended before

module _ {D : Type 0} (L : Ghosts D) (opens : List Record → Type 0) (x : LifeState) where
  pub ended_before : (command : Command) (n : ℕ) (out : List ℕ) → x.ended ≡ Some n → ((v : View L.tells) (s : Stage) → Within (seen L v) opens x s → is_lawful s command ≡ true) → IsOfLife command → IsNoClose command → out ≡ ended_line (head command) n → Did L opens x x command out
  ended_before command n out ended lawful kind stays text = λ v s h. c.did_end (seen L v) opens x s h command n out ended (lawful v s h) kind stays text

  -- want of memory, where nothing was entered
  pub lacks_memory : (y : LifeState) → y.history ≡ x.history → (command : Command) (line : ℕ) → Refused L opens x y command line statuses.Memory
  lacks_memory y same command line = λ v s h kept disk of. c.as_before (seen L v) opens x s h y kept disk same (disk_seen L v opens y kept disk of) command line

  pub bad_line : (command : Command) (line : ℕ) → ((v : View L.tells) (s : Stage) → Within (seen L v) opens x s → is_lawful s command ≡ false) → Refused L opens x x command line (statuses.Script line)
  bad_line command line not = λ v s h kept disk of. c.unlawful (seen L v) opens x s h kept disk (disk_seen L v opens x kept disk of) command line (not v s h)

  -- which names may be asked for
  pub named_is : (name : List ℕ) (b : Bool) → is_active x.active name ≡ b → (v : View L.tells) (s : Stage) → Within (seen L v) opens x s → is_active s.active name ≡ b
  named_is name b is v s h = c.is_named (seen L v) opens x s h name b is

  pub may_begin : (name : List ℕ) → is_active x.active name ≡ false → (v : View L.tells) (s : Stage) → Within (seen L v) opens x s → is_lawful s (commands.Begin name) ≡ true
  may_begin name is v s h = c.may_begin (seen L v) opens x s h name is

  pub begun_twice : (name : List ℕ) → is_active x.active name ≡ true → (v : View L.tells) (s : Stage) → Within (seen L v) opens x s → is_lawful s (commands.Begin name) ≡ false
  begun_twice name is v s h = c.begun_twice (seen L v) opens x s h name is

  pub may_look : (v : View L.tells) (s : Stage) → Within (seen L v) opens x s → is_lawful s commands.Stat ≡ true
  may_look v s h = c.may_look (seen L v) opens x s h

  pub nothing : (out : List ℕ) → out ≡ [] → Did L opens x x commands.Nothing out
  nothing out is = λ v s h. c.did_nothing (seen L v) opens x s h out is

-- ---- begin

module _ {D : Type 0} (L : Ghosts D) (opens : List Record → Type 0) (x y : LifeState) (none : x.ended ≡ None) (name : List ℕ) (free : is_active x.active name ≡ false) where
  pub begins : (tx : ℕ) → BeginsAs name (Ok tx) x y → length x.active < MOST_ACTIVE → GoesOn x y → ((opening : List Record) → opens opening → IsRight opening y.history) → (out : List ℕ) → out ≡ name ++ codes " begin\n" → Did L opens x y (commands.Begin name) out
  begins tx (session, own, made, grew, active) few goes right out text = λ v s h. c.did_begin (seen L v) opens x s h none y name tx session own made grew active goes few free right out text

  pub crowded : (same : y.history ≡ x.history) → y.active ≡ x.active → GoesOn x y → length x.active ≡ MOST_ACTIVE → (out : List ℕ) → out ≡ refused_line (head (commands.Begin name)) → Did L opens x y (commands.Begin name) out
  crowded same active goes many out text = λ v s h. c.did_crowd (seen L v) opens x s h none y name same active goes many free out text

-- ---- commit

module _ {D : Type 0} (L : Ghosts D) (opens : List Record → Type 0) (x y : LifeState) (none : x.ended ≡ None) (right : (opening : List Record) → opens opening → IsRight opening y.history) (name : List ℕ) (on : is_active x.active name ≡ true) where
  abbrev this : (a : Active) × (active_of x.active name ≡ Some a)
  this = some_of (active_of x.active name) on

  pub commits_line : (answer : Committed) → ((a : Active) → active_of x.active name ≡ Some a → IsCommitted opens a.session a.tx (Ok answer) x.history y.history) → GoesOn x y → y.active ≡ without x.active name
      → (out : List ℕ) → out ≡ name ++ codes " commit " ++ decimal answer.number ++ codes "\n" → Did L opens x y (commands.Commit name) out
  commits_line answer made goes active out text = λ v s h. let d = made this.0 this.1 in
      c.did_commit (seen L v) opens x s h name this.0 this.1 y d.own d.added right none d.made answer.number d.number goes active out text

  pub commit_lacks : (answer : Committed) → ((a : Active) → active_of x.active name ≡ Some a → IsCommitted opens a.session a.tx (Ok answer) x.history y.history) → (line : ℕ) → Refused L opens x y (commands.Commit name) line statuses.Memory
  commit_lacks answer made line = λ v s h kept disk of. let d = made this.0 this.1 in
      c.commit_lacks (seen L v) opens x s h name this.0 this.1 y d.own d.added right none d.made answer.number d.number kept disk (disk_seen L v opens y kept disk of) line

  pub commit_cut : (fault : Fault) → ((a : Active) → active_of x.active name ≡ Some a → IsCommitted opens a.session a.tx (Err fault) x.history y.history) → (v : View L.tells) (s : Stage) → Within (seen L v) opens x s → IsCut (seen L v) y x s (commands.Commit name)
  commit_cut fault made v s h = ⊎_elim
      (λ same. record { entries = []; added = same ∙ sym (append-nil x.history); lawful = c.is_named (seen L v) opens x s h name true on; off = c.commit_none (seen L v) opens x s h name this.0 this.1 none })
      (λ half. record { entries = Rec half.0 (commit_record this.0.tx half.1) ∷ []; added = half.2; lawful = c.is_named (seen L v) opens x s h name true on; off = c.commit_half (seen L v) opens x s h name this.0 this.1 none half.0 half.1 })
      (made this.0 this.1)

  -- ---- abort

  abort_among : (own es : List Entry) (undos : List Entry) (last : Entry) → own ≡ undos ++ last ∷ [] → Amid IsUpkeep own es → Among IsUpkeep own es
  abort_among own es [] last is amid = amid_among IsUpkeep last [] own es is amid
  abort_among own es (u ∷ us) last is amid = amid_among IsUpkeep u (us ++ last ∷ []) own es is amid

  pub aborts_line : (pos : ℕ) → ((a : Active) → active_of x.active name ≡ Some a → EndsBy opens a.tx (Ok pos) x.history y.history) → GoesOn x y → y.active ≡ without x.active name
      → (out : List ℕ) → out ≡ name ++ codes " abort\n" → Did L opens x y (commands.Abort name) out
  aborts_line pos ended goes active out text = λ v s h. let d = ended this.0 this.1 in
      c.did_abort (seen L v) opens x s h name this.0 this.1 y d.entries d.added right none d.own d.aborts (abort_among d.own d.entries d.aborts.undos _ d.aborts.is d.among) goes active out text

  pub abort_cut : (fault : Fault) → ((a : Active) → active_of x.active name ≡ Some a → EndsBy opens a.tx (Err fault) x.history y.history) → (v : View L.tells) (s : Stage) → Within (seen L v) opens x s → IsCut (seen L v) y x s (commands.Abort name)
  abort_cut fault ended v s h = let d = ended this.0 this.1 in
      record { entries = d.entries; added = d.added; lawful = c.is_named (seen L v) opens x s h name true on; off = c.abort_cut (seen L v) opens x s h name this.0 this.1 y d.entries d.added right none d.each }

-- ---- what `stat` counts

ceil : (n : ℕ) → n / 16 + min 1 (n % 16) ≡ length (segments n)
ceil n = let l = length-range_with_len 0 ((n + 15) / 16) in omega (arith, l)

pub counts_told : (x : Survey) (losers heads lost unrestored restored : ℕ) → losers ≡ length x.losers → heads ≡ length x.analysis.heads → lost ≡ x.analysis.lost / 16 + min 1 (x.analysis.lost % 16) → unrestored ≡ length x.analysis.unrestored → restored ≡ lost - unrestored
    → record { commits = x.analysis.commits; losers = losers; undone = x.undone; repaired = x.repaired; pages = heads; lost = lost; restored = restored } ≡ counts_of x
counts_told x losers heads lost unrestored restored l h s u r = let n = s ∙ ceil x.analysis.lost in rw (l, h, r, u, n) refl

-- ---- checkpoints

module _ {D : Type 0} (L : Ghosts D) (opens : List Record → Type 0) (x y : LifeState) (none : x.ended ≡ None) (active : y.active ≡ x.active) where
  module _ (right : (opening : List Record) → opens opening → IsRight opening y.history) where
    pub checkpoints_line : (lsn : ℕ) → IsCheckpointed (Ok lsn) x.history y.history → GoesOn x y → (out : List ℕ) → out ≡ upkeep_line upkeeps.Checkpoint → Did L opens x y commands.Checkpoint out
    checkpoints_line lsn (k, added) goes out text = λ v s h. c.did_checkpoint (seen L v) opens x s h none lsn k y added right goes active out text

    pub checkpoint_cut : (lsn : ℕ) → HasMark Checkpoint kinds.Checkpoint lsn x.history y.history → (v : View L.tells) (s : Stage) → Within (seen L v) opens x s → IsCut (seen L v) y x s commands.Checkpoint
    checkpoint_cut lsn (k, added) v s h = record { entries = _; added = added; lawful = c.may_look (seen L v) opens x s h; off = c.checkpoint_cut (seen L v) opens x s h none lsn k }

    pub checkpoint_fails : (fault : Fault) → fault ≡ faults.LogFault → IsCheckpointed (Err fault) x.history y.history → FailsToFlush opens x y fault → x.calls.refused < y.calls.refused → (out : List ℕ) → out ≡ failed_line (head commands.Checkpoint) Log → Did L opens x y commands.Checkpoint out
    checkpoint_fails fault is entered p more out text =
        let e = subst (λ (f : Fault). IsCheckpointed (Err f) x.history y.history) is entered in
        let b = subst (λ (f : Fault). FailsToFlush opens x y f) is p in
        fails_line L opens x y active right commands.Checkpoint tt refl (checkpoint_cut e.0 e.1) tt b more out text

    pub checkpoint_ends : (before now : ℕ) (fault : Fault) → IsCheckpointed (Err fault) x.history y.history → FailsToFlush opens x y fault → (status : Status) → FailsAs before now fault status → (line : ℕ) → Refused L opens x y commands.Checkpoint line status
    checkpoint_ends before now faults.Memory same p status says line = subst (λ (z : Status). Refused L opens x y commands.Checkpoint line z) (sym says) (lacks_memory L opens x y same commands.Checkpoint line)
    checkpoint_ends before now faults.LogFault entered p status says line = ends_run L opens x y active right commands.Checkpoint tt refl (checkpoint_cut entered.0 entered.1) 0 0 before now faults.LogFault p status says line
    checkpoint_ends before now _ entered p status says line = absurd p

  -- ---- backups and archive runs

  module _ (right : (opening : List Record) → opens opening → IsRight opening y.history) where
    pub backs_up_line : (backup : ℕ) (k : AddsBackup backup x.history y.history) → ((opening : List Record) → opens opening → HasEachPage backup opening x.history k.own) → GoesOn x y → (out : List ℕ) → out ≡ upkeep_line upkeeps.Backup → Did L opens x y commands.Backup out
    backs_up_line backup k whole goes out text = λ v s h. c.did_backup (seen L v) opens x s h none backup y k whole right goes active out text

    pub backup_cut : (backup : ℕ) → AddsBackup backup x.history y.history → (v : View L.tells) (s : Stage) → Within (seen L v) opens x s → IsCut (seen L v) y x s commands.Backup
    backup_cut backup k v s h = record { entries = k.own; added = k.added; lawful = c.may_look (seen L v) opens x s h; off = c.backup_cut (seen L v) opens x s h none backup y k }

    pub archives_line : (count : ℕ) (k : AddsRuns x.history y.history) → count ≡ length k.own → ((opening : List Record) → opens opening → IsArchived opening x.history y.history k.own) → GoesOn x y → (out : List ℕ) → out ≡ archive_line count → Did L opens x y commands.Archive out
    archives_line count k counted all goes out text = λ v s h. c.did_archive (seen L v) opens x s h none y k count counted all right goes active out text

    pub archive_lacks : (count : ℕ) (k : AddsRuns x.history y.history) → count ≡ length k.own → ((opening : List Record) → opens opening → IsArchived opening x.history y.history k.own) → (line : ℕ) → Refused L opens x y commands.Archive line statuses.Memory
    archive_lacks count k counted all line = λ v s h kept disk of. c.archive_lacks (seen L v) opens x s h none y k count counted all right kept disk (disk_seen L v opens y kept disk of) line

    pub archive_cut : AddsRuns x.history y.history → (v : View L.tells) (s : Stage) → Within (seen L v) opens x s → IsCut (seen L v) y x s commands.Archive
    archive_cut k v s h = record { entries = k.own; added = k.added; lawful = c.may_look (seen L v) opens x s h; off = c.archive_cut (seen L v) opens x s h none y k }

  -- ---- losses of the data device

  module _ (right : (opening : List Record) → opens opening → IsRight opening y.history) where
    pub loses_line : (lsn : ℕ) → IsLost (Ok lsn) x.history y.history → GoesOn x y → (out : List ℕ) → out ≡ upkeep_line upkeeps.Lose → Did L opens x y commands.Lose out
    loses_line lsn (k, added) goes out text = λ v s h. c.did_loss (seen L v) opens x s h none lsn k y added right goes active out text

    pub loss_cut : (lsn : ℕ) → HasMark Lost kinds.Lost lsn x.history y.history → (v : View L.tells) (s : Stage) → Within (seen L v) opens x s → IsCut (seen L v) y x s commands.Lose
    loss_cut lsn (k, added) v s h = record { entries = _; added = added; lawful = c.may_look (seen L v) opens x s h; off = c.loss_cut (seen L v) opens x s h none lsn k }

    pub loss_fails : (fault : Fault) → fault ≡ faults.LogFault → IsLost (Err fault) x.history y.history → FailsToFlush opens x y fault → x.calls.refused < y.calls.refused → (out : List ℕ) → out ≡ failed_line (head commands.Lose) Log → Did L opens x y commands.Lose out
    loss_fails fault is entered p more out text =
        let e = subst (λ (f : Fault). IsLost (Err f) x.history y.history) is entered in
        let b = subst (λ (f : Fault). FailsToFlush opens x y f) is p in
        fails_line L opens x y active right commands.Lose tt refl (loss_cut e.0 e.1) tt b more out text

    pub loss_ends : (before now : ℕ) (fault : Fault) → IsLost (Err fault) x.history y.history → FailsToFlush opens x y fault → (status : Status) → FailsAs before now fault status → (line : ℕ) → Refused L opens x y commands.Lose line status
    loss_ends before now faults.Memory same p status says line = subst (λ (z : Status). Refused L opens x y commands.Lose line z) (sym says) (lacks_memory L opens x y same commands.Lose line)
    loss_ends before now faults.LogFault entered p status says line = ends_run L opens x y active right commands.Lose tt refl (loss_cut entered.0 entered.1) 0 0 before now faults.LogFault p status says line
    loss_ends before now _ entered p status says line = absurd p

  -- ---- help

  module _ (steps : ℕ) (helps : Helps (IsLoserOf opens) steps x.history y.history) where
    pub help_cut : (v : View L.tells) (s : Stage) → Within (seen L v) opens x s → IsCut (seen L v) y x s (commands.Help steps)
    help_cut v s h = record { entries = helps.entries; added = helps.added; lawful = c.may_look (seen L v) opens x s h; off = c.help_cut (seen L v) opens x s h none steps y helps }

    pub helps_line : (taken : ℕ) → ((opening : List Record) → opens opening → IsRight opening y.history) → AreAllOver opens y.history ⊎ ((taken ≡ steps) × AddsSteps steps x.history y.history) → GoesOn x y → (out : List ℕ) → out ≡ upkeep_line upkeeps.Help → Did L opens x y (commands.Help steps) out
    helps_line taken right far goes out text = λ v s h. c.did_help (seen L v) opens x s h none steps y helps right (⊎_elim (λ over. inl over) (λ all. inr all.1) far) goes active out text

  -- ---- stat

  module _ (same : y.history ≡ x.history) (goes : GoesOn x y) where
    page_count : (log : List Record) → length (analysis_of log).heads ≡ pages log
    unfolding analysis_of
    page_count log = length-map-range_with_len (page_head log) 1 (pages log)

    counts_are : (l : Life) (durable : ℕ) (k : Survey) → l.history ≡ y.history → opens l.opening → IsSurvey opens (record { log = y.history; durable = durable }) k → counts_of k ≡ stat_of l
    unfolding analysis_of
    counts_are l durable k is may survey =
        let log = life_log l.opening l.history in
        let known : k.analysis ≡ analysis_of log = survey.analysis l.opening may ∙ ap (λ (h : List Entry). analysis_of (life_log l.opening h)) (sym is) in
        let left : k.losers ≡ losers_left l.opening l.history = survey.losers l.opening may ∙ ap (λ (h : List Entry). losers_left l.opening h) (sym is) in
        rw (known, left, survey.undone, survey.repaired, sym is, page_count log) refl

    pub stat_line_is : (k : Survey) → ((durable : ℕ) × IsSurvey opens (record { log = y.history; durable = durable }) k) → (out : List ℕ) → out ≡ stat_line (counts_of k) → Did L opens x y commands.Stat out
    stat_line_is k (durable, survey) out text = λ v s h.
        c.did_stat (seen L v) opens x s h none y same active goes (counts_of k)
        (λ t. subst (λ (o : Option Life). IsStat o (counts_of k)) (sym h.life) (counts_are h.here durable k (h.history ∙ sym same) (h.begins t) survey)) out text

-- ---- fuses

module _ {D : Type 0} (L : Ghosts D) (opens : List Record → Type 0) (x y : LifeState) (same : (y.history ≡ x.history) × (y.active ≡ x.active) × (y.ended ≡ x.ended)) where
  still : (v : View L.tells) (s s' : Stage) → Within (seen L v) opens x s → s'.past ≡ s.past → s'.life ≡ s.life → s'.active ≡ s.active → s'.ended ≡ s.ended → s'.cut ≡ s.cut → IsArmed L.fuses y.calls s'.armed.log → Within (seen L v) opens y s'
  still v s s' h past life active ended cut fused = record {
    past = λ t. subst (All IsRightLife) (sym past) (h.past t);
    here = h.here;
    life = life ∙ h.life;
    active = active ∙ h.active ∙ sym same.1;
    ended = ended ∙ h.ended ∙ sym same.2;
    goes = cut ∙ h.goes;
    fused = fused;
    history = h.history ∙ sym same.0;
    begins = h.begins;
    right = h.right;
  }

  -- the log disk's fuse is armed where the command is of the log disk
  armed_so : (n : Option ℕ) (armed : Bool) → (armed ≡ false → n ≡ None) → (device : Device) → (device ≡ Log → ArmsDisk L.fuses n x.calls y.calls) → (device ≢ Log → y.calls ≡ x.calls) → (f : Fuses) → IsArmed L.fuses x.calls f.log → IsArmed L.fuses y.calls (with_fuse device armed f).log
  armed_so n armed none Log log other f h = record { fuse = h.fuse; renewed = λ e. (log refl).armed h.fuse ∙ none e }
  armed_so n armed none Data log other f h = subst (λ (k : Calls). IsArmed L.fuses k f.log) (sym (other (λ e. absurd cc))) h
  armed_so n armed none Vault log other f h = subst (λ (k : Calls). IsArmed L.fuses k f.log) (sym (other (λ e. absurd cc))) h

  module _ (device : Device) (other : device ≢ Log → y.calls ≡ x.calls) where
    pub fuses : (n : ℕ) → (device ≡ Log → ArmsDisk L.fuses (Some n) x.calls y.calls) → (out : List ℕ) → out ≡ codes "fuse " ++ device_text device ++ codes " " ++ decimal n ++ codes "\n" → Did L opens x y (commands.Fuse device n) out
    fuses n log out text = λ v s h.
        let t = turn (commands.Fuse device n) [] Done in
        record {
          turn = t;
          is = refl;
          fits = record { goes = h.goes; lawful = refl; row = (tt, enters_own (IsWhole v) s (commands.Fuse device n) [] tt refl, tt) };
          holds = still v s (stage_step s t) h refl refl refl refl refl (armed_so (Some n) true (λ e. absurd cc) device log other s.armed h.fused);
          lines = text;
        }

    pub renews : (device ≡ Log → ArmsDisk L.fuses None x.calls y.calls) → (out : List ℕ) → out ≡ codes "renew " ++ device_text device ++ codes "\n" → Did L opens x y (commands.Renew device) out
    renews log out text = λ v s h.
        let t = turn (commands.Renew device) [] Done in
        record {
          turn = t;
          is = refl;
          fits = record { goes = h.goes; lawful = refl; row = (tt, enters_own (IsWhole v) s (commands.Renew device) [] tt refl, tt) };
          holds = still v s (stage_step s t) h refl refl refl refl refl (armed_so None false (λ e. refl) device log other s.armed h.fused);
          lines = text;
        }

module _ {D : Type 0} (L : Ghosts D) (opens : List Record → Type 0) (x : LifeState) where
  -- a page of the data device is spoiled
  pub damages : (page : ℕ) (out : List ℕ) → out ≡ codes "damage " ++ decimal page ++ codes "\n" → Did L opens x x (commands.Damage page) out
  damages page out text = λ v s h. record {
    turn = turn (commands.Damage page) [] Done;
    is = refl;
    fits = record { goes = h.goes; lawful = refl; row = (tt, enters_own (IsWhole v) s (commands.Damage page) [] tt refl, tt) };
    holds = h;
    lines = text;
  }

-- ---- what is no command of a life

pub other_lawful : (s : Stage) → no_life s.life ≡ false → (c : Command) → (c ≡ commands.Nothing → ⊥) → ((x : List ℕ) → c ≡ commands.Begin x → ⊥) → ((x : List ℕ) (r : Request) → c ≡ commands.Ask x r → ⊥) → ((x : List ℕ) → c ≡ commands.Commit x → ⊥)
    → ((x : List ℕ) → c ≡ commands.Abort x → ⊥) → (c ≡ commands.Checkpoint → ⊥) → (c ≡ commands.Backup → ⊥) → (c ≡ commands.Archive → ⊥) → (c ≡ commands.Lose → ⊥) → ((n : ℕ) → c ≡ commands.Help n → ⊥) → (c ≡ commands.Stat → ⊥) → ((p : ℕ) → c ≡ commands.Damage p → ⊥) → ((d : Device) (n : ℕ) → c ≡ commands.Fuse d n → ⊥) → ((d : Device) → c ≡ commands.Renew d → ⊥) → IsNoStop c → IsNoClose c → is_lawful s c ≡ false
other_lawful s living commands.Nothing nothing begins asks commit abort checkpoint backup archive lose help stat damage fuse renew stop close = absurd (nothing refl)
other_lawful s living (commands.Format limit) nothing begins asks commit abort checkpoint backup archive lose help stat damage fuse renew stop close = rw (living) refl
other_lawful s living commands.Open nothing begins asks commit abort checkpoint backup archive lose help stat damage fuse renew stop close = living
other_lawful s living (commands.Begin x) nothing begins asks commit abort checkpoint backup archive lose help stat damage fuse renew stop close = absurd (begins x refl)
other_lawful s living (commands.Ask x r) nothing begins asks commit abort checkpoint backup archive lose help stat damage fuse renew stop close = absurd (asks x r refl)
other_lawful s living (commands.Commit x) nothing begins asks commit abort checkpoint backup archive lose help stat damage fuse renew stop close = absurd (commit x refl)
other_lawful s living (commands.Abort x) nothing begins asks commit abort checkpoint backup archive lose help stat damage fuse renew stop close = absurd (abort x refl)
other_lawful s living commands.Checkpoint nothing begins asks commit abort checkpoint backup archive lose help stat damage fuse renew stop close = absurd (checkpoint refl)
other_lawful s living commands.Backup nothing begins asks commit abort checkpoint backup archive lose help stat damage fuse renew stop close = absurd (backup refl)
other_lawful s living commands.Archive nothing begins asks commit abort checkpoint backup archive lose help stat damage fuse renew stop close = absurd (archive refl)
other_lawful s living commands.Lose nothing begins asks commit abort checkpoint backup archive lose help stat damage fuse renew stop close = absurd (lose refl)
other_lawful s living (commands.Help n) nothing begins asks commit abort checkpoint backup archive lose help stat damage fuse renew stop close = absurd (help n refl)
other_lawful s living commands.Stat nothing begins asks commit abort checkpoint backup archive lose help stat damage fuse renew stop close = absurd (stat refl)
other_lawful s living (commands.Damage p) nothing begins asks commit abort checkpoint backup archive lose help stat damage fuse renew stop close = absurd (damage p refl)
other_lawful s living commands.Close nothing begins asks commit abort checkpoint backup archive lose help stat damage fuse renew stop close = absurd close
other_lawful s living (commands.Stop keep) nothing begins asks commit abort checkpoint backup archive lose help stat damage fuse renew stop close = absurd stop
other_lawful s living (commands.Fuse d n) nothing begins asks commit abort checkpoint backup archive lose help stat damage fuse renew stop close = absurd (fuse d n refl)
other_lawful s living (commands.Renew d) nothing begins asks commit abort checkpoint backup archive lose help stat damage fuse renew stop close = absurd (renew d refl)
other_lawful s living _ nothing begins asks commit abort checkpoint backup archive lose help stat damage fuse renew stop close = refl

pub in_life : {D : Type 0} (L : Ghosts D) (opens : List Record → Type 0) (x : LifeState) (v : View L.tells) (s : Stage) → Within (seen L v) opens x s → no_life s.life ≡ false
in_life L opens x v s h = c.living (seen L v) opens x s h
