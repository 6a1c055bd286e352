-- A log's summary goes on with each record.
use Rattle.std.proofs.Common.{◌≡◌, ℕ, ◌+◌, ◌≤◌, suc, true, false, List, [], ◌∷◌, ◌++◌, length, refl, sym, ap, subst, ◌∙◌, arith, append_assoc, length-append}
use Rattle.std.specs.Prelude.{max, not}
use Rattle.wal_record.specs.Chains.{greatest, tx_of}
use Rattle.wal_record.specs.OpenWrites.{has_items}
use Rattle.wal_record.specs.Upkeep.{last_backup, backup_number, last_run, run_number}
use Rattle.wal_record.specs.Checkpoints.{limit_of, commits, checkpoint_of, checkpoint_after, last_checkpoint}
use Rattle.wal_record.specs.Sound.{is_format, IsLawful, AreLawful}
use Rattle.wal_record.specs.declared.record.Checkpoint.{Checkpoint}
use Rattle.wal_record.specs.declared.record.Record.{Record}
use Rattle.wal_record.specs.declared.record.Record.TheVariants as kinds
use Rattle.wal_record.proofs.Along.{by_pushes, AllAlong_less}
use Rattle.wal_record.proofs.Pushes.{lawful_front, greatest_push, last_backup_push, lost_pages_push, unrestored_push, last_run_push, runs_push}
use Rattle.listing_laws.specs.Summary.{Summary, commits_step, limit_step, checkpoint_step, listed_step, summary_of, summary_step, from_checkpoint, go_on}
use Rattle.listing_laws.specs.Laws.{StepLaw, CheckpointLaw, RestLaw}
use Rattle.listing_laws.proofs.Heads.{heads_more}
use Rattle.listing_laws.proofs.Transactions.{transactions_more}

commits_more : (log : List Record) (r : Record) → commits (log ++ r ∷ []) ≡ commits_step (commits log) r
commits_more [] (kinds.Commit c) = refl
commits_more [] (kinds.Format x) = refl
commits_more [] (kinds.Write x) = refl
commits_more [] (kinds.Apply x) = refl
commits_more [] (kinds.Undo x) = refl
commits_more [] (kinds.End x) = refl
commits_more [] (kinds.Split x) = refl
commits_more [] (kinds.Adopt x) = refl
commits_more [] (kinds.Grow x) = refl
commits_more [] (kinds.Purge x) = refl
commits_more [] (kinds.Written x) = refl
commits_more [] (kinds.Checkpoint x) = refl
commits_more [] (kinds.BackupDone x) = refl
commits_more [] (kinds.RunDone x) = refl
commits_more [] (kinds.Lost x) = refl
commits_more [] (kinds.Restored x) = refl
commits_more (kinds.Commit c ∷ log) r = ap (λ (n : ℕ). suc n) (commits_more log r) ∙ raised (commits log) r
  where
    raised : (n : ℕ) (r : Record) → suc (commits_step n r) ≡ commits_step (suc n) r
    raised n (kinds.Commit c) = omega arith
    raised n _ = refl
commits_more (_ ∷ log) r = commits_more log r

limit_more : (log : List Record) (r : Record) → IsLawful log r → limit_of (log ++ r ∷ []) ≡ limit_step (limit_of log) r
limit_more log r l = by log r l.first
  where
    stays : (log : List Record) (x : Record) (more : List Record) → limit_of (x ∷ log ++ more) ≡ limit_of (x ∷ log)
    stays log (kinds.Format f) more = refl
    stays log _ more = refl

    other : (n : ℕ) (r : Record) → is_format r ≡ false → limit_step n r ≡ n
    other n (kinds.Format f) e = absurd cc
    other n _ e = refl

    first : (r : Record) → is_format r ≡ true → limit_of (r ∷ []) ≡ limit_step 0 r
    first (kinds.Format f) e = refl
    first _ e = absurd cc

    by : (log : List Record) (r : Record) → is_format r ≡ not (has_items log) → limit_of (log ++ r ∷ []) ≡ limit_step (limit_of log) r
    by [] r e = first r e
    by (x ∷ log) r e = stays log x (r ∷ []) ∙ sym (other (limit_of (x ∷ log)) r e)

next_more : (a b n : ℕ) → n ≡ max a b → suc n ≡ max (suc a) (suc b)
next_more a b n h = omega (arith, h)

listed_more : (log : List Record) (r : Record) → AreLawful log → IsLawful log r → checkpoint_of (log ++ r ∷ []) ≡ listed_step (length log + 1) (checkpoint_of log) r
unfolding checkpoint_of
listed_more log r lawful l = λ i. record {
  next_tx = next_more (greatest log) (tx_of r) (greatest (log ++ r ∷ [])) (greatest_push log r) i;
  commits = commits_more log r i;
  limit = limit_more log r l i;
  pages = heads_more log lawful r l i;
  transactions = sym (transactions_more log lawful r l) i;
  lost = lost_pages_push log r i;
  unrestored = unrestored_push log r i;
  runs = runs_push log r i;
  next_backup = next_more (last_backup log) (backup_number r) (last_backup (log ++ r ∷ [])) (last_backup_push log r) i;
  next_run = next_more (last_run log) (run_number r) (last_run (log ++ r ∷ [])) (last_run_push log r) i;
}

after_more : (before lsn : ℕ) (log : List Record) (r : Record) → checkpoint_after before lsn (log ++ r ∷ []) ≡ checkpoint_step (lsn + length log) (checkpoint_after before lsn log) r
after_more before lsn [] r = let e : lsn ≡ lsn + 0 = omega arith in ap (λ (n : ℕ). checkpoint_step n before r) e
after_more before lsn (x ∷ log) r =
    let e : suc lsn + length log ≡ lsn + suc (length log) = omega arith in
    after_more (checkpoint_step lsn before x) (suc lsn) log r ∙ ap (λ (n : ℕ). checkpoint_step n (checkpoint_after (checkpoint_step lsn before x) (suc lsn) log) r) e

checkpoint_more : (log : List Record) (r : Record) → last_checkpoint (log ++ r ∷ []) ≡ checkpoint_step (length log + 1) (last_checkpoint log) r
checkpoint_more log r = let e : 1 + length log ≡ length log + 1 = omega arith in after_more 0 1 log r ∙ ap (λ (n : ℕ). checkpoint_step n (last_checkpoint log) r) e

pub summary_more : (log : List Record) (r : Record) → AreLawful (log ++ r ∷ []) → summary_of (log ++ r ∷ []) ≡ summary_step (length log + 1) (summary_of log) r
summary_more log r lawful =
    let parts = lawful_front log r lawful in
    λ i. record { last = length-append log (r ∷ []) i; checkpoint = checkpoint_more log r i; listed = listed_more log r parts.0 parts.1 i }

pub step : (log : List Record) (r : Record) → StepLaw log r
step log r = record { step = summary_more log r }

-- ---- checkpoints

-- a checkpoint changes nothing of what is listed
listed_same : (n : ℕ) (c d : Checkpoint) → 1 ≤ c.next_tx → 1 ≤ c.next_backup → 1 ≤ c.next_run → listed_step n c (kinds.Checkpoint d) ≡ c
listed_same n c d t b r = λ i. record {
  next_tx = least c.next_tx t i;
  commits = c.commits;
  limit = c.limit;
  pages = c.pages;
  transactions = c.transactions;
  lost = c.lost;
  unrestored = c.unrestored;
  runs = c.runs;
  next_backup = least c.next_backup b i;
  next_run = least c.next_run r i;
}
  where
    least : (n : ℕ) → 1 ≤ n → max n 1 ≡ n
    least n h = omega (arith, h)

nexts : (log : List Record) → (1 ≤ (checkpoint_of log).next_tx) × (1 ≤ (checkpoint_of log).next_backup) × (1 ≤ (checkpoint_of log).next_run)
unfolding checkpoint_of
nexts log = (omega arith, omega arith, omega arith)

pub whole : (before : List Record) (c : Checkpoint) → AreLawful (before ++ kinds.Checkpoint c ∷ []) → summary_of (before ++ kinds.Checkpoint c ∷ []) ≡ from_checkpoint (length before + 1) c
whole before c lawful =
    let parts = lawful_front before (kinds.Checkpoint c) lawful in
    let n = nexts before in
    summary_more before (kinds.Checkpoint c) lawful
    ∙ (λ i. record { last = length before + 1; checkpoint = length before + 1; listed = (listed_same (length before + 1) (checkpoint_of before) c n.0 n.1 n.2 ∙ sym parts.1.upkeep) i })

pub checkpointed : (before : List Record) (c : Checkpoint) → CheckpointLaw before c
checkpointed before c = record { whole = whole before c }

-- ---- what stands behind a checkpoint

go_on_push : (s : Summary) (rs : List Record) (r : Record) → go_on s (rs ++ r ∷ []) ≡ summary_step ((go_on s rs).last + 1) (go_on s rs) r
go_on_push s [] r = refl
go_on_push s (x ∷ rs) r = go_on_push (summary_step (s.last + 1) s x) rs r

pub gone_on : (before : List Record) (c : Checkpoint) (rest : List Record) → AreLawful (before ++ kinds.Checkpoint c ∷ rest) → summary_of (before ++ kinds.Checkpoint c ∷ rest) ≡ go_on (from_checkpoint (length before + 1) c) rest
gone_on before c = by_pushes (λ (rest : List Record). AreLawful (before ++ kinds.Checkpoint c ∷ rest) → summary_of (before ++ kinds.Checkpoint c ∷ rest) ≡ go_on (from_checkpoint (length before + 1) c) rest) (whole before c)
    (λ rest r ih lawful.
    let e : (before ++ kinds.Checkpoint c ∷ rest) ++ r ∷ [] ≡ before ++ kinds.Checkpoint c ∷ (rest ++ r ∷ []) = append_assoc before (kinds.Checkpoint c ∷ rest) (r ∷ []) in
    let all : AreLawful ((before ++ kinds.Checkpoint c ∷ rest) ++ r ∷ []) = subst AreLawful (sym e) lawful in
    let s = ih (AllAlong_less IsLawful (before ++ kinds.Checkpoint c ∷ rest) (r ∷ []) all) in
    ap summary_of (sym e)
    ∙ summary_more (before ++ kinds.Checkpoint c ∷ rest) r all
    ∙ ap (λ (x : Summary). summary_step (x.last + 1) x r) s
    ∙ sym (go_on_push (from_checkpoint (length before + 1) c) rest r))

pub rest_of : (before : List Record) (c : Checkpoint) (rest : List Record) → RestLaw before c rest
rest_of before c rest = record { whole = gone_on before c rest }
