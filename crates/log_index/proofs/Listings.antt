-- What a listing says of a log, and of the log with one record more.
use Rattle.std.proofs.Common.{◌≡◌, ℕ, suc, ◌+◌, ◌-◌, ◌<◌, List, [], ◌∷◌, ◌++◌, length, refl, sym, ap, subst, ◌∙◌, arith}
use Rattle.std.specs.Prelude.{◌^◌}
use Rattle.store_model.specs.Along.{along}
use Rattle.wal_record.specs.Chains.{pages, greatest}
use Rattle.wal_record.specs.OpenWrites.{pending, open_writes, open_list, losers}
use Rattle.wal_record.specs.Upkeep.{archived, last_backup, lost_pages, unrestored, last_run, standing_runs}
use Rattle.wal_record.specs.Checkpoints.{checkpoint_of, analysis_of, commits, limit_of, page_head, unfinished, last_checkpoint, oldest, recycle_point}
use Rattle.wal_record.specs.Sound.{AreLawful}
use Rattle.wal_record.specs.declared.record.Record.{Record}
use Rattle.wal_record.specs.declared.record.Record.TheVariants as kinds
use Rattle.wal_record.specs.declared.record.Checkpoint.{Checkpoint}
use Rattle.wal_record.specs.declared.analysis.Analysis.{Analysis}
use Rattle.wal_record.proofs.Pushes.{lawful_front}
use Rattle.listing_laws.specs.Summary.{Summary, summary_of, summary_step, from_checkpoint, analysis_in, checkpoint_in, entry_at, writes_in, pending_in}
use Rattle.listing_laws.proofs.Steps.{summary_more, whole}
use Rattle.listing_laws.proofs.Reading.{analysis, checkpoint_back, counted, page_count, found_entry, found_writes}
use Rattle.listing_laws.proofs.Bounds.{few_commits, little_pending}
use Rattle.log_index.specs.Table.{IsCountOf, AreListed, listed_in, oldest_in}
use Rattle.log_index.specs.Listing.{summary, IsListingOf, covers_lsn, AreApart}
use Rattle.std.specs.Prelude.{min, fold}
use Rattle.std.proofs.Common.{◌≤◌, Bool, true, cond, eqb, map}
use Rattle.log_laws.proofs.Central.{eqb_differ}
use Rattle.listing_laws.proofs.Numbers.{runs_in, last_small}
use Rattle.log_index.proofs.Checkpointed.{log_listed}
use Rattle.log_index.proofs.Covering.{apart}
use Rattle.std.specs.List.{find}
use Rattle.std.proofs.Common.{Option}
use Rattle.wal_record.specs.declared.analysis.Run.{Run}
use Rattle.log_index.specs.declared.listing.Listing.{Listing}

commits_listed : (log : List Record) → (checkpoint_of log).commits ≡ commits log
unfolding checkpoint_of
commits_listed log = refl

pub same_listing : (log : List Record) (old new : Listing) → summary new ≡ summary old → new.pending ≡ old.pending → IsListingOf log old → IsListingOf log new
unfolding IsListingOf
same_listing log old new s p h = (s ∙ h.0, p ∙ h.1)

pub more_listing : (log : List Record) (r : Record) (lsn : ℕ) (old new : Listing) → (old.numbers.commits < 2 ^ 64 - 1 → summary new ≡ summary_step lsn (summary old) r)
    → (old.pending < 2 ^ 64 - 1 → IsCountOf (summary old).listed.transactions old.pending → IsCountOf (summary new).listed.transactions new.pending)
    → IsListingOf log old → AreLawful (log ++ r ∷ []) → lsn ≡ length log + 1 → length log < 2 ^ 63 → IsListingOf (log ++ r ∷ []) new
unfolding IsListingOf
more_listing log r lsn old new step count h lawful at short = (all, count few old_count ∙ ap (λ (x : Summary). pending_in x.listed.transactions) all ∙ sym (counted (log ++ r ∷ []) lawful))
  where
    front : AreLawful log
    front = (lawful_front log r lawful).0

    room : old.numbers.commits < 2 ^ 64 - 1
    room =
        let is = ap (λ (x : Summary). x.listed.commits) h.0 ∙ commits_listed log in
        let few = few_commits log in
        omega (arith, is, few, short)

    all : summary new ≡ summary_of (log ++ r ∷ [])
    all = step room ∙ ap (λ (x : Summary). summary_step lsn x r) h.0 ∙ ap (λ (n : ℕ). summary_step n (summary_of log) r) at ∙ sym (summary_more log r lawful)

    few : old.pending < 2 ^ 64 - 1
    few = let is = h.1 in let little = little_pending log front in omega (arith, is, little)

    old_count : IsCountOf (summary old).listed.transactions old.pending
    old_count = h.1 ∙ counted log front ∙ sym (ap (λ (x : Summary). pending_in x.listed.transactions) h.0)

-- ---- no record

none_listed : listed_in [] ≡ []
unfolding listed_in
none_listed = refl

none_pending : pending [] ≡ 0
unfolding pending greatest open_writes along
none_pending = refl

none_summed : summary_of [] ≡ record { last = 0; checkpoint = 0; listed = record { next_tx = 1; commits = 0; limit = 0; pages = []; transactions = []; lost = 0; unrestored = []; runs = []; next_backup = 1; next_run = 1 } }
unfolding checkpoint_of greatest pages lost_pages unrestored standing_runs last_backup last_run along
none_summed = refl

pub empty_listing : (s : Listing) → s.last ≡ 0 → s.checkpoint ≡ 0 → s.numbers ≡ record { next_tx = 1; next_backup = 1; next_run = 1; commits = 0; limit = 0 } → s.heads.items ≡ [] → s.table.entries ≡ [] → s.pending ≡ 0
    → s.upkeep.lost ≡ 0 → s.upkeep.unrestored.items ≡ [] → s.upkeep.runs.items ≡ [] → IsListingOf [] s
unfolding IsListingOf
empty_listing s l c n h t p lost unrestored runs = (
  (λ i. record {
    last = l i;
    checkpoint = c i;
    listed = record {
      next_tx = (n i).next_tx;
      commits = (n i).commits;
      limit = (n i).limit;
      pages = h i;
      transactions = (ap listed_in t ∙ none_listed) i;
      lost = lost i;
      unrestored = unrestored i;
      runs = runs i;
      next_backup = (n i).next_backup;
      next_run = (n i).next_run;
    };
  })
      ∙ sym none_summed,
  p ∙ sym none_pending,
)

-- ---- what is read off

pub checkpoint_told : (log : List Record) (s : Listing) → IsListingOf log s → (summary s).listed ≡ checkpoint_of log
unfolding IsListingOf
checkpoint_told log s h = ap (λ (x : Summary). x.listed) h.0

pub analysis_told : (log : List Record) (s : Listing) → IsListingOf log s → analysis_in (summary s).listed ≡ analysis_of log
analysis_told log s h = ap analysis_in (checkpoint_told log s h) ∙ sym (analysis log)

-- ---- a checkpoint

pub checkpoint_listing : (before : List Record) (c : Checkpoint) (lsn : ℕ) (s : Listing) → AreLawful (before ++ kinds.Checkpoint c ∷ []) → lsn ≡ length before + 1 → (AreListed c.transactions → summary s ≡ from_checkpoint lsn c) → (pending_in c.transactions < 2 ^ 64 → s.pending ≡ pending_in c.transactions)
    → IsListingOf (before ++ kinds.Checkpoint c ∷ []) s
unfolding IsListingOf
checkpoint_listing before c lsn s lawful at told count = (
  told are_listed ∙ ap (λ (n : ℕ). from_checkpoint n c) at ∙ sym (whole before c lawful),
  count (let e = total in let l = little_pending (before ++ kinds.Checkpoint c ∷ []) lawful in omega (arith, e, l)) ∙ sym total,
)
  where
    listed_now : (checkpoint_of (before ++ kinds.Checkpoint c ∷ [])).transactions ≡ c.transactions
    listed_now = ap (λ (x : Summary). x.listed.transactions) (whole before c lawful)

    total : pending (before ++ kinds.Checkpoint c ∷ []) ≡ pending_in c.transactions
    total = counted (before ++ kinds.Checkpoint c ∷ []) lawful ∙ ap pending_in listed_now

    are_listed : AreListed c.transactions
    are_listed = subst AreListed listed_now (log_listed (before ++ kinds.Checkpoint c ∷ []))

-- ---- an analysis

pub analysis_listing : (log : List Record) (a : Analysis) (last checkpoint : ℕ) (s : Listing) → AreLawful log → a ≡ analysis_of log → last ≡ length log → checkpoint ≡ last_checkpoint log
    → (AreListed (checkpoint_in a).transactions → summary s ≡ record { last = last; checkpoint = checkpoint; listed = checkpoint_in a }) → (pending_in (checkpoint_in a).transactions < 2 ^ 64 → s.pending ≡ pending_in (checkpoint_in a).transactions)
    → IsListingOf log s
unfolding IsListingOf
analysis_listing log a last checkpoint s lawful is at last_at told count = (
  told are_listed ∙ (λ i. record { last = at i; checkpoint = last_at i; listed = same i }),
  count (let e = total in let l = little_pending log lawful in omega (arith, e, l)) ∙ sym total,
)
  where
    same : checkpoint_in a ≡ checkpoint_of log
    same = ap checkpoint_in is ∙ checkpoint_back log

    total : pending log ≡ pending_in (checkpoint_in a).transactions
    total = counted log lawful ∙ ap (λ (c : Checkpoint). pending_in c.transactions) (sym same)

    are_listed : AreListed (checkpoint_in a).transactions
    are_listed = subst (λ (c : Checkpoint). AreListed c.transactions) (sym same) (log_listed log)

-- ---- what getters tell

module _ (log : List Record) (s : Listing) where
  pub last_told : IsListingOf log s → s.last ≡ length log
  unfolding IsListingOf
  last_told h = ap (λ (x : Summary). x.last) h.0

  pub last_checkpoint_told : IsListingOf log s → s.checkpoint ≡ last_checkpoint log
  unfolding IsListingOf
  last_checkpoint_told h = ap (λ (x : Summary). x.checkpoint) h.0

  pub pending_told : IsListingOf log s → s.pending ≡ pending log
  unfolding IsListingOf
  pending_told h = h.1

  pub commits_told : IsListingOf log s → s.numbers.commits ≡ commits log
  commits_told h = ap (λ (c : Checkpoint). c.commits) (checkpoint_told log s h) ∙ commits_listed log

  pub limit_told : IsListingOf log s → s.numbers.limit ≡ limit_of log
  unfolding checkpoint_of
  limit_told h = ap (λ (c : Checkpoint). c.limit) (checkpoint_told log s h)

  pub next_tx_told : IsListingOf log s → s.numbers.next_tx ≡ suc (greatest log)
  unfolding checkpoint_of
  next_tx_told h = ap (λ (c : Checkpoint). c.next_tx) (checkpoint_told log s h)

  pub next_backup_told : IsListingOf log s → s.numbers.next_backup ≡ suc (last_backup log)
  unfolding checkpoint_of
  next_backup_told h = ap (λ (c : Checkpoint). c.next_backup) (checkpoint_told log s h)

  pub next_run_told : IsListingOf log s → s.numbers.next_run ≡ suc (last_run log)
  unfolding checkpoint_of
  next_run_told h = ap (λ (c : Checkpoint). c.next_run) (checkpoint_told log s h)

  pub lost_told : IsListingOf log s → s.upkeep.lost ≡ lost_pages log
  unfolding checkpoint_of
  lost_told h = ap (λ (c : Checkpoint). c.lost) (checkpoint_told log s h)

  pub pages_told : IsListingOf log s → length s.heads.items ≡ pages log
  pages_told h = ap (λ (c : Checkpoint). length c.pages) (checkpoint_told log s h) ∙ page_count log

  pub entry_told : IsListingOf log s → AreLawful log → (p : ℕ) → entry_at p s.heads.items ≡ page_head log p
  entry_told h lawful p = ap (λ (c : Checkpoint). entry_at p c.pages) (checkpoint_told log s h) ∙ sym (found_entry log lawful p)

  pub writes_told : IsListingOf log s → AreLawful log → (t : ℕ) → writes_in t (listed_in s.table.entries) ≡ open_list log t
  writes_told h lawful t = ap (λ (c : Checkpoint). writes_in t c.transactions) (checkpoint_told log s h) ∙ sym (found_writes log lawful t)

  pub runs_told : IsListingOf log s → s.upkeep.runs.items ≡ standing_runs log
  unfolding checkpoint_of
  runs_told h = ap (λ (c : Checkpoint). c.runs) (checkpoint_told log s h)

  pub unrestored_told : IsListingOf log s → s.upkeep.unrestored.items ≡ unrestored log
  unfolding checkpoint_of
  unrestored_told h = ap (λ (c : Checkpoint). c.unrestored) (checkpoint_told log s h)

-- ---- the recycle point

module _ (log : List Record) (s : Listing) (h : IsListingOf log s) (lawful : AreLawful log) where
  small_archived : archived (standing_runs log) ≤ 2 ^ 63 - 1
  small_archived = last_small (standing_runs log) (runs_in log lawful).0

  fold_listed : (n : ℕ) (ts : List ℕ) → oldest_in n (map (unfinished log) ts) ≡ fold (λ m t. oldest (open_list log t) m) n ts
  fold_listed n [] = refl
  fold_listed n (t ∷ ts) = fold_listed (oldest (open_list log t) n) ts

  told_listed : (n : ℕ) → oldest_in n (listed_in s.table.entries) ≡ fold (λ m t. oldest (open_list log t) m) n (losers log)
  unfolding checkpoint_of
  told_listed n = ap (λ (c : Checkpoint). oldest_in n c.transactions) (checkpoint_told log s h) ∙ fold_listed n (losers log)

  pub none_told : s.checkpoint ≡ 0 → 1 ≡ recycle_point log
  none_told e = sym (ap (λ (b : Bool). cond b 1 (min (last_checkpoint log) (fold (λ m t. oldest (open_list log t) m) (suc (archived (standing_runs log))) (losers log)))) (subst (λ (k : ℕ). eqb k 0 ≡ true) (sym (sym (last_checkpoint_told log s h) ∙ e)) refl))

  pub recycle_told : (s.checkpoint ≡ 0 → ⊥) → (a next needed : ℕ) → a ≡ archived s.upkeep.runs.items → next ≡ min (a + 1) (2 ^ 64 - 1) → needed ≡ oldest_in next (listed_in s.table.entries) → min s.checkpoint needed ≡ recycle_point log
  recycle_told some a next needed ea en eneeded =
      (λ i. min (last_checkpoint_told log s h i) ((eneeded ∙ told_listed next ∙ ap (λ (n : ℕ). fold (λ m t. oldest (open_list log t) m) n (losers log)) is_next) i))
      ∙ sym (ap (λ (b : Bool). cond b 1 (min (last_checkpoint log) (fold (λ m t. oldest (open_list log t) m) (suc (archived (standing_runs log))) (losers log)))) (eqb_differ (last_checkpoint log) 0 (λ e. some (last_checkpoint_told log s h ∙ e))))
    where
      is_next : next ≡ suc (archived (standing_runs log))
      is_next = let e = ea ∙ ap archived (runs_told log s h) in let small = small_archived in omega (arith, en, e, small)

-- ---- the run of an LSN

pub run_told : (log : List Record) (s : Listing) (lsn : ℕ) (found : Option Run) → IsListingOf log s → AreLawful log → (AreApart s.upkeep.runs.items → found ≡ find (covers_lsn lsn) s.upkeep.runs.items) → found ≡ find (covers_lsn lsn) (standing_runs log)
run_told log s lsn found h lawful is =
    let runs = runs_told log s h in
    is (subst AreApart (sym runs) (apart (standing_runs log) (runs_in log lawful).0)) ∙ ap (find (covers_lsn lsn)) runs
