-- How each fold over a log or a history goes on by one item. Proofs cite these and open no fold.
use Rattle.std.proofs.Common.{◌≡◌, ℕ, cond, List, [], ◌∷◌, ◌++◌, refl, ap, sym, ◌∙◌, append_assoc}
use Rattle.std.specs.Prelude.{max, length, ◌+◌, suc}
use Rattle.std.proofs.lemmas.List.{append-nil}
use Rattle.wal_record.specs.declared.record.Record.{Record}
use Rattle.wal_record.specs.declared.entry.Entry.{Entry}
use Rattle.wal_record.specs.declared.entry.Entry.TheVariants.{Rec, Began}
use Rattle.wal_record.specs.Chains.{names, head, pages_step, pages, link_of, is_link_of, last, tx_of, greatest}
use Rattle.wal_record.specs.OpenWrites.{key_of, open_step, open_writes, open_list}
use Rattle.wal_record.specs.Contents.{after, current, committed_step, committed_contents}
use Rattle.wal_record.specs.Images.{applied, image}
use Rattle.wal_record.specs.Upkeep.{written_step, written_lsn, backup_number, last_backup, backup_step, page_backup, lost_step, lost_pages, unrestored_step, unrestored, run_number, last_run, runs_step, standing_runs}
use Rattle.wal_record.specs.Sound.{IsLawful, AreLawful}
use Rattle.wal_record.specs.History.{log_of, life_log, Beginning, beginnings, phase_step, phase, begun_step, greatest_begun, session_step, last_begun}
use Rattle.wal_record.specs.Locks.{locks_step, taken_locks}
use Rattle.wal_record.specs.Steps.{step_of, steps, finished_step, committed_transactions}
use Rattle.wal_record.specs.Legal.{untold_step, untold, split_step, split_leaf, IsAllowed, IsLegal}
use Rattle.wal_record.specs.Books.{maintenance_step, maintenance_book, belongs, session_entries}
use Rattle.wal_record.proofs.Along.{along_push, AllAlong_front, AllAlong_back}

-- ---- logs

pub lawful_front : (log : List Record) (r : Record) → AreLawful (log ++ r ∷ []) → AreLawful log × IsLawful log r
lawful_front log r h = AllAlong_front IsLawful log r h

pub lawful_back : (log : List Record) (r : Record) → AreLawful log → IsLawful log r → AreLawful (log ++ r ∷ [])
lawful_back log r h g = AllAlong_back IsLawful log r h g

pub head_push : (log : List Record) (r : Record) (p : ℕ) → head (log ++ r ∷ []) p ≡ cond (names p r) (length log + 1) (head log p)
unfolding head
head_push log r p = along_push _ _ log r

pub pages_push : (log : List Record) (r : Record) → pages (log ++ r ∷ []) ≡ pages_step (pages log) r
unfolding pages
pages_push log r = along_push _ _ log r

pub last_push : (log : List Record) (r : Record) (t : ℕ) → last (log ++ r ∷ []) t ≡ cond (is_link_of t (link_of r)) (length log + 1) (last log t)
unfolding last
last_push log r t = along_push _ _ log r

pub greatest_push : (log : List Record) (r : Record) → greatest (log ++ r ∷ []) ≡ max (greatest log) (tx_of r)
unfolding greatest
greatest_push log r = along_push _ _ log r

pub open_push : (log : List Record) (r : Record) (t : ℕ) → open_writes (log ++ r ∷ []) t ≡ open_step t r (open_writes log t) r
unfolding open_writes
open_push log r t = along_push _ _ log r

pub open_list_push : (log : List Record) (r : Record) (t : ℕ) → open_list (log ++ r ∷ []) t ≡ open_step t (record { lsn = length log + 1; key = key_of r }) (open_list log t) r
unfolding open_list
open_list_push log r t = along_push _ _ log r

pub current_push : (log : List Record) (r : Record) → current (log ++ r ∷ []) ≡ after (current log) r
unfolding current
current_push log r = along_push _ _ log r

pub committed_push : (log : List Record) (r : Record) → committed_contents (log ++ r ∷ []) ≡ committed_step log (committed_contents log) r
unfolding committed_contents
committed_push log r = along_push _ _ log r

pub image_push : (log : List Record) (r : Record) (p : ℕ) → image (log ++ r ∷ []) p ≡ cond (names p r) (applied r p (image log p)) (image log p)
unfolding image
image_push log r p = along_push _ _ log r

pub written_push : (log : List Record) (r : Record) (p : ℕ) → written_lsn (log ++ r ∷ []) p ≡ written_step p (written_lsn log p) r
unfolding written_lsn
written_push log r p = along_push _ _ log r

pub last_backup_push : (log : List Record) (r : Record) → last_backup (log ++ r ∷ []) ≡ max (last_backup log) (backup_number r)
unfolding last_backup
last_backup_push log r = along_push _ _ log r

pub page_backup_push : (log : List Record) (r : Record) (p : ℕ) → page_backup (log ++ r ∷ []) p ≡ backup_step p (page_backup log p) r
unfolding page_backup
page_backup_push log r p = along_push _ _ log r

pub lost_pages_push : (log : List Record) (r : Record) → lost_pages (log ++ r ∷ []) ≡ lost_step (lost_pages log) r
unfolding lost_pages
lost_pages_push log r = along_push _ _ log r

pub unrestored_push : (log : List Record) (r : Record) → unrestored (log ++ r ∷ []) ≡ unrestored_step (unrestored log) r
unfolding unrestored
unrestored_push log r = along_push _ _ log r

pub last_run_push : (log : List Record) (r : Record) → last_run (log ++ r ∷ []) ≡ max (last_run log) (run_number r)
unfolding last_run
last_run_push log r = along_push _ _ log r

pub runs_push : (log : List Record) (r : Record) → standing_runs (log ++ r ∷ []) ≡ runs_step (standing_runs log) r
unfolding standing_runs
runs_push log r = along_push _ _ log r

-- ---- histories

pub legal_front : (opening : List Record) (h : List Entry) (e : Entry) → IsLegal opening (h ++ e ∷ []) → IsLegal opening h × IsAllowed opening h e
legal_front opening h e legal = AllAlong_front (IsAllowed opening) h e legal

pub log_of_push : (h : List Entry) (e : Entry) → log_of (h ++ e ∷ []) ≡ log_of h ++ log_of (e ∷ [])
log_of_push [] e = refl
log_of_push (Rec lsn r ∷ es) e = ap (λ (rs : List Record). r ∷ rs) (log_of_push es e)
log_of_push (_ ∷ es) e = log_of_push es e

pub log_same : (opening : List Record) (h : List Entry) (e : Entry) → log_of (e ∷ []) ≡ [] → opening ++ log_of (h ++ e ∷ []) ≡ opening ++ log_of h
log_same opening h e none = ap (λ (rs : List Record). opening ++ rs) (log_of_push h e ∙ ap (λ (rs : List Record). log_of h ++ rs) none ∙ append-nil (log_of h))

pub log_more : (opening : List Record) (h : List Entry) (lsn : ℕ) (r : Record) → opening ++ log_of (h ++ Rec lsn r ∷ []) ≡ (opening ++ log_of h) ++ r ∷ []
log_more opening h lsn r = ap (λ (rs : List Record). opening ++ rs) (log_of_push h (Rec lsn r)) ∙ sym (append_assoc opening (log_of h) (r ∷ []))

pub beginnings_push : (h : List Entry) (e : Entry) → beginnings (h ++ e ∷ []) ≡ beginnings h ++ beginnings (e ∷ [])
beginnings_push [] e = refl
beginnings_push (Began session tx ∷ es) e = ap (λ (bs : List Beginning). record { session = session; tx = tx } ∷ bs) (beginnings_push es e)
beginnings_push (_ ∷ es) e = beginnings_push es e

pub phase_push : (h : List Entry) (e : Entry) (t : ℕ) → phase (h ++ e ∷ []) t ≡ phase_step t (phase h t) e
unfolding phase
phase_push h e t = along_push _ _ h e

pub begun_push : (h : List Entry) (e : Entry) → greatest_begun (h ++ e ∷ []) ≡ begun_step (greatest_begun h) e
unfolding greatest_begun
begun_push h e = along_push _ _ h e

pub last_begun_push : (h : List Entry) (e : Entry) (session : ℕ) → last_begun (h ++ e ∷ []) session ≡ session_step session (last_begun h session) e
unfolding last_begun
last_begun_push h e session = along_push _ _ h e

pub taken_push : (h : List Entry) (e : Entry) (t : ℕ) → taken_locks (h ++ e ∷ []) t ≡ locks_step t (taken_locks h t) e
unfolding taken_locks
taken_push h e t = along_push _ _ h e

pub untold_push : (h : List Entry) (e : Entry) → untold (h ++ e ∷ []) ≡ untold_step e
unfolding untold
untold_push h e = along_push _ _ h e

pub split_leaf_push : (opening : List Record) (h : List Entry) (e : Entry) → split_leaf opening (h ++ e ∷ []) ≡ split_step (life_log opening h) e
unfolding split_leaf
split_leaf_push opening h e = along_push _ _ h e

pub steps_push : (h : List Entry) (e : Entry) (t : ℕ) → steps (h ++ e ∷ []) t ≡ steps h t ++ step_of t e
unfolding steps
steps_push h e t = along_push _ _ h e

pub transactions_push : (h : List Entry) (e : Entry) → committed_transactions (h ++ e ∷ []) ≡ finished_step h (committed_transactions h) e
unfolding committed_transactions
transactions_push h e = along_push _ _ h e

pub maintenance_push : (h : List Entry) (e : Entry) → maintenance_book (h ++ e ∷ []) ≡ maintenance_step (maintenance_book h) e
unfolding maintenance_book
maintenance_push h e = along_push _ _ h e

pub session_entries_push : (h : List Entry) (e : Entry) (session : ℕ) → session_entries (h ++ e ∷ []) session ≡ cond (belongs h session e) (suc (session_entries h session)) (session_entries h session)
unfolding session_entries
session_entries_push h e session = along_push _ _ h e
