-- The items of lists, and the kinds of records with lists, are fields.
use Rattle.std.proofs.Common.{◌≡◌, ℕ, zero, suc, get_or, ◌<◌, ◌^◌, Bool, List, [], ◌∷◌, ◌++◌, length, refl, sym, subst, append_assoc, arith}
use Rattle.std.specs.Prelude.{IsTrue, ◌&&◌}
use Rattle.std.specs.List.{list_all}
use Rattle.std.specs.Int.{w8, w16, w32, w64}
use Rattle.std.proofs.lemmas.Bool.Decides.{nat_tests}
use Rattle.std.proofs.lemmas.List.{append-nil}
use Rattle.store_model.specs.Along.{AllFrom, AllAlong}
use Rattle.store_model.proofs.Bools.{both_true, and_true}
use Rattle.wal_record.specs.State.{is_key}
use Rattle.wal_record.specs.Rules.{is_number, is_lsn_or_none, is_next, is_page, is_page_count, is_u16, is_u32, is_u64, rises_above, page_head_fits, open_write_fits, segment_fits, run_fits, page_lsn_fits, KeepsUnfinished, KeepsCheckpoint, KeepsBackupDone}
use Rattle.wal_record.specs.Spelling.{number_bytes, list_bytes, page_head_bytes, open_write_bytes, unfinished_bytes, run_bytes, page_lsn_bytes, checkpoint_bytes, backup_done_bytes}
use Rattle.wal_record.specs.Reading.{any_number, number_at, list_at, page_head_at, open_write_at, unfinished_at, segment_at, run_at, page_lsn_at, checkpoint_at, backup_done_at}
use Rattle.wal_record.specs.declared.analysis.PageHead.{PageHead}
use Rattle.wal_record.specs.declared.analysis.Run.{Run}
use Rattle.wal_record.specs.declared.record.OpenWrite.{OpenWrite}
use Rattle.wal_record.specs.declared.record.Unfinished.{Unfinished}
use Rattle.wal_record.specs.declared.record.Checkpoint.{Checkpoint}
use Rattle.wal_record.specs.declared.record.PageLsn.{PageLsn}
use Rattle.wal_record.specs.declared.record.BackupDone.{BackupDone}
use Rattle.state_codec.proofs.Fields.{IsField, step, done, respelled, number_field, wide8, wide16, wide32, wide64}
use Rattle.state_codec.proofs.FieldKinds.{a_number, an_lsn_or_none, a_next, a_u32, a_u64, a_key, lt_true, lt_is_true}
use Rattle.state_codec.proofs.Items.{list_field}

-- ---- numbers that rise

number_below : (n : ℕ) → IsTrue (is_number n) → n < 2 ^ 64
number_below n h = grind (arith, nat_tests)

number_and : (n : ℕ) (b : Bool) → IsTrue (is_number n && b) → n < 2 ^ 64
number_and n b h = number_below n (both_true (is_number n) b h).0

a_rising_number : (more : ℕ → Bool) → IsField (number_at w64 (λ n. is_number n && more n)) (number_bytes w64) (λ n. IsTrue (is_number n && more n))
a_rising_number more = number_field w64 (2 ^ 64) wide64 (λ n. is_number n && more n) (λ n. IsTrue (is_number n && more n)) (λ n lt h. h) (λ n h. (h, number_and n (more n) h))

page_below : (n : ℕ) → IsTrue (is_page n) → n < 2 ^ 32
page_below n h = grind (arith, nat_tests)

a_rising_page : (more : ℕ → Bool) → IsField (number_at w32 (λ n. is_page n && more n)) (number_bytes w32) (λ n. IsTrue (is_page n && more n))
a_rising_page more = number_field w32 (2 ^ 32) wide32 (λ n. is_page n && more n) (λ n. IsTrue (is_page n && more n)) (λ n lt h. h) (λ n h. (h, page_below n (both_true (is_page n) (more n) h).0))

a_u16 : IsField (number_at w16 any_number) (number_bytes w16) (λ n. IsTrue (is_u16 n))
a_u16 = number_field w16 (2 ^ 16) wide16 any_number (λ n. IsTrue (is_u16 n)) (λ n lt h. lt_is_true n (2 ^ 16) lt) (λ n h. (refl, lt_true n (2 ^ 16) h))

count_below : (n : ℕ) → IsTrue (is_page_count n) → n < 2 ^ 8
count_below n h = grind (arith, nat_tests)

a_page_count : IsField (number_at w8 is_page_count) (number_bytes w8) (λ n. IsTrue (is_page_count n))
a_page_count = number_field w8 (2 ^ 8) wide8 is_page_count (λ n. IsTrue (is_page_count n)) (λ n lt h. h) (λ n h. (h, count_below n h))

-- ---- items

page_head_item : (before : List PageHead) → IsField (page_head_at before) page_head_bytes (λ h. IsTrue (page_head_fits h))
unfolding page_head_at
page_head_item before = respelled
    (step a_number (λ (r : PageHead). r.head) (λ r. Unit {0}) (λ r. IsTrue (is_number r.head)) _ (λ r _ h. h) (λ r _ h. h) _ _ (λ head _.
    (step an_lsn_or_none (λ (r : PageHead). r.written) (λ r. (Unit {0}) × (r.head ≡ head)) (λ r. IsTrue (is_lsn_or_none r.written)) _ (λ r _ h. h) (λ r _ h. h) _ _ (λ written _.
    (step an_lsn_or_none (λ (r : PageHead). r.backup) (λ r. ((Unit {0}) × (r.head ≡ head)) × (r.written ≡ written)) (λ r. IsTrue (is_lsn_or_none r.backup)) _ (λ r _ h. h) (λ r _ h. h) _ _ (λ backup _.
    (step an_lsn_or_none (λ (r : PageHead). r.backup_lsn) (λ r. (((Unit {0}) × (r.head ≡ head)) × (r.written ≡ written)) × (r.backup ≡ backup)) (λ r. IsTrue (is_lsn_or_none r.backup_lsn)) (λ r. Unit {0}) (λ r _ h. h) (λ r _ h. h) _ _ (λ backup_lsn _.
    done (record { head = head; written = written; backup = backup; backup_lsn = backup_lsn }) (λ r. ((((Unit {0}) × (r.head ≡ head)) × (r.written ≡ written)) × (r.backup ≡ backup)) × (r.backup_lsn ≡ backup_lsn)) ((((tt, refl), refl), refl), refl) (λ r h. λ i. record { head = sym h.0.0.0.1 i; written = sym h.0.0.1 i; backup = sym h.0.1 i; backup_lsn = sym h.1 i })))))))))
    (λ r. simp (append_assoc, append-nil))
    (λ r h. and_true _ _ (and_true _ _ h.1.0 h.1.1.0) (and_true _ _ h.1.1.1.0 h.1.1.1.1.0))
    (λ r h. let a = both_true _ _ h in let b = both_true _ _ a.0 in let c = both_true _ _ a.1 in (tt, (b.0, (b.1, (c.0, (c.1, tt))))))

open_write_item : (before : List OpenWrite) → IsField (open_write_at before) open_write_bytes (λ w. IsTrue (open_write_fits before w))
unfolding open_write_at
open_write_item before = respelled
    (step (a_rising_number (rises_above (λ (x : OpenWrite). x.lsn) before)) (λ (r : OpenWrite). r.lsn) (λ r. Unit {0}) (λ r. IsTrue (is_number r.lsn && rises_above (λ (x : OpenWrite). x.lsn) before r.lsn)) _ (λ r _ h. h) (λ r _ h. h) _ _ (λ lsn _.
    (step a_key (λ (r : OpenWrite). r.key) (λ r. (Unit {0}) × (r.lsn ≡ lsn)) (λ r. IsTrue (is_key r.key)) (λ r. Unit {0}) (λ r _ h. h) (λ r _ h. h) _ _ (λ key _.
    done (record { lsn = lsn; key = key }) (λ r. ((Unit {0}) × (r.lsn ≡ lsn)) × (r.key ≡ key)) ((tt, refl), refl) (λ r h. λ i. record { lsn = sym h.0.1 i; key = sym h.1 i })))))
    (λ r. simp (append_assoc, append-nil))
    (λ r h. and_true _ _ h.1.0 h.1.1.0)
    (λ r h. let a = both_true _ _ h in (tt, (a.0, (a.1, tt))))

open_writes_field : IsField (list_at w32 any_number open_write_at) (list_bytes w32 open_write_bytes) (λ ws. IsTrue (is_u32 (length ws)) × AllAlong (λ before w. IsTrue (open_write_fits before w)) ws)
open_writes_field = list_field open_write_at open_write_bytes (λ before w. IsTrue (open_write_fits before w)) open_write_item w32 any_number (λ n. IsTrue (is_u32 n)) a_u32

unfinished_item : (before : List Unfinished) → IsField (unfinished_at before) unfinished_bytes (KeepsUnfinished before)
unfolding unfinished_at
unfinished_item before = respelled
    (step (a_rising_number (rises_above (λ (x : Unfinished). x.tx) before)) (λ (r : Unfinished). r.tx) (λ r. Unit {0}) (λ r. IsTrue (is_number r.tx && rises_above (λ (x : Unfinished). x.tx) before r.tx)) _ (λ r _ h. h) (λ r _ h. h) _ _ (λ tx _.
    (step a_number (λ (r : Unfinished). r.last) (λ r. (Unit {0}) × (r.tx ≡ tx)) (λ r. IsTrue (is_number r.last)) _ (λ r _ h. h) (λ r _ h. h) _ _ (λ last _.
    (step an_lsn_or_none (λ (r : Unfinished). r.undo_next) (λ r. ((Unit {0}) × (r.tx ≡ tx)) × (r.last ≡ last)) (λ r. IsTrue (is_lsn_or_none r.undo_next)) _ (λ r _ h. h) (λ r _ h. h) _ _ (λ undo_next _.
    (step open_writes_field (λ (r : Unfinished). r.writes) (λ r. (((Unit {0}) × (r.tx ≡ tx)) × (r.last ≡ last)) × (r.undo_next ≡ undo_next)) (λ r. IsTrue (is_u32 (length r.writes)) × AllAlong (λ before w. IsTrue (open_write_fits before w)) r.writes) (λ r. Unit {0}) (λ r _ h. h) (λ r _ h. h) _ _ (λ writes _.
    done (record { tx = tx; last = last; undo_next = undo_next; writes = writes }) (λ r. ((((Unit {0}) × (r.tx ≡ tx)) × (r.last ≡ last)) × (r.undo_next ≡ undo_next)) × (r.writes ≡ writes)) ((((tt, refl), refl), refl), refl) (λ r h. λ i. record { tx = sym h.0.0.0.1 i; last = sym h.0.0.1 i; undo_next = sym h.0.1 i; writes = sym h.1 i })))))))))
    (λ r. simp (append_assoc, append-nil))
    (λ r h. record { tx = h.1.0; last = h.1.1.0; undo_next = h.1.1.1.0; count = h.1.1.1.1.0.0; writes = h.1.1.1.1.0.1 })
    (λ r h. (tt, (h.tx, (h.last, (h.undo_next, ((h.count, h.writes), tt))))))

segment_item : (before : List ℕ) → IsField (segment_at before) (number_bytes w32) (λ n. IsTrue (segment_fits before n))
unfolding segment_at
segment_item before = number_field w32 (2 ^ 32) wide32 (rises_above (λ n. n) before) (λ n. IsTrue (segment_fits before n))
    (λ n lt h. and_true (is_u32 n) _ (lt_is_true n (2 ^ 32) lt) h) (λ n h. let a = both_true (is_u32 n) _ h in (a.1, lt_true n (2 ^ 32) a.0))

run_item : (before : List Run) → IsField (run_at before) run_bytes (λ r. IsTrue (run_fits before r))
unfolding run_at
run_item before = respelled
    (step a_number (λ (r : Run). r.run) (λ r. Unit {0}) (λ r. IsTrue (is_number r.run)) _ (λ r _ h. h) (λ r _ h. h) _ _ (λ run _.
    (step (a_rising_number (rises_above (λ (x : Run). x.first) before)) (λ (r : Run). r.first) (λ r. (Unit {0}) × (r.run ≡ run)) (λ r. IsTrue (is_number r.first && rises_above (λ (x : Run). x.first) before r.first)) _ (λ r _ h. h) (λ r _ h. h) _ _ (λ first _.
    (step a_number (λ (r : Run). r.last) (λ r. ((Unit {0}) × (r.run ≡ run)) × (r.first ≡ first)) (λ r. IsTrue (is_number r.last)) (λ r. Unit {0}) (λ r _ h. h) (λ r _ h. h) _ _ (λ last _.
    done (record { run = run; first = first; last = last }) (λ r. (((Unit {0}) × (r.run ≡ run)) × (r.first ≡ first)) × (r.last ≡ last)) (((tt, refl), refl), refl) (λ r h. λ i. record { run = sym h.0.0.1 i; first = sym h.0.1 i; last = sym h.1 i })))))))
    (λ r. simp (append_assoc, append-nil))
    (λ r h. and_true _ _ (and_true _ _ h.1.0 h.1.1.0) h.1.1.1.0)
    (λ r h. let a = both_true _ _ h in let b = both_true _ _ a.0 in (tt, (b.0, (b.1, (a.1, tt)))))

page_lsn_item : (before : List PageLsn) → IsField (page_lsn_at before) page_lsn_bytes (λ p. IsTrue (page_lsn_fits before p))
unfolding page_lsn_at
page_lsn_item before = respelled
    (step (a_rising_page (rises_above (λ (x : PageLsn). x.page) before)) (λ (r : PageLsn). r.page) (λ r. Unit {0}) (λ r. IsTrue (is_page r.page && rises_above (λ (x : PageLsn). x.page) before r.page)) _ (λ r _ h. h) (λ r _ h. h) _ _ (λ page _.
    (step a_number (λ (r : PageLsn). r.lsn) (λ r. (Unit {0}) × (r.page ≡ page)) (λ r. IsTrue (is_number r.lsn)) (λ r. Unit {0}) (λ r _ h. h) (λ r _ h. h) _ _ (λ lsn _.
    done (record { page = page; lsn = lsn }) (λ r. ((Unit {0}) × (r.page ≡ page)) × (r.lsn ≡ lsn)) ((tt, refl), refl) (λ r h. λ i. record { page = sym h.0.1 i; lsn = sym h.1 i })))))
    (λ r. simp (append_assoc, append-nil))
    (λ r h. and_true _ _ h.1.0 h.1.1.0)
    (λ r h. let a = both_true _ _ h in (tt, (a.0, (a.1, tt))))

-- ---- lists

all_from : {A : Type 0} (f : A → Bool) (before xs : List A) → AllFrom (λ b x. IsTrue (f x)) before xs → IsTrue (list_all f xs)
all_from f before [] h = refl
all_from f before (x ∷ xs) h = and_true (f x) _ h.0 (all_from f (before ++ x ∷ []) xs h.1)

from_all : {A : Type 0} (f : A → Bool) (before xs : List A) → IsTrue (list_all f xs) → AllFrom (λ b x. IsTrue (f x)) before xs
from_all f before [] h = tt
from_all f before (x ∷ xs) h = let both = both_true (f x) (list_all f xs) h in (both.0, from_all f (before ++ x ∷ []) xs both.1)

heads_all : (hs : List PageHead) → AllAlong (λ before h. IsTrue (page_head_fits h)) hs → IsTrue (list_all page_head_fits hs)
unfolding AllAlong
heads_all hs h = all_from page_head_fits [] hs h

heads_along : (hs : List PageHead) → IsTrue (list_all page_head_fits hs) → AllAlong (λ before h. IsTrue (page_head_fits h)) hs
unfolding AllAlong
heads_along hs h = from_all page_head_fits [] hs h

page_heads_field : IsField (list_at w32 any_number page_head_at) (list_bytes w32 page_head_bytes) (λ hs. IsTrue (is_u32 (length hs)) × AllAlong (λ before h. IsTrue (page_head_fits h)) hs)
page_heads_field = list_field page_head_at page_head_bytes (λ before h. IsTrue (page_head_fits h)) page_head_item w32 any_number (λ n. IsTrue (is_u32 n)) a_u32

transactions_field : IsField (list_at w32 any_number unfinished_at) (list_bytes w32 unfinished_bytes) (λ us. IsTrue (is_u32 (length us)) × AllAlong KeepsUnfinished us)
transactions_field = list_field unfinished_at unfinished_bytes KeepsUnfinished unfinished_item w32 any_number (λ n. IsTrue (is_u32 n)) a_u32

segments_field : IsField (list_at w32 any_number segment_at) (list_bytes w32 (number_bytes w32)) (λ ns. IsTrue (is_u32 (length ns)) × AllAlong (λ before n. IsTrue (segment_fits before n)) ns)
segments_field = list_field segment_at (number_bytes w32) (λ before n. IsTrue (segment_fits before n)) segment_item w32 any_number (λ n. IsTrue (is_u32 n)) a_u32

runs_field : IsField (list_at w16 any_number run_at) (list_bytes w16 run_bytes) (λ rs. IsTrue (is_u16 (length rs)) × AllAlong (λ before x. IsTrue (run_fits before x)) rs)
runs_field = list_field run_at run_bytes (λ before x. IsTrue (run_fits before x)) run_item w16 any_number (λ n. IsTrue (is_u16 n)) a_u16

page_lsns_field : IsField (list_at w8 is_page_count page_lsn_at) (list_bytes w8 page_lsn_bytes) (λ ps. IsTrue (is_page_count (length ps)) × AllAlong (λ before p. IsTrue (page_lsn_fits before p)) ps)
page_lsns_field = list_field page_lsn_at page_lsn_bytes (λ before p. IsTrue (page_lsn_fits before p)) page_lsn_item w8 is_page_count (λ n. IsTrue (is_page_count n)) a_page_count

-- ---- the kinds

pub backup_done_field : IsField backup_done_at backup_done_bytes KeepsBackupDone
unfolding backup_done_at
backup_done_field = respelled
    (step a_number (λ (r : BackupDone). r.backup) (λ r. Unit {0}) (λ r. IsTrue (is_number r.backup)) _ (λ r _ h. h) (λ r _ h. h) _ _ (λ backup _.
    (step a_u32 (λ (r : BackupDone). r.segment) (λ r. (Unit {0}) × (r.backup ≡ backup)) (λ r. IsTrue (is_u32 r.segment)) _ (λ r _ h. h) (λ r _ h. h) _ _ (λ segment _.
    (step page_lsns_field (λ (r : BackupDone). r.pages) (λ r. ((Unit {0}) × (r.backup ≡ backup)) × (r.segment ≡ segment)) (λ r. IsTrue (is_page_count (length r.pages)) × AllAlong (λ before p. IsTrue (page_lsn_fits before p)) r.pages) (λ r. Unit {0}) (λ r _ h. h) (λ r _ h. h) _ _ (λ pages _.
    done (record { backup = backup; segment = segment; pages = pages }) (λ r. (((Unit {0}) × (r.backup ≡ backup)) × (r.segment ≡ segment)) × (r.pages ≡ pages)) (((tt, refl), refl), refl) (λ r h. λ i. record { backup = sym h.0.0.1 i; segment = sym h.0.1 i; pages = sym h.1 i })))))))
    (λ r. simp (append_assoc, append-nil))
    (λ r h. record { backup = h.1.0; segment = h.1.1.0; pages_count = h.1.1.1.0.0; pages = h.1.1.1.0.1 })
    (λ r h. (tt, (h.backup, (h.segment, ((h.pages_count, h.pages), tt)))))

pub checkpoint_field : IsField checkpoint_at checkpoint_bytes KeepsCheckpoint
unfolding checkpoint_at checkpoint_bytes
checkpoint_field = respelled
    (step a_next (λ (r : Checkpoint). r.next_tx) (λ r. Unit {0}) (λ r. IsTrue (is_next r.next_tx)) _ (λ r _ h. h) (λ r _ h. h) _ _ (λ next_tx _.
    (step a_u64 (λ (r : Checkpoint). r.commits) (λ r. (Unit {0}) × (r.next_tx ≡ next_tx)) (λ r. IsTrue (is_u64 r.commits)) _ (λ r _ h. h) (λ r _ h. h) _ _ (λ commits _.
    (step a_u32 (λ (r : Checkpoint). r.limit) (λ r. ((Unit {0}) × (r.next_tx ≡ next_tx)) × (r.commits ≡ commits)) (λ r. IsTrue (is_u32 r.limit)) _ (λ r _ h. h) (λ r _ h. h) _ _ (λ limit _.
    (step page_heads_field (λ (r : Checkpoint). r.pages) (λ r. (((Unit {0}) × (r.next_tx ≡ next_tx)) × (r.commits ≡ commits)) × (r.limit ≡ limit)) (λ r. IsTrue (is_u32 (length r.pages)) × AllAlong (λ before h. IsTrue (page_head_fits h)) r.pages) _ (λ r _ h. h) (λ r _ h. h) _ _ (λ pages _.
    (step transactions_field (λ (r : Checkpoint). r.transactions) (λ r. ((((Unit {0}) × (r.next_tx ≡ next_tx)) × (r.commits ≡ commits)) × (r.limit ≡ limit)) × (r.pages ≡ pages)) (λ r. IsTrue (is_u32 (length r.transactions)) × AllAlong KeepsUnfinished r.transactions) _ (λ r _ h. h) (λ r _ h. h) _ _ (λ transactions _.
    (step a_u32 (λ (r : Checkpoint). r.lost) (λ r. (((((Unit {0}) × (r.next_tx ≡ next_tx)) × (r.commits ≡ commits)) × (r.limit ≡ limit)) × (r.pages ≡ pages)) × (r.transactions ≡ transactions)) (λ r. IsTrue (is_u32 r.lost)) _ (λ r _ h. h) (λ r _ h. h) _ _ (λ lost _.
    (step segments_field (λ (r : Checkpoint). r.unrestored) (λ r. ((((((Unit {0}) × (r.next_tx ≡ next_tx)) × (r.commits ≡ commits)) × (r.limit ≡ limit)) × (r.pages ≡ pages)) × (r.transactions ≡ transactions)) × (r.lost ≡ lost)) (λ r. IsTrue (is_u32 (length r.unrestored)) × AllAlong (λ before n. IsTrue (segment_fits before n)) r.unrestored) _ (λ r _ h. h) (λ r _ h. h) _ _ (λ unrestored _.
    (step runs_field (λ (r : Checkpoint). r.runs) (λ r. (((((((Unit {0}) × (r.next_tx ≡ next_tx)) × (r.commits ≡ commits)) × (r.limit ≡ limit)) × (r.pages ≡ pages)) × (r.transactions ≡ transactions)) × (r.lost ≡ lost)) × (r.unrestored ≡ unrestored)) (λ r. IsTrue (is_u16 (length r.runs)) × AllAlong (λ before x. IsTrue (run_fits before x)) r.runs) _ (λ r _ h. h) (λ r _ h. h) _ _ (λ runs _.
    (step a_next (λ (r : Checkpoint). r.next_backup) (λ r. ((((((((Unit {0}) × (r.next_tx ≡ next_tx)) × (r.commits ≡ commits)) × (r.limit ≡ limit)) × (r.pages ≡ pages)) × (r.transactions ≡ transactions)) × (r.lost ≡ lost)) × (r.unrestored ≡ unrestored)) × (r.runs ≡ runs)) (λ r. IsTrue (is_next r.next_backup)) _ (λ r _ h. h) (λ r _ h. h) _ _ (λ next_backup _.
    (step a_next (λ (r : Checkpoint). r.next_run) (λ r. (((((((((Unit {0}) × (r.next_tx ≡ next_tx)) × (r.commits ≡ commits)) × (r.limit ≡ limit)) × (r.pages ≡ pages)) × (r.transactions ≡ transactions)) × (r.lost ≡ lost)) × (r.unrestored ≡ unrestored)) × (r.runs ≡ runs)) × (r.next_backup ≡ next_backup)) (λ r. IsTrue (is_next r.next_run)) (λ r. Unit {0}) (λ r _ h. h) (λ r _ h. h) _ _ (λ next_run _.
    done (record { next_tx = next_tx; commits = commits; limit = limit; pages = pages; transactions = transactions; lost = lost; unrestored = unrestored; runs = runs; next_backup = next_backup; next_run = next_run }) (λ r. ((((((((((Unit {0}) × (r.next_tx ≡ next_tx)) × (r.commits ≡ commits)) × (r.limit ≡ limit)) × (r.pages ≡ pages)) × (r.transactions ≡ transactions)) × (r.lost ≡ lost)) × (r.unrestored ≡ unrestored)) × (r.runs ≡ runs)) × (r.next_backup ≡ next_backup)) × (r.next_run ≡ next_run)) ((((((((((tt, refl), refl), refl), refl), refl), refl), refl), refl), refl), refl) (λ r h. λ i. record { next_tx = sym h.0.0.0.0.0.0.0.0.0.1 i; commits = sym h.0.0.0.0.0.0.0.0.1 i; limit = sym h.0.0.0.0.0.0.0.1 i; pages = sym h.0.0.0.0.0.0.1 i; transactions = sym h.0.0.0.0.0.1 i; lost = sym h.0.0.0.0.1 i; unrestored = sym h.0.0.0.1 i; runs = sym h.0.0.1 i; next_backup = sym h.0.1 i; next_run = sym h.1 i })))))))))))))))))))))
    (λ r. simp (append_assoc, append-nil))
    (λ r h. record { next_tx = h.1.0; commits = h.1.1.0; limit = h.1.1.1.0; pages_count = h.1.1.1.1.0.0; pages = heads_all r.pages h.1.1.1.1.0.1; transactions_count = h.1.1.1.1.1.0.0; transactions = h.1.1.1.1.1.0.1; lost = h.1.1.1.1.1.1.0; unrestored_count = h.1.1.1.1.1.1.1.0.0; unrestored = h.1.1.1.1.1.1.1.0.1; runs_count = h.1.1.1.1.1.1.1.1.0.0; runs = h.1.1.1.1.1.1.1.1.0.1; next_backup = h.1.1.1.1.1.1.1.1.1.0; next_run = h.1.1.1.1.1.1.1.1.1.1.0 })
    (λ r h. (tt, (h.next_tx, (h.commits, (h.limit, ((h.pages_count, heads_along r.pages h.pages), ((h.transactions_count, h.transactions), (h.lost, ((h.unrestored_count, h.unrestored), ((h.runs_count, h.runs), (h.next_backup, (h.next_run, tt))))))))))))

-- ---- the count of each transaction's writes fits its field

count_from : (before us : List Unfinished) (i : ℕ) (u : Unfinished) → i < length us → u ≡ get_or us i u → AllFrom KeepsUnfinished before us → length u.writes < 2 ^ 32
count_from before [] i u lt is h = absurd (omega arith)
count_from before (x ∷ us) zero u lt is h = lt_true (length u.writes) (2 ^ 32) (subst (λ (y : Unfinished). IsTrue (is_u32 (length y.writes))) (sym is) h.0.count)
count_from before (x ∷ us) (suc i) u lt is h = count_from (before ++ x ∷ []) us i u (omega arith) is h.1

pub writes_fit : (us : List Unfinished) (i : ℕ) (u : Unfinished) → i < length us → u ≡ get_or us i u → AllAlong KeepsUnfinished us → length u.writes < 2 ^ 32
unfolding AllAlong
writes_fit us i u lt is h = count_from [] us i u lt is h
