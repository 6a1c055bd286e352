-- Numbers of a lawful log are within the width of their fields.
use Rattle.std.proofs.Common.{◌≡◌, ℕ, ◌+◌, ◌-◌, ◌/◌, ◌<◌, ◌≤◌, zero, suc, Bool, true, false, cond, eqb, List, [], ◌∷◌, ◌++◌, filter, length, Option, Some, None, refl, sym, ap, subst, ◌∙◌, arith, length-append}
use Rattle.std.specs.Prelude.{max, find, slice_get, ◌^◌, ◌&&◌, ◌||◌, ◌==◌, not, nat_le, nat_lt, IsTrue}
use Rattle.std.specs.List.{range_with_len}
use Rattle.std.specs.Option.{option_map_or}
use Rattle.std.proofs.lemmas.Bool.Decides.{nat_tests}
use Rattle.store_model.specs.Along.{along, AllFrom, AllAlong}
use Rattle.store_model.specs.Lists.{last_of}
use Rattle.store_model.proofs.Bools.{both_true}
use Rattle.wal_record.specs.State.{is_key}
use Rattle.wal_record.specs.Rules.{is_number, page_lsn_fits, rises_above, is_page}
use Rattle.wal_record.specs.Chains.{names, head, link_of, is_link_of, tx_of, last, greatest}
use Rattle.wal_record.specs.OpenWrites.{key_of, open_step, open_list, without_last, has_items}
use Rattle.wal_record.specs.Upkeep.{written_lsn, written_step, PageBackup, no_backup, backup_step, page_backup, last_backup, backup_number, last_run, run_number, lost_pages, lost_step, segments, unrestored, unrestored_step, with_run, standing_runs, archived}
use Rattle.wal_record.specs.Sound.{IsLawful, AreLawful}
use Rattle.wal_record.specs.declared.analysis.Run.{Run}
use Rattle.wal_record.specs.declared.record.RunDone.{RunDone}
use Rattle.wal_record.specs.declared.record.PageLsn.{PageLsn}
use Rattle.wal_record.specs.declared.record.OpenWrite.{OpenWrite}
use Rattle.wal_record.specs.declared.record.Record.{Record}
use Rattle.wal_record.specs.declared.record.Record.TheVariants as kinds
use Rattle.wal_record.proofs.Along.{by_pushes}
use Rattle.wal_record.proofs.Pushes.{lawful_front, head_push, last_push, greatest_push, open_list_push, written_push, page_backup_push, last_backup_push, last_run_push, lost_pages_push, unrestored_push, runs_push}
use Rattle.listing_laws.proofs.Named.{named, named_push}
use Rattle.listing_laws.proofs.Bounds.{little_used, limit_small}
use Rattle.listing_laws.proofs.Rising.{Each, each_append, each_more, each_filter, each_front, each_passed, shorter, Rise, rise_append, rise_filter, rise_front}

abbrev pub Small : ℕ → Type 0
Small n = n ≤ 2 ^ 63 - 1

pub number_parts : (n : ℕ) → is_number n ≡ true → (1 ≤ n) × Small n
number_parts n h =
    let p = both_true (nat_le 1 n) (nat_le n (2 ^ 63 - 1)) h in
    let a : nat_le 1 n ≡ true = p.0 in
    let b : nat_le n (2 ^ 63 - 1) ≡ true = p.1 in
    (grind (arith, nat_tests), grind (arith, nat_tests))

max_small : (a b : ℕ) → Small a → Small b → Small (max a b)
max_small a b h g = omega (arith, h, g)

small_tx : (log : List Record) (r : Record) → IsLawful log r → Small (tx_of r)
small_tx log (kinds.Write w) l = (number_parts w.tx l.fields.tx).1
small_tx log (kinds.Apply w) l = (number_parts w.tx l.fields.tx).1
small_tx log (kinds.Undo w) l = (number_parts w.tx l.fields.tx).1
small_tx log (kinds.Commit w) l = (number_parts w.tx l.fields.tx).1
small_tx log (kinds.End w) l = (number_parts w.tx l.fields.tx).1
small_tx log _ l = omega arith

no_tx : greatest [] ≡ 0
unfolding greatest along
no_tx = refl

pub small_greatest : (log : List Record) → AreLawful log → Small (greatest log)
small_greatest = by_pushes (λ (log : List Record). AreLawful log → Small (greatest log)) (λ _. let z = no_tx in omega (arith, z))
    (λ log r before lawful. let p = lawful_front log r lawful in subst Small (sym (greatest_push log r)) (max_small (greatest log) (tx_of r) (before p.0) (small_tx log r p.1)))

small_backup_number : (log : List Record) (r : Record) → IsLawful log r → Small (backup_number r)
small_backup_number log (kinds.BackupDone b) l = (number_parts b.backup l.fields.backup).1
small_backup_number log _ l = omega arith

none_backed : last_backup [] ≡ 0
unfolding last_backup along
none_backed = refl

pub small_last_backup : (log : List Record) → AreLawful log → Small (last_backup log)
small_last_backup = by_pushes (λ (log : List Record). AreLawful log → Small (last_backup log)) (λ _. let z = none_backed in omega (arith, z))
    (λ log r before lawful. let p = lawful_front log r lawful in subst Small (sym (last_backup_push log r)) (max_small (last_backup log) (backup_number r) (before p.0) (small_backup_number log r p.1)))

small_run_number : (log : List Record) (r : Record) → IsLawful log r → Small (run_number r)
small_run_number log (kinds.RunDone d) l = (number_parts d.run l.fields.run).1
small_run_number log _ l = omega arith

none_run : last_run [] ≡ 0
unfolding last_run along
none_run = refl

pub small_last_run : (log : List Record) → AreLawful log → Small (last_run log)
small_last_run = by_pushes (λ (log : List Record). AreLawful log → Small (last_run log)) (λ _. let z = none_run in omega (arith, z))
    (λ log r before lawful. let p = lawful_front log r lawful in subst Small (sym (last_run_push log r)) (max_small (last_run log) (run_number r) (before p.0) (small_run_number log r p.1)))

-- ---- pages

none_headed : (p : ℕ) → head [] p ≡ 0
unfolding head along
none_headed p = refl

pub head_in : (p : ℕ) (log : List Record) → head log p ≤ length log
head_in p = by_pushes (λ (log : List Record). head log p ≤ length log) (let e = none_headed p in omega (arith, e))
    (λ log r before. let n = length-append log (r ∷ []) in let e = head_push log r p in let s = by log r before (names p r) in omega (arith, n, e, s))
  where
    by : (log : List Record) (r : Record) → head log p ≤ length log → (b : Bool) → cond b (length log + 1) (head log p) ≤ length log + 1
    by log r h true = omega arith
    by log r h false = omega (arith, h)

pub headed : (p : ℕ) (log : List Record) → named log p ≡ true → 1 ≤ head log p
headed p = by_pushes (λ (log : List Record). named log p ≡ true → 1 ≤ head log p) (λ h. absurd cc)
    (λ log r before h. subst (λ (n : ℕ). 1 ≤ n) (sym (head_push log r p)) (by log before (names p r) (sym (named_push log r p) ∙ h)))
  where
    by : (log : List Record) → (named log p ≡ true → 1 ≤ head log p) → (b : Bool) → (named log p || b) ≡ true → 1 ≤ cond b (length log + 1) (head log p)
    by log h true e = omega arith
    by log h false e = h (without (named log p) e)
      where
        without : (a : Bool) → (a || false) ≡ true → a ≡ true
        without true e = refl
        without false e = e

none_written : (p : ℕ) → written_lsn [] p ≡ 0
unfolding written_lsn along
none_written p = refl

pub small_written : (p : ℕ) (log : List Record) → AreLawful log → Small (written_lsn log p)
small_written p = by_pushes (λ (log : List Record). AreLawful log → Small (written_lsn log p)) (λ _. let z = none_written p in omega (arith, z))
    (λ log r before lawful. let q = lawful_front log r lawful in subst Small (sym (written_push log r p)) (by log r q.1 (before q.0)))
  where
    at : (n m : ℕ) (b : Bool) → Small n → Small m → Small (cond b n m)
    at n m true h g = h
    at n m false h g = g

    by : (log : List Record) (r : Record) → IsLawful log r → Small (written_lsn log p) → Small (written_step p (written_lsn log p) r)
    by log (kinds.Written w) l h = at w.lsn (written_lsn log p) (eqb w.page p) (number_parts w.lsn l.fields.lsn).1 h
    by log (kinds.Lost x) l h = omega arith
    by log r l h = h

abbrev pub SmallBackup : PageBackup → Type 0
SmallBackup b = Small b.backup × Small b.lsn

none_backup : (p : ℕ) → page_backup [] p ≡ no_backup
unfolding page_backup along
none_backup p = refl

-- a page of a backup has a small LSN
small_found : (p : ℕ) (before xs : List PageLsn) → AllFrom (λ ys x. IsTrue (page_lsn_fits ys x)) before xs → (backup : ℕ) → Small backup → (found : PageBackup) → SmallBackup found
    → SmallBackup (option_map_or (λ (x : PageLsn). record { backup = backup; lsn = x.lsn }) (find (λ (x : PageLsn). x.page == p) xs) found)
small_found p before [] h backup s found f = f
small_found p before (x ∷ xs) h backup s found f = by (eqb x.page p) (small_found p (before ++ x ∷ []) xs h.1 backup s found f)
  where
    small : Small x.lsn
    small = (number_parts x.lsn (both_true (is_page x.page && rises_above (λ (y : PageLsn). y.page) before x.page) (is_number x.lsn) h.0).1).1

    by : (b : Bool) → SmallBackup (option_map_or (λ (y : PageLsn). record { backup = backup; lsn = y.lsn }) (find (λ (y : PageLsn). y.page == p) xs) found)
        → SmallBackup (option_map_or (λ (y : PageLsn). record { backup = backup; lsn = y.lsn }) (cond b (Some x) (find (λ (y : PageLsn). y.page == p) xs)) found)
    by true rest = (s, small)
    by false rest = rest

pub small_backup : (p : ℕ) (log : List Record) → AreLawful log → SmallBackup (page_backup log p)
unfolding AllAlong
small_backup p = by_pushes (λ (log : List Record). AreLawful log → SmallBackup (page_backup log p)) (λ _. subst SmallBackup (sym (none_backup p)) (omega arith, omega arith))
    (λ log r before lawful. let q = lawful_front log r lawful in subst SmallBackup (sym (page_backup_push log r p)) (by log r q.1 (before q.0)))
  where
    by : (log : List Record) (r : Record) → IsLawful log r → SmallBackup (page_backup log p) → SmallBackup (backup_step p (page_backup log p) r)
    by log (kinds.BackupDone b) l h = small_found p [] b.pages l.fields.pages b.backup (number_parts b.backup l.fields.backup).1 (page_backup log p) h
    by log r l h = h

-- ---- transactions

none_last : (t : ℕ) → last [] t ≡ 0
unfolding last along
none_last t = refl

pub last_in : (t : ℕ) (log : List Record) → last log t ≤ length log
last_in t = by_pushes (λ (log : List Record). last log t ≤ length log) (let e = none_last t in omega (arith, e))
    (λ log r before. let n = length-append log (r ∷ []) in let e = last_push log r t in let s = by log before (is_link_of t (link_of r)) in omega (arith, n, e, s))
  where
    by : (log : List Record) → last log t ≤ length log → (b : Bool) → cond b (length log + 1) (last log t) ≤ length log + 1
    by log h true = omega arith
    by log h false = omega (arith, h)

-- ---- losses

none_lost : lost_pages [] ≡ 0
unfolding lost_pages along
none_lost = refl

pub little_lost : (log : List Record) → AreLawful log → lost_pages log ≤ 16385
little_lost = by_pushes (λ (log : List Record). AreLawful log → lost_pages log ≤ 16385) (λ _. let z = none_lost in omega (arith, z))
    (λ log r before lawful. let q = lawful_front log r lawful in subst (λ (n : ℕ). n ≤ 16385) (sym (lost_pages_push log r)) (by log r q.0 q.1 (before q.0)))
  where
    by : (log : List Record) (r : Record) → AreLawful log → IsLawful log r → lost_pages log ≤ 16385 → lost_step (lost_pages log) r ≤ 16385
    by log (kinds.Lost x) a l h = let e = l.upkeep in let u = little_used log a in let m = limit_small log a in omega (arith, e, u, m)
    by log r a l h = h

-- ---- open writes

abbrev pub IsOpenIn : ℕ → OpenWrite → Type 0
IsOpenIn n w = (1 ≤ w.lsn) × (w.lsn ≤ n) × (is_key w.key ≡ true)

abbrev pub lsn_of : OpenWrite → ℕ
lsn_of w = w.lsn

abbrev pub AreOpenIn : ℕ → List OpenWrite → Type 0
AreOpenIn n ws = Rise lsn_of ws × Each (IsOpenIn n) ws

none_open : (t : ℕ) → open_list [] t ≡ []
unfolding open_list along
none_open t = refl

open_later : (n : ℕ) (ws : List OpenWrite) → AreOpenIn n ws → AreOpenIn (n + 1) ws
open_later n ws h = (h.0, each_more (IsOpenIn n) (IsOpenIn (n + 1)) (λ w i. (i.0, (let u = i.1 in omega (arith, u)), i.2)) ws h.1)

one_opened : (n : ℕ) (key : List ℕ) → is_key key ≡ true → (ws : List OpenWrite) → AreOpenIn n ws → (b : Bool) → AreOpenIn (n + 1) (cond b (ws ++ record { lsn = n + 1; key = key } ∷ []) ws)
one_opened n key k ws h false = open_later n ws h
one_opened n key k ws h true = (
  rise_append lsn_of ws (record { lsn = n + 1; key = key } ∷ []) h.0 (tt, tt) (each_more (IsOpenIn n) _ (λ w i. ((let u = i.1 in omega (arith, u)), tt)) ws h.1),
  each_append (IsOpenIn (n + 1)) ws (record { lsn = n + 1; key = key } ∷ []) (open_later n ws h).1 ((omega arith, omega arith, k), tt),
)

one_closed : (n : ℕ) (ws : List OpenWrite) → AreOpenIn n ws → (b : Bool) → AreOpenIn (n + 1) (cond b (without_last ws) ws)
one_closed n ws h false = open_later n ws h
one_closed n ws h true = open_later n (without_last ws) (rise_front lsn_of ws h.0, each_front (IsOpenIn n) ws h.1)

all_closed : (n : ℕ) (ws : List OpenWrite) → AreOpenIn n ws → (b : Bool) → AreOpenIn (n + 1) (cond b [] ws)
all_closed n ws h false = open_later n ws h
all_closed n ws h true = (tt, tt)

pub open_in : (t : ℕ) (log : List Record) → AreLawful log → AreOpenIn (length log) (open_list log t)
open_in t = by_pushes (λ (log : List Record). AreLawful log → AreOpenIn (length log) (open_list log t)) (λ _. subst (AreOpenIn 0) (sym (none_open t)) (tt, tt))
    (λ log r before lawful.
    let q = lawful_front log r lawful in
    subst (λ (n : ℕ). AreOpenIn n (open_list (log ++ r ∷ []) t)) (sym (length-append log (r ∷ []))) (subst (AreOpenIn (length log + 1)) (sym (open_list_push log r t)) (by log r q.1 (before q.0))))
  where
    by : (log : List Record) (r : Record) → IsLawful log r → AreOpenIn (length log) (open_list log t) → AreOpenIn (length log + 1) (open_step t (record { lsn = length log + 1; key = key_of r }) (open_list log t) r)
    by log (kinds.Write w) l h = one_opened (length log) w.key l.fields.key (open_list log t) h (eqb w.tx t)
    by log (kinds.Apply w) l h = one_opened (length log) w.key l.fields.key (open_list log t) h (eqb w.tx t)
    by log (kinds.Undo w) l h = one_closed (length log) (open_list log t) h (eqb w.tx t)
    by log (kinds.Commit w) l h = all_closed (length log) (open_list log t) h (eqb w.tx t)
    by log (kinds.End w) l h = all_closed (length log) (open_list log t) h (eqb w.tx t)
    by log r l h = open_later (length log) (open_list log t) h

-- who has an open write has a record
pub last_there : (t : ℕ) (log : List Record) → has_items (open_list log t) ≡ true → 1 ≤ last log t
last_there t = by_pushes (λ (log : List Record). has_items (open_list log t) ≡ true → 1 ≤ last log t) (λ h. (let e : has_items (open_list [] t) ≡ false = ap has_items (none_open t) in let z : true ≡ false = sym h ∙ e in absurd cc))
    (λ log r before h. subst (λ (n : ℕ). 1 ≤ n) (sym (last_push log r t)) (by log r before (sym (ap has_items (open_list_push log r t)) ∙ h)))
  where
    at : (n m : ℕ) (xs ys : List OpenWrite) → (has_items ys ≡ true → 1 ≤ m) → (b : Bool) → has_items (cond b xs ys) ≡ true → 1 ≤ cond b (n + 1) m
    at n m xs ys h true e = omega arith
    at n m xs ys h false e = h e

    by : (log : List Record) (r : Record) → (has_items (open_list log t) ≡ true → 1 ≤ last log t) → has_items (open_step t (record { lsn = length log + 1; key = key_of r }) (open_list log t) r) ≡ true
        → 1 ≤ cond (is_link_of t (link_of r)) (length log + 1) (last log t)
    by log (kinds.Write w) h e = at (length log) (last log t) _ (open_list log t) h (eqb w.tx t) e
    by log (kinds.Apply w) h e = at (length log) (last log t) _ (open_list log t) h (eqb w.tx t) e
    by log (kinds.Undo w) h e = at (length log) (last log t) _ (open_list log t) h (eqb w.tx t) e
    by log (kinds.Commit w) h e = at (length log) (last log t) _ (open_list log t) h (eqb w.tx t) e
    by log (kinds.End w) h e = at (length log) (last log t) _ (open_list log t) h (eqb w.tx t) e
    by log r h e = h e

-- ---- segments

abbrev pub itself : ℕ → ℕ
itself n = n

abbrev pub AreSegments : List ℕ → Type 0
AreSegments ss = Rise itself ss × Each (λ s. s < 2 ^ 32) ss × (length ss ≤ 1025)

over_range : (n a k : ℕ) → n < a → Each (λ s. n < s) (range_with_len a k)
over_range n a zero h = tt
over_range n a (suc k) h = (h, over_range n (a + 1) k (omega (arith, h)))

rise_range : (a k : ℕ) → Rise itself (range_with_len a k)
rise_range a zero = tt
rise_range a (suc k) = (over_range a (a + 1) k (omega arith), rise_range (a + 1) k)

small_range : (a k : ℕ) → a + k ≤ 2 ^ 32 → Each (λ s. s < 2 ^ 32) (range_with_len a k)
small_range a zero h = tt
small_range a (suc k) h = (omega (arith, h), small_range (a + 1) k (omega (arith, h)))

size_of_range : (a k : ℕ) → length (range_with_len a k) ≡ k
size_of_range a zero = refl
size_of_range a (suc k) = ap (λ (n : ℕ). suc n) (size_of_range (a + 1) k)

are_segments : (n : ℕ) → n ≤ 16385 → AreSegments (segments n)
are_segments n h =
    let few : (n + 15) / 16 ≤ 1025 = omega (arith, h) in
    (rise_range 0 ((n + 15) / 16), small_range 0 ((n + 15) / 16) (omega (arith, few)), (let e = size_of_range 0 ((n + 15) / 16) in omega (arith, e, few)))

none_unrestored : unrestored [] ≡ []
unfolding unrestored along
none_unrestored = refl

pub segments_in : (log : List Record) → AreLawful log → AreSegments (unrestored log)
segments_in = by_pushes (λ (log : List Record). AreLawful log → AreSegments (unrestored log)) (λ _. subst AreSegments (sym none_unrestored) (tt, tt, omega arith))
    (λ log r before lawful. let q = lawful_front log r lawful in subst AreSegments (sym (unrestored_push log r)) (by log r q.0 q.1 (before q.0)))
  where
    by : (log : List Record) (r : Record) → AreLawful log → IsLawful log r → AreSegments (unrestored log) → AreSegments (unrestored_step (unrestored log) r)
    by log (kinds.Lost x) a l h = are_segments x.pages (let e = l.upkeep in let u = little_used log a in let m = limit_small log a in omega (arith, e, u, m))
    by log (kinds.Restored x) a l h =
        (rise_filter itself (λ s. not (s == x.segment)) (unrestored log) h.0, each_filter (λ s. s < 2 ^ 32) (λ s. not (s == x.segment)) (unrestored log) h.1, (let f = shorter (λ s. not (s == x.segment)) (unrestored log) in let n = h.2 in omega (arith, f, n)))
    by log r a l h = h

-- ---- runs

abbrev pub IsRun : Run → Type 0
IsRun x = (x.first ≤ x.last) × (is_number x.run ≡ true) × (is_number x.first ≡ true) × (is_number x.last ≡ true)

abbrev pub AreRuns : List Run → Type 0
AreRuns [] = Unit {0}
AreRuns (x ∷ xs) = IsRun x × Each (λ (y : Run). x.last < y.first) xs × AreRuns xs

runs_append : (xs ys : List Run) → AreRuns xs → AreRuns ys → Each (λ (x : Run). Each (λ (y : Run). x.last < y.first) ys) xs → AreRuns (xs ++ ys)
runs_append [] ys h g o = g
runs_append (x ∷ xs) ys h g o = (h.0, each_append (λ (y : Run). x.last < y.first) xs ys h.1 o.0, runs_append xs ys h.2 g o.1)

runs_filter : (p : Run → Bool) (xs : List Run) → AreRuns xs → AreRuns (filter p xs)
runs_filter p [] h = tt
runs_filter p (x ∷ xs) h = by (p x) (runs_filter p xs h.2)
  where
    by : (b : Bool) → AreRuns (filter p xs) → AreRuns (cond b (x ∷ filter p xs) (filter p xs))
    by true rest = (h.0, each_filter (λ (y : Run). x.last < y.first) p xs h.1, rest)
    by false rest = rest

less_than : (a b : ℕ) → nat_lt a b ≡ true → a < b
less_than a b h = grind (arith, nat_tests)

runs_with : (d : RunDone) (xs : List Run) → d.first ≤ d.last → is_number d.run ≡ true → is_number d.first ≡ true → is_number d.last ≡ true → AreRuns xs → AreRuns (with_run d xs)
runs_with d xs le run first last h =
    runs_append lower (this ∷ upper) (runs_filter (λ (x : Run). nat_lt x.last d.first) xs h) ((le, run, first, last), over, runs_filter (λ (x : Run). nat_lt d.last x.first) xs h)
    (each_more (λ (x : Run). x.last < d.first) _ (λ x l. (l, each_more (λ (y : Run). d.last < y.first) (λ (y : Run). x.last < y.first) (λ y u. omega (arith, l, u, le)) upper over)) lower under)
  where
    this : Run
    this = record { run = d.run; first = d.first; last = d.last }

    lower : List Run
    lower = filter (λ (x : Run). nat_lt x.last d.first) xs

    upper : List Run
    upper = filter (λ (x : Run). nat_lt d.last x.first) xs

    under : Each (λ (x : Run). x.last < d.first) lower
    under = each_passed (λ (x : Run). x.last < d.first) (λ (x : Run). nat_lt x.last d.first) (λ x e. less_than x.last d.first e) xs

    over : Each (λ (y : Run). d.last < y.first) upper
    over = each_passed (λ (y : Run). d.last < y.first) (λ (x : Run). nat_lt d.last x.first) (λ x e. less_than d.last x.first e) xs

none_standing : standing_runs [] ≡ []
unfolding standing_runs along
none_standing = refl

pub runs_in : (log : List Record) → AreLawful log → AreRuns (standing_runs log) × (length (standing_runs log) ≤ 1024)
runs_in = by_pushes (λ (log : List Record). AreLawful log → AreRuns (standing_runs log) × (length (standing_runs log) ≤ 1024)) (λ _. subst (λ (xs : List Run). AreRuns xs × (length xs ≤ 1024)) (sym none_standing) (tt, omega arith))
    (λ log r before lawful. let q = lawful_front log r lawful in by log r q.1 (before q.0))
  where
    by : (log : List Record) (r : Record) → IsLawful log r → AreRuns (standing_runs log) × (length (standing_runs log) ≤ 1024) → AreRuns (standing_runs (log ++ r ∷ [])) × (length (standing_runs (log ++ r ∷ [])) ≤ 1024)
    by log (kinds.RunDone d) l h = (subst AreRuns (sym (runs_push log (kinds.RunDone d))) (runs_with d (standing_runs log) l.upkeep.covers l.fields.run l.fields.first l.fields.last h.0), l.upkeep.most)
    by log (kinds.Format x) l h = subst (λ (xs : List Run). AreRuns xs × (length xs ≤ 1024)) (sym (runs_push log (kinds.Format x))) h
    by log (kinds.Write x) l h = subst (λ (xs : List Run). AreRuns xs × (length xs ≤ 1024)) (sym (runs_push log (kinds.Write x))) h
    by log (kinds.Apply x) l h = subst (λ (xs : List Run). AreRuns xs × (length xs ≤ 1024)) (sym (runs_push log (kinds.Apply x))) h
    by log (kinds.Undo x) l h = subst (λ (xs : List Run). AreRuns xs × (length xs ≤ 1024)) (sym (runs_push log (kinds.Undo x))) h
    by log (kinds.Commit x) l h = subst (λ (xs : List Run). AreRuns xs × (length xs ≤ 1024)) (sym (runs_push log (kinds.Commit x))) h
    by log (kinds.End x) l h = subst (λ (xs : List Run). AreRuns xs × (length xs ≤ 1024)) (sym (runs_push log (kinds.End x))) h
    by log (kinds.Split x) l h = subst (λ (xs : List Run). AreRuns xs × (length xs ≤ 1024)) (sym (runs_push log (kinds.Split x))) h
    by log (kinds.Adopt x) l h = subst (λ (xs : List Run). AreRuns xs × (length xs ≤ 1024)) (sym (runs_push log (kinds.Adopt x))) h
    by log (kinds.Grow x) l h = subst (λ (xs : List Run). AreRuns xs × (length xs ≤ 1024)) (sym (runs_push log (kinds.Grow x))) h
    by log (kinds.Purge x) l h = subst (λ (xs : List Run). AreRuns xs × (length xs ≤ 1024)) (sym (runs_push log (kinds.Purge x))) h
    by log (kinds.Written x) l h = subst (λ (xs : List Run). AreRuns xs × (length xs ≤ 1024)) (sym (runs_push log (kinds.Written x))) h
    by log (kinds.Checkpoint x) l h = subst (λ (xs : List Run). AreRuns xs × (length xs ≤ 1024)) (sym (runs_push log (kinds.Checkpoint x))) h
    by log (kinds.BackupDone x) l h = subst (λ (xs : List Run). AreRuns xs × (length xs ≤ 1024)) (sym (runs_push log (kinds.BackupDone x))) h
    by log (kinds.Lost x) l h = subst (λ (xs : List Run). AreRuns xs × (length xs ≤ 1024)) (sym (runs_push log (kinds.Lost x))) h
    by log (kinds.Restored x) l h = subst (λ (xs : List Run). AreRuns xs × (length xs ≤ 1024)) (sym (runs_push log (kinds.Restored x))) h

-- the last LSN that runs cover
pub last_small : (xs : List Run) → AreRuns xs → archived xs ≤ 2 ^ 63 - 1
last_small xs h = by (last_of xs) refl
  where
    got : (xs : List Run) (i : ℕ) (x : Run) → AreRuns xs → slice_get xs i ≡ Some x → x.last ≤ 2 ^ 63 - 1
    got [] i x h e = absurd cc
    got (y ∷ xs) zero x h e = subst (λ (o : Option Run). option_map_or (λ (z : Run). z.last) o 0 ≤ 2 ^ 63 - 1) e (number_parts y.last h.0.3).1
    got (y ∷ xs) (suc i) x h e = got xs i x h.2 e

    by : (o : Option Run) → last_of xs ≡ o → option_map_or (λ (x : Run). x.last) o 0 ≤ 2 ^ 63 - 1
    by None e = omega arith
    by (Some x) e = got xs (length xs - 1) x h e
