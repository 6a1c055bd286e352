-- Numbers of a sound log, and lists that rise.
use Rattle.std.proofs.Common.{◌≡◌, ◌≢◌, ℕ, zero, suc, Bool, true, false, cond, eqb, List, [], ◌∷◌, ◌++◌, Option, Some, None, refl, sym, ap, subst, ◌∙◌, arith, inl, inr, length-append}
use Rattle.std.specs.Prelude.{◌⊎◌, ◌≤◌, ◌<◌, ◌+◌, ◌-◌, ◌/◌, ◌^◌, ◌&&◌, not, nat_le, nat_lt, max, length, map, filter, find, slice_get, IsTrue}
use Rattle.std.specs.List.{list_all, range_with_len}
use Rattle.std.specs.Option.{option_map_or}
use Rattle.std.proofs.lemmas.Bool.Decides.{nat_tests}
use Rattle.std.proofs.lemmas.List.FromFn.{length-map-range_with_len}
use Rattle.store_model.specs.Along.{along, AllFrom, AllAlong}
use Rattle.store_model.specs.Lists.{last_of}
use Rattle.store_model.proofs.Bools.{both_true, and_true, or_right}
use Rattle.wal_record.specs.declared.analysis.Run.{Run}
use Rattle.wal_record.specs.declared.record.OpenWrite.{OpenWrite}
use Rattle.wal_record.specs.declared.record.Unfinished.{Unfinished}
use Rattle.wal_record.specs.declared.record.PageLsn.{PageLsn}
use Rattle.wal_record.specs.declared.record.Record.{Record}
use Rattle.wal_record.specs.declared.record.Record.TheVariants as kinds
use Rattle.wal_record.specs.State.{is_key}
use Rattle.wal_record.specs.Rules.{is_number, is_lsn_or_none, is_next, is_u16, is_u32, is_u64, rises_above, page_head_fits, open_write_fits, KeepsUnfinished, segment_fits, run_fits, HasSpelling}
use Rattle.wal_record.specs.Chains.{names, names_at, head, pages_step, pages, is_link_of, link_of, last, tx_of, greatest}
use Rattle.wal_record.specs.OpenWrites.{without_last, key_of, open_step, open_writes, open_list, is_loser, losers, sum_to, pending, has_items}
use Rattle.wal_record.specs.Upkeep.{written_lsn, no_backup, last_backup, backup_number, PageBackup, backup_step, page_backup, lost_pages, lost_step, unrestored, unrestored_step, last_run, run_number, runs_step, standing_runs}
use Rattle.wal_record.specs.Checkpoints.{limit_of, commits, page_head, page_heads, last_open, unfinished, checkpoint_of}
use Rattle.wal_record.specs.Sound.{IsLawful, AreLawful, are_images}
use Rattle.wal_record.proofs.Along.{by_pushes, AllAlong_back, AllAlong_less}
use Rattle.wal_record.proofs.Pushes.{head_push, pages_push, last_push, greatest_push, open_list_push, open_push, page_backup_push, last_backup_push, lost_pages_push, unrestored_push, last_run_push, runs_push, lawful_front}
use Rattle.claim_laws.specs.Numbering.{CheckpointLaw, CheckpointSuits}
use Rattle.claim_laws.proofs.Resting.{open_same}
use Rattle.wal_record.specs.declared.entry.Entry.{Entry}
use Rattle.wal_record.specs.History.{life_log}
use Rattle.log_laws.proofs.Central.{eqb_self}
use Rattle.claim_laws.proofs.Pages.{head_in, named_below, written_within}
use Rattle.claim_laws.proofs.Filling.{last_in, pages_law}

-- ---- numbers and their tests

number_most : (n : ℕ) → is_number n ≡ true → (1 ≤ n) × (n < 2 ^ 63)
number_most n h = let b = both_true (nat_le 1 n) (nat_le n (2 ^ 63 - 1)) h in (low b.0, high b.1)
  where
    low : nat_le 1 n ≡ true → 1 ≤ n
    low e = grind (arith, nat_tests)

    high : nat_le n (2 ^ 63 - 1) ≡ true → n < 2 ^ 63
    high e = grind (arith, nat_tests)

number_is : (n : ℕ) → 1 ≤ n → n < 2 ^ 63 → is_number n ≡ true
number_is n l u = grind (arith, nat_tests)

lsn_is : (n : ℕ) → n < 2 ^ 63 → is_lsn_or_none n ≡ true
lsn_is n u = grind (arith, nat_tests)

next_is : (n : ℕ) → n < 2 ^ 63 → is_next (suc n) ≡ true
next_is n u = grind (arith, nat_tests)

u16_is : (n : ℕ) → n ≤ 1024 → is_u16 n ≡ true
u16_is n u = grind (arith, nat_tests)

u32_is : (n : ℕ) → n < 2 ^ 32 → is_u32 n ≡ true
u32_is n u = grind (arith, nat_tests)

u64_is : (n : ℕ) → n < 2 ^ 63 → is_u64 n ≡ true
u64_is n u = grind (arith, nat_tests)

below_is : (m n : ℕ) → m < n → nat_lt m n ≡ true
below_is m n l = grind (arith, nat_tests)

u32_most : (n : ℕ) → is_u32 n ≡ true → n < 2 ^ 32
u32_most n h = grind (arith, nat_tests)

-- ---- greatest numbers

max_less : (a b n : ℕ) → a < n → b < n → max a b < n
max_less a b n l m = omega arith

tx_most : (r : Record) → HasSpelling r → tx_of r < 2 ^ 63
tx_most (kinds.Write w) k = (number_most w.tx k.tx).1
tx_most (kinds.Apply w) k = (number_most w.tx k.tx).1
tx_most (kinds.Undo w) k = (number_most w.tx k.tx).1
tx_most (kinds.Commit w) k = (number_most w.tx k.tx).1
tx_most (kinds.End w) k = (number_most w.tx k.tx).1
tx_most _ k = omega arith

no_greatest : greatest [] ≡ 0
unfolding greatest along
no_greatest = refl

greatest_most : (log : List Record) → AreLawful log → greatest log < 2 ^ 63
greatest_most = by_pushes (λ (log : List Record). AreLawful log → greatest log < 2 ^ 63) (λ _. let e = no_greatest in omega (arith, e)) (λ log r before sound.
    let parts = lawful_front log r sound in
    let e = greatest_push log r in
    let m = max_less (greatest log) (tx_of r) (2 ^ 63) (before parts.0) (tx_most r parts.1.fields) in
    omega (arith, e, m))

backup_most : (r : Record) → HasSpelling r → backup_number r < 2 ^ 63
backup_most (kinds.BackupDone b) k = (number_most b.backup k.backup).1
backup_most _ k = omega arith

no_backups : last_backup [] ≡ 0
unfolding last_backup along
no_backups = refl

last_backup_most : (log : List Record) → AreLawful log → last_backup log < 2 ^ 63
last_backup_most = by_pushes (λ (log : List Record). AreLawful log → last_backup log < 2 ^ 63) (λ _. let e = no_backups in omega (arith, e)) (λ log r before sound.
    let parts = lawful_front log r sound in
    let e = last_backup_push log r in
    let m = max_less (last_backup log) (backup_number r) (2 ^ 63) (before parts.0) (backup_most r parts.1.fields) in
    omega (arith, e, m))

run_most : (r : Record) → HasSpelling r → run_number r < 2 ^ 63
run_most (kinds.RunDone d) k = (number_most d.run k.run).1
run_most _ k = omega arith

no_run : last_run [] ≡ 0
unfolding last_run along
no_run = refl

last_run_most : (log : List Record) → AreLawful log → last_run log < 2 ^ 63
last_run_most = by_pushes (λ (log : List Record). AreLawful log → last_run log < 2 ^ 63) (λ _. let e = no_run in omega (arith, e)) (λ log r before sound.
    let parts = lawful_front log r sound in
    let e = last_run_push log r in
    let m = max_less (last_run log) (run_number r) (2 ^ 63) (before parts.0) (run_most r parts.1.fields) in
    omega (arith, e, m))

commits_within : (log : List Record) → commits log ≤ length log
commits_within [] = omega arith
commits_within (kinds.Commit c ∷ xs) = let l = commits_within xs in omega (arith, l)
commits_within (_ ∷ xs) = let l = commits_within xs in omega (arith, l)

lost_fits : (n : ℕ) (r : Record) → n < 2 ^ 32 → HasSpelling r → lost_step n r < 2 ^ 32
lost_fits n (kinds.Lost l) h k = u32_most l.pages k.pages
lost_fits n _ h k = h

no_lost : lost_pages [] ≡ 0
unfolding lost_pages along
no_lost = refl

lost_most : (log : List Record) → AreLawful log → lost_pages log < 2 ^ 32
lost_most = by_pushes (λ (log : List Record). AreLawful log → lost_pages log < 2 ^ 32) (λ _. let e = no_lost in omega (arith, e)) (λ log r before sound.
    let parts = lawful_front log r sound in
    subst (λ (n : ℕ). n < 2 ^ 32) (sym (lost_pages_push log r)) (lost_fits (lost_pages log) r (before parts.0) parts.1.fields))

-- ---- pages

all_mapped : {B : Type 0} → (q : B → Bool) (g : ℕ → B) (from n : ℕ) → ((p : ℕ) → from ≤ p → p < from + n → q (g p) ≡ true) → list_all q (map g (range_with_len from n)) ≡ true
all_mapped q g from zero h = refl
all_mapped q g from (suc n) h = and_true (q (g from)) _ (h from (omega arith) (omega arith)) (all_mapped q g (from + 1) n (λ p l m. h p (omega (arith, l)) (omega (arith, m))))

no_pages : pages [] ≡ 0
unfolding pages along
no_pages = refl

heads_rise : (n h : ℕ) (b : Bool) → h ≤ n → h ≤ cond b (n + 1) h
heads_rise n h true e = omega (arith, e)
heads_rise n h false e = omega arith

-- a page is named by the record that makes it
new_named : (log : List Record) (r : Record) (p : ℕ) → IsLawful log r → pages log < p → p ≤ pages_step (pages log) r → names p r ≡ true
new_named log (kinds.Format f) p lawful l u = by log lawful.first l u
  where
    one : (p : ℕ) → p ≡ 1 → eqb p 1 ≡ true
    one p e = ap (λ (q : ℕ). eqb q 1) e

    by : (log : List Record) → true ≡ not (has_items log) → pages log < p → p ≤ suc (pages log) → eqb p 1 ≡ true
    by [] e l u = let n = no_pages in one p (omega (arith, n, l, u))
    by (x ∷ xs) e l u = absurd cc
new_named log (kinds.Split x) p lawful l u =
    let k = lawful.place in
    let e : p ≡ x.child = omega (arith, k, l, u) in
    or_right (eqb p x.page) (eqb p x.child) (ap (λ (q : ℕ). eqb q x.child) e ∙ eqb_self x.child)
new_named log (kinds.Grow g) p lawful l u =
    let k = lawful.place in
    let e : p ≡ g.child = omega (arith, k, l, u) in
    or_right (eqb p 1) (eqb p g.child) (ap (λ (q : ℕ). eqb q g.child) e ∙ eqb_self g.child)
new_named log _ p lawful l u = absurd (omega (arith, l, u))

-- a page that was made has a head
made_head : (p : ℕ) → 1 ≤ p → (log : List Record) → AreLawful log → p ≤ pages log → 1 ≤ head log p
made_head p some = by_pushes (λ (log : List Record). AreLawful log → p ≤ pages log → 1 ≤ head log p)
    (λ _ l. let e = no_pages in absurd (omega (arith, e, l, some)))
    (λ log r before sound l.
    let parts = lawful_front log r sound in
    let count = pages_push log r in
    let now = head_push log r p in
    let rise = heads_rise (length log) (head log p) (names p r) (head_in p log) in
    elim (below_or p (pages log)) [
      | inl b ↦ let h = before parts.0 b in omega (arith, h, now, rise)
      | inr a ↦
          let named = new_named log r p parts.1 a (omega (arith, count, l)) in
          let e = now ∙ ap (λ (b : Bool). cond b (length log + 1) (head log p)) named in
          omega (arith, e)
    ])
  where
    below_or : (p n : ℕ) → (p ≤ n) ⊎ (n < p)
    below_or p n = grind arith

-- what a backup says of a page
backed_lsn : (log : List Record) (q : PageLsn → Bool) (backup : ℕ) (found : PageBackup) (xs : List PageLsn) → are_images log xs ≡ true → found.lsn ≤ length log
    → (option_map_or (λ (x : PageLsn). record { backup = backup; lsn = x.lsn }) (find q xs) found).lsn ≤ length log
backed_lsn log q backup found [] e l = l
backed_lsn log q backup found (x ∷ xs) e l = by (q x) (backed_lsn log q backup found xs parts.1 l)
  where
    parts : (names_at log x.lsn x.page ≡ true) × (are_images log xs ≡ true)
    parts = both_true (names_at log x.lsn x.page) (are_images log xs) e

    within : x.lsn ≤ length log
    within = let b = (named_below x.page log x.lsn parts.0).1 in let h = head_in x.page log in omega (arith, b, h)

    by : (b : Bool) → (option_map_or (λ (x : PageLsn). record { backup = backup; lsn = x.lsn }) (find q xs) found).lsn ≤ length log
        → (option_map_or (λ (x : PageLsn). record { backup = backup; lsn = x.lsn }) (cond b (Some x) (find q xs)) found).lsn ≤ length log
    by true rest = within
    by false rest = rest

backed_number : (q : PageLsn → Bool) (backup : ℕ) (found : PageBackup) (xs : List PageLsn) → backup < 2 ^ 63 → found.backup < 2 ^ 63
    → (option_map_or (λ (x : PageLsn). record { backup = backup; lsn = x.lsn }) (find q xs) found).backup < 2 ^ 63
backed_number q backup found xs n l = by (find q xs)
  where
    by : (o : Option PageLsn) → (option_map_or (λ (x : PageLsn). record { backup = backup; lsn = x.lsn }) o found).backup < 2 ^ 63
    by None = l
    by (Some x) = n

backup_step_fits : (log : List Record) (p : ℕ) (found : PageBackup) (r : Record) → IsLawful log r → (found.backup < 2 ^ 63) × (found.lsn ≤ length log) → ((backup_step p found r).backup < 2 ^ 63) × ((backup_step p found r).lsn ≤ length log)
backup_step_fits log p found (kinds.BackupDone b) lawful h = (
  backed_number (λ (x : PageLsn). eqb x.page p) b.backup found b.pages (number_most b.backup lawful.fields.backup).1 h.0,
  backed_lsn log (λ (x : PageLsn). eqb x.page p) b.backup found b.pages lawful.upkeep.images h.1,
)
backup_step_fits log p found _ lawful h = h

no_backup_of : (p : ℕ) → page_backup [] p ≡ no_backup
unfolding page_backup along
no_backup_of p = refl

backup_fits : (p : ℕ) (log : List Record) → AreLawful log → ((page_backup log p).backup < 2 ^ 63) × ((page_backup log p).lsn ≤ length log)
backup_fits p = by_pushes (λ (log : List Record). AreLawful log → ((page_backup log p).backup < 2 ^ 63) × ((page_backup log p).lsn ≤ length log))
    (λ _. subst (λ (b : PageBackup). (b.backup < 2 ^ 63) × (b.lsn ≤ 0)) (sym (no_backup_of p)) (omega arith, omega arith))
    (λ log r before sound.
    let parts = lawful_front log r sound in
    let step = backup_step_fits log p (page_backup log p) r parts.1 (before parts.0) in
    let n = length-append log (r ∷ []) in
    let a = step.0 in
    let b = step.1 in
    subst (λ (x : PageBackup). (x.backup < 2 ^ 63) × (x.lsn ≤ length (log ++ r ∷ []))) (sym (page_backup_push log r p)) (a, omega (arith, b, n)))

heads_fit : (log : List Record) → AreLawful log → length log < 2 ^ 63 → list_all page_head_fits (page_heads log) ≡ true
heads_fit log sound few = all_mapped page_head_fits (page_head log) 1 (pages log) (λ p l m.
    let made = made_head p l log sound (omega (arith, m)) in
    let within = head_in p log in
    let w = written_within p log sound in
    let b = backup_fits p log sound in
    let lsn = b.1 in
    and_true (is_number (head log p) && is_lsn_or_none (written_lsn log p)) _
    (and_true (is_number (head log p)) _ (number_is (head log p) made (omega (arith, within, few))) (lsn_is (written_lsn log p) (omega (arith, w, within, few))))
    (and_true (is_lsn_or_none (page_backup log p).backup) _ (lsn_is (page_backup log p).backup b.0) (lsn_is (page_backup log p).lsn (omega (arith, lsn, few)))))

-- ---- lists that rise

module _ {A : Type 0} where
  item_last : (xs : List A) (x : A) → slice_get (xs ++ x ∷ []) (length xs) ≡ Some x
  item_last [] x = refl
  item_last (y ∷ xs) x = item_last xs x

  -- each item's number is below n
  abbrev AllBelow : (A → ℕ) → ℕ → List A → Type 0
  AllBelow f n [] = Unit {0}
  AllBelow f n (x ∷ xs) = (f x < n) × AllBelow f n xs

  abbrev Under : (A → ℕ) → ℕ → Option A → Type 0
  Under f n None = Unit {0}
  Under f n (Some x) = f x < n

  all_at : (f : A → ℕ) (n : ℕ) (xs : List A) (i : ℕ) → AllBelow f n xs → Under f n (slice_get xs i)
  all_at f n [] i h = tt
  all_at f n (x ∷ xs) zero h = h.0
  all_at f n (x ∷ xs) (suc i) h = all_at f n xs i h.1

  under_rises : (f : A → ℕ) (n m : ℕ) (o : Option A) → n ≤ m → Under f n o → option_map_or (λ x. nat_lt (f x) m) o true ≡ true
  under_rises f n m None l h = refl
  under_rises f n m (Some x) l h = below_is (f x) m (omega (arith, l, h))

  rises_over : (f : A → ℕ) (n m : ℕ) (xs : List A) → n ≤ m → AllBelow f n xs → rises_above f xs m ≡ true
  rises_over f n m xs l h = under_rises f n m (last_of xs) l (all_at f n xs (length xs - 1) h)

  below_more : (f : A → ℕ) (n m : ℕ) (xs : List A) → n ≤ m → AllBelow f n xs → AllBelow f m xs
  below_more f n m [] l h = tt
  below_more f n m (x ∷ xs) l h = let a = h.0 in (omega (arith, a, l), below_more f n m xs l h.1)

  below_push : (f : A → ℕ) (n : ℕ) (xs : List A) (x : A) → AllBelow f n xs → f x < n → AllBelow f n (xs ++ x ∷ [])
  below_push f n [] x h g = (g, tt)
  below_push f n (y ∷ xs) x h g = (h.0, below_push f n xs x h.1 g)

  below_front : (f : A → ℕ) (n : ℕ) (xs : List A) → AllBelow f n xs → AllBelow f n (without_last xs)
  below_front f n [] h = tt
  below_front f n (x ∷ []) h = tt
  below_front f n (x ∷ y ∷ ys) h = (h.0, below_front f n (y ∷ ys) h.1)

  last_gone : (xs : List A) → (gone : List A) × (xs ≡ without_last xs ++ gone)
  last_gone [] = ([], refl)
  last_gone (x ∷ []) = (x ∷ [], refl)
  last_gone (x ∷ y ∷ ys) = let f = last_gone (y ∷ ys) in (f.0, ap (λ (zs : List A). x ∷ zs) f.1)

-- ---- open writes in short

abbrev lsn_of : OpenWrite → ℕ
lsn_of w = w.lsn

abbrev OpenFits : List OpenWrite → ℕ → Type 0
OpenFits ws n = AllAlong (λ ws w. IsTrue (open_write_fits ws w)) ws × AllBelow lsn_of (n + 1) ws

open_more : (ws : List OpenWrite) (n : ℕ) (key : List ℕ) → is_key key ≡ true → n + 1 < 2 ^ 63 → OpenFits ws n → OpenFits (ws ++ record { lsn = n + 1; key = key } ∷ []) (n + 1)
open_more ws n key k few h = (
  AllAlong_back (λ ws w. IsTrue (open_write_fits ws w)) ws (record { lsn = n + 1; key = key }) h.0
      (and_true (is_number (n + 1) && rises_above lsn_of ws (n + 1)) (is_key key)
      (and_true (is_number (n + 1)) _ (number_is (n + 1) (omega arith) few) (rises_over lsn_of (n + 1) (n + 1) ws (omega arith) h.1)) k),
  below_push lsn_of (n + 1 + 1) ws (record { lsn = n + 1; key = key }) (below_more lsn_of (n + 1) (n + 1 + 1) ws (omega arith) h.1) (omega arith),
)

open_fewer : (ws : List OpenWrite) (n : ℕ) → OpenFits ws n → OpenFits (without_last ws) (n + 1)
open_fewer ws n h =
    let g = last_gone ws in
    (AllAlong_less (λ ws w. IsTrue (open_write_fits ws w)) (without_last ws) g.0 (subst (AllAlong (λ ws w. IsTrue (open_write_fits ws w))) g.1 h.0), below_more lsn_of (n + 1) (n + 1 + 1) (without_last ws) (omega arith) (below_front lsn_of (n + 1) ws h.1))

open_still : (ws : List OpenWrite) (n : ℕ) → OpenFits ws n → OpenFits ws (n + 1)
open_still ws n h = (h.0, below_more lsn_of (n + 1) (n + 1 + 1) ws (omega arith) h.1)

open_none : (n : ℕ) → OpenFits [] n
unfolding AllAlong
open_none n = (tt, tt)

open_step_fits : (t : ℕ) (ws : List OpenWrite) (n : ℕ) (r : Record) → HasSpelling r → n + 1 < 2 ^ 63 → OpenFits ws n → OpenFits (open_step t (record { lsn = n + 1; key = key_of r }) ws r) (n + 1)
open_step_fits t ws n (kinds.Write w) k few h = by (eqb w.tx t)
  where
    by : (b : Bool) → OpenFits (cond b (ws ++ record { lsn = n + 1; key = w.key } ∷ []) ws) (n + 1)
    by true = open_more ws n w.key k.key few h
    by false = open_still ws n h
open_step_fits t ws n (kinds.Apply w) k few h = by (eqb w.tx t)
  where
    by : (b : Bool) → OpenFits (cond b (ws ++ record { lsn = n + 1; key = w.key } ∷ []) ws) (n + 1)
    by true = open_more ws n w.key k.key few h
    by false = open_still ws n h
open_step_fits t ws n (kinds.Undo u) k few h = by (eqb u.tx t)
  where
    by : (b : Bool) → OpenFits (cond b (without_last ws) ws) (n + 1)
    by true = open_fewer ws n h
    by false = open_still ws n h
open_step_fits t ws n (kinds.Commit c) k few h = by (eqb c.tx t)
  where
    by : (b : Bool) → OpenFits (cond b [] ws) (n + 1)
    by true = open_none (n + 1)
    by false = open_still ws n h
open_step_fits t ws n (kinds.End c) k few h = by (eqb c.tx t)
  where
    by : (b : Bool) → OpenFits (cond b [] ws) (n + 1)
    by true = open_none (n + 1)
    by false = open_still ws n h
open_step_fits t ws n _ k few h = open_still ws n h

no_open : (t : ℕ) → open_list [] t ≡ []
unfolding open_list along
no_open t = refl

open_fits : (t : ℕ) (log : List Record) → AreLawful log → length log < 2 ^ 63 → OpenFits (open_list log t) (length log)
open_fits t = by_pushes (λ (log : List Record). AreLawful log → length log < 2 ^ 63 → OpenFits (open_list log t) (length log))
    (λ _ _. subst (λ (ws : List OpenWrite). OpenFits ws 0) (sym (no_open t)) (open_none 0))
    (λ log r before sound few.
    let parts = lawful_front log r sound in
    let n : length (log ++ r ∷ []) ≡ length log + 1 = length-append log (r ∷ []) in
    subst (λ (m : ℕ). OpenFits (open_list (log ++ r ∷ []) t) m) (sym n)
    (subst (λ (ws : List OpenWrite). OpenFits ws (length log + 1)) (sym (open_list_push log r t))
    (open_step_fits t (open_list log t) (length log) r parts.1.fields (omega (arith, n, few)) (before parts.0 (omega (arith, n, few))))))

-- in short as many as in full
without_same : {A B : Type 0} → (xs : List A) (ys : List B) → length xs ≡ length ys → length (without_last xs) ≡ length (without_last ys)
without_same [] [] e = refl
without_same [] (y ∷ ys) e = absurd (omega (arith, e))
without_same (x ∷ xs) [] e = absurd (omega (arith, e))
without_same (x ∷ []) (y ∷ []) e = refl
without_same (x ∷ []) (y ∷ z ∷ zs) e = absurd (omega (arith, e))
without_same (x ∷ w ∷ ws) (y ∷ []) e = absurd (omega (arith, e))
without_same (x ∷ w ∷ ws) (y ∷ z ∷ zs) e = ap suc (without_same (w ∷ ws) (z ∷ zs) (omega (arith, e)))

push_same : {A B : Type 0} → (b : Bool) (xs : List A) (ys : List B) (x : A) (y : B) → length xs ≡ length ys → length (cond b (xs ++ x ∷ []) xs) ≡ length (cond b (ys ++ y ∷ []) ys)
push_same true xs ys x y e = let m = length-append xs (x ∷ []) in let n = length-append ys (y ∷ []) in omega (arith, m, n, e)
push_same false xs ys x y e = e

either_same : {A B : Type 0} → (b : Bool) (as1 xs : List A) (bs ys : List B) → length as1 ≡ length bs → length xs ≡ length ys → length (cond b as1 xs) ≡ length (cond b bs ys)
either_same true as1 xs bs ys e f = e
either_same false as1 xs bs ys e f = f

step_same : (t : ℕ) (x : OpenWrite) (y : Record) (ws : List OpenWrite) (rs : List Record) (r : Record) → length ws ≡ length rs → length (open_step t x ws r) ≡ length (open_step t y rs r)
step_same t x y ws rs (kinds.Write w) e = push_same (eqb w.tx t) ws rs x y e
step_same t x y ws rs (kinds.Apply w) e = push_same (eqb w.tx t) ws rs x y e
step_same t x y ws rs (kinds.Undo w) e = either_same (eqb w.tx t) (without_last ws) ws (without_last rs) rs (without_same ws rs e) e
step_same t x y ws rs (kinds.Commit w) e = either_same (eqb w.tx t) [] ws [] rs refl e
step_same t x y ws rs (kinds.End w) e = either_same (eqb w.tx t) [] ws [] rs refl e
step_same t x y ws rs _ e = e

no_writes : (t : ℕ) → open_writes [] t ≡ []
unfolding open_writes along
no_writes t = refl

as_many : (t : ℕ) (log : List Record) → length (open_list log t) ≡ length (open_writes log t)
as_many t = by_pushes (λ (log : List Record). length (open_list log t) ≡ length (open_writes log t))
    (ap length (no_open t) ∙ sym (ap length (no_writes t)))
    (λ log r before. ap length (open_list_push log r t) ∙ step_same t _ r (open_list log t) (open_writes log t) r before ∙ sym (ap length (open_push log r t)))

-- ---- unfinished transactions

-- who has an open write has a last record
not_none : (ws : List Record) → has_items ws ≡ true → ws ≡ [] → ⊥
not_none [] h e = absurd cc
not_none (w ∷ ws) h e = let n : suc (length ws) ≡ 0 = ap length e in omega (arith, n)

last_some : (t : ℕ) (log : List Record) → has_items (open_writes log t) ≡ true → 1 ≤ last log t
last_some t = by_pushes (λ (log : List Record). has_items (open_writes log t) ≡ true → 1 ≤ last log t)
    (λ h. absurd (not_none (open_writes [] t) h (no_writes t)))
    (λ log r before h.
    let e = last_push log r t in
    by log r before h e (is_link_of t (link_of r)) refl)
  where
    by : (log : List Record) (r : Record) → (has_items (open_writes log t) ≡ true → 1 ≤ last log t) → has_items (open_writes (log ++ r ∷ []) t) ≡ true
        → last (log ++ r ∷ []) t ≡ cond (is_link_of t (link_of r)) (length log + 1) (last log t) → (b : Bool) → is_link_of t (link_of r) ≡ b → 1 ≤ last (log ++ r ∷ []) t
    by log r before h e true l = let d = e ∙ ap (λ (b : Bool). cond b (length log + 1) (last log t)) l in omega (arith, d)
    by log r before h e false l =
        let d = e ∙ ap (λ (b : Bool). cond b (length log + 1) (last log t)) l in
        let old = before (ap has_items (sym (open_push log r t ∙ open_same t r (open_writes log t) r l)) ∙ h) in
        omega (arith, d, old)

-- a term of a sum
term_in : (f : ℕ → ℕ) (t n : ℕ) → t ≤ n → f t ≤ sum_to f n
term_in f t zero l = let e : t ≡ 0 = omega (arith, l) in let g = ap f e in omega (arith, g)
term_in f t (suc n) l = elim (below_or t n) [
  | inl b ↦ let h = term_in f t n b in omega (arith, h)
  | inr a ↦ let e : t ≡ suc n = omega (arith, l, a) in let g = ap f e in omega (arith, g)
]
  where
    below_or : (t n : ℕ) → (t ≤ n) ⊎ (n < t)
    below_or t n = grind arith

-- the losers are no more than the open writes
counted : (f : ℕ → ℕ) (p : ℕ → Bool) → ((t : ℕ) → p t ≡ true → 1 ≤ f t) → (k n : ℕ) → length (filter p (range_with_len (k + 1) n)) + sum_to f k ≤ sum_to f (k + n)
counted f p some k zero = let e : k + 0 ≡ k = omega arith in let g = ap (sum_to f) e in omega (arith, g)
counted f p some k (suc n) =
    let more = counted f p some (k + 1) n in
    let e : (k + 1) + n ≡ k + suc n = omega arith in
    let g = ap (sum_to f) e in
    let next : k + 1 ≡ suc k = omega arith in
    let s : sum_to f (k + 1) ≡ sum_to f k + f (k + 1) = ap (sum_to f) next ∙ ap (λ (m : ℕ). sum_to f k + f m) (sym next) in
    by (p (k + 1)) refl more g s
  where
    by : (b : Bool) → p (k + 1) ≡ b → length (filter p (range_with_len (k + 1 + 1) n)) + sum_to f (k + 1) ≤ sum_to f ((k + 1) + n) → sum_to f ((k + 1) + n) ≡ sum_to f (k + suc n) → sum_to f (k + 1) ≡ sum_to f k + f (k + 1)
        → length (cond b ((k + 1) ∷ filter p (range_with_len (k + 1 + 1) n)) (filter p (range_with_len (k + 1 + 1) n))) + sum_to f k ≤ sum_to f (k + suc n)
    by true e more g s = let one = some (k + 1) e in omega (arith, more, g, s, one)
    by false e more g s = omega (arith, more, g, s)

has_some : (ws : List Record) → has_items ws ≡ true → 1 ≤ length ws
has_some [] h = absurd cc
has_some (w ∷ ws) h = omega arith

losers_few : (log : List Record) → length (losers log) ≤ pending log
unfolding pending
losers_few log =
    let c = counted (λ t. length (open_writes log t)) (is_loser log) (λ t h. has_some (open_writes log t) h) 0 (greatest log) in
    let e : 0 + greatest log ≡ greatest log = omega arith in
    let g = ap (sum_to (λ t. length (open_writes log t))) e in
    let one : 0 + 1 ≡ 1 = omega arith in
    let l = ap (λ (k : ℕ). length (filter (is_loser log) (range_with_len k (greatest log)))) one in
    omega (arith, c, g, l)

writes_few : (log : List Record) (t : ℕ) → t ≤ greatest log → length (open_writes log t) ≤ pending log
unfolding pending
writes_few log t l = term_in (λ t. length (open_writes log t)) t (greatest log) l

mapped_length : {A B : Type 0} → (f : A → B) (xs : List A) → length (map f xs) ≡ length xs
mapped_length f [] = refl
mapped_length f (x ∷ xs) = ap suc (mapped_length f xs)

last_lsn : (n : ℕ) (o : Option OpenWrite) → Under lsn_of n o → 0 < n → option_map_or (λ (w : OpenWrite). w.lsn) o 0 < n
last_lsn n None h l = l
last_lsn n (Some w) h l = h

module _ (log : List Record) (sound : AreLawful log) (few : length log < 2 ^ 63) (room : pending log ≤ 16384) where
  keeps_unfinished : (before : List Unfinished) (t : ℕ) → 1 ≤ t → t ≤ greatest log → is_loser log t ≡ true → AllBelow (λ (u : Unfinished). u.tx) t before → KeepsUnfinished before (unfinished log t)
  keeps_unfinished before t low high loser below =
      let g = greatest_most log sound in
      let l = last_in t log in
      let o = open_fits t log sound few in
      let last_open_below = last_lsn (length log + 1) (last_of (open_list log t)) (all_at lsn_of (length log + 1) (open_list log t) (length (open_list log t) - 1) o.1) (omega arith) in
      let n = as_many t log in
      let w = writes_few log t high in
      record {
        tx = and_true (is_number t) _ (number_is t low (omega (arith, g, high))) (rises_over (λ (u : Unfinished). u.tx) t t before (omega arith) below);
        last = number_is (last log t) (last_some t log loser) (omega (arith, l, few));
        undo_next = lsn_is (last_open (open_list log t)) (omega (arith, last_open_below, few));
        count = u32_is (length (open_list log t)) (omega (arith, n, w, room));
        writes = o.0;
      }

  all_unfinished : (from n : ℕ) (before : List Unfinished) → 1 ≤ from → from + n ≤ greatest log + 1 → AllBelow (λ (u : Unfinished). u.tx) from before → AllFrom KeepsUnfinished before (map (unfinished log) (filter (is_loser log) (range_with_len from n)))
  all_unfinished from zero before low high below = tt
  all_unfinished from (suc n) before low high below =
      let more = λ (before : List Unfinished) (b : AllBelow (λ (u : Unfinished). u.tx) (from + 1) before). all_unfinished (from + 1) n before (omega (arith, low)) (omega (arith, high)) b in
      by (is_loser log from) refl more
    where
      by : (b : Bool) → is_loser log from ≡ b → ((before : List Unfinished) → AllBelow (λ (u : Unfinished). u.tx) (from + 1) before → AllFrom KeepsUnfinished before (map (unfinished log) (filter (is_loser log) (range_with_len (from + 1) n))))
          → AllFrom KeepsUnfinished before (map (unfinished log) (cond b (from ∷ filter (is_loser log) (range_with_len (from + 1) n)) (filter (is_loser log) (range_with_len (from + 1) n))))
      by true e more = (keeps_unfinished before from low (omega (arith, high)) e below, more (before ++ unfinished log from ∷ []) (below_push (λ (u : Unfinished). u.tx) (from + 1) before (unfinished log from) (below_more (λ (u : Unfinished). u.tx) from (from + 1) before (omega arith) below) (omega arith)))
      by false e more = more before (below_more (λ (u : Unfinished). u.tx) from (from + 1) before (omega arith) below)

  transactions_fit : AllAlong KeepsUnfinished (map (unfinished log) (losers log))
  unfolding AllAlong
  transactions_fit = all_unfinished 1 (greatest log) [] (omega arith) (omega arith) tt

-- ---- unrestored segments

abbrev Rising : ℕ → List ℕ → Type 0
Rising low [] = Unit {0}
Rising low (x ∷ xs) = (low ≤ x) × (x < 2 ^ 31) × Rising (suc x) xs

rising_lower : (low least : ℕ) (xs : List ℕ) → least ≤ low → Rising low xs → Rising least xs
rising_lower low least [] l h = tt
rising_lower low least (x ∷ xs) l h = let a = h.0 in (omega (arith, a, l), h.1, h.2)

rising_range : (low from n : ℕ) → low ≤ from → from + n ≤ 2 ^ 31 → Rising low (range_with_len from n)
rising_range low from zero l u = tt
rising_range low from (suc n) l u = (l, omega (arith, u), rising_range (suc from) (from + 1) n (omega arith) (omega (arith, u)))

rising_filter : (p : ℕ → Bool) (low : ℕ) (xs : List ℕ) → Rising low xs → Rising low (filter p xs)
rising_filter p low [] h = tt
rising_filter p low (x ∷ xs) h = by (p x) (rising_filter p (suc x) xs h.2)
  where
    by : (b : Bool) → Rising (suc x) (filter p xs) → Rising low (cond b (x ∷ filter p xs) (filter p xs))
    by true rest = (h.0, h.1, rest)
    by false rest = let a = h.0 in rising_lower (suc x) low (filter p xs) (omega (arith, a)) rest

rising_few : (low : ℕ) (xs : List ℕ) → low ≤ 2 ^ 31 → Rising low xs → length xs + low ≤ 2 ^ 31
rising_few low [] l h = omega (arith, l)
rising_few low (x ∷ xs) l h = let a = h.0 in let b = h.1 in let r = rising_few (suc x) xs (omega (arith, b)) h.2 in omega (arith, a, r)

rising_fits : (before : List ℕ) (low : ℕ) (xs : List ℕ) → AllBelow (λ n. n) low before → Rising low xs → AllFrom (λ before segment. IsTrue (segment_fits before segment)) before xs
rising_fits before low [] b h = tt
rising_fits before low (x ∷ xs) b h =
    let u = h.1 in (
      and_true (is_u32 x) _ (u32_is x (omega (arith, u))) (rises_over (λ n. n) low x before h.0 b),
      rising_fits (before ++ x ∷ []) (suc x) xs (below_push (λ n. n) (suc x) before x (below_more (λ n. n) low (suc x) before (let a = h.0 in omega (arith, a)) b) (omega arith)) h.2,
    )

segments_rise : (ss : List ℕ) (r : Record) → HasSpelling r → Rising 0 ss → Rising 0 (unrestored_step ss r)
segments_rise ss (kinds.Lost l) k h = let u = u32_most l.pages k.pages in rising_range 0 0 ((l.pages + 15) / 16) (omega arith) (omega (arith, u))
segments_rise ss (kinds.Restored x) k h = rising_filter _ 0 ss h
segments_rise ss _ k h = h

no_segments : unrestored [] ≡ []
unfolding unrestored along
no_segments = refl

unrestored_rise : (log : List Record) → AreLawful log → Rising 0 (unrestored log)
unrestored_rise = by_pushes (λ (log : List Record). AreLawful log → Rising 0 (unrestored log)) (λ _. subst (Rising 0) (sym no_segments) tt) (λ log r before sound.
    let parts = lawful_front log r sound in
    subst (Rising 0) (sym (unrestored_push log r)) (segments_rise (unrestored log) r parts.1.fields (before parts.0)))

segments_fit : (ss : List ℕ) → Rising 0 ss → AllAlong (λ before segment. IsTrue (segment_fits before segment)) ss
unfolding AllAlong
segments_fit ss h = rising_fits [] 0 ss tt h

-- ---- runs

record FitsRun (x : Run) : Type 0 where
  run : is_number x.run ≡ true
  first : is_number x.first ≡ true
  last : is_number x.last ≡ true
  covers : x.first ≤ x.last

abbrev Runs : ℕ → List Run → Type 0
Runs low [] = Unit {0}
Runs low (x ∷ xs) = (low ≤ x.first) × FitsRun x × Runs (suc x.first) xs

runs_lower : (low least : ℕ) (xs : List Run) → least ≤ low → Runs low xs → Runs least xs
runs_lower low least [] l h = tt
runs_lower low least (x ∷ xs) l h = let a = h.0 in (omega (arith, a, l), h.1, h.2)

runs_filter : (p : Run → Bool) (low : ℕ) (xs : List Run) → Runs low xs → Runs low (filter p xs)
runs_filter p low [] h = tt
runs_filter p low (x ∷ xs) h = by (p x) (runs_filter p (suc x.first) xs h.2)
  where
    by : (b : Bool) → Runs (suc x.first) (filter p xs) → Runs low (cond b (x ∷ filter p xs) (filter p xs))
    by true rest = (h.0, h.1, rest)
    by false rest = let a = h.0 in runs_lower (suc x.first) low (filter p xs) (omega (arith, a)) rest

below_of : (m n : ℕ) → nat_lt m n ≡ true → m < n
below_of m n h = grind (arith, nat_tests)

-- those above a bound
runs_above : (d low k : ℕ) (xs : List Run) → k ≤ suc d → Runs low xs → Runs k (filter (λ (x : Run). nat_lt d x.first) xs)
runs_above d low k [] l h = tt
runs_above d low k (x ∷ xs) l h = by (nat_lt d x.first) refl (runs_above d (suc x.first) k xs l h.2)
  where
    by : (b : Bool) → nat_lt d x.first ≡ b → Runs k (filter (λ (x : Run). nat_lt d x.first) xs) → Runs k (cond b (x ∷ filter (λ (x : Run). nat_lt d x.first) xs) (filter (λ (x : Run). nat_lt d x.first) xs))
    by true e rest = let a = below_of d x.first e in (omega (arith, a, l), h.1, runs_filter (λ (x : Run). nat_lt d x.first) (suc x.first) xs h.2)
    by false e rest = rest

-- those below it, then the new one, then those above
runs_joined : (first low : ℕ) (new : Run) (xs above : List Run) → new.first ≡ first → low ≤ first → FitsRun new → Runs low xs → Runs (suc first) above → Runs low (filter (λ (x : Run). nat_lt x.last first) xs ++ new ∷ above)
runs_joined first low new [] above e l fits h up = (omega (arith, e, l), fits, subst (λ (n : ℕ). Runs (suc n) above) (sym e) up)
runs_joined first low new (x ∷ xs) above e l fits h up = by (nat_lt x.last first) refl (λ (k : ℕ) (m : k ≤ first) (g : Runs k xs). runs_joined first k new xs above e m fits g up)
  where
    by : (b : Bool) → nat_lt x.last first ≡ b → ((k : ℕ) → k ≤ first → Runs k xs → Runs k (filter (λ (x : Run). nat_lt x.last first) xs ++ new ∷ above)) → Runs low (cond b (x ∷ filter (λ (x : Run). nat_lt x.last first) xs) (filter (λ (x : Run). nat_lt x.last first) xs) ++ new ∷ above)
    by true p more = let a = below_of x.last first p in let c = h.1.covers in (h.0, h.1, more (suc x.first) (omega (arith, a, c)) h.2)
    by false p more = let a = h.0 in more low l (runs_lower (suc x.first) low xs (omega (arith, a)) h.2)

runs_step_fits : (log : List Record) (runs : List Run) (r : Record) → IsLawful log r → Runs 0 runs → Runs 0 (runs_step runs r)
runs_step_fits log runs (kinds.RunDone d) lawful h =
    let k = lawful.fields in
    let c = lawful.upkeep.covers in
    runs_joined d.first 0 (record { run = d.run; first = d.first; last = d.last }) runs _ refl (omega arith) (record { run = k.run; first = k.first; last = k.last; covers = c }) h (runs_above d.last 0 (suc d.first) runs (omega (arith, c)) h)
runs_step_fits log runs _ lawful h = h

no_runs : standing_runs [] ≡ []
unfolding standing_runs along
no_runs = refl

runs_rise : (log : List Record) → AreLawful log → Runs 0 (standing_runs log)
runs_rise = by_pushes (λ (log : List Record). AreLawful log → Runs 0 (standing_runs log)) (λ _. subst (Runs 0) (sym no_runs) tt) (λ log r before sound.
    let parts = lawful_front log r sound in
    subst (Runs 0) (sym (runs_push log r)) (runs_step_fits log (standing_runs log) r parts.1 (before parts.0)))

few_step : (log : List Record) (r : Record) → IsLawful log r → length (standing_runs log) ≤ 1024 → length (standing_runs (log ++ r ∷ [])) ≤ 1024
few_step log (kinds.RunDone d) lawful h = lawful.upkeep.most
few_step log (kinds.Format f) lawful h = subst (λ (rs : List Run). length rs ≤ 1024) (sym (runs_push log (kinds.Format f))) h
few_step log (kinds.Write f) lawful h = subst (λ (rs : List Run). length rs ≤ 1024) (sym (runs_push log (kinds.Write f))) h
few_step log (kinds.Apply f) lawful h = subst (λ (rs : List Run). length rs ≤ 1024) (sym (runs_push log (kinds.Apply f))) h
few_step log (kinds.Undo f) lawful h = subst (λ (rs : List Run). length rs ≤ 1024) (sym (runs_push log (kinds.Undo f))) h
few_step log (kinds.Commit f) lawful h = subst (λ (rs : List Run). length rs ≤ 1024) (sym (runs_push log (kinds.Commit f))) h
few_step log (kinds.End f) lawful h = subst (λ (rs : List Run). length rs ≤ 1024) (sym (runs_push log (kinds.End f))) h
few_step log (kinds.Split f) lawful h = subst (λ (rs : List Run). length rs ≤ 1024) (sym (runs_push log (kinds.Split f))) h
few_step log (kinds.Adopt f) lawful h = subst (λ (rs : List Run). length rs ≤ 1024) (sym (runs_push log (kinds.Adopt f))) h
few_step log (kinds.Grow f) lawful h = subst (λ (rs : List Run). length rs ≤ 1024) (sym (runs_push log (kinds.Grow f))) h
few_step log (kinds.Purge f) lawful h = subst (λ (rs : List Run). length rs ≤ 1024) (sym (runs_push log (kinds.Purge f))) h
few_step log (kinds.Written f) lawful h = subst (λ (rs : List Run). length rs ≤ 1024) (sym (runs_push log (kinds.Written f))) h
few_step log (kinds.Checkpoint f) lawful h = subst (λ (rs : List Run). length rs ≤ 1024) (sym (runs_push log (kinds.Checkpoint f))) h
few_step log (kinds.BackupDone f) lawful h = subst (λ (rs : List Run). length rs ≤ 1024) (sym (runs_push log (kinds.BackupDone f))) h
few_step log (kinds.Lost f) lawful h = subst (λ (rs : List Run). length rs ≤ 1024) (sym (runs_push log (kinds.Lost f))) h
few_step log (kinds.Restored f) lawful h = subst (λ (rs : List Run). length rs ≤ 1024) (sym (runs_push log (kinds.Restored f))) h

runs_few : (log : List Record) → AreLawful log → length (standing_runs log) ≤ 1024
runs_few = by_pushes (λ (log : List Record). AreLawful log → length (standing_runs log) ≤ 1024) (λ _. let e = ap length no_runs in omega (arith, e)) (λ log r before sound.
    let parts = lawful_front log r sound in few_step log r parts.1 (before parts.0))

runs_fit_from : (before : List Run) (low : ℕ) (xs : List Run) → AllBelow (λ (x : Run). x.first) low before → Runs low xs → AllFrom (λ before x. IsTrue (run_fits before x)) before xs
runs_fit_from before low [] b h = tt
runs_fit_from before low (x ∷ xs) b h =
    let k = h.1 in
    let a = h.0 in (
      and_true (is_number x.run && (is_number x.first && rises_above (λ (y : Run). y.first) before x.first)) (is_number x.last)
          (and_true (is_number x.run) _ k.run (and_true (is_number x.first) _ k.first (rises_over (λ (y : Run). y.first) low x.first before a b))) k.last,
      runs_fit_from (before ++ x ∷ []) (suc x.first) xs (below_push (λ (y : Run). y.first) (suc x.first) before x (below_more (λ (y : Run). y.first) low (suc x.first) before (omega (arith, a)) b) (omega arith)) h.2,
    )

runs_fit : (xs : List Run) → Runs 0 xs → AllAlong (λ before x. IsTrue (run_fits before x)) xs
unfolding AllAlong
runs_fit xs h = runs_fit_from [] 0 xs tt h

-- ---- the whole

pub checkpoint_law : (log : List Record) → CheckpointLaw log
unfolding checkpoint_of
checkpoint_law log = record {
  spelled = λ sound some few.
      let lawful = sound.lawful in
      let less : length log < 2 ^ 63 = omega (arith, few) in
      let within = sound.room some in
      let limit = (pages_law log).limit lawful in
      let room : pending log ≤ 16384 = omega (arith, within, limit) in
      let count = length-map-range_with_len (page_head log) 1 (pages log) in
      let losers_count = mapped_length (unfinished log) (losers log) in
      let l = losers_few log in
      let c = commits_within log in
      let rise = unrestored_rise log lawful in
      let segments_few = rising_few 0 (unrestored log) (omega arith) rise in
      record {
        next_tx = next_is (greatest log) (greatest_most log lawful);
        commits = u64_is (commits log) (omega (arith, c, less));
        limit = u32_is (limit_of log) (omega (arith, limit));
        pages_count = u32_is (length (page_heads log)) (omega (arith, count, within, limit));
        pages = heads_fit log lawful less;
        transactions_count = u32_is (length (map (unfinished log) (losers log))) (omega (arith, losers_count, l, room));
        transactions = transactions_fit log lawful less room;
        lost = u32_is (lost_pages log) (lost_most log lawful);
        unrestored_count = u32_is (length (unrestored log)) (omega (arith, segments_few));
        unrestored = segments_fit (unrestored log) rise;
        runs_count = u16_is (length (standing_runs log)) (runs_few log lawful);
        runs = runs_fit (standing_runs log) (runs_rise log lawful);
        next_backup = next_is (last_backup log) (last_backup_most log lawful);
        next_run = next_is (last_run log) (last_run_most log lawful);
      };
}

pub checkpoint_suits : (opening : List Record) (h : List Entry) → CheckpointSuits opening h
checkpoint_suits opening h sound some few = record {
  lawful = record {
    first = not_empty (life_log opening h) some;
    fields = (checkpoint_law (life_log opening h)).spelled sound some few;
    chain = tt;
    heads = tt;
    applicable = λ p n. absurd cc;
    place = tt;
    value = tt;
    upkeep = refl;
  };
  rule = tt;
}
  where
    not_empty : (log : List Record) → log ≢ [] → false ≡ not (has_items log)
    not_empty [] n = absurd (n refl)
    not_empty (x ∷ xs) n = refl
