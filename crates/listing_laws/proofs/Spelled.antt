-- The checkpoint of a lawful log keeps the rules of its fields.
use Rattle.std.proofs.Common.{◌≡◌, ℕ, ◌+◌, ◌-◌, ◌<◌, ◌≤◌, zero, suc, Bool, true, false, cond, List, [], ◌∷◌, map, length, Option, Some, None, refl, sym, ap, subst, ◌∙◌, arith, inl, inr}
use Rattle.std.specs.Prelude.{slice_get, ◌^◌, nat_le, IsTrue}
use Rattle.std.specs.List.{range_with_len, list_all}
use Rattle.std.specs.Option.{option_map_or}
use Rattle.std.proofs.lemmas.Bool.{cases_eq}
use Rattle.std.proofs.lemmas.Bool.Decides.{nat_tests}
use Rattle.std.proofs.lemmas.List.Sums.{sum_by-append}
use Rattle.std.proofs.lemmas.List.FromFn.{length-map-range_with_len}
use Rattle.store_model.specs.Along.{AllAlong}
use Rattle.store_model.specs.Lists.{last_of}
use Rattle.store_model.proofs.Bools.{and_true}
use Rattle.wal_record.specs.Rules.{is_number, is_lsn_or_none, is_next, is_u16, is_u32, is_u64, page_head_fits, open_write_fits, KeepsUnfinished, segment_fits, run_fits, KeepsCheckpoint}
use Rattle.wal_record.specs.Chains.{pages, last, greatest}
use Rattle.wal_record.specs.OpenWrites.{open_writes, open_list, has_items, is_loser, sum_to, pending}
use Rattle.wal_record.specs.Upkeep.{last_backup, lost_pages, unrestored, standing_runs, last_run}
use Rattle.wal_record.specs.Checkpoints.{limit_of, commits, page_head, page_heads, last_open, unfinished, checkpoint_of}
use Rattle.wal_record.specs.Sound.{AreLawful}
use Rattle.wal_record.specs.declared.analysis.PageHead.{PageHead}
use Rattle.wal_record.specs.declared.analysis.Run.{Run}
use Rattle.wal_record.specs.declared.record.OpenWrite.{OpenWrite}
use Rattle.wal_record.specs.declared.record.Unfinished.{Unfinished}
use Rattle.wal_record.specs.declared.record.Record.{Record}
use Rattle.log_laws.proofs.Places.{places}
use Rattle.listing_laws.specs.Summary.{pending_in}
use Rattle.listing_laws.proofs.Named.{all_named}
use Rattle.listing_laws.proofs.Listing.{listing, listing_suc}
use Rattle.listing_laws.proofs.Transactions.{listed, some_open}
use Rattle.listing_laws.proofs.Reading.{same_length, counted}
use Rattle.listing_laws.proofs.Bounds.{few_commits, limit_small, little_used, little_pending}
use Rattle.listing_laws.proofs.Rising.{Each, each_more, Rise, along_rise}
use Rattle.listing_laws.proofs.Numbers.{Small, small_greatest, small_last_backup, small_last_run, head_in, headed, small_written, small_backup, last_in, last_there, IsOpenIn, lsn_of, AreOpenIn, open_in, itself, AreSegments, segments_in, IsRun, AreRuns, runs_in, little_lost}

-- ---- tests of numbers

number_is : (n : ℕ) → 1 ≤ n → Small n → is_number n ≡ true
number_is n l u = and_true (nat_le 1 n) (nat_le n (2 ^ 63 - 1)) (grind (arith, nat_tests)) (grind (arith, nat_tests))

lsn_is : (n : ℕ) → Small n → is_lsn_or_none n ≡ true
lsn_is n u = grind (arith, nat_tests)

next_is : (n : ℕ) → Small n → is_next (suc n) ≡ true
next_is n u =
    let v : suc n ≤ 2 ^ 63 = omega (arith, u) in
    and_true (nat_le 1 (suc n)) (nat_le (suc n) (2 ^ 63)) (grind (arith, nat_tests)) (grind (arith, nat_tests))

u64_is : (n : ℕ) → n < 2 ^ 64 → is_u64 n ≡ true
u64_is n u = grind (arith, nat_tests)

u32_is : (n : ℕ) → n < 2 ^ 32 → is_u32 n ≡ true
u32_is n u = grind (arith, nat_tests)

u16_is : (n : ℕ) → n < 2 ^ 16 → is_u16 n ≡ true
u16_is n u = grind (arith, nat_tests)

-- ---- pages

all_in_range : (p : PageHead → Bool) (F : ℕ → PageHead) (a n : ℕ) → ((q : ℕ) → a ≤ q → q < a + n → p (F q) ≡ true) → list_all p (map F (range_with_len a n)) ≡ true
all_in_range p F a zero h = refl
all_in_range p F a (suc n) h = and_true (p (F a)) (list_all p (map F (range_with_len (a + 1) n))) (h a (omega arith) (omega arith)) (all_in_range p F (a + 1) n (λ q l u. h q (omega (arith, l)) (omega (arith, u))))

head_fits : (log : List Record) → AreLawful log → length log < 2 ^ 63 → (q : ℕ) → 1 ≤ q → q < 1 + pages log → page_head_fits (page_head log q) ≡ true
head_fits log lawful short q l u =
    let there = headed q log (all_named log lawful q l (omega (arith, u))) in
    let most = head_in q log in
    let backup = small_backup q log lawful in
    and_true _ _ (and_true _ _ (number_is _ there (omega (arith, most, short))) (lsn_is _ (small_written q log lawful))) (and_true _ _ (lsn_is _ backup.0) (lsn_is _ backup.1))

few_pages : (log : List Record) → AreLawful log → length (page_heads log) ≤ 16385
few_pages log lawful =
    let n = length-map-range_with_len (page_head log) 1 (pages log) in
    let u = little_used log lawful in
    let m = limit_small log lawful in
    omega (arith, n, u, m)

-- ---- open writes

last_small : (n : ℕ) (ws : List OpenWrite) → Each (IsOpenIn n) ws → last_open ws ≤ n
last_small n ws h = by (last_of ws) refl
  where
    got : (ws : List OpenWrite) (i : ℕ) (w : OpenWrite) → Each (IsOpenIn n) ws → slice_get ws i ≡ Some w → w.lsn ≤ n
    got [] i w h e = absurd cc
    got (v ∷ ws) zero w h e = subst (λ (o : Option OpenWrite). option_map_or (λ (x : OpenWrite). x.lsn) o 0 ≤ n) e h.0.1
    got (v ∷ ws) (suc i) w h e = got ws i w h.1 e

    by : (o : Option OpenWrite) → last_of ws ≡ o → option_map_or (λ (w : OpenWrite). w.lsn) o 0 ≤ n
    by None e = omega arith
    by (Some w) e = got ws (length ws - 1) w h e

writes_fit : (n : ℕ) → n < 2 ^ 63 → (ws : List OpenWrite) → AreOpenIn n ws → AllAlong (λ before w. IsTrue (open_write_fits before w)) ws
writes_fit n short ws h =
    along_rise lsn_of (IsOpenIn n) (λ before w. IsTrue (open_write_fits before w)) (λ before w rises q. and_true _ _ (and_true _ _ (number_is w.lsn q.0 (let u = q.1 in omega (arith, u, short))) rises) q.2) ws h.0 h.1

at_most_sum : (f : ℕ → ℕ) (t n : ℕ) → t ≤ n → f t ≤ sum_to f n
at_most_sum f t zero h = (let e : t ≡ 0 = omega (arith, h) in let g = ap f e in omega (arith, g))
at_most_sum f t (suc n) h = elim (cases_eq t (suc n)) [
  | inl e ↦ (let g = ap f e in omega (arith, g))
  | inr d ↦ (let r = at_most_sum f t n (omega (arith, h, d)) in omega (arith, r))
]

few_open : (log : List Record) (t : ℕ) → t ≤ greatest log → length (open_list log t) ≤ pending log
unfolding pending
few_open log t h =
    let s = at_most_sum (λ q. length (open_writes log q)) t (greatest log) h in
    let e = same_length log (open_list log t) (open_writes log t) (places log t).placed in
    omega (arith, s, e)

-- ---- transactions

module _ (P : ℕ → Bool) (f : ℕ → Unfinished) where
  pub each_listed : (Q : Unfinished → Type 0) (a n : ℕ) → ((t : ℕ) → a ≤ t → t < a + n → P t ≡ true → Q (f t)) → Each Q (listing P f a n)
  each_listed Q a zero h = tt
  each_listed Q a (suc n) h = subst (Each Q) (sym (listing_suc P f a n)) (by (P a) refl (each_listed Q (a + 1) n (λ t l u. h t (omega (arith, l)) (omega (arith, u)))))
    where
      by : (b : Bool) → P a ≡ b → Each Q (listing P f (a + 1) n) → Each Q (cond b (f a ∷ listing P f (a + 1) n) (listing P f (a + 1) n))
      by true e rest = (h a (omega arith) (omega arith) e, rest)
      by false e rest = rest

  rise_listed : ((t : ℕ) → (f t).tx ≡ t) → (a n : ℕ) → Rise (λ (u : Unfinished). u.tx) (listing P f a n)
  rise_listed tx a zero = tt
  rise_listed tx a (suc n) = subst (Rise (λ (u : Unfinished). u.tx)) (sym (listing_suc P f a n)) (by (P a) (rise_listed tx (a + 1) n))
    where
      above : Each (λ (u : Unfinished). (f a).tx < u.tx) (listing P f (a + 1) n)
      above = each_listed (λ (u : Unfinished). (f a).tx < u.tx) (a + 1) n (λ t l u e. let x = tx a in let y = tx t in omega (arith, x, y, l))

      by : (b : Bool) → Rise (λ (u : Unfinished). u.tx) (listing P f (a + 1) n) → Rise (λ (u : Unfinished). u.tx) (cond b (f a ∷ listing P f (a + 1) n) (listing P f (a + 1) n))
      by true rest = (above, rest)
      by false rest = rest

pub Fitting : Unfinished → Type 0
Fitting u = (is_number u.tx ≡ true) × (is_number u.last ≡ true) × (is_lsn_or_none u.undo_next ≡ true) × (is_u32 (length u.writes) ≡ true) × AllAlong (λ before w. IsTrue (open_write_fits before w)) u.writes

fitting : (log : List Record) → AreLawful log → length log < 2 ^ 63 → (t : ℕ) → 1 ≤ t → t < 1 + greatest log → is_loser log t ≡ true → Fitting (unfinished log t)
unfolding Fitting
fitting log lawful short t l u some =
    let top = small_greatest log lawful in
    let there = last_there t log (sym (some_open log t) ∙ some) in
    let most = last_in t log in
    let open_now = open_in t log lawful in
    let undo = last_small (length log) (open_list log t) open_now.1 in
    let few = few_open log t (omega (arith, u)) in
    let little = little_pending log lawful in (
      number_is t l (omega (arith, u, top)),
      number_is (last log t) there (omega (arith, most, short)),
      lsn_is _ (omega (arith, undo, short)),
      u32_is (length (open_list log t)) (omega (arith, few, little)),
      writes_fit (length log) short (open_list log t) open_now,
    )

pub all_fitting : (log : List Record) → AreLawful log → length log < 2 ^ 63 → AllAlong KeepsUnfinished (listed log)
unfolding Fitting
all_fitting log lawful short =
    along_rise (λ (u : Unfinished). u.tx) Fitting KeepsUnfinished (λ before u rises q. record { tx = and_true _ _ q.0 rises; last = q.1; undo_next = q.2; count = q.3; writes = q.4 }) (listed log)
    (rise_listed (is_loser log) (unfinished log) (λ t. refl) 1 (greatest log))
    (each_listed (is_loser log) (unfinished log) Fitting 1 (greatest log) (fitting log lawful short))

pub with_one : (u : Unfinished) (us : List Unfinished) → pending_in (u ∷ us) ≡ length u.writes + pending_in us
with_one u us = let e = sum_by-append (λ (x : Unfinished). length x.writes) (u ∷ []) us in omega (arith, e)

some_length : {A : Type 0} → (xs : List A) → has_items xs ≡ true → 1 ≤ length xs
some_length [] h = absurd cc
some_length (x ∷ xs) h = omega arith

few_of : (us : List Unfinished) → Each (λ (u : Unfinished). has_items u.writes ≡ true) us → length us ≤ pending_in us
few_of [] h = omega arith
few_of (u ∷ us) h = let e = with_one u us in let s = some_length u.writes h.0 in let r = few_of us h.1 in omega (arith, e, s, r)

pub few_listed : (log : List Record) → AreLawful log → length (listed log) ≤ pending log
unfolding checkpoint_of
few_listed log lawful =
    let f = few_of (listed log) (each_listed (is_loser log) (unfinished log) (λ (u : Unfinished). has_items u.writes ≡ true) 1 (greatest log) (λ t l u e. sym (some_open log t) ∙ e)) in
    let c = counted log lawful in
    omega (arith, f, c)

-- ---- segments and runs

segments_fit : (ss : List ℕ) → AreSegments ss → AllAlong (λ before segment. IsTrue (segment_fits before segment)) ss
segments_fit ss h = along_rise itself (λ s. s < 2 ^ 32) (λ before segment. IsTrue (segment_fits before segment)) (λ before s rises q. and_true _ _ (u32_is s q) rises) ss h.0 h.1

rise_runs : (xs : List Run) → AreRuns xs → Rise (λ (x : Run). x.first) xs
rise_runs [] h = tt
rise_runs (x ∷ xs) h = (each_more (λ (y : Run). x.last < y.first) (λ (y : Run). x.first < y.first) (λ y l. let k = h.0.0 in omega (arith, l, k)) xs h.1, rise_runs xs h.2)

each_run : (xs : List Run) → AreRuns xs → Each IsRun xs
each_run [] h = tt
each_run (x ∷ xs) h = (h.0, each_run xs h.2)

runs_fit : (xs : List Run) → AreRuns xs → AllAlong (λ before x. IsTrue (run_fits before x)) xs
runs_fit xs h =
    along_rise (λ (x : Run). x.first) IsRun (λ before x. IsTrue (run_fits before x)) (λ before x rises q. and_true _ _ (and_true _ _ q.1 (and_true _ _ q.2 rises)) q.3) xs (rise_runs xs h) (each_run xs h)

-- ---- the whole

pub spelled : (log : List Record) → AreLawful log → length log < 2 ^ 63 → KeepsCheckpoint (checkpoint_of log)
unfolding checkpoint_of
spelled log lawful short =
    let few = few_commits log in
    let limit = limit_small log lawful in
    let page_count = few_pages log lawful in
    let losers = few_listed log lawful in
    let little = little_pending log lawful in
    let lost = little_lost log lawful in
    let segments_now = segments_in log lawful in
    let segment_count = segments_now.2 in
    let runs_now = runs_in log lawful in
    let run_count = runs_now.1 in
    record {
      next_tx = next_is (greatest log) (small_greatest log lawful);
      commits = u64_is (commits log) (omega (arith, few, short));
      limit = u32_is (limit_of log) (omega (arith, limit));
      pages_count = u32_is (length (page_heads log)) (omega (arith, page_count));
      pages = all_in_range page_head_fits (page_head log) 1 (pages log) (head_fits log lawful short);
      transactions_count = u32_is (length (listed log)) (omega (arith, losers, little));
      transactions = all_fitting log lawful short;
      lost = u32_is (lost_pages log) (omega (arith, lost));
      unrestored_count = u32_is (length (unrestored log)) (omega (arith, segment_count));
      unrestored = segments_fit (unrestored log) segments_now;
      runs_count = u16_is (length (standing_runs log)) (omega (arith, run_count));
      runs = runs_fit (standing_runs log) runs_now.0;
      next_backup = next_is (last_backup log) (small_last_backup log lawful);
      next_run = next_is (last_run log) (small_last_run log lawful);
    }
