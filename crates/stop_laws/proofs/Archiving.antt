-- The last LSN that standing runs cover never falls.
use Rattle.std.proofs.Common.{◌≡◌, ℕ, suc, eqb, cond, ◌-◌, ◌<◌, ◌≤◌, List, [], ◌∷◌, ◌++◌, length, filter, Bool, true, false, refl, sym, ap, ◌∙◌, subst, arith, inl, inr}
use Rattle.std.specs.Prelude.{◌⊎◌, ◌||◌, nat_lt, slice_get}
use Rattle.std.specs.Option.{option_map_or}
use Rattle.std.proofs.lemmas.Bool.{eqb-true}
use Rattle.std.proofs.lemmas.Bool.Decides.{nat_tests}
use Rattle.store_model.proofs.Bools.{both_true}
use Rattle.wal_record.specs.Sound.{AreLawful, IsLawful, is_next_run, is_merge_of}
use Rattle.wal_record.specs.Upkeep.{archived, in_range, standing_runs, with_run}
use Rattle.wal_record.specs.declared.analysis.Run.{Run}
use Rattle.wal_record.specs.declared.record.Record.{Record}
use Rattle.wal_record.specs.declared.record.Record.TheVariants as kinds
use Rattle.wal_record.specs.declared.record.RunDone.{RunDone}
use Rattle.wal_record.proofs.Pushes.{runs_push}
use Rattle.listing_laws.proofs.Numbers.{AreRuns, runs_in}
use Rattle.listing_laws.proofs.Rising.{Each, each_more}

-- the last LSN of the last run, n where there is none
abbrev end_from : ℕ → List Run → ℕ
end_from n [] = n
end_from n (x ∷ xs) = end_from x.last xs

end_append : (n : ℕ) (xs ys : List Run) → end_from n (xs ++ ys) ≡ end_from (end_from n xs) ys
end_append n [] ys = refl
end_append n (x ∷ xs) ys = end_append x.last xs ys

archived_is : (xs : List Run) → archived xs ≡ end_from 0 xs
archived_is [] = refl
archived_is (x ∷ xs) = by x xs
  where
    place : (n : ℕ) → suc n - 1 ≡ n
    place n = omega arith

    by : (x : Run) (xs : List Run) → option_map_or (λ (y : Run). y.last) (slice_get (x ∷ xs) (suc (length xs) - 1)) 0 ≡ end_from x.last xs
    by x [] = refl
    by x (y ∷ ys) =
        ap (λ (i : ℕ). option_map_or (λ (z : Run). z.last) (slice_get (x ∷ y ∷ ys) i) 0) (place (suc (length ys)))
        ∙ ap (λ (i : ℕ). option_map_or (λ (z : Run). z.last) (slice_get (y ∷ ys) i) 0) (sym (place (length ys))) ∙ by y ys

-- ---- runs that rise

rises : (n : ℕ) (xs : List Run) → Each (λ (y : Run). n < y.first) xs → AreRuns xs → n ≤ end_from n xs
rises n [] above runs = omega arith
rises n (x ∷ xs) above runs =
    let rest = rises x.last xs runs.1 runs.2 in
    let one = above.0 in
    let whole = runs.0.0 in
    omega (arith, rest, one, whole)

all_below : (n : ℕ) (xs : List Run) → AreRuns xs → Each (λ (x : Run). x.last ≤ end_from n xs) xs
all_below n [] runs = tt
all_below n (x ∷ xs) runs = (rises x.last xs runs.1 runs.2, all_below x.last xs runs.2)

-- one of the runs ends there
abbrev HasEnd : List Run → ℕ → Type 0
HasEnd [] e = ⊥
HasEnd (x ∷ xs) e = (x.last ≡ e) ⊎ HasEnd xs e

end_of : (p : Run → Bool) (n : ℕ) (xs : List Run) → (filter p xs ≡ []) ⊎ HasEnd xs (end_from n (filter p xs))
end_of p n [] = inl refl
end_of p n (x ∷ xs) = by (p x) (end_of p x.last xs) (end_of p n xs)
  where
    here : (filter p xs ≡ []) ⊎ HasEnd xs (end_from x.last (filter p xs)) → HasEnd (x ∷ xs) (end_from x.last (filter p xs))
    here (inl none) = inl (sym (ap (end_from x.last) none))
    here (inr later) = inr later

    behind : (filter p xs ≡ []) ⊎ HasEnd xs (end_from n (filter p xs)) → (filter p xs ≡ []) ⊎ HasEnd (x ∷ xs) (end_from n (filter p xs))
    behind (inl none) = inl none
    behind (inr has) = inr (inr has)

    by : (b : Bool) → (filter p xs ≡ []) ⊎ HasEnd xs (end_from x.last (filter p xs)) → (filter p xs ≡ []) ⊎ HasEnd xs (end_from n (filter p xs))
        → (cond b (x ∷ filter p xs) (filter p xs) ≡ []) ⊎ HasEnd (x ∷ xs) (end_from n (cond b (x ∷ filter p xs) (filter p xs)))
    by true with_it without = inr (here with_it)
    by false with_it without = behind without

over_end : (n e : ℕ) (xs : List Run) → Each (λ (y : Run). n < y.first) xs → AreRuns xs → HasEnd xs e → n ≤ e
over_end n e [] above runs has = absurd has
over_end n e (x ∷ xs) above runs (inl is) = let one = above.0 in let whole = runs.0.0 in omega (arith, one, whole, is)
over_end n e (x ∷ xs) above runs (inr has) = over_end n e xs above.1 runs.2 has

-- each run lies above it, or ends no later
split_at : (e : ℕ) (xs : List Run) → AreRuns xs → HasEnd xs e → Each (λ (x : Run). (e < x.first) ⊎ (x.last ≤ e)) xs
split_at e [] runs has = absurd has
split_at e (x ∷ xs) runs (inl is) = (inr (omega (arith, is)), each_more (λ (y : Run). x.last < y.first) (λ (y : Run). (e < y.first) ⊎ (y.last ≤ e)) (λ y above. inl (omega (arith, above, is))) xs runs.1)
split_at e (x ∷ xs) runs (inr has) = (inr (over_end x.last e xs runs.1 runs.2 has), split_at e xs runs.2 has)

-- ---- a run more

either : (a b : Bool) → (a || b) ≡ true → (a ≡ true) ⊎ (b ≡ true)
either true b e = inl refl
either false b e = inr e

merged : (xs ys : List Run) (d : RunDone) → ys ≡ filter (in_range d) xs → is_merge_of ys d ≡ true → HasEnd xs d.last
merged xs [] d is e = absurd cc
merged xs (a ∷ []) d is e = absurd cc
merged xs (a ∷ b ∷ ys) d is e =
    let both = both_true (eqb d.first a.first) (eqb d.last (archived (a ∷ b ∷ ys))) e in
    let last : d.last ≡ end_from 0 (filter (in_range d) xs) = eqb-true d.last (archived (a ∷ b ∷ ys)) both.1 ∙ archived_is (a ∷ b ∷ ys) ∙ ap (end_from 0) is in
    by (end_of (in_range d) 0 xs) last
  where
    by : (filter (in_range d) xs ≡ []) ⊎ HasEnd xs (end_from 0 (filter (in_range d) xs)) → d.last ≡ end_from 0 (filter (in_range d) xs) → HasEnd xs d.last
    by (inl none) last = absurd (cc (is ∙ none))
    by (inr has) last = subst (HasEnd xs) (sym last) has

apart : (xs : List Run) (d : RunDone) → AreRuns xs → d.first ≤ d.last → (is_next_run xs d || is_merge_of (filter (in_range d) xs) d) ≡ true → Each (λ (x : Run). (d.last < x.first) ⊎ (x.last ≤ d.last)) xs
apart xs d runs covers rule = by (either (is_next_run xs d) (is_merge_of (filter (in_range d) xs) d) rule)
  where
    by : (is_next_run xs d ≡ true) ⊎ (is_merge_of (filter (in_range d) xs) d ≡ true) → Each (λ (x : Run). (d.last < x.first) ⊎ (x.last ≤ d.last)) xs
    by (inl next) =
        let first : d.first ≡ suc (end_from 0 xs) = eqb-true d.first (suc (archived xs)) next ∙ ap suc (archived_is xs) in
        each_more (λ (x : Run). x.last ≤ end_from 0 xs) (λ (x : Run). (d.last < x.first) ⊎ (x.last ≤ d.last)) (λ x low. inr (omega (arith, low, first, covers))) xs (all_below 0 xs runs)
    by (inr merge) = split_at d.last xs runs (merged xs (filter (in_range d) xs) d refl merge)

rest_rises : (e n m : ℕ) (xs : List Run) → e ≤ m → n ≤ m → Each (λ (x : Run). (e < x.first) ⊎ (x.last ≤ e)) xs → AreRuns xs → end_from n xs ≤ end_from m (filter (λ (x : Run). nat_lt e x.first) xs)
rest_rises e n m [] low le parts runs = le
rest_rises e n m (x ∷ xs) low le parts runs = by (nat_lt e x.first) refl parts.0 (λ m below over. rest_rises e x.last m xs below over parts.1 runs.2)
  where
    by : (b : Bool) → nat_lt e x.first ≡ b → (e < x.first) ⊎ (x.last ≤ e) → ((m : ℕ) → e ≤ m → x.last ≤ m → end_from x.last xs ≤ end_from m (filter (λ (y : Run). nat_lt e y.first) xs))
        → end_from x.last xs ≤ end_from m (cond b (x ∷ filter (λ (y : Run). nat_lt e y.first) xs) (filter (λ (y : Run). nat_lt e y.first) xs))
    by true is part rest =
        let above : e < x.first = grind (arith, nat_tests, is) in
        let whole = runs.0.0 in
        rest x.last (omega (arith, above, whole)) (omega arith)
    by false is (inl above) rest = absurd (grind (arith, nat_tests, is, above))
    by false is (inr below) rest = rest m low (omega (arith, below, low))

with_rises : (xs : List Run) (d : RunDone) → AreRuns xs → d.first ≤ d.last → (is_next_run xs d || is_merge_of (filter (in_range d) xs) d) ≡ true → archived xs ≤ archived (with_run d xs)
with_rises xs d runs covers rule =
    let new : Run = record { run = d.run; first = d.first; last = d.last } in
    let upper = filter (λ (x : Run). nat_lt d.last x.first) xs in
    let now : archived (with_run d xs) ≡ end_from d.last upper = archived_is (with_run d xs) ∙ end_append 0 (filter (λ (x : Run). nat_lt x.last d.first) xs) (new ∷ upper) in
    let parts = apart xs d runs covers rule in
    let more = rest_rises d.last 0 d.last xs (omega arith) (omega arith) parts runs in
    omega (arith, now, more, archived_is xs)

pub archived_rises : (log : List Record) (r : Record) → AreLawful log → IsLawful log r → archived (standing_runs log) ≤ archived (standing_runs (log ++ r ∷ []))
archived_rises log (kinds.RunDone d) lawful next =
    let step = ap archived (runs_push log (kinds.RunDone d)) in
    let more = with_rises (standing_runs log) d (runs_in log lawful).0 next.upkeep.covers next.upkeep.range in
    omega (arith, step, more)
archived_rises log (kinds.Format x) lawful next = omega (arith, ap archived (runs_push log (kinds.Format x)))
archived_rises log (kinds.Write x) lawful next = omega (arith, ap archived (runs_push log (kinds.Write x)))
archived_rises log (kinds.Apply x) lawful next = omega (arith, ap archived (runs_push log (kinds.Apply x)))
archived_rises log (kinds.Undo x) lawful next = omega (arith, ap archived (runs_push log (kinds.Undo x)))
archived_rises log (kinds.Commit x) lawful next = omega (arith, ap archived (runs_push log (kinds.Commit x)))
archived_rises log (kinds.End x) lawful next = omega (arith, ap archived (runs_push log (kinds.End x)))
archived_rises log (kinds.Split x) lawful next = omega (arith, ap archived (runs_push log (kinds.Split x)))
archived_rises log (kinds.Adopt x) lawful next = omega (arith, ap archived (runs_push log (kinds.Adopt x)))
archived_rises log (kinds.Grow x) lawful next = omega (arith, ap archived (runs_push log (kinds.Grow x)))
archived_rises log (kinds.Purge x) lawful next = omega (arith, ap archived (runs_push log (kinds.Purge x)))
archived_rises log (kinds.Written x) lawful next = omega (arith, ap archived (runs_push log (kinds.Written x)))
archived_rises log (kinds.Checkpoint x) lawful next = omega (arith, ap archived (runs_push log (kinds.Checkpoint x)))
archived_rises log (kinds.BackupDone x) lawful next = omega (arith, ap archived (runs_push log (kinds.BackupDone x)))
archived_rises log (kinds.Lost x) lawful next = omega (arith, ap archived (runs_push log (kinds.Lost x)))
archived_rises log (kinds.Restored x) lawful next = omega (arith, ap archived (runs_push log (kinds.Restored x)))
