-- A run more behind those that stand.
use Rattle.std.proofs.Common.{◌≡◌, ℕ, suc, ◌+◌, ◌-◌, ◌<◌, ◌≤◌, eqb, cond, Bool, true, false, List, [], ◌∷◌, ◌++◌, length, filter, Option, refl, sym, ap, ◌∙◌, arith, length-append}
use Rattle.std.specs.Prelude.{◌||◌, max, nat_lt, slice_get}
use Rattle.std.specs.Option.{option_map_or}
use Rattle.std.proofs.lemmas.Bool.Decides.{nat_tests}
use Rattle.state_codec.proofs.Rising.{last_push}
use Rattle.wal_record.specs.Checkpoints.{analysis_of}
use Rattle.wal_record.specs.Sound.{AreLawful, RunRule, is_merge_of, is_next_run}
use Rattle.wal_record.specs.Upkeep.{archived, in_range, last_run, standing_runs, with_run}
use Rattle.wal_record.specs.declared.analysis.Analysis.{Analysis}
use Rattle.wal_record.specs.declared.analysis.Run.{Run}
use Rattle.wal_record.specs.declared.record.Record.{Record}
use Rattle.wal_record.specs.declared.record.Record.TheVariants as kinds
use Rattle.wal_record.specs.declared.record.RunDone.{RunDone}
use Rattle.wal_record.proofs.Pushes.{last_run_push, runs_push}
use Rattle.listing_laws.proofs.Numbers.{AreRuns, runs_in}
use Rattle.listing_laws.proofs.Rising.{Each, each_more}
use Rattle.archiving.specs.Going.{ComesNext}
use Rattle.archiving.specs.declared.waiting.Waiting.{Waiting}

-- ---- the runs that stand end before the next one

place : (n : ℕ) → suc n - 1 ≡ n
place n = omega arith

end_step : (x y : Run) (ys : List Run) → archived (x ∷ y ∷ ys) ≡ archived (y ∷ ys)
end_step x y ys =
    ap (λ (i : ℕ). option_map_or (λ (z : Run). z.last) (slice_get (x ∷ y ∷ ys) i) 0) (place (suc (length ys)))
    ∙ ap (λ (i : ℕ). option_map_or (λ (z : Run). z.last) (slice_get (y ∷ ys) i) 0) (sym (place (length ys)))

all_below : (xs : List Run) → AreRuns xs → Each (λ (x : Run). (x.first ≤ archived xs) × (x.last ≤ archived xs)) xs
all_below [] runs = tt
all_below (x ∷ []) runs = let whole = runs.0.0 in ((omega (arith, whole), omega arith), tt)
all_below (x ∷ y ∷ ys) runs =
    let rest = all_below (y ∷ ys) runs.2 in
    let next = runs.1.0 in
    let whole = runs.0.0 in
    let one = runs.2.0.0 in
    let end = rest.0.1 in
    let e = end_step x y ys in (
      (omega (arith, next, whole, one, end, e), omega (arith, next, one, end, e)),
      each_more (λ (z : Run). (z.first ≤ archived (y ∷ ys)) × (z.last ≤ archived (y ∷ ys))) (λ (z : Run). (z.first ≤ archived (x ∷ y ∷ ys)) × (z.last ≤ archived (x ∷ y ∷ ys)))
          (λ z low. let a = low.0 in let b = low.1 in (omega (arith, a, e), omega (arith, b, e))) (y ∷ ys) rest,
    )

all_kept : (n : ℕ) (xs : List Run) → Each (λ (x : Run). x.last < n) xs → filter (λ (x : Run). nat_lt x.last n) xs ≡ xs
all_kept n [] low = refl
all_kept n (x ∷ xs) low =
    let here = low.0 in
    let is : nat_lt x.last n ≡ true = grind (arith, nat_tests, here) in
    ap (λ (b : Bool). cond b (x ∷ filter (λ (y : Run). nat_lt y.last n) xs) (filter (λ (y : Run). nat_lt y.last n) xs)) is ∙ ap (λ (ys : List Run). x ∷ ys) (all_kept n xs low.1)

none_kept : (n : ℕ) (xs : List Run) → Each (λ (x : Run). x.first ≤ n) xs → filter (λ (x : Run). nat_lt n x.first) xs ≡ []
none_kept n [] low = refl
none_kept n (x ∷ xs) low =
    let here = low.0 in
    let is : nat_lt n x.first ≡ false = grind (arith, nat_tests, here) in
    ap (λ (b : Bool). cond b (x ∷ filter (λ (y : Run). nat_lt n y.first) xs) (filter (λ (y : Run). nat_lt n y.first) xs)) is ∙ none_kept n xs low.1

abbrev run_of : RunDone → Run
run_of d = record { run = d.run; first = d.first; last = d.last }

with_next : (xs : List Run) (d : RunDone) → AreRuns xs → d.first ≡ suc (archived xs) → d.first ≤ d.last → with_run d xs ≡ xs ++ run_of d ∷ []
with_next xs d runs first order =
    let below = all_below xs runs in
    let low = all_kept d.first xs (each_more (λ (x : Run). (x.first ≤ archived xs) × (x.last ≤ archived xs)) (λ (x : Run). x.last < d.first) (λ x h. let l = h.1 in omega (arith, l, first)) xs below) in
    let high = none_kept d.last xs (each_more (λ (x : Run). (x.first ≤ archived xs) × (x.last ≤ archived xs)) (λ (x : Run). x.first ≤ d.last) (λ x h. let l = h.0 in omega (arith, l, first, order)) xs below) in
    (λ i. low i ++ run_of d ∷ high i)

archived_push : (xs : List Run) (x : Run) → archived (xs ++ x ∷ []) ≡ x.last
archived_push xs x = ap (λ (o : Option Run). option_map_or (λ (y : Run). y.last) o 0) (last_push xs x)

-- ---- the record of a run that comes next

number_next : (last run : ℕ) → run ≡ suc last → max last run ≡ run
number_next last run is = omega (arith, is)

module _ (log : List Record) (lawful : AreLawful log) (w : Waiting) (next : ComesNext log w) (last : ℕ) (order : w.first ≤ last) where
  abbrev done : RunDone
  done = record { run = w.run; first = w.first; last = last }

  stand : standing_runs (log ++ kinds.RunDone done ∷ []) ≡ standing_runs log ++ run_of done ∷ []
  stand = runs_push log (kinds.RunDone done) ∙ with_next (standing_runs log) done ((runs_in log lawful).0) next.first order

  count : length (standing_runs (log ++ kinds.RunDone done ∷ [])) ≡ w.stood + 1
  count = ap length stand ∙ length-append (standing_runs log) (run_of done ∷ []) ∙ ap (λ (n : ℕ). n + 1) (sym next.stood)

  pub comes_behind : (v : Waiting) → v.run ≡ w.run + 1 → v.first ≡ last + 1 → v.stood ≡ w.stood + 1 → ComesNext (log ++ kinds.RunDone done ∷ []) v
  comes_behind v run first stood =
      let number : last_run (log ++ kinds.RunDone done ∷ []) ≡ w.run = last_run_push log (kinds.RunDone done) ∙ number_next (last_run log) w.run next.run in
      let end : archived (standing_runs (log ++ kinds.RunDone done ∷ [])) ≡ last = ap archived stand ∙ archived_push (standing_runs log) (run_of done) in
      record {
        run = omega (arith, number, run);
        first = omega (arith, end, first);
        stood = stood ∙ sym count;
      }

  pub rule : last ≤ length log → w.stood < 1024 → RunRule log done
  rule ends room = record {
    covers = order;
    range = either (is_next_run (standing_runs log) done) (is_merge_of (filter (in_range done) (standing_runs log)) done) (is_same w.first (suc (archived (standing_runs log))) next.first);
    ends = ends;
    number = next.run;
    most = let c = count in omega (arith, c, room);
  }
    where
      either : (a b : Bool) → a ≡ true → (a || b) ≡ true
      either true b e = refl
      either false b e = absurd (cc e)

      is_same : (m n : ℕ) → m ≡ n → eqb m n ≡ true
      is_same m n e = grind (arith, nat_tests, e)

pub few_stand : (log : List Record) → AreLawful log → length (standing_runs log) ≤ 1024
few_stand log lawful = (runs_in log lawful).1

-- as a survey tells it
pub told_next : (log : List Record) (x : Analysis) (w : Waiting) → x ≡ analysis_of log → w.run ≡ x.next_run → w.first ≡ archived x.runs + 1 → w.stood ≡ length x.runs → ComesNext log w
unfolding analysis_of
told_next log x w is run first stood =
    let runs : x.runs ≡ standing_runs log = ap (λ (a : Analysis). a.runs) is in
    let end : archived x.runs ≡ archived (standing_runs log) = ap archived runs in
    record {
      run = run ∙ ap (λ (a : Analysis). a.next_run) is;
      first = omega (arith, first, end);
      stood = stood ∙ ap (λ (rs : List Run). length rs) runs;
    }
