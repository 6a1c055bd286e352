-- What runs that are gone through cover.
use Rattle.std.proofs.Common.{◌≡◌, ℕ, zero, suc, eqb, ◌+◌, ◌-◌, ◌<◌, ◌≤◌, cond, List, [], ◌∷◌, ◌++◌, length, take, get_or, Option, Some, Bool, true, false, refl, sym, ap, subst, ◌∙◌, arith, length-append, append-nil}
use Rattle.std.specs.Prelude.{filter, slice_get, nat_le, ◌&&◌, ◌||◌, IsTrue}
use Rattle.std.specs.Option.{option_map_or}
use Rattle.std.proofs.lemmas.Bool.Decides.{nat_tests}
use Rattle.std.proofs.lemmas.List.Elements.{filter_more}
use Rattle.std.proofs.lemmas.List.Filters.{length-filter_more}
use Rattle.wal_record.specs.Sound.{RunRule, is_merge_of, is_next_run}
use Rattle.wal_record.specs.Upkeep.{archived, in_range, last_run, standing_runs, with_run}
use Rattle.wal_record.specs.declared.analysis.Run.{Run}
use Rattle.wal_record.specs.declared.record.RunDone.{RunDone}
use Rattle.wal_record.specs.declared.record.Record.{Record}
use Rattle.wal_record.specs.declared.record.Record.TheVariants as kinds
use Rattle.wal_record.proofs.Pushes.{runs_push}
use Rattle.upkeep_judge.specs.Runs.{IsSpan, begins_with, is_above, is_below}
use Rattle.upkeep_judge.specs.declared.runs.Span.{Span}

pub span_none : (x : Span) → x ≡ record { count = 0; first = 0; last = 0 } → IsSpan [] x
span_none x e = record { count = ap (λ (y : Span). y.count) e; first = ap (λ (y : Span). y.first) e; last = ap (λ (y : Span). y.last) e }

get_end : (xs : List Run) (x : Run) → slice_get (xs ++ x ∷ []) (length xs) ≡ Some x
get_end [] x = refl
get_end (y ∷ xs) x = get_end xs x

archived_push : (xs : List Run) (x : Run) → archived (xs ++ x ∷ []) ≡ x.last
archived_push xs x =
    let e : length (xs ++ x ∷ []) - 1 ≡ length xs = let l = length-append xs (x ∷ []) in omega (arith, l) in
    ap (λ (o : Option Run). option_map_or (λ (y : Run). y.last) o 0) (ap (slice_get (xs ++ x ∷ [])) e ∙ get_end xs x)

begins_push : (xs : List Run) (x : Run) → begins_with (xs ++ x ∷ []) ≡ cond (eqb (length xs) 0) x.first (begins_with xs)
begins_push [] x = refl
begins_push (y ∷ xs) x = let some : eqb (suc (length xs)) 0 ≡ false = grind (arith, nat_tests) in sym (ap (λ (b : Bool). cond b x.first y.first) some)

pub span_push : (xs : List Run) (x : Run) (old new : Span) → IsSpan xs old → new ≡ record { count = old.count + 1; first = cond (eqb old.count 0) x.first old.first; last = x.last } → IsSpan (xs ++ x ∷ []) new
span_push xs x old new k e = record {
  count = let n = ap (λ (y : Span). y.count) e in let c = k.count in let l = length-append xs (x ∷ []) in omega (arith, n, c, l);
  first = ap (λ (y : Span). y.first) e ∙ ap (λ (n : ℕ). cond (eqb n 0) x.first old.first) k.count ∙ ap (cond (eqb (length xs) 0) x.first) k.first ∙ sym (begins_push xs x);
  last = ap (λ (y : Span). y.last) e ∙ sym (archived_push xs x);
}

take_none : (xs : List Run) → take 0 xs ≡ []
take_none [] = refl
take_none (x ∷ xs) = refl

take_all : (xs : List Run) (n : ℕ) → length xs ≤ n → take n xs ≡ xs
take_all [] zero h = refl
take_all [] (suc n) h = refl
take_all (x ∷ xs) zero h = absurd (omega (arith, h))
take_all (x ∷ xs) (suc n) h = ap (λ (ys : List Run). x ∷ ys) (take_all xs n (omega (arith, h)))

module _ (p : Run → Bool) (xs : List Run) where
  pub span_begins : (x : Span) → x ≡ record { count = 0; first = 0; last = 0 } → IsSpan (filter p (take 0 xs)) x
  span_begins x e = subst (λ (ys : List Run). IsSpan (filter p ys) x) (sym (take_none xs)) (span_none x e)

  pub span_ends : (i : ℕ) (x : Span) → length xs ≤ i → IsSpan (filter p (take i xs)) x → IsSpan (filter p xs) x
  span_ends i x le k = subst (λ (ys : List Run). IsSpan (filter p ys) x) (take_all xs i le) k

  pub span_more : (i : ℕ) (d : Run) (old new : Span) → i < length xs → IsSpan (filter p (take i xs)) old
      → (p (get_or xs i d) ≡ true → new ≡ record { count = old.count + 1; first = cond (eqb old.count 0) (get_or xs i d).first old.first; last = (get_or xs i d).last }) → (p (get_or xs i d) ≡ false → new ≡ old) → IsSpan (filter p (take (i + 1) xs)) new
  span_more i d old new lt k inside outside = by (p (get_or xs i d)) refl
    where
      by : (b : Bool) → p (get_or xs i d) ≡ b → IsSpan (filter p (take (i + 1) xs)) new
      by true is =
          subst (λ (ys : List Run). IsSpan ys new) (sym (filter_more p xs i d lt ∙ ap (λ (b : Bool). filter p (take i xs) ++ cond b (get_or xs i d ∷ []) []) is)) (span_push (filter p (take i xs)) (get_or xs i d) old new k (inside is))
      by false is =
          subst (λ (ys : List Run). IsSpan ys new) (sym (filter_more p xs i d lt ∙ ap (λ (b : Bool). filter p (take i xs) ++ cond b (get_or xs i d ∷ []) []) is ∙ append-nil (filter p (take i xs))))
          (subst (IsSpan (filter p (take i xs))) (sym (outside is)) k)

  pub span_few : (i : ℕ) (d : Run) (old new : Span) → old.count ≤ i
      → (p (get_or xs i d) ≡ true → new ≡ record { count = old.count + 1; first = cond (eqb old.count 0) (get_or xs i d).first old.first; last = (get_or xs i d).last }) → (p (get_or xs i d) ≡ false → new ≡ old) → new.count ≤ i + 1
  span_few i d old new few inside outside = by (p (get_or xs i d)) refl
    where
      by : (b : Bool) → p (get_or xs i d) ≡ b → new.count ≤ i + 1
      by true is = let n = ap (λ (y : Span). y.count) (inside is) in omega (arith, n, few)
      by false is = let n = ap (λ (y : Span). y.count) (outside is) in omega (arith, n, few)

  pub count_begins : (n : ℕ) → n ≡ 0 → n ≡ length (filter p (take 0 xs))
  count_begins n e = e ∙ sym (ap (λ (ys : List Run). length (filter p ys)) (take_none xs))

  pub count_ends : (i n : ℕ) → length xs ≤ i → n ≡ length (filter p (take i xs)) → n ≡ length (filter p xs)
  count_ends i n le k = k ∙ ap (λ (ys : List Run). length (filter p ys)) (take_all xs i le)

  pub count_goes : (i : ℕ) (d : Run) (old new : ℕ) → i < length xs → old ≡ length (filter p (take i xs)) → new ≡ old + cond (p (get_or xs i d)) 1 0 → new ≡ length (filter p (take (i + 1) xs))
  count_goes i d old new lt k e = e ∙ ap (λ (n : ℕ). n + cond (p (get_or xs i d)) 1 0) k ∙ sym (length-filter_more p xs i d lt)

pub count_few : (n i m : ℕ) (b : Bool) → n ≤ i → m ≡ n + cond b 1 0 → m ≤ i + 1
count_few n i m true few e = omega (arith, few, e)
count_few n i m false few e = omega (arith, few, e)

-- ---- what a new run makes of them

pub merge_is : (xs : List Run) (d : RunDone) (x : Span) → IsSpan xs x → is_merge_of xs d ≡ (nat_le 2 x.count && (eqb d.first x.first && eqb d.last x.last))
merge_is [] d x k = sym (ap (λ (n : ℕ). nat_le 2 n && (eqb d.first x.first && eqb d.last x.last)) k.count)
merge_is (r ∷ []) d x k = sym (ap (λ (n : ℕ). nat_le 2 n && (eqb d.first x.first && eqb d.last x.last)) k.count)
merge_is (r ∷ q ∷ xs) d x k =
    let two : nat_le 2 x.count ≡ true = let c = k.count in grind (arith, nat_tests, c) in
    sym (ap (λ (b : Bool). b && (eqb d.first x.first && eqb d.last x.last)) two ∙ ap (λ (n : ℕ). eqb d.first n && eqb d.last x.last) k.first ∙ ap (λ (n : ℕ). eqb d.first r.first && eqb d.last n) k.last)

pub behind_length : (log : List Record) (runs : List Run) (d : RunDone) → runs ≡ standing_runs log → length (standing_runs (log ++ kinds.RunDone d ∷ [])) ≡ length (filter (is_below d.first) runs) + suc (length (filter (is_above d.last) runs))
behind_length log runs d is =
    ap length (runs_push log (kinds.RunDone d) ∙ ap (with_run d) (sym is))
    ∙ length-append (filter (is_below d.first) runs) (record { run = d.run; first = d.first; last = d.last } ∷ filter (is_above d.last) runs)

-- ---- the whole rule

module _ (log : List Record) (runs : List Run) (last next : ℕ) (d : RunDone) (is : runs ≡ standing_runs log) (end : last ≡ length log) (number : next ≡ suc (last_run log)) where
  abbrev Joins : Type 0
  Joins = ((d.first ≤ d.last) × (d.last ≤ last)) × (IsTrue (is_next_run runs d || is_merge_of (filter (in_range d) runs) d) × (length (standing_runs (log ++ kinds.RunDone d ∷ [])) ≤ 1024))

  pub rule_by : d.run ≡ next → Joins → RunRule log d
  rule_by run j = record {
    covers = j.0.0;
    range = subst (λ (rs : List Run). IsTrue (is_next_run rs d || is_merge_of (filter (in_range d) rs) d)) is j.1.0;
    ends = subst (λ (n : ℕ). d.last ≤ n) end j.0.1;
    number = run ∙ number;
    most = j.1.1;
  }

  pub rule_of : RunRule log d → (d.run ≡ next) × Joins
  rule_of r = (
    r.number ∙ sym number,
    ((r.covers, subst (λ (n : ℕ). d.last ≤ n) (sym end) r.ends), (subst (λ (rs : List Run). IsTrue (is_next_run rs d || is_merge_of (filter (in_range d) rs) d)) (sym is) r.range, r.most)),
  )
