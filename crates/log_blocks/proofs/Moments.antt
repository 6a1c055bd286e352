-- How runs of device calls follow each other.
use Rattle.std.proofs.Common.{inl, inr, ⊎_elim, ℕ, arith}
use Rattle.media.specs.Crash.{Elapses, LeavesOnly}

module _ {K D : Type 0} (moment : D → ℕ) (left_since : D → ℕ → K → Type 0) where
  -- before the first call
  pub started : (old : D) (P : K → Type 0) → ((c : K) → left_since old (moment old) c → P c) → LeavesOnly moment left_since old old P
  started old P here = record { later = omega arith; each = here; before = λ t c le left. inl left }

  -- one run and then another, both of which leave what has R
  pub joined : (old mid new : D) (P Q R : K → Type 0) → LeavesOnly moment left_since old mid P → LeavesOnly moment left_since mid new Q
      → ((c : K) → P c → R c) → ((c : K) → Q c → R c) → LeavesOnly moment left_since old new R
  joined old mid new P Q R first second p q = record {
    later = omega (arith, first.later, second.later);
    each = λ c left. ⊎_elim (λ early. p c (first.each c early)) (λ late. q c late) (second.before (moment old) c first.later left);
    before = λ t c le left. ⊎_elim (λ early. ⊎_elim (λ long. inl long) (λ had. inr (p c had)) (first.before t c le early)) (λ late. inr (q c late)) (second.before t c (omega (arith, le, first.later)) left);
  }

  -- what has P has R
  pub weaker : (old new : D) (P R : K → Type 0) → LeavesOnly moment left_since old new P → ((c : K) → P c → R c) → LeavesOnly moment left_since old new R
  weaker old new P R run p = record {
    later = run.later;
    each = λ c left. p c (run.each c left);
    before = λ t c le left. ⊎_elim (λ long. inl long) (λ had. inr (p c had)) (run.before t c le left);
  }

  -- one call more, after which a crash leaves what has P
  pub goes_on : (may_leave : D → K → Type 0) (old mid new : D) (P : K → Type 0) → LeavesOnly moment left_since old mid P → Elapses moment may_leave left_since mid new
      → ((c : K) → may_leave new c → P c) → LeavesOnly moment left_since old new P
  goes_on may_leave old mid new P so_far time here = record {
    later = omega (arith, so_far.later, time.later);
    each = λ c left. ⊎_elim (so_far.each c) (here c) (time.nothing_else (moment old) c so_far.later left);
    before = λ t c le left. ⊎_elim (so_far.before t c le) (λ now. inr (here c now)) (time.nothing_else t c (omega (arith, le, so_far.later)) left);
  }
