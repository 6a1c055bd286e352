-- How often transactions were begun, and how many of them are live.
use Rattle.std.proofs.Common.{◌≡◌, ◌≢◌, ℕ, suc, eqb, cond, ◌+◌, List, [], ◌∷◌, ◌++◌, length, Bool, true, false, refl, sym, ap, ◌∙◌, arith, length-append}
use Rattle.std.specs.Prelude.{◌&&◌, ◌||◌, filter}
use Rattle.std.specs.List.{list_any}
use Rattle.std.proofs.lemmas.Bool.{eqb-true}
use Rattle.std.proofs.lemmas.List.Elements.{filter-append}
use Rattle.wal_record.specs.History.{Phase, is_live, Beginning}
use Rattle.log_laws.proofs.Central.{differ}
use Rattle.phase_judge.specs.Phases.{times}

abbrev pub live_in : (ℕ → Phase) → List Beginning → ℕ
live_in phases bs = length (filter (λ (b : Beginning). is_live (phases b.tx)) bs)

one_or_none : (b : Beginning) (c : Bool) → length (cond c (b ∷ []) []) ≡ cond c 1 0
one_or_none b true = refl
one_or_none b false = refl

pub times_push : (t : ℕ) (bs : List Beginning) (b : Beginning) → times t (bs ++ b ∷ []) ≡ times t bs + cond (eqb b.tx t) 1 0
times_push t bs b =
    let test = λ (x : Beginning). eqb x.tx t in
    ap (λ (l : List Beginning). length l) (filter-append test bs (b ∷ [])) ∙ length-append (filter test bs) (filter test (b ∷ [])) ∙ ap (λ (n : ℕ). times t bs + n) (one_or_none b (eqb b.tx t))

pub live_push : (phases : ℕ → Phase) (bs : List Beginning) (b : Beginning) → live_in phases (bs ++ b ∷ []) ≡ live_in phases bs + cond (is_live (phases b.tx)) 1 0
live_push phases bs b =
    let test = λ (x : Beginning). is_live (phases x.tx) in
    ap (λ (l : List Beginning). length l) (filter-append test bs (b ∷ [])) ∙ length-append (filter test bs) (filter test (b ∷ [])) ∙ ap (λ (n : ℕ). live_in phases bs + n) (one_or_none b (is_live (phases b.tx)))

-- who wasn't begun has no owner
pub no_owner : (s t : ℕ) (bs : List Beginning) → times t bs ≡ 0 → list_any (λ (b : Beginning). eqb b.session s && eqb b.tx t) bs ≡ false
no_owner s t [] none = refl
no_owner s t (b ∷ bs) none = by (eqb b.tx t) none (no_owner s t bs)
  where
    by : (q : Bool) → length (cond q (b ∷ filter (λ (x : Beginning). eqb x.tx t) bs) (filter (λ (x : Beginning). eqb x.tx t) bs)) ≡ 0 → (times t bs ≡ 0 → list_any (λ (x : Beginning). eqb x.session s && eqb x.tx t) bs ≡ false)
        → ((eqb b.session s && q) || list_any (λ (x : Beginning). eqb x.session s && eqb x.tx t) bs) ≡ false
    by true none more = absurd (omega (arith, none))
    by false none more = both (eqb b.session s) (more none)
      where
        both : {x : Bool} (c : Bool) → x ≡ false → ((c && false) || x) ≡ false
        both true e = e
        both false e = e

both_more : (b : Beginning) (c : Bool) (xs ys : List Beginning) → length xs ≡ length ys → length (cond c (b ∷ xs) xs) ≡ length (cond c (b ∷ ys) ys)
both_more b true xs ys same = ap suc same
both_more b false xs ys same = same

module _ (old new : ℕ → Phase) (t : ℕ) (same : (x : ℕ) → x ≢ t → new x ≡ old x) where
  -- of a transaction that wasn't begun the phase is of no account
  pub live_apart : (bs : List Beginning) → times t bs ≡ 0 → live_in new bs ≡ live_in old bs
  live_apart [] none = refl
  live_apart (b ∷ bs) none = by (live_apart bs) (eqb b.tx t) refl none
    where
      by : (times t bs ≡ 0 → live_in new bs ≡ live_in old bs) → (q : Bool) → eqb b.tx t ≡ q → length (cond q (b ∷ filter (λ (x : Beginning). eqb x.tx t) bs) (filter (λ (x : Beginning). eqb x.tx t) bs)) ≡ 0 → live_in new (b ∷ bs) ≡ live_in old (b ∷ bs)
      by more true e none = absurd (omega (arith, none))
      by more false e none =
          ap (λ (p : Phase). length (cond (is_live p) (b ∷ filter (λ (x : Beginning). is_live (new x.tx)) bs) (filter (λ (x : Beginning). is_live (new x.tx)) bs))) (same b.tx (differ b.tx t e))
          ∙ both_more b (is_live (old b.tx)) _ _ (more none)

  -- a live one that is over was counted as often as it was begun
  pub live_over : is_live (old t) ≡ true → is_live (new t) ≡ false → (bs : List Beginning) → live_in old bs ≡ live_in new bs + times t bs
  live_over live over [] = refl
  live_over live over (b ∷ bs) = by (eqb b.tx t) refl (live_over live over bs)
    where
      olds : List Beginning
      olds = filter (λ (x : Beginning). is_live (old x.tx)) bs

      news : List Beginning
      news = filter (λ (x : Beginning). is_live (new x.tx)) bs

      own : List Beginning
      own = filter (λ (x : Beginning). eqb x.tx t) bs

      counts : (c : Bool) → length olds ≡ length news + length own → length (cond c (b ∷ olds) olds) ≡ length (cond c (b ∷ news) news) + length own
      counts true n = omega (arith, n)
      counts false n = n

      by : (q : Bool) → eqb b.tx t ≡ q → length olds ≡ length news + length own → length (cond (is_live (old b.tx)) (b ∷ olds) olds) ≡ length (cond (is_live (new b.tx)) (b ∷ news) news) + length (cond q (b ∷ own) own)
      by true e n =
          let here = eqb-true b.tx t e in
          let was : length (cond (is_live (old b.tx)) (b ∷ olds) olds) ≡ suc (length olds) = ap (λ (c : Bool). length (cond c (b ∷ olds) olds)) (ap (λ (x : ℕ). is_live (old x)) here ∙ live) in
          let is : length (cond (is_live (new b.tx)) (b ∷ news) news) ≡ length news = ap (λ (c : Bool). length (cond c (b ∷ news) news)) (ap (λ (x : ℕ). is_live (new x)) here ∙ over) in
          omega (arith, n, was, is)
      by false e n =
          ap (λ (p : Phase). length (cond (is_live (old b.tx)) (b ∷ olds) olds)) (same b.tx (differ b.tx t e))
          ∙ counts (is_live (old b.tx)) n
          ∙ ap (λ (p : Phase). length (cond (is_live p) (b ∷ news) news) + length own) (sym (same b.tx (differ b.tx t e)))

-- as many are live by phases that tell the same of each
pub live_same : (old new : ℕ → Phase) → ((x : ℕ) → is_live (new x) ≡ is_live (old x)) → (bs : List Beginning) → live_in new bs ≡ live_in old bs
live_same old new same [] = refl
live_same old new same (b ∷ bs) =
    ap (λ (c : Bool). length (cond c (b ∷ filter (λ (x : Beginning). is_live (new x.tx)) bs) (filter (λ (x : Beginning). is_live (new x.tx)) bs))) (same b.tx)
    ∙ both_more b (is_live (old b.tx)) _ _ (live_same old new same bs)
