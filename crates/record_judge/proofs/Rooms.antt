-- The room that a record takes.
use Rattle.std.proofs.Common.{◌≡◌, ℕ, zero, suc, eqb, cond, ◌+◌, ◌-◌, ◌<◌, ◌≤◌, List, [], ◌∷◌, ◌++◌, length, Bool, true, false, refl, sym, ap, ◌∙◌, arith, length-append}
use Rattle.std.specs.Prelude.{◌↔◌, IsTrue, min, nat_le}
use Rattle.std.proofs.lemmas.Bool.Decides.{nat_tests}
use Rattle.wal_record.specs.Chains.{pages, pages_step, tx_of}
use Rattle.wal_record.specs.Checkpoints.{limit_of}
use Rattle.wal_record.specs.OpenWrites.{open_step, open_writes, pending, without_last}
use Rattle.wal_record.specs.Sound.{RoomRule, is_undo, spare, used}
use Rattle.wal_record.specs.declared.record.Record.{Record}
use Rattle.wal_record.specs.declared.record.Record.TheVariants as kinds
use Rattle.wal_record.proofs.Pushes.{open_push, pages_push}
use Rattle.log_laws.proofs.Central.{eqb_self}
use Rattle.log_laws.proofs.Pending.{pending_change}
use Rattle.record_judge.specs.Rules.{added, freed}

-- ---- the limit

pub limit_more : (log : List Record) (r : Record) → 0 < length log → limit_of (log ++ r ∷ []) ≡ limit_of log
limit_more [] r lt = absurd (omega (arith, lt))
limit_more (kinds.Format f ∷ log) r lt = refl
limit_more (x ∷ log) r lt = refl

pub limit_first : (log : List Record) (r : Record) → length log ≡ 0 → limit_of (log ++ r ∷ []) ≡ limit_of (r ∷ [])
limit_first [] r e = refl
limit_first (x ∷ log) r e = absurd (omega (arith, e))

-- ---- the places in use

shorter : (ws : List Record) → length (without_last ws) + min (length ws) 1 ≡ length ws
shorter [] = refl
shorter (x ∷ []) = refl
shorter (x ∷ y ∷ ys) = let more = shorter (y ∷ ys) in omega (arith, more)

module _ (log : List Record) (r : Record) where
  -- n writes more are open, and m are open no more
  by_step : (n m k : ℕ) → length (open_step (tx_of r) r (open_writes log (tx_of r)) r) + m ≡ length (open_writes log (tx_of r)) + n → pages_step (pages log) r ≡ pages log + k
      → used (log ++ r ∷ []) + m ≡ pages log + pending log + n + k
  by_step n m k step page =
      let change = (pending_change log r).change in
      let is = ap length (open_push log r (tx_of r)) in
      let push = pages_push log r in
      omega (arith, change, is, push, step, page)

own_true : (n : ℕ) (xs ys : List Record) → length (cond (eqb n n) xs ys) ≡ length xs
own_true n xs ys = ap (λ (b : Bool). length (cond b xs ys)) (eqb_self n)

-- what is used behind a record
pub used_behind : (log : List Record) (r : Record) → used (log ++ r ∷ []) + freed (length (open_writes log (tx_of r))) r ≡ pages log + pending log + added r
used_behind log (kinds.Format f) = let u = by_step log (kinds.Format f) 0 0 1 (omega arith) (omega arith) in omega (arith, u)
used_behind log (kinds.Split s) = let u = by_step log (kinds.Split s) 0 0 1 (omega arith) (omega arith) in omega (arith, u)
used_behind log (kinds.Grow g) = let u = by_step log (kinds.Grow g) 0 0 1 (omega arith) (omega arith) in omega (arith, u)
used_behind log (kinds.Write w) =
    let ws = open_writes log w.tx in
    let u = by_step log (kinds.Write w) 1 0 0 (let s = own_true w.tx (ws ++ kinds.Write w ∷ []) ws in let l = length-append ws (kinds.Write w ∷ []) in omega (arith, s, l)) (omega arith) in omega (arith, u)
used_behind log (kinds.Apply a) =
    let ws = open_writes log a.tx in
    let u = by_step log (kinds.Apply a) 1 0 0 (let s = own_true a.tx (ws ++ kinds.Apply a ∷ []) ws in let l = length-append ws (kinds.Apply a ∷ []) in omega (arith, s, l)) (omega arith) in omega (arith, u)
used_behind log (kinds.Undo x) =
    let ws = open_writes log x.tx in
    let u = by_step log (kinds.Undo x) 0 (min (length ws) 1) 0 (let s = own_true x.tx (without_last ws) ws in let l = shorter ws in omega (arith, s, l)) (omega arith) in omega (arith, u)
used_behind log (kinds.Commit c) =
    let ws = open_writes log c.tx in
    let u = by_step log (kinds.Commit c) 0 (length ws) 0 (let s = own_true c.tx [] ws in omega (arith, s)) (omega arith) in omega (arith, u)
used_behind log (kinds.End e) =
    let ws = open_writes log e.tx in
    let u = by_step log (kinds.End e) 0 (length ws) 0 (let s = own_true e.tx [] ws in omega (arith, s)) (omega arith) in omega (arith, u)
used_behind log r = let u = by_step log r 0 0 0 (omega arith) (omega arith) in omega (arith, u)

-- no more places are given back than are in use by open writes
pub freed_few : (log : List Record) (r : Record) → freed (length (open_writes log (tx_of r))) r ≤ pending log + added r
freed_few log r = let u = used_behind log r in let push = pages_push log r in let p = page_more (pages log) r in omega (arith, u, push, p)
  where
    page_more : (n : ℕ) (r : Record) → n ≤ pages_step n r
    page_more n (kinds.Format f) = omega arith
    page_more n (kinds.Split s) = omega arith
    page_more n (kinds.Grow g) = omega arith
    page_more n r = omega arith

none_added : (n : ℕ) (r : Record) → 0 < freed n r → added r ≡ 0
none_added n (kinds.Undo u) lt = refl
none_added n (kinds.Commit c) lt = refl
none_added n (kinds.End e) lt = refl
none_added n r lt = absurd (omega (arith, lt))

pub fits_exact : (log : List Record) (r : Record) (b : Bool) (pages_then pending_then less more most : ℕ) → pages_then ≡ pages log → less ≡ pending_then - freed (length (open_writes log (tx_of r))) r → pending_then ≡ pending log → more ≡ added r
    → most ≡ limit_of (log ++ r ∷ []) + spare r → IsTrue b ↔ (pages_then + less + more ≤ most) → IsTrue b ↔ (used (log ++ r ∷ []) ≤ limit_of (log ++ r ∷ []) + spare r)
fits_exact log r b pages_then pending_then less more most p l q m k is =
    let u = used_behind log r in
    let few = freed_few log r in
    let none : (0 < freed (length (open_writes log (tx_of r))) r) → added r ≡ 0 = none_added (length (open_writes log (tx_of r))) r in
    let same : pages_then + less + more ≡ used (log ++ r ∷ []) = total (freed (length (open_writes log (tx_of r))) r) (added r) none u few p l q m in
    (λ t. let x = is.0 t in omega (arith, x, same, k), λ x. is.1 (omega (arith, x, same, k)))
  where
    total : (f a : ℕ) → (0 < f → a ≡ 0) → used (log ++ r ∷ []) + f ≡ pages log + pending log + a → f ≤ pending log + a → pages_then ≡ pages log → less ≡ pending_then - f → pending_then ≡ pending log → more ≡ a → pages_then + less + more ≡ used (log ++ r ∷ [])
    total zero a none u few p l q m = omega (arith, u, p, l, q, m)
    total (suc f) a none u few p l q m = let z = none (omega arith) in omega (arith, u, few, p, l, q, m, z)

pub room_exact : (log : List Record) (r : Record) (b : Bool) → (limit_of log < used log → IsTrue (is_undo r)) → IsTrue b ↔ (used (log ++ r ∷ []) ≤ limit_of (log ++ r ∷ []) + spare r) → IsTrue b ↔ RoomRule log r
room_exact log r b next is = (λ t. record { most = is.0 t; next = next }, λ rule. is.1 rule.most)

-- ---- whether there is room

pub back_exact : (u h : Bool) (n l : ℕ) → u ≡ false → IsTrue h ↔ (n ≤ l) → IsTrue h ↔ (l < n → IsTrue u)
back_exact u h n l none is = (
  λ t over. (let most = is.0 t in absurd (omega (arith, most, over))),
  λ next. is.1 (by (nat_le n l) refl next),
)
  where
    by : (b : Bool) → nat_le n l ≡ b → (l < n → IsTrue u) → n ≤ l
    by true e next = grind (arith, nat_tests, e)
    by false e next = (let over : l < n = grind (arith, nat_tests, e) in let both : true ≡ false = sym (next over) ∙ none in absurd (cc both))

pub back_by : (u : Bool) (n l : ℕ) → u ≡ true → IsTrue true ↔ (l < n → IsTrue u)
back_by u n l is = (λ t over. is, λ next. refl)

pub none_there : (log : List Record) (b : Bool) → IsTrue b ↔ (0 < length log) → b ≡ false → length log ≡ 0
none_there [] b is none = refl
none_there (x ∷ log) b is none = (let both : true ≡ false = sym (is.1 (omega arith)) ∙ none in absurd (cc both))
