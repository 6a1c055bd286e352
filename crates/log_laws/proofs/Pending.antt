-- The number of open writes.
use Rattle.std.proofs.Common.{◌≡◌, ◌≢◌, ℕ, Bool, true, false, cond, eqb, List, [], ◌∷◌, ◌++◌, refl, sym, ap, subst, ◌∙◌, arith}
use Rattle.std.specs.Prelude.{zero, suc, ◌+◌, ◌-◌, ◌<◌, ◌≤◌, max, length}
use Rattle.std.proofs.Math.Nat.{le-max_left, le-max_right}
use Rattle.std.proofs.lemmas.Bool.{eqb-true}
use Rattle.std.proofs.lemmas.List.{length-append}
use Rattle.wal_record.specs.declared.record.Undo.{Undo}
use Rattle.wal_record.specs.declared.record.Record.{Record}
use Rattle.wal_record.specs.declared.record.Record.TheVariants as kinds
use Rattle.wal_record.specs.OpenWrites.{open_step, open_writes, without_last, sum_to, pending}
use Rattle.wal_record.specs.Chains.{greatest, tx_or_none, link_of}
use Rattle.wal_record.specs.Sound.{IsLawful}
use Rattle.wal_record.proofs.Pushes.{greatest_push, open_push}
use Rattle.log_laws.specs.Room.{PendingLaw, UndoRoomLaw}
use Rattle.log_laws.proofs.Central.{eqb_differ, eqb_self, differ, front_left}
use Rattle.log_laws.proofs.Serial.{none_open}

-- numbers above n add nothing
sum_wider : (f : ℕ → ℕ) (n k : ℕ) → ((t : ℕ) → n < t → f t ≡ 0) → sum_to f (k + n) ≡ sum_to f n
sum_wider f n zero none = ap (sum_to f) (let e : 0 + n ≡ n = omega arith in e)
sum_wider f n (suc k) none =
    let e : suc k + n ≡ suc (k + n) = omega arith in
    let z = none (suc (k + n)) (omega arith) in
    let s = sum_wider f n k none in
    ap (sum_to f) e ∙ (let g : sum_to f (k + n) + f (suc (k + n)) ≡ sum_to f n = omega (arith, z, s) in g)

sum_same : (f g : ℕ → ℕ) (n : ℕ) → ((t : ℕ) → t ≤ n → f t ≡ g t) → sum_to f n ≡ sum_to g n
sum_same f g zero h = h 0 (omega arith)
sum_same f g (suc n) h =
    let s = sum_same f g n (λ t l. h t (omega (arith, l))) in
    let e = h (suc n) (omega arith) in
    omega (arith, s, e)

-- a change at one number
sum_change : (f g : ℕ → ℕ) (x n : ℕ) → ((t : ℕ) → x ≢ t → f t ≡ g t) → x ≤ n → sum_to f n + g x ≡ sum_to g n + f x
sum_change f g x zero h l = by x (let e : 0 ≡ x = omega (arith, l) in e)
  where
    by : (x : ℕ) → 0 ≡ x → f 0 + g x ≡ g 0 + f x
    by x e = subst (λ (y : ℕ). f 0 + g y ≡ g 0 + f y) e (omega arith)
sum_change f g x (suc n) h l = at (sum_change f g x n h) (eqb x (suc n)) refl
  where
    at : (x ≤ n → sum_to f n + g x ≡ sum_to g n + f x) → (b : Bool) → eqb x (suc n) ≡ b → sum_to f n + f (suc n) + g x ≡ sum_to g n + g (suc n) + f x
    at more true e =
        let same : x ≡ suc n = eqb-true x (suc n) e in
        let s = sum_same f g n (λ t l. h t (λ (d : x ≡ t). let z : suc n ≡ t = sym same ∙ d in absurd (omega (arith, z, l)))) in
        subst (λ (y : ℕ). sum_to f n + f (suc n) + g y ≡ sum_to g n + g (suc n) + f y) (sym same) (omega (arith, s))
    at more false e =
        let d = differ x (suc n) e in
        let below : x ≤ n = omega (arith, l, d) in
        let m = more below in
        let k = h (suc n) d in
        omega (arith, m, k)

-- others' lists stay
elsewhere : (t : ℕ) (ws : List Record) (r : Record) → tx_or_none (link_of r) ≢ t → open_step t r ws r ≡ ws
elsewhere t ws (kinds.Write w) h = ap (λ (b : Bool). cond b (ws ++ kinds.Write w ∷ []) ws) (eqb_differ w.tx t h)
elsewhere t ws (kinds.Apply a) h = ap (λ (b : Bool). cond b (ws ++ kinds.Apply a ∷ []) ws) (eqb_differ a.tx t h)
elsewhere t ws (kinds.Undo u) h = ap (λ (b : Bool). cond b (without_last ws) ws) (eqb_differ u.tx t h)
elsewhere t ws (kinds.Commit c) h = ap (λ (b : Bool). cond b [] ws) (eqb_differ c.tx t h)
elsewhere t ws (kinds.End e) h = ap (λ (b : Bool). cond b [] ws) (eqb_differ e.tx t h)
elsewhere t ws _ h = refl

pub pending_change : (log : List Record) (r : Record) → PendingLaw log r
unfolding pending
pending_change log r = record { change = change }
  where
    x : ℕ
    x = tx_or_none (link_of r)

    before : ℕ → ℕ
    before t = length (open_writes log t)

    after : ℕ → ℕ
    after t = length (open_writes (log ++ r ∷ []) t)

    wide : sum_to before (max (greatest log) x) ≡ sum_to before (greatest log)
    wide = subst (λ (n : ℕ). sum_to before n ≡ sum_to before (greatest log)) apart (sum_wider before (greatest log) (max (greatest log) x - greatest log) (λ t h. ap length (none_open log t h)))
      where
        apart : (max (greatest log) x - greatest log) + greatest log ≡ max (greatest log) x
        apart = let l = le-max_left (greatest log) x in omega (arith, l)

    change : sum_to after (greatest (log ++ r ∷ [])) + before x ≡ sum_to before (greatest log) + after x
    change =
        ap (λ (n : ℕ). sum_to after n + before x) (greatest_push log r)
        ∙ sum_change after before x (max (greatest log) x) (λ t h. ap length (open_push log r t ∙ elsewhere t (open_writes log t) r h)) (le-max_right (greatest log) x)
        ∙ ap (λ (n : ℕ). n + after x) wide

pub undo_room : (log : List Record) (u : Undo) → UndoRoomLaw log u
undo_room log u = record { less = less }
  where
    less : IsLawful log (kinds.Undo u) → pending (log ++ kinds.Undo u ∷ []) + 1 ≡ pending log
    less lawful =
        let rule = lawful.value in
        let change = (pending_change log (kinds.Undo u)).change in
        let before : length (open_writes log u.tx) ≡ length rule.front + 1 = ap length rule.split ∙ length-append rule.front (rule.back ∷ []) in
        let after : length (open_writes (log ++ kinds.Undo u ∷ []) u.tx) ≡ length rule.front =
        ap length (open_push log (kinds.Undo u) u.tx ∙ front_left (open_writes log) u.tx rule.front rule.back rule.split u.tx ∙ ap (λ (b : Bool). cond b rule.front (open_writes log u.tx)) (eqb_self u.tx)) in
        omega (arith, change, before, after)
