-- The last backup behind one record more.
use Rattle.std.proofs.Common.{◌≡◌, ℕ, suc, eqb, ◌+◌, ◌<◌, ◌≤◌, List, [], ◌∷◌, ◌++◌, Bool, true, false, refl, sym, ap, ◌∙◌, arith}
use Rattle.std.specs.Prelude.{◌↔◌, ◌||◌, ◌&&◌, IsTrue, not, nat_lt}
use Rattle.std.proofs.lemmas.Bool.{eqb-true}
use Rattle.store_model.proofs.Bools.{not_true, or_left, or_right}
use Rattle.std.specs.List.{list_any}
use Rattle.std.proofs.lemmas.Bool.Decides.{nat_tests}
use Rattle.std.proofs.lemmas.List.Folds.{list_any-append}
use Rattle.store_model.specs.Along.{along}
use Rattle.wal_record.specs.Upkeep.{backs_up, backup_number, last_backup}
use Rattle.wal_record.specs.declared.record.BackupDone.{BackupDone}
use Rattle.wal_record.specs.declared.record.Record.{Record}
use Rattle.wal_record.specs.declared.record.Record.TheVariants as kinds
use Rattle.wal_record.proofs.Along.{by_pushes}
use Rattle.wal_record.proofs.Pushes.{last_backup_push}
use Rattle.upkeep_judge.specs.Backups.{AreKept, IsFresh, is_segment}

or_none : (b : Bool) → (b || false) ≡ b
or_none true = refl
or_none false = refl

pub kept_none : AreKept [] 0 []
unfolding last_backup along
kept_none = record { last = refl; has = λ segment. refl }

any_push : (p : Record → Bool) (log : List Record) (r : Record) → list_any p (log ++ r ∷ []) ≡ (list_any p log || p r)
any_push p log r = list_any-append p log (r ∷ []) ∙ ap (λ (b : Bool). list_any p log || b) (or_none (p r))

push_segment : (segment s : ℕ) (ss : List ℕ) → list_any (is_segment segment) (ss ++ s ∷ []) ≡ (list_any (is_segment segment) ss || eqb s segment)
push_segment segment s ss = list_any-append (is_segment segment) ss (s ∷ []) ∙ ap (λ (b : Bool). list_any (is_segment segment) ss || b) (or_none (eqb s segment))

differ : (m n : ℕ) → m < n → eqb m n ≡ false
differ m n lt = grind (arith, nat_tests)

same : (n : ℕ) → eqb n n ≡ true
same n = grind (arith, nat_tests)

-- no record has a greater number than the last backup
above_one : (n segment : ℕ) (r : Record) → backup_number r < n → backs_up n segment r ≡ false
above_one n segment (kinds.BackupDone b) lt = ap (λ (c : Bool). c && eqb b.segment segment) (differ b.backup n lt)
above_one n segment r lt = refl

pub none_above : (n segment : ℕ) (log : List Record) → last_backup log < n → list_any (backs_up n segment) log ≡ false
none_above n segment log = by_pushes (λ (l : List Record). last_backup l < n → list_any (backs_up n segment) l ≡ false) (λ lt. refl) more log
  where
    more : (xs : List Record) (x : Record) → (last_backup xs < n → list_any (backs_up n segment) xs ≡ false) → last_backup (xs ++ x ∷ []) < n → list_any (backs_up n segment) (xs ++ x ∷ []) ≡ false
    more xs x before lt =
        let push = last_backup_push xs x in
        any_push (backs_up n segment) xs x
        ∙ ap (λ (b : Bool). b || backs_up n segment x) (before (omega (arith, lt, push)))
        ∙ above_one n segment x (omega (arith, lt, push))

module _ (log : List Record) (number : ℕ) (segments : List ℕ) (k : AreKept log number segments) where
  -- a backup goes on
  pub kept_on : (b : BackupDone) → b.backup ≡ number → AreKept (log ++ kinds.BackupDone b ∷ []) number (segments ++ b.segment ∷ [])
  kept_on b is = record {
    last = let push = last_backup_push log (kinds.BackupDone b) in let was = k.last in omega (arith, push, was, is);
    has = λ segment.
        push_segment segment b.segment segments
        ∙ ap (λ (c : Bool). c || eqb b.segment segment) (k.has segment)
        ∙ ap (λ (c : Bool). list_any (backs_up number segment) log || (c && eqb b.segment segment)) (sym (ap (λ (n : ℕ). eqb n number) is ∙ same number))
        ∙ sym (any_push (backs_up number segment) log (kinds.BackupDone b));
  }

  -- another one begins
  pub kept_next : (b : BackupDone) → number < b.backup → AreKept (log ++ kinds.BackupDone b ∷ []) b.backup (b.segment ∷ [])
  kept_next b lt = record {
    last = let push = last_backup_push log (kinds.BackupDone b) in let was = k.last in omega (arith, push, was, lt);
    has = λ segment.
        or_none (eqb b.segment segment)
        ∙ ap (λ (c : Bool). c && eqb b.segment segment) (sym (same b.backup))
        ∙ ap (λ (c : Bool). c || backs_up b.backup segment (kinds.BackupDone b)) (sym (none_above b.backup segment log (let was = k.last in omega (arith, was, lt))))
        ∙ sym (any_push (backs_up b.backup segment) log (kinds.BackupDone b));
  }

  -- a record of an older one, or of none
  older : (r : Record) → backup_number r ≤ number → ((segment : ℕ) → backs_up number segment r ≡ false) → AreKept (log ++ r ∷ []) number segments
  older r le none = record {
    last = let push = last_backup_push log r in let was = k.last in omega (arith, push, was, le);
    has = λ segment. k.has segment ∙ sym (any_push (backs_up number segment) log r ∙ ap (λ (c : Bool). list_any (backs_up number segment) log || c) (none segment) ∙ or_none (list_any (backs_up number segment) log));
  }

  pub kept_older : (b : BackupDone) → b.backup < number → AreKept (log ++ kinds.BackupDone b ∷ []) number segments
  kept_older b lt = older (kinds.BackupDone b) (omega (arith, lt)) (λ segment. ap (λ (c : Bool). c && eqb b.segment segment) (differ b.backup number lt))

  pub kept_other : (r : Record) → ((b : BackupDone) → r ≡ kinds.BackupDone b → ⊥) → AreKept (log ++ r ∷ []) number segments
  kept_other (kinds.BackupDone b) other = absurd (other b refl)
  kept_other r other = older r (omega arith) (λ segment. refl)

pub rest_below : (m n : ℕ) → (m ≡ n → ⊥) → (n < m → ⊥) → m < n
rest_below m n apart over = by (nat_lt m n) refl
  where
    by : (b : Bool) → nat_lt m n ≡ b → m < n
    by true is = grind (arith, nat_tests, is)
    by false is = at (eqb m n) refl
      where
        at : (d : Bool) → eqb m n ≡ d → m < n
        at true e = absurd (apart (eqb-true m n e))
        at false e = (let high : n < m = grind (arith, nat_tests, is, e) in absurd (over high))

-- ---- which backups may be told

module _ (log : List Record) (number : ℕ) (segments : List ℕ) (k : AreKept log number segments) (backup segment : ℕ) (b : Bool) where
  pub fresh_last : backup ≡ number → b ≡ not (list_any (is_segment segment) segments) → IsTrue b ↔ IsFresh log backup segment
  fresh_last is e =
      let same_any : list_any (is_segment segment) segments ≡ list_any (backs_up backup segment) log = k.has segment ∙ ap (λ (n : ℕ). list_any (backs_up n segment) log) (sym is) in
      let last : backup ≡ last_backup log = is ∙ k.last in (
        λ t. (sym same_any ∙ not_true (list_any (is_segment segment) segments) (sym e ∙ t), or_left (eqb backup (last_backup log)) (eqb backup (suc (last_backup log))) (ap (λ (n : ℕ). eqb n (last_backup log)) last ∙ same (last_backup log))),
        λ f. e ∙ ap not (same_any ∙ f.0),
      )

  pub fresh_next : (backup ≡ number → ⊥) → IsTrue b ↔ (backup ≡ number + 1) → IsTrue b ↔ IsFresh log backup segment
  fresh_next other e =
      let last = k.last in (
        λ t. (
          let next = e.0 t in none_above backup segment log (omega (arith, next, last)),
          let next = e.0 t in let is : backup ≡ suc (last_backup log) = omega (arith, next, last) in
              or_right (eqb backup (last_backup log)) (eqb backup (suc (last_backup log))) (ap (λ (n : ℕ). eqb n (suc (last_backup log))) is ∙ same (suc (last_backup log))),
        ),
        λ f. e.1 (by (eqb backup (last_backup log)) refl f.1),
      )
    where
      by : (c : Bool) → eqb backup (last_backup log) ≡ c → (c || eqb backup (suc (last_backup log))) ≡ true → backup ≡ number + 1
      by true is either = absurd (other (eqb-true backup (last_backup log) is ∙ sym k.last))
      by false is either = let next = eqb-true backup (suc (last_backup log)) either in let last = k.last in omega (arith, next, last)
