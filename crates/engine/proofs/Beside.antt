-- Entries beside a request's own, and losers in the way of its lock.
use Rattle.std.proofs.Common.{◌≡◌, ℕ, eqb, Bool, true, List, [], ◌∷◌, ◌++◌, refl, sym, subst}
use Rattle.std.specs.List.{list_all, list_any}
use mathlib.Core.List.{IsPrefix}
use Rattle.store_model.proofs.Bools.{both_true, and_true, or_left, or_right}
use Rattle.wal_record.specs.History.{log_of}
use Rattle.wal_record.specs.Legal.{IsLegal}
use Rattle.wal_record.specs.Locks.{Held, conflict, locks}
use Rattle.wal_record.specs.Sound.{IsLawful}
use Rattle.wal_record.specs.declared.record.Record.{Record}
use Rattle.wal_record.specs.declared.record.Record.TheVariants as kinds
use Rattle.wal_record.specs.declared.entry.Entry.{Entry}
use Rattle.wal_record.specs.declared.entry.Entry.TheVariants as entries
use Rattle.wal_record.proofs.Along.{AllAlong_less}
use Rattle.claim_laws.proofs.Losers.{loser_law}
use Rattle.page_ops.specs.Seeing.{IsConsistent, is_upkeep}
use Rattle.rollback.specs.Endings.{rolls_over}
use Rattle.engine.specs.Beside.{IsInWay, is_beside, is_one_of}

-- ---- kinds

pub all_both : (f : Entry → Bool) (xs ys : List Entry) → list_all f xs ≡ true → list_all f ys ≡ true → list_all f (xs ++ ys) ≡ true
all_both f [] ys h k = k
all_both f (x ∷ xs) ys h k = let both = both_true (f x) (list_all f xs) h in and_true (f x) (list_all f (xs ++ ys)) both.0 (all_both f xs ys both.1 k)

pub all_by : (f g : Entry → Bool) → ((e : Entry) → f e ≡ true → g e ≡ true) → (es : List Entry) → list_all f es ≡ true → list_all g es ≡ true
all_by f g each [] h = refl
all_by f g each (e ∷ es) h = let both = both_true (f e) (list_all f es) h in and_true (g e) (list_all g es) (each e both.0) (all_by f g each es both.1)

-- one loser more
more : (t : ℕ) (losers : List ℕ) (e : Entry) → is_beside losers e ≡ true → is_beside (t ∷ losers) e ≡ true
more t losers (entries.Rec lsn (kinds.Undo u)) h = or_right (eqb u.tx t) (is_one_of losers u.tx) h
more t losers (entries.Rec lsn (kinds.End e)) h = or_right (eqb e.tx t) (is_one_of losers e.tx) h
more t losers (entries.Rec lsn (kinds.Split s)) h = refl
more t losers (entries.Rec lsn (kinds.Grow g)) h = refl
more t losers (entries.Rec lsn (kinds.Adopt a)) h = refl
more t losers (entries.Rec lsn (kinds.Purge g)) h = refl
more t losers _ h = h

pub one_more : (t : ℕ) (losers : List ℕ) (es : List Entry) → list_all (is_beside losers) es ≡ true → list_all (is_beside (t ∷ losers)) es ≡ true
one_more t losers es h = all_by (is_beside losers) (is_beside (t ∷ losers)) (more t losers) es h

-- what undoing a loser enters
undone : (t : ℕ) (losers : List ℕ) (e : Entry) → rolls_over t e ≡ true → is_beside (t ∷ losers) e ≡ true
undone t losers (entries.Rec lsn (kinds.Undo u)) h = or_left (eqb u.tx t) (is_one_of losers u.tx) h
undone t losers (entries.Rec lsn (kinds.End e)) h = or_left (eqb e.tx t) (is_one_of losers e.tx) h
undone t losers (entries.Rec lsn (kinds.Split s)) h = refl
undone t losers (entries.Rec lsn (kinds.Grow g)) h = refl
undone t losers (entries.Rec lsn (kinds.Adopt a)) h = refl
undone t losers (entries.Rec lsn (kinds.Purge g)) h = refl
undone t losers _ h = h

pub undoing : (t : ℕ) (losers : List ℕ) (es : List Entry) → list_all (rolls_over t) es ≡ true → list_all (is_beside (t ∷ losers)) es ≡ true
undoing t losers es h = all_by (rolls_over t) (is_beside (t ∷ losers)) (undone t losers) es h

up : (e : Entry) → is_upkeep e ≡ true → is_beside [] e ≡ true
up (entries.Rec lsn (kinds.Undo u)) h = absurd (cc h)
up (entries.Rec lsn (kinds.End e)) h = absurd (cc h)
up (entries.Rec lsn (kinds.Split s)) h = refl
up (entries.Rec lsn (kinds.Grow g)) h = refl
up (entries.Rec lsn (kinds.Adopt a)) h = refl
up (entries.Rec lsn (kinds.Purge g)) h = refl
up _ h = h

pub kept_up : (es : List Entry) → list_all is_upkeep es ≡ true → list_all (is_beside []) es ≡ true
kept_up es h = all_by is_upkeep (is_beside []) up es h

-- ---- losers

-- a loser that is in the way at a moment was so before
pub in_way_before : (opens : List Record → Type 0) (h h' : List Entry) (lock : Held) (t : ℕ) → IsPrefix h h' → IsConsistent opens h' → ((opening : List Record) → opens opening → IsInWay opening h' lock t) → (opening : List Record) → opens opening → IsInWay opening h lock t
in_way_before opens h h' lock t longer consistent way opening stands =
    let is = way opening stands in
    let lawful = AllAlong_less IsLawful opening (log_of h') (consistent.sound opening stands).lawful in
    record {
      loser = is.loser;
      holds = (loser_law opening h longer.0 t).unlocks lawful (subst (IsLegal opening) (sym longer.1) (consistent.legal opening stands)) is.loser (conflict lock)
          (subst (λ (l : List Entry). list_any (conflict lock) (locks opening l t) ≡ true) (sym longer.1) is.holds);
    }
