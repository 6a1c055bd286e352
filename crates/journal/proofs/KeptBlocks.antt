-- The durable blocks of the log: with which LSN they begin, what joins them, and what goes.
use Rattle.std.proofs.Common.{◌≡◌, ℕ, cond, Bool, true, false, ◌<◌, ◌≤◌, List, [], ◌∷◌, ◌++◌, length, get_or, drop, refl, sym, ap, ◌∙◌, subst, arith, append-nil}
use Rattle.std.specs.Prelude.{Result, Ok, Err, OnOk, OnErr, map, min}
use Rattle.std.proofs.Math.Nat.{min-le_left, min-le_right}
use mathlib.Core.List.{IsPrefix}
use Rattle.log_blocks.specs.Log.{Block}
use Rattle.log_blocks.specs.LogState.{LogState, durable_lsn}
use Rattle.log_blocks.specs.declared.header.Place.{Place}
use Rattle.log_manager.specs.Managed.{before_lsn, first_kept}
use Rattle.page_ops.specs.declared.outcome.Found.TheVariants as founds
use Rattle.store_model.specs.declared.fault.Fault.{Fault}
use Rattle.wal_record.specs.Checkpoints.{recycle_point}
use Rattle.wal_record.specs.History.{life_log}
use Rattle.wal_record.specs.declared.analysis.Run.{Run}
use Rattle.wal_record.specs.declared.entry.Entry.{Entry}
use Rattle.wal_record.specs.declared.record.Record.{Record}
use Rattle.journal.specs.Lookups.{IsFoundBehind}
use Rattle.journal.specs.State.{BeginsWith, KeepsBlocks, Recycles}

-- ---- the first

module _ {D : Type 0} (log : LogState D) where
  abbrev first_with : List Place → ℕ
  first_with ps = get_or (map (λ (p : Place). p.first) ps ++ map (λ (b : Block). b.first) log.pending) 0 log.next

  pub begins_first : BeginsWith log.places (first_kept log)
  begins_first = by log.places
    where
      by : (ps : List Place) → BeginsWith ps (first_with ps)
      by [] = tt
      by (p ∷ ps) = refl

  pub run_behind : (lsn : ℕ) (run : Run) → lsn < first_kept log → IsFoundBehind log.places lsn (founds.Run run)
  run_behind lsn run = by log.places
    where
      by : (ps : List Place) → lsn < first_with ps → IsFoundBehind ps lsn (founds.Run run)
      by [] before = tt
      by (p ∷ ps) before = before

  pub record_behind : (lsn : ℕ) (r : Record) → first_kept log ≤ lsn → IsFoundBehind log.places lsn (founds.Record r)
  record_behind lsn r = by log.places
    where
      by : (ps : List Place) → first_with ps ≤ lsn → IsFoundBehind ps lsn (founds.Record r)
      by [] from = tt
      by (p ∷ ps) from = from

-- ---- those that stay

pub keeps_same : (opens : List Record → Type 0) (old new : List Place) → new ≡ old → KeepsBlocks opens old new
keeps_same opens old new is = subst (KeepsBlocks opens old) (sym is) (record { begins = ([], append-nil old); rises = λ opening stands. omega arith })

-- a flush, and then calls that leave them
pub keeps_flushed : (opens : List Record → Type 0) (old mid new : List Place) → mid ≡ old → IsPrefix mid new → ((opening : List Record) → opens opening → durable_lsn mid ≤ durable_lsn new) → KeepsBlocks opens old new
keeps_flushed opens old mid new is begins rises = subst (λ (ps : List Place). KeepsBlocks opens ps new) is (record { begins = begins; rises = rises })

least : (is_last : Bool) (lsn last : ℕ) → min lsn last ≤ cond is_last last lsn
least true lsn last = min-le_right lsn last
least false lsn last = min-le_left lsn last

pub reaches : (opening : List Record) (h seen : List Entry) → seen ≡ h → (lsn last upto durable : ℕ) (is_last : Bool) → upto ≡ cond is_last last lsn → last ≡ length (life_log opening h) → upto ≤ durable → min lsn (length (life_log opening seen)) ≤ durable
reaches opening h seen same lsn last upto durable is_last is all low =
    let one = least is_last lsn last in
    let whole = ap (λ (l : List Entry). length (life_log opening l)) same in
    omega (arith, one, is, all, low, whole)

-- ---- those that go

pub on_done : {A P : Type 0} (r : Result A Fault) (x : A) → r ≡ Ok x → P → OnOk r P
on_done {A} {P} r x is p = subst (λ (y : Result A Fault). OnOk y P) (sym is) p

pub on_failed : {A : Type 0} (P : Type 0) (r : Result A Fault) (fault : Fault) → r ≡ Err fault → OnOk r P
on_failed {A} P r fault is = subst (λ (y : Result A Fault). OnOk y P) (sym is) tt

module _ {A : Type 0} (opens : List Record → Type 0) (r : Result A Fault) where
  -- what is told of the log's own records and blocks, told of those that the pass has seen and of the journal's
  pub forgot : (h seen : List Entry) (was old new : List Place) → seen ≡ h → was ≡ old → (opening : List Record) → (length (life_log opening h) ≤ durable_lsn was → OnOk r (new ≡ drop (before_lsn (recycle_point (life_log opening h)) was) was))
      → length (life_log opening seen) ≤ durable_lsn old → OnOk r (new ≡ drop (before_lsn (recycle_point (life_log opening seen)) old) old)
  forgot h seen was old new same is opening left = subst (λ (z : List Entry × List Place). length (life_log opening z.0) ≤ durable_lsn z.1 → OnOk r (new ≡ drop (before_lsn (recycle_point (life_log opening z.0)) z.1) z.1)) (λ i. (sym same i, is i)) left

  -- behind a flush of all records
  module _ (old mid new : List Place) (keeps : KeepsBlocks opens old mid) where
    pub recycled : (h seen later : List Entry) → seen ≡ h → later ≡ h → (last : ℕ) → ((opening : List Record) → opens opening → last ≡ length (life_log opening h))
        → ((opening : List Record) → opens opening → min last (length (life_log opening seen)) ≤ durable_lsn mid)
        → ((opening : List Record) → opens opening → length (life_log opening later) ≤ durable_lsn mid → OnOk r (new ≡ drop (before_lsn (recycle_point (life_log opening later)) mid) mid))
        → ((opening : List Record) → opens opening → durable_lsn mid ≤ durable_lsn new) → OnOk r ((opening : List Record) → opens opening → Recycles (recycle_point (life_log opening later)) old new)
    recycled h seen later same still last is stable left rises = by r left
      where
        all : (opening : List Record) → opens opening → length (life_log opening later) ≤ durable_lsn mid
        all opening stands =
            let one = is opening stands in
            let two = stable opening stands in
            let three = ap (λ (l : List Entry). length (life_log opening l)) same in
            let four = ap (λ (l : List Entry). length (life_log opening l)) still in
            omega (arith, one, two, three, four)

        by : (x : Result A Fault) → ((opening : List Record) → opens opening → length (life_log opening later) ≤ durable_lsn mid → OnOk x (new ≡ drop (before_lsn (recycle_point (life_log opening later)) mid) mid)) → OnOk x ((opening : List Record) → opens opening → Recycles (recycle_point (life_log opening later)) old new)
        by (Err fault) left = tt
        by (Ok y) left = λ opening stands.
            let lower = keeps.rises opening stands in
            let higher = rises opening stands in
            record {
              more = keeps.begins.0;
              left = left opening stands (all opening stands) ∙ ap (λ (ps : List Place). drop (before_lsn (recycle_point (life_log opening later)) ps) ps) (sym keeps.begins.1);
              rises = omega (arith, lower, higher);
            }

    pub kept_refused : OnErr r (new ≡ mid) → OnErr r (KeepsBlocks opens old new)
    kept_refused = by r
      where
        by : (x : Result A Fault) → OnErr x (new ≡ mid) → OnErr x (KeepsBlocks opens old new)
        by (Ok y) same = tt
        by (Err fault) same = subst (KeepsBlocks opens old) (sym same) keeps
