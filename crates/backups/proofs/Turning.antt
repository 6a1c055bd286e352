-- A backup goes on, segment by segment.
use Rattle.std.proofs.Common.{◌≡◌, ℕ, suc, ◌+◌, ◌<◌, eqb, Bool, true, false, List, [], ◌∷◌, ◌++◌, refl, sym, ap, subst, ◌∙◌, arith}
use Rattle.std.specs.Prelude.{IsTrue, IfOk, Result, Ok, Err, max, ◌||◌, ◌&&◌, ◌==◌}
use Rattle.std.specs.List.{list_any}
use Rattle.std.proofs.lemmas.Bool.Decides.{nat_tests}
use Rattle.std.proofs.lemmas.List.Folds.{list_any-append}
use mathlib.Core.List.{IsPrefix}
use Rattle.front.proofs.Keeping.{prefix_trans}
use Rattle.wal_record.specs.Books.{maintenance_book}
use Rattle.wal_record.specs.Checkpoints.{analysis_of}
use Rattle.wal_record.specs.History.{life_log}
use Rattle.wal_record.specs.Legal.{IsLegal}
use Rattle.wal_record.specs.Upkeep.{backs_up, backup_number, last_backup}
use Rattle.wal_record.specs.declared.analysis.Analysis.{Analysis}
use Rattle.wal_record.specs.declared.record.BackupDone.{BackupDone}
use Rattle.wal_record.specs.declared.record.Record.{Record}
use Rattle.wal_record.specs.declared.record.Record.TheVariants as kinds
use Rattle.wal_record.specs.declared.entry.Entry.{Entry}
use Rattle.wal_record.specs.declared.entry.Entry.TheVariants.{Rec}
use Rattle.wal_record.proofs.Along.{AllAlong_less, by_pushes}
use Rattle.wal_record.proofs.Pushes.{last_backup_push, log_more, maintenance_push}
use Rattle.wal_record.specs.Legal.{IsAllowed}
use Rattle.claim_laws.proofs.Upkeep.{books_law, maintenance_law}
use Rattle.page_ops.specs.Names.{LedgerName}
use Rattle.page_ops.specs.Seeing.{IsConsistent, Known}
use Rattle.store_model.specs.declared.fault.Fault.{Fault}
use Rattle.named_objects.specs.Drafts.{NamesOne, WasNamed}
use Rattle.named_objects.specs.declared.naming.Naming.TheVariants as namings
use Rattle.backups.specs.Going.{GoesOn, MayGoOn}

-- ---- a new number

is_other : (m n : ℕ) → m < n → eqb m n ≡ false
is_other m n lt = grind (arith, nat_tests)

below : (n segment : ℕ) (r : Record) → backup_number r < n → backs_up n segment r ≡ false
below n segment (kinds.BackupDone b) lt = ap (λ (t : Bool). t && eqb b.segment segment) (is_other b.backup n lt)
below n segment _ lt = refl

any_push : (f : Record → Bool) (log : List Record) (r : Record) → list_any f (log ++ r ∷ []) ≡ (list_any f log || f r)
any_push f log r = list_any-append f log (r ∷ []) ∙ ap (λ (b : Bool). list_any f log || b) (last (f r))
  where
    last : (b : Bool) → (b || false) ≡ b
    last true = refl
    last false = refl

-- no record has a greater number than the last backup
none_above : (n segment : ℕ) (log : List Record) → last_backup log < n → list_any (backs_up n segment) log ≡ false
none_above n segment = by_pushes (λ (log : List Record). last_backup log < n → list_any (backs_up n segment) log ≡ false) (λ lt. refl)
    (λ log r before lt.
    let push = last_backup_push log r in
    any_push (backs_up n segment) log r ∙ ap (λ (b : Bool). b || backs_up n segment r) (before (omega (arith, lt, push))) ∙ below n segment r (omega (arith, lt, push)))

is_same : (m n : ℕ) → m ≡ n → (m == n) ≡ true
is_same m n e = grind (arith, nat_tests)

either : (a b : Bool) → b ≡ true → (a || b) ≡ true
either true b e = refl
either false b e = e

-- the one above the last backup has none of its segments
pub starts : (log : List Record) (n : ℕ) → n ≡ last_backup log + 1 → GoesOn log n 0
starts log n is = record {
  number = either (n == last_backup log) (n == suc (last_backup log)) (is_same n (suc (last_backup log)) (omega (arith, is)));
  fresh = λ s low. none_above n s log (omega (arith, is));
}

-- as a survey tells it
pub next_is : (opens : List Record → Type 0) (h : List Entry) (x : Analysis) → ((opening : List Record) → opens opening → x ≡ analysis_of (life_log opening h)) → (opening : List Record) → opens opening → x.next_backup ≡ last_backup (life_log opening h) + 1
unfolding analysis_of
next_is opens h x is opening stands = let e = ap (λ (a : Analysis). a.next_backup) (is opening stands) in omega (arith, e)

-- ---- at a later moment

module _ (opens : List Record → Type 0) (since backup segment : ℕ) (h now : List Entry) (m : MayGoOn opens since backup segment h) (begins : IsPrefix h now) (at : maintenance_book now ≡ since) where
  -- while no object was named since
  pub goes_on : (opening : List Record) → opens opening → IsLegal opening now → GoesOn (life_log opening now) backup segment
  goes_on opening stands legal =
      let all = prefix_trans m.moment h now m.begins begins in
      let more = all.0 in
      let whole = subst (IsLegal opening) (sym all.1) legal in
      let rises = (books_law opening m.moment more).maintenance whole in
      let e = ap maintenance_book all.1 in
      let low = m.low opening stands in
      let same : maintenance_book (m.moment ++ more) ≡ maintenance_book m.moment = omega (arith, rises, e, at, low) in
      let law = maintenance_law opening m.moment more in
      let g = m.goes_on opening stands in
      subst (λ (l : List Entry). GoesOn (life_log opening l) backup segment) all.1 (record {
        number = subst (λ (n : ℕ). IsTrue ((backup == n) || (backup == suc n))) (sym (law.backup whole same)) g.number;
        fresh = λ s up. law.backed whole same backup s ∙ g.fresh s up;
      })

-- ---- behind a segment that is done

next_number : (last backup : ℕ) → ((backup == last) || (backup == suc last)) ≡ true → max last backup ≡ backup
next_number last backup rule = grind (arith, nat_tests)

not_this : (b : BackupDone) (backup s : ℕ) → b.segment < s → backs_up backup s (kinds.BackupDone b) ≡ false
not_this b backup s lt = and_false (b.backup == backup) (eqb b.segment s) (is_other b.segment s lt)
  where
    and_false : (a c : Bool) → c ≡ false → (a && c) ≡ false
    and_false true c e = e
    and_false false c e = refl

one_done : (log : List Record) (backup segment : ℕ) (b : BackupDone) → b.backup ≡ backup → b.segment ≡ segment → GoesOn log backup segment → GoesOn (log ++ kinds.BackupDone b ∷ []) backup (segment + 1)
one_done log backup segment b is part g =
    let push = last_backup_push log (kinds.BackupDone b) in
    let last : last_backup (log ++ kinds.BackupDone b ∷ []) ≡ backup = push ∙ ap (λ (n : ℕ). max (last_backup log) n) is ∙ next_number (last_backup log) backup g.number in
    record {
      number = left (backup == last_backup (log ++ kinds.BackupDone b ∷ [])) (backup == suc (last_backup (log ++ kinds.BackupDone b ∷ []))) (is_same backup (last_backup (log ++ kinds.BackupDone b ∷ [])) (sym last));
      fresh = λ s up. any_push (backs_up backup s) log (kinds.BackupDone b) ∙ ap (λ (t : Bool). t || backs_up backup s (kinds.BackupDone b)) (g.fresh s (omega (arith, up))) ∙ not_this b backup s (omega (arith, up, part));
    }
  where
    left : (a b : Bool) → a ≡ true → (a || b) ≡ true
    left true b e = refl
    left false b e = absurd cc

pub next_goes : (opens : List Record → Type 0) (since lsn backup segment : ℕ) (b : BackupDone) (h seen now : List Entry) → b.backup ≡ backup → b.segment ≡ segment → MayGoOn opens since backup segment h → IsPrefix h seen → IsConsistent opens now
    → WasNamed since lsn (namings.Backup b) seen now → MayGoOn opens lsn backup (segment + 1) now
next_goes opens since lsn backup segment b h seen now is part m begins consistent w =
    let entry = Rec lsn (kinds.BackupDone b) in
    let behind : List Entry = w.moment ++ entry ∷ [] in
    let book = maintenance_push w.moment entry in
    record {
      moment = behind;
      begins = w.goes;
      low = λ opening stands. omega (arith, book);
      goes_on = λ opening stands.
          let whole = subst (IsLegal opening) (sym w.goes.1) (consistent.legal opening stands) in
          let front = AllAlong_less (IsAllowed opening) behind w.goes.0 whole in
          let legal = AllAlong_less (IsAllowed opening) w.moment (entry ∷ []) front in
          let g = goes_on opens since backup segment h w.moment m (prefix_trans h seen w.moment begins w.begins) w.at opening stands legal in
          subst (λ (l : List Record). GoesOn l backup (segment + 1)) (sym (log_more opening w.moment lsn (kinds.BackupDone b))) (one_done (life_log opening w.moment) backup segment b is part g);
    }

-- whatever becomes of it
pub next_or : (opens : List Record → Type 0) (entries sessions : LedgerName) (since backup segment : ℕ) (b : BackupDone) (h seen : List Entry) (old new : Known) (result : Result ℕ Fault) → b.backup ≡ backup → b.segment ≡ segment → MayGoOn opens since backup segment h → IsPrefix h seen
    → NamesOne opens entries sessions (namings.Backup b) result old new → IfOk result (λ lsn. WasNamed since lsn (namings.Backup b) seen new.log) → IfOk result (λ lsn. MayGoOn opens lsn backup (segment + 1) new.log)
next_or opens entries sessions since backup segment b h seen old new (Ok lsn) is part m begins e w = next_goes opens since lsn backup segment b h seen new.log is part m begins e.consistent w
next_or opens entries sessions since backup segment b h seen old new (Err f) is part m begins e w = tt

-- the first segment, once the number was asked for behind that place
pub begins_at : (opens : List Record → Type 0) (since backup : ℕ) (first seen h : List Entry) → since ≡ maintenance_book first → IsPrefix first seen → IsPrefix seen h → IsConsistent opens seen
    → ((opening : List Record) → opens opening → backup ≡ last_backup (life_log opening seen) + 1) → MayGoOn opens since backup 0 h
begins_at opens since backup first seen h is begins goes consistent number = record {
  moment = seen;
  begins = goes;
  low = λ opening stands.
      let rises = (books_law opening first begins.0).maintenance (subst (IsLegal opening) (sym begins.1) (consistent.legal opening stands)) in
      let e = ap maintenance_book begins.1 in
      omega (arith, rises, e, is);
  goes_on = λ opening stands. starts (life_log opening seen) backup (number opening stands);
}
