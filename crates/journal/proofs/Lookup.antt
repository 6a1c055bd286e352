-- What was found by an LSN.
use Rattle.std.proofs.Common.{◌≡◌, ℕ, cond, ◌≤◌, Bool, true, false, List, [], ◌∷◌, ◌++◌, length, Some, refl, sym, ap, ◌∙◌, subst, arith}
use Rattle.std.specs.Prelude.{Result, Ok, Err, OnOk, IfOk, IfErr, min, nat_le}
use Rattle.std.specs.List.{find}
use Rattle.std.proofs.lemmas.Bool.{leb-true}
use Rattle.store_model.proofs.Bools.{both_true}
use Rattle.store_model.specs.declared.fault.Fault.{Fault}
use Rattle.store_model.specs.declared.fault.Fault.TheVariants as faults
use Rattle.log_index.specs.Listing.{covers_lsn}
use Rattle.log_manager.specs.Managed.{IsNoBadLog}
use Rattle.page_ops.specs.Causes.{FailsToRead}
use Rattle.page_ops.specs.Outcomes.{IsFound, IsRunOf}
use Rattle.page_ops.specs.declared.outcome.Found.{Found}
use Rattle.page_ops.specs.declared.outcome.Found.TheVariants as founds
use Rattle.wal_record.specs.Chains.{record_with}
use Rattle.wal_record.specs.History.{life_log}
use Rattle.wal_record.specs.Upkeep.{standing_runs}
use Rattle.wal_record.specs.declared.analysis.Run.{Run}
use Rattle.wal_record.specs.declared.entry.Entry.{Entry}
use Rattle.wal_record.specs.declared.record.Record.{Record}
use Rattle.journal.specs.Ends.{IsUnread}
use Rattle.journal.specs.Lookups.{HasSpelledRecord, IsFoundIn}

abbrev IsThere : ℕ → List Run → Run → Type 0
IsThere lsn runs run = (front : List Run) × (back : List Run) × (runs ≡ front ++ run ∷ back) × (covers_lsn lsn run ≡ true)

there : (lsn : ℕ) (run : Run) (runs : List Run) → Some run ≡ find (covers_lsn lsn) runs → IsThere lsn runs run
there lsn run [] e = absurd (cc e)
there lsn run (x ∷ xs) e = by (covers_lsn lsn x) refl e (λ found. there lsn run xs found)
  where
    by : (b : Bool) → covers_lsn lsn x ≡ b → Some run ≡ cond b (Some x) (find (covers_lsn lsn) xs) → (Some run ≡ find (covers_lsn lsn) xs → IsThere lsn xs run) → IsThere lsn (x ∷ xs) run
    by true c e more = let same : run ≡ x = cc e in ([], xs, ap (λ (y : Run). y ∷ xs) (sym same), ap (covers_lsn lsn) same ∙ c)
    by false c e more = let r = more e in (x ∷ r.0, r.1, ap (λ (l : List Run). x ∷ l) r.2, r.3)

pub run_of : (rs : List Record) (lsn : ℕ) (run : Run) → Some run ≡ find (covers_lsn lsn) (standing_runs rs) → IsRunOf rs lsn run
run_of rs lsn run e =
    let t = there lsn run (standing_runs rs) e in
    let both = both_true (nat_le run.first lsn) (nat_le lsn run.last) t.3 in
    record { front = t.0; back = t.1; stands = t.2; from = leb-true run.first lsn both.0; upto = leb-true lsn run.last both.1 }

module _ (opens : List Record → Type 0) (seen h : List Entry) (same : seen ≡ h) (lsn : ℕ) where
  is_found : (f : Found) → HasSpelledRecord f → ((opening : List Record) → opens opening → IsFoundIn (life_log opening h) lsn f) → IsFound opens seen lsn f
  is_found (founds.Record r) spelled found = (spelled, λ opening stands. subst (λ (l : List Entry). record_with (life_log opening l) lsn ≡ Some r) (sym same) (found opening stands))
  is_found (founds.Run run) spelled found = λ opening stands. subst (λ (l : List Entry). IsRunOf (life_log opening l) lsn run) (sym same) (found opening stands)

  unread : (fault : Fault) → IsUnread fault → ((opening : List Record) → opens opening → IsNoBadLog fault) → FailsToRead opens fault
  unread faults.Memory is none = tt
  unread faults.LogFault is none = tt
  unread (faults.LogBad block byte) is none = none
  unread _ is none = absurd is

  pub found_told : (result : Result Found Fault) → IfOk result HasSpelledRecord → ((opening : List Record) → opens opening → IfOk result (IsFoundIn (life_log opening h) lsn) × IfErr result IsNoBadLog) → IfOk result (IsFound opens seen lsn)
  found_told (Ok f) spelled told = is_found f spelled (λ opening stands. (told opening stands).0)
  found_told (Err fault) spelled told = tt

  pub unread_told : (result : Result Found Fault) → IfErr result IsUnread → ((opening : List Record) → opens opening → IfOk result (IsFoundIn (life_log opening h) lsn) × IfErr result IsNoBadLog) → IfErr result (FailsToRead opens)
  unread_told (Ok f) is told = tt
  unread_told (Err fault) is told = unread fault is (λ opening stands. (told opening stands).1)

-- a log that is durable up to its last record, and then told to be so
pub all_durable : {A : Type 0} (opens : List Record → Type 0) (h seen later : List Entry) → seen ≡ h → later ≡ h → (last durable told : ℕ) → durable ≤ told → ((opening : List Record) → opens opening → last ≡ length (life_log opening h))
    → ((opening : List Record) → opens opening → min last (length (life_log opening seen)) ≤ durable) → (result : Result A Fault) → OnOk result ((opening : List Record) → opens opening → length (life_log opening later) ≤ told)
all_durable opens h seen later same still last durable told more is all (Ok x) = λ opening stands.
    let one = is opening stands in
    let two = all opening stands in
    let three = ap (λ (l : List Entry). length (life_log opening l)) same in
    let four = ap (λ (l : List Entry). length (life_log opening l)) still in
    omega (arith, one, two, three, four, more)
all_durable opens h seen later same still last durable told more is all (Err fault) = tt
