-- An archive goes on, run by run.
use Rattle.std.proofs.Common.{◌≡◌, ℕ, suc, ◌+◌, ◌≤◌, List, [], ◌∷◌, ◌++◌, length, sym, ap, subst, ◌∙◌, arith}
use Rattle.std.specs.Prelude.{IfOk, Result, Ok, Err}
use mathlib.Core.List.{IsPrefix}
use Rattle.front.proofs.Keeping.{prefix_self, prefix_trans}
use Rattle.store_model.specs.declared.fault.Fault.{Fault}
use Rattle.wal_record.specs.Books.{maintenance_book}
use Rattle.wal_record.specs.History.{life_log, log_of}
use Rattle.wal_record.specs.Legal.{IsAllowed, IsLegal}
use Rattle.wal_record.specs.Sound.{AreLawful, IsLawful}
use Rattle.wal_record.specs.Upkeep.{archived}
use Rattle.wal_record.specs.declared.analysis.Run.{Run}
use Rattle.wal_record.specs.declared.record.Record.{Record}
use Rattle.wal_record.specs.declared.record.Record.TheVariants as kinds
use Rattle.wal_record.specs.declared.record.RunDone.{RunDone}
use Rattle.wal_record.specs.declared.entry.Entry.{Entry}
use Rattle.wal_record.specs.declared.entry.Entry.TheVariants.{Rec}
use Rattle.wal_record.proofs.Along.{AllAlong_less}
use Rattle.wal_record.proofs.Pushes.{log_more, maintenance_push}
use Rattle.claim_laws.proofs.Upkeep.{books_law, maintenance_law}
use Rattle.page_ops.proofs.Staying.{longer_log}
use Rattle.page_ops.specs.Names.{LedgerName}
use Rattle.page_ops.specs.Seeing.{IsConsistent, Known}
use Rattle.named_objects.specs.Drafts.{NamesOne, WasNamed}
use Rattle.named_objects.specs.declared.naming.Naming.TheVariants as namings
use Rattle.archiving.specs.Going.{ComesNext, MayGoOn}
use Rattle.archiving.specs.declared.waiting.Waiting.{Waiting}
use Rattle.archiving.proofs.Standing.{comes_behind}

-- ---- at a later moment

module _ (opens : List Record → Type 0) (since : ℕ) (w : Waiting) (h now : List Entry) (m : MayGoOn opens since w h) (begins : IsPrefix h now) (at : maintenance_book now ≡ since) where
  -- while no object was named since
  pub goes_on : (opening : List Record) → opens opening → IsLegal opening now → ComesNext (life_log opening now) w
  goes_on opening stands legal =
      let all = prefix_trans m.moment h now m.begins begins in
      let more = all.0 in
      let whole = subst (IsLegal opening) (sym all.1) legal in
      let rises = (books_law opening m.moment more).maintenance whole in
      let e = ap maintenance_book all.1 in
      let low = m.low opening stands in
      let same : maintenance_book (m.moment ++ more) ≡ maintenance_book m.moment = omega (arith, rises, e, at, low) in
      let law = maintenance_law opening m.moment more in
      let g = m.goes_on opening stands in
      subst (λ (l : List Entry). ComesNext (life_log opening l) w) all.1 (record {
        run = g.run ∙ ap suc (sym (law.run whole same));
        first = g.first ∙ ap (λ (runs : List Run). suc (archived runs)) (sym (law.runs whole same));
        stood = g.stood ∙ ap (λ (runs : List Run). length runs) (sym (law.runs whole same));
      })

-- ---- behind a run that is made

module _ (opens : List Record → Type 0) (since : ℕ) (w v : Waiting) (last : ℕ) (order : w.first ≤ last) (run : v.run ≡ w.run + 1) (first : v.first ≡ last + 1) (stood : v.stood ≡ w.stood + 1) (h seen : List Entry) (m : MayGoOn opens since w h) (begins : IsPrefix h seen) where
  abbrev done : RunDone
  done = record { run = w.run; first = w.first; last = last }

  pub next_goes : (lsn : ℕ) (now : List Entry) → IsConsistent opens now → WasNamed since lsn (namings.Run done) seen now → MayGoOn opens lsn v now
  next_goes lsn now consistent x =
      let entry = Rec lsn (kinds.RunDone done) in
      let behind : List Entry = x.moment ++ entry ∷ [] in
      let book = maintenance_push x.moment entry in
      record {
        moment = behind;
        begins = x.goes;
        low = λ opening stands. omega (arith, book);
        goes_on = λ opening stands.
            let whole = subst (IsLegal opening) (sym x.goes.1) (consistent.legal opening stands) in
            let front = AllAlong_less (IsAllowed opening) behind x.goes.0 whole in
            let legal = AllAlong_less (IsAllowed opening) x.moment (entry ∷ []) front in
            let g = goes_on opens since w h x.moment m (prefix_trans h seen x.moment begins x.begins) x.at opening stands legal in
            let one = log_more opening x.moment lsn (kinds.RunDone done) in
            let more : life_log opening now ≡ life_log opening behind ++ log_of x.goes.0 = ap (life_log opening) (sym x.goes.1) ∙ longer_log opening behind x.goes.0 in
            let there = AllAlong_less IsLawful (life_log opening behind) (log_of x.goes.0) (subst AreLawful more ((consistent.sound opening stands).lawful)) in
            let lawful = AllAlong_less IsLawful (life_log opening x.moment) (kinds.RunDone done ∷ []) (subst AreLawful one there) in
            subst (λ (l : List Record). ComesNext l v) (sym one) (comes_behind (life_log opening x.moment) lawful w g last order v run first stood);
      }

  -- whatever becomes of it
  pub next_or : (entries sessions : LedgerName) (old new : Known) (result : Result ℕ Fault) → NamesOne opens entries sessions (namings.Run done) result old new → IfOk result (λ lsn. WasNamed since lsn (namings.Run done) seen new.log) → IfOk result (λ lsn. MayGoOn opens lsn v new.log)
  next_or entries sessions old new (Ok lsn) e x = next_goes lsn new.log e.consistent x
  next_or entries sessions old new (Err f) e x = tt

-- the first run, once what waits was asked for behind that place
pub begins_at : (opens : List Record → Type 0) (since : ℕ) (w : Waiting) (first seen : List Entry) → since ≡ maintenance_book first → IsPrefix first seen → IsConsistent opens seen
    → ((opening : List Record) → opens opening → ComesNext (life_log opening seen) w) → MayGoOn opens since w seen
begins_at opens since w first seen is begins consistent next = record {
  moment = seen;
  begins = prefix_self seen;
  low = λ opening stands.
      let rises = (books_law opening first begins.0).maintenance (subst (IsLegal opening) (sym begins.1) (consistent.legal opening stands)) in
      let e = ap maintenance_book begins.1 in
      omega (arith, rises, e, is);
  goes_on = next;
}
