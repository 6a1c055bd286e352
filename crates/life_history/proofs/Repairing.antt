-- An entry that a page was repaired belongs to no session, and changes no book.
use Rattle.std.proofs.Common.{◌≡◌, ℕ, ◌+◌, ◌≤◌, ◌<◌, ◌^◌, List, [], ◌∷◌, ◌++◌, length, refl, sym, ap, ◌∙◌, subst, arith, length-append, append-nil}
use Rattle.front.proofs.Keeping.{prefix_trans}
use Rattle.front.specs.Seen.{PassSeen}
use Rattle.books.specs.declared.entry.BookEntry.{BookEntry}
use Rattle.wal_record.specs.Books.{session_entries}
use Rattle.wal_record.specs.Chains.{head}
use Rattle.wal_record.specs.History.{life_log, beginnings, live_count}
use Rattle.wal_record.specs.Upkeep.{written_lsn}
use Rattle.wal_record.specs.declared.record.Record.{Record}
use Rattle.wal_record.specs.declared.entry.Entry.{Entry}
use Rattle.wal_record.specs.declared.entry.Entry.TheVariants.{Repaired}
use Rattle.wal_record.proofs.Pushes.{log_same, beginnings_push, begun_push, last_begun_push, phase_push, maintenance_push, session_entries_push}
use Rattle.page_ops.proofs.Gaining.{calls_self, ended_self}
use Rattle.page_ops.specs.Claims.{no_claims}
use Rattle.page_ops.specs.Names.{LedgerName}
use Rattle.page_ops.specs.Seeing.{Account, known, Keeps, Enters, IsConsistent, of_sessions}
use Rattle.life_history.specs.Groups.{counted_group}
use Rattle.life_history.specs.Kept.{Numbers, BooksOf, IsKept}
use Rattle.life_history.proofs.Keeping.{of_sessions_push}
use Rattle.life_history.proofs.Own.{Continues, consistent_entry, continues_live, continues_tx, kept_then}

pub repair_consistent : (opens : List Record → Type 0) (h : List Entry) (page : ℕ) → IsConsistent opens h → ((opening : List Record) → opens opening → 0 < written_lsn (life_log opening h) page) → IsConsistent opens (h ++ Repaired page ∷ [])
repair_consistent opens h page c image = consistent_entry opens h (Repaired page) c refl refl (λ log. refl) (λ opening stands. record { told = c.told; image = image opening stands })

repair_continues : (h : List Entry) (page : ℕ) → Continues h (h ++ Repaired page ∷ []) 0 0 1
repair_continues h page = record {
  longer = length-append h (Repaired page ∷ []);
  begins = beginnings_push h (Repaired page) ∙ append-nil (beginnings h);
  phases = λ t. phase_push h (Repaired page) t;
  last = λ m. last_begun_push h (Repaired page) m;
  greatest = begun_push h (Repaired page);
  own = let one = session_entries_push h (Repaired page) 0 in omega (arith, one);
  others = λ m apart. session_entries_push h (Repaired page) m;
  counted = let one = of_sessions_push h (Repaired page) in omega (arith, one);
}

module _ (opens : List Record → Type 0) (h h' : List Entry) (n : Numbers) (b : BooksOf) (total of_session : ℕ) (k : IsKept opens h n b total of_session) (page : ℕ) (now : h' ≡ h ++ Repaired page ∷ []) (few : n.entries < 2 ^ 62)
    (image : (opening : List Record) → opens opening → 0 < written_lsn (life_log opening h) page) where
  abbrev after : List Entry
  after = h ++ Repaired page ∷ []

  same_log : (opening : List Record) → life_log opening after ≡ life_log opening h
  same_log opening = log_same opening h (Repaired page) refl

  same_entries : (m : ℕ) → session_entries after m ≡ session_entries h m
  same_entries m = session_entries_push h (Repaired page) m

  pub repair_kept : IsKept opens h' (record n { entries = n.entries + 1 }) b (total + 1) (of_session + 0)
  repair_kept = subst (λ (l : List Entry). IsKept opens l (record n { entries = n.entries + 1 }) b (total + 1) (of_session + 0)) (sym now)
      (kept_then opens h after n b b total of_session 0 0 1 k (repair_continues h page) (repair_consistent opens h page k.consistent image) few (omega arith)
      (record {
        pages = λ m x is opening stands. k.books.pages m x is opening stands ∙ ap (λ (l : List Record). head l m) (sym (same_log opening));
        sessions = λ m x is. let at = k.books.sessions m x is in (at.0 ∙ sym (same_entries m), at.1 ∙ sym (continues_tx h after 0 0 1 (repair_continues h page) m));
        maint = λ m x is. k.books.maint m x is ∙ sym (maintenance_push h (Repaired page));
      })
      (λ m high. let was = k.fresh m high in record { book = was.book; entries = same_entries m ∙ was.entries; begun = last_begun_push h (Repaired page) m ∙ was.begun }))

  pub repair_live : live_count h' ≡ live_count h
  repair_live = ap live_count now ∙ continues_live h after 0 0 1 (repair_continues h page)

-- ---- what the caller knows

keeps_repair : (a : Account) → Keeps a (counted_group a 1 0)
keeps_repair a = record { entry_parts = refl; session_parts = refl; log_parts = refl; vault_parts = refl; log_faults = omega arith; vault_faults = omega arith; made = refl; ended = ended_self a.ended; calls = calls_self a.calls a.log_faults.amount }

pub repair_entered : (opens : List Record → Type 0) (entries sessions : LedgerName) (a0 a1 a2 : Account) (s0 s1 s2 : PassSeen Entry) (h h' : List Entry) (page : ℕ)
    → Enters opens entries sessions (known a0 s0 no_claims) [] (known a1 s1 no_claims) → a1 ≡ a0 → s1.log ≡ h → h' ≡ h ++ Repaired page ∷ [] → s2.log ≡ h' → s1.durable ≤ s2.durable → a2 ≡ counted_group a1 1 0
    → ((opening : List Record) → opens opening → 0 < written_lsn (life_log opening h) page) → Enters opens entries sessions (known a0 s0 no_claims) (Repaired page ∷ []) (known a2 s2 no_claims)
repair_entered opens entries sessions a0 a1 a2 s0 s1 s2 h h' page e account log now seen later more image =
    let here : s2.log ≡ s1.log ++ Repaired page ∷ [] = seen ∙ now ∙ ap (λ (l : List Entry). l ++ Repaired page ∷ []) (sym log) in
    let sum : a2 ≡ counted_group a0 1 0 = more ∙ ap (λ (a : Account). counted_group a 1 0) account in
    let consistent = repair_consistent opens s1.log page e.now.consistent (λ opening stands. subst (λ (l : List Entry). 0 < written_lsn (life_log opening l) page) (sym log) (image opening stands)) in
    let one : of_sessions s2.log ≡ of_sessions s1.log = ap of_sessions here ∙ of_sessions_push s1.log (Repaired page) in
    let longer : length s2.log ≡ length s1.log + 1 = ap (λ (l : List Entry). length l) here ∙ length-append s1.log (Repaired page ∷ []) in
    record {
      moment = s1.log;
      found = e.now;
      is = here;
      now = record {
        begins = prefix_trans s0.log s1.log s2.log e.now.begins (Repaired page ∷ [], sym here);
        consistent = subst (IsConsistent opens) (sym here) consistent;
        rights = record { a = tt; b = tt; c = tt; s = tt; m = tt };
      };
      durable = let was = e.durable in omega (arith, was, later);
      keeps = subst (Keeps a0) (sym sum) (keeps_repair a0);
      counted = ap (λ (a : Account). a.entries.amount) sum;
      sessions_counted = let total = ap (λ (a : Account). a.session_entries.amount) sum in omega (arith, one, total);
      totals = record {
        all = λ whole. let was = e.totals.all (ap (λ (a : Account). a.entries.parts) (sym more) ∙ whole) in omega (arith, was, longer, ap (λ (a : Account). a.entries.amount) more);
        of_sessions = λ whole. let was = e.totals.of_sessions (ap (λ (a : Account). a.session_entries.parts) (sym more) ∙ whole) in omega (arith, was, one, ap (λ (a : Account). a.session_entries.amount) more);
      };
    }

pub repaired_kept : (opens : List Record → Type 0) (h h' : List Entry) (count session tx first live total of_session total' of_session' page : ℕ) (ps ps' ss ss' ms ms' : List BookEntry)
    → IsKept opens h (record { entries = count; session = session; tx = tx; first = first; live = live }) (record { pages = ps; sessions = ss; maint = ms }) total of_session → h' ≡ h ++ Repaired page ∷ [] → count < 2 ^ 62
    → ((opening : List Record) → opens opening → 0 < written_lsn (life_log opening h) page) → ps' ≡ ps → ss' ≡ ss → ms' ≡ ms → total' ≡ total + 1 → of_session' ≡ of_session
    → IsKept opens h' (record { entries = count + 1; session = session; tx = tx; first = first; live = live }) (record { pages = ps'; sessions = ss'; maint = ms' }) total' of_session'
repaired_kept opens h h' count session tx first live total of_session total' of_session' page ps ps' ss ss' ms ms' k now few image pages sessions maint sum same =
    let sums : of_session' ≡ of_session + 0 = omega (arith, same) in
    subst (λ (y : List BookEntry × List BookEntry × List BookEntry × ℕ × ℕ). IsKept opens h' (record { entries = count + 1; session = session; tx = tx; first = first; live = live }) (record { pages = y.0; sessions = y.1; maint = y.2 }) y.3 y.4)
    (λ i. (sym pages i, sym sessions i, sym maint i, sym sum i, sym sums i)) (repair_kept opens h h' _ _ total of_session k page now few image)
