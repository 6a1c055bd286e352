-- What a session's entries make of what a caller knows, and of what the history keeps, after the calls.
use Rattle.std.proofs.Common.{◌≡◌, ◌≢◌, ℕ, suc, cond, ◌+◌, ◌≤◌, ◌<◌, ◌^◌, List, [], ◌∷◌, ◌++◌, length, Some, Bool, true, refl, sym, ap, ◌∙◌, subst, arith, length-append}
use Rattle.front.proofs.Keeping.{prefix_trans}
use Rattle.books.specs.Booking.{entry, entry_of, replaced}
use Rattle.books.specs.declared.entry.BookEntry.{BookEntry}
use Rattle.books.specs.Rights.{SessionClaim, session_entry}
use Rattle.wal_record.specs.Books.{maintenance_book}
use Rattle.wal_record.specs.Chains.{head}
use Rattle.wal_record.specs.History.{life_log, live_count}
use Rattle.wal_record.specs.declared.record.Record.{Record}
use Rattle.wal_record.specs.declared.entry.Entry.{Entry}
use Rattle.wal_record.specs.declared.entry.Entry.TheVariants.{Began}
use Rattle.wal_record.specs.declared.entry.Entry.TheVariants as entries
use Rattle.wal_record.proofs.Pushes.{log_same, maintenance_push}
use Rattle.front.specs.Seen.{PassSeen}
use Rattle.page_ops.proofs.Gaining.{calls_self, ended_self}
use Rattle.page_ops.specs.Names.{LedgerName}
use Rattle.page_ops.specs.Claims.{Agree, SessionAgrees, session_alone}
use Rattle.page_ops.specs.Seeing.{Account, known, Keeps, Enters, IsMoment, IsConsistent, HasTotals, is_of_session, of_sessions}
use Rattle.life_history.specs.Kept.{IsKept, IsOneOf, counted_more, is_calm, is_of}
use Rattle.life_history.proofs.Keeping.{of_sessions_push}
use Rattle.life_history.proofs.Own.{Continues, continues_live, continues_one, calm_of, kept_then, agrees_then, sessions_then, fresh_then, kept_began, began_consistent, began_entries, began_tx, session_within}

agree_alone : (opens : List Record → Type 0) (h : List Entry) (x : SessionClaim) → SessionAgrees h x → Agree opens h (session_alone x)
agree_alone opens h x agrees = record { a = tt; b = tt; c = tt; s = agrees; m = tt }

pub keeps_counted : (a : Account) (n : ℕ) → Keeps a (counted_more a n)
keeps_counted a n = record { entry_parts = refl; session_parts = refl; log_parts = refl; vault_parts = refl; log_faults = omega arith; vault_faults = omega arith; made = refl; ended = ended_self a.ended; calls = calls_self a.calls a.log_faults.amount }

module _ (opens : List Record → Type 0) (entries sessions : LedgerName) (a : Account) (durable : ℕ) (seen : PassSeen Entry) (h : List Entry) (x y : SessionClaim) (e : Entry) where
  -- one entry of a session's own, after which the pass has seen this durable number
  pub entered_own : seen.durable ≤ durable → IsMoment opens seen.log (session_alone x) h → HasTotals entries sessions a h → is_of_session h e ≡ true → IsConsistent opens (h ++ e ∷ []) → SessionAgrees (h ++ e ∷ []) y
      → Enters opens entries sessions (known a seen (session_alone x)) (e ∷ []) (known (counted_more a 1) (record { log = h ++ e ∷ []; durable = durable }) (session_alone y))
  entered_own more found totals own consistent agrees =
      let one : of_sessions (h ++ e ∷ []) ≡ suc (of_sessions h) = of_sessions_push h e ∙ ap (λ (c : Bool). cond c (suc (of_sessions h)) (of_sessions h)) own in
      let longer = length-append h (e ∷ []) in
      record {
        moment = h;
        found = found;
        is = refl;
        now = record { begins = prefix_trans seen.log h (h ++ e ∷ []) found.begins (e ∷ [], refl); consistent = consistent; rights = agree_alone opens (h ++ e ∷ []) y agrees };
        durable = more;
        keeps = keeps_counted a 1;
        counted = refl;
        sessions_counted = omega (arith, one);
        totals = record {
          all = λ whole. let n = totals.all whole in omega (arith, n, longer);
          of_sessions = λ whole. let n = totals.of_sessions whole in omega (arith, n, one);
        };
      }

-- what a session knows once it has seen the history
pub record Watched (opens : List Record → Type 0) (entries sessions : LedgerName) (a : Account) (seen : PassSeen Entry) (h : List Entry) (x : SessionClaim) : Type 0 where
  pub found : IsMoment opens seen.log (session_alone x) h
  pub totals : HasTotals entries sessions a h
  pub agrees : SessionAgrees h x

pub watched : (opens : List Record → Type 0) (entries sessions : LedgerName) (a a' : Account) (seen seen' : PassSeen Entry) (h : List Entry) (x x' : SessionClaim)
    → Enters opens entries sessions (known a seen (session_alone x)) [] (known a' seen' (session_alone x')) → a' ≡ a → x' ≡ x → seen'.log ≡ h → Watched opens entries sessions a' seen h x'
watched opens entries sessions a a' seen seen' h x x' e account claim log = subst (λ (l : List Entry). Watched opens entries sessions a' seen l x') log (record { found = e.now; totals = e.totals; agrees = e.now.rights.s })

-- there is room for an entry more of a session, or two
pub session_fits : (h : List Entry) (count : ℕ) (x : SessionClaim) → SessionAgrees h x → count ≡ length h → count < 2 ^ 62 → x.entries < 2 ^ 62
session_fits h count x agrees is low = let within = session_within x.session h in let same = agrees.entries in omega (arith, within, same, is, low)

-- what was known before the call
pub from_first : (opens : List Record → Type 0) (entries sessions : LedgerName) (a0 a1 a2 : Account) (seen now : PassSeen Entry) (x0 x1 x2 : SessionClaim) (es : SessionClaim → List Entry) → a1 ≡ a0 → x1 ≡ x0
    → Enters opens entries sessions (known a1 seen (session_alone x1)) (es x1) (known a2 now (session_alone x2)) → Enters opens entries sessions (known a0 seen (session_alone x0)) (es x0) (known a2 now (session_alone x2))
from_first opens entries sessions a0 a1 a2 seen now x0 x1 x2 es account claim e = subst (λ (z : Account × SessionClaim). Enters opens entries sessions (known z.0 seen (session_alone z.1)) (es z.1) (known a2 now (session_alone x2))) (λ i. (account i, claim i)) e

module _ (opens : List Record → Type 0) (h : List Entry) (count session tx first live total of_session : ℕ) (ps ss ms : List BookEntry)
    (k : IsKept opens h (record { entries = count; session = session; tx = tx; first = first; live = live }) (record { pages = ps; sessions = ss; maint = ms }) total of_session) (x : SessionClaim) where
  -- ---- a beginning

  pub begin_kept : (h' : List Entry) (number total' of_session' : ℕ) (ps' ss' ms' : List BookEntry) → entry_of x.session ss ≡ Some (session_entry x) → ss' ≡ replaced (entry x.session (x.entries + 1) tx) ss → (ps' ≡ ps) × (ms' ≡ ms)
      → h' ≡ h ++ Began number tx ∷ [] → number ≡ x.session → total' ≡ total + 1 → of_session' ≡ of_session + 1 → x.tx ≡ 0 → live ≢ 64 → count < 2 ^ 62 → tx < 2 ^ 62
      → IsKept opens h' (record { entries = count + 1; session = session; tx = tx + 1; first = first; live = live + 1 }) (record { pages = ps'; sessions = ss'; maint = ms' }) total' of_session'
  begin_kept h' number total' of_session' ps' ss' ms' there book others now same sum sums none few short small =
      let most = k.begun.most in
      let done = kept_began opens h _ _ total of_session k x there none (omega (arith, most, few)) short small in
      subst (λ (y : List Entry × List BookEntry × List BookEntry × List BookEntry × ℕ × ℕ). IsKept opens y.0 (record { entries = count + 1; session = session; tx = tx + 1; first = first; live = live + 1 }) (record { pages = y.1; sessions = y.2; maint = y.3 }) y.4 y.5)
      (λ i. (sym (now ∙ ap (λ m. h ++ Began m tx ∷ []) same) i, sym others.0 i, sym book i, sym others.1 i, sym sum i, sym sums i)) done

  pub begin_live : (h' : List Entry) (number : ℕ) → entry_of x.session ss ≡ Some (session_entry x) → h' ≡ h ++ Began number tx ∷ [] → number ≡ x.session → x.tx ≡ 0 → live ≢ 64 → count < 2 ^ 62 → tx < 2 ^ 62
      → (live_count h' ≡ live_count h + 1) × (live_count h' ≤ 64)
  begin_live h' number there now same none few short small =
      let most = k.begun.most in
      let before : live ≡ live_count h = k.begun.counted in
      let done = kept_began opens h _ _ total of_session k x there none (omega (arith, most, few)) short small in
      let after : live + 1 ≡ live_count h' = done.begun.counted ∙ ap live_count (sym (now ∙ ap (λ m. h ++ Began m tx ∷ []) same)) in
      (omega (arith, before, after), omega (arith, after, most, few))

  pub begin_entered : (entries sessions : LedgerName) (a a' : Account) (seen done : PassSeen Entry) (number : ℕ) (y : SessionClaim) → entry_of x.session ss ≡ Some (session_entry x) → Watched opens entries sessions a seen h x → x.tx ≡ 0 → live ≢ 64
      → done.log ≡ h ++ Began number tx ∷ [] → seen.durable ≤ done.durable → number ≡ x.session → a' ≡ counted_more a 1 → y ≡ record { session = x.session; entries = x.entries + 1; tx = tx }
      → Enters opens entries sessions (known a seen (session_alone x)) (Began x.session tx ∷ []) (known a' done (session_alone y))
  begin_entered entries sessions a a' seen done number y there w none few now later same more raised =
      let most = k.begun.most in
      let few : live < 64 = omega (arith, most, few) in
      let now : done.log ≡ h ++ Began x.session tx ∷ [] = now ∙ ap (λ m. h ++ Began m tx ∷ []) same in
      subst (λ (z : Account × List Entry × SessionClaim). Enters opens entries sessions (known a seen (session_alone x)) (Began x.session tx ∷ []) (known z.0 (record { log = z.1; durable = done.durable }) (session_alone z.2)))
      (λ i. (sym more i, sym now i, sym raised i))
      (entered_own opens entries sessions a done.durable seen h x (record { session = x.session; entries = x.entries + 1; tx = tx }) (Began x.session tx) later w.found w.totals refl
      (began_consistent opens h _ _ total of_session k x there none few)
      (record { entries = began_entries opens h _ _ total of_session k x there; tx = began_tx opens h _ _ total of_session k x there }))

  -- ---- an entry that is no record

  module _ (there : entry_of x.session ss ≡ Some (session_entry x)) (some : 0 < x.tx) where
    module _ (e : Entry) (calm : is_calm e ≡ true) (own : is_of x.session x.tx e ≡ true) where
      continues : Continues h (h ++ e ∷ []) x.session 1 1
      continues = continues_one h x.session e (calm_of opens h _ _ total of_session k x there some e calm own)

      same_log : (opening : List Record) → life_log opening (h ++ e ∷ []) ≡ life_log opening h
      same_log opening = by e calm
        where
          by : (e : Entry) → is_calm e ≡ true → life_log opening (h ++ e ∷ []) ≡ life_log opening h
          by (entries.Lock t range mode) calm = log_same opening h (entries.Lock t range mode) refl
          by (entries.Refused t range mode holder) calm = log_same opening h (entries.Refused t range mode holder) refl
          by (entries.Said s t request reply) calm = log_same opening h (entries.Said s t request reply) refl
          by (entries.Declined s t request why) calm = log_same opening h (entries.Declined s t request why) refl
          by _ calm = absurd (cc calm)

      same_maintenance : maintenance_book (h ++ e ∷ []) ≡ maintenance_book h
      same_maintenance = maintenance_push h e ∙ (calm_of opens h _ _ total of_session k x there some e calm own).maint (maintenance_book h)

      abbrev now_book : List BookEntry
      now_book = replaced (entry x.session (x.entries + 1) x.tx) ss

      kept_one : count < 2 ^ 62 → IsConsistent opens (h ++ e ∷ [])
          → IsKept opens (h ++ e ∷ []) (record { entries = count + 1; session = session; tx = tx; first = first; live = live }) (record { pages = ps; sessions = now_book; maint = ms }) (total + 1) (of_session + 1)
      kept_one short consistent = kept_then opens h (h ++ e ∷ []) _ _ (record { pages = ps; sessions = now_book; maint = ms }) total of_session x.session 1 1 k continues consistent short (omega arith)
          (record {
            pages = λ m y is opening stands. k.books.pages m y is opening stands ∙ ap (λ (l : List Record). head l m) (sym (same_log opening));
            sessions = sessions_then opens h _ _ total of_session k x there (h ++ e ∷ []) 1 1 continues;
            maint = λ m y is. k.books.maint m y is ∙ sym same_maintenance;
          })
          (fresh_then opens h _ _ total of_session k x there (h ++ e ∷ []) 1 1 continues)

    module _ (es : List Entry) (one : IsOneOf x.session x.tx es) where
      pub own_kept : (h' : List Entry) (own : ℕ) (total' of_session' : ℕ) (ps' ss' ms' : List BookEntry) → ss' ≡ replaced (entry x.session (x.entries + 1) own) ss → own ≡ x.tx → (ps' ≡ ps) × (ms' ≡ ms)
          → h' ≡ h ++ es → total' ≡ total + 1 → of_session' ≡ of_session + 1 → count < 2 ^ 62 → IsConsistent opens (h ++ es)
          → IsKept opens h' (record { entries = count + 1; session = session; tx = tx; first = first; live = live }) (record { pages = ps'; sessions = ss'; maint = ms' }) total' of_session'
      own_kept h' own total' of_session' ps' ss' ms' book same others now sum sums short consistent = by es one now consistent
        where
          by : (es : List Entry) → IsOneOf x.session x.tx es → h' ≡ h ++ es → IsConsistent opens (h ++ es) → IsKept opens h' (record { entries = count + 1; session = session; tx = tx; first = first; live = live }) (record { pages = ps'; sessions = ss'; maint = ms' }) total' of_session'
          by (e ∷ []) is now consistent =
              let book : ss' ≡ replaced (entry x.session (x.entries + 1) x.tx) ss = book ∙ ap (λ m. replaced (entry x.session (x.entries + 1) m) ss) same in
              subst (λ (y : List Entry × List BookEntry × List BookEntry × List BookEntry × ℕ × ℕ). IsKept opens y.0 (record { entries = count + 1; session = session; tx = tx; first = first; live = live }) (record { pages = y.1; sessions = y.2; maint = y.3 }) y.4 y.5)
              (λ i. (sym now i, sym others.0 i, sym book i, sym others.1 i, sym sum i, sym sums i)) (kept_one e is.0 is.1 short consistent)
          by [] is now consistent = absurd is
          by (e ∷ f ∷ es) is now consistent = absurd is

      pub own_agrees : (h' : List Entry) (own : ℕ) (y : SessionClaim) → h' ≡ h ++ es → own ≡ x.tx → y ≡ record { session = x.session; entries = x.entries + 1; tx = own } → SessionAgrees h' y
      own_agrees h' own y now same raised = by es one now
        where
          by : (es : List Entry) → IsOneOf x.session x.tx es → h' ≡ h ++ es → SessionAgrees h' y
          by (e ∷ []) is now =
              subst (λ (z : List Entry × SessionClaim). SessionAgrees z.0 z.1) (λ i. (sym now i, sym (raised ∙ ap (λ m. record { session = x.session; entries = x.entries + 1; tx = m }) same) i))
              (agrees_then opens h _ _ total of_session k x there (h ++ e ∷ []) 1 1 (continues e is.0 is.1))
          by [] is now = absurd is
          by (e ∷ f ∷ es) is now = absurd is

      pub own_counted : (h' : List Entry) → h' ≡ h ++ es → of_sessions h' ≡ of_sessions h + 1
      own_counted h' now = by es one now
        where
          by : (es : List Entry) → IsOneOf x.session x.tx es → h' ≡ h ++ es → of_sessions h' ≡ of_sessions h + 1
          by (e ∷ []) is now = ap of_sessions now ∙ (continues e is.0 is.1).counted
          by [] is now = absurd is
          by (e ∷ f ∷ es) is now = absurd is

      pub own_live : (h' : List Entry) → h' ≡ h ++ es → (live_count h' ≡ live_count h) × (live_count h ≤ 64)
      own_live h' now = (by es one now, subst (λ m. m ≤ 64) k.begun.counted k.begun.most)
        where
          by : (es : List Entry) → IsOneOf x.session x.tx es → h' ≡ h ++ es → live_count h' ≡ live_count h
          by (e ∷ []) is now = ap live_count now ∙ continues_live h (h ++ e ∷ []) x.session 1 1 (continues e is.0 is.1)
          by [] is now = absurd is
          by (e ∷ f ∷ es) is now = absurd is

-- one entry
pub one_long : (session tx : ℕ) (es : List Entry) → IsOneOf session tx es → length es ≡ 1
one_long session tx (e ∷ []) is = refl
one_long session tx [] is = absurd is
one_long session tx (e ∷ f ∷ es) is = absurd is
