-- A call that looks, and then enters entries of its own, told as one.
use Rattle.std.proofs.Common.{◌≡◌, ℕ, ◌+◌, ◌≤◌, List, [], ◌++◌, length, refl, sym, ap, ◌∙◌, subst, arith, length-append}
use Rattle.front.specs.Seen.{PassSeen}
use Rattle.front.proofs.Keeping.{prefix_trans}
use Rattle.wal_record.specs.declared.record.Record.{Record}
use Rattle.wal_record.specs.declared.entry.Entry.{Entry}
use Rattle.page_ops.specs.Names.{LedgerName}
use Rattle.page_ops.specs.Claims.{Claims, Agree}
use Rattle.page_ops.specs.Seeing.{Account, known, Keeps, Enters, IsMoment, IsConsistent, of_sessions}
use Rattle.life_history.specs.Kept.{counted_more}
use Rattle.life_history.proofs.Entries.{keeps_counted}

module _ (opens : List Record → Type 0) (entries sessions : LedgerName) (a0 a1 a3 : Account) (s0 s1 s3 : PassSeen Entry) (x0 x1 x3 : Claims) (h es : List Entry) (n : ℕ) where
  pub entered_then : Enters opens entries sessions (known a0 s0 x0) [] (known a1 s1 x1) → a1 ≡ a0 → x1 ≡ x0 → s1.log ≡ h → s3.log ≡ h ++ es → length es ≡ n → s1.durable ≤ s3.durable
      → a3 ≡ counted_more a1 n → of_sessions (h ++ es) ≡ of_sessions h + n → IsConsistent opens (h ++ es) → Agree opens (h ++ es) x3
      → Enters opens entries sessions (known a0 s0 x0) es (known a3 s3 x3)
  entered_then e account claims log now count more sums own consistent agrees =
      let first : IsMoment opens s0.log x0 h = subst (λ (y : Claims × List Entry). IsMoment opens s0.log y.0 y.1) (λ i. (claims i, log i)) e.now in
      let later : IsMoment opens s0.log x3 (h ++ es) = record { begins = prefix_trans s0.log h (h ++ es) first.begins (es, refl); consistent = consistent; rights = agrees } in
      let sum : a3 ≡ counted_more a0 n = sums ∙ ap (λ (a : Account). counted_more a n) account in
      let longer : length s3.log ≡ length h + length es = ap (λ (l : List Entry). length l) now ∙ length-append h es in
      let belonging : of_sessions s3.log ≡ of_sessions h + n = ap of_sessions now ∙ own in
      record {
        moment = h;
        found = first;
        is = now;
        now = subst (λ (l : List Entry). IsMoment opens s0.log x3 l) (sym now) later;
        durable = let was = e.durable in omega (arith, was, more);
        keeps = subst (λ (a : Account). Keeps a0 a) (sym sum) (keeps_counted a0 n);
        counted = ap (λ (a : Account). a.entries.amount) sum ∙ ap (λ m. a0.entries.amount + m) (sym count);
        sessions_counted = let total = ap (λ (a : Account). a.session_entries.amount) sum in omega (arith, belonging, total);
        totals = record {
          all = λ whole.
              let was = e.totals.all (ap (λ (a : Account). a.entries.parts) (sym sums) ∙ whole) in
              omega (arith, was, longer, count, ap (λ (l : List Entry). length l) log, ap (λ (a : Account). a.entries.amount) sums);
          of_sessions = λ whole.
              let was = e.totals.of_sessions (ap (λ (a : Account). a.session_entries.parts) (sym sums) ∙ whole) in
              omega (arith, was, belonging, ap of_sessions log, ap (λ (a : Account). a.session_entries.amount) sums);
        };
      }
