-- What a caller knows where a call finds the life ended, wants memory, or meets a fault of the log disk.
use Rattle.std.proofs.Common.{◌≡◌, ℕ, ◌+◌, ◌<◌, List, [], length, Option, Some, None, refl, sym, ap, ◌∙◌, subst, inl, inr, arith}
use Rattle.std.specs.Prelude.{◌⊎◌, IfSome, IsTrue, is_some, IfErr, Result, Ok, Err}
use Rattle.front.specs.Seen.{PassSeen}
use Rattle.store_model.specs.declared.fault.Fault.{Fault}
use Rattle.store_model.specs.declared.fault.Fault.TheVariants as faults
use Rattle.wal_record.specs.declared.record.Record.{Record}
use Rattle.wal_record.specs.declared.entry.Entry.{Entry}
use Rattle.life_history.specs.Kept.{counted_more}
use Rattle.page_ops.specs.Causes.{Ends, IsOpen, MeetsNoEnd, EndsBy, FailsToEnter, FailsToFlush}
use Rattle.page_ops.specs.Claims.{Claims}
use Rattle.page_ops.specs.Names.{LedgerName}
use Rattle.page_ops.proofs.Gaining.{calls_self}
use Rattle.page_ops.specs.Seeing.{Account, Calls, CallsGoOn, Counted, known, Keeps, Enters, of_sessions}
use Rattle.journal.specs.Ends.{EndsCall, IsToldEnd, IsStopped, IsFailed, IsUnread}

kept_end : (was : Option ℕ) (at : ℕ) → (was ≡ None) ⊎ (was ≡ Some at) → IfSome was (λ x. Some at ≡ Some x)
kept_end None at is = tt
kept_end (Some x) at (inl none) = absurd (cc none)
kept_end (Some x) at (inr same) = sym same

keeps_same : (a : Account) → Keeps a a
keeps_same a = record {
  entry_parts = refl;
  session_parts = refl;
  log_parts = refl;
  vault_parts = refl;
  log_faults = omega arith;
  vault_faults = omega arith;
  made = refl;
  ended = same a.ended;
  calls = calls_self a.calls a.log_faults.amount;
}
  where
    same : (o : Option ℕ) → IfSome o (λ at. o ≡ Some at)
    same None = tt
    same (Some at) = refl

keeps_told : (a : Account) (at : ℕ) → (a.ended ≡ None) ⊎ (a.ended ≡ Some at) → Keeps a (record a { ended = Some at })
keeps_told a at before = record {
  entry_parts = refl;
  session_parts = refl;
  log_parts = refl;
  vault_parts = refl;
  log_faults = omega arith;
  vault_faults = omega arith;
  made = refl;
  ended = kept_end a.ended at before;
  calls = calls_self a.calls a.log_faults.amount;
}

keeps_failed : (a : Account) (n at : ℕ) → a.calls ≡ None → a.ended ≡ None → Keeps a (record (counted_more a n) { log_faults = record { parts = a.log_faults.parts; amount = a.log_faults.amount + 1 }; ended = Some at })
keeps_failed a n at untold runs = record {
  entry_parts = refl;
  session_parts = refl;
  log_parts = refl;
  vault_parts = refl;
  log_faults = omega arith;
  vault_faults = omega arith;
  made = refl;
  ended = kept_end a.ended at (inl runs);
  calls = subst (λ (o : Option Calls). CallsGoOn o o a.log_faults.amount (a.log_faults.amount + 1)) (sym untold) refl;
}

module _ (opens : List Record → Type 0) (entries sessions : LedgerName) (a0 q z : Account) (s0 s1 : PassSeen Entry) (x0 x1 : Claims) (es : List Entry) where
  -- more is known of an end than a call tells
  known_more : Enters opens entries sessions (known a0 s0 x0) es (known q s1 x1) → z.entries ≡ q.entries → z.session_entries ≡ q.session_entries → Keeps a0 z → Enters opens entries sessions (known a0 s0 x0) es (known z s1 x1)
  known_more e own belonging keeps = record {
    moment = e.moment;
    found = e.found;
    is = e.is;
    now = e.now;
    durable = e.durable;
    keeps = keeps;
    counted = ap (λ (c : Counted). c.amount) own ∙ e.counted;
    sessions_counted = ap (λ (c : Counted). c.amount + of_sessions e.moment) belonging ∙ e.sessions_counted;
    totals = record {
      all = λ whole. e.totals.all (ap (λ (c : Counted). c.parts) (sym own) ∙ whole) ∙ ap (λ (c : Counted). c.amount) (sym own);
      of_sessions = λ whole. e.totals.of_sessions (ap (λ (c : Counted). c.parts) (sym belonging) ∙ whole) ∙ ap (λ (c : Counted). c.amount) (sym belonging);
    };
  }

  -- it was known before the call
  known_before : Enters opens entries sessions (known q s0 x0) es (known z s1 x1) → a0.entries ≡ q.entries → a0.session_entries ≡ q.session_entries → Keeps a0 z → Enters opens entries sessions (known a0 s0 x0) es (known z s1 x1)
  known_before e own belonging keeps = record {
    moment = e.moment;
    found = e.found;
    is = e.is;
    now = e.now;
    durable = e.durable;
    keeps = keeps;
    counted = e.counted ∙ ap (λ (c : Counted). c.amount + length es) (sym own);
    sessions_counted = e.sessions_counted ∙ ap (λ (c : Counted). c.amount + of_sessions s1.log) (sym belonging);
    totals = e.totals;
  }

module _ (opens : List Record → Type 0) (entries sessions log_faults : LedgerName) (a0 a1 a2 : Account) (s0 s1 : PassSeen Entry) (x0 x1 : Claims) where
  -- a call that looked, and then found out
  pub stopped : (f : Fault) → Enters opens entries sessions (known a0 s0 x0) [] (known a1 s1 x1) → a1 ≡ a0 → IsStopped log_faults a1 a2 f → Enters opens entries sessions (known a0 s0 x0) [] (known a2 s1 x1)
  stopped faults.Memory e same is = subst (λ (a : Account). Enters opens entries sessions (known a0 s0 x0) [] (known a s1 x1)) (sym is) e
  stopped (faults.Ended at) e same is =
      let told : a2 ≡ record a0 { ended = Some at } = is.0 ∙ ap (λ (a : Account). record a { ended = Some at }) same in
      let before : (a0.ended ≡ None) ⊎ (a0.ended ≡ Some at) = subst (λ (a : Account). (a.ended ≡ None) ⊎ (a.ended ≡ Some at)) same is.1 in
      known_more opens entries sessions a0 a1 a2 s0 s1 x0 x1 [] e (ap (λ (a : Account). a.entries) is.0) (ap (λ (a : Account). a.session_entries) is.0) (subst (Keeps a0) (sym told) (keeps_told a0 at before))
  stopped _ e same is = absurd is

  -- one that found out, and then looked
  pub stopped_first : (f : Fault) → IsStopped log_faults a0 a1 f → Enters opens entries sessions (known a1 s0 x0) [] (known a2 s1 x1) → a2 ≡ a1 → Enters opens entries sessions (known a0 s0 x0) [] (known a2 s1 x1)
  stopped_first faults.Memory is e same = subst (λ (a : Account). Enters opens entries sessions (known a s0 x0) [] (known a2 s1 x1)) is e
  stopped_first (faults.Ended at) is e same =
      known_before opens entries sessions a0 a1 a2 s0 s1 x0 x1 [] e (ap (λ (a : Account). a.entries) (sym is.0)) (ap (λ (a : Account). a.session_entries) (sym is.0)) (subst (Keeps a0) (sym (same ∙ is.0)) (keeps_told a0 at is.1))
  stopped_first _ is e same = absurd is

  pub failed : (n : ℕ) (es : List Entry) → Enters opens entries sessions (known a0 s0 x0) es (known a1 s1 x1) → a1 ≡ counted_more a0 n → a0.ended ≡ None → IsFailed a1 a2 → Enters opens entries sessions (known a0 s0 x0) es (known a2 s1 x1)
  failed n es e more runs is =
      let now : a2 ≡ record (counted_more a0 n) { log_faults = record { parts = a0.log_faults.parts; amount = a0.log_faults.amount + 1 }; ended = Some is.at } =
      is.is ∙ ap (λ (a : Account). record a { log_faults = record { parts = a.log_faults.parts; amount = a.log_faults.amount + 1 }; ended = Some is.at }) more in
      known_more opens entries sessions a0 a1 a2 s0 s1 x0 x1 es e (ap (λ (a : Account). a.entries) is.is) (ap (λ (a : Account). a.session_entries) is.is) (subst (Keeps a0) (sym now) (keeps_failed a0 n is.at (ap (λ (a : Account). a.calls) (sym more) ∙ is.untold) runs))

-- ---- causes

pub told_stops : (log_faults : LedgerName) (a0 a1 : Account) (f : Fault) → IsToldEnd log_faults a0 a1 f → IsStopped log_faults a0 a1 f
told_stops log_faults a0 a1 (faults.Ended at) is = is
told_stops log_faults a0 a1 _ is = absurd is

pub stopped_ends : (opens : List Record → Type 0) (log_faults made : LedgerName) (a0 a1 a2 : Account) (h : List Entry) (f : Fault) → a1 ≡ a0 → IsStopped log_faults a1 a2 f → EndsBy opens log_faults made a0 a2 h f
stopped_ends opens log_faults made a0 a1 a2 h faults.Memory same is = subst (MeetsNoEnd a0) (sym (is ∙ same)) (record { ended = refl; amount = refl })
stopped_ends opens log_faults made a0 a1 a2 h (faults.Ended at) same is =
    let now : a2 ≡ record a0 { ended = Some at } = is.0 ∙ ap (λ (a : Account). record a { ended = Some at }) same in
    let before : (a0.ended ≡ None) ⊎ (a0.ended ≡ Some at) = subst (λ (a : Account). (a.ended ≡ None) ⊎ (a.ended ≡ Some at)) same is.1 in
    record {
      now = ap (λ (a : Account). a.ended) now;
      before = before;
      amount = ap (λ (a : Account). a.log_faults.amount) now;
      cause = λ none whole. absurd (is.2 (ap (λ (a : Account). a.log_faults.parts) same ∙ whole) (ap (λ (a : Account). a.log_faults.amount) same ∙ none));
    }
stopped_ends opens log_faults made a0 a1 a2 h _ same is = absurd is

pub failed_ends : (a0 a1 a2 : Account) (n : ℕ) → a1 ≡ counted_more a0 n → IsOpen a0 → IsFailed a1 a2 → IsOpen a0 × IsTrue (is_some a2.ended) × (a0.log_faults.amount < a2.log_faults.amount)
failed_ends a0 a1 a2 n more runs is =
    let now = ap (λ (a : Account). a.log_faults.amount) is.is in
    let was = ap (λ (a : Account). a.log_faults.amount) more in
    (runs, ap (λ (a : Account). is_some a.ended) is.is, omega (arith, now, was))

pub stopped_refuses : (log_faults : LedgerName) (other : Fault → Type 0) (a0 a1 : Account) (f : Fault) → IsStopped log_faults a0 a1 f → FailsToEnter other f
stopped_refuses log_faults other a0 a1 faults.Memory is = tt
stopped_refuses log_faults other a0 a1 (faults.Ended at) is = tt
stopped_refuses log_faults other a0 a1 _ is = absurd is

pub told_refuses : (log_faults : LedgerName) (a0 a1 : Account) (f : Fault) → IsToldEnd log_faults a0 a1 f → FailsToFlush f
told_refuses log_faults a0 a1 (faults.Ended at) is = tt
told_refuses log_faults a0 a1 _ is = absurd is

-- ---- calls of the log's disk

none_more : (a : Account) → a ≡ counted_more a 0
none_more a =
    let own : a.entries.amount ≡ a.entries.amount + 0 = omega arith in
    let belonging : a.session_entries.amount ≡ a.session_entries.amount + 0 = omega arith in
    λ i. record a { entries = record { parts = a.entries.parts; amount = own i }; session_entries = record { parts = a.session_entries.parts; amount = belonging i } }

module _ (ended : Option ℕ) (before after : ℕ) (a0 a1 a2 : Account) (same : a1 ≡ a0) (goes : IsOpen a0) where
  pub called : {A : Type 0} (opens : List Record → Type 0) (entries sessions log_faults : LedgerName) (s0 s1 : PassSeen Entry) (x0 x1 : Claims) (result : Result A Fault) → Enters opens entries sessions (known a0 s0 x0) [] (known a1 s1 x1)
      → EndsCall ended before after a1 a2 result → Enters opens entries sessions (known a0 s0 x0) [] (known a2 s1 x1)
  called opens entries sessions log_faults s0 s1 x0 x1 (Ok x) e g = subst (λ (a : Account). Enters opens entries sessions (known a0 s0 x0) [] (known a s1 x1)) (sym g.counts) e
  called opens entries sessions log_faults s0 s1 x0 x1 (Err faults.LogFault) e b = failed opens entries sessions log_faults a0 a1 a2 s0 s1 x0 x1 0 [] e (none_more a1 ∙ ap (λ (a : Account). counted_more a 0) same) goes.0 b.failed
  called opens entries sessions log_faults s0 s1 x0 x1 (Err _) e g = subst (λ (a : Account). Enters opens entries sessions (known a0 s0 x0) [] (known a s1 x1)) (sym g.counts) e

  pub called_ends : {A : Type 0} (opens : List Record → Type 0) (log_faults made : LedgerName) (h : List Entry) (result : Result A Fault) → EndsCall ended before after a1 a2 result → IfErr result IsUnread → Ends opens log_faults made a0 a2 h result
  called_ends opens log_faults made h (Ok x) g unread = (goes, subst IsOpen (sym (g.counts ∙ same)) goes)
  called_ends opens log_faults made h (Err faults.LogFault) b unread = failed_ends a0 a1 a2 0 (none_more a1 ∙ ap (λ (a : Account). counted_more a 0) same) goes b.failed
  called_ends opens log_faults made h (Err faults.Memory) g unread = subst (MeetsNoEnd a0) (sym (g.counts ∙ same)) (record { ended = refl; amount = refl })
  called_ends opens log_faults made h (Err (faults.LogBad block byte)) g unread = (goes, subst IsOpen (sym (g.counts ∙ same)) goes)
  called_ends opens log_faults made h (Err _) g unread = absurd unread
