-- What the calls of a pool enter, and why they are refused.
use Rattle.std.proofs.Common.{◌≡◌, ℕ, suc, List, [], ◌∷◌, ◌++◌, Option, Some, None, Bool, true, false, cond, refl, sym, ap, subst, ◌∙◌, arith, inl, inr}
use Rattle.std.specs.Prelude.{IfErr, IfNone, OnOk, OnErr, Result, Ok, Err, is_ok}
use Rattle.std.specs.List.{list_all}
use Rattle.books.specs.Rights.{PageClaim}
use Rattle.front.specs.Seen.{PassSeen}
use Rattle.store_model.proofs.Bools.{both_true, and_true}
use Rattle.wal_record.proofs.Along.{along_push}
use Rattle.store_model.specs.declared.fault.Fault.{Fault}
use Rattle.store_model.specs.declared.fault.Fault.TheVariants as faults
use Rattle.wal_record.specs.declared.record.Record.{Record}
use Rattle.wal_record.specs.declared.record.Record.TheVariants as kinds
use Rattle.wal_record.specs.declared.entry.Entry.{Entry}
use Rattle.wal_record.specs.declared.entry.Entry.TheVariants as entries
use Rattle.page_ops.specs.Names.{LedgerName}
use Rattle.page_ops.specs.Causes.{IsOpen, MeetsNoEnd, EndsBy, FailsToEnter, FailsToFlush, FailsToBring, FailsToReserve, NoOther, OrFull}
use Rattle.page_ops.specs.Claims.{Claims, no_claims}
use Rattle.page_ops.specs.Desks.{Faults, KeepsFaults}
use Rattle.page_ops.specs.Gains.{Gains}
use Rattle.page_ops.specs.Seeing.{Account, Known, known, Enters, Upholds, is_none, is_of_session, is_upkeep, of_sessions}
use Rattle.page_ops.proofs.Composing.{bring_then}
use Rattle.page_ops.proofs.Gaining.{gains_of, gains_of_upheld, gains_then, goes_of, looked, upheld, upheld_then}
use Rattle.wal_record.specs.History.{life_log}
use Rattle.wal_record.specs.Upkeep.{written_lsn}
use Rattle.page_ops.specs.Outcomes.{IsFull, repairs}
use Rattle.page_ops.specs.declared.group.Group.{Group}
use Rattle.buffer_pool.specs.Repairs.{Repairs}
use Rattle.buffer_pool.specs.Writes.{is_written}
use Rattle.page_repair.specs.Supplies.{is_restored}

-- ---- kinds of entries

restored_record : (r : Record) (lsn : ℕ) → is_restored (entries.Rec lsn r) ≡ true → is_upkeep (entries.Rec lsn r) ≡ true
restored_record (kinds.Restored x) lsn h = refl
restored_record (kinds.Format x) lsn h = absurd (cc h)
restored_record (kinds.Write x) lsn h = absurd (cc h)
restored_record (kinds.Apply x) lsn h = absurd (cc h)
restored_record (kinds.Undo x) lsn h = absurd (cc h)
restored_record (kinds.Commit x) lsn h = absurd (cc h)
restored_record (kinds.End x) lsn h = absurd (cc h)
restored_record (kinds.Split x) lsn h = absurd (cc h)
restored_record (kinds.Adopt x) lsn h = absurd (cc h)
restored_record (kinds.Grow x) lsn h = absurd (cc h)
restored_record (kinds.Purge x) lsn h = absurd (cc h)
restored_record (kinds.Written x) lsn h = refl
restored_record (kinds.Checkpoint x) lsn h = absurd (cc h)
restored_record (kinds.BackupDone x) lsn h = absurd (cc h)
restored_record (kinds.RunDone x) lsn h = absurd (cc h)
restored_record (kinds.Lost x) lsn h = absurd (cc h)

pub restored_kind : (e : Entry) → is_restored e ≡ true → is_upkeep e ≡ true
restored_kind (entries.Rec lsn r) h = restored_record r lsn h
restored_kind (entries.Repaired page) h = refl
restored_kind (entries.Lock tx range mode) h = absurd (cc h)
restored_kind (entries.Refused tx range mode holder) h = absurd (cc h)
restored_kind (entries.Said session tx request reply) h = absurd (cc h)
restored_kind (entries.Declined session tx request why) h = absurd (cc h)
restored_kind (entries.Acked session tx) h = absurd (cc h)
restored_kind (entries.Began session tx) h = absurd (cc h)

pub none_written : (e : Entry) → is_none e ≡ true → is_written e ≡ true
none_written e is = absurd (cc is)

pub none_restored : (e : Entry) → is_none e ≡ true → is_restored e ≡ true
none_restored e is = absurd (cc is)

pub none_kind : (e : Entry) → is_none e ≡ true → is_upkeep e ≡ true
none_kind e h = absurd (cc h)

all_more : (k k' : Entry → Bool) → ((e : Entry) → k e ≡ true → k' e ≡ true) → (es : List Entry) → list_all k es ≡ true → list_all k' es ≡ true
all_more k k' more [] h = refl
all_more k k' more (e ∷ es) h = let both = both_true (k e) (list_all k es) h in and_true (k' e) (list_all k' es) (more e both.0) (all_more k k' more es both.1)

none_own : (es : List Entry) → list_all is_none es ≡ true → es ≡ []
none_own [] h = refl
none_own (e ∷ es) h = absurd (cc h)

of_sessions_push : (h : List Entry) (e : Entry) → of_sessions (h ++ e ∷ []) ≡ cond (is_of_session h e) (suc (of_sessions h)) (of_sessions h)
unfolding of_sessions
of_sessions_push h e = along_push _ _ h e

-- ---- what calls enter

module _ (opens : List Record → Type 0) (ledger sessions : LedgerName) where
  pub upheld_more : (k k' : Entry → Bool) → ((e : Entry) → k e ≡ true → k' e ≡ true) → (a b : Known) → Upholds opens ledger sessions k a b → Upholds opens ledger sessions k' a b
  upheld_more k k' more a b u = record {
    gained = u.gained;
    is = u.is;
    own = u.own;
    among = u.among;
    kinds = all_more k k' more u.own u.kinds;
    consistent = u.consistent;
    durable = u.durable;
    keeps = u.keeps;
    counted = u.counted;
    sessions_counted = u.sessions_counted;
    totals = u.totals;
  }

  -- one call behind another
  pub upheld_both : (k : Entry → Bool) (a b c : Known) → Upholds opens ledger sessions k a b → Upholds opens ledger sessions k b c → Upholds opens ledger sessions k a c
  upheld_both k a b c u v = upheld_then k opens ledger sessions a b c (goes_of k opens ledger sessions a b u) v

  -- one entry of no session
  pub upheld_one : (k : Entry → Bool) (e : Entry) (a a' : Account) (s s' : PassSeen Entry) → k e ≡ true → ((h : List Entry) → is_of_session h e ≡ false)
      → Enters opens ledger sessions (known a s no_claims) (e ∷ []) (known a' s' no_claims) → Upholds opens ledger sessions k (known a s no_claims) (known a' s' no_claims)
  upheld_one k e a a' s s' kind quiet x =
      let g = gains_of opens ledger sessions (e ∷ []) (known a s no_claims) (known a' s' no_claims) x in
      let same : of_sessions s'.log ≡ of_sessions x.moment = ap of_sessions x.is ∙ of_sessions_push x.moment e ∙ ap (λ (b : Bool). cond b (suc (of_sessions x.moment)) (of_sessions x.moment)) (quiet x.moment) in
      record {
        gained = g.gained;
        is = g.is;
        own = e ∷ [];
        among = g.among;
        kinds = and_true (k e) true kind refl;
        consistent = x.now.consistent;
        durable = x.durable;
        keeps = x.keeps;
        counted = x.counted;
        sessions_counted = omega (arith, same, x.sessions_counted);
        totals = x.totals;
      }

  -- a call that enters nothing of its own
  pub gains_none : (a b : Known) → Upholds opens ledger sessions is_none a b → Gains opens ledger sessions [] a b
  gains_none a b u = subst (λ (es : List Entry). Gains opens ledger sessions es a b) (none_own u.own u.kinds) (gains_of_upheld is_none opens ledger sessions a b u)

  -- and then one that enters these
  pub gains_behind : (es : List Entry) (a b c : Known) → Upholds opens ledger sessions is_none a b → Gains opens ledger sessions es b c → Gains opens ledger sessions es a c
  gains_behind es a b c u g = gains_then opens ledger sessions [] es a b c (gains_none a b u) g

-- ---- why calls are refused

module _ (opens : List Record → Type 0) (log_faults made : LedgerName) (old new : Account) (h : List Entry) where
  pub enter_fails : (own : Faults) (f : Fault) → FailsToEnter NoOther f → EndsBy opens log_faults made old new h f → FailsToBring opens log_faults made own own old new h f
  enter_fails own faults.Memory may why = why
  enter_fails own (faults.Ended at) may why = why
  enter_fails own _ may why = absurd may

  pub flush_fails : (own : Faults) (f : Fault) → FailsToFlush f → EndsBy opens log_faults made old new h f → FailsToReserve opens log_faults made own own old new h f
  flush_fails own faults.LogFault may why = (why.1, inr why.2)
  flush_fails own (faults.Ended at) may why = why
  flush_fails own _ may why = absurd may

pub none_met : (a : Account) → MeetsNoEnd a a
none_met a = record { ended = refl; amount = refl }

pub none_both : (a b c : Account) → MeetsNoEnd a b → MeetsNoEnd b c → MeetsNoEnd a c
none_both a b c x y = record { ended = y.ended ∙ x.ended; amount = y.amount ∙ x.amount }

pub open_both : {T : Type 0} (a b c : Account) (r : Result T Fault) → MeetsNoEnd a b → OnOk r (MeetsNoEnd b c) → OnOk r (MeetsNoEnd a c)
open_both a b c (Ok x) none then = none_both a b c none then
open_both a b c (Err f) none then = tt

pub faults_self : (f : Faults) → KeepsFaults f f
faults_self f = record { log = omega arith; vault = omega arith }

pub faults_both : (a b c : Faults) → KeepsFaults a b → KeepsFaults b c → KeepsFaults a c
faults_both a b c x y = let l = x.log in let l' = y.log in let v = x.vault in let v' = y.vault in record { log = omega (arith, l, l'); vault = omega (arith, v, v') }

-- a refusal behind calls that were done
module _ (opens : List Record → Type 0) (ledger sessions log_faults made : LedgerName) (kind : Entry → Bool) (first old : Known) (went : Upholds opens ledger sessions kind first old) (none : MeetsNoEnd first.account old.account) (new : Account) (h : List Entry) where
  pub bring_behind : (own own' now : Faults) (f : Fault) → KeepsFaults own own' → FailsToBring opens log_faults made own' now old.account new h f → FailsToBring opens log_faults made own now first.account new h f
  bring_behind own own' now f k why = bring_then opens log_faults made first.account old.account new h none went.keeps own own' now f k why

  pub bring_behind_all : {T : Type 0} (own own' now : Faults) (r : Result T Fault) → KeepsFaults own own' → IfErr r (FailsToBring opens log_faults made own' now old.account new h) → IfErr r (FailsToBring opens log_faults made own now first.account new h)
  bring_behind_all own own' now (Ok x) k why = tt
  bring_behind_all own own' now (Err f) k why = bring_behind own own' now f k why

  pub reserve_behind : (own : Faults) (f : Fault) → FailsToReserve opens log_faults made own own old.account new h f → FailsToReserve opens log_faults made own own first.account new h f
  reserve_behind own faults.VaultFault why = absurd why
  reserve_behind own (faults.LogBad block byte) why = absurd why
  reserve_behind own (faults.VaultBad object byte) why = absurd why
  reserve_behind own faults.Memory why = bring_behind own own own faults.Memory (faults_self own) why
  reserve_behind own faults.LogFault why = bring_behind own own own faults.LogFault (faults_self own) why
  reserve_behind own (faults.Ended at) why = bring_behind own own own (faults.Ended at) (faults_self own) why
  reserve_behind own _ why = absurd why

pub open_met : (a b : Account) → IsOpen a × IsOpen b → MeetsNoEnd a b
open_met a b e = record { ended = e.1.0 ∙ sym e.0.0; amount = e.1.1 ∙ sym e.0.1 }

-- ---- repairs

-- of the page whose right was handed in
pub repair_at : (opens : List Record → Type 0) (ledger sessions : LedgerName) (page lsn : ℕ) (p : PageClaim) (a b : Known) (r : Result (Option ℕ) Fault) → p ≡ record { page = page; lsn = lsn }
    → Enters opens ledger sessions a (repairs {T = ℕ} p.page r) b → Enters opens ledger sessions a (repairs {T = ℕ} page r) b
repair_at opens ledger sessions page lsn p a b r is e = subst (λ (q : PageClaim). Enters opens ledger sessions a (repairs {T = ℕ} q.page r) b) is e

pub none_at : (opens : List Record → Type 0) (h : List Entry) (page lsn : ℕ) (p : PageClaim) (o : Option ℕ) → p ≡ record { page = page; lsn = lsn }
    → IfNone o ((opening : List Record) → opens opening → written_lsn (life_log opening h) p.page ≡ 0) → IfNone o ((opening : List Record) → opens opening → written_lsn (life_log opening h) page ≡ 0)
none_at opens h page lsn p o is e = subst (λ (q : PageClaim). IfNone o ((opening : List Record) → opens opening → written_lsn (life_log opening h) q.page ≡ 0)) is e

module _ (opens : List Record → Type 0) (ledger sessions : LedgerName) (page : ℕ) where
  pub repairs_err : {T : Type 0} (given : Bool) (f : Fault) (a b : Known) → Upholds opens ledger sessions is_none a b → Repairs {T = T} opens ledger sessions page given (Err f) a b
  repairs_err given f a b u = record { own = []; is = refl; gains = gains_none opens ledger sessions a b u }

  pub repairs_given : {T : Type 0} (given : Bool) (x : T) (a b : Known) → given ≡ true → Upholds opens ledger sessions is_none a b → Repairs opens ledger sessions page given (Ok x) a b
  repairs_given {T} given x a b is u = subst (λ (g : Bool). Repairs opens ledger sessions page g (Ok x) a b) (sym is) (record { own = []; is = refl; gains = gains_none opens ledger sessions a b u })

  -- behind a call that enters nothing of its own
  pub repairs_behind : {T : Type 0} (given : Bool) (r : Result T Fault) (a b c : Known) → Upholds opens ledger sessions is_none a b → Repairs opens ledger sessions page given r b c → Repairs opens ledger sessions page given r a c
  repairs_behind given r a b c u x = record { own = x.own; is = x.is; gains = gains_behind opens ledger sessions x.own a b c u x.gains }

  module _ (a a' a'' : Account) (s s' s'' : PassSeen Entry) (u : Upholds opens ledger sessions is_none (known a s no_claims) (known a' s' no_claims)) where
    pub repairs_ok : {T : Type 0} (given : Bool) (x : T) (o : Option ℕ) → given ≡ false → Enters opens ledger sessions (known a' s' no_claims) (repairs {T = ℕ} page (Ok o)) (known a'' s'' no_claims)
        → IfNone o ((opening : List Record) → opens opening → written_lsn (life_log opening s''.log) page ≡ 0) → Repairs opens ledger sessions page given (Ok x) (known a s no_claims) (known a'' s'' no_claims)
    repairs_ok {T} given x (Some pos) is e none = subst (λ (g : Bool). Repairs opens ledger sessions page g (Ok x) (known a s no_claims) (known a'' s'' no_claims)) (sym is) (record {
      own = entries.Repaired page ∷ [];
      is = inl refl;
      gains = gains_behind opens ledger sessions (entries.Repaired page ∷ []) (known a s no_claims) (known a' s' no_claims) (known a'' s'' no_claims) u (gains_of opens ledger sessions (entries.Repaired page ∷ []) (known a' s' no_claims) (known a'' s'' no_claims) e);
    })
    repairs_ok {T} given x None is e none = subst (λ (g : Bool). Repairs opens ledger sessions page g (Ok x) (known a s no_claims) (known a'' s'' no_claims)) (sym is) (record {
      own = [];
      is = inr (refl, none);
      gains = gains_behind opens ledger sessions [] (known a s no_claims) (known a' s' no_claims) (known a'' s'' no_claims) u (gains_of opens ledger sessions [] (known a' s' no_claims) (known a'' s'' no_claims) e);
    })

    pub upheld_repair : (o : Option ℕ) → Enters opens ledger sessions (known a' s' no_claims) (repairs {T = ℕ} page (Ok o)) (known a'' s'' no_claims) → Upholds opens ledger sessions is_upkeep (known a s no_claims) (known a'' s'' no_claims)
    upheld_repair (Some pos) e = upheld_both opens ledger sessions is_upkeep _ _ _ (upheld_more opens ledger sessions is_none is_upkeep none_kind _ _ u) (upheld_one opens ledger sessions is_upkeep (entries.Repaired page) a' a'' s' s'' refl (λ h. refl) e)
    upheld_repair None e = upheld_both opens ledger sessions is_upkeep _ _ _ (upheld_more opens ledger sessions is_none is_upkeep none_kind _ _ u) (upheld opens ledger sessions is_upkeep a' a'' s' s'' e)

-- whose right isn't looked at
pub looks : (opens : List Record → Type 0) (ledger sessions : LedgerName) (k : Entry → Bool) (a a' : Account) (s s' : PassSeen Entry) (x x' : Claims) → Enters opens ledger sessions (known a s x) [] (known a' s' x')
    → Upholds opens ledger sessions k (known a s no_claims) (known a' s' no_claims)
looks opens ledger sessions k a a' s s' x x' e = upheld opens ledger sessions k a a' s s' (looked opens ledger sessions a a' s s' x x' e)

-- a group of which nothing was declined is refused like any other entry
pub ask_fails : (opens : List Record → Type 0) (log_faults made : LedgerName) (old new : Account) (h h' : List Entry) (g : Group) (own : Faults) (f : Fault) → g.room ≡ false → FailsToEnter OrFull f → IsFull opens h' g f
    → EndsBy opens log_faults made old new h f → FailsToReserve opens log_faults made own own old new h f
ask_fails opens log_faults made old new h h' g own faults.Memory none may full why = why
ask_fails opens log_faults made old new h h' g own (faults.Ended at) none may full why = why
ask_fails opens log_faults made old new h h' g own (faults.Full pages pending at) none may full why = absurd (cc (sym none ∙ full.0))
ask_fails opens log_faults made old new h h' g own _ none may full why = absurd may

pub rose_of : {T E : Type 0} (r : Result T E) (P : Type 0) → is_ok r ≡ false → OnErr r P → P
rose_of (Ok x) P bad p = absurd (cc bad)
rose_of (Err e) P bad p = p
