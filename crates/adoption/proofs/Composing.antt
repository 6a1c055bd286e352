-- Calls one after the other: what they enter, and why the last one is refused.
use Rattle.std.proofs.Common.{◌≡◌, Bool, true, false, cond, List, [], ◌∷◌, ◌++◌, suc, refl, sym, ap, subst, ◌∙◌, arith, append-nil}
use Rattle.std.specs.List.{list_all}
use mathlib.Core.List.{IsPrefix}
use Rattle.front.specs.Seen.{PassSeen}
use Rattle.store_model.specs.declared.fault.Fault.{Fault}
use Rattle.store_model.specs.declared.fault.Fault.TheVariants as faults
use Rattle.store_model.proofs.Bools.{both_true, and_true}
use Rattle.wal_record.specs.declared.record.Record.{Record}
use Rattle.wal_record.specs.declared.record.Record.TheVariants as kinds
use Rattle.wal_record.specs.declared.entry.Entry.{Entry}
use Rattle.wal_record.specs.declared.entry.Entry.TheVariants.{Rec, Repaired}
use Rattle.wal_record.proofs.Along.{along_push}
use Rattle.page_ops.specs.Causes.{MeetsNoEnd, EndsBy, FailsToBring, FailsToEnter, FailsToReserve, NoOther}
use Rattle.page_ops.specs.Claims.{Claims, no_claims}
use Rattle.page_ops.specs.Desks.{Desk, Faults, KeepsFaults}
use Rattle.page_ops.specs.Gains.{Goes, IsSettled}
use Rattle.page_ops.specs.Names.{LedgerName}
use Rattle.page_ops.specs.Seeing.{Account, Known, Enters, Upholds, is_upkeep, is_of_session, known, of_sessions}
use Rattle.page_ops.proofs.Composing.{bring_then}
use Rattle.page_ops.proofs.Gaining.{gains_of, goes_of, goes_self, goes_then, settled_of}
use Rattle.foster_tree.proofs.Causing.{none_met, none_then}
use Rattle.adoption.specs.Descents.{keeps_up, Standing, standing, known_by, GoesOn, Fails}

-- ---- kinds of entries

up_kind : (e : Entry) → is_upkeep e ≡ true → keeps_up e ≡ true
up_kind (Repaired page) h = refl
up_kind (Rec lsn (kinds.Written w)) h = refl
up_kind (Rec lsn (kinds.Restored r)) h = refl
up_kind _ h = absurd cc

up_kinds : (es : List Entry) → list_all is_upkeep es ≡ true → list_all keeps_up es ≡ true
up_kinds [] h = refl
up_kinds (e ∷ es) h = let both = both_true (is_upkeep e) (list_all is_upkeep es) h in and_true (keeps_up e) (list_all keeps_up es) (up_kind e both.0) (up_kinds es both.1)

pub goes_up : (a b : Known) → Goes is_upkeep a b → Goes keeps_up a b
goes_up a b g = record {
  gained = g.gained;
  is = g.is;
  own = g.own;
  among = g.among;
  kinds = up_kinds g.own g.kinds;
  durable = g.durable;
  keeps = g.keeps;
  counted = g.counted;
  sessions_counted = g.sessions_counted;
}

pub of_sessions_push : (h : List Entry) (e : Entry) → of_sessions (h ++ e ∷ []) ≡ cond (is_of_session h e) (suc (of_sessions h)) (of_sessions h)
unfolding of_sessions
of_sessions_push h e = along_push _ _ h e

module _ (opens : List Record → Type 0) (ledger sessions : LedgerName) where
  -- one entry of no session, whichever rights were handed in
  abbrev pub upheld_one : (k : Entry → Bool) (e : Entry) (a a' : Account) (s s' : PassSeen Entry) (x x' : Claims) → k e ≡ true → ((h : List Entry) → is_of_session h e ≡ false)
      → Enters opens ledger sessions (known a s x) (e ∷ []) (known a' s' x') → Upholds opens ledger sessions k (known a s no_claims) (known a' s' no_claims)
  upheld_one k e a a' s s' x x' kind quiet n =
      let g = gains_of opens ledger sessions (e ∷ []) (known a s x) (known a' s' x') n in
      let same : of_sessions s'.log ≡ of_sessions n.moment = ap of_sessions n.is ∙ of_sessions_push n.moment e ∙ ap (λ (b : Bool). cond b (suc (of_sessions n.moment)) (of_sessions n.moment)) (quiet n.moment) in
      record {
        gained = g.gained;
        is = g.is;
        own = e ∷ [];
        among = g.among;
        kinds = and_true (k e) true kind refl;
        consistent = n.now.consistent;
        durable = n.durable;
        keeps = n.keeps;
        counted = n.counted;
        sessions_counted = omega (arith, same, n.sessions_counted);
        totals = n.totals;
      }

  -- none
  abbrev pub upheld_none : (k : Entry → Bool) (a a' : Account) (s s' : PassSeen Entry) (x x' : Claims) → Enters opens ledger sessions (known a s x) [] (known a' s' x') → Upholds opens ledger sessions k (known a s no_claims) (known a' s' no_claims)
  upheld_none k a a' s s' x x' n =
      let g = gains_of opens ledger sessions [] (known a s x) (known a' s' x') n in
      let same : of_sessions s'.log ≡ of_sessions n.moment = ap of_sessions (n.is ∙ append-nil n.moment) in
      record {
        gained = g.gained;
        is = g.is;
        own = [];
        among = tt;
        kinds = refl;
        consistent = n.now.consistent;
        durable = n.durable;
        keeps = n.keeps;
        counted = n.counted;
        sessions_counted = omega (arith, same, n.sessions_counted);
        totals = n.totals;
      }

-- ---- what is left of a thread's way to the pages

pub faults_self : (f : Faults) → KeepsFaults f f
faults_self f = record { log = omega arith; vault = omega arith }

pub faults_then : (a b c : Faults) → KeepsFaults a b → KeepsFaults b c → KeepsFaults a c
faults_then a b c x y =
    let l = x.log in
    let m = y.log in
    let v = x.vault in
    let w = y.vault in
    record { log = omega (arith, l, m); vault = omega (arith, v, w) }

pub faults_same : (a b : Desk) → b.faults ≡ a.faults → KeepsFaults a.faults b.faults
faults_same a b e = let l = ap (λ (f : Faults). f.log) e in let v = ap (λ (f : Faults). f.vault) e in record { log = omega (arith, l); vault = omega (arith, v) }

pub on_self : (x : Standing) → GoesOn x x
on_self x = record { goes = goes_self keeps_up x.account x.seen no_claims; none = none_met x.account; faults = faults_self x.desk.faults }

pub on_then : (x y z : Standing) → GoesOn x y → GoesOn y z → GoesOn x z
on_then x y z a b = record {
  goes = goes_then keeps_up (known_by x) (known_by y) (known_by z) a.goes b.goes;
  none = none_then x.account y.account z.account a.none b.none;
  faults = faults_then x.desk.faults y.desk.faults z.desk.faults a.faults b.faults;
}

-- calls of the pool alone
pub on_desk : (d d' : Desk) (a : Account) (s : PassSeen Entry) → d'.faults ≡ d.faults → GoesOn (standing d a s) (standing d' a s)
on_desk d d' a s e = record { goes = goes_self keeps_up a s no_claims; none = none_met a; faults = faults_same d d' e }

-- of a call that was done
pub on_of : (x y : Standing) → Goes is_upkeep (known_by x) (known_by y) → MeetsNoEnd x.account y.account → KeepsFaults x.desk.faults y.desk.faults → GoesOn x y
on_of x y g none kept = record { goes = goes_up (known_by x) (known_by y) g; none = none; faults = kept }

pub on_upheld : (opens : List Record → Type 0) (ledger sessions : LedgerName) (x y : Standing) → Upholds opens ledger sessions is_upkeep (known_by x) (known_by y) → MeetsNoEnd x.account y.account → KeepsFaults x.desk.faults y.desk.faults → GoesOn x y
on_upheld opens ledger sessions x y u none kept = on_of x y (goes_of is_upkeep opens ledger sessions (known_by x) (known_by y) u) none kept

pub on_kept : (opens : List Record → Type 0) (ledger sessions : LedgerName) (x y : Standing) → Upholds opens ledger sessions keeps_up (known_by x) (known_by y) → MeetsNoEnd x.account y.account → KeepsFaults x.desk.faults y.desk.faults → GoesOn x y
on_kept opens ledger sessions x y u none kept = record { goes = goes_of keeps_up opens ledger sessions (known_by x) (known_by y) u; none = none; faults = kept }

pub on_begins : (x y : Standing) → GoesOn x y → IsPrefix x.seen.log y.seen.log
on_begins x y on = (on.goes.gained, sym on.goes.is)

-- ---- refusals

module _ (opens : List Record → Type 0) (log_faults made : LedgerName) (old new : Account) (h : List Entry) where
  enter_fails : (own : Faults) (f : Fault) → FailsToEnter NoOther f → EndsBy opens log_faults made old new h f → FailsToBring opens log_faults made own own old new h f
  enter_fails own faults.Memory may why = why
  enter_fails own (faults.Ended at) may why = why
  enter_fails own _ may why = absurd may

  pub reserve_fails : (own now : Faults) (f : Fault) → FailsToReserve opens log_faults made own now old new h f → FailsToBring opens log_faults made own now old new h f
  reserve_fails own now faults.Memory why = why
  reserve_fails own now faults.LogFault why = why
  reserve_fails own now faults.VaultFault why = absurd why
  reserve_fails own now (faults.Ended at) why = why
  reserve_fails own now (faults.LogBad block byte) why = absurd why
  reserve_fails own now (faults.VaultBad object byte) why = absurd why
  reserve_fails own now _ why = absurd why

module _ (opens : List Record → Type 0) (ledger sessions log_faults made : LedgerName) where
  abbrev Failed : Standing → Standing → Fault → Type 0
  Failed x y f = Fails opens ledger sessions log_faults made x y f

  -- of a call behind others that were done
  pub fails_then : (x y z : Standing) (f : Fault) → GoesOn x y → Failed y z f → Failed x z f
  fails_then x y z f on e = record {
    goes = goes_then keeps_up (known_by x) (known_by y) (known_by z) on.goes e.goes;
    settled = e.settled;
    why = bring_then opens log_faults made x.account y.account z.account z.seen.log on.none on.goes.keeps x.desk.faults y.desk.faults z.desk.faults f on.faults e.why;
    faults = faults_then x.desk.faults y.desk.faults z.desk.faults on.faults e.faults;
    out = e.out;
  }

  -- pages are put back behind it
  pub fails_desk : (x : Standing) (d d' : Desk) (a : Account) (s : PassSeen Entry) (f : Fault) → FailsToBring opens log_faults made x.desk.faults d.faults x.account a s.log f → Goes keeps_up (known_by x) (known a s no_claims)
      → IsSettled opens ledger sessions a s.log → KeepsFaults x.desk.faults d.faults → d'.faults ≡ d.faults → d'.out ≡ 0 → Failed x (standing d' a s) f
  fails_desk x d d' a s f why goes settled kept same out = record {
    goes = goes;
    settled = settled;
    why = subst (λ (now : Faults). FailsToBring opens log_faults made x.desk.faults now x.account a s.log f) (sym same) why;
    faults = faults_then x.desk.faults d.faults d'.faults kept (faults_same d d' same);
    out = out;
  }

  -- of a call that brings pages
  pub fails_upheld : (x y : Standing) (f : Fault) → Upholds opens ledger sessions is_upkeep (known_by x) (known_by y) → FailsToBring opens log_faults made x.desk.faults y.desk.faults x.account y.account y.seen.log f
      → KeepsFaults x.desk.faults y.desk.faults → y.desk.out ≡ 0 → Failed x y f
  fails_upheld x y f u why kept out = record {
    goes = goes_up (known_by x) (known_by y) (goes_of is_upkeep opens ledger sessions (known_by x) (known_by y) u);
    settled = settled_of is_upkeep opens ledger sessions (known_by x) (known_by y) u;
    why = why;
    faults = kept;
    out = out;
  }

  -- of a call of the journal that entered nothing, behind which the pages in hand were put back
  pub fails_asked : (d d' : Desk) (a a' : Account) (s s' : PassSeen Entry) (c c' : Claims) (f : Fault) → Enters opens ledger sessions (known a s c) [] (known a' s' c') → FailsToEnter NoOther f → EndsBy opens log_faults made a a' s'.log f
      → d'.faults ≡ d.faults → d'.out ≡ 0 → Failed (standing d a s) (standing d' a' s') f
  fails_asked d d' a a' s s' c c' f n may why same out =
      let u = upheld_none opens ledger sessions keeps_up a a' s s' c c' n in
      fails_desk (standing d a s) d d' a' s' f (enter_fails opens log_faults made a a' s'.log d.faults f may why) (goes_of keeps_up opens ledger sessions (known a s no_claims) (known a' s' no_claims) u)
      (settled_of keeps_up opens ledger sessions (known a s no_claims) (known a' s' no_claims) u) (faults_self d.faults) same out

  -- of a call that may have seen nothing
  pub fails_goes : (x y : Standing) (f : Fault) → Goes is_upkeep (known_by x) (known_by y) → IsSettled opens ledger sessions y.account y.seen.log → FailsToBring opens log_faults made x.desk.faults y.desk.faults x.account y.account y.seen.log f
      → KeepsFaults x.desk.faults y.desk.faults → y.desk.out ≡ 0 → Failed x y f
  fails_goes x y f g settled why kept out = record { goes = goes_up (known_by x) (known_by y) g; settled = settled; why = why; faults = kept; out = out }
