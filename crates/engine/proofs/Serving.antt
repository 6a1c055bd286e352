-- What the calls of a request enter, one after the other.
use Rattle.std.proofs.Common.{◌≡◌, ℕ, true, false, List, [], ◌∷◌, ◌++◌, Result, Ok, Err, refl, sym, ap, subst, ◌∙◌, append_assoc, append-nil}
use Rattle.std.specs.List.{list_all}
use mathlib.Core.List.{IsPrefix}
use Rattle.books.specs.Rights.{SessionClaim}
use Rattle.front.specs.Seen.{PassSeen}
use Rattle.store_model.specs.declared.fault.Fault.{Fault}
use Rattle.store_model.specs.declared.request.Request.{Request}
use Rattle.wal_record.specs.Locks.{Held}
use Rattle.wal_record.specs.declared.record.Record.{Record}
use Rattle.wal_record.specs.declared.entry.Entry.{Entry}
use Rattle.wal_record.specs.declared.entry.Entry.TheVariants as entries
use Rattle.page_ops.specs.Claims.{Claims, no_claims}
use Rattle.page_ops.specs.Desks.{Desk, Faults, KeepsFaults}
use Rattle.page_ops.specs.Gains.{Gains}
use Rattle.page_ops.specs.Names.{LedgerName}
use Rattle.page_ops.specs.Seeing.{Account, Enters, Upholds, is_upkeep, known}
use Rattle.page_ops.proofs.Gaining.{gains_of, gains_of_upheld, gains_then}
use Rattle.rollback.specs.Endings.{RollsOver}
use Rattle.rollback.specs.Rolls.{Standing, known_by, standing}
use Rattle.rollback.proofs.Composing.{faults_self, faults_then, reclaimed}
use Rattle.engine.specs.Answers.{Answers, AreLast, Locks, lock_answer}
use Rattle.engine.specs.Beside.{AreInWay, IsInWay, is_beside}
use Rattle.engine.specs.Completes.{Completes}
use Rattle.engine.specs.Requests.{lock_of}
use Rattle.engine.specs.declared.answered.Answered.{Answered}
use Rattle.engine.proofs.Beside.{all_both, in_way_before, kept_up, one_more, undoing}
use Rattle.engine.proofs.Going.{Went, gains_behind, went_none, went_of}

module _ (opens : List Record → Type 0) (ledger sessions : LedgerName) where
  -- ---- behind the lock

  -- so far nothing but what keeps pages up
  pub record Upkept (x y : Standing) : Type 0 where
    pub own : List Entry
    pub gains : Gains opens ledger sessions own (known_by x) (known_by y)
    pub kinds : list_all (is_beside []) own ≡ true
    pub faults : KeepsFaults x.desk.faults y.desk.faults

  pub upkept_of : (x y : Standing) → Upholds opens ledger sessions is_upkeep (known_by x) (known_by y) → KeepsFaults x.desk.faults y.desk.faults → Upkept x y
  upkept_of x y u kept = record { own = u.own; gains = gains_of_upheld is_upkeep opens ledger sessions (known_by x) (known_by y) u; kinds = kept_up u.own u.kinds; faults = kept }

  pub upkept_then : (x y z : Standing) → Upkept x y → Upkept y z → Upkept x z
  upkept_then x y z a b = record {
    own = a.own ++ b.own;
    gains = gains_then opens ledger sessions a.own b.own (known_by x) (known_by y) (known_by z) a.gains b.gains;
    kinds = all_both (is_beside []) a.own b.own a.kinds b.kinds;
    faults = faults_then x.desk.faults y.desk.faults z.desk.faults a.faults b.faults;
  }

  -- a look, whatever rights were handed in
  pub upkept_looked : (d : Desk) (a a' : Account) (s s' : PassSeen Entry) (c c' : Claims) → Enters opens ledger sessions (known a s c) [] (known a' s' c') → Upkept (standing d a s) (standing d a' s')
  upkept_looked d a a' s s' c c' e =
      record { own = []; gains = reclaimed opens ledger sessions [] a a' s s' c c' no_claims no_claims (gains_of opens ledger sessions [] (known a s c) (known a' s' c') e); kinds = refl; faults = faults_self d.faults }

  pub begins_upkept : (x y : Standing) → Upkept x y → IsPrefix x.seen.log y.seen.log
  begins_upkept x y u = (u.gains.gained, sym u.gains.is)

  -- where nothing was answered
  pub nothing_last : (s : SessionClaim) (request : Request) (result : Result Answered Fault) (x y : Standing) → AreLast s request result true [] → Upkept x y → Completes opens ledger sessions s request result x y
  nothing_last s request result x y by u = record { behind = u.own; last = []; gains = subst (λ (es : List Entry). Gains opens ledger sessions es (known_by x) (known_by y)) (sym (append-nil u.own)) u.gains; kept_up = u.kinds; by = by; faults = u.faults }

  -- and then these entries
  pub entered_last : (s : SessionClaim) (request : Request) (result : Result Answered Fault) (x : Standing) (d d' : Desk) (a a' : Account) (t t' : PassSeen Entry) (c c' : Claims) (last : List Entry) → d'.faults ≡ d.faults
      → Upkept x (standing d a t) → Enters opens ledger sessions (known a t c) last (known a' t' c') → AreLast s request result true last → Completes opens ledger sessions s request result x (standing d' a' t')
  entered_last s request result x d d' a a' t t' c c' last same u e by = record {
    behind = u.own;
    last = last;
    gains = gains_then opens ledger sessions u.own last (known_by x) (known a t no_claims) (known a' t' no_claims) u.gains (reclaimed opens ledger sessions last a a' t t' c c' no_claims no_claims (gains_of opens ledger sessions last (known a t c) (known a' t' c') e));
    kept_up = u.kinds;
    by = by;
    faults = subst (λ (f : Faults). KeepsFaults x.desk.faults f) (sym same) u.faults;
  }

  -- behind what keeps the tree and its pages up
  pub completes_then : (s : SessionClaim) (request : Request) (result : Result Answered Fault) (x y z : Standing) → Upkept x y → Completes opens ledger sessions s request result y z → Completes opens ledger sessions s request result x z
  completes_then s request result x y z u c = record {
    behind = u.own ++ c.behind;
    last = c.last;
    gains = subst (λ (es : List Entry). Gains opens ledger sessions es (known_by x) (known_by z)) (sym (append_assoc u.own c.behind c.last))
        (gains_then opens ledger sessions u.own (c.behind ++ c.last) (known_by x) (known_by y) (known_by z) u.gains c.gains);
    kept_up = all_both (is_beside []) u.own c.behind u.kinds c.kept_up;
    by = c.by;
    faults = faults_then x.desk.faults y.desk.faults z.desk.faults u.faults c.faults;
  }

  -- before calls of the pool alone
  pub completes_put : (s : SessionClaim) (request : Request) (result : Result Answered Fault) (x : Standing) (d d' : Desk) (a : Account) (t : PassSeen Entry) → d'.faults ≡ d.faults → Completes opens ledger sessions s request result x (standing d a t) → Completes opens ledger sessions s request result x (standing d' a t)
  completes_put s request result x d d' a t same c = record { behind = c.behind; last = c.last; gains = c.gains; kept_up = c.kept_up; by = c.by; faults = subst (λ (f : Faults). KeepsFaults x.desk.faults f) (sym same) c.faults }

  -- ---- the lock

  -- losers that were in the way were undone; the history may not have been seen since
  pub record Clears (lock : Held) (x y : Standing) : Type 0 where
    pub losers : List ℕ
    pub in_way : AreInWay opens x.seen.log lock losers
    pub own : List Entry
    pub went : Went own (known_by x) (known_by y)
    pub kinds : list_all (is_beside losers) own ≡ true
    pub faults : KeepsFaults x.desk.faults y.desk.faults

  -- at first none
  pub clears_none : (lock : Held) (x : Standing) → Clears lock x x
  clears_none lock x = record { losers = []; in_way = tt; own = []; went = went_none (known_by x); kinds = refl; faults = faults_self x.desk.faults }

  -- a loser in the way was found, and undone
  module _ (lock : Held) (x y : Standing) (a : Account) (t : PassSeen Entry) (z : Standing) (c c' : Claims) (loser : ℕ) (clears : Clears lock x y) (looked : Enters opens ledger sessions (known y.account y.seen c) [] (known a t c'))
      (way : (opening : List Record) → opens opening → IsInWay opening t.log lock loser) (rolls : RollsOver opens ledger sessions loser (standing y.desk a t) z) where
    first : Gains opens ledger sessions (clears.own ++ []) (known_by x) (known a t no_claims)
    first = gains_behind opens ledger sessions clears.own [] (known_by x) (known_by y) (known a t no_claims) clears.went (reclaimed opens ledger sessions [] y.account a y.seen t c c' no_claims no_claims (gains_of opens ledger sessions [] (known y.account y.seen c) (known a t c') looked))

    all : Gains opens ledger sessions (clears.own ++ rolls.own) (known_by x) (known_by z)
    all = subst (λ (es : List Entry). Gains opens ledger sessions es (known_by x) (known_by z)) (ap (λ (es : List Entry). es ++ rolls.own) (append-nil clears.own))
        (gains_then opens ledger sessions (clears.own ++ []) rolls.own (known_by x) (known a t no_claims) (known_by z) first rolls.gains)

    losers_now : AreInWay opens x.seen.log lock (loser ∷ clears.losers)
    losers_now = (in_way_before opens x.seen.log t.log lock loser (first.gained, sym first.is) looked.now.consistent way, clears.in_way)

    kinds_now : list_all (is_beside (loser ∷ clears.losers)) (clears.own ++ rolls.own) ≡ true
    kinds_now = all_both (is_beside (loser ∷ clears.losers)) clears.own rolls.own (one_more loser clears.losers clears.own clears.kinds) (undoing loser clears.losers rolls.own rolls.kinds)

    pub cleared_then : Clears lock x z
    cleared_then =
        record { losers = loser ∷ clears.losers; in_way = losers_now; own = clears.own ++ rolls.own; went = went_of opens ledger sessions (clears.own ++ rolls.own) (known_by x) (known_by z) all; kinds = kinds_now; faults = faults_then x.desk.faults y.desk.faults z.desk.faults clears.faults rolls.faults }

    -- or its undo was refused
    pub refused_lock : (tx : ℕ) (f : Fault) → lock_answer tx lock (Err f) ≡ [] → Locks opens ledger sessions tx lock (Err f) x z
    refused_lock tx f none = record {
      losers = loser ∷ clears.losers;
      in_way = losers_now;
      before = clears.own ++ rolls.own;
      gains = subst (λ (es : List Entry). Gains opens ledger sessions es (known_by x) (known_by z)) (sym (append-nil (clears.own ++ rolls.own)) ∙ ap (λ (es : List Entry). (clears.own ++ rolls.own) ++ es) (sym none)) all;
      undone = kinds_now;
      faults = faults_then x.desk.faults y.desk.faults z.desk.faults clears.faults rolls.faults;
    }

  -- the lock was answered
  pub answered_lock : (tx : ℕ) (lock : Held) (result : Result ℕ Fault) (x y : Standing) (a : Account) (t : PassSeen Entry) (c c' : Claims) → Clears lock x y → Enters opens ledger sessions (known y.account y.seen c) (lock_answer tx lock result) (known a t c')
      → Locks opens ledger sessions tx lock result x (standing y.desk a t)
  answered_lock tx lock result x y a t c c' clears entered = record {
    losers = clears.losers;
    in_way = clears.in_way;
    before = clears.own;
    gains = gains_behind opens ledger sessions clears.own (lock_answer tx lock result) (known_by x) (known_by y) (known a t no_claims) clears.went
        (reclaimed opens ledger sessions (lock_answer tx lock result) y.account a y.seen t c c' no_claims no_claims (gains_of opens ledger sessions (lock_answer tx lock result) (known y.account y.seen c) (known a t c') entered));
    undone = clears.kinds;
    faults = clears.faults;
  }

  -- ---- the whole

  -- behind its lock
  pub answers_behind : (s : SessionClaim) (request : Request) (pos : ℕ) (result : Result Answered Fault) (x y z : Standing) → Locks opens ledger sessions s.tx (lock_of request) (Ok pos) x y → Completes opens ledger sessions s request result y z
      → Answers opens ledger sessions s request result x z
  answers_behind s request pos result x y z l c =
      let lock = lock_of request in
      let one = entries.Lock s.tx lock.range lock.mode in
      record {
        granted = true;
        last = c.last;
        serves = record {
          losers = l.losers;
          in_way = l.in_way;
          before = l.before;
          behind = c.behind;
          gains = subst (λ (es : List Entry). Gains opens ledger sessions es (known_by x) (known_by z)) (append_assoc l.before (one ∷ []) (c.behind ++ c.last))
              (gains_then opens ledger sessions (l.before ++ one ∷ []) (c.behind ++ c.last) (known_by x) (known_by y) (known_by z) l.gains c.gains);
          undone = l.undone;
          kept_up = c.kept_up;
          faults = faults_then x.desk.faults y.desk.faults z.desk.faults l.faults c.faults;
        };
        by = c.by;
      }

  -- without it
  pub answers_unlocked : (s : SessionClaim) (request : Request) (f : Fault) (x y : Standing) → AreLast s request (Err f) false (lock_answer s.tx (lock_of request) (Err f)) → Locks opens ledger sessions s.tx (lock_of request) (Err f) x y → Answers opens ledger sessions s request (Err f) x y
  answers_unlocked s request f x y by l = record {
    granted = false;
    last = lock_answer s.tx (lock_of request) (Err f);
    serves = record { losers = l.losers; in_way = l.in_way; before = l.before; behind = []; gains = l.gains; undone = l.undone; kept_up = refl; faults = l.faults };
    by = by;
  }
