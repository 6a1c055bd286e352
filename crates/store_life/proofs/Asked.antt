-- What a request adds where nobody else enters anything.
use Rattle.std.proofs.Common.{◌≡◌, ℕ, Bool, true, false, List, [], ◌++◌, Result, Ok, Err, refl, sym, ap, subst, ◌∙◌, append_assoc, ◌≤◌, arith}
use Rattle.std.specs.Prelude.{IfOk}
use Rattle.std.specs.List.{All, list_all}
use Rattle.std.proofs.lemmas.List.Elements.{All-append, All-cons, All-nil}
use mathlib.Core.List.{IsPrefix}
use Rattle.books.specs.Rights.{SessionClaim}
use Rattle.front.specs.Seen.{PassSeen}
use Rattle.store_model.specs.declared.fault.Fault.{Fault}
use Rattle.store_model.specs.declared.fault.Fault.TheVariants as faults
use Rattle.store_model.specs.declared.request.Request.{Request}
use Rattle.wal_record.specs.Locks.{Held}
use Rattle.wal_record.specs.declared.record.Record.{Record}
use Rattle.wal_record.specs.declared.record.Record.TheVariants as kinds
use Rattle.wal_record.specs.declared.entry.Entry.{Entry}
use Rattle.wal_record.specs.declared.entry.Entry.TheVariants.{Rec, Repaired}
use Rattle.page_ops.specs.Names.{LedgerName}
use Rattle.command_laws.specs.Alone.{IsAlone}
use Rattle.command_laws.specs.Commands.{Amid, IsBesideRequest}
use Rattle.command_laws.proofs.Alone.{entered, found, still_alone}
use Rattle.command_laws.proofs.Listed.{amid_behind, each_by, one_of}
use Rattle.rollback.specs.Rolls.{Standing, known_by}
use Rattle.engine.specs.Answers.{AreLast, Answers, IsSaidAt}
use Rattle.engine.specs.Beside.{AreInWay, is_beside, lock_entries}
use Rattle.engine.specs.Requests.{lock_of}
use Rattle.engine.specs.declared.answered.Answered.{Answered}
use Rattle.store_life.specs.Turns.{AreOwn, Asks, IsTold, WasInWay}

-- what stands beside a request
module _ (opens : List Record → Type 0) (h : List Entry) (lock : Held) (tx : ℕ) where
  module _ (losers : List ℕ) (in_way : AreInWay opens h lock losers) where
    beside : (e : Entry) → is_beside losers e ≡ true → IsBesideRequest (WasInWay opens h lock) tx lock e
    beside (Rec lsn (kinds.Undo u)) is = one_of (WasInWay opens h lock) u.tx losers is in_way
    beside (Rec lsn (kinds.End e)) is = one_of (WasInWay opens h lock) e.tx losers is in_way
    beside (Rec lsn (kinds.Split s)) is = tt
    beside (Rec lsn (kinds.Grow g)) is = tt
    beside (Rec lsn (kinds.Adopt a)) is = tt
    beside (Rec lsn (kinds.Purge p)) is = tt
    beside (Rec lsn (kinds.Written w)) is = tt
    beside (Rec lsn (kinds.Restored r)) is = tt
    beside (Repaired page) is = tt
    beside _ is = absurd cc

    pub all_beside : (es : List Entry) → list_all (is_beside losers) es ≡ true → All (λ (e : Entry). IsBesideRequest (WasInWay opens h lock) tx lock e) es
    all_beside es is = each_by (is_beside losers) (λ (e : Entry). IsBesideRequest (WasInWay opens h lock) tx lock e) beside es is

  pub lock_beside : (granted : Bool) → All (λ (e : Entry). IsBesideRequest (WasInWay opens h lock) tx lock e) (lock_entries granted tx lock)
  lock_beside true = All-cons (λ (e : Entry). IsBesideRequest (WasInWay opens h lock) tx lock e) _ [] (refl, refl, refl) (All-nil (λ (e : Entry). IsBesideRequest (WasInWay opens h lock) tx lock e))
  lock_beside false = All-nil (λ (e : Entry). IsBesideRequest (WasInWay opens h lock) tx lock e)

-- the entries by which it is answered are its own
own_of : (s : SessionClaim) (request : Request) (result : Result Answered Fault) (granted : Bool) (es : List Entry) → AreLast s request result granted es → AreOwn s.session s.tx request result es
own_of s request (Ok a) granted es last = last.1
own_of s request (Err (faults.Conflict holder range at)) granted es last = last.1
own_of s request (Err (faults.Full pages pending at)) granted es last = last.1
own_of s request (Err (faults.OpRefused at)) granted es last = last.1
own_of s request (Err _) granted es last = last

joined : (before lock behind last : List Entry) → before ++ (lock ++ (behind ++ last)) ≡ (before ++ (lock ++ behind)) ++ last
joined before lock behind last = ap (λ (l : List Entry). before ++ l) (sym (append_assoc lock behind last)) ∙ sym (append_assoc before (lock ++ behind) last)

module _ (opens : List Record → Type 0) (ledger sessions : LedgerName) (s : SessionClaim) (request : Request) (result : Result Answered Fault) (x y : Standing) (h : List Entry)
    (alone : IsAlone opens ledger x.account h) (begins : IsPrefix h x.seen.log) (answers : Answers opens ledger sessions s request result x y) where
  pub asked : Asks opens s.session s.tx request result h y.seen.log
  asked =
      let w = answers.serves in
      let lock = lock_of request in
      let locked = lock_entries answers.granted s.tx lock in
      let all = w.before ++ (locked ++ (w.behind ++ answers.last)) in
      let all_found : x.seen.log ≡ h = found opens ledger sessions h all (known_by x) (known_by y) alone begins w.gains in
      let in_way = subst (λ (l : List Entry). AreInWay opens l lock w.losers) all_found w.in_way in
      let Q : Entry → Type 0 = λ (e : Entry). IsBesideRequest (WasInWay opens h lock) s.tx lock e in
      let others : All Q (w.before ++ (locked ++ w.behind))
      = All-append Q w.before (locked ++ w.behind) (all_beside opens h lock s.tx w.losers in_way w.before w.undone)
      (All-append Q locked w.behind (lock_beside opens h lock s.tx answers.granted) (all_beside opens h lock s.tx [] tt w.behind w.kept_up)) in
      record {
        entries = all;
        added = entered opens ledger sessions h all (known_by x) (known_by y) alone begins w.gains;
        own = answers.last;
        are = own_of s request result answers.granted answers.last answers.by;
        among = subst (λ (es : List Entry). Amid Q answers.last es) (sym (joined w.before locked w.behind answers.last)) (amid_behind Q (w.before ++ (locked ++ w.behind)) others answers.last);
      }

  pub alone_then : IsAlone opens ledger y.account y.seen.log
  alone_then =
      let w = answers.serves in
      still_alone opens ledger sessions h (w.before ++ (lock_entries answers.granted s.tx (lock_of request) ++ (w.behind ++ answers.last))) (known_by x) (known_by y) alone begins w.gains

told_one : (opens : List Record → Type 0) (s : SessionClaim) (request : Request) (h : List Entry) (a : Answered) → IsSaidAt opens s request h a → IsTold opens s.session s.tx request h a
told_one opens s request h a said = record { before = said.before; own = said.last; is = said.is; tells = said.tells; place = said.place; reply = said.reply; room = said.room; fresh = said.fresh }

pub told : (opens : List Record → Type 0) (s : SessionClaim) (request : Request) (h : List Entry) (result : Result Answered Fault) → IfOk result (IsSaidAt opens s request h) → IfOk result (IsTold opens s.session s.tx request h)
told opens s request h (Ok a) said = told_one opens s request h a said
told opens s request h (Err fault) said = tt

-- of the session as it was handed in, and the pass behind it
module _ (opens : List Record → Type 0) (ledger sessions : LedgerName) (s0 s : SessionClaim) (same : s ≡ s0) (request : Request) (result : Result Answered Fault) (x y : Standing) (now : PassSeen Entry) (is : now ≡ y.seen) (h : List Entry)
    (alone : IsAlone opens ledger x.account h) (begins : IsPrefix h x.seen.log) (answers : Answers opens ledger sessions s request result x y) where
  pub asks_for : Asks opens s0.session s0.tx request result h now.log
  asks_for = subst (λ (c : SessionClaim). Asks opens c.session c.tx request result h now.log) same (subst (λ (p : PassSeen Entry). Asks opens s.session s.tx request result h p.log) (sym is) (asked opens ledger sessions s request result x y h alone begins answers))

  pub alone_for : IsAlone opens ledger y.account now.log
  alone_for = subst (λ (p : PassSeen Entry). IsAlone opens ledger y.account p.log) (sym is) (alone_then opens ledger sessions s request result x y h alone begins answers)

  pub told_for : IfOk result (IsSaidAt opens s request y.seen.log) → IfOk result (IsTold opens s0.session s0.tx request now.log)
  told_for said = subst (λ (c : SessionClaim). IfOk result (IsTold opens c.session c.tx request now.log)) same (subst (λ (p : PassSeen Entry). IfOk result (IsTold opens s.session s.tx request p.log)) (sym is) (told opens s request y.seen.log result said))

  pub later_for : (old : ℕ) → old ≤ x.seen.durable → old ≤ now.durable
  later_for old low = let d = answers.serves.gains.durable in let e = ap (λ (p : PassSeen Entry). p.durable) is in omega (arith, d, e, low)
