-- What each command makes of the names of live transactions.
use Rattle.std.proofs.Common.{◌≡◌, ℕ, ◌<◌, List, [], ◌∷◌, ◌++◌, length, Some, Result, Ok, Err, sym, ap, subst, ◌∙◌, arith, inl, inr}
use Rattle.std.specs.List.{All}
use Rattle.std.proofs.lemmas.List.{length-map, map-append}
use Rattle.std.proofs.lemmas.List.Elements.{All-append, All-cons, All-nil}
use Rattle.front.specs.Seen.{PassSeen}
use Rattle.store_model.specs.declared.fault.Fault.{Fault}
use Rattle.store_model.specs.declared.fault.Fault.TheVariants as faults
use Rattle.store_model.specs.declared.reply.Outcome.TheVariants as outcomes
use Rattle.store_model.specs.declared.request.Request.{Request}
use Rattle.wal_record.specs.History.{Live, live_count, phase}
use Rattle.wal_record.specs.Legal.{IsLegal}
use Rattle.wal_record.specs.declared.record.Record.{Record}
use Rattle.wal_record.specs.declared.record.Record.TheVariants as kinds
use Rattle.wal_record.specs.declared.entry.Entry.{Entry}
use Rattle.wal_record.specs.declared.entry.Entry.TheVariants.{Acked, Rec}
use Rattle.page_ops.specs.Outcomes.{IsCrowd}
use Rattle.page_ops.specs.Seeing.{Account}
use Rattle.page_ops.specs.declared.outcome.Committed.{Committed}
use Rattle.command_laws.specs.Commands.{Amid, Begins, IsBesideRequest, IsUpkeep, TakesBack, commit_record, end_record}
use Rattle.command_laws.specs.Names.{Active, AreNamed, active_of, without}
use Rattle.command_laws.proofs.Living.{BeginsNone, acknowledged, all_weaker, amid_each, amid_last, answers_none, begun_named, beside_none, few_live, left_named, over, still_named, undo_none, upkeep_none}
use Rattle.engine.specs.Requests.{lock_of}
use Rattle.engine.specs.declared.answered.Answered.{Answered}
use Rattle.store_life.specs.SoFar.{active_by, actives, left_by}
use Rattle.store_life.specs.Turns.{AreOwn, Asks, EndsBy, IsAborted, IsMarked, IsCommitted, IsDone, IsOfAbort, MayBeDone, WasInWay}
use Rattle.store_life.specs.declared.life.Named.{Named}

one : (e : Entry) → BeginsNone e → All BeginsNone (e ∷ [])
one e is = All-cons BeginsNone e [] is (All-nil BeginsNone)

-- ---- requests

own_none : (session tx : ℕ) (request : Request) (result : Result Answered Fault) (own : List Entry) → AreOwn session tx request result own → All BeginsNone own
own_none session tx request (Ok a) own is = answers_none session tx request (lock_of request) (outcomes.Replied a.reply) own is
own_none session tx request (Err (faults.Conflict holder range at)) own is = answers_none session tx request (lock_of request) (outcomes.Conflict holder range) own is
own_none session tx request (Err (faults.Full pages pending at)) own is = answers_none session tx request (lock_of request) (outcomes.Full pages pending) own is
own_none session tx request (Err (faults.OpRefused at)) own is = answers_none session tx request (lock_of request) outcomes.OpRefused own is
own_none session tx request (Err _) own is = subst (All BeginsNone) (sym is) (All-nil BeginsNone)

pub asked_named : (opens : List Record → Type 0) (session tx : ℕ) (request : Request) (result : Result Answered Fault) (h h' : List Entry) (active : List Active) → Asks opens session tx request result h h' → AreNamed h active → AreNamed h' active
asked_named opens session tx request result h h' active a named =
    let lock = lock_of request in
    let none = amid_each (IsBesideRequest (WasInWay opens h lock) tx lock) BeginsNone (beside_none (WasInWay opens h lock) tx lock) a.own a.entries (own_none session tx request result a.own a.are) a.among in
    subst (λ (l : List Entry). AreNamed l active) (sym a.added) (still_named h a.entries active none named)

-- ---- begin

pub pushed_named : {N : Type 0} (h h' : List Entry) (items pushed : List (Named N)) (last : Named N) (own : List Entry) → Begins h last.session.claim.session last.session.claim.tx own → h' ≡ h ++ own → pushed ≡ items ++ last ∷ [] → AreNamed h (actives items) → AreNamed h' (actives pushed)
pushed_named h h' items pushed last own b is now named =
    subst (λ (active : List Active). AreNamed h' active) (sym (ap actives now ∙ map-append active_by items (last ∷ [])))
    (subst (λ (l : List Entry). AreNamed l (actives items ++ active_by last ∷ [])) (sym (is ∙ ap (λ (es : List Entry). h ++ es) b.1)) (begun_named h (actives items) (active_by last) named))

same_fault : (f g : Fault) (r : Result ℕ Fault) → r ≡ Err f → r ≡ Err g → f ≡ g
same_fault f g r a b = let two : Err f ≡ Err g = sym a ∙ b in cc

-- below 64 names no more than these are live
pub uncrowded : {N : Type 0} (opening : List Record) (h h' : List Entry) (items : List (Named N)) (fault : Fault) → IsLegal opening h → AreNamed h (actives items) → length items < 64 → h' ≡ h → IsCrowd h' fault → (r : Result ℕ Fault) → r ≡ Err fault → r ≡ Err faults.TooManyActive → ⊥
uncrowded opening h h' items fault legal named few same crowd r by is =
    let n : live_count h' ≡ 64 = subst (IsCrowd h') (same_fault fault faults.TooManyActive r by is) crowd in
    let most = few_live opening h (actives items) legal named in
    let many : length (actives items) ≡ length items = length-map items _ in
    let now = ap live_count same in
    omega (arith, n, most, many, few, now)

-- ---- commit

module _ (opens : List Record → Type 0) (account : Account) (h : List Entry) (active : List Active) (name : List ℕ) (a : Active) (here : active_of active name ≡ Some a) (named : AreNamed h active) where
  commit_named : (h' : List Entry) (lsn prev : ℕ) → h' ≡ h ++ Rec lsn (commit_record a.tx prev) ∷ [] → AreNamed h' active
  commit_named h' lsn prev is = subst (λ (l : List Entry). AreNamed l active) (sym is) (still_named h (Rec lsn (commit_record a.tx prev) ∷ []) active (one (Rec lsn (commit_record a.tx prev)) tt) named)

  same_named : (h' : List Entry) → h' ≡ h → AreNamed h' active
  same_named h' is = subst (λ (l : List Entry). AreNamed l active) (sym is) named

  may_named : (h' : List Entry) → MayBeDone a.tx account h h' → AreNamed h' active
  may_named h' may = elim may [
    | inl is ↦ same_named h' is
    | inr c ↦ commit_named h' c.1 c.2 c.3
  ]

  done_named : (answer : Committed) (now : PassSeen Entry) → IsDone opens a.session a.tx answer h now → AreNamed now.log (without active name)
  done_named answer now d =
      let es = Rec d.made.0 (commit_record a.tx d.made.1) ∷ Acked a.session a.tx ∷ [] in
      let is : now.log ≡ h ++ es = d.added ∙ ap (λ (own : List Entry). h ++ own) d.made.2 in
      subst (λ (l : List Entry). AreNamed l (without active name)) (sym is)
      (left_named (h ++ es) active name a here (acknowledged h d.made.0 a.session a.tx d.made.1) (still_named h es active (All-cons BeginsNone (Rec d.made.0 (commit_record a.tx d.made.1)) (Acked a.session a.tx ∷ []) tt (one (Acked a.session a.tx) tt)) named))

  pub committed_named : (result : Result Committed Fault) (now : PassSeen Entry) → IsCommitted opens a.session a.tx account result h now → AreNamed now.log (left_by result active name)
  committed_named (Ok answer) now d = done_named answer now d
  committed_named (Err faults.LogFault) now may = may_named now.log may
  committed_named (Err (faults.Ended at)) now may = may_named now.log may
  committed_named (Err _) now is = same_named now.log is

  -- ---- abort

  gone_named : (pos : ℕ) (h' : List Entry) → IsAborted opens a.tx pos h h' → AreNamed h' (without active name)
  gone_named pos h' d =
      let x = d.aborts in
      let end = Rec x.lsn (end_record a.tx x.prev) in
      let last = amid_last IsUpkeep x.undos end d.entries (subst (λ (own : List Entry). Amid IsUpkeep own d.entries) x.is d.among) in
      let own : All BeginsNone d.own = subst (All BeginsNone) (sym x.is) (All-append BeginsNone x.undos (end ∷ []) (all_weaker (TakesBack _ a.tx) BeginsNone (undo_none _ a.tx) x.undos x.each) (one end tt)) in
      subst (λ (l : List Entry). AreNamed l (without active name)) (sym d.added)
      (left_named (h ++ d.entries) active name a here (λ live. over h last.0 x.lsn a.tx x.prev (subst (λ (es : List Entry). phase (h ++ es) a.tx ≡ Live) last.1 live))
      (still_named h d.entries active (amid_each IsUpkeep BeginsNone upkeep_none d.own d.entries own d.among) named))

  of_abort : (e : Entry) → IsOfAbort ⊥ a.tx e → BeginsNone e
  of_abort e is = elim is [
    | inl u ↦ undo_none ⊥ a.tx e u
    | inr u ↦ upkeep_none e u
  ]

  pub aborted_named : (result : Result ℕ Fault) (h' : List Entry) → EndsBy opens a.tx result h h' → AreNamed h' (left_by result active name)
  aborted_named (Ok pos) h' d = gone_named pos h' d
  aborted_named (Err fault) h' d = subst (λ (l : List Entry). AreNamed l active) (sym d.added) (still_named h d.entries active (all_weaker (IsOfAbort ⊥ a.tx) BeginsNone of_abort d.entries d.each) named)

-- ---- checkpoints, and losses of the data device

mark_named : (h h' : List Entry) (active : List Active) (lsn : ℕ) (r : Record) → h' ≡ h ++ Rec lsn r ∷ [] → AreNamed h active → AreNamed h' active
mark_named h h' active lsn r is named = subst (λ (l : List Entry). AreNamed l active) (sym is) (still_named h (Rec lsn r ∷ []) active (one (Rec lsn r) tt) named)

pub marked_named : (A : Type 0) (mark : A → Record) (result : Result ℕ Fault) (h h' : List Entry) (active : List Active) → IsMarked A mark result h h' → AreNamed h active → AreNamed h' active
marked_named A mark (Ok lsn) h h' active c named = mark_named h h' active lsn (mark c.0) c.1 named
marked_named A mark (Err faults.Memory) h h' active is named = subst (λ (l : List Entry). AreNamed l active) (sym is) named
marked_named A mark (Err faults.LogFault) h h' active c named = mark_named h h' active c.0 (mark c.1.0) c.1.1 named
marked_named A mark (Err _) h h' active may named = elim may [
  | inl is ↦ subst (λ (l : List Entry). AreNamed l active) (sym is) named
  | inr c ↦ mark_named h h' active c.0 (mark c.1.0) c.1.1 named
]
