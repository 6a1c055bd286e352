-- A transaction is undone and ended where nobody else enters anything.
use Rattle.std.proofs.Common.{◌≡◌, ℕ, ◌<◌, ◌≤◌, Bool, true, false, cond, List, [], ◌∷◌, ◌++◌, Option, Some, None, Result, Ok, Err, refl, sym, ap, subst, ◌∙◌, append_assoc, append-nil, arith, inl, inr}
use Rattle.std.specs.Prelude.{◌⊎◌, ◌==◌, IfErr, IfOk, OnErr, OnOk}
use Rattle.std.specs.List.{All, list_all, list_any}
use Rattle.std.proofs.lemmas.Bool.{eqb-true}
use Rattle.std.proofs.lemmas.List.Elements.{All-cons, All-nil}
use Rattle.std.proofs.lemmas.List.Folds.{list_any-append}
use mathlib.Core.List.{IsPrefix}
use Rattle.books.specs.Rights.{SessionClaim}
use Rattle.front.specs.Seen.{PassSeen}
use Rattle.store_model.proofs.Bools.{and_true, both_true, not_both, or_left}
use Rattle.store_model.specs.declared.fault.Fault.{Fault}
use Rattle.wal_record.specs.Books.{unless_over}
use Rattle.wal_record.specs.Chains.{finishes}
use Rattle.wal_record.specs.History.{Ended, Phase, is_over, last_begun, life_log, log_of, phase}
use Rattle.wal_record.specs.Sound.{AreLawful}
use Rattle.wal_record.specs.declared.record.Record.{Record}
use Rattle.wal_record.specs.declared.record.Record.TheVariants as kinds
use Rattle.wal_record.specs.declared.entry.Entry.{Entry}
use Rattle.wal_record.specs.declared.entry.Entry.TheVariants.{Rec, Repaired}
use Rattle.wal_record.proofs.Pushes.{phase_push}
use Rattle.life_laws.proofs.Leaving.{either_false, log_of_append}
use Rattle.log_laws.proofs.Central.{eqb_self}
use Rattle.page_ops.specs.Causes.{FailsToBring, IsUntold, MeetsNoEnd}
use Rattle.page_ops.specs.Claims.{SessionAgrees, session_alone}
use Rattle.page_ops.specs.Desks.{Desk, KeepsFaults}
use Rattle.page_ops.specs.Names.{LedgerName}
use Rattle.page_ops.specs.Seeing.{Account, Enters, Keeps}
use Rattle.page_ops.proofs.Gaining.{gains_of}
use Rattle.command_laws.specs.Alone.{IsAlone}
use Rattle.command_laws.specs.Commands.{Amid, Among, IsUpkeep, TakesBack, end_record}
use Rattle.command_laws.proofs.Alone.{entered, still_alone}
use Rattle.command_laws.proofs.Listed.{each_by}
use Rattle.command_laws.proofs.Living.{none_ended}
use Rattle.command_laws.proofs.Undone.{one_end, undone}
use Rattle.rollback.specs.Endings.{IsEndAt, RollsOver, rolls_over}
use Rattle.rollback.specs.Rolls.{Standing, known_by, standing}
use Rattle.engine.specs.Sittings.{Sitting, known_by as known_of}
use Rattle.engine.proofs.Aborted.{refused_looked, rolled_looked}
use Rattle.store_life.specs.Turns.{EndsBy, IsAborted, IsOfAbort, IsUndone, UndoesBy}

-- ---- the last entry

later : Option Entry → Entry → Option Entry
later None e = Some e
later (Some l) e = Some l

last_entry : List Entry → Option Entry
last_entry [] = None
last_entry (e ∷ es) = later (last_entry es) e

last_push : (es : List Entry) (e : Entry) → last_entry (es ++ e ∷ []) ≡ Some e
unfolding last_entry later
last_push [] e = refl
last_push (x ∷ es) e = ap (λ (o : Option Entry). later o x) (last_push es e)

pub ends : (es : List Entry) → (es ≡ []) ⊎ ((front : List Entry) × (last : Entry) × (es ≡ front ++ last ∷ []))
ends [] = inl refl
ends (e ∷ es) = elim (ends es) [
  | inl none ↦ inr ([], e, ap (λ (l : List Entry). e ∷ l) none)
  | inr some ↦ inr (e ∷ some.0, some.1, ap (λ (l : List Entry). e ∷ l) some.2)
]

pub same_last : (h front before : List Entry) (last e : Entry) → h ++ (front ++ last ∷ []) ≡ before ++ e ∷ [] → last ≡ e
same_last h front before last e is =
    let two : Some last ≡ Some e = sym (last_push (h ++ front) last) ∙ ap last_entry (append_assoc h front (last ∷ []) ∙ is) ∙ last_push before e in
    cc

-- ---- what undoing enters

one : (untold : Type 0) (tx : ℕ) (e : Entry) → rolls_over tx e ≡ true → (list_any (finishes tx) (log_of (e ∷ [])) ≡ true → untold) → TakesBack untold tx e ⊎ IsUpkeep e
one untold tx (Rec lsn (kinds.Undo u)) is never = inl (eqb-true u.tx tx is)
one untold tx (Rec lsn (kinds.End x)) is never = inl (eqb-true x.tx tx is, never (or_left (x.tx == tx) false is))
one untold tx (Rec lsn (kinds.Purge p)) is never = inr tt
one untold tx (Rec lsn (kinds.Split s)) is never = inr tt
one untold tx (Rec lsn (kinds.Written w)) is never = inr tt
one untold tx (Rec lsn (kinds.Restored r)) is never = inr tt
one untold tx (Repaired page) is never = inr tt
one untold tx _ is never = absurd cc

each : (opens : List Record → Type 0) (tx : ℕ) (es : List Entry) → list_all (rolls_over tx) es ≡ true → ((opening : List Record) → opens opening → list_any (finishes tx) (log_of es) ≡ false) → All (λ (e : Entry). TakesBack (IsUntold opens) tx e ⊎ IsUpkeep e) es
each opens tx [] is none = All-nil (λ (e : Entry). TakesBack (IsUntold opens) tx e ⊎ IsUpkeep e)
each opens tx (e ∷ es) is none =
    let both = both_true (rolls_over tx e) (list_all (rolls_over tx) es) is in
    let parts : (opening : List Record) → opens opening → (list_any (finishes tx) (log_of (e ∷ [])) ≡ false) × (list_any (finishes tx) (log_of es) ≡ false)
    = λ opening stands. either_false (list_any (finishes tx) (log_of (e ∷ []))) (list_any (finishes tx) (log_of es))
    (sym (list_any-append (finishes tx) (log_of (e ∷ [])) (log_of es)) ∙ ap (list_any (finishes tx)) (sym (log_of_append (e ∷ []) es)) ∙ none opening stands) in
    All-cons (λ (x : Entry). TakesBack (IsUntold opens) tx x ⊎ IsUpkeep x) e es
    (one (IsUntold opens) tx e both.0 (λ some opening stands. not_both (list_any (finishes tx) (log_of (e ∷ []))) some (parts opening stands).0))
    (each opens tx es both.1 (λ opening stands. (parts opening stands).1))

pub all_front : (f : Entry → Bool) (xs ys : List Entry) → list_all f (xs ++ ys) ≡ true → list_all f xs ≡ true
all_front f [] ys is = refl
all_front f (x ∷ xs) ys is = let both = both_true (f x) (list_all f (xs ++ ys)) is in and_true (f x) (list_all f xs) both.0 (all_front f xs ys both.1)

amid_of : (P : Entry → Type 0) (us : List Entry) (last : Entry) (es : List Entry) → Among P (us ++ last ∷ []) es → Amid P (us ++ last ∷ []) es
amid_of P [] last es a = a
amid_of P (u ∷ us) last es a = a

-- ---- who has a transaction has no End behind it

not_ended : (c : Bool) (u tx : ℕ) (p : Phase) → tx ≡ u → 0 < cond (is_over (cond (tx == u) Ended p)) 0 u → ⊥
not_ended c u tx p is some =
    let over : cond (tx == u) Ended p ≡ Ended = ap (λ (n : ℕ). cond (n == u) Ended p) is ∙ ap (λ (b : Bool). cond b Ended p) (eqb_self u) in
    let zero : cond (is_over (cond (tx == u) Ended p)) 0 u ≡ 0 = ap (λ (q : Phase). cond (is_over q) 0 u) over in
    omega (arith, zero, some)

number_of : (h : List Entry) (o : Option ℕ) (tx : ℕ) → tx ≡ unless_over h o → 0 < tx → o ≡ Some tx
number_of h None tx is some = absurd (omega (arith, is, some))
number_of h (Some u) tx is some = go (is_over (phase h u)) is
  where
    go : (b : Bool) → tx ≡ cond b 0 u → Some u ≡ Some tx
    go true e = absurd (omega (arith, e, some))
    go false e = ap (λ (n : ℕ). Some n) (sym e)

pub unended : (h : List Entry) (s : SessionClaim) → SessionAgrees h s → 0 < s.tx → (before : List Entry) (lsn prev : ℕ) → h ≡ before ++ Rec lsn (end_record s.tx prev) ∷ [] → ⊥
unended h s agrees some before lsn prev is =
    let e : Entry = Rec lsn (end_record s.tx prev) in
    let begun = number_of h (last_begun h s.session) s.tx agrees.tx some in
    let here : s.tx ≡ cond (is_over (cond (s.tx == s.tx) Ended (phase before s.tx))) 0 s.tx
    = agrees.tx ∙ ap (unless_over h) begun ∙ ap (λ (p : Phase). cond (is_over p) 0 s.tx) (ap (λ (l : List Entry). phase l s.tx) is ∙ phase_push before e s.tx) in
    not_ended true s.tx s.tx (phase before s.tx) refl (subst (λ (n : ℕ). 0 < n) here some)

-- ---- the whole

module _ (opens : List Record → Type 0) (ledger sessions : LedgerName) (tx : ℕ) (x y : Standing) (h : List Entry) (alone : IsAlone opens ledger x.account h) (begins : IsPrefix h x.seen.log) (r : RollsOver opens ledger sessions tx x y) where
  added : y.seen.log ≡ h ++ r.own
  added = entered opens ledger sessions h r.own (known_by x) (known_by y) alone begins r.gains

  pub abort_alone : IsAlone opens ledger y.account y.seen.log
  abort_alone = still_alone opens ledger sessions h r.own (known_by x) (known_by y) alone begins r.gains

  ended_by : (pos : ℕ) (e : IsEndAt tx y.seen.log pos) (front : List Entry) → r.own ≡ front ++ Rec e.lsn (end_record tx e.prev) ∷ [] → IsAborted opens tx pos h y.seen.log
  ended_by pos e front is =
      let last : Entry = Rec e.lsn (end_record tx e.prev) in
      let kinds_front = all_front (rolls_over tx) front (last ∷ []) (ap (list_all (rolls_over tx)) (sym is) ∙ r.kinds) in
      let all = each opens tx front kinds_front (λ opening stands.
      one_end opening h front e.lsn tx e.prev (subst (λ (l : List Entry). AreLawful (life_log opening l)) (added ∙ ap (λ (l : List Entry). h ++ l) is) (r.gains.consistent.sound opening stands).lawful)) in
      let u = undone (IsUntold opens) tx front last all in
      record {
        entries = front ++ last ∷ [];
        added = added ∙ ap (λ (l : List Entry). h ++ l) is;
        own = u.undos ++ last ∷ [];
        aborts = record { undos = u.undos; each = u.each; lsn = e.lsn; prev = e.prev; is = refl };
        among = amid_of IsUpkeep u.undos last (front ++ last ∷ []) u.among;
        place = e.place;
      }

  aborted_at : (pos : ℕ) → ((before : List Entry) (lsn prev : ℕ) → h ≡ before ++ Rec lsn (end_record tx prev) ∷ [] → ⊥) → IsEndAt tx y.seen.log pos → IsAborted opens tx pos h y.seen.log
  aborted_at pos fresh e = elim (ends r.own) [
    | inl none ↦ absurd (fresh e.before e.lsn e.prev (sym (added ∙ ap (λ (l : List Entry). h ++ l) none ∙ append-nil h) ∙ e.is))
    | inr some ↦
        let last = same_last h some.0 e.before some.1 (Rec e.lsn (end_record tx e.prev)) (ap (λ (l : List Entry). h ++ l) (sym some.2) ∙ sym added ∙ e.is) in
        ended_by pos e some.0 (some.2 ∙ ap (λ (l : Entry). some.0 ++ l ∷ []) last)
  ]

  part : IsUndone (Unit {0}) tx h y.seen.log
  part = record { entries = r.own; added = added; each = each_by (rolls_over tx) (IsOfAbort (Unit {0}) tx) (λ e is. one (Unit {0}) tx e is (λ _. tt)) r.own r.kinds }

  pub aborted : (result : Result ℕ Fault) → ((before : List Entry) (lsn prev : ℕ) → h ≡ before ++ Rec lsn (end_record tx prev) ∷ [] → ⊥) → IfOk result (IsEndAt tx y.seen.log) → UndoesBy (Unit {0}) opens tx result h y.seen.log
  aborted (Ok pos) fresh e = aborted_at pos fresh e
  aborted (Err fault) fresh e = part

pub open_then : {T : Type 0} (a b c : Account) (r : Result T Fault) → MeetsNoEnd a b → OnOk r (MeetsNoEnd b c) → OnOk r (MeetsNoEnd a c)
open_then a b c (Ok x) first then = record { ended = then.ended ∙ first.ended; amount = then.amount ∙ first.amount }
open_then a b c (Err f) first then = tt

-- of the session as it was handed in, which was shown the history first, and the pass behind it
module _ (opens : List Record → Type 0) (ledger sessions log_faults made : LedgerName) (s0 : SessionClaim) (s1 s2 s3 : Sitting) (d d' : Desk) (a a1 a2 : Account) (same1 : s1.claim ≡ s0) (same2 : s2.claim ≡ s1.claim) (h : List Entry) (alone : IsAlone opens ledger a h) (begins : IsPrefix h s1.seen.log)
    (shown : Enters opens ledger sessions (known_of a s1) [] (known_of a1 s2)) (some : 0 < s0.tx) (now : PassSeen Entry) (is : now ≡ s3.seen) where
  same : s2.claim ≡ s0
  same = same2 ∙ same1

  there : 0 < s2.claim.tx
  there = subst (λ (c : SessionClaim). 0 < c.tx) (sym same) some

  module _ (result : Result ℕ Fault) (r : 0 < s2.claim.tx → RollsOver opens ledger sessions s2.claim.tx (standing d a1 s2.seen) (standing d' a2 s3.seen)) where
    roll : RollsOver opens ledger sessions s2.claim.tx (standing d a s1.seen) (standing d' a2 s3.seen)
    roll = rolled_looked opens ledger sessions log_faults made d d' a a1 a2 s1.seen s2.seen s3.seen (session_alone s1.claim) (session_alone s2.claim) shown s2.claim.tx (r there)

    agrees : SessionAgrees h s2.claim
    agrees = subst (λ (l : List Entry). SessionAgrees l s2.claim) (entered opens ledger sessions h [] (known_of a s1) (known_of a1 s2) alone begins (gains_of opens ledger sessions [] (known_of a s1) (known_of a1 s2) shown) ∙ append-nil h) shown.now.rights.s

    pub aborts_for : IfOk result (IsEndAt s2.claim.tx s3.seen.log) → UndoesBy (Unit {0}) opens s0.tx result h now.log
    aborts_for ended = subst (λ (c : SessionClaim). UndoesBy (Unit {0}) opens c.tx result h now.log) same (subst (λ (p : PassSeen Entry). UndoesBy (Unit {0}) opens s2.claim.tx result h p.log) (sym is)
        (aborted opens ledger sessions s2.claim.tx (standing d a s1.seen) (standing d' a2 s3.seen) h alone begins roll result (unended h s2.claim agrees there) ended))

    pub abort_alone_for : IsAlone opens ledger a2 now.log
    abort_alone_for = subst (λ (p : PassSeen Entry). IsAlone opens ledger a2 p.log) (sym is) (abort_alone opens ledger sessions s2.claim.tx (standing d a s1.seen) (standing d' a2 s3.seen) h alone begins roll)

    pub abort_durable_for : (old : ℕ) → old ≤ s1.seen.durable → old ≤ now.durable
    abort_durable_for old low = let l = roll.gains.durable in let e = ap (λ (p : PassSeen Entry). p.durable) is in omega (arith, l, e, low)

    pub abort_keeps_for : Keeps a a2
    abort_keeps_for = roll.gains.keeps

    pub abort_faults_for : KeepsFaults d.faults d'.faults
    abort_faults_for = roll.faults

    pub refused_for : MeetsNoEnd a a1 → (0 < s2.claim.tx → IfErr result (FailsToBring opens log_faults made d.faults d'.faults a1 a2 s3.seen.log)) → IfErr result (FailsToBring opens log_faults made d.faults d'.faults a a2 now.log)
    refused_for calm why = subst (λ (p : PassSeen Entry). IfErr result (FailsToBring opens log_faults made d.faults d'.faults a a2 p.log)) (sym is)
        (refused_looked opens ledger sessions log_faults made d d' a a1 a2 s1.seen s2.seen s3.seen (session_alone s1.claim) (session_alone s2.claim) shown s2.claim.tx result calm (why there))

-- ---- a transaction that stays has no End

stays_open : (h : List Entry) (s : SessionClaim) → SessionAgrees h s → 0 < s.tx → is_over (phase h s.tx) ≡ true → ⊥
stays_open h s agrees some ended =
    let begun = number_of h (last_begun h s.session) s.tx agrees.tx some in
    let zero : s.tx ≡ 0 = agrees.tx ∙ ap (unless_over h) begun ∙ ap (λ (b : Bool). cond b 0 s.tx) ended in
    omega (arith, zero, some)

pub ends_by : (opens : List Record → Type 0) (tx : ℕ) (s : SessionClaim) (h h' : List Entry) (result : Result ℕ Fault) → 0 < tx → OnErr result (s.tx ≡ tx) → SessionAgrees h' s → UndoesBy (Unit {0}) opens tx result h h' → EndsBy opens tx result h h'
ends_by opens tx s h h' (Ok pos) some stays right u = u
ends_by opens tx s h h' (Err fault) some stays right u = record {
  entries = u.entries;
  added = u.added;
  each = none_ended tx u.entries h u.each (λ ended.
      stays_open h' s right (subst (λ (n : ℕ). 0 < n) (sym stays) some) (ap (λ (n : ℕ). is_over (phase h' n)) stays ∙ subst (λ (l : List Entry). is_over (phase l tx) ≡ true) (sym u.added) ended));
}
