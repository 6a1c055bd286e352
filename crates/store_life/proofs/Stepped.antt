-- A step on the least loser, where nobody else enters anything.
use Rattle.std.proofs.Common.{◌≡◌, ℕ, ◌≤◌, Bool, true, false, cond, List, [], ◌∷◌, ◌++◌, length, Result, Ok, Err, refl, sym, ap, subst, ◌∙◌, append-nil, length-append, arith, inl, inr}
use Rattle.std.specs.Prelude.{◌==◌, ◌||◌, IfErr, IfOk, OnOk, filter, not}
use Rattle.std.specs.List.{All, list_all, list_any}
use Rattle.std.proofs.lemmas.List.Elements.{All-append, All-cons, All-nil, filter-append}
use Rattle.std.proofs.lemmas.List.Folds.{list_any-append}
use Rattle.front.proofs.Keeping.{prefix_self}
use Rattle.store_model.proofs.Bools.{both_true, not_both, or_left}
use Rattle.store_model.specs.declared.fault.Fault.{Fault}
use Rattle.wal_record.specs.Chains.{finishes}
use Rattle.wal_record.specs.History.{log_of}
use Rattle.wal_record.specs.OpenWrites.{losers}
use Rattle.wal_record.specs.declared.record.Record.{Record}
use Rattle.wal_record.specs.declared.record.Record.TheVariants as kinds
use Rattle.wal_record.specs.declared.entry.Entry.{Entry}
use Rattle.wal_record.specs.declared.entry.Entry.TheVariants.{Rec, Repaired}
use Rattle.life_laws.proofs.Leaving.{log_of_append}
use Rattle.log_laws.proofs.Central.{eqb_self}
use Rattle.page_ops.specs.Causes.{FailsToBring, MeetsNoEnd}
use Rattle.page_ops.specs.Desks.{Desk, Faults, KeepsFaults}
use Rattle.page_ops.specs.Names.{LedgerName}
use Rattle.page_ops.specs.Outcomes.{losers_left}
use Rattle.page_ops.specs.Seeing.{Account, Keeps}
use Rattle.page_ops.proofs.Gaining.{keeps_then}
use Rattle.command_laws.specs.Alone.{IsAlone}
use Rattle.command_laws.specs.Commands.{IsUpkeep}
use Rattle.command_laws.specs.Names.{Active, AreNamed}
use Rattle.command_laws.proofs.Alone.{entered, still_alone}
use Rattle.command_laws.proofs.Living.{BeginsNone, all_weaker, still_named, upkeep_none}
use Rattle.rollback.specs.Endings.{IsEndAt, end_by, rolls_over}
use Rattle.rollback.specs.Rolls.{IsUndoAt, Standing, known_by}
use Rattle.maintenance.specs.Steps.{AreAllOver, IsLeastLeft, Steps, TakesStep, is_step, steps_by}
use Rattle.maintenance.specs.declared.step.Step.{Step}
use Rattle.maintenance.specs.declared.step.Step.TheVariants as steps
use Rattle.store_life.specs.Steps.{AddsStep, AddsUpkeep, IsStep, StepsBack, was_taken}
use Rattle.store_life.proofs.Aborted.{all_front, ends, same_last}

-- ---- entries that are no step

no_step : (tx : ℕ) (e : Entry) → rolls_over tx e ≡ true → is_step tx e ≡ false → IsUpkeep e
no_step tx (Rec lsn (kinds.Undo u)) is not = absurd (not_both (u.tx == tx) is not)
no_step tx (Rec lsn (kinds.End x)) is not = absurd (not_both (x.tx == tx) is not)
no_step tx (Rec lsn (kinds.Purge p)) is not = tt
no_step tx (Rec lsn (kinds.Split s)) is not = tt
no_step tx (Rec lsn (kinds.Written w)) is not = tt
no_step tx (Rec lsn (kinds.Restored r)) is not = tt
no_step tx (Repaired page) is not = tt
no_step tx _ is not = absurd (cc is)

counts : (b : Bool) (e : Entry) (es : List Entry) → b ≡ true → length (cond b (e ∷ es) es) ≡ 0 → ⊥
counts true e es is none = cc
counts false e es is none = absurd (cc is)

passed : (b : Bool) (e : Entry) (es : List Entry) → b ≡ false → cond b (e ∷ es) es ≡ es
passed true e es is = absurd (cc is)
passed false e es is = refl

no_steps : (tx : ℕ) (es : List Entry) → list_all (rolls_over tx) es ≡ true → length (filter (is_step tx) es) ≡ 0 → All IsUpkeep es
no_steps tx [] is none = All-nil IsUpkeep
no_steps tx (e ∷ es) is none =
    let both = both_true (rolls_over tx e) (list_all (rolls_over tx) es) is in
    by (is_step tx e) refl both.0 none (no_steps tx es both.1)
  where
    by : (b : Bool) → is_step tx e ≡ b → rolls_over tx e ≡ true → length (cond b (e ∷ filter (is_step tx) es) (filter (is_step tx) es)) ≡ 0 → (length (filter (is_step tx) es) ≡ 0 → All IsUpkeep es) → All IsUpkeep (e ∷ es)
    by true k kind n rest = absurd (counts true e (filter (is_step tx) es) refl n)
    by false k kind n rest = All-cons IsUpkeep e es (no_step tx e kind k) (rest n)

one : (b : Bool) (e : Entry) → b ≡ true → length (cond b (e ∷ []) []) ≡ 1
one true e is = refl
one false e is = absurd (cc is)

-- where the last entry is the only step, upkeep stands before it
front_none : (tx : ℕ) (front : List Entry) (e : Entry) → is_step tx e ≡ true → length (filter (is_step tx) (front ++ e ∷ [])) ≡ 1 → length (filter (is_step tx) front) ≡ 0
front_none tx front e is count =
    let n = ap length (filter-append (is_step tx) front (e ∷ [])) ∙ length-append (filter (is_step tx) front) (filter (is_step tx) (e ∷ [])) in
    let m = one (is_step tx e) e is in
    omega (arith, n, m, count)

-- ---- the call

module _ (opens : List Record → Type 0) (ledger sessions : LedgerName) (result : Result Step Fault) (x y : Standing) (alone : IsAlone opens ledger x.account x.seen.log) (t : TakesStep opens ledger sessions result x y) where
  abbrev h : List Entry
  h = x.seen.log

  abbrev own : List Entry
  own = t.enters.own

  looked : t.looked.seen.log ≡ h
  looked = entered opens ledger sessions h [] (known_by x) (known_by t.looked) alone (prefix_self h) t.look ∙ append-nil h

  looked_alone : IsAlone opens ledger t.looked.account t.looked.seen.log
  looked_alone = still_alone opens ledger sessions h [] (known_by x) (known_by t.looked) alone (prefix_self h) t.look

  added : y.seen.log ≡ h ++ own
  added = entered opens ledger sessions t.looked.seen.log own (known_by t.looked) (known_by y) looked_alone (prefix_self t.looked.seen.log) t.enters.gains ∙ ap (λ (l : List Entry). l ++ own) looked

  pub stepped_alone : IsAlone opens ledger y.account y.seen.log
  stepped_alone = still_alone opens ledger sessions t.looked.seen.log own (known_by t.looked) (known_by y) looked_alone (prefix_self t.looked.seen.log) t.enters.gains

  pub stepped_durable : x.seen.durable ≤ y.seen.durable
  stepped_durable = let l = t.look.durable in let m = t.enters.gains.durable in omega (arith, l, m)

  pub stepped_keeps : Keeps x.account y.account
  stepped_keeps = keeps_then x.account t.looked.account y.account t.look.keeps t.enters.gains.keeps

  pub stepped_faults : KeepsFaults x.desk.faults y.desk.faults
  stepped_faults = subst (λ (d : Desk). KeepsFaults d.faults y.desk.faults) t.desk t.enters.faults

  least : IsLeastLeft opens t.looked.seen.log t.tx → IsLeastLeft opens h t.tx
  least l = subst (λ (l : List Entry). IsLeastLeft opens l t.tx) looked l

  -- the history ends with a step, the only one
  taken : (e : Entry) (before : List Entry) → y.seen.log ≡ before ++ e ∷ [] → is_step t.tx e ≡ true → IsStep (IsLeastLeft opens h) e → length (filter (is_step t.tx) own) ≡ 1 → AddsStep opens h y.seen.log
  taken e before is step by count = elim (ends own) [
    | inl none ↦ absurd (let n = ap (λ (l : List Entry). length (filter (is_step t.tx) l)) none in omega (arith, n, count))
    | inr some ↦
        let last = same_last h some.0 before some.1 e (ap (λ (l : List Entry). h ++ l) (sym some.2) ∙ sym added ∙ is) in
        let all : own ≡ some.0 ++ e ∷ [] = some.2 ∙ ap (λ (l : Entry). some.0 ++ l ∷ []) last in
        let kept = all_front (rolls_over t.tx) some.0 (e ∷ []) (ap (list_all (rolls_over t.tx)) (sym all) ∙ t.enters.kinds) in
        let none = front_none t.tx some.0 e step (ap (λ (l : List Entry). length (filter (is_step t.tx) l)) (sym all) ∙ count) in
        record { before = some.0; kept_up = no_steps t.tx some.0 kept none; step = e; is = by; added = added ∙ ap (λ (l : List Entry). h ++ l) all }
  ]

  undone : (pos : ℕ) → IsLeastLeft opens t.looked.seen.log t.tx → IsUndoAt t.tx y.seen.log pos → length (filter (is_step t.tx) own) ≡ 1 → AddsStep opens h y.seen.log
  undone pos l u count =
      let same : (u.undo.tx == t.tx) ≡ true = ap (λ (n : ℕ). n == t.tx) u.tx ∙ eqb_self t.tx in
      taken (Rec u.lsn (kinds.Undo u.undo)) u.before u.is same (subst (IsLeastLeft opens h) (sym u.tx) (least l)) count

  ended : (pos : ℕ) → IsLeastLeft opens t.looked.seen.log t.tx → IsEndAt t.tx y.seen.log pos → length (filter (is_step t.tx) own) ≡ 1 → AddsStep opens h y.seen.log
  ended pos l e count = taken (Rec e.lsn (end_by t.tx e.prev)) e.before e.is (eqb_self t.tx) (least l) count

  by : (r : Result Step Fault) → length (filter (is_step t.tx) own) ≡ steps_by r → IfOk r (Steps opens t.looked.seen.log y.seen.log t.tx) → StepsBack opens (was_taken r) h y.seen.log
  by (Ok steps.NoLoser) count done = let same = done.0 ∙ looked in (same, subst (AreAllOver opens) same done.1)
  by (Ok (steps.Undone pos)) count done = undone pos done.0 done.1 count
  by (Ok (steps.Ended pos)) count done = ended pos done.0 done.1 count
  by (Ok (steps.Late pos)) count done = (own, no_steps t.tx own t.enters.kinds count, added)
  by (Err f) count done = (own, no_steps t.tx own t.enters.kinds count, added)

  pub stepped : StepsBack opens (was_taken result) h y.seen.log
  stepped = by result t.enters.count t.done

-- ---- the answer

pub open_told : (a b : Account) (r : Result Step Fault) → OnOk r (MeetsNoEnd a b) → OnOk (was_taken r) (MeetsNoEnd a b)
open_told a b (Ok steps.NoLoser) o = o
open_told a b (Ok (steps.Undone pos)) o = o
open_told a b (Ok (steps.Ended pos)) o = o
open_told a b (Ok (steps.Late pos)) o = tt
open_told a b (Err f) o = tt

pub refused_told : (opens : List Record → Type 0) (log_faults made : LedgerName) (own own' : Faults) (a b : Account) (h : List Entry) (r : Result Step Fault) → OnOk r (MeetsNoEnd a b) → IfErr r (FailsToBring opens log_faults made own own' a b h) → IfErr (was_taken r) (FailsToBring opens log_faults made own own' a b h)
refused_told opens log_faults made own own' a b h (Ok steps.NoLoser) o e = tt
refused_told opens log_faults made own own' a b h (Ok (steps.Undone pos)) o e = tt
refused_told opens log_faults made own own' a b h (Ok (steps.Ended pos)) o e = tt
refused_told opens log_faults made own own' a b h (Ok (steps.Late pos)) o e = o
refused_told opens log_faults made own own' a b h (Err f) o e = e

-- ---- who has a name

step_none : (loser : ℕ → Type 0) (e : Entry) → IsStep loser e → BeginsNone e
step_none loser (Rec lsn (kinds.Undo u)) is = tt
step_none loser (Rec lsn (kinds.End x)) is = tt
step_none loser _ is = absurd is

pub upkeep_named : (h h' : List Entry) (active : List Active) → AddsUpkeep h h' → AreNamed h active → AreNamed h' active
upkeep_named h h' active a named = subst (λ (l : List Entry). AreNamed l active) (sym a.2) (still_named h a.0 active (all_weaker IsUpkeep BeginsNone upkeep_none a.0 a.1) named)

pub stepped_named : (opens : List Record → Type 0) (r : Result Bool Fault) (h h' : List Entry) (active : List Active) → StepsBack opens r h h' → AreNamed h active → AreNamed h' active
stepped_named opens (Ok true) h h' active a named =
    let none = All-append BeginsNone a.before (a.step ∷ []) (all_weaker IsUpkeep BeginsNone upkeep_none a.before a.kept_up) (All-cons BeginsNone a.step [] (step_none (IsLeastLeft opens h) a.step a.is) (All-nil BeginsNone)) in
    subst (λ (l : List Entry). AreNamed l active) (sym a.added) (still_named h (a.before ++ a.step ∷ []) active none named)
stepped_named opens (Ok false) h h' active a named = subst (λ (l : List Entry). AreNamed l active) (sym a.0) named
stepped_named opens (Err f) h h' active a named = upkeep_named h h' active a named

-- ---- who is over stays so

fewer_left : (f g : ℕ → Bool) → ((t : ℕ) → g t ≡ true → f t ≡ true) → (ns : List ℕ) → filter f ns ≡ [] → filter g ns ≡ []
fewer_left f g more [] none = refl
fewer_left f g more (n ∷ ns) none = by (f n) refl (g n) refl none (fewer_left f g more ns)
  where
    by : (b : Bool) → f n ≡ b → (c : Bool) → g n ≡ c → cond b (n ∷ filter f ns) (filter f ns) ≡ [] → (filter f ns ≡ [] → filter g ns ≡ []) → cond c (n ∷ filter g ns) (filter g ns) ≡ []
    by true fs c gs k rest = absurd (cc k)
    by false fs true gs k rest = absurd (not_both (f n) (more n gs) fs)
    by false fs false gs k rest = rest k

not_finished : (t : ℕ) (h es : List Entry) → not (list_any (finishes t) (log_of (h ++ es))) ≡ true → not (list_any (finishes t) (log_of h)) ≡ true
not_finished t h es is = by (list_any (finishes t) (log_of h)) refl
  where
    whole : list_any (finishes t) (log_of (h ++ es)) ≡ (list_any (finishes t) (log_of h) || list_any (finishes t) (log_of es))
    whole = ap (list_any (finishes t)) (log_of_append h es) ∙ list_any-append (finishes t) (log_of h) (log_of es)

    by : (b : Bool) → list_any (finishes t) (log_of h) ≡ b → not (list_any (finishes t) (log_of h)) ≡ true
    by false k = ap not k
    by true k = let two : not true ≡ true = sym (ap not (whole ∙ or_left (list_any (finishes t) (log_of h)) (list_any (finishes t) (log_of es)) k)) ∙ is in absurd (cc two)

pub over_later : (opens : List Record → Type 0) (h es h' : List Entry) → h' ≡ h ++ es → AreAllOver opens h → AreAllOver opens h'
over_later opens h es h' is over = λ opening stands. ap (losers_left opening) is
    ∙ fewer_left (λ (t : ℕ). not (list_any (finishes t) (log_of h))) (λ (t : ℕ). not (list_any (finishes t) (log_of (h ++ es)))) (λ t k. not_finished t h es k) (losers opening) (over opening stands)
