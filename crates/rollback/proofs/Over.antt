-- The undo of a whole transaction: what its calls enter, one after the other.
use Rattle.std.proofs.Common.{◌≡◌, ℕ, true, false, eqb, List, [], ◌∷◌, ◌++◌, Option, Result, Ok, Err, refl, sym, ap, subst, ◌∙◌}
use Rattle.std.specs.Prelude.{IfOk, OnOk, ◌||◌}
use Rattle.std.specs.List.{list_all, list_any}
use Rattle.std.proofs.lemmas.List.Folds.{list_any-append}
use mathlib.Core.List.{IsPrefix}
use Rattle.books.specs.Rights.{SessionClaim}
use Rattle.front.specs.Seen.{PassSeen}
use Rattle.store_model.proofs.Bools.{both_true, and_true, or_left, or_right}
use Rattle.store_model.specs.declared.fault.Fault.{Fault}
use Rattle.wal_record.specs.Chains.{finishes}
use Rattle.wal_record.specs.History.{life_log}
use Rattle.wal_record.specs.declared.record.Record.{Record}
use Rattle.wal_record.specs.declared.record.Record.TheVariants as kinds
use Rattle.wal_record.specs.declared.entry.Entry.{Entry}
use Rattle.wal_record.specs.declared.entry.Entry.TheVariants.{Rec}
use Rattle.wal_record.proofs.Pushes.{log_more}
use Rattle.log_laws.proofs.Central.{eqb_self}
use Rattle.page_ops.specs.Claims.{no_claims}
use Rattle.page_ops.specs.Desks.{Desk}
use Rattle.page_ops.specs.Names.{LedgerName}
use Rattle.page_ops.specs.Seeing.{Account, known}
use Rattle.page_ops.specs.declared.outcome.Entered.{Entered}
use Rattle.page_ops.specs.declared.outcome.Entered.TheVariants.{At, NoRoom, Late}
use Rattle.page_ops.proofs.Gaining.{gains_then}
use Rattle.rollback.specs.Endings.{GainsEnd, HasEnded, IsEndAt, KeepsUnended, RollsOver, UnlessEnded, end_by, rolls_over}
use Rattle.rollback.specs.Owners.{MayRollBack}
use Rattle.rollback.specs.Rolls.{Rolls, Standing, known_by, rolls_back, standing}
use Rattle.rollback.proofs.Owning.{may_later}
use Rattle.rollback.proofs.Composing.{faults_self, faults_then}

over_kind : (tx : ℕ) (e : Entry) → rolls_back tx e ≡ true → rolls_over tx e ≡ true
over_kind tx (Rec lsn (kinds.End e)) h = absurd (cc h)
over_kind tx _ h = h

over_kinds : (tx : ℕ) (es : List Entry) → list_all (rolls_back tx) es ≡ true → list_all (rolls_over tx) es ≡ true
over_kinds tx [] h = refl
over_kinds tx (e ∷ es) h = let both = both_true (rolls_back tx e) (list_all (rolls_back tx) es) h in and_true (rolls_over tx e) (list_all (rolls_over tx) es) (over_kind tx e both.0) (over_kinds tx es both.1)

over_both : (tx : ℕ) (xs ys : List Entry) → list_all (rolls_over tx) xs ≡ true → list_all (rolls_over tx) ys ≡ true → list_all (rolls_over tx) (xs ++ ys) ≡ true
over_both tx [] ys h k = k
over_both tx (x ∷ xs) ys h k = let both = both_true (rolls_over tx x) (list_all (rolls_over tx) xs) h in and_true (rolls_over tx x) (list_all (rolls_over tx) (xs ++ ys)) both.0 (over_both tx xs ys both.1 k)

module _ (opens : List Record → Type 0) (ledger sessions : LedgerName) (tx : ℕ) where
  pub over_of : (n : ℕ) (x y : Standing) → Rolls opens ledger sessions tx n x y → RollsOver opens ledger sessions tx x y
  over_of n x y r = record { own = r.own; gains = r.gains; kinds = over_kinds tx r.own r.kinds; faults = r.faults }

  pub over_then : (x y z : Standing) → RollsOver opens ledger sessions tx x y → RollsOver opens ledger sessions tx y z → RollsOver opens ledger sessions tx x z
  over_then x y z r q = record {
    own = r.own ++ q.own;
    gains = gains_then opens ledger sessions r.own q.own (known_by x) (known_by y) (known_by z) r.gains q.gains;
    kinds = over_both tx r.own q.own r.kinds q.kinds;
    faults = faults_then x.desk.faults y.desk.faults z.desk.faults r.faults q.faults;
  }

  -- behind an undo
  pub over_undone : (n : ℕ) (x y z : Standing) → RollsOver opens ledger sessions tx x y → Rolls opens ledger sessions tx n y z → RollsOver opens ledger sessions tx x z
  over_undone n x y z r q = over_then x y z r (over_of n y z q)

  module _ (d : Desk) (a a' : Account) (s s' : PassSeen Entry) where
    end_over : (result : Result Entered Fault) → GainsEnd opens ledger sessions tx result (known a s no_claims) (known a' s' no_claims) → RollsOver opens ledger sessions tx (standing d a s) (standing d a' s')
    end_over (Ok (At pos)) g = record { own = Rec g.0 (end_by tx g.1) ∷ []; gains = g.2; kinds = and_true (eqb tx tx) true (eqb_self tx) refl; faults = faults_self d.faults }
    end_over (Ok NoRoom) g = record { own = []; gains = g; kinds = refl; faults = faults_self d.faults }
    end_over (Ok (Late pos)) g = record { own = []; gains = g; kinds = refl; faults = faults_self d.faults }
    end_over (Err f) g = record { own = []; gains = g; kinds = refl; faults = faults_self d.faults }

    -- behind an End
    pub over_ended : (x : Standing) (result : Result Entered Fault) → RollsOver opens ledger sessions tx x (standing d a s) → GainsEnd opens ledger sessions tx result (known a s no_claims) (known a' s' no_claims) → RollsOver opens ledger sessions tx x (standing d a' s')
    over_ended x result r g = over_then x (standing d a s) (standing d a' s') r (end_over result g)

    begins_end : (result : Result Entered Fault) → GainsEnd opens ledger sessions tx result (known a s no_claims) (known a' s' no_claims) → IsPrefix s.log s'.log
    begins_end (Ok (At pos)) g = (g.2.gained, sym g.2.is)
    begins_end (Ok NoRoom) g = (g.gained, sym g.is)
    begins_end (Ok (Late pos)) g = (g.gained, sym g.is)
    begins_end (Err f) g = (g.gained, sym g.is)

    unended : (result : Result Entered Fault) (owner owner' : Option SessionClaim) → IsPrefix s.log s'.log → KeepsUnended result owner owner' → MayRollBack opens s.log tx owner → UnlessEnded result (MayRollBack opens s'.log tx owner')
    unended (Ok (At pos)) owner owner' longer keeps may = tt
    unended (Ok NoRoom) owner owner' longer keeps may = subst (MayRollBack opens s'.log tx) (sym keeps) (may_later opens s.log s'.log tx owner longer may)
    unended (Ok (Late pos)) owner owner' longer keeps may = subst (MayRollBack opens s'.log tx) (sym keeps) (may_later opens s.log s'.log tx owner longer may)
    unended (Err f) owner owner' longer keeps may = subst (MayRollBack opens s'.log tx) (sym keeps) (may_later opens s.log s'.log tx owner longer may)

    -- it may be rolled back further where it wasn't ended
    pub unended_may : (result : Result Entered Fault) (owner owner' : Option SessionClaim) → GainsEnd opens ledger sessions tx result (known a s no_claims) (known a' s' no_claims) → KeepsUnended result owner owner' → MayRollBack opens s.log tx owner
        → UnlessEnded result (MayRollBack opens s'.log tx owner')
    unended_may result owner owner' g keeps may = unended result owner owner' (begins_end result g) keeps may

-- ---- the answer of the whole

-- the End finishes its transaction
end_finishes : (opening : List Record) (tx : ℕ) (h : List Entry) (pos : ℕ) → IsEndAt tx h pos → list_any (finishes tx) (life_log opening h) ≡ true
end_finishes opening tx h pos at =
    let e = end_by tx at.prev in
    ap (λ (l : List Entry). list_any (finishes tx) (life_log opening l)) at.is ∙ ap (list_any (finishes tx)) (log_more opening at.before at.lsn e)
    ∙ list_any-append (finishes tx) (life_log opening at.before) (e ∷ []) ∙ or_right (list_any (finishes tx) (life_log opening at.before)) (eqb tx tx || false) (or_left (eqb tx tx) false (eqb_self tx))

pub loser_over : (opens : List Record → Type 0) (h : List Entry) (tx : ℕ) (owner : Option SessionClaim) (result : Result Entered Fault) → IfOk result (HasEnded opens h tx owner) → OnOk result ((opening : List Record) → opens opening → list_any (finishes tx) (life_log opening h) ≡ true)
loser_over opens h tx owner (Ok (At pos)) ended = λ opening stands. end_finishes opening tx h pos ended.0
loser_over opens h tx owner (Ok NoRoom) ended = absurd ended
loser_over opens h tx owner (Ok (Late pos)) ended = ended
loser_over opens h tx owner (Err f) ended = tt
