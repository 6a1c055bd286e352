-- A step on a loser: what its calls enter, one after the other, and why it is refused.
use Rattle.std.proofs.Common.{◌≡◌, ℕ, ◌+◌, Bool, true, false, eqb, cond, List, [], ◌∷◌, ◌++◌, length, Option, Some, None, Result, Ok, Err, refl, sym, ap, subst, ◌∙◌, length-append, append-nil, arith}
use Rattle.std.specs.Prelude.{IfOk, filter}
use Rattle.std.specs.List.{list_all}
use Rattle.std.proofs.lemmas.List.Elements.{filter-append}
use Rattle.front.specs.Seen.{PassSeen}
use Rattle.store_model.proofs.Bools.{both_true, and_true}
use Rattle.store_model.specs.declared.fault.Fault.{Fault}
use Rattle.wal_record.specs.OpenWrites.{is_loser}
use Rattle.wal_record.specs.declared.record.Record.{Record}
use Rattle.wal_record.specs.declared.record.Record.TheVariants as kinds
use Rattle.wal_record.specs.declared.entry.Entry.{Entry}
use Rattle.wal_record.specs.declared.entry.Entry.TheVariants.{Rec}
use Rattle.wal_record.specs.History.{life_log}
use Rattle.log_laws.proofs.Central.{eqb_self}
use Rattle.tree_laws.proofs.Whole.{tree}
use Rattle.claim_laws.specs.Losers.{undoes}
use Rattle.page_ops.specs.Claims.{no_claims}
use Rattle.page_ops.specs.Desks.{Desk, IsMade}
use Rattle.page_ops.specs.Gains.{Gains}
use Rattle.page_ops.specs.Names.{LedgerName}
use Rattle.page_ops.specs.Outcomes.{first_of, losers_left}
use Rattle.page_ops.specs.Seeing.{Account, HasTotals, IsConsistent, Looks, known}
use Rattle.page_ops.specs.declared.outcome.Entered.{Entered}
use Rattle.page_ops.specs.declared.outcome.Entered.TheVariants.{At, NoRoom, Late}
use Rattle.page_ops.proofs.Gaining.{gains_of, gains_then, keeps_self}
use Rattle.rollback.specs.Endings.{GainsEnd, end_by, rolls_over}
use Rattle.rollback.specs.Owners.{IsLoserOf}
use Rattle.rollback.specs.Rolls.{Rolls, Standing, known_by, rolls_back, standing, undone_by, undone_in}
use Rattle.rollback.specs.declared.undid.Undid.{Undid}
use Rattle.rollback.proofs.Composing.{faults_self, faults_then}
use Rattle.maintenance.specs.Steps.{Enters, HasStepped, IsLeastLeft, Steps, is_step}
use Rattle.maintenance.specs.declared.step.Step.{Step}
use Rattle.maintenance.specs.declared.step.Step.TheVariants as steps

-- ---- kinds of entries

over_kind : (tx : ℕ) (e : Entry) → rolls_back tx e ≡ true → rolls_over tx e ≡ true
over_kind tx (Rec lsn (kinds.End e)) h = absurd (cc h)
over_kind tx _ h = h

over_kinds : (tx : ℕ) (es : List Entry) → list_all (rolls_back tx) es ≡ true → list_all (rolls_over tx) es ≡ true
over_kinds tx [] h = refl
over_kinds tx (e ∷ es) h = let both = both_true (rolls_back tx e) (list_all (rolls_back tx) es) h in and_true (rolls_over tx e) (list_all (rolls_over tx) es) (over_kind tx e both.0) (over_kinds tx es both.1)

both_kinds : (tx : ℕ) (xs ys : List Entry) → list_all (rolls_over tx) xs ≡ true → list_all (rolls_over tx) ys ≡ true → list_all (rolls_over tx) (xs ++ ys) ≡ true
both_kinds tx [] ys h k = k
both_kinds tx (x ∷ xs) ys h k = let both = both_true (rolls_over tx x) (list_all (rolls_over tx) xs) h in and_true (rolls_over tx x) (list_all (rolls_over tx) (xs ++ ys)) both.0 (both_kinds tx xs ys both.1 k)

-- without an End a step is an Undo
step_kind : (tx : ℕ) (e : Entry) → rolls_back tx e ≡ true → is_step tx e ≡ undoes tx e
step_kind tx (Rec lsn (kinds.End e)) h = absurd (cc h)
step_kind tx (Rec lsn (kinds.Undo u)) h = refl
step_kind tx _ h = refl

steps_undone : (tx : ℕ) (es : List Entry) → list_all (rolls_back tx) es ≡ true → filter (is_step tx) es ≡ filter (undoes tx) es
steps_undone tx [] h = refl
steps_undone tx (e ∷ es) h =
    let both = both_true (rolls_back tx e) (list_all (rolls_back tx) es) h in
    let one = step_kind tx e both.0 in
    let more = steps_undone tx es both.1 in
    λ i. cond (one i) (e ∷ more i) (more i)

counted : (b : Bool) (e : Entry) → b ≡ true → length (cond b (e ∷ []) []) ≡ 1
counted true e h = refl
counted false e h = absurd (cc h)

one_more : (n : ℕ) → 0 + n ≡ n
one_more n = omega arith

-- ---- calls

-- where all has been seen and nothing is done
gains_still : (opens : List Record → Type 0) (ledger sessions : LedgerName) (a : Account) (s : PassSeen Entry) → IsConsistent opens s.log → HasTotals ledger sessions a s.log → Gains opens ledger sessions [] (known a s no_claims) (known a s no_claims)
gains_still opens ledger sessions a s consistent totals = record { gained = []; is = sym (append-nil s.log); among = tt; consistent = consistent; durable = omega arith; keeps = keeps_self a; counted = omega arith; totals = totals }

module _ (opens : List Record → Type 0) (ledger sessions : LedgerName) (tx : ℕ) where
  pub rolled : (undid is : Undid) (x y : Standing) → undid ≡ is → Rolls opens ledger sessions tx (undone_by (Ok undid)) x y → Rolls opens ledger sessions tx (undone_by (Ok is)) x y
  rolled undid is x y same r = subst (λ (u : Undid). Rolls opens ledger sessions tx (undone_by (Ok u)) x y) same r

  pub enters_rolled : (n : ℕ) (x y : Standing) → Rolls opens ledger sessions tx n x y → Enters opens ledger sessions tx n x y
  enters_rolled n x y r = record { own = r.own; gains = r.gains; kinds = over_kinds tx r.own r.kinds; count = ap length (steps_undone tx r.own r.kinds) ∙ r.count; faults = r.faults }

  enters_then : (n m : ℕ) (x y z : Standing) → Enters opens ledger sessions tx n x y → Enters opens ledger sessions tx m y z → Enters opens ledger sessions tx (n + m) x z
  enters_then n m x y z a b = record {
    own = a.own ++ b.own;
    gains = gains_then opens ledger sessions a.own b.own (known_by x) (known_by y) (known_by z) a.gains b.gains;
    kinds = both_kinds tx a.own b.own a.kinds b.kinds;
    count = ap length (filter-append (is_step tx) a.own b.own) ∙ length-append (filter (is_step tx) a.own) (filter (is_step tx) b.own) ∙ (λ i. a.count i + b.count i);
    faults = faults_then x.desk.faults y.desk.faults z.desk.faults a.faults b.faults;
  }

  behind : (n : ℕ) (x y z : Standing) → Enters opens ledger sessions tx 0 x y → Enters opens ledger sessions tx n y z → Enters opens ledger sessions tx n x z
  behind n x y z a b = subst (λ (k : ℕ). Enters opens ledger sessions tx k x z) (one_more n) (enters_then 0 n x y z a b)

  module _ (d : Desk) (a a' : Account) (s s' : PassSeen Entry) where
    nothing : Gains opens ledger sessions [] (known a s no_claims) (known a' s' no_claims) → Enters opens ledger sessions tx 0 (standing d a s) (standing d a' s')
    nothing g = record { own = []; gains = g; kinds = refl; count = refl; faults = faults_self d.faults }

    enters_end : (result : Result Entered Fault) → GainsEnd opens ledger sessions tx result (known a s no_claims) (known a' s' no_claims) → Enters opens ledger sessions tx (undone_in result) (standing d a s) (standing d a' s')
    enters_end (Ok (At pos)) g =
        let e = Rec g.0 (end_by tx g.1) in
        record { own = e ∷ []; gains = g.2; kinds = and_true (eqb tx tx) true (eqb_self tx) refl; count = counted (eqb tx tx) e (eqb_self tx); faults = faults_self d.faults }
    enters_end (Ok NoRoom) g = nothing g
    enters_end (Ok (Late pos)) g = nothing g
    enters_end (Err f) g = nothing g

    -- the End behind what found no open write
    pub enters_ended : (x : Standing) (result : Result Entered Fault) → Rolls opens ledger sessions tx 0 x (standing d a s) → GainsEnd opens ledger sessions tx result (known a s no_claims) (known a' s' no_claims) → Enters opens ledger sessions tx (undone_in result) x (standing d a' s')
    enters_ended x result r g = behind (undone_in result) x (standing d a s) (standing d a' s') (enters_rolled 0 x (standing d a s) r) (enters_end result g)

    -- a look
    pub looks : Looks opens ledger sessions a s a' s' → Gains opens ledger sessions [] (known a s no_claims) (known a' s' no_claims)
    looks l = gains_of opens ledger sessions [] (known a s no_claims) (known a' s' no_claims) l

-- nothing more
pub enters_none : (opens : List Record → Type 0) (ledger sessions : LedgerName) (tx : ℕ) (d : Desk) (a a' : Account) (s s' : PassSeen Entry) → Looks opens ledger sessions a s a' s' → Enters opens ledger sessions tx 0 (standing d a' s') (standing d a' s')
enters_none opens ledger sessions tx d a a' s s' l = record { own = []; gains = gains_still opens ledger sessions a' s' l.now.consistent l.totals; kinds = refl; count = refl; faults = faults_self d.faults }

-- ---- the least loser

-- the first of those that two tests let through passes the second
twice_passes : (f g : ℕ → Bool) (ns : List ℕ) (t : ℕ) → first_of (filter f (filter g ns)) ≡ Some t → g t ≡ true
twice_passes f g [] t is = absurd (cc is)
twice_passes f g (n ∷ ns) t is = by (g n) refl (twice_passes f g ns t) is
  where
    by_test : (c : Bool) → g n ≡ true → (first_of (filter f (filter g ns)) ≡ Some t → g t ≡ true) → first_of (cond c (n ∷ filter f (filter g ns)) (filter f (filter g ns))) ≡ Some t → g t ≡ true
    by_test true e more k = let same : n ≡ t = cc k in subst (λ (m : ℕ). g m ≡ true) same e
    by_test false e more k = more k

    by : (b : Bool) → g n ≡ b → (first_of (filter f (filter g ns)) ≡ Some t → g t ≡ true) → first_of (filter f (cond b (n ∷ filter g ns) (filter g ns))) ≡ Some t → g t ≡ true
    by true e more k = by_test (f n) e more k
    by false e more k = more k

pub least_loses : (opens : List Record → Type 0) (h : List Entry) (tx : ℕ) → IsLeastLeft opens h tx → IsLoserOf opens tx
least_loses opens h tx least opening stands = twice_passes _ (is_loser opening) _ tx (least opening stands)

none_first : (ns : List ℕ) → first_of ns ≡ None → ns ≡ []
none_first [] none = refl
none_first (n ∷ ns) none = absurd (cc none)

pub none_left : (opening : List Record) (h : List Entry) (found : Option ℕ) → found ≡ None → found ≡ first_of (losers_left opening h) → losers_left opening h ≡ []
none_left opening h found none is = none_first (losers_left opening h) (sym is ∙ none)

-- what the step on it came to
pub done_on : (opens : List Record → Type 0) (looked h : List Entry) (tx : ℕ) (result : Result Step Fault) → IsLeastLeft opens looked tx → IfOk result (HasStepped opens h tx) → IfOk result (Steps opens looked h tx)
done_on opens looked h tx (Ok steps.NoLoser) least did = absurd did
done_on opens looked h tx (Ok (steps.Undone pos)) least did = (least, did)
done_on opens looked h tx (Ok (steps.Ended pos)) least did = (least, did)
done_on opens looked h tx (Ok (steps.Late pos)) least did = (least, did)
done_on opens looked h tx (Err f) least did = tt

-- page 1 is there in every life
pub root_made : (opens : List Record → Type 0) (h : List Entry) → IsConsistent opens h → IsMade opens h 1
root_made opens h consistent opening stands =
    let whole = tree (life_log opening h) (consistent.sound opening stands).lawful (consistent.some opening stands) in
    whole.made 1 (omega arith) whole.some
