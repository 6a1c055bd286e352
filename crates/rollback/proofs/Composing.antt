-- Calls that undo, one after the other: what they enter.
use Rattle.std.proofs.Common.{◌≡◌, ℕ, ◌+◌, Bool, true, false, List, [], ◌∷◌, ◌++◌, length, Option, Some, None, Result, Ok, Err, refl, sym, ap, subst, ◌∙◌, arith, length-append, append_assoc, suc, cond, eqb, inl, inr}
use Rattle.std.specs.Prelude.{filter, IfOk}
use Rattle.std.specs.List.{list_all}
use Rattle.std.proofs.lemmas.List.Elements.{filter-append}
use Rattle.books.specs.Rights.{SessionClaim}
use Rattle.front.specs.Seen.{PassSeen}
use Rattle.store_model.proofs.Bools.{both_true, and_true}
use Rattle.store_model.specs.declared.fault.Fault.{Fault}
use Rattle.store_model.specs.declared.fault.Fault.TheVariants as faults
use Rattle.wal_record.specs.Images.{purged}
use Rattle.wal_record.specs.declared.page.PageState.{PageState}
use Rattle.wal_record.specs.declared.record.Split.{Split}
use Rattle.wal_record.specs.declared.record.Undo.{Undo}
use Rattle.wal_record.specs.declared.record.Record.{Record}
use Rattle.wal_record.specs.declared.record.Record.TheVariants as kinds
use Rattle.wal_record.specs.declared.entry.Entry.{Entry}
use Rattle.wal_record.specs.declared.entry.Entry.TheVariants.{Rec, Repaired}
use Rattle.log_laws.proofs.Central.{eqb_self}
use Rattle.claim_laws.specs.Losers.{undoes}
use Rattle.page_ops.specs.Claims.{Claims, no_claims}
use Rattle.page_ops.specs.Desks.{Desk, Faults, KeepsFaults}
use Rattle.page_ops.specs.Gains.{Gains}
use Rattle.page_ops.specs.Groups.{AreFilled, AreFilledFrom, filled, group_entries}
use Rattle.page_ops.specs.Hands.{Hand}
use Rattle.page_ops.specs.Names.{LedgerName}
use Rattle.page_ops.specs.Outcomes.{IsAnswer, OnEntered, answered}
use Rattle.page_ops.specs.Seeing.{Account, Enters, Upholds, is_upkeep, known}
use Rattle.page_ops.specs.declared.group.Group.{Group}
use Rattle.page_ops.specs.declared.group.Said.{Said}
use Rattle.page_ops.specs.declared.outcome.Entered.{Entered}
use Rattle.page_ops.specs.declared.outcome.Entered.TheVariants.{At, NoRoom, Late}
use Rattle.page_ops.proofs.Gaining.{gains_of, gains_of_upheld, gains_then}
use Rattle.smo.specs.Purges.{purge_of}
use Rattle.foster_laws.specs.Splits.{upper_half}
use Rattle.leaf_writes.specs.Changes.{group_by, half_of, split_group_by}
use Rattle.leaf_writes.specs.KeyWrites.{WritesBy, WritesKey, WritesOn, group_on, has_room, needs_purge}
use Rattle.leaf_writes.specs.Owners.{EndsWith}
use Rattle.leaf_writes.specs.declared.change.Change.{Change}
use Rattle.leaf_writes.specs.declared.change.How.TheVariants as hows
use Rattle.rollback.specs.Rolls.{IfAt, IsUndoAt, Rolls, Standing, known_by, rolls_back, standing, undone_in}

-- ---- kinds of entries

all_both : (f : Entry → Bool) (xs ys : List Entry) → list_all f xs ≡ true → list_all f ys ≡ true → list_all f (xs ++ ys) ≡ true
all_both f [] ys h k = k
all_both f (x ∷ xs) ys h k = let both = both_true (f x) (list_all f xs) h in and_true (f x) (list_all f (xs ++ ys)) both.0 (all_both f xs ys both.1 k)

up_kind : (tx : ℕ) (e : Entry) → is_upkeep e ≡ true → rolls_back tx e ≡ true
up_kind tx (Repaired page) h = refl
up_kind tx (Rec lsn (kinds.Written w)) h = refl
up_kind tx (Rec lsn (kinds.Restored r)) h = refl
up_kind tx _ h = absurd (cc h)

up_kinds : (tx : ℕ) (es : List Entry) → list_all is_upkeep es ≡ true → list_all (rolls_back tx) es ≡ true
up_kinds tx [] h = refl
up_kinds tx (e ∷ es) h = let both = both_true (is_upkeep e) (list_all is_upkeep es) h in and_true (rolls_back tx e) (list_all (rolls_back tx) es) (up_kind tx e both.0) (up_kinds tx es both.1)

up_undoes : (tx : ℕ) (e : Entry) → is_upkeep e ≡ true → undoes tx e ≡ false
up_undoes tx (Repaired page) h = refl
up_undoes tx (Rec lsn (kinds.Written w)) h = refl
up_undoes tx (Rec lsn (kinds.Restored r)) h = refl
up_undoes tx _ h = absurd (cc h)

without : (p : Entry → Bool) (e : Entry) (es : List Entry) → p e ≡ false → filter p (e ∷ es) ≡ filter p es
without p e es not = by (p e) not
  where
    by : (b : Bool) → b ≡ false → cond b (e ∷ filter p es) (filter p es) ≡ filter p es
    by true h = absurd (cc h)
    by false h = refl

no_undo : (tx : ℕ) (es : List Entry) → list_all is_upkeep es ≡ true → length (filter (undoes tx) es) ≡ 0
no_undo tx [] h = refl
no_undo tx (e ∷ es) h = let both = both_true (is_upkeep e) (list_all is_upkeep es) h in ap length (without (undoes tx) e es (up_undoes tx e both.0)) ∙ no_undo tx es both.1

zero_left : (n : ℕ) → 0 + n ≡ n
zero_left n = omega arith

-- ---- faults

pub faults_self : (f : Faults) → KeepsFaults f f
faults_self f = record { log = omega arith; vault = omega arith }

pub faults_then : (a b c : Faults) → KeepsFaults a b → KeepsFaults b c → KeepsFaults a c
faults_then a b c x y =
    let l = x.log in
    let m = y.log in
    let v = x.vault in
    let w = y.vault in
    record { log = omega (arith, l, m); vault = omega (arith, v, w) }

-- ---- calls

module _ (opens : List Record → Type 0) (ledger sessions : LedgerName) where
  -- whatever rights were handed in
  pub reclaimed : (own : List Entry) (a a' : Account) (t t' : PassSeen Entry) (x x' y y' : Claims) → Gains opens ledger sessions own (known a t x) (known a' t' x') → Gains opens ledger sessions own (known a t y) (known a' t' y')
  reclaimed own a a' t t' x x' y y' g = record { gained = g.gained; is = g.is; among = g.among; consistent = g.consistent; durable = g.durable; keeps = g.keeps; counted = g.counted; totals = g.totals }

  pub rolls_then : (tx n m : ℕ) (x y z : Standing) → Rolls opens ledger sessions tx n x y → Rolls opens ledger sessions tx m y z → Rolls opens ledger sessions tx (n + m) x z
  rolls_then tx n m x y z r q = record {
    own = r.own ++ q.own;
    gains = gains_then opens ledger sessions r.own q.own (known_by x) (known_by y) (known_by z) r.gains q.gains;
    kinds = all_both (rolls_back tx) r.own q.own r.kinds q.kinds;
    count = ap length (filter-append (undoes tx) r.own q.own) ∙ length-append (filter (undoes tx) r.own) (filter (undoes tx) q.own) ∙ (λ i. r.count i + q.count i);
    faults = faults_then x.desk.faults y.desk.faults z.desk.faults r.faults q.faults;
  }

  -- behind calls that undo nothing
  pub rolls_behind : (tx m : ℕ) (x y z : Standing) → Rolls opens ledger sessions tx 0 x y → Rolls opens ledger sessions tx m y z → Rolls opens ledger sessions tx m x z
  rolls_behind tx m x y z r q = subst (λ (n : ℕ). Rolls opens ledger sessions tx n x z) (zero_left m) (rolls_then tx 0 m x y z r q)

  pub rolls_upheld : (tx : ℕ) (x y : Standing) → Upholds opens ledger sessions is_upkeep (known_by x) (known_by y) → KeepsFaults x.desk.faults y.desk.faults → Rolls opens ledger sessions tx 0 x y
  rolls_upheld tx x y u kept = record {
    own = u.own;
    gains = gains_of_upheld is_upkeep opens ledger sessions (known_by x) (known_by y) u;
    kinds = up_kinds tx u.own u.kinds;
    count = no_undo tx u.own u.kinds;
    faults = kept;
  }

  -- a look, whatever rights were handed in
  pub rolls_looked : (tx : ℕ) (d : Desk) (a a' : Account) (s s' : PassSeen Entry) (x x' : Claims) → Enters opens ledger sessions (known a s x) [] (known a' s' x') → Rolls opens ledger sessions tx 0 (standing d a s) (standing d a' s')
  rolls_looked tx d a a' s s' x x' e = record {
    own = [];
    gains = reclaimed [] a a' s s' x x' no_claims no_claims (gains_of opens ledger sessions [] (known a s x) (known a' s' x') e);
    kinds = refl;
    count = refl;
    faults = faults_self d.faults;
  }

  -- behind calls of the pool alone
  pub rolls_put : (tx n : ℕ) (x : Standing) (d d' : Desk) (a : Account) (s : PassSeen Entry) → d'.faults ≡ d.faults → Rolls opens ledger sessions tx n x (standing d a s) → Rolls opens ledger sessions tx n x (standing d' a s)
  rolls_put tx n x d d' a s same r = record { own = r.own; gains = r.gains; kinds = r.kinds; count = r.count; faults = subst (λ (f : Faults). KeepsFaults x.desk.faults f) (sym same) r.faults }

-- ---- the group of an undo

-- filled in, it is one
pub record IsUndoLast (t : ℕ) (es : List Entry) : Type 0 where
  pub before : List Entry
  pub lsn : ℕ
  pub undo : Undo
  pub is : es ≡ before ++ Rec lsn (kinds.Undo undo) ∷ []
  pub tx : undo.tx ≡ t
  pub kinds : list_all (rolls_back t) es ≡ true
  pub count : length (filter (undoes t) es) ≡ 1

counted : (b : Bool) (e : Entry) → b ≡ true → length (cond b (e ∷ []) []) ≡ 1
counted true e h = refl
counted false e h = absurd (cc h)

one_filled : (made : Option ℕ) (child lsn tx : ℕ) (u : Undo) (xs : List Record) → u.tx ≡ tx → AreFilledFrom made child (kinds.Undo u ∷ []) xs → IsUndoLast tx (group_entries lsn xs None)
one_filled made child lsn tx u [] is f = absurd f
one_filled made child lsn tx u (x ∷ y ∷ ys) is f = absurd f.1
one_filled made child lsn tx u (x ∷ []) is f = subst (λ (r : Record). IsUndoLast tx (Rec lsn r ∷ [])) (sym f.0.2)
    (let same : eqb u.tx tx ≡ true = ap (λ (n : ℕ). eqb n tx) is ∙ eqb_self tx in
    record { before = []; lsn = lsn; undo = _; is = refl; tx = is; kinds = and_true (eqb u.tx tx) true same refl; count = counted (eqb u.tx tx) _ same })

two_filled : (made : Option ℕ) (child lsn tx : ℕ) (x0 : Split) (u : Undo) (xs : List Record) → u.tx ≡ tx → AreFilledFrom made child (kinds.Split x0 ∷ kinds.Undo u ∷ []) xs → IsUndoLast tx (group_entries lsn xs None)
two_filled made child lsn tx x0 u [] is f = absurd f
two_filled made child lsn tx x0 u (x ∷ xs) is f = subst (λ (r : Record). IsUndoLast tx (Rec lsn r ∷ group_entries (suc lsn) xs None)) (sym f.0.2)
    (let rest = one_filled made child (suc lsn) tx u xs is f.1 in
    record { before = Rec lsn (filled made f.0.0 (kinds.Split x0)) ∷ rest.before; lsn = rest.lsn; undo = rest.undo; is = ap (λ (es : List Entry). Rec lsn (filled made f.0.0 (kinds.Split x0)) ∷ es) rest.is; tx = rest.tx; kinds = rest.kinds; count = rest.count })

group_filled : (b : Bool) (next tx child lsn page : ℕ) (key : List ℕ) (new : Option (List ℕ)) (owner : Option SessionClaim) (s : PageState) (xs : List Record)
    → AreFilled child (cond b (group_by (hows.Undo next) tx key new owner page) (split_group_by (hows.Undo next) tx key new owner page s)).recs xs → IsUndoLast tx (group_entries lsn xs None)
group_filled true next tx child lsn page key new owner s xs f = one_filled None child lsn tx (record { tx = tx; prev = 0; page = page; page_prev = 0; key = key; restores = new; undo_next = next }) xs refl f
group_filled false next tx child lsn page key new owner s xs f =
    two_filled (Some 0) child lsn tx (record { page = page; page_prev = 0; child = 0; child_state = upper_half s }) (record { tx = tx; prev = 0; page = half_of page 0 key s; page_prev = 0; key = key; restores = new; undo_next = next }) xs refl f

none_said : (b : Bool) (next tx page : ℕ) (key : List ℕ) (new : Option (List ℕ)) (owner : Option SessionClaim) (s : PageState) → (cond b (group_by (hows.Undo next) tx key new owner page) (split_group_by (hows.Undo next) tx key new owner page s)).said ≡ None
none_said true next tx page key new owner s = refl
none_said false next tx page key new owner s = refl

-- what the group entered
pub record UndoesOn (tx : ℕ) (result : Result Entered Fault) (es : List Entry) (h : List Entry) : Type 0 where
  pub kinds : list_all (rolls_back tx) es ≡ true
  pub count : length (filter (undoes tx) es) ≡ undone_in result
  pub last : OnEntered result (IsUndoLast tx es × EndsWith es h)

module _ (next tx : ℕ) (key : List ℕ) (new : Option (List ℕ)) (owner : Option SessionClaim) (page : ℕ) (at : PageState) where
  abbrev c : Change
  c = record { tx = tx; key = key; new = new; how = hows.Undo next }

  undoes_on : (child : ℕ) (now : Group) (h : List Entry) (result : Result Entered Fault) → OnEntered result (AreFilled child (group_on c owner page at).recs now.recs) → OnEntered result (EndsWith (group_entries now.lsn now.recs (group_on c owner page at).said) h)
      → UndoesOn tx result (answered now.lsn now.recs (group_on c owner page at).said result) h
  undoes_on child now h (Ok (At pos)) f e =
      let none = none_said (has_room c at) next tx page key new owner at in
      let ends : EndsWith (group_entries now.lsn now.recs None) h = subst (λ (s : Option Said). EndsWith (group_entries now.lsn now.recs s) h) none e in
      let last = group_filled (has_room c at) next tx child now.lsn page key new owner at now.recs f in
      subst (λ (s : Option Said). UndoesOn tx (Ok (At pos)) (group_entries now.lsn now.recs s) h) (sym none) (record { kinds = last.kinds; count = last.count; last = (last, ends) })
  undoes_on child now h (Ok NoRoom) f e = record { kinds = refl; count = refl; last = tt }
  undoes_on child now h (Ok (Late pos)) f e = record { kinds = refl; count = refl; last = tt }
  undoes_on child now h (Err (faults.Full p q at')) f e =
      subst (λ (s : Option Said). UndoesOn tx (Err (faults.Full p q at')) (answered now.lsn now.recs s (Err (faults.Full p q at'))) h) (sym (none_said (has_room c at) next tx page key new owner at)) (record { kinds = refl; count = refl; last = tt })
  undoes_on child now h (Err _) f e = record { kinds = refl; count = refl; last = tt }

-- ---- as the answer of the change says

last_at : (tx : ℕ) (es h : List Entry) (P : Entered → Type 0) → ((pos : ℕ) → P (At pos) → pos ≡ length h) → (result : Result Entered Fault) → OnEntered result (IsUndoLast tx es × EndsWith es h) → IfOk result P → IfAt result (IsUndoAt tx h)
last_at tx es h P place (Ok (At pos)) last answer =
    let whole : h ≡ (last.1.0 ++ last.0.before) ++ Rec last.0.lsn (kinds.Undo last.0.undo) ∷ [] = last.1.1 ∙ ap (λ (l : List Entry). last.1.0 ++ l) last.0.is ∙ sym (append_assoc last.1.0 last.0.before (Rec last.0.lsn (kinds.Undo last.0.undo) ∷ [])) in
    record { before = last.1.0 ++ last.0.before; lsn = last.0.lsn; undo = last.0.undo; is = whole; tx = last.0.tx; place = place pos answer }
last_at tx es h P place (Ok NoRoom) last answer = tt
last_at tx es h P place (Ok (Late pos)) last answer = tt
last_at tx es h P place (Err f) last answer = tt

module _ (opens : List Record → Type 0) (ledger sessions : LedgerName) (next tx : ℕ) (key : List ℕ) (new : Option (List ℕ)) (owner : Option SessionClaim) (d d' : Desk) (same : d'.faults ≡ d.faults) (a a' : Account) (s s' : PassSeen Entry) (x x' : Claims)
    (leaf leaf_now : Hand) (result : Result Entered Fault) (answer : IfOk result (IsAnswer opens s'.log (group_by (hows.Undo next) tx key new owner leaf.page))) where
  abbrev undo : Change
  undo = record { tx = tx; key = key; new = new; how = hows.Undo next }

  abbrev Done : Type 0
  Done = Rolls opens ledger sessions tx (undone_in result) (standing d a s) (standing d' a' s') × IfAt result (IsUndoAt tx s'.log)

  kept : KeepsFaults d.faults d'.faults
  kept = subst (λ (f : Faults). KeepsFaults d.faults f) (sym same) (faults_self d.faults)

  on : (at : PageState) (first : List Entry) → list_all (rolls_back tx) first ≡ true → length (filter (undoes tx) first) ≡ 0 → WritesOn opens ledger sessions undo owner at first s' leaf leaf_now result (known a s x) (known a' s' x') → Done
  on at first kinds none w =
      let es = answered w.now.lsn w.now.recs (group_on undo owner leaf.page at).said result in
      let u = undoes_on next tx key new owner leaf.page at w.child w.now s'.log result w.filled w.last in (
        record {
          own = first ++ es;
          gains = reclaimed opens ledger sessions (first ++ es) a a' s s' x x' no_claims no_claims w.gains;
          kinds = all_both (rolls_back tx) first es kinds u.kinds;
          count = ap length (filter-append (undoes tx) first es) ∙ length-append (filter (undoes tx) first) (filter (undoes tx) es) ∙ (λ i. none i + u.count i) ∙ zero_left (undone_in result);
          faults = kept;
        },
        last_at tx es s'.log (IsAnswer opens s'.log (group_by (hows.Undo next) tx key new owner leaf.page)) (λ pos is. is) result u.last answer,
      )

  refused : (r : Result Entered Fault) → IfOk r (λ e. ⊥) → Gains opens ledger sessions [] (known a s x) (known a' s' x') → Rolls opens ledger sessions tx (undone_in r) (standing d a s) (standing d' a' s') × IfAt r (IsUndoAt tx s'.log)
  refused (Ok e) none g = absurd none
  refused (Err f) none g = (record { own = []; gains = reclaimed opens ledger sessions [] a a' s s' x x' no_claims no_claims g; kinds = refl; count = refl; faults = kept }, tt)

  by_purge : (b : Bool) → WritesBy b opens ledger sessions undo owner s' leaf leaf_now result (known a s x) (known a' s' x') → Done
  by_purge false w = on leaf.state [] refl refl w.writes
  by_purge true (inl w) = refused result w.refused w.gains
  by_purge true (inr w) = on (purged leaf.state) (Rec w.lsn (purge_of leaf.page w.prev) ∷ []) refl refl w.writes

  pub undone : WritesKey opens ledger sessions undo owner s' leaf leaf_now result (known a s x) (known a' s' x') → Done
  undone w = by_purge (needs_purge undo leaf.state) w
