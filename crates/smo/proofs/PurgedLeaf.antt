-- A purge asked for, and the leaf behind it.
use Rattle.std.proofs.Common.{◌≡◌, ℕ, List, [], ◌∷◌, Option, Some, None, Result, Ok, Err, true, eqb, sym, ap, subst, ◌∙◌, refl, arith}
use Rattle.std.specs.Prelude.{IfOk, IsTrue, filter, ◌||◌, ◌&&◌, false}
use Rattle.std.specs.List.{list_all}
use mathlib.Core.List.{IsPrefix}
use Rattle.books.specs.Rights.{PageClaim}
use Rattle.front.specs.Seen.{PassSeen}
use Rattle.front.proofs.Keeping.{prefix_self}
use Rattle.store_model.specs.declared.fault.Fault.{Fault}
use Rattle.store_model.specs.declared.fault.Memory.{Memory}
use Rattle.wal_record.specs.State.{leaf_rows}
use Rattle.wal_record.specs.Images.{applied, is_live_row, purged}
use Rattle.wal_record.specs.declared.page.PageState.{PageState}
use Rattle.wal_record.specs.declared.page.Rows.{Rows}
use Rattle.wal_record.specs.declared.page.Rows.TheVariants.{Leaf}
use Rattle.wal_record.specs.declared.record.Record.{Record}
use Rattle.wal_record.specs.declared.entry.Entry.{Entry}
use Rattle.log_laws.proofs.Central.{eqb_self}
use Rattle.foster_laws.specs.Purges.{has_tombstone}
use Rattle.foster_laws.proofs.Purging.{purge}
use Rattle.page_ops.specs.Claims.{Claims, AreInRange, no_claims}
use Rattle.page_ops.specs.Groups.{Numbers, filled, has_rights}
use Rattle.page_ops.specs.Hands.{Hand, IsInHand}
use Rattle.page_ops.specs.Names.{LedgerName}
use Rattle.page_ops.specs.Outcomes.{SameHolders, page_of}
use Rattle.page_ops.specs.Seeing.{Account, known}
use Rattle.page_ops.specs.declared.group.Group.{Group}
use Rattle.page_ops.specs.declared.outcome.Entered.{Entered}
use Rattle.page_ops.specs.declared.outcome.Entered.TheVariants.{At}
use Rattle.smo.specs.Asked.{MayAsk, Asked, AskedIfMade}
use Rattle.smo.specs.Purges.{purge_of, purge_group}
use Rattle.smo.specs.Settled.{claims_of}
use Rattle.smo.proofs.Moments.{purge_follows}
use Rattle.smo.proofs.Settling.{in_hand}

-- ---- the condition of asking

module _ (opens : List Record → Type 0) (seen : List Entry) (hand : Hand) (there : IsInHand opens hand) (begins : IsPrefix hand.pass.log seen) (leaf : hand.state.rows ≡ Leaf (leaf_rows hand.state.rows)) (some : has_tombstone hand.state ≡ true) where
  may_ask : MayAsk opens seen (claims_of hand None) (purge_group hand.page hand.lsn)
  may_ask = record {
    group = record { few = omega arith; kinds = refl; spelled = (record { page = there.number; page_prev = refl }, tt); told = refl; alone = λ _. refl };
    rights = record {
      pages = subst (λ (o : Option PageClaim). IsTrue (list_all (has_rights None (record { a = o; b = None; c = None; s = None; m = None })) (purge_of hand.page hand.lsn ∷ []))) (sym there.right) (own hand.page);
      new = λ n. absurd (cc n);
      owners = (tt, tt);
      speaker = tt;
      maintenance = λ n. absurd (cc n);
    };
    askable = λ opening h stands moment. purge_follows opens seen hand None there begins opening stands h moment hand.right leaf some;
    timely = λ opening stands. ((seen, prefix_self seen, tt), tt);
  }
    where
      own : (p : ℕ) → (((eqb p p || false) || false) && true) && true ≡ true
      own p = ap (λ b. (((b || false) || false) && true) && true) (eqb_self p)

pub may_purge : (opens : List Record → Type 0) (seen : List Entry) (hand inside : Hand) (made : Result Group Memory) (right : Option PageClaim) (x y : Claims) → inside ≡ hand → IsInHand opens inside → IsPrefix hand.pass.log seen
    → hand.state.rows ≡ Leaf (leaf_rows hand.state.rows) → has_tombstone hand.state ≡ true → right ≡ inside.right → x ≡ no_claims → y ≡ record x { a = right }
    → IfOk made (λ (g : Group). g ≡ purge_group inside.page inside.lsn) → IfOk made (MayAsk opens seen y)
may_purge opens seen hand inside (Err m) right x y view there begins leaf some right_is none claims is = tt
may_purge opens seen hand inside (Ok g) right x y view there begins leaf some right_is none claims is =
    let all : claims_of hand None ≡ y = sym (claims ∙ (λ i. record { a = (right_is ∙ ap (λ (h : Hand). h.right) view) i; b = (none i).b; c = (none i).c; s = (none i).s; m = (none i).m })) in
    let group : purge_group hand.page hand.lsn ≡ g = sym (is ∙ ap (λ (h : Hand). purge_group h.page h.lsn) view) in
    subst (λ (z : Claims × Group). MayAsk opens seen z.0 z.1) (λ i. (all i, group i)) (may_ask opens seen hand (subst (IsInHand opens) view there) begins leaf some)

-- ---- the leaf behind it

purged_is : (n : Numbers) (made : Option ℕ) (page lsn : ℕ) (s : PageState) → applied (filled made n (purge_of page lsn)) page (Some s) ≡ Some (purged s)
unfolding applied
purged_is n made page lsn s = refl

module _ (opens : List Record → Type 0) (ledger sessions : LedgerName) (hand : Hand) (mine : IsInHand opens hand) (seen seen' : PassSeen Entry) (begins : IsPrefix hand.pass.log seen.log)
    (leaf : hand.state.rows ≡ Leaf (leaf_rows hand.state.rows)) (a a' : Account) (y z : Claims) (all : y ≡ claims_of hand None) (result : Result Entered Fault) (pos : ℕ) (result_is : result ≡ Ok (At pos)) where
  settled : (made : Result Group Memory) → IfOk made (λ (g : Group). g ≡ purge_group hand.page hand.lsn) → AskedIfMade opens ledger sessions made result (known a seen y) (known a' seen' z)
      → (c : PageClaim) → z.a ≡ Some c → page_of z.a ≡ page_of hand.right → AreInRange z
      → IsInHand opens (record { page = hand.page; lsn = c.lsn; state = purged hand.state; dirty = true; right = Some c; pass = seen' })
  settled (Err m) is asked c some same range = absurd (cc (sym asked.0 ∙ result_is))
  settled (Ok g) is asked c some same range =
      let asked' : Asked opens ledger sessions (purge_group hand.page hand.lsn) (Ok (At pos)) (known a seen (claims_of hand None)) (known a' seen' z) =
      subst (λ (q : Group × (Result Entered Fault) × Claims). Asked opens ledger sessions q.0 q.1 (known a seen q.2) (known a' seen' z)) (λ i. (is i, result_is i, all i)) asked in
      in_hand opens ledger sessions hand None mine seen seen' a a' z (purge_group hand.page hand.lsn) (purge_of hand.page hand.lsn) refl pos begins asked' (purged hand.state) true c (λ n. eqb_self hand.page) (λ n. purged_is n None hand.page hand.lsn hand.state) ((purge hand.state).leaf mine.keeps leaf).keeps some same range

pub purge_settled : (opens : List Record → Type 0) (ledger sessions : LedgerName) (hand inside : Hand) (seen seen' : PassSeen Entry) (a a' : Account) (x y z z' : Claims) (right took : Option PageClaim) (made : Result Group Memory) (result : Result Entered Fault) (pos lsn : ℕ) (c : PageClaim) (rows : Rows) (pass : PassSeen Entry)
    → inside ≡ hand → IsInHand opens inside → IsPrefix hand.pass.log seen.log → hand.state.rows ≡ Leaf (leaf_rows hand.state.rows) → right ≡ inside.right → x ≡ no_claims → y ≡ record x { a = right }
    → IfOk made (λ (g : Group). g ≡ purge_group inside.page inside.lsn) → result ≡ Ok (At pos) → AskedIfMade opens ledger sessions made result (known a seen y) (known a' seen' z) → SameHolders y z
    → z' ≡ z → AreInRange z' → took ≡ z'.a → took ≡ Some c → lsn ≡ c.lsn → rows ≡ Leaf (filter is_live_row (leaf_rows inside.state.rows)) → pass ≡ seen'
    → IsInHand opens (record { page = inside.page; lsn = lsn; state = record inside.state { rows = rows }; dirty = true; right = Some c; pass = pass })
purge_settled opens ledger sessions hand inside seen seen' a a' x y z z' right took made result pos lsn c rows pass view there begins leaf right_is none claims made_is result_is asked holders view' range took_is took_some lsn_is rows_is pass_is =
    let own : right ≡ hand.right = right_is ∙ ap (λ (h : Hand). h.right) view in
    let all : y ≡ claims_of hand None = claims ∙ (λ i. record { a = own i; b = (none i).b; c = (none i).c; s = (none i).s; m = (none i).m }) in
    let some : z.a ≡ Some c = sym (ap (λ (w : Claims). w.a) view') ∙ sym took_is ∙ took_some in
    let same : page_of z.a ≡ page_of hand.right = holders.a ∙ ap (λ (w : Claims). page_of w.a) all in
    let asks : IfOk made (λ (g : Group). g ≡ purge_group hand.page hand.lsn) = subst (λ (h : Hand). IfOk made (λ (g : Group). g ≡ purge_group h.page h.lsn)) view made_is in
    let here = settled opens ledger sessions hand (subst (IsInHand opens) view there) seen seen' begins leaf a a' y z all result pos result_is made asks asked c some same (subst AreInRange view' range) in
    let rows_are : Leaf (filter is_live_row (leaf_rows hand.state.rows)) ≡ rows = sym (rows_is ∙ ap (λ (h : Hand). Leaf (filter is_live_row (leaf_rows h.state.rows))) view) in
    let back = sym view in
    subst (IsInHand opens) (λ i. record { page = (back i).page; lsn = sym lsn_is i; state = record ((back i).state) { rows = rows_are i }; dirty = true; right = Some c; pass = sym pass_is i }) here
