-- A split with the change that it was made for, as the body has it: what it asked, and both halves behind it.
use Rattle.std.proofs.Common.{◌≡◌, ℕ, ◌<◌, List, ◌++◌, Option, Some, None, Result, Ok, Err, Bool, true, false, cond, sym, ap, subst, ◌∙◌, refl}
use Rattle.std.specs.Prelude.{IfOk, IfErr}
use mathlib.Core.List.{IsPrefix}
use Rattle.books.specs.Rights.{PageClaim, SessionClaim, MaintClaim}
use Rattle.front.specs.Seen.{PassSeen}
use Rattle.store_model.specs.declared.fault.Fault.{Fault}
use Rattle.store_model.specs.declared.fault.Memory.{Memory}
use Rattle.wal_record.specs.State.{page_room, state_size}
use Rattle.wal_record.specs.Images.{IsLeafOf, with_value}
use Rattle.wal_record.specs.declared.page.PageState.{PageState}
use Rattle.wal_record.specs.declared.record.Record.{Record}
use Rattle.wal_record.specs.declared.entry.Entry.{Entry}
use Rattle.foster_laws.specs.Purges.{has_tombstone}
use Rattle.page_halves.specs.Parts.{lower_with}
use Rattle.page_ops.specs.Claims.{Claims, AreInRange, no_claims}
use Rattle.page_ops.specs.Groups.{record_entries, said_entries}
use Rattle.page_ops.specs.Hands.{Hand, IsInHand}
use Rattle.page_ops.specs.Names.{LedgerName}
use Rattle.page_ops.specs.Outcomes.{EntersGroup, IsAnswer, IsFull, KeepsRights, OnEntered, SameHolders, answered}
use Rattle.page_ops.specs.Seeing.{Account, known}
use Rattle.page_ops.specs.declared.group.Group.{Group}
use Rattle.page_ops.specs.declared.outcome.Entered.{Entered}
use Rattle.page_ops.specs.declared.outcome.Entered.TheVariants.{At, NoRoom, Late}
use Rattle.smo.specs.Asked.{MayAsk, Asked, AskedIfMade}
use Rattle.smo.specs.Settled.{claims_of}
use Rattle.smo.proofs.MadePages as making
use Rattle.leaf_writes.specs.Changes.{IsSpelledChange, UnlessEntered, goes_low, half_of, record_by, split_group_by}
use Rattle.leaf_writes.specs.Halves.{SplitsLeaf, lower_written, numbered, upper_written}
use Rattle.leaf_writes.specs.MayChange.{MayBy}
use Rattle.leaf_writes.specs.Owners.{KeepsOwner}
use Rattle.leaf_writes.specs.declared.change.How.{How}
use Rattle.leaf_writes.proofs.ChangedLeaf.{filled_of}
use Rattle.leaf_writes.proofs.Handed as handed
use Rattle.leaf_writes.proofs.Owners.{is_quiet, keeps_owner, leave_answered, quiet_change}
use Rattle.store_model.proofs.Bools.{and_true}
use Rattle.leaf_writes.proofs.EachKind.{gives_of}
use Rattle.leaf_writes.proofs.MayAsk as asking
use Rattle.leaf_writes.proofs.SplitBehind as behind

-- the lower half was made before its new page had a number
renumbered : (b : Bool) (child : ℕ) (key : List ℕ) (new : Option (List ℕ)) (s : PageState)
    → numbered child (cond b (with_value key new (lower_with 2 s)) (lower_with 2 s)) ≡ cond b (with_value key new (lower_with child s)) (lower_with child s)
renumbered true child key new s = refl
renumbered false child key new s = refl

module _ (opens : List Record → Type 0) (ledger sessions : LedgerName) (hand inside : Hand) (view : inside ≡ hand) (there : IsInHand opens inside) (seen : PassSeen Entry) (begins : IsPrefix hand.pass.log seen.log) (how : How) (tx : ℕ) (key : List ℕ) (new : Option (List ℕ))
    (at : IsLeafOf key hand.state) (whole : has_tombstone hand.state ≡ false) (full : page_room < state_size (with_value key new hand.state)) (owner : Option SessionClaim) (may : MayBy how opens seen.log hand.state tx key new owner) (words : IsSpelledChange how key new)
    (made : Result Group Memory) (is : IfOk made (λ (g : Group). g ≡ split_group_by how tx key new owner inside.page inside.state))
    (right : Option PageClaim) (owned : Option SessionClaim) (x y : Claims) (right_is : right ≡ inside.right) (owned_is : owned ≡ owner) (none : x ≡ no_claims) (claims : y ≡ record x { a = right; s = owned }) where
  abbrev of_hand : Hand → Group
  of_hand h = split_group_by how tx key new owner h.page h.state

  abbrev group : Group
  group = of_hand hand

  mine : IsInHand opens hand
  mine = subst (IsInHand opens) view there

  pub may_split : IfOk made (MayAsk opens seen.log y)
  may_split =
      handed.may_here opens ledger sessions of_hand hand inside view owner seen made is right owned x y right_is owned_is none claims (asking.may_split opens seen.log hand mine begins tx key new at how owner may words whole full)

  module _ (seen' : PassSeen Entry) (a a' : Account) (z : Claims) (result : Result Entered Fault) (asked : AskedIfMade opens ledger sessions made result (known a seen y) (known a' seen' z)) where
    here : Asked opens ledger sessions group result (known a seen (claims_of hand owner)) (known a' seen' z)
    here = handed.asked_here opens ledger sessions of_hand hand inside view owner seen made is right owned x y right_is owned_is none claims seen' a a' z result asked

    pub split_owner : SameHolders y z → KeepsRights result y z → (owned' : Option SessionClaim) → owned' ≡ z.s → KeepsOwner result owner owned'
    split_owner holders keeps owned' owned'_is =
        let page = half_of hand.page 0 key hand.state in
        let quiet = and_true (is_quiet (record_by how tx page key new)) true (quiet_change how tx page key new) refl in
        let filled = filled_of result group here.now (claims_of hand owner) z here.filled in
        subst (KeepsOwner result owner) (sym owned'_is)
        (keeps_owner opens ledger sessions (answered here.now.lsn here.now.recs group.said result) (known a seen (claims_of hand owner)) (known a' seen' z) result here.enters.enters (leave_answered filled.0 group here.now result quiet filled.1)
        (handed.same_here opens ledger sessions of_hand hand inside view owner seen made is right owned x y right_is owned_is none claims seen' a a' z result asked holders).s
        (handed.keeps_here opens ledger sessions of_hand hand inside view owner seen made is right owned x y right_is owned_is none claims seen' a a' z result asked keeps))

    pub split_answer : IfOk made (λ (g : Group). IfOk result (IsAnswer opens seen'.log g)) → IfOk result (IsAnswer opens seen'.log group)
    split_answer = handed.answer_here opens ledger sessions of_hand hand inside view owner seen made is right owned x y right_is owned_is none claims seen' a a' z result asked

    pub split_full : IfOk made (λ (g : Group). IfErr result (IsFull opens seen'.log g)) → IfErr result (IsFull opens seen'.log group)
    split_full = handed.full_here opens ledger sessions of_hand hand inside view owner seen made is right owned x y right_is owned_is none claims seen' a a' z result asked

    -- where the group isn't entered
    module _ (leaf_now : Hand) (right' : Option PageClaim) (owned' : Option SessionClaim) (keeps : KeepsRights result y z) (right'_is : right' ≡ z.a) (owned'_is : owned' ≡ z.s) where
      abbrev Splits : Result Entered Fault → Type 0
      Splits r = SplitsLeaf opens ledger sessions group key new seen' hand leaf_now r (known a seen (claims_of hand owner)) (known a' seen' (record { a = right'; b = None; c = None; s = owned'; m = None }))

      kept : UnlessEntered result (handed.SamePages (claims_of hand owner) z)
      kept = handed.kept_pages result (claims_of hand owner) z (handed.keeps_here opens ledger sessions of_hand hand inside view owner seen made is right owned x y right_is owned_is none claims seen' a a' z result asked keeps)

      back : handed.SamePages (claims_of hand owner) z → z ≡ record { a = right'; b = None; c = None; s = owned'; m = None }
      back same = λ i. record { a = sym right'_is i; b = same.b i; c = same.c i; s = sym owned'_is i; m = same.m i }

      refused_by : (r : Result Entered Fault) → Asked opens ledger sessions group r (known a seen (claims_of hand owner)) (known a' seen' z) → UnlessEntered r (handed.SamePages (claims_of hand owner) z) → UnlessEntered r (Splits r)
      refused_by (Ok (At pos)) k same = tt
      refused_by (Ok NoRoom) k same =
          record { now = k.now; enters = subst (λ (w : Claims). EntersGroup opens ledger sessions group k.now (Ok NoRoom) (known a seen (claims_of hand owner)) (known a' seen' w)) (back same) k.enters; child = 0; filled = tt; number = tt; settled = tt }
      refused_by (Ok (Late pos)) k same =
          record { now = k.now; enters = subst (λ (w : Claims). EntersGroup opens ledger sessions group k.now (Ok (Late pos)) (known a seen (claims_of hand owner)) (known a' seen' w)) (back same) k.enters; child = 0; filled = tt; number = tt; settled = tt }
      refused_by (Err fault) k same =
          record { now = k.now; enters = subst (λ (w : Claims). EntersGroup opens ledger sessions group k.now (Err fault) (known a seen (claims_of hand owner)) (known a' seen' w)) (back same) k.enters; child = 0; filled = tt; number = tt; settled = tt }

      pub refused : OnEntered result ⊥ → Splits result
      refused n = handed.given result (Splits result) n (refused_by result here kept)

    pub split_unchanged : KeepsRights result y z → OnEntered result ⊥ → (r : PageClaim) (lsn : ℕ) (state : PageState) → Some r ≡ z.a → lsn ≡ r.lsn → state ≡ inside.state
        → ◌≡◌ {A = Hand} (record { page = inside.page; lsn = lsn; state = state; dirty = inside.dirty; right = Some r; pass = inside.pass }) inside
    split_unchanged = handed.unchanged opens ledger sessions of_hand hand inside view owner seen made is right owned x y right_is owned_is none claims seen' a a' z result asked there

    module _ (entered : UnlessEntered result ⊥) (holders : SameHolders y z) (z' : Claims) (view' : z' ≡ z) (range : AreInRange z') (took took' : Option PageClaim) (c c' : PageClaim) (took_is : took ≡ z'.a) (took_some : took ≡ Some c) (took'_is : took' ≡ z'.c) (took'_some : took' ≡ Some c') where
      abbrev pos : ℕ
      pos = (handed.at_of result entered).0

      result_is : result ≡ Ok (At pos)
      result_is = (handed.at_of result entered).1

      ours : Asked opens ledger sessions group (Ok (At pos)) (known a seen (claims_of hand owner)) (known a' seen' z)
      ours = subst (λ (q : Result Entered Fault). Asked opens ledger sessions group q (known a seen (claims_of hand owner)) (known a' seen' z)) result_is here

      old_is : z.a ≡ Some c
      old_is = sym (ap (λ (w : Claims). w.a) view') ∙ sym took_is ∙ took_some

      new_is : z.c ≡ Some c'
      new_is = sym (ap (λ (w : Claims). w.c) view') ∙ sym took'_is ∙ took'_some

      same : SameHolders (claims_of hand owner) z
      same = handed.same_here opens ledger sessions of_hand hand inside view owner seen made is right owned x y right_is owned_is none claims seen' a a' z result asked holders

      page_is : c'.page ≡ ours.filled.child
      page_is = making.is_made opens ledger sessions hand owner mine seen seen' a a' z group 0 refl pos begins ours c' new_is

      lower_is : (child : ℕ) (lower state : PageState) → child ≡ c'.page → lower ≡ lower_written 2 key new inside.state → state ≡ numbered child lower → state ≡ lower_written ours.filled.child key new hand.state
      lower_is child lower state child_is half_is state_is =
          state_is ∙ (λ i. numbered ((child_is ∙ page_is) i) ((half_is ∙ ap (λ (h : Hand). lower_written 2 key new h.state) view) i)) ∙ renumbered (goes_low key hand.state) ours.filled.child key new hand.state

      pub upper_settled : (u : PageState) (pass : PassSeen Entry) → u ≡ upper_written key new inside.state → pass ≡ seen' → IsInHand opens (record { page = c'.page; lsn = c'.lsn; state = u; dirty = true; right = Some c'; pass = pass })
      upper_settled u pass u_is pass_is =
          let state : u ≡ upper_written key new hand.state = u_is ∙ ap (λ (h : Hand). upper_written key new h.state) view in
          subst (IsInHand opens) (λ i. record { page = c'.page; lsn = c'.lsn; state = sym state i; dirty = true; right = Some c'; pass = sym pass_is i })
          (behind.upper_in_hand opens ledger sessions hand owner mine seen seen' begins how tx key new (gives_of how opens seen.log hand.state tx key new owner may) a a' z pos at whole words.key words.new full ours c' new_is (subst AreInRange view' range))

      pub lower_settled : (lsn child : ℕ) (lower state : PageState) (pass : PassSeen Entry) → lsn ≡ c.lsn → child ≡ c'.page → lower ≡ lower_written 2 key new inside.state → state ≡ numbered child lower → pass ≡ seen'
          → IsInHand opens (record { page = inside.page; lsn = lsn; state = state; dirty = true; right = Some c; pass = pass })
      lower_settled lsn child lower state pass lsn_is child_is lower_state state_is pass_is =
          let there_now = behind.lower_in_hand opens ledger sessions hand owner mine seen seen' begins how tx key new (gives_of how opens seen.log hand.state tx key new owner may) a a' z pos at whole words.key words.new full ours c old_is same.a (subst AreInRange view' range) in
          let made_is = lower_is child lower state child_is lower_state state_is in
          subst (IsInHand opens) (λ i. record { page = (sym view i).page; lsn = sym lsn_is i; state = sym made_is i; dirty = true; right = Some c; pass = sym pass_is i }) there_now

      pub split_done : (lsn child : ℕ) (lower state : PageState) (pass pass' : PassSeen Entry) (owned' : Option SessionClaim) → child ≡ c'.page → lower ≡ lower_written 2 key new inside.state → state ≡ numbered child lower → pass ≡ seen' → pass' ≡ seen' → owned' ≡ z.s
          → SplitsLeaf opens ledger sessions group key new pass' hand (record { page = inside.page; lsn = lsn; state = state; dirty = true; right = Some c; pass = pass }) result (known a seen (claims_of hand owner))
          (known a' pass' (record { a = Some c; b = None; c = None; s = owned'; m = None }))
      split_done lsn child lower state pass pass' owned' child_is lower_state state_is pass_is pass'_is owned'_is =
          let b : z.b ≡ None = making.none_mapped (λ (p : PageClaim). p.page) z.b same.b in
          let m : z.m ≡ None = making.none_mapped (λ (m : MaintClaim). m.number) z.m same.m in
          let made_is : state ≡ lower_written ours.filled.child key new hand.state = lower_is child lower state child_is lower_state state_is in
          subst (λ (q : Result Entered Fault). SplitsLeaf opens ledger sessions group key new pass' hand (record { page = inside.page; lsn = lsn; state = state; dirty = true; right = Some c; pass = pass }) q (known a seen (claims_of hand owner))
          (known a' pass' (record { a = Some c; b = None; c = None; s = owned'; m = None }))) (sym result_is)
          (record {
            now = ours.now;
            enters = subst (λ (q : Claims × (PassSeen Entry)). EntersGroup opens ledger sessions group ours.now (Ok (At pos)) (known a seen (claims_of hand owner)) (known a' q.1 q.0))
                (λ i. (record { a = old_is i; b = b i; c = None; s = sym owned'_is i; m = m i }, sym pass'_is i))
                (record { enters = making.without_new opens ledger sessions a a' seen seen' (claims_of hand owner) z (record_entries ours.now.lsn ours.now.recs ++ said_entries group.said) ours.enters.enters; room = ours.enters.room });
            child = ours.filled.child;
            filled = ours.filled.recs;
            number = behind.number opens ledger sessions hand owner mine seen seen' begins how tx key new (gives_of how opens seen.log hand.state tx key new owner may) a a' z pos at whole words.key words.new full ours;
            settled = record { page = ap (λ (h : Hand). h.page) view; state = made_is; pass = pass_is ∙ sym pass'_is; dirty = refl };
          })
