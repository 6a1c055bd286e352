-- The steps of undoing one write, as the body has them.
use Rattle.std.proofs.Common.{◌≡◌, ℕ, ◌-◌, ◌<◌, List, [], Option, Result, Ok, Err, true, false, Bool, refl, sym, ap, subst, ◌∙◌, arith}
use Rattle.std.specs.Prelude.{IfErr, IfOk, IfSome, OnOk}
use mathlib.Core.List.{IsPrefix}
use Rattle.books.specs.Rights.{SessionClaim}
use Rattle.front.specs.Seen.{PassSeen}
use Rattle.front.proofs.Keeping.{prefix_trans}
use Rattle.store_model.specs.declared.fault.Fault.{Fault}
use Rattle.store_model.specs.declared.fault.Fault.TheVariants as faults
use Rattle.wal_record.specs.Rules.{is_number}
use Rattle.wal_record.specs.declared.record.Record.{Record}
use Rattle.wal_record.specs.declared.entry.Entry.{Entry}
use Rattle.page_ops.specs.Causes.{Ends, EndsBy, FailsToBring, FailsToEnter, FailsToRead, FailsToReserve, MeetsNoEnd, OrFull}
use Rattle.page_ops.specs.Claims.{Claims, SessionAgrees, no_claims}
use Rattle.page_ops.specs.Desks.{Desk, Faults, KeepsFaults}
use Rattle.page_ops.specs.Hands.{Hand}
use Rattle.page_ops.specs.Names.{LedgerName}
use Rattle.page_ops.specs.Outcomes.{IsAnswer, IsFull}
use Rattle.page_ops.specs.Seeing.{Account, Enters, Upholds, is_upkeep, known}
use Rattle.page_ops.specs.declared.outcome.Entered.{Entered}
use Rattle.page_ops.specs.declared.outcome.Entered.TheVariants.{At, NoRoom, Late}
use Rattle.page_ops.proofs.Composing.{bring_then}
use Rattle.leaf_writes.specs.Changes.{change_group}
use Rattle.leaf_writes.specs.KeyWrites.{WritesKey, desk_on}
use Rattle.leaf_writes.specs.Owners.{KeepsOwner}
use Rattle.leaf_writes.specs.declared.change.Change.{Change}
use Rattle.leaf_writes.specs.declared.change.How.TheVariants as hows
use Rattle.rollback.specs.Owners.{MayRollBack}
use Rattle.rollback.specs.Rolls.{IfAt, IsUndoAt, Rolls, standing, undone_in}
use Rattle.rollback.specs.Undoes.{TakesBackLast}
use Rattle.rollback.proofs.Composing.{rolls_behind, rolls_looked, rolls_put, rolls_upheld, undone}
use Rattle.rollback.proofs.Failing.{done, done_then, enter_fails, fails_then, none_then, read_fault}
use Rattle.rollback.proofs.LastWrites.{no_room}
use Rattle.rollback.proofs.Owning.{may_behind}

-- ---- the desk

-- a write takes no page, and leaves faults as they were
pub desk_out : (b : Bool) (d d' : Desk) (r : Result Entered Fault) (n : ℕ) → d.out ≡ n → d' ≡ desk_on b d r → d'.out ≡ n
desk_out true d d' r n one is = ap (λ (x : Desk). x.out) is ∙ one
desk_out false d d' (Ok (At pos)) n one is = ap (λ (x : Desk). x.out) is ∙ one
desk_out false d d' (Ok NoRoom) n one is = ap (λ (x : Desk). x.out) is ∙ one
desk_out false d d' (Ok (Late pos)) n one is = ap (λ (x : Desk). x.out) is ∙ one
desk_out false d d' (Err f) n one is = ap (λ (x : Desk). x.out) is ∙ one

pub desk_faults : (b : Bool) (d d' : Desk) (r : Result Entered Fault) → d' ≡ desk_on b d r → d'.faults ≡ d.faults
desk_faults true d d' r is = ap (λ (x : Desk). x.faults) is
desk_faults false d d' (Ok (At pos)) is = ap (λ (x : Desk). x.faults) is
desk_faults false d d' (Ok NoRoom) is = ap (λ (x : Desk). x.faults) is
desk_faults false d d' (Ok (Late pos)) is = ap (λ (x : Desk). x.faults) is
desk_faults false d d' (Err f) is = ap (λ (x : Desk). x.faults) is

pub back_none : (d d' : Desk) → d.out ≡ 1 → d' ≡ record d { out = d.out - 1 } → d'.out ≡ 0
back_none d d' one is = ap (λ (x : Desk). x.out) is ∙ ap (λ (n : ℕ). n - 1) one

pub some_out : (n : ℕ) → n ≡ 1 → 0 < n
some_out n one = omega (arith, one)

-- ---- a frame that is reserved

reserve_fault : (opens : List Record → Type 0) (log_faults made : LedgerName) (own own' : Faults) (a a' : Account) (h : List Entry) (f : Fault) → FailsToReserve opens log_faults made own own' a a' h f → FailsToBring opens log_faults made own own' a a' h f
reserve_fault opens log_faults made own own' a a' h faults.Memory why = why
reserve_fault opens log_faults made own own' a a' h faults.LogFault why = why
reserve_fault opens log_faults made own own' a a' h (faults.Ended at) why = why
reserve_fault opens log_faults made own own' a a' h _ why = absurd why

pub reserve_fails : {T : Type 0} (opens : List Record → Type 0) (log_faults made : LedgerName) (own own' : Faults) (a a' : Account) (h : List Entry) (r : Result T Fault) → IfErr r (FailsToReserve opens log_faults made own own' a a' h) → IfErr r (FailsToBring opens log_faults made own own' a a' h)
reserve_fails opens log_faults made own own' a a' h (Ok x) why = tt
reserve_fails opens log_faults made own own' a a' h (Err f) why = reserve_fault opens log_faults made own own' a a' h f why

-- ---- the write

module _ (opens : List Record → Type 0) (ledger sessions log_faults made : LedgerName) (c : Change) (d0 d1 d2 d3 d4 : Desk) (a0 a1 a2 a3 a4 : Account) (s0 s1 s2 s3 s4 : PassSeen Entry)
    (reserved : Upholds opens ledger sessions is_upkeep (known a0 s0 no_claims) (known a1 s1 no_claims)) (kept : KeepsFaults d0.faults d1.faults) (found : Upholds opens ledger sessions is_upkeep (known a1 s1 no_claims) (known a2 s2 no_claims)) (kept' : KeepsFaults d1.faults d2.faults) where
  both : Rolls opens ledger sessions c.tx 0 (standing d0 a0 s0) (standing d2 a2 s2)
  both =
      rolls_behind opens ledger sessions c.tx 0 (standing d0 a0 s0) (standing d1 a1 s1) (standing d2 a2 s2) (rolls_upheld opens ledger sessions c.tx (standing d0 a0 s0) (standing d1 a1 s1) reserved kept)
      (rolls_upheld opens ledger sessions c.tx (standing d1 a1 s1) (standing d2 a2 s2) found kept')

  -- where the leaf isn't found
  pub rolls_found : Rolls opens ledger sessions c.tx 0 (standing d0 a0 s0) (standing d2 a2 s2)
  rolls_found = both

  pub begins_found : IsPrefix s0.log s2.log
  begins_found = (both.gains.gained, sym both.gains.is)

  module _ (x x' : Claims) (looked : Enters opens ledger sessions (known a2 s2 x) [] (known a3 s3 x')) where
    before : Rolls opens ledger sessions c.tx 0 (standing d0 a0 s0) (standing d2 a3 s3)
    before = rolls_behind opens ledger sessions c.tx 0 (standing d0 a0 s0) (standing d2 a2 s2) (standing d2 a3 s3) both (rolls_looked opens ledger sessions c.tx d2 a2 a3 s2 s3 x x' looked)

    pub begins_before : IsPrefix s0.log s3.log
    begins_before = (before.gains.gained, sym before.gains.is)

    module _ (owner : Option SessionClaim) (b : Bool) (y y' : Claims) (leaf leaf_now : Hand) (result : Result Entered Fault) (last : TakesBackLast opens s0.log c) (written : WritesKey opens ledger sessions c owner s4 leaf leaf_now result (known a3 s3 y) (known a4 s4 y'))
        (answer : IfOk result (IsAnswer opens s4.log (change_group c owner leaf.page))) (desk : d3 ≡ desk_on b d2 result) (back : d4 ≡ record d3 { out = d3.out - 1 }) where
      same : d3.faults ≡ d2.faults
      same = desk_faults b d2 d3 result desk

      same' : d4.faults ≡ d3.faults
      same' = ap (λ (z : Desk). z.faults) back

      is : c ≡ record { tx = c.tx; key = c.key; new = c.new; how = hows.Undo last.next }
      is = λ i. record { tx = c.tx; key = c.key; new = c.new; how = last.how i }

      now : Rolls opens ledger sessions c.tx (undone_in result) (standing d2 a3 s3) (standing d3 a4 s4) × IfAt result (IsUndoAt c.tx s4.log)
      now =
          undone opens ledger sessions last.next c.tx c.key c.new owner d2 d3 same a3 a4 s3 s4 y y' leaf leaf_now result (subst (λ (z : Change). IfOk result (IsAnswer opens s4.log (change_group z owner leaf.page))) is answer)
          (subst (λ (z : Change). WritesKey opens ledger sessions z owner s4 leaf leaf_now result (known a3 s3 y) (known a4 s4 y')) is written)

      pub undone_here : IfAt result (IsUndoAt c.tx s4.log)
      undone_here = now.1

      pub rolls_here : Rolls opens ledger sessions c.tx (undone_in result) (standing d0 a0 s0) (standing d4 a4 s4)
      rolls_here =
          rolls_put opens ledger sessions c.tx (undone_in result) (standing d0 a0 s0) d3 d4 a4 s4 same'
          (rolls_behind opens ledger sessions c.tx (undone_in result) (standing d0 a0 s0) (standing d2 a3 s3) (standing d3 a4 s4) before now.0)

      pub owner_here : (owner0 owner' : Option SessionClaim) → owner ≡ owner0 → is_number c.tx ≡ true → MayRollBack opens s0.log c.tx owner0 → KeepsOwner result owner owner' → OnOk result (IfSome owner' (SessionAgrees s4.log)) → IfErr result (IsFull opens s4.log (change_group c owner leaf.page))
          → MayRollBack opens s4.log c.tx owner'
      owner_here owner0 owner' same_owner number may keeps agrees full =
          let rolls = rolls_here in
          may_behind opens s0.log s4.log c.tx owner owner' (change_group c owner leaf.page) result (rolls.gains.gained, sym rolls.gains.is) rolls.gains.consistent number (subst (MayRollBack opens s0.log c.tx) (sym same_owner) may) keeps agrees (no_room c last.next last.how) full undone_here

      module _ (none : MeetsNoEnd a0 a1) (none' : MeetsNoEnd a1 a2) (none'' : MeetsNoEnd a2 a3) (ends : Ends opens log_faults made a3 a4 s4.log result) where
        none_before : MeetsNoEnd a0 a3
        none_before = none_then a0 a2 a3 (none_then a0 a1 a2 none none') none''

        pub open_here : OnOk result (MeetsNoEnd a0 a4)
        open_here = done_then opens log_faults made a0 a3 a4 s4.log none_before before.gains.keeps result (done opens log_faults made a3 a4 s4.log result ends)

        pub refused_here : IfErr result (IsFull opens s4.log (change_group c owner leaf.page)) → IfErr result (FailsToEnter OrFull) → IfErr result (FailsToBring opens log_faults made d0.faults d4.faults a0 a4 s4.log)
        refused_here full may =
            fails_then opens log_faults made a0 a3 a4 s4.log none_before before.gains.keeps d0.faults d2.faults d4.faults result before.faults
            (enter_fails opens log_faults made a3 a4 s4.log d2.faults d4.faults (change_group c owner leaf.page) result (same' ∙ same) (no_room c last.next last.how) full may ends)

-- ---- the loop

module _ (opens : List Record → Type 0) (ledger sessions log_faults made : LedgerName) (tx : ℕ) (d0 d : Desk) (a0 a a1 : Account) (s0 s s1 : PassSeen Entry) (rolls : Rolls opens ledger sessions tx 0 (standing d0 a0 s0) (standing d a s)) (none : MeetsNoEnd a0 a) where
  -- behind a look
  module _ (x x' : Claims) (looked : Enters opens ledger sessions (known a s x) [] (known a1 s1 x')) where
    one : Rolls opens ledger sessions tx 0 (standing d a s) (standing d a1 s1)
    one = rolls_looked opens ledger sessions tx d a a1 s s1 x x' looked

    pub looked_then : Rolls opens ledger sessions tx 0 (standing d0 a0 s0) (standing d a1 s1)
    looked_then = rolls_behind opens ledger sessions tx 0 (standing d0 a0 s0) (standing d a s) (standing d a1 s1) rolls one

    pub begins_look : IsPrefix s.log s1.log
    begins_look = (one.gains.gained, sym one.gains.is)

    -- and the undo of a write
    module _ (d2 : Desk) (a2 : Account) (s2 : PassSeen Entry) (n : ℕ) (then : Rolls opens ledger sessions tx n (standing d a1 s1) (standing d2 a2 s2)) where
      pub wrote_then : Rolls opens ledger sessions tx n (standing d0 a0 s0) (standing d2 a2 s2)
      wrote_then = rolls_behind opens ledger sessions tx n (standing d0 a0 s0) (standing d a1 s1) (standing d2 a2 s2) looked_then then

      pub begins_write : IsPrefix s.log s2.log
      begins_write = prefix_trans s.log s1.log s2.log begins_look (then.gains.gained, sym then.gains.is)

    pub none_look : MeetsNoEnd a a1 → MeetsNoEnd a0 a1
    none_look calm = none_then a0 a a1 none calm

    pub fails_look : (f : Fault) → FailsToRead opens f → EndsBy opens log_faults made a a1 s1.log f → FailsToBring opens log_faults made d0.faults d.faults a0 a1 s1.log f
    fails_look f may ends = bring_then opens log_faults made a0 a a1 s1.log none rolls.gains.keeps d0.faults d.faults d.faults f rolls.faults (read_fault opens log_faults made a a1 s1.log d.faults f may ends)

    pub fails_write : (d2 : Desk) (a2 : Account) (s2 : PassSeen Entry) → MeetsNoEnd a a1 → (f : Fault) → FailsToBring opens log_faults made d.faults d2.faults a1 a2 s2.log f → FailsToBring opens log_faults made d0.faults d2.faults a0 a2 s2.log f
    fails_write d2 a2 s2 calm f why = bring_then opens log_faults made a0 a1 a2 s2.log (none_look calm) looked_then.gains.keeps d0.faults d.faults d2.faults f rolls.faults why

-- it came late
pub not_at : (e : Entered) → ((pos : ℕ) → e ≡ At pos → ⊥) → undone_in (Ok e) ≡ 0
not_at (At pos) not = absurd (not pos refl)
not_at NoRoom not = refl
not_at (Late pos) not = refl
