use Rattle.std.proofs.Common.{ap, sym, subst, inl, inr}
use Rattle.store_model.proofs.Bools.{not_both}
use Rattle.range_lock.specs.Lock.{IsAmong}
use Rattle.range_lock.specs.Point.{PointLock}
use Rattle.range_lock.proofs.Changes.{undone}
use Rattle.range_lock.proofs.Sets.{lock_of}
use Rattle.range_lock.proofs.point.put_point.Goals as goal

pub returns-then-not-branch-clause-listed : goal.returns-then-not-branch-clause-listed
returns-then-not-branch-clause-listed c p h =
    elim ((c.in_ok-insert.ensures.ok p).0 h) [
      | inl e ↦ c.requires.listed p (subst (λ (q : PointLock). IsAmong q c.args.points.now) (sym e) (c.in_ok-insert.ensures.told.0 c.if-not-branch.true))
      | inr m ↦ c.requires.listed p m
    ]

pub returns-in-Ok-clause-listed : goal.returns-in-Ok-clause-listed
returns-in-Ok-clause-listed c p h =
    elim ((c.in_ok-insert.ensures.ok p).0 h) [
      | inl e ↦ c.in-Ok.ensures.added p (ap (λ (q : PointLock). q.tx) e) (ap (λ (q : PointLock). q.key) e)
      | inr m ↦ c.list_key.ensures.stays p (c.requires.listed p m)
    ]

pub returns-in-Err-clause-err : goal.returns-in-Err-clause-err
returns-in-Err-clause-err c =
    undone c.args.points.now c.insert.new.self c.remove.new.self (lock_of c.args.key.now c.args.tx)
    (λ m. not_both _ c.if-not-branch.false (c.in_ok-insert.ensures.told.1 m)) c.in_ok-insert.ensures.ok
    c.remove.ensures

pub returns-in-Err-clause-listed : goal.returns-in-Err-clause-listed
returns-in-Err-clause-listed c p h = c.list_key.ensures.stays p (c.requires.listed p ((returns-in-Err-clause-err c p).0 h))
