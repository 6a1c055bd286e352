-- The lock joins the set of its length, and it isn't in the other one.
use Rattle.std.proofs.Common.{List, ◌++◌, sym, subst, inl, inr}
use Rattle.std.proofs.lemmas.Result.{IfOk-weaker, on_ok_weaker}
use Rattle.range_lock.specs.Lock.{IsAmong}
use Rattle.range_lock.specs.Point.{PointLock}
use Rattle.range_lock.specs.Among.{Adds}
use Rattle.range_lock.proofs.Members.{among_left, among_right, among_either}
use Rattle.range_lock.proofs.Changes.{adds_left, adds_right}
use Rattle.range_lock.proofs.Sets.{lock_of, put_fitting, not_longer, not_shorter}
use Rattle.range_lock.proofs.point_locks.PointLocks.insert.Goals as goal

pub invariant_of-self : goal.invariant_of-self
invariant_of-self c = (
  put_fitting c.insert_point.result 1 24 c.self.inside.short.keys c.insert_point.new.points.keys (lock_of c.args.key.now c.args.tx)
      (record { least_fits = c.requires.least_fits; fits = c.if-key-le-SHORT_BYTES.true }) c.insert_point.ensures.ok c.insert_point.ensures.err c.self.invariant.0,
  c.self.invariant.1,
)

pub invariant_of-self-else-key-le-SHORT_BYTES : goal.invariant_of-self-else-key-le-SHORT_BYTES
invariant_of-self-else-key-le-SHORT_BYTES c = (
  c.self.invariant.0,
  put_fitting c.insert_point-else-key-le-SHORT_BYTES.result 25 64 c.self.inside.long.keys c.insert_point-else-key-le-SHORT_BYTES.new.points.keys (lock_of c.args.key.now c.args.tx)
      (record { least_fits = c.if-key-le-SHORT_BYTES.false; fits = c.requires.fits }) c.insert_point-else-key-le-SHORT_BYTES.ensures.ok c.insert_point-else-key-le-SHORT_BYTES.ensures.err c.self.invariant.1,
)

pub returns-then-key-le-SHORT_BYTES-clause-ok : goal.returns-then-key-le-SHORT_BYTES-clause-ok
returns-then-key-le-SHORT_BYTES-clause-ok c =
    let short = c.self.inside.short.keys in
    let long = c.self.inside.long.keys in
    let new = c.insert_point.new.points.keys in
    let k = lock_of c.args.key.now c.args.tx in
    on_ok_weaker c.insert_point.result (λ h. subst (λ (old : List PointLock). Adds old (new ++ long) k) c.self.view_is (adds_left short new long k h)) c.insert_point.ensures.ok

pub returns-then-key-le-SHORT_BYTES-clause-told : goal.returns-then-key-le-SHORT_BYTES-clause-told
returns-then-key-le-SHORT_BYTES-clause-told c =
    let short = c.self.inside.short.keys in
    let long = c.self.inside.long.keys in
    let k = lock_of c.args.key.now c.args.tx in
    IfOk-weaker c.insert_point.result _ _ (λ added there. (
      λ e. subst (IsAmong k) c.self.view_is (among_left k short long (there.0 e)),
      λ h. elim (among_either k short long (subst (IsAmong k) (sym c.self.view_is) h)) [ inl m ↦ there.1 m | inr m ↦ absurd (not_longer k long c.self.invariant.1 c.if-key-le-SHORT_BYTES.true m) ],
    )) c.insert_point.ensures.told

pub returns-else-key-le-SHORT_BYTES-clause-ok : goal.returns-else-key-le-SHORT_BYTES-clause-ok
returns-else-key-le-SHORT_BYTES-clause-ok c =
    let short = c.self.inside.short.keys in
    let long = c.self.inside.long.keys in
    let new = c.insert_point-else-key-le-SHORT_BYTES.new.points.keys in
    let k = lock_of c.args.key.now c.args.tx in
    on_ok_weaker c.insert_point-else-key-le-SHORT_BYTES.result (λ h. subst (λ (old : List PointLock). Adds old (short ++ new) k) c.self.view_is (adds_right long new short k h)) c.insert_point-else-key-le-SHORT_BYTES.ensures.ok

pub returns-else-key-le-SHORT_BYTES-clause-told : goal.returns-else-key-le-SHORT_BYTES-clause-told
returns-else-key-le-SHORT_BYTES-clause-told c =
    let short = c.self.inside.short.keys in
    let long = c.self.inside.long.keys in
    let k = lock_of c.args.key.now c.args.tx in
    IfOk-weaker c.insert_point-else-key-le-SHORT_BYTES.result _ _ (λ added there. (
      λ e. subst (IsAmong k) c.self.view_is (among_right k short long (there.0 e)),
      λ h. elim (among_either k short long (subst (IsAmong k) (sym c.self.view_is) h)) [ inl m ↦ absurd (not_shorter k short c.self.invariant.0 c.if-key-le-SHORT_BYTES.false m) | inr m ↦ there.1 m ],
    )) c.insert_point-else-key-le-SHORT_BYTES.ensures.told
