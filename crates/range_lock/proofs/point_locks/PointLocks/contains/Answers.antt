use Rattle.std.proofs.Common.{sym, subst, inl, inr, arith}
use Rattle.range_lock.specs.Lock.{IsAmong}
use Rattle.range_lock.specs.Point.{PointLock}
use Rattle.range_lock.proofs.Members.{among_left, among_right, among_either}
use Rattle.range_lock.proofs.Sets.{not_longer, not_shorter, longer_keys}
use Rattle.range_lock.proofs.point_locks.PointLocks.contains.Goals as goal

pub returns-then-text-le-SHORT_BYTES : goal.returns-then-text-le-SHORT_BYTES
returns-then-text-le-SHORT_BYTES c =
    let k : PointLock = record { key = c.args.text.now; tx = c.args.tx } in
    let short = c.self.inside.short.keys in
    let long = c.self.inside.long.keys in (
      λ e. subst (IsAmong k) c.self.view_is (among_left k short long (c.has_point.ensures.0 e)),
      λ h. elim (among_either k short long (subst (IsAmong k) (sym c.self.view_is) h)) [ inl m ↦ c.has_point.ensures.1 m | inr m ↦ absurd (not_longer k long c.self.invariant.1 c.if-text-le-SHORT_BYTES.true m) ],
    )

pub has_point-requires-else-text-le-SHORT_BYTES : goal.has_point-requires-else-text-le-SHORT_BYTES
has_point-requires-else-text-le-SHORT_BYTES c = (omega arith, (longer_keys c.self.inside.long.keys c.self.invariant.1, omega arith))

pub returns-else-text-le-SHORT_BYTES : goal.returns-else-text-le-SHORT_BYTES
returns-else-text-le-SHORT_BYTES c =
    let k : PointLock = record { key = c.args.text.now; tx = c.args.tx } in
    let short = c.self.inside.short.keys in
    let long = c.self.inside.long.keys in (
      λ e. subst (IsAmong k) c.self.view_is (among_right k short long (c.has_point-else-text-le-SHORT_BYTES.ensures.0 e)),
      λ h. elim (among_either k short long (subst (IsAmong k) (sym c.self.view_is) h)) [ inl m ↦ absurd (not_shorter k short c.self.invariant.0 c.if-text-le-SHORT_BYTES.false m) | inr m ↦ c.has_point-else-text-le-SHORT_BYTES.ensures.1 m ],
    )
