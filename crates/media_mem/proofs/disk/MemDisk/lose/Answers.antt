use Rattle.std.proofs.Common.{List, ℕ, length, sym, ◌∙◌, ap, subst, arith}
use Rattle.media_mem.specs.History.{AreWithin, IsKept, Wrote, grown, replay}
use Rattle.media_mem.specs.Past.{PastSeen}
use Rattle.media_mem.specs.Reach.{MemSeen, leaves}
use Rattle.media_mem.proofs.Keeping.{grown_now, kept_settled, length-torn, torn_reached, within_now}
use Rattle.media_mem.proofs.disk.MemDisk.lose.Goals as goal

pub replay_on-requires-clause-within : goal.replay_on-requires-clause-within
replay_on-requires-clause-within c =
    subst (AreWithin c.self.inside.content.start (length c.self.inside.content.bytes.items)) (sym c.deref.ensures.value) (within_now _ _ _ _ _ c.self.invariant c.tear.ensures)

pub replay_on-requires-clause-room : goal.replay_on-requires-clause-room
replay_on-requires-clause-room c =
    omega (
      arith,
      ap (λ (l : List Wrote). grown c.self.inside.content.start (length c.self.inside.content.bytes.items) l) c.deref.ensures.value,
      grown_now _ _ _ _ _ c.self.invariant c.tear.ensures,
      c.self.inside.content.bytes.ok,
    )

pub invariant_of-self : goal.invariant_of-self
invariant_of-self c =
    let start = c.self.inside.content.start in
    let now = c.self.inside.content.bytes.items in
    let made = c.replay_on.ensures ∙ ap (λ (l : List Wrote). replay l (record { start = start; bytes = now })) c.deref.ensures.value in
    let size = length-torn _ _ _ _ _ c.self.invariant c.tear.ensures _ made in
    subst (λ (b : List ℕ). IsKept start b c.replay_on.new.bytes.items c.clear.new.self.items) (sym (ap (λ (p : PastSeen). p.base) c.then-self-inside.ensures))
    (kept_settled start c.replay_on.new.bytes.items c.clear.new.self.items c.clear.ensures.items (omega (arith, size, c.self.invariant.size)))

pub returns-then-not-is_empty-clause-reached : goal.returns-then-not-is_empty-clause-reached
returns-then-not-is_empty-clause-reached c =
    let start = c.self.inside.content.start in
    let now = c.self.inside.content.bytes.items in
    let made = c.replay_on.ensures ∙ ap (λ (l : List Wrote). replay l (record { start = start; bytes = now })) c.deref.ensures.value in
    subst (λ (m : MemSeen). leaves m (record { start = start; bytes = c.replay_on.new.bytes.items })) c.self.view_is (torn_reached _ _ _ _ _ c.self.invariant c.tear.ensures _ made)
