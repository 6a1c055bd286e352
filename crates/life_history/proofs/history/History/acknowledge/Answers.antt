use Rattle.std.proofs.Common.{refl, sym, ap, ◌∙◌, arith, ◌+◌, length, subst, ◌≡◌}
use Rattle.wal_record.specs.History.{Committed, phase, live_count}
use Rattle.page_ops.specs.Claims.{SessionAgrees}
use Rattle.page_ops.specs.Seeing.{of_sessions}
use Rattle.life_history.proofs.Commits.{entry_fits, acknowledged_consistent, acknowledged_kept, acknowledged_agrees, acknowledged_counted, acknowledged_live}
use Rattle.life_history.proofs.Small.{small_same}
use Rattle.life_history.proofs.Tallying.{tallied_other}
use Rattle.life_history.proofs.history.History.acknowledge.Goals as goal

pub enter-requires-clause-room : goal.enter-requires-clause-room
enter-requires-clause-room g c = let k = c.self.invariant.1 in entry_fits _ _ _ _ (subst (λ h. SessionAgrees h c.args.s.now) (sym c.self.view_is) c.requires.agrees) k.entries k.room

pub invariant_of-self : goal.invariant_of-self
invariant_of-self g c =
    let enter = c.enter.ensures in (
      enter.spare,
      acknowledged_kept _ _ _ _ _ _ _ _ _ _ _ _ c.self.invariant.1 _ enter.before c.requires.active _ _ refl refl _ enter.front
          (subst (λ h. phase h c.args.s.now.tx ≡ Committed) (sym c.self.view_is) c.requires.committed)
          (let k = c.self.invariant.1 in let n = k.entries in let live = k.begun.counted in omega (arith, n, live, ap (λ l. length l) c.self.view_is, ap live_count c.self.view_is, c.requires.room))
          _ _ _ _ _ enter.book enter.others enter.total enter.sessions_total,
      small_same _ _ _ _ _ _ _ enter.others.0 enter.others.1 c.self.invariant.2,
      tallied_other _ _ _ _ _ c.self.invariant.3 enter.front refl refl,
    )

pub returns-clause-consistent : goal.returns-clause-consistent
returns-clause-consistent g c =
    acknowledged_consistent _ _ _ _ _ _ _ _ _ _ _ _ c.self.invariant.1 _ c.enter.ensures.before c.requires.active _ _ refl refl _ c.enter.ensures.front
    (subst (λ h. phase h c.args.s.now.tx ≡ Committed) (sym c.self.view_is) c.requires.committed)

pub returns-clause-agrees : goal.returns-clause-agrees
returns-clause-agrees g c = acknowledged_agrees _ _ _ _ _ _ _ _ _ _ _ _ c.self.invariant.1 _ c.enter.ensures.before c.requires.active _ _ refl refl _ c.enter.ensures.front _ c.enter.ensures.right

pub returns-clause-counted : goal.returns-clause-counted
returns-clause-counted g c =
    acknowledged_counted _ _ _ _ _ _ _ _ _ _ _ _ c.self.invariant.1 _ c.enter.ensures.before c.requires.active _ _ refl refl _ c.enter.ensures.front ∙ ap (λ h. of_sessions h + 1) c.self.view_is

pub returns-clause-live : goal.returns-clause-live
returns-clause-live g c =
    acknowledged_live _ _ _ _ _ _ _ _ _ _ _ _ c.self.invariant.1 _ c.enter.ensures.before c.requires.active _ _ refl refl _ c.enter.ensures.front
    (subst (λ h. phase h c.args.s.now.tx ≡ Committed) (sym c.self.view_is) c.requires.committed)
    (let k = c.self.invariant.1 in let n = k.entries in let live = k.begun.counted in omega (arith, n, live, ap (λ l. length l) c.self.view_is, ap live_count c.self.view_is, c.requires.room))
    ∙ ap live_count c.self.view_is
