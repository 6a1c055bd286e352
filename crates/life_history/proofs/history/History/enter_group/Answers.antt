use Rattle.std.proofs.Common.{refl, ◌≤◌, sym, ap, ◌∙◌, arith, length, ◌++◌, ◌+◌, subst, List, ◌≡◌}
use Rattle.std.specs.Prelude.{IfSome, IsSome}
use Rattle.wal_record.specs.declared.record.Record.{Record}
use Rattle.wal_record.specs.Chains.{link_of}
use Rattle.wal_record.specs.History.{life_log, live_count}
use Rattle.page_ops.specs.Claims.{Agree, PageAgrees}
use Rattle.page_ops.specs.Groups.{Each, group_entries}
use Rattle.page_ops.specs.Seeing.{IsConsistent, of_sessions}
use Rattle.life_history.specs.Groups.{IsOwn, own_entries}
use Rattle.life_history.proofs.Grouped.{group_kept, small_group, continues, group_live, session_room}
use Rattle.life_history.proofs.Tallying.{tallied_group}
use Rattle.life_history.proofs.history.History.enter_group.Goals as goal

pub enter_group-requires-clause-room : goal.enter_group-requires-clause-room
enter_group-requires-clause-room g c = session_room c.args.self.now c.args.rights.now.s c.requires.agrees.s c.requires.low

pub invariant_of-self : goal.invariant_of-self
invariant_of-self g c =
    let enter = c.enter_group.ensures in
    let k = c.self.invariant.1 in (
      subst (λ o. IsSome o) (sym enter.spare) c.self.invariant.0,
      group_kept _ _ _ _ _ _ k c.args.lsn c.args.recs.now c.args.said.now c.args.rights.now _ c.requires.still (subst (λ h. Each (λ r. IsOwn h c.args.rights.now.s (link_of r)) c.args.recs.now) (sym c.self.view_is) c.requires.own) c.requires.speaker enter.session c.args.new _ _ _ _ _ _ enter.front enter.number enter.total enter.sessions_total
          c.requires.few (omega (arith, k.entries, ap (λ l. length l) c.self.view_is, c.requires.low))
          (subst (λ h. (opening : List Record) → g.N.Life.opens opening → c.args.lsn ≡ length (life_log opening h) + 1) (sym c.self.view_is) c.requires.lsn)
          (subst (λ h. Agree g.N.Life.opens h c.args.rights.now) (sym c.self.view_is) c.requires.agrees)
          (subst (λ h. IfSome c.args.new (PageAgrees g.N.Life.opens h)) (sym c.self.view_is) c.requires.fresh)
          c.requires.covered c.requires.maintained enter.pages enter.maintenance c.self.invariant.2.maint
          (subst (λ h. IsConsistent g.N.Life.opens (h ++ group_entries c.args.lsn c.args.recs.now c.args.said.now)) (sym c.self.view_is) c.requires.consistent),
      small_group _ _ _ _ _ _ _ _ _ _ _ enter.pages enter.maintenance c.self.invariant.2,
      tallied_group _ _ _ _ (c.self.inside.undone + c.undone_of.result) _ _ _ _ c.self.invariant.3 enter.front c.undone_of.ensures.value refl,
    )

pub returns-clause-counted : goal.returns-clause-counted
returns-clause-counted g c =
    let enter = c.enter_group.ensures in
    ap of_sessions enter.front ∙ (continues _ _ _ _ _ _ c.self.invariant.1 c.args.lsn c.args.recs.now c.args.said.now c.args.rights.now _ c.requires.still (subst (λ h. Each (λ r. IsOwn h c.args.rights.now.s (link_of r)) c.args.recs.now) (sym c.self.view_is) c.requires.own) c.requires.speaker enter.session).counted
    ∙ ap (λ h. of_sessions h + own_entries c.args.rights.now.s c.args.recs.now c.args.said.now) c.self.view_is

pub returns-clause-live : goal.returns-clause-live
returns-clause-live g c =
    let enter = c.enter_group.ensures in
    let live = group_live _ _ _ _ _ _ c.self.invariant.1 c.args.lsn c.args.recs.now c.args.said.now c.args.rights.now _ c.requires.still (subst (λ h. Each (λ r. IsOwn h c.args.rights.now.s (link_of r)) c.args.recs.now) (sym c.self.view_is) c.requires.own) c.requires.speaker enter.session in
    (ap live_count enter.front ∙ live.0 ∙ ap live_count c.self.view_is, subst (λ h. live_count h ≤ 64) c.self.view_is live.1)
