use Rattle.std.proofs.Common.{◌≤◌, refl, sym, ap, ◌∙◌, arith, length, subst, ◌+◌, ◌++◌}
use Rattle.wal_record.specs.History.{live_count}
use Rattle.page_ops.specs.Seeing.{IsConsistent, of_sessions}
use Rattle.life_history.proofs.Entries.{session_fits, own_kept, own_agrees, own_counted, own_live, one_long}
use Rattle.life_history.proofs.Small.{small_same}
use Rattle.life_history.proofs.Tallying.{tallied_calm}
use Rattle.life_history.proofs.history.History.enter_one.Goals as goal

pub enter-requires-clause-room : goal.enter-requires-clause-room
enter-requires-clause-room g c = let low = session_fits _ (length c.args.self.now) _ c.requires.agrees refl c.requires.few in omega (arith, low)

pub enter-requires-clause-one : goal.enter-requires-clause-one
enter-requires-clause-one g c = one_long _ _ g.A.Added.entries c.requires.own

pub invariant_of-self : goal.invariant_of-self
invariant_of-self g c =
    let enter = c.enter.ensures in (
      enter.spare,
      own_kept _ _ _ _ _ _ _ _ _ _ _ _ c.self.invariant.1 _ enter.before c.requires.active _ c.requires.own _ _ _ _ _ _ _ enter.book c.tx-tx.ensures enter.others (c.meet.ensures.list ∙ enter.front) enter.total enter.sessions_total
          (omega (arith, c.self.invariant.1.entries, ap (λ l. length l) c.self.view_is, c.requires.few))
          (subst (λ h. IsConsistent _ (h ++ g.A.Added.entries)) (sym c.self.view_is) c.requires.consistent),
      small_same _ _ _ _ _ _ _ enter.others.0 enter.others.1 c.self.invariant.2,
      tallied_calm _ _ _ _ _ _ _ c.requires.own c.self.invariant.3 (c.meet.ensures.list ∙ enter.front),
    )

pub returns-clause-agrees : goal.returns-clause-agrees
returns-clause-agrees g c =
    let enter = c.enter.ensures in
    own_agrees _ _ _ _ _ _ _ _ _ _ _ _ c.self.invariant.1 _ enter.before c.requires.active _ c.requires.own _ _ _ (c.meet.ensures.list ∙ enter.front) c.tx-tx.ensures enter.right

pub returns-clause-counted : goal.returns-clause-counted
returns-clause-counted g c =
    let enter = c.enter.ensures in
    own_counted _ _ _ _ _ _ _ _ _ _ _ _ c.self.invariant.1 _ enter.before c.requires.active _ c.requires.own _ (c.meet.ensures.list ∙ enter.front) ∙ ap (λ h. of_sessions h + 1) c.self.view_is

pub returns-clause-live : goal.returns-clause-live
returns-clause-live g c =
    let enter = c.enter.ensures in
    let live = own_live _ _ _ _ _ _ _ _ _ _ _ _ c.self.invariant.1 _ enter.before c.requires.active _ c.requires.own _ (c.meet.ensures.list ∙ enter.front) in
    (live.0 ∙ ap live_count c.self.view_is, subst (λ h. live_count h ≤ 64) c.self.view_is live.1)
