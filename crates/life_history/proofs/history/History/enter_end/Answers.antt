use Rattle.std.proofs.Common.{refl, sym, ap, ◌∙◌, ◌+◌, subst, ◌≡◌, ◌++◌, [], ◌∷◌}
use Rattle.wal_record.specs.History.{Live, phase, live_count}
use Rattle.page_ops.specs.Seeing.{IsConsistent, of_sessions}
use Rattle.page_ops.specs.Claims.{SessionAgrees}
use Rattle.life_history.specs.Kept.{end_entry}
use Rattle.life_history.proofs.Commits.{entry_fits, ended_kept, ended_live, ended_counted}
use Rattle.life_history.proofs.Moving.{is_counted}
use Rattle.life_history.proofs.Small.{small_same}
use Rattle.life_history.proofs.Tallying.{tallied_other}
use Rattle.life_history.proofs.history.History.enter_end.Goals as goal

pub enter_record-requires-clause-room : goal.enter_record-requires-clause-room
enter_record-requires-clause-room g c = let k = c.self.invariant.1 in entry_fits _ _ _ _ (subst (λ h. SessionAgrees h c.args.s.now) (sym c.self.view_is) c.requires.agrees) k.entries k.room

pub overflow_sub-self : goal.overflow_sub-self
overflow_sub-self g c = is_counted _ _ _ _ _ _ c.self.invariant.1 _ c.enter_record.ensures.before c.requires.active (subst (λ h. phase h c.args.s.now.tx ≡ Live) (sym c.self.view_is) c.requires.live)

pub invariant_of-self : goal.invariant_of-self
invariant_of-self g c =
    let enter = c.enter_record.ensures in (
      enter.spare,
      ended_kept _ _ _ _ _ _ _ _ _ _ _ _ c.self.invariant.1 _ enter.before c.requires.active _ _ _ enter.front
          (subst (λ h. phase h c.args.s.now.tx ≡ Live) (sym c.self.view_is) c.requires.live)
          (subst (λ h. IsConsistent _ (h ++ end_entry c.args.lsn c.args.s.now.tx c.args.prev ∷ [])) (sym c.self.view_is) c.requires.consistent)
          _ refl _ _ _ _ _ enter.book enter.others enter.total enter.sessions_total,
      small_same _ _ _ _ _ _ _ enter.others.0 enter.others.1 c.self.invariant.2,
      tallied_other _ _ _ _ _ c.self.invariant.3 enter.front refl refl,
    )

pub returns-clause-live : goal.returns-clause-live
returns-clause-live g c =
    ended_live _ _ _ _ _ _ _ _ _ _ _ _ c.self.invariant.1 _ c.enter_record.ensures.before c.requires.active _ _ _ c.enter_record.ensures.front
    (subst (λ h. phase h c.args.s.now.tx ≡ Live) (sym c.self.view_is) c.requires.live)
    (subst (λ h. IsConsistent _ (h ++ end_entry c.args.lsn c.args.s.now.tx c.args.prev ∷ [])) (sym c.self.view_is) c.requires.consistent)
    _ refl ∙ ap live_count c.self.view_is

pub returns-clause-counted : goal.returns-clause-counted
returns-clause-counted g c =
    ended_counted _ _ _ _ _ _ _ _ _ _ _ _ c.self.invariant.1 _ c.enter_record.ensures.before c.requires.active _ _ _ c.enter_record.ensures.front ∙ ap (λ h. of_sessions h + 1) c.self.view_is
