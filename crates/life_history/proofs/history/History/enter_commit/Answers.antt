use Rattle.std.proofs.Common.{refl, sym, ap, ◌∙◌, arith, length, length-append, ◌+◌, subst, ◌≡◌, ◌++◌, [], ◌∷◌}
use Rattle.wal_record.specs.History.{Live, phase, live_count}
use Rattle.page_ops.specs.Seeing.{IsConsistent, of_sessions}
use Rattle.page_ops.specs.Claims.{SessionAgrees}
use Rattle.life_history.specs.Kept.{commit_entry}
use Rattle.life_history.proofs.Commits.{entry_fits, committed_kept, committed_live, committed_agrees, committed_counted}
use Rattle.life_history.proofs.Moving.{is_counted}
use Rattle.life_history.proofs.Small.{small_same}
use Rattle.life_history.proofs.Tallying.{tallied_other}
use Rattle.life_history.proofs.history.History.enter_commit.Goals as goal

pub enter_record-requires-clause-room : goal.enter_record-requires-clause-room
enter_record-requires-clause-room g c = let k = c.self.invariant.1 in entry_fits _ _ _ _ (subst (λ h. SessionAgrees h c.args.s.now) (sym c.self.view_is) c.requires.agrees) k.entries k.room

pub overflow_sub-self : goal.overflow_sub-self
overflow_sub-self g c =
    is_counted _ _ _ _ _ _ c.self.invariant.1 _ c.enter_record.ensures.before c.requires.active (subst (λ h. phase h c.args.s.now.tx ≡ Live) (sym c.self.view_is) c.requires.live)

pub invariant_of-self : goal.invariant_of-self
invariant_of-self g c =
    let enter = c.enter_record.ensures in (
      enter.spare,
      committed_kept _ _ _ _ _ _ _ _ _ _ _ _ c.self.invariant.1 _ enter.before c.requires.active _ _ _ c.tx-tx.ensures _ (enter.front ∙ ap (λ t. c.self.inside.stand.front ++ commit_entry c.args.lsn t c.args.prev ∷ []) (sym c.tx-tx.ensures))
          (subst (λ h. phase h c.args.s.now.tx ≡ Live) (sym c.self.view_is) c.requires.live)
          (subst (λ h. IsConsistent _ (h ++ commit_entry c.args.lsn c.args.s.now.tx c.args.prev ∷ [])) (sym c.self.view_is) c.requires.consistent)
          _ refl _ _ _ _ _ enter.book enter.others enter.total enter.sessions_total,
      small_same _ _ _ _ _ _ _ enter.others.0 enter.others.1 c.self.invariant.2,
      tallied_other _ _ _ _ _ c.self.invariant.3 enter.front refl refl,
    )

pub returns-clause-live : goal.returns-clause-live
returns-clause-live g c =
    committed_live _ _ _ _ _ _ _ _ _ _ _ _ c.self.invariant.1 _ c.enter_record.ensures.before c.requires.active _ _ _ c.tx-tx.ensures _ (c.enter_record.ensures.front ∙ ap (λ t. c.self.inside.stand.front ++ commit_entry c.args.lsn t c.args.prev ∷ []) (sym c.tx-tx.ensures))
    (subst (λ h. phase h c.args.s.now.tx ≡ Live) (sym c.self.view_is) c.requires.live)
    (subst (λ h. IsConsistent _ (h ++ commit_entry c.args.lsn c.args.s.now.tx c.args.prev ∷ [])) (sym c.self.view_is) c.requires.consistent)
    _ refl ∙ ap live_count c.self.view_is

pub returns-clause-room : goal.returns-clause-room
returns-clause-room g c =
    let k = c.self.invariant.1 in
    let live =
    committed_live _ _ _ _ _ _ _ _ _ _ _ _ k _ c.enter_record.ensures.before c.requires.active _ _ _ c.tx-tx.ensures _ (c.enter_record.ensures.front ∙ ap (λ t. c.self.inside.stand.front ++ commit_entry c.args.lsn t c.args.prev ∷ []) (sym c.tx-tx.ensures))
    (subst (λ h. phase h c.args.s.now.tx ≡ Live) (sym c.self.view_is) c.requires.live)
    (subst (λ h. IsConsistent _ (h ++ commit_entry c.args.lsn c.args.s.now.tx c.args.prev ∷ [])) (sym c.self.view_is) c.requires.consistent)
    _ refl in
    let counted = k.begun.counted in
    let room = k.room in
    let same = k.entries in
    let longer = ap (λ l. length l) c.enter_record.ensures.front in
    omega (arith, live, counted, room, same, longer, length-append c.self.inside.stand.front (commit_entry c.args.lsn c.args.s.now.tx c.args.prev ∷ []))

pub returns-clause-agrees : goal.returns-clause-agrees
returns-clause-agrees g c = committed_agrees _ _ _ _ _ _ _ _ _ _ _ _ c.self.invariant.1 _ c.enter_record.ensures.before c.requires.active _ _ _ c.tx-tx.ensures _ (c.enter_record.ensures.front ∙ ap (λ t. c.self.inside.stand.front ++ commit_entry c.args.lsn t c.args.prev ∷ []) (sym c.tx-tx.ensures)) _ c.enter_record.ensures.right

pub returns-clause-counted : goal.returns-clause-counted
returns-clause-counted g c =
    committed_counted _ _ _ _ _ _ _ _ _ _ _ _ c.self.invariant.1 _ c.enter_record.ensures.before c.requires.active _ _ _ c.tx-tx.ensures _ (c.enter_record.ensures.front ∙ ap (λ t. c.self.inside.stand.front ++ commit_entry c.args.lsn t c.args.prev ∷ []) (sym c.tx-tx.ensures)) ∙ ap (λ h. of_sessions h + 1) c.self.view_is
