use Rattle.std.proofs.Common.{◌≤◌, ◌++◌, ◌∷◌, [], length, arith, ap, ◌∙◌, sym, subst, refl}
use Rattle.std.specs.Prelude.{IsSome}
use Rattle.page_ops.specs.Seeing.{IsConsistent, is_begun, of_sessions}
use Rattle.wal_record.specs.History.{live_count}
use Rattle.life_history.specs.Kept.{end_entry}
use Rattle.life_history.proofs.Losers.{loser_counted, loser_ended, loser_live}
use Rattle.life_history.proofs.Small.{small_same}
use Rattle.life_history.proofs.Tallying.{tallied_other}
use Rattle.life_history.proofs.history.History.enter_loser_end.Goals as goal

pub invariant_of-self : goal.invariant_of-self
invariant_of-self g c =
    let enter = c.enter_loser_end.ensures in (
      subst (λ o. IsSome o) (sym enter.spare) c.self.invariant.0,
      loser_ended _ _ _ _ _ _ c.self.invariant.1 c.args.lsn c.args.tx c.args.prev (ap (λ h. is_begun h c.args.tx) c.self.view_is ∙ c.requires.loser) _ enter.front
          (omega (arith, c.self.invariant.1.entries, ap (λ h. length h) c.self.view_is, c.requires.few))
          (subst (λ h. IsConsistent g.N.Life.opens (h ++ end_entry c.args.lsn c.args.tx c.args.prev ∷ [])) (sym c.self.view_is) c.requires.consistent)
          _ _ _ (λ i. record { pages = (enter.books i).pages; sessions = (enter.books i).sessions; maint = (enter.books i).maint }) enter.total enter.sessions_total,
      small_same _ _ _ _ _ _ _ (ap (λ b. b.pages) enter.books) (ap (λ b. b.maint) enter.books) c.self.invariant.2,
      tallied_other _ _ _ _ _ c.self.invariant.3 enter.front refl refl,
    )

pub returns-clause-live : goal.returns-clause-live
returns-clause-live g c =
    let live =
    loser_live _ _ _ _ _ _ c.self.invariant.1 c.args.lsn c.args.tx c.args.prev (ap (λ h. is_begun h c.args.tx) c.self.view_is ∙ c.requires.loser) _ c.enter_loser_end.ensures.front
    (omega (arith, c.self.invariant.1.entries, ap (λ h. length h) c.self.view_is, c.requires.few))
    (subst (λ h. IsConsistent g.N.Life.opens (h ++ end_entry c.args.lsn c.args.tx c.args.prev ∷ [])) (sym c.self.view_is) c.requires.consistent)
    in
    (live.0 ∙ ap live_count c.self.view_is, subst (λ h. live_count h ≤ 64) c.self.view_is live.1)

pub returns-clause-counted : goal.returns-clause-counted
returns-clause-counted g c =
    loser_counted _ _ _ _ _ _ c.self.invariant.1 c.args.lsn c.args.tx c.args.prev (ap (λ h. is_begun h c.args.tx) c.self.view_is ∙ c.requires.loser) _ c.enter_loser_end.ensures.front
    (omega (arith, c.self.invariant.1.entries, ap (λ h. length h) c.self.view_is, c.requires.few))
    (subst (λ h. IsConsistent g.N.Life.opens (h ++ end_entry c.args.lsn c.args.tx c.args.prev ∷ [])) (sym c.self.view_is) c.requires.consistent)
    ∙ ap of_sessions c.self.view_is
