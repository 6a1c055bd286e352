use Rattle.std.proofs.Common.{List, ◌≤◌, sym, ap, ◌∙◌, arith, subst, refl, length}
use Rattle.std.specs.Prelude.{◌<◌, IsSome}
use Rattle.wal_record.specs.History.{life_log, live_count}
use Rattle.wal_record.specs.Upkeep.{written_lsn}
use Rattle.wal_record.specs.declared.entry.Entry.{Entry}
use Rattle.life_history.proofs.Repairing.{repair_entered, repair_live, repaired_kept}
use Rattle.life_history.proofs.Small.{small_same}
use Rattle.life_history.proofs.Tallying.{tallied_repair}
use Rattle.life_history.proofs.history.History.enter_repaired.Goals as goal

pub invariant_of-self : goal.invariant_of-self
invariant_of-self g c =
    let enter = c.enter_repaired.ensures in
    let here = c.self.view_is ∙ c.look.ensures.same in
    let now = c.meet.ensures.list ∙ enter.front in (
      subst (λ o. IsSome o) (sym enter.spare) c.self.invariant.0,
      repaired_kept _ _ _ _ _ _ _ _ _ _ _ _ c.args.page _ _ _ _ _ _ c.self.invariant.1 now (omega (arith, c.self.invariant.1.entries, ap (λ l. length l) here, c.requires.few))
          (λ opening stands. subst (λ (l : List Entry). 0 < written_lsn (life_log opening l) c.args.page) (sym here) (c.requires.image opening stands))
          (ap (λ b. b.pages) enter.books) (ap (λ b. b.sessions) enter.books) (ap (λ b. b.maint) enter.books) enter.total enter.sessions_total,
      small_same _ _ _ _ _ _ _ (ap (λ b. b.pages) enter.books) (ap (λ b. b.maint) enter.books) c.self.invariant.2,
      tallied_repair _ _ c.args.page _ _ _ c.self.invariant.3 now refl,
    )

pub returns-clause-entered : goal.returns-clause-entered
returns-clause-entered g c =
    let look = c.look.ensures in
    let enter = c.enter_repaired.ensures in
    let here = c.self.view_is ∙ look.same in
    repair_entered _ _ _ _ _ _ _ _ _ c.self.inside.stand.front _ c.args.page look.seen look.counts (look.pass ∙ sym here) (c.meet.ensures.list ∙ enter.front) (c.meet.ensures.seen ∙ sym c.meet.ensures.list) c.meet.ensures.durable enter.counts
    (λ opening stands. subst (λ (l : List Entry). 0 < written_lsn (life_log opening l) c.args.page) (sym here) (c.requires.image opening stands))

pub returns-clause-live : goal.returns-clause-live
returns-clause-live g c =
    let here = c.self.view_is ∙ c.look.ensures.same in
    let now = c.meet.ensures.list ∙ c.enter_repaired.ensures.front in
    let live = repair_live _ c.self.inside.stand.front _ _ _ _ _ c.self.invariant.1 c.args.page now (omega (arith, c.self.invariant.1.entries, ap (λ l. length l) here, c.requires.few)) (λ opening stands. subst (λ (l : List Entry). 0 < written_lsn (life_log opening l) c.args.page) (sym here) (c.requires.image opening stands)) in
    (live ∙ ap live_count here, subst (λ n. n ≤ 64) (c.self.invariant.1.begun.counted ∙ ap live_count here) c.self.invariant.1.begun.most)
