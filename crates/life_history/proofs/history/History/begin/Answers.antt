use Rattle.std.proofs.Common.{[], ◌∷◌, ◌+◌, sym, ap, ◌∙◌, arith, refl}
use Rattle.wal_record.specs.History.{live_count}
use Rattle.wal_record.specs.declared.entry.Entry.TheVariants.{Began}
use Rattle.life_history.proofs.Entries.{watched, session_fits, begin_kept, begin_live, begin_entered, from_first}
use Rattle.life_history.proofs.Small.{small_same}
use Rattle.life_history.proofs.Tallying.{tallied_other}
use Rattle.life_history.proofs.history.History.begin.Goals as goal

pub enter-requires-clause-room : goal.enter-requires-clause-room
enter-requires-clause-room g c =
    let watch = c.watch_session.ensures in
    let w = watched _ _ _ _ _ _ _ _ _ _ watch.seen watch.counts watch.right (watch.pass ∙ sym watch.same ∙ sym c.self.view_is) in
    let low = session_fits _ _ _ w.agrees c.self.invariant.1.entries (omega (arith, c.if-self-ge-MOST_ENTRIES.false)) in
    omega (arith, low)

pub invariant_of-self : goal.invariant_of-self
invariant_of-self g c =
    let watch = c.watch_session.ensures in
    let enter = c.enter.ensures in (
      enter.spare,
      begin_kept _ _ _ _ _ _ _ _ _ _ _ _ c.self.invariant.1 _ _ _ _ _ _ _ _ enter.before enter.book enter.others (c.meet.ensures.list ∙ enter.front) refl enter.total enter.sessions_total (ap (λ s. s.tx) watch.right ∙ c.requires.free) c.if-self-eq-MOST_ACTIVE.false (omega (arith, c.if-self-ge-MOST_ENTRIES.false)) (omega (arith, c.if-self-ge-MOST_ENTRIES-2.false)),
      small_same _ _ _ _ _ _ _ enter.others.0 enter.others.1 c.self.invariant.2,
      tallied_other _ _ _ _ _ c.self.invariant.3 (c.meet.ensures.list ∙ enter.front) refl refl,
    )

pub returns-clause-entered : goal.returns-clause-entered
returns-clause-entered g c =
    let watch = c.watch_session.ensures in
    let enter = c.enter.ensures in
    let w = watched _ _ _ _ _ _ _ _ _ _ watch.seen watch.counts watch.right (watch.pass ∙ sym watch.same ∙ sym c.self.view_is) in
    from_first _ _ _ _ _ _ _ _ _ _ _ (λ x. Began x.session c.self.inside.next_tx ∷ []) watch.counts watch.right
    (begin_entered _ _ _ _ _ _ _ _ _ _ _ _ c.self.invariant.1 _ _ _ _ _ _ _ _ _ enter.before w (ap (λ s. s.tx) watch.right ∙ c.requires.free) c.if-self-eq-MOST_ACTIVE.false (c.meet.ensures.seen ∙ enter.front) (omega (arith, watch.seen.durable, c.meet.ensures.durable)) refl enter.counts enter.right)

pub returns-clause-live : goal.returns-clause-live
returns-clause-live g c =
    let watch = c.watch_session.ensures in
    let enter = c.enter.ensures in
    let live = begin_live _ _ _ _ _ _ _ _ _ _ _ _ c.self.invariant.1 _ _ _ enter.before (c.meet.ensures.list ∙ enter.front) refl (ap (λ s. s.tx) watch.right ∙ c.requires.free) c.if-self-eq-MOST_ACTIVE.false (omega (arith, c.if-self-ge-MOST_ENTRIES.false)) (omega (arith, c.if-self-ge-MOST_ENTRIES-2.false)) in
    (live.0 ∙ ap (λ h. live_count h + 1) (c.self.view_is ∙ watch.same), live.1)
