use Rattle.std.proofs.Common.{◌++◌, ◌∷◌, [], List, sym, ap, ◌∙◌, refl, subst}
use Rattle.std.proofs.lemmas.Result.{err_from_is_err_and}
use Rattle.page_ops.specs.Claims.{session_alone}
use Rattle.page_ops.specs.Seeing.{IsConsistent, IsMoment}
use Rattle.store_model.specs.declared.reply.Outcome.TheVariants as outcomes
use Rattle.wal_record.specs.History.{live_count}
use Rattle.wal_record.specs.declared.entry.Entry.{Entry}
use Rattle.wal_record.specs.declared.entry.Entry.TheVariants as entries
use Rattle.journal.proofs.Declining.{refused_consistent}
use Rattle.journal.proofs.Ending.{told_stops, stopped_ends}
use Rattle.journal.proofs.Entering.{entered_entry}
use Rattle.journal.proofs.Living.{kept_entry}
use Rattle.journal.proofs.Locking.{held_still}
use Rattle.journal.proofs.Losing.{losers_entry}
use Rattle.journal.proofs.Restoring.{restored_entry}
use Rattle.journal.proofs.Stopping.{entry_safe}
use Rattle.journal.proofs.journal.Journal.refuse.Goals as goal

pub returns-in_err-check_open-clause-ends : goal.returns-in_err-check_open-clause-ends
returns-in_err-check_open-clause-ends g c =
    let p = err_from_is_err_and c.from_residual.result c.from_residual.ensures.1 in
    rw (p.1, p.2) (stopped_ends _ g.N.Life.log_faults _ _ _ _ _ _ c.watch_session.ensures.counts (told_stops g.N.Life.log_faults _ _ _ c.in_err-check_open.ensures.ended))

pub enter_declined-requires-clause-consistent : goal.enter_declined-requires-clause-consistent
enter_declined-requires-clause-consistent g c =
    let watch = c.watch_session.ensures in
    let h = c.watch_session.new.self in
    let moment = subst (λ (l : List Entry). IsMoment g.N.Life.opens c.args.pass.now.log (session_alone c.watch_session.new.s) l) (watch.pass ∙ sym watch.same) watch.seen.now in
    let whole = refused_consistent g.N.Life.opens c.args.pass.now.log h c.watch_session.new.s.session c.watch_session.new.s.tx c.args.request c.args.s.now c.watch_session.new.s refl refl watch.right moment c.requires.lawful in
    whole

pub invariant_of-self-2 : goal.invariant_of-self-2
invariant_of-self-2 g c =
    let watch = c.watch_session.ensures in
    let own = c.enter_declined.ensures in
    let k = c.self.invariant.1 in
    let e : Entry = entries.Declined c.watch_session.new.s.session c.watch_session.new.s.tx c.args.request outcomes.OpRefused in (
      c.self.invariant.0,
      kept_entry _ _ _ _ _ _ c.self.inside.log.log c.self.inside.log.log c.self.inside.log.listing c.self.inside.log.listing c.self.inside.locks c.self.inside.locks _ c.self.inside.faults.total c.check_open.new.faults.total k c.check_open.ensures.total e
          (own.history ∙ ap (λ (l : List Entry). l ++ e ∷ []) watch.same) refl (held_still c.self.inside.history c.self.inside.locks k.life.locks e (λ u ls. refl)) (own.live.0 ∙ ap live_count watch.same) (λ t p waits. waits),
      restored_entry c.self.inside.history _ c.self.inside.restored e c.self.invariant.2 (own.history ∙ ap (λ (l : List Entry). l ++ e ∷ []) watch.same) (λ s. refl),
      losers_entry g.N.Life.opens c.self.inside.history _ c.self.inside.losers c.self.inside.losers c.self.invariant.3 e (own.history ∙ ap (λ (l : List Entry). l ++ e ∷ []) watch.same) refl (λ t. refl),
      entry_safe g.N.Life.opens g.L.Disk.told g.L.Disk.may_leave c.self.inside.history _ c.self.inside.log.log.log c.self.inside.log.log.log c.self.invariant.4 e (own.history ∙ ap (λ (l : List Entry). l ++ e ∷ []) watch.same) refl (λ t. refl) refl,
      c.self.invariant.5,
    )

pub returns-clause-entered : goal.returns-clause-entered
returns-clause-entered g c =
    let watch = c.watch_session.ensures in
    let h = c.watch_session.new.self in
    let moment = subst (λ (l : List Entry). IsMoment g.N.Life.opens c.args.pass.now.log (session_alone c.watch_session.new.s) l) (watch.pass ∙ sym watch.same) watch.seen.now in
    let whole = refused_consistent g.N.Life.opens c.args.pass.now.log h c.watch_session.new.s.session c.watch_session.new.s.tx c.args.request c.args.s.now c.watch_session.new.s refl refl watch.right moment c.requires.lawful in
    let own = c.enter_declined.ensures in
    let named = ap (λ x. x.session) watch.right in
    let tx = ap (λ x. x.tx) watch.right in
    entered_entry _ _ _ _ _ _ _ _ _ _ _ _ _ h _ (entries.Declined c.args.s.now.session c.args.s.now.tx c.args.request outcomes.OpRefused) watch.seen watch.counts c.in_ok-check_open.ensures.open.1 watch.right (watch.pass ∙ sym watch.same)
    (own.history ∙ (λ i. h ++ entries.Declined (named i) (tx i) c.args.request outcomes.OpRefused ∷ [])) own.seen own.durable own.counts own.counted
    (subst (λ (x : Entry). IsConsistent g.N.Life.opens (h ++ x ∷ [])) (λ i. entries.Declined (named i) (tx i) c.args.request outcomes.OpRefused) whole)
    own.agrees
