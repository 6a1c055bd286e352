use Rattle.std.proofs.Common.{refl, sym, subst}
use Rattle.page_ops.specs.Seeing.{Account}
use Rattle.wal_record.specs.declared.entry.Entry.{Entry}
use Rattle.wal_record.specs.declared.entry.Entry.TheVariants as entries
use Rattle.journal.specs.Ends.{IsStopped}
use Rattle.journal.proofs.Ending.{told_stops, stopped_ends}
use Rattle.journal.proofs.Living.{kept_entry}
use Rattle.journal.proofs.Locking.{held_still}
use Rattle.journal.proofs.Losing.{losers_entry}
use Rattle.journal.proofs.Restoring.{restored_entry}
use Rattle.journal.proofs.Stopping.{entry_safe}
use Rattle.journal.proofs.journal.Journal.repaired.Goals as goal

pub invariant_of-self-in-Ok : goal.invariant_of-self-in-Ok
invariant_of-self-in-Ok g c =
    let own = c.enter_repaired.ensures in
    let k = c.self.invariant.1 in
    let e : Entry = entries.Repaired c.page-page.result in (
      c.self.invariant.0,
      kept_entry _ _ _ _ _ _ c.self.inside.log.log c.self.inside.log.log c.self.inside.log.listing c.self.inside.log.listing c.self.inside.locks c.self.inside.locks _ c.self.inside.faults.total c.check_open.new.faults.total k c.check_open.ensures.total e
          own.history refl (held_still c.self.inside.history c.self.inside.locks k.life.locks e (λ u ls. refl)) own.live.0 (λ t p waits. waits),
      restored_entry c.self.inside.history _ c.self.inside.restored e c.self.invariant.2 own.history (λ s. refl),
      losers_entry g.N.Life.opens c.self.inside.history _ c.self.inside.losers c.self.inside.losers c.self.invariant.3 e own.history refl (λ t. refl),
      entry_safe g.N.Life.opens g.L.Disk.told g.L.Disk.may_leave c.self.inside.history _ c.self.inside.log.log.log c.self.inside.log.log.log c.self.invariant.4 e own.history refl (λ t. refl) refl,
      c.self.invariant.5,
    )

pub returns-in-Err-clause-ends : goal.returns-in-Err-clause-ends
returns-in-Err-clause-ends g c =
    stopped_ends _ g.N.Life.log_faults _ _ _ _ _ _ refl (subst (λ (a : Account). IsStopped g.N.Life.log_faults c.args.counts.now a c.in-Err.fault) (sym c.look-in-Err.ensures.counts) (told_stops g.N.Life.log_faults _ _ _ c.in-Err.ensures.ended))
