use Rattle.std.proofs.Common.{◌-◌, ◌+◌, subst, List, Bool, arith}
use Rattle.rollback.specs.Owners.{IsLoserOf}
use Rattle.buffer_pool.specs.Tables.{Table}
use Rattle.store_pages.specs.Pages.{AwaitsRedo, Lacks}
use Rattle.own_life.proofs.Helped.{archived_since, helped, helped_some, losers_done, made_none, written_none}
use Rattle.store_pages.proofs.Restored.{restored_made, restored_written}
use Rattle.own_life.proofs.life.OwnLife.help.Goals as goal

pub returns-in_err-undone-clause-helps : goal.returns-in_err-undone-clause-helps
returns-in_err-undone-clause-helps g c = helped_some (IsLoserOf g.N.Life.opens) c.args.steps c.args.self.now.history c.undo_losers.new.self.history c.in_err-undone.ensures.some

pub returns-in_err-brought-clause-helps : goal.returns-in_err-brought-clause-helps
returns-in_err-brought-clause-helps g c =
    let few = c.in_ok-undone.ensures.few in
    let h = c.bring_pages.new.self.history in
    helped (IsLoserOf g.N.Life.opens) c.in_ok-undone.undone 0 0 c.args.steps c.args.self.now.history c.undo_losers.new.self.history h h h c.in_ok-undone.ensures.undoes c.bring_pages.ensures.upkeep (written_none h) (made_none h) (omega (arith, few))

pub returns-in_err-written-clause-helps : goal.returns-in_err-written-clause-helps
returns-in_err-written-clause-helps g c =
    let few = c.in_ok-undone.ensures.few in
    let h = c.write_pages.new.self.history in
    helped (IsLoserOf g.N.Life.opens) c.in_ok-undone.undone (c.args.steps - c.in_ok-undone.undone - c.in_ok-brought.brought) 0 c.args.steps c.args.self.now.history c.undo_losers.new.self.history c.bring_pages.new.self.history h h c.in_ok-undone.ensures.undoes c.bring_pages.ensures.upkeep c.write_pages.ensures.written (made_none h) (omega (arith, few))

pub returns-in_err-archived-clause-helps : goal.returns-in_err-archived-clause-helps
returns-in_err-archived-clause-helps g c =
    let few = c.in_ok-undone.ensures.few in
    let few1 = c.in_ok-brought.ensures.few in
    let few2 = c.in_ok-written.ensures.few in
    helped (IsLoserOf g.N.Life.opens) c.in_ok-undone.undone c.in_ok-written.written (c.args.steps - c.in_ok-undone.undone - c.in_ok-brought.brought - c.in_ok-written.written) c.args.steps c.args.self.now.history c.undo_losers.new.self.history c.bring_pages.new.self.history c.write_pages.new.self.history
    c.archive_runs.new.self.history c.in_ok-undone.ensures.undoes c.bring_pages.ensures.upkeep c.in_ok-written.ensures.taken c.archive_runs.ensures.made (omega (arith, few, few1, few2))

pub returns-clause-helps : goal.returns-clause-helps
returns-clause-helps g c =
    let few = c.in_ok-undone.ensures.few in
    let few1 = c.in_ok-brought.ensures.few in
    let few2 = c.in_ok-written.ensures.few in
    helped (IsLoserOf g.N.Life.opens) c.in_ok-undone.undone c.in_ok-written.written (c.args.steps - c.in_ok-undone.undone - c.in_ok-brought.brought - c.in_ok-written.written) c.args.steps c.args.self.now.history c.undo_losers.new.self.history c.bring_pages.new.self.history c.write_pages.new.self.history
    c.archive_runs.new.self.history c.in_ok-undone.ensures.undoes c.bring_pages.ensures.upkeep c.in_ok-written.ensures.taken c.archive_runs.ensures.made (omega (arith, few, few1, few2))

pub returns-clause-losers : goal.returns-clause-losers
returns-clause-losers g c =
    let few = c.in_ok-undone.ensures.few in
    let few1 = c.in_ok-brought.ensures.few in
    let few2 = c.in_ok-written.ensures.few in
    let few3 = c.in_ok-archived.ensures.few in
    losers_done g.N.Life.opens c.in_ok-undone.undone c.in_ok-written.written (c.args.steps - c.in_ok-undone.undone - c.in_ok-brought.brought - c.in_ok-written.written) c.args.steps (c.in_ok-undone.undone + c.in_ok-brought.brought + c.in_ok-written.written + c.in_ok-archived.archived)
    c.args.self.now.history c.undo_losers.new.self.history c.bring_pages.new.self.history c.write_pages.new.self.history c.archive_runs.new.self.history c.in_ok-undone.ensures.undoes c.bring_pages.ensures.upkeep c.in_ok-written.ensures.taken c.archive_runs.ensures.made few (omega arith) (omega (arith, few, few1, few2, few3))
    c.in_ok-undone.ensures.over

pub returns-clause-restored : goal.returns-clause-restored
returns-clause-restored g c = λ less.
    let few1 = c.in_ok-brought.ensures.few in
    let few2 = c.in_ok-written.ensures.few in
    let few3 = c.in_ok-archived.ensures.few in
    let all = c.in_ok-brought.ensures.restored (omega (arith, less, few1, few2, few3)) in
    restored_made g.N.Life.opens _ c.write_pages.new.self.history c.archive_runs.new.self.history c.archive_runs.ensures.made (restored_written g.N.Life.opens _ c.bring_pages.new.self.history c.write_pages.new.self.history c.write_pages.ensures.written all)

pub returns-clause-redone : goal.returns-clause-redone
returns-clause-redone g c = λ less page is.
    let few1 = c.in_ok-brought.ensures.few in
    let few2 = c.in_ok-written.ensures.few in
    let few3 = c.in_ok-archived.ensures.few in
    c.in_ok-brought.ensures.redone (omega (arith, less, few1, few2, few3)) page (c.write_pages.ensures.awaits page (subst (λ (plan : List Bool). AwaitsRedo plan page) c.archive_runs.ensures.same.1 is))

pub returns-clause-written : goal.returns-clause-written
returns-clause-written g c = λ less page some lacks.
    let few2 = c.in_ok-written.ensures.few in
    let few3 = c.in_ok-archived.ensures.few in
    c.in_ok-written.ensures.clean (omega (arith, less, few2, few3)) page some (subst (λ (frames : Table). Lacks frames page) c.archive_runs.ensures.same.0 lacks)

pub returns-clause-archived : goal.returns-clause-archived
returns-clause-archived g c = λ less.
    let few3 = c.in_ok-archived.ensures.few in
    let l = c.in_ok-undone.ensures.goes.later in
    let m = c.in_ok-brought.ensures.goes.later in
    let n = c.in_ok-written.ensures.goes.later in
    archived_since g.N.Life.opens c.args.self.now.durable c.write_pages.new.self.durable c.archive_runs.new.self.durable c.archive_runs.new.self.history (omega (arith, l, m, n)) (c.in_ok-archived.ensures.archived (omega (arith, less, few3)))
