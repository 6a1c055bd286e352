use Rattle.std.proofs.Common.{◌≤◌, List, [], sym, ◌∙◌, arith, subst}
use Rattle.std.specs.Prelude.{IfOk}
use Rattle.log_blocks.specs.LogState.{durable_lsn}
use Rattle.log_blocks.specs.declared.header.Place.{Place}
use Rattle.page_ops.specs.Causes.{IsOpen}
use Rattle.page_ops.specs.Claims.{no_claims}
use Rattle.page_ops.specs.Seeing.{Account, Enters, known}
use Rattle.wal_record.specs.History.{life_log}
use Rattle.journal.specs.Lookups.{IsFoundBehind}
use Rattle.journal.proofs.Calls.{blames_since, blocks_is, calls_is, end_fresh, ended_is, no_calls, told_quiet}
use Rattle.journal.proofs.Ending.{called, called_ends, told_stops, stopped_ends}
use Rattle.journal.proofs.Living.{kept_call}
use Rattle.journal.proofs.Lookup.{found_told, unread_told}
use Rattle.journal.proofs.Losing.{losers_same}
use Rattle.journal.proofs.Restoring.{restored_same}
use Rattle.journal.proofs.Stopping.{call_safe}
use Rattle.journal.proofs.journal.Journal.read.Goals as goal

pub returns-in-Err-clause-ends : goal.returns-in-Err-clause-ends
returns-in-Err-clause-ends g c = stopped_ends _ g.N.Life.log_faults _ _ _ _ _ _ c.look.ensures.counts (told_stops g.N.Life.log_faults _ _ _ c.in-Err.ensures.ended)

pub invariant_of-self : goal.invariant_of-self
invariant_of-self g c =
    let k = c.self.invariant.1 in
    let read = c.find.ensures in (
      c.self.invariant.0,
      kept_call g.N.Life.opens g.L.Disk.tells g.L.Disk.told g.L.Disk.may_leave c.self.inside.history c.look.new.self c.self.inside.log.log c.find.new.log.log c.self.inside.log.listing c.find.new.log.listing c.self.inside.locks c.self.inside.marked c.self.inside.faults.total
          c.check_open.new.faults.total c.find.new.faults.total k c.look.ensures.same c.check_open.ensures.total c.in-Ok.ensures.open.0 read.same read.places.0 (λ goes rs has tells runs. subst (λ ps. durable_lsn c.self.inside.log.log.log.places ≤ durable_lsn ps) (sym read.places.1) (omega arith))
          c.check_open.new.counts c.find.new.counts c.find.result read.ends,
      restored_same c.self.inside.history _ c.self.inside.restored c.self.invariant.2 c.look.ensures.same,
      losers_same g.N.Life.opens c.self.inside.history _ c.self.inside.losers c.self.inside.losers c.self.invariant.3 c.look.ensures.same,
      call_safe g.N.Life.opens g.L.Disk.tells g.L.Disk.told g.L.Disk.may_leave c.self.inside.history _ c.self.inside.log.log c.find.new.log.log c.self.inside.log.listing k.life.records k.life.telling c.self.invariant.4 c.look.ensures.same c.in-Ok.ensures.open.0 read.left,
      read.durable,
    )

pub returns-in-Ok-clause-seen : goal.returns-in-Ok-clause-seen
returns-in-Ok-clause-seen g c =
    let look = c.look.ensures in
    let first = c.in-Ok.ensures.open in
    let seen = subst (λ (a : Account). Enters g.N.Life.opens g.N.Life.entries g.N.Life.session_entries (known c.args.counts.now c.args.pass.now no_claims) [] (known a c.look.new.pass no_claims)) (sym first.1) look.seen in
    called _ _ _ _ _ _ (first.1 ∙ look.counts) (subst IsOpen look.counts first.2) g.N.Life.opens g.N.Life.entries g.N.Life.session_entries g.N.Life.log_faults c.args.pass.now c.look.new.pass no_claims no_claims c.find.result seen c.find.ensures.ends

pub returns-in-Ok-clause-ends : goal.returns-in-Ok-clause-ends
returns-in-Ok-clause-ends g c =
    let look = c.look.ensures in
    let first = c.in-Ok.ensures.open in
    called_ends _ _ _ _ _ _ (first.1 ∙ look.counts) (subst IsOpen look.counts first.2) g.N.Life.opens g.N.Life.log_faults g.N.Life.made c.look.new.pass.log c.find.result c.find.ensures.ends c.find.ensures.unread

pub returns-in-Ok-clause-found : goal.returns-in-Ok-clause-found
returns-in-Ok-clause-found g c =
    let k = c.self.invariant.1.life in
    found_told g.N.Life.opens c.look.new.pass.log c.self.inside.history c.look.ensures.pass c.args.lsn c.find.result c.find.ensures.spelling (λ opening stands. c.find.ensures.found _ (life_log opening c.self.inside.history) (k.records opening stands) (k.telling opening stands))

pub returns-in-Ok-clause-refused : goal.returns-in-Ok-clause-refused
returns-in-Ok-clause-refused g c =
    let k = c.self.invariant.1.life in
    unread_told g.N.Life.opens c.look.new.pass.log c.self.inside.history c.look.ensures.pass c.args.lsn c.find.result c.find.ensures.unread (λ opening stands. c.find.ensures.found _ (life_log opening c.self.inside.history) (k.records opening stands) (k.telling opening stands))

pub returns-in-Ok-clause-end : goal.returns-in-Ok-clause-end
returns-in-Ok-clause-end g c = end_fresh _ _ (sym (ended_is _ _ c.self.view_is) ∙ c.in-Ok.ensures.open.0)

pub returns-in-Ok-clause-calls : goal.returns-in-Ok-clause-calls
returns-in-Ok-clause-calls g c = blames_since g.L.Disk.passes g.L.Disk.refused g.L.Disk.own _ _ _ (calls_is _ _ c.self.view_is) _ c.find.ensures.fuse

pub returns-in-Err-clause-calls : goal.returns-in-Err-clause-calls
returns-in-Err-clause-calls g c = no_calls _ _ _ (sym (calls_is _ _ c.self.view_is)) (told_quiet g.N.Life.log_faults _ _ _ c.in-Err.ensures.ended)

-- ---- the durable blocks

pub returns-in-Ok-clause-kind : goal.returns-in-Ok-clause-kind
returns-in-Ok-clause-kind g c = subst (λ (ps : List Place). IfOk c.find.result (IsFoundBehind ps c.args.lsn)) (blocks_is _ _ c.self.view_is) c.find.ensures.kind

pub returns-in-Ok-clause-blocks : goal.returns-in-Ok-clause-blocks
returns-in-Ok-clause-blocks g c = c.find.ensures.places.1 ∙ blocks_is _ _ c.self.view_is
