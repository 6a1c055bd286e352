use Rattle.std.proofs.Common.{◌≡◌, subst, arith}
use Rattle.wal_record.specs.History.{life_log}
use Rattle.page_ops.specs.Outcomes.{IsFound}
use Rattle.page_ops.specs.declared.outcome.Found.TheVariants as founds
use Rattle.segment_restore.proofs.Chains.{head_later, is_there, looks, read_fails, upheld_both}
use Rattle.segment_restore.proofs.Owned.{result_after}
use Rattle.segment_restore.proofs.Segments.{open_met}
use Rattle.segment_restore.proofs.following.record_at.Goals as goal

pub read-requires : goal.read-requires
read-requires g c = record { there = λ opening stands. is_there (life_log opening c.args.pass.now.log) c.args.page c.args.lsn (c.requires.named opening stands) }

pub returns-in-Ok-Record-clause-found : goal.returns-in-Ok-Record-clause-found
returns-in-Ok-Record-clause-found g c =
    let at : c.in-Ok-Record.field-0 ≡ founds.Record c.in-Ok-Record.record = cc (c.in-Ok-Record.field-0-is) in
    subst (IsFound g.N.Life.opens c.read.new.pass.log c.args.lsn) at c.in-Ok-Record.ensures.found

pub returns-in-Ok-Record-clause-entered : goal.returns-in-Ok-Record-clause-entered
returns-in-Ok-Record-clause-entered g c = looks _ _ _ _ _ _ _ _ _ c.read.ensures.seen

pub archived-requires : goal.archived-requires
archived-requires g c = record {
  run =
      let at : c.in-Ok-Run.field-0 ≡ founds.Run c.in-Ok-Run.run' = cc (c.in-Ok-Run.field-0-is) in
      subst (IsFound g.N.Life.opens c.read.new.pass.log c.args.lsn) at c.in-Ok-Run.ensures.found;
  named = head_later g.N.Life.opens c.args.pass.now.log c.read.new.pass.log c.args.page c.args.lsn c.read.ensures.seen.now.begins c.requires.named;
}

pub returns-in-Ok-Run-clause-entered : goal.returns-in-Ok-Run-clause-entered
returns-in-Ok-Run-clause-entered g c = upheld_both _ _ _ _ _ _ _ _ _ (looks _ _ _ _ _ _ _ _ _ c.read.ensures.seen) c.archived.ensures.entered

pub returns-in-Ok-Run-clause-refused : goal.returns-in-Ok-Run-clause-refused
returns-in-Ok-Run-clause-refused g c =
    result_after g.N.Life.opens g.N.Life.log_faults g.N.Life.made _ _ _ _ _ _ (open_met (g.J.Entering.account c.args.journal.now) (g.J.Entering.account c.read.new.self) c.in-Ok-Run.ensures.ends) c.read.ensures.seen.keeps _ _ (omega arith) c.archived.ensures.refused

pub returns-in-Err-clause-entered : goal.returns-in-Err-clause-entered
returns-in-Err-clause-entered g c = looks _ _ _ _ _ _ _ _ _ c.read.ensures.seen

pub returns-in-Err-clause-refused : goal.returns-in-Err-clause-refused
returns-in-Err-clause-refused g c = read_fails _ _ _ _ _ _ _ _ c.in-Err.ensures.refused c.in-Err.ensures.ends
