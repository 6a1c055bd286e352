use Rattle.std.proofs.Common.{Option, subst}
use Rattle.std.specs.Prelude.{IfSome}
use Rattle.segment_restore.specs.Based.{IsBased}
use Rattle.segment_restore.specs.declared.base.Base.{Base}
use Rattle.segment_restore.proofs.Chains.{at_head, looks}
use Rattle.segment_restore.proofs.writing.image_at.Goals as goal

pub returns-in-Some-clause-entered : goal.returns-in-Some-clause-entered
returns-in-Some-clause-entered g c = looks _ _ _ _ _ _ _ _ _ c.see.ensures.seen

pub returns-in-Some-clause-rebuilt : goal.returns-in-Some-clause-rebuilt
returns-in-Some-clause-rebuilt g c =
    at_head g.N.Life.opens c.args.pass.now.log c.see.new.pass.log c.args.page c.args.head c.in-Some.base c.see.ensures.seen.now.begins c.requires.head c.if-base-head.true
    (subst (λ (o : Option Base). IfSome o (IsBased g.N.Life.opens c.args.pass.now.log c.args.page c.args.head)) c.in-Some.is c.requires.base)
