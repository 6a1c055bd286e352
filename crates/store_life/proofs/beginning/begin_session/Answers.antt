use Rattle.std.proofs.Common.{subst, sym}
use Rattle.page_ops.specs.Causes.{EndsBy}
use Rattle.page_ops.specs.Seeing.{Counted}
use Rattle.store_life.proofs.Began.{ends_from, keeps_from, uncrowded}
use Rattle.store_life.proofs.beginning.begin_session.Goals as goal

pub returns-in-Err-clause-ends : goal.returns-in-Err-clause-ends
returns-in-Err-clause-ends g c =
    subst (λ (m : Counted). EndsBy g.N.Life.opens g.N.Life.log_faults g.N.Life.made (record (g.J.Entering.account c.args.journal.now) { made = m }) (g.J.Entering.account c.new_session.new.journal) c.new_session.new.pass.log c.in-Err.fault) (sym c.in-Err.ensures.made) c.in-Err.ensures.ends

pub returns-in-Err-clause-crowd : goal.returns-in-Err-clause-crowd
returns-in-Err-clause-crowd g c = λ few. uncrowded c.new_session.new.pass.log c.in-Err.fault c.in-Err.ensures.refused

pub returns-in-Err-begin_in-clause-ends : goal.returns-in-Err-begin_in-clause-ends
returns-in-Err-begin_in-clause-ends g c =
    ends_from g.N.Life.opens g.N.Life.entries g.N.Life.session_entries (g.J.Entering.account c.args.journal.now) (g.J.Entering.account c.new_session.new.journal) c.args.pass.now c.new_session.new.pass c.requires c.in-Ok.ensures.seen g.N.Life.log_faults g.N.Life.made (g.J.Entering.account c.begin_in.new.journal) c.begin_in.new.pass.log c.begin_in.ensures.made c.in-Ok.session c.new_session.new.pass.log c.in-Ok.ensures.ends c.in-Err-begin_in.fault c.in-Err-begin_in.ensures.ends

pub returns-in-Err-clause-keeps : goal.returns-in-Err-clause-keeps
returns-in-Err-clause-keeps g c = c.in-Err.ensures.seen.keeps

pub returns-then-crowded-clause-keeps : goal.returns-then-crowded-clause-keeps
returns-then-crowded-clause-keeps g c = c.in-Ok.ensures.seen.keeps

pub returns-in-Ok-begin_in-clause-keeps : goal.returns-in-Ok-begin_in-clause-keeps
returns-in-Ok-begin_in-clause-keeps g c = keeps_from g.N.Life.opens g.N.Life.entries g.N.Life.session_entries (g.J.Entering.account c.args.journal.now) (g.J.Entering.account c.new_session.new.journal) c.args.pass.now c.new_session.new.pass c.requires c.in-Ok.ensures.seen (g.J.Entering.account c.begin_in.new.journal) c.in-Ok-begin_in.ensures.keeps

pub returns-in-Err-begin_in-clause-keeps : goal.returns-in-Err-begin_in-clause-keeps
returns-in-Err-begin_in-clause-keeps g c = keeps_from g.N.Life.opens g.N.Life.entries g.N.Life.session_entries (g.J.Entering.account c.args.journal.now) (g.J.Entering.account c.new_session.new.journal) c.args.pass.now c.new_session.new.pass c.requires c.in-Ok.ensures.seen (g.J.Entering.account c.begin_in.new.journal) c.in-Err-begin_in.ensures.keeps
