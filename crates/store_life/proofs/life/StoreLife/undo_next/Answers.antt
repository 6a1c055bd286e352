use Rattle.std.proofs.Common.{Bool, Result, subst, sym}
use Rattle.std.specs.Prelude.{IfErr, OnOk}
use Rattle.store_model.specs.declared.fault.Fault.{Fault}
use Rattle.page_ops.specs.Causes.{FailsToBring, MeetsNoEnd}
use Rattle.rollback.specs.Rolls.{standing}
use Rattle.store_life.specs.SoFar.{actives}
use Rattle.store_life.specs.Steps.{StepsBack, was_taken}
use Rattle.store_life.proofs.Stepped.{open_told, refused_told, stepped, stepped_alone, stepped_durable, stepped_faults, stepped_keeps, stepped_named}
use Rattle.store_life.proofs.life.StoreLife.undo_next.Goals as goal

pub returns-clause-runs : goal.returns-clause-runs
returns-clause-runs g c = record { alone = stepped_alone g.N.Life.opens g.N.Life.entries g.N.Life.session_entries c.undo_step-step.result (standing (g.P.Pages.desk c.args.pages.now) (g.J.Entering.account c.args.journal.now) c.args.self.now.pass) (standing (g.P.Pages.desk c.undo_step-step.new.pages) (g.J.Entering.account c.undo_step-step.new.journal) c.undo_step-step.new.pass) c.requires.runs.alone c.undo_step-step.ensures.takes; begun = c.requires.runs.begun; few = c.requires.runs.few }

pub returns-clause-steps : goal.returns-clause-steps
returns-clause-steps g c = subst (λ (r : Result Bool Fault). StepsBack g.N.Life.opens r c.args.self.now.pass.log c.undo_step-step.new.pass.log) (sym c.was_taken.ensures) (stepped g.N.Life.opens g.N.Life.entries g.N.Life.session_entries c.undo_step-step.result (standing (g.P.Pages.desk c.args.pages.now) (g.J.Entering.account c.args.journal.now) c.args.self.now.pass) (standing (g.P.Pages.desk c.undo_step-step.new.pages) (g.J.Entering.account c.undo_step-step.new.journal) c.undo_step-step.new.pass) c.requires.runs.alone c.undo_step-step.ensures.takes)

pub returns-clause-named : goal.returns-clause-named
returns-clause-named g c = λ named. stepped_named g.N.Life.opens (was_taken c.undo_step-step.result) c.args.self.now.pass.log c.undo_step-step.new.pass.log (actives c.args.self.now.named.items) (stepped g.N.Life.opens g.N.Life.entries g.N.Life.session_entries c.undo_step-step.result (standing (g.P.Pages.desk c.args.pages.now) (g.J.Entering.account c.args.journal.now) c.args.self.now.pass) (standing (g.P.Pages.desk c.undo_step-step.new.pages) (g.J.Entering.account c.undo_step-step.new.journal) c.undo_step-step.new.pass) c.requires.runs.alone c.undo_step-step.ensures.takes) named

pub returns-clause-durable : goal.returns-clause-durable
returns-clause-durable g c = stepped_durable g.N.Life.opens g.N.Life.entries g.N.Life.session_entries c.undo_step-step.result (standing (g.P.Pages.desk c.args.pages.now) (g.J.Entering.account c.args.journal.now) c.args.self.now.pass) (standing (g.P.Pages.desk c.undo_step-step.new.pages) (g.J.Entering.account c.undo_step-step.new.journal) c.undo_step-step.new.pass) c.requires.runs.alone c.undo_step-step.ensures.takes

pub returns-clause-keeps : goal.returns-clause-keeps
returns-clause-keeps g c = stepped_keeps g.N.Life.opens g.N.Life.entries g.N.Life.session_entries c.undo_step-step.result (standing (g.P.Pages.desk c.args.pages.now) (g.J.Entering.account c.args.journal.now) c.args.self.now.pass) (standing (g.P.Pages.desk c.undo_step-step.new.pages) (g.J.Entering.account c.undo_step-step.new.journal) c.undo_step-step.new.pass) c.requires.runs.alone c.undo_step-step.ensures.takes

pub returns-clause-faults : goal.returns-clause-faults
returns-clause-faults g c = stepped_faults g.N.Life.opens g.N.Life.entries g.N.Life.session_entries c.undo_step-step.result (standing (g.P.Pages.desk c.args.pages.now) (g.J.Entering.account c.args.journal.now) c.args.self.now.pass) (standing (g.P.Pages.desk c.undo_step-step.new.pages) (g.J.Entering.account c.undo_step-step.new.journal) c.undo_step-step.new.pass) c.requires.runs.alone c.undo_step-step.ensures.takes

pub returns-clause-open : goal.returns-clause-open
returns-clause-open g c = subst (λ (r : Result Bool Fault). OnOk r (MeetsNoEnd (g.J.Entering.account c.args.journal.now) (g.J.Entering.account c.undo_step-step.new.journal))) (sym c.was_taken.ensures) (open_told (g.J.Entering.account c.args.journal.now) (g.J.Entering.account c.undo_step-step.new.journal) c.undo_step-step.result c.undo_step-step.ensures.open)

pub returns-clause-refused : goal.returns-clause-refused
returns-clause-refused g c =
    let own = (g.P.Pages.desk c.args.pages.now).faults in
    let now = (g.P.Pages.desk c.undo_step-step.new.pages).faults in
    subst (λ (r : Result Bool Fault). IfErr r (FailsToBring g.N.Life.opens g.N.Life.log_faults g.N.Life.made own now (g.J.Entering.account c.args.journal.now) (g.J.Entering.account c.undo_step-step.new.journal) c.undo_step-step.new.pass.log)) (sym c.was_taken.ensures)
    (refused_told g.N.Life.opens g.N.Life.log_faults g.N.Life.made own now (g.J.Entering.account c.args.journal.now) (g.J.Entering.account c.undo_step-step.new.journal) c.undo_step-step.new.pass.log c.undo_step-step.result c.undo_step-step.ensures.open c.undo_step-step.ensures.refused)
