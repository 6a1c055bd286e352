use Rattle.std.proofs.Common.{Result, Ok, Err, subst}
use Rattle.store_model.specs.declared.fault.Fault.{Fault}
use Rattle.page_ops.specs.Claims.{no_claims}
use Rattle.page_ops.specs.Seeing.{known}
use Rattle.page_ops.specs.declared.outcome.Entered.{Entered}
use Rattle.page_ops.specs.declared.outcome.Entered.TheVariants.{At, Late}
use Rattle.rollback.specs.Endings.{GainsEnd}
use Rattle.rollback.specs.Rolls.{standing}
use Rattle.rollback.specs.declared.undid.Undid.TheVariants.{Nothing, Undone}
use Rattle.rollback.proofs.Failing.{fails_then, plain_fails}
use Rattle.maintenance.proofs.Steps.{enters_ended, enters_rolled, rolled}
use Rattle.maintenance.proofs.undoing.step_on.Goals as goal

pub returns-in-Ok-Undone-clause-enters : goal.returns-in-Ok-Undone-clause-enters
returns-in-Ok-Undone-clause-enters g c =
    enters_rolled g.N.Life.opens g.N.Life.entries g.N.Life.session_entries c.args.tx 1 (standing (g.P.Pages.desk c.args.pages.now) (g.J.Entering.account c.args.journal.now) c.args.pass.now) (standing (g.P.Pages.desk c.undo_one.new.pages) (g.J.Entering.account c.undo_one.new.journal) c.undo_one.new.pass) (rolled g.N.Life.opens g.N.Life.entries g.N.Life.session_entries c.args.tx c.in-Ok-Undone.field-0 (Undone c.in-Ok-Undone.pos) (standing (g.P.Pages.desk c.args.pages.now) (g.J.Entering.account c.args.journal.now) c.args.pass.now) (standing (g.P.Pages.desk c.undo_one.new.pages) (g.J.Entering.account c.undo_one.new.journal) c.undo_one.new.pass) c.in-Ok-Undone.field-0-is c.in-Ok-Undone.ensures.gains)

pub returns-in-Ok-At-clause-enters : goal.returns-in-Ok-At-clause-enters
returns-in-Ok-At-clause-enters g c =
    enters_ended g.N.Life.opens g.N.Life.entries g.N.Life.session_entries c.args.tx (g.P.Pages.desk c.undo_one.new.pages) (g.J.Entering.account c.undo_one.new.journal) (g.J.Entering.account c.end.new.journal) c.undo_one.new.pass c.end.new.pass (standing (g.P.Pages.desk c.args.pages.now) (g.J.Entering.account c.args.journal.now) c.args.pass.now) (Ok (At c.in-Ok-At.pos))
    (rolled g.N.Life.opens g.N.Life.entries g.N.Life.session_entries c.args.tx c.in-Ok-Nothing.field-0 Nothing (standing (g.P.Pages.desk c.args.pages.now) (g.J.Entering.account c.args.journal.now) c.args.pass.now) (standing (g.P.Pages.desk c.undo_one.new.pages) (g.J.Entering.account c.undo_one.new.journal) c.undo_one.new.pass) c.in-Ok-Nothing.field-0-is c.in-Ok-Nothing.ensures.gains) (subst (λ (e : Entered). GainsEnd g.N.Life.opens g.N.Life.entries g.N.Life.session_entries c.args.tx (Ok e) (known (g.J.Entering.account c.undo_one.new.journal) c.undo_one.new.pass no_claims) (known (g.J.Entering.account c.end.new.journal) c.end.new.pass no_claims)) c.in-Ok-At.field-0-is c.in-Ok-At.ensures.gains)

pub returns-in-Ok-Late-clause-enters : goal.returns-in-Ok-Late-clause-enters
returns-in-Ok-Late-clause-enters g c =
    enters_ended g.N.Life.opens g.N.Life.entries g.N.Life.session_entries c.args.tx (g.P.Pages.desk c.undo_one.new.pages) (g.J.Entering.account c.undo_one.new.journal) (g.J.Entering.account c.end.new.journal) c.undo_one.new.pass c.end.new.pass (standing (g.P.Pages.desk c.args.pages.now) (g.J.Entering.account c.args.journal.now) c.args.pass.now) (Ok (Late c.in-Ok-Late.pos))
    (rolled g.N.Life.opens g.N.Life.entries g.N.Life.session_entries c.args.tx c.in-Ok-Nothing.field-0 Nothing (standing (g.P.Pages.desk c.args.pages.now) (g.J.Entering.account c.args.journal.now) c.args.pass.now) (standing (g.P.Pages.desk c.undo_one.new.pages) (g.J.Entering.account c.undo_one.new.journal) c.undo_one.new.pass) c.in-Ok-Nothing.field-0-is c.in-Ok-Nothing.ensures.gains) (subst (λ (e : Entered). GainsEnd g.N.Life.opens g.N.Life.entries g.N.Life.session_entries c.args.tx (Ok e) (known (g.J.Entering.account c.undo_one.new.journal) c.undo_one.new.pass no_claims) (known (g.J.Entering.account c.end.new.journal) c.end.new.pass no_claims)) c.in-Ok-Late.field-0-is c.in-Ok-Late.ensures.gains)

pub returns-in-Ok-Nothing-clause-enters : goal.returns-in-Ok-Nothing-clause-enters
returns-in-Ok-Nothing-clause-enters g c =
    enters_ended g.N.Life.opens g.N.Life.entries g.N.Life.session_entries c.args.tx (g.P.Pages.desk c.undo_one.new.pages) (g.J.Entering.account c.undo_one.new.journal) (g.J.Entering.account c.end.new.journal) c.undo_one.new.pass c.end.new.pass (standing (g.P.Pages.desk c.args.pages.now) (g.J.Entering.account c.args.journal.now) c.args.pass.now) (Err c.in-Err-end.fault)
    (rolled g.N.Life.opens g.N.Life.entries g.N.Life.session_entries c.args.tx c.in-Ok-Nothing.field-0 Nothing (standing (g.P.Pages.desk c.args.pages.now) (g.J.Entering.account c.args.journal.now) c.args.pass.now) (standing (g.P.Pages.desk c.undo_one.new.pages) (g.J.Entering.account c.undo_one.new.journal) c.undo_one.new.pass) c.in-Ok-Nothing.field-0-is c.in-Ok-Nothing.ensures.gains) c.in-Err-end.ensures.gains

pub returns-in-Ok-Nothing-clause-refused : goal.returns-in-Ok-Nothing-clause-refused
returns-in-Ok-Nothing-clause-refused g c =
    let rolls = c.undo_one.ensures.gains in
    let r : Result Entered Fault = Err c.in-Err-end.fault in
    fails_then g.N.Life.opens g.N.Life.log_faults g.N.Life.made (g.J.Entering.account c.args.journal.now) (g.J.Entering.account c.undo_one.new.journal) (g.J.Entering.account c.end.new.journal) c.end.new.pass.log c.in-Ok-Nothing.ensures.open rolls.gains.keeps (g.P.Pages.desk c.args.pages.now).faults (g.P.Pages.desk c.undo_one.new.pages).faults (g.P.Pages.desk c.undo_one.new.pages).faults r rolls.faults
    (plain_fails g.N.Life.opens g.N.Life.log_faults g.N.Life.made (g.J.Entering.account c.undo_one.new.journal) (g.J.Entering.account c.end.new.journal) c.end.new.pass.log (g.P.Pages.desk c.undo_one.new.pages).faults r c.in-Err-end.ensures.refused c.in-Err-end.ensures.ends)

pub returns-clause-enters : goal.returns-clause-enters
returns-clause-enters g c = enters_rolled g.N.Life.opens g.N.Life.entries g.N.Life.session_entries c.args.tx 0 (standing (g.P.Pages.desk c.args.pages.now) (g.J.Entering.account c.args.journal.now) c.args.pass.now) (standing (g.P.Pages.desk c.undo_one.new.pages) (g.J.Entering.account c.undo_one.new.journal) c.undo_one.new.pass) c.in-Err.ensures.gains
