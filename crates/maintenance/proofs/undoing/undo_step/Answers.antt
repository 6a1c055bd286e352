use Rattle.std.proofs.Common.{refl, sym, ◌∙◌}
use Rattle.page_ops.proofs.Composing.{done_meets_none}
use Rattle.rollback.specs.Rolls.{standing}
use Rattle.rollback.proofs.Composing.{faults_self}
use Rattle.rollback.proofs.Failing.{fails_then}
use Rattle.maintenance.proofs.Steps.{done_on, enters_none, least_loses, looks, none_left, root_made}
use Rattle.maintenance.proofs.undoing.undo_step.Goals as goal

pub returns-in-Err-clause-takes : goal.returns-in-Err-clause-takes
returns-in-Err-clause-takes g c =
    record {
      looked = standing (g.P.Pages.desk c.args.pages.now) (g.J.Entering.account c.work.new.self) c.work.new.pass;
      look = looks g.N.Life.opens g.N.Life.entries g.N.Life.session_entries 0 (g.P.Pages.desk c.args.pages.now) (g.J.Entering.account c.args.journal.now) (g.J.Entering.account c.work.new.self) c.args.pass.now c.work.new.pass c.work.ensures.seen;
      desk = refl;
      tx = 0;
      enters = enters_none g.N.Life.opens g.N.Life.entries g.N.Life.session_entries 0 (g.P.Pages.desk c.args.pages.now) (g.J.Entering.account c.args.journal.now) (g.J.Entering.account c.work.new.self) c.args.pass.now c.work.new.pass c.work.ensures.seen;
      done = tt;
    }

pub returns-in_default-clause-takes : goal.returns-in_default-clause-takes
returns-in_default-clause-takes g c =
    record {
      looked = standing (g.P.Pages.desk c.args.pages.now) (g.J.Entering.account c.work.new.self) c.work.new.pass;
      look = looks g.N.Life.opens g.N.Life.entries g.N.Life.session_entries 0 (g.P.Pages.desk c.args.pages.now) (g.J.Entering.account c.args.journal.now) (g.J.Entering.account c.work.new.self) c.args.pass.now c.work.new.pass c.work.ensures.seen;
      desk = refl;
      tx = 0;
      enters = enters_none g.N.Life.opens g.N.Life.entries g.N.Life.session_entries 0 (g.P.Pages.desk c.args.pages.now) (g.J.Entering.account c.args.journal.now) (g.J.Entering.account c.work.new.self) c.args.pass.now c.work.new.pass c.work.ensures.seen;
      done = (refl, λ opening stands. none_left opening c.work.new.pass.log c.in-Ok.work.loser c.in_default.is (c.in-Ok.ensures.work.loser opening stands));
    }

pub returns-then-not-is_number-clause-takes : goal.returns-then-not-is_number-clause-takes
returns-then-not-is_number-clause-takes g c =
    record {
      looked = standing (g.P.Pages.desk c.args.pages.now) (g.J.Entering.account c.work.new.self) c.work.new.pass;
      look = looks g.N.Life.opens g.N.Life.entries g.N.Life.session_entries 0 (g.P.Pages.desk c.args.pages.now) (g.J.Entering.account c.args.journal.now) (g.J.Entering.account c.work.new.self) c.args.pass.now c.work.new.pass c.work.ensures.seen;
      desk = refl;
      tx = 0;
      enters = enters_none g.N.Life.opens g.N.Life.entries g.N.Life.session_entries 0 (g.P.Pages.desk c.args.pages.now) (g.J.Entering.account c.args.journal.now) (g.J.Entering.account c.work.new.self) c.args.pass.now c.work.new.pass c.work.ensures.seen;
      done = tt;
    }

pub step_on-requires-clause-made : goal.step_on-requires-clause-made
step_on-requires-clause-made g c = root_made g.N.Life.opens c.work.new.pass.log c.work.ensures.seen.now.consistent

pub step_on-requires-clause-loser : goal.step_on-requires-clause-loser
step_on-requires-clause-loser g c = least_loses g.N.Life.opens c.work.new.pass.log c.in-Some.loser (λ opening stands. sym (c.in-Ok.ensures.work.loser opening stands) ∙ c.in-Some.is)

pub returns-clause-takes : goal.returns-clause-takes
returns-clause-takes g c =
    record {
      looked = standing (g.P.Pages.desk c.args.pages.now) (g.J.Entering.account c.work.new.self) c.work.new.pass;
      look = looks g.N.Life.opens g.N.Life.entries g.N.Life.session_entries 0 (g.P.Pages.desk c.args.pages.now) (g.J.Entering.account c.args.journal.now) (g.J.Entering.account c.work.new.self) c.args.pass.now c.work.new.pass c.work.ensures.seen;
      desk = refl;
      tx = c.in-Some.loser;
      enters = c.step_on.ensures.enters;
      done = done_on g.N.Life.opens c.work.new.pass.log c.step_on.new.pass.log c.in-Some.loser c.step_on.result (λ opening stands. sym (c.in-Ok.ensures.work.loser opening stands) ∙ c.in-Some.is) c.step_on.ensures.stepped;
    }

pub returns-clause-refused : goal.returns-clause-refused
returns-clause-refused g c =
    let own = (g.P.Pages.desk c.args.pages.now).faults in
    fails_then g.N.Life.opens g.N.Life.log_faults g.N.Life.made (g.J.Entering.account c.args.journal.now) (g.J.Entering.account c.work.new.self) (g.J.Entering.account c.step_on.new.journal) c.step_on.new.pass.log (done_meets_none g.N.Life.opens g.N.Life.log_faults g.N.Life.made (g.J.Entering.account c.args.journal.now) (g.J.Entering.account c.work.new.self) c.work.new.pass.log c.in-Ok.work c.in-Ok.ensures.ends) c.work.ensures.seen.keeps own own (g.P.Pages.desk c.step_on.new.pages).faults c.step_on.result (faults_self own) c.step_on.ensures.refused
