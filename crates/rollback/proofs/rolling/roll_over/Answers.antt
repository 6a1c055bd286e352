use Rattle.std.proofs.Common.{ap, sym, subst, ◌∙◌}
use Rattle.std.specs.Option.{option_map}
use Rattle.std.proofs.lemmas.Result.{err_from_is_err_and}
use Rattle.books.specs.Rights.{SessionClaim}
use Rattle.page_ops.proofs.Composing.{bring_then}
use Rattle.foster_tree.proofs.Made.{made_since}
use Rattle.rollback.specs.Owners.{MayRollBack}
use Rattle.rollback.specs.Rolls.{standing}
use Rattle.rollback.proofs.Composing.{rolls_looked}
use Rattle.rollback.proofs.Failing.{fails_then, none_then, plain_fails}
use Rattle.rollback.proofs.Over.{over_ended, over_of, over_undone}
use Rattle.rollback.proofs.Owning.{may_later}
use Rattle.rollback.proofs.rolling.roll_over.Goals as goal

pub loop-init : goal.loop-init
loop-init g c = (
  tt,
  tt,
  c.requires.none,
  made_since _ _ _ _ c.see_owner.ensures.seen.now.begins c.requires.made,
  subst (MayRollBack g.N.Life.opens c.see_owner.new.pass.log c.args.tx) (sym c.see_owner.ensures.same) (may_later g.N.Life.opens c.args.pass.now.log c.see_owner.new.pass.log c.args.tx c.args.owner.now c.see_owner.ensures.seen.now.begins c.requires.owner),
  ap (option_map (λ (s : SessionClaim). s.session)) c.see_owner.ensures.same,
  over_of g.N.Life.opens g.N.Life.entries g.N.Life.session_entries c.args.tx 0 (standing (g.P.Pages.desk c.args.pages.now) (g.J.Entering.account c.args.journal.now) c.args.pass.now) (standing (g.P.Pages.desk c.args.pages.now) (g.J.Entering.account c.see_owner.new.journal) c.see_owner.new.pass) (rolls_looked g.N.Life.opens g.N.Life.entries g.N.Life.session_entries c.args.tx (g.P.Pages.desk c.args.pages.now) (g.J.Entering.account c.args.journal.now) (g.J.Entering.account c.see_owner.new.journal) c.args.pass.now c.see_owner.new.pass _ _ c.see_owner.ensures.seen),
  c.see_owner.ensures.calm.end,
)

pub returns-in_err-undo_one-clause-gains : goal.returns-in_err-undo_one-clause-gains
returns-in_err-undo_one-clause-gains g c = (over_undone g.N.Life.opens g.N.Life.entries g.N.Life.session_entries c.args.tx _ (standing (g.P.Pages.desk c.args.pages.now) (g.J.Entering.account c.args.journal.now) c.args.pass.now) (standing (g.P.Pages.desk c.loop.pages) (g.J.Entering.account c.loop.journal) c.loop.pass) (standing (g.P.Pages.desk c.undo_one.new.pages) (g.J.Entering.account c.undo_one.new.journal) c.undo_one.new.pass) c.loop.invariant.6 c.undo_one.ensures.gains)

pub returns-in_err-undo_one-clause-refused : goal.returns-in_err-undo_one-clause-refused
returns-in_err-undo_one-clause-refused g c =
    let p = err_from_is_err_and c.from_residual.result c.from_residual.ensures.1 in
    rw (p.1, p.2) (bring_then g.N.Life.opens g.N.Life.log_faults g.N.Life.made (g.J.Entering.account c.args.journal.now) (g.J.Entering.account c.loop.journal) (g.J.Entering.account c.undo_one.new.journal) c.undo_one.new.pass.log c.loop.invariant.7 c.loop.invariant.6.gains.keeps (g.P.Pages.desk c.args.pages.now).faults (g.P.Pages.desk c.loop.pages).faults (g.P.Pages.desk c.undo_one.new.pages).faults _ c.loop.invariant.6.faults c.in_err-undo_one.ensures.refused)

pub returns-in-Nothing-clause-gains : goal.returns-in-Nothing-clause-gains
returns-in-Nothing-clause-gains g c = over_ended g.N.Life.opens g.N.Life.entries g.N.Life.session_entries c.args.tx (g.P.Pages.desk c.undo_one.new.pages) (g.J.Entering.account c.undo_one.new.journal) (g.J.Entering.account c.end.new.journal) c.undo_one.new.pass c.end.new.pass (standing (g.P.Pages.desk c.args.pages.now) (g.J.Entering.account c.args.journal.now) c.args.pass.now) c.end.result (over_undone g.N.Life.opens g.N.Life.entries g.N.Life.session_entries c.args.tx _ (standing (g.P.Pages.desk c.args.pages.now) (g.J.Entering.account c.args.journal.now) c.args.pass.now) (standing (g.P.Pages.desk c.loop.pages) (g.J.Entering.account c.loop.journal) c.loop.pass) (standing (g.P.Pages.desk c.undo_one.new.pages) (g.J.Entering.account c.undo_one.new.journal) c.undo_one.new.pass) c.loop.invariant.6 c.undo_one.ensures.gains) c.end.ensures.gains

pub returns-in-Nothing-clause-refused : goal.returns-in-Nothing-clause-refused
returns-in-Nothing-clause-refused g c =
    let over = (over_undone g.N.Life.opens g.N.Life.entries g.N.Life.session_entries c.args.tx _ (standing (g.P.Pages.desk c.args.pages.now) (g.J.Entering.account c.args.journal.now) c.args.pass.now) (standing (g.P.Pages.desk c.loop.pages) (g.J.Entering.account c.loop.journal) c.loop.pass) (standing (g.P.Pages.desk c.undo_one.new.pages) (g.J.Entering.account c.undo_one.new.journal) c.undo_one.new.pass) c.loop.invariant.6 c.undo_one.ensures.gains) in
    fails_then g.N.Life.opens g.N.Life.log_faults g.N.Life.made (g.J.Entering.account c.args.journal.now) (g.J.Entering.account c.undo_one.new.journal) (g.J.Entering.account c.end.new.journal) c.end.new.pass.log (none_then (g.J.Entering.account c.args.journal.now) (g.J.Entering.account c.loop.journal) (g.J.Entering.account c.undo_one.new.journal) c.loop.invariant.7 c.in_ok-undo_one.ensures.open) over.gains.keeps (g.P.Pages.desk c.args.pages.now).faults (g.P.Pages.desk c.undo_one.new.pages).faults (g.P.Pages.desk c.undo_one.new.pages).faults c.end.result over.faults (plain_fails g.N.Life.opens g.N.Life.log_faults g.N.Life.made (g.J.Entering.account c.undo_one.new.journal) (g.J.Entering.account c.end.new.journal) c.end.new.pass.log (g.P.Pages.desk c.undo_one.new.pages).faults c.end.result c.end.ensures.refused c.end.ensures.ends)

pub loop-preserved : goal.loop-preserved
loop-preserved g c = (
  tt,
  tt,
  c.undo_one.ensures.none,
  made_since _ _ _ _ (c.undo_one.ensures.gains.gains.gained, sym c.undo_one.ensures.gains.gains.is) c.loop.invariant.3,
  c.undo_one.ensures.owner,
  c.undo_one.ensures.holder ∙ c.loop.invariant.5,
  (over_undone g.N.Life.opens g.N.Life.entries g.N.Life.session_entries c.args.tx _ (standing (g.P.Pages.desk c.args.pages.now) (g.J.Entering.account c.args.journal.now) c.args.pass.now) (standing (g.P.Pages.desk c.loop.pages) (g.J.Entering.account c.loop.journal) c.loop.pass) (standing (g.P.Pages.desk c.undo_one.new.pages) (g.J.Entering.account c.undo_one.new.journal) c.undo_one.new.pass) c.loop.invariant.6 c.undo_one.ensures.gains),
  (none_then (g.J.Entering.account c.args.journal.now) (g.J.Entering.account c.loop.journal) (g.J.Entering.account c.undo_one.new.journal) c.loop.invariant.7 c.in_ok-undo_one.ensures.open),
)
