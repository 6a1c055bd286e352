use Rattle.std.proofs.Common.{sym, subst, Result}
use Rattle.std.proofs.lemmas.Result.{err_from_is_err_and}
use Rattle.store_model.specs.declared.fault.Fault.{Fault}
use Rattle.page_ops.specs.declared.outcome.Entered.{Entered}
use Rattle.page_ops.proofs.Composing.{bring_then}
use Rattle.foster_tree.proofs.Made.{made_upheld}
use Rattle.rollback.specs.Rolls.{Rolls, standing, undone_in}
use Rattle.rollback.proofs.Composing.{rolls_upheld}
use Rattle.rollback.proofs.Owning.{may_change, may_later}
use Rattle.rollback.proofs.Steps.{begins_before, begins_found, owner_here, refused_here, rolls_found, rolls_here, undone_here}
use Rattle.rollback.proofs.undoing.undo_write.Goals as goal

pub returns-in_err-reserve_new-clause-gains : goal.returns-in_err-reserve_new-clause-gains
returns-in_err-reserve_new-clause-gains g c =
    let p = err_from_is_err_and c.from_residual.result c.from_residual.ensures.1 in
    subst (λ (r : Result Entered Fault). Rolls g.N.Life.opens g.N.Life.entries g.N.Life.session_entries c.args.change.now.tx (undone_in r) (standing (g.P.Pages.desk c.args.pages.now) (g.J.Entering.account c.args.journal.now) c.args.pass.now) (standing (g.P.Pages.desk c.reserve_new.new.self) (g.J.Entering.account c.reserve_new.new.journal) c.reserve_new.new.pass)) (sym p.1)
    (rolls_upheld g.N.Life.opens g.N.Life.entries g.N.Life.session_entries c.args.change.now.tx (standing (g.P.Pages.desk c.args.pages.now) (g.J.Entering.account c.args.journal.now) c.args.pass.now) (standing (g.P.Pages.desk c.reserve_new.new.self) (g.J.Entering.account c.reserve_new.new.journal) c.reserve_new.new.pass) c.reserve_new.ensures.entered c.reserve_new.ensures.faults)

pub find_leaf-requires-clause-made : goal.find_leaf-requires-clause-made
find_leaf-requires-clause-made g c = made_upheld _ _ _ _ _ _ _ c.reserve_new.ensures.entered c.requires.made

pub returns-in_err-leaf-clause-gains : goal.returns-in_err-leaf-clause-gains
returns-in_err-leaf-clause-gains g c =
    let p = err_from_is_err_and c.from_residual-in_err-leaf.result c.from_residual-in_err-leaf.ensures.1 in
    subst (λ (r : Result Entered Fault). Rolls g.N.Life.opens g.N.Life.entries g.N.Life.session_entries c.args.change.now.tx (undone_in r) (standing (g.P.Pages.desk c.args.pages.now) (g.J.Entering.account c.args.journal.now) c.args.pass.now) (standing (g.P.Pages.desk c.find_leaf.new.pages) (g.J.Entering.account c.find_leaf.new.journal) c.find_leaf.new.pass)) (sym p.1)
    (rolls_found g.N.Life.opens g.N.Life.entries g.N.Life.session_entries g.N.Life.log_faults g.N.Life.made c.args.change.now (g.P.Pages.desk c.args.pages.now) (g.P.Pages.desk c.reserve_new.new.self) (g.P.Pages.desk c.find_leaf.new.pages) (g.P.Pages.desk c.find_leaf.new.pages) (g.P.Pages.desk c.find_leaf.new.pages) (g.J.Entering.account c.args.journal.now) (g.J.Entering.account c.reserve_new.new.journal) (g.J.Entering.account c.find_leaf.new.journal) (g.J.Entering.account c.find_leaf.new.journal) (g.J.Entering.account c.find_leaf.new.journal) c.args.pass.now c.reserve_new.new.pass c.find_leaf.new.pass c.find_leaf.new.pass c.find_leaf.new.pass c.reserve_new.ensures.entered c.reserve_new.ensures.faults c.find_leaf.ensures.entered c.find_leaf.ensures.desk.faults)

pub returns-in_err-leaf-clause-owner : goal.returns-in_err-leaf-clause-owner
returns-in_err-leaf-clause-owner g c = may_later g.N.Life.opens c.args.pass.now.log c.find_leaf.new.pass.log c.args.change.now.tx c.args.owner.now (begins_found g.N.Life.opens g.N.Life.entries g.N.Life.session_entries g.N.Life.log_faults g.N.Life.made c.args.change.now (g.P.Pages.desk c.args.pages.now) (g.P.Pages.desk c.reserve_new.new.self) (g.P.Pages.desk c.find_leaf.new.pages) (g.P.Pages.desk c.find_leaf.new.pages) (g.P.Pages.desk c.find_leaf.new.pages) (g.J.Entering.account c.args.journal.now) (g.J.Entering.account c.reserve_new.new.journal) (g.J.Entering.account c.find_leaf.new.journal) (g.J.Entering.account c.find_leaf.new.journal) (g.J.Entering.account c.find_leaf.new.journal) c.args.pass.now c.reserve_new.new.pass c.find_leaf.new.pass c.find_leaf.new.pass c.find_leaf.new.pass c.reserve_new.ensures.entered c.reserve_new.ensures.faults c.find_leaf.ensures.entered c.find_leaf.ensures.desk.faults) c.requires.owner

pub returns-in_err-leaf-clause-refused : goal.returns-in_err-leaf-clause-refused
returns-in_err-leaf-clause-refused g c =
    let p = err_from_is_err_and c.from_residual-in_err-leaf.result c.from_residual-in_err-leaf.ensures.1 in
    rw (p.1, p.2) (bring_then g.N.Life.opens g.N.Life.log_faults g.N.Life.made (g.J.Entering.account c.args.journal.now) (g.J.Entering.account c.reserve_new.new.journal) (g.J.Entering.account c.find_leaf.new.journal) c.find_leaf.new.pass.log c.in_ok-reserve_new.ensures.open c.reserve_new.ensures.entered.keeps (g.P.Pages.desk c.args.pages.now).faults (g.P.Pages.desk c.reserve_new.new.self).faults (g.P.Pages.desk c.find_leaf.new.pages).faults _ c.reserve_new.ensures.faults c.in_err-leaf.ensures.refused)

pub write_key-entered-requires-clause-may : goal.write_key-entered-requires-clause-may
write_key-entered-requires-clause-may g c =
    may_change g.N.Life.opens c.args.pass.now.log c.see_owner.new.pass.log c.args.owner.now c.see_owner.new.owner c.args.change.now c.in_ok-leaf.leaf.state c.see_owner.ensures.same
    (begins_before g.N.Life.opens g.N.Life.entries g.N.Life.session_entries g.N.Life.log_faults g.N.Life.made c.args.change.now (g.P.Pages.desk c.args.pages.now) (g.P.Pages.desk c.reserve_new.new.self) (g.P.Pages.desk c.find_leaf.new.pages) (g.P.Pages.desk c.find_leaf.new.pages) (g.P.Pages.desk c.find_leaf.new.pages) (g.J.Entering.account c.args.journal.now) (g.J.Entering.account c.reserve_new.new.journal) (g.J.Entering.account c.find_leaf.new.journal) (g.J.Entering.account c.see_owner.new.journal) (g.J.Entering.account c.see_owner.new.journal) c.args.pass.now c.reserve_new.new.pass c.find_leaf.new.pass c.see_owner.new.pass c.see_owner.new.pass c.reserve_new.ensures.entered c.reserve_new.ensures.faults c.find_leaf.ensures.entered c.find_leaf.ensures.desk.faults _ _ c.see_owner.ensures.seen) c.see_owner.ensures.seen.now.consistent c.see_owner.ensures.seen.now.rights.s c.requires.number c.requires.owner c.requires.last

pub returns-clause-undone : goal.returns-clause-undone
returns-clause-undone g c = undone_here g.N.Life.opens g.N.Life.entries g.N.Life.session_entries g.N.Life.log_faults g.N.Life.made c.args.change.now (g.P.Pages.desk c.args.pages.now) (g.P.Pages.desk c.reserve_new.new.self) (g.P.Pages.desk c.find_leaf.new.pages) (g.P.Pages.desk c.write_key-entered.new.pages) (g.P.Pages.desk c.put_back.new.self) (g.J.Entering.account c.args.journal.now) (g.J.Entering.account c.reserve_new.new.journal) (g.J.Entering.account c.find_leaf.new.journal) (g.J.Entering.account c.see_owner.new.journal) (g.J.Entering.account c.write_key-entered.new.journal) c.args.pass.now c.reserve_new.new.pass c.find_leaf.new.pass c.see_owner.new.pass c.write_key-entered.new.pass c.reserve_new.ensures.entered c.reserve_new.ensures.faults c.find_leaf.ensures.entered c.find_leaf.ensures.desk.faults _ _ c.see_owner.ensures.seen c.see_owner.new.owner _ _ _ c.in_ok-leaf.leaf c.write_key-entered.new.leaf c.write_key-entered.result c.requires.last c.write_key-entered.ensures.written c.write_key-entered.ensures.answer c.write_key-entered.ensures.desk c.put_back.ensures.out

pub returns-clause-gains : goal.returns-clause-gains
returns-clause-gains g c = rolls_here g.N.Life.opens g.N.Life.entries g.N.Life.session_entries g.N.Life.log_faults g.N.Life.made c.args.change.now (g.P.Pages.desk c.args.pages.now) (g.P.Pages.desk c.reserve_new.new.self) (g.P.Pages.desk c.find_leaf.new.pages) (g.P.Pages.desk c.write_key-entered.new.pages) (g.P.Pages.desk c.put_back.new.self) (g.J.Entering.account c.args.journal.now) (g.J.Entering.account c.reserve_new.new.journal) (g.J.Entering.account c.find_leaf.new.journal) (g.J.Entering.account c.see_owner.new.journal) (g.J.Entering.account c.write_key-entered.new.journal) c.args.pass.now c.reserve_new.new.pass c.find_leaf.new.pass c.see_owner.new.pass c.write_key-entered.new.pass c.reserve_new.ensures.entered c.reserve_new.ensures.faults c.find_leaf.ensures.entered c.find_leaf.ensures.desk.faults _ _ c.see_owner.ensures.seen c.see_owner.new.owner _ _ _ c.in_ok-leaf.leaf c.write_key-entered.new.leaf c.write_key-entered.result c.requires.last c.write_key-entered.ensures.written c.write_key-entered.ensures.answer c.write_key-entered.ensures.desk c.put_back.ensures.out

pub returns-clause-owner : goal.returns-clause-owner
returns-clause-owner g c =
    owner_here g.N.Life.opens g.N.Life.entries g.N.Life.session_entries g.N.Life.log_faults g.N.Life.made c.args.change.now (g.P.Pages.desk c.args.pages.now) (g.P.Pages.desk c.reserve_new.new.self) (g.P.Pages.desk c.find_leaf.new.pages) (g.P.Pages.desk c.write_key-entered.new.pages) (g.P.Pages.desk c.put_back.new.self) (g.J.Entering.account c.args.journal.now) (g.J.Entering.account c.reserve_new.new.journal) (g.J.Entering.account c.find_leaf.new.journal) (g.J.Entering.account c.see_owner.new.journal) (g.J.Entering.account c.write_key-entered.new.journal) c.args.pass.now c.reserve_new.new.pass c.find_leaf.new.pass c.see_owner.new.pass c.write_key-entered.new.pass c.reserve_new.ensures.entered c.reserve_new.ensures.faults c.find_leaf.ensures.entered c.find_leaf.ensures.desk.faults _ _ c.see_owner.ensures.seen c.see_owner.new.owner _ _ _ c.in_ok-leaf.leaf c.write_key-entered.new.leaf c.write_key-entered.result c.requires.last c.write_key-entered.ensures.written c.write_key-entered.ensures.answer c.write_key-entered.ensures.desk c.put_back.ensures.out
    c.args.owner.now c.write_key-entered.new.owner c.see_owner.ensures.same c.requires.number c.requires.owner c.write_key-entered.ensures.owner c.write_key-entered.ensures.agrees c.write_key-entered.ensures.full

pub returns-clause-refused : goal.returns-clause-refused
returns-clause-refused g c =
    refused_here g.N.Life.opens g.N.Life.entries g.N.Life.session_entries g.N.Life.log_faults g.N.Life.made c.args.change.now (g.P.Pages.desk c.args.pages.now) (g.P.Pages.desk c.reserve_new.new.self) (g.P.Pages.desk c.find_leaf.new.pages) (g.P.Pages.desk c.write_key-entered.new.pages) (g.P.Pages.desk c.put_back.new.self) (g.J.Entering.account c.args.journal.now) (g.J.Entering.account c.reserve_new.new.journal) (g.J.Entering.account c.find_leaf.new.journal) (g.J.Entering.account c.see_owner.new.journal) (g.J.Entering.account c.write_key-entered.new.journal) c.args.pass.now c.reserve_new.new.pass c.find_leaf.new.pass c.see_owner.new.pass c.write_key-entered.new.pass c.reserve_new.ensures.entered c.reserve_new.ensures.faults c.find_leaf.ensures.entered c.find_leaf.ensures.desk.faults _ _ c.see_owner.ensures.seen c.see_owner.new.owner _ _ _ c.in_ok-leaf.leaf c.write_key-entered.new.leaf c.write_key-entered.result c.requires.last c.write_key-entered.ensures.written c.write_key-entered.ensures.answer c.write_key-entered.ensures.desk c.put_back.ensures.out
    c.in_ok-reserve_new.ensures.open c.in_ok-leaf.ensures.open c.see_owner.ensures.calm.end c.write_key-entered.ensures.ends c.write_key-entered.ensures.full c.write_key-entered.ensures.refused
