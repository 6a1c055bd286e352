use Rattle.std.proofs.Common.{refl}
use Rattle.front.proofs.Keeping.{prefix_trans}
use Rattle.rollback.specs.Rolls.{standing}
use Rattle.store_model.specs.declared.request.Request.TheVariants as requests
use Rattle.engine.specs.Applies.{OrDeclined}
use Rattle.engine.specs.Writes.{write_lock}
use Rattle.engine.proofs.Behind.{live_kept, made_of}
use Rattle.engine.proofs.Failing.{ask_fault}
use Rattle.engine.proofs.Framed.{begins_seen, completes_all, lost, not_full, open_all, refused_all}
use Rattle.engine.proofs.KeptLocks.{may_write}
use Rattle.engine.proofs.Declined.{brought_gives}
use Rattle.engine.proofs.Refusing.{read_by}
use Rattle.engine.proofs.Tidied.{upkept_kept}
use Rattle.engine.proofs.applying.apply_found.Goals as goal

pub find_leaf_for_write-requires-clause-made : goal.find_leaf_for_write-requires-clause-made
find_leaf_for_write-requires-clause-made g c =
    made_of g.N.Life.opens c.args.pass.now.log (write_lock c.args.key.now) c.args.owner.now c.requires.locked

pub returns-in-Err-clause-answers : goal.returns-in-Err-clause-answers
returns-in-Err-clause-answers g c =
    lost g.N.Life.opens g.N.Life.entries g.N.Life.session_entries g.N.Life.log_faults g.N.Life.made (requests.Apply c.args.operator c.args.key.now c.args.argument) (write_lock c.args.key.now) c.args.pass.now.log c.args.owner.now c.requires.locked (g.P.Pages.desk c.args.pages.now) (g.P.Pages.desk c.find_leaf_for_write.new.pages) (g.J.Entering.account c.args.journal.now) (g.J.Entering.account c.find_leaf_for_write.new.journal) c.args.pass.now c.find_leaf_for_write.new.pass (upkept_kept g.N.Life.opens g.N.Life.entries g.N.Life.session_entries (standing (g.P.Pages.desk c.args.pages.now) (g.J.Entering.account c.args.journal.now) c.args.pass.now) (standing (g.P.Pages.desk c.find_leaf_for_write.new.pages) (g.J.Entering.account c.find_leaf_for_write.new.journal) c.find_leaf_for_write.new.pass) c.find_leaf_for_write.ensures.entered c.find_leaf_for_write.ensures.faults) c.in-Err.fault c.in-Err.ensures.refused

pub returns-in-Err-clause-live : goal.returns-in-Err-clause-live
returns-in-Err-clause-live g c =
    live_kept g.N.Life.opens c.args.pass.now.log c.find_leaf_for_write.new.pass.log (write_lock c.args.key.now) c.args.owner.now c.args.owner.now c.requires.locked c.find_leaf_for_write.ensures.begins refl

pub returns-in-Err-clause-full : goal.returns-in-Err-clause-full
returns-in-Err-clause-full g c =
    not_full g.N.Life.opens g.N.Life.log_faults g.N.Life.made _ _ _ _ c.find_leaf_for_write.new.pass.log c.in-Err.fault c.in-Err.ensures.refused

pub returns-in-Err-clause-refused : goal.returns-in-Err-clause-refused
returns-in-Err-clause-refused g c =
    ask_fault OrDeclined g.N.Life.opens g.N.Life.log_faults g.N.Life.made _ _ _ _ c.find_leaf_for_write.new.pass.log c.in-Err.fault c.in-Err.ensures.refused

pub apply_on-answered-requires-clause-begins : goal.apply_on-answered-requires-clause-begins
apply_on-answered-requires-clause-begins g c =
    prefix_trans _ _ _ c.in-Ok.ensures.now.begins c.see_owner.ensures.seen.now.begins

pub apply_on-answered-requires-clause-owner : goal.apply_on-answered-requires-clause-owner
apply_on-answered-requires-clause-owner g c =
    may_write g.N.Life.opens c.args.pass.now.log c.see_owner.new.pass.log c.args.key.now c.args.owner.now c.see_owner.new.owner c.requires.locked c.requires.number c.see_owner.ensures.same (begins_seen g.N.Life.opens g.N.Life.entries g.N.Life.session_entries g.N.Life.log_faults g.N.Life.made (requests.Apply c.args.operator c.args.key.now c.args.argument) (write_lock c.args.key.now) c.args.pass.now.log c.args.owner.now c.requires.locked (g.P.Pages.desk c.args.pages.now) (g.P.Pages.desk c.find_leaf_for_write.new.pages) (g.J.Entering.account c.args.journal.now) (g.J.Entering.account c.find_leaf_for_write.new.journal) c.args.pass.now c.find_leaf_for_write.new.pass (upkept_kept g.N.Life.opens g.N.Life.entries g.N.Life.session_entries (standing (g.P.Pages.desk c.args.pages.now) (g.J.Entering.account c.args.journal.now) c.args.pass.now) (standing (g.P.Pages.desk c.find_leaf_for_write.new.pages) (g.J.Entering.account c.find_leaf_for_write.new.journal) c.find_leaf_for_write.new.pass) c.find_leaf_for_write.ensures.entered c.find_leaf_for_write.ensures.faults) (g.J.Entering.account c.see_owner.new.journal) c.see_owner.new.pass _ _ c.see_owner.ensures.seen) c.see_owner.ensures.seen.now.consistent c.see_owner.ensures.seen.now.rights.s

pub returns-clause-answers : goal.returns-clause-answers
returns-clause-answers g c =
    completes_all g.N.Life.opens g.N.Life.entries g.N.Life.session_entries g.N.Life.log_faults g.N.Life.made (requests.Apply c.args.operator c.args.key.now c.args.argument) (write_lock c.args.key.now) c.args.pass.now.log c.args.owner.now c.requires.locked (g.P.Pages.desk c.args.pages.now) (g.P.Pages.desk c.find_leaf_for_write.new.pages) (g.J.Entering.account c.args.journal.now) (g.J.Entering.account c.find_leaf_for_write.new.journal) c.args.pass.now c.find_leaf_for_write.new.pass (upkept_kept g.N.Life.opens g.N.Life.entries g.N.Life.session_entries (standing (g.P.Pages.desk c.args.pages.now) (g.J.Entering.account c.args.journal.now) c.args.pass.now) (standing (g.P.Pages.desk c.find_leaf_for_write.new.pages) (g.J.Entering.account c.find_leaf_for_write.new.journal) c.find_leaf_for_write.new.pass) c.find_leaf_for_write.ensures.entered c.find_leaf_for_write.ensures.faults) (g.J.Entering.account c.see_owner.new.journal) c.see_owner.new.pass _ _ c.see_owner.ensures.seen c.see_owner.new.owner c.see_owner.ensures.same c.apply_on-answered.result (g.P.Pages.desk c.apply_on-answered.new.pages) (g.P.Pages.desk c.put_back.new.self) (g.J.Entering.account c.apply_on-answered.new.journal) c.apply_on-answered.new.pass c.put_back.ensures.out c.apply_on-answered.ensures.answers

pub returns-clause-open : goal.returns-clause-open
returns-clause-open g c =
    open_all g.N.Life.opens g.N.Life.entries g.N.Life.session_entries g.N.Life.log_faults g.N.Life.made (requests.Apply c.args.operator c.args.key.now c.args.argument) (write_lock c.args.key.now) c.args.pass.now.log c.args.owner.now c.requires.locked (g.P.Pages.desk c.args.pages.now) (g.P.Pages.desk c.find_leaf_for_write.new.pages) (g.J.Entering.account c.args.journal.now) (g.J.Entering.account c.find_leaf_for_write.new.journal) c.args.pass.now c.find_leaf_for_write.new.pass (upkept_kept g.N.Life.opens g.N.Life.entries g.N.Life.session_entries (standing (g.P.Pages.desk c.args.pages.now) (g.J.Entering.account c.args.journal.now) c.args.pass.now) (standing (g.P.Pages.desk c.find_leaf_for_write.new.pages) (g.J.Entering.account c.find_leaf_for_write.new.journal) c.find_leaf_for_write.new.pass) c.find_leaf_for_write.ensures.entered c.find_leaf_for_write.ensures.faults) (g.J.Entering.account c.see_owner.new.journal) c.see_owner.new.pass _ _ c.see_owner.ensures.seen c.see_owner.new.owner c.see_owner.ensures.same c.apply_on-answered.result (g.P.Pages.desk c.apply_on-answered.new.pages) (g.P.Pages.desk c.put_back.new.self) (g.J.Entering.account c.apply_on-answered.new.journal) c.apply_on-answered.new.pass c.put_back.ensures.out c.in-Ok.ensures.open c.see_owner.ensures.calm.end c.apply_on-answered.ensures.open

pub returns-clause-refused : goal.returns-clause-refused
returns-clause-refused g c =
    refused_all g.N.Life.opens g.N.Life.entries g.N.Life.session_entries g.N.Life.log_faults g.N.Life.made (requests.Apply c.args.operator c.args.key.now c.args.argument) (write_lock c.args.key.now) c.args.pass.now.log c.args.owner.now c.requires.locked (g.P.Pages.desk c.args.pages.now) (g.P.Pages.desk c.find_leaf_for_write.new.pages) (g.J.Entering.account c.args.journal.now) (g.J.Entering.account c.find_leaf_for_write.new.journal) c.args.pass.now c.find_leaf_for_write.new.pass (upkept_kept g.N.Life.opens g.N.Life.entries g.N.Life.session_entries (standing (g.P.Pages.desk c.args.pages.now) (g.J.Entering.account c.args.journal.now) c.args.pass.now) (standing (g.P.Pages.desk c.find_leaf_for_write.new.pages) (g.J.Entering.account c.find_leaf_for_write.new.journal) c.find_leaf_for_write.new.pass) c.find_leaf_for_write.ensures.entered c.find_leaf_for_write.ensures.faults) (g.J.Entering.account c.see_owner.new.journal) c.see_owner.new.pass _ _ c.see_owner.ensures.seen c.see_owner.new.owner c.see_owner.ensures.same c.apply_on-answered.result (g.P.Pages.desk c.apply_on-answered.new.pages) (g.P.Pages.desk c.put_back.new.self) (g.J.Entering.account c.apply_on-answered.new.journal) c.apply_on-answered.new.pass c.put_back.ensures.out c.in-Ok.ensures.open c.see_owner.ensures.calm.end OrDeclined c.apply_on-answered.ensures.refused

pub apply_on-answered-requires-clause-read : goal.apply_on-answered-requires-clause-read
apply_on-answered-requires-clause-read g c =
    read_by g.N.Life.opens c.args.pass.now.log c.find_leaf_for_write.new.pass.log c.see_owner.new.pass.log c.args.key.now c.args.owner.now c.see_owner.new.owner c.in-Ok.leaf c.requires.locked c.see_owner.ensures.same c.find_leaf_for_write.ensures.begins c.see_owner.ensures.seen.now.begins c.find_leaf_for_write.ensures.entered.consistent c.in-Ok.ensures.now

pub returns-in-Err-clause-gives_none : goal.returns-in-Err-clause-gives_none
returns-in-Err-clause-gives_none g c =
    brought_gives g.N.Life.opens g.N.Life.log_faults g.N.Life.made _ _ _ _ (requests.Apply c.args.operator c.args.key.now c.args.argument) c.find_leaf_for_write.new.pass.log c.in-Err.fault c.in-Err.ensures.refused
