use Rattle.std.proofs.Common.{◌≡◌, List, refl, subst}
use Rattle.std.specs.Prelude.{IfOk}
use Rattle.store_model.specs.declared.pair.Pair.{Pair}
use Rattle.store_model.specs.declared.reply.Reply.TheVariants as replies
use Rattle.store_model.specs.declared.request.Request.TheVariants as requests
use Rattle.foster_tree.specs.Scans.{Collects}
use Rattle.page_ops.specs.Causes.{NoOther}
use Rattle.rollback.specs.Rolls.{standing}
use Rattle.engine.specs.Requests.{lock_of}
use Rattle.engine.proofs.Behind.{live_kept, made_of}
use Rattle.engine.proofs.Failing.{ask_fault}
use Rattle.engine.proofs.Framed.{begins_seen, completes_all, lost, open_all, refused_all, tell_fails}
use Rattle.engine.proofs.KeptLocks.{may_say_scan, speaks_behind}
use Rattle.engine.proofs.Serving.{upkept_of}
use Rattle.engine.proofs.scanning.scan_locked.Goals as goal

pub scan_leafs-requires-clause-made : goal.scan_leafs-requires-clause-made
scan_leafs-requires-clause-made g c =
    made_of g.N.Life.opens c.args.pass.now.log (lock_of (requests.Scan c.args.range)) c.args.owner.now c.requires.locked

pub returns-in-Err-clause-answers : goal.returns-in-Err-clause-answers
returns-in-Err-clause-answers g c =
    lost g.N.Life.opens g.N.Life.entries g.N.Life.session_entries g.N.Life.log_faults g.N.Life.made (requests.Scan c.args.range) (lock_of (requests.Scan c.args.range)) c.args.pass.now.log c.args.owner.now c.requires.locked (g.P.Pages.desk c.args.pages.now) (g.P.Pages.desk c.scan_leafs.new.pages) (g.J.Entering.account c.args.journal.now) (g.J.Entering.account c.scan_leafs.new.journal) c.args.pass.now c.scan_leafs.new.pass (upkept_of g.N.Life.opens g.N.Life.entries g.N.Life.session_entries (standing (g.P.Pages.desk c.args.pages.now) (g.J.Entering.account c.args.journal.now) c.args.pass.now) (standing (g.P.Pages.desk c.scan_leafs.new.pages) (g.J.Entering.account c.scan_leafs.new.journal) c.scan_leafs.new.pass) c.scan_leafs.ensures.entered c.scan_leafs.ensures.desk.faults) c.in-Err.fault c.in-Err.ensures.refused

pub returns-in-Err-clause-live : goal.returns-in-Err-clause-live
returns-in-Err-clause-live g c =
    live_kept g.N.Life.opens c.args.pass.now.log c.scan_leafs.new.pass.log (lock_of (requests.Scan c.args.range)) c.args.owner.now c.args.owner.now c.requires.locked c.scan_leafs.ensures.begins refl

pub returns-in-Err-clause-refused : goal.returns-in-Err-clause-refused
returns-in-Err-clause-refused g c =
    ask_fault NoOther g.N.Life.opens g.N.Life.log_faults g.N.Life.made _ _ _ _ c.scan_leafs.new.pass.log c.in-Err.fault c.in-Err.ensures.refused

pub tell-answered-requires-clause-owner : goal.tell-answered-requires-clause-owner
tell-answered-requires-clause-owner g c =
    speaks_behind g.N.Life.opens c.args.pass.now.log c.see_owner.new.pass.log (lock_of (requests.Scan c.args.range)) c.args.owner.now c.see_owner.new.owner c.requires.locked c.see_owner.ensures.same (begins_seen g.N.Life.opens g.N.Life.entries g.N.Life.session_entries g.N.Life.log_faults g.N.Life.made (requests.Scan c.args.range) (lock_of (requests.Scan c.args.range)) c.args.pass.now.log c.args.owner.now c.requires.locked (g.P.Pages.desk c.args.pages.now) (g.P.Pages.desk c.scan_leafs.new.pages) (g.J.Entering.account c.args.journal.now) (g.J.Entering.account c.scan_leafs.new.journal) c.args.pass.now c.scan_leafs.new.pass (upkept_of g.N.Life.opens g.N.Life.entries g.N.Life.session_entries (standing (g.P.Pages.desk c.args.pages.now) (g.J.Entering.account c.args.journal.now) c.args.pass.now) (standing (g.P.Pages.desk c.scan_leafs.new.pages) (g.J.Entering.account c.scan_leafs.new.journal) c.scan_leafs.new.pass) c.scan_leafs.ensures.entered c.scan_leafs.ensures.desk.faults) (g.J.Entering.account c.see_owner.new.journal) c.see_owner.new.pass _ _ c.see_owner.ensures.seen) c.see_owner.ensures.seen.now.consistent c.see_owner.ensures.seen.now.rights.s

pub tell-answered-requires-clause-may : goal.tell-answered-requires-clause-may
tell-answered-requires-clause-may g c =
    may_say_scan g.N.Life.opens c.args.pass.now.log c.scan_leafs.new.pass.log c.see_owner.new.pass.log c.args.range c.scan_leafs.new.out.items c.args.owner.now c.see_owner.new.owner c.in-Ok.leaf _ c.again-told.result c.requires.locked c.see_owner.ensures.same c.scan_leafs.ensures.begins c.see_owner.ensures.seen.now.begins c.see_owner.ensures.seen.now.consistent c.see_owner.ensures.seen.now.rights.s c.leaf.view_is c.leaf.invariant c.in-Ok.ensures.now c.in-Ok.ensures.last (subst (λ (ps : List Pair). Collects g.N.Life.opens c.args.pass.now.log c.scan_leafs.new.pass.log c.args.range c.args.range ps c.scan_leafs.new.out.items) c.new-pairs.ensures.items c.in-Ok.ensures.pairs) (subst (λ (ps : List Pair). IfOk c.again-told.result (λ r. r ≡ replies.Pairs ps)) c.deref.ensures.value c.again-told.ensures)

pub returns-clause-answers : goal.returns-clause-answers
returns-clause-answers g c =
    completes_all g.N.Life.opens g.N.Life.entries g.N.Life.session_entries g.N.Life.log_faults g.N.Life.made (requests.Scan c.args.range) (lock_of (requests.Scan c.args.range)) c.args.pass.now.log c.args.owner.now c.requires.locked (g.P.Pages.desk c.args.pages.now) (g.P.Pages.desk c.scan_leafs.new.pages) (g.J.Entering.account c.args.journal.now) (g.J.Entering.account c.scan_leafs.new.journal) c.args.pass.now c.scan_leafs.new.pass (upkept_of g.N.Life.opens g.N.Life.entries g.N.Life.session_entries (standing (g.P.Pages.desk c.args.pages.now) (g.J.Entering.account c.args.journal.now) c.args.pass.now) (standing (g.P.Pages.desk c.scan_leafs.new.pages) (g.J.Entering.account c.scan_leafs.new.journal) c.scan_leafs.new.pass) c.scan_leafs.ensures.entered c.scan_leafs.ensures.desk.faults) (g.J.Entering.account c.see_owner.new.journal) c.see_owner.new.pass _ _ c.see_owner.ensures.seen c.see_owner.new.owner c.see_owner.ensures.same c.tell-answered.result (g.P.Pages.desk c.scan_leafs.new.pages) (g.P.Pages.desk c.put_back.new.self) (g.J.Entering.account c.tell-answered.new.journal) c.tell-answered.new.pass c.put_back.ensures.out (c.tell-answered.ensures.answers (g.P.Pages.desk c.scan_leafs.new.pages))

pub returns-clause-open : goal.returns-clause-open
returns-clause-open g c =
    open_all g.N.Life.opens g.N.Life.entries g.N.Life.session_entries g.N.Life.log_faults g.N.Life.made (requests.Scan c.args.range) (lock_of (requests.Scan c.args.range)) c.args.pass.now.log c.args.owner.now c.requires.locked (g.P.Pages.desk c.args.pages.now) (g.P.Pages.desk c.scan_leafs.new.pages) (g.J.Entering.account c.args.journal.now) (g.J.Entering.account c.scan_leafs.new.journal) c.args.pass.now c.scan_leafs.new.pass (upkept_of g.N.Life.opens g.N.Life.entries g.N.Life.session_entries (standing (g.P.Pages.desk c.args.pages.now) (g.J.Entering.account c.args.journal.now) c.args.pass.now) (standing (g.P.Pages.desk c.scan_leafs.new.pages) (g.J.Entering.account c.scan_leafs.new.journal) c.scan_leafs.new.pass) c.scan_leafs.ensures.entered c.scan_leafs.ensures.desk.faults) (g.J.Entering.account c.see_owner.new.journal) c.see_owner.new.pass _ _ c.see_owner.ensures.seen c.see_owner.new.owner c.see_owner.ensures.same c.tell-answered.result (g.P.Pages.desk c.scan_leafs.new.pages) (g.P.Pages.desk c.put_back.new.self) (g.J.Entering.account c.tell-answered.new.journal) c.tell-answered.new.pass c.put_back.ensures.out c.in-Ok.ensures.open c.see_owner.ensures.calm.end c.tell-answered.ensures.open

pub returns-clause-refused : goal.returns-clause-refused
returns-clause-refused g c =
    refused_all g.N.Life.opens g.N.Life.entries g.N.Life.session_entries g.N.Life.log_faults g.N.Life.made (requests.Scan c.args.range) (lock_of (requests.Scan c.args.range)) c.args.pass.now.log c.args.owner.now c.requires.locked (g.P.Pages.desk c.args.pages.now) (g.P.Pages.desk c.scan_leafs.new.pages) (g.J.Entering.account c.args.journal.now) (g.J.Entering.account c.scan_leafs.new.journal) c.args.pass.now c.scan_leafs.new.pass (upkept_of g.N.Life.opens g.N.Life.entries g.N.Life.session_entries (standing (g.P.Pages.desk c.args.pages.now) (g.J.Entering.account c.args.journal.now) c.args.pass.now) (standing (g.P.Pages.desk c.scan_leafs.new.pages) (g.J.Entering.account c.scan_leafs.new.journal) c.scan_leafs.new.pass) c.scan_leafs.ensures.entered c.scan_leafs.ensures.desk.faults) (g.J.Entering.account c.see_owner.new.journal) c.see_owner.new.pass _ _ c.see_owner.ensures.seen c.see_owner.new.owner c.see_owner.ensures.same c.tell-answered.result (g.P.Pages.desk c.scan_leafs.new.pages) (g.P.Pages.desk c.put_back.new.self) (g.J.Entering.account c.tell-answered.new.journal) c.tell-answered.new.pass c.put_back.ensures.out c.in-Ok.ensures.open c.see_owner.ensures.calm.end NoOther (tell_fails NoOther g.N.Life.opens g.N.Life.log_faults g.N.Life.made _ _ _ _ c.tell-answered.result c.tell-answered.ensures.refused c.tell-answered.ensures.ends)
