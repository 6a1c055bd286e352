use Rattle.std.proofs.Common.{ap, subst, ◌∙◌, Option, IfSome, sym}
use Rattle.std.proofs.lemmas.Result.{err_from_is_err_and}
use Rattle.page_ops.specs.Gains.{IsSettled}
use Rattle.page_ops.specs.Hands.{Hand}
use Rattle.page_ops.proofs.Gaining.{upheld_by}
use Rattle.foster_tree.specs.Nows.{pages_in}
use Rattle.foster_tree.proofs.Made.{made_since, made_upheld}
use Rattle.adoption.specs.Descents.{LeavesTidy, keeps_up, known_by, standing}
use Rattle.adoption.proofs.ByFound.{if_err}
use Rattle.adoption.proofs.Composing.{fails_goes, fails_then, fails_upheld, on_begins, on_of, on_self, on_then, on_upheld, reserve_fails}
use Rattle.adoption.proofs.TidyDescents.{leaves_behind}
use Rattle.adoption.proofs.descending.find_leaf_for_write.Goals as goal

pub loop-init : goal.loop-init
loop-init g c = (tt, tt, c.requires.none, c.requires.made, on_self _)

pub take-requires-clause-none : goal.take-requires-clause-none
take-requires-clause-none g c = c.reserve_new.ensures.out ∙ c.loop.invariant.2

pub take-requires-clause-made : goal.take-requires-clause-made
take-requires-clause-made g c = made_upheld _ _ _ _ _ _ _ c.reserve_new.ensures.entered c.loop.invariant.3

pub descend-requires-clause-reserved : goal.descend-requires-clause-reserved
descend-requires-clause-reserved g c = c.take.ensures.desk.reserves ∙ c.in_ok-reserve_new.ensures.reserved

pub loop-preserved : goal.loop-preserved
loop-preserved g c =
    let all = on_then (standing (g.P.Pages.desk c.args.pages.now) (g.J.Entering.account c.args.journal.now) c.args.pass.now) (standing (g.P.Pages.desk c.take.new.pages) (g.J.Entering.account c.take.new.journal) c.take.new.pass) (standing (g.P.Pages.desk c.descend.new.pages) (g.J.Entering.account c.descend.new.journal) c.descend.new.pass) (on_then (standing (g.P.Pages.desk c.args.pages.now) (g.J.Entering.account c.args.journal.now) c.args.pass.now) (standing (g.P.Pages.desk c.reserve_new.new.self) (g.J.Entering.account c.reserve_new.new.journal) c.reserve_new.new.pass) (standing (g.P.Pages.desk c.take.new.pages) (g.J.Entering.account c.take.new.journal) c.take.new.pass) (on_then (standing (g.P.Pages.desk c.args.pages.now) (g.J.Entering.account c.args.journal.now) c.args.pass.now) (standing (g.P.Pages.desk c.loop.pages) (g.J.Entering.account c.loop.journal) c.loop.pass) (standing (g.P.Pages.desk c.reserve_new.new.self) (g.J.Entering.account c.reserve_new.new.journal) c.reserve_new.new.pass) c.loop.invariant.4 (on_upheld g.N.Life.opens g.N.Life.entries g.N.Life.session_entries (standing (g.P.Pages.desk c.loop.pages) (g.J.Entering.account c.loop.journal) c.loop.pass) (standing (g.P.Pages.desk c.reserve_new.new.self) (g.J.Entering.account c.reserve_new.new.journal) c.reserve_new.new.pass) c.reserve_new.ensures.entered c.in_ok-reserve_new.ensures.open c.reserve_new.ensures.faults)) (on_of (standing (g.P.Pages.desk c.reserve_new.new.self) (g.J.Entering.account c.reserve_new.new.journal) c.reserve_new.new.pass) (standing (g.P.Pages.desk c.take.new.pages) (g.J.Entering.account c.take.new.journal) c.take.new.pass) c.take.ensures.goes c.in_ok-root.ensures.open c.take.ensures.desk.faults)) c.in_ok-leaf.ensures.goes in
    let begins = on_begins _ _ (on_then (standing (g.P.Pages.desk c.loop.pages) (g.J.Entering.account c.loop.journal) c.loop.pass) (standing (g.P.Pages.desk c.take.new.pages) (g.J.Entering.account c.take.new.journal) c.take.new.pass) (standing (g.P.Pages.desk c.descend.new.pages) (g.J.Entering.account c.descend.new.journal) c.descend.new.pass) (on_then (standing (g.P.Pages.desk c.loop.pages) (g.J.Entering.account c.loop.journal) c.loop.pass) (standing (g.P.Pages.desk c.reserve_new.new.self) (g.J.Entering.account c.reserve_new.new.journal) c.reserve_new.new.pass) (standing (g.P.Pages.desk c.take.new.pages) (g.J.Entering.account c.take.new.journal) c.take.new.pass) (on_upheld g.N.Life.opens g.N.Life.entries g.N.Life.session_entries (standing (g.P.Pages.desk c.loop.pages) (g.J.Entering.account c.loop.journal) c.loop.pass) (standing (g.P.Pages.desk c.reserve_new.new.self) (g.J.Entering.account c.reserve_new.new.journal) c.reserve_new.new.pass) c.reserve_new.ensures.entered c.in_ok-reserve_new.ensures.open c.reserve_new.ensures.faults) (on_of (standing (g.P.Pages.desk c.reserve_new.new.self) (g.J.Entering.account c.reserve_new.new.journal) c.reserve_new.new.pass) (standing (g.P.Pages.desk c.take.new.pages) (g.J.Entering.account c.take.new.journal) c.take.new.pass) c.take.ensures.goes c.in_ok-root.ensures.open c.take.ensures.desk.faults)) c.in_ok-leaf.ensures.goes) in
    (tt, tt, c.in_ok-leaf.ensures.taken ∙ ap pages_in c.in_default.is, made_since _ _ _ _ begins c.loop.invariant.3, all)

pub returns-in_err-reserve_new-clause-none : goal.returns-in_err-reserve_new-clause-none
returns-in_err-reserve_new-clause-none g c =
    let fails = fails_then g.N.Life.opens g.N.Life.entries g.N.Life.session_entries g.N.Life.log_faults g.N.Life.made (standing (g.P.Pages.desk c.args.pages.now) (g.J.Entering.account c.args.journal.now) c.args.pass.now) (standing (g.P.Pages.desk c.loop.pages) (g.J.Entering.account c.loop.journal) c.loop.pass) (standing (g.P.Pages.desk c.reserve_new.new.self) (g.J.Entering.account c.reserve_new.new.journal) c.reserve_new.new.pass) _ c.loop.invariant.4 (fails_upheld g.N.Life.opens g.N.Life.entries g.N.Life.session_entries g.N.Life.log_faults g.N.Life.made (standing (g.P.Pages.desk c.loop.pages) (g.J.Entering.account c.loop.journal) c.loop.pass) (standing (g.P.Pages.desk c.reserve_new.new.self) (g.J.Entering.account c.reserve_new.new.journal) c.reserve_new.new.pass) _ c.reserve_new.ensures.entered (reserve_fails _ _ _ _ _ _ _ _ _ c.in_err-reserve_new.ensures.refused) c.reserve_new.ensures.faults (c.reserve_new.ensures.out ∙ c.loop.invariant.2)) in
    if_err _ _ fails.out

pub returns-in_err-reserve_new-clause-faults : goal.returns-in_err-reserve_new-clause-faults
returns-in_err-reserve_new-clause-faults g c =
    let fails = fails_then g.N.Life.opens g.N.Life.entries g.N.Life.session_entries g.N.Life.log_faults g.N.Life.made (standing (g.P.Pages.desk c.args.pages.now) (g.J.Entering.account c.args.journal.now) c.args.pass.now) (standing (g.P.Pages.desk c.loop.pages) (g.J.Entering.account c.loop.journal) c.loop.pass) (standing (g.P.Pages.desk c.reserve_new.new.self) (g.J.Entering.account c.reserve_new.new.journal) c.reserve_new.new.pass) _ c.loop.invariant.4 (fails_upheld g.N.Life.opens g.N.Life.entries g.N.Life.session_entries g.N.Life.log_faults g.N.Life.made (standing (g.P.Pages.desk c.loop.pages) (g.J.Entering.account c.loop.journal) c.loop.pass) (standing (g.P.Pages.desk c.reserve_new.new.self) (g.J.Entering.account c.reserve_new.new.journal) c.reserve_new.new.pass) _ c.reserve_new.ensures.entered (reserve_fails _ _ _ _ _ _ _ _ _ c.in_err-reserve_new.ensures.refused) c.reserve_new.ensures.faults (c.reserve_new.ensures.out ∙ c.loop.invariant.2)) in
    fails.faults

pub returns-in_err-reserve_new-clause-begins : goal.returns-in_err-reserve_new-clause-begins
returns-in_err-reserve_new-clause-begins g c =
    let fails = fails_then g.N.Life.opens g.N.Life.entries g.N.Life.session_entries g.N.Life.log_faults g.N.Life.made (standing (g.P.Pages.desk c.args.pages.now) (g.J.Entering.account c.args.journal.now) c.args.pass.now) (standing (g.P.Pages.desk c.loop.pages) (g.J.Entering.account c.loop.journal) c.loop.pass) (standing (g.P.Pages.desk c.reserve_new.new.self) (g.J.Entering.account c.reserve_new.new.journal) c.reserve_new.new.pass) _ c.loop.invariant.4 (fails_upheld g.N.Life.opens g.N.Life.entries g.N.Life.session_entries g.N.Life.log_faults g.N.Life.made (standing (g.P.Pages.desk c.loop.pages) (g.J.Entering.account c.loop.journal) c.loop.pass) (standing (g.P.Pages.desk c.reserve_new.new.self) (g.J.Entering.account c.reserve_new.new.journal) c.reserve_new.new.pass) _ c.reserve_new.ensures.entered (reserve_fails _ _ _ _ _ _ _ _ _ c.in_err-reserve_new.ensures.refused) c.reserve_new.ensures.faults (c.reserve_new.ensures.out ∙ c.loop.invariant.2)) in
    (fails.goes.gained, sym fails.goes.is)

pub returns-in_err-reserve_new-clause-entered : goal.returns-in_err-reserve_new-clause-entered
returns-in_err-reserve_new-clause-entered g c =
    let fails = fails_then g.N.Life.opens g.N.Life.entries g.N.Life.session_entries g.N.Life.log_faults g.N.Life.made (standing (g.P.Pages.desk c.args.pages.now) (g.J.Entering.account c.args.journal.now) c.args.pass.now) (standing (g.P.Pages.desk c.loop.pages) (g.J.Entering.account c.loop.journal) c.loop.pass) (standing (g.P.Pages.desk c.reserve_new.new.self) (g.J.Entering.account c.reserve_new.new.journal) c.reserve_new.new.pass) _ c.loop.invariant.4 (fails_upheld g.N.Life.opens g.N.Life.entries g.N.Life.session_entries g.N.Life.log_faults g.N.Life.made (standing (g.P.Pages.desk c.loop.pages) (g.J.Entering.account c.loop.journal) c.loop.pass) (standing (g.P.Pages.desk c.reserve_new.new.self) (g.J.Entering.account c.reserve_new.new.journal) c.reserve_new.new.pass) _ c.reserve_new.ensures.entered (reserve_fails _ _ _ _ _ _ _ _ _ c.in_err-reserve_new.ensures.refused) c.reserve_new.ensures.faults (c.reserve_new.ensures.out ∙ c.loop.invariant.2)) in
    upheld_by keeps_up g.N.Life.opens g.N.Life.entries g.N.Life.session_entries (known_by (standing (g.P.Pages.desk c.args.pages.now) (g.J.Entering.account c.args.journal.now) c.args.pass.now)) _ fails.goes fails.settled

pub returns-in_err-reserve_new-clause-refused : goal.returns-in_err-reserve_new-clause-refused
returns-in_err-reserve_new-clause-refused g c =
    let p = err_from_is_err_and c.from_residual.result c.from_residual.ensures.1 in
    let fails = fails_then g.N.Life.opens g.N.Life.entries g.N.Life.session_entries g.N.Life.log_faults g.N.Life.made (standing (g.P.Pages.desk c.args.pages.now) (g.J.Entering.account c.args.journal.now) c.args.pass.now) (standing (g.P.Pages.desk c.loop.pages) (g.J.Entering.account c.loop.journal) c.loop.pass) (standing (g.P.Pages.desk c.reserve_new.new.self) (g.J.Entering.account c.reserve_new.new.journal) c.reserve_new.new.pass) _ c.loop.invariant.4 (fails_upheld g.N.Life.opens g.N.Life.entries g.N.Life.session_entries g.N.Life.log_faults g.N.Life.made (standing (g.P.Pages.desk c.loop.pages) (g.J.Entering.account c.loop.journal) c.loop.pass) (standing (g.P.Pages.desk c.reserve_new.new.self) (g.J.Entering.account c.reserve_new.new.journal) c.reserve_new.new.pass) _ c.reserve_new.ensures.entered (reserve_fails _ _ _ _ _ _ _ _ _ c.in_err-reserve_new.ensures.refused) c.reserve_new.ensures.faults (c.reserve_new.ensures.out ∙ c.loop.invariant.2)) in
    rw (p.1, p.2) fails.why

pub returns-in_err-root-clause-none : goal.returns-in_err-root-clause-none
returns-in_err-root-clause-none g c =
    let fails = fails_then g.N.Life.opens g.N.Life.entries g.N.Life.session_entries g.N.Life.log_faults g.N.Life.made (standing (g.P.Pages.desk c.args.pages.now) (g.J.Entering.account c.args.journal.now) c.args.pass.now) (standing (g.P.Pages.desk c.reserve_new.new.self) (g.J.Entering.account c.reserve_new.new.journal) c.reserve_new.new.pass) (standing (g.P.Pages.desk c.take.new.pages) (g.J.Entering.account c.take.new.journal) c.take.new.pass) _ (on_then (standing (g.P.Pages.desk c.args.pages.now) (g.J.Entering.account c.args.journal.now) c.args.pass.now) (standing (g.P.Pages.desk c.loop.pages) (g.J.Entering.account c.loop.journal) c.loop.pass) (standing (g.P.Pages.desk c.reserve_new.new.self) (g.J.Entering.account c.reserve_new.new.journal) c.reserve_new.new.pass) c.loop.invariant.4 (on_upheld g.N.Life.opens g.N.Life.entries g.N.Life.session_entries (standing (g.P.Pages.desk c.loop.pages) (g.J.Entering.account c.loop.journal) c.loop.pass) (standing (g.P.Pages.desk c.reserve_new.new.self) (g.J.Entering.account c.reserve_new.new.journal) c.reserve_new.new.pass) c.reserve_new.ensures.entered c.in_ok-reserve_new.ensures.open c.reserve_new.ensures.faults)) (fails_goes g.N.Life.opens g.N.Life.entries g.N.Life.session_entries g.N.Life.log_faults g.N.Life.made (standing (g.P.Pages.desk c.reserve_new.new.self) (g.J.Entering.account c.reserve_new.new.journal) c.reserve_new.new.pass) (standing (g.P.Pages.desk c.take.new.pages) (g.J.Entering.account c.take.new.journal) c.take.new.pass) _ c.take.ensures.goes c.in_err-root.ensures.settled c.in_err-root.ensures.refused c.take.ensures.desk.faults c.in_err-root.ensures.none) in
    if_err _ _ fails.out

pub returns-in_err-root-clause-faults : goal.returns-in_err-root-clause-faults
returns-in_err-root-clause-faults g c =
    let fails = fails_then g.N.Life.opens g.N.Life.entries g.N.Life.session_entries g.N.Life.log_faults g.N.Life.made (standing (g.P.Pages.desk c.args.pages.now) (g.J.Entering.account c.args.journal.now) c.args.pass.now) (standing (g.P.Pages.desk c.reserve_new.new.self) (g.J.Entering.account c.reserve_new.new.journal) c.reserve_new.new.pass) (standing (g.P.Pages.desk c.take.new.pages) (g.J.Entering.account c.take.new.journal) c.take.new.pass) _ (on_then (standing (g.P.Pages.desk c.args.pages.now) (g.J.Entering.account c.args.journal.now) c.args.pass.now) (standing (g.P.Pages.desk c.loop.pages) (g.J.Entering.account c.loop.journal) c.loop.pass) (standing (g.P.Pages.desk c.reserve_new.new.self) (g.J.Entering.account c.reserve_new.new.journal) c.reserve_new.new.pass) c.loop.invariant.4 (on_upheld g.N.Life.opens g.N.Life.entries g.N.Life.session_entries (standing (g.P.Pages.desk c.loop.pages) (g.J.Entering.account c.loop.journal) c.loop.pass) (standing (g.P.Pages.desk c.reserve_new.new.self) (g.J.Entering.account c.reserve_new.new.journal) c.reserve_new.new.pass) c.reserve_new.ensures.entered c.in_ok-reserve_new.ensures.open c.reserve_new.ensures.faults)) (fails_goes g.N.Life.opens g.N.Life.entries g.N.Life.session_entries g.N.Life.log_faults g.N.Life.made (standing (g.P.Pages.desk c.reserve_new.new.self) (g.J.Entering.account c.reserve_new.new.journal) c.reserve_new.new.pass) (standing (g.P.Pages.desk c.take.new.pages) (g.J.Entering.account c.take.new.journal) c.take.new.pass) _ c.take.ensures.goes c.in_err-root.ensures.settled c.in_err-root.ensures.refused c.take.ensures.desk.faults c.in_err-root.ensures.none) in
    fails.faults

pub returns-in_err-root-clause-begins : goal.returns-in_err-root-clause-begins
returns-in_err-root-clause-begins g c =
    let fails = fails_then g.N.Life.opens g.N.Life.entries g.N.Life.session_entries g.N.Life.log_faults g.N.Life.made (standing (g.P.Pages.desk c.args.pages.now) (g.J.Entering.account c.args.journal.now) c.args.pass.now) (standing (g.P.Pages.desk c.reserve_new.new.self) (g.J.Entering.account c.reserve_new.new.journal) c.reserve_new.new.pass) (standing (g.P.Pages.desk c.take.new.pages) (g.J.Entering.account c.take.new.journal) c.take.new.pass) _ (on_then (standing (g.P.Pages.desk c.args.pages.now) (g.J.Entering.account c.args.journal.now) c.args.pass.now) (standing (g.P.Pages.desk c.loop.pages) (g.J.Entering.account c.loop.journal) c.loop.pass) (standing (g.P.Pages.desk c.reserve_new.new.self) (g.J.Entering.account c.reserve_new.new.journal) c.reserve_new.new.pass) c.loop.invariant.4 (on_upheld g.N.Life.opens g.N.Life.entries g.N.Life.session_entries (standing (g.P.Pages.desk c.loop.pages) (g.J.Entering.account c.loop.journal) c.loop.pass) (standing (g.P.Pages.desk c.reserve_new.new.self) (g.J.Entering.account c.reserve_new.new.journal) c.reserve_new.new.pass) c.reserve_new.ensures.entered c.in_ok-reserve_new.ensures.open c.reserve_new.ensures.faults)) (fails_goes g.N.Life.opens g.N.Life.entries g.N.Life.session_entries g.N.Life.log_faults g.N.Life.made (standing (g.P.Pages.desk c.reserve_new.new.self) (g.J.Entering.account c.reserve_new.new.journal) c.reserve_new.new.pass) (standing (g.P.Pages.desk c.take.new.pages) (g.J.Entering.account c.take.new.journal) c.take.new.pass) _ c.take.ensures.goes c.in_err-root.ensures.settled c.in_err-root.ensures.refused c.take.ensures.desk.faults c.in_err-root.ensures.none) in
    (fails.goes.gained, sym fails.goes.is)

pub returns-in_err-root-clause-entered : goal.returns-in_err-root-clause-entered
returns-in_err-root-clause-entered g c =
    let fails = fails_then g.N.Life.opens g.N.Life.entries g.N.Life.session_entries g.N.Life.log_faults g.N.Life.made (standing (g.P.Pages.desk c.args.pages.now) (g.J.Entering.account c.args.journal.now) c.args.pass.now) (standing (g.P.Pages.desk c.reserve_new.new.self) (g.J.Entering.account c.reserve_new.new.journal) c.reserve_new.new.pass) (standing (g.P.Pages.desk c.take.new.pages) (g.J.Entering.account c.take.new.journal) c.take.new.pass) _ (on_then (standing (g.P.Pages.desk c.args.pages.now) (g.J.Entering.account c.args.journal.now) c.args.pass.now) (standing (g.P.Pages.desk c.loop.pages) (g.J.Entering.account c.loop.journal) c.loop.pass) (standing (g.P.Pages.desk c.reserve_new.new.self) (g.J.Entering.account c.reserve_new.new.journal) c.reserve_new.new.pass) c.loop.invariant.4 (on_upheld g.N.Life.opens g.N.Life.entries g.N.Life.session_entries (standing (g.P.Pages.desk c.loop.pages) (g.J.Entering.account c.loop.journal) c.loop.pass) (standing (g.P.Pages.desk c.reserve_new.new.self) (g.J.Entering.account c.reserve_new.new.journal) c.reserve_new.new.pass) c.reserve_new.ensures.entered c.in_ok-reserve_new.ensures.open c.reserve_new.ensures.faults)) (fails_goes g.N.Life.opens g.N.Life.entries g.N.Life.session_entries g.N.Life.log_faults g.N.Life.made (standing (g.P.Pages.desk c.reserve_new.new.self) (g.J.Entering.account c.reserve_new.new.journal) c.reserve_new.new.pass) (standing (g.P.Pages.desk c.take.new.pages) (g.J.Entering.account c.take.new.journal) c.take.new.pass) _ c.take.ensures.goes c.in_err-root.ensures.settled c.in_err-root.ensures.refused c.take.ensures.desk.faults c.in_err-root.ensures.none) in
    upheld_by keeps_up g.N.Life.opens g.N.Life.entries g.N.Life.session_entries (known_by (standing (g.P.Pages.desk c.args.pages.now) (g.J.Entering.account c.args.journal.now) c.args.pass.now)) _ fails.goes fails.settled

pub returns-in_err-root-clause-refused : goal.returns-in_err-root-clause-refused
returns-in_err-root-clause-refused g c =
    let p = err_from_is_err_and c.from_residual-in_err-root.result c.from_residual-in_err-root.ensures.1 in
    let fails = fails_then g.N.Life.opens g.N.Life.entries g.N.Life.session_entries g.N.Life.log_faults g.N.Life.made (standing (g.P.Pages.desk c.args.pages.now) (g.J.Entering.account c.args.journal.now) c.args.pass.now) (standing (g.P.Pages.desk c.reserve_new.new.self) (g.J.Entering.account c.reserve_new.new.journal) c.reserve_new.new.pass) (standing (g.P.Pages.desk c.take.new.pages) (g.J.Entering.account c.take.new.journal) c.take.new.pass) _ (on_then (standing (g.P.Pages.desk c.args.pages.now) (g.J.Entering.account c.args.journal.now) c.args.pass.now) (standing (g.P.Pages.desk c.loop.pages) (g.J.Entering.account c.loop.journal) c.loop.pass) (standing (g.P.Pages.desk c.reserve_new.new.self) (g.J.Entering.account c.reserve_new.new.journal) c.reserve_new.new.pass) c.loop.invariant.4 (on_upheld g.N.Life.opens g.N.Life.entries g.N.Life.session_entries (standing (g.P.Pages.desk c.loop.pages) (g.J.Entering.account c.loop.journal) c.loop.pass) (standing (g.P.Pages.desk c.reserve_new.new.self) (g.J.Entering.account c.reserve_new.new.journal) c.reserve_new.new.pass) c.reserve_new.ensures.entered c.in_ok-reserve_new.ensures.open c.reserve_new.ensures.faults)) (fails_goes g.N.Life.opens g.N.Life.entries g.N.Life.session_entries g.N.Life.log_faults g.N.Life.made (standing (g.P.Pages.desk c.reserve_new.new.self) (g.J.Entering.account c.reserve_new.new.journal) c.reserve_new.new.pass) (standing (g.P.Pages.desk c.take.new.pages) (g.J.Entering.account c.take.new.journal) c.take.new.pass) _ c.take.ensures.goes c.in_err-root.ensures.settled c.in_err-root.ensures.refused c.take.ensures.desk.faults c.in_err-root.ensures.none) in
    rw (p.1, p.2) fails.why

pub returns-in_err-leaf-clause-none : goal.returns-in_err-leaf-clause-none
returns-in_err-leaf-clause-none g c =
    let fails = fails_then g.N.Life.opens g.N.Life.entries g.N.Life.session_entries g.N.Life.log_faults g.N.Life.made (standing (g.P.Pages.desk c.args.pages.now) (g.J.Entering.account c.args.journal.now) c.args.pass.now) (standing (g.P.Pages.desk c.take.new.pages) (g.J.Entering.account c.take.new.journal) c.take.new.pass) (standing (g.P.Pages.desk c.descend.new.pages) (g.J.Entering.account c.descend.new.journal) c.descend.new.pass) _ (on_then (standing (g.P.Pages.desk c.args.pages.now) (g.J.Entering.account c.args.journal.now) c.args.pass.now) (standing (g.P.Pages.desk c.reserve_new.new.self) (g.J.Entering.account c.reserve_new.new.journal) c.reserve_new.new.pass) (standing (g.P.Pages.desk c.take.new.pages) (g.J.Entering.account c.take.new.journal) c.take.new.pass) (on_then (standing (g.P.Pages.desk c.args.pages.now) (g.J.Entering.account c.args.journal.now) c.args.pass.now) (standing (g.P.Pages.desk c.loop.pages) (g.J.Entering.account c.loop.journal) c.loop.pass) (standing (g.P.Pages.desk c.reserve_new.new.self) (g.J.Entering.account c.reserve_new.new.journal) c.reserve_new.new.pass) c.loop.invariant.4 (on_upheld g.N.Life.opens g.N.Life.entries g.N.Life.session_entries (standing (g.P.Pages.desk c.loop.pages) (g.J.Entering.account c.loop.journal) c.loop.pass) (standing (g.P.Pages.desk c.reserve_new.new.self) (g.J.Entering.account c.reserve_new.new.journal) c.reserve_new.new.pass) c.reserve_new.ensures.entered c.in_ok-reserve_new.ensures.open c.reserve_new.ensures.faults)) (on_of (standing (g.P.Pages.desk c.reserve_new.new.self) (g.J.Entering.account c.reserve_new.new.journal) c.reserve_new.new.pass) (standing (g.P.Pages.desk c.take.new.pages) (g.J.Entering.account c.take.new.journal) c.take.new.pass) c.take.ensures.goes c.in_ok-root.ensures.open c.take.ensures.desk.faults)) c.in_err-leaf.ensures.fails in
    if_err _ _ fails.out

pub returns-in_err-leaf-clause-faults : goal.returns-in_err-leaf-clause-faults
returns-in_err-leaf-clause-faults g c =
    let fails = fails_then g.N.Life.opens g.N.Life.entries g.N.Life.session_entries g.N.Life.log_faults g.N.Life.made (standing (g.P.Pages.desk c.args.pages.now) (g.J.Entering.account c.args.journal.now) c.args.pass.now) (standing (g.P.Pages.desk c.take.new.pages) (g.J.Entering.account c.take.new.journal) c.take.new.pass) (standing (g.P.Pages.desk c.descend.new.pages) (g.J.Entering.account c.descend.new.journal) c.descend.new.pass) _ (on_then (standing (g.P.Pages.desk c.args.pages.now) (g.J.Entering.account c.args.journal.now) c.args.pass.now) (standing (g.P.Pages.desk c.reserve_new.new.self) (g.J.Entering.account c.reserve_new.new.journal) c.reserve_new.new.pass) (standing (g.P.Pages.desk c.take.new.pages) (g.J.Entering.account c.take.new.journal) c.take.new.pass) (on_then (standing (g.P.Pages.desk c.args.pages.now) (g.J.Entering.account c.args.journal.now) c.args.pass.now) (standing (g.P.Pages.desk c.loop.pages) (g.J.Entering.account c.loop.journal) c.loop.pass) (standing (g.P.Pages.desk c.reserve_new.new.self) (g.J.Entering.account c.reserve_new.new.journal) c.reserve_new.new.pass) c.loop.invariant.4 (on_upheld g.N.Life.opens g.N.Life.entries g.N.Life.session_entries (standing (g.P.Pages.desk c.loop.pages) (g.J.Entering.account c.loop.journal) c.loop.pass) (standing (g.P.Pages.desk c.reserve_new.new.self) (g.J.Entering.account c.reserve_new.new.journal) c.reserve_new.new.pass) c.reserve_new.ensures.entered c.in_ok-reserve_new.ensures.open c.reserve_new.ensures.faults)) (on_of (standing (g.P.Pages.desk c.reserve_new.new.self) (g.J.Entering.account c.reserve_new.new.journal) c.reserve_new.new.pass) (standing (g.P.Pages.desk c.take.new.pages) (g.J.Entering.account c.take.new.journal) c.take.new.pass) c.take.ensures.goes c.in_ok-root.ensures.open c.take.ensures.desk.faults)) c.in_err-leaf.ensures.fails in
    fails.faults

pub returns-in_err-leaf-clause-begins : goal.returns-in_err-leaf-clause-begins
returns-in_err-leaf-clause-begins g c =
    let fails = fails_then g.N.Life.opens g.N.Life.entries g.N.Life.session_entries g.N.Life.log_faults g.N.Life.made (standing (g.P.Pages.desk c.args.pages.now) (g.J.Entering.account c.args.journal.now) c.args.pass.now) (standing (g.P.Pages.desk c.take.new.pages) (g.J.Entering.account c.take.new.journal) c.take.new.pass) (standing (g.P.Pages.desk c.descend.new.pages) (g.J.Entering.account c.descend.new.journal) c.descend.new.pass) _ (on_then (standing (g.P.Pages.desk c.args.pages.now) (g.J.Entering.account c.args.journal.now) c.args.pass.now) (standing (g.P.Pages.desk c.reserve_new.new.self) (g.J.Entering.account c.reserve_new.new.journal) c.reserve_new.new.pass) (standing (g.P.Pages.desk c.take.new.pages) (g.J.Entering.account c.take.new.journal) c.take.new.pass) (on_then (standing (g.P.Pages.desk c.args.pages.now) (g.J.Entering.account c.args.journal.now) c.args.pass.now) (standing (g.P.Pages.desk c.loop.pages) (g.J.Entering.account c.loop.journal) c.loop.pass) (standing (g.P.Pages.desk c.reserve_new.new.self) (g.J.Entering.account c.reserve_new.new.journal) c.reserve_new.new.pass) c.loop.invariant.4 (on_upheld g.N.Life.opens g.N.Life.entries g.N.Life.session_entries (standing (g.P.Pages.desk c.loop.pages) (g.J.Entering.account c.loop.journal) c.loop.pass) (standing (g.P.Pages.desk c.reserve_new.new.self) (g.J.Entering.account c.reserve_new.new.journal) c.reserve_new.new.pass) c.reserve_new.ensures.entered c.in_ok-reserve_new.ensures.open c.reserve_new.ensures.faults)) (on_of (standing (g.P.Pages.desk c.reserve_new.new.self) (g.J.Entering.account c.reserve_new.new.journal) c.reserve_new.new.pass) (standing (g.P.Pages.desk c.take.new.pages) (g.J.Entering.account c.take.new.journal) c.take.new.pass) c.take.ensures.goes c.in_ok-root.ensures.open c.take.ensures.desk.faults)) c.in_err-leaf.ensures.fails in
    (fails.goes.gained, sym fails.goes.is)

pub returns-in_err-leaf-clause-entered : goal.returns-in_err-leaf-clause-entered
returns-in_err-leaf-clause-entered g c =
    let fails = fails_then g.N.Life.opens g.N.Life.entries g.N.Life.session_entries g.N.Life.log_faults g.N.Life.made (standing (g.P.Pages.desk c.args.pages.now) (g.J.Entering.account c.args.journal.now) c.args.pass.now) (standing (g.P.Pages.desk c.take.new.pages) (g.J.Entering.account c.take.new.journal) c.take.new.pass) (standing (g.P.Pages.desk c.descend.new.pages) (g.J.Entering.account c.descend.new.journal) c.descend.new.pass) _ (on_then (standing (g.P.Pages.desk c.args.pages.now) (g.J.Entering.account c.args.journal.now) c.args.pass.now) (standing (g.P.Pages.desk c.reserve_new.new.self) (g.J.Entering.account c.reserve_new.new.journal) c.reserve_new.new.pass) (standing (g.P.Pages.desk c.take.new.pages) (g.J.Entering.account c.take.new.journal) c.take.new.pass) (on_then (standing (g.P.Pages.desk c.args.pages.now) (g.J.Entering.account c.args.journal.now) c.args.pass.now) (standing (g.P.Pages.desk c.loop.pages) (g.J.Entering.account c.loop.journal) c.loop.pass) (standing (g.P.Pages.desk c.reserve_new.new.self) (g.J.Entering.account c.reserve_new.new.journal) c.reserve_new.new.pass) c.loop.invariant.4 (on_upheld g.N.Life.opens g.N.Life.entries g.N.Life.session_entries (standing (g.P.Pages.desk c.loop.pages) (g.J.Entering.account c.loop.journal) c.loop.pass) (standing (g.P.Pages.desk c.reserve_new.new.self) (g.J.Entering.account c.reserve_new.new.journal) c.reserve_new.new.pass) c.reserve_new.ensures.entered c.in_ok-reserve_new.ensures.open c.reserve_new.ensures.faults)) (on_of (standing (g.P.Pages.desk c.reserve_new.new.self) (g.J.Entering.account c.reserve_new.new.journal) c.reserve_new.new.pass) (standing (g.P.Pages.desk c.take.new.pages) (g.J.Entering.account c.take.new.journal) c.take.new.pass) c.take.ensures.goes c.in_ok-root.ensures.open c.take.ensures.desk.faults)) c.in_err-leaf.ensures.fails in
    upheld_by keeps_up g.N.Life.opens g.N.Life.entries g.N.Life.session_entries (known_by (standing (g.P.Pages.desk c.args.pages.now) (g.J.Entering.account c.args.journal.now) c.args.pass.now)) _ fails.goes fails.settled

pub returns-in_err-leaf-clause-refused : goal.returns-in_err-leaf-clause-refused
returns-in_err-leaf-clause-refused g c =
    let p = err_from_is_err_and c.from_residual-in_err-leaf.result c.from_residual-in_err-leaf.ensures.1 in
    let fails = fails_then g.N.Life.opens g.N.Life.entries g.N.Life.session_entries g.N.Life.log_faults g.N.Life.made (standing (g.P.Pages.desk c.args.pages.now) (g.J.Entering.account c.args.journal.now) c.args.pass.now) (standing (g.P.Pages.desk c.take.new.pages) (g.J.Entering.account c.take.new.journal) c.take.new.pass) (standing (g.P.Pages.desk c.descend.new.pages) (g.J.Entering.account c.descend.new.journal) c.descend.new.pass) _ (on_then (standing (g.P.Pages.desk c.args.pages.now) (g.J.Entering.account c.args.journal.now) c.args.pass.now) (standing (g.P.Pages.desk c.reserve_new.new.self) (g.J.Entering.account c.reserve_new.new.journal) c.reserve_new.new.pass) (standing (g.P.Pages.desk c.take.new.pages) (g.J.Entering.account c.take.new.journal) c.take.new.pass) (on_then (standing (g.P.Pages.desk c.args.pages.now) (g.J.Entering.account c.args.journal.now) c.args.pass.now) (standing (g.P.Pages.desk c.loop.pages) (g.J.Entering.account c.loop.journal) c.loop.pass) (standing (g.P.Pages.desk c.reserve_new.new.self) (g.J.Entering.account c.reserve_new.new.journal) c.reserve_new.new.pass) c.loop.invariant.4 (on_upheld g.N.Life.opens g.N.Life.entries g.N.Life.session_entries (standing (g.P.Pages.desk c.loop.pages) (g.J.Entering.account c.loop.journal) c.loop.pass) (standing (g.P.Pages.desk c.reserve_new.new.self) (g.J.Entering.account c.reserve_new.new.journal) c.reserve_new.new.pass) c.reserve_new.ensures.entered c.in_ok-reserve_new.ensures.open c.reserve_new.ensures.faults)) (on_of (standing (g.P.Pages.desk c.reserve_new.new.self) (g.J.Entering.account c.reserve_new.new.journal) c.reserve_new.new.pass) (standing (g.P.Pages.desk c.take.new.pages) (g.J.Entering.account c.take.new.journal) c.take.new.pass) c.take.ensures.goes c.in_ok-root.ensures.open c.take.ensures.desk.faults)) c.in_err-leaf.ensures.fails in
    rw (p.1, p.2) fails.why

pub returns-in-Some-2-clause-faults : goal.returns-in-Some-2-clause-faults
returns-in-Some-2-clause-faults g c = let all = on_then (standing (g.P.Pages.desk c.args.pages.now) (g.J.Entering.account c.args.journal.now) c.args.pass.now) (standing (g.P.Pages.desk c.take.new.pages) (g.J.Entering.account c.take.new.journal) c.take.new.pass) (standing (g.P.Pages.desk c.descend.new.pages) (g.J.Entering.account c.descend.new.journal) c.descend.new.pass) (on_then (standing (g.P.Pages.desk c.args.pages.now) (g.J.Entering.account c.args.journal.now) c.args.pass.now) (standing (g.P.Pages.desk c.reserve_new.new.self) (g.J.Entering.account c.reserve_new.new.journal) c.reserve_new.new.pass) (standing (g.P.Pages.desk c.take.new.pages) (g.J.Entering.account c.take.new.journal) c.take.new.pass) (on_then (standing (g.P.Pages.desk c.args.pages.now) (g.J.Entering.account c.args.journal.now) c.args.pass.now) (standing (g.P.Pages.desk c.loop.pages) (g.J.Entering.account c.loop.journal) c.loop.pass) (standing (g.P.Pages.desk c.reserve_new.new.self) (g.J.Entering.account c.reserve_new.new.journal) c.reserve_new.new.pass) c.loop.invariant.4 (on_upheld g.N.Life.opens g.N.Life.entries g.N.Life.session_entries (standing (g.P.Pages.desk c.loop.pages) (g.J.Entering.account c.loop.journal) c.loop.pass) (standing (g.P.Pages.desk c.reserve_new.new.self) (g.J.Entering.account c.reserve_new.new.journal) c.reserve_new.new.pass) c.reserve_new.ensures.entered c.in_ok-reserve_new.ensures.open c.reserve_new.ensures.faults)) (on_of (standing (g.P.Pages.desk c.reserve_new.new.self) (g.J.Entering.account c.reserve_new.new.journal) c.reserve_new.new.pass) (standing (g.P.Pages.desk c.take.new.pages) (g.J.Entering.account c.take.new.journal) c.take.new.pass) c.take.ensures.goes c.in_ok-root.ensures.open c.take.ensures.desk.faults)) c.in_ok-leaf.ensures.goes in all.faults

pub returns-in-Some-2-clause-begins : goal.returns-in-Some-2-clause-begins
returns-in-Some-2-clause-begins g c = on_begins _ _ (on_then (standing (g.P.Pages.desk c.args.pages.now) (g.J.Entering.account c.args.journal.now) c.args.pass.now) (standing (g.P.Pages.desk c.take.new.pages) (g.J.Entering.account c.take.new.journal) c.take.new.pass) (standing (g.P.Pages.desk c.descend.new.pages) (g.J.Entering.account c.descend.new.journal) c.descend.new.pass) (on_then (standing (g.P.Pages.desk c.args.pages.now) (g.J.Entering.account c.args.journal.now) c.args.pass.now) (standing (g.P.Pages.desk c.reserve_new.new.self) (g.J.Entering.account c.reserve_new.new.journal) c.reserve_new.new.pass) (standing (g.P.Pages.desk c.take.new.pages) (g.J.Entering.account c.take.new.journal) c.take.new.pass) (on_then (standing (g.P.Pages.desk c.args.pages.now) (g.J.Entering.account c.args.journal.now) c.args.pass.now) (standing (g.P.Pages.desk c.loop.pages) (g.J.Entering.account c.loop.journal) c.loop.pass) (standing (g.P.Pages.desk c.reserve_new.new.self) (g.J.Entering.account c.reserve_new.new.journal) c.reserve_new.new.pass) c.loop.invariant.4 (on_upheld g.N.Life.opens g.N.Life.entries g.N.Life.session_entries (standing (g.P.Pages.desk c.loop.pages) (g.J.Entering.account c.loop.journal) c.loop.pass) (standing (g.P.Pages.desk c.reserve_new.new.self) (g.J.Entering.account c.reserve_new.new.journal) c.reserve_new.new.pass) c.reserve_new.ensures.entered c.in_ok-reserve_new.ensures.open c.reserve_new.ensures.faults)) (on_of (standing (g.P.Pages.desk c.reserve_new.new.self) (g.J.Entering.account c.reserve_new.new.journal) c.reserve_new.new.pass) (standing (g.P.Pages.desk c.take.new.pages) (g.J.Entering.account c.take.new.journal) c.take.new.pass) c.take.ensures.goes c.in_ok-root.ensures.open c.take.ensures.desk.faults)) c.in_ok-leaf.ensures.goes)

pub returns-in-Some-2-clause-entered : goal.returns-in-Some-2-clause-entered
returns-in-Some-2-clause-entered g c =
    let all = on_then (standing (g.P.Pages.desk c.args.pages.now) (g.J.Entering.account c.args.journal.now) c.args.pass.now) (standing (g.P.Pages.desk c.take.new.pages) (g.J.Entering.account c.take.new.journal) c.take.new.pass) (standing (g.P.Pages.desk c.descend.new.pages) (g.J.Entering.account c.descend.new.journal) c.descend.new.pass) (on_then (standing (g.P.Pages.desk c.args.pages.now) (g.J.Entering.account c.args.journal.now) c.args.pass.now) (standing (g.P.Pages.desk c.reserve_new.new.self) (g.J.Entering.account c.reserve_new.new.journal) c.reserve_new.new.pass) (standing (g.P.Pages.desk c.take.new.pages) (g.J.Entering.account c.take.new.journal) c.take.new.pass) (on_then (standing (g.P.Pages.desk c.args.pages.now) (g.J.Entering.account c.args.journal.now) c.args.pass.now) (standing (g.P.Pages.desk c.loop.pages) (g.J.Entering.account c.loop.journal) c.loop.pass) (standing (g.P.Pages.desk c.reserve_new.new.self) (g.J.Entering.account c.reserve_new.new.journal) c.reserve_new.new.pass) c.loop.invariant.4 (on_upheld g.N.Life.opens g.N.Life.entries g.N.Life.session_entries (standing (g.P.Pages.desk c.loop.pages) (g.J.Entering.account c.loop.journal) c.loop.pass) (standing (g.P.Pages.desk c.reserve_new.new.self) (g.J.Entering.account c.reserve_new.new.journal) c.reserve_new.new.pass) c.reserve_new.ensures.entered c.in_ok-reserve_new.ensures.open c.reserve_new.ensures.faults)) (on_of (standing (g.P.Pages.desk c.reserve_new.new.self) (g.J.Entering.account c.reserve_new.new.journal) c.reserve_new.new.pass) (standing (g.P.Pages.desk c.take.new.pages) (g.J.Entering.account c.take.new.journal) c.take.new.pass) c.take.ensures.goes c.in_ok-root.ensures.open c.take.ensures.desk.faults)) c.in_ok-leaf.ensures.goes in
    upheld_by keeps_up g.N.Life.opens g.N.Life.entries g.N.Life.session_entries (known_by (standing (g.P.Pages.desk c.args.pages.now) (g.J.Entering.account c.args.journal.now) c.args.pass.now)) (known_by (standing (g.P.Pages.desk c.descend.new.pages) (g.J.Entering.account c.descend.new.journal) c.descend.new.pass)) all.goes
    (subst (λ (o : Option Hand). IfSome o (λ held. IsSettled g.N.Life.opens g.N.Life.entries g.N.Life.session_entries (g.J.Entering.account c.descend.new.journal) c.descend.new.pass.log)) c.in-Some-2.is c.in_ok-leaf.ensures.settled)

pub returns-in-Some-2-clause-tidy : goal.returns-in-Some-2-clause-tidy
returns-in-Some-2-clause-tidy g c =
    let before = on_then (standing (g.P.Pages.desk c.args.pages.now) (g.J.Entering.account c.args.journal.now) c.args.pass.now) (standing (g.P.Pages.desk c.reserve_new.new.self) (g.J.Entering.account c.reserve_new.new.journal) c.reserve_new.new.pass) (standing (g.P.Pages.desk c.take.new.pages) (g.J.Entering.account c.take.new.journal) c.take.new.pass) (on_then (standing (g.P.Pages.desk c.args.pages.now) (g.J.Entering.account c.args.journal.now) c.args.pass.now) (standing (g.P.Pages.desk c.loop.pages) (g.J.Entering.account c.loop.journal) c.loop.pass) (standing (g.P.Pages.desk c.reserve_new.new.self) (g.J.Entering.account c.reserve_new.new.journal) c.reserve_new.new.pass) c.loop.invariant.4 (on_upheld g.N.Life.opens g.N.Life.entries g.N.Life.session_entries (standing (g.P.Pages.desk c.loop.pages) (g.J.Entering.account c.loop.journal) c.loop.pass) (standing (g.P.Pages.desk c.reserve_new.new.self) (g.J.Entering.account c.reserve_new.new.journal) c.reserve_new.new.pass) c.reserve_new.ensures.entered c.in_ok-reserve_new.ensures.open c.reserve_new.ensures.faults)) (on_of (standing (g.P.Pages.desk c.reserve_new.new.self) (g.J.Entering.account c.reserve_new.new.journal) c.reserve_new.new.pass) (standing (g.P.Pages.desk c.take.new.pages) (g.J.Entering.account c.take.new.journal) c.take.new.pass) c.take.ensures.goes c.in_ok-root.ensures.open c.take.ensures.desk.faults) in
    leaves_behind g.N.Life.opens g.N.Life.entries keeps_up (known_by (standing (g.P.Pages.desk c.args.pages.now) (g.J.Entering.account c.args.journal.now) c.args.pass.now)) (known_by (standing (g.P.Pages.desk c.take.new.pages) (g.J.Entering.account c.take.new.journal) c.take.new.pass)) c.descend.new.pass.log c.args.key.now before.goes
    (subst (λ (o : Option Hand). IfSome o (λ held. LeavesTidy g.N.Life.opens g.N.Life.entries (known_by (standing (g.P.Pages.desk c.take.new.pages) (g.J.Entering.account c.take.new.journal) c.take.new.pass)) c.descend.new.pass.log c.args.key.now)) c.in-Some-2.is c.in_ok-leaf.ensures.tidy)

pub returns-in-Some-2-clause-open : goal.returns-in-Some-2-clause-open
returns-in-Some-2-clause-open g c = let all = on_then (standing (g.P.Pages.desk c.args.pages.now) (g.J.Entering.account c.args.journal.now) c.args.pass.now) (standing (g.P.Pages.desk c.take.new.pages) (g.J.Entering.account c.take.new.journal) c.take.new.pass) (standing (g.P.Pages.desk c.descend.new.pages) (g.J.Entering.account c.descend.new.journal) c.descend.new.pass) (on_then (standing (g.P.Pages.desk c.args.pages.now) (g.J.Entering.account c.args.journal.now) c.args.pass.now) (standing (g.P.Pages.desk c.reserve_new.new.self) (g.J.Entering.account c.reserve_new.new.journal) c.reserve_new.new.pass) (standing (g.P.Pages.desk c.take.new.pages) (g.J.Entering.account c.take.new.journal) c.take.new.pass) (on_then (standing (g.P.Pages.desk c.args.pages.now) (g.J.Entering.account c.args.journal.now) c.args.pass.now) (standing (g.P.Pages.desk c.loop.pages) (g.J.Entering.account c.loop.journal) c.loop.pass) (standing (g.P.Pages.desk c.reserve_new.new.self) (g.J.Entering.account c.reserve_new.new.journal) c.reserve_new.new.pass) c.loop.invariant.4 (on_upheld g.N.Life.opens g.N.Life.entries g.N.Life.session_entries (standing (g.P.Pages.desk c.loop.pages) (g.J.Entering.account c.loop.journal) c.loop.pass) (standing (g.P.Pages.desk c.reserve_new.new.self) (g.J.Entering.account c.reserve_new.new.journal) c.reserve_new.new.pass) c.reserve_new.ensures.entered c.in_ok-reserve_new.ensures.open c.reserve_new.ensures.faults)) (on_of (standing (g.P.Pages.desk c.reserve_new.new.self) (g.J.Entering.account c.reserve_new.new.journal) c.reserve_new.new.pass) (standing (g.P.Pages.desk c.take.new.pages) (g.J.Entering.account c.take.new.journal) c.take.new.pass) c.take.ensures.goes c.in_ok-root.ensures.open c.take.ensures.desk.faults)) c.in_ok-leaf.ensures.goes in all.none
