use Rattle.std.proofs.Common.{◌*◌, ◌<◌, arith}
use Rattle.std.proofs.lemmas.Result.{err_from_is_err_and}
use Rattle.foster_tree.proofs.Causing.{none_met, none_then}
use Rattle.foster_tree.proofs.Desks.{desk_same, desk_then}
use Rattle.foster_tree.proofs.Made.{made_since}
use Rattle.page_ops.specs.Claims.{no_claims}
use Rattle.page_ops.specs.Seeing.{Known, known}
use Rattle.backups.proofs.Adding.{begins_of, fails_then, none_backed, turn_done, turn_refused}
use Rattle.backups.proofs.backing_up.back_up_all.Goals as goal

pub loop-segment-init : goal.loop-segment-init
loop-segment-init g c = record {
  none = c.requires.none;
  entered = none_backed g.N.Life.opens g.N.Life.entries g.N.Life.session_entries c.args.backup c.args.most (g.J.Entering.account c.args.journal.now) c.args.pass.now c.requires.seen;
  next = c.requires.next;
  desk = desk_same _;
  calm = none_met _;
}

pub back_up_segment-requires-clause-made : goal.back_up_segment-requires-clause-made
back_up_segment-requires-clause-made g c = λ page one upto.
    let first : Known = known (g.J.Entering.account c.args.journal.now) c.args.pass.now no_claims in
    let here : Known = known (g.J.Entering.account c.loop-segment.journal) c.loop-segment.pass no_claims in
    let entered = c.loop-segment.invariant.entered in
    made_since g.N.Life.opens c.args.pass.now.log c.loop-segment.pass.log page (begins_of g.N.Life.opens g.N.Life.entries g.N.Life.session_entries c.args.backup entered.own first here entered.adds) (c.requires.made page one upto)

pub returns-in_err-since-clause-entered : goal.returns-in_err-since-clause-entered
returns-in_err-since-clause-entered g c =
    let p = err_from_is_err_and c.from_residual.result c.from_residual.ensures.1 in
    let first : Known = known (g.J.Entering.account c.args.journal.now) c.args.pass.now no_claims in
    let here : Known = known (g.J.Entering.account c.loop-segment.journal) c.loop-segment.pass no_claims in
    let behind : Known = known (g.J.Entering.account c.back_up_segment.new.journal) c.back_up_segment.new.pass no_claims in
    rw p.1 (turn_refused g.N.Life.opens g.N.Life.entries g.N.Life.session_entries c.args.pass.now.log c.args.backup 0 _ first here behind c.loop-segment.invariant.entered c.in_err-since.ensures.entered)

pub returns-in_err-since-clause-refused : goal.returns-in_err-since-clause-refused
returns-in_err-since-clause-refused g c =
    let p = err_from_is_err_and c.from_residual.result c.from_residual.ensures.1 in
    let here = c.loop-segment.invariant in
    rw (p.1, p.2)
    (fails_then g.N.Life.opens g.N.Life.log_faults g.N.Life.made (g.P.Pages.desk c.args.pages.now).faults (g.P.Pages.desk c.loop-segment.pages).faults (g.P.Pages.desk c.back_up_segment.new.pages).faults
    (g.J.Entering.account c.args.journal.now) (g.J.Entering.account c.loop-segment.journal) (g.J.Entering.account c.back_up_segment.new.journal) c.back_up_segment.new.pass.log _
    here.calm here.entered.adds.gains.keeps here.desk.faults c.in_err-since.ensures.refused)

pub loop-segment-preserved : goal.loop-segment-preserved
loop-segment-preserved g c =
    let here = c.loop-segment.invariant in
    let first : Known = known (g.J.Entering.account c.args.journal.now) c.args.pass.now no_claims in
    let before : Known = known (g.J.Entering.account c.loop-segment.journal) c.loop-segment.pass no_claims in
    let behind : Known = known (g.J.Entering.account c.back_up_segment.new.journal) c.back_up_segment.new.pass no_claims in
    let some : 16 * c.loop-segment.segment < c.args.most = omega (arith, c.loop-segment-test.true, c.div_ceil-segment-end.ensures) in
    record {
      none = c.back_up_segment.ensures.none;
      entered = turn_done g.N.Life.opens g.N.Life.entries g.N.Life.session_entries c.args.backup c.loop-segment.segment c.args.most first before behind some here.entered c.in_ok-since.ensures.entered;
      next = c.in_ok-since.ensures.next;
      desk = desk_then _ _ _ here.desk c.back_up_segment.ensures.desk;
      calm = none_then _ _ _ here.calm c.in_ok-since.ensures.open;
    }
