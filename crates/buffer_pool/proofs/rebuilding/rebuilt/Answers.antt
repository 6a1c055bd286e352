use Rattle.std.proofs.Common.{sym, ◌∙◌, Ok}
use Rattle.std.proofs.lemmas.Result.{err_from_is_err_and}
use Rattle.page_ops.specs.Seeing.{is_none, is_upkeep}
use Rattle.page_ops.proofs.Gaining.{upheld}
use Rattle.buffer_pool.proofs.Entering.{bring_behind, enter_fails, none_at, none_both, none_kind, open_met, repair_at, repairs_err, repairs_given, repairs_ok, upheld_both, upheld_more, upheld_repair}
use Rattle.buffer_pool.proofs.Serving.{rebuilt_later}
use Rattle.buffer_pool.proofs.rebuilding.rebuilt.Goals as goal

pub returns-in_err-sealed-clause-repairs : goal.returns-in_err-sealed-clause-repairs
returns-in_err-sealed-clause-repairs g c =
    let p = err_from_is_err_and c.from_residual.result c.from_residual.ensures.1 in
    rw (p.1, p.2) (repairs_err _ _ _ _ _ _ _ _ c.rebuilt.ensures.entered)

pub returns-in_err-sealed-clause-entered : goal.returns-in_err-sealed-clause-entered
returns-in_err-sealed-clause-entered g c = upheld_more _ _ _ is_none is_upkeep none_kind _ _ c.rebuilt.ensures.entered

pub returns-then-given-clause-repairs : goal.returns-then-given-clause-repairs
returns-then-given-clause-repairs g c = repairs_given _ _ _ _ _ _ _ _ (sym c.is_some-given.ensures ∙ c.if-given.true) c.rebuilt.ensures.entered

pub returns-then-given-clause-entered : goal.returns-then-given-clause-entered
returns-then-given-clause-entered g c = upheld_more _ _ _ is_none is_upkeep none_kind _ _ c.rebuilt.ensures.entered

pub returns-in_err-repaired-clause-repairs : goal.returns-in_err-repaired-clause-repairs
returns-in_err-repaired-clause-repairs g c =
    let p = err_from_is_err_and c.from_residual-in_err-repaired.result c.from_residual-in_err-repaired.ensures.1 in
    rw (p.1, p.2) (repairs_err _ _ _ _ _ _ _ _ (upheld_both _ _ _ is_none _ _ _ c.rebuilt.ensures.entered (upheld _ _ _ is_none _ _ _ _ c.in_err-repaired.ensures.entered)))

pub returns-in_err-repaired-clause-entered : goal.returns-in_err-repaired-clause-entered
returns-in_err-repaired-clause-entered g c =
    upheld_both _ _ _ is_upkeep _ _ _ (upheld_more _ _ _ is_none is_upkeep none_kind _ _ c.rebuilt.ensures.entered) (upheld _ _ _ is_upkeep _ _ _ _ c.in_err-repaired.ensures.entered)

pub returns-in_err-repaired-clause-refused : goal.returns-in_err-repaired-clause-refused
returns-in_err-repaired-clause-refused g c =
    let p = err_from_is_err_and c.from_residual-in_err-repaired.result c.from_residual-in_err-repaired.ensures.1 in
    rw (p.1, p.2) (bring_behind _ _ _ _ _ is_none _ _ c.rebuilt.ensures.entered c.in_ok-sealed.ensures.open _ _ _ _ _ _ c.rebuilt.ensures.faults (enter_fails _ _ _ _ _ _ _ _ c.in_err-repaired.ensures.refused c.in_err-repaired.ensures.ends))

pub returns-clause-page : goal.returns-clause-page
returns-clause-page g c =
    rebuilt_later g.N.Life.opens c.args.pass.now.log c.rebuilt.new.pass.log c.repaired.new.pass.log c.args.page c.args.lsn c.in_ok-sealed.sealed c.requires.head (c.rebuilt.ensures.entered.gained, sym c.rebuilt.ensures.entered.is)
    c.in_ok-repaired.ensures.entered.now.begins c.in_ok-sealed.ensures.rebuilt

pub returns-clause-repairs : goal.returns-clause-repairs
returns-clause-repairs g c =
    repairs_ok _ _ _ c.args.page _ _ _ _ _ _ c.rebuilt.ensures.entered _ _ c.in_ok-repaired.field-0 (sym c.is_some-given.ensures ∙ c.if-given.false)
    (repair_at _ _ _ c.args.page c.args.lsn c.args.right.now _ _ (Ok c.in_ok-repaired.field-0) c.requires.right c.in_ok-repaired.ensures.entered) (none_at g.N.Life.opens c.repaired.new.pass.log c.args.page c.args.lsn c.args.right.now c.in_ok-repaired.field-0 c.requires.right c.in_ok-repaired.ensures.none)

pub returns-clause-entered : goal.returns-clause-entered
returns-clause-entered g c =
    upheld_repair _ _ _ c.args.page _ _ _ _ _ _ c.rebuilt.ensures.entered c.in_ok-repaired.field-0 (repair_at _ _ _ c.args.page c.args.lsn c.args.right.now _ _ (Ok c.in_ok-repaired.field-0) c.requires.right c.in_ok-repaired.ensures.entered)

pub returns-clause-open : goal.returns-clause-open
returns-clause-open g c = none_both _ _ _ c.in_ok-sealed.ensures.open (open_met (g.J.Entering.account c.rebuilt.new.journal) (g.J.Entering.account c.repaired.new.self) c.in_ok-repaired.ensures.ends)
