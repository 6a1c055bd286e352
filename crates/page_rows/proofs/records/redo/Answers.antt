use Rattle.page_rows.proofs.Rules.{result_keeps}
use Rattle.page_rows.proofs.records.redo.Goals as goal

pub returns-clause-rules : goal.returns-clause-rules
returns-clause-rules g c = result_keeps c.args.entry.now c.args.page c.args.state.now c.redo_kind.new.state c.requires.spelling c.requires.rules c.redo_kind.result c.redo_kind.ensures.done c.redo_kind.ensures.err
