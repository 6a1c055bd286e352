use Rattle.std.proofs.Common.{sym, subst, ◌∙◌}
use Rattle.std.specs.Prelude.{IsTrue}
use Rattle.wal_record.specs.Chains.{names}
use Rattle.wal_record.specs.declared.record.Record.{Record}
use Rattle.wal_record.specs.declared.record.Record.TheVariants as kinds
use Rattle.page_rows.specs.Redo.{Redone}
use Rattle.page_rows.proofs.Lifts.{redone, format_applied, purge_applied}
use Rattle.page_rows.proofs.records.redo_kind.Goals as goal

pub returns-in-Format-clause-done : goal.returns-in-Format-clause-done
returns-in-Format-clause-done g c =
    let named = subst (λ (r : Record). IsTrue (names c.args.page r)) c.in-Format.is (sym c.names.ensures ∙ c.if-not-names.false) in
    subst (λ (r : Record). Redone r c.args.page c.args.state.now c.redo_format.new.state c.redo_format.result) (sym c.in-Format.is)
    (redone (kinds.Format c.in-Format.field-0) c.args.page c.args.state.now c.redo_format.new.state c.redo_format.result named (format_applied c.in-Format.field-0 c.args.page c.args.state.now c.redo_format.new.state c.redo_format.result c.redo_format.ensures))

pub returns-in-Purge-clause-done : goal.returns-in-Purge-clause-done
returns-in-Purge-clause-done g c =
    let named = subst (λ (r : Record). IsTrue (names c.args.page r)) c.in-Purge.is (sym c.names.ensures ∙ c.if-not-names.false) in
    subst (λ (r : Record). Redone r c.args.page c.args.state.now c.redo_purge.new.state c.redo_purge.result) (sym c.in-Purge.is)
    (redone (kinds.Purge c.in-Purge.field-0) c.args.page c.args.state.now c.redo_purge.new.state c.redo_purge.result named (purge_applied c.in-Purge.field-0 c.args.page c.args.state.now c.redo_purge.new.state c.redo_purge.result c.redo_purge.ensures))
