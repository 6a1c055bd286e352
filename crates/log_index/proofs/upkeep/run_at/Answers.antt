use Rattle.std.proofs.Common.{◌≡◌, Some, None, arith, sym, ap, ◌∙◌}
use Rattle.std.specs.Prelude.{slice_get}
use Rattle.wal_record.specs.declared.analysis.Run.{Run}
use Rattle.log_index.proofs.Covering.{beyond, found_at, none_at, there}
use Rattle.log_index.proofs.upkeep.run_at.Goals as goal

pub returns-in_err-run : goal.returns-in_err-run
returns-in_err-run c apart =
    let none : slice_get c.args.runs.now c.ended_before.result ≡ None = beyond c.args.runs.now c.ended_before.result c.in_err-run.ensures.lookup.3 in
    c.from_residual.ensures ∙ sym (none_at c.args.lsn c.args.runs.now c.ended_before.result apart (c.ended_before.ensures.parts apart) (λ x e. absurd cc))

pub returns-then-run-lsn : goal.returns-then-run-lsn
returns-then-run-lsn c apart =
    let found = c.in_ok-run.ensures.lookup in
    ap (λ (r : Run). Some r) c.copy_of_run.ensures
    ∙ sym (found_at c.args.lsn c.args.runs.now c.ended_before.result c.in_ok-run.run'.now (c.ended_before.ensures.parts apart) (there c.args.runs.now c.ended_before.result c.in_ok-run.run'.now found.3.0 found.1) c.if-run-lsn.true)

pub returns-else-run-lsn : goal.returns-else-run-lsn
returns-else-run-lsn c apart =
    let found = c.in_ok-run.ensures.lookup in
    let here : slice_get c.args.runs.now c.ended_before.result ≡ Some c.in_ok-run.run'.now = there c.args.runs.now c.ended_before.result c.in_ok-run.run'.now found.3.0 found.1 in
    let behind = c.if-run-lsn.false in
    sym (none_at c.args.lsn c.args.runs.now c.ended_before.result apart (c.ended_before.ensures.parts apart) (λ x e.
    let same : c.in_ok-run.run'.now ≡ x = cc in
    let first = ap (λ (r : Run). r.first) same in
    omega (arith, behind, first)))
