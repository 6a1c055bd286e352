use Rattle.std.proofs.Common.{get_or, length, sym, ◌∙◌}
use Rattle.std.proofs.lemmas.Result.{err_from_is_err_and}
use Rattle.store_model.proofs.Bools.{not_both}
use Rattle.vault_objects.proofs.Numbers.{eq_is, is_eq}
use Rattle.log_archive.proofs.Loops.{at_itself, chunks_end, chunks_fail, chunks_go_on, chunks_surplus}
use Rattle.log_archive.proofs.outline.chunks_at.Goals as goal

pub returns-then-is_empty : goal.returns-then-is_empty
returns-then-is_empty c = chunks_end c.args.size c.args.head c.loop-place.place c.args.entries.now c.loop-place.rest.now _ c.loop-place-test.false (eq_is (length c.loop-place.rest.now) 0 (sym c.is_empty.ensures ∙ c.if-is_empty.true)) c.loop-place.invariant

pub returns-else-is_empty : goal.returns-else-is_empty
returns-else-is_empty c = chunks_surplus c.args.size c.args.head c.loop-place.place c.args.entries.now c.loop-place.rest.now _ c.loop-place-test.false (λ none. not_both _ (is_eq (length c.loop-place.rest.now) 0 none) (sym c.is_empty.ensures ∙ c.if-is_empty.false)) c.loop-place.invariant

pub returns-in_err-rest : goal.returns-in_err-rest
returns-in_err-rest c =
    let p = err_from_is_err_and c.from_residual.result c.from_residual.ensures.1 in
    rw (p.1, p.2) (chunks_fail c.args.size c.args.head c.loop-place.place c.args.entries.now c.loop-place.rest.now c.in_err-rest.field-0.0 (get_or c.args.entries.now c.loop-place.place (record { page = 0; count = 0; offset = 0 })) _ c.loop-place-test.true (at_itself c.args.entries.now c.loop-place.place c.loop-place-test.true) c.in_err-rest.ensures c.loop-place.invariant)

pub loop-place-preserved : goal.loop-place-preserved
loop-place-preserved c =
    chunks_go_on c.args.size c.args.head c.loop-place.place c.args.entries.now c.loop-place.rest.now (get_or c.args.entries.now c.loop-place.place (record { page = 0; count = 0; offset = 0 })) c.in_ok-rest.rest.now _ c.loop-place-test.true (at_itself c.args.entries.now c.loop-place.place c.loop-place-test.true) c.in_ok-rest.ensures c.loop-place.invariant
