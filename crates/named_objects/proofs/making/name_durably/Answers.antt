use Rattle.std.proofs.Common.{Ok, ◌∙◌, arith}
use Rattle.std.proofs.lemmas.Result.{err_from_is_err_and}
use Rattle.named_objects.proofs.MadeObjects.{calm_sessions, flush_fails, gained_at, gained_then, name_fails, placed_at, refused_flush, session_at, still_placed}
use Rattle.named_objects.proofs.making.name_durably.Goals as goal

pub returns-in_err-flush-clause-entered : goal.returns-in_err-flush-clause-entered
returns-in_err-flush-clause-entered g c =
    let p = err_from_is_err_and c.from_residual-in_err-flush.result c.from_residual-in_err-flush.ensures.1 in
    rw (p.1, p.2) (refused_flush _ _ _ c.args.naming _ _ _ _ _ _ c.in-At.lsn _ c.in_err-flush.ensures.refused (gained_at _ _ _ c.args.naming _ _ _ _ c.in-At.lsn _ (λ i. Ok (c.in-At.is i)) c.in_ok-lsn.ensures.entered) c.flush.ensures.seen)

pub returns-in_err-flush-clause-sessions : goal.returns-in_err-flush-clause-sessions
returns-in_err-flush-clause-sessions g c = calm_sessions _ _ _ _ _ _ _ c.flush.ensures.seen ∙ session_at _ _ _ c.args.naming _ _ _ _ c.in-At.lsn _ (λ i. Ok (c.in-At.is i)) c.in_ok-lsn.ensures.entered

pub returns-in_err-flush-clause-refused : goal.returns-in_err-flush-clause-refused
returns-in_err-flush-clause-refused g c =
    let p = err_from_is_err_and c.from_residual-in_err-flush.result c.from_residual-in_err-flush.ensures.1 in
    let a = g.J.Entering.account c.args.journal.now in
    let b = g.J.Entering.account c.done.new.journal in
    let v = g.O.Objects.faults c.args.objects.now in
    rw (p.1, p.2) (name_fails _ _ _ v v _ a b _ _ _ c.in_ok-lsn.ensures.open c.in_ok-lsn.ensures.entered.keeps (omega arith) (flush_fails _ _ _ v _ b _ _ _ c.in_err-flush.ensures.refused c.in_err-flush.ensures.ends))

pub returns-clause-entered : goal.returns-clause-entered
returns-clause-entered g c = gained_then _ _ _ c.args.naming _ _ _ _ _ _ c.in-At.lsn (gained_at _ _ _ c.args.naming _ _ _ _ c.in-At.lsn _ (λ i. Ok (c.in-At.is i)) c.in_ok-lsn.ensures.entered) c.flush.ensures.seen

pub returns-clause-durable : goal.returns-clause-durable
returns-clause-durable g c opening stands =
    still_placed _ _ _ _ _ _ _ c.flush.ensures.seen c.in-At.lsn opening (placed_at _ _ _ c.args.naming _ _ _ _ c.in-At.lsn _ (λ i. Ok (c.in-At.is i)) c.in_ok-lsn.ensures.entered opening stands) (c.in_ok-flush.ensures.durable opening stands)

pub returns-clause-sessions : goal.returns-clause-sessions
returns-clause-sessions g c = calm_sessions _ _ _ _ _ _ _ c.flush.ensures.seen ∙ session_at _ _ _ c.args.naming _ _ _ _ c.in-At.lsn _ (λ i. Ok (c.in-At.is i)) c.in_ok-lsn.ensures.entered
