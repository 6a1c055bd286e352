use Rattle.std.proofs.Common.{sym, ◌∙◌}
use Rattle.engine.proofs.Owned.{seated_begun}
use Rattle.engine.proofs.beginning.begin.Goals as goal

pub invariant_of-session : goal.invariant_of-session
invariant_of-session g c =
    seated_begun g.N.Life.opens g.N.Life.entries g.N.Life.session_entries _ _ c.begin-begun.new.pass c.in-Some.right c.begin-begun.new.s c.begin-begun.result (sym c.is_ok.ensures.value ∙ c.if-is_ok.true) c.begin-begun.ensures.right c.begin-begun.ensures.number c.begin-begun.ensures.entered
