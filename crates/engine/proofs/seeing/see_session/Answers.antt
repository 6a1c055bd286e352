use Rattle.std.proofs.Common.{[], ap, subst, ◌∙◌}
use Rattle.page_ops.specs.Claims.{session_alone}
use Rattle.page_ops.specs.Seeing.{Enters, known}
use Rattle.engine.specs.Sittings.{Sitting, claim_or_none, known_by}
use Rattle.engine.proofs.Shown.{seated_shown, shown}
use Rattle.engine.proofs.seeing.see_session.Goals as goal

pub invariant_of-session : goal.invariant_of-session
invariant_of-session g c =
    seated_shown g.N.Life.opens c.session.inside.right c.see_owner.new.owner c.session.inside.pass.log c.see_owner.new.pass.log _ c.see_owner.ensures.same c.see_owner.ensures.seen.now.begins c.session.invariant

pub returns-clause-claim : goal.returns-clause-claim
returns-clause-claim g c = ap claim_or_none c.see_owner.ensures.same ∙ ap (λ (x : Sitting). x.claim) c.session.view_is

pub returns-clause-seen : goal.returns-clause-seen
returns-clause-seen g c =
    subst (λ (x : Sitting). Enters g.N.Life.opens g.N.Life.entries g.N.Life.session_entries (known_by (g.J.Entering.account c.args.journal.now) x) [] (known (g.J.Entering.account c.see_owner.new.journal) c.see_owner.new.pass (session_alone (claim_or_none c.see_owner.new.owner)))) c.session.view_is
    (shown g.N.Life.opens g.N.Life.entries g.N.Life.session_entries (g.J.Entering.account c.args.journal.now) (g.J.Entering.account c.see_owner.new.journal) c.session.inside.pass c.see_owner.new.pass c.session.inside.right c.see_owner.new.owner c.session.invariant.there c.see_owner.ensures.same c.see_owner.ensures.seen)
