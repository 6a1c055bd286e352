use Rattle.std.proofs.Common.{Bool, Option, ℕ, Some, ap, sym, subst, ◌∙◌}
use Rattle.std.specs.Prelude.{◌<◌}
use Rattle.books.specs.Rights.{SessionClaim}
use Rattle.engine.specs.Sittings.{HasNumber, IsSeated, Sitting, claim_or_none}
use Rattle.engine.proofs.Committed.{right_none, seated_committed}
use Rattle.engine.proofs.committing.commit.Goals as goal

pub invariant_of-session : goal.invariant_of-session
invariant_of-session g c =
    let is = (sym c.take.ensures.value ∙ c.in-Some.is) in
    let active : 0 < c.in-Some.right.tx = subst (λ (n : ℕ). 0 < n) (ap (λ (x : Sitting). x.claim.tx) (sym c.session.view_is) ∙ ap (λ (o : Option SessionClaim). (claim_or_none o).tx) is) (c.is_active.ensures.some c.if-not-is_active.false) in
    let number : HasNumber c.in-Some.right = subst (λ (o : Option SessionClaim). HasNumber (claim_or_none o)) is c.session.invariant.number in
    subst (λ (b : Bool). IsSeated g.N.Life.opens (Some c.commit-committed.new.s) c.commit-committed.new.pass.log b) (sym c.is_err-session-inside.ensures.value)
    (seated_committed g.N.Life.opens g.N.Life.entries g.N.Life.session_entries c.in-Some.right c.commit-committed.new.s c.commit-committed.ensures.holder active number c.commit-committed.result _ _ _ c.commit-committed.new.pass c.commit-committed.ensures.entered (right_none c.commit-committed.result c.commit-committed.new.s _ _ c.commit-committed.ensures.right))
