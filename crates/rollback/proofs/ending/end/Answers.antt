use Rattle.std.proofs.Common.{ap, ◌∙◌}
use Rattle.page_ops.specs.Claims.{Claims}
use Rattle.page_ops.proofs.Composing.{ends_then}
use Rattle.rollback.proofs.Ends.{gains_end, has_ended, may_end}
use Rattle.rollback.proofs.ending.end.Goals as goal

pub ask-entered-requires : goal.ask-entered-requires
ask-entered-requires g c =
    may_end g.N.Life.opens c.args.pass.now.log c.see.new.pass.log c.args.tx c.requires.number c.see.ensures.seen.now.begins c.requires.nothing c.args.owner.now c.see.new.rights c.group_of.result (c.see.ensures.same ∙ (λ i. record { a = ((c.rights.view_is ∙ c.none-rights.ensures) i).a; b = ((c.rights.view_is ∙ c.none-rights.ensures) i).b; c = ((c.rights.view_is ∙ c.none-rights.ensures) i).c; s = c.take.ensures.value i; m = ((c.rights.view_is ∙ c.none-rights.ensures) i).m })) c.see.ensures.seen.now.consistent c.requires.owner c.group_of.ensures

pub returns-clause-ended : goal.returns-clause-ended
returns-clause-ended g c =
    has_ended g.N.Life.opens g.N.Life.entries g.N.Life.session_entries c.args.tx c.requires.number c.args.pass.now.log c.args.owner.now c.requires.owner (g.J.Entering.account c.args.journal.now) (g.J.Entering.account c.see.new.self) (g.J.Entering.account c.ask-entered.new.journal) c.args.pass.now c.see.new.pass c.ask-entered.new.pass _ c.see.new.rights c.ask-entered.new.rights (c.see.ensures.same ∙ (λ i. record { a = ((c.rights.view_is ∙ c.none-rights.ensures) i).a; b = ((c.rights.view_is ∙ c.none-rights.ensures) i).b; c = ((c.rights.view_is ∙ c.none-rights.ensures) i).c; s = c.take.ensures.value i; m = ((c.rights.view_is ∙ c.none-rights.ensures) i).m })) c.see.ensures.seen c.group_of.result c.group_of.ensures c.ask-entered.result c.ask-entered.ensures.asked
    c.ask-entered.ensures.same c.ask-entered.ensures.holders c.ask-entered.ensures.answer c.take-2.result (c.take-2.ensures.value ∙ ap (λ (w : Claims). w.s) c.rights-2.view_is)

pub returns-clause-gains : goal.returns-clause-gains
returns-clause-gains g c = gains_end g.N.Life.opens g.N.Life.entries g.N.Life.session_entries c.args.tx c.requires.number c.args.pass.now.log c.args.owner.now c.requires.owner (g.J.Entering.account c.args.journal.now) (g.J.Entering.account c.see.new.self) (g.J.Entering.account c.ask-entered.new.journal) c.args.pass.now c.see.new.pass c.ask-entered.new.pass _ c.see.new.rights c.ask-entered.new.rights (c.see.ensures.same ∙ (λ i. record { a = ((c.rights.view_is ∙ c.none-rights.ensures) i).a; b = ((c.rights.view_is ∙ c.none-rights.ensures) i).b; c = ((c.rights.view_is ∙ c.none-rights.ensures) i).c; s = c.take.ensures.value i; m = ((c.rights.view_is ∙ c.none-rights.ensures) i).m })) c.see.ensures.seen c.group_of.result c.group_of.ensures c.ask-entered.result c.ask-entered.ensures.asked

pub returns-clause-ends : goal.returns-clause-ends
returns-clause-ends g c = ends_then g.N.Life.opens g.N.Life.log_faults g.N.Life.made (g.J.Entering.account c.args.journal.now) (g.J.Entering.account c.see.new.self) (g.J.Entering.account c.ask-entered.new.journal) c.ask-entered.new.pass.log c.see.ensures.calm.end c.see.ensures.seen.keeps c.ask-entered.result c.ask-entered.ensures.ends
