use Rattle.std.proofs.Common.{Option, refl, subst, sym, ◌∙◌}
use Rattle.books.specs.Rights.{SessionClaim}
use Rattle.engine.specs.Applies.{MayRefuse}
use Rattle.engine.proofs.Declined.{declined_answers, declined_live, declined_none, failed_answers, failed_live, plain_gives, plain_or_none, same_holder}
use Rattle.engine.proofs.declining.decline.Goals as goal

pub refuse-declined-requires : goal.refuse-declined-requires
refuse-declined-requires g c =
    record { lawful = subst (λ (o : Option SessionClaim). MayRefuse g.N.Life.opens c.args.pass.now.log o c.args.request) (sym c.take.ensures.value ∙ c.in-Some.is) c.requires.may }

pub returns-in-Ok-clause-answers : goal.returns-in-Ok-clause-answers
returns-in-Ok-clause-answers g c =
    declined_answers g.N.Life.opens g.N.Life.entries g.N.Life.session_entries c.args.request _ _ c.args.pass.now c.refuse-declined.new.pass c.args.owner.now _ c.in-Some.right c.refuse-declined.new.s (sym c.take.ensures.value ∙ c.in-Some.is) refl c.requires.owner c.refuse-declined.result c.refuse-declined.ensures.entered c.refuse-declined.ensures.right c.in-Ok.at c.in-Ok.is

pub returns-in-Ok-clause-holder : goal.returns-in-Ok-clause-holder
returns-in-Ok-clause-holder g c =
    same_holder g.N.Life.opens g.N.Life.entries g.N.Life.session_entries c.args.request _ _ c.args.pass.now c.refuse-declined.new.pass c.args.owner.now _ c.in-Some.right c.refuse-declined.new.s (sym c.take.ensures.value ∙ c.in-Some.is) refl c.requires.owner c.refuse-declined.result c.refuse-declined.ensures.entered c.refuse-declined.ensures.right

pub returns-in-Ok-clause-live : goal.returns-in-Ok-clause-live
returns-in-Ok-clause-live g c =
    declined_live g.N.Life.opens g.N.Life.entries g.N.Life.session_entries c.args.request _ _ c.args.pass.now c.refuse-declined.new.pass c.args.owner.now _ c.in-Some.right c.refuse-declined.new.s (sym c.take.ensures.value ∙ c.in-Some.is) refl c.requires.owner c.refuse-declined.result c.refuse-declined.ensures.entered c.refuse-declined.ensures.right c.in-Ok.at c.in-Ok.is

pub returns-in-Ok-clause-none : goal.returns-in-Ok-clause-none
returns-in-Ok-clause-none g c =
    declined_none g.N.Life.opens g.N.Life.entries g.N.Life.session_entries c.args.request _ _ c.args.pass.now c.refuse-declined.new.pass c.args.owner.now _ c.in-Some.right c.refuse-declined.new.s (sym c.take.ensures.value ∙ c.in-Some.is) refl c.requires.owner c.refuse-declined.result c.refuse-declined.ensures.entered c.refuse-declined.ensures.right c.in-Ok.at c.in-Ok.is c.in-Ok.ensures.place

pub returns-in-Err-clause-answers : goal.returns-in-Err-clause-answers
returns-in-Err-clause-answers g c =
    failed_answers g.N.Life.opens g.N.Life.entries g.N.Life.session_entries c.args.request _ _ c.args.pass.now c.refuse-declined.new.pass c.args.owner.now _ c.in-Some.right c.refuse-declined.new.s (sym c.take.ensures.value ∙ c.in-Some.is) refl c.requires.owner c.refuse-declined.result c.refuse-declined.ensures.entered c.refuse-declined.ensures.right c.in-Err.fault c.in-Err.is c.in-Err.ensures.refused

pub returns-in-Err-clause-holder : goal.returns-in-Err-clause-holder
returns-in-Err-clause-holder g c =
    same_holder g.N.Life.opens g.N.Life.entries g.N.Life.session_entries c.args.request _ _ c.args.pass.now c.refuse-declined.new.pass c.args.owner.now _ c.in-Some.right c.refuse-declined.new.s (sym c.take.ensures.value ∙ c.in-Some.is) refl c.requires.owner c.refuse-declined.result c.refuse-declined.ensures.entered c.refuse-declined.ensures.right

pub returns-in-Err-clause-live : goal.returns-in-Err-clause-live
returns-in-Err-clause-live g c =
    failed_live g.N.Life.opens g.N.Life.entries g.N.Life.session_entries c.args.request _ _ c.args.pass.now c.refuse-declined.new.pass c.args.owner.now _ c.in-Some.right c.refuse-declined.new.s (sym c.take.ensures.value ∙ c.in-Some.is) refl c.requires.owner c.refuse-declined.result c.refuse-declined.ensures.entered c.refuse-declined.ensures.right c.in-Err.fault c.in-Err.is

pub returns-in-Err-clause-none : goal.returns-in-Err-clause-none
returns-in-Err-clause-none g c =
    plain_gives g.N.Life.opens c.args.request c.refuse-declined.new.pass.log c.in-Err.fault c.in-Err.ensures.refused

pub returns-in-Err-clause-refused : goal.returns-in-Err-clause-refused
returns-in-Err-clause-refused g c =
    plain_or_none c.in-Err.fault c.in-Err.ensures.refused
