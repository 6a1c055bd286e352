use Rattle.engine.proofs.Alone.{alone_agrees, alone_answers, alone_fails, alone_live, alone_owned, alone_said}
use Rattle.engine.proofs.telling.tell.Goals as goal

pub returns-in-Ok-clause-answers : goal.returns-in-Ok-clause-answers
returns-in-Ok-clause-answers g c =
    alone_answers g.N.Life.opens g.N.Life.entries g.N.Life.session_entries c.args.request c.args.leaf.now (g.J.Entering.account c.args.journal.now) (g.J.Entering.account c.say.new.journal) c.args.pass.now c.say.new.pass c.args.reply c.args.owner.now c.say.new.owner c.requires.owner c.args.told c.requires.same c.say.result c.say.ensures.says c.say.ensures.holder c.in-Ok.pos c.in-Ok.is c.say.ensures.made

pub returns-in-Ok-clause-said : goal.returns-in-Ok-clause-said
returns-in-Ok-clause-said g c =
    alone_said g.N.Life.opens g.N.Life.entries g.N.Life.session_entries c.args.request c.args.leaf.now (g.J.Entering.account c.args.journal.now) (g.J.Entering.account c.say.new.journal) c.args.pass.now c.say.new.pass c.args.reply c.args.owner.now c.say.new.owner c.requires.owner c.args.told c.requires.same c.say.result c.say.ensures.says c.say.ensures.holder c.in-Ok.pos c.in-Ok.is c.say.ensures.made c.in-Ok.ensures.place

pub returns-in-Ok-clause-agrees : goal.returns-in-Ok-clause-agrees
returns-in-Ok-clause-agrees g c =
    alone_agrees g.N.Life.opens g.N.Life.entries g.N.Life.session_entries c.args.request c.args.leaf.now (g.J.Entering.account c.args.journal.now) (g.J.Entering.account c.say.new.journal) c.args.pass.now c.say.new.pass c.args.reply c.args.owner.now c.say.new.owner c.requires.owner c.args.told c.requires.same c.say.result c.say.ensures.says c.say.ensures.holder c.in-Ok.pos c.in-Ok.is c.say.ensures.made

pub returns-in-Ok-clause-live : goal.returns-in-Ok-clause-live
returns-in-Ok-clause-live g c =
    alone_live g.N.Life.opens g.N.Life.entries g.N.Life.session_entries c.args.request c.args.leaf.now (g.J.Entering.account c.args.journal.now) (g.J.Entering.account c.say.new.journal) c.args.pass.now c.say.new.pass c.args.reply c.args.owner.now c.say.new.owner c.requires.owner c.args.told c.requires.same c.say.result c.say.ensures.says c.say.ensures.holder c.in-Ok.pos c.in-Ok.is c.say.ensures.made

pub returns-in-Err-clause-answers : goal.returns-in-Err-clause-answers
returns-in-Err-clause-answers g c =
    alone_fails g.N.Life.opens g.N.Life.entries g.N.Life.session_entries c.args.request c.args.leaf.now (g.J.Entering.account c.args.journal.now) (g.J.Entering.account c.say.new.journal) c.args.pass.now c.say.new.pass c.args.reply c.args.owner.now c.say.new.owner c.requires.owner c.args.told c.requires.same c.say.result c.say.ensures.says c.say.ensures.holder c.in-Err.fault c.in-Err.is c.in-Err.ensures.refused

pub returns-in-Err-clause-live : goal.returns-in-Err-clause-live
returns-in-Err-clause-live g c =
    alone_owned g.N.Life.opens g.N.Life.entries g.N.Life.session_entries c.args.request c.args.leaf.now (g.J.Entering.account c.args.journal.now) (g.J.Entering.account c.say.new.journal) c.args.pass.now c.say.new.pass c.args.reply c.args.owner.now c.say.new.owner c.requires.owner c.args.told c.requires.same c.say.result c.say.ensures.says c.say.ensures.holder c.in-Err.fault c.in-Err.is c.in-Err.ensures.holder.same
