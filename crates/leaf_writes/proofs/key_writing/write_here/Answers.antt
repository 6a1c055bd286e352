use Rattle.std.proofs.Common.{sym, ◌∙◌}
use Rattle.leaf_writes.proofs.KeyWritten.{agrees_of, agrees_split, answer_of, declined_of, declined_split, fit_alone, full_of, split_alone}
use Rattle.leaf_writes.proofs.key_writing.write_here.Goals as goal

pub returns-then-fits-clause-written : goal.returns-then-fits-clause-written
returns-then-fits-clause-written g c =
    fit_alone g.N.Life.opens g.N.Life.entries g.N.Life.session_entries c.args.change.now c.args.owner.now c.write_leaf.new.pass c.args.leaf.now c.write_leaf.new.leaf c.write_leaf.result _ _
    (sym c.requires.fits ∙ c.if-fits.true) c.write_leaf.ensures.asked c.write_leaf.ensures.done c.write_leaf.ensures.same

pub returns-else-fits-clause-written : goal.returns-else-fits-clause-written
returns-else-fits-clause-written g c =
    split_alone g.N.Life.opens g.N.Life.entries g.N.Life.session_entries c.args.change.now c.args.owner.now c.split_leaf.new.pass c.args.leaf.now c.split_leaf.new.leaf c.split_leaf.result _ _
    (sym c.requires.fits ∙ c.if-fits.false) c.split_leaf.ensures.split c.split_leaf.ensures.same

pub returns-else-fits-clause-answer : goal.returns-else-fits-clause-answer
returns-else-fits-clause-answer g c = answer_of g.N.Life.opens _ c.args.change.now c.args.owner.now c.args.leaf.now.page c.args.leaf.now.state c.split_leaf.result c.split_leaf.ensures.answer

pub returns-else-fits-clause-full : goal.returns-else-fits-clause-full
returns-else-fits-clause-full g c = full_of g.N.Life.opens _ c.args.change.now c.args.owner.now c.args.leaf.now.page c.args.leaf.now.state c.split_leaf.result c.split_leaf.ensures.full

pub returns-then-fits-clause-agrees : goal.returns-then-fits-clause-agrees
returns-then-fits-clause-agrees g c = agrees_of g.N.Life.opens g.N.Life.entries g.N.Life.session_entries _ c.write_leaf.result _ _ c.write_leaf.ensures.asked

pub returns-else-fits-clause-agrees : goal.returns-else-fits-clause-agrees
returns-else-fits-clause-agrees g c = agrees_split g.N.Life.opens g.N.Life.entries g.N.Life.session_entries _ _ _ _ _ _ c.split_leaf.result _ _ c.split_leaf.ensures.split

pub returns-then-fits-clause-declined : goal.returns-then-fits-clause-declined
returns-then-fits-clause-declined g c = declined_of g.N.Life.opens g.N.Life.entries g.N.Life.session_entries c.args.change.now c.args.owner.now c.args.leaf.now.page c.write_leaf.result _ _ c.write_leaf.ensures.asked

pub returns-else-fits-clause-declined : goal.returns-else-fits-clause-declined
returns-else-fits-clause-declined g c = declined_split g.N.Life.opens g.N.Life.entries g.N.Life.session_entries c.args.change.now c.args.owner.now c.args.leaf.now.page c.args.leaf.now.state c.args.change.now.key c.args.change.now.new c.split_leaf.new.pass c.args.leaf.now c.split_leaf.new.leaf c.split_leaf.result _ _ c.split_leaf.ensures.split
