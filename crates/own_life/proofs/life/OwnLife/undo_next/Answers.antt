use Rattle.std.proofs.Common.{List, ap, subst, sym, ◌∙◌}
use Rattle.wal_record.specs.declared.entry.Entry.{Entry}
use Rattle.store_life.specs.SoFar.{actives}
use Rattle.store_life.specs.Steps.{StepsBack}
use Rattle.own_life.specs.State.{LifeState}
use Rattle.own_life.proofs.Called.{bring_refused, brings, meets_done}
use Rattle.own_life.proofs.Going.{called_by, kept_by, names_left}
use Rattle.own_life.proofs.life.OwnLife.undo_next.Goals as goal

pub invariant_of-self : goal.invariant_of-self
invariant_of-self g c =
    let q = called_by c.self.inside.journal.counts c.self.inside.journal.journal c.self.inside.life c.args.self.now c.self.invariant c.self.view_is c.see_whole.ensures c.requires.open c.undo_next-undone.ensures.keeps c.undo_next-undone.ensures.durable in
    kept_by c.self.inside.journal.counts c.self.inside.journal.journal c.self.inside.life c.args.self.now c.self.invariant c.self.view_is c.see_whole.ensures c.undo_next-undone.ensures.keeps c.undo_next-undone.ensures.named (brings q g.N.Life.made c.undo_next-undone.new.life.pass.log _ _ c.undo_next-undone.result c.undo_next-undone.ensures.open c.undo_next-undone.ensures.refused)

pub returns-clause-steps : goal.returns-clause-steps
returns-clause-steps g c =
    subst (λ (s : LifeState). StepsBack g.N.Life.opens c.undo_next-undone.result s.history c.see_whole.new.life.pass.log) c.self.view_is
    (subst (λ (l : List Entry). StepsBack g.N.Life.opens c.undo_next-undone.result c.self.inside.life.pass.log l) (sym c.see_whole.ensures.history) c.undo_next-undone.ensures.steps)

pub returns-clause-names : goal.returns-clause-names
returns-clause-names g c = names_left c.self.inside.journal.counts c.self.inside.journal.journal c.self.inside.life c.args.self.now c.self.invariant c.self.view_is c.see_whole.ensures c.args.self.now.active (ap (λ v. actives v.items) c.undo_next-undone.ensures.names ∙ ap (λ (s : LifeState). s.active) c.self.view_is)

pub returns-clause-goes : goal.returns-clause-goes
returns-clause-goes g c =
    let q = called_by c.self.inside.journal.counts c.self.inside.journal.journal c.self.inside.life c.args.self.now c.self.invariant c.self.view_is c.see_whole.ensures c.requires.open c.undo_next-undone.ensures.keeps c.undo_next-undone.ensures.durable in
    meets_done q g.N.Life.made c.undo_next-undone.new.life.pass.log c.undo_next-undone.result c.undo_next-undone.ensures.open

pub returns-clause-refused : goal.returns-clause-refused
returns-clause-refused g c =
    let q = called_by c.self.inside.journal.counts c.self.inside.journal.journal c.self.inside.life c.args.self.now c.self.invariant c.self.view_is c.see_whole.ensures c.requires.open c.undo_next-undone.ensures.keeps c.undo_next-undone.ensures.durable in
    bring_refused q g.N.Life.made c.undo_next-undone.new.life.pass.log _ _ c.undo_next-undone.result c.undo_next-undone.ensures.refused
