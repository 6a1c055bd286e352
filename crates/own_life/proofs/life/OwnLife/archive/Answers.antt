use Rattle.std.proofs.Common.{List, ap, subst, sym, ◌∙◌}
use Rattle.wal_record.specs.declared.entry.Entry.{Entry}
use Rattle.store_life.specs.SoFar.{actives}
use Rattle.store_pages.specs.Backed.{Archives}
use Rattle.own_life.specs.State.{LifeState}
use Rattle.store_pages.proofs.Backed.{archive_later}
use Rattle.own_life.proofs.Called.{bring_refused, brings, meets_done}
use Rattle.own_life.proofs.Going.{called_by, kept_by, names_left}
use Rattle.own_life.proofs.life.OwnLife.archive.Goals as goal

pub invariant_of-self : goal.invariant_of-self
invariant_of-self g c =
    let q = called_by c.self.inside.journal.counts c.self.inside.journal.journal c.self.inside.life c.args.self.now c.self.invariant c.self.view_is c.see_whole.ensures c.requires.open c.archive-made.ensures.keeps c.archive-made.ensures.durable in
    kept_by c.self.inside.journal.counts c.self.inside.journal.journal c.self.inside.life c.args.self.now c.self.invariant c.self.view_is c.see_whole.ensures c.archive-made.ensures.keeps c.archive-made.ensures.named (brings q g.N.Life.made c.archive-made.new.life.pass.log _ _ c.archive-made.result c.archive-made.ensures.open c.archive-made.ensures.refused)

pub returns-clause-archives : goal.returns-clause-archives
returns-clause-archives g c =
    subst (λ (s : LifeState). Archives g.N.Life.opens c.archive-made.result s.history c.see_whole.new.life.pass.log c.see_whole.new.life.pass.durable) c.self.view_is
    (subst (λ (l : List Entry). Archives g.N.Life.opens c.archive-made.result c.self.inside.life.pass.log l c.see_whole.new.life.pass.durable) (sym c.see_whole.ensures.history)
    (archive_later g.N.Life.opens c.archive-made.result c.self.inside.life.pass.log c.archive-made.new.life.pass.log c.archive-made.new.life.pass.durable c.see_whole.new.life.pass.durable c.see_whole.ensures.later c.archive-made.ensures.archives))

pub returns-clause-names : goal.returns-clause-names
returns-clause-names g c = names_left c.self.inside.journal.counts c.self.inside.journal.journal c.self.inside.life c.args.self.now c.self.invariant c.self.view_is c.see_whole.ensures c.args.self.now.active (ap (λ v. actives v.items) c.archive-made.ensures.names ∙ ap (λ (s : LifeState). s.active) c.self.view_is)

pub returns-clause-goes : goal.returns-clause-goes
returns-clause-goes g c =
    let q = called_by c.self.inside.journal.counts c.self.inside.journal.journal c.self.inside.life c.args.self.now c.self.invariant c.self.view_is c.see_whole.ensures c.requires.open c.archive-made.ensures.keeps c.archive-made.ensures.durable in
    meets_done q g.N.Life.made c.archive-made.new.life.pass.log c.archive-made.result c.archive-made.ensures.open

pub returns-clause-refused : goal.returns-clause-refused
returns-clause-refused g c =
    let q = called_by c.self.inside.journal.counts c.self.inside.journal.journal c.self.inside.life c.args.self.now c.self.invariant c.self.view_is c.see_whole.ensures c.requires.open c.archive-made.ensures.keeps c.archive-made.ensures.durable in
    bring_refused q g.N.Life.made c.archive-made.new.life.pass.log _ _ c.archive-made.result c.archive-made.ensures.refused
