use Rattle.std.proofs.Common.{List, ap, subst, sym, ◌∙◌}
use Rattle.wal_record.specs.declared.entry.Entry.{Entry}
use Rattle.store_life.specs.SoFar.{actives}
use Rattle.store_pages.specs.Backed.{ArchivesNext}
use Rattle.own_life.specs.State.{LifeState}
use Rattle.store_pages.proofs.Backed.{next_later}
use Rattle.own_life.proofs.Called.{bring_refused, brings, meets_done}
use Rattle.own_life.proofs.Going.{called_by, kept_by, names_left}
use Rattle.own_life.proofs.life.OwnLife.archive_next.Goals as goal

pub invariant_of-self : goal.invariant_of-self
invariant_of-self g c =
    let q = called_by c.self.inside.journal.counts c.self.inside.journal.journal c.self.inside.life c.args.self.now c.self.invariant c.self.view_is c.see_whole.ensures c.requires.open c.archive_next-made.ensures.keeps c.archive_next-made.ensures.durable in
    kept_by c.self.inside.journal.counts c.self.inside.journal.journal c.self.inside.life c.args.self.now c.self.invariant c.self.view_is c.see_whole.ensures c.archive_next-made.ensures.keeps c.archive_next-made.ensures.named (brings q g.N.Life.made c.archive_next-made.new.life.pass.log _ _ c.archive_next-made.result c.archive_next-made.ensures.open c.archive_next-made.ensures.refused)

pub returns-clause-archives : goal.returns-clause-archives
returns-clause-archives g c =
    let later = c.see_whole.new.life.pass.durable in
    subst (λ (s : LifeState). ArchivesNext g.N.Life.opens c.archive_next-made.result s.history c.see_whole.new.life.pass.log s.durable later) c.self.view_is
    (subst (λ (l : List Entry). ArchivesNext g.N.Life.opens c.archive_next-made.result c.self.inside.life.pass.log l c.self.inside.life.pass.durable later) (sym c.see_whole.ensures.history)
    (next_later g.N.Life.opens c.archive_next-made.result c.self.inside.life.pass.log c.archive_next-made.new.life.pass.log c.self.inside.life.pass.durable c.archive_next-made.new.life.pass.durable later c.see_whole.ensures.later c.archive_next-made.ensures.archives))

pub returns-clause-names : goal.returns-clause-names
returns-clause-names g c = names_left c.self.inside.journal.counts c.self.inside.journal.journal c.self.inside.life c.args.self.now c.self.invariant c.self.view_is c.see_whole.ensures c.args.self.now.active (ap (λ v. actives v.items) c.archive_next-made.ensures.names ∙ ap (λ (s : LifeState). s.active) c.self.view_is)

pub returns-clause-goes : goal.returns-clause-goes
returns-clause-goes g c =
    let q = called_by c.self.inside.journal.counts c.self.inside.journal.journal c.self.inside.life c.args.self.now c.self.invariant c.self.view_is c.see_whole.ensures c.requires.open c.archive_next-made.ensures.keeps c.archive_next-made.ensures.durable in
    meets_done q g.N.Life.made c.archive_next-made.new.life.pass.log c.archive_next-made.result c.archive_next-made.ensures.open

pub returns-clause-refused : goal.returns-clause-refused
returns-clause-refused g c =
    let q = called_by c.self.inside.journal.counts c.self.inside.journal.journal c.self.inside.life c.args.self.now c.self.invariant c.self.view_is c.see_whole.ensures c.requires.open c.archive_next-made.ensures.keeps c.archive_next-made.ensures.durable in
    bring_refused q g.N.Life.made c.archive_next-made.new.life.pass.log _ _ c.archive_next-made.result c.archive_next-made.ensures.refused
