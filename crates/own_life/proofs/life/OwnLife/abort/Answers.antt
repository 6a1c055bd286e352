use Rattle.std.proofs.Common.{List, Some, ap, subst, sym, ◌∙◌, ◌≡◌}
use Rattle.wal_record.specs.declared.entry.Entry.{Entry}
use Rattle.command_laws.specs.Names.{Active, active_of}
use Rattle.store_life.specs.SoFar.{left_by}
use Rattle.store_life.specs.Turns.{EndsBy}
use Rattle.own_life.specs.State.{LifeState}
use Rattle.own_life.proofs.Called.{bring_refused, brings, meets_done}
use Rattle.own_life.proofs.Going.{called_by, kept_by, names_left}
use Rattle.own_life.proofs.life.OwnLife.abort.Goals as goal

pub invariant_of-self : goal.invariant_of-self
invariant_of-self g c =
    let q = called_by c.self.inside.journal.counts c.self.inside.journal.journal c.self.inside.life c.args.self.now c.self.invariant c.self.view_is c.see_whole.ensures c.requires.open c.abort-ended.ensures.keeps c.abort-ended.ensures.durable in
    kept_by c.self.inside.journal.counts c.self.inside.journal.journal c.self.inside.life c.args.self.now c.self.invariant c.self.view_is c.see_whole.ensures c.abort-ended.ensures.keeps c.abort-ended.ensures.named (brings q g.N.Life.made c.abort-ended.new.life.pass.log _ _ c.abort-ended.result c.abort-ended.ensures.open c.abort-ended.ensures.refused)

pub returns-clause-aborts : goal.returns-clause-aborts
returns-clause-aborts g c =
    subst (λ (s : LifeState). (a : Active) → active_of s.active c.args.name.now ≡ Some a → EndsBy g.N.Life.opens a.tx c.abort-ended.result s.history c.see_whole.new.life.pass.log) c.self.view_is
    (λ a is. subst (λ (l : List Entry). EndsBy g.N.Life.opens a.tx c.abort-ended.result c.self.inside.life.pass.log l) (sym c.see_whole.ensures.history) (c.abort-ended.ensures.aborts a is))

pub returns-clause-names : goal.returns-clause-names
returns-clause-names g c =
    names_left c.self.inside.journal.counts c.self.inside.journal.journal c.self.inside.life c.args.self.now c.self.invariant c.self.view_is c.see_whole.ensures (left_by c.abort-ended.result c.args.self.now.active c.args.name.now) (c.abort-ended.ensures.names ∙ ap (λ (s : LifeState). left_by c.abort-ended.result s.active c.args.name.now) c.self.view_is)

pub returns-clause-goes : goal.returns-clause-goes
returns-clause-goes g c =
    let q = called_by c.self.inside.journal.counts c.self.inside.journal.journal c.self.inside.life c.args.self.now c.self.invariant c.self.view_is c.see_whole.ensures c.requires.open c.abort-ended.ensures.keeps c.abort-ended.ensures.durable in
    meets_done q g.N.Life.made c.abort-ended.new.life.pass.log c.abort-ended.result c.abort-ended.ensures.open

pub returns-clause-refused : goal.returns-clause-refused
returns-clause-refused g c =
    let q = called_by c.self.inside.journal.counts c.self.inside.journal.journal c.self.inside.life c.args.self.now c.self.invariant c.self.view_is c.see_whole.ensures c.requires.open c.abort-ended.ensures.keeps c.abort-ended.ensures.durable in
    bring_refused q g.N.Life.made c.abort-ended.new.life.pass.log _ _ c.abort-ended.result c.abort-ended.ensures.refused
