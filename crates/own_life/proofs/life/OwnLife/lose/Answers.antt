use Rattle.std.proofs.Common.{List, ap, subst, sym, ◌∙◌}
use Rattle.wal_record.specs.declared.entry.Entry.{Entry}
use Rattle.store_life.specs.SoFar.{actives}
use Rattle.store_life.specs.Turns.{IsLost}
use Rattle.own_life.specs.State.{LifeState}
use Rattle.own_life.proofs.Called.{ends, ends_done, flush_refused}
use Rattle.own_life.proofs.Going.{called_by, kept_by, names_left}
use Rattle.own_life.proofs.life.OwnLife.lose.Goals as goal

pub invariant_of-self : goal.invariant_of-self
invariant_of-self g c =
    let q = called_by c.self.inside.journal.counts c.self.inside.journal.journal c.self.inside.life c.args.self.now c.self.invariant c.self.view_is c.see_whole.ensures c.requires.open c.mark_lost-marked.ensures.keeps c.mark_lost-marked.ensures.durable in
    kept_by c.self.inside.journal.counts c.self.inside.journal.journal c.self.inside.life c.args.self.now c.self.invariant c.self.view_is c.see_whole.ensures c.mark_lost-marked.ensures.keeps c.mark_lost-marked.ensures.named (ends q g.N.Life.made c.mark_lost-marked.new.self.pass.log c.mark_lost-marked.result c.mark_lost-marked.ensures.ends)

pub returns-clause-entered : goal.returns-clause-entered
returns-clause-entered g c =
    subst (λ (s : LifeState). IsLost c.mark_lost-marked.result s.history c.see_whole.new.life.pass.log) c.self.view_is
    (subst (λ (l : List Entry). IsLost c.mark_lost-marked.result c.self.inside.life.pass.log l) (sym c.see_whole.ensures.history) c.mark_lost-marked.ensures.entered)

pub returns-clause-names : goal.returns-clause-names
returns-clause-names g c = names_left c.self.inside.journal.counts c.self.inside.journal.journal c.self.inside.life c.args.self.now c.self.invariant c.self.view_is c.see_whole.ensures c.args.self.now.active (ap (λ v. actives v.items) c.mark_lost-marked.ensures.names ∙ ap (λ (s : LifeState). s.active) c.self.view_is)

pub returns-clause-goes : goal.returns-clause-goes
returns-clause-goes g c =
    let q = called_by c.self.inside.journal.counts c.self.inside.journal.journal c.self.inside.life c.args.self.now c.self.invariant c.self.view_is c.see_whole.ensures c.requires.open c.mark_lost-marked.ensures.keeps c.mark_lost-marked.ensures.durable in
    ends_done q g.N.Life.made c.mark_lost-marked.new.self.pass.log c.mark_lost-marked.result c.mark_lost-marked.ensures.ends

pub returns-clause-refused : goal.returns-clause-refused
returns-clause-refused g c =
    let q = called_by c.self.inside.journal.counts c.self.inside.journal.journal c.self.inside.life c.args.self.now c.self.invariant c.self.view_is c.see_whole.ensures c.requires.open c.mark_lost-marked.ensures.keeps c.mark_lost-marked.ensures.durable in
    flush_refused q g.N.Life.made c.mark_lost-marked.new.self.pass.log c.mark_lost-marked.result c.mark_lost-marked.ensures.refused c.mark_lost-marked.ensures.ends
