use Rattle.std.proofs.Common.{List, Some, ap, subst, sym, ◌∙◌, ◌≡◌}
use Rattle.wal_record.specs.declared.entry.Entry.{Entry}
use Rattle.command_laws.specs.Names.{Active, active_of}
use Rattle.own_journal.specs.Told.{told}
use Rattle.store_life.specs.SoFar.{left_by}
use Rattle.own_life.specs.State.{IsCommitted, LifeState}
use Rattle.own_life.proofs.Called.{commit_refused, ends, ends_done}
use Rattle.own_life.proofs.Committed.{committed}
use Rattle.own_life.proofs.Going.{called_by, kept_by, names_left, stands_for}
use Rattle.own_life.proofs.life.OwnLife.commit.Goals as goal

pub invariant_of-self : goal.invariant_of-self
invariant_of-self g c =
    let q = called_by c.self.inside.journal.counts c.self.inside.journal.journal c.self.inside.life c.args.self.now c.self.invariant c.self.view_is c.see_whole.ensures c.requires.open c.commit-committed.ensures.keeps c.commit-committed.ensures.durable in
    let there = stands_for c.self.inside.journal.counts c.self.inside.journal.journal c.self.inside.life c.args.self.now c.self.invariant c.self.view_is c.args.name.now c.requires.active in
    kept_by c.self.inside.journal.counts c.self.inside.journal.journal c.self.inside.life c.args.self.now c.self.invariant c.self.view_is c.see_whole.ensures c.commit-committed.ensures.keeps c.commit-committed.ensures.named (ends q g.N.Life.made c.commit-committed.new.self.pass.log c.commit-committed.result (c.commit-committed.ensures.ends there.0 there.1))

pub returns-clause-commits : goal.returns-clause-commits
returns-clause-commits g c =
    subst (λ (s : LifeState). (a : Active) → active_of s.active c.args.name.now ≡ Some a → IsCommitted g.N.Life.opens a.session a.tx c.commit-committed.result s.history c.see_whole.new.life.pass.log) c.self.view_is
    (λ a is. subst (λ (l : List Entry). IsCommitted g.N.Life.opens a.session a.tx c.commit-committed.result c.self.inside.life.pass.log l) (sym c.see_whole.ensures.history)
    (committed g.N.Life.opens a.session a.tx (told c.self.inside.journal.counts c.self.inside.journal.journal.calls) c.commit-committed.result c.self.inside.life.pass.log c.commit-committed.new.self.pass (c.commit-committed.ensures.commits a is)))

pub returns-clause-names : goal.returns-clause-names
returns-clause-names g c = names_left c.self.inside.journal.counts c.self.inside.journal.journal c.self.inside.life c.args.self.now c.self.invariant c.self.view_is c.see_whole.ensures (left_by c.commit-committed.result c.args.self.now.active c.args.name.now) (c.commit-committed.ensures.names ∙ ap (λ (s : LifeState). left_by c.commit-committed.result s.active c.args.name.now) c.self.view_is)

pub returns-clause-goes : goal.returns-clause-goes
returns-clause-goes g c =
    let q = called_by c.self.inside.journal.counts c.self.inside.journal.journal c.self.inside.life c.args.self.now c.self.invariant c.self.view_is c.see_whole.ensures c.requires.open c.commit-committed.ensures.keeps c.commit-committed.ensures.durable in
    let there = stands_for c.self.inside.journal.counts c.self.inside.journal.journal c.self.inside.life c.args.self.now c.self.invariant c.self.view_is c.args.name.now c.requires.active in
    ends_done q g.N.Life.made c.commit-committed.new.self.pass.log c.commit-committed.result (c.commit-committed.ensures.ends there.0 there.1)

pub returns-clause-refused : goal.returns-clause-refused
returns-clause-refused g c =
    let q = called_by c.self.inside.journal.counts c.self.inside.journal.journal c.self.inside.life c.args.self.now c.self.invariant c.self.view_is c.see_whole.ensures c.requires.open c.commit-committed.ensures.keeps c.commit-committed.ensures.durable in
    let there = stands_for c.self.inside.journal.counts c.self.inside.journal.journal c.self.inside.life c.args.self.now c.self.invariant c.self.view_is c.args.name.now c.requires.active in
    commit_refused q g.N.Life.made c.commit-committed.new.self.pass.log c.commit-committed.result (c.commit-committed.ensures.refused there.0 there.1) (c.commit-committed.ensures.ends there.0 there.1)
