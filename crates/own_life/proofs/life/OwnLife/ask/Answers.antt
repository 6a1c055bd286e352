use Rattle.std.proofs.Common.{List, Some, ap, subst, sym, ◌∙◌, ◌≡◌}
use Rattle.std.specs.Prelude.{IfErr, IfOk}
use Rattle.wal_record.specs.declared.entry.Entry.{Entry}
use Rattle.command_laws.specs.Names.{Active, active_of}
use Rattle.engine.specs.Applies.{GivesNone}
use Rattle.engine.specs.Requests.{IsRefusal, lock_of}
use Rattle.engine.specs.Writes.{LacksRoom}
use Rattle.page_ops.specs.Outcomes.{IsConflict}
use Rattle.store_life.specs.Turns.{Asks, IsTold}
use Rattle.own_life.specs.State.{LifeState}
use Rattle.own_life.proofs.Called.{answer_refused, asks, meets_done}
use Rattle.own_life.proofs.Going.{called_by, kept_by, names_left}
use Rattle.own_life.proofs.life.OwnLife.ask.Goals as goal

pub invariant_of-self : goal.invariant_of-self
invariant_of-self g c =
    let q = called_by c.self.inside.journal.counts c.self.inside.journal.journal c.self.inside.life c.args.self.now c.self.invariant c.self.view_is c.see_whole.ensures c.requires.open c.ask-answered.ensures.keeps c.ask-answered.ensures.durable in
    kept_by c.self.inside.journal.counts c.self.inside.journal.journal c.self.inside.life c.args.self.now c.self.invariant c.self.view_is c.see_whole.ensures c.ask-answered.ensures.keeps c.ask-answered.ensures.named (asks q g.N.Life.made c.ask-answered.new.life.pass.log _ _ (IsRefusal c.args.request) c.ask-answered.result c.ask-answered.ensures.open c.ask-answered.ensures.refused)

pub returns-clause-asks : goal.returns-clause-asks
returns-clause-asks g c =
    subst (λ (s : LifeState). (a : Active) → active_of s.active c.args.name.now ≡ Some a → Asks g.N.Life.opens a.session a.tx c.args.request c.ask-answered.result s.history c.see_whole.new.life.pass.log) c.self.view_is
    (λ a is. subst (λ (l : List Entry). Asks g.N.Life.opens a.session a.tx c.args.request c.ask-answered.result c.self.inside.life.pass.log l) (sym c.see_whole.ensures.history) (c.ask-answered.ensures.asks a is))

pub returns-clause-told : goal.returns-clause-told
returns-clause-told g c =
    subst (λ (s : LifeState). (a : Active) → active_of s.active c.args.name.now ≡ Some a → IfOk c.ask-answered.result (IsTold g.N.Life.opens a.session a.tx c.args.request c.see_whole.new.life.pass.log)) c.self.view_is
    (λ a is. subst (λ (l : List Entry). IfOk c.ask-answered.result (IsTold g.N.Life.opens a.session a.tx c.args.request l)) (sym c.see_whole.ensures.history) (c.ask-answered.ensures.told a is))

pub returns-clause-names : goal.returns-clause-names
returns-clause-names g c = names_left c.self.inside.journal.counts c.self.inside.journal.journal c.self.inside.life c.args.self.now c.self.invariant c.self.view_is c.see_whole.ensures c.args.self.now.active (c.ask-answered.ensures.names ∙ ap (λ (s : LifeState). s.active) c.self.view_is)

pub returns-clause-conflict : goal.returns-clause-conflict
returns-clause-conflict g c = subst (λ (l : List Entry). IfErr c.ask-answered.result (IsConflict g.N.Life.opens l (lock_of c.args.request))) (sym c.see_whole.ensures.history) c.ask-answered.ensures.conflict

pub returns-clause-full : goal.returns-clause-full
returns-clause-full g c = subst (λ (l : List Entry). IfErr c.ask-answered.result (LacksRoom g.N.Life.opens l)) (sym c.see_whole.ensures.history) c.ask-answered.ensures.full

pub returns-clause-gives_none : goal.returns-clause-gives_none
returns-clause-gives_none g c = subst (λ (l : List Entry). IfErr c.ask-answered.result (GivesNone g.N.Life.opens c.args.request l)) (sym c.see_whole.ensures.history) c.ask-answered.ensures.gives_none

pub returns-clause-goes : goal.returns-clause-goes
returns-clause-goes g c =
    let q = called_by c.self.inside.journal.counts c.self.inside.journal.journal c.self.inside.life c.args.self.now c.self.invariant c.self.view_is c.see_whole.ensures c.requires.open c.ask-answered.ensures.keeps c.ask-answered.ensures.durable in
    meets_done q g.N.Life.made c.ask-answered.new.life.pass.log c.ask-answered.result c.ask-answered.ensures.open

pub returns-clause-refused : goal.returns-clause-refused
returns-clause-refused g c =
    let q = called_by c.self.inside.journal.counts c.self.inside.journal.journal c.self.inside.life c.args.self.now c.self.invariant c.self.view_is c.see_whole.ensures c.requires.open c.ask-answered.ensures.keeps c.ask-answered.ensures.durable in
    answer_refused q g.N.Life.made c.ask-answered.new.life.pass.log _ _ (IsRefusal c.args.request) c.ask-answered.result c.ask-answered.ensures.refused
