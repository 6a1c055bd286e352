use Rattle.std.proofs.Common.{List, ap, subst, sym, ◌∙◌}
use Rattle.std.specs.Prelude.{IfNone, IfOk}
use Rattle.wal_record.specs.declared.entry.Entry.{Entry}
use Rattle.store_life.specs.SoFar.{actives}
use Rattle.store_life.specs.Steps.{AddsUpkeep}
use Rattle.store_pages.specs.Pages.{AreRestored}
use Rattle.own_life.specs.State.{LifeState}
use Rattle.own_life.proofs.Called.{bring_refused, brings, meets_done}
use Rattle.own_life.proofs.Going.{called_by, kept_by, names_left}
use Rattle.own_life.proofs.life.OwnLife.bring_next.Goals as goal

pub invariant_of-self : goal.invariant_of-self
invariant_of-self g c =
    let q = called_by c.self.inside.journal.counts c.self.inside.journal.journal c.self.inside.life c.args.self.now c.self.invariant c.self.view_is c.see_whole.ensures c.requires.open c.bring_next-brought.ensures.keeps c.bring_next-brought.ensures.durable in
    kept_by c.self.inside.journal.counts c.self.inside.journal.journal c.self.inside.life c.args.self.now c.self.invariant c.self.view_is c.see_whole.ensures c.bring_next-brought.ensures.keeps c.bring_next-brought.ensures.named (brings q g.N.Life.made c.bring_next-brought.new.life.pass.log _ _ c.bring_next-brought.result c.bring_next-brought.ensures.open c.bring_next-brought.ensures.refused)

pub returns-clause-restored : goal.returns-clause-restored
returns-clause-restored g c = subst (λ (l : List Entry). IfOk c.bring_next-brought.result (λ page. IfNone page (AreRestored g.N.Life.opens l))) (sym c.see_whole.ensures.history) c.bring_next-brought.ensures.restored

pub returns-clause-upkeep : goal.returns-clause-upkeep
returns-clause-upkeep g c =
    subst (λ (s : LifeState). AddsUpkeep s.history c.see_whole.new.life.pass.log) c.self.view_is
    (subst (λ (l : List Entry). AddsUpkeep c.self.inside.life.pass.log l) (sym c.see_whole.ensures.history) c.bring_next-brought.ensures.upkeep)

pub returns-clause-names : goal.returns-clause-names
returns-clause-names g c = names_left c.self.inside.journal.counts c.self.inside.journal.journal c.self.inside.life c.args.self.now c.self.invariant c.self.view_is c.see_whole.ensures c.args.self.now.active (ap (λ v. actives v.items) c.bring_next-brought.ensures.names ∙ ap (λ (s : LifeState). s.active) c.self.view_is)

pub returns-clause-goes : goal.returns-clause-goes
returns-clause-goes g c =
    let q = called_by c.self.inside.journal.counts c.self.inside.journal.journal c.self.inside.life c.args.self.now c.self.invariant c.self.view_is c.see_whole.ensures c.requires.open c.bring_next-brought.ensures.keeps c.bring_next-brought.ensures.durable in
    meets_done q g.N.Life.made c.bring_next-brought.new.life.pass.log c.bring_next-brought.result c.bring_next-brought.ensures.open

pub returns-clause-refused : goal.returns-clause-refused
returns-clause-refused g c =
    let q = called_by c.self.inside.journal.counts c.self.inside.journal.journal c.self.inside.life c.args.self.now c.self.invariant c.self.view_is c.see_whole.ensures c.requires.open c.bring_next-brought.ensures.keeps c.bring_next-brought.ensures.durable in
    bring_refused q g.N.Life.made c.bring_next-brought.new.life.pass.log _ _ c.bring_next-brought.result c.bring_next-brought.ensures.refused
