use Rattle.std.proofs.Common.{List, ap, subst, sym, ◌∙◌}
use Rattle.wal_record.specs.declared.entry.Entry.{Entry}
use Rattle.command_laws.specs.Names.{AreNamed}
use Rattle.store_life.specs.SoFar.{actives}
use Rattle.own_life.specs.State.{LifeState}
use Rattle.own_life.proofs.Called.{ends, ends_done, look_refused}
use Rattle.own_life.proofs.Going.{called_by, kept_by, names_left}
use Rattle.own_life.proofs.Surveyed.{surveyed}
use Rattle.own_life.proofs.life.OwnLife.survey.Goals as goal

pub invariant_of-self : goal.invariant_of-self
invariant_of-self g c =
    let q = called_by c.self.inside.journal.counts c.self.inside.journal.journal c.self.inside.life c.args.self.now c.self.invariant c.self.view_is c.see_whole.ensures c.requires.open c.survey-known.ensures.keeps c.survey-known.ensures.durable in
    kept_by c.self.inside.journal.counts c.self.inside.journal.journal c.self.inside.life c.args.self.now c.self.invariant c.self.view_is c.see_whole.ensures c.survey-known.ensures.keeps (λ has. subst (λ (l : List Entry). AreNamed l (actives c.survey-known.new.self.named.items)) (sym c.survey-known.ensures.same) (subst (λ v. AreNamed c.self.inside.life.pass.log (actives v.items)) (sym c.survey-known.ensures.names) has)) (ends q g.N.Life.made c.survey-known.new.self.pass.log c.survey-known.result c.survey-known.ensures.ends)

pub returns-clause-same : goal.returns-clause-same
returns-clause-same g c = (
  c.see_whole.ensures.history ∙ c.survey-known.ensures.same ∙ ap (λ (s : LifeState). s.history) c.self.view_is,
  names_left c.self.inside.journal.counts c.self.inside.journal.journal c.self.inside.life c.args.self.now c.self.invariant c.self.view_is c.see_whole.ensures c.args.self.now.active (ap (λ v. actives v.items) c.survey-known.ensures.names ∙ ap (λ (s : LifeState). s.active) c.self.view_is),
)

pub returns-clause-survey : goal.returns-clause-survey
returns-clause-survey g c = surveyed g.N.Life.opens c.survey-known.new.self.pass c.see_whole.new.life.pass.log c.see_whole.ensures.history c.survey-known.result c.survey-known.ensures.survey

pub returns-clause-goes : goal.returns-clause-goes
returns-clause-goes g c =
    let q = called_by c.self.inside.journal.counts c.self.inside.journal.journal c.self.inside.life c.args.self.now c.self.invariant c.self.view_is c.see_whole.ensures c.requires.open c.survey-known.ensures.keeps c.survey-known.ensures.durable in
    ends_done q g.N.Life.made c.survey-known.new.self.pass.log c.survey-known.result c.survey-known.ensures.ends

pub returns-clause-refused : goal.returns-clause-refused
returns-clause-refused g c =
    let q = called_by c.self.inside.journal.counts c.self.inside.journal.journal c.self.inside.life c.args.self.now c.self.invariant c.self.view_is c.see_whole.ensures c.requires.open c.survey-known.ensures.keeps c.survey-known.ensures.durable in
    look_refused q g.N.Life.made c.survey-known.new.self.pass.log c.survey-known.result c.survey-known.ensures.refused c.survey-known.ensures.ends
