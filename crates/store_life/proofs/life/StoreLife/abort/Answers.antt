use Rattle.std.proofs.Common.{List, subst, sym, ◌∙◌}
use Rattle.command_laws.specs.Names.{Active, AreNamed}
use Rattle.page_ops.proofs.Gaining.{keeps_self}
use Rattle.rollback.proofs.Composing.{faults_self}
use Rattle.store_life.specs.Turns.{EndsBy}
use Rattle.store_life.specs.SoFar.{active_by, actives}
use Rattle.store_life.proofs.Naming.{aborted_named}
use Rattle.store_life.proofs.Sessions.{here, is_it, left_over, left_there, no_one, not_unknown}
use Rattle.store_life.proofs.life.StoreLife.abort.Goals as goal

pub returns-in-None-clause-refused : goal.returns-in-None-clause-refused
returns-in-None-clause-refused g c = λ a e. absurd (no_one c.args.self.now.named.items c.args.name.now (sym c.place.ensures ∙ c.in-None.is) a e)

pub returns-then-is_ok-clause-unknown : goal.returns-then-is_ok-clause-unknown
returns-then-is_ok-clause-unknown g c = λ none. absurd (not_unknown c.args.self.now.named.items c.args.name.now c.in-Some.place c.index_mut-named.result.now (sym c.place.ensures ∙ c.in-Some.is) c.index_mut-named.ensures.value none)

pub returns-then-is_ok-clause-aborts : goal.returns-then-is_ok-clause-aborts
returns-then-is_ok-clause-aborts g c = λ a e. subst (λ (x : Active). EndsBy g.N.Life.opens x.tx c.abort_session-ended.result c.args.self.now.pass.log c.abort_session-ended.new.pass.log) (is_it c.args.self.now.named.items c.args.name.now c.in-Some.place c.index_mut-named.result.now (sym c.place.ensures ∙ c.in-Some.is) c.index_mut-named.ensures.value a e) c.abort_session-ended.ensures.aborts

pub returns-then-is_ok-clause-names : goal.returns-then-is_ok-clause-names
returns-then-is_ok-clause-names g c = left_over c.args.self.now.named.items c.args.name.now c.in-Some.place c.index_mut-named.result.now (sym c.place.ensures ∙ c.in-Some.is) c.index_mut-named.ensures.value c.abort_session-ended.result (record c.index_mut-named.result.now { session = c.abort_session-ended.new.session }) c.remove.new.self.items (sym c.is_ok.ensures.value ∙ c.if-is_ok.true) c.remove.ensures.items

pub returns-else-is_ok-clause-unknown : goal.returns-else-is_ok-clause-unknown
returns-else-is_ok-clause-unknown g c = λ none. absurd (not_unknown c.args.self.now.named.items c.args.name.now c.in-Some.place c.index_mut-named.result.now (sym c.place.ensures ∙ c.in-Some.is) c.index_mut-named.ensures.value none)

pub returns-else-is_ok-clause-aborts : goal.returns-else-is_ok-clause-aborts
returns-else-is_ok-clause-aborts g c = λ a e. subst (λ (x : Active). EndsBy g.N.Life.opens x.tx c.abort_session-ended.result c.args.self.now.pass.log c.abort_session-ended.new.pass.log) (is_it c.args.self.now.named.items c.args.name.now c.in-Some.place c.index_mut-named.result.now (sym c.place.ensures ∙ c.in-Some.is) c.index_mut-named.ensures.value a e) c.abort_session-ended.ensures.aborts

pub returns-else-is_ok-clause-names : goal.returns-else-is_ok-clause-names
returns-else-is_ok-clause-names g c = left_there c.args.self.now.named.items c.args.name.now c.in-Some.place c.index_mut-named.result.now (sym c.place.ensures ∙ c.in-Some.is) c.index_mut-named.ensures.value c.abort_session-ended.result c.abort_session-ended.new.session (sym c.is_ok.ensures.value ∙ c.if-is_ok.false) c.abort_session-ended.ensures.holder c.abort_session-ended.ensures.stays

pub returns-then-is_ok-clause-named : goal.returns-then-is_ok-clause-named
returns-then-is_ok-clause-named g c = λ named. subst (λ (active : List Active). AreNamed c.abort_session-ended.new.pass.log active) (sym (left_over c.args.self.now.named.items c.args.name.now c.in-Some.place c.index_mut-named.result.now (sym c.place.ensures ∙ c.in-Some.is) c.index_mut-named.ensures.value c.abort_session-ended.result (record c.index_mut-named.result.now { session = c.abort_session-ended.new.session }) c.remove.new.self.items (sym c.is_ok.ensures.value ∙ c.if-is_ok.true) c.remove.ensures.items))
    (aborted_named g.N.Life.opens (g.J.Entering.account c.args.journal.now) c.args.self.now.pass.log (actives c.args.self.now.named.items) c.args.name.now (active_by c.index_mut-named.result.now) (here c.args.self.now.named.items c.args.name.now c.in-Some.place c.index_mut-named.result.now (sym c.place.ensures ∙ c.in-Some.is) c.index_mut-named.ensures.value) named c.abort_session-ended.result c.abort_session-ended.new.pass.log c.abort_session-ended.ensures.aborts)

pub returns-else-is_ok-clause-named : goal.returns-else-is_ok-clause-named
returns-else-is_ok-clause-named g c = λ named. subst (λ (active : List Active). AreNamed c.abort_session-ended.new.pass.log active) (sym (left_there c.args.self.now.named.items c.args.name.now c.in-Some.place c.index_mut-named.result.now (sym c.place.ensures ∙ c.in-Some.is) c.index_mut-named.ensures.value c.abort_session-ended.result c.abort_session-ended.new.session (sym c.is_ok.ensures.value ∙ c.if-is_ok.false) c.abort_session-ended.ensures.holder c.abort_session-ended.ensures.stays))
    (aborted_named g.N.Life.opens (g.J.Entering.account c.args.journal.now) c.args.self.now.pass.log (actives c.args.self.now.named.items) c.args.name.now (active_by c.index_mut-named.result.now) (here c.args.self.now.named.items c.args.name.now c.in-Some.place c.index_mut-named.result.now (sym c.place.ensures ∙ c.in-Some.is) c.index_mut-named.ensures.value) named c.abort_session-ended.result c.abort_session-ended.new.pass.log c.abort_session-ended.ensures.aborts)

pub returns-in-None-clause-keeps : goal.returns-in-None-clause-keeps
returns-in-None-clause-keeps g c = keeps_self (g.J.Entering.account c.args.journal.now)

pub returns-in-None-clause-faults : goal.returns-in-None-clause-faults
returns-in-None-clause-faults g c = faults_self (g.P.Pages.desk c.args.pages.now).faults
