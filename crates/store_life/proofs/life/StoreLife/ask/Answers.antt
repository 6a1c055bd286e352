use Rattle.std.proofs.Common.{List, subst, sym, ◌∙◌}
use Rattle.std.specs.Prelude.{IfOk}
use Rattle.command_laws.specs.Names.{Active, AreNamed}
use Rattle.page_ops.proofs.Gaining.{keeps_self}
use Rattle.rollback.proofs.Composing.{faults_self}
use Rattle.store_life.specs.Turns.{Asks, IsTold}
use Rattle.store_life.specs.SoFar.{actives}
use Rattle.store_life.proofs.Naming.{asked_named}
use Rattle.store_life.proofs.Sessions.{at_place, is_it, no_one, not_unknown, same_actives}
use Rattle.store_life.proofs.life.StoreLife.ask.Goals as goal

pub returns-in-None-clause-refused : goal.returns-in-None-clause-refused
returns-in-None-clause-refused g c = λ a e. absurd (no_one c.args.self.now.named.items c.args.name.now (sym c.place.ensures ∙ c.in-None.is) a e)

pub returns-clause-unknown : goal.returns-clause-unknown
returns-clause-unknown g c = λ none. absurd (not_unknown c.args.self.now.named.items c.args.name.now c.in-Some.place c.index_mut-named.result.now (sym c.place.ensures ∙ c.in-Some.is) c.index_mut-named.ensures.value none)

pub returns-clause-asks : goal.returns-clause-asks
returns-clause-asks g c = λ a e. subst (λ (x : Active). Asks g.N.Life.opens x.session x.tx c.args.request c.ask_session.result c.args.self.now.pass.log c.ask_session.new.pass.log) (is_it c.args.self.now.named.items c.args.name.now c.in-Some.place c.index_mut-named.result.now (sym c.place.ensures ∙ c.in-Some.is) c.index_mut-named.ensures.value a e) c.ask_session.ensures.asks

pub returns-clause-told : goal.returns-clause-told
returns-clause-told g c = λ a e. subst (λ (x : Active). IfOk c.ask_session.result (IsTold g.N.Life.opens x.session x.tx c.args.request c.ask_session.new.pass.log)) (is_it c.args.self.now.named.items c.args.name.now c.in-Some.place c.index_mut-named.result.now (sym c.place.ensures ∙ c.in-Some.is) c.index_mut-named.ensures.value a e) c.ask_session.ensures.told

pub returns-clause-names : goal.returns-clause-names
returns-clause-names g c = same_actives c.args.self.now.named.items c.in-Some.place c.index_mut-named.result.now (at_place c.args.self.now.named.items c.args.name.now c.in-Some.place c.index_mut-named.result.now (sym c.place.ensures ∙ c.in-Some.is) c.index_mut-named.ensures.value) c.ask_session.new.session c.ask_session.ensures.holder.0 c.ask_session.ensures.holder.1

pub returns-clause-named : goal.returns-clause-named
returns-clause-named g c = λ named.
    subst (λ (active : List Active). AreNamed c.ask_session.new.pass.log active) (sym (same_actives c.args.self.now.named.items c.in-Some.place c.index_mut-named.result.now (at_place c.args.self.now.named.items c.args.name.now c.in-Some.place c.index_mut-named.result.now (sym c.place.ensures ∙ c.in-Some.is) c.index_mut-named.ensures.value) c.ask_session.new.session c.ask_session.ensures.holder.0 c.ask_session.ensures.holder.1))
    (asked_named g.N.Life.opens c.index_mut-named.result.now.session.claim.session c.index_mut-named.result.now.session.claim.tx c.args.request c.ask_session.result c.args.self.now.pass.log c.ask_session.new.pass.log (actives c.args.self.now.named.items) c.ask_session.ensures.asks named)

pub returns-in-None-clause-keeps : goal.returns-in-None-clause-keeps
returns-in-None-clause-keeps g c = keeps_self (g.J.Entering.account c.args.journal.now)

pub returns-in-None-clause-faults : goal.returns-in-None-clause-faults
returns-in-None-clause-faults g c = faults_self (g.P.Pages.desk c.args.pages.now).faults
