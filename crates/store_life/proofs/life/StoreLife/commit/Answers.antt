use Rattle.std.proofs.Common.{List, subst, sym, ◌∙◌}
use Rattle.command_laws.specs.Names.{Active, AreNamed}
use Rattle.page_ops.proofs.Gaining.{keeps_self}
use Rattle.store_life.specs.Turns.{IsCommitted}
use Rattle.store_life.specs.SoFar.{active_by, actives}
use Rattle.store_life.proofs.Naming.{committed_named}
use Rattle.store_life.proofs.Sessions.{here, is_it, left_over, left_there, no_one, not_unknown}
use Rattle.store_life.proofs.life.StoreLife.commit.Goals as goal

pub returns-in-None-clause-refused : goal.returns-in-None-clause-refused
returns-in-None-clause-refused g c = λ a e. absurd (no_one c.args.self.now.named.items c.args.name.now (sym c.place.ensures ∙ c.in-None.is) a e)

pub returns-in-None-clause-ends : goal.returns-in-None-clause-ends
returns-in-None-clause-ends g c = λ a e. absurd (no_one c.args.self.now.named.items c.args.name.now (sym c.place.ensures ∙ c.in-None.is) a e)

pub returns-then-is_ok-clause-unknown : goal.returns-then-is_ok-clause-unknown
returns-then-is_ok-clause-unknown g c = λ none. absurd (not_unknown c.args.self.now.named.items c.args.name.now c.in-Some.place c.index_mut-named.result.now (sym c.place.ensures ∙ c.in-Some.is) c.index_mut-named.ensures.value none)

pub returns-then-is_ok-clause-commits : goal.returns-then-is_ok-clause-commits
returns-then-is_ok-clause-commits g c = λ a e. subst (λ (x : Active). IsCommitted g.N.Life.opens x.session x.tx (g.J.Entering.account c.args.journal.now) c.commit_session-committed.result c.args.self.now.pass.log c.commit_session-committed.new.pass) (is_it c.args.self.now.named.items c.args.name.now c.in-Some.place c.index_mut-named.result.now (sym c.place.ensures ∙ c.in-Some.is) c.index_mut-named.ensures.value a e) c.commit_session-committed.ensures.commits

pub returns-then-is_ok-clause-names : goal.returns-then-is_ok-clause-names
returns-then-is_ok-clause-names g c = left_over c.args.self.now.named.items c.args.name.now c.in-Some.place c.index_mut-named.result.now (sym c.place.ensures ∙ c.in-Some.is) c.index_mut-named.ensures.value c.commit_session-committed.result (record c.index_mut-named.result.now { session = c.commit_session-committed.new.session }) c.remove.new.self.items (sym c.is_ok.ensures.value ∙ c.if-is_ok.true) c.remove.ensures.items

pub returns-else-is_ok-clause-unknown : goal.returns-else-is_ok-clause-unknown
returns-else-is_ok-clause-unknown g c = λ none. absurd (not_unknown c.args.self.now.named.items c.args.name.now c.in-Some.place c.index_mut-named.result.now (sym c.place.ensures ∙ c.in-Some.is) c.index_mut-named.ensures.value none)

pub returns-else-is_ok-clause-commits : goal.returns-else-is_ok-clause-commits
returns-else-is_ok-clause-commits g c = λ a e. subst (λ (x : Active). IsCommitted g.N.Life.opens x.session x.tx (g.J.Entering.account c.args.journal.now) c.commit_session-committed.result c.args.self.now.pass.log c.commit_session-committed.new.pass) (is_it c.args.self.now.named.items c.args.name.now c.in-Some.place c.index_mut-named.result.now (sym c.place.ensures ∙ c.in-Some.is) c.index_mut-named.ensures.value a e) c.commit_session-committed.ensures.commits

pub returns-else-is_ok-clause-names : goal.returns-else-is_ok-clause-names
returns-else-is_ok-clause-names g c = left_there c.args.self.now.named.items c.args.name.now c.in-Some.place c.index_mut-named.result.now (sym c.place.ensures ∙ c.in-Some.is) c.index_mut-named.ensures.value c.commit_session-committed.result c.commit_session-committed.new.session (sym c.is_ok.ensures.value ∙ c.if-is_ok.false) c.commit_session-committed.ensures.holder c.commit_session-committed.ensures.stays

pub returns-then-is_ok-clause-named : goal.returns-then-is_ok-clause-named
returns-then-is_ok-clause-named g c = λ named. subst (λ (active : List Active). AreNamed c.commit_session-committed.new.pass.log active) (sym (left_over c.args.self.now.named.items c.args.name.now c.in-Some.place c.index_mut-named.result.now (sym c.place.ensures ∙ c.in-Some.is) c.index_mut-named.ensures.value c.commit_session-committed.result (record c.index_mut-named.result.now { session = c.commit_session-committed.new.session }) c.remove.new.self.items (sym c.is_ok.ensures.value ∙ c.if-is_ok.true) c.remove.ensures.items))
    (committed_named g.N.Life.opens (g.J.Entering.account c.args.journal.now) c.args.self.now.pass.log (actives c.args.self.now.named.items) c.args.name.now (active_by c.index_mut-named.result.now) (here c.args.self.now.named.items c.args.name.now c.in-Some.place c.index_mut-named.result.now (sym c.place.ensures ∙ c.in-Some.is) c.index_mut-named.ensures.value) named c.commit_session-committed.result c.commit_session-committed.new.pass c.commit_session-committed.ensures.commits)

pub returns-else-is_ok-clause-named : goal.returns-else-is_ok-clause-named
returns-else-is_ok-clause-named g c = λ named. subst (λ (active : List Active). AreNamed c.commit_session-committed.new.pass.log active) (sym (left_there c.args.self.now.named.items c.args.name.now c.in-Some.place c.index_mut-named.result.now (sym c.place.ensures ∙ c.in-Some.is) c.index_mut-named.ensures.value c.commit_session-committed.result c.commit_session-committed.new.session (sym c.is_ok.ensures.value ∙ c.if-is_ok.false) c.commit_session-committed.ensures.holder c.commit_session-committed.ensures.stays))
    (committed_named g.N.Life.opens (g.J.Entering.account c.args.journal.now) c.args.self.now.pass.log (actives c.args.self.now.named.items) c.args.name.now (active_by c.index_mut-named.result.now) (here c.args.self.now.named.items c.args.name.now c.in-Some.place c.index_mut-named.result.now (sym c.place.ensures ∙ c.in-Some.is) c.index_mut-named.ensures.value) named c.commit_session-committed.result c.commit_session-committed.new.pass c.commit_session-committed.ensures.commits)

pub returns-in-None-clause-keeps : goal.returns-in-None-clause-keeps
returns-in-None-clause-keeps g c = keeps_self (g.J.Entering.account c.args.journal.now)
