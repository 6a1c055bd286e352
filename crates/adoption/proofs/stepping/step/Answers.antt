use Rattle.std.proofs.Common.{ap, sym, ◌∙◌}
use Rattle.std.proofs.lemmas.Result.{err_from_is_err_and}
use Rattle.page_ops.specs.Desks.{Desk}
use Rattle.page_ops.specs.Hands.{Hand}
use Rattle.adoption.specs.Descents.{known_by, may_adopt, standing}
use Rattle.adoption.proofs.Composing.{fails_then, fails_upheld, on_desk, on_then, on_upheld}
use Rattle.adoption.proofs.PutBack.{back_faults}
use Rattle.adoption.proofs.TidyDescents.{plain_step}
use Rattle.adoption.proofs.stepping.step.Goals as goal

pub returns-in_err-mend-in-Page-clause-fails : goal.returns-in_err-mend-in-Page-clause-fails
returns-in_err-mend-in-Page-clause-fails g c =
    let p = err_from_is_err_and c.from_residual.result c.from_residual.ensures.1 in
    rw (p.1, p.2) (fails_then g.N.Life.opens g.N.Life.entries g.N.Life.session_entries g.N.Life.log_faults g.N.Life.made (standing (g.P.Pages.desk c.args.pages.now) (g.J.Entering.account c.args.journal.now) c.args.pass.now) (standing (g.P.Pages.desk c.try_take.new.self) (g.J.Entering.account c.args.journal.now) c.args.pass.now) (standing (g.P.Pages.desk c.mend.new.pages) (g.J.Entering.account c.mend.new.journal) c.mend.new.pass) _ (on_desk (g.P.Pages.desk c.args.pages.now) (g.P.Pages.desk c.try_take.new.self) (g.J.Entering.account c.args.journal.now) c.args.pass.now (ap (λ (x : Desk). x.faults) c.try_take.ensures.out)) (fails_upheld g.N.Life.opens g.N.Life.entries g.N.Life.session_entries g.N.Life.log_faults g.N.Life.made (standing (g.P.Pages.desk c.try_take.new.self) (g.J.Entering.account c.args.journal.now) c.args.pass.now) (standing (g.P.Pages.desk c.mend.new.pages) (g.J.Entering.account c.mend.new.journal) c.mend.new.pass) _ c.mend.ensures.entered c.in_err-mend-in-Page.ensures.refused c.mend.ensures.desk.faults c.mend.ensures.none))

pub returns-then-not-leads-clause-goes : goal.returns-then-not-leads-clause-goes
returns-then-not-leads-clause-goes g c = on_then (standing (g.P.Pages.desk c.args.pages.now) (g.J.Entering.account c.args.journal.now) c.args.pass.now) (standing (g.P.Pages.desk c.try_take.new.self) (g.J.Entering.account c.args.journal.now) c.args.pass.now) (standing (g.P.Pages.desk c.mend.new.pages) (g.J.Entering.account c.mend.new.journal) c.mend.new.pass) (on_desk (g.P.Pages.desk c.args.pages.now) (g.P.Pages.desk c.try_take.new.self) (g.J.Entering.account c.args.journal.now) c.args.pass.now (ap (λ (x : Desk). x.faults) c.try_take.ensures.out)) (on_upheld g.N.Life.opens g.N.Life.entries g.N.Life.session_entries (standing (g.P.Pages.desk c.try_take.new.self) (g.J.Entering.account c.args.journal.now) c.args.pass.now) (standing (g.P.Pages.desk c.mend.new.pages) (g.J.Entering.account c.mend.new.journal) c.mend.new.pass) c.mend.ensures.entered c.in_ok-mend-in-Page.ensures.open c.mend.ensures.desk.faults)

pub returns-in_err-fetch-in-Away-clause-fails : goal.returns-in_err-fetch-in-Away-clause-fails
returns-in_err-fetch-in-Away-clause-fails g c =
    let p = err_from_is_err_and c.from_residual-in_err-fetch-in-Away.result c.from_residual-in_err-fetch-in-Away.ensures.1 in
    rw (p.1, p.2) (fails_then g.N.Life.opens g.N.Life.entries g.N.Life.session_entries g.N.Life.log_faults g.N.Life.made (standing (g.P.Pages.desk c.args.pages.now) (g.J.Entering.account c.args.journal.now) c.args.pass.now) (standing (g.P.Pages.desk c.try_take.new.self) (g.J.Entering.account c.args.journal.now) c.args.pass.now) (standing (g.P.Pages.desk c.fetch.new.pages) (g.J.Entering.account c.fetch.new.journal) c.fetch.new.pass) _ (on_desk (g.P.Pages.desk c.args.pages.now) (g.P.Pages.desk c.try_take.new.self) (g.J.Entering.account c.args.journal.now) c.args.pass.now (ap (λ (x : Desk). x.faults) c.try_take.ensures.out)) (fails_upheld g.N.Life.opens g.N.Life.entries g.N.Life.session_entries g.N.Life.log_faults g.N.Life.made (standing (g.P.Pages.desk c.try_take.new.self) (g.J.Entering.account c.args.journal.now) c.args.pass.now) (standing (g.P.Pages.desk c.fetch.new.pages) (g.J.Entering.account c.fetch.new.journal) c.fetch.new.pass) _ c.fetch.ensures.entered c.in_err-fetch-in-Away.ensures.refused c.fetch.ensures.desk.faults c.fetch.ensures.none))

pub returns-else-may_adopt-clause-tidy : goal.returns-else-may_adopt-clause-tidy
returns-else-may_adopt-clause-tidy g c =
    plain_step g.N.Life.opens g.N.Life.entries (known_by (standing (g.P.Pages.desk c.args.pages.now) (g.J.Entering.account c.args.journal.now) c.args.pass.now)) c.args.key.now c.args.held c.in-Page.next c.args.way c.args.child c.requires.now c.requires.way c.requires.child c.in-Page.ensures.page
    (ap (λ (h : Hand). may_adopt c.args.way h.state) (sym c.next.view_is) ∙ sym c.may_adopt.ensures ∙ c.if-may_adopt.false)

pub returns-else-may_adopt-clause-goes : goal.returns-else-may_adopt-clause-goes
returns-else-may_adopt-clause-goes g c = on_desk _ _ _ _ (back_faults _ _ c.put_back.ensures.out ∙ ap (λ (x : Desk). x.faults) c.try_take.ensures.out)

pub returns-in-Busy-clause-goes : goal.returns-in-Busy-clause-goes
returns-in-Busy-clause-goes g c = on_desk _ _ _ _ (ap (λ (x : Desk). x.faults) c.wait_for.ensures.same ∙ back_faults _ _ c.put_back-in-Busy.ensures.out ∙ ap (λ (x : Desk). x.faults) c.try_take.ensures.out)

pub returns-in_ok-fetch-in-Away-clause-goes : goal.returns-in_ok-fetch-in-Away-clause-goes
returns-in_ok-fetch-in-Away-clause-goes g c = on_then (standing (g.P.Pages.desk c.args.pages.now) (g.J.Entering.account c.args.journal.now) c.args.pass.now) (standing (g.P.Pages.desk c.try_take.new.self) (g.J.Entering.account c.args.journal.now) c.args.pass.now) (standing (g.P.Pages.desk c.fetch.new.pages) (g.J.Entering.account c.fetch.new.journal) c.fetch.new.pass) (on_desk (g.P.Pages.desk c.args.pages.now) (g.P.Pages.desk c.try_take.new.self) (g.J.Entering.account c.args.journal.now) c.args.pass.now (ap (λ (x : Desk). x.faults) c.try_take.ensures.out)) (on_upheld g.N.Life.opens g.N.Life.entries g.N.Life.session_entries (standing (g.P.Pages.desk c.try_take.new.self) (g.J.Entering.account c.args.journal.now) c.args.pass.now) (standing (g.P.Pages.desk c.fetch.new.pages) (g.J.Entering.account c.fetch.new.journal) c.fetch.new.pass) c.fetch.ensures.entered c.in_ok-fetch-in-Away.ensures.open c.fetch.ensures.desk.faults)
