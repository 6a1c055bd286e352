use Rattle.std.proofs.Common.{◌≡◌, ap, sym, subst, ◌∙◌, Option, IfSome, true}
use Rattle.std.specs.Prelude.{IsTrue}
use Rattle.std.proofs.lemmas.Result.{err_from_is_err_and}
use Rattle.wal_record.specs.State.{has_within}
use Rattle.page_ops.specs.Hands.{Hand}
use Rattle.page_ops.specs.Seeing.{is_upkeep}
use Rattle.page_ops.proofs.Gaining.{settled_of}
use Rattle.foster_tree.specs.Nows.{IsNow, pages_in}
use Rattle.foster_tree.specs.Ways.{IsWay}
use Rattle.adoption.specs.Descents.{LeadsTidy, StaysTidy, known_by, standing}
use Rattle.adoption.proofs.Composing.{fails_then, faults_self, on_self, on_then, on_upheld}
use Rattle.adoption.proofs.TidyDescents.{leaf_leaves, next_leads}
use Rattle.adoption.proofs.descending.go_down.Goals as goal

pub loop-init : goal.loop-init
loop-init g c = (tt, tt, c.requires.taken, c.requires.reserved, c.requires.within, c.requires.tidy, on_self _)

pub step-requires-clause-settled : goal.step-requires-clause-settled
step-requires-clause-settled g c = settled_of is_upkeep g.N.Life.opens g.N.Life.entries g.N.Life.session_entries (known_by (standing (g.P.Pages.desk c.loop.pages) (g.J.Entering.account c.loop.journal) c.loop.pass)) (known_by (standing (g.P.Pages.desk c.loop.pages) (g.J.Entering.account c.see_image.new.journal) c.see_image.new.pass)) c.see_image.ensures.entered

pub step-requires-clause-now : goal.step-requires-clause-now
step-requires-clause-now g c = (subst (λ (x : Hand). IsNow g.N.Life.opens c.see_image.new.pass.log x) (sym c.see_image.ensures.same) c.see_image.ensures.now)

pub loop-preserved : goal.loop-preserved
loop-preserved g c = (
  tt,
  tt,
  c.in_ok-next.ensures.taken ∙ ap pages_in c.in-Some-2.is,
  subst (λ (o : Option Hand). IfSome o (λ next. (g.P.Pages.desk c.step.new.pages).reserves ≡ true)) c.in-Some-2.is c.in_ok-next.ensures.reserved,
  subst (λ (o : Option Hand). IfSome o (λ next. IsTrue (has_within next.state c.args.key.now))) c.in-Some-2.is c.in_ok-next.ensures.within,
  next_leads g.N.Life.opens g.N.Life.entries g.N.Life.session_entries (known_by (standing (g.P.Pages.desk c.args.pages.now) (g.J.Entering.account c.args.journal.now) c.args.pass.now)) (known_by (standing (g.P.Pages.desk c.loop.pages) (g.J.Entering.account c.loop.journal) c.loop.pass)) (known_by (standing (g.P.Pages.desk c.loop.pages) (g.J.Entering.account c.see_image.new.journal) c.see_image.new.pass)) c.args.key.now c.see_image.new.held c.loop.invariant.6.goes c.see_image.ensures.entered (subst (λ (x : Hand). LeadsTidy g.N.Life.opens g.N.Life.entries (known_by (standing (g.P.Pages.desk c.args.pages.now) (g.J.Entering.account c.args.journal.now) c.args.pass.now)) c.loop.pass.log c.args.key.now x) (sym c.see_image.ensures.same) c.loop.invariant.5) (subst (λ (x : Hand). IsNow g.N.Life.opens c.see_image.new.pass.log x) (sym c.see_image.ensures.same) c.see_image.ensures.now) c.step.new.pass.log c.in-Some-2.next
      (subst (λ (o : Option Hand). IfSome o (StaysTidy g.N.Life.opens g.N.Life.entries (known_by (standing (g.P.Pages.desk c.loop.pages) (g.J.Entering.account c.see_image.new.journal) c.see_image.new.pass)) c.step.new.pass.log c.args.key.now c.see_image.new.held.page)) c.in-Some-2.is c.in_ok-next.ensures.tidy),
  on_then (standing (g.P.Pages.desk c.args.pages.now) (g.J.Entering.account c.args.journal.now) c.args.pass.now) (standing (g.P.Pages.desk c.loop.pages) (g.J.Entering.account c.see_image.new.journal) c.see_image.new.pass) (standing (g.P.Pages.desk c.step.new.pages) (g.J.Entering.account c.step.new.journal) c.step.new.pass) (on_then (standing (g.P.Pages.desk c.args.pages.now) (g.J.Entering.account c.args.journal.now) c.args.pass.now) (standing (g.P.Pages.desk c.loop.pages) (g.J.Entering.account c.loop.journal) c.loop.pass) (standing (g.P.Pages.desk c.loop.pages) (g.J.Entering.account c.see_image.new.journal) c.see_image.new.pass) c.loop.invariant.6 (on_upheld g.N.Life.opens g.N.Life.entries g.N.Life.session_entries (standing (g.P.Pages.desk c.loop.pages) (g.J.Entering.account c.loop.journal) c.loop.pass) (standing (g.P.Pages.desk c.loop.pages) (g.J.Entering.account c.see_image.new.journal) c.see_image.new.pass) c.see_image.ensures.entered c.see_image.ensures.calm.end (faults_self _))) c.in_ok-next.ensures.goes,
)

pub returns-in-Here-clause-now : goal.returns-in-Here-clause-now
returns-in-Here-clause-now g c = (subst (λ (x : Hand). IsNow g.N.Life.opens c.see_image.new.pass.log x) (sym c.see_image.ensures.same) c.see_image.ensures.now)

pub returns-in-Here-clause-settled : goal.returns-in-Here-clause-settled
returns-in-Here-clause-settled g c = settled_of is_upkeep g.N.Life.opens g.N.Life.entries g.N.Life.session_entries (known_by (standing (g.P.Pages.desk c.loop.pages) (g.J.Entering.account c.loop.journal) c.loop.pass)) (known_by (standing (g.P.Pages.desk c.loop.pages) (g.J.Entering.account c.see_image.new.journal) c.see_image.new.pass)) c.see_image.ensures.entered

pub returns-in-Here-clause-tidy : goal.returns-in-Here-clause-tidy
returns-in-Here-clause-tidy g c = leaf_leaves g.N.Life.opens g.N.Life.entries g.N.Life.session_entries (known_by (standing (g.P.Pages.desk c.args.pages.now) (g.J.Entering.account c.args.journal.now) c.args.pass.now)) (known_by (standing (g.P.Pages.desk c.loop.pages) (g.J.Entering.account c.loop.journal) c.loop.pass)) (known_by (standing (g.P.Pages.desk c.loop.pages) (g.J.Entering.account c.see_image.new.journal) c.see_image.new.pass)) c.args.key.now c.see_image.new.held c.loop.invariant.6.goes c.see_image.ensures.entered (subst (λ (x : Hand). LeadsTidy g.N.Life.opens g.N.Life.entries (known_by (standing (g.P.Pages.desk c.args.pages.now) (g.J.Entering.account c.args.journal.now) c.args.pass.now)) c.loop.pass.log c.args.key.now x) (sym c.see_image.ensures.same) c.loop.invariant.5) (subst (λ (x : Hand). IsNow g.N.Life.opens c.see_image.new.pass.log x) (sym c.see_image.ensures.same) c.see_image.ensures.now) (subst (IsWay c.args.key.now c.see_image.new.held.state) c.in-Here.is (subst (λ (h : Hand). IsWay c.args.key.now h.state c.way_from-way.result) c.held.view_is c.way_from-way.ensures))

pub returns-in-Here-clause-goes : goal.returns-in-Here-clause-goes
returns-in-Here-clause-goes g c = on_then (standing (g.P.Pages.desk c.args.pages.now) (g.J.Entering.account c.args.journal.now) c.args.pass.now) (standing (g.P.Pages.desk c.loop.pages) (g.J.Entering.account c.loop.journal) c.loop.pass) (standing (g.P.Pages.desk c.loop.pages) (g.J.Entering.account c.see_image.new.journal) c.see_image.new.pass) c.loop.invariant.6 (on_upheld g.N.Life.opens g.N.Life.entries g.N.Life.session_entries (standing (g.P.Pages.desk c.loop.pages) (g.J.Entering.account c.loop.journal) c.loop.pass) (standing (g.P.Pages.desk c.loop.pages) (g.J.Entering.account c.see_image.new.journal) c.see_image.new.pass) c.see_image.ensures.entered c.see_image.ensures.calm.end (faults_self _))

pub returns-in_err-next-clause-fails : goal.returns-in_err-next-clause-fails
returns-in_err-next-clause-fails g c =
    let p = err_from_is_err_and c.from_residual.result c.from_residual.ensures.1 in
    rw (p.1, p.2) (fails_then g.N.Life.opens g.N.Life.entries g.N.Life.session_entries g.N.Life.log_faults g.N.Life.made (standing (g.P.Pages.desk c.args.pages.now) (g.J.Entering.account c.args.journal.now) c.args.pass.now) (standing (g.P.Pages.desk c.loop.pages) (g.J.Entering.account c.see_image.new.journal) c.see_image.new.pass) (standing (g.P.Pages.desk c.step.new.pages) (g.J.Entering.account c.step.new.journal) c.step.new.pass) _ (on_then (standing (g.P.Pages.desk c.args.pages.now) (g.J.Entering.account c.args.journal.now) c.args.pass.now) (standing (g.P.Pages.desk c.loop.pages) (g.J.Entering.account c.loop.journal) c.loop.pass) (standing (g.P.Pages.desk c.loop.pages) (g.J.Entering.account c.see_image.new.journal) c.see_image.new.pass) c.loop.invariant.6 (on_upheld g.N.Life.opens g.N.Life.entries g.N.Life.session_entries (standing (g.P.Pages.desk c.loop.pages) (g.J.Entering.account c.loop.journal) c.loop.pass) (standing (g.P.Pages.desk c.loop.pages) (g.J.Entering.account c.see_image.new.journal) c.see_image.new.pass) c.see_image.ensures.entered c.see_image.ensures.calm.end (faults_self _))) c.in_err-next.ensures.fails)

pub returns-in-None-2-clause-goes : goal.returns-in-None-2-clause-goes
returns-in-None-2-clause-goes g c = on_then (standing (g.P.Pages.desk c.args.pages.now) (g.J.Entering.account c.args.journal.now) c.args.pass.now) (standing (g.P.Pages.desk c.loop.pages) (g.J.Entering.account c.see_image.new.journal) c.see_image.new.pass) (standing (g.P.Pages.desk c.step.new.pages) (g.J.Entering.account c.step.new.journal) c.step.new.pass) (on_then (standing (g.P.Pages.desk c.args.pages.now) (g.J.Entering.account c.args.journal.now) c.args.pass.now) (standing (g.P.Pages.desk c.loop.pages) (g.J.Entering.account c.loop.journal) c.loop.pass) (standing (g.P.Pages.desk c.loop.pages) (g.J.Entering.account c.see_image.new.journal) c.see_image.new.pass) c.loop.invariant.6 (on_upheld g.N.Life.opens g.N.Life.entries g.N.Life.session_entries (standing (g.P.Pages.desk c.loop.pages) (g.J.Entering.account c.loop.journal) c.loop.pass) (standing (g.P.Pages.desk c.loop.pages) (g.J.Entering.account c.see_image.new.journal) c.see_image.new.pass) c.see_image.ensures.entered c.see_image.ensures.calm.end (faults_self _))) c.in_ok-next.ensures.goes
