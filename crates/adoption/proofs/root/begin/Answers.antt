use Rattle.std.proofs.Common.{◌≡◌, Ok, ap, arith, not, refl, sym, ◌∙◌}
use Rattle.std.specs.Prelude.{is_some}
use Rattle.std.proofs.lemmas.Bool.Decides.{nat_tests}
use Rattle.page_ops.specs.Hands.{Hand}
use Rattle.smo.specs.Splits.{grow_by}
use Rattle.adoption.proofs.Composing.{on_self}
use Rattle.adoption.proofs.MadeCalls.{full_begins, made_behind, refused_behind}
use Rattle.adoption.proofs.PutBack.{after_out, back_faults, back_one}
use Rattle.adoption.proofs.TidyDescents.{highest_begins, single_begins}
use Rattle.adoption.proofs.root.begin.Goals as goal

pub returns-then-is_none-clause-tidy : goal.returns-then-is_none-clause-tidy
returns-then-is_none-clause-tidy g c =
    single_begins g.N.Life.opens g.N.Life.entries c.args.pass.now.log c.args.root (ap (λ (h : Hand). is_some h.state.foster) (sym c.root.view_is) ∙ c.is_none.ensures ∙ ap not c.if-is_none.true)

pub returns-then-is_none-clause-goes : goal.returns-then-is_none-clause-goes
returns-then-is_none-clause-goes g c = on_self _

pub returns-then-root-clause-tidy : goal.returns-then-root-clause-tidy
returns-then-root-clause-tidy g c =
    let test = c.if-root.true in
    let level : c.root.inside.state.level ≡ 255 = grind (arith, nat_tests, test) in
    highest_begins g.N.Life.opens g.N.Life.entries c.args.pass.now.log c.args.root (ap (λ (h : Hand). h.state.level) (sym c.root.view_is) ∙ level)

pub returns-then-root-clause-goes : goal.returns-then-root-clause-goes
returns-then-root-clause-goes g c = on_self _

pub returns-in-Ok-None-clause-tidy : goal.returns-in-Ok-None-clause-tidy
returns-in-Ok-None-clause-tidy g c = full_begins g.N.Life.opens c.grow.new.pass.log c.grow.new.root c.grow.result (c.in-Ok-None.is ∙ (λ i. Ok (c.in-Ok-None.field-0-is i))) c.grow.ensures.room

pub returns-in-Ok-None-clause-goes : goal.returns-in-Ok-None-clause-goes
returns-in-Ok-None-clause-goes g c =
    made_behind g.N.Life.opens g.N.Life.entries g.N.Life.session_entries g.N.Life.log_faults g.N.Life.made (g.P.Pages.desk c.args.pages.now) (g.P.Pages.desk c.grow.new.pages) (g.J.Entering.account c.args.journal.now) (g.J.Entering.account c.see_image.new.journal) (g.J.Entering.account c.grow.new.journal) c.args.pass.now c.see_image.new.pass c.grow.new.pass
    c.see_image.ensures.entered c.see_image.ensures.calm.end _ _ (grow_by c.see_image.new.held.state) (λ prev child lsn. refl) (λ prev child lsn h. refl) c.grow.result c.grow.ensures.entered c.grow.ensures.ends c.grow.ensures.desk (g.P.Pages.desk c.grow.new.pages) _ (c.in-Ok-None.is ∙ (λ i. Ok (c.in-Ok-None.field-0-is i))) refl

pub returns-in-Ok-Some-clause-goes : goal.returns-in-Ok-Some-clause-goes
returns-in-Ok-Some-clause-goes g c =
    made_behind g.N.Life.opens g.N.Life.entries g.N.Life.session_entries g.N.Life.log_faults g.N.Life.made (g.P.Pages.desk c.args.pages.now) (g.P.Pages.desk c.grow.new.pages) (g.J.Entering.account c.args.journal.now) (g.J.Entering.account c.see_image.new.journal) (g.J.Entering.account c.grow.new.journal) c.args.pass.now c.see_image.new.pass c.grow.new.pass
    c.see_image.ensures.entered c.see_image.ensures.calm.end _ _ (grow_by c.see_image.new.held.state) (λ prev child lsn. refl) (λ prev child lsn h. refl) c.grow.result c.grow.ensures.entered c.grow.ensures.ends c.grow.ensures.desk (g.P.Pages.desk c.put_back.new.self) _ (c.in-Ok-Some.is ∙ (λ i. Ok (c.in-Ok-Some.field-0-is i))) (back_faults _ _ c.put_back.ensures.out)

pub returns-in-Err-clause-fails : goal.returns-in-Err-clause-fails
returns-in-Err-clause-fails g c =
    refused_behind g.N.Life.opens g.N.Life.entries g.N.Life.session_entries g.N.Life.log_faults g.N.Life.made (g.P.Pages.desk c.args.pages.now) (g.P.Pages.desk c.grow.new.pages) (g.J.Entering.account c.args.journal.now) (g.J.Entering.account c.see_image.new.journal) (g.J.Entering.account c.grow.new.journal) c.args.pass.now c.see_image.new.pass c.grow.new.pass
    c.see_image.ensures.entered c.see_image.ensures.calm.end _ _ (grow_by c.see_image.new.held.state) (λ prev child lsn. refl) (λ prev child lsn h. refl) c.grow.result c.grow.ensures.entered c.grow.ensures.ends c.grow.ensures.desk (g.P.Pages.desk c.put_back-in-Err.new.self) c.in-Err.fault c.in-Err.is c.grow.ensures.refused (back_faults _ _ c.put_back-in-Err.ensures.out)
    (back_one _ _ (after_out _ _ c.grow.result 1 c.requires.taken c.grow.ensures.desk) c.put_back-in-Err.ensures.out)
