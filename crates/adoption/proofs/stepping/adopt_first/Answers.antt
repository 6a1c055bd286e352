use Rattle.std.proofs.Common.{◌≡◌, Ok, ap, sym, subst, ◌∙◌}
use Rattle.page_ops.specs.Desks.{Desk}
use Rattle.page_ops.specs.Hands.{Hand}
use Rattle.foster_tree.specs.Nows.{IsNow}
use Rattle.foster_tree.specs.Ways.{IsToChild}
use Rattle.adoption.specs.Adoptions.{Leads}
use Rattle.adoption.specs.Descents.{Fails, GoesOn, StaysTidy, StaysTidyBy, known_by, standing}
use Rattle.adoption.proofs.ByFound.{if_fails, if_found, on_done, unless_room}
use Rattle.adoption.proofs.FirstAdoptions.{adoption_done, adoption_refused, adoption_tidy, adoption_within, crowded_fails, crowded_goes, crowded_stays}
use Rattle.adoption.proofs.PutBack.{back_faults, back_two}
use Rattle.adoption.proofs.stepping.adopt_first.Goals as goal

pub returns-in-Ok-Adopted-clause-within : goal.returns-in-Ok-Adopted-clause-within
returns-in-Ok-Adopted-clause-within g c =
    adoption_within g.N.Life.opens g.N.Life.entries g.N.Life.session_entries g.N.Life.log_faults g.N.Life.made (g.P.Pages.desk c.args.pages.now) c.args.parent c.see_image.new.held (g.J.Entering.account c.args.journal.now) (g.J.Entering.account c.see_image.new.journal) (g.J.Entering.account c.try_adopt.new.journal) c.args.pass.now c.see_image.new.pass c.try_adopt.new.pass
    c.see_image.ensures.entered c.see_image.ensures.calm.end _ _ c.try_adopt.result c.try_adopt.ensures.entered c.try_adopt.ensures.ends (c.in-Ok-Adopted.is ∙ (λ i. Ok (c.in-Ok-Adopted.field-0-is i))) c.args.key.now c.try_adopt.new.parent c.try_adopt.new.fosterer c.nearer.result c.try_adopt.ensures.taken c.try_adopt.ensures.given c.nearer.ensures.near c.requires.within

pub returns-in-Ok-Adopted-clause-tidy : goal.returns-in-Ok-Adopted-clause-tidy
returns-in-Ok-Adopted-clause-tidy g c =
    let back = sym c.see_image.ensures.same in
    adoption_tidy g.N.Life.opens g.N.Life.entries g.N.Life.session_entries g.N.Life.log_faults g.N.Life.made (g.P.Pages.desk c.args.pages.now) c.args.parent c.see_image.new.held (g.J.Entering.account c.args.journal.now) (g.J.Entering.account c.see_image.new.journal) (g.J.Entering.account c.try_adopt.new.journal) c.args.pass.now c.see_image.new.pass c.try_adopt.new.pass
    c.see_image.ensures.entered c.see_image.ensures.calm.end _ _ c.try_adopt.result c.try_adopt.ensures.entered c.try_adopt.ensures.ends (c.in-Ok-Adopted.is ∙ (λ i. Ok (c.in-Ok-Adopted.field-0-is i))) c.args.key.now c.try_adopt.new.parent c.try_adopt.new.fosterer c.nearer.result c.try_adopt.ensures.taken c.try_adopt.ensures.given c.nearer.ensures.near c.requires.rules
    (subst (λ (h : Hand). IsToChild c.args.key.now c.args.parent.state h.page) back c.requires.way) (subst (λ (h : Hand). Leads c.args.parent.state h.page h.state) back c.requires.child) c.requires.now
    (subst (λ (h : Hand). IsNow g.N.Life.opens c.see_image.new.pass.log h) back c.see_image.ensures.now)

pub returns-in-Ok-Adopted-clause-goes : goal.returns-in-Ok-Adopted-clause-goes
returns-in-Ok-Adopted-clause-goes g c =
    adoption_done g.N.Life.opens g.N.Life.entries g.N.Life.session_entries g.N.Life.log_faults g.N.Life.made (g.P.Pages.desk c.args.pages.now) c.args.parent c.see_image.new.held (g.J.Entering.account c.args.journal.now) (g.J.Entering.account c.see_image.new.journal) (g.J.Entering.account c.try_adopt.new.journal) c.args.pass.now c.see_image.new.pass c.try_adopt.new.pass
    c.see_image.ensures.entered c.see_image.ensures.calm.end _ _ c.try_adopt.result c.try_adopt.ensures.entered c.try_adopt.ensures.ends (c.in-Ok-Adopted.is ∙ (λ i. Ok (c.in-Ok-Adopted.field-0-is i))) (g.P.Pages.desk c.nearer.new.pages) (ap (λ (x : Desk). x.faults) c.nearer.ensures.desk)

pub returns-in-Ok-NoRoom-clause-tidy : goal.returns-in-Ok-NoRoom-clause-tidy
returns-in-Ok-NoRoom-clause-tidy g c =
    let parent = unless_room (c.try_adopt.new.parent ≡ c.args.parent) c.try_adopt.result _ _ (c.in-Ok-NoRoom.is ∙ (λ i. Ok (c.in-Ok-NoRoom.field-0-is i))) c.try_adopt.ensures.same in
    if_found (StaysTidyBy g.N.Life.opens g.N.Life.entries (known_by (standing (g.P.Pages.desk c.args.pages.now) (g.J.Entering.account c.try_adopt.new.journal) c.try_adopt.new.pass)) c.split_first.new.pass.log c.args.key.now c.try_adopt.new.parent) (StaysTidy g.N.Life.opens g.N.Life.entries (known_by (standing (g.P.Pages.desk c.args.pages.now) (g.J.Entering.account c.args.journal.now) c.args.pass.now)) c.split_first.new.pass.log c.args.key.now c.args.parent.page) c.split_first.result
    (λ next stays. crowded_stays g.N.Life.opens g.N.Life.entries g.N.Life.session_entries g.N.Life.log_faults g.N.Life.made (g.P.Pages.desk c.args.pages.now) c.args.parent c.see_image.new.held (g.J.Entering.account c.args.journal.now) (g.J.Entering.account c.see_image.new.journal) (g.J.Entering.account c.try_adopt.new.journal) c.args.pass.now c.see_image.new.pass c.try_adopt.new.pass
    c.see_image.ensures.entered c.see_image.ensures.calm.end _ _ c.try_adopt.result c.try_adopt.ensures.entered c.try_adopt.ensures.ends _ _ (c.in-Ok-NoRoom.is ∙ (λ i. Ok (c.in-Ok-NoRoom.field-0-is i))) c.args.key.now c.split_first.new.pass.log next c.requires.now
    (subst (λ (h : Hand). StaysTidyBy g.N.Life.opens g.N.Life.entries (known_by (standing (g.P.Pages.desk c.args.pages.now) (g.J.Entering.account c.try_adopt.new.journal) c.try_adopt.new.pass)) c.split_first.new.pass.log c.args.key.now h next) parent stays))
    c.split_first.ensures.tidy

pub returns-in-Ok-NoRoom-clause-goes : goal.returns-in-Ok-NoRoom-clause-goes
returns-in-Ok-NoRoom-clause-goes g c =
    on_done (GoesOn (standing (g.P.Pages.desk c.args.pages.now) (g.J.Entering.account c.try_adopt.new.journal) c.try_adopt.new.pass) (standing (g.P.Pages.desk c.split_first.new.pages) (g.J.Entering.account c.split_first.new.journal) c.split_first.new.pass)) (GoesOn (standing (g.P.Pages.desk c.args.pages.now) (g.J.Entering.account c.args.journal.now) c.args.pass.now) (standing (g.P.Pages.desk c.split_first.new.pages) (g.J.Entering.account c.split_first.new.journal) c.split_first.new.pass)) c.split_first.result (crowded_goes g.N.Life.opens g.N.Life.entries g.N.Life.session_entries g.N.Life.log_faults g.N.Life.made (g.P.Pages.desk c.args.pages.now) c.args.parent c.see_image.new.held (g.J.Entering.account c.args.journal.now) (g.J.Entering.account c.see_image.new.journal) (g.J.Entering.account c.try_adopt.new.journal) c.args.pass.now c.see_image.new.pass c.try_adopt.new.pass
    c.see_image.ensures.entered c.see_image.ensures.calm.end _ _ c.try_adopt.result c.try_adopt.ensures.entered c.try_adopt.ensures.ends _ _ (c.in-Ok-NoRoom.is ∙ (λ i. Ok (c.in-Ok-NoRoom.field-0-is i))) _ _ _) c.split_first.ensures.goes

pub returns-in-Ok-NoRoom-clause-fails : goal.returns-in-Ok-NoRoom-clause-fails
returns-in-Ok-NoRoom-clause-fails g c =
    if_fails (Fails g.N.Life.opens g.N.Life.entries g.N.Life.session_entries g.N.Life.log_faults g.N.Life.made (standing (g.P.Pages.desk c.args.pages.now) (g.J.Entering.account c.try_adopt.new.journal) c.try_adopt.new.pass) (standing (g.P.Pages.desk c.split_first.new.pages) (g.J.Entering.account c.split_first.new.journal) c.split_first.new.pass)) (Fails g.N.Life.opens g.N.Life.entries g.N.Life.session_entries g.N.Life.log_faults g.N.Life.made (standing (g.P.Pages.desk c.args.pages.now) (g.J.Entering.account c.args.journal.now) c.args.pass.now) (standing (g.P.Pages.desk c.split_first.new.pages) (g.J.Entering.account c.split_first.new.journal) c.split_first.new.pass)) c.split_first.result (λ fault why. crowded_fails g.N.Life.opens g.N.Life.entries g.N.Life.session_entries g.N.Life.log_faults g.N.Life.made (g.P.Pages.desk c.args.pages.now) c.args.parent c.see_image.new.held (g.J.Entering.account c.args.journal.now) (g.J.Entering.account c.see_image.new.journal) (g.J.Entering.account c.try_adopt.new.journal) c.args.pass.now c.see_image.new.pass c.try_adopt.new.pass
    c.see_image.ensures.entered c.see_image.ensures.calm.end _ _ c.try_adopt.result c.try_adopt.ensures.entered c.try_adopt.ensures.ends _ _ (c.in-Ok-NoRoom.is ∙ (λ i. Ok (c.in-Ok-NoRoom.field-0-is i))) _ _ _ fault why) c.split_first.ensures.fails

pub returns-in-Err-clause-fails : goal.returns-in-Err-clause-fails
returns-in-Err-clause-fails g c =
    adoption_refused g.N.Life.opens g.N.Life.entries g.N.Life.session_entries g.N.Life.log_faults g.N.Life.made (g.P.Pages.desk c.args.pages.now) c.args.parent c.see_image.new.held (g.J.Entering.account c.args.journal.now) (g.J.Entering.account c.see_image.new.journal) (g.J.Entering.account c.try_adopt.new.journal) c.args.pass.now c.see_image.new.pass c.try_adopt.new.pass
    c.see_image.ensures.entered c.see_image.ensures.calm.end _ _ c.try_adopt.result c.try_adopt.ensures.entered c.try_adopt.ensures.ends (g.P.Pages.desk c.put_back-in-Err.new.self) c.in-Err.fault c.in-Err.is c.try_adopt.ensures.refused
    (back_faults (g.P.Pages.desk c.put_back.new.self) (g.P.Pages.desk c.put_back-in-Err.new.self) c.put_back-in-Err.ensures.out ∙ back_faults (g.P.Pages.desk c.args.pages.now) (g.P.Pages.desk c.put_back.new.self) c.put_back.ensures.out)
    (back_two (g.P.Pages.desk c.args.pages.now) (g.P.Pages.desk c.put_back.new.self) (g.P.Pages.desk c.put_back-in-Err.new.self) c.requires.taken c.put_back.ensures.out c.put_back-in-Err.ensures.out)
