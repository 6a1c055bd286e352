use Rattle.std.proofs.Common.{Ok, subst, ◌∙◌}
use Rattle.page_ops.specs.Outcomes.{IsAnswer}
use Rattle.leaf_writes.specs.Changes.{change_group}
use Rattle.leaf_writes.specs.KeyWrites.{found, has_room}
use Rattle.rollback.proofs.Steps.{desk_faults}
use Rattle.engine.proofs.Written.{answers_err, answers_ok, lacks_room, live_err, live_ok, no_other, said_ok, write_fails}
use Rattle.engine.proofs.changing.enter_change.Goals as goal

pub returns-in-Err-clause-answers : goal.returns-in-Err-clause-answers
returns-in-Err-clause-answers g c =
    answers_err g.N.Life.opens g.N.Life.entries g.N.Life.session_entries c.args.change.now c.args.owner.now c.args.pass.now c.args.leaf.now.state c.requires.may c.requires.asked c.write_key.new.pass (g.P.Pages.desk c.args.pages.now) (g.P.Pages.desk c.write_key.new.pages) (desk_faults (has_room c.args.change.now (found c.args.change.now c.args.leaf.now.state)) (g.P.Pages.desk c.args.pages.now) (g.P.Pages.desk c.write_key.new.pages) c.write_key.result c.write_key.ensures.desk) (g.J.Entering.account c.args.journal.now) (g.J.Entering.account c.write_key.new.journal) _ _ c.args.leaf.now c.write_key.new.leaf c.write_key.result c.write_key.ensures.written c.write_key.new.owner c.write_key.ensures.owner c.in-Err.fault c.in-Err.is c.in-Err.ensures.refused

pub returns-in-Err-clause-holder : goal.returns-in-Err-clause-holder
returns-in-Err-clause-holder g c =
    record { session = c.write_key.ensures.owner.session; tx = c.write_key.ensures.owner.tx }

pub returns-in-Err-clause-live : goal.returns-in-Err-clause-live
returns-in-Err-clause-live g c =
    live_err g.N.Life.opens g.N.Life.entries g.N.Life.session_entries c.args.change.now c.args.owner.now c.args.pass.now c.args.leaf.now.state c.requires.may c.requires.asked c.write_key.new.pass (g.P.Pages.desk c.args.pages.now) (g.P.Pages.desk c.write_key.new.pages) (desk_faults (has_room c.args.change.now (found c.args.change.now c.args.leaf.now.state)) (g.P.Pages.desk c.args.pages.now) (g.P.Pages.desk c.write_key.new.pages) c.write_key.result c.write_key.ensures.desk) (g.J.Entering.account c.args.journal.now) (g.J.Entering.account c.write_key.new.journal) _ _ c.args.leaf.now c.write_key.new.leaf c.write_key.result c.write_key.ensures.written c.write_key.new.owner c.write_key.ensures.owner c.in-Err.fault c.in-Err.is c.in-Err.ensures.refused c.in-Err.ensures.declined

pub returns-in-Err-clause-full : goal.returns-in-Err-clause-full
returns-in-Err-clause-full g c =
    lacks_room g.N.Life.opens c.write_key.new.pass.log c.args.change.now c.args.owner.now c.args.leaf.now.page c.in-Err.fault c.in-Err.ensures.full

pub returns-in-Err-clause-refused : goal.returns-in-Err-clause-refused
returns-in-Err-clause-refused g c =
    write_fails g.N.Life.opens g.N.Life.log_faults g.N.Life.made (g.P.Pages.desk c.args.pages.now).faults (g.P.Pages.desk c.write_key.new.pages).faults (g.J.Entering.account c.args.journal.now) (g.J.Entering.account c.write_key.new.journal) c.write_key.new.pass.log c.in-Err.fault (desk_faults (has_room c.args.change.now (found c.args.change.now c.args.leaf.now.state)) (g.P.Pages.desk c.args.pages.now) (g.P.Pages.desk c.write_key.new.pages) c.write_key.result c.write_key.ensures.desk) c.in-Err.ensures.refused c.in-Err.ensures.ends

pub returns-clause-answers : goal.returns-clause-answers
returns-clause-answers g c =
    answers_ok g.N.Life.opens g.N.Life.entries g.N.Life.session_entries c.args.change.now c.args.owner.now c.args.pass.now c.args.leaf.now.state c.requires.may c.requires.asked c.write_key.new.pass (g.P.Pages.desk c.args.pages.now) (g.P.Pages.desk c.write_key.new.pages) (desk_faults (has_room c.args.change.now (found c.args.change.now c.args.leaf.now.state)) (g.P.Pages.desk c.args.pages.now) (g.P.Pages.desk c.write_key.new.pages) c.write_key.result c.write_key.ensures.desk) (g.J.Entering.account c.args.journal.now) (g.J.Entering.account c.write_key.new.journal) _ _ c.args.leaf.now c.write_key.new.leaf c.write_key.result c.write_key.ensures.written c.write_key.new.owner c.write_key.ensures.owner c.in-At.pos (c.in-Ok.is ∙ (λ i. Ok (c.in-At.is i))) c.old_of-old.result c.old_of-old.ensures

pub returns-clause-said : goal.returns-clause-said
returns-clause-said g c =
    said_ok g.N.Life.opens g.N.Life.entries g.N.Life.session_entries c.args.change.now c.args.owner.now c.args.pass.now c.args.leaf.now.state c.requires.may c.requires.asked c.write_key.new.pass (g.P.Pages.desk c.args.pages.now) (g.P.Pages.desk c.write_key.new.pages) (desk_faults (has_room c.args.change.now (found c.args.change.now c.args.leaf.now.state)) (g.P.Pages.desk c.args.pages.now) (g.P.Pages.desk c.write_key.new.pages) c.write_key.result c.write_key.ensures.desk) (g.J.Entering.account c.args.journal.now) (g.J.Entering.account c.write_key.new.journal) _ _ c.args.leaf.now c.write_key.new.leaf c.write_key.result c.write_key.ensures.written c.write_key.new.owner c.write_key.ensures.owner c.in-At.pos (c.in-Ok.is ∙ (λ i. Ok (c.in-At.is i))) c.old_of-old.result c.old_of-old.ensures (subst (IsAnswer g.N.Life.opens c.write_key.new.pass.log (change_group c.args.change.now c.args.owner.now c.args.leaf.now.page)) c.in-At.is c.in-Ok.ensures.answer)

pub returns-clause-holder : goal.returns-clause-holder
returns-clause-holder g c =
    record { session = c.write_key.ensures.owner.session; tx = c.write_key.ensures.owner.tx }

pub returns-clause-live : goal.returns-clause-live
returns-clause-live g c =
    live_ok g.N.Life.opens g.N.Life.entries g.N.Life.session_entries c.args.change.now c.args.owner.now c.args.pass.now c.args.leaf.now.state c.requires.may c.requires.asked c.write_key.new.pass (g.P.Pages.desk c.args.pages.now) (g.P.Pages.desk c.write_key.new.pages) (desk_faults (has_room c.args.change.now (found c.args.change.now c.args.leaf.now.state)) (g.P.Pages.desk c.args.pages.now) (g.P.Pages.desk c.write_key.new.pages) c.write_key.result c.write_key.ensures.desk) (g.J.Entering.account c.args.journal.now) (g.J.Entering.account c.write_key.new.journal) _ _ c.args.leaf.now c.write_key.new.leaf c.write_key.result c.write_key.ensures.written c.write_key.new.owner c.write_key.ensures.owner c.in-At.pos (c.in-Ok.is ∙ (λ i. Ok (c.in-At.is i))) c.old_of-old.result c.old_of-old.ensures c.in-Ok.ensures.agrees

pub unreachable-requires : goal.unreachable-requires
unreachable-requires g c =
    no_other g.N.Life.opens g.N.Life.entries g.N.Life.session_entries c.args.change.now c.args.owner.now c.args.pass.now c.args.leaf.now.state c.requires.may c.requires.asked _ _ c.write_key.result c.in-Ok.entered c.in-Ok.is c.write_key.ensures.answer c.in_default.not-At
