use Rattle.std.proofs.Common.{ℕ, Result, Ok, ap, sym, subst, ◌∙◌}
use Rattle.std.specs.Option.{option_map}
use Rattle.std.proofs.lemmas.Result.{err_from_is_err_and}
use Rattle.books.specs.Rights.{SessionClaim}
use Rattle.store_model.specs.declared.fault.Fault.{Fault}
use Rattle.page_ops.specs.declared.outcome.Entered.{Entered}
use Rattle.page_ops.proofs.Composing.{done_meets_none}
use Rattle.foster_tree.proofs.Made.{made_since}
use Rattle.rollback.specs.Owners.{MayRollBack}
use Rattle.rollback.specs.Rolls.{Rolls, standing, undone_by, undone_in}
use Rattle.rollback.specs.declared.undid.Undid.{Undid}
use Rattle.rollback.proofs.Composing.{rolls_looked}
use Rattle.rollback.proofs.Failing.{none_then}
use Rattle.rollback.proofs.LastWrites.{nothing_open, takes_last}
use Rattle.rollback.proofs.Owning.{may_later}
use Rattle.rollback.proofs.Steps.{begins_look, begins_write, fails_look, fails_write, looked_then, none_look, not_at, wrote_then}
use Rattle.rollback.proofs.undoing.undo_last.Goals as goal

pub loop-init : goal.loop-init
loop-init g c = (
  tt,
  tt,
  c.requires.none,
  made_since _ _ _ _ c.see_owner.ensures.seen.now.begins c.requires.made,
  subst (MayRollBack g.N.Life.opens c.see_owner.new.pass.log c.args.tx) (sym c.see_owner.ensures.same) (may_later g.N.Life.opens c.args.pass.now.log c.see_owner.new.pass.log c.args.tx c.args.owner.now c.see_owner.ensures.seen.now.begins c.requires.owner),
  ap (option_map (λ (s : SessionClaim). s.session)) c.see_owner.ensures.same,
  rolls_looked g.N.Life.opens g.N.Life.entries g.N.Life.session_entries c.args.tx (g.P.Pages.desk c.args.pages.now) (g.J.Entering.account c.args.journal.now) (g.J.Entering.account c.see_owner.new.journal) c.args.pass.now c.see_owner.new.pass _ _ c.see_owner.ensures.seen,
  c.see_owner.ensures.calm.end,
)

pub returns-in_err-write-clause-gains : goal.returns-in_err-write-clause-gains
returns-in_err-write-clause-gains g c =
    let p = err_from_is_err_and c.from_residual.result c.from_residual.ensures.1 in
    subst (λ (r : Result Undid Fault). Rolls g.N.Life.opens g.N.Life.entries g.N.Life.session_entries c.args.tx (undone_by r) (standing (g.P.Pages.desk c.args.pages.now) (g.J.Entering.account c.args.journal.now) c.args.pass.now) (standing (g.P.Pages.desk c.loop.pages) (g.J.Entering.account c.last_open.new.self) c.last_open.new.pass)) (sym p.1)
    (looked_then g.N.Life.opens g.N.Life.entries g.N.Life.session_entries g.N.Life.log_faults g.N.Life.made c.args.tx (g.P.Pages.desk c.args.pages.now) (g.P.Pages.desk c.loop.pages) (g.J.Entering.account c.args.journal.now) (g.J.Entering.account c.loop.journal) (g.J.Entering.account c.last_open.new.self) c.args.pass.now c.loop.pass c.last_open.new.pass c.loop.invariant.6 c.loop.invariant.7 _ _ c.last_open.ensures.seen)

pub returns-in_err-write-clause-owner : goal.returns-in_err-write-clause-owner
returns-in_err-write-clause-owner g c = may_later g.N.Life.opens c.loop.pass.log c.last_open.new.pass.log c.args.tx c.loop.owner (begins_look g.N.Life.opens g.N.Life.entries g.N.Life.session_entries g.N.Life.log_faults g.N.Life.made c.args.tx (g.P.Pages.desk c.args.pages.now) (g.P.Pages.desk c.loop.pages) (g.J.Entering.account c.args.journal.now) (g.J.Entering.account c.loop.journal) (g.J.Entering.account c.last_open.new.self) c.args.pass.now c.loop.pass c.last_open.new.pass c.loop.invariant.6 c.loop.invariant.7 _ _ c.last_open.ensures.seen) c.loop.invariant.4

pub returns-in_err-write-clause-holder : goal.returns-in_err-write-clause-holder
returns-in_err-write-clause-holder g c = c.loop.invariant.5

pub returns-in_err-write-clause-none : goal.returns-in_err-write-clause-none
returns-in_err-write-clause-none g c = c.loop.invariant.2

pub returns-in_err-write-clause-refused : goal.returns-in_err-write-clause-refused
returns-in_err-write-clause-refused g c =
    let p = err_from_is_err_and c.from_residual.result c.from_residual.ensures.1 in
    rw (p.1, p.2) (fails_look g.N.Life.opens g.N.Life.entries g.N.Life.session_entries g.N.Life.log_faults g.N.Life.made c.args.tx (g.P.Pages.desk c.args.pages.now) (g.P.Pages.desk c.loop.pages) (g.J.Entering.account c.args.journal.now) (g.J.Entering.account c.loop.journal) (g.J.Entering.account c.last_open.new.self) c.args.pass.now c.loop.pass c.last_open.new.pass c.loop.invariant.6 c.loop.invariant.7 _ _ c.last_open.ensures.seen _ c.in_err-write.ensures.refused c.in_err-write.ensures.ends)

pub returns-in_default-clause-undone : goal.returns-in_default-clause-undone
returns-in_default-clause-undone g c = nothing_open g.N.Life.opens c.last_open.new.pass.log c.args.tx c.in_ok-write.field-0 c.in_default.is c.in_ok-write.ensures.last

pub returns-in_default-clause-gains : goal.returns-in_default-clause-gains
returns-in_default-clause-gains g c = looked_then g.N.Life.opens g.N.Life.entries g.N.Life.session_entries g.N.Life.log_faults g.N.Life.made c.args.tx (g.P.Pages.desk c.args.pages.now) (g.P.Pages.desk c.loop.pages) (g.J.Entering.account c.args.journal.now) (g.J.Entering.account c.loop.journal) (g.J.Entering.account c.last_open.new.self) c.args.pass.now c.loop.pass c.last_open.new.pass c.loop.invariant.6 c.loop.invariant.7 _ _ c.last_open.ensures.seen

pub returns-in_default-clause-owner : goal.returns-in_default-clause-owner
returns-in_default-clause-owner g c = (may_later g.N.Life.opens c.loop.pass.log c.last_open.new.pass.log c.args.tx c.loop.owner (begins_look g.N.Life.opens g.N.Life.entries g.N.Life.session_entries g.N.Life.log_faults g.N.Life.made c.args.tx (g.P.Pages.desk c.args.pages.now) (g.P.Pages.desk c.loop.pages) (g.J.Entering.account c.args.journal.now) (g.J.Entering.account c.loop.journal) (g.J.Entering.account c.last_open.new.self) c.args.pass.now c.loop.pass c.last_open.new.pass c.loop.invariant.6 c.loop.invariant.7 _ _ c.last_open.ensures.seen) c.loop.invariant.4)

pub returns-in_default-taking_back-clause-gains : goal.returns-in_default-taking_back-clause-gains
returns-in_default-taking_back-clause-gains g c = looked_then g.N.Life.opens g.N.Life.entries g.N.Life.session_entries g.N.Life.log_faults g.N.Life.made c.args.tx (g.P.Pages.desk c.args.pages.now) (g.P.Pages.desk c.loop.pages) (g.J.Entering.account c.args.journal.now) (g.J.Entering.account c.loop.journal) (g.J.Entering.account c.last_open.new.self) c.args.pass.now c.loop.pass c.last_open.new.pass c.loop.invariant.6 c.loop.invariant.7 _ _ c.last_open.ensures.seen

pub returns-in_default-taking_back-clause-owner : goal.returns-in_default-taking_back-clause-owner
returns-in_default-taking_back-clause-owner g c = (may_later g.N.Life.opens c.loop.pass.log c.last_open.new.pass.log c.args.tx c.loop.owner (begins_look g.N.Life.opens g.N.Life.entries g.N.Life.session_entries g.N.Life.log_faults g.N.Life.made c.args.tx (g.P.Pages.desk c.args.pages.now) (g.P.Pages.desk c.loop.pages) (g.J.Entering.account c.args.journal.now) (g.J.Entering.account c.loop.journal) (g.J.Entering.account c.last_open.new.self) c.args.pass.now c.loop.pass c.last_open.new.pass c.loop.invariant.6 c.loop.invariant.7 _ _ c.last_open.ensures.seen) c.loop.invariant.4)

pub undo_write-requires-clause-made : goal.undo_write-requires-clause-made
undo_write-requires-clause-made g c = made_since _ _ _ _ (begins_look g.N.Life.opens g.N.Life.entries g.N.Life.session_entries g.N.Life.log_faults g.N.Life.made c.args.tx (g.P.Pages.desk c.args.pages.now) (g.P.Pages.desk c.loop.pages) (g.J.Entering.account c.args.journal.now) (g.J.Entering.account c.loop.journal) (g.J.Entering.account c.last_open.new.self) c.args.pass.now c.loop.pass c.last_open.new.pass c.loop.invariant.6 c.loop.invariant.7 _ _ c.last_open.ensures.seen) c.loop.invariant.3

pub undo_write-requires-clause-owner : goal.undo_write-requires-clause-owner
undo_write-requires-clause-owner g c = subst (λ (t : ℕ). MayRollBack g.N.Life.opens c.last_open.new.pass.log t c.loop.owner) (sym c.in-Some-taking_back.ensures.tx) (may_later g.N.Life.opens c.loop.pass.log c.last_open.new.pass.log c.args.tx c.loop.owner (begins_look g.N.Life.opens g.N.Life.entries g.N.Life.session_entries g.N.Life.log_faults g.N.Life.made c.args.tx (g.P.Pages.desk c.args.pages.now) (g.P.Pages.desk c.loop.pages) (g.J.Entering.account c.args.journal.now) (g.J.Entering.account c.loop.journal) (g.J.Entering.account c.last_open.new.self) c.args.pass.now c.loop.pass c.last_open.new.pass c.loop.invariant.6 c.loop.invariant.7 _ _ c.last_open.ensures.seen) c.loop.invariant.4)

pub undo_write-requires-clause-last : goal.undo_write-requires-clause-last
undo_write-requires-clause-last g c = takes_last g.N.Life.opens c.last_open.new.pass.log c.args.tx c.in_ok-write.field-0 c.in-Some-2.write c.in-Some-taking_back.change c.in-Some-2.is c.in_ok-write.ensures.last c.in-Some-taking_back.ensures

pub returns-in_err-pos-clause-gains : goal.returns-in_err-pos-clause-gains
returns-in_err-pos-clause-gains g c =
    let p = err_from_is_err_and c.from_residual-in_err-pos.result c.from_residual-in_err-pos.ensures.1 in
    subst (λ (r : Result Undid Fault). Rolls g.N.Life.opens g.N.Life.entries g.N.Life.session_entries c.args.tx (undone_by r) (standing (g.P.Pages.desk c.args.pages.now) (g.J.Entering.account c.args.journal.now) c.args.pass.now) (standing (g.P.Pages.desk c.undo_write.new.pages) (g.J.Entering.account c.undo_write.new.journal) c.undo_write.new.pass)) (sym p.1)
    (wrote_then g.N.Life.opens g.N.Life.entries g.N.Life.session_entries g.N.Life.log_faults g.N.Life.made c.args.tx (g.P.Pages.desk c.args.pages.now) (g.P.Pages.desk c.loop.pages) (g.J.Entering.account c.args.journal.now) (g.J.Entering.account c.loop.journal) (g.J.Entering.account c.last_open.new.self) c.args.pass.now c.loop.pass c.last_open.new.pass c.loop.invariant.6 c.loop.invariant.7 _ _ c.last_open.ensures.seen (g.P.Pages.desk c.undo_write.new.pages) (g.J.Entering.account c.undo_write.new.journal) c.undo_write.new.pass 0 (subst (λ (t : ℕ). Rolls g.N.Life.opens g.N.Life.entries g.N.Life.session_entries t 0 (standing (g.P.Pages.desk c.loop.pages) (g.J.Entering.account c.last_open.new.self) c.last_open.new.pass) (standing (g.P.Pages.desk c.undo_write.new.pages) (g.J.Entering.account c.undo_write.new.journal) c.undo_write.new.pass)) c.in-Some-taking_back.ensures.tx c.in_err-pos.ensures.gains))

pub returns-in_err-pos-clause-refused : goal.returns-in_err-pos-clause-refused
returns-in_err-pos-clause-refused g c =
    let p = err_from_is_err_and c.from_residual-in_err-pos.result c.from_residual-in_err-pos.ensures.1 in
    rw (p.1, p.2) (fails_write g.N.Life.opens g.N.Life.entries g.N.Life.session_entries g.N.Life.log_faults g.N.Life.made c.args.tx (g.P.Pages.desk c.args.pages.now) (g.P.Pages.desk c.loop.pages) (g.J.Entering.account c.args.journal.now) (g.J.Entering.account c.loop.journal) (g.J.Entering.account c.last_open.new.self) c.args.pass.now c.loop.pass c.last_open.new.pass c.loop.invariant.6 c.loop.invariant.7 _ _ c.last_open.ensures.seen (g.P.Pages.desk c.undo_write.new.pages) (g.J.Entering.account c.undo_write.new.journal) c.undo_write.new.pass (done_meets_none g.N.Life.opens g.N.Life.log_faults g.N.Life.made (g.J.Entering.account c.loop.journal) (g.J.Entering.account c.last_open.new.self) c.last_open.new.pass.log c.in_ok-write.field-0 c.in_ok-write.ensures.ends) _ c.in_err-pos.ensures.refused)

pub returns-in-At-clause-gains : goal.returns-in-At-clause-gains
returns-in-At-clause-gains g c =
    wrote_then g.N.Life.opens g.N.Life.entries g.N.Life.session_entries g.N.Life.log_faults g.N.Life.made c.args.tx (g.P.Pages.desk c.args.pages.now) (g.P.Pages.desk c.loop.pages) (g.J.Entering.account c.args.journal.now) (g.J.Entering.account c.loop.journal) (g.J.Entering.account c.last_open.new.self) c.args.pass.now c.loop.pass c.last_open.new.pass c.loop.invariant.6 c.loop.invariant.7 _ _ c.last_open.ensures.seen (g.P.Pages.desk c.undo_write.new.pages) (g.J.Entering.account c.undo_write.new.journal) c.undo_write.new.pass 1
    (subst (λ (q : ℕ × Entered). Rolls g.N.Life.opens g.N.Life.entries g.N.Life.session_entries q.0 (undone_in (Ok q.1)) (standing (g.P.Pages.desk c.loop.pages) (g.J.Entering.account c.last_open.new.self) c.last_open.new.pass) (standing (g.P.Pages.desk c.undo_write.new.pages) (g.J.Entering.account c.undo_write.new.journal) c.undo_write.new.pass)) (λ i. (c.in-Some-taking_back.ensures.tx i, c.in-At.is i)) c.in_ok-pos.ensures.gains)

pub loop-preserved : goal.loop-preserved
loop-preserved g c = (
  tt,
  tt,
  c.undo_write.ensures.none,
  made_since _ _ _ _ (begins_write g.N.Life.opens g.N.Life.entries g.N.Life.session_entries g.N.Life.log_faults g.N.Life.made c.args.tx (g.P.Pages.desk c.args.pages.now) (g.P.Pages.desk c.loop.pages) (g.J.Entering.account c.args.journal.now) (g.J.Entering.account c.loop.journal) (g.J.Entering.account c.last_open.new.self) c.args.pass.now c.loop.pass c.last_open.new.pass c.loop.invariant.6 c.loop.invariant.7 _ _ c.last_open.ensures.seen (g.P.Pages.desk c.undo_write.new.pages) (g.J.Entering.account c.undo_write.new.journal) c.undo_write.new.pass 0 (subst (λ (q : ℕ × ℕ). Rolls g.N.Life.opens g.N.Life.entries g.N.Life.session_entries q.0 q.1 (standing (g.P.Pages.desk c.loop.pages) (g.J.Entering.account c.last_open.new.self) c.last_open.new.pass) (standing (g.P.Pages.desk c.undo_write.new.pages) (g.J.Entering.account c.undo_write.new.journal) c.undo_write.new.pass)) (λ i. (c.in-Some-taking_back.ensures.tx i, not_at c.in_ok-pos.field-0 c.in_default-2.not-At i)) c.in_ok-pos.ensures.gains)) c.loop.invariant.3,
  subst (λ (t : ℕ). MayRollBack g.N.Life.opens c.undo_write.new.pass.log t c.undo_write.new.owner) c.in-Some-taking_back.ensures.tx c.undo_write.ensures.owner,
  c.undo_write.ensures.holder ∙ c.loop.invariant.5,
  wrote_then g.N.Life.opens g.N.Life.entries g.N.Life.session_entries g.N.Life.log_faults g.N.Life.made c.args.tx (g.P.Pages.desk c.args.pages.now) (g.P.Pages.desk c.loop.pages) (g.J.Entering.account c.args.journal.now) (g.J.Entering.account c.loop.journal) (g.J.Entering.account c.last_open.new.self) c.args.pass.now c.loop.pass c.last_open.new.pass c.loop.invariant.6 c.loop.invariant.7 _ _ c.last_open.ensures.seen (g.P.Pages.desk c.undo_write.new.pages) (g.J.Entering.account c.undo_write.new.journal) c.undo_write.new.pass 0 (subst (λ (q : ℕ × ℕ). Rolls g.N.Life.opens g.N.Life.entries g.N.Life.session_entries q.0 q.1 (standing (g.P.Pages.desk c.loop.pages) (g.J.Entering.account c.last_open.new.self) c.last_open.new.pass) (standing (g.P.Pages.desk c.undo_write.new.pages) (g.J.Entering.account c.undo_write.new.journal) c.undo_write.new.pass)) (λ i. (c.in-Some-taking_back.ensures.tx i, not_at c.in_ok-pos.field-0 c.in_default-2.not-At i)) c.in_ok-pos.ensures.gains),
  none_then (g.J.Entering.account c.args.journal.now) (g.J.Entering.account c.last_open.new.self) (g.J.Entering.account c.undo_write.new.journal) (none_look g.N.Life.opens g.N.Life.entries g.N.Life.session_entries g.N.Life.log_faults g.N.Life.made c.args.tx (g.P.Pages.desk c.args.pages.now) (g.P.Pages.desk c.loop.pages) (g.J.Entering.account c.args.journal.now) (g.J.Entering.account c.loop.journal) (g.J.Entering.account c.last_open.new.self) c.args.pass.now c.loop.pass c.last_open.new.pass c.loop.invariant.6 c.loop.invariant.7 _ _ c.last_open.ensures.seen (done_meets_none g.N.Life.opens g.N.Life.log_faults g.N.Life.made (g.J.Entering.account c.loop.journal) (g.J.Entering.account c.last_open.new.self) c.last_open.new.pass.log c.in_ok-write.field-0 c.in_ok-write.ensures.ends)) c.in_ok-pos.ensures.open,
)
