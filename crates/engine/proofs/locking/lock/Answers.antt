use Rattle.std.proofs.Common.{Ok, refl, subst, ◌∙◌}
use Rattle.wal_record.specs.Legal.{held}
use Rattle.page_ops.specs.Outcomes.{IsGrant}
use Rattle.page_ops.specs.declared.outcome.Grant.TheVariants as grants
use Rattle.rollback.specs.Rolls.{standing}
use Rattle.rollback.proofs.Failing.{none_met, none_then}
use Rattle.engine.proofs.LockAsked.{root_made}
use Rattle.engine.proofs.Serving.{clears_none}
use Rattle.engine.proofs.Turns.{clears_then, live_err, live_ok, live_undo, locks_err, locks_ok, locks_undo, none_looked, refused_err, refused_undo, right_kept}
use Rattle.engine.proofs.locking.lock.Goals as goal

pub loop-init : goal.loop-init
loop-init g c =
    (tt, tt, c.requires.none, c.requires.reserved, refl, clears_none g.N.Life.opens g.N.Life.entries g.N.Life.session_entries (held c.args.range.now c.args.mode) (standing (g.P.Pages.desk c.args.pages.now) (g.J.Entering.account c.args.journal.now) c.args.pass.now), none_met (g.J.Entering.account c.args.journal.now))

pub returns-in-Ok-Held-clause-locks : goal.returns-in-Ok-Held-clause-locks
returns-in-Ok-Held-clause-locks g c =
    locks_ok g.N.Life.opens g.N.Life.entries g.N.Life.session_entries g.N.Life.log_faults g.N.Life.made c.args.range.now c.args.mode (g.P.Pages.desk c.args.pages.now) (g.P.Pages.desk c.loop.pages) (g.J.Entering.account c.args.journal.now) (g.J.Entering.account c.loop.journal) (g.J.Entering.account c.lock.new.self) c.args.pass.now c.loop.pass c.lock.new.pass c.args.s.now c.loop.s c.lock.new.s c.loop.invariant.4 c.loop.invariant.5 c.loop.invariant.6 c.lock.result c.lock.ensures.entered c.lock.ensures.right c.in-Ok-Held.pos (c.in-Ok-Held.is ∙ (λ i. Ok (c.in-Ok-Held.field-0-is i)))

pub returns-in-Ok-Held-clause-live : goal.returns-in-Ok-Held-clause-live
returns-in-Ok-Held-clause-live g c =
    λ owned. live_ok g.N.Life.opens g.N.Life.entries g.N.Life.session_entries g.N.Life.log_faults g.N.Life.made c.args.range.now c.args.mode (g.P.Pages.desk c.args.pages.now) (g.P.Pages.desk c.loop.pages) (g.J.Entering.account c.args.journal.now) (g.J.Entering.account c.loop.journal) (g.J.Entering.account c.lock.new.self) c.args.pass.now c.loop.pass c.lock.new.pass c.args.s.now c.loop.s c.lock.new.s c.loop.invariant.4 c.loop.invariant.5 c.loop.invariant.6 c.lock.result c.lock.ensures.entered c.lock.ensures.right c.in-Ok-Held.pos (c.in-Ok-Held.is ∙ (λ i. Ok (c.in-Ok-Held.field-0-is i))) c.requires.active

pub returns-in-Err-clause-locks : goal.returns-in-Err-clause-locks
returns-in-Err-clause-locks g c =
    locks_err g.N.Life.opens g.N.Life.entries g.N.Life.session_entries g.N.Life.log_faults g.N.Life.made c.args.range.now c.args.mode (g.P.Pages.desk c.args.pages.now) (g.P.Pages.desk c.loop.pages) (g.J.Entering.account c.args.journal.now) (g.J.Entering.account c.loop.journal) (g.J.Entering.account c.lock.new.self) c.args.pass.now c.loop.pass c.lock.new.pass c.args.s.now c.loop.s c.lock.new.s c.loop.invariant.4 c.loop.invariant.5 c.loop.invariant.6 c.lock.result c.lock.ensures.entered c.lock.ensures.right c.in-Err.fault c.in-Err.is

pub returns-in-Err-clause-live : goal.returns-in-Err-clause-live
returns-in-Err-clause-live g c =
    live_err g.N.Life.opens g.N.Life.entries g.N.Life.session_entries g.N.Life.log_faults g.N.Life.made c.args.range.now c.args.mode (g.P.Pages.desk c.args.pages.now) (g.P.Pages.desk c.loop.pages) (g.J.Entering.account c.args.journal.now) (g.J.Entering.account c.loop.journal) (g.J.Entering.account c.lock.new.self) c.args.pass.now c.loop.pass c.lock.new.pass c.args.s.now c.loop.s c.lock.new.s c.loop.invariant.4 c.loop.invariant.5 c.loop.invariant.6 c.lock.result c.lock.ensures.entered c.lock.ensures.right c.in-Err.fault c.in-Err.is

pub returns-in-Err-clause-refused : goal.returns-in-Err-clause-refused
returns-in-Err-clause-refused g c =
    refused_err g.N.Life.opens g.N.Life.entries g.N.Life.session_entries g.N.Life.log_faults g.N.Life.made c.args.range.now c.args.mode (g.P.Pages.desk c.args.pages.now) (g.P.Pages.desk c.loop.pages) (g.J.Entering.account c.args.journal.now) (g.J.Entering.account c.loop.journal) (g.J.Entering.account c.lock.new.self) c.args.pass.now c.loop.pass c.lock.new.pass c.args.s.now c.loop.s c.lock.new.s c.loop.invariant.4 c.loop.invariant.5 c.loop.invariant.6 c.lock.result c.lock.ensures.entered c.lock.ensures.right c.in-Err.fault c.in-Err.is c.in-Err.ensures.refused c.lock.ensures.ends

pub undo_loser-requires-clause-made : goal.undo_loser-requires-clause-made
undo_loser-requires-clause-made g c =
    root_made g.N.Life.opens c.lock.new.pass.log c.lock.ensures.entered.now.consistent

pub returns-in-Err-undo_loser-clause-locks : goal.returns-in-Err-undo_loser-clause-locks
returns-in-Err-undo_loser-clause-locks g c =
    let grant : IsGrant g.N.Life.opens c.lock.new.pass.log c.loop.s.tx (held c.args.range.now c.args.mode) (grants.Loser c.in-Ok-Loser.loser) = subst (IsGrant g.N.Life.opens c.lock.new.pass.log c.loop.s.tx (held c.args.range.now c.args.mode)) c.in-Ok-Loser.field-0-is c.in-Ok-Loser.ensures.grant in
    locks_undo g.N.Life.opens g.N.Life.entries g.N.Life.session_entries g.N.Life.log_faults g.N.Life.made c.args.range.now c.args.mode (g.P.Pages.desk c.args.pages.now) (g.P.Pages.desk c.loop.pages) (g.J.Entering.account c.args.journal.now) (g.J.Entering.account c.loop.journal) (g.J.Entering.account c.lock.new.self) c.args.pass.now c.loop.pass c.lock.new.pass c.args.s.now c.loop.s c.lock.new.s c.loop.invariant.4 c.loop.invariant.5 c.loop.invariant.6 c.lock.result c.lock.ensures.entered c.lock.ensures.right c.in-Ok-Loser.loser (c.in-Ok-Loser.is ∙ (λ i. Ok (c.in-Ok-Loser.field-0-is i))) grant (g.P.Pages.desk c.undo_loser.new.pages) (g.J.Entering.account c.undo_loser.new.journal) c.undo_loser.new.pass c.undo_loser.ensures.gains c.in-Err-undo_loser.fault c.in-Err-undo_loser.ensures.refused

pub returns-in-Err-undo_loser-clause-live : goal.returns-in-Err-undo_loser-clause-live
returns-in-Err-undo_loser-clause-live g c =
    let grant : IsGrant g.N.Life.opens c.lock.new.pass.log c.loop.s.tx (held c.args.range.now c.args.mode) (grants.Loser c.in-Ok-Loser.loser) = subst (IsGrant g.N.Life.opens c.lock.new.pass.log c.loop.s.tx (held c.args.range.now c.args.mode)) c.in-Ok-Loser.field-0-is c.in-Ok-Loser.ensures.grant in
    live_undo g.N.Life.opens g.N.Life.entries g.N.Life.session_entries g.N.Life.log_faults g.N.Life.made c.args.range.now c.args.mode (g.P.Pages.desk c.args.pages.now) (g.P.Pages.desk c.loop.pages) (g.J.Entering.account c.args.journal.now) (g.J.Entering.account c.loop.journal) (g.J.Entering.account c.lock.new.self) c.args.pass.now c.loop.pass c.lock.new.pass c.args.s.now c.loop.s c.lock.new.s c.loop.invariant.4 c.loop.invariant.5 c.loop.invariant.6 c.lock.result c.lock.ensures.entered c.lock.ensures.right c.in-Ok-Loser.loser (c.in-Ok-Loser.is ∙ (λ i. Ok (c.in-Ok-Loser.field-0-is i))) grant (g.P.Pages.desk c.undo_loser.new.pages) (g.J.Entering.account c.undo_loser.new.journal) c.undo_loser.new.pass c.undo_loser.ensures.gains c.in-Err-undo_loser.fault c.in-Err-undo_loser.ensures.refused

pub returns-in-Err-undo_loser-clause-refused : goal.returns-in-Err-undo_loser-clause-refused
returns-in-Err-undo_loser-clause-refused g c =
    let grant : IsGrant g.N.Life.opens c.lock.new.pass.log c.loop.s.tx (held c.args.range.now c.args.mode) (grants.Loser c.in-Ok-Loser.loser) = subst (IsGrant g.N.Life.opens c.lock.new.pass.log c.loop.s.tx (held c.args.range.now c.args.mode)) c.in-Ok-Loser.field-0-is c.in-Ok-Loser.ensures.grant in
    refused_undo g.N.Life.opens g.N.Life.entries g.N.Life.session_entries g.N.Life.log_faults g.N.Life.made c.args.range.now c.args.mode (g.P.Pages.desk c.args.pages.now) (g.P.Pages.desk c.loop.pages) (g.J.Entering.account c.args.journal.now) (g.J.Entering.account c.loop.journal) (g.J.Entering.account c.lock.new.self) c.args.pass.now c.loop.pass c.lock.new.pass c.args.s.now c.loop.s c.lock.new.s c.loop.invariant.4 c.loop.invariant.5 c.loop.invariant.6 c.lock.result c.lock.ensures.entered c.lock.ensures.right c.in-Ok-Loser.loser (c.in-Ok-Loser.is ∙ (λ i. Ok (c.in-Ok-Loser.field-0-is i))) grant (g.P.Pages.desk c.undo_loser.new.pages) (g.J.Entering.account c.undo_loser.new.journal) c.undo_loser.new.pass c.undo_loser.ensures.gains c.in-Err-undo_loser.fault c.in-Err-undo_loser.ensures.refused c.lock.ensures.ends

pub loop-preserved : goal.loop-preserved
loop-preserved g c =
    let grant : IsGrant g.N.Life.opens c.lock.new.pass.log c.loop.s.tx (held c.args.range.now c.args.mode) (grants.Loser c.in-Ok-Loser.loser) = subst (IsGrant g.N.Life.opens c.lock.new.pass.log c.loop.s.tx (held c.args.range.now c.args.mode)) c.in-Ok-Loser.field-0-is c.in-Ok-Loser.ensures.grant in
    (tt, tt, c.undo_loser.ensures.none, c.undo_loser.ensures.reserved, right_kept g.N.Life.opens g.N.Life.entries g.N.Life.session_entries g.N.Life.log_faults g.N.Life.made c.args.range.now c.args.mode (g.P.Pages.desk c.args.pages.now) (g.P.Pages.desk c.loop.pages) (g.J.Entering.account c.args.journal.now) (g.J.Entering.account c.loop.journal) (g.J.Entering.account c.lock.new.self) c.args.pass.now c.loop.pass c.lock.new.pass c.args.s.now c.loop.s c.lock.new.s c.loop.invariant.4 c.loop.invariant.5 c.loop.invariant.6 c.lock.result c.lock.ensures.entered c.lock.ensures.right c.in-Ok-Loser.loser (c.in-Ok-Loser.is ∙ (λ i. Ok (c.in-Ok-Loser.field-0-is i))) grant, clears_then g.N.Life.opens g.N.Life.entries g.N.Life.session_entries g.N.Life.log_faults g.N.Life.made c.args.range.now c.args.mode (g.P.Pages.desk c.args.pages.now) (g.P.Pages.desk c.loop.pages) (g.J.Entering.account c.args.journal.now) (g.J.Entering.account c.loop.journal) (g.J.Entering.account c.lock.new.self) c.args.pass.now c.loop.pass c.lock.new.pass c.args.s.now c.loop.s c.lock.new.s c.loop.invariant.4 c.loop.invariant.5 c.loop.invariant.6 c.lock.result c.lock.ensures.entered c.lock.ensures.right c.in-Ok-Loser.loser (c.in-Ok-Loser.is ∙ (λ i. Ok (c.in-Ok-Loser.field-0-is i))) grant (g.P.Pages.desk c.undo_loser.new.pages) (g.J.Entering.account c.undo_loser.new.journal) c.undo_loser.new.pass c.undo_loser.ensures.gains, none_then (g.J.Entering.account c.args.journal.now) (g.J.Entering.account c.lock.new.self) (g.J.Entering.account c.undo_loser.new.journal) (none_looked g.N.Life.opens g.N.Life.entries g.N.Life.session_entries g.N.Life.log_faults g.N.Life.made c.args.range.now c.args.mode (g.P.Pages.desk c.args.pages.now) (g.P.Pages.desk c.loop.pages) (g.J.Entering.account c.args.journal.now) (g.J.Entering.account c.loop.journal) (g.J.Entering.account c.lock.new.self) c.args.pass.now c.loop.pass c.lock.new.pass c.args.s.now c.loop.s c.lock.new.s c.loop.invariant.4 c.loop.invariant.5 c.loop.invariant.6 c.lock.result c.lock.ensures.entered c.lock.ensures.right c.in-Ok-Loser.loser (c.in-Ok-Loser.is ∙ (λ i. Ok (c.in-Ok-Loser.field-0-is i))) grant c.lock.ensures.ends) c.in_default.ensures.open)
