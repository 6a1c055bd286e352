use Rattle.std.proofs.Common.{◌≡◌, Bool, true, false, Ok, ap, inl, inr, subst, sym, ◌∙◌}
use Rattle.page_ops.specs.Claims.{no_claims}
use Rattle.page_ops.specs.Hands.{Hand}
use Rattle.page_ops.specs.Seeing.{is_none, known}
use Rattle.buffer_pool.specs.Tables.{IsDropped, IsStored, is_dirty}
use Rattle.buffer_pool.specs.Writes.{EntersWritten, is_written, IsWrittenAs}
use Rattle.buffer_pool.proofs.Changes.{dropped, put_again, stored}
use Rattle.buffer_pool.proofs.Entering.{gains_none, looks}
use Rattle.buffer_pool.proofs.WrittenOut.{clean_writes, dropped_writes, stored_full, stored_writes}
use Rattle.buffer_pool.proofs.moving.store.Given.{Over}
use Rattle.buffer_pool.proofs.moving.store.Goals as goal

true_is : (b : Bool) (old new : Hand) → b ≡ true → IsWrittenAs (Ok b) old new → new ≡ record old { dirty = false }
true_is b old new is w = subst (λ (x : Bool). IsWrittenAs (Ok x) old new) is w

false_is : (b : Bool) (old new : Hand) → b ≡ false → IsWrittenAs (Ok b) old new → new ≡ old
false_is b old new is w = subst (λ (x : Bool). IsWrittenAs (Ok x) old new) is w

-- ---- a page that isn't dirty

pub returns-then-not-is_dirty-clause-writes : goal.returns-then-not-is_dirty-clause-writes
returns-then-not-is_dirty-clause-writes g c =
    clean_writes _ _ _ c.args.page tt _ _ c.args.frames.now c.args.frames.now (sym c.is_dirty.ensures ∙ c.if-not-is_dirty.true) (gains_none _ _ _ _ _ (looks _ _ _ is_none _ _ _ _ _ _ c.see.ensures.seen))

pub returns-then-not-is_dirty-clause-entered : goal.returns-then-not-is_dirty-clause-entered
returns-then-not-is_dirty-clause-entered g c = looks _ _ _ is_written _ _ _ _ _ _ c.see.ensures.seen

-- ---- a page that is written

is_stored : (g : Over) (c : goal.After-put g) → IsStored c.args.page c.in-Page.held c.args.frames.now c.put.new.self
is_stored g c =
    stored c.args.page c.in-Page.held c.args.frames.now c.try_take.new.self c.in-Page.ensures.taken.0 c.in-Page.ensures.taken.1 c.in-Page.ensures.inside c.in-Page.ensures.page c.write_page.new.held c.note_written.new.self c.put.new.self c.held.inside.lsn
    (true_is _ _ _ c.in-Ok-true.field-0-test c.in-Ok-true.ensures.written) c.note_written.ensures.same c.note_written.ensures.written
    (ap (λ (x : Hand). x.lsn) (c.held.view_is ∙ true_is _ _ _ c.in-Ok-true.field-0-test c.in-Ok-true.ensures.written)) c.put.ensures

pub returns-in-Ok-true-clause-stored : goal.returns-in-Ok-true-clause-stored
returns-in-Ok-true-clause-stored g c = inr (c.in-Page.held, inl (is_stored g c))

pub returns-in-Ok-true-clause-dropped : goal.returns-in-Ok-true-clause-dropped
returns-in-Ok-true-clause-dropped g c = inl (stored_full c.args.page c.in-Page.held c.args.frames.now c.put.new.self (is_stored g c))

pub returns-in-Ok-true-clause-writes : goal.returns-in-Ok-true-clause-writes
returns-in-Ok-true-clause-writes g c =
    stored_writes _ _ _ c.args.page tt _ _ c.in-Page.held c.args.frames.now c.put.new.self c.in-Page.ensures.page (sym (ap is_dirty c.in-Page.ensures.taken.0) ∙ sym c.is_dirty.ensures ∙ c.if-not-is_dirty.false) (is_stored g c)
    (subst
    (λ (b : Bool). EntersWritten g.N.Life.opens g.N.Life.entries g.N.Life.session_entries c.in-Page.held.page c.in-Page.held.lsn (Ok b) (known (g.J.Entering.account c.args.journal.now) c.args.pass.now no_claims) (known (g.J.Entering.account c.write_page.new.journal) c.write_page.new.pass no_claims))
    c.in-Ok-true.field-0-test c.in-Ok-true.ensures.enters)

-- ---- a page that is dropped

is_dropped : (g : Over) (c : goal.After-send_home g) → IsDropped c.args.page c.in-Page.held c.args.frames.now c.send_home.new.self
is_dropped g c =
    dropped c.args.page c.in-Page.held c.args.frames.now c.try_take.new.self c.in-Page.ensures.taken.0 c.in-Page.ensures.taken.1 c.in-Page.ensures.inside c.in-Page.ensures.page c.write_page.new.held c.send_home.new.self c.into_right.result
    (false_is _ _ _ c.in-Ok-false.field-0-test c.in-Ok-false.ensures.written) c.into_right.ensures.right c.send_home.ensures

pub returns-in-Ok-false-clause-stored : goal.returns-in-Ok-false-clause-stored
returns-in-Ok-false-clause-stored g c = inr (c.in-Page.held, inr (is_dropped g c))

pub returns-in-Ok-false-clause-writes : goal.returns-in-Ok-false-clause-writes
returns-in-Ok-false-clause-writes g c =
    dropped_writes _ _ _ c.args.page tt _ _ c.in-Page.held c.args.frames.now c.send_home.new.self c.in-Page.ensures.page (sym (ap is_dirty c.in-Page.ensures.taken.0) ∙ sym c.is_dirty.ensures ∙ c.if-not-is_dirty.false) (is_dropped g c)
    (subst
    (λ (b : Bool). EntersWritten g.N.Life.opens g.N.Life.entries g.N.Life.session_entries c.in-Page.held.page c.in-Page.held.lsn (Ok b) (known (g.J.Entering.account c.args.journal.now) c.args.pass.now no_claims) (known (g.J.Entering.account c.write_page.new.journal) c.write_page.new.pass no_claims))
    c.in-Ok-false.field-0-test c.in-Ok-false.ensures.enters)

-- ---- a write that is refused

pub returns-in-Err-clause-same : goal.returns-in-Err-clause-same
returns-in-Err-clause-same g c =
    put_again c.args.page c.in-Page.held c.args.frames.now c.try_take.new.self c.in-Page.ensures.taken.0 c.in-Page.ensures.taken.1 c.in-Page.ensures.inside c.in-Page.ensures.page c.write_page.new.held c.put-in-Err.new.self c.in-Err.ensures.written c.put-in-Err.ensures

pub returns-in-Err-clause-writes : goal.returns-in-Err-clause-writes
returns-in-Err-clause-writes g c = c.in-Err.ensures.enters.gains
