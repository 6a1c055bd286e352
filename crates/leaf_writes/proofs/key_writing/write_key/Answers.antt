use Rattle.std.proofs.Common.{ap, sym, subst, ◌∙◌}
use Rattle.std.specs.Prelude.{not, ◌&&◌}
use Rattle.front.proofs.Keeping.{prefix_trans}
use Rattle.wal_record.specs.State.{KeepsState}
use Rattle.foster_laws.specs.Purges.{has_tombstone}
use Rattle.page_ops.specs.Hands.{Hand}
use Rattle.leaf_writes.specs.KeyWrites.{has_room}
use Rattle.leaf_writes.proofs.KeyWritten.{answer_behind, declined_behind, desk_purged, ends_behind, full_behind, key_behind, owner_behind, purged_whole, still_may}
use Rattle.leaf_writes.proofs.Owners.{keeps_same}
use Rattle.leaf_writes.proofs.key_writing.write_key.Goals as goal

pub write_here-requires-2-clause-may : goal.write_here-requires-2-clause-may
write_here-requires-2-clause-may g c =
    still_may g.N.Life.opens c.args.pass.now.log c.see_owner.new.pass.log c.args.leaf.now.state c.purge.new.leaf.state c.args.change.now c.args.owner.now c.see_owner.new.owner (prefix_trans _ _ _ c.in_ok-purge.ensures.entered.enters.now.begins c.see_owner.ensures.seen.now.begins)
    c.see_owner.ensures.seen.now.consistent c.see_owner.ensures.seen.now.rights.s c.see_owner.ensures.same (subst (λ (h : Hand). KeepsState h.state) c.leaf.view_is c.leaf.invariant.keeps) c.requires.leaf c.in_ok-purge.ensures.purged.state c.requires.may

pub write_here-requires-2-clause-purged : goal.write_here-requires-2-clause-purged
write_here-requires-2-clause-purged g c =
    purged_whole c.args.change.now.key (has_room c.args.change.now c.purge.new.leaf.state) c.args.leaf.now.state c.purge.new.leaf.state (subst (λ (h : Hand). KeepsState h.state) c.leaf.view_is c.leaf.invariant.keeps) c.requires.leaf c.in_ok-purge.ensures.purged.state

pub returns-clause-written : goal.returns-clause-written
returns-clause-written g c =
    let room = ap (λ (h : Hand). has_room c.args.change.now h.state) (sym c.leaf.view_is) ∙ sym c.fits_with-fits.ensures ∙ c.if-fits.false in
    let some = ap (λ (h : Hand). has_tombstone h.state) (sym c.leaf.view_is) ∙ sym c.has_tombstone.ensures ∙ c.if-not-has_tombstone.false in
    key_behind g.N.Life.opens g.N.Life.entries g.N.Life.session_entries c.args.change.now c.args.leaf.now c.purge.new.leaf c.write_here-2.new.leaf c.args.pass.now c.purge.new.pass c.see_owner.new.pass c.write_here-2.new.pass
    _ _ _ _ _ _ _ _ _ _ _ _ c.in_ok-purge.field-0 (λ i. not (room i) && some i) c.in_ok-purge.ensures.purged c.in_ok-purge.ensures.entered c.see_owner.ensures.seen c.write_here-2.result c.args.owner.now c.see_owner.new.owner c.see_owner.ensures.same c.write_here-2.ensures.written

pub returns-clause-answer : goal.returns-clause-answer
returns-clause-answer g c =
    answer_behind g.N.Life.opens _ c.args.change.now c.args.owner.now c.see_owner.new.owner c.args.leaf.now.page c.purge.new.leaf.page c.write_here-2.result c.see_owner.ensures.same c.in_ok-purge.ensures.purged.page c.write_here-2.ensures.answer

pub returns-clause-full : goal.returns-clause-full
returns-clause-full g c =
    full_behind g.N.Life.opens _ c.args.change.now c.args.owner.now c.see_owner.new.owner c.args.leaf.now.page c.purge.new.leaf.page c.write_here-2.result c.see_owner.ensures.same c.in_ok-purge.ensures.purged.page c.write_here-2.ensures.full

pub returns-clause-ends : goal.returns-clause-ends
returns-clause-ends g c =
    ends_behind g.N.Life.opens g.N.Life.log_faults g.N.Life.made _ _ _ _ c.purge.new.pass.log c.write_here-2.new.pass.log c.in_ok-purge.field-0 c.write_here-2.result c.in_ok-purge.ensures.ends c.in_ok-purge.ensures.entered.enters.keeps c.see_owner.ensures.calm c.see_owner.ensures.seen.keeps c.write_here-2.ensures.ends

pub returns-clause-desk : goal.returns-clause-desk
returns-clause-desk g c =
    let room = ap (λ (h : Hand). has_room c.args.change.now h.state) (sym c.leaf.view_is) ∙ sym c.fits_with-fits.ensures ∙ c.if-fits.false in
    let some = ap (λ (h : Hand). has_tombstone h.state) (sym c.leaf.view_is) ∙ sym c.has_tombstone.ensures ∙ c.if-not-has_tombstone.false in
    desk_purged c.args.change.now c.args.leaf.now.state _ _ c.write_here-2.result c.purge.new.leaf.state (λ i. not (room i) && some i) c.in_ok-purge.ensures.purged.state c.write_here-2.ensures.desk

pub returns-clause-owner : goal.returns-clause-owner
returns-clause-owner g c = owner_behind c.write_here-2.result c.args.owner.now c.see_owner.new.owner c.write_here-2.new.owner c.see_owner.ensures.same c.write_here-2.ensures.owner

pub returns-in_err-purge-clause-owner : goal.returns-in_err-purge-clause-owner
returns-in_err-purge-clause-owner g c = keeps_same _ c.args.owner.now

pub returns-clause-declined : goal.returns-clause-declined
returns-clause-declined g c = declined_behind c.args.change.now c.args.owner.now c.see_owner.new.owner c.write_here-2.new.owner c.write_here-2.new.pass.log c.write_here-2.result c.see_owner.ensures.same c.write_here-2.ensures.declined
